-- Memory for the updates that wait, made one after another.
use Rattle.std.proofs.Common.{◌≡◌, ℕ, ◌+◌, ◌<◌, ◌≤◌, inl, inr, List, [], ◌∷◌, ◌++◌, Option, Some, length, sym, ap, subst, ◌∙◌, arith}
use Rattle.std.specs.Prelude.{Vec, option_and_then, slice_get, unwrap_or, vec_capacity}
use Rattle.std.specs.declared.alloc.Global.{Global}
use Rattle.std.proofs.Math.Nat.{eq-or-lt_of_le}
use Rattle.ca_arena.specs.declared.handle.Handle.{Handle}
use Rattle.ca_ids.specs.Table.{under}
use Rattle.ca_queue.specs.declared.entry.SubKey.{SubKey}
use Rattle.ca_queue.specs.Circuit.{entry_in}
use Rattle.ca_queue.specs.Queue.{Queue}
use Rattle.ca_text.specs.Place.{At}
use Rattle.ca_text.proofs.Places.{At-append, At-last}
use Rattle.ca_model.specs.Server.{Open, Server, ServerCircuit, ServerEnd, key_of}
use Rattle.ca_model.specs.ServerSteps.{HasEnd}
use Rattle.ca_model.specs.Speech.{Stored}
use Rattle.ca_server_core.specs.ForHistories.{SizesUnder}
use Rattle.ca_world_data.specs.Updates.{IsRoomFor}

-- one more was put after those that were made
pub more-at : {A : Type 0} (P : ℕ → A → Type 0) (xs : List A) (x : A) (n : ℕ) → length xs ≡ n → ((i : ℕ) → i < n → (a : A) × At xs i a × P i a) → P n x → (i : ℕ) → i < n + 1 → (a : A) × At (xs ++ x ∷ []) i a × P i a
more-at P xs x n long before here i lt =
    elim (eq-or-lt_of_le (let le : i ≤ n = omega (arith, lt) in le)) [
      | inl same ↦ (x, subst (λ (k : ℕ). At (xs ++ x ∷ []) k x) (long ∙ sym same) (At-last xs x), subst (λ (k : ℕ). P k x) (sym same) here)
      | inr less ↦ (let b = before i less in (b.0, At-append xs (x ∷ []) i b.0 b.1, b.2))
    ]

-- the size that the core tells suffices
pub fits-room : (y : Server) (h : Handle) (e : ServerEnd) (q : Queue Stored) (place index : ℕ) (size : Option ℕ) (w : SubKey × Stored) (room : Vec ℕ Global) → HasEnd y h e → At e.queues place q → At q.waiting index w
    → SizesUnder (under y.circuits h) place index size → room.items ≡ [] → unwrap_or size 0 ≤ vec_capacity room → IsRoomFor e w room
fits-room y h e q place index size w room has at waits sizes empty wide = record {
  empty = empty;
  fits = λ s m there key shows.
      let told : SizesUnder (Some (Open e)) place index size = subst (λ (o : Option ServerCircuit). SizesUnder o place index size) has sizes in
      let entry : entry_in e.queues place index ≡ Some (key_of s, w.1) =
      ap (option_and_then (λ (r : Queue Stored). slice_get r.waiting index)) at ∙ waits ∙ ap (λ (k : SubKey). let o : Option (SubKey × Stored) = Some (k, w.1) in o) (sym key) in
      let n = told s w.1 (there, entry) in
      let is : unwrap_or size 0 ≡ n.0 = ap (λ (o : Option ℕ). unwrap_or o 0) n.1 in
      let within : length m.payload ≤ n.0 = n.2 m shows in
      omega (arith, is, within, wide);
}
