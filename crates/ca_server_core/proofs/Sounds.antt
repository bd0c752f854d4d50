-- What holds of the records and the circuits of a server, after a call.
use Rattle.std.proofs.Common.{◌≡◌, ℕ, inl, inr, Bool, true, false, List, [], ◌∷◌, Some, Result, Ok, Err, refl, sym, ap, ◌∙◌, subst, arith}
use Rattle.ca_arena.specs.declared.handle.Handle.{Handle}
use Rattle.ca_link.specs.Link.{LinkState, with_given, with_handed}
use Rattle.ca_text.specs.declared.refusal.Refusal.{Refusal}
use Rattle.ca_text.specs.declared.refusal.Refusal.TheVariants as refusal
use Rattle.ca_model.specs.Ends.{Why}
use Rattle.ca_server_core.specs.Circuits.{AreLive, GivesIn, OpensIn, SendsIn}
use Rattle.ca_server_circuit.specs.Circuits.{GivesAt, SendsAt}
use Rattle.ca_ids.specs.Table.{MayGive, Table, same_handle, under, with_changed, with_held}
use Rattle.ca_queue.specs.Queue.{no_queue}
use Rattle.ca_records.specs.Puts.{Record, WaitingPut, new_record}
use Rattle.std.specs.Prelude.{map}
use Rattle.ca_records.specs.Record.{RecordState}
use Rattle.ca_text.specs.Place.{At}
use Rattle.ca_text.proofs.Places.{At-mapped, At-within, some_is}
use Rattle.ca_model.specs.Server.{Ended, Open, OpenChannel, Server, ServerCircuit, ServerEnd, Subscription, new_end}
use Rattle.ca_model.specs.ServerSteps.{Accepts}
use Rattle.ca_server_circuit.specs.Sound.{EndIsSound}
use Rattle.ca_server_core.specs.Sound.{IsSound}
use Rattle.ca_server_circuit.proofs.Cleared.{is-same, same-is}
use Rattle.ca_server_circuit.proofs.Tables.{changed-back, changed-other, changed-own, given-none, held-back, held-other, place, under-at}

abbrev Circuits : Type 0
Circuits = Table ServerCircuit

open-is : (a b : ServerEnd) → Open a ≡ Open b → a ≡ b
open-is a b e = cc

no-channel : (h : Handle) (c : OpenChannel) → (let none : Table OpenChannel = [] in under none h ≡ Some c) → ⊥
no-channel h c is =
    let none : Table OpenChannel = [] in
    let lt = At-within none h.index (place h c) (under-at none h c is) in
    absurd (omega (arith, lt))

no-subscription : (s : Subscription) (k : ℕ) → (let none : List Subscription = [] in At none k s) → ⊥
no-subscription s k at = cc

-- a circuit was accepted
pub sound-accepted : (rs : List Record) (t : Circuits) (h : Handle) (now : ℕ) → IsSound rs t → MayGive t h → IsSound rs (with_held h (Open (new_end now)) t)
sound-accepted rs t h now i may = record {
  ends = λ g e at. elim (held-back t g h (Open (new_end now)) (Open e) at) [
    | inl own ↦ subst (λ (x : ServerEnd). EndIsSound rs g x) (sym (open-is e (new_end now) own.1)) (fresh g own.0)
    | inr old ↦ i.ends g e old
  ];
  waits = λ j r k w at at'. (let there = i.waits j r k w at at' in (there.0, held-other t w.put.circuit h (Open (new_end now)) (Open there.0) may there.1));
}
  where
    fresh : (g : Handle) → g ≡ h → EndIsSound rs g (new_end now)
    fresh g own = record {
      live = refl;
      room = λ few. (0, no_queue, (refl, omega arith, (λ i q less at. absurd (omega (arith, less)))));
      few = omega arith;
      on = λ s i. absurd (no-subscription s i.0 i.1);
      served = λ c o at. absurd (no-channel c o at);
      puts = λ j r k w at at' hit.
          let there = i.waits j r k w at at' in
          let one : w.put.circuit ≡ h = same-is w.put.circuit g hit ∙ own in
          absurd (given-none t w.put.circuit h (Open there.0) may there.1 (ap (λ (x : Handle). x.index) one));
    }

-- an open end became another that is sound
pub sound-changed : (rs : List Record) (t : Circuits) (h : Handle) (e new : ServerEnd) → IsSound rs t → under t h ≡ Some (Open e) → EndIsSound rs h new → IsSound rs (with_changed (λ (c : ServerCircuit). Open new) h t)
sound-changed rs t h e new i there sound = record {
  ends = λ g x at. elim (changed-back (λ (c : ServerCircuit). Open new) t g h (Open x) at) [
    | inl own ↦
        let same : x ≡ new = open-is x new own.1.2 in
        subst (λ (y : ServerEnd). EndIsSound rs g y) (sym same) (subst (λ (k : Handle). EndIsSound rs k new) (sym own.0) sound)
    | inr old ↦ i.ends g x old.1
  ];
  waits = λ j r k w at at'. (let old = i.waits j r k w at at' in kept w.put.circuit old.0 old.1 (same_handle w.put.circuit h) refl);
}
  where
    both : (b : Bool) → b ≡ true → b ≡ false → ⊥
    both b p q = cc

    kept : (g : Handle) (x : ServerEnd) → under t g ≡ Some (Open x) → (b : Bool) → same_handle g h ≡ b → (y : ServerEnd) × (under (with_changed (λ (c : ServerCircuit). Open new) h t) g ≡ Some (Open y))
    kept g x at true hit = (new, subst (λ (k : Handle). under (with_changed (λ (c : ServerCircuit). Open new) h t) k ≡ Some (Open new)) (sym (same-is g h hit)) (changed-own (λ (c : ServerCircuit). Open new) t h (Open e) there))
    kept g x at false miss = (x, changed-other (λ (c : ServerCircuit). Open new) t g h (Open x) at (λ one. both (same_handle g h) (is-same g h one) miss))

-- a circuit was to be accepted
pub sound-opened : (rs : List Record) (t after : Circuits) (now : ℕ) (c : ServerCircuit) (r : Result Handle Refusal) → IsSound rs t → c ≡ Open (new_end now) → OpensIn t c r after → IsSound rs after
sound-opened rs t after now c (Ok h) i is g =
    subst (λ (x : Circuits). IsSound rs x) (sym (g.1 ∙ ap (λ (x : ServerCircuit). with_held h x t) is)) (sound-accepted rs t h now i g.0)
sound-opened rs t after now c (Err refusal.ArenaFull) i is g = subst (λ (x : Circuits). IsSound rs x) (sym g.1) i
sound-opened rs t after now c (Err refusal.OutOfMemory) i is g = subst (λ (x : Circuits). IsSound rs x) (sym g.1) i
sound-opened rs t after now c (Err _) i is g = absurd g

pub accepts : (v y : Server) (after : Circuits) (c : ServerCircuit) (r : Result Handle Refusal) → v ≡ y → c ≡ Open (new_end v.moment) → OpensIn v.circuits c r after → (let new : Server = record v { circuits = after } in Accepts y r new)
accepts v y after c r same is g = (let new : Server = record v { circuits = after } in subst (λ (x : Server). Accepts x r new) same (by r g))
  where
    at : (t : Circuits) → after ≡ t → (let new : Server = record v { circuits = after } in new) ≡ (let new : Server = record v { circuits = t } in new)
    at t e = ap (λ (x : Circuits). let new : Server = record v { circuits = x } in new) e

    by : (r : Result Handle Refusal) → OpensIn v.circuits c r after → (let new : Server = record v { circuits = after } in Accepts v r new)
    by (Ok h) g = (g.0, at (with_held h (Open (new_end v.moment)) v.circuits) (g.1 ∙ ap (λ (x : ServerCircuit). with_held h x v.circuits) is))
    by (Err refusal.ArenaFull) g = (g.0, at v.circuits g.1)
    by (Err refusal.OutOfMemory) g = (g.0, at v.circuits g.1)
    by (Err _) g = absurd g

-- ---- bytes come and go

-- an end whose link alone changed is as sound as before
pub relinked-sound : (rs : List Record) (h : Handle) (e : ServerEnd) (l : LinkState) → l.input.closed ≡ false → EndIsSound rs h e → (let new : ServerEnd = record e { link = l } in EndIsSound rs h new)
relinked-sound rs h e l live i = record { live = live; room = i.room; served = i.served; puts = i.puts; on = i.on; few = i.few }

given-live : (now : ℕ) (bytes : List ℕ) (l : LinkState) → l.input.closed ≡ false → (with_given now bytes l).input.closed ≡ false
given-live now [] l live = live
given-live now (b ∷ bytes) l live = live

-- nothing changes where nothing is changed
changed-same : (t : Circuits) (h : Handle) (e : ServerEnd) → under t h ≡ Some (Open e) → (rs : List Record) → IsSound rs t → IsSound rs (with_changed (λ (c : ServerCircuit). Open e) h t)
changed-same t h e at rs i = sound-changed rs t h e e i at (i.ends h e at)

pub ended-sound : (rs : List Record) (t : Circuits) (h : Handle) (w : Why) (was left : List ℕ) → IsSound rs t → under t h ≡ Some (Ended w was) → IsSound rs (with_changed (λ (c : ServerCircuit). Ended w left) h t)
ended-sound rs t h w was left i at = record {
  ends = λ g x there. elim (changed-back (λ (c : ServerCircuit). Ended w left) t g h (Open x) there) [
    | inl own ↦ absurd (not-ended x w left own.1.2)
    | inr old ↦ i.ends g x old.1
  ];
  waits = λ j r k p there there'. (let old = i.waits j r k p there there' in (old.0, changed-other (λ (c : ServerCircuit). Ended w left) t p.put.circuit h (Open old.0) old.1 (λ one. not-both (Open old.0) (Ended w was) (sym old.1 ∙ ap (λ (x : Handle). under t x) one ∙ at) old.0 w was refl refl)));
}
  where
    not-ended : (x : ServerEnd) (v : Why) (l : List ℕ) → Open x ≡ Ended v l → ⊥
    not-ended x v l e = cc

    not-both : (a b : ServerCircuit) → Some a ≡ Some b → (x : ServerEnd) (v : Why) (l : List ℕ) → a ≡ Open x → b ≡ Ended v l → ⊥
    not-both a b e x v l p q = not-ended x v l (sym p ∙ some_is a b e ∙ q)

pub sound-given : (rs : List Record) (t after : Circuits) (h : Handle) (now : ℕ) (bytes : List ℕ) (r : Result (Unit {0}) Refusal) → IsSound rs t → GivesIn t h now bytes r after → IsSound rs after
sound-given rs t after h now bytes r i (inr none) = subst (λ (x : Circuits). IsSound rs x) (sym none.2) i
sound-given rs t after h now bytes r i (inl g) = by g.0 g.1 r g.2 g.3 g.4
  where
    at : (new : ServerCircuit) (x : ServerCircuit) → new ≡ x → after ≡ with_changed (λ (c : ServerCircuit). new) h t → IsSound rs (with_changed (λ (c : ServerCircuit). x) h t) → IsSound rs after
    at new x is changed s = subst (λ (y : Circuits). IsSound rs y) (sym (changed ∙ ap (λ (y : ServerCircuit). with_changed (λ (c : ServerCircuit). y) h t) is)) s

    by : (c new : ServerCircuit) (r : Result (Unit {0}) Refusal) → under t h ≡ Some c → GivesAt now bytes c r new → after ≡ with_changed (λ (x : ServerCircuit). new) h t → IsSound rs after
    by (Open e) new (Ok u) there did changed =
        at new (Open (record e { link = with_given now bytes e.link })) did changed
        (sound-changed rs t h e (record e { link = with_given now bytes e.link }) i there (relinked-sound rs h e (with_given now bytes e.link) (given-live now bytes e.link (i.ends h e there).live) (i.ends h e there)))
    by (Open e) new (Err refusal.OutOfMemory) there did changed = at new (Open e) did.1 changed (changed-same t h e there rs i)
    by (Open e) new (Err _) there did changed = absurd did
    by (Ended w left) new r there did changed = at new (Ended w left) did.1 changed (ended-sound rs t h w left left i there)

pub sound-sent : (rs : List Record) (t after : Circuits) (h : Handle) (n : ℕ) → IsSound rs t → SendsIn t h n after → IsSound rs after
sound-sent rs t after h n i (inr none) = subst (λ (x : Circuits). IsSound rs x) (sym none.1) i
sound-sent rs t after h n i (inl g) = by g.0 g.1 g.2 g.3 g.4
  where
    at : (new : ServerCircuit) (x : ServerCircuit) → new ≡ x → after ≡ with_changed (λ (c : ServerCircuit). new) h t → IsSound rs (with_changed (λ (c : ServerCircuit). x) h t) → IsSound rs after
    at new x is changed s = subst (λ (y : Circuits). IsSound rs y) (sym (changed ∙ ap (λ (y : ServerCircuit). with_changed (λ (c : ServerCircuit). y) h t) is)) s

    by : (c new : ServerCircuit) → under t h ≡ Some c → SendsAt n c new → after ≡ with_changed (λ (x : ServerCircuit). new) h t → IsSound rs after
    by (Open e) new there did changed =
        at new (Open (record e { link = with_handed n e.link })) did changed
        (sound-changed rs t h e (record e { link = with_handed n e.link }) i there (relinked-sound rs h e (with_handed n e.link) (i.ends h e there).live (i.ends h e there)))
    by (Ended w left) new there did changed = at new (Ended w left) did changed (ended-sound rs t h w left left i there)

-- each circuit is live
pub sound-live : (rs : List Record) (t : Circuits) → IsSound rs t → AreLive t
sound-live rs t i h (Open e) at = (i.ends h e at).live
sound-live rs t i h (Ended w left) at = tt

-- a server begins
no-circuit : (h : Handle) (c : ServerCircuit) → (let none : Circuits = [] in under none h ≡ Some c) → ⊥
no-circuit h c is =
    let none : Circuits = [] in
    let lt = At-within none h.index (place h c) (under-at none h c is) in
    absurd (omega (arith, lt))

pub sound-new : (rs : List Record) (states : List RecordState) → rs ≡ map new_record states → IsSound rs []
sound-new rs states is =
    record {
      ends = λ h e at. absurd (no-circuit h (Open e) at);
      waits = λ j r k w at at'.
          let m = At-mapped new_record states j r (subst (λ (xs : List Record). At xs j r) is at) in
          absurd (nothing-waits k w (subst (λ (x : Record). At x.waiting k w) m.2 at'));
    }
  where
    nothing-waits : (k : ℕ) (w : WaitingPut) → (let none : List WaitingPut = [] in At none k w) → ⊥
    nothing-waits k w at = cc
