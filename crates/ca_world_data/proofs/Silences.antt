-- Ends at a client that fell silent, one after another.
use Rattle.std.proofs.Common.{◌≡◌, ℕ, zero, suc, ◌+◌, ◌≤◌, Bool, true, false, List, [], ◌∷◌, ◌++◌, Option, Some, None, eqb, length, refl, sym, ap, subst, ◌∙◌, arith}
use Rattle.std.specs.Prelude.{◌&&◌, MatchOption, cond, find, map, option_map, slice_set, unwrap_or, Vec}
use Rattle.std.proofs.lemmas.Bool.{eq-eqb, eqb-true}
use Rattle.std.proofs.lemmas.List.{append-nil, append_assoc, length-append, map-append}
use Rattle.std.specs.declared.alloc.Global.{Global}
use Rattle.ca_arena.specs.declared.handle.Handle.{Handle}
use Rattle.ca_ids.specs.Table.{same_handle}
use Rattle.ca_text.specs.Place.{At}
use Rattle.ca_text.proofs.Places.{At-map, At-mapped, At-one}
use Rattle.ca_client_core.specs.declared.ticking.Left.{Left as Silent}
use Rattle.ca_client_core.specs.Ticked.{left_of, lefts_of, notices_of}
use Rattle.ca_model.specs.Answers.{Left, Notice}
use Rattle.ca_model.specs.History as history
use Rattle.ca_model.specs.ClientEvents.{after_tick, client_closed, line_of, lines_of}
use Rattle.ca_model.specs.World.{Joined, Names, grown}
use Rattle.ca_model.proofs.Handles.{same-is, same-itself}
use Rattle.ca_world_data.specs.declared.history.Line.{Line}
use Rattle.ca_world_data.specs.declared.joined.Joined.{Joined as Opened}
use Rattle.ca_world_data.specs.Found.{AreNumbered, IsAt, IsNowhere}
use Rattle.ca_world_data.specs.Logs.{HasRoom}
use Rattle.ca_world_data.specs.Seen.{joined_of}
use Rattle.ca_world_data.specs.Silencing.{EndsAt, silenced}
use Rattle.ca_world_data.proofs.Indexes.{KeepsEnds, one-at-client}
use Rattle.ca_world_data.proofs.Sendings.{map-one}
use Rattle.ca_world_data.proofs.Worlds.{set-map}

-- ---- circuits

-- the numbers of a client are right, whatever closes
pub numbered-map : (i : ℕ) (numbers : List ℕ) (ks : List Joined) (f : Joined → Joined) → ((j : Joined) → KeepsEnds j (f j)) → AreNumbered numbers ks i → AreNumbered numbers (map f ks) i
numbered-map i numbers ks f keeps h k j there mine on =
    let d = At-mapped f ks k j there in
    let e : KeepsEnds d.0 j = subst (λ (z : Joined). KeepsEnds d.0 z) (sym d.2) (keeps d.0) in
    subst (λ (z : Handle). At numbers z.index k) (sym e.at_client) (h k d.0 d.1 (sym e.client ∙ mine) (e.closes on))

pub silenced-keeps : (i : ℕ) (l : Left) (j : Joined) → KeepsEnds j (silenced i l j)
silenced-keeps i l j = go (eqb j.client i && j.lists.client_open) (same_handle l.circuit j.at_client)
  where
    go : (a b : Bool) → KeepsEnds j (cond a (cond b (client_closed l.bytes j) j) j)
    go true true = record { client = refl; server = refl; at_client = refl; at_server = refl; closes = λ on. absurd cc; stops = λ on. on }
    go true false = record { client = refl; server = refl; at_client = refl; at_server = refl; closes = λ on. on; stops = λ on. on }
    go false b = record { client = refl; server = refl; at_client = refl; at_server = refl; closes = λ on. on; stops = λ on. on }

-- ---- one end

module _ (i : ℕ) (l : Left) where
  -- it is of this circuit
  silent-here : (j : Joined) → j.client ≡ i → j.lists.client_open ≡ true → j.at_client ≡ l.circuit → silenced i l j ≡ client_closed l.bytes j
  silent-here j mine on here = go (eqb j.client i) j.lists.client_open (same_handle l.circuit j.at_client) (eq-eqb j.client i mine) on (ap (λ (h : Handle). same_handle h j.at_client) (sym here) ∙ same-itself j.at_client)
    where
      go : (a b c : Bool) → a ≡ true → b ≡ true → c ≡ true → cond (a && b) (cond c (client_closed l.bytes j) j) j ≡ client_closed l.bytes j
      go true true true p q r = refl
      go true true false p q r = absurd cc
      go true false c p q r = absurd cc
      go false b c p q r = absurd cc

  -- it is of another
  silent-elsewhere : (j : Joined) → (j.client ≡ i → j.lists.client_open ≡ true → j.at_client ≡ l.circuit → ⊥) → silenced i l j ≡ j
  silent-elsewhere j other = go (eqb j.client i) j.lists.client_open (same_handle l.circuit j.at_client) refl refl refl
    where
      go : (a b c : Bool) → eqb j.client i ≡ a → j.lists.client_open ≡ b → same_handle l.circuit j.at_client ≡ c → cond (a && b) (cond c (client_closed l.bytes j) j) j ≡ j
      go true true true p q r = absurd (other (eqb-true j.client i p) q (sym (same-is l.circuit j.at_client r)))
      go true true false p q r = refl
      go true false c p q r = refl
      go false b c p q r = refl

  silent-nowhere : (ks : List Joined) → IsNowhere ks i l.circuit → map (silenced i l) ks ≡ ks
  silent-nowhere [] none = refl
  silent-nowhere (j ∷ ks) none = λ t. silent-elsewhere j (none 0 j refl) t ∷ silent-nowhere ks (λ k d at. none (suc k) d at) t

  silent-one : (numbers : List ℕ) (ks : List Joined) → AreNumbered numbers ks i → (k : ℕ) (a : IsAt ks i l.circuit k) → map (silenced i l) ks ≡ slice_set ks k (client_closed l.bytes a.j)
  silent-one numbers ks h k a =
      map-one (silenced i l) ks k a.j a.at others ∙ ap (slice_set ks k) (silent-here a.j a.mine a.is_open a.here)
    where
      others : (m : ℕ) (y : Joined) → At ks m y → (m ≡ k → ⊥) → silenced i l y ≡ y
      others m y there apart =
          silent-elsewhere y (λ mine on here. apart (one-at-client numbers ks i h m k y a.j there a.at mine a.mine on a.is_open (here ∙ sym a.here)))

  -- the end of the circuit that was found has ended
  pub silent-by : (numbers : List ℕ) (circuit : Option ℕ) (ks ks' : List Joined) → AreNumbered numbers ks i → MatchOption circuit (IsNowhere ks i l.circuit) (IsAt ks i l.circuit) → EndsAt circuit l.bytes ks ks' → ks' ≡ map (silenced i l) ks
  silent-by numbers None ks ks' h by ends = ends ∙ sym (silent-nowhere ks by)
  silent-by numbers (Some k) ks ks' h by ends = ends by.j by.at ∙ sym (silent-one numbers ks h k by)

  -- ---- and then the others

  one-next : (ls : List Left) (j : Joined) → after_tick i ls (silenced i l j) ≡ after_tick i (l ∷ ls) j
  one-next ls j = go (eqb j.client i) j.lists.client_open (same_handle l.circuit j.at_client) refl refl
    where
      rest : Option (List ℕ) → Joined
      rest o = unwrap_or (option_map (λ (left : List ℕ). client_closed left j) o) j

      found : Option Left
      found = find (λ (m : Left). same_handle m.circuit j.at_client) ls

      go : (a b c : Bool) → eqb j.client i ≡ a → j.lists.client_open ≡ b
          → after_tick i ls (cond (a && b) (cond c (client_closed l.bytes j) j) j) ≡ cond (a && b) (rest (option_map (λ (m : Left). m.bytes) (cond c (Some l) found))) j
      go true true true p q = rw p refl
      go true true false p q = ap (λ (z : Bool). cond z (rest (option_map (λ (m : Left). m.bytes) found)) j) ((λ t. p t && q t))
      go true false c p q = ap (λ (z : Bool). cond z (rest (option_map (λ (m : Left). m.bytes) found)) j) ((λ t. p t && q t))
      go false b c p q = ap (λ (z : Bool). cond (z && j.lists.client_open) (rest (option_map (λ (m : Left). m.bytes) found)) j) p

  pub silent-next : (ls : List Left) (ks : List Joined) → map (after_tick i ls) (map (silenced i l) ks) ≡ map (after_tick i (l ∷ ls)) ks
  silent-next ls [] = refl
  silent-next ls (j ∷ ks) = λ t. one-next ls j t ∷ silent-next ls ks t

-- none has ended
pub silent-none : (i : ℕ) (ks : List Joined) → map (after_tick i []) ks ≡ ks
silent-none i [] = refl
silent-none i (j ∷ ks) = λ t. go (eqb j.client i && j.lists.client_open) t ∷ silent-none i ks t
  where
    go : (a : Bool) → cond a j j ≡ j
    go true = refl
    go false = refl

-- ---- the circuits that are kept

pub ends-at : (ks : List Opened) (k : ℕ) (j new : Opened) (left : List ℕ) → At ks k j → joined_of new ≡ client_closed left (joined_of j) → EndsAt (Some k) left (map joined_of ks) (map joined_of (slice_set ks k new))
ends-at ks k j new left at is i there =
    let same : i ≡ joined_of j = At-one (map joined_of ks) k i (joined_of j) there (At-map joined_of ks k j at) in
    set-map joined_of ks k new ∙ ap (slice_set (map joined_of ks) k) (is ∙ ap (client_closed left) (sym same))

-- ---- logs

-- a log that grows twice
pub grown-twice : {A : Type 0} (life : ℕ) (more rest : List A) (logs : List (List A)) → grown life rest (grown life more logs) ≡ grown life (more ++ rest) logs
grown-twice life more rest [] = refl
grown-twice zero more rest (log ∷ logs) = ap (λ (z : List _). z ∷ logs) (append_assoc log more rest)
grown-twice (suc life) more rest (log ∷ logs) = ap (λ (z : List (List _)). log ∷ z) (grown-twice life more rest logs)

-- one that grows by nothing
pub grown-nil : {A : Type 0} (life : ℕ) (logs : List (List A)) → grown life [] logs ≡ logs
grown-nil life [] = refl
grown-nil zero (log ∷ logs) = ap (λ (z : List _). z ∷ logs) (append-nil log)
grown-nil (suc life) (log ∷ logs) = ap (λ (z : List (List _)). log ∷ z) (grown-nil life logs)

-- lines for notices that were told one after another
pub lines-twice : (about : history.Intent) (n : Names) (life : ℕ) (first rest : List Notice) (logs : List (List history.Line))
    → grown life (lines_of about n rest) (grown life (lines_of about n first) logs) ≡ grown life (lines_of about n (first ++ rest)) logs
lines-twice about n life first rest logs =
    grown-twice life (lines_of about n first) (lines_of about n rest) logs
    ∙ ap (λ (z : List history.Line). grown life z logs) (sym (map-append (line_of about n) first rest))

-- what left nothing told nothing
pub nothing-told : (ls : List Silent) → lefts_of ls ≡ [] → notices_of ls ≡ []
nothing-told [] none = refl
nothing-told (l ∷ ls) none = absurd (let bad : left_of l ∷ lefts_of ls ≡ [] = none in cc)

-- ---- room

-- room for more is room for fewer
pub room-fewer : (m n life : ℕ) (logs : List (Vec Line Global)) → n ≤ m → HasRoom m life logs → HasRoom n life logs
room-fewer m n life logs le room log at = (let r = room log at in omega (arith, le, r))

-- room for lines, if there are any, is room for them
pub room-some : (some : Bool) (n life : ℕ) (logs : List (Vec Line Global)) → (some ≡ true → HasRoom n life logs) → (some ≡ false → n ≡ 0) → HasRoom n life logs
room-some true n life logs room none = room refl
room-some false n life logs room none = λ log at. (let no = none refl in omega (arith, no, log.ok.1))

-- room for what two tell is room for what the first tells, and then for what the other does
pub room-first : (first rest : List Notice) (life : ℕ) (logs : List (Vec Line Global)) → HasRoom (length (first ++ rest)) life logs → HasRoom (length first) life logs
room-first first rest life logs = room-fewer (length (first ++ rest)) (length first) life logs (let e = length-append first rest in omega (arith, e))

pub room-both : (first rest : List Notice) (life : ℕ) (logs : List (Vec Line Global)) → HasRoom (length (first ++ rest)) life logs → HasRoom (length first + length rest) life logs
room-both first rest life logs = room-fewer (length (first ++ rest)) (length first + length rest) life logs (let e = length-append first rest in omega (arith, e))
