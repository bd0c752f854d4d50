-- A server by its parts, and what ends on it.
use Rattle.std.proofs.Common.{◌≡◌, ℕ, zero, suc, inl, inr, cond, List, [], ◌∷◌, Option, Some, None, is_some, slice_set, refl, sym, ap, ◌∙◌, subst}
use Rattle.std.specs.Prelude.{option_map}
use Rattle.ca_arena.specs.declared.handle.Handle.{Handle}
use Rattle.ca_arena.specs.Arena.{Place}
use Rattle.ca_beacon.specs.Clock.{Clock}
use Rattle.ca_ids.specs.Table.{Table, under, with_changed, with_freed}
use Rattle.ca_records.specs.declared.puts.Stamp.{Stamp}
use Rattle.ca_records.specs.Puts.{Record}
use Rattle.ca_records.specs.Rules.{Rule}
use Rattle.ca_records.specs.Store.{Store, records_of}
use Rattle.ca_text.proofs.Places.{some_is}
use Rattle.ca_model.specs.Ends.{Why}
use Rattle.ca_model.specs.Ends as why
use Rattle.ca_model.specs.Server.{Ended, Open, Server, ServerCircuit, ServerEnd}
use Rattle.ca_model.specs.ServerSteps.{Cuts}
use Rattle.ca_server_circuit.specs.Ending.{EndsAt}
use Rattle.ca_server_core.specs.Ending.{EndsIn}
use Rattle.ca_server_core.specs.Sound.{IsSound}
use Rattle.ca_server_core.proofs.Closing.{not-ended, sound-ended}
use Rattle.ca_server_core.proofs.Moves.{changed-nothing}
use Rattle.ca_server_circuit.proofs.Tables.{changed-own}

-- the server of these parts
abbrev pub made_of : ℕ → List Rule → List Record → Stamp → ℕ → Table ServerCircuit → Clock → ℕ → Server
made_of port rules rs stamp now t b n = record {
  port = port;
  rules = rules;
  records = rs;
  stamp = stamp;
  moment = now;
  circuits = t;
  beacons = b;
  applied = n;
}

abbrev pub server_of : ℕ → Store → ℕ → Table ServerCircuit → Clock → ℕ → Server
server_of port s now t b n = made_of port s.rules (records_of s) s.stamp now t b n

-- servers of the same parts
pub same-parts : (port now : ℕ) (b : Clock) (r r' : List Rule) (rs rs' : List Record) (p p' : Stamp) (t t' : Table ServerCircuit) (n n' : ℕ) → r ≡ r' → rs ≡ rs' → p ≡ p' → t ≡ t' → n ≡ n' → made_of port r rs p now t b n ≡ made_of port r' rs' p' now t' b n'
same-parts port now b r r' rs rs' p p' t t' n n' er ers ep et en =
    ap (λ (x : List Rule). made_of port x rs p now t b n) er
    ∙ ap (λ (x : List Record). made_of port r' x p now t b n) ers
    ∙ ap (λ (x : Stamp). made_of port r' rs' x now t b n) ep
    ∙ ap (λ (x : Table ServerCircuit). made_of port r' rs' p' now x b n) et
    ∙ ap (λ (x : ℕ). made_of port r' rs' p' now t' b x) en

-- the circuit of a handle became this one
pub became : (t after : Table ServerCircuit) (h : Handle) (c d : ServerCircuit) → after ≡ with_changed (λ (x : ServerCircuit). c) h t → c ≡ d → after ≡ with_changed (λ (x : ServerCircuit). d) h t
became t after h c d is same = is ∙ ap (λ (x : ServerCircuit). with_changed (λ (z : ServerCircuit). x) h t) same

-- the circuit of a handle is as it was
pub stayed : (t after : Table ServerCircuit) (h : Handle) (c d : ServerCircuit) → under t h ≡ Some d → after ≡ with_changed (λ (x : ServerCircuit). c) h t → c ≡ d → after ≡ t
stayed t after h c d there is same = became t after h c d is same ∙ changed-nothing t h d there

-- ---- a circuit that ended is freed

set-set : {A : Type 0} (xs : List A) (i : ℕ) (x y : A) → slice_set (slice_set xs i x) i y ≡ slice_set xs i y
set-set [] i x y = refl
set-set (z ∷ xs) zero x y = refl
set-set (z ∷ xs) (suc i) x y = ap (λ ys. z ∷ ys) (set-set xs i x y)

freed-there : (t : Table ServerCircuit) (h : Handle) (c : ServerCircuit) → under t h ≡ Some c → (let p : Place ServerCircuit = record { generation = h.generation; value = None } in with_freed h t ≡ slice_set t h.index p)
freed-there t h c is = (let p : Place ServerCircuit = record { generation = h.generation; value = None } in ap (λ (o : Option ServerCircuit). cond (is_some o) (slice_set t h.index p) t) is)

changed-there : (t : Table ServerCircuit) (h : Handle) (c d : ServerCircuit) → under t h ≡ Some c → (let p : Place ServerCircuit = record { generation = h.generation; value = Some d } in with_changed (λ (x : ServerCircuit). d) h t ≡ slice_set t h.index p)
changed-there t h c d is =
    ap (λ (o : Option ServerCircuit). let p : Place ServerCircuit = record { generation = h.generation; value = option_map (λ (x : ServerCircuit). d) o } in cond (is_some o) (slice_set t h.index p) t) is

pub freed-changed : (t : Table ServerCircuit) (h : Handle) (c d : ServerCircuit) → under t h ≡ Some c → with_freed h (with_changed (λ (x : ServerCircuit). d) h t) ≡ with_freed h t
freed-changed t h c d is =
    let p : Place ServerCircuit = record { generation = h.generation; value = None } in
    let q : Place ServerCircuit = record { generation = h.generation; value = Some d } in
    freed-there (with_changed (λ (x : ServerCircuit). d) h t) h d (changed-own (λ (x : ServerCircuit). d) t h c is)
    ∙ ap (λ (u : Table ServerCircuit). slice_set u h.index p) (changed-there t h c d is)
    ∙ set-set t h.index q p
    ∙ sym (freed-there t h c is)

-- nothing is freed where no circuit is
pub freed-nothing : (t : Table ServerCircuit) (h : Handle) → (let none : Option ServerCircuit = None in under t h ≡ none) → with_freed h t ≡ t
freed-nothing t h is = (let p : Place ServerCircuit = record { generation = h.generation; value = None } in ap (λ (o : Option ServerCircuit). cond (is_some o) (slice_set t h.index p) t) is)

-- ---- a circuit ends

not-open : (w : Why) (left : List ℕ) (e : ServerEnd) (o : Option ServerCircuit) → o ≡ Some (Ended w left) → o ≡ Some (Open e) → ⊥
not-open w left e o a b = not-ended e w left (some_is (Open e) (Ended w left) (sym b ∙ a))

none-open : (e : ServerEnd) (o : Option ServerCircuit) → o ≡ None → o ≡ Some (Open e) → ⊥
none-open e o a b = cc

pub sound-end : (s u : Store) (t after : Table ServerCircuit) (h : Handle) (w : Why) → EndsIn t h s w after u → IsSound (records_of s) t → IsSound (records_of u) after
sound-end s u t after h w (inr none) i =
    subst (λ (x : Table ServerCircuit). IsSound (records_of u) x) (sym none.1) (subst (λ (x : Store). IsSound (records_of x) t) (sym none.2) i)
sound-end s u t after h w (inl g) i = by g.0 g.1 g.2 g.3 g.4
  where
    by : (c new : ServerCircuit) → under t h ≡ Some c → EndsAt h c s w new u → after ≡ with_changed (λ (x : ServerCircuit). new) h t → IsSound (records_of u) after
    by (Open e) new there did changed =
        subst (λ (x : Table ServerCircuit). IsSound (records_of u) x) (sym (became t after h new (Ended w e.link.output) changed did.0))
        (subst (λ (rs : List Record). IsSound rs (with_changed (λ (x : ServerCircuit). Ended w e.link.output) h t)) (sym did.1.records) (sound-ended (records_of s) t h w e.link.output i))
    by (Ended v left) new there did changed =
        subst (λ (x : Table ServerCircuit). IsSound (records_of u) x) (sym (stayed t after h new (Ended v left) there changed did.0))
        (subst (λ (x : Store). IsSound (records_of x) t) (sym did.1) i)

pub cuts : (port now n : ℕ) (b : Clock) (s u : Store) (t after : Table ServerCircuit) (h : Handle) → EndsIn t h s why.Cut after u → Cuts (server_of port s now t b n) h (server_of port u now after b n)
cuts port now n b s u t after h (inr none) =
    inr ((λ e has. none-open e (under t h) none.0 has), ap (λ (x : Store). server_of port x now after b n) none.2 ∙ ap (λ (x : Table ServerCircuit). server_of port s now x b n) none.1)
cuts port now n b s u t after h (inl g) = by g.0 g.1 g.2 g.3 g.4
  where
    by : (c new : ServerCircuit) → under t h ≡ Some c → EndsAt h c s why.Cut new u → after ≡ with_changed (λ (x : ServerCircuit). new) h t → Cuts (server_of port s now t b n) h (server_of port u now after b n)
    by (Open e) new there did changed =
        inl (e, there, same-parts port now b u.rules s.rules (records_of u) _ u.stamp s.stamp after _ n n did.1.rules did.1.records did.1.stamp (became t after h new (Ended why.Cut e.link.output) changed did.0) refl)
    by (Ended v left) new there did changed =
        inr ((λ e has. not-open v left e (under t h) there has), ap (λ (x : Store). server_of port x now after b n) did.1 ∙ ap (λ (x : Table ServerCircuit). server_of port s now x b n) (stayed t after h new (Ended v left) there changed did.0))

-- the same along the view of the fields
pub cuts-at : (y : Server) (port now n : ℕ) (b : Clock) (s u : Store) (t after : Table ServerCircuit) (h : Handle) → server_of port s now t b n ≡ y → EndsIn t h s why.Cut after u → Cuts y h (server_of port u now after b n)
cuts-at y port now n b s u t after h is did = subst (λ (x : Server). Cuts x h (server_of port u now after b n)) is (cuts port now n b s u t after h did)
