-- A put is finished, and the next that waits is applied.
use Rattle.std.proofs.Common.{◌≡◌, ℕ, ◌<◌, inl, inr, true, List, [], ◌∷◌, ◌++◌, Option, Some, None, refl, sym, ap, subst, ◌∙◌, arith}
use Rattle.std.specs.Prelude.{slice_get}
use Rattle.ca_text.specs.Place.{At}
use Rattle.ca_text.proofs.Places.{At-one, At-within}
use Rattle.ca_dbr.specs.Elements.{Elements}
use Rattle.ca_dbr.specs.Held.{kind_of}
use Rattle.ca_records.specs.declared.puts.Put.{Put}
use Rattle.ca_records.specs.Puts.{Record, WaitingPut, finished, with_record, written_meta}
use Rattle.ca_records.specs.Record.{RecordState}
use Rattle.ca_model.specs.Speech.{In, Stored}
use Rattle.ca_model.specs.History.{Circuit, Entry, Added, Applied, Finished, Removed, Waits, Withdrawn}
use Rattle.ca_model.specs.ServerEvents.{finish_entry, first_of, next_busy, next_entries}
use Rattle.ca_model.specs.ServerEvents as event
use Rattle.ca_model.specs.World.{PutPlace, RecordSide, ServerSide}
use Rattle.ca_laws_parts.specs.Both.{Both}
use Rattle.ca_laws_parts.specs.Once.{IsApplied, IsFinished, MayTell, Once}
use Rattle.ca_laws_parts.specs.Agrees.{Agree, Agrees, IsBusyAs, IsBusyBy, IsBusyWith, IsOf, StillWaits, WaitsAs}
use Rattle.ca_laws_parts.proofs.WritesLists.{In-append, In-snoc, both-at}
use Rattle.ca_laws_parts.proofs.Once.{once-told}
use Rattle.ca_laws_parts.proofs.Parts.{place-is}
use Rattle.ca_laws_parts.proofs.Records.{agrees-finished, agrees-next, agrees-spared, append-one, still-waits}
use Rattle.ca_laws_parts.proofs.WritesLives.{below-all, one-changes, others-with, waits-there}

-- one place waits for one record
pub waits-one : (Came : (Circuit → (k i : ℕ) → Type 0) → PutPlace → (i : ℕ) → Elements → Type 0) (Lost : PutPlace → (i : ℕ) → Type 0) (y : List Entry) (r q : ℕ) (p : PutPlace) (v u : Elements) → Once Came Lost y → StillWaits y r p v → StillWaits y q p u → r ≡ q
waits-one Came Lost y r q p v u once a b =
    let i : a.came.0 ≡ b.came.0 = once.waits a.came.0 b.came.0 p.circuit p.place r q a.v b.v a.came.1 b.came.1 in
    let e : Waits p.circuit p.place r a.v ≡ Waits p.circuit p.place q b.v =
    At-one y b.came.0 (Waits p.circuit p.place r a.v) (Waits p.circuit p.place q b.v) (subst (λ (n : ℕ). At y n (Waits p.circuit p.place r a.v)) i a.came.1) b.came.1 in
    cc

-- and makes one busy
pub busy-one : (Came : (Circuit → (k i : ℕ) → Type 0) → PutPlace → (i : ℕ) → Elements → Type 0) (Lost : PutPlace → (i : ℕ) → Type 0) (y : List Entry) (r q : ℕ) (p : PutPlace) → Once Came Lost y → IsBusyWith y r p → IsBusyWith y q p → r ≡ q
busy-one Came Lost y r q p once a b =
    let i : a.i ≡ b.i = once.applied a.i b.i p.circuit p.place r q a.v b.v true true a.at b.at in
    let e : Applied p.circuit p.place r a.v true ≡ Applied p.circuit p.place q b.v true =
    At-one y b.i (Applied p.circuit p.place r a.v true) (Applied p.circuit p.place q b.v true) (subst (λ (n : ℕ). At y n (Applied p.circuit p.place r a.v true)) i a.at) b.at in
    cc

-- a put that waits is not finished
pub waits-unfinished : (Came : (Circuit → (k i : ℕ) → Type 0) → PutPlace → (i : ℕ) → Elements → Type 0) (Lost : PutPlace → (i : ℕ) → Type 0) (y : List Entry) (r : ℕ) (p : PutPlace) (v : Elements) → Once Came Lost y → StillWaits y r p v → IsFinished y p → ⊥
waits-unfinished Came Lost y r p v once w h =
    let b = (once.finished p.circuit p.place h.0 h.1).0 in
    w.unapplied (b.1, b.2, true, (b.0, b.3))

module _ (Is : PutPlace → Put → Type 0) where
  -- the record whose put was finished, and whose next was applied
  one-finished : (y : List Entry) (side : ServerSide) (s : RecordState) (b : Option Put) (ws : List WaitingPut) (name : List ℕ) (number : ℕ) (p : PutPlace) (ps : List PutPlace) → ((q : PutPlace) → In ps q → IsFinished y q → ⊥) → ((q : PutPlace) (qs : List PutPlace) → ps ≡ q ∷ qs → q ≡ p → ⊥) → ((i : ℕ) (w : WaitingPut) → At ws i w → kind_of w.value ≡ kind_of s.value) → s.slow ≡ true
      → let c : Record = record { state = s; busy = b; waiting = ws } in let r : RecordSide = record { name = name; number = number; busy = Some p; waiting = ps } in Agrees Is y c r → Agrees Is (y ++ finish_entry p ∷ next_entries side r (first_of ws) (first_of ps)) (finished side.core.stamp c ws) (next_busy r)
  one-finished y side s b [] name number p [] free other based slow a = agrees-finished Is y s b [] name number p [] a
  one-finished y side s b [] name number p (q ∷ ps) free other based slow a = absurd a.each
  one-finished y side s b (w ∷ ws) name number p [] free other based slow a = absurd a.each
  one-finished y side s b (w ∷ ws) name number p (q ∷ ps) free other based slow a =
      let r : RecordSide = record { name = name; number = number; busy = Some p; waiting = q ∷ ps } in
      let next : Entry = Applied q.circuit q.place number (record { value = w.value; meta = written_meta w.value side.core.stamp }) true in
      let still : IsFinished (y ++ finish_entry p ∷ []) q → ⊥ = λ h. elim (In-snoc y (finish_entry p) (Finished q.circuit q.place) h) [
        | inl old ↦ free q (0, refl) old
        | inr is ↦ (let x : Finished q.circuit q.place ≡ Finished p.circuit p.place = is in let n : q.circuit ≡ p.circuit = cc in let k : q.place ≡ p.place = cc in other q ps refl (place-is q p n k))
      ] in
      subst (λ (l : List Entry). Agrees Is l (finished side.core.stamp (record { state = s; busy = b; waiting = w ∷ ws }) (w ∷ ws)) (next_busy r)) (append-one y (finish_entry p) (next ∷ []))
      (agrees-next Is (y ++ finish_entry p ∷ []) s w ws name number q ps (written_meta w.value side.core.stamp) (based 0 w refl) still slow (agrees-finished Is y s b (w ∷ ws) name number p (q ∷ ps) a))

  -- another record
  other-finished : (y : List Entry) (side : ServerSide) (c : Record) (r x : RecordSide) (p : PutPlace) (ws : List WaitingPut) (ps : List PutPlace) → (x.number ≡ r.number → ⊥) → (x.busy ≡ Some p → ⊥) → ((q : PutPlace) → In ps q → In x.waiting q → ⊥) → Agrees Is y c x → Agrees Is (y ++ finish_entry p ∷ next_entries side r (first_of ws) (first_of ps)) c x
  other-finished y side c r x p [] [] other unbusy apart a = agrees-spared Is y c x (finish_entry p) unbusy a
  other-finished y side c r x p [] (q ∷ ps) other unbusy apart a = agrees-spared Is y c x (finish_entry p) unbusy a
  other-finished y side c r x p (w ∷ ws) [] other unbusy apart a = agrees-spared Is y c x (finish_entry p) unbusy a
  other-finished y side c r x p (w ∷ ws) (q ∷ ps) other unbusy apart a =
      let next : Entry = Applied q.circuit q.place r.number (record { value = w.value; meta = written_meta w.value side.core.stamp }) true in
      subst (λ (l : List Entry). Agrees Is l c x) (append-one y (finish_entry p) (next ∷ []))
      (agrees-spared Is (y ++ finish_entry p ∷ []) c x next (other, apart q (0, refl)) (agrees-spared Is y c x (finish_entry p) unbusy a))

module _ (Came : (Circuit → (k i : ℕ) → Type 0) → PutPlace → (i : ℕ) → Elements → Type 0) (Lost : PutPlace → (i : ℕ) → Type 0) (Is : PutPlace → Put → Type 0) where
  may-finish : (y : List Entry) (r : ℕ) (p : PutPlace) → IsBusyWith y r p → MayTell Came Lost y (finish_entry p)
  may-finish y r p b =
      ((b.i, r, b.v, b.at, At-within y b.i (Applied p.circuit p.place r b.v true) b.at, λ j m l u lt below at. b.last j m l u lt at), b.unfinished)

  may-next : (y : List Entry) (c : Record) (r : RecordSide) (p q : PutPlace) (value : Elements) (w : StillWaits y r.number q value) (v : Stored) → v.value ≡ value → kind_of v.value ≡ kind_of c.state.value → Agrees Is y c r → MayTell Came Lost (y ++ finish_entry p ∷ []) (Applied q.circuit q.place r.number v true)
  may-next y c r p q value w v is same a =
      let e : Entry = finish_entry p in
      let still : StillWaits (y ++ e ∷ []) r.number q value = still-waits y e r.number q value (record { unapplied = λ i u d h. (let x : Applied q.circuit q.place i u d ≡ Finished p.circuit p.place = h in cc); kept = λ h. (let x : Withdrawn q.circuit q.place ≡ Finished p.circuit p.place = h in cc) }) w in (
        still.unapplied,
        still.kept,
        (a.first, In-append y (e ∷ []) (Added r.number a.first) a.added, same ∙ a.base),
        λ h. elim (In-snoc y e (Removed r.number) h) [
          | inl old ↦ a.there old
          | inr new ↦ (let x : Removed r.number ≡ Finished p.circuit p.place = new in cc)
        ],
        inr (still.came.0, still.v, At-within (y ++ e ∷ []) still.came.0 (Waits q.circuit q.place r.number still.v) still.came.1, still.came.1, still.with_it ∙ sym is),
      )

  -- the log after a finish
  once-finished : (y : List Entry) (side : ServerSide) (c : Record) (r : RecordSide) (p : PutPlace) (ws : List WaitingPut) (ps : List PutPlace) → IsBusyWith y r.number p → Both (WaitsAs Is y r.number) ps ws → ((j : ℕ) (w : WaitingPut) → At ws j w → kind_of w.value ≡ kind_of c.state.value) → Agrees Is y c r → Once Came Lost y → Once Came Lost (y ++ finish_entry p ∷ next_entries side r (first_of ws) (first_of ps))
  once-finished y side c r p [] [] busy each based a once = once-told Came Lost y (finish_entry p) once (may-finish y r.number p busy)
  once-finished y side c r p [] (q ∷ ps) busy each based a once = absurd each
  once-finished y side c r p (w ∷ ws) [] busy each based a once = absurd each
  once-finished y side c r p (w ∷ ws) (q ∷ ps) busy each based a once =
      let v : Stored = record { value = w.value; meta = written_meta w.value side.core.stamp } in
      let next : Entry = Applied q.circuit q.place r.number v true in
      subst (λ (l : List Entry). Once Came Lost l) (append-one y (finish_entry p) (next ∷ []))
      (once-told Came Lost (y ++ finish_entry p ∷ []) next (once-told Came Lost y (finish_entry p) once (may-finish y r.number p busy)) (may-next y c r p q w.value each.0.0 v refl (based 0 w refl) a))

  numbers-finished : (y : List Entry) (side : ServerSide) (r : RecordSide) (p : PutPlace) (o : Option WaitingPut) (q : Option PutPlace) (n : ℕ) → r.number < n → ((i : ℕ) (e : Entry) → In y e → IsOf i e → i < n) → (i : ℕ) (e : Entry) → In (y ++ finish_entry p ∷ next_entries side r o q) e → IsOf i e → i < n
  numbers-finished y side r p o q n lt below i e h of_it = go o q h
    where
      first : In (y ++ finish_entry p ∷ []) e → i < n
      first x = elim (In-snoc y (finish_entry p) e x) [
        | inl old ↦ below i e old of_it
        | inr new ↦ absurd (subst (λ (z : Entry). IsOf i z) new of_it)
      ]

      go : (o : Option WaitingPut) (q : Option PutPlace) → In (y ++ finish_entry p ∷ next_entries side r o q) e → i < n
      go None q x = first x
      go (Some w) None x = first x
      go (Some w) (Some t) x =
          let next : Entry = Applied t.circuit t.place r.number (record { value = w.value; meta = written_meta w.value side.core.stamp }) true in
          elim (In-snoc (y ++ finish_entry p ∷ []) next e (subst (λ (l : List Entry). In l e) (sym (append-one y (finish_entry p) (next ∷ []))) x)) [
            | inl old ↦ first old
            | inr new ↦ (let is : r.number ≡ i = subst (λ (z : Entry). IsOf i z) new of_it in omega (arith, lt, is))
          ]

  -- The busy put of a record is finished, and the next is applied, if one waits.
  pub agree-finished : (y : List Entry) (side : ServerSide) (cs : List Record) (rs : List RecordSide) (n i : ℕ) (c : Record) (r : RecordSide) (p : PutPlace) → At cs i c → At rs i r → r.busy ≡ Some p → Agree Came Lost Is y cs rs n
      → Agree Came Lost Is (y ++ finish_entry p ∷ next_entries side r (first_of c.waiting) (first_of r.waiting)) (with_record r.name (λ (q : Record). finished side.core.stamp q q.waiting) cs) (event.with_record r.name next_busy rs) n
  agree-finished y side cs rs n i c r p in_cs in_rs busy a =
      let more : List Entry = y ++ finish_entry p ∷ next_entries side r (first_of c.waiting) (first_of r.waiting) in
      let g : Agrees Is y c r = both-at (Agrees Is y) cs rs i c r a.each in_cs in_rs in
      let by : IsBusyWith y r.number p = busy-with y c g in
      let based : (j : ℕ) (w : WaitingPut) → At c.waiting j w → kind_of w.value ≡ kind_of c.state.value = λ j w at. g.based j w at ∙ sym g.base in
      let own : (q : PutPlace) → In r.waiting q → IsFinished y q → ⊥ = λ q h. (let w = waits-there Is y c r q g h in waits-unfinished Came Lost y r.number q w.0.value a.once w.1) in
      record {
        once = once-finished y side c r p c.waiting r.waiting by g.each based g a.once;
        each = one-changes Is y more cs rs i r (λ (q : Record). finished side.core.stamp q q.waiting) next_busy a.others in_rs
            (λ d at h.
            let is : c ≡ d = At-one cs i c d in_cs at in
            subst (λ (z : Record). Agrees Is more (finished side.core.stamp z z.waiting) (next_busy r)) is
            (own-record c g own based (λ q qs front same. (let h : In r.waiting q = (0, ap (λ (l : List PutPlace). slice_get l 0) front) in let w = waits-there Is y c r q g h in w.1.unapplied (subst (λ (z : PutPlace). IsApplied y z) (sym same) (r.number, by.v, true, (by.i, by.at))))))
            )
            (λ j d x at other h. other-finished Is y side d r x p c.waiting r.waiting other
            (λ is. other (busy-one Came Lost y x.number r.number p a.once (busy-of y x d is h) by))
            (λ q mine too. other (let s = waits-there Is y d x q h too in let t = waits-there Is y c r q g mine in waits-one Came Lost y x.number r.number q s.0.value t.0.value a.once s.1 t.1))
            h)
            a.each;
        others = others-with r.name next_busy rs (λ q. (refl, refl)) a.others;
        numbers = numbers-finished y side r p (first_of c.waiting) (first_of r.waiting) n (below-all Came Lost Is y cs rs n i r r.number in_rs a refl) a.numbers;
      }
    where
      busy-of : (y : List Entry) (x : RecordSide) (d : Record) → x.busy ≡ Some p → Agrees Is y d x → IsBusyWith y x.number p
      busy-of y x d is h = subst (λ (o : Option PutPlace). IsBusyBy y x.number o) is h.busy

      busy-with : (y : List Entry) (c : Record) → Agrees Is y c r → IsBusyWith y r.number p
      busy-with y c g = subst (λ (o : Option PutPlace). IsBusyBy y r.number o) busy g.busy

      some-busy : (d : Option Put) → IsBusyAs Is (Some p) d → (b : Put) × (d ≡ Some b)
      some-busy None h = absurd h
      some-busy (Some b) h = (b, refl)

      was-slow : (c : Record) → Agrees Is y c r → c.state.slow ≡ true
      was-slow c g = (let b = some-busy c.busy (subst (λ (o : Option PutPlace). IsBusyAs Is o c.busy) busy g.busy_as) in g.slow b.0 b.1)

      own-record : (c : Record) → Agrees Is y c r → ((q : PutPlace) → In r.waiting q → IsFinished y q → ⊥) → ((j : ℕ) (w : WaitingPut) → At c.waiting j w → kind_of w.value ≡ kind_of c.state.value) → ((q : PutPlace) (qs : List PutPlace) → r.waiting ≡ q ∷ qs → q ≡ p → ⊥) → Agrees Is (y ++ finish_entry p ∷ next_entries side r (first_of c.waiting) (first_of r.waiting)) (finished side.core.stamp c c.waiting) (next_busy r)
      own-record c g own based other =
          one-finished Is y side c.state c.busy c.waiting r.name r.number p r.waiting own other based (was-slow c g) (subst (λ (o : Option PutPlace). Agrees Is y c (record r { busy = o })) busy g)
