-- A log that grows has each write once.
use Rattle.std.proofs.Common.{◌≡◌, ℕ, ◌<◌, ◌≤◌, ◌⊎◌, inl, inr, true, List, [], ◌∷◌, ◌++◌, length, take, refl, sym, ap, subst, ◌∙◌, arith}
use Rattle.ca_text.specs.Place.{At}
use Rattle.ca_text.proofs.Places.{At-append, At-back, At-snoc, At-within}
use Rattle.ca_dbr.specs.Elements.{Elements}
use Rattle.ca_dbr.specs.Held.{kind_of}
use Rattle.ca_records.specs.Record.{RecordState}
use Rattle.ca_model.specs.Speech.{In}
use Rattle.ca_model.specs.History.{Circuit, Entry, Added, Applied, Finished, Removed, Waits, Withdrawn}
use Rattle.ca_model.specs.Channels.{IsBusyUntil, IsHandledIn, IsTaken}
use Rattle.ca_model.specs.World.{PutPlace}
use Rattle.ca_laws_parts.specs.Once.{HadWaited, IsLost, MayTell, Once}
use Rattle.ca_laws_parts.proofs.WritesLists.{take-front, take-whole}

busy-until-grown : (y es : List Entry) (n k e : ℕ) → e ≤ length y → IsBusyUntil y n k e → IsBusyUntil (y ++ es) n k e
busy-until-grown y es n k e le b = (
  b.0,
  b.1,
  b.2,
  At-append y es b.0 (Applied n k b.1 b.2 true) b.3,
  b.4,
  λ j m l u lt below at. b.5 j m l u lt below (At-back y es j (Applied m l b.1 u true) at (omega (arith, below, le))),
)

had-waited-grown : (y es : List Entry) (p : PutPlace) (i r : ℕ) (value : Elements) → HadWaited y p i r value → HadWaited (y ++ es) p i r value
had-waited-grown y es p i r value h =
    (h.0, h.1, h.2, At-append y es h.0 (Waits p.circuit p.place r h.1) h.3, h.4)

-- what a log had before its entry i, it has when it grows
taken-same : (y : List Entry) (e : Entry) (i : ℕ) → i < length y → take i (y ++ e ∷ []) ≡ take i y
taken-same y e i lt = take-front i y (e ∷ []) (omega (arith, lt))

taken-all : (y : List Entry) (e : Entry) (i : ℕ) → i ≡ length y → take i (y ++ e ∷ []) ≡ y
taken-all y e i is =
    ap (λ (n : ℕ). take n (y ++ e ∷ [])) is ∙ take-front (length y) y (e ∷ []) (omega arith) ∙ take-whole y

module _ (Came : (Circuit → (k i : ℕ) → Type 0) → PutPlace → (i : ℕ) → Elements → Type 0) (Lost : PutPlace → (i : ℕ) → Type 0) where
  pub once-begins : Once Came Lost []
  once-begins = record {
    applied = λ i j n k r q v u b d p s. absurd cc;
    there = λ i n k r v b p. absurd cc;
    own = λ i n k r v b p. absurd cc;
    came = λ i n k r v p. absurd cc;
    waits = λ i j n k r q v u p s. absurd cc;
    dropped = λ n k r v b p s. absurd (let h : At [] p.0 (Applied n k r v b) = p.1 in cc);
    withdrawn = λ i n k p. absurd cc;
    finished = λ n k e p. absurd cc;
  }

  lost-grown : (y : List Entry) (e : Entry) (p : PutPlace) (i : ℕ) → take i (y ++ e ∷ []) ≡ take i y → IsLost Came Lost y p i → IsLost Came Lost (y ++ e ∷ []) p i
  lost-grown y e p i same l =
      (l.0, l.1, had-waited-grown y (e ∷ []) p i l.0 l.1 l.2, subst (λ (x : List Entry). In x (Removed l.0) ⊎ Lost p i) (sym same) l.3)

  -- one more entry
  pub once-told : (y : List Entry) (e : Entry) → Once Came Lost y → MayTell Came Lost y e → Once Came Lost (y ++ e ∷ [])
  once-told y e once may =
      record {
        applied = λ i j n k r q v u b d p s. elim (At-snoc y e i (Applied n k r v b) p) [
          | inl old ↦ elim (At-snoc y e j (Applied n k q u d) s) [
            | inl too ↦ once.applied i j n k r q v u b d old too
            | inr new ↦ absurd ((it (Applied n k q u d) new.1).0 (r, v, b, (i, old)))
          ]
          | inr new ↦ elim (At-snoc y e j (Applied n k q u d) s) [
            | inl old ↦ absurd ((it (Applied n k r v b) new.1).0 (q, u, d, (j, old)))
            | inr too ↦ new.0 ∙ sym too.0
          ]
        ];
        there = λ i n k r v b p. elim (At-snoc y e i (Applied n k r v b) p) [
          | inl old ↦ subst (λ (l : List Entry). ((s : RecordState) × In l (Added r s) × (kind_of v.value ≡ kind_of s.value)) × (In l (Removed r) → ⊥)) (sym (taken-same y e i (At-within y i (Applied n k r v b) old))) (once.there i n k r v b old)
          | inr new ↦ (let m = it (Applied n k r v b) new.1 in subst (λ (l : List Entry). ((s : RecordState) × In l (Added r s) × (kind_of v.value ≡ kind_of s.value)) × (In l (Removed r) → ⊥)) (sym (taken-all y e i new.0)) (m.2, m.3))
        ];
        own = λ i n k r v b p. elim (At-snoc y e i (Applied n k r v b) p) [
          | inl old ↦ elim (once.own i n k r v b old) [
            | inl came ↦ inl came
            | inr waited ↦ inr (had-waited-grown y (e ∷ []) (record { circuit = n; place = k }) i r v.value waited)
          ]
          | inr new ↦ elim ((it (Applied n k r v b) new.1).4) [
            | inl came ↦ inl (subst (λ (l : ℕ). Came IsTaken (record { circuit = n; place = k }) l v.value) (sym new.0) came)
            | inr waited ↦ inr (subst (λ (l : ℕ). HadWaited (y ++ e ∷ []) (record { circuit = n; place = k }) l r v.value) (sym new.0) (had-waited-grown y (e ∷ []) (record { circuit = n; place = k }) (length y) r v.value waited))
          ]
        ];
        came = λ i n k r v p. elim (At-snoc y e i (Waits n k r v) p) [
          | inl old ↦ once.came i n k r v old
          | inr new ↦ subst (λ (l : ℕ). Came IsHandledIn (record { circuit = n; place = k }) l v.value) (sym new.0) (it (Waits n k r v) new.1).1
        ];
        waits = λ i j n k r q v u p s. elim (At-snoc y e i (Waits n k r v) p) [
          | inl old ↦ elim (At-snoc y e j (Waits n k q u) s) [
            | inl too ↦ once.waits i j n k r q v u old too
            | inr new ↦ absurd ((it (Waits n k q u) new.1).0 (Waits n k r v) (i, old) refl)
          ]
          | inr new ↦ elim (At-snoc y e j (Waits n k q u) s) [
            | inl old ↦ absurd ((it (Waits n k r v) new.1).0 (Waits n k q u) (j, old) refl)
            | inr too ↦ new.0 ∙ sym too.0
          ]
        ];
        dropped = λ n k r v b p s. elim (At-snoc y e p.0 (Applied n k r v b) p.1) [
          | inl old ↦ elim (At-snoc y e s.0 (Withdrawn n k) s.1) [
            | inl too ↦ once.dropped n k r v b (p.0, old) (s.0, too)
            | inr new ↦ (it (Withdrawn n k) new.1).0 (r, v, b, (p.0, old))
          ]
          | inr new ↦ elim (At-snoc y e s.0 (Withdrawn n k) s.1) [
            | inl old ↦ (it (Applied n k r v b) new.1).1 (s.0, old)
            | inr too ↦ (let is : Applied n k r v b ≡ Withdrawn n k = new.1 ∙ sym too.1 in cc)
          ]
        ];
        withdrawn = λ i n k p. elim (At-snoc y e i (Withdrawn n k) p) [
          | inl old ↦ lost-grown y e (record { circuit = n; place = k }) i (taken-same y e i (At-within y i (Withdrawn n k) old)) (once.withdrawn i n k old)
          | inr new ↦ subst (λ (l : ℕ). IsLost Came Lost (y ++ e ∷ []) (record { circuit = n; place = k }) l) (sym new.0) (lost-grown y e (record { circuit = n; place = k }) (length y) (taken-all y e (length y) refl ∙ sym (take-whole y)) (it (Withdrawn n k) new.1).1)
        ];
        finished = λ n k f p. elim (At-snoc y e f (Finished n k) p) [
          | inl old ↦
              let was = once.finished n k f old in
              let lt : f < length y = At-within y f (Finished n k) old in (
                busy-until-grown y (e ∷ []) n k f (omega (arith, lt)) was.0,
                λ g s. elim (At-snoc y e g (Finished n k) s) [
                  | inl too ↦ was.1 g too
                  | inr new ↦ absurd ((it (Finished n k) new.1).1 (f, old))
                ],
              )
          | inr new ↦
              let m = it (Finished n k) new.1 in (
                subst (λ (l : ℕ). IsBusyUntil (y ++ e ∷ []) n k l) (sym new.0) (busy-until-grown y (e ∷ []) n k (length y) (omega arith) m.0),
                λ g s. elim (At-snoc y e g (Finished n k) s) [
                  | inl old ↦ absurd (m.1 (g, old))
                  | inr too ↦ new.0 ∙ sym too.0
                ],
              )
        ];
      }
    where
      it : (f : Entry) → f ≡ e → MayTell Came Lost y f
      it f is = subst (λ (z : Entry). MayTell Came Lost y z) (sym is) may

-- how writes may have come, and been lost, told in other words
pub once-as : (Came Now : (Circuit → (k i : ℕ) → Type 0) → PutPlace → (i : ℕ) → Elements → Type 0) (Lost Gone : PutPlace → (i : ℕ) → Type 0) (y : List Entry) → ((p : PutPlace) (i : ℕ) (value : Elements) → Came IsTaken p i value → Now IsTaken p i value)
    → ((p : PutPlace) (i : ℕ) (value : Elements) → Came IsHandledIn p i value → Now IsHandledIn p i value) → ((p : PutPlace) (i : ℕ) → Lost p i → Gone p i) → Once Came Lost y → Once Now Gone y
once-as Came Now Lost Gone y taken_as handled_as as_gone once = record {
  applied = once.applied;
  there = once.there;
  own = λ i n k r v b at. elim (once.own i n k r v b at) [
    | inl came ↦ inl (taken_as (record { circuit = n; place = k }) i v.value came)
    | inr waited ↦ inr waited
  ];
  came = λ i n k r v at. handled_as (record { circuit = n; place = k }) i v.value (once.came i n k r v at);
  waits = once.waits;
  dropped = once.dropped;
  withdrawn = λ i n k at. (let l = once.withdrawn i n k at in (l.0, l.1, l.2, elim l.3 [ inl gone ↦ inl gone | inr lost ↦ inr (as_gone (record { circuit = n; place = k }) i lost) ]));
  finished = once.finished;
}
