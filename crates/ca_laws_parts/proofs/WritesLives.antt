-- A server's records beside the log of its life, as a write, a put, a finish or a post is told.
use Rattle.std.proofs.Common.{◌≡◌, ℕ, zero, suc, ◌<◌, ◌⊎◌, inl, inr, Bool, true, false, cond, List, [], ◌∷◌, ◌++◌, length, Option, Some, None, refl, sym, ap, subst, ◌∙◌}
use Rattle.std.specs.Prelude.{map}
use Rattle.std.specs.Str.{bytes_eq}
use Rattle.std.proofs.lemmas.Slice.Eq.{bytes_eq-Decides}
use Rattle.ca_text.specs.Place.{At}
use Rattle.ca_text.proofs.Places.{some_is, At-one}
use Rattle.ca_dbr.specs.declared.value.Meta.{Meta}
use Rattle.ca_dbr.specs.Elements.{Elements}
use Rattle.ca_dbr.specs.Held.{kind_of}
use Rattle.ca_records.specs.declared.puts.Put.{Put}
use Rattle.ca_records.specs.Puts.{Record, WaitingPut, with_record, with_value, with_waiting}
use Rattle.ca_model.specs.Speech.{In, Stored}
use Rattle.ca_model.specs.History.{Circuit, Entry, Added, Applied, Finished, Posted, Waits, Withdrawn}
use Rattle.ca_model.specs.Channels.{IsHandledIn, IsTaken}
use Rattle.ca_model.specs.ServerEvents.{number_of}
use Rattle.ca_model.specs.ServerEvents as event
use Rattle.ca_model.specs.World.{PutPlace, RecordSide}
use Rattle.ca_laws_parts.specs.Both.{Both}
use Rattle.ca_laws_parts.specs.Once.{IsUntold, MayTell}
use Rattle.ca_laws_parts.specs.Agrees.{Agree, Agrees, AreOthers, IsBusyAs, IsOf, Lack, StillWaits, WaitsAs}
use Rattle.ca_laws_parts.proofs.WritesLists.{In-snoc, beside-left, beside-right, both-at, both-map, none_at}
use Rattle.ca_laws_parts.proofs.Once.{once-told}
use Rattle.ca_laws_parts.proofs.Records.{agrees-applied, agrees-busied, agrees-posted, agrees-spared, agrees-waits}

-- ---- names

pub bytes-same : (name : List ℕ) → bytes_eq name name ≡ true
bytes-same name = (bytes_eq-Decides name name).1 refl

pub bytes-other : (a b : List ℕ) → (a ≡ b → ⊥) → bytes_eq a b ≡ false
bytes-other a b ne = go (bytes_eq a b) refl
  where
    go : (t : Bool) → bytes_eq a b ≡ t → bytes_eq a b ≡ false
    go true e = absurd (ne ((bytes_eq-Decides a b).0 e))
    go false e = e

lack-at : (name : List ℕ) (number : ℕ) (rs : List RecordSide) (i : ℕ) (r : RecordSide) → Lack name number rs → At rs i r → (r.name ≡ name → ⊥) × (r.number ≡ number → ⊥)
lack-at name number [] i r lack at = absurd (none_at i r at)
lack-at name number (q ∷ rs) zero r lack at = subst (λ (z : RecordSide). (z.name ≡ name → ⊥) × (z.number ≡ number → ⊥)) (some_is q r at) lack.0
lack-at name number (q ∷ rs) (suc i) r lack at = lack-at name number rs i r lack.1 at

-- two records are one, or have neither name nor number in common
pub others-apart : (rs : List RecordSide) (i j : ℕ) (r q : RecordSide) → AreOthers rs → At rs i r → At rs j q → (i ≡ j) ⊎ ((q.name ≡ r.name → ⊥) × (q.number ≡ r.number → ⊥))
others-apart [] i j r q others at here = absurd (none_at i r at)
others-apart (x ∷ rs) zero zero r q others at here = inl refl
others-apart (x ∷ rs) zero (suc j) r q others at here =
    let l = lack-at x.name x.number rs j q others.0 here in
    let is : x ≡ r = some_is x r at in
    inr (λ e. l.0 (e ∙ ap (λ (z : RecordSide). z.name) (sym is)), λ e. l.1 (e ∙ ap (λ (z : RecordSide). z.number) (sym is)))
others-apart (x ∷ rs) (suc i) zero r q others at here =
    let l = lack-at x.name x.number rs i r others.0 at in
    let is : x ≡ q = some_is x q here in
    inr (λ e. l.0 (sym e ∙ ap (λ (z : RecordSide). z.name) (sym is)), λ e. l.1 (sym e ∙ ap (λ (z : RecordSide). z.number) (sym is)))
others-apart (x ∷ rs) (suc i) (suc j) r q others at here =
    elim (others-apart rs i j r q others.1 at here) [ inl same ↦ inl (ap (λ (n : ℕ). suc n) same) | inr other ↦ inr other ]

pub number-of : (rs : List RecordSide) (i : ℕ) (r : RecordSide) → AreOthers rs → At rs i r → number_of r.name rs ≡ r.number
number-of [] i r others at = absurd (none_at i r at)
number-of (x ∷ rs) zero r others at =
    let is : x ≡ r = some_is x r at in
    subst (λ (z : RecordSide). number_of z.name (x ∷ rs) ≡ z.number) is (ap (λ (b : Bool). cond b x.number (number_of x.name rs)) (bytes-same x.name))
number-of (x ∷ rs) (suc i) r others at =
    let l = lack-at x.name x.number rs i r others.0 at in
    ap (λ (b : Bool). cond b x.number (number_of r.name rs)) (bytes-other x.name r.name (λ e. l.0 (sym e)))
    ∙ number-of rs i r others.1 at

lack-map : (f : RecordSide → RecordSide) (name : List ℕ) (number : ℕ) (rs : List RecordSide) → ((r : RecordSide) → ((f r).name ≡ r.name) × ((f r).number ≡ r.number)) → Lack name number rs → Lack name number (map f rs)
lack-map f name number [] keeps lack = tt
lack-map f name number (r ∷ rs) keeps lack =
    let k = keeps r in
    ((λ e. lack.0.0 (sym k.0 ∙ e), λ e. lack.0.1 (sym k.1 ∙ e)), lack-map f name number rs keeps lack.1)

pub others-map : (f : RecordSide → RecordSide) (rs : List RecordSide) → ((r : RecordSide) → ((f r).name ≡ r.name) × ((f r).number ≡ r.number)) → AreOthers rs → AreOthers (map f rs)
others-map f [] keeps others = tt
others-map f (r ∷ rs) keeps others =
    let k = keeps r in (
      subst (λ (n : List ℕ). Lack n (f r).number (map f rs)) (sym k.0) (subst (λ (n : ℕ). Lack r.name n (map f rs)) (sym k.1) (lack-map f r.name r.number rs keeps others.0)),
      others-map f rs keeps others.1,
    )

pub others-with : (name : List ℕ) (f : RecordSide → RecordSide) (rs : List RecordSide) → ((r : RecordSide) → ((f r).name ≡ r.name) × ((f r).number ≡ r.number)) → AreOthers rs → AreOthers (event.with_record name f rs)
others-with name f rs keeps others = others-map (λ (r : RecordSide). cond (bytes_eq r.name name) (f r) r) rs (λ r. go r (bytes_eq r.name name)) others
  where
    go : (r : RecordSide) (b : Bool) → ((cond b (f r) r).name ≡ r.name) × ((cond b (f r) r).number ≡ r.number)
    go r true = keeps r
    go r false = (refl, refl)

-- ---- one record changes

module _ (Is : PutPlace → Put → Type 0) where
  -- the record of a name changes beside the log; all others stay
  pub one-changes : (y more : List Entry) (cs : List Record) (rs : List RecordSide) (i : ℕ) (r : RecordSide) (f : Record → Record) (g : RecordSide → RecordSide) → AreOthers rs → At rs i r
      → ((c : Record) → At cs i c → Agrees Is y c r → Agrees Is more (f c) (g r))
      → ((j : ℕ) (c : Record) (q : RecordSide) → At rs j q → (q.number ≡ r.number → ⊥) → Agrees Is y c q → Agrees Is more c q)
      → Both (Agrees Is y) cs rs → Both (Agrees Is more) (with_record r.name f cs) (event.with_record r.name g rs)
  one-changes y more cs rs i r f g others at here there both =
      both-map (Agrees Is y) (Agrees Is more) (λ (c : Record). cond (bytes_eq c.state.name r.name) (f c) c) (λ (q : RecordSide). cond (bytes_eq q.name r.name) (g q) q) cs rs both
      (λ j c q in_cs in_rs a. elim (others-apart rs i j r q others at in_rs) [
        | inl same ↦
            let is : r ≡ q = At-one rs j r q (subst (λ (n : ℕ). At rs n r) same at) in_rs in
            let a_r : Agrees Is y c r = subst (λ (z : RecordSide). Agrees Is y c z) (sym is) a in
            let yes_r : bytes_eq r.name r.name ≡ true = bytes-same r.name in
            let yes_c : bytes_eq c.state.name r.name ≡ true = ap (λ (n : List ℕ). bytes_eq n r.name) a_r.name ∙ yes_r in
            subst (λ (z : RecordSide). Agrees Is more (cond (bytes_eq c.state.name r.name) (f c) c) (cond (bytes_eq z.name r.name) (g z) z)) is
            (both-ways c r yes_c yes_r (here c (subst (λ (n : ℕ). At cs n c) (sym same) in_cs) a_r))
        | inr other ↦
            let no_q : bytes_eq q.name r.name ≡ false = bytes-other q.name r.name other.0 in
            let no_c : bytes_eq c.state.name r.name ≡ false = ap (λ (n : List ℕ). bytes_eq n r.name) a.name ∙ no_q in
            neither c q no_c no_q (there j c q in_rs other.1 a)
      ])
    where
      both-ways : (c : Record) (q : RecordSide) → bytes_eq c.state.name r.name ≡ true → bytes_eq q.name r.name ≡ true → Agrees Is more (f c) (g q) → Agrees Is more (cond (bytes_eq c.state.name r.name) (f c) c) (cond (bytes_eq q.name r.name) (g q) q)
      both-ways c q s t a =
          subst (λ (b : Bool). Agrees Is more (cond b (f c) c) (cond (bytes_eq q.name r.name) (g q) q)) (sym s)
          (subst (λ (b : Bool). Agrees Is more (f c) (cond b (g q) q)) (sym t) a)

      neither : (c : Record) (q : RecordSide) → bytes_eq c.state.name r.name ≡ false → bytes_eq q.name r.name ≡ false → Agrees Is more c q → Agrees Is more (cond (bytes_eq c.state.name r.name) (f c) c) (cond (bytes_eq q.name r.name) (g q) q)
      neither c q s t a =
          subst (λ (b : Bool). Agrees Is more (cond b (f c) c) (cond (bytes_eq q.name r.name) (g q) q)) (sym s)
          (subst (λ (b : Bool). Agrees Is more c (cond b (g q) q)) (sym t) a)

  -- a put that waits for a record
  pub waits-there : (y : List Entry) (c : Record) (r : RecordSide) (p : PutPlace) → Agrees Is y c r → In r.waiting p → (w : WaitingPut) × StillWaits y r.number p w.value
  waits-there y c r p a h = (let b = beside-left (WaitsAs Is y r.number) r.waiting c.waiting h.0 p a.each h.1 in (b.0, b.2.0))

  -- no put of which the log does not tell waits, or makes a record busy
  untold-waits : (y : List Entry) (c : Record) (r : RecordSide) (p : PutPlace) → IsUntold y p → Agrees Is y c r → In r.waiting p → ⊥
  untold-waits y c r p untold a h = (let w = waits-there y c r p a h in untold (Waits p.circuit p.place r.number w.1.v) w.1.came refl)

-- ---- the whole life

module _ (Came : (Circuit → (k i : ℕ) → Type 0) → PutPlace → (i : ℕ) → Elements → Type 0) (Lost : PutPlace → (i : ℕ) → Type 0) (Is : PutPlace → Put → Type 0) where
  -- one more entry, by which no record comes or goes
  pub agree-told : (y : List Entry) (cs ds : List Record) (rs qs : List RecordSide) (n : ℕ) (e : Entry) → ((r : ℕ) → IsOf r e → r < n) → MayTell Came Lost y e → Both (Agrees Is (y ++ e ∷ [])) ds qs → AreOthers qs → Agree Came Lost Is y cs rs n → Agree Came Lost Is (y ++ e ∷ []) ds qs n
  agree-told y cs ds rs qs n e below may both others a = record {
    once = once-told Came Lost y e a.once may;
    each = both;
    others = others;
    numbers = λ r f h of_it. elim (In-snoc y e f h) [
      | inl old ↦ a.numbers r f old of_it
      | inr new ↦ below r (subst (λ (z : Entry). IsOf r z) new of_it)
    ];
  }

  -- an entry about a record that is there has its number
  pub below-all : (y : List Entry) (cs : List Record) (rs : List RecordSide) (n i : ℕ) (r : RecordSide) (q : ℕ) → At rs i r → Agree Came Lost Is y cs rs n → r.number ≡ q → q < n
  below-all y cs rs n i r q at a is =
      let there = beside-right (Agrees Is y) cs rs i r a.each at in
      subst (λ (z : ℕ). z < n) is (a.numbers r.number (Added r.number there.2.first) there.2.added refl)

  -- a write may be told as applied to a record that is there, if nothing was told of
  -- it, or it waits there
  may-apply : (y : List Entry) (c : Record) (r : RecordSide) (p : PutPlace) (v : Stored) (b : Bool) → kind_of v.value ≡ kind_of c.state.value → IsUntold y p → Agrees Is y c r → Came IsTaken p (length y) v.value → MayTell Came Lost y (Applied p.circuit p.place r.number v b)
  may-apply y c r p v b same untold a came = (
    λ h. untold (Applied p.circuit p.place h.0 h.1 h.2) h.3 refl,
    λ h. untold (Withdrawn p.circuit p.place) h refl,
    (a.first, a.added, same ∙ a.base),
    a.there,
    inl came,
  )

  -- A write is applied, and makes its record not busy.
  pub agree-applied : (y : List Entry) (cs : List Record) (rs : List RecordSide) (n : ℕ) (i : ℕ) (c : Record) (r : RecordSide) (p : PutPlace) (v : Stored) → At cs i c → At rs i r → IsUntold y p → Came IsTaken p (length y) v.value → kind_of v.value ≡ kind_of c.state.value → Agree Came Lost Is y cs rs n → Agree Came Lost Is (y ++ Applied p.circuit p.place r.number v false ∷ []) (with_record r.name (with_value v.value v.meta) cs) rs n
  agree-applied y cs rs n i c r p v in_cs in_rs untold came same a =
      let e : Entry = Applied p.circuit p.place r.number v false in
      let there = beside-right (Agrees Is y) cs rs i r a.each in_rs in
      let both = one-changes Is y (y ++ e ∷ []) cs rs i r (with_value v.value v.meta) (λ (q : RecordSide). q) a.others in_rs
      (λ d at b. agrees-applied Is y d r p v (same ∙ ap (λ (z : Record). kind_of z.state.value) (At-one cs i c d in_cs at)) (untold-waits Is y d r p untold b) b)
      (λ j d q at other b. agrees-spared Is y d q e (other, untold-waits Is y d q p untold b) b)
      a.each in
      agree-told y cs (with_record r.name (with_value v.value v.meta) cs) rs rs n e
      (λ q of_it. below-all y cs rs n i r q in_rs a of_it)
      (may-apply y c r p v false same untold (both-at (Agrees Is y) cs rs i c r a.each in_cs in_rs) came)
      (subst (λ (l : List RecordSide). Both (Agrees Is (y ++ e ∷ [])) (with_record r.name (with_value v.value v.meta) cs) l) (same-list r.name rs) both)
      a.others a
    where
      same-one : (b : Bool) (q : RecordSide) → cond b q q ≡ q
      same-one true q = refl
      same-one false q = refl

      same-list : (name : List ℕ) (qs : List RecordSide) → event.with_record name (λ (q : RecordSide). q) qs ≡ qs
      same-list name [] = refl
      same-list name (q ∷ qs) =
          ap (λ (z : RecordSide). z ∷ event.with_record name (λ (q : RecordSide). q) qs) (same-one (bytes_eq q.name name) q)
          ∙ ap (λ (l : List RecordSide). q ∷ l) (same-list name qs)

  -- A put is applied, and makes its record busy, which was not.
  pub agree-busied : (y : List Entry) (cs : List Record) (rs : List RecordSide) (n : ℕ) (i : ℕ) (c : Record) (r : RecordSide) (p : PutPlace) (b : Put) (v : Stored) → At cs i c → At rs i r → c.busy ≡ None → IsUntold y p → Came IsTaken p (length y) v.value → kind_of v.value ≡ kind_of c.state.value → Is p b → c.state.slow ≡ true → Agree Came Lost Is y cs rs n
      → Agree Came Lost Is (y ++ Applied p.circuit p.place r.number v true ∷ []) (with_record r.name (λ (d : Record). record (with_value v.value v.meta d) { busy = Some b }) cs) (event.with_record r.name (λ (q : RecordSide). record q { busy = Some p }) rs) n
  agree-busied y cs rs n i c r p b v in_cs in_rs idle untold came same is_it slow a =
      let e : Entry = Applied p.circuit p.place r.number v true in
      let there = beside-right (Agrees Is y) cs rs i r a.each in_rs in
      let both = one-changes Is y (y ++ e ∷ []) cs rs i r (λ (d : Record). record (with_value v.value v.meta d) { busy = Some b }) (λ (q : RecordSide). record q { busy = Some p }) a.others in_rs
      (λ d at g.
      let is : c ≡ d = At-one cs i c d in_cs at in
      let free : d.busy ≡ None = ap (λ (z : Record). z.busy) (sym is) ∙ idle in
      let none : r.busy ≡ None = both-none r.busy d.busy free g.busy_as in
      let g1 : Agrees Is y (record d { busy = None }) r = subst (λ (o : Option Put). Agrees Is y (record d { busy = o }) r) free g in
      let g2 : Agrees Is y (record d { busy = None }) (record r { busy = None }) = subst (λ (o : Option PutPlace). Agrees Is y (record d { busy = None }) (record r { busy = o })) none g1 in
      agrees-busied Is y d.state b d.waiting r.name r.number p r.waiting v (same ∙ ap (λ (z : Record). kind_of z.state.value) is) (untold-waits Is y d r p untold g)
      (λ h. untold (Finished p.circuit p.place) h refl) is_it (ap (λ (z : Record). z.state.slow) (sym is) ∙ slow) g2)
      (λ j d q at other g. agrees-spared Is y d q e (other, untold-waits Is y d q p untold g) g)
      a.each in
      agree-told y cs (with_record r.name (λ (d : Record). record (with_value v.value v.meta d) { busy = Some b }) cs) rs (event.with_record r.name (λ (q : RecordSide). record q { busy = Some p }) rs) n e
      (λ q of_it. below-all y cs rs n i r q in_rs a of_it)
      (may-apply y c r p v true same untold (both-at (Agrees Is y) cs rs i c r a.each in_cs in_rs) came)
      both
      (others-with r.name (λ (q : RecordSide). record q { busy = Some p }) rs (λ q. (refl, refl)) a.others) a
    where
      both-none : (o : Option PutPlace) (d : Option Put) → d ≡ None → IsBusyAs Is o d → o ≡ None
      both-none None d e h = refl
      both-none (Some p) None e h = absurd h
      both-none (Some p) (Some d) e h = absurd cc

  -- A put comes to wait.
  pub agree-waits : (y : List Entry) (cs : List Record) (rs : List RecordSide) (n : ℕ) (i : ℕ) (c : Record) (r : RecordSide) (p : PutPlace) (w : WaitingPut) (meta : Meta) → At cs i c → At rs i r → kind_of w.value ≡ kind_of c.state.value → IsUntold y p → Came IsHandledIn p (length y) w.value → Is p w.put → Agree Came Lost Is y cs rs n
      → Agree Came Lost Is (y ++ Waits p.circuit p.place r.number (record { value = w.value; meta = meta }) ∷ []) (with_record r.name (with_waiting w) cs) (event.with_record r.name (λ (q : RecordSide). record q { waiting = q.waiting ++ p ∷ [] }) rs) n
  agree-waits y cs rs n i c r p w meta in_cs in_rs fits untold came is_it a =
      let v : Stored = record { value = w.value; meta = meta } in
      let e : Entry = Waits p.circuit p.place r.number v in
      let both = one-changes Is y (y ++ e ∷ []) cs rs i r (with_waiting w) (λ (q : RecordSide). record q { waiting = q.waiting ++ p ∷ [] }) a.others in_rs
      (λ d at g. agrees-waits Is y d r p w v refl (fits ∙ ap (λ (z : Record). kind_of z.state.value) (At-one cs i c d in_cs at)) untold is_it g)
      (λ j d q at other g. agrees-spared Is y d q e other g)
      a.each in
      agree-told y cs (with_record r.name (with_waiting w) cs) rs (event.with_record r.name (λ (q : RecordSide). record q { waiting = q.waiting ++ p ∷ [] }) rs) n e
      (λ q of_it. below-all y cs rs n i r q in_rs a of_it)
      (untold, came)
      both
      (others-with r.name (λ (q : RecordSide). record q { waiting = q.waiting ++ p ∷ [] }) rs (λ q. (refl, refl)) a.others) a

  -- A value is posted.
  pub agree-posted : (y : List Entry) (cs : List Record) (rs : List RecordSide) (n : ℕ) (i : ℕ) (c : Record) (r : RecordSide) (mask : ℕ) (v : Stored) → At cs i c → At rs i r → kind_of v.value ≡ kind_of c.state.value → Agree Came Lost Is y cs rs n → Agree Came Lost Is (y ++ Posted r.number mask v ∷ []) (with_record r.name (with_value v.value v.meta) cs) rs n
  agree-posted y cs rs n i c r mask v in_cs in_rs same a =
      let e : Entry = Posted r.number mask v in
      let both = one-changes Is y (y ++ e ∷ []) cs rs i r (with_value v.value v.meta) (λ (q : RecordSide). q) a.others in_rs
      (λ d at b. agrees-posted Is y d r mask v (same ∙ ap (λ (z : Record). kind_of z.state.value) (At-one cs i c d in_cs at)) b)
      (λ j d q at other b. agrees-spared Is y d q e other b)
      a.each in
      agree-told y cs (with_record r.name (with_value v.value v.meta) cs) rs rs n e
      (λ q of_it. below-all y cs rs n i r q in_rs a of_it)
      tt
      (subst (λ (l : List RecordSide). Both (Agrees Is (y ++ e ∷ [])) (with_record r.name (with_value v.value v.meta) cs) l) (same-list r.name rs) both)
      a.others a
    where
      same-one : (b : Bool) (q : RecordSide) → cond b q q ≡ q
      same-one true q = refl
      same-one false q = refl

      same-list : (name : List ℕ) (qs : List RecordSide) → event.with_record name (λ (q : RecordSide). q) qs ≡ qs
      same-list name [] = refl
      same-list name (q ∷ qs) =
          ap (λ (z : RecordSide). z ∷ event.with_record name (λ (q : RecordSide). q) qs) (same-one (bytes_eq q.name name) q)
          ∙ ap (λ (l : List RecordSide). q ∷ l) (same-list name qs)
