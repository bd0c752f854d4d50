-- Puts that wait are withdrawn: those of circuits that end, those of a channel that is cleared, and
-- those of a record that is removed.
use Rattle.std.proofs.Common.{◌≡◌, ℕ, zero, suc, ◌+◌, ◌<◌, ◌≤◌, ◌⊎◌, inl, inr, Bool, true, false, cond, not, List, [], ◌∷◌, ◌++◌, length, refl, sym, ap, subst, ◌∙◌, append-nil, arith}
use Rattle.std.specs.Prelude.{filter, map}
use Rattle.std.specs.List.{flat_map}
use Rattle.ca_text.specs.Place.{At}
use Rattle.ca_text.proofs.Places.{some_is, At-after, At-append, At-mapped, At-parts, At-within}
use Rattle.ca_dbr.specs.Elements.{Elements}
use Rattle.ca_records.specs.declared.puts.Put.{Put}
use Rattle.ca_records.specs.Puts.{Record, WaitingPut, withdrawn, without_puts}
use Rattle.ca_model.specs.Speech.{In}
use Rattle.ca_model.specs.History.{Circuit, Entry, Applied, Removed, Waits, Withdrawn}
use Rattle.ca_model.specs.ServerEvents.{channel_withdrawals, places_where, with_core, withdrawals}
use Rattle.ca_model.specs.ServerEvents as event
use Rattle.ca_model.specs.World.{PutPlace, RecordSide}
use Rattle.ca_laws_parts.specs.Both.{Both}
use Rattle.ca_laws_parts.specs.Once.{HadWaited, IsApplied, IsLost, Once}
use Rattle.ca_laws_parts.specs.Agrees.{LoseAll, TestsAgree, Agree, Agrees, IsOf, StillWaits, WaitsAs, pair_of}
use Rattle.ca_laws_parts.proofs.WritesLists.{In-append, In-kept, In-snoc, beside-right, both-map, kept-in, length-more, none_at, take-whole}
use Rattle.ca_laws_parts.proofs.Once.{once-told}
use Rattle.ca_laws_parts.proofs.Records.{agrees-withdrawn, among-there, append-one, is_among, there-among, withdrawing}
use Rattle.ca_laws_parts.proofs.WritesLives.{others-map, waits-there}

-- ---- lists of lists

pub In-flat : {A B : Type 0} (f : A → List B) (xs : List A) (x : A) (y : B) → In xs x → In (f x) y → In (flat_map f xs) y
In-flat f [] x y h at = absurd (none_at h.0 x h.1)
In-flat {A} {B} f (z ∷ xs) x y h at = go h.0 h.1 (λ rest. In-flat f xs x y rest at)
  where
    later : In (flat_map f xs) y → In (f z ++ flat_map f xs) y
    later r = (_, At-after (f z) (flat_map f xs) r.0 y r.1)

    go : (k : ℕ) → At (z ∷ xs) k x → (In xs x → In (flat_map f xs) y) → In (f z ++ flat_map f xs) y
    go zero is more = (let e : z ≡ x = some_is z x is in let here : In (f z) y = subst (λ (w : A). In (f w) y) (sym e) at in In-append (f z) (flat_map f xs) y here)
    go (suc k) is more = later (more (k, is))

pub flat-in : {A B : Type 0} (f : A → List B) (xs : List A) (y : B) → In (flat_map f xs) y → (x : A) × In xs x × In (f x) y
flat-in f [] y h = absurd (none_at h.0 y h.1)
flat-in {A} {B} f (z ∷ xs) y h =
    elim (At-parts (f z) (flat_map f xs) h.0 y h.1) [
      | inl here ↦ (z, (0, refl), (h.0, here))
      | inr later ↦ (let r = flat-in f xs y (later.0, later.2) in (r.0, (suc r.1.0, r.1.1), r.2))
    ]

bool-same : (a b : Bool) → (a ≡ true → b ≡ true) → (b ≡ true → a ≡ true) → a ≡ b
bool-same true b f g = sym (f refl)
bool-same false true f g = g refl
bool-same false false f g = refl

-- ---- the log

module _ (Came : (Circuit → (k i : ℕ) → Type 0) → PutPlace → (i : ℕ) → Elements → Type 0) (Lost : PutPlace → (i : ℕ) → Type 0) where
  -- the log may withdraw puts that were not applied
  pub once-withdrawn : (y : List Entry) (ws : List PutPlace) → ((w : PutPlace) → In ws w → IsApplied y w → ⊥) → ((w : PutPlace) → In ws w → (r : ℕ) × (value : Elements) × HadWaited y w (length y) r value × (In y (Removed r) ⊎ ((i : ℕ) → length y ≤ i → Lost w i))) → Once Came Lost y → Once Came Lost (y ++ withdrawing ws)
  once-withdrawn y [] un lost once = subst (λ (l : List Entry). Once Came Lost l) (sym (append-nil y)) once
  once-withdrawn y (w ∷ ws) un lost once =
      let e : Entry = Withdrawn w.circuit w.place in
      subst (λ (l : List Entry). Once Came Lost l) (append-one y e (withdrawing ws))
      (once-withdrawn (y ++ e ∷ []) ws
      (λ u h ap. elim (In-snoc y e (Applied u.circuit u.place ap.0 ap.1 ap.2) ap.3) [
        | inl old ↦ un u (suc h.0, h.1) (ap.0, ap.1, ap.2, old)
        | inr new ↦ (let x : Applied u.circuit u.place ap.0 ap.1 ap.2 ≡ Withdrawn w.circuit w.place = new in cc)
      ])
      (λ u h. (let l = lost u (suc h.0, h.1) in let len : length (y ++ e ∷ []) ≡ length y + 1 = length-more y e in (
        l.0,
        l.1,
        (l.2.0, l.2.1, (let lt : l.2.0 < length y = l.2.2 in omega (arith, lt, len)), At-append y (e ∷ []) l.2.0 (Waits u.circuit u.place l.0 l.2.1) l.2.3, l.2.4),
        elim l.3 [ inl gone ↦ inl (In-append y (e ∷ []) (Removed l.0) gone) | inr rest ↦ inr (λ i le. rest i (omega (arith, le, len))) ],
      )))
      (once-told Came Lost y e once (un w (0, refl), now w (lost w (0, refl)))))
    where
      now : (w : PutPlace) → ((r : ℕ) × (value : Elements) × HadWaited y w (length y) r value × (In y (Removed r) ⊎ ((i : ℕ) → length y ≤ i → Lost w i))) → IsLost Came Lost y w (length y)
      now w l = (
        l.0,
        l.1,
        l.2,
        elim l.3 [
          | inl gone ↦ inl (subst (λ (x : List Entry). In x (Removed l.0)) (sym (take-whole y)) gone)
          | inr rest ↦ inr (rest (length y) (omega arith))
        ],
      )

-- a put that waits had waited
pub had-waited : (y : List Entry) (p : PutPlace) (r : ℕ) (value : Elements) → StillWaits y r p value → HadWaited y p (length y) r value
had-waited y p r value w = (w.came.0, w.v, At-within y w.came.0 (Waits p.circuit p.place r w.v) w.came.1, w.came.1, w.with_it)

pub numbers-withdrawn : (y : List Entry) (ws : List PutPlace) (n : ℕ) → ((i : ℕ) (e : Entry) → In y e → IsOf i e → i < n) → (i : ℕ) (e : Entry) → In (y ++ withdrawing ws) e → IsOf i e → i < n
numbers-withdrawn y ws n below i e h of_it =
    elim (At-parts y (withdrawing ws) h.0 e h.1) [
      | inl old ↦ below i e (h.0, old) of_it
      | inr new ↦ (let m = At-mapped (λ (q : PutPlace). Withdrawn q.circuit q.place) ws new.0 e new.2 in absurd (subst (λ (z : Entry). IsOf i z) m.2 of_it))
    ]

-- ---- by a test

-- the records without the waiting puts whose place passes the test
abbrev pub without_waiting : (PutPlace → Bool) → RecordSide → RecordSide
without_waiting which r = record r { waiting = filter (λ (p : PutPlace). not (which p)) r.waiting }

-- of all waiting puts, the places that pass
abbrev pub named_by : (PutPlace → Bool) → List RecordSide → List PutPlace
named_by which rs = flat_map (λ (r : RecordSide). filter which r.waiting) rs

named-among : (which : PutPlace → Bool) (rs : List RecordSide) (i : ℕ) (r : RecordSide) (p : PutPlace) → At rs i r → In r.waiting p → is_among (named_by which rs) (pair_of p) ≡ which p
named-among which rs i r p at waits =
    bool-same (is_among (named_by which rs) (pair_of p)) (which p)
    (λ e. (let h = flat-in (λ (q : RecordSide). filter which q.waiting) rs p (there-among (named_by which rs) p e) in (In-kept which h.0.waiting p h.2).1))
    (λ e. among-there (named_by which rs) p (In-flat (λ (q : RecordSide). filter which q.waiting) rs r p (i, at) (kept-in which r.waiting p waits e)))

module _ (Came : (Circuit → (k i : ℕ) → Type 0) → PutPlace → (i : ℕ) → Elements → Type 0) (Lost : PutPlace → (i : ℕ) → Type 0) (Is : PutPlace → Put → Type 0) where
  pub agree-withdrawn : (y : List Entry) (cs : List Record) (rs : List RecordSide) (n : ℕ) (which : PutPlace → Bool) (test : Put → Bool) → TestsAgree which test cs rs → LoseAll Lost which y rs → Agree Came Lost Is y cs rs n → Agree Came Lost Is (y ++ withdrawing (named_by which rs)) (withdrawn test cs) (map (without_waiting which) rs) n
  agree-withdrawn y cs rs n which test agree lose a =
      let ws : List PutPlace = named_by which rs in
      record {
        once = once-withdrawn Came Lost y ws (λ w h applied.
            let f = flat-in (λ (q : RecordSide). filter which q.waiting) rs w h in
            let there = beside-right (Agrees Is y) cs rs f.1.0 f.0 a.each f.1.1 in
            let s = waits-there Is y there.0 f.0 w there.2 (In-kept which f.0.waiting w f.2).0 in
            s.1.unapplied applied) (λ w h.
            let f = flat-in (λ (q : RecordSide). filter which q.waiting) rs w h in
            let there = beside-right (Agrees Is y) cs rs f.1.0 f.0 a.each f.1.1 in
            let k = In-kept which f.0.waiting w f.2 in
            let s = waits-there Is y there.0 f.0 w there.2 k.0 in
            (f.0.number, s.0.value, had-waited y w f.0.number s.0.value s.1, inr (λ i le. lose f.1.0 f.0 w f.1.1 k.0 k.1 i le))) a.once;
        each = both-map (Agrees Is y) (Agrees Is (y ++ withdrawing ws)) (without_puts test) (without_waiting which) cs rs a.each
            (λ i c r in_cs in_rs g. agrees-withdrawn Is y c r ws which test (λ p h. named-among which rs i r p in_rs h) (λ j p w at there. agree i j c r p w in_cs in_rs at there) g);
        others = others-map (without_waiting which) rs (λ r. (refl, refl)) a.others;
        numbers = numbers-withdrawn y ws n a.numbers;
      }

-- ---- of circuits that end

module _ (Came : (Circuit → (k i : ℕ) → Type 0) → PutPlace → (i : ℕ) → Elements → Type 0) (Lost : PutPlace → (i : ℕ) → Type 0) (Is : PutPlace → Put → Type 0) where
  -- Circuits end: `gone` names them by number, `lost` by what the core knows of a put.
  pub agree-gone : (y : List Entry) (cs : List Record) (rs : List RecordSide) (n : ℕ) (gone : ℕ → Bool) (lost : Put → Bool) → TestsAgree (λ (p : PutPlace). gone p.circuit) lost cs rs → LoseAll Lost (λ (p : PutPlace). gone p.circuit) y rs → Agree Came Lost Is y cs rs n → Agree Came Lost Is (y ++ withdrawals gone rs) (withdrawn lost cs) (map (event.without_puts gone) rs) n
  agree-gone y cs rs n gone lost agree lose a = agree-withdrawn Came Lost Is y cs rs n (λ (p : PutPlace). gone p.circuit) lost agree lose a

-- ---- of a channel that is cleared

-- those of the places whose put the test names, where a test of places agrees
places-filter : (Is : PutPlace → WaitingPut → Type 0) (test : Put → Bool) (which : PutPlace → Bool) (ps : List PutPlace) (ws : List WaitingPut) → Both Is ps ws → ((j : ℕ) (p : PutPlace) (w : WaitingPut) → At ps j p → At ws j w → which p ≡ test w.put) → places_where test ws ps ≡ filter which ps
places-filter Is test which [] [] both same = refl
places-filter Is test which [] (w ∷ ws) both same = absurd both
places-filter Is test which (p ∷ ps) [] both same = absurd both
places-filter Is test which (p ∷ ps) (w ∷ ws) both same =
    let rest = places-filter Is test which ps ws both.1 (λ j q u at there. same (suc j) q u at there) in
    ap (λ (l : List PutPlace). cond (test w.put) (p ∷ l) l) rest
    ∙ ap (λ (b : Bool). cond b (p ∷ filter which ps) (filter which ps)) (sym (same 0 p w refl refl))

module _ (Is : PutPlace → Put → Type 0) (y : List Entry) where
  -- the records beside the core's, without the puts of the channel
  pub channel-records : (h : _) (sid : ℕ) (which : PutPlace → Bool) (cs : List Record) (rs : List RecordSide) → Both (Agrees Is y) cs rs → TestsAgree which (event.is_of_channel h sid) cs rs → with_core (event.without_channel h sid) cs rs ≡ map (without_waiting which) rs
  channel-records h sid which [] [] both agree = refl
  channel-records h sid which [] (r ∷ rs) both agree = absurd both
  channel-records h sid which (c ∷ cs) [] both agree = absurd both
  channel-records h sid which (c ∷ cs) (r ∷ rs) both agree =
      let rest = channel-records h sid which cs rs both.1 (λ i j d x p w s t u v. agree (suc i) j d x p w s t u v) in
      let mine : places_where (λ (p : Put). not (event.is_of_channel h sid p)) c.waiting r.waiting ≡ filter (λ (p : PutPlace). not (which p)) r.waiting =
      places-filter (WaitsAs Is y r.number) (λ (p : Put). not (event.is_of_channel h sid p)) (λ (p : PutPlace). not (which p)) r.waiting c.waiting both.0.each (λ j p w at there. ap (λ (b : Bool). not b) (agree 0 j c r p w refl refl at there)) in
      λ i. record r { waiting = mine i } ∷ rest i

  -- and the places of those puts
  pub channel-places : (h : _) (sid : ℕ) (which : PutPlace → Bool) (cs : List Record) (rs : List RecordSide) → Both (Agrees Is y) cs rs → TestsAgree which (event.is_of_channel h sid) cs rs → flat_map (λ (ps : List PutPlace). ps) (with_core (λ (c : Record) (r : RecordSide). places_where (event.is_of_channel h sid) c.waiting r.waiting) cs rs) ≡ named_by which rs
  channel-places h sid which [] [] both agree = refl
  channel-places h sid which [] (r ∷ rs) both agree = absurd both
  channel-places h sid which (c ∷ cs) [] both agree = absurd both
  channel-places h sid which (c ∷ cs) (r ∷ rs) both agree =
      let rest = channel-places h sid which cs rs both.1 (λ i j d x p w s t u v. agree (suc i) j d x p w s t u v) in
      let mine : places_where (event.is_of_channel h sid) c.waiting r.waiting ≡ filter which r.waiting =
      places-filter (WaitsAs Is y r.number) (event.is_of_channel h sid) which r.waiting c.waiting both.0.each (λ j p w at there. agree 0 j c r p w refl refl at there) in
      λ i. mine i ++ rest i

module _ (Came : (Circuit → (k i : ℕ) → Type 0) → PutPlace → (i : ℕ) → Elements → Type 0) (Lost : PutPlace → (i : ℕ) → Type 0) (Is : PutPlace → Put → Type 0) where
  -- A channel is cleared: `which` names its puts by place.
  pub agree-cleared : (y : List Entry) (cs : List Record) (rs : List RecordSide) (n : ℕ) (h : _) (sid : ℕ) (which : PutPlace → Bool) → TestsAgree which (event.is_of_channel h sid) cs rs → LoseAll Lost which y rs → Agree Came Lost Is y cs rs n → Agree Came Lost Is (y ++ channel_withdrawals h sid cs rs) (withdrawn (event.is_of_channel h sid) cs) (with_core (event.without_channel h sid) cs rs) n
  agree-cleared y cs rs n h sid which agree lose a =
      let w = agree-withdrawn Came Lost Is y cs rs n which (event.is_of_channel h sid) agree lose a in
      let records = channel-records Is y h sid which cs rs a.each agree in
      let places = channel-places Is y h sid which cs rs a.each agree in
      subst (λ (l : List RecordSide). Agree Came Lost Is (y ++ channel_withdrawals h sid cs rs) (withdrawn (event.is_of_channel h sid) cs) l n) (sym records)
      (subst (λ (ws : List PutPlace). Agree Came Lost Is (y ++ withdrawing ws) (withdrawn (event.is_of_channel h sid) cs) (map (without_waiting which) rs) n) (sym places) w)
