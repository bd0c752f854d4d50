-- What an index of records says, and how it grows with them.
use Rattle.std.proofs.Common.{◌≡◌, ℕ, ◌<◌, ◌⊎◌, inl, inr, List, [], ◌∷◌, ◌++◌, length, Bool, true, false, cond, Option, None, Some, MatchOption, IfSome, refl, sym, ap, ◌∙◌}
use Rattle.std.specs.declared.cmp.Ordering.{Ordering}
use Rattle.std.specs.declared.cmp.Ordering.TheVariants.{Less, Equal, Greater}
use Rattle.std.specs.BTreeMap.{insert_entry}
use Rattle.std.specs.Cmp.Lexicographic.{slice_cmp}
use Rattle.std.specs.Ordering.{is_eq, nat_cmp, match_ordering}
use Rattle.std.specs.Str.{bytes_eq}
use Rattle.std.proofs.lemmas.Map.Text.{is_eq-slice_cmp}
use Rattle.std.proofs.lemmas.Slice.Eq.{bytes_eq-Decides}
use Rattle.ca_text.proofs.Places.{At-append, At-last, At-snoc, At-within}
use Rattle.ca_records.specs.Index.{IsIndex, place_of}
use Rattle.ca_records.specs.Record.{RecordState}
use Rattle.ca_records.specs.Records.{AreApart, IsServed, Names}

pub index-apart : (records : List RecordState) (f : List ℕ → Option ℕ) → IsIndex records f → AreApart records
index-apart records f index = λ i j a b p q e.
    let x : f a.name ≡ Some i = index.listed i a p in
    let y : f b.name ≡ Some j = index.listed j b q in
    cc

pub index-finds : (records : List RecordState) (f : List ℕ → Option ℕ) (name : List ℕ) (r : Option ℕ) → IsIndex records f → r ≡ f name → MatchOption r (IsServed records name → ⊥) (λ place. Names records name place)
index-finds records f name None index e = λ served.
    let named : served.1.state.name ≡ name = served.1.named in
    let x : f served.1.state.name ≡ Some served.0 = index.listed served.0 served.1.state served.1.at in
    absurd cc
index-finds records f name (Some place) index e = index.found name place (sym e)

pub index-within : (records : List RecordState) (f : List ℕ → Option ℕ) (name : List ℕ) (r : Option ℕ) → IsIndex records f → r ≡ f name → IfSome r (λ place. place < length records)
index-within records f name None index e = tt
index-within records f name (Some place) index e =
    let names = index.found name place (sym e) in At-within records place names.state names.at

true_or_false : (b : Bool) → (b ≡ true) ⊎ (b ≡ false)
true_or_false true = inl refl
true_or_false false = inr refl

-- the entry of a name in a map after one was put in, as that one's place among the
-- other entries is settled
put : {K : Type 0} (bytes : K → List ℕ) (e : K × ℕ) (es rest : List (K × ℕ)) (k : K) (v : ℕ) (name : List ℕ) (o : Ordering) → o ≡ slice_cmp nat_cmp (bytes k) (bytes e.0) → place_of bytes rest name ≡ cond (bytes_eq name (bytes k)) (Some v) (place_of bytes es name) → place_of bytes (match_ordering o ((k, v) ∷ e ∷ es) ((e.0, v) ∷ es) (e ∷ rest)) name ≡ cond (bytes_eq name (bytes k)) (Some v) (place_of bytes (e ∷ es) name)
put bytes e es rest k v name Less at more = rw is_eq-slice_cmp
put bytes e es rest k v name Equal at more =
    let one : bytes_eq (bytes k) (bytes e.0) ≡ true = sym (is_eq-slice_cmp (bytes k) (bytes e.0)) ∙ ap is_eq (sym at) in
    let same : bytes k ≡ bytes e.0 = (bytes_eq-Decides (bytes k) (bytes e.0)).0 one in
    rw (is_eq-slice_cmp, same)
    (elim (true_or_false (bytes_eq name (bytes e.0))) [ inl h ↦ rw (h) refl | inr h ↦ rw (h) refl ])
put bytes e es rest k v name Greater at more =
    let two : is_eq (slice_cmp nat_cmp (bytes k) (bytes e.0)) ≡ false = ap is_eq (sym at) in
    elim (true_or_false (bytes_eq name (bytes k))) [
      | inl h ↦
          let same : name ≡ bytes k = (bytes_eq-Decides name (bytes k)).0 h in
          let other : is_eq (slice_cmp nat_cmp name (bytes e.0)) ≡ false = rw same two in
          let there : place_of bytes rest name ≡ Some v = rw h at more in
          rw (other, h) there
      | inr h ↦
          let there : place_of bytes rest name ≡ place_of bytes es name = rw h at more in
          rw (h, there) refl
    ]

pub place_of-insert : {K : Type 0} (bytes : K → List ℕ) (es : List (K × ℕ)) (k : K) (v : ℕ) (name : List ℕ) → place_of bytes (insert_entry (λ x y. slice_cmp nat_cmp (bytes x) (bytes y)) es k v) name ≡ cond (bytes_eq name (bytes k)) (Some v) (place_of bytes es name)
place_of-insert bytes [] k v name = rw is_eq-slice_cmp
place_of-insert bytes (e ∷ es) k v name = put bytes e es (insert_entry (λ x y. slice_cmp nat_cmp (bytes x) (bytes y)) es k v) k v name (slice_cmp nat_cmp (bytes k) (bytes e.0)) refl (place_of-insert bytes es k v name)

-- an index after a record of a new name was put after the others
pub index-grows : (records : List RecordState) (r : RecordState) (f g : List ℕ → Option ℕ) → IsIndex records f → (IsServed records r.name → ⊥) → ((name : List ℕ) → g name ≡ cond (bytes_eq name r.name) (Some (length records)) (f name)) → IsIndex (records ++ r ∷ []) g
index-grows records r f g index new grown = record {
  found = λ name place e. elim (true_or_false (bytes_eq name r.name)) [
    | inl hit ↦
        let at : g name ≡ Some (length records) = rw hit at (grown name) in
        let here : place ≡ length records = cc in
        let same : name ≡ r.name = (bytes_eq-Decides name r.name).0 hit in
        record { state = r; at = rw here (At-last records r); named = sym same }
    | inr miss ↦
        let at : g name ≡ f name = rw miss at (grown name) in
        let names = index.found name place (sym at ∙ e) in
        record { state = names.state; at = At-append records (r ∷ []) place names.state names.at; named = names.named }
  ];
  listed = λ place state at. elim (At-snoc records r place state at) [
    | inl old ↦ elim (true_or_false (bytes_eq state.name r.name)) [
      | inl hit ↦ absurd (new (place, record { state = state; at = old; named = (bytes_eq-Decides state.name r.name).0 hit }))
      | inr miss ↦ let same : g state.name ≡ f state.name = rw miss at (grown state.name) in same ∙ index.listed place state old
    ]
    | inr last ↦
        let here : place ≡ length records = last.0 in
        let is : state ≡ r = last.1 in
        let hit : bytes_eq r.name r.name ≡ true = (bytes_eq-Decides r.name r.name).1 refl in
        let there : g r.name ≡ Some (length records) = rw hit at (grown r.name) in
        rw (here, is) there
  ];
}

-- the same, of the map that the code keeps
pub index-defined : {K : Type 0} (bytes : K → List ℕ) (entries after : List (K × ℕ)) (records list : List RecordState) (r : RecordState) (k : K) (place : ℕ) → IsIndex records (place_of bytes entries) → (IsServed records r.name → ⊥) → bytes k ≡ r.name → place ≡ length records → after ≡ insert_entry (λ x y. slice_cmp nat_cmp (bytes x) (bytes y)) entries k place → list ≡ records ++ r ∷ [] → IsIndex list (place_of bytes after)
index-defined bytes entries after records list r k place index new key here put_in behind =
    let grown : (name : List ℕ) → place_of bytes after name ≡ cond (bytes_eq name r.name) (Some (length records)) (place_of bytes entries name) =
    λ name. rw (put_in, ← key, ← here) (place_of-insert bytes entries k place name) in
    rw behind (index-grows records r (place_of bytes entries) (place_of bytes after) index new grown)
