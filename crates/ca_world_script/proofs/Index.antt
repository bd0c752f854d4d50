-- What a map of types gives after one was put in.
use Rattle.std.proofs.Common.{◌≡◌, ℕ, Bool, true, false, cond, List, [], ◌∷◌, Option, Some, refl, sym, ap, ◌∙◌}
use Rattle.std.specs.Prelude.{◌==◌, ◌&&◌}
use Rattle.std.specs.Str.{bytes_eq}
use Rattle.std.proofs.lemmas.Bool.{eq-eqb, eqb-true}
use Rattle.std.proofs.lemmas.Slice.Eq.{bytes_eq-Decides}
use Rattle.indexmap.specs.IndexMap.{insert_entry}
use Rattle.ca_dbr.specs.declared.data_type.BaseType.{BaseType}
use Rattle.ca_world_script.specs.Index.{added_in}
use Rattle.ca_world_script.specs.Types.{Adds}

-- a key is this one
abbrev is_key : ℕ → List ℕ → ℕ × List ℕ → Bool
is_key s n p = s == p.0 && bytes_eq n p.1

both : (a b : Bool) → (a && b) ≡ true → (a ≡ true) × (b ≡ true)
both true b h = (refl, h)
both false b h = absurd cc

and_true : (a b : Bool) → a ≡ true → b ≡ true → (a && b) ≡ true
and_true true b p q = q
and_true false b p q = absurd cc

is-key : (s : ℕ) (n : List ℕ) (p : ℕ × List ℕ) → is_key s n p ≡ true → (s ≡ p.0) × (n ≡ p.1)
is-key s n p h =
    let parts = both (s == p.0) (bytes_eq n p.1) h in
    (eqb-true s p.0 parts.0, (bytes_eq-Decides n p.1).0 parts.1)

key-is : (s : ℕ) (n : List ℕ) (p : ℕ × List ℕ) → s ≡ p.0 → n ≡ p.1 → is_key s n p ≡ true
key-is s n p a b = and_true (s == p.0) (bytes_eq n p.1) (eq-eqb s p.0 a) ((bytes_eq-Decides n p.1).1 b)

hit-one : (x y : Bool) (b v : BaseType) (l : Option BaseType) → x ≡ y → cond y (Some b) l ≡ cond x (Some b) (cond y (Some v) l)
hit-one true true b v l h = refl
hit-one true false b v l h = absurd cc
hit-one false true b v l h = absurd cc
hit-one false false b v l h = refl

miss-one : (x y : Bool) (b v : BaseType) (l m : Option BaseType) → (x ≡ true → y ≡ true → ⊥) → m ≡ cond x (Some b) l → cond y (Some v) m ≡ cond x (Some b) (cond y (Some v) l)
miss-one true true b v l m apart is = absurd (apart refl refl)
miss-one true false b v l m apart is = is
miss-one false true b v l m apart is = refl
miss-one false false b v l m apart is = is

module _ {K : Type 0} (key : K → ℕ × List ℕ) where
  abbrev pub same_key : K → K → Bool
  same_key x y = is_key (key x).0 (key x).1 (key y)

  put : (e : K × BaseType) (es rest : List (K × BaseType)) (k : K) (b : BaseType) (s : ℕ) (n : List ℕ) (h : Bool) → same_key k e.0 ≡ h → added_in key rest s n ≡ cond (is_key s n (key k)) (Some b) (added_in key es s n) → added_in key (cond h ((e.0, b) ∷ es) (e ∷ rest)) s n ≡ cond (is_key s n (key k)) (Some b) (added_in key (e ∷ es) s n)
  put e es rest k b s n true hit more =
      let one = is-key (key k).0 (key k).1 (key e.0) hit in
      hit-one (is_key s n (key k)) (is_key s n (key e.0)) b e.1 (added_in key es s n) (λ i. is_key s n (one.0 i, one.1 i))
  put e es rest k b s n false miss more =
      miss-one (is_key s n (key k)) (is_key s n (key e.0)) b e.1 (added_in key es s n) (added_in key rest s n)
      (λ p q.
      let x = is-key s n (key k) p in
      let y = is-key s n (key e.0) q in
      let one : same_key k e.0 ≡ true = key-is (key k).0 (key k).1 (key e.0) (sym x.0 ∙ y.0) (sym x.1 ∙ y.1) in
      absurd cc)
      more

  put-all : (es : List (K × BaseType)) (k : K) (b : BaseType) (s : ℕ) (n : List ℕ) → added_in key (insert_entry same_key es k b) s n ≡ cond (is_key s n (key k)) (Some b) (added_in key es s n)
  put-all [] k b s n = refl
  put-all (e ∷ es) k b s n = put e es (insert_entry same_key es k b) k b s n (same_key k e.0) refl (put-all es k b s n)

  other-key : (s : ℕ) (n : List ℕ) (p : ℕ × List ℕ) (c : Bool) → is_key s n p ≡ c → ((s ≡ p.0) × (n ≡ p.1) → ⊥) → c ≡ false
  other-key s n p true h nay = absurd (nay (is-key s n p h))
  other-key s n p false h nay = refl

  pub named-one : (es : List (K × BaseType)) (k : K) (b : BaseType) → Adds (key k).0 (key k).1 b (added_in key es) (added_in key (insert_entry same_key es k b))
  named-one es k b = record {
    own = put-all es k b (key k).0 (key k).1 ∙ ap (λ (c : Bool). cond c (Some b) (added_in key es (key k).0 (key k).1)) (key-is (key k).0 (key k).1 (key k) refl refl);
    others = λ s n other. put-all es k b s n ∙ ap (λ (c : Bool). cond c (Some b) (added_in key es s n)) (other-key s n (key k) (is_key s n (key k)) refl other);
  }
