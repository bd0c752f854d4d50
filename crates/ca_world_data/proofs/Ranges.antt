-- One step more, and one number more.
use Rattle.std.proofs.Common.{◌≡◌, ℕ, zero, suc, ◌+◌, List, [], ◌∷◌, ◌++◌, refl, sym, ap, ◌∙◌, subst, arith}
use Rattle.std.specs.List.{FoldsTo, range_with_len}

-- R took p to q over xs, and then to r over one more
pub folds-more : {P A : Type 0} (R : P → A → P → Type 0) (xs : List A) (p q r : P) (x : A) → FoldsTo R p xs q → R q x r → FoldsTo R p (xs ++ x ∷ []) r
folds-more {P} R [] p q r x folds one = (r, subst (λ (s : P). R s x r) (sym folds) one, refl)
folds-more R (y ∷ ys) p q r x folds one = (folds.0, folds.1, folds-more R ys folds.0 q r x folds.2 one)

range-next : (from n : ℕ) → range_with_len from (suc n) ≡ range_with_len from n ++ (from + n) ∷ []
range-next from zero = let e : from ≡ from + 0 = omega arith in ap (λ (k : ℕ). k ∷ []) e
range-next from (suc n) =
    let e : from + 1 + n ≡ from + suc n = omega arith in
    ap (λ (l : List ℕ). from ∷ l) (range-next (from + 1) n ∙ ap (λ (k : ℕ). range_with_len (from + 1) n ++ k ∷ []) e)

pub range-more : (n : ℕ) → range_with_len 0 (n + 1) ≡ range_with_len 0 n ++ n ∷ []
range-more n =
    let e : n + 1 ≡ suc n = omega arith in
    let z : 0 + n ≡ n = omega arith in
    ap (λ (k : ℕ). range_with_len 0 k) e ∙ range-next 0 n ∙ ap (λ (k : ℕ). range_with_len 0 n ++ k ∷ []) z
