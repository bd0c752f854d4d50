-- Plain types by their numbers.
use Rattle.std.proofs.Common.{◌≡◌, ℕ, ◌<◌, ◌==◌, List, [], ◌∷◌, Some, None, refl, ap, subst, arith}
use Rattle.std.specs.Prelude.{find}
use Rattle.std.proofs.lemmas.Bool.{ne_eqb}
use Rattle.ca_dbr.specs.declared.data_type.BaseType.{BaseType}
use Rattle.ca_dbr.specs.declared.data_type.BaseType.TheVariants as base
use Rattle.ca_dbr.specs.declared.data_type.DataType.{DataType}
use Rattle.ca_dbr.specs.declared.data_type.Form.{Form}
use Rattle.ca_dbr.specs.declared.data_type.Form.TheVariants as form
use Rattle.ca_dbr.specs.Types.{base_number, type_number}
use Rattle.ca_dbr.proofs.OneReading.{base_number-one, base_number-small}
use Rattle.ca_model.specs.Images.{base_type_of}

base-of-parts : (b : BaseType) → base_type_of (base_number b) ≡ Some b
base-of-parts base.String = refl
base-of-parts base.Int = refl
base-of-parts base.Float = refl
base-of-parts base.Enum = refl
base-of-parts base.Char = refl
base-of-parts base.Long = refl
base-of-parts base.Double = refl

pub base-of-number : (b : BaseType) (n : ℕ) → base_number b ≡ n → base_type_of n ≡ Some b
base-of-number b n is = subst (λ (k : ℕ). base_type_of k ≡ Some b) is (base-of-parts b)

no-base-in : (bs : List BaseType) (n : ℕ) → 6 < n → find (λ (b : BaseType). base_number b == n) bs ≡ None
no-base-in [] n over = refl
no-base-in (b ∷ bs) n over =
    let small : base_number b < 7 = base_number-small b in
    rw (ne_eqb (base_number b) n (λ e. absurd (omega arith))) (no-base-in bs n over)

-- a type with the number of a base type is that one, plain
plain-parts : (c b : BaseType) (f : Form) → (let t : DataType = record { base = c; form = f } in type_number t ≡ base_number b) → (let t : DataType = record { base = c; form = f } in let p : DataType = record { base = b; form = form.Plain } in t ≡ p)
plain-parts c b form.Plain is =
    let e : base_number c ≡ base_number b = omega (arith, is) in
    ap (λ (x : BaseType). let t : DataType = record { base = x; form = form.Plain } in t) (base_number-one c b e)
plain-parts c b form.Status is = (let small : base_number b < 7 = base_number-small b in absurd (omega (arith, is)))
plain-parts c b form.Time is = (let small : base_number b < 7 = base_number-small b in absurd (omega (arith, is)))

pub plain-is : (t : DataType) (b : BaseType) → type_number t ≡ base_number b → (let p : DataType = record { base = b; form = form.Plain } in t ≡ p)
plain-is t b is = plain-parts t.base b t.form is
