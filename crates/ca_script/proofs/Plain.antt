-- Elements are written in their own plain type.
use Rattle.std.proofs.Common.{◌≡◌, ℕ, ◌+◌, List, refl, sym, ◌∙◌, arith}
use Rattle.std.specs.Prelude.{Result, Ok, Err, IfErr}
use Rattle.ca_text.specs.declared.refusal.Refusal.{Refusal}
use Rattle.ca_text.specs.declared.refusal.Refusal.TheVariants.{BadType, OutOfMemory}
use Rattle.ca_dbr.specs.declared.data_type.Form.TheVariants as form
use Rattle.ca_dbr.specs.declared.value.Meta.{Meta}
use Rattle.ca_dbr.specs.Elements.{Elements, base_of}
use Rattle.ca_dbr.specs.Image.{Writes}
use Rattle.ca_dbr.specs.Types.{base_number}

same : (n : ℕ) → n + 0 ≡ n
same n = omega arith

pub plain-written : (n : ℕ) (e : Elements) (m : Meta) (old new : List ℕ) (r : Result (Unit {0}) Refusal) → n ≡ base_number (base_of e) → Writes n e m old r new → IfErr r (λ why. why ≡ OutOfMemory)
plain-written n e m old new (Ok _) is h = tt
plain-written n e m old new (Err BadType) is h = absurd (h.0 (record { base = base_of e; form = form.Plain }) (record { numbered = same (base_number (base_of e)) ∙ sym is; based = refl }))
plain-written n e m old new (Err OutOfMemory) is h = refl
plain-written n e m old new (Err _) is h = absurd h
