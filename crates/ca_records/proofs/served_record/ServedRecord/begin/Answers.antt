use Rattle.std.proofs.Common.{◌≡◌, ◌≢◌, ◌∙◌, None, Some, Ok, ap, inr, refl, subst}
use Rattle.ca_dbr.specs.Elements.{Elements, base_of, elements}
use Rattle.ca_dbr.specs.Held.{kind_of}
use Rattle.ca_records.specs.Judging.{converted_as}
use Rattle.ca_records.specs.Over.{in_place_of}
use Rattle.ca_records.specs.Puts.{Record}
use Rattle.ca_records.proofs.Beginnings.{begins-taken, is-fit, judged-fault}
use Rattle.ca_records.proofs.Placings.{given-placed, placed-held}
use Rattle.ca_records.proofs.served_record.ServedRecord.begin.Goals as goal

pub take-requires : goal.take-requires
take-requires c =
    let s = c.self.inside.record in
    let e = elements c.args.value in
    let v = elements c.in-Fits.value in
    let made : converted_as e (kind_of s.value) ≡ Ok v = subst (λ (h : Elements). converted_as e (kind_of h) ≡ Ok v) c.held.ensures.held c.in-Fits.ensures.0 in
    rw (← c.self.view_is) (is-fit s e (in_place_of s.value v) c.held.ensures.record c.requires.some (rw (← c.self.view_is) at c.requires.within) (given-placed c.args.value s.value v made) (placed-held s c.held.ensures.record v c.know.ensures.valued))

pub returns-in-Fits-clause-begins : goal.returns-in-Fits-clause-begins
returns-in-Fits-clause-begins c =
    let r = c.args.self.now in
    let e = elements c.args.value in
    let v = elements c.in-Fits.value in
    let is : c.held.result.now ≡ r.state.value = c.held.ensures.held ∙ ap (λ (r : Record). r.state.value) c.self.view_is in
    let made : converted_as e (kind_of r.state.value) ≡ Ok v = subst (λ (h : Elements). converted_as e (kind_of h) ≡ Ok v) is c.in-Fits.ensures.0 in
    begins-taken c.args.stamp r c.args.put e (in_place_of r.state.value v) c.take.result c.take.new.self
    (judged-fault r c.args.put c.args.value c.held.result.now c.is_crowded-is_crowded.result None is c.is_crowded-is_crowded.ensures c.in-Fits.ensures.1)
    (given-placed c.args.value r.state.value v made) c.take.ensures.takes c.take.ensures.memory

pub returns-in-Refused-clause-begins : goal.returns-in-Refused-clause-begins
returns-in-Refused-clause-begins c =
    let r = c.args.self.now in
    let is : c.held.result.now ≡ r.state.value = c.held.ensures.held ∙ ap (λ (r : Record). r.state.value) c.self.view_is in
    (judged-fault r c.args.put c.args.value c.held.result.now c.is_crowded-is_crowded.result (Some c.in-Refused.status.number) is c.is_crowded-is_crowded.ensures c.in-Refused.ensures, refl)

pub returns-in-NoMemory-clause-begins : goal.returns-in-NoMemory-clause-begins
returns-in-NoMemory-clause-begins c =
    let r = c.args.self.now in
    let e = elements c.args.value in
    let is : c.held.result.now ≡ r.state.value = c.held.ensures.held ∙ ap (λ (r : Record). r.state.value) c.self.view_is in
    let other : base_of e ≢ base_of r.state.value = subst (λ (h : Elements). base_of e ≢ base_of h) is c.in-NoMemory.ensures.1 in
    (judged-fault r c.args.put c.args.value c.held.result.now c.is_crowded-is_crowded.result None is c.is_crowded-is_crowded.ensures c.in-NoMemory.ensures.0, inr other, refl)
