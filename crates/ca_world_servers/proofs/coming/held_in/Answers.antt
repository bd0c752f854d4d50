use Rattle.std.proofs.Common.{◌≡◌, Ok, Option, Some, None, subst, sym}
use Rattle.std.specs.Prelude.{option_map}
use Rattle.ca_dbr.specs.declared.value.Value.{Value}
use Rattle.ca_dbr.specs.Elements.{Elements, elements}
use Rattle.ca_dbr.specs.Held.{kind_of}
use Rattle.ca_records.specs.Given.{given_as}
use Rattle.ca_records.proofs.Placings.{given-placed}
use Rattle.ca_world_servers.specs.Coming.{GivesElements}
use Rattle.ca_world_servers.proofs.Forthcoming.{value-made, value-none, value-refused}
use Rattle.ca_world_servers.proofs.coming.held_in.Goals as goal

pub returns-in_default : goal.returns-in_default
returns-in_default c =
    let gives : GivesElements c.args.message.now None = subst (λ (o : Option Value). GivesElements c.args.message.now (option_map elements o)) c.in_default.is c.in_ok-given.ensures in
    value-none c.args.message.now (kind_of c.args.present.now) gives

pub returns-in-Ok : goal.returns-in-Ok
returns-in-Ok c =
    let h = c.args.present.now in
    let gives : GivesElements c.args.message.now (Some (elements c.in-Some.given)) = subst (λ (o : Option Value). GivesElements c.args.message.now (option_map elements o)) c.in-Some.is c.in_ok-given.ensures in
    let made : given_as (elements c.in-Some.given) (kind_of h) ≡ Ok c.in_ok-held-in-Ok.held = subst (λ (x : Elements). given_as (elements c.in-Some.given) (kind_of h) ≡ Ok x) (sym c.in_ok-held-in-Ok.ensures.ok) (given-placed c.in-Some.given h (elements c.in-Ok.value) c.in-Ok.ensures.ok) in
    value-made c.args.message.now (kind_of h) (elements c.in-Some.given) c.in_ok-held-in-Ok.held gives made

pub returns : goal.returns
returns c =
    let gives : GivesElements c.args.message.now (Some (elements c.in-Some.given)) = subst (λ (o : Option Value). GivesElements c.args.message.now (option_map elements o)) c.in-Some.is c.in_ok-given.ensures in
    value-refused c.args.message.now c.in-Some.given c.args.present.now c.in-Err.refusal gives c.in_default-refusal.not-OutOfMemory c.in-Err.ensures.err
