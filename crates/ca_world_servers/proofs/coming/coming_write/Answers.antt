use Rattle.std.proofs.Common.{◌≡◌, ℕ, Option, Some, None, subst, ◌∙◌}
use Rattle.ca_dbr.specs.Elements.{Elements}
use Rattle.ca_dbr.specs.Held.{kind_of}
use Rattle.ca_ids.specs.Table.{under}
use Rattle.ca_records.specs.Record.{RecordState}
use Rattle.ca_server_core.specs.Asking.{NamesUnder}
use Rattle.ca_world_servers.specs.Coming.{GivesValue}
use Rattle.ca_world_servers.proofs.Forthcoming.{none-given, none-named, none-known, write-given}
use Rattle.ca_world_servers.proofs.coming.coming_write.Goals as goal

pub returns-in_default : goal.returns-in_default
returns-in_default c =
    let is : c.new.result ≡ c.args.message.now.p1 = c.new.ensures ∙ c.p1.ensures in
    let none : NamesUnder (under c.args.core.now.circuits c.args.circuit) c.args.message.now.p1 None =
    subst (λ (n : ℕ). NamesUnder (under c.args.core.now.circuits c.args.circuit) n None) is c.in_default.ensures in
    none-named c.args.core.now c.args.circuit c.args.message.now none

pub returns-in_default-record : goal.returns-in_default-record
returns-in_default-record c =
    let is : c.new.result ≡ c.args.message.now.p1 = c.new.ensures ∙ c.p1.ensures in
    let named : NamesUnder (under c.args.core.now.circuits c.args.circuit) c.args.message.now.p1 (Some c.in-Some.name.now) =
    subst (λ (n : ℕ). NamesUnder (under c.args.core.now.circuits c.args.circuit) n (Some c.in-Some.name.now)) is c.in-Some.ensures in
    none-known c.args.core.now c.args.circuit c.args.message.now c.in-Some.name.now named c.in_default-record.ensures

pub returns-in_default-2 : goal.returns-in_default-2
returns-in_default-2 c =
    let is : c.new.result ≡ c.args.message.now.p1 = c.new.ensures ∙ c.p1.ensures in
    let named : NamesUnder (under c.args.core.now.circuits c.args.circuit) c.args.message.now.p1 (Some c.in-Some.name.now) =
    subst (λ (n : ℕ). NamesUnder (under c.args.core.now.circuits c.args.circuit) n (Some c.in-Some.name.now)) is c.in-Some.ensures in
    let s : RecordState = c.in-Some-record.present.now in
    let given : GivesValue c.args.message.now (kind_of c.held.result.now) None =
    subst (λ (o : Option Elements). GivesValue c.args.message.now (kind_of c.held.result.now) o) c.in_default-2.is c.in_ok-given.ensures in
    let gives : GivesValue c.args.message.now (kind_of s.value) None = subst (λ (h : Elements). GivesValue c.args.message.now (kind_of h) None) c.held.ensures.held given in
    none-given c.args.core.now c.args.circuit c.args.message.now c.in-Some.name.now named s c.in-Some-record.ensures gives

pub returns : goal.returns
returns c =
    let is : c.new.result ≡ c.args.message.now.p1 = c.new.ensures ∙ c.p1.ensures in
    let named : NamesUnder (under c.args.core.now.circuits c.args.circuit) c.args.message.now.p1 (Some c.in-Some.name.now) =
    subst (λ (n : ℕ). NamesUnder (under c.args.core.now.circuits c.args.circuit) n (Some c.in-Some.name.now)) is c.in-Some.ensures in
    let s : RecordState = c.in-Some-record.present.now in
    let given : GivesValue c.args.message.now (kind_of c.held.result.now) (Some c.in-Some-2.given) =
    subst (λ (o : Option Elements). GivesValue c.args.message.now (kind_of c.held.result.now) o) c.in-Some-2.is c.in_ok-given.ensures in
    let gives : GivesValue c.args.message.now (kind_of s.value) (Some c.in-Some-2.given) = subst (λ (h : Elements). GivesValue c.args.message.now (kind_of h) (Some c.in-Some-2.given)) c.held.ensures.held given in
    write-given c.args.core.now c.args.circuit c.args.message.now c.in-Some.name.now named s c.in-Some-record.ensures
    (record { name = c.in_ok-name.name; held = c.in-Some-2.given; busies = c.makes_busy-busies.result }) c.in_ok-name.ensures.items c.makes_busy-busies.ensures gives
