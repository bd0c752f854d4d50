use Rattle.std.proofs.Common.{◌≡◌, ◌∙◌}
use Rattle.ca_dbr.specs.Elements.{elements}
use Rattle.ca_world_servers.proofs.Forthcoming.{gives-none, gives-read, gives-untyped}
use Rattle.ca_world_servers.proofs.coming.elements_in.Goals as goal

pub returns-in_default : goal.returns-in_default
returns-in_default c = gives-untyped c.args.message.now c.data_type.result c.data_type.ensures c.in_default.ensures

pub returns-in-Ok : goal.returns-in-Ok
returns-in-Ok c =
    let numbered : c.number.result ≡ c.args.message.now.data_type = c.number.ensures ∙ c.in-Some.ensures ∙ c.data_type.ensures in
    let read = c.in-Ok.ensures.read in
    gives-read c.args.message.now c.number.result c.count.result c.payload.result.now numbered c.count.ensures c.payload.ensures read.0 (elements c.in-Ok.value) c.in-Ok.field-0-1 read.1 read.2

pub returns-in_default-refusal : goal.returns-in_default-refusal
returns-in_default-refusal c =
    let numbered : c.number.result ≡ c.args.message.now.data_type = c.number.ensures ∙ c.in-Some.ensures ∙ c.data_type.ensures in
    gives-none c.args.message.now c.number.result c.count.result c.payload.result.now numbered c.count.ensures c.payload.ensures c.in-Err.refusal c.in_default-refusal.not-OutOfMemory c.in-Err.ensures.refused
