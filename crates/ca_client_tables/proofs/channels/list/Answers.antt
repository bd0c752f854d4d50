use Rattle.std.proofs.Common.{◌∙◌, ap, sym}
use Rattle.ca_client_tables.specs.Forms.{standing_of}
use Rattle.ca_client_tables.specs.OnCircuits.{stood_on}
use Rattle.ca_client_tables.proofs.OnLists.{list-kept, list-own}
use Rattle.ca_client_tables.proofs.channels.list.Goals as goal

pub returns-clause-kept : goal.returns-clause-kept
returns-clause-kept c =
    list-kept c.add.result c.in-On.circuit.index c.args.index c.args.circuits.now c.add.new.self c.add.ensures.own c.add.ensures.err c.add.ensures.others

pub returns-clause-own : goal.returns-clause-own
returns-clause-own c ok o on =
    list-own c.add.result c.in-On.circuit.index c.args.index c.args.circuits.now c.add.new.self c.add.ensures.own (sym c.is_ok.ensures.value ∙ ok) o
    (sym (ap (λ s. stood_on (standing_of s)) c.in-On.is) ∙ on)
