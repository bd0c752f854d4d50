use Rattle.std.proofs.Common.{◌≡◌, ℕ, Some, None, subst, ◌∙◌, arith}
use Rattle.ca_ids.specs.Table.{under}
use Rattle.ca_text.specs.Command.{command_number}
use Rattle.ca_text.specs.declared.command.Command.TheVariants as command
use Rattle.ca_server_core.specs.Asking.{NamesUnder}
use Rattle.ca_world_servers.proofs.Answered.{plain-answers, read-answers, recordless-answers, unserved-answers}
use Rattle.ca_world_servers.proofs.answering.reply_size.Goals as goal

pub returns-then-command-number : goal.returns-then-command-number
returns-then-command-number c =
    plain-answers c.args.core.now c.args.circuit c.args.message.now (λ is. omega (arith, c.if-command-number.true, c.command.ensures, c.number.ensures, is))

pub returns-in_default : goal.returns-in_default
returns-in_default c =
    let read : c.args.message.now.command ≡ command_number command.ReadNotify = omega (arith, c.if-command-number.false, c.command.ensures, c.number.ensures) in
    let named : NamesUnder (under c.args.core.now.circuits c.args.circuit) c.args.message.now.p1 None =
    subst (λ (n : ℕ). NamesUnder (under c.args.core.now.circuits c.args.circuit) n None) (c.new.ensures ∙ c.p1.ensures) c.in_default.ensures in
    unserved-answers c.args.core.now c.args.circuit c.args.message.now 0 read named

pub returns-in_default-record : goal.returns-in_default-record
returns-in_default-record c =
    let read : c.args.message.now.command ≡ command_number command.ReadNotify = omega (arith, c.if-command-number.false, c.command.ensures, c.number.ensures) in
    let named : NamesUnder (under c.args.core.now.circuits c.args.circuit) c.args.message.now.p1 (Some c.in-Some.name.now) =
    subst (λ (n : ℕ). NamesUnder (under c.args.core.now.circuits c.args.circuit) n (Some c.in-Some.name.now)) (c.new.ensures ∙ c.p1.ensures) c.in-Some.ensures in
    recordless-answers c.args.core.now c.args.circuit c.args.message.now 0 read c.in-Some.name.now named c.in_default-record.ensures

pub returns : goal.returns
returns c =
    let read : c.args.message.now.command ≡ command_number command.ReadNotify = omega (arith, c.if-command-number.false, c.command.ensures, c.number.ensures) in
    let named : NamesUnder (under c.args.core.now.circuits c.args.circuit) c.args.message.now.p1 (Some c.in-Some.name.now) =
    subst (λ (n : ℕ). NamesUnder (under c.args.core.now.circuits c.args.circuit) n (Some c.in-Some.name.now)) (c.new.ensures ∙ c.p1.ensures) c.in-Some.ensures in
    read-answers c.args.core.now c.args.circuit c.args.message.now c.shown_size.result read c.in-Some.name.now named c.in-Some-record.of.now c.in-Some-record.ensures c.shown_size.ensures
