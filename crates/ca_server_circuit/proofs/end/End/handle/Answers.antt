use Rattle.std.proofs.Common.{refl, sym, ap, ◌∙◌}
use Rattle.ca_text.specs.Command.{command_number}
use Rattle.ca_text.specs.declared.command.Command.TheVariants as command
use Rattle.ca_server_circuit.specs.Handling.{known}
use Rattle.ca_server_circuit.specs.Stepping.{first_at, named_by}
use Rattle.ca_server_circuit.proofs.Handled.{does-cancel, does-clear, does-create, does-echo, does-for, does-host, does-nothing, does-off, does-on, does-reply, does-search, does-user, does-version, not-a-command, other-command}
use Rattle.ca_server_circuit.proofs.Replying.{if-told, if-then, ok-both, read-of}
use Rattle.ca_server_circuit.proofs.end.End.handle.Goals as goal

pub returns-in_default-clause-ok : goal.returns-in_default-clause-ok
returns-in_default-clause-ok c =
    does-nothing c.args.port c.args.records.now c.args.circuit c.args.self.now (first_at c.args.self.now.link.input.bytes c.args.head.now) (not-a-command c.args.head.now.header.command (λ d e. c.in_default.ensures d e))

pub returns-in-Version-clause-ok : goal.returns-in-Version-clause-ok
returns-in-Version-clause-ok c =
    if-told _ c.version.result _ c.version.ensures.tells (λ d. does-version c.args.port c.args.records.now c.args.circuit c.args.self.now (first_at c.args.self.now.link.input.bytes c.args.head.now) c.version.new.self (sym (ap command_number (sym c.in-Version.is) ∙ c.in-Some.ensures)) d) c.version.ensures.ok

pub returns-in-ClientName-clause-ok : goal.returns-in-ClientName-clause-ok
returns-in-ClientName-clause-ok c =
    if-told _ c.client_name.result _ c.client_name.ensures.tells (λ d. does-user c.args.port c.args.records.now c.args.circuit c.args.self.now (first_at c.args.self.now.link.input.bytes c.args.head.now) c.client_name.new.self (sym (ap command_number (sym c.in-ClientName.is) ∙ c.in-Some.ensures)) d) c.client_name.ensures.ok

pub returns-in-HostName-clause-ok : goal.returns-in-HostName-clause-ok
returns-in-HostName-clause-ok c =
    if-told _ c.host_name.result _ c.host_name.ensures.tells (λ d. does-host c.args.port c.args.records.now c.args.circuit c.args.self.now (first_at c.args.self.now.link.input.bytes c.args.head.now) c.host_name.new.self (sym (ap command_number (sym c.in-HostName.is) ∙ c.in-Some.ensures)) d) c.host_name.ensures.ok

pub returns-in-Echo-clause-ok : goal.returns-in-Echo-clause-ok
returns-in-Echo-clause-ok c =
    if-told _ c.echo.result _ c.echo.ensures.tells (λ d. does-echo c.args.port c.args.records.now c.args.circuit c.args.self.now (first_at c.args.self.now.link.input.bytes c.args.head.now) c.echo.new.self (sym (ap command_number (sym c.in-Echo.is) ∙ c.in-Some.ensures)) d) c.echo.ensures.ok

pub returns-in-Search-clause-ok : goal.returns-in-Search-clause-ok
returns-in-Search-clause-ok c =
    if-told _ c.search.result _ c.search.ensures.tells (λ d. does-search c.args.port c.args.records.now c.args.circuit c.args.self.now (first_at c.args.self.now.link.input.bytes c.args.head.now) c.search.new.self (sym (ap command_number (sym c.in-Search.is) ∙ c.in-Some.ensures)) d) c.search.ensures.ok

pub returns-in-CreateChannel-clause-ok : goal.returns-in-CreateChannel-clause-ok
returns-in-CreateChannel-clause-ok c =
    if-then c.create_chan.result (λ did d. does-create c.args.port c.args.records.now c.args.circuit c.args.self.now (first_at c.args.self.now.link.input.bytes c.args.head.now) c.create_chan.new.self did (sym (ap command_number (sym c.in-CreateChannel.is) ∙ c.in-Some.ensures)) (d c.args.port)) c.create_chan.ensures.ok

pub returns-in-ClearChannel-clause-ok : goal.returns-in-ClearChannel-clause-ok
returns-in-ClearChannel-clause-ok c =
    let did = ok-both c.clear_channel.result (λ done w. does-clear c.args.port c.args.records.now c.args.circuit c.args.self.now (first_at c.args.self.now.link.input.bytes c.args.head.now) c.clear_channel.new.records c.clear_channel.new.self (sym (ap command_number (sym c.in-ClearChannel.is) ∙ c.in-Some.ensures)) w done) c.clear_channel.ensures.ok c.clear_channel.ensures.records in
    if-told _ c.clear_channel.result _ c.clear_channel.ensures.tells (λ d. d) did

pub returns-in-ReadNotify-clause-ok : goal.returns-in-ReadNotify-clause-ok
returns-in-ReadNotify-clause-ok c =
    let is = sym (ap command_number (sym c.in-ReadNotify.is) ∙ c.in-Some.ensures) in
    let m = first_at c.args.self.now.link.input.bytes c.args.head.now in
    if-told _ c.read_notify.result _ c.read_notify.ensures.tells (λ d. does-reply c.args.port c.args.records.now c.args.circuit c.args.self.now m c.read_notify.new.self command.ReadNotify is refl refl refl (read-of (known c.args.port c.args.records.now c.args.self.now) c.args.self.now c.read_notify.new.self m (named_by c.args.head.now.header) is refl (d c.args.port))) c.read_notify.ensures.ok

pub returns-in-Write-clause-ok : goal.returns-in-Write-clause-ok
returns-in-Write-clause-ok c =
    if-then c.write.result (λ did d. does-for c.args.port c.args.records.now c.args.circuit c.args.self.now (first_at c.args.self.now.link.input.bytes c.args.head.now) did c.write.new.records c.write.new.self command.Write (sym (ap command_number (sym c.in-Write.is) ∙ c.in-Some.ensures)) refl refl (d c.args.port c.args.circuit)) c.write.ensures.ok

pub returns-in-WriteNotify-clause-ok : goal.returns-in-WriteNotify-clause-ok
returns-in-WriteNotify-clause-ok c =
    if-then c.write_notify.result (λ did d. does-for c.args.port c.args.records.now c.args.circuit c.args.self.now (first_at c.args.self.now.link.input.bytes c.args.head.now) did c.write_notify.new.records c.write_notify.new.self command.WriteNotify (sym (ap command_number (sym c.in-WriteNotify.is) ∙ c.in-Some.ensures)) refl refl (d c.args.port)) c.write_notify.ensures.ok

pub returns-in-EventAdd-clause-ok : goal.returns-in-EventAdd-clause-ok
returns-in-EventAdd-clause-ok c =
    if-then c.event_add.result (λ did d. does-for c.args.port c.args.records.now c.args.circuit c.args.self.now (first_at c.args.self.now.link.input.bytes c.args.head.now) did c.args.records.now c.event_add.new.self command.EventAdd (sym (ap command_number (sym c.in-EventAdd.is) ∙ c.in-Some.ensures)) refl refl (d c.args.port c.args.circuit)) c.event_add.ensures.ok

pub returns-in-EventCancel-clause-ok : goal.returns-in-EventCancel-clause-ok
returns-in-EventCancel-clause-ok c =
    if-told _ c.event_cancel.result _ c.event_cancel.ensures.tells (λ d. does-cancel c.args.port c.args.records.now c.args.circuit c.args.self.now (first_at c.args.self.now.link.input.bytes c.args.head.now) c.event_cancel.new.self (sym (ap command_number (sym c.in-EventCancel.is) ∙ c.in-Some.ensures)) d) c.event_cancel.ensures.ok

pub returns-in-EventsOff-clause-ok : goal.returns-in-EventsOff-clause-ok
returns-in-EventsOff-clause-ok c =
    let d = does-off c.args.port c.args.records.now c.args.circuit c.args.self.now (first_at c.args.self.now.link.input.bytes c.args.head.now) c.events_off.new.self (sym (ap command_number (sym c.in-EventsOff.is) ∙ c.in-Some.ensures)) c.events_off.ensures.off in
    rw c.events_off.ensures.tells d

pub returns-in-EventsOn-clause-ok : goal.returns-in-EventsOn-clause-ok
returns-in-EventsOn-clause-ok c =
    let d = does-on c.args.port c.args.records.now c.args.circuit c.args.self.now (first_at c.args.self.now.link.input.bytes c.args.head.now) c.events_on.new.self (sym (ap command_number (sym c.in-EventsOn.is) ∙ c.in-Some.ensures)) c.events_on.ensures.on in
    rw c.events_on.ensures.tells d

pub returns-in_default-command-clause-ok : goal.returns-in_default-command-clause-ok
returns-in_default-command-clause-ok c =
    let q = c.in_default-command in
    does-nothing c.args.port c.args.records.now c.args.circuit c.args.self.now (first_at c.args.self.now.link.input.bytes c.args.head.now) (other-command c.args.head.now.header.command c.in-Some.command (sym c.in-Some.ensures) q.not-Version q.not-EventAdd q.not-EventCancel q.not-Write q.not-Search q.not-EventsOff q.not-EventsOn q.not-ClearChannel q.not-ReadNotify q.not-CreateChannel q.not-WriteNotify q.not-ClientName q.not-HostName q.not-Echo)
