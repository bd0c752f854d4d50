use Rattle.std.proofs.Common.{◌∙◌, [], Ok, ap, refl, subst, sym, ℕ}
use Rattle.ca_text.specs.Command.{command_number}
use Rattle.ca_text.specs.declared.command.Command.TheVariants as command
use Rattle.ca_model.specs.Client.{channel_on}
use Rattle.ca_model.specs.Hears as hears
use Rattle.ca_model.specs.Hears.{becomes, doing, left}
use Rattle.ca_model.specs.Speech.{Is}
use Rattle.ca_client_core.specs.Dispatch.{IsOther}
use Rattle.ca_client_core.specs.First.{first_on}
use Rattle.ca_client_core.specs.Notices.{noticed}
use Rattle.ca_client_core.proofs.Dispatched.{created-header_only, has-hears, heard-first, of-no-command, of-other, rights-header_only}
use Rattle.ca_client_core.proofs.client.ClientCore.hear.Goals as goal

pub skip-requires-clause-other : goal.skip-requires-clause-other
skip-requires-clause-other c = of-no-command c.args.head.now.header.command (λ k e. c.in_default.ensures k e)

pub returns-in-Error : goal.returns-in-Error
returns-in-Error c =
    let is : Is command.Error (first_on c.args.self.now c.args.circuit c.args.head.now) = sym (ap command_number (sym c.in-Error.is) ∙ c.in-Some.ensures) in
    (doing [] (noticed c.hear_error.result) c.hear_error.new.self, hears.Error is c.hear_error.ensures, c.one.ensures, refl)

pub skip-requires-in_default-command-clause-other : goal.skip-requires-in_default-command-clause-other
skip-requires-in_default-command-clause-other c =
    let d = c.in_default-command in
    subst (λ (n : ℕ). IsOther n) c.in-Some.ensures
    (of-other c.in-Some.command d.not-Search d.not-AccessRights d.not-CreateChannel d.not-CreateChannelFail d.not-ClearChannel d.not-ServerDisconnect d.not-ReadNotify d.not-WriteNotify d.not-EventAdd d.not-Error)

pub returns-in-CreateChannel : goal.returns-in-CreateChannel
returns-in-CreateChannel c =
    let x = c.args.self.now in
    let m = first_on x c.args.circuit c.args.head.now in
    let y = c.take.new.self in
    let is : Is command.CreateChannel m = sym (ap command_number (sym c.in-CreateChannel.is) ∙ c.in-Some.ensures) in
    heard-first x c.args.circuit c.args.head.now c.hear_create_channel.result y c.hear_create_channel.new.self c.take.ensures
    (has-hears y c.args.circuit m _ c.hear_create_channel.result c.hear_create_channel.new.self (hears.CreateChannel is (created-header_only y c.args.circuit c.args.head.now.header m.payload (channel_on y c.args.circuit m.p1))) c.hear_create_channel.ensures)

pub returns-in-CreateChannelFail : goal.returns-in-CreateChannelFail
returns-in-CreateChannelFail c =
    let is : Is command.CreateChannelFail (first_on c.args.self.now c.args.circuit c.args.head.now) = sym (ap command_number (sym c.in-CreateChannelFail.is) ∙ c.in-Some.ensures) in
    heard-first c.args.self.now c.args.circuit c.args.head.now (Ok c.none.result) c.take-in-CreateChannelFail.new.self c.hear_create_channel_fail.new.self c.take-in-CreateChannelFail.ensures
    (becomes c.hear_create_channel_fail.new.self, hears.CreateChannelFail is c.hear_create_channel_fail.ensures, c.none.ensures, refl)

pub returns-in-AccessRights : goal.returns-in-AccessRights
returns-in-AccessRights c =
    let x = c.args.self.now in
    let m = first_on x c.args.circuit c.args.head.now in
    let y = c.take-in-AccessRights.new.self in
    let is : Is command.AccessRights m = sym (ap command_number (sym c.in-AccessRights.is) ∙ c.in-Some.ensures) in
    heard-first x c.args.circuit c.args.head.now (Ok c.none-in-AccessRights.result) y c.hear_access_rights.new.self c.take-in-AccessRights.ensures
    (becomes c.hear_access_rights.new.self, hears.AccessRights is (c.hear_access_rights.ensures ∙ rights-header_only y c.args.circuit c.args.head.now.header m.payload (channel_on y c.args.circuit m.p1)), c.none-in-AccessRights.ensures, refl)

pub returns-in-ServerDisconnect : goal.returns-in-ServerDisconnect
returns-in-ServerDisconnect c =
    let x = c.args.self.now in
    let m = first_on x c.args.circuit c.args.head.now in
    let y = c.take-in-ServerDisconnect.new.self in
    let is : Is command.ServerDisconnect m = sym (ap command_number (sym c.in-ServerDisconnect.is) ∙ c.in-Some.ensures) in
    heard-first x c.args.circuit c.args.head.now c.hear_server_disconnect.result y c.hear_server_disconnect.new.self c.take-in-ServerDisconnect.ensures
    (has-hears y c.args.circuit m (left y c.args.circuit (channel_on y c.args.circuit m.p1)) c.hear_server_disconnect.result c.hear_server_disconnect.new.self (hears.ServerDisconnect is refl) c.hear_server_disconnect.ensures)

pub returns-in-ClearChannel : goal.returns-in-ClearChannel
returns-in-ClearChannel c =
    let is : Is command.ClearChannel (first_on c.args.self.now c.args.circuit c.args.head.now) = sym (ap command_number (sym c.in-ClearChannel.is) ∙ c.in-Some.ensures) in
    heard-first c.args.self.now c.args.circuit c.args.head.now (Ok c.none-in-ClearChannel.result) c.take-in-ClearChannel.new.self c.hear_clear_channel.new.self c.take-in-ClearChannel.ensures
    (becomes c.hear_clear_channel.new.self, hears.ClearChannel is c.hear_clear_channel.ensures, c.none-in-ClearChannel.ensures, refl)
