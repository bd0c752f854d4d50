-- The commands of messages.
use Rattle.std.specs.Prelude.{ℕ}
use Rattle.ca_text.specs.declared.command.Command.{Command}
use Rattle.ca_text.specs.declared.command.Command.TheVariants.{Version, EventAdd, EventCancel}
use Rattle.ca_text.specs.declared.command.Command.TheVariants.{Write, Search, EventsOff, EventsOn}
use Rattle.ca_text.specs.declared.command.Command.TheVariants.{Error, ClearChannel, RsrvIsUp}
use Rattle.ca_text.specs.declared.command.Command.TheVariants.{NotFound, ReadNotify}
use Rattle.ca_text.specs.declared.command.Command.TheVariants.{RepeaterConfirm, CreateChannel}
use Rattle.ca_text.specs.declared.command.Command.TheVariants.{WriteNotify, ClientName, HostName}
use Rattle.ca_text.specs.declared.command.Command.TheVariants.{AccessRights, Echo, RepeaterRegister}
use Rattle.ca_text.specs.declared.command.Command.TheVariants.{CreateChannelFail, ServerDisconnect}

-- the number of a command in a header (section "CA Protocol Messages")
abbrev pub command_number : Command → ℕ
command_number Version = 0
command_number EventAdd = 1
command_number EventCancel = 2
command_number Write = 4
command_number Search = 6
command_number EventsOff = 8
command_number EventsOn = 9
command_number Error = 11
command_number ClearChannel = 12
command_number RsrvIsUp = 13
command_number NotFound = 14
command_number ReadNotify = 15
command_number RepeaterConfirm = 17
command_number CreateChannel = 18
command_number WriteNotify = 19
command_number ClientName = 20
command_number HostName = 21
command_number AccessRights = 22
command_number Echo = 23
command_number RepeaterRegister = 24
command_number CreateChannelFail = 26
command_number ServerDisconnect = 27
