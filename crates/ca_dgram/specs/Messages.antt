-- Vocabulary: the messages that are in datagrams alone (section "CA Protocol Messages").
use Rattle.std.specs.Prelude.{ℕ, []}
use Rattle.ca_text.specs.declared.command.Command.TheVariants.{RsrvIsUp, RepeaterConfirm}
use Rattle.ca_text.specs.declared.command.Command.TheVariants.{RepeaterRegister}
use Rattle.ca_text.specs.Command.{command_number}
use Rattle.ca_text.specs.Limits.{minor_version}
use Rattle.ca_wire.specs.Fields.{Fields}

-- RSRV_IS_UP: the count is the server's TCP port, the first parameter the beacon's number; an
-- address of zero stands for the sender's
abbrev pub beacon_message : ℕ → ℕ → Fields
beacon_message number port =
    record {
      command = command_number RsrvIsUp;
      data_type = minor_version;
      count = port;
      p1 = number;
      p2 = 0;
      payload = [];
    }

-- REPEATER_REGISTER: the second parameter is the client's address
abbrev pub register_message : ℕ → Fields
register_message address =
    record {
      command = command_number RepeaterRegister;
      data_type = 0;
      count = 0;
      p1 = 0;
      p2 = address;
      payload = [];
    }

-- REPEATER_CONFIRM: the second parameter is the address 127.0.0.1
abbrev pub confirm_message : Fields
confirm_message =
    record {
      command = command_number RepeaterConfirm;
      data_type = 0;
      count = 0;
      p1 = 0;
      p2 = 0x7f000001;
      payload = [];
    }
