-- Vocabulary: the messages by name (section "CA Protocol Messages"). Fields that a message
-- does not name are 0.
use Rattle.std.specs.Prelude.{ℕ, ◌^◌, ◌-◌, ◌*◌, ◌+◌, ◌==◌, List, [], ◌∷◌, ◌++◌, replicate}
use Rattle.std.specs.Prelude.{slice_index_or}
use Rattle.std.specs.Int.{to_be_bytes, w64}
use Rattle.std.specs.List.{before_first}
use Rattle.ca_text.specs.Command.{command_number}
use Rattle.ca_text.specs.declared.command.Command.{Command}
use Rattle.ca_text.specs.declared.command.Command.TheVariants as command
use Rattle.ca_text.specs.Limits.{minor_version}
use Rattle.ca_text.specs.Status.{normal}
use Rattle.ca_wire.specs.Fields.{Fields, padded}
use Rattle.ca_wire.specs.Header.{header_spelling, number16}
use Rattle.ca_wire.specs.Message.{header_of}
-- What a request on a channel names: the SID, the IOID or subscription id, and the type and count
-- that are wanted (Wanted). The ids of a channel (ChannelIds). What a search found (Found), a
-- channel as it was created (Created), and what an answer or an update is about (Answered).
use Rattle.ca_wire.specs.declared.scalar_message.ScalarMessage.{ScalarMessage}
use Rattle.ca_wire.specs.declared.done.Done.{Done}
use Rattle.ca_wire.specs.declared.requests.Wanted.{Wanted}

-- a command alone: ECHO, EVENTS_OFF, EVENTS_ON ("CA_PROTO_ECHO", "CA_PROTO_EVENTS_OFF",
-- "CA_PROTO_EVENTS_ON")
abbrev pub header_only : Command → Fields
header_only c =
    record { command = command_number c; data_type = 0; count = 0; p1 = 0; p2 = 0; payload = [] }

-- a request on a channel, with this payload
abbrev pub on_channel : Command → Wanted → List ℕ → Fields
on_channel c w payload =
    record {
      command = command_number c;
      data_type = w.data_type;
      count = w.count;
      p1 = w.sid;
      p2 = w.id;
      payload = payload;
    }

-- ---- texts

-- a text in a payload: with a terminating zero
abbrev pub text_payload : List ℕ → List ℕ
text_payload text = padded (text ++ 0 ∷ [])

-- the text in a payload: up to its first zero, or all of it
abbrev pub text_in : List ℕ → List ℕ
text_in payload = before_first (λ b. b == 0) payload

-- ---- of the client

-- VERSION: the circuit's priority is its type, the minor version its count ("CA_PROTO_VERSION")
abbrev pub version_request : ℕ → Fields
version_request priority =
    record (header_only command.Version) { data_type = priority; count = minor_version }

-- CLIENT_NAME and HOST_NAME ("CA_PROTO_CLIENT_NAME", "CA_PROTO_HOST_NAME")
abbrev pub name_request : Command → List ℕ → Fields
name_request c text = record (header_only c) { payload = text_payload text }

-- SEARCH: the CID twice; the type 5 asks that an unknown name gets no answer ("CA_PROTO_SEARCH")
abbrev pub search_request : ℕ → List ℕ → Fields
search_request cid name =
    record (header_only command.Search) {
      data_type = 5;
      count = minor_version;
      p1 = cid;
      p2 = cid;
      payload = text_payload name;
    }

-- CREATE_CHAN ("CA_PROTO_CREATE_CHAN")
abbrev pub create_request : ℕ → List ℕ → Fields
create_request cid name =
    record (header_only command.CreateChannel) {
      p1 = cid;
      p2 = minor_version;
      payload = text_payload name;
    }

-- CLEAR_CHANNEL: the SID and the CID; its reply is the same ("CA_PROTO_CLEAR_CHANNEL")
abbrev pub clear_request : ℕ → ℕ → Fields
clear_request sid cid = record (header_only command.ClearChannel) { p1 = sid; p2 = cid }

-- READ_NOTIFY ("CA_PROTO_READ_NOTIFY")
abbrev pub read_request : Wanted → Fields
read_request w = on_channel command.ReadNotify w []

-- WRITE and WRITE_NOTIFY, with the bytes of the value ("CA_PROTO_WRITE", "CA_PROTO_WRITE_NOTIFY")
abbrev pub put_request : Command → Wanted → List ℕ → Fields
put_request c w bytes = on_channel c w (padded bytes)

-- the payload of an EVENT_ADD: three floats of 0, the mask, and padding
abbrev pub mask_payload : ℕ → List ℕ
mask_payload mask = replicate 12 0 ++ (number16 mask ++ replicate 2 0)

-- EVENT_ADD ("CA_PROTO_EVENT_ADD")
abbrev pub event_add_request : Wanted → ℕ → Fields
event_add_request w mask = on_channel command.EventAdd w (mask_payload mask)

-- EVENT_CANCEL: the type and count of the EVENT_ADD ("CA_PROTO_EVENT_CANCEL")
abbrev pub event_cancel_request : Wanted → Fields
event_cancel_request w = on_channel command.EventCancel w []

-- ---- of the server: m is the request

-- VERSION ("CA_PROTO_VERSION")
abbrev pub version_reply : Fields
version_reply = record (header_only command.Version) { count = minor_version }

-- SEARCH, answered: the TCP port, in place of an address 0xFFFFFFFF, the CID, and the minor
-- version ("CA_PROTO_SEARCH")
abbrev pub search_reply : ℕ → Fields → Fields
search_reply port m =
    record (header_only command.Search) {
      data_type = port;
      p1 = 2 ^ 32 - 1;
      p2 = m.p2;
      payload = number16 minor_version ++ replicate 6 0;
    }

-- NOT_FOUND: the type and the CID of the search ("CA_PROTO_NOT_FOUND")
abbrev pub not_found_reply : Fields → Fields
not_found_reply m =
    record (header_only command.NotFound) {
      data_type = m.data_type;
      count = minor_version;
      p1 = m.p2;
      p2 = m.p2;
    }

-- ACCESS_RIGHTS: the CID, and the bits 1 to read and 2 to write ("CA_PROTO_ACCESS_RIGHTS")
abbrev pub rights_reply : Fields → ℕ → Fields
rights_reply m bits = record (header_only command.AccessRights) { p1 = m.p1; p2 = bits }

-- CREATE_CHAN: the record's native type and greatest count, the CID and the SID
-- ("CA_PROTO_CREATE_CHAN")
abbrev pub created_reply : Fields → (data_type count sid : ℕ) → Fields
created_reply m data_type count sid =
    record (header_only command.CreateChannel) {
      data_type = data_type;
      count = count;
      p1 = m.p1;
      p2 = sid;
    }

-- CREATE_CH_FAIL: the CID ("CA_PROTO_CREATE_CH_FAIL")
abbrev pub failed_reply : Fields → Fields
failed_reply m = record (header_only command.CreateChannelFail) { p1 = m.p1 }

-- CLEAR_CHANNEL: the two ids of the request ("CA_PROTO_CLEAR_CHANNEL")
abbrev pub cleared_reply : Fields → Fields
cleared_reply m = clear_request m.p1 m.p2

-- READ_NOTIFY with its value: the type, how many elements, the IOID and their image
-- ("CA_PROTO_READ_NOTIFY")
abbrev pub value_reply : Fields → (count : ℕ) → List ℕ → Fields
value_reply m count image = record m { count = count; p1 = normal; payload = padded image }

-- READ_NOTIFY and WRITE_NOTIFY with a status alone: the request's type, count and IOID
-- ("CA_PROTO_READ_NOTIFY", "CA_PROTO_WRITE_NOTIFY")
abbrev pub status_reply : Fields → (status : ℕ) → Fields
status_reply m status = record m { p1 = status; payload = [] }

-- The confirmation of a cancel: an EVENT_ADD without payload, with the type, count and ids of the
-- request ("CA_PROTO_EVENT_CANCEL")
abbrev pub cancel_reply : Fields → Fields
cancel_reply m = record m { command = command_number command.EventAdd; payload = [] }

-- an answer or an update with one element, whose payload is eight bytes
abbrev pub scalar : ScalarMessage → Fields
scalar a =
    record {
      command = command_number a.command;
      data_type = a.data_type;
      count = 1;
      p1 = normal;
      p2 = a.id;
      payload = to_be_bytes w64 a.payload;
    }

-- the reply to a WRITE_NOTIFY of one element that was done ("CA_PROTO_WRITE_NOTIFY")
abbrev pub done : Done → Fields
done d =
    record {
      command = command_number command.WriteNotify;
      data_type = d.data_type;
      count = 1;
      p1 = normal;
      p2 = d.id;
      payload = [];
    }

-- what is in place of a CID if the SID is unknown ("CA_PROTO_ERROR")
abbrev pub no_cid : ℕ
no_cid = 2 ^ 32 - 1

-- ERROR: the CID, the status, and the request's header in its written form with an empty
-- text ("CA_PROTO_ERROR")
abbrev pub error_reply : ℕ → ℕ → Fields → Fields
error_reply cid status m =
    record (header_only command.Error) {
      p1 = cid;
      p2 = status;
      payload = header_spelling (header_of m) ++ replicate 8 0;
    }

-- An update: the type, how many elements, the status, the subscription id and the image
-- ("CA_PROTO_EVENT_ADD")
abbrev pub update : (data_type count status id : ℕ) → List ℕ → Fields
update data_type count status id image =
    record {
      command = command_number command.EventAdd;
      data_type = data_type;
      count = count;
      p1 = status;
      p2 = id;
      payload = padded image;
    }

-- SERVER_DISCONN: the CID ("CA_PROTO_SERVER_DISCONN")
abbrev pub disconnect : ℕ → Fields
disconnect cid = record (header_only command.ServerDisconnect) { p1 = cid }

-- ---- what is read of a message

-- the mask in an EVENT_ADD, after its three floats ("CA_PROTO_EVENT_ADD")
abbrev pub mask_in : Fields → ℕ
mask_in m = slice_index_or m.payload 12 0 * 256 + slice_index_or m.payload 13 0

-- what a request on a channel names
abbrev pub wanted_in : Fields → Wanted
wanted_in m = record { sid = m.p1; id = m.p2; data_type = m.data_type; count = m.count }
