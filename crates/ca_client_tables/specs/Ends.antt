-- Working: what waits on one circuit, and what is left of it. No clause of a caller needs it.
use Rattle.std.specs.Prelude.{ℕ, ◌≡◌, ◌≢◌, ◌⊎◌, Bool, List, [], ◌∷◌, Option, Some, None, Result, Ok}
use Rattle.std.specs.Prelude.{Err, option_and_then, option_map, take, unwrap_or}
use Rattle.ca_arena.specs.declared.handle.Handle.{Handle}
use Rattle.ca_ids.specs.Table.{Table, under}
use Rattle.ca_text.specs.declared.command.Command.{Command}
use Rattle.ca_text.specs.declared.refusal.Refusal.{Refusal}
use Rattle.ca_text.specs.declared.refusal.Refusal.TheVariants as refusal
use Rattle.ca_link.specs.Link.{LinkState, with_given, with_handed, with_sent}
use Rattle.ca_monitor.specs.ReadRun.{after_read, sent_by_read}
use Rattle.ca_wire.specs.Fields.{Fields}
use Rattle.ca_wire.specs.Messages.{header_only}
use Rattle.ca_model.specs.Client.{ClientCircuit, Connection, Client, on_connection}

-- the bytes that wait on a circuit
abbrev pub waiting_in : ClientCircuit → List ℕ
waiting_in d = unwrap_or (option_map (λ (e : Connection). e.link.output) d.connection) []

-- those of the circuit of this handle, if it is connected
abbrev pub left_at : Table ClientCircuit → Handle → List ℕ
left_at t c =
    unwrap_or
    (option_map (λ (e : Connection). e.link.output)
    (option_and_then (λ (d : ClientCircuit). d.connection) (under t c)))
    []

-- the circuit of whose bytes the first n were handed over
abbrev pub handed : ℕ → ClientCircuit → ClientCircuit
handed n d =
    record d {
      connection = option_map
          (λ (e : Connection). record e { link = with_handed n e.link }) d.connection;
    }

-- the circuit on which only the first n bytes still wait
abbrev pub cut_in : ℕ → ClientCircuit → ClientCircuit
cut_in n d =
    record d {
      connection = option_map
          (λ (e : Connection). record e { link = record e.link { output = take n e.link.output } })
          d.connection;
    }

-- the link, with this command waiting after the others, if there is one
abbrev pub with_command : Option Command → LinkState → LinkState
with_command None l = l
with_command (Some k) l = with_sent (header_only k ∷ []) l

-- an end to which these bytes came at this moment, while more wait or none
abbrev pub read_given : ℕ → List ℕ → Bool → Connection → Connection
read_given moment bytes more e = record {
  link = with_command (sent_by_read more e.run) (with_given moment bytes e.link);
  run = after_read more e.run;
}

-- a read of an end, or of none
abbrev pub GivesOn : ℕ → List ℕ → Bool → Option Connection → Result (Unit {0}) Refusal
    → Option Connection → Type 0
GivesOn moment bytes more None (Err refusal.CircuitClosed) new = new ≡ None
GivesOn moment bytes more (Some e) (Ok _) new = new ≡ Some (read_given moment bytes more e)
GivesOn moment bytes more (Some e) (Err refusal.OutOfMemory) new =
    ((bytes ≢ []) ⊎ (sent_by_read more e.run ≢ None)) × (new ≡ Some e)
GivesOn moment bytes more there _ new = ⊥

-- a read on a circuit
abbrev pub GivesAt : ℕ → List ℕ → Bool → ClientCircuit → Result (Unit {0}) Refusal → ClientCircuit
    → Type 0
GivesAt moment bytes more old answer new =
    (there : Option Connection) × GivesOn moment bytes more old.connection answer there
    × (new ≡ record old { connection = there })

-- the circuit with this message waiting after the others, if it is connected
abbrev pub queued : Fields → ClientCircuit → ClientCircuit
queued m d =
    record d {
      connection = option_map
          (λ (e : Connection). record e { link = with_sent (m ∷ []) e.link }) d.connection;
    }

-- the client with these messages waiting on this circuit
abbrev pub with_messages : Handle → List Fields → Client → Client
with_messages c ms x =
    on_connection (λ (e : Connection). record e { link = with_sent ms e.link }) c x

-- the end of which only the first n bytes still wait
abbrev pub cut_end : ℕ → Connection → Connection
cut_end n e = record e { link = record e.link { output = take n e.link.output } }

-- the client with only the first n bytes waiting on this circuit
abbrev pub cut_back : Handle → ℕ → Client → Client
cut_back c n x = on_connection (cut_end n) c x

-- the client with this message waiting on this circuit
abbrev pub with_message : Handle → Fields → Client → Client
with_message c m x =
    on_connection (λ (e : Connection). record e { link = with_sent (m ∷ []) e.link }) c x
