-- Working: the state of an engine, and what its calls leave.
use Rattle.std.specs.Prelude.{ℕ, ◌≡◌, List, [], Option, Some, Ok, length, take}
use Rattle.ca_arena.specs.declared.handle.Handle.{Handle}
use Rattle.ca_ids.specs.Table.{under}
use Rattle.ca_records.specs.Record.{RecordState}
use Rattle.ca_records.specs.Rules.{Rule}
use Rattle.ca_text.specs.declared.refusal.Refusal.{Refusal}
use Rattle.ca_text.specs.declared.refusal.Refusal.TheVariants as refusal
use Rattle.ca_text.specs.Limits.{server_port}
use Rattle.ca_model.specs.Ends.{Why}
use Rattle.ca_model.specs.Ends as why
use Rattle.ca_model.specs.Server.{Open, Server, ServerCircuit, new_server}
use Rattle.ca_model.specs.ServerSteps.{Accepts, Sends, output_of}

-- A server, its circuit, and how many bytes wait there to be handed to the sink.
pub record EngineState : Type 0 where
  pub core : Server
  pub circuit : Handle
  pub waiting : ℕ

-- an engine of these rules and records on whose circuit no byte came
abbrev pub IsNew : List Rule → List RecordState → EngineState → Type 0
IsNew rules states x =
    Accepts (new_server server_port 0 rules states) (Ok x.circuit) x.core × (x.waiting ≡ 0)

-- the bytes that wait to be handed to the sink
abbrev pub what_waits : EngineState → List ℕ
what_waits x = take x.waiting (output_of (under x.core.circuits x.circuit))

-- they were handed over
abbrev pub HasSent : EngineState → EngineState → Type 0
HasSent x new =
    Sends x.core x.circuit (length (what_waits x)) new.core
    × (new ≡ record x { core = new.core; waiting = 0 })

-- what came on a circuit and was not read: nothing if its end is not open
abbrev pub unread : Option ServerCircuit → List ℕ
unread (Some (Open e)) = e.link.input.bytes
unread c = []

-- how many bytes the engine has to read
abbrev pub unread_size : EngineState → ℕ
unread_size x = length (unread (under x.core.circuits x.circuit))

-- the refusal that says why the end of a circuit ended
abbrev pub refusal_for : Why → Refusal
refusal_for why.Misaligned = refusal.Misaligned
refusal_for why.TooLarge = refusal.TooLarge
refusal_for w = refusal.OutOfMemory
