-- Working: the reply of a put that is finished, on its circuit.
use Rattle.std.specs.Prelude.{◌≡◌, ◌⊎◌, true, false, [], ◌∷◌, is_some}
use Rattle.ca_ids.specs.Table.{under}
use Rattle.ca_link.specs.Link.{with_sent}
use Rattle.ca_records.specs.declared.puts.Put.{Put}
use Rattle.ca_records.specs.Store.{Store}
use Rattle.ca_model.specs.Ends as why
use Rattle.ca_model.specs.Server.{ServerCircuit, ServerEnd}
use Rattle.ca_model.specs.Server as server
use Rattle.ca_model.specs.ServerCalls.{finish_reply}
use Rattle.ca_server_circuit.specs.Ending.{WithdrawsAll}

-- the end with the reply of a put
abbrev pub with_reply : Put → ServerEnd → ServerEnd
with_reply p e = record e { link = with_sent (finish_reply p ∷ []) e.link }

-- The reply goes out if the channel is open, or the end has ended out of memory for it.
abbrev pub RepliesAt : Put → ServerCircuit → Store → ServerCircuit → Store → Type 0
RepliesAt p (server.Open e) s new t =
    ((is_some (under e.channels p.channel) ≡ true) × (new ≡ server.Open (with_reply p e)) × (t ≡ s))
    ⊎ (((is_some (under e.channels p.channel) ≡ true)
    × (new ≡ server.Ended why.OutOfMemory e.link.output) × WithdrawsAll p.circuit s t)
    ⊎ ((is_some (under e.channels p.channel) ≡ false) × (new ≡ server.Open e) × (t ≡ s)))
RepliesAt p (server.Ended w left) s new t = (new ≡ server.Ended w left) × (t ≡ s)
