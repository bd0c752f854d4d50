-- Working: the put whose reply a server's core awaits to send.
use Rattle.std.specs.Prelude.{ℕ, ◌≡◌, List, Some}
use Rattle.ca_records.specs.declared.puts.Put.{Put}
use Rattle.ca_records.specs.Puts.{Record, record_named}
use Rattle.ca_text.specs.Place.{At}
use Rattle.ca_model.specs.Server.{ServerEnd}
use Rattle.ca_model.specs.ServerCalls.{IsAwaited}
use Rattle.ca_model.specs.Speech.{In}
use Rattle.ca_model.specs.World.{PutPlace, RecordSide, ServerSide, World}
use Rattle.ca_laws_parts.specs.Kept.{kept}

-- A busy put whose end and channel the core has open is kept on the circuit where it came.
abbrev pub KeepsAwaited : World → Type 0
KeepsAwaited w =
    (i : ℕ) (y : ServerSide) (name : List ℕ) (c : Record) (b : Put) (r : RecordSide) (q : PutPlace)
    (e : ServerEnd) → At w.servers i y
    → record_named y.core.records name ≡ Some c → c.busy ≡ Some b → In y.records r → r.name ≡ name
    → r.busy ≡ Some q → IsAwaited y.core b e
    → In (kept w q.circuit) q.place
