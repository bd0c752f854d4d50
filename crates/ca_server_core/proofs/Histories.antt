-- Ends of circuits that ended in a call that did not report them.
use Rattle.std.proofs.Common.{◌≡◌, ℕ, true, false, List, Option, Some, None, refl, sym, ap, subst}
use Rattle.ca_arena.specs.declared.handle.Handle.{Handle}
use Rattle.ca_ids.specs.Table.{Table, same_handle, under}
use Rattle.ca_records.specs.declared.puts.Put.{Put}
use Rattle.ca_records.specs.Puts.{Record, withdrawn}
use Rattle.ca_model.specs.Server.{Ended, Open, Server, ServerCircuit}
use Rattle.ca_server_circuit.specs.Circuits.{is_open}
use Rattle.ca_server_circuit.specs.Concerned.{ConcernsOn}
use Rattle.ca_server_core.specs.ForHistories.{ConcernsUnder, EndsAt, IsOverAt, is_over}
use Rattle.ca_server_core.specs.Sound.{IsSound}
use Rattle.ca_server_core.proofs.Closing.{none-waits}

over-off : (o : Option ServerCircuit) → is_over o ≡ true → is_open o ≡ false
over-off (Some (Open e)) over = sym over
over-off (Some (Ended w left)) over = refl
over-off None over = refl

-- no put of one that is not open waits
none-withdrawn : (rs : List Record) (t : Table ServerCircuit) (h : Handle) → IsSound rs t → is_open (under t h) ≡ false → withdrawn (λ (p : Put). same_handle p.circuit h) rs ≡ rs
none-withdrawn rs t h sound off = none-waits rs t h sound (λ e there. (let on : is_open (under t h) ≡ true = ap is_open there in cc))

pub ends-over : (y : Server) (index : ℕ) (over : Option Handle) → IsSound y.records y.circuits → IsOverAt y.circuits index over → EndsAt y index over
ends-over y index (Some h) sound is =
    (is, ap (λ (rs : List Record). let z : Server = record y { records = rs } in z) (none-withdrawn y.records y.circuits h sound (over-off (under y.circuits h) is.1)))
ends-over y index None sound is = is

-- what a post concerns on the circuit that is there
concerned-so : (name : List ℕ) (mask place : ℕ) (c : ServerCircuit) (queue : Option ℕ) → ConcernsOn name mask place c queue → ConcernsUnder name mask place (Some c) queue
concerned-so name mask place (Open e) (Some n) d = d
concerned-so name mask place (Open e) None d = d
concerned-so name mask place (Ended w left) queue d = d

pub concerned-there : (name : List ℕ) (mask place : ℕ) (o : Option ServerCircuit) (c : ServerCircuit) (queue : Option ℕ) → o ≡ Some c → ConcernsOn name mask place c queue → ConcernsUnder name mask place o queue
concerned-there name mask place o c queue there d = subst (λ (z : Option ServerCircuit). ConcernsUnder name mask place z queue) (sym there) (concerned-so name mask place c queue d)
