-- Vocabulary: a datagram is taken, and what it makes the client send is told.
use Rattle.std.specs.Prelude.{◌≡◌, ◌*◌, ◌≤◌, Result, Ok, Err, Vec, length, map}
use Rattle.std.specs.declared.alloc.AllocError.{AllocError}
use Rattle.std.specs.declared.alloc.Global.{Global}
use Rattle.ca_wire.specs.Stream.{NoneBegins}
use Rattle.ca_model.specs.Client.{Client}
use Rattle.ca_model.specs.ClientEnds.{Arrival, ClientReceives}
use Rattle.ca_client_core.specs.declared.for_histories.Sending.{Sending}
use Rattle.ca_client_core.specs.ForHistories.{sending_of}

-- The datagram was taken, and these were sent, no more than one for each 16 of its bytes; or there
-- was no memory for a message in it, and nothing is changed.
abbrev pub NotesDatagram : Client → Arrival → Result (Vec Sending Global) AllocError → Client
    → Type 0
NotesDatagram old a (Ok sent) new =
    ClientReceives old a (Ok tt) (map sending_of sent.items) new
    × (16 * length sent.items ≤ length a.bytes)
NotesDatagram old a (Err _) new = (new ≡ old) × (NoneBegins a.bytes → ⊥)
