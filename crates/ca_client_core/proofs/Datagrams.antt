-- A datagram that came to a client.
use Rattle.std.proofs.Common.{◌≡◌, ◌≢◌, ◌∙◌, ℕ, true, false, List, [], ◌∷◌, Result, Ok, Err, refl, subst, sym}
use Rattle.std.specs.Prelude.{IsErr, Vec}
use Rattle.std.specs.declared.alloc.AllocError.{AllocError}
use Rattle.std.specs.declared.alloc.Global.{Global}
use Rattle.ca_text.specs.declared.refusal.Refusal.{Refusal}
use Rattle.ca_text.specs.declared.refusal.Refusal.TheVariants as refusal
use Rattle.ca_dgram.specs.Datagram.{IsDatagram, Reads}
use Rattle.ca_wire.specs.Fields.{Fields}
use Rattle.ca_wire.specs.Stream.{NoneBegins}
use Rattle.ca_arena.specs.declared.handle.Handle.{Handle}
use Rattle.ca_model.specs.Client.{Client, later}
use Rattle.ca_model.specs.ClientEnds.{Arrival}
use Rattle.ca_client_tables.specs.Receiving.{HaveReceived, Parts, all_settled, parts_of, with_parts}
use Rattle.ca_client_tables.specs.declared.receiving.Received.{Received}
use Rattle.ca_client_core.specs.declared.for_histories.Sending.{Sending as Foretells}
use Rattle.ca_client_core.specs.ForDatagrams.{NotesDatagram}
use Rattle.ca_client_core.proofs.Arriving.{IsSoundWith, sound-all}

-- the client at the moment of the datagram
abbrev pub at_moment : Arrival → Client → Client
at_moment a x = record x { moment = later a.now x }

-- its parts are sound still
pub datagram-sound : (ls : List (List Handle)) (x : Client) (a : Arrival) (ms : List Fields) (ds : List Received) (p : Parts) (new : Client) → HaveReceived (parts_of x) a.from ms ds p → new ≡ all_settled ds (with_parts p (at_moment a x)) → IsSoundWith ls x → IsSoundWith ls new
datagram-sound ls x a ms ds p new have left sound =
    let r = have (at_moment a x) refl in
    let before : IsSoundWith ls (at_moment a x) = record { client = sound.client; placed = sound.placed; listed = sound.listed } in
    subst (IsSoundWith ls) (r.3 ∙ sym left) (sound-all ls a.from ms (at_moment a x) r.0 r.1 before)

pub some-begins : (bytes : List ℕ) (ms : List Fields) → IsDatagram bytes ms → ms ≢ [] → NoneBegins bytes → ⊥
some-begins bytes [] is some none = some refl
some-begins bytes (m ∷ ms) is some none =
    let reads = is.stream.reads in
    none m reads.0 reads.1 reads.2 reads.3

-- one that was not read has a message
pub unread-begins : (bytes : List ℕ) (r : Result (List Fields) Refusal) → Reads bytes r → ((ms : List Fields) → r ≡ Ok ms → ⊥) → NoneBegins bytes → ⊥
unread-begins bytes (Ok ms) reads not = absurd (not ms refl)
unread-begins bytes (Err refusal.OutOfMemory) reads not = some-begins bytes reads.0 reads.1 reads.2
unread-begins bytes (Err _) reads not = absurd reads

-- it is not noted, if there was no memory for a message in it
pub noted-refused : (x : Client) (a : Arrival) (r : Result (Vec Foretells Global) AllocError) → IsErr r → (NoneBegins a.bytes → ⊥) → NotesDatagram x a r x
noted-refused x a (Ok v) is some = let no : false ≡ true = is in absurd cc
noted-refused x a (Err e) is some = (refl, some)
