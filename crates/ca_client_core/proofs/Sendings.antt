-- What a datagram made a client send.
use Rattle.std.proofs.Common.{◌≡◌, ◌∙◌, ℕ, ◌*◌, ◌≤◌, List, [], ◌∷◌, ◌++◌, Ok, ap, arith, length, refl, subst, sym}
use Rattle.std.specs.Prelude.{map}
use Rattle.std.proofs.lemmas.List.{append_assoc, length-append, length-map, map-append}
use Rattle.ca_dgram.specs.Datagram.{IsDatagram}
use Rattle.ca_wire.specs.Fields.{Fields}
use Rattle.ca_wire.specs.Message.{header_of}
use Rattle.ca_wire.specs.Stream.{Begins}
use Rattle.ca_wire.proofs.Headers.{header-long}
use Rattle.ca_model.specs.Answers as answer
use Rattle.ca_model.specs.Client.{Client}
use Rattle.ca_model.specs.ClientEnds.{Arrival, ClientReceives, ReceivesAll}
use Rattle.ca_model.specs.Hears.{Effect}
use Rattle.ca_client_tables.specs.Noting.{HaveSent, as_sent}
use Rattle.ca_client_tables.specs.Receiving.{HaveReceived, Parts, all_settled, parts_of, with_parts}
use Rattle.ca_client_tables.specs.declared.foretelling.Creation.{Creation}
use Rattle.ca_client_tables.specs.declared.receiving.Received.{Received}
use Rattle.ca_client_core.specs.declared.for_histories.Sending.{Sending}
use Rattle.ca_client_core.specs.ForHistories.{sending_of}
use Rattle.ca_client_core.proofs.Datagrams.{at_moment}

-- a message takes 16 bytes at least
messages-long : (bytes : List ℕ) (ms : List Fields) (rest : List ℕ) → Begins bytes ms rest → 16 * length ms ≤ length bytes
messages-long bytes [] rest begins = omega arith
messages-long bytes (m ∷ ms) rest (front, back, spells, are, begins) =
    let head = header-long spells.head (header_of m) spells.header in
    let one : length front ≡ length (spells.head ++ m.payload) = ap (λ (b : List ℕ). length b) spells.are in
    let parts = length-append spells.head m.payload in
    let all : length bytes ≡ length (front ++ back) = ap (λ (b : List ℕ). length b) are in
    let both = length-append front back in
    let others = messages-long back ms rest begins in
    omega (arith, head, one, parts, all, both, others)

pub received-so : (old new : Parts) (a : Arrival) (ms : List Fields) (ds : List Received) (cs : List Creation) → HaveSent old a.from ms ds cs new → HaveReceived old a.from ms ds new
received-so old new a ms ds cs have = λ x at. (let r = have x at in (r.0, r.1, r.2, r.4))

pub datagram-noted : (x : Client) (a : Arrival) (ms : List Fields) (ds : List Received) (cs : List Creation) (p : Parts) (new : Client) (sent : List Sending) → IsDatagram a.bytes ms → HaveSent (parts_of x) a.from ms ds cs p → length cs ≤ length ms
    → new ≡ all_settled ds (with_parts p (at_moment a x)) → map sending_of sent ≡ map as_sent cs → ClientReceives x a (Ok tt) (map sending_of sent) new × (16 * length sent ≤ length a.bytes)
datagram-noted x a ms ds cs p new sent is have few left are =
    let r = have (at_moment a x) refl in
    let told : r.0.sent ≡ map sending_of sent = r.3 ∙ sym are in
    let same : r.0 ≡ record { core = new; sent = map sending_of sent; notices = [] } =
    λ i. record { core = (r.4 ∙ sym left) i; sent = told i; notices = r.2 i } in
    let long = messages-long a.bytes ms is.rest is.stream.reads in
    let one = length-map sent sending_of in
    let other = length-map cs as_sent in
    let equal : length (map sending_of sent) ≡ length (map as_sent cs) = ap (λ (ss : List answer.Sending). length ss) are in
    ((ms, is, subst (λ (e : Effect). ReceivesAll a.from (at_moment a x) ms e) same r.1), omega (arith, long, one, other, equal, few))

-- one more is after what is sent
pub creations-more : (sent next : List Sending) (s : Sending) (o : Creation) (rest : List Creation) (total : List answer.Sending) → next ≡ sent ++ s ∷ [] → sending_of s ≡ as_sent o → map sending_of sent ++ map as_sent (o ∷ rest) ≡ total → map sending_of next ++ map as_sent rest ≡ total
creations-more sent next s o rest total grown is all =
    ap (λ (z : List Sending). map sending_of z ++ map as_sent rest) grown
    ∙ ap (λ (z : List answer.Sending). z ++ map as_sent rest) (map-append sending_of sent (s ∷ []))
    ∙ append_assoc (map sending_of sent) (sending_of s ∷ []) (map as_sent rest)
    ∙ ap (λ (z : answer.Sending). map sending_of sent ++ z ∷ map as_sent rest) is
    ∙ all
