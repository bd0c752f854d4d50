-- What a datagram that comes to a client makes of a world.
use Rattle.std.proofs.Common.{◌≡◌, ℕ, ◌+◌, ◌-◌, List, [], ◌∷◌, Result, Ok, Err, drop, length, take, refl, sym, ap, subst, ◌∙◌, arith}
use Rattle.std.specs.Prelude.{OnErr, map, slice_set}
use Rattle.std.proofs.lemmas.List.{length-drop, length-take-le, take-append-drop}
use Rattle.ca_text.specs.declared.refusal.Refusal.{Refusal}
use Rattle.ca_text.specs.declared.refusal.Refusal.TheVariants.{OutOfMemory}
use Rattle.ca_text.specs.Place.{At}
use Rattle.ca_wire.specs.declared.header.Header.{Header}
use Rattle.ca_wire.specs.declared.reading.Head.{Head}
use Rattle.ca_wire.specs.Fields.{Fields}
use Rattle.ca_wire.specs.Message.{header_of}
use Rattle.ca_wire.specs.Reading.{IsWhole}
use Rattle.ca_wire.specs.Stream.{BadAt, Begins, NoneBegins}
use Rattle.ca_wire.proofs.Messages.{spells-good}
use Rattle.ca_wire.proofs.Taking.{whole-spells}
use Rattle.ca_model.specs.Answers.{Sending}
use Rattle.ca_model.specs.Client.{Client, later}
use Rattle.ca_model.specs.ClientEnds.{Arrival, ClientReceives, ReceivesAll}
use Rattle.ca_model.specs.Hears.{Effect}
use Rattle.ca_model.specs.Ends.{Address}
use Rattle.ca_model.specs.Events.{ClientDatagram}
use Rattle.ca_model.specs.World.{ClientSide, Joined, World}
use Rattle.ca_world_data.specs.Does.{Does}
use Rattle.ca_world_data.specs.Hearing.{HearsDatagram}
use Rattle.ca_world_data.specs.Indexed.{AreIndexed}
use Rattle.ca_world_data.specs.Speaking.{sent_up}
use Rattle.ca_world_data.proofs.Indexes.{indexed-map}
use Rattle.ca_world_data.proofs.Momentary.{sent-keeps}
use Rattle.ca_world_data.proofs.Silences.{grown-nil}
use Rattle.ca_world.specs.Passing.{Passes}
use Rattle.ca_world.proofs.Cancellings.{none-up}
use Rattle.ca_world.proofs.Speeches.{spoken-same, spoken_in}

-- ---- a datagram without a message

-- it makes the client send nothing
received-none : (x new : Client) (a : Arrival) (sent : List Sending) → NoneBegins a.bytes → ClientReceives x a (Ok tt) sent new → sent ≡ []
received-none x new a sent none (ms, is, all) = go ms is.stream.reads all
  where
    go : (ms : List Fields) → Begins a.bytes ms is.rest → ReceivesAll a.from (record x { moment = later a.now x }) ms (record { core = new; sent = sent; notices = [] }) → sent ≡ []
    go [] reads all = ap (λ (e : Effect). e.sent) all
    go (m ∷ ms) reads all = absurd (none m reads.0 reads.1 reads.2 reads.3)

-- a bad header begins no message
pub bad-none : (bytes : List ℕ) (e : Refusal) → BadAt bytes e → NoneBegins bytes
bad-none bytes e bad m front back s is = spells-good m front back e s (subst (λ (l : List ℕ). BadAt l e) is bad)

-- a whole message is one
pub whole-one : (bytes : List ℕ) (head : Head) → IsWhole bytes head → NoneBegins bytes → ⊥
whole-one bytes head whole none =
    let h : Header = head.header in
    let payload : List ℕ = take h.size (drop head.start bytes) in
    let m : Fields = record { command = h.command; data_type = h.data_type; count = h.count; p1 = h.p1; p2 = h.p2; payload = payload } in
    let room = whole.room in
    let behind : length (drop head.start bytes) ≡ length bytes - head.start = length-drop head.start bytes in
    let size : length payload ≡ h.size = length-take-le h.size (drop head.start bytes) (omega (arith, room, behind)) in
    let same : header_of m ≡ h = ap (λ (n : ℕ). record h { size = n }) size in
    let all : ℕ = head.start + h.size in
    none m (take all bytes) (drop all bytes) (whole-spells bytes head m whole same refl) (sym (take-append-drop all bytes))

lacks-so : (i : ℕ) (a : Arrival) (x x' : ClientSide) (ks ks' : List Joined) (e : Refusal) → HearsDatagram i a x ks (Err e) x' ks' → (x' ≡ x) × (ks' ≡ ks) × (e ≡ OutOfMemory)
lacks-so i a x x' ks ks' OutOfMemory d = (d.0, d.1, refl)
lacks-so i a x x' ks ks' _ d = absurd d

-- it was taken, for which there was no memory first
pub passed : (i : ℕ) (a : Arrival) (x y x' : ClientSide) (ks ks' : List Joined) (e : Refusal) (r : Result (Unit {0}) Refusal) → NoneBegins a.bytes → HearsDatagram i a x ks (Err e) y ks' → Passes a e y r x' → HearsDatagram i a x ks r x' ks'
passed i a x y x' ks ks' e (Ok u) none d (sent, does, side) =
    let l = lacks-so i a x y ks ks' e d in
    let is : sent ≡ [] = received-none y.core x'.core a sent none does in (
      sent,
      subst (λ (z : ClientSide). ClientReceives z.core a (Ok tt) sent x'.core) l.0 does,
      side ∙ ap (λ (z : ClientSide). record z { core = x'.core }) l.0,
      l.1 ∙ sym (none-up i x.names ks) ∙ ap (λ (z : List Sending). map (sent_up i x.names z) ks) (sym is),
    )
passed i a x y x' ks ks' e (Err f) none d (same, side) =
    let l = lacks-so i a x y ks ks' e d in
    subst (λ (z : Refusal). HearsDatagram i a x ks (Err z) x' ks') (sym (same ∙ l.2)) (side ∙ l.0, l.1)

-- ---- a world after it

pub hears-does : (w : World) (i : ℕ) (x x' : ClientSide) (from : Address) (bytes : List ℕ) (ks : List Joined) (r : Result (Unit {0}) Refusal) → At w.clients i x
    → HearsDatagram i (record { now = w.moment; from = from; bytes = bytes }) x w.circuits r x' ks → OnErr r (NoneBegins bytes → ⊥) → Does w (ClientDatagram i from bytes) r (spoken_in i x' w.client_logs ks w)
hears-does w i x x' from bytes ks (Ok u) at (sent, does, side, goes) may =
    (record { x = x; at = at }, (sent, x'.core, does, λ t. record w { clients = slice_set w.clients i (side t); client_logs = sym (grown-nil x.life w.client_logs) t; circuits = goes t }))
hears-does w i x x' from bytes ks (Err OutOfMemory) at d may =
    ((record { x = x; at = at }, may), spoken-same i x x' w.client_logs ks w at d.0 refl d.1)
hears-does w i x x' from bytes ks (Err _) at d may = absurd d

-- circuits are found still
pub hears-keep : (i : ℕ) (a : Arrival) (x x' : ClientSide) (ks ks' : List Joined) (r : Result (Unit {0}) Refusal) → HearsDatagram i a x ks r x' ks' → (cs ss : List (List ℕ)) → AreIndexed cs ss ks → AreIndexed cs ss ks'
hears-keep i a x x' ks ks' (Ok u) (sent, does, side, goes) cs ss h =
    subst (λ (z : List Joined). AreIndexed cs ss z) (sym goes) (indexed-map cs ss ks h (sent_up i x.names sent) (sent-keeps i x.names sent))
hears-keep i a x x' ks ks' (Err OutOfMemory) d cs ss h = subst (λ (z : List Joined). AreIndexed cs ss z) (sym d.1) h
hears-keep i a x x' ks ks' (Err _) d cs ss h = absurd d
