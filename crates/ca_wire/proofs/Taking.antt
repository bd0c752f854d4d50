-- A message taken from the front of what a reader holds.
use Rattle.std.proofs.Common.{◌≡◌, ◌≢◌, ℕ, ◌+◌, ◌-◌, List, [], ◌++◌, length, take, drop, false, refl, Result, Ok, Err, Option, sym, ap, ◌∙◌, subst, arith}
use Rattle.std.specs.Result.{IsErrAnd}
use Rattle.std.proofs.lemmas.List.{take-append-drop, take-take, drop-take, length-take-le, length-drop}
use Rattle.ca_text.specs.declared.command.Command.{Command}
use Rattle.ca_text.specs.declared.refusal.Refusal.{Refusal}
use Rattle.ca_text.specs.declared.refusal.Refusal.TheVariants.{OutOfMemory}
use Rattle.ca_wire.specs.declared.header.Header.{Header}
use Rattle.ca_wire.specs.declared.reading.Head.{Head}
use Rattle.ca_wire.specs.Header.{HeaderSpells}
use Rattle.ca_wire.specs.Fields.{Fields}
use Rattle.ca_wire.specs.Message.{header_of, Spells}
use Rattle.ca_wire.specs.Stream.{Held}
use Rattle.ca_wire.specs.Messages.{on_channel}
use Rattle.ca_wire.specs.declared.requests.Wanted.{Wanted}
use Rattle.ca_wire.specs.Reading.{BeginsHeaderOnly, IsWhole, Takes, HasPayload, Nexts}

-- the bytes after a header that is there
pub held-part : (lent held : List ℕ) (start size : ℕ) → lent ≡ held → take (start + size - start) (drop start lent) ≡ take size (drop start held)
held-part lent held start size e =
    let n : start + size - start ≡ size = omega arith in
    ap (λ (k : ℕ). take k (drop start lent)) n ∙ ap (λ (t : List ℕ). take size (drop start t)) e

take-add : (m n : ℕ) (xs : List ℕ) → take (m + n) xs ≡ take m xs ++ take n (drop m xs)
take-add m n xs =
    sym (take-append-drop m (take (m + n) xs)) ∙ ap (λ (t : List ℕ). t ++ drop m (take (m + n) xs)) (take-take m (m + n) xs (omega arith)) ∙ ap (λ (t : List ℕ). take m xs ++ t) (drop-take m n xs)

pub whole-spells : (bytes : List ℕ) (head : Head) (m : Fields) → IsWhole bytes head → header_of m ≡ head.header → m.payload ≡ take head.header.size (drop head.start bytes) → Spells (take (head.start + head.header.size) bytes) m
whole-spells bytes head m whole same payload =
    let size : length m.payload ≡ head.header.size = ap (λ (h : Header). h.size) same in
    let header : HeaderSpells (take head.start bytes) (header_of m) = subst (λ (h : Header). HeaderSpells (take head.start bytes) h) (sym same) whole.header in
    record {
      good = record { header = header.fits; payload = record { aligned = rw size whole.aligned; within = rw size whole.within } };
      head = take head.start bytes;
      header = header;
      are = take-add head.start head.header.size bytes ∙ ap (λ (t : List ℕ). take head.start bytes ++ t) (sym payload);
    }

pub takes-whole : (old new : Held) (head : Head) (m : Fields) → old.closed ≡ false → new.closed ≡ false → IsWhole old.bytes head → header_of m ≡ head.header → m.payload ≡ take head.header.size (drop head.start old.bytes) → new.bytes ≡ drop (head.start + head.header.size) old.bytes → Takes old m new
takes-whole old new head m was stays whole same payload rest =
    record {
      was_open = was;
      front = take (head.start + head.header.size) old.bytes;
      spells = whole-spells old.bytes head m whole same payload;
      bytes = sym (take-append-drop (head.start + head.header.size) old.bytes) ∙ ap (λ (t : List ℕ). take (head.start + head.header.size) old.bytes ++ t) (sym rest);
      stays = stays;
    }

-- a message without payload, in 16 bytes
pub takes-header_only : (old new : Held) (c : Command) (w : Wanted) → old.closed ≡ false → new.closed ≡ false → BeginsHeaderOnly old.bytes c w → new.bytes ≡ drop 16 old.bytes → Takes old (on_channel c w []) new
takes-header_only old new c w was stays begins rest =
    let head : Head = record { header = header_of (on_channel c w []); start = 16 } in
    let whole : IsWhole old.bytes head = record { header = begins.header; room = begins.room; aligned = refl; within = omega arith } in
    takes-whole old new head (on_channel c w []) was stays whole refl refl rest

pub whole-payload : (bytes : List ℕ) (head : Head) → IsWhole bytes head → take head.header.size (drop head.start bytes) ≢ [] → HasPayload bytes
whole-payload bytes head whole some =
    let payload = take head.header.size (drop head.start bytes) in
    let h = head.header in
    let m : Fields = record { command = h.command; data_type = h.data_type; count = h.count; p1 = h.p1; p2 = h.p2; payload = payload } in
    let room = whole.room in
    let size : length payload ≡ h.size = length-take-le h.size (drop head.start bytes) (omega (arith, length-drop head.start bytes)) in
    let made : ℕ → Header = λ n. record { command = h.command; data_type = h.data_type; size = n; count = h.count; p1 = h.p1; p2 = h.p2 } in
    record {
      m = m;
      front = take (head.start + h.size) bytes;
      back = drop (head.start + h.size) bytes;
      spells = whole-spells bytes head m whole (ap made size) (λ i. payload);
      some = some;
      are = sym (take-append-drop (head.start + h.size) bytes);
    }

pub nexts-refused : (old : Held) (r : Result (Option Fields) Refusal) → IsErrAnd r (λ e. e ≡ OutOfMemory) → old.closed ≡ false → HasPayload old.bytes → Nexts old r old
nexts-refused old (Ok x) is was payload = absurd is
nexts-refused old (Err e) is was payload = subst (λ (x : Refusal). Nexts old (Err x) old) (sym is) (was, payload, λ i. old)
