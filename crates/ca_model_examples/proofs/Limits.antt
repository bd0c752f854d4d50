-- The limits of calls and events are as said.
use Rattle.std.proofs.Common.{◌≡◌, ℕ, ◌<◌, ◌≤◌, inr, [], ◌∷◌, length, refl, sym, ap, subst, ◌∙◌, arith}
use Rattle.std.specs.Prelude.{None}
use Rattle.ca_text.specs.Place.{At}
use Rattle.ca_text.proofs.Places.{some_is}
use Rattle.ca_dbr.specs.Elements.{doubles, base_of}
use Rattle.ca_records.specs.Puts.{Record}
use Rattle.ca_dbr.specs.Elements.{signed_bytes_4}
use Rattle.ca_dbr.specs.Held.{Kind, kind_of}
use Rattle.ca_wire.specs.Header.{extended_header, header_spelling, number16, number32, short_header}
use Rattle.ca_wire.specs.Message.{spelling}
use Rattle.ca_wire.proofs.Fronts.{no-header, none-below}
use Rattle.ca_wire.specs.Stream.{NoneBegins}
use Rattle.ca_model.specs.Events as event
use Rattle.ca_model.specs.Runs.{CanBe}
use Rattle.ca_model.specs.World.{Joined, ServerSide, World}
use Rattle.ca_model.specs.ClientEvents.{waiting_down}
use Rattle.ca_model_examples.specs.ClientRows.{alive, anna, first, greeted}
use Rattle.ca_model_examples.specs.ClientCallEvents.{server}
use Rattle.ca_model_examples.specs.ClientEndEvents.{between, link_of, server_with}
use Rattle.ca_model_examples.specs.Limits.{AcceptIsLast, AllBytes, CancelWaits, CountsPresent, DatagramMoment, DisconnectsOnce, LastPriority, LateReplyDrains, NameComesFirst, PostsNotSo, SameMoment, UpdateElsewhere}
use Rattle.ca_model_examples.specs.ServerWorld.{temp_now}
use Rattle.ca_model_examples.specs.Worlds.{long}

pub same-moment : SameMoment
same-moment = omega arith

-- no more bytes come down than wait
too-many : (w : World) (k n : ℕ) (j : Joined) (y : ServerSide) → At w.circuits k j → At w.servers j.server y → length (waiting_down y j) < n → CanBe w (event.Down k n) → ⊥
too-many w k n j y at server few can =
    let c = can.0 in
    let same : j ≡ c.j = some_is j c.j (sym at ∙ c.joins.at) in
    let its : At w.servers j.server c.y = subst (λ (z : Joined). At w.servers z.server c.y) (sym same) c.joins.server in
    let one : y ≡ c.y = some_is y c.y (sym server ∙ its) in
    let within : n ≤ length (waiting_down c.y j) = subst (λ (z : Joined). n ≤ length (waiting_down c.y z)) (sym same) can.1 in
    let most : n ≤ length (waiting_down y j) = subst (λ (z : ServerSide). n ≤ length (waiting_down z j)) (sym one) within in
    omega (arith, few, most)

pub all-bytes : AllBytes
unfolding spelling header_spelling short_header extended_header number16 number32
all-bytes = (
  (record { j = _; x = _; y = _; joins = record { at = refl; client = refl; server = refl }; is_open = refl }, omega arith),
  (record { j = _; x = _; y = _; joins = record { at = refl; client = refl; server = refl }; is_open = refl }, omega arith),
  too-many (between alive.core (server_with (link_of [] (1 ∷ 2 ∷ [])))) 3 3 _ _ refl refl (omega arith),
)

pub accept-is-last : AcceptIsLast
unfolding spelling header_spelling short_header extended_header number16 number32
accept-is-last = (
  record { x = _; at = refl; v = record { place = 0; v = _; at = refl; i = 0; y = server; there = (refl, refl); first = λ l u k z before at there. omega (arith, before) } },
  record {
    answer = _;
    server = _;
    accepts = (record { index = omega arith; slot = omega arith; free = refl; next = refl; last = omega arith }, refl);
    leaves = inr (first, None, _, greeted, refl, (refl, refl), refl);
  },
)

nothing-begins : NoneBegins []
nothing-begins = (no-header [] (none-below [] (omega arith))).0

pub datagram-moment : DatagramMoment
datagram-moment = (
  record { x = _; at = refl },
  ([], record (anna []) { moment = 7 }, ([], record { rest = []; stream = record { reads = refl; partial = nothing-begins } }, refl), refl),
)

pub name-comes-first : NameComesFirst
name-comes-first h = (let some = h.0.some in omega (arith, some))

pub last-priority : LastPriority
last-priority name h = (let over = h.1 in omega (arith, over))

pub cancel-waits : CancelWaits
unfolding spelling header_spelling short_header extended_header number16 number32 signed_bytes_4
cancel-waits bytes over = rw over refl

pub update-elsewhere : UpdateElsewhere
update-elsewhere = refl

pub late-reply-drains : LateReplyDrains
late-reply-drains = (refl, refl)

pub posts-not-so : PostsNotSo
posts-not-so = (
  (λ gone new p. (let some = p.0.3 in omega (arith, some))),
  (λ p.
      let is : temp_now (long 21) ≡ p.0 = some_is _ p.0 p.1 in
      let e : base_of (doubles []) ≡ base_of (long 21).value = ap (λ (k : Kind). k.base) (p.2 ∙ ap (λ (r : Record). kind_of r.state.value) (sym is)) in
      cc),
)

pub disconnects-once : DisconnectsOnce
disconnects-once = refl

pub counts-present : CountsPresent
counts-present = refl
