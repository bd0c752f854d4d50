-- What events at a client's end leave of a small world.
use Rattle.std.proofs.Common.{◌≡◌, ◌<◌, ◌≤◌, ◌∙◌, ℕ, inl, inr, refl, sym, subst, arith, length, [], ◌∷◌}
use Rattle.std.specs.Prelude.{Some, None, true, false, slice_get}
use Rattle.ca_text.proofs.Places.{some_is}
use Rattle.ca_text.specs.Place.{At}
use Rattle.ca_wire.specs.Header.{extended_header, header_spelling, number16, number32, short_header}
use Rattle.ca_wire.proofs.Messages.{spelling-spells}
use Rattle.ca_wire.specs.Message.{IsMessage, spelling}
use Rattle.ca_dbr.specs.declared.value.Outcome.TheVariants as outcome
use Rattle.ca_model.specs.Answers as answer
use Rattle.ca_model.specs.ClientEnds as receives
use Rattle.ca_model.specs.Hears as hears
use Rattle.ca_model.specs.Hears.{becomes}
use Rattle.ca_wire.proofs.Fronts.{no-header, none-below}
use Rattle.ca_wire.specs.Stream.{NoneBegins}
use Rattle.ca_model.specs.ClientEvents.{waiting_up}
use Rattle.ca_model.specs.Events as event
use Rattle.ca_model.specs.Runs.{CanBe, HasClientEnd}
use Rattle.ca_model.specs.World.{ClientSide, Joined, World}
use Rattle.ca_model_examples.specs.ClientRows.{alive, first, found, greeted}
use Rattle.ca_model_examples.specs.ClientCallEvents.{anna_side, joined, names, server}
use Rattle.ca_model_examples.specs.ClientEndEvents.{AboutPlace, AcceptMakes, CutEnds, DatagramFinds, DownMoves, NoticeLines, RestartForgets, StepHears, TickEnds, TickStops, UpMoves, put_reply, reply_of_search, with_output}

-- no more bytes move than wait
too-many : (w : World) (k n : ℕ) (j : Joined) (x : ClientSide) → At w.circuits k j → At w.clients j.client x → length (waiting_up x j) < n → CanBe w (event.Up k n) → ⊥
too-many w k n j x at client few can =
    let c = can.0 in
    let same : j ≡ c.j = some_is j c.j (sym at ∙ c.joins.at) in
    let its : At w.clients j.client c.x = subst (λ (z : Joined). At w.clients z.client c.x) (sym same) c.joins.client in
    let one : x ≡ c.x = some_is x c.x (sym client ∙ its) in
    let within : n ≤ length (waiting_up c.x j) = subst (λ (z : Joined). n ≤ length (waiting_up c.x z)) (sym same) can.1 in
    let most : n ≤ length (waiting_up x j) = subst (λ (z : ClientSide). n ≤ length (waiting_up z j)) (sym one) within in
    omega (arith, few, most)

-- an end that is closed does not step
is-closed : (w : World) (k : ℕ) (j : Joined) → At w.circuits k j → j.lists.client_open ≡ false → HasClientEnd w k → ⊥
is-closed w k j at closed c =
    let same : j ≡ c.j = some_is j c.j (sym at ∙ c.joins.at) in
    let gone : c.j.lists.client_open ≡ false = subst (λ (z : Joined). z.lists.client_open ≡ false) same closed in
    let there : c.j.lists.client_open ≡ true = c.is_open in
    cc

is-none : (w : World) (k : ℕ) → slice_get w.circuits k ≡ None → HasClientEnd w k → ⊥
is-none w k none c = let at : slice_get w.circuits k ≡ Some c.j = c.joins.at in cc

pub up-moves : UpMoves
unfolding spelling header_spelling short_header extended_header number16 number32
up-moves = (
  (
    (record { j = _; x = _; y = _; joins = record { at = refl; client = refl; server = refl }; is_open = refl }, omega arith),
    (_, (_, refl, refl), refl),
  ),
  (
    (record { j = _; x = _; y = _; joins = record { at = refl; client = refl; server = refl }; is_open = refl }, omega arith),
    (_, (_, refl, refl), refl),
  ),
  (λ c. too-many _ 3 4 (joined 0 first true []) (anna_side (with_output (1 ∷ 2 ∷ 3 ∷ []) alive.core) names) refl refl (omega arith) c),
)

pub down-moves : DownMoves
unfolding spelling header_spelling short_header extended_header number16 number32
down-moves = (
  (
    (record { j = _; x = _; y = _; joins = record { at = refl; client = refl; server = refl }; is_open = refl }, omega arith),
    (_, [], _, inl (refl, (_, inl (_, refl, omega arith, refl), refl)), (refl, refl), refl),
  ),
  (
    (record { j = _; x = _; y = _; joins = record { at = refl; client = refl; server = refl }; is_open = refl }, omega arith),
    (_, [], _, inl (refl, (_, inl (_, refl, omega arith, refl), refl)), (refl, refl), refl),
  ),
  (λ c. is-closed _ 1 (joined 0 first false []) refl refl c.0),
)

pub cut-ends : CutEnds
unfolding spelling header_spelling short_header extended_header number16 number32
cut-ends = (
  record { j = _; x = _; y = _; joins = record { at = refl; client = refl; server = refl }; is_open = refl },
  (_, [], _, (refl, refl, refl), refl),
)

pub restart-forgets : RestartForgets
unfolding spelling header_spelling short_header extended_header number16 number32
restart-forgets = ((record { x = _; at = refl }, refl), (λ c. let h = c.at in cc))

pub accept-makes : AcceptMakes
unfolding spelling header_spelling short_header extended_header number16 number32
accept-makes = (
  (
    record { x = _; at = refl; v = record { place = 0; v = _; at = refl; i = 0; y = server; there = (refl, refl); first = λ l u k z before at there. omega (arith, before) } },
    record {
      answer = _;
      server = _;
      accepts = (record { index = omega arith; slot = omega arith; free = refl; next = refl; last = omega arith }, refl);
      leaves = inr (first, None, _, greeted, refl, (refl, refl), refl);
    },
  ),
  (λ t full. (
    record { x = _; at = refl; v = record { place = 0; v = _; at = refl; i = 0; y = _; there = (refl, refl); first = λ l u k z before at there. omega (arith, before) } },
    record { answer = _; server = _; accepts = (full, refl); leaves = inl (refl, refl) },
  )),
  (λ c. let h = c.v.there.0 in cc),
)

pub notice-lines : NoticeLines
notice-lines = refl

pub about-place : AboutPlace
about-place = (refl, refl)

good-reply : IsMessage put_reply
good-reply = record {
  header = record { command = omega arith; data_type = omega arith; size = omega arith; count = omega arith; p1 = omega arith; p2 = omega arith };
  payload = record { aligned = refl; within = omega arith };
}

pub step-hears : StepHears
unfolding spelling header_spelling short_header extended_header number16 number32
step-hears = (
  (
    record { j = _; x = _; y = _; joins = record { at = refl; client = refl; server = refl }; is_open = refl },
    (
      answer.Notices (answer.Completed first outcome.Done ∷ []),
      [],
      _,
      record { m = put_reply; rest = []; first = (spelling put_reply, spelling-spells put_reply good-reply, refl); hears = hears.Reply (inr refl) (outcome.Done, (refl, refl), refl) },
      refl,
    ),
  ),
  (λ c. is-closed _ 1 (joined 0 first false []) refl refl c),
  (λ c. is-closed _ 1 (joined 0 first false []) refl refl c),
  (λ c. is-none _ 4 refl c),
)

pub tick-ends : TickEnds
unfolding spelling header_spelling short_header extended_header number16 number32
tick-ends = (
  (
    omega arith,
    (_, (_, (_, refl, _, _, _, (refl, refl, refl), refl), (_, (_, refl, _, _, _, (refl, refl, refl), refl), refl)), refl),
  ),
  (0, _, omega arith, refl, refl, (inr (inl (λ e. cc)), (refl, refl))),
  (λ c. omega (arith, c)),
)

pub tick-stops : TickStops
unfolding spelling header_spelling short_header extended_header number16 number32
tick-stops = (
  1,
  _,
  omega arith,
  (_, (_, refl, _, _, _, (refl, refl, refl), refl), refl),
  refl,
  (inr (inl (λ e. cc)), (refl, refl)),
)

good-search : IsMessage reply_of_search
good-search = record {
  header = record { command = omega arith; data_type = omega arith; size = omega arith; count = omega arith; p1 = omega arith; p2 = omega arith };
  payload = record { aligned = refl; within = omega arith };
}

nothing-begins : NoneBegins []
nothing-begins = (no-header [] (none-below [] (omega arith))).0

pub datagram-finds : DatagramFinds
unfolding spelling header_spelling short_header extended_header number16 number32
datagram-finds = (
  (
    record { x = _; at = refl },
    (
      [],
      found,
      (
        reply_of_search ∷ [],
        record { rest = []; stream = record { reads = (spelling reply_of_search, [], spelling-spells reply_of_search good-search, refl, refl); partial = nothing-begins } },
        (
          becomes found,
          becomes found,
          receives.Search refl (inl (first, record { index = omega arith; slot = omega arith; free = refl; next = refl; last = omega arith }, refl)),
          refl,
          refl,
        ),
      ),
      refl,
    ),
  ),
  (λ c. let h = c.at in cc),
)
