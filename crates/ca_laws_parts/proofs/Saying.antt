-- Which call of a client's core sends which message: requests and EVENT_ADDs.
use Rattle.std.proofs.Common.{◌≡◌, ℕ, ◌⊎◌, inl, inr, Bool, true, false, ◌&&◌, cond, eqb, List, [], ◌∷◌, ◌++◌, Option, Some, None, refl, sym, ap, ◌∙◌, subst, arith}
use Rattle.std.specs.Prelude.{Err, Ok, Result, filter, fold, map, option_and_then, option_map, option_to_list, unwrap_or}
use Rattle.std.specs.List.{list_any}
use Rattle.ca_text.specs.Command.{command_number}
use Rattle.std.proofs.lemmas.Bool.{and_from, and_parts, both_ways}
use Rattle.ca_text.specs.declared.command.Command.{Command}
use Rattle.ca_text.specs.declared.command.Command.TheVariants as command
use Rattle.ca_text.specs.declared.refusal.Refusal.{Refusal}
use Rattle.ca_text.specs.declared.refusal.Refusal.TheVariants as refusal
use Rattle.ca_text.specs.Place.{At}
use Rattle.ca_text.proofs.Places.{At-map, At-mapped, At-parts}
use Rattle.ca_arena.specs.declared.handle.Handle.{Handle}
use Rattle.ca_ids.specs.Table.{held, same_handle, under}
use Rattle.ca_link.specs.declared.keep.Keep.{Keep}
use Rattle.ca_link.specs.declared.keep.Keep.TheVariants.{Close, Echo, Idle}
use Rattle.ca_link.specs.Link.{kept}
use Rattle.ca_monitor.specs.ReadRun.{after_read, asked_between, sent_by_read}
use Rattle.ca_monitor.specs.Subscriptions.{Subscription, is_to, standing_to, stands_in}
use Rattle.ca_requests.specs.Requests.{Asked, Request, answered_by}
use Rattle.ca_requests.specs.Requests as request
use Rattle.ca_search.specs.Searches as search
use Rattle.ca_wire.specs.declared.header.Header.{Header}
use Rattle.ca_wire.specs.Fields.{Fields}
use Rattle.ca_wire.specs.Messages.{header_only, search_request}
use Rattle.ca_model.specs.Answers.{Closed, Closing, NeedBytes, Notices, Sending, Stepped}
use Rattle.ca_model.specs.Client.{Channel, Clearing, Client, ClientCircuit, Connecting, Connection, Creating, Doomed, Leaving, Live, On, Phase, Searching, Standing, channel_on, circuit_to, connection_at, later, new_circuit}
use Rattle.ca_model.specs.ClientCalls.{IsUnchanged, Shape, StandsAs, cancel_sent, clear_sent, clearing_sent, event_add_sent, event_cancel_sent, is_over}
use Rattle.ca_model.specs.ClientEnds.{ConnectsOn, GivesOn, Receives, ReceivesAll, StepsOn, Ticking, all_searched_on, circuits_ticked, due, flow_sent, is_name_connected, of_circuit, searches_made, searches_on, ticks, ticks_as, unconnected, with_sending}
use Rattle.ca_model.specs.ClientEnds as ends
use Rattle.ca_model.specs.Ends.{Address}
use Rattle.ca_model.specs.Hears.{Answers, Completes, Effect, Fails, FindsAt, Hears, PutsOn, Updates, any_failed, becomes, clear_answered, confirmed, create_sent, created, event_adds, failed, found_at, subscription_on, left, put_on, request_failed, rights_told, searched_by, subscription_failed, with_circuit, write_failed}
use Rattle.ca_model.specs.Hears as hears
use Rattle.ca_model.specs.Speech.{In, Is}
use Rattle.ca_model.proofs.Handles.{same-is, same-itself}
use Rattle.ca_model.proofs.Standings.{stands-as}
use Rattle.ca_model.proofs.Tables.{held-under, under-held}
use Rattle.ca_laws_parts.proofs.Marks.{at-filter, filter-at}
use Rattle.ca_laws_parts.specs.ClientRows.{Call, Does, Reads}
use Rattle.ca_laws_parts.specs.ClientRows as call
use Rattle.ca_laws_parts.specs.ClientSends.{AddsAreSent, AsksForOne, IsRequest, MakesLive, RequestsAreSentOnce}
use Rattle.ca_laws_parts.proofs.ClientCalls.{clears-not, opens-not, puts-not, reads-not, subscribes-not, unsubscribes-not, writes-not}
use Rattle.ca_laws_parts.proofs.Connecting.{all-begun, begun-at}
use Rattle.ca_laws_parts.proofs.Given.{only-one}
use Rattle.ca_laws_parts.proofs.Turns.{talks}

-- a request or an EVENT_ADD
abbrev IsAsk : Fields → Type 0
IsAsk m = IsRequest m ⊎ Is command.EventAdd m

-- No message is one.
abbrev AreOther : List Sending → Type 0
AreOther sent = (i : ℕ) (s : Sending) → At sent i s → IsAsk s.message → ⊥

asks-talks : (m : Fields) → IsAsk m → talks m.command ≡ true
asks-talks m is = elim is [
  | inl (inl reads) ↦ ap talks reads
  | inl (inr (inl puts)) ↦ ap talks puts
  | inl (inr (inr writes)) ↦ ap talks writes
  | inr adds ↦ ap talks adds
]

-- it has a number that is none of theirs
not-ask : (m : Fields) (n : ℕ) → m.command ≡ n → (15 ≡ n → ⊥) → (19 ≡ n → ⊥) → (4 ≡ n → ⊥) → (1 ≡ n → ⊥) → IsAsk m → ⊥
not-ask m n e no15 no19 no4 no1 is = elim is [
  | inl (inl reads) ↦ no15 (sym reads ∙ e)
  | inl (inr (inl puts)) ↦ no19 (sym puts ∙ e)
  | inl (inr (inr writes)) ↦ no4 (sym writes ∙ e)
  | inr adds ↦ no1 (sym adds ∙ e)
]

none-other : AreOther []
none-other i s at = absurd (none i s at)
  where
    none : (i : ℕ) (s : Sending) → At [] i s → ⊥
    none i s at = cc

one-other : (s : Sending) → (IsAsk s.message → ⊥) → AreOther (s ∷ [])
one-other s none i r at is = none (subst (λ (z : Sending). IsAsk z.message) (only-one s r i at).1 is)

plain-other : (s : Sending) → talks (s.message).command ≡ false → AreOther (s ∷ [])
plain-other s plain = one-other s (λ is. both_ways (talks (s.message).command) plain (asks-talks s.message is))

both-other : (a b : List Sending) → AreOther a → AreOther b → AreOther (a ++ b)
both-other a b x y i s at is = elim (At-parts a b i s at) [
  | inl first ↦ x i s first is
  | inr later ↦ y later.0 s later.2 is
]

other-is : (a b : List Sending) → a ≡ b → AreOther b → AreOther a
other-is a b is other = subst (λ (l : List Sending). AreOther l) (sym is) other

clear-other : (c : Handle) (sid : ℕ) (h : Handle) → AreOther (clear_sent c sid h ∷ [])
clear-other c sid h = one-other (clear_sent c sid h) (λ is. not-ask (clear_sent c sid h).message 12 refl (λ n. omega (arith, n)) (λ n. omega (arith, n)) (λ n. omega (arith, n)) (λ n. omega (arith, n)) is)

create-other : (c h : Handle) (here : Channel) → AreOther (create_sent c h here ∷ [])
create-other c h here = one-other (create_sent c h here) (λ is. not-ask (create_sent c h here).message 18 refl (λ n. omega (arith, n)) (λ n. omega (arith, n)) (λ n. omega (arith, n)) (λ n. omega (arith, n)) is)

-- ---- callers' calls

cleared-other : (h : Handle) (s : Standing) → AreOther (clearing_sent h s)
cleared-other h Searching = none-other
cleared-other h (On c Connecting) = none-other
cleared-other h (On c (Creating rights)) = none-other
cleared-other h (On c Leaving) = none-other
cleared-other h (On c Clearing) = none-other
cleared-other h (On c Doomed) = none-other
cleared-other h (On c (Live n rights)) = clear-other c n.sid h

cancelled-other : (g : Handle) (d : Subscription) (o : Option Standing) → AreOther (cancel_sent g d o)
cancelled-other g d None = none-other
cancelled-other g d (Some Searching) = none-other
cancelled-other g d (Some (On c Connecting)) = none-other
cancelled-other g d (Some (On c (Creating rights))) = none-other
cancelled-other g d (Some (On c Leaving)) = none-other
cancelled-other g d (Some (On c Clearing)) = none-other
cancelled-other g d (Some (On c Doomed)) = none-other
cancelled-other g d (Some (On c (Live n rights))) =
    one-other (event_cancel_sent c n.sid g d)
    (λ is. not-ask (event_cancel_sent c n.sid g d).message 2 refl (λ n. omega (arith, n)) (λ n. omega (arith, n)) (λ n. omega (arith, n)) (λ n. omega (arith, n)) is)

-- ---- circuits

connects-other : (x : Client) (c : Handle) (o : Option ClientCircuit) (k : Option Closing) (sent : List Sending) (y : Client) → ConnectsOn x c o k sent y → AreOther sent
connects-other x c None None sent y does = absurd does
connects-other x c None (Some k) sent y does = other-is sent [] does.1.0 none-other
connects-other x c (Some d) (Some k) sent y does = other-is sent [] does.1 none-other
connects-other x c (Some d) None sent y does = other-is sent (all-begun x c d) does.0 (λ i s at is. elim (begun-at x c d i s at).1 [
  | inl plain ↦ both_ways (talks (s.message).command) plain (asks-talks s.message is)
  | inr creates ↦ not-ask s.message 18 creates (λ n. omega (arith, n)) (λ n. omega (arith, n)) (λ n. omega (arith, n)) (λ n. omega (arith, n)) is
])

gives-other : (x : Client) (c : Handle) (bytes : List ℕ) (more : Bool) (o : Option Connection) (answer : Result (Unit {0}) Refusal) (sent : List Sending) (y : Client)
    → GivesOn x c bytes more o answer sent y → AreOther sent
gives-other x c bytes more (Some k) (Ok _) sent y does =
    other-is sent (flow_sent c more k) does.0 (flow (sent_by_read more k.run) k.run.events_off (after_read more k.run).events_off refl)
  where
    flow : (o : Option Command) (a b : Bool) → o ≡ asked_between a b → AreOther (map (λ (v : Command). of_circuit c (header_only v)) (option_to_list o))
    flow o a b is = subst (λ (v : Option Command). AreOther (map (λ (w : Command). of_circuit c (header_only w)) (option_to_list v))) (sym is) (go a b)
      where
        go : (a b : Bool) → AreOther (map (λ (v : Command). of_circuit c (header_only v)) (option_to_list (asked_between a b)))
        go false true = plain-other (of_circuit c (header_only command.EventsOff)) refl
        go true false = plain-other (of_circuit c (header_only command.EventsOn)) refl
        go false false = none-other
        go true true = none-other
gives-other x c bytes more (Some k) (Err refusal.OutOfMemory) sent y does = other-is sent [] does.1.0 none-other
gives-other x c bytes more None (Err refusal.CircuitClosed) sent y does = other-is sent [] does.0 none-other
gives-other x c bytes more _ _ sent y does = absurd does

-- ---- moments

more-other : (t : Ticking) (s : Sending) → talks (s.message).command ≡ false → AreOther t.sent → AreOther (with_sending s t).sent
more-other t s plain other = both-other t.sent (s ∷ []) other (plain-other s plain)

ticks-other : (t : Ticking) (c : Handle) → AreOther t.sent → AreOther (ticks t c).sent
ticks-other t c other = go (connection_at t.core c)
  where
    by : (k : Keep) → AreOther (ticks_as k c t).sent
    by Idle = other
    by Close = other
    by Echo = both-other t.sent (of_circuit c (header_only command.Echo) ∷ []) other (plain-other (of_circuit c (header_only command.Echo)) refl)

    go : (o : Option Connection) → AreOther (unwrap_or (option_map (λ (e : Connection). ticks_as (kept t.core.moment e.link) c t) o) t).sent
    go None = other
    go (Some e) = by (kept t.core.moment e.link)

ticks-all : (order : List Handle) (t : Ticking) → AreOther t.sent → AreOther (fold ticks t order).sent
ticks-all [] t other = other
ticks-all (c ∷ order) t other = ticks-all order (ticks t c) (ticks-other t c other)

search-one : (c : Handle) (t : Ticking) (w : search.Wanted) → AreOther t.sent → AreOther (searches_on c t w).sent
search-one c t w other = go (is_over t.core c)
  where
    go : (b : Bool) → AreOther (cond b t (with_sending (of_circuit c (search_request w.cid w.name)) t)).sent
    go true = other
    go false = more-other t (of_circuit c (search_request w.cid w.name)) refl other

search-each : (c : Handle) (ws : List search.Wanted) (t : Ticking) → AreOther t.sent → AreOther (fold (searches_on c) t ws).sent
search-each c [] t other = other
search-each c (w ∷ ws) t other = search-each c ws (searches_on c t w) (search-one c t w other)

search-all : (ws : List search.Wanted) (cs : List Handle) (t : Ticking) → AreOther t.sent → AreOther (fold (all_searched_on ws) t cs).sent
search-all ws [] t other = other
search-all ws (c ∷ cs) t other = search-all ws cs (all_searched_on ws t c) (search-each c ws t other)

ticked-other : (moment : ℕ) (x : Client) → AreOther (searches_made (circuits_ticked moment x)).sent
ticked-other moment x =
    let t : Ticking = circuits_ticked moment x in
    search-all (due t.core) (filter (is_name_connected t.core) t.core.order) t (ticks-all x.order (record { core = record x { moment = later moment x }; sent = []; notices = []; closings = [] }) none-other)

-- ---- what is read

put-other : (c : Handle) (o : Option Connection) (h : Handle) (here : Channel) (x : Client) → AreOther (put_on c o h here x).sent
put-other c None h here x = none-other
put-other c (Some k) h here x = create-other c h here

finds-other : (x : Client) (a : Address) (o : Option (Handle × Channel)) (e : Effect) → FindsAt x a o e → AreOther e.sent
finds-other x a None e is = other-is e.sent [] (ap (λ (v : Effect). v.sent) is) none-other
finds-other x a (Some (h, here)) e is = go (circuit_to a here.priority x) is
  where
    go : (o : Option (Handle × ClientCircuit)) → PutsOn x a h here o e → AreOther e.sent
    go (Some (c, d)) is = other-is e.sent (put_on c d.connection h here x).sent (ap (λ (v : Effect). v.sent) is) (put-other c d.connection h here x)
    go None is = elim is [
      | inr full ↦ other-is e.sent [] (ap (λ (v : Effect). v.sent) full.1) none-other
      | inl new ↦ other-is e.sent (put_on new.0 None h here (with_circuit new.0 (new_circuit a here.priority false) x)).sent (ap (λ (v : Effect). v.sent) new.2) (put-other new.0 None h here (with_circuit new.0 (new_circuit a here.priority false) x))
    ]

received-other : (from : Address) (x : Client) (m : Fields) (e : Effect) → Receives from x m e → AreOther e.sent
received-other from x m e (ends.Search is finds) = finds-other x (found_at from m) (searched_by m.p2 x) e finds
received-other from x m e (ends.Beacon is port does) = other-is e.sent [] (ap (λ (v : Effect). v.sent) does) none-other
received-other from x m e (ends.Other not_search not_beacon does) = other-is e.sent [] (ap (λ (v : Effect). v.sent) does) none-other

all-received-other : (from : Address) (ms : List Fields) (x : Client) (e : Effect) → ReceivesAll from x ms e → AreOther e.sent
all-received-other from [] x e does = other-is e.sent [] (ap (λ (v : Effect). v.sent) does) none-other
all-received-other from (m ∷ ms) x e does =
    other-is e.sent ((does.0).sent ++ (does.1).sent) (ap (λ (v : Effect). v.sent) does.4)
    (both-other (does.0).sent (does.1).sent (received-other from x m does.0 does.2) (all-received-other from ms (does.0).core does.1 does.3))

-- nothing of the kind; or the EVENT_ADDs of a channel that comes to be live
abbrev HearsSo : Client → Handle → Fields → Effect → Type 0
HearsSo x c m e =
    AreOther e.sent
    ⊎ (Is command.CreateChannel m × ((h : Handle) × (rights : ℕ) × (channel_on x c m.p1 ≡ Some (h, Creating rights)) × (e.sent ≡ event_adds c m.p2 h x)))

module _ (x : Client) (c : Handle) (m : Fields) (e : Effect) where
  sends : (v : Effect) → e ≡ v → AreOther v.sent → AreOther e.sent
  sends v is other = other-is e.sent v.sent (ap (λ (w : Effect). w.sent) is) other

  hear-rights : (o : Option (Handle × Phase)) → AreOther (rights_told x c m o).sent
  hear-rights None = none-other
  hear-rights (Some (h, Connecting)) = none-other
  hear-rights (Some (h, Leaving)) = none-other
  hear-rights (Some (h, Clearing)) = none-other
  hear-rights (Some (h, Doomed)) = none-other
  hear-rights (Some (h, Creating rights)) = none-other
  hear-rights (Some (h, Live n rights)) = none-other

  hear-failed : (o : Option (Handle × Phase)) → AreOther (failed x o).sent
  hear-failed None = none-other
  hear-failed (Some (h, Connecting)) = none-other
  hear-failed (Some (h, Leaving)) = none-other
  hear-failed (Some (h, Clearing)) = none-other
  hear-failed (Some (h, Doomed)) = none-other
  hear-failed (Some (h, Creating rights)) = none-other
  hear-failed (Some (h, Live n rights)) = none-other

  hear-answered : (o : Option (Handle × Phase)) → AreOther (clear_answered x c o).sent
  hear-answered None = none-other
  hear-answered (Some (h, Connecting)) = none-other
  hear-answered (Some (h, Leaving)) = none-other
  hear-answered (Some (h, Clearing)) = none-other
  hear-answered (Some (h, Doomed)) = none-other
  hear-answered (Some (h, Creating rights)) = none-other
  hear-answered (Some (h, Live n rights)) = none-other

  hear-left : (o : Option (Handle × Phase)) → AreOther (left x c o).sent
  hear-left None = none-other
  hear-left (Some (h, Connecting)) = none-other
  hear-left (Some (h, Leaving)) = none-other
  hear-left (Some (h, Clearing)) = none-other
  hear-left (Some (h, Doomed)) = none-other
  hear-left (Some (h, Creating rights)) = none-other
  hear-left (Some (h, Live n rights)) = clear-other c n.sid h

  hear-write : (o : Option (Handle × Phase)) → AreOther (write_failed x m o).sent
  hear-write None = none-other
  hear-write (Some (h, Connecting)) = none-other
  hear-write (Some (h, Leaving)) = none-other
  hear-write (Some (h, Clearing)) = none-other
  hear-write (Some (h, Doomed)) = none-other
  hear-write (Some (h, Creating rights)) = none-other
  hear-write (Some (h, Live n rights)) = none-other

  hear-refused : (o : Option Handle) → AreOther (subscription_failed x m o).sent
  hear-refused None = none-other
  hear-refused (Some g) = none-other

  hear-confirmed : (o : Option Handle) → AreOther (confirmed x o).sent
  hear-confirmed None = none-other
  hear-confirmed (Some g) = none-other

  hear-request : (q : Handle) (s : request.Stage) → AreOther (request_failed x m q s).sent
  hear-request q request.Open = none-other
  hear-request q request.Draining = none-other

  hear-any : (o : Option (Handle × Request)) → AreOther (any_failed x m o).sent
  hear-any None = none-other
  hear-any (Some (q, r)) = hear-request q r.stage

  hear-completes : (q : Handle) (a : Asked) (s : request.Stage) → Completes x m q a s e → AreOther e.sent
  hear-completes q a request.Open does = sends _ does.2 none-other
  hear-completes q a request.Draining does = sends _ does none-other

  hear-reply : (o : Option (Handle × Request)) → Answers x m o e → AreOther e.sent
  hear-reply None does = sends (becomes x) does none-other
  hear-reply (Some (q, r)) does = hear-completes q r.asked r.stage does

  hear-update : (o : Option Handle) → Updates x m o e → AreOther e.sent
  hear-update None does = sends (becomes x) does none-other
  hear-update (Some g) does = sends _ does.2 none-other

  hear-failing : (h : Header) (a b : Bool)
      → AreOther (cond a (write_failed x m (channel_on x c m.p1)) (cond b (subscription_failed x m (subscription_on x c h.p2)) (any_failed x m (answered_by c h.command h.p2 x.requests)))).sent
  hear-failing h true b = hear-write (channel_on x c m.p1)
  hear-failing h false true = hear-refused (subscription_on x c h.p2)
  hear-failing h false false = hear-any (answered_by c h.command h.p2 x.requests)

  hear-error : Fails x c m e → AreOther e.sent
  hear-error fails = elim fails [
    | inr not_whole ↦ sends (becomes x) not_whole.1 none-other
    | inl whole ↦ sends _ whole.2 (hear-failing whole.0 (eqb (whole.0).command 4) (eqb (whole.0).command 1))
  ]

  hear-created : Is command.CreateChannel m → (o : Option (Handle × Phase)) → channel_on x c m.p1 ≡ o → e ≡ created x c m o → HearsSo x c m e
  hear-created is None at does = inl (sends (becomes x) does none-other)
  hear-created is (Some (h, Connecting)) at does = inl (sends (becomes x) does none-other)
  hear-created is (Some (h, Leaving)) at does = inl (sends (becomes x) does none-other)
  hear-created is (Some (h, Clearing)) at does = inl (sends (becomes x) does none-other)
  hear-created is (Some (h, Live n rights)) at does = inl (sends (becomes x) does none-other)
  hear-created is (Some (h, Doomed)) at does = inl (sends _ does (clear-other c m.p2 h))
  hear-created is (Some (h, Creating rights)) at does = inr (is, (h, rights, at, ap (λ (v : Effect). v.sent) does))

  hears-so : Hears x c m e → HearsSo x c m e
  hears-so (hears.Search is d there finds) = inl (finds-other x (found_at d.address m) (searched_by m.p2 x) e finds)
  hears-so (hears.AccessRights is does) = inl (sends _ does (hear-rights (channel_on x c m.p1)))
  hears-so (hears.CreateChannel is does) = hear-created is (channel_on x c m.p1) refl does
  hears-so (hears.CreateChannelFail is does) = inl (sends _ does (hear-failed (channel_on x c m.p1)))
  hears-so (hears.ClearChannel is does) = inl (sends _ does (hear-answered (channel_on x c m.p2)))
  hears-so (hears.ServerDisconnect is does) = inl (sends _ does (hear-left (channel_on x c m.p1)))
  hears-so (hears.Reply is does) = inl (hear-reply (answered_by c m.command m.p2 x.requests) does)
  hears-so (hears.Confirmation is empty does) = inl (sends _ does (hear-confirmed _))
  hears-so (hears.Update is some does) = inl (hear-update (subscription_on x c m.p2) does)
  hears-so (hears.Error is does) = inl (hear-error does)
  hears-so (hears.Other is does) = inl (sends (becomes x) does none-other)

-- ---- every call

data Says (old : Client) (it : Call) (sent : List Sending) : Type 0 where
  Nothing : AreOther sent → Says old it sent
  Asks : AsksForOne it → (s : Sending) → sent ≡ s ∷ [] → (Is command.EventAdd s.message → ⊥) → Says old it sent
  Adds : (h : Handle) (a : Shape) (mask : ℕ) (g : Handle) → it ≡ call.Subscribe h a mask (Ok g) → (s : Sending) → sent ≡ s ∷ [] → (IsRequest s.message → ⊥) → Says old it sent
  Lives : (c h : Handle) (m : Fields) → MakesLive old it c h m → sent ≡ event_adds c m.p2 h old → Says old it sent

unchanged-says : (old new : Client) (it : Call) (sent : List Sending) → IsUnchanged old sent new → Says old it sent
unchanged-says old new it sent is = Nothing (other-is sent [] is.0 none-other)

steps-say : (old new : Client) (c : Handle) (read : Option Fields) (answer : Stepped) (sent : List Sending) → Reads old c read answer sent new → Says old (call.Step c read answer) sent
steps-say old new c (Some m) (Notices told) sent (d, at, t, is) =
    elim (subst (λ (k : Fields). HearsSo old c k (record { core = new; sent = sent; notices = told })) is (hears-so (ends.after_taking c t.rest old) c t.m (record { core = new; sent = sent; notices = told }) t.hears)) [
      | inl other ↦ Nothing other
      | inr lives ↦ Lives c lives.1.0 m (told, refl, lives.0, (lives.1.1, lives.1.2)) lives.1.3
    ]
steps-say old new c None (Notices told) sent does = absurd does
steps-say old new c (Some m) NeedBytes sent does = absurd does
steps-say old new c (Some m) (Closed k) sent does = absurd does
steps-say old new c None NeedBytes sent does = go (connection_at old c) does
  where
    go : (o : Option Connection) → StepsOn old c o NeedBytes sent new → Says old (call.Step c None NeedBytes) sent
    go (Some d) does = unchanged-says old new _ sent does.2
    go None does = absurd does
steps-say old new c None (Closed k) sent does = go (connection_at old c) does
  where
    go : (o : Option Connection) → StepsOn old c o (Closed k) sent new → Says old (call.Step c None (Closed k)) sent
    go (Some d) does = Nothing (other-is sent [] does.1.1 none-other)
    go None does = unchanged-says old new _ sent does.1

says : (old : Client) (it : Call) (sent : List Sending) (new : Client) → Does old it sent new → Says old it sent
says old (call.Open a (Ok h)) sent new does = Nothing (other-is sent [] does.2.0 none-other)
says old (call.Open a (Err r)) sent new does = unchanged-says old new _ sent (opens-not old new a sent r does)
says old (call.Read h a (Ok q)) sent new does = Asks tt _ does.4.0 (λ is. (let n : ◌≡◌ {A = ℕ} 15 1 = is in omega (arith, n)))
says old (call.Read h a (Err r)) sent new does = unchanged-says old new _ sent (reads-not old new h a sent r does)
says old (call.Write h v (Ok _)) sent new does = Asks tt _ does.3.0 (λ is. (let n : ◌≡◌ {A = ℕ} 4 1 = is in omega (arith, n)))
says old (call.Write h v (Err r)) sent new does = unchanged-says old new _ sent (writes-not old new h v sent r does)
says old (call.WriteNotify h v (Ok q)) sent new does = Asks tt _ does.4.0 (λ is. (let n : ◌≡◌ {A = ℕ} 19 1 = is in omega (arith, n)))
says old (call.WriteNotify h v (Err r)) sent new does = unchanged-says old new _ sent (puts-not old new h v sent r does)
says old (call.Subscribe h a mask (Ok g)) sent new does = Adds h a mask g refl _ does.4.0 (λ is. elim is [
  | inl reads ↦ not-add-request 15 reads (λ n. omega (arith, n))
  | inr (inl puts) ↦ not-add-request 19 puts (λ n. omega (arith, n))
  | inr (inr writes) ↦ not-add-request 4 writes (λ n. omega (arith, n))
])
  where
    not-add-request : (n : ℕ) → ◌≡◌ {A = ℕ} 1 n → (1 ≡ n → ⊥) → ⊥
    not-add-request n e differ = differ e
says old (call.Subscribe h a mask (Err r)) sent new does = unchanged-says old new _ sent (subscribes-not old new h a mask sent r does)
says old (call.Unsubscribe g (Ok _)) sent new does = Nothing (other-is sent _ does.3.0 (cancelled-other g does.0 _))
says old (call.Unsubscribe g (Err r)) sent new does = unchanged-says old new _ sent (unsubscribes-not old new g sent r does)
says old (call.Clear h (Ok notices)) sent new does = Nothing (other-is sent _ does.3.0 (cleared-other h does.0))
says old (call.Clear h (Err r)) sent new does = unchanged-says old new _ sent (clears-not old new h sent r does)
says old (call.Connected c answer) sent new does = Nothing (connects-other old c (unconnected old c) answer sent new does)
says old (call.Give c bytes more answer) sent new does = Nothing (gives-other old c bytes more (connection_at old c) answer sent new does)
says old (call.Sent c n) sent new does = Nothing (other-is sent [] does.0 none-other)
says old (call.Step c read answer) sent new does = steps-say old new c read answer sent does
says old (call.Cut c answer) sent new does = Nothing (other-is sent [] does.1 none-other)
says old (call.Close c answer) sent new does = Nothing (other-is sent [] does.1 none-other)
says old (call.Tick now (Ok t)) sent new does = Nothing (other-is sent _ does.1 (ticked-other now old))
says old (call.Tick now (Err refusal.OutOfMemory)) sent new does = unchanged-says old new _ sent does.1
says old (call.Tick now (Err _)) sent new does = absurd does
says old (call.Datagram a (Ok _)) sent new does = Nothing (all-received-other a.from does.0 _ _ does.2)
says old (call.Datagram a (Err refusal.OutOfMemory)) sent new does = unchanged-says old new _ sent does.1
says old (call.Datagram a (Err _)) sent new does = absurd does

-- ---- what is promised

abbrev understands : ℕ → Bool
understands n = list_any (λ (k : Command). eqb n (command_number k)) hears.understood

add-is : (c : Handle) (sid : ℕ) (h : Handle) (x : Client) (i : ℕ) (s : Sending) → At (event_adds c sid h x) i s
    → (g : Handle) × (d : Subscription) × StandsAs x g d × (d.channel ≡ h) × (s ≡ event_add_sent c sid g d)
add-is c sid h x i s at =
    let b = At-mapped (λ (e : Handle × Subscription). event_add_sent c sid e.0 e.1) (standing_to h x.subscriptions) i s at in
    let f = at-filter (λ (v : Handle × Subscription). is_to h v.1 && stands_in v.1.stage) (held x.subscriptions) i b.0 b.1 in
    let both = and_parts (is_to h b.0.1) (stands_in b.0.1.stage) f.2 in
    (b.0.0, b.0.1, standing b.0.0 b.0.1 (held-under x.subscriptions f.0 b.0 f.1) both.1, same-is b.0.1.channel h both.0, b.2)
  where
    standing : (g : Handle) (d : Subscription) → under x.subscriptions g ≡ Some d → stands_in d.stage ≡ true → StandsAs x g d
    standing g d there is =
        ap (λ (o : Option Subscription). option_and_then (λ (s : Subscription). cond (stands_in s.stage) (Some s) None) o) there ∙ ap (λ (b : Bool). cond b (Some d) None) is

pub requests-once : RequestsAreSentOnce
requests-once old it sent new does i s at is = go (says old it sent new does)
  where
    go : Says old it sent → AsksForOne it × (sent ≡ s ∷ [])
    go (Nothing other) = absurd (other i s at (inl is))
    go (Asks asks r one not_add) = (asks, one ∙ ap (λ (z : Sending). z ∷ []) (sym (only-one r s i (subst (λ (l : List Sending). At l i s) one at)).1))
    go (Adds h a mask g call_is r one not_request) = absurd (not_request (subst (λ (z : Sending). IsRequest z.message) (only-one r s i (subst (λ (l : List Sending). At l i s) one at)).1 is))
    go (Lives c h m lives are) =
        let a = add-is c m.p2 h old i s (subst (λ (l : List Sending). At l i s) are at) in
        let one : (s.message).command ≡ 1 = ap (λ (z : Sending). (z.message).command) a.4 in
        absurd (elim is [
          | inl reads ↦ (let n : ◌≡◌ {A = ℕ} 15 1 = sym reads ∙ one in omega (arith, n))
          | inr (inl puts) ↦ (let n : ◌≡◌ {A = ℕ} 19 1 = sym puts ∙ one in omega (arith, n))
          | inr (inr writes) ↦ (let n : ◌≡◌ {A = ℕ} 4 1 = sym writes ∙ one in omega (arith, n))
        ])

adds-only : (old : Client) (it : Call) (sent : List Sending) (new : Client) → Does old it sent new
    → (i : ℕ) (s : Sending) → At sent i s → Is command.EventAdd s.message
    → ((h : Handle) × (a : Shape) × (mask : ℕ) × (g : Handle) × (it ≡ call.Subscribe h a mask (Ok g)) × (sent ≡ s ∷ []))
    ⊎ ((c h : Handle) × (m : Fields) × (g : Handle) × (d : Subscription) × MakesLive old it c h m × StandsAs old g d × (d.channel ≡ h)
    × (s ≡ event_add_sent c m.p2 g d))
adds-only old it sent new does i s at is = go (says old it sent new does)
  where
    go : Says old it sent
        → ((h : Handle) × (a : Shape) × (mask : ℕ) × (g : Handle) × (it ≡ call.Subscribe h a mask (Ok g)) × (sent ≡ s ∷ []))
        ⊎ ((c h : Handle) × (m : Fields) × (g : Handle) × (d : Subscription) × MakesLive old it c h m × StandsAs old g d × (d.channel ≡ h)
        × (s ≡ event_add_sent c m.p2 g d))
    go (Nothing other) = absurd (other i s at (inr is))
    go (Asks asks r one not_add) = absurd (not_add (subst (λ (z : Sending). Is command.EventAdd z.message) (only-one r s i (subst (λ (l : List Sending). At l i s) one at)).1 is))
    go (Adds h a mask g call_is r one not_request) =
        inl (h, a, mask, g, call_is, one ∙ ap (λ (z : Sending). z ∷ []) (sym (only-one r s i (subst (λ (l : List Sending). At l i s) one at)).1))
    go (Lives c h m lives are) = (let a = add-is c m.p2 h old i s (subst (λ (l : List Sending). At l i s) are at) in inr (c, h, m, a.0, a.1, lives, a.2, a.3, a.4))

adds-all : (old : Client) (it : Call) (sent : List Sending) (new : Client) (c h : Handle) (m : Fields) (g : Handle) (d : Subscription)
    → Does old it sent new → MakesLive old it c h m → StandsAs old g d → d.channel ≡ h → In sent (event_add_sent c m.p2 g d)
adds-all old it sent new c h m g d does lives stands to = read (subst (λ (k : Call). Does old k sent new) lives.1 does)
  where
    there : (under old.subscriptions g ≡ Some d) × (stands_in d.stage ≡ true)
    there = stands-as old g d stands

    listed : (i : ℕ) × At (event_adds c m.p2 h old) i (event_add_sent c m.p2 g d)
    listed =
        let r = under-held old.subscriptions g d there.0 in
        let p : Handle × Subscription → Bool = λ (v : Handle × Subscription). is_to h v.1 && stands_in v.1.stage in
        let a = filter-at p (held old.subscriptions) r.0 (g, d) r.1 (and_from (is_to h d) (stands_in d.stage) (subst (λ (k : Handle). same_handle k h ≡ true) (sym to) (same-itself h)) there.1) in
        (a.0, At-map (λ (v : Handle × Subscription). event_add_sent c m.p2 v.0 v.1) (standing_to h old.subscriptions) a.0 (g, d) a.1)

    read : Does old (call.Step c (Some m) (Notices lives.0)) sent new → In sent (event_add_sent c m.p2 g d)
    read (k, at, t, is) = subst (λ (l : List Sending). In l (event_add_sent c m.p2 g d)) (sym (sent-is (subst (λ (z : Fields). Hears (ends.after_taking c t.rest old) c z (record { core = new; sent = sent; notices = lives.0 })) is t.hears))) listed
      where
        f : Effect
        f = record { core = new; sent = sent; notices = lives.0 }

        by : (o : Option (Handle × Phase)) → o ≡ Some (h, Creating lives.3.0) → f ≡ created (ends.after_taking c t.rest old) c m o → sent ≡ event_adds c m.p2 h old
        by o at does = ap (λ (v : Effect). v.sent) (subst (λ (w : Option (Handle × Phase)). f ≡ created (ends.after_taking c t.rest old) c m w) at does)

        sent-is : Hears (ends.after_taking c t.rest old) c m f → sent ≡ event_adds c m.p2 h old
        sent-is (hears.CreateChannel is does) = by (channel_on old c m.p1) lives.3.1 does
        sent-is (hears.Search is a b e) = absurd (let n : ◌≡◌ {A = ℕ} 18 6 = sym lives.2 ∙ is in omega (arith, n))
        sent-is (hears.AccessRights is e) = absurd (let n : ◌≡◌ {A = ℕ} 18 22 = sym lives.2 ∙ is in omega (arith, n))
        sent-is (hears.CreateChannelFail is e) = absurd (let n : ◌≡◌ {A = ℕ} 18 26 = sym lives.2 ∙ is in omega (arith, n))
        sent-is (hears.ClearChannel is e) = absurd (let n : ◌≡◌ {A = ℕ} 18 12 = sym lives.2 ∙ is in omega (arith, n))
        sent-is (hears.ServerDisconnect is e) = absurd (let n : ◌≡◌ {A = ℕ} 18 27 = sym lives.2 ∙ is in omega (arith, n))
        sent-is (hears.Reply is e) = absurd (elim is [
          | inl reads ↦ (let n : ◌≡◌ {A = ℕ} 18 15 = sym lives.2 ∙ reads in omega (arith, n))
          | inr puts ↦ (let n : ◌≡◌ {A = ℕ} 18 19 = sym lives.2 ∙ puts in omega (arith, n))
        ])
        sent-is (hears.Confirmation is empty e) = absurd (let n : ◌≡◌ {A = ℕ} 18 1 = sym lives.2 ∙ is in omega (arith, n))
        sent-is (hears.Update is some e) = absurd (let n : ◌≡◌ {A = ℕ} 18 1 = sym lives.2 ∙ is in omega (arith, n))
        sent-is (hears.Error is e) = absurd (let n : ◌≡◌ {A = ℕ} 18 11 = sym lives.2 ∙ is in omega (arith, n))
        sent-is (hears.Other is e) = absurd (both_ways (understands m.command) is (ap understands lives.2))

pub adds-sent : AddsAreSent
adds-sent = record { only = adds-only; all = adds-all }
