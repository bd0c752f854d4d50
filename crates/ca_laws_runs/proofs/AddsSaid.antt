-- An EVENT_ADD is sent of a subscription that is on a live channel then: what each event sends.
use Rattle.std.proofs.Common.{◌≡◌, ℕ, zero, suc, ◌+◌, ◌≤◌, ◌⊎◌, inl, inr, Bool, true, false, ◌&&◌, cond, eqb, List, [], ◌∷◌, ◌++◌, length, Option, Some, None, refl, sym, ap, ◌∙◌, subst, arith}
use Rattle.std.specs.Prelude.{Ok, drop, is_none, map, option_map, slice_set, unwrap_or}
use Rattle.std.specs.List.{FoldsTo}
use Rattle.std.proofs.lemmas.Bool.{and_parts, both_ways}
use Rattle.ca_text.specs.Place.{At}
use Rattle.ca_text.proofs.Places.{At-mapped, At-parts, At-set, At-snoc, some_is}
use Rattle.ca_text.specs.declared.command.Command.TheVariants as command
use Rattle.ca_wire.specs.Messages.{event_add_request, name_request, version_request}
use Rattle.ca_arena.specs.declared.handle.Handle.{Handle}
use Rattle.ca_dbr.specs.Elements.{Elements}
use Rattle.ca_ids.specs.Table.{Table, held, under, with_held}
use Rattle.ca_requests.specs.Requests.{Asked, Request, answered_by}
use Rattle.ca_requests.specs.Requests as request
use Rattle.ca_monitor.specs.Subscriptions.{Subscription, confirmed_by, is_to, standing_to, stands_in}
use Rattle.ca_wire.specs.declared.header.Header.{Header}
use Rattle.ca_wire.specs.Fields.{Fields}
use Rattle.ca_model.specs.Answers.{Closed, Closing, NeedBytes, Notice, Notices, Sending, Stepped}
use Rattle.ca_model.specs.Answers as aim
use Rattle.ca_model.specs.Client.{Channel, Clearing, Client, ClientCircuit, Connecting, Connection, Creating, Doomed, Leaving, Live, On, Phase, Searching, Standing, channel_on, circuit_to, connection_at, is_on_in, later, out_bytes, sending, standing_at, with_one_sent, with_standing}
use Rattle.ca_model.specs.Client as phase
use Rattle.ca_model.specs.ClientCalls.{ClientSubscribes, LiveChannel, Shape, cancel_sent, clear_sent, clearing_sent, event_add_sent, event_cancel_sent, new_subscription, wanted_by}
use Rattle.ca_model.specs.ClientEnds.{ConnectsOn, GivesOn, Receives, ReceivesAll, StepsOn, after_taking, creations, flow_sent, handed_over, is_connecting, of_circuit, set_up}
use Rattle.ca_model.specs.ClientEnds as ends
use Rattle.ca_model.specs.Ends.{Address}
use Rattle.ca_model.specs.Hears.{Answers, Completes, Effect, Fails, FindsAt, Hears, PutsOn, Updates, any_failed, becomes, clear_answered, confirmed, create_sent, created, doing, event_adds, failed, failing, found_at, subscription_on, left, native_in, put_on, request_failed, rights_told, searched_by, subscription_failed, write_failed}
use Rattle.ca_model.specs.Hears as hears
use Rattle.ca_model.specs.History.{Intent, Line, Sent, Step}
use Rattle.ca_model.specs.History as history
use Rattle.ca_model.proofs.Handles.{same-is}
use Rattle.ca_model.proofs.Standings.{at-filter-map, channel-on, found-standing}
use Rattle.ca_model.proofs.Tables.{held-own, held-under}
use Rattle.ca_laws_parts.proofs.Marks.{at-filter}
use Rattle.ca_laws_runs.proofs.Live.{channels-sending, made-live}
use Rattle.ca_model.specs.ClientEvents.{DownTaken, HappensAccept, HappensClear, HappensClientDatagram, HappensClientRestart, HappensClientStep, HappensDown, HappensOpen, HappensRead, HappensSubscribe, HappensUnsubscribe, HappensUp, HappensWrite, HappensWriteNotify, TicksOne, WantsFirst, about_at, after_tick, cancelled, channel_number, client_closed, client_ended, client_gone, client_stepped, connected_as, heard_in, intent_of, left_silent, lines_of, meant_by, new_circuit, sent_on}
use Rattle.ca_model.specs.Events.{Event}
use Rattle.ca_model.specs.Events as event
use Rattle.ca_model.specs.Runs.{Happens}
use Rattle.ca_model.specs.World.{ClientSide, Joined, Names, ServerSide, World, log_length, with_circuit, with_client, with_server}
use Rattle.ca_laws_parts.specs.Held.{with_request, with_subscription}
use Rattle.ca_laws_parts.specs.Circuit.{sent_to, stamped}
use Rattle.ca_laws_parts.specs.Clients.{ClientsStand}
use Rattle.ca_laws_parts.proofs.ClientsMore.{unconnected-is, wanted-there}
use Rattle.ca_laws_parts.proofs.WritesLists.{none_at}
use Rattle.ca_laws_parts.proofs.Midway.{set-here}
use Rattle.ca_laws_runs.specs.Quiet.{ClientsQuiet, Tidy}
use Rattle.ca_laws_runs.specs.Sides.{IsLiveAs}
use Rattle.ca_laws_runs.proofs.Ends.{From, from-itself}
use Rattle.ca_laws_runs.proofs.Making.{ticked-client}
use Rattle.ca_laws_runs.proofs.OnceWorld.{OnceStand, on-circuit-sent}
use Rattle.ca_laws_runs.proofs.Says.{meant-at}
use Rattle.ca_laws_runs.proofs.Servers.{from-add, from-cut-server, from-finish, from-post, from-pump, from-remove, from-server-restart, from-server-step}
use Rattle.ca_laws_runs.proofs.Stood.{IsStood}

-- no EVENT_ADD
abbrev pub IsNoAdd : Sent → Type 0
IsNoAdd s = (a m : ℕ) → s.intent ≡ history.On a (history.Subscribe m) → ⊥

-- The message is the EVENT_ADD of the subscription, under some SID.
abbrev pub IsAddOf : Fields → Handle → Subscription → Type 0
IsAddOf m g d = (sid : ℕ) × (m ≡ event_add_request (wanted_by sid g d) d.mask)

-- The message is that of one that is on a live channel.
abbrev pub IsStoodAs : Client → (on g h : Handle) → Fields → Type 0
IsStoodAs y on g h m = (it : IsStood y on g h) × IsAddOf m g it.d

-- The EVENT_ADD of a subscription that is on a live channel in the new world, sent on its
-- circuit since the other.
pub record IsAdding (w new : World) (n k : ℕ) (s : Sent) : Type 0 where
  pub c : Joined
  pub y : ClientSide
  pub g : Handle
  pub h : Handle
  pub on : At w.circuits n c
  pub at : At new.clients c.client y
  pub late : length c.lists.up ≤ k
  pub stood : IsStood y.core c.at_client g h
  pub own : IsAddOf s.message g stood.d
  pub meant : s.intent ≡ meant_by y.names.subscriptions g
  pub life : (c.lists).client ≡ y.life

-- Each message is no EVENT_ADD, or was there, or is one so.
abbrev pub AddingBack : (w new : World) → Type 0
AddingBack w new = (n : ℕ) (d : Joined) (k : ℕ) (s : Sent) → At new.circuits n d → At d.lists.up k s → IsNoAdd s ⊎ (((c : Joined) × At w.circuits n c × At c.lists.up k s) ⊎ IsAdding w new n k s)

-- Each of these that is for a subscription is the EVENT_ADD of one that is on a channel that is
-- live on its circuit.
abbrev AllStood : Client → List Sending → Type 0
AllStood y sent = (i : ℕ) (s : Sending) → At sent i s → (h g : Handle) → s.aim ≡ aim.Subscribe h g → IsStoodAs y s.circuit g h s.message

-- no message with this aim is for a subscription
abbrev AllPlain : List Sending → Type 0
AllPlain sent = (i : ℕ) (s : Sending) → At sent i s → (h g : Handle) → s.aim ≡ aim.Subscribe h g → ⊥

plain-stood : (y : Client) (sent : List Sending) → AllPlain sent → AllStood y sent
plain-stood y sent plain i s at h g is = absurd (plain i s at h g is)

-- ---- what a message is for

not-cancelled : (i : Intent) (a m : ℕ) → cancelled i ≡ history.On a (history.Subscribe m) → ⊥
not-cancelled (history.On b (history.Subscribe k)) a m e = cc
not-cancelled (history.On b (history.Cancel k)) a m e = cc
not-cancelled (history.On b history.Create) a m e = cc
not-cancelled (history.On b history.Clear) a m e = cc
not-cancelled (history.On b (history.Request kind k)) a m e = cc
not-cancelled history.OfCircuit a m e = cc

add-aim : (n : Names) (x : Client) → Tidy n x → (v : aim.Aim) (a m : ℕ) → intent_of n v ≡ history.On a (history.Subscribe m) → (h g : Handle) × (v ≡ aim.Subscribe h g)
add-aim n x t aim.OfCircuit a m e = absurd (no-circuit e)
  where
    no-circuit : history.OfCircuit ≡ history.On a (history.Subscribe m) → ⊥
    no-circuit p = cc
add-aim n x t (aim.Create h) a m e = absurd (no-create (channel_number n h) e)
  where
    no-create : (b : ℕ) → history.On b history.Create ≡ history.On a (history.Subscribe m) → ⊥
    no-create b p = cc
add-aim n x t (aim.Clear h) a m e = absurd (no-clear (channel_number n h) e)
  where
    no-clear : (b : ℕ) → history.On b history.Clear ≡ history.On a (history.Subscribe m) → ⊥
    no-clear b p = cc
add-aim n x t (aim.Write h) a m e = absurd (no-write (channel_number n h) e)
  where
    no-write : (b : ℕ) → history.On b (history.Request history.Write n.writes) ≡ history.On a (history.Subscribe m) → ⊥
    no-write b p = cc
add-aim n x t (aim.Read h q) a m e = (let f = meant-at n.requests q a (history.Subscribe m) e in let k = t.asked f.0 f.1 f.2 in absurd (no-request k.0 k.1 f.0 (sym k.2 ∙ f.4)))
  where
    no-request : (b : ℕ) (kind : history.Kind) (j : ℕ) → history.On b (history.Request kind j) ≡ history.On a (history.Subscribe m) → ⊥
    no-request b kind j p = cc
add-aim n x t (aim.Put h q) a m e = (let f = meant-at n.requests q a (history.Subscribe m) e in let k = t.asked f.0 f.1 f.2 in absurd (no-request k.0 k.1 f.0 (sym k.2 ∙ f.4)))
  where
    no-request : (b : ℕ) (kind : history.Kind) (j : ℕ) → history.On b (history.Request kind j) ≡ history.On a (history.Subscribe m) → ⊥
    no-request b kind j p = cc
add-aim n x t (aim.Subscribe h g) a m e = (h, g, refl)
add-aim n x t (aim.Cancel h g) a m e = absurd (not-cancelled (meant_by n.subscriptions g) a m e)

abbrev AllOther : Names → List Sending → Type 0
AllOther n sent = (i : ℕ) (s : Sending) → At sent i s → IsNoAdd (stamped n s)

other-aim : (n : Names) (x : Client) → Tidy n x → (sent : List Sending) → AllPlain sent → AllOther n sent
other-aim n x t sent plain i s at a m is = (let v = add-aim n x t s.aim a m is in plain i s at v.0 v.1 v.2)

aim-or : (v : aim.Aim) → ((h g : Handle) × (v ≡ aim.Subscribe h g)) ⊎ ((h g : Handle) → v ≡ aim.Subscribe h g → ⊥)
aim-or aim.OfCircuit = inr (λ h g e. cc)
aim-or (aim.Create k) = inr (λ h g e. cc)
aim-or (aim.Clear k) = inr (λ h g e. cc)
aim-or (aim.Write k) = inr (λ h g e. cc)
aim-or (aim.Read k q) = inr (λ h g e. cc)
aim-or (aim.Put k q) = inr (λ h g e. cc)
aim-or (aim.Subscribe k q) = inl (k, q, refl)
aim-or (aim.Cancel k q) = inr (λ h g e. cc)

plain-nil : AllPlain []
plain-nil i s at = absurd (none_at i s at)

plain-one : (r : Sending) → ((h g : Handle) → r.aim ≡ aim.Subscribe h g → ⊥) → AllPlain (r ∷ [])
plain-one r none zero s at h g is = none h g (ap (λ (v : Sending). v.aim) (some_is r s at) ∙ is)
plain-one r none (suc i) s at h g is = absurd cc

plain-both : (ss rs : List Sending) → AllPlain ss → AllPlain rs → AllPlain (ss ++ rs)
plain-both ss rs a b i s at = elim (At-parts ss rs i s at) [
  | inl first ↦ a i s first
  | inr later ↦ b later.0 s later.2
]

plain-of : (ss rs : List Sending) → ss ≡ rs → AllPlain rs → AllPlain ss
plain-of ss rs is plain = subst (λ (l : List Sending). AllPlain l) (sym is) plain

plain-circuit : {A : Type 0} (c : Handle) (f : A → Sending) (xs : List A) → ((x : A) → (f x).aim ≡ aim.OfCircuit) → AllPlain (map f xs)
plain-circuit c f xs each i s at h g is = (let m = At-mapped f xs i s at in not-cancel (sym (ap (λ (v : Sending). v.aim) m.2 ∙ each m.0) ∙ is))
  where
    not-cancel : aim.OfCircuit ≡ aim.Subscribe h g → ⊥
    not-cancel e = cc

-- ---- what a message that is read makes the client send

subscriptions-sending : (sends : List Sending) (x : Client) → (sending sends x).subscriptions ≡ x.subscriptions
subscriptions-sending [] x = refl
subscriptions-sending (s ∷ sends) x = subscriptions-sending sends (with_one_sent x s)

stood-as-sending : (sends : List Sending) (x : Client) (on g h : Handle) (m : Fields) → IsStoodAs x on g h m → IsStoodAs (sending sends x) on g h m
stood-as-sending sends x on g h m (it, own) = (
  record {
    d = it.d;
    there = subst (λ (t : Table Subscription). under t g ≡ Some it.d) (sym (subscriptions-sending sends x)) it.there;
    stands = it.stands;
    to = it.to;
    live = (it.live.0, subst (λ (t : Table Channel). IsLiveAs t on h it.live.0) (sym (channels-sending sends x)) it.live.1);
  },
  own,
)

-- those of a channel that is live now
stood-adds : (x : Client) (c : Handle) (m : Fields) (k : Handle) (rights : ℕ) → channel_on x c m.p1 ≡ Some (k, Creating rights) → (let z : Client = with_standing (On c (Live (native_in m) rights)) k x in AllStood (sending (event_adds c m.p2 k x) z) (event_adds c m.p2 k x))
stood-adds x c m k rights found i s at h g is =
    let b = At-mapped (λ (e : Handle × Subscription). event_add_sent c m.p2 e.0 e.1) (standing_to k x.subscriptions) i s at in
    let f = at-filter (λ (v : Handle × Subscription). is_to k v.1 && stands_in v.1.stage) (held x.subscriptions) i b.0 b.1 in
    let row : under x.subscriptions (b.0).0 ≡ Some (b.0).1 = held-under x.subscriptions f.0 b.0 f.1 in
    let both = and_parts (is_to k (b.0).1) (stands_in ((b.0).1).stage) f.2 in
    let aims = aim-parts ((b.0).1).channel (b.0).0 h g (sym (ap (λ (v : Sending). v.aim) b.2) ∙ is) in
    let ch = channel-on x c m.p1 k (Creating rights) found in
    let own : IsLiveAs z.channels c k m.p2 = made-live x.channels c k ch.0 (native_in m) rights ch.1 in
    let to_k : ((b.0).1).channel ≡ k = same-is ((b.0).1).channel k both.0 in
    let stood : IsStood z c (b.0).0 ((b.0).1).channel = record { d = (b.0).1; there = row; stands = both.1; to = refl; live = (m.p2, subst (λ (v : Handle). IsLiveAs z.channels c v m.p2) (sym to_k) own) } in
    let message : Fields = event_add_request (wanted_by m.p2 (b.0).0 (b.0).1) ((b.0).1).mask in
    let whole : IsStoodAs z c (b.0).0 ((b.0).1).channel message = (stood, (m.p2, refl)) in
    stood-as-sending (event_adds c m.p2 k x) z s.circuit g h s.message
    (subst (λ (v : Handle × Handle × Handle × Fields). IsStoodAs z v.0 v.1 v.2 v.3) (λ j. (sym (ap (λ (v : Sending). v.circuit) b.2) j, aims.1 j, aims.0 j, sym (ap (λ (v : Sending). v.message) b.2) j)) whole)
  where
    z : Client
    z = with_standing (On c (Live (native_in m) rights)) k x

    aim-parts : (a b c d : Handle) → aim.Subscribe a b ≡ aim.Subscribe c d → (a ≡ c) × (b ≡ d)
    aim-parts a b c d e = (cc, cc)

plain-clear : (c : Handle) (sid : ℕ) (k : Handle) → AllPlain (clear_sent c sid k ∷ [])
plain-clear c sid k = plain-one (clear_sent c sid k) (λ h g e. not-cancel h g e)
  where
    not-cancel : (h g : Handle) → aim.Clear k ≡ aim.Subscribe h g → ⊥
    not-cancel h g e = cc

plain-create : (c k : Handle) (here : Channel) → AllPlain (create_sent c k here ∷ [])
plain-create c k here = plain-one (create_sent c k here) (λ h g e. not-cancel h g e)
  where
    not-cancel : (h g : Handle) → aim.Create k ≡ aim.Subscribe h g → ⊥
    not-cancel h g e = cc

module _ (x : Client) (e : Effect) where
  so : (sent : List Sending) (notices : List Notice) (z : Client) → e ≡ doing sent notices z → AllPlain sent → AllPlain e.sent
  so sent notices z is plain = plain-of e.sent sent (ap (λ (v : Effect). v.sent) is) plain

  none : (z : Effect) → e ≡ z → z.sent ≡ [] → AllPlain e.sent
  none z is empty = plain-of e.sent [] (ap (λ (v : Effect). v.sent) is ∙ empty) plain-nil

  module _ (c : Handle) (m : Fields) where
    rights-none : (o : Option (Handle × Phase)) → (rights_told x c m o).sent ≡ []
    rights-none None = refl
    rights-none (Some (h, Connecting)) = refl
    rights-none (Some (h, Leaving)) = refl
    rights-none (Some (h, Clearing)) = refl
    rights-none (Some (h, Doomed)) = refl
    rights-none (Some (h, Creating rights)) = refl
    rights-none (Some (h, Live native rights)) = refl

    plain-doomed : (h : Handle) → e ≡ created x c m (Some (h, Doomed)) → AllPlain e.sent
    plain-doomed h is = so (clear_sent c m.p2 h ∷ []) _ _ is (plain-clear c m.p2 h)

    stood-created : (o : Option (Handle × Phase)) → channel_on x c m.p1 ≡ o → e ≡ created x c m o → AllStood e.core e.sent
    stood-created None at is = plain-stood e.core e.sent (none (becomes x) is refl)
    stood-created (Some (h, Connecting)) at is = plain-stood e.core e.sent (none (becomes x) is refl)
    stood-created (Some (h, Leaving)) at is = plain-stood e.core e.sent (none (becomes x) is refl)
    stood-created (Some (h, Clearing)) at is = plain-stood e.core e.sent (none (becomes x) is refl)
    stood-created (Some (h, Live native rights)) at is = plain-stood e.core e.sent (none (becomes x) is refl)
    stood-created (Some (h, Doomed)) at is = plain-stood e.core e.sent (plain-doomed h is)
    stood-created (Some (h, Creating rights)) at is = subst (λ (v : Effect). AllStood v.core v.sent) (sym is) (stood-adds x c m h rights at)

    failed-none : (o : Option (Handle × Phase)) → (failed x o).sent ≡ []
    failed-none None = refl
    failed-none (Some (h, Connecting)) = refl
    failed-none (Some (h, Leaving)) = refl
    failed-none (Some (h, Clearing)) = refl
    failed-none (Some (h, Doomed)) = refl
    failed-none (Some (h, Creating rights)) = refl
    failed-none (Some (h, Live native rights)) = refl

    answered-none : (o : Option (Handle × Phase)) → (clear_answered x c o).sent ≡ []
    answered-none None = refl
    answered-none (Some (h, Connecting)) = refl
    answered-none (Some (h, Leaving)) = refl
    answered-none (Some (h, Clearing)) = refl
    answered-none (Some (h, Doomed)) = refl
    answered-none (Some (h, Creating rights)) = refl
    answered-none (Some (h, Live native rights)) = refl

    plain-left : (o : Option (Handle × Phase)) → e ≡ left x c o → AllPlain e.sent
    plain-left None is = none (becomes x) is refl
    plain-left (Some (h, Connecting)) is = none (becomes x) is refl
    plain-left (Some (h, Leaving)) is = none (becomes x) is refl
    plain-left (Some (h, Clearing)) is = none (becomes x) is refl
    plain-left (Some (h, Doomed)) is = none (becomes x) is refl
    plain-left (Some (h, Creating rights)) is = none (becomes x) is refl
    plain-left (Some (h, Live native rights)) is = so (clear_sent c native.sid h ∷ []) _ _ is (plain-clear c native.sid h)

    plain-completes : (q : Handle) (a : Asked) (s : request.Stage) → Completes x m q a s e → AllPlain e.sent
    plain-completes q a request.Open done = so [] _ _ done.2 plain-nil
    plain-completes q a request.Draining done = so [] _ _ done plain-nil

    plain-reply : (o : Option (Handle × Request)) → Answers x m o e → AllPlain e.sent
    plain-reply None is = none (becomes x) is refl
    plain-reply (Some (q, r)) is = plain-completes q r.asked r.stage is

    confirmed-none : (o : Option Handle) → (confirmed x o).sent ≡ []
    confirmed-none None = refl
    confirmed-none (Some g) = refl

    plain-update : (o : Option Handle) → Updates x m o e → AllPlain e.sent
    plain-update None is = none (becomes x) is refl
    plain-update (Some g) is = so [] _ _ is.2 plain-nil

    write-none : (o : Option (Handle × Phase)) → (write_failed x m o).sent ≡ []
    write-none None = refl
    write-none (Some (h, Connecting)) = refl
    write-none (Some (h, Leaving)) = refl
    write-none (Some (h, Clearing)) = refl
    write-none (Some (h, Doomed)) = refl
    write-none (Some (h, Creating rights)) = refl
    write-none (Some (h, Live native rights)) = refl

    refused-none : (o : Option Handle) → (subscription_failed x m o).sent ≡ []
    refused-none None = refl
    refused-none (Some g) = refl

    request-none : (q : Handle) (s : request.Stage) → (request_failed x m q s).sent ≡ []
    request-none q request.Open = refl
    request-none q request.Draining = refl

    any-none : (o : Option (Handle × Request)) → (any_failed x m o).sent ≡ []
    any-none None = refl
    any-none (Some (q, r)) = request-none q r.stage

    failing-none : (h : Header) (a b : Bool) → (cond a (write_failed x m (channel_on x c m.p1)) (cond b (subscription_failed x m (subscription_on x c h.p2)) (any_failed x m (answered_by c h.command h.p2 x.requests)))).sent ≡ []
    failing-none h true b = write-none (channel_on x c m.p1)
    failing-none h false true = refused-none (subscription_on x c h.p2)
    failing-none h false false = any-none (answered_by c h.command h.p2 x.requests)

    plain-error : Fails x c m e → AllPlain e.sent
    plain-error fails = elim fails [
      | inr not_whole ↦ none (becomes x) not_whole.1 refl
      | inl whole ↦ none (failing x c m whole.0) whole.2 (failing-none whole.0 (eqb whole.0.command 4) (eqb whole.0.command 1))
    ]

  plain-put-on : (d : Handle) (k : Option Connection) (h : Handle) (here : Channel) → e ≡ put_on d k h here x → AllPlain e.sent
  plain-put-on d None h here is = none (put_on d None h here x) is refl
  plain-put-on d (Some k) h here is = so (create_sent d h here ∷ []) _ _ is (plain-create d h here)

plain-puts : (x : Client) (e : Effect) (address : Address) (h : Handle) (here : Channel) → (o : Option (Handle × ClientCircuit)) → PutsOn x address h here o e → AllPlain e.sent
plain-puts x e address h here (Some (d, v)) is = plain-put-on x e d v.connection h here is
plain-puts x e address h here None is = elim is [
  | inr full ↦ none x e (becomes x) full.1 refl
  | inl new ↦ plain-put-on (hears.with_circuit new.0 (phase.new_circuit address here.priority false) x) e new.0 None h here new.2
]

plain-finds : (x : Client) (e : Effect) (address : Address) (o : Option (Handle × Channel)) → FindsAt x address o e → AllPlain e.sent
plain-finds x e address None is = none x e (becomes x) is refl
plain-finds x e address (Some (h, here)) is = plain-puts x e address h here (circuit_to address here.priority x) is

stood-heard : (x : Client) (c : Handle) (m : Fields) (e : Effect) → Hears x c m e → AllStood e.core e.sent
stood-heard x c m e (hears.Search is d there finds) = plain-stood e.core e.sent (plain-finds x e (found_at d.address m) (searched_by m.p2 x) finds)
stood-heard x c m e (hears.AccessRights is does) = plain-stood e.core e.sent (none x e (rights_told x c m (channel_on x c m.p1)) does (rights-none x e c m (channel_on x c m.p1)))
stood-heard x c m e (hears.CreateChannel is does) = stood-created x e c m (channel_on x c m.p1) refl does
stood-heard x c m e (hears.CreateChannelFail is does) = plain-stood e.core e.sent (none x e (failed x (channel_on x c m.p1)) does (failed-none x e c m (channel_on x c m.p1)))
stood-heard x c m e (hears.ClearChannel is does) = plain-stood e.core e.sent (none x e (clear_answered x c (channel_on x c m.p2)) does (answered-none x e c m (channel_on x c m.p2)))
stood-heard x c m e (hears.ServerDisconnect is does) = plain-stood e.core e.sent (plain-left x e c m (channel_on x c m.p1) does)
stood-heard x c m e (hears.Reply is does) = plain-stood e.core e.sent (plain-reply x e c m (answered_by c m.command m.p2 x.requests) does)
stood-heard x c m e (hears.Confirmation is empty does) = plain-stood e.core e.sent (none x e (confirmed x (confirmed_by c m.p2 x.subscriptions)) does (confirmed-none x e c m (confirmed_by c m.p2 x.subscriptions)))
stood-heard x c m e (hears.Update is some does) = plain-stood e.core e.sent (plain-update x e c m (subscription_on x c m.p2) does)
stood-heard x c m e (hears.Error is does) = plain-stood e.core e.sent (plain-error x e c m does)
stood-heard x c m e (hears.Other is does) = plain-stood e.core e.sent (none x e (becomes x) does refl)

plain-received : (x : Client) (from : Address) (m : Fields) (e : Effect) → Receives from x m e → AllPlain e.sent
plain-received x from m e (ends.Search is finds) = plain-finds x e (found_at from m) (searched_by m.p2 x) finds
plain-received x from m e (ends.Beacon is port does) = plain-of e.sent [] (ap (λ (v : Effect). v.sent) does) plain-nil
plain-received x from m e (ends.Other not_search not_beacon does) = none x e (becomes x) does refl

plain-all-received : (from : Address) (ms : List Fields) (x : Client) (e : Effect) → ReceivesAll from x ms e → AllPlain e.sent
plain-all-received from [] x e does = none x e (becomes x) does refl
plain-all-received from (m ∷ ms) x e does =
    plain-of e.sent (does.0.sent ++ does.1.sent) (ap (λ (v : Effect). v.sent) does.4)
    (plain-both does.0.sent does.1.sent (plain-received x from m does.0 does.2) (plain-all-received from ms does.0.core does.1 does.3))

-- ---- what other calls send

plain-cleared : (h : Handle) (s : Standing) → AllPlain (clearing_sent h s)
plain-cleared h Searching = plain-nil
plain-cleared h (On c Connecting) = plain-nil
plain-cleared h (On c (Creating rights)) = plain-nil
plain-cleared h (On c Leaving) = plain-nil
plain-cleared h (On c Clearing) = plain-nil
plain-cleared h (On c Doomed) = plain-nil
plain-cleared h (On c (Live native rights)) = plain-clear c native.sid h

plain-cancel : (g : Handle) (d : Subscription) (o : Option Standing) → AllPlain (cancel_sent g d o)
plain-cancel g d None = plain-nil
plain-cancel g d (Some Searching) = plain-nil
plain-cancel g d (Some (On c Connecting)) = plain-nil
plain-cancel g d (Some (On c (Creating rights))) = plain-nil
plain-cancel g d (Some (On c Leaving)) = plain-nil
plain-cancel g d (Some (On c Clearing)) = plain-nil
plain-cancel g d (Some (On c Doomed)) = plain-nil
plain-cancel g d (Some (On c (Live native rights))) = plain-one (event_cancel_sent c native.sid g d) (λ h k e. cc)

plain-given : (x : Client) (c : Handle) (bytes : List ℕ) (more : Bool) (o : Option Connection) (sent : List Sending) (y : Client) → GivesOn x c bytes more o (Ok tt) sent y → AllPlain sent
plain-given x c bytes more (Some e) sent y gives = plain-of sent (flow_sent c more e) gives.0 (plain-circuit c _ _ (λ k. refl))
plain-given x c bytes more None sent y gives = absurd gives

plain-creations : (c : Handle) (x : Client) → AllPlain (creations c x)
plain-creations c x i s at h g is =
    let f = at-filter-map (λ (e : Handle × Channel). cond (is_on_in is_connecting c e.1) (Some (create_sent c e.0 e.1)) None) (held x.channels) i s at in
    by (is_on_in is_connecting c f.1.1) f.1 f.3
  where
    no-cancel : (k : Handle) → aim.Create k ≡ aim.Subscribe h g → ⊥
    no-cancel k e = cc

    none-some : (let a : Option Sending = None in a ≡ Some s) → ⊥
    none-some e = cc

    by : (b : Bool) (e : Handle × Channel) → cond b (Some (create_sent c e.0 e.1)) None ≡ Some s → ⊥
    by true e is_s = no-cancel e.0 (ap (λ (v : Sending). v.aim) (some_is (create_sent c e.0 e.1) s is_s) ∙ is)
    by false e is_s = none-some is_s

plain-connects : (x : Client) (c : Handle) (d : ClientCircuit) (k : Option Closing) (sent : List Sending) (y : Client) → ConnectsOn x c (Some d) k sent y → AllPlain sent
plain-connects x c d None sent y does = plain-of sent (set_up x.peer c d ++ creations c x) does.0 (plain-both (set_up x.peer c d) (creations c x) (plain-circuit c (of_circuit c) (version_request d.priority ∷ name_request command.ClientName x.peer.user ∷ name_request command.HostName x.peer.host ∷ []) (λ k. refl)) (plain-creations c x))
plain-connects x c d (Some k) sent y does = plain-of sent [] does.1 plain-nil

-- ---- worlds

-- Each circuit was there with the same messages sent.
abbrev Ups : (w mid : World) → Type 0
Ups w mid = (n : ℕ) (b : Joined) → At mid.circuits n b → (c : Joined) × At w.circuits n c × (b.lists.up ≡ c.lists.up)

ups-self : (w new : World) → new.circuits ≡ w.circuits → Ups w new
ups-self w new is n b at = (b, subst (λ (l : List Joined). At l n b) is at, refl)

ups-set : (w new : World) (k : ℕ) (j d : Joined) → At w.circuits k j → new.circuits ≡ slice_set w.circuits k d → d.lists.up ≡ j.lists.up → Ups w new
ups-set w new k j d on is up n b at = elim (At-set w.circuits k d n b (subst (λ (l : List Joined). At l n b) is at)) [
  | inl own ↦ (j, subst (λ (m : ℕ). At w.circuits m j) (sym own.0) on, ap (λ (v : Joined). v.lists.up) own.1 ∙ up)
  | inr old ↦ (b, old.0, refl)
]

ups-from : (w new : World) → From w new → Ups w new
ups-from w new f n b at = (let a = f.circuits n b at in (a.0, a.1, a.2.up))

says-ups : (w new : World) → Ups w new → AddingBack w new
says-ups w new ups n d k s at there = (let c = ups n d at in inr (inl (c.0, c.1, subst (λ (l : List Sent). At l k s) c.2 there)))

-- These were sent by a client since.
says-after : (w mid new : World) (i : ℕ) (names : Names) (sent : List Sending) → Ups w mid → ((n : ℕ) (d : Joined) → At new.circuits n d → (b : Joined) × At mid.circuits n b × (d.lists.up ≡ b.lists.up ++ sent_on i names sent b)) → AllOther names sent → AddingBack w new
says-after w mid new i names sent ups goes other n d k s at there =
    let b = goes n d at in
    let c = ups n b.0 b.1 in
    elim (At-parts b.0.lists.up (sent_on i names sent b.0) k s (subst (λ (l : List Sent). At l k s) b.2 there)) [
      | inl old ↦ inr (inl (c.0, c.1, subst (λ (l : List Sent). At l k s) c.2 old))
      | inr late ↦
          let v = (on-circuit-sent i names sent b.0 late.0 s late.2).2 in
          inl (λ a m is. other v.0 v.1 v.2 a m (ap (λ (z : Sent). z.intent) (sym v.4) ∙ is))
    ]

after-goes : (i : ℕ) (names : Names) (sent : List Sending) (mid new : World) → new.circuits ≡ map (sent_to i names sent) mid.circuits → (n : ℕ) (d : Joined) → At new.circuits n d → (b : Joined) × At mid.circuits n b × (d.lists.up ≡ b.lists.up ++ sent_on i names sent b)
after-goes i names sent mid new is n d at =
    let m = At-mapped (sent_to i names sent) mid.circuits n d (subst (λ (l : List Joined). At l n d) is at) in
    (m.0, m.1, ap (λ (v : Joined). v.lists.up) m.2)

-- a call by which nothing is subscribed to
says-called : (w mid new : World) (i : ℕ) (names : Names) (sent : List Sending) → Ups w mid → new.circuits ≡ map (sent_to i names sent) mid.circuits → AllOther names sent → AddingBack w new
says-called w mid new i names sent ups is other = says-after w mid new i names sent ups (after-goes i names sent mid new is) other

-- Each circuit was there with the same end and the same messages sent.
abbrev EndUps : (w mid : World) → Type 0
EndUps w mid = (n : ℕ) (b : Joined) → At mid.circuits n b → (c : Joined) × At w.circuits n c × (b.lists.up ≡ c.lists.up) × (b.client ≡ c.client) × (b.at_client ≡ c.at_client) × (b.lists.client_open ≡ c.lists.client_open)

-- What was sent for subscriptions is of those that are at the client that is there now.
says-adding : (w mid new : World) (i : ℕ) (z : ClientSide) (sent : List Sending) → EndUps w mid → new.circuits ≡ map (sent_to i z.names sent) mid.circuits → At new.clients i z → AllStood z.core sent → Tidy z.names z.core → ((m : ℕ) (c : Joined) → At w.circuits m c → c.client ≡ i → c.lists.client_open ≡ true → c.lists.client ≡ z.life) → AddingBack w new
says-adding w mid new i z sent ups circuits at_z stood tidy lives n d k s at there =
    let b = after-goes i z.names sent mid new circuits n d at in
    let c = ups n b.0 b.1 in
    elim (At-parts b.0.lists.up (sent_on i z.names sent b.0) k s (subst (λ (l : List Sent). At l k s) b.2 there)) [
      | inl old ↦ inr (inl (c.0, c.1, subst (λ (l : List Sent). At l k s) c.2 old))
      | inr late ↦
          let v = on-circuit-sent i z.names sent b.0 late.0 s late.2 in
          elim (aim-or (v.2.1).aim) [
            | inr other ↦ inl (λ a m is. (let f = add-aim z.names z.core tidy (v.2.1).aim a m (ap (λ (y : Sent). y.intent) (sym v.2.4) ∙ is) in other f.0 f.1 f.2))
            | inl adds ↦
                let on_is : (v.2.1).circuit ≡ c.0.at_client = same-is (v.2.1).circuit b.0.at_client v.2.3 ∙ c.4 in
                let said : IsStoodAs z.core c.0.at_client adds.1 adds.0 s.message =
                subst (λ (o : Handle × Fields). IsStoodAs z.core o.0 adds.1 adds.0 o.1) (λ p. (on_is p, sym (ap (λ (y : Sent). y.message) v.2.4) p)) (stood v.2.0 v.2.1 v.2.2 adds.0 adds.1 adds.2) in
                inr (inr (record {
                  c = c.0;
                  y = z;
                  g = adds.1;
                  h = adds.0;
                  on = c.1;
                  at = subst (λ (m : ℕ). At new.clients m z) (sym v.0 ∙ c.3) at_z;
                  late = (let e : k ≡ length b.0.lists.up + late.0 = late.1 in let f : length b.0.lists.up ≡ length c.0.lists.up = ap (λ (l : List Sent). length l) c.2 in omega (arith, e, f));
                  stood = said.0;
                  own = said.1;
                  life = lives n c.0 c.1 (sym c.3 ∙ v.0) (sym c.5 ∙ v.1);
                  meant = ap (λ (y : Sent). y.intent) v.2.4 ∙ ap (λ (y : aim.Aim). intent_of z.names y) adds.2;
                }))
          ]
    ]

-- a subscription that is made stands
stood-subscribed : (x : Client) (h : Handle) (a : Shape) (mask : ℕ) (q : Handle) (sent : List Sending) (y : Client) → ClientSubscribes x h a mask (Ok q) sent y → AllStood y sent
stood-subscribed x h a mask q sent y subscribes =
    subst (λ (v : List Sending × Client). AllStood v.1 v.0) (λ i. (sym subscribes.4.0 i, sym subscribes.4.1 i)) one
  where
    l : LiveChannel
    l = subscribes.0

    d : Subscription
    d = new_subscription h a mask

    s : Sending
    s = event_add_sent l.circuit l.native.sid q d

    z : Client
    z = record x { subscriptions = with_held q d x.subscriptions }

    aim-parts : (a b c d : Handle) → aim.Subscribe a b ≡ aim.Subscribe c d → (a ≡ c) × (b ≡ d)
    aim-parts a b c d e = (cc, cc)

    one : AllStood (sending (s ∷ []) z) (s ∷ [])
    one i r at k g is = go i at
      where
        go : (i : ℕ) → At (s ∷ []) i r → IsStoodAs (sending (s ∷ []) z) r.circuit g k r.message
        go zero there =
            let same : s ≡ r = some_is s r there in
            let aims = aim-parts h q k g (ap (λ (v : Sending). v.aim) same ∙ is) in
            let f = found-standing x h (On l.circuit (Live l.native l.rights)) subscribes.1 in
            let stood : IsStood z l.circuit q h = record {
              d = d;
              there = held-own x.subscriptions q d subscribes.3;
              stands = refl;
              to = refl;
              live = (l.native.sid, record { ch = f.0; native = l.native; rights = l.rights; there = f.1; stands = f.2; is = refl });
            } in
            let whole : IsStoodAs z l.circuit q h s.message = (stood, (l.native.sid, refl)) in
            stood-as-sending (s ∷ []) z r.circuit g k r.message
            (subst (λ (v : Handle × Handle × Handle × Fields). IsStoodAs z v.0 v.1 v.2 v.3) (λ j. (ap (λ (v : Sending). v.circuit) same j, aims.1 j, aims.0 j, ap (λ (v : Sending). v.message) same j)) whole)
        go (suc i) there = absurd cc

module _ (w new : World) (i : ℕ) (x : ClientSide) (at : At w.clients i x) (q : ClientsQuiet w) (now : ClientsQuiet new) (once : OnceStand w) where
  same-world : new.circuits ≡ w.circuits → AddingBack w new
  same-world is = says-ups w new (ups-self w new is)

  -- names as they are after it
  by-new : (z : ClientSide) (sent : List Sending) → new.clients ≡ slice_set w.clients i z → new.circuits ≡ map (sent_to i z.names sent) w.circuits → AllPlain sent → AddingBack w new
  by-new z sent clients circuits plain =
      let there : At new.clients i z = subst (λ (l : List ClientSide). At l i z) (sym clients) (set-here w.clients i x z at) in
      says-called w w new i z.names sent (ups-self w w refl) circuits (other-aim z.names z.core (now.tidy i z there) sent plain)

  -- names as they were
  by-old : (sent : List Sending) → new.circuits ≡ map (sent_to i x.names sent) w.circuits → AllPlain sent → AddingBack w new
  by-old sent circuits plain = says-called w w new i x.names sent (ups-self w w refl) circuits (other-aim x.names x.core (q.tidy i x at) sent plain)

  says-open : (name : List ℕ) (priority : ℕ) → HappensOpen w i x name priority new → AddingBack w new
  says-open name priority happens = elim happens [
    | inl refusal ↦ same-world (ap (λ (z : World). z.circuits) refusal.3)
    | inr did ↦
        by-new (record x { core = did.2; names = record x.names { channels = x.names.channels ++ did.0 ∷ [] } }) did.1 (ap (λ (z : World). z.clients) did.4) (ap (λ (z : World). z.circuits) did.4) (plain-of did.1 [] did.3.2.0 plain-nil)
  ]

  says-read : (c : ℕ) (h : Handle) (data_type count : ℕ) → HappensRead w i x c h data_type count new → AddingBack w new
  says-read c h data_type count happens = elim happens [
    | inl refusal ↦ same-world (ap (λ (z : World). z.circuits) refusal.3)
    | inr did ↦
        by-new (record x { core = did.2; names = with_request did.0 (history.On c (history.Request history.Read (length x.names.requests))) x.names }) did.1 (ap (λ (z : World). z.clients) did.4) (ap (λ (z : World). z.circuits) did.4)
        (plain-of did.1 _ did.3.4.0 (plain-one _ (λ k g e. not-cancel k g did.0 e)))
  ]
    where
      not-cancel : (k g r : Handle) → aim.Read h r ≡ aim.Subscribe k g → ⊥
      not-cancel k g r e = cc

  says-put : (c : ℕ) (h : Handle) (v : Elements) → HappensWriteNotify w i x c h v new → AddingBack w new
  says-put c h v happens = elim happens [
    | inl refusal ↦ same-world (ap (λ (z : World). z.circuits) refusal.3)
    | inr did ↦
        by-new (record x { core = did.2; names = with_request did.0 (history.On c (history.Request history.Put (length x.names.requests))) x.names }) did.1 (ap (λ (z : World). z.clients) did.4) (ap (λ (z : World). z.circuits) did.4)
        (plain-of did.1 _ did.3.4.0 (plain-one _ (λ k g e. not-cancel k g did.0 e)))
  ]
    where
      not-cancel : (k g r : Handle) → aim.Put h r ≡ aim.Subscribe k g → ⊥
      not-cancel k g r e = cc

  says-write : (c : ℕ) (h : Handle) (v : Elements) → HappensWrite w i x c h v new → AddingBack w new
  says-write c h v happens = elim happens [
    | inl refusal ↦ same-world (ap (λ (z : World). z.circuits) refusal.3)
    | inr did ↦ by-old did.1 (ap (λ (z : World). z.circuits) did.4) (plain-of did.1 _ did.3.3.0 (plain-one _ (λ k g e. not-cancel k g e)))
  ]
    where
      not-cancel : (k g : Handle) → aim.Write h ≡ aim.Subscribe k g → ⊥
      not-cancel k g e = cc

  says-subscribe : (c : ℕ) (h : Handle) (data_type count mask : ℕ) → HappensSubscribe w i x c h data_type count mask new → AddingBack w new
  says-subscribe c h data_type count mask happens = elim happens [
    | inl refusal ↦ same-world (ap (λ (z : World). z.circuits) refusal.3)
    | inr did ↦
        let z : ClientSide = record x { core = did.2; names = with_subscription did.0 (history.On c (history.Subscribe (length x.names.subscriptions))) x.names } in
        let there : At new.clients i z = subst (λ (v : World). At v.clients i z) (sym did.4) (set-here w.clients i x z at) in
        says-adding w w new i z did.1 (λ n b at_b. (b, at_b, refl, refl, refl, refl)) (ap (λ (v : World). v.circuits) did.4) there
        (stood-subscribed x.core h (record { data_type = data_type; count = count }) mask did.0 did.1 did.2 did.3) (now.tidy i z there) (λ m b on mine opened. once.ends m b x on (subst (λ (v : ℕ). At w.clients v x) (sym mine) at) opened)
  ]

  says-clear : (c : ℕ) (h : Handle) → HappensClear w i x c h new → AddingBack w new
  says-clear c h happens = elim happens [
    | inl refusal ↦ same-world (ap (λ (z : World). z.circuits) refusal.3)
    | inr did ↦ by-old did.1 (ap (λ (z : World). z.circuits) did.4) (plain-of did.1 _ did.3.3.0 (plain-cleared h did.3.0))
  ]

  says-datagram : (from : Address) (bytes : List ℕ) → HappensClientDatagram w i x from bytes new → AddingBack w new
  says-datagram from bytes happens =
      let came : Client = record x.core { moment = later w.moment x.core } in
      let e : Effect = record { core = happens.1; sent = happens.0; notices = [] } in
      by-old happens.0 (ap (λ (z : World). z.circuits) happens.3) (plain-all-received from happens.2.0 came e happens.2.2)

  says-unsubscribe : (g : Handle × Intent) → HappensUnsubscribe w i x g new → AddingBack w new
  says-unsubscribe g happens = elim happens [
    | inl refusal ↦ same-world (ap (λ (z : World). z.circuits) refusal.3)
    | inr did ↦ by-old did.1 (ap (λ (z : World). z.circuits) did.4) (plain-of did.1 _ ((did.3).3).0 (plain-cancel g.0 (did.3).0 (standing_at x.core ((did.3).0).channel)))
  ]

module _ (w new : World) (k : ℕ) (j : Joined) (x : ClientSide) (on : At w.circuits k j) (there : At w.clients j.client x) (q : ClientsQuiet w) (now : ClientsQuiet new) (once : OnceStand w) where
  said-mid : (mid : World) (sent : List Sending) → Ups w mid → new.circuits ≡ map (sent_to j.client x.names sent) mid.circuits → AllPlain sent → AddingBack w new
  said-mid mid sent ups circuits plain = says-called w mid new j.client x.names sent ups circuits (other-aim x.names x.core (q.tidy j.client x there) sent plain)

  says-up : (n : ℕ) (y : ServerSide) → HappensUp w k n j x y new → AddingBack w new
  says-up n y happens = says-ups w new (subst (λ (v : World). Ups w v) (sym happens.2) (go j.lists.client_open))
    where
      go : (b : Bool) → Ups w (with_server j.server (record y { core = happens.0 }) (cond b (with_client j.client (record x { core = handed_over j.at_client n x.core }) w) (with_circuit k (record j { left_up = drop n j.left_up }) w)))
      go true = ups-self w (with_server j.server (record y { core = happens.0 }) (with_client j.client (record x { core = handed_over j.at_client n x.core }) w)) refl
      go false = ups-set w (with_server j.server (record y { core = happens.0 }) (with_circuit k (record j { left_up = drop n j.left_up }) w)) k j (record j { left_up = drop n j.left_up }) on refl refl

  says-down : (n : ℕ) (y : ServerSide) → HappensDown w k n j x y new → AddingBack w new
  says-down n y happens =
      said-mid happens.0 happens.1 (taken happens.0 happens.3) (ap (λ (z : World). z.circuits) happens.5) (plain-given x.core j.at_client _ _ (connection_at x.core j.at_client) happens.1 happens.2 happens.4)
    where
      taken : (mid : World) → DownTaken w k n j y mid → Ups w mid
      taken mid took = elim took [
        | inl open_it ↦ ups-self w mid (ap (λ (z : World). z.circuits) open_it.1.2)
        | inr closed_it ↦ ups-set w mid k j (record j { left_down = drop n j.left_down }) on (ap (λ (z : World). z.circuits) closed_it.1) refl
      ]

  says-ended : (c : Closing) (core : Client) → new ≡ client_ended k j x c core w → AddingBack w new
  says-ended c core is =
      said-mid (with_circuit k (client_closed c.left j) w) [] (ups-set w (with_circuit k (client_closed c.left j) w) k j (client_closed c.left j) on refl refl) (ap (λ (z : World). z.circuits) is) plain-nil

  says-client-step : j.lists.client_open ≡ true → ClientsStand w → HappensClientStep w k j x new → AddingBack w new
  says-client-step open_it stands happens = go (connection_at x.core j.at_client) refl happens.0 happens.1 happens.2 happens.3 happens.4
    where
      go : (o : Option Connection) → connection_at x.core j.at_client ≡ o → (did : Stepped) (sent : List Sending) (core : Client) → StepsOn x.core j.at_client o did sent core → new ≡ client_stepped k j x did sent core w → AddingBack w new
      go None is did sent core steps new_is = absurd (both_ways (is_none (connection_at x.core j.at_client)) (stands.connected k j x on there open_it) (ap is_none is))
      go (Some d) is NeedBytes sent core steps new_is = says-ups w new (ups-self w new (ap (λ (z : World). z.circuits) new_is))
      go (Some d) is (Closed c) sent core steps new_is = says-ended c core new_is
      go (Some d) is (Notices told) sent core steps new_is =
          let lines : List Line = lines_of (about_at j.lists (length j.lists.heard)) x.names told in
          let logged : ℕ = log_length x.life w.client_logs in
          let step : Step = record { sent = length j.lists.up; logged = logged; after = logged + length lines } in
          let mid : World = with_circuit k (heard_in step j) w in
          let z : ClientSide = record x { core = core; names = x.names } in
          let at_z : At new.clients j.client z = subst (λ (v : World). At v.clients j.client z) (sym new_is) (set-here w.clients j.client x z there) in
          says-adding w mid new j.client z sent
          (λ n b at_b. elim (At-set w.circuits k (heard_in step j) n b at_b) [
            | inl own ↦ (j, subst (λ (m : ℕ). At w.circuits m j) (sym own.0) on, ap (λ (v : Joined). v.lists.up) own.1, ap (λ (v : Joined). v.client) own.1, ap (λ (v : Joined). v.at_client) own.1, ap (λ (v : Joined). v.lists.client_open) own.1)
            | inr old ↦ (b, old.0, refl, refl, refl, refl)
          ]) (ap (λ (v : World). v.circuits) new_is) at_z
          (stood-heard (after_taking j.at_client steps.rest x.core) j.at_client steps.m (record { core = core; sent = sent; notices = told }) steps.hears) (now.tidy j.client z at_z) (λ m b at_b mine opened. once.ends m b x at_b (subst (λ (v : ℕ). At w.clients v x) (sym mine) there) opened)

-- a circuit is made
says-accept : (w new : World) (c : ℕ) (x : ClientSide) (v : WantsFirst w x) → At w.clients c x → ClientsQuiet w → HappensAccept w c x v new → AddingBack w new
says-accept w new c x v at q happens = elim happens.leaves [
  | inl refusal ↦ says-ups w new (ups-self w new (ap (λ (z : World). z.circuits) refusal.1))
  | inr did ↦
      let on : Handle = v.v.circuit in
      let there = wanted-there x.core v.place v.v v.at in
      let made : Joined = connected_as did.1 (new_circuit c x v.v.circuit v.i v.y did.0) in
      let mid : World = record w { circuits = w.circuits ++ made ∷ [] } in
      let plain : AllPlain did.2 = plain-connects x.core on there.0 did.1 did.2 did.3 (subst (λ (o : Option ClientCircuit). ConnectsOn x.core on o did.1 did.2 did.3) (unconnected-is x.core on there.0 there.1 there.2) did.5) in
      let other : AllOther x.names did.2 = other-aim x.names x.core (q.tidy c x at) did.2 plain in
      λ n d k s at_d at_s.
      let b = after-goes c x.names did.2 mid new (ap (λ (z : World). z.circuits) did.6) n d at_d in
      elim (At-parts b.0.lists.up (sent_on c x.names did.2 b.0) k s (subst (λ (l : List Sent). At l k s) b.2 at_s)) [
        | inr late ↦
            let z = (on-circuit-sent c x.names did.2 b.0 late.0 s late.2).2 in
            inl (λ a m is. other z.0 z.1 z.2 a m (ap (λ (y : Sent). y.intent) (sym z.4) ∙ is))
        | inl old ↦ elim (At-snoc w.circuits made n b.0 b.1) [
          | inl was ↦ inr (inl (b.0, was, old))
          | inr last ↦ absurd (none_at k s (subst (λ (l : List Sent). At l k s) (ap (λ (y : Joined). y.lists.up) last.1 ∙ empty did.1 (new_circuit c x v.v.circuit v.i v.y did.0)) old))
        ]
      ]
]
  where
    empty : (k : Option Closing) (n : Joined) → (connected_as k n).lists.up ≡ n.lists.up
    empty None n = refl
    empty (Some e) n = refl

says-restart : (w new : World) (i : ℕ) (x : ClientSide) → HappensClientRestart w i x new → AddingBack w new
says-restart w new i x happens = says-ups w new (λ n b at.
    let m = At-mapped (client_gone i x) w.circuits n b (subst (λ (v : World). At v.circuits n b) happens at) in
    (m.0, m.1, ap (λ (v : Joined). v.lists.up) m.2 ∙ by m.0 (eqb m.0.client i && m.0.lists.client_open)))
  where
    by : (a : Joined) (b : Bool) → (cond b (client_closed (out_bytes x.core a.at_client) a) a).lists.up ≡ a.lists.up
    by a true = refl
    by a false = refl

-- ---- a moment

-- Over a moment no EVENT_ADD is sent.
abbrev NoneBack : (w new : World) → Type 0
NoneBack w new = (n : ℕ) (d : Joined) (k : ℕ) (s : Sent) → At new.circuits n d → At d.lists.up k s → IsNoAdd s ⊎ ((c : Joined) × At w.circuits n c × At c.lists.up k s)

tick-none : (moment : ℕ) (w : World) (i : ℕ) (new : World) → TicksOne moment w i new → NoneBack w new
tick-none moment w i new (x, at, t, sent, core, does, is) n d k s at_d at_s =
    let a = At-mapped (after_tick i t.closings) (map (sent_to i x.names sent) w.circuits) n d (subst (λ (v : World). At v.circuits n d) is at_d) in
    let b = At-mapped (sent_to i x.names sent) w.circuits n a.0 a.1 in
    let up : d.lists.up ≡ b.0.lists.up ++ sent_on i x.names sent b.0 =
    ap (λ (v : Joined). v.lists.up) a.2 ∙ by a.0 (eqb a.0.client i && a.0.lists.client_open) (left_silent t.closings a.0) ∙ ap (λ (v : Joined). v.lists.up) b.2 in
    elim (At-parts b.0.lists.up (sent_on i x.names sent b.0) k s (subst (λ (l : List Sent). At l k s) up at_s)) [
      | inl old ↦ inr (b.0, b.1, old)
      | inr late ↦
          let v = (on-circuit-sent i x.names sent b.0 late.0 s late.2).2 in
          inl (λ c m meant. not-served c m (sym ((ticked-client x.names moment x.core).ticked.serves v.0 v.1 (subst (λ (l : List Sending). At l v.0 v.1) does.1 v.2)) ∙ ap (λ (z : Sent). z.intent) (sym v.4) ∙ meant))
    ]
  where
    by : (a : Joined) (b : Bool) (o : Option (List ℕ)) → (cond b (unwrap_or (option_map (λ (left : List ℕ). client_closed left a) o) a) a).lists.up ≡ a.lists.up
    by a true (Some left) = refl
    by a true None = refl
    by a false o = refl

    not-served : (a m : ℕ) → history.OfCircuit ≡ history.On a (history.Subscribe m) → ⊥
    not-served a m e = cc

ticks-none : (moment : ℕ) (is : List ℕ) (w new : World) → FoldsTo (TicksOne moment) w is new → NoneBack w new
ticks-none moment [] w new folds n d k s at there = inr (d, subst (λ (v : World). At v.circuits n d) (sym folds) at, there)
ticks-none moment (i ∷ is) w new folds n d k s at there = elim (ticks-none moment is folds.0 new folds.2 n d k s at there) [
  | inl other ↦ inl other
  | inr b ↦ tick-none moment w i folds.0 folds.1 n b.0 k s b.1 b.2
]

none-says : (w new : World) → NoneBack w new → AddingBack w new
none-says w new all n d k s at there = elim (all n d k s at there) [
  | inl other ↦ inl other
  | inr old ↦ inr (inl old)
]

pub ticks-says : (moment : ℕ) (is : List ℕ) (w new : World) → FoldsTo (TicksOne moment) w is new → AddingBack w new
ticks-says moment is w new folds = none-says w new (ticks-none moment is w new folds)

-- ---- every event

pub event-says : (w new : World) (e : Event) → ClientsStand w → ClientsQuiet w → ClientsQuiet new → OnceStand w → Happens w e new → AddingBack w new
event-says w new (event.Open i name priority) c q now once happens = says-open w new i happens.0.x happens.0.at q now once name priority happens.1
event-says w new (event.Clear i k) c q now once happens = says-clear w new i happens.0.x happens.0.at q now once k happens.0.h happens.1
event-says w new (event.Read i k data_type count) c q now once happens = says-read w new i happens.0.x happens.0.at q now once k happens.0.h data_type count happens.1
event-says w new (event.Write i k e) c q now once happens = says-write w new i happens.0.x happens.0.at q now once k happens.0.h e happens.1
event-says w new (event.WriteNotify i k e) c q now once happens = says-put w new i happens.0.x happens.0.at q now once k happens.0.h e happens.1
event-says w new (event.Subscribe i k data_type count mask) c q now once happens = says-subscribe w new i happens.0.x happens.0.at q now once k happens.0.h data_type count mask happens.1
event-says w new (event.Unsubscribe i n) c q now once happens = says-unsubscribe w new i happens.0.x happens.0.at q now once happens.0.s happens.1
event-says w new (event.Collect i r) c q now once happens = says-ups w new (ups-self w new (ap (λ (z : World). z.circuits) happens.1.2))
event-says w new (event.GiveUp i r) c q now once happens = says-ups w new (ups-self w new (ap (λ (z : World). z.circuits) happens.1.2))
event-says w new (event.ClientDatagram i from bytes) c q now once happens = says-datagram w new i happens.0.x happens.0.at q now once from bytes happens.1
event-says w new (event.ServerDatagram i from bytes) c q now once happens = says-ups w new (ups-self w new (ap (λ (z : World). z.circuits) happens.1.2))
event-says w new (event.Accept i) c q now once happens = says-accept w new i happens.0.x happens.0.v happens.0.at q happens.1
event-says w new (event.Up k n) c q now once happens = (let h = happens.0.0 in says-up w new k h.j h.x h.joins.at h.joins.client q now once n h.y happens.1)
event-says w new (event.Down k n) c q now once happens = (let h = happens.0.0 in says-down w new k h.j h.x h.joins.at h.joins.client q now once n h.y happens.1)
event-says w new (event.ServerStep k) c q now once happens = (let h = happens.0 in says-ups w new (ups-from w new (from-server-step w w new k h.j h.y h.joins.at (from-itself w) happens.1)))
event-says w new (event.ClientStep k) c q now once happens = (let h = happens.0 in says-client-step w new k h.j h.x h.joins.at h.joins.client q now once h.is_open c happens.1)
event-says w new (event.Pump k) c q now once happens = (let h = happens.0 in says-ups w new (ups-from w new (from-pump w w new k h.j h.y h.joins.at (from-itself w) happens.1)))
event-says w new (event.CutClient k) c q now once happens = (let h = happens.0 in says-ended w new k h.j h.x h.joins.at h.joins.client q now once happens.1.0 happens.1.2 happens.1.4)
event-says w new (event.CutServer k) c q now once happens = (let h = happens.0 in says-ups w new (ups-from w new (from-cut-server w w new k h.j h.y h.joins.at (from-itself w) happens.1)))
event-says w new (event.ClientRestart i) c q now once happens = says-restart w new i happens.0.x happens.1
event-says w new (event.ServerRestart i) c q now once happens = says-ups w new (ups-from w new (from-server-restart w w new i happens.0.y (from-itself w) happens.1))
event-says w new (event.Post i name e mask) c q now once happens = says-ups w new (ups-from w new (from-post w w new i happens.0.y (from-itself w) name e mask happens.1))
event-says w new (event.Finish i name) c q now once happens = says-ups w new (ups-from w new (from-finish w w new i happens.0.y (from-itself w) name happens.1))
event-says w new (event.Remove i name) c q now once happens = says-ups w new (ups-from w new (from-remove w w new i happens.0.y (from-itself w) name happens.1))
event-says w new (event.Add i r) c q now once happens = says-ups w new (ups-from w new (from-add w w new i happens.0.y (from-itself w) r happens.1))
event-says w new (event.Tick moment) c q now once happens = (λ n d k s at there. elim (ticks-none moment _ w happens.1.0 happens.1.1 n d k s (subst (λ (v : World). At v.circuits n d) happens.1.2 at) there) [
  | inl other ↦ inl other
  | inr old ↦ inr (inl old)
])
