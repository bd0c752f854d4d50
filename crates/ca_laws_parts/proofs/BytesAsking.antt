-- Each message that a client sends is of the kind that its intent says, whatever happens.
use Rattle.std.proofs.Common.{◌≡◌, ℕ, zero, suc, ◌+◌, inl, inr, Bool, true, false, ◌&&◌, cond, eqb, List, [], ◌∷◌, ◌++◌, length, Option, Some, None, refl, sym, ap, ◌∙◌, subst, arith}
use Rattle.std.specs.List.{FoldsTo, fold}
use Rattle.std.specs.Prelude.{Ok, drop, filter, is_none, map, option_map, option_to_list, unwrap_or}
use Rattle.std.proofs.lemmas.Bool.{both_ways}
use Rattle.ca_arena.specs.declared.handle.Handle.{Handle}
use Rattle.ca_dbr.specs.Elements.{Elements}
use Rattle.ca_ids.specs.Table.{held, same_handle, under}
use Rattle.ca_link.specs.declared.keep.Keep.{Keep}
use Rattle.ca_link.specs.declared.keep.Keep.TheVariants.{Close, Echo, Idle}
use Rattle.ca_link.specs.Link.{kept}
use Rattle.ca_monitor.specs.ReadRun.{after_read, asked_between}
use Rattle.ca_monitor.specs.Subscriptions.{Subscription, is_to, standing_to, stands_in}
use Rattle.ca_requests.specs.Requests.{Asked, Request, answered_by}
use Rattle.ca_requests.specs.Requests as request
use Rattle.ca_search.specs.Searches as search
use Rattle.ca_text.specs.Command.{command_number}
use Rattle.ca_text.specs.declared.command.Command.{Command}
use Rattle.ca_text.specs.declared.refusal.Refusal.{Refusal}
use Rattle.ca_text.specs.declared.command.Command.TheVariants as command
use Rattle.ca_text.specs.Place.{At}
use Rattle.ca_text.proofs.Places.{At-mapped, At-parts, At-snoc, some_is}
use Rattle.ca_wire.specs.declared.header.Header.{Header}
use Rattle.ca_wire.specs.Fields.{Fields}
use Rattle.ca_wire.specs.Messages.{header_only, name_request, search_request, version_request}
use Rattle.ca_model.specs.Answers.{Closed, Closing, Left, NeedBytes, Notice, Notices, Sending, Stepped}
use Rattle.ca_model.specs.Client.{Channel, Client, ClientCircuit, Clearing, Connecting, Connection, Creating, Doomed, Leaving, Live, On, Phase, Searching, Standing, channel_on, circuit_to, connection_at, later, out_bytes, standing_at}
use Rattle.ca_model.specs.ClientCalls.{cancel_sent, clear_sent, clearing_sent, event_add_sent, event_cancel_sent, is_over, new_subscription, put_sent, read_sent, write_sent}
use Rattle.ca_model.specs.ClientEnds.{ConnectsOn, GivesOn, Receives, ReceivesAll, StepsOn, Ticking, after_taking, all_searched_on, circuits_ticked, creations, due, handed_over, is_connecting, is_name_connected, of_circuit, searches_made, searches_on, set_up, ticks, ticks_as, with_sending}
use Rattle.ca_model.specs.ClientEnds as ends
use Rattle.ca_model.specs.Client as client
use Rattle.ca_model.specs.Ends.{Address}
use Rattle.ca_model.specs.Hears.{Answers, Completes, Effect, FindsAt, Hears, PutsOn, Updates, any_failed, clear_answered, confirmed, create_sent, created, doing, event_adds, failed, failing, subscription_on, left, put_on, request_failed, rights_told, searched_by, subscription_failed, write_failed}
use Rattle.ca_model.specs.Hears as hears
use Rattle.ca_model.specs.History.{Cancel, Clear, Create, Intent, Line, OfCircuit, Put, Read, Sent, Step, Subscribe, Write}
use Rattle.ca_model.specs.History as history
use Rattle.ca_model.specs.Channels.{Suits}
use Rattle.ca_model.specs.ClientEvents.{DownTaken, HappensAccept, HappensClear, HappensClientDatagram, HappensClientRestart, HappensClientStep, HappensCutClient, HappensDown, HappensOpen, HappensRead, HappensSubscribe, HappensUnsubscribe, HappensUp, HappensWrite, HappensWriteNotify, Outcomes, TicksOne, WantsFirst, about_at, after_tick, cancelled, client_after, client_closed, client_ended, client_gone, client_stepped, connected_as, heard_in, intent_of, left_silent, lines_of, refused, sent_on}
use Rattle.ca_model.specs.ClientEvents as event
use Rattle.ca_model.specs.World.{ClientSide, Joined, Names, ServerSide, World, log_length, with_circuit, with_client, with_server}
use Rattle.ca_model.proofs.Standings.{at-filter-map, stands-as}
use Rattle.ca_model.proofs.Tables.{held-under}
use Rattle.ca_laws_parts.specs.Held.{MeanToSubscribe}
use Rattle.ca_laws_parts.proofs.CircuitCalls.{meant-own}
use Rattle.ca_laws_parts.specs.Circuit.{sent_to, stamped}
use Rattle.ca_laws_parts.specs.Clients.{ClientsStand}
use Rattle.ca_laws_parts.proofs.ClientsMore.{unconnected-is, wanted-there}
use Rattle.ca_laws_parts.proofs.RunsSending.{new-name}
use Rattle.ca_laws_parts.specs.Says.{AllAsked}
use Rattle.ca_laws_parts.proofs.HearSpeaks.{filtered-at}
use Rattle.ca_laws_parts.proofs.Quiet.{Quiet, quiet-as, quiet-map, quiet-set}

-- ---- messages by their aims

-- each is of the kind that its aim says, by these names
abbrev AllSuit : Names → List Sending → Type 0
AllSuit n sent = (i : ℕ) (s : Sending) → At sent i s → Suits (intent_of n s.aim) s.message

none-suit : (n : Names) → AllSuit n []
none-suit n i s at = absurd cc

one-suits : (n : Names) (s : Sending) → Suits (intent_of n s.aim) s.message → AllSuit n (s ∷ [])
one-suits n s suits zero r at = subst (λ (z : Sending). Suits (intent_of n z.aim) z.message) (some_is s r at) suits
one-suits n s suits (suc i) r at = absurd cc

-- one, whose intent is this
suits-as : (n : Names) (s : Sending) (k : Intent) → intent_of n s.aim ≡ k → Suits k s.message → AllSuit n (s ∷ [])
suits-as n s k is suits = one-suits n s (subst (λ (j : Intent). Suits j s.message) (sym is) suits)

both-suit : (n : Names) (xs ys : List Sending) → AllSuit n xs → AllSuit n ys → AllSuit n (xs ++ ys)
both-suit n xs ys a b i s at = elim (At-parts xs ys i s at) [ inl front ↦ a i s front | inr back ↦ b back.0 s back.2 ]

-- a command that asks nothing on a channel
abbrev Serves : ℕ → Type 0
Serves n = (n ≡ 18 → ⊥) × (n ≡ 12 → ⊥) × (n ≡ 15 → ⊥) × (n ≡ 19 → ⊥) × (n ≡ 4 → ⊥) × (n ≡ 1 → ⊥) × (n ≡ 2 → ⊥)

serves : (m : Fields) (n : ℕ) → m.command ≡ n → Serves n → Suits OfCircuit m
serves m n is apart Create asks = apart.0 (sym is ∙ asks)
serves m n is apart Clear asks = apart.1 (sym is ∙ asks)
serves m n is apart (history.Request Read number) asks = apart.2 (sym is ∙ asks)
serves m n is apart (history.Request Put number) asks = apart.3 (sym is ∙ asks)
serves m n is apart (history.Request Write number) asks = apart.4 (sym is ∙ asks)
serves m n is apart (Subscribe number) asks = apart.5 (sym is ∙ asks)
serves m n is apart (Cancel number) asks = apart.6 (sym is ∙ asks)

serves-0 : Serves 0
serves-0 = (λ e. omega (arith, e), λ e. omega (arith, e), λ e. omega (arith, e), λ e. omega (arith, e), λ e. omega (arith, e), λ e. omega (arith, e), λ e. omega (arith, e))

serves-6 : Serves 6
serves-6 = (λ e. omega (arith, e), λ e. omega (arith, e), λ e. omega (arith, e), λ e. omega (arith, e), λ e. omega (arith, e), λ e. omega (arith, e), λ e. omega (arith, e))

serves-8 : Serves 8
serves-8 = (λ e. omega (arith, e), λ e. omega (arith, e), λ e. omega (arith, e), λ e. omega (arith, e), λ e. omega (arith, e), λ e. omega (arith, e), λ e. omega (arith, e))

serves-9 : Serves 9
serves-9 = (λ e. omega (arith, e), λ e. omega (arith, e), λ e. omega (arith, e), λ e. omega (arith, e), λ e. omega (arith, e), λ e. omega (arith, e), λ e. omega (arith, e))

serves-20 : Serves 20
serves-20 = (λ e. omega (arith, e), λ e. omega (arith, e), λ e. omega (arith, e), λ e. omega (arith, e), λ e. omega (arith, e), λ e. omega (arith, e), λ e. omega (arith, e))

serves-21 : Serves 21
serves-21 = (λ e. omega (arith, e), λ e. omega (arith, e), λ e. omega (arith, e), λ e. omega (arith, e), λ e. omega (arith, e), λ e. omega (arith, e), λ e. omega (arith, e))

serves-23 : Serves 23
serves-23 = (λ e. omega (arith, e), λ e. omega (arith, e), λ e. omega (arith, e), λ e. omega (arith, e), λ e. omega (arith, e), λ e. omega (arith, e), λ e. omega (arith, e))

-- ---- what a client sends as it hears a message

module _ (n : Names) (x : Client) (m : Fields) (e : Effect) where
  quiet-suits : (z : Effect) → e ≡ z → z.sent ≡ [] → AllSuit n e.sent
  quiet-suits z is none = subst (λ (l : List Sending). AllSuit n l) (sym none ∙ ap (λ (q : Effect). q.sent) (sym is)) (none-suit n)

  doing-suits : (sends : List Sending) (notices : List Notice) (z : Client) → e ≡ doing sends notices z → AllSuit n sends → AllSuit n e.sent
  doing-suits sends notices z is suit = subst (λ (q : Effect). AllSuit n q.sent) (sym is) suit

  put-on-suits : (d : Handle) (o : Option Connection) (h : Handle) (here : Channel) (z : Client) → e ≡ put_on d o h here z → AllSuit n e.sent
  put-on-suits d (Some k) h here z is = doing-suits (create_sent d h here ∷ []) [] _ is (one-suits n (create_sent d h here) refl)
  put-on-suits d None h here z is = quiet-suits _ is refl

  puts-on-suits : (a : Address) (h : Handle) (here : Channel) (o : Option (Handle × ClientCircuit)) → PutsOn x a h here o e → AllSuit n e.sent
  puts-on-suits a h here (Some (d, k)) is = put-on-suits d k.connection h here x is
  puts-on-suits a h here None (inl made) = put-on-suits made.0 None h here _ made.2
  puts-on-suits a h here None (inr full) = quiet-suits _ full.1 refl

  finds-suits : (a : Address) (o : Option (Handle × Channel)) → FindsAt x a o e → AllSuit n e.sent
  finds-suits a None is = quiet-suits _ is refl
  finds-suits a (Some (h, here)) puts = puts-on-suits a h here (circuit_to a here.priority x) puts

  received-suits : (from : Address) → Receives from x m e → AllSuit n e.sent
  received-suits from (ends.Search is finds) = finds-suits _ (searched_by m.p2 x) finds
  received-suits from (ends.Beacon is port does) = quiet-suits _ does refl
  received-suits from (ends.Other not_search not_beacon does) = quiet-suits _ does refl

module _ (n : Names) (x : Client) (meant : MeanToSubscribe n x.subscriptions) (c : Handle) (m : Fields) (e : Effect) where
  adds-suit : (sid : ℕ) (h : Handle) → AllSuit n (event_adds c sid h x)
  adds-suit sid h i s at =
      let b = At-mapped (λ (g : Handle × Subscription). event_add_sent c sid g.0 g.1) (standing_to h x.subscriptions) i s at in
      let k = filtered-at (λ (e : Handle × Subscription). is_to h e.1 && stands_in e.1.stage) (held x.subscriptions) i b.0 b.1 in
      let g = meant b.0.0 b.0.1 (held-under x.subscriptions k.0 b.0 k.1) in
      let message : Sending = event_add_sent c sid b.0.0 b.0.1 in
      subst (λ (z : Sending). Suits (intent_of n z.aim) z.message) (sym b.2) (suits-as n message (history.On g.0 (Subscribe g.1)) g.2 refl 0 message refl)

  rights-quiet : (o : Option (Handle × Phase)) → (rights_told x c m o).sent ≡ []
  rights-quiet None = refl
  rights-quiet (Some (h, Connecting)) = refl
  rights-quiet (Some (h, Creating rights)) = refl
  rights-quiet (Some (h, Live n rights)) = refl
  rights-quiet (Some (h, Leaving)) = refl
  rights-quiet (Some (h, Clearing)) = refl
  rights-quiet (Some (h, Doomed)) = refl

  created-suits : (o : Option (Handle × Phase)) → e ≡ created x c m o → AllSuit n e.sent
  created-suits None is = quiet-suits n x m e _ is refl
  created-suits (Some (h, Connecting)) is = quiet-suits n x m e _ is refl
  created-suits (Some (h, Creating rights)) is = doing-suits n x m e (event_adds c m.p2 h x) _ _ is (adds-suit m.p2 h)
  created-suits (Some (h, Live k rights)) is = quiet-suits n x m e _ is refl
  created-suits (Some (h, Leaving)) is = quiet-suits n x m e _ is refl
  created-suits (Some (h, Clearing)) is = quiet-suits n x m e _ is refl
  created-suits (Some (h, Doomed)) is = doing-suits n x m e (clear_sent c m.p2 h ∷ []) [] _ is (one-suits n (clear_sent c m.p2 h) refl)

  failed-quiet : (o : Option (Handle × Phase)) → (failed x o).sent ≡ []
  failed-quiet None = refl
  failed-quiet (Some (h, Connecting)) = refl
  failed-quiet (Some (h, Creating rights)) = refl
  failed-quiet (Some (h, Live n rights)) = refl
  failed-quiet (Some (h, Leaving)) = refl
  failed-quiet (Some (h, Clearing)) = refl
  failed-quiet (Some (h, Doomed)) = refl

  answered-quiet : (o : Option (Handle × Phase)) → (clear_answered x c o).sent ≡ []
  answered-quiet None = refl
  answered-quiet (Some (h, Connecting)) = refl
  answered-quiet (Some (h, Creating rights)) = refl
  answered-quiet (Some (h, Live n rights)) = refl
  answered-quiet (Some (h, Leaving)) = refl
  answered-quiet (Some (h, Clearing)) = refl
  answered-quiet (Some (h, Doomed)) = refl

  left-suits : (o : Option (Handle × Phase)) → e ≡ left x c o → AllSuit n e.sent
  left-suits None is = quiet-suits n x m e _ is refl
  left-suits (Some (h, Connecting)) is = quiet-suits n x m e _ is refl
  left-suits (Some (h, Creating rights)) is = quiet-suits n x m e _ is refl
  left-suits (Some (h, Live k rights)) is = doing-suits n x m e (clear_sent c k.sid h ∷ []) _ _ is (one-suits n (clear_sent c k.sid h) refl)
  left-suits (Some (h, Leaving)) is = quiet-suits n x m e _ is refl
  left-suits (Some (h, Clearing)) is = quiet-suits n x m e _ is refl
  left-suits (Some (h, Doomed)) is = quiet-suits n x m e _ is refl

  completes-suits : (q : Handle) (a : Asked) (s : request.Stage) → Completes x m q a s e → AllSuit n e.sent
  completes-suits q a request.Open does = quiet-suits n x m e _ does.2 refl
  completes-suits q a request.Draining does = quiet-suits n x m e _ does refl

  answers-suits : (o : Option (Handle × Request)) → Answers x m o e → AllSuit n e.sent
  answers-suits (Some (q, r)) does = completes-suits q r.asked r.stage does
  answers-suits None is = quiet-suits n x m e _ is refl

  confirmed-quiet : (o : Option Handle) → (confirmed x o).sent ≡ []
  confirmed-quiet (Some s) = refl
  confirmed-quiet None = refl

  updates-suits : (o : Option Handle) → Updates x m o e → AllSuit n e.sent
  updates-suits (Some s) does = quiet-suits n x m e _ does.2 refl
  updates-suits None is = quiet-suits n x m e _ is refl

  write-failed-quiet : (o : Option (Handle × Phase)) → (write_failed x m o).sent ≡ []
  write-failed-quiet None = refl
  write-failed-quiet (Some (h, Connecting)) = refl
  write-failed-quiet (Some (h, Creating rights)) = refl
  write-failed-quiet (Some (h, Live n rights)) = refl
  write-failed-quiet (Some (h, Leaving)) = refl
  write-failed-quiet (Some (h, Clearing)) = refl
  write-failed-quiet (Some (h, Doomed)) = refl

  subscription-failed-quiet : (o : Option Handle) → (subscription_failed x m o).sent ≡ []
  subscription-failed-quiet (Some s) = refl
  subscription-failed-quiet None = refl

  request-failed-quiet : (q : Handle) (s : request.Stage) → (request_failed x m q s).sent ≡ []
  request-failed-quiet q request.Open = refl
  request-failed-quiet q request.Draining = refl

  any-failed-quiet : (o : Option (Handle × Request)) → (any_failed x m o).sent ≡ []
  any-failed-quiet (Some (q, r)) = request-failed-quiet q r.stage
  any-failed-quiet None = refl

  failing-quiet : (h : Header) → (failing x c m h).sent ≡ []
  failing-quiet h = go (eqb h.command (command_number command.Write)) (eqb h.command (command_number command.EventAdd))
    where
      go : (a b : Bool) → (cond a (write_failed x m (channel_on x c m.p1)) (cond b (subscription_failed x m (subscription_on x c h.p2)) (any_failed x m (answered_by c h.command h.p2 x.requests)))).sent ≡ []
      go true b = write-failed-quiet (channel_on x c m.p1)
      go false true = subscription-failed-quiet (subscription_on x c h.p2)
      go false false = any-failed-quiet (answered_by c h.command h.p2 x.requests)

  hears-suits : Hears x c m e → AllSuit n e.sent
  hears-suits (hears.Search is d there finds) = finds-suits n x m e _ (searched_by m.p2 x) finds
  hears-suits (hears.AccessRights is does) = quiet-suits n x m e _ does (rights-quiet (channel_on x c m.p1))
  hears-suits (hears.CreateChannel is does) = created-suits (channel_on x c m.p1) does
  hears-suits (hears.CreateChannelFail is does) = quiet-suits n x m e _ does (failed-quiet (channel_on x c m.p1))
  hears-suits (hears.ClearChannel is does) = quiet-suits n x m e _ does (answered-quiet (channel_on x c m.p2))
  hears-suits (hears.ServerDisconnect is does) = left-suits (channel_on x c m.p1) does
  hears-suits (hears.Reply is does) = answers-suits _ does
  hears-suits (hears.Confirmation is none does) = quiet-suits n x m e _ does (confirmed-quiet _)
  hears-suits (hears.Update is some does) = updates-suits _ does
  hears-suits (hears.Error is (inl fails)) = quiet-suits n x m e _ fails.2 (failing-quiet fails.0)
  hears-suits (hears.Error is (inr skipped)) = quiet-suits n x m e _ skipped.1 refl
  hears-suits (hears.Other is does) = quiet-suits n x m e _ does refl

all-received-suit : (n : Names) (from : Address) (ms : List Fields) (x : Client) (e : Effect) → ReceivesAll from x ms e → AllSuit n e.sent
all-received-suit n from [] x e does = subst (λ (q : Effect). AllSuit n q.sent) (sym does) (none-suit n)
all-received-suit n from (m ∷ ms) x e does =
    subst (λ (q : Effect). AllSuit n q.sent) (sym does.4) (both-suit n does.0.sent does.1.sent (received-suits n x m does.0 from does.2) (all-received-suit n from ms does.0.core does.1 does.3))

-- ---- what a client sends else

gives-suit : (n : Names) (x y : Client) (c : Handle) (bytes : List ℕ) (more : Bool) (o : Option Connection) (sent : List Sending) → GivesOn x c bytes more o (Ok tt) sent y → AllSuit n sent
gives-suit n x y c bytes more None sent gives = absurd gives
gives-suit n x y c bytes more (Some d) sent gives = subst (λ (l : List Sending). AllSuit n l) (sym gives.0) (go d.run.events_off (after_read more d.run).events_off)
  where
    go : (a b : Bool) → AllSuit n (map (λ (k : Command). of_circuit c (header_only k)) (option_to_list (asked_between a b)))
    go false true = one-suits n (of_circuit c (header_only command.EventsOff)) (serves (header_only command.EventsOff) 8 refl serves-8)
    go true false = one-suits n (of_circuit c (header_only command.EventsOn)) (serves (header_only command.EventsOn) 9 refl serves-9)
    go false false = none-suit n
    go true true = none-suit n

connects-suit : (n : Names) (x y : Client) (c : Handle) (d : ClientCircuit) (k : Option Closing) (sent : List Sending) → ConnectsOn x c (Some d) k sent y → AllSuit n sent
connects-suit n x y c d (Some k) sent does = subst (λ (l : List Sending). AllSuit n l) (sym does.1) (none-suit n)
connects-suit n x y c d None sent does = subst (λ (l : List Sending). AllSuit n l) (sym does.0) (both-suit n (set_up x.peer c d) (creations c x) first created)
  where
    first : AllSuit n (set_up x.peer c d)
    first zero s at = subst (λ (z : Sending). Suits (intent_of n z.aim) z.message) (some_is (of_circuit c (version_request d.priority)) s at) (serves (version_request d.priority) 0 refl serves-0)
    first (suc zero) s at = subst (λ (z : Sending). Suits (intent_of n z.aim) z.message) (some_is (of_circuit c (name_request command.ClientName x.peer.user)) s at) (serves (name_request command.ClientName x.peer.user) 20 refl serves-20)
    first (suc (suc zero)) s at = subst (λ (z : Sending). Suits (intent_of n z.aim) z.message) (some_is (of_circuit c (name_request command.HostName x.peer.host)) s at) (serves (name_request command.HostName x.peer.host) 21 refl serves-21)
    first (suc (suc (suc i))) s at = absurd cc

    created : AllSuit n (creations c x)
    created i s at =
        let r = at-filter-map (λ (e : Handle × Channel). cond (client.is_on_in is_connecting c e.1) (Some (create_sent c e.0 e.1)) None) (held x.channels) i s at in
        go (client.is_on_in is_connecting c r.1.1) r.1 r.3
      where
        go : (b : Bool) (e : Handle × Channel) → cond b (Some (create_sent c e.0 e.1)) None ≡ Some s → Suits (intent_of n s.aim) s.message
        go true e is = subst (λ (z : Sending). Suits (intent_of n z.aim) z.message) (some_is (create_sent c e.0 e.1) s is) refl
        go false e is = absurd cc

-- a moment
module _ (n : Names) where
  tick-suits : (t : Ticking) (c : Handle) → AllSuit n t.sent → AllSuit n (ticks t c).sent
  tick-suits t c all = go (connection_at t.core c)
    where
      by : (k : Keep) → AllSuit n (ticks_as k c t).sent
      by Idle = all
      by Close = all
      by Echo = both-suit n t.sent (of_circuit c (header_only command.Echo) ∷ []) all (one-suits n (of_circuit c (header_only command.Echo)) (serves (header_only command.Echo) 23 refl serves-23))

      go : (o : Option Connection) → AllSuit n (unwrap_or (option_map (λ (e : Connection). ticks_as (kept t.core.moment e.link) c t) o) t).sent
      go None = all
      go (Some e) = by (kept t.core.moment e.link)

  circuits-suit : (order : List Handle) (t : Ticking) → AllSuit n t.sent → AllSuit n (fold ticks t order).sent
  circuits-suit [] t all = all
  circuits-suit (c ∷ order) t all = circuits-suit order (ticks t c) (tick-suits t c all)

  search-suits : (c : Handle) (t : Ticking) (w : search.Wanted) → AllSuit n t.sent → AllSuit n (searches_on c t w).sent
  search-suits c t w all = go (is_over t.core c)
    where
      go : (b : Bool) → AllSuit n (cond b t (with_sending (of_circuit c (search_request w.cid w.name)) t)).sent
      go true = all
      go false = both-suit n t.sent (of_circuit c (search_request w.cid w.name) ∷ []) all (one-suits n (of_circuit c (search_request w.cid w.name)) (serves (search_request w.cid w.name) 6 refl serves-6))

  searched-suit : (c : Handle) (ws : List search.Wanted) (t : Ticking) → AllSuit n t.sent → AllSuit n (fold (searches_on c) t ws).sent
  searched-suit c [] t all = all
  searched-suit c (w ∷ ws) t all = searched-suit c ws (searches_on c t w) (search-suits c t w all)

  all-searched-suit : (ws : List search.Wanted) (cs : List Handle) (t : Ticking) → AllSuit n t.sent → AllSuit n (fold (all_searched_on ws) t cs).sent
  all-searched-suit ws [] t all = all
  all-searched-suit ws (c ∷ cs) t all = all-searched-suit ws cs (all_searched_on ws t c) (searched-suit c ws t all)

  ticked-suit : (moment : ℕ) (x : Client) → AllSuit n (searches_made (circuits_ticked moment x)).sent
  ticked-suit moment x =
      let t : Ticking = circuits_ticked moment x in
      all-searched-suit (due t.core) (filter (is_name_connected t.core) t.core.order) t (circuits-suit x.order (record { core = record x { moment = later moment x }; sent = []; notices = []; closings = [] }) (none-suit n))

-- ---- what an event leaves

-- no client sends anything
pub asked-quiet : (w new : World) → Quiet w new → AllAsked w → AllAsked new
asked-quiet w new q asked n k d s at there = (let c = q.back n d at in asked n k c.0 s c.1 (subst (λ (l : List Sent). At l k s) c.2 there))

-- client i sent these
asked-called : (w : World) (i : ℕ) (x : ClientSide) (spoken : Names) (o : Outcomes) → AllSuit spoken o.sent → AllAsked w → AllAsked (client_after i x spoken o w)
asked-called w i x spoken o suit asked n k d s at there =
    let c = At-mapped (sent_to i spoken o.sent) w.circuits n d at in
    elim (At-parts c.0.lists.up (sent_on i spoken o.sent c.0) k s (subst (λ (z : Joined). At z.lists.up k s) c.2 there)) [
      | inl old ↦ asked n k c.0 s c.1 old
      | inr new ↦ on (eqb c.0.client i && c.0.lists.client_open) c.0.at_client new.0 new.2
    ]
  where
    on : (b : Bool) (h : Handle) (l : ℕ) → At (cond b (map (stamped spoken) (filter (λ (s : Sending). same_handle s.circuit h) o.sent)) []) l s → Suits s.intent s.message
    on true h l there =
        let b = At-mapped (stamped spoken) (filter (λ (s : Sending). same_handle s.circuit h) o.sent) l s there in
        let k = filtered-at (λ (s : Sending). same_handle s.circuit h) o.sent l b.0 b.1 in
        subst (λ (z : Sent). Suits z.intent z.message) (sym b.2) (suit k.0 b.0 k.1)
    on false h l there = absurd cc

module _ (w new : World) (i : ℕ) (x : ClientSide) (at : At w.clients i x) (s : ClientsStand w) (asked : AllAsked w) where
  refused-asked : (e : Refusal) → new ≡ refused i x e w → AllAsked new
  refused-asked e is = asked-quiet w new (quiet-as w new (ap (λ (v : World). v.clients) is) (ap (λ (v : World). v.circuits) is)) asked

  done : (spoken : Names) (o : Outcomes) → AllSuit spoken o.sent → new ≡ client_after i x spoken o w → AllAsked new
  done spoken o suit is = subst (λ (v : World). AllAsked v) (sym is) (asked-called w i x spoken o suit asked)

  sends : (n : Names) (sent list : List Sending) → sent ≡ list → AllSuit n list → AllSuit n sent
  sends n sent list is suit = subst (λ (l : List Sending). AllSuit n l) (sym is) suit

  pub open-asked : (name : List ℕ) (priority : ℕ) → HappensOpen w i x name priority new → AllAsked new
  open-asked name priority happens = elim happens [
    | inl refusal ↦ refused-asked refusal.0 refusal.3
    | inr did ↦ done _ _ (sends (record x.names { channels = x.names.channels ++ did.0 ∷ [] }) did.1 [] did.3.2.0 (none-suit _)) did.4
  ]

  pub read-asked : (c : ℕ) (h : Handle) (data_type count : ℕ) → HappensRead w i x c h data_type count new → AllAsked new
  read-asked c h data_type count happens = elim happens [
    | inl refusal ↦ refused-asked refusal.0 refusal.3
    | inr did ↦
        let intent : Intent = history.On c (history.Request Read (length x.names.requests)) in
        let means = meant-own x.names.requests did.0 intent (new-name x.names.requests x.core.requests did.0 (s.sound i x at).named.requests did.3.3) in
        let names : Names = event.with_request did.0 c Read x.names in
        let message : Sending = read_sent h did.3.0 (record { data_type = data_type; count = count }) did.0 in
        done names _ (sends names did.1 (message ∷ []) did.3.4.0 (suits-as names message intent means refl)) did.4
  ]

  pub put-asked : (c : ℕ) (h : Handle) (e : Elements) → HappensWriteNotify w i x c h e new → AllAsked new
  put-asked c h e happens = elim happens [
    | inl refusal ↦ refused-asked refusal.0 refusal.3
    | inr did ↦
        let intent : Intent = history.On c (history.Request Put (length x.names.requests)) in
        let means = meant-own x.names.requests did.0 intent (new-name x.names.requests x.core.requests did.0 (s.sound i x at).named.requests did.3.3) in
        let names : Names = event.with_request did.0 c Put x.names in
        let message : Sending = put_sent h did.3.0 e did.0 in
        done names _ (sends names did.1 (message ∷ []) did.3.4.0 (suits-as names message intent means refl)) did.4
  ]

  pub write-asked : (c : ℕ) (h : Handle) (e : Elements) → HappensWrite w i x c h e new → AllAsked new
  write-asked c h e happens = elim happens [
    | inl refusal ↦ refused-asked refusal.0 refusal.3
    | inr did ↦ done x.names _ (sends x.names did.1 (write_sent h did.3.0 e ∷ []) did.3.3.0 (one-suits x.names (write_sent h did.3.0 e) refl)) did.4
  ]

  pub subscribe-asked : (c : ℕ) (h : Handle) (data_type count mask : ℕ) → HappensSubscribe w i x c h data_type count mask new → AllAsked new
  subscribe-asked c h data_type count mask happens = elim happens [
    | inl refusal ↦ refused-asked refusal.0 refusal.3
    | inr did ↦
        let intent : Intent = history.On c (Subscribe (length x.names.subscriptions)) in
        let means = meant-own x.names.subscriptions did.0 intent (new-name x.names.subscriptions x.core.subscriptions did.0 (s.sound i x at).named.subscriptions did.3.3) in
        let names : Names = record x.names { subscriptions = x.names.subscriptions ++ (did.0, intent) ∷ [] } in
        let d : Subscription = new_subscription h (record { data_type = data_type; count = count }) mask in
        let message : Sending = event_add_sent did.3.0.circuit did.3.0.native.sid did.0 d in
        done names _ (sends names did.1 (message ∷ []) did.3.4.0 (suits-as names message intent means refl)) did.4
  ]

  pub unsubscribe-asked : (g : Handle × Intent) → HappensUnsubscribe w i x g new → AllAsked new
  unsubscribe-asked g happens = elim happens [
    | inl refusal ↦ refused-asked refusal.0 refusal.3
    | inr did ↦ done x.names _ (sends x.names did.1 _ did.3.3.0 (by did.3.0 (stands-as x.core g.0 did.3.0 did.3.1).0 (standing_at x.core did.3.0.channel))) did.4
  ]
    where
      by : (d : Subscription) → under x.core.subscriptions g.0 ≡ Some d → (o : Option Standing) → AllSuit x.names (cancel_sent g.0 d o)
      by d there None = none-suit x.names
      by d there (Some Searching) = none-suit x.names
      by d there (Some (On c Connecting)) = none-suit x.names
      by d there (Some (On c (Creating rights))) = none-suit x.names
      by d there (Some (On c Leaving)) = none-suit x.names
      by d there (Some (On c Clearing)) = none-suit x.names
      by d there (Some (On c Doomed)) = none-suit x.names
      by d there (Some (On c (Live n rights))) =
          let m = (s.sound i x at).named.meant g.0 d there in
          suits-as x.names (event_cancel_sent c n.sid g.0 d) (history.On m.0 (Cancel m.1)) (ap cancelled m.2) refl

  pub clear-asked : (c : ℕ) (h : Handle) → HappensClear w i x c h new → AllAsked new
  clear-asked c h happens = elim happens [
    | inl refusal ↦ refused-asked refusal.0 refusal.3
    | inr did ↦ done x.names _ (sends x.names did.1 _ did.3.3.0 (by did.3.0)) did.4
  ]
    where
      by : (o : Standing) → AllSuit x.names (clearing_sent h o)
      by Searching = none-suit x.names
      by (On c Connecting) = none-suit x.names
      by (On c (Creating rights)) = none-suit x.names
      by (On c Leaving) = none-suit x.names
      by (On c Clearing) = none-suit x.names
      by (On c Doomed) = none-suit x.names
      by (On c (Live n rights)) = one-suits x.names (clear_sent c n.sid h) refl

  pub datagram-asked : (from : Address) (bytes : List ℕ) → HappensClientDatagram w i x from bytes new → AllAsked new
  datagram-asked from bytes happens =
      done _ _ (all-received-suit x.names from happens.2.0 (record x.core { moment = later w.moment x.core }) (record { core = happens.1; sent = happens.0; notices = [] }) happens.2.2) happens.3

pub accept-asked : (w new : World) (c : ℕ) (x : ClientSide) (v : WantsFirst w x) → HappensAccept w c x v new → AllAsked w → AllAsked new
accept-asked w new c x v happens asked = elim happens.leaves [
  | inl refusal ↦ subst (λ (u : World). AllAsked u) (sym refusal.1) asked
  | inr did ↦
      let wanted = wanted-there x.core v.place v.v v.at in
      let k : Option Closing = did.1 in
      let n : Joined = connected_as k (event.new_circuit c x v.v.circuit v.i v.y did.0) in
      let made : World = record (with_server v.i (record v.y { core = happens.server }) w) { circuits = w.circuits ++ n ∷ [] } in
      subst (λ (u : World). AllAsked u) (sym did.6)
      (asked-called made c x x.names (record { core = did.3; names = x.names; lines = lines_of OfCircuit x.names (event.closing_notices k); sent = did.2 })
      (connects-suit x.names x.core did.3 v.v.circuit wanted.0 k did.2
      (subst (λ (o : Option ClientCircuit). ConnectsOn x.core v.v.circuit o k did.2 did.3) (unconnected-is x.core v.v.circuit wanted.0 wanted.1 wanted.2) did.5))
      (λ l q d s at there. elim (At-snoc w.circuits n l d at) [
        | inl old ↦ asked l q d s old there
        | inr last ↦ absurd (nothing k (event.new_circuit c x v.v.circuit v.i v.y did.0) refl q s (subst (λ (z : Joined). At z.lists.up q s) last.1 there))
      ]))
]
  where
    empty : (l : List Sent) → l ≡ [] → (q : ℕ) (s : Sent) → At l q s → ⊥
    empty l is q s at = (let f : At [] q s = subst (λ (z : List Sent). At z q s) is at in cc)

    nothing : (k : Option Closing) (n : Joined) → n.lists.up ≡ [] → (q : ℕ) (s : Sent) → At (connected_as k n).lists.up q s → ⊥
    nothing None n is q s at = empty n.lists.up is q s at
    nothing (Some z) n is q s at = empty n.lists.up is q s at

pub client-restart-asked : (w new : World) (i : ℕ) (x : ClientSide) → HappensClientRestart w i x new → AllAsked w → AllAsked new
client-restart-asked w new i x is asked =
    let q = quiet-map w (record w { circuits = map (client_gone i x) w.circuits }) (client_gone i x) refl refl same in
    subst (λ (v : World). AllAsked v) (sym is) (asked-quiet w _ q asked)
  where
    same : (c : Joined) → (client_gone i x c).lists.up ≡ c.lists.up
    same c = go (eqb c.client i && c.lists.client_open)
      where
        go : (b : Bool) → (cond b (client_closed (out_bytes x.core c.at_client) c) c).lists.up ≡ c.lists.up
        go true = refl
        go false = refl

module _ (w new : World) (k : ℕ) (j : Joined) (x : ClientSide) (on : At w.circuits k j) (at : At w.clients j.client x) (s : ClientsStand w) (asked : AllAsked w) where
  pub down-asked : (n : ℕ) (y : ServerSide) → HappensDown w k n j x y new → AllAsked new
  down-asked n y (mid, sent, core, down, gives, is) =
      subst (λ (v : World). AllAsked v) (sym is)
      (asked-called mid j.client x x.names (record { core = core; names = x.names; lines = []; sent = sent }) (gives-suit x.names x.core core j.at_client _ _ (connection_at x.core j.at_client) sent gives) (asked-quiet w mid (taken down) asked))
    where
      taken : DownTaken w k n j y mid → Quiet w mid
      taken (inl open_it) = quiet-as w mid (ap (λ (v : World). v.clients) open_it.1.2) (ap (λ (v : World). v.circuits) open_it.1.2)
      taken (inr shut_it) = subst (λ (v : World). Quiet w v) (sym shut_it.1) (quiet-set w k j (record j { left_down = drop n j.left_down }) on refl)

  pub up-asked : (n : ℕ) (y : ServerSide) → HappensUp w k n j x y new → AllAsked new
  up-asked n y (server, gives, is) = subst (λ (v : World). AllAsked v) (sym is) (go j.lists.client_open)
    where
      go : (b : Bool) → AllAsked (with_server j.server (record y { core = server }) (cond b (with_client j.client (record x { core = handed_over j.at_client n x.core }) w) (with_circuit k (record j { left_up = drop n j.left_up }) w)))
      go true = asked
      go false = asked-quiet w (with_circuit k (record j { left_up = drop n j.left_up }) w) (quiet-set w k j (record j { left_up = drop n j.left_up }) on refl) asked

  ended-asked : (c : Closing) (core : Client) → AllAsked (client_ended k j x c core w)
  ended-asked c core =
      let mid : World = with_circuit k (client_closed c.left j) w in
      asked-called mid j.client x x.names (record { core = core; names = x.names; lines = lines_of OfCircuit x.names c.notices; sent = [] }) (none-suit x.names) (asked-quiet w mid (quiet-set w k j (client_closed c.left j) on refl) asked)

  pub cut-client-asked : HappensCutClient w k j x new → AllAsked new
  cut-client-asked happens = subst (λ (v : World). AllAsked v) (sym happens.4) (ended-asked happens.0 happens.2)

  pub client-step-asked : j.lists.client_open ≡ true → HappensClientStep w k j x new → AllAsked new
  client-step-asked opened happens = subst (λ (v : World). AllAsked v) (sym happens.4) (go (connection_at x.core j.at_client) refl happens.0 happens.1 happens.2 happens.3)
    where
      go : (o : Option Connection) → connection_at x.core j.at_client ≡ o → (did : Stepped) (sent : List Sending) (core : Client) → StepsOn x.core j.at_client o did sent core → AllAsked (client_stepped k j x did sent core w)
      go None is did sent core steps = absurd (both_ways (is_none (connection_at x.core j.at_client)) (s.connected k j x on at opened) (ap is_none is))
      go (Some d) is NeedBytes sent core steps = asked
      go (Some d) is (Closed c) sent core steps = ended-asked c core
      go (Some d) is (Notices told) sent core steps =
          let lines : List Line = lines_of (about_at j.lists (length j.lists.heard)) x.names told in
          let logged : ℕ = log_length x.life w.client_logs in
          let g : Step = record { sent = length j.lists.up; logged = logged; after = logged + length lines } in
          let mid : World = with_circuit k (heard_in g j) w in
          asked-called mid j.client x x.names (record { core = core; names = x.names; lines = lines; sent = sent })
          (hears-suits x.names (after_taking j.at_client steps.rest x.core) (s.sound j.client x at).named.meant j.at_client steps.m (record { core = core; sent = sent; notices = told }) steps.hears) (asked-quiet w mid (quiet-set w k j (heard_in g j) on refl) asked)

tick-one-asked : (moment : ℕ) (w : World) (i : ℕ) (new : World) → TicksOne moment w i new → AllAsked w → AllAsked new
tick-one-asked moment w i new (x, at, t, sent, core, does, is) asked =
    let o : Outcomes = record { core = core; names = x.names; lines = lines_of OfCircuit x.names t.notices; sent = sent } in
    let after : World = client_after i x x.names o w in
    subst (λ (v : World). AllAsked v) (sym is)
    (asked-quiet after (record after { circuits = map (after_tick i t.closings) after.circuits }) (quiet-map after _ (after_tick i t.closings) refl refl (same t.closings))
    (asked-called w i x x.names o (subst (λ (l : List Sending). AllSuit x.names l) (sym does.1) (ticked-suit x.names moment x.core)) asked))
  where
    same : (closings : List Left) (c : Joined) → (after_tick i closings c).lists.up ≡ c.lists.up
    same closings c = go (eqb c.client i && c.lists.client_open) (left_silent closings c)
      where
        go : (b : Bool) (o : Option (List ℕ)) → (cond b (unwrap_or (option_map (λ (left : List ℕ). client_closed left c) o) c) c).lists.up ≡ c.lists.up
        go true (Some left) = refl
        go true None = refl
        go false o = refl

pub ticks-asked : (moment : ℕ) (clients : List ℕ) (w new : World) → FoldsTo (TicksOne moment) w clients new → AllAsked w → AllAsked new
ticks-asked moment [] w new same asked = subst (λ (v : World). AllAsked v) same asked
ticks-asked moment (i ∷ clients) w new (mid, one, rest) asked = ticks-asked moment clients mid new rest (tick-one-asked moment w i mid one asked)
