-- What each call, and each message that is read, makes a client send: the ids that these
-- give on one circuit.
use Rattle.std.proofs.Common.{◌≡◌, ℕ, ◌%◌, ◌≤◌, ◌⊎◌, inl, inr, Bool, true, false, ◌&&◌, cond, eqb, List, [], ◌∷◌, ◌++◌, length, Option, Some, None, refl, sym, ap, ◌∙◌, subst, arith}
use Rattle.std.specs.Prelude.{Ok, filter, fold, map, option_map, option_to_list, unwrap_or}
use Rattle.std.proofs.lemmas.Bool.{and_from, and_parts, both_ways, or_right}
use Rattle.ca_text.specs.Command.{command_number}
use Rattle.ca_text.specs.Limits.{arena_slots}
use Rattle.ca_text.specs.Place.{At}
use Rattle.ca_text.proofs.Places.{At-mapped, some_is}
use Rattle.ca_text.specs.declared.command.Command.{Command}
use Rattle.ca_text.specs.declared.command.Command.TheVariants as command
use Rattle.ca_arena.specs.declared.handle.Handle.{Handle}
use Rattle.ca_dbr.specs.Elements.{Elements}
use Rattle.ca_ids.specs.Table.{MayGive, held, same_handle, under, with_held}
use Rattle.ca_ids.specs.Wire.{wire_of}
use Rattle.ca_link.specs.declared.keep.Keep.{Keep}
use Rattle.ca_link.specs.declared.keep.Keep.TheVariants.{Close, Echo, Idle}
use Rattle.ca_link.specs.Link.{kept}
use Rattle.ca_monitor.specs.ReadRun.{after_read, asked_between, sent_by_read}
use Rattle.ca_monitor.specs.Subscriptions.{Subscription, confirmed_by, drains_in, is_to, standing_to, stands_in}
use Rattle.ca_requests.specs.Calls.{new_request}
use Rattle.ca_requests.specs.Requests.{Asked, Request, answered_by, command_of}
use Rattle.ca_requests.specs.Requests as request
use Rattle.ca_search.specs.Searches as search
use Rattle.ca_wire.specs.declared.header.Header.{Header}
use Rattle.ca_wire.specs.Fields.{Fields}
use Rattle.ca_wire.specs.Messages.{header_only, name_request, search_request, version_request}
use Rattle.ca_model.specs.Answers.{Closing, Notice, Sending}
use Rattle.ca_model.specs.Client.{Channel, Client, ClientCircuit, Clearing, Connecting, Connection, Creating, Doomed, Leaving, Live, On, Phase, Searching, Standing, channel_on, circuit_to, connection_at, found_on, is_on_in, later, phase_on, sending, with_standing}
use Rattle.ca_model.specs.Client as phase
use Rattle.ca_model.specs.ClientCalls.{LiveChannel, cancel_sent, clear_sent, clearing_sent, event_add_sent, event_cancel_sent, is_over, issued, write_sent}
use Rattle.ca_model.specs.ClientEnds.{ConnectsOn, GivesOn, Receives, ReceivesAll, Ticking, all_searched_on, begun, circuits_ticked, creating, creations, due, flow_sent, is_connecting, is_name_connected, of_circuit, searches_made, searches_on, set_up, ticks, ticks_as, with_sending}
use Rattle.ca_model.specs.ClientEnds as ends
use Rattle.ca_model.specs.Ends.{Address}
use Rattle.ca_model.specs.Hears.{Answers, Completes, Effect, Fails, FindsAt, Hears, PutsOn, Updates, any_failed, becomes, clear_answered, confirmed, create_sent, created, doing, event_adds, failed, failing, found_at, subscription_on, left, put_on, request_failed, rights_told, searched_by, subscription_failed, with_circuit, write_failed}
use Rattle.ca_model.specs.Hears as hears
use Rattle.ca_model.specs.Sends.{SameIndex}
use Rattle.ca_model.specs.Speech.{Cid, Gives, Id, Ioid, SubId}
use Rattle.ca_model.proofs.Handles.{same-is, same-itself}
use Rattle.ca_model.proofs.Hearing.{received-keeps}
use Rattle.ca_model.proofs.Thinner.{Thins}
use Rattle.ca_model.proofs.Standings.{at-filter-map, channel-on, fails-anywhere, fails-searched, is-on, searched-is}
use Rattle.ca_model.proofs.Tables.{all-there, changed-own, held-apart, held-own, held-under}
use Rattle.ca_laws_parts.specs.Held.{AreFew, has_id, is_asked, is_subscribed}
use Rattle.ca_laws_parts.proofs.Marks.{at-filter}
use Rattle.ca_laws_parts.proofs.Filtered.{filter-order, rows-apart}
use Rattle.ca_laws_parts.proofs.Rests.{rests-all-received, rests-itself, rests-received, rests-sending}
use Rattle.ca_laws_parts.proofs.Calling.{rests-begun, standing-has}
use Rattle.ca_laws_parts.proofs.Given.{Given, GivesNone, HeldBy, IsIdle, filter-map-order, given-nothing, given-one, given-then, gives-both, gives-cid, gives-ioid, gives-no-id, gives-of, gives-sub, idle-channel, idle-new-request, idle-new-subscription, idle-subscription, none-given, only-one, rests-held, same-holder}

-- ---- what gives no id

none-one : (s : Sending) (n : ℕ) → s.message.command ≡ n → (n ≡ 18 → ⊥) → (n ≡ 15 → ⊥) → (n ≡ 19 → ⊥) → (n ≡ 1 → ⊥) → GivesNone (s ∷ [])
none-one s n is no18 no15 no19 no1 i r id at gives =
    gives-no-id s.message n is no18 no15 no19 no1 id (subst (λ (v : Sending). Gives v.message id) (only-one s r i at).1 gives)

pub none-clear : (c : Handle) (sid : ℕ) (h : Handle) → GivesNone (clear_sent c sid h ∷ [])
none-clear c sid h = none-one (clear_sent c sid h) 12 refl (λ e. absurd (omega (arith, e))) (λ e. absurd (omega (arith, e))) (λ e. absurd (omega (arith, e))) (λ e. absurd (omega (arith, e)))

pub none-cleared : (h : Handle) (s : Standing) → GivesNone (clearing_sent h s)
none-cleared h Searching = none-given
none-cleared h (On c Connecting) = none-given
none-cleared h (On c (Creating rights)) = none-given
none-cleared h (On c Leaving) = none-given
none-cleared h (On c Clearing) = none-given
none-cleared h (On c Doomed) = none-given
none-cleared h (On c (Live native rights)) = none-clear c native.sid h

pub none-cancelled : (g : Handle) (d : Subscription) (o : Option Standing) → GivesNone (cancel_sent g d o)
none-cancelled g d None = none-given
none-cancelled g d (Some Searching) = none-given
none-cancelled g d (Some (On c Connecting)) = none-given
none-cancelled g d (Some (On c (Creating rights))) = none-given
none-cancelled g d (Some (On c Leaving)) = none-given
none-cancelled g d (Some (On c Clearing)) = none-given
none-cancelled g d (Some (On c Doomed)) = none-given
none-cancelled g d (Some (On c (Live native rights))) =
    none-one (event_cancel_sent c native.sid g d) 2 refl (λ e. absurd (omega (arith, e))) (λ e. absurd (omega (arith, e))) (λ e. absurd (omega (arith, e))) (λ e. absurd (omega (arith, e)))

pub none-written : (h : Handle) (l : LiveChannel) (v : Elements) → GivesNone (write_sent h l v ∷ [])
none-written h l v = none-one (write_sent h l v) 4 refl (λ e. absurd (omega (arith, e))) (λ e. absurd (omega (arith, e))) (λ e. absurd (omega (arith, e))) (λ e. absurd (omega (arith, e)))

none-flow : (c : Handle) (o : Option Command) (a b : Bool) → o ≡ asked_between a b
    → GivesNone (map (λ (k : Command). of_circuit c (header_only k)) (option_to_list o))
none-flow c o a b is = subst (λ (v : Option Command). GivesNone (map (λ (k : Command). of_circuit c (header_only k)) (option_to_list v))) (sym is) (go a b)
  where
    go : (a b : Bool) → GivesNone (map (λ (k : Command). of_circuit c (header_only k)) (option_to_list (asked_between a b)))
    go false true = none-one (of_circuit c (header_only command.EventsOff)) 8 refl (λ e. absurd (omega (arith, e))) (λ e. absurd (omega (arith, e))) (λ e. absurd (omega (arith, e))) (λ e. absurd (omega (arith, e)))
    go true false = none-one (of_circuit c (header_only command.EventsOn)) 9 refl (λ e. absurd (omega (arith, e))) (λ e. absurd (omega (arith, e))) (λ e. absurd (omega (arith, e))) (λ e. absurd (omega (arith, e)))
    go false false = none-given
    go true true = none-given

pub none-given-on : (x : Client) (c : Handle) (bytes : List ℕ) (more : Bool) (o : Option Connection) (sent : List Sending) (y : Client)
    → GivesOn x c bytes more o (Ok tt) sent y → GivesNone sent
none-given-on x c bytes more (Some e) sent y gives = gives-of sent (flow_sent c more e) gives.0 (none-flow c (sent_by_read more e.run) e.run.events_off (after_read more e.run).events_off refl)
none-given-on x c bytes more None sent y gives = absurd gives

none-set-up : (x : Client) (c : Handle) (d : ClientCircuit) → GivesNone (set_up x.peer c d)
none-set-up x c d =
    gives-both (of_circuit c (version_request d.priority) ∷ []) (of_circuit c (name_request command.ClientName x.peer.user) ∷ of_circuit c (name_request command.HostName x.peer.host) ∷ [])
    (none-one (of_circuit c (version_request d.priority)) 0 refl (λ e. absurd (omega (arith, e))) (λ e. absurd (omega (arith, e))) (λ e. absurd (omega (arith, e))) (λ e. absurd (omega (arith, e))))
    (gives-both (of_circuit c (name_request command.ClientName x.peer.user) ∷ []) (of_circuit c (name_request command.HostName x.peer.host) ∷ [])
    (none-one (of_circuit c (name_request command.ClientName x.peer.user)) 20 refl (λ e. absurd (omega (arith, e))) (λ e. absurd (omega (arith, e))) (λ e. absurd (omega (arith, e))) (λ e. absurd (omega (arith, e))))
    (none-one (of_circuit c (name_request command.HostName x.peer.host)) 21 refl (λ e. absurd (omega (arith, e))) (λ e. absurd (omega (arith, e))) (λ e. absurd (omega (arith, e))) (λ e. absurd (omega (arith, e)))))

-- a moment
ticks-none : (t : Ticking) (c : Handle) → GivesNone t.sent → GivesNone (ticks t c).sent
ticks-none t c none = go (connection_at t.core c)
  where
    by : (k : Keep) → GivesNone (ticks_as k c t).sent
    by Idle = none
    by Close = none
    by Echo = gives-both t.sent (of_circuit c (header_only command.Echo) ∷ []) none
        (none-one (of_circuit c (header_only command.Echo)) 23 refl (λ e. absurd (omega (arith, e))) (λ e. absurd (omega (arith, e))) (λ e. absurd (omega (arith, e))) (λ e. absurd (omega (arith, e))))

    go : (o : Option Connection) → GivesNone (unwrap_or (option_map (λ (e : Connection). ticks_as (kept t.core.moment e.link) c t) o) t).sent
    go None = none
    go (Some e) = by (kept t.core.moment e.link)

ticks-none-all : (order : List Handle) (t : Ticking) → GivesNone t.sent → GivesNone (fold ticks t order).sent
ticks-none-all [] t none = none
ticks-none-all (c ∷ order) t none = ticks-none-all order (ticks t c) (ticks-none t c none)

search-none : (c : Handle) (t : Ticking) (w : search.Wanted) → GivesNone t.sent → GivesNone (searches_on c t w).sent
search-none c t w none = go (is_over t.core c)
  where
    go : (b : Bool) → GivesNone (cond b t (with_sending (of_circuit c (search_request w.cid w.name)) t)).sent
    go true = none
    go false = gives-both t.sent (of_circuit c (search_request w.cid w.name) ∷ []) none
        (none-one (of_circuit c (search_request w.cid w.name)) 6 refl (λ e. absurd (omega (arith, e))) (λ e. absurd (omega (arith, e))) (λ e. absurd (omega (arith, e))) (λ e. absurd (omega (arith, e))))

search-none-each : (c : Handle) (ws : List search.Wanted) (t : Ticking) → GivesNone t.sent → GivesNone (fold (searches_on c) t ws).sent
search-none-each c [] t none = none
search-none-each c (w ∷ ws) t none = search-none-each c ws (searches_on c t w) (search-none c t w none)

search-none-all : (ws : List search.Wanted) (cs : List Handle) (t : Ticking) → GivesNone t.sent → GivesNone (fold (all_searched_on ws) t cs).sent
search-none-all ws [] t none = none
search-none-all ws (c ∷ cs) t none = search-none-all ws cs (all_searched_on ws t c) (search-none-each c ws t none)

pub none-ticked : (moment : ℕ) (x : Client) → GivesNone (searches_made (circuits_ticked moment x)).sent
none-ticked moment x =
    let t : Ticking = circuits_ticked moment x in
    search-none-all (due t.core) (filter (is_name_connected t.core) t.core.order) t (ticks-none-all x.order (record { core = record x { moment = later moment x }; sent = []; notices = []; closings = [] }) none-given)

-- ---- a request, a subscription

pub given-issued : (on : Handle) (x : Client) (h : Handle) (l : LiveChannel) (asked : Asked) (q : Handle) (s : Sending) → AreFew x
    → MayGive x.requests q → s.circuit ≡ l.circuit → s.message.command ≡ command_number (command_of asked) → s.message.p2 ≡ wire_of q
    → Given on x (sending (s ∷ []) (issued h l asked q x)) (s ∷ [])
given-issued on x h l asked q s few may circuit asks wire =
    let z : Client = issued h l asked q x in
    let r : Request = new_request h l.circuit asked in
    given-one on x (sending (s ∷ []) z) s (λ here id gives.
    let is : id ≡ Ioid (wire_of q) = gives-ioid s.message id (by asked asks) gives ∙ ap (λ (n : ℕ). Ioid n) wire in (
      subst (λ (v : Id). HeldBy on (sending (s ∷ []) z) s.message v) (sym is)
          (rests-held on z (sending (s ∷ []) z) s.message (Ioid (wire_of q)) (rests-sending on (s ∷ []) z)
          (q, r, held-own x.requests q r may, refl, subst (λ (k : Handle). same_handle l.circuit k ≡ true) (sym circuit ∙ here) (same-itself l.circuit), asks)),
      subst (λ (v : Id). IsIdle on x v) (sym is) (idle-new-request on x q few may),
    ))
  where
    by : (a : Asked) → s.message.command ≡ command_number (command_of a) → (s.message.command ≡ 15) ⊎ (s.message.command ≡ 19)
    by (request.Read data_type count) is = inl is
    by request.Put is = inr is

pub given-subscribed : (on : Handle) (x : Client) (g : Handle) (d : Subscription) (s : Sending) → AreFew x → MayGive x.subscriptions g
    → (s.circuit ≡ on → has_id x.channels on d ≡ true) → s.message.command ≡ 1 → s.message.p2 ≡ wire_of g
    → (let z : Client = record x { subscriptions = with_held g d x.subscriptions } in Given on x (sending (s ∷ []) z) (s ∷ []))
given-subscribed on x g d s few may has asks wire =
    let z : Client = record x { subscriptions = with_held g d x.subscriptions } in
    given-one on x (sending (s ∷ []) z) s (λ here id gives.
    let is : id ≡ SubId (wire_of g) = gives-sub s.message id asks gives ∙ ap (λ (n : ℕ). SubId n) wire in (
      subst (λ (v : Id). HeldBy on (sending (s ∷ []) z) s.message v) (sym is)
          (rests-held on z (sending (s ∷ []) z) s.message (SubId (wire_of g)) (rests-sending on (s ∷ []) z) (g, d, held-own x.subscriptions g d may, refl, has here)),
      subst (λ (v : Id). IsIdle on x v) (sym is) (idle-new-subscription on x g few may),
    ))

-- ---- a channel was found

module _ (on : Handle) (x : Client) (e : Effect) (few : AreFew x) where
  so : (sent : List Sending) (notices : List Notice) (z : Client) → e ≡ doing sent notices z → Given on x (sending sent z) sent
      → Given on x e.core e.sent
  so sent notices z is g = subst (λ (v : Effect). Given on x v.core v.sent) (sym is) g

  none-so : (v : Effect) → e ≡ v → v.sent ≡ [] → Given on x e.core e.sent
  none-so v is empty = given-nothing on x e.core e.sent (gives-of e.sent [] (ap (λ (u : Effect). u.sent) is ∙ empty) none-given)

  given-put-on : (d : Handle) (k : Option Connection) (h : Handle) (here : Channel) → under x.channels h ≡ Some here → here.standing ≡ Searching
      → e ≡ put_on d k h here x → Given on x e.core e.sent
  given-put-on d None h here there stands is = none-so (put_on d None h here x) is refl
  given-put-on d (Some k) h here there stands is =
      let s : Sending = create_sent d h here in
      let z : Client = found_on d (Creating 0) h x in
      let f : Channel → Channel = λ (c : Channel). record c { standing = On d (Creating 0) } in
      so (s ∷ []) [] z is (given-one on x (sending (s ∷ []) z) s (λ same id gives.
      let id_is : id ≡ Cid (wire_of h) = gives-cid s.message id refl gives in (
        subst (λ (v : Id). HeldBy on (sending (s ∷ []) z) s.message v) (sym id_is)
            (rests-held on z (sending (s ∷ []) z) s.message (Cid (wire_of h)) (rests-sending on (s ∷ []) z)
            (h, f here, changed-own f x.channels h here there, refl, is-on is_asked on (f here) (Creating 0) (ap (λ (o : Handle). On o (Creating 0)) same))),
        subst (λ (v : Id). IsIdle on x v) (sym id_is) (idle-channel on x h here few there (λ pass. both_ways (is_on_in is_asked on here) (fails-searched is_asked on here stands) pass)),
      )))

given-puts : (on : Handle) (x : Client) (e : Effect) → AreFew x → (address : Address) (h : Handle) (here : Channel) → under x.channels h ≡ Some here
    → here.standing ≡ Searching → (o : Option (Handle × ClientCircuit)) → PutsOn x address h here o e → Given on x e.core e.sent
given-puts on x e few address h here there stands (Some (d, v)) is = given-put-on on x e few d v.connection h here there stands is
given-puts on x e few address h here there stands None is = elim is [
  | inr full ↦ none-so on x e few (becomes x) full.1 refl
  | inl new ↦ none-so on x e few (put_on new.0 None h here (with_circuit new.0 (phase.new_circuit address here.priority false) x)) new.2 refl
]

pub given-finds : (on : Handle) (x : Client) (e : Effect) → AreFew x → (address : Address) (cid : ℕ) (o : Option (Handle × Channel))
    → searched_by cid x ≡ o → FindsAt x address o e → Given on x e.core e.sent
given-finds on x e few address cid None at is = none-so on x e few (becomes x) is refl
given-finds on x e few address cid (Some (h, here)) at is = (let f = searched-is cid x h here at in given-puts on x e few address h here f.0 f.1 (circuit_to address here.priority x) is)

-- ---- a channel was created: the EVENT_ADDs of its subscriptions

module _ (on : Handle) (x : Client) (e : Effect) (few : AreFew x) (c : Handle) (m : Fields) (h : Handle) (rights : ℕ) (ch : Channel) (there : under x.channels h ≡ Some ch) (stands : ch.standing ≡ On c (Creating rights)) where
  abbrev z : Client
  z = with_standing (On c (Live (hears.native_in m) rights)) h x

  abbrev adds : List Sending
  adds = event_adds c m.p2 h x

  abbrev lives : Channel → Channel
  lives k = record k { standing = On c (Live (hears.native_in m) rights) }

  pub add-row : (i : ℕ) (s : Sending) → At adds i s
      → (e : Handle × Subscription) × At (standing_to h x.subscriptions) i e × (s ≡ event_add_sent c m.p2 e.0 e.1) × (under x.subscriptions e.0 ≡ Some e.1) × (e.1.channel ≡ h) × (stands_in e.1.stage ≡ true)
  add-row i s at =
      let b = At-mapped (λ (e : Handle × Subscription). event_add_sent c m.p2 e.0 e.1) (standing_to h x.subscriptions) i s at in
      let f = at-filter (λ (v : Handle × Subscription). is_to h v.1 && stands_in v.1.stage) (held x.subscriptions) i b.0 b.1 in
      let both = and_parts (is_to h b.0.1) (stands_in b.0.1.stage) f.2 in
      (b.0, b.1, b.2, held-under x.subscriptions f.0 b.0 f.1, same-is b.0.1.channel h both.0, both.1)

  add-id : (i : ℕ) (s : Sending) (id : Id) (at : At adds i s) → Gives s.message id → id ≡ SubId (wire_of (add-row i s at).0.0)
  add-id i s id at gives =
      let r = add-row i s at in
      gives-sub s.message id (ap (λ (v : Sending). v.message.command) r.2) gives ∙ ap (λ (v : Sending). SubId v.message.p2) r.2

  has-now : (d : Subscription) → d.channel ≡ h → stands_in d.stage ≡ true → c ≡ on → has_id z.channels on d ≡ true
  has-now d to stands_so same =
      let pass : unwrap_or (option_map (is_on_in is_subscribed on) (under z.channels d.channel)) false ≡ true =
      ap (λ (o : Option Channel). unwrap_or (option_map (is_on_in is_subscribed on) o) false) (ap (λ (k : Handle). under z.channels k) to ∙ changed-own lives x.channels h ch there)
      ∙ is-on is_subscribed on (lives ch) (Live (hears.native_in m) rights) (ap (λ (o : Handle). On o (Live (hears.native_in m) rights)) same) in
      or_right (drains_in on d.stage) (stands_in d.stage && unwrap_or (option_map (is_on_in is_subscribed on) (under z.channels d.channel)) false)
      (and_from (stands_in d.stage) (unwrap_or (option_map (is_on_in is_subscribed on) (under z.channels d.channel)) false) stands_so pass)

  has-not : (d : Subscription) → d.channel ≡ h → stands_in d.stage ≡ true → has_id x.channels on d ≡ true → ⊥
  has-not d to stands_so has =
      both_ways (is_on_in is_subscribed on ch) (fails-anywhere is_subscribed on c ch (Creating rights) stands refl)
      (sym (ap (λ (o : Option Channel). unwrap_or (option_map (is_on_in is_subscribed on) o) false) (ap (λ (k : Handle). under x.channels k) to ∙ there)) ∙ standing-has x.channels on d stands_so has)

  adds-given : Given on x (sending adds z) adds
  adds-given = record {
    held = λ i s id at same gives.
        let r = add-row i s at in
        let here : c ≡ on = ap (λ (v : Sending). v.circuit) (sym r.2) ∙ same in
        subst (λ (v : Id). HeldBy on (sending adds z) s.message v) (sym (add-id i s id at gives))
        (rests-held on z (sending adds z) s.message (SubId (wire_of r.0.0)) (rests-sending on adds z) (r.0.0, r.0.1, r.3, refl, has-now r.0.1 r.4 r.5 here));
    idle = λ i s id at same gives.
        let r = add-row i s at in
        subst (λ (v : Id). IsIdle on x v) (sym (add-id i s id at gives)) (idle-subscription on x r.0.0 r.0.1 few r.3 (has-not r.0.1 r.4 r.5));
    once = λ i j s r a b lt at_s at_r same also gives_s gives_r index.
        let u = add-row i s at_s in
        let v = add-row j r at_r in
        let o = filter-order (λ (w : Handle × Subscription). is_to h w.1 && stands_in w.1.stage) (held x.subscriptions) i j u.0 v.0 lt u.1 v.1 in
        let both : wire_of u.0.0 % arena_slots ≡ wire_of v.0.0 % arena_slots = sub-index a b (wire_of u.0.0) (wire_of v.0.0) (add-id i s a at_s gives_s) (add-id j r b at_r gives_r) index in
        rows-apart (held x.subscriptions) (held-apart x.subscriptions) o.0 o.1 u.0 v.0 o.2 o.3 o.4 (same-holder x.subscriptions few.subscriptions u.0.0 v.0.0 u.0.1 v.0.1 (wire_of u.0.0) u.3 v.3 refl both).0;
  }
    where
      sub-index : (a b : Id) (n k : ℕ) → a ≡ SubId n → b ≡ SubId k → SameIndex a b → n % arena_slots ≡ k % arena_slots
      sub-index a b n k is also index = subst (λ (v : Id × Id). SameIndex v.0 v.1) (λ i. (is i, also i)) index

-- ---- a message that is read

module _ (on : Handle) (x : Client) (e : Effect) (few : AreFew x) where
  clear-so : (c : Handle) (sid : ℕ) (h : Handle) (notices : List Notice) (z : Client) → e ≡ doing (clear_sent c sid h ∷ []) notices z
      → Given on x e.core e.sent
  clear-so c sid h notices z is = given-nothing on x e.core e.sent (gives-of e.sent (clear_sent c sid h ∷ []) (ap (λ (v : Effect). v.sent) is) (none-clear c sid h))

  module _ (c : Handle) (m : Fields) where
    given-created : (o : Option (Handle × Phase)) → channel_on x c m.p1 ≡ o → e ≡ created x c m o → Given on x e.core e.sent
    given-created None at is = none-so on x e few (becomes x) is refl
    given-created (Some (h, Connecting)) at is = none-so on x e few (becomes x) is refl
    given-created (Some (h, Leaving)) at is = none-so on x e few (becomes x) is refl
    given-created (Some (h, Clearing)) at is = none-so on x e few (becomes x) is refl
    given-created (Some (h, Live native rights)) at is = none-so on x e few (becomes x) is refl
    given-created (Some (h, Doomed)) at is = clear-so c m.p2 h [] _ is
    given-created (Some (h, Creating rights)) at is =
        let f = channel-on x c m.p1 h (Creating rights) at in
        so on x e few (event_adds c m.p2 h x) _ (with_standing (On c (Live (hears.native_in m) rights)) h x) is (adds-given on x e few c m h rights f.0 f.1 f.3)

    given-left : (o : Option (Handle × Phase)) → e ≡ left x c o → Given on x e.core e.sent
    given-left None is = none-so on x e few (becomes x) is refl
    given-left (Some (h, Connecting)) is = none-so on x e few (becomes x) is refl
    given-left (Some (h, Creating rights)) is = none-so on x e few (becomes x) is refl
    given-left (Some (h, Leaving)) is = none-so on x e few (becomes x) is refl
    given-left (Some (h, Clearing)) is = none-so on x e few (becomes x) is refl
    given-left (Some (h, Doomed)) is = none-so on x e few (becomes x) is refl
    given-left (Some (h, Live native rights)) is = clear-so c native.sid h _ _ is

    rights-none : (o : Option (Handle × Phase)) → (rights_told x c m o).sent ≡ []
    rights-none None = refl
    rights-none (Some (h, Connecting)) = refl
    rights-none (Some (h, Leaving)) = refl
    rights-none (Some (h, Clearing)) = refl
    rights-none (Some (h, Doomed)) = refl
    rights-none (Some (h, Creating rights)) = refl
    rights-none (Some (h, Live native rights)) = refl

    failed-none : (o : Option (Handle × Phase)) → (failed x o).sent ≡ []
    failed-none None = refl
    failed-none (Some (h, Connecting)) = refl
    failed-none (Some (h, Leaving)) = refl
    failed-none (Some (h, Clearing)) = refl
    failed-none (Some (h, Doomed)) = refl
    failed-none (Some (h, Creating rights)) = refl
    failed-none (Some (h, Live native rights)) = refl

    answered-none : (o : Option (Handle × Phase)) → (clear_answered x c o).sent ≡ []
    answered-none None = refl
    answered-none (Some (h, Connecting)) = refl
    answered-none (Some (h, Leaving)) = refl
    answered-none (Some (h, Clearing)) = refl
    answered-none (Some (h, Doomed)) = refl
    answered-none (Some (h, Creating rights)) = refl
    answered-none (Some (h, Live native rights)) = refl

    given-completes : (q : Handle) (a : Asked) (s : request.Stage) → Completes x m q a s e → Given on x e.core e.sent
    given-completes q a request.Open done = none-so on x e few _ done.2 refl
    given-completes q a request.Draining done = none-so on x e few _ done refl

    given-reply : (o : Option (Handle × Request)) → Answers x m o e → Given on x e.core e.sent
    given-reply None is = none-so on x e few (becomes x) is refl
    given-reply (Some (q, r)) is = given-completes q r.asked r.stage is

    confirmed-none : (o : Option Handle) → (confirmed x o).sent ≡ []
    confirmed-none None = refl
    confirmed-none (Some g) = refl

    given-update : (o : Option Handle) → Updates x m o e → Given on x e.core e.sent
    given-update None is = none-so on x e few (becomes x) is refl
    given-update (Some g) is = none-so on x e few _ is.2 refl

    write-none : (o : Option (Handle × Phase)) → (write_failed x m o).sent ≡ []
    write-none None = refl
    write-none (Some (h, Connecting)) = refl
    write-none (Some (h, Leaving)) = refl
    write-none (Some (h, Clearing)) = refl
    write-none (Some (h, Doomed)) = refl
    write-none (Some (h, Creating rights)) = refl
    write-none (Some (h, Live native rights)) = refl

    refused-none : (o : Option Handle) → (subscription_failed x m o).sent ≡ []
    refused-none None = refl
    refused-none (Some g) = refl

    request-none : (q : Handle) (s : request.Stage) → (request_failed x m q s).sent ≡ []
    request-none q request.Open = refl
    request-none q request.Draining = refl

    any-none : (o : Option (Handle × Request)) → (any_failed x m o).sent ≡ []
    any-none None = refl
    any-none (Some (q, r)) = request-none q r.stage

    failing-none : (h : Header) (a b : Bool)
        → (cond a (write_failed x m (channel_on x c m.p1)) (cond b (subscription_failed x m (subscription_on x c h.p2)) (any_failed x m (answered_by c h.command h.p2 x.requests)))).sent ≡ []
    failing-none h true b = write-none (channel_on x c m.p1)
    failing-none h false true = refused-none (subscription_on x c h.p2)
    failing-none h false false = any-none (answered_by c h.command h.p2 x.requests)

    given-error : Fails x c m e → Given on x e.core e.sent
    given-error fails = elim fails [
      | inr not_whole ↦ none-so on x e few (becomes x) not_whole.1 refl
      | inl whole ↦ none-so on x e few (failing x c m whole.0) whole.2 (failing-none whole.0 (eqb whole.0.command 4) (eqb whole.0.command 1))
    ]

pub given-heard : (on : Handle) (x : Client) (c : Handle) (m : Fields) (e : Effect) → AreFew x → Hears x c m e → Given on x e.core e.sent
given-heard on x c m e few (hears.Search is d there finds) = given-finds on x e few (found_at d.address m) m.p2 (searched_by m.p2 x) refl finds
given-heard on x c m e few (hears.AccessRights is does) = none-so on x e few (rights_told x c m (channel_on x c m.p1)) does (rights-none on x e few c m (channel_on x c m.p1))
given-heard on x c m e few (hears.CreateChannel is does) = given-created on x e few c m (channel_on x c m.p1) refl does
given-heard on x c m e few (hears.CreateChannelFail is does) = none-so on x e few (failed x (channel_on x c m.p1)) does (failed-none on x e few c m (channel_on x c m.p1))
given-heard on x c m e few (hears.ClearChannel is does) = none-so on x e few (clear_answered x c (channel_on x c m.p2)) does (answered-none on x e few c m (channel_on x c m.p2))
given-heard on x c m e few (hears.ServerDisconnect is does) = given-left on x e few c m (channel_on x c m.p1) does
given-heard on x c m e few (hears.Reply is does) = given-reply on x e few c m (answered_by c m.command m.p2 x.requests) does
given-heard on x c m e few (hears.Confirmation is empty does) = none-so on x e few (confirmed x (confirmed_by c m.p2 x.subscriptions)) does (confirmed-none on x e few c m (confirmed_by c m.p2 x.subscriptions))
given-heard on x c m e few (hears.Update is some does) = given-update on x e few c m (subscription_on x c m.p2) does
given-heard on x c m e few (hears.Error is does) = given-error on x e few c m does
given-heard on x c m e few (hears.Other is does) = none-so on x e few (becomes x) does refl

-- ---- datagrams

pub given-received : (on : Handle) (x : Client) (from : Address) (m : Fields) (e : Effect) → AreFew x → Receives from x m e → Given on x e.core e.sent
given-received on x from m e few (ends.Search is finds) = given-finds on x e few (found_at from m) m.p2 (searched_by m.p2 x) refl finds
given-received on x from m e few (ends.Beacon is port does) = given-nothing on x e.core e.sent (gives-of e.sent [] (ap (λ (v : Effect). v.sent) does) none-given)
given-received on x from m e few (ends.Other not_search not_beacon does) = none-so on x e few (becomes x) does refl

few-thins : (x y : Client) → Thins x y → AreFew x → AreFew y
few-thins x y thins few = record {
  channels = few-as (length x.channels) (length y.channels) thins.channels.few few.channels;
  requests = few-as (length x.requests) (length y.requests) thins.requests.few few.requests;
  subscriptions = few-as (length x.subscriptions) (length y.subscriptions) thins.subscriptions.few few.subscriptions;
}
  where
    few-as : (a b : ℕ) → b ≡ a → a ≤ arena_slots → b ≤ arena_slots
    few-as a b same le = omega (arith, same, le)

pub given-all-received : (on : Handle) (from : Address) (ms : List Fields) (x : Client) (e : Effect) → AreFew x → ReceivesAll from x ms e
    → Given on x e.core e.sent
given-all-received on from [] x e few does = none-so on x e few (becomes x) does refl
given-all-received on from (m ∷ ms) x e few does =
    subst (λ (w : Effect). Given on x w.core w.sent) (sym does.4)
    (given-then on x does.0.core does.1.core does.0.sent does.1.sent (rests-received on x from m does.0 does.2) (rests-all-received on from ms does.0.core does.1 does.3) (given-received on x from m does.0 few does.2)
    (given-all-received on from ms does.0.core does.1 (few-thins x does.0.core (received-keeps from x m does.0 does.2).thins few) does.3))

-- ---- a circuit is connected: the CREATE_CHANs of the channels that wait for it

module _ (on : Handle) (x : Client) (few : AreFew x) (c : Handle) where
  begins-row : (s : Sending) (e : Handle × Channel) → cond (is_on_in is_connecting c e.1) (Some (create_sent c e.0 e.1)) None ≡ Some s
      → (is_on_in is_connecting c e.1 ≡ true) × (s ≡ create_sent c e.0 e.1)
  begins-row s e is = go (is_on_in is_connecting c e.1) refl is
    where
      go : (b : Bool) → is_on_in is_connecting c e.1 ≡ b → cond b (Some (create_sent c e.0 e.1)) None ≡ Some s
          → (is_on_in is_connecting c e.1 ≡ true) × (s ≡ create_sent c e.0 e.1)
      go true waits p = (waits, sym (some_is (create_sent c e.0 e.1) s p))
      go false waits p = absurd (none-some s p)
        where
          none-some : (s : Sending) → (let o : Option Sending = None in o ≡ Some s) → ⊥
          none-some s e = cc

  -- a channel that waits is not asked for here, and is asked for then
  waits-not : (v : Channel) → is_on_in is_connecting c v ≡ true → c ≡ on → is_on_in is_asked on v ≡ true → ⊥
  waits-not v waits same pass = go v.standing (subst (λ (k : Handle). is_on_in is_connecting k v ≡ true) same waits) pass
    where
      phases : (p : Phase) → is_connecting p ≡ true → is_asked p ≡ true → ⊥
      phases Connecting f g = both_ways false refl g
      phases (Creating rights) f g = both_ways false refl f
      phases (Live native rights) f g = both_ways false refl f
      phases Leaving f g = both_ways false refl f
      phases Clearing f g = both_ways false refl f
      phases Doomed f g = both_ways false refl f

      go : (s : Standing) → unwrap_or (option_map is_connecting (phase_on on s)) false ≡ true
          → unwrap_or (option_map is_asked (phase_on on s)) false ≡ true → ⊥
      go Searching f g = both_ways false refl f
      go (On o p) f g = by (same_handle o on) f g
        where
          by : (b : Bool) → unwrap_or (option_map is_connecting (cond b (Some p) None)) false ≡ true
              → unwrap_or (option_map is_asked (cond b (Some p) None)) false ≡ true → ⊥
          by true k l = phases p k l
          by false k l = both_ways false refl k

  begins-now : (v : Channel) → is_on_in is_connecting c v ≡ true → c ≡ on → is_on_in is_asked on (creating c v) ≡ true
  begins-now v waits same = go (is_on_in is_connecting c v) waits
    where
      go : (b : Bool) → b ≡ true → is_on_in is_asked on (cond b (record v { standing = On c (Creating 0) }) v) ≡ true
      go true is = is-on is_asked on (record v { standing = On c (Creating 0) }) (Creating 0) (ap (λ (k : Handle). On k (Creating 0)) same)
      go false is = absurd (both_ways false refl is)

  begins-given : Given on x (begun c x) (creations c x)
  begins-given = record {
    held = λ i s id at same gives.
        let f = at-filter-map (λ (e : Handle × Channel). cond (is_on_in is_connecting c e.1) (Some (create_sent c e.0 e.1)) None) (held x.channels) i s at in
        let r = begins-row s f.1 f.3 in
        let here : c ≡ on = ap (λ (v : Sending). v.circuit) (sym r.1) ∙ same in
        let row : under x.channels f.1.0 ≡ Some f.1.1 = held-under x.channels f.0 f.1 f.2 in
        subst (λ (v : Id). HeldBy on (begun c x) s.message v) (sym (id-of s f.1 r.1 id gives))
        (f.1.0, creating c f.1.1, all-there (creating c) x.channels f.1.0 f.1.1 row, refl, begins-now f.1.1 r.0 here);
    idle = λ i s id at same gives.
        let f = at-filter-map (λ (e : Handle × Channel). cond (is_on_in is_connecting c e.1) (Some (create_sent c e.0 e.1)) None) (held x.channels) i s at in
        let r = begins-row s f.1 f.3 in
        let here : c ≡ on = ap (λ (v : Sending). v.circuit) (sym r.1) ∙ same in
        subst (λ (v : Id). IsIdle on x v) (sym (id-of s f.1 r.1 id gives)) (idle-channel on x f.1.0 f.1.1 few (held-under x.channels f.0 f.1 f.2) (λ pass. waits-not f.1.1 r.0 here pass));
    once = λ i j s r a b lt at_s at_r same also gives_s gives_r index.
        let f = filter-map-order (λ (e : Handle × Channel). cond (is_on_in is_connecting c e.1) (Some (create_sent c e.0 e.1)) None) (held x.channels) i j s r lt at_s at_r in
        let u = begins-row s f.2 f.7 in
        let v = begins-row r f.3 f.8 in
        let both : wire_of f.2.0 % arena_slots ≡ wire_of f.3.0 % arena_slots = cid-index a b (wire_of f.2.0) (wire_of f.3.0) (id-of s f.2 u.1 a gives_s) (id-of r f.3 v.1 b gives_r) index in
        rows-apart (held x.channels) (held-apart x.channels) f.0 f.1 f.2 f.3 f.4 f.5 f.6
        (same-holder x.channels few.channels f.2.0 f.3.0 f.2.1 f.3.1 (wire_of f.2.0) (held-under x.channels f.0 f.2 f.5) (held-under x.channels f.1 f.3 f.6) refl both).0;
  }
    where
      id-of : (s : Sending) (e : Handle × Channel) → s ≡ create_sent c e.0 e.1 → (id : Id) → Gives s.message id → id ≡ Cid (wire_of e.0)
      id-of s e is id gives = gives-cid s.message id (ap (λ (v : Sending). v.message.command) is) gives ∙ ap (λ (v : Sending). Cid v.message.p1) is

      cid-index : (a b : Id) (n k : ℕ) → a ≡ Cid n → b ≡ Cid k → SameIndex a b → n % arena_slots ≡ k % arena_slots
      cid-index a b n k is also index = subst (λ (v : Id × Id). SameIndex v.0 v.1) (λ i. (is i, also i)) index

pub given-connected : (on : Handle) (x : Client) (c : Handle) (d : ClientCircuit) (k : Option Closing) (sent : List Sending) (y : Client) → AreFew x
    → ConnectsOn x c (Some d) k sent y → Given on x y sent
given-connected on x c d None sent y few does =
    let z : Client = begun c x in
    let all : List Sending = set_up x.peer c d ++ creations c x in
    let g : Given on x z all =
    given-then on x x z (set_up x.peer c d) (creations c x) (rests-itself on x) (rests-begun on c x) (given-nothing on x x (set_up x.peer c d) (none-set-up x c d)) (begins-given on x few c) in
    subst (λ (v : List Sending × Client). Given on x v.1 v.0) (λ i. (sym does.0 i, sym does.1 i))
    (record { held = λ i s id at same gives. rests-held on z (sending all z) s.message id (rests-sending on all z) (g.held i s id at same gives); idle = g.idle; once = g.once })
given-connected on x c d (Some k) sent y few does = given-nothing on x y sent (gives-of sent [] does.1 none-given)
