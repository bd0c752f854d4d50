-- Bytes that come, a circuit that is connected, and a moment: all that a client sends
-- for them are messages.
use Rattle.std.proofs.Common.{◌≡◌, ℕ, suc, ◌<◌, ◌≤◌, ◌^◌, Bool, true, false, cond, List, [], ◌∷◌, ◌++◌, Option, Some, None, length, refl, sym, subst, arith}
use Rattle.std.specs.Prelude.{Ok, filter, fold, map, option_map, option_to_list, unwrap_or}
use Rattle.ca_arena.specs.declared.handle.Handle.{Handle}
use Rattle.ca_ids.specs.Table.{held, under}
use Rattle.ca_ids.specs.Wire.{wire_of}
use Rattle.ca_link.specs.declared.keep.Keep.{Keep}
use Rattle.ca_link.specs.declared.keep.Keep.TheVariants.{Close, Echo, Idle}
use Rattle.ca_link.specs.Link.{kept}
use Rattle.ca_monitor.specs.ReadRun.{after_read, asked_between}
use Rattle.ca_search.specs.Searches as search
use Rattle.ca_text.specs.declared.command.Command.{Command}
use Rattle.ca_text.specs.declared.command.Command.TheVariants as command
use Rattle.ca_text.specs.Limits.{channel_name_limit, payload_limit, priority_limit}
use Rattle.ca_text.specs.Place.{At}
use Rattle.ca_text.proofs.Places.{At-mapped, some_is}
use Rattle.ca_wire.specs.Message.{IsMessage}
use Rattle.ca_wire.specs.Messages.{header_only, name_request, search_request, version_request}
use Rattle.ca_wire.proofs.Padding.{message-of}
use Rattle.ca_model.specs.Answers.{Closing, Sending}
use Rattle.ca_model.specs.Client.{Channel, Client, ClientCircuit, Connection, Creating, Live, Native, On, connection_at, is_on_in, later, on_connection, sending}
use Rattle.ca_model.specs.ClientEnds.{ConnectsOn, GivesOn, Ticking, all_searched_on, begun, circuits_ticked, creating, creations, due, flow_sent, given, is_connecting, is_name_connected, of_circuit, searches_made, searches_on, set_up, ticks, ticks_as, with_sending}
use Rattle.ca_model.specs.ClientCalls.{is_over}
use Rattle.ca_model.specs.Hears.{create_sent}
use Rattle.ca_laws_parts.specs.Held.{AreFew}
use Rattle.ca_model.proofs.Standings.{at-filter-map}
use Rattle.ca_model.proofs.Tables.{held-under}
use Rattle.ca_laws_parts.specs.Speaks.{SendsMessages, ChannelFits, CircuitFits, ClientFits, SpeaksWell}
use Rattle.ca_laws_parts.proofs.Fits.{all-fit, both-sent, empty-payload, ended-fits, fits-like, fits-on, fits-sending, holds-all, holds-changed, none-sent, one-more, text-fits, wire-under}
use Rattle.ca_laws_parts.proofs.HearSpeaks.{filtered-at}
use Rattle.ca_laws_parts.proofs.Speaks.{header_only-good, create-good, does-speak}

-- ---- bytes come

flow-good : (c : Handle) (more : Bool) (d : Connection) → SendsMessages (flow_sent c more d)
flow-good c more d = go d.run.events_off (after_read more d.run).events_off
  where
    go : (a b : Bool) → SendsMessages (map (λ (k : Command). of_circuit c (header_only k)) (option_to_list (asked_between a b)))
    go false true = one-more _ [] (header_only-good command.EventsOff (omega arith)) none-sent
    go true false = one-more _ [] (header_only-good command.EventsOn (omega arith)) none-sent
    go false false = none-sent
    go true true = none-sent

pub gives-speaks : (x y : Client) (c : Handle) (bytes : List ℕ) (more : Bool) (o : Option Connection) (sent : List Sending) → ClientFits x → GivesOn x c bytes more o (Ok tt) sent y → SpeaksWell y sent
gives-speaks x y c bytes more None sent f gives = absurd gives
gives-speaks x y c bytes more (Some d) sent f gives = does-speak (given c bytes more x) y (flow_sent c more d) sent (fits-on _ c x f) (flow-good c more d) gives

-- ---- a circuit is connected

creating-fits : (c : Handle) (ch : Channel) → ChannelFits ch → ChannelFits (creating c ch)
creating-fits c ch p = go (is_on_in is_connecting c ch)
  where
    never : (d : Handle) (n : Native) (r : ℕ) → On c (Creating 0) ≡ On d (Live n r) → ⊥
    never d n r e = cc

    go : (b : Bool) → ChannelFits (cond b (record ch { standing = On c (Creating 0) }) ch)
    go true = record { name = p.name; priority = p.priority; native = λ d n r e. absurd (never d n r e) }
    go false = p

name-good : (text : List ℕ) → length text < payload_limit → IsMessage (name_request command.ClientName text) × IsMessage (name_request command.HostName text)
name-good text lt = (
  message-of (name_request command.ClientName text) (omega arith) (omega arith) (omega arith) (omega arith) (omega arith) (text-fits text lt),
  message-of (name_request command.HostName text) (omega arith) (omega arith) (omega arith) (omega arith) (omega arith) (text-fits text lt),
)

version-good : (priority : ℕ) → priority ≤ priority_limit → IsMessage (version_request priority)
version-good priority le = message-of (version_request priority) (omega arith) (omega (arith, le)) (omega arith) (omega arith) (omega arith) empty-payload

pub connects-speaks : (x y : Client) (c : Handle) (d : ClientCircuit) (k : Option Closing) (sent : List Sending) → AreFew x → ClientFits x → under x.circuits c ≡ Some d → ConnectsOn x c (Some d) k sent y → SpeaksWell y sent
connects-speaks x y c d (Some k) sent few f there does = subst (λ (p : List Sending × Client). SpeaksWell p.1 p.0) (λ i. (sym does.1 i, sym does.2 i)) (ended-fits c x f, none-sent)
connects-speaks x y c d None sent few f there does =
    let version : Sending = of_circuit c (version_request d.priority) in
    let user : Sending = of_circuit c (name_request command.ClientName x.peer.user) in
    let host : Sending = of_circuit c (name_request command.HostName x.peer.host) in
    does-speak (begun c x) y (set_up x.peer c d ++ creations c x) sent (record {
      user = f.user;
      host = f.host;
      channels = holds-all ChannelFits (creating c) x.channels f.channels (creating-fits c);
      requests = f.requests;
      subscriptions = f.subscriptions;
      circuits = holds-changed CircuitFits _ x.circuits c f.circuits (λ u is h. h);
      searches = f.searches;
    })
    (both-sent (set_up x.peer c d) (creations c x)
    (one-more version (user ∷ host ∷ []) (version-good d.priority (f.circuits c d there)) (one-more user (host ∷ []) (name-good x.peer.user f.user).0 (one-more host [] (name-good x.peer.host f.host).1 none-sent)))
    created) does
  where
    created : SendsMessages (creations c x)
    created i s at =
        let r = at-filter-map (λ (e : Handle × Channel). cond (is_on_in is_connecting c e.1) (Some (create_sent c e.0 e.1)) None) (held x.channels) i s at in
        go (is_on_in is_connecting c r.1.1) r.1 (held-under x.channels r.0 r.1 r.2) r.3
      where
        go : (b : Bool) (e : Handle × Channel) → under x.channels e.0 ≡ Some e.1 → cond b (Some (create_sent c e.0 e.1)) None ≡ Some s → IsMessage s.message
        go true e there is = subst (λ (z : Sending). IsMessage z.message) (some_is (create_sent c e.0 e.1) s is) (create-good (wire_of e.0) e.1.name (wire-under x.channels e.0 e.1 few.channels there) (f.channels e.0 e.1 there).name)
        go false e there is = absurd cc

-- ---- a moment

abbrev TicksSpeak : Ticking → Type 0
TicksSpeak t = SpeaksWell t.core t.sent

one-sends : (t : Ticking) (z : Client) (s : Sending) → ClientFits z → IsMessage s.message → SendsMessages t.sent → SpeaksWell (sending (s ∷ []) z) (t.sent ++ s ∷ [])
one-sends t z s f good all = (fits-sending (s ∷ []) z f, both-sent t.sent (s ∷ []) all (one-more s [] good none-sent))

ticks-speak : (t : Ticking) (c : Handle) → TicksSpeak t → TicksSpeak (ticks t c)
ticks-speak t c h = go (connection_at t.core c)
  where
    by : (k : Keep) → TicksSpeak (ticks_as k c t)
    by Idle = h
    by Close = (ended-fits c t.core h.0, h.1)
    by Echo =
        let noted : Client = on_connection (λ (e : Connection). record e { link = record e.link { echoed = true } }) c t.core in
        one-sends t noted (of_circuit c (header_only command.Echo)) (fits-on _ c t.core h.0) (header_only-good command.Echo (omega arith)) h.1

    go : (o : Option Connection) → TicksSpeak (unwrap_or (option_map (λ (e : Connection). ticks_as (kept t.core.moment e.link) c t) o) t)
    go None = h
    go (Some e) = by (kept t.core.moment e.link)

circuits-speak : (order : List Handle) (t : Ticking) → TicksSpeak t → TicksSpeak (fold ticks t order)
circuits-speak [] t h = h
circuits-speak (c ∷ order) t h = circuits-speak order (ticks t c) (ticks-speak t c h)

-- searches that fit messages
abbrev AllWanted : List search.Wanted → Type 0
AllWanted ws = (i : ℕ) (w : search.Wanted) → At ws i w → (w.cid < 2 ^ 32) × (length w.name ≤ channel_name_limit)

search-good : (cid : ℕ) (name : List ℕ) → cid < 2 ^ 32 → length name ≤ channel_name_limit → IsMessage (search_request cid name)
search-good cid name lt le = message-of (search_request cid name) (omega arith) (omega arith) (omega arith) lt lt (text-fits name (omega (arith, le)))

search-speaks : (c : Handle) (t : Ticking) (w : search.Wanted) → (w.cid < 2 ^ 32) × (length w.name ≤ channel_name_limit) → TicksSpeak t → TicksSpeak (searches_on c t w)
search-speaks c t w fit h = go (is_over t.core c)
  where
    go : (b : Bool) → TicksSpeak (cond b t (with_sending (of_circuit c (search_request w.cid w.name)) t))
    go true = h
    go false = one-sends t t.core (of_circuit c (search_request w.cid w.name)) h.0 (search-good w.cid w.name fit.0 fit.1) h.1

searched-speak : (c : Handle) (ws : List search.Wanted) (t : Ticking) → AllWanted ws → TicksSpeak t → TicksSpeak (fold (searches_on c) t ws)
searched-speak c [] t fit h = h
searched-speak c (w ∷ ws) t fit h = searched-speak c ws (searches_on c t w) (λ i v at. fit (suc i) v at) (search-speaks c t w (fit 0 w refl) h)

all-speak : (ws : List search.Wanted) (cs : List Handle) (t : Ticking) → AllWanted ws → TicksSpeak t → TicksSpeak (fold (all_searched_on ws) t cs)
all-speak ws [] t fit h = h
all-speak ws (c ∷ cs) t fit h = all-speak ws cs (all_searched_on ws t c) fit (searched-speak c ws t fit h)

due-fit : (x : Client) → ClientFits x → AllWanted (due x)
due-fit x f i w at =
    let b = At-mapped search.wanted (filter (λ (c : ℕ × search.Channel). search.is_due x.moment c.1) x.searches) i w at in
    let k = filtered-at (λ (c : ℕ × search.Channel). search.is_due x.moment c.1) x.searches i b.0 b.1 in
    let fit = f.searches k.0 b.0 k.1 in
    subst (λ (z : search.Wanted). (z.cid < 2 ^ 32) × (length z.name ≤ channel_name_limit)) (sym b.2) fit

pub tick-speaks : (moment : ℕ) (x : Client) → ClientFits x → SpeaksWell (searches_made (circuits_ticked moment x)).core (searches_made (circuits_ticked moment x)).sent
tick-speaks moment x f =
    let y : Client = record x { moment = later moment x } in
    let t : Ticking = circuits_ticked moment x in
    let h = circuits-speak x.order (record { core = y; sent = []; notices = []; closings = [] }) (fits-like x y refl refl refl refl refl f.requests f, none-sent) in
    let u : Ticking = fold (all_searched_on (due t.core)) t (filter (is_name_connected t.core) t.core.order) in
    let r = all-speak (due t.core) (filter (is_name_connected t.core) t.core.order) t (due-fit t.core h.0) h in
    (record { user = r.0.user; host = r.0.host; channels = r.0.channels; requests = r.0.requests; subscriptions = r.0.subscriptions; circuits = r.0.circuits; searches = all-fit (search.passed u.core.moment) u.core.searches (λ c. refl) r.0.searches }, r.1)
