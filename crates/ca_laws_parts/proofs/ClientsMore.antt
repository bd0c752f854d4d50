-- Datagrams, moments and new circuits keep what holds of all clients.
use Rattle.std.proofs.Common.{◌≡◌, ℕ, inl, inr, ◌⊎◌, Bool, true, false, ◌&&◌, cond, eqb, List, [], ◌∷◌, ◌++◌, length, Option, Some, None, refl, sym, ap, ◌∙◌, subst}
use Rattle.std.specs.Prelude.{filter, find, fold, is_none, map, option_and_then, option_map, slice_set, unwrap_or}
use Rattle.std.specs.List.{FoldsTo}
use Rattle.std.proofs.lemmas.Bool.{and_from, both_ways, eq-eqb}
use Rattle.ca_text.specs.Place.{At}
use Rattle.ca_text.proofs.Places.{At-append, At-last, At-mapped, At-set, At-snoc, some_is}
use Rattle.ca_arena.specs.declared.handle.Handle.{Handle}
use Rattle.ca_ids.specs.Table.{same_handle, under}
use Rattle.ca_link.specs.declared.keep.Keep.{Keep}
use Rattle.ca_link.specs.declared.keep.Keep.TheVariants.{Close, Echo, Idle}
use Rattle.ca_link.specs.Link.{kept}
use Rattle.ca_search.specs.Searches as search
use Rattle.ca_text.specs.declared.command.Command.TheVariants as command
use Rattle.ca_wire.specs.Messages.{header_only, search_request}
use Rattle.ca_model.specs.Answers.{Closing, Left, Sending}
use Rattle.ca_model.specs.Answers as answer
use Rattle.ca_model.specs.Client.{Client, ClientCircuit, Connection, connection_at, ended, later, on_connection, out_bytes, sending}
use Rattle.ca_model.specs.ClientCalls.{WantedCircuit, is_over, wanted, wanted_as}
use Rattle.ca_model.specs.ClientEnds.{ConnectsOn, Ticking, all_searched_on, begun, circuits_ticked, creations, due, echoes, falls_silent, is_name_connected, of_circuit, searches_made, searches_on, set_up, ticks, ticks_as, unconnected, with_sending}
use Rattle.ca_model.specs.ClientEnds as ends
use Rattle.ca_model.specs.Ends.{Address}
use Rattle.ca_model.specs.History as history
use Rattle.ca_model.specs.ClientEvents.{HappensAccept, HappensClientDatagram, Outcomes, TicksOne, WantsFirst, after_tick, client_after, client_closed, connected_as, left_silent, lines_of, new_circuit, closing_notices}
use Rattle.ca_model.specs.World.{ClientSide, Joined, Names, ServerSide, World}
use Rattle.ca_model.proofs.Standings.{at-filter-map}
use Rattle.ca_model.proofs.Handles.{same-is, same-itself}
use Rattle.ca_model.proofs.Tables.{at-find, changed-own}
use Rattle.ca_laws_parts.specs.Circuit.{sent_to}
use Rattle.ca_laws_parts.specs.Client.{IsSound}
use Rattle.ca_model.specs.Placed.{IsPlaced}
use Rattle.ca_laws_parts.specs.Clients.{ClientsStand}
use Rattle.ca_model.proofs.Changes.{keeps-searches}
use Rattle.ca_model.proofs.Hearing.{keeps-begun}
use Rattle.ca_model.proofs.Letting.{KeepsBut, ends-ended}
use Rattle.ca_laws_parts.proofs.Named.{named-thins}
use Rattle.ca_model.proofs.Thinner.{Thins, thins-then}
use Rattle.ca_model.proofs.Placed.{Keeps, keeps-itself, keeps-on, keeps-sending, keeps-then}
use Rattle.ca_laws_parts.proofs.Stands.{IsEndOf, end-closed, end-itself, fewer-map, fewer-then, sound-but, stands-kept, stands-moved}
use Rattle.ca_model.proofs.Hearing.{keeps-moment, all-received}

-- ---- datagrams

pub stands-datagram : (w new : World) (i : ℕ) (x : ClientSide) (from : Address) (bytes : List ℕ) → At w.clients i x → ClientsStand w → HappensClientDatagram w i x from bytes new → ClientsStand new
stands-datagram w new i x from bytes at s happens =
    let now : Client = record x.core { moment = later w.moment x.core } in
    subst (λ (v : World). ClientsStand v) (sym happens.3)
    (stands-kept w i x (record { core = happens.1; names = x.names; lines = []; sent = happens.0 }) at refl
    (keeps-then x.core now happens.1 (keeps-moment (later w.moment x.core) x.core) (all-received from happens.2.0 now (record { core = happens.1; sent = happens.0; notices = [] }) happens.2.2)) s)

-- ---- a new circuit

-- what is wanted is there, and not connected
pub wanted-there : (x : Client) (i : ℕ) (v : WantedCircuit) → At (wanted x) i v → (d : ClientCircuit) × (under x.circuits v.circuit ≡ Some d) × (d.connection ≡ None)
wanted-there x i v at =
    let r = at-filter-map (λ (c : Handle). option_and_then (wanted_as c) (under x.circuits c)) x.order i v at in
    go r.1 (under x.circuits r.1) refl r.3
  where
    pick : (c : Handle) (d : ClientCircuit) (o : Option Connection) → d.connection ≡ o → cond (is_none o) (Some (record { circuit = c; address = d.address; priority = d.priority })) None ≡ Some v → (v.circuit ≡ c) × (d.connection ≡ None)
    pick c d None is e = (ap (λ (z : WantedCircuit). z.circuit) (sym (some_is (record { circuit = c; address = d.address; priority = d.priority }) v e)), is)
    pick c d (Some w) is e = absurd cc

    go : (c : Handle) (o : Option ClientCircuit) → under x.circuits c ≡ o → option_and_then (wanted_as c) o ≡ Some v → (d : ClientCircuit) × (under x.circuits v.circuit ≡ Some d) × (d.connection ≡ None)
    go c None there e = absurd cc
    go c (Some d) there e =
        let r = pick c d d.connection refl e in
        (d, subst (λ (k : Handle). under x.circuits k ≡ Some d) (sym r.0) there, r.1)

abbrev connection-of : Option ClientCircuit → Option Connection
connection-of o = option_and_then (λ (d : ClientCircuit). d.connection) o

-- What the client makes of it: it is connected there, or its end there has ended.
connects : (x y : Client) (c : Handle) (d : ClientCircuit) (k : Option Closing) (sent : List Sending) → under x.circuits c ≡ Some d → d.connection ≡ None → ConnectsOn x c (Some d) k sent y
    → KeepsBut c x y × (k ≡ None → is_none (connection_at y c) ≡ false)
connects x y c d None sent there none does =
    subst (λ (z : Client). KeepsBut c x z × (let a : Option Closing = None in a ≡ None → is_none (connection_at z c) ≡ false)) (sym does.1)
    (and-sending (set_up x.peer c d ++ creations c x) (begun c x) (keeps-begun c d x there none) (begun-connected))
  where
    begun-connected : is_none (connection_at (begun c x) c) ≡ false
    begun-connected = ap (λ (o : Option ClientCircuit). is_none (connection-of o)) (changed-own (λ (v : ClientCircuit). record v { connection = Some (ends.new_connection x.moment) }) x.circuits c d there)

    and-sending : (sends : List Sending) (z : Client) → KeepsBut c x z → is_none (connection_at z c) ≡ false → KeepsBut c x (sending sends z) × (let a : Option Closing = None in a ≡ None → is_none (connection_at (sending sends z) c) ≡ false)
    and-sending sends z but now =
        let keeps = keeps-sending sends z in (
          record { thins = thins-then x z (sending sends z) but.thins keeps.thins; placed = λ p. keeps.placed (but.placed p); links = λ e other. keeps.links e ∙ but.links e other },
          (λ e. keeps.links c ∙ now),
        )
connects x y c d (Some k) sent there none does = (subst (λ (z : Client). KeepsBut c x z) (sym does.2) (ends-ended c x), (λ e. absurd (not_none e)))
  where
    not_none : let a : Option Closing = Some k in a ≡ None → ⊥
    not_none e = cc

pub unconnected-is : (x : Client) (c : Handle) (d : ClientCircuit) → under x.circuits c ≡ Some d → d.connection ≡ None → unconnected x c ≡ Some d
unconnected-is x c d there none =
    ap (λ (o : Option ClientCircuit). option_and_then (λ (e : ClientCircuit). cond (is_none e.connection) (Some e) None) o) there
    ∙ ap (λ (o : Option Connection). cond (is_none o) (Some d) None) none

-- one circuit more, whose end at client i is open there or has ended at once
stands-joined : (w : World) (i : ℕ) (x : ClientSide) (o : Outcomes) (n : Joined) (servers : List ServerSide) → At w.clients i x → n.client ≡ i → o.names ≡ x.names → is_none (connection_at x.core n.at_client) ≡ true → KeepsBut n.at_client x.core o.core
    → (n.lists.client_open ≡ true → is_none (connection_at o.core n.at_client) ≡ false) → ClientsStand w → ClientsStand (client_after i x x.names o (record w { servers = servers; circuits = w.circuits ++ n ∷ [] }))
stands-joined w i x o n servers at mine same none keeps now s = record {
  sound = λ l y there. elim (At-set w.clients i z l y there) [
    | inl here ↦ subst (λ (v : ClientSide). IsSound v.names v.core) (sym here.1) (subst (λ (m : Names). IsSound m o.core) (sym same) (sound-but n.at_client x.names x.core o.core keeps (s.sound i x at)))
    | inr old ↦ s.sound l y old.0
  ];
  connected = λ k j y stands there open_it. elim (which k j stands) [
    | inl was ↦
        let before : (v : ClientSide) → At w.clients j.client v → is_none (connection_at v.core j.at_client) ≡ false = λ v client.
        subst (λ (h : Handle). is_none (connection_at v.core h) ≡ false) (sym was.2.handle) (s.connected k was.0 v was.1 (subst (λ (c : ℕ). At w.clients c v) was.2.client client) (was.2.opens open_it)) in
        elim (At-set w.clients i z j.client y there) [
          | inl here ↦
              let old : is_none (connection_at x.core j.at_client) ≡ false = before x (subst (λ (c : ℕ). At w.clients c x) (sym here.0) at) in
              subst (λ (v : ClientSide). is_none (connection_at v.core j.at_client) ≡ false) (sym here.1)
              (keeps.links j.at_client (λ e. both_ways (is_none (connection_at x.core j.at_client)) old (subst (λ (h : Handle). is_none (connection_at x.core h) ≡ true) (sym e) none)) ∙ old)
          | inr old ↦ before y old.0
        ]
    | inr last ↦ elim (At-set w.clients i z j.client y there) [
      | inl here ↦
          subst (λ (v : ClientSide). is_none (connection_at v.core j.at_client) ≡ false) (sym here.1)
          (subst (λ (h : Handle). is_none (connection_at o.core h) ≡ false) (sym last.1.handle) (now (last.1.opens open_it)))
      | inr old ↦ absurd (old.1 (last.1.client ∙ mine))
    ]
  ];
  handles = λ k l a b stands there both open_a open_b alike. elim (which k a stands) [
    | inl p ↦ elim (which l b there) [
      | inl q ↦
          s.handles k l p.0 q.0 p.1 q.1 (sym p.2.client ∙ both ∙ q.2.client) (p.2.opens open_a) (q.2.opens open_b)
          (subst (λ (h : Handle × Handle). same_handle h.0 h.1 ≡ true) (λ e. (p.2.handle e, q.2.handle e)) alike)
      | inr q ↦ absurd (apart k p.0 p.1 (sym p.2.client ∙ both ∙ q.1.client ∙ mine) (p.2.opens open_a) (sym p.2.handle ∙ same-is a.at_client b.at_client alike ∙ q.1.handle))
    ]
    | inr p ↦ elim (which l b there) [
      | inl q ↦ absurd (apart l q.0 q.1 (sym q.2.client ∙ sym both ∙ p.1.client ∙ mine) (q.2.opens open_b) (sym q.2.handle ∙ sym (same-is a.at_client b.at_client alike) ∙ p.1.handle))
      | inr q ↦ p.0 ∙ sym q.0
    ]
  ];
}
  where
    z : ClientSide
    z = record x { core = o.core; names = o.names }

    f : Joined → Joined
    f = sent_to i x.names o.sent

    sends : (a : Joined) → IsEndOf a (f a)
    sends a = record { client = refl; handle = refl; opens = λ open_it. open_it }

    which : (k : ℕ) (j : Joined) → At (map (sent_to i x.names o.sent) (w.circuits ++ n ∷ [])) k j → ((a : Joined) × At w.circuits k a × IsEndOf a j) ⊎ ((k ≡ length w.circuits) × IsEndOf n j)
    which k j stands =
        let m = At-mapped (sent_to i x.names o.sent) (w.circuits ++ n ∷ []) k j stands in
        elim (At-snoc w.circuits n k m.0 m.1) [
          | inl old ↦ inl (m.0, old, subst (λ (b : Joined). IsEndOf m.0 b) (sym m.2) (sends m.0))
          | inr last ↦ inr (last.0, subst (λ (b : Joined). IsEndOf n b) (sym m.2) (subst (λ (b : Joined). IsEndOf b (f m.0)) last.1 (sends m.0)))
        ]

    -- no open end has its handle
    apart : (k : ℕ) (a : Joined) → At w.circuits k a → a.client ≡ i → a.lists.client_open ≡ true → a.at_client ≡ n.at_client → ⊥
    apart k a stands ours open_it is =
        both_ways (is_none (connection_at x.core a.at_client)) (s.connected k a x stands (subst (λ (c : ℕ). At w.clients c x) (sym ours) at) open_it)
        (subst (λ (h : Handle). is_none (connection_at x.core h) ≡ true) (sym is) none)

same-end : (k : Option Closing) (n : Joined) → (connected_as k n).client ≡ n.client
same-end None n = refl
same-end (Some e) n = refl

same-there : (k : Option Closing) (n : Joined) → (connected_as k n).at_client ≡ n.at_client
same-there None n = refl
same-there (Some e) n = refl

shut-or : (k : Option Closing) (n : Joined) → (connected_as k n).lists.client_open ≡ true → k ≡ None
shut-or None n is = refl
shut-or (Some e) n is = absurd (both_ways false refl is)

pub stands-accept : (w new : World) (c : ℕ) (x : ClientSide) (v : WantsFirst w x) → At w.clients c x → ClientsStand w → HappensAccept w c x v new → ClientsStand new
stands-accept w new c x v at s happens = elim happens.leaves [
  | inl refusal ↦ subst (λ (u : World). ClientsStand u) (sym refusal.1) s
  | inr did ↦
      let k : Option Closing = did.1 in
      let core : Client = did.3 in
      let on : Handle = v.v.circuit in
      let there = wanted-there x.core v.place v.v v.at in
      let r = connects x.core core on there.0 k did.2 there.1 there.2 (subst (λ (o : Option ClientCircuit). ConnectsOn x.core on o k did.2 core) (unconnected-is x.core on there.0 there.1 there.2) did.5) in
      let n : Joined = connected_as k (new_circuit c x on v.i v.y did.0) in
      let o : Outcomes = record { core = core; names = x.names; lines = lines_of history.OfCircuit x.names (closing_notices k); sent = did.2 } in
      let handle : n.at_client ≡ on = same-there k (new_circuit c x on v.i v.y did.0) in
      let none : is_none (connection_at x.core on) ≡ true = ap (λ (w : Option ClientCircuit). is_none (connection-of w)) there.1 ∙ ap is_none there.2 in
      subst (λ (u : World). ClientsStand u) (sym did.6)
      (stands-joined w c x o n (slice_set w.servers v.i (record v.y { core = happens.server })) at (same-end k (new_circuit c x on v.i v.y did.0)) refl
      (subst (λ (h : Handle). is_none (connection_at x.core h) ≡ true) (sym handle) none) (subst (λ (h : Handle). KeepsBut h x.core core) (sym handle) r.0)
      (λ open_it. subst (λ (h : Handle). is_none (connection_at core h) ≡ false) (sym handle) (r.1 (shut-or k (new_circuit c x on v.i v.y did.0) open_it))) s)
]

-- ---- a moment

-- What a tick did so far: circuits that it did not close are connected as they were.
record Ticked (x : Client) (t : Ticking) : Type 0 where
  thins : Thins x t.core
  placed : IsPlaced x → IsPlaced t.core
  links : (c : Handle) → ((l : ℕ) (e : Left) → At t.closings l e → e.circuit ≡ c → ⊥) → is_none (connection_at t.core c) ≡ is_none (connection_at x c)

ticked-kept : (x : Client) (t u : Ticking) → Keeps t.core u.core → u.closings ≡ t.closings → Ticked x t → Ticked x u
ticked-kept x t u keeps same d = record {
  thins = thins-then x t.core u.core d.thins keeps.thins;
  placed = λ p. keeps.placed (d.placed p);
  links = λ c away. keeps.links c ∙ d.links c (λ l e at is. away l e (subst (λ (es : List Left). At es l e) (sym same) at) is);
}

ticked-silent : (x : Client) (t : Ticking) (c : Handle) → Ticked x t → Ticked x (falls_silent c t)
ticked-silent x t c d =
    let but = ends-ended c t.core in
    let new : Left = record { circuit = c; bytes = out_bytes t.core c } in
    record {
      thins = thins-then x t.core (ended c t.core) d.thins but.thins;
      placed = λ p. but.placed (d.placed p);
      links = λ e away.
          but.links e (λ same. away (length t.closings) new (At-last t.closings new) (sym same)) ∙ d.links e (λ l f at is. away l f (At-append t.closings (new ∷ []) l f at) is);
    }

ticks-one : (x : Client) (t : Ticking) (c : Handle) → Ticked x t → Ticked x (ticks t c)
ticks-one x t c d = go (connection_at t.core c)
  where
    by : (k : Keep) → Ticked x (ticks_as k c t)
    by Idle = d
    by Close = ticked-silent x t c d
    by Echo =
        let noted : Client = on_connection (λ (e : Connection). record e { link = record e.link { echoed = true } }) c t.core in
        ticked-kept x t (echoes c t) (keeps-then t.core noted _ (keeps-on _ c t.core) (keeps-sending (of_circuit c (header_only command.Echo) ∷ []) noted)) refl d

    go : (o : Option Connection) → Ticked x (unwrap_or (option_map (λ (e : Connection). ticks_as (kept t.core.moment e.link) c t) o) t)
    go None = d
    go (Some e) = by (kept t.core.moment e.link)

ticks-all : (x : Client) (order : List Handle) (t : Ticking) → Ticked x t → Ticked x (fold ticks t order)
ticks-all x [] t d = d
ticks-all x (c ∷ order) t d = ticks-all x order (ticks t c) (ticks-one x t c d)

ticked-so : (now : ℕ) (x : Client) → Ticked x (circuits_ticked now x)
ticked-so now x =
    let y : Client = record x { moment = later now x } in
    ticks-all x x.order (record { core = y; sent = []; notices = []; closings = [] }) (record {
      thins = (keeps-moment (later now x) x).thins;
      placed = (keeps-moment (later now x) x).placed;
      links = λ c away. refl;
    })

-- searches go out
searched-on : (c : Handle) (t : Ticking) (w : search.Wanted) → Keeps t.core (searches_on c t w).core
searched-on c t w = go (is_over t.core c)
  where
    go : (b : Bool) → Keeps t.core (cond b t (with_sending (of_circuit c (search_request w.cid w.name)) t)).core
    go true = keeps-itself t.core
    go false = keeps-sending (of_circuit c (search_request w.cid w.name) ∷ []) t.core

all-searched : (c : Handle) (ws : List search.Wanted) (t : Ticking) → Keeps t.core (fold (searches_on c) t ws).core
all-searched c [] t = keeps-itself t.core
all-searched c (w ∷ ws) t = keeps-then t.core (searches_on c t w).core _ (searched-on c t w) (all-searched c ws (searches_on c t w))

searched-all : (ws : List search.Wanted) (cs : List Handle) (t : Ticking) → Keeps t.core (fold (all_searched_on ws) t cs).core
searched-all ws [] t = keeps-itself t.core
searched-all ws (c ∷ cs) t = keeps-then t.core (all_searched_on ws t c).core _ (all-searched c ws t) (searched-all ws cs (all_searched_on ws t c))

made-keeps : (t : Ticking) → Keeps t.core (searches_made t).core
made-keeps t =
    let u : Ticking = fold (all_searched_on (due t.core)) t (filter (is_name_connected t.core) t.core.order) in
    keeps-then t.core u.core (searches_made t).core (searched-all (due t.core) (filter (is_name_connected t.core) t.core.order) t) (keeps-searches u.core _)

module _ (i : ℕ) (closings : List Left) where
  closes : (b : Bool) (o : Option (List ℕ)) (a : Joined) → IsEndOf a (cond b (unwrap_or (option_map (λ (left : List ℕ). client_closed left a) o) a) a)
  closes true (Some left) a = end-closed left a
  closes true None a = end-itself a
  closes false o a = end-itself a

  tick-ends : (a : Joined) → IsEndOf a (after_tick i closings a)
  tick-ends a = closes (eqb a.client i && a.lists.client_open) (left_silent closings a) a

  -- an end that is open after it is none of those that fell silent
  still-open : (a : Joined) (l : ℕ) (e : Left) → At closings l e → e.circuit ≡ a.at_client → a.client ≡ i → a.lists.client_open ≡ true → (after_tick i closings a).lists.client_open ≡ true → ⊥
  still-open a l e at is mine open_it now =
      let f = at-find (λ (z : Left). same_handle z.circuit a.at_client) closings l e at (subst (λ (h : Handle). same_handle h a.at_client ≡ true) (sym is) (same-itself a.at_client)) in
      go (eqb a.client i && a.lists.client_open) (and_from (eqb a.client i) a.lists.client_open (eq-eqb a.client i mine) open_it) (find (λ (z : Left). same_handle z.circuit a.at_client) closings) f.0 f.1 now
    where
      go : (b : Bool) → b ≡ true → (o : Option Left) (y : Left) → o ≡ Some y
          → (cond b (unwrap_or (option_map (λ (left : List ℕ). client_closed left a) (option_map (λ (z : Left). z.bytes) o)) a) a).lists.client_open ≡ true → ⊥
      go true same (Some y) z found f = both_ways false refl f
      go true same None z found f = absurd cc
      go false same o z found f = both_ways false refl same

stands-ticked : (moment : ℕ) (w : World) (i : ℕ) (x : ClientSide) (sent : List Sending) (lines : List history.Line) → At w.clients i x → ClientsStand w
    → (let t : Ticking = circuits_ticked moment x.core in
    let after : World = client_after i x x.names (record { core = (searches_made t).core; names = x.names; lines = lines; sent = sent }) w in
    ClientsStand (record after { circuits = map (after_tick i t.closings) after.circuits }))
stands-ticked moment w i x sent lines at s =
    let t : Ticking = circuits_ticked moment x.core in
    let core : Client = (searches_made t).core in
    let o : Outcomes = record { core = core; names = x.names; lines = lines; sent = sent } in
    let after : World = client_after i x x.names o w in
    let d = ticked-so moment x.core in
    let made = made-keeps t in
    let was = s.sound i x at in
    stands-moved w (record after { circuits = map (after_tick i t.closings) after.circuits }) i x (record x { core = core; names = x.names }) at refl
    (fewer-then w.circuits after.circuits _ (fewer-map (sent_to i x.names sent) w.circuits (λ a. record { client = refl; handle = refl; opens = λ open_it. open_it })) (fewer-map (after_tick i t.closings) after.circuits (tick-ends i t.closings)))
    (record { named = named-thins x.names x.core core (thins-then x.core t.core core d.thins made.thins) was.named; placed = made.placed (d.placed was.placed) })
    (λ k j a stands before end mine open_it connected.
    let m = At-mapped (after_tick i t.closings) after.circuits k j stands in
    let e : IsEndOf m.0 j = subst (λ (z : Joined). IsEndOf m.0 z) (sym m.2) (tick-ends i t.closings m.0) in
    made.links j.at_client
    ∙ d.links j.at_client (λ l f there is.
    still-open i t.closings m.0 l f there (is ∙ e.handle) (sym e.client ∙ mine) (e.opens open_it) (ap (λ (z : Joined). z.lists.client_open) (sym m.2) ∙ open_it))
    ∙ connected) s

abbrev pub left-by : (moment : ℕ) → World → ℕ → ClientSide → List Sending → answer.Ticked → Client → World
left-by moment w i x sent t core =
    let o : Outcomes = record { core = core; names = x.names; lines = lines_of history.OfCircuit x.names t.notices; sent = sent } in
    let after : World = client_after i x x.names o w in
    record after { circuits = map (after_tick i t.closings) after.circuits }

ticks-one-stands : (moment : ℕ) (w : World) (i : ℕ) (new : World) → ClientsStand w → TicksOne moment w i new → ClientsStand new
ticks-one-stands moment w i new s happens =
    let x : ClientSide = happens.0 in
    let does = happens.5 in
    subst (λ (v : World). ClientsStand v) (sym happens.6)
    (subst (λ (z : answer.Ticked × Client). ClientsStand (left-by moment w i x happens.3 z.0 z.1)) (λ k. (sym does.0 k, sym does.2 k)) (stands-ticked moment w i x happens.3 _ happens.1 s))

pub stands-ticks : (moment : ℕ) (clients : List ℕ) (w new : World) → ClientsStand w → FoldsTo (TicksOne moment) w clients new → ClientsStand new
stands-ticks moment [] w new s folds = subst (λ (v : World). ClientsStand v) folds s
stands-ticks moment (i ∷ clients) w new s folds = stands-ticks moment clients folds.0 new (ticks-one-stands moment w i folds.0 s folds.1) folds.2
