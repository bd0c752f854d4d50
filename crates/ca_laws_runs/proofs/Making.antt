-- A circuit that is made, and a moment, keep what clients have of their circuits.
use Rattle.std.proofs.Common.{◌≤◌, ◌≡◌, ℕ, zero, suc, ◌<◌, ◌⊎◌, inl, inr, Bool, true, false, ◌&&◌, cond, eqb, List, [], ◌∷◌, ◌++◌, length, Option, Some, None, refl, sym, ap, ◌∙◌, subst, arith}
use Rattle.std.specs.Prelude.{filter, find, fold, is_none, map, option_and_then, option_map, slice_set, unwrap_or}
use Rattle.std.specs.List.{FoldsTo}
use Rattle.std.proofs.lemmas.Bool.{and_from, both_ways, cases_Bool, eq-eqb}
use Rattle.std.proofs.lemmas.List.{append-nil}
use Rattle.ca_text.specs.declared.command.Command.TheVariants as command
use Rattle.ca_text.specs.Place.{At}
use Rattle.ca_text.proofs.Places.{At-append, At-last, At-mapped, At-one, At-parts, At-set, At-snoc, some_is}
use Rattle.ca_arena.specs.declared.handle.Handle.{Handle}
use Rattle.ca_ids.specs.Table.{held, same_handle, under}
use Rattle.ca_link.specs.declared.keep.Keep.{Keep}
use Rattle.ca_link.specs.declared.keep.Keep.TheVariants.{Close, Echo, Idle}
use Rattle.ca_link.specs.Link.{kept}
use Rattle.ca_search.specs.Searches as search
use Rattle.ca_wire.specs.Messages.{header_only, name_request, search_request, version_request}
use Rattle.ca_model.specs.Answers.{Closing, Left, Sending}
use Rattle.ca_model.specs.Answers as answer
use Rattle.ca_model.specs.Client.{Channel, Client, ClientCircuit, Connection, Live, connection_at, ended, is_on_in, later, on_connection, sending}
use Rattle.ca_model.specs.ClientCalls.{is_over}
use Rattle.ca_model.specs.ClientEnds.{ConnectsOn, Ticking, all_searched_on, begun, circuits_ticked, creations, due, is_connecting, is_name_connected, of_circuit, searches_made, searches_on, set_up, ticks, ticks_as, with_sending}
use Rattle.ca_model.specs.Hears.{create_sent}
use Rattle.ca_model.specs.History.{Ask, Create, Line, Sent, Step, Told}
use Rattle.ca_model.specs.History as history
use Rattle.ca_model.specs.Placed.{IsPlaced}
use Rattle.ca_model.proofs.Handles.{not-same}
use Rattle.ca_model.proofs.Standings.{at-filter-map}
use Rattle.ca_model.proofs.Thinner.{number-or}
use Rattle.ca_model.specs.ClientEvents.{HappensAccept, TicksOne, WantsFirst, after_tick, channel_number, client_after, client_closed, connected_as, left_silent, lines_of, new_circuit, sent_on, closing_notices}
use Rattle.ca_model.specs.World.{ClientSide, Joined, Names, ServerSide, World}
use Rattle.ca_laws_parts.proofs.Marks.{at-filter}
use Rattle.ca_laws_parts.specs.Kept as keeps
use Rattle.ca_laws_parts.specs.Circuit.{HeldOn, sent_to, stamped}
use Rattle.ca_laws_parts.specs.Clients.{ClientsStand}
use Rattle.ca_laws_parts.proofs.ClientsMore.{unconnected-is, wanted-there}
use Rattle.ca_laws_runs.specs.Held.{AllCircuitsHeld}
use Rattle.ca_laws_parts.proofs.WritesLists.{none_at}
use Rattle.ca_laws_runs.proofs.HeardEnds.{sent-closed, sent-mine, sent-other}
use Rattle.ca_laws_runs.proofs.Says.{said}
use Rattle.ca_laws_runs.specs.Sides.{AllSided, IsLiveAs, Right, Sides}
use Rattle.ca_laws_runs.proofs.Calls.{nothing-there, serving, way-elsewhere}
use Rattle.ca_laws_runs.proofs.Ends.{AllAfter, IsEndAfter, right-served, same-right, same-sides, sided-ways, turn-held}
use Rattle.ca_laws_runs.proofs.Live.{SameLive, channels-sending, live-as, live-itself, live-then, same-begun, same-ended}
use Rattle.ca_laws_runs.proofs.Ways.{by-way}

-- ---- a circuit is made

-- What was sent serves the circuit of this handle or creates channels there; on others the same
-- channels are live; and none is live on it.
pub record IsMade (n : Names) (x : Client) (on : Handle) (k : Option Closing) (sent : List Sending) (core : Client) : Type 0 where
  pub on_it : (l : ℕ) (s : Sending) → At sent l s → s.circuit ≡ on
  pub opens : (l : ℕ) (s : Sending) → At sent l s → ((stamped n s).intent ≡ history.OfCircuit) ⊎ ((a : ℕ) × ((stamped n s).intent ≡ history.On a Create))
  pub same : (c : Handle) → (on ≡ c → ⊥) → SameLive c x.channels core.channels
  pub none : k ≡ None → (h : Handle) (sid : ℕ) → IsLiveAs core.channels on h sid → ⊥

module _ (n : Names) (x : Client) (c : Handle) (d : ClientCircuit) (placed : IsPlaced x) (there : under x.circuits c ≡ Some d) (idle : d.connection ≡ None) where
  abbrev sends : List Sending
  sends = set_up x.peer c d ++ creations c x

  abbrev made-of : Handle × Channel → Option Sending
  made-of e = cond (is_on_in is_connecting c e.1) (Some (create_sent c e.0 e.1)) None

  each : (i : ℕ) (s : Sending) → At sends i s → (s.circuit ≡ c) × (((stamped n s).intent ≡ history.OfCircuit) ⊎ ((a : ℕ) × ((stamped n s).intent ≡ history.On a Create)))
  each i s at = elim (At-parts (set_up x.peer c d) (creations c x) i s at) [
    | inl first ↦
        let m = At-mapped (of_circuit c) (version_request d.priority ∷ name_request command.ClientName x.peer.user ∷ name_request command.HostName x.peer.host ∷ []) i s first in
        (ap (λ (w : Sending). w.circuit) m.2, inl (ap (λ (w : Sending). (stamped n w).intent) m.2))
    | inr last ↦
        let m = at-filter-map made-of (held x.channels) last.0 s last.2 in
        go m.1 (is_on_in is_connecting c m.1.1) m.3
  ]
    where
      go : (e : Handle × Channel) (b : Bool) → cond b (Some (create_sent c e.0 e.1)) None ≡ Some s → (s.circuit ≡ c) × (((stamped n s).intent ≡ history.OfCircuit) ⊎ ((a : ℕ) × ((stamped n s).intent ≡ history.On a Create)))
      go e true is =
          let r = some_is (create_sent c e.0 e.1) s is in
          (ap (λ (w : Sending). w.circuit) (sym r), inr (channel_number n e.0, ap (λ (w : Sending). (stamped n w).intent) (sym r)))
      go e false is = absurd cc

  not-live : (h : Handle) (sid : ℕ) → IsLiveAs x.channels c h sid → ⊥
  not-live h sid l =
      both_ways false refl
      (placed.waiting h l.ch c (Live l.native l.rights) l.there l.stands
      ∙ ap (λ (o : Option ClientCircuit). is_none (option_and_then (λ (v : ClientCircuit). v.connection) o)) there ∙ ap is_none idle)

  made-so : (k : Option Closing) (sent : List Sending) (core : Client) → ConnectsOn x c (Some d) k sent core → IsMade n x c k sent core
  made-so None sent core does = subst (λ (w : List Sending × Client). IsMade n x c None w.0 w.1) (λ i. (sym does.0 i, sym does.1 i)) (record {
    on_it = λ l s at. (each l s at).0;
    opens = λ l s at. (each l s at).1;
    same = λ on away. same-on on;
    none = λ e h sid l. not-live h sid ((same-on c h sid).1 l);
  })
    where
      same-on : (on : Handle) → SameLive on x.channels (sending sends (begun c x)).channels
      same-on on = live-then on x.channels (begun c x).channels (sending sends (begun c x)).channels (same-begun x.channels on c) (live-as on (begun c x).channels (sending sends (begun c x)).channels (channels-sending sends (begun c x)))
  made-so (Some k) sent core does = subst (λ (w : List Sending × Client). IsMade n x c (Some k) w.0 w.1) (λ i. (sym does.1 i, sym does.2 i)) (record {
    on_it = λ l s at. absurd (none_at l s at);
    opens = λ l s at. absurd (none_at l s at);
    same = λ on away. same-ended on c x away;
    none = λ e. absurd (not-none e);
  })
    where
      not-none : let a : Option Closing = Some k in a ≡ None → ⊥
      not-none e = cc

-- what goes on a circuit was sent
sent-at : (i : ℕ) (n : Names) (sent : List Sending) (a : Joined) (l : ℕ) (r : Sent) → At (sent_on i n sent a) l r → (q : ℕ) × (s : Sending) × At sent q s × (r ≡ stamped n s)
sent-at i n sent a l r at = go (eqb a.client i && a.lists.client_open) at
  where
    go : (b : Bool) → At (cond b (map (stamped n) (filter (λ (s : Sending). same_handle s.circuit a.at_client) sent)) []) l r → (q : ℕ) × (s : Sending) × At sent q s × (r ≡ stamped n s)
    go true there =
        let m = At-mapped (stamped n) (filter (λ (s : Sending). same_handle s.circuit a.at_client) sent) l r there in
        let f = at-filter (λ (s : Sending). same_handle s.circuit a.at_client) sent l m.0 m.1 in
        (f.0, m.0, f.1, m.2)
    go false there = absurd (none_at l r there)

begins : (k : Option Closing) (n : Joined) → ((connected_as k n).client ≡ n.client) × ((connected_as k n).at_client ≡ n.at_client) × ((connected_as k n).lists.up ≡ n.lists.up) × ((connected_as k n).lists.down ≡ n.lists.down) × ((connected_as k n).lists.heard ≡ n.lists.heard)
begins None n = (refl, refl, refl, refl, refl)
begins (Some e) n = (refl, refl, refl, refl, refl)

open-or : (k : Option Closing) (n : Joined) → (connected_as k n).lists.client_open ≡ true → k ≡ None
open-or None n is = refl
open-or (Some e) n is = absurd (both_ways false refl is)

not-asked : (a : ℕ) (ask : Ask) → history.OfCircuit ≡ history.On a ask → ⊥
not-asked a ask e = cc

same-ask : (a b : ℕ) (p q : Ask) → history.On a p ≡ history.On b q → p ≡ q
same-ask a b p q e = cc

module _ (w : World) (i : ℕ) (x : ClientSide) (core : Client) (sent : List Sending) (lines : List Line) (n : Joined) (servers : List ServerSide) (k : Option Closing) (at : At w.clients i x) (mine : n.client ≡ i) (up : n.lists.up ≡ []) (down : n.lists.down ≡ []) (heard : n.lists.heard ≡ [])
    (idle : is_none (connection_at x.core n.at_client) ≡ true) (stands : ClientsStand w) (made : IsMade x.names x.core n.at_client k sent core) (opens : n.lists.client_open ≡ true → k ≡ None) where
  abbrev z : ClientSide
  z = record x { core = core; names = x.names }

  abbrev joined : World
  joined = client_after i x x.names (record { core = core; names = x.names; lines = lines; sent = sent }) (record w { servers = servers; circuits = w.circuits ++ n ∷ [] })

  circuit-or : (l : ℕ) (j : Joined) → At joined.circuits l j → ((a : Joined) × At w.circuits l a × (j ≡ sent_to i x.names sent a)) ⊎ (j ≡ sent_to i x.names sent n)
  circuit-or l j at_j =
      let m = At-mapped (sent_to i x.names sent) (w.circuits ++ n ∷ []) l j at_j in
      elim (At-snoc w.circuits n l m.0 m.1) [
        | inl old ↦ inl (m.0, old, m.2)
        | inr last ↦ inr (m.2 ∙ ap (sent_to i x.names sent) last.1)
      ]

  away : (l : ℕ) (a : Joined) → At w.circuits l a → a.client ≡ i → a.lists.client_open ≡ true → n.at_client ≡ a.at_client → ⊥
  away l a at_a ours opened same =
      both_ways (is_none (connection_at x.core a.at_client)) (stands.connected l a x at_a (subst (λ (c : ℕ). At w.clients c x) (sym ours) at) opened) (subst (λ (h : Handle). is_none (connection_at x.core h) ≡ true) same idle)

  new-up : (j : Joined) → j ≡ sent_to i x.names sent n → j.lists.up ≡ sent_on i x.names sent n
  new-up j is = ap (λ (v : Joined). v.lists.up) is ∙ ap (λ (l : List Sent). l ++ sent_on i x.names sent n) up

  new-sides : (j : Joined) → j ≡ sent_to i x.names sent n → j.lists.client_open ≡ true → Sides x.names core j.at_client j.lists
  new-sides j is open_it = record {
    lives = λ h sid l. absurd (made.none (opens (ap (λ (v : Joined). v.lists.client_open) (sym is) ∙ open_it)) h sid (subst (λ (v : Handle). IsLiveAs core.channels v h sid) (ap (λ (v : Joined). v.at_client) is) l));
    answered = λ p sid a t r lt. absurd (let e : length j.lists.heard ≡ 0 = ap (λ (v : Joined). length v.lists.heard) is ∙ ap (λ (v : List Step). length v) heard in omega (arith, e, lt));
  }

  new-right : (j : Joined) → j ≡ sent_to i x.names sent n → ((p q a : ℕ) (r s : Sent) → p < q → At j.lists.up p r → At j.lists.up q s → r.intent ≡ history.On a Create → s.intent ≡ history.On a Create → p < length j.lists.handled) → Right j.lists
  new-right j is turn = record {
    under = λ p a s ask at_s means other.
        let f = sent-at i x.names sent n p s (subst (λ (l : List Sent). At l p s) (new-up j is) at_s) in
        elim (made.opens f.0 f.1 f.2) [
          | inl serves ↦ absurd (not-asked a ask (sym serves ∙ ap (λ (v : Sent). v.intent) (sym f.3) ∙ means))
          | inr creates ↦ absurd (other (same-ask a creates.0 ask Create (sym means ∙ ap (λ (v : Sent). v.intent) f.3 ∙ creates.1)))
        ];
    read = λ p a s ask at_s means other.
        let f = sent-at i x.names sent n p s (subst (λ (l : List Sent). At l p s) (new-up j is) at_s) in
        elim (made.opens f.0 f.1 f.2) [
          | inl serves ↦ absurd (not-asked a ask (sym serves ∙ ap (λ (v : Sent). v.intent) (sym f.3) ∙ means))
          | inr creates ↦ absurd (other (same-ask a creates.0 ask Create (sym means ∙ ap (λ (v : Sent). v.intent) f.3 ∙ creates.1)))
        ];
    between = λ p q a l sid r s t lt at_r at_s is_r is_s told. absurd (none_at l t (subst (λ (v : List Told). At v l t) (ap (λ (v : Joined). v.lists.down) is ∙ down) told));
    turn = turn;
  }

  pub sided-joined : AllCircuitsHeld joined → AllSided w → AllSided joined
  sided-joined all s = record {
    sides = λ l j y at_j there open_it. elim (At-set w.clients i z j.client y there) [
      | inl here ↦ subst (λ (v : ClientSide). Sides v.names v.core j.at_client j.lists) (sym here.1) (ours l j at_j here.0 open_it)
      | inr old ↦ elim (circuit-or l j at_j) [
        | inr last ↦ absurd (old.1 (ap (λ (v : Joined). v.client) last ∙ mine))
        | inl was ↦
            let other : was.0.client ≡ i → ⊥ = λ e. old.1 (ap (λ (v : Joined). v.client) was.2 ∙ e) in
            let client_at : At w.clients was.0.client y = subst (λ (v : ℕ). At w.clients v y) (ap (λ (v : Joined). v.client) was.2) old.0 in
            let same_up : j.lists.up ≡ was.0.lists.up = ap (λ (v : Joined). v.lists.up) was.2 ∙ ap (λ (v : List Sent). was.0.lists.up ++ v) (sent-other i x.names sent was.0 other) ∙ append-nil was.0.lists.up in
            subst (λ (v : Handle). Sides y.names y.core v j.lists) (sym (ap (λ (v : Joined). v.at_client) was.2))
            (same-sides was.0.lists j.lists same_up (ap (λ (v : Joined). v.lists.down) was.2) (ap (λ (v : Joined). length v.lists.heard) was.2) (ap (λ (v : Joined). length v.lists.handled) was.2) y.names y.core was.0.at_client
            (s.sides l was.0 y was.1 client_at (ap (λ (v : Joined). v.lists.client_open) (sym was.2) ∙ open_it)) (s.right l was.0 was.1))
      ]
    ];
    right = λ l j at_j. elim (circuit-or l j at_j) [
      | inl was ↦ old-right l j was.0 was.1 was.2
      | inr last ↦ elim (cases_Bool j.lists.client_open) [
        | inl open_it ↦
            let o = all l j at_j in
            let one : o.0 ≡ j = At-one joined.circuits l o.0 j o.2 at_j in
            new-right j last (turn-held (keeps.kept joined l) o.1.names o.1.core j (subst (λ (v : Joined). HeldOn (keeps.kept joined l) o.1.names o.1.core v) one o.4) open_it)
        | inr shut ↦
            let none : j.lists.up ≡ [] = new-up j last ∙ sent-closed i x.names sent n (ap (λ (v : Joined). v.lists.client_open) (sym last) ∙ shut) in
            new-right j last (λ p q a r v lt at_r. absurd (none_at p r (subst (λ (u : List Sent). At u p r) none at_r)))
      ]
    ];
  }
    where
      ours : (l : ℕ) (j : Joined) → At joined.circuits l j → j.client ≡ i → j.lists.client_open ≡ true → Sides x.names core j.at_client j.lists
      ours l j at_j here open_it = elim (circuit-or l j at_j) [
        | inr last ↦ new-sides j last open_it
        | inl was ↦
            let a : Joined = was.0 in
            let mine_too : a.client ≡ i = ap (λ (v : Joined). v.client) (sym was.2) ∙ here in
            let opened : a.lists.client_open ≡ true = ap (λ (v : Joined). v.lists.client_open) (sym was.2) ∙ open_it in
            let other = away l a was.1 mine_too opened in
            let more : j.lists.up ≡ a.lists.up ++ said x.names a.at_client sent = ap (λ (v : Joined). v.lists.up) was.2 ∙ ap (λ (v : List Sent). a.lists.up ++ v) (sent-mine i x.names sent a mine_too opened) in
            let r = by-way a.lists j.lists (said x.names a.at_client sent) more (ap (λ (v : Joined). v.lists.down) was.2) (ap (λ (v : Joined). length v.lists.heard) was.2) (ap (λ (v : Joined). length v.lists.handled) was.2) x.names x.names x.core core a.at_client
            (λ p m b in_it. absurd (nothing-there x.names n.at_client a.at_client sent other made.on_it p m in_it)) (λ h sid q. refl) (s.sides l a x was.1 (subst (λ (v : ℕ). At w.clients v x) (sym mine_too) at) opened) (s.right l a was.1)
            (way-elsewhere x.names x.core core n.at_client a.at_client sent other made.on_it (made.same a.at_client other)) in
            subst (λ (v : Handle). Sides x.names core v j.lists) (sym (ap (λ (v : Joined). v.at_client) was.2)) r.0
      ]

      still-heard : (a j : Joined) → length j.lists.heard ≡ length a.lists.heard → length a.lists.heard ≤ length j.lists.heard
      still-heard a j same = omega (arith, same)

      old-right : (l : ℕ) (j a : Joined) → At w.circuits l a → j ≡ sent_to i x.names sent a → Right j.lists
      old-right l j a at_a is = elim (number-or a.client i) [
        | inr other ↦ same-right a.lists j.lists (ap (λ (v : Joined). v.lists.up) is ∙ ap (λ (v : List Sent). a.lists.up ++ v) (sent-other i x.names sent a other) ∙ append-nil a.lists.up) (ap (λ (v : Joined). v.lists.down) is) (still-heard a j (ap (λ (v : Joined). length v.lists.heard) is)) (ap (λ (v : Joined). length v.lists.handled) is) (s.right l a at_a)
        | inl mine_too ↦ elim (cases_Bool a.lists.client_open) [
          | inr shut ↦ same-right a.lists j.lists (ap (λ (v : Joined). v.lists.up) is ∙ ap (λ (v : List Sent). a.lists.up ++ v) (sent-closed i x.names sent a shut) ∙ append-nil a.lists.up) (ap (λ (v : Joined). v.lists.down) is) (still-heard a j (ap (λ (v : Joined). length v.lists.heard) is)) (ap (λ (v : Joined). length v.lists.handled) is) (s.right l a at_a)
          | inl opened ↦
              right-served a.lists j.lists (said x.names a.at_client sent) (ap (λ (v : Joined). v.lists.up) is ∙ ap (λ (v : List Sent). a.lists.up ++ v) (sent-mine i x.names sent a mine_too opened)) (ap (λ (v : Joined). v.lists.down) is) (still-heard a j (ap (λ (v : Joined). length v.lists.heard) is)) (ap (λ (v : Joined). length v.lists.handled) is)
              (λ p m in_it. absurd (nothing-there x.names n.at_client a.at_client sent (away l a at_a mine_too opened) made.on_it p m in_it)) (s.right l a at_a)
        ]
      ]

abbrev connection-of : Option ClientCircuit → Option Connection
connection-of o = option_and_then (λ (d : ClientCircuit). d.connection) o

pub sided-accept : (w new : World) (c : ℕ) (x : ClientSide) (v : WantsFirst w x) → At w.clients c x → ClientsStand w → AllCircuitsHeld new → AllSided w → HappensAccept w c x v new → AllSided new
sided-accept w new c x v at stands all s happens = elim happens.leaves [
  | inl refusal ↦ subst (λ (u : World). AllSided u) (sym refusal.1) s
  | inr did ↦
      let k : Option Closing = did.1 in
      let core : Client = did.3 in
      let on : Handle = v.v.circuit in
      let there = wanted-there x.core v.place v.v v.at in
      let r = made-so x.names x.core on there.0 (stands.sound c x at).placed there.1 there.2 k did.2 core (subst (λ (o : Option ClientCircuit). ConnectsOn x.core on o k did.2 core) (unconnected-is x.core on there.0 there.1 there.2) did.5) in
      let first : Joined = new_circuit c x on v.i v.y did.0 in
      let n : Joined = connected_as k first in
      let b = begins k first in
      let none : is_none (connection_at x.core on) ≡ true = ap (λ (w : Option ClientCircuit). is_none (connection-of w)) there.1 ∙ ap is_none there.2 in
      subst (λ (u : World). AllSided u) (sym did.6)
      (sided-joined w c x core did.2 (lines_of history.OfCircuit x.names (closing_notices k)) n (slice_set w.servers v.i (record v.y { core = happens.server })) k at b.0 b.2 b.3 b.4
      (subst (λ (h : Handle). is_none (connection_at x.core h) ≡ true) (sym b.1) none) stands (subst (λ (h : Handle). IsMade x.names x.core h k did.2 core) (sym b.1) r) (λ o. open-or k first o) (subst (λ (u : World). AllCircuitsHeld u) did.6 all) s)
]

-- ---- a moment

-- What a tick sent so far serves circuits; and on a circuit that did not fall silent the
-- same channels are live.
pub record IsTicked (n : Names) (x : Client) (t : Ticking) : Type 0 where
  pub serves : (i : ℕ) (s : Sending) → At t.sent i s → (stamped n s).intent ≡ history.OfCircuit
  pub same : (on : Handle) → ((l : ℕ) (e : Left) → At t.closings l e → same_handle e.circuit on ≡ false) → SameLive on x.channels t.core.channels

ticked-so : (n : Names) (x : Client) (t u : Ticking) → u.sent ≡ t.sent → u.closings ≡ t.closings → u.core.channels ≡ t.core.channels → IsTicked n x t → IsTicked n x u
ticked-so n x t u sent closings same h = record {
  serves = λ i s at. h.serves i s (subst (λ (l : List Sending). At l i s) sent at);
  same = λ on none. live-then on x.channels t.core.channels u.core.channels (h.same on (λ l e at. none l e (subst (λ (v : List Left). At v l e) (sym closings) at))) (live-as on t.core.channels u.core.channels same);
}

ticked-sends : (n : Names) (x : Client) (t : Ticking) (s : Sending) → (stamped n s).intent ≡ history.OfCircuit → IsTicked n x t → IsTicked n x (with_sending s t)
ticked-sends n x t s is h = record {
  serves = λ i r at. elim (At-snoc t.sent s i r at) [
    | inl old ↦ h.serves i r old
    | inr last ↦ subst (λ (v : Sending). (stamped n v).intent ≡ history.OfCircuit) (sym last.1) is
  ];
  same = λ on none. h.same on none;
}

ticked-one : (n : Names) (x : Client) (t : Ticking) (c : Handle) → IsTicked n x t → IsTicked n x (ticks t c)
ticked-one n x t c h = go (connection_at t.core c)
  where
    by : (k : Keep) → IsTicked n x (ticks_as k c t)
    by Idle = h
    by Close = record {
      serves = h.serves;
      same = λ on none.
          let last : same_handle c on ≡ false = none (length t.closings) _ (At-last t.closings _) in
          live-then on x.channels t.core.channels (ended c t.core).channels (h.same on (λ l e at. none l e (At-append t.closings _ l e at))) (same-ended on c t.core (not-same c on last));
    }
    by Echo =
        let noted : Client = on_connection (λ (e : Connection). record e { link = record e.link { echoed = true } }) c t.core in
        let u : Ticking = record t { core = noted } in
        ticked-sends n x u (of_circuit c (header_only command.Echo)) refl (ticked-so n x t u refl refl refl h)

    go : (o : Option Connection) → IsTicked n x (unwrap_or (option_map (λ (e : Connection). ticks_as (kept t.core.moment e.link) c t) o) t)
    go None = h
    go (Some e) = by (kept t.core.moment e.link)

ticked-all : (n : Names) (x : Client) (order : List Handle) (t : Ticking) → IsTicked n x t → IsTicked n x (fold ticks t order)
ticked-all n x [] t h = h
ticked-all n x (c ∷ order) t h = ticked-all n x order (ticks t c) (ticked-one n x t c h)

-- searches are sent, and nothing is closed by them
pub record IsSearched (n : Names) (x : Client) (first t : Ticking) : Type 0 where
  pub ticked : IsTicked n x t
  pub closings : t.closings ≡ first.closings

searched-one : (n : Names) (x : Client) (f : Ticking) (c : Handle) (t : Ticking) (w : search.Wanted) → IsSearched n x f t → IsSearched n x f (searches_on c t w)
searched-one n x f c t w h = go (is_over t.core c)
  where
    go : (b : Bool) → IsSearched n x f (cond b t (with_sending (of_circuit c (search_request w.cid w.name)) t))
    go true = h
    go false = record { ticked = ticked-sends n x t (of_circuit c (search_request w.cid w.name)) refl h.ticked; closings = h.closings }

searched-each : (n : Names) (x : Client) (f : Ticking) (c : Handle) (ws : List search.Wanted) (t : Ticking) → IsSearched n x f t → IsSearched n x f (fold (searches_on c) t ws)
searched-each n x f c [] t h = h
searched-each n x f c (w ∷ ws) t h = searched-each n x f c ws (searches_on c t w) (searched-one n x f c t w h)

searched-all : (n : Names) (x : Client) (f : Ticking) (ws : List search.Wanted) (cs : List Handle) (t : Ticking) → IsSearched n x f t → IsSearched n x f (fold (all_searched_on ws) t cs)
searched-all n x f ws [] t h = h
searched-all n x f ws (c ∷ cs) t h = searched-all n x f ws cs (all_searched_on ws t c) (searched-each n x f c ws t h)

pub ticked-client : (n : Names) (moment : ℕ) (x : Client) → IsSearched n x (circuits_ticked moment x) (searches_made (circuits_ticked moment x))
ticked-client n moment x =
    let y : Client = record x { moment = later moment x } in
    let first : Ticking = record { core = y; sent = []; notices = []; closings = [] } in
    let t : Ticking = circuits_ticked moment x in
    let u : Ticking = fold (all_searched_on (due t.core)) t (filter (is_name_connected t.core) t.core.order) in
    let begin : IsTicked n x first = record { serves = λ i s at. absurd (none_at i s at); same = λ on none. live-itself on x.channels } in
    let r : IsSearched n x t u = searched-all n x t (due t.core) (filter (is_name_connected t.core) t.core.order) t (record { ticked = ticked-all n x x.order first begin; closings = refl }) in
    record { ticked = ticked-so n x u (searches_made t) refl refl refl r.ticked; closings = r.closings }

-- an end that is open still did not fall silent
module _ (i : ℕ) (closings : List Left) where
  find-none : {A : Type 0} (test : A → Bool) (xs : List A) → find test xs ≡ None → (l : ℕ) (e : A) → At xs l e → test e ≡ false
  find-none test [] is l e at = absurd (none_at l e at)
  find-none {A} test (y ∷ xs) is l e at = go (test y) refl is l at (λ h k there. find-none test xs h k e there)
    where
      some-none : (v : A) → let a : Option A = Some v in let b : Option A = None in a ≡ b → ⊥
      some-none v p = cc

      go : (b : Bool) → test y ≡ b → cond b (Some y) (find test xs) ≡ None → (l : ℕ) → At (y ∷ xs) l e → (find test xs ≡ None → (k : ℕ) → At xs k e → test e ≡ false) → test e ≡ false
      go true t p l there rest = absurd (some-none y p)
      go false t p zero there rest = ap test (sym (some_is y e there)) ∙ t
      go false t p (suc l) there rest = rest p l there

  silent-none : (a : Joined) → a.client ≡ i → a.lists.client_open ≡ true → (after_tick i closings a).lists.client_open ≡ true → (l : ℕ) (e : Left) → At closings l e → same_handle e.circuit a.at_client ≡ false
  silent-none a mine opened still l e at =
      go (find (λ (v : Left). same_handle v.circuit a.at_client) closings) refl
      (ap (λ (b : Bool). (cond b (unwrap_or (option_map (λ (left : List ℕ). client_closed left a) (left_silent closings a)) a) a).lists.client_open) (sym (and_from (eqb a.client i) a.lists.client_open (eq-eqb a.client i mine) opened)) ∙ still)
    where
      go : (o : Option Left) → find (λ (v : Left). same_handle v.circuit a.at_client) closings ≡ o → (unwrap_or (option_map (λ (left : List ℕ). client_closed left a) (option_map (λ (v : Left). v.bytes) o)) a).lists.client_open ≡ true → same_handle e.circuit a.at_client ≡ false
      go None is open_it = find-none (λ (v : Left). same_handle v.circuit a.at_client) closings is l e at
      go (Some v) is open_it = absurd (both_ways false refl open_it)

  -- what the tick makes of an end
  tick-end : (a : Joined) → (let d : Joined = after_tick i closings a in (d.client ≡ a.client) × (d.at_client ≡ a.at_client) × (d.lists.client_open ≡ true → a.lists.client_open ≡ true) × (d.lists.up ≡ a.lists.up) × (d.lists.down ≡ a.lists.down) × (d.lists.heard ≡ a.lists.heard) × (d.lists.handled ≡ a.lists.handled))
  tick-end a = by (eqb a.client i && a.lists.client_open) (left_silent closings a)
    where
      by : (b : Bool) (o : Option (List ℕ)) → (let d : Joined = cond b (unwrap_or (option_map (λ (left : List ℕ). client_closed left a) o) a) a in (d.client ≡ a.client) × (d.at_client ≡ a.at_client) × (d.lists.client_open ≡ true → a.lists.client_open ≡ true) × (d.lists.up ≡ a.lists.up) × (d.lists.down ≡ a.lists.down) × (d.lists.heard ≡ a.lists.heard) × (d.lists.handled ≡ a.lists.handled))
      by true (Some left) = (refl, refl, λ o. absurd (both_ways false refl o), refl, refl, refl, refl)
      by true None = (refl, refl, λ o. o, refl, refl, refl, refl)
      by false o = (refl, refl, λ o. o, refl, refl, refl, refl)

ticks-one-sided : (moment : ℕ) (w : World) (i : ℕ) (new : World) → AllSided w → TicksOne moment w i new → AllSided new
ticks-one-sided moment w i new s happens = subst (λ (v : World). AllSided v) (sym happens.6)
    (sided-ways w after i x (record x { core = core; names = x.names }) x.names sent happens.1 refl ends
    (λ l j a at_j at_a mine was open_it. inl (record { same = same-there l j a at_j at_a mine was open_it; opens = λ p m in_it. inl (served a.at_client p m in_it) }))
    (λ l j a p m b at_j at_a open_it in_it is. absurd (not-asked b Create (sym (served a.at_client p m in_it) ∙ is))) (λ h sid on l. refl) s)
  where
    x : ClientSide
    x = happens.0

    t : answer.Ticked
    t = happens.2

    sent : List Sending
    sent = happens.3

    core : Client
    core = happens.4

    after : World
    after =
        let called : World = client_after i x x.names (record { core = core; names = x.names; lines = lines_of history.OfCircuit x.names t.notices; sent = sent }) w in
        record called { circuits = map (after_tick i t.closings) called.circuits }

    made : Ticking
    made = circuits_ticked moment x.core

    r : IsSearched x.names x.core made (searches_made made)
    r = ticked-client x.names moment x.core

    served : (on : Handle) (p : ℕ) (m : Sent) → At (said x.names on sent) p m → m.intent ≡ history.OfCircuit
    served on p m in_it = serving x.names on sent (λ k v there. r.ticked.serves k v (subst (λ (l : List Sending). At l k v) happens.5.1 there)) p m in_it

    closed-is : (searches_made made).closings ≡ t.closings
    closed-is = r.closings ∙ ap (λ (v : answer.Ticked). v.closings) (sym happens.5.0)

    live-on : (on : Handle) → ((l : ℕ) (e : Left) → At t.closings l e → same_handle e.circuit on ≡ false) → SameLive on x.core.channels core.channels
    live-on on none =
        subst (λ (v : Client). SameLive on x.core.channels v.channels) (sym happens.5.2) (r.ticked.same on (λ l e at. none l e (subst (λ (v : List Left). At v l e) closed-is at)))

    -- the circuit as it was
    back : (l : ℕ) (j : Joined) → At after.circuits l j → (a : Joined) × At w.circuits l a × (j ≡ after_tick i t.closings (sent_to i x.names sent a))
    back l j at_j =
        let m = At-mapped (after_tick i t.closings) (map (sent_to i x.names sent) w.circuits) l j at_j in
        let q = At-mapped (sent_to i x.names sent) w.circuits l m.0 m.1 in
        (q.0, q.1, m.2 ∙ ap (after_tick i t.closings) q.2)

    same-there : (l : ℕ) (j a : Joined) → At after.circuits l j → At w.circuits l a → a.client ≡ i → a.lists.client_open ≡ true → j.lists.client_open ≡ true → SameLive a.at_client x.core.channels core.channels
    same-there l j a at_j at_a mine was open_it =
        let q = back l j at_j in
        let one : q.0 ≡ a = At-one w.circuits l q.0 a q.1 at_a in
        let j_is : j ≡ after_tick i t.closings (sent_to i x.names sent a) = q.2 ∙ ap (λ (v : Joined). after_tick i t.closings (sent_to i x.names sent v)) one in
        live-on a.at_client (silent-none i t.closings (sent_to i x.names sent a) mine was (ap (λ (v : Joined). v.lists.client_open) (sym j_is) ∙ open_it))

    ends : AllAfter i x.names sent w.circuits after.circuits
    ends l j at_j =
        let q = back l j at_j in
        let a : Joined = q.0 in
        let e = tick-end i t.closings (sent_to i x.names sent a) in (
          a,
          q.1,
          subst (λ (v : Joined). IsEndAfter i x.names sent a v) (sym q.2) (record {
            client = e.0;
            handle = e.1;
            opens = e.2;
            shuts = λ o f p m in_it. served a.at_client p m in_it;
            up = e.3;
            down = e.4;
            heard = ap (λ (v : List Step). length v) e.5;
            handled = ap (λ (v : List Step). length v) e.6;
          }),
        )

pub sided-ticks : (moment : ℕ) (clients : List ℕ) (w new : World) → AllSided w → FoldsTo (TicksOne moment) w clients new → AllSided new
sided-ticks moment [] w new s folds = subst (λ (v : World). AllSided v) folds s
sided-ticks moment (i ∷ clients) w new s folds = sided-ticks moment clients folds.0 new (ticks-one-sided moment w i folds.0 s folds.1) folds.2
