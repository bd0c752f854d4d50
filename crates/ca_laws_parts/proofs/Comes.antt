-- Bytes that come to a client keep bytes as messages.
use Rattle.std.proofs.Common.{◌≡◌, ℕ, inl, inr, Bool, true, false, List, [], ◌++◌, Option, Some, None, refl, sym, ap, ◌∙◌, subst}
use Rattle.std.specs.Prelude.{Ok, drop, is_none, length, slice_set, take, nat_lt}
use Rattle.std.proofs.lemmas.List.{append-nil}
use Rattle.ca_arena.specs.declared.handle.Handle.{Handle}
use Rattle.ca_ids.specs.Table.{same_handle, under}
use Rattle.ca_link.specs.Link.{with_given, with_handed}
use Rattle.ca_text.specs.Place.{At}
use Rattle.ca_text.proofs.Places.{At-mapped, At-one, At-set, At-within}
use Rattle.ca_monitor.specs.ReadRun.{after_read}
use Rattle.ca_model.specs.Answers.{Sending}
use Rattle.ca_model.specs.Client.{Client, Connection, connection_at}
use Rattle.ca_model.specs.ClientEnds.{GivesOn, flow_sent, given}
use Rattle.ca_model.specs.History as history
use Rattle.ca_model.specs.Server.{Server, ServerEnd}
use Rattle.ca_model.specs.ServerSteps.{HasEnd, Sends}
use Rattle.ca_model.specs.ClientEvents.{HappensDown, client_after, waiting_down, waiting_up}
use Rattle.ca_model.specs.World.{ClientSide, Joined, ServerSide, World, with_circuit, with_server}
use Rattle.ca_model.proofs.Handles.{same-itself}
use Rattle.ca_laws_parts.specs.Circuit.{sent_to}
use Rattle.ca_laws_parts.specs.Clients.{ClientsStand}
use Rattle.ca_model.proofs.Thinner.{number-or, set-there}
use Rattle.ca_laws_parts.specs.Seats.{Seated}
use Rattle.ca_laws_parts.specs.Streams.{CircuitEnd, Meets}
use Rattle.ca_laws_parts.specs.Worlds.{AllStream, StreamsOn, came_to, client_end, input_of, sent_down, sent_up, server_end}
use Rattle.ca_laws_parts.proofs.Clients.{connected-so, on-other, spoke, waits-open, came-so}
use Rattle.ca_laws_parts.proofs.BytesMoves.{both-on, client-or, given-bytes, quiet-server, server-or}
use Rattle.ca_laws_parts.proofs.Links.{AllGoOn, connection-other, connection-own, goes-does, goes-itself, goes-then, messages_on}
use Rattle.ca_laws_parts.proofs.ServerEnds.{Stays, end-own, go-end}
use Rattle.ca_laws_parts.proofs.BytesServers.{seat-of, server-came, server-left, server-waits}
use Rattle.ca_laws_parts.proofs.Streaming.{Acts, acts-itself, meets-moved, meets-on, meets-turned}

module _ (w : World) (k n : ℕ) (j : Joined) (x : ClientSide) (y : ServerSide) (on : At w.circuits k j) (client : At w.clients j.client x) (server : At w.servers j.server y) (opened : j.lists.client_open ≡ true) (s : ClientsStand w) (seated : Seated w) (all : AllStream w) where
  apart : (l : ℕ) (a : Joined) → At w.circuits l a → (l ≡ k → ⊥) → a.client ≡ j.client → a.lists.client_open ≡ true → a.at_client ≡ j.at_client → ⊥
  apart l a at other mine is_open same =
      other (s.handles l k a j at on mine is_open opened (subst (λ (h : Handle). same_handle a.at_client h ≡ true) same (same-itself a.at_client)))

  link : (l : ℕ) (a : Joined) → At w.circuits l a → a.client ≡ j.client → a.lists.client_open ≡ true → is_none (connection_at x.core a.at_client) ≡ false
  link l a at mine is_open = s.connected l a x at (subst (λ (m : ℕ). At w.clients m x) (sym mine) client) is_open

  -- what both ends are in this world
  here : Meets (client_end x j) (server_end y j)
  here =
      let st = all k j on in
      subst (λ (q : ClientSide × ServerSide). Meets (client_end q.0 j) (server_end q.1 j)) (λ i. (At-one w.clients j.client st.x x st.client client i, At-one w.servers j.server st.y y st.server server i)) st.meets

  -- the client to which these bytes came
  abbrev come : List ℕ → Bool → Client
  come bytes more = given j.at_client bytes more x.core

  came-here : (bytes : List ℕ) (more : Bool) → client_end (record x { core = come bytes more }) j ≡ record (client_end x j) { came = (client_end x j).came ++ bytes }
  came-here bytes more =
      let u : ClientSide = record x { core = come bytes more } in
      let d = connected-so (connection_at x.core j.at_client) (link k j on refl opened) in
      let e : Connection = record { link = with_given x.core.moment bytes d.0.link; run = after_read more d.0.run } in
      let is : connection_at (come bytes more) j.at_client ≡ Some e = connection-own _ j.at_client x.core d.0 d.1 in
      let r = given-bytes x.core.moment bytes d.0.link in
      let came : came_to (connection_at u.core j.at_client) ≡ came_to (connection_at x.core j.at_client) ++ bytes = came-so u.core j.at_client e is ∙ r.0 ∙ ap (λ (q : List ℕ). q ++ bytes) (sym (came-so x.core j.at_client d.0 d.1)) in
      let waits : waiting_up u j ≡ waiting_up x j = waits-open u j e opened is ∙ r.1 ∙ sym (waits-open x j d.0 opened d.1) in
      λ i. record { came = came i; waiting = waits i; is_open = j.lists.client_open; sent = sent_up j; read = length j.lists.heard }

  come-connected : (bytes : List ℕ) (more : Bool) → is_none (connection_at (come bytes more) j.at_client) ≡ false
  come-connected bytes more = (let d = connected-so (connection_at x.core j.at_client) (link k j on refl opened) in ap is_none (connection-own _ j.at_client x.core d.0 d.1))

  module _ (bytes : List ℕ) (more : Bool) (sent : List Sending) (core : Client) (goes : AllGoOn (given j.at_client bytes more x.core) core sent) where
    abbrev z : ClientSide
    z = record x { core = core; names = x.names }

    abbrev f : Joined → Joined
    f a = sent_to j.client x.names sent a

    -- the client's end of this circuit, and of its others
    own-acts : Acts (client_end (record x { core = come bytes more }) j) (client_end z (f j))
    own-acts = spoke j.client (record x { core = come bytes more }) z x.names sent j refl (λ q. come-connected bytes more) (λ q. goes j.at_client)

    other-acts : (l : ℕ) (a : Joined) → At w.circuits l a → (l ≡ k → ⊥) → a.client ≡ j.client → Acts (client_end x a) (client_end z (f a))
    other-acts l a at other mine =
        spoke j.client x z x.names sent a mine (λ q. link l a at mine q)
        (λ q.
        goes-then x.core (come bytes more) core a.at_client [] (messages_on a.at_client sent)
        (λ d is. (d, connection-other _ j.at_client a.at_client x.core d (apart l a at other mine q) is, refl, sym (append-nil d.link.output))) (goes a.at_client))

    far-acts : (a : Joined) → (a.client ≡ j.client → ⊥) → (v : ClientSide) → Acts (client_end v a) (client_end v (f a))
    far-acts a far v =
        subst (λ (l : List history.Sent). Acts (client_end v a) (client_end v (record a { lists = record a.lists { up = l } }))) (sym (ap (λ (l : List history.Sent). a.lists.up ++ l) (on-other j.client x.names sent a far) ∙ append-nil a.lists.up))
        (acts-itself (client_end v a))

    -- the ends of this circuit, at a server's end that handed these bytes over
    moved : (v : ServerSide) (j1 : Joined) → bytes ≡ take n (waiting_down y j) → client_end (record x { core = come bytes more }) j1 ≡ client_end (record x { core = come bytes more }) j → Acts (client_end (record x { core = come bytes more }) j1) (client_end z (f j1))
        → server_end v j1 ≡ record (server_end y j) { waiting = drop n (waiting_down y j) } → Meets (client_end z (f j1)) (server_end v j1)
    moved v j1 are same acts is =
        meets-on (client_end (record x { core = come bytes more }) j1) (client_end z (f j1)) (server_end v j1) acts
        (subst (λ (q : CircuitEnd × CircuitEnd). Meets q.0 q.1) (λ i. (sym (same ∙ came-here bytes more ∙ ap (λ (l : List ℕ). record (client_end x j) { came = (client_end x j).came ++ l }) are) i, sym is i))
        (meets-turned _ _ (meets-moved (server_end y j) (client_end x j) n (meets-turned _ _ here))))

    open-streams : (side : Server) → bytes ≡ take n (waiting_down y j) → j.lists.server_open ≡ true → Sends y.core j.at_server n side
        → AllStream (client_after j.client x x.names (record { core = core; names = x.names; lines = []; sent = sent }) (with_server j.server (record y { core = side }) w))
    open-streams side are is_open (inr (none, zero_of, same)) l d there = absurd (let e = seat-of w j.server y k j server seated on refl is_open in none e.0 e.1)
    open-streams side are is_open (inl (e, has, within, is)) l d there =
        let c = At-mapped f w.circuits l d there in
        subst (λ (q : Joined). StreamsOn new q) (sym c.2) (elim (number-or l k) [
          | inl same ↦
              let one : c.0 ≡ j = At-one w.circuits k c.0 j (subst (λ (m : ℕ). At w.circuits m c.0) same c.1) on in
              let e1 : ServerEnd = record e { link = with_handed n e.link } in
              let now : HasEnd side j.at_server e1 = subst (λ (q : Server). HasEnd q j.at_server e1) (sym is) (end-own y.core j.at_server e e1 has) in
              let came : input_of (under side.circuits j.at_server) ≡ input_of (under y.core.circuits j.at_server) = server-came v j e1 now ∙ sym (server-came y j e has) in
              let waits : waiting_down v j ≡ drop n (waiting_down y j) = server-waits v j e1 is_open now ∙ ap (λ (q : List ℕ). drop n q) (sym (server-waits y j e is_open has)) in
              let handed : server_end v j ≡ record (server_end y j) { waiting = drop n (waiting_down y j) } =
              λ i. record { came = came i; waiting = waits i; is_open = j.lists.server_open; sent = sent_down j; read = length j.lists.handled } in
              subst (λ (q : Joined). StreamsOn new (f q)) (sym one) (record {
                x = z;
                client = set-there w.clients j.client z (At-within w.clients j.client x client);
                y = v;
                server = set-there w.servers j.server v (At-within w.servers j.server y server);
                meets = moved v j are refl own-acts handed;
              })
          | inr other ↦
              both-on w new c.0 (f c.0) (all l c.0 c.1) (client-or w new j.client x z c.0 (f c.0) client refl refl (other-acts l c.0 c.1 other) (far-acts c.0))
              (server-or w new j.server y v c.0 (f c.0) server refl refl
              (λ mine.
              quiet-server y v c.0 (λ q.
              let g = seat-of w j.server y l c.0 server seated c.1 mine q in
              (g.0, g.1, subst (λ (r : Server). Stays y.core r c.0.at_server g.0 []) (sym is) (go-end y.core j.at_server c.0.at_server _ (λ same. other (seated.one l k c.0 j c.1 on mine q is_open same)) g.0 g.1))))
              (λ far q. acts-itself (server_end q c.0)))
        ])
      where
        v : ServerSide
        v = record y { core = side }

        new : World
        new = client_after j.client x x.names (record { core = core; names = x.names; lines = []; sent = sent }) (with_server j.server v w)

    shut-streams : bytes ≡ take n (waiting_down y j) → j.lists.server_open ≡ false
        → AllStream (client_after j.client x x.names (record { core = core; names = x.names; lines = []; sent = sent }) (with_circuit k (record j { left_down = drop n j.left_down }) w))
    shut-streams are shut l d there =
        let c = At-mapped f (slice_set w.circuits k j1) l d there in
        subst (λ (q : Joined). StreamsOn new q) (sym c.2) (elim (At-set w.circuits k j1 l c.0 c.1) [
          | inl same ↦
              let waits : waiting_down y j1 ≡ drop n (waiting_down y j) = server-left y j1 shut ∙ ap (λ (q : List ℕ). drop n q) (sym (server-left y j shut)) in
              let handed : server_end y j1 ≡ record (server_end y j) { waiting = drop n (waiting_down y j) } =
              λ i. record { came = (server_end y j).came; waiting = waits i; is_open = j.lists.server_open; sent = sent_down j; read = length j.lists.handled } in
              subst (λ (q : Joined). StreamsOn new (f q)) (sym same.1) (record {
                x = z;
                client = set-there w.clients j.client z (At-within w.clients j.client x client);
                y = y;
                server = server;
                meets = moved y j1 are refl (spoke j.client (record x { core = come bytes more }) z x.names sent j1 refl (λ q. come-connected bytes more) (λ q. goes j.at_client)) handed;
              })
          | inr old ↦
              both-on w new c.0 (f c.0) (all l c.0 old.0) (client-or w new j.client x z c.0 (f c.0) client refl refl (other-acts l c.0 old.0 old.1) (far-acts c.0)) (λ q at. (q, at, acts-itself (server_end q c.0)))
        ])
      where
        j1 : Joined
        j1 = record j { left_down = drop n j.left_down }

        new : World
        new = client_after j.client x x.names (record { core = core; names = x.names; lines = []; sent = sent }) (with_circuit k j1 w)

  given-so : (bytes : List ℕ) (more : Bool) (o : Option Connection) (sent : List Sending) (core : Client) → GivesOn x.core j.at_client bytes more o (Ok tt) sent core → AllGoOn (given j.at_client bytes more x.core) core sent
  given-so bytes more None sent core gives = absurd gives
  given-so bytes more (Some e) sent core gives = goes-does (come bytes more) (come bytes more) core (flow_sent j.at_client more e) sent (λ h. goes-itself (come bytes more) (come bytes more) h refl) gives

  pub down-streams : (new : World) → HappensDown w k n j x y new → AllStream new
  down-streams new (mid, sent, core, taken, gives, is) =
      let bytes : List ℕ = take n (waiting_down y j) in
      let more : Bool = nat_lt n (length (waiting_down y j)) in
      let goes = given-so bytes more (connection_at x.core j.at_client) sent core gives in
      subst (λ (v : World). AllStream v) (sym is) (elim taken [
        | inl open_it ↦
            subst (λ (v : World). AllStream (client_after j.client x x.names (record { core = core; names = x.names; lines = []; sent = sent }) v)) (sym open_it.1.2) (open-streams bytes more sent core goes open_it.1.0 refl open_it.0 open_it.1.1)
        | inr shut_it ↦
            subst (λ (v : World). AllStream (client_after j.client x x.names (record { core = core; names = x.names; lines = []; sent = sent }) v)) (sym shut_it.1) (shut-streams bytes more sent core goes refl shut_it.0)
      ])
