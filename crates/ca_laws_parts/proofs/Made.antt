-- A circuit that is made keeps bytes as messages.
use Rattle.std.proofs.Common.{◌≡◌, ℕ, inl, inr, false, List, [], ◌∷◌, ◌++◌, Option, Some, None, refl, sym, ap, ◌∙◌, subst}
use Rattle.std.specs.Prelude.{Ok, Result, is_none, option_map, unwrap_or}
use Rattle.std.proofs.lemmas.Bool.{both_ways}
use Rattle.std.proofs.lemmas.List.{append-nil}
use Rattle.ca_arena.specs.declared.handle.Handle.{Handle}
use Rattle.ca_ids.specs.Table.{MayGive, under, with_held}
use Rattle.ca_text.specs.Place.{At}
use Rattle.ca_text.specs.declared.refusal.Refusal.{Refusal}
use Rattle.ca_text.proofs.Places.{At-mapped, At-snoc, At-within}
use Rattle.ca_model.specs.Answers.{Closing, Sending}
use Rattle.ca_model.specs.Client.{Client, ClientCircuit, Connection, connection_at, ended}
use Rattle.ca_model.specs.ClientEnds.{ClientConnects, ConnectsOn, begun, new_connection}
use Rattle.ca_model.specs.History as history
use Rattle.ca_model.specs.Server.{Open, Server, new_end}
use Rattle.ca_model.specs.ServerSteps.{Accepts, HasEnd}
use Rattle.ca_model.specs.ClientEvents.{HappensAccept, WantsFirst, client_after, client_closed, connected_as, lines_of, new_circuit, closing_notices}
use Rattle.ca_model.specs.World.{ClientSide, Joined, ServerSide, World, with_server}
use Rattle.ca_model.proofs.Handles.{handle-or}
use Rattle.ca_model.proofs.Tables.{changed-other, changed-own, held-other, held-own}
use Rattle.ca_laws_parts.specs.Circuit.{sent_to}
use Rattle.ca_laws_parts.specs.Clients.{ClientsStand}
use Rattle.ca_laws_parts.proofs.ClientsMore.{unconnected-is, wanted-there}
use Rattle.ca_model.proofs.Thinner.{set-there}
use Rattle.ca_laws_parts.specs.Seats.{Seated}
use Rattle.ca_laws_parts.specs.Streams.{Meets}
use Rattle.ca_laws_parts.specs.Worlds.{AllStream, StreamsOn, client_end, server_end}
use Rattle.ca_laws_parts.proofs.Clients.{on-other, spoke, up-shut, waits-open, came-so}
use Rattle.ca_laws_parts.proofs.BytesMoves.{both-on, client-or, quiet-server, server-or}
use Rattle.ca_laws_parts.proofs.Links.{AllGoOn, GoesOn, at-circuit, circuit-of, ended-goes, goes-does, goes-itself}
use Rattle.ca_laws_parts.proofs.ServerEnds.{Stays}
use Rattle.ca_laws_parts.proofs.BytesServers.{seat-of, server-came, server-waits}
use Rattle.ca_laws_parts.proofs.Streaming.{Acts, acts-itself, meets-on, meets-new, streams-new}

-- ---- a circuit is made

-- what both cores make of it
connects-goes : (x y : Client) (c : Handle) (d : ClientCircuit) (k : Option Closing) (sent : List Sending) → under x.circuits c ≡ Some d → d.connection ≡ None → ConnectsOn x c (Some d) k sent y → AllGoOn x y sent
connects-goes x y c d None sent there none does = goes-does x (begun c x) y _ sent quiet does
  where
    quiet : (h : Handle) → GoesOn x (begun c x) h []
    quiet h e is = elim (handle-or h c) [
      | inl same ↦
          absurd (let f : let a : Option Connection = None in let b : Option Connection = Some e in a ≡ b = sym none ∙ sym (at-circuit x c d there) ∙ ap (λ (q : Handle). connection_at x q) (sym same) ∙ is in cc)
      | inr other ↦
          let r = circuit-of x h e is in
          (e, at-circuit (begun c x) h r.0 (changed-other (λ (v : ClientCircuit). record v { connection = Some (new_connection x.moment) }) x.circuits h c r.0 r.1 other) ∙ r.2, refl, sym (append-nil e.link.output))
    ]
connects-goes x y c d (Some k) sent there none does = subst (λ (q : List Sending × Client). AllGoOn x q.1 q.0) (λ i. (sym does.1 i, sym does.2 i)) quiet
  where
    quiet : (h : Handle) → GoesOn x (ended c x) h []
    quiet h e is = elim (handle-or h c) [
      | inl same ↦
          absurd (let f : let a : Option Connection = None in let b : Option Connection = Some e in a ≡ b = sym none ∙ sym (at-circuit x c d there) ∙ ap (λ (q : Handle). connection_at x q) (sym same) ∙ is in cc)
      | inr other ↦ ended-goes c h x other e is
    ]

-- the ends of a new circuit
module _ (i : ℕ) (x : ClientSide) (z : ClientSide) (v : ServerSide) (at : ℕ) (core : Server) (h : Handle) (accepts : MayGive v.core.circuits h × (core ≡ record v.core { circuits = with_held h (Open (new_end v.core.moment)) v.core.circuits })) (c : Handle) (d : ClientCircuit) (there : under x.core.circuits c ≡ Some d) (none : d.connection ≡ None) (sent : List Sending) where
  abbrev n : Joined
  n = new_circuit i x c at v h

  abbrev side : ServerSide
  side = record v { core = core }

  has-new : HasEnd core h (new_end v.core.moment)
  has-new = subst (λ (q : Server). HasEnd q h (new_end v.core.moment)) (sym accepts.1) (held-own v.core.circuits h (Open (new_end v.core.moment)) accepts.0)

  new-meets : (k : Option Closing) → ConnectsOn x.core c (Some d) k sent z.core → Meets (client_end z (sent_to i x.names sent (connected_as k n))) (server_end side (sent_to i x.names sent (connected_as k n)))
  new-meets None does =
      let u : ClientSide = record x { core = begun c x.core } in
      let e : Connection = new_connection x.core.moment in
      let is : connection_at u.core c ≡ Some e = at-circuit u.core c (record d { connection = Some e }) (changed-own (λ (v : ClientCircuit). record v { connection = Some (new_connection x.core.moment) }) x.core.circuits c d there) in
      meets-on (client_end u n) (client_end z (sent_to i x.names sent n)) (server_end side n)
      (spoke i u z x.names sent n refl (λ q. ap is_none is) (λ q. goes-does u.core u.core z.core _ sent (λ g. goes-itself u.core u.core g refl) does c))
      (meets-new (client_end u n) (server_end side n) (came-so u.core c e is) (server-came side n (new_end v.core.moment) has-new) (waits-open u n e refl is) (server-waits side n (new_end v.core.moment) refl has-new) refl refl refl refl)
  new-meets (Some k) does =
      let ended_n : Joined = client_closed k.left n in
      let left : k.left ≡ [] = ap (λ (q : Closing). q.left) does.0 ∙ ap (λ (o : Option Connection). unwrap_or (option_map (λ (e : Connection). e.link.output) o) []) (at-circuit x.core c d there ∙ none) in
      record {
        there = λ e good. streams-new (client_end z (sent_to i x.names sent ended_n)) (server_end side ended_n) (server-came side n (new_end v.core.moment) has-new) left (up-shut i x.names sent ended_n refl) refl;
        back = λ e good. absurd (both_ways false refl e);
      }

pub accept-streams : (w new : World) (c : ℕ) (x : ClientSide) (v : WantsFirst w x) → At w.clients c x → ClientsStand w → Seated w → HappensAccept w c x v new → AllStream w → AllStream new
accept-streams w new c x v at s seated happens all = elim happens.leaves [
  | inl refusal ↦ subst (λ (u : World). AllStream u) (sym refusal.1) all
  | inr did ↦ made did.0 did.1 did.2 did.3 did.4 did.5 did.6
]
  where
    made : (h : Handle) (k : Option Closing) (sent : List Sending) (core : Client) → happens.answer ≡ Ok h → ClientConnects x.core v.v.circuit k sent core
        → new ≡ client_after c x x.names (record { core = core; names = x.names; lines = lines_of history.OfCircuit x.names (closing_notices k); sent = sent }) (record (with_server v.i (record v.y { core = happens.server }) w) { circuits = w.circuits ++ connected_as k (new_circuit c x v.v.circuit v.i v.y h) ∷ [] })
        → AllStream new
    made h k sent core is connects same = subst (λ (u : World). AllStream u) (sym same) streams
      where
        z : ClientSide
        z = record x { core = core; names = x.names }

        side : ServerSide
        side = record v.y { core = happens.server }

        n : Joined
        n = connected_as k (new_circuit c x v.v.circuit v.i v.y h)

        after : World
        after = client_after c x x.names (record { core = core; names = x.names; lines = lines_of history.OfCircuit x.names (closing_notices k); sent = sent }) (record (with_server v.i side w) { circuits = w.circuits ++ n ∷ [] })

        f : Joined → Joined
        f a = sent_to c x.names sent a

        accepts : Accepts v.y.core (Ok h) happens.server
        accepts = subst (λ (a : Result Handle Refusal). Accepts v.y.core a happens.server) is happens.accepts

        wanted_is : (d : ClientCircuit) × (under x.core.circuits v.v.circuit ≡ Some d) × (d.connection ≡ None)
        wanted_is = wanted-there x.core v.place v.v v.at

        does : ConnectsOn x.core v.v.circuit (Some wanted_is.0) k sent core
        does = subst (λ (o : Option ClientCircuit). ConnectsOn x.core v.v.circuit o k sent core) (unconnected-is x.core v.v.circuit wanted_is.0 wanted_is.1 wanted_is.2) connects

        goes : AllGoOn x.core core sent
        goes = connects-goes x.core core v.v.circuit wanted_is.0 k sent wanted_is.1 wanted_is.2 does

        server_at : At after.servers v.i side
        server_at = set-there w.servers v.i side (At-within w.servers v.i v.y v.there.0)

        client_at : At after.clients c z
        client_at = set-there w.clients c z (At-within w.clients c x at)

        new_end_of : (k : Option Closing) (m : Joined) → ((connected_as k m).client ≡ m.client) × ((connected_as k m).server ≡ m.server)
        new_end_of None m = (refl, refl)
        new_end_of (Some q) m = (refl, refl)

        streams : AllStream after
        streams l d there =
            let m = At-mapped f (w.circuits ++ n ∷ []) l d there in
            subst (λ (q : Joined). StreamsOn after q) (sym m.2) (elim (At-snoc w.circuits n l m.0 m.1) [
              | inl old ↦
                  both-on w after m.0 (f m.0) (all l m.0 old)
                  (client-or w after c x z m.0 (f m.0) at refl refl (λ mine. spoke c x z x.names sent m.0 mine (λ q. s.connected l m.0 x old (subst (λ (b : ℕ). At w.clients b x) (sym mine) at) q) (λ q. goes m.0.at_client))
                  (λ far q.
                  subst (λ (b : List history.Sent). Acts (client_end q m.0) (client_end q (record m.0 { lists = record m.0.lists { up = b } }))) (sym (ap (λ (b : List history.Sent). m.0.lists.up ++ b) (on-other c x.names sent m.0 far) ∙ append-nil m.0.lists.up))
                  (acts-itself (client_end q m.0))))
                  (server-or w after v.i v.y side m.0 (f m.0) v.there.0 refl refl
                  (λ mine.
                  quiet-server v.y side m.0 (λ q.
                  let g = seat-of w v.i v.y l m.0 v.there.0 seated old mine q in
                  (g.0, g.1, subst (λ (r : Server). Stays v.y.core r m.0.at_server g.0 []) (sym accepts.1) (g.0, held-other v.y.core.circuits m.0.at_server h _ (Open g.0) accepts.0 g.1, refl, sym (append-nil g.0.link.output)))))
                  (λ far q. acts-itself (server_end q m.0)))
              | inr last ↦
                  let e = new_end_of k (new_circuit c x v.v.circuit v.i v.y h) in
                  subst (λ (q : Joined). StreamsOn after (f q)) (sym last.1) (record {
                    x = z;
                    client = subst (λ (b : ℕ). At after.clients b z) (sym e.0) client_at;
                    y = side;
                    server = subst (λ (b : ℕ). At after.servers b side) (sym e.1) server_at;
                    meets = new-meets c x z v.y v.i happens.server h accepts v.v.circuit wanted_is.0 wanted_is.1 wanted_is.2 sent k does;
                  })
            ])
