-- Bytes that move on a circuit, and a circuit that is made, keep bytes as messages.
use Rattle.std.proofs.Common.{◌≡◌, ℕ, inl, inr, Bool, true, false, cond, List, [], ◌∷◌, ◌++◌, Option, Some, refl, sym, ap, ◌∙◌, subst}
use Rattle.std.specs.Prelude.{Ok, drop, is_none, is_some, length, slice_set, take}
use Rattle.std.proofs.lemmas.Bool.{cases_Bool}
use Rattle.std.proofs.lemmas.List.{append-nil}
use Rattle.ca_arena.specs.declared.handle.Handle.{Handle}
use Rattle.ca_ids.specs.Table.{same_handle, under}
use Rattle.ca_link.specs.Link.{LinkState, with_given, with_handed}
use Rattle.ca_text.specs.Place.{At}
use Rattle.ca_text.proofs.Places.{At-one, At-set, At-set-other, At-within}
use Rattle.ca_wire.specs.Message.{spelled}
use Rattle.ca_model.specs.Client.{Client, Connection, connection_at, on_connection}
use Rattle.ca_model.specs.ClientEnds.{handed_over}
use Rattle.ca_model.specs.Server.{Server, ServerEnd}
use Rattle.ca_model.specs.ServerSteps.{Gives, HasEnd}
use Rattle.ca_model.specs.ClientEvents.{HappensUp, waiting_down, waiting_up}
use Rattle.ca_model.specs.World.{ClientSide, Joined, ServerSide, World, with_circuit, with_client, with_server}
use Rattle.ca_model.proofs.Handles.{same-itself}
use Rattle.ca_laws_parts.specs.Clients.{ClientsStand}
use Rattle.ca_model.proofs.Thinner.{number-or, set-there}
use Rattle.ca_laws_parts.specs.Seats.{Seated}
use Rattle.ca_laws_parts.specs.Streams.{CircuitEnd, Meets}
use Rattle.ca_laws_parts.specs.Worlds.{AllStream, StreamsOn, came_to, client_end, input_of, sent_down, sent_up, server_end}
use Rattle.ca_laws_parts.proofs.Clients.{client-open, client-shut, connected-so, waits-open, waits-shut, came-so}
use Rattle.ca_laws_parts.proofs.Links.{GoesOn, connection-other, connection-own}
use Rattle.ca_laws_parts.proofs.ServerEnds.{Stays, end-own, go-end}
use Rattle.ca_laws_parts.proofs.BytesServers.{seat-of, server-came, server-open, server-shut, server-waits}
use Rattle.ca_laws_parts.proofs.Streaming.{Acts, acts-itself, meets-moved, meets-on, meets-on-back}

-- ---- ends that say nothing

pub quiet-client : (x z : ClientSide) (c : Joined) → (c.lists.client_open ≡ true → is_none (connection_at x.core c.at_client) ≡ false) → (c.lists.client_open ≡ true → GoesOn x.core z.core c.at_client []) → Acts (client_end x c) (client_end z c)
quiet-client x z c connected goes = elim (cases_Bool c.lists.client_open) [
  | inl opened ↦
      let d = connected-so (connection_at x.core c.at_client) (connected opened) in
      let e = goes opened d.0 d.1 in
      client-open x z c c [] d.0 e.0 opened opened (sym (append-nil (sent_up c))) d.1 e.1 e.3 e.2 refl
  | inr shut ↦ client-shut x z c c shut shut refl refl
]

pub quiet-server : (y z : ServerSide) (c : Joined) → (c.lists.server_open ≡ true → (e : ServerEnd) × HasEnd y.core c.at_server e × Stays y.core z.core c.at_server e []) → Acts (server_end y c) (server_end z c)
quiet-server y z c goes = elim (cases_Bool c.lists.server_open) [
  | inl opened ↦
      let e = goes opened in
      server-open y z c c [] e.0 e.2.0 opened opened (sym (append-nil (sent_down c))) e.1 e.2.1 e.2.3 e.2.2 refl
  | inr shut ↦ server-shut y z c c shut shut refl refl
]

-- both ends of a circuit go on
pub both-on : (w new : World) (c d : Joined) → StreamsOn w c → ((v : ClientSide) → At w.clients c.client v → (u : ClientSide) × At new.clients d.client u × Acts (client_end v c) (client_end u d))
    → ((v : ServerSide) → At w.servers c.server v → (u : ServerSide) × At new.servers d.server u × Acts (server_end v c) (server_end u d)) → StreamsOn new d
both-on w new c d s client server =
    let a = client s.x s.client in
    let b = server s.y s.server in
    record {
      x = a.0;
      client = a.1;
      y = b.0;
      server = b.1;
      meets = meets-on (client_end s.x c) (client_end a.0 d) (server_end b.0 d) a.2 (meets-on-back (server_end s.y c) (server_end b.0 d) (client_end s.x c) b.2 s.meets);
    }

-- a side of which this one is changed
pub client-or : (w new : World) (i : ℕ) (x z : ClientSide) (c d : Joined) → At w.clients i x → new.clients ≡ slice_set w.clients i z → d.client ≡ c.client → (c.client ≡ i → Acts (client_end x c) (client_end z d))
    → ((c.client ≡ i → ⊥) → (v : ClientSide) → Acts (client_end v c) (client_end v d)) → (v : ClientSide) → At w.clients c.client v → (u : ClientSide) × At new.clients d.client u × Acts (client_end v c) (client_end u d)
client-or w new i x z c d at is same mine others v there = elim (number-or c.client i) [
  | inl own ↦
      let one : v ≡ x = At-one w.clients i v x (subst (λ (n : ℕ). At w.clients n v) own there) at in (
        z,
        subst (λ (n : ℕ). At new.clients n z) (sym (same ∙ own)) (subst (λ (l : List ClientSide). At l i z) (sym is) (set-there w.clients i z (At-within w.clients i x at))),
        subst (λ (q : ClientSide). Acts (client_end q c) (client_end z d)) (sym one) (mine own),
      )
  | inr other ↦ (
    v,
    subst (λ (n : ℕ). At new.clients n v) (sym same) (subst (λ (l : List ClientSide). At l c.client v) (sym is) (At-set-other w.clients i c.client v z there other)),
    others other v,
  )
]

pub server-or : (w new : World) (i : ℕ) (y z : ServerSide) (c d : Joined) → At w.servers i y → new.servers ≡ slice_set w.servers i z → d.server ≡ c.server → (c.server ≡ i → Acts (server_end y c) (server_end z d))
    → ((c.server ≡ i → ⊥) → (v : ServerSide) → Acts (server_end v c) (server_end v d)) → (v : ServerSide) → At w.servers c.server v → (u : ServerSide) × At new.servers d.server u × Acts (server_end v c) (server_end u d)
server-or w new i y z c d at is same mine others v there = elim (number-or c.server i) [
  | inl own ↦
      let one : v ≡ y = At-one w.servers i v y (subst (λ (n : ℕ). At w.servers n v) own there) at in (
        z,
        subst (λ (n : ℕ). At new.servers n z) (sym (same ∙ own)) (subst (λ (l : List ServerSide). At l i z) (sym is) (set-there w.servers i z (At-within w.servers i y at))),
        subst (λ (q : ServerSide). Acts (server_end q c) (server_end z d)) (sym one) (mine own),
      )
  | inr other ↦ (
    v,
    subst (λ (n : ℕ). At new.servers n v) (sym same) (subst (λ (l : List ServerSide). At l c.server v) (sym is) (At-set-other w.servers i c.server v z there other)),
    others other v,
  )
]

-- ---- bytes

pub given-bytes : (now : ℕ) (bytes : List ℕ) (l : LinkState) → ((with_given now bytes l).input.bytes ≡ l.input.bytes ++ bytes) × ((with_given now bytes l).output ≡ l.output)
given-bytes now [] l = (sym (append-nil l.input.bytes), refl)
given-bytes now (b ∷ bytes) l = (refl, refl)

handed-goes : (x : Client) (c g : Handle) (n : ℕ) → (g ≡ c → ⊥) → GoesOn x (handed_over c n x) g []
handed-goes x c g n other d is = go (is_some (connection_at x c))
  where
    go : (b : Bool) → (e : Connection) × (connection_at (cond b (on_connection (λ (e : Connection). record e { link = with_handed n e.link }) c x) x) g ≡ Some e) × (e.link.input.bytes ≡ d.link.input.bytes) × (e.link.output ≡ d.link.output ++ spelled [])
    go true = (d, connection-other _ c g x d other is, refl, sym (append-nil d.link.output))
    go false = (d, is, refl, sym (append-nil d.link.output))

handed-own : (x : Client) (c : Handle) (n : ℕ) (d : Connection) → connection_at x c ≡ Some d → connection_at (handed_over c n x) c ≡ Some (record d { link = with_handed n d.link })
handed-own x c n d is =
    ap (λ (o : Option Connection). connection_at (cond (is_some o) (on_connection (λ (e : Connection). record e { link = with_handed n e.link }) c x) x) c) is
    ∙ connection-own (λ (e : Connection). record e { link = with_handed n e.link }) c x d is

module _ (w : World) (k n : ℕ) (j : Joined) (x : ClientSide) (y : ServerSide) (on : At w.circuits k j) (client : At w.clients j.client x) (server : At w.servers j.server y) (s : ClientsStand w) (seated : Seated w) (all : AllStream w) where
  client-apart : (l : ℕ) (a : Joined) → At w.circuits l a → (l ≡ k → ⊥) → a.client ≡ j.client → a.lists.client_open ≡ true → j.lists.client_open ≡ true → a.at_client ≡ j.at_client → ⊥
  client-apart l a at other mine is_open opened same =
      other (s.handles l k a j at on mine is_open opened (subst (λ (h : Handle). same_handle a.at_client h ≡ true) same (same-itself a.at_client)))

  client-link : (l : ℕ) (a : Joined) → At w.circuits l a → a.client ≡ j.client → a.lists.client_open ≡ true → is_none (connection_at x.core a.at_client) ≡ false
  client-link l a at mine is_open = s.connected l a x at (subst (λ (m : ℕ). At w.clients m x) (sym mine) client) is_open

  -- what both ends are in this world
  here : Meets (client_end x j) (server_end y j)
  here =
      let st = all k j on in
      subst (λ (q : ClientSide × ServerSide). Meets (client_end q.0 j) (server_end q.1 j)) (λ i. (At-one w.clients j.client st.x x st.client client i, At-one w.servers j.server st.y y st.server server i)) st.meets

  -- ---- up

  -- another circuit of the server
  given-other : (bytes : List ℕ) (core : Server) → Gives y.core j.at_server bytes (Ok tt) core → j.lists.server_open ≡ true → (l : ℕ) (a : Joined) → At w.circuits l a → (l ≡ k → ⊥) → a.server ≡ j.server → Acts (server_end y a) (server_end (record y { core = core }) a)
  given-other bytes core gives opened l a at other mine =
      quiet-server y (record y { core = core }) a (λ is_open.
      let e = seat-of w j.server y l a server seated at mine is_open in (
        e.0,
        e.1,
        subst (λ (q : Server). Stays y.core q a.at_server e.0 []) (sym gives.2)
            (go-end y.core j.at_server a.at_server _ (λ same. other (seated.one l k a j at on mine is_open opened same)) e.0 e.1),
      ))

  given-own : (bytes : List ℕ) (core : Server) (d : Joined) → Gives y.core j.at_server bytes (Ok tt) core → j.lists.server_open ≡ true → d.at_server ≡ j.at_server → d.lists.server_open ≡ j.lists.server_open → sent_down d ≡ sent_down j → length d.lists.handled ≡ length j.lists.handled
      → server_end (record y { core = core }) d ≡ record (server_end y j) { came = (server_end y j).came ++ bytes }
  given-own bytes core d gives opened handle is_open said handled =
      let z : ServerSide = record y { core = core } in
      let e : ServerEnd = gives.0 in
      let f : ServerEnd = record e { link = with_given y.core.moment bytes e.link } in
      let r = given-bytes y.core.moment bytes e.link in
      let has : HasEnd core d.at_server f = subst (λ (q : Server × Handle). HasEnd q.0 q.1 f) (λ i. (sym gives.2 i, sym handle i)) (end-own y.core j.at_server e f gives.1) in
      let came : input_of (under core.circuits d.at_server) ≡ input_of (under y.core.circuits j.at_server) ++ bytes = server-came z d f has ∙ r.0 ∙ ap (λ (q : List ℕ). q ++ bytes) (sym (server-came y j e gives.1)) in
      let waits : waiting_down z d ≡ waiting_down y j = server-waits z d f (is_open ∙ opened) has ∙ r.1 ∙ sym (server-waits y j e opened gives.1) in
      λ i. record { came = came i; waiting = waits i; is_open = is_open i; sent = said i; read = handled i }

  pub up-streams : (new : World) → j.lists.server_open ≡ true → HappensUp w k n j x y new → AllStream new
  up-streams new opened (core, gives, is) = subst (λ (v : World). AllStream v) (sym is) (go j.lists.client_open refl)
    where
      z : ServerSide
      z = record y { core = core }

      go : (b : Bool) → j.lists.client_open ≡ b → AllStream (with_server j.server z (cond b (with_client j.client (record x { core = handed_over j.at_client n x.core }) w) (with_circuit k (record j { left_up = drop n j.left_up }) w)))
      go true is_open l d there =
          let u : ClientSide = record x { core = handed_over j.at_client n x.core } in
          let v : World = with_server j.server z (with_client j.client u w) in
          elim (number-or l k) [
            | inl same ↦
                let one : d ≡ j = At-one w.circuits k d j (subst (λ (m : ℕ). At w.circuits m d) same there) on in
                let e = connected-so (connection_at x.core j.at_client) (s.connected k j x on client is_open) in
                let f = handed-own x.core j.at_client n e.0 e.1 in
                let waits : waiting_up u j ≡ drop n (waiting_up x j) = waits-open u j _ is_open f ∙ ap (λ (q : List ℕ). drop n q) (sym (waits-open x j e.0 is_open e.1)) in
                let came : came_to (connection_at u.core j.at_client) ≡ came_to (connection_at x.core j.at_client) = came-so u.core j.at_client _ f ∙ sym (came-so x.core j.at_client e.0 e.1) in
                let mine : client_end u j ≡ record (client_end x j) { waiting = drop n (waiting_up x j) } =
                λ i. record { came = came i; waiting = waits i; is_open = j.lists.client_open; sent = sent_up j; read = length j.lists.heard } in
                subst (λ (q : Joined). StreamsOn v q) (sym one) (record {
                  x = u;
                  client = set-there w.clients j.client u (At-within w.clients j.client x client);
                  y = z;
                  server = set-there w.servers j.server z (At-within w.servers j.server y server);
                  meets = subst (λ (q : CircuitEnd × CircuitEnd). Meets q.0 q.1) (λ i. (sym mine i, sym (given-own (take n (waiting_up x j)) core j gives opened refl refl refl refl) i)) (meets-moved (client_end x j) (server_end y j) n here);
                })
            | inr other ↦
                both-on w v d d (all l d there)
                (client-or w v j.client x u d d client refl refl
                (λ own. quiet-client x u d (λ q. client-link l d there own q) (λ q. handed-goes x.core j.at_client d.at_client n (client-apart l d there other own q is_open)))
                (λ far q. acts-itself (client_end q d)))
                (server-or w v j.server y z d d server refl refl (λ own. given-other (take n (waiting_up x j)) core gives opened l d there other own) (λ far q. acts-itself (server_end q d)))
          ]
      go false shut l d there =
          let j1 : Joined = record j { left_up = drop n j.left_up } in
          let v : World = with_server j.server z (with_circuit k j1 w) in
          elim (At-set w.circuits k j1 l d there) [
            | inl same ↦
                let waits : waiting_up x j1 ≡ drop n (waiting_up x j) = waits-shut x j1 shut ∙ ap (λ (q : List ℕ). drop n q) (sym (waits-shut x j shut)) in
                let mine : client_end x j1 ≡ record (client_end x j) { waiting = drop n (waiting_up x j) } =
                λ i. record { came = (client_end x j).came; waiting = waits i; is_open = j.lists.client_open; sent = sent_up j; read = length j.lists.heard } in
                subst (λ (q : Joined). StreamsOn v q) (sym same.1) (record {
                  x = x;
                  client = client;
                  y = z;
                  server = set-there w.servers j.server z (At-within w.servers j.server y server);
                  meets = subst (λ (q : CircuitEnd × CircuitEnd). Meets q.0 q.1) (λ i. (sym mine i, sym (given-own (take n (waiting_up x j)) core j1 gives opened refl refl refl refl) i)) (meets-moved (client_end x j) (server_end y j) n here);
                })
            | inr old ↦
                both-on w v d d (all l d old.0) (λ q at. (q, at, acts-itself (client_end q d)))
                (server-or w v j.server y z d d server refl refl (λ own. given-other (take n (waiting_up x j)) core gives opened l d old.0 old.1 own) (λ far q. acts-itself (server_end q d)))
          ]
