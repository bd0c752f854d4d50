-- Events at a client keep bytes as messages: its calls, what is handed out, datagrams, a step, a
-- cut, and a new life.
use Rattle.std.proofs.Common.{◌≡◌, ℕ, ◌+◌, inl, inr, Bool, true, false, ◌&&◌, cond, eqb, List, [], ◌∷◌, ◌++◌, Option, Some, None, refl, sym, ap, ◌∙◌, subst}
use Rattle.std.specs.Prelude.{is_none, length, map, slice_set}
use Rattle.std.proofs.lemmas.Bool.{and_from, both_ways, cases_Bool, eq-eqb, eqb-true}
use Rattle.std.proofs.lemmas.List.{append-nil, length-append}
use Rattle.ca_arena.specs.declared.handle.Handle.{Handle}
use Rattle.ca_dbr.specs.Elements.{Elements}
use Rattle.ca_ids.specs.Table.{same_handle}
use Rattle.ca_link.specs.Link.{TakesFirst, with_rest}
use Rattle.ca_text.specs.Place.{At}
use Rattle.ca_text.proofs.Places.{At-mapped}
use Rattle.ca_text.specs.declared.refusal.Refusal.{Refusal}
use Rattle.ca_wire.specs.Fields.{Fields}
use Rattle.ca_model.specs.Answers.{Closed, Closing, NeedBytes, Notices, Sending, Stepped}
use Rattle.ca_model.specs.Client.{Client, Connection, connection_at, ended, later, out_bytes}
use Rattle.ca_model.specs.ClientEnds.{Receives, ReceivesAll, StepsOn, after_taking}
use Rattle.ca_model.specs.ClientEnds as ends
use Rattle.ca_model.specs.Ends.{Address}
use Rattle.ca_model.specs.Hears.{Effect}
use Rattle.ca_model.specs.History.{Intent, Line, Step}
use Rattle.ca_model.specs.History as history
use Rattle.ca_model.specs.ClientEvents.{HappensClear, HappensClientDatagram, HappensClientRestart, HappensClientStep, HappensCutClient, HappensHandingOut, HappensOpen, HappensRead, HappensSubscribe, HappensUnsubscribe, HappensWrite, HappensWriteNotify, Outcomes, about_at, client_after, client_closed, client_ended, client_gone, client_stepped, heard_in, lines_of, refused}
use Rattle.ca_model.specs.World.{ClientSide, Joined, Names, ServerSide, World, addresses, client_begun, log_length, with_circuit, with_client}
use Rattle.ca_model.proofs.Handles.{same-itself}
use Rattle.ca_laws_parts.specs.Circuit.{sent_to}
use Rattle.ca_laws_parts.specs.Clients.{ClientsStand}
use Rattle.ca_model.proofs.Thinner.{number-or}
use Rattle.ca_laws_parts.specs.Worlds.{AllStream, StreamsOn, client_end, sent_up, server_end}
use Rattle.ca_laws_parts.proofs.Clients.{called, client-acts, client-ends, client-kept, client-shut, client-took, connected-so, out-of, spoke, stepped, up-open, up-shut}
use Rattle.ca_laws_parts.proofs.Links.{AllGoOn, GoesOn, clear-goes, connection-other, connection-own, ended-goes, finds-goes, goes-itself, goes-then, hears-goes, messages_on, effect-goes, messages-both, open-goes, put-goes, read-goes, subscribe-goes, unsubscribe-goes, write-goes}
use Rattle.ca_laws_parts.proofs.Streaming.{Acts}

-- nothing changes but logs
pub same-streams : (w new : World) → new.clients ≡ w.clients → new.servers ≡ w.servers → new.circuits ≡ w.circuits → AllStream w → AllStream new
same-streams w new clients servers circuits all k j at =
    let s = all k j (subst (λ (l : List Joined). At l k j) circuits at) in
    record {
      x = s.x;
      client = subst (λ (l : List ClientSide). At l j.client s.x) (sym clients) s.client;
      y = s.y;
      server = subst (λ (l : List ServerSide). At l j.server s.y) (sym servers) s.server;
      meets = s.meets;
    }

refused-streams : (w new : World) (i : ℕ) (x : ClientSide) (e : Refusal) → new ≡ refused i x e w → AllStream w → AllStream new
refused-streams w new i x e is all = subst (λ (v : World). AllStream v) (sym is) (same-streams w (refused i x e w) refl refl refl all)

-- ---- calls

module _ (w new : World) (i : ℕ) (x : ClientSide) (at : At w.clients i x) (s : ClientsStand w) (all : AllStream w) where
  done : (spoken : Names) (o : Outcomes) → AllGoOn x.core o.core o.sent → new ≡ client_after i x spoken o w → AllStream new
  done spoken o goes is = subst (λ (v : World). AllStream v) (sym is) (called w i x spoken o at s goes all)

  pub open-streams : (name : List ℕ) (priority : ℕ) → HappensOpen w i x name priority new → AllStream new
  open-streams name priority happens = elim happens [
    | inl refusal ↦ refused-streams w new i x refusal.0 refusal.3 all
    | inr did ↦ done _ _ (open-goes x.core did.2 _ did.0 did.1 did.3) did.4
  ]

  pub read-streams : (c : ℕ) (h : Handle) (data_type count : ℕ) → HappensRead w i x c h data_type count new → AllStream new
  read-streams c h data_type count happens = elim happens [
    | inl refusal ↦ refused-streams w new i x refusal.0 refusal.3 all
    | inr did ↦ done _ _ (read-goes x.core did.2 h _ did.0 did.1 did.3) did.4
  ]

  pub put-streams : (c : ℕ) (h : Handle) (e : Elements) → HappensWriteNotify w i x c h e new → AllStream new
  put-streams c h e happens = elim happens [
    | inl refusal ↦ refused-streams w new i x refusal.0 refusal.3 all
    | inr did ↦ done _ _ (put-goes x.core did.2 h e did.0 did.1 did.3) did.4
  ]

  pub write-streams : (c : ℕ) (h : Handle) (e : Elements) → HappensWrite w i x c h e new → AllStream new
  write-streams c h e happens = elim happens [
    | inl refusal ↦ refused-streams w new i x refusal.0 refusal.3 all
    | inr did ↦ done _ _ (write-goes x.core did.2 h e did.0 did.1 did.3) did.4
  ]

  pub subscribe-streams : (c : ℕ) (h : Handle) (data_type count mask : ℕ) → HappensSubscribe w i x c h data_type count mask new → AllStream new
  subscribe-streams c h data_type count mask happens = elim happens [
    | inl refusal ↦ refused-streams w new i x refusal.0 refusal.3 all
    | inr did ↦ done _ _ (subscribe-goes x.core did.2 h _ mask did.0 did.1 did.3) did.4
  ]

  pub unsubscribe-streams : (g : Handle × Intent) → HappensUnsubscribe w i x g new → AllStream new
  unsubscribe-streams g happens = elim happens [
    | inl refusal ↦ refused-streams w new i x refusal.0 refusal.3 all
    | inr did ↦ done _ _ (unsubscribe-goes x.core did.2 g.0 did.0 did.1 did.3) did.4
  ]

  pub clear-streams : (c : ℕ) (h : Handle) → HappensClear w i x c h new → AllStream new
  clear-streams c h happens = elim happens [
    | inl refusal ↦ refused-streams w new i x refusal.0 refusal.3 all
    | inr did ↦ done _ _ (clear-goes x.core did.2 h did.0 did.1 (s.sound i x at).placed did.3) did.4
  ]

  -- ---- datagrams

  received : (from : Address) (z : Client) (m : Fields) (e : Effect) → Receives from z m e → AllGoOn z e.core e.sent
  received from z m e (ends.Search is finds) = finds-goes z _ _ e finds
  received from z m e (ends.Beacon is port does) = effect-goes z _ e [] [] (λ h. goes-itself z (ends.beacon_heard from m z) h refl) does
  received from z m e (ends.Other not_search not_beacon does) = effect-goes z z e [] [] (λ h. goes-itself z z h refl) does

  all-received : (from : Address) (ms : List Fields) (z : Client) (e : Effect) → ReceivesAll from z ms e → AllGoOn z e.core e.sent
  all-received from [] z e does = effect-goes z z e [] [] (λ h. goes-itself z z h refl) does
  all-received from (m ∷ ms) z e does =
      let a : Effect = does.0 in
      let b : Effect = does.1 in
      subst (λ (f : Effect). AllGoOn z f.core f.sent) (sym does.4) (λ h.
      subst (λ (l : List Fields). GoesOn z b.core h l) (sym (messages-both h a.sent b.sent))
      (goes-then z a.core b.core h (messages_on h a.sent) (messages_on h b.sent) (received from z m a does.2 h) (all-received from ms a.core b does.3 h)))

  pub datagram-streams : (from : Address) (bytes : List ℕ) → HappensClientDatagram w i x from bytes new → AllStream new
  datagram-streams from bytes happens =
      let now : Client = record x.core { moment = later w.moment x.core } in
      done _ _ (λ h. goes-then x.core now happens.1 h [] (messages_on h happens.0) (goes-itself x.core now h refl) (all-received from happens.2.0 now (record { core = happens.1; sent = happens.0; notices = [] }) happens.2.2 h)) happens.3

-- ---- what is handed out

pub handing-streams : (w new : World) (x : ClientSide) (number : ℕ) (meant : Intent) (line : Option ℕ → Line) → HappensHandingOut w x number meant line new → AllStream w → AllStream new
handing-streams w new x number meant line happens all =
    same-streams w new (ap (λ (v : World). v.clients) happens.2) (ap (λ (v : World). v.servers) happens.2) (ap (λ (v : World). v.circuits) happens.2) all

-- ---- a step, and a cut

module _ (w : World) (k : ℕ) (j : Joined) (x : ClientSide) (at : At w.circuits k j) (there : At w.clients j.client x) (opened : j.lists.client_open ≡ true) (s : ClientsStand w) (all : AllStream w) where
  -- an open end of another circuit has another handle
  apart : (l : ℕ) (a : Joined) → At w.circuits l a → (l ≡ k → ⊥) → a.client ≡ j.client → a.lists.client_open ≡ true → a.at_client ≡ j.at_client → ⊥
  apart l a on other mine is_open same =
      other (s.handles l k a j on at mine is_open opened (subst (λ (h : Handle). same_handle a.at_client h ≡ true) same (same-itself a.at_client)))

  link : (l : ℕ) (a : Joined) → At w.circuits l a → a.client ≡ j.client → a.lists.client_open ≡ true → is_none (connection_at x.core a.at_client) ≡ false
  link l a on mine is_open = s.connected l a x on (subst (λ (n : ℕ). At w.clients n x) (sym mine) there) is_open

  pub ended-streams : (c : Closing) (core : Client) → c.left ≡ out_bytes x.core j.at_client → core ≡ ended j.at_client x.core → AllStream (client_ended k j x c core w)
  ended-streams c core left is =
      let o : Outcomes = record { core = core; names = x.names; lines = lines_of history.OfCircuit x.names c.notices; sent = [] } in
      let z : ClientSide = record x { core = core; names = x.names } in
      let next : Joined = client_closed c.left j in
      let d = connected-so (connection_at x.core j.at_client) (s.connected k j x at there opened) in
      stepped w k j next x x.names o at there refl refl (λ y. refl)
      (client-ends x z j (sent_to j.client x.names [] next) [] [] d.0 opened refl (up-shut j.client x.names [] next refl ∙ sym (append-nil (sent_up j))) d.1
      (append-nil d.0.link.output ∙ sym (out-of x.core j.at_client d.0 d.1) ∙ sym left ∙ sym (append-nil c.left)))
      (λ l a on other mine.
      spoke j.client x z x.names [] a mine (λ is_open. link l a on mine is_open)
      (λ is_open. subst (λ (v : Client). GoesOn x.core v a.at_client []) (sym is) (ended-goes j.at_client a.at_client x.core (apart l a on other mine is_open)))) all

  pub cut-client-streams : (new : World) → HappensCutClient w k j x new → AllStream new
  cut-client-streams new happens = subst (λ (v : World). AllStream v) (sym happens.4) (ended-streams happens.0 happens.2 (ap (λ (c : Closing). c.left) happens.3.0) happens.3.2)

  heard-streams : (m : Fields) (rest : List ℕ) (d : Connection) (o : Outcomes) (g : Step) → connection_at x.core j.at_client ≡ Some d → TakesFirst d.link m rest
      → AllGoOn (after_taking j.at_client rest x.core) o.core o.sent → AllStream (client_after j.client x x.names o (with_circuit k (heard_in g j) w))
  heard-streams m rest d o g is takes goes =
      let z : ClientSide = record x { core = o.core; names = o.names } in
      let next : Joined = heard_in g j in
      let y : Client = after_taking j.at_client rest x.core in
      let taken : Connection = record d { link = with_rest rest d.link } in
      let here : connection_at y j.at_client ≡ Some taken = connection-own (λ (e : Connection). record e { link = with_rest rest e.link }) j.at_client x.core d is in
      let e = goes j.at_client taken here in
      stepped w k j next x x.names o at there refl refl (λ v. refl)
      (client-took x z j (sent_to j.client x.names o.sent next) (messages_on j.at_client o.sent) d e.0 m takes.0 opened opened (up-open j.client x.names o.sent next refl opened) is e.1 e.3 takes.1
      (takes.2 ∙ ap (λ (l : List ℕ). takes.0 ++ l) (sym e.2)) (length-append j.lists.heard (g ∷ [])))
      (λ l a on other mine.
      spoke j.client x z x.names o.sent a mine (λ is_open. link l a on mine is_open)
      (λ is_open.
      goes-then x.core y o.core a.at_client [] (messages_on a.at_client o.sent)
      (λ b there. (b, connection-other (λ (e : Connection). record e { link = with_rest rest e.link }) j.at_client a.at_client x.core b (apart l a on other mine is_open) there, refl, sym (append-nil b.link.output)))
      (goes a.at_client))) all

  pub client-step-streams : (new : World) → HappensClientStep w k j x new → AllStream new
  client-step-streams new happens = subst (λ (v : World). AllStream v) (sym happens.4) (go (connection_at x.core j.at_client) refl happens.0 happens.1 happens.2 happens.3)
    where
      go : (o : Option Connection) → connection_at x.core j.at_client ≡ o → (did : Stepped) (sent : List Sending) (core : Client) → StepsOn x.core j.at_client o did sent core → AllStream (client_stepped k j x did sent core w)
      go None is did sent core steps = absurd (both_ways (is_none (connection_at x.core j.at_client)) (s.connected k j x at there opened) (ap is_none is))
      go (Some d) is NeedBytes sent core steps = all
      go (Some d) is (Closed c) sent core steps = ended-streams c core (ap (λ (q : Closing). q.left) steps.1.0) steps.1.2
      go (Some d) is (Notices told) sent core steps =
          let lines : List Line = lines_of (about_at j.lists (length j.lists.heard)) x.names told in
          let logged : ℕ = log_length x.life w.client_logs in
          let g : Step = record { sent = length j.lists.up; logged = logged; after = logged + length lines } in
          heard-streams steps.m steps.rest d (record { core = core; names = x.names; lines = lines; sent = sent }) g is steps.first
          (hears-goes (after_taking j.at_client steps.rest x.core) j.at_client steps.m (record { core = core; sent = sent; notices = told }) steps.hears)

-- ---- each circuit of a client

pub mapped : (w new : World) (i : ℕ) (x z : ClientSide) (f : Joined → Joined) → At w.clients i x → new.clients ≡ slice_set w.clients i z → new.servers ≡ w.servers → new.circuits ≡ map f w.circuits
    → ((k : ℕ) (j : Joined) → At w.circuits k j → j.client ≡ i → Acts (client_end x j) (client_end z (f j)))
    → ((v : World) (j : Joined) → (j.client ≡ i → ⊥) → StreamsOn v j → StreamsOn v (f j))
    → ((j : Joined) → ((f j).client ≡ j.client) × ((f j).server ≡ j.server) × ((y : ServerSide) → server_end y (f j) ≡ server_end y j))
    → AllStream w → AllStream new
mapped w new i x z f at clients servers circuits own others like all k d stands =
    let c = At-mapped f w.circuits k d (subst (λ (l : List Joined). At l k d) circuits stands) in
    subst (λ (v : Joined). StreamsOn new v) (sym c.2) (elim (number-or c.0.client i) [
      | inl mine ↦
          client-acts w new i x z c.0 (f c.0) at clients servers mine ((like c.0).0 ∙ mine) (like c.0).1 (like c.0).2 (own k c.0 c.1 mine) (all k c.0 c.1)
      | inr other ↦ others new c.0 other (client-kept w new i z c.0 clients servers other (all k c.0 c.1))
    ])

-- ---- a new life

pub client-restart-streams : (w new : World) (i : ℕ) (x : ClientSide) → At w.clients i x → ClientsStand w → HappensClientRestart w i x new → AllStream w → AllStream new
client-restart-streams w new i x at s happens all =
    let servers : List Address = addresses (map (λ (y : ServerSide). y.setting) w.servers) in
    let z : ClientSide = client_begun servers w.moment (length w.client_logs) x.setting in
    let after : World = with_client i z (record w { circuits = map (client_gone i x) w.circuits; client_logs = w.client_logs ++ [] ∷ [] }) in
    subst (λ (v : World). AllStream v) (sym happens) (mapped w after i x z (client_gone i x) at refl refl refl own others like all)
  where
    begun : ClientSide
    begun = client_begun (addresses (map (λ (y : ServerSide). y.setting) w.servers)) w.moment (length w.client_logs) x.setting

    by : (b : Bool) (j : Joined) → let n : Joined = cond b (client_closed (out_bytes x.core j.at_client) j) j in (n.client ≡ j.client) × (n.server ≡ j.server) × ((y : ServerSide) → server_end y n ≡ server_end y j)
    by true j = (refl, refl, λ y. refl)
    by false j = (refl, refl, λ y. refl)

    like : (j : Joined) → ((client_gone i x j).client ≡ j.client) × ((client_gone i x j).server ≡ j.server) × ((y : ServerSide) → server_end y (client_gone i x j) ≡ server_end y j)
    like j = by (eqb j.client i && j.lists.client_open) j

    ends-it : (k : ℕ) (j : Joined) → At w.circuits k j → j.client ≡ i → j.lists.client_open ≡ true → Acts (client_end x j) (client_end begun (client_closed (out_bytes x.core j.at_client) j))
    ends-it k j on mine opened =
        let d = connected-so (connection_at x.core j.at_client) (s.connected k j x on (subst (λ (n : ℕ). At w.clients n x) (sym mine) at) opened) in
        client-ends x begun j (client_closed (out_bytes x.core j.at_client) j) [] [] d.0 opened refl (sym (append-nil (sent_up j))) d.1
        (append-nil d.0.link.output ∙ sym (out-of x.core j.at_client d.0 d.1) ∙ sym (append-nil (out_bytes x.core j.at_client)))

    own : (k : ℕ) (j : Joined) → At w.circuits k j → j.client ≡ i → Acts (client_end x j) (client_end begun (client_gone i x j))
    own k j on mine = elim (cases_Bool j.lists.client_open) [
      | inl opened ↦
          subst (λ (b : Bool). Acts (client_end x j) (client_end begun (cond b (client_closed (out_bytes x.core j.at_client) j) j))) (sym (and_from (eqb j.client i) j.lists.client_open (eq-eqb j.client i mine) opened)) (ends-it k j on mine opened)
      | inr shut ↦ go (eqb j.client i) j.lists.client_open refl shut
    ]
      where
        go : (a b : Bool) → j.lists.client_open ≡ b → b ≡ false → Acts (client_end x j) (client_end begun (cond (a && b) (client_closed (out_bytes x.core j.at_client) j) j))
        go a true e f = absurd (both_ways true f refl)
        go true false e f = client-shut x begun j j e e refl refl
        go false false e f = client-shut x begun j j e e refl refl

    others : (v : World) (j : Joined) → (j.client ≡ i → ⊥) → StreamsOn v j → StreamsOn v (client_gone i x j)
    others v j other st = go (eqb j.client i) refl
      where
        go : (b : Bool) → eqb j.client i ≡ b → StreamsOn v (cond (b && j.lists.client_open) (client_closed (out_bytes x.core j.at_client) j) j)
        go true e = absurd (other (eqb-true j.client i e))
        go false e = st
