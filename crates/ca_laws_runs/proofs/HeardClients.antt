-- The events of clients keep what was sent by all clients.
use Rattle.std.proofs.Common.{◌≡◌, ℕ, ◌+◌, inl, inr, Bool, true, false, ◌&&◌, cond, eqb, List, [], ◌∷◌, ◌++◌, length, Option, Some, None, refl, sym, ap, ◌∙◌, subst}
use Rattle.std.specs.Prelude.{Ok, drop, is_none, is_some, map, option_and_then, option_map, slice_set, unwrap_or}
use Rattle.std.specs.List.{FoldsTo}
use Rattle.std.proofs.lemmas.Bool.{and_from, both_ways, cases_Bool, eq-eqb}
use Rattle.std.proofs.lemmas.List.{append-nil}
use Rattle.ca_text.specs.Place.{At}
use Rattle.ca_text.specs.declared.command.Command.{Command}
use Rattle.ca_text.specs.declared.refusal.Refusal.{Refusal}
use Rattle.ca_text.proofs.Places.{At-mapped, At-set, At-snoc}
use Rattle.ca_arena.specs.declared.handle.Handle.{Handle}
use Rattle.ca_dbr.specs.Elements.{Elements}
use Rattle.ca_link.specs.Link.{with_handed}
use Rattle.ca_wire.specs.Messages.{header_only}
use Rattle.ca_ids.specs.Table.{same_handle}
use Rattle.ca_model.specs.Answers.{Closed, Closing, Left, NeedBytes, Notices, Sending, Stepped}
use Rattle.ca_model.specs.Answers as answer
use Rattle.ca_model.specs.Client.{Client, ClientCircuit, Connection, connection_at, ended, on_connection, out_bytes, sending}
use Rattle.ca_model.specs.ClientEnds.{ConnectsOn, GivesOn, StepsOn, after_taking, flow_sent, given, handed_over, of_circuit}
use Rattle.ca_model.specs.Hears.{Effect}
use Rattle.ca_model.specs.Ends.{Address}
use Rattle.ca_model.specs.History.{Intent, Line, Sent, Step}
use Rattle.ca_model.specs.History as history
use Rattle.ca_model.specs.Client as client
use Rattle.ca_model.proofs.Standings.{stands-as}
use Rattle.ca_model.proofs.Thinner.{number-or}
use Rattle.ca_model.specs.ClientEvents.{DownTaken, HappensAccept, HappensClear, HappensClientDatagram, HappensClientRestart, HappensClientStep, HappensCutClient, HappensDown, HappensOpen, HappensRead, HappensSubscribe, HappensUnsubscribe, HappensUp, HappensWrite, HappensWriteNotify, Outcomes, TicksOne, WantsFirst, about_at, after_tick, cancelled, client_after, client_closed, client_ended, client_gone, client_stepped, connected_as, heard_in, left_silent, lines_of, new_circuit, refused, sent_on, closing_notices}
use Rattle.ca_model.specs.World.{ClientSide, Joined, Names, ServerSide, World, addresses, client_begun, log_length, with_circuit, with_client, with_server}
use Rattle.ca_laws_parts.specs.Held.{with_request, with_subscription}
use Rattle.ca_laws_parts.specs.Circuit.{sent_to, stamped}
use Rattle.ca_laws_parts.specs.Clients.{ClientsStand}
use Rattle.ca_laws_parts.proofs.ClientsKeep.{none-under}
use Rattle.ca_laws_parts.proofs.ClientsMore.{unconnected-is, wanted-there}
use Rattle.ca_laws_runs.specs.Quiet.{AreAddedApart, AreCids, HaveCids, AreSubIds, ClientsQuiet, Quiet, Tidy}
use Rattle.ca_laws_runs.proofs.Connects.{Connected, connected-so}
use Rattle.ca_laws_runs.proofs.HeardEnds.{cids-still, IsEndAfter, IsSameEnd, after-sent, after-then, all-same, all-set, ids-still, quiet-called, quiet-moved, quiet-same, same-closed, same-end, sent-closed, sent-mine, sent-other}
use Rattle.ca_laws_runs.proofs.Issued.{moved-opened, moved-put, moved-read, moved-subscribed, moved-written}
use Rattle.ca_laws_runs.proofs.Lesser.{Less, less-ended, less-itself, less-on, less-same, less-sending}
use Rattle.ca_laws_runs.proofs.Listened.{moved-all-received, moved-heard, moved-ticked}
use Rattle.ca_laws_runs.proofs.Phased.{moved-before, moved-cleared, moved-unsubscribed, standing-stage}
use Rattle.ca_laws_runs.proofs.AddedApart.{apart-if, apart-said}
use Rattle.ca_laws_runs.proofs.CidsSaid.{cid-none, cids-are, cids-parts, cids-said}
use Rattle.ca_laws_runs.proofs.Says.{Moved, moved-less, moved-less-then, quiet-circuit, quiet-each, said, sub-ids}

-- ---- calls

quiet-refused : (w new : World) (i : ℕ) (x : ClientSide) (e : Refusal) → new ≡ refused i x e w → ClientsQuiet w → ClientsQuiet new
quiet-refused w new i x e is s = subst (λ (v : World). ClientsQuiet v) (sym is) (quiet-same w (refused i x e w) refl (all-same w.circuits) s)

module _ (w new : World) (i : ℕ) (x : ClientSide) (at : At w.clients i x) (stands : ClientsStand w) (s : ClientsQuiet w) where
  pub quiet-open : (name : List ℕ) (priority : ℕ) → HappensOpen w i x name priority new → ClientsQuiet new
  quiet-open name priority happens = elim happens [
    | inl refusal ↦ quiet-refused w new i x refusal.0 refusal.3 s
    | inr did ↦
        let names : Names = record x.names { channels = x.names.channels ++ did.0 ∷ [] } in
        let o : Outcomes = record { core = did.2; names = names; lines = history.Opened (length x.names.channels) name ∷ []; sent = did.1 } in
        subst (λ (v : World). ClientsQuiet v) (sym did.4)
        (quiet-called w i x names o at (moved-opened x.names x.core (record { name = name; priority = priority; now = w.moment }) did.0 did.1 did.2 did.3 (s.tidy i x at)) s)
  ]

  pub quiet-read : (c : ℕ) (h : Handle) (data_type count : ℕ) → At x.names.channels c h → HappensRead w i x c h data_type count new → ClientsQuiet new
  quiet-read c h data_type count named happens = elim happens [
    | inl refusal ↦ quiet-refused w new i x refusal.0 refusal.3 s
    | inr did ↦
        let names : Names = with_request did.0 (history.On c (history.Request history.Read (length x.names.requests))) x.names in
        let o : Outcomes = record { core = did.2; names = names; lines = _; sent = did.1 } in
        subst (λ (v : World). ClientsQuiet v) (sym did.4)
        (quiet-called w i x names o at (moved-read x.names x.core c h (s.tidy i x at) (stands.sound i x at).named.requests named (record { data_type = data_type; count = count }) did.0 did.1 did.2 did.3) s)
  ]

  pub quiet-write-notify : (c : ℕ) (h : Handle) (e : Elements) → At x.names.channels c h → HappensWriteNotify w i x c h e new → ClientsQuiet new
  quiet-write-notify c h e named happens = elim happens [
    | inl refusal ↦ quiet-refused w new i x refusal.0 refusal.3 s
    | inr did ↦
        let names : Names = with_request did.0 (history.On c (history.Request history.Put (length x.names.requests))) x.names in
        let o : Outcomes = record { core = did.2; names = names; lines = _; sent = did.1 } in
        subst (λ (v : World). ClientsQuiet v) (sym did.4)
        (quiet-called w i x names o at (moved-put x.names x.core c h (s.tidy i x at) (stands.sound i x at).named.requests named e did.0 did.1 did.2 did.3) s)
  ]

  pub quiet-write : (c : ℕ) (h : Handle) (e : Elements) → HappensWrite w i x c h e new → ClientsQuiet new
  quiet-write c h e happens = elim happens [
    | inl refusal ↦ quiet-refused w new i x refusal.0 refusal.3 s
    | inr did ↦
        let o : Outcomes = record { core = did.2; names = record x.names { writes = x.names.writes + 1 }; lines = _; sent = did.1 } in
        subst (λ (v : World). ClientsQuiet v) (sym did.4) (quiet-called w i x x.names o at (moved-written x.names x.core h e did.1 did.2 did.3 (s.tidy i x at)) s)
  ]

  pub quiet-subscribe : (c : ℕ) (h : Handle) (data_type count mask : ℕ) → At x.names.channels c h → HappensSubscribe w i x c h data_type count mask new → ClientsQuiet new
  quiet-subscribe c h data_type count mask named happens = elim happens [
    | inl refusal ↦ quiet-refused w new i x refusal.0 refusal.3 s
    | inr did ↦
        let names : Names = with_subscription did.0 (history.On c (history.Subscribe (length x.names.subscriptions))) x.names in
        let o : Outcomes = record { core = did.2; names = names; lines = _; sent = did.1 } in
        subst (λ (v : World). ClientsQuiet v) (sym did.4)
        (quiet-called w i x names o at (moved-subscribed x.names x.core c h (record { data_type = data_type; count = count }) mask did.0 did.1 did.2 did.3 (s.tidy i x at) (stands.sound i x at).named.subscriptions named) s)
  ]

  pub quiet-unsubscribe : (g : Handle × Intent) → HappensUnsubscribe w i x g new → ClientsQuiet new
  quiet-unsubscribe g happens = elim happens [
    | inl refusal ↦ quiet-refused w new i x refusal.0 refusal.3 s
    | inr did ↦
        let o : Outcomes = record { core = did.2; names = x.names; lines = history.Called (cancelled g.1) history.Nothing ∷ []; sent = did.1 } in
        let d = stands-as x.core g.0 did.3.0 did.3.1 in
        subst (λ (v : World). ClientsQuiet v) (sym did.4)
        (quiet-called w i x x.names o at (moved-unsubscribed x.names x.core g.0 did.3.0 (s.tidy i x at) d.0 (standing-stage (did.3.0).stage d.1) did.1 did.2 did.3.3.0 did.3.3.1) s)
  ]

  pub quiet-clear : (c : ℕ) (h : Handle) → HappensClear w i x c h new → ClientsQuiet new
  quiet-clear c h happens = elim happens [
    | inl refusal ↦ quiet-refused w new i x refusal.0 refusal.3 s
    | inr did ↦
        let o : Outcomes = record { core = did.2; names = x.names; lines = history.Called (history.On c history.Clear) history.Nothing ∷ lines_of history.OfCircuit x.names did.0; sent = did.1 } in
        subst (λ (v : World). ClientsQuiet v) (sym did.4) (quiet-called w i x x.names o at (moved-cleared x.names x.core h did.0 did.1 did.2 did.3 (s.tidy i x at)) s)
  ]

  pub quiet-datagram : (from : Address) (bytes : List ℕ) → HappensClientDatagram w i x from bytes new → ClientsQuiet new
  quiet-datagram from bytes happens =
      let now : Client = record x.core { moment = client.later w.moment x.core } in
      let e : Effect = record { core = happens.1; sent = happens.0; notices = [] } in
      subst (λ (v : World). ClientsQuiet v) (sym happens.3)
      (quiet-called w i x x.names (record { core = happens.1; names = x.names; lines = []; sent = happens.0 }) at
      (moved-before x.names x.core now happens.1 happens.0 (less-same x.core now refl refl refl) (s.tidy i x at) (λ u. moved-all-received x.names from happens.2.0 now u e happens.2.2)) s)

-- ---- bytes move

-- messages that serve the circuit
moved-serving : (n : Names) (x : Client) (sends : List Sending) → Tidy n x → ((i : ℕ) (s : Sending) → At sends i s → (stamped n s).intent ≡ history.OfCircuit) → Moved n x n sends n (sending sends x)
moved-serving n x sends t serves =
    moved-less-then n n n x x (sending sends x) sends (record { tidy = t; quiet = λ on up q. quiet-each n x on sends (λ i s l at same quiet. quiet-circuit n x on l (stamped n s) t quiet (serves i s at)) up q; apart = λ on up q were. apart-said n on up sends (λ i s at a m e. serves-not a (history.Subscribe m) (sym (serves i s at) ∙ e)) were; cids = λ on up were. cids-parts n.channels up (said n on sends) were (cids-said n.channels n (λ (z : Sending). same_handle z.circuit on) sends (λ i s at. cid-none n.channels (stamped n s) (λ a. (λ e. serves-not a history.Create (sym (serves i s at) ∙ e), λ e. serves-not a history.Clear (sym (serves i s at) ∙ e))))) }) (less-sending sends x)
  where
    serves-not : (a : ℕ) (ask : history.Ask) → history.OfCircuit ≡ history.On a ask → ⊥
    serves-not a ask e = cc

moved-given : (n : Names) (x : Client) (c : Handle) (bytes : List ℕ) (more : Bool) (o : Option Connection) (sent : List Sending) (y : Client) → GivesOn x c bytes more o (Ok tt) sent y → Tidy n x → Moved n x n sent n y
moved-given n x c bytes more (Some e) sent y gives t =
    let z : Client = given c bytes more x in
    subst (λ (v : List Sending × Client). Moved n x n v.0 n v.1) (λ i. (sym gives.0 i, sym gives.1 i))
    (moved-before n x z (sending (flow_sent c more e) z) (flow_sent c more e) (less-on _ c x) t (λ u. moved-serving n z (flow_sent c more e) u (λ i s at.
    let m = At-mapped (λ (k : Command). of_circuit c (header_only k)) _ i s at in ap (λ (v : Sending). (stamped n v).intent) m.2)))
moved-given n x c bytes more None sent y gives t = absurd gives

less-handed : (c : Handle) (k : ℕ) (x : Client) → Less x (handed_over c k x)
less-handed c k x = go (is_some (connection_at x c))
  where
    go : (b : Bool) → Less x (cond b (on_connection (λ (e : Connection). record e { link = with_handed k e.link }) c x) x)
    go true = less-on _ c x
    go false = less-itself x

module _ (w new : World) (k : ℕ) (j : Joined) (x : ClientSide) (at : At w.circuits k j) (there : At w.clients j.client x) (s : ClientsQuiet w) where
  pub quiet-up : (n : ℕ) (y : ServerSide) → HappensUp w k n j x y new → ClientsQuiet new
  quiet-up n y happens = subst (λ (v : World). ClientsQuiet v) (sym happens.2) (go j.lists.client_open)
    where
      go : (b : Bool) → ClientsQuiet (with_server j.server (record y { core = happens.0 }) (cond b (with_client j.client (record x { core = handed_over j.at_client n x.core }) w) (with_circuit k (record j { left_up = drop n j.left_up }) w)))
      go true =
          let z : ClientSide = record x { core = handed_over j.at_client n x.core } in
          quiet-moved w (with_server j.server (record y { core = happens.0 }) (with_client j.client z w)) j.client x z x.names [] there refl (λ l a stands. (a, stands, nothing-sent a))
          (moved-less x.names x.core z.core (less-handed j.at_client n x.core) (s.tidy j.client x there)) s
        where
          nothing-sent : (a : Joined) → IsEndAfter j.client x.names [] a a
          nothing-sent a = record { client = refl; handle = refl; opens = λ o. o; up = by (eqb a.client j.client && a.lists.client_open) }
            where
              by : (b : Bool) → a.lists.up ≡ a.lists.up ++ cond b [] []
              by true = sym (append-nil a.lists.up)
              by false = sym (append-nil a.lists.up)
      go false =
          quiet-same w (with_server j.server (record y { core = happens.0 }) (with_circuit k (record j { left_up = drop n j.left_up }) w)) refl
          (all-set k j (record j { left_up = drop n j.left_up }) w.circuits at (record { client = refl; handle = refl; opens = λ o. o; up = refl })) s

  pub quiet-down : (n : ℕ) (y : ServerSide) → HappensDown w k n j x y new → ClientsQuiet new
  quiet-down n y happens =
      let mid : World = happens.0 in
      let r = taken n y mid happens.3 in
      let o : Outcomes = record { core = happens.2; names = x.names; lines = []; sent = happens.1 } in
      subst (λ (v : World). ClientsQuiet v) (sym happens.5)
      (quiet-called mid j.client x x.names o (subst (λ (c : List ClientSide). At c j.client x) (sym r.1) there)
      (moved-given x.names x.core j.at_client _ _ (connection_at x.core j.at_client) happens.1 happens.2 happens.4 (s.tidy j.client x there)) r.0)
    where
      taken : (n : ℕ) (y : ServerSide) (mid : World) → DownTaken w k n j y mid → ClientsQuiet mid × (mid.clients ≡ w.clients)
      taken n y mid took = elim took [
        | inl open_it ↦
            subst (λ (v : World). ClientsQuiet v × (v.clients ≡ w.clients)) (sym open_it.1.2)
            (quiet-same w (with_server j.server (record y { core = open_it.1.0 }) w) refl (all-same w.circuits) s, refl)
        | inr closed_it ↦
            subst (λ (v : World). ClientsQuiet v × (v.clients ≡ w.clients)) (sym closed_it.1) (
              quiet-same w (with_circuit k (record j { left_down = drop n j.left_down }) w) refl
                  (all-set k j (record j { left_down = drop n j.left_down }) w.circuits at (record { client = refl; handle = refl; opens = λ o. o; up = refl })) s,
              refl,
            )
      ]

  -- ---- ends

  quiet-ended : (c : Closing) → ClientsQuiet (client_ended k j x c (ended j.at_client x.core) w)
  quiet-ended c =
      let mid : World = with_circuit k (client_closed c.left j) w in
      quiet-called mid j.client x x.names (record { core = ended j.at_client x.core; names = x.names; lines = lines_of history.OfCircuit x.names c.notices; sent = [] }) there
      (moved-less x.names x.core (ended j.at_client x.core) (less-ended j.at_client x.core) (s.tidy j.client x there))
      (quiet-same w mid refl (all-set k j (client_closed c.left j) w.circuits at (same-closed c.left j)) s)

  pub quiet-cut-client : HappensCutClient w k j x new → ClientsQuiet new
  quiet-cut-client happens =
      subst (λ (v : World). ClientsQuiet v) (sym happens.4) (subst (λ (core : Client). ClientsQuiet (client_ended k j x happens.0 core w)) (sym happens.3.2) (quiet-ended happens.0))

  pub quiet-client-step : j.lists.client_open ≡ true → ClientsStand w → HappensClientStep w k j x new → ClientsQuiet new
  quiet-client-step open_it stands happens = subst (λ (v : World). ClientsQuiet v) (sym happens.4) (go (connection_at x.core j.at_client) refl happens.0 happens.1 happens.2 happens.3)
    where
      go : (o : Option Connection) → connection_at x.core j.at_client ≡ o → (did : Stepped) (sent : List Sending) (core : Client) → StepsOn x.core j.at_client o did sent core → ClientsQuiet (client_stepped k j x did sent core w)
      go None is did sent core steps = absurd (both_ways (is_none (connection_at x.core j.at_client)) (stands.connected k j x at there open_it) (ap is_none is))
      go (Some d) is NeedBytes sent core steps = s
      go (Some d) is (Closed c) sent core steps = subst (λ (z : Client). ClientsQuiet (client_ended k j x c z w)) (sym steps.1.2) (quiet-ended c)
      go (Some d) is (Notices told) sent core steps =
          let lines : List Line = lines_of (about_at j.lists (length j.lists.heard)) x.names told in
          let logged : ℕ = log_length x.life w.client_logs in
          let g : Step = record { sent = length j.lists.up; logged = logged; after = logged + length lines } in
          let mid : World = with_circuit k (heard_in g j) w in
          let y : Client = after_taking j.at_client steps.rest x.core in
          let e : Effect = record { core = core; sent = sent; notices = told } in
          quiet-called mid j.client x x.names (record { core = core; names = x.names; lines = lines; sent = sent }) there
          (moved-before x.names x.core y core sent (less-on _ j.at_client x.core) (s.tidy j.client x there) (λ u. moved-heard x.names y u j.at_client steps.m e steps.hears))
          (quiet-same w mid refl (all-set k j (heard_in g j) w.circuits at (record { client = refl; handle = refl; opens = λ o. o; up = refl })) s)

-- ---- a client begins again

pub tidy-new : (servers : List Address) (moment life : ℕ) (g : _) → let z : ClientSide = client_begun servers moment life g in Tidy z.names z.core
tidy-new servers moment life g = record {
  numbered = λ h ch is. absurd (none-under h ch is);
  given = λ i h at. absurd cc;
  once = λ i h at. absurd cc;
  asked = λ i e at. absurd cc;
  subscribed = λ i e at. absurd cc;
  requests = λ q r is. absurd (none-under q r is);
  subscriptions = λ q d is. absurd (none-under q d is);
}

pub quiet-client-restart : (w new : World) (i : ℕ) (x : ClientSide) → At w.clients i x → ClientsQuiet w → HappensClientRestart w i x new → ClientsQuiet new
quiet-client-restart w new i x at s happens = subst (λ (v : World). ClientsQuiet v) (sym happens) (record {
  tidy = λ l y there. elim (At-set w.clients i z l y there) [
    | inl here ↦ subst (λ (v : ClientSide). Tidy v.names v.core) (sym here.1) (tidy-new servers w.moment (length w.client_logs) x.setting)
    | inr old ↦ s.tidy l y old.0
  ];
  quiet = λ k j y stands there open_it.
      let m = At-mapped (client_gone i x) w.circuits k j stands in
      let end : IsSameEnd m.0 j = subst (λ (b : Joined). IsSameEnd m.0 b) (sym m.2) (ends m.0) in
      elim (At-set w.clients i z j.client y there) [
        | inl here ↦ absurd (shut m.0 j m.2 here.0 open_it)
        | inr old ↦
            subst (λ (v : Handle × List Sent). Quiet y.names y.core v.0 v.1) (λ i. (sym end.handle i, sym end.up i))
            (s.quiet k m.0 y m.1 (subst (λ (c : ℕ). At w.clients c y) end.client old.0) (end.opens open_it))
      ];
  ids = λ k j stands.
      let m = At-mapped (client_gone i x) w.circuits k j stands in
      let end : IsSameEnd m.0 j = subst (λ (b : Joined). IsSameEnd m.0 b) (sym m.2) (ends m.0) in
      subst (λ (l : List Sent). AreSubIds l) (sym end.up) (s.ids k m.0 m.1);
  apart = λ k j stands.
      let m = At-mapped (client_gone i x) w.circuits k j stands in
      let end : IsSameEnd m.0 j = subst (λ (b : Joined). IsSameEnd m.0 b) (sym m.2) (ends m.0) in
      subst (λ (l : List Sent). AreAddedApart l) (sym end.up) (s.apart k m.0 m.1);
  named = λ k j y stands there open_it.
      let m = At-mapped (client_gone i x) w.circuits k j stands in
      let end : IsSameEnd m.0 j = subst (λ (b : Joined). IsSameEnd m.0 b) (sym m.2) (ends m.0) in
      elim (At-set w.clients i z j.client y there) [
        | inl here ↦ absurd (shut m.0 j m.2 here.0 open_it)
        | inr old ↦ subst (λ (l : List Sent). HaveCids y.names.channels l) (sym end.up) (s.named k m.0 y m.1 (subst (λ (c : ℕ). At w.clients c y) end.client old.0) (end.opens open_it))
      ];
  cids = λ k j stands.
      let m = At-mapped (client_gone i x) w.circuits k j stands in
      let end : IsSameEnd m.0 j = subst (λ (b : Joined). IsSameEnd m.0 b) (sym m.2) (ends m.0) in
      subst (λ (l : List Sent). AreCids l) (sym end.up) (s.cids k m.0 m.1);
})
  where
    servers : List Address
    servers = addresses (map (λ (y : ServerSide). y.setting) w.servers)

    z : ClientSide
    z = client_begun servers w.moment (length w.client_logs) x.setting

    by : (b : Bool) (a : Joined) → IsSameEnd a (cond b (client_closed (out_bytes x.core a.at_client) a) a)
    by true a = same-closed _ a
    by false a = same-end a

    ends : (a : Joined) → IsSameEnd a (client_gone i x a)
    ends a = by (eqb a.client i && a.lists.client_open) a

    shut : (a j : Joined) → j ≡ client_gone i x a → j.client ≡ i → j.lists.client_open ≡ true → ⊥
    shut a j is mine open_it = go (eqb a.client i && a.lists.client_open) refl (ap (λ (z : Joined). z.lists.client_open) is)
      where
        mine_too : a.client ≡ i
        mine_too = sym (ends a).client ∙ sym (ap (λ (z : Joined). z.client) is) ∙ mine

        go : (b : Bool) → (eqb a.client i && a.lists.client_open) ≡ b → j.lists.client_open ≡ (cond b (client_closed (out_bytes x.core a.at_client) a) a).lists.client_open → ⊥
        go true e f = both_ways false refl (sym f ∙ open_it)
        go false e f = both_ways (eqb a.client i && a.lists.client_open) e (and_from (eqb a.client i) a.lists.client_open (eq-eqb a.client i mine_too) (sym f ∙ open_it))

-- ---- a circuit is made

abbrev connection-of : Option ClientCircuit → Option Connection
connection-of o = option_and_then (λ (d : ClientCircuit). d.connection) o

same-client : (k : Option Closing) (n : Joined) → (connected_as k n).client ≡ n.client
same-client None n = refl
same-client (Some e) n = refl

same-handle-of : (k : Option Closing) (n : Joined) → (connected_as k n).at_client ≡ n.at_client
same-handle-of None n = refl
same-handle-of (Some e) n = refl

same-up : (k : Option Closing) (n : Joined) → (connected_as k n).lists.up ≡ n.lists.up
same-up None n = refl
same-up (Some e) n = refl

open-or : (k : Option Closing) (n : Joined) → (connected_as k n).lists.client_open ≡ true → k ≡ None
open-or None n is = refl
open-or (Some e) n is = absurd (both_ways false refl is)

-- one circuit more
quiet-joined : (w : World) (i : ℕ) (x : ClientSide) (core : Client) (sent : List Sending) (lines : List Line) (n : Joined) (servers : List ServerSide) → At w.clients i x → n.client ≡ i → n.lists.up ≡ [] → is_none (connection_at x.core n.at_client) ≡ true → ClientsStand w
    → Connected x.names x.core n.at_client sent core → (n.lists.client_open ≡ true → Quiet x.names core n.at_client (said x.names n.at_client sent)) → ClientsQuiet w
    → ClientsQuiet (client_after i x x.names (record { core = core; names = x.names; lines = lines; sent = sent }) (record w { servers = servers; circuits = w.circuits ++ n ∷ [] }))
quiet-joined w i x core sent lines n servers at mine empty none stands connected now s = record {
  tidy = λ l y there. elim (At-set w.clients i z l y there) [
    | inl here ↦ subst (λ (v : ClientSide). Tidy v.names v.core) (sym here.1) connected.tidy
    | inr old ↦ s.tidy l y old.0
  ];
  quiet = λ k j y stood there open_it.
      let m = after-sent i x.names sent (w.circuits ++ n ∷ []) k j stood in
      let e = m.2 in
      elim (At-snoc w.circuits n k m.0 m.1) [
        | inl was ↦ elim (At-set w.clients i z j.client y there) [
          | inl here ↦
              let ours : m.0.client ≡ i = sym e.client ∙ here.0 in
              let of_x : At w.clients m.0.client x = subst (λ (c : ℕ). At w.clients c x) (sym ours) at in
              let away : n.at_client ≡ m.0.at_client → ⊥ = λ same. both_ways (is_none (connection_at x.core m.0.at_client)) (stands.connected k m.0 x was of_x (e.opens open_it)) (subst (λ (h : Handle). is_none (connection_at x.core h) ≡ true) same none) in
              let up : j.lists.up ≡ m.0.lists.up ++ said x.names m.0.at_client sent = e.up ∙ ap (λ (l : List Sent). m.0.lists.up ++ l) (sent-mine i x.names sent m.0 ours (e.opens open_it)) in
              subst (λ (v : ClientSide). Quiet v.names v.core j.at_client j.lists.up) (sym here.1)
              (subst (λ (v : Handle × List Sent). Quiet x.names core v.0 v.1) (λ i. (sym e.handle i, sym up i)) (connected.others m.0.at_client m.0.lists.up away (s.quiet k m.0 x was of_x (e.opens open_it))))
          | inr old ↦
              let other : m.0.client ≡ i → ⊥ = λ same. old.1 (e.client ∙ same) in
              let up : j.lists.up ≡ m.0.lists.up = e.up ∙ ap (λ (l : List Sent). m.0.lists.up ++ l) (sent-other i x.names sent m.0 other) ∙ append-nil m.0.lists.up in
              subst (λ (v : Handle × List Sent). Quiet y.names y.core v.0 v.1) (λ i. (sym e.handle i, sym up i)) (s.quiet k m.0 y was (subst (λ (c : ℕ). At w.clients c y) e.client old.0) (e.opens open_it))
        ]
        | inr last ↦
            let ours : m.0.client ≡ i = ap (λ (v : Joined). v.client) last.1 ∙ mine in
            let opened : m.0.lists.client_open ≡ true = e.opens open_it in
            let up : j.lists.up ≡ said x.names n.at_client sent =
            e.up ∙ ap (λ (l : List Sent). l ++ sent_on i x.names sent m.0) (ap (λ (v : Joined). v.lists.up) last.1 ∙ empty) ∙ sent-mine i x.names sent m.0 ours opened
            ∙ ap (λ (v : Joined). said x.names v.at_client sent) last.1 in
            elim (At-set w.clients i z j.client y there) [
              | inl here ↦
                  subst (λ (v : ClientSide). Quiet v.names v.core j.at_client j.lists.up) (sym here.1)
                  (subst (λ (v : Handle × List Sent). Quiet x.names core v.0 v.1) (λ i. (sym (e.handle ∙ ap (λ (v : Joined). v.at_client) last.1) i, sym up i)) (now (ap (λ (v : Joined). v.lists.client_open) (sym last.1) ∙ opened)))
              | inr old ↦ absurd (old.1 (e.client ∙ ours))
            ]
      ];
  ids = λ k j stood.
      let m = after-sent i x.names sent (w.circuits ++ n ∷ []) k j stood in
      let e = m.2 in
      elim (cases_Bool m.0.lists.client_open) [
        | inr shut ↦ ids-still i x.names sent m.0 j e (sent-closed i x.names sent m.0 shut) (elim (At-snoc w.circuits n k m.0 m.1) [
          | inl was ↦ s.ids k m.0 was
          | inr last ↦ subst (λ (l : List Sent). AreSubIds l) (sym (ap (λ (v : Joined). v.lists.up) last.1 ∙ empty)) nothing
        ])
        | inl opened ↦ elim (number-or m.0.client i) [
          | inr other ↦ ids-still i x.names sent m.0 j e (sent-other i x.names sent m.0 other) (elim (At-snoc w.circuits n k m.0 m.1) [
            | inl was ↦ s.ids k m.0 was
            | inr last ↦ subst (λ (l : List Sent). AreSubIds l) (sym (ap (λ (v : Joined). v.lists.up) last.1 ∙ empty)) nothing
          ])
          | inl ours ↦ elim (At-snoc w.circuits n k m.0 m.1) [
            | inl was ↦
                let of_x : At w.clients m.0.client x = subst (λ (c : ℕ). At w.clients c x) (sym ours) at in
                let away : n.at_client ≡ m.0.at_client → ⊥ = λ same. both_ways (is_none (connection_at x.core m.0.at_client)) (stands.connected k m.0 x was of_x opened) (subst (λ (h : Handle). is_none (connection_at x.core h) ≡ true) same none) in
                subst (λ (l : List Sent). AreSubIds l) (sym (e.up ∙ ap (λ (l : List Sent). m.0.lists.up ++ l) (sent-mine i x.names sent m.0 ours opened)))
                (sub-ids x.names core m.0.at_client (m.0.lists.up ++ said x.names m.0.at_client sent) (connected.others m.0.at_client m.0.lists.up away (s.quiet k m.0 x was of_x opened)))
            | inr last ↦
                let up : j.lists.up ≡ said x.names n.at_client sent =
                e.up ∙ ap (λ (l : List Sent). l ++ sent_on i x.names sent m.0) (ap (λ (v : Joined). v.lists.up) last.1 ∙ empty) ∙ sent-mine i x.names sent m.0 ours opened ∙ ap (λ (v : Joined). said x.names v.at_client sent) last.1 in
                subst (λ (l : List Sent). AreSubIds l) (sym up) (sub-ids x.names core n.at_client (said x.names n.at_client sent) (now (ap (λ (v : Joined). v.lists.client_open) (sym last.1) ∙ opened)))
          ]
        ]
      ];
  apart = λ k j stood.
      let m = after-sent i x.names sent (w.circuits ++ n ∷ []) k j stood in
      subst (λ (l : List Sent). AreAddedApart l) (sym (m.2).up)
      (apart-if x.names m.0.at_client m.0.lists.up sent (eqb m.0.client i && m.0.lists.client_open) connected.plain (elim (At-snoc w.circuits n k m.0 m.1) [
        | inl was ↦ s.apart k m.0 was
        | inr last ↦ subst (λ (l : List Sent). AreAddedApart l) (sym (ap (λ (v : Joined). v.lists.up) last.1 ∙ empty)) none-apart
      ]));
  named = λ k j y stood there open_it.
      let m = after-sent i x.names sent (w.circuits ++ n ∷ []) k j stood in
      elim (At-set w.clients i z j.client y there) [
        | inl here ↦
            subst (λ (v : ClientSide). HaveCids v.names.channels j.lists.up) (sym here.1)
            (mine-named k j m.0 m.1 m.2 (sym (m.2).client ∙ here.0) ((m.2).opens open_it))
        | inr old ↦ elim (At-snoc w.circuits n k m.0 m.1) [
          | inl was ↦
              let other : m.0.client ≡ i → ⊥ = λ same. old.1 ((m.2).client ∙ same) in
              let up : j.lists.up ≡ m.0.lists.up = (m.2).up ∙ ap (λ (l : List Sent). m.0.lists.up ++ l) (sent-other i x.names sent m.0 other) ∙ append-nil m.0.lists.up in
              subst (λ (l : List Sent). HaveCids y.names.channels l) (sym up) (s.named k m.0 y was (subst (λ (c : ℕ). At w.clients c y) (m.2).client old.0) ((m.2).opens open_it))
          | inr last ↦ absurd (old.1 ((m.2).client ∙ ap (λ (v : Joined). v.client) last.1 ∙ mine))
        ]
      ];
  cids = λ k j stood.
      let m = after-sent i x.names sent (w.circuits ++ n ∷ []) k j stood in
      elim (cases_Bool m.0.lists.client_open) [
        | inr shut ↦ cids-still i x.names sent m.0 j m.2 (sent-closed i x.names sent m.0 shut) (was-cids k m.0 m.1)
        | inl opened ↦ elim (number-or m.0.client i) [
          | inr other ↦ cids-still i x.names sent m.0 j m.2 (sent-other i x.names sent m.0 other) (was-cids k m.0 m.1)
          | inl ours ↦ cids-are x.names.channels j.lists.up (mine-named k j m.0 m.1 m.2 ours opened)
        ]
      ];
}
  where
    empty-cids : HaveCids x.names.channels []
    empty-cids p r at = absurd cc

    was-cids : (k : ℕ) (a : Joined) → At (w.circuits ++ n ∷ []) k a → AreCids a.lists.up
    was-cids k a at_a = elim (At-snoc w.circuits n k a at_a) [
      | inl was ↦ s.cids k a was
      | inr last ↦ subst (λ (l : List Sent). AreCids l) (sym (ap (λ (v : Joined). v.lists.up) last.1 ∙ empty)) (cids-are x.names.channels [] empty-cids)
    ]

    mine-named : (k : ℕ) (j a : Joined) → At (w.circuits ++ n ∷ []) k a → IsEndAfter i x.names sent a j → a.client ≡ i → a.lists.client_open ≡ true → HaveCids x.names.channels j.lists.up
    mine-named k j a at_a end ours opened =
        subst (λ (l : List Sent). HaveCids x.names.channels l) (sym (end.up ∙ ap (λ (l : List Sent). a.lists.up ++ l) (sent-mine i x.names sent a ours opened)))
        (cids-parts x.names.channels a.lists.up (said x.names a.at_client sent) before (cids-said x.names.channels x.names (λ (v : Sending). same_handle v.circuit a.at_client) sent connected.cids))
      where
        before : HaveCids x.names.channels a.lists.up
        before = elim (At-snoc w.circuits n k a at_a) [
          | inl was ↦ s.named k a x was (subst (λ (c : ℕ). At w.clients c x) (sym ours) at) opened
          | inr last ↦ subst (λ (l : List Sent). HaveCids x.names.channels l) (sym (ap (λ (v : Joined). v.lists.up) last.1 ∙ empty)) empty-cids
        ]

    none-apart : AreAddedApart []
    none-apart p q a b r v lt there = absurd (no-sent p r there)
      where
        no-sent : (p : ℕ) (r : Sent) → (let l : List Sent = [] in At l p r) → ⊥
        no-sent p r at = cc

    nothing : AreSubIds []
    nothing p q a b m r v at there adds cancels = absurd (no-sent p r at)
      where
        no-sent : (p : ℕ) (r : Sent) → (let l : List Sent = [] in At l p r) → ⊥
        no-sent p r at = cc

    z : ClientSide
    z = record x { core = core; names = x.names }

pub quiet-accept : (w new : World) (c : ℕ) (x : ClientSide) (v : WantsFirst w x) → At w.clients c x → ClientsStand w → ClientsQuiet w → HappensAccept w c x v new → ClientsQuiet new
quiet-accept w new c x v at stands s happens = elim happens.leaves [
  | inl refusal ↦ subst (λ (u : World). ClientsQuiet u) (sym refusal.1) s
  | inr did ↦
      let k : Option Closing = did.1 in
      let core : Client = did.3 in
      let on : Handle = v.v.circuit in
      let there = wanted-there x.core v.place v.v v.at in
      let r = connected-so x.names x.core on there.0 (s.tidy c x at) (stands.sound c x at).placed there.1 there.2 k did.2 core (subst (λ (o : Option ClientCircuit). ConnectsOn x.core on o k did.2 core) (unconnected-is x.core on there.0 there.1 there.2) did.5) in
      let first : Joined = new_circuit c x on v.i v.y did.0 in
      let n : Joined = connected_as k first in
      let handle : n.at_client ≡ on = same-handle-of k first in
      let none : is_none (connection_at x.core on) ≡ true = ap (λ (w : Option ClientCircuit). is_none (connection-of w)) there.1 ∙ ap is_none there.2 in
      subst (λ (u : World). ClientsQuiet u) (sym did.6)
      (quiet-joined w c x core did.2 (lines_of history.OfCircuit x.names (closing_notices k)) n (slice_set w.servers v.i (record v.y { core = happens.server })) at (same-client k first) (same-up k first)
      (subst (λ (h : Handle). is_none (connection_at x.core h) ≡ true) (sym handle) none) stands (subst (λ (h : Handle). Connected x.names x.core h did.2 core) (sym handle) r.0)
      (λ open_it. subst (λ (h : Handle). Quiet x.names core h (said x.names h did.2)) (sym handle) (r.1 (open-or k first open_it))) s)
]

-- ---- a moment

module _ (i : ℕ) (closings : List Left) where
  closes : (b : Bool) (o : Option (List ℕ)) (a : Joined) → IsSameEnd a (cond b (unwrap_or (option_map (λ (left : List ℕ). client_closed left a) o) a) a)
  closes true (Some left) a = same-closed left a
  closes true None a = same-end a
  closes false o a = same-end a

  tick-ends : (a : Joined) → IsSameEnd a (after_tick i closings a)
  tick-ends a = closes (eqb a.client i && a.lists.client_open) (left_silent closings a) a

abbrev left-by : (moment : ℕ) → World → ℕ → ClientSide → List Sending → answer.Ticked → Client → World
left-by moment w i x sent t core =
    let o : Outcomes = record { core = core; names = x.names; lines = lines_of history.OfCircuit x.names t.notices; sent = sent } in
    let after : World = client_after i x x.names o w in
    record after { circuits = map (after_tick i t.closings) after.circuits }

ticks-one-quiet : (moment : ℕ) (w : World) (i : ℕ) (new : World) → ClientsQuiet w → TicksOne moment w i new → ClientsQuiet new
ticks-one-quiet moment w i new s happens =
    let x : ClientSide = happens.0 in
    let does = happens.5 in
    let made : Moved x.names x.core x.names happens.3 x.names happens.4 = subst (λ (v : List Sending × Client). Moved x.names x.core x.names v.0 x.names v.1) (λ k. (sym does.1 k, sym does.2 k)) (moved-ticked x.names moment x.core (s.tidy i x happens.1)) in
    subst (λ (v : World). ClientsQuiet v) (sym happens.6)
    (quiet-moved w (left-by moment w i x happens.3 happens.2 happens.4) i x (record x { core = happens.4; names = x.names }) x.names happens.3 happens.1 refl
    (λ k j stood.
    let m = At-mapped (after_tick i (happens.2).closings) (map (sent_to i x.names happens.3) w.circuits) k j stood in
    let a = after-sent i x.names happens.3 w.circuits k m.0 m.1 in
    (a.0, a.1, after-then i x.names happens.3 a.0 m.0 j a.2 (subst (λ (b : Joined). IsSameEnd m.0 b) (sym m.2) (tick-ends i (happens.2).closings m.0)))) made s)

pub quiet-ticks : (moment : ℕ) (clients : List ℕ) (w new : World) → ClientsQuiet w → FoldsTo (TicksOne moment) w clients new → ClientsQuiet new
quiet-ticks moment [] w new s folds = subst (λ (v : World). ClientsQuiet v) folds s
quiet-ticks moment (i ∷ clients) w new s folds = quiet-ticks moment clients folds.0 new (ticks-one-quiet moment w i folds.0 s folds.1) folds.2
