-- The events of clients keep what clients have of their circuits.
use Rattle.std.proofs.Common.{◌≡◌, ℕ, ◌+◌, inl, inr, Bool, true, false, ◌&&◌, cond, eqb, List, [], ◌∷◌, ◌++◌, length, Option, Some, None, refl, sym, ap, ◌∙◌, subst}
use Rattle.std.specs.Prelude.{Ok, nat_lt, take, drop, is_some, map, slice_set}
use Rattle.std.proofs.lemmas.Bool.{and_from, both_ways, eq-eqb}
use Rattle.std.proofs.lemmas.List.{append-nil}
use Rattle.ca_text.specs.Place.{At}
use Rattle.ca_text.specs.declared.refusal.Refusal.{Refusal}
use Rattle.ca_text.proofs.Places.{At-mapped, At-one, At-set}
use Rattle.ca_arena.specs.declared.handle.Handle.{Handle}
use Rattle.ca_dbr.specs.Elements.{Elements}
use Rattle.ca_ids.specs.Table.{same_handle}
use Rattle.ca_link.specs.Link.{with_handed}
use Rattle.ca_text.specs.declared.command.Command.{Command}
use Rattle.ca_wire.specs.Messages.{header_only}
use Rattle.ca_model.specs.Answers.{Closing, Sending}
use Rattle.ca_model.specs.Client.{Client, Connection, On, connection_at, ended, on_connection}
use Rattle.ca_model.specs.Client as client
use Rattle.ca_model.specs.ClientEnds.{GivesOn, flow_sent, handed_over, of_circuit}
use Rattle.ca_model.specs.Ends.{Address}
use Rattle.ca_model.specs.Hears.{Effect}
use Rattle.ca_model.specs.History.{Circuit, Create, Intent, Sent}
use Rattle.ca_model.specs.History as history
use Rattle.ca_model.proofs.Handles.{same-itself}
use Rattle.ca_model.proofs.Standings.{stands-as}
use Rattle.ca_model.specs.ClientEvents.{DownTaken, HappensClear, HappensClientDatagram, HappensClientRestart, HappensCutClient, HappensDown, HappensOpen, HappensRead, HappensSubscribe, HappensUnsubscribe, HappensUp, HappensWrite, HappensWriteNotify, Outcomes, cancelled, channel_number, client_after, client_closed, client_ended, client_gone, lines_of, refused, sent_on, waiting_down}
use Rattle.ca_model.specs.World.{ClientSide, Joined, Names, ServerSide, World, addresses, client_begun, with_circuit, with_client, with_server}
use Rattle.ca_laws_parts.specs.Held.{with_request, with_subscription}
use Rattle.ca_laws_parts.specs.Circuit.{sent_to, stamped}
use Rattle.ca_laws_parts.specs.Clients.{ClientsStand}
use Rattle.ca_laws_runs.specs.Quiet.{Tidy}
use Rattle.ca_laws_runs.proofs.Says.{said}
use Rattle.ca_laws_runs.specs.Sides.{AllSided, IsLiveAs, Right, Sides}
use Rattle.ca_laws_runs.proofs.Calls.{calm-all-received, none-said, number-more, serving, way-silent, ways-clear, ways-given, ways-open, ways-put, ways-read, ways-subscribe, ways-unsubscribe, ways-write}
use Rattle.ca_laws_runs.proofs.Ends.{AllAfter, FactsFor, IsEndAfter, after-sent, end-of, sided-by, sided-called, sided-ways}
use Rattle.ca_laws_runs.proofs.Live.{live-as, same-ended}
use Rattle.ca_laws_runs.proofs.Ways.{Way}

-- ---- lists as they were

-- the same clients, and circuits with the same ends and lists
pub sided-lists : (w new : World) → new.clients ≡ w.clients → ((k : ℕ) (j : Joined) → At new.circuits k j → (a : Joined) × At w.circuits k a × (j.client ≡ a.client) × (j.at_client ≡ a.at_client) × (j.lists ≡ a.lists)) → AllSided w → AllSided new
sided-lists w new same ends s = record {
  sides = λ k j x at there open_it.
      let p = ends k j at in
      let client_at : At w.clients p.0.client x = subst (λ (v : ℕ). At w.clients v x) p.2 (subst (λ (l : List ClientSide). At l j.client x) same there) in
      subst (λ (v : Handle × Circuit). Sides x.names x.core v.0 v.1) (λ i. (sym p.3 i, sym p.4 i)) (s.sides k p.0 x p.1 client_at (ap (λ (c : Circuit). c.client_open) (sym p.4) ∙ open_it));
  right = λ k j at. (let p = ends k j at in subst (λ (v : Circuit). Right v) (sym p.4) (s.right k p.0 p.1));
}

lists-set : (w : World) (k : ℕ) (j new : Joined) → At w.circuits k j → new.client ≡ j.client → new.at_client ≡ j.at_client → new.lists ≡ j.lists → (l : ℕ) (d : Joined) → At (slice_set w.circuits k new) l d → (a : Joined) × At w.circuits l a × (d.client ≡ a.client) × (d.at_client ≡ a.at_client) × (d.lists ≡ a.lists)
lists-set w k j new at client handle lists l d there = elim (At-set w.circuits k new l d there) [
  | inl here ↦ (j, subst (λ (v : ℕ). At w.circuits v j) (sym here.0) at, ap (λ (v : Joined). v.client) here.1 ∙ client, ap (λ (v : Joined). v.at_client) here.1 ∙ handle, ap (λ (v : Joined). v.lists) here.1 ∙ lists)
  | inr old ↦ (d, old.0, refl, refl, refl)
]

nothing-on : (i : ℕ) (n : Names) (a : Joined) → sent_on i n [] a ≡ []
nothing-on i n a = go (eqb a.client i && a.lists.client_open)
  where
    go : (b : Bool) → (let none : List Sent = [] in cond b none none ≡ none)
    go true = refl
    go false = refl

-- ---- calls

pub sided-refused : (w new : World) (i : ℕ) (x : ClientSide) (e : Refusal) → new ≡ refused i x e w → AllSided w → AllSided new
sided-refused w new i x e is s = subst (λ (v : World). AllSided v) (sym is) (record { sides = s.sides; right = s.right })

module _ (w new : World) (i : ℕ) (x : ClientSide) (at : At w.clients i x) (tidy : Tidy x.names x.core) (stands : ClientsStand w) (facts : FactsFor w new) (s : AllSided w) where
  done : (spoken : Names) (o : Outcomes) → new ≡ client_after i x spoken o w → ((on : Handle) → Way on x.names x.core (said spoken on o.sent) o.core) → ((h : Handle) (sid : ℕ) (on : Handle) → IsLiveAs x.core.channels on h sid → channel_number o.names h ≡ channel_number x.names h) → AllSided new
  done spoken o is ways numbers = subst (λ (v : World). AllSided v) (sym is) (sided-called w i x spoken o at ways (subst (λ (v : World). FactsFor w v) is facts) numbers s)

  pub sided-open : (name : List ℕ) (priority : ℕ) → HappensOpen w i x name priority new → AllSided new
  sided-open name priority happens = elim happens [
    | inl refusal ↦ sided-refused w new i x refusal.0 refusal.3 s
    | inr did ↦
        let names : Names = record x.names { channels = x.names.channels ++ did.0 ∷ [] } in
        let o : Outcomes = record { core = did.2; names = names; lines = history.Opened (length x.names.channels) name ∷ []; sent = did.1 } in
        done names o did.4 (ways-open x.names x.core (record { name = name; priority = priority; now = w.moment }) did.0 did.1 did.2 did.3 names) (λ h sid on l. number-more x.names x.core did.0 h sid on tidy.numbered l)
  ]

  pub sided-read : (c : ℕ) (h : Handle) (data_type count : ℕ) → At x.names.channels c h → HappensRead w i x c h data_type count new → AllSided new
  sided-read c h data_type count named happens = elim happens [
    | inl refusal ↦ sided-refused w new i x refusal.0 refusal.3 s
    | inr did ↦
        let names : Names = with_request did.0 (history.On c (history.Request history.Read (length x.names.requests))) x.names in
        let o : Outcomes = record { core = did.2; names = names; lines = history.Called (history.On c (history.Request history.Read (length x.names.requests))) (history.ToRead data_type count) ∷ []; sent = did.1 } in
        done names o did.4 (ways-read x.names x.core c h tidy named (stands.sound i x at).named.requests (record { data_type = data_type; count = count }) did.0 did.1 did.2 did.3) (λ g sid on l. refl)
  ]

  pub sided-write-notify : (c : ℕ) (h : Handle) (e : Elements) → At x.names.channels c h → HappensWriteNotify w i x c h e new → AllSided new
  sided-write-notify c h e named happens = elim happens [
    | inl refusal ↦ sided-refused w new i x refusal.0 refusal.3 s
    | inr did ↦
        let names : Names = with_request did.0 (history.On c (history.Request history.Put (length x.names.requests))) x.names in
        let o : Outcomes = record { core = did.2; names = names; lines = history.Called (history.On c (history.Request history.Put (length x.names.requests))) (history.ToWrite e) ∷ []; sent = did.1 } in
        done names o did.4 (ways-put x.names x.core c h tidy named (stands.sound i x at).named.requests e did.0 did.1 did.2 did.3) (λ g sid on l. refl)
  ]

  pub sided-write : (c : ℕ) (h : Handle) (e : Elements) → HappensWrite w i x c h e new → AllSided new
  sided-write c h e happens = elim happens [
    | inl refusal ↦ sided-refused w new i x refusal.0 refusal.3 s
    | inr did ↦
        let o : Outcomes = record { core = did.2; names = record x.names { writes = x.names.writes + 1 }; lines = history.Called (history.On c (history.Request history.Write x.names.writes)) (history.ToWrite e) ∷ []; sent = did.1 } in
        done x.names o did.4 (ways-write x.names x.core h e did.1 did.2 did.3) (λ g sid on l. refl)
  ]

  pub sided-subscribe : (c : ℕ) (h : Handle) (data_type count mask : ℕ) → At x.names.channels c h → HappensSubscribe w i x c h data_type count mask new → AllSided new
  sided-subscribe c h data_type count mask named happens = elim happens [
    | inl refusal ↦ sided-refused w new i x refusal.0 refusal.3 s
    | inr did ↦
        let meant : Intent = history.On c (history.Subscribe (length x.names.subscriptions)) in
        let names : Names = with_subscription did.0 meant x.names in
        let o : Outcomes = record { core = did.2; names = names; lines = history.Called meant (history.ToWatch data_type count mask) ∷ []; sent = did.1 } in
        done names o did.4 (ways-subscribe x.names x.core c h tidy named (stands.sound i x at).named.subscriptions (record { data_type = data_type; count = count }) mask did.0 did.1 did.2 did.3) (λ g sid on l. refl)
  ]

  pub sided-unsubscribe : (g : Handle × Intent) → HappensUnsubscribe w i x g new → AllSided new
  sided-unsubscribe g happens = elim happens [
    | inl refusal ↦ sided-refused w new i x refusal.0 refusal.3 s
    | inr did ↦
        let o : Outcomes = record { core = did.2; names = x.names; lines = history.Called (cancelled g.1) history.Nothing ∷ []; sent = did.1 } in
        let d = stands-as x.core g.0 did.3.0 did.3.1 in
        done x.names o did.4 (ways-unsubscribe x.names x.core g.0 did.3.0 tidy d.0 did.1 did.2 did.3.3.0 did.3.3.1) (λ h sid on l. refl)
  ]

  pub sided-clear : (c : ℕ) (h : Handle) → HappensClear w i x c h new → AllSided new
  sided-clear c h happens = elim happens [
    | inl refusal ↦ sided-refused w new i x refusal.0 refusal.3 s
    | inr did ↦
        let o : Outcomes = record { core = did.2; names = x.names; lines = history.Called (history.On c history.Clear) history.Nothing ∷ lines_of history.OfCircuit x.names did.0; sent = did.1 } in
        done x.names o did.4 (ways-clear x.names x.core h did.0 did.1 did.2 did.3 tidy.numbered) (λ g sid on l. refl)
  ]

  pub sided-datagram : (from : Address) (bytes : List ℕ) → HappensClientDatagram w i x from bytes new → AllSided new
  sided-datagram from bytes happens =
      let now : Client = record x.core { moment = client.later w.moment x.core } in
      let e : Effect = record { core = happens.1; sent = happens.0; notices = [] } in
      let o : Outcomes = record { core = happens.1; names = x.names; lines = []; sent = happens.0 } in
      let r = calm-all-received x.names from happens.2.0 now e tidy.numbered happens.2.2 in
      done x.names o happens.3 (λ on. inl (let f = r.calm on in record { same = f.same; opens = f.opens })) (λ g sid on l. refl)

-- ---- bytes move

handed-same : (c : Handle) (k : ℕ) (x : Client) → (handed_over c k x).channels ≡ x.channels
handed-same c k x = go (is_some (connection_at x c))
  where
    go : (b : Bool) → (cond b (on_connection (λ (e : Connection). record e { link = with_handed k e.link }) c x) x).channels ≡ x.channels
    go true = refl
    go false = refl

plain-after : (i : ℕ) (n : Names) (a : Joined) → IsEndAfter i n [] a a
plain-after i n a = record { client = refl; handle = refl; opens = λ o. o; shuts = λ o f l m at. absurd (none-said m l at); up = sym (append-nil a.lists.up) ∙ ap (λ (l : List Sent). a.lists.up ++ l) (sym (nothing-on i n a)); down = refl; heard = refl; handled = refl }

module _ (w new : World) (k : ℕ) (j : Joined) (x : ClientSide) (at : At w.circuits k j) (there : At w.clients j.client x) (s : AllSided w) where
  pub sided-up : (n : ℕ) (y : ServerSide) → HappensUp w k n j x y new → AllSided new
  sided-up n y happens = subst (λ (v : World). AllSided v) (sym happens.2) (go j.lists.client_open)
    where
      go : (b : Bool) → AllSided (with_server j.server (record y { core = happens.0 }) (cond b (with_client j.client (record x { core = handed_over j.at_client n x.core }) w) (with_circuit k (record j { left_up = drop n j.left_up }) w)))
      go true =
          let z : ClientSide = record x { core = handed_over j.at_client n x.core } in
          sided-ways w (with_server j.server (record y { core = happens.0 }) (with_client j.client z w)) j.client x z x.names [] there refl (λ l a stands. (a, stands, plain-after j.client x.names a))
          (λ l d a at_d at_a mine was open_it. way-silent a.at_client x.names x.core z.core (live-as a.at_client x.core.channels z.core.channels (handed-same j.at_client n x.core)))
          (λ l d a p m b at_d at_a open_it in_it. absurd (none-said m p in_it)) (λ h sid on l. refl) s
      go false =
          sided-lists w (with_server j.server (record y { core = happens.0 }) (with_circuit k (record j { left_up = drop n j.left_up }) w)) refl
          (lists-set w k j (record j { left_up = drop n j.left_up }) at refl refl refl) s

  pub sided-down : (n : ℕ) (y : ServerSide) → HappensDown w k n j x y new → AllSided new
  sided-down n y happens =
      let mid : World = happens.0 in
      let r = taken n y mid happens.3 in
      let o : Outcomes = record { core = happens.2; names = x.names; lines = []; sent = happens.1 } in
      subst (λ (v : World). AllSided v) (sym happens.5)
      (sided-ways mid (client_after j.client x x.names o mid) j.client x (record x { core = o.core; names = o.names }) x.names o.sent (subst (λ (c : List ClientSide). At c j.client x) (sym r.1) there) refl (after-sent j.client x.names o.sent mid.circuits)
      (λ l d a at_d at_a mine was open_it. ways-given x.names x.core j.at_client _ _ (connection_at x.core j.at_client) happens.1 happens.2 happens.4 a.at_client)
      (λ l d a p m b at_d at_a open_it in_it is. absurd (not-both b (sym (serves (connection_at x.core j.at_client) happens.4 a.at_client p m in_it) ∙ is))) (λ h sid on l. refl) r.0)
    where
      not-both : (b : ℕ) → history.OfCircuit ≡ history.On b Create → ⊥
      not-both b e = cc

      serves : (o : Option Connection) → GivesOn x.core j.at_client (take n (waiting_down y j)) (nat_lt n (length (waiting_down y j))) o (Ok tt) happens.1 happens.2 → (on : Handle) (p : ℕ) (m : Sent) → At (said x.names on happens.1) p m → m.intent ≡ history.OfCircuit
      serves None gives on p m in_it = absurd gives
      serves (Some e) gives on p m in_it =
          serving x.names on (flow_sent j.at_client (nat_lt n (length (waiting_down y j))) e) (λ k r there. (let q = At-mapped (λ (v : Command). of_circuit j.at_client (header_only v)) _ k r there in ap (λ (v : Sending). (stamped x.names v).intent) q.2)) p m
          (subst (λ (l : List Sending). At (said x.names on l) p m) gives.0 in_it)

      taken : (n : ℕ) (y : ServerSide) (mid : World) → DownTaken w k n j y mid → AllSided mid × (mid.clients ≡ w.clients)
      taken n y mid took = elim took [
        | inl open_it ↦
            subst (λ (v : World). AllSided v × (v.clients ≡ w.clients)) (sym open_it.1.2)
            (sided-lists w (with_server j.server (record y { core = open_it.1.0 }) w) refl (λ l d at_d. (d, at_d, refl, refl, refl)) s, refl)
        | inr closed_it ↦
            subst (λ (v : World). AllSided v × (v.clients ≡ w.clients)) (sym closed_it.1)
            (sided-lists w (with_circuit k (record j { left_down = drop n j.left_down }) w) refl (lists-set w k j (record j { left_down = drop n j.left_down }) at refl refl refl) s, refl)
      ]

  -- ---- ends

  pub sided-ended : ClientsStand w → j.lists.client_open ≡ true → (c : Closing) → AllSided (client_ended k j x c (ended j.at_client x.core) w)
  sided-ended stands opened c =
      sided-ways w after j.client x (record x { core = ended j.at_client x.core; names = x.names }) x.names [] there refl ends
      (λ l d a at_d at_a mine was open_it. way-silent a.at_client x.names x.core (ended j.at_client x.core) (same-ended a.at_client j.at_client x.core (λ same. away l d a at_d at_a mine was open_it same)))
      (λ l d a p m b at_d at_a open_it in_it. absurd (none-said m p in_it)) (λ h sid on l. refl) s
    where
      shut : Joined
      shut = client_closed c.left j

      after : World
      after = client_ended k j x c (ended j.at_client x.core) w

      shut-after : IsEndAfter j.client x.names [] j (sent_to j.client x.names [] shut)
      shut-after = record {
        client = refl;
        handle = refl;
        opens = λ o. absurd (both_ways false refl o);
        shuts = λ o f l m at. absurd (none-said m l at);
        up = ap (λ (l : List Sent). j.lists.up ++ l) (nothing-on j.client x.names shut ∙ sym (nothing-on j.client x.names j));
        down = refl;
        heard = refl;
        handled = refl;
      }

      plain-sent : (a : Joined) → IsEndAfter j.client x.names [] a (sent_to j.client x.names [] a)
      plain-sent a = record { client = refl; handle = refl; opens = λ o. o; shuts = λ o f l m at. absurd (none-said m l at); up = refl; down = refl; heard = refl; handled = refl }

      ends : AllAfter j.client x.names [] w.circuits after.circuits
      ends l d at_d =
          let m = At-mapped (sent_to j.client x.names []) (slice_set w.circuits k shut) l d at_d in
          elim (At-set w.circuits k shut l m.0 m.1) [
            | inl here ↦ (j, subst (λ (v : ℕ). At w.circuits v j) (sym here.0) at, subst (λ (v : Joined). IsEndAfter j.client x.names [] j v) (sym (m.2 ∙ ap (sent_to j.client x.names []) here.1)) shut-after)
            | inr old ↦ (m.0, old.0, subst (λ (v : Joined). IsEndAfter j.client x.names [] m.0 v) (sym m.2) (plain-sent m.0))
          ]

      away : (l : ℕ) (d a : Joined) → At after.circuits l d → At w.circuits l a → a.client ≡ j.client → a.lists.client_open ≡ true → d.lists.client_open ≡ true → j.at_client ≡ a.at_client → ⊥
      away l d a at_d at_a mine was open_it same =
          let one : k ≡ l = stands.handles k l j a at at_a (sym mine) opened was (subst (λ (h : Handle). same_handle j.at_client h ≡ true) same (same-itself j.at_client)) in
          let m = At-mapped (sent_to j.client x.names []) (slice_set w.circuits k shut) l d at_d in
          elim (At-set w.circuits k shut l m.0 m.1) [
            | inl here ↦ both_ways false refl (ap (λ (v : Joined). v.lists.client_open) (sym (m.2 ∙ ap (sent_to j.client x.names []) here.1)) ∙ open_it)
            | inr old ↦ old.1 (sym one)
          ]

  pub sided-cut-client : ClientsStand w → j.lists.client_open ≡ true → HappensCutClient w k j x new → AllSided new
  sided-cut-client stands opened happens =
      subst (λ (v : World). AllSided v) (sym happens.4) (subst (λ (core : Client). AllSided (client_ended k j x happens.0 core w)) (sym happens.3.2) (sided-ended stands opened happens.0))

-- ---- a client begins again

pub sided-client-restart : (w new : World) (i : ℕ) (x : ClientSide) → At w.clients i x → AllSided w → HappensClientRestart w i x new → AllSided new
sided-client-restart w new i x at s happens = subst (λ (v : World). AllSided v) (sym happens) (sided-by w after i x z x.names [] at refl (λ l d at_d. (let p = ends l d at_d in (p.0, p.1, end-of i x.names [] p.0 d p.2)))
    (λ l d a at_d at_a end mine open_it. absurd (closed l d a at_d at_a mine open_it)) s)
  where
    servers : List Address
    servers = addresses (map (λ (y : ServerSide). y.setting) w.servers)

    z : ClientSide
    z = client_begun servers w.moment (length w.client_logs) x.setting

    after : World
    after = with_client i z (record w { circuits = map (client_gone i x) w.circuits; client_logs = w.client_logs ++ [] ∷ [] })

    by : (b : Bool) (a : Joined) → IsEndAfter i x.names [] a (cond b (client_closed (client.out_bytes x.core a.at_client) a) a)
    by false a = plain-after i x.names a
    by true a = record {
      client = refl;
      handle = refl;
      opens = λ o. absurd (both_ways false refl o);
      shuts = λ o f l m at. absurd (none-said m l at);
      up = (plain-after i x.names a).up;
      down = refl;
      heard = refl;
      handled = refl;
    }

    ends : AllAfter i x.names [] w.circuits after.circuits
    ends l d at_d = (let m = At-mapped (client_gone i x) w.circuits l d at_d in (m.0, m.1, subst (λ (v : Joined). IsEndAfter i x.names [] m.0 v) (sym m.2) (by (eqb m.0.client i && m.0.lists.client_open) m.0)))

    closed : (l : ℕ) (d a : Joined) → At after.circuits l d → At w.circuits l a → a.client ≡ i → d.lists.client_open ≡ true → ⊥
    closed l d a at_d at_a mine open_it =
        let m = At-mapped (client_gone i x) w.circuits l d at_d in
        let one : m.0 ≡ a = At-one w.circuits l m.0 a m.1 at_a in
        go (eqb m.0.client i && m.0.lists.client_open) m.0 (ap (λ (v : Joined). v.client) one ∙ mine) refl (ap (λ (v : Joined). v.lists.client_open) (sym m.2) ∙ open_it)
      where
        go : (b : Bool) (c : Joined) → c.client ≡ i → (eqb c.client i && c.lists.client_open) ≡ b → (cond b (client_closed (client.out_bytes x.core c.at_client) c) c).lists.client_open ≡ true → ⊥
        go true c ours is open_now = both_ways false refl open_now
        go false c ours is open_now = both_ways (eqb c.client i && c.lists.client_open) is (and_from (eqb c.client i) c.lists.client_open (eq-eqb c.client i ours) open_now)
