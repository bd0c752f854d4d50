-- The events of a client keep what holds of all clients.
use Rattle.std.proofs.Common.{◌≡◌, ℕ, ◌+◌, inl, inr, Bool, true, false, ◌&&◌, cond, eqb, List, [], ◌∷◌, ◌++◌, length, Option, Some, None, refl, sym, ap, ◌∙◌, subst, arith}
use Rattle.std.specs.Prelude.{drop, is_none, map}
use Rattle.std.proofs.lemmas.Bool.{and_from, both_ways, eq-eqb}
use Rattle.ca_text.specs.Place.{At}
use Rattle.ca_text.proofs.Places.{At-mapped}
use Rattle.ca_arena.specs.declared.handle.Handle.{Handle}
use Rattle.ca_arena.specs.Arena.{Place}
use Rattle.ca_dbr.specs.Elements.{Elements}
use Rattle.ca_ids.specs.Table.{MayGive, under, with_held}
use Rattle.ca_monitor.specs.Subscriptions.{Subscription}
use Rattle.ca_requests.specs.Requests.{Asked, Request}
use Rattle.ca_requests.specs.Requests as request
use Rattle.ca_text.specs.declared.refusal.Refusal.{Refusal}
use Rattle.ca_model.specs.Answers.{Closed, Closing, NeedBytes, Notices, Sending, Stepped}
use Rattle.ca_model.specs.Client.{Client, Connection, connection_at, out_bytes, sending, standing_at}
use Rattle.ca_model.specs.ClientCalls.{IsLive, LiveChannel, Opening, Shape, cancel_sent, clearing_sent, event_add_sent, issued, new_subscription, opened, put_sent, read_sent, write_sent}
use Rattle.ca_model.specs.ClientEnds.{StepsOn, after_taking, handed_over}
use Rattle.ca_model.specs.Ends.{Address}
use Rattle.ca_model.specs.History.{Intent, Line, Step}
use Rattle.ca_model.specs.History as history
use Rattle.ca_model.specs.ClientEvents.{DownTaken, HappensClear, HappensClientRestart, HappensClientStep, HappensCutClient, HappensDown, HappensOpen, HappensRead, HappensSubscribe, HappensUnsubscribe, HappensUp, HappensWrite, HappensWriteNotify, Outcomes, about_at, cancelled, client_after, client_closed, client_ended, client_gone, client_stepped, heard_in, lines_of, refused}
use Rattle.ca_model.specs.World.{ClientSide, Joined, Names, ServerSide, World, addresses, client_begun, log_length, with_circuit, with_client, with_server}
use Rattle.ca_laws_parts.specs.Held.{with_request, with_subscription}
use Rattle.ca_model.proofs.Tables.{place, under-at}
use Rattle.ca_laws_parts.specs.Client.{IsSound}
use Rattle.ca_laws_parts.specs.Clients.{ClientsStand}
use Rattle.ca_model.proofs.Changes.{keeps-cleared, keeps-unsubscribed}
use Rattle.ca_model.proofs.Hearing.{keeps-heard}
use Rattle.ca_model.proofs.Letting.{KeepsBut, ends-ended}
use Rattle.ca_laws_parts.proofs.Named.{named-issued, named-opened, named-subscribed, named-wrote}
use Rattle.ca_model.proofs.Placed.{Keeps, keeps-on, keeps-sending, keeps-then}
use Rattle.ca_laws_parts.proofs.Stands.{IsEndOf, end-closed, fewer-itself, fewer-map, fewer-set, sound-kept, stands-but, stands-called, stands-kept, stands-moved, stands-same}
use Rattle.ca_model.proofs.Changes.{placed-opened, placed-issued, placed-subscribed, handed-keeps, given-keeps}

-- ---- what is new in a client

sound-sending : (n : Names) (x y : Client) (sends : List Sending) → y ≡ sending sends x → IsSound n x → IsSound n y
sound-sending n x y sends is s = subst (λ (z : Client). IsSound n z) (sym is) (sound-kept n x (sending sends x) (keeps-sending sends x) s)

links-sending : (x z y : Client) (sends : List Sending) → y ≡ sending sends z → ((c : Handle) → is_none (connection_at z c) ≡ is_none (connection_at x c)) → (c : Handle) → is_none (connection_at y c) ≡ is_none (connection_at x c)
links-sending x z y sends is links c = ap (λ (v : Client). is_none (connection_at v c)) is ∙ (keeps-sending sends z).links c ∙ links c

-- ---- calls

stands-refused : (w new : World) (i : ℕ) (x : ClientSide) (e : Refusal) → new ≡ refused i x e w → ClientsStand w → ClientsStand new
stands-refused w new i x e is s = subst (λ (v : World). ClientsStand v) (sym is) (stands-same w (refused i x e w) refl (fewer-itself w.circuits) s)

module _ (w new : World) (i : ℕ) (x : ClientSide) (at : At w.clients i x) (s : ClientsStand w) where
  pub stands-open : (name : List ℕ) (priority : ℕ) → HappensOpen w i x name priority new → ClientsStand new
  stands-open name priority happens = elim happens [
    | inl refusal ↦ stands-refused w new i x refusal.0 refusal.3 s
    | inr did ↦
        let h : Handle = did.0 in
        let a : Opening = record { name = name; priority = priority; now = w.moment } in
        let names : Names = record x.names { channels = x.names.channels ++ h ∷ [] } in
        let was = s.sound i x at in
        let o : Outcomes = record { core = did.2; names = names; lines = history.Opened (length x.names.channels) name ∷ []; sent = did.1 } in
        let z : Client = opened a h x.core in
        subst (λ (v : World). ClientsStand v) (sym did.4)
        (stands-called w i x names o at
        (sound-sending names z did.2 [] did.3.2.1 (record { named = named-opened x.names x.core a h did.3.1 was.named; placed = placed-opened a h x.core did.3.1 was.placed }))
        (links-sending x.core z did.2 [] did.3.2.1 (λ c. refl)) s)
  ]

  -- a request of either kind
  asked-stands : (h : Handle) (l : LiveChannel) (asked : Asked) (q : Handle) (intent : Intent) (lines : List Line) (sent : List Sending) (core : Client) (m : Sending) → IsLive x.core h l → MayGive x.core.requests q → core ≡ sending (m ∷ []) (issued h l asked q x.core)
      → (let names : Names = with_request q intent x.names in let o : Outcomes = record { core = core; names = names; lines = lines; sent = sent } in ClientsStand (client_after i x names o w))
  asked-stands h l asked q intent lines sent core m live may is =
      let was = s.sound i x at in
      let names : Names = with_request q intent x.names in
      let z : Client = issued h l asked q x.core in
      stands-called w i x names (record { core = core; names = names; lines = lines; sent = sent }) at
      (sound-sending names z core (m ∷ []) is (record { named = named-issued x.names x.core h l asked q intent may was.named; placed = placed-issued x.core h l asked q live was.placed }))
      (links-sending x.core z core (m ∷ []) is (λ c. refl)) s

  pub stands-read : (c : ℕ) (h : Handle) (data_type count : ℕ) → HappensRead w i x c h data_type count new → ClientsStand new
  stands-read c h data_type count happens = elim happens [
    | inl refusal ↦ stands-refused w new i x refusal.0 refusal.3 s
    | inr did ↦
        subst (λ (v : World). ClientsStand v) (sym did.4)
        (asked-stands h did.3.0 (request.Read data_type count) did.0 (history.On c (history.Request history.Read (length x.names.requests))) _ did.1 did.2 (read_sent h did.3.0 (record { data_type = data_type; count = count }) did.0) did.3.1 did.3.3 did.3.4.1)
  ]

  pub stands-write-notify : (c : ℕ) (h : Handle) (e : Elements) → HappensWriteNotify w i x c h e new → ClientsStand new
  stands-write-notify c h e happens = elim happens [
    | inl refusal ↦ stands-refused w new i x refusal.0 refusal.3 s
    | inr did ↦
        subst (λ (v : World). ClientsStand v) (sym did.4)
        (asked-stands h did.3.0 request.Put did.0 (history.On c (history.Request history.Put (length x.names.requests))) _ did.1 did.2 (put_sent h did.3.0 e did.0) did.3.1 did.3.3 did.3.4.1)
  ]

  pub stands-write : (c : ℕ) (h : Handle) (e : Elements) → HappensWrite w i x c h e new → ClientsStand new
  stands-write c h e happens = elim happens [
    | inl refusal ↦ stands-refused w new i x refusal.0 refusal.3 s
    | inr did ↦
        let was = s.sound i x at in
        let names : Names = record x.names { writes = x.names.writes + 1 } in
        let o : Outcomes = record { core = did.2; names = names; lines = history.Called (history.On c (history.Request history.Write x.names.writes)) (history.ToWrite e) ∷ []; sent = did.1 } in
        subst (λ (v : World). ClientsStand v) (sym did.4)
        (stands-called w i x x.names o at
        (sound-sending names x.core did.2 (write_sent h did.3.0 e ∷ []) did.3.3.1 (record { named = named-wrote x.names x.core (x.names.writes + 1) was.named; placed = was.placed }))
        (links-sending x.core x.core did.2 (write_sent h did.3.0 e ∷ []) did.3.3.1 (λ c. refl)) s)
  ]

  pub stands-subscribe : (c : ℕ) (h : Handle) (data_type count mask : ℕ) → HappensSubscribe w i x c h data_type count mask new → ClientsStand new
  stands-subscribe c h data_type count mask happens = elim happens [
    | inl refusal ↦ stands-refused w new i x refusal.0 refusal.3 s
    | inr did ↦
        let q : Handle = did.0 in
        let a : Shape = record { data_type = data_type; count = count } in
        let d : Subscription = new_subscription h a mask in
        let intent : Intent = history.On c (history.Subscribe (length x.names.subscriptions)) in
        let names : Names = with_subscription q intent x.names in
        let was = s.sound i x at in
        let o : Outcomes = record { core = did.2; names = names; lines = history.Called intent (history.ToWatch data_type count mask) ∷ []; sent = did.1 } in
        let z : Client = record x.core { subscriptions = with_held q d x.core.subscriptions } in
        subst (λ (v : World). ClientsStand v) (sym did.4)
        (stands-called w i x names o at
        (sound-sending names z did.2 (event_add_sent did.3.0.circuit did.3.0.native.sid did.0 d ∷ []) did.3.4.1 (record { named = named-subscribed x.names x.core q d c (length x.names.subscriptions) did.3.3 was.named; placed = placed-subscribed x.core h a mask q was.placed }))
        (links-sending x.core z did.2 (event_add_sent did.3.0.circuit did.3.0.native.sid did.0 d ∷ []) did.3.4.1 (λ c. refl)) s)
  ]

  pub stands-unsubscribe : (g : Handle × Intent) → HappensUnsubscribe w i x g new → ClientsStand new
  stands-unsubscribe g happens = elim happens [
    | inl refusal ↦ stands-refused w new i x refusal.0 refusal.3 s
    | inr did ↦
        let o : Outcomes = record { core = did.2; names = x.names; lines = history.Called (cancelled g.1) history.Nothing ∷ []; sent = did.1 } in
        subst (λ (v : World). ClientsStand v) (sym did.4)
        (stands-kept w i x o at refl
        (subst (λ (v : Client). Keeps x.core v) (sym did.3.3.1) (keeps-then x.core _ _ (keeps-unsubscribed g.0 x.core did.3.0 did.3.1) (keeps-sending (cancel_sent g.0 did.3.0 (standing_at x.core did.3.0.channel)) _))) s)
  ]

  pub stands-clear : (c : ℕ) (h : Handle) → HappensClear w i x c h new → ClientsStand new
  stands-clear c h happens = elim happens [
    | inl refusal ↦ stands-refused w new i x refusal.0 refusal.3 s
    | inr did ↦
        let o : Outcomes = record { core = did.2; names = x.names; lines = history.Called (history.On c history.Clear) history.Nothing ∷ lines_of history.OfCircuit x.names did.0; sent = did.1 } in
        subst (λ (v : World). ClientsStand v) (sym did.4)
        (stands-kept w i x o at refl
        (subst (λ (v : Client). Keeps x.core v) (sym did.3.3.1) (keeps-then x.core _ _ (keeps-cleared h did.3.0 x.core (s.sound i x at).placed did.3.1) (keeps-sending (clearing_sent h did.3.0) _))) s)
  ]

-- ---- bytes move

module _ (w new : World) (k : ℕ) (j : Joined) (x : ClientSide) (at : At w.circuits k j) (there : At w.clients j.client x) (s : ClientsStand w) where
  pub stands-up : (n : ℕ) (y : ServerSide) → HappensUp w k n j x y new → ClientsStand new
  stands-up n y happens = subst (λ (v : World). ClientsStand v) (sym happens.2) (go j.lists.client_open)
    where
      go : (b : Bool) → ClientsStand (with_server j.server (record y { core = happens.0 }) (cond b (with_client j.client (record x { core = handed_over j.at_client n x.core }) w) (with_circuit k (record j { left_up = drop n j.left_up }) w)))
      go true =
          let z : ClientSide = record x { core = handed_over j.at_client n x.core } in
          let keeps = handed-keeps j.at_client n x.core in
          stands-moved w (with_server j.server (record y { core = happens.0 }) (with_client j.client z w)) j.client x z there refl (fewer-itself w.circuits)
          (sound-kept x.names x.core z.core keeps (s.sound j.client x there)) (λ l a b stands was end mine open_it connected. keeps.links a.at_client ∙ connected) s
      go false =
          stands-same w (with_server j.server (record y { core = happens.0 }) (with_circuit k (record j { left_up = drop n j.left_up }) w)) refl
          (fewer-set k j (record j { left_up = drop n j.left_up }) w.circuits at (record { client = refl; handle = refl; opens = λ o. o })) s

  pub stands-down : (n : ℕ) (y : ServerSide) → HappensDown w k n j x y new → ClientsStand new
  stands-down n y happens =
      let mid : World = happens.0 in
      let r = taken n y mid happens.3 in
      let o : Outcomes = record { core = happens.2; names = x.names; lines = []; sent = happens.1 } in
      subst (λ (v : World). ClientsStand v) (sym happens.5)
      (stands-kept mid j.client x o (subst (λ (c : List ClientSide). At c j.client x) (sym r.1) there) refl
      (given-keeps x.core happens.2 j.at_client _ _ (connection_at x.core j.at_client) happens.1 happens.4) r.0)
    where
      taken : (n : ℕ) (y : ServerSide) (mid : World) → DownTaken w k n j y mid → ClientsStand mid × (mid.clients ≡ w.clients)
      taken n y mid took = elim took [
        | inl open_it ↦
            subst (λ (v : World). ClientsStand v × (v.clients ≡ w.clients)) (sym open_it.1.2)
            (stands-same w (with_server j.server (record y { core = open_it.1.0 }) w) refl (fewer-itself w.circuits) s, refl)
        | inr closed_it ↦
            subst (λ (v : World). ClientsStand v × (v.clients ≡ w.clients)) (sym closed_it.1) (
              stands-same w (with_circuit k (record j { left_down = drop n j.left_down }) w) refl
                  (fewer-set k j (record j { left_down = drop n j.left_down }) w.circuits at (record { client = refl; handle = refl; opens = λ o. o })) s,
              refl,
            )
      ]

  -- ---- ends

  pub stands-ended : (c : Closing) (core : Client) → j.lists.client_open ≡ true → KeepsBut j.at_client x.core core → ClientsStand (client_ended k j x c core w)
  stands-ended c core open_it keeps =
      stands-but w j.client k j (client_closed c.left j) x (record { core = core; names = x.names; lines = lines_of history.OfCircuit x.names c.notices; sent = [] }) at there refl open_it (end-closed c.left j) refl refl keeps s

  pub stands-cut-client : j.lists.client_open ≡ true → HappensCutClient w k j x new → ClientsStand new
  stands-cut-client open_it happens =
      subst (λ (v : World). ClientsStand v) (sym happens.4)
      (stands-ended happens.0 happens.2 open_it (subst (λ (core : Client). KeepsBut j.at_client x.core core) (sym happens.3.2) (ends-ended j.at_client x.core)))

  pub stands-client-step : j.lists.client_open ≡ true → HappensClientStep w k j x new → ClientsStand new
  stands-client-step open_it happens = subst (λ (v : World). ClientsStand v) (sym happens.4) (go (connection_at x.core j.at_client) refl happens.0 happens.1 happens.2 happens.3)
    where
      go : (o : Option Connection) → connection_at x.core j.at_client ≡ o → (did : Stepped) (sent : List Sending) (core : Client) → StepsOn x.core j.at_client o did sent core → ClientsStand (client_stepped k j x did sent core w)
      go None is did sent core steps = absurd (both_ways (is_none (connection_at x.core j.at_client)) (s.connected k j x at there open_it) (ap is_none is))
      go (Some d) is NeedBytes sent core steps = s
      go (Some d) is (Closed c) sent core steps =
          stands-ended c core open_it (subst (λ (z : Client). KeepsBut j.at_client x.core z) (sym steps.1.2) (ends-ended j.at_client x.core))
      go (Some d) is (Notices told) sent core steps =
          let lines : List Line = lines_of (about_at j.lists (length j.lists.heard)) x.names told in
          let logged : ℕ = log_length x.life w.client_logs in
          let g : Step = record { sent = length j.lists.up; logged = logged; after = logged + length lines } in
          let mid : World = with_circuit k (heard_in g j) w in
          let y : Client = after_taking j.at_client steps.rest x.core in
          let taken : Keeps x.core y = keeps-on _ j.at_client x.core in
          let read = keeps-heard y j.at_client steps.m (record { core = core; sent = sent; notices = told }) (taken.placed (s.sound j.client x there).placed) steps.hears in
          stands-kept mid j.client x (record { core = core; names = x.names; lines = lines; sent = sent }) there refl (keeps-then x.core y core taken read)
          (stands-same w mid refl (fewer-set k j (heard_in g j) w.circuits at (record { client = refl; handle = refl; opens = λ o. o })) s)

-- ---- a client begins again

pub none-under : {T : Type 0} (h : Handle) (v : T) → under [] h ≡ Some v → ⊥
none-under {T} h v is = nothing (place h v) (under-at [] h v is)
  where
    nothing : (p : Place T) → At [] h.index p → ⊥
    nothing p e = cc

pub sound-new : (servers : List Address) (moment life : ℕ) (g : _) → let z : ClientSide = client_begun servers moment life g in IsSound z.names z.core
sound-new servers moment life g = record {
  named = record {
    few = record { channels = omega arith; requests = omega arith; subscriptions = omega arith };
    numbered = λ h ch is. absurd (none-under h ch is);
    requests = λ i e at. absurd cc;
    subscriptions = λ i e at. absurd cc;
    meant = λ h d is. absurd (none-under h d is);
  };
  placed = record {
    attached = record { requests = λ q r is. absurd (none-under q r is); subscriptions = λ q d on is drains. absurd (none-under q d is) };
    waiting = λ h ch c p is stands. absurd (none-under h ch is);
  };
}

pub stands-client-restart : (w new : World) (i : ℕ) (x : ClientSide) → At w.clients i x → ClientsStand w → HappensClientRestart w i x new → ClientsStand new
stands-client-restart w new i x at s happens =
    let servers : List Address = addresses (map (λ (y : ServerSide). y.setting) w.servers) in
    let z : ClientSide = client_begun servers w.moment (length w.client_logs) x.setting in
    let after : World = with_client i z (record w { circuits = map (client_gone i x) w.circuits; client_logs = w.client_logs ++ [] ∷ [] }) in
    subst (λ (v : World). ClientsStand v) (sym happens)
    (stands-moved w after i x z at refl (fewer-map (client_gone i x) w.circuits ends) (sound-new servers w.moment (length w.client_logs) x.setting)
    (λ k j a stands was end mine open_it connected. (let m = At-mapped (client_gone i x) w.circuits k j stands in absurd (shut m.0 j m.2 mine open_it))) s)
  where
    by : (b : Bool) (a : Joined) → IsEndOf a (cond b (client_closed (out_bytes x.core a.at_client) a) a)
    by true a = end-closed _ a
    by false a = record { client = refl; handle = refl; opens = λ o. o }

    ends : (a : Joined) → IsEndOf a (client_gone i x a)
    ends a = by (eqb a.client i && a.lists.client_open) a

    shut : (a j : Joined) → j ≡ client_gone i x a → j.client ≡ i → j.lists.client_open ≡ true → ⊥
    shut a j is mine open_it = go (eqb a.client i && a.lists.client_open) refl (ap (λ (z : Joined). z.lists.client_open) is)
      where
        mine_too : a.client ≡ i
        mine_too = sym (ends a).client ∙ sym (ap (λ (z : Joined). z.client) is) ∙ mine

        go : (b : Bool) → (eqb a.client i && a.lists.client_open) ≡ b → j.lists.client_open ≡ (cond b (client_closed (out_bytes x.core a.at_client) a) a).lists.client_open → ⊥
        go true e f = both_ways false refl (sym f ∙ open_it)
        go false e f = both_ways (eqb a.client i && a.lists.client_open) e (and_from (eqb a.client i) a.lists.client_open (eq-eqb a.client i mine_too) (sym f ∙ open_it))
