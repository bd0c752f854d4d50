-- The events of clients keep that what they called was sent.
use Rattle.std.proofs.Common.{◌≡◌, ℕ, ◌+◌, inl, inr, Bool, true, false, ◌&&◌, cond, eqb, List, [], ◌∷◌, ◌++◌, length, Option, Some, None, refl, sym, ap, ◌∙◌, subst}
use Rattle.std.specs.Prelude.{drop, filter, find, fold, is_none, map, option_and_then, option_map, slice_set, unwrap_or}
use Rattle.std.specs.List.{FoldsTo}
use Rattle.std.proofs.lemmas.Bool.{both_ways, eqb-true}
use Rattle.ca_text.specs.Place.{At}
use Rattle.ca_text.specs.declared.command.Command.TheVariants as command
use Rattle.ca_text.specs.declared.refusal.Refusal.{Refusal}
use Rattle.ca_text.proofs.Places.{At-append, At-last, At-map, At-mapped, At-one, At-set, At-set-other, At-snoc, At-within}
use Rattle.ca_arena.specs.declared.handle.Handle.{Handle}
use Rattle.ca_arena.specs.Arena.{Place}
use Rattle.ca_dbr.specs.Elements.{Elements}
use Rattle.ca_ids.specs.Table.{same_handle, under, with_held}
use Rattle.ca_link.specs.declared.keep.Keep.{Keep}
use Rattle.ca_link.specs.declared.keep.Keep.TheVariants.{Close, Echo, Idle}
use Rattle.ca_link.specs.Link.{kept}
use Rattle.ca_search.specs.Searches as search
use Rattle.ca_monitor.specs.Subscriptions.{Subscription}
use Rattle.ca_wire.specs.Messages.{header_only, search_request}
use Rattle.ca_model.specs.Answers.{Closed, Closing, Left, NeedBytes, Notices, Sending, Stepped}
use Rattle.ca_model.specs.Answers as answer
use Rattle.ca_model.specs.Client.{Client, ClientCircuit, Connection, connection_at, ended, later, on_connection, out_bytes, sending, standing_at}
use Rattle.ca_model.specs.ClientCalls.{cancel_sent, clearing_sent, event_add_sent, is_over, issued, new_subscription, opened, put_sent, read_sent, write_sent}
use Rattle.ca_model.specs.ClientEnds.{ConnectsOn, StepsOn, Ticking, after_taking, all_searched_on, begun, circuits_ticked, creations, distinct, due, handed_over, is_name_connected, name_circuits, of_circuit, searches_made, searches_on, set_up, ticks, ticks_as, with_sending}
use Rattle.ca_model.specs.Hears.{Effect}
use Rattle.ca_model.specs.Ends.{Address}
use Rattle.ca_model.specs.History.{Called, Intent, Line, Nothing, Sent, Step, ToRead, ToWatch, ToWrite, Wish}
use Rattle.ca_model.specs.History as history
use Rattle.ca_model.specs.Client as client
use Rattle.ca_model.proofs.Changes.{given-keeps, handed-keeps, keeps-cleared, keeps-unsubscribed}
use Rattle.ca_model.proofs.Handles.{handle-or, same-is}
use Rattle.ca_model.proofs.Hearing.{all-received, keeps-begun, keeps-heard, keeps-moment}
use Rattle.ca_model.proofs.Placed.{Keeps, keeps-on, keeps-sending, keeps-then}
use Rattle.ca_model.proofs.Tables.{find-at, place, under-at}
use Rattle.ca_model.proofs.Thinner.{number-or, set-there}
use Rattle.std.proofs.lemmas.List.{append-nil}
use Rattle.ca_model.specs.ClientEvents.{DownTaken, HappensAccept, HappensClear, HappensClientDatagram, HappensClientRestart, HappensClientStep, HappensCutClient, HappensDown, HappensHandingOut, HappensOpen, HappensRead, HappensSubscribe, HappensUnsubscribe, HappensUp, HappensWrite, HappensWriteNotify, Outcomes, TicksOne, WantsFirst, about_at, after_tick, cancelled, client_after, client_closed, client_ended, client_gone, client_stepped, connected_as, heard_in, lines_of, new_circuit, refused, closing_notices}
use Rattle.ca_model.specs.World.{ClientSide, Joined, Names, ServerSide, World, addresses, client_begun, log_length, with_circuit, with_client, with_server}
use Rattle.ca_laws_parts.specs.Held.{with_request, with_subscription}
use Rattle.ca_laws_parts.specs.Circuit.{sent_to}
use Rattle.ca_laws_parts.specs.Clients.{ClientsStand}
use Rattle.ca_laws_parts.proofs.ClientsMore.{unconnected-is, wanted-there}
use Rattle.ca_laws_runs.specs.Quiet.{ClientsQuiet}
use Rattle.ca_laws_runs.proofs.OnceMoved.{Moved, moved-all-received, moved-before, moved-connected, moved-given, moved-heard, moved-less, moved-ticked}
use Rattle.ca_laws_runs.proofs.OnceLess.{less-ended, less-on, less-same}
use Rattle.ca_laws_runs.proofs.OnceCalls.{NoCall, calls-clear, calls-moved, calls-open, calls-put, calls-read, calls-subscribe, calls-unsubscribe, calls-write, no-lines, notices-no-call}
use Rattle.ca_laws_runs.proofs.OnceClients.{less-handed, no-refusal, ticks-one-once}
use Rattle.ca_laws_runs.proofs.HeardClients.{quiet-ticks}
use Rattle.ca_laws_runs.proofs.OnceWorld.{OnceStand}
use Rattle.ca_laws_runs.proofs.OnceSent.{SentStand, all-same, all-set, ended-linked, ended-none, same-end, sent-called, sent-closing, sent-core, sent-lines, sent-linked, sent-same}

-- ---- calls

sent-refused : (w new : World) (i : ℕ) (x : ClientSide) (e : Refusal) → At w.clients i x → OnceStand w → new ≡ refused i x e w → SentStand w → SentStand new
sent-refused w new i x e at once is s = subst (λ (v : World). SentStand v) (sym is) (sent-lines w i x (history.Refused e ∷ []) at (once.there i x at) (no-refusal e) s)

links-sending : (x z y : Client) (sends : List Sending) → y ≡ sending sends z → ((c : Handle) → is_none (connection_at z c) ≡ is_none (connection_at x c)) → (c : Handle) → is_none (connection_at y c) ≡ is_none (connection_at x c)
links-sending x z y sends is links c = ap (λ (v : Client). is_none (connection_at v c)) is ∙ (keeps-sending sends z).links c ∙ links c

module _ (w new : World) (i : ℕ) (x : ClientSide) (at : At w.clients i x) (stands : ClientsStand w) (q : ClientsQuiet w) (once : OnceStand w) (s : SentStand w) where
  pub sent-open : (name : List ℕ) (priority : ℕ) → HappensOpen w i x name priority new → SentStand new
  sent-open name priority happens = elim happens [
    | inl refusal ↦ sent-refused w new i x refusal.0 at once refusal.3 s
    | inr did ↦
        let names : Names = record x.names { channels = x.names.channels ++ did.0 ∷ [] } in
        let o : Outcomes = record { core = did.2; names = names; lines = history.Opened (length x.names.channels) name ∷ []; sent = did.1 } in
        let z : Client = opened (record { name = name; priority = priority; now = w.moment }) did.0 x.core in
        subst (λ (v : World). SentStand v) (sym did.4)
        (sent-linked w i x names o at (once.there i x at) (calls-open x.names x.core (record { name = name; priority = priority; now = w.moment }) did.0 did.1 did.2 (length x.names.channels) name did.3 (q.tidy i x at))
        (links-sending x.core z did.2 [] did.3.2.1 (λ c. refl)) s)
  ]

  pub sent-read : (c : ℕ) (h : Handle) (data_type count : ℕ) → HappensRead w i x c h data_type count new → SentStand new
  sent-read c h data_type count happens = elim happens [
    | inl refusal ↦ sent-refused w new i x refusal.0 at once refusal.3 s
    | inr did ↦
        let intent : Intent = history.On c (history.Request history.Read (length x.names.requests)) in
        let names : Names = with_request did.0 intent x.names in
        let o : Outcomes = record { core = did.2; names = names; lines = Called intent (ToRead data_type count) ∷ []; sent = did.1 } in
        subst (λ (v : World). SentStand v) (sym did.4)
        (sent-linked w i x names o at (once.there i x at) (calls-read x.names x.core c h (stands.sound i x at).placed (stands.sound i x at).named.requests (record { data_type = data_type; count = count }) did.0 did.1 did.2 did.3)
        (links-sending x.core (issued h did.3.0 _ did.0 x.core) did.2 (read_sent h did.3.0 (record { data_type = data_type; count = count }) did.0 ∷ []) did.3.4.1 (λ c. refl)) s)
  ]

  pub sent-write-notify : (c : ℕ) (h : Handle) (e : Elements) → HappensWriteNotify w i x c h e new → SentStand new
  sent-write-notify c h e happens = elim happens [
    | inl refusal ↦ sent-refused w new i x refusal.0 at once refusal.3 s
    | inr did ↦
        let intent : Intent = history.On c (history.Request history.Put (length x.names.requests)) in
        let names : Names = with_request did.0 intent x.names in
        let o : Outcomes = record { core = did.2; names = names; lines = Called intent (ToWrite e) ∷ []; sent = did.1 } in
        subst (λ (v : World). SentStand v) (sym did.4)
        (sent-linked w i x names o at (once.there i x at) (calls-put x.names x.core c h (stands.sound i x at).placed (stands.sound i x at).named.requests e did.0 did.1 did.2 did.3)
        (links-sending x.core (issued h did.3.0 _ did.0 x.core) did.2 (put_sent h did.3.0 e did.0 ∷ []) did.3.4.1 (λ c. refl)) s)
  ]

  pub sent-write : (c : ℕ) (h : Handle) (e : Elements) → At x.names.channels c h → HappensWrite w i x c h e new → SentStand new
  sent-write c h e named happens = elim happens [
    | inl refusal ↦ sent-refused w new i x refusal.0 at once refusal.3 s
    | inr did ↦
        let o : Outcomes = record { core = did.2; names = record x.names { writes = x.names.writes + 1 }; lines = Called (history.On c (history.Request history.Write x.names.writes)) (ToWrite e) ∷ []; sent = did.1 } in
        subst (λ (v : World). SentStand v) (sym did.4)
        (sent-linked w i x x.names o at (once.there i x at) (calls-write x.names x.core c h e did.1 did.2 (stands.sound i x at).placed (q.tidy i x at) named did.3)
        (links-sending x.core x.core did.2 (write_sent h did.3.0 e ∷ []) did.3.3.1 (λ c. refl)) s)
  ]

  pub sent-subscribe : (c : ℕ) (h : Handle) (data_type count mask : ℕ) → HappensSubscribe w i x c h data_type count mask new → SentStand new
  sent-subscribe c h data_type count mask happens = elim happens [
    | inl refusal ↦ sent-refused w new i x refusal.0 at once refusal.3 s
    | inr did ↦
        let d : Subscription = new_subscription h (record { data_type = data_type; count = count }) mask in
        let intent : Intent = history.On c (history.Subscribe (length x.names.subscriptions)) in
        let names : Names = with_subscription did.0 intent x.names in
        let o : Outcomes = record { core = did.2; names = names; lines = Called intent (ToWatch data_type count mask) ∷ []; sent = did.1 } in
        let z : Client = record x.core { subscriptions = with_held did.0 d x.core.subscriptions } in
        subst (λ (v : World). SentStand v) (sym did.4)
        (sent-linked w i x names o at (once.there i x at) (calls-subscribe x.names x.core c h (record { data_type = data_type; count = count }) mask did.0 did.1 did.2 did.3 (stands.sound i x at).placed (q.tidy i x at) (stands.sound i x at).named.subscriptions)
        (links-sending x.core z did.2 (event_add_sent did.3.0.circuit did.3.0.native.sid did.0 d ∷ []) did.3.4.1 (λ c. refl)) s)
  ]

  pub sent-unsubscribe : (m : ℕ) (g : Handle × Intent) → At x.names.subscriptions m g → HappensUnsubscribe w i x g new → SentStand new
  sent-unsubscribe m g named happens = elim happens [
    | inl refusal ↦ sent-refused w new i x refusal.0 at once refusal.3 s
    | inr did ↦
        let o : Outcomes = record { core = did.2; names = x.names; lines = Called (cancelled g.1) Nothing ∷ []; sent = did.1 } in
        let keeps : Keeps x.core did.2 = subst (λ (v : Client). Keeps x.core v) (sym did.3.3.1) (keeps-then x.core _ _ (keeps-unsubscribed g.0 x.core did.3.0 did.3.1) (keeps-sending (cancel_sent g.0 did.3.0 (standing_at x.core did.3.0.channel)) _)) in
        subst (λ (v : World). SentStand v) (sym did.4)
        (sent-linked w i x x.names o at (once.there i x at) (calls-unsubscribe x.names x.core g m did.1 did.2 did.3 (q.tidy i x at) named) keeps.links s)
  ]

  pub sent-clear : (c : ℕ) (h : Handle) → At x.names.channels c h → HappensClear w i x c h new → SentStand new
  sent-clear c h named happens = elim happens [
    | inl refusal ↦ sent-refused w new i x refusal.0 at once refusal.3 s
    | inr did ↦
        let lines : List Line = lines_of history.OfCircuit x.names did.0 in
        let o : Outcomes = record { core = did.2; names = x.names; lines = Called (history.On c history.Clear) Nothing ∷ lines; sent = did.1 } in
        let keeps : Keeps x.core did.2 = subst (λ (v : Client). Keeps x.core v) (sym did.3.3.1) (keeps-then x.core _ _ (keeps-cleared h did.3.0 x.core (stands.sound i x at).placed did.3.1) (keeps-sending (clearing_sent h did.3.0) _)) in
        subst (λ (v : World). SentStand v) (sym did.4)
        (sent-linked w i x x.names o at (once.there i x at) (calls-clear x.names x.core c h did.0 did.1 did.2 lines did.3 (q.tidy i x at) named (notices-no-call history.OfCircuit x.names did.0)) keeps.links s)
  ]

  pub sent-handing-out : (number : ℕ) (meant : Intent) (line : Option ℕ → Line) → ((o : Option ℕ) → NoCall (line o ∷ [])) → HappensHandingOut w x number meant line new → SentStand new
  sent-handing-out number meant line none happens = subst (λ (v : World). SentStand v) (sym happens.2) (sent-lines w i x (line happens.0 ∷ []) at (once.there i x at) (none happens.0) s)

  pub sent-datagram : (from : Address) (bytes : List ℕ) → HappensClientDatagram w i x from bytes new → SentStand new
  sent-datagram from bytes happens =
      let now : Client = record x.core { moment = later w.moment x.core } in
      let e : Effect = record { core = happens.1; sent = happens.0; notices = [] } in
      let keeps : Keeps x.core happens.1 = keeps-then x.core now happens.1 (keeps-moment (later w.moment x.core) x.core) (all-received from happens.2.0 now e happens.2.2) in
      subst (λ (v : World). SentStand v) (sym happens.3)
      (sent-linked w i x x.names (record { core = happens.1; names = x.names; lines = []; sent = happens.0 }) at (once.there i x at)
      (calls-moved x.names x.core happens.0 happens.1 [] (q.tidy i x at) (moved-before x.core now happens.1 happens.0 (less-same x.core now refl refl) (moved-all-received from happens.2.0 now e happens.2.2)) no-lines) keeps.links s)

-- ---- bytes move

module _ (w new : World) (k : ℕ) (j : Joined) (x : ClientSide) (at : At w.circuits k j) (there : At w.clients j.client x) (q : ClientsQuiet w) (once : OnceStand w) (s : SentStand w) where
  pub sent-up : (n : ℕ) (y : ServerSide) → HappensUp w k n j x y new → SentStand new
  sent-up n y happens = subst (λ (v : World). SentStand v) (sym happens.2) (go j.lists.client_open)
    where
      go : (b : Bool) → SentStand (with_server j.server (record y { core = happens.0 }) (cond b (with_client j.client (record x { core = handed_over j.at_client n x.core }) w) (with_circuit k (record j { left_up = drop n j.left_up }) w)))
      go true =
          let z : ClientSide = record x { core = handed_over j.at_client n x.core } in
          sent-core w (with_server j.server (record y { core = happens.0 }) (with_client j.client z w)) j.client x z there refl refl refl refl
          (calls-moved x.names x.core [] z.core [] (q.tidy j.client x there) (moved-less x.core z.core (less-handed j.at_client n x.core)) no-lines) (handed-keeps j.at_client n x.core).links s
      go false =
          sent-same w (with_server j.server (record y { core = happens.0 }) (with_circuit k (record j { left_up = drop n j.left_up }) w)) refl refl
          (all-set k j (record j { left_up = drop n j.left_up }) w.circuits at (record { client = refl; handle = refl; life = refl; opens = refl; up = refl })) s

  pub sent-down : (n : ℕ) (y : ServerSide) → HappensDown w k n j x y new → SentStand new
  sent-down n y happens =
      let mid : World = happens.0 in
      let r = taken n y mid happens.3 in
      let o : Outcomes = record { core = happens.2; names = x.names; lines = []; sent = happens.1 } in
      let t = once.there j.client x there in
      subst (λ (v : World). SentStand v) (sym happens.5)
      (sent-linked mid j.client x x.names o (subst (λ (c : List ClientSide). At c j.client x) (sym r.1) there) (t.0, subst (λ (c : List (List Line)). At c x.life t.0) (sym r.2) t.1)
      (calls-moved x.names x.core happens.1 happens.2 [] (q.tidy j.client x there) (moved-given x.core j.at_client _ _ (connection_at x.core j.at_client) happens.1 happens.2 happens.4) no-lines)
      (given-keeps x.core happens.2 j.at_client _ _ (connection_at x.core j.at_client) happens.1 happens.4).links r.0)
    where
      taken : (n : ℕ) (y : ServerSide) (mid : World) → DownTaken w k n j y mid → SentStand mid × (mid.clients ≡ w.clients) × (mid.client_logs ≡ w.client_logs)
      taken n y mid took = elim took [
        | inl open_it ↦
            subst (λ (v : World). SentStand v × (v.clients ≡ w.clients) × (v.client_logs ≡ w.client_logs)) (sym open_it.1.2)
            (sent-same w (with_server j.server (record y { core = open_it.1.0 }) w) refl refl (all-same w.circuits) s, refl, refl)
        | inr closed_it ↦
            subst (λ (v : World). SentStand v × (v.clients ≡ w.clients) × (v.client_logs ≡ w.client_logs)) (sym closed_it.1) (
              sent-same w (with_circuit k (record j { left_down = drop n j.left_down }) w) refl refl
                  (all-set k j (record j { left_down = drop n j.left_down }) w.circuits at (record { client = refl; handle = refl; life = refl; opens = refl; up = refl })) s,
              refl,
              refl,
            )
      ]

  -- ---- ends

  sent-ended : (c : Closing) → SentStand (client_ended k j x c (ended j.at_client x.core) w)
  sent-ended c =
      sent-closing first after refl refl onward
      (sent-called w j.client x x.names o there (once.there j.client x there)
      (calls-moved x.names x.core [] core lines (q.tidy j.client x there) (moved-less x.core core (less-ended j.at_client x.core)) (notices-no-call history.OfCircuit x.names c.notices))
      (λ h linked. s.reached j.client x h there (ended-linked j.at_client h x.core linked).1) s)
    where
      core : Client
      core = ended j.at_client x.core

      lines : List Line
      lines = lines_of history.OfCircuit x.names c.notices

      o : Outcomes
      o = record { core = core; names = x.names; lines = lines; sent = [] }

      first : World
      first = client_after j.client x x.names o w

      after : World
      after = client_ended k j x c core w

      f : Joined → Joined
      f = sent_to j.client x.names []

      onward : (l : ℕ) (a : Joined) → At first.circuits l a → (b : Joined) × At after.circuits l b × (b.client ≡ a.client) × (b.at_client ≡ a.at_client) × (b.lists.client ≡ a.lists.client) × (b.lists.up ≡ a.lists.up)
          × ((y : ClientSide) → At first.clients a.client y → is_none (connection_at y.core a.at_client) ≡ false → a.lists.client_open ≡ true → b.lists.client_open ≡ true)
      onward l a have =
          let m = At-mapped f w.circuits l a have in
          elim (number-or l k) [
            | inl same ↦
                let one : m.0 ≡ j = At-one w.circuits k m.0 j (subst (λ (n : ℕ). At w.circuits n m.0) same m.1) at in
                let a_is : a ≡ f j = m.2 ∙ ap f one in
                let b : Joined = f (client_closed c.left j) in
                let up : b.lists.up ≡ (f j).lists.up = (nothing-up (client_closed c.left j)) ∙ sym (nothing-up j) in (
                  b,
                  At-map f (slice_set w.circuits k (client_closed c.left j)) l (client_closed c.left j) (subst (λ (n : ℕ). At (slice_set w.circuits k (client_closed c.left j)) n (client_closed c.left j)) (sym same) (set-there w.circuits k (client_closed c.left j) (At-within w.circuits k j at))),
                  ap (λ (v : Joined). v.client) (sym a_is),
                  ap (λ (v : Joined). v.at_client) (sym a_is),
                  ap (λ (v : Joined). v.lists.client) (sym a_is),
                  up ∙ ap (λ (v : Joined). v.lists.up) (sym a_is),
                  λ y is linked opened. absurd (both_ways (is_none (connection_at y.core a.at_client)) linked (none y a a_is is)),
                )
            | inr other ↦ (a, subst (λ (v : Joined). At after.circuits l v) (sym m.2) (At-map f (slice_set w.circuits k (client_closed c.left j)) l m.0 (At-set-other w.circuits k l m.0 (client_closed c.left j) m.1 other)), refl, refl, refl, refl, λ y is linked opened. opened)
          ]
        where
          nothing-up : (b : Joined) → (f b).lists.up ≡ b.lists.up
          nothing-up b = go (eqb b.client j.client && b.lists.client_open)
            where
              go : (t : Bool) → b.lists.up ++ cond t [] [] ≡ b.lists.up
              go true = append-nil b.lists.up
              go false = append-nil b.lists.up

          none : (y : ClientSide) (a : Joined) → a ≡ f j → At first.clients a.client y → is_none (connection_at y.core a.at_client) ≡ true
          none y a a_is is = elim (At-set w.clients j.client (record x { core = core; names = x.names }) a.client y is) [
            | inl here ↦ subst (λ (v : ClientSide × Handle). is_none (connection_at v.0.core v.1) ≡ true) (λ i. (sym here.1 i, ap (λ (v : Joined). v.at_client) (sym a_is) i)) (ended-none j.at_client x.core)
            | inr old ↦ absurd (old.1 (ap (λ (v : Joined). v.client) a_is))
          ]

  pub sent-cut-client : HappensCutClient w k j x new → SentStand new
  sent-cut-client happens =
      subst (λ (v : World). SentStand v) (sym happens.4) (subst (λ (core : Client). SentStand (client_ended k j x happens.0 core w)) (sym happens.3.2) (sent-ended happens.0))

  pub sent-client-step : j.lists.client_open ≡ true → ClientsStand w → HappensClientStep w k j x new → SentStand new
  sent-client-step open_it stands happens = subst (λ (v : World). SentStand v) (sym happens.4) (go (connection_at x.core j.at_client) refl happens.0 happens.1 happens.2 happens.3)
    where
      go : (o : Option Connection) → connection_at x.core j.at_client ≡ o → (did : Stepped) (sent : List Sending) (core : Client) → StepsOn x.core j.at_client o did sent core → SentStand (client_stepped k j x did sent core w)
      go None is did sent core steps = absurd (both_ways (is_none (connection_at x.core j.at_client)) (stands.connected k j x at there open_it) (ap is_none is))
      go (Some d) is NeedBytes sent core steps = s
      go (Some d) is (Closed c) sent core steps = subst (λ (z : Client). SentStand (client_ended k j x c z w)) (sym steps.1.2) (sent-ended c)
      go (Some d) is (Notices told) sent core steps =
          let about : Intent = about_at j.lists (length j.lists.heard) in
          let lines : List Line = lines_of about x.names told in
          let logged : ℕ = log_length x.life w.client_logs in
          let g : Step = record { sent = length j.lists.up; logged = logged; after = logged + length lines } in
          let mid : World = with_circuit k (heard_in g j) w in
          let y : Client = after_taking j.at_client steps.rest x.core in
          let e : Effect = record { core = core; sent = sent; notices = told } in
          let taken : Keeps x.core y = keeps-on _ j.at_client x.core in
          let read : Keeps y core = keeps-heard y j.at_client steps.m e (taken.placed (stands.sound j.client x there).placed) steps.hears in
          sent-linked mid j.client x x.names (record { core = core; names = x.names; lines = lines; sent = sent }) there (once.there j.client x there)
          (calls-moved x.names x.core sent core lines (q.tidy j.client x there) (moved-before x.core y core sent (less-on _ j.at_client x.core) (moved-heard y j.at_client steps.m e steps.hears)) (notices-no-call about x.names told))
          (keeps-then x.core y core taken read).links
          (sent-same w mid refl refl (all-set k j (heard_in g j) w.circuits at (record { client = refl; handle = refl; life = refl; opens = refl; up = refl })) s)

-- ---- a client begins again

-- it is connected nowhere
begins-unconnected : (names : List Address) (c : Handle) (d : ClientCircuit) → under (name_circuits names) c ≡ Some d → d.connection ≡ None
begins-unconnected names c d is =
    let m = At-mapped _ (distinct names) c.index (place c d) (under-at (name_circuits names) c d is) in
    by m.0 m.2
  where
    circuit-of : Option ClientCircuit → Option Connection
    circuit-of o = option_and_then (λ (v : ClientCircuit). v.connection) o

    by : (a : Address) → place c d ≡ record { generation = 1; value = Some (client.new_circuit a 0 true) } → d.connection ≡ None
    by a e = ap (λ (v : Place ClientCircuit). circuit-of v.value) e

pub begun-none : (servers : List Address) (moment life : ℕ) (g : _) (c : Handle) → let z : ClientSide = client_begun servers moment life g in is_none (connection_at z.core c) ≡ true
begun-none servers moment life g c = go (under (name_circuits g.name_servers) c) refl
  where
    go : (o : Option ClientCircuit) → under (name_circuits g.name_servers) c ≡ o → is_none (option_and_then (λ (v : ClientCircuit). v.connection) o) ≡ true
    go None is = refl
    go (Some d) is = ap is_none (begins-unconnected g.name_servers c d is)

pub sent-client-restart : (w new : World) (i : ℕ) (x : ClientSide) → At w.clients i x → SentStand w → HappensClientRestart w i x new → SentStand new
sent-client-restart w new i x at s happens = subst (λ (v : World). SentStand v) (sym happens) (record {
  reached = λ l y c have linked. elim (At-set w.clients i z l y have) [
    | inl here ↦ absurd (both_ways (is_none (connection_at y.core c)) linked (subst (λ (v : ClientSide). is_none (connection_at v.core c) ≡ true) (sym here.1) (begun-none servers w.moment (length w.client_logs) x.setting c)))
    | inr old ↦
        let r = s.reached l y c old.0 linked in
        let still : client_gone i x r.1 ≡ r.1 = others r.1 (λ e. old.1 (sym r.3 ∙ e)) in
        (r.0, client_gone i x r.1, At-map (client_gone i x) w.circuits r.0 r.1 r.2, ap (λ (v : Joined). v.client) still ∙ r.3, ap (λ (v : Joined). v.at_client) still ∙ r.4, ap (λ (v : Joined). v.lists.client) still ∙ r.5, ap (λ (v : Joined). v.lists.client_open) still ∙ r.6)
  ];
  asked = λ l log p intent e have line is. elim (At-snoc w.client_logs [] l log have) [
    | inl old ↦
        let r = s.asked l log p intent e old line is in
        let same = kept r.1 in
        (r.0, client_gone i x r.1, r.2, r.3, At-map (client_gone i x) w.circuits r.0 r.1 r.4, same.0 ∙ r.5, subst (λ (v : List Sent). At v r.2 r.3) (sym same.1) r.6, r.7)
    | inr last ↦ absurd (empty p intent e (subst (λ (v : List Line). At v p (Called intent e)) last.1 line))
  ];
})
  where
    servers : List Address
    servers = addresses (map (λ (y : ServerSide). y.setting) w.servers)

    z : ClientSide
    z = client_begun servers w.moment (length w.client_logs) x.setting

    empty : (p : ℕ) (intent : Intent) (e : Wish) → (let log : List Line = [] in At log p (Called intent e)) → ⊥
    empty p intent e line = cc

    others : (a : Joined) → (a.client ≡ i → ⊥) → client_gone i x a ≡ a
    others a other = go (eqb a.client i) refl
      where
        go : (b : Bool) → eqb a.client i ≡ b → cond (b && a.lists.client_open) (client_closed (out_bytes x.core a.at_client) a) a ≡ a
        go true is = absurd (other (eqb-true a.client i is))
        go false is = refl

    kept : (a : Joined) → ((client_gone i x a).lists.client ≡ a.lists.client) × ((client_gone i x a).lists.up ≡ a.lists.up)
    kept a = go (eqb a.client i && a.lists.client_open)
      where
        go : (b : Bool) → (let v : Joined = cond b (client_closed (out_bytes x.core a.at_client) a) a in (v.lists.client ≡ a.lists.client) × (v.lists.up ≡ a.lists.up))
        go true = (refl, refl)
        go false = (refl, refl)

-- ---- a circuit is made

same-client : (k : Option Closing) (n : Joined) → (connected_as k n).client ≡ n.client
same-client None n = refl
same-client (Some e) n = refl

-- one circuit more
sent-joined : (w new : World) (n : Joined) → new.clients ≡ w.clients → new.client_logs ≡ w.client_logs → new.circuits ≡ w.circuits ++ n ∷ [] → SentStand w → SentStand new
sent-joined w new n clients logs circuits s =
    sent-same w new clients logs (λ k a at. (a, subst (λ (c : List Joined). At c k a) (sym circuits) (At-append w.circuits (n ∷ []) k a at), same-end a)) s

pub sent-accept : (w new : World) (c : ℕ) (x : ClientSide) (v : WantsFirst w x) → At w.clients c x → ClientsQuiet w → OnceStand w → SentStand w → HappensAccept w c x v new → SentStand new
sent-accept w new c x v at q once s happens = elim happens.leaves [
  | inl refusal ↦ subst (λ (u : World). SentStand u) (sym refusal.1) s
  | inr did ↦
      let there = wanted-there x.core v.place v.v v.at in
      subst (λ (u : World). SentStand u) (sym did.6)
      (joins there.0 there.1 there.2 did.0 did.1 did.2 did.3 (subst (λ (o : Option ClientCircuit). ConnectsOn x.core v.v.circuit o did.1 did.2 did.3) (unconnected-is x.core v.v.circuit there.0 there.1 there.2) did.5))
]
  where
    on : Handle
    on = v.v.circuit

    made : Handle → Option Closing → World
    made h k = record (with_server v.i (record v.y { core = happens.server }) w) { circuits = w.circuits ++ connected_as k (new_circuit c x on v.i v.y h) ∷ [] }

    joins : (d : ClientCircuit) → under x.core.circuits on ≡ Some d → d.connection ≡ None → (h : Handle) (k : Option Closing) (sent : List Sending) (core : Client) → ConnectsOn x.core on (Some d) k sent core
        → SentStand (client_after c x x.names (record { core = core; names = x.names; lines = lines_of history.OfCircuit x.names (closing_notices k); sent = sent }) (made h k))
    joins d there none h None sent core does =
        let n : Joined = new_circuit c x on v.i v.y h in
        let w1 : World = made h None in
        let s1 : SentStand w1 = sent-joined w w1 n refl refl refl s in
        let sends : List Sending = set_up x.core.peer on d ++ creations on x.core in
        sent-called w1 c x x.names (record { core = core; names = x.names; lines = lines_of history.OfCircuit x.names []; sent = sent }) at (once.there c x at)
        (calls-moved x.names x.core sent core (lines_of history.OfCircuit x.names []) (q.tidy c x at) (moved-connected x.core on d None sent core does) (notices-no-call history.OfCircuit x.names []))
        (λ e linked. elim (handle-or e on) [
          | inl same ↦ (length w.circuits, n, At-last w.circuits n, refl, sym same, refl, refl)
          | inr other ↦
              s1.reached c x e at
              (sym ((keeps-begun on d x.core there none).links e other) ∙ sym ((keeps-sending sends (begun on x.core)).links e) ∙ ap (λ (u : Client). is_none (connection_at u e)) (sym does.1) ∙ linked)
        ]) s1
    joins d there none h (Some k) sent core does =
        let n : Joined = connected_as (Some k) (new_circuit c x on v.i v.y h) in
        let w1 : World = made h (Some k) in
        let s1 : SentStand w1 = sent-joined w w1 n refl refl refl s in
        sent-called w1 c x x.names (record { core = core; names = x.names; lines = lines_of history.OfCircuit x.names k.notices; sent = sent }) at (once.there c x at)
        (calls-moved x.names x.core sent core (lines_of history.OfCircuit x.names k.notices) (q.tidy c x at) (moved-connected x.core on d (Some k) sent core does) (notices-no-call history.OfCircuit x.names k.notices))
        (λ e linked. s1.reached c x e at (ended-linked on e x.core (ap (λ (u : Client). is_none (connection_at u e)) (sym does.2) ∙ linked)).1) s1

-- ---- a moment

-- What is connected was, and is none of those that fell silent so far.
abbrev Ticked : Client → List Left → Client → Type 0
Ticked x closings y = (c : Handle) → is_none (connection_at y c) ≡ false → (is_none (connection_at x c) ≡ false) × ((l : ℕ) (f : Left) → At closings l f → f.circuit ≡ c → ⊥)

ticked-links : (x : Client) (closings : List Left) (y z : Client) → ((c : Handle) → is_none (connection_at z c) ≡ is_none (connection_at y c)) → Ticked x closings y → Ticked x closings z
ticked-links x closings y z links t c linked = t c (sym (links c) ∙ linked)

ticks-one : (x : Client) (t : Ticking) (c : Handle) → Ticked x t.closings t.core → Ticked x (ticks t c).closings (ticks t c).core
ticks-one x t c m = go (connection_at t.core c)
  where
    by : (k : Keep) → Ticked x (ticks_as k c t).closings (ticks_as k c t).core
    by Idle = m
    by Close = λ e linked.
        let r = ended-linked c e t.core linked in
        let old = m e r.1 in (
          old.0,
          λ l f at is. elim (At-snoc t.closings (record { circuit = c; bytes = _ }) l f at) [
            | inl was ↦ old.1 l f was is
            | inr last ↦ r.0 (sym is ∙ ap (λ (v : Left). v.circuit) last.1)
          ],
        )
    by Echo =
        let noted : Client = on_connection (λ (e : Connection). record e { link = record e.link { echoed = true } }) c t.core in
        ticked-links x t.closings t.core (sending (of_circuit c (header_only command.Echo) ∷ []) noted) (keeps-then t.core noted (sending (of_circuit c (header_only command.Echo) ∷ []) noted) (keeps-on _ c t.core) (keeps-sending (of_circuit c (header_only command.Echo) ∷ []) noted)).links m

    go : (o : Option Connection) → (let u : Ticking = unwrap_or (option_map (λ (e : Connection). ticks_as (kept t.core.moment e.link) c t) o) t in Ticked x u.closings u.core)
    go None = m
    go (Some e) = by (kept t.core.moment e.link)

ticks-all : (x : Client) (order : List Handle) (t : Ticking) → Ticked x t.closings t.core → (let u : Ticking = fold ticks t order in Ticked x u.closings u.core)
ticks-all x [] t m = m
ticks-all x (c ∷ order) t m = ticks-all x order (ticks t c) (ticks-one x t c m)

module _ (x : Client) (closings : List Left) where
  searched-one : (c : Handle) (t : Ticking) (w : search.Wanted) → Ticked x closings t.core → Ticked x closings (searches_on c t w).core
  searched-one c t w m = go (is_over t.core c)
    where
      go : (b : Bool) → Ticked x closings (cond b t (with_sending (of_circuit c (search_request w.cid w.name)) t)).core
      go true = m
      go false = ticked-links x closings t.core (sending (of_circuit c (search_request w.cid w.name) ∷ []) t.core) (keeps-sending (of_circuit c (search_request w.cid w.name) ∷ []) t.core).links m

  searched-each : (c : Handle) (ws : List search.Wanted) (t : Ticking) → Ticked x closings t.core → Ticked x closings (fold (searches_on c) t ws).core
  searched-each c [] t m = m
  searched-each c (w ∷ ws) t m = searched-each c ws (searches_on c t w) (searched-one c t w m)

  searched-all : (ws : List search.Wanted) (cs : List Handle) (t : Ticking) → Ticked x closings t.core → Ticked x closings (fold (all_searched_on ws) t cs).core
  searched-all ws [] t m = m
  searched-all ws (c ∷ cs) t m = searched-all ws cs (all_searched_on ws t c) (searched-each c ws t m)

ticked-so : (moment : ℕ) (x : Client) → (let t : Ticking = circuits_ticked moment x in Ticked x t.closings (searches_made t).core)
ticked-so moment x =
    let y : Client = record x { moment = later moment x } in
    let t : Ticking = circuits_ticked moment x in
    let u : Ticking = fold (all_searched_on (due t.core)) t (filter (is_name_connected t.core) t.core.order) in
    ticked-links x t.closings u.core (searches_made t).core (λ c. refl)
    (searched-all x t.closings (due t.core) (filter (is_name_connected t.core) t.core.order) t
    (ticks-all x x.order (record { core = y; sent = []; notices = []; closings = [] }) (λ c linked. (linked, λ l f at is. nowhere l f at))))
  where
    nowhere : (l : ℕ) (f : Left) → (let v : List Left = [] in At v l f) → ⊥
    nowhere l f at = cc

-- an end that fell silent is closed, and the others are as they were
tick-end : (i : ℕ) (closings : List Left) (a : Joined) → (let b : Joined = after_tick i closings a in (b.client ≡ a.client) × (b.at_client ≡ a.at_client) × (b.lists.client ≡ a.lists.client) × (b.lists.up ≡ a.lists.up)
    × ((a.client ≡ i → (l : ℕ) (f : Left) → At closings l f → f.circuit ≡ a.at_client → ⊥) → a.lists.client_open ≡ true → b.lists.client_open ≡ true))
tick-end i closings a = go (eqb a.client i) a.lists.client_open refl refl (find (λ (l : Left). same_handle l.circuit a.at_client) closings) refl
  where
    go : (b c : Bool) → eqb a.client i ≡ b → a.lists.client_open ≡ c → (o : Option Left) → find (λ (l : Left). same_handle l.circuit a.at_client) closings ≡ o
        → (let v : Joined = cond (b && c) (unwrap_or (option_map (λ (left : List ℕ). client_closed left a) (option_map (λ (l : Left). l.bytes) o)) a) a in (v.client ≡ a.client) × (v.at_client ≡ a.at_client) × (v.lists.client ≡ a.lists.client) × (v.lists.up ≡ a.lists.up)
        × ((a.client ≡ i → (l : ℕ) (f : Left) → At closings l f → f.circuit ≡ a.at_client → ⊥) → a.lists.client_open ≡ true → v.lists.client_open ≡ true))
    go false c is opens o found = (refl, refl, refl, refl, λ none opened. opened)
    go true false is opens o found = (refl, refl, refl, refl, λ none opened. opened)
    go true true is opens None found = (refl, refl, refl, refl, λ none opened. opened)
    go true true is opens (Some f) found =
        let r = find-at (λ (l : Left). same_handle l.circuit a.at_client) closings f found in
        (refl, refl, refl, refl, λ none opened. absurd (none (eqb-true a.client i is) r.0 f r.1 (same-is f.circuit a.at_client r.2)))

ticks-one-sent : (moment : ℕ) (w : World) (i : ℕ) (new : World) → ClientsQuiet w → OnceStand w → SentStand w → TicksOne moment w i new → SentStand new
ticks-one-sent moment w i new q once s happens = subst (λ (v : World). SentStand v) (sym happens.6) (
    sent-closing after (record after { circuits = map (after_tick i closings) after.circuits }) refl refl
    (λ k a at.
    let e = tick-end i closings a in (
      after_tick i closings a,
      At-map (after_tick i closings) after.circuits k a at,
      e.0,
      e.1,
      e.2,
      e.3,
      λ y there linked opened. e.4 (λ mine l f have is.
          elim (At-set w.clients i (record x { core = happens.4; names = x.names }) a.client y there) [
            | inl here ↦ (so a.at_client (subst (λ (v : ClientSide). is_none (connection_at v.core a.at_client) ≡ false) here.1 linked)).1 l f have is
            | inr old ↦ old.1 mine
          ]) opened,
    ))
    (sent-called w i x x.names o happens.1 (once.there i x happens.1)
    (calls-moved x.names x.core happens.3 happens.4 lines (q.tidy i x happens.1) made (notices-no-call history.OfCircuit x.names (happens.2).notices))
    (λ c linked. s.reached i x c happens.1 (so c linked).0) s)
    )
  where
    x : ClientSide
    x = happens.0

    closings : List Left
    closings = (happens.2).closings

    lines : List Line
    lines = lines_of history.OfCircuit x.names (happens.2).notices

    o : Outcomes
    o = record { core = happens.4; names = x.names; lines = lines; sent = happens.3 }

    after : World
    after = client_after i x x.names o w

    made : Moved x.core happens.3 happens.4
    made = subst (λ (v : List Sending × Client). Moved x.core v.0 v.1) (λ k. (sym (happens.5).1 k, sym (happens.5).2 k)) (moved-ticked moment x.core)

    so : Ticked x.core closings happens.4
    so = subst (λ (v : List Left × Client). Ticked x.core v.0 v.1) (λ k. (ap (λ (t : answer.Ticked). t.closings) (sym (happens.5).0) k, sym (happens.5).2 k)) (ticked-so moment x.core)

pub sent-ticks : (moment : ℕ) (clients : List ℕ) (w new : World) → ClientsQuiet w → OnceStand w → SentStand w → FoldsTo (TicksOne moment) w clients new → SentStand new
sent-ticks moment [] w new q once s folds = subst (λ (v : World). SentStand v) folds s
sent-ticks moment (i ∷ clients) w new q once s folds =
    sent-ticks moment clients folds.0 new (quiet-ticks moment (i ∷ []) w folds.0 q (folds.0, folds.1, refl)) (ticks-one-once moment w i folds.0 q once folds.1) (ticks-one-sent moment w i folds.0 q once s folds.1) folds.2
