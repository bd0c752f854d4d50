-- Each read, put and plain write that a client sends is that of the call that sends it, a read for
-- the type and the count of that, a put or a plain write with its value: what each event sends.
use Rattle.std.proofs.Common.{◌≡◌, ℕ, zero, suc, ◌+◌, ◌⊎◌, inl, inr, Bool, true, false, ◌&&◌, cond, eqb, List, [], ◌∷◌, ◌++◌, length, Option, Some, None, refl, sym, ap, ◌∙◌, subst}
use Rattle.std.specs.Prelude.{drop, is_none, map, option_map, slice_set, unwrap_or}
use Rattle.std.specs.List.{FoldsTo}
use Rattle.std.proofs.lemmas.Bool.{both_ways}
use Rattle.ca_text.specs.Place.{At}
use Rattle.ca_text.proofs.Places.{At-after, At-mapped, At-parts, At-set, At-snoc, some_is}
use Rattle.ca_arena.specs.declared.handle.Handle.{Handle}
use Rattle.ca_dbr.specs.Elements.{Elements, IsValue}
use Rattle.ca_monitor.specs.Subscriptions.{Subscription}
use Rattle.ca_model.specs.Answers.{Closed, Closing, NeedBytes, Notices, Sending, Stepped}
use Rattle.ca_model.specs.Client.{Clearing, Client, ClientCircuit, Connecting, Connection, Creating, Doomed, Leaving, Live, On, Searching, Standing, connection_at, later, out_bytes, standing_at}
use Rattle.ca_model.specs.ClientCalls.{Shape, cancel_sent, clear_sent, clearing_sent, event_cancel_sent, put_sent, read_sent, write_sent}
use Rattle.ca_model.specs.ClientEnds.{ConnectsOn, StepsOn, after_taking, handed_over}
use Rattle.ca_model.specs.Ends.{Address}
use Rattle.ca_model.specs.Hears.{Effect}
use Rattle.ca_model.specs.History.{Called, Intent, Line, Sent, Step, ToRead, ToWrite, Wish}
use Rattle.ca_model.specs.History as history
use Rattle.ca_model.specs.Speech.{In}
use Rattle.ca_model.specs.Channels.{IsRequest}
use Rattle.ca_model.specs.ClientEvents.{DownTaken, HappensAccept, HappensClear, HappensClientDatagram, HappensClientRestart, HappensClientStep, HappensDown, HappensOpen, HappensRead, HappensSubscribe, HappensUnsubscribe, HappensUp, HappensWrite, HappensWriteNotify, Outcomes, TicksOne, WantsFirst, about_at, after_tick, client_after, client_closed, client_ended, client_gone, client_stepped, connected_as, heard_in, intent_of, left_silent, lines_of, new_circuit, sent_on}
use Rattle.ca_model.specs.Events.{Event}
use Rattle.ca_model.specs.Events as event
use Rattle.ca_model.specs.Runs.{Happens, IsEvent}
use Rattle.ca_model.specs.World.{ClientSide, Joined, Names, ServerSide, World, log_length, with_circuit, with_client, with_server}
use Rattle.ca_laws_parts.specs.Held.{with_request, with_subscription}
use Rattle.ca_laws_parts.specs.Circuit.{sent_to, stamped}
use Rattle.ca_laws_parts.specs.Clients.{ClientsStand}
use Rattle.ca_laws_parts.proofs.ClientsMore.{unconnected-is, wanted-there}
use Rattle.ca_laws_parts.proofs.WritesLists.{none_at}
use Rattle.ca_laws_parts.proofs.Midway.{set-here}
use Rattle.ca_laws_runs.specs.Quiet.{ClientsQuiet}
use Rattle.ca_laws_runs.proofs.Ends.{From, from-itself}
use Rattle.ca_laws_runs.proofs.Making.{ticked-client}
use Rattle.ca_laws_runs.proofs.OnceCalls.{NoRequest, calls-put, calls-read, calls-write, plain-no-request}
use Rattle.ca_laws_runs.proofs.OnceMoved.{ArePlain, moved-all-received, moved-connected, moved-given, moved-heard, none-sent, one-plain}
use Rattle.ca_laws_runs.proofs.OnceWorld.{OnceStand, logs-grown, on-circuit-sent}
use Rattle.ca_laws_runs.proofs.Servers.{from-add, from-cut-server, from-finish, from-post, from-pump, from-remove, from-server-restart, from-server-step}
use Rattle.ca_laws_runs.specs.Carried.{IsCalledIn, IsRead, IsWrite}

-- The log of the circuit's client has the call of what was sent.
abbrev pub IsCalledBy : (new : World) → Joined → Sent → Type 0
IsCalledBy new d s = (x : List Line) × At new.client_logs d.lists.client x × IsCalledIn x s

-- Each request was there, or is called.
abbrev pub CarriesBack : (w new : World) → Type 0
CarriesBack w new = (n : ℕ) (d : Joined) (k : ℕ) (s : Sent) → At new.circuits n d → At d.lists.up k s → IsRequest s.intent → ((c : Joined) × At w.circuits n c × At c.lists.up k s) ⊎ IsCalledBy new d s

only : (r s : Sending) (m : ℕ) → At (r ∷ []) m s → s ≡ r
only r s zero there = sym (some_is r s there)
only r s (suc m) there = absurd cc

plain-of : (ss rs : List Sending) → ss ≡ rs → ArePlain rs → ArePlain ss
plain-of ss rs is plain = subst (λ (l : List Sending). ArePlain l) (sym is) plain

plain-cleared : (h : Handle) (s : Standing) → ArePlain (clearing_sent h s)
plain-cleared h Searching = none-sent
plain-cleared h (On c Connecting) = none-sent
plain-cleared h (On c (Creating rights)) = none-sent
plain-cleared h (On c Leaving) = none-sent
plain-cleared h (On c Clearing) = none-sent
plain-cleared h (On c Doomed) = none-sent
plain-cleared h (On c (Live native rights)) = one-plain (clear_sent c native.sid h) refl

plain-cancel : (g : Handle) (d : Subscription) (o : Option Standing) → ArePlain (cancel_sent g d o)
plain-cancel g d None = none-sent
plain-cancel g d (Some Searching) = none-sent
plain-cancel g d (Some (On c Connecting)) = none-sent
plain-cancel g d (Some (On c (Creating rights))) = none-sent
plain-cancel g d (Some (On c Leaving)) = none-sent
plain-cancel g d (Some (On c Clearing)) = none-sent
plain-cancel g d (Some (On c Doomed)) = none-sent
plain-cancel g d (Some (On c (Live native rights))) = one-plain (event_cancel_sent c native.sid g d) refl

-- ---- worlds

-- Each circuit was there with the same messages sent.
abbrev Ups : (w mid : World) → Type 0
Ups w mid = (n : ℕ) (b : Joined) → At mid.circuits n b → (c : Joined) × At w.circuits n c × (b.lists.up ≡ c.lists.up)

ups-self : (w new : World) → new.circuits ≡ w.circuits → Ups w new
ups-self w new is n b at = (b, subst (λ (l : List Joined). At l n b) is at, refl)

ups-set : (w new : World) (k : ℕ) (j d : Joined) → At w.circuits k j → new.circuits ≡ slice_set w.circuits k d → d.lists.up ≡ j.lists.up → Ups w new
ups-set w new k j d on is up n b at = elim (At-set w.circuits k d n b (subst (λ (l : List Joined). At l n b) is at)) [
  | inl own ↦ (j, subst (λ (m : ℕ). At w.circuits m j) (sym own.0) on, ap (λ (v : Joined). v.lists.up) own.1 ∙ up)
  | inr old ↦ (b, old.0, refl)
]

ups-from : (w new : World) → From w new → Ups w new
ups-from w new f n b at = (let a = f.circuits n b at in (a.0, a.1, a.2.up))

says-ups : (w new : World) → Ups w new → CarriesBack w new
says-ups w new ups n d k s at there writes = (let c = ups n d at in inl (c.0, c.1, subst (λ (l : List Sent). At l k s) c.2 there))

after-goes : (i : ℕ) (names : Names) (sent : List Sending) (mid new : World) → new.circuits ≡ map (sent_to i names sent) mid.circuits → (n : ℕ) (d : Joined) → At new.circuits n d → (b : Joined) × At mid.circuits n b × (d ≡ sent_to i names sent b)
after-goes i names sent mid new is n d at = At-mapped (sent_to i names sent) mid.circuits n d (subst (λ (l : List Joined). At l n d) is at)

-- These were sent by a client since, and none is a request.
says-called : (w mid new : World) (i : ℕ) (names : Names) (sent : List Sending) → Ups w mid → new.circuits ≡ map (sent_to i names sent) mid.circuits → NoRequest names sent → CarriesBack w new
says-called w mid new i names sent ups is none n d k s at there writes =
    let b = after-goes i names sent mid new is n d at in
    let c = ups n b.0 b.1 in
    elim (At-parts b.0.lists.up (sent_on i names sent b.0) k s (subst (λ (l : List Sent). At l k s) (ap (λ (v : Joined). v.lists.up) b.2) there)) [
      | inl old ↦ inl (c.0, c.1, subst (λ (l : List Sent). At l k s) c.2 old)
      | inr late ↦
          let v = (on-circuit-sent i names sent b.0 late.0 s late.2).2 in
          absurd (none v.0 v.1 v.2 (subst (λ (z : Sent). IsRequest z.intent) v.4 writes))
    ]

-- One was, which its call reports.
says-one : (w new : World) (i : ℕ) (x : ClientSide) (spoken : Names) (o : Outcomes) (r : Sending) (given : Wish) → At w.clients i x → OnceStand w → new ≡ client_after i x spoken o w → o.sent ≡ r ∷ []
    → o.lines ≡ Called (intent_of spoken r.aim) given ∷ [] → ((l : List Line) → In l (Called (intent_of spoken r.aim) given) → IsCalledIn l (stamped spoken r)) → CarriesBack w new
says-one w new i x spoken o r given at once is sent lines called n d k s at_d there writes =
    let b = after-goes i spoken o.sent w new (ap (λ (v : World). v.circuits) is) n d at_d in
    elim (At-parts b.0.lists.up (sent_on i spoken o.sent b.0) k s (subst (λ (l : List Sent). At l k s) (ap (λ (v : Joined). v.lists.up) b.2) there)) [
      | inl old ↦ inl (b.0, b.1, old)
      | inr late ↦
          let v = on-circuit-sent i spoken o.sent b.0 late.0 s late.2 in
          let one : v.2.1 ≡ r = only r v.2.1 v.2.0 (subst (λ (l : List Sending). At l v.2.0 v.2.1) sent v.2.2) in
          let s_is : s ≡ stamped spoken r = v.2.4 ∙ ap (stamped spoken) one in
          let owns : b.0.lists.client ≡ x.life = once.ends n b.0 x b.1 (subst (λ (m : ℕ). At w.clients m x) (sym v.0) at) v.1 in
          let life : d.lists.client ≡ x.life = ap (λ (z : Joined). z.lists.client) b.2 ∙ owns in
          let t = once.there i x at in
          let g = logs-grown w.client_logs x.life o.lines t.0 t.1 in
          let now = g.1 x.life t.0 t.1 in
          let has : In now.0 (Called (intent_of spoken r.aim) given) = elim (g.0 x.life now.0 now.1) [
            | inr other ↦ absurd (other.1 refl)
            | inl grew ↦ (
              length grew.1.0 + 0,
              subst (λ (l : List Line). At l (length grew.1.0 + 0) (Called (intent_of spoken r.aim) given)) (sym grew.1.2)
                  (At-after grew.1.0 o.lines 0 (Called (intent_of spoken r.aim) given) (subst (λ (l : List Line). At l 0 (Called (intent_of spoken r.aim) given)) (sym lines) refl)),
            )
          ] in
          inr (
            now.0,
            subst (λ (l : List (List Line)). At l d.lists.client now.0) (sym (ap (λ (z : World). z.client_logs) is)) (subst (λ (m : ℕ). At (client_after i x spoken o w).client_logs m now.0) (sym life) now.1),
            subst (λ (z : Sent). IsCalledIn now.0 z) (sym s_is) (called now.0 has),
          )
    ]

-- ---- calls

module _ (w new : World) (i : ℕ) (x : ClientSide) (at : At w.clients i x) (stands : ClientsStand w) (q : ClientsQuiet w) (now : ClientsQuiet new) (once : OnceStand w) where
  same-world : new.circuits ≡ w.circuits → CarriesBack w new
  same-world is = says-ups w new (ups-self w new is)

  -- names as they are after it
  by-new : (z : ClientSide) (sent : List Sending) → new.clients ≡ slice_set w.clients i z → new.circuits ≡ map (sent_to i z.names sent) w.circuits → ArePlain sent → CarriesBack w new
  by-new z sent clients circuits plain =
      let there : At new.clients i z = subst (λ (l : List ClientSide). At l i z) (sym clients) (set-here w.clients i x z at) in
      says-called w w new i z.names sent (ups-self w w refl) circuits (plain-no-request z.names z.core (now.tidy i z there) sent plain)

  -- names as they were
  by-old : (sent : List Sending) → new.circuits ≡ map (sent_to i x.names sent) w.circuits → ArePlain sent → CarriesBack w new
  by-old sent circuits plain = says-called w w new i x.names sent (ups-self w w refl) circuits (plain-no-request x.names x.core (q.tidy i x at) sent plain)

  says-open : (name : List ℕ) (priority : ℕ) → HappensOpen w i x name priority new → CarriesBack w new
  says-open name priority happens = elim happens [
    | inl refusal ↦ same-world (ap (λ (z : World). z.circuits) refusal.3)
    | inr did ↦
        by-new (record x { core = did.2; names = record x.names { channels = x.names.channels ++ did.0 ∷ [] } }) did.1 (ap (λ (z : World). z.clients) did.4) (ap (λ (z : World). z.circuits) did.4) (plain-of did.1 [] did.3.2.0 none-sent)
  ]

  says-read : (c : ℕ) (h : Handle) (data_type count : ℕ) → HappensRead w i x c h data_type count new → CarriesBack w new
  says-read c h data_type count happens = elim happens [
    | inl refusal ↦ same-world (ap (λ (z : World). z.circuits) refusal.3)
    | inr did ↦
        let intent : Intent = history.On c (history.Request history.Read (length x.names.requests)) in
        let names : Names = with_request did.0 intent x.names in
        let shape : Shape = record { data_type = data_type; count = count } in
        let calls = calls-read x.names x.core c h (stands.sound i x at).placed (stands.sound i x at).named.requests shape did.0 did.1 did.2 did.3 in
        let asks : Wish = ToRead data_type count in
        let o : Outcomes = record { core = did.2; names = names; lines = Called intent asks ∷ []; sent = did.1 } in
        let a = calls.asks 0 intent asks refl tt in
        let r : Sending = read_sent h did.3.0 shape did.0 in
        let same : a.0 ≡ r = some_is a.0 r (subst (λ (l : List Sending). At l 0 r) (sym did.3.4.0 ∙ a.1) refl) in
        let meant : intent_of names r.aim ≡ intent = ap (λ (z : Sending). intent_of names z.aim) (sym same) ∙ a.2 in
        says-one w new i x names o r asks at once did.4 did.3.4.0 (ap (λ (z : Intent). Called z asks ∷ []) (sym meant)) (λ l has. inl (subst (λ (z : Intent). IsRead z) (sym meant) tt, has))
  ]

  says-put : (c : ℕ) (h : Handle) (e : Elements) → IsValue e → HappensWriteNotify w i x c h e new → CarriesBack w new
  says-put c h e valued happens = elim happens [
    | inl refusal ↦ same-world (ap (λ (z : World). z.circuits) refusal.3)
    | inr did ↦
        let intent : Intent = history.On c (history.Request history.Put (length x.names.requests)) in
        let names : Names = with_request did.0 intent x.names in
        let o : Outcomes = record { core = did.2; names = names; lines = Called intent (ToWrite e) ∷ []; sent = did.1 } in
        let calls = calls-put x.names x.core c h (stands.sound i x at).placed (stands.sound i x at).named.requests e did.0 did.1 did.2 did.3 in
        let a = calls.asks 0 intent (ToWrite e) refl tt in
        let r : Sending = put_sent h did.3.0 e did.0 in
        let same : a.0 ≡ r = some_is a.0 r (subst (λ (l : List Sending). At l 0 r) (sym did.3.4.0 ∙ a.1) refl) in
        let meant : intent_of names r.aim ≡ intent = ap (λ (z : Sending). intent_of names z.aim) (sym same) ∙ a.2 in
        says-one w new i x names o r (ToWrite e) at once did.4 did.3.4.0 (ap (λ (z : Intent). Called z (ToWrite e) ∷ []) (sym meant)) (λ l has. inr (subst (λ (z : Intent). IsWrite z) (sym meant) tt, record { given = e; called = has; valued = valued; carries = record { typed = refl; counted = refl; payload = refl } }))
  ]

  says-write : (c : ℕ) (h : Handle) (e : Elements) → At x.names.channels c h → IsValue e → HappensWrite w i x c h e new → CarriesBack w new
  says-write c h e named valued happens = elim happens [
    | inl refusal ↦ same-world (ap (λ (z : World). z.circuits) refusal.3)
    | inr did ↦
        let intent : Intent = history.On c (history.Request history.Write x.names.writes) in
        let o : Outcomes = record { core = did.2; names = record x.names { writes = x.names.writes + 1 }; lines = Called intent (ToWrite e) ∷ []; sent = did.1 } in
        let calls = calls-write x.names x.core c h e did.1 did.2 (stands.sound i x at).placed (q.tidy i x at) named did.3 in
        let a = calls.asks 0 intent (ToWrite e) refl tt in
        let r : Sending = write_sent h did.3.0 e in
        let same : a.0 ≡ r = some_is a.0 r (subst (λ (l : List Sending). At l 0 r) (sym did.3.3.0 ∙ a.1) refl) in
        let meant : intent_of x.names r.aim ≡ intent = ap (λ (z : Sending). intent_of x.names z.aim) (sym same) ∙ a.2 in
        says-one w new i x x.names o r (ToWrite e) at once did.4 did.3.3.0 (ap (λ (z : Intent). Called z (ToWrite e) ∷ []) (sym meant)) (λ l has. inr (subst (λ (z : Intent). IsWrite z) (sym meant) tt, record { given = e; called = has; valued = valued; carries = record { typed = refl; counted = refl; payload = refl } }))
  ]

  says-subscribe : (c : ℕ) (h : Handle) (data_type count mask : ℕ) → HappensSubscribe w i x c h data_type count mask new → CarriesBack w new
  says-subscribe c h data_type count mask happens = elim happens [
    | inl refusal ↦ same-world (ap (λ (z : World). z.circuits) refusal.3)
    | inr did ↦
        by-new (record x { core = did.2; names = with_subscription did.0 (history.On c (history.Subscribe (length x.names.subscriptions))) x.names }) did.1 (ap (λ (z : World). z.clients) did.4) (ap (λ (z : World). z.circuits) did.4)
        (plain-of did.1 _ did.3.4.0 (one-plain _ refl))
  ]

  says-clear : (c : ℕ) (h : Handle) → HappensClear w i x c h new → CarriesBack w new
  says-clear c h happens = elim happens [
    | inl refusal ↦ same-world (ap (λ (z : World). z.circuits) refusal.3)
    | inr did ↦ by-old did.1 (ap (λ (z : World). z.circuits) did.4) (plain-of did.1 _ did.3.3.0 (plain-cleared h did.3.0))
  ]

  says-datagram : (from : Address) (bytes : List ℕ) → HappensClientDatagram w i x from bytes new → CarriesBack w new
  says-datagram from bytes happens =
      let came : Client = record x.core { moment = later w.moment x.core } in
      let e : Effect = record { core = happens.1; sent = happens.0; notices = [] } in
      by-old happens.0 (ap (λ (z : World). z.circuits) happens.3) (moved-all-received from happens.2.0 came e happens.2.2).plain

  says-unsubscribe : (g : Handle × Intent) → HappensUnsubscribe w i x g new → CarriesBack w new
  says-unsubscribe g happens = elim happens [
    | inl refusal ↦ same-world (ap (λ (z : World). z.circuits) refusal.3)
    | inr did ↦ by-old did.1 (ap (λ (z : World). z.circuits) did.4) (plain-of did.1 _ did.3.3.0 (plain-cancel g.0 did.3.0 (standing_at x.core did.3.0.channel)))
  ]

-- ---- bytes and messages

module _ (w new : World) (k : ℕ) (j : Joined) (x : ClientSide) (on : At w.circuits k j) (there : At w.clients j.client x) (q : ClientsQuiet w) where
  said-mid : (mid : World) (sent : List Sending) → Ups w mid → new.circuits ≡ map (sent_to j.client x.names sent) mid.circuits → ArePlain sent → CarriesBack w new
  said-mid mid sent ups circuits plain = says-called w mid new j.client x.names sent ups circuits (plain-no-request x.names x.core (q.tidy j.client x there) sent plain)

  says-up : (n : ℕ) (y : ServerSide) → HappensUp w k n j x y new → CarriesBack w new
  says-up n y happens = says-ups w new (subst (λ (v : World). Ups w v) (sym happens.2) (go j.lists.client_open))
    where
      go : (b : Bool) → Ups w (with_server j.server (record y { core = happens.0 }) (cond b (with_client j.client (record x { core = handed_over j.at_client n x.core }) w) (with_circuit k (record j { left_up = drop n j.left_up }) w)))
      go true = ups-self w (with_server j.server (record y { core = happens.0 }) (with_client j.client (record x { core = handed_over j.at_client n x.core }) w)) refl
      go false = ups-set w (with_server j.server (record y { core = happens.0 }) (with_circuit k (record j { left_up = drop n j.left_up }) w)) k j (record j { left_up = drop n j.left_up }) on refl refl

  says-down : (n : ℕ) (y : ServerSide) → HappensDown w k n j x y new → CarriesBack w new
  says-down n y happens =
      said-mid happens.0 happens.1 (taken happens.0 happens.3) (ap (λ (z : World). z.circuits) happens.5) (moved-given x.core j.at_client _ _ (connection_at x.core j.at_client) happens.1 happens.2 happens.4).plain
    where
      taken : (mid : World) → DownTaken w k n j y mid → Ups w mid
      taken mid took = elim took [
        | inl open_it ↦ ups-self w mid (ap (λ (z : World). z.circuits) open_it.1.2)
        | inr closed_it ↦ ups-set w mid k j (record j { left_down = drop n j.left_down }) on (ap (λ (z : World). z.circuits) closed_it.1) refl
      ]

  says-ended : (c : Closing) (core : Client) → new ≡ client_ended k j x c core w → CarriesBack w new
  says-ended c core is =
      said-mid (with_circuit k (client_closed c.left j) w) [] (ups-set w (with_circuit k (client_closed c.left j) w) k j (client_closed c.left j) on refl refl) (ap (λ (z : World). z.circuits) is) none-sent

  says-client-step : j.lists.client_open ≡ true → ClientsStand w → HappensClientStep w k j x new → CarriesBack w new
  says-client-step open_it stands happens = go (connection_at x.core j.at_client) refl happens.0 happens.1 happens.2 happens.3 happens.4
    where
      go : (o : Option Connection) → connection_at x.core j.at_client ≡ o → (did : Stepped) (sent : List Sending) (core : Client) → StepsOn x.core j.at_client o did sent core → new ≡ client_stepped k j x did sent core w → CarriesBack w new
      go None is did sent core steps new_is = absurd (both_ways (is_none (connection_at x.core j.at_client)) (stands.connected k j x on there open_it) (ap is_none is))
      go (Some d) is NeedBytes sent core steps new_is = says-ups w new (ups-self w new (ap (λ (z : World). z.circuits) new_is))
      go (Some d) is (Closed c) sent core steps new_is = says-ended c core new_is
      go (Some d) is (Notices told) sent core steps new_is =
          let lines : List Line = lines_of (about_at j.lists (length j.lists.heard)) x.names told in
          let logged : ℕ = log_length x.life w.client_logs in
          let step : Step = record { sent = length j.lists.up; logged = logged; after = logged + length lines } in
          let mid : World = with_circuit k (heard_in step j) w in
          said-mid mid sent (ups-set w mid k j (heard_in step j) on refl refl) (ap (λ (z : World). z.circuits) new_is)
          (moved-heard (after_taking j.at_client steps.rest x.core) j.at_client steps.m (record { core = core; sent = sent; notices = told }) steps.hears).plain

-- a circuit is made
says-accept : (w new : World) (c : ℕ) (x : ClientSide) (v : WantsFirst w x) → At w.clients c x → ClientsQuiet w → HappensAccept w c x v new → CarriesBack w new
says-accept w new c x v at q happens = elim happens.leaves [
  | inl refusal ↦ says-ups w new (ups-self w new (ap (λ (z : World). z.circuits) refusal.1))
  | inr did ↦
      let on : Handle = v.v.circuit in
      let there = wanted-there x.core v.place v.v v.at in
      let made : Joined = connected_as did.1 (new_circuit c x v.v.circuit v.i v.y did.0) in
      let mid : World = record w { circuits = w.circuits ++ made ∷ [] } in
      let plain : ArePlain did.2 = (moved-connected x.core on there.0 did.1 did.2 did.3 (subst (λ (o : Option ClientCircuit). ConnectsOn x.core on o did.1 did.2 did.3) (unconnected-is x.core on there.0 there.1 there.2) did.5)).plain in
      let none : NoRequest x.names did.2 = plain-no-request x.names x.core (q.tidy c x at) did.2 plain in
      λ n d k s at_d at_s writes.
      let b = after-goes c x.names did.2 mid new (ap (λ (z : World). z.circuits) did.6) n d at_d in
      elim (At-parts b.0.lists.up (sent_on c x.names did.2 b.0) k s (subst (λ (l : List Sent). At l k s) (ap (λ (y : Joined). y.lists.up) b.2) at_s)) [
        | inr late ↦
            let z = (on-circuit-sent c x.names did.2 b.0 late.0 s late.2).2 in
            absurd (none z.0 z.1 z.2 (subst (λ (y : Sent). IsRequest y.intent) z.4 writes))
        | inl old ↦ elim (At-snoc w.circuits made n b.0 b.1) [
          | inl was ↦ inl (b.0, was, old)
          | inr last ↦ absurd (none_at k s (subst (λ (l : List Sent). At l k s) (ap (λ (y : Joined). y.lists.up) last.1 ∙ empty did.1 (new_circuit c x v.v.circuit v.i v.y did.0)) old))
        ]
      ]
]
  where
    empty : (k : Option Closing) (n : Joined) → (connected_as k n).lists.up ≡ n.lists.up
    empty None n = refl
    empty (Some e) n = refl

says-restart : (w new : World) (i : ℕ) (x : ClientSide) → HappensClientRestart w i x new → CarriesBack w new
says-restart w new i x happens = says-ups w new (λ n b at.
    let m = At-mapped (client_gone i x) w.circuits n b (subst (λ (v : World). At v.circuits n b) happens at) in
    (m.0, m.1, ap (λ (v : Joined). v.lists.up) m.2 ∙ by m.0 (eqb m.0.client i && m.0.lists.client_open)))
  where
    by : (a : Joined) (b : Bool) → (cond b (client_closed (out_bytes x.core a.at_client) a) a).lists.up ≡ a.lists.up
    by a true = refl
    by a false = refl

-- ---- a moment

-- Over a moment no request is sent.
abbrev NoneBack : (w new : World) → Type 0
NoneBack w new = (n : ℕ) (d : Joined) (k : ℕ) (s : Sent) → At new.circuits n d → At d.lists.up k s → IsRequest s.intent → (c : Joined) × At w.circuits n c × At c.lists.up k s

tick-none : (moment : ℕ) (w : World) (i : ℕ) (new : World) → TicksOne moment w i new → NoneBack w new
tick-none moment w i new (x, at, t, sent, core, does, is) n d k s at_d at_s writes =
    let a = At-mapped (after_tick i t.closings) (map (sent_to i x.names sent) w.circuits) n d (subst (λ (v : World). At v.circuits n d) is at_d) in
    let b = At-mapped (sent_to i x.names sent) w.circuits n a.0 a.1 in
    let up : d.lists.up ≡ b.0.lists.up ++ sent_on i x.names sent b.0 =
    ap (λ (v : Joined). v.lists.up) a.2 ∙ by a.0 (eqb a.0.client i && a.0.lists.client_open) (left_silent t.closings a.0) ∙ ap (λ (v : Joined). v.lists.up) b.2 in
    elim (At-parts b.0.lists.up (sent_on i x.names sent b.0) k s (subst (λ (l : List Sent). At l k s) up at_s)) [
      | inl old ↦ (b.0, b.1, old)
      | inr late ↦
          let v = (on-circuit-sent i x.names sent b.0 late.0 s late.2).2 in
          absurd (subst (λ (z : Intent). IsRequest z) (ap (λ (z : Sent). z.intent) v.4 ∙ (ticked-client x.names moment x.core).ticked.serves v.0 v.1 (subst (λ (l : List Sending). At l v.0 v.1) does.1 v.2)) writes)
    ]
  where
    by : (a : Joined) (b : Bool) (o : Option (List ℕ)) → (cond b (unwrap_or (option_map (λ (left : List ℕ). client_closed left a) o) a) a).lists.up ≡ a.lists.up
    by a true (Some left) = refl
    by a true None = refl
    by a false o = refl

ticks-none : (moment : ℕ) (is : List ℕ) (w new : World) → FoldsTo (TicksOne moment) w is new → NoneBack w new
ticks-none moment [] w new folds n d k s at there writes = (d, subst (λ (v : World). At v.circuits n d) (sym folds) at, there)
ticks-none moment (i ∷ is) w new folds n d k s at there writes =
    let b = ticks-none moment is folds.0 new folds.2 n d k s at there writes in
    tick-none moment w i folds.0 folds.1 n b.0 k s b.1 b.2 writes

pub ticks-carry : (moment : ℕ) (is : List ℕ) (w new : World) → FoldsTo (TicksOne moment) w is new → CarriesBack w new
ticks-carry moment is w new folds n d k s at there writes = inl (ticks-none moment is w new folds n d k s at there writes)

-- ---- every event

pub event-carries : (w new : World) (e : Event) → IsEvent e → ClientsStand w → ClientsQuiet w → ClientsQuiet new → OnceStand w → Happens w e new → CarriesBack w new
event-carries w new (event.Open i name priority) fine c q now once happens = says-open w new i happens.0.x happens.0.at c q now once name priority happens.1
event-carries w new (event.Clear i k) fine c q now once happens = says-clear w new i happens.0.x happens.0.at c q now once k happens.0.h happens.1
event-carries w new (event.Read i k data_type count) fine c q now once happens = says-read w new i happens.0.x happens.0.at c q now once k happens.0.h data_type count happens.1
event-carries w new (event.Write i k e) fine c q now once happens = says-write w new i happens.0.x happens.0.at c q now once k happens.0.h e happens.0.named fine happens.1
event-carries w new (event.WriteNotify i k e) fine c q now once happens = says-put w new i happens.0.x happens.0.at c q now once k happens.0.h e fine happens.1
event-carries w new (event.Subscribe i k data_type count mask) fine c q now once happens = says-subscribe w new i happens.0.x happens.0.at c q now once k happens.0.h data_type count mask happens.1
event-carries w new (event.Unsubscribe i n) fine c q now once happens = says-unsubscribe w new i happens.0.x happens.0.at c q now once happens.0.s happens.1
event-carries w new (event.Collect i r) fine c q now once happens = says-ups w new (ups-self w new (ap (λ (z : World). z.circuits) happens.1.2))
event-carries w new (event.GiveUp i r) fine c q now once happens = says-ups w new (ups-self w new (ap (λ (z : World). z.circuits) happens.1.2))
event-carries w new (event.ClientDatagram i from bytes) fine c q now once happens = says-datagram w new i happens.0.x happens.0.at c q now once from bytes happens.1
event-carries w new (event.ServerDatagram i from bytes) fine c q now once happens = says-ups w new (ups-self w new (ap (λ (z : World). z.circuits) happens.1.2))
event-carries w new (event.Accept i) fine c q now once happens = says-accept w new i happens.0.x happens.0.v happens.0.at q happens.1
event-carries w new (event.Up k n) fine c q now once happens = (let h = happens.0.0 in says-up w new k h.j h.x h.joins.at h.joins.client q n h.y happens.1)
event-carries w new (event.Down k n) fine c q now once happens = (let h = happens.0.0 in says-down w new k h.j h.x h.joins.at h.joins.client q n h.y happens.1)
event-carries w new (event.ServerStep k) fine c q now once happens = (let h = happens.0 in says-ups w new (ups-from w new (from-server-step w w new k h.j h.y h.joins.at (from-itself w) happens.1)))
event-carries w new (event.ClientStep k) fine c q now once happens = (let h = happens.0 in says-client-step w new k h.j h.x h.joins.at h.joins.client q h.is_open c happens.1)
event-carries w new (event.Pump k) fine c q now once happens = (let h = happens.0 in says-ups w new (ups-from w new (from-pump w w new k h.j h.y h.joins.at (from-itself w) happens.1)))
event-carries w new (event.CutClient k) fine c q now once happens = (let h = happens.0 in says-ended w new k h.j h.x h.joins.at h.joins.client q happens.1.0 happens.1.2 happens.1.4)
event-carries w new (event.CutServer k) fine c q now once happens = (let h = happens.0 in says-ups w new (ups-from w new (from-cut-server w w new k h.j h.y h.joins.at (from-itself w) happens.1)))
event-carries w new (event.ClientRestart i) fine c q now once happens = says-restart w new i happens.0.x happens.1
event-carries w new (event.ServerRestart i) fine c q now once happens = says-ups w new (ups-from w new (from-server-restart w w new i happens.0.y (from-itself w) happens.1))
event-carries w new (event.Post i name e mask) fine c q now once happens = says-ups w new (ups-from w new (from-post w w new i happens.0.y (from-itself w) name e mask happens.1))
event-carries w new (event.Finish i name) fine c q now once happens = says-ups w new (ups-from w new (from-finish w w new i happens.0.y (from-itself w) name happens.1))
event-carries w new (event.Remove i name) fine c q now once happens = says-ups w new (ups-from w new (from-remove w w new i happens.0.y (from-itself w) name happens.1))
event-carries w new (event.Add i r) fine c q now once happens = says-ups w new (ups-from w new (from-add w w new i happens.0.y (from-itself w) r happens.1))
event-carries w new (event.Tick moment) fine c q now once happens = (λ n d k s at there writes. inl (ticks-none moment _ w happens.1.0 happens.1.1 n d k s (subst (λ (v : World). At v.circuits n d) happens.1.2 at) there writes))
