-- The events of clients keep what is told of the channels that clients opened; and what they send
-- that clears a channel.
use Rattle.std.proofs.Common.{◌≡◌, ℕ, ◌<◌, ◌+◌, inl, inr, Bool, true, false, ◌&&◌, cond, eqb, List, [], ◌∷◌, ◌++◌, length, Option, Some, None, refl, sym, ap, ◌∙◌, subst, arith}
use Rattle.std.specs.Prelude.{drop, is_none, map, option_map, unwrap_or}
use Rattle.std.specs.List.{FoldsTo}
use Rattle.std.proofs.lemmas.Bool.{both_ways}
use Rattle.ca_text.specs.Place.{At}
use Rattle.ca_text.specs.declared.refusal.Refusal.{Refusal}
use Rattle.ca_text.specs.declared.command.Command.TheVariants as command
use Rattle.ca_text.proofs.Places.{At-after, At-mapped, At-set, At-snoc, At-within}
use Rattle.ca_arena.specs.declared.handle.Handle.{Handle}
use Rattle.ca_dbr.specs.Elements.{Elements}
use Rattle.ca_ids.specs.Table.{same_handle, under}
use Rattle.ca_ids.specs.Wire.{wire_of}
use Rattle.ca_model.specs.Answers.{Closed, Closing, Left, NeedBytes, Notices, Sending, Stepped}
use Rattle.ca_model.specs.Client.{Channel, Client, ClientCircuit, Connection, connection_at, ended, later, out_bytes}
use Rattle.ca_model.specs.Hears.{Effect}
use Rattle.ca_model.specs.ClientEnds.{ConnectsOn, StepsOn, after_taking, handed_over}
use Rattle.ca_model.specs.Ends.{Address}
use Rattle.ca_model.specs.History.{Called, Intent, Line, Nothing, Opened, Sent, Step, ToRead, ToWatch, ToWrite, Wish}
use Rattle.ca_model.specs.History as history
use Rattle.ca_model.specs.Speech.{In, Is}
use Rattle.ca_model.specs.ClientEvents.{DownTaken, HappensAccept, HappensClear, HappensClientDatagram, HappensClientRestart, HappensClientStep, HappensCutClient, HappensDown, HappensHandingOut, HappensOpen, HappensRead, HappensSubscribe, HappensUnsubscribe, HappensUp, HappensWrite, HappensWriteNotify, Outcomes, TicksOne, WantsFirst, about_at, after_tick, cancelled, channel_number, client_after, client_closed, client_ended, client_gone, client_stepped, connected_as, heard_in, left_silent, lines_of, new_circuit, refused, sent_on, closing_notices}
use Rattle.ca_model.specs.World.{ClientSide, Joined, Names, ServerSide, World, addresses, client_begun, log_length, with_circuit, with_client, with_lines, with_server}
use Rattle.ca_laws_parts.specs.Held.{with_request, with_subscription}
use Rattle.ca_laws_parts.specs.Clients.{ClientsStand}
use Rattle.ca_laws_parts.specs.Circuit.{sent_to}
use Rattle.ca_model.proofs.Handles.{same-is, same-itself}
use Rattle.ca_model.proofs.Standings.{channel-on}
use Rattle.ca_laws_parts.proofs.ClientsMore.{unconnected-is, wanted-there}
use Rattle.ca_laws_parts.proofs.ClientsKeep.{none-under}
use Rattle.ca_laws_parts.proofs.Midway.{set-here}
use Rattle.ca_laws_runs.specs.Quiet.{ClientsQuiet, Tidy}
use Rattle.ca_laws_runs.proofs.HeardClients.{quiet-ticks}
use Rattle.ca_laws_runs.proofs.OnceClients.{once-joined, once-ticks}
use Rattle.ca_laws_runs.proofs.ClearsSaid.{ClearsBack, TakesLeaving, Ups, Why, clears-mid, clears-own, clears-ups, left-alone, no-why, ups-self, ups-set}
use Rattle.ca_laws_runs.proofs.OnceWorld.{IsSameEnd, OnceStand, all-map, all-same, all-set, alone-first, logs-grown, once-same, same-closed, same-end}
use Rattle.ca_laws_runs.proofs.ActsNamed.{NamesStand, NoOpened, calls-opened, calls-titled, names-called, names-core, names-lines, names-same, no-opened, nothing-sent, notices-no-opened, one-no-opened}
use Rattle.ca_laws_runs.proofs.ActsTitles.{Titled, no-one, nobody, stay-ended, titled-clear, titled-connected, titled-datagram, titled-given, titled-handed, titled-put, titled-read, titled-stay, titled-subscribe, titled-taken, titled-ticked, titled-unsubscribe, titled-write-call}

-- ---- calls

-- what a client does by itself, or by a call that gives no name
own : (Leaves : ℕ → Joined → (k cid : ℕ) → Type 0) (gone may : Handle → Type 0) (w : World) (i : ℕ) (x : ClientSide) (spoken : Names) (o : Outcomes) (c : Client) → At w.clients i x → Tidy spoken c → spoken.channels ≡ x.names.channels → o.names.channels ≡ x.names.channels → Titled gone may x.core o.sent o.core → NoOpened o.lines
    → ((h : Handle) → gone h → In o.lines (Called (history.On (channel_number o.names h) history.Clear) Nothing)) → Why Leaves may w (client_after i x spoken o w) i x spoken o.sent → OnceStand w → NamesStand w
    → NamesStand (client_after i x spoken o w) × ClearsBack Leaves w (client_after i x spoken o w)
own Leaves gone may w i x spoken o c at t same now_same m none tells why once s = (
  names-called w i x spoken o at (calls-titled gone may x.names x.core spoken o.sent o.lines o.names o.core c t same now_same m none tells) once s,
  clears-own Leaves may w i x spoken o c at t same m.named why once s,
)

-- So it is of a world after an event.
abbrev pub NamesGo : (w new : World) → Type 0
NamesGo w new = NamesStand new × ClearsBack (TakesLeaving w) w new

go-self : (w new : World) → new.circuits ≡ w.circuits → NamesStand new → NamesGo w new
go-self w new same s = (s, clears-ups (TakesLeaving w) w new (ups-self w new same))

none-cleared : (lines : List Line) (n : Names) (h : Handle) → nobody h → In lines (Called (history.On (channel_number n h) history.Clear) Nothing)
none-cleared lines n h own = absurd own

module _ (w new : World) (i : ℕ) (x : ClientSide) (at : At w.clients i x) (q : ClientsQuiet w) (after : (y : ClientSide) → At new.clients i y → Tidy y.names y.core) (once : OnceStand w) (s : NamesStand w) where
  names-refused : (e : Refusal) → new ≡ refused i x e w → NamesGo w new
  names-refused e is = subst (λ (v : World). NamesGo w v) (sym is) (go-self w (refused i x e w) refl (names-lines w i x (history.Refused e ∷ []) at (q.tidy i x at) (one-no-opened (history.Refused e) [] (λ c name f. cc) no-opened) once s))

  -- the client as it is then
  tidy-then : (spoken : Names) (o : Outcomes) → new ≡ client_after i x spoken o w → Tidy o.names o.core
  tidy-then spoken o is = (let z : ClientSide = record x { core = o.core; names = o.names } in after z (subst (λ (v : World). At v.clients i z) (sym is) (set-here w.clients i x z at)))

  called : (spoken : Names) (o : Outcomes) (c : Client) → Tidy spoken c → spoken.channels ≡ x.names.channels → o.names.channels ≡ x.names.channels → Titled nobody nobody x.core o.sent o.core → NoOpened o.lines → new ≡ client_after i x spoken o w → NamesGo w new
  called spoken o c t same now_same m none is =
      subst (λ (v : World). NamesGo w v) (sym is)
      (own (TakesLeaving w) nobody nobody w i x spoken o c at t same now_same m none (none-cleared o.lines o.names) (no-why (TakesLeaving w) w (client_after i x spoken o w) i x spoken o.sent) once s)

  none-called : (intent : Intent) (e : Wish) (rest : List Line) → NoOpened rest → NoOpened (Called intent e ∷ rest)
  none-called intent e rest none = one-no-opened (Called intent e) rest (λ c name f. cc) none

  pub names-open : (name : List ℕ) (priority : ℕ) → HappensOpen w i x name priority new → NamesGo w new
  names-open name priority happens = elim happens [
    | inl refusal ↦ names-refused refusal.0 refusal.3
    | inr did ↦
        let names : Names = record x.names { channels = x.names.channels ++ did.0 ∷ [] } in
        let o : Outcomes = record { core = did.2; names = names; lines = Opened (length x.names.channels) name ∷ []; sent = did.1 } in
        subst (λ (v : World). NamesGo w v) (sym did.4) (
          names-called w i x names o at (calls-opened x.names x.core (record { name = name; priority = priority; now = w.moment }) did.0 did.1 did.2 did.3 (q.tidy i x at) (tidy-then names o did.4)) once s,
          clears-ups (TakesLeaving w) w (client_after i x names o w) (λ n b there.
              let m = At-mapped (sent_to i names did.1) w.circuits n b there in
              inl (m.0, m.1, ap (λ (v : Joined). v.lists.up) m.2 ∙ ap (λ (l : List Sending). m.0.lists.up ++ sent_on i names l m.0) did.3.2.0 ∙ sym (nothing-sent i names m.0).up)),
        )
  ]

  pub names-read : (c : ℕ) (h : Handle) (data_type count : ℕ) → HappensRead w i x c h data_type count new → NamesGo w new
  names-read c h data_type count happens = elim happens [
    | inl refusal ↦ names-refused refusal.0 refusal.3
    | inr did ↦
        let intent : Intent = history.On c (history.Request history.Read (length x.names.requests)) in
        let names : Names = with_request did.0 intent x.names in
        let o : Outcomes = record { core = did.2; names = names; lines = Called intent (ToRead data_type count) ∷ []; sent = did.1 } in
        called names o did.2 (tidy-then names o did.4) refl refl (titled-read nobody nobody no-one x.core h (record { data_type = data_type; count = count }) did.0 did.1 did.2 did.3) (none-called intent (ToRead data_type count) [] no-opened) did.4
  ]

  pub names-write-notify : (c : ℕ) (h : Handle) (e : Elements) → HappensWriteNotify w i x c h e new → NamesGo w new
  names-write-notify c h e happens = elim happens [
    | inl refusal ↦ names-refused refusal.0 refusal.3
    | inr did ↦
        let intent : Intent = history.On c (history.Request history.Put (length x.names.requests)) in
        let names : Names = with_request did.0 intent x.names in
        let o : Outcomes = record { core = did.2; names = names; lines = Called intent (ToWrite e) ∷ []; sent = did.1 } in
        called names o did.2 (tidy-then names o did.4) refl refl (titled-put nobody nobody no-one x.core h e did.0 did.1 did.2 did.3) (none-called intent (ToWrite e) [] no-opened) did.4
  ]

  pub names-write : (c : ℕ) (h : Handle) (e : Elements) → HappensWrite w i x c h e new → NamesGo w new
  names-write c h e happens = elim happens [
    | inl refusal ↦ names-refused refusal.0 refusal.3
    | inr did ↦
        let intent : Intent = history.On c (history.Request history.Write x.names.writes) in
        let o : Outcomes = record { core = did.2; names = record x.names { writes = x.names.writes + 1 }; lines = Called intent (ToWrite e) ∷ []; sent = did.1 } in
        called x.names o x.core (q.tidy i x at) refl refl (titled-write-call nobody nobody no-one x.core h e did.1 did.2 did.3) (none-called intent (ToWrite e) [] no-opened) did.4
  ]

  pub names-subscribe : (c : ℕ) (h : Handle) (data_type count mask : ℕ) → HappensSubscribe w i x c h data_type count mask new → NamesGo w new
  names-subscribe c h data_type count mask happens = elim happens [
    | inl refusal ↦ names-refused refusal.0 refusal.3
    | inr did ↦
        let intent : Intent = history.On c (history.Subscribe (length x.names.subscriptions)) in
        let names : Names = with_subscription did.0 intent x.names in
        let o : Outcomes = record { core = did.2; names = names; lines = Called intent (ToWatch data_type count mask) ∷ []; sent = did.1 } in
        called names o did.2 (tidy-then names o did.4) refl refl (titled-subscribe nobody nobody no-one x.core h (record { data_type = data_type; count = count }) mask did.0 did.1 did.2 did.3) (none-called intent (ToWatch data_type count mask) [] no-opened) did.4
  ]

  pub names-unsubscribe : (g : Handle × Intent) → HappensUnsubscribe w i x g new → NamesGo w new
  names-unsubscribe g happens = elim happens [
    | inl refusal ↦ names-refused refusal.0 refusal.3
    | inr did ↦
        let o : Outcomes = record { core = did.2; names = x.names; lines = Called (cancelled g.1) Nothing ∷ []; sent = did.1 } in
        called x.names o x.core (q.tidy i x at) refl refl (titled-unsubscribe nobody nobody no-one x.core g.0 did.1 did.2 did.3) (none-called (cancelled g.1) Nothing [] no-opened) did.4
  ]

  pub names-clear : (c : ℕ) (h : Handle) → channel_number x.names h ≡ c → HappensClear w i x c h new → NamesGo w new
  names-clear c h number happens = elim happens [
    | inl refusal ↦ names-refused refusal.0 refusal.3
    | inr did ↦
        let lines : List Line = lines_of history.OfCircuit x.names did.0 in
        let o : Outcomes = record { core = did.2; names = x.names; lines = Called (history.On c history.Clear) Nothing ∷ lines; sent = did.1 } in
        subst (λ (v : World). NamesGo w v) (sym did.4)
        (own (TakesLeaving w) (λ g. g ≡ h) (λ g. g ≡ h) w i x x.names o x.core at (q.tidy i x at) refl refl (titled-clear (λ g. g ≡ h) (λ g. g ≡ h) (λ g is. is) x.core h did.0 did.1 did.2 refl did.3) (none-called (history.On c history.Clear) Nothing lines (notices-no-opened history.OfCircuit x.names did.0))
        (λ g is. (0, ap (λ (k : ℕ). Some (Called (history.On k history.Clear) Nothing)) (sym number ∙ ap (channel_number x.names) (sym is))))
        (λ g is n b p r u said on mine opened at_u aims here at_s wire.
        let t = once.there i x at in
        let grown = logs-grown w.client_logs x.life o.lines t.0 t.1 in
        let now = grown.1 x.life t.0 t.1 in
        let called : Line = Called (history.On c history.Clear) Nothing in
        let has : In now.0 called = elim (grown.0 x.life now.0 now.1) [
          | inr other ↦ absurd (other.1 refl)
          | inl grew ↦ (length grew.1.0 + 0, subst (λ (l : List Line). At l (length grew.1.0 + 0) called) (sym grew.1.2) (At-after grew.1.0 o.lines 0 called refl))
        ] in
        inl (now.0, now.1, subst (λ (v : ℕ). In now.0 (Called (history.On v history.Clear) Nothing)) (sym number ∙ ap (channel_number x.names) (sym is)) has)) once s)
  ]

  pub names-handing-out : (number : ℕ) (meant : Intent) (line : Option ℕ → Line) → ((o : Option ℕ) (c : ℕ) (name : List ℕ) → line o ≡ Opened c name → ⊥) → HappensHandingOut w x number meant line new → NamesGo w new
  names-handing-out number meant line other happens =
      subst (λ (v : World). NamesGo w v) (sym happens.2) (go-self w (with_lines x.life (line happens.0 ∷ []) w) refl (names-lines w i x (line happens.0 ∷ []) at (q.tidy i x at) (one-no-opened (line happens.0) [] (other happens.0) no-opened) once s))

  pub names-datagram : (from : Address) (bytes : List ℕ) → HappensClientDatagram w i x from bytes new → NamesGo w new
  names-datagram from bytes happens =
      let now : Client = record x.core { moment = later w.moment x.core } in
      called x.names (record { core = happens.1; names = x.names; lines = []; sent = happens.0 }) x.core (q.tidy i x at) refl refl (titled-datagram nobody nobody no-one x.core now happens.1 from happens.2.0 happens.0 refl happens.2.2) no-opened happens.3

-- ---- bytes move

module _ (w new : World) (k : ℕ) (j : Joined) (x : ClientSide) (at : At w.circuits k j) (there : At w.clients j.client x) (q : ClientsQuiet w) (once : OnceStand w) (s : NamesStand w) where
  -- a client by itself, after circuits changed
  own-after : (mid : World) (core : Client) (lines : List Line) (sent : List Sending) → At mid.clients j.client x → (may : Handle → Type 0) → Titled nobody may x.core sent core → NoOpened lines → OnceStand mid × NamesStand mid → Ups w mid → mid.client_logs ≡ w.client_logs
      → Why (TakesLeaving w) may mid (client_after j.client x x.names (record { core = core; names = x.names; lines = lines; sent = sent }) mid) j.client x x.names sent
      → NamesGo w (client_after j.client x x.names (record { core = core; names = x.names; lines = lines; sent = sent }) mid)
  own-after mid core lines sent have may m none both ups logs why =
      let o : Outcomes = record { core = core; names = x.names; lines = lines; sent = sent } in
      let z = own (TakesLeaving w) nobody may mid j.client x x.names o x.core have (q.tidy j.client x there) refl refl m none (none-cleared lines x.names) why both.0 both.1 in
      (z.0, clears-mid (TakesLeaving w) w mid (client_after j.client x x.names o mid) ups logs z.1)

  circuit-set : (d : Joined) → IsSameEnd j d → OnceStand (with_circuit k d w) × NamesStand (with_circuit k d w)
  circuit-set d end = (
    once-same w (with_circuit k d w) refl refl (all-set k j d w.circuits at end) once,
    names-same w (with_circuit k d w) refl refl (all-set k j d w.circuits at end) s,
  )

  pub names-up : (n : ℕ) (y : ServerSide) → HappensUp w k n j x y new → NamesGo w new
  names-up n y happens = subst (λ (v : World). NamesGo w v) (sym happens.2) (go j.lists.client_open)
    where
      go : (b : Bool) → NamesGo w (with_server j.server (record y { core = happens.0 }) (cond b (with_client j.client (record x { core = handed_over j.at_client n x.core }) w) (with_circuit k (record j { left_up = drop n j.left_up }) w)))
      go true =
          let z : ClientSide = record x { core = handed_over j.at_client n x.core } in
          go-self w (with_server j.server (record y { core = happens.0 }) (with_client j.client z w)) refl
          (names-core w (with_server j.server (record y { core = happens.0 }) (with_client j.client z w)) j.client x z there refl refl refl refl
          (calls-titled nobody nobody x.names x.core x.names [] [] x.names z.core x.core (q.tidy j.client x there) refl refl (titled-handed nobody nobody no-one j.at_client n x.core) no-opened (none-cleared [] x.names)) once s)
      go false = (
        names-same w (with_server j.server (record y { core = happens.0 }) (with_circuit k (record j { left_up = drop n j.left_up }) w)) refl refl
            (all-set k j (record j { left_up = drop n j.left_up }) w.circuits at (record { client = refl; life = refl; opens = λ o. o; up = refl })) s,
        clears-ups (TakesLeaving w) w (with_server j.server (record y { core = happens.0 }) (with_circuit k (record j { left_up = drop n j.left_up }) w))
            (ups-set w (with_server j.server (record y { core = happens.0 }) (with_circuit k (record j { left_up = drop n j.left_up }) w)) k j (record j { left_up = drop n j.left_up }) at refl refl),
      )

  pub names-down : (n : ℕ) (y : ServerSide) → HappensDown w k n j x y new → NamesGo w new
  names-down n y happens =
      let mid : World = happens.0 in
      let r = taken n y mid happens.3 in
      subst (λ (v : World). NamesGo w v) (sym happens.5)
      (own-after mid happens.2 [] happens.1 (subst (λ (c : List ClientSide). At c j.client x) (sym r.1) there) nobody
      (titled-given nobody nobody no-one x.core j.at_client _ _ (connection_at x.core j.at_client) happens.1 happens.2 happens.4) no-opened r.0 r.2 r.3
      (no-why (TakesLeaving w) mid (client_after j.client x x.names (record { core = happens.2; names = x.names; lines = []; sent = happens.1 }) mid) j.client x x.names happens.1))
    where
      Both : World → Type 0
      Both v = (OnceStand v × NamesStand v) × (v.clients ≡ w.clients) × Ups w v × (v.client_logs ≡ w.client_logs)

      taken : (n : ℕ) (y : ServerSide) (mid : World) → DownTaken w k n j y mid → Both mid
      taken n y mid took = elim took [
        | inl open_it ↦
            let v : World = with_server j.server (record y { core = open_it.1.0 }) w in
            subst Both (sym open_it.1.2) ((once-same w v refl refl (all-same w.circuits) once, names-same w v refl refl (all-same w.circuits) s), refl, ups-self w v refl, refl)
        | inr closed_it ↦
            subst Both (sym closed_it.1) (circuit-set (record j { left_down = drop n j.left_down }) (record { client = refl; life = refl; opens = λ o. o; up = refl }), refl, ups-set w (with_circuit k (record j { left_down = drop n j.left_down }) w) k j (record j { left_down = drop n j.left_down }) at refl refl, refl)
      ]

  -- ---- ends

  names-ended : (c : Closing) → NamesGo w (client_ended k j x c (ended j.at_client x.core) w)
  names-ended c =
      own-after (with_circuit k (client_closed c.left j) w) (ended j.at_client x.core) (lines_of history.OfCircuit x.names c.notices) [] there nobody
      (titled-stay nobody nobody no-one x.core (ended j.at_client x.core) (stay-ended nobody nobody no-one j.at_client x.core)) (notices-no-opened history.OfCircuit x.names c.notices) (circuit-set (client_closed c.left j) (same-closed c.left j))
      (ups-set w (with_circuit k (client_closed c.left j) w) k j (client_closed c.left j) at refl refl) refl
      (no-why (TakesLeaving w) (with_circuit k (client_closed c.left j) w) (client_ended k j x c (ended j.at_client x.core) w) j.client x x.names [])

  pub names-cut-client : HappensCutClient w k j x new → NamesGo w new
  names-cut-client happens =
      subst (λ (v : World). NamesGo w v) (sym happens.4) (subst (λ (core : Client). NamesGo w (client_ended k j x happens.0 core w)) (sym happens.3.2) (names-ended happens.0))

  pub names-client-step : j.lists.client_open ≡ true → ClientsStand w → HappensClientStep w k j x new → NamesGo w new
  names-client-step open_it stands happens = subst (λ (v : World). NamesGo w v) (sym happens.4) (go (connection_at x.core j.at_client) refl happens.0 happens.1 happens.2 happens.3)
    where
      go : (o : Option Connection) → connection_at x.core j.at_client ≡ o → (did : Stepped) (sent : List Sending) (core : Client) → StepsOn x.core j.at_client o did sent core → NamesGo w (client_stepped k j x did sent core w)
      go None is did sent core steps = absurd (both_ways (is_none (connection_at x.core j.at_client)) (stands.connected k j x at there open_it) (ap is_none is))
      go (Some d) is NeedBytes sent core steps = go-self w w refl s
      go (Some d) is (Closed c) sent core steps = subst (λ (z : Client). NamesGo w (client_ended k j x c z w)) (sym steps.1.2) (names-ended c)
      go (Some d) is (Notices told) sent core steps =
          let about : Intent = about_at j.lists (length j.lists.heard) in
          let lines : List Line = lines_of about x.names told in
          let logged : ℕ = log_length x.life w.client_logs in
          let g : Step = record { sent = length j.lists.up; logged = logged; after = logged + length lines } in
          let mid : World = with_circuit k (heard_in g j) w in
          let y : Client = after_taking j.at_client steps.rest x.core in
          let e : Effect = record { core = core; sent = sent; notices = told } in
          let may : Handle → Type 0 = λ h. Is command.ServerDisconnect steps.m × (wire_of h ≡ steps.m.p1) in
          own-after mid core lines sent there may
          (titled-taken nobody may (λ h own. absurd own) x.core y core j.at_client steps.m sent told refl (λ is h p at. (is, (channel-on y j.at_client steps.m.p1 h p at).2)) steps.hears) (notices-no-opened about x.names told)
          (circuit-set (heard_in g j) (record { client = refl; life = refl; opens = λ o. o; up = refl }))
          (ups-set w mid k j (heard_in g j) at refl refl) refl
          (λ h own n b p r u said on mine opened at_u aims here at_s wire.
          let alone = left-alone y j.at_client steps.m e own.0 steps.hears p u at_u in
          elim (At-set w.circuits k (heard_in g j) n b on) [
            | inl reads ↦ inr (record {
              c = j;
              x = x;
              on = subst (λ (m : ℕ). At w.circuits m j) (sym reads.0) at;
              at = there;
              opened = open_it;
              held = d;
              connected = is;
              m = steps.m;
              rest = steps.rest;
              first = steps.first;
              leaves = (own.0, sym own.1 ∙ sym wire);
              step = g;
              heard = ap (λ (z : Joined). z.lists.heard) reads.1;
              sent =
                  (let first : r ≡ 0 = alone-first j.client x.names u b r said (subst (λ (l : List Sending). At (sent_on j.client x.names l b) r said) alone.0 at_s) in
                  let up : length b.lists.up ≡ length j.lists.up = ap (λ (z : Joined). length z.lists.up) reads.1 in
                  omega (arith, first, up));
            })
            | inr other ↦
                absurd (other.1 (stands.handles n k b j other.0 at mine opened open_it (subst (λ (c : Handle). same_handle b.at_client c ≡ true) (sym (same-is u.circuit b.at_client here) ∙ alone.1) (same-itself b.at_client))))
          ])

-- ---- a client begins again

pub names-client-restart : (w new : World) (i : ℕ) (x : ClientSide) → At w.clients i x → OnceStand w → NamesStand w → HappensClientRestart w i x new → NamesGo w new
names-client-restart w new i x at once s happens = (
  subst (λ (v : World). NamesStand v) (sym happens) (record {
    titled = λ l y log h ch have tells is. elim (At-set w.clients i z l y have) [
      | inl here ↦ absurd (nothing h ch (subst (λ (v : ClientSide). under v.core.channels h ≡ Some ch) here.1 is))
      | inr old ↦ elim (At-snoc w.client_logs [] y.life log tells) [
        | inl was ↦ s.titled l y log h ch old.0 was is
        | inr last ↦ absurd (fresh l y old.0 last.0)
      ]
    ];
    cleared = λ l y log h ch have tells is gone. elim (At-set w.clients i z l y have) [
      | inl here ↦ absurd (nothing h ch (subst (λ (v : ClientSide). under v.core.channels h ≡ Some ch) here.1 is))
      | inr old ↦ elim (At-snoc w.client_logs [] y.life log tells) [
        | inl was ↦ s.cleared l y log h ch old.0 was is gone
        | inr last ↦ absurd (fresh l y old.0 last.0)
      ]
    ];
    few = λ l y log p c name have tells line. elim (At-set w.clients i z l y have) [
      | inl here ↦ elim (At-snoc w.client_logs [] y.life log tells) [
        | inl old ↦ absurd (not-before y.life log old (ap (λ (v : ClientSide). v.life) here.1))
        | inr last ↦ absurd (empty p c name (subst (λ (v : List Line). At v p (Opened c name)) last.1 line))
      ]
      | inr old ↦ elim (At-snoc w.client_logs [] y.life log tells) [
        | inl was ↦ s.few l y log p c name old.0 was line
        | inr last ↦ absurd (fresh l y old.0 last.0)
      ]
    ];
    once = λ l log p q c a b have first second. elim (At-snoc w.client_logs [] l log have) [
      | inl old ↦ s.once l log p q c a b old first second
      | inr last ↦ absurd (empty p c a (subst (λ (v : List Line). At v p (Opened c a)) last.1 first))
    ];
    said = λ k p a j log r stands have place is.
        let m = At-mapped (client_gone i x) w.circuits k j stands in
        let end : IsSameEnd m.0 j = subst (λ (b : Joined). IsSameEnd m.0 b) (sym m.2) (ends m.0) in
        let t = once.lives k m.0 m.1 in
        elim (At-snoc w.client_logs [] (m.0).lists.client log (subst (λ (n : ℕ). At logs n log) end.life have)) [
          | inl old ↦ s.said k p a m.0 log r m.1 old (subst (λ (v : List Sent). At v p r) end.up place) is
          | inr last ↦ absurd (not-before (m.0).lists.client t.0 t.1 last.0)
        ];
  }),
  clears-ups (TakesLeaving w) w new (λ n b there.
      let m = At-mapped (client_gone i x) w.circuits n b (subst (λ (v : World). At v.circuits n b) happens there) in
      inl (m.0, m.1, ap (λ (v : Joined). v.lists.up) m.2 ∙ (ends m.0).up)),
)
  where
    servers : List Address
    servers = addresses (map (λ (y : ServerSide). y.setting) w.servers)

    z : ClientSide
    z = client_begun servers w.moment (length w.client_logs) x.setting

    logs : List (List Line)
    logs = w.client_logs ++ [] ∷ []

    -- the new life is none of those that were
    not-before : (l : ℕ) (log : List Line) → At w.client_logs l log → l ≡ length w.client_logs → ⊥
    not-before l log have is = (let lt : l < length w.client_logs = At-within w.client_logs l log have in omega (arith, lt, is))

    fresh : (l : ℕ) (y : ClientSide) → At w.clients l y → y.life ≡ length w.client_logs → ⊥
    fresh l y have is = (let t = once.there l y have in not-before y.life t.0 t.1 is)

    empty : (p c : ℕ) (name : List ℕ) → (let log : List Line = [] in At log p (Opened c name)) → ⊥
    empty p c name line = cc

    nothing : (h : Handle) (ch : Channel) → under z.core.channels h ≡ Some ch → ⊥
    nothing h ch is = none-under h ch is

    by : (b : Bool) (a : Joined) → IsSameEnd a (cond b (client_closed (out_bytes x.core a.at_client) a) a)
    by true a = same-closed _ a
    by false a = same-end a

    ends : (a : Joined) → IsSameEnd a (client_gone i x a)
    ends a = by (eqb a.client i && a.lists.client_open) a

-- ---- a circuit is made

names-joined : (w new : World) (n : Joined) → new.clients ≡ w.clients → new.client_logs ≡ w.client_logs → new.circuits ≡ w.circuits ++ n ∷ [] → n.lists.up ≡ [] → NamesStand w → NamesStand new
names-joined w new n clients logs circuits none s = record {
  titled = λ l y log h ch have tells is. s.titled l y log h ch (was l y have) (old-log y.life log tells) is;
  cleared = λ l y log h ch have tells is gone. s.cleared l y log h ch (was l y have) (old-log y.life log tells) is gone;
  few = λ l y log p c name have tells line. s.few l y log p c name (was l y have) (old-log y.life log tells) line;
  once = λ l log p q c a b have first second. s.once l log p q c a b (old-log l log have) first second;
  said = λ k p a j log r stands have place is. elim (At-snoc w.circuits n k j (subst (λ (c : List Joined). At c k j) circuits stands)) [
    | inl old ↦ s.said k p a j log r old (old-log j.lists.client log have) place is
    | inr last ↦ absurd (nothing p r (subst (λ (v : List Sent). At v p r) (ap (λ (v : Joined). v.lists.up) last.1 ∙ none) place))
  ];
}
  where
    was : (l : ℕ) (y : ClientSide) → At new.clients l y → At w.clients l y
    was l y have = subst (λ (c : List ClientSide). At c l y) clients have

    old-log : (l : ℕ) (log : List Line) → At new.client_logs l log → At w.client_logs l log
    old-log l log have = subst (λ (c : List (List Line)). At c l log) logs have

    nothing : (p : ℕ) (r : Sent) → (let l : List Sent = [] in At l p r) → ⊥
    nothing p r place = cc

-- what is held of the world with the circuit, before its client speaks there
pub names-accept : (w new : World) (c : ℕ) (x : ClientSide) (v : WantsFirst w x) → At w.clients c x → ClientsQuiet w
    → OnceStand w → NamesStand w → HappensAccept w c x v new → NamesGo w new
names-accept w new c x v at q once s happens = elim happens.leaves [
  | inl refusal ↦ subst (λ (u : World). NamesGo w u) (sym refusal.1) (go-self w w refl s)
  | inr did ↦
      let k : Option Closing = did.1 in
      let core : Client = did.3 in
      let on : Handle = v.v.circuit in
      let there = wanted-there x.core v.place v.v v.at in
      let first : Joined = new_circuit c x on v.i v.y did.0 in
      let n : Joined = connected_as k first in
      let made : World = record (with_server v.i (record v.y { core = happens.server }) w) { circuits = w.circuits ++ n ∷ [] } in
      let m : Titled nobody nobody x.core did.2 core = titled-connected nobody nobody no-one x.core on there.0 k did.2 core (subst (λ (o : Option ClientCircuit). ConnectsOn x.core on o k did.2 core) (unconnected-is x.core on there.0 there.1 there.2) did.5) in
      let o : Outcomes = record { core = core; names = x.names; lines = lines_of history.OfCircuit x.names (closing_notices k); sent = did.2 } in
      let z =
      (own (TakesLeaving w) nobody nobody made c x x.names (record { core = core; names = x.names; lines = lines_of history.OfCircuit x.names (closing_notices k); sent = did.2 }) x.core at (q.tidy c x at) refl refl m (notices-no-opened history.OfCircuit x.names (closing_notices k))
      (none-cleared (lines_of history.OfCircuit x.names (closing_notices k)) x.names) (no-why (TakesLeaving w) made (client_after c x x.names o made) c x x.names did.2)
      (once-joined w made c x n at refl refl refl (same-client k first) (same-life k first) (same-up k first) once)
      (names-joined w made n refl refl refl (same-up k first) s)) in
      subst (λ (u : World). NamesGo w u) (sym did.6) (
        z.0,
        clears-mid (TakesLeaving w) w made (client_after c x x.names o made)
            (λ m b there. elim (At-snoc w.circuits n m b there) [
              | inl old ↦ inl (b, old, refl)
              | inr last ↦ inr (ap (λ (y : Joined). y.lists.up) last.1 ∙ same-up k first)
            ]) refl z.1,
      )
]
  where
    same-client : (k : Option Closing) (n : Joined) → (connected_as k n).client ≡ n.client
    same-client None n = refl
    same-client (Some e) n = refl

    same-life : (k : Option Closing) (n : Joined) → (connected_as k n).lists.client ≡ n.lists.client
    same-life None n = refl
    same-life (Some e) n = refl

    same-up : (k : Option Closing) (n : Joined) → (connected_as k n).lists.up ≡ n.lists.up
    same-up None n = refl
    same-up (Some e) n = refl

-- ---- a moment

module _ (i : ℕ) (closings : List Left) where
  closes : (b : Bool) (o : Option (List ℕ)) (a : Joined) → IsSameEnd a (cond b (unwrap_or (option_map (λ (left : List ℕ). client_closed left a) o) a) a)
  closes true (Some left) a = same-closed left a
  closes true None a = same-end a
  closes false o a = same-end a

  tick-ends : (a : Joined) → IsSameEnd a (after_tick i closings a)
  tick-ends a = closes (eqb a.client i && a.lists.client_open) (left_silent closings a) a

ticks-one-names : (moment : ℕ) (w : World) (i : ℕ) (new : World) → ClientsQuiet w → OnceStand w → NamesStand w → TicksOne moment w i new → NamesStand new
ticks-one-names moment w i new q once s happens =
    let x : ClientSide = happens.0 in
    let does = happens.5 in
    let o : Outcomes = record { core = happens.4; names = x.names; lines = lines_of history.OfCircuit x.names (happens.2).notices; sent = happens.3 } in
    let after : World = client_after i x x.names o w in
    let made : Titled nobody nobody x.core happens.3 happens.4 = subst (λ (v : List Sending × Client). Titled nobody nobody x.core v.0 v.1) (λ k. (sym does.1 k, sym does.2 k)) (titled-ticked nobody nobody no-one moment x.core) in
    subst (λ (v : World). NamesStand v) (sym happens.6)
    (names-same after (record after { circuits = map (after_tick i (happens.2).closings) after.circuits }) refl refl (all-map (after_tick i (happens.2).closings) after.circuits (tick-ends i (happens.2).closings))
    (own (λ n d k cid. ⊥) nobody nobody w i x x.names o x.core happens.1 (q.tidy i x happens.1) refl refl made (notices-no-opened history.OfCircuit x.names (happens.2).notices) (none-cleared o.lines x.names)
    (no-why (λ n d k cid. ⊥) w after i x x.names happens.3) once s).0)

pub names-ticks : (moment : ℕ) (clients : List ℕ) (w new : World) → ClientsQuiet w → OnceStand w → NamesStand w → FoldsTo (TicksOne moment) w clients new → NamesStand new
names-ticks moment [] w new q once s folds = subst (λ (v : World). NamesStand v) folds s
names-ticks moment (i ∷ clients) w new q once s folds =
    names-ticks moment clients folds.0 new (quiet-ticks moment (i ∷ []) w folds.0 q (folds.0, folds.1, refl)) (once-ticks moment (i ∷ []) w folds.0 q once (folds.0, folds.1, refl)) (ticks-one-names moment w i folds.0 q once s folds.1) folds.2
