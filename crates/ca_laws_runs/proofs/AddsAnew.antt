-- As a channel becomes live, each of its subscriptions that stands by its client's log is added,
-- over every event and run.
use Rattle.std.proofs.Common.{◌≡◌, ℕ, suc, ◌+◌, ◌<◌, ◌≤◌, ◌⊎◌, inl, inr, true, false, ◌&&◌, List, [], ◌∷◌, ◌++◌, length, Option, Some, None, refl, sym, ap, ◌∙◌, subst, arith}
use Rattle.std.specs.Prelude.{slice_set, take, unwrap_or}
use Rattle.std.specs.List.{FoldsTo}
use Rattle.std.proofs.lemmas.Bool.{and_from, both_ways}
use Rattle.std.proofs.lemmas.List.{take-append-le}
use Rattle.ca_text.specs.declared.command.Command.TheVariants as command
use Rattle.ca_text.specs.Place.{At}
use Rattle.ca_text.proofs.Places.{At-after, At-map, At-mapped, At-one, At-set, At-snoc, At-within}
use Rattle.ca_arena.specs.declared.handle.Handle.{Handle}
use Rattle.ca_ids.specs.Table.{held, same_handle, under}
use Rattle.ca_ids.specs.Wire.{wire_of}
use Rattle.ca_monitor.specs.Subscriptions.{Subscription, is_to, standing_to, stands_in}
use Rattle.ca_wire.specs.Fields.{Fields}
use Rattle.ca_model.specs.Answers.{Sending}
use Rattle.ca_model.specs.Client.{Channel, Client, Clearing, Connecting, Creating, Doomed, Leaving, Live, Phase, channel_on, is_cleared, is_on_in, with_standing}
use Rattle.ca_model.specs.Client as client
use Rattle.ca_model.specs.ClientCalls.{event_add_sent}
use Rattle.ca_model.specs.ClientEnds.{after_taking}
use Rattle.ca_model.specs.Hears.{Effect, Hears, created, event_adds, native_in}
use Rattle.ca_model.specs.History.{Circuit, Clear, Create, Line, On, Reply, Sent, Step, Subscribe, Told}
use Rattle.ca_model.specs.Speech.{Cid, Creates, Is, Speaks, sid_in}
use Rattle.ca_model.proofs.Handles.{same-itself}
use Rattle.ca_model.proofs.Standings.{channel-on}
use Rattle.ca_model.proofs.Tables.{one-value, under-held}
use Rattle.ca_model.proofs.Thinner.{three-ways}
use Rattle.ca_model.specs.Legal.{IsStanding}
use Rattle.ca_model.specs.ClientEvents.{channel_number, heard_in, meant_by, sent_on}
use Rattle.ca_model.specs.Events.{Event}
use Rattle.ca_model.specs.Events as event
use Rattle.ca_model.specs.Runs.{AreEvents, Happens, Runs, StopsAt, clients_below}
use Rattle.ca_model.specs.World.{ClientSide, IsSetting, Joined, Setting, World, addresses, circuit_of, client_begun, log_length, opening}
use Rattle.ca_laws_parts.proofs.Causes.{runs-caused}
use Rattle.ca_laws_parts.proofs.ServerSpeaking.{runs-hear}
use Rattle.ca_laws_parts.specs.Flows.{Awaits, IsPending}
use Rattle.ca_laws_parts.specs.Held.{is_asked}
use Rattle.ca_laws_parts.proofs.Marks.{filter-at}
use Rattle.ca_laws_parts.specs.Kept.{kept}
use Rattle.ca_laws_parts.specs.Circuit.{HeldOn, sent_to, stamped}
use Rattle.ca_laws_parts.proofs.WritesLists.{length-more, none_at, take-front, take-whole}
use Rattle.ca_laws_parts.proofs.Midway.{set-here}
use Rattle.ca_laws_runs.specs.Causes.{AllComeAfter}
use Rattle.ca_laws_runs.specs.Created.{AllCreated}
use Rattle.ca_laws_runs.specs.LegalAnew.{AddsWhatStands, LiveChannelsAreSubscribedTo}
use Rattle.ca_laws_runs.specs.OrderSteps.{ClientsInOrder}
use Rattle.ca_laws_runs.specs.Quiet.{HasNumber, IsBeingCleared, Tidy}
use Rattle.ca_laws_runs.specs.Sides.{AllSided, IsLiveAs}
use Rattle.ca_laws_runs.specs.Under.{IsCreatedBefore}
use Rattle.ca_laws_runs.proofs.AddsSaid.{AddingBack, event-says, ticks-says}
use Rattle.ca_laws_runs.proofs.Again.{sent-there, was-there}
use Rattle.ca_laws_runs.proofs.CauseKeeps.{run-after}
use Rattle.ca_laws_runs.proofs.Created.{reached-created}
use Rattle.ca_laws_runs.proofs.Found.{found-intent}
use Rattle.ca_laws_runs.proofs.Joint.{are-snoc, folds-snoc, run-tells}
use Rattle.ca_laws_runs.proofs.Lasts.{IsKept}
use Rattle.ca_laws_runs.proofs.LastsGoing.{AllAddsCalled, AllAddsNamed, AllHeldCalled, AllStandOrEnd, ClientsLast, adds-called-on, adds-named-on, event-last, held-called-on, last-still, stand-on, ticks-last}
use Rattle.ca_laws_runs.proofs.Live.{channels-sending, made-live}
use Rattle.ca_laws_runs.proofs.LostRuns.{known-runs}
use Rattle.ca_laws_runs.proofs.OnceLess.{is_gone}
use Rattle.ca_laws_runs.proofs.OnceRuns.{numbered-place}
use Rattle.ca_laws_runs.proofs.OrderGrows.{GoesOn, each-event, step-grown, ticks-grown}
use Rattle.ca_laws_runs.proofs.OrderKeeps.{IsHearing, begun-grown, begun-mid, hear-grown, hear-step, hearing-or, made-or, run-heard, run-server-steps}
use Rattle.ca_laws_runs.proofs.Phases.{same-number}
use Rattle.ca_laws_runs.proofs.Replied.{reached-answer}
use Rattle.ca_laws_runs.proofs.Says.{one-handle}
use Rattle.ca_laws_runs.proofs.Spent.{Known}
use Rattle.ca_laws_runs.proofs.ToldCreated.{ReadsNone, create-used, creates-so, none-grown, none-handled, none-made, on-channel}
use Rattle.ca_laws_runs.proofs.ToldGrows.{WorldsOn, event-on, on-grown}
use Rattle.ca_laws_runs.proofs.ToldRemoval.{run-removals}
use Rattle.ca_laws_runs.proofs.ToldSteps.{next}
use Rattle.ca_laws_runs.proofs.Using.{AllNamedOnce, ClientsUse, named-meant, named-once-on, ticks-use, use-event, use-stay}

-- ---- what is said of a circuit

-- The subscription was added on the channel when this many messages had been sent, or later, and
-- before the channel was created again.
abbrev pub IsAnew : Circuit → (a number place sent : ℕ) → Type 0
IsAnew c a number place sent =
    (l : ℕ) × (r : Sent) × (sent ≤ l) × At c.up l r × (r.intent ≡ On a (Subscribe number))
    × ((p : ℕ) (q : Sent) → place < p → p < l → At c.up p q → q.intent ≡ On a Create → ⊥)

-- So it is of each that stands by its client's log as a reply that created its channel is read.
abbrev pub AllAnew : World → Type 0
AllAnew w = (n : ℕ) (c : Joined) (y : List Line) (i a sid number : ℕ) (t : Told) (h : Step) (s : Sent) → At w.circuits n c → At w.client_logs c.lists.client y → At c.lists.down i t → At c.lists.heard i h → t.cause ≡ Reply → Creates t.message sid → At c.lists.up t.place s → s.intent ≡ On a Create
    → IsStanding (take h.logged y) (On a (Subscribe number)) → IsAnew c.lists a number t.place h.sent

-- what was read before
renewed-old : (w new : World) → Known w → WorldsOn w new → ClientsUse w new → ClientsInOrder w → AllAnew w
    → (n : ℕ) (c d : Joined) (y : List Line) (i a sid number : ℕ) (t : Told) (h : Step) (s : Sent) → At w.circuits n c → At new.circuits n d
    → At new.client_logs d.lists.client y → At d.lists.down i t
    → At c.lists.heard i h → t.cause ≡ Reply → Creates t.message sid → At d.lists.up t.place s → s.intent ≡ On a Create
    → IsStanding (take h.logged y) (On a (Subscribe number)) → IsAnew d.lists a number t.place h.sent
renewed-old w new known goes uses order all n c d y i a sid number t h s on at_d at_y at_t at_h reply creates at_s meant standing =
    let o = was-there w new known goes uses n c d i h on at_d at_h in
    let t_c = o.told i t (omega arith) at_t in
    let early : t.place < length c.lists.up = t_c.1 in
    let log = known.once.lives n c on in
    let more = goes.logs c.lists.client log.0 log.1 in
    let y_is : y ≡ log.0 ++ more.0 = At-one new.client_logs c.lists.client y (log.0 ++ more.0) (subst (λ (v : ℕ). At new.client_logs v y) o.goes.client at_y) more.1 in
    let w_in = (order n c on).within i h at_h in
    let first : h.logged ≤ h.after = w_in.1 in
    let upto : h.after ≤ log_length c.lists.client w.client_logs = w_in.2 in
    let size : log_length c.lists.client w.client_logs ≡ length log.0 = ap (λ (v : Option (List Line)). length (unwrap_or v [])) log.1 in
    let front : take h.logged y ≡ take h.logged log.0 = ap (λ (v : List Line). take h.logged v) y_is ∙ take-append-le h.logged log.0 more.0 (omega (arith, first, upto, size)) in
    let r = all n c log.0 i a sid number t h s on log.1 t_c.0 at_h reply creates (o.said t.place s early at_s) meant (subst (λ (v : List Line). IsStanding v (On a (Subscribe number))) front standing) in
    let in_up : r.0 < length c.lists.up = At-within c.lists.up r.0 r.1 r.3 in
    (r.0, r.1, r.2, o.goes.up r.0 r.1 r.3, r.4, λ p q late before at_q is_q. r.5 p q late before (o.said p q (omega (arith, before, in_up)) at_q) is_q)

-- ---- the reply that is read

module _ (w new : World) (k : ℕ) (j : Joined) (x : ClientSide) (on : At w.circuits k j) (at : At w.clients j.client x)
    (opened : j.lists.client_open ≡ true) (f : IsHearing w new k j x)
    (known : Known w) (goes : WorldsOn w new) (creations : AllCreated w) (come : AllComeAfter w) (stand : AllStandOrEnd w) (adds : AllAddsNamed w)
    (names : AllNamedOnce w) (sided_new : AllSided new) (created_new : AllCreated new) (come_new : AllComeAfter new)
    (m : Fields) (rest : List ℕ) (t : Told) (s : Sent) (there : At j.lists.down (length j.lists.heard) t) (up : At j.lists.up t.place s) (is : t.message ≡ m)
    (does : Hears (after_taking j.at_client rest x.core) j.at_client m (record { core = f.core; sent = f.sent; notices = f.notices }))
    (now : Joined) (at_now : At new.circuits k now) (goes_on : GoesOn (heard_in (hear-step w new k j x on at f) j) now) where
  mine : HeldOn (kept w k) x.names x.core j
  mine =
      let holds = known.held k j on in
      let joined : holds.0 ≡ j = At-one w.circuits k holds.0 j holds.2 on in
      let holder : holds.1 ≡ x = At-one w.clients j.client holds.1 x (subst (λ (z : Joined). At w.clients z.client holds.1) joined holds.3) at in
      subst (λ (v : Joined × ClientSide). HeldOn (kept w k) v.1.names v.1.core v.0) (λ i. (joined i, holder i)) holds.4

  abbrev step : Step
  step = hear-step w new k j x on at f

  abbrev read : Client
  read = after_taking j.at_client rest x.core

  abbrev did : Effect
  did = record { core = f.core; sent = f.sent; notices = f.notices }

  tidy : Tidy x.names x.core
  tidy = known.quiet.tidy j.client x at

  -- the circuit after it
  abbrev mid : Joined
  mid = heard_in step j

  is-now : sent_to j.client x.names f.sent mid ≡ now
  is-now =
      let d : Joined = sent_to j.client x.names f.sent mid in
      At-one new.circuits k d now (subst (λ (v : World). At v.circuits k d) (sym f.is) (At-map (sent_to j.client x.names f.sent) (slice_set w.circuits k mid) k mid (set-here w.circuits k j mid on))) at_now

  module _ (a sid number : ℕ) (reply : t.cause ≡ Reply) (creates : Creates t.message sid) (meant : s.intent ≡ On a Create) where
    creation : Is command.CreateChannel m
    creation = ap (λ (v : Fields). v.command) (sym is) ∙ creates.0

    speaks : Speaks t.message (Cid m.p1)
    speaks = inl (inl (inl creates.0, ap (λ (v : Fields). v.p1) is))

    -- No reply was read that created the channel last before a later place: the one for its
    -- CREATE_CHAN is read now.
    unread : (i l other p : ℕ) → IsCreatedBefore j.lists a i l other p → i < length j.lists.heard → t.place < p → ⊥
    unread i l other p b early lt =
        let place : b.t.place ≡ l = b.told.1 in
        let made = creations k j on in
        elim (three-ways t.place b.t.place) [
          | inl before ↦
              let by = come k j on i b.t b.told.0 in
              let prompt : length j.lists.heard < (by.0).sent = made.prompt (length j.lists.heard) sid b.t.place t by.0 there reply creates before by.1 in
              let late : (by.0).sent ≤ i = by.2 in
              omega (arith, early, prompt, late)
          | inr (inl same) ↦
              let one : length j.lists.heard ≡ i = made.once (length j.lists.heard) i sid other t b.t there b.told.0 reply b.told.2 creates b.told.3 same in
              omega (arith, one, early)
          | inr (inr late) ↦ create-used Create refl (b.since t.place s Create (omega (arith, late, place)) lt up meant)
        ]

    module _ (h : Handle) (rights : ℕ) (at_p : channel_on x.core j.at_client m.p1 ≡ Some (h, Creating rights))
        (number_is : channel_number x.names h ≡ a) (effect : did ≡ created read j.at_client m (Some (h, Creating rights))) where
      ch : (ch : Channel) × (under x.core.channels h ≡ Some ch) × (wire_of h ≡ m.p1) × (ch.standing ≡ client.On j.at_client (Creating rights))
      ch = channel-on x.core j.at_client m.p1 h (Creating rights) at_p

      -- it is live now
      live-now : IsLiveAs f.core.channels now.at_client h m.p2
      live-now =
          let z : Client = with_standing (client.On j.at_client (Live (native_in m) rights)) h read in
          let made : IsLiveAs z.channels j.at_client h m.p2 = made-live x.core.channels j.at_client h ch.0 (native_in m) rights ch.1 in
          let same : f.core.channels ≡ z.channels = ap (λ (v : Effect). v.core.channels) effect ∙ channels-sending (event_adds j.at_client m.p2 h read) z in
          subst (λ (v : Handle). IsLiveAs f.core.channels v h m.p2) (sym goes_on.handle) (subst (λ (v : _). IsLiveAs v j.at_client h m.p2) (sym same) made)

      -- so nothing was created on the channel since its CREATE_CHAN
      since : (p : ℕ) (q : Sent) → t.place < p → At now.lists.up p q → q.intent ≡ On a Create → ⊥
      since p q lt at_q is_q =
          let next : ClientSide = record x { core = f.core; names = x.names } in
          let client_now : At new.clients now.client next = subst (λ (v : Joined). At new.clients v.client next) is-now (subst (λ (v : World). At v.clients j.client next) (sym f.is) (set-here w.clients j.client x next at)) in
          let open_now : now.lists.client_open ≡ true = ap (λ (v : Joined). v.lists.client_open) (sym is-now) ∙ opened in
          let b = (sided_new.sides k now next at_now client_now open_now).lives h m.p2 live-now in
          let c = b.3 in
          let place : c.t.place ≡ b.1 = c.told.1 in
          let size : length now.lists.heard ≡ length j.lists.heard + 1 = ap (λ (l : List Step). length l) goes_on.heard ∙ length-more j.lists.heard step in
          let early : b.0 < length now.lists.heard = b.2 in
          let up_now : At now.lists.up t.place s = goes_on.said t.place s up in
          elim (three-ways t.place c.t.place) [
            | inl before ↦
                let by = come_new k now at_now b.0 c.t c.told.0 in
                let prompt : length j.lists.heard < (by.0).sent = (created_new k now at_now).prompt (length j.lists.heard) sid c.t.place t by.0 (goes_on.tells (length j.lists.heard) t there) reply creates before by.1 in
                let late : (by.0).sent ≤ b.0 = by.2 in
                omega (arith, early, size, prompt, late)
            | inr (inl same) ↦ create-used Create refl (c.since p q Create (omega (arith, lt, same, place)) (At-within now.lists.up p q at_q) at_q (is_q ∙ ap (λ (z : ℕ). On z Create) (sym number_is)))
            | inr (inr late) ↦ create-used Create refl (c.since t.place s Create (omega (arith, late, place)) (At-within now.lists.up t.place s up_now) up_now (meant ∙ ap (λ (z : ℕ). On z Create) (sym number_is)))
          ]

      -- each that is on it is added
      added : (g : Handle) (d : Subscription) → under x.core.subscriptions g ≡ Some d → stands_in d.stage ≡ true → d.channel ≡ h
          → meant_by x.names.subscriptions g ≡ On a (Subscribe number) → IsAnew now.lists a number t.place step.sent
      added g d held_there stands channel intent_is =
          let sent : f.sent ≡ event_adds j.at_client m.p2 h read = ap (λ (v : Effect). v.sent) effect in
          let row = under-held x.core.subscriptions g d held_there in
          let passes : (is_to h d && stands_in d.stage) ≡ true = and_from (is_to h d) (stands_in d.stage) (subst (λ (v : Handle). same_handle d.channel v ≡ true) channel (same-itself d.channel)) stands in
          let first = filter-at (λ (e : Handle × Subscription). is_to h e.1 && stands_in e.1.stage) (held x.core.subscriptions) row.0 (g, d) row.1 passes in
          let add : Sending = event_add_sent j.at_client m.p2 g d in
          let placed : At f.sent first.0 add = subst (λ (v : List Sending). At v first.0 add) (sym sent) (At-map (λ (e : Handle × Subscription). event_add_sent j.at_client m.p2 e.0 e.1) (standing_to h read.subscriptions) first.0 (g, d) first.1) in
          let said = sent-there j.client x.names f.sent mid first.0 add refl opened refl placed in
          let l : ℕ = length j.lists.up + said.0 in
          let there_now : At now.lists.up l (stamped x.names add) = subst (λ (v : Joined). At v.lists.up l (stamped x.names add)) is-now (At-after j.lists.up (sent_on j.client x.names f.sent mid) said.0 (stamped x.names add) said.1) in
          (l, stamped x.names add, omega arith, there_now, intent_is, λ p q lt before at_q is_q. since p q lt at_q is_q)

    -- ---- the channel that it finds

    busy : (h : Handle) × (ch : Channel) × (under x.core.channels h ≡ Some ch) × (wire_of h ≡ m.p1) × (is_on_in is_asked j.at_client ch ≡ true)
    busy =
        let pending : IsPending (Awaits j.lists (kept w k)) j.lists t.place (Cid m.p1) = inr (length j.lists.heard, t, there, omega arith, refl, speaks) in
        (mine.holds opened).channels.busy t.place m.p1 pending

    found : (p : Phase) × (channel_on x.core j.at_client m.p1 ≡ Some (busy.0, p)) × (is_asked p ≡ true)
    found = on-channel x.core j.at_client busy.0 m.p1 busy.1 (mine.holds opened).channels.few busy.2 busy.3 busy.4

    number-is : (p : Phase) → channel_on x.core j.at_client m.p1 ≡ Some (busy.0, p) → is_asked p ≡ true → channel_number x.names busy.0 ≡ a
    number-is p at_p asked =
        let r = found-intent (kept w k) x.names x.core j.at_client j.lists t s m.p1 busy.0 p (mine.holds opened).channels mine.flows there up speaks at_p asked in
        same-number (channel_number x.names busy.0) a r.0 Create (sym r.1 ∙ meant)

    clear-create : (b c : ℕ) → On b Clear ≡ On c Create → ⊥
    clear-create b c e = cc

    -- one that is cleared, but not by its caller
    not-leaving : channel_on x.core j.at_client m.p1 ≡ Some (busy.0, Leaving) → ⊥
    not-leaving at_p =
        let f_ch = channel-on x.core j.at_client m.p1 busy.0 Leaving at_p in
        let number_of : channel_number x.names busy.0 ≡ a = number-is Leaving at_p refl in
        let c : IsBeingCleared j.lists.up a = subst (λ (v : ℕ). IsBeingCleared j.lists.up v) number_of ((known.quiet.quiet k j x on at opened).channels busy.0 f_ch.0 f_ch.1 Leaving f_ch.3) in
        let b = (known.sided.right k j on).read c.1 a c.3.0 Clear c.3.1 c.3.2 (λ e. cc) in
        elim (three-ways t.place c.1) [
          | inl before ↦ unread b.0 b.1 (sid_in c.3.0.message) c.1 b.3 b.2 before
          | inr (inl same) ↦ clear-create a a (sym c.3.2 ∙ ap (λ (v : Sent). v.intent) (At-one j.lists.up c.1 c.3.0 s c.3.1 (subst (λ (v : ℕ). At j.lists.up v s) same up)) ∙ meant)
          | inr (inr late) ↦ c.4 t.place s Create late up meant
        ]

    not-live : (native : client.Native) (rights : ℕ) → channel_on x.core j.at_client m.p1 ≡ Some (busy.0, Live native rights) → ⊥
    not-live native rights at_p =
        let f_ch = channel-on x.core j.at_client m.p1 busy.0 (Live native rights) at_p in
        let number_of : channel_number x.names busy.0 ≡ a = number-is (Live native rights) at_p refl in
        let b = (known.sided.sides k j x on at opened).lives busy.0 native.sid (record { ch = f_ch.0; native = native; rights = rights; there = f_ch.1; stands = f_ch.3; is = refl }) in
        unread b.0 b.1 native.sid (length j.lists.up) (subst (λ (v : ℕ). IsCreatedBefore j.lists v b.0 b.1 native.sid (length j.lists.up)) number_of b.3) b.2 (At-within j.lists.up t.place s up)

    pub renewed-now : (y : List Line) → At new.client_logs now.lists.client y → IsStanding (take step.logged y) (On a (Subscribe number))
        → IsAnew now.lists a number t.place step.sent
    renewed-now y at_y standing = by found.0 found.1 found.2
      where
        life : now.lists.client ≡ x.life
        life = goes_on.client ∙ known.lives.same k j x on at opened

        old : (log : List Line) × At w.client_logs x.life log
        old = known.once.there j.client x at

        -- the log as the message is read
        front : take step.logged y ≡ old.0
        front =
            let more = goes.logs x.life old.0 old.1 in
            let y_is : y ≡ old.0 ++ more.0 = At-one new.client_logs x.life y (old.0 ++ more.0) (subst (λ (v : ℕ). At new.client_logs v y) life at_y) more.1 in
            let size : log_length x.life w.client_logs ≡ length old.0 = ap (λ (v : Option (List Line)). length (unwrap_or v [])) old.1 in
            ap (λ (v : ℕ × List Line). take v.0 v.1) (λ i. (size i, y_is i)) ∙ take-front (length old.0) old.0 more.0 (omega arith) ∙ take-whole old.0

        stood : IsStanding old.0 (On a (Subscribe number))
        stood = subst (λ (v : List Line). IsStanding v (On a (Subscribe number))) front standing

        named : (g : Handle) × At x.names.subscriptions number (g, On a (Subscribe number))
        named =
            let said = known.sent.asked x.life old.0 stood.0.1.0 (On a (Subscribe number)) stood.0.0 old.1 stood.0.1.1 tt in
            adds said.0 j.client said.2 a number said.1 x said.3 said.4 at said.5 said.6 said.7

        it : (h : Handle) × IsKept x.core named.0 h
        it = elim (stand j.client a number x named.0 old.0 at old.1 named.1) [
          | inl still ↦ still
          | inr (inl clear) ↦ absurd (stood.1.0 clear)
          | inr (inr (inl cancel)) ↦ absurd (stood.1.1 cancel)
          | inr (inr (inr told)) ↦ absurd (stood.2 told.0 told.1)
        ]

        meaning : HasNumber x.names (it.1).d.channel × (channel_number x.names (it.1).d.channel ≡ a) × (meant_by x.names.subscriptions named.0 ≡ On a (Subscribe number))
        meaning = named-meant x.names x.core tidy (names j.client x at) named.0 (it.1).d a number named.1 (it.1).there

        channel : (p : Phase) → channel_on x.core j.at_client m.p1 ≡ Some (busy.0, p) → is_asked p ≡ true → (it.1).d.channel ≡ busy.0
        channel p at_p asked = one-handle x.names (it.1).d.channel busy.0 meaning.0 (tidy.numbered busy.0 busy.1 busy.2) (meaning.1 ∙ sym (number-is p at_p asked))

        not-gone : (p : Phase) → channel_on x.core j.at_client m.p1 ≡ Some (busy.0, p) → is_asked p ≡ true → is_cleared p ≡ true → ⊥
        not-gone p at_p asked gone =
            let f_ch = channel-on x.core j.at_client m.p1 busy.0 p at_p in
            let here : it.0 ≡ busy.0 = sym (it.1).to ∙ channel p at_p asked in
            let one : (it.1).ch ≡ f_ch.0 = one-value x.core.channels busy.0 (it.1).ch f_ch.0 (subst (λ (v : Handle). under x.core.channels v ≡ Some (it.1).ch) here (it.1).on) f_ch.1 in
            both_ways (is_gone (it.1).ch.standing) (it.1).uncleared (ap (λ (v : Channel). is_gone v.standing) one ∙ ap is_gone f_ch.3 ∙ gone)

        effect : (p : Phase) → channel_on x.core j.at_client m.p1 ≡ Some (busy.0, p) → did ≡ created read j.at_client m (Some (busy.0, p))
        effect p at_p = creates-so read j.at_client m did does creation ∙ ap (λ (o : Option (Handle × Phase)). created read j.at_client m o) at_p

        by : (p : Phase) → channel_on x.core j.at_client m.p1 ≡ Some (busy.0, p) → is_asked p ≡ true → IsAnew now.lists a number t.place step.sent
        by Connecting at_p asked = absurd (both_ways false refl asked)
        by (Creating rights) at_p asked =
            added busy.0 rights at_p (number-is (Creating rights) at_p asked) (effect (Creating rights) at_p) named.0 (it.1).d (it.1).there (it.1).stands (channel (Creating rights) at_p asked) meaning.2
        by (Live native rights) at_p asked = absurd (not-live native rights at_p)
        by Leaving at_p asked = absurd (not-leaving at_p)
        by Clearing at_p asked = absurd (not-gone Clearing at_p asked refl)
        by Doomed at_p asked = absurd (not-gone Doomed at_p asked refl)

-- ---- events and runs

pub record AnewStand (w : World) : Type 0 where
  pub names : AllNamedOnce w
  pub stand : AllStandOrEnd w
  pub adds : AllAddsNamed w
  pub called : AllHeldCalled w
  pub said : AllAddsCalled w
  pub renewed : AllAnew w

module _ (w new : World) (known : Known w) (now : Known new) (goes : WorldsOn w new) (uses : ClientsUse w new) (order : ClientsInOrder w)
    (lasts : ClientsLast w new) (adding : AddingBack w new) (z : AnewStand w) where
  called-now : AllHeldCalled new
  called-now = held-called-on w new known.once goes lasts z.called

  renewed-with : AllAnew new → AnewStand new
  renewed-with renewed = record {
    names = named-once-on w new known.stands uses z.names;
    stand = stand-on w new known.once goes lasts z.stand;
    adds = adds-named-on w new known now.once now.quiet adding goes uses z.adds;
    called = called-now;
    said = adds-called-on w new known.once now.quiet adding goes called-now z.said;
    renewed = renewed;
  }

  -- nothing is read
  renewed-quiet : ReadsNone w new → AnewStand new
  renewed-quiet reads = renewed-with (λ n d y i a sid number t h s at_d at_y at_t at_h reply creates at_s meant standing. elim (reads n d at_d) [
    | inl old ↦ renewed-old w new known goes uses order z.renewed n old.0 d y i a sid number t h s old.1 at_d at_y at_t (subst (λ (l : List Step). At l i h) old.2 at_h) reply creates at_s meant standing
    | inr none ↦ absurd (none_at i h (subst (λ (l : List Step). At l i h) none at_h))
  ])

module _ (s : Setting) (es : List Event) (w new : World) (ok : IsSetting s) (are : AreEvents es) (folds : FoldsTo Happens (opening s) es w)
    (e : Event) (more : AreEvents (es ++ e ∷ [])) (happens : Happens w e new) (z : AnewStand w) where
  runs : Runs s es None w
  runs = (w, folds, refl)

  runs-next : Runs s (es ++ e ∷ []) None new
  runs-next = (new, folds-snoc es (opening s) w new e folds happens, refl)

  known : Known w
  known = known-runs s es None w ok are runs

  known-now : Known new
  known-now = known-runs s (es ++ e ∷ []) None new ok more runs-next

  goes : WorldsOn w new
  goes = event-on w new e happens

  uses : ClientsUse w new
  uses = use-event w new e known.stands known.quiet happens

  order : ClientsInOrder w
  order = run-heard s es None w ok are runs

  lasts : ClientsLast w new
  lasts = event-last w new e (more (length es + 0) e (At-after es (e ∷ []) 0 e refl)) known.stands known.quiet known.once z.names happens

  adding : AddingBack w new
  adding = event-says w new e known.stands known.quiet known-now.quiet known.once happens

  quiet : ReadsNone w new → AnewStand new
  quiet reads = renewed-quiet w new known known-now goes uses order lasts adding z reads

  module _ (k : ℕ) (f : Happens w (event.ClientStep k) new) (hearing : IsHearing w new k f.0.j f.0.x) where
    abbrev j : Joined
    j = f.0.j

    abbrev step-now : Step
    step-now = hear-step w new k j f.0.x f.0.joins.at f.0.joins.client hearing

    -- The step was there; or it is made now.
    heard-or : (n : ℕ) (d : Joined) (i : ℕ) (h : Step) → At new.circuits n d → At d.lists.heard i h
        → ((c : Joined) × At w.circuits n c × At c.lists.heard i h) ⊎ (At new.circuits k d × (i ≡ length j.lists.heard) × (h ≡ step-now) × GoesOn (heard_in step-now j) d)
    heard-or n d i h at_d at_h =
        let back = (hear-grown w new k j f.0.x f.0.joins.at f.0.joins.client hearing).back n d at_d in
        elim (At-set w.circuits k (heard_in step-now j) n back.0 back.1) [
          | inr old ↦ inl (back.0, old.0, subst (λ (l : List Step). At l i h) back.2.heard at_h)
          | inl here ↦ elim (At-snoc j.lists.heard step-now i h (subst (λ (l : List Step). At l i h) (back.2.heard ∙ ap (λ (v : Joined). v.lists.heard) here.1) at_h)) [
            | inl before ↦ inl (j, subst (λ (v : ℕ). At w.circuits v j) (sym here.0) f.0.joins.at, before)
            | inr last ↦ inr (subst (λ (v : ℕ). At new.circuits v d) here.0 at_d, last.0, last.1, subst (λ (v : Joined). GoesOn v d) here.1 back.2)
          ]
        ]

    renewed-step : AllAnew new
    renewed-step n d y i a sid number t h q at_d at_y at_t at_h reply creates at_q meant standing = elim (heard-or n d i h at_d at_h) [
      | inl old ↦ renewed-old w new known goes uses order z.renewed n old.0 d y i a sid number t h q old.1 at_d at_y at_t old.2 reply creates at_q meant standing
      | inr fresh ↦
          let hear = runs-hear s es None w ok are runs in
          let m = next w new k j f.0.x f.0.joins.at f.0.joins.client f.0.is_open hearing hear (runs-caused s es None w ok are runs) (reached-answer w (s, es, None, ok, runs)) (run-removals s es None w ok runs) (run-tells s es None w new k ok are runs f) known.held known.once known.quiet known.lives in
          let t_is : m.t ≡ t = At-one d.lists.down (length j.lists.heard) m.t t (fresh.3.tells (length j.lists.heard) m.t m.told) (subst (λ (v : ℕ). At d.lists.down v t) fresh.1 at_t) in
          let s_is : m.s ≡ q = At-one d.lists.up t.place m.s q (subst (λ (v : Told). At d.lists.up v.place m.s) t_is (fresh.3.said (m.t).place m.s m.up)) at_q in
          subst (λ (v : Told × Step). IsAnew d.lists a number v.0.place v.1.sent) (λ p. (t_is p, sym fresh.2 p))
          (renewed-now w new k j f.0.x f.0.joins.at f.0.joins.client f.0.is_open hearing known goes (reached-created w (s, es, None, ok, runs)) (run-after s es None w ok runs) z.stand z.adds z.names
          known-now.sided (reached-created new (s, es ++ e ∷ [], None, ok, runs-next)) (run-after s (es ++ e ∷ []) None new ok runs-next)
          m.m m.rest m.t m.s m.told m.up m.is m.hear d fresh.0 fresh.3 a sid number (ap (λ (v : Told). v.cause) t_is ∙ reply) (subst (λ (v : Told). Creates v.message sid) (sym t_is) creates) (ap (λ (v : Sent). v.intent) s_is ∙ meant)
          y at_y (subst (λ (v : Step). IsStanding (take v.logged y) (On a (Subscribe number))) fresh.2 standing))
    ]

  pub event-renewed : AnewStand new
  event-renewed = each-event (AnewStand new) w new (λ g. quiet (none-grown w new g))
      (λ k f. elim (step-grown w new k f.0.j f.0.y f.1.0 f.0.joins.at f.1.1) [
        | inl handles ↦ quiet (none-handled w new k f.0.j f.0.y f.0.joins.at handles)
        | inr g ↦ quiet (none-grown w new g)
      ])
      (λ k f. elim (hearing-or w new k f.0.j f.0.x f.0.joins.at f.0.joins.client f.1) [
        | inl hearing ↦ renewed-with w new known known-now goes uses order lasts adding z (renewed-step k f hearing)
        | inr g ↦ quiet (none-grown w new g)
      ])
      (λ i f. elim (made-or w new i f) [
        | inl made ↦ quiet (none-made w new i f.0.x f.0.at made)
        | inr g ↦ quiet (none-grown w new g)
      ])
      (λ i f. quiet (subst (λ (v : World). ReadsNone w v) (sym f.1) (none-grown w (begun-mid w new i f.0.x f.1) (begun-grown w new i f.0.x f.1)))) e happens

after-renewed : (s : Setting) (es rest : List Event) (w new : World) → IsSetting s → AreEvents es → AreEvents rest → FoldsTo Happens (opening s) es w
    → FoldsTo Happens w rest new → AnewStand w → AnewStand new
after-renewed s es [] w new ok are more folds same z = subst (λ (v : World). AnewStand v) same z
after-renewed s es (e ∷ rest) w new ok are more folds (mid, one, others) z =
    let longer : AreEvents (es ++ e ∷ []) = are-snoc es e are (more 0 e refl) in
    after-renewed s (es ++ e ∷ []) rest mid new ok longer (λ i f at. more (suc i) f at) (folds-snoc es (opening s) w mid e folds one) others
    (event-renewed s es w mid ok are folds e longer one z)

opening-renewed : (s : Setting) → AnewStand (opening s)
opening-renewed s = record {
  names = λ i x at k l e f at_k at_l same.
      let r = numbered-place 0 (client_begun (addresses s.servers) 0) s.clients i x at in
      absurd (none_at k e (subst (λ (v : ClientSide). At v.names.subscriptions k e) r.2 at_k));
  stand = λ i a m x g log at there named.
      let r = numbered-place 0 (client_begun (addresses s.servers) 0) s.clients i x at in
      absurd (none_at m (g, On a (Subscribe m)) (subst (λ (v : ClientSide). At v.names.subscriptions m (g, On a (Subscribe m))) r.2 named));
  adds = λ n i l a m c x q at. absurd (none_at n c at);
  called = λ i m x e d log at there named row.
      let r = numbered-place 0 (client_begun (addresses s.servers) 0) s.clients i x at in
      absurd (none_at m e (subst (λ (v : ClientSide). At v.names.subscriptions m e) r.2 named));
  said = λ n k a m c q x at. absurd (none_at n c at);
  renewed = λ n c y i a sid number t h q at. absurd (none_at n c at);
}

pub run-renewed-stand : (s : Setting) (es : List Event) (stopped : Option Event) (w : World) → IsSetting s → AreEvents es → Runs s es stopped w
    → AnewStand w
run-renewed-stand s es stopped w ok are (mid, folds, stops) = stop stopped (known-runs s es stopped w ok are (mid, folds, stops)) stops
  where
    all : AnewStand mid
    all = after-renewed s [] es (opening s) mid ok (λ i e at. absurd (none_at i e at)) are refl folds (opening-renewed s)

    stop : (stopped : Option Event) → Known w → StopsAt mid stopped w → AnewStand w
    stop (Some (event.Tick moment)) now stops = elim stops [
      | inl same ↦ subst (λ (v : World). AnewStand v) (sym same) all
      | inr ticked ↦
          let runs : Runs s es None mid = (mid, folds, refl) in
          let known : Known mid = known-runs s es None mid ok are runs in
          let g = ticks-grown moment mid (clients_below ticked.0) w ticked.3 in
          renewed-quiet mid w known now (on-grown mid w g) (use-stay mid w (ticks-use moment (clients_below ticked.0) mid w known.quiet ticked.3)) (run-heard s es None mid ok are runs)
          (last-still mid w (ticks-last moment (clients_below ticked.0) mid w ticked.3)) (ticks-says moment (clients_below ticked.0) mid w ticked.3) all (none-grown mid w g)
    ]
    stop stopped now stops = subst (λ (v : World). AnewStand v) (sym stops) all

-- ---- what the statement says

pub run-adds-renewed : (s : Setting) (es : List Event) (stopped : Option Event) (w : World) → IsSetting s → AreEvents es → Runs s es stopped w
    → LiveChannelsAreSubscribedTo w
run-adds-renewed s es stopped w ok fine runs n d at =
    let j = At-mapped circuit_of w.circuits n d at in
    let l = run-server-steps s es stopped w ok runs n d at in
    let log : At w.client_logs (j.0.lists).client l.0 = subst (λ (v : Circuit). At w.client_logs v.client l.0) j.2 l.2.1 in
    (l.0, l.1, l.2, subst (λ (v : Circuit). AddsWhatStands v l.0) (sym j.2) (renewed n j.0 l.0 j.1 log))
  where
    renewed : (n : ℕ) (c : Joined) (x : List Line) → At w.circuits n c → At w.client_logs c.lists.client x → AddsWhatStands c.lists x
    renewed n c x on log channel k number h live standing =
        let t : Told = live.2 in
        let place : t.place ≡ k = live.5 in
        let at_r : At c.lists.up t.place live.3.0 = subst (λ (v : ℕ). At c.lists.up v live.3.0) (sym place) live.3.1 in
        let r = (run-renewed-stand s es stopped w ok fine runs).renewed n c x live.0 channel live.1 number t h live.3.0 on log live.4 live.8 live.6 live.7 at_r live.3.2 standing in
        (r.0, r.2, (r.1, r.3, r.4), λ p late before meant. r.5 p meant.0 (subst (λ (v : ℕ). v < p) (sym place) late) before meant.1 meant.2)
