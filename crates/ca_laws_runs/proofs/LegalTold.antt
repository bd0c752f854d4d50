-- A channel that was open when its record was removed has a SERVER_DISCONN, if the
-- server's end is open.
use Rattle.std.proofs.Common.{◌≡◌, ℕ, ◌<◌, ◌≤◌, ◌⊎◌, inl, inr, Bool, true, false, List, [], ◌∷◌, ◌++◌, length, Option, Some, None, refl, sym, ap, subst, ◌∙◌, arith}
use Rattle.std.specs.Prelude.{take}
use Rattle.std.specs.List.{FoldsTo}
use Rattle.ca_arena.specs.declared.handle.Handle.{Handle}
use Rattle.ca_ids.specs.Table.{under}
use Rattle.ca_ids.specs.Wire.{wire_of}
use Rattle.ca_text.specs.Place.{At}
use Rattle.ca_text.proofs.Places.{At-back, At-one}
use Rattle.ca_model.specs.History.{Circuit, Entry, Line, Removal, Removed, Sent, Step, Told}
use Rattle.ca_model.specs.Server.{OpenChannel}
use Rattle.ca_model.specs.Speech.{In, name_in}
use Rattle.ca_model.proofs.Thinner.{three-ways}
use Rattle.ca_model.specs.Channels.{Created, Has, IsCleared, IsUncleared}
use Rattle.ca_model.specs.Events.{Event}
use Rattle.ca_model.specs.Events as event
use Rattle.ca_model.specs.Runs.{Happens, Runs, StopsAt, clients_below}
use Rattle.ca_model.specs.World.{Creation, IsSetting, Joined, Setting, World, opening}
use Rattle.ca_laws_parts.specs.Sids.{IsClearedWithin}
use Rattle.ca_laws_parts.specs.Channels.{ChannelsOn}
use Rattle.ca_laws_parts.specs.Agrees.{Agrees}
use Rattle.ca_laws_parts.specs.Lives.{IsPutOf}
use Rattle.ca_laws_parts.specs.Seats.{HasSeat}
use Rattle.ca_laws_parts.proofs.Every.{ticks-frame}
use Rattle.ca_laws_parts.proofs.Frames.{Frame}
use Rattle.ca_laws_parts.proofs.InStepLasts.{world-numbered}
use Rattle.ca_laws_parts.proofs.WritesLists.{beside-right, none_at}
use Rattle.ca_laws_parts.proofs.WritesMoves.{At-below, was-open}
use Rattle.ca_laws_parts.proofs.Says.{logs-stay}
use Rattle.ca_laws_runs.specs.Created.{CreatedOn}
use Rattle.ca_laws_runs.specs.Creations.{CreationsOn}
use Rattle.ca_laws_runs.proofs.StepWhole.{takes-next}
use Rattle.ca_laws_runs.specs.Entries.{titles}
use Rattle.ca_laws_runs.specs.Gone.{AllGone, GoneOn}
use Rattle.ca_laws_runs.specs.Known.{KnownOn}
use Rattle.ca_laws_runs.specs.LegalEnds.{ServersTellOfRemovals}
use Rattle.ca_laws_runs.proofs.Acting.{IsLonger, grown-back, longer-taken}
use Rattle.ca_laws_runs.proofs.ActsOn.{of-circuits}
use Rattle.ca_laws_runs.proofs.CausingEvents.{Ready, steady-of}
use Rattle.ca_laws_runs.proofs.CausingFrame.{Onward}
use Rattle.ca_laws_runs.proofs.CausingKeeps.{Steady}
use Rattle.ca_laws_runs.proofs.CausingRuns.{ready}
use Rattle.ca_laws_runs.proofs.GoneRetired.{run-gone}
use Rattle.ca_laws_runs.proofs.LegalOnward.{AnyNews, GoesOn, event-goes, frame-goes}
use Rattle.ca_laws_runs.proofs.PostFollowing.{titled}
use Rattle.ca_laws_runs.proofs.FollowsWhole.{folds-snoc, leaves-grew, logs-there}

-- The SERVER_DISCONN for the channel that was created at place k was sent.
abbrev IsTold : Circuit → (k : ℕ) → Type 0
IsTold c k = (q : ℕ) × (t : Told) × At c.down q t × (t.place ≡ k) × (t.cause ≡ Removal)

abbrev ToldOn : List Entry → Circuit → Type 0
ToldOn log c = (j k sid r e : ℕ) → Created c log j k sid r → At log e (Removed r) → IsUncleared c k sid e → IsTold c k

-- So it is at each open end.
abbrev AllTold : World → Type 0
AllTold w = (n : ℕ) (c : Joined) (log : List Entry) → At w.circuits n c → At w.server_logs c.lists.server log → c.lists.server_open ≡ true → ToldOn log c.lists

-- ---- a channel that is open

-- a record that a server has was not removed
there-still : (s : Setting) (w : World) → Ready s w → (c : Joined) (log : List Entry) (seat : HasSeat w c) → At w.server_logs seat.y.life log → (name : List ℕ) (r : ℕ) → In (titles seat.y.records) (name, r) → In log (Removed r) → ⊥
there-still s w h c log seat logged name r there removed =
    let own = h.serves.stands.sound.writes.lives c.server seat.y seat.at in
    let same : own.log ≡ log = At-one w.server_logs seat.y.life own.log log own.at logged in
    let x = titled seat.y.records (name, r) there in
    let b = beside-right (Agrees (IsPutOf w.circuits c.server) own.log) seat.y.core.records seat.y.records x.1.0 x.0 own.life.each x.1.1 in
    b.2.there (subst (λ (v : List Entry × ℕ). In v.0 (Removed v.1)) (λ i. (sym same i, ap (λ (v : List ℕ × ℕ). v.1) x.2 i)) removed)

module _ (s : Setting) (w : World) (h : Ready s w) (all_gone : AllGone w) (n : ℕ) (c : Joined) (log : List Entry) (on : At w.circuits n c) (logged : At w.server_logs c.lists.server log) (opened : c.lists.server_open ≡ true) where
  abbrev seat : HasSeat w c
  seat = h.serves.stands.sound.seated.each n c on opened

  own-log : At w.server_logs seat.y.life log
  own-log = subst (λ (n : ℕ). At w.server_logs n log) seat.joins logged

  creations : CreationsOn c
  creations = h.creations n c seat.y seat.e on seat.at opened seat.has

  channels : ChannelsOn seat.e c
  channels = h.serves.channels n c seat.y seat.e on seat.at opened seat.has

  known : KnownOn log seat.y.records seat.e c
  known = (h.stand.known n c seat.y seat.e log on seat.at opened seat.has own-log).1

  gone : GoneOn log seat.e c
  gone = all_gone n c seat.y seat.e log on seat.at opened seat.has own-log

  noted-told : (x : Creation) → In c.creations x → (j k sid r : ℕ) → Created c.lists log j k sid r → x.sid ≡ sid → x.place ≡ k → In log (Removed r) → IsTold c.lists k
  noted-told x noted j k sid r (t, q, g, at_t, place, cause, creates, at_q, at_g, has, gives) is at_k removed = go ch.1.0 ch.0 ch.1.1 ch.1.2 ch.1.0.retired refl
    where
      ch : (h : Handle) × ((ch : OpenChannel) × (under seat.e.channels h ≡ Some ch) × (wire_of h ≡ x.sid))
      ch = (let st = channels.stale x noted in (st.0, (st.1, st.2, st.3)))

      go : (v : OpenChannel) (f : Handle) → under seat.e.channels f ≡ Some v → wire_of f ≡ x.sid → (b : Bool) → v.retired ≡ b → IsTold c.lists k
      go v f there wire true retired =
          let o = gone f v there retired in
          let same : o.x ≡ x = creations.one o.x x o.noted noted (o.under_sid ∙ wire) in
          (o.told.0.0, o.t, o.told.0.1, o.told.1 ∙ ap (λ (z : Creation). z.place) same ∙ at_k, o.told.2)
      go v f there wire false stays =
          let o = known.origins f v there in
          let same : o.x ≡ x = creations.one o.x x o.noted noted (o.under_sid ∙ wire) in
          let place_is : o.x.place ≡ k = ap (λ (z : Creation). z.place) same ∙ at_k in
          let same_q : q ≡ o.s = At-one c.lists.up k q o.s at_q (subst (λ (p : ℕ). At c.lists.up p o.s) place_is o.sent) in
          let same_g : g ≡ o.h = At-one c.lists.handled k g o.h at_g (subst (λ (p : ℕ). At c.lists.handled p o.h) place_is o.handled) in
          let named : name_in q.message ≡ v.name = ap (λ (z : Sent). name_in z.message) same_q ∙ sym o.name in
          let had : Has (take o.h.logged log) r v.name = subst (λ (p : List ℕ). Has (take o.h.logged log) r p) named (subst (λ (p : Step). Has (take p.logged log) r (name_in q.message)) same_g has) in
          absurd (there-still s w h c log seat own-log v.name r (o.still stays r had) removed)

-- ---- a circuit goes on

module _ (w : World) (n : ℕ) (c d : Joined) (log lg : List Entry) (on : Onward (AnyNews w) n c d) (at_c : At w.circuits n c) (logged : At w.server_logs c.lists.server log) (longer : IsLonger log lg) (steady : Steady log c.lists)
    (created : CreatedOn d) (opened : d.lists.server_open ≡ true) (old : ToldOn log c.lists)
    (here : (x : Creation) → In d.creations x → (j k sid r : ℕ) → Created d.lists lg j k sid r → x.sid ≡ sid → x.place ≡ k → In lg (Removed r) → IsTold d.lists k) where
  -- its channel was cleared since it was removed, so all this was before the event
  past : (j k sid r e : ℕ) → Created d.lists lg j k sid r → At lg e (Removed r) → IsUncleared d.lists k sid e → IsClearedWithin d.lists.up sid k (length d.lists.handled) → IsTold d.lists k
  past j k sid r e (t, q, h, at_t, place, cause, creates, at_q, at_h, has, gives) removed uncleared (l, m, lt, within, at_m, clears) =
      let x = At-below d.lists.handled l within in
      let g : Step = x.0 in
      let bounds = bound g x.1 in
      let sent : g.sent ≤ length c.lists.down = bounds.0 in
      let late : g.logged ≤ length log = bounds.1 in
      let after : e < g.logged = elim (three-ways e g.logged) [
        | inl less ↦ less
        | inr (inl is) ↦ absurd (uncleared (l, m, g, lt, at_m, x.1, omega (arith, is), clears))
        | inr (inr more) ↦ absurd (uncleared (l, m, g, lt, at_m, x.1, omega (arith, more), clears))
      ] in
      let early : j < g.sent = created.prompt j sid l t g at_t cause creates (omega (arith, lt, place)) x.1 in
      let was_t : At c.lists.down j t = grown-back c.lists.down d.lists.down on.lists.down j t (omega (arith, early, sent)) at_t in
      let below : t.place < length c.lists.handled = steady.below j t was_t in
      let few : length c.lists.handled ≤ length c.lists.up = steady.few in
      let was_q : At c.lists.up k q = grown-back c.lists.up d.lists.up on.lists.up k q (omega (arith, below, few, place)) at_q in
      let was_h : At c.lists.handled k h = grown-back c.lists.handled d.lists.handled on.lists.handled k h (omega (arith, below, place)) at_h in
      let was_has : Has (take h.logged log) r (name_in q.message) = subst (λ (y : List Entry). Has y r (name_in q.message)) (longer-taken h.logged log lg longer ((steady.within k h was_h).logged)) has in
      let was_removed : At log e (Removed r) = At-back log longer.0 e (Removed r) (subst (λ (y : List Entry). At y e (Removed r)) longer.1 removed) (omega (arith, after, late)) in
      let told = old j k sid r e (t, q, h, was_t, place, cause, creates, was_q, was_h, was_has, gives) was_removed
      (λ (cleared : IsCleared c.lists k sid e). uncleared (cleared.0, cleared.1, cleared.2, cleared.3, on.lists.up cleared.0 cleared.1 cleared.4, on.lists.handled cleared.0 cleared.2 cleared.5, cleared.6, cleared.7)) in
      (told.0, told.1, on.lists.down told.0 told.1 told.2, told.3, told.4)
    where
      bound : (g : Step) → At d.lists.handled l g → (g.sent ≤ length c.lists.down) × (g.logged ≤ length log)
      bound g at = elim (on.handled l g at) [
        | inl was ↦ (let b = steady.within l g was in (b.sent, b.logged))
        | inr new ↦ new c log at_c logged
      ]

  told-on : ToldOn lg d.lists
  told-on j k sid r e made removed uncleared = elim (created.noted j sid made.0 opened made.3 made.5 made.6) [
    | inl x ↦ here x.0 x.1 j k sid r made x.2 (x.3 ∙ made.4) (e, removed)
    | inr w ↦ past j k sid r e made removed uncleared (subst (λ (p : ℕ). IsClearedWithin d.lists.up sid p (length d.lists.handled)) made.4 w)
  ]

none-told : (lg : List Entry) (d : Joined) → d.lists.down ≡ [] → ToldOn lg d.lists
none-told lg d none j k sid r e made = absurd (none_at j made.0 (subst (λ (l : List Told). At l j made.0) none made.3))

-- ---- every event and run

grows-told : (s : Setting) (w new : World) → Ready s w → Ready s new → AllGone new → GoesOn w new → ((n : ℕ) (c d : Joined) → At w.circuits n c → At new.circuits n d → d.lists.server_open ≡ true → (c.lists.server_open ≡ true) ⊎ (d.lists.down ≡ []))
    → ((l : ℕ) (y : List Entry) → At w.server_logs l y → (more : List Entry) × At new.server_logs l (y ++ more)) → AllTold w → AllTold new
grows-told s w new h hn gone goes was logs all n d lg at_d logged_d opened = elim (goes n d at_d) [
  | inr none ↦ none-told lg d none
  | inl c ↦ elim (was n c.0 d c.1 at_d opened) [
    | inr none ↦ none-told lg d none
    | inl opened_then ↦
        let log = logs-there s w h.serves.stands.sound n c.0 c.1 in
        let more = logs c.0.lists.server log.0 log.1 in
        let is : lg ≡ log.0 ++ more.0 = At-one new.server_logs c.0.lists.server lg (log.0 ++ more.0) (subst (λ (l : ℕ). At new.server_logs l lg) c.2.life logged_d) more.1 in
        told-on w n c.0 d log.0 lg c.2 c.1 log.1 (more.0, is) (steady-of s w h n c.0 log.0 c.1 log.1) (hn.created n d at_d) opened (all n c.0 log.0 c.1 log.1 opened_then)
        (λ x noted j k sid r made sids place removed. noted-told s new hn gone n d lg at_d logged_d opened x noted j k sid r made sids place removed)
  ]
]

event-told : (s : Setting) (w new : World) (e : Event) → Ready s w → Ready s new → AllGone new → Happens w e new → AllTold w → AllTold new
event-told s w new e h hn gone happens all = elim (leaves-grew s w new e (takes-next s w h.serves) (world-numbered w h.serves.in_step) happens.0 happens.1 h.serves.stands.sound) [
  | inl same ↦ subst (λ (z : World). AllTold z) (sym same) all
  | inr grew ↦
      grows-told s w new h hn gone (event-goes s w new e h happens)
      (λ n c d at_c at_d opened. elim (grew.back n d at_d) [
        | inl went ↦ inl (subst (λ (z : Joined). z.lists.server_open ≡ true) (At-one w.circuits n went.c c went.at at_c) (was-open went.c d went.later opened))
        | inr none ↦ inr none
      ])
      grew.logs all
]

events-told : (s : Setting) (ok : IsSetting s) (done es : List Event) (w new : World) → FoldsTo Happens (opening s) done w → FoldsTo Happens w es new → AllTold w → AllTold new
events-told s ok done [] w new before same all = subst (λ (z : World). AllTold z) same all
events-told s ok done (e ∷ es) w new before (mid, one, rest) all =
    let runs : Runs s done None w = (w, before, refl) in
    let next : FoldsTo Happens (opening s) (done ++ e ∷ []) mid = folds-snoc done (opening s) w mid e before one in
    let runs_next : Runs s (done ++ e ∷ []) None mid = (mid, next, refl) in
    events-told s ok (done ++ e ∷ []) es mid new next rest
    (event-told s w mid e (ready s done None w ok runs) (ready s (done ++ e ∷ []) None mid ok runs_next) (run-gone s (done ++ e ∷ []) None mid ok runs_next) one all)

stops-told : (s : Setting) (mid : World) (stopped : Option Event) (w : World) → Ready s mid → Ready s w → AllGone w → StopsAt mid stopped w → AllTold mid → AllTold w
stops-told s mid (Some (event.Tick moment)) w h hn lost stops all = elim stops [
  | inl same ↦ subst (λ (z : World). AllTold z) (sym same) all
  | inr ticked ↦
      let f : Frame mid w = ticks-frame moment mid (clients_below ticked.0) w ticked.3 in
      grows-told s mid w h hn lost (frame-goes mid w f)
      (λ n c d at_c at_d opened. (let b = f.back n d at_d in inl (subst (λ (z : Joined). z.lists.server_open ≡ true) (At-one mid.circuits n b.0 c b.1 at_c) (sym b.2.is_open ∙ opened))))
      (logs-stay mid w f.logs) all
]
stops-told s mid stopped w h hn lost stops all = subst (λ (z : World). AllTold z) (sym stops) all

run-all-told : (s : Setting) (es : List Event) (stopped : Option Event) (w : World) → IsSetting s → Runs s es stopped w → AllTold w
run-all-told s es stopped w ok (mid, folds, stops) =
    stops-told s mid stopped w (ready s es None mid ok (mid, folds, refl)) (ready s es stopped w ok (mid, folds, stops)) (run-gone s es stopped w ok (mid, folds, stops)) stops
    (events-told s ok [] es (opening s) mid refl folds (λ n c log at. absurd (none_at n c at)))

-- ---- what the statement says

pub run-told : (s : Setting) (es : List Event) (stopped : Option Event) (w : World) → IsSetting s → Runs s es stopped w → ServersTellOfRemovals w
run-told s es stopped w ok runs =
    of-circuits s es stopped w ok runs
    (λ (n : ℕ) (c : Circuit) (x : List Line) (y : List Entry). (j k sid r e : ℕ) → Created c y j k sid r → At y e (Removed r) → IsUncleared c k sid e → c.server_open ≡ true
    → (q : ℕ) × (t : Told) × At c.down q t × (t.place ≡ k) × (t.cause ≡ Removal))
    (λ n c x y at lx ly j k sid r e made removed uncleared opened. run-all-told s es stopped w ok runs n c y at ly opened j k sid r e made removed uncleared)
