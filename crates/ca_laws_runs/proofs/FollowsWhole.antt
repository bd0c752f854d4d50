-- After every run the updates of each accepted EVENT_ADD follow its record.
use Rattle.std.proofs.Common.{◌≡◌, ℕ, ◌⊎◌, inl, inr, true, List, [], ◌∷◌, ◌++◌, length, Option, Some, None, refl, sym, ap, subst, ◌∙◌, ◌<◌, arith}
use Rattle.std.specs.List.{FoldsTo}
use Rattle.ca_text.specs.Place.{At}
use Rattle.ca_text.proofs.Places.{At-map, At-mapped, At-one, At-or, At-set}
use Rattle.ca_model.specs.History.{Circuit, Collected, Entry, GaveUp, Line}
use Rattle.ca_model.specs.Updates.{Shows}
use Rattle.ca_model.specs.Channels.{Joins}
use Rattle.ca_model.specs.Headline.{FollowsRecord}
use Rattle.ca_model.specs.Known.{IsDue}
use Rattle.ca_requests.specs.Meaning.{Means}
use Rattle.ca_model.specs.ServerSteps.{Pumps, Update}
use Rattle.ca_model.specs.Events.{Event}
use Rattle.ca_model.specs.Events as event
use Rattle.ca_model.specs.Runs.{CanBe, Happens, Leaves, Runs, StopsAt, clients_below}
use Rattle.ca_model.specs.ServerEvents.{HappensPump, ending, ends_by, server_after, stamped}
use Rattle.ca_model.specs.World.{IsSetting, Joined, ServerSide, Setting, World, circuit_of, opening, port_of, rules_of, told, with_circuit}
use Rattle.ca_laws_parts.specs.Runs.{IsReached}
use Rattle.ca_laws_runs.proofs.Created.{reached-created}
use Rattle.ca_laws_runs.specs.Worlds.{ServersStand}
use Rattle.ca_laws_runs.proofs.Creations.{reached-creations}
use Rattle.ca_laws_runs.proofs.StepWhole.{run-serves, takes-next}
use Rattle.ca_laws_parts.specs.Says.{AreNumbered}
use Rattle.ca_laws_parts.specs.Seats.{Sound, TakesSent}
use Rattle.ca_laws_parts.proofs.Every.{ticks-frame}
use Rattle.ca_laws_parts.proofs.Frames.{Frame}
use Rattle.ca_laws_parts.proofs.Grown.{accept-grew, add-grew, cut-grew, down-grew, grew-by, post-grew, pump-grew, remove-grew, restart-grew, up-grew}
use Rattle.ca_laws_parts.proofs.HappensClient.{begun-frame, clear-frame, cut-frame, datagram-frame, handing-frame, hear-frame, open-frame, put-frame, read-frame, subscribe-frame, unsubscribe-frame, write-frame}
use Rattle.ca_laws_parts.proofs.HappensPost.{stamped-same}
use Rattle.ca_laws_parts.proofs.InStepLasts.{world-numbered}
use Rattle.ca_laws_parts.proofs.WritesLists.{none_at}
use Rattle.ca_laws_parts.proofs.Replied.{finish-grew, step-grew-by}
use Rattle.ca_laws_parts.proofs.Says.{Grew, logs-stay}
use Rattle.ca_laws_runs.proofs.Logged.{AllEnds}
use Rattle.ca_laws_runs.specs.Joining.{HaveLines}
use Rattle.ca_laws_runs.specs.Known.{AllKnown}
use Rattle.ca_laws_runs.specs.Listed.{AllListed}
use Rattle.ca_laws_runs.specs.Record.{AllFollowRecord, FollowRecord}
use Rattle.ca_laws_runs.specs.Sent.{AllSent, SentOn}
use Rattle.ca_laws_runs.proofs.Following.{all-follow}
use Rattle.ca_laws_runs.proofs.Joining.{event-lines, opening-lines, ticks-lines}
use Rattle.ca_laws_runs.proofs.Keeping.{KnownAt, event-known, frame-known}
use Rattle.ca_laws_runs.proofs.Listing.{event-listed, frame-listed, opening-listed}
use Rattle.ca_laws_runs.proofs.Sending.{Back, IsPump, KeepsUpdates, back-frame, event-back, keeps-ending, sent-new, sent-on}
use Rattle.ca_laws_runs.proofs.FollowsStanding.{sent-pumped}

-- ---- logs grow

abbrev pub LogsGrow : (w new : World) → Type 0
LogsGrow w new = (l : ℕ) (y : List Entry) → At w.server_logs l y → (more : List Entry) × At new.server_logs l (y ++ more)

pub leaves-grew : (s : Setting) (w new : World) (e : Event) → TakesSent w → AreNumbered w → (at : CanBe w e) → Leaves w e at new → Sound s w → (new ≡ w) ⊎ Grew w new
leaves-grew s w new (event.Open i name priority) t u at l h = inr (grew-by w new new (open-frame w new i at.x name priority l) refl refl)
leaves-grew s w new (event.Clear i c) t u at l h = inr (grew-by w new new (clear-frame w new i at.x c at.h l) refl refl)
leaves-grew s w new (event.Read i c data_type count) t u at l h = inr (grew-by w new new (read-frame w new i at.x c at.h data_type count l) refl refl)
leaves-grew s w new (event.Write i c e) t u at l h = inr (grew-by w new new (write-frame w new i at.x c at.h e l) refl refl)
leaves-grew s w new (event.WriteNotify i c e) t u at l h = inr (grew-by w new new (put-frame w new i at.x c at.h e l) refl refl)
leaves-grew s w new (event.Subscribe i c data_type count mask) t u at l h = inr (grew-by w new new (subscribe-frame w new i at.x c at.h data_type count mask l) refl refl)
leaves-grew s w new (event.Unsubscribe i n) t u at l h = inr (grew-by w new new (unsubscribe-frame w new i at.x at.s l) refl refl)
leaves-grew s w new (event.Collect i r) t u at l h = inr (grew-by w new new (handing-frame w new at.x r at.q.1 (Collected r) l) refl refl)
leaves-grew s w new (event.GiveUp i r) t u at l h = inr (grew-by w new new (handing-frame w new at.x r at.q.1 (GaveUp r) l) refl refl)
leaves-grew s w new (event.ClientDatagram i from bytes) t u at l h = inr (grew-by w new new (datagram-frame w new i at.x from bytes l) refl refl)
leaves-grew s w new (event.ServerDatagram i from bytes) t u at l h = inl l.2
leaves-grew s w new (event.Accept i) t u at l h = accept-grew w new i at.x at.v l
leaves-grew s w new (event.Up k n) t u at l h = inr (up-grew w new k n at.0.j at.0.x at.0.y at.0.joins.at l)
leaves-grew s w new (event.Down k n) t u at l h = inr (down-grew w new k n at.0.j at.0.x at.0.y at.0.joins.at l)
leaves-grew s w new (event.ServerStep k) t u at l h = step-grew-by s w new k at.j at.y l.0 at.joins.at at.joins.server at.is_open t h l.1
leaves-grew s w new (event.ClientStep k) t u at l h = inr (grew-by w new new (hear-frame w new k at.j at.x at.joins.at l) refl refl)
leaves-grew s w new (event.Pump k) t u at l h = inr (pump-grew w new k at.j at.y at.joins.at at.joins.server at.is_open u l)
leaves-grew s w new (event.CutClient k) t u at l h = inr (grew-by w new new (cut-frame w new k at.j at.x at.joins.at l) refl refl)
leaves-grew s w new (event.CutServer k) t u at l h = inr (cut-grew w new k at.j at.y l)
leaves-grew s w new (event.ClientRestart i) t u at l h = inr (grew-by w new new (begun-frame w new i at.x l) refl refl)
leaves-grew s w new (event.ServerRestart i) t u at l h = inr (restart-grew w new i at.y l)
leaves-grew s w new (event.Post i name e mask) t u at l h = inr (post-grew w new i at.y name e mask l)
leaves-grew s w new (event.Finish i name) t u at l h = finish-grew s w new i at.y name at.at h l
leaves-grew s w new (event.Remove i name) t u at l h = remove-grew w new i at.y name l
leaves-grew s w new (event.Add i r) t u at l h = add-grew w new i at.y r l
leaves-grew s w new (event.Tick moment) t u at (mid, ticks, is) h =
    inr (grew-by w mid new (ticks-frame moment w (clients_below (length w.clients)) mid ticks) (ap (λ (z : World). z.server_logs) is) (ap (λ (z : World). z.circuits) is))

pub logs-grow : (s : Setting) (w new : World) (e : Event) → TakesSent w → AreNumbered w → Happens w e new → Sound s w → LogsGrow w new
logs-grow s w new e t u happens h = elim (leaves-grew s w new e t u happens.0 happens.1 h) [
  | inl same ↦ logs-stay w new (ap (λ (z : World). z.server_logs) same)
  | inr grew ↦ grew.logs
]

-- ---- what was sent

-- each circuit has the log of its server's life
abbrev pub LogsThere : World → Type 0
LogsThere w = (n : ℕ) (c : Joined) → At w.circuits n c → (y : List Entry) × At w.server_logs c.lists.server y

sent-back : (w new : World) → Back w new → LogsGrow w new → LogsThere w → AllSent w → AllSent new
sent-back w new back logs there all n d lg at logged = elim (back n d at) [
  | inl c ↦
      let log = there n c.0 c.1 in
      let more = logs c.0.lists.server log.0 log.1 in
      let is : lg ≡ log.0 ++ more.0 = At-one new.server_logs d.lists.server lg (log.0 ++ more.0) logged (subst (λ (l : ℕ). At new.server_logs l (log.0 ++ more.0)) (sym c.2.life) more.1) in
      sent-on log.0 lg c.0 d (more.0, is) c.2 (all n c.0 log.0 c.1 log.1)
  | inr fresh ↦ sent-new lg d fresh.0 fresh.1
]

pub logs-there : (s : Setting) (w : World) → Sound s w → LogsThere w
logs-there s w h n c at = (let x = h.within n c at in (x.0, x.1))

-- updates leave, and then circuits may end
sent-pump : (s : Setting) (w new : World) (k : ℕ) (j : Joined) (y : ServerSide) → At w.circuits k j → At w.servers j.server y → j.lists.server_open ≡ true → LogsGrow w new → ServersStand s w → AllEnds KnownAt w → HappensPump w k j y new → AllSent w → AllSent new
sent-pump s w new k j y on at opened logs h known f all =
    subst (λ (z : World). AllSent z) (sym f.leaves)
    (sent-back mid after (λ l d there. (let c = mapped l d there in inl c)) (subst (λ (z : World). LogsGrow w z) f.leaves logs) there-mid all-mid)
  where
    d : Joined
    d = stamped f.updates j

    mid : World
    mid = with_circuit k d w

    after : World
    after = server_after j.server y (ends_by j.server f.core) f.core mid

    same_life : d.lists.server ≡ j.lists.server
    same_life = (stamped-same f.updates j).life

    mapped : (l : ℕ) (z : Joined) → At after.circuits l z → (c : Joined) × At mid.circuits l c × KeepsUpdates c z
    mapped l z there = (let c = At-mapped (ending (ends_by j.server f.core)) mid.circuits l z there in (c.0, c.1, subst (λ (x : Joined). KeepsUpdates c.0 x) (sym c.2) (keeps-ending (ends_by j.server f.core) c.0)))

    there-mid : LogsThere mid
    there-mid n c there = elim (At-set w.circuits k d n c there) [
      | inl own ↦ (let x = logs-there s w h.stands.sound k j on in (x.0, subst (λ (l : ℕ). At w.server_logs l x.0) (sym (ap (λ (z : Joined). z.lists.server) own.1 ∙ same_life)) x.1))
      | inr old ↦ logs-there s w h.stands.sound n c old.0
    ]

    own-sent : (log : List Entry) → At w.server_logs j.lists.server log → SentOn log d
    own-sent log logged = go f.pumps
      where
        joins : j.lists.server ≡ y.life
        joins = (let seat = h.stands.sound.seated.each k j on opened in seat.joins ∙ ap (λ (z : ServerSide). z.life) (At-one w.servers j.server seat.y y seat.at at))

        go : Pumps y.core j.at_server f.updates f.core → SentOn log d
        go (inl (e, has, (ended, folds, rest))) =
            sent-pumped k log y.records f.updates e ended j (h.stands.sound.writes.lives j.server y at).life.others folds
            (known k j y e log on at opened has (subst (λ (l : ℕ). At w.server_logs l log) joins logged))
            (h.in_step k j y e on at opened has).queues (h.numbers k j on opened) (h.messages k j on opened) opened (all k j log on logged)
        go (inr (none, nothing, is)) = subst (λ (us : List Update). SentOn log (stamped us j)) (sym nothing) (all k j log on logged)

    all-mid : AllSent mid
    all-mid n c log there logged = elim (At-set w.circuits k d n c there) [
      | inl own ↦ subst (λ (z : Joined). SentOn log z) (sym own.1) (own-sent log (subst (λ (l : ℕ). At w.server_logs l log) (ap (λ (z : Joined). z.lists.server) own.1 ∙ same_life) logged))
      | inr old ↦ all n c log old.0 logged
    ]

event-sent : (s : Setting) (w new : World) (e : Event) → ServersStand s w → AllEnds KnownAt w → Happens w e new → AllSent w → AllSent new
event-sent s w new e h known happens all = go e happens
  where
    numbered : AreNumbered w
    numbered = world-numbered w h.in_step

    logs : (e : Event) → Happens w e new → LogsGrow w new
    logs e happens = logs-grow s w new e (takes-next s w h) numbered happens h.stands.sound

    other : (e : Event) → (IsPump e → ⊥) → Happens w e new → AllSent new
    other e not happens = sent-back w new (event-back w new e not happens) (logs e happens) (logs-there s w h.stands.sound) all

    go : (e : Event) → Happens w e new → AllSent new
    go (event.Open i name priority) happens = other (event.Open i name priority) (λ x. x) happens
    go (event.Clear i c) happens = other (event.Clear i c) (λ x. x) happens
    go (event.Read i c data_type count) happens = other (event.Read i c data_type count) (λ x. x) happens
    go (event.Write i c e) happens = other (event.Write i c e) (λ x. x) happens
    go (event.WriteNotify i c e) happens = other (event.WriteNotify i c e) (λ x. x) happens
    go (event.Subscribe i c data_type count mask) happens = other (event.Subscribe i c data_type count mask) (λ x. x) happens
    go (event.Unsubscribe i n) happens = other (event.Unsubscribe i n) (λ x. x) happens
    go (event.Collect i r) happens = other (event.Collect i r) (λ x. x) happens
    go (event.GiveUp i r) happens = other (event.GiveUp i r) (λ x. x) happens
    go (event.ClientDatagram i from bytes) happens = other (event.ClientDatagram i from bytes) (λ x. x) happens
    go (event.ServerDatagram i from bytes) happens = other (event.ServerDatagram i from bytes) (λ x. x) happens
    go (event.Accept i) happens = other (event.Accept i) (λ x. x) happens
    go (event.Up k n) happens = other (event.Up k n) (λ x. x) happens
    go (event.Down k n) happens = other (event.Down k n) (λ x. x) happens
    go (event.ServerStep k) happens = other (event.ServerStep k) (λ x. x) happens
    go (event.ClientStep k) happens = other (event.ClientStep k) (λ x. x) happens
    go (event.Pump k) happens = sent-pump s w new k happens.0.j happens.0.y happens.0.joins.at happens.0.joins.server happens.0.is_open (logs (event.Pump k) happens) h known happens.1 all
    go (event.CutClient k) happens = other (event.CutClient k) (λ x. x) happens
    go (event.CutServer k) happens = other (event.CutServer k) (λ x. x) happens
    go (event.ClientRestart i) happens = other (event.ClientRestart i) (λ x. x) happens
    go (event.ServerRestart i) happens = other (event.ServerRestart i) (λ x. x) happens
    go (event.Post i name e mask) happens = other (event.Post i name e mask) (λ x. x) happens
    go (event.Finish i name) happens = other (event.Finish i name) (λ x. x) happens
    go (event.Remove i name) happens = other (event.Remove i name) (λ x. x) happens
    go (event.Add i r) happens = other (event.Add i r) (λ x. x) happens
    go (event.Tick moment) happens = other (event.Tick moment) (λ x. x) happens

-- ---- every run

-- What is known of the EVENT_ADDs and updates of a world.
pub record FollowStand (w : World) : Type 0 where
  pub listed : AllListed w
  pub known : AllEnds KnownAt w
  pub sent : AllSent w
  pub lines : HaveLines w

opening-stand : (s : Setting) → FollowStand (opening s)
opening-stand s = record { listed = opening-listed s; known = λ n c y e log at. absurd (none_at n c at); sent = λ n c log at. absurd (none_at n c at); lines = opening-lines s }

event-stand : (s : Setting) (w new : World) (e : Event) → IsReached w → ServersStand s w → Happens w e new → FollowStand w → FollowStand new
event-stand s w new e reached h happens f = record {
  listed = event-listed w new e h.stands.sound.writes happens f.listed;
  known = event-known s w new e (takes-next s w h) f.listed (reached-creations w reached) (reached-created w reached) happens h.stands.sound f.known;
  sent = event-sent s w new e h f.known happens f.sent;
  lines = event-lines w new e happens f.lines;
}

frame-stand : (s : Setting) (w new : World) → ServersStand s w → Frame w new → HaveLines new → FollowStand w → FollowStand new
frame-stand s w new h g lines f = record {
  listed = frame-listed w new g f.listed;
  known = frame-known w new g f.known;
  sent = sent-back w new (back-frame w new g) (logs-stay w new g.logs) (logs-there s w h.stands.sound) f.sent;
  lines = lines;
}

pub folds-snoc : (es : List Event) (a b c : World) (e : Event) → FoldsTo Happens a es b → Happens b e c → FoldsTo Happens a (es ++ e ∷ []) c
folds-snoc [] a b c e same one = (c, subst (λ (z : World). Happens z e c) (sym same) one, refl)
folds-snoc (x ∷ es) a b c e (mid, first, rest) one = (mid, first, folds-snoc es mid b c e rest one)

events-stand : (s : Setting) (ok : IsSetting s) (done es : List Event) (w new : World) → FoldsTo Happens (opening s) done w → FoldsTo Happens w es new → FollowStand w → FollowStand new
events-stand s ok done [] w new before same f = subst (λ (z : World). FollowStand z) same f
events-stand s ok done (e ∷ es) w new before (mid, one, rest) f =
    let runs : Runs s done None w = (w, before, refl) in
    events-stand s ok (done ++ e ∷ []) es mid new (folds-snoc done (opening s) w mid e before one) rest
    (event-stand s w mid e (s, done, None, ok, runs) (run-serves s done None w ok runs) one f)

stops-stand : (s : Setting) (mid : World) (stopped : Option Event) (w : World) → ServersStand s mid → StopsAt mid stopped w → FollowStand mid → FollowStand w
stops-stand s mid (Some (event.Tick moment)) w h stops f = elim stops [
  | inl same ↦ subst (λ (z : World). FollowStand z) (sym same) f
  | inr ticked ↦ frame-stand s mid w h (ticks-frame moment mid (clients_below ticked.0) w ticked.3) (ticks-lines moment mid (clients_below ticked.0) w ticked.3 f.lines) f
]
stops-stand s mid stopped w h stops f = subst (λ (z : World). FollowStand z) (sym stops) f

pub run-stand : (s : Setting) (es : List Event) (stopped : Option Event) (w : World) → IsSetting s → Runs s es stopped w → FollowStand w
run-stand s es stopped w ok (mid, folds, stops) =
    stops-stand s mid stopped w (run-serves s es None mid ok (mid, folds, refl)) stops (events-stand s ok [] es (opening s) mid refl folds (opening-stand s))

pub run-known : (s : Setting) (es : List Event) (stopped : Option Event) (w : World) → IsSetting s → Runs s es stopped w → AllKnown w
run-known s es stopped w ok runs n c y e log at there opened has logged = ((run-stand s es stopped w ok runs).known n c y e log at there opened has logged).1

pub run-follow : (s : Setting) (es : List Event) (stopped : Option Event) (w : World) → IsSetting s → Runs s es stopped w → AllFollowRecord w
run-follow s es stopped w ok runs =
    let f = run-stand s es stopped w ok runs in
    let h = run-serves s es stopped w ok runs in
    all-follow w h.stands.sound.writes h.stands.sound.seated h.stands.asked h.numbers f.known f.sent

-- so the clause, with the logs of the lives that each circuit joins
pub run-record : (s : Setting) (es : List Event) (stopped : Option Event) (w : World) → IsSetting s → Runs s es stopped w → FollowRecord w
run-record s es stopped w ok runs n d at =
    let j = At-mapped circuit_of w.circuits n d at in
    let y = logs-there s w (run-serves s es stopped w ok runs).stands.sound n j.0 j.1 in
    elim (At-or w.client_logs j.0.lists.client) [
      | inl x ↦
          subst (λ (c : Circuit). (x : List Line) × (y : List Entry) × Joins (told w) n c x y × FollowsRecord (IsDue (port_of w) (rules_of w)) Shows Means n c x y) (sym j.2)
          (x.0, y.0, (At-map circuit_of w.circuits n j.0 j.1, x.1, y.1), run-follow s es stopped w ok runs n j.0 y.0 j.1 y.1 x.0)
      | inr past ↦ absurd (let lt : j.0.lists.client < length w.client_logs = (run-stand s es stopped w ok runs).lines.joins n j.0 j.1 in omega (arith, lt, past))
    ]
