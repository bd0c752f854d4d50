-- The record of each write that a server's log reports has the name of the caller's channel:
-- what each event logs.
use Rattle.std.proofs.Common.{◌≡◌, ℕ, zero, suc, ◌<◌, ◌⊎◌, inl, inr, Bool, true, false, cond, List, [], ◌∷◌, ◌++◌, length, Option, Some, None, refl, sym, ap, subst, ◌∙◌, arith}
use Rattle.std.specs.Prelude.{filter, map, option_map, slice_get, unwrap_or}
use Rattle.std.specs.List.{FoldsTo, flat_map}
use Rattle.std.specs.Str.{bytes_eq}
use Rattle.ca_arena.specs.declared.handle.Handle.{Handle}
use Rattle.ca_dbr.specs.Elements.{Elements}
use Rattle.ca_records.specs.Puts.{Record, WaitingPut, record_named}
use Rattle.ca_records.specs.Record.{RecordState, unset}
use Rattle.ca_text.specs.Place.{At}
use Rattle.ca_text.proofs.Places.{At-append, At-mapped, At-one, At-parts, At-set, At-snoc, some_is}
use Rattle.ca_wire.specs.Fields.{Fields}
use Rattle.ca_model.specs.Due.{Action, Applies, Due, KnownRecord, Knows, Nothing, PutDue, Serves, WriteDue, must_wait}
use Rattle.ca_model.specs.Due as action
use Rattle.ca_model.specs.Ends as why
use Rattle.ca_model.specs.History.{Added, Applied, Ask, Collected, Create, Entry, Finished, GaveUp, Intent, Line, On, Opened, Posted, Removed, Sent, Told, Waits, Withdrawn}
use Rattle.ca_model.specs.History as history
use Rattle.ca_model.specs.Server.{Server, ServerEnd}
use Rattle.ca_model.specs.ServerSteps.{HasEnd, Next, Stepped, closed, known_record, knows, stored_now}
use Rattle.ca_model.specs.ServerSteps as stepped
use Rattle.ca_model.specs.Speech.{Creates, In, name_in, sid_in}
use Rattle.ca_model.proofs.Thinner.{three-ways}
use Rattle.ca_model.specs.Channels.{Suits}
use Rattle.ca_model.specs.Known.{IsChannel}
use Rattle.ca_model.specs.ClientEvents.{DownTaken}
use Rattle.ca_model.specs.Events.{Event}
use Rattle.ca_model.specs.Events as event
use Rattle.ca_model.specs.Runs.{AreEvents, CanBe, Happens, Leaves, Runs, StopsAt, clients_below}
use Rattle.ca_model.specs.ServerEvents.{HappensAdd, HappensFinish, HappensPost, HappensRemove, HappensServerRestart, ServerStepped, acted, ends_at, ends_by, ends_here, finish_entry, first_of, handled_at, logged_by, next_entries, noted, posted_entry, removal_entries, replied_at, server_after, side_of, unsaid, withdrawals}
use Rattle.ca_model.specs.ServerEvents as server
use Rattle.ca_model.specs.World.{IsSetting, Joined, PutPlace, RecordSide, ServerSide, ServerSetting, Setting, World, grown, log_begun, opening, with_circuit, with_entries}
use Rattle.ca_laws_parts.specs.Agrees.{Agrees}
use Rattle.ca_laws_parts.specs.Lives.{IsPutOf, IsWriting}
use Rattle.ca_laws_parts.specs.Moves.{Lives, Writes, finish_told, post_told, removal_told}
use Rattle.ca_laws_parts.proofs.Doing.{writes-only}
use Rattle.ca_laws_parts.proofs.WritesEvents.{Found, found, numbered-at}
use Rattle.ca_laws_parts.proofs.Every.{ticks-frame}
use Rattle.ca_laws_parts.proofs.HappensClient.{begun-frame, clear-frame, cut-frame, datagram-frame, handing-frame, hear-frame, open-frame, put-frame, read-frame, subscribe-frame, unsubscribe-frame, up-frame, write-frame}
use Rattle.ca_laws_parts.proofs.WritesLists.{At-take, beside-left, beside-right, none_at}
use Rattle.ca_laws_parts.proofs.WritesLives.{number-of}
use Rattle.ca_laws_parts.proofs.Midway.{grown-here}
use Rattle.ca_laws_runs.specs.Under.{IsCreatedBefore}
use Rattle.ca_laws_runs.proofs.Joint.{are-snoc, folds-snoc}
use Rattle.ca_laws_runs.proofs.OnceRuns.{once-runs}
use Rattle.ca_laws_runs.proofs.OrderGrows.{ticks-grown}
use Rattle.ca_laws_runs.proofs.StepWhole.{run-serves, takes-next}
use Rattle.ca_laws_runs.proofs.ToldGrows.{WorldsOn, event-on, on-grown}
use Rattle.ca_laws_runs.specs.Carried.{AllTitled, IsAsWritten, IsTitled, IsWrite, IsWriteTo, LogTitled}
use Rattle.ca_laws_runs.specs.KnewLists.{as_known}
use Rattle.ca_laws_runs.proofs.Acting.{taken-below}
use Rattle.ca_laws_runs.proofs.ActsNamedRuns.{run-names}
use Rattle.ca_laws_runs.proofs.ActsOn.{no-other, run-facts}
use Rattle.ca_laws_runs.proofs.ActsOn as acts
use Rattle.ca_laws_runs.proofs.KnewListsRuns.{run-know-channels}
use Rattle.ca_laws_runs.proofs.LoggedStep.{told-logs}

-- ---- entries that tell of no write

abbrev IsQuiet : Entry → Type 0
IsQuiet (Waits n k r v) = ⊥
IsQuiet (Applied n k r v busies) = ⊥
IsQuiet e = Unit {0}

quiet-none : (n k r : ℕ) (e : Entry) → IsQuiet e → IsWriteTo n k r e → ⊥
quiet-none n k r (Waits m l q v) quiet writes = quiet
quiet-none n k r (Applied m l q v busies) quiet writes = quiet
quiet-none n k r (Added q s) quiet writes = writes
quiet-none n k r (Removed q) quiet writes = writes
quiet-none n k r (Posted q mask v) quiet writes = writes
quiet-none n k r (Finished m l) quiet writes = writes
quiet-none n k r (Withdrawn m l) quiet writes = writes

abbrev AreQuiet : List Entry → Type 0
AreQuiet es = (i : ℕ) (e : Entry) → At es i e → IsQuiet e

none-quiet : AreQuiet []
none-quiet i e at = absurd (none_at i e at)

one-quiet : (e : Entry) → IsQuiet e → AreQuiet (e ∷ [])
one-quiet e quiet zero x at = subst (λ (z : Entry). IsQuiet z) (some_is e x at) quiet
one-quiet e quiet (suc i) x at = absurd (none_at i x at)

first-quiet : (e : Entry) (es : List Entry) → IsQuiet e → AreQuiet es → AreQuiet (e ∷ es)
first-quiet e es quiet more zero x at = subst (λ (z : Entry). IsQuiet z) (some_is e x at) quiet
first-quiet e es quiet more (suc i) x at = more i x at

both-quiet : (xs ys : List Entry) → AreQuiet xs → AreQuiet ys → AreQuiet (xs ++ ys)
both-quiet xs ys f g i e at = elim (At-parts xs ys i e at) [ inl old ↦ f i e old | inr new ↦ g new.0 e new.2 ]

withdrawn-quiet : (ps : List PutPlace) → AreQuiet (map (λ (p : PutPlace). Withdrawn p.circuit p.place) ps)
withdrawn-quiet ps i e at =
    let p = At-mapped (λ (p : PutPlace). Withdrawn p.circuit p.place) ps i e at in
    subst (λ (x : Entry). IsQuiet x) (sym p.2) tt

flat-quiet : (f : RecordSide → List Entry) (rs : List RecordSide) → ((r : RecordSide) → AreQuiet (f r)) → AreQuiet (flat_map f rs)
flat-quiet f [] each = none-quiet
flat-quiet f (r ∷ rs) each = both-quiet (f r) (flat_map f rs) (each r) (flat-quiet f rs each)

removal-quiet : (name : List ℕ) (rs : List RecordSide) → AreQuiet (removal_entries name rs)
removal-quiet name rs =
    flat-quiet (λ (r : RecordSide). Removed r.number ∷ map (λ (p : PutPlace). Withdrawn p.circuit p.place) r.waiting) (filter (λ (r : RecordSide). bytes_eq r.name name) rs)
    (λ r. first-quiet (Removed r.number) (map (λ (p : PutPlace). Withdrawn p.circuit p.place) r.waiting) tt (withdrawn-quiet r.waiting))

begun-quiet : (s : ServerSetting) → AreQuiet (log_begun s)
begun-quiet s i e at = (let x = numbered-at Added s.records 0 i e at in subst (λ (z : Entry). IsQuiet z) (sym x.2) tt)

-- ---- logs, as a world has circuits and the logs of clients

titled-forth : (v : World) (n k r : ℕ) (log more : List Entry) → IsTitled v n k r log → IsTitled v n k r (log ++ more)
titled-forth v n k r log more t = record {
  c = t.c;
  on = t.on;
  x = t.x;
  lines = t.lines;
  s = t.s;
  sent = t.sent;
  channel = t.channel;
  ask = t.ask;
  meant = t.meant;
  state = t.state;
  opened = t.opened;
  added = (t.added.0, At-append log more t.added.0 (Added r t.state) t.added.1);
}

-- the circuits and the logs of clients go on
titled-on : (w new : World) (n k r : ℕ) (log : List Entry) → WorldsOn w new → IsTitled w n k r log → IsTitled new n k r log
titled-on w new n k r log on t =
    let o = on.circuits n t.c t.on in
    let g = on.logs (t.c).lists.client t.x t.lines in
    record {
      c = o.0;
      on = o.1;
      x = t.x ++ g.0;
      lines = subst (λ (l : ℕ). At new.client_logs l (t.x ++ g.0)) (sym o.2.client) g.1;
      s = t.s;
      sent = o.2.up k t.s t.sent;
      channel = t.channel;
      ask = t.ask;
      meant = t.meant;
      state = t.state;
      opened = (t.opened.0, At-append t.x g.0 t.opened.0 (Opened t.channel (t.state).name) t.opened.1);
      added = t.added;
    }

-- these writes are of records that are titled in the log before, and are stored as writes are
abbrev MayTell : World → List Entry → List Entry → Type 0
MayTell v log more = (n k r : ℕ) (e : Entry) → In more e → IsWriteTo n k r e → IsTitled v n k r log × IsAsWritten e

quiet-may : (v : World) (log more : List Entry) → AreQuiet more → MayTell v log more
quiet-may v log more quiet n k r e there writes = absurd (quiet-none n k r e (quiet there.0 e there.1) writes)

log-more : (v : World) (log more : List Entry) → MayTell v log more → LogTitled v log → LogTitled v (log ++ more)
log-more v log more may all n k r e there writes = elim (At-parts log more there.0 e there.1) [
  | inl old ↦ (let z = all n k r e (there.0, old) writes in (titled-forth v n k r log more z.0, z.1))
  | inr late ↦ (let z = may n k r e (late.0, late.2) writes in (titled-forth v n k r log more z.0, z.1))
]

log-quiet : (v : World) (log : List Entry) → AreQuiet log → LogTitled v log
log-quiet v log quiet n k r e there writes = absurd (quiet-none n k r e (quiet there.0 e there.1) writes)

-- the logs of this world, as the other has circuits and the logs of clients
abbrev AllIn : (v w : World) → Type 0
AllIn v w = (life : ℕ) (y : List Entry) → At w.server_logs life y → LogTitled v y

-- a log has entries more
grown-or : (logs : List (List Entry)) (life : ℕ) (more : List Entry) (l : ℕ) (z : List Entry) → At (grown life more logs) l z → At logs l z ⊎ ((l ≡ life) × ((log : List Entry) → At logs life log → z ≡ log ++ more))
grown-or logs life more l z at = elim (At-set logs life (unwrap_or (slice_get logs life) [] ++ more) l z at) [
  | inl own ↦ inr (own.0, λ log there. own.1 ∙ ap (λ (o : Option (List Entry)). unwrap_or o [] ++ more) there)
  | inr old ↦ inl old.0
]

log-of : (w : World) (i : ℕ) (y : ServerSide) → Writes w → At w.servers i y → (log : List Entry) × At w.server_logs y.life log
log-of w i y h at = ((h.lives i y at).log, (h.lives i y at).at)

side-life : (w : World) (k : ℕ) (j : Joined) (y : ServerSide) (did : Action) → At w.servers j.server y → (side_of j.server y (acted k j y did w)).life ≡ y.life
side-life w k j y did at = go (slice_get (acted k j y did w).servers j.server) refl
  where
    next : ServerSide
    next = record y { records = server.records_after y.core j.at_server (record { circuit = k; place = length j.lists.handled }) did y.records }

    go : (o : Option ServerSide) → slice_get (acted k j y did w).servers j.server ≡ o → (unwrap_or o y).life ≡ y.life
    go None is = refl
    go (Some z) is = elim (At-set w.servers j.server next j.server z is) [ inl own ↦ ap (λ (x : ServerSide). x.life) own.1 | inr old ↦ absurd (old.1 refl) ]

-- the entries of what a message does
abbrev entries_by : (k : ℕ) → Joined → ServerSide → Action → List Entry
entries_by k j y did = logged_by y.core j.at_server (record { circuit = k; place = length j.lists.handled }) did y.records

next-quiet : (y : ServerSide) (r : RecordSide) (a : Option WaitingPut) → AreQuiet (next_entries y r a None)
next-quiet y r (Some v) = none-quiet
next-quiet y r None = none-quiet

first-at : (p : PutPlace) (ps : List PutPlace) → first_of ps ≡ Some p → At ps 0 p
first-at p [] is = absurd (let a : Option PutPlace = None in let f : a ≡ Some p = is in cc)
first-at p (z ∷ ps) is = is

only-one : (entry e : Entry) (m : ℕ) → At (entry ∷ []) m e → e ≡ entry
only-one entry e zero at = sym (some_is entry e at)
only-one entry e (suc m) at = absurd (none_at m e at)

module _ (v : World) where
  same-logs : (w new : World) → new.server_logs ≡ w.server_logs → AllIn v w → AllIn v new
  same-logs w new logs all life y at = all life y (subst (λ (l : List (List Entry)). At l life y) logs at)

  -- these are told in the log of a life
  told-more : (w new : World) (life : ℕ) (more log : List Entry) → new.server_logs ≡ (with_entries life more w).server_logs → At w.server_logs life log → MayTell v log more → AllIn v w → AllIn v new
  told-more w new life more log logs here may all l y at = elim (grown-or w.server_logs life more l y (subst (λ (z : List (List Entry)). At z l y) logs at)) [
    | inl old ↦ all l y old
    | inr own ↦ subst (λ (z : List Entry). LogTitled v z) (sym (own.1 log here)) (log-more v log more may (all life log here))
  ]

  -- circuits of a server end
  ends-keep : (w : World) (i : ℕ) (y : ServerSide) (ends : Joined → Option (List ℕ)) (core : Server) (log : List Entry) → At w.server_logs y.life log → AllIn v w → AllIn v (server_after i y ends core w)
  ends-keep w i y ends core log here all =
      told-more w (server_after i y ends core w) y.life (withdrawals (ends_at ends w.circuits) y.records) log refl here
      (quiet-may v log (withdrawals (ends_at ends w.circuits) y.records) (withdrawn-quiet (flat_map (λ (r : RecordSide). filter (λ (p : PutPlace). ends_at ends w.circuits p.circuit) r.waiting) y.records))) all

  -- ---- a step of a server's end

  acted-keep : (w : World) (k : ℕ) (j : Joined) (y : ServerSide) (did : Action) (ends : Joined → Option (List ℕ)) (core : Server) → Writes w → At w.servers j.server y → ((log : List Entry) → At w.server_logs y.life log → MayTell v log (entries_by k j y did))
      → AllIn v w → AllIn v (server_after j.server (side_of j.server y (acted k j y did w)) ends core (acted k j y did w))
  acted-keep w k j y did ends core h at may all =
      let own : (log : List Entry) × At w.server_logs y.life log = log-of w j.server y h at in
      let more : List Entry = entries_by k j y did in
      let mid : World = acted k j y did w in
      ends-keep mid j.server (side_of j.server y mid) ends core (own.0 ++ more) (subst (λ (l : ℕ). At mid.server_logs l (own.0 ++ more)) (sym (side-life w k j y did at)) (grown-here w.server_logs y.life own.0 more own.1))
      (told-more w mid y.life more own.0 refl own.1 (may own.0 own.1) all)

  noted-keep : (w after : World) (k : ℕ) (j : Joined) (y : ServerSide) (replies : List Fields) → AllIn v after → AllIn v (noted k j y replies w after)
  noted-keep w after k j y replies all = go (slice_get after.circuits k)
    where
      go : (o : Option Joined) → AllIn v (unwrap_or (option_map (λ (c : Joined). with_circuit k (handled_at (length j.lists.handled) (record { sent = length j.lists.down; logged = server.logged y w; after = server.logged y after }) replies c) after) o) after)
      go None = all
      go (Some c) = all

  step-keep : (w new : World) (k : ℕ) (j : Joined) (y : ServerSide) (did : Stepped) → Writes w → At w.servers j.server y
      → ((e : ServerEnd) → HasEnd y.core j.at_server e → (n : Next y.core j.at_server e) → (log : List Entry) → At w.server_logs y.life log → MayTell v log (entries_by k j y n.action))
      → ServerStepped w k j y did new → AllIn v w → AllIn v new
  step-keep w new k j y stepped.Handled h at may f all =
      subst (λ (z : World). AllIn v z) (sym f.leaves) (noted-keep w _ k j y (f.steps.0).replies (acted-keep w k j y (f.steps.0).action (ends_by j.server f.core) f.core h at (may f.e f.has f.steps.0) all))
  step-keep w new k j y stepped.NeedBytes h at may f all = subst (λ (z : World). AllIn v z) (sym f.3) all
  step-keep w new k j y stepped.OutputFull h at may f all = subst (λ (z : World). AllIn v z) (sym f.3) all
  step-keep w new k j y (stepped.Closed why.OutOfMemory left) h at may f all = subst (λ (z : World). AllIn v z) (sym f.leaves) (go f.lacks.written)
    where
      did : Action
      did = f.lacks.next.action

      go : (o : Option (Handle → Bool)) → AllIn v (server_after j.server (side_of j.server y (unsaid k j y did o w)) (ends_here j left j.server f.core) f.core (unsaid k j y did o w))
      go None =
          subst (λ (z : ServerSide). AllIn v (server_after j.server z (ends_here j left j.server f.core) f.core w)) (sym (ap (λ (o : Option ServerSide). unwrap_or o y) at))
          (let own = log-of w j.server y h at in ends-keep w j.server y (ends_here j left j.server f.core) f.core own.0 own.1 all)
      go (Some gone) = acted-keep w k j y did (ends_here j left j.server f.core) f.core h at (may f.e f.has f.lacks.next) all
  step-keep w new k j y (stepped.Closed cause left) h at may f all =
      let own = log-of w j.server y h at in
      subst (λ (z : World). AllIn v z) (sym f.3) (ends-keep w j.server y (ends_here j left j.server y.core) (closed j.at_server y.core) own.0 own.1 all)

  -- ---- a post, a finish

  post-keep : (w new : World) (i : ℕ) (y : ServerSide) (name : List ℕ) (e : Elements) (mask : ℕ) → Writes w → At w.servers i y → HappensPost w i y name e mask new → AllIn v w → AllIn v new
  post-keep w new i y name e mask h at (gone, core, inl (posts, is)) all =
      let own = log-of w i y h at in
      let more : List Entry = posted_entry y name (record { value = e; meta = unset }) mask in
      let mid : World = post_told w i y name (record { value = e; meta = unset }) mask in
      subst (λ (z : World). AllIn v z) (sym is)
      (ends-keep mid i y (ends_by i core) core (own.0 ++ more) (grown-here w.server_logs y.life own.0 more own.1)
      (told-more w mid y.life more own.0 refl own.1 (quiet-may v own.0 more (one-quiet _ tt)) all))
  post-keep w new i y name e mask h at (gone, core, inr refused) all = subst (λ (z : World). AllIn v z) (sym refused.3) all

  -- the put that is applied next had waited
  next-may : (w : World) (i : ℕ) (y : ServerSide) (own : Lives w i y) (place : ℕ) (r : RecordSide) (a : Option WaitingPut) (b : Option PutPlace) → At y.records place r → first_of r.waiting ≡ b → LogTitled v own.log → MayTell v own.log (next_entries y r a b)
  next-may w i y own place r a b at first all = go a b first
    where
      go : (a : Option WaitingPut) (b : Option PutPlace) → first_of r.waiting ≡ b → MayTell v own.log (next_entries y r a b)
      go a None is = quiet-may v own.log (next_entries y r a None) (next-quiet y r a)
      go None (Some p) is = quiet-may v own.log (next_entries y r None (Some p)) none-quiet
      go (Some b) (Some p) is = λ n k q e there writes.
          let x = beside-right (Agrees (IsPutOf w.circuits i) own.log) y.core.records y.records place r own.life.each at in
          let z = beside-left _ r.waiting x.0.waiting 0 p x.2.each (first-at p r.waiting is) in
          let came = z.2.0 in
          let entry : Entry = Applied p.circuit p.place r.number (stored_now y.core b.value) true in
          let is : e ≡ entry = only-one entry e there.0 there.1 in
          let same : IsWriteTo n k q entry = subst (λ (f : Entry). IsWriteTo n k q f) is writes in (
            (all n k q (Waits p.circuit p.place r.number came.v) came.came same).0,
            subst (λ (f : Entry). IsAsWritten f) (sym is) ((y.core).stamp, refl),
          )

  finish-may : (log : List Entry) (p : PutPlace) (es : List Entry) → MayTell v log es → MayTell v log (finish_entry p ∷ es)
  finish-may log p es may n k r e (zero, at) writes = absurd (quiet-none n k r e (one-quiet (finish_entry p) tt zero e at) writes)
  finish-may log p es may n k r e (suc i, at) writes = may n k r e (i, at) writes

  finish-keep : (w new : World) (i : ℕ) (y : ServerSide) (name : List ℕ) → Writes w → At w.servers i y → HappensFinish w i y name new → AllIn v w → AllIn v new
  finish-keep w new i y name h at (inl f) all =
      let own = h.lives i y at in
      let next : List Entry = next_entries y f.r (first_of f.cr.waiting) (first_of f.r.waiting) in
      let more : List Entry = finish_entry f.p ∷ next in
      let told : World = finish_told w i y name f.cr f.r f.p in
      let mid : World = replied_at f.p f.sent told in
      let logs : mid.server_logs ≡ told.server_logs = told-logs f.p f.sent told in
      let side : ServerSide = record y { records = server.with_record name server.next_busy y.records } in
      subst (λ (z : World). AllIn v z) (sym f.leaves)
      (ends-keep mid i side (ends_by i f.core) f.core (own.log ++ more) (subst (λ (l : List (List Entry)). At l y.life (own.log ++ more)) (sym logs) (grown-here w.server_logs y.life own.log more own.at))
      (told-more w mid y.life more own.log logs own.at
      (finish-may own.log f.p next (next-may w i y own f.at.0 f.r (first_of f.cr.waiting) (first_of f.r.waiting) f.at.1 refl (all y.life own.log own.at))) all))
  finish-keep w new i y name h at (inr refused) all = subst (λ (z : World). AllIn v z) (sym refused.2) all

  -- ---- records come and go

  remove-keep : (w new : World) (i : ℕ) (y : ServerSide) (name : List ℕ) → Writes w → At w.servers i y → HappensRemove w i y name new → AllIn v w → AllIn v new
  remove-keep w new i y name h at (gone, left, core, inl (removes, is)) all =
      let own = h.lives i y at in
      let more : List Entry = removal_entries name y.records in
      let side : ServerSide = record y { records = filter _ y.records } in
      subst (λ (z : World). AllIn v z) (sym is)
      (ends-keep (removal_told w i y name gone left) i side (ends_by i core) core (own.log ++ more) (grown-here w.server_logs y.life own.log more own.at)
      (told-more w (removal_told w i y name gone left) y.life more own.log refl own.at (quiet-may v own.log more (removal-quiet name y.records)) all))
  remove-keep w new i y name h at (gone, left, core, inr (removes, is)) all = subst (λ (z : World). AllIn v z) (sym is) all

  add-keep : (w new : World) (i : ℕ) (y : ServerSide) (r : RecordState) → Writes w → At w.servers i y → HappensAdd w i y r new → AllIn v w → AllIn v new
  add-keep w new i y r h at (core, behind, inl (adds, is)) all =
      let own = h.lives i y at in
      told-more w new y.life (Added y.added r ∷ []) own.log (ap (λ (z : World). z.server_logs) is) own.at (quiet-may v own.log (Added y.added r ∷ []) (one-quiet _ tt)) all
  add-keep w new i y r h at (core, behind, inr refused) all = subst (λ (z : World). AllIn v z) (sym refused.3) all

  restart-keep : (w new : World) (i : ℕ) (y : ServerSide) → HappensServerRestart w i y new → AllIn v w → AllIn v new
  restart-keep w new i y is all life lg there = elim (At-snoc w.server_logs (log_begun y.setting) life lg (subst (λ (l : List (List Entry)). At l life lg) (ap (λ (z : World). z.server_logs) is) there)) [
    | inl old ↦ all life lg old
    | inr last ↦ subst (λ (l : List Entry). LogTitled v l) (sym last.1) (log-quiet v (log_begun y.setting) (begun-quiet y.setting))
  ]

  -- ---- every event

  leaves-keep : (w new : World) (e : Event) → Writes w → (at : CanBe w e) → Leaves w e at new
      → ((k : ℕ) (j : Joined) (y : ServerSide) → At w.circuits k j → At w.servers j.server y → j.lists.server_open ≡ true → (f : ServerEnd) → HasEnd y.core j.at_server f → (n : Next y.core j.at_server f) → (log : List Entry) → At w.server_logs y.life log → MayTell v log (entries_by k j y n.action))
      → AllIn v w → AllIn v new
  leaves-keep w new (event.Open i name priority) h at l may all = same-logs w new (open-frame w new i at.x name priority l).logs all
  leaves-keep w new (event.Clear i c) h at l may all = same-logs w new (clear-frame w new i at.x c at.h l).logs all
  leaves-keep w new (event.Read i c data_type count) h at l may all = same-logs w new (read-frame w new i at.x c at.h data_type count l).logs all
  leaves-keep w new (event.Write i c e) h at l may all = same-logs w new (write-frame w new i at.x c at.h e l).logs all
  leaves-keep w new (event.WriteNotify i c e) h at l may all = same-logs w new (put-frame w new i at.x c at.h e l).logs all
  leaves-keep w new (event.Subscribe i c data_type count mask) h at l may all = same-logs w new (subscribe-frame w new i at.x c at.h data_type count mask l).logs all
  leaves-keep w new (event.Unsubscribe i n) h at l may all = same-logs w new (unsubscribe-frame w new i at.x at.s l).logs all
  leaves-keep w new (event.Collect i r) h at l may all = same-logs w new (handing-frame w new at.x r at.q.1 (Collected r) l).logs all
  leaves-keep w new (event.GiveUp i r) h at l may all = same-logs w new (handing-frame w new at.x r at.q.1 (GaveUp r) l).logs all
  leaves-keep w new (event.ClientDatagram i from bytes) h at l may all = same-logs w new (datagram-frame w new i at.x from bytes l).logs all
  leaves-keep w new (event.ServerDatagram i from bytes) h at l may all = same-logs w new (ap (λ (z : World). z.server_logs) l.2) all
  leaves-keep w new (event.Accept i) h at l may all = elim l.leaves [
    | inl full ↦ same-logs w new (ap (λ (z : World). z.server_logs) full.1) all
    | inr made ↦ same-logs w new (ap (λ (z : World). z.server_logs) made.6) all
  ]
  leaves-keep w new (event.Up m n) h at l may all = same-logs w new (ap (λ (z : World). z.server_logs) l.2 ∙ (up-frame w m n at.0.j at.0.x at.0.joins.at).logs) all
  leaves-keep w new (event.Down m n) h at (mid, sent, core, taken, gives, is) may all = same-logs w new (ap (λ (z : World). z.server_logs) is ∙ go taken) all
    where
      go : DownTaken w m n at.0.j at.0.y mid → mid.server_logs ≡ w.server_logs
      go (inl (opened, (by, sends, same_it))) = ap (λ (z : World). z.server_logs) same_it
      go (inr (shut, same_it)) = ap (λ (z : World). z.server_logs) same_it
  leaves-keep w new (event.ServerStep m) h at l may all = step-keep w new m at.j at.y l.0 h at.joins.server (may m at.j at.y at.joins.at at.joins.server at.is_open) l.1 all
  leaves-keep w new (event.ClientStep m) h at l may all = same-logs w new (hear-frame w new m at.j at.x at.joins.at l).logs all
  leaves-keep w new (event.Pump m) h at l may all =
      (let own = log-of w at.j.server at.y h at.joins.server in
      subst (λ (z : World). AllIn v z) (sym l.leaves) (ends-keep (with_circuit m (server.stamped l.updates at.j) w) at.j.server at.y (ends_by at.j.server l.core) l.core own.0 own.1 all))
  leaves-keep w new (event.CutClient m) h at l may all = same-logs w new (cut-frame w new m at.j at.x at.joins.at l).logs all
  leaves-keep w new (event.CutServer m) h at l may all =
      (let own = log-of w at.j.server at.y h at.joins.server in
      subst (λ (z : World). AllIn v z) (sym l.leaves) (ends-keep w at.j.server at.y (ends_by at.j.server l.core) l.core own.0 own.1 all))
  leaves-keep w new (event.ClientRestart i) h at l may all = same-logs w new (begun-frame w new i at.x l).logs all
  leaves-keep w new (event.ServerRestart i) h at l may all = restart-keep w new i at.y l all
  leaves-keep w new (event.Post i name e mask) h at l may all = post-keep w new i at.y name e mask h at.at l all
  leaves-keep w new (event.Finish i name) h at l may all = finish-keep w new i at.y name h at.at l all
  leaves-keep w new (event.Remove i name) h at l may all = remove-keep w new i at.y name h at.at l all
  leaves-keep w new (event.Add i r) h at l may all = add-keep w new i at.y r h at.at l all
  leaves-keep w new (event.Tick moment) h at (mid, ticks, is) may all =
      same-logs w new (ap (λ (z : World). z.server_logs) is ∙ (ticks-frame moment w (clients_below (length w.clients)) mid ticks).logs) all

-- ---- the channel of a write that is due

-- what writes to this name serves an open channel of that name
applies-serves : (k : Knows) (m : Fields) (replies : List Fields) (name : List ℕ) (value : Elements) (busies : Bool) → Due k m replies (Applies name value busies) → (c : Serves k m.p1) × (c.channel.name ≡ name)
applies-serves k m replies name value busies due = elim (writes-only k m replies (Applies name value busies) due tt) [
  | inl is ↦ elim (due.write is) [ inl served ↦ wrote served | inr stray ↦ absurd (let x : Applies name value busies ≡ Nothing = stray.3 in cc) ]
  | inr is ↦ elim (due.put is) [ inl served ↦ put served | inr stray ↦ absurd (let x : Applies name value busies ≡ Nothing = stray.3 in cc) ]
]
  where
    wrote : WriteDue k m replies (Applies name value busies) → (c : Serves k m.p1) × (c.channel.name ≡ name)
    wrote (c, inl refused) = absurd (let x : Applies name value busies ≡ Nothing = refused.3 in cc)
    wrote (c, inr taken) = (let x : Applies name value busies ≡ Applies c.channel.name taken.0 false = taken.3 in (c, cc))

    put : PutDue k m replies (Applies name value busies) → (c : Serves k m.p1) × (c.channel.name ≡ name)
    put (c, inl refused) = absurd (let x : Applies name value busies ≡ Nothing = refused.3 in cc)
    put (c, inr taken) = go (must_wait k m c) taken.3
      where
        go : (b : Bool) → Applies name value busies ≡ cond b (action.Waits c.channel.name taken.0) (Applies c.channel.name taken.0 c.known.state.slow) → (d : Serves k m.p1) × (d.channel.name ≡ name)
        go true x = absurd cc
        go false x = (c, cc)

waits-serves : (k : Knows) (m : Fields) (replies : List Fields) (name : List ℕ) (value : Elements) → Due k m replies (action.Waits name value) → (c : Serves k m.p1) × (c.channel.name ≡ name)
waits-serves k m replies name value due = elim (writes-only k m replies (action.Waits name value) due tt) [
  | inl is ↦ elim (due.write is) [ inl served ↦ wrote served | inr stray ↦ absurd (let x : action.Waits name value ≡ Nothing = stray.3 in cc) ]
  | inr is ↦ elim (due.put is) [ inl served ↦ put served | inr stray ↦ absurd (let x : action.Waits name value ≡ Nothing = stray.3 in cc) ]
]
  where
    wrote : WriteDue k m replies (action.Waits name value) → (c : Serves k m.p1) × (c.channel.name ≡ name)
    wrote (c, inl refused) = absurd (let x : action.Waits name value ≡ Nothing = refused.3 in cc)
    wrote (c, inr taken) = absurd (let x : action.Waits name value ≡ Applies c.channel.name taken.0 false = taken.3 in cc)

    put : PutDue k m replies (action.Waits name value) → (c : Serves k m.p1) × (c.channel.name ≡ name)
    put (c, inl refused) = absurd (let x : action.Waits name value ≡ Nothing = refused.3 in cc)
    put (c, inr taken) = go (must_wait k m c) taken.3
      where
        go : (b : Bool) → action.Waits name value ≡ cond b (action.Waits c.channel.name taken.0) (Applies c.channel.name taken.0 c.known.state.slow) → (d : Serves k m.p1) × (d.channel.name ≡ name)
        go false x = absurd cc
        go true x = (c, cc)

-- a message that writes was meant to
pub write-meant : (i : Intent) (m : Fields) → Suits i m → IsWriting m → (a : ℕ) × (ask : Ask) × (i ≡ On a ask) × (ask ≡ Create → ⊥) × IsWrite i
write-meant (On a (history.Request history.Put number)) m suits writes = (a, history.Request history.Put number, refl, (λ e. cc), tt)
write-meant (On a (history.Request history.Write number)) m suits writes = (a, history.Request history.Write number, refl, (λ e. cc), tt)
write-meant (On a Create) m suits writes = absurd (elim writes [ inl is ↦ (let e : ◌≡◌ {A = ℕ} 18 4 = sym suits ∙ is in omega (arith, e)) | inr is ↦ (let e : ◌≡◌ {A = ℕ} 18 19 = sym suits ∙ is in omega (arith, e)) ])
write-meant (On a history.Clear) m suits writes = absurd (elim writes [ inl is ↦ (let e : ◌≡◌ {A = ℕ} 12 4 = sym suits ∙ is in omega (arith, e)) | inr is ↦ (let e : ◌≡◌ {A = ℕ} 12 19 = sym suits ∙ is in omega (arith, e)) ])
write-meant (On a (history.Subscribe number)) m suits writes = absurd (elim writes [ inl is ↦ (let e : ◌≡◌ {A = ℕ} 1 4 = sym suits ∙ is in omega (arith, e)) | inr is ↦ (let e : ◌≡◌ {A = ℕ} 1 19 = sym suits ∙ is in omega (arith, e)) ])
write-meant (On a (history.Cancel number)) m suits writes = absurd (elim writes [ inl is ↦ (let e : ◌≡◌ {A = ℕ} 2 4 = sym suits ∙ is in omega (arith, e)) | inr is ↦ (let e : ◌≡◌ {A = ℕ} 2 19 = sym suits ∙ is in omega (arith, e)) ])
write-meant (On a (history.Request history.Read number)) m suits writes = absurd (elim writes [ inl is ↦ (let e : ◌≡◌ {A = ℕ} 15 4 = sym suits ∙ is in omega (arith, e)) | inr is ↦ (let e : ◌≡◌ {A = ℕ} 15 19 = sym suits ∙ is in omega (arith, e)) ])
write-meant history.OfCircuit m suits writes = absurd (elim writes [ inl is ↦ suits (history.Request history.Write 0) is | inr is ↦ suits (history.Request history.Put 0) is ])

known-from : (o : Option Record) (known : KnownRecord) → option_map known_record o ≡ Some known → (cr : Record) × (o ≡ Some cr)
known-from None known is = absurd (let a : Option KnownRecord = None in let e : a ≡ Some known = is in cc)
known-from (Some cr) known is = (cr, refl)

-- ---- a message that writes, in a run

module _ (s : Setting) (es : List Event) (w : World) (ok : IsSetting s) (are : AreEvents es) (runs : Runs s es None w) (k : ℕ) (j : Joined) (y : ServerSide) (on : At w.circuits k j) (at_y : At w.servers j.server y) (opened : j.lists.server_open ≡ true)
    (e : ServerEnd) (has : HasEnd y.core j.at_server e) (n : Next y.core j.at_server e) (log : List Entry) (logged : At w.server_logs y.life log) where
  abbrev place : ℕ
  place = length j.lists.handled

  sent : (q : Sent) × At j.lists.up place q × (q.message ≡ n.m)
  sent = takes-next s w (run-serves s es None w ok runs) k j y e n.m n.rest on at_y opened has n.takes

  joins : j.lists.server ≡ y.life
  joins = (let seat = (run-serves s es None w ok runs).stands.sound.seated.each k j on opened in seat.joins ∙ ap (λ (z : ServerSide). z.life) (At-one w.servers j.server seat.y y seat.at at_y))

  facts : acts.Facts j log
  facts = run-facts s es None w ok are runs k j log on (subst (λ (l : ℕ). At w.server_logs l log) (sym joins) logged)

  lines : (x : List Line) × At w.client_logs j.lists.client x
  lines = (once-runs s es None w runs).lives k j on

  -- it is on the record of the name under which its channel was opened
  write-titled : (c : Serves (knows y.core e) n.m.p1) (name : List ℕ) → c.channel.name ≡ name → IsWriting n.m → IsTitled w k place (server.number_of name y.records) log
  write-titled c name named writes = record {
    c = j;
    on = on;
    x = lines.0;
    lines = lines.1;
    s = sent.0;
    sent = sent.1;
    channel = meant.0;
    ask = meant.1;
    meant = meant.2;
    state = g.agrees.first;
    opened = subst (λ (v : List ℕ). In lines.0 (Opened meant.0 v)) (sym (title ∙ sym named ∙ ch.7 ∙ asked_name)) (opened_as);
    added = subst (λ (v : List Entry × ℕ). In v.0 (Added v.1 g.agrees.first)) (λ i. (same i, sym number i)) g.agrees.added;
  }
    where
      meant : (a : ℕ) × (ask : Ask) × ((sent.0).intent ≡ On a ask) × (ask ≡ Create → ⊥) × IsWrite (sent.0).intent
      meant = write-meant (sent.0).intent (sent.0).message (facts.asked place sent.0 sent.1) (subst (λ (m : Fields). IsWriting m) (sym sent.2) writes)

      own : (i l : ℕ) × IsCreatedBefore j.lists meant.0 i l (sid_in (sent.0).message) place
      own = facts.says.under place meant.0 sent.0 meant.1 sent.1 meant.2 meant.3

      b : IsCreatedBefore j.lists meant.0 own.0 own.1 (sid_in (sent.0).message) place
      b = own.2

      opened_as : In lines.0 (Opened meant.0 (name_in (b.r).message))
      opened_as = (run-names s es None w runs).said k own.1 meant.0 j lines.0 b.r on lines.1 b.asked.0 b.asked.1

      ch : IsChannel (as_known j.lists) log c.channel
      ch = (run-know-channels s es None w ok runs k j y e log on at_y opened has logged).each c.channel c.open_there

      sids : sid_in (sent.0).message ≡ c.channel.sid
      sids = ap (λ (m : Fields). m.p1) sent.2 ∙ sym c.under

      made_at : ch.0 ≡ own.0
      made_at =
          let made = ch.4.0 in
          let creates : Creates (made.0).message (sid_in (sent.0).message) = (made.6.0, made.6.1 ∙ sym sids) in
          elim (three-ways own.0 ch.0) [
            | inl less ↦
                let early : ch.1 < place = taken-below place j.lists.up ch.1 made.1 made.7 in
                let about : (made.0).place ≡ ch.1 = made.4 in
                absurd (no-other j log facts meant.0 own.0 own.1 (sid_in (sent.0).message) place b ch.0 made.0 less made.3 creates (omega (arith, early, about)))
            | inr (inl same_it) ↦ sym same_it
            | inr (inr more) ↦ absurd (ch.4.1 own.0 b.t more b.told.0 ((b.told.3).0, (b.told.3).1 ∙ sids))
          ]

      asked_name : name_in (ch.3).message ≡ name_in (b.r).message
      asked_name =
          let made = ch.4.0 in
          let told_is : made.0 ≡ b.t = At-one j.lists.down own.0 made.0 b.t (subst (λ (i : ℕ). At j.lists.down i made.0) made_at made.3) b.told.0 in
          let place_is : ch.1 ≡ own.1 = sym made.4 ∙ ap (λ (t : Told). t.place) told_is ∙ b.told.1 in
          ap (λ (z : Sent). name_in z.message) (At-one j.lists.up own.1 ch.3 b.r (subst (λ (i : ℕ). At j.lists.up i ch.3) place_is (At-take place j.lists.up ch.1 ch.3 ch.5)) b.asked.0)

      life : Lives w j.server y
      life = (run-serves s es None w ok runs).stands.sound.writes.lives j.server y at_y

      cr : (r : Record) × (record_named y.core.records name ≡ Some r)
      cr = known-from (record_named y.core.records name) c.known (subst (λ (z : List ℕ). option_map known_record (record_named y.core.records z) ≡ Some c.known) named c.named)

      g : Found (IsPutOf w.circuits j.server) life.log y.core.records y.records name cr.0
      g = found (IsPutOf w.circuits j.server) life.log y.core.records y.records name cr.0 life.life.each cr.1

      same : life.log ≡ log
      same = At-one w.server_logs y.life life.log log life.at logged

      number : server.number_of name y.records ≡ g.r.number
      number = ap (λ (z : List ℕ). server.number_of z y.records) (sym g.named) ∙ number-of y.records g.i g.r life.life.others g.in_rs

      title : (g.agrees.first).name ≡ name
      title = sym (ap (λ (z : RecordState). z.name) g.agrees.state) ∙ g.agrees.name ∙ g.named

  -- what it logs
  step-may : (new : World) → WorldsOn w new → MayTell new log (entries_by k j y n.action)
  step-may new goes = go n.action n.handles.due
    where
      one : (x : Entry) (r : ℕ) → IsTitled w k place r log → IsAsWritten x
          → ((a c d : ℕ) → IsWriteTo a c d x → (k ≡ a) × (place ≡ c) × (r ≡ d)) → MayTell new log (x ∷ [])
      one x r titled plain parts a c d f (zero, there) tells =
          let is : x ≡ f = some_is x f there in
          let p = parts a c d (subst (λ (z : Entry). IsWriteTo a c d z) (sym is) tells) in (
            titled-on w new a c d log goes (subst (λ (z : ℕ × ℕ × ℕ). IsTitled w z.0 z.1 z.2 log) (λ i. (p.0 i, p.1 i, p.2 i)) titled),
            subst (λ (z : Entry). IsAsWritten z) is plain,
          )
      one x r titled plain parts a c d f (suc i, there) tells = absurd (none_at i f there)

      go : (did : Action) → Due (knows y.core e) n.m n.replies did → MayTell new log (entries_by k j y did)
      go (Applies name value busies) due =
          let c = applies-serves (knows y.core e) n.m n.replies name value busies due in
          one (Applied k place (server.number_of name y.records) (stored_now y.core value) busies) (server.number_of name y.records)
          (write-titled c.0 name c.1 (writes-only (knows y.core e) n.m n.replies (Applies name value busies) due tt)) ((y.core).stamp, refl) (λ a b d tells. tells)
      go (action.Waits name value) due =
          let c = waits-serves (knows y.core e) n.m n.replies name value due in
          one (Waits k place (server.number_of name y.records) (stored_now y.core value)) (server.number_of name y.records)
          (write-titled c.0 name c.1 (writes-only (knows y.core e) n.m n.replies (action.Waits name value) due tt)) ((y.core).stamp, refl) (λ a b d tells. tells)
      go (action.Clears sid) due =
          quiet-may new log (entries_by k j y (action.Clears sid))
          (withdrawn-quiet (flat_map (λ (ps : List PutPlace). ps) (server.with_core (λ (c : Record) (r : RecordSide). server.places_where (server.is_of_channel j.at_server sid) c.waiting r.waiting) y.core.records y.records)))
      go action.Nothing due = quiet-may new log [] none-quiet
      go action.Greets due = quiet-may new log [] none-quiet
      go (action.Names x) due = quiet-may new log [] none-quiet
      go (action.Opens x) due = quiet-may new log [] none-quiet
      go (action.Adds x) due = quiet-may new log [] none-quiet
      go (action.Drops x) due = quiet-may new log [] none-quiet
      go (action.Switches x) due = quiet-may new log [] none-quiet

-- ---- every run

all-on : (w new : World) → WorldsOn w new → AllTitled w → AllIn new w
all-on w new on all life y at n k r e there writes =
    (let z = all life y at n k r e there writes in (titled-on w new n k r y on z.0, z.1))

after-titled : (s : Setting) (es rest : List Event) (w new : World) → IsSetting s → AreEvents es → AreEvents rest → FoldsTo Happens (opening s) es w → FoldsTo Happens w rest new → AllTitled w → AllTitled new
after-titled s es [] w new ok are more folds same all = subst (λ (v : World). AllTitled v) same all
after-titled s es (e ∷ rest) w new ok are more folds (mid, one, others) all =
    let longer : AreEvents (es ++ e ∷ []) = are-snoc es e are (more 0 e refl) in
    let runs : Runs s es None w = (w, folds, refl) in
    let then_so : FoldsTo Happens (opening s) (es ++ e ∷ []) mid = folds-snoc es (opening s) w mid e folds one in
    let on : WorldsOn w mid = event-on w mid e one in
    after-titled s (es ++ e ∷ []) rest mid new ok longer (λ i f at. more (suc i) f at) then_so others
    (leaves-keep mid w mid e (run-serves s es None w ok runs).stands.sound.writes one.0 one.1
    (λ k j y at_j at_y opened f has n log logged. step-may s es w ok are runs k j y at_j at_y opened f has n log logged mid on) (all-on w mid on all))

pub run-titled : (s : Setting) (es : List Event) (stopped : Option Event) (w : World) → IsSetting s → AreEvents es → Runs s es stopped w → AllTitled w
run-titled s es stopped w ok are (mid, folds, stops) = stop stopped stops
  where
    begun : AllTitled (opening s)
    begun life y at =
        let z = At-mapped log_begun s.servers life y at in
        subst (λ (l : List Entry). LogTitled (opening s) l) (sym z.2) (log-quiet (opening s) (log_begun z.0) (begun-quiet z.0))

    all : AllTitled mid
    all = after-titled s [] es (opening s) mid ok (λ i e at. absurd (none_at i e at)) are refl folds begun

    stop : (stopped : Option Event) → StopsAt mid stopped w → AllTitled w
    stop (Some (event.Tick moment)) stops = elim stops [
      | inl same ↦ subst (λ (v : World). AllTitled v) (sym same) all
      | inr ticked ↦
          same-logs w mid w (ticks-frame moment mid (clients_below ticked.0) w ticked.3).logs
          (all-on mid w (on-grown mid w (ticks-grown moment mid (clients_below ticked.0) w ticked.3)) all)
    ]
    stop stopped stops = subst (λ (v : World). AllTitled v) (sym stops) all
