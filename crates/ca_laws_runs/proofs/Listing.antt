-- Each record that the log of a server's life added, and did not remove, is
-- there, over every event.
use Rattle.std.proofs.Common.{◌≡◌, ℕ, zero, suc, ◌+◌, ◌<◌, ◌⊎◌, inl, inr, Bool, not, List, [], ◌∷◌, ◌++◌, length, Option, Some, None, refl, sym, ap, subst, ◌∙◌, arith}
use Rattle.std.specs.Prelude.{drop, filter, map, option_map, slice_get, slice_set, take, unwrap_or}
use Rattle.std.specs.List.{flat_map}
use Rattle.std.specs.Str.{bytes_eq}
use Rattle.ca_arena.specs.declared.handle.Handle.{Handle}
use Rattle.ca_dbr.specs.Elements.{Elements}
use Rattle.ca_records.specs.Puts.{WaitingPut}
use Rattle.ca_records.specs.Record.{RecordState, unset}
use Rattle.ca_text.specs.Place.{At}
use Rattle.ca_text.proofs.Places.{some_is, At-append, At-map, At-mapped, At-one, At-parts, At-set, At-snoc, At-within}
use Rattle.ca_wire.specs.Fields.{Fields}
use Rattle.ca_model.specs.Due.{Action, Applies}
use Rattle.ca_model.specs.Due as action
use Rattle.ca_model.specs.Ends as why
use Rattle.ca_model.specs.History.{Added, Applied, Collected, Entry, GaveUp, Removed, Withdrawn}
use Rattle.ca_model.specs.Server.{Server}
use Rattle.ca_model.specs.ServerSteps.{Stepped, closed, is_write, stored_now}
use Rattle.ca_model.specs.ServerSteps as stepped
use Rattle.ca_model.specs.Speech.{In}
use Rattle.ca_model.specs.ClientEvents.{DownTaken, up_taken}
use Rattle.ca_model.specs.Events.{Event}
use Rattle.ca_model.specs.Events as event
use Rattle.ca_model.specs.Runs.{CanBe, Happens, Leaves, clients_below}
use Rattle.ca_model.specs.ServerEvents.{HappensAdd, HappensFinish, HappensPost, HappensRemove, HappensServerRestart, ServerStepped, acted, ends_at, ends_by, ends_here, finish_entry, first_of, handled_at, logged_by, next_busy, next_entries, noted, posted_entry, records_after, removal_entries, replied_at, server_after, side_of, unsaid, withdrawals, without_puts}
use Rattle.ca_model.specs.ServerEvents as server
use Rattle.ca_model.specs.World.{Joined, PutPlace, RecordSide, ServerSide, ServerSetting, Setting, World, grown, log_begun, numbered, opening, record_begun, server_begun, with_circuit, with_entries, with_server}
use Rattle.ca_laws_parts.specs.Agrees.{Agrees}
use Rattle.ca_laws_parts.specs.Both.{Both}
use Rattle.ca_laws_parts.specs.Lives.{IsPutOf}
use Rattle.ca_laws_parts.specs.Moves.{Writes, finish_told, post_told, removal_told}
use Rattle.ca_laws_parts.proofs.WritesEvents.{numbered-at}
use Rattle.ca_laws_parts.proofs.Every.{ticks-frame}
use Rattle.ca_laws_parts.proofs.Frames.{Frame}
use Rattle.ca_laws_parts.proofs.HappensClient.{begun-frame, clear-frame, cut-frame, datagram-frame, handing-frame, hear-frame, open-frame, put-frame, read-frame, subscribe-frame, unsubscribe-frame, up-frame, write-frame}
use Rattle.ca_laws_parts.proofs.LastingStep.{told-servers}
use Rattle.ca_laws_parts.proofs.WritesLists.{kept-in, none_at}
use Rattle.ca_laws_parts.proofs.Midway.{grown-here, set-here}
use Rattle.ca_laws_runs.specs.Entries.{AreQuiet, title, titles}
use Rattle.ca_laws_runs.proofs.PostFollowing.{in-more, other-bytes, titled}
use Rattle.ca_laws_runs.proofs.Logged.{titles-kept, withdrawn-quiet}
use Rattle.ca_laws_runs.proofs.LoggedStep.{logs-quiet, told-logs, with-record-titles, write-titles}
use Rattle.ca_laws_runs.specs.Listed.{AllListed, IsListed}
use Rattle.ca_laws_runs.proofs.Known.{removed-in}

-- ---- entries that add no record

abbrev AddsNone : List Entry → Type 0
AddsNone es = (r : ℕ) (s : RecordState) → In es (Added r s) → ⊥

quiet-none : (es : List Entry) → AreQuiet es → AddsNone es
quiet-none es quiet r s there = quiet (Added r s) there

one-none : (e : Entry) → ((r : ℕ) (s : RecordState) → e ≡ Added r s → ⊥) → AddsNone (e ∷ [])
one-none e other r s (zero, at) = other r s (some_is e (Added r s) at)
one-none e other r s (suc k, at) = none_at k (Added r s) at

both-none : (xs ys : List Entry) → AddsNone xs → AddsNone ys → AddsNone (xs ++ ys)
both-none xs ys f g r s there = elim (At-parts xs ys there.0 (Added r s) there.1) [
  | inl old ↦ f r s (there.0, old)
  | inr new ↦ g r s (new.0, new.2)
]

listed-more : (log more : List Entry) (rs rt : List RecordSide) → AddsNone more → titles rt ≡ titles rs → IsListed log rs → IsListed (log ++ more) rt
listed-more log more rs rt none same_all listed r s there stays =
    subst (λ (l : List (List ℕ × ℕ)). In l (s.name, r)) (sym same_all)
    (elim (At-parts log more there.0 (Added r s) there.1) [
      | inl old ↦ listed r s (there.0, old) (λ gone. stays (gone.0, At-append log more gone.0 (Removed r) gone.1))
      | inr new ↦ absurd (none r s (new.0, new.2))
    ])

-- ---- parts of a world

-- a log has entries more
grown-or : (logs : List (List Entry)) (life : ℕ) (more : List Entry) (l : ℕ) (z : List Entry) → At (grown life more logs) l z → At logs l z ⊎ ((l ≡ life) × ((log : List Entry) → At logs life log → z ≡ log ++ more))
grown-or logs life more l z at = elim (At-set logs life (unwrap_or (slice_get logs life) [] ++ more) l z at) [
  | inl own ↦ inr (own.0, λ log there. own.1 ∙ ap (λ (o : Option (List Entry)). unwrap_or o [] ++ more) there)
  | inr old ↦ inl old.0
]

-- entries that add none are told
listed-told : (w : World) (life : ℕ) (more log : List Entry) → At w.server_logs life log → AddsNone more → AllListed w → AllListed (with_entries life more w)
listed-told w life more log there none all i y lg at logged = elim (grown-or w.server_logs life more y.life lg logged) [
  | inl old ↦ all i y lg at old
  | inr own ↦
      subst (λ (l : List Entry). IsListed l y.records) (sym (own.1 log there))
      (listed-more log more y.records y.records none refl (all i y log at (subst (λ (l : ℕ). At w.server_logs l log) (sym own.0) there)))
]

-- a server has the same records
listed-side : (w : World) (i : ℕ) (y next : ServerSide) → At w.servers i y → next.life ≡ y.life → titles next.records ≡ titles y.records → AllListed w → AllListed (with_server i next w)
listed-side w i y next at life same_all all j z lg there logged = elim (At-set w.servers i next j z there) [
  | inl own ↦
      subst (λ (x : ServerSide). IsListed lg x.records) (sym own.1)
      (λ r s in_it stays. subst (λ (l : List (List ℕ × ℕ)). In l (s.name, r)) (sym same_all)
      (all i y lg at (subst (λ (l : ℕ). At w.server_logs l lg) (ap (λ (x : ServerSide). x.life) own.1 ∙ life) logged) r s in_it stays))
  | inr old ↦ all j z lg old.0 logged
]

listed-same : (w new : World) → new.servers ≡ w.servers → new.server_logs ≡ w.server_logs → AllListed w → AllListed new
listed-same w new servers logs all i y lg at logged =
    all i y lg (subst (λ (l : List ServerSide). At l i y) servers at) (subst (λ (l : List (List Entry)). At l y.life lg) logs logged)

-- circuits of a server end
listed-after : (w : World) (i : ℕ) (y : ServerSide) (ends : Joined → Option (List ℕ)) (core : Server) (log : List Entry) → At w.servers i y → At w.server_logs y.life log → AllListed w → AllListed (server_after i y ends core w)
listed-after w i y ends core log at there all =
    let next : ServerSide = record y { core = server.reported core; records = map (without_puts (ends_at ends w.circuits)) y.records } in
    let mid : World = with_server i next (record w { circuits = map (server.ending ends) w.circuits }) in
    listed-told mid y.life (withdrawals (ends_at ends w.circuits) y.records) log there
    (quiet-none (withdrawals (ends_at ends w.circuits) y.records) (withdrawn-quiet (flat_map (λ (r : RecordSide). filter (λ (p : PutPlace). ends_at ends w.circuits p.circuit) r.waiting) y.records)))
    (listed-side w i y next at refl (titles-kept (without_puts (ends_at ends w.circuits)) (λ r. refl) y.records) all)

-- ---- a step of a server's end

log-of : (w : World) (i : ℕ) (y : ServerSide) → Writes w → At w.servers i y → (log : List Entry) × At w.server_logs y.life log
log-of w i y h at = ((h.lives i y at).log, (h.lives i y at).at)

-- what a message does to the records and to the log
acted-plain : (w : World) (i : ℕ) (y : ServerSide) (h : Writes w) → At w.servers i y → (g : Handle) (p : PutPlace) (did : Action) → AddsNone (logged_by y.core g p did y.records) × (titles (records_after y.core g p did y.records) ≡ titles y.records)
acted-plain w i y h at g p did = go did (is_write did) refl
  where
    each : Both (Agrees (IsPutOf w.circuits i) (h.lives i y at).log) y.core.records y.records
    each = (h.lives i y at).life.each

    go : (did : Action) (b : Bool) → is_write did ≡ b → AddsNone (logged_by y.core g p did y.records) × (titles (records_after y.core g p did y.records) ≡ titles y.records)
    go (Applies name value busies) b is = (one-none (Applied p.circuit p.place (server.number_of name y.records) (stored_now y.core value) busies) (λ r s e. cc), write-titles y.core g p name value busies y.records)
    go (action.Waits name value) b is = (let q = logs-quiet (Agrees (IsPutOf w.circuits i) (h.lives i y at).log) y.core g p (action.Waits name value) y.records each refl in (quiet-none (logged_by y.core g p (action.Waits name value) y.records) q.0, q.1))
    go (action.Clears sid) b is = (let q = logs-quiet (Agrees (IsPutOf w.circuits i) (h.lives i y at).log) y.core g p (action.Clears sid) y.records each refl in (quiet-none (logged_by y.core g p (action.Clears sid) y.records) q.0, q.1))
    go action.Nothing b is = (λ r s there. none_at there.0 (Added r s) there.1, refl)
    go action.Greets b is = (λ r s there. none_at there.0 (Added r s) there.1, refl)
    go (action.Names x) b is = (λ r s there. none_at there.0 (Added r s) there.1, refl)
    go (action.Opens x) b is = (λ r s there. none_at there.0 (Added r s) there.1, refl)
    go (action.Adds x) b is = (λ r s there. none_at there.0 (Added r s) there.1, refl)
    go (action.Drops x) b is = (λ r s there. none_at there.0 (Added r s) there.1, refl)
    go (action.Switches x) b is = (λ r s there. none_at there.0 (Added r s) there.1, refl)

-- the message is handled, and then circuits end
listed-acted : (w : World) (k : ℕ) (j : Joined) (y : ServerSide) (did : Action) (ends : Joined → Option (List ℕ)) (core : Server) → Writes w → At w.servers j.server y → AllListed w
    → AllListed (server_after j.server (side_of j.server y (acted k j y did w)) ends core (acted k j y did w))
listed-acted w k j y did ends core h at all =
    subst (λ (z : ServerSide). AllListed (server_after j.server z ends core mid)) (sym side_is)
    (listed-after mid j.server side ends core (own.0 ++ more) (set-here w.servers j.server y side at) (grown-here w.server_logs y.life own.0 more own.1)
    (listed-told (with_server j.server side w) y.life more own.0 own.1 plain.0 (listed-side w j.server y side at refl plain.1 all)))
  where
    p : PutPlace
    p = record { circuit = k; place = length j.lists.handled }

    more : List Entry
    more = logged_by y.core j.at_server p did y.records

    side : ServerSide
    side = record y { records = records_after y.core j.at_server p did y.records }

    mid : World
    mid = acted k j y did w

    own : (log : List Entry) × At w.server_logs y.life log
    own = log-of w j.server y h at

    plain : AddsNone more × (titles side.records ≡ titles y.records)
    plain = acted-plain w j.server y h at j.at_server p did

    side_is : side_of j.server y mid ≡ side
    side_is = ap (λ (o : Option ServerSide). unwrap_or o y) (set-here w.servers j.server y side at)

listed-noted : (w after : World) (k : ℕ) (j : Joined) (y : ServerSide) (replies : List Fields) → AllListed after → AllListed (noted k j y replies w after)
listed-noted w after k j y replies all = go (slice_get after.circuits k)
  where
    go : (o : Option Joined) → AllListed (unwrap_or (option_map (λ (c : Joined). with_circuit k (handled_at (length j.lists.handled) (record { sent = length j.lists.down; logged = server.logged y w; after = server.logged y after }) replies c) after) o) after)
    go None = all
    go (Some c) = all

step-listed : (w new : World) (k : ℕ) (j : Joined) (y : ServerSide) (did : Stepped) → Writes w → At w.servers j.server y → ServerStepped w k j y did new → AllListed w → AllListed new
step-listed w new k j y stepped.Handled h at f all =
    subst (λ (z : World). AllListed z) (sym f.leaves) (listed-noted w _ k j y (f.steps.0).replies (listed-acted w k j y (f.steps.0).action (ends_by j.server f.core) f.core h at all))
step-listed w new k j y stepped.NeedBytes h at f all = subst (λ (z : World). AllListed z) (sym f.3) all
step-listed w new k j y stepped.OutputFull h at f all = subst (λ (z : World). AllListed z) (sym f.3) all
step-listed w new k j y (stepped.Closed why.OutOfMemory left) h at f all = subst (λ (z : World). AllListed z) (sym f.leaves) (go f.lacks.written)
  where
    did : Action
    did = f.lacks.next.action

    go : (o : Option (Handle → Bool)) → AllListed (server_after j.server (side_of j.server y (unsaid k j y did o w)) (ends_here j left j.server f.core) f.core (unsaid k j y did o w))
    go None =
        subst (λ (z : ServerSide). AllListed (server_after j.server z (ends_here j left j.server f.core) f.core w)) (sym (ap (λ (o : Option ServerSide). unwrap_or o y) at))
        (let own = log-of w j.server y h at in listed-after w j.server y (ends_here j left j.server f.core) f.core own.0 at own.1 all)
    go (Some gone) = listed-acted w k j y did (ends_here j left j.server f.core) f.core h at all
step-listed w new k j y (stepped.Closed cause left) h at f all =
    let own = log-of w j.server y h at in
    subst (λ (z : World). AllListed z) (sym f.3) (listed-after w j.server y (ends_here j left j.server y.core) (closed j.at_server y.core) own.0 at own.1 all)

-- ---- a post, a finish

post-listed : (w new : World) (i : ℕ) (y : ServerSide) (name : List ℕ) (e : Elements) (mask : ℕ) → Writes w → At w.servers i y → HappensPost w i y name e mask new → AllListed w → AllListed new
post-listed w new i y name e mask h at (gone, core, inl (posts, is)) all =
    let own = log-of w i y h at in
    let more : List Entry = posted_entry y name (record { value = e; meta = unset }) mask in
    subst (λ (z : World). AllListed z) (sym is)
    (listed-after (post_told w i y name (record { value = e; meta = unset }) mask) i y (ends_by i core) core (own.0 ++ more) at (grown-here w.server_logs y.life own.0 more own.1)
    (listed-told w y.life more own.0 own.1 (one-none _ (λ r s e. cc)) all))
post-listed w new i y name e mask h at (gone, core, inr refused) all = subst (λ (z : World). AllListed z) (sym refused.3) all

finish-listed : (w new : World) (i : ℕ) (y : ServerSide) (name : List ℕ) → Writes w → At w.servers i y → HappensFinish w i y name new → AllListed w → AllListed new
finish-listed w new i y name h at (inl f) all =
    subst (λ (z : World). AllListed z) (sym f.leaves)
    (listed-after (replied_at f.p f.sent told) i side (ends_by i f.core) f.core (own.0 ++ more)
    (subst (λ (l : List ServerSide). At l i side) (sym (told-servers f.p f.sent told)) (set-here w.servers i y side at))
    (subst (λ (l : List (List Entry)). At l y.life (own.0 ++ more)) (sym (told-logs f.p f.sent told)) (grown-here w.server_logs y.life own.0 more own.1))
    (listed-same told (replied_at f.p f.sent told) (told-servers f.p f.sent told) (told-logs f.p f.sent told)
    (listed-told (with_server i side w) y.life more own.0 own.1 (both-none (finish_entry f.p ∷ []) (next_entries y f.r (first_of f.cr.waiting) (first_of f.r.waiting)) (one-none _ (λ r s e. cc)) (next-none (first_of f.cr.waiting) (first_of f.r.waiting)))
    (listed-side w i y side at refl (with-record-titles name next_busy (λ r. refl) y.records) all))))
  where
    own : (log : List Entry) × At w.server_logs y.life log
    own = log-of w i y h at

    more : List Entry
    more = finish_entry f.p ∷ next_entries y f.r (first_of f.cr.waiting) (first_of f.r.waiting)

    side : ServerSide
    side = record y { records = server.with_record name next_busy y.records }

    told : World
    told = finish_told w i y name f.cr f.r f.p

    next-none : (a : Option WaitingPut) (b : Option PutPlace) → AddsNone (next_entries y f.r a b)
    next-none None b r s there = none_at there.0 (Added r s) there.1
    next-none (Some v) None r s there = none_at there.0 (Added r s) there.1
    next-none (Some v) (Some q) r s there = one-none _ (λ n t e. cc) r s there
finish-listed w new i y name h at (inr refused) all = subst (λ (z : World). AllListed z) (sym refused.2) all

-- ---- records come and go

-- one server's records and log change
listed-one : (w : World) (i : ℕ) (y next : ServerSide) (more log : List Entry) → Writes w → At w.servers i y → At w.server_logs y.life log → next.life ≡ y.life → (IsListed log y.records → IsListed (log ++ more) next.records) → AllListed w
    → AllListed (with_entries y.life more (with_server i next w))
listed-one w i y next more log h at there life law all j z lg on logged = elim (At-set w.servers i next j z on) [
  | inl own ↦
      let mine : z.life ≡ y.life = ap (λ (x : ServerSide). x.life) own.1 ∙ life in
      let one : lg ≡ log ++ more = At-one (grown y.life more w.server_logs) y.life lg (log ++ more) (subst (λ (l : ℕ). At (grown y.life more w.server_logs) l lg) mine logged) (grown-here w.server_logs y.life log more there) in
      subst (λ (v : List Entry × ServerSide). IsListed v.0 v.1.records) (λ i. (sym one i, sym own.1 i)) (law (all i y log at there))
  | inr old ↦ elim (grown-or w.server_logs y.life more z.life lg logged) [
    | inl was ↦ all j z lg old.0 was
    | inr mine ↦ absurd (old.1 (h.apart j i z y old.0 at mine.0))
  ]
]

removal-none : (name : List ℕ) (rs : List RecordSide) → AddsNone (removal_entries name rs)
removal-none name rs r s there = all (filter (λ (x : RecordSide). bytes_eq x.name name) rs) there
  where
    entries : RecordSide → List Entry
    entries x = Removed x.number ∷ map (λ (p : PutPlace). Withdrawn p.circuit p.place) x.waiting

    own : (x : RecordSide) → AddsNone (entries x)
    own x = both-none (Removed x.number ∷ []) (map (λ (p : PutPlace). Withdrawn p.circuit p.place) x.waiting) (one-none _ (λ n t e. cc)) (quiet-none (map (λ (p : PutPlace). Withdrawn p.circuit p.place) x.waiting) (withdrawn-quiet x.waiting))

    all : (xs : List RecordSide) → In (flat_map entries xs) (Added r s) → ⊥
    all [] at = none_at at.0 (Added r s) at.1
    all (x ∷ xs) at = elim (At-parts (entries x) (flat_map entries xs) at.0 (Added r s) at.1) [
      | inl old ↦ own x r s (at.0, old)
      | inr new ↦ all xs (new.0, new.2)
    ]

removed-law : (log : List Entry) (name : List ℕ) (rs : List RecordSide) → IsListed log rs → IsListed (log ++ removal_entries name rs) (filter (λ (r : RecordSide). not (bytes_eq r.name name)) rs)
removed-law log name rs listed r s there stays = elim (At-parts log (removal_entries name rs) there.0 (Added r s) there.1) [
  | inr new ↦ absurd (removal-none name rs r s (new.0, new.2))
  | inl old ↦
      let x = titled rs (s.name, r) (listed r s (there.0, old) (λ gone. stays (gone.0, At-append log (removal_entries name rs) gone.0 (Removed r) gone.1))) in
      let kept = kept-in (λ (z : RecordSide). not (bytes_eq z.name name)) rs x.0 x.1 (ap (λ (b : Bool). not b) (other-bytes x.0.name name (λ is.
      (let gone = removed-in name rs x.0 x.1 is in
      let number : x.0.number ≡ r = ap (λ (t : List ℕ × ℕ). t.1) (sym x.2) in
      stays (subst (λ (n : ℕ). In (log ++ removal_entries name rs) (Removed n)) number (in-after log (removal_entries name rs) (Removed x.0.number) gone)))))) in
      (kept.0, At-map title (filter (λ (z : RecordSide). not (bytes_eq z.name name)) rs) kept.0 x.0 kept.1 ∙ ap (λ (t : List ℕ × ℕ). Some t) (sym x.2))
]
  where
    in-after : (xs ys : List Entry) (e : Entry) → In ys e → In (xs ++ ys) e
    in-after [] ys e at = at
    in-after (x ∷ xs) ys e at = (let r = in-after xs ys e at in (suc r.0, r.1))

remove-listed : (w new : World) (i : ℕ) (y : ServerSide) (name : List ℕ) → Writes w → At w.servers i y → HappensRemove w i y name new → AllListed w → AllListed new
remove-listed w new i y name h at (gone, left, core, inl (removes, is)) all =
    let own = log-of w i y h at in
    let side : ServerSide = record y { records = filter (λ (r : RecordSide). not (bytes_eq r.name name)) y.records } in
    let more : List Entry = removal_entries name y.records in
    subst (λ (z : World). AllListed z) (sym is)
    (listed-after (removal_told w i y name gone left) i side (ends_by i core) core (own.0 ++ more) (set-here w.servers i y side at) (grown-here w.server_logs y.life own.0 more own.1)
    (listed-one w i y side more own.0 h at own.1 refl (removed-law own.0 name y.records) all))
remove-listed w new i y name h at (gone, left, core, inr (removes, is)) all = subst (λ (z : World). AllListed z) (sym is) all

added-title : (r number : ℕ) (t s : RecordState) → Added r t ≡ Added number s → let a : List ℕ × ℕ = (s.name, number) in let b : List ℕ × ℕ = (t.name, r) in a ≡ b
added-title r number t s is = ap parts (sym is)
  where
    parts : Entry → List ℕ × ℕ
    parts (Added n q) = (q.name, n)
    parts e = ([], 0)

added-law : (log : List Entry) (rs : List RecordSide) (number behind : ℕ) (s : RecordState) → IsListed log rs → IsListed (log ++ Added number s ∷ []) (take behind rs ++ record_begun number s ∷ drop behind rs)
added-law log rs number behind s listed r t there stays = elim (At-snoc log (Added number s) there.0 (Added r t) there.1) [
  | inl old ↦
      let x = titled rs (t.name, r) (listed r t (there.0, old) (λ gone. stays (gone.0, At-append log (Added number s ∷ []) gone.0 (Removed r) gone.1))) in
      let in_it = in-more behind (record_begun number s) rs x.0 x.1 in
      (in_it.0, subst (λ (v : List ℕ × ℕ). At (titles rt) in_it.0 v) (sym x.2) (At-map title rt in_it.0 x.0 in_it.1))
  | inr new ↦
      let here = put-in behind rs in
      (here.0, subst (λ (v : List ℕ × ℕ). At (titles rt) here.0 v) (added-title r number t s new.1) (At-map title rt here.0 (record_begun number s) here.1))
]
  where
    rt : List RecordSide
    rt = take behind rs ++ record_begun number s ∷ drop behind rs

    put-in : (n : ℕ) (xs : List RecordSide) → In (take n xs ++ record_begun number s ∷ drop n xs) (record_begun number s)
    put-in zero xs = (0, refl)
    put-in (suc n) [] = (0, refl)
    put-in (suc n) (x ∷ xs) = (let q = put-in n xs in (suc q.0, q.1))

add-listed : (w new : World) (i : ℕ) (y : ServerSide) (r : RecordState) → Writes w → At w.servers i y → HappensAdd w i y r new → AllListed w → AllListed new
add-listed w new i y r h at (core, behind, inl (adds, is)) all =
    let own = log-of w i y h at in
    let side : ServerSide = record y { core = core; records = take behind y.records ++ record_begun y.added r ∷ drop behind y.records; added = y.added + 1 } in
    subst (λ (z : World). AllListed z) (sym is) (listed-one w i y side (Added y.added r ∷ []) own.0 h at own.1 refl (added-law own.0 y.records y.added behind r) all)
add-listed w new i y r h at (core, behind, inr refused) all = subst (λ (z : World). AllListed z) (sym refused.3) all

-- ---- a life begins

at-numbered : {A B : Type 0} (f : ℕ → A → B) (xs : List A) (n i : ℕ) (x : A) → At xs i x → At (numbered n f xs) i (f (n + i) x)
at-numbered f [] n i x at = absurd (none_at i x at)
at-numbered f (z ∷ xs) n zero x at = ap (λ (v : _). Some (f n v)) (some_is z x at) ∙ (let e : n ≡ n + 0 = omega arith in ap (λ (m : ℕ). Some (f m x)) e)
at-numbered f (z ∷ xs) n (suc i) x at = at-numbered f xs (n + 1) i x at ∙ (let e : n + 1 + i ≡ n + suc i = omega arith in ap (λ (m : ℕ). Some (f m x)) e)

begun-listed : (s : ServerSetting) → IsListed (log_begun s) (numbered 0 record_begun s.records)
begun-listed s r t there stays =
    let x = numbered-at Added s.records 0 there.0 (Added r t) there.1 in
    let here = at-numbered record_begun s.records 0 there.0 x.0 x.1 in
    (there.0, At-map title (numbered 0 record_begun s.records) there.0 (record_begun (0 + there.0) x.0) here ∙ ap (λ (e : Entry). Some (parts e)) (sym x.2))
  where
    parts : Entry → List ℕ × ℕ
    parts (Added n q) = (q.name, n)
    parts e = ([], 0)

restart-listed : (w new : World) (i : ℕ) (y : ServerSide) → Writes w → HappensServerRestart w i y new → AllListed w → AllListed new
restart-listed w new i y h is all =
    subst (λ (z : World). AllListed z) (sym is)
    (λ j z lg on logged. elim (At-set w.servers i next j z on) [
      | inl own ↦ elim (At-snoc w.server_logs (log_begun y.setting) z.life lg logged) [
        | inl old ↦ absurd (let lt : z.life < length w.server_logs = At-within w.server_logs z.life lg old in let e : z.life ≡ length w.server_logs = ap (λ (x : ServerSide). x.life) own.1 in omega (arith, lt, e))
        | inr new_log ↦ subst (λ (v : List Entry × ServerSide). IsListed v.0 v.1.records) (λ i. (sym new_log.1 i, sym own.1 i)) (begun-listed y.setting)
      ]
      | inr old ↦ elim (At-snoc w.server_logs (log_begun y.setting) z.life lg logged) [
        | inl was ↦ all j z lg old.0 was
        | inr new_log ↦ absurd (let l = log-of w j z h old.0 in let lt : z.life < length w.server_logs = At-within w.server_logs z.life l.0 l.1 in let e : z.life ≡ length w.server_logs = new_log.0 in omega (arith, lt, e))
      ]
    ])
  where
    next : ServerSide
    next = server_begun w.moment (length w.server_logs) y.setting

pub opening-listed : (s : Setting) → AllListed (opening s)
opening-listed s i y log at logged =
    let x = numbered-at (server_begun 0) s.servers 0 i y at in
    let z = At-mapped log_begun s.servers y.life log logged in
    let life : y.life ≡ i = ap (λ (v : ServerSide). v.life) x.2 ∙ (let e : 0 + i ≡ i = omega arith in e) in
    let same_setting : z.0 ≡ x.0 = At-one s.servers i z.0 x.0 (subst (λ (n : ℕ). At s.servers n z.0) life z.1) x.1 in
    subst (λ (v : List Entry × ServerSide). IsListed v.0 v.1.records) (λ i. ((sym (z.2 ∙ ap log_begun same_setting)) i, sym x.2 i)) (begun-listed x.0)

-- ---- every event

listed-core : (w new : World) (i : ℕ) (y : ServerSide) (core : Server) → At w.servers i y → new.servers ≡ slice_set w.servers i (record y { core = core }) → new.server_logs ≡ w.server_logs → AllListed w → AllListed new
listed-core w new i y core at servers logs all = listed-same (with_server i (record y { core = core }) w) new servers logs (listed-side w i y (record y { core = core }) at refl refl all)

pub frame-listed : (w new : World) → Frame w new → AllListed w → AllListed new
frame-listed w new f all = listed-same w new f.servers f.logs all

-- a server's core goes on in this world
core-side : (w mid new : World) (i : ℕ) (y : ServerSide) (core : Server) → At w.servers i y → mid.servers ≡ w.servers → mid.server_logs ≡ w.server_logs → new.servers ≡ slice_set mid.servers i (record y { core = core }) → new.server_logs ≡ mid.server_logs → AllListed w → AllListed new
core-side w mid new i y core at servers logs set same_logs all =
    listed-core mid new i y core (subst (λ (l : List ServerSide). At l i y) (sym servers) at) set same_logs (listed-same w mid servers logs all)

leaves-listed : (w new : World) (e : Event) → Writes w → (at : CanBe w e) → Leaves w e at new → AllListed w → AllListed new
leaves-listed w new (event.Open i name priority) h at l all = frame-listed w new (open-frame w new i at.x name priority l) all
leaves-listed w new (event.Clear i c) h at l all = frame-listed w new (clear-frame w new i at.x c at.h l) all
leaves-listed w new (event.Read i c data_type count) h at l all = frame-listed w new (read-frame w new i at.x c at.h data_type count l) all
leaves-listed w new (event.Write i c e) h at l all = frame-listed w new (write-frame w new i at.x c at.h e l) all
leaves-listed w new (event.WriteNotify i c e) h at l all = frame-listed w new (put-frame w new i at.x c at.h e l) all
leaves-listed w new (event.Subscribe i c data_type count mask) h at l all = frame-listed w new (subscribe-frame w new i at.x c at.h data_type count mask l) all
leaves-listed w new (event.Unsubscribe i n) h at l all = frame-listed w new (unsubscribe-frame w new i at.x at.s l) all
leaves-listed w new (event.Collect i r) h at l all = frame-listed w new (handing-frame w new at.x r at.q.1 (Collected r) l) all
leaves-listed w new (event.GiveUp i r) h at l all = frame-listed w new (handing-frame w new at.x r at.q.1 (GaveUp r) l) all
leaves-listed w new (event.ClientDatagram i from bytes) h at l all = frame-listed w new (datagram-frame w new i at.x from bytes l) all
leaves-listed w new (event.ServerDatagram i from bytes) h at l all = subst (λ (z : World). AllListed z) (sym l.2) all
leaves-listed w new (event.Accept i) h at l all = elim l.leaves [
  | inl full ↦ subst (λ (z : World). AllListed z) (sym full.1) all
  | inr made ↦ listed-core w new at.v.i at.v.y l.server at.v.there.0 (ap (λ (z : World). z.servers) made.6) (ap (λ (z : World). z.server_logs) made.6) all
]
leaves-listed w new (event.Up m n) h at l all =
    (let f = up-frame w m n at.0.j at.0.x at.0.joins.at in
    core-side w (up_taken m n at.0.j at.0.x w) new at.0.j.server at.0.y l.0 at.0.joins.server f.servers f.logs (ap (λ (z : World). z.servers) l.2) (ap (λ (z : World). z.server_logs) l.2) all)
leaves-listed w new (event.Down m n) h at (mid, sent, core, taken, gives, is) all =
    listed-same mid new (ap (λ (z : World). z.servers) is) (ap (λ (z : World). z.server_logs) is) (go taken)
  where
    go : DownTaken w m n at.0.j at.0.y mid → AllListed mid
    go (inl (opened, (by, sends, same_it))) = listed-core w mid at.0.j.server at.0.y by at.0.joins.server (ap (λ (z : World). z.servers) same_it) (ap (λ (z : World). z.server_logs) same_it) all
    go (inr (shut, same_it)) = listed-same w mid (ap (λ (z : World). z.servers) same_it) (ap (λ (z : World). z.server_logs) same_it) all
leaves-listed w new (event.ServerStep m) h at l all = step-listed w new m at.j at.y l.0 h at.joins.server l.1 all
leaves-listed w new (event.ClientStep m) h at l all = frame-listed w new (hear-frame w new m at.j at.x at.joins.at l) all
leaves-listed w new (event.Pump m) h at l all =
    (let own = log-of w at.j.server at.y h at.joins.server in
    subst (λ (z : World). AllListed z) (sym l.leaves) (listed-after (with_circuit m (server.stamped l.updates at.j) w) at.j.server at.y (ends_by at.j.server l.core) l.core own.0 at.joins.server own.1 all))
leaves-listed w new (event.CutClient m) h at l all = frame-listed w new (cut-frame w new m at.j at.x at.joins.at l) all
leaves-listed w new (event.CutServer m) h at l all =
    (let own = log-of w at.j.server at.y h at.joins.server in
    subst (λ (z : World). AllListed z) (sym l.leaves) (listed-after w at.j.server at.y (ends_by at.j.server l.core) l.core own.0 at.joins.server own.1 all))
leaves-listed w new (event.ClientRestart i) h at l all = frame-listed w new (begun-frame w new i at.x l) all
leaves-listed w new (event.ServerRestart i) h at l all = restart-listed w new i at.y h l all
leaves-listed w new (event.Post i name e mask) h at l all = post-listed w new i at.y name e mask h at.at l all
leaves-listed w new (event.Finish i name) h at l all = finish-listed w new i at.y name h at.at l all
leaves-listed w new (event.Remove i name) h at l all = remove-listed w new i at.y name h at.at l all
leaves-listed w new (event.Add i r) h at l all = add-listed w new i at.y r h at.at l all
leaves-listed w new (event.Tick moment) h at (mid, ticks, is) all =
    listed-same mid new (ap (λ (z : World). z.servers) is) (ap (λ (z : World). z.server_logs) is) (frame-listed w mid (ticks-frame moment w (clients_below (length w.clients)) mid ticks) all)

pub event-listed : (w new : World) (e : Event) → Writes w → Happens w e new → AllListed w → AllListed new
event-listed w new e h happens all = leaves-listed w new e h happens.0 happens.1 all
