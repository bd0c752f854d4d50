-- The logs of all lives of servers keep that records have their names, over every
-- event and every run.
use Rattle.std.proofs.Common.{◌≡◌, ℕ, zero, suc, ◌+◌, ◌<◌, ◌⊎◌, inl, inr, Bool, List, [], ◌∷◌, ◌++◌, length, Option, Some, None, refl, sym, ap, subst, ◌∙◌, arith}
use Rattle.std.specs.Prelude.{filter, option_map, slice_get, unwrap_or}
use Rattle.std.specs.List.{FoldsTo, flat_map}
use Rattle.ca_arena.specs.declared.handle.Handle.{Handle}
use Rattle.ca_dbr.specs.Elements.{Elements}
use Rattle.ca_records.specs.Puts.{Record, WaitingPut, record_named}
use Rattle.std.specs.Str.{bytes_eq}
use Rattle.std.proofs.lemmas.Slice.Eq.{bytes_eq-Decides}
use Rattle.ca_model.proofs.Tables.{at-find}
use Rattle.ca_records.specs.Record.{RecordState, unset}
use Rattle.ca_text.specs.Place.{At}
use Rattle.ca_text.proofs.Places.{At-mapped, At-set, At-snoc}
use Rattle.ca_wire.specs.Fields.{Fields}
use Rattle.ca_model.specs.Due.{Action, Applies}
use Rattle.ca_model.specs.Due as action
use Rattle.ca_model.specs.Ends as why
use Rattle.ca_model.specs.History.{Added, Collected, Entry, GaveUp, Removed}
use Rattle.ca_model.specs.Server.{Server}
use Rattle.ca_model.specs.ServerSteps.{Stepped, closed}
use Rattle.ca_model.specs.ServerSteps as stepped
use Rattle.ca_model.specs.Speech.{In}
use Rattle.ca_model.specs.Channels.{Has}
use Rattle.ca_model.specs.ClientEvents.{DownTaken}
use Rattle.ca_model.specs.Events.{Event}
use Rattle.ca_model.specs.Events as event
use Rattle.ca_model.specs.Runs.{CanBe, Happens, Leaves, Runs, StopsAt, clients_below}
use Rattle.ca_model.specs.ServerEvents.{HappensAdd, HappensFinish, HappensPost, HappensRemove, HappensServerRestart, ServerStepped, acted, ends_at, ends_by, ends_here, finish_entry, first_of, handled_at, logged_by, next_entries, noted, posted_entry, removal_entries, replied_at, server_after, side_of, unsaid, withdrawals}
use Rattle.ca_model.specs.ServerEvents as server
use Rattle.ca_model.specs.World.{IsSetting, Joined, PutPlace, RecordSide, ServerSide, ServerSetting, Setting, World, grown, log_begun, opening, with_circuit, with_entries}
use Rattle.ca_laws_runs.proofs.StepWhole.{run-serves}
use Rattle.ca_laws_parts.specs.Agrees.{Agrees}
use Rattle.ca_laws_parts.specs.Lives.{IsPutOf}
use Rattle.ca_laws_parts.specs.Moves.{Lives, Writes, finish_told, post_told, removal_told}
use Rattle.ca_laws_parts.specs.Seats.{AsGiven}
use Rattle.ca_laws_parts.proofs.WritesEvents.{numbered-at}
use Rattle.ca_laws_parts.proofs.Every.{ticks-frame}
use Rattle.ca_laws_parts.proofs.HappensClient.{begun-frame, clear-frame, cut-frame, datagram-frame, handing-frame, hear-frame, open-frame, put-frame, read-frame, subscribe-frame, unsubscribe-frame, up-frame, write-frame}
use Rattle.ca_laws_parts.proofs.WritesLists.{At-take, beside-right}
use Rattle.ca_laws_parts.proofs.Midway.{grown-here}
use Rattle.ca_laws_runs.specs.Listed.{AllListed}
use Rattle.ca_laws_runs.specs.Names.{AllKeepRecords, KeepRecords, NamesAreKept}
use Rattle.ca_laws_runs.proofs.ActsNamedRuns.{run-names}
use Rattle.ca_laws_runs.proofs.ActsOn.{of-circuits}
use Rattle.ca_laws_runs.proofs.Acting.{taken-below}
use Rattle.ca_laws_runs.proofs.LoggedStep.{told-logs}
use Rattle.ca_laws_runs.proofs.NamesKept.{ArePlain, MayNameAll, keep-more, none-plain, one-plain, plain-all, removal-names, withdrawn-plain}
use Rattle.ca_laws_runs.proofs.PostFollowing.{titled}
use Rattle.ca_laws_runs.proofs.FollowsWhole.{folds-snoc, run-stand}
use Rattle.ca_model.specs.History.{Circuit, Line}
use Rattle.ca_model.specs.Channels.{KeepNames}

-- ---- parts of a world

-- a log has entries more
grown-or : (logs : List (List Entry)) (life : ℕ) (more : List Entry) (l : ℕ) (z : List Entry) → At (grown life more logs) l z → At logs l z ⊎ ((l ≡ life) × ((log : List Entry) → At logs life log → z ≡ log ++ more))
grown-or logs life more l z at = elim (At-set logs life (unwrap_or (slice_get logs life) [] ++ more) l z at) [
  | inl own ↦ inr (own.0, λ log there. own.1 ∙ ap (λ (o : Option (List Entry)). unwrap_or o [] ++ more) there)
  | inr old ↦ inl old.0
]

-- none of these has a name under which none is found
not-named : (cs : List Record) (i : ℕ) (c : Record) (name : List ℕ) → At cs i c → c.state.name ≡ name → record_named cs name ≡ None → ⊥
not-named cs i c name at named none =
    let found_it = at-find (λ (x : Record). bytes_eq x.state.name name) cs i c at ((bytes_eq-Decides c.state.name name).1 named) in
    none-some found_it.0 (sym none ∙ found_it.1)
  where
    none-some : (x : Record) → None ≡ Some x → ⊥
    none-some x e = cc

same-logs : (w new : World) → new.server_logs ≡ w.server_logs → AllKeepRecords w → AllKeepRecords new
same-logs w new logs all life y at = all life y (subst (λ (l : List (List Entry)). At l life y) logs at)

-- these are told in the log of a life
told-more : (w new : World) (life : ℕ) (more log : List Entry) → new.server_logs ≡ (with_entries life more w).server_logs → At w.server_logs life log → MayNameAll log more → AllKeepRecords w → AllKeepRecords new
told-more w new life more log logs here may all l y at = elim (grown-or w.server_logs life more l y (subst (λ (z : List (List Entry)). At z l y) logs at)) [
  | inl old ↦ all l y old
  | inr own ↦ subst (λ (z : List Entry). KeepRecords z) (sym (own.1 log here)) (keep-more more log may (all life log here))
]

-- circuits of a server end
ends-keep : (w : World) (i : ℕ) (y : ServerSide) (ends : Joined → Option (List ℕ)) (core : Server) (log : List Entry) → At w.server_logs y.life log → AllKeepRecords w → AllKeepRecords (server_after i y ends core w)
ends-keep w i y ends core log here all =
    told-more w (server_after i y ends core w) y.life (withdrawals (ends_at ends w.circuits) y.records) log refl here
    (plain-all (withdrawals (ends_at ends w.circuits) y.records) log (withdrawn-plain (flat_map (λ (r : RecordSide). filter (λ (p : PutPlace). ends_at ends w.circuits p.circuit) r.waiting) y.records))) all

pub log-of : (w : World) (i : ℕ) (y : ServerSide) → Writes w → At w.servers i y → (log : List Entry) × At w.server_logs y.life log
log-of w i y h at = ((h.lives i y at).log, (h.lives i y at).at)

-- ---- a step of a server's end

acted-plain : (core : Server) (g : Handle) (p : PutPlace) (did : Action) (rs : List RecordSide) → ArePlain (logged_by core g p did rs)
acted-plain core g p (Applies name value busies) rs = one-plain _ tt
acted-plain core g p (action.Waits name value) rs = one-plain _ tt
acted-plain core g p (action.Clears sid) rs = withdrawn-plain _
acted-plain core g p action.Nothing rs = none-plain
acted-plain core g p action.Greets rs = none-plain
acted-plain core g p (action.Names x) rs = none-plain
acted-plain core g p (action.Opens x) rs = none-plain
acted-plain core g p (action.Adds x) rs = none-plain
acted-plain core g p (action.Drops x) rs = none-plain
acted-plain core g p (action.Switches x) rs = none-plain

pub side-life : (w : World) (k : ℕ) (j : Joined) (y : ServerSide) (did : Action) → At w.servers j.server y → (side_of j.server y (acted k j y did w)).life ≡ y.life
side-life w k j y did at = go (slice_get (acted k j y did w).servers j.server) refl
  where
    next : ServerSide
    next = record y { records = server.records_after y.core j.at_server (record { circuit = k; place = length j.lists.handled }) did y.records }

    go : (o : Option ServerSide) → slice_get (acted k j y did w).servers j.server ≡ o → (unwrap_or o y).life ≡ y.life
    go None is = refl
    go (Some z) is = elim (At-set w.servers j.server next j.server z is) [ inl own ↦ ap (λ (x : ServerSide). x.life) own.1 | inr old ↦ absurd (old.1 refl) ]

acted-keep : (w : World) (k : ℕ) (j : Joined) (y : ServerSide) (did : Action) (ends : Joined → Option (List ℕ)) (core : Server) → Writes w → At w.servers j.server y → AllKeepRecords w
    → AllKeepRecords (server_after j.server (side_of j.server y (acted k j y did w)) ends core (acted k j y did w))
acted-keep w k j y did ends core h at all =
    ends-keep mid j.server (side_of j.server y mid) ends core (own.0 ++ more) (subst (λ (l : ℕ). At mid.server_logs l (own.0 ++ more)) (sym (side-life w k j y did at)) (grown-here w.server_logs y.life own.0 more own.1))
    (told-more w mid y.life more own.0 refl own.1 (plain-all more own.0 (acted-plain y.core j.at_server p did y.records)) all)
  where
    p : PutPlace
    p = record { circuit = k; place = length j.lists.handled }

    more : List Entry
    more = logged_by y.core j.at_server p did y.records

    mid : World
    mid = acted k j y did w

    own : (log : List Entry) × At w.server_logs y.life log
    own = log-of w j.server y h at

noted-keep : (w after : World) (k : ℕ) (j : Joined) (y : ServerSide) (replies : List Fields) → AllKeepRecords after → AllKeepRecords (noted k j y replies w after)
noted-keep w after k j y replies all = go (slice_get after.circuits k)
  where
    go : (o : Option Joined) → AllKeepRecords (unwrap_or (option_map (λ (c : Joined). with_circuit k (handled_at (length j.lists.handled) (record { sent = length j.lists.down; logged = server.logged y w; after = server.logged y after }) replies c) after) o) after)
    go None = all
    go (Some c) = all

step-keep : (w new : World) (k : ℕ) (j : Joined) (y : ServerSide) (did : Stepped) → Writes w → At w.servers j.server y → ServerStepped w k j y did new → AllKeepRecords w → AllKeepRecords new
step-keep w new k j y stepped.Handled h at f all =
    subst (λ (z : World). AllKeepRecords z) (sym f.leaves) (noted-keep w _ k j y (f.steps.0).replies (acted-keep w k j y (f.steps.0).action (ends_by j.server f.core) f.core h at all))
step-keep w new k j y stepped.NeedBytes h at f all = subst (λ (z : World). AllKeepRecords z) (sym f.3) all
step-keep w new k j y stepped.OutputFull h at f all = subst (λ (z : World). AllKeepRecords z) (sym f.3) all
step-keep w new k j y (stepped.Closed why.OutOfMemory left) h at f all = subst (λ (z : World). AllKeepRecords z) (sym f.leaves) (go f.lacks.written)
  where
    did : Action
    did = f.lacks.next.action

    go : (o : Option (Handle → Bool)) → AllKeepRecords (server_after j.server (side_of j.server y (unsaid k j y did o w)) (ends_here j left j.server f.core) f.core (unsaid k j y did o w))
    go None =
        subst (λ (z : ServerSide). AllKeepRecords (server_after j.server z (ends_here j left j.server f.core) f.core w)) (sym (ap (λ (o : Option ServerSide). unwrap_or o y) at))
        (let own = log-of w j.server y h at in ends-keep w j.server y (ends_here j left j.server f.core) f.core own.0 own.1 all)
    go (Some gone) = acted-keep w k j y did (ends_here j left j.server f.core) f.core h at all
step-keep w new k j y (stepped.Closed cause left) h at f all =
    let own = log-of w j.server y h at in
    subst (λ (z : World). AllKeepRecords z) (sym f.3) (ends-keep w j.server y (ends_here j left j.server y.core) (closed j.at_server y.core) own.0 own.1 all)

-- ---- a post, a finish

post-keep : (w new : World) (i : ℕ) (y : ServerSide) (name : List ℕ) (e : Elements) (mask : ℕ) → Writes w → At w.servers i y → HappensPost w i y name e mask new → AllKeepRecords w → AllKeepRecords new
post-keep w new i y name e mask h at (gone, core, inl (posts, is)) all =
    let own = log-of w i y h at in
    let more : List Entry = posted_entry y name (record { value = e; meta = unset }) mask in
    let mid : World = post_told w i y name (record { value = e; meta = unset }) mask in
    subst (λ (z : World). AllKeepRecords z) (sym is)
    (ends-keep mid i y (ends_by i core) core (own.0 ++ more) (grown-here w.server_logs y.life own.0 more own.1)
    (told-more w mid y.life more own.0 refl own.1 (plain-all more own.0 (one-plain _ tt)) all))
post-keep w new i y name e mask h at (gone, core, inr refused) all = subst (λ (z : World). AllKeepRecords z) (sym refused.3) all

next-plain : (y : ServerSide) (r : RecordSide) (a : Option WaitingPut) (b : Option PutPlace) → ArePlain (next_entries y r a b)
next-plain y r (Some v) (Some p) = one-plain _ tt
next-plain y r (Some v) None = none-plain
next-plain y r None (Some p) = none-plain
next-plain y r None None = none-plain

finish-plain : (p : PutPlace) (es : List Entry) → ArePlain es → ArePlain (finish_entry p ∷ es)
finish-plain p es plain zero e at = one-plain (finish_entry p) tt zero e at
finish-plain p es plain (suc i) e at = plain i e at

finish-keep : (w new : World) (i : ℕ) (y : ServerSide) (name : List ℕ) → Writes w → At w.servers i y → HappensFinish w i y name new → AllKeepRecords w → AllKeepRecords new
finish-keep w new i y name h at (inl f) all =
    let own = log-of w i y h at in
    let next : List Entry = next_entries y f.r (first_of f.cr.waiting) (first_of f.r.waiting) in
    let more : List Entry = finish_entry f.p ∷ next in
    let told : World = finish_told w i y name f.cr f.r f.p in
    let mid : World = replied_at f.p f.sent told in
    let logs : mid.server_logs ≡ told.server_logs = told-logs f.p f.sent told in
    let side : ServerSide = record y { records = server.with_record name server.next_busy y.records } in
    subst (λ (z : World). AllKeepRecords z) (sym f.leaves)
    (ends-keep mid i side (ends_by i f.core) f.core (own.0 ++ more) (subst (λ (l : List (List Entry)). At l y.life (own.0 ++ more)) (sym logs) (grown-here w.server_logs y.life own.0 more own.1))
    (told-more w mid y.life more own.0 logs own.1 (plain-all more own.0 (finish-plain f.p next (next-plain y f.r (first_of f.cr.waiting) (first_of f.r.waiting)))) all))
finish-keep w new i y name h at (inr refused) all = subst (λ (z : World). AllKeepRecords z) (sym refused.2) all

-- ---- records come and go

has-of : (w : World) (i : ℕ) (y : ServerSide) (own : Lives w i y) (r : RecordSide) → In y.records r → (n : List ℕ) × Has own.log r.number n
has-of w i y own r there =
    let b = beside-right (Agrees (IsPutOf w.circuits i) own.log) y.core.records y.records there.0 r own.life.each there.1 in
    ((b.2.first).name, (b.2.first, b.2.added, refl, b.2.there))

remove-keep : (w new : World) (i : ℕ) (y : ServerSide) (name : List ℕ) → Writes w → At w.servers i y → HappensRemove w i y name new → AllKeepRecords w → AllKeepRecords new
remove-keep w new i y name h at (gone, left, core, inl (removes, is)) all =
    let own = h.lives i y at in
    let more : List Entry = removal_entries name y.records in
    let side : ServerSide = record y { records = filter _ y.records } in
    subst (λ (z : World). AllKeepRecords z) (sym is)
    (ends-keep (removal_told w i y name gone left) i side (ends_by i core) core (own.log ++ more) (grown-here w.server_logs y.life own.log more own.at)
    (told-more w (removal_told w i y name gone left) y.life more own.log refl own.at (removal-names own.log name y.records own.life.others (has-of w i y own)) all))
remove-keep w new i y name h at (gone, left, core, inr (removes, is)) all = subst (λ (z : World). AllKeepRecords z) (sym is) all

add-keep : (w new : World) (i : ℕ) (y : ServerSide) (r : RecordState) → Writes w → AllListed w → At w.servers i y → HappensAdd w i y r new → AllKeepRecords w → AllKeepRecords new
add-keep w new i y r h listed at (core, behind, inl (adds, is)) all =
    told-more w new y.life (Added y.added r ∷ []) own.log (ap (λ (z : World). z.server_logs) is) own.at ((never, alone), tt) all
  where
    own : Lives w i y
    own = h.lives i y at

    never : (a : RecordState) → In own.log (Added y.added a) → ⊥
    never a there = (let lt : y.added < y.added = own.life.numbers y.added (Added y.added a) there refl in omega (arith, lt))

    alone : (q : ℕ) → Has own.log q r.name → ⊥
    alone q has =
        let x = titled y.records (has.0.name, q) (listed i y own.log at own.at q has.0 has.1 has.3) in
        let b = beside-right (Agrees (IsPutOf w.circuits i) own.log) y.core.records y.records x.1.0 x.0 own.life.each x.1.1 in
        not-named y.core.records x.1.0 b.0 r.name b.1 (b.2.name ∙ ap (λ (v : List ℕ × ℕ). v.0) (sym x.2) ∙ has.2) adds.0.1
add-keep w new i y r h listed at (core, behind, inr refused) all = subst (λ (z : World). AllKeepRecords z) (sym refused.3) all

-- ---- a life begins

same-number : (r q : ℕ) (a b : RecordState) → Added r a ≡ Added q b → r ≡ q
same-number r q a b is = cc

same-state : (r q : ℕ) (a b : RecordState) → Added r a ≡ Added q b → a ≡ b
same-state r q a b is = cc

-- the records of a server that begins have different names
abbrev HaveNames : ServerSetting → Type 0
HaveNames s = (j k : ℕ) (r q : RecordState) → At s.records j r → At s.records k q → r.name ≡ q.name → j ≡ k

begun-keep : (s : ServerSetting) → HaveNames s → KeepRecords (log_begun s)
begun-keep s names = record {
  one_record = λ i j r a b first second. sym (place i r a first).0 ∙ (place j r b second).0;
  one_at_once = λ i r q t at has.
      let lt : has.1.0 < i = taken-below i (log_begun s) has.1.0 (Added q has.0) has.1.1 in
      let p = place i r t at in
      let u = place has.1.0 q has.0 (At-take i (log_begun s) has.1.0 (Added q has.0) has.1.1) in
      let same : has.1.0 ≡ i = names has.1.0 i has.0 t u.1 p.1 has.2 in
      omega (arith, lt, same);
  was_there = λ i r at. (let x = numbered-at Added s.records 0 i (Removed r) at in absurd (removed-added r (0 + i) x.0 x.2));
}
  where
    removed-added : (r n : ℕ) (x : RecordState) → Removed r ≡ Added n x → ⊥
    removed-added r n x e = cc

    place : (i r : ℕ) (a : RecordState) → At (log_begun s) i (Added r a) → (r ≡ i) × At s.records i a
    place i r a at =
        let x = numbered-at Added s.records 0 i (Added r a) at in
        let e : 0 + i ≡ i = omega arith in
        (same-number r (0 + i) a x.0 x.2 ∙ e, subst (λ (z : RecordState). At s.records i z) (sym (same-state r (0 + i) a x.0 x.2)) x.1)

restart-keep : (s : Setting) (w new : World) (i : ℕ) (y : ServerSide) → IsSetting s → AsGiven s w → At w.servers i y → HappensServerRestart w i y new → AllKeepRecords w → AllKeepRecords new
restart-keep s w new i y ok given at is all life lg there = elim (At-snoc w.server_logs (log_begun y.setting) life lg (subst (λ (l : List (List Entry)). At l life lg) (ap (λ (z : World). z.server_logs) is) there)) [
  | inl old ↦ all life lg old
  | inr last ↦ subst (λ (l : List Entry). KeepRecords l) (sym last.1) (begun-keep y.setting (λ j k r q a b same. ok.names i j k y.setting r q (given i y at) a b same))
]

opening-keep : (s : Setting) → IsSetting s → AllKeepRecords (opening s)
opening-keep s ok life lg at =
    let z = At-mapped log_begun s.servers life lg at in
    subst (λ (l : List Entry). KeepRecords l) (sym z.2) (begun-keep z.0 (λ j k r q a b same. ok.names life j k z.0 r q z.1 a b same))

-- ---- every event

leaves-keep : (s : Setting) (w new : World) (e : Event) → IsSetting s → AsGiven s w → Writes w → AllListed w → (at : CanBe w e) → Leaves w e at new → AllKeepRecords w → AllKeepRecords new
leaves-keep s w new (event.Open i name priority) ok g h f at l all = same-logs w new (open-frame w new i at.x name priority l).logs all
leaves-keep s w new (event.Clear i c) ok g h f at l all = same-logs w new (clear-frame w new i at.x c at.h l).logs all
leaves-keep s w new (event.Read i c data_type count) ok g h f at l all = same-logs w new (read-frame w new i at.x c at.h data_type count l).logs all
leaves-keep s w new (event.Write i c e) ok g h f at l all = same-logs w new (write-frame w new i at.x c at.h e l).logs all
leaves-keep s w new (event.WriteNotify i c e) ok g h f at l all = same-logs w new (put-frame w new i at.x c at.h e l).logs all
leaves-keep s w new (event.Subscribe i c data_type count mask) ok g h f at l all = same-logs w new (subscribe-frame w new i at.x c at.h data_type count mask l).logs all
leaves-keep s w new (event.Unsubscribe i n) ok g h f at l all = same-logs w new (unsubscribe-frame w new i at.x at.s l).logs all
leaves-keep s w new (event.Collect i r) ok g h f at l all = same-logs w new (handing-frame w new at.x r at.q.1 (Collected r) l).logs all
leaves-keep s w new (event.GiveUp i r) ok g h f at l all = same-logs w new (handing-frame w new at.x r at.q.1 (GaveUp r) l).logs all
leaves-keep s w new (event.ClientDatagram i from bytes) ok g h f at l all = same-logs w new (datagram-frame w new i at.x from bytes l).logs all
leaves-keep s w new (event.ServerDatagram i from bytes) ok g h f at l all = same-logs w new (ap (λ (z : World). z.server_logs) l.2) all
leaves-keep s w new (event.Accept i) ok g h f at l all = elim l.leaves [
  | inl full ↦ same-logs w new (ap (λ (z : World). z.server_logs) full.1) all
  | inr made ↦ same-logs w new (ap (λ (z : World). z.server_logs) made.6) all
]
leaves-keep s w new (event.Up m n) ok g h f at l all = same-logs w new (ap (λ (z : World). z.server_logs) l.2 ∙ (up-frame w m n at.0.j at.0.x at.0.joins.at).logs) all
leaves-keep s w new (event.Down m n) ok g h f at (mid, sent, core, taken, gives, is) all = same-logs w new (ap (λ (z : World). z.server_logs) is ∙ go taken) all
  where
    go : DownTaken w m n at.0.j at.0.y mid → mid.server_logs ≡ w.server_logs
    go (inl (opened, (by, sends, same_it))) = ap (λ (z : World). z.server_logs) same_it
    go (inr (shut, same_it)) = ap (λ (z : World). z.server_logs) same_it
leaves-keep s w new (event.ServerStep m) ok g h f at l all = step-keep w new m at.j at.y l.0 h at.joins.server l.1 all
leaves-keep s w new (event.ClientStep m) ok g h f at l all = same-logs w new (hear-frame w new m at.j at.x at.joins.at l).logs all
leaves-keep s w new (event.Pump m) ok g h f at l all =
    (let own = log-of w at.j.server at.y h at.joins.server in
    subst (λ (z : World). AllKeepRecords z) (sym l.leaves) (ends-keep (with_circuit m (server.stamped l.updates at.j) w) at.j.server at.y (ends_by at.j.server l.core) l.core own.0 own.1 all))
leaves-keep s w new (event.CutClient m) ok g h f at l all = same-logs w new (cut-frame w new m at.j at.x at.joins.at l).logs all
leaves-keep s w new (event.CutServer m) ok g h f at l all =
    (let own = log-of w at.j.server at.y h at.joins.server in
    subst (λ (z : World). AllKeepRecords z) (sym l.leaves) (ends-keep w at.j.server at.y (ends_by at.j.server l.core) l.core own.0 own.1 all))
leaves-keep s w new (event.ClientRestart i) ok g h f at l all = same-logs w new (begun-frame w new i at.x l).logs all
leaves-keep s w new (event.ServerRestart i) ok g h f at l all = restart-keep s w new i at.y ok g at.at l all
leaves-keep s w new (event.Post i name e mask) ok g h f at l all = post-keep w new i at.y name e mask h at.at l all
leaves-keep s w new (event.Finish i name) ok g h f at l all = finish-keep w new i at.y name h at.at l all
leaves-keep s w new (event.Remove i name) ok g h f at l all = remove-keep w new i at.y name h at.at l all
leaves-keep s w new (event.Add i r) ok g h f at l all = add-keep w new i at.y r h f at.at l all
leaves-keep s w new (event.Tick moment) ok g h f at (mid, ticks, is) all =
    same-logs w new (ap (λ (z : World). z.server_logs) is ∙ (ticks-frame moment w (clients_below (length w.clients)) mid ticks).logs) all

-- ---- every run

events-keep : (s : Setting) (ok : IsSetting s) (done es : List Event) (w new : World) → FoldsTo Happens (opening s) done w → FoldsTo Happens w es new → AllKeepRecords w → AllKeepRecords new
events-keep s ok done [] w new before same all = subst (λ (z : World). AllKeepRecords z) same all
events-keep s ok done (e ∷ es) w new before (mid, one, rest) all =
    let runs : Runs s done None w = (w, before, refl) in
    let h = run-serves s done None w ok runs in
    events-keep s ok (done ++ e ∷ []) es mid new (folds-snoc done (opening s) w mid e before one) rest
    (leaves-keep s w mid e ok h.stands.sound.given h.stands.sound.writes (run-stand s done None w ok runs).listed one.0 one.1 all)

stops-keep : (mid : World) (stopped : Option Event) (w : World) → StopsAt mid stopped w → AllKeepRecords mid → AllKeepRecords w
stops-keep mid (Some (event.Tick moment)) w stops all = elim stops [
  | inl same ↦ subst (λ (z : World). AllKeepRecords z) (sym same) all
  | inr ticked ↦ same-logs mid w (ticks-frame moment mid (clients_below ticked.0) w ticked.3).logs all
]
stops-keep mid stopped w stops all = subst (λ (z : World). AllKeepRecords z) (sym stops) all

pub run-keep : (s : Setting) (es : List Event) (stopped : Option Event) (w : World) → IsSetting s → Runs s es stopped w → AllKeepRecords w
run-keep s es stopped w ok (mid, folds, stops) = stops-keep mid stopped w stops (events-keep s ok [] es (opening s) mid refl folds (opening-keep s ok))

-- in the words of the statement
pub run-kept : (s : Setting) (es : List Event) (stopped : Option Event) (w : World) → IsSetting s → Runs s es stopped w → NamesAreKept w
run-kept s es stopped w ok runs =
    of-circuits s es stopped w ok runs (λ (n : ℕ) (c : Circuit) (x : List Line) (y : List Entry). KeepNames x y)
    (λ n j x y at lx ly.
    let k = run-keep s es stopped w ok runs j.lists.server y ly in
    record {
      one_name = λ i l channel a b first second. (run-names s es stopped w runs).once j.lists.client x i l channel a b lx first second;
      one_record = k.one_record;
      one_at_once = k.one_at_once;
      was_there = k.was_there;
    })
