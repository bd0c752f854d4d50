-- The log of a server's life says that a put is finished only by the event that finishes it.
use Rattle.std.proofs.Common.{◌≡◌, ℕ, zero, suc, ◌⊎◌, inl, inr, Bool, List, [], ◌∷◌, ◌++◌, length, ◌+◌, Option, Some, None, refl, sym, ap, subst, ◌∙◌}
use Rattle.std.specs.Prelude.{filter, map, not, option_map, slice_get, unwrap_or}
use Rattle.std.specs.List.{flat_map}
use Rattle.std.specs.Str.{bytes_eq}
use Rattle.ca_arena.specs.declared.handle.Handle.{Handle}
use Rattle.ca_dbr.specs.Elements.{Elements}
use Rattle.ca_records.specs.Puts.{WaitingPut}
use Rattle.ca_records.specs.Record.{RecordState, unset}
use Rattle.ca_text.specs.Place.{At}
use Rattle.ca_text.proofs.Places.{some_is, At-mapped, At-parts, At-set, At-snoc}
use Rattle.ca_model.specs.Due.{Action, Applies}
use Rattle.ca_model.specs.Due as action
use Rattle.ca_model.specs.Ends as why
use Rattle.ca_model.specs.History.{Added, Collected, Entry, Finished, GaveUp, Withdrawn}
use Rattle.ca_model.specs.History as history
use Rattle.ca_model.specs.Server.{Server}
use Rattle.ca_model.specs.ServerSteps.{Stepped, closed}
use Rattle.ca_model.specs.ServerSteps as stepped
use Rattle.ca_model.specs.ClientEvents.{DownTaken}
use Rattle.ca_model.specs.Events.{Event}
use Rattle.ca_model.specs.Events as event
use Rattle.ca_model.specs.Runs.{CanBe, Happens, Leaves, clients_below}
use Rattle.ca_model.specs.ServerEvents.{HappensAdd, HappensPost, HappensRemove, HappensServerRestart, ServerStepped, acted, ends_at, ends_by, ends_here, finish_entry, first_of, handled_at, logged_by, next_entries, noted, posted_entry, removal_entries, replied_at, server_after, side_of, unsaid, withdrawals}
use Rattle.ca_model.specs.ServerEvents as server
use Rattle.ca_model.specs.World.{Joined, PutPlace, RecordSide, ServerSide, World, grown, log_begun, with_circuit}
use Rattle.ca_laws_parts.specs.Moves.{finish_told, post_told, removal_told}
use Rattle.ca_laws_parts.proofs.WritesEvents.{numbered-at}
use Rattle.ca_laws_parts.proofs.Every.{ticks-frame}
use Rattle.ca_laws_parts.proofs.HappensClient.{begun-frame, clear-frame, cut-frame, datagram-frame, handing-frame, hear-frame, open-frame, put-frame, read-frame, subscribe-frame, unsubscribe-frame, up-frame, write-frame}
use Rattle.ca_laws_parts.proofs.Leaving.{flat-in}
use Rattle.ca_laws_parts.proofs.WritesLists.{none_at}
use Rattle.ca_laws_runs.proofs.LoggedStep.{told-logs}

-- ---- what is told in logs

-- Of what these entries tell finished each is F.
abbrev pub TellsOnly : (F : ℕ → ℕ → Type 0) → List Entry → Type 0
TellsOnly F es = (i n k : ℕ) → At es i (Finished n k) → F n k

-- What a log says finished it told before, or it is F.
abbrev pub FinishesOr : (F : ℕ → ℕ → Type 0) → (w new : World) → Type 0
FinishesOr F w new = (l : ℕ) (z : List Entry) (i n k : ℕ) → At new.server_logs l z → At z i (Finished n k) → ((y : List Entry) × At w.server_logs l y × At y i (Finished n k)) ⊎ F n k

same-or-told : (F : ℕ → ℕ → Type 0) (w new : World) → new.server_logs ≡ w.server_logs → FinishesOr F w new
same-or-told F w new logs l z i n k at there = inl (z, subst (λ (x : List (List Entry)). At x l z) logs at, there)

told-then : (F : ℕ → ℕ → Type 0) (a b c : World) → FinishesOr F a b → FinishesOr F b c → FinishesOr F a c
told-then F a b c f g l z i n k at there = elim (g l z i n k at there) [
  | inl was ↦ f l was.0 i n k was.1 was.2
  | inr now ↦ inr now
]

-- a log has entries more
more-told : (F : ℕ → ℕ → Type 0) (w new : World) (life : ℕ) (more : List Entry) → new.server_logs ≡ grown life more w.server_logs → TellsOnly F more
    → FinishesOr F w new
more-told F w new life more logs tells l z i n k at there = elim (At-set w.server_logs life (unwrap_or (slice_get w.server_logs life) [] ++ more) l z (subst (λ (x : List (List Entry)). At x l z) logs at)) [
  | inl own ↦ go (slice_get w.server_logs life) refl own.0 own.1
  | inr old ↦ inl (z, old.0, there)
]
  where
    go : (o : Option (List Entry)) → slice_get w.server_logs life ≡ o → l ≡ life → z ≡ unwrap_or o [] ++ more
        → ((y : List Entry) × At w.server_logs l y × At y i (Finished n k)) ⊎ F n k
    go None is here same = inr (tells i n k (subst (λ (x : List Entry). At x i (Finished n k)) same there))
    go (Some y) is here same = elim (At-parts y more i (Finished n k) (subst (λ (x : List Entry). At x i (Finished n k)) same there)) [
      | inl old ↦ inl (y, subst (λ (m : ℕ). At w.server_logs m y) (sym here) is, old)
      | inr last ↦ inr (tells last.0 n k last.2)
    ]

none-tells : (F : ℕ → ℕ → Type 0) → TellsOnly F []
none-tells F i n k at = absurd (none_at i (Finished n k) at)

one-tells : (F : ℕ → ℕ → Type 0) (e : Entry) → ((n k : ℕ) → e ≡ Finished n k → F n k) → TellsOnly F (e ∷ [])
one-tells F e is zero n k at = is n k (some_is e (Finished n k) at)
one-tells F e is (suc i) n k at = absurd (none_at i (Finished n k) at)

withdrawn-not : (a b n k : ℕ) → Finished n k ≡ Withdrawn a b → ⊥
withdrawn-not a b n k e = cc

withdrawn-tells : (F : ℕ → ℕ → Type 0) (ps : List PutPlace) → TellsOnly F (map (λ (p : PutPlace). Withdrawn p.circuit p.place) ps)
withdrawn-tells F ps i n k at = (let p = At-mapped (λ (p : PutPlace). Withdrawn p.circuit p.place) ps i (Finished n k) at in absurd (withdrawn-not p.0.circuit p.0.place n k p.2))

applied-not : (a b r n k : ℕ) (v : _) (busies : Bool) → history.Applied a b r v busies ≡ Finished n k → ⊥
applied-not a b r n k v busies e = cc

waits-not : (a b r n k : ℕ) (v : _) → history.Waits a b r v ≡ Finished n k → ⊥
waits-not a b r n k v e = cc

posted-not : (r mask n k : ℕ) (v : _) → history.Posted r mask v ≡ Finished n k → ⊥
posted-not r mask n k v e = cc

added-not : (r n k : ℕ) (x : RecordState) → Added r x ≡ Finished n k → ⊥
added-not r n k x e = cc

removed-not : (r n k : ℕ) → history.Removed r ≡ Finished n k → ⊥
removed-not r n k e = cc

-- circuits of a server end
ends-told : (F : ℕ → ℕ → Type 0) (w : World) (i : ℕ) (y : ServerSide) (ends : Joined → Option (List ℕ)) (core : Server)
    → FinishesOr F w (server_after i y ends core w)
ends-told F w i y ends core =
    more-told F w (server_after i y ends core w) y.life (withdrawals (ends_at ends w.circuits) y.records) refl
    (withdrawn-tells F (flat_map (λ (r : RecordSide). filter (λ (p : PutPlace). ends_at ends w.circuits p.circuit) r.waiting) y.records))

-- an event at a server tells this, and then circuits end
after-told : (F : ℕ → ℕ → Type 0) (w mid : World) (i life : ℕ) (side : ServerSide) (ends : Joined → Option (List ℕ)) (core : Server) (more : List Entry)
    → mid.server_logs ≡ grown life more w.server_logs → TellsOnly F more → FinishesOr F w (server_after i side ends core mid)
after-told F w mid i life side ends core more logs tells = told-then F w mid (server_after i side ends core mid) (more-told F w mid life more logs tells) (ends-told F mid i side ends core)

-- ---- a step of a server's end

acted-tells : (F : ℕ → ℕ → Type 0) (core : Server) (g : Handle) (p : PutPlace) (did : Action) (rs : List RecordSide)
    → TellsOnly F (logged_by core g p did rs)
acted-tells F core g p (Applies name value busies) rs = one-tells F _ (λ n k is. absurd (applied-not p.circuit p.place _ n k _ busies is))
acted-tells F core g p (action.Waits name value) rs = one-tells F _ (λ n k is. absurd (waits-not p.circuit p.place _ n k _ is))
acted-tells F core g p (action.Clears sid) rs = withdrawn-tells F _
acted-tells F core g p action.Nothing rs = none-tells F
acted-tells F core g p action.Greets rs = none-tells F
acted-tells F core g p (action.Names x) rs = none-tells F
acted-tells F core g p (action.Opens x) rs = none-tells F
acted-tells F core g p (action.Adds x) rs = none-tells F
acted-tells F core g p (action.Drops x) rs = none-tells F
acted-tells F core g p (action.Switches x) rs = none-tells F

acted-told : (F : ℕ → ℕ → Type 0) (w : World) (k : ℕ) (j : Joined) (y : ServerSide) (did : Action) (ends : Joined → Option (List ℕ)) (core : Server)
    → FinishesOr F w (server_after j.server (side_of j.server y (acted k j y did w)) ends core (acted k j y did w))
acted-told F w k j y did ends core =
    after-told F w (acted k j y did w) j.server y.life (side_of j.server y (acted k j y did w)) ends core (logged_by y.core j.at_server (record { circuit = k; place = length j.lists.handled }) did y.records) refl
    (acted-tells F y.core j.at_server (record { circuit = k; place = length j.lists.handled }) did y.records)

noted-told : (F : ℕ → ℕ → Type 0) (w after : World) (k : ℕ) (j : Joined) (y : ServerSide) (replies : List _) → FinishesOr F w after
    → FinishesOr F w (noted k j y replies w after)
noted-told F w after k j y replies told = go (slice_get after.circuits k)
  where
    go : (o : Option Joined)
        → FinishesOr F w (unwrap_or (option_map (λ (c : Joined). with_circuit k (handled_at (length j.lists.handled) (record { sent = length j.lists.down; logged = server.logged y w; after = server.logged y after }) replies c) after) o) after)
    go None = told
    go (Some c) = told

step-told : (F : ℕ → ℕ → Type 0) (w new : World) (k : ℕ) (j : Joined) (y : ServerSide) (did : Stepped) → ServerStepped w k j y did new
    → FinishesOr F w new
step-told F w new k j y stepped.Handled f =
    subst (λ (z : World). FinishesOr F w z) (sym f.leaves) (noted-told F w _ k j y (f.steps.0).replies (acted-told F w k j y (f.steps.0).action (ends_by j.server f.core) f.core))
step-told F w new k j y stepped.NeedBytes f = same-or-told F w new (ap (λ (z : World). z.server_logs) f.3)
step-told F w new k j y stepped.OutputFull f = same-or-told F w new (ap (λ (z : World). z.server_logs) f.3)
step-told F w new k j y (stepped.Closed why.OutOfMemory left) f = subst (λ (z : World). FinishesOr F w z) (sym f.leaves) (go f.lacks.written)
  where
    did : Action
    did = f.lacks.next.action

    go : (o : Option (Handle → Bool))
        → FinishesOr F w (server_after j.server (side_of j.server y (unsaid k j y did o w)) (ends_here j left j.server f.core) f.core (unsaid k j y did o w))
    go None = ends-told F w j.server (side_of j.server y w) (ends_here j left j.server f.core) f.core
    go (Some gone) = acted-told F w k j y did (ends_here j left j.server f.core) f.core
step-told F w new k j y (stepped.Closed cause left) f =
    subst (λ (z : World). FinishesOr F w z) (sym f.3) (ends-told F w j.server y (ends_here j left j.server y.core) (closed j.at_server y.core))

-- ---- other events at a server

post-told : (F : ℕ → ℕ → Type 0) (w new : World) (i : ℕ) (y : ServerSide) (name : List ℕ) (e : Elements) (mask : ℕ)
    → HappensPost w i y name e mask new → FinishesOr F w new
post-told F w new i y name e mask (gone, core, inl (posts, is)) =
    subst (λ (z : World). FinishesOr F w z) (sym is)
    (after-told F w (post_told w i y name (record { value = e; meta = unset }) mask) i y.life y (ends_by i core) core (posted_entry y name (record { value = e; meta = unset }) mask) refl
    (one-tells F _ (λ n k same. absurd (posted-not _ mask n k _ same))))
post-told F w new i y name e mask (gone, core, inr refused) = same-or-told F w new (ap (λ (z : World). z.server_logs) refused.3)

removal-tells : (F : ℕ → ℕ → Type 0) (name : List ℕ) (rs : List RecordSide) → TellsOnly F (removal_entries name rs)
removal-tells F name rs i n k at =
    let x = flat-in (λ (r : RecordSide). history.Removed r.number ∷ map (λ (p : PutPlace). Withdrawn p.circuit p.place) r.waiting) (filter (λ (r : RecordSide). bytes_eq r.name name) rs) (Finished n k) (i, at) in
    go x.0 x.2.0 x.2.1
  where
    go : (r : RecordSide) (i : ℕ) → At (history.Removed r.number ∷ map (λ (p : PutPlace). Withdrawn p.circuit p.place) r.waiting) i (Finished n k)
        → F n k
    go r zero at = absurd (removed-not r.number n k (some_is (history.Removed r.number) (Finished n k) at))
    go r (suc i) at = withdrawn-tells F r.waiting i n k at

remove-told : (F : ℕ → ℕ → Type 0) (w new : World) (i : ℕ) (y : ServerSide) (name : List ℕ) → HappensRemove w i y name new → FinishesOr F w new
remove-told F w new i y name (gone, left, core, inl (removes, is)) =
    subst (λ (z : World). FinishesOr F w z) (sym is)
    (after-told F w (removal_told w i y name gone left) i y.life (record y { records = filter (λ (r : RecordSide). not (bytes_eq r.name name)) y.records }) (ends_by i core) core (removal_entries name y.records) refl (removal-tells F name y.records))
remove-told F w new i y name (gone, left, core, inr (removes, is)) = same-or-told F w new (ap (λ (z : World). z.server_logs) is)

add-told : (F : ℕ → ℕ → Type 0) (w new : World) (i : ℕ) (y : ServerSide) (r : RecordState) → HappensAdd w i y r new → FinishesOr F w new
add-told F w new i y r (core, behind, inl (adds, is)) =
    more-told F w new y.life (Added y.added r ∷ []) (ap (λ (z : World). z.server_logs) is) (one-tells F _ (λ n k same. absurd (added-not y.added n k r same)))
add-told F w new i y r (core, behind, inr refused) = same-or-told F w new (ap (λ (z : World). z.server_logs) refused.3)

restart-told : (F : ℕ → ℕ → Type 0) (w new : World) (i : ℕ) (y : ServerSide) → HappensServerRestart w i y new → FinishesOr F w new
restart-told F w new i y is l z m n k at there = elim (At-snoc w.server_logs (log_begun y.setting) l z (subst (λ (x : List (List Entry)). At x l z) (ap (λ (v : World). v.server_logs) is) at)) [
  | inl old ↦ inl (z, old, there)
  | inr last ↦
      let x = numbered-at Added y.setting.records 0 m (Finished n k) (subst (λ (v : List Entry). At v m (Finished n k)) last.1 there) in
      absurd (added-not (0 + m) n k x.0 (sym x.2))
]

-- ---- a finish

next-tells : (F : ℕ → ℕ → Type 0) (y : ServerSide) (r : RecordSide) (a : Option WaitingPut) (b : Option PutPlace) → TellsOnly F (next_entries y r a b)
next-tells F y r (Some v) (Some p) = one-tells F _ (λ n k is. absurd (applied-not p.circuit p.place r.number n k _ _ is))
next-tells F y r (Some v) None = none-tells F
next-tells F y r None (Some p) = none-tells F
next-tells F y r None None = none-tells F

same-place : (a b n k : ℕ) → Finished a b ≡ Finished n k → (n ≡ a) × (k ≡ b)
same-place a b n k e = ((let x : n ≡ a = cc in x), (let x : k ≡ b = cc in x))

-- the put that this event finishes
abbrev pub IsThis : PutPlace → ℕ → ℕ → Type 0
IsThis p n k = (n ≡ p.circuit) × (k ≡ p.place)

pub finish-told : (w new : World) (i : ℕ) (y : ServerSide) (name : List ℕ) (f : server.Finished w i y name new) → FinishesOr (IsThis f.p) w new
finish-told w new i y name f =
    let next : List Entry = next_entries y f.r (first_of f.cr.waiting) (first_of f.r.waiting) in
    let told : World = finish_told w i y name f.cr f.r f.p in
    subst (λ (z : World). FinishesOr (IsThis f.p) w z) (sym f.leaves)
    (after-told (IsThis f.p) w (replied_at f.p f.sent told) i y.life (record y { records = server.with_record name server.next_busy y.records }) (ends_by i f.core) f.core (finish_entry f.p ∷ next) (told-logs f.p f.sent told)
    (tells next (next-tells (IsThis f.p) y f.r (first_of f.cr.waiting) (first_of f.r.waiting))))
  where
    tells : (next : List Entry) → TellsOnly (IsThis f.p) next → TellsOnly (IsThis f.p) (finish_entry f.p ∷ next)
    tells next rest zero n k at = same-place f.p.circuit f.p.place n k (some_is (finish_entry f.p) (Finished n k) at)
    tells next rest (suc i) n k at = rest i n k at

-- ---- every other event

abbrev pub IsNoFinish : Event → Type 0
IsNoFinish (event.Finish i name) = ⊥
IsNoFinish e = Unit {0}

leaves-told : (F : ℕ → ℕ → Type 0) (w new : World) (e : Event) → IsNoFinish e → (at : CanBe w e) → Leaves w e at new → FinishesOr F w new
leaves-told F w new (event.Finish i name) other at l = absurd other
leaves-told F w new (event.Open i name priority) other at l = same-or-told F w new (open-frame w new i at.x name priority l).logs
leaves-told F w new (event.Clear i c) other at l = same-or-told F w new (clear-frame w new i at.x c at.h l).logs
leaves-told F w new (event.Read i c data_type count) other at l = same-or-told F w new (read-frame w new i at.x c at.h data_type count l).logs
leaves-told F w new (event.Write i c e) other at l = same-or-told F w new (write-frame w new i at.x c at.h e l).logs
leaves-told F w new (event.WriteNotify i c e) other at l = same-or-told F w new (put-frame w new i at.x c at.h e l).logs
leaves-told F w new (event.Subscribe i c data_type count mask) other at l = same-or-told F w new (subscribe-frame w new i at.x c at.h data_type count mask l).logs
leaves-told F w new (event.Unsubscribe i n) other at l = same-or-told F w new (unsubscribe-frame w new i at.x at.s l).logs
leaves-told F w new (event.Collect i r) other at l = same-or-told F w new (handing-frame w new at.x r at.q.1 (Collected r) l).logs
leaves-told F w new (event.GiveUp i r) other at l = same-or-told F w new (handing-frame w new at.x r at.q.1 (GaveUp r) l).logs
leaves-told F w new (event.ClientDatagram i from bytes) other at l = same-or-told F w new (datagram-frame w new i at.x from bytes l).logs
leaves-told F w new (event.ServerDatagram i from bytes) other at l = same-or-told F w new (ap (λ (z : World). z.server_logs) l.2)
leaves-told F w new (event.Accept i) other at l = elim l.leaves [
  | inl full ↦ same-or-told F w new (ap (λ (z : World). z.server_logs) full.1)
  | inr made ↦ same-or-told F w new (ap (λ (z : World). z.server_logs) made.6)
]
leaves-told F w new (event.Up m n) other at l = same-or-told F w new (ap (λ (z : World). z.server_logs) l.2 ∙ (up-frame w m n at.0.j at.0.x at.0.joins.at).logs)
leaves-told F w new (event.Down m n) other at (mid, sent, core, taken, gives, is) = same-or-told F w new (ap (λ (z : World). z.server_logs) is ∙ go taken)
  where
    go : DownTaken w m n at.0.j at.0.y mid → mid.server_logs ≡ w.server_logs
    go (inl (opened, (by, sends, same_it))) = ap (λ (z : World). z.server_logs) same_it
    go (inr (shut, same_it)) = ap (λ (z : World). z.server_logs) same_it
leaves-told F w new (event.ServerStep m) other at l = step-told F w new m at.j at.y l.0 l.1
leaves-told F w new (event.ClientStep m) other at l = same-or-told F w new (hear-frame w new m at.j at.x at.joins.at l).logs
leaves-told F w new (event.Pump m) other at l =
    subst (λ (z : World). FinishesOr F w z) (sym l.leaves)
    (ends-told F (with_circuit m (server.stamped l.updates at.j) w) at.j.server at.y (ends_by at.j.server l.core) l.core)
leaves-told F w new (event.CutClient m) other at l = same-or-told F w new (cut-frame w new m at.j at.x at.joins.at l).logs
leaves-told F w new (event.CutServer m) other at l = subst (λ (z : World). FinishesOr F w z) (sym l.leaves) (ends-told F w at.j.server at.y (ends_by at.j.server l.core) l.core)
leaves-told F w new (event.ClientRestart i) other at l = same-or-told F w new (begun-frame w new i at.x l).logs
leaves-told F w new (event.ServerRestart i) other at l = restart-told F w new i at.y l
leaves-told F w new (event.Post i name e mask) other at l = post-told F w new i at.y name e mask l
leaves-told F w new (event.Remove i name) other at l = remove-told F w new i at.y name l
leaves-told F w new (event.Add i r) other at l = add-told F w new i at.y r l
leaves-told F w new (event.Tick moment) other at (mid, ticks, is) =
    same-or-told F w new (ap (λ (z : World). z.server_logs) is ∙ (ticks-frame moment w (clients_below (length w.clients)) mid ticks).logs)

pub event-told : (F : ℕ → ℕ → Type 0) (w new : World) (e : Event) → IsNoFinish e → Happens w e new → FinishesOr F w new
event-told F w new e other happens = leaves-told F w new e other happens.0 happens.1
