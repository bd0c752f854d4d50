-- The calls of a server by which no write is applied and no put comes to wait.
use Rattle.std.proofs.Common.{◌≡◌, ◌≤◌, ℕ, Bool, true, false, cond, not, inl, inr, List, ◌∷◌, ◌++◌, Option, Some, None, Result, Ok, Err, length, refl, sym, ◌∙◌, subst, arith}
use Rattle.std.specs.Prelude.{drop, map, take}
use Rattle.std.specs.Str.{bytes_eq}
use Rattle.ca_arena.specs.declared.handle.Handle.{Handle}
use Rattle.ca_dbr.specs.declared.value.Meta.{Meta}
use Rattle.ca_dbr.specs.Elements.{Elements}
use Rattle.ca_records.specs.declared.puts.Put.{Put}
use Rattle.ca_records.specs.declared.puts.Stamp.{Stamp}
use Rattle.ca_records.specs.Puts.{Record, new_record, record_named, removed, waiting_in, with_record, with_value, withdrawn, without_puts}
use Rattle.ca_records.specs.Record.{RecordState}
use Rattle.ca_text.specs.declared.refusal.Refusal.{Refusal}
use Rattle.ca_text.specs.declared.refusal.Refusal.TheVariants as refusal
use Rattle.ca_model.specs.Server.{Server}
use Rattle.ca_model.specs.ServerCalls.{AddsRecord, Beacons, Posts, Removes, stamped}
use Rattle.ca_model.specs.ServerSteps.{Accepts, Cuts, Gives, Pumps, Sends, Update, closed, ended}
use Rattle.ca_model.specs.Ends.{Why}
use Rattle.ca_model.specs.Speech.{Stored}
use Rattle.ca_server_core.specs.Pumping.{HandsOver}
use Rattle.ca_server.specs.Counts.{CountsNothing}
use Rattle.ca_server.proofs.Names.{Distinct, apart, distinct, distinct-added, distinct-filter, distinct-map, lacks-named}
use Rattle.ca_server.proofs.Waits.{fewer-without, waits-added, waits-fewer, waits-filter, with-record-fewer}

-- ---- records

-- no more puts wait for these, and their names are apart if those were
pub record Fewer (old new : List Record) : Type 0 where
  pub names : Distinct old → Distinct new
  pub waits : waiting_in new ≤ waiting_in old

pub fewer-same : (rs : List Record) → Fewer rs rs
fewer-same rs = record { names = λ d. d; waits = omega arith }

pub fewer-then : (a b c : List Record) → Fewer a b → Fewer b c → Fewer a c
fewer-then a b c p q = record { names = λ d. q.names (p.names d); waits = omega (arith, p.waits, q.waits) }

pub fewer-map : (f : Record → Record) → ((r : Record) → (f r).state.name ≡ r.state.name) → ((r : Record) → length (f r).waiting ≤ length r.waiting) → (rs : List Record) → Fewer rs (map f rs)
fewer-map f same fewer rs = record { names = distinct-map f same rs; waits = waits-fewer f fewer rs }

pub fewer-withdrawn : (which : Put → Bool) (rs : List Record) → Fewer rs (withdrawn which rs)
fewer-withdrawn which rs = fewer-map (without_puts which) (λ r. refl) (fewer-without which) rs

pub named-so : (f : Record → Record) → ((r : Record) → (f r).state.name ≡ r.state.name) → (r : Record) (b : Bool) → (cond b (f r) r).state.name ≡ r.state.name
named-so f same r true = same r
named-so f same r false = refl

pub fewer-changed : (name : List ℕ) (f : Record → Record) → ((r : Record) → (f r).state.name ≡ r.state.name) → ((r : Record) → length (f r).waiting ≤ length r.waiting) → (rs : List Record) → Fewer rs (with_record name f rs)
fewer-changed name f same fewer rs =
    fewer-map (λ (r : Record). cond (bytes_eq r.state.name name) (f r) r) (λ r. named-so f same r (bytes_eq r.state.name name)) (λ r. with-record-fewer f name fewer r (bytes_eq r.state.name name)) rs

pub fewer-valued : (name : List ℕ) (e : Elements) (m : Meta) (rs : List Record) → Fewer rs (with_record name (with_value e m) rs)
fewer-valued name e m rs = fewer-changed name (with_value e m) (λ r. refl) (λ r. omega arith) rs

pub fewer-removed : (name : List ℕ) (rs : List Record) → Fewer rs (removed name rs)
fewer-removed name rs = record {
  names = distinct-filter (λ (r : Record). not (bytes_eq r.state.name name)) rs;
  waits = waits-filter (λ (r : Record). not (bytes_eq r.state.name name)) rs;
}

pub fewer-added : (n : ℕ) (s : RecordState) (rs : List Record) → record_named rs s.name ≡ None → Fewer rs (take n rs ++ new_record s ∷ drop n rs)
fewer-added n s rs none = record {
  names = distinct-added n (new_record s) rs (lacks-named s.name rs none);
  waits = (let e = waits-added n s rs in omega arith);
}

-- ---- servers

pub nothing : (old new : Server) → new.applied ≡ old.applied → Fewer old.records new.records → CountsNothing old new
nothing old new same fewer = record { applied = same; waits = fewer.waits; apart = λ a. apart new.records (fewer.names (distinct old.records a)) }

pub unchanged : (old new : Server) → new ≡ old → CountsNothing old new
unchanged old new is = subst (λ (y : Server). CountsNothing old y) (sym is) (nothing old old refl (fewer-same old.records))

-- by what the server is after
by : (old to new : Server) → new ≡ to → CountsNothing old to → CountsNothing old new
by old to new is c = subst (λ (y : Server). CountsNothing old y) (sym is) c

pub ended-nothing : (h : Handle) (w : Why) (left : List ℕ) (y : Server) → CountsNothing y (ended h w left y)
ended-nothing h w left y = nothing y (ended h w left y) refl (fewer-withdrawn _ y.records)

pub closed-nothing : (h : Handle) (y : Server) → CountsNothing y (closed h y)
closed-nothing h y = nothing y (closed h y) refl (fewer-withdrawn _ y.records)

pub accepts : (old : Server) (r : Result Handle Refusal) (new : Server) → Accepts old r new → CountsNothing old new
accepts old (Ok h) new did = by old _ new did.1 (nothing old _ refl (fewer-same old.records))
accepts old (Err refusal.ArenaFull) new did = unchanged old new did.1
accepts old (Err refusal.OutOfMemory) new did = unchanged old new did.1
accepts old (Err _) new did = absurd did

pub gives : (old : Server) (h : Handle) (bytes : List ℕ) (r : Result (Unit {0}) Refusal) (new : Server) → Gives old h bytes r new → CountsNothing old new
gives old h bytes (Ok _) new did = by old _ new did.2 (nothing old _ refl (fewer-same old.records))
gives old h bytes (Err refusal.CircuitClosed) new did = unchanged old new did.1
gives old h bytes (Err refusal.OutOfMemory) new did = unchanged old new did.2
gives old h bytes (Err _) new did = absurd did

pub sends : (old : Server) (h : Handle) (n : ℕ) (new : Server) → Sends old h n new → CountsNothing old new
sends old h n new (inl did) = by old _ new did.3 (nothing old _ refl (fewer-same old.records))
sends old h n new (inr none) = unchanged old new none.2

pub hands : (old : Server) (h : Handle) (out : List ℕ) (new : Server) → HandsOver old h out new → CountsNothing old new
hands old h out new did = by old _ new did.2 (nothing old _ refl (fewer-same old.records))

pub then-nothing : (a b c : Server) → CountsNothing a b → CountsNothing b c → CountsNothing a c
then-nothing a b c p q = record { applied = q.applied ∙ p.applied; waits = omega (arith, p.waits, q.waits); apart = λ names. q.apart (p.apart names) }

pub cuts : (old : Server) (h : Handle) (new : Server) → Cuts old h new → CountsNothing old new
cuts old h new (inl did) = by old _ new did.2 (ended-nothing h _ _ old)
cuts old h new (inr none) = unchanged old new none.1

pub pumps : (old : Server) (h : Handle) (updates : List Update) (new : Server) → Pumps old h updates new → CountsNothing old new
pumps old h updates new (inl did) = elim did.2.2 [
  | inl rests ↦ by old _ new rests.1 (nothing old _ refl (fewer-same old.records))
  | inr lacks ↦ by old _ new lacks.1 (ended-nothing h _ _ old)
]
pumps old h updates new (inr none) = unchanged old new none.2

pub stamps : (old : Server) (s : Stamp) (new : Server) → new ≡ stamped s old → CountsNothing old new
stamps old s new is = by old _ new is (nothing old (stamped s old) refl (fewer-same old.records))

pub beacons : (old : Server) (now : ℕ) (sent : Option (List ℕ)) (new : Server) → Beacons old now sent new → CountsNothing old new
beacons old now None new did = by old _ new did.1 (nothing old _ refl (fewer-same old.records))
beacons old now (Some bytes) new did = by old _ new did.2 (nothing old _ refl (fewer-same old.records))

pub posts : (old : Server) (name : List ℕ) (v : Stored) (mask : ℕ) (gone : Handle → Bool) (r : Result (Unit {0}) Refusal) (new : Server) → Posts old name v mask gone r new → CountsNothing old new
posts old name v mask gone (Ok _) new did =
    by old _ new did.2
    (nothing old _ refl (fewer-then old.records (with_record name (with_value v.value v.meta) old.records) _ (fewer-valued name v.value v.meta old.records) (fewer-withdrawn (λ (p : Put). gone p.circuit) (with_record name (with_value v.value v.meta) old.records))))
posts old name v mask gone (Err e) new did = unchanged old new did.1

pub removes : (old : Server) (name : List ℕ) (gone : Handle → Bool) (left : Handle → ℕ) (r : Result (Unit {0}) Refusal) (new : Server) → Removes old name gone left r new → CountsNothing old new
removes old name gone left (Ok _) new did =
    by old _ new did.2
    (nothing old _ refl (fewer-then old.records (removed name old.records) _ (fewer-removed name old.records) (fewer-withdrawn (λ (p : Put). gone p.circuit) (removed name old.records))))
removes old name gone left (Err refusal.UnknownRecord) new did = unchanged old new did.1
removes old name gone left (Err e) new did = absurd did

pub adds : (old : Server) (s : RecordState) (behind : ℕ) (r : Result (Unit {0}) Refusal) (new : Server) → AddsRecord old s behind r new → CountsNothing old new
adds old s behind (Ok _) new did = by old _ new did.1 (nothing old _ refl (fewer-added behind s old.records did.0.1))
adds old s behind (Err refusal.OutOfMemory) new did = unchanged old new did.1
adds old s behind (Err e) new did = unchanged old new did.1
