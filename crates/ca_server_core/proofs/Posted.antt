-- A post of a caller.
use Rattle.std.proofs.Common.{◌≡◌, ℕ, inl, Bool, false, List, Result, Ok, Err, refl, sym, ap, ◌∙◌, subst}
use Rattle.std.specs.Prelude.{IsErrAnd}
use Rattle.ca_arena.specs.declared.handle.Handle.{Handle}
use Rattle.ca_beacon.specs.Clock.{Clock}
use Rattle.ca_dbr.specs.declared.value.Meta.{Meta}
use Rattle.ca_dbr.specs.Elements.{Elements}
use Rattle.ca_ids.specs.Table.{Table}
use Rattle.ca_records.specs.declared.puts.Put.{Put}
use Rattle.ca_records.specs.Calls.{PostFault}
use Rattle.ca_records.specs.Puts.{Record, WaitingPut, with_record, with_value, withdrawn}
use Rattle.ca_records.specs.Record.{RecordState}
use Rattle.ca_records.specs.Store.{Store, records_of}
use Rattle.ca_records.specs.Writes as writes
use Rattle.ca_text.specs.declared.refusal.Refusal.{Refusal}
use Rattle.ca_model.specs.Server.{Server, ServerCircuit}
use Rattle.ca_model.specs.ServerCalls.{Posts}
use Rattle.ca_model.specs.Speech.{Stored}
use Rattle.ca_server_core.specs.Reaching.{ReachesAll, ReachesFrom}
use Rattle.ca_server_core.specs.Sound.{IsSound}
use Rattle.ca_server_core.proofs.Finished.{sound-kept}
use Rattle.ca_server_core.proofs.Reached.{there-is}
use Rattle.ca_server_core.proofs.Servers.{same-parts, server_of}
use Rattle.ca_server_circuit.proofs.Stays.{record-keeps}

-- the records after the value of one was set
pub posted-records : (s u : Store) (name : List ℕ) (e : Elements) (meta : Meta) (place : ℕ) → writes.Posts s name e meta (Ok place) u → records_of u ≡ with_record name (with_value e meta) (records_of s)
posted-records s u name e meta place did =
    did.1.1.becomes.records (with_value e meta) refl ∙ ap (λ (x : List ℕ). with_record x (with_value e meta) (records_of s)) did.1.1.named

pub posted-sound : (s u : Store) (t : Table ServerCircuit) (name : List ℕ) (e : Elements) (meta : Meta) (place : ℕ) → writes.Posts s name e meta (Ok place) u → IsSound (records_of s) t → IsSound (records_of u) t
posted-sound s u t name e meta place did i =
    subst (λ (rs : List Record). IsSound rs t) (sym (posted-records s u name e meta place did))
    (sound-kept (records_of s) _ t (record-keeps name (with_value e meta) (λ (q : Record) (w : WaitingPut). ⊥) (λ r. refl) (λ r k w same at. inl ((k, at), tt)) (records_of s)) i)

pub viewed-post : (y : Server) (port now n mask : ℕ) (b : Clock) (s u x : Store) (t last : Table ServerCircuit) (name : List ℕ) (e : Elements) (meta : Meta) (place : ℕ) → server_of port s now t b n ≡ y → writes.Posts s name e meta (Ok place) u → ReachesFrom place mask t u last x
    → (gone : Handle → Bool) × Posts y name (record { value = e; meta = meta }) mask gone (Ok tt) (server_of port x now last b n)
viewed-post y port now n mask b s u x t last name e meta place is did from =
    let v : Stored = record { value = e; meta = meta } in
    let turns = did.1.1 in
    let state : from.0.state ≡ (with_value e meta did.1.0).state = ap (λ (r : Record). r.state) (there-is u place from.0 (with_value e meta did.1.0) from.1 turns.becomes.there) in
    let gone = from.2.0 in
    let all : ReachesAll did.1.0.state.name mask v gone t u last x = subst (λ (r : RecordState). ReachesAll r.name mask (record { value = r.value; meta = r.meta }) gone t u last x) state from.2.1 in
    let mine : ReachesAll name mask v gone t u last x = subst (λ (r : List ℕ). ReachesAll r mask v gone t u last x) turns.named all in
    let rules : x.rules ≡ s.rules = mine.rules ∙ ap (λ (z : Store). z.rules) turns.becomes.leaves in
    let stamp : x.stamp ≡ s.stamp = mine.stamp ∙ ap (λ (z : Store). z.stamp) turns.becomes.leaves in
    let records = mine.records ∙ ap (λ (rs : List Record). withdrawn (λ (p : Put). gone p.circuit) rs) (posted-records s u name e meta place did) in
    subst (λ (z : Server). (gone : Handle → Bool) × Posts z name (record { value = e; meta = meta }) mask gone (Ok tt) (server_of port x now last b n)) is
    (gone, (did.0, mine.may, same-parts port now b x.rules s.rules (records_of x) _ x.stamp s.stamp last _ n n rules records stamp mine.circuits refl))

-- a refusal
pub viewed-refused : (y : Server) (port now n mask : ℕ) (b : Clock) (s u : Store) (t : Table ServerCircuit) (name : List ℕ) (e : Elements) (meta : Meta) (f : Refusal) → server_of port s now t b n ≡ y → writes.Posts s name e meta (Err f) u
    → (gone : Handle → Bool) × Posts y name (record { value = e; meta = meta }) mask gone (Err f) (server_of port u now t b n)
viewed-refused y port now n mask b s u t name e meta f is did = ((λ (h : Handle). false), by f did.0)
  where
    same : server_of port u now t b n ≡ y
    same = ap (λ (z : Store). server_of port z now t b n) did.1 ∙ is

    rs-is : records_of s ≡ y.records
    rs-is = ap (λ (z : Server). z.records) is

    by : (f : Refusal) → PostFault (records_of s) name e f → Posts y name (record { value = e; meta = meta }) mask (λ (h : Handle). false) (Err f) (server_of port u now t b n)
    by f fault = (subst (λ (rs : List Record). PostFault rs name e f) rs-is fault, same)

pub same-error : (r : Result (Unit {0}) Refusal) (e : Refusal) → IsErrAnd r (λ x. x ≡ e) → r ≡ Err e
same-error (Ok x) e h = absurd h
same-error (Err x) e h = ap (λ (y : Refusal). Err y) h
