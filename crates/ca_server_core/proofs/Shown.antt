-- Display data of a record that a caller sets.
use Rattle.std.proofs.Common.{◌≡◌, ℕ, Bool, true, false, cond, List, Result, Ok, Err, Some, None, refl, sym, ap, ◌∙◌, subst}
use Rattle.std.specs.Str.{bytes_eq}
use Rattle.ca_arena.specs.declared.handle.Handle.{Handle}
use Rattle.ca_beacon.specs.Clock.{Clock}
use Rattle.ca_dbr.specs.DisplayData.{DisplayData}
use Rattle.ca_dbr.specs.Elements.{displayed}
use Rattle.ca_dbr.specs.Held.{bare}
use Rattle.ca_ids.specs.Table.{Table, under}
use Rattle.ca_records.specs.declared.puts.Put.{Put}
use Rattle.ca_records.specs.Puts.{Record, WaitingPut, record_named, shown_by, with_record, withdrawn}
use Rattle.ca_records.specs.Record.{RecordState}
use Rattle.ca_records.specs.Store.{Store, records_of}
use Rattle.ca_records.specs.Writes as writes
use Rattle.ca_text.specs.Place.{At}
use Rattle.ca_text.proofs.Places.{At-mapped}
use Rattle.ca_text.specs.declared.refusal.Refusal.{Refusal}
use Rattle.ca_text.specs.declared.refusal.Refusal.TheVariants as refusal
use Rattle.ca_ids.specs.Table.{same_handle}
use Rattle.ca_model.specs.Server.{Open, OpenChannel, Server, ServerCircuit}
use Rattle.ca_model.specs.ServerCalls.{SetsDisplay, property_mask}
use Rattle.ca_model.specs.Speech.{Stored}
use Rattle.ca_server_circuit.proofs.Stays.{named-still}
use Rattle.ca_server_core.specs.Covering.{AreListed}
use Rattle.ca_server_core.specs.Reaching.{ReachesAll, ReachesFrom}
use Rattle.ca_server_core.specs.Sound.{IsSound}
use Rattle.ca_server_core.proofs.Listed.{listed-kept}
use Rattle.ca_server_core.proofs.Reached.{there-is}
use Rattle.ca_server_core.proofs.Servers.{same-parts, server_of}
use Rattle.ca_server_watchers.specs.Watching.{Watched}

-- the record of this name, or another
abbrev shown_at : List ℕ → DisplayData → Record → Record
shown_at name d r = cond (bytes_eq r.state.name name) (shown_by d r) r

-- ---- what waits for it

-- a put that waits for a record waited for that of its name, with the value that it had
record Before (rs : List Record) (q : Record) (w : WaitingPut) : Type 0 where
  pub i : ℕ
  pub r : Record
  pub k : ℕ
  pub v : WaitingPut
  pub at : At rs i r
  pub waits : At r.waiting k v
  pub put : v.put ≡ w.put
  pub named : r.state.name ≡ q.state.name

waited : (name : List ℕ) (d : DisplayData) (rs : List Record) (i : ℕ) (q : Record) (k : ℕ) (w : WaitingPut) → At (with_record name (shown_by d) rs) i q → At q.waiting k w → Before rs q w
waited name d rs i q k w at here =
    let m = At-mapped (shown_at name d) rs i q at in by (bytes_eq m.0.state.name name) m.0 m.1 m.2
  where
    by : (b : Bool) (r : Record) → At rs i r → q ≡ cond b (shown_by d r) r → Before rs q w
    by true r there is =
        let waiting : At (shown_by d r).waiting k w = subst (λ (x : Record). At x.waiting k w) is here in
        let m = At-mapped (λ (p : WaitingPut). record p { value = displayed d (bare p.value) }) r.waiting k w waiting in
        record { i = i; r = r; k = k; v = m.0; at = there; waits = m.1; put = ap (λ (x : WaitingPut). x.put) (sym m.2); named = ap (λ (x : Record). x.state.name) (sym is) }
    by false r there is =
        record { i = i; r = r; k = k; v = w; at = there; waits = subst (λ (x : Record). At x.waiting k w) is here; put = refl; named = ap (λ (x : Record). x.state.name) (sym is) }

-- ---- the records

found-shown : (name : List ℕ) (d : DisplayData) (rs : List Record) (n : List ℕ) (r : Record) → record_named rs n ≡ Some r → (q : Record) × (record_named (with_record name (shown_by d) rs) n ≡ Some q)
found-shown name d rs n r is = named-still (shown_at name d) (λ r. named (bytes_eq r.state.name name) r) rs n r is
  where
    named : (b : Bool) (r : Record) → (cond b (shown_by d r) r).state.name ≡ r.state.name
    named true r = refl
    named false r = refl

sound-so : (name : List ℕ) (d : DisplayData) (rs : List Record) (t : Table ServerCircuit) → IsSound rs t → IsSound (with_record name (shown_by d) rs) t
sound-so name d rs t i = record {
  ends = λ h e at. (
      let o = i.ends h e at in
      record {
        live = o.live;
        room = o.room;
        served = λ k c kept there. (let r = o.served k c kept there in found-shown name d rs c.name r.0 r.1);
        puts = λ j q k w at here same. (
            let b = waited name d rs j q k w at here in
            let p = o.puts b.i b.r b.k b.v b.at b.waits (ap (λ (x : Put). same_handle x.circuit h) b.put ∙ same) in
            (p.0, subst (λ (x : Put). under e.channels x.channel ≡ Some p.0) b.put p.1, p.2 ∙ b.named, p.3)
            );
        on = o.on;
        few = o.few;
      }
      );
  waits = λ j q k w at here. (
      let b = waited name d rs j q k w at here in
      let o = i.waits b.i b.r b.k b.v b.at b.waits in
      (o.0, subst (λ (x : Put). under t x.circuit ≡ Some (Open o.0)) b.put o.1)
      );
}

shown-records : (s u : Store) (name : List ℕ) (d : DisplayData) (place : ℕ) → writes.SetsDisplay s name d (Ok place) u → records_of u ≡ with_record name (shown_by d) (records_of s)
shown-records s u name d place did =
    did.1.becomes.records (shown_by d) refl ∙ ap (λ (x : List ℕ). with_record x (shown_by d) (records_of s)) did.1.named

pub shown-sound : (s u : Store) (t : Table ServerCircuit) (name : List ℕ) (d : DisplayData) (place : ℕ) → writes.SetsDisplay s name d (Ok place) u → IsSound (records_of s) t → IsSound (records_of u) t
shown-sound s u t name d place did i =
    subst (λ (rs : List Record). IsSound rs t) (sym (shown-records s u name d place did)) (sound-so name d (records_of s) t i)

pub listed-shown : (s u : Store) (name : List ℕ) (d : DisplayData) (place : ℕ) (w : Watched) → writes.SetsDisplay s name d (Ok place) u → AreListed (records_of s) w → AreListed (records_of u) w
listed-shown s u name d place w did listed =
    listed-kept (records_of s) (records_of u) w
    (λ n r is. subst (λ (rs : List Record). (q : Record) × (record_named rs n ≡ Some q)) (sym (shown-records s u name d place did)) (found-shown name d (records_of s) n r is))
    listed

-- ---- the server

pub viewed-shown : (y : Server) (port now n : ℕ) (b : Clock) (s u x : Store) (t last : Table ServerCircuit) (name : List ℕ) (d : DisplayData) (place : ℕ) → server_of port s now t b n ≡ y → writes.SetsDisplay s name d (Ok place) u → ReachesFrom place property_mask t u last x
    → (gone : Handle → Bool) × SetsDisplay y name d gone (Ok tt) (server_of port x now last b n)
viewed-shown y port now n b s u x t last name d place is did from =
    let turns = did.1 in
    let next : Record = shown_by d did.0 in
    let v : Stored = record { value = next.state.value; meta = next.state.meta } in
    let state : from.0.state ≡ next.state = ap (λ (r : Record). r.state) (there-is u place from.0 next from.1 turns.becomes.there) in
    let gone = from.2.0 in
    let all : ReachesAll did.0.state.name property_mask v gone t u last x = subst (λ (r : RecordState). ReachesAll r.name property_mask (record { value = r.value; meta = r.meta }) gone t u last x) state from.2.1 in
    let mine : ReachesAll name property_mask v gone t u last x = subst (λ (r : List ℕ). ReachesAll r property_mask v gone t u last x) turns.named all in
    let rules : x.rules ≡ s.rules = mine.rules ∙ ap (λ (z : Store). z.rules) turns.becomes.leaves in
    let stamp : x.stamp ≡ s.stamp = mine.stamp ∙ ap (λ (z : Store). z.stamp) turns.becomes.leaves in
    let records = mine.records ∙ ap (λ (rs : List Record). withdrawn (λ (p : Put). gone p.circuit) rs) (shown-records s u name d place did) in
    subst (λ (z : Server). (gone : Handle → Bool) × SetsDisplay z name d gone (Ok tt) (server_of port x now last b n)) is
    (gone, (did.0, turns.found, mine.may, same-parts port now b x.rules s.rules (records_of x) _ x.stamp s.stamp last _ n n rules records stamp mine.circuits refl))

-- a refusal
pub viewed-unshown : (y : Server) (port now n : ℕ) (b : Clock) (s u : Store) (t : Table ServerCircuit) (name : List ℕ) (d : DisplayData) (f : Refusal) → server_of port s now t b n ≡ y → writes.SetsDisplay s name d (Err f) u
    → (gone : Handle → Bool) × SetsDisplay y name d gone (Err f) (server_of port u now t b n)
viewed-unshown y port now n b s u t name d refusal.UnknownRecord is did =
    ((λ (h : Handle). false), (subst (λ (rs : List Record). record_named rs name ≡ None) (ap (λ (z : Server). z.records) is) did.0, ap (λ (z : Store). server_of port z now t b n) did.1 ∙ is))
viewed-unshown y port now n b s u t name d _ is did = absurd did
