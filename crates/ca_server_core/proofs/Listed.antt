-- Names without a record have no line of watchers, as records and lines change.
use Rattle.std.proofs.Common.{◌≡◌, ℕ, inl, inr, Bool, true, false, List, [], Option, Some, None, Ok, refl, sym, ap, ◌∙◌, subst}
use Rattle.std.specs.Str.{bytes_eq}
use Rattle.std.proofs.lemmas.Slice.Eq.{bytes_eq-Decides}
use Rattle.ca_arena.specs.declared.handle.Handle.{Handle}
use Rattle.ca_dbr.specs.declared.value.Meta.{Meta}
use Rattle.ca_dbr.specs.Elements.{Elements}
use Rattle.ca_ids.specs.Table.{Table}
use Rattle.ca_records.specs.declared.puts.Finished.{Finished}
use Rattle.ca_records.specs.declared.puts.Put.{Put}
use Rattle.ca_records.specs.Puts.{Record, WaitingPut, record_named, with_value, withdrawn}
use Rattle.ca_records.specs.Record.{RecordState}
use Rattle.ca_records.specs.Store.{HasAt, Store, records_of}
use Rattle.ca_records.specs.Writes as writes
use Rattle.ca_server_watchers.specs.Watching.{OthersStay, Watched, line_of}
use Rattle.ca_model.specs.Ends.{Why}
use Rattle.ca_model.specs.Server.{Ended, Open, ServerCircuit}
use Rattle.ca_server_circuit.specs.declared.cause.EndCause.{EndCause}
use Rattle.ca_server_circuit.specs.declared.step.FollowUp.{FollowUp}
use Rattle.ca_server_circuit.specs.declared.step.EndStep.TheVariants as step
use Rattle.ca_server_circuit.specs.Ending.{EndsAt}
use Rattle.ca_server_circuit.specs.Finishing.{RepliesAt}
use Rattle.ca_server_circuit.specs.Pumping.{PumpsAt}
use Rattle.ca_server_circuit.specs.Serving.{CircuitSteps}
use Rattle.ca_server_circuit.specs.Stepping.{after_first}
use Rattle.ca_server_core.specs.Covering.{AreListed}
use Rattle.ca_server_core.specs.Ending.{EndsIn}
use Rattle.ca_server_core.specs.Finishing.{RepliesIn}
use Rattle.ca_server_core.specs.Pumping.{PumpsIn}
use Rattle.ca_server_core.specs.Serving.{StepsIn}
use Rattle.ca_server_circuit.proofs.Stays.{record-keeps, recorded-keeps, withdrawn-keeps}
use Rattle.ca_server_core.proofs.Added.{named-added}
use Rattle.ca_server_core.proofs.Finished.{finished-keeps, finished-records}
use Rattle.ca_server_core.proofs.Ordered.{named-there}
use Rattle.ca_server_core.proofs.Posted.{posted-records}
use Rattle.ca_server_core.proofs.Reached.{Walk}
use Rattle.ca_server_core.proofs.Stepped.{not-some}

abbrev Circuits : Type 0
Circuits = Table ServerCircuit

pub none-found : {A : Type 0} (o : Option Record) (r : Record) → o ≡ None → o ≡ Some r → A
none-found None r none some = absurd cc
none-found (Some x) r none some = absurd cc

-- ---- records change

-- each record is found still
abbrev pub AreFound : List Record → List Record → Type 0
AreFound rs qs = (n : List ℕ) (r : Record) → record_named rs n ≡ Some r → (q : Record) × (record_named qs n ≡ Some q)

found-same : (rs qs : List Record) → qs ≡ rs → AreFound rs qs
found-same rs qs same n r is = (r, ap (λ (x : List Record). record_named x n) same ∙ is)

pub found-withdrawn : (test : Put → Bool) (rs qs : List Record) → qs ≡ withdrawn test rs → AreFound rs qs
found-withdrawn test rs qs are = subst (λ (x : List Record). AreFound rs x) (sym are) (withdrawn-keeps test (λ (q : Record) (w : WaitingPut). ⊥) rs).0

pub listed-kept : (rs qs : List Record) (w : Watched) → AreFound rs qs → AreListed rs w → AreListed qs w
listed-kept rs qs w found listed name none = by (record_named rs name) refl
  where
    by : (o : Option Record) → record_named rs name ≡ o → line_of w name ≡ None
    by None is = listed name is
    by (Some r) is = (let q = found name r is in none-found (record_named qs name) q.0 none q.1)

found-stores : (s u : Store) → u ≡ s → AreFound (records_of s) (records_of u)
found-stores s u same = found-same (records_of s) (records_of u) (ap (λ (x : Store). records_of x) same)

-- the end of a circuit ends
found-ended : (s u : Store) (t after : Circuits) (h : Handle) (w : Why) → EndsIn t h s w after u → AreFound (records_of s) (records_of u)
found-ended s u t after h w (inr none) = found-stores s u none.2
found-ended s u t after h w (inl g) = by g.0 g.1 g.3
  where
    by : (c new : ServerCircuit) → EndsAt h c s w new u → AreFound (records_of s) (records_of u)
    by (Open e) new did = found-withdrawn _ (records_of s) (records_of u) did.1.records
    by (Ended v left) new did = found-stores s u did.1

pub listed-ended : (s u : Store) (t after : Circuits) (h : Handle) (y : Why) (w : Watched) → EndsIn t h s y after u → AreListed (records_of s) w → AreListed (records_of u) w
listed-ended s u t after h y w did listed = listed-kept (records_of s) (records_of u) w (found-ended s u t after h y did) listed

-- updates leave
pub listed-pumped : (s u : Store) (t after : Circuits) (h : Handle) (w : Watched) → PumpsIn t h s after u → AreListed (records_of s) w → AreListed (records_of u) w
listed-pumped s u t after h w (inr none) listed = listed-kept (records_of s) (records_of u) w (found-stores s u none.2) listed
listed-pumped s u t after h w (inl g) listed = listed-kept (records_of s) (records_of u) w (by g.0 g.1 g.3) listed
  where
    by : (c new : ServerCircuit) → PumpsAt h c s new u → AreFound (records_of s) (records_of u)
    by (Open e) new (us, last, f, inl (rests, is, room, same)) = found-stores s u same
    by (Open e) new (us, last, f, inr (more, is, out)) = found-withdrawn _ (records_of s) (records_of u) out.records
    by (Ended v left) new did = found-stores s u did.1

-- a step
pub listed-step : (port : ℕ) (s u : Store) (t after : Circuits) (h : Handle) (did : FollowUp) (w : Watched) → StepsIn port t h s (Some (step.Handled did)) after u → AreListed (records_of s) w → AreListed (records_of u) w
listed-step port s u t after h did w (inr none) listed = not-some (step.Handled did) none.1
listed-step port s u t after h did w (inl g) listed = listed-kept (records_of s) (records_of u) w (by g.0 g.1 g.3) listed
  where
    by : (c new : ServerCircuit) → CircuitSteps port h c s (Some (step.Handled did)) new u → AreFound (records_of s) (records_of u)
    by (Open e) new d = (recorded-keeps (records_of s) (records_of u) s.stamp h (after_first d.1.0) d.1.0.m d.1.1.action d.1.1.records).0
    by (Ended v left) new d = not-some (step.Handled did) d.0

pub listed-broke : (port : ℕ) (s u : Store) (t after : Circuits) (h : Handle) (c : EndCause) (w : Watched) → StepsIn port t h s (Some (step.Breaks c)) after u → AreListed (records_of s) w → AreListed (records_of u) w
listed-broke port s u t after h c w (inr none) listed = not-some (step.Breaks c) none.1
listed-broke port s u t after h c w (inl g) listed = listed-kept (records_of s) (records_of u) w (by g.0 g.1 g.3) listed
  where
    by : (x new : ServerCircuit) → CircuitSteps port h x s (Some (step.Breaks c)) new u → AreFound (records_of s) (records_of u)
    by (Open e) new broke = found-withdrawn _ (records_of s) (records_of u) broke.2.records
    by (Ended v left) new broke = not-some (step.Breaks c) broke.0

pub listed-none : (port : ℕ) (s u : Store) (t after : Circuits) (h : Handle) (w : Watched) → StepsIn port t h s None after u → AreListed (records_of s) w → AreListed (records_of u) w
listed-none port s u t after h w (inr none) listed = listed-kept (records_of s) (records_of u) w (found-stores s u none.3) listed
listed-none port s u t after h w (inl g) listed = listed-kept (records_of s) (records_of u) w (by g.0 g.1 g.3) listed
  where
    by : (x new : ServerCircuit) → CircuitSteps port h x s None new u → AreFound (records_of s) (records_of u)
    by (Open e) new was = absurd was
    by (Ended v left) new was = found-stores s u was.2

-- a record has a new value
pub listed-posted : (s u : Store) (name : List ℕ) (e : Elements) (meta : Meta) (place : ℕ) (w : Watched) → writes.Posts s name e meta (Ok place) u → AreListed (records_of s) w → AreListed (records_of u) w
listed-posted s u name e meta place w did listed =
    listed-kept (records_of s) (records_of u) w
    (subst (λ (rs : List Record). AreFound (records_of s) rs) (sym (posted-records s u name e meta place did))
    (record-keeps name (with_value e meta) (λ (q : Record) (p : WaitingPut). ⊥) (λ r. refl) (λ r k p same at. inl ((k, at), tt)) (records_of s)).0)
    listed

-- a put is finished, and its reply goes out
pub listed-finished : (s s1 s2 : Store) (t t2 : Circuits) (name : List ℕ) (f : Finished) (w : Watched) → writes.Finishes s name (Ok f) s1 → RepliesIn t f.ended s1 t2 s2 → AreListed (records_of s) w → AreListed (records_of s2) w
listed-finished s s1 s2 t t2 name f w did replies listed =
    listed-kept (records_of s1) (records_of s2) w (replied replies)
    (listed-kept (records_of s) (records_of s1) w (subst (λ (rs : List Record). AreFound (records_of s) rs) (sym (finished-records s s1 name f did)) (finished-keeps s.stamp name (records_of s)).0) listed)
  where
    by : (c new : ServerCircuit) → RepliesAt f.ended c s1 new s2 → AreFound (records_of s1) (records_of s2)
    by (Open e) new (inl sent) = found-stores s1 s2 sent.2
    by (Open e) new (inr (inl lack)) = found-withdrawn _ (records_of s1) (records_of s2) lack.2.records
    by (Open e) new (inr (inr shut)) = found-stores s1 s2 shut.2
    by (Ended v left) new at = found-stores s1 s2 at.1

    replied : RepliesIn t f.ended s1 t2 s2 → AreFound (records_of s1) (records_of s2)
    replied (inr none) = found-stores s1 s2 none.2
    replied (inl g) = by g.0 g.1 g.3

-- one more record
pub listed-added : (s u : Store) (state : RecordState) (place : ℕ) (w : Watched) → writes.Adds s state (Ok place) u → AreListed (records_of s) w → AreListed (records_of u) w
listed-added s u state place w did listed = listed-kept (records_of s) (records_of u) w (λ n r is. named-added s u state place did n r is) listed

-- ---- lines change

-- there are none yet
pub listed-empty : (rs : List Record) (w : Watched) → w ≡ [] → AreListed rs w
listed-empty rs w empty name none = ap (λ (v : Watched). line_of v name) empty

-- the line of a record that is there
pub listed-others : (rs : List Record) (w v : Watched) (name : List ℕ) → (record_named rs name ≡ None → ⊥) → OthersStay name w v → AreListed rs w → AreListed rs v
listed-others rs w v name there stay listed other none = by (bytes_eq other name) refl
  where
    by : (b : Bool) → bytes_eq other name ≡ b → line_of v other ≡ None
    by true hit = absurd (there (ap (λ (n : List ℕ). record_named rs n) (sym ((bytes_eq-Decides other name).0 hit)) ∙ none))
    by false miss = stay other miss ∙ listed other none

-- that of the record at a place
pub listed-at : (s : Store) (place : ℕ) (r : Record) (w v : Watched) → HasAt s place r → OthersStay r.state.name w v → AreListed (records_of s) w → AreListed (records_of s) v
listed-at s place r w v at stay listed = listed-others (records_of s) w v r.state.name (named-there s place r at) stay listed

-- a post has reached those that watch its record
pub listed-walked : (place mask : ℕ) (w0 : Watched) (t0 : Circuits) (s0 : Store) (k : ℕ) (w : Watched) (t : Circuits) (s : Store) → Walk place mask w0 t0 s0 k w t s → AreListed (records_of s0) w0 → AreListed (records_of s) w
listed-walked place mask w0 t0 s0 k w t s a listed =
    listed-kept (records_of s0) (records_of s) w (found-withdrawn _ (records_of s0) (records_of s) a.walked.records) (listed-at s0 place a.r w0 w a.at a.stay listed)
