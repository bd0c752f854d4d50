-- Working: what a server does after a message that one of its ends handled.
use Rattle.std.specs.Prelude.{ℕ, ◌≡◌, ◌⊎◌, Option, Some, None, List, if◌then◌else◌, take}
use Rattle.ca_arena.specs.declared.handle.Handle.{Handle}
use Rattle.ca_ids.specs.Table.{Table, under, with_freed}
use Rattle.ca_records.specs.Puts.{Record}
use Rattle.ca_records.specs.Store.{HasAt, IsThere, Store, records_of}
use Rattle.ca_server_watchers.specs.Watching.{IsAmong, Watched, watching}
use Rattle.ca_model.specs.Ends as why
use Rattle.ca_model.specs.Server.{ServerCircuit, ServerEnd, Subscription}
use Rattle.ca_model.specs.Server as server
use Rattle.ca_model.specs.ServerSteps.{write_mask}
use Rattle.ca_model.specs.ServerSteps as steps
use Rattle.ca_model.specs.Speech.{In}
use Rattle.ca_server_circuit.specs.declared.step.FollowUp.{FollowUp}
use Rattle.ca_server_circuit.specs.declared.step.FollowUp.TheVariants as effect
use Rattle.ca_server_core.specs.declared.stepping.CoreStep.{CoreStep}
use Rattle.ca_server_core.specs.Covering.{AreLed, AreListed, Covers, HasTo}
use Rattle.ca_server_core.specs.Ending.{EndsIn}
use Rattle.ca_server_core.specs.Reaching.{ReachesFrom}
use Rattle.ca_server_core.specs.Serving.{stepped}
use Rattle.ca_server_circuit.specs.Circuits.{is_open}

-- ---- before

-- each open end but this one, for its subscriptions on the record of this name, is
-- among those that watch
abbrev pub CoversBut : Handle → List ℕ → Watched → Table ServerCircuit → Type 0
CoversBut h name w t =
    (g : Handle) (e : ServerEnd) (s : Subscription) → under t g ≡ Some (server.Open e)
    → In e.subscriptions s → (IsAmong (watching w s.name) g) ⊎ ((g ≡ h) × (s.name ≡ name))

-- the same for the record at a place
abbrev pub CoversAt : (place : ℕ) → Handle → Store → Watched → Table ServerCircuit → Type 0
CoversAt place h s w t =
    (r : Record) × HasAt s place r × ((c : ServerCircuit) × (under t h ≡ Some c))
    × CoversBut h r.state.name w t

-- who watches, as a message leaves it
abbrev pub CoversFor : FollowUp → Handle → Store → Watched → Table ServerCircuit → Type 0
CoversFor (effect.Quiet did) h s w t = Covers w t
CoversFor (effect.Wrote place busies sid) h s w t = IsThere s place × Covers w t
CoversFor (effect.Began place sid sub) h s w t = CoversAt place h s w t
CoversFor (effect.Opened place sid) h s w t = Covers w t

-- each open end but this one, for its channels to the record of this name, is among
-- those that lead there
abbrev pub LeadsBut : Handle → List ℕ → Watched → Table ServerCircuit → Type 0
LeadsBut h name l t =
    (g : Handle) (e : ServerEnd) (n : List ℕ) → under t g ≡ Some (server.Open e) → HasTo e n
    → (IsAmong (watching l n) g) ⊎ ((g ≡ h) × (n ≡ name))

-- the same for the record at a place
abbrev pub LedAt : (place : ℕ) → Handle → Store → Watched → Table ServerCircuit → Type 0
LedAt place h s l t =
    (r : Record) × HasAt s place r × ((c : ServerCircuit) × (under t h ≡ Some c))
    × LeadsBut h r.state.name l t × AreListed (records_of s) l

-- who leads to records, as a message leaves it
abbrev pub LedFor : FollowUp → Handle → Store → Watched → Table ServerCircuit → Type 0
LedFor (effect.Opened place sid) h s l t = LedAt place h s l t
LedFor did h s l t = AreLed (records_of s) l t

-- ---- after

-- the circuit watches a record, or leads to it; or its end has ended out of memory
abbrev pub Begins : Handle → Table ServerCircuit → Store → Table ServerCircuit → Store → Type 0
Begins h t s after u = ((after ≡ t) × (u ≡ s)) ⊎ EndsIn t h s why.OutOfMemory after u

-- what a message leaves to do was done
abbrev pub Follows : FollowUp → Handle → Table ServerCircuit → Store → Table ServerCircuit → Store
    → Type 0
Follows (effect.Quiet did) h t s after u = (after ≡ t) × (u ≡ s)
Follows (effect.Wrote place busies sid) h t s after u = ReachesFrom place write_mask t s after u
Follows (effect.Began place sid sub) h t s after u = Begins h t s after u
Follows (effect.Opened place sid) h t s after u = Begins h t s after u

-- ---- the answer of the step

-- how a step is answered that handled a message, by what is under the handle now
abbrev pub IsSettled : Option ServerCircuit → (waited : ℕ) → CoreStep → Type 0
IsSettled (Some (server.Open e)) waited did = stepped did ≡ steps.Handled
IsSettled (Some (server.Ended w left)) waited did = stepped did ≡ steps.Closed w (take waited left)
IsSettled None waited did = Unit {0}

-- the same, and the circuit is taken out if its end has ended
abbrev pub Settles : Table ServerCircuit → Handle → (waited : ℕ) → CoreStep → Table ServerCircuit
    → Type 0
Settles t h waited did after =
    IsSettled (under t h) waited did × (after ≡ (if is_open (under t h) then t else with_freed h t))
