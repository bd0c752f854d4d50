-- Working: what a message of a circuit leaves to do, with the pump of the circuit; and the same of
-- a write, if nobody else watches its record.
use Rattle.std.specs.Prelude.{ℕ, ◌≡◌, false, true}
use Rattle.ca_arena.specs.declared.handle.Handle.{Handle}
use Rattle.ca_ids.specs.Table.{Table, under}
use Rattle.ca_records.specs.Store.{Store, records_of}
use Rattle.ca_server_watchers.specs.Watching.{Watched}
use Rattle.ca_model.specs.Server.{ServerCircuit}
use Rattle.ca_model.specs.ServerSteps.{write_mask}
use Rattle.ca_server_circuit.specs.declared.step.FollowUp.{FollowUp}
use Rattle.ca_server_circuit.specs.Circuits.{is_open}
use Rattle.ca_server_circuit.specs.Handling.{is_wrote}
use Rattle.ca_server_circuit.specs.declared.effect.Effect.TheVariants.{Quiet}
use Rattle.ca_server_core.specs.declared.stepping.CoreStep.TheVariants.{Handled}
use Rattle.ca_server_core.specs.Covering.{Covers}
use Rattle.ca_server_core.specs.Following.{Follows, Settles}
use Rattle.ca_server_core.specs.Noting.{TriesAt}
use Rattle.ca_server_core.specs.Pumping.{PumpsIn}
use Rattle.ca_server_core.specs.Reaching.{PostsIn, WatchesIn}
use Rattle.ca_server_core.specs.Serving.{more_applied}
use Rattle.ca_server_core.specs.Sound.{IsSound}

-- The circuit of a handle had its post for a write to the record at a place, which it watches; its
-- end is open then, and was pumped.
pub record ShowsIn (place : ℕ) (h : Handle) (t : Table ServerCircuit) (s : Store)
    (after : Table ServerCircuit) : Type 0 where
  pub mid : Table ServerCircuit
  pub watches : WatchesIn t h place s true
  pub posts : PostsIn t h place write_mask s mid s
  pub opens : is_open (under mid h) ≡ true
  pub pumps : PumpsIn mid h s after s

-- What a message leaves to do was done, as `follow` does it, and no put is to be finished then. The
-- step is answered as it was before, and the circuit was pumped.
pub record GoesThrough (did : FollowUp) (h : Handle) (w : Watched) (t : Table ServerCircuit)
    (s : Store) (after : Table ServerCircuit) : Type 0 where
  pub writes : is_wrote did ≡ true
  pub mid : Table ServerCircuit
  pub follows : Follows did h t s mid s
  pub sound : IsSound (records_of s) mid
  pub covered : Covers w mid
  pub settles : (waited : ℕ) → Settles t h waited (Handled Quiet) t
      → Settles mid h waited (Handled Quiet) mid
  pub tries : (n : ℕ) → TriesAt did n mid s n mid s
  pub pumps : PumpsIn mid h s after s

-- What a message leaves to do was done, and its step is answered as it was before. Then the put of
-- the record to which it wrote ended, if that was busy, and the circuit was pumped. This many
-- writes were applied before, and this many then.
pub record FollowsAndPumps (did : FollowUp) (h : Handle) (n : ℕ) (t : Table ServerCircuit)
    (s : Store) (k : ℕ) (after : Table ServerCircuit) (x : Store) : Type 0 where
  pub mid : Table ServerCircuit
  pub left : Store
  pub follows : Follows did h t s mid left
  pub sound : IsSound (records_of left) mid
  pub settles : (waited : ℕ) → Settles t h waited (Handled Quiet) t
      → Settles mid h waited (Handled Quiet) mid
  pub last : Table ServerCircuit
  pub u : Store
  pub tries : TriesAt did (more_applied (is_wrote did) n) mid left k last u
  pub pumps : PumpsIn last h u after x

-- The same, except that the end of the circuit has ended before its put was looked for.
pub record FollowsAndEnds (did : FollowUp) (h : Handle) (n : ℕ) (t : Table ServerCircuit)
    (s : Store) (k : ℕ) (after : Table ServerCircuit) (x : Store) : Type 0 where
  pub follows : Follows did h t s after x
  pub counts : k ≡ more_applied (is_wrote did) n
  pub ended : is_open (under after h) ≡ false
