-- Vocabulary: the events that a seed draws after those of a script.
use Rattle.std.specs.Prelude.{ℕ, ◌≡◌, ◌⊎◌, ◌++◌, List, [], ◌∷◌, Option, Some, None, length}
use Rattle.std.specs.List.{FoldsTo, range_with_len}
use Rattle.rand_core.specs.Stream.{Stream, next_u32}
use Rattle.ca_world_script.specs.Drawn.{circuit_drawn, event_drawn, numbers, seeded}
use Rattle.ca_model.specs.Events.{Event}
use Rattle.ca_model.specs.Runs.{CanBe, Happens}
use Rattle.ca_model.specs.World.{Setting, World, opening}
use Rattle.ca_world.specs.Waiting.{AreWaiting}
use Rattle.ca_world.specs.declared.circuits.Way.TheVariants.{Down, Up}

-- how many numbers are drawn after each event of a script that was done
abbrev pub draws : ℕ
draws = 16

-- the event that this number is in a world: it acts on a circuit, on which n bytes wait each way
pub record IsDrawn (w : World) (drawn : ℕ) (e : Event) : Type 0 where
  pub circuit : ℕ
  pub up : ℕ
  pub down : ℕ
  pub acts : circuit_drawn drawn (length w.circuits) ≡ Some circuit
  pub waits_up : AreWaiting w circuit Up up
  pub waits_down : AreWaiting w circuit Down down
  pub is : e ≡ event_drawn drawn circuit up down

-- An event that was drawn happens, and is one of the events from then on; or it cannot be
-- done, and is left out.
abbrev pub Takes : World → Event → List Event → List Event → World → Type 0
Takes w e es es' new =
    (Happens w e new × (es' ≡ es ++ e ∷ [])) ⊎ ((CanBe w e → ⊥) × (es' ≡ es) × (new ≡ w))

-- what a number that was drawn makes of a world and of the events so far: it acts nowhere,
-- or its event is taken
abbrev pub DrawsAt : World → (drawn : ℕ) → List Event → List Event → World → Type 0
DrawsAt w drawn es es' new =
    ((circuit_drawn drawn (length w.circuits) ≡ None) × (es' ≡ es) × (new ≡ w))
    ⊎ ((e : Event) × IsDrawn w drawn e × Takes w e es es' new)

-- how far a drawing is: the world, the numbers that are left, and the events so far
pub record Drawn : Type 0 where
  pub world : World
  pub left : Stream
  pub events : List Event

-- the next number is drawn
abbrev pub DrawsNext : Drawn → Drawn → Type 0
DrawsNext old new =
    (drawn : ℕ) × ((drawn, new.left) ≡ next_u32 old.left)
    × DrawsAt old.world drawn old.events new.events new.world

-- n numbers are drawn, one after another
abbrev pub DrawsSome : Drawn → (n : ℕ) → Drawn → Type 0
DrawsSome old n new =
    FoldsTo (λ (d : Drawn) (i : ℕ) (d' : Drawn). DrawsNext d d') old (range_with_len 0 n) new

-- how far a drawing along a script is: the world is there until an event of the
-- script cannot be done
pub record Along : Type 0 where
  pub world : Option World
  pub left : Stream
  pub events : List Event

-- an event of the script happens, and the numbers after it are drawn
pub record HappensThenDraws (w : World) (left : Stream) (es : List Event) (e : Event)
    (new : Along) : Type 0 where
  pub mid : World
  pub last : Drawn
  pub happens : Happens w e mid
  pub draws : DrawsSome (record { world = mid; left = left; events = es ++ e ∷ [] }) draws last
  pub after : new ≡ record { world = Some last.world; left = last.left; events = last.events }

-- The next event of the script. Once one cannot be done, no number is drawn any more, and the
-- others stay as they are.
abbrev pub GoesOn : Option World → Stream → List Event → Event → Along → Type 0
GoesOn None left es e new = new ≡ record { world = None; left = left; events = es ++ e ∷ [] }
GoesOn (Some w) left es e new =
    HappensThenDraws w left es e new
    ⊎ ((CanBe w e → ⊥) × (new ≡ record { world = None; left = left; events = es ++ e ∷ [] }))

abbrev pub GoesAlong : Along → Event → Along → Type 0
GoesAlong old e new = GoesOn old.world old.left old.events e new

-- before the first event
abbrev pub outset : Setting → (seed : ℕ) → Along
outset s seed = record { world = Some (opening s); left = numbers (seeded seed); events = [] }

-- The events of a script with those that a seed draws, in a world of this setting.
abbrev pub DrawsAlong : Setting → (seed : ℕ) → List Event → List Event → Type 0
DrawsAlong s seed script es =
    (last : Along) × FoldsTo GoesAlong (outset s seed) script last × (es ≡ last.events)
