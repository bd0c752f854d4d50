-- Statement: on which record a message was handled, what it is about, and what caused it.
use Rattle.std.specs.Prelude.{ℕ, ◌≡◌, ◌<◌, ◌≤◌, List, Some, take}
use Rattle.ca_text.specs.Place.{At}
use Rattle.ca_model.specs.Speech.{Id, Disconnects, Gives, sid_in}
use Rattle.ca_model.specs.History.{Subscribe, On, Cause, Reply, Removal, Update, Sent, Told, Step}
use Rattle.ca_model.specs.History.{Circuit, Entry, Removed}
use Rattle.ca_model.specs.Channels.{Created, IsUncleared, IsOpen, before, named, until}

-- The message at place k was handled on record r: that of the channel that was open then under its
-- SID.
abbrev pub Acted : Circuit → List Entry → (k r : ℕ) → Type 0
Acted c y k r =
    (s : Sent) × (h : Step) × (i l : ℕ) × At c.up k s × At c.handled k h
    × IsOpen (before c k h) (take h.logged y) i l (sid_in s.message) r

-- When it reads the message at place j, the client takes the id for that of its message at place k:
-- the last so far that gave it.
abbrev pub Took : Circuit → (j : ℕ) → Id → (k : ℕ) → Type 0
Took c j id k =
    (s : Sent) × At c.up k s × Gives s.message id × (k < until c j)
    × ((l : ℕ) (r : Sent) → k < l → l < until c j → At c.up l r → Gives r.message id → ⊥)

-- The id in the message at place j is taken for what the client's message at place p is about, and
-- was not given again since.
abbrev pub TakesOwn : Circuit → (j p : ℕ) → Id → Type 0
TakesOwn c j p id =
    (k number : ℕ) × (s r : Sent) × Took c j id k × (k ≤ p) × At c.up k s × At c.up p r
    × (named id s.intent ≡ Some number) × (named id r.intent ≡ Some number)

-- The EVENT_ADD s at place k was accepted in step h: it was handled on record r, and no reply
-- refused it.
abbrev pub Accepted : Circuit → List Entry → (k r : ℕ) → Sent → Step → Type 0
Accepted c y k r s h =
    (channel number : ℕ) × At c.up k s × (s.intent ≡ On channel (Subscribe number))
    × At c.handled k h × Acted c y k r
    × ((j : ℕ) (t : Told) → At c.down j t → t.place ≡ k → t.cause ≡ Reply → ⊥)

-- A message has its cause: an update an accepted EVENT_ADD; a SERVER_DISCONN a channel that was
-- open when its record was removed.
abbrev pub HasCause : Circuit → List Entry → Told → Cause → Type 0
HasCause c y t Reply = Unit {0}
HasCause c y t (Update item) = (r : ℕ) × (s : Sent) × (h : Step) × Accepted c y t.place r s h
HasCause c y t Removal =
    (j sid r e : ℕ) × (s : Sent) × Created c y j t.place sid r × At y e (Removed r)
    × IsUncleared c t.place sid e
    × At c.up t.place s × Disconnects s.message t.message
