-- The channels that a client searches, and what each call does to them (section "CA Search").
use Rattle.std.specs.Prelude.{ℕ, ◌≡◌, ◌≢◌, Bool, nat_eq, if◌then◌else◌, max, List, [], ◌∷◌, ◌++◌}
use Rattle.std.specs.Prelude.{map, Some, Vec, Result, Ok, Err}
use Rattle.std.specs.List.{list_any}
use Rattle.std.specs.declared.alloc.Global.{Global}
use Rattle.ca_text.specs.declared.refusal.Refusal.{Refusal}
use Rattle.ca_text.specs.declared.refusal.Refusal.TheVariants.{OutOfMemory}
use Rattle.ca_search.specs.Clock.{fresh}
use Rattle.ca_search.specs.Searches.{Channel, Wanted, passed, wanted_at}

-- the latest moment that was given, and the channels under their CIDs, in the order in
-- which they were added
pub record Searches : Type 0 where
  pub moment : ℕ
  pub channels : List (ℕ × Channel)

-- the moment that counts: an earlier one than the latest counts as that
abbrev pub at : Searches → ℕ → ℕ
at s now = max s.moment now

abbrev pub holds : ℕ → List (ℕ × Channel) → Bool
holds cid channels = list_any (λ c. nat_eq cid c.0) channels

-- the channels with this done to the one of this CID, if there is one
abbrev pub with_one : (Channel → Channel) → ℕ → List (ℕ × Channel) → List (ℕ × Channel)
with_one f cid [] = []
with_one f cid (c ∷ channels) =
    if nat_eq cid c.0 then (c.0, f c.1) ∷ channels else c ∷ with_one f cid channels

-- the channels without the one of this CID, if there is one
abbrev pub without : ℕ → List (ℕ × Channel) → List (ℕ × Channel)
without cid [] = []
without cid (c ∷ channels) = if nat_eq cid c.0 then channels else c ∷ without cid channels

-- the channels with this done to each
abbrev pub with_all : (Channel → Channel) → List (ℕ × Channel) → List (ℕ × Channel)
with_all f channels = map (λ c. (c.0, f c.1)) channels

-- Adding a channel of this CID and name at this moment, with this answer, leaves new.
abbrev pub Adds : Searches → ℕ → List ℕ → ℕ → Result (Unit {0}) Refusal → Searches → Type 0
Adds old cid name now (Ok _) new =
    new ≡ record {
      moment = at old now;
      channels =
          old.channels ++ (cid, record { name = name; clock = Some (fresh (at old now)) }) ∷ [];
    }
Adds old cid name now (Err OutOfMemory) new = new ≡ old
Adds old cid name now (Err _) new = ⊥

-- Asking for the searches that are due at this moment, with this answer, leaves new: they count as
-- made. Memory is asked for only if there is one.
abbrev pub Finds : Searches → ℕ → Result (Vec Wanted Global) Refusal → Searches → Type 0
Finds old now (Ok found) new =
    (found.items ≡ wanted_at (at old now) old.channels)
    × (new ≡ record { moment = at old now; channels = with_all (passed (at old now)) old.channels })
Finds old now (Err OutOfMemory) new = (wanted_at (at old now) old.channels ≢ []) × (new ≡ old)
Finds old now (Err _) new = ⊥
