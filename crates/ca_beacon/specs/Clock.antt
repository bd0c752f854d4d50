-- When beacons are due. Moments are milliseconds; a sum of them stops at the greatest u64.
use Rattle.std.specs.Prelude.{ℕ, ◌+◌, ◌*◌, ◌%◌, ◌^◌, List, [], ◌∷◌, min}
use Rattle.ca_text.specs.Waits.{latest}

-- the number of the next beacon, the wait after it, and the moment from which it is due
pub record Clock : Type 0 where
  pub number : ℕ
  pub wait : ℕ
  pub due : ℕ

abbrev pub fresh : ℕ → Clock
fresh start = record { number = 0; wait = 20; due = start }

-- the clock after a beacon that was sent now
abbrev pub sent_at : Clock → ℕ → Clock
sent_at c now =
    record {
      number = (c.number + 1) % 2 ^ 32;
      wait = min (2 * c.wait) 15000;
      due = min (now + c.wait) latest;
    }

-- the clock after beacons of these moments
abbrev pub run : Clock → List ℕ → Clock
run c [] = c
run c (now ∷ moments) = run (sent_at c now) moments
