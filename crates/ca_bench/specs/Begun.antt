-- The subscriptions that were begun.
use Rattle.std.specs.Prelude.{ℕ, ◌≡◌, ◌<◌, true, List}
use Rattle.ca_queue.specs.declared.entry.SubKey.{SubKey}
use Rattle.ca_queue.specs.Keys.{is_among}

-- the subscriptions below n are among these
abbrev pub HasBelow : ℕ → List SubKey → Type 0
HasBelow n keys = (i : ℕ) → i < n → is_among (record { sid = 1; sub = i }) keys ≡ true
