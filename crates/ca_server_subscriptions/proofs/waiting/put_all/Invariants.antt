use Rattle.std.proofs.Common.{ℕ, ◌≡◌, length}
use Rattle.ca_text.specs.Place.{At}
use Rattle.ca_queue.specs.Circuit.{HasAt}
use Rattle.ca_model.specs.Speech.{Stored}
use Rattle.ca_server_subscriptions.specs.declared.waiting.Addressee.{Addressee}
use Rattle.ca_server_subscriptions.specs.Owing.{AreCopies, with_owed}
use Rattle.ca_server_subscriptions.proofs.waiting.put_all.Given as goal

abbrev pub invariant-putting : goal.invariant-putting
invariant-putting l =
    (length l.copies.items ≡ length l.owed.items)
    × ((v : Stored) → AreCopies (length l.fn.owed.items) v l.fn.copies.items → AreCopies (length l.owed.items) v l.copies.items × (with_owed l.owed.items v l.queues ≡ with_owed l.fn.owed.items v l.fn.queues))
    × ((i : ℕ) (a : Addressee) → At l.owed.items i a → HasAt l.queues a.queue a.key)

abbrev pub decreases-putting : goal.decreases-putting
decreases-putting l = goal.left-putting l
