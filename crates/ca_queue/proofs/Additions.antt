-- Which subscriptions a queue does not have after a call.
use Rattle.std.proofs.Common.{◌≡◌, false, Result, Ok, Err, ap, ◌∙◌}
use Rattle.std.proofs.lemmas.Bool.{or_from}
use Rattle.ca_text.specs.declared.refusal.Refusal.{Refusal}
use Rattle.ca_queue.specs.declared.entry.SubKey.{SubKey}
use Rattle.ca_queue.specs.Keys.{same, is_among}
use Rattle.ca_queue.specs.Queue.{Queue, Adds, cancelled}
use Rattle.ca_queue.proofs.Keys.{among_push, among_without}

module _ {E : Type 0} where
  pub new_after_add : (k key : SubKey) (old new : Queue E) (result : Result (Unit {0}) Refusal) → Adds old key result new → same k key ≡ false → is_among k old.subscriptions ≡ false → is_among k new.subscriptions ≡ false
  new_after_add k key old new (Ok _) adds other none =
      ap (λ (q : Queue E). is_among k q.subscriptions) adds.1
      ∙ among_push k key old.subscriptions
      ∙ or_from (is_among k old.subscriptions) (same k key) none other
  new_after_add k key old new (Err refusal) adds other none = ap (λ (q : Queue E). is_among k q.subscriptions) adds.1 ∙ none

  pub new_after_cancel : (k key : SubKey) (old new : Queue E) → new ≡ cancelled key old → same key k ≡ false → is_among k old.subscriptions ≡ false → is_among k new.subscriptions ≡ false
  new_after_cancel k key old new is other none =
      ap (λ (q : Queue E). is_among k q.subscriptions) is ∙ among_without k key old.subscriptions other ∙ none
