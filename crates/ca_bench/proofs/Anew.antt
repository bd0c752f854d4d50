-- Which subscriptions a queue has once one was cancelled and added again.
use Rattle.std.proofs.Common.{◌≡◌, true, Ok, inl, inr, ap, ◌∙◌, subst}
use Rattle.std.proofs.lemmas.Bool.{cases_Bool, or_left, or_right}
use Rattle.ca_queue.specs.declared.entry.SubKey.{SubKey}
use Rattle.ca_queue.specs.Keys.{same, is_among}
use Rattle.ca_queue.specs.Queue.{Queue, Adds, cancelled}
use Rattle.ca_queue.proofs.Keys.{among_push, among_without, same_is, same_itself}

module _ {E : Type 0} where
  pub own_anew : (key : SubKey) (old new : Queue E) → Adds old key (Ok tt) new → is_among key new.subscriptions ≡ true
  own_anew key old new adds =
      ap (λ (q : Queue E). is_among key q.subscriptions) adds.1 ∙ among_push key key old.subscriptions
      ∙ or_right (is_among key old.subscriptions) (same key key) (same_itself key)

  pub others_anew : (k key : SubKey) (old left new : Queue E) → left ≡ cancelled key old → Adds left key (Ok tt) new → is_among k old.subscriptions ≡ true → is_among k new.subscriptions ≡ true
  others_anew k key old left new is adds had =
      elim (cases_Bool (same key k)) [
        | inl it ↦ subst (λ (s : SubKey). is_among s new.subscriptions ≡ true) (same_is key k it) (own_anew key left new adds)
        | inr other ↦
            ap (λ (q : Queue E). is_among k q.subscriptions) adds.1 ∙ among_push k key left.subscriptions
            ∙ or_left (is_among k left.subscriptions) (same k key) (ap (λ (q : Queue E). is_among k q.subscriptions) is ∙ among_without k key old.subscriptions other ∙ had)
      ]
