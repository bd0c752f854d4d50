use Rattle.std.proofs.Common.{◌≡◌, ◌∷◌, [], ℕ, List, length, map, refl, sym, ap, ◌∙◌, subst, arith}
use Rattle.ca_text.specs.Place.{At}
use Rattle.ca_queue.specs.Circuit.{HasAt, queue_posted}
use Rattle.ca_queue.specs.Queue.{Queue}
use Rattle.ca_model.specs.Speech.{Stored}
use Rattle.ca_server_subscriptions.proofs.Owing.{none-left}
use Rattle.ca_server_subscriptions.proofs.Posts.{copies-less, has-rest, length-snoc}
use Rattle.ca_server_subscriptions.specs.declared.waiting.Addressee.{Addressee}
use Rattle.ca_server_subscriptions.specs.Owing.{with_owed}
use Rattle.ca_server_subscriptions.proofs.waiting.put_all.Goals as goal

pub putting-init : goal.putting-init
putting-init c = (c.requires.count, (λ v copies. (copies, refl)), c.requires.has)

pub unreachable-requires : goal.unreachable-requires
unreachable-requires c =
    let count = c.putting.invariant.0 in
    let more = ap length c.in-Some.ensures.items in
    let both = length-snoc c.pop.new.self.items c.in-Some.copy in
    let none = c.in_default-pop_front.ensures.cases.0 in
    let all = c.putting.owed.ok.0 in
    omega (arith, count, more, both, none, all)

pub post-requires : goal.post-requires
post-requires c =
    let a = c.in-Some-pop_front.addressee in
    c.putting.invariant.2 0 a (subst (λ (xs : List Addressee). At xs 0 a) (sym c.in-Some-pop_front.ensures.items) refl)

pub putting-preserved : goal.putting-preserved
putting-preserved c =
    let a = c.in-Some-pop_front.addressee in
    let u = c.in-Some.copy in
    let items : c.putting.owed.items ≡ a ∷ c.pop_front.new.self.items = c.in-Some-pop_front.ensures.items in
    let count : length c.pop.new.self.items ≡ length c.pop_front.new.self.items =
    (let more = ap length c.in-Some.ensures.items in
    let both = length-snoc c.pop.new.self.items u in
    let all : length c.putting.owed.items ≡ length (a ∷ c.pop_front.new.self.items) = ap length items in
    let before = c.putting.invariant.0 in
    omega (arith, more, both, all, before)) in (
      count,
      λ v copies.
          let had = c.putting.invariant.1 v copies in
          let less = copies-less (length c.putting.owed.items) v u c.putting.copies.items c.pop.new.self.items c.in-Some.ensures.items had.0 in
          let one : c.post.new.self ≡ map (queue_posted a.key v) c.putting.queues = c.post.ensures ∙ ap (λ (w : Stored). map (queue_posted a.key w) c.putting.queues) less.0 in (
            (count, less.1.1),
            ap (λ (qs : List (Queue Stored)). with_owed c.pop_front.new.self.items v qs) one
                ∙ ap (λ (xs : List Addressee). with_owed xs v c.putting.queues) (sym items)
                ∙ had.1,
          ),
      subst (λ (qs : List (Queue Stored)). (i : ℕ) (b : Addressee) → At c.pop_front.new.self.items i b → HasAt qs b.queue b.key) (sym c.post.ensures)
          (has-rest a c.pop_front.new.self.items u c.putting.queues (subst (λ (xs : List Addressee). (i : ℕ) (b : Addressee) → At xs i b → HasAt c.putting.queues b.queue b.key) items c.putting.invariant.2)),
    )

-- all copies are put
left : (c : goal.After-drop-copies) → (let none : List Addressee = [] in c.putting.owed.items ≡ none)
left c =
    let none = c.in_default.ensures.cases.0 in
    let all = c.putting.copies.ok in
    let same_many = c.putting.invariant.0 in
    none-left c.putting.owed.items (length c.putting.owed.items) refl (omega (arith, none, all, same_many))

pub returns-clause-queues : goal.returns-clause-queues
returns-clause-queues c v copies = sym (ap (λ (xs : List Addressee). with_owed xs v c.putting.queues) (left c)) ∙ (c.putting.invariant.1 v copies).1

pub returns-clause-owed : goal.returns-clause-owed
returns-clause-owed c = left c
