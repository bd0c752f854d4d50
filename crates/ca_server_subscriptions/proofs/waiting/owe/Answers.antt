use Rattle.std.proofs.Common.{◌≡◌, ◌++◌, ◌∷◌, [], List, Bool, cond, filter, map, ap, ◌∙◌}
use Rattle.ca_server_subscriptions.proofs.Posts.{owes-all, owes-next}
use Rattle.ca_server_subscriptions.proofs.Receivers.{index-at}
use Rattle.ca_server_subscriptions.specs.ByRecord.{is_masked}
use Rattle.ca_server_subscriptions.specs.declared.waiting.Addressee.{Addressee}
use Rattle.ca_server_subscriptions.specs.Owing.{addressee_of}
use Rattle.ca_server_subscriptions.proofs.waiting.owe.Goals.{then-is_masked+in_ok-push_back, else-is_masked}
use Rattle.ca_server_subscriptions.proofs.waiting.owe.Goals as goal

pub owing-init : goal.owing-init
owing-init c = ap (λ (xs : List Addressee). xs ++ map addressee_of (filter (is_masked c.args.mask) c.args.receivers.now)) c.requires

pub owing-preserved : goal.owing-preserved
owing-preserved c =
    let r = c.index-receivers-i.result in
    let did : c.if-is_masked.owed.items ≡ cond (is_masked c.args.mask r) (c.owing.owed.items ++ addressee_of r ∷ []) c.owing.owed.items =
    elim c.if-is_masked.branch [
      | then-is_masked+in_ok-push_back w ↦
          ap (λ (d : _). d.items) w.owed-is
          ∙ w.in_ok-push_back.ensures.items
          ∙ (λ t. c.owing.owed.items ++ record { queue = w.queue.ensures t; key = w.key.ensures t } ∷ [])
          ∙ ap (λ (b : Bool). cond b (c.owing.owed.items ++ addressee_of r ∷ []) c.owing.owed.items) (w.if-is_masked.ensures)
      | else-is_masked w ↦ ap (λ (d : _). d.items) w.owed-is ∙ ap (λ (b : Bool). cond b (c.owing.owed.items ++ addressee_of r ∷ []) c.owing.owed.items) (w.if-is_masked.ensures)
    ] in
    owes-next c.args.receivers.now c.owing.i r c.args.mask c.owing.owed.items c.if-is_masked.owed.items _
    (index-at c.args.receivers.now c.owing.i r c.owing-test.true c.index-receivers-i.is) c.owing.invariant did

pub returns : goal.returns
returns c = owes-all c.args.receivers.now c.owing.i c.args.mask c.owing.owed.items _ c.owing-test.false c.owing.invariant
