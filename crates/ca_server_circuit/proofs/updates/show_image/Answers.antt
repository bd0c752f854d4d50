use Rattle.std.proofs.Common.{◌≡◌, ℕ, List, [], ◌∷◌, Result, replicate, ap, ◌∙◌}
use Rattle.ca_text.specs.declared.refusal.Refusal.{Refusal}
use Rattle.ca_text.specs.Status.{get_fail, normal}
use Rattle.ca_display.specs.Image.{size_in}
use Rattle.ca_link.specs.Link.{LinkState, with_sent}
use Rattle.ca_wire.specs.Fields.{Fields}
use Rattle.ca_wire.specs.declared.replies.Answered.{Answered}
use Rattle.ca_wire.specs.Made.{with_payload}
use Rattle.ca_wire.specs.Messages.{update}
use Rattle.ca_server_subscriptions.specs.Imaging.{shown_image}
use Rattle.ca_server_subscriptions.proofs.Imaging.{image_type-of-number}
use Rattle.ca_server_circuit.proofs.Imaging.{queued-not, update-failed, update-made, update-sized, why-not}
use Rattle.ca_server_circuit.proofs.Pumps.{some-update}
use Rattle.ca_server_circuit.proofs.updates.show_image.Goals as goal

pub queue_made-requires-clause-sized : goal.queue_made-requires-clause-sized
queue_made-requires-clause-sized c =
    update-sized c.args.wanted c.args.shown.now c.in-Ok.ensures.0 c.in-Ok.ensures.1 c.count_for-count.result c.count_for-count.ensures.count c.held-held.result.now c.held-held.ensures.held c.meta.result.now c.meta.ensures c.in-Ok.size c.know.ensures c.in-Ok.ensures.2

pub returns-in-Ok-queue_made-clause-ok : goal.returns-in-Ok-queue_made-clause-ok
returns-in-Ok-queue_made-clause-ok c =
    let w = c.args.wanted in
    let head = c.update_head-head.result in
    let head-is : head ≡ update w.data_type c.count_for-count.result normal w.id [] = c.update_head-head.ensures ∙ ap (λ (a : Answered). update a.data_type a.count a.status.number a.id []) c.answered.ensures in
    let x = c.in-Ok-queue_made.ensures.1 in (
      with_payload x.0 head,
      update-made w c.args.shown.now c.in-Ok.ensures.0 c.in-Ok.ensures.1 c.count_for-count.result c.count_for-count.ensures.count c.held-held.result.now c.held-held.ensures.held c.meta.result.now c.meta.ensures head head-is x.0 x.1,
      x.2,
    )

pub returns-in-None-clause-some : goal.returns-in-None-clause-some
returns-in-None-clause-some c = some-update c.args.wanted c.args.shown.now c.in-Ok.ensures.0 (image_type-of-number c.in-Ok.ensures.0 c.args.wanted.data_type c.in-Ok.ensures.1)

pub returns-clause-some : goal.returns-clause-some
returns-clause-some c = some-update c.args.wanted c.args.shown.now c.in-Ok.ensures.0 (image_type-of-number c.in-Ok.ensures.0 c.args.wanted.data_type c.in-Ok.ensures.1)

pub returns-in-Ok-send_zeros-clause-ok : goal.returns-in-Ok-send_zeros-clause-ok
returns-in-Ok-send_zeros-clause-ok c =
    let w = c.args.wanted in
    let t = c.in-Ok.ensures.0 in
    let n = c.count_for-count.result in
    let n-is = c.count_for-count.ensures.count in
    let a : Answered = c.answered-about.result in
    let head = c.update_head-head.result in
    let made : Result (List ℕ) Refusal = shown_image w.data_type n c.held-held.result.now c.meta.result.now in
    let why = c.in-Err.refusal in
    let new = c.queue_made.new.self in
    let q = c.in-Err.ensures in
    let zeros : Fields = update a.data_type a.count a.status.number a.id (replicate c.in-Ok.size 0) in
    let zeros-is = ap (λ (x : Answered). update x.data_type x.count x.status.number x.id (replicate c.in-Ok.size 0)) c.answered-about.ensures
    ∙ ap (λ (k : ℕ). update w.data_type n get_fail w.id (replicate k 0)) c.in-Ok.ensures.2
    ∙ ap (λ (k : ℕ). update w.data_type k get_fail w.id (replicate (size_in t k) 0)) n-is in (
      zeros,
      update-failed w c.args.shown.now t c.in-Ok.ensures.1 n n-is c.held-held.result.now c.held-held.ensures.held c.meta.result.now c.meta.ensures why (why-not head made c.args.link.now new why c.in-Some.ensures.0 c.requires.open q) zeros zeros-is,
      c.in-Ok-send_zeros.ensures.ok ∙ ap (λ (l : LinkState). with_sent (zeros ∷ []) l) (queued-not head made c.args.link.now new why q),
    )
