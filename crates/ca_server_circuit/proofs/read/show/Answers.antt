use Rattle.std.proofs.Common.{ℕ, List, [], ◌∷◌, Result, ap, ◌∙◌}
use Rattle.ca_text.specs.declared.refusal.Refusal.{Refusal}
use Rattle.ca_link.specs.Link.{LinkState, with_sent}
use Rattle.ca_wire.specs.Messages.{read_request}
use Rattle.ca_wire.specs.Made.{with_payload}
use Rattle.ca_server_subscriptions.specs.Imaging.{shown_image}
use Rattle.ca_server_circuit.proofs.Imaging.{queued-not, read-failed, read-made, read-sized, why-not}
use Rattle.ca_server_circuit.proofs.read.show.Goals as goal

pub queue_made-requires-clause-sized : goal.queue_made-requires-clause-sized
queue_made-requires-clause-sized c =
    read-sized c.args.of.now (read_request c.args.wanted.now) c.args.asked c.requires.order c.held-held.result.now c.held-held.ensures.held c.meta.result.now c.meta.ensures c.know.ensures

pub returns-in-Ok-clause-ok : goal.returns-in-Ok-clause-ok
returns-in-Ok-clause-ok c =
    let head = c.read_head-head.result in
    let x = c.in-Ok.ensures.1 in (
      with_payload x.0 head,
      read-made c.args.of.now (read_request c.args.wanted.now) c.args.asked c.requires.order c.held-held.result.now c.held-held.ensures.held c.meta.result.now c.meta.ensures head c.read_head-head.ensures x.0 x.1,
      x.2,
    )

pub returns-clause-ok : goal.returns-clause-ok
returns-clause-ok c =
    let head = c.read_head-head.result in
    let made : Result (List ℕ) Refusal = shown_image c.args.wanted.now.data_type c.args.asked.count c.held-held.result.now c.meta.result.now in
    let why = c.in-Err.refusal in
    let new = c.queue_made.new.self in
    let q = c.in-Err.ensures in
    let reply = c.read_status.result in (
      reply,
      read-failed c.args.of.now (read_request c.args.wanted.now) c.args.asked c.requires.order c.held-held.result.now c.held-held.ensures.held c.meta.result.now c.meta.ensures why (why-not head made c.args.link.now new why c.in-Some.ensures.0 c.requires.open q) c.in-Some.status.number c.in-Some.ensures.1 reply c.read_status.ensures,
      c.in_ok-send-in-Some.ensures.ok ∙ ap (λ (l : LinkState). with_sent (reply ∷ []) l) (queued-not head made c.args.link.now new why q),
    )
