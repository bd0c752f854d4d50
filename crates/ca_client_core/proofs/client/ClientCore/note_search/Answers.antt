use Rattle.ca_client_core.proofs.Tried.{kept-none, kept-one}
use Rattle.std.proofs.Common.{refl}
use Rattle.ca_client_core.proofs.client.ClientCore.note_search.Goals as goal

pub returns-then-is_over-clause-kept : goal.returns-then-is_over-clause-kept
returns-then-is_over-clause-kept c = kept-none c.args.self.now c.args.self.now c.args.circuit refl

pub returns-in_err-message-clause-kept : goal.returns-in_err-message-clause-kept
returns-in_err-message-clause-kept c = kept-none c.args.self.now c.args.self.now c.args.circuit refl

pub returns-in_err-queue-clause-kept : goal.returns-in_err-queue-clause-kept
returns-in_err-queue-clause-kept c = kept-none c.args.self.now c.queue.new.self c.args.circuit c.in_err-queue.ensures.err

pub returns-in_err-push-clause-kept : goal.returns-in_err-push-clause-kept
returns-in_err-push-clause-kept c = kept-one c.args.self.now c.queue.new.self c.args.circuit _ c.in_ok-queue.ensures.ok

pub returns-clause-kept : goal.returns-clause-kept
returns-clause-kept c = kept-one c.args.self.now c.queue.new.self c.args.circuit _ c.in_ok-queue.ensures.ok
