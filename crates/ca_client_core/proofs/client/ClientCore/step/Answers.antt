use Rattle.ca_client_core.proofs.Replied.{first-bad, first-gone, first-heard, first-out, first-waits}
use Rattle.ca_client_core.proofs.client.ClientCore.step.Goals as goal

pub returns-in-Gone : goal.returns-in-Gone
returns-in-Gone c = first-gone c.args.self.now c.args.circuit c.gone.result c.in-Gone.ensures c.gone.ensures

pub returns-in-NeedBytes : goal.returns-in-NeedBytes
returns-in-NeedBytes c = first-waits c.args.self.now c.args.circuit c.in-NeedBytes.ensures

pub returns-in-Ok : goal.returns-in-Ok
returns-in-Ok c = first-heard c.args.self.now c.args.circuit c.in-Message.head c.in-Ok.told c.hear.new.self c.in-Message.ensures c.in-Ok.ensures

pub returns-in-Err : goal.returns-in-Err
returns-in-Err c =
    first-out c.args.self.now c.args.circuit c.in-Message.head c.in-Err.field-0 c.hear.new.self c.end.new.self c.end.result c.in-Message.ensures c.in-Err.ensures c.end.ensures.told c.end.ensures.ended

pub returns-in-Bad : goal.returns-in-Bad
returns-in-Bad c = first-bad c.args.self.now c.args.circuit c.in-Bad.why c.end-in-Bad.new.self c.end-in-Bad.result c.in-Bad.ensures c.end-in-Bad.ensures.told c.end-in-Bad.ensures.ended
