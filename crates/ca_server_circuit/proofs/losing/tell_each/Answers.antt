use Rattle.std.proofs.Common.{sym, subst}
use Rattle.ca_arena.specs.declared.handle.Handle.{Handle}
use Rattle.ca_link.specs.Calls.{IsOpen}
use Rattle.ca_link.specs.Link.{LinkState}
use Rattle.ca_server_circuit.specs.Removing.{SendsSome, notices}
use Rattle.ca_server_circuit.proofs.Lost.{cid-is, is-open, leading, leads-within, long-enough, sent-none, told-all, told-more, told-some}
use Rattle.ca_server_circuit.proofs.Replying.{in-err}
use Rattle.ca_server_circuit.proofs.losing.tell_each.Goals as goal

abbrev none : Handle
none = record { index = 0; generation = 0 }

pub loop-i-init : goal.loop-i-init
loop-i-init c = sym (sent-none c.args.link.now)

pub cid_of-requires : goal.cid_of-requires
cid_of-requires c =
    let all = c.channels_to-all.result.now in
    let w = leads-within c.args.name.now c.args.channels.now c.loop-i.i none all c.channels_to-all.ensures c.loop-i-test.true in
    is-open c.args.channels.now _ w.0 w.3

pub send-requires : goal.send-requires
send-requires c = subst (λ (x : LinkState). IsOpen x) (sym c.loop-i.invariant) c.requires

pub loop-i-preserved : goal.loop-i-preserved
loop-i-preserved c =
    let all = c.channels_to-all.result.now in
    let w = leads-within c.args.name.now c.args.channels.now c.loop-i.i none all c.channels_to-all.ensures c.loop-i-test.true in
    let named = cid-is c.args.channels.now _ w.0 c.cid_of.result w.3 c.cid_of.ensures in
    told-more c.args.name.now c.loop-i.i c.args.channels.now c.args.link.now c.loop-i.link c.send.new.link _ w.0 c.disconnect-notice.result c.cid_of.result w.1 named c.disconnect-notice.ensures c.loop-i.invariant c.in_ok-send.ensures.ok

pub returns-in_err-send-clause-err : goal.returns-in_err-send-clause-err
returns-in_err-send-clause-err c =
    let all = c.channels_to-all.result.now in
    let w = leads-within c.args.name.now c.args.channels.now c.loop-i.i none all c.channels_to-all.ensures c.loop-i-test.true in
    let some = told-some c.args.name.now c.loop-i.i c.args.channels.now c.args.link.now c.loop-i.link _ w.1 c.loop-i.invariant in
    in-err _ (subst (λ (x : LinkState). SendsSome (notices (leading c.args.name.now c.args.channels.now)) c.args.link.now x) (sym c.in_err-send.ensures.err) some)

pub returns-clause-ok : goal.returns-clause-ok
returns-clause-ok c =
    let past = long-enough c.args.name.now c.loop-i.i c.args.channels.now c.channels_to-all.result.now c.channels_to-all.ensures c.loop-i-test.false in
    told-all c.args.name.now c.loop-i.i c.args.channels.now c.args.link.now c.loop-i.link past c.loop-i.invariant
