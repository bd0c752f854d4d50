use Rattle.std.proofs.Common.{◌≡◌, Some, get_or, ap, ◌∙◌, subst}
use Rattle.std.specs.Prelude.{option_map}
use Rattle.ca_arena.specs.declared.handle.Handle.{Handle}
use Rattle.ca_ids.specs.Table.{Table, under}
use Rattle.ca_model.specs.Server.{OpenChannel, ServerEnd}
use Rattle.ca_server_circuit.specs.ByName.{channels_to}
use Rattle.ca_server_circuit.proofs.Lost.{cid-is, is-open, leads-within, listed-all, listed-more, long-enough, some-listed}
use Rattle.ca_server_circuit.proofs.Replying.{in-err}
use Rattle.ca_server_circuit.proofs.end.End.channels_to.Goals as goal

abbrev none : Handle
none = record { index = 0; generation = 0 }

pub cid_of-cid-requires : goal.cid_of-cid-requires
cid_of-cid-requires c =
    let all = c.channels_to-channels.result.now in
    let w = leads-within c.args.name.now c.self.inside.channels c.loop-i.i none all c.channels_to-channels.ensures c.loop-i-test.true in
    is-open c.self.inside.channels _ w.0 w.3

pub loop-i-preserved : goal.loop-i-preserved
loop-i-preserved c =
    let name = c.args.name.now in
    let t = c.args.self.now.channels in
    let all = c.channels_to-channels.result.now in
    let same = ap (λ (x : ServerEnd). x.channels) c.self.view_is in
    let is = c.channels_to-channels.ensures ∙ ap (λ (u : Table OpenChannel). channels_to name u) same in
    let w = leads-within name t c.loop-i.i none all is c.loop-i-test.true in
    let told = subst (λ (u : Table OpenChannel). option_map (λ (x : OpenChannel). x.cid) (under u (get_or all c.loop-i.i none)) ≡ Some c.cid_of-cid.result) same c.cid_of-cid.ensures in
    let named = cid-is t _ w.0 c.cid_of-cid.result w.3 told in
    listed-more name c.loop-i.i t _ w.0 c.loop-i.all.items c.push.new.self.items _ _ w.1 (c.number.ensures ∙ c.of.ensures) (c.number-in-loop-i.ensures ∙ named) c.loop-i.invariant c.in_ok-push.ensures.items

pub returns-in_err-push-clause-some : goal.returns-in_err-push-clause-some
returns-in_err-push-clause-some c =
    let name = c.args.name.now in
    let t = c.args.self.now.channels in
    let all = c.channels_to-channels.result.now in
    let same = ap (λ (x : ServerEnd). x.channels) c.self.view_is in
    let is = c.channels_to-channels.ensures ∙ ap (λ (u : Table OpenChannel). channels_to name u) same in
    let w = leads-within name t c.loop-i.i none all is c.loop-i-test.true in
    in-err _ (some-listed name c.loop-i.i t _ w.1)

pub returns-clause-ok : goal.returns-clause-ok
returns-clause-ok c =
    let name = c.args.name.now in
    let t = c.args.self.now.channels in
    let same = ap (λ (x : ServerEnd). x.channels) c.self.view_is in
    let is = c.channels_to-channels.ensures ∙ ap (λ (u : Table OpenChannel). channels_to name u) same in
    listed-all name c.loop-i.i t c.loop-i.all.items (long-enough name c.loop-i.i t c.channels_to-channels.result.now is c.loop-i-test.false) c.loop-i.invariant
