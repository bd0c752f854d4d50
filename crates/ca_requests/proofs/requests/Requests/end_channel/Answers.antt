use Rattle.std.proofs.Common.{◌≡◌, ◌∙◌, List, ap, filter, option_map, sym}
use Rattle.ca_arena.specs.declared.handle.Handle.{Handle}
use Rattle.ca_requests.specs.Calls.{Issued, open_of}
use Rattle.ca_requests.specs.Requests.{asks_on, channel_over, is_open, over_on}
use Rattle.ca_requests.proofs.Drained.{over-each}
use Rattle.ca_requests.proofs.Lined.{requests-over, told-channel}
use Rattle.ca_requests.proofs.Orders.{named-open, still-map}
use Rattle.ca_requests.proofs.Tables.{by_value, dims-over}
use Rattle.ca_requests.proofs.requests.Requests.end_channel.Goals as goal

pub invariant_of-self : goal.invariant_of-self
invariant_of-self c =
    let listed = c.self.inside.listed.items in
    let p = is_open (asks_on c.args.channel) c.self.inside.table in
    let told : c.deref.result.now ≡ filter p listed =
    c.deref.ensures.value
    ∙ c.keep_open.ensures
    ∙ ap (λ (xs : List Handle). filter p xs) c.hand_out-told.ensures.told
    ∙ told-channel c.self.inside.table listed c.self.inside.circuits.items c.self.inside.channels.items c.args.channel c.self.invariant in
    let over : c.end_each.new.table ≡ channel_over c.args.channel c.self.inside.table = over-each c.self.inside.table c.end_each.new.table c.self.inside.listed.items c.self.inside.circuits.items c.self.inside.channels.items c.args.channel c.deref.result.now c.self.invariant told c.end_each.ensures in
    requests-over c.self.inside.table c.end_each.new.table c.self.inside.listed.items c.self.inside.circuits.items c.self.inside.channels.items c.hand_out-told.new.lines.items c.args.channel over c.hand_out-told.ensures.hands c.self.invariant

pub returns-clause-told : goal.returns-clause-told
returns-clause-told c =
    let p = is_open (asks_on c.args.channel) c.self.inside.table in
    let listed = c.self.inside.listed.items in
    c.keep_open.ensures
    ∙ ap (λ (xs : List Handle). filter p xs) c.hand_out-told.ensures.told
    ∙ told-channel c.self.inside.table listed c.self.inside.circuits.items c.self.inside.channels.items c.args.channel c.self.invariant
    ∙ sym (named-open (asks_on c.args.channel) c.self.inside.table listed)
    ∙ ap (λ (x : Issued). open_of (asks_on c.args.channel) x) c.self.view_is

pub returns-clause-over : goal.returns-clause-over
returns-clause-over c =
    let listed = c.self.inside.listed.items in
    let p = is_open (asks_on c.args.channel) c.self.inside.table in
    let told : c.deref.result.now ≡ filter p listed =
    c.deref.ensures.value
    ∙ c.keep_open.ensures
    ∙ ap (λ (xs : List Handle). filter p xs) c.hand_out-told.ensures.told
    ∙ told-channel c.self.inside.table listed c.self.inside.circuits.items c.self.inside.channels.items c.args.channel c.self.invariant in
    let over : c.end_each.new.table ≡ channel_over c.args.channel c.self.inside.table = over-each c.self.inside.table c.end_each.new.table c.self.inside.listed.items c.self.inside.circuits.items c.self.inside.channels.items c.args.channel c.deref.result.now c.self.invariant told c.end_each.ensures in
    rw (← c.self.view_is)
    (still-map (by_value (option_map (over_on c.args.channel))) c.self.inside.table c.end_each.new.table listed (dims-over c.args.channel) over)
