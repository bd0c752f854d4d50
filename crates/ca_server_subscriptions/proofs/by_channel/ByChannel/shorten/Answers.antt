use Rattle.std.proofs.Common.{◌≡◌, ◌==◌, not, None, ℕ, List, filter, sym, ap, ◌∙◌, subst, arith}
use Rattle.std.specs.Prelude.{remove}
use Rattle.ca_text.specs.Place.{At}
use Rattle.ca_text.proofs.Places.{At-within}
use Rattle.ca_server_subscriptions.specs.ByChannel.{IdLines, id_lines, ids_in, without_id}
use Rattle.ca_server_subscriptions.specs.Subscribed.{keys_in}
use Rattle.ca_server_subscriptions.proofs.Channels.{found, goes-there, line-is, lost-none, written}
use Rattle.ca_server_subscriptions.proofs.by_channel.ByChannel.shorten.Goals as goal

pub returns-in_default : goal.returns-in_default
returns-in_default c =
    let key = c.args.key in
    let old = c.self.inside.lines in
    ap (λ m. ids_in (id_lines (λ line. line.items) m.entries)) c.get_mut.follows.holds-at-none
    ∙ lost-none key (ids_in (id_lines (λ line. line.items) old.entries)) (found (λ line. line.items) old.entries key.sid None (sym c.in_default.ensures.value))
    ∙ ap (λ (w : IdLines). without_id key (ids_in w)) c.self.view_is

pub place_in_channel-found-requires-clause-line : goal.place_in_channel-found-requires-clause-line
place_in_channel-found-requires-clause-line c =
    c.as_slice.ensures.value
    ∙ line-is (λ line. line.items) c.self.inside.lines.entries c.args.key.sid c.in-Some.line.now c.args.self.now c.args.standing.now.entries (sym c.in-Some.ensures.value) c.self.view_is c.requires.lines

pub remove-requires : goal.remove-requires
remove-requires c =
    let line = c.in-Some.line.now in
    let r = c.place_in_channel-found.result in
    let here = subst (λ (ids : List ℕ). At ids r c.args.key.sub) c.as_slice.ensures.value c.place_in_channel-found.ensures in
    let lt = At-within line.items r c.args.key.sub here in
    let all = line.ok in
    omega (arith, lt, all)

pub returns : goal.returns
returns c =
    let key = c.args.key in
    let es = c.args.standing.now.entries in
    let line = c.in-Some.line.now in
    let r = c.place_in_channel-found.result in
    let is = line-is (λ line. line.items) c.self.inside.lines.entries key.sid line c.args.self.now es (sym c.in-Some.ensures.value) c.self.view_is c.requires.lines in
    let here = subst (λ (ids : List ℕ). At ids r key.sub) (c.as_slice.ensures.value ∙ is) c.place_in_channel-found.ensures in
    let goes = c.remove.ensures.items ∙ subst (λ (ids : List ℕ). remove ids r ≡ filter (λ (id : ℕ). not (key.sub == id)) ids) (sym is) (goes-there key (keys_in es) r c.requires.apart here) in
    written (λ line. line.items) c.self.inside.lines (c.get_mut.follows.lender c.remove.new.self) key.sid line c.remove.new.self (λ ids. filter (λ (id : ℕ). not (key.sub == id)) ids) (sym c.in-Some.ensures.value)
    (c.get_mut.follows.holds c.remove.new.self) goes
    ∙ ap (λ (w : IdLines). without_id key (ids_in w)) c.self.view_is
