use Rattle.std.proofs.Common.{◌≡◌, ◌∙◌, ℕ, Some, ap, false, rules, sym, true}
use Rattle.ca_ids.specs.Table.{held_at}
use Rattle.ca_ids.specs.Wire.{wire_of}
use Rattle.ca_arena.specs.Arena.{place_at}
use Rattle.ca_search.specs.Searcher.{holds, without}
use Rattle.ca_model.specs.Client.{is_cleared, is_on_in}
use Rattle.ca_client_tables.proofs.Ended.{client-freed, let-go, under-at}
use Rattle.ca_client_tables.proofs.ending.let_go_at.Goals as goal

pub returns-clause-steps : goal.returns-clause-steps
returns-clause-steps c =
    let h = c.in-Some.handle in
    let v = c.in-Some.channel.now in
    let es = c.args.searches.now.entries in
    let ns = c.remove.new.self.entries in
    let at : held_at c.args.index (place_at c.args.channels.now c.args.index) ≡ Some (h, v) = sym c.in-Some.ensures in
    let named : is_on_in is_cleared c.args.circuit v ≡ true = search rules in
    let cid : c.number.result ≡ wire_of h = c.number.ensures ∙ c.of.ensures in
    let out : ns ≡ without (wire_of h) es = c.remove.ensures.entries ∙ ap (λ (n : ℕ). without n es) cid in
    let-go c.args.circuit c.args.index c.args.channels.now c.free.new.self es ns h v named at c.free.ensures.after out

pub returns-clause-client : goal.returns-clause-client
returns-clause-client c =
    let h = c.in-Some.handle in
    let v = c.in-Some.channel.now in
    let es = c.args.searches.now.entries in
    let ns = c.remove.new.self.entries in
    let at : held_at c.args.index (place_at c.args.channels.now c.args.index) ≡ Some (h, v) = sym c.in-Some.ensures in
    let cid : c.number.result ≡ wire_of h = c.number.ensures ∙ c.of.ensures in
    let out : ns ≡ without (wire_of h) es = c.remove.ensures.entries ∙ ap (λ (n : ℕ). without n es) cid in
    let none : holds (wire_of h) ns ≡ false =
    ap (λ (n : ℕ). holds n ns) (sym cid) ∙ c.remove.ensures.out in
    client-freed c.args.channels.now c.free.new.self es ns h v (under-at c.args.channels.now c.args.index h v at) c.free.ensures.after out none c.requires
