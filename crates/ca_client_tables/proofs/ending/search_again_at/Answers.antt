use Rattle.std.proofs.Common.{◌≡◌, ◌∙◌, ℕ, Some, ap, sym}
use Rattle.ca_arena.specs.Arena.{place_at}
use Rattle.ca_ids.specs.Table.{held_at}
use Rattle.ca_ids.specs.Wire.{wire_of}
use Rattle.ca_search.specs.Searcher.{with_one}
use Rattle.ca_search.specs.Searches.{resumed}
use Rattle.ca_model.specs.Client.{Channel, Searching}
use Rattle.ca_client_tables.proofs.Ended.{client-changed, under-at}
use Rattle.ca_client_tables.proofs.ending.search_again_at.Goals as goal

pub returns-clause-client : goal.returns-clause-client
returns-clause-client c =
    let h = c.in-Some.handle in
    let v = c.in-Some.channel.now in
    let es = c.args.searches.now.entries in
    let ns = c.resume.new.self.entries in
    let at : held_at c.args.index (place_at c.args.channels.now c.args.index) ≡ Some (h, v) = sym c.in-Some.ensures in
    let cid : c.number.result ≡ wire_of h = c.number.ensures ∙ c.of.ensures in
    let begins : ns ≡ with_one (resumed c.args.moment) (wire_of h) es = c.resume.ensures ∙ ap (λ (n : ℕ). with_one (resumed c.args.moment) n es) cid in
    client-changed c.args.channels.now c.put.new.table es ns (λ (here : Channel). record here { standing = Searching }) (resumed c.args.moment) h v (under-at c.args.channels.now c.args.index h v at) c.put.ensures begins c.requires
