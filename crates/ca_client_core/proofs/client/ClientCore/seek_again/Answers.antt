use Rattle.std.proofs.Common.{◌≡◌, ◌∙◌, ℕ, ap, subst, sym, refl}
use Rattle.ca_ids.specs.Wire.{wire_of}
use Rattle.ca_search.specs.Searcher.{with_one}
use Rattle.ca_search.specs.Searches.{resumed}
use Rattle.ca_model.specs.Client.{Channel, Searching, Client}
use Rattle.ca_client_tables.proofs.Ended.{client-again}
use Rattle.ca_model.specs.Placed.{HasNothingOut}
use Rattle.ca_client_core.proofs.Placing.{placed-again}
use Rattle.ca_client_core.proofs.Listing.{listed-not}
use Rattle.ca_client_core.proofs.client.ClientCore.seek_again.Goals as goal

pub invariant_of-self : goal.invariant_of-self
invariant_of-self c =
    let h = c.args.channel in
    let i = c.self.inside in
    let es = i.searches.entries in
    let ns = c.resume.new.self.entries in
    let cid : c.number.result ≡ wire_of h = c.number.ensures ∙ c.of.ensures in
    let begins : ns ≡ with_one (resumed i.moment) (wire_of h) es = c.resume.ensures ∙ ap (λ (n : ℕ). with_one (resumed i.moment) n es) cid in
    record {
      client = client-again i.channels c.set_standing.new.channels es ns (λ (here : Channel). record here { standing = Searching }) (resumed i.moment) h c.set_standing.ensures begins c.self.invariant.client;
      placed =
          placed-again c.self.inside.channels c.self.inside.requests.table c.self.inside.monitors c.self.inside.circuits c.self.invariant.placed h c.set_standing.new.channels (subst (λ (y : Client). HasNothingOut h y) (sym c.self.view_is) c.requires) c.set_standing.ensures;
      listed = listed-not Searching h i.channels c.set_standing.new.channels i.lives.items refl c.set_standing.ensures c.self.invariant.listed;
    }
