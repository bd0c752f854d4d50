use Rattle.std.proofs.Common.{subst, sym, ap, refl}
use Rattle.ca_requests.specs.Calls.{Issued}
use Rattle.ca_model.specs.Client.{Client, Channel, On, Clearing}
use Rattle.ca_client_core.specs.Turns.{WasLiveOn}
use Rattle.ca_client_tables.proofs.Ended.{client-standing}
use Rattle.ca_client_core.proofs.Placing.{placed-over}
use Rattle.ca_client_core.proofs.Listing.{listed-not}
use Rattle.ca_client_core.proofs.client.ClientCore.end_all.Goals as goal

pub invariant_of-self : goal.invariant_of-self
invariant_of-self c = record {
  client =
      client-standing c.self.inside.channels c.set_standing.new.channels c.self.inside.searches.entries (λ (here : Channel). record here { standing = On c.args.circuit Clearing }) c.args.channel c.set_standing.ensures c.self.invariant.client;
  placed =
      placed-over c.self.inside.channels c.self.inside.requests.table c.self.inside.monitors c.self.inside.circuits c.self.invariant.placed c.args.channel c.args.circuit c.set_standing.new.channels c.end_channel-told.new.self.table c.end_channel.new.self
      (subst (λ (y : Client). WasLiveOn c.args.channel c.args.circuit y) (sym c.self.view_is) c.requires)
      c.set_standing.ensures (ap (λ (z : Issued). z.table) c.end_channel-told.ensures.over) c.end_channel.ensures;
  listed =
      listed-not (On c.args.circuit Clearing) c.args.channel c.self.inside.channels c.set_standing.new.channels c.self.inside.lives.items refl c.set_standing.ensures c.self.invariant.listed;
}
