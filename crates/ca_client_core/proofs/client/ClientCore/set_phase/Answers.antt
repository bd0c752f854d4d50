use Rattle.ca_model.specs.Client.{Channel, On, Client}
use Rattle.ca_client_tables.specs.Forms.{phase_of}
use Rattle.ca_client_tables.proofs.Ended.{client-standing}
use Rattle.std.proofs.Common.{subst, sym, ◌∙◌, ap}
use Rattle.ca_client_core.specs.Turns.{MayTurn}
use Rattle.ca_client_core.proofs.Placing.{placed-turned}
use Rattle.ca_client_tables.specs.Listed.{is_live_in}
use Rattle.ca_client_core.proofs.Listing.{listed-turned}
use Rattle.ca_client_core.proofs.client.ClientCore.set_phase.Goals as goal

pub invariant_of-self : goal.invariant_of-self
invariant_of-self c = record {
  client =
      client-standing c.self.inside.channels c.set_standing.new.channels c.self.inside.searches.entries (λ (here : Channel). record here { standing = On c.args.circuit (phase_of c.args.phase) }) c.args.channel c.set_standing.ensures c.self.invariant.client;
  placed =
      placed-turned c.self.inside.channels c.self.inside.requests.table c.self.inside.monitors c.self.inside.circuits c.self.invariant.placed c.args.channel c.args.circuit (phase_of c.args.phase) c.set_standing.new.channels (subst (λ (y : Client). MayTurn c.args.channel c.args.circuit (phase_of c.args.phase) y) (sym c.self.view_is) c.requires.turn) c.set_standing.ensures;
  listed =
      listed-turned c.args.channel c.args.circuit (phase_of c.args.phase) c.self.inside.channels c.set_standing.new.channels c.self.inside.lives.items (subst (λ (y : Client). MayTurn c.args.channel c.args.circuit (phase_of c.args.phase) y) (sym c.self.view_is) c.requires.turn) (λ e. ap (λ (y : Client). is_live_in y.channels c.args.channel) c.self.view_is ∙ c.requires.alive e) c.set_standing.ensures c.self.invariant.listed;
}
