use Rattle.std.proofs.Common.{subst, sym}
use Rattle.ca_model.specs.Client.{Channel, Client, Live, On}
use Rattle.ca_client_tables.specs.Forms.{native_of}
use Rattle.ca_client_core.specs.Turns.{MayTurn}
use Rattle.ca_client_tables.proofs.Ended.{client-standing}
use Rattle.ca_client_core.proofs.Listing.{listed-live, listed-noted}
use Rattle.ca_client_core.proofs.Placing.{placed-turned}
use Rattle.ca_client_core.proofs.client.ClientCore.make_live.Goals as goal

pub invariant_of-self : goal.invariant_of-self
invariant_of-self c = record {
  client = c.self.invariant.client;
  placed = c.self.invariant.placed;
  listed = listed-noted c.self.inside.channels c.self.inside.lives.items c.note_live.new.lists.items c.note_live.ensures.kept c.self.invariant.listed;
}

pub invariant_of-self-2 : goal.invariant_of-self-2
invariant_of-self-2 c =
    let i = c.self.inside in
    let n = native_of c.args.native in
    record {
      client = client-standing i.channels c.set_standing.new.channels i.searches.entries (λ (here : Channel). record here { standing = On c.args.circuit (Live n c.args.rights) }) c.args.channel c.set_standing.ensures c.self.invariant.client;
      placed =
          placed-turned i.channels i.requests.table i.monitors i.circuits c.self.invariant.placed c.args.channel c.args.circuit (Live n c.args.rights) c.set_standing.new.channels
          (subst (λ (y : Client). MayTurn c.args.channel c.args.circuit (Live n c.args.rights) y) (sym c.self.view_is) c.requires) c.set_standing.ensures;
      listed =
          listed-live i.channels c.set_standing.new.channels c.args.channel c.args.circuit n c.args.rights i.lives.items c.note_live.new.lists.items c.note_live.ensures.kept c.in_ok-note_live.ensures.own c.set_standing.ensures c.self.invariant.listed;
    }
