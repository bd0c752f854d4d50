use Rattle.std.proofs.Common.{◌≡◌, ℕ, List, map, subst}
use Rattle.std.specs.Prelude.{slice_set}
use Rattle.ca_text.specs.Place.{At}
use Rattle.ca_model.specs.Answers.{Closing}
use Rattle.ca_model.specs.History.{OfCircuit}
use Rattle.ca_model.specs.ClientEvents.{client_closed, lines_of}
use Rattle.ca_model.specs.World.{grown}
use Rattle.ca_model.specs.World as model
use Rattle.ca_world_data.specs.declared.joined.Joined.{Joined}
use Rattle.ca_world_data.specs.Logs.{lines_in}
use Rattle.ca_world_data.specs.Seen.{joined_of, names_of}
use Rattle.ca_world_data.proofs.Steppings.{closed-one}
use Rattle.ca_world_data.proofs.Worlds.{found}
use Rattle.ca_world_data.proofs.stepping.end.Goals as goal

pub returns : goal.returns
returns c =
    let k : ℕ = c.args.circuit in
    let ks : List Joined = c.args.circuits.now.items in
    let j : Joined = c.index_mut.result.now in
    let at : At ks k j = found ks k j j c.requires.there c.index_mut.ensures.value in
    subst
    (λ (z : Closing). (d : model.Joined) → At (map joined_of ks) k d → (lines_in c.tell_all.new.logs.items ≡ grown c.args.side.now.life (lines_of OfCircuit (names_of c.args.side.now.names) z.notices) (lines_in c.args.logs.now.items)) × (map joined_of (slice_set ks k c.close_client.new.joined) ≡ slice_set (map joined_of ks) k (client_closed z.left d)))
    c.closing.view_is
    (λ d there. (c.tell_all.ensures.told, closed-one ks k j c.close_client.new.joined c.closing.inside.left at c.close_client.ensures d there))
