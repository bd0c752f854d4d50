use Rattle.std.proofs.Common.{List, ap, sym, arith}
use Rattle.std.specs.Prelude.{vec_capacity, vec_len}
use Rattle.ca_text.specs.Place.{At}
use Rattle.ca_world_data.specs.declared.joined.Joined.{Joined}
use Rattle.ca_world_data.proofs.Going.{keeps-set}
use Rattle.ca_world_data.proofs.Steppings.{heard-one}
use Rattle.ca_world_data.proofs.Worlds.{found}
use Rattle.ca_world_data.proofs.stepping.note_client_step.Goals as goal

pub returns-clause-heard : goal.returns-clause-heard
returns-clause-heard c =
    let ks : List Joined = c.args.circuits.now.items in
    let j : Joined = c.index_mut.result.now in
    let at : At ks c.args.circuit j = found ks c.args.circuit j j c.requires.there c.index_mut.ensures.value in
    heard-one ks c.args.circuit c.args.logged c.args.after j c.note_client_step_in.new.joined at c.note_client_step_in.ensures.heard

pub returns-clause-keeps : goal.returns-clause-keeps
returns-clause-keeps c =
    let ks : List Joined = c.args.circuits.now.items in
    let j : Joined = c.index_mut.result.now in
    let at : At ks c.args.circuit j = found ks c.args.circuit j j c.requires.there c.index_mut.ensures.value in
    let capacity = ap vec_capacity (sym c.note_client_step_in.ensures.up) in
    keeps-set ks c.args.circuit j c.note_client_step_in.new.joined at (ap vec_len c.note_client_step_in.ensures.up) (omega (arith, capacity))
