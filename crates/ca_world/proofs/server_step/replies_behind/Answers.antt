use Rattle.std.proofs.Common.{◌∙◌, ℕ, List, length, drop, ap, arith}
use Rattle.ca_ids.specs.Table.{under}
use Rattle.ca_model.specs.ServerSteps.{output_of}
use Rattle.ca_world_data.proofs.UpdateTellings.{rest-is}
use Rattle.ca_world.proofs.StepPrepared.{behind-are, behind-within}
use Rattle.ca_world.proofs.server_step.replies_behind.Goals as goal

pub slice_bounds-replies_in-start : goal.slice_bounds-replies_in-start
slice_bounds-replies_in-start c =
    let w = c.requires.behind in
    let size = ap (λ (l : List ℕ). length l) c.out_bytes-bytes.ensures in
    let within = behind-within c.args.turn.now.waited (output_of (under c.args.core.now.circuits c.args.turn.now.at)) w.0 w.1 in
    omega (arith, within, size)

pub replies_in-requires-clause-few : goal.replies_in-requires-clause-few
replies_in-requires-clause-few c =
    let w = c.requires.behind in
    let waited : ℕ = c.args.turn.now.waited in
    record {
      ms = w.0;
      good = w.1.good;
      are =
          rest-is c.out_bytes-bytes.result.now waited ∙ ap (drop waited) c.out_bytes-bytes.ensures
          ∙ behind-are waited (output_of (under c.args.core.now.circuits c.args.turn.now.at)) w.0 w.1;
      within = w.2;
    }

pub returns-clause-all : goal.returns-clause-all
returns-clause-all c = λ ms behind within.
    let waited : ℕ = c.args.turn.now.waited in
    c.replies_in.ensures.all ms behind.good
    (rest-is c.out_bytes-bytes.result.now waited ∙ ap (drop waited) c.out_bytes-bytes.ensures
    ∙ behind-are waited (output_of (under c.args.core.now.circuits c.args.turn.now.at)) ms behind)
    within
