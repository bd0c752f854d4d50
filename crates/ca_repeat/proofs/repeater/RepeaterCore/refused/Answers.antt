use Rattle.std.proofs.Common.{rules, not, ◌∙◌, ap}
use Rattle.std.specs.Prelude.{filter}
use Rattle.std.proofs.lemmas.Fn.{filter_same}
use Rattle.ca_repeat.specs.Addresses.{same}
use Rattle.ca_repeat.proofs.repeater.RepeaterCore.refused.Goals as goal

pub returns : goal.returns
returns c =
    filter_same _ (λ m. not (same m c.args.to)) _ (λ x b f' k. search rules) _ _ c.retain.ensures.filtered ∙ ap (λ ms. filter (λ m. not (same m c.args.to)) ms) c.self.view_is
