use Rattle.std.proofs.Common.{◌<◌, ℕ}
use Rattle.ca_text.specs.Place.{At}
use Rattle.ca_world_data.specs.declared.joined.AddedSubscription.{AddedSubscription}
use Rattle.ca_world_data.specs.Numbering.{post_limit}
use Rattle.ca_world_data.proofs.numbering.check_standing.Given as goal

-- one more post may be counted for each before this place
abbrev pub invariant-loop-one : goal.invariant-loop-one
invariant-loop-one l = record { few : (p : ℕ) (s : AddedSubscription) → p < l.one-index → At l.standing p s → s.posts < post_limit }
