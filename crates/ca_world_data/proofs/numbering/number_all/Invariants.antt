use Rattle.std.proofs.Common.{◌≡◌, ◌≤◌, ℕ}
use Rattle.std.specs.List.{fold}
use Rattle.ca_ids.specs.Table.{under}
use Rattle.ca_text.specs.Place.{At}
use Rattle.ca_model.specs.ServerEvents.{with_number}
use Rattle.ca_world_data.specs.declared.joined.AddedSubscription.{AddedSubscription}
use Rattle.ca_world_data.specs.Numbering.{keys_to}
use Rattle.ca_world_data.specs.Seen.{joined_of}
use Rattle.ca_world_data.proofs.numbering.number_all.Given as goal

-- those before this place have their numbers, and those after it are as they were
abbrev pub invariant-loop-place : goal.invariant-loop-place
invariant-loop-place l =
    record {
      numbered : joined_of l.joined ≡ fold with_number (joined_of l.initial.joined) (keys_to l.name l.mask l.place (under l.core.circuits l.initial.joined.at_server));
      rest : (i : ℕ) (s : AddedSubscription) → l.place ≤ i → At l.joined.standing.items i s → At l.initial.joined.standing.items i s;
    }
