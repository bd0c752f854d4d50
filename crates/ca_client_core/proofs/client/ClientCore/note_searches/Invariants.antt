use Rattle.std.proofs.Common.{◌≡◌, take}
use Rattle.ca_client_core.specs.Foretold.{Notes}
use Rattle.ca_client_core.specs.Marks.{undone}
use Rattle.ca_client_core.specs.Moments.{all_searched}
use Rattle.ca_client_core.proofs.client.ClientCore.note_searches.Given as goal

-- those on the circuits before this one went out, and were noted
abbrev pub invariant-loop-index : goal.invariant-loop-index
invariant-loop-index l =
    record {
      kept : undone l.marks.items l.self ≡ undone l.initial.marks.items l.initial.self;
      noted : Notes (all_searched l.searches (take l.index l.initial.self.order)) l.initial.self l.initial.sent.items l.self l.sent.items;
    }
