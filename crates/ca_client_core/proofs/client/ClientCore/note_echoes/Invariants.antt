use Rattle.std.proofs.Common.{◌≡◌, take}
use Rattle.ca_model.specs.ClientEnds.{Ticking}
use Rattle.ca_client_core.specs.Foretold.{Notes}
use Rattle.ca_client_core.specs.Marks.{undone}
use Rattle.ca_client_core.specs.Moments.{all_echoed}
use Rattle.ca_client_core.proofs.client.ClientCore.note_echoes.Given as goal

-- those on the circuits before this one went out, and were noted
abbrev pub invariant-loop-index : goal.invariant-loop-index
invariant-loop-index l =
    record {
      kept : undone l.marks.items l.self ≡ undone l.initial.marks.items l.initial.self;
      noted : Notes (all_echoed (take l.index l.initial.self.order)) l.initial.self l.initial.sent.items l.self l.sent.items;
      first : (t : Ticking) → t.core ≡ l.initial.self → l.self ≡ (all_echoed (take l.index l.initial.self.order) t).core;
    }
