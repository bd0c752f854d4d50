use Rattle.std.proofs.Common.{◌≡◌, List, fold, take}
use Rattle.ca_wire.specs.Fields.{Fields}
use Rattle.ca_model.specs.ClientEnds.{Ticking, searches_on}
use Rattle.ca_client_tables.specs.Ends.{with_messages}
use Rattle.ca_client_core.specs.Foretold.{Notes}
use Rattle.ca_client_core.proofs.client.ClientCore.note_all_on.Given as goal

-- those before this one were noted
abbrev pub invariant-loop-index : goal.invariant-loop-index
invariant-loop-index l =
    record {
      noted : Notes (λ (t : Ticking). fold (searches_on l.circuit) t (take l.index l.searches)) l.initial.self l.initial.sent.items l.self l.sent.items;
      kept : (ms : List Fields) × (l.self ≡ with_messages l.circuit ms l.initial.self);
    }
