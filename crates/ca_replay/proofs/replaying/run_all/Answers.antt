use Rattle.std.proofs.Common.{refl, sym}
use Rattle.std.proofs.lemmas.List.{take-map}
use Rattle.ca_events.specs.Events.{event_of}
use Rattle.ca_world_data.specs.Seen.{client_of}
use Rattle.ca_replay.proofs.Goings.{report-is}
use Rattle.ca_replay.proofs.replaying.run_all.Goals as goal

pub returns-clause-ok : goal.returns-clause-ok
returns-clause-ok g c =
    record {
      done = c.in_ok-ran.ran.done;
      w = c.in_ok-ran.ran.world;
      runs = c.in_ok-ran.ensures;
      is = report-is client_of c.clients.result.now _ _ _ _ _ _ c.new-text.result.items _ refl c.clients.ensures (sym (take-map event_of c.in_ok-ran.ran.done c.args.events.now)) c.client_logs.ensures c.new-text.ensures.items c.in_ok-write_report.ensures.ok;
    }
