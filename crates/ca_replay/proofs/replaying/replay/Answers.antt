use Rattle.std.proofs.Common.{List, ap, map, sym, subst}
use Rattle.ca_events.specs.Events.{event_of}
use Rattle.ca_model.specs.World.{ServerSetting}
use Rattle.ca_replay.specs.Settings.{AreFresh}
use Rattle.ca_replay.proofs.Fresh.{script-fresh}
use Rattle.ca_replay.proofs.Goings.{reported-so}
use Rattle.ca_replay.proofs.replaying.replay.Goals as goal

pub events_run-requires : goal.events_run-requires
events_run-requires g c =
    subst (λ (ys : List ServerSetting). AreFresh ys) (sym c.deref-2.ensures.value) (script-fresh c.args.script.now c.in_ok-clients.field-0 c.in_ok-clients.ensures.says)

pub config_of-requires : goal.config_of-requires
config_of-requires g c = script-fresh c.args.script.now c.in_ok-clients.field-0 c.in_ok-clients.ensures.says

pub returns-clause-ok : goal.returns-clause-ok
returns-clause-ok g c =
    reported-so c.run_all.result (λ p. p.0.items) (λ p. p.1) c.args.script.now c.args.seed c.in_ok-clients.field-0 (record { clients = c.deref.result.now; servers = c.deref-2.result.now }) c.in_ok-config.config (map event_of c.in_ok-events.events.items) (map event_of c.deref-3.result.now) c.in_ok-clients.ensures.says
    (λ i. record { clients = c.deref.ensures.value i; servers = c.deref-2.ensures.value i }) c.in_ok-events.ensures.ok c.in_ok-config.ensures.ok (ap (map event_of) c.deref-3.ensures.value) c.run_all.ensures.ok
