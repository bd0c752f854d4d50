-- Which subscriptions the queues of a circuit have, in every run.
use Rattle.std.proofs.Common.{ℕ, List, None, refl, sym, ap, subst, ◌∙◌}
use Rattle.ca_queue.specs.Images.{queue_images}
use Rattle.ca_queue.specs.Keys.{is_among}
use Rattle.ca_queue.specs.Queue.{Queue}
use Rattle.ca_text.specs.Place.{At}
use Rattle.ca_text.proofs.Places.{At-mapped}
use Rattle.ca_model.specs.History.{Cause}
use Rattle.ca_model.specs.Runs.{Runs}
use Rattle.ca_model.specs.World as model
use Rattle.ca_laws_runs.proofs.Acted.{run-follows}
use Rattle.ca_laws_runs.proofs.StepWhole.{run-serves}
use Rattle.ca_world_servers.specs.Removing.{AllSeated}
use Rattle.ca_world.specs.Whole.{IsReached}

-- the queues of an open circuit have the subscriptions that stand, and nothing
-- waits there for others
pub run-seated : (w : model.World) (i : ℕ) → IsReached w → AllSeated i w.circuits
run-seated w i (s, es, ok, folds) k j there mine on =
    let runs : Runs s es None w = (w, folds, refl) in
    let serves = run-serves s es None w ok runs in
    let seat = serves.stands.sound.seated.each k j there on in
    let log = serves.stands.sound.within k j there in
    let holds = (run-follows s es None w ok runs k j seat.y seat.e log.0 there seat.at on seat.has (subst (λ (l : ℕ). At w.server_logs l log.0) seat.joins log.1)).holds in
    record {
      stand = λ n q key at has.
          let d = At-mapped (queue_images _) holds.both n q (subst (λ (qs : List (Queue (ℕ × Cause))). At qs n q) holds.numbers_are at) in
          holds.seats n d.0 key d.1 (ap (λ (z : Queue (ℕ × Cause)). is_among key z.subscriptions) (sym d.2) ∙ has);
      known = λ n q x at waits. (serves.numbers k j there on q (n, at) x waits).0;
    }
