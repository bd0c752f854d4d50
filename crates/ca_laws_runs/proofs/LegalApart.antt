-- Two EVENT_ADDs of one subscription are for different creations of its channel: of every run.
use Rattle.std.proofs.Common.{ℕ, ◌<◌, List, Option, sym, subst}
use Rattle.ca_text.proofs.Places.{At-mapped}
use Rattle.ca_model.specs.History.{Circuit, Create, On, Subscribe}
use Rattle.ca_model.specs.Channels.{Meant}
use Rattle.ca_model.specs.Events.{Event}
use Rattle.ca_model.specs.Runs.{Runs}
use Rattle.ca_model.specs.World.{IsSetting, Setting, World, circuit_of}
use Rattle.ca_laws_runs.specs.LegalParts.{SubscriptionsAreAddedApart}
use Rattle.ca_laws_runs.proofs.Kept.{quiet-runs}
use Rattle.ca_laws_runs.proofs.OrderKeeps.{run-server-steps}

pub run-apart : (s : Setting) (es : List Event) (stopped : Option Event) (w : World) → IsSetting s → Runs s es stopped w → SubscriptionsAreAddedApart w
run-apart s es stopped w ok runs n d at =
    let j = At-mapped circuit_of w.circuits n d at in
    let l = run-server-steps s es stopped w ok runs n d at in (
      l.0,
      l.1,
      l.2,
      subst (λ (c : Circuit). (k m channel number : ℕ) → k < m → Meant c k (On channel (Subscribe number)) → Meant c m (On channel (Subscribe number)) → (p : ℕ) × (k < p) × (p < m) × Meant c p (On channel Create)) (sym j.2)
          (λ k m channel number lt first second.
          let b = (quiet-runs s es stopped w runs).apart n j.0 j.1 k m channel number first.0 second.0 lt first.1 second.1 first.2 second.2 in
          (b.0, b.2, b.3, (b.1, b.4, b.5))),
    )
