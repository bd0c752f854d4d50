use Rattle.std.proofs.Common.{◌≡◌, ℕ}
use Rattle.ca_text.proofs.Places.{At-within}
use Rattle.ca_model.specs.History.{Cause, Removal, Reply, Update}
use Rattle.ca_laws_parts.specs.CircuitSteps.{removal_of, replied, update_of}
use Rattle.ca_laws_parts.proofs.Answering.{due-answers}
use Rattle.ca_laws_parts.proofs.CircuitSteps.{flows-finish, flows-later, flows-next}
use Rattle.ca_laws_parts.proofs.CircuitTold.{finish-speaks, removal-speaks, update-speaks}
use Rattle.ca_laws_parts.proofs.circuit.a_servers_events_keep_meanings.Goals as goal

no-removal : let a : Cause = Removal in let b : Cause = Reply in a ≡ b → ⊥
no-removal e = cc

no-update : (n : ℕ) → let a : Cause = Update n in let b : Cause = Reply in a ≡ b → ⊥
no-update n e = cc

pub returns : goal.returns
returns c = record {
  step = λ kept now d h s k replies action at fits due writes were gone over f.
      flows-next kept now d h s replies at were (λ suits. due-answers d now s k replies action at suits fits due writes gone over) f;
  finish = λ kept fewer d place s p at is same handled keeps less gone f.
      flows-finish kept fewer d (replied place _) s at is handled keeps less gone (finish-speaks d.up place s p at is same) f;
  removal = λ kept fewer d place cid s at is same keeps less f.
      flows-later kept fewer d (removal_of place cid) no-removal (At-within d.up place s at) keeps less (removal-speaks d.up place s cid at is same) f;
  update = λ kept fewer d place number s w v m at is same shows keeps less f.
      flows-later kept fewer d (update_of place number m) (no-update number) (At-within d.up place s at) keeps less (update-speaks d.up place s w v m at is same shows) f;
}
