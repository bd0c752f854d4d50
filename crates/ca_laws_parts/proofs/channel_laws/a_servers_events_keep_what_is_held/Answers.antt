use Rattle.std.proofs.Common.{◌≡◌, ℕ}
use Rattle.ca_text.proofs.Places.{At-within}
use Rattle.ca_model.specs.History.{Cause, Removal, Reply, Update}
use Rattle.ca_laws_parts.specs.Flows.{Awaits}
use Rattle.ca_laws_parts.specs.CircuitSteps.{removal_of, replied, update_of}
use Rattle.ca_laws_parts.proofs.Answering.{due-answers}
use Rattle.ca_laws_parts.proofs.CircuitSteps.{holds-step, holds-told, may-finish, may-later}
use Rattle.ca_laws_parts.proofs.CircuitTold.{finish-speaks, removal-speaks, update-speaks}
use Rattle.ca_laws_parts.proofs.channel_laws.a_servers_events_keep_what_is_held.Goals as goal

no-removal : let a : Cause = Removal in let b : Cause = Reply in a ≡ b → ⊥
no-removal e = cc

no-update : (n : ℕ) → let a : Cause = Update n in let b : Cause = Reply in a ≡ b → ⊥
no-update n e = cc

pub returns : goal.returns
returns c = record {
  step = λ kept now on n x d h s k replies action at fits due writes were gone over f held.
      holds-step kept now on n x d h s replies at were (due-answers d now s k replies action at (f.asked _ s at) fits due writes gone over) held;
  finish = λ kept fewer on n x d place s p at is same handled keeps less gone f held.
      holds-told (Awaits d kept) (Awaits d fewer) on n x d (replied place _)
      (may-finish kept fewer d (replied place _) s at is handled keeps less gone (finish-speaks d.up place s p at is same) f) held;
  removal = λ kept fewer on n x d place cid s at is same keeps less held.
      holds-told (Awaits d kept) (Awaits d fewer) on n x d (removal_of place cid)
      (may-later kept fewer d (removal_of place cid) no-removal (At-within d.up place s at) keeps less (removal-speaks d.up place s cid at is same)) held;
  update = λ kept fewer on n x d place number s w v m at is same shows keeps less held.
      holds-told (Awaits d kept) (Awaits d fewer) on n x d (update_of place number m)
      (may-later kept fewer d (update_of place number m) (no-update number) (At-within d.up place s at) keeps less (update-speaks d.up place s w v m at is same shows)) held;
}
