-- What a step reports of the message that it handled.
use Rattle.std.proofs.Common.{◌≡◌, true, false, refl, ap, ◌∙◌}
use Rattle.ca_arena.specs.declared.handle.Handle.{Handle}
use Rattle.ca_records.specs.Store.{Store}
use Rattle.ca_wire.specs.Fields.{Fields}
use Rattle.ca_model.specs.Due.{Action, Adds, Applies, Clears, Drops, Greets, Names, Nothing, Opens, Switches, Waits}
use Rattle.ca_model.specs.Server.{Server}
use Rattle.ca_model.specs.ServerSteps as steps
use Rattle.ca_server_circuit.specs.declared.step.FollowUp.{FollowUp}
use Rattle.ca_server_circuit.specs.Effects.{effect_due}
use Rattle.ca_server_circuit.specs.Handling.{Tells, effect_of}
use Rattle.ca_server_circuit.specs.declared.effect.Effect.{Effect}
use Rattle.ca_server_core.specs.declared.stepping.CoreStep.{CoreStep}
use Rattle.ca_server_core.specs.declared.stepping.CoreStep.TheVariants as own
use Rattle.ca_server_core.specs.Effects.{TellsEffect}
use Rattle.ca_server_core.specs.Serving.{stepped}
use Rattle.ca_server_core.proofs.Followed.{MakesBy}

-- what a message left to do says what it did
pub told-as : (m : Fields) (a : Action) (did : FollowUp) (u : Store) → Tells m a did u → effect_of did ≡ effect_due m a
told-as m (Applies name value true) did u is = ap effect_of is.2
told-as m (Applies name value false) did u is = ap effect_of is.2
told-as m (Adds x) did u is = ap effect_of is.2
told-as m (Opens c) did u is = ap effect_of is.2
told-as m Nothing did u is = ap effect_of is
told-as m Greets did u is = ap effect_of is
told-as m (Names p) did u is = ap effect_of is
told-as m (Clears sid) did u is = ap effect_of is
told-as m (Waits name value) did u is = ap effect_of is
told-as m (Drops k) did u is = ap effect_of is
told-as m (Switches on) did u is = ap effect_of is

-- a step that says that, if it handled the message
pub tells-by : (y : Server) (h : Handle) (did : FollowUp) (result : CoreStep) (new : Server) → MakesBy (λ (m : Fields) (a : Action). effect_of did ≡ effect_due m a) y h (stepped result) new → ((e : Effect) → result ≡ own.Handled e → e ≡ effect_of did)
    → TellsEffect y h result new
tells-by y h did (own.Handled e) new made is = (made.0, is e refl ∙ made.1)
tells-by y h did own.NeedBytes new made is = tt
tells-by y h did own.OutputFull new made is = tt
tells-by y h did (own.Closed c left) new made is = tt

-- one that handled none reports nothing
pub tells-none : (y : Server) (h : Handle) (result : CoreStep) (new : Server) → (stepped result ≡ steps.Handled → ⊥) → TellsEffect y h result new
tells-none y h (own.Handled e) new other = absurd (other refl)
tells-none y h own.NeedBytes new other = tt
tells-none y h own.OutputFull new other = tt
tells-none y h (own.Closed c left) new other = tt

pub quiet-none : (result : CoreStep) (e q : Effect) → (stepped result ≡ steps.Handled → ⊥) → result ≡ own.Handled e → e ≡ q
quiet-none result e q other is = absurd (other (ap stepped is))
