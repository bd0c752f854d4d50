-- Working: what holds of the servers and circuits of each world to which a run leads.
use Rattle.std.specs.Prelude.{ℕ, ◌<◌, length}
use Rattle.ca_link.specs.Link.{with_rest}
use Rattle.ca_text.specs.declared.command.Command.TheVariants as command
use Rattle.ca_text.specs.Place.{At}
use Rattle.ca_model.specs.History.{Sent}
use Rattle.ca_model.specs.ServerSteps.{knows}
use Rattle.ca_model.specs.Speech.{In, Is}
use Rattle.ca_model.specs.Events.{Event}
use Rattle.ca_model.specs.Events as event
use Rattle.ca_model.specs.ServerEvents.{StepHandles}
use Rattle.ca_model.specs.World.{Joined, ServerSide, Setting, World}
use Rattle.ca_laws_parts.specs.Runs.{Stands}
use Rattle.ca_laws_parts.specs.Flows.{Ends, IsCidOf}
use Rattle.ca_laws_parts.specs.Replies.{IsCidAt}
use Rattle.ca_laws_parts.specs.Channels.{AllChannels}
use Rattle.ca_laws_parts.specs.Kept.{kept}
use Rattle.ca_laws_parts.specs.Messages.{AllMessages}
use Rattle.ca_laws_parts.specs.Numbers.{AllNumbers}
use Rattle.ca_laws_parts.specs.WritesSteps.{AllInStep}
use Rattle.ca_laws_runs.specs.Puts.{AllPuts}

-- Writes, clients and bytes stand; ends are in step with their circuits; what stands and is open
-- came by messages, numbers are of what stands, channels are those that were created, and puts are
-- beside the channels on which they came.
pub record ServersStand (s : Setting) (w : World) : Type 0 where
  pub stands : Stands s w
  pub in_step : AllInStep w
  pub messages : AllMessages w
  pub numbers : AllNumbers w
  pub channels : AllChannels w
  pub puts : AllPuts w

-- Every event but a step of an end.
abbrev pub IsOther : Event → Type 0
IsOther (event.ClientStep k) = ⊥
IsOther (event.ServerStep k) = ⊥
IsOther e = Unit {0}

-- What is not shown of all runs yet, of the message that a server's end handles next on a circuit:
-- a WRITE has the SID under which the server has the channel for which it was meant; and for what
-- it ends, by what was meant, the server keeps nothing then.
pub record IsOwnNext (w new : World) (k : ℕ) (j : Joined) (y : ServerSide)
    (f : StepHandles w k j y new) : Type 0 where
  pub writes : (s : Sent) → At j.lists.up (length j.lists.handled) s → Is command.Write s.message
      → (cid : ℕ)
      → IsCidAt
      (knows y.core (record f.e { link = with_rest (f.steps.0).rest f.e.link })) s.message.p1 cid
      → IsCidOf j.lists.up (length j.lists.handled) s.intent cid
  pub over : (s r : Sent) (p : ℕ) → At j.lists.up (length j.lists.handled) s → At j.lists.up p r
      → p < length j.lists.handled → Ends s.intent r.intent
      → In (kept new k) p → ⊥
