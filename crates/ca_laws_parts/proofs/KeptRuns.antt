-- What is on circuits, over every event and run; and the events after which a server may send less.
use Rattle.std.proofs.Common.{◌≡◌, ℕ, ◌⊎◌, inl, inr, true, List, length, Option, sym, subst}
use Rattle.ca_text.specs.Place.{At}
use Rattle.ca_text.proofs.Places.{At-within}
use Rattle.ca_model.specs.Server.{ServerEnd}
use Rattle.ca_model.specs.Speech.{In}
use Rattle.ca_model.specs.Events.{Event}
use Rattle.ca_model.specs.Events as event
use Rattle.ca_model.specs.Runs.{Happens, Runs}
use Rattle.ca_model.specs.World.{IsSetting, Joined, ServerSide, Setting, World, opening}
use Rattle.ca_laws_parts.specs.Circuit.{HeldAt}
use Rattle.ca_laws_parts.specs.Seats.{AllTakeSent, Seated, Sound, TakesSent}
use Rattle.ca_laws_parts.specs.WritesSteps.{AllInStep}
use Rattle.ca_laws_parts.proofs.Every.{event-sound, run-sound}
use Rattle.ca_laws_parts.proofs.Lasting.{AllEnds}
use Rattle.ca_laws_parts.proofs.LastingAll.{event-lasts, run-lasts}
use Rattle.ca_laws_parts.proofs.WritesLists.{none_at}
use Rattle.ca_model.specs.ServerEvents.{StepHandles}
use Rattle.ca_laws_parts.proofs.RunsServerSteps.{others-handled}
use Rattle.ca_laws_parts.specs.Channels.{AllChannels, ChannelsOn}
use Rattle.ca_laws_parts.specs.Kept.{kept}
use Rattle.ca_laws_parts.specs.Later.{IsLater}
use Rattle.ca_laws_parts.specs.Messages.{AllMessages}
use Rattle.ca_laws_parts.specs.Numbers.{AllNumbers}
use Rattle.ca_laws_parts.proofs.Channels.{channels-begun, channels-handled, channels-lasting}
use Rattle.ca_laws_parts.proofs.Thins.{kept-from}
use Rattle.ca_laws_parts.proofs.Laters.{held-then, pump-held}
use Rattle.ca_laws_parts.proofs.Messages.{HasMessages, messages-begun, messages-kept, messages-lasting}
use Rattle.ca_laws_parts.proofs.KeptNumbers.{NumbersOn, numbers-begun, numbers-kept, numbers-lasting}
use Rattle.ca_laws_parts.proofs.Updates.{pump-later}

-- a fact of circuits alone
from-ends : (P : Joined → Type 0) (w : World) → Seated w → AllEnds (λ (n : ℕ) (e : ServerEnd). P) w → (n : ℕ) (c : Joined) → At w.circuits n c → c.lists.server_open ≡ true → P c
from-ends P w seated all n c at opened = (let s = seated.each n c at opened in all n c s.y s.e at s.at opened s.has)

pub messages-event : (s : Setting) (w new : World) (e : Event) → IsSetting s → TakesSent w → Happens w e new → Sound s w → AllMessages w → AllMessages new
messages-event s w new e ok takes happens h all =
    from-ends _ new (event-sound s w new e ok takes happens h).seated
    (event-lasts HasMessages messages-lasting messages-begun messages-kept s w new e takes happens h (λ n c y f at there opened has. all n c at opened))

pub numbers-event : (s : Setting) (w new : World) (e : Event) → IsSetting s → TakesSent w → Happens w e new → Sound s w → AllNumbers w → AllNumbers new
numbers-event s w new e ok takes happens h all =
    from-ends _ new (event-sound s w new e ok takes happens h).seated
    (event-lasts NumbersOn numbers-lasting numbers-begun numbers-kept s w new e takes happens h (λ n c y f at there opened has. all n c at opened))

pub messages-run : (s : Setting) (es : List Event) (stopped : Option Event) (w : World) → IsSetting s → Runs s es stopped w → AllTakeSent (opening s) es → AllMessages w
messages-run s es stopped w ok runs t = from-ends _ w (run-sound s es stopped w ok runs t).seated (run-lasts HasMessages messages-lasting messages-begun messages-kept s es stopped w ok runs t)

pub numbers-run : (s : Setting) (es : List Event) (stopped : Option Event) (w : World) → IsSetting s → Runs s es stopped w → AllTakeSent (opening s) es → AllNumbers w
numbers-run s es stopped w ok runs t = from-ends _ w (run-sound s es stopped w ok runs t).seated (run-lasts NumbersOn numbers-lasting numbers-begun numbers-kept s es stopped w ok runs t)

pub opening-messages : (s : Setting) → AllMessages (opening s)
opening-messages s n c at = absurd (none_at n c at)

pub opening-numbers : (s : Setting) → AllNumbers (opening s)
opening-numbers s n c at = absurd (none_at n c at)

-- ---- a pump

pub pump-keeps-held : (s : Setting) (w new : World) (k l : ℕ) → IsSetting s → TakesSent w → Sound s w → AllInStep w → AllMessages w → AllNumbers w → Happens w (event.Pump k) new → HeldAt (kept w l) w l → HeldAt (kept new l) new l
pump-keeps-held s w new k l ok takes h steps messages numbers happens held =
    let at = happens.0 in
    held-then s w new (event.Pump k) l ok takes h happens (At-within w.circuits l held.0 held.2) (λ p own. own)
    (pump-held (kept w l) w new k l at.j at.y happens.1 at.joins.at
    (λ is t there. subst (λ (m : ℕ). IsLater (kept w m) at.j.lists t) (sym is)
    (pump-later w new k at.j at.y happens.1 at.joins.at at.joins.server at.is_open steps numbers messages t there)) held)

-- ---- channels

pub channels-event : (s : Setting) (w new : World) (e : Event) → TakesSent w → Happens w e new → Sound s w → AllChannels w → AllChannels new
channels-event s w new e takes happens h all = event-lasts (λ (n : ℕ). ChannelsOn) channels-lasting channels-begun channels-handled s w new e takes happens h all

pub channels-run : (s : Setting) (es : List Event) (stopped : Option Event) (w : World) → IsSetting s → Runs s es stopped w → AllTakeSent (opening s) es → AllChannels w
channels-run s es stopped w ok runs t = run-lasts (λ (n : ℕ). ChannelsOn) channels-lasting channels-begun channels-handled s es stopped w ok runs t

pub opening-channels : (s : Setting) → AllChannels (opening s)
opening-channels s n c y e at = absurd (none_at n c at)

-- ---- a step of a server's end

pub step-were : (s : Setting) (w new : World) (k p : ℕ) (j : Joined) → IsSetting s → TakesSent w → Sound s w → Happens w (event.ServerStep k) new → At w.circuits k j → In (kept new k) p → In (kept w k) p ⊎ (p ≡ length j.lists.handled)
step-were s w new k p j ok takes h happens at there = elim (kept-from s w new (event.ServerStep k) k p ok takes h happens (At-within w.circuits k j at) there) [
  | inl old ↦ inl old
  | inr own ↦ inr (own.1 j at)
]

pub step-others : (s : Setting) (w new : World) (k l : ℕ) (j : Joined) (y : ServerSide) → IsSetting s → TakesSent w → Sound s w → Happens w (event.ServerStep k) new → At w.circuits k j → StepHandles w k j y new → (l ≡ k → ⊥)
    → HeldAt (kept w l) w l → HeldAt (kept new l) new l
step-others s w new k l j y ok takes h happens at handles other held =
    held-then s w new (event.ServerStep k) l ok takes h happens (At-within w.circuits l held.0 held.2) (λ p own. other own.0) (others-handled (kept w l) w new k j y handles at l other held)
