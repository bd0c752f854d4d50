-- What replies say is so after every run.
use Rattle.std.proofs.Common.{suc, inl, inr, List, [], ◌∷◌, Option, Some, refl, sym, subst}
use Rattle.std.specs.List.{FoldsTo}
use Rattle.ca_model.specs.Events.{Event}
use Rattle.ca_model.specs.Events as event
use Rattle.ca_model.specs.Runs.{Happens, Runs, StopsAt, clients_below}
use Rattle.ca_model.specs.World.{IsSetting, Setting, World, opening}
use Rattle.ca_laws_parts.specs.Says.{Says}
use Rattle.ca_laws_parts.specs.Seats.{AllTakeSent, Sound, TakesSent}
use Rattle.ca_laws_parts.specs.WritesSteps.{AllInStep}
use Rattle.ca_laws_parts.proofs.Every.{event-says, event-sound, events-sound, opening-says, opening-sound, ticks-frame}
use Rattle.ca_laws_parts.proofs.Frames.{frame-keeps}
use Rattle.ca_laws_parts.proofs.Grown.{grew-by}
use Rattle.ca_laws_parts.proofs.InStepLasts.{EndsInStep, in-step-begun, in-step-kept, in-step-lasting, world-numbered}
use Rattle.ca_laws_parts.proofs.LastingAll.{event-lasts, opening-lasts, run-lasts}
use Rattle.ca_laws_parts.proofs.Says.{says-grow}

pub event-in-step : (s : Setting) (w new : World) (e : Event) → TakesSent w → Happens w e new → Sound s w → AllInStep w → AllInStep new
event-in-step s w new e t happens h all = event-lasts EndsInStep in-step-lasting in-step-begun in-step-kept s w new e t happens h all

pub opening-in-step : (s : Setting) → AllInStep (opening s)
opening-in-step s = opening-lasts EndsInStep in-step-lasting s

pub run-in-step : (s : Setting) (es : List Event) (stopped : Option Event) (w : World) → IsSetting s → Runs s es stopped w → AllTakeSent (opening s) es → AllInStep w
run-in-step s es stopped w ok runs t = run-lasts EndsInStep in-step-lasting in-step-begun in-step-kept s es stopped w ok runs t

-- what replies say, in a world whose ends and circuits are in step
pub event-says-so : (s : Setting) (w new : World) (e : Event) → IsSetting s → TakesSent w → AllInStep w → Happens w e new → Sound s w → Says w → Says new
event-says-so s w new e ok t all happens h says = event-says s w new e ok t (world-numbered w all) happens h says

events-says : (s : Setting) (es : List Event) (w new : World) → IsSetting s → FoldsTo Happens w es new → AllTakeSent w es → AllInStep w → Sound s w → Says w → Says new
events-says s [] w new ok same t u h says = subst (λ (z : World). Says z) same says
events-says s (e ∷ es) w new ok (mid, one, rest) t u h says =
    let takes : TakesSent w = t 0 w refl in
    events-says s es mid new ok rest (λ n v folds. t (suc n) v (mid, one, folds)) (event-in-step s w mid e takes one h u) (event-sound s w mid e ok takes one h)
    (event-says-so s w mid e ok takes u one h says)

stops-says : (s : Setting) (mid : World) (stopped : Option Event) (w : World) → StopsAt mid stopped w → Sound s mid → Says mid → Says w
stops-says s mid (Some (event.Tick moment)) w stops h says = elim stops [
  | inl same ↦ subst (λ (z : World). Says z) (sym same) says
  | inr ticked ↦
      let f = ticks-frame moment mid (clients_below ticked.0) w ticked.3 in
      says-grow s mid w h (frame-keeps s mid w f h) (grew-by mid w w f refl refl) says
]
stops-says s mid stopped w stops h says = subst (λ (z : World). Says z) (sym stops) says

pub run-says : (s : Setting) (es : List Event) (stopped : Option Event) (w : World) → IsSetting s → Runs s es stopped w → AllTakeSent (opening s) es → Says w
run-says s es stopped w ok (mid, folds, stops) t =
    stops-says s mid stopped w stops (events-sound s es (opening s) mid ok folds t (opening-sound s ok)) (events-says s es (opening s) mid ok folds t (opening-in-step s) (opening-sound s ok) (opening-says s))
