-- What every event keeps of a world.
use Rattle.std.proofs.Common.{Result, Ok, Err, [], ◌∷◌, ◌++◌, sym, subst}
use Rattle.std.specs.Prelude.{map}
use Rattle.ca_text.specs.declared.refusal.Refusal.{Refusal}
use Rattle.ca_text.specs.declared.refusal.Refusal.TheVariants.{BadEvent, OutOfMemory}
use Rattle.ca_model.specs.Events.{Event}
use Rattle.ca_model.specs.Runs.{IsEvent}
use Rattle.ca_model.specs.World.{World, opening}
use Rattle.ca_laws_parts.specs.ServerFits.{ServersFit}
use Rattle.ca_laws_parts.proofs.BytesRuns.{events-stand, opening-stands}
use Rattle.ca_laws_parts.proofs.ServerSpeaking.{event-servers}
use Rattle.ca_laws_runs.specs.Quiet.{ClientsQuiet}
use Rattle.ca_laws_runs.proofs.Joint.{are-snoc, folds-snoc}
use Rattle.ca_laws_runs.proofs.Kept.{quiet-happens}
use Rattle.ca_laws_parts.specs.Clients.{ClientsStand}
use Rattle.ca_laws_parts.proofs.RunsEvents.{stands-happens}
use Rattle.ca_world.specs.declared.world.World.TheInside.{Inside}
use Rattle.ca_world_data.specs.Does.{Does}
use Rattle.ca_world_data.specs.Indexed.{AreIndexed, client_numbers, server_numbers}
use Rattle.ca_world.specs.Whole.{CameAbout, IsReached, Stands, seen}
use Rattle.ca_world_data.specs.Named.{AreMeant}
use Rattle.ca_world_data.specs.Seen.{joined_of}
use Rattle.ca_world.proofs.Meanings.{mean-happens}

-- clients stand still
pub stand-by : (w new : World) (e : Event) (r : Result (Unit {0}) Refusal) → Does w e r new → ClientsStand w → ClientsStand new
stand-by w new e (Ok u) d s = stands-happens w new e s d
stand-by w new e (Err OutOfMemory) d s = subst (λ (v : World). ClientsStand v) (sym d.1) s
stand-by w new e (Err BadEvent) d s = subst (λ (v : World). ClientsStand v) (sym d.1) s
stand-by w new e (Err _) d s = absurd d

-- what they sent is as their tables are
pub quiet-by : (w new : World) (e : Event) (r : Result (Unit {0}) Refusal) → Does w e r new → ClientsStand w → ClientsQuiet w → ClientsQuiet new
quiet-by w new e (Ok u) d s q = quiet-happens w new e s q d
quiet-by w new e (Err OutOfMemory) d s q = subst (λ (v : World). ClientsQuiet v) (sym d.1) q
quiet-by w new e (Err BadEvent) d s q = subst (λ (v : World). ClientsQuiet v) (sym d.1) q
quiet-by w new e (Err _) d s q = absurd d

-- each handle means what is beside it
pub mean-by : (w new : World) (e : Event) (r : Result (Unit {0}) Refusal) → Does w e r new → ClientsStand w → ClientsQuiet w → AreMeant w.clients → AreMeant new.clients
mean-by w new e (Ok u) d s q m = mean-happens w new e s q m d
mean-by w new e (Err OutOfMemory) d s q m = subst (λ (v : World). AreMeant v.clients) (sym d.1) m
mean-by w new e (Err BadEvent) d s q m = subst (λ (v : World). AreMeant v.clients) (sym d.1) m
mean-by w new e (Err _) d s q m = absurd d

-- events lead there
pub reached-by : (w new : World) (e : Event) (r : Result (Unit {0}) Refusal) → Does w e r new → IsReached w → IsReached new
reached-by w new e (Ok u) d (s, es, ok, folds) = (s, es ++ e ∷ [], ok, folds-snoc es (opening s) w new e folds d)
reached-by w new e (Err OutOfMemory) d h = subst (λ (v : World). IsReached v) (sym d.1) h
reached-by w new e (Err BadEvent) d h = subst (λ (v : World). IsReached v) (sym d.1) h
reached-by w new e (Err _) d h = absurd d

-- well-formed ones do
pub came-by : (w new : World) (e : Event) (r : Result (Unit {0}) Refusal) → Does w e r new → IsEvent e → CameAbout w → CameAbout new
came-by w new e (Ok u) d fine (s, es, ok, are, folds) = (s, es ++ e ∷ [], ok, are-snoc es e are fine, folds-snoc es (opening s) w new e folds d)
came-by w new e (Err OutOfMemory) d fine h = subst (λ (v : World). CameAbout v) (sym d.1) h
came-by w new e (Err BadEvent) d fine h = subst (λ (v : World). CameAbout v) (sym d.1) h
came-by w new e (Err _) d fine h = absurd d

-- what servers send are messages
pub fit-by : (w new : World) (e : Event) (r : Result (Unit {0}) Refusal) → Does w e r new → IsEvent e → IsReached w → ServersFit w → ServersFit new
fit-by w new e (Ok u) d fine (s, es, ok, folds) f = event-servers s w new e ok fine (events-stand s es (opening s) w ok folds (opening-stands s ok)) d f
fit-by w new e (Err OutOfMemory) d fine h f = subst (λ (v : World). ServersFit v) (sym d.1) f
fit-by w new e (Err BadEvent) d fine h f = subst (λ (v : World). ServersFit v) (sym d.1) f
fit-by w new e (Err _) d fine h f = absurd d

-- all of it does, if circuits are found still
pub all-stand : (w new : Inside) (e : Event) → IsEvent e → (r : Result (Unit {0}) Refusal) → Does (seen w) e r (seen new) → Stands w
    → AreIndexed (client_numbers new.clients.items) (server_numbers new.servers.items) (map joined_of new.circuits.items) → Stands new
all-stand w new e fine r d s indexed = record {
  indexed = indexed;
  reached = reached-by (seen w) (seen new) e r d s.reached;
  came_about = came-by (seen w) (seen new) e r d fine s.came_about;
  clients = stand-by (seen w) (seen new) e r d s.clients;
  quiet = quiet-by (seen w) (seen new) e r d s.clients s.quiet;
  named = mean-by (seen w) (seen new) e r d s.clients s.quiet s.named;
  fit = fit-by (seen w) (seen new) e r d fine s.reached s.fit;
}
