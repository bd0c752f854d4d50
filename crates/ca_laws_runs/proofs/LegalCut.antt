-- Once a client read a SERVER_DISCONN only the CLEAR_CHANNEL of its channel goes out on that: over
-- every event and run.
use Rattle.std.proofs.Common.{◌≡◌, ℕ, suc, ◌+◌, ◌<◌, ◌≤◌, inl, inr, List, [], ◌∷◌, ◌++◌, length, Option, None, refl, sym, subst, arith}
use Rattle.std.specs.List.{FoldsTo}
use Rattle.ca_text.specs.declared.command.Command.TheVariants as command
use Rattle.ca_text.specs.Place.{At}
use Rattle.ca_text.proofs.Places.{At-mapped, At-one, At-or, At-within}
use Rattle.ca_model.specs.History.{Circuit, Removal, Step, Told}
use Rattle.ca_model.specs.Speech.{Is}
use Rattle.ca_model.specs.Legal.{client_conduct}
use Rattle.ca_model.specs.Events.{Event}
use Rattle.ca_model.specs.Runs.{AreEvents, Happens, Runs}
use Rattle.ca_model.specs.World.{IsSetting, Joined, Setting, World, circuit_of, log_length, opening}
use Rattle.ca_laws_parts.proofs.ServerSpeaking.{runs-hear}
use Rattle.ca_laws_parts.proofs.WritesLists.{none_at}
use Rattle.ca_laws_runs.specs.OrderSteps.{ClientsInOrder, InOrder}
use Rattle.ca_laws_runs.proofs.CauseKeeps.{run-after}
use Rattle.ca_laws_runs.proofs.Created.{reached-created}
use Rattle.ca_laws_runs.proofs.Joint.{are-snoc, folds-snoc, run-sided}
use Rattle.ca_laws_runs.proofs.Kept.{quiet-runs}
use Rattle.ca_laws_runs.proofs.LegalRead.{AllHear, CutOn, HearsOn, event-hears, legal-on-channel, run-read, stops-hears}
use Rattle.ca_laws_runs.proofs.LegalRemovals.{run-right}
use Rattle.ca_laws_runs.proofs.OrderKeeps.{run-heard, run-served, run-server-steps}
use Rattle.ca_laws_runs.proofs.StepWhole.{run-serves}
use Rattle.ca_laws_runs.proofs.ToldRemoval.{AllRemovals, run-removals}
use Rattle.ca_laws_runs.specs.LegalEnds.{ClientsGoByChannels, GoesByChannels}
use Rattle.ca_laws_runs.specs.LiveRead.{AllCleared, AreCleared}
use Rattle.ca_laws_runs.proofs.LiveRead.{run-cleared}

abbrev AllCut : World → Type 0
AllCut w = (n : ℕ) (c : Joined) → At w.circuits n c → CutOn c.lists

cut-on : (c d : Joined) (log : ℕ) → HearsOn c d → InOrder c.lists.heard (length c.lists.down) (length c.lists.up) log → AreCleared d.lists → ((l : ℕ) (t : Told) → At d.lists.down l t → t.cause ≡ Removal → Is command.ServerDisconnect t.message) → CutOn c.lists
    → CutOn d.lists
cut-on c d log h order cleared removals was l g t at_g at_t removal = elim (h.heard l g at_g) [
  | inl old ↦
      let there : At c.lists.down l t = elim (At-or c.lists.down l) [
        | inl found ↦ subst (λ (z : Told). At c.lists.down l z) (At-one d.lists.down l found.0 t (h.down l found.0 found.1) at_t) found.1
        | inr past ↦ absurd (let lt : l < length c.lists.heard = At-within c.lists.heard l g old in let le : length c.lists.heard ≤ length c.lists.down = order.one_each in omega (arith, lt, le, past))
      ] in
      let r = was l g t old there removal in
      (r.0, r.1, r.2, h.down r.0 r.2 r.3, r.4, r.5, r.6, (r.7.0, r.7.1, r.7.2, r.7.3, h.up r.7.0 r.7.1 r.7.4, r.7.5))
  | inr new_it ↦
      let r = cleared l t (At-within d.lists.heard l g at_g) at_t removal in
      let short : length d.lists.up ≤ length c.lists.up + 1 = new_it.2 t at_t (removals l t at_t removal) in
      let sent : g.sent ≡ length c.lists.up = new_it.0 in
      let before : r.7.0 < length d.lists.up = r.7.3 in
      (r.0, r.1, r.2, r.3, r.4, r.5, r.6, (r.7.0, r.7.1, r.7.2, omega (arith, short, sent, before), r.7.4, r.7.5))
]

all-cut : (w new : World) → AllHear w new → ClientsInOrder w → AllCleared new → AllRemovals new → AllCut w → AllCut new
all-cut w new hears clients cleared removals was n d at = elim (hears n d at) [
  | inr none ↦ (λ l g t at_g. absurd (none_at l g (subst (λ (z : List Step). At z l g) none at_g)))
  | inl c ↦
      cut-on c.0 d (log_length c.0.lists.client w.client_logs) c.2 (clients n c.0 c.1) (cleared n d at)
      (λ l t there removal. (removals n l d t at there removal).0) (was n c.0 c.1)
]

-- ---- every run

events-cut : (s : Setting) (ok : IsSetting s) (done es : List Event) (w new : World) → AreEvents done → AreEvents es → FoldsTo Happens (opening s) done w → FoldsTo Happens w es new → AllCut w → AllCut new
events-cut s ok done [] w new fine more before same all = subst (λ (z : World). AllCut z) same all
events-cut s ok done (e ∷ es) w new fine more before (mid, one, rest) all =
    let runs : Runs s done None w = (w, before, refl) in
    let next : FoldsTo Happens (opening s) (done ++ e ∷ []) mid = folds-snoc done (opening s) w mid e before one in
    let runs_next : Runs s (done ++ e ∷ []) None mid = (mid, next, refl) in
    let fine_next : AreEvents (done ++ e ∷ []) = are-snoc done e fine (more 0 e refl) in
    events-cut s ok (done ++ e ∷ []) es mid new fine_next (λ i f at. more (suc i) f at) next rest
    (all-cut w mid (event-hears w mid e (runs-hear s done None w ok fine runs) one) (run-heard s done None w ok fine runs) (run-cleared s (done ++ e ∷ []) None mid ok fine_next runs_next) (run-removals s (done ++ e ∷ []) None mid ok runs_next) all)

run-cut : (s : Setting) (es : List Event) (stopped : Option Event) (w : World) → IsSetting s → AreEvents es → Runs s es stopped w → AllCut w
run-cut s es stopped w ok fine (mid, folds, stops) =
    all-cut mid w (stops-hears mid stopped w stops) (run-heard s es None mid ok fine (mid, folds, refl)) (run-cleared s es stopped w ok fine (mid, folds, stops)) (run-removals s es stopped w ok (mid, folds, stops))
    (events-cut s ok [] es (opening s) mid (λ i e at. absurd (none_at i e at)) fine refl folds (λ n c at. absurd (none_at n c at)))

-- ---- what the statement says

pub run-channels : (s : Setting) (es : List Event) (stopped : Option Event) (w : World) → IsSetting s → AreEvents es → Runs s es stopped w → ClientsGoByChannels w
run-channels s es stopped w ok fine runs n d at =
    let j = At-mapped circuit_of w.circuits n d at in
    let l = run-server-steps s es stopped w ok runs n d at in
    let c : Joined = j.0 in
    let r = run-read s es stopped w ok fine runs in (
      l.0,
      l.1,
      l.2,
      subst (λ (v : Circuit). GoesByChannels (client_conduct v)) (sym j.2)
          (legal-on-channel c (reached-created w (s, es, stopped, ok, runs) n c j.1) ((run-sided s es stopped w ok fine runs).right n c j.1).under (λ k q there. (run-serves s es stopped w ok runs).stands.asked n k c q j.1 there) (r.0 n c j.1) (r.1 n c j.1) ((quiet-runs s es stopped w runs).cids n c j.1)
          (log_length c.lists.server w.server_logs) (log_length c.lists.client w.client_logs) (run-served s es stopped w ok runs n c j.1) (run-heard s es stopped w ok fine runs n c j.1) (run-after s es stopped w ok runs n c j.1) (run-right s es stopped w ok runs n c j.1) (run-cut s es stopped w ok fine runs n c j.1)),
    )
