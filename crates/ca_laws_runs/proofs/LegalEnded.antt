-- A channel became live before each EVENT_ADD on it that came after its CREATE_CHAN: so none goes
-- out that was ended then, over every event and run.
use Rattle.std.proofs.Common.{◌≡◌, ℕ, ◌<◌, ◌≤◌, inl, inr, List, length, Option, refl, sym, ap, subst, arith}
use Rattle.ca_text.specs.Place.{At}
use Rattle.ca_text.proofs.Places.{At-mapped, At-one}
use Rattle.ca_model.specs.History.{Ask, Circuit, Create, Line, On, Reply, Sent, Step, Subscribe, Told}
use Rattle.ca_model.specs.Speech.{Creates}
use Rattle.ca_model.proofs.Thinner.{three-ways}
use Rattle.ca_model.specs.Events.{Event}
use Rattle.ca_model.specs.Runs.{AreEvents, Runs}
use Rattle.ca_model.specs.World.{IsSetting, Joined, Setting, World, circuit_of}
use Rattle.ca_laws_runs.specs.Causes.{ComeAfter}
use Rattle.ca_laws_runs.specs.Created.{CreatedOn}
use Rattle.ca_laws_runs.specs.LegalAnew.{AddsNoneEnded, EndedSubscriptionsAreNotAdded}
use Rattle.ca_laws_runs.specs.OrderSteps.{InOrder}
use Rattle.ca_laws_runs.proofs.CauseKeeps.{run-after}
use Rattle.ca_laws_runs.proofs.Created.{reached-created}
use Rattle.ca_laws_runs.proofs.HeldAdds.{run-all-held}
use Rattle.ca_laws_runs.proofs.LegalRead.{ReadOn, run-read}
use Rattle.ca_laws_runs.proofs.OrderKeeps.{run-heard, run-server-steps}
use Rattle.ca_laws_runs.proofs.ToldCreated.{create-used}

-- The reply that created a channel was read before anything else than a CREATE_CHAN went out on it
-- after its CREATE_CHAN.
pub read-first : (c : Joined) (sent log : ℕ) → CreatedOn c → ComeAfter c.lists → InOrder c.lists.heard (length c.lists.down) sent log → ReadOn c.lists
    → (a j l sid : ℕ) (t : Told) (h : Step) (r s : Sent) (ask : Ask)
    → At c.lists.up t.place r → r.intent ≡ On a Create → At c.lists.down j t → t.cause ≡ Reply → Creates t.message sid → At c.lists.heard j h
    → t.place < l → At c.lists.up l s → s.intent ≡ On a ask → (ask ≡ Create → ⊥) → h.sent ≤ l
read-first c sent log created come order read a j l sid t h r s ask at_r is_r at_t reply creates at_h lt at_s is_s other =
    let x = read l a s ask at_s is_s other in
    let g : Step = x.2 in
    let upto : g.sent ≤ l = x.4 in
    let b = x.5 in
    let place : b.t.place ≡ x.1 = b.told.1 in
    elim (three-ways t.place b.t.place) [
      | inl before ↦
          let by = come x.0 b.t b.told.0 in
          let prompt : j < (by.0).sent = created.prompt j sid b.t.place t by.0 at_t reply creates before by.1 in
          let late : (by.0).sent ≤ x.0 = by.2 in
          let rise : h.sent ≤ g.sent = (order.rise j x.0 h g (omega (arith, prompt, late)) at_h x.3).0 in
          omega (arith, rise, upto)
      | inr (inl same) ↦
          let one : j ≡ x.0 = created.once j x.0 sid _ t b.t at_t b.told.0 reply b.told.2 creates b.told.3 same in
          let is : h ≡ g = At-one c.lists.heard x.0 h g (subst (λ (v : ℕ). At c.lists.heard v h) one at_h) x.3 in
          let e : h.sent ≡ g.sent = ap (λ (z : Step). z.sent) is in
          omega (arith, e, upto)
      | inr (inr late) ↦ absurd (create-used Create refl (b.since t.place r Create (omega (arith, late, place)) lt at_r is_r))
    ]

pub run-none-ended : (s : Setting) (es : List Event) (stopped : Option Event) (w : World) → IsSetting s → AreEvents es → Runs s es stopped w
    → EndedSubscriptionsAreNotAdded w
run-none-ended s es stopped w ok fine runs n d at =
    let j = At-mapped circuit_of w.circuits n d at in
    let l = run-server-steps s es stopped w ok runs n d at in
    let log : At w.client_logs (j.0.lists).client l.0 = subst (λ (v : Circuit). At w.client_logs v.client l.0) j.2 l.2.1 in
    (l.0, l.1, l.2, subst (λ (v : Circuit). AddsNoneEnded v l.0) (sym j.2) (ended n j.0 l.0 j.1 log))
  where
    subscribe-create : (number : ℕ) → Subscribe number ≡ Create → ⊥
    subscribe-create number e = cc

    ended : (n : ℕ) (c : Joined) (x : List Line) → At w.circuits n c → At w.client_logs c.lists.client x → AddsNoneEnded c.lists x
    ended n c x on log channel k l number h live lt meant =
        let t : Told = live.2 in
        let place : t.place ≡ k = live.5 in
        let at_r : At c.lists.up t.place live.3.0 = subst (λ (v : ℕ). At c.lists.up v live.3.0) (sym place) live.3.1 in
        let first : h.sent ≤ l =
        read-first c _ _ (reached-created w (s, es, stopped, ok, runs) n c on) (run-after s es stopped w ok runs n c on) (run-heard s es stopped w ok fine runs n c on) ((run-read s es stopped w ok fine runs).0 n c on)
        channel live.0 l live.1 t h live.3.0 meant.0 (Subscribe number) at_r live.3.2 live.4 live.6 live.7 live.8 (omega (arith, lt, place)) meant.1 meant.2 (subscribe-create number) in
        let kept = run-all-held s es stopped w ok fine runs n c x l channel number live.0 meant.0 h on log meant.1 meant.2 live.8 first in
        ((kept.cleared, kept.cancelled), kept.told)
