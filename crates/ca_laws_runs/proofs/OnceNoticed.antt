-- In a world, what a client's log tells of is over: what events leave of that.
use Rattle.std.proofs.Common.{◌≡◌, ℕ, ◌+◌, ◌⊎◌, inl, inr, List, [], length, refl, sym, ap, ◌∙◌, subst}
use Rattle.std.specs.Prelude.{slice_set}
use Rattle.ca_text.specs.Place.{At}
use Rattle.ca_text.proofs.Places.{At-one, At-parts, At-set}
use Rattle.ca_dbr.specs.declared.value.Outcome.{Outcome}
use Rattle.ca_dbr.specs.declared.value.Outcome.TheVariants.{Failed}
use Rattle.ca_text.specs.declared.status.Status.{Status}
use Rattle.ca_model.specs.History.{Intent, Line, Noticed, On, Request, Write}
use Rattle.ca_model.proofs.Thinner.{number-or}
use Rattle.ca_model.specs.ClientEvents.{Outcomes, client_after}
use Rattle.ca_model.specs.World.{ClientSide, Names, World, with_lines}
use Rattle.ca_laws_runs.specs.Once.{IsAwaited}
use Rattle.ca_laws_runs.proofs.OnceDone.{IsDone, NoNotice, Tells, tells-none}
use Rattle.ca_laws_runs.proofs.OnceTold.{AreIssued}
use Rattle.ca_laws_runs.proofs.OnceWorld.{LogsAfter, OnceStand, logs-grown, logs-still}

-- What a life's log tells of is over at its client, and no log tells of it twice.
pub record ToldStand (w : World) : Type 0 where
  pub done : (i : ℕ) (x : ClientSide) (log : List Line) (p : ℕ) (intent : Intent) (o : Outcome) → At w.clients i x → At w.client_logs x.life log → At log p (Noticed intent o) → IsAwaited intent
      → IsDone x.names x.core intent
  pub once : (life : ℕ) (log : List Line) (p q : ℕ) (intent : Intent) (o r : Outcome) → At w.client_logs life log → At log p (Noticed intent o) → At log q (Noticed intent r) → IsAwaited intent → p ≡ q
  pub issued : (i : ℕ) (x : ClientSide) → At w.clients i x → AreIssued x.core
  pub failed : (life : ℕ) (log : List Line) (p c m : ℕ) (o : Outcome) → At w.client_logs life log → At log p (Noticed (On c (Request Write m)) o) → (s : Status) × (o ≡ Failed s)

-- Clients and their logs are as they were.
abbrev pub Still : World → World → Type 0
Still w new = (new.clients ≡ w.clients) × (new.client_logs ≡ w.client_logs)

-- Each client has a life of its own, whose log is there.
pub record HaveLogs (w : World) : Type 0 where
  pub there : (i : ℕ) (x : ClientSide) → At w.clients i x → (log : List Line) × At w.client_logs x.life log
  pub apart : (i l : ℕ) (x y : ClientSide) → At w.clients i x → At w.clients l y → x.life ≡ y.life → i ≡ l

pub have-logs : (w : World) → OnceStand w → HaveLogs w
have-logs w s = record { there = s.there; apart = s.apart }

pub still-logs : (w new : World) → Still w new → HaveLogs w → HaveLogs new
still-logs w new still s = record {
  there = λ i x at. (let t = s.there i x (was i x at) in (t.0, subst (λ (l : List (List Line)). At l x.life t.0) (sym still.1) t.1));
  apart = λ i l x y at also e. s.apart i l x y (was i x at) (was l y also) e;
}
  where
    was : (i : ℕ) (x : ClientSide) → At new.clients i x → At w.clients i x
    was i x at = subst (λ (l : List ClientSide). At l i x) still.0 at

pub told-same : (w new : World) → Still w new → ToldStand w → ToldStand new
told-same w new still s = record {
  done = λ i x log p intent o at there line is. s.done i x log p intent o (was i x at) (old x.life log there) line is;
  once = λ life log p q intent o r at a b is. s.once life log p q intent o r (old life log at) a b is;
  issued = λ i x at. s.issued i x (was i x at);
  failed = λ life log p c m o at a. s.failed life log p c m o (old life log at) a;
}
  where
    was : (i : ℕ) (x : ClientSide) → At new.clients i x → At w.clients i x
    was i x at = subst (λ (l : List ClientSide). At l i x) still.0 at

    old : (life : ℕ) (log : List Line) → At new.client_logs life log → At w.client_logs life log
    old life log at = subst (λ (l : List (List Line)). At l life log) still.1 at

module _ (w new : World) (i : ℕ) (x z : ClientSide) (lines : List Line) (at_x : At w.clients i x)
    (clients : (l : ℕ) (y : ClientSide) → At new.clients l y → ((l ≡ i) × (y ≡ z)) ⊎ (At w.clients l y × (l ≡ i → ⊥)))
    (life : z.life ≡ x.life) (logs : LogsAfter w.client_logs new.client_logs x.life lines) (tells : Tells x.names x.core lines z.names z.core) (known : HaveLogs w) (s : ToldStand w) where
  pub told-moved : ToldStand new
  told-moved = record {
    done = λ l y log p intent o at there line is. elim (clients l y at) [
      | inl here ↦
          let mine : y.life ≡ x.life = ap (λ (v : ClientSide). v.life) here.1 ∙ life in
          subst (λ (v : ClientSide). IsDone v.names v.core intent) (sym here.1)
          (elim (logs.0 x.life log (subst (λ (n : ℕ). At new.client_logs n log) mine there)) [
            | inl grew ↦ elim (At-parts grew.1.0 lines p (Noticed intent o) (subst (λ (v : List Line). At v p (Noticed intent o)) grew.1.2 line)) [
              | inl first ↦ tells.olds intent (s.done i x grew.1.0 p intent o at_x grew.1.1 first is)
              | inr later ↦ (tells.news later.0 intent o later.2 is).1
            ]
            | inr other ↦ absurd (other.1 refl)
          ])
      | inr old ↦ elim (logs.0 y.life log there) [
        | inl grew ↦ absurd (old.1 (known.apart l i y x old.0 at_x grew.0))
        | inr other ↦ s.done l y log p intent o old.0 other.0 line is
      ]
    ];
    once = λ l log p q intent o r at a b is. elim (logs.0 l log at) [
      | inr other ↦ s.once l log p q intent o r other.0 a b is
      | inl grew ↦
          let old : List Line = grew.1.0 in
          let mine : At w.client_logs x.life old = subst (λ (n : ℕ). At w.client_logs n old) grew.0 grew.1.1 in
          elim (At-parts old lines p (Noticed intent o) (subst (λ (v : List Line). At v p (Noticed intent o)) grew.1.2 a)) [
            | inl first ↦ elim (At-parts old lines q (Noticed intent r) (subst (λ (v : List Line). At v q (Noticed intent r)) grew.1.2 b)) [
              | inl second ↦ s.once x.life old p q intent o r mine first second is
              | inr later ↦ absurd ((tells.news later.0 intent r later.2 is).0 (s.done i x old p intent o at_x mine first is))
            ]
            | inr before ↦ elim (At-parts old lines q (Noticed intent r) (subst (λ (v : List Line). At v q (Noticed intent r)) grew.1.2 b)) [
              | inl second ↦ absurd ((tells.news before.0 intent o before.2 is).0 (s.done i x old q intent r at_x mine second is))
              | inr later ↦ before.1 ∙ ap (λ (v : ℕ). length old + v) (tells.once before.0 later.0 intent o r before.2 later.2 is) ∙ sym later.1
            ]
          ]
    ];
    failed = λ l log p c m o at a. elim (logs.0 l log at) [
      | inr other ↦ s.failed l log p c m o other.0 a
      | inl grew ↦ elim (At-parts grew.1.0 lines p (Noticed (On c (Request Write m)) o) (subst (λ (v : List Line). At v p (Noticed (On c (Request Write m)) o)) grew.1.2 a)) [
        | inl first ↦ s.failed l grew.1.0 p c m o grew.1.1 first
        | inr later ↦ tells.failed later.0 c m o later.2
      ]
    ];
    issued = λ l y at. elim (clients l y at) [
      | inl here ↦ subst (λ (v : ClientSide). AreIssued v.core) (sym here.1) tells.issued
      | inr old ↦ s.issued l y old.0
    ];
  }

-- a call of client i
pub told-called : (w : World) (i : ℕ) (x : ClientSide) (spoken : Names) (o : Outcomes) → At w.clients i x → Tells x.names x.core o.lines o.names o.core → HaveLogs w → ToldStand w → ToldStand (client_after i x spoken o w)
told-called w i x spoken o at tells known s =
    let z : ClientSide = record x { core = o.core; names = o.names } in
    let t = known.there i x at in
    told-moved w (client_after i x spoken o w) i x z o.lines at (λ l y there. At-set w.clients i z l y there) refl (logs-grown w.client_logs x.life o.lines t.0 t.1) tells known s

-- a client's core alone changes
pub told-core : (w new : World) (i : ℕ) (x z : ClientSide) → At w.clients i x → new.clients ≡ slice_set w.clients i z → z.life ≡ x.life → new.client_logs ≡ w.client_logs → Tells x.names x.core [] z.names z.core → HaveLogs w → ToldStand w → ToldStand new
told-core w new i x z at clients life logs tells known s =
    told-moved w new i x z [] at (λ l y there. At-set w.clients i z l y (subst (λ (c : List ClientSide). At c l y) clients there)) life
    (subst (λ (v : List (List Line)). LogsAfter w.client_logs v x.life []) (sym logs) (logs-still w.client_logs x.life)) tells known s

-- lines are logged that tell no outcome
pub told-lines : (w : World) (i : ℕ) (x : ClientSide) (lines : List Line) → At w.clients i x → NoNotice lines → HaveLogs w → ToldStand w → ToldStand (with_lines x.life lines w)
told-lines w i x lines at none known s =
    let t = known.there i x at in
    told-moved w (with_lines x.life lines w) i x x lines at
    (λ l y there. elim (number-or l i) [
      | inl same ↦ inl (same, At-one w.clients i y x (subst (λ (n : ℕ). At w.clients n y) same there) at)
      | inr other ↦ inr (there, other)
    ]) refl (logs-grown w.client_logs x.life lines t.0 t.1) (tells-none x.names x.core lines x.names x.core (λ intent d. d) (s.issued i x at) none) known s
