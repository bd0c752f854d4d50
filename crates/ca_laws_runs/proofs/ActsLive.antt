-- Each channel that is live at a client is open at its server, for a record of its name.
use Rattle.std.proofs.Common.{◌≡◌, ℕ, zero, suc, ◌+◌, ◌<◌, ◌≤◌, inl, inr, List, length, Option, sym, ap, subst, ◌∙◌, arith}
use Rattle.ca_text.specs.Place.{At}
use Rattle.ca_text.proofs.Places.{At-one, At-within}
use Rattle.ca_model.specs.History.{Added, Ask, Cancel, Circuit, Clear, Create, Entry, Line, On, Opened, Request, Sent, Subscribe}
use Rattle.ca_model.specs.Speech.{In, name_in}
use Rattle.ca_model.proofs.Thinner.{three-ways}
use Rattle.ca_model.specs.Channels.{IsLive, IsNamed, IsOpen}
use Rattle.ca_model.specs.Events.{Event}
use Rattle.ca_model.specs.Runs.{AreEvents, Runs}
use Rattle.ca_model.specs.World.{IsSetting, Joined, Setting, World, circuit_of}
use Rattle.ca_laws_parts.specs.Sids.{IsClearedWithin}
use Rattle.ca_laws_runs.specs.Under.{IsCreatedBefore, IsUse}
use Rattle.ca_laws_runs.proofs.Under.{uncleared}
use Rattle.ca_laws_parts.proofs.WritesLists.{At-take}
use Rattle.ca_laws_runs.specs.Acts.{LiveAreOpen, OpenOnce}
use Rattle.ca_laws_runs.proofs.ActsMade.{IsMade}
use Rattle.ca_laws_runs.proofs.ActsNamedRuns.{run-names}
use Rattle.ca_laws_runs.proofs.ActsOn.{Facts, no-clear, no-other, of-circuits, run-facts}

gap : (k n : ℕ) → k < n → (d : ℕ) × (k + suc d ≡ n)
gap k zero lt = absurd (omega (arith, lt))
gap zero (suc n) lt = (n, omega arith)
gap (suc k) (suc n) lt = (let r = gap k n (omega (arith, lt)) in let e : k + suc r.0 ≡ n = r.1 in (r.0, omega (arith, e)))

module _ (j : Joined) (log : List Entry) (f : Facts j log) (channel i k sid : ℕ) (l : IsLive (circuit_of j) channel i k sid) where
  -- since its CREATE_CHAN the channel was only used
  created-until : (d : ℕ) → k + suc d ≤ length j.lists.up → IsCreatedBefore j.lists channel i k sid (k + suc d)
  created-until zero le = record {
    t = l.0;
    r = l.1.0;
    told = (l.2, l.3, l.4, l.5);
    asked = (l.1.1, l.1.2);
    early = omega arith;
    since = λ m q ask after before at is. absurd (omega (arith, after, before));
  }
  created-until (suc d) le =
      let b : IsCreatedBefore j.lists channel i k sid (k + suc d) = created-until d (omega (arith, le)) in
      record {
        t = b.t;
        r = b.r;
        told = b.told;
        asked = b.asked;
        early = omega arith;
        since = λ m q ask after before at is. elim (three-ways m (k + suc d)) [
          | inl lt ↦ b.since m q ask after lt at is
          | inr (inl same) ↦ by b m q ask same at is
          | inr (inr gt) ↦ absurd (omega (arith, before, gt))
        ];
      }
    where
      by : IsCreatedBefore j.lists channel i k sid (k + suc d) → (m : ℕ) (q : Sent) (ask : Ask) → m ≡ k + suc d → At j.lists.up m q → q.intent ≡ On channel ask → IsUse ask
      by b m q Create same at is =
          let after : k < m = omega (arith, same) in
          absurd (uncleared j f.created f.says.under f.asked channel i k sid (k + suc d) b
          (subst (λ (p : ℕ). IsClearedWithin j.lists.up sid k p) same (f.says.between k m channel i sid b.r q b.t after b.asked.0 at b.asked.1 is b.told.0 b.told.1 b.told.2 b.told.3)))
      by b m q Clear same at is = (let after : k < m = omega (arith, same) in absurd (l.7 m after (q, at, is)))
      by b m q (Request kind number) same at is = tt
      by b m q (Subscribe number) same at is = tt
      by b m q (Cancel number) same at is = tt

  pub all : IsCreatedBefore j.lists channel i k sid (length j.lists.up)
  all =
      let g = gap k (length j.lists.up) (At-within j.lists.up k l.1.0 l.1.1) in
      let e : k + suc g.0 ≡ length j.lists.up = g.1 in
      subst (λ (n : ℕ). IsCreatedBefore j.lists channel i k sid n) g.1 (created-until g.0 (omega (arith, e)))

  m : IsMade log j.lists i l.0
  m = f.made i sid l.0 l.2 l.4 l.5

  few : length j.lists.handled ≤ length j.lists.up
  few = f.order.one_each

  sent-is : m.s ≡ l.1.0
  sent-is = At-one j.lists.up k m.s l.1.0 (subst (λ (p : ℕ). At j.lists.up p m.s) l.3 m.sent) l.1.1

  live-open : IsOpen (circuit_of j) log i k sid m.r
  live-open = (
    (l.0, m.s, m.h, l.2, l.3, l.4, l.5, subst (λ (p : ℕ). At j.lists.up p m.s) l.3 m.sent, subst (λ (p : ℕ). At j.lists.handled p m.h) l.3 m.handled, m.has, m.gives),
    λ p u lt at creates. no-other j log f channel i k sid (length j.lists.up) all p u lt at creates
        (let in_it : u.place < length j.lists.handled = (f.created.about p sid u at (f.replies p u at creates.0) creates).0 in let le : length j.lists.handled ≤ length j.lists.up = few in omega (arith, in_it, le)),
    λ p q lt within at clears. no-clear j log f channel i k sid (length j.lists.up) all p q lt (let le : length j.lists.handled ≤ length j.lists.up = few in omega (arith, within, le)) at clears,
  )

  pub live-named : (x : List Line) → ((q : Sent) → At j.lists.up k q → q.intent ≡ On channel Create → In x (Opened channel (name_in q.message))) → (r : ℕ) × IsOpen (circuit_of j) log i k sid r × IsNamed x log channel r
  live-named x said = (
    m.r,
    live-open,
    (
      m.has.0,
      subst (λ (n : List ℕ). In x (Opened channel n)) (sym (m.has.2 ∙ ap (λ (z : Sent). name_in z.message) sent-is)) (said l.1.0 l.1.1 l.1.2),
      (m.has.1.0, At-take (m.h).logged log m.has.1.0 (Added m.r m.has.0) m.has.1.1),
    ),
  )

pub run-live : (s : Setting) (es : List Event) (stopped : Option Event) (w : World) → IsSetting s → AreEvents es → Runs s es stopped w → LiveAreOpen w
run-live s es stopped w ok are runs =
    of-circuits s es stopped w ok runs
    (λ (n : ℕ) (c : Circuit) (x : List Line) (y : List Entry). (channel j k sid : ℕ) → IsLive c channel j k sid → (r : ℕ) × IsOpen c y j k sid r × IsNamed x y channel r)
    (λ n j x y at lx ly channel i k sid l.
    live-named j y (run-facts s es stopped w ok are runs n j y at ly) channel i k sid l x (λ q there is. (run-names s es stopped w runs).said n k channel j x q at lx there is))

pub run-once : (s : Setting) (es : List Event) (stopped : Option Event) (w : World) → Runs s es stopped w → OpenOnce w
run-once s es stopped w runs life x at i j channel a b first second = (run-names s es stopped w runs).once life x i j channel a b at first second
