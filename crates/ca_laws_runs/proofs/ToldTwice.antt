-- After every run a read, a put, a plain write and a subscription are told of once: a write is told
-- of when the one ERROR about it is read.
use Rattle.std.proofs.Common.{◌≡◌, ℕ, inl, inr, List, Option, refl, sym, ap, subst, ◌∙◌, arith}
use Rattle.ca_dbr.specs.declared.value.Outcome.{Outcome}
use Rattle.ca_dbr.specs.declared.value.Outcome.TheVariants as outcome
use Rattle.ca_requests.specs.Meaning.{Means}
use Rattle.ca_text.specs.declared.command.Command.TheVariants as command
use Rattle.ca_text.specs.declared.status.Status.{Status}
use Rattle.ca_text.specs.Place.{At}
use Rattle.ca_text.proofs.Places.{At-one}
use Rattle.ca_model.specs.History.{Intent, Line, Noticed, On, Sent, Step, Told}
use Rattle.ca_model.specs.History as history
use Rattle.ca_model.specs.Speech.{Cid, Id, Ioid, Is, Speaks}
use Rattle.ca_model.specs.Channels.{IsRequest, IsUse, Suits}
use Rattle.ca_model.specs.Events.{Event}
use Rattle.ca_model.specs.Runs.{AreEvents, Runs}
use Rattle.ca_model.specs.World.{IsSetting, Joined, Setting, World}
use Rattle.ca_laws_parts.specs.Flows.{Concerns}
use Rattle.ca_laws_parts.specs.Runs.{IsReached}
use Rattle.ca_laws_runs.specs.HeldAnswering.{Answers}
use Rattle.ca_laws_runs.specs.ToldParts.{UsesAreToldOnce}
use Rattle.ca_laws_runs.proofs.Created.{reached-created}
use Rattle.ca_laws_runs.proofs.Joint.{own-flows, run-asked}
use Rattle.ca_laws_runs.proofs.OnceNoticedRuns.{told-runs}
use Rattle.ca_laws_runs.proofs.OnceRuns.{once-runs}
use Rattle.ca_laws_runs.proofs.Refused.{refused-once}
use Rattle.ca_laws_runs.proofs.Replied.{reached-answer}
use Rattle.ca_laws_runs.proofs.ToldSteps.{IsReply}
use Rattle.ca_laws_runs.proofs.ToldUpdates.{IsRead}
use Rattle.ca_laws_runs.proofs.ToldWhole.{requests-read}

-- a WRITE concerns no IOID
no-ioid : (up : List Sent) (p id : ℕ) (s : Sent) → At up p s → s.message.command ≡ 4 → Concerns up p (Ioid id) → ⊥
no-ioid up p id s at writes concerns =
    let one : concerns.0 ≡ s = At-one up p concerns.0 s concerns.1 at in
    let same : concerns.0.message.command ≡ 4 = ap (λ (v : Sent). v.message.command) one ∙ writes in
    elim concerns.2 [
      | inl gives ↦ elim gives.0 [
        | inl reads ↦ (let e : ◌≡◌ {A = ℕ} 4 15 = sym same ∙ reads in omega (arith, e))
        | inr puts ↦ (let e : ◌≡◌ {A = ℕ} 4 19 = sym same ∙ puts in omega (arith, e))
      ]
      | inr (inl clears) ↦ (let e : ◌≡◌ {A = ℕ} 4 12 = sym same ∙ clears.0 in omega (arith, e))
      | inr (inr (inl cancels)) ↦ (let e : ◌≡◌ {A = ℕ} 4 2 = sym same ∙ cancels.0 in omega (arith, e))
      | inr (inr (inr spoken)) ↦ not-cid id spoken.1.0 spoken.1.2
    ]
  where
    not-cid : (id cid : ℕ) → Ioid id ≡ Cid cid → ⊥
    not-cid id cid e = cc

-- what means that a WRITE failed is an ERROR
fails-error : (up : List Sent) (t : Told) (s : Sent) (status : Status) → At up t.place s → s.message.command ≡ 4 → ((id : Id) → Speaks t.message id → Concerns up t.place id) → Answers s.message t.message → Means t.message (outcome.Failed status) → Is command.Error t.message
fails-error up t s status at writes concerns answers means = elim means [
  | inl image ↦ elim image.0 [
    | inl reads ↦ absurd (no-ioid up t.place t.message.p2 s at writes (concerns (Ioid t.message.p2) (inl (inl reads, refl))))
    | inr adds ↦ absurd (let e : ◌≡◌ {A = ℕ} 4 2 = sym writes ∙ answers.confirms adds.0 in omega (arith, e))
  ]
  | inr (inl puts) ↦ absurd (no-ioid up t.place t.message.p2 s at writes (concerns (Ioid t.message.p2) (inl (inr puts.0, refl))))
  | inr (inr (inl creates)) ↦ absurd creates.1
  | inr (inr (inr errs)) ↦ errs.0
]

module _ (s : Setting) (es : List Event) (stopped : Option Event) (w : World) (ok : IsSetting s) (are : AreEvents es) (runs : Runs s es stopped w) where
  reached : IsReached w
  reached = (s, es, stopped, ok, runs)

  -- the ERROR that was read
  error-of : (life : ℕ) (x : List Line) (i c m : ℕ) (o : Outcome) (status : Status) → (r : IsRead IsReply w life x i (On c (history.Request history.Write m)) o) → o ≡ outcome.Failed status → Is command.Error r.t.message
  error-of life x i c m o status r is =
      let answers = reached-answer w reached r.n r.p r.j r.t r.on.0 r.read.0 r.cause in
      let one : answers.0 ≡ r.s = At-one r.j.lists.up r.t.place answers.0 r.s answers.1 r.own.0 in
      let suits : Suits (On c (history.Request history.Write m)) r.s.message = subst (λ (v : Intent). Suits v r.s.message) r.own.1 (run-asked s es stopped w ok are runs r.n r.t.place r.j r.s r.on.0 r.own.0) in
      let flows = (own-flows s es stopped w ok are runs r.n r.j r.on.0).2.flows in
      fails-error r.j.lists.up r.t r.s status r.own.0 suits (λ id speaks. flows.concerns r.p r.t id r.read.0 speaks) (subst (λ (v : Sent). Answers v.message r.t.message) one answers.2) (subst (λ (v : Outcome). Means r.t.message v) is r.means)

  failed-not : (o : Outcome) (status : Status) → o ≡ outcome.Failed status → o ≡ outcome.Disconnected → ⊥
  failed-not o status is gone = (let e : outcome.Failed status ≡ outcome.Disconnected = sym is ∙ gone in cc)

  writes-once : (life : ℕ) (x : List Line) (i l c m : ℕ) (o p : Outcome) → At w.client_logs life x → At x i (Noticed (On c (history.Request history.Write m)) o) → At x l (Noticed (On c (history.Request history.Write m)) p) → i ≡ l
  writes-once life x i l c m o p at first second =
      let told = told-runs s es stopped w runs in
      let f = told.failed life x i c m o at first in
      let g = told.failed life x l c m p at second in
      let intent : Intent = On c (history.Request history.Write m) in
      let a = requests-read s es stopped w ok are runs life x i intent o at first tt (failed-not o f.0 f.1) in
      let b = requests-read s es stopped w ok are runs life x l intent p at second tt (failed-not p g.0 g.1) in
      let one = (once-runs s es stopped w runs).one a.n b.n a.t.place b.t.place a.j b.j a.s b.s a.on.0 b.on.0 (a.on.1 ∙ sym b.on.1) a.own.0 b.own.0 (a.own.1 ∙ sym b.own.1) (subst (λ (v : Intent). IsRequest v) (sym a.own.1) tt) in
      let joined : b.j ≡ a.j = At-one w.circuits a.n b.j a.j (subst (λ (n : ℕ). At w.circuits n b.j) (sym one.0) b.on.0) a.on.0 in
      let there : At a.j.lists.down b.p b.t = subst (λ (v : Joined). At v.lists.down b.p b.t) joined b.read.0 in
      let place : a.p ≡ b.p = refused-once a.j (reached-created w reached a.n a.j a.on.0) a.p b.p a.t b.t a.read.0 there one.1 a.cause b.cause (error-of life x i c m o f.0 a f.1) (error-of life x l c m p g.0 b g.1) in
      let step : a.h ≡ b.h = At-one a.j.lists.heard b.p a.h b.h (subst (λ (n : ℕ). At a.j.lists.heard n a.h) place a.read.1) (subst (λ (v : Joined). At v.lists.heard b.p b.h) joined b.read.1) in
      sym a.read.2 ∙ ap (λ (v : Step). v.logged) step ∙ b.read.2

  pub run-told-once : UsesAreToldOnce w
  run-told-once life x at i l intent o p uses first second = by intent uses first second
    where
      by : (intent : Intent) → IsUse intent → At x i (Noticed intent o) → At x l (Noticed intent p) → i ≡ l
      by (On c (history.Request history.Read m)) uses first second = (told-runs s es stopped w runs).once life x i l (On c (history.Request history.Read m)) o p at first second tt
      by (On c (history.Request history.Put m)) uses first second = (told-runs s es stopped w runs).once life x i l (On c (history.Request history.Put m)) o p at first second tt
      by (On c (history.Request history.Write m)) uses first second = writes-once life x i l c m o p at first second
      by (On c (history.Subscribe m)) uses first second = (told-runs s es stopped w runs).once life x i l (On c (history.Subscribe m)) o p at first second tt
      by (On c history.Create) uses first second = absurd uses
      by (On c history.Clear) uses first second = absurd uses
      by (On c (history.Cancel m)) uses first second = absurd uses
      by history.OfCircuit uses first second = absurd uses
