-- On which record each message was handled that was meant on a channel.
use Rattle.std.proofs.Common.{◌≡◌, ℕ, zero, suc, ◌<◌, ◌≤◌, inl, inr, List, [], ◌∷◌, length, Option, refl, sym, ap, subst, ◌∙◌, arith}
use Rattle.std.specs.Prelude.{take, unwrap_or}
use Rattle.ca_records.specs.Record.{RecordState}
use Rattle.ca_text.specs.declared.command.Command.TheVariants as command
use Rattle.ca_text.specs.Place.{At}
use Rattle.ca_text.proofs.Places.{At-map, At-mapped, At-one, At-or}
use Rattle.ca_model.specs.History.{Added, Ask, Circuit, Create, Entry, Line, On, Opened, Reply, Sent, Step, Told}
use Rattle.ca_model.specs.Speech.{Clears, Creates, In, Is, name_in, sid_in}
use Rattle.ca_model.proofs.Thinner.{three-ways}
use Rattle.ca_model.specs.Channels.{Created, Has, IsNamed, Joins, Meant, OfCircuits, Suits}
use Rattle.ca_model.specs.Causes.{Acted}
use Rattle.ca_model.specs.Events.{Event}
use Rattle.ca_model.specs.Runs.{AreEvents, Runs}
use Rattle.ca_model.specs.World.{IsSetting, Joined, Setting, World, circuit_of, told}
use Rattle.ca_laws_parts.proofs.Causes.{runs-caused}
use Rattle.ca_laws_parts.proofs.WritesLists.{At-take}
use Rattle.ca_laws_parts.proofs.WritesMoves.{At-below}
use Rattle.ca_laws_runs.specs.Causes.{ComeAfter}
use Rattle.ca_laws_runs.specs.Created.{CreatedOn}
use Rattle.ca_laws_runs.specs.OrderSteps.{InOrder}
use Rattle.ca_laws_runs.specs.Under.{IsCreatedBefore, SaysRight}
use Rattle.ca_laws_runs.proofs.CauseKeeps.{run-after}
use Rattle.ca_laws_runs.proofs.Created.{reached-created}
use Rattle.ca_laws_runs.proofs.Joint.{run-says}
use Rattle.ca_laws_runs.proofs.OrderKeeps.{run-lives, run-served}
use Rattle.ca_laws_runs.proofs.StepWhole.{run-serves}
use Rattle.ca_laws_runs.proofs.Under.{uncleared}
use Rattle.ca_laws_runs.specs.Acts.{ActsAre, CreationsAre}
use Rattle.ca_laws_runs.proofs.Acting.{taken-at, taken-below}
use Rattle.ca_laws_runs.proofs.ActsMade.{AreMade, IsMade, run-made}
use Rattle.ca_laws_runs.proofs.ActsNamedRuns.{run-names}
use Rattle.ca_laws_runs.proofs.FollowsWhole.{logs-there}

-- what holds of each circuit with the logs of the lives that it joins
pub of-circuits : (s : Setting) (es : List Event) (stopped : Option Event) (w : World) → IsSetting s → Runs s es stopped w → (P : ℕ → Circuit → List Line → List Entry → Type 0)
    → ((n : ℕ) (j : Joined) (x : List Line) (y : List Entry) → At w.circuits n j → At w.client_logs j.lists.client x → At w.server_logs j.lists.server y → P n (circuit_of j) x y) → OfCircuits (told w) P
of-circuits s es stopped w ok runs P each n d at =
    let j = At-mapped circuit_of w.circuits n d at in
    let y = logs-there s w (run-serves s es stopped w ok runs).stands.sound n j.0 j.1 in
    elim (At-or w.client_logs j.0.lists.client) [
      | inl x ↦
          subst (λ (c : Circuit). (x : List Line) × (y : List Entry) × Joins (told w) n c x y × P n c x y) (sym j.2)
          (x.0, y.0, (At-map circuit_of w.circuits n j.0 j.1, x.1, y.1), each n j.0 x.0 y.0 j.1 x.1 y.1)
      | inr past ↦ absurd (let lt : j.0.lists.client < length w.client_logs = (run-lives s es stopped w runs).joined n j.0 j.1 in omega (arith, lt, past))
    ]

created-is : (j : Joined) (log : List Entry) → AreMade log j.lists → (i sid : ℕ) (t : Told) → At j.lists.down i t → t.cause ≡ Reply → Creates t.message sid → (r : ℕ) × Created (circuit_of j) log i t.place sid r
created-is j log made i sid t at reply creates = (let m = made i sid t at reply creates in (m.r, (t, m.s, m.h, at, refl, reply, creates, m.sent, m.handled, m.has, m.gives)))

pub run-creations : (s : Setting) (es : List Event) (stopped : Option Event) (w : World) → IsSetting s → Runs s es stopped w → CreationsAre w
run-creations s es stopped w ok runs =
    of-circuits s es stopped w ok runs (λ (n : ℕ) (c : Circuit) (x : List Line) (y : List Entry). (j sid : ℕ) (t : Told) → At c.down j t → t.cause ≡ Reply → Creates t.message sid → (r : ℕ) × Created c y j t.place sid r)
    (λ n j x y at lx ly. created-is j y (run-made s es stopped w ok runs n j y at ly))

-- ---- what holds of a circuit, by its lists and the log of its server's life

-- What was shown of a circuit in every run: of the channels that were created there, of what the
-- client said, and of the order of steps.
pub record Facts (j : Joined) (log : List Entry) : Type 0 where
  pub made : AreMade log j.lists
  pub created : CreatedOn j
  pub says : SaysRight j.lists
  pub asked : (k : ℕ) (s : Sent) → At j.lists.up k s → Suits s.intent s.message
  pub order : InOrder j.lists.handled (length j.lists.up) (length j.lists.down) (length log)
  pub after : ComeAfter j.lists
  pub replies : (i : ℕ) (t : Told) → At j.lists.down i t → Is command.CreateChannel t.message → t.cause ≡ Reply

pub run-facts : (s : Setting) (es : List Event) (stopped : Option Event) (w : World) → IsSetting s → AreEvents es → Runs s es stopped w → (n : ℕ) (j : Joined) (log : List Entry) → At w.circuits n j → At w.server_logs j.lists.server log → Facts j log
run-facts s es stopped w ok are runs n j log at logged = record {
  made = run-made s es stopped w ok runs n j log at logged;
  created = reached-created w (s, es, stopped, ok, runs) n j at;
  says = run-says s es stopped w ok are runs n j at;
  asked = λ k q there. (run-serves s es stopped w ok runs).stands.asked n k j q at there;
  order = subst (λ (l : ℕ). InOrder j.lists.handled (length j.lists.up) (length j.lists.down) l) (ap (λ (o : Option (List Entry)). length (unwrap_or o [])) logged) (run-served s es stopped w ok runs n j at);
  after = run-after s es stopped w ok runs n j at;
  replies = λ i t there creates. elim ((runs-caused s es stopped w ok are runs).each n j at i t there) [
    | inl reply ↦ reply
    | inr (inl lost) ↦ absurd (let e : ◌≡◌ {A = ℕ} 18 27 = sym creates ∙ lost in omega (arith, e))
    | inr (inr update) ↦ absurd (let e : ◌≡◌ {A = ℕ} 18 1 = sym creates ∙ update.0 in omega (arith, e))
  ];
}

-- the record of a message, and the CREATE_CHAN that named it
pub record ActedOn (j : Joined) (log : List Entry) (p channel : ℕ) : Type 0 where
  pub r : ℕ
  pub acted : Acted (circuit_of j) log p r
  pub k : ℕ
  pub q : Sent
  pub asked : At j.lists.up k q × (q.intent ≡ On channel Create)
  pub state : RecordState
  pub added : In log (Added r state)
  pub named : state.name ≡ name_in q.message

take-take : {A : Type 0} (a b : ℕ) (xs : List A) → a ≤ b → take a (take b xs) ≡ take a xs
take-take zero b xs le = refl
take-take (suc a) zero xs le = absurd (omega (arith, le))
take-take (suc a) (suc b) [] le = refl
take-take {A} (suc a) (suc b) (x ∷ xs) le = ap (λ (l : List A). x ∷ l) (take-take a b xs (omega (arith, le)))

module _ (j : Joined) (log : List Entry) (f : Facts j log) where
  -- a channel that was created, and not cleared before place p, by what the client sent
  module _ (channel i k sid p : ℕ) (b : IsCreatedBefore j.lists channel i k sid p) where
    made-at : IsMade log j.lists i b.t
    made-at = f.made i sid b.t b.told.0 b.told.2 b.told.3

    sent-is : made-at.s ≡ b.r
    sent-is = At-one j.lists.up k made-at.s b.r (subst (λ (m : ℕ). At j.lists.up m made-at.s) b.told.1 made-at.sent) b.asked.0

    -- none was created later under its SID by a message before p
    pub no-other : (l : ℕ) (u : Told) → i < l → At j.lists.down l u → Creates u.message sid → u.place < p → ⊥
    no-other l u lt at creates early =
        let apart = f.created.apart i l sid sid b.t u lt b.told.0 at b.told.2 (f.replies l u at creates.0) b.told.3 creates refl in
        let w = apart.1 in
        let until : w.0 < u.place = w.3 in
        uncleared j f.created f.says.under f.asked channel i k sid p b (w.0, w.1, subst (λ (m : ℕ). m < w.0) b.told.1 w.2, omega (arith, until, early), w.4, w.5)

    -- and it was cleared by none
    pub no-clear : (l : ℕ) (q : Sent) → k < l → l < p → At j.lists.up l q → Clears q.message sid → ⊥
    no-clear l q after before at clears = uncleared j f.created f.says.under f.asked channel i k sid p b (l, q, after, before, at, clears)

  handled-record : (p channel : ℕ) (s : Sent) (ask : Ask) (h : Step) → At j.lists.up p s → s.intent ≡ On channel ask → (ask ≡ Create → ⊥) → At j.lists.handled p h → ActedOn j log p channel
  handled-record p channel s ask h at_s is other at_h = record {
    r = m.r;
    acted = (
      s,
      h,
      i,
      k,
      at_s,
      at_h,
      (
        (
          b.t,
          m.s,
          m.h,
          taken-at h.sent j.lists.down i b.t (m.next p h (subst (λ (n : ℕ). n < p) (sym b.told.1) b.early) at_h) b.told.0,
          b.told.1,
          b.told.2,
          b.told.3,
          taken-at p j.lists.up k m.s b.early (subst (λ (n : ℕ). At j.lists.up n m.s) b.told.1 m.sent),
          taken-at p j.lists.handled k m.h b.early made-handled,
          subst (λ (l : List Entry). Has l m.r (name_in (m.s).message)) (sym (take-take (m.h).logged h.logged log logged-before)) m.has,
          m.gives,
        ),
        λ l u lt at creates.
            let in_it : At j.lists.down l u = At-take h.sent j.lists.down l u at in
            let below : l < h.sent = taken-below h.sent j.lists.down l u at in
            no-other channel i k sid p b l u lt in_it creates (earlier l u in_it below),
        λ l q lt within at clears.
            no-clear channel i k sid p b l q lt (taken-below p j.lists.up l q at) (At-take p j.lists.up l q at) clears,
      ),
    );
    k = k;
    q = b.r;
    asked = b.asked;
    state = m.has.0;
    added = (m.has.1.0, At-take (m.h).logged log m.has.1.0 (Added m.r m.has.0) m.has.1.1);
    named = m.has.2 ∙ ap (λ (z : Sent). name_in z.message) (sent-is channel i k sid p b);
  }
    where
      sid : ℕ
      sid = sid_in s.message

      own : (i k : ℕ) × IsCreatedBefore j.lists channel i k (sid_in s.message) p
      own = f.says.under p channel s ask at_s is other

      i : ℕ
      i = own.0

      k : ℕ
      k = own.1

      b : IsCreatedBefore j.lists channel i k sid p
      b = own.2

      m : IsMade log j.lists i b.t
      m = made-at channel i k sid p b

      made-handled : At j.lists.handled k m.h
      made-handled = subst (λ (n : ℕ). At j.lists.handled n m.h) b.told.1 m.handled

      logged-before : (m.h).logged ≤ h.logged
      logged-before =
          let w = f.order.within k m.h made-handled in
          let r = f.order.rise k p m.h h b.early made-handled at_h in
          let a : (m.h).logged ≤ (m.h).after = w.1 in
          let c : (m.h).after ≤ h.logged = r.1 in
          omega (arith, a, c)

      -- what was sent before the message was handled is about an earlier one
      earlier : (l : ℕ) (u : Told) → At j.lists.down l u → l < h.sent → u.place < p
      earlier l u at below = elim (three-ways u.place p) [
        | inl lt ↦ lt
        | inr (inl same) ↦
            let g = f.after l u at in
            let one : g.0 ≡ h = At-one j.lists.handled p g.0 h (subst (λ (n : ℕ). At j.lists.handled n g.0) same g.1) at_h in
            absurd (let le : (g.0).sent ≤ l = g.2 in let e : (g.0).sent ≡ h.sent = ap (λ (z : Step). z.sent) one in omega (arith, le, e, below))
        | inr (inr gt) ↦
            let g = f.after l u at in
            let r = f.order.rise p u.place h g.0 gt at_h g.1 in
            absurd (let le : (g.0).sent ≤ l = g.2 in let rise : h.sent ≤ (g.0).sent = r.0 in omega (arith, le, rise, below))
      ]

-- ---- of every run

pub run-acts : (s : Setting) (es : List Event) (stopped : Option Event) (w : World) → IsSetting s → AreEvents es → Runs s es stopped w → ActsAre w
run-acts s es stopped w ok are runs =
    of-circuits s es stopped w ok runs
    (λ (n : ℕ) (c : Circuit) (x : List Line) (y : List Entry). (k channel : ℕ) (ask : Ask) → k < length c.handled → Meant c k (On channel ask) → (ask ≡ Create → ⊥) → (r : ℕ) × Acted c y k r × IsNamed x y channel r)
    (λ n j x y at lx ly k channel ask lt meant other.
    let h = At-below j.lists.handled k lt in
    let a = handled-record j y (run-facts s es stopped w ok are runs n j y at ly) k channel meant.0 ask h.0 meant.1 meant.2 other h.1 in
    let o = (run-names s es stopped w runs).said n a.k channel j x a.q at lx a.asked.0 a.asked.1 in
    (a.r, a.acted, (a.state, subst (λ (l : List ℕ). In x (Opened channel l)) (sym a.named) o, a.added)))
