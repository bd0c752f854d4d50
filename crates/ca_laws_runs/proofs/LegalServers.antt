-- What a server sends on a circuit is legal: the SIDs that it gives, and its confirmations.
use Rattle.std.proofs.Common.{◌≡◌, ℕ, ◌<◌, ◌≤◌, ◌%◌, inl, inr, List, [], length, Option, sym, ap, subst, ◌∙◌, arith}
use Rattle.ca_text.specs.declared.command.Command.TheVariants as command
use Rattle.ca_text.specs.Limits.{arena_slots}
use Rattle.ca_text.specs.Place.{At}
use Rattle.ca_text.proofs.Places.{At-map, At-mapped, At-or, At-within}
use Rattle.ca_wire.specs.Fields.{Fields}
use Rattle.ca_model.specs.History.{Circuit, Reply, Sent, Step, Told}
use Rattle.ca_model.specs.Sends.{Conduct, ReadsBetween}
use Rattle.ca_model.specs.Speech.{Clears, Creates, Is}
use Rattle.ca_model.specs.Legal.{server_conduct}
use Rattle.ca_model.specs.Events.{Event}
use Rattle.ca_model.specs.Runs.{AreEvents, Runs}
use Rattle.ca_model.specs.World.{IsSetting, Joined, Setting, World, circuit_of, log_length}
use Rattle.ca_laws_parts.specs.Runs.{IsReached}
use Rattle.ca_laws_parts.specs.ServerFits.{IsCaused}
use Rattle.ca_laws_parts.proofs.Causes.{runs-caused}
use Rattle.ca_laws_runs.specs.HeldAnswering.{Answers}
use Rattle.ca_laws_runs.specs.Causes.{ComeAfter}
use Rattle.ca_laws_runs.specs.Created.{CreatedOn}
use Rattle.ca_laws_runs.specs.LegalParts.{ConfirmsAtOnce, GivesFreeSids, ServersConfirmAtOnce, ServersGiveFreeSids}
use Rattle.ca_laws_runs.specs.OrderSteps.{InOrder}
use Rattle.ca_laws_runs.proofs.CauseKeeps.{run-after}
use Rattle.ca_laws_runs.proofs.Created.{reached-created}
use Rattle.ca_laws_runs.proofs.OrderKeeps.{run-served, run-server-steps}
use Rattle.ca_laws_runs.proofs.Replied.{reached-answer}

-- a message that was handled between two that were sent
pub reads-at : (c : Circuit) (i k j : ℕ) (s : Sent) (h : Step) → At c.up j s → At c.handled j h → i < h.sent → h.sent ≤ k → ReadsBetween (server_conduct c) i k j s.message
reads-at c i k j s h at on lt le =
    (h.sent, At-map (λ (q : Sent). q.message) c.up j s at, At-map (λ (q : Step). q.sent) c.handled j h on, lt, le)

-- a message that the server sent
pub sent-at : (c : Circuit) (k : ℕ) (m : Fields) → At (server_conduct c).sent k m → (t : Told) × At c.down k t × (m ≡ t.message)
sent-at c k m at = At-mapped (λ (t : Told). t.message) c.down k m at

-- what creates a channel is a reply, and so is an EVENT_ADD without payload
pub creates-reply : (t : Told) → IsCaused t → Is command.CreateChannel t.message → t.cause ≡ Reply
creates-reply t (inl reply) is = reply
creates-reply t (inr (inl ends)) is = absurd (let e : ◌≡◌ {A = ℕ} 18 27 = sym is ∙ ends in omega (arith, e))
creates-reply t (inr (inr adds)) is = absurd (let e : ◌≡◌ {A = ℕ} 18 1 = sym is ∙ adds.0 in omega (arith, e))

pub header_only-reply : (t : Told) → IsCaused t → Is command.EventAdd t.message → t.message.payload ≡ [] → t.cause ≡ Reply
header_only-reply t (inl reply) is header_only = reply
header_only-reply t (inr (inl ends)) is header_only = absurd (let e : ◌≡◌ {A = ℕ} 1 27 = sym is ∙ ends in omega (arith, e))
header_only-reply t (inr (inr adds)) is header_only = absurd (adds.1 header_only)

module _ (c : Joined) (log : ℕ) (created : CreatedOn c) (after : ComeAfter c.lists) (order : InOrder c.lists.handled (length c.lists.up) (length c.lists.down) log)
    (caused : (i : ℕ) (t : Told) → At c.lists.down i t → IsCaused t) where
  abbrev did : Conduct
  did = server_conduct c.lists

  pub legal-sids : (i k a b : ℕ) (m r : Fields) → i < k → At did.sent i m → At did.sent k r → Creates m a → Creates r b → a % arena_slots ≡ b % arena_slots
      → (j : ℕ) × (q : Fields) × ReadsBetween did i k j q × Clears q a
  legal-sids i k a b m r lt at_m at_r makes also one =
      let t = sent-at c.lists i m at_m in
      let u = sent-at c.lists k r at_r in
      let first : Creates t.0.message a = subst (λ (x : Fields). Creates x a) t.2 makes in
      let second : Creates u.0.message b = subst (λ (x : Fields). Creates x b) u.2 also in
      let said = creates-reply t.0 (caused i t.0 t.1) first.0 in
      let z = created.apart i k a b t.0 u.0 lt t.1 u.1 said (creates-reply u.0 (caused k u.0 u.1) second.0) first second one in
      let w = z.1 in
      let h = after k u.0 u.1 in
      elim (At-or c.lists.handled w.0) [
        | inl there ↦
            let before = created.prompt i a w.0 t.0 there.0 t.1 said first w.2 there.1 in
            let late : there.0.sent ≤ h.0.sent = (order.rise w.0 u.0.place there.0 h.0 w.3 there.1 h.1).0 in
            let le : h.0.sent ≤ k = h.2 in
            (w.0, w.1.message, reads-at c.lists i k w.0 w.1 there.0 w.4 there.1 before (omega (arith, late, le)), w.5)
        | inr past ↦ absurd (let within : u.0.place < length c.lists.handled = At-within c.lists.handled u.0.place h.0 h.1 in let l : w.0 < u.0.place = w.3 in omega (arith, within, l, past))
      ]

  pub legal-confirmations : ((i : ℕ) (t : Told) → At c.lists.down i t → t.cause ≡ Reply → (s : Sent) × At c.lists.up t.place s × Answers s.message t.message)
      → (k : ℕ) (m : Fields) → At did.sent k m → Is command.EventAdd m → m.payload ≡ []
      → (j : ℕ) × (r : Fields) × At did.came j r × At did.read j k × Is command.EventCancel r × (r.p1 ≡ m.p1) × (r.p2 ≡ m.p2)
  legal-confirmations answers k m at adds header_only =
      let t = sent-at c.lists k m at in
      let is : Is command.EventAdd t.0.message = subst (λ (x : Fields). Is command.EventAdd x) t.2 adds in
      let said = header_only-reply t.0 (caused k t.0 t.1) is (subst (λ (x : Fields). x.payload ≡ []) t.2 header_only) in
      let h = created.confirms k t.0 t.1 said is in
      let a = answers k t.0 t.1 said in
      let copy = t.2 ∙ a.2.copies is in (
        t.0.place,
        a.0.message,
        At-map (λ (q : Sent). q.message) c.lists.up t.0.place a.0 a.1,
        subst (λ (n : ℕ). At did.read t.0.place n) h.2 (At-map (λ (q : Step). q.sent) c.lists.handled t.0.place h.0 h.1),
        a.2.confirms is,
        sym (ap (λ (x : Fields). x.p1) copy),
        sym (ap (λ (x : Fields). x.p2) copy),
      )

-- ---- after every run

module _ (s : Setting) (es : List Event) (stopped : Option Event) (w : World) (ok : IsSetting s) (events : AreEvents es) (runs : Runs s es stopped w) where
  reached : IsReached w
  reached = (s, es, stopped, ok, runs)

  pub run-gives-sids : ServersGiveFreeSids w
  run-gives-sids n d at =
      let j = At-mapped circuit_of w.circuits n d at in
      let l = run-server-steps s es stopped w ok runs n d at in
      let c : Joined = j.0 in (
        l.0,
        l.1,
        l.2,
        subst (λ (v : Circuit). GivesFreeSids (server_conduct v)) (sym j.2)
            (legal-sids c (log_length c.lists.server w.server_logs) (reached-created w reached n c j.1) (run-after s es stopped w ok runs n c j.1) (run-served s es stopped w ok runs n c j.1) ((runs-caused s es stopped w ok events runs).each n c j.1)),
      )

  pub run-confirms : ServersConfirmAtOnce w
  run-confirms n d at =
      let j = At-mapped circuit_of w.circuits n d at in
      let l = run-server-steps s es stopped w ok runs n d at in
      let c : Joined = j.0 in (
        l.0,
        l.1,
        l.2,
        subst (λ (v : Circuit). ConfirmsAtOnce (server_conduct v)) (sym j.2)
            (legal-confirmations c (log_length c.lists.server w.server_logs) (reached-created w reached n c j.1) (run-after s es stopped w ok runs n c j.1) (run-served s es stopped w ok runs n c j.1) ((runs-caused s es stopped w ok events runs).each n c j.1)
            (λ i t there reply. reached-answer w reached n i c t j.1 there reply)),
      )
