-- A message that goes under its channel's SID is handled on its channel.
use Rattle.std.proofs.Common.{◌≡◌, ℕ, zero, suc, ◌<◌, inl, inr, true, length, refl, sym, ap, subst, ◌∙◌, arith, eqb-true}
use Rattle.ca_ids.specs.Table.{held}
use Rattle.ca_ids.specs.Wire.{wire_of}
use Rattle.ca_link.specs.Link.{with_rest}
use Rattle.ca_text.specs.declared.command.Command.TheVariants as command
use Rattle.ca_text.specs.Place.{At}
use Rattle.ca_text.proofs.Places.{At-map, At-mapped, At-one}
use Rattle.ca_wire.specs.Fields.{Fields}
use Rattle.ca_model.specs.Due.{KnownChannel}
use Rattle.ca_model.specs.History.{Ask, Cancel, Clear, Create, Intent, On, Put, Read, Request, Sent, Subscribe, Told, Write}
use Rattle.ca_model.specs.History as history
use Rattle.ca_model.specs.Server.{ServerEnd}
use Rattle.ca_model.specs.ServerSteps.{known_channel, knows}
use Rattle.ca_model.specs.Speech.{Clears, In, Is, sid_in}
use Rattle.ca_model.specs.Channels.{Suits}
use Rattle.ca_model.proofs.Tables.{find-at, held-under, under-held}
use Rattle.ca_model.proofs.Thinner.{three-ways}
use Rattle.ca_model.specs.ServerEvents.{StepHandles}
use Rattle.ca_model.specs.World.{Creation, Joined, ServerSide, World}
use Rattle.ca_laws_parts.specs.Runs.{IsReached}
use Rattle.ca_laws_parts.specs.Flows.{IsCidOf}
use Rattle.ca_laws_parts.specs.Replies.{IsCidAt}
use Rattle.ca_laws_parts.specs.Sids.{IsClearedWithin}
use Rattle.ca_laws_parts.specs.Channels.{ChannelsOn, has_sid}
use Rattle.ca_laws_parts.specs.Says.{AllAsked}
use Rattle.ca_laws_runs.specs.Creations.{CreationsOn}
use Rattle.ca_laws_runs.proofs.Creations.{reached-creations}
use Rattle.ca_laws_runs.proofs.Found.{clear-is}
use Rattle.ca_laws_runs.proofs.StepWhole.{reached-serves}
use Rattle.ca_laws_runs.specs.Created.{CreatedOn}
use Rattle.ca_laws_runs.specs.Under.{AllUnder, AreUnder, IsCreatedBefore, IsUse}
use Rattle.ca_laws_runs.proofs.Created.{reached-created}

-- ---- what a message asks

-- a CLEAR_CHANNEL clears a channel
clears-on : (intent : Intent) (m : Fields) → Suits intent m → m.command ≡ 12 → (a : ℕ) × (intent ≡ On a Clear)
clears-on (On a ask) m suits is = (a, ap (λ (z : Ask). On a z) (clear-is ask m suits is))
clears-on history.OfCircuit m suits is = absurd (suits Clear is)

-- a WRITE writes to one
writes-on : (intent : Intent) (m : Fields) → Suits intent m → m.command ≡ 4 → (a number : ℕ) × (intent ≡ On a (Request Write number))
writes-on (On a (Request Write k)) m suits is = (a, k, refl)
writes-on (On a Create) m suits is = absurd (let e : ◌≡◌ {A = ℕ} 18 4 = sym suits ∙ is in omega (arith, e))
writes-on (On a Clear) m suits is = absurd (let e : ◌≡◌ {A = ℕ} 12 4 = sym suits ∙ is in omega (arith, e))
writes-on (On a (Request Read k)) m suits is = absurd (let e : ◌≡◌ {A = ℕ} 15 4 = sym suits ∙ is in omega (arith, e))
writes-on (On a (Request Put k)) m suits is = absurd (let e : ◌≡◌ {A = ℕ} 19 4 = sym suits ∙ is in omega (arith, e))
writes-on (On a (Subscribe k)) m suits is = absurd (let e : ◌≡◌ {A = ℕ} 1 4 = sym suits ∙ is in omega (arith, e))
writes-on (On a (Cancel k)) m suits is = absurd (let e : ◌≡◌ {A = ℕ} 2 4 = sym suits ∙ is in omega (arith, e))
writes-on history.OfCircuit m suits is = absurd (suits (Request Write 0) is)

one-channel : (a b : ℕ) (p q : Ask) → On a p ≡ On b q → a ≡ b
one-channel a b p q e = cc

-- ---- under its SID no CLEAR_CHANNEL was sent since a channel was created

module _ (c : Joined) (created : CreatedOn c) (under : AreUnder c.lists) (asked : (k : ℕ) (s : Sent) → At c.lists.up k s → Suits s.intent s.message) where
  not-cleared : (n l : ℕ) → l < n → (channel j k sid p : ℕ) → IsCreatedBefore c.lists channel j k sid p → k < l → l < p → (q : Sent) → At c.lists.up l q → Clears q.message sid → ⊥
  not-cleared zero l lt channel j k sid p b after before q at clears = omega (arith, lt)
  not-cleared (suc n) l lt channel j k sid p b after before q at clears =
      let on = clears-on q.intent q.message (asked l q at) clears.0 in
      let own = under l on.0 q Clear at on.1 (λ e. cc) in
      let o : IsCreatedBefore c.lists on.0 own.0 own.1 sid l = subst (λ (z : ℕ). IsCreatedBefore c.lists on.0 own.0 own.1 z l) clears.1 own.2 in
      elim (three-ways j own.0) [
        | inl first ↦
            let r = created.apart j own.0 sid sid b.t o.t first b.told.0 o.told.0 b.told.2 o.told.2 b.told.3 o.told.3 refl in
            let w : IsClearedWithin c.lists.up sid k own.1 = subst (λ (z : ℕ × ℕ). IsClearedWithin c.lists.up sid z.0 z.1) (λ i. (b.told.1 i, o.told.1 i)) r.1 in
            let early : own.1 < l = o.early in
            let a : k < w.0 = w.2 in
            let e : w.0 < own.1 = w.3 in
            not-cleared n w.0 (omega (arith, e, early, lt)) channel j k sid p b a (omega (arith, e, early, before)) w.1 w.4 w.5
        | inr (inl same) ↦
            let t_is : b.t ≡ o.t = At-one c.lists.down own.0 b.t o.t (subst (λ (z : ℕ). At c.lists.down z b.t) same b.told.0) o.told.0 in
            let k_is : k ≡ own.1 = sym b.told.1 ∙ ap (λ (z : Told). z.place) t_is ∙ o.told.1 in
            let r_is : b.r ≡ o.r = At-one c.lists.up own.1 b.r o.r (subst (λ (z : ℕ). At c.lists.up z b.r) k_is b.asked.0) o.asked.0 in
            let channel_is : on.0 ≡ channel = one-channel on.0 channel Create Create (sym o.asked.1 ∙ ap (λ (z : Sent). z.intent) (sym r_is) ∙ b.asked.1) in
            b.since l q Clear after before at (on.1 ∙ ap (λ (z : ℕ). On z Clear) channel_is)
        | inr (inr last) ↦
            let r = created.apart own.0 j sid sid o.t b.t last o.told.0 b.told.0 o.told.2 b.told.2 o.told.3 b.told.3 refl in
            let w : IsClearedWithin c.lists.up sid own.1 k = subst (λ (z : ℕ × ℕ). IsClearedWithin c.lists.up sid z.0 z.1) (λ i. (o.told.1 i, b.told.1 i)) r.1 in
            let a : own.1 < w.0 = w.2 in
            let e : w.0 < k = w.3 in
            not-cleared n w.0 (omega (arith, e, after, lt)) on.0 own.0 own.1 sid l o a (omega (arith, e, after)) w.1 w.4 w.5
      ]

  pub uncleared : (channel j k sid p : ℕ) → IsCreatedBefore c.lists channel j k sid p → IsClearedWithin c.lists.up sid k p → ⊥
  uncleared channel j k sid p b w = not-cleared (suc w.0) w.0 (omega arith) channel j k sid p b w.2 w.3 w.1 w.4 w.5

  -- The message that is handled next goes under the SID of a channel: that is noted as open, and
  -- was created by its own CREATE_CHAN.
  pub noted-open : (channel j k sid : ℕ) → c.lists.server_open ≡ true → IsCreatedBefore c.lists channel j k sid (length c.lists.handled) → (x : Creation) × In c.creations x × (x.sid ≡ sid) × (x.place ≡ k)
  noted-open channel j k sid opened b = elim (created.noted j sid b.t opened b.told.0 b.told.2 b.told.3) [
    | inl x ↦ (x.0, x.1, x.2, x.3 ∙ b.told.1)
    | inr cleared ↦ absurd (uncleared channel j k sid (length c.lists.handled) b (subst (λ (z : ℕ). IsClearedWithin c.lists.up sid z (length c.lists.handled)) b.told.1 cleared))
  ]

-- ---- a WRITE

create-unused : (ask : Ask) → ask ≡ Create → IsUse ask → ⊥
create-unused ask is uses = subst (λ (z : Ask). IsUse z) is uses

write-handled : (c : Joined) (e : ServerEnd) (y : ServerSide) → CreatedOn c → AreUnder c.lists → ((k : ℕ) (s : Sent) → At c.lists.up k s → Suits s.intent s.message) → c.lists.server_open ≡ true → ChannelsOn e c → CreationsOn c
    → (s : Sent) → At c.lists.up (length c.lists.handled) s → Is command.Write s.message → (cid : ℕ) → IsCidAt (knows y.core e) s.message.p1 cid → IsCidOf c.lists.up (length c.lists.handled) s.intent cid
write-handled c e y created under asked opened opens creations s at writes cid held_cid =
    let on = writes-on s.intent s.message (asked (length c.lists.handled) s at) writes in
    let own = under (length c.lists.handled) on.0 s (Request Write on.1) at on.2 (λ e. cc) in
    let x = noted-open c created under asked on.0 own.0 own.1 (sid_in s.message) opened own.2 in
    let b = own.2 in
    let about = created.about own.0 (sid_in s.message) b.t b.told.0 b.told.2 b.told.3 in
    let r_is : about.1.0 ≡ b.r = At-one c.lists.up own.1 about.1.0 b.r (subst (λ (z : ℕ). At c.lists.up z about.1.0) b.told.1 about.1.1) b.asked.0 in
    let creates : Is command.CreateChannel b.r.message = subst (λ (z : Sent). Is command.CreateChannel z.message) {x = about.1.0} {y = b.r} r_is about.1.2 in
    let found : b.r.message.p1 ≡ cid = by x b.r b.asked.0 held_cid in (
      on.0,
      own.1,
      Request Write on.1,
      b.r,
      on.2,
      b.early,
      b.asked.0,
      b.asked.1,
      (creates, found),
      λ l q after before there is. create-unused Create refl (b.since l q Create after before there is),
    )
  where
    sid : ℕ
    sid = sid_in s.message

    by : {k : ℕ} → (x : Creation) × In c.creations x × (x.sid ≡ s.message.p1) × (x.place ≡ k) → (r : Sent) → At c.lists.up k r → IsCidAt (knows y.core e) s.message.p1 cid → r.message.p1 ≡ cid
    by {k} x r at_r (inl (known, there, wire, is)) =
        let h = At-mapped known_channel (held e.channels) there.0 known there.1 in
        let o = opens.opens h.0.0 h.0.1 (held-under e.channels there.0 h.0 h.1) in
        let f = find-at (has_sid (wire_of h.0.0)) c.creations o.0 o.1 in
        let o_sid : o.0.sid ≡ s.message.p1 = eqb-true o.0.sid (wire_of h.0.0) f.2 ∙ ap (λ (z : KnownChannel). z.sid) (sym h.2) ∙ wire in
        let one : x.0 ≡ o.0 = creations.one x.0 o.0 x.1 (f.0, f.1) (x.2 ∙ sym o_sid) in
        let place : o.0.place ≡ k = ap (λ (z : Creation). z.place) (sym one) ∙ x.3 in
        let r_is : r ≡ o.2.0 = At-one c.lists.up k r o.2.0 at_r (subst (λ (z : ℕ). At c.lists.up z o.2.0) place o.2.1) in
        ap (λ (z : Sent). z.message.p1) r_is ∙ o.2.2 ∙ ap (λ (z : KnownChannel). z.cid) (sym h.2) ∙ is
    by {k} x r at_r (inr (none, is)) =
        let o = opens.stale x.0 x.1 in
        let h = under-held e.channels o.0 o.1 o.2 in
        absurd (none (known_channel (o.0, o.1)) (h.0, At-map known_channel (held e.channels) h.0 (o.0, o.1) h.1) (o.3 ∙ x.2))

pub reached-writes : (w : World) → IsReached w → AllUnder w → (new : World) (k : ℕ) (j : Joined) (y : ServerSide) (f : StepHandles w k j y new) → At w.circuits k j → At w.servers j.server y → j.lists.server_open ≡ true
    → (s : Sent) → At j.lists.up (length j.lists.handled) s → Is command.Write s.message → (cid : ℕ) → IsCidAt (knows y.core (record f.e { link = with_rest (f.steps.0).rest f.e.link })) s.message.p1 cid → IsCidOf j.lists.up (length j.lists.handled) s.intent cid
reached-writes w reached under new k j y f on at opened s there writes cid is =
    let h = reached-serves w reached in
    let asked : AllAsked w = h.2.stands.asked in
    let o = h.2.channels k j y f.e on at opened f.has in
    write-handled j (record f.e { link = with_rest (f.steps.0).rest f.e.link }) y (reached-created w reached k j on) (under k j on) (λ l r at_r. asked k l j r on at_r) opened (record { few = o.few; opens = o.opens; stale = o.stale })
    (reached-creations w reached k j y f.e on at opened f.has) s there writes cid is
