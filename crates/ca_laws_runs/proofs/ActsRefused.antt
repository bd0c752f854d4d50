-- BADCHID answers a message only if its record had been removed, and then answers each use of that.
use Rattle.std.proofs.Common.{◌≡◌, ℕ, zero, suc, ◌+◌, ◌<◌, ◌≤◌, ◌⊎◌, inl, inr, Bool, true, false, List, [], ◌∷◌, length, Option, Some, refl, sym, ap, subst, ◌∙◌, arith}
use Rattle.std.specs.Prelude.{take}
use Rattle.ca_dbr.specs.declared.value.Outcome.TheVariants.{Failed}
use Rattle.ca_requests.specs.Meaning.{Means}
use Rattle.ca_text.specs.declared.command.Command.TheVariants as command
use Rattle.ca_text.specs.Place.{At}
use Rattle.ca_text.specs.Status.{bad_channel}
use Rattle.ca_text.proofs.Places.{some_is, At-one}
use Rattle.ca_wire.specs.Fields.{Fields}
use Rattle.ca_wire.specs.Messages.{error_reply, status_reply}
use Rattle.ca_model.proofs.Thinner.{three-ways}
use Rattle.ca_model.specs.Due.{IsUnknown, KnownChannel, Serves, StrayDue}
use Rattle.ca_model.specs.History.{Added, Applied, Circuit, Entry, Finished, Intent, Line, On, Put, Read, Removed, Reply, Request, Sent, Step, Subscribe, Told, Withdrawn, Write}
use Rattle.ca_model.specs.History as history
use Rattle.ca_model.specs.Speech.{In, Is, name_in, sid_in}
use Rattle.ca_model.specs.Channels.{Has, IsOpen, IsReply, IsUse, Suits, before}
use Rattle.ca_model.specs.Causes.{Acted}
use Rattle.ca_model.specs.Events.{Event}
use Rattle.ca_model.specs.Runs.{Runs}
use Rattle.ca_model.specs.World.{IsSetting, Setting, World}
use Rattle.ca_laws_parts.proofs.BytesRuns.{runs-take}
use Rattle.ca_laws_runs.specs.Causes.{ComeAfter}
use Rattle.ca_laws_runs.proofs.CauseKeeps.{run-after}
use Rattle.ca_laws_runs.proofs.StepWhole.{run-serves}
use Rattle.ca_laws_parts.specs.Lives.{SayWhatIsSo}
use Rattle.ca_laws_parts.proofs.WritesLists.{none_at}
use Rattle.ca_laws_parts.proofs.WritesMoves.{At-below}
use Rattle.ca_laws_parts.proofs.SaysRuns.{run-says}
use Rattle.ca_laws_runs.specs.FollowsAnswering.{AnsweredAt, IsAnswered, IsLate, past}
use Rattle.ca_laws_runs.specs.Names.{KeepRecords}
use Rattle.ca_laws_runs.specs.Refused.{AreRefused, AreRetired, TellsBad}
use Rattle.ca_laws_runs.proofs.ActsOn.{of-circuits}
use Rattle.ca_laws_runs.proofs.AnsweringRuns.{run-all-answered}
use Rattle.ca_laws_runs.proofs.BadChannel.{bad-due, error-means, status-means}
use Rattle.ca_laws_runs.proofs.KnewChannels.{keep-take, one-has}
use Rattle.ca_laws_runs.proofs.NamesEvents.{run-keep}

-- ---- one channel under a SID

-- by lists, one channel is open under a SID
one-open : (c : Circuit) (y : List Entry) (i l r j k q sid : ℕ) → KeepRecords y → IsOpen c y i l sid r → IsOpen c y j k sid q → r ≡ q
one-open c y i l r j k q sid keep a b = elim (three-ways i j) [
  | inl lt ↦ absurd (a.1 j b.0.0 lt b.0.3 b.0.6)
  | inr (inr gt) ↦ absurd (b.1 i a.0.0 gt a.0.3 a.0.6)
  | inr (inl same) ↦
      let t_is : a.0.0 ≡ b.0.0 = At-one c.down j a.0.0 b.0.0 (subst (λ (n : ℕ). At c.down n a.0.0) same a.0.3) b.0.3 in
      let place : l ≡ k = sym a.0.4 ∙ ap (λ (t : Told). t.place) t_is ∙ b.0.4 in
      let s_is : a.0.1 ≡ b.0.1 = At-one c.up k a.0.1 b.0.1 (subst (λ (n : ℕ). At c.up n a.0.1) place a.0.7) b.0.7 in
      let h_is : a.0.2 ≡ b.0.2 = At-one c.handled k a.0.2 b.0.2 (subst (λ (n : ℕ). At c.handled n a.0.2) place a.0.8) b.0.8 in
      one-has y (b.0.2).logged r q (name_in (b.0.1).message) keep
      (subst (λ (v : Sent × Step). Has (take v.1.logged y) r (name_in v.0.message)) (λ x. (s_is x, h_is x)) a.0.9) b.0.9
]

-- whether a log removed a record
is-removal : (r : ℕ) (e : Entry) → (e ≡ Removed r) ⊎ (e ≡ Removed r → ⊥)
is-removal r (Removed i) = go i r
  where
    go : (i r : ℕ) → (Removed i ≡ Removed r) ⊎ (Removed i ≡ Removed r → ⊥)
    go i r = elim (three-ways i r) [
      | inl lt ↦ inr (λ e. (let same : i ≡ r = number i r e in omega (arith, lt, same)))
      | inr (inl same) ↦ inl (ap (λ (n : ℕ). Removed n) same)
      | inr (inr gt) ↦ inr (λ e. (let same : i ≡ r = number i r e in omega (arith, gt, same)))
    ]
      where
        number : (i r : ℕ) → Removed i ≡ Removed r → i ≡ r
        number i r e = cc
is-removal r (Added i s) = inr (λ e. cc)
is-removal r (history.Posted i mask v) = inr (λ e. cc)
is-removal r (history.Waits n k i v) = inr (λ e. cc)
is-removal r (Applied n k i v busies) = inr (λ e. cc)
is-removal r (Finished n k) = inr (λ e. cc)
is-removal r (Withdrawn n k) = inr (λ e. cc)

removed-or : (y : List Entry) (r : ℕ) → In y (Removed r) ⊎ (In y (Removed r) → ⊥)
removed-or [] r = inr (λ at. none_at at.0 (Removed r) at.1)
removed-or (e ∷ y) r = elim (is-removal r e) [
  | inl is ↦ inl (0, ap (λ (x : Entry). Some x) is)
  | inr other ↦ elim (removed-or y r) [
    | inl in_it ↦ inl (suc in_it.0, in_it.1)
    | inr none ↦ inr (λ at. not-in at.0 at.1 other none)
  ]
]
  where
    not-in : (i : ℕ) → At (e ∷ y) i (Removed r) → (e ≡ Removed r → ⊥) → (In y (Removed r) → ⊥) → ⊥
    not-in zero at other none = other (some_is e (Removed r) at)
    not-in (suc i) at other none = none (i, at)

past-by : (a b : ℕ) → a ≤ b → (q : ℕ) × (a + q ≡ b)
past-by zero b le = (b, omega arith)
past-by (suc a) zero le = absurd (omega (arith, le))
past-by (suc a) (suc b) le = (let r = past-by a b (omega (arith, le)) in let e : a + r.0 ≡ b = r.1 in (r.0, omega (arith, e)))

clash : (b : Bool) → b ≡ true → b ≡ false → ⊥
clash true e f = cc
clash false e f = cc

-- ---- one message that was handled on a record

module _ (n : ℕ) (c : Circuit) (y : List Entry) (keep : KeepRecords y) (after : ComeAfter c) (k r : ℕ) (h : Step) (at_h : At c.handled k h) (answered : AnsweredAt n c y k h) (acted : Acted c y k r) where
  abbrev a : IsAnswered n c y k h
  a = answered.0

  abbrev log : List Entry
  log = take h.logged y

  s-is : acted.0 ≡ a.s
  s-is = At-one c.up k acted.0 a.s acted.4 a.at

  h-is : acted.1 ≡ h
  h-is = At-one c.handled k acted.1 h acted.5 at_h

  abbrev sid : ℕ
  sid = sid_in a.s.message

  opened : IsOpen (past c k h) log acted.2 acted.3 sid r
  opened = subst (λ (v : Sent × Step). IsOpen (before c k v.1) (take v.1.logged y) acted.2 acted.3 (sid_in v.0.message) r) (λ i. (s-is i, h-is i)) acted.6

  -- the channel that the server knows under the SID is that of the record
  known-as : (ch : KnownChannel) → In a.known.channels ch → ch.sid ≡ sid → (ch.retired ≡ true → In log (Removed r)) × (In log (Removed r) → ch.retired ≡ true)
  known-as ch in_it under =
      let x = a.knew.channels.each ch in_it in
      let same : x.2 ≡ r = one-open (past c k h) log x.0 x.1 x.2 acted.2 acted.3 r sid (keep-take y h.logged keep) (subst (λ (v : ℕ). IsOpen (past c k h) log x.0 x.1 v x.2) under x.4) opened in
      ((λ is. subst (λ (v : ℕ). In log (Removed v)) same (x.8 is)), (λ gone. x.9 (subst (λ (v : ℕ). In log (Removed v)) (sym same) gone)))

  -- one is known there
  not-unknown : (cid : ℕ) → IsUnknown a.known a.s.message.p1 cid → ⊥
  not-unknown cid unknown = go (removed-or log r)
    where
      q : Sent
      q = opened.0.1

      of : Bool → KnownChannel
      of b = record { sid = sid; cid = q.message.p1; name = name_in q.message; retired = b }

      go : In log (Removed r) ⊎ (In log (Removed r) → ⊥) → ⊥
      go (inl gone) = unknown.0 (of true) (a.knew.channels.all (of true) (acted.2, acted.3, r, q, opened, opened.0.7, refl, refl, (λ e. gone), (λ e. refl))) refl
      go (inr stays) = unknown.0 (of false) (a.knew.channels.all (of false) (acted.2, acted.3, r, q, opened, opened.0.7, refl, refl, (λ e. absurd (clash false e refl)), (λ gone. absurd (stays gone)))) refl

  -- a reply in the step of the message
  in-step : (j : ℕ) (m : Fields) → IsReply c k j m → j < h.sent + length a.replies → In a.replies m
  in-step j m reply early =
      let g = after j (record { message = m; place = k; cause = Reply }) reply in
      let same : g.0 ≡ h = At-one c.handled k g.0 h g.1 at_h in
      let le : h.sent ≤ j = subst (λ (z : Step). z.sent ≤ j) same g.2 in
      let q = past-by h.sent j le in
      let e : h.sent + q.0 ≡ j = q.1 in
      let lt : q.0 < length a.replies = omega (arith, e, early) in
      let x = At-below a.replies q.0 lt in
      let t_is : (let t : Told = record { message = x.0; place = k; cause = Reply } in t) ≡ record { message = m; place = k; cause = Reply } = At-one c.down j _ _ (subst (λ (z : ℕ). At c.down z (record { message = x.0; place = k; cause = Reply })) q.1 (a.now q.0 x.0 x.1)) reply in
      (q.0, subst (λ (f : Fields). At a.replies q.0 f) (ap (λ (t : Told). t.message) t_is) x.1)

  pub retired-by : (j : ℕ) (m : Fields) → IsReply c k j m → Means m (Failed (record { number = bad_channel })) → In log (Removed r)
  retired-by j m reply means = elim (answered.1 j m reply) [
    | inr late ↦ absurd (not-late m late.0 late.1 means)
    | inl early ↦
        let b = bad-due a.known a.s.message a.replies a.did m a.due (in-step j m reply early) means in
        elim b.1 [
          | inl unknown ↦ absurd (not-unknown b.0 unknown)
          | inr retired ↦ (known-as retired.0 retired.1 retired.2).0 retired.3
        ]
  ]
    where
      not-late : (m : Fields) → m.command ≡ 19 → m.p1 ≡ 1 → Means m (Failed (record { number = bad_channel })) → ⊥
      not-late m is p1 (inl (inl read, image)) = omega (arith, is, read)
      not-late m is p1 (inl (inr event, image)) = (let e : m.command ≡ 1 = event.0 in omega (arith, is, e))
      not-late m is p1 (inr (inl put)) = put.1.0 p1
      not-late m is p1 (inr (inr (inl created))) = created.1
      not-late m is p1 (inr (inr (inr fault))) = (let e : m.command ≡ 11 = fault.0 in omega (arith, is, e))

  -- where the record was removed nothing is served
  not-served : In log (Removed r) → Serves a.known a.s.message.p1 → ⊥
  not-served gone serves = clash serves.channel.retired ((known-as serves.channel serves.open_there serves.under).1 gone) serves.there

  -- and each reply is the one that is due
  only-reply : (x m : Fields) (j : ℕ) → a.replies ≡ x ∷ [] → IsReply c k j m → (IsLate n c y k m → ⊥) → x ≡ m
  only-reply x m j one reply none = elim (answered.1 j m reply) [
    | inr late ↦ absurd (none late)
    | inl early ↦ first (in-step j m reply early)
  ]
    where
      first : In a.replies m → x ≡ m
      first (zero, at) = some_is x m (subst (λ (l : List Fields). At l 0 m) one at)
      first (suc i, at) = absurd (none_at i m (subst (λ (l : List Fields). At l (suc i) m) one at))

  -- the log reports nothing of a write that was refused
  told-bad : (x m : Fields) → a.replies ≡ x ∷ [] → Means x (Failed (record { number = bad_channel })) → Is command.WriteNotify a.s.message → SayWhatIsSo y n c → IsLate n c y k m → ⊥
  told-bad x m one means asks says late =
      (says (h.sent + 0) (record { message = x; place = k; cause = Reply }) a.s (a.now 0 x (subst (λ (l : List Fields). At l 0 x) (sym one) refl)) refl a.at).failed (record { number = bad_channel }) (inr asks) means (Finished n k) late.2 refl

  pub refused-by : (j : ℕ) (m : Fields) → In log (Removed r) → Suits a.s.intent a.s.message → IsUse a.s.intent → SayWhatIsSo y n c → IsReply c k j m → Means m (Failed (record { number = bad_channel }))
  refused-by j m gone suits uses says reply = go a.s.intent suits uses
    where
      other : (b e : ℕ) → a.s.message.command ≡ b → a.s.message.command ≡ e → (b ≡ e → ⊥) → ⊥
      other b e is also differ = differ (sym is ∙ also)

      -- a late reply is to a put
      not-put : (b : ℕ) → a.s.message.command ≡ b → (b ≡ 19 → ⊥) → IsLate n c y k m → ⊥
      not-put b is differ late = (let one : late.3.0 ≡ a.s = At-one c.up k late.3.0 a.s late.3.1 a.at in other b 19 is (ap (λ (z : Sent). z.message.command) (sym one) ∙ late.3.2) differ)

      stray : (reply_of : ℕ → Fields) → StrayDue a.known a.s.message reply_of a.replies a.did → ((cid : ℕ) → Means (reply_of cid) (Failed (record { number = bad_channel }))) → ((x : Fields) → a.replies ≡ x ∷ [] → Means x (Failed (record { number = bad_channel })) → IsLate n c y k m → ⊥) → Means m (Failed (record { number = bad_channel }))
      stray reply_of due means none =
          subst (λ (f : Fields). Means f (Failed (record { number = bad_channel }))) (only-reply (reply_of due.0) m j due.2 reply (λ late. none (reply_of due.0) due.2 (means due.0) late)) (means due.0)

      go : (i : Intent) → Suits i a.s.message → IsUse i → Means m (Failed (record { number = bad_channel }))
      go (On channel (Request Read number)) suits uses = elim (a.due.read suits) [
        | inl served ↦ absurd (not-served gone served.0)
        | inr due ↦ stray (λ cid. status_reply a.s.message bad_channel) due (λ cid. status-means a.s.message (inl suits)) (λ x one means late. not-put 15 suits (λ e. absurd (omega (arith, e))) late)
      ]
      go (On channel (Request Put number)) suits uses = elim (a.due.put suits) [
        | inl served ↦ absurd (not-served gone served.0)
        | inr due ↦ stray (λ cid. status_reply a.s.message bad_channel) due (λ cid. status-means a.s.message (inr suits)) (λ x one means late. told-bad x m one means suits says late)
      ]
      go (On channel (Request Write number)) suits uses = elim (a.due.write suits) [
        | inl served ↦ absurd (not-served gone served.0)
        | inr due ↦ stray (λ cid. error_reply cid bad_channel a.s.message) due (λ cid. error-means cid a.s.message) (λ x one means late. not-put 4 suits (λ e. absurd (omega (arith, e))) late)
      ]
      go (On channel (Subscribe number)) suits uses = elim (a.due.subscribe suits) [
        | inl served ↦ absurd (not-served gone served.0)
        | inr due ↦ stray (λ cid. error_reply cid bad_channel a.s.message) due (λ cid. error-means cid a.s.message) (λ x one means late. not-put 1 suits (λ e. absurd (omega (arith, e))) late)
      ]
      go (On channel history.Create) suits uses = absurd uses
      go (On channel history.Clear) suits uses = absurd uses
      go (On channel (history.Cancel number)) suits uses = absurd uses
      go history.OfCircuit suits uses = absurd uses

-- ---- every run

pub run-retired : (s : Setting) (es : List Event) (stopped : Option Event) (w : World) → IsSetting s → Runs s es stopped w → AreRetired w
run-retired s es stopped w ok runs =
    of-circuits s es stopped w ok runs
    (λ (n : ℕ) (c : Circuit) (x : List Line) (y : List Entry). (k j r : ℕ) (h : Step) → TellsBad w c k j → Acted c y k r → At c.handled k h → In (take h.logged y) (Removed r))
    (λ n j x y at lx ly k i r h bad acted at_h.
    retired-by n j.lists y (run-keep s es stopped w ok runs j.lists.server y ly) (run-after s es stopped w ok runs n j at) k r h at_h (run-all-answered s es stopped w ok runs n j y at ly k h at_h).0 acted i bad.0 bad.1 bad.2)

pub run-refused : (s : Setting) (es : List Event) (stopped : Option Event) (w : World) → IsSetting s → Runs s es stopped w → AreRefused w
run-refused s es stopped w ok runs =
    of-circuits s es stopped w ok runs
    (λ (n : ℕ) (c : Circuit) (x : List Line) (y : List Entry). (k j r : ℕ) (m : Fields) (q : Sent) (h : Step) → IsReply c k j m → At c.up k q → IsUse q.intent → Acted c y k r → At c.handled k h → In (take h.logged y) (Removed r) → TellsBad w c k j)
    (λ n j x y at lx ly k i r m q h reply at_q uses acted at_h gone.
    let a = (run-all-answered s es stopped w ok runs n j y at ly k h at_h).0 in
    let same : q ≡ a.0.s = At-one j.lists.up k q a.0.s at_q a.0.at in (
      m,
      reply,
      refused-by n j.lists y (run-keep s es stopped w ok runs j.lists.server y ly) (run-after s es stopped w ok runs n j at) k r h at_h a acted i m gone
          ((run-serves s es stopped w ok runs).stands.asked n k j a.0.s at a.0.at) (subst (λ (z : Sent). IsUse z.intent) same uses) ((run-says s es stopped w ok runs (runs-take s es ok)).so n j y at ly) reply,
    ))
