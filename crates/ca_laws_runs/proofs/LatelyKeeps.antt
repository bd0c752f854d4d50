-- What is known of the late reply to a put stays so as the lists of its circuit and the
-- log of its server grow.
use Rattle.std.proofs.Common.{◌≡◌, ℕ, zero, suc, ◌+◌, ◌<◌, ◌≤◌, ◌⊎◌, inl, inr, Bool, true, false, List, [], ◌∷◌, ◌++◌, length, Some, refl, sym, subst, arith}
use Rattle.ca_text.specs.Place.{At}
use Rattle.ca_text.specs.Status.{normal}
use Rattle.ca_text.proofs.Places.{some_is, At-append, At-back, At-one, At-or, At-within}
use Rattle.ca_dbr.specs.Elements.{Elements}
use Rattle.ca_wire.specs.Fields.{Fields}
use Rattle.ca_wire.specs.Messages.{status_reply}
use Rattle.ca_model.specs.Due.{Action, Applies, late_reply}
use Rattle.ca_model.specs.Due as action
use Rattle.ca_model.specs.History.{Applied, Circuit, Entry, Finished, Sent, Step, Waits, Withdrawn}
use Rattle.ca_model.specs.Speech.{In, Stored, sid_in}
use Rattle.ca_model.specs.Channels.{IsCleared, IsReply, IsTaken, IsUncleared}
use Rattle.ca_model.specs.World.{Joined}
use Rattle.ca_laws_parts.specs.Lives.{CameOn, LostOn}
use Rattle.ca_laws_parts.specs.Once.{Once}
use Rattle.ca_laws_parts.proofs.Going.{came-taken}
use Rattle.ca_laws_parts.proofs.WritesLists.{none_at}
use Rattle.ca_laws_runs.specs.FollowsAnswering.{LogsSo}
use Rattle.ca_laws_runs.proofs.Acting.{Extends, IsLonger}

-- ---- puts whose reply comes late

-- By this log the put came to wait, or made its record busy.
abbrev pub IsDelayed : List Entry → (n k : ℕ) → Type 0
IsDelayed y n k = ((r : ℕ) × (v : Stored) × In y (Waits n k r v)) ⊎ ((r : ℕ) × (v : Stored) × In y (Applied n k r v true))

-- what a message does whose reply comes late
abbrev pub IsLateDid : Action → Type 0
IsLateDid (Applies name value true) = Unit {0}
IsLateDid (action.Waits name value) = Unit {0}
IsLateDid did = ⊥

pub late-is : (m : Fields) (did : Action) → IsLateDid did → late_reply m did ≡ Some (status_reply m normal)
late-is m (Applies name value true) late = refl
late-is m (Applies name value false) late = absurd late
late-is m (action.Waits name value) late = refl
late-is m (action.Clears sid) late = absurd late
late-is m action.Nothing late = absurd late
late-is m action.Greets late = absurd late
late-is m (action.Names x) late = absurd late
late-is m (action.Opens x) late = absurd late
late-is m (action.Adds x) late = absurd late
late-is m (action.Drops x) late = absurd late
late-is m (action.Switches x) late = absurd late

-- ---- what the log tells of a put is what its message does

one-in : (x e : Entry) (es : List Entry) → es ≡ x ∷ [] → In es e → x ≡ e
one-in x e es is h = go h.0 (subst (λ (l : List Entry). At l h.0 e) is h.1)
  where
    go : (i : ℕ) → At (x ∷ []) i e → x ≡ e
    go zero at = some_is x e at
    go (suc i) at = absurd (none_at i e at)

none-in : (e : Entry) (es : List Entry) → es ≡ [] → In es e → ⊥
none-in e es is h = none_at h.0 e (subst (λ (l : List Entry). At l h.0 e) is h.1)

same-busies : (n k r a b q : ℕ) (v u : Stored) (x y : Bool) → Applied n k r v x ≡ Applied a b q u y → x ≡ y
same-busies n k r a b q v u x y e = cc

applied-waits : (n k r a b q : ℕ) (v u : Stored) (x : Bool) → Applied n k r v x ≡ Waits a b q u → ⊥
applied-waits n k r a b q v u x e = cc

waits-applied : (n k r a b q : ℕ) (v u : Stored) (x : Bool) → Waits n k r v ≡ Applied a b q u x → ⊥
waits-applied n k r a b q v u x e = cc

withdrawn-applied : (n k a b r : ℕ) (v : Stored) (x : Bool) → Applied a b r v x ≡ Withdrawn n k → ⊥
withdrawn-applied n k a b r v x e = cc

withdrawn-waits : (n k a b r : ℕ) (v : Stored) → Waits a b r v ≡ Withdrawn n k → ⊥
withdrawn-waits n k a b r v e = cc

-- a message whose step logs that it waits
waits-did : (n k a b r : ℕ) (v : Stored) (y : List Entry) (did : Action) (logs : List Entry) → LogsSo n k y did logs → In logs (Waits a b r v)
    → IsLateDid did
waits-did n k a b r v y (action.Waits name value) logs so there = tt
waits-did n k a b r v y (Applies name value busies) logs so there = absurd (applied-waits n k so.0 a b r so.1 v busies (one-in (Applied n k so.0 so.1 busies) (Waits a b r v) logs so.5 there))
waits-did n k a b r v y (action.Clears sid) logs so there = (let x = so there.0 (Waits a b r v) there.1 in absurd (withdrawn-waits x.0 x.1 a b r v x.2))
waits-did n k a b r v y action.Nothing logs so there = absurd (none-in (Waits a b r v) logs so there)
waits-did n k a b r v y action.Greets logs so there = absurd (none-in (Waits a b r v) logs so there)
waits-did n k a b r v y (action.Names x) logs so there = absurd (none-in (Waits a b r v) logs so there)
waits-did n k a b r v y (action.Opens x) logs so there = absurd (none-in (Waits a b r v) logs so there)
waits-did n k a b r v y (action.Adds x) logs so there = absurd (none-in (Waits a b r v) logs so there)
waits-did n k a b r v y (action.Drops x) logs so there = absurd (none-in (Waits a b r v) logs so there)
waits-did n k a b r v y (action.Switches x) logs so there = absurd (none-in (Waits a b r v) logs so there)

-- a message whose step logs that it makes its record busy
applied-did : (n k a b r : ℕ) (v : Stored) (y : List Entry) (did : Action) (logs : List Entry) → LogsSo n k y did logs
    → In logs (Applied a b r v true) → IsLateDid did
applied-did n k a b r v y (Applies name value busies) logs so there =
    subst (λ (x : Bool). IsLateDid (Applies name value x)) (sym (same-busies n k so.0 a b r so.1 v busies true (one-in (Applied n k so.0 so.1 busies) (Applied a b r v true) logs so.5 there))) tt
applied-did n k a b r v y (action.Waits name value) logs so there = absurd (waits-applied n k so.0 a b r so.1 v true (one-in (Waits n k so.0 so.1) (Applied a b r v true) logs so.5 there))
applied-did n k a b r v y (action.Clears sid) logs so there = (let x = so there.0 (Applied a b r v true) there.1 in absurd (withdrawn-applied x.0 x.1 a b r v true x.2))
applied-did n k a b r v y action.Nothing logs so there = absurd (none-in (Applied a b r v true) logs so there)
applied-did n k a b r v y action.Greets logs so there = absurd (none-in (Applied a b r v true) logs so there)
applied-did n k a b r v y (action.Names x) logs so there = absurd (none-in (Applied a b r v true) logs so there)
applied-did n k a b r v y (action.Opens x) logs so there = absurd (none-in (Applied a b r v true) logs so there)
applied-did n k a b r v y (action.Adds x) logs so there = absurd (none-in (Applied a b r v true) logs so there)
applied-did n k a b r v y (action.Drops x) logs so there = absurd (none-in (Applied a b r v true) logs so there)
applied-did n k a b r v y (action.Switches x) logs so there = absurd (none-in (Applied a b r v true) logs so there)

beyond : (a i : ℕ) → a ≤ i → (t : ℕ) × (i ≡ a + t)
beyond zero i le = (i, omega arith)
beyond (suc a) zero le = absurd (omega (arith, le))
beyond (suc a) (suc i) le = (let r = beyond a i (omega (arith, le)) in let e : i ≡ a + r.0 = r.1 in (r.0, omega (arith, e)))

-- Of the message at place k of circuit n, which was handled, the log says first in its step.
module _ (cs : List Joined) (life : ℕ) (z : List Entry) (once : Once (CameOn cs life) (LostOn cs) z) (n k : ℕ) (d : Joined) (on : At cs n d)
    (h : Step) (at_h : At d.lists.handled k h) where
  came-in : (i : ℕ) (value : Elements) → CameOn cs life IsTaken (record { circuit = n; place = k }) i value → (h.logged ≤ i) × (i < h.after)
  came-in i value came = elim (subst (λ (x : Joined). IsTaken x.lists k i) (At-one cs n came.c d came.on on) came.taken) [
    | inl now ↦ subst (λ (x : Step). (x.logged ≤ i) × (i < x.after)) (At-one d.lists.handled k now.0 h now.1 at_h) (now.2, now.3)
    | inr last ↦ (let is : k ≡ length d.lists.handled = last.0 in
        let lt : k < length d.lists.handled = At-within d.lists.handled k h at_h in absurd (omega (arith, is, lt)))
  ]

  -- a put that is finished made its record busy
  pub finished-delayed : In z (Finished n k) → IsDelayed z n k
  finished-delayed done = (let busy = (once.finished n k done.0 done.1).0 in inr (busy.1, busy.2, (busy.0, busy.3)))

  -- so what a message does is what the log tells of its put
  module _ (base : List Entry) (did : Action) (logs : List Entry) (so : LogsSo n k base did logs)
      (logged : (i : ℕ) (e : Entry) → At logs i e → At z (h.logged + i) e)
      (besides : (i : ℕ) (e : Entry) → h.logged + length logs ≤ i → i < h.after → At z i e → (m l : ℕ) × (e ≡ Withdrawn m l)) where
    in-step : (i : ℕ) (e : Entry) → At z i e → h.logged ≤ i → i < h.after → In logs e ⊎ ((m l : ℕ) × (e ≡ Withdrawn m l))
    in-step i e at from until =
        let t = beyond h.logged i from in
        elim (At-or logs t.0) [
          | inl x ↦ inl (t.0, subst (λ (x1 : Entry). At logs t.0 x1) (At-one z i x.0 e (subst (λ (p : ℕ). At z p x.0) (sym t.1) (logged t.0 x.0 x.1)) at) x.1)
          | inr past ↦ (let is : i ≡ h.logged + t.0 = t.1 in inr (besides i e (omega (arith, is, past)) until at))
        ]

    waits-so : (i r : ℕ) (v : Stored) → At z i (Waits n k r v) → IsLateDid did
    waits-so i r v at =
        let c = came-in i v.value (came-taken cs life (record { circuit = n; place = k }) i v.value (once.came i n k r v at)) in
        elim (in-step i (Waits n k r v) at c.0 c.1) [
          | inl own ↦ waits-did n k n k r v base did logs so own
          | inr other ↦ absurd (withdrawn-waits other.0 other.1 n k r v other.2)
        ]

    pub delayed-did : IsDelayed z n k → IsLateDid did
    delayed-did (inl (r, v, there)) = waits-so there.0 r v there.1
    delayed-did (inr (r, v, there)) = elim (once.own there.0 n k r v true there.1) [
      | inl came ↦
          let c = came-in there.0 v.value came in
          elim (in-step there.0 (Applied n k r v true) there.1 c.0 c.1) [
            | inl own ↦ applied-did n k n k r v base did logs so own
            | inr other ↦ absurd (withdrawn-applied other.0 other.1 n k r v true other.2)
          ]
      | inr had ↦ waits-so had.0 r had.1 had.3
    ]

-- ---- a put that was handled before was delayed before

module _ (cs : List Joined) (life : ℕ) (y more : List Entry) (once : Once (CameOn cs life) (LostOn cs) (y ++ more)) (n k : ℕ) (d : Joined)
    (on : At cs n d) (h : Step) (at_h : At d.lists.handled k h) (within : h.after ≤ length y) where
  was-in : (i r : ℕ) (v : Stored) → At (y ++ more) i (Waits n k r v) → In y (Waits n k r v)
  was-in i r v at = (let c = came-in cs life (y ++ more) once n k d on h at_h i v.value (came-taken cs life (record { circuit = n; place = k }) i v.value (once.came i n k r v at)) in
      let lt : i < h.after = c.1 in (i, At-back y more i (Waits n k r v) at (omega (arith, lt, within))))

  pub delayed-old : IsDelayed (y ++ more) n k → IsDelayed y n k
  delayed-old (inl (r, v, there)) = inl (r, v, was-in there.0 r v there.1)
  delayed-old (inr (r, v, there)) = elim (once.own there.0 n k r v true there.1) [
    | inl came ↦
        let c = came-in cs life (y ++ more) once n k d on h at_h there.0 v.value came in
        let lt : there.0 < h.after = c.1 in
        inr (r, v, (there.0, At-back y more there.0 (Applied n k r v true) there.1 (omega (arith, lt, within))))
    | inr had ↦ inl (r, had.1, was-in had.0 r had.1 had.3)
  ]

-- ---- what is known of a late reply

-- What a late reply is to be, of the message and of the reply.
module _ (Answers : Fields → Fields → Type 0) where
  -- A put that waits, or makes its record busy, has a reply only once it is finished. That is one
  -- at most, the one that is due, and it is there if the put was finished before its channel was
  -- cleared, and the server's end is open.
  pub record IsKnownLate (n : ℕ) (c : Circuit) (y : List Entry) (k : ℕ) (s : Sent) : Type 0 where
    pub place : ℕ
    pub waits : IsDelayed y n k → (j : ℕ) (m : Fields) → IsReply c k j m → In y (Finished n k)
    pub one : (j : ℕ) (m : Fields) → IsReply c k j m → In y (Finished n k) → (j ≡ place) × Answers s.message m
    pub comes : (e : ℕ) → At y e (Finished n k) → IsUncleared c k (sid_in s.message) e → c.server_open ≡ true → (m : Fields) × IsReply c k place m

  still-cleared : (c d : Circuit) → Extends c d → (k sid e : ℕ) → IsCleared c k sid e → IsCleared d k sid e
  still-cleared c d ext k sid e (l, s, h, lt, at_s, at_h, le, clears) = (l, s, h, lt, ext.up l s at_s, ext.handled l h at_h, le, clears)

  pub late-forth : (n : ℕ) (c d : Circuit) (y z : List Entry) (k : ℕ) (s : Sent) → Extends c d → IsLonger y z → (IsDelayed z n k → IsDelayed y n k)
      → ((j : ℕ) (m : Fields) → IsReply d k j m → IsReply c k j m)
      → ((e : ℕ) → At z e (Finished n k) → At y e (Finished n k)) → (d.server_open ≡ true → c.server_open ≡ true) → IsKnownLate n c y k s → IsKnownLate n d z k s
  late-forth n c d y z k s ext longer delayed replies finished opened l = record {
    place = l.place;
    waits = λ late j m reply. (let w = l.waits (delayed late) j m (replies j m reply) in (w.0, subst (λ (x : List Entry). At x w.0 (Finished n k)) (sym longer.1) (At-append y longer.0 w.0 (Finished n k) w.1)));
    one = λ j m reply done. l.one j m (replies j m reply) (done.0, finished done.0 done.1);
    comes = λ e at uncleared is_open. (let r = l.comes e (finished e at) (λ cleared. uncleared (still-cleared c d ext k (sid_in s.message) e cleared)) (opened is_open) in (r.0, ext.down l.place _ r.1));
  }
