-- How a message was answered does not change as the lists of its circuit and the
-- log of its server grow.
use Rattle.std.proofs.Common.{◌≡◌, ℕ, zero, suc, ◌+◌, ◌<◌, ◌≤◌, ◌⊎◌, inl, inr, List, [], ◌∷◌, ◌++◌, length, Option, Some, None, refl, sym, ap, subst, ◌∙◌, arith}
use Rattle.std.specs.Prelude.{option_map, slice_get, slice_set, take, unwrap_or}
use Rattle.ca_text.specs.Place.{At}
use Rattle.ca_text.proofs.Places.{some_is, At-append, At-back, At-mapped, At-set, At-within}
use Rattle.ca_wire.specs.Fields.{Fields}
use Rattle.ca_model.specs.Due.{Action}
use Rattle.ca_model.specs.History.{Circuit, Entry, Finished, Reply, Step, Told}
use Rattle.ca_model.specs.Channels.{IsReply}
use Rattle.ca_model.specs.Channels.{IsUncleared}
use Rattle.ca_model.specs.Known.{AreJust, IsWithdrawal}
use Rattle.ca_model.specs.Speech.{sid_in}
use Rattle.ca_model.specs.ServerEvents.{StepHandles, about, acted, ending, ends_by, handled_at, numbers_after, server_after, server_closed, side_of, write_numbers}
use Rattle.ca_model.specs.ServerEvents as server
use Rattle.ca_model.specs.World.{Joined, ServerSide, Setting, World, with_circuit}
use Rattle.ca_laws_parts.proofs.Handled.{numbers-like, writes-like}
use Rattle.ca_laws_parts.proofs.WritesLists.{none_at}
use Rattle.ca_laws_runs.specs.FollowsAnswering.{AnsweredAt, AnsweredBy, IsLate, KnowsLists, LogsSo, past}
use Rattle.ca_laws_runs.specs.Given.{IsGiven}
use Rattle.ca_laws_runs.proofs.Acting.{Extends, Grows, IsLonger, grown-back, longer-taken}
use Rattle.ca_laws_runs.proofs.CausingKeeps.{Steady}
use Rattle.ca_laws_runs.proofs.Known.{grows-le, longer-le}

-- ---- beginnings

pub grows-take : {A : Type 0} (n : ℕ) (xs ys : List A) → Grows xs ys → n ≤ length xs → take n ys ≡ take n xs
grows-take zero xs ys grows le = refl
grows-take (suc n) [] ys grows le = absurd (omega (arith, le))
grows-take (suc n) (x ∷ xs) [] grows le = absurd (none_at 0 x (grows 0 x refl))
grows-take {A} (suc n) (x ∷ xs) (y ∷ ys) grows le =
    let same : y ≡ x = some_is y x (grows 0 x refl) in
    ap (λ (z : A). z ∷ take n ys) same ∙ ap (λ (l : List A). x ∷ l) (grows-take n xs ys (λ i z at. grows (suc i) z at) (omega (arith, le)))

pub past-is : (d c : Circuit) (k : ℕ) (h : Step) → d.server ≡ c.server → take k d.up ≡ take k c.up → take h.sent d.down ≡ take h.sent c.down → take k d.handled ≡ take k c.handled → past d k h ≡ past c k h
past-is d c k h server up down handled = λ i. record (past c k h) { server = server i; up = up i; down = down i; handled = handled i }

-- ---- a message that was handled before

module _ (n : ℕ) (c d : Circuit) (y z : List Entry) (k : ℕ) (h : Step) (ext : Extends c d) (life : d.server ≡ c.server) (longer : IsLonger y z) (steady : Steady y c) (at_h : At c.handled k h) where
  few : k ≤ length c.up
  few = (let lt : k < length c.handled = At-within c.handled k h at_h in let le : length c.handled ≤ length c.up = steady.few in omega (arith, lt, le))

  same-past : past d k h ≡ past c k h
  same-past =
      past-is d c k h life (grows-take k c.up d.up ext.up few) (grows-take h.sent c.down d.down ext.down (steady.within k h at_h).sent)
      (grows-take k c.handled d.handled ext.handled (let lt : k < length c.handled = At-within c.handled k h at_h in omega (arith, lt)))

  -- no clear was handled by then, still
  still : ((l : ℕ) (g : Step) → At d.handled l g → At c.handled l g ⊎ ((length c.down ≤ g.sent) × (length y ≤ g.logged))) → (sid e : ℕ) → e < length y → IsUncleared c k sid e → IsUncleared d k sid e
  still steps sid e lt uncleared (l, q, g, after, at_q, at_g, le, clears) = elim (steps l g at_g) [
    | inl old ↦
        uncleared (l, q, g, after, grown-back c.up d.up ext.up l q (let below : l < length c.handled = At-within c.handled l g old in let most : length c.handled ≤ length c.up = steady.few in omega (arith, below, most)) at_q, old, le, clears)
    | inr late ↦ (let from : length y ≤ g.logged = late.1 in omega (arith, lt, le, from))
  ]

  pub answered-forth : ((l : ℕ) (g : Step) → At d.handled l g → At c.handled l g ⊎ ((length c.down ≤ g.sent) × (length y ≤ g.logged))) → ((j : ℕ) (m : Fields) → IsReply d k j m → IsReply c k j m ⊎ IsLate n d z k m) → AnsweredAt n c y k h → AnsweredAt n d z k h
  answered-forth steps replies (a, rest) = (
    record {
      s = a.s;
      at = ext.up k a.s a.at;
      known = a.known;
      did = a.did;
      replies = a.replies;
      knew = subst (λ (v : Circuit × List Entry). KnowsLists v.0 v.1 a.known) (λ i. (sym same-past i, sym (longer-taken h.logged y z longer (steady.within k h at_h).logged) i)) a.knew;
      due = a.due;
      now = λ i m at. ext.down (h.sent + i) (record { message = m; place = k; cause = Reply }) (a.now i m at);
      fits = (let le : h.sent + length a.replies ≤ length c.down = a.fits in let more : length c.down ≤ length d.down = grows-le c.down d.down ext.down in omega (arith, le, more));
      next = λ l g lt at. elim (steps l g at) [
        | inl old ↦ a.next l g lt old
        | inr late ↦ (let le : h.sent + length a.replies ≤ length c.down = a.fits in let from : length c.down ≤ g.sent = late.0 in omega (arith, le, from))
      ];
      logs = a.logs;
      logs_are = subst (λ (l : List Entry). LogsSo n k l a.did a.logs) (sym (longer-taken h.logged y z longer (steady.within k h at_h).logged)) a.logs_are;
      clears = λ sid is. subst (λ (v : Circuit × List Entry). AreJust a.logs (IsWithdrawal n v.0 v.1 sid)) (λ i. (sym same-past i, sym (longer-taken h.logged y z longer (steady.within k h at_h).logged) i)) (a.clears sid is);
      logged = λ i e at. subst (λ (l : List Entry). At l (h.logged + i) e) (sym longer.1) (At-append y longer.0 (h.logged + i) e (a.logged i e at));
      within = a.within;
      besides = λ i e from until at. a.besides i e from until (At-back y longer.0 i e (subst (λ (l : List Entry). At l i e) longer.1 at) (let le : h.after ≤ length y = a.ends in omega (arith, until, le)));
      ends = (let le : h.after ≤ length y = a.ends in let more : length y ≤ length z = longer-le y z longer in omega (arith, le, more));
    },
    λ j m reply. elim (replies j m reply) [
      | inl old ↦ elim (rest j m old) [
        | inl early ↦ inl early
        | inr late ↦
            let q = late.3.3 in
            inr (
              late.0,
              late.1,
              (late.2.0, subst (λ (l : List Entry). At l late.2.0 (Finished n k)) (sym longer.1) (At-append y longer.0 late.2.0 (Finished n k) late.2.1)),
              (
                late.3.0,
                ext.up k late.3.0 late.3.1,
                late.3.2,
                (q.0, subst (λ (l : List Entry). At l q.0 (Finished n k)) (sym longer.1) (At-append y longer.0 q.0 (Finished n k) q.1), still steps (sid_in late.3.0.message) q.0 (At-within y q.0 (Finished n k) q.1) q.2),
              ),
            )
      ]
      | inr late ↦ inr late
    ],
  )

  -- and the server went by what it was given
  pub answered-on : (s : Setting) (i j : ℕ) → j ≡ i → ((l : ℕ) (g : Step) → At d.handled l g → At c.handled l g ⊎ ((length c.down ≤ g.sent) × (length y ≤ g.logged))) → ((j : ℕ) (m : Fields) → IsReply d k j m → IsReply c k j m ⊎ IsLate n d z k m) → AnsweredBy s i n c y k h
      → AnsweredBy s j n d z k h
  unfolding answered-forth
  answered-on s i j same steps replies ((a, rest), given) = (answered-forth steps replies (a, rest), subst (λ (m : ℕ). IsGiven s m a.known) (sym same) given)

-- ---- the circuit on which a message is handled

ending-lists : (ends : Joined → Option (List ℕ)) (c : Joined) → let d : Joined = ending ends c in (d.lists.up ≡ c.lists.up) × (d.lists.down ≡ c.lists.down) × (d.lists.handled ≡ c.lists.handled) × (d.lists.server ≡ c.lists.server)
ending-lists ends c = go (ends c)
  where
    go : (o : Option (List ℕ)) → let d : Joined = unwrap_or (option_map (λ (left : List ℕ). server_closed left c) o) c in (d.lists.up ≡ c.lists.up) × (d.lists.down ≡ c.lists.down) × (d.lists.handled ≡ c.lists.handled) × (d.lists.server ≡ c.lists.server)
    go None = (refl, refl, refl, refl)
    go (Some left) = (refl, refl, refl, refl)

module _ (w new : World) (k : ℕ) (j : Joined) (y : ServerSide) (f : StepHandles w k j y new) where
  abbrev did : Action
  did = (f.steps.0).action

  abbrev mid : World
  mid = acted k j y did w

  abbrev after : World
  after = server_after j.server (side_of j.server y mid) (ends_by j.server f.core) f.core mid

  abbrev pub step-of : Step
  step-of = record { sent = length j.lists.down; logged = server.logged y w; after = server.logged y after }

  -- before the step is noted
  was : (c : Joined) → At after.circuits k c → (c.lists.up ≡ j.lists.up) × (c.lists.down ≡ j.lists.down) × (c.lists.handled ≡ j.lists.handled) × (c.lists.server ≡ j.lists.server)
  was c at =
      let ends : Joined → Option (List ℕ) = ends_by j.server f.core in
      let numbers : Joined = numbers_after (length j.lists.handled) did j in
      let x = At-mapped (ending ends) mid.circuits k c at in
      let z = At-mapped (write_numbers j.server y.core did) (slice_set w.circuits k numbers) k x.0 x.1 in
      let e = ending-lists ends x.0 in
      let lists : x.0.lists ≡ j.lists = ap (λ (v : Joined). v.lists) z.2 ∙ (writes-like j.server y.core did z.0).0 ∙ elim (At-set w.circuits k numbers k z.0 z.1) [
        | inl own ↦ ap (λ (v : Joined). v.lists) own.1 ∙ (numbers-like (length j.lists.handled) did j).0
        | inr old ↦ absurd (old.1 refl)
      ] in (
        ap (λ (v : Joined). v.lists.up) x.2 ∙ e.0 ∙ ap (λ (v : Circuit). v.up) lists,
        ap (λ (v : Joined). v.lists.down) x.2 ∙ e.1 ∙ ap (λ (v : Circuit). v.down) lists,
        ap (λ (v : Joined). v.lists.handled) x.2 ∙ e.2 ∙ ap (λ (v : Circuit). v.handled) lists,
        ap (λ (v : Joined). v.lists.server) x.2 ∙ e.3 ∙ ap (λ (v : Circuit). v.server) lists,
      )

  pub step-lists : (d : Joined) → At new.circuits k d
      → (d.lists.up ≡ j.lists.up) × (d.lists.down ≡ j.lists.down ++ about (length j.lists.handled) Reply (f.steps.0).replies) × (d.lists.handled ≡ j.lists.handled ++ step-of ∷ []) × (d.lists.server ≡ j.lists.server)
  step-lists d at = go (slice_get after.circuits k) refl (subst (λ (z : World). At z.circuits k d) f.leaves at)
    where
      none-some : (x : Joined) → let a : Option Joined = None in let b : Option Joined = Some x in a ≡ b → ⊥
      none-some x e = cc

      place : ℕ
      place = length j.lists.handled

      go : (o : Option Joined) → slice_get after.circuits k ≡ o → At (unwrap_or (option_map (λ (c : Joined). with_circuit k (handled_at (length j.lists.handled) step-of (f.steps.0).replies c) after) o) after).circuits k d
          → (d.lists.up ≡ j.lists.up) × (d.lists.down ≡ j.lists.down ++ about (length j.lists.handled) Reply (f.steps.0).replies) × (d.lists.handled ≡ j.lists.handled ++ step-of ∷ []) × (d.lists.server ≡ j.lists.server)
      go None is there = absurd (none-some d (sym is ∙ there))
      go (Some c) is there = elim (At-set after.circuits k (handled_at (length j.lists.handled) step-of (f.steps.0).replies c) k d there) [
        | inl own ↦
            let e = was c is in (
              ap (λ (v : Joined). v.lists.up) own.1 ∙ e.0,
              ap (λ (v : Joined). v.lists.down) own.1 ∙ ap (λ (l : List Told). l ++ about (length j.lists.handled) Reply (f.steps.0).replies) e.1,
              ap (λ (v : Joined). v.lists.handled) own.1 ∙ ap (λ (l : List Step). l ++ step-of ∷ []) e.2,
              ap (λ (v : Joined). v.lists.server) own.1 ∙ e.3,
            )
        | inr old ↦ absurd (old.1 refl)
      ]
