-- No message that was handled since ended a subscription that stands.
use Rattle.std.proofs.Common.{◌≡◌, ℕ, ◌+◌, ◌<◌, ◌≤◌, ◌⊎◌, inl, inr, Bool, true, false, cond, eqb, eq-eqb, not, List, [], ◌∷◌, ◌++◌, length, Option, refl, sym, ap, subst, ◌∙◌, arith}
use Rattle.std.specs.Prelude.{filter, map}
use Rattle.std.specs.List.{fold}
use Rattle.ca_queue.specs.declared.entry.SubKey.{SubKey}
use Rattle.ca_queue.specs.Keys.{same}
use Rattle.ca_queue.proofs.Keys.{same_itself}
use Rattle.ca_text.specs.Place.{At}
use Rattle.ca_text.proofs.Places.{At-mapped, At-one, At-within}
use Rattle.ca_wire.specs.Fields.{Fields}
use Rattle.ca_model.specs.Due.{Action, Adds, Applies, Clears, Drops, Due, key_in}
use Rattle.ca_model.specs.Due as action
use Rattle.ca_model.specs.History.{Circuit, Sent, Step}
use Rattle.ca_model.specs.Server.{ServerEnd, Server, concerns, key_of}
use Rattle.ca_model.specs.ServerSteps.{knows}
use Rattle.ca_model.specs.Speech.{In}
use Rattle.ca_model.specs.Events.{Event}
use Rattle.ca_model.specs.Runs.{Runs}
use Rattle.ca_model.specs.ServerEvents.{handled_at, numbers_after, stamped, with_number}
use Rattle.ca_model.specs.World.{IsSetting, Joined, Setting, Standing, World}
use Rattle.ca_laws_parts.proofs.BytesRuns.{runs-take}
use Rattle.ca_model.proofs.Thinner.{three-ways}
use Rattle.ca_laws_parts.proofs.Handled.{numbers-like}
use Rattle.ca_laws_parts.proofs.Since.{stamped-parts}
use Rattle.ca_laws_parts.proofs.Lasting.{Begins, Handled, Lasting, told_late}
use Rattle.ca_laws_parts.proofs.LastingAll.{run-lasts}
use Rattle.ca_laws_parts.proofs.WritesLists.{In-kept, In-snoc, length-more, none_at}
use Rattle.ca_laws_parts.proofs.WritesMoves.{same-or}
use Rattle.ca_laws_runs.specs.Knew.{AllUnended, EndsKey, UnendedOn}
use Rattle.ca_laws_runs.proofs.Acting.{Grows, grown-back}
use Rattle.ca_laws_runs.proofs.Known.{grows-le}

-- the same steps, and each that stands stood before
goes-on : (c d : Joined) → Grows c.lists.up d.lists.up → d.lists.handled ≡ c.lists.handled → ((st : Standing) → In d.standing st → (su : Standing) × In c.standing su × (su.place ≡ st.place) × (su.key ≡ st.key)) → UnendedOn c → UnendedOn d
goes-on c d up handled standing h = record {
  few = (let w : length c.lists.handled ≤ length c.lists.up = h.few in let le : length c.lists.up ≤ length d.lists.up = grows-le c.lists.up d.lists.up up in omega (arith, w, le, len));
  unended = λ st l m at after lt on ends.
      let su = standing st at in
      let w : length c.lists.handled ≤ length c.lists.up = h.few in
      let place : su.0.place ≡ st.place = su.2 in
      h.unended su.0 l m su.1 (omega (arith, after, place)) (omega (arith, lt, len)) (grown-back c.lists.up d.lists.up up l m (omega (arith, lt, w, len)) on) (subst (λ (k : SubKey). EndsKey k m.message) (sym su.3) ends);
}
  where
    len : length d.lists.handled ≡ length c.lists.handled
    len = ap (λ (l : List Step). length l) handled

abbrev bump : SubKey → Standing → Standing
bump key t = cond (same key t.key) (record t { posts = t.posts + 1 }) t

bump-like : (key : SubKey) (t : Standing) → ((bump key t).place ≡ t.place) × ((bump key t).key ≡ t.key)
bump-like key t = go (same key t.key)
  where
    go : (b : Bool) → ((cond b (record t { posts = t.posts + 1 }) t).place ≡ t.place) × ((cond b (record t { posts = t.posts + 1 }) t).key ≡ t.key)
    go true = (refl, refl)
    go false = (refl, refl)

numbered : (keys : List SubKey) (c : Joined) → UnendedOn c → UnendedOn (fold with_number c keys)
numbered [] c h = h
numbered (k ∷ keys) c h =
    numbered keys (with_number c k) (goes-on c (with_number c k) (λ i x at. at) refl
    (λ st at. (let m = At-mapped (bump k) c.standing at.0 st at.1 in (m.0, (at.0, m.1), sym (bump-like k m.0).0 ∙ ap (λ (z : Standing). z.place) (sym m.2), sym (bump-like k m.0).1 ∙ ap (λ (z : Standing). z.key) (sym m.2)))) h)

-- ---- a message is handled

true-not : (b : Bool) → b ≡ true → not b ≡ true → ⊥
true-not true e f = cc
true-not false e f = cc

old-or : (place : ℕ) (did : Action) (c : Joined) (st : Standing) → In (numbers_after place did c).standing st → In c.standing st ⊎ (st.place ≡ place)
old-or place (Adds sub) c st at = elim (In-snoc c.standing _ st at) [ inl old ↦ inl old | inr own ↦ inr (ap (λ (z : Standing). z.place) own) ]
old-or place (Drops key) c st at = inl (In-kept (λ (s : Standing). not (same key s.key)) c.standing st at).0
old-or place (Clears sid) c st at = inl (In-kept (λ (s : Standing). not (eqb s.key.sid sid)) c.standing st at).0
old-or place (action.Opens x) c st at = inl at
old-or place (action.Switches x) c st at = inl at
old-or place (action.Names x) c st at = inl at
old-or place action.Greets c st at = inl at
old-or place action.Nothing c st at = inl at
old-or place (Applies name value busies) c st at = inl at
old-or place (action.Waits name value) c st at = inl at

handled-still : (y : Server) (e : ServerEnd) (s : Sent) (replies : List Fields) (did : Action) (step : Step) (c : Joined) → At c.lists.up (length c.lists.handled) s → Due (knows y e) s.message replies did → UnendedOn c
    → UnendedOn (handled_at (length c.lists.handled) step replies (numbers_after (length c.lists.handled) did c))
handled-still y e s replies did step c at_s due h = record {
  few = (let lt : place < length c.lists.up = At-within c.lists.up place s at_s in let is : length ups ≡ length c.lists.up = ap (λ (l : List Sent). length l) same-up in omega (arith, lt, more, is));
  unended = λ st l m at after lt on ends. elim (old-or place did c st at) [
    | inr own ↦ omega (arith, own, after, lt, more)
    | inl old ↦ elim (same-or l place) [
      | inl is ↦ here st at (subst (λ (z : Sent). EndsKey st.key z.message) (At-one c.lists.up place m s (subst (λ (n : ℕ). At c.lists.up n m) is (subst (λ (l2 : List Sent). At l2 l m) same-up on)) at_s) ends)
      | inr other ↦ h.unended st l m old after (before l lt other) (subst (λ (l2 : List Sent). At l2 l m) same-up on) ends
    ]
  ];
}
  where
    place : ℕ
    place = length c.lists.handled

    d : Joined
    d = handled_at place step replies (numbers_after place did c)

    ups : List Sent
    ups = d.lists.up

    same-lists : (numbers_after place did c).lists ≡ c.lists
    same-lists = (numbers-like place did c).0

    same-up : ups ≡ c.lists.up
    same-up = ap (λ (z : Circuit). z.up) same-lists

    more : length d.lists.handled ≡ place + 1
    more = ap (λ (z : Circuit). length (z.handled ++ step ∷ [])) same-lists ∙ length-more c.lists.handled step

    before : (l : ℕ) → l < length d.lists.handled → (l ≡ place → ⊥) → l < place
    before l lt other = go l place (omega (arith, lt, more)) other
      where
        go : (a b : ℕ) → a < b + 1 → (a ≡ b → ⊥) → a < b
        go a b lt other = elim (three-ways a b) [ inl less ↦ less | inr (inl is) ↦ absurd (other is) | inr (inr past) ↦ absurd (omega (arith, lt, past)) ]

    -- what it ends does not stand any more
    here : (st : Standing) → In (numbers_after place did c).standing st → EndsKey st.key s.message → ⊥
    here st at (inl cancel) =
        let is : did ≡ Drops (key_in s.message) = (due.cancel cancel.0).1 in
        let kept = In-kept (λ (z : Standing). not (same (key_in s.message) z.key)) c.standing st (subst (λ (a : Action). In (numbers_after place a c).standing st) is at) in
        true-not (same (key_in s.message) st.key) (subst (λ (k : SubKey). same (key_in s.message) k ≡ true) cancel.1 (same_itself (key_in s.message))) kept.1
    here st at (inr clears) =
        let is : did ≡ Clears s.message.p1 = (due.clear clears.0).1 in
        let kept = In-kept (λ (z : Standing). not (eqb z.key.sid s.message.p1)) c.standing st (subst (λ (a : Action). In (numbers_after place a c).standing st) is at) in
        true-not (eqb st.key.sid s.message.p1) (eq-eqb st.key.sid s.message.p1 (sym clears.1)) kept.1

-- ---- over events

abbrev Unended : ℕ → ServerEnd → Joined → Type 0
Unended n e c = UnendedOn c

unended-lasting : Lasting Unended
unended-lasting = record {
  stays = λ n e f c d held goes h. goes-on c d goes.later.up goes.handled (λ st at. (st, subst (λ (l : List Standing). In l st) goes.standing at, refl, refl)) h;
  posted = λ n name mask v e c h. numbered (map key_of (filter (concerns name mask) e.subscriptions)) c h;
  removed = λ n name e c h. goes-on c _ (λ i x at. at) refl (λ st at. (st, (In-kept _ c.standing st at).0, refl, refl)) h;
  pumped = λ n us e after c folds h.
      let p = stamped-parts us c in
      goes-on c (stamped us c) (λ i x at. subst (λ (l : List Sent). At l i x) (sym p.0) at) p.1 (λ st at. (st, subst (λ (l : List Standing). In l st) p.2 at, refl, refl)) h;
  replied = λ n e c place ms h. goes-on c (told_late place ms c) (λ i x at. at) refl (λ st at. (st, at, refl, refl)) h;
}

unended-begun : (w : World) → Begins Unended w
unended-begun w n moment c more new = record {
  few = (let e : length c.lists.handled ≡ 0 = ap (λ (l : List Step). length l) new.handled in omega (arith, e));
  unended = λ st l m at. absurd (none_at at.0 st (subst (λ (x : List Standing). At x at.0 st) new.standing at.1));
}

unended-handled : Handled Unended
unended-handled n y e new s replies did step c at due acts h = handled-still y e s replies did step c at due h

pub run-unended : (s : Setting) (es : List Event) (stopped : Option Event) (w : World) → IsSetting s → Runs s es stopped w → AllUnended w
run-unended s es stopped w ok runs = run-lasts Unended unended-lasting unended-begun unended-handled s es stopped w ok runs (runs-take s es ok)
