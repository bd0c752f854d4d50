-- The creations that are noted on circuits were told, and are not cleared, over
-- every event and run.
use Rattle.std.proofs.Common.{◌≡◌, ℕ, ◌+◌, ◌≤◌, ◌<◌, inl, inr, Bool, true, false, not, eqb, eq-eqb, List, [], ◌∷◌, ◌++◌, length, Option, refl, sym, ap, subst, ◌∙◌, arith}
use Rattle.std.specs.Prelude.{filter, map, option_map, slice_get, slice_set, unwrap_or}
use Rattle.std.specs.List.{fold}
use Rattle.ca_model.proofs.Tables.{given-fresh}
use Rattle.ca_model.proofs.Thinner.{three-ways}
use Rattle.ca_queue.specs.declared.entry.SubKey.{SubKey}
use Rattle.ca_queue.specs.Queue.{Queue, with_front_taken}
use Rattle.ca_text.specs.declared.command.Command.TheVariants as command
use Rattle.ca_text.specs.Place.{At}
use Rattle.ca_text.proofs.Places.{At-after, At-append, At-one, At-or, At-within}
use Rattle.ca_wire.specs.Fields.{Fields}
use Rattle.ca_model.specs.Due.{Action, Adds, Applies, Due, KnownChannel, Opens}
use Rattle.ca_model.specs.Due as action
use Rattle.ca_model.specs.History.{Cause, Circuit, Reply, Sent, Step, Told}
use Rattle.ca_model.specs.Server.{Server, ServerEnd, concerns, key_of}
use Rattle.ca_model.specs.ServerSteps.{Acts, Update, knows}
use Rattle.ca_model.specs.Speech.{Clears, Creates, In, Is}
use Rattle.ca_model.specs.Events.{Event}
use Rattle.ca_model.specs.Runs.{Runs}
use Rattle.ca_model.specs.ServerEvents.{about, front_number, handled_at, numbers_after, stamped, with_number}
use Rattle.ca_model.specs.World.{Creation, IsSetting, Joined, Setting, World}
use Rattle.ca_laws_parts.specs.Runs.{IsReached}
use Rattle.ca_laws_parts.proofs.BytesRuns.{runs-take}
use Rattle.ca_laws_parts.specs.Channels.{ChannelsOn}
use Rattle.ca_laws_parts.proofs.Channels.{channels-begun, channels-handled, channels-lasting}
use Rattle.ca_laws_parts.proofs.Since.{stamped-parts}
use Rattle.ca_laws_parts.proofs.Doing.{clears-only}
use Rattle.ca_laws_parts.proofs.Fresh.{due-opens}
use Rattle.ca_laws_parts.proofs.Lasting.{Begins, Handled, Lasting}
use Rattle.ca_laws_parts.proofs.LastingAll.{run-lasts}
use Rattle.ca_laws_parts.proofs.WritesLists.{In-kept, In-snoc, length-more, none_at}
use Rattle.ca_laws_runs.specs.Creations.{AllCreations, CreationsOn}

-- ---- the circuit goes on

-- What came and was told grows, and nothing is handled or created.
goes-on : (c d : Joined) → ((l : ℕ) (s : Sent) → At c.lists.up l s → At d.lists.up l s) → ((i : ℕ) (t : Told) → At c.lists.down i t → At d.lists.down i t) → d.lists.handled ≡ c.lists.handled → d.creations ≡ c.creations → CreationsOn c → CreationsOn d
goes-on c d up down handled creations h = record {
  within = at_most;
  told = λ x at. (let r = h.told x (subst (λ (l : List Creation). In l x) creations at) in (r.0, r.1, down r.0 r.1 r.2, r.3, r.4, r.5));
  uncleared = λ x l r at after lt on clears.
      let lt_c : l < length c.lists.handled = omega (arith, lt, len) in
      let old : (s : Sent) × At c.lists.up l s = elim (At-or c.lists.up l) [ inl there ↦ there | inr past ↦ absurd (let w : length c.lists.handled ≤ length c.lists.up = h.within in omega (arith, w, past, lt_c)) ] in
      let same : old.0 ≡ r = At-one d.lists.up l old.0 r (up l old.0 old.1) on in
      h.uncleared x l old.0 (subst (λ (xs : List Creation). In xs x) creations at) after lt_c old.1 (subst (λ (z : Sent). Clears z.message x.sid) (sym same) clears);
  one = λ x z at on same. h.one x z (subst (λ (l : List Creation). In l x) creations at) (subst (λ (l : List Creation). In l z) creations on) same;
}
  where
    len : length d.lists.handled ≡ length c.lists.handled
    len = ap (λ (l : List Step). length l) handled

    few : (n : ℕ) → n ≡ length c.lists.up → n ≤ length d.lists.up
    few n is = elim (three-ways n (length d.lists.up)) [
      | inl lt ↦ omega (arith, lt)
      | inr (inl e) ↦ omega (arith, e)
      | inr (inr more) ↦ elim (At-or c.lists.up (length d.lists.up)) [
        | inl there ↦ absurd (let lt : length d.lists.up < length d.lists.up = At-within d.lists.up (length d.lists.up) there.0 (up (length d.lists.up) there.0 there.1) in omega (arith, lt))
        | inr past ↦ absurd (omega (arith, past, more, is))
      ]
    ]

    at_most : length d.lists.handled ≤ length d.lists.up
    at_most = (let le : length c.lists.up ≤ length d.lists.up = few (length c.lists.up) refl in let w : length c.lists.handled ≤ length c.lists.up = h.within in omega (arith, le, w, len))

numbered-same : (c : Joined) (keys : List SubKey) → ((fold with_number c keys).creations ≡ c.creations) × ((fold with_number c keys).lists ≡ c.lists)
numbered-same c [] = (refl, refl)
numbered-same c (k ∷ keys) = numbered-same (with_number c k) keys

stamped-down : (us : List Update) (c : Joined) (i : ℕ) (t : Told) → At c.lists.down i t → At (stamped us c).lists.down i t
stamped-down [] c i t at = at
stamped-down (u ∷ us) c i t at =
    let item : ℕ × Cause = unwrap_or (front_number c.queues u.queue) (0, Reply) in
    let queues : List (Queue (ℕ × Cause)) = unwrap_or (option_map (λ (q : Queue (ℕ × Cause)). slice_set c.queues u.queue (with_front_taken q)) (slice_get c.queues u.queue)) c.queues in
    let m : Told = record { message = u.message; place = item.0; cause = item.1 } in
    stamped-down us (record c { queues = queues; lists = record c.lists { down = c.lists.down ++ m ∷ [] } }) i t (At-append c.lists.down (m ∷ []) i t at)

-- ---- a message is handled

module _ (y : Server) (e new : ServerEnd) (s : Sent) (replies : List Fields) (step : Step) (c : Joined) (at : At c.lists.up (length c.lists.handled) s) (opens : ChannelsOn e c) (h : CreationsOn c) where
  abbrev place : ℕ
  place = length c.lists.handled

  abbrev down : List Told
  down = c.lists.down ++ about place Reply replies

  abbrev handled : List Step
  handled = c.lists.handled ++ step ∷ []

  more : length handled ≡ place + 1
  more = length-more c.lists.handled step

  within-now : length handled ≤ length c.lists.up
  within-now = (let lt : place < length c.lists.up = At-within c.lists.up place s at in omega (arith, lt, more))

  told-still : (x : Creation) → In c.creations x → (i : ℕ) × (t : Told) × At down i t × (t.place ≡ x.place) × (t.cause ≡ Reply) × Creates t.message x.sid
  told-still x there = (let r = h.told x there in (r.0, r.1, At-append c.lists.down (about place Reply replies) r.0 r.1 r.2, r.3, r.4, r.5))

  -- a message that clears no SID of these
  uncleared-still : (x : Creation) (l : ℕ) (r : Sent) → In c.creations x → (Clears s.message x.sid → ⊥) → x.place < l → l < length handled → At c.lists.up l r → Clears r.message x.sid → ⊥
  uncleared-still x l r there other after lt on clears = elim (three-ways l place) [
    | inl early ↦ h.uncleared x l r there after early on clears
    | inr (inl is) ↦ other (subst (λ (z : Sent). Clears z.message x.sid) (At-one c.lists.up place r s (subst (λ (m : ℕ). At c.lists.up m r) is on) at) clears)
    | inr (inr late) ↦ omega (arith, late, lt, more)
  ]

  -- a message that is no CLEAR_CHANNEL and creates nothing
  same-still : (d : Joined) → d.lists.up ≡ c.lists.up → d.lists.down ≡ down → d.lists.handled ≡ handled → d.creations ≡ c.creations → (Is command.ClearChannel s.message → ⊥) → CreationsOn d
  same-still d up downs steps creations none = record {
    within = subst (λ (z : List Step × List Sent). length z.0 ≤ length z.1) (λ i. (sym steps i, sym up i)) within-now;
    told = λ x there. (let r = told-still x (subst (λ (l : List Creation). In l x) creations there) in (r.0, r.1, subst (λ (l : List Told). At l r.0 r.1) (sym downs) r.2, r.3, r.4, r.5));
    uncleared = λ x l r there after lt on clears.
        uncleared-still x l r (subst (λ (z : List Creation). In z x) creations there) (λ own. none own.0) after (subst (λ (z : List Step). l < length z) steps lt) (subst (λ (z : List Sent). At z l r) up on) clears;
    one = λ x z a b same. h.one x z (subst (λ (l : List Creation). In l x) creations a) (subst (λ (l : List Creation). In l z) creations b) same;
  }

  opened-still : (k : KnownChannel) → Due (knows y e) s.message replies (Opens k) → Acts y e (Opens k) new → CreationsOn (handled_at place step replies (numbers_after place (Opens k) c))
  opened-still k due (g, may, wire, is) =
      let made = (due-opens (knows y e) s.message replies k due) in
      let z : Creation = record { sid = k.sid; place = place } in
      let sid_is : k.sid ≡ made.1.sid = same-sid k _ made.1.does in
      record {
        within = within-now;
        told = λ x there. elim (In-snoc c.creations z x there) [
          | inl old ↦ told-still x old
          | inr new_it ↦
              subst (λ (v : Creation). (i : ℕ) × (t : Told) × At down i t × (t.place ≡ v.place) × (t.cause ≡ Reply) × Creates t.message v.sid) (sym new_it)
              (new-told _ _ made.1.are (refl, sym sid_is))
        ];
        uncleared = λ x l r there after lt on clears. elim (In-snoc c.creations z x there) [
          | inl old ↦ uncleared-still x l r old (λ own. not-both made.0 own.0) after lt on clears
          | inr new_it ↦ (let is_place : x.place ≡ place = ap (λ (v : Creation). v.place) new_it in omega (arith, is_place, after, lt, more))
        ];
        one = λ x v a b same. elim (In-snoc c.creations z x a) [
          | inl old ↦ elim (In-snoc c.creations z v b) [
            | inl older ↦ h.one x v old older same
            | inr new_it ↦ absurd (fresh x old (same ∙ ap (λ (q : Creation). q.sid) new_it))
          ]
          | inr new_it ↦ elim (In-snoc c.creations z v b) [
            | inl older ↦ absurd (fresh v older (sym same ∙ ap (λ (q : Creation). q.sid) new_it))
            | inr newer ↦ new_it ∙ sym newer
          ]
        ];
      }
    where
      same-sid : (a b : KnownChannel) → Opens a ≡ Opens b → a.sid ≡ b.sid
      same-sid a b eq = ap (λ (q : KnownChannel). q.sid) (let r : a ≡ b = cc in r)

      new-told : (a b : Fields) → replies ≡ a ∷ b ∷ [] → Creates b k.sid → (i : ℕ) × (t : Told) × At down i t × (t.place ≡ place) × (t.cause ≡ Reply) × Creates t.message k.sid
      new-told a b are creates =
          let t : Told = record { message = b; place = place; cause = Reply } in (
            length c.lists.down + 1,
            t,
            subst (λ (ms : List Fields). At (c.lists.down ++ about place Reply ms) (length c.lists.down + 1) t) (sym are) (At-after c.lists.down (about place Reply (a ∷ b ∷ [])) 1 t refl),
            refl,
            refl,
            creates,
          )

      not-both : s.message.command ≡ 18 → s.message.command ≡ 12 → ⊥
      not-both a b = omega (arith, a, b)

      -- the SID is that of no channel that is open
      fresh : (x : Creation) → In c.creations x → x.sid ≡ k.sid → ⊥
      fresh x there same = (let r = opens.stale x there in given-fresh e.channels r.0 g r.1 opens.few may r.2 (r.3 ∙ same ∙ sym wire))

  cleared-still : (sid : ℕ) → Due (knows y e) s.message replies (action.Clears sid) → CreationsOn (handled_at place step replies (numbers_after place (action.Clears sid) c))
  cleared-still sid due =
      let only = clears-only (knows y e) s.message replies sid due in
      record {
        within = within-now;
        told = λ x there. told-still x (kept-of x there).0;
        uncleared = λ x l r there after lt on clears. uncleared-still x l r (kept-of x there).0 (λ own. not-kept x (kept-of x there).1 (sym (only.1 ∙ own.1))) after lt on clears;
        one = λ x z a b same. h.one x z (kept-of x a).0 (kept-of z b).0 same;
      }
    where
      keep : Creation → Bool
      keep x = not (eqb x.sid sid)

      kept-of : (x : Creation) → In (filter keep c.creations) x → In c.creations x × (keep x ≡ true)
      kept-of x there = In-kept keep c.creations x there

      not-kept : (x : Creation) → keep x ≡ true → x.sid ≡ sid → ⊥
      not-kept x is same = (let f : true ≡ false = sym is ∙ ap (λ (b : Bool). not b) (eq-eqb x.sid sid same) in cc)

  pub creations-still : (did : Action) → Due (knows y e) s.message replies did → Acts y e did new → CreationsOn (handled_at place step replies (numbers_after place did c))
  creations-still (Opens k) due acts = opened-still k due acts
  creations-still (action.Clears sid) due acts = cleared-still sid due
  creations-still (Adds x) due acts = same-still (handled_at place step replies (numbers_after place (Adds x) c)) refl refl refl refl (λ is. (let f : Adds x ≡ action.Clears s.message.p1 = (due.clear is).1 in cc))
  creations-still (action.Drops key) due acts = same-still (handled_at place step replies (numbers_after place (action.Drops key) c)) refl refl refl refl (λ is. (let f : action.Drops key ≡ action.Clears s.message.p1 = (due.clear is).1 in cc))
  creations-still (action.Switches on) due acts = same-still (handled_at place step replies (numbers_after place (action.Switches on) c)) refl refl refl refl (λ is. (let f : action.Switches on ≡ action.Clears s.message.p1 = (due.clear is).1 in cc))
  creations-still (action.Names p) due acts = same-still (handled_at place step replies (numbers_after place (action.Names p) c)) refl refl refl refl (λ is. (let f : action.Names p ≡ action.Clears s.message.p1 = (due.clear is).1 in cc))
  creations-still action.Greets due acts = same-still (handled_at place step replies (numbers_after place action.Greets c)) refl refl refl refl (λ is. (let f : action.Greets ≡ action.Clears s.message.p1 = (due.clear is).1 in cc))
  creations-still action.Nothing due acts = same-still (handled_at place step replies (numbers_after place action.Nothing c)) refl refl refl refl (λ is. (let f : action.Nothing ≡ action.Clears s.message.p1 = (due.clear is).1 in cc))
  creations-still (Applies name value busies) due acts = same-still (handled_at place step replies (numbers_after place (Applies name value busies) c)) refl refl refl refl (λ is. (let f : Applies name value busies ≡ action.Clears s.message.p1 = (due.clear is).1 in cc))
  creations-still (action.Waits name value) due acts = same-still (handled_at place step replies (numbers_after place (action.Waits name value) c)) refl refl refl refl (λ is. (let f : action.Waits name value ≡ action.Clears s.message.p1 = (due.clear is).1 in cc))

-- ---- over events

-- beside the channels of the end
abbrev pub HasCreations : ℕ → ServerEnd → Joined → Type 0
HasCreations n e c = ChannelsOn e c × CreationsOn c

pub creations-lasting : Lasting HasCreations
creations-lasting = record {
  stays = λ n e f c d held goes p. (channels-lasting.stays n e f c d held goes p.0, goes-on c d goes.later.up (λ i t at. subst (λ (l : List Told). At l i t) (sym goes.down) at) goes.handled goes.creations p.1);
  posted = λ n name mask v e c p.
      let same = numbered-same c (map key_of (filter (concerns name mask) e.subscriptions)) in (
        channels-lasting.posted n name mask v e c p.0,
        goes-on c _ (λ l s at. subst (λ (z : Circuit). At z.up l s) (sym same.1) at) (λ i t at. subst (λ (z : Circuit). At z.down i t) (sym same.1) at) (ap (λ (z : Circuit). z.handled) same.1) same.0 p.1,
      );
  removed = λ n name e c p. (channels-lasting.removed n name e c p.0, goes-on c _ (λ l s at. at) (λ i t at. At-append c.lists.down _ i t at) refl refl p.1);
  pumped = λ n us e after c folds p.
      let same = stamped-parts us c in (
        channels-lasting.pumped n us e after c folds p.0,
        goes-on c (stamped us c) (λ l s at. subst (λ (z : List Sent). At z l s) (sym same.0) at) (stamped-down us c) same.1 same.3 p.1,
      );
  replied = λ n e c place ms p. (channels-lasting.replied n e c place ms p.0, goes-on c _ (λ l s at. at) (λ i t at. At-append c.lists.down _ i t at) refl refl p.1);
}

pub creations-begun : (w : World) → Begins HasCreations w
creations-begun w n moment c more new = (
  channels-begun w n moment c more new,
  record {
    within = (let e : length c.lists.handled ≡ 0 = ap (λ (l : List Step). length l) new.handled in omega (arith, e));
    told = λ x at. absurd (none_at at.0 x (subst (λ (l : List Creation). At l at.0 x) new.creations at.1));
    uncleared = λ x l r at. absurd (none_at at.0 x (subst (λ (l : List Creation). At l at.0 x) new.creations at.1));
    one = λ x z at. absurd (none_at at.0 x (subst (λ (l : List Creation). At l at.0 x) new.creations at.1));
  },
)

pub creations-handled : Handled HasCreations
creations-handled n y e new s replies did step c at due acts p =
    (channels-handled n y e new s replies did step c at due acts p.0, creations-still y e new s replies step c at p.0 p.1 did due acts)

pub run-creations : (s : Setting) (es : List Event) (stopped : Option Event) (w : World) → IsSetting s → Runs s es stopped w → AllCreations w
run-creations s es stopped w ok runs n c y e at there opened has = (run-lasts HasCreations creations-lasting creations-begun creations-handled s es stopped w ok runs (runs-take s es ok) n c y e at there opened has).1

pub reached-creations : (w : World) → IsReached w → AllCreations w
reached-creations w (s, es, stopped, ok, runs) = run-creations s es stopped w ok runs
