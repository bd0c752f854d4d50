-- What is known of the EVENT_ADDs of an open end stays so as a message is handled.
use Rattle.std.proofs.Common.{◌≡◌, ℕ, zero, suc, ◌+◌, ◌<◌, ◌≤◌, ◌⊎◌, inl, inr, Bool, true, false, cond, not, eqb, eqb-true, List, [], ◌∷◌, ◌++◌, length, Option, Some, None, refl, sym, ap, subst, ◌∙◌, arith}
use Rattle.std.specs.Prelude.{filter, option_map, take, unwrap_or}
use Rattle.ca_arena.specs.declared.handle.Handle.{Handle}
use Rattle.ca_dbr.specs.Elements.{Elements}
use Rattle.ca_ids.specs.Table.{Table, by_wire, held, under, with_freed}
use Rattle.ca_ids.specs.Wire.{wire_of}
use Rattle.ca_model.proofs.Tables.{freed-back, freed-few, held-back, held-few, held-under, under-wire}
use Rattle.ca_queue.specs.declared.entry.SubKey.{SubKey}
use Rattle.ca_queue.specs.Keys.{same}
use Rattle.ca_queue.proofs.Keys.{same_is}
use Rattle.ca_text.specs.declared.command.Command.TheVariants as command
use Rattle.ca_text.specs.Limits.{arena_slots}
use Rattle.ca_text.specs.Place.{At}
use Rattle.ca_text.proofs.Places.{some_is, At-append, At-last, At-mapped, At-one, At-snoc, At-within}
use Rattle.ca_wire.specs.Fields.{Fields}
use Rattle.ca_model.specs.Due.{Action, Adds, Applies, Clears, Drops, Due, IsCreated, KnownChannel, Knows, Nothing, Opens, Serves, Switches, is_known, key_in, must_wait, named, subscription_in}
use Rattle.ca_model.specs.Due as action
use Rattle.ca_model.specs.Ends.{Peer}
use Rattle.ca_model.specs.History.{Circuit, Entry, Reply, Sent, Step, Told}
use Rattle.ca_model.specs.Server.{OpenChannel, Server, ServerEnd, Subscription, key_of}
use Rattle.ca_model.specs.ServerSteps.{Acts, known_channel, knows, without_channel}
use Rattle.ca_model.specs.Speech.{Creates, Ends, In, Is, name_in, sid_in}
use Rattle.ca_model.specs.Channels.{Has, IsOpen, before}
use Rattle.ca_model.specs.Causes.{Acted}
use Rattle.ca_model.specs.ServerEvents.{about, handled_at, numbers_after}
use Rattle.ca_model.specs.World.{Creation, Joined, RecordSide, Standing}
use Rattle.ca_laws_runs.specs.Creations.{CreationsOn}
use Rattle.ca_laws_runs.specs.Created.{CreatedOn}
use Rattle.ca_laws_parts.specs.Both.{Both}
use Rattle.ca_laws_parts.proofs.Doing.{any-of, clears-only, commands, each-at, known-or}
use Rattle.ca_laws_parts.proofs.Fresh.{due-adds, due-opens}
use Rattle.ca_laws_parts.proofs.WritesLists.{At-take, In-append, In-last, beside-right, both-all, both-filter, both-snoc, kept-in, length-more, none_at, take-whole}
use Rattle.ca_laws_parts.proofs.WritesMoves.{same-or}
use Rattle.ca_laws_runs.specs.Entries.{titles}
use Rattle.ca_laws_runs.specs.Known.{IsOnRecord, IsOrigin, IsOver, IsRefused, IsStanding, IsWithin, KnownOn}
use Rattle.ca_laws_runs.specs.Listed.{IsListed}
use Rattle.ca_laws_runs.proofs.Acting.{Extends, grown-back, longer-self, taken-at}
use Rattle.ca_laws_runs.proofs.Known.{grows-le, on-record-on, origin-on, over-on, within-on}

-- ---- what is due

-- An EVENT_ADD is refused, or its subscription begins.
add-or : (k : Knows) (m : Fields) (replies : List Fields) (did : Action) → Due k m replies did → Is command.EventAdd m → ((r : Fields) × (replies ≡ r ∷ [])) ⊎ ((sub : Subscription) × (did ≡ Adds sub))
add-or k m replies did due asks = elim (due.subscribe asks) [
  | inl served ↦ elim served.1 [ inl refused ↦ inl (_, refused.2) | inr added ↦ inr (_, added.2) ]
  | inr stray ↦ inl (_, stray.2)
]

-- A subscription ends by its EVENT_CANCEL.
drops-only : (k : Knows) (m : Fields) (replies : List Fields) (key : SubKey) → Due k m replies (Drops key) → Is command.EventCancel m × (key ≡ key_in m)
drops-only k m replies key due =
    elim (known-or (is_known m.command)) [
      | inr other ↦ not-it Nothing (due.other other).1 (λ h. h)
      | inl known ↦ any-of m.command commands known When (each-at When commands (
        (λ e. not-it action.Greets (due.version e).1 (λ h. h)),
        (
          (λ e. elim (due.subscribe e) [
            | inl served ↦ elim served.1 [ inl refused ↦ not-it Nothing refused.3 (λ h. h) | inr added ↦ not-it (Adds _) added.2 (λ h. h) ]
            | inr stray ↦ not-it Nothing stray.3 (λ h. h)
          ]),
          (
            (λ e. (e, same-key key (key_in m) (due.cancel e).1)),
            (
              (λ e. elim (due.write e) [
                | inl served ↦ elim served.1 [ inl refused ↦ not-it Nothing refused.3 (λ h. h) | inr taken ↦ not-it (Applies _ _ _) taken.3 (λ h. h) ]
                | inr stray ↦ not-it Nothing stray.3 (λ h. h)
              ]),
              (
                (λ e. not-it Nothing (due.search e).1 (λ h. h)),
                (
                  (λ e. not-it (Switches false) (due.off e).1 (λ h. h)),
                  (
                    (λ e. not-it (Switches true) (due.on e).1 (λ h. h)),
                    (
                      (λ e. not-it (Clears m.p1) (due.clear e).1 (λ h. h)),
                      (
                        (λ e. elim (due.read e) [ inl served ↦ not-it Nothing served.1 (λ h. h) | inr stray ↦ not-it Nothing stray.3 (λ h. h) ]),
                        (
                          (λ e. elim (due.create e) [ inl made ↦ not-it (Opens _) made.does (λ h. h) | inr none ↦ not-it Nothing none.does (λ h. h) ]),
                          (
                            (λ e. elim (due.put e) [
                              | inl served ↦ elim served.1 [ inl refused ↦ not-it Nothing refused.3 (λ h. h) | inr taken ↦ not-it (cond (must_wait k m served.0) (action.Waits _ _) (Applies _ _ _)) taken.3 (put-not (must_wait k m served.0) _ _ _) ]
                              | inr stray ↦ not-it Nothing stray.3 (λ h. h)
                            ]),
                            (
                              (λ e. not-it (named k _) (due.user e).1 (names-not k.settled _)),
                              ((λ e. not-it (named k _) (due.host e).1 (names-not k.settled _)), ((λ e. not-it Nothing (due.echo e).1 (λ h. h)), tt)),
                            ),
                          ),
                        ),
                      ),
                    ),
                  ),
                ),
              ),
            ),
          ),
        ),
      )) refl
    ]
  where
    Result : Type 0
    Result = Is command.EventCancel m × (key ≡ key_in m)

    When : ℕ → Type 0
    When n = m.command ≡ n → Result

    IsDrop : Action → Type 0
    IsDrop (Drops x) = Unit {0}
    IsDrop a = ⊥

    same-key : (a b : SubKey) → Drops a ≡ Drops b → a ≡ b
    same-key a b e = cc

    not-it : (a : Action) → Drops key ≡ a → (IsDrop a → ⊥) → Result
    not-it a is none = absurd (none (subst (λ (x : Action). IsDrop x) is tt))

    put-not : (b : Bool) (name : List ℕ) (value : Elements) (busies : Bool) → IsDrop (cond b (action.Waits name value) (Applies name value busies)) → ⊥
    put-not true name value busies h = h
    put-not false name value busies h = h

    names-not : (b : Bool) (p : Peer) → IsDrop (cond b Nothing (action.Names p)) → ⊥
    names-not true p h = h
    names-not false p h = h

-- ---- one message more

module _ (log : List Entry) (rs : List RecordSide) (e new : ServerEnd) (s : Sent) (replies : List Fields) (step : Step) (c d : Joined) (at : At c.lists.up (length c.lists.handled) s) (logged : step.logged ≡ length log) (sent : step.sent ≡ length c.lists.down)
    (lists : d.lists ≡ record c.lists { down = c.lists.down ++ about (length c.lists.handled) Reply replies; handled = c.lists.handled ++ step ∷ [] }) (p : KnownOn log rs e c) where
  abbrev place : ℕ
  place = length c.lists.handled

  ext : Extends c.lists d.lists
  ext = subst (λ (l : Circuit). Extends c.lists l) (sym lists) (record {
    up = λ i x there. there;
    down = λ i x there. At-append c.lists.down (about place Reply replies) i x there;
    handled = λ i x there. At-append c.lists.handled (step ∷ []) i x there;
  })

  at-place : At d.lists.up place s
  at-place = ext.up place s at

  step-there : At d.lists.handled place step
  step-there = subst (λ (l : Circuit). At l.handled place step) (sym lists) (At-last c.lists.handled step)

  place-within : place < length d.lists.handled
  place-within = At-within d.lists.handled place step step-there

  step-within : IsWithin log d.lists step
  step-within = record {
    sent = (let le : length c.lists.down ≤ length d.lists.down = grows-le c.lists.down d.lists.down ext.down in omega (arith, sent, le));
    logged = omega (arith, logged);
  }

  handled-or : (k : ℕ) (h : Step) → At d.lists.handled k h → At c.lists.handled k h ⊎ ((k ≡ place) × (h ≡ step))
  handled-or k h there = At-snoc c.lists.handled step k h (subst (λ (l : Circuit). At l.handled k h) lists there)

  within-now : (k : ℕ) (h : Step) → At d.lists.handled k h → IsWithin log d.lists h
  within-now k h there = elim (handled-or k h there) [
    | inl old ↦ within-on log log c.lists d.lists h ext (longer-self log) (p.within k h old)
    | inr own ↦ subst (λ (x : Step). IsWithin log d.lists x) (sym own.1) step-within
  ]

  up-back : (k : ℕ) (h : Step) (q : Sent) → At c.lists.handled k h → At d.lists.up k q → At c.lists.up k q
  up-back k h q there at_q = (let lt : k < length c.lists.handled = At-within c.lists.handled k h there in let le : length c.lists.handled ≤ length c.lists.up = p.came in grown-back c.lists.up d.lists.up ext.up k q (omega (arith, lt, le)) at_q)

  known-next : length new.channels ≤ arena_slots
      → ((g : Handle) (ch : OpenChannel) → under new.channels g ≡ Some ch → IsOrigin log rs d (wire_of g) ch)
      → ((k : ℕ) (q : Sent) (i : ℕ) (st : Standing) → At c.lists.up k q → At c.standing i st → st.place ≡ k → IsStanding d.standing k ⊎ IsOver log d.lists k q)
      → (Is command.EventAdd s.message → IsRefused d.lists place ⊎ (IsStanding d.standing place ⊎ IsOver log d.lists place s))
      → Both (IsOnRecord log rs d.lists) new.subscriptions d.standing → KnownOn log rs new d
  known-next few origins stand own subs = record {
    few = few;
    came = (let lt : place < length c.lists.up = At-within c.lists.up place s at in
        let le : length c.lists.up ≤ length d.lists.up = grows-le c.lists.up d.lists.up ext.up in
        let is : length d.lists.handled ≡ place + 1 = ap (λ (l : Circuit). length l.handled) lists ∙ length-more c.lists.handled step in omega (arith, lt, le, is));
    origins = origins;
    within = within-now;
    adds = λ k q h at_q at_h asks. elim (handled-or k h at_h) [
      | inl old ↦
          let was = up-back k h q old at_q in
          elim (p.adds k q h was old asks) [
            | inl refused ↦ inl (refused.0, refused.1, ext.down refused.0 refused.1 refused.2, refused.3, refused.4)
            | inr other ↦ elim other [
              | inl stands ↦ inr (stand k q stands.0 stands.1 was stands.2 stands.3)
              | inr over ↦ inr (inr (over-on log log c.lists d.lists k q h ext (longer-self log) was old (p.within k h old) over))
            ]
          ]
      | inr this ↦
          let one : s ≡ q = At-one d.lists.up place s q at-place (subst (λ (n : ℕ). At d.lists.up n q) this.0 at_q) in
          subst (λ (v : ℕ × Sent). IsRefused d.lists v.0 ⊎ (IsStanding d.standing v.0 ⊎ IsOver log d.lists v.0 v.1)) (λ i. (sym this.0 i, one i)) (own (subst (λ (x : Sent). Is command.EventAdd x.message) (sym one) asks))
    ];
    subs = subs;
  }

  -- a reply refused it
  refused-here : (r : Fields) → replies ≡ r ∷ [] → IsRefused d.lists place
  refused-here r is =
      let t : Told = record { message = r; place = place; cause = Reply } in (
        length c.lists.down,
        t,
        subst (λ (l : Circuit). At l.down (length c.lists.down) t) (sym lists) (subst (λ (ms : List Fields). At (c.lists.down ++ about place Reply ms) (length c.lists.down) t) (sym is) (At-last c.lists.down t)),
        refl,
        refl,
      )

  -- a subscription that goes on
  on-now : (sub : Subscription) (st : Standing) → IsOnRecord log rs c.lists sub st → IsOnRecord log rs d.lists sub st
  on-now sub st o = on-record-on log log rs rs c.lists d.lists sub st st refl refl ext (longer-self log) (λ h there. p.within st.place h there) (λ r there. there) o

  -- a channel that stays
  origin-now : (g : Handle) (ch : OpenChannel) → under e.channels g ≡ Some ch → ((q : Creation) → In c.creations q → q.sid ≡ wire_of g → In d.creations q) → IsOrigin log rs d (wire_of g) ch
  origin-now g ch there noted = origin-on log log rs rs c d (wire_of g) ch ch ext (longer-self log) refl (λ stays. stays) noted (λ r stays in_it. in_it) (p.origins g ch there)

  -- ---- the channels, creations and subscriptions stay
  known-quiet : new.channels ≡ e.channels → d.creations ≡ c.creations → new.subscriptions ≡ e.subscriptions → d.standing ≡ c.standing → (Is command.EventAdd s.message → (r : Fields) × (replies ≡ r ∷ [])) → KnownOn log rs new d
  known-quiet channels creations subscriptions standing refused =
      known-next (subst (λ (t : Table OpenChannel). length t ≤ arena_slots) (sym channels) p.few)
      (λ g ch there. origin-now g ch (subst (λ (t : Table OpenChannel). under t g ≡ Some ch) channels there) (λ q in_it sid. subst (λ (l : List Creation). In l q) (sym creations) in_it))
      (λ k q i st at_q there is. inl (i, st, subst (λ (l : List Standing). At l i st) (sym standing) there, is))
      (λ asks. (let r = refused asks in inl (refused-here r.0 r.1)))
      (subst (λ (l : List Subscription). Both (IsOnRecord log rs d.lists) l d.standing) (sym subscriptions) (subst (λ (l : List Standing). Both (IsOnRecord log rs d.lists) e.subscriptions l) (sym standing)
      (both-all (IsOnRecord log rs c.lists) (IsOnRecord log rs d.lists) e.subscriptions c.standing p.subs (λ i sub st a b o. on-now sub st o))))

  -- subscriptions end by this message
  known-fewer : (gone : SubKey → Bool) → length new.channels ≤ arena_slots → ((g : Handle) (ch : OpenChannel) → under new.channels g ≡ Some ch → IsOrigin log rs d (wire_of g) ch)
      → new.subscriptions ≡ filter (λ (x : Subscription). not (gone (key_of x))) e.subscriptions → d.standing ≡ filter (λ (x : Standing). not (gone x.key)) c.standing
      → ((k : SubKey) (q : Sent) → gone k ≡ true → key_in q.message ≡ k → Ends q.message s.message) → (Is command.EventAdd s.message → (r : Fields) × (replies ≡ r ∷ [])) → KnownOn log rs new d
  known-fewer gone few origins subscriptions standing ends refused =
      known-next few origins stand (λ asks. (let r = refused asks in inl (refused-here r.0 r.1)))
      (subst (λ (l : List Subscription). Both (IsOnRecord log rs d.lists) l d.standing) (sym subscriptions) (subst (λ (l : List Standing). Both (IsOnRecord log rs d.lists) (filter (λ (x : Subscription). not (gone (key_of x))) e.subscriptions) l) (sym standing)
      (both-filter (IsOnRecord log rs c.lists) (IsOnRecord log rs d.lists) (λ (x : Subscription). not (gone (key_of x))) (λ (x : Standing). not (gone x.key)) e.subscriptions c.standing p.subs
      (λ i sub st a b o. ap (λ (k : SubKey). not (gone k)) o.key) (λ i sub st a b o stays. on-now sub st o))))
    where
      stand : (k : ℕ) (q : Sent) (i : ℕ) (st : Standing) → At c.lists.up k q → At c.standing i st → st.place ≡ k → IsStanding d.standing k ⊎ IsOver log d.lists k q
      stand k q i st at_q there is = go (gone st.key) refl
        where
          go : (b : Bool) → gone st.key ≡ b → IsStanding d.standing k ⊎ IsOver log d.lists k q
          go false stays = (let kept = kept-in (λ (x : Standing). not (gone x.key)) c.standing st (i, there) (ap (λ (b : Bool). not b) stays) in inl (kept.0, st, subst (λ (l : List Standing). At l kept.0 st) (sym standing) kept.1, is))
          go true over =
              let x = beside-right (IsOnRecord log rs c.lists) e.subscriptions c.standing i st p.subs there in
              let o = x.2 in
              let one : o.s ≡ q = At-one c.lists.up k o.s q (subst (λ (n : ℕ). At c.lists.up n o.s) is o.sent) at_q in
              let lt : st.place < length c.lists.handled = At-within c.lists.handled st.place o.h o.handled in
              inr (inl (place, s, omega (arith, lt, is), place-within, at-place, ends st.key q over (ap (λ (z : Sent). key_in z.message) (sym one) ∙ o.named)))

  -- ---- a subscription begins

  -- the channel on which the EVENT_ADD acted is the one that is open under its SID
  known-acted : (x : Creation) (ch : OpenChannel) (r : ℕ) (o : IsOrigin log rs c (sid_in s.message) ch) → CreationsOn c → CreatedOn c → ch.retired ≡ false → Acted d.lists log place r → In (titles rs) (ch.name, r)
  known-acted x ch r o creations created stays a = o.still stays r has
    where
      same_s : a.0 ≡ s
      same_s = At-one d.lists.up place a.0 s a.4 at-place

      same_h : a.1 ≡ step
      same_h = At-one d.lists.handled place a.1 step a.5 step-there

      was : IsOpen (before d.lists place step) (take step.logged log) a.2 a.3 (sid_in s.message) r
      was = subst (λ (v : Sent × Step). IsOpen (before d.lists place v.1) (take v.1.logged log) a.2 a.3 (sid_in v.0.message) r) (λ i. (same_s i, same_h i)) a.6

      t : Told
      t = was.0.0

      at_t : At c.lists.down a.2 t
      at_t = (let lt : a.2 < step.sent = below step.sent d.lists.down a.2 t was.0.3 in grown-back c.lists.down d.lists.down ext.down a.2 t (omega (arith, lt, sent)) (At-take step.sent d.lists.down a.2 t was.0.3))
        where
          below : (n : ℕ) (xs : List Told) (i : ℕ) (z : Told) → At (take n xs) i z → i < n
          below zero xs i z there = absurd (none_at i z there)
          below (suc n) [] i z there = absurd (none_at i z there)
          below (suc n) (y ∷ xs) zero z there = omega arith
          below (suc n) (y ∷ xs) (suc i) z there = (let lt : i < n = below n xs i z there in omega (arith, lt))

      -- the reply by which the open channel was created
      u : (i : ℕ) × (u : Told) × At c.lists.down i u × (u.place ≡ o.x.place) × (u.cause ≡ Reply) × Creates u.message o.x.sid
      u = creations.told o.x o.noted

      u_creates : Creates u.1.message (sid_in s.message)
      u_creates = (u.5.0, u.5.1 ∙ o.under_sid)

      one : a.2 ≡ u.0
      one = elim (same-or a.2 u.0) [
        | inl is ↦ is
        | inr other ↦ elim (less-or a.2 u.0 other) [
          | inl lt ↦
              let within : u.0 < length c.lists.down = At-within c.lists.down u.0 u.1 u.2 in
              absurd (was.1 u.0 u.1 lt (taken-at step.sent d.lists.down u.0 u.1 (omega (arith, within, sent)) (ext.down u.0 u.1 u.2)) u_creates)
          | inr lt ↦
              let w = created.apart u.0 a.2 (sid_in s.message) (sid_in s.message) u.1 t lt u.2 at_t u.4 was.0.5 u_creates was.0.6 refl in
              let cleared = w.1 in
              let after : u.1.place < cleared.0 = cleared.2 in
              let until : cleared.0 < t.place = cleared.3 in
              let handled : t.place < length c.lists.handled = (created.about a.2 (sid_in s.message) t at_t was.0.5 was.0.6).0 in
              let is : u.1.place ≡ o.x.place = u.3 in
              absurd (creations.uncleared o.x cleared.0 cleared.1 o.noted (omega (arith, after, is)) (omega (arith, until, handled)) cleared.4 (cleared.5.0, cleared.5.1 ∙ sym o.under_sid))
        ]
      ]
        where
          less-or : (i j : ℕ) → (i ≡ j → ⊥) → (i < j) ⊎ (j < i)
          less-or zero zero apart = absurd (apart refl)
          less-or zero (suc j) apart = inl (omega arith)
          less-or (suc i) zero apart = inr (omega arith)
          less-or (suc i) (suc j) apart = elim (less-or i j (λ is. apart (ap (λ (n : ℕ). suc n) is))) [ inl lt ↦ inl (omega (arith, lt)) | inr lt ↦ inr (omega (arith, lt)) ]

      t_is : t ≡ u.1
      t_is = At-one c.lists.down u.0 t u.1 (subst (λ (n : ℕ). At c.lists.down n t) one at_t) u.2

      place_is : a.3 ≡ o.x.place
      place_is = sym was.0.4 ∙ ap (λ (z : Told). z.place) t_is ∙ u.3

      q_is : was.0.1 ≡ o.s
      q_is = At-one d.lists.up o.x.place was.0.1 o.s (subst (λ (n : ℕ). At d.lists.up n was.0.1) place_is (At-take place d.lists.up a.3 was.0.1 was.0.7)) (ext.up o.x.place o.s o.sent)

      h_is : was.0.2 ≡ o.h
      h_is = At-one d.lists.handled o.x.place was.0.2 o.h (subst (λ (n : ℕ). At d.lists.handled n was.0.2) place_is (At-take place d.lists.handled a.3 was.0.2 was.0.8)) (ext.handled o.x.place o.h o.handled)

      log_is : take step.logged log ≡ log
      log_is = ap (λ (n : ℕ). take n log) logged ∙ take-whole log

      has : Has (take o.h.logged log) r ch.name
      has =
          subst (λ (n : List ℕ). Has (take o.h.logged log) r n) (ap (λ (z : Sent). name_in z.message) q_is ∙ sym o.name)
          (subst (λ (v : ℕ × List Entry). Has (take v.0 v.1) r (name_in (was.0.1).message)) (λ i. ((h_is i).logged, log_is i)) was.0.9)

  known-begun : (y : Server) (sub : Subscription) → Due (knows y e) s.message replies (Adds sub) → CreationsOn c → CreatedOn c → new.channels ≡ e.channels → d.creations ≡ c.creations → new.subscriptions ≡ e.subscriptions ++ sub ∷ []
      → d.standing ≡ c.standing ++ record { key = key_of sub; place = place; posts = 1 } ∷ [] → KnownOn log rs new d
  known-begun y sub due creations created channels noted subscriptions standing =
      known-next (subst (λ (t : Table OpenChannel). length t ≤ arena_slots) (sym channels) p.few)
      (λ g ch there. origin-now g ch (subst (λ (t : Table OpenChannel). under t g ≡ Some ch) channels there) (λ q in_it sid. subst (λ (l : List Creation). In l q) (sym noted) in_it))
      (λ k q i z at_q there is. inl (i, z, subst (λ (l : List Standing). At l i z) (sym standing) (At-append c.standing (st ∷ []) i z there), is))
      (λ asks. inr (inl (length c.standing, st, subst (λ (l : List Standing). At l (length c.standing) st) (sym standing) (At-last c.standing st), refl)))
      (subst (λ (l : List Subscription). Both (IsOnRecord log rs d.lists) l d.standing) (sym subscriptions) (subst (λ (l : List Standing). Both (IsOnRecord log rs d.lists) (e.subscriptions ++ sub ∷ []) l) (sym standing)
      (both-snoc (IsOnRecord log rs d.lists) e.subscriptions c.standing sub st
      (both-all (IsOnRecord log rs c.lists) (IsOnRecord log rs d.lists) e.subscriptions c.standing p.subs (λ i x z a b o. on-now x z o))
      (record {
        key = refl;
        s = s;
        sent = at-place;
        named = ap (λ (x : Subscription). key_of x) (sym is);
        h = step;
        handled = step-there;
        acted = λ r acted.
            subst (λ (n : List ℕ). In (titles rs) (n, r)) name_is
            (known-acted (p.origins opened.0.0 opened.0.1 there).x opened.0.1 r (subst (λ (n : ℕ). IsOrigin log rs c n opened.0.1) wire_is (p.origins opened.0.0 opened.0.1 there)) creations created (ap (λ (k : KnownChannel). k.retired) (sym opened.2) ∙ serves.there) acted);
      }))))
    where
      st : Standing
      st = record { key = key_of sub; place = place; posts = 1 }

      same-sub : (a b : Subscription) → Adds a ≡ Adds b → a ≡ b
      same-sub a b e1 = cc

      serves : Serves (knows y e) s.message.p1
      serves = (due-adds (knows y e) s.message replies sub due).1.0

      is : sub ≡ subscription_in s.message serves.channel.name
      is = same-sub sub (subscription_in s.message serves.channel.name) (due-adds (knows y e) s.message replies sub due).1.3

      opened : (x : Handle × OpenChannel) × At (held e.channels) serves.open_there.0 x × (serves.channel ≡ known_channel x)
      opened = At-mapped known_channel (held e.channels) serves.open_there.0 serves.channel serves.open_there.1

      there : under e.channels opened.0.0 ≡ Some opened.0.1
      there = held-under e.channels serves.open_there.0 opened.0 opened.1

      wire_is : wire_of opened.0.0 ≡ sid_in s.message
      wire_is = ap (λ (k : KnownChannel). k.sid) (sym opened.2) ∙ serves.under

      name_is : opened.0.1.name ≡ sub.name
      name_is = ap (λ (k : KnownChannel). k.name) (sym opened.2) ∙ ap (λ (x : Subscription). x.name) (sym is)

  -- ---- a channel is created

  known-opened : (y : Server) (ch : KnownChannel) → Due (knows y e) s.message replies (Opens ch) → IsListed log rs → (g : Handle) → length new.channels ≤ arena_slots
      → ((k : Handle) (x : OpenChannel) → under new.channels k ≡ Some x → ((k ≡ g) × (x ≡ record { cid = ch.cid; name = ch.name; retired = false })) ⊎ (under e.channels k ≡ Some x)) → wire_of g ≡ ch.sid
      → d.creations ≡ c.creations ++ record { sid = ch.sid; place = place } ∷ [] → new.subscriptions ≡ e.subscriptions → d.standing ≡ c.standing → KnownOn log rs new d
  known-opened y ch due listed g few channels wire creations subscriptions standing =
      known-next few
      (λ k x there. elim (channels k x there) [
        | inl own ↦ subst (λ (v : Handle × OpenChannel). IsOrigin log rs d (wire_of v.0) v.1) (λ i. (sym own.0 i, sym own.1 i)) born
        | inr old ↦ origin-now k x old (λ q in_it sid. subst (λ (l : List Creation). In l q) (sym creations) (In-append c.creations (z ∷ []) q in_it))
      ])
      (λ k q i st at_q there is. inl (i, st, subst (λ (l : List Standing). At l i st) (sym standing) there, is))
      (λ asks. elim (add-or (knows y e) s.message replies (Opens ch) due asks) [ inl r ↦ inl (refused-here r.0 r.1) | inr a ↦ absurd (never a.0 a.1) ])
      (subst (λ (l : List Subscription). Both (IsOnRecord log rs d.lists) l d.standing) (sym subscriptions) (subst (λ (l : List Standing). Both (IsOnRecord log rs d.lists) e.subscriptions l) (sym standing)
      (both-all (IsOnRecord log rs c.lists) (IsOnRecord log rs d.lists) e.subscriptions c.standing p.subs (λ i sub st a b o. on-now sub st o))))
    where
      z : Creation
      z = record { sid = ch.sid; place = place }

      v : OpenChannel
      v = record { cid = ch.cid; name = ch.name; retired = false }

      never : (sub : Subscription) → Opens ch ≡ Adds sub → ⊥
      never sub e1 = cc

      same-opens : (a b : KnownChannel) → Opens a ≡ Opens b → a ≡ b
      same-opens a b e1 = cc

      made : IsCreated (knows y e) s.message replies (Opens ch)
      made = (due-opens (knows y e) s.message replies ch due).1

      born : IsOrigin log rs d (wire_of g) v
      born = record {
        x = z;
        noted = subst (λ (l : List Creation). In l z) (sym creations) (In-last c.creations z);
        under_sid = sym wire;
        s = s;
        sent = at-place;
        h = step;
        handled = step-there;
        name = ap (λ (k : KnownChannel). k.name) (same-opens ch _ made.does);
        within = omega (arith, logged);
        still = λ stays r has.
            let all : Has log r ch.name = subst (λ (l : List Entry). Has l r ch.name) (ap (λ (n : ℕ). take n log) logged ∙ take-whole log) has in
            subst (λ (n : List ℕ). In (titles rs) (n, r)) all.2 (listed r all.0 all.1 all.3);
      }

-- ---- a message is handled

cleared-back : (e : ServerEnd) (sid : ℕ) → length e.channels ≤ arena_slots → (g : Handle) (ch : OpenChannel) → under (without_channel sid e).channels g ≡ Some ch → (under e.channels g ≡ Some ch) × (wire_of g ≡ sid → ⊥)
cleared-back e sid few g ch = go (by_wire e.channels sid) refl
  where
    none-some : (x : Handle × OpenChannel) → let a : Option (Handle × OpenChannel) = None in let b : Option (Handle × OpenChannel) = Some x in a ≡ b → ⊥
    none-some x e1 = cc

    go : (o : Option (Handle × OpenChannel)) → by_wire e.channels sid ≡ o → under (unwrap_or (option_map (λ (c : Handle × OpenChannel). with_freed c.0 e.channels) o) e.channels) g ≡ Some ch → (under e.channels g ≡ Some ch) × (wire_of g ≡ sid → ⊥)
    go None is there = (there, λ same_it. none-some (g, ch) (sym is ∙ ap (λ (n : ℕ). by_wire e.channels n) (sym same_it) ∙ under-wire e.channels g ch few there))
    go (Some found) is there =
        let back = freed-back e.channels g found.0 ch there in
        (back.1, λ same_it. back.0 (ap (λ (x : Handle × OpenChannel). x.0) (some_is (g, ch) found (sym (under-wire e.channels g ch few back.1) ∙ ap (λ (n : ℕ). by_wire e.channels n) same_it ∙ is))))

cleared-few : (e : ServerEnd) (sid : ℕ) → length e.channels ≤ arena_slots → length (without_channel sid e).channels ≤ arena_slots
cleared-few e sid few = go (by_wire e.channels sid)
  where
    go : (o : Option (Handle × OpenChannel)) → length (unwrap_or (option_map (λ (c : Handle × OpenChannel). with_freed c.0 e.channels) o) e.channels) ≤ arena_slots
    go None = few
    go (Some found) = (let is : length (with_freed found.0 e.channels) ≡ length e.channels = freed-few e.channels found.0 in omega (arith, is, few))

pub known-handled : (log : List Entry) (rs : List RecordSide) (y : Server) (e new : ServerEnd) (s : Sent) (replies : List Fields) (did : Action) (step : Step) (c : Joined) → At c.lists.up (length c.lists.handled) s → Due (knows y e) s.message replies did → Acts y e did new
    → step.logged ≡ length log → step.sent ≡ length c.lists.down → IsListed log rs → CreationsOn c → CreatedOn c → KnownOn log rs e c → KnownOn log rs new (handled_at (length c.lists.handled) step replies (numbers_after (length c.lists.handled) did c))
known-handled log rs y e new s replies did step c at due acts logged sent listed creations created p = go did due acts
  where
    n : ℕ
    n = length c.lists.handled

    after : Action → Joined
    after did = handled_at n step replies (numbers_after n did c)

    refused : (did : Action) → ((sub : Subscription) → did ≡ Adds sub → ⊥) → Due (knows y e) s.message replies did → Is command.EventAdd s.message → (r : Fields) × (replies ≡ r ∷ [])
    refused did never due asks = elim (add-or (knows y e) s.message replies did due asks) [ inl r ↦ r | inr a ↦ absurd (never a.0 a.1) ]

    quiet : (did : Action) → ((sub : Subscription) → did ≡ Adds sub → ⊥) → Due (knows y e) s.message replies did → (after did).lists ≡ record c.lists { down = c.lists.down ++ about n Reply replies; handled = c.lists.handled ++ step ∷ [] } → (after did).creations ≡ c.creations → (after did).standing ≡ c.standing
        → new.channels ≡ e.channels → new.subscriptions ≡ e.subscriptions → KnownOn log rs new (after did)
    quiet did never due lists noted standing channels subscriptions = known-quiet log rs e new s replies step c (after did) at logged sent lists p channels noted subscriptions standing (refused did never due)

    go : (did : Action) → Due (knows y e) s.message replies did → Acts y e did new → KnownOn log rs new (after did)
    go (Adds sub) due acts =
        known-begun log rs e new s replies step c (after (Adds sub)) at logged sent refl p y sub due creations created (ap (λ (x : ServerEnd). x.channels) acts.2.leaves) refl (ap (λ (x : ServerEnd). x.subscriptions) acts.2.leaves) refl
    go (Opens ch) due acts =
        known-opened log rs e new s replies step c (after (Opens ch)) at logged sent refl p y ch due listed acts.0
        (subst (λ (x : ServerEnd). length x.channels ≤ arena_slots) (sym acts.3) (held-few e.channels acts.0 _ acts.1 p.few))
        (λ k x there. held-back e.channels k acts.0 _ x (subst (λ (z : ServerEnd). under z.channels k ≡ Some x) acts.3 there))
        acts.2 refl (ap (λ (x : ServerEnd). x.subscriptions) acts.3) refl
    go (Clears sid) due acts =
        let only = clears-only (knows y e) s.message replies sid due in
        known-fewer log rs e new s replies step c (after (Clears sid)) at logged sent refl p (λ (k : SubKey). eqb k.sid sid)
        (subst (λ (x : ServerEnd). length x.channels ≤ arena_slots) (sym acts) (cleared-few e sid p.few))
        (λ g ch there.
        let back = cleared-back e sid p.few g ch (subst (λ (x : ServerEnd). under x.channels g ≡ Some ch) acts there) in
        origin-now log rs e new s replies step c (after (Clears sid)) at logged sent refl p g ch back.0
        (λ q in_it wire. kept-in (λ (x : Creation). not (eqb x.sid sid)) c.creations q in_it (other q sid (λ is. back.1 (sym wire ∙ is)))))
        (ap (λ (x : ServerEnd). x.subscriptions) acts) refl
        (λ k q gone key. inr (only.0, sym only.1 ∙ sym (eqb-true k.sid sid gone) ∙ ap (λ (z : SubKey). z.sid) (sym key)))
        (refused (Clears sid) (λ sub e1. cc) due)
      where
        other : (q : Creation) (sid : ℕ) → (q.sid ≡ sid → ⊥) → not (eqb q.sid sid) ≡ true
        other q sid apart = on (eqb q.sid sid) refl
          where
            on : (b : Bool) → eqb q.sid sid ≡ b → not b ≡ true
            on false e1 = refl
            on true e1 = absurd (apart (eqb-true q.sid sid e1))
    go (Drops key) due acts =
        let only = drops-only (knows y e) s.message replies key due in
        known-fewer log rs e new s replies step c (after (Drops key)) at logged sent refl p (same key)
        (subst (λ (x : ServerEnd). length x.channels ≤ arena_slots) (sym acts) p.few)
        (λ g ch there. origin-now log rs e new s replies step c (after (Drops key)) at logged sent refl p g ch (subst (λ (x : ServerEnd). under x.channels g ≡ Some ch) acts there) (λ q in_it wire. in_it))
        (ap (λ (x : ServerEnd). x.subscriptions) acts) refl
        (λ k q gone is. (let both : key_in s.message ≡ key_in q.message = sym only.1 ∙ same_is key k gone ∙ sym is in inl (only.0, ap (λ (z : SubKey). z.sid) both, ap (λ (z : SubKey). z.sub) both)))
        (refused (Drops key) (λ sub e1. cc) due)
    go (Switches on) due acts = quiet (Switches on) (λ sub e1. cc) due refl refl refl (ap (λ (x : ServerEnd). x.channels) acts) (ap (λ (x : ServerEnd). x.subscriptions) acts)
    go action.Greets due acts = quiet action.Greets (λ sub e1. cc) due refl refl refl (ap (λ (x : ServerEnd). x.channels) acts) (ap (λ (x : ServerEnd). x.subscriptions) acts)
    go (action.Names x) due acts = quiet (action.Names x) (λ sub e1. cc) due refl refl refl (ap (λ (x : ServerEnd). x.channels) acts) (ap (λ (x : ServerEnd). x.subscriptions) acts)
    go action.Nothing due acts = quiet action.Nothing (λ sub e1. cc) due refl refl refl (ap (λ (x : ServerEnd). x.channels) acts) (ap (λ (x : ServerEnd). x.subscriptions) acts)
    go (Applies name value busies) due acts = quiet (Applies name value busies) (λ sub e1. cc) due refl refl refl (ap (λ (x : ServerEnd). x.channels) acts) (ap (λ (x : ServerEnd). x.subscriptions) acts)
    go (action.Waits name value) due acts = quiet (action.Waits name value) (λ sub e1. cc) due refl refl refl (ap (λ (x : ServerEnd). x.channels) acts) (ap (λ (x : ServerEnd). x.subscriptions) acts)
