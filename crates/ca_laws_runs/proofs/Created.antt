-- The replies by which channels are created, over every event and run.
use Rattle.std.proofs.Common.{◌≡◌, ℕ, zero, suc, ◌+◌, ◌<◌, ◌%◌, ◌⊎◌, inl, inr, Bool, true, false, cond, not, eqb, eqb-true, List, [], ◌∷◌, ◌++◌, length, Option, Some, None, refl, sym, ap, subst, ◌∙◌, arith}
use Rattle.std.proofs.lemmas.Bool.{both_ways, cases_Bool}
use Rattle.std.specs.List.{FoldsTo}
use Rattle.std.specs.Prelude.{is_some, option_map, slice_set, unwrap_or}
use Rattle.ca_arena.specs.declared.handle.Handle.{Handle}
use Rattle.ca_dbr.specs.Elements.{base_of}
use Rattle.ca_dbr.specs.Types.{base_number}
use Rattle.ca_ids.specs.Table.{held}
use Rattle.ca_ids.specs.Wire.{wire_of}
use Rattle.ca_link.specs.Link.{with_rest}
use Rattle.ca_text.specs.declared.command.Command.TheVariants as command
use Rattle.ca_text.specs.Limits.{arena_slots}
use Rattle.ca_text.specs.Place.{At}
use Rattle.ca_text.specs.Status.{normal}
use Rattle.ca_text.proofs.Places.{some_is, At-append, At-last, At-map, At-mapped, At-one, At-parts, At-snoc, At-within}
use Rattle.ca_wire.specs.Fields.{Fields}
use Rattle.ca_wire.specs.Messages.{header_only, cancel_reply, cleared_reply, error_reply, created_reply, failed_reply, not_found_reply, rights_reply, search_reply, status_reply, text_in, version_reply}
use Rattle.ca_model.specs.Answers.{Closing}
use Rattle.ca_model.specs.Due.{Action, Due, IsCreated, KnownChannel, Knows, is_known, rights_at}
use Rattle.ca_model.specs.Due as action
use Rattle.ca_model.specs.History.{Circuit, Reply, Sent, Step, Told}
use Rattle.ca_model.specs.Server.{ServerEnd}
use Rattle.ca_model.specs.ServerSteps.{Stepped, known_channel, knows}
use Rattle.ca_model.specs.ServerSteps as stepped
use Rattle.ca_model.specs.Speech.{Clears, Creates, In, Is}
use Rattle.ca_model.proofs.Tables.{length-more, under-held}
use Rattle.ca_model.specs.ClientEvents.{HappensAccept, WantsFirst, connected_as, new_circuit}
use Rattle.ca_model.specs.Events.{Event}
use Rattle.ca_model.specs.Events as event
use Rattle.ca_model.specs.Runs.{Happens, StopsAt, clients_below}
use Rattle.ca_model.specs.ServerEvents.{ServerStepped, StepHandles, about, ending, ends_by, handled_at, numbers_after, server_after, side_of, write_numbers}
use Rattle.ca_model.specs.ServerEvents as server
use Rattle.ca_model.specs.World.{ClientSide, Creation, IsSetting, Joined, ServerSide, Setting, World, opening, with_circuit}
use Rattle.ca_laws_parts.specs.Runs.{IsReached}
use Rattle.ca_laws_parts.specs.Sids.{IsClearedWithin}
use Rattle.ca_laws_parts.proofs.Sids.{within-wider}
use Rattle.ca_laws_parts.specs.Channels.{AllChannels, ChannelsOn, has_sid}
use Rattle.ca_laws_parts.proofs.Handled.{numbers-like, writes-like}
use Rattle.ca_laws_parts.specs.Seats.{TakesSent}
use Rattle.ca_laws_parts.proofs.Doing.{any-of, clears-only, commands, each-at, known-or}
use Rattle.ca_laws_parts.proofs.WritesEvents.{find-at}
use Rattle.ca_laws_parts.proofs.Every.{ticks-frame}
use Rattle.ca_laws_parts.proofs.Frames.{Frame}
use Rattle.ca_laws_parts.proofs.HappensClient.{sent-frame}
use Rattle.ca_laws_parts.proofs.Lasting.{AllEnds}
use Rattle.ca_laws_parts.proofs.LastingAll.{event-lasts, opening-lasts}
use Rattle.ca_laws_parts.proofs.WritesLists.{In-append, In-last, kept-in, none_at}
use Rattle.ca_laws_parts.proofs.Midway.{set-here}
use Rattle.ca_laws_parts.proofs.WritesMoves.{same-or}
use Rattle.ca_laws_runs.specs.Worlds.{ServersStand}
use Rattle.ca_laws_runs.proofs.Answering.{due-answer, due-answer-at}
use Rattle.ca_laws_runs.proofs.Handled.{written-parts}
use Rattle.ca_laws_runs.proofs.StepWhole.{event-serves, opening-serves, takes-next}
use Rattle.ca_laws_runs.specs.Created.{AllCreated, CreatedOn}
use Rattle.ca_laws_runs.specs.Creations.{AllCreations, CreationsOn}
use Rattle.ca_laws_runs.proofs.Creations.{HasCreations, creations-begun, creations-handled, creations-lasting}
use Rattle.ca_laws_runs.proofs.SidTells.{Back, KeepsOn, back-frame, event-back, on-ending, step-beside, unhandled-back}

-- ---- what is due

-- it is no CREATE_CHAN
record IsOther (q : Fields) : Type 0 where
  none : Is command.CreateChannel q → ⊥

differs : (q : Fields) (a : ℕ) → q.command ≡ a → eqb a 18 ≡ false → IsOther q
differs q a is none = record { none = λ creates. both_ways (eqb a 18) none (ap (λ (n : ℕ). eqb n 18) (sym is ∙ creates)) }

pub due-creates : (k : Knows) (m : Fields) (replies : List Fields) (did : Action) → Due k m replies did → (l : ℕ) (r : Fields) → At replies l r → Is command.CreateChannel r
    → Is command.CreateChannel m × (made : IsCreated k m replies did) × (l ≡ 1) × (r.p2 ≡ made.sid) × (r.p1 ≡ m.p1)
due-creates k m replies did due l r there creates =
    elim (known-or (is_known m.command)) [
      | inr other ↦ none (due.other other).0
      | inl known ↦ any-of m.command commands known When (each-at When commands (
        (λ e. maybe k.greeted version_reply (due.version e).0 (differs version_reply 0 refl refl)),
        (
          (λ e. elim (due.subscribe e) [
            | inl served ↦ elim served.1 [ inl refused ↦ one (error_reply served.0.channel.cid refused.0 m) refused.2 (differs _ 11 refl refl) | inr added ↦ none added.1 ]
            | inr stray ↦ one (error_reply stray.0 _ m) stray.2 (differs _ 11 refl refl)
          ]),
          (
            (λ e. one (cancel_reply m) (due.cancel e).0 (differs (cancel_reply m) 1 refl refl)),
            (
              (λ e. elim (due.write e) [
                | inl served ↦ elim served.1 [ inl refused ↦ one (error_reply served.0.channel.cid refused.0 m) refused.2 (differs _ 11 refl refl) | inr taken ↦ none taken.2 ]
                | inr stray ↦ one (error_reply stray.0 _ m) stray.2 (differs _ 11 refl refl)
              ]),
              (
                (λ e. searched (is_some (k.record_of (text_in m.payload))) (eqb m.data_type 10) (due.search e).0),
                (
                  (λ e. none (due.off e).0),
                  (
                    (λ e. none (due.on e).0),
                    (
                      (λ e. one (cleared_reply m) (due.clear e).0 (differs (cleared_reply m) 12 refl refl)),
                      (
                        (λ e. elim (due.read e) [
                          | inl served ↦ elim served.2 [
                            | inl fault ↦ one (status_reply m fault.0) fault.2 (differs _ 15 e refl)
                            | inr shown ↦ one _ shown.1.4 (differs _ 15 e refl)
                          ]
                          | inr stray ↦ one (status_reply m _) stray.2 (differs _ 15 e refl)
                        ]),
                        (
                          (λ e. elim (due.create e) [
                            | inl made ↦ created e made
                            | inr not ↦ one (failed_reply m) not.are (differs (failed_reply m) 26 refl refl)
                          ]),
                          (
                            (λ e. elim (due.put e) [
                              | inl served ↦ elim served.1 [
                                | inl refused ↦ one (status_reply m refused.0) refused.2 (differs _ 19 e refl)
                                | inr taken ↦ maybe served.0.known.state.slow (status_reply m normal) taken.2 (differs _ 19 e refl)
                              ]
                              | inr stray ↦ one (status_reply m _) stray.2 (differs _ 19 e refl)
                            ]),
                            (
                              (λ e. none (due.user e).0),
                              ((λ e. none (due.host e).0), ((λ e. one (header_only command.Echo) (due.echo e).0 (differs _ 23 refl refl)), tt)),
                            ),
                          ),
                        ),
                      ),
                    ),
                  ),
                ),
              ),
            ),
          ),
        ),
      )) refl
    ]
  where
    Made : Type 0
    Made = Is command.CreateChannel m × (made : IsCreated k m replies did) × (l ≡ 1) × (r.p2 ≡ made.sid) × (r.p1 ≡ m.p1)

    When : ℕ → Type 0
    When n = m.command ≡ n → Made

    none : replies ≡ [] → Made
    none is = absurd (none_at l r (subst (λ (ms : List Fields). At ms l r) is there))

    one : (q : Fields) → replies ≡ q ∷ [] → IsOther q → Made
    one q is other = absurd (go l (subst (λ (ms : List Fields). At ms l r) is there))
      where
        go : (i : ℕ) → At (q ∷ []) i r → ⊥
        go zero at = other.none (subst (λ (x : Fields). Is command.CreateChannel x) (sym (some_is q r at)) creates)
        go (suc i) at = none_at i r at

    maybe : (b : Bool) (q : Fields) → replies ≡ cond b [] (q ∷ []) → IsOther q → Made
    maybe true q is other = none is
    maybe false q is other = one q is other

    searched : (a b : Bool) → replies ≡ cond a (search_reply k.port m ∷ []) (cond b (not_found_reply m ∷ []) []) → Made
    searched true b is = one (search_reply k.port m) is (differs (search_reply k.port m) 6 refl refl)
    searched false true is = one (not_found_reply m) is (differs (not_found_reply m) 14 refl refl)
    searched false false is = none is

    second : (p q : Fields) (i : ℕ) → At (p ∷ q ∷ []) i r → IsOther p → (i ≡ 1) × (r ≡ q)
    second p q zero at other = absurd (other.none (subst (λ (x : Fields). Is command.CreateChannel x) (sym (some_is p r at)) creates))
    second p q (suc zero) at other = (refl, sym (some_is q r at))
    second p q (suc (suc i)) at other = absurd (none_at i r at)

    created : m.command ≡ 18 → IsCreated k m replies did → Made
    created e made =
        let rights : Fields = rights_reply m (rights_at k made.known.state.name) in
        let reply : Fields = created_reply m (base_number (base_of made.known.state.value)) made.known.state.count made.sid in
        let x = second rights reply l (subst (λ (ms : List Fields). At ms l r) made.are there) (differs rights 22 refl refl) in
        (e, made, x.0, ap (λ (z : Fields). z.p2) x.1, ap (λ (z : Fields). z.p1) x.1)

-- ---- a circuit goes on

within-on : (up more : List Sent) (sid a b : ℕ) → ((p : ℕ) (s : Sent) → At up p s → At more p s) → IsClearedWithin up sid a b → IsClearedWithin more sid a b
within-on up more sid a b on h = (h.0, h.1, h.2, h.3, on h.0 h.1 h.4, h.5)

pub keeps-created : (c d : Joined) → KeepsOn c d → CreatedOn c → CreatedOn d
keeps-created c d k h = record {
  about = λ i sid t at reply creates.
      let r = h.about i sid t (k.creates i t at reply (inl creates.0)) reply creates in
      (subst (λ (l : List Step). t.place < length l) (sym k.handled) r.0, (r.1.0, k.up t.place r.1.0 r.1.1, r.1.2));
  once = λ i j sid other t u ati atj a b ca cb same. h.once i j sid other t u (k.creates i t ati a (inl ca.0)) (k.creates j u atj b (inl cb.0)) a b ca cb same;
  apart = λ i j sid other t u lt ati atj a b ca cb one.
      let r = h.apart i j sid other t u lt (k.creates i t ati a (inl ca.0)) (k.creates j u atj b (inl cb.0)) a b ca cb one in
      (r.0, within-on c.lists.up d.lists.up sid t.place u.place k.up r.1);
  noted = λ i sid t opened at reply creates.
      let o = k.opened opened in
      elim (h.noted i sid t o.0 (k.creates i t at reply (inl creates.0)) reply creates) [
        | inl x ↦ inl (x.0, subst (λ (l : List Creation). In l x.0) (sym o.1) x.1, x.2, x.3)
        | inr cleared ↦ inr (within-on c.lists.up d.lists.up sid t.place (length d.lists.handled) k.up (subst (λ (l : List Step). IsClearedWithin c.lists.up sid t.place (length l)) (sym k.handled) cleared))
      ];
  prompt = λ i sid l t g at reply creates lt on. h.prompt i sid l t g (k.creates i t at reply (inl creates.0)) reply creates lt (subst (λ (s : List Step). At s l g) k.handled on);
  copies = λ i sid t q at reply creates there.
      let old = k.creates i t at reply (inl creates.0) in
      let r = (h.about i sid t old reply creates).1 in
      let one : r.0 ≡ q = At-one d.lists.up t.place r.0 q (k.up t.place r.0 r.1) there in
      h.copies i sid t r.0 old reply creates r.1 ∙ ap (λ (z : Sent). z.message.p1) one;
  owned = λ i j sid other t u lt ati atj a b ca cb same.
      let r = h.owned i j sid other t u lt (k.creates i t ati a (inl ca.0)) (k.creates j u atj b (inl cb.0)) a b ca cb same in
      (r.0, within-on c.lists.up d.lists.up sid t.place u.place k.up r.1);
  confirms = λ i t at reply adds. (let r = h.confirms i t (k.creates i t at reply (inr (inl adds))) reply adds in (r.0, subst (λ (s : List Step). At s t.place r.0) (sym k.handled) r.1, r.2));
  refuses = λ i t at reply error. (let r = h.refuses i t (k.creates i t at reply (inr (inr error))) reply error in (r.0, subst (λ (s : List Step). At s t.place r.0) (sym k.handled) r.1, r.2));
}

-- ---- a message is handled

module _ (c d : Joined) (k : Knows) (s : Sent) (replies : List Fields) (did : Action) (step : Step) (at_s : At c.lists.up (length c.lists.handled) s) (due : Due k s.message replies did)
    (fresh : (made : IsCreated k s.message replies did) (x : Creation) → In c.creations x → x.sid % arena_slots ≡ made.sid % arena_slots → ⊥) (taken : (made : IsCreated k s.message replies did) (x : Creation) → In c.creations x → (q : Sent) → At c.lists.up x.place q → q.message.p1 ≡ s.message.p1 → ⊥)
    (sent_is : step.sent ≡ length c.lists.down) (open_c : c.lists.server_open ≡ true)
    (up : d.lists.up ≡ c.lists.up) (down : d.lists.down ≡ c.lists.down ++ about (length c.lists.handled) Reply replies) (handled : d.lists.handled ≡ c.lists.handled ++ step ∷ [])
    (creations : d.lists.server_open ≡ true → d.creations ≡ (numbers_after (length c.lists.handled) did c).creations) (h : CreatedOn c) where
  abbrev place : ℕ
  place = length c.lists.handled

  -- a reply by which this message created its channel
  abbrev IsOwn : (i sid : ℕ) → Told → Type 0
  IsOwn i sid t = (t.place ≡ place) × Is command.CreateChannel s.message × (made : IsCreated k s.message replies did) × (i ≡ length c.lists.down + 1) × (sid ≡ made.sid) × (t.message.p1 ≡ s.message.p1)

  split : (i sid : ℕ) (t : Told) → At d.lists.down i t → Creates t.message sid → At c.lists.down i t ⊎ IsOwn i sid t
  split i sid t at creates = elim (At-parts c.lists.down (about place Reply replies) i t (subst (λ (l : List Told). At l i t) down at)) [
    | inl old ↦ inl old
    | inr new_it ↦
        let r = At-mapped (λ (m : Fields). let z : Told = record { message = m; place = place; cause = Reply } in z) replies new_it.0 t new_it.2 in
        let made = due-creates k s.message replies did due new_it.0 r.0 r.1 (subst (λ (z : Told). Is command.CreateChannel z.message) r.2 creates.0) in
        let index : i ≡ length c.lists.down + 1 = new_it.1 ∙ ap (λ (n : ℕ). length c.lists.down + n) made.2 in
        inr (ap (λ (z : Told). z.place) r.2, made.0, made.1, index, sym creates.1 ∙ ap (λ (z : Told). z.message.p2) r.2 ∙ made.3, ap (λ (z : Told). z.message.p1) r.2 ∙ made.4)
  ]

  more : length d.lists.handled ≡ place + 1
  more = ap (λ (l : List Step). length l) handled ∙ length-more c.lists.handled step

  up-on : (p : ℕ) (r : Sent) → At c.lists.up p r → At d.lists.up p r
  up-on p r at = subst (λ (l : List Sent). At l p r) (sym up) at

  -- what was noted is noted still, or was just cleared
  still : (x : Creation) → In c.creations x → In (numbers_after place did c).creations x ⊎ Clears s.message x.sid
  still x there = go did due
    where
      go : (a : Action) → Due k s.message replies a → In (numbers_after place a c).creations x ⊎ Clears s.message x.sid
      go (action.Clears sid) due_a =
          let only = clears-only k s.message replies sid due_a in
          elim (cases_Bool (eqb x.sid sid)) [
            | inl same ↦ inr (only.0, sym only.1 ∙ sym (eqb-true x.sid sid same))
            | inr other ↦ inl (kept-in (λ (z : Creation). not (eqb z.sid sid)) c.creations x there (ap (λ (b : Bool). not b) other))
          ]
      go (action.Opens z) due_a = inl (In-append c.creations _ x there)
      go (action.Adds z) due_a = inl there
      go (action.Drops key) due_a = inl there
      go (action.Switches on) due_a = inl there
      go (action.Applies name value busies) due_a = inl there
      go (action.Waits name value) due_a = inl there
      go (action.Names p) due_a = inl there
      go action.Greets due_a = inl there
      go action.Nothing due_a = inl there

  only-one : (q : Fields) (i : ℕ) (r : Fields) → At (q ∷ []) i r → i ≡ 0
  only-one q zero r at = refl
  only-one q (suc i) r at = absurd (none_at i r at)

  pub created-handled : CreatedOn d
  created-handled = record {
    about = λ i sid t at reply creates. elim (split i sid t at creates) [
      | inl old ↦ (let r = h.about i sid t old reply creates in let lt : t.place < place = r.0 in (omega (arith, lt, more), (r.1.0, up-on t.place r.1.0 r.1.1, r.1.2)))
      | inr own ↦ (
        (let e : t.place ≡ place = own.0 in omega (arith, e, more)),
        (s, up-on t.place s (subst (λ (p : ℕ). At c.lists.up p s) (sym own.0) at_s), own.1),
      )
    ];
    once = λ i j sid other t u ati atj a b ca cb same. elim (split i sid t ati ca) [
      | inl oldi ↦ elim (split j other u atj cb) [
        | inl oldj ↦ h.once i j sid other t u oldi oldj a b ca cb same
        | inr ownj ↦ absurd (let lt : t.place < place = (h.about i sid t oldi a ca).0 in let e : u.place ≡ place = ownj.0 in omega (arith, lt, e, same))
      ]
      | inr owni ↦ elim (split j other u atj cb) [
        | inl oldj ↦ absurd (let lt : u.place < place = (h.about j other u oldj b cb).0 in let e : t.place ≡ place = owni.0 in omega (arith, lt, e, same))
        | inr ownj ↦ owni.3 ∙ sym ownj.3
      ]
    ];
    apart = λ i j sid other t u lt ati atj a b ca cb one. elim (split j other u atj cb) [
      | inl oldj ↦ elim (split i sid t ati ca) [
        | inl oldi ↦ (let r = h.apart i j sid other t u lt oldi oldj a b ca cb one in (r.0, within-on c.lists.up d.lists.up sid t.place u.place up-on r.1))
        | inr owni ↦ absurd (let in_it : j < length c.lists.down = At-within c.lists.down j u oldj in let e : i ≡ length c.lists.down + 1 = owni.3 in omega (arith, in_it, e, lt))
      ]
      | inr ownj ↦ elim (split i sid t ati ca) [
        | inr owni ↦ absurd (let e : i ≡ length c.lists.down + 1 = owni.3 in let f : j ≡ length c.lists.down + 1 = ownj.3 in omega (arith, e, f, lt))
        | inl oldi ↦
            let before : t.place < place = (h.about i sid t oldi a ca).0 in
            let is : u.place ≡ place = ownj.0 in
            elim (h.noted i sid t open_c oldi a ca) [
              | inl x ↦ absurd (fresh ownj.2 x.0 x.1 (ap (λ (n : ℕ). n % arena_slots) x.2 ∙ one ∙ ap (λ (n : ℕ). n % arena_slots) ownj.4))
              | inr cleared ↦ (omega (arith, before, is), subst (λ (p : ℕ). IsClearedWithin d.lists.up sid t.place p) (sym is) (within-on c.lists.up d.lists.up sid t.place place up-on cleared))
            ]
      ]
    ];
    noted = λ i sid t opened at reply creates. elim (split i sid t at creates) [
      | inl old ↦ elim (h.noted i sid t open_c old reply creates) [
        | inl x ↦ elim (still x.0 x.1) [
          | inl there ↦ inl (x.0, subst (λ (l : List Creation). In l x.0) (sym (creations opened)) there, x.2, x.3)
          | inr clears ↦
              let lt : t.place < place = (h.about i sid t old reply creates).0 in
              inr (place, s, lt, omega (arith, more), up-on place s at_s, (clears.0, clears.1 ∙ x.2))
        ]
        | inr cleared ↦ inr (within-wider d.lists.up sid t.place place (length d.lists.handled) (omega (arith, more)) (within-on c.lists.up d.lists.up sid t.place place up-on cleared))
      ]
      | inr own ↦
          let z : Creation = record { sid = own.2.sid; place = place } in
          let opens : KnownChannel = record { sid = own.2.sid; cid = s.message.p1; name = text_in s.message.payload; retired = false } in
          let now : d.creations ≡ c.creations ++ z ∷ [] = creations opened ∙ ap (λ (a : Action). (numbers_after place a c).creations) (let e : did ≡ action.Opens opens = own.2.does in e) in
          inl (z, subst (λ (l : List Creation). In l z) (sym now) (In-last c.creations z), sym own.4, sym own.0)
    ];
    prompt = λ i sid l t g at reply creates lt on. elim (split i sid t at creates) [
      | inl old ↦ elim (At-snoc c.lists.handled step l g (subst (λ (x : List Step). At x l g) handled on)) [
        | inl was ↦ h.prompt i sid l t g old reply creates lt was
        | inr last ↦ (let in_it : i < length c.lists.down = At-within c.lists.down i t old in let is : g.sent ≡ length c.lists.down = ap (λ (x : Step). x.sent) last.1 ∙ sent_is in omega (arith, in_it, is))
      ]
      | inr own ↦ absurd (let in_it : l < length d.lists.handled = At-within d.lists.handled l g on in let e : t.place ≡ place = own.0 in omega (arith, in_it, more, e, lt))
    ];
    copies = λ i sid t q at reply creates there. elim (split i sid t at creates) [
      | inl old ↦ h.copies i sid t q old reply creates (subst (λ (l : List Sent). At l t.place q) up there)
      | inr own ↦ own.5 ∙ ap (λ (z : Sent). z.message.p1) (At-one c.lists.up place s q at_s (subst (λ (p : ℕ). At c.lists.up p q) own.0 (subst (λ (l : List Sent). At l t.place q) up there)))
    ];
    owned = λ i j sid other t u lt ati atj a b ca cb same. elim (split j other u atj cb) [
      | inl oldj ↦ elim (split i sid t ati ca) [
        | inl oldi ↦ (let r = h.owned i j sid other t u lt oldi oldj a b ca cb same in (r.0, within-on c.lists.up d.lists.up sid t.place u.place up-on r.1))
        | inr owni ↦ absurd (let in_it : j < length c.lists.down = At-within c.lists.down j u oldj in let e : i ≡ length c.lists.down + 1 = owni.3 in omega (arith, in_it, e, lt))
      ]
      | inr ownj ↦ elim (split i sid t ati ca) [
        | inr owni ↦ absurd (let e : i ≡ length c.lists.down + 1 = owni.3 in let f : j ≡ length c.lists.down + 1 = ownj.3 in omega (arith, e, f, lt))
        | inl oldi ↦
            let asked = h.about i sid t oldi a ca in
            let before : t.place < place = asked.0 in
            let is : u.place ≡ place = ownj.0 in
            elim (h.noted i sid t open_c oldi a ca) [
              | inl x ↦ absurd (taken ownj.2 x.0 x.1 asked.1.0 (subst (λ (p : ℕ). At c.lists.up p asked.1.0) (sym x.3) asked.1.1) (sym (h.copies i sid t asked.1.0 oldi a ca asked.1.1) ∙ same ∙ ownj.5))
              | inr cleared ↦ (omega (arith, before, is), subst (λ (p : ℕ). IsClearedWithin d.lists.up sid t.place p) (sym is) (within-on c.lists.up d.lists.up sid t.place place up-on cleared))
            ]
      ]
    ];
    confirms = λ i t at reply adds. elim (At-parts c.lists.down (about place Reply replies) i t (subst (λ (l : List Told). At l i t) down at)) [
      | inl old ↦ (let r = h.confirms i t old reply adds in (r.0, subst (λ (x : List Step). At x t.place r.0) (sym handled) (At-append c.lists.handled (step ∷ []) t.place r.0 r.1), r.2))
      | inr new_it ↦
          let r = At-mapped (λ (m : Fields). let z : Told = record { message = m; place = place; cause = Reply } in z) replies new_it.0 t new_it.2 in
          let cancels = (due-answer k s.message replies did due r.0 (new_it.0, r.1)).confirms (subst (λ (z : Told). Is command.EventAdd z.message) r.2 adds) in
          let first : new_it.0 ≡ 0 = only-one (cancel_reply s.message) new_it.0 r.0 (subst (λ (l : List Fields). At l new_it.0 r.0) (due.cancel cancels).0 r.1) in
          let index : i ≡ length c.lists.down + new_it.0 = new_it.1 in
          let at_i : length c.lists.down ≡ i = omega (arith, first, index) in
          (step, subst (λ (l : List Step). At l t.place step) (sym handled) (subst (λ (p : ℕ). At (c.lists.handled ++ step ∷ []) p step) (sym (ap (λ (z : Told). z.place) r.2)) (At-last c.lists.handled step)), sent_is ∙ at_i)
    ];
    refuses = λ i t at reply error. elim (At-parts c.lists.down (about place Reply replies) i t (subst (λ (l : List Told). At l i t) down at)) [
      | inl old ↦ (let r = h.refuses i t old reply error in (r.0, subst (λ (x : List Step). At x t.place r.0) (sym handled) (At-append c.lists.handled (step ∷ []) t.place r.0 r.1), r.2))
      | inr new_it ↦
          let r = At-mapped (λ (m : Fields). let z : Told = record { message = m; place = place; cause = Reply } in z) replies new_it.0 t new_it.2 in
          let first : new_it.0 ≡ 0 = (due-answer-at k s.message replies did due r.0 (new_it.0, r.1)).1 (subst (λ (z : Told). Is command.Error z.message) r.2 error) in
          let index : i ≡ length c.lists.down + new_it.0 = new_it.1 in
          let at_i : length c.lists.down ≡ i = omega (arith, first, index) in
          (step, subst (λ (l : List Step). At l t.place step) (sym handled) (subst (λ (p : ℕ). At (c.lists.handled ++ step ∷ []) p step) (sym (ap (λ (z : Told). z.place) r.2)) (At-last c.lists.handled step)), sent_is ∙ at_i)
    ];
  }

-- ---- a step of a server's end

created-own : (w new : World) (k : ℕ) (j : Joined) (y : ServerSide) (f : StepHandles w k j y new) → At w.circuits k j → At w.servers j.server y → j.lists.server_open ≡ true → TakesSent w → ChannelsOn f.e j → CreationsOn j → CreatedOn j → (d : Joined) → At new.circuits k d
    → CreatedOn d
created-own w new k j y f on at opened takes channels noted_on h d at_d =
    let next = f.steps.0 in
    let sent = takes k j y f.e next.m next.rest on at opened f.has next.takes in
    created-handled j d (knows y.core taken) sent.0 next.replies did step sent.1 (subst (λ (m : Fields). Due (knows y.core taken) m next.replies did) (sym sent.2) next.handles.due)
    (fresh sent.0) (taken_by sent.0) refl opened (ap (λ (z : Joined). z.lists.up) d_is ∙ lists.0) (ap (λ (z : Joined). z.lists.down) d_is ∙ ap (λ (l : List Told). l ++ about place Reply next.replies) lists.1) (ap (λ (z : Joined). z.lists.handled) d_is ∙ ap (λ (l : List Step). l ++ step ∷ []) lists.2)
    (λ o. ap (λ (z : Joined). z.creations) d_is ∙ (last_on.opened (ap (λ (z : Joined). z.lists.server_open) (sym d_is) ∙ o)).1 ∙ (written-parts j.server y.core did numbers).0) h
  where
    place : ℕ
    place = length j.lists.handled

    did : Action
    did = (f.steps.0).action

    taken : ServerEnd
    taken = record f.e { link = with_rest (f.steps.0).rest f.e.link }

    mid : World
    mid = server.acted k j y did w

    after : World
    after = server_after j.server (side_of j.server y mid) (ends_by j.server f.core) f.core mid

    step : Step
    step = record { sent = length j.lists.down; logged = server.logged y w; after = server.logged y after }

    numbers : Joined
    numbers = numbers_after place did j

    moved : Joined
    moved = write_numbers j.server y.core did numbers

    last : Joined
    last = ending (ends_by j.server f.core) moved

    ended : (ends : Joined → Option (List ℕ)) (c : Joined) → ((ending ends c).lists.up ≡ c.lists.up) × ((ending ends c).lists.down ≡ c.lists.down) × ((ending ends c).lists.handled ≡ c.lists.handled)
    ended ends c = go (ends c)
      where
        go : (o : Option (List ℕ)) → ((unwrap_or (option_map (λ (left : List ℕ). server.server_closed left c) o) c).lists.up ≡ c.lists.up) × ((unwrap_or (option_map (λ (left : List ℕ). server.server_closed left c) o) c).lists.down ≡ c.lists.down) × ((unwrap_or (option_map (λ (left : List ℕ). server.server_closed left c) o) c).lists.handled ≡ c.lists.handled)
        go None = (refl, refl, refl)
        go (Some left) = (refl, refl, refl)

    same : moved.lists ≡ j.lists
    same = (writes-like j.server y.core did numbers).0 ∙ (numbers-like place did j).0

    lists : (last.lists.up ≡ j.lists.up) × (last.lists.down ≡ j.lists.down) × (last.lists.handled ≡ j.lists.handled)
    lists = (let e = ended (ends_by j.server f.core) moved in (e.0 ∙ ap (λ (z : Circuit). z.up) same, e.1 ∙ ap (λ (z : Circuit). z.down) same, e.2 ∙ ap (λ (z : Circuit). z.handled) same))

    last_on : KeepsOn moved last
    last_on = on-ending (ends_by j.server f.core) moved

    d_is : d ≡ handled_at place step (f.steps.0).replies last
    d_is =
        let there : At after.circuits k last =
        At-map (ending (ends_by j.server f.core)) mid.circuits k moved
        (At-map (write_numbers j.server y.core did) (slice_set w.circuits k numbers) k numbers (set-here w.circuits k j numbers on)) in
        let noted : Joined = handled_at place step (f.steps.0).replies last in
        let new_is : new ≡ with_circuit k noted after = f.leaves ∙ ap (λ (o : Option Joined). unwrap_or (option_map (λ (c : Joined). with_circuit k (handled_at place step (f.steps.0).replies c) after) o) after) there in
        At-one (slice_set after.circuits k noted) k d noted (subst (λ (v : World). At v.circuits k d) new_is at_d) (set-here after.circuits k last noted there)

    -- the CID is that of no channel that is open
    taken_by : (s : Sent) → (made : IsCreated (knows y.core taken) s.message (f.steps.0).replies did) (x : Creation) → In j.creations x → (q : Sent) → At j.lists.up x.place q → q.message.p1 ≡ s.message.p1 → ⊥
    taken_by s made x there q at_q same_cid =
        let r = channels.stale x there in
        let o = channels.opens r.0 r.1 r.2 in
        let g = find-at (has_sid (wire_of r.0)) j.creations o.0 o.1 in
        let one : o.0 ≡ x = noted_on.one o.0 x (g.0, g.1) there (eqb-true o.0.sid (wire_of r.0) g.2 ∙ r.3) in
        let sends : o.2.0 ≡ q = At-one j.lists.up x.place o.2.0 q (subst (λ (z : Creation). At j.lists.up z.place o.2.0) one o.2.1) at_q in
        let u = under-held f.e.channels r.0 r.1 r.2 in
        made.cid_free (known_channel (r.0, r.1), (u.0, At-map known_channel (held f.e.channels) u.0 (r.0, r.1) u.1), sym o.2.2 ∙ ap (λ (z : Sent). z.message.p1) sends ∙ same_cid)

    -- the SID is that of no channel that is open
    fresh : (s : Sent) → (made : IsCreated (knows y.core taken) s.message (f.steps.0).replies did) (x : Creation) → In j.creations x → x.sid % arena_slots ≡ made.sid % arena_slots → ⊥
    fresh s made x there one =
        let r = channels.stale x there in
        let u = under-held f.e.channels r.0 r.1 r.2 in
        made.sid_free (known_channel (r.0, r.1)) (u.0, At-map known_channel (held f.e.channels) u.0 (r.0, r.1) u.1) (ap (λ (n : ℕ). n % arena_slots) r.3 ∙ one)

step-created : (w new : World) (k : ℕ) → TakesSent w → AllChannels w → AllCreations w → Happens w (event.ServerStep k) new → AllCreated w → AllCreated new
step-created w new k takes channels creations (at, (did, f)) all = elim (handled-or did) [
  | inl is ↦ done (subst (λ (x : Stepped). ServerStepped w k at.j at.y x new) is f)
  | inr not ↦ (λ l d at_d. (let c = unhandled-back w new k at.j at.y did at.joins.at not f l d at_d in keeps-created c.0 d c.2 (all l c.0 c.1)))
]
  where
    handled-or : (did : Stepped) → (did ≡ stepped.Handled) ⊎ (did ≡ stepped.Handled → ⊥)
    handled-or stepped.Handled = inl refl
    handled-or stepped.NeedBytes = inr (λ e. cc)
    handled-or stepped.OutputFull = inr (λ e. cc)
    handled-or (stepped.Closed cause left) = inr (λ e. cc)

    done : StepHandles w k at.j at.y new → AllCreated new
    done h l d at_d = elim (same-or l k) [
      | inr other ↦ (let c = step-beside w new k at.j at.y h l d other at_d in keeps-created c.0 d c.2 (all l c.0 c.1))
      | inl own ↦
          created-own w new k at.j at.y h at.joins.at at.joins.server at.is_open takes (channels k at.j at.y h.e at.joins.at at.joins.server at.is_open h.has) (creations k at.j at.y h.e at.joins.at at.joins.server at.is_open h.has) (all k at.j at.joins.at) d
          (subst (λ (m : ℕ). At new.circuits m d) own at_d)
    ]

-- ---- every event

pub back-created : (w new : World) → Back w new → AllCreated w → AllCreated new
back-created w new back all l d at = (let c = back l d at in keeps-created c.0 d c.2 (all l c.0 c.1))

-- a circuit on which nothing was told
created-new : (c : Joined) → c.lists.down ≡ [] → CreatedOn c
created-new c none = record {
  about = λ i sid t at. absurd (nothing i t at);
  once = λ i j sid other t u at. absurd (nothing i t at);
  apart = λ i j sid other t u lt at. absurd (nothing i t at);
  noted = λ i sid t opened at. absurd (nothing i t at);
  prompt = λ i sid l t g at. absurd (nothing i t at);
  copies = λ i sid t q at. absurd (nothing i t at);
  owned = λ i j sid other t u lt at. absurd (nothing i t at);
  confirms = λ i t at. absurd (nothing i t at);
  refuses = λ i t at. absurd (nothing i t at);
}
  where
    nothing : (i : ℕ) (t : Told) → At c.lists.down i t → ⊥
    nothing i t at = none_at i t (subst (λ (l : List Told). At l i t) none at)

accept-created : (w new : World) (i : ℕ) (x : ClientSide) (v : WantsFirst w x) → HappensAccept w i x v new → AllCreated w → AllCreated new
accept-created w new i x v f all = elim f.leaves [
  | inl full ↦ subst (λ (z : World). AllCreated z) (sym full.1) all
  | inr made ↦
      let c : Joined = connected_as made.1 (new_circuit i x v.v.circuit v.i v.y made.0) in
      let mid : World = record w { servers = slice_set w.servers v.i (record v.y { core = f.server }); circuits = w.circuits ++ c ∷ [] } in
      let g : Frame mid new = sent-frame mid new i x.names made.2 (ap (λ (z : World). z.servers) made.6) (ap (λ (z : World). z.server_logs) made.6) (ap (λ (z : World). z.circuits) made.6) in
      back-created mid new (back-frame mid new g) (λ l d on. elim (At-snoc w.circuits c l d on) [
        | inl old ↦ all l d old
        | inr last ↦ subst (λ (z : Joined). CreatedOn z) (sym last.1) (created-new c (nothing made.1 made.0))
      ])
]
  where
    nothing : (o : Option Closing) (g : Handle) → (connected_as o (new_circuit i x v.v.circuit v.i v.y g)).lists.down ≡ []
    nothing None g = refl
    nothing (Some k) g = refl

pub event-created : (s : Setting) (w new : World) (e : Event) → ServersStand s w → AllCreations w → Happens w e new → AllCreated w → AllCreated new
event-created s w new (event.Accept i) h there happens all = accept-created w new i happens.0.x happens.0.v happens.1 all
event-created s w new (event.ServerStep k) h there happens all = step-created w new k (takes-next s w h) h.channels there happens all
event-created s w new (event.Open i name priority) h there happens all = back-created w new (event-back w new (event.Open i name priority) tt h.in_step happens) all
event-created s w new (event.Clear i c) h there happens all = back-created w new (event-back w new (event.Clear i c) tt h.in_step happens) all
event-created s w new (event.Read i c data_type count) h there happens all = back-created w new (event-back w new (event.Read i c data_type count) tt h.in_step happens) all
event-created s w new (event.Write i c e) h there happens all = back-created w new (event-back w new (event.Write i c e) tt h.in_step happens) all
event-created s w new (event.WriteNotify i c e) h there happens all = back-created w new (event-back w new (event.WriteNotify i c e) tt h.in_step happens) all
event-created s w new (event.Subscribe i c data_type count mask) h there happens all = back-created w new (event-back w new (event.Subscribe i c data_type count mask) tt h.in_step happens) all
event-created s w new (event.Unsubscribe i n) h there happens all = back-created w new (event-back w new (event.Unsubscribe i n) tt h.in_step happens) all
event-created s w new (event.Collect i r) h there happens all = back-created w new (event-back w new (event.Collect i r) tt h.in_step happens) all
event-created s w new (event.GiveUp i r) h there happens all = back-created w new (event-back w new (event.GiveUp i r) tt h.in_step happens) all
event-created s w new (event.ClientDatagram i from bytes) h there happens all = back-created w new (event-back w new (event.ClientDatagram i from bytes) tt h.in_step happens) all
event-created s w new (event.ServerDatagram i from bytes) h there happens all = back-created w new (event-back w new (event.ServerDatagram i from bytes) tt h.in_step happens) all
event-created s w new (event.Up k n) h there happens all = back-created w new (event-back w new (event.Up k n) tt h.in_step happens) all
event-created s w new (event.Down k n) h there happens all = back-created w new (event-back w new (event.Down k n) tt h.in_step happens) all
event-created s w new (event.ClientStep k) h there happens all = back-created w new (event-back w new (event.ClientStep k) tt h.in_step happens) all
event-created s w new (event.Pump k) h there happens all = back-created w new (event-back w new (event.Pump k) tt h.in_step happens) all
event-created s w new (event.CutClient k) h there happens all = back-created w new (event-back w new (event.CutClient k) tt h.in_step happens) all
event-created s w new (event.CutServer k) h there happens all = back-created w new (event-back w new (event.CutServer k) tt h.in_step happens) all
event-created s w new (event.ClientRestart i) h there happens all = back-created w new (event-back w new (event.ClientRestart i) tt h.in_step happens) all
event-created s w new (event.ServerRestart i) h there happens all = back-created w new (event-back w new (event.ServerRestart i) tt h.in_step happens) all
event-created s w new (event.Post i name e mask) h there happens all = back-created w new (event-back w new (event.Post i name e mask) tt h.in_step happens) all
event-created s w new (event.Finish i name) h there happens all = back-created w new (event-back w new (event.Finish i name) tt h.in_step happens) all
event-created s w new (event.Remove i name) h there happens all = back-created w new (event-back w new (event.Remove i name) tt h.in_step happens) all
event-created s w new (event.Add i r) h there happens all = back-created w new (event-back w new (event.Add i r) tt h.in_step happens) all
event-created s w new (event.Tick moment) h there happens all = back-created w new (event-back w new (event.Tick moment) tt h.in_step happens) all

events-created : (s : Setting) (es : List Event) (w new : World) → IsSetting s → FoldsTo Happens w es new → ServersStand s w → AllEnds HasCreations w → AllCreated w → AllCreated new
events-created s [] w new ok same h ends all = subst (λ (z : World). AllCreated z) same all
events-created s (e ∷ es) w new ok (mid, one, rest) h ends all =
    events-created s es mid new ok rest (event-serves s w mid e ok one h) (event-lasts HasCreations creations-lasting creations-begun creations-handled s w mid e (takes-next s w h) one h.stands.sound ends)
    (event-created s w mid e h (λ n c y f at there opened has. (ends n c y f at there opened has).1) one all)

stops-created : (mid : World) (stopped : Option Event) (w : World) → StopsAt mid stopped w → AllCreated mid → AllCreated w
stops-created mid (Some (event.Tick moment)) w stops all = elim stops [
  | inl same ↦ subst (λ (z : World). AllCreated z) (sym same) all
  | inr ticked ↦ back-created mid w (back-frame mid w (ticks-frame moment mid (clients_below ticked.0) w ticked.3)) all
]
stops-created mid stopped w stops all = subst (λ (z : World). AllCreated z) (sym stops) all

pub opening-created : (s : Setting) → AllCreated (opening s)
opening-created s n c at = absurd (none_at n c at)

pub reached-created : (w : World) → IsReached w → AllCreated w
reached-created w (s, es, stopped, ok, runs) = stops-created runs.0 stopped w runs.2 (events-created s es (opening s) runs.0 ok runs.1 (opening-serves s ok) (opening-lasts HasCreations creations-lasting s) (opening-created s))
