-- Over every event and run no two SERVER_DISCONNs are about one channel: it is
-- retired with the first.
use Rattle.std.proofs.Common.{◌≡◌, ℕ, zero, suc, ◌+◌, ◌<◌, ◌≤◌, ◌⊎◌, inl, inr, Bool, true, false, cond, ◌&&◌, ◌||◌, eqb, eqb-true, not, List, [], ◌∷◌, ◌++◌, length, Option, Some, None, refl, sym, ap, subst, ◌∙◌, arith}
use Rattle.std.specs.Prelude.{filter, map, option_map, slice_get, slice_set, unwrap_or}
use Rattle.std.specs.List.{FoldsTo, fold, list_any}
use Rattle.std.specs.Str.{bytes_eq}
use Rattle.ca_arena.specs.declared.handle.Handle.{Handle}
use Rattle.ca_ids.specs.Table.{Table, by_wire, held, under, with_freed, with_held}
use Rattle.ca_ids.specs.Wire.{wire_of}
use Rattle.ca_model.proofs.Tables.{AreApart, freed-back, given-fresh, held-apart, held-back, held-under, one-by-wire, one-value}
use Rattle.ca_queue.specs.declared.entry.SubKey.{SubKey}
use Rattle.ca_text.specs.Place.{At}
use Rattle.ca_text.proofs.Places.{some_is, At-mapped, At-one, At-parts, At-set, At-snoc}
use Rattle.ca_wire.specs.Fields.{Fields}
use Rattle.ca_model.specs.Answers.{Closing}
use Rattle.ca_model.specs.Due.{Action, Adds, Applies, Clears, Drops, KnownChannel, Opens, Switches}
use Rattle.ca_model.specs.Due as action
use Rattle.ca_model.specs.History.{Circuit, Removal, Reply, Step, Told}
use Rattle.ca_model.specs.Server.{Open, OpenChannel, Server, ServerCircuit, ServerEnd, concerns, key_of}
use Rattle.ca_model.specs.ServerCalls.{channels_of, end_without, retired}
use Rattle.ca_model.specs.ServerSteps.{Acts, HasEnd, Leaves, Stepped, Update, without_channel}
use Rattle.ca_model.specs.Speech.{In}
use Rattle.ca_model.specs.ClientEvents.{HappensAccept, WantsFirst, connected_as, new_circuit}
use Rattle.ca_model.specs.Events.{Event}
use Rattle.ca_model.specs.Events as event
use Rattle.ca_model.specs.Runs.{Happens, Runs, StopsAt, clients_below}
use Rattle.ca_model.specs.ServerEvents.{HappensRemove, ServerStepped, StepHandles, about, acted, disconnected_at, ending, ends_by, handled_at, numbers_after, removal_told, removed_at, server_after, server_closed, side_of, stamped, with_number, without_standing}
use Rattle.ca_model.specs.ServerEvents as server
use Rattle.ca_model.specs.World.{ClientSide, Creation, IsSetting, Joined, ServerSide, Setting, World, circuit_of, opening, with_circuit}
use Rattle.ca_laws_parts.specs.Channels.{ChannelsOn}
use Rattle.ca_laws_parts.specs.Later.{stamped_told}
use Rattle.ca_laws_parts.specs.Messages.{Messages}
use Rattle.ca_laws_parts.specs.Numbers.{HaveNumbers}
use Rattle.ca_laws_parts.proofs.Channels.{channels-begun, channels-handled, channels-lasting, each-back}
use Rattle.ca_laws_parts.proofs.Messages.{messages-begun, messages-kept, messages-lasting}
use Rattle.ca_laws_parts.proofs.KeptNumbers.{numbers-begun, numbers-kept, numbers-lasting}
use Rattle.ca_laws_parts.proofs.Puts.{In-parts}
use Rattle.ca_laws_parts.proofs.Since.{stamped-parts}
use Rattle.ca_laws_parts.specs.Moves as moves
use Rattle.ca_laws_parts.proofs.Every.{ticks-frame}
use Rattle.ca_laws_parts.proofs.Frames.{Frame}
use Rattle.ca_laws_parts.proofs.HappensClient.{sent-frame}
use Rattle.ca_laws_parts.proofs.Lasting.{AllEnds, Begins, Handled, Lasting, told_gone}
use Rattle.ca_laws_parts.proofs.LastingAll.{event-lasts, opening-lasts}
use Rattle.ca_laws_parts.proofs.WritesLists.{In-kept, In-snoc, length-more, none_at}
use Rattle.ca_laws_runs.specs.Causes.{AllRemovedOnce, AreRemovedOnce, ChannelsAreRemovedOnce}
use Rattle.ca_laws_runs.specs.Worlds.{ServersStand}
use Rattle.ca_laws_runs.proofs.StepWhole.{event-serves, opening-serves, takes-next}
use Rattle.ca_laws_runs.proofs.CauseGrows.{Back, Removes, acted-back, back-after, disconnect-is, no-removal, stamped-is, stamps-update, unhandled-back}
use Rattle.ca_laws_runs.proofs.CauseKeeps.{event-or, handled-or}
use Rattle.ca_laws_runs.proofs.OrderKeeps.{run-server-steps}

-- ---- an end that is open

-- Each SERVER_DISCONN is about what was handled; no two channels that are noted were created by one
-- message; and a channel is retired about which one was sent.
pub record OnceOn (e : ServerEnd) (c : Joined) : Type 0 where
  pub below : (t : Told) → In c.lists.down t → t.cause ≡ Removal → t.place < length c.lists.handled
  pub one : (x z : Creation) → In c.creations x → In c.creations z → x.place ≡ z.place → x.sid ≡ z.sid
  pub retired : (t : Told) (x : Creation) (h : Handle) (ch : OpenChannel) → In c.lists.down t → t.cause ≡ Removal → In c.creations x → x.place ≡ t.place → under e.channels h ≡ Some ch
      → wire_of h ≡ x.sid → ch.retired ≡ true

abbrev pub RemovedOn : ℕ → ServerEnd → Joined → Type 0
RemovedOn n e c = ChannelsOn e c × Messages c × HaveNumbers c.standing c.queues × OnceOn e c

once-same : (e f : ServerEnd) (c d : Joined) → f.channels ≡ e.channels → d.creations ≡ c.creations → ((t : Told) → In d.lists.down t → t.cause ≡ Removal → In c.lists.down t) → length c.lists.handled ≤ length d.lists.handled → OnceOn e c → OnceOn f d
once-same e f c d table creations back more h = record {
  below = λ t at removal. (let lt : t.place < length c.lists.handled = h.below t (back t at removal) removal in omega (arith, lt, more));
  one = λ x z a b same. h.one x z (subst (λ (l : List Creation). In l x) creations a) (subst (λ (l : List Creation). In l z) creations b) same;
  retired = λ t x g ch at removal there same has wire.
      h.retired t x g ch (back t at removal) removal (subst (λ (l : List Creation). In l x) creations there) same (subst (λ (l : Table OpenChannel). under l g ≡ Some ch) table has) wire;
}

numbered-parts : (c : Joined) (keys : List SubKey) → ((fold with_number c keys).creations ≡ c.creations) × ((fold with_number c keys).lists ≡ c.lists)
numbered-parts c [] = (refl, refl)
numbered-parts c (k ∷ keys) = numbered-parts (with_number c k) keys

leaves-channels : (us : List Update) (e after : ServerEnd) → FoldsTo Leaves e us after → after.channels ≡ e.channels
leaves-channels [] e after same = ap (λ (x : ServerEnd). x.channels) (sym same)
leaves-channels (u ∷ us) e after (mid, one, rest) = leaves-channels us mid after rest ∙ ap (λ (x : ServerEnd). x.channels) one.leaves

-- replies are no SERVER_DISCONNs
replies-none : (place : ℕ) (ms : List Fields) (t : Told) → In (about place Reply ms) t → t.cause ≡ Removal → ⊥
replies-none place ms t there removal =
    let r = At-mapped (λ (q : Fields). let z : Told = record { message = q; place = place; cause = Reply } in z) ms there.0 t there.1 in
    no-removal (ap (λ (z : Told). z.cause) (sym r.2) ∙ removal)

told-before : (down more : List Told) → ((t : Told) → In more t → t.cause ≡ Removal → ⊥) → (t : Told) → In (down ++ more) t → t.cause ≡ Removal → In down t
told-before down more none t at removal = elim (In-parts down more t at) [ inl old ↦ old | inr new_it ↦ absurd (none t new_it removal) ]

or-left : (a b : Bool) → a ≡ true → a || b ≡ true
or-left true b e = refl
or-left false b e = absurd cc

or-right : (a b : Bool) → b ≡ true → a || b ≡ true
or-right true b e = refl
or-right false b e = e

pub and-both : (a b : Bool) → a && b ≡ true → (a ≡ true) × (b ≡ true)
and-both true b e = (refl, e)
and-both false b e = absurd cc

-- a channel that is told of as its record is removed
pub told-parts : (name : List ℕ) (e : ServerEnd) (i : ℕ) (p : Handle × OpenChannel) → At (channels_of name e) i p → (under e.channels p.0 ≡ Some p.1) × (bytes_eq p.1.name name ≡ true) × (not p.1.retired ≡ true)
told-parts name e i p at =
    let k = In-kept (λ (z : Handle × OpenChannel). bytes_eq z.1.name name && not z.1.retired) (held e.channels) p (i, at) in
    let b = and-both (bytes_eq p.1.name name) (not p.1.retired) k.1 in
    (held-under e.channels k.0.0 p k.0.1, b.0, b.1)

-- and its creation
told-about : (name : List ℕ) (e : ServerEnd) (c : Joined) → ChannelsOn e c → (t : Told) → In (map (removal_told c.creations) (channels_of name e)) t
    → (p : Handle × OpenChannel) × (x : Creation) × (under e.channels p.0 ≡ Some p.1) × (bytes_eq p.1.name name ≡ true) × In c.creations x × (x.sid ≡ wire_of p.0) × (t.place ≡ x.place)
told-about name e c channels t there =
    let p = At-mapped (removal_told c.creations) (channels_of name e) there.0 t there.1 in
    let k = told-parts name e there.0 p.0 p.1 in
    let x = disconnect-is name (λ h. false) (λ h. 0) e c channels there.0 p.0 p.1 in
    (p.0, x.1, k.0, k.1, x.2, x.3, ap (λ (z : Told). z.place) p.2 ∙ x.4)

once-removed : (name : List ℕ) (e : ServerEnd) (c : Joined) → ChannelsOn e c → Messages c → OnceOn e c → OnceOn (end_without name e) (told_gone (channels_of name e) c)
once-removed name e c channels m h = record {
  below = λ t at removal. elim (In-parts c.lists.down (map (removal_told c.creations) (channels_of name e)) t at) [
    | inl old ↦ h.below t old removal
    | inr new_it ↦ (let p = told-about name e c channels t new_it in subst (λ (q : ℕ). q < length c.lists.handled) (sym p.6) (m.channels p.1 p.4).3)
  ];
  one = h.one;
  retired = λ t x g ch at removal there same has wire.
      let u = each-back (retired name) e.channels g ch has in
      ap (λ (z : OpenChannel). z.retired) u.2
      ∙ elim (In-parts c.lists.down (map (removal_told c.creations) (channels_of name e)) t at) [
        | inl old ↦ or-left u.0.retired (bytes_eq u.0.name name) (h.retired t x g u.0 old removal there same u.1 wire)
        | inr new_it ↦
            let p = told-about name e c channels t new_it in
            let sids : x.sid ≡ p.1.sid = h.one x p.1 there p.4 (same ∙ p.6) in
            let handles : g ≡ p.0.0 = one-by-wire e.channels g p.0.0 u.0 p.0.1 channels.few u.1 p.2 (wire ∙ sids ∙ p.5) in
            let value : u.0 ≡ p.0.1 = one-value e.channels p.0.0 u.0 p.0.1 (subst (λ (q : Handle). under e.channels q ≡ Some u.0) handles u.1) p.2 in
            or-right u.0.retired (bytes_eq u.0.name name) (ap (λ (z : OpenChannel). bytes_eq z.name name) value ∙ p.3)
      ];
}

-- ---- a message is handled

once-handled : (y : Server) (e new : ServerEnd) (replies : List Fields) (did : Action) (step : Step) (c : Joined) → Acts y e did new → ChannelsOn e c → Messages c → OnceOn e c → OnceOn new (handled_at (length c.lists.handled) step replies (numbers_after (length c.lists.handled) did c))
once-handled y e new replies did step c acts channels m h = go did acts
  where
    place : ℕ
    place = length c.lists.handled

    none : (t : Told) → In (about place Reply replies) t → t.cause ≡ Removal → ⊥
    none = replies-none place replies

    before : (t : Told) → In (c.lists.down ++ about place Reply replies) t → t.cause ≡ Removal → In c.lists.down t
    before = told-before c.lists.down (about place Reply replies) none

    more : length (c.lists.handled ++ step ∷ []) ≡ place + 1
    more = length-more c.lists.handled step

    longer : length c.lists.handled ≤ length (c.lists.handled ++ step ∷ [])
    longer = omega (arith, more)

    opened : (ch : KnownChannel) → Acts y e (Opens ch) new → OnceOn new (handled_at place step replies (numbers_after place (Opens ch) c))
    opened ch (g, may, wired, is) =
        let z : Creation = record { sid = ch.sid; place = place } in
        let v : OpenChannel = record { cid = ch.cid; name = ch.name; retired = false } in
        let table : new.channels ≡ with_held g v e.channels = ap (λ (x : ServerEnd). x.channels) is in
        record {
          below = λ t at removal. (let lt : t.place < place = h.below t (before t at removal) removal in omega (arith, lt, longer));
          one = λ x q a b same. elim (In-snoc c.creations z x a) [
            | inl oldx ↦ elim (In-snoc c.creations z q b) [
              | inl oldq ↦ h.one x q oldx oldq same
              | inr newq ↦ absurd (let lt : x.place < place = (m.channels x oldx).3 in let is_q : q.place ≡ place = ap (λ (k : Creation). k.place) newq in omega (arith, lt, is_q, same))
            ]
            | inr newx ↦ elim (In-snoc c.creations z q b) [
              | inl oldq ↦ absurd (let lt : q.place < place = (m.channels q oldq).3 in let is_x : x.place ≡ place = ap (λ (k : Creation). k.place) newx in omega (arith, lt, is_x, same))
              | inr newq ↦ ap (λ (k : Creation). k.sid) (newx ∙ sym newq)
            ]
          ];
          retired = λ t x k w at removal there same has wire. elim (In-snoc c.creations z x there) [
            | inr newx ↦ absurd (let lt : t.place < place = h.below t (before t at removal) removal in let is_x : x.place ≡ place = ap (λ (q : Creation). q.place) newx in omega (arith, lt, is_x, same))
            | inl oldx ↦ elim (held-back e.channels k g v w (subst (λ (l : Table OpenChannel). under l k ≡ Some w) table has)) [
              | inl own ↦ (let r = channels.stale x oldx in absurd (given-fresh e.channels r.0 g r.1 channels.few may r.2 (r.3 ∙ sym wire ∙ ap wire_of own.0)))
              | inr old ↦ h.retired t x k w (before t at removal) removal oldx same old wire
            ]
          ];
        }

    cleared : (sid : ℕ) → OnceOn (without_channel sid e) (handled_at place step replies (numbers_after place (Clears sid) c))
    cleared sid =
        let keep : Creation → Bool = λ (x : Creation). not (eqb x.sid sid) in
        record {
          below = λ t at removal. (let lt : t.place < place = h.below t (before t at removal) removal in omega (arith, lt, longer));
          one = λ x q a b same. h.one x q (In-kept keep c.creations x a).0 (In-kept keep c.creations q b).0 same;
          retired = λ t x k w at removal there same has wire. h.retired t x k w (before t at removal) removal (In-kept keep c.creations x there).0 same (was k w (by_wire e.channels sid) has) wire;
        }
      where
        was : (k : Handle) (w : OpenChannel) (o : Option (Handle × OpenChannel)) → under (unwrap_or (option_map (λ (q : Handle × OpenChannel). with_freed q.0 e.channels) o) e.channels) k ≡ Some w → under e.channels k ≡ Some w
        was k w None has = has
        was k w (Some q) has = (freed-back e.channels k q.0 w has).1

    go : (did : Action) → Acts y e did new → OnceOn new (handled_at place step replies (numbers_after place did c))
    go (Opens ch) a = opened ch a
    go (Clears sid) a = subst (λ (x : ServerEnd). OnceOn x (handled_at place step replies (numbers_after place (Clears sid) c))) (sym a) (cleared sid)
    go (Adds sub) a = once-same e new c (handled_at place step replies (numbers_after place (Adds sub) c)) (ap (λ (x : ServerEnd). x.channels) a.2.leaves) refl before longer h
    go (Drops key) a = once-same e new c (handled_at place step replies (numbers_after place (Drops key) c)) (ap (λ (x : ServerEnd). x.channels) a) refl before longer h
    go (Switches on) a = once-same e new c (handled_at place step replies (numbers_after place (Switches on) c)) (ap (λ (x : ServerEnd). x.channels) a) refl before longer h
    go action.Greets a = once-same e new c (handled_at place step replies (numbers_after place action.Greets c)) (ap (λ (x : ServerEnd). x.channels) a) refl before longer h
    go (action.Names p) a = once-same e new c (handled_at place step replies (numbers_after place (action.Names p) c)) (ap (λ (x : ServerEnd). x.channels) a) refl before longer h
    go action.Nothing a = once-same e new c (handled_at place step replies (numbers_after place action.Nothing c)) (ap (λ (x : ServerEnd). x.channels) a) refl before longer h
    go (Applies name value busies) a = once-same e new c (handled_at place step replies (numbers_after place (Applies name value busies) c)) (ap (λ (x : ServerEnd). x.channels) a) refl before longer h
    go (action.Waits name value) a = once-same e new c (handled_at place step replies (numbers_after place (action.Waits name value) c)) (ap (λ (x : ServerEnd). x.channels) a) refl before longer h

pub removed-handled : Handled RemovedOn
removed-handled n y e new s replies did step c at due acts p = (
  channels-handled n y e new s replies did step c at due acts p.0,
  messages-kept n y e new s replies did step c at due acts p.1,
  numbers-kept n y e new s replies did step c at due acts p.2,
  once-handled y e new replies did step c acts p.0 p.1 p.3,
)

pub removed-lasting : Lasting RemovedOn
removed-lasting = record {
  stays = λ n e f c d held goes p. (
    channels-lasting.stays n e f c d held goes p.0,
    messages-lasting.stays n e f c d held goes p.1,
    numbers-lasting.stays n e f c d held goes p.2,
    once-same e f c d held.channels goes.creations (λ t at removal. subst (λ (l : List Told). In l t) goes.down at) (let s : length d.lists.handled ≡ length c.lists.handled = ap (λ (l : List Step). length l) goes.handled in omega (arith, s)) p.3,
  );
  posted = λ n name mask v e c p.
      let q = numbered-parts c (map key_of (filter (concerns name mask) e.subscriptions)) in (
        channels-lasting.posted n name mask v e c p.0,
        messages-lasting.posted n name mask v e c p.1,
        numbers-lasting.posted n name mask v e c p.2,
        once-same e _ c _ refl q.0 (λ t at removal. subst (λ (l : Circuit). In l.down t) q.1 at) (let s : length (fold with_number c (map key_of (filter (concerns name mask) e.subscriptions))).lists.handled ≡ length c.lists.handled = ap (λ (l : Circuit). length l.handled) q.1 in omega (arith, s)) p.3,
      );
  removed = λ n name e c p. (
    channels-lasting.removed n name e c p.0,
    messages-lasting.removed n name e c p.1,
    numbers-lasting.removed n name e c p.2,
    once-removed name e c p.0 p.1 p.3,
  );
  pumped = λ n us e after c folds p.
      let q = stamped-parts us c in (
        channels-lasting.pumped n us e after c folds p.0,
        messages-lasting.pumped n us e after c folds p.1,
        numbers-lasting.pumped n us e after c folds p.2,
        once-same e after c (stamped us c) (leaves-channels us e after folds) q.3
            (λ t at removal. told-before c.lists.down (stamped_told us c) (stamps-update us c.standing c p.2) t (subst (λ (l : Circuit). In l.down t) (stamped-is us c) at) removal)
            (let s : length (stamped us c).lists.handled ≡ length c.lists.handled = ap (λ (l : List Step). length l) q.1 in omega (arith, s)) p.3,
      );
  replied = λ n e c place ms p. (
    channels-lasting.replied n e c place ms p.0,
    messages-lasting.replied n e c place ms p.1,
    numbers-lasting.replied n e c place ms p.2,
    once-same e e c _ refl refl (told-before c.lists.down (about place Reply ms) (replies-none place ms)) (omega arith) p.3,
  );
}

pub removed-begun : (w : World) → Begins RemovedOn w
removed-begun w n moment c more new = (
  channels-begun w n moment c more new,
  messages-begun w n moment c more new,
  numbers-begun w n moment c more new,
  record {
    below = λ t at. absurd (none_at at.0 t (subst (λ (l : List Told). At l at.0 t) new.down at.1));
    one = λ x z at. absurd (none_at at.0 x (subst (λ (l : List Creation). At l at.0 x) new.creations at.1));
    retired = λ t x h ch at. absurd (none_at at.0 t (subst (λ (l : List Told). At l at.0 t) new.down at.1));
  },
)

-- ---- lists that are apart

pub apart-kept : (p : Handle × OpenChannel → Bool) (xs : List (Handle × OpenChannel)) → AreApart xs → AreApart (filter p xs)
apart-kept p [] a = tt
apart-kept p (x ∷ xs) (none, rest) = go (p x) (apart-kept p xs rest)
  where
    go : (b : Bool) → AreApart (filter p xs) → AreApart (cond b (x ∷ filter p xs) (filter p xs))
    go true more = ((λ i f at same. (let k = In-kept p xs f (i, at) in none k.0.0 f k.0.1 same)), more)
    go false more = more

pub apart-at : (xs : List (Handle × OpenChannel)) → AreApart xs → (i j : ℕ) (a b : Handle × OpenChannel) → At xs i a → At xs j b → a.0 ≡ b.0 → i ≡ j
apart-at [] apart i j a b at on same = absurd (none_at i a at)
apart-at (x ∷ xs) (none, rest) zero zero a b at on same = refl
apart-at (x ∷ xs) (none, rest) zero (suc j) a b at on same = absurd (none j b on (sym same ∙ ap (λ (z : Handle × OpenChannel). z.0) (sym (some_is x a at))))
apart-at (x ∷ xs) (none, rest) (suc i) zero a b at on same = absurd (none i a at (same ∙ ap (λ (z : Handle × OpenChannel). z.0) (sym (some_is x b on))))
apart-at (x ∷ xs) (none, rest) (suc i) (suc j) a b at on same = ap (λ (n : ℕ). suc n) (apart-at xs rest i j a b at on same)

-- ---- a removal

pub not-both : (b : Bool) → b ≡ true → not b ≡ true → ⊥
not-both true e f = absurd cc
not-both false e f = absurd cc

pub ended-down : (ends : Joined → Option (List ℕ)) (c : Joined) → (ending ends c).lists.down ≡ c.lists.down
ended-down ends c = go (ends c)
  where
    go : (o : Option (List ℕ)) → (unwrap_or (option_map (λ (left : List ℕ). server_closed left c) o) c).lists.down ≡ c.lists.down
    go None = refl
    go (Some left) = refl

-- a message that tells of the removal is of a channel, and about its creation
pub record ToldOf (name : List ℕ) (e : ServerEnd) (c : Joined) (k : ℕ) (v : Told) : Type 0 where
  pub p : Handle × OpenChannel
  pub is : v ≡ removal_told c.creations p
  pub at : At (channels_of name e) k p
  pub x : Creation
  pub there : In c.creations x
  pub sid : x.sid ≡ wire_of p.0
  pub place : v.place ≡ x.place

pub told-as : (name : List ℕ) (gone : Handle → Bool) (left : Handle → ℕ) (e : ServerEnd) (c : Joined) → ChannelsOn e c → (k : ℕ) (v : Told) → At (map (removal_told c.creations) (disconnected_at name gone left c.at_server (Some (Open e)))) k v → ToldOf name e c k v
told-as name gone left e c channels k v at =
    let q = At-mapped (removal_told c.creations) (disconnected_at name gone left c.at_server (Some (Open e))) k v at in
    let x = disconnect-is name gone left e c channels k q.0 q.1 in
    record { p = q.0; is = q.2; at = x.0; x = x.1; there = x.2; sid = x.3; place = ap (λ (z : Told). z.place) q.2 ∙ x.4 }

-- an end from which a record's channels are removed, or a beginning of them
gone-once : (name : List ℕ) (gone : Handle → Bool) (left : Handle → ℕ) (e : ServerEnd) (c d : Joined) → ChannelsOn e c → OnceOn e c → d.lists.down ≡ c.lists.down ++ map (removal_told c.creations) (disconnected_at name gone left c.at_server (Some (Open e)))
    → AreRemovedOnce c.lists → AreRemovedOnce d.lists
gone-once name gone left e c d channels o down h i j t u a b same rt ru =
    elim (At-parts c.lists.down more i t (subst (λ (l : List Told). At l i t) down a)) [
      | inl oldi ↦ elim (At-parts c.lists.down more j u (subst (λ (l : List Told). At l j u) down b)) [
        | inl oldj ↦ h i j t u oldi oldj same rt ru
        | inr newj ↦ absurd (fresh i t oldi rt newj.0 u newj.2 same)
      ]
      | inr newi ↦ elim (At-parts c.lists.down more j u (subst (λ (l : List Told). At l j u) down b)) [
        | inl oldj ↦ absurd (fresh j u oldj ru newi.0 t newi.2 (sym same))
        | inr newj ↦
            let p = told-of newi.0 t newi.2 in
            let q = told-of newj.0 u newj.2 in
            let sids : p.x.sid ≡ q.x.sid = o.one p.x q.x p.there q.there (sym p.place ∙ same ∙ q.place) in
            let k = told-parts name e newi.0 p.p p.at in
            let m = told-parts name e newj.0 q.p q.at in
            let handles : p.p.0 ≡ q.p.0 = one-by-wire e.channels p.p.0 q.p.0 p.p.1 q.p.1 channels.few k.0 m.0 (sym p.sid ∙ sids ∙ q.sid) in
            let one : newi.0 ≡ newj.0 = apart-at (channels_of name e) (apart-kept _ (held e.channels) (held-apart e.channels)) newi.0 newj.0 p.p q.p p.at q.at handles in
            newi.1 ∙ ap (λ (n : ℕ). length c.lists.down + n) one ∙ sym newj.1
      ]
    ]
  where
    more : List Told
    more = map (removal_told c.creations) (disconnected_at name gone left c.at_server (Some (Open e)))

    told-of : (k : ℕ) (v : Told) → At more k v → ToldOf name e c k v
    told-of k v at = told-as name gone left e c channels k v at

    fresh : (k : ℕ) (v : Told) → At c.lists.down k v → v.cause ≡ Removal → (m : ℕ) (z : Told) → At more m z → v.place ≡ z.place → ⊥
    fresh k v old rv m z at is =
        let p = told-of m z at in
        let parts = told-parts name e m p.p p.at in
        not-both p.p.1.retired (o.retired v p.x p.p.0 p.p.1 (k, old) rv p.there (sym (is ∙ p.place)) parts.0 (sym p.sid)) parts.2

remove-once : (s : Setting) (w new : World) (i : ℕ) (y : ServerSide) (name : List ℕ) → ServersStand s w → AllEnds RemovedOn w → At w.servers i y → HappensRemove w i y name new → AllRemovedOnce w → AllRemovedOnce new
remove-once s w new i y name h ends at (gone, left, core, inr (removes, is)) all = subst (λ (z : World). AllRemovedOnce z) (sym is) all
remove-once s w new i y name h ends at (gone, left, core, inl (removes, is)) all = subst (λ (z : World). AllRemovedOnce z) (sym is) (λ l d at_d.
    let x = At-mapped (ending (ends_by i core)) (moves.removal_told w i y name gone left).circuits l d at_d in
    let c = At-mapped (removed_at i y.core name gone left) w.circuits l x.0 x.1 in
    let down : d.lists.down ≡ (removed_at i y.core name gone left c.0).lists.down = ap (λ (z : Joined). z.lists.down) x.2 ∙ ended-down (ends_by i core) x.0 ∙ ap (λ (z : Joined). z.lists.down) c.2 in
    λ m n t u a b. one l c.0 c.1 m n t u (subst (λ (z : List Told). At z m t) down a) (subst (λ (z : List Told). At z n u) down b))
  where
    one : (l : ℕ) (c : Joined) → At w.circuits l c → AreRemovedOnce (removed_at i y.core name gone left c).lists
    one l c on = go (eqb c.server i && c.lists.server_open) refl
      where
        gone_of : List (Handle × OpenChannel)
        gone_of = disconnected_at name gone left c.at_server (under y.core.circuits c.at_server)

        after : Joined
        after = without_standing (λ (k : SubKey). list_any (λ (x : Handle × OpenChannel). eqb (wire_of x.0) k.sid) gone_of) (record c { lists = record c.lists { down = c.lists.down ++ map (removal_told c.creations) gone_of } })

        here : c.server ≡ i → c.lists.server_open ≡ true → AreRemovedOnce after.lists
        here mine opened =
            let seat = h.stands.sound.seated.each l c on opened in
            let same : seat.y ≡ y = At-one w.servers i seat.y y (subst (λ (k : ℕ). At w.servers k seat.y) mine seat.at) at in
            let had : HasEnd y.core c.at_server seat.e = subst (λ (z : ServerSide). HasEnd z.core c.at_server seat.e) same seat.has in
            let p = ends l c seat.y seat.e on seat.at opened seat.has in
            gone-once name gone left seat.e c after p.0 p.3 (ap (λ (o : Option ServerCircuit). c.lists.down ++ map (removal_told c.creations) (disconnected_at name gone left c.at_server o)) had) (all l c on)

        go : (b : Bool) → eqb c.server i && c.lists.server_open ≡ b → AreRemovedOnce (cond b after c).lists
        go false other = all l c on
        go true both = (let b = and-both (eqb c.server i) c.lists.server_open both in here (eqb-true c.server i b.0) b.1)

-- ---- other events

-- each SERVER_DISCONN was there
abbrev pub WereThere : (w new : World) → Type 0
WereThere w new = (l : ℕ) (d : Joined) → At new.circuits l d → (c : Joined) × At w.circuits l c × ((i : ℕ) (t : Told) → At d.lists.down i t → t.cause ≡ Removal → At c.lists.down i t)

were-once : (w new : World) → WereThere w new → AllRemovedOnce w → AllRemovedOnce new
were-once w new were all l d at i j t u a b same rt ru = (let c = were l d at in all l c.0 c.1 i j t u (c.2 i t a rt) (c.2 j u b ru) same rt ru)

pub back-were : (R : Type 0) (w new : World) → (R → ⊥) → Back R w new → WereThere w new
back-were R w new none back l d at =
    let c = back l d at in
    (c.0, c.1, λ i t told removal. elim (c.2.told i t told) [ inl old ↦ old | inr more ↦ elim more.2 [ inl r ↦ absurd (none r) | inr other ↦ absurd (other.0 removal) ] ])

pub frame-were : (w new : World) → Frame w new → WereThere w new
frame-were w new g l d at = (let c = g.back l d at in (c.0, c.1, λ i t told removal. subst (λ (z : List Told). At z i t) c.2.down told))

pub did-were : (w new : World) (k : ℕ) (j : Joined) (y : ServerSide) → At w.circuits k j → StepHandles w k j y new → WereThere w new
did-were w new k j y on f = subst (λ (z : World). WereThere w z) (sym f.leaves) (go (slice_get after.circuits k) refl)
  where
    mid : World
    mid = acted k j y (f.steps.0).action w

    after : World
    after = server_after j.server (side_of j.server y mid) (ends_by j.server f.core) f.core mid

    step : Step
    step = record { sent = length j.lists.down; logged = server.logged y w; after = server.logged y after }

    still : WereThere w after
    still = back-were ⊥ w after (λ r. r) (back-after ⊥ w mid j.server (side_of j.server y mid) (ends_by j.server f.core) f.core (acted-back ⊥ w k j y (f.steps.0).action on))

    go : (o : Option Joined) → slice_get after.circuits k ≡ o → WereThere w (unwrap_or (option_map (λ (c : Joined). with_circuit k (handled_at (length j.lists.handled) step (f.steps.0).replies c) after) o) after)
    go None is = still
    go (Some c) is = λ l d at. elim (At-set after.circuits k (handled_at (length j.lists.handled) step (f.steps.0).replies c) l d at) [
      | inl own ↦
          let b = still l c (subst (λ (m : ℕ). At after.circuits m c) (sym own.0) is) in (
            b.0,
            b.1,
            λ i t told removal. elim (At-parts c.lists.down (about (length j.lists.handled) Reply (f.steps.0).replies) i t (subst (λ (z : Joined). At z.lists.down i t) own.1 told)) [
              | inl old ↦ b.2 i t old removal
              | inr last ↦ absurd (replies-none (length j.lists.handled) (f.steps.0).replies t (last.0, last.2) removal)
            ],
          )
      | inr old ↦ still l d old.0
    ]

step-once : (w new : World) (k : ℕ) → Happens w (event.ServerStep k) new → AllRemovedOnce w → AllRemovedOnce new
step-once w new k (at, (did, f)) all = elim (handled-or did) [
  | inl is ↦ were-once w new (did-were w new k at.j at.y at.joins.at (subst (λ (x : Stepped). ServerStepped w k at.j at.y x new) is f)) all
  | inr other ↦ were-once w new (back-were ⊥ w new (λ r. r) (unhandled-back ⊥ w new k at.j at.y did at.joins.at other f)) all
]

-- a circuit is made, on which nothing was told
accept-once : (w new : World) (i : ℕ) (x : ClientSide) (v : WantsFirst w x) → HappensAccept w i x v new → AllRemovedOnce w → AllRemovedOnce new
accept-once w new i x v f all = elim f.leaves [
  | inl full ↦ subst (λ (z : World). AllRemovedOnce z) (sym full.1) all
  | inr made ↦
      let c : Joined = connected_as made.1 (new_circuit i x v.v.circuit v.i v.y made.0) in
      let mid : World = record w { servers = slice_set w.servers v.i (record v.y { core = f.server }); circuits = w.circuits ++ c ∷ [] } in
      let g : Frame mid new = sent-frame mid new i x.names made.2 (ap (λ (z : World). z.servers) made.6) (ap (λ (z : World). z.server_logs) made.6) (ap (λ (z : World). z.circuits) made.6) in
      were-once mid new (frame-were mid new g) (λ l d at. elim (At-snoc w.circuits c l d at) [
        | inl old ↦ all l d old
        | inr last ↦ (λ m n t u a. absurd (none_at m t (subst (λ (z : List Told). At z m t) (ap (λ (z : Joined). z.lists.down) last.1 ∙ nothing made.1 made.0) a)))
      ])
]
  where
    nothing : (o : Option Closing) (g : Handle) → (connected_as o (new_circuit i x v.v.circuit v.i v.y g)).lists.down ≡ []
    nothing None g = refl
    nothing (Some k) g = refl

pub removes-or : (e : Event) → (Removes e → ⊥) ⊎ ((i : ℕ) × (name : List ℕ) × (e ≡ event.Remove i name))
removes-or (event.Remove i name) = inr (i, name, refl)
removes-or e = inl (λ r. r)

-- ---- every event and run

event-once : (s : Setting) (w new : World) (e : Event) → ServersStand s w → AllEnds RemovedOn w → Happens w e new → AllRemovedOnce w → AllRemovedOnce new
event-once s w new e h ends happens all =
    event-or (AllRemovedOnce new) s w new e h happens
    (λ back. elim (removes-or e) [
      | inl none ↦ were-once w new (back-were (Removes e) w new none back) all
      | inr remove ↦ (let r : Happens w (event.Remove remove.0 remove.1) new = subst (λ (x : Event). Happens w x new) remove.2 happens in remove-once s w new remove.0 r.0.y remove.1 h ends r.0.at r.1 all)
    ])
    (λ k is steps. step-once w new k steps all) (λ i is accepts. accept-once w new i accepts.0.x accepts.0.v accepts.1 all)

events-once : (s : Setting) (es : List Event) (w new : World) → IsSetting s → FoldsTo Happens w es new → ServersStand s w → AllEnds RemovedOn w → AllRemovedOnce w → AllRemovedOnce new
events-once s [] w new ok same h ends all = subst (λ (z : World). AllRemovedOnce z) same all
events-once s (e ∷ es) w new ok (mid, one, rest) h ends all =
    events-once s es mid new ok rest (event-serves s w mid e ok one h) (event-lasts RemovedOn removed-lasting removed-begun removed-handled s w mid e (takes-next s w h) one h.stands.sound ends)
    (event-once s w mid e h ends one all)

stops-once : (mid : World) (stopped : Option Event) (w : World) → StopsAt mid stopped w → AllRemovedOnce mid → AllRemovedOnce w
stops-once mid (Some (event.Tick moment)) w stops all = elim stops [
  | inl same ↦ subst (λ (z : World). AllRemovedOnce z) (sym same) all
  | inr ticked ↦ were-once mid w (frame-were mid w (ticks-frame moment mid (clients_below ticked.0) w ticked.3)) all
]
stops-once mid stopped w stops all = subst (λ (z : World). AllRemovedOnce z) (sym stops) all

pub run-once : (s : Setting) (es : List Event) (stopped : Option Event) (w : World) → IsSetting s → Runs s es stopped w → AllRemovedOnce w
run-once s es stopped w ok (mid, folds, stops) =
    stops-once mid stopped w stops
    (events-once s es (opening s) mid ok folds (opening-serves s ok) (opening-lasts RemovedOn removed-lasting s) (λ n c at. absurd (none_at n c at)))

pub run-removed-once : (s : Setting) (es : List Event) (stopped : Option Event) (w : World) → IsSetting s → Runs s es stopped w → ChannelsAreRemovedOnce w
run-removed-once s es stopped w ok runs n d at =
    let j = At-mapped circuit_of w.circuits n d at in
    let l = run-server-steps s es stopped w ok runs n d at in
    (l.0, l.1, l.2, subst (λ (c : Circuit). AreRemovedOnce c) (sym j.2) (run-once s es stopped w ok runs n j.0 j.1))
