-- The open channels of an end beside the creations of its circuit.
use Rattle.std.proofs.Common.{◌≡◌, ℕ, zero, suc, ◌+◌, ◌≤◌, inl, inr, Bool, true, false, cond, not, eqb, eq-eqb, eqb-true, List, [], ◌∷◌, ◌++◌, length, Option, Some, None, refl, sym, ap, subst, ◌∙◌, arith}
use Rattle.std.specs.Prelude.{filter, find, map, option_map, unwrap_or}
use Rattle.std.specs.List.{FoldsTo, fold}
use Rattle.ca_arena.specs.Arena.{Place}
use Rattle.ca_arena.specs.declared.handle.Handle.{Handle}
use Rattle.ca_ids.specs.Table.{Table, by_wire, under, with_each, with_each_from, with_freed, with_held}
use Rattle.ca_ids.specs.Wire.{wire_of}
use Rattle.ca_model.proofs.Tables.{at-under, freed-back, freed-few, freed-other, given-fresh, held-back, held-few, held-other, held-own, place, under-at, under-wire, wire-under}
use Rattle.ca_queue.specs.declared.entry.SubKey.{SubKey}
use Rattle.ca_text.specs.Limits.{arena_slots}
use Rattle.ca_text.specs.Place.{At}
use Rattle.ca_text.proofs.Places.{some_is}
use Rattle.ca_wire.specs.Fields.{Fields}
use Rattle.ca_model.specs.Due.{Action, Adds, Applies, Clears, Drops, Due, KnownChannel, Opens, Switches}
use Rattle.ca_model.specs.Due as action
use Rattle.ca_model.specs.History.{Sent}
use Rattle.ca_model.specs.Server.{OpenChannel, Server, ServerEnd, concerns, key_of, new_end}
use Rattle.ca_model.specs.ServerCalls.{end_without, retired}
use Rattle.ca_model.specs.ServerSteps.{Acts, Leaves, Update, knows, without_channel}
use Rattle.ca_model.specs.Speech.{In}
use Rattle.ca_model.specs.ServerEvents.{handled_at, numbers_after, with_number}
use Rattle.ca_model.specs.World.{Creation, Joined, World}
use Rattle.ca_laws_parts.proofs.Cores.{each-there}
use Rattle.ca_laws_parts.proofs.Fresh.{due-opens}
use Rattle.ca_laws_parts.proofs.Lasting.{Begins, Handled, Lasting}
use Rattle.ca_laws_parts.proofs.WritesLists.{In-kept, In-snoc, none_at}
use Rattle.ca_laws_parts.specs.Channels.{ChannelsOn, has_sid}
use Rattle.ca_laws_parts.proofs.Since.{stamped-parts}

-- ---- what is found

find-more : {A : Type 0} (test : A → Bool) (xs : List A) (z x : A) → find test xs ≡ Some x → find test (xs ++ z ∷ []) ≡ Some x
find-more test [] z x is = absurd cc
find-more {A} test (y ∷ xs) z x is = go (test y) is (λ h. find-more test xs z x h)
  where
    go : (b : Bool) → cond b (Some y) (find test xs) ≡ Some x → (find test xs ≡ Some x → find test (xs ++ z ∷ []) ≡ Some x) → cond b (Some y) (find test (xs ++ z ∷ [])) ≡ Some x
    go true e more = e
    go false e more = more e

find-last : {A : Type 0} (test : A → Bool) (xs : List A) (z : A) → ((x : A) → In xs x → test x ≡ false) → test z ≡ true → find test (xs ++ z ∷ []) ≡ Some z
find-last {A} test [] z none is = ap (λ (b : Bool). cond b (Some z) None) is
find-last {A} test (y ∷ xs) z none is =
    ap (λ (b : Bool). cond b (Some y) (find test (xs ++ z ∷ []))) (none y (0, refl)) ∙ find-last test xs z (λ x at. none x (suc at.0, at.1)) is

find-kept : {A : Type 0} (test keep : A → Bool) (xs : List A) → ((x : A) → test x ≡ true → keep x ≡ true) → find test (filter keep xs) ≡ find test xs
find-kept test keep [] all = refl
find-kept {A} test keep (y ∷ xs) all = go (test y) (keep y) refl refl (find-kept test keep xs all)
  where
    go : (a b : Bool) → test y ≡ a → keep y ≡ b → find test (filter keep xs) ≡ find test xs → find test (cond b (y ∷ filter keep xs) (filter keep xs)) ≡ cond a (Some y) (find test xs)
    go true true e f rest = ap (λ (c : Bool). cond c (Some y) (find test (filter keep xs))) e
    go true false e f rest = absurd (let g : true ≡ false = sym (all y e) ∙ f in cc)
    go false true e f rest = ap (λ (c : Bool). cond c (Some y) (find test (filter keep xs))) e ∙ rest
    go false false e f rest = rest

-- ---- tables

module _ {T : Type 0} where
  each-back-from : (i : ℕ) (f : Handle → T → T) (t : Table T) (k : ℕ) (q : Place T) → At (with_each_from i f t) k q → (p : Place T) × At t k p × (q ≡ record p { value = option_map (f (record { index = i + k; generation = p.generation })) p.value })
  each-back-from i f [] k q at = absurd (none_at k q at)
  each-back-from i f (p ∷ t) zero q at = (
    p,
    refl,
    sym (some_is _ q at)
        ∙ (let n : i ≡ i + 0 = omega arith in ap (λ (m : ℕ). let z : Place T = record p { value = option_map (f (record { index = m; generation = p.generation })) p.value } in z) n),
  )
  each-back-from i f (p ∷ t) (suc k) q at =
      let r = each-back-from (i + 1) f t k q at in
      let n : i + 1 + k ≡ i + suc k = omega arith in
      (r.0, r.1, r.2 ∙ ap (λ (m : ℕ). let z : Place T = record r.0 { value = option_map (f (record { index = m; generation = r.0.generation })) r.0.value } in z) n)

  some-from : (f : T → T) (o : Option T) (v : T) → option_map f o ≡ Some v → (u : T) × (o ≡ Some u) × (v ≡ f u)
  some-from f None v is = absurd cc
  some-from f (Some u) v is = (u, refl, sym (some_is (f u) v is))

  -- what is under a handle in a table with each changed
  pub each-back : (f : Handle → T → T) (t : Table T) (h : Handle) (v : T) → under (with_each f t) h ≡ Some v → (u : T) × (under t h ≡ Some u) × (v ≡ f h u)
  each-back f t h v is =
      let r = each-back-from 0 f t h.index (place h v) (under-at (with_each f t) h v is) in
      let generation : h.generation ≡ r.0.generation = ap (λ (p : Place T). p.generation) r.2 in
      let handle : (let g : Handle = record { index = 0 + h.index; generation = r.0.generation } in g) ≡ h = (let zero_of : 0 + h.index ≡ h.index = omega arith in (λ i. let g : Handle = record { index = zero_of i; generation = sym generation i } in g)) in
      let value : option_map (f h) r.0.value ≡ Some v = ap (λ (g : Handle). option_map (f g) r.0.value) (sym handle) ∙ sym (ap (λ (p : Place T). p.value) r.2) in
      let u = some-from (f h) r.0.value v value in
      let there : r.0 ≡ place h u.0 = (λ i. let z : Place T = record { generation = sym generation i; value = u.1 i } in z) in
      (u.0, at-under t h u.0 (subst (λ (p : Place T). At t h.index p) there r.1), u.2)

  each-few : (i : ℕ) (f : Handle → T → T) (t : Table T) → length (with_each_from i f t) ≡ length t
  each-few i f [] = refl
  each-few i f (p ∷ t) = ap (λ (n : ℕ). suc n) (each-few (i + 1) f t)

none-some : {A : Type 0} (x : A) → let a : Option A = None in let b : Option A = Some x in a ≡ b → ⊥
none-some x e = cc

-- ---- each change

-- the same channels and creations
channels-same : (e f : ServerEnd) (c d : Joined) → f.channels ≡ e.channels → d.creations ≡ c.creations → ((p : ℕ) (s : Sent) → At c.lists.up p s → At d.lists.up p s) → ChannelsOn e c → ChannelsOn f d
channels-same e f c d table creations up h = record {
  few = subst (λ (t : Table OpenChannel). length t ≤ arena_slots) (sym table) h.few;
  opens = λ g ch there.
      let r = h.opens g ch (subst (λ (t : Table OpenChannel). under t g ≡ Some ch) table there) in
      (r.0, subst (λ (l : List Creation). find (has_sid (wire_of g)) l ≡ Some r.0) (sym creations) r.1, (r.2.0, up r.0.place r.2.0 r.2.1, r.2.2));
  stale = λ x there.
      let r = h.stale x (subst (λ (l : List Creation). In l x) creations there) in
      (r.0, r.1, subst (λ (t : Table OpenChannel). under t r.0 ≡ Some r.1) (sym table) r.2, r.3);
}

numbered-parts : (c : Joined) (keys : List SubKey) → ((fold with_number c keys).creations ≡ c.creations) × ((fold with_number c keys).lists ≡ c.lists)
numbered-parts c [] = (refl, refl)
numbered-parts c (k ∷ keys) = numbered-parts (with_number c k) keys

leaves-channels : (us : List Update) (e after : ServerEnd) → FoldsTo Leaves e us after → after.channels ≡ e.channels
leaves-channels [] e after same = ap (λ (x : ServerEnd). x.channels) (sym same)
leaves-channels (u ∷ us) e after (mid, one, rest) = leaves-channels us mid after rest ∙ ap (λ (x : ServerEnd). x.channels) one.leaves

channels-removed : (name : List ℕ) (e : ServerEnd) (c d : Joined) → d.creations ≡ c.creations → d.lists.up ≡ c.lists.up → ChannelsOn e c → ChannelsOn (end_without name e) d
channels-removed name e c d creations up h = record {
  few = (let is : length (with_each (retired name) e.channels) ≡ length e.channels = each-few 0 (retired name) e.channels in let le : length e.channels ≤ arena_slots = h.few in omega (arith, is, le));
  opens = λ g ch there.
      let u = each-back (retired name) e.channels g ch there in
      let r = h.opens g u.0 u.1 in (
        r.0,
        subst (λ (l : List Creation). find (has_sid (wire_of g)) l ≡ Some r.0) (sym creations) r.1,
        (r.2.0, subst (λ (l : List Sent). At l r.0.place r.2.0) (sym up) r.2.1, r.2.2 ∙ ap (λ (x : OpenChannel). x.cid) (sym u.2)),
      );
  stale = λ x there.
      let r = h.stale x (subst (λ (l : List Creation). In l x) creations there) in
      (r.0, retired name r.0 r.1, each-there (retired name) e.channels r.0 r.1 r.2, r.3);
}

-- a channel is created
channels-opened : (y : Server) (e new : ServerEnd) (s : Sent) (replies : List Fields) (ch : KnownChannel) (c d : Joined) → At d.lists.up (length c.lists.handled) s → Due (knows y e) s.message replies (Opens ch) → Acts y e (Opens ch) new
    → d.creations ≡ c.creations ++ record { sid = ch.sid; place = length c.lists.handled } ∷ [] → d.lists.up ≡ c.lists.up → ChannelsOn e c → ChannelsOn new d
channels-opened y e new s replies ch c d at due (g, may, wire, is) creations up h =
    let z : Creation = record { sid = ch.sid; place = length c.lists.handled } in
    let v : OpenChannel = record { cid = ch.cid; name = ch.name; retired = false } in
    let table : new.channels ≡ with_held g v e.channels = ap (λ (x : ServerEnd). x.channels) is in
    let made = (due-opens (knows y e) s.message replies ch due).1 in
    let cid : ch.cid ≡ s.message.p1 = same-opens ch _ made.does in
    record {
      few = subst (λ (t : Table OpenChannel). length t ≤ arena_slots) (sym table) (held-few e.channels g v may h.few);
      opens = λ k w there. elim (held-back e.channels k g v w (subst (λ (t : Table OpenChannel). under t k ≡ Some w) table there)) [
        | inl own ↦ (
          z,
          subst (λ (l : List Creation). find (has_sid (wire_of k)) l ≡ Some z) (sym creations)
              (find-last (has_sid (wire_of k)) c.creations z (λ x in_it. none x in_it k own.0) (eq-eqb ch.sid (wire_of k) (sym wire ∙ ap wire_of (sym own.0)))),
          (s, at, sym cid ∙ ap (λ (x : OpenChannel). x.cid) (sym own.1)),
        )
        | inr old ↦
            let r = h.opens k w old in (
              r.0,
              subst (λ (l : List Creation). find (has_sid (wire_of k)) l ≡ Some r.0) (sym creations) (find-more (has_sid (wire_of k)) c.creations z r.0 r.1),
              (r.2.0, subst (λ (l : List Sent). At l r.0.place r.2.0) (sym up) r.2.1, r.2.2),
            )
      ];
      stale = λ x there. elim (In-snoc c.creations z x (subst (λ (l : List Creation). In l x) creations there)) [
        | inl old ↦
            let r = h.stale x old in
            (r.0, r.1, subst (λ (t : Table OpenChannel). under t r.0 ≡ Some r.1) (sym table) (held-other e.channels r.0 g v r.1 may r.2), r.3)
        | inr new_it ↦ (g, v, subst (λ (t : Table OpenChannel). under t g ≡ Some v) (sym table) (held-own e.channels g v may), wire ∙ ap (λ (q : Creation). q.sid) (sym new_it))
      ];
    }
  where
    same-opens : (a b : KnownChannel) → Opens a ≡ Opens b → a.cid ≡ b.cid
    same-opens a b is = ap (λ (k : KnownChannel). k.cid) (let r : a ≡ b = cc in r)

    none : (x : Creation) → In c.creations x → (k : Handle) → k ≡ g → has_sid (wire_of k) x ≡ false
    none x there k own = go (eqb x.sid (wire_of k)) refl
      where
        go : (b : Bool) → eqb x.sid (wire_of k) ≡ b → eqb x.sid (wire_of k) ≡ false
        go false e1 = e1
        go true e1 =
            let r = h.stale x there in
            absurd (given-fresh e.channels r.0 g r.1 h.few may r.2 (r.3 ∙ eqb-true x.sid (wire_of k) e1 ∙ ap wire_of own))

-- and cleared
channels-cleared : (e : ServerEnd) (sid : ℕ) (c d : Joined) → d.creations ≡ filter (λ (x : Creation). not (eqb x.sid sid)) c.creations → d.lists.up ≡ c.lists.up → ChannelsOn e c → ChannelsOn (without_channel sid e) d
channels-cleared e sid c d creations up h = go (by_wire e.channels sid) refl
  where
    keep : Creation → Bool
    keep x = not (eqb x.sid sid)

    differs : (n : ℕ) → (n ≡ sid → ⊥) → (x : Creation) → has_sid n x ≡ true → keep x ≡ true
    differs n other x is = on (eqb x.sid sid) refl
      where
        on : (b : Bool) → eqb x.sid sid ≡ b → not b ≡ true
        on false e1 = refl
        on true e1 = absurd (other (sym (eqb-true x.sid n is) ∙ eqb-true x.sid sid e1))

    opened : (g : Handle) (ch : OpenChannel) → under e.channels g ≡ Some ch → (wire_of g ≡ sid → ⊥) → (x : Creation) × (find (has_sid (wire_of g)) d.creations ≡ Some x) × ((s : Sent) × At d.lists.up x.place s × (s.message.p1 ≡ ch.cid))
    opened g ch there other =
        let r = h.opens g ch there in (
          r.0,
          subst (λ (l : List Creation). find (has_sid (wire_of g)) l ≡ Some r.0) (sym creations) (find-kept (has_sid (wire_of g)) keep c.creations (differs (wire_of g) other) ∙ r.1),
          (r.2.0, subst (λ (l : List Sent). At l r.0.place r.2.0) (sym up) r.2.1, r.2.2),
        )

    not-sid : (x : Creation) → keep x ≡ true → x.sid ≡ sid → ⊥
    not-sid x is same = (let f : true ≡ false = sym is ∙ ap (λ (b : Bool). not b) (eq-eqb x.sid sid same) in cc)

    go : (o : Option (Handle × OpenChannel)) → by_wire e.channels sid ≡ o → ChannelsOn (without_channel sid e) d
    go None is =
        let table : (without_channel sid e).channels ≡ e.channels = ap (λ (o : Option (Handle × OpenChannel)). unwrap_or (option_map (λ (c : Handle × OpenChannel). with_freed c.0 e.channels) o) e.channels) is in
        record {
          few = subst (λ (t : Table OpenChannel). length t ≤ arena_slots) (sym table) h.few;
          opens = λ g ch there.
              let was : under e.channels g ≡ Some ch = subst (λ (t : Table OpenChannel). under t g ≡ Some ch) table there in
              opened g ch was (λ same. none-some (g, ch) (sym is ∙ ap (λ (n : ℕ). by_wire e.channels n) (sym same) ∙ under-wire e.channels g ch h.few was));
          stale = λ x there.
              let k = In-kept keep c.creations x (subst (λ (l : List Creation). In l x) creations there) in
              let r = h.stale x k.0 in
              (r.0, r.1, subst (λ (t : Table OpenChannel). under t r.0 ≡ Some r.1) (sym table) r.2, r.3);
        }
    go (Some found) is =
        let table : (without_channel sid e).channels ≡ with_freed found.0 e.channels = ap (λ (o : Option (Handle × OpenChannel)). unwrap_or (option_map (λ (c : Handle × OpenChannel). with_freed c.0 e.channels) o) e.channels) is in
        let wire = wire-under e.channels sid found is in
        record {
          few = subst (λ (t : Table OpenChannel). length t ≤ arena_slots) (sym table) (let same : length (with_freed found.0 e.channels) ≡ length e.channels = freed-few e.channels found.0 in let le : length e.channels ≤ arena_slots = h.few in omega (arith, same, le));
          opens = λ g ch there.
              let back = freed-back e.channels g found.0 ch (subst (λ (t : Table OpenChannel). under t g ≡ Some ch) table there) in
              opened g ch back.1 (λ same. back.0 (ap (λ (p : Handle × OpenChannel). p.0) (some_is (g, ch) found (sym (under-wire e.channels g ch h.few back.1) ∙ ap (λ (n : ℕ). by_wire e.channels n) same ∙ is))));
          stale = λ x there.
              let k = In-kept keep c.creations x (subst (λ (l : List Creation). In l x) creations there) in
              let r = h.stale x k.0 in
              (r.0, r.1, subst (λ (t : Table OpenChannel). under t r.0 ≡ Some r.1) (sym table) (freed-other e.channels r.0 found.0 r.1 r.2 (λ same. not-sid x k.1 (sym r.3 ∙ ap wire_of same ∙ wire.1))), r.3);
        }

pub channels-handled : Handled (λ (n : ℕ). ChannelsOn)
channels-handled n y e new s replies did step c at due acts h = go did due acts
  where
    place_of : ℕ
    place_of = length c.lists.handled

    alike : (did : Action) → new.channels ≡ e.channels → (numbers_after place_of did c).creations ≡ c.creations → (numbers_after place_of did c).lists.up ≡ c.lists.up → ChannelsOn new (handled_at place_of step replies (numbers_after place_of did c))
    alike did table creations up = channels-same e new c (handled_at place_of step replies (numbers_after place_of did c)) table creations (λ p z there. subst (λ (l : List Sent). At l p z) (sym up) there) h

    go : (did : Action) → Due (knows y e) s.message replies did → Acts y e did new → ChannelsOn new (handled_at place_of step replies (numbers_after place_of did c))
    go (Opens ch) due acts = channels-opened y e new s replies ch c (handled_at place_of step replies (numbers_after place_of (Opens ch) c)) at due acts refl refl h
    go (Clears sid) due acts = subst (λ (x : ServerEnd). ChannelsOn x (handled_at place_of step replies (numbers_after place_of (Clears sid) c))) (sym acts) (channels-cleared e sid c (handled_at place_of step replies (numbers_after place_of (Clears sid) c)) refl refl h)
    go (Adds sub) due acts = alike (Adds sub) (ap (λ (x : ServerEnd). x.channels) acts.2.leaves) refl refl
    go (Drops key) due acts = alike (Drops key) (ap (λ (x : ServerEnd). x.channels) acts) refl refl
    go (Switches on) due acts = alike (Switches on) (ap (λ (x : ServerEnd). x.channels) acts) refl refl
    go action.Greets due acts = alike action.Greets (ap (λ (x : ServerEnd). x.channels) acts) refl refl
    go (action.Names p) due acts = alike (action.Names p) (ap (λ (x : ServerEnd). x.channels) acts) refl refl
    go action.Nothing due acts = alike action.Nothing (ap (λ (x : ServerEnd). x.channels) acts) refl refl
    go (Applies name value busies) due acts = alike (Applies name value busies) (ap (λ (x : ServerEnd). x.channels) acts) refl refl
    go (action.Waits name value) due acts = alike (action.Waits name value) (ap (λ (x : ServerEnd). x.channels) acts) refl refl

pub channels-lasting : Lasting (λ (n : ℕ). ChannelsOn)
channels-lasting = record {
  stays = λ n e f c d held goes h. channels-same e f c d held.channels goes.creations goes.later.up h;
  posted = λ n name mask v e c h. (let p = numbered-parts c (map key_of (filter (concerns name mask) e.subscriptions)) in channels-same e _ c _ refl p.0 (λ q s at. subst (λ (l : _). At l.up q s) (sym p.1) at) h);
  removed = λ n name e c h. channels-removed name e c _ refl refl h;
  pumped = λ n us e after c folds h. (let p = stamped-parts us c in channels-same e after c _ (leaves-channels us e after folds) p.3 (λ q s at. subst (λ (l : List Sent). At l q s) (sym p.0) at) h);
  replied = λ n e c place ms h. channels-same e e c _ refl refl (λ q s at. at) h;
}

pub channels-begun : (w : World) → Begins (λ (n : ℕ). ChannelsOn) w
channels-begun w n moment c more new = record {
  few = (let le : 0 ≤ arena_slots = omega arith in le);
  opens = λ g ch there. absurd (none_at g.index (place g ch) (under-at (new_end moment).channels g ch there));
  stale = λ x at. absurd (none_at at.0 x (subst (λ (l : List Creation). At l at.0 x) new.creations at.1));
}
