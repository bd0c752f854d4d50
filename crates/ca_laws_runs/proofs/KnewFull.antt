-- How often each index of a server's channels was given, over every event and run.
use Rattle.std.proofs.Common.{◌≡◌, ℕ, zero, suc, ◌+◌, ◌<◌, ◌≤◌, ◌⊎◌, inl, inr, Bool, true, false, cond, not, ◌&&◌, ◌||◌, eqb, eqb-true, List, [], ◌∷◌, ◌++◌, length, Option, Some, None, refl, sym, ap, subst, ◌∙◌, arith}
use Rattle.std.specs.Prelude.{◌%◌, count_by, filter, is_some, map, nat_le, nat_lt, option_map, slice_set, unwrap_or}
use Rattle.std.specs.List.{FoldsTo, fold, list_any}
use Rattle.std.proofs.lemmas.Bool.{eq-eqb, leb-true, ltb-false}
use Rattle.std.proofs.lemmas.List.{get_or_past}
use Rattle.ca_dbr.specs.Elements.{base_of}
use Rattle.ca_dbr.specs.Types.{base_number}
use Rattle.ca_wire.specs.Messages.{created_reply}
use Rattle.std.proofs.lemmas.List.Sums.{sum_by-cons}
use Rattle.std.proofs.lemmas.Option.{get_or_from_slice_get}
use Rattle.ca_arena.specs.Arena.{Place, blank, place_at}
use Rattle.ca_arena.specs.declared.handle.Handle.{Handle}
use Rattle.ca_ids.specs.Table.{MayGive, Table, by_wire, has_free, held, under, with_each_from, with_freed, with_held}
use Rattle.ca_ids.specs.Wire.{wire_of}
use Rattle.ca_ids.proofs.Wires.{wire_of-index}
use Rattle.ca_model.proofs.Tables.{at-under, under-at, under-held, wire-under}
use Rattle.ca_model.proofs.Tables as table
use Rattle.ca_queue.specs.declared.entry.SubKey.{SubKey}
use Rattle.ca_text.specs.Limits.{arena_slots, last_generation}
use Rattle.ca_text.specs.Place.{At}
use Rattle.ca_text.proofs.Places.{some_is, At-map, At-or, At-set, At-snoc}
use Rattle.ca_wire.specs.Fields.{Fields}
use Rattle.ca_model.specs.Due.{Action, Adds, Applies, Clears, Drops, Due, IsCreated, KnownChannel, Opens, Switches}
use Rattle.ca_model.specs.Due as action
use Rattle.ca_model.specs.History.{Circuit, Reply, Sent, Step, Told}
use Rattle.ca_model.specs.Server.{OpenChannel, Server, ServerEnd, concerns, key_of, with_post}
use Rattle.ca_model.specs.ServerCalls.{channels_of, end_without, retired}
use Rattle.ca_model.specs.ServerSteps.{Acts, Leaves, Update, known_channel, knows, without_channel}
use Rattle.ca_model.specs.Speech.{In}
use Rattle.ca_model.specs.Known.{IsFull, creates_at}
use Rattle.ca_model.specs.Events.{Event}
use Rattle.ca_model.specs.Runs.{Runs}
use Rattle.ca_model.specs.ServerEvents.{about, handled_at, numbers_after, removal_told, stamped, with_number}
use Rattle.ca_model.specs.World.{IsSetting, Joined, Setting, World}
use Rattle.ca_laws_parts.proofs.BytesRuns.{runs-take}
use Rattle.ca_laws_parts.specs.Later.{stamped_told}
use Rattle.ca_laws_runs.proofs.CauseGrows.{stamped-is}
use Rattle.ca_laws_runs.proofs.StepWhole.{run-serves}
use Rattle.ca_laws_parts.proofs.Fresh.{due-opens}
use Rattle.ca_laws_parts.proofs.Lasting.{AllEnds, Begins, Handled, Lasting, numbered_for, told_gone, told_late}
use Rattle.ca_laws_parts.proofs.LastingAll.{run-lasts}
use Rattle.ca_laws_parts.proofs.WritesLists.{none_at}
use Rattle.ca_laws_runs.specs.KnewFull.{CountedOn, KnowFull}
use Rattle.ca_laws_runs.specs.KnewLists.{as_known}

-- ---- counts

count-cons : {X : Type 0} (p : X → Bool) (x : X) (xs : List X) → count_by p (x ∷ xs) ≡ cond (p x) 1 0 + count_by p xs
count-cons p x xs = sum_by-cons (λ y. cond (p y) 1 0) x xs

count-more : {X : Type 0} (p : X → Bool) (xs ys : List X) → count_by p xs ≤ count_by p (xs ++ ys)
count-more p [] ys = omega arith
count-more p (x ∷ xs) ys =
    (let le : count_by p xs ≤ count_by p (xs ++ ys) = count-more p xs ys in
    let a : count_by p (x ∷ xs) ≡ cond (p x) 1 0 + count_by p xs = count-cons p x xs in
    let b : count_by p (x ∷ (xs ++ ys)) ≡ cond (p x) 1 0 + count_by p (xs ++ ys) = count-cons p x (xs ++ ys) in
    omega (arith, le, a, b))

-- one that passes counts
count-one : {X : Type 0} (p : X → Bool) (xs ys : List X) (i : ℕ) (y : X) → At ys i y → p y ≡ true → count_by p xs + 1 ≤ count_by p (xs ++ ys)
count-one p [] [] i y at is = absurd (none_at i y at)
count-one p [] (z ∷ ys) zero y at is =
    (let one : p z ≡ true = ap p (some_is z y at) ∙ is in
    let a : count_by p (z ∷ ys) ≡ cond (p z) 1 0 + count_by p ys = count-cons p z ys in
    let b : ◌≡◌ {A = ℕ} (cond (p z) 1 0) 1 = ap (λ (c : Bool). cond c 1 0) one in
    omega (arith, a, b))
count-one p [] (z ∷ ys) (suc i) y at is =
    (let le : count_by p [] + 1 ≤ count_by p ys = count-one p [] ys i y at is in
    let a : count_by p (z ∷ ys) ≡ cond (p z) 1 0 + count_by p ys = count-cons p z ys in
    omega (arith, le, a))
count-one p (x ∷ xs) ys i y at is =
    (let le : count_by p xs + 1 ≤ count_by p (xs ++ ys) = count-one p xs ys i y at is in
    let a : count_by p (x ∷ xs) ≡ cond (p x) 1 0 + count_by p xs = count-cons p x xs in
    let b : count_by p (x ∷ (xs ++ ys)) ≡ cond (p x) 1 0 + count_by p (xs ++ ys) = count-cons p x (xs ++ ys) in
    omega (arith, le, a, b))

-- ---- the same generations

counted-on : (e f : ServerEnd) (c d : Joined) → ((i : ℕ) (p : Place OpenChannel) → At f.channels i p → (q : Place OpenChannel) × At e.channels i q × (p.generation ≡ q.generation)) → ((i : ℕ) → count_by (creates_at i) c.lists.down ≤ count_by (creates_at i) d.lists.down) → CountedOn e c → CountedOn f d
counted-on e f c d places more h i p at =
    (let q = places i p at in let le : q.0.generation ≤ count_by (creates_at i) c.lists.down = h i q.0 q.1 in let g : count_by (creates_at i) c.lists.down ≤ count_by (creates_at i) d.lists.down = more i in let is : p.generation ≡ q.0.generation = q.2 in omega (arith, le, g, is))

same-places : (e f : ServerEnd) → f.channels ≡ e.channels → (i : ℕ) (p : Place OpenChannel) → At f.channels i p → (q : Place OpenChannel) × At e.channels i q × (p.generation ≡ q.generation)
same-places e f is i p at = (p, subst (λ (t : Table OpenChannel). At t i p) is at, refl)

same-down : (c d : Joined) → d.lists.down ≡ c.lists.down → (i : ℕ) → count_by (creates_at i) c.lists.down ≤ count_by (creates_at i) d.lists.down
same-down c d is i = (let e : count_by (creates_at i) d.lists.down ≡ count_by (creates_at i) c.lists.down = ap (λ (l : List Told). count_by (creates_at i) l) is in omega (arith, e))

more-down : (c d : Joined) (more : List Told) → d.lists.down ≡ c.lists.down ++ more → (i : ℕ) → count_by (creates_at i) c.lists.down ≤ count_by (creates_at i) d.lists.down
more-down c d more is i =
    (let e : count_by (creates_at i) d.lists.down ≡ count_by (creates_at i) (c.lists.down ++ more) = ap (λ (l : List Told). count_by (creates_at i) l) is in
    let le : count_by (creates_at i) c.lists.down ≤ count_by (creates_at i) (c.lists.down ++ more) = count-more (creates_at i) c.lists.down more in
    omega (arith, e, le))

each-places : (f : Handle → OpenChannel → OpenChannel) (n : ℕ) (t : Table OpenChannel) (i : ℕ) (p : Place OpenChannel) → At (with_each_from n f t) i p → (q : Place OpenChannel) × At t i q × (p.generation ≡ q.generation)
each-places f n [] i p at = absurd (none_at i p at)
each-places f n (q ∷ t) zero p at = (q, refl, ap (λ (z : Place OpenChannel). z.generation) (sym (some_is _ p at)))
each-places f n (q ∷ t) (suc i) p at = each-places f (n + 1) t i p at

numbered-down : (c : Joined) (keys : List SubKey) → (fold with_number c keys).lists ≡ c.lists
numbered-down c [] = refl
numbered-down c (k ∷ keys) = numbered-down (with_number c k) keys

leaves-channels : (us : List Update) (e after : ServerEnd) → FoldsTo Leaves e us after → after.channels ≡ e.channels
leaves-channels [] e after same = ap (λ (x : ServerEnd). x.channels) (sym same)
leaves-channels (u ∷ us) e after (mid, one, rest) = leaves-channels us mid after rest ∙ ap (λ (x : ServerEnd). x.channels) one.leaves

-- a channel is cleared
freed-places : (t : Table OpenChannel) (h : Handle) (v : OpenChannel) → under t h ≡ Some v → (i : ℕ) (p : Place OpenChannel) → At (with_freed h t) i p → (q : Place OpenChannel) × At t i q × (p.generation ≡ q.generation)
freed-places t h v there i p at = go (is_some (under t h)) at
  where
    free : Place OpenChannel
    free = record { generation = h.generation; value = None }

    go : (b : Bool) → At (cond b (slice_set t h.index free) t) i p → (q : Place OpenChannel) × At t i q × (p.generation ≡ q.generation)
    go true set = elim (At-set t h.index free i p set) [
      | inl own ↦ (table.place h v, subst (λ (n : ℕ). At t n (table.place h v)) (sym own.0) (under-at t h v there), ap (λ (z : Place OpenChannel). z.generation) own.1)
      | inr old ↦ (p, old.0, refl)
    ]
    go false old = (p, old, refl)

cleared-places : (e : ServerEnd) (sid : ℕ) (i : ℕ) (p : Place OpenChannel) → At (without_channel sid e).channels i p → (q : Place OpenChannel) × At e.channels i q × (p.generation ≡ q.generation)
cleared-places e sid i p at = go (by_wire e.channels sid) refl at
  where
    go : (o : Option (Handle × OpenChannel)) → by_wire e.channels sid ≡ o → At (unwrap_or (option_map (λ (c : Handle × OpenChannel). with_freed c.0 e.channels) o) e.channels) i p → (q : Place OpenChannel) × At e.channels i q × (p.generation ≡ q.generation)
    go None is there = (p, there, refl)
    go (Some found) is there = freed-places e.channels found.0 found.1 (wire-under e.channels sid found is).0 i p there

-- a channel is created
held-places : (t : Table OpenChannel) (h : Handle) (v : OpenChannel) → MayGive t h → (i : ℕ) (p : Place OpenChannel) → At (with_held h v t) i p
    → ((i ≡ h.index) × (p.generation ≡ (place_at t h.index).generation + 1)) ⊎ At t i p
held-places t h v may i p at = go (eqb h.index (length t)) refl at
  where
    own : Place OpenChannel
    own = record { generation = h.generation; value = Some v }

    go : (b : Bool) → eqb h.index (length t) ≡ b → At (cond b (t ++ own ∷ []) (slice_set t h.index own)) i p → ((i ≡ h.index) × (p.generation ≡ (place_at t h.index).generation + 1)) ⊎ At t i p
    go true is there = elim (At-snoc t own i p there) [
      | inl old ↦ inr old
      | inr last ↦ inl (last.0 ∙ sym (eqb-true h.index (length t) is), ap (λ (z : Place OpenChannel). z.generation) last.1 ∙ may.next)
    ]
    go false is there = elim (At-set t h.index own i p there) [
      | inl new ↦ inl (new.0, ap (λ (z : Place OpenChannel). z.generation) new.1 ∙ may.next)
      | inr old ↦ inr old.0
    ]

created-counts : (y : Server) (e new : ServerEnd) (s : Sent) (replies : List Fields) (ch : KnownChannel) (step : Step) (c : Joined) → Due (knows y e) s.message replies (Opens ch) → Acts y e (Opens ch) new → CountedOn e c
    → CountedOn new (handled_at (length c.lists.handled) step replies (numbers_after (length c.lists.handled) (Opens ch) c))
created-counts y e new s replies ch step c due (h, may, wire, is) counted i p at =
    elim (held-places e.channels h _ may i p (subst (λ (x : ServerEnd). At x.channels i p) is at)) [
      | inr old ↦ (let le : p.generation ≤ count_by (creates_at i) c.lists.down = counted i p old in let more : count_by (creates_at i) c.lists.down ≤ count_by (creates_at i) (c.lists.down ++ told) = count-more (creates_at i) c.lists.down told in omega (arith, le, more))
      | inl own ↦
          let le : (place_at e.channels h.index).generation ≤ count_by (creates_at h.index) c.lists.down = last (At-or e.channels h.index) in
          let one : count_by (creates_at h.index) c.lists.down + 1 ≤ count_by (creates_at h.index) (c.lists.down ++ told) = count-one (creates_at h.index) c.lists.down told 1 reply reply-at counts in
          let at_i : count_by (creates_at i) (c.lists.down ++ told) ≡ count_by (creates_at h.index) (c.lists.down ++ told) = ap (λ (n : ℕ). count_by (creates_at n) (c.lists.down ++ told)) own.0 in
          let g : p.generation ≡ (place_at e.channels h.index).generation + 1 = own.1 in
          omega (arith, le, one, at_i, g)
    ]
  where
    told : List Told
    told = about (length c.lists.handled) Reply replies

    same-opens : (a b : KnownChannel) → Opens a ≡ Opens b → a.sid ≡ b.sid
    same-opens a b e1 = ap sid e1
      where
        sid : Action → ℕ
        sid (Opens z) = z.sid
        sid z = 0

    made : IsCreated (knows y e) s.message replies (Opens ch)
    made = (due-opens (knows y e) s.message replies ch due).1

    answer : Fields
    answer = created_reply s.message (base_number (base_of made.known.state.value)) made.known.state.count made.sid

    reply : Told
    reply = record { message = answer; place = length c.lists.handled; cause = Reply }

    reply-at : At told 1 reply
    reply-at = At-map (λ (m : Fields). let z : Told = record { message = m; place = length c.lists.handled; cause = Reply } in z) replies 1 answer (subst (λ (l : List Fields). At l 1 answer) (sym made.are) refl)

    sid-is : made.sid ≡ wire_of h
    sid-is = sym (same-opens ch _ made.does) ∙ sym wire

    index-is : made.sid % arena_slots ≡ h.index
    index-is = ap (λ (n : ℕ). n % arena_slots) sid-is ∙ wire_of-index h (let lt : h.index < arena_slots = may.slot in omega (arith, lt))

    counts : creates_at h.index reply ≡ true
    counts = eq-eqb (made.sid % arena_slots) h.index index-is

    last : ((q : Place OpenChannel) × At e.channels h.index q) ⊎ (length e.channels ≤ h.index) → (place_at e.channels h.index).generation ≤ count_by (creates_at h.index) c.lists.down
    last (inl (q, there)) =
        (let is_q : (place_at e.channels h.index).generation ≡ q.generation = ap (λ (z : Place OpenChannel). z.generation) (get_or_from_slice_get e.channels h.index q blank there) in
        let le : q.generation ≤ count_by (creates_at h.index) c.lists.down = counted h.index q there in
        omega (arith, is_q, le))
    last (inr past) = (let none : (place_at e.channels h.index).generation ≡ 0 = ap (λ (z : Place OpenChannel). z.generation) (get_or_past e.channels h.index blank past) in omega (arith, none))

-- ---- over events

counted-handled : Handled (λ (n : ℕ). CountedOn)
counted-handled n y e new s replies did step c at due acts h = go did due acts
  where
    place_of : ℕ
    place_of = length c.lists.handled

    told : List Told
    told = about place_of Reply replies

    after : Action → Joined
    after did = handled_at place_of step replies (numbers_after place_of did c)

    alike : (did : Action) → new.channels ≡ e.channels → (after did).lists.down ≡ c.lists.down ++ told → CountedOn new (after did)
    alike did channels down = counted-on e new c (after did) (same-places e new channels) (more-down c (after did) told down) h

    go : (did : Action) → Due (knows y e) s.message replies did → Acts y e did new → CountedOn new (after did)
    go (Opens ch) due acts = created-counts y e new s replies ch step c due acts h
    go (Clears sid) due acts = counted-on e new c (after (Clears sid)) (λ i p there. cleared-places e sid i p (subst (λ (x : ServerEnd). At x.channels i p) acts there)) (more-down c (after (Clears sid)) told refl) h
    go (Adds sub) due acts = alike (Adds sub) (ap (λ (x : ServerEnd). x.channels) acts.2.leaves) refl
    go (Drops key) due acts = alike (Drops key) (ap (λ (x : ServerEnd). x.channels) acts) refl
    go (Switches on) due acts = alike (Switches on) (ap (λ (x : ServerEnd). x.channels) acts) refl
    go action.Greets due acts = alike action.Greets (ap (λ (x : ServerEnd). x.channels) acts) refl
    go (action.Names x) due acts = alike (action.Names x) (ap (λ (z : ServerEnd). z.channels) acts) refl
    go action.Nothing due acts = alike action.Nothing (ap (λ (x : ServerEnd). x.channels) acts) refl
    go (Applies name value busies) due acts = alike (Applies name value busies) (ap (λ (x : ServerEnd). x.channels) acts) refl
    go (action.Waits name value) due acts = alike (action.Waits name value) (ap (λ (x : ServerEnd). x.channels) acts) refl

counted-lasting : Lasting (λ (n : ℕ). CountedOn)
counted-lasting = record {
  stays = λ n e f c d held goes h. counted-on e f c d (same-places e f held.channels) (same-down c d goes.down) h;
  posted = λ n name mask v e c h. counted-on e (with_post name mask v e) c (numbered_for name mask e c) (same-places e (with_post name mask v e) refl) (same-down c (numbered_for name mask e c) (ap (λ (l : Circuit). l.down) (numbered-down c (map key_of (filter (concerns name mask) e.subscriptions))))) h;
  removed = λ n name e c h. counted-on e (end_without name e) c (told_gone (channels_of name e) c) (each-places (retired name) 0 e.channels) (more-down c (told_gone (channels_of name e) c) (map (removal_told c.creations) (channels_of name e)) refl) h;
  pumped = λ n us e after c folds h. counted-on e after c (stamped us c) (same-places e after (leaves-channels us e after folds)) (more-down c (stamped us c) (stamped_told us c) (ap (λ (l : Circuit). l.down) (stamped-is us c))) h;
  replied = λ n e c place ms h. counted-on e e c (told_late place ms c) (same-places e e refl) (more-down c (told_late place ms c) (about place Reply ms) refl) h;
}

counted-begun : (w : World) → Begins (λ (n : ℕ). CountedOn) w
counted-begun w n moment c more new i p at = absurd (none_at i p at)

run-counted : (s : Setting) (es : List Event) (stopped : Option Event) (w : World) → IsSetting s → Runs s es stopped w → AllEnds (λ (n : ℕ). CountedOn) w
run-counted s es stopped w ok runs = run-lasts (λ (n : ℕ). CountedOn) counted-lasting counted-begun counted-handled s es stopped w ok runs (runs-take s es ok)

-- ---- no SID may be given

and-both : (a b : Bool) → a && b ≡ true → (a ≡ true) × (b ≡ true)
and-both true b e = (refl, e)
and-both false b e = absurd cc

not-true : (b : Bool) → not b ≡ true → b ≡ false
not-true true e = absurd cc
not-true false e = refl

none-passes : {A : Type 0} (test : A → Bool) (xs : List A) (i : ℕ) (x : A) → list_any test xs ≡ false → At xs i x → test x ≡ false
none-passes test [] i x none at = absurd (none_at i x at)
none-passes {A} test (y ∷ xs) i x none at = go (test y) refl none i at (λ k there rest. none-passes test xs k x rest there)
  where
    first : At (y ∷ xs) 0 x → y ≡ x
    first e = cc

    go : (b : Bool) → test y ≡ b → b || list_any test xs ≡ false → (i : ℕ) → At (y ∷ xs) i x → ((k : ℕ) → At xs k x → list_any test xs ≡ false → test x ≡ false) → test x ≡ false
    go true is none i at rest = absurd cc
    go false is none zero at rest = ap test (sym (first at)) ∙ is
    go false is none (suc i) at rest = rest i at none

full-is : (e : ServerEnd) (c : Joined) (y : Server) → length e.channels ≤ arena_slots → CountedOn e c → (knows y e).full ≡ true → IsFull (as_known c.lists) (knows y e)
full-is e c y few counted is i lt = go (At-or e.channels i)
  where
    both : (nat_le arena_slots (length e.channels) ≡ true) × (not (has_free e.channels) ≡ true)
    both = and-both (nat_le arena_slots (length e.channels)) (not (has_free e.channels)) is

    long : arena_slots ≤ length e.channels
    long = leb-true arena_slots (length e.channels) both.0

    no-free : (p : Place OpenChannel) → At e.channels i p → not (is_some p.value) && nat_lt p.generation last_generation ≡ false
    no-free p at = none-passes (λ (p : Place OpenChannel). not (is_some p.value) && nat_lt p.generation last_generation) e.channels i p (not-true (has_free e.channels) both.1) at

    at-place : (p : Place OpenChannel) → At e.channels i p → (o : Option OpenChannel) → p.value ≡ o → ((ch : KnownChannel) × In (knows y e).channels ch × (ch.sid % arena_slots ≡ i)) ⊎ (last_generation ≤ count_by (creates_at i) c.lists.down)
    at-place p at None none =
        (let f : nat_lt p.generation last_generation ≡ false = ap (λ (o : Option OpenChannel). not (is_some o) && nat_lt p.generation last_generation) (sym none) ∙ no-free p at in
        let le : last_generation ≤ p.generation = ltb-false p.generation last_generation f in
        let g : p.generation ≤ count_by (creates_at i) c.lists.down = counted i p at in
        inr (omega (arith, le, g)))
    at-place p at (Some v) is_v =
        let h : Handle = record { index = i; generation = p.generation } in
        let own : p ≡ table.place h v = ap (λ (o : Option OpenChannel). let q : Place OpenChannel = record { generation = p.generation; value = o } in q) is_v in
        let there : under e.channels h ≡ Some v = at-under e.channels h v (subst (λ (q : Place OpenChannel). At e.channels i q) own at) in
        let listed = under-held e.channels h v there in
        inl (known_channel (h, v), (listed.0, At-map known_channel (held e.channels) listed.0 (h, v) listed.1), wire_of-index h (omega (arith, lt)))

    go : ((p : Place OpenChannel) × At e.channels i p) ⊎ (length e.channels ≤ i) → ((ch : KnownChannel) × In (knows y e).channels ch × (ch.sid % arena_slots ≡ i)) ⊎ (last_generation ≤ count_by (creates_at i) c.lists.down)
    go (inl (p, at)) = at-place p at p.value refl
    go (inr past) = absurd (omega (arith, past, long, lt))

pub run-know-full : (s : Setting) (es : List Event) (stopped : Option Event) (w : World) → IsSetting s → Runs s es stopped w → KnowFull w
run-know-full s es stopped w ok runs n c y e at there opened has is =
    full-is e c y.core ((run-serves s es stopped w ok runs).channels n c y e at there opened has).few (run-counted s es stopped w ok runs n c y e at there opened has) is
