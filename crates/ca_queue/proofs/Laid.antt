-- The fields of an event queue, after each call.
use Rattle.std.proofs.Common.{◌≡◌, ℕ, ◌+◌, ◌-◌, ◌<◌, ◌≤◌, Bool, true, false, not, ◌&&◌, ◌||◌, cond, List, [], ◌∷◌, ◌++◌, length, map, drop, Some, None, refl, sym, ap, ◌∙◌, subst, inl, inr, arith, ltb, leb}
use Rattle.std.specs.List.{list_any, filter}
use Rattle.std.specs.Prelude.{is_some}
use Rattle.std.proofs.lemmas.Bool.{cases_Bool, both_ways, or_left, ltb-false}
use Rattle.std.proofs.lemmas.List.{map-append, length-map}
use Rattle.std.proofs.lemmas.List.Sums.{length-filter, count_by-le-length}
use Rattle.ca_text.specs.Limits.{queue_places, queue_low_places, queue_subscriptions}
use Rattle.ca_queue.specs.declared.entry.SubKey.{SubKey}
use Rattle.ca_queue.specs.declared.list_queue.Subscriber.{Subscriber}
use Rattle.ca_queue.specs.Keys.{same, is_among}
use Rattle.ca_queue.specs.Waiting.{is_of, has_entry, count_of, free_places, replaces, with_last, after_cancel, front, may_take, taken}
use Rattle.ca_queue.specs.Queue.{Queue, no_queue, added, posted, with_front_taken, cancelled}
use Rattle.ca_queue.specs.Sound.{IsSound}
use Rattle.ca_queue.specs.Layout.{keys_of, count_at, recounted, queue_of, counts, HasRoom, IsLaidOut}
use Rattle.ca_queue.proofs.Keys.{same_itself, other_sym, number_of, count_by-cons}
use Rattle.ca_queue.proofs.Entries.{count_alike, keys_with_last, count_push, has_count}
use Rattle.ca_queue.proofs.Counts.{keys_recounted, counts_alike, counts_recounted, count_at_counts, counts_forgotten, keys_forgotten}
use Rattle.ca_queue.proofs.Crowds.{crowded_counts}
use Rattle.ca_queue.proofs.Soundness.{sound_none, sound_added, sound_posted, finds_place, sound_taken, sound_cancelled, sound_switched}

-- counting changes no room
room_after : (key : SubKey) (n : ℕ) (subscriptions new : List Subscriber) (places room : ℕ) → new ≡ map (recounted key n) subscriptions → HasRoom subscriptions places room → HasRoom new places room
room_after key n subscriptions new places room new_is roomy some =
    roomy (omega (arith, ap length new_is, length-map subscriptions (recounted key n)))

module _ {E : Type 0} where
  -- these fields are right, and stand for this queue
  pub record AreFor (entries : List (SubKey × E)) (subscriptions : List Subscriber) (on : Bool) (places room : ℕ) (q : Queue E) : Type 0 where
    pub laid_out : IsLaidOut entries subscriptions on places room
    pub is : queue_of entries subscriptions on ≡ q

  pub sound_for : (entries : List (SubKey × E)) (subscriptions : List Subscriber) (on : Bool) (places room : ℕ) (q : Queue E) → AreFor entries subscriptions on places room q → IsSound q
  sound_for entries subscriptions on places room q are = subst IsSound are.is are.laid_out.sound

  are_from : (entries : List (SubKey × E)) (subscriptions : List Subscriber) (on : Bool) (places room : ℕ) (q : Queue E) → queue_of entries subscriptions on ≡ q → IsSound q → subscriptions ≡ counts (keys_of subscriptions) entries → HasRoom subscriptions places room → AreFor entries subscriptions on places room q
  are_from entries subscriptions on places room q is sound counted roomy =
      record { laid_out = record { sound = subst IsSound (sym is) sound; counted = counted; roomy = roomy }; is = is }

  pub laid_none : (on : Bool) (places room : ℕ) → IsLaidOut {E = E} [] [] on places room
  laid_none on places room = record {
    sound = sound_switched on no_queue sound_none;
    counted = refl;
    roomy = λ some. absurd (omega arith);
  }

  pub adds : (key : SubKey) (entries : List (SubKey × E)) (subscriptions : List Subscriber) (on : Bool) (old_places old_room places room : ℕ) → IsLaidOut entries subscriptions on old_places old_room → length subscriptions < queue_subscriptions → is_among key (keys_of subscriptions) ≡ false → queue_places ≤ places → queue_subscriptions ≤ room → AreFor entries (subscriptions ++ record { key = key; waiting = 0 } ∷ []) on places room (added key (queue_of entries subscriptions on))
  adds key entries subscriptions on old_places old_room places room laid_out less new enough_places enough_room =
      let s : Subscriber = record { key = key; waiting = 0 } in
      let keys : keys_of (subscriptions ++ s ∷ []) ≡ keys_of subscriptions ++ key ∷ [] = map-append (λ t. t.key) subscriptions (s ∷ []) in
      let none : has_entry key entries ≡ false = has_none_yet in
      let zero_count : count_of key entries ≡ 0 = omega (arith, ltb-false 0 (count_of key entries) (sym (has_count key entries) ∙ none)) in
      let shorter : length (keys_of subscriptions) ≡ length subscriptions = length-map subscriptions (λ t. t.key) in
      let is : queue_of entries (subscriptions ++ s ∷ []) on ≡ added key (queue_of entries subscriptions on) =
      ap (λ (ks : List SubKey). let q : Queue E = record { waiting = entries; subscriptions = ks; events_on = on } in q) keys in
      let with_it : counts (keys_of subscriptions ++ key ∷ []) entries ≡ counts (keys_of subscriptions) entries ++ record { key = key; waiting = count_of key entries } ∷ [] =
      map-append (λ k. record { key = k; waiting = count_of k entries }) (keys_of subscriptions) (key ∷ []) in
      are_from entries (subscriptions ++ s ∷ []) on places room (added key (queue_of entries subscriptions on)) is
      (sound_added key (queue_of entries subscriptions on) (omega arith) new laid_out.sound)
      (ap (λ (ss : List Subscriber). ss ++ s ∷ []) laid_out.counted
      ∙ ap (λ (n : ℕ). counts (keys_of subscriptions) entries ++ record { key = key; waiting = n } ∷ []) (sym zero_count)
      ∙ sym (ap (λ (ks : List SubKey). counts ks entries) keys ∙ with_it))
      (λ some. (enough_places, enough_room))
    where
      has_none_yet : has_entry key entries ≡ false
      has_none_yet =
          elim (cases_Bool (has_entry key entries)) [
            | inl has ↦ absurd (both_ways (is_among key (keys_of subscriptions)) new (laid_out.sound.known key has))
            | inr none ↦ none
          ]

  pub posts_replacing : (key : SubKey) (entry : E) (entries left : List (SubKey × E)) (subscriptions : List Subscriber) (on : Bool) (places room : ℕ) → IsLaidOut entries subscriptions on places room → is_among key (keys_of subscriptions) ≡ true → replaces on key entries ≡ true → left ≡ with_last key entry entries → AreFor left subscriptions on places room (posted key entry (queue_of entries subscriptions on))
  posts_replacing key entry entries left subscriptions on places room laid_out there goes left_is =
      let q : Queue E = queue_of entries subscriptions on in
      let is : queue_of (with_last key entry entries) subscriptions on ≡ posted key entry q =
      ap (λ (b : Bool). let r : Queue E = record { waiting = cond b (with_last key entry entries) (entries ++ (key, entry) ∷ []); subscriptions = keys_of subscriptions; events_on = on } in r) (sym goes) in
      let are : AreFor (with_last key entry entries) subscriptions on places room (posted key entry q) =
      are_from (with_last key entry entries) subscriptions on places room (posted key entry q) is (sound_posted key entry q there laid_out.sound)
      (laid_out.counted ∙ counts_alike (keys_of subscriptions) entries (with_last key entry entries) (λ k. sym (count_alike k (with_last key entry entries) entries (keys_with_last key entry entries))))
      laid_out.roomy in
      subst (λ (es : List (SubKey × E)). AreFor es subscriptions on places room (posted key entry q)) (sym left_is) are

  pub posts_behind : (key : SubKey) (entry : E) (n : ℕ) (entries left : List (SubKey × E)) (subscriptions new : List Subscriber) (on : Bool) (places room : ℕ) → IsLaidOut entries subscriptions on places room → is_among key (keys_of subscriptions) ≡ true → replaces on key entries ≡ false → n ≡ count_at key subscriptions → left ≡ entries ++ (key, entry) ∷ [] → new ≡ map (recounted key (n + 1)) subscriptions → AreFor left new on places room (posted key entry (queue_of entries subscriptions on))
  posts_behind key entry n entries left subscriptions new on places room laid_out there goes n_is left_is new_is =
      let q : Queue E = queue_of entries subscriptions on in
      let longer : List (SubKey × E) = entries ++ (key, entry) ∷ [] in
      let keys : keys_of new ≡ keys_of subscriptions = ap keys_of new_is ∙ keys_recounted key (n + 1) subscriptions in
      let had : n ≡ count_of key entries = n_is ∙ ap (count_at key) laid_out.counted ∙ count_at_counts key (keys_of subscriptions) entries there in
      let one : number_of (same key key) ≡ 1 = ap number_of (same_itself key) in
      let now : count_of key longer ≡ n + 1 = omega (arith, count_push key key entry entries) in
      let others : (k : SubKey) → same key k ≡ false → count_of k entries ≡ count_of k longer =
      λ k other. let none : number_of (same k key) ≡ 0 = ap number_of (other_sym key k other) in omega (arith, count_push k key entry entries) in
      let is : queue_of longer new on ≡ posted key entry q =
      ap (λ (ks : List SubKey). let r : Queue E = record { waiting = longer; subscriptions = ks; events_on = on } in r) keys
      ∙ ap (λ (b : Bool). let r : Queue E = record { waiting = cond b (with_last key entry entries) longer; subscriptions = keys_of subscriptions; events_on = on } in r) (sym goes) in
      let counted : new ≡ counts (keys_of new) longer =
      new_is ∙ ap (map (recounted key (n + 1))) laid_out.counted ∙ counts_recounted key (n + 1) (keys_of subscriptions) entries longer others now ∙ ap (λ (ks : List SubKey). counts ks longer) (sym keys) in
      let are : AreFor longer new on places room (posted key entry q) =
      are_from longer new on places room (posted key entry q) is (sound_posted key entry q there laid_out.sound) counted (room_after key (n + 1) subscriptions new places room new_is laid_out.roomy) in
      subst (λ (es : List (SubKey × E)). AreFor es new on places room (posted key entry q)) (sym left_is) are

  -- whether a post replaces, by the counts
  pub replaces_by_counts : (key : SubKey) (n len : ℕ) (b : Bool) (entries : List (SubKey × E)) (subscriptions : List Subscriber) (on : Bool) (places room : ℕ) → IsLaidOut entries subscriptions on places room → is_among key (keys_of subscriptions) ≡ true → n ≡ count_at key subscriptions → len ≡ length entries → b ≡ (ltb 0 n && (leb (queue_places - len) queue_low_places || not on)) → replaces on key entries ≡ b
  replaces_by_counts key n len b entries subscriptions on places room laid_out there n_is len_is b_is =
      let had : n ≡ count_of key entries = n_is ∙ ap (count_at key) laid_out.counted ∙ count_at_counts key (keys_of subscriptions) entries there in
      ap (λ (t : Bool). t && (leb (free_places entries) queue_low_places || not on)) (has_count key entries ∙ ap (ltb 0) (sym had))
      ∙ ap (λ (m : ℕ). ltb 0 n && (leb (queue_places - m) queue_low_places || not on)) (sym len_is)
      ∙ sym b_is

  pub count_small : (key : SubKey) (n : ℕ) (entries : List (SubKey × E)) (subscriptions : List Subscriber) (on : Bool) (places room : ℕ) → IsLaidOut entries subscriptions on places room → is_among key (keys_of subscriptions) ≡ true → n ≡ count_at key subscriptions → n ≤ queue_places
  count_small key n entries subscriptions on places room laid_out there n_is =
      let had : n ≡ count_of key entries = n_is ∙ ap (count_at key) laid_out.counted ∙ count_at_counts key (keys_of subscriptions) entries there in
      omega (arith, laid_out.sound.fits, count_by-le-length (is_of key) entries)

  -- an entry that goes to the back finds a place and room for it
  pub has_place : (key : SubKey) (entries : List (SubKey × E)) (subscriptions : List Subscriber) (on : Bool) (places room : ℕ) → IsLaidOut entries subscriptions on places room → is_among key (keys_of subscriptions) ≡ true → replaces on key entries ≡ false → (length entries < queue_places) × (queue_places ≤ places)
  has_place key entries subscriptions on places room laid_out there goes =
      (finds_place key (queue_of entries subscriptions on) there goes laid_out.sound, (laid_out.roomy (some subscriptions there)).0)
    where
      some : (ss : List Subscriber) → is_among key (keys_of ss) ≡ true → 0 < length ss
      some [] there = absurd (both_ways false refl there)
      some (s ∷ ss) there = omega arith

  -- the front, and how many entries its subscription has
  pub front_counts : (w : SubKey × E) (n : ℕ) (entries rest : List (SubKey × E)) (subscriptions : List Subscriber) (on : Bool) (places room : ℕ) → IsLaidOut entries subscriptions on places room → entries ≡ w ∷ rest → n ≡ count_at w.0 subscriptions → n ≡ count_of w.0 rest + 1
  front_counts w n entries rest subscriptions on places room laid_out is n_is =
      let one : number_of (same w.0 w.0) ≡ 1 = ap number_of (same_itself w.0) in
      let has : has_entry w.0 entries ≡ true = ap (has_entry w.0) is ∙ or_left (same w.0 w.0) (has_entry w.0 rest) (same_itself w.0) in
      let all : n ≡ count_of w.0 entries = n_is ∙ ap (count_at w.0) laid_out.counted ∙ count_at_counts w.0 (keys_of subscriptions) entries (laid_out.sound.known w.0 has) in
      omega (arith, ap (count_of w.0) is, count_by-cons (is_of w.0) w rest)

  pub takes : (w : SubKey × E) (n : ℕ) (entries rest : List (SubKey × E)) (subscriptions new : List Subscriber) (on : Bool) (places room : ℕ) → IsLaidOut entries subscriptions on places room → entries ≡ w ∷ rest → may_take on entries ≡ true → n ≡ count_at w.0 subscriptions → new ≡ map (recounted w.0 (n - 1)) subscriptions → AreFor rest new on places room (with_front_taken (queue_of entries subscriptions on))
  takes w n entries rest subscriptions new on places room laid_out is may n_is new_is =
      let q : Queue E = queue_of entries subscriptions on in
      let keys : keys_of new ≡ keys_of subscriptions = ap keys_of new_is ∙ keys_recounted w.0 (n - 1) subscriptions in
      let now : count_of w.0 rest ≡ n - 1 = omega (arith, front_counts w n entries rest subscriptions on places room laid_out is n_is) in
      let others : (k : SubKey) → same w.0 k ≡ false → count_of k entries ≡ count_of k rest =
      λ k other.
      let none : number_of (same k w.0) ≡ 0 = ap number_of (other_sym w.0 k other) in
      omega (arith, ap (count_of k) is, count_by-cons (is_of k) w rest) in
      let is_queue : queue_of rest new on ≡ with_front_taken q =
      ap (λ (ks : List SubKey). let r : Queue E = record { waiting = rest; subscriptions = ks; events_on = on } in r) keys
      ∙ ap (λ (es : List (SubKey × E)). let r : Queue E = record { waiting = drop 1 es; subscriptions = keys_of subscriptions; events_on = on } in r) (sym is)
      ∙ ap (λ (b : Bool). let r : Queue E = record { waiting = cond b (drop 1 entries) entries; subscriptions = keys_of subscriptions; events_on = on } in r) (sym may) in
      let counted : new ≡ counts (keys_of new) rest =
      new_is ∙ ap (map (recounted w.0 (n - 1))) laid_out.counted ∙ counts_recounted w.0 (n - 1) (keys_of subscriptions) entries rest others now ∙ ap (λ (ks : List SubKey). counts ks rest) (sym keys) in
      are_from rest new on places room (with_front_taken q) is_queue (sound_taken q laid_out.sound) counted (room_after w.0 (n - 1) subscriptions new places room new_is laid_out.roomy)

  pub takes_front : (w : SubKey × E) (on : Bool) (entries rest : List (SubKey × E)) → entries ≡ w ∷ rest → may_take on entries ≡ true → Some w ≡ taken on entries
  takes_front w on entries rest is may =
      ap front (sym is) ∙ ap (λ (b : Bool). cond b (front entries) None) (sym may)

  -- nothing may be taken
  pub gives_none : (on : Bool) (entries : List (SubKey × E)) → may_take on entries ≡ false → None ≡ taken on entries
  gives_none on entries not_now = ap (λ (b : Bool). cond b (front entries) None) (sym not_now)

  pub leaves_all : (q : Queue E) → may_take q.events_on q.waiting ≡ false → q ≡ with_front_taken q
  leaves_all q not_now =
      ap (λ (b : Bool). let r : Queue E = record { waiting = cond b (drop 1 q.waiting) q.waiting; subscriptions = q.subscriptions; events_on = q.events_on } in r) (sym not_now)

  -- something waits, and may be taken or not
  pub one_given : (on b : Bool) (entries : List (SubKey × E)) → may_take on entries ≡ b → (length entries ≡ 0 → ⊥) → b ≡ is_some (taken on entries)
  one_given on b [] may some = absurd (some refl)
  one_given on b (w ∷ q) may some = go b ∙ ap (λ (x : Bool). is_some (cond x (Some w) None)) (sym may)
    where
      go : (x : Bool) → x ≡ is_some (cond x (Some w) None)
      go true = refl
      go false = refl

  -- whether an entry may be taken, by the counts
  pub may_by_counts : (b : Bool) (entries : List (SubKey × E)) (subscriptions read : List Subscriber) (on : Bool) (places room : ℕ) → IsLaidOut entries subscriptions on places room → read ≡ subscriptions → b ≡ (on || list_any (λ s. ltb 1 s.waiting) read) → may_take on entries ≡ b
  may_by_counts b entries subscriptions read on places room laid_out read_is b_is =
      ap (λ (t : Bool). on || t) (sym (ap (list_any (λ s. ltb 1 s.waiting)) (read_is ∙ laid_out.counted) ∙ crowded_counts (keys_of subscriptions) entries laid_out.sound.known))
      ∙ sym b_is

  pub cancels : (key : SubKey) (entries left : List (SubKey × E)) (subscriptions new : List Subscriber) (on : Bool) (places room : ℕ) → IsLaidOut entries subscriptions on places room → left ≡ after_cancel key entries → new ≡ filter (λ s. not (same key s.key)) subscriptions → AreFor left new on places room (cancelled key (queue_of entries subscriptions on))
  cancels key entries left subscriptions new on places room laid_out left_is new_is =
      let q : Queue E = queue_of entries subscriptions on in
      let keys : keys_of new ≡ filter (λ s. not (same key s)) (keys_of subscriptions) = ap keys_of new_is ∙ keys_forgotten key subscriptions in
      let is : queue_of left new on ≡ cancelled key q =
      ap (λ (es : List (SubKey × E)). let r : Queue E = record { waiting = es; subscriptions = keys_of new; events_on = on } in r) left_is
      ∙ ap (λ (ks : List SubKey). let r : Queue E = record { waiting = after_cancel key entries; subscriptions = ks; events_on = on } in r) keys in
      let counted : new ≡ counts (keys_of new) left =
      new_is ∙ ap (filter (λ s. not (same key s.key))) laid_out.counted ∙ counts_forgotten key (keys_of subscriptions) entries
      ∙ ap (λ (ks : List SubKey). counts ks (after_cancel key entries)) (sym keys)
      ∙ ap (λ (es : List (SubKey × E)). counts (keys_of new) es) (sym left_is) in
      are_from left new on places room (cancelled key q) is (sound_cancelled key q laid_out.sound) counted
      (λ some. laid_out.roomy (omega (arith, ap length new_is, length-filter (λ s. not (same key s.key)) subscriptions, count_by-le-length (λ s. not (same key s.key)) subscriptions)))

  pub switches : (to on : Bool) (entries : List (SubKey × E)) (subscriptions : List Subscriber) (places room : ℕ) → IsLaidOut entries subscriptions on places room → IsLaidOut entries subscriptions to places room
  switches to on entries subscriptions places room laid_out = record {
    sound = sound_switched to (queue_of entries subscriptions on) laid_out.sound;
    counted = laid_out.counted;
    roomy = laid_out.roomy;
  }
