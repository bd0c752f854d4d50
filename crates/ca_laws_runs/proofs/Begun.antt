-- A removal, updates that leave, a new circuit, and messages that are handled keep subscriptions
-- beside the posts that they see.
use Rattle.std.proofs.Common.{◌≡◌, ℕ, zero, suc, ◌+◌, ◌⊎◌, inl, inr, Bool, true, false, cond, not, ◌&&◌, ◌||◌, eqb, eq-eqb, List, [], ◌∷◌, ◌++◌, length, Some, None, refl, sym, ap, subst, ◌∙◌, append-nil, arith}
use Rattle.std.specs.Prelude.{filter, map, replicate}
use Rattle.std.specs.List.{FoldsTo, cons_option, flat_map, list_any}
use Rattle.std.specs.Str.{bytes_eq}
use Rattle.ca_arena.specs.declared.handle.Handle.{Handle}
use Rattle.ca_ids.specs.Table.{held, under}
use Rattle.ca_ids.specs.Wire.{wire_of}
use Rattle.ca_model.proofs.Tables.{under-held}
use Rattle.ca_queue.specs.declared.entry.SubKey.{SubKey}
use Rattle.ca_queue.specs.Images.{queue_images}
use Rattle.ca_queue.specs.Keys.{AreApart, is_among}
use Rattle.ca_queue.specs.Queue.{Queue, no_queue}
use Rattle.ca_queue.specs.Waiting.{entries_of}
use Rattle.ca_text.specs.Limits.{circuit_queues}
use Rattle.ca_text.specs.Place.{At}
use Rattle.ca_text.proofs.Places.{some_is, At-map, At-mapped, At-parts}
use Rattle.ca_model.specs.History.{Entry, Removal, Removed, Sent, Step, Told, Update, Withdrawn}
use Rattle.ca_model.specs.Server.{OpenChannel, ServerEnd, Subscription, key_of, new_end}
use Rattle.ca_model.specs.ServerCalls.{channels_of, end_without, is_on, retired}
use Rattle.ca_model.specs.ServerSteps.{Leaves}
use Rattle.ca_model.specs.ServerSteps as stepped
use Rattle.ca_model.specs.Posts.{matching, post_in}
use Rattle.ca_model.specs.ServerEvents.{number_of, removal_entries, removal_told, stamped}
use Rattle.ca_model.specs.World.{Creation, Joined, PutPlace, RecordSide, Standing}
use Rattle.ca_laws_parts.proofs.Since.{stamped-parts}
use Rattle.ca_laws_parts.specs.InStep.{Numbered, number_in, value_in}
use Rattle.ca_laws_parts.specs.Both.{Both}
use Rattle.ca_laws_parts.proofs.Cores.{each-there}
use Rattle.ca_laws_parts.proofs.InStepLasts.{pumped-subs}
use Rattle.ca_laws_parts.proofs.Lasting.{IsNew, told_gone}
use Rattle.ca_laws_parts.proofs.WritesLists.{both-all, kept-in, none_at}
use Rattle.ca_laws_runs.specs.Entries.{title}
use Rattle.ca_laws_runs.specs.Follows.{Follows, Stands, logged_at, posts_by}
use Rattle.ca_laws_runs.specs.Holds.{Counts, Holds, sent_numbers}
use Rattle.ca_laws_runs.proofs.Changing.{holds-like}
use Rattle.ca_laws_runs.proofs.Followed.{follows-without}
use Rattle.ca_laws_runs.proofs.PostFollowing.{ArePostless, length-more, matching-same, number-less, other-bytes, same-bytes, same-channels, stands-on, stands-within, titled}
use Rattle.ca_laws_runs.proofs.Pumping.{holds-pumped, sent-more}

-- ---- a removal

removal-none : (creations : List Creation) (gone : List (Handle × OpenChannel)) (place : ℕ) → sent_numbers place (map (removal_told creations) gone) ≡ []
removal-none creations [] place = refl
removal-none creations (c ∷ gone) place = go (eqb (removal_told creations c).place place) ∙ removal-none creations gone place
  where
    go : (b : Bool) → cons_option (cond b None None) (sent_numbers place (map (removal_told creations) gone)) ≡ sent_numbers place (map (removal_told creations) gone)
    go true = refl
    go false = refl

no-update : (a : ℕ) → Removal ≡ Update a → ⊥
no-update a e = cc

removed-postless : (name : List ℕ) (rs : List RecordSide) (r : ℕ) → ArePostless r (removal_entries name rs)
removed-postless name rs r e (i, at) passes = all (filter (λ (x : RecordSide). bytes_eq x.name name) rs) i at
  where
    dropped : (ps : List PutPlace) (i : ℕ) → At (map (λ (p : PutPlace). Withdrawn p.circuit p.place) ps) i e → post_in r passes e ≡ None
    dropped ps i at = (let p = At-mapped (λ (p : PutPlace). Withdrawn p.circuit p.place) ps i e at in ap (post_in r passes) p.2)

    entries : RecordSide → List Entry
    entries x = Removed x.number ∷ map (λ (p : PutPlace). Withdrawn p.circuit p.place) x.waiting

    own : (x : RecordSide) (i : ℕ) → At (entries x) i e → post_in r passes e ≡ None
    own x zero at = ap (post_in r passes) (sym (some_is (Removed x.number) e at))
    own x (suc i) at = dropped x.waiting i at

    all : (xs : List RecordSide) (i : ℕ) → At (flat_map entries xs) i e → post_in r passes e ≡ None
    all [] i at = absurd (none_at i e at)
    all (x ∷ xs) i at = go (At-parts (entries x) (flat_map entries xs) i e at) (λ l h. all xs l h)
      where
        go : At (entries x) i e ⊎ ((l : ℕ) × (i ≡ length (entries x) + l) × At (flat_map entries xs) l e) → ((l : ℕ) → At (flat_map entries xs) l e → post_in r passes e ≡ None) → post_in r passes e ≡ None
        go (inl first) rest = own x i first
        go (inr later) rest = rest later.0 later.2

list-any-at : (test : Handle × OpenChannel → Bool) (xs : List (Handle × OpenChannel)) (i : ℕ) (x : Handle × OpenChannel) → At xs i x → test x ≡ true → list_any test xs ≡ true
list-any-at test [] i x at is = absurd (none_at i x at)
list-any-at test (y ∷ ys) zero x at is = ap (λ (b : Bool). b || list_any test ys) (ap test (some_is y x at) ∙ is)
list-any-at test (y ∷ ys) (suc i) x at is = go (test y) (list-any-at test ys i x at is)
  where
    go : (b : Bool) → list_any test ys ≡ true → b || list_any test ys ≡ true
    go true e = refl
    go false e = e

clash : (b : Bool) → b ≡ true → b ≡ false → ⊥
clash true e f = cc
clash false e f = cc

pub follows-removed : (log : List Entry) (rs : List RecordSide) (name : List ℕ) (e : ServerEnd) (c : Joined) → Follows log rs e c
    → Follows (log ++ removal_entries name rs) (filter (λ (r : RecordSide). not (bytes_eq r.name name)) rs) (end_without name e) (told_gone (channels_of name e) c)
follows-removed log rs name e c p =
    follows-without log (log ++ removal_entries name rs) rs rt gone e (end_without name e) c1 (told_gone (channels_of name e) c) refl refl refl refl refl (length-more log (removal_entries name rs))
    (λ sub st out s k there.
    let r = titled rs (sub.name, k) there in
    let named : sub.name ≡ r.0.name = ap (λ (t : List ℕ × ℕ). t.0) r.2 in
    let kept = kept-in (λ (x : RecordSide). not (bytes_eq x.name name)) rs r.0 r.1 (ap (λ (b : Bool). not b) (other-bytes r.0.name name (λ is. other sub st s out (named ∙ is)))) in
    (kept.0, At-map title rt kept.0 r.0 kept.1 ∙ ap (λ (t : List ℕ × ℕ). Some t) (sym r.2)))
    (λ sub out g ch at sid is stays.
    let differs : ch.name ≡ name → ⊥ = λ same_name. on sub g ch out at sid stays same_name in
    (retired name g ch, each-there (retired name) e.channels g ch at, is, ap (λ (b : Bool). b || bytes_eq ch.name name) stays ∙ other-bytes ch.name name differs))
    (λ sub st out s.
    ap (λ (n : ℕ). matching (log ++ removal_entries name rs) (logged_at c.lists.handled st.place) n sub.mask) (number-less sub.name name rs (λ is. other sub st s out is))
    ∙ matching-same log (removal_entries name rs) (logged_at c.lists.handled st.place) (number_of sub.name rs) sub.mask (stands-within log rs e c1 sub st s) (removed-postless name rs (number_of sub.name rs)))
    (record {
      placed = both-all (Stands log rs e c) (Stands log rs e c1) e.subscriptions c.standing p.placed (λ i sub st a b s. stands-on log log rs rs e e c c1 sub st st refl (λ q x at. at) (λ q h at. at) (omega arith) (λ k there. there) (same-channels e e refl sub) s);
      holds = holds-like (posts_by log rs c.lists.handled) (posts_by log rs c.lists.handled) e.subscriptions e.queues c c1 (omega arith) refl refl
          (λ place. sent-more place c.lists.down (map (removal_told c.creations) (channels_of name e)) ∙ ap (λ (l : List ℕ). sent_numbers place c.lists.down ++ l) (removal-none c.creations (channels_of name e) place) ∙ append-nil (sent_numbers place c.lists.down))
          (λ j a t at cause. elim (At-parts c.lists.down (map (removal_told c.creations) (channels_of name e)) j t at) [
            | inl old ↦ (j, old)
            | inr new ↦ (let x = At-mapped (removal_told c.creations) (channels_of name e) new.0 t new.2 in absurd (no-update a (ap (λ (u : Told). u.cause) (sym x.2) ∙ cause)))
          ])
          (λ i sub st a b. refl) p.holds;
    })
  where
    gone : SubKey → Bool
    gone = is_on (channels_of name e)

    rt : List RecordSide
    rt = filter (λ (r : RecordSide). not (bytes_eq r.name name)) rs

    c1 : Joined
    c1 = record c { lists = record c.lists { down = c.lists.down ++ map (removal_told c.creations) (channels_of name e) } }

    -- a channel of the record that is removed has its subscriptions ended
    on : (sub : Subscription) (g : Handle) (ch : OpenChannel) → gone (key_of sub) ≡ false → under e.channels g ≡ Some ch → wire_of g ≡ sub.wanted.sid → ch.retired ≡ false → ch.name ≡ name → ⊥
    on sub g ch out at sid stays is =
        let there = under-held e.channels g ch at in
        let kept = kept-in (λ (x : Handle × OpenChannel). bytes_eq x.1.name name && not x.1.retired) (held e.channels) (g, ch) there
        (ap (λ (b : Bool). b && not ch.retired) (same-bytes ch.name name is) ∙ ap (λ (b : Bool). not b) stays) in
        clash (gone (key_of sub)) (list-any-at (λ (x : Handle × OpenChannel). eqb (wire_of x.0) (key_of sub).sid) (channels_of name e) kept.0 (g, ch) kept.1 (eq-eqb (wire_of g) sub.wanted.sid sid)) out

    other : (sub : Subscription) (st : Standing) → Stands log rs e c1 sub st → gone (key_of sub) ≡ false → sub.name ≡ name → ⊥
    other sub st s out is = on sub s.g s.ch out s.channel s.sid s.stays (s.name ∙ is)

-- ---- updates leave

leaves-channels : (us : List stepped.Update) (e after : ServerEnd) → FoldsTo Leaves e us after → after.channels ≡ e.channels
leaves-channels [] e after same_end = ap (λ (x : ServerEnd). x.channels) (sym same_end)
leaves-channels (u ∷ us) e after (mid, one, rest) = leaves-channels us mid after rest ∙ ap (λ (x : ServerEnd). x.channels) one.leaves

pub follows-pumped : (log : List Entry) (rs : List RecordSide) (us : List stepped.Update) (e after : ServerEnd) (c : Joined) → FoldsTo Leaves e us after → Follows log rs e c → Follows log rs after (stamped us c)
follows-pumped log rs us e after c folds p =
    let parts = stamped-parts us c in
    let d : Joined = stamped us c in
    record {
      placed = subst (λ (l : List Subscription). Both (Stands log rs after d) l d.standing) (sym (pumped-subs us e after folds))
          (subst (λ (l : List Standing). Both (Stands log rs after d) e.subscriptions l) (sym parts.2)
          (both-all (Stands log rs e c) (Stands log rs after d) e.subscriptions c.standing p.placed
          (λ i sub st a b s. stands-on log log rs rs e after c d sub st st refl (λ q x at. subst (λ (l : List Sent). At l q x) (sym parts.0) at) (λ q h at. subst (λ (l : List Step). At l q h) (sym parts.1) at) (omega arith) (λ k there. there)
          (same-channels e after (leaves-channels us e after folds) sub) s)));
      holds = subst (λ (l : List Step). Holds (posts_by log rs l) after.subscriptions after.queues d) (sym parts.1) (holds-pumped (posts_by log rs c.lists.handled) us e after c folds p.holds);
    }

-- ---- a new circuit

none-images : {F : Type 0} (f : Numbered → F) (n : ℕ) → let none : Queue F = no_queue in let other : Queue Numbered = no_queue in replicate n none ≡ map (queue_images f) (replicate n other)
none-images f zero = refl
none-images {F} f (suc n) = (let none : Queue F = no_queue in ap (λ (l : List (Queue F)). none ∷ l) (none-images f n))

no-queue-at : (n i : ℕ) (x : Queue Numbered) → At (replicate n no_queue) i x → x ≡ no_queue
no-queue-at zero i x at = absurd (none_at i x at)
no-queue-at (suc n) zero x at = sym (some_is no_queue x at)
no-queue-at (suc n) (suc i) x at = no-queue-at n i x at

pub follows-begins : (log : List Entry) (rs : List RecordSide) (moment : ℕ) (c : Joined) → IsNew c → Follows log rs (new_end moment) c
follows-begins log rs moment c n = record {
  placed = subst (λ (l : List Standing). Both (Stands log rs (new_end moment) c) [] l) (sym n.standing) tt;
  holds = record {
    both = replicate circuit_queues no_queue;
    values_are = none-images value_in circuit_queues;
    numbers_are = n.queues ∙ none-images number_in circuit_queues;
    each = subst (λ (l : List Standing). Both (Counts (posts_by log rs c.lists.handled) c.lists.down (replicate circuit_queues no_queue)) [] l) (sym n.standing) tt;
    apart = subst (λ (l : List Standing). AreApart (map (λ (s : Standing). s.key) l)) (sym n.standing) tt;
    lone = λ i j s t at other is. absurd (none_at i s (subst (λ (l : List Standing). At l i s) n.standing at));
    seats = λ i x k at has. absurd (clash (is_among k x.subscriptions) has (ap (λ (q : Queue Numbered). is_among k q.subscriptions) (no-queue-at circuit_queues i x at)));
    tidy = λ i x k at none. ap (λ (q : Queue Numbered). entries_of k q.waiting) (no-queue-at circuit_queues i x at);
    stood = λ i st at. absurd (none_at i st (subst (λ (l : List Standing). At l i st) n.standing at));
    early = λ j a t at cause. absurd (none_at j t (subst (λ (l : List Told). At l j t) n.down at));
  };
}
