-- Each change of an open end, its circuit and its server's log keeps its subscriptions beside the
-- posts that they see.
use Rattle.std.proofs.Common.{◌≡◌, ℕ, zero, suc, ◌≤◌, inl, inr, Bool, true, false, cond, not, ◌&&◌, eqb, eq-eqb, ne_eqb, List, [], ◌∷◌, ◌++◌, length, Option, Some, None, refl, sym, ap, subst, ◌∙◌, append-nil, append_assoc, arith}
use Rattle.std.specs.Prelude.{◌%◌, drop, filter, filter_map, option_map, option_to_list, take, unwrap_or}
use Rattle.std.specs.List.{cons_option}
use Rattle.std.specs.Str.{bytes_eq}
use Rattle.std.proofs.lemmas.List.Elements.{filter_map-append}
use Rattle.std.proofs.lemmas.Nat.{and_comm}
use Rattle.std.proofs.lemmas.Slice.Eq.{bytes_eq-Decides}
use Rattle.ca_arena.specs.declared.handle.Handle.{Handle}
use Rattle.ca_ids.specs.Table.{Table, held, under}
use Rattle.ca_ids.specs.Wire.{wire_of}
use Rattle.ca_queue.specs.Order.{last_of}
use Rattle.ca_queue.specs.Queue.{Queue}
use Rattle.ca_records.specs.Record.{RecordState}
use Rattle.ca_text.specs.Place.{At}
use Rattle.ca_text.proofs.Places.{some_is, At-map, At-mapped, At-parts}
use Rattle.ca_wire.specs.Fields.{Fields}
use Rattle.ca_model.specs.History.{Added, Applied, Entry, Finished, Posted, Removed, Reply, Sent, Step, Told, Update, Waits, Withdrawn}
use Rattle.ca_model.specs.Server.{OpenChannel, ServerEnd, Subscription}
use Rattle.ca_model.specs.Speech.{In, Stored, share_bit}
use Rattle.ca_model.specs.Posts.{matching, post_in}
use Rattle.ca_model.specs.ServerEvents.{about, number_of}
use Rattle.ca_model.specs.World.{Joined, RecordSide, Standing, record_begun}
use Rattle.ca_laws_parts.specs.Agrees.{AreOthers}
use Rattle.ca_laws_parts.specs.Both.{Both}
use Rattle.ca_laws_parts.proofs.Frames.{Goes}
use Rattle.ca_laws_parts.proofs.Lasting.{SameHeld, told_late}
use Rattle.ca_laws_parts.proofs.WritesLists.{both-all, both-at, none_at, take-front}
use Rattle.ca_laws_parts.proofs.WritesLives.{number-of}
use Rattle.ca_laws_runs.specs.Entries.{AreQuiet, IsPost, IsQuiet, title, titles}
use Rattle.ca_laws_runs.specs.Follows.{Follows, Stands, logged_at, posts_by}
use Rattle.ca_laws_runs.specs.Holds.{Holds, sent_numbers}
use Rattle.ca_laws_runs.proofs.Changing.{holds-like}
use Rattle.ca_laws_runs.proofs.Pumping.{sent-more}

-- ---- posts, as the log grows

drop-front : {A : Type 0} (i : ℕ) (xs ys : List A) → i ≤ length xs → drop i (xs ++ ys) ≡ drop i xs ++ ys
drop-front zero xs ys le = refl
drop-front (suc i) [] ys le = absurd (omega (arith, le))
drop-front (suc i) (x ∷ xs) ys le = drop-front i xs ys (omega (arith, le))

pub matching-more : (log more : List Entry) (logged r mask : ℕ) → logged ≤ length log → matching (log ++ more) logged r mask ≡ matching log logged r mask ++ filter_map (post_in r (share_bit mask)) more
matching-more log more logged r mask le =
    let all : ℕ → Bool = λ bits. true in
    let first : List Stored = option_to_list (last_of (filter_map (post_in r all) (take logged log))) in
    let later : List Stored = filter_map (post_in r (share_bit mask)) (drop logged log) in
    ap (λ (l : List Entry). option_to_list (last_of (filter_map (post_in r all) l)) ++ filter_map (post_in r (share_bit mask)) (drop logged (log ++ more))) (take-front logged log more le)
    ∙ ap (λ (l : List Entry). first ++ filter_map (post_in r (share_bit mask)) l) (drop-front logged log more le)
    ∙ ap (λ (l : List Stored). first ++ l) (filter_map-append (post_in r (share_bit mask)) (drop logged log) more)
    ∙ sym (append_assoc first later (filter_map (post_in r (share_bit mask)) more))

-- entries that post nothing to a record
abbrev pub ArePostless : (r : ℕ) → List Entry → Type 0
ArePostless r es = (e : Entry) → In es e → (passes : ℕ → Bool) → post_in r passes e ≡ None

pub none-posted : (r : ℕ) (passes : ℕ → Bool) (es : List Entry) → ArePostless r es → filter_map (post_in r passes) es ≡ []
none-posted r passes [] none = refl
none-posted r passes (e ∷ es) none =
    ap (λ (o : Option Stored). cons_option o (filter_map (post_in r passes) es)) (none e (0, refl) passes) ∙ none-posted r passes es (λ x at p. none x (suc at.0, at.1) p)

pub matching-same : (log more : List Entry) (logged r mask : ℕ) → logged ≤ length log → ArePostless r more → matching (log ++ more) logged r mask ≡ matching log logged r mask
matching-same log more logged r mask le none =
    matching-more log more logged r mask le ∙ ap (λ (l : List Stored). matching log logged r mask ++ l) (none-posted r (share_bit mask) more none) ∙ append-nil (matching log logged r mask)

pub quiet-postless : (r : ℕ) (es : List Entry) → AreQuiet es → ArePostless r es
quiet-postless r es quiet e at passes = go e (quiet e at)
  where
    go : (x : Entry) → IsQuiet x → post_in r passes x ≡ None
    go (Waits n k i v) q = refl
    go (Finished n k) q = refl
    go (Withdrawn n k) q = refl
    go (Added i s) q = absurd q
    go (Removed i) q = absurd q
    go (Posted i mask v) q = absurd q
    go (Applied n k i v busies) q = absurd q

share-sym : (a b : ℕ) → share_bit a b ≡ share_bit b a
share-sym a b = ap (λ (n : ℕ). not (eqb (n % 16) 0)) (and_comm a b)

-- what an entry posts to a record that is its own, or another
pub post-own : (r mask : ℕ) (v : Stored) (entry : Entry) (m : ℕ) → IsPost r m v entry → post_in r (share_bit mask) entry ≡ cond (share_bit m mask) (Some v) None
post-own r mask v (Posted i x u) m (is, at, value) =
    ap (λ (b : Bool). cond (b && share_bit mask x) (Some u) None) (eq-eqb i r is)
    ∙ ap (λ (b : Bool). cond b (Some u) None) (ap (λ (n : ℕ). share_bit mask n) at ∙ share-sym mask m)
    ∙ ap (λ (z : Stored). cond (share_bit m mask) (Some z) None) value
post-own r mask v (Applied n k i u busies) m (is, at, value) =
    ap (λ (b : Bool). cond (b && share_bit mask 3) (Some u) None) (eq-eqb i r is)
    ∙ ap (λ (b : Bool). cond b (Some u) None) (ap (λ (n : ℕ). share_bit mask n) (sym at) ∙ share-sym mask m)
    ∙ ap (λ (z : Stored). cond (share_bit m mask) (Some z) None) value
post-own r mask v (Added i s) m is = absurd is
post-own r mask v (Removed i) m is = absurd is
post-own r mask v (Waits n k i u) m is = absurd is
post-own r mask v (Finished n k) m is = absurd is
post-own r mask v (Withdrawn n k) m is = absurd is

pub post-other : (r i m : ℕ) (passes : ℕ → Bool) (v : Stored) (entry : Entry) → IsPost i m v entry → (i ≡ r → ⊥) → post_in r passes entry ≡ None
post-other r i m passes v (Posted j x u) (is, at, value) other = ap (λ (b : Bool). cond (b && passes x) (Some u) None) (ne_eqb j r (λ same_it. other (sym is ∙ same_it)))
post-other r i m passes v (Applied n k j u busies) (is, at, value) other = ap (λ (b : Bool). cond (b && passes 3) (Some u) None) (ne_eqb j r (λ same_it. other (sym is ∙ same_it)))
post-other r i m passes v (Added j s) is other = absurd is
post-other r i m passes v (Removed j) is other = absurd is
post-other r i m passes v (Waits n k j u) is other = absurd is
post-other r i m passes v (Finished n k) is other = absurd is
post-other r i m passes v (Withdrawn n k) is other = absurd is

-- ---- names

abbrev number-by : List ℕ → List (List ℕ × ℕ) → ℕ
number-by name [] = 0
number-by name (t ∷ ts) = cond (bytes_eq t.0 name) t.1 (number-by name ts)

by-titles : (name : List ℕ) (rs : List RecordSide) → number_of name rs ≡ number-by name (titles rs)
by-titles name [] = refl
by-titles name (r ∷ rs) = ap (λ (n : ℕ). cond (bytes_eq r.name name) r.number n) (by-titles name rs)

pub number-same : (name : List ℕ) (rs rt : List RecordSide) → titles rt ≡ titles rs → number_of name rt ≡ number_of name rs
number-same name rs rt same_all = by-titles name rt ∙ ap (number-by name) same_all ∙ sym (by-titles name rs)

pub same-bytes : (a b : List ℕ) → a ≡ b → bytes_eq a b ≡ true
same-bytes a b is = (bytes_eq-Decides a b).1 is

pub other-bytes : (a b : List ℕ) → (a ≡ b → ⊥) → bytes_eq a b ≡ false
other-bytes a b other = go (bytes_eq a b) refl
  where
    go : (x : Bool) → bytes_eq a b ≡ x → bytes_eq a b ≡ false
    go true is = absurd (other ((bytes_eq-Decides a b).0 is))
    go false is = is

-- a record of another name more, or less
number-more : (name : List ℕ) (behind : ℕ) (r : RecordSide) (rs : List RecordSide) → (r.name ≡ name → ⊥) → number_of name (take behind rs ++ r ∷ drop behind rs) ≡ number_of name rs
number-more name zero r rs other = ap (λ (b : Bool). cond b r.number (number_of name rs)) (other-bytes r.name name other)
number-more name (suc behind) r [] other = ap (λ (b : Bool). cond b r.number 0) (other-bytes r.name name other)
number-more name (suc behind) r (x ∷ rs) other = ap (λ (n : ℕ). cond (bytes_eq x.name name) x.number n) (number-more name behind r rs other)

pub number-less : (name gone : List ℕ) (rs : List RecordSide) → (name ≡ gone → ⊥) → number_of name (filter (λ (r : RecordSide). not (bytes_eq r.name gone)) rs) ≡ number_of name rs
number-less name gone [] other = refl
number-less name gone (r ∷ rs) other = go (bytes_eq r.name gone) refl (number-less name gone rs other)
  where
    rest : List RecordSide
    rest = filter (λ (x : RecordSide). not (bytes_eq x.name gone)) rs

    go : (b : Bool) → bytes_eq r.name gone ≡ b → number_of name rest ≡ number_of name rs → number_of name (cond (not b) (r ∷ rest) rest) ≡ cond (bytes_eq r.name name) r.number (number_of name rs)
    go true is more =
        more ∙ sym (ap (λ (b : Bool). cond b r.number (number_of name rs)) (other-bytes r.name name (λ same_it. other (sym same_it ∙ (bytes_eq-Decides r.name gone).0 is))))
    go false is more = ap (λ (n : ℕ). cond (bytes_eq r.name name) r.number n) more

pub titled : (rs : List RecordSide) (t : List ℕ × ℕ) → In (titles rs) t → (r : RecordSide) × In rs r × (t ≡ title r)
titled rs t there = (let r = At-mapped title rs there.0 t there.1 in (r.0, (there.0, r.1), r.2))

-- ---- steps

pub logged-is : (handled : List Step) (place : ℕ) (h : Step) → At handled place h → logged_at handled place ≡ h.logged
logged-is handled place h at = ap (λ (o : Option Step). unwrap_or (option_map (λ (x : Step). x.logged) o) 0) at

pub stands-within : (log : List Entry) (rs : List RecordSide) (e : ServerEnd) (c : Joined) (sub : Subscription) (st : Standing) → Stands log rs e c sub st → logged_at c.lists.handled st.place ≤ length log
stands-within log rs e c sub st s = (let is : logged_at c.lists.handled st.place ≡ s.h.logged = logged-is c.lists.handled st.place s.h s.handled in let le : s.h.logged ≤ length log = s.within in omega (arith, is, le))

-- ---- a subscription goes on

pub stands-on : (log lg : List Entry) (rs rt : List RecordSide) (e f : ServerEnd) (c d : Joined) (sub : Subscription) (st su : Standing) → su.place ≡ st.place → ((p : ℕ) (s : Sent) → At c.lists.up p s → At d.lists.up p s)
    → ((p : ℕ) (h : Step) → At c.lists.handled p h → At d.lists.handled p h) → length log ≤ length lg → ((k : ℕ) → In (titles rs) (sub.name, k) → In (titles rt) (sub.name, k))
    → ((g : Handle) (ch : OpenChannel) → under e.channels g ≡ Some ch → wire_of g ≡ sub.wanted.sid → ch.name ≡ sub.name → ch.retired ≡ false → (x : OpenChannel) × (under f.channels g ≡ Some x) × (x.name ≡ sub.name) × (x.retired ≡ false))
    → Stands log rs e c sub st → Stands lg rt f d sub su
stands-on log lg rs rt e f c d sub st su place up handled longer names channels s =
    let x = channels s.g s.ch s.channel s.sid s.name s.stays in
    record {
      s = s.s;
      sent = subst (λ (p : ℕ). At d.lists.up p s.s) (sym place) (up st.place s.s s.sent);
      asks = s.asks;
      by = s.by;
      h = s.h;
      handled = subst (λ (p : ℕ). At d.lists.handled p s.h) (sym place) (handled st.place s.h s.handled);
      within = (let le : s.h.logged ≤ length log = s.within in omega (arith, le, longer));
      number = s.number;
      there = names s.number s.there;
      g = s.g;
      ch = x.0;
      channel = x.1;
      sid = s.sid;
      name = x.2;
      stays = x.3;
    }

pub same-channels : (e f : ServerEnd) → f.channels ≡ e.channels → (sub : Subscription) (g : Handle) (ch : OpenChannel) → under e.channels g ≡ Some ch → wire_of g ≡ sub.wanted.sid → ch.name ≡ sub.name → ch.retired ≡ false
    → (x : OpenChannel) × (under f.channels g ≡ Some x) × (x.name ≡ sub.name) × (x.retired ≡ false)
same-channels e f is sub g ch at sid name stays = (ch, subst (λ (t : Table OpenChannel). under t g ≡ Some ch) (sym is) at, name, stays)

pub length-more : {A : Type 0} (xs ys : List A) → length xs ≤ length (xs ++ ys)
length-more [] ys = omega arith
length-more (x ∷ xs) ys = (let e : length xs ≤ length (xs ++ ys) = length-more xs ys in omega (arith, e))

-- ---- what happens at the client, and to bytes

pub follows-stays : (log : List Entry) (rs : List RecordSide) (e f : ServerEnd) (c d : Joined) → SameHeld e f → Goes c d → Follows log rs e c → Follows log rs f d
follows-stays log rs e f c d held goes p = record {
  placed = subst (λ (l : List Subscription). Both (Stands log rs f d) l d.standing) (sym held.subscriptions)
      (subst (λ (l : List Standing). Both (Stands log rs f d) e.subscriptions l) (sym goes.standing)
      (both-all (Stands log rs e c) (Stands log rs f d) e.subscriptions c.standing p.placed
      (λ i sub st a b s. stands-on log log rs rs e f c d sub st st refl goes.later.up (λ q h at. subst (λ (l : List Step). At l q h) (sym goes.handled) at) (omega arith) (λ k there. there) (same-channels e f held.channels sub) s)));
  holds = subst (λ (l : List Subscription). Holds (posts_by log rs d.lists.handled) l f.queues d) (sym held.subscriptions)
      (subst (λ (q : List (Queue Stored)). Holds (posts_by log rs d.lists.handled) e.subscriptions q d) (sym held.queues)
      (holds-like (posts_by log rs c.lists.handled) (posts_by log rs d.lists.handled) e.subscriptions e.queues c d (let is : length d.lists.handled ≡ length c.lists.handled = ap (λ (l : List Step). length l) goes.handled in omega (arith, is)) goes.standing goes.queues
      (λ place. ap (λ (l : List Told). sent_numbers place l) goes.down) (λ j a t at cause. (j, subst (λ (l : List Told). At l j t) goes.down at))
      (λ i sub st a b. ap (λ (l : List Step). posts_by log rs l sub st.place) goes.handled) p.holds));
}

-- ---- what else the log says

pub follows-told : (log more : List Entry) (rs rt : List RecordSide) (e : ServerEnd) (c : Joined) → AreQuiet more → titles rt ≡ titles rs → Follows log rs e c → Follows (log ++ more) rt e c
follows-told log more rs rt e c quiet same_all p = record {
  placed = both-all (Stands log rs e c) (Stands (log ++ more) rt e c) e.subscriptions c.standing p.placed
      (λ i sub st a b s. stands-on log (log ++ more) rs rt e e c c sub st st refl (λ q x at. at) (λ q h at. at) (length-more log more) (λ k there. subst (λ (l : List (List ℕ × ℕ)). In l (sub.name, k)) (sym same_all) there) (same-channels e e refl sub) s);
  holds = holds-like (posts_by log rs c.lists.handled) (posts_by (log ++ more) rt c.lists.handled) e.subscriptions e.queues c c (omega arith) refl refl (λ place. refl) (λ j a t at cause. (j, at))
      (λ i sub st a b.
      let s = both-at (Stands log rs e c) e.subscriptions c.standing i sub st p.placed a b in
      ap (λ (n : ℕ). matching (log ++ more) (logged_at c.lists.handled st.place) n sub.mask) (number-same sub.name rs rt same_all)
      ∙ matching-same log more (logged_at c.lists.handled st.place) (number_of sub.name rs) sub.mask (stands-within log rs e c sub st s) (quiet-postless (number_of sub.name rs) more quiet))
      p.holds;
}

-- ---- a late reply

reply-none : (place k : ℕ) (ms : List Fields) → sent_numbers place (about k Reply ms) ≡ []
reply-none place k [] = refl
reply-none place k (m ∷ ms) = go (eqb k place) ∙ reply-none place k ms
  where
    go : (b : Bool) → cons_option (cond b None None) (sent_numbers place (about k Reply ms)) ≡ sent_numbers place (about k Reply ms)
    go true = refl
    go false = refl

pub replies-sent : (place k : ℕ) (down : List Told) (ms : List Fields) → sent_numbers place (down ++ about k Reply ms) ≡ sent_numbers place down
replies-sent place k down ms = sent-more place down (about k Reply ms) ∙ ap (λ (l : List ℕ). sent_numbers place down ++ l) (reply-none place k ms) ∙ append-nil (sent_numbers place down)

no-update : (a : ℕ) → Reply ≡ Update a → ⊥
no-update a e = cc

pub replies-back : (k : ℕ) (down : List Told) (ms : List Fields) (j a : ℕ) (t : Told) → At (down ++ about k Reply ms) j t → t.cause ≡ Update a → (i : ℕ) × At down i t
replies-back k down ms j a t at cause = elim (At-parts down (about k Reply ms) j t at) [
  | inl old ↦ (j, old)
  | inr new ↦ (let x = At-mapped (λ (m : Fields). let u : Told = record { message = m; place = k; cause = Reply } in u) ms new.0 t new.2 in absurd (no-update a (ap (λ (u : Told). u.cause) (sym x.2) ∙ cause)))
]

pub follows-replied : (log : List Entry) (rs : List RecordSide) (e : ServerEnd) (c : Joined) (place : ℕ) (ms : List Fields) → Follows log rs e c → Follows log rs e (told_late place ms c)
follows-replied log rs e c place ms p = record {
  placed = both-all (Stands log rs e c) (Stands log rs e (told_late place ms c)) e.subscriptions c.standing p.placed
      (λ i sub st a b s. stands-on log log rs rs e e c (told_late place ms c) sub st st refl (λ q x at. at) (λ q h at. at) (omega arith) (λ k there. there) (same-channels e e refl sub) s);
  holds = holds-like (posts_by log rs c.lists.handled) (posts_by log rs c.lists.handled) e.subscriptions e.queues c (told_late place ms c) (omega arith) refl refl
      (λ k. replies-sent k place c.lists.down ms) (λ j a t at cause. replies-back place c.lists.down ms j a t at cause) (λ i sub st a b. refl) p.holds;
}

-- ---- a record comes

pub in-more : {A : Type 0} (behind : ℕ) (x : A) (xs : List A) (z : A) → In xs z → In (take behind xs ++ x ∷ drop behind xs) z
in-more zero x xs z (i, at) = (suc i, at)
in-more (suc behind) x [] z (i, at) = absurd (none_at i z at)
in-more (suc behind) x (y ∷ xs) z (zero, at) = (0, at)
in-more (suc behind) x (y ∷ xs) z (suc i, at) = (let r = in-more behind x xs z (i, at) in (suc r.0, r.1))

pub follows-added : (log : List Entry) (rs : List RecordSide) (number behind : ℕ) (s : RecordState) (e : ServerEnd) (c : Joined) → AreOthers rs → ((r : RecordSide) → In rs r → (r.number ≡ number → ⊥) × (r.name ≡ s.name → ⊥))
    → Follows log rs e c → Follows (log ++ Added number s ∷ []) (take behind rs ++ record_begun number s ∷ drop behind rs) e c
follows-added log rs number behind s e c others fresh p = record {
  placed = both-all (Stands log rs e c) (Stands (log ++ Added number s ∷ []) rt e c) e.subscriptions c.standing p.placed
      (λ i sub st a b x. stands-on log (log ++ Added number s ∷ []) rs rt e e c c sub st st refl (λ q y at. at) (λ q h at. at) (length-more log (Added number s ∷ []))
      (λ k there. (let r = titled rs (sub.name, k) there in let in_it = in-more behind (record_begun number s) rs r.0 r.1 in (in_it.0, subst (λ (t : List ℕ × ℕ). At (titles rt) in_it.0 t) (sym r.2) (At-map title rt in_it.0 r.0 in_it.1))))
      (same-channels e e refl sub) x);
  holds = holds-like (posts_by log rs c.lists.handled) (posts_by (log ++ Added number s ∷ []) rt c.lists.handled) e.subscriptions e.queues c c (omega arith) refl refl (λ place. refl) (λ j a t at cause. (j, at))
      (λ i sub st a b.
      let x = both-at (Stands log rs e c) e.subscriptions c.standing i sub st p.placed a b in
      let r = titled rs (sub.name, x.number) x.there in
      let named : r.0.name ≡ sub.name = sym (ap (λ (t : List ℕ × ℕ). t.0) r.2) in
      let own : number_of sub.name rs ≡ r.0.number = ap (λ (n : List ℕ). number_of n rs) (sym named) ∙ number-of rs r.1.0 r.0 others r.1.1 in
      ap (λ (n : ℕ). matching (log ++ Added number s ∷ []) (logged_at c.lists.handled st.place) n sub.mask) (number-more sub.name behind (record_begun number s) rs (λ is. (fresh r.0 r.1).1 (named ∙ sym is)))
      ∙ matching-same log (Added number s ∷ []) (logged_at c.lists.handled st.place) (number_of sub.name rs) sub.mask (stands-within log rs e c sub st x)
      (λ y at passes. added-none (number_of sub.name rs) y at passes (λ is. (fresh r.0 r.1).0 (sym own ∙ sym is))))
      p.holds;
}
  where
    rt : List RecordSide
    rt = take behind rs ++ record_begun number s ∷ drop behind rs

    added-none : (r : ℕ) (y : Entry) → In (Added number s ∷ []) y → (passes : ℕ → Bool) → (number ≡ r → ⊥) → post_in r passes y ≡ None
    added-none r y (zero, at) passes other =
        ap (post_in r passes) (sym (some_is (Added number s) y at)) ∙ ap (λ (b : Bool). cond b (Some (let v : Stored = record { value = s.value; meta = s.meta } in v)) None) (ne_eqb number r other)
    added-none r y (suc k, at) passes other = absurd (none_at k y at)
