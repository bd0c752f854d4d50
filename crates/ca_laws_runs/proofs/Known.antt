-- What is known of the EVENT_ADDs of an open end stays so as its circuit, its records and the log
-- of its server go on.
use Rattle.std.proofs.Common.{◌≡◌, ℕ, zero, suc, ◌+◌, ◌<◌, ◌≤◌, ◌⊎◌, inl, inr, Bool, true, false, cond, not, ◌&&◌, ◌||◌, eqb, eq-eqb, eqb-true, List, [], ◌∷◌, ◌++◌, length, Some, refl, sym, ap, subst, ◌∙◌, arith}
use Rattle.std.specs.Prelude.{drop, filter, map, take}
use Rattle.std.specs.List.{FoldsTo, flat_map, fold, list_any}
use Rattle.std.specs.Str.{bytes_eq}
use Rattle.std.proofs.lemmas.Slice.Eq.{bytes_eq-Decides}
use Rattle.ca_arena.specs.declared.handle.Handle.{Handle}
use Rattle.ca_ids.specs.Table.{Table, held, under, with_each, with_each_from}
use Rattle.ca_ids.specs.Wire.{wire_of}
use Rattle.ca_model.proofs.Tables.{held-under, one-by-wire, one-value, under-held}
use Rattle.ca_queue.specs.declared.entry.SubKey.{SubKey}
use Rattle.ca_queue.specs.Keys.{same}
use Rattle.ca_records.specs.Record.{RecordState}
use Rattle.ca_text.specs.Limits.{arena_slots}
use Rattle.ca_text.specs.Place.{At}
use Rattle.ca_text.proofs.Places.{some_is, At-after, At-append, At-map, At-within}
use Rattle.ca_wire.specs.Fields.{Fields}
use Rattle.ca_model.specs.History.{Added, Circuit, Entry, Removed, Reply, Sent, Step, Told, Withdrawn}
use Rattle.ca_model.specs.Server.{OpenChannel, ServerEnd, Subscription, concerns, key_of, with_post}
use Rattle.ca_model.specs.ServerCalls.{channels_of, end_without, is_on, retired}
use Rattle.ca_model.specs.ServerSteps.{Leaves, Update}
use Rattle.ca_model.specs.Speech.{In, Stored}
use Rattle.ca_model.specs.Channels.{Has}
use Rattle.ca_model.specs.Causes.{Acted}
use Rattle.ca_model.specs.ServerEvents.{about, removal_entries, removal_told, stamped, with_number}
use Rattle.ca_model.specs.World.{Creation, Joined, PutPlace, RecordSide, Standing, record_begun}
use Rattle.ca_laws_parts.proofs.Channels.{each-back}
use Rattle.ca_laws_parts.proofs.Since.{stamped-parts}
use Rattle.ca_laws_parts.specs.Both.{Both}
use Rattle.ca_laws_parts.proofs.Frames.{Goes}
use Rattle.ca_laws_parts.proofs.InStepLasts.{pumped-subs}
use Rattle.ca_laws_parts.proofs.Lasting.{SameHeld, numbered_for, told_gone, told_late}
use Rattle.ca_laws_parts.proofs.WritesLists.{In-kept, beside-right, both-all, both-at, both-filter, kept-in, none_at}
use Rattle.ca_laws_runs.specs.Entries.{title, titles}
use Rattle.ca_laws_runs.specs.Follows.{Follows, Stands}
use Rattle.ca_laws_runs.proofs.Counting.{both-right}
use Rattle.ca_laws_runs.proofs.PostFollowing.{in-more, length-more, other-bytes, same-bytes, titled}
use Rattle.ca_laws_runs.specs.Known.{IsOnRecord, IsOrigin, IsOver, IsStanding, IsWithin, KnownOn}
use Rattle.ca_laws_runs.proofs.Acting.{Extends, Grows, IsLonger, acted-back, grown-back, grows-length, longer-self, longer-taken}

-- ---- lengths

pub grows-le : {A : Type 0} (xs ys : List A) → Grows xs ys → length xs ≤ length ys
grows-le [] ys grows = omega arith
grows-le (x ∷ xs) ys grows = (let lt : length xs < length ys = grows-length (x ∷ xs) ys grows (length xs) (omega arith) in omega (arith, lt))

pub longer-le : (y z : List Entry) → IsLonger y z → length y ≤ length z
longer-le y z longer = subst (λ (l : List Entry). length y ≤ length l) (sym longer.1) (length-more y longer.0)

pub extends-self : (c : Circuit) → Extends c c
extends-self c = record { up = λ i x at. at; down = λ i x at. at; handled = λ i x at. at }

-- ---- each part goes on

pub within-on : (log lg : List Entry) (c d : Circuit) (h : Step) → Extends c d → IsLonger log lg → IsWithin log c h → IsWithin lg d h
within-on log lg c d h ext longer w = record {
  sent = (let le : h.sent ≤ length c.down = w.sent in let more : length c.down ≤ length d.down = grows-le c.down d.down ext.down in omega (arith, le, more));
  logged = (let le : h.logged ≤ length log = w.logged in let more : length log ≤ length lg = longer-le log lg longer in omega (arith, le, more));
}

pub origin-on : (log lg : List Entry) (rs rt : List RecordSide) (c d : Joined) (sid : ℕ) (ch x : OpenChannel) → Extends c.lists d.lists → IsLonger log lg → x.name ≡ ch.name → (x.retired ≡ false → ch.retired ≡ false)
    → ((q : Creation) → In c.creations q → q.sid ≡ sid → In d.creations q) → ((r : ℕ) → x.retired ≡ false → In (titles rs) (ch.name, r) → In (titles rt) (ch.name, r)) → IsOrigin log rs c sid ch → IsOrigin lg rt d sid x
origin-on log lg rs rt c d sid ch x ext longer name stays noted names o = record {
  x = o.x;
  noted = noted o.x o.noted o.under_sid;
  under_sid = o.under_sid;
  s = o.s;
  sent = ext.up o.x.place o.s o.sent;
  h = o.h;
  handled = ext.handled o.x.place o.h o.handled;
  name = name ∙ o.name;
  within = (let le : o.h.logged ≤ length log = o.within in let more : length log ≤ length lg = longer-le log lg longer in omega (arith, le, more));
  still = λ still r has.
      subst (λ (n : List ℕ). In (titles rt) (n, r)) (sym name)
      (names r still (o.still (stays still) r (subst (λ (v : List Entry × List ℕ). Has v.0 r v.1) (λ i. (longer-taken o.h.logged log lg longer o.within i, name i)) has)));
}

pub over-on : (log lg : List Entry) (c d : Circuit) (k : ℕ) (s : Sent) (h : Step) → Extends c d → IsLonger log lg → At c.up k s → At c.handled k h → IsWithin log c h → IsOver log c k s → IsOver lg d k s
over-on log lg c d k s h ext longer at_s at_h w (inl ended) =
    inl (ended.0, ended.1, ended.2, grows-length c.handled d.handled ext.handled ended.0 ended.3, ext.up ended.0 ended.1 ended.4, ended.5)
over-on log lg c d k s h ext longer at_s at_h w (inr removed) =
    inr (λ r acted.
    let was = removed r (acted-back c d log lg k r s h ext longer at_s at_h w.sent w.logged acted) in
    (was.0, subst (λ (l : List Entry). At l was.0 (Removed r)) (sym longer.1) (At-append log longer.0 was.0 (Removed r) was.1)))

pub on-record-on : (log lg : List Entry) (rs rt : List RecordSide) (c d : Circuit) (sub : Subscription) (st su : Standing) → su.place ≡ st.place → su.key ≡ st.key → Extends c d → IsLonger log lg → ((h : Step) → At c.handled st.place h → IsWithin log c h)
    → ((r : ℕ) → In (titles rs) (sub.name, r) → In (titles rt) (sub.name, r)) → IsOnRecord log rs c sub st → IsOnRecord lg rt d sub su
on-record-on log lg rs rt c d sub st su place key ext longer within names o = record {
  key = o.key ∙ sym key;
  s = o.s;
  sent = subst (λ (p : ℕ). At d.up p o.s) (sym place) (ext.up st.place o.s o.sent);
  named = o.named ∙ sym key;
  h = o.h;
  handled = subst (λ (p : ℕ). At d.handled p o.h) (sym place) (ext.handled st.place o.h o.handled);
  acted = λ r acted.
      let w = within o.h o.handled in
      names r (o.acted r (acted-back c d log lg st.place r o.s o.h ext longer o.sent o.handled w.sent w.logged (subst (λ (p : ℕ). Acted d lg p r) place acted)));
}

-- ---- all of it

pub known-on : (log lg : List Entry) (rs rt : List RecordSide) (e f : ServerEnd) (c d : Joined) → Extends c.lists d.lists → IsLonger log lg → d.lists.handled ≡ c.lists.handled → length f.channels ≤ arena_slots
    → ((g : Handle) (ch : OpenChannel) → under f.channels g ≡ Some ch → IsOrigin lg rt d (wire_of g) ch)
    → ((k : ℕ) (s : Sent) (i : ℕ) (st : Standing) → At c.lists.up k s → At c.standing i st → st.place ≡ k → IsStanding d.standing k ⊎ IsOver lg d.lists k s)
    → Both (IsOnRecord lg rt d.lists) f.subscriptions d.standing → KnownOn log rs e c → KnownOn lg rt f d
known-on log lg rs rt e f c d ext longer handled few origins stand subs p = record {
  few = few;
  came = (let le : length c.lists.handled ≤ length c.lists.up = p.came in let more : length c.lists.up ≤ length d.lists.up = grows-le c.lists.up d.lists.up ext.up in let is : length d.lists.handled ≡ length c.lists.handled = ap (λ (l : List Step). length l) handled in omega (arith, le, more, is));
  origins = origins;
  within = λ k h at. within-on log lg c.lists d.lists h ext longer (p.within k h (subst (λ (l : List Step). At l k h) handled at));
  adds = λ k s h at_s at_h asks.
      let was_h : At c.lists.handled k h = subst (λ (l : List Step). At l k h) handled at_h in
      let lt : k < length c.lists.handled = At-within c.lists.handled k h was_h in
      let le : length c.lists.handled ≤ length c.lists.up = p.came in
      let was_s : At c.lists.up k s = grown-back c.lists.up d.lists.up ext.up k s (omega (arith, lt, le)) at_s in
      elim (p.adds k s h was_s was_h asks) [
        | inl refused ↦ inl (refused.0, refused.1, ext.down refused.0 refused.1 refused.2, refused.3, refused.4)
        | inr other ↦ elim other [
          | inl stands ↦ inr (stand k s stands.0 stands.1 was_s stands.2 stands.3)
          | inr over ↦ inr (inr (over-on log lg c.lists d.lists k s h ext longer was_s was_h (p.within k h was_h) over))
        ]
      ];
  subs = subs;
}

within-at : (log : List Entry) (rs : List RecordSide) (e : ServerEnd) (c : Joined) (k : ℕ) → KnownOn log rs e c → (h : Step) → At c.lists.handled k h → IsWithin log c.lists h
within-at log rs e c k p h at = p.within k h at

-- the same channels, subscriptions and standing
pub known-same : (log lg : List Entry) (rs rt : List RecordSide) (e f : ServerEnd) (c d : Joined) → Extends c.lists d.lists → IsLonger log lg → d.lists.handled ≡ c.lists.handled → f.channels ≡ e.channels → d.creations ≡ c.creations
    → f.subscriptions ≡ e.subscriptions → d.standing ≡ c.standing → ((n : List ℕ) (r : ℕ) → In (titles rs) (n, r) → In (titles rt) (n, r)) → KnownOn log rs e c → KnownOn lg rt f d
known-same log lg rs rt e f c d ext longer handled channels creations subscriptions standing names p =
    known-on log lg rs rt e f c d ext longer handled (subst (λ (t : Table OpenChannel). length t ≤ arena_slots) (sym channels) p.few)
    (λ g ch at. origin-on log lg rs rt c d (wire_of g) ch ch ext longer refl (λ stays. stays) (λ q there sid. subst (λ (l : List Creation). In l q) (sym creations) there) (λ r stays there. names ch.name r there)
    (p.origins g ch (subst (λ (t : Table OpenChannel). under t g ≡ Some ch) channels at)))
    (λ k s i st at_s at place. inl (i, st, subst (λ (l : List Standing). At l i st) (sym standing) at, place))
    (subst (λ (l : List Subscription). Both (IsOnRecord lg rt d.lists) l d.standing) (sym subscriptions) (subst (λ (l : List Standing). Both (IsOnRecord lg rt d.lists) e.subscriptions l) (sym standing)
    (both-all (IsOnRecord log rs c.lists) (IsOnRecord lg rt d.lists) e.subscriptions c.standing p.subs
    (λ i sub st a b o. on-record-on log lg rs rt c.lists d.lists sub st st refl refl ext longer (within-at log rs e c st.place p) (λ r there. names sub.name r there) o))))
    p

-- ---- each change of an end

pub known-stays : (log : List Entry) (rs : List RecordSide) (e f : ServerEnd) (c d : Joined) → SameHeld e f → Goes c d → KnownOn log rs e c → KnownOn log rs f d
known-stays log rs e f c d held goes p =
    known-same log log rs rs e f c d
    (record { up = goes.later.up; down = λ i x at. subst (λ (l : List Told). At l i x) (sym goes.down) at; handled = goes.later.handled })
    (longer-self log) goes.handled held.channels goes.creations held.subscriptions goes.standing (λ n r there. there) p

pub known-told : (log more : List Entry) (rs rt : List RecordSide) (e : ServerEnd) (c : Joined) → titles rt ≡ titles rs → KnownOn log rs e c → KnownOn (log ++ more) rt e c
known-told log more rs rt e c same_all p =
    known-same log (log ++ more) rs rt e e c c (extends-self c.lists) (more, refl) refl refl refl refl refl (λ n r there. subst (λ (l : List (List ℕ × ℕ)). In l (n, r)) (sym same_all) there) p

pub known-added : (log : List Entry) (rs : List RecordSide) (number behind : ℕ) (s : RecordState) (e : ServerEnd) (c : Joined) → KnownOn log rs e c → KnownOn (log ++ Added number s ∷ []) (take behind rs ++ record_begun number s ∷ drop behind rs) e c
known-added log rs number behind s e c p =
    known-same log (log ++ Added number s ∷ []) rs rt e e c c (extends-self c.lists) (Added number s ∷ [], refl) refl refl refl refl refl
    (λ n r there. (let x = titled rs (n, r) there in let in_it = in-more behind (record_begun number s) rs x.0 x.1 in (in_it.0, subst (λ (t : List ℕ × ℕ). At (titles rt) in_it.0 t) (sym x.2) (At-map title rt in_it.0 x.0 in_it.1)))) p
  where
    rt : List RecordSide
    rt = take behind rs ++ record_begun number s ∷ drop behind rs

pub known-replied : (log : List Entry) (rs : List RecordSide) (e : ServerEnd) (c : Joined) (place : ℕ) (ms : List Fields) → KnownOn log rs e c → KnownOn log rs e (told_late place ms c)
known-replied log rs e c place ms p =
    known-same log log rs rs e e c (told_late place ms c) (record { up = λ i x at. at; down = λ i x at. At-append c.lists.down (about place Reply ms) i x at; handled = λ i x at. at }) (longer-self log) refl refl refl refl refl (λ n r there. there) p

-- ---- a post

numbered-lists : (c : Joined) (keys : List SubKey) → ((fold with_number c keys).lists ≡ c.lists) × ((fold with_number c keys).creations ≡ c.creations)
numbered-lists c [] = (refl, refl)
numbered-lists c (k ∷ keys) = numbered-lists (with_number c k) keys

abbrev bump : SubKey → Standing → Standing
bump key t = cond (same key t.key) (record t { posts = t.posts + 1 }) t

bump-like : (key : SubKey) (t : Standing) → ((bump key t).place ≡ t.place) × ((bump key t).key ≡ t.key)
bump-like key t = go (same key t.key)
  where
    go : (b : Bool) → ((cond b (record t { posts = t.posts + 1 }) t).place ≡ t.place) × ((cond b (record t { posts = t.posts + 1 }) t).key ≡ t.key)
    go true = (refl, refl)
    go false = (refl, refl)

numbered-at : (keys : List SubKey) (c : Joined) (i : ℕ) (st : Standing) → At c.standing i st → (su : Standing) × At (fold with_number c keys).standing i su × (su.place ≡ st.place)
numbered-at [] c i st at = (st, at, refl)
numbered-at (k ∷ keys) c i st at = (let r = numbered-at keys (with_number c k) i (bump k st) (At-map (bump k) c.standing i st at) in (r.0, r.1, r.2 ∙ (bump-like k st).0))

numbered-both : (Q : Subscription → Standing → Type 0) → ((sub : Subscription) (st su : Standing) → su.place ≡ st.place → su.key ≡ st.key → Q sub st → Q sub su) → (subs : List Subscription) (keys : List SubKey) (c : Joined) → Both Q subs c.standing
    → Both Q subs (fold with_number c keys).standing
numbered-both Q like subs [] c both = both
numbered-both Q like subs (k ∷ keys) c both =
    numbered-both Q like subs keys (with_number c k) (both-right Q Q (bump k) subs c.standing both (λ i sub st a b q. like sub st (bump k st) (bump-like k st).0 (bump-like k st).1 q))

pub known-posted : (log : List Entry) (rs : List RecordSide) (name : List ℕ) (mask : ℕ) (v : Stored) (entry : Entry) (e : ServerEnd) (c : Joined) → KnownOn log rs e c
    → KnownOn (log ++ entry ∷ []) rs (with_post name mask v e) (numbered_for name mask e c)
known-posted log rs name mask v entry e c p =
    known-on log lg rs rs e (with_post name mask v e) c d ext (entry ∷ [], refl) (ap (λ (l : Circuit). l.handled) same_lists.0) p.few
    (λ g ch at. origin-on log lg rs rs c d (wire_of g) ch ch ext (entry ∷ [], refl) refl (λ stays. stays) (λ q there sid. subst (λ (l : List Creation). In l q) (sym same_lists.1) there) (λ r stays there. there) (p.origins g ch at))
    (λ k s i st at_s at place. (let r = numbered-at keys c i st at in inl (i, r.0, r.1, r.2 ∙ place)))
    (numbered-both (IsOnRecord lg rs d.lists) (λ sub st su place key o. on-record-on lg lg rs rs d.lists d.lists sub st su place key (extends-self d.lists) (longer-self lg) (λ h at. within-on log lg c.lists d.lists h ext (entry ∷ [], refl) (p.within st.place h (subst (λ (l : Circuit). At l.handled st.place h) same_lists.0 at))) (λ r there. there) o)
    e.subscriptions keys c
    (both-all (IsOnRecord log rs c.lists) (IsOnRecord lg rs d.lists) e.subscriptions c.standing p.subs
    (λ i sub st a b o. on-record-on log lg rs rs c.lists d.lists sub st st refl refl ext (entry ∷ [], refl) (within-at log rs e c st.place p) (λ r there. there) o)))
    p
  where
    lg : List Entry
    lg = log ++ entry ∷ []

    d : Joined
    d = numbered_for name mask e c

    keys : List SubKey
    keys = map key_of (filter (concerns name mask) e.subscriptions)

    same_lists : (d.lists ≡ c.lists) × (d.creations ≡ c.creations)
    same_lists = numbered-lists c keys

    ext : Extends c.lists d.lists
    ext = subst (λ (l : Circuit). Extends c.lists l) (sym same_lists.0) (extends-self c.lists)

-- ---- updates leave

leaves-channels : (us : List Update) (e after : ServerEnd) → FoldsTo Leaves e us after → after.channels ≡ e.channels
leaves-channels [] e after same_end = ap (λ (x : ServerEnd). x.channels) (sym same_end)
leaves-channels (u ∷ us) e after (mid, one, rest) = leaves-channels us mid after rest ∙ ap (λ (x : ServerEnd). x.channels) one.leaves

pub known-pumped : (log : List Entry) (rs : List RecordSide) (us : List Update) (e after : ServerEnd) (c : Joined) → Grows c.lists.down (stamped us c).lists.down → FoldsTo Leaves e us after → KnownOn log rs e c → KnownOn log rs after (stamped us c)
known-pumped log rs us e after c down folds p =
    let parts = stamped-parts us c in
    known-same log log rs rs e after c (stamped us c)
    (record { up = λ i x at. subst (λ (l : List Sent). At l i x) (sym parts.0) at; down = down; handled = λ i x at. subst (λ (l : List Step). At l i x) (sym parts.1) at })
    (longer-self log) parts.1 (leaves-channels us e after folds) parts.3 (pumped-subs us e after folds) parts.2 (λ n r there. there) p

-- ---- a removal

any-in : (test : Handle × OpenChannel → Bool) (xs : List (Handle × OpenChannel)) → list_any test xs ≡ true → (x : Handle × OpenChannel) × In xs x × (test x ≡ true)
any-in test [] is = absurd cc
any-in test (y ∷ xs) is = go (test y) refl is (λ any. any-in test xs any)
  where
    Found : List (Handle × OpenChannel) → Type 0
    Found zs = (x : Handle × OpenChannel) × In zs x × (test x ≡ true)

    go : (b : Bool) → test y ≡ b → b || list_any test xs ≡ true → (list_any test xs ≡ true → Found xs) → Found (y ∷ xs)
    go true e any rest = (y, (0, refl), e)
    go false e any rest = (let r = rest any in (r.0, (suc r.1.0, r.1.1), r.2))

and-left : (a b : Bool) → a && b ≡ true → a ≡ true
and-left true b e = refl
and-left false b e = absurd cc

each-few : (i : ℕ) (f : Handle → OpenChannel → OpenChannel) (t : Table OpenChannel) → length (with_each_from i f t) ≡ length t
each-few i f [] = refl
each-few i f (p ∷ t) = ap (λ (n : ℕ). suc n) (each-few (i + 1) f t)

pub removed-in : (name : List ℕ) (rs : List RecordSide) (x : RecordSide) → In rs x → x.name ≡ name → In (removal_entries name rs) (Removed x.number)
removed-in name rs x there named = (let k = kept-in (λ (r : RecordSide). bytes_eq r.name name) rs x there (same-bytes x.name name named) in all (filter (λ (r : RecordSide). bytes_eq r.name name) rs) k.0 k.1)
  where
    entries : RecordSide → List Entry
    entries z = Removed z.number ∷ map (λ (p : PutPlace). Withdrawn p.circuit p.place) z.waiting

    all : (xs : List RecordSide) (i : ℕ) → At xs i x → In (flat_map entries xs) (Removed x.number)
    all [] i at = absurd (none_at i x at)
    all (z ∷ xs) zero at = (0, ap (λ (r : RecordSide). Some (Removed r.number)) (some_is z x at))
    all (z ∷ xs) (suc i) at = (let r = all xs i at in (length (entries z) + r.0, At-after (entries z) (flat_map entries xs) r.0 (Removed x.number) r.1))

any-there : (test : Handle × OpenChannel → Bool) (xs : List (Handle × OpenChannel)) (i : ℕ) (x : Handle × OpenChannel) → At xs i x → test x ≡ true → list_any test xs ≡ true
any-there test [] i x at is = absurd (none_at i x at)
any-there test (y ∷ ys) zero x at is = ap (λ (b : Bool). b || list_any test ys) (ap test (some_is y x at) ∙ is)
any-there test (y ∷ ys) (suc i) x at is = go (test y) (any-there test ys i x at is)
  where
    go : (b : Bool) → list_any test ys ≡ true → b || list_any test ys ≡ true
    go true e = refl
    go false e = e

or-left : (a b : Bool) → a || b ≡ false → a ≡ false
or-left true b e = absurd cc
or-left false b e = refl

or-right : (a b : Bool) → a || b ≡ false → b ≡ false
or-right true b e = absurd cc
or-right false b e = e

clash : (b : Bool) → b ≡ true → b ≡ false → ⊥
clash true e f = cc
clash false e f = cc

not-true : (b : Bool) → not b ≡ true → b ≡ false
not-true true e = absurd cc
not-true false e = refl

module _ (log : List Entry) (rs : List RecordSide) (name : List ℕ) (e : ServerEnd) (c : Joined) (q : Follows log rs e c) (p : KnownOn log rs e c) where
  abbrev gone_keys : SubKey → Bool
  gone_keys = is_on (channels_of name e)

  -- a subscription that ends with the record has its name, and no other
  ends-named : (i : ℕ) (sub : Subscription) (st : Standing) → At e.subscriptions i sub → At c.standing i st → gone_keys st.key ≡ true → sub.name ≡ name
  ends-named i sub st a b gone =
      let s = both-at (Stands log rs e c) e.subscriptions c.standing i sub st q.placed a b in
      let o = both-at (IsOnRecord log rs c.lists) e.subscriptions c.standing i sub st p.subs a b in
      let y = any-in (λ (x : Handle × OpenChannel). eqb (wire_of x.0) st.key.sid) (channels_of name e) gone in
      let k = In-kept (λ (x : Handle × OpenChannel). bytes_eq x.1.name name && not x.1.retired) (held e.channels) y.0 y.1 in
      let there : under e.channels y.0.0 ≡ Some y.0.1 = held-under e.channels k.0.0 y.0 k.0.1 in
      let wires : wire_of y.0.0 ≡ wire_of s.g = eqb-true (wire_of y.0.0) st.key.sid y.2 ∙ ap (λ (z : SubKey). z.sid) (sym o.key) ∙ sym s.sid in
      let one : y.0.0 ≡ s.g = one-by-wire e.channels y.0.0 s.g y.0.1 s.ch p.few there s.channel wires in
      let ch_is : y.0.1 ≡ s.ch = one-value e.channels s.g y.0.1 s.ch (subst (λ (h : Handle). under e.channels h ≡ Some y.0.1) one there) s.channel in
      sym s.name ∙ ap (λ (x : OpenChannel). x.name) (sym ch_is) ∙ (bytes_eq-Decides y.0.1.name name).0 (and-left (bytes_eq y.0.1.name name) (not y.0.1.retired) k.1)

  stays-other : (i : ℕ) (sub : Subscription) (st : Standing) → At e.subscriptions i sub → At c.standing i st → gone_keys (key_of sub) ≡ false → sub.name ≡ name → ⊥
  stays-other i sub st a b out is =
      let s = both-at (Stands log rs e c) e.subscriptions c.standing i sub st q.placed a b in
      let there = under-held e.channels s.g s.ch s.channel in
      let kept = kept-in (λ (x : Handle × OpenChannel). bytes_eq x.1.name name && not x.1.retired) (held e.channels) (s.g, s.ch) there
      (ap (λ (x : Bool). x && not s.ch.retired) (same-bytes s.ch.name name (s.name ∙ is)) ∙ ap (λ (x : Bool). not x) s.stays) in
      clash (gone_keys (key_of sub)) (any-there (λ (x : Handle × OpenChannel). eqb (wire_of x.0) (key_of sub).sid) (channels_of name e) kept.0 (s.g, s.ch) kept.1 (eq-eqb (wire_of s.g) sub.wanted.sid s.sid)) out

  pub known-removed : KnownOn (log ++ removal_entries name rs) (filter (λ (r : RecordSide). not (bytes_eq r.name name)) rs) (end_without name e) (told_gone (channels_of name e) c)
  known-removed =
      known-on log lg rs rt e (end_without name e) c d ext longer refl (let is : length (with_each (retired name) e.channels) ≡ length e.channels = each-few 0 (retired name) e.channels in let le : length e.channels ≤ arena_slots = p.few in omega (arith, is, le)) origins stand
      (both-filter (IsOnRecord log rs c.lists) (IsOnRecord lg rt d.lists) (λ (s : Subscription). not (gone_keys (key_of s))) (λ (s : Standing). not (gone_keys s.key)) e.subscriptions c.standing p.subs
      (λ i sub st a b o. ap (λ (k : SubKey). not (gone_keys k)) o.key)
      (λ i sub st a b o stays. on-record-on log lg rs rt c.lists d.lists sub st st refl refl ext longer (within-at log rs e c st.place p) (λ r there. titles-kept-in sub.name r (stays-other i sub st a b (not-true (gone_keys (key_of sub)) stays)) there) o))
      p
    where
      lg : List Entry
      lg = log ++ removal_entries name rs

      rt : List RecordSide
      rt = filter (λ (r : RecordSide). not (bytes_eq r.name name)) rs

      d : Joined
      d = told_gone (channels_of name e) c

      longer : IsLonger log lg
      longer = (removal_entries name rs, refl)

      ext : Extends c.lists d.lists
      ext = record { up = λ i x at. at; down = λ i x at. At-append c.lists.down (map (removal_told c.creations) (channels_of name e)) i x at; handled = λ i x at. at }

      titles-kept-in : (n : List ℕ) (r : ℕ) → (n ≡ name → ⊥) → In (titles rs) (n, r) → In (titles rt) (n, r)
      titles-kept-in n r other there =
          let x = titled rs (n, r) there in
          let named : n ≡ x.0.name = ap (λ (t : List ℕ × ℕ). t.0) x.2 in
          let kept = kept-in (λ (z : RecordSide). not (bytes_eq z.name name)) rs x.0 x.1 (ap (λ (b : Bool). not b) (other-bytes x.0.name name (λ is. other (named ∙ is)))) in
          (kept.0, At-map title rt kept.0 x.0 kept.1 ∙ ap (λ (t : List ℕ × ℕ). Some t) (sym x.2))

      origins : (g : Handle) (ch : OpenChannel) → under (with_each (retired name) e.channels) g ≡ Some ch → IsOrigin lg rt d (wire_of g) ch
      origins g ch at =
          let u = each-back (retired name) e.channels g ch at in
          let is_retired : ch.retired ≡ u.0.retired || bytes_eq u.0.name name = ap (λ (x : OpenChannel). x.retired) u.2 in
          origin-on log lg rs rt c d (wire_of g) u.0 ch ext longer (ap (λ (x : OpenChannel). x.name) u.2) (λ stays. or-left u.0.retired (bytes_eq u.0.name name) (sym is_retired ∙ stays)) (λ z there sid. there)
          (λ r stays there. titles-kept-in u.0.name r (λ is. clash (bytes_eq u.0.name name) (same-bytes u.0.name name is) (or-right u.0.retired (bytes_eq u.0.name name) (sym is_retired ∙ stays))) there)
          (p.origins g u.0 u.1)

      stand : (k : ℕ) (s : Sent) (i : ℕ) (st : Standing) → At c.lists.up k s → At c.standing i st → st.place ≡ k → IsStanding d.standing k ⊎ IsOver lg d.lists k s
      stand k s i st at_s at place = go (gone_keys st.key) refl
        where
          go : (b : Bool) → gone_keys st.key ≡ b → IsStanding d.standing k ⊎ IsOver lg d.lists k s
          go false is = (let kept = kept-in (λ (z : Standing). not (gone_keys z.key)) c.standing st (i, at) (ap (λ (b : Bool). not b) is) in inl (kept.0, st, kept.1, place))
          go true is =
              let x = beside-right (IsOnRecord log rs c.lists) e.subscriptions c.standing i st p.subs at in
              let o = x.2 in
              let w = p.within st.place o.h o.handled in
              let named : x.0.name ≡ name = ends-named i x.0 st x.1 at is in
              inr (inr (λ r acted.
              let there = o.acted r (acted-back c.lists d.lists log lg st.place r o.s o.h ext longer o.sent o.handled w.sent w.logged (subst (λ (z : ℕ). Acted d.lists lg z r) (sym place) acted)) in
              let z = titled rs (x.0.name, r) there in
              let removed = removed-in name rs z.0 z.1 (ap (λ (t : List ℕ × ℕ). t.0) (sym z.2) ∙ named) in
              let number : z.0.number ≡ r = ap (λ (t : List ℕ × ℕ). t.1) (sym z.2) in
              subst (λ (n : ℕ). In lg (Removed n)) number (length log + removed.0, At-after log (removal_entries name rs) removed.0 (Removed z.0.number) removed.1)))
