-- Messages that are handled keep subscriptions beside the posts that they see; and
-- so it is in every run.
use Rattle.std.proofs.Common.{◌≡◌, ℕ, suc, ◌+◌, ◌<◌, Bool, true, false, cond, ◌==◌, eqb, eq-eqb, eqb-true, List, [], ◌∷◌, ◌++◌, length, Option, Some, None, refl, sym, ap, subst, ◌∙◌, arith}
use Rattle.std.specs.Prelude.{drop, filter_map, map, option_map, option_to_list, unwrap_or}
use Rattle.std.specs.List.{cons_option}
use Rattle.std.proofs.lemmas.List.{length-append}
use Rattle.ca_arena.specs.declared.handle.Handle.{Handle}
use Rattle.ca_ids.specs.Table.{Table, by_wire, held, under, with_freed}
use Rattle.ca_ids.specs.Wire.{wire_of}
use Rattle.ca_model.proofs.Tables.{freed-other, held-other, held-under, wire-under}
use Rattle.ca_queue.specs.declared.entry.SubKey.{SubKey}
use Rattle.ca_queue.specs.Keys.{is_among, same}
use Rattle.ca_queue.specs.Order.{last_of}
use Rattle.ca_queue.specs.Queue.{Queue, switched}
use Rattle.ca_text.specs.Command.{command_number}
use Rattle.ca_text.specs.declared.command.Command.TheVariants as command
use Rattle.ca_text.specs.Place.{At}
use Rattle.ca_text.proofs.Places.{At-append, At-last, At-map, At-mapped}
use Rattle.ca_wire.specs.Fields.{Fields}
use Rattle.ca_model.specs.Due.{Action, Adds, Applies, Clears, Drops, Due, KnownChannel, Opens, Switches, fault_of_event, subscription_in}
use Rattle.ca_model.specs.Due as action
use Rattle.ca_model.specs.History.{Cause, Entry, Removal, Reply, Sent, Step, Told, Update}
use Rattle.ca_model.specs.Server.{OpenChannel, Server, ServerEnd, Subscription, key_of, with_events}
use Rattle.ca_model.specs.ServerSteps.{Acts, known_channel, knows, without_channel}
use Rattle.ca_model.specs.Speech.{In, Stored, share_bit}
use Rattle.ca_model.specs.Posts.{matching, post_in}
use Rattle.ca_model.specs.Events.{Event}
use Rattle.ca_model.specs.Runs.{Happens, Runs}
use Rattle.ca_model.specs.ServerEvents.{handled_at, number_of, numbers_after}
use Rattle.ca_model.specs.World.{IsSetting, Joined, RecordSide, Setting, Standing, World, opening}
use Rattle.ca_laws_parts.proofs.BytesRuns.{runs-take}
use Rattle.ca_laws_parts.specs.InStep.{keys_standing}
use Rattle.ca_laws_parts.specs.Agrees.{stored, value_by}
use Rattle.ca_laws_parts.specs.Both.{Both}
use Rattle.ca_laws_parts.specs.Seats.{Sound, TakesSent}
use Rattle.ca_laws_parts.proofs.Fresh.{adds-fresh, due-adds}
use Rattle.ca_laws_parts.proofs.WritesLists.{both-all, both-at, both-snoc, take-whole}
use Rattle.ca_laws_runs.specs.Entries.{Tells, title}
use Rattle.ca_laws_runs.specs.Follows.{AllFollow, Follows, Stands, logged_at, posts_by}
use Rattle.ca_laws_runs.specs.Holds.{Counts, Holds, sent_numbers}
use Rattle.ca_laws_runs.specs.Holds as number
use Rattle.ca_laws_runs.proofs.Adding.{holds-added}
use Rattle.ca_laws_runs.proofs.Begun.{follows-begins, follows-pumped, follows-removed}
use Rattle.ca_laws_runs.proofs.Changing.{holds-like, holds-switched}
use Rattle.ca_laws_runs.proofs.Followed.{follows-posted, follows-without, keys-both}
use Rattle.ca_laws_runs.proofs.PostFollowing.{follows-added, follows-replied, follows-stays, follows-told, length-more, logged-is, replies-back, replies-sent, same-channels, stands-on}
use Rattle.ca_laws_runs.proofs.Logged.{Begins, Handled, Lasting}
use Rattle.ca_laws_runs.proofs.LoggedAll.{event-lasts, opening-lasts, run-lasts}

-- ---- nothing was sent about a place

sent-nothing : (place : ℕ) (down : List Told) → ((j a : ℕ) (t : Told) → At down j t → t.cause ≡ Update a → t.place ≡ place → ⊥) → sent_numbers place down ≡ []
sent-nothing place [] none = refl
sent-nothing place (t ∷ down) none = go (eqb t.place place) refl t.cause refl ∙ sent-nothing place down (λ j a x at. none (suc j) a x at)
  where
    go : (b : Bool) → eqb t.place place ≡ b → (w : Cause) → t.cause ≡ w → cons_option (cond b (number.number_of w) None) (sent_numbers place down) ≡ sent_numbers place down
    go true is (Update n) cause = absurd (none 0 n t refl cause (eqb-true t.place place is))
    go true is Reply cause = refl
    go true is Removal cause = refl
    go false is w cause = refl

drop-whole : {A : Type 0} (xs : List A) → drop (length xs) xs ≡ []
drop-whole [] = refl
drop-whole (x ∷ xs) = drop-whole xs

-- a subscription that begins now sees the value that stands
first-post : (log : List Entry) (logged r mask : ℕ) (v : Stored) → logged ≡ length log → value_by log r ≡ Some v → matching log logged r mask ≡ v ∷ []
first-post log logged r mask v is value =
    let all : ℕ → Bool = λ bits. true in
    ap (λ (n : ℕ). matching log n r mask) is
    ∙ ap (λ (l : List Entry). option_to_list (last_of (filter_map (post_in r all) l)) ++ filter_map (post_in r (share_bit mask)) (drop (length log) log)) (take-whole log)
    ∙ ap (λ (l : List Entry). option_to_list (value_by log r) ++ filter_map (post_in r (share_bit mask)) l) (drop-whole log)
    ∙ ap (λ (o : Option Stored). option_to_list o ++ []) value

-- ---- the lists grow

grown : (log : List Entry) (rs : List RecordSide) (e : ServerEnd) (c : Joined) (place : ℕ) (step : Step) (replies : List Fields) → Follows log rs e c → Follows log rs e (handled_at place step replies c)
grown log rs e c place step replies p = record {
  placed = both-all (Stands log rs e c) (Stands log rs e d) e.subscriptions c.standing p.placed (λ i sub st a b s. stands-on log log rs rs e e c d sub st st refl (λ q x at. at) (λ q h at. At-append c.lists.handled (step ∷ []) q h at) (omega arith) (λ k there. there) (same-channels e e refl sub) s);
  holds = holds-like (posts_by log rs c.lists.handled) (posts_by log rs d.lists.handled) e.subscriptions e.queues c d (length-more c.lists.handled (step ∷ [])) refl refl
      (λ k. replies-sent k place c.lists.down replies) (λ j a t at cause. replies-back place c.lists.down replies j a t at cause)
      (λ i sub st a b.
      let s = both-at (Stands log rs e c) e.subscriptions c.standing i sub st p.placed a b in
      ap (λ (n : ℕ). matching log n (number_of sub.name rs) sub.mask) (logged-is (c.lists.handled ++ step ∷ []) st.place s.h (At-append c.lists.handled (step ∷ []) st.place s.h s.handled) ∙ sym (logged-is c.lists.handled st.place s.h s.handled)))
      p.holds;
}
  where
    d : Joined
    d = handled_at place step replies c

-- ---- the same subscriptions and queues

plain : (log : List Entry) (rs : List RecordSide) (e new : ServerEnd) (c d : Joined) → new.subscriptions ≡ e.subscriptions → new.queues ≡ e.queues → d.lists ≡ c.lists → d.standing ≡ c.standing → d.queues ≡ c.queues
    → ((sub : Subscription) (g : Handle) (ch : OpenChannel) → under e.channels g ≡ Some ch → wire_of g ≡ sub.wanted.sid → ch.name ≡ sub.name → ch.retired ≡ false → (x : OpenChannel) × (under new.channels g ≡ Some x) × (x.name ≡ sub.name) × (x.retired ≡ false))
    → Follows log rs e c → Follows log rs new d
plain log rs e new c d subs queues lists standing numbers channels p = record {
  placed = subst (λ (l : List Subscription). Both (Stands log rs new d) l d.standing) (sym subs) (subst (λ (l : List Standing). Both (Stands log rs new d) e.subscriptions l) (sym standing)
      (both-all (Stands log rs e c) (Stands log rs new d) e.subscriptions c.standing p.placed
      (λ i sub st a b s. stands-on log log rs rs e new c d sub st st refl (λ q x at. subst (λ (l : _). At l.up q x) (sym lists) at) (λ q h at. subst (λ (l : _). At l.handled q h) (sym lists) at) (omega arith) (λ k there. there) (channels sub) s)));
  holds = subst (λ (l : List Subscription). Holds (posts_by log rs d.lists.handled) l new.queues d) (sym subs)
      (subst (λ (q : List (Queue Stored)). Holds (posts_by log rs d.lists.handled) e.subscriptions q d) (sym queues)
      (holds-like (posts_by log rs c.lists.handled) (posts_by log rs d.lists.handled) e.subscriptions e.queues c d (let is : length d.lists.handled ≡ length c.lists.handled = ap (λ (l : _). length l.handled) lists in omega (arith, is)) standing numbers
      (λ place. ap (λ (l : _). sent_numbers place l.down) lists) (λ j a t at cause. (j, subst (λ (l : _). At l.down j t) lists at)) (λ i sub st a b. ap (λ (l : _). posts_by log rs l.handled sub st.place) lists) p.holds));
}

same-both : (log : List Entry) (rs : List RecordSide) (e new : ServerEnd) (c : Joined) → new.subscriptions ≡ e.subscriptions → new.queues ≡ e.queues → new.channels ≡ e.channels → Follows log rs e c → Follows log rs new c
same-both log rs e new c subs queues channels p = plain log rs e new c c subs queues refl refl refl (λ sub. same-channels e new channels sub) p

-- the channels that a clear leaves
cleared-channels : (e : ServerEnd) (sid n : ℕ) (g : Handle) (ch : OpenChannel) → (n ≡ sid → ⊥) → under e.channels g ≡ Some ch → wire_of g ≡ n → under (without_channel sid e).channels g ≡ Some ch
cleared-channels e sid n g ch other at wire = go (by_wire e.channels sid) refl
  where
    go : (o : Option (Handle × OpenChannel)) → by_wire e.channels sid ≡ o → under (unwrap_or (option_map (λ (c : Handle × OpenChannel). with_freed c.0 e.channels) o) e.channels) g ≡ Some ch
    go None is = at
    go (Some found) is =
        let w = wire-under e.channels sid found is in
        freed-other e.channels g found.0 ch at (λ same_handle. other (sym wire ∙ ap wire_of same_handle ∙ w.1))

differs-sid : (a b : ℕ) → (a == b) ≡ false → a ≡ b → ⊥
differs-sid a b no_it is = (let f : true ≡ false = sym (eq-eqb a b is) ∙ no_it in cc)

-- ---- a subscription begins

same-sub : (s t : Subscription) → Adds s ≡ Adds t → s ≡ t
same-sub s t is = cc

begun : (log : List Entry) (rs : List RecordSide) (y : Server) (e new : ServerEnd) (s : Sent) (replies : List Fields) (sub : Subscription) (step : Step) (c : Joined) → At c.lists.up (length c.lists.handled) s → Due (knows y e) s.message replies (Adds sub) → Acts y e (Adds sub) new
    → step.logged ≡ length log → Tells log y.records rs → Follows log rs e c → Follows log rs new (handled_at (length c.lists.handled) step replies (numbers_after (length c.lists.handled) (Adds sub) c))
begun log rs y e new s replies sub step c at due acts logged tells p =
    record {
      placed = subst (λ (l : List Subscription). Both (Stands log rs new d) l d.standing) (sym subs)
          (both-snoc (Stands log rs new d) e.subscriptions c.standing sub st
          (both-all (Stands log rs e c) (Stands log rs new d) e.subscriptions c.standing p.placed
          (λ i x z a b q. stands-on log log rs rs e new c d x z z refl (λ k v there. there) (λ k h there. At-append c.lists.handled (step ∷ []) k h there) (omega arith) (λ k there. there) (same-channels e new channels x) q))
          (record {
            s = s;
            sent = at;
            asks = adds.0;
            by = by_is;
            h = step;
            handled = At-last c.lists.handled step;
            within = omega (arith, logged);
            number = r.0.number;
            there = (r.1.0, At-map title rs r.1.0 r.0 r.1.1 ∙ ap (λ (n : List ℕ). Some (n, r.0.number)) r.2);
            g = opened.0.0;
            ch = opened.0.1;
            channel = subst (λ (t : Table OpenChannel). under t opened.0.0 ≡ Some opened.0.1) (sym channels) (held-under e.channels serves.open_there.0 opened.0 opened.1);
            sid = ap (λ (k : KnownChannel). k.sid) (sym opened.2) ∙ serves.under ∙ ap (λ (x : Subscription). x.wanted.sid) (sym is);
            name = ap (λ (k : KnownChannel). k.name) (sym opened.2) ∙ ap (λ (x : Subscription). x.name) (sym is);
            stays = ap (λ (k : KnownChannel). k.retired) (sym opened.2) ∙ serves.there;
          }));
      holds = holds-added posts sub v place e new c1 acts.2 fresh (let l : length (c.lists.handled ++ step ∷ []) ≡ length c.lists.handled + 1 = length-append c.lists.handled (step ∷ []) in omega (arith, l)) p.holds.stood unsent
          (replies-sent place place c.lists.down replies ∙ sent-nothing place c.lists.down early)
          (first-post log (logged_at (c.lists.handled ++ step ∷ []) place) (number_of sub.name rs) sub.mask v (logged-is (c.lists.handled ++ step ∷ []) place step (At-last c.lists.handled step) ∙ logged) (ap (λ (n : ℕ). value_by log n) r.3 ∙ r.4))
          (grown log rs e c place step replies p).holds;
    }
  where
    place : ℕ
    place = length c.lists.handled

    c1 : Joined
    c1 = handled_at place step replies c

    d : Joined
    d = handled_at place step replies (numbers_after place (Adds sub) c)

    st : Standing
    st = record { key = key_of sub; place = place; posts = 1 }

    v : Stored
    v = record { value = acts.0.state.value; meta = acts.0.state.meta }

    posts : Subscription → ℕ → List Stored
    posts = posts_by log rs (c.lists.handled ++ step ∷ [])

    adds : (s.message.command ≡ command_number command.EventAdd) × ((k : action.Serves (knows y e) s.message.p1) × (fault_of_event (knows y e) s.message k ≡ None) × (replies ≡ []) × (Adds sub ≡ Adds (subscription_in s.message k.channel.name)))
    adds = due-adds (knows y e) s.message replies sub due

    serves : action.Serves (knows y e) s.message.p1
    serves = adds.1.0

    is : sub ≡ subscription_in s.message serves.channel.name
    is = same-sub sub (subscription_in s.message serves.channel.name) adds.1.3

    by_is : sub ≡ subscription_in s.message sub.name
    by_is = is ∙ ap (λ (n : List ℕ). subscription_in s.message n) (ap (λ (x : Subscription). x.name) (sym is))

    opened : (x : Handle × OpenChannel) × At (held e.channels) serves.open_there.0 x × (serves.channel ≡ known_channel x)
    opened = At-mapped known_channel (held e.channels) serves.open_there.0 serves.channel serves.open_there.1

    r : (x : RecordSide) × In rs x × (x.name ≡ sub.name) × (number_of sub.name rs ≡ x.number) × (value_by log x.number ≡ Some (stored acts.0))
    r = tells sub.name acts.0 acts.1

    subs : new.subscriptions ≡ e.subscriptions ++ sub ∷ []
    subs = ap (λ (x : ServerEnd). x.subscriptions) acts.2.leaves

    channels : new.channels ≡ e.channels
    channels = ap (λ (x : ServerEnd). x.channels) acts.2.leaves

    fresh : is_among (key_of sub) (keys_standing c1) ≡ false
    fresh =
        subst (λ (l : List SubKey). is_among (key_of sub) l ≡ false)
        (keys-both (Counts (posts_by log rs c.lists.handled) c.lists.down p.holds.both) e.subscriptions c.standing (λ x z n. n.key) p.holds.each)
        (adds-fresh (knows y e) s.message replies sub due)

    early : (j a : ℕ) (t : Told) → At c.lists.down j t → t.cause ≡ Update a → t.place ≡ place → ⊥
    early j a t there cause same_place = (let lt : t.place < length c.lists.handled = p.holds.early j a t there cause in omega (arith, lt, same_place))

    unsent : (j a : ℕ) (t : Told) → At c1.lists.down j t → t.cause ≡ Update a → t.place ≡ place → ⊥
    unsent j a t there cause same_place = (let b = replies-back place c.lists.down replies j a t there cause in early b.0 a t b.1 cause same_place)

-- ---- events on or off

switched-on : (log : List Entry) (rs : List RecordSide) (on : Bool) (e : ServerEnd) (c : Joined) → Follows log rs e c → Follows log rs (with_events on e) (record c { queues = map (switched on) c.queues })
switched-on log rs on e c p = record {
  placed = both-all (Stands log rs e c) (Stands log rs f d) e.subscriptions c.standing p.placed (λ i sub st a b z. stands-on log log rs rs e f c d sub st st refl (λ q x there. there) (λ q h there. there) (omega arith) (λ k there. there) (same-channels e f refl sub) z);
  holds = holds-switched (posts_by log rs c.lists.handled) on e.subscriptions e.queues c p.holds;
}
  where
    f : ServerEnd
    f = with_events on e

    d : Joined
    d = record c { queues = map (switched on) c.queues }

-- ---- a message is handled

pub follows-handled : (log : List Entry) (rs : List RecordSide) (y : Server) (e new : ServerEnd) (s : Sent) (replies : List Fields) (did : Action) (step : Step) (c : Joined) → At c.lists.up (length c.lists.handled) s → Due (knows y e) s.message replies did → Acts y e did new
    → step.logged ≡ length log → Tells log y.records rs → Follows log rs e c → Follows log rs new (handled_at (length c.lists.handled) step replies (numbers_after (length c.lists.handled) did c))
follows-handled log rs y e new s replies (Adds sub) step c at due acts logged tells p = begun log rs y e new s replies sub step c at due acts logged tells p
follows-handled log rs y e new s replies (Opens ch) step c at due acts logged tells p =
    plain log rs e new (handled_at (length c.lists.handled) step replies c) (handled_at (length c.lists.handled) step replies (numbers_after (length c.lists.handled) (Opens ch) c)) (ap (λ (x : ServerEnd). x.subscriptions) acts.3) (ap (λ (x : ServerEnd). x.queues) acts.3) refl refl refl
    (λ sub g x there sid name stays. (x, subst (λ (t : Table OpenChannel). under t g ≡ Some x) (sym (ap (λ (z : ServerEnd). z.channels) acts.3)) (held-other e.channels g acts.0 _ x acts.1 there), name, stays))
    (grown log rs e c (length c.lists.handled) step replies p)
follows-handled log rs y e new s replies (Clears sid) step c at due acts logged tells p =
    let gone : SubKey → Bool = λ (k : SubKey). k.sid == sid in
    follows-without log log rs rs gone e new (handled_at (length c.lists.handled) step replies c) (handled_at (length c.lists.handled) step replies (numbers_after (length c.lists.handled) (Clears sid) c))
    (ap (λ (x : ServerEnd). x.subscriptions) acts) (ap (λ (x : ServerEnd). x.queues) acts) refl refl refl (omega arith) (λ sub st out z k there. there)
    (λ sub out g ch there wire name stays. (ch, subst (λ (x : ServerEnd). under x.channels g ≡ Some ch) (sym acts) (cleared-channels e sid sub.wanted.sid g ch (differs-sid sub.wanted.sid sid out) there wire), name, stays))
    (λ sub st out z. refl) (grown log rs e c (length c.lists.handled) step replies p)
follows-handled log rs y e new s replies (Drops key) step c at due acts logged tells p =
    follows-without log log rs rs (same key) e new (handled_at (length c.lists.handled) step replies c) (handled_at (length c.lists.handled) step replies (numbers_after (length c.lists.handled) (Drops key) c))
    (ap (λ (x : ServerEnd). x.subscriptions) acts) (ap (λ (x : ServerEnd). x.queues) acts) refl refl refl (omega arith) (λ sub st out z k there. there)
    (λ sub out. same-channels e new (ap (λ (x : ServerEnd). x.channels) acts) sub)
    (λ sub st out z. refl) (grown log rs e c (length c.lists.handled) step replies p)
follows-handled log rs y e new s replies (Switches on) step c at due acts logged tells p =
    subst (λ (x : ServerEnd). Follows log rs x (handled_at (length c.lists.handled) step replies (numbers_after (length c.lists.handled) (Switches on) c))) (sym acts)
    (switched-on log rs on e (handled_at (length c.lists.handled) step replies c) (grown log rs e c (length c.lists.handled) step replies p))
follows-handled log rs y e new s replies action.Greets step c at due acts logged tells p =
    same-both log rs e new _ (ap (λ (x : ServerEnd). x.subscriptions) acts) (ap (λ (x : ServerEnd). x.queues) acts) (ap (λ (x : ServerEnd). x.channels) acts) (grown log rs e c (length c.lists.handled) step replies p)
follows-handled log rs y e new s replies (action.Names x) step c at due acts logged tells p =
    same-both log rs e new _ (ap (λ (x : ServerEnd). x.subscriptions) acts) (ap (λ (x : ServerEnd). x.queues) acts) (ap (λ (x : ServerEnd). x.channels) acts) (grown log rs e c (length c.lists.handled) step replies p)
follows-handled log rs y e new s replies action.Nothing step c at due acts logged tells p =
    same-both log rs e new _ (ap (λ (x : ServerEnd). x.subscriptions) acts) (ap (λ (x : ServerEnd). x.queues) acts) (ap (λ (x : ServerEnd). x.channels) acts) (grown log rs e c (length c.lists.handled) step replies p)
follows-handled log rs y e new s replies (Applies name value busies) step c at due acts logged tells p =
    same-both log rs e new _ (ap (λ (x : ServerEnd). x.subscriptions) acts) (ap (λ (x : ServerEnd). x.queues) acts) (ap (λ (x : ServerEnd). x.channels) acts) (grown log rs e c (length c.lists.handled) step replies p)
follows-handled log rs y e new s replies (action.Waits name value) step c at due acts logged tells p =
    same-both log rs e new _ (ap (λ (x : ServerEnd). x.subscriptions) acts) (ap (λ (x : ServerEnd). x.queues) acts) (ap (λ (x : ServerEnd). x.channels) acts) (grown log rs e c (length c.lists.handled) step replies p)

-- ---- every event, and every run

abbrev FollowsAt : ℕ → List Entry → List RecordSide → ServerEnd → Joined → Type 0
FollowsAt n log rs e c = Follows log rs e c

pub follows-lasting : Lasting FollowsAt
follows-lasting = record {
  stays = λ n. follows-stays;
  told = λ n. follows-told;
  posted = λ n. follows-posted;
  removed = λ n. follows-removed;
  added = λ n. follows-added;
  pumped = λ n. follows-pumped;
  replied = λ n. follows-replied;
}

follows-begun : Begins FollowsAt
follows-begun n moment log rs c new = follows-begins log rs moment c new

follows-kept : Handled FollowsAt
follows-kept n = follows-handled

pub opening-follows : (s : Setting) → AllFollow (opening s)
opening-follows = opening-lasts FollowsAt follows-lasting follows-begun follows-kept

pub event-follows : (s : Setting) (w new : World) (e : Event) → TakesSent w → Happens w e new → Sound s w → AllFollow w → AllFollow new
event-follows = event-lasts FollowsAt follows-lasting follows-begun follows-kept

pub run-follows : (s : Setting) (es : List Event) (stopped : Option Event) (w : World) → IsSetting s → Runs s es stopped w → AllFollow w
run-follows s es stopped w ok runs = run-lasts FollowsAt follows-lasting follows-begun follows-kept s es stopped w ok runs (runs-take s es ok)
