-- What is known of the EVENT_ADDs of open ends, beside the posts that subscriptions see, stays
-- so over every event.
use Rattle.std.proofs.Common.{◌≡◌, ℕ, ◌≤◌, List, [], ◌∷◌, ◌++◌, length, sym, ap, subst, arith}
use Rattle.std.specs.Prelude.{option_map, slice_get, slice_set, unwrap_or}
use Rattle.ca_model.proofs.Tables.{place, under-at}
use Rattle.ca_queue.specs.Queue.{Queue, with_front_taken}
use Rattle.ca_text.specs.Limits.{arena_slots}
use Rattle.ca_text.specs.Place.{At}
use Rattle.ca_text.proofs.Places.{At-append}
use Rattle.ca_model.specs.History.{Cause, Entry, Reply, Step, Told}
use Rattle.ca_model.specs.Server.{ServerEnd, new_end}
use Rattle.ca_model.specs.ServerSteps.{Update}
use Rattle.ca_model.specs.Events.{Event}
use Rattle.ca_model.specs.Runs.{Happens}
use Rattle.ca_model.specs.ServerEvents.{front_number, stamped}
use Rattle.ca_model.specs.World.{Joined, RecordSide, Setting, Standing, World}
use Rattle.ca_laws_runs.specs.Created.{AllCreated}
use Rattle.ca_laws_runs.specs.Creations.{AllCreations}
use Rattle.ca_laws_parts.specs.Both.{Both}
use Rattle.ca_laws_parts.specs.Seats.{Sound, TakesSent}
use Rattle.ca_laws_parts.proofs.Frames.{Frame, goes-self}
use Rattle.ca_laws_parts.proofs.Lasting.{IsNew}
use Rattle.ca_laws_parts.proofs.WritesLists.{none_at}
use Rattle.ca_laws_runs.specs.Follows.{Follows}
use Rattle.ca_laws_runs.proofs.Acted.{follows-handled, follows-lasting}
use Rattle.ca_laws_runs.proofs.Begun.{follows-begins}
use Rattle.ca_laws_runs.proofs.Logged.{AllEnds, Begins, Lasting, frame-lasts}
use Rattle.ca_laws_runs.proofs.LoggedAll.{HandledIn, event-lasts-if}
use Rattle.ca_laws_runs.proofs.LoggedStep.{life-tells}
use Rattle.ca_laws_runs.specs.Known.{IsOnRecord, KnownOn}
use Rattle.ca_laws_runs.specs.Listed.{AllListed}
use Rattle.ca_laws_runs.proofs.Acting.{Grows}
use Rattle.ca_laws_runs.proofs.Handling.{known-handled}
use Rattle.ca_laws_runs.proofs.Known.{known-added, known-posted, known-pumped, known-removed, known-replied, known-stays, known-told}

-- updates that leave are told after what was told
pub stamped-down : (us : List Update) (c : Joined) → Grows c.lists.down (stamped us c).lists.down
stamped-down [] c i t at = at
stamped-down (u ∷ us) c i t at =
    let item : ℕ × Cause = unwrap_or (front_number c.queues u.queue) (0, Reply) in
    let queues : List (Queue (ℕ × Cause)) = unwrap_or (option_map (λ (q : Queue (ℕ × Cause)). slice_set c.queues u.queue (with_front_taken q)) (slice_get c.queues u.queue)) c.queues in
    let m : Told = record { message = u.message; place = item.0; cause = item.1 } in
    stamped-down us (record c { queues = queues; lists = record c.lists { down = c.lists.down ++ m ∷ [] } }) i t (At-append c.lists.down (m ∷ []) i t at)

-- Both: the posts that each subscription sees, and what is known of the EVENT_ADDs.
abbrev pub KnownAt : ℕ → List Entry → List RecordSide → ServerEnd → Joined → Type 0
KnownAt n log rs e c = Follows log rs e c × KnownOn log rs e c

pub known-lasting : Lasting KnownAt
known-lasting = record {
  stays = λ n log rs e f c d held goes h. (follows-lasting.stays n log rs e f c d held goes h.0, known-stays log rs e f c d held goes h.1);
  told = λ n log more rs rt e c quiet same h. (follows-lasting.told n log more rs rt e c quiet same h.0, known-told log more rs rt e c same h.1);
  posted = λ n log rs r mask v entry e c others in_rs is_post h. (follows-lasting.posted n log rs r mask v entry e c others in_rs is_post h.0, known-posted log rs r.name mask v entry e c h.1);
  removed = λ n log rs name e c h. (follows-lasting.removed n log rs name e c h.0, known-removed log rs name e c h.0 h.1);
  added = λ n log rs number behind s e c others fresh h. (follows-lasting.added n log rs number behind s e c others fresh h.0, known-added log rs number behind s e c h.1);
  pumped = λ n log rs us e after c folds h. (follows-lasting.pumped n log rs us e after c folds h.0, known-pumped log rs us e after c (stamped-down us c) folds h.1);
  replied = λ n log rs e c at ms h. (follows-lasting.replied n log rs e c at ms h.0, known-replied log rs e c at ms h.1);
}

known-begins : (log : List Entry) (rs : List RecordSide) (moment : ℕ) (c : Joined) → IsNew c → KnownOn log rs (new_end moment) c
known-begins log rs moment c new = record {
  few = (let le : 0 ≤ arena_slots = omega arith in le);
  came = (let is : length c.lists.handled ≡ 0 = ap (λ (l : List Step). length l) new.handled in omega (arith, is));
  origins = λ g ch there. absurd (none_at g.index (place g ch) (under-at (new_end moment).channels g ch there));
  within = λ k h at. absurd (none_at k h (subst (λ (l : List Step). At l k h) new.handled at));
  adds = λ k s h at_s at_h asks. absurd (none_at k h (subst (λ (l : List Step). At l k h) new.handled at_h));
  subs = subst (λ (l : List Standing). Both (IsOnRecord log rs c.lists) [] l) (sym new.standing) tt;
}

pub known-begun : Begins KnownAt
known-begun n moment log rs c new = (follows-begins log rs moment c new, known-begins log rs moment c new)

-- in a world whose records are listed, and whose channels are those that were created
handled-in : (w : World) → AllListed w → AllCreations w → AllCreated w → HandledIn KnownAt known-lasting known-begun w
handled-in w listed creations created m j y server wr at opened e taken new s replies did step has held sent due acts logged_is sent_is p =
    let own = wr.lives j.server y server in
    let q = known-lasting.stays m own.log y.records e taken j j held (goes-self j) p in (
      follows-handled own.log y.records y.core taken new s replies did step j sent due acts logged_is (life-tells w j.server y wr server) q.0,
      known-handled own.log y.records y.core taken new s replies did step j sent due acts logged_is sent_is (listed j.server y own.log server own.at) (creations m j y e at server opened has) (created m j at) q.1,
    )

pub event-known : (s : Setting) (w new : World) (e : Event) → TakesSent w → AllListed w → AllCreations w → AllCreated w → Happens w e new → Sound s w → AllEnds KnownAt w → AllEnds KnownAt new
event-known s w new e t listed creations created happens h all = event-lasts-if KnownAt known-lasting known-begun s w new e (handled-in w listed creations created) t happens h all

pub frame-known : (w new : World) → Frame w new → AllEnds KnownAt w → AllEnds KnownAt new
frame-known w new f all = frame-lasts KnownAt known-lasting w new f all
