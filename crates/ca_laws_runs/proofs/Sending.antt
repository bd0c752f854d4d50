-- The updates that were sent on a circuit stay as they were over every event, but that more leave
-- their queues; and each shows its post.
use Rattle.std.proofs.Common.{◌≡◌, ℕ, ◌≤◌, ◌⊎◌, inl, inr, Bool, true, false, cond, ◌&&◌, eqb, not, List, [], ◌∷◌, ◌++◌, length, Option, Some, None, refl, sym, ap, subst, ◌∙◌}
use Rattle.std.specs.Prelude.{drop, filter, filter_map, map, option_map, slice_get, slice_set, unwrap_or}
use Rattle.std.specs.List.{fold, list_any}
use Rattle.ca_arena.specs.declared.handle.Handle.{Handle}
use Rattle.ca_dbr.specs.Elements.{Elements}
use Rattle.ca_ids.specs.Table.{under}
use Rattle.ca_ids.specs.Wire.{wire_of}
use Rattle.std.specs.Str.{bytes_eq}
use Rattle.ca_queue.specs.declared.entry.SubKey.{SubKey}
use Rattle.ca_records.specs.Puts.{WaitingPut}
use Rattle.ca_records.specs.Record.{RecordState, unset}
use Rattle.ca_text.specs.Place.{At}
use Rattle.ca_text.proofs.Places.{At-append, At-mapped, At-parts, At-set, At-snoc}
use Rattle.ca_wire.specs.Fields.{Fields}
use Rattle.ca_wire.specs.Messages.{mask_in}
use Rattle.ca_model.specs.Answers.{Closing}
use Rattle.ca_model.specs.Due.{Action, Applies}
use Rattle.ca_model.specs.Due as action
use Rattle.ca_model.specs.Ends as why
use Rattle.ca_model.specs.History.{Cause, Circuit, Collected, Entry, GaveUp, Removal, Reply, Step, Told, Update}
use Rattle.ca_model.specs.Server.{OpenChannel, Server}
use Rattle.ca_model.specs.ServerSteps.{Stepped, closed}
use Rattle.ca_model.specs.ServerSteps as stepped
use Rattle.ca_model.specs.Speech.{Stored, share_bit}
use Rattle.ca_model.specs.Posts.{matching, post_in}
use Rattle.ca_model.specs.ClientEvents.{DownTaken, HappensAccept, HappensDown, WantsFirst, connected_as, new_circuit, up_taken}
use Rattle.ca_model.specs.Events.{Event}
use Rattle.ca_model.specs.Events as event
use Rattle.ca_model.specs.Runs.{CanBe, Happens, Leaves as LeavesBy, clients_below}
use Rattle.ca_model.specs.ServerEvents.{HappensAdd, HappensFinish, HappensPost, HappensRemove, ServerStepped, about, acted, disconnected_at, ending, ends_by, ends_here, handled_at, keys_concerned, next_numbers, noted, numbers_after, numbers_posted, removal_told, removed_at, replied_at, server_after, server_closed, side_of, unsaid, with_number, without_standing, write_numbers}
use Rattle.ca_model.specs.ServerEvents as server
use Rattle.ca_model.specs.World.{ClientSide, Joined, RecordSide, ServerSide, World, with_circuit}
use Rattle.ca_laws_parts.proofs.Handled.{numbers-like}
use Rattle.ca_laws_parts.specs.Moves.{finish_told, post_told}
use Rattle.ca_laws_parts.specs.Moves as moves
use Rattle.ca_laws_parts.proofs.Every.{ticks-frame}
use Rattle.ca_laws_parts.proofs.Frames.{Frame, Goes}
use Rattle.ca_laws_parts.proofs.HappensClient.{begun-frame, clear-frame, cut-frame, datagram-frame, handing-frame, hear-frame, open-frame, put-frame, read-frame, sent-frame, subscribe-frame, unsubscribe-frame, up-frame, write-frame}
use Rattle.ca_laws_parts.proofs.Lasting.{told_late}
use Rattle.ca_laws_parts.proofs.LastingStep.{replied-back}
use Rattle.ca_laws_parts.proofs.WritesLists.{none_at}
use Rattle.ca_laws_runs.proofs.PostFollowing.{matching-more}
use Rattle.ca_laws_runs.specs.Sent.{IsShown, SentOn}
use Rattle.ca_laws_runs.proofs.Acting.{Extends, IsLonger, acted-back, extends-then}
use Rattle.ca_laws_runs.proofs.Known.{extends-self, within-on}

-- ---- a circuit from one world to the next

-- It joins the same life, and its lists grow, with no update more. Nothing waits at
-- an end that ends now.
pub record KeepsUpdates (c d : Joined) : Type 0 where
  pub life : d.lists.server ≡ c.lists.server
  pub lists : Extends c.lists d.lists
  pub updates : (i a : ℕ) (t : Told) → At d.lists.down i t → t.cause ≡ Update a → At c.lists.down i t
  pub over : d.lists.server_open ≡ false → (d.queues ≡ []) ⊎ ((c.lists.server_open ≡ false) × (d.queues ≡ c.queues))

pub keeps-lists : (c d : Joined) → d.lists ≡ c.lists → (c.lists.server_open ≡ false → d.queues ≡ c.queues) → KeepsUpdates c d
keeps-lists c d lists queues = record {
  life = ap (λ (z : Circuit). z.server) lists;
  lists = subst (λ (z : Circuit). Extends c.lists z) (sym lists) (extends-self c.lists);
  updates = λ i a t at cause. subst (λ (z : Circuit). At z.down i t) lists at;
  over = λ shut. (let was : c.lists.server_open ≡ false = ap (λ (z : Circuit). z.server_open) (sym lists) ∙ shut in inr (was, queues was));
}

pub keeps-then : (a b c : Joined) → KeepsUpdates a b → KeepsUpdates b c → KeepsUpdates a c
keeps-then a b c f g = record {
  life = g.life ∙ f.life;
  lists = extends-then a.lists b.lists c.lists f.lists g.lists;
  updates = λ i n t at cause. f.updates i n t (g.updates i n t at cause) cause;
  over = λ shut. elim (g.over shut) [
    | inl none ↦ inl none
    | inr same_it ↦ elim (f.over same_it.0) [
      | inl none ↦ inl (same_it.1 ∙ none)
      | inr was ↦ inr (was.0, same_it.1 ∙ was.1)
    ]
  ];
}

-- more was told, of which nothing is an update
keeps-told : (c d : Joined) (more : List Told) → d.lists ≡ record c.lists { down = c.lists.down ++ more } → ((i a : ℕ) (t : Told) → At more i t → t.cause ≡ Update a → ⊥) → (c.lists.server_open ≡ false → d.queues ≡ c.queues) → KeepsUpdates c d
keeps-told c d more lists none queues = record {
  life = ap (λ (z : Circuit). z.server) lists;
  lists = subst (λ (z : Circuit). Extends c.lists z) (sym lists) (record { up = λ i x at. at; down = λ i x at. At-append c.lists.down more i x at; handled = λ i x at. at });
  updates = λ i a t at cause. elim (At-parts c.lists.down more i t (subst (λ (z : Circuit). At z.down i t) lists at)) [
    | inl old ↦ old
    | inr new ↦ absurd (none new.0 a t new.2 cause)
  ];
  over = λ shut. (let was : c.lists.server_open ≡ false = ap (λ (z : Circuit). z.server_open) (sym lists) ∙ shut in inr (was, queues was));
}

reply-no : (a : ℕ) → let x : Cause = Reply in let y : Cause = Update a in x ≡ y → ⊥
reply-no a e = cc

removal-no : (a : ℕ) → let x : Cause = Removal in let y : Cause = Update a in x ≡ y → ⊥
removal-no a e = cc

replies-none : (place : ℕ) (ms : List Fields) (i a : ℕ) (t : Told) → At (about place Reply ms) i t → t.cause ≡ Update a → ⊥
replies-none place ms i a t at cause =
    let x = At-mapped (λ (m : Fields). let u : Told = record { message = m; place = place; cause = Reply } in u) ms i t at in
    reply-no a (ap (λ (u : Told). u.cause) (sym x.2) ∙ cause)

abbrev pub Back : (w new : World) → Type 0
Back w new = (l : ℕ) (d : Joined) → At new.circuits l d → ((c : Joined) × At w.circuits l c × KeepsUpdates c d) ⊎ ((d.lists.down ≡ []) × (d.lists.server_open ≡ true))

back-same : (w new : World) → new.circuits ≡ w.circuits → Back w new
back-same w new is l d at = inl (d, subst (λ (x : List Joined). At x l d) is at, keeps-lists d d refl (λ shut. refl))

pub back-frame : (w new : World) → Frame w new → Back w new
back-frame w new f l d at = (let c = f.back l d at in inl (c.0, c.1, goes c.0 d c.2))
  where
    goes : (c d : Joined) → Goes c d → KeepsUpdates c d
    goes c d g = record {
      life = g.later.life;
      lists = record { up = g.later.up; down = λ i t told. subst (λ (x : List Told). At x i t) (sym g.down) told; handled = g.later.handled };
      updates = λ i a t told cause. subst (λ (x : List Told). At x i t) g.down told;
      over = λ shut. inr (sym g.is_open ∙ shut, g.queues);
    }

-- each circuit that was there goes on
abbrev BackAll : (w new : World) → Type 0
BackAll w new = (l : ℕ) (d : Joined) → At new.circuits l d → (c : Joined) × At w.circuits l c × KeepsUpdates c d

all-back : (w new : World) → BackAll w new → Back w new
all-back w new f l d at = inl (f l d at)

same-all : (w new : World) → new.circuits ≡ w.circuits → BackAll w new
same-all w new is l d at = (d, subst (λ (x : List Joined). At x l d) is at, keeps-lists d d refl (λ shut. refl))

all-then : (w mid new : World) → BackAll w mid → BackAll mid new → BackAll w new
all-then w mid new f g l d at = (let c = g l d at in let b = f l c.0 c.1 in (b.0, b.1, keeps-then b.0 c.0 d b.2 c.2))

back-then : (w mid new : World) → BackAll w mid → Back mid new → Back w new
back-then w mid new f g l d at = elim (g l d at) [
  | inl c ↦ (let b = f l c.0 c.1 in inl (b.0, b.1, keeps-then b.0 c.0 d b.2 c.2))
  | inr fresh ↦ inr fresh
]

all-map : (w mid : World) (f : Joined → Joined) → mid.circuits ≡ map f w.circuits → ((c : Joined) → KeepsUpdates c (f c)) → BackAll w mid
all-map w mid f is keeps l d at =
    let c = At-mapped f w.circuits l d (subst (λ (x : List Joined). At x l d) is at) in
    (c.0, c.1, subst (λ (z : Joined). KeepsUpdates c.0 z) (sym c.2) (keeps c.0))

all-set : (w : World) (k : ℕ) (j next : Joined) → At w.circuits k j → KeepsUpdates j next → BackAll w (with_circuit k next w)
all-set w k j next on keeps l d at = elim (At-set w.circuits k next l d at) [
  | inl own ↦ (j, subst (λ (m : ℕ). At w.circuits m j) (sym own.0) on, subst (λ (z : Joined). KeepsUpdates j z) (sym own.1) keeps)
  | inr old ↦ (d, old.0, keeps-lists d d refl (λ shut. refl))
]

-- ---- what events do to a circuit

pub keeps-ending : (ends : Joined → Option (List ℕ)) (c : Joined) → KeepsUpdates c (ending ends c)
keeps-ending ends c = go (ends c)
  where
    go : (o : Option (List ℕ)) → KeepsUpdates c (unwrap_or (option_map (λ (left : List ℕ). server_closed left c) o) c)
    go None = keeps-lists c c refl (λ shut. refl)
    go (Some left) = record { life = refl; lists = record { up = λ i x at. at; down = λ i x at. at; handled = λ i x at. at }; updates = λ i a t at cause. at; over = λ shut. inl refl }

all-after : (w mid : World) (i : ℕ) (side : ServerSide) (ends : Joined → Option (List ℕ)) (core : Server) → BackAll w mid → BackAll w (server_after i side ends core mid)
all-after w mid i side ends core back = all-then w mid (server_after i side ends core mid) back (all-map mid (server_after i side ends core mid) (ending ends) refl (keeps-ending ends))

fold-lists : (c : Joined) (keys : List SubKey) → (fold with_number c keys).lists ≡ c.lists
fold-lists c [] = refl
fold-lists c (k ∷ keys) = fold-lists (with_number c k) keys

-- only at an open end
keeps-if : (c d : Joined) (b : Bool) → (b ≡ true → KeepsUpdates c d) → KeepsUpdates c (cond b d c)
keeps-if c d true keeps = keeps refl
keeps-if c d false keeps = keeps-lists c c refl (λ shut. refl)

and-right : (a b : Bool) → a && b ≡ true → b ≡ true
and-right true b e = e
and-right false b e = absurd cc

clash : (b : Bool) → b ≡ true → b ≡ false → ⊥
clash true e f = cc
clash false e f = cc

keeps-posted : (i : ℕ) (core : Server) (name : List ℕ) (mask : ℕ) (c : Joined) → KeepsUpdates c (numbers_posted i core name mask c)
keeps-posted i core name mask c =
    keeps-if c (fold with_number c keys) (eqb c.server i && c.lists.server_open)
    (λ here. keeps-lists c (fold with_number c keys) (fold-lists c keys) (λ shut. absurd (clash c.lists.server_open (and-right (eqb c.server i) c.lists.server_open here) shut)))
  where
    keys : List SubKey
    keys = keys_concerned name mask (under core.circuits c.at_server)

keeps-written : (i : ℕ) (core : Server) (did : Action) (c : Joined) → KeepsUpdates c (write_numbers i core did c)
keeps-written i core (Applies name value busies) c = keeps-posted i core name 3 c
keeps-written i core (action.Waits name value) c = keeps-lists c c refl (λ shut. refl)
keeps-written i core (action.Clears sid) c = keeps-lists c c refl (λ shut. refl)
keeps-written i core action.Nothing c = keeps-lists c c refl (λ shut. refl)
keeps-written i core action.Greets c = keeps-lists c c refl (λ shut. refl)
keeps-written i core (action.Names x) c = keeps-lists c c refl (λ shut. refl)
keeps-written i core (action.Opens x) c = keeps-lists c c refl (λ shut. refl)
keeps-written i core (action.Adds x) c = keeps-lists c c refl (λ shut. refl)
keeps-written i core (action.Drops x) c = keeps-lists c c refl (λ shut. refl)
keeps-written i core (action.Switches x) c = keeps-lists c c refl (λ shut. refl)

keeps-next : (i : ℕ) (core : Server) (name : List ℕ) (ws : List WaitingPut) (c : Joined) → KeepsUpdates c (next_numbers i core name ws c)
keeps-next i core name [] c = keeps-lists c c refl (λ shut. refl)
keeps-next i core name (x ∷ ws) c = keeps-posted i core name 3 c

keeps-late : (place : ℕ) (ms : List Fields) (c : Joined) → KeepsUpdates c (told_late place ms c)
keeps-late place ms c = keeps-told c (told_late place ms c) (about place Reply ms) refl (replies-none place ms) (λ shut. refl)

keeps-removed : (i : ℕ) (core : Server) (name : List ℕ) (gone : Handle → Bool) (left : Handle → ℕ) (c : Joined) → KeepsUpdates c (removed_at i core name gone left c)
keeps-removed i core name gone left c =
    keeps-if c after (eqb c.server i && c.lists.server_open)
    (λ here. keeps-told c after (map (removal_told c.creations) told) refl none (λ shut. absurd (clash c.lists.server_open (and-right (eqb c.server i) c.lists.server_open here) shut)))
  where
    told : List (Handle × OpenChannel)
    told = disconnected_at name gone left c.at_server (under core.circuits c.at_server)

    after : Joined
    after = without_standing (λ (k : SubKey). list_any (λ (x : Handle × OpenChannel). eqb (wire_of x.0) k.sid) told) (record c { lists = record c.lists { down = c.lists.down ++ map (removal_told c.creations) told } })

    none : (l a : ℕ) (t : Told) → At (map (removal_told c.creations) told) l t → t.cause ≡ Update a → ⊥
    none l a t at cause = (let x = At-mapped (removal_told c.creations) told l t at in removal-no a (ap (λ (u : Told). u.cause) (sym x.2) ∙ cause))

-- ---- a step of a server's end

-- what a message does, on its circuit and on others
acted-all : (w : World) (k : ℕ) (j : Joined) (y : ServerSide) (did : Action) → At w.circuits k j → j.lists.server_open ≡ true → BackAll w (acted k j y did w)
acted-all w k j y did on opened =
    all-then w (with_circuit k numbers w) (acted k j y did w) (all-set w k j numbers on (keeps-lists j numbers (numbers-like (length j.lists.handled) did j).0 (λ shut. absurd (clash j.lists.server_open opened shut))))
    (all-map (with_circuit k numbers w) (acted k j y did w) (write_numbers j.server y.core did) refl (keeps-written j.server y.core did))
  where
    numbers : Joined
    numbers = numbers_after (length j.lists.handled) did j

keeps-handled : (place : ℕ) (step : Step) (replies : List Fields) (c : Joined) → KeepsUpdates c (handled_at place step replies c)
keeps-handled place step replies c = record {
  life = refl;
  lists = record { up = λ i x at. at; down = λ i x at. At-append c.lists.down (about place Reply replies) i x at; handled = λ i x at. At-append c.lists.handled (step ∷ []) i x at };
  updates = λ i a t at cause. elim (At-parts c.lists.down (about place Reply replies) i t at) [
    | inl old ↦ old
    | inr new ↦ absurd (replies-none place replies new.0 a t new.2 cause)
  ];
  over = λ shut. inr (shut, refl);
}

noted-all : (w after : World) (k : ℕ) (j : Joined) (y : ServerSide) (replies : List Fields) → BackAll after (noted k j y replies w after)
noted-all w after k j y replies = go (slice_get after.circuits k) refl
  where
    step : Step
    step = record { sent = length j.lists.down; logged = server.logged y w; after = server.logged y after }

    go : (o : Option Joined) → slice_get after.circuits k ≡ o → BackAll after (unwrap_or (option_map (λ (c : Joined). with_circuit k (handled_at (length j.lists.handled) step replies c) after) o) after)
    go None is = same-all after after refl
    go (Some c) is = all-set after k c (handled_at (length j.lists.handled) step replies c) is (keeps-handled (length j.lists.handled) step replies c)

step-all : (w new : World) (k : ℕ) (j : Joined) (y : ServerSide) (did : Stepped) → At w.circuits k j → j.lists.server_open ≡ true → ServerStepped w k j y did new → BackAll w new
step-all w new k j y stepped.Handled on opened f =
    subst (λ (z : World). BackAll w z) (sym f.leaves)
    (all-then w after (noted k j y (f.steps.0).replies w after) (all-after w mid j.server (side_of j.server y mid) (ends_by j.server f.core) f.core (acted-all w k j y (f.steps.0).action on opened)) (noted-all w after k j y (f.steps.0).replies))
  where
    mid : World
    mid = acted k j y (f.steps.0).action w

    after : World
    after = server_after j.server (side_of j.server y mid) (ends_by j.server f.core) f.core mid
step-all w new k j y stepped.NeedBytes on opened f = same-all w new (ap (λ (z : World). z.circuits) f.3)
step-all w new k j y stepped.OutputFull on opened f = same-all w new (ap (λ (z : World). z.circuits) f.3)
step-all w new k j y (stepped.Closed why.OutOfMemory left) on opened f = subst (λ (z : World). BackAll w z) (sym f.leaves) (go f.lacks.written)
  where
    did : Action
    did = f.lacks.next.action

    go : (o : Option (Handle → Bool)) → BackAll w (server_after j.server (side_of j.server y (unsaid k j y did o w)) (ends_here j left j.server f.core) f.core (unsaid k j y did o w))
    go None = all-after w w j.server (side_of j.server y w) (ends_here j left j.server f.core) f.core (same-all w w refl)
    go (Some gone) = all-after w (acted k j y did w) j.server (side_of j.server y (acted k j y did w)) (ends_here j left j.server f.core) f.core (acted-all w k j y did on opened)
step-all w new k j y (stepped.Closed cause left) on opened f =
    subst (λ (z : World). BackAll w z) (sym f.3) (all-after w w j.server y (ends_here j left j.server y.core) (closed j.at_server y.core) (same-all w w refl))

-- ---- other events

down-all : (w new : World) (k n : ℕ) (j : Joined) (x : ClientSide) (y : ServerSide) → At w.circuits k j → HappensDown w k n j x y new → Back w new
down-all w new k n j x y on (mid, sent, core, taken, gives, is) =
    back-then w mid new (go taken) (back-frame mid new (sent-frame mid new j.client x.names sent (ap (λ (z : World). z.servers) is) (ap (λ (z : World). z.server_logs) is) (ap (λ (z : World). z.circuits) is)))
  where
    go : DownTaken w k n j y mid → BackAll w mid
    go (inl (opened, (by, sends, same_it))) = same-all w mid (ap (λ (z : World). z.circuits) same_it)
    go (inr (shut, same_it)) = subst (λ (z : World). BackAll w z) (sym same_it) (all-set w k j (record j { left_down = drop n j.left_down }) on (keeps-lists j (record j { left_down = drop n j.left_down }) refl (λ s. refl)))

post-all : (w new : World) (i : ℕ) (y : ServerSide) (name : List ℕ) (e : Elements) (mask : ℕ) → HappensPost w i y name e mask new → BackAll w new
post-all w new i y name e mask (gone, core, inl (posts, is)) =
    let told : World = post_told w i y name (record { value = e; meta = unset }) mask in
    subst (λ (z : World). BackAll w z) (sym is) (all-after w told i y (ends_by i core) core (all-map w told (numbers_posted i y.core name mask) refl (keeps-posted i y.core name mask)))
post-all w new i y name e mask (gone, core, inr refused) = same-all w new (ap (λ (z : World). z.circuits) refused.3)

finish-all : (w new : World) (i : ℕ) (y : ServerSide) (name : List ℕ) → HappensFinish w i y name new → BackAll w new
finish-all w new i y name (inl f) =
    let told : World = finish_told w i y name f.cr f.r f.p in
    subst (λ (z : World). BackAll w z) (sym f.leaves)
    (all-after w (replied_at f.p f.sent told) i (record y { records = server.with_record name server.next_busy y.records }) (ends_by i f.core) f.core
    (all-then w told (replied_at f.p f.sent told) (all-map w told (next_numbers i y.core name f.cr.waiting) refl (keeps-next i y.core name f.cr.waiting))
    (λ l d at.
    let c = replied-back f.p f.sent told l d at in
    elim c.2 [
      | inl same_it ↦ (c.0, c.1, subst (λ (z : Joined). KeepsUpdates c.0 z) (sym same_it) (keeps-lists c.0 c.0 refl (λ shut. refl)))
      | inr late ↦ (c.0, c.1, subst (λ (z : Joined). KeepsUpdates c.0 z) (sym late) (keeps-late f.p.place (map (λ (x : Handle × Fields). x.1) f.sent) c.0))
    ])))
finish-all w new i y name (inr refused) = same-all w new (ap (λ (z : World). z.circuits) refused.2)

remove-all : (w new : World) (i : ℕ) (y : ServerSide) (name : List ℕ) → HappensRemove w i y name new → BackAll w new
remove-all w new i y name (gone, left, core, inl (removes, is)) =
    let told : World = moves.removal_told w i y name gone left in
    subst (λ (z : World). BackAll w z) (sym is)
    (all-after w told i (record y { records = filter (λ (r : RecordSide). not (bytes_eq r.name name)) y.records }) (ends_by i core) core (all-map w told (removed_at i y.core name gone left) refl (keeps-removed i y.core name gone left)))
remove-all w new i y name (gone, left, core, inr (removes, is)) = same-all w new (ap (λ (z : World). z.circuits) is)

add-all : (w new : World) (i : ℕ) (y : ServerSide) (r : RecordState) → HappensAdd w i y r new → BackAll w new
add-all w new i y r (core, behind, inl (adds, is)) = same-all w new (ap (λ (z : World). z.circuits) is)
add-all w new i y r (core, behind, inr refused) = same-all w new (ap (λ (z : World). z.circuits) refused.3)

accept-back : (w new : World) (i : ℕ) (x : ClientSide) (v : WantsFirst w x) → HappensAccept w i x v new → Back w new
accept-back w new i x v f = elim f.leaves [
  | inl full ↦ back-same w new (ap (λ (z : World). z.circuits) full.1)
  | inr made ↦
      let c : Joined = connected_as made.1 (new_circuit i x v.v.circuit v.i v.y made.0) in
      let mid : World = record w { servers = slice_set w.servers v.i (record v.y { core = f.server }); circuits = w.circuits ++ c ∷ [] } in
      let g : Frame mid new = sent-frame mid new i x.names made.2 (ap (λ (z : World). z.servers) made.6) (ap (λ (z : World). z.server_logs) made.6) (ap (λ (z : World). z.circuits) made.6) in
      (λ l d on.
      let b = g.back l d on in
      elim (At-snoc w.circuits c l b.0 b.1) [
        | inl old ↦ inl (b.0, old, goes b.0 d b.2)
        | inr last ↦ inr (b.2.down ∙ ap (λ (z : Joined). z.lists.down) last.1 ∙ (fresh made.1 made.0).0, b.2.is_open ∙ ap (λ (z : Joined). z.lists.server_open) last.1 ∙ (fresh made.1 made.0).1)
      ])
]
  where
    goes : (c d : Joined) → Goes c d → KeepsUpdates c d
    goes c d g = record {
      life = g.later.life;
      lists = record { up = g.later.up; down = λ i t told. subst (λ (x : List Told). At x i t) (sym g.down) told; handled = g.later.handled };
      updates = λ i a t told cause. subst (λ (x : List Told). At x i t) g.down told;
      over = λ shut. inr (sym g.is_open ∙ shut, g.queues);
    }

    fresh : (o : Option Closing) (g : Handle) → let z : Joined = connected_as o (new_circuit i x v.v.circuit v.i v.y g) in (z.lists.down ≡ []) × (z.lists.server_open ≡ true)
    fresh None g = (refl, refl)
    fresh (Some k) g = (refl, refl)

-- ---- every event but a pump

abbrev pub IsPump : Event → Type 0
IsPump (event.Pump k) = Unit {0}
IsPump e = ⊥

leaves-back : (w new : World) (e : Event) → (IsPump e → ⊥) → (at : CanBe w e) → LeavesBy w e at new → Back w new
leaves-back w new (event.Accept i) other at l = accept-back w new i at.x at.v l
leaves-back w new (event.Up k n) other at l =
    (let f = up-frame w k n at.0.j at.0.x at.0.joins.at in λ m d on. back-frame w (up_taken k n at.0.j at.0.x w) f m d (subst (λ (z : List Joined). At z m d) (ap (λ (z : World). z.circuits) l.2) on))
leaves-back w new (event.Down k n) other at l = down-all w new k n at.0.j at.0.x at.0.y at.0.joins.at l
leaves-back w new (event.ServerStep k) other at l = all-back w new (step-all w new k at.j at.y l.0 at.joins.at at.is_open l.1)
leaves-back w new (event.Pump k) other at l = absurd (other tt)
leaves-back w new (event.CutServer k) other at l = all-back w new (subst (λ (z : World). BackAll w z) (sym l.leaves) (all-after w w at.j.server at.y (ends_by at.j.server l.core) l.core (same-all w w refl)))
leaves-back w new (event.ServerRestart i) other at l =
    all-back w new (subst (λ (z : World). BackAll w z) (sym l) (all-map w (moves.restarted w i at.y) (ending (server.ends_untold i at.y.core)) refl (keeps-ending (server.ends_untold i at.y.core))))
leaves-back w new (event.Post i name e mask) other at l = all-back w new (post-all w new i at.y name e mask l)
leaves-back w new (event.Finish i name) other at l = all-back w new (finish-all w new i at.y name l)
leaves-back w new (event.Remove i name) other at l = all-back w new (remove-all w new i at.y name l)
leaves-back w new (event.Add i r) other at l = all-back w new (add-all w new i at.y r l)
leaves-back w new (event.ServerDatagram i from bytes) other at l = back-same w new (ap (λ (z : World). z.circuits) l.2)
leaves-back w new (event.Open i name priority) other at l = back-frame w new (open-frame w new i at.x name priority l)
leaves-back w new (event.Clear i c) other at l = back-frame w new (clear-frame w new i at.x c at.h l)
leaves-back w new (event.Read i c data_type count) other at l = back-frame w new (read-frame w new i at.x c at.h data_type count l)
leaves-back w new (event.Write i c e) other at l = back-frame w new (write-frame w new i at.x c at.h e l)
leaves-back w new (event.WriteNotify i c e) other at l = back-frame w new (put-frame w new i at.x c at.h e l)
leaves-back w new (event.Subscribe i c data_type count mask) other at l = back-frame w new (subscribe-frame w new i at.x c at.h data_type count mask l)
leaves-back w new (event.Unsubscribe i n) other at l = back-frame w new (unsubscribe-frame w new i at.x at.s l)
leaves-back w new (event.Collect i r) other at l = back-frame w new (handing-frame w new at.x r at.q.1 (Collected r) l)
leaves-back w new (event.GiveUp i r) other at l = back-frame w new (handing-frame w new at.x r at.q.1 (GaveUp r) l)
leaves-back w new (event.ClientDatagram i from bytes) other at l = back-frame w new (datagram-frame w new i at.x from bytes l)
leaves-back w new (event.ClientStep k) other at l = back-frame w new (hear-frame w new k at.j at.x at.joins.at l)
leaves-back w new (event.CutClient k) other at l = back-frame w new (cut-frame w new k at.j at.x at.joins.at l)
leaves-back w new (event.ClientRestart i) other at l = back-frame w new (begun-frame w new i at.x l)
leaves-back w new (event.Tick moment) other at (mid, ticks, is) =
    λ m d on. back-frame w mid (ticks-frame moment w (clients_below (length w.clients)) mid ticks) m d (subst (λ (z : List Joined). At z m d) (ap (λ (z : World). z.circuits) is) on)

pub event-back : (w new : World) (e : Event) → (IsPump e → ⊥) → Happens w e new → Back w new
event-back w new e other happens = leaves-back w new e other happens.0 happens.1

-- ---- what was sent

pub shown-on : (log lg : List Entry) (c d : Circuit) (t : Told) (a : ℕ) → IsLonger log lg → Extends c d → IsShown log c t a → IsShown lg d t a
shown-on log lg c d t a longer ext x = record {
  s = x.s;
  sent = ext.up t.place x.s x.sent;
  h = x.h;
  handled = ext.handled t.place x.h x.handled;
  within = within-on log lg c d x.h ext longer x.within;
  shows = λ r acted.
      let v = x.shows r (acted-back c d log lg t.place r x.s x.h ext longer x.sent x.handled x.within.sent x.within.logged acted) in
      (v.0, longer-posts x.h.logged r (mask_in x.s.message) v.0 x.within.logged v.1, v.2);
}
  where
    longer-posts : (logged r mask : ℕ) (v : Stored) → logged ≤ length log → At (matching log logged r mask) a v → At (matching lg logged r mask) a v
    longer-posts logged r mask v le at =
        subst (λ (l : List Entry). At (matching l logged r mask) a v) (sym longer.1)
        (subst (λ (l : List Stored). At l a v) (sym (matching-more log longer.0 logged r mask le)) (At-append (matching log logged r mask) (filter_map (post_in r (share_bit mask)) longer.0) a v at))

pub sent-on : (log lg : List Entry) (c d : Joined) → IsLonger log lg → KeepsUpdates c d → SentOn log c → SentOn lg d
sent-on log lg c d longer k p = record {
  shown = λ j a t at cause. shown-on log lg c.lists d.lists t a longer k.lists (p.shown j a t (k.updates j a t at cause) cause);
  rise = λ i j a b t u lt ati atj same_place ca cb. p.rise i j a b t u lt (k.updates i a t ati ca) (k.updates j b u atj cb) same_place ca cb;
  over = λ shut. elim (k.over shut) [ inl none ↦ none | inr was ↦ was.1 ∙ p.over was.0 ];
}

pub sent-new : (log : List Entry) (d : Joined) → d.lists.down ≡ [] → d.lists.server_open ≡ true → SentOn log d
sent-new log d none opened = record {
  shown = λ j a t at cause. absurd (none_at j t (subst (λ (l : List Told). At l j t) none at));
  rise = λ i j a b t u lt at other same_place ca cb. absurd (none_at i t (subst (λ (l : List Told). At l i t) none at));
  over = λ shut. absurd (clash d.lists.server_open opened shut);
}
