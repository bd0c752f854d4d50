-- Over every event each circuit goes on; what is new on it is named: a message of its server, a
-- subscription that stands, a step.
use Rattle.std.proofs.Common.{◌≡◌, ℕ, ◌≤◌, ◌+◌, ◌⊎◌, inl, inr, Bool, true, false, cond, ◌&&◌, eqb, eqb-true, not, List, [], ◌∷◌, ◌++◌, length, Option, Some, None, refl, sym, ap, subst, ◌∙◌, arith}
use Rattle.std.specs.Prelude.{drop, filter, map, option_map, slice_get, unwrap_or}
use Rattle.std.specs.List.{fold, list_any}
use Rattle.std.specs.Str.{bytes_eq}
use Rattle.ca_arena.specs.declared.handle.Handle.{Handle}
use Rattle.ca_dbr.specs.Elements.{Elements}
use Rattle.ca_ids.specs.Table.{under}
use Rattle.ca_ids.specs.Wire.{wire_of}
use Rattle.ca_queue.specs.declared.entry.SubKey.{SubKey}
use Rattle.ca_queue.specs.Keys.{same}
use Rattle.ca_records.specs.Puts.{WaitingPut}
use Rattle.ca_records.specs.Record.{RecordState, unset}
use Rattle.ca_text.specs.Place.{At}
use Rattle.ca_text.proofs.Places.{At-append, At-mapped, At-parts, At-set, At-snoc}
use Rattle.ca_wire.specs.Fields.{Fields}
use Rattle.ca_model.specs.Due.{Action, Adds, Applies}
use Rattle.ca_model.specs.Due as action
use Rattle.ca_model.specs.Ends as why
use Rattle.ca_model.specs.History.{Circuit, Collected, GaveUp, Reply, Step, Told}
use Rattle.ca_model.specs.Server.{OpenChannel, Server, Subscription}
use Rattle.ca_model.specs.ServerSteps.{Stepped, closed}
use Rattle.ca_model.specs.ServerSteps as stepped
use Rattle.ca_model.specs.Speech.{In}
use Rattle.ca_model.specs.ClientEvents.{DownTaken, HappensDown, up_taken}
use Rattle.ca_model.specs.Events.{Event}
use Rattle.ca_model.specs.Events as event
use Rattle.ca_model.specs.Runs.{CanBe, Happens, Leaves, clients_below}
use Rattle.ca_model.specs.ServerEvents.{HappensAdd, HappensPost, HappensPump, ServerStepped, StepHandles, about, acted, disconnected_at, ending, ends_by, ends_here, handled_at, keys_concerned, next_numbers, noted, numbers_after, numbers_posted, removal_told, removed_at, replied_at, server_after, server_closed, side_of, stamped, unsaid, with_number, without_standing, write_numbers}
use Rattle.ca_model.specs.ServerEvents as server
use Rattle.ca_model.specs.World.{ClientSide, Joined, RecordSide, ServerSide, Standing, World, with_circuit}
use Rattle.ca_laws_parts.specs.Later.{stamped_told}
use Rattle.ca_laws_parts.proofs.Since.{stamped-parts}
use Rattle.ca_laws_parts.specs.Moves.{finish_told, post_told}
use Rattle.ca_laws_parts.specs.Moves as moves
use Rattle.ca_laws_parts.proofs.Every.{ticks-frame}
use Rattle.ca_laws_parts.proofs.Frames.{Frame}
use Rattle.ca_laws_parts.proofs.HappensClient.{begun-frame, clear-frame, cut-frame, datagram-frame, handing-frame, hear-frame, open-frame, put-frame, read-frame, sent-frame, subscribe-frame, unsubscribe-frame, up-frame, write-frame}
use Rattle.ca_laws_parts.proofs.HappensPost.{stamped-same}
use Rattle.ca_laws_parts.proofs.Lasting.{told_late}
use Rattle.ca_laws_parts.proofs.WritesLists.{In-kept, In-snoc}
use Rattle.ca_laws_runs.proofs.Acting.{Extends, extends-then}
use Rattle.ca_laws_runs.proofs.Known.{extends-self, grows-le}
use Rattle.ca_laws_runs.proofs.FollowsStanding.{stamped-is}

-- ---- what may be new on a circuit

-- a message of its server, a subscription that stands for an EVENT_ADD at this place, a step that
-- handled the message at this place
pub data News : Type 0 where
  Says : Told → News
  Stood : ℕ → News
  Takes : ℕ → Step → News

-- the circuit of this number goes on, and what is new is of these
pub record Onward (F : ℕ → News → Type 0) (l : ℕ) (c d : Joined) : Type 0 where
  pub server : d.server ≡ c.server
  pub life : d.lists.server ≡ c.lists.server
  pub lists : Extends c.lists d.lists
  pub told : (i : ℕ) (t : Told) → At d.lists.down i t → At c.lists.down i t ⊎ ((length c.lists.down ≤ i) × F l (Says t))
  pub handled : (m : ℕ) (h : Step) → At d.lists.handled m h → At c.lists.handled m h ⊎ F l (Takes m h)
  pub standing : (st : Standing) → In d.standing st → ((su : Standing) × In c.standing su × (su.place ≡ st.place)) ⊎ F l (Stood st.place)

abbrev pub Back : (F : ℕ → News → Type 0) (w new : World) → Type 0
Back F w new = (l : ℕ) (d : Joined) → At new.circuits l d → (c : Joined) × At w.circuits l c × Onward F l c d

pub on-still : (F : ℕ → News → Type 0) (l : ℕ) (c d : Joined) → d.server ≡ c.server → d.lists ≡ c.lists → ((st : Standing) → In d.standing st → (su : Standing) × In c.standing su × (su.place ≡ st.place)) → Onward F l c d
on-still F l c d server lists standing = record {
  server = server;
  life = ap (λ (z : Circuit). z.server) lists;
  lists = subst (λ (z : Circuit). Extends c.lists z) (sym lists) (extends-self c.lists);
  told = λ i t at. inl (subst (λ (z : Circuit). At z.down i t) lists at);
  handled = λ m h at. inl (subst (λ (z : Circuit). At z.handled m h) lists at);
  standing = λ st at. inl (standing st at);
}

pub on-self : (F : ℕ → News → Type 0) (l : ℕ) (c : Joined) → Onward F l c c
on-self F l c = on-still F l c c refl refl (λ st at. (st, at, refl))

pub on-then : (F : ℕ → News → Type 0) (l : ℕ) (a b c : Joined) → Onward F l a b → Onward F l b c → Onward F l a c
on-then F l a b c f g = record {
  server = g.server ∙ f.server;
  life = g.life ∙ f.life;
  lists = extends-then a.lists b.lists c.lists f.lists g.lists;
  told = λ i t at. elim (g.told i t at) [
    | inl old ↦ f.told i t old
    | inr more ↦ (let p : length a.lists.down ≤ length b.lists.down = grows-le a.lists.down b.lists.down f.lists.down in let q : length b.lists.down ≤ i = more.0 in inr (omega (arith, p, q), more.1))
  ];
  handled = λ m h at. elim (g.handled m h at) [ inl old ↦ f.handled m h old | inr new ↦ inr new ];
  standing = λ st at. elim (g.standing st at) [
    | inl old ↦ elim (f.standing old.0 old.1) [
      | inl was ↦ inl (was.0, was.1, was.2 ∙ old.2)
      | inr new ↦ inr (subst (λ (p : ℕ). F l (Stood p)) old.2 new)
    ]
    | inr new ↦ inr new
  ];
}

-- more was told
on-more : (F : ℕ → News → Type 0) (l : ℕ) (c d : Joined) (more : List Told) → d.server ≡ c.server → d.lists ≡ record c.lists { down = c.lists.down ++ more } → ((t : Told) → In more t → F l (Says t))
    → ((st : Standing) → In d.standing st → (su : Standing) × In c.standing su × (su.place ≡ st.place)) → Onward F l c d
on-more F l c d more server lists new standing = record {
  server = server;
  life = ap (λ (z : Circuit). z.server) lists;
  lists = subst (λ (z : Circuit). Extends c.lists z) (sym lists) (record { up = λ i x at. at; down = λ i x at. At-append c.lists.down more i x at; handled = λ i x at. at });
  told = λ i t at. elim (At-parts c.lists.down more i t (subst (λ (z : Circuit). At z.down i t) lists at)) [
    | inl old ↦ inl old
    | inr last ↦ (let is : i ≡ length c.lists.down + last.0 = last.1 in inr (omega (arith, is), new t (last.0, last.2)))
  ];
  handled = λ m h at. inl (subst (λ (z : Circuit). At z.handled m h) lists at);
  standing = λ st at. inl (standing st at);
}

pub back-same : (F : ℕ → News → Type 0) (w new : World) → new.circuits ≡ w.circuits → Back F w new
back-same F w new is l d at = (d, subst (λ (x : List Joined). At x l d) is at, on-self F l d)

pub back-frame : (F : ℕ → News → Type 0) (w new : World) → Frame w new → Back F w new
back-frame F w new f l d at =
    let c = f.back l d at in (
      c.0,
      c.1,
      record {
        server = c.2.later.server;
        life = c.2.later.life;
        lists = record { up = c.2.later.up; down = λ i t told. subst (λ (x : List Told). At x i t) (sym c.2.down) told; handled = c.2.later.handled };
        told = λ i t told. inl (subst (λ (x : List Told). At x i t) c.2.down told);
        handled = λ m h there. inl (subst (λ (x : List Step). At x m h) c.2.handled there);
        standing = λ st there. inl (st, subst (λ (x : List Standing). In x st) c.2.standing there, refl);
      },
    )

pub back-then : (F : ℕ → News → Type 0) (w mid new : World) → Back F w mid → Back F mid new → Back F w new
back-then F w mid new f g l d at = (let c = g l d at in let b = f l c.0 c.1 in (b.0, b.1, on-then F l b.0 c.0 d b.2 c.2))

back-map : (F : ℕ → News → Type 0) (w mid : World) (f : Joined → Joined) → mid.circuits ≡ map f w.circuits → ((l : ℕ) (c : Joined) → At w.circuits l c → Onward F l c (f c)) → Back F w mid
back-map F w mid f is goes l d at =
    let c = At-mapped f w.circuits l d (subst (λ (x : List Joined). At x l d) is at) in
    (c.0, c.1, subst (λ (z : Joined). Onward F l c.0 z) (sym c.2) (goes l c.0 c.1))

back-set : (F : ℕ → News → Type 0) (w : World) (k : ℕ) (j next : Joined) → At w.circuits k j → Onward F k j next → Back F w (with_circuit k next w)
back-set F w k j next on goes l d at = elim (At-set w.circuits k next l d at) [
  | inl own ↦ (j, subst (λ (m : ℕ). At w.circuits m j) (sym own.0) on, subst (λ (v : ℕ × Joined). Onward F v.0 j v.1) (λ i. (sym own.0 i, sym own.1 i)) goes)
  | inr old ↦ (d, old.0, on-self F l d)
]

-- circuits end
pub on-ending : (F : ℕ → News → Type 0) (ends : Joined → Option (List ℕ)) (l : ℕ) (c : Joined) → Onward F l c (ending ends c)
on-ending F ends l c = go (ends c)
  where
    go : (o : Option (List ℕ)) → Onward F l c (unwrap_or (option_map (λ (left : List ℕ). server_closed left c) o) c)
    go None = on-self F l c
    go (Some left) = record {
      server = refl;
      life = refl;
      lists = record { up = λ i x at. at; down = λ i x at. at; handled = λ i x at. at };
      told = λ i t at. inl at;
      handled = λ m h at. inl at;
      standing = λ st at. absurd (none-in st at);
    }
      where
        none-in : (st : Standing) → (let none : List Standing = [] in In none st) → ⊥
        none-in st (i, at) = cc

back-after : (F : ℕ → News → Type 0) (w mid : World) (i : ℕ) (side : ServerSide) (ends : Joined → Option (List ℕ)) (core : Server) → Back F w mid → Back F w (server_after i side ends core mid)
back-after F w mid i side ends core back =
    back-then F w mid (server_after i side ends core mid) back (back-map F mid (server_after i side ends core mid) (ending ends) refl (λ l c at. on-ending F ends l c))

-- ---- numbers

abbrev bump : SubKey → Standing → Standing
bump key t = cond (same key t.key) (record t { posts = t.posts + 1 }) t

bump-place : (key : SubKey) (t : Standing) → (bump key t).place ≡ t.place
bump-place key t = go (same key t.key)
  where
    go : (b : Bool) → (cond b (record t { posts = t.posts + 1 }) t).place ≡ t.place
    go true = refl
    go false = refl

numbered-lists : (c : Joined) (keys : List SubKey) → (fold with_number c keys).lists ≡ c.lists
numbered-lists c [] = refl
numbered-lists c (k ∷ keys) = numbered-lists (with_number c k) keys

numbered-server : (c : Joined) (keys : List SubKey) → (fold with_number c keys).server ≡ c.server
numbered-server c [] = refl
numbered-server c (k ∷ keys) = numbered-server (with_number c k) keys

numbered-standing : (c : Joined) (keys : List SubKey) (st : Standing) → In (fold with_number c keys).standing st → (su : Standing) × In c.standing su × (su.place ≡ st.place)
numbered-standing c [] st at = (st, at, refl)
numbered-standing c (k ∷ keys) st at =
    let r = numbered-standing (with_number c k) keys st at in
    let m = At-mapped (bump k) c.standing r.1.0 r.0 r.1.1 in
    (m.0, (r.1.0, m.1), sym (bump-place k m.0) ∙ ap (λ (z : Standing). z.place) (sym m.2) ∙ r.2)

on-posted : (F : ℕ → News → Type 0) (i : ℕ) (core : Server) (name : List ℕ) (mask : ℕ) (l : ℕ) (c : Joined) → Onward F l c (numbers_posted i core name mask c)
on-posted F i core name mask l c = go (eqb c.server i && c.lists.server_open)
  where
    keys : List SubKey
    keys = keys_concerned name mask (under core.circuits c.at_server)

    go : (b : Bool) → Onward F l c (cond b (fold with_number c keys) c)
    go true = on-still F l c (fold with_number c keys) (numbered-server c keys) (numbered-lists c keys) (numbered-standing c keys)
    go false = on-self F l c

on-written : (F : ℕ → News → Type 0) (i : ℕ) (core : Server) (did : Action) (l : ℕ) (c : Joined) → Onward F l c (write_numbers i core did c)
on-written F i core (Applies name value busies) l c = on-posted F i core name 3 l c
on-written F i core (action.Waits name value) l c = on-self F l c
on-written F i core (action.Clears sid) l c = on-self F l c
on-written F i core action.Nothing l c = on-self F l c
on-written F i core action.Greets l c = on-self F l c
on-written F i core (action.Names x) l c = on-self F l c
on-written F i core (action.Opens x) l c = on-self F l c
on-written F i core (Adds x) l c = on-self F l c
on-written F i core (action.Drops x) l c = on-self F l c
on-written F i core (action.Switches x) l c = on-self F l c

on-next : (F : ℕ → News → Type 0) (i : ℕ) (core : Server) (name : List ℕ) (ws : List WaitingPut) (l : ℕ) (c : Joined) → Onward F l c (next_numbers i core name ws c)
on-next F i core name [] l c = on-self F l c
on-next F i core name (x ∷ ws) l c = on-posted F i core name 3 l c

-- ---- what a message does

kept-standing : (test : Standing → Bool) (ss : List Standing) (st : Standing) → In (filter test ss) st → (su : Standing) × In ss su × (su.place ≡ st.place)
kept-standing test ss st at = (st, (In-kept test ss st at).0, refl)

on-numbers : (F : ℕ → News → Type 0) (l place : ℕ) (did : Action) (c : Joined) → ((sub : Subscription) → did ≡ Adds sub → F l (Stood place)) → Onward F l c (numbers_after place did c)
on-numbers F l place (Adds sub) c new = record {
  server = refl;
  life = refl;
  lists = extends-self c.lists;
  told = λ i t at. inl at;
  handled = λ m h at. inl at;
  standing = λ st at. elim (In-snoc c.standing _ st at) [
    | inl old ↦ inl (st, old, refl)
    | inr own ↦ inr (subst (λ (p : ℕ). F l (Stood p)) (ap (λ (z : Standing). z.place) (sym own)) (new sub refl))
  ];
}
on-numbers F l place (action.Opens ch) c new = on-still F l c _ refl refl (λ st at. (st, at, refl))
on-numbers F l place (action.Drops key) c new = on-still F l c _ refl refl (kept-standing (λ (s : Standing). not (same key s.key)) c.standing)
on-numbers F l place (action.Clears sid) c new = on-still F l c _ refl refl (kept-standing (λ (s : Standing). not (eqb s.key.sid sid)) c.standing)
on-numbers F l place (action.Switches on) c new = on-still F l c _ refl refl (λ st at. (st, at, refl))
on-numbers F l place action.Nothing c new = on-self F l c
on-numbers F l place action.Greets c new = on-self F l c
on-numbers F l place (action.Names x) c new = on-self F l c
on-numbers F l place (Applies name value busies) c new = on-self F l c
on-numbers F l place (action.Waits name value) c new = on-self F l c

on-handled : (F : ℕ → News → Type 0) (l place : ℕ) (step : Step) (replies : List Fields) (c : Joined) → ((t : Told) → In (about place Reply replies) t → F l (Says t)) → ((m : ℕ) → F l (Takes m step)) → Onward F l c (handled_at place step replies c)
on-handled F l place step replies c told took = record {
  server = refl;
  life = refl;
  lists = record { up = λ i x at. at; down = λ i x at. At-append c.lists.down (about place Reply replies) i x at; handled = λ i x at. At-append c.lists.handled (step ∷ []) i x at };
  told = λ i t at. elim (At-parts c.lists.down (about place Reply replies) i t at) [
    | inl old ↦ inl old
    | inr last ↦ (let is : i ≡ length c.lists.down + last.0 = last.1 in inr (omega (arith, is), told t (last.0, last.2)))
  ];
  handled = λ m h at. elim (At-snoc c.lists.handled step m h at) [
    | inl old ↦ inl old
    | inr own ↦ inr (subst (λ (x : Step). F l (Takes m x)) (sym own.1) (took m))
  ];
  standing = λ st at. inl (st, at, refl);
}

acted-back : (F : ℕ → News → Type 0) (w : World) (k : ℕ) (j : Joined) (y : ServerSide) (did : Action) → At w.circuits k j → ((sub : Subscription) → did ≡ Adds sub → F k (Stood (length j.lists.handled))) → Back F w (acted k j y did w)
acted-back F w k j y did on new =
    let numbers : Joined = numbers_after (length j.lists.handled) did j in
    let mid : World = with_circuit k numbers w in
    back-then F w mid (acted k j y did w) (back-set F w k j numbers on (on-numbers F k (length j.lists.handled) did j new))
    (back-map F mid (acted k j y did w) (write_numbers j.server y.core did) refl (λ l c at. on-written F j.server y.core did l c))

noted-back : (F : ℕ → News → Type 0) (w after : World) (k : ℕ) (j : Joined) (y : ServerSide) (replies : List Fields) → ((t : Told) → In (about (length j.lists.handled) Reply replies) t → F k (Says t))
    → ((m : ℕ) → F k (Takes m (record { sent = length j.lists.down; logged = server.logged y w; after = server.logged y after }))) → Back F after (noted k j y replies w after)
noted-back F w after k j y replies told took = go (slice_get after.circuits k) refl
  where
    step : Step
    step = record { sent = length j.lists.down; logged = server.logged y w; after = server.logged y after }

    go : (o : Option Joined) → slice_get after.circuits k ≡ o → Back F after (unwrap_or (option_map (λ (c : Joined). with_circuit k (handled_at (length j.lists.handled) step replies c) after) o) after)
    go None is = back-same F after after refl
    go (Some c) is = back-set F after k c (handled_at (length j.lists.handled) step replies c) is (on-handled F k (length j.lists.handled) step replies c told took)

-- what a message that was handled makes new
abbrev pub StepNews : (k place : ℕ) (did : Action) (sent logged : ℕ) (replies : List Fields) → ℕ → News → Type 0
StepNews k place did sent logged replies l (Says t) = (l ≡ k) × In (about place Reply replies) t
StepNews k place did sent logged replies l (Stood p) = (l ≡ k) × (p ≡ place) × ((sub : Subscription) × (did ≡ Adds sub))
StepNews k place did sent logged replies l (Takes m h) = (l ≡ k) × (h.sent ≡ sent) × (h.logged ≡ logged)

pub step-back : (w new : World) (k : ℕ) (j : Joined) (y : ServerSide) → At w.circuits k j → (f : StepHandles w k j y new) → Back (StepNews k (length j.lists.handled) (f.steps.0).action (length j.lists.down) (server.logged y w) (f.steps.0).replies) w new
step-back w new k j y on f =
    subst (λ (z : World). Back F w z) (sym f.leaves)
    (back-then F w after (noted k j y replies w after) (back-after F w mid j.server (side_of j.server y mid) (ends_by j.server f.core) f.core (acted-back F w k j y did on (λ sub is. (refl, refl, (sub, is)))))
    (noted-back F w after k j y replies (λ t at. (refl, at)) (λ m. (refl, refl, refl))))
  where
    did : Action
    did = (f.steps.0).action

    replies : List Fields
    replies = (f.steps.0).replies

    F : ℕ → News → Type 0
    F = StepNews k (length j.lists.handled) did (length j.lists.down) (server.logged y w) replies

    mid : World
    mid = acted k j y did w

    after : World
    after = server_after j.server (side_of j.server y mid) (ends_by j.server f.core) f.core mid

-- ---- a step that handles none

no-add : (did : Action) (sub : Subscription) → stepped.is_write did ≡ true → did ≡ Adds sub → ⊥
no-add did sub writes is = (let e : false ≡ true = ap (λ (a : Action). stepped.is_write a) (sym is) ∙ writes in cc)

pub unhandled-back : (F : ℕ → News → Type 0) (w new : World) (k : ℕ) (j : Joined) (y : ServerSide) (did : Stepped) → At w.circuits k j → (did ≡ stepped.Handled → ⊥) → ServerStepped w k j y did new → Back F w new
unhandled-back F w new k j y stepped.Handled on none f = absurd (none refl)
unhandled-back F w new k j y stepped.NeedBytes on none f = back-same F w new (ap (λ (z : World). z.circuits) f.3)
unhandled-back F w new k j y stepped.OutputFull on none f = back-same F w new (ap (λ (z : World). z.circuits) f.3)
unhandled-back F w new k j y (stepped.Closed why.OutOfMemory left) on none f = subst (λ (z : World). Back F w z) (sym f.leaves) (go f.lacks.written refl)
  where
    did : Action
    did = f.lacks.next.action

    go : (o : Option (Handle → Bool)) → f.lacks.written ≡ o → Back F w (server_after j.server (side_of j.server y (unsaid k j y did o w)) (ends_here j left j.server f.core) f.core (unsaid k j y did o w))
    go None is = back-after F w w j.server (side_of j.server y w) (ends_here j left j.server f.core) f.core (back-same F w w refl)
    go (Some gone) is =
        let mid : World = acted k j y did w in
        let left_is : stepped.LeftOf f.lacks.next (Some gone) f.lacks.mid = subst (λ (o : Option (Handle → Bool)). stepped.LeftOf f.lacks.next o f.lacks.mid) is f.lacks.left_is in
        back-after F w mid j.server (side_of j.server y mid) (ends_here j left j.server f.core) f.core (acted-back F w k j y did on (λ sub adds. absurd (no-add did sub left_is.0 adds)))
unhandled-back F w new k j y (stepped.Closed cause left) on none f =
    subst (λ (z : World). Back F w z) (sym f.3) (back-after F w w j.server y (ends_here j left j.server y.core) (closed j.at_server y.core) (back-same F w w refl))

-- ---- other events at a server

down-back : (F : ℕ → News → Type 0) (w new : World) (k n : ℕ) (j : Joined) (x : ClientSide) (y : ServerSide) → At w.circuits k j → HappensDown w k n j x y new → Back F w new
down-back F w new k n j x y on (mid, sent, core, taken, gives, is) =
    back-then F w mid new (go taken) (back-frame F mid new (sent-frame mid new j.client x.names sent (ap (λ (z : World). z.servers) is) (ap (λ (z : World). z.server_logs) is) (ap (λ (z : World). z.circuits) is)))
  where
    go : DownTaken w k n j y mid → Back F w mid
    go (inl (opened, (by, sends, same_it))) = back-same F w mid (ap (λ (z : World). z.circuits) same_it)
    go (inr (shut, same_it)) =
        let d : Joined = record j { left_down = drop n j.left_down } in
        subst (λ (z : World). Back F w z) (sym same_it) (back-set F w k j d on (on-still F k j d refl refl (λ st at. (st, at, refl))))

post-back : (F : ℕ → News → Type 0) (w new : World) (i : ℕ) (y : ServerSide) (name : List ℕ) (e : Elements) (mask : ℕ) → HappensPost w i y name e mask new → Back F w new
post-back F w new i y name e mask (gone, core, inl (posts, is)) =
    let told : World = post_told w i y name (record { value = e; meta = unset }) mask in
    subst (λ (z : World). Back F w z) (sym is) (back-after F w told i y (ends_by i core) core (back-map F w told (numbers_posted i y.core name mask) refl (λ l c at. on-posted F i y.core name mask l c)))
post-back F w new i y name e mask (gone, core, inr refused) = back-same F w new (ap (λ (z : World). z.circuits) refused.3)

-- a late reply of the put that is finished
abbrev pub FinishNews : (circuit place : ℕ) (ms : List Fields) → ℕ → News → Type 0
FinishNews circuit place ms l (Says t) = (l ≡ circuit) × In (about place Reply ms) t
FinishNews circuit place ms l (Stood p) = ⊥
FinishNews circuit place ms l (Takes m h) = ⊥

pub finish-back : (w new : World) (i : ℕ) (y : ServerSide) (name : List ℕ) (f : server.Finished w i y name new) → Back (FinishNews f.p.circuit f.p.place (map (λ (x : Handle × Fields). x.1) f.sent)) w new
finish-back w new i y name f =
    subst (λ (z : World). Back F w z) (sym f.leaves)
    (back-after F w (replied_at f.p f.sent told) i (record y { records = server.with_record name server.next_busy y.records }) (ends_by i f.core) f.core
    (back-then F w told (replied_at f.p f.sent told) (back-map F w told (next_numbers i y.core name f.cr.waiting) refl (λ l c at. on-next F i y.core name f.cr.waiting l c))
    (λ l d at. go l d (replied l d (slice_get told.circuits f.p.circuit) refl at))))
  where
    told : World
    told = finish_told w i y name f.cr f.r f.p

    ms : List Fields
    ms = map (λ (x : Handle × Fields). x.1) f.sent

    F : ℕ → News → Type 0
    F = FinishNews f.p.circuit f.p.place ms

    replied : (l : ℕ) (d : Joined) (o : Option Joined) → slice_get told.circuits f.p.circuit ≡ o → At (unwrap_or (option_map (λ (j : Joined). with_circuit f.p.circuit (told_late f.p.place ms j) told) o) told).circuits l d
        → (c : Joined) × At told.circuits l c × ((d ≡ c) ⊎ ((l ≡ f.p.circuit) × (d ≡ told_late f.p.place ms c)))
    replied l d None is there = (d, there, inl refl)
    replied l d (Some j) is there = elim (At-set told.circuits f.p.circuit (told_late f.p.place ms j) l d there) [
      | inl own ↦ (j, subst (λ (m : ℕ). At told.circuits m j) (sym own.0) is, inr own)
      | inr old ↦ (d, old.0, inl refl)
    ]

    go : (l : ℕ) (d : Joined) → ((c : Joined) × At told.circuits l c × ((d ≡ c) ⊎ ((l ≡ f.p.circuit) × (d ≡ told_late f.p.place ms c)))) → (c : Joined) × At told.circuits l c × Onward F l c d
    go l d (c, at, inl is) = (c, at, subst (λ (z : Joined). Onward F l c z) (sym is) (on-self F l c))
    go l d (c, at, inr (here, is)) = (c, at, subst (λ (z : Joined). Onward F l c z) (sym is) (on-more F l c (told_late f.p.place ms c) (about f.p.place Reply ms) refl refl (λ t there. (here, there)) (λ st there. (st, there, refl))))

-- the SERVER_DISCONNs of a record that is removed
abbrev pub RemoveNews : (w : World) (i : ℕ) (core : Server) (name : List ℕ) (gone : Handle → Bool) (left : Handle → ℕ) → ℕ → News → Type 0
RemoveNews w i core name gone left l (Says t) =
    (c : Joined) × At w.circuits l c × (c.server ≡ i) × (c.lists.server_open ≡ true) × In (map (removal_told c.creations) (disconnected_at name gone left c.at_server (under core.circuits c.at_server))) t
RemoveNews w i core name gone left l (Stood p) = ⊥
RemoveNews w i core name gone left l (Takes m h) = ⊥

and-both : (a b : Bool) → a && b ≡ true → (a ≡ true) × (b ≡ true)
and-both true b e = (refl, e)
and-both false b e = absurd cc

pub removed-back : (w : World) (i : ℕ) (y : ServerSide) (name : List ℕ) (gone : Handle → Bool) (left : Handle → ℕ) (core : Server) → let told : World = moves.removal_told w i y name gone left in
    Back (RemoveNews w i y.core name gone left) w (server_after i (record y { records = filter (λ (r : RecordSide). not (bytes_eq r.name name)) y.records }) (ends_by i core) core told)
removed-back w i y name gone left core =
    back-after F w told i (record y { records = filter (λ (r : RecordSide). not (bytes_eq r.name name)) y.records }) (ends_by i core) core (back-map F w told (removed_at i y.core name gone left) refl one)
  where
    told : World
    told = moves.removal_told w i y name gone left

    F : ℕ → News → Type 0
    F = RemoveNews w i y.core name gone left

    one : (l : ℕ) (c : Joined) → At w.circuits l c → Onward F l c (removed_at i y.core name gone left c)
    one l c on = go (eqb c.server i && c.lists.server_open) refl
      where
        gone_of : List (Handle × OpenChannel)
        gone_of = disconnected_at name gone left c.at_server (under y.core.circuits c.at_server)

        over : SubKey → Bool
        over = λ (k : SubKey). list_any (λ (x : Handle × OpenChannel). eqb (wire_of x.0) k.sid) gone_of

        after : Joined
        after = without_standing over (record c { lists = record c.lists { down = c.lists.down ++ map (removal_told c.creations) gone_of } })

        go : (b : Bool) → eqb c.server i && c.lists.server_open ≡ b → Onward F l c (cond b after c)
        go false other = on-self F l c
        go true both =
            let b = and-both (eqb c.server i) c.lists.server_open both in
            on-more F l c after (map (removal_told c.creations) gone_of) refl refl (λ t there. (c, on, eqb-true c.server i b.0, b.1, there)) (kept-standing (λ (s : Standing). not (over s.key)) c.standing)

-- the updates that leave the queues of a circuit
abbrev pub PumpNews : (k : ℕ) (told : List Told) → ℕ → News → Type 0
PumpNews k told l (Says t) = (l ≡ k) × In told t
PumpNews k told l (Stood p) = ⊥
PumpNews k told l (Takes m h) = ⊥

pub pump-back : (w new : World) (k : ℕ) (j : Joined) (y : ServerSide) → At w.circuits k j → (f : HappensPump w k j y new) → Back (PumpNews k (stamped_told f.updates j)) w new
pump-back w new k j y on f =
    subst (λ (z : World). Back F w z) (sym f.leaves)
    (back-after F w (with_circuit k d w) j.server y (ends_by j.server f.core) f.core
    (back-set F w k j d on (on-more F k j d (stamped_told f.updates j) (stamped-same f.updates j).server (stamped-is f.updates j) (λ t there. (refl, there)) (λ st at. (st, subst (λ (l : List Standing). In l st) (stamped-parts f.updates j).2 at, refl)))))
  where
    d : Joined
    d = stamped f.updates j

    F : ℕ → News → Type 0
    F = PumpNews k (stamped_told f.updates j)

add-back : (F : ℕ → News → Type 0) (w new : World) (i : ℕ) (y : ServerSide) (r : RecordState) → HappensAdd w i y r new → Back F w new
add-back F w new i y r (core, behind, inl (adds, is)) = back-same F w new (ap (λ (z : World). z.circuits) is)
add-back F w new i y r (core, behind, inr refused) = back-same F w new (ap (λ (z : World). z.circuits) refused.3)

-- ---- an event after which nothing is new

abbrev pub IsStill : Event → Type 0
IsStill (event.Accept i) = ⊥
IsStill (event.ServerStep k) = ⊥
IsStill (event.Pump k) = ⊥
IsStill (event.Finish i name) = ⊥
IsStill (event.Remove i name) = ⊥
IsStill e = Unit {0}

leaves-back : (F : ℕ → News → Type 0) (w new : World) (e : Event) → IsStill e → (at : CanBe w e) → Leaves w e at new → Back F w new
leaves-back F w new (event.Accept i) still at l = absurd still
leaves-back F w new (event.ServerStep k) still at l = absurd still
leaves-back F w new (event.Pump k) still at l = absurd still
leaves-back F w new (event.Finish i name) still at l = absurd still
leaves-back F w new (event.Remove i name) still at l = absurd still
leaves-back F w new (event.Up k n) still at l =
    (let f = up-frame w k n at.0.j at.0.x at.0.joins.at in λ m d on. back-frame F w (up_taken k n at.0.j at.0.x w) f m d (subst (λ (z : List Joined). At z m d) (ap (λ (z : World). z.circuits) l.2) on))
leaves-back F w new (event.Down k n) still at l = down-back F w new k n at.0.j at.0.x at.0.y at.0.joins.at l
leaves-back F w new (event.CutServer k) still at l =
    subst (λ (z : World). Back F w z) (sym l.leaves) (back-after F w w at.j.server at.y (ends_by at.j.server l.core) l.core (back-same F w w refl))
leaves-back F w new (event.ServerRestart i) still at l =
    subst (λ (z : World). Back F w z) (sym l) (back-map F w (moves.restarted w i at.y) (ending (server.ends_untold i at.y.core)) refl (λ n c there. on-ending F (server.ends_untold i at.y.core) n c))
leaves-back F w new (event.Post i name e mask) still at l = post-back F w new i at.y name e mask l
leaves-back F w new (event.Add i r) still at l = add-back F w new i at.y r l
leaves-back F w new (event.ServerDatagram i from bytes) still at l = back-same F w new (ap (λ (z : World). z.circuits) l.2)
leaves-back F w new (event.Open i name priority) still at l = back-frame F w new (open-frame w new i at.x name priority l)
leaves-back F w new (event.Clear i c) still at l = back-frame F w new (clear-frame w new i at.x c at.h l)
leaves-back F w new (event.Read i c data_type count) still at l = back-frame F w new (read-frame w new i at.x c at.h data_type count l)
leaves-back F w new (event.Write i c e) still at l = back-frame F w new (write-frame w new i at.x c at.h e l)
leaves-back F w new (event.WriteNotify i c e) still at l = back-frame F w new (put-frame w new i at.x c at.h e l)
leaves-back F w new (event.Subscribe i c data_type count mask) still at l = back-frame F w new (subscribe-frame w new i at.x c at.h data_type count mask l)
leaves-back F w new (event.Unsubscribe i n) still at l = back-frame F w new (unsubscribe-frame w new i at.x at.s l)
leaves-back F w new (event.Collect i r) still at l = back-frame F w new (handing-frame w new at.x r at.q.1 (Collected r) l)
leaves-back F w new (event.GiveUp i r) still at l = back-frame F w new (handing-frame w new at.x r at.q.1 (GaveUp r) l)
leaves-back F w new (event.ClientDatagram i from bytes) still at l = back-frame F w new (datagram-frame w new i at.x from bytes l)
leaves-back F w new (event.ClientStep k) still at l = back-frame F w new (hear-frame w new k at.j at.x at.joins.at l)
leaves-back F w new (event.CutClient k) still at l = back-frame F w new (cut-frame w new k at.j at.x at.joins.at l)
leaves-back F w new (event.ClientRestart i) still at l = back-frame F w new (begun-frame w new i at.x l)
leaves-back F w new (event.Tick moment) still at (mid, ticks, is) =
    λ m d on. back-frame F w mid (ticks-frame moment w (clients_below (length w.clients)) mid ticks) m d (subst (λ (z : List Joined). At z m d) (ap (λ (z : World). z.circuits) is) on)

pub still-back : (F : ℕ → News → Type 0) (w new : World) (e : Event) → IsStill e → Happens w e new → Back F w new
still-back F w new e still happens = leaves-back F w new e still happens.0 happens.1
