-- Over every event each circuit goes on; but for a message that a server's end handles there, none
-- is handled, and no channel is created or noted as open.
use Rattle.std.proofs.Common.{◌≡◌, ℕ, zero, suc, arith, ◌⊎◌, inl, inr, Bool, true, false, cond, ◌&&◌, eqb, not, List, [], ◌∷◌, ◌++◌, length, Option, Some, None, refl, sym, ap, subst, ◌∙◌}
use Rattle.std.specs.Prelude.{drop, filter, map, option_map, slice_get, slice_set, unwrap_or}
use Rattle.std.specs.List.{fold, list_any}
use Rattle.std.specs.Str.{bytes_eq}
use Rattle.ca_arena.specs.declared.handle.Handle.{Handle}
use Rattle.ca_dbr.specs.Elements.{Elements}
use Rattle.ca_ids.specs.Table.{under}
use Rattle.ca_ids.specs.Wire.{wire_of}
use Rattle.ca_queue.specs.declared.entry.SubKey.{SubKey}
use Rattle.ca_records.specs.declared.puts.Put.{Put}
use Rattle.ca_records.specs.Puts.{WaitingPut}
use Rattle.ca_records.specs.Record.{RecordState, unset}
use Rattle.ca_text.specs.declared.command.Command.TheVariants as command
use Rattle.ca_text.specs.Place.{At}
use Rattle.ca_text.proofs.Places.{some_is, At-mapped, At-one, At-parts, At-set, At-append}
use Rattle.ca_wire.specs.Fields.{Fields}
use Rattle.ca_model.specs.Due.{Action}
use Rattle.ca_model.specs.Ends as why
use Rattle.ca_model.specs.History.{Cause, Circuit, Collected, GaveUp, Removal, Reply, Sent, Step, Told}
use Rattle.ca_model.specs.Server.{OpenChannel, Server}
use Rattle.ca_model.specs.ServerCalls.{Replies, finish_reply, with_finish}
use Rattle.ca_queue.specs.Queue.{Queue, with_front_taken}
use Rattle.ca_model.specs.ServerSteps.{Stepped, Update, closed}
use Rattle.ca_model.specs.ServerSteps as stepped
use Rattle.ca_model.specs.Speech.{In, Is}
use Rattle.ca_model.specs.ClientEvents.{DownTaken, HappensDown, up_taken}
use Rattle.ca_model.specs.Events.{Event}
use Rattle.ca_model.specs.Events as event
use Rattle.ca_model.specs.Runs.{CanBe, Happens, Leaves, clients_below}
use Rattle.ca_model.specs.ServerEvents.{HappensFinish, HappensPost, HappensRemove, ServerStepped, StepHandles, about, acted, disconnected_at, ending, ends_by, ends_here, handled_at, numbers_after, server_after, server_closed, side_of, unsaid, write_numbers}
use Rattle.ca_model.specs.ServerEvents as server
use Rattle.ca_model.specs.World.{ClientSide, Joined, PutPlace, RecordSide, ServerSide, World, with_circuit}
use Rattle.ca_laws_parts.proofs.Since.{stamped-parts}
use Rattle.ca_laws_parts.proofs.Handled.{numbers-like, writes-like}
use Rattle.ca_laws_parts.specs.Moves.{finish_told, post_told, removal_told}
use Rattle.ca_laws_parts.specs.WritesSteps.{AllInStep}
use Rattle.ca_laws_parts.proofs.Every.{ticks-frame}
use Rattle.ca_laws_parts.proofs.Frames.{Frame}
use Rattle.ca_laws_parts.proofs.HappensClient.{begun-frame, clear-frame, cut-frame, datagram-frame, handing-frame, hear-frame, left-frame, open-frame, put-frame, read-frame, sent-frame, subscribe-frame, unsubscribe-frame, up-frame, write-frame}
use Rattle.ca_laws_parts.proofs.InStepLasts.{world-numbered}
use Rattle.ca_laws_parts.proofs.Lasting.{told_late}
use Rattle.ca_laws_parts.proofs.WritesLists.{none_at}
use Rattle.ca_laws_parts.proofs.Midway.{set-here}
use Rattle.ca_laws_parts.proofs.WritesMoves.{same-or}
use Rattle.ca_laws_runs.proofs.Handled.{written-parts}
use Rattle.ca_laws_runs.proofs.Stand.{closes}

-- ---- from one world to the next

-- a reply that is sent as its message is handled: by which a channel is created, an EVENT_CANCEL
-- confirmed, or a message refused
abbrev pub IsPrompt : Fields → Type 0
IsPrompt m = Is command.CreateChannel m ⊎ (Is command.EventAdd m ⊎ Is command.Error m)

-- The circuit goes on; nothing is handled there, no channel is created, no EVENT_CANCEL
-- confirmed and nothing refused. While its end at the server is open, it was open, and the
-- same channels are noted.
pub record KeepsOn (c d : Joined) : Type 0 where
  pub up : (p : ℕ) (s : Sent) → At c.lists.up p s → At d.lists.up p s
  pub told : (i : ℕ) (t : Told) → At c.lists.down i t → At d.lists.down i t
  pub creates : (i : ℕ) (t : Told) → At d.lists.down i t → t.cause ≡ Reply → IsPrompt t.message → At c.lists.down i t
  pub handled : d.lists.handled ≡ c.lists.handled
  pub opened : d.lists.server_open ≡ true → (c.lists.server_open ≡ true) × (d.creations ≡ c.creations)

abbrev pub Back : (w new : World) → Type 0
Back w new = (l : ℕ) (d : Joined) → At new.circuits l d → (c : Joined) × At w.circuits l c × KeepsOn c d

pub on-lists : (c d : Joined) → d.lists ≡ c.lists → d.creations ≡ c.creations → KeepsOn c d
on-lists c d lists creations = record {
  up = λ p s at. subst (λ (z : Circuit). At z.up p s) (sym lists) at;
  told = λ i t at. subst (λ (z : Circuit). At z.down i t) (sym lists) at;
  creates = λ i t at reply creates. subst (λ (z : Circuit). At z.down i t) lists at;
  handled = ap (λ (z : Circuit). z.handled) lists;
  opened = λ o. (ap (λ (z : Circuit). z.server_open) (sym lists) ∙ o, creations);
}

pub on-then : (a b c : Joined) → KeepsOn a b → KeepsOn b c → KeepsOn a c
on-then a b c f g = record {
  up = λ p s at. g.up p s (f.up p s at);
  told = λ i t at. g.told i t (f.told i t at);
  creates = λ i t at reply creates. f.creates i t (g.creates i t at reply creates) reply creates;
  handled = g.handled ∙ f.handled;
  opened = λ o. (let x = g.opened o in let y = f.opened x.0 in (y.0, x.1 ∙ y.1));
}

back-same : (w new : World) → new.circuits ≡ w.circuits → Back w new
back-same w new is l d at = (d, subst (λ (x : List Joined). At x l d) is at, on-lists d d refl refl)

pub back-frame : (w new : World) → Frame w new → Back w new
back-frame w new f l d at = (let c = f.back l d at in (
  c.0,
  c.1,
  record {
    up = c.2.later.up;
    told = λ i t told. subst (λ (x : List Told). At x i t) (sym c.2.down) told;
    creates = λ i t told reply creates. subst (λ (x : List Told). At x i t) c.2.down told;
    handled = c.2.handled;
    opened = λ o. (sym c.2.is_open ∙ o, c.2.creations);
  },
))

pub back-then : (w mid new : World) → Back w mid → Back mid new → Back w new
back-then w mid new f g l d at = (let c = g l d at in let b = f l c.0 c.1 in (b.0, b.1, on-then b.0 c.0 d b.2 c.2))

-- each circuit is changed, and its lists are not
back-lists : (w mid : World) (f : Joined → Joined) → mid.circuits ≡ map f w.circuits → ((c : Joined) → ((f c).lists ≡ c.lists) × ((f c).creations ≡ c.creations)) → Back w mid
back-lists w mid f is same l d at =
    let c = At-mapped f w.circuits l d (subst (λ (x : List Joined). At x l d) is at) in
    (c.0, c.1, on-lists c.0 d (ap (λ (z : Joined). z.lists) c.2 ∙ (same c.0).0) (ap (λ (z : Joined). z.creations) c.2 ∙ (same c.0).1))

numbered-same : (c : Joined) (keys : List SubKey) → ((fold server.with_number c keys).creations ≡ c.creations) × ((fold server.with_number c keys).lists ≡ c.lists)
numbered-same c [] = (refl, refl)
numbered-same c (k ∷ keys) = numbered-same (server.with_number c k) keys

posted-same : (i : ℕ) (core : Server) (name : List ℕ) (mask : ℕ) (c : Joined) → ((server.numbers_posted i core name mask c).lists ≡ c.lists) × ((server.numbers_posted i core name mask c).creations ≡ c.creations)
posted-same i core name mask c = go (eqb c.server i && c.lists.server_open)
  where
    keys : List SubKey
    keys = server.keys_concerned name mask (under core.circuits c.at_server)

    go : (b : Bool) → ((cond b (fold server.with_number c keys) c).lists ≡ c.lists) × ((cond b (fold server.with_number c keys) c).creations ≡ c.creations)
    go true = (let r = numbered-same c keys in (r.1, r.0))
    go false = (refl, refl)

-- circuits end
pub on-ending : (ends : Joined → Option (List ℕ)) (c : Joined) → KeepsOn c (ending ends c)
on-ending ends c = go (ends c)
  where
    go : (o : Option (List ℕ)) → KeepsOn c (unwrap_or (option_map (λ (left : List ℕ). server_closed left c) o) c)
    go None = on-lists c c refl refl
    go (Some left) = record {
      up = λ p s at. at;
      told = λ i t at. at;
      creates = λ i t at reply creates. at;
      handled = refl;
      opened = λ o. absurd (let e : false ≡ true = o in cc);
    }

back-after : (w mid : World) (i : ℕ) (side : ServerSide) (ends : Joined → Option (List ℕ)) (core : Server) → Back w mid → Back w (server_after i side ends core mid)
back-after w mid i side ends core back =
    back-then w mid (server_after i side ends core mid) back (λ l d at. (let c = At-mapped (ending ends) mid.circuits l d at in (c.0, c.1, subst (λ (z : Joined). KeepsOn c.0 z) (sym c.2) (on-ending ends c.0))))

back-set : (w : World) (k : ℕ) (j next : Joined) → At w.circuits k j → KeepsOn j next → Back w (with_circuit k next w)
back-set w k j next on back l d at = elim (At-set w.circuits k next l d at) [
  | inl own ↦ (j, subst (λ (m : ℕ). At w.circuits m j) (sym own.0) on, subst (λ (z : Joined). KeepsOn j z) (sym own.1) back)
  | inr old ↦ (d, old.0, on-lists d d refl refl)
]

-- ---- a step of a server's end, on other circuits

abbrev Beside : (w new : World) (k : ℕ) → Type 0
Beside w new k = (l : ℕ) (d : Joined) → (l ≡ k → ⊥) → At new.circuits l d → (c : Joined) × At w.circuits l c × KeepsOn c d

acted-beside : (w : World) (k : ℕ) (j : Joined) (y : ServerSide) (did : Action) → Beside w (acted k j y did w) k
acted-beside w k j y did l d other at =
    let numbers : Joined = numbers_after (length j.lists.handled) did j in
    let c = At-mapped (write_numbers j.server y.core did) (slice_set w.circuits k numbers) l d at in
    let was : At w.circuits l c.0 = elim (At-set w.circuits k numbers l c.0 c.1) [ inl own ↦ absurd (other own.0) | inr old ↦ old.0 ] in (
      c.0,
      was,
      on-lists c.0 d (ap (λ (z : Joined). z.lists) c.2 ∙ (writes-like j.server y.core did c.0).0) (ap (λ (z : Joined). z.creations) c.2 ∙ (written-parts j.server y.core did c.0).0),
    )

after-beside : (w mid : World) (k : ℕ) (i : ℕ) (side : ServerSide) (ends : Joined → Option (List ℕ)) (core : Server) → Beside w mid k → Beside w (server_after i side ends core mid) k
after-beside w mid k i side ends core beside l d other at =
    let c = At-mapped (ending ends) mid.circuits l d at in
    let b = beside l c.0 other c.1 in
    (b.0, b.1, on-then b.0 c.0 d b.2 (subst (λ (z : Joined). KeepsOn c.0 z) (sym c.2) (on-ending ends c.0)))

pub step-beside : (w new : World) (k : ℕ) (j : Joined) (y : ServerSide) → StepHandles w k j y new → Beside w new k
step-beside w new k j y f l d other at = go (slice_get after.circuits k) (subst (λ (z : World). At z.circuits l d) f.leaves at)
  where
    did : Action
    did = (f.steps.0).action

    mid : World
    mid = acted k j y did w

    after : World
    after = server_after j.server (side_of j.server y mid) (ends_by j.server f.core) f.core mid

    step : Step
    step = record { sent = length j.lists.down; logged = server.logged y w; after = server.logged y after }

    go : (o : Option Joined) → At (unwrap_or (option_map (λ (c : Joined). with_circuit k (handled_at (length j.lists.handled) step (f.steps.0).replies c) after) o) after).circuits l d → (c : Joined) × At w.circuits l c × KeepsOn c d
    go None there = after-beside w mid k j.server (side_of j.server y mid) (ends_by j.server f.core) f.core (acted-beside w k j y did) l d other there
    go (Some c) there = elim (At-set after.circuits k (handled_at (length j.lists.handled) step (f.steps.0).replies c) l d there) [
      | inl own ↦ absurd (other own.0)
      | inr old ↦ after-beside w mid k j.server (side_of j.server y mid) (ends_by j.server f.core) f.core (acted-beside w k j y did) l d other old.0
    ]

-- ---- a step that handles none

pub unhandled-back : (w new : World) (k : ℕ) (j : Joined) (y : ServerSide) (did : Stepped) → At w.circuits k j → (did ≡ stepped.Handled → ⊥) → ServerStepped w k j y did new → Back w new
unhandled-back w new k j y stepped.Handled on none f = absurd (none refl)
unhandled-back w new k j y stepped.NeedBytes on none f = back-same w new (ap (λ (z : World). z.circuits) f.3)
unhandled-back w new k j y stepped.OutputFull on none f = back-same w new (ap (λ (z : World). z.circuits) f.3)
unhandled-back w new k j y (stepped.Closed why.OutOfMemory left) on none f = subst (λ (z : World). Back w z) (sym f.leaves) (go f.lacks.written refl)
  where
    did : Action
    did = f.lacks.next.action

    then_mid : Option (Handle → Bool) → World
    then_mid o = server_after j.server (side_of j.server y (unsaid k j y did o w)) (ends_here j left j.server f.core) f.core (unsaid k j y did o w)

    closed_here : (d : Joined) → At new.circuits k d → d.lists.server_open ≡ true → ⊥
    closed_here d at o =
        let c = closes w new k j y why.OutOfMemory left on f in
        c.2 (ap (λ (z : Joined). z.lists.server_open) (sym (At-one new.circuits k d c.0 at c.1)) ∙ o)

    go : (o : Option (Handle → Bool)) → f.lacks.written ≡ o → Back w (then_mid o)
    go None is l d at = back-after w w j.server (side_of j.server y w) (ends_here j left j.server f.core) f.core (back-same w w refl) l d at
    go (Some gone) is l d at = elim (same-or l k) [
      | inr other ↦ after-beside w mid k j.server (side_of j.server y mid) (ends_here j left j.server f.core) f.core (acted-beside w k j y did) l d other at
      | inl own ↦ here own
    ]
      where
        mid : World
        mid = acted k j y did w

        numbers : Joined
        numbers = numbers_after (length j.lists.handled) did j

        here : l ≡ k → (c : Joined) × At w.circuits l c × KeepsOn c d
        here own =
            let c = At-mapped (ending (ends_here j left j.server f.core)) mid.circuits l d at in
            let b = At-mapped (write_numbers j.server y.core did) (slice_set w.circuits k numbers) l c.0 c.1 in
            let set : At (slice_set w.circuits k numbers) k b.0 = subst (λ (m : ℕ). At (slice_set w.circuits k numbers) m b.0) own b.1 in
            let b_is : b.0 ≡ numbers = At-one (slice_set w.circuits k numbers) k b.0 numbers set (set-here w.circuits k j numbers on) in
            let lists : c.0.lists ≡ j.lists =
            ap (λ (z : Joined). z.lists) b.2 ∙ (writes-like j.server y.core did b.0).0 ∙ ap (λ (z : Joined). z.lists) b_is ∙ (numbers-like (length j.lists.handled) did j).0 in
            let still : KeepsOn c.0 d = subst (λ (z : Joined). KeepsOn c.0 z) (sym c.2) (on-ending (ends_here j left j.server f.core) c.0) in
            let there : At new.circuits k d = subst (λ (v : World × ℕ). At v.0.circuits v.1 d) (λ i. (leaves_is i, own i)) at in (
              j,
              subst (λ (m : ℕ). At w.circuits m j) (sym own) on,
              record {
                up = λ p s sent. still.up p s (subst (λ (z : Circuit). At z.up p s) (sym lists) sent);
                told = λ i t told. still.told i t (subst (λ (z : Circuit). At z.down i t) (sym lists) told);
                creates = λ i t told reply creates. subst (λ (z : Circuit). At z.down i t) lists (still.creates i t told reply creates);
                handled = still.handled ∙ ap (λ (z : Circuit). z.handled) lists;
                opened = λ o. absurd (closed_here d there o);
              },
            )
          where
            leaves_is : then_mid (Some gone) ≡ new
            leaves_is = ap then_mid (sym is) ∙ sym f.leaves
unhandled-back w new k j y (stepped.Closed cause left) on none f =
    subst (λ (z : World). Back w z) (sym f.3) (back-after w w j.server y (ends_here j left j.server y.core) (closed j.at_server y.core) (back-same w w refl))

-- ---- other events at a server

down-back : (w new : World) (k n : ℕ) (j : Joined) (x : ClientSide) (y : ServerSide) → At w.circuits k j → HappensDown w k n j x y new → Back w new
down-back w new k n j x y on (mid, sent, core, taken, gives, is) =
    back-then w mid new (go taken) (back-frame mid new (sent-frame mid new j.client x.names sent (ap (λ (z : World). z.servers) is) (ap (λ (z : World). z.server_logs) is) (ap (λ (z : World). z.circuits) is)))
  where
    go : DownTaken w k n j y mid → Back w mid
    go (inl (opened, (by, sends, same))) = back-same w mid (ap (λ (z : World). z.circuits) same)
    go (inr (shut, same)) = subst (λ (z : World). Back w z) (sym same) (back-frame w (with_circuit k (record j { left_down = drop n j.left_down }) w) (left-frame w k n j on))

post-back : (w new : World) (i : ℕ) (y : ServerSide) (name : List ℕ) (e : Elements) (mask : ℕ) → HappensPost w i y name e mask new → Back w new
post-back w new i y name e mask (gone, core, inl (posts, is)) =
    let told : World = post_told w i y name (record { value = e; meta = unset }) mask in
    subst (λ (z : World). Back w z) (sym is) (back-after w told i y (ends_by i core) core (back-lists w told (server.numbers_posted i y.core name mask) refl (posted-same i y.core name mask)))
post-back w new i y name e mask (gone, core, inr refused) = back-same w new (ap (λ (z : World). z.circuits) refused.3)

-- the reply of a put that is finished is none of these
replies-none : (y : Server) (b : Put) (gone : Handle → Bool) (sent : List (Handle × Fields)) (mid : Server) → Replies y b gone sent mid → (r : Fields) → In (map (λ (x : Handle × Fields). x.1) sent) r → IsPrompt r → ⊥
replies-none y b gone sent mid (inl said) r there creates = only there.0 (subst (λ (l : List (Handle × Fields)). At (map (λ (x : Handle × Fields). x.1) l) there.0 r) said.2 there.1)
  where
    only : (i : ℕ) → At (finish_reply b ∷ []) i r → ⊥
    only zero at_r = elim creates [
      | inl made ↦ (let e : ◌≡◌ {A = ℕ} 19 18 = ap (λ (x : Fields). x.command) (some_is (finish_reply b) r at_r) ∙ made in absurd (omega (arith, e)))
      | inr (inl adds) ↦ (let e : ◌≡◌ {A = ℕ} 19 1 = ap (λ (x : Fields). x.command) (some_is (finish_reply b) r at_r) ∙ adds in absurd (omega (arith, e)))
      | inr (inr refuses) ↦ (let e : ◌≡◌ {A = ℕ} 19 11 = ap (λ (x : Fields). x.command) (some_is (finish_reply b) r at_r) ∙ refuses in absurd (omega (arith, e)))
    ]
    only (suc i) at_r = none_at i r at_r
replies-none y b gone sent mid (inr silent) r there creates = none_at there.0 r (subst (λ (l : List (Handle × Fields)). At (map (λ (x : Handle × Fields). x.1) l) there.0 r) silent.1 there.1)

-- replies that are sent late, of which none is one of these
late-keeps : (c : Joined) (place : ℕ) (ms : List Fields) → ((r : Fields) → In ms r → IsPrompt r → ⊥) → KeepsOn c (told_late place ms c)
late-keeps c place ms none = record {
  up = λ p s at. at;
  told = λ m t at. At-append c.lists.down (about place Reply ms) m t at;
  creates = λ m t at reply creates. elim (At-parts c.lists.down (about place Reply ms) m t at) [
    | inl old ↦ old
    | inr new_it ↦
        let r = At-mapped (λ (q : Fields). let z : Told = record { message = q; place = place; cause = Reply } in z) ms new_it.0 t new_it.2 in
        absurd (none r.0 (new_it.0, r.1) (subst (λ (z : Told). IsPrompt z.message) r.2 creates))
  ];
  handled = refl;
  opened = λ o. (o, refl);
}

late-back : (told : World) (p : PutPlace) (sent : List (Handle × Fields)) → ((r : Fields) → In (map (λ (x : Handle × Fields). x.1) sent) r → IsPrompt r → ⊥) → Back told (server.replied_at p sent told)
late-back told p sent none l d on = go (replied-at (slice_get told.circuits p.circuit) refl on)
  where
    ms : List Fields
    ms = map (λ (x : Handle × Fields). x.1) sent

    -- the circuit as it was, or the put's own
    replied-at : (o : Option Joined) → slice_get told.circuits p.circuit ≡ o → At (unwrap_or (option_map (λ (j : Joined). with_circuit p.circuit (told_late p.place ms j) told) o) told).circuits l d
        → (c : Joined) × At told.circuits l c × ((d ≡ c) ⊎ ((l ≡ p.circuit) × (d ≡ told_late p.place ms c)))
    replied-at None is there = (d, there, inl refl)
    replied-at (Some j) is there = elim (At-set told.circuits p.circuit (told_late p.place ms j) l d there) [
      | inl own ↦ (j, subst (λ (m : ℕ). At told.circuits m j) (sym own.0) is, inr own)
      | inr old ↦ (d, old.0, inl refl)
    ]

    go : ((c : Joined) × At told.circuits l c × ((d ≡ c) ⊎ ((l ≡ p.circuit) × (d ≡ told_late p.place ms c)))) → (c : Joined) × At told.circuits l c × KeepsOn c d
    go (c, at_c, inl is) = (c, at_c, on-lists c d (ap (λ (z : Joined). z.lists) is) (ap (λ (z : Joined). z.creations) is))
    go (c, at_c, inr (here, is)) = (c, at_c, subst (λ (z : Joined). KeepsOn c z) (sym is) (late-keeps c p.place ms none))

next-same : (i : ℕ) (core : Server) (name : List ℕ) (ws : List WaitingPut) (c : Joined) → ((server.next_numbers i core name ws c).lists ≡ c.lists) × ((server.next_numbers i core name ws c).creations ≡ c.creations)
next-same i core name [] c = (refl, refl)
next-same i core name (x ∷ ws) c = posted-same i core name 3 c

finish-back : (w new : World) (i : ℕ) (y : ServerSide) (name : List ℕ) → HappensFinish w i y name new → Back w new
finish-back w new i y name (inl f) =
    let told : World = finish_told w i y name f.cr f.r f.p in
    let numbered : Back w told = back-lists w told (server.next_numbers i y.core name f.cr.waiting) refl (next-same i y.core name f.cr.waiting) in
    let late : Back told (server.replied_at f.p f.sent told) =
    late-back told f.p f.sent (replies-none (with_finish name f.finishes.0.r y.core) f.finishes.0.p f.finishes.0.gone f.sent f.finishes.1 f.finishes.2) in
    subst (λ (z : World). Back w z) (sym f.leaves)
    (back-after w (server.replied_at f.p f.sent told) i (record y { records = server.with_record name server.next_busy y.records }) (ends_by i f.core) f.core (back-then w told (server.replied_at f.p f.sent told) numbered late))
finish-back w new i y name (inr refused) = back-same w new (ap (λ (z : World). z.circuits) refused.2)

no-reply : let a : Cause = Removal in let b : Cause = Reply in a ≡ b → ⊥
no-reply e = cc

remove-back : (w new : World) (i : ℕ) (y : ServerSide) (name : List ℕ) → HappensRemove w i y name new → Back w new
remove-back w new i y name (gone, left, core, inl (removes, is)) =
    let told : World = removal_told w i y name gone left in
    subst (λ (z : World). Back w z) (sym is)
    (back-after w told i (record y { records = filter (λ (r : RecordSide). not (bytes_eq r.name name)) y.records }) (ends_by i core) core
    (λ l d at. (let c = At-mapped (server.removed_at i y.core name gone left) w.circuits l d at in (c.0, c.1, subst (λ (z : Joined). KeepsOn c.0 z) (sym c.2) (one c.0)))))
  where
    one : (c : Joined) → KeepsOn c (server.removed_at i y.core name gone left c)
    one c = go (eqb c.server i && c.lists.server_open)
      where
        gone_of : List (Handle × OpenChannel)
        gone_of = disconnected_at name gone left c.at_server (under y.core.circuits c.at_server)

        after : Joined
        after = server.without_standing (λ (k : SubKey). list_any (λ (x : Handle × OpenChannel). eqb (wire_of x.0) k.sid) gone_of) (record c { lists = record c.lists { down = c.lists.down ++ map (server.removal_told c.creations) gone_of } })

        go : (b : Bool) → KeepsOn c (cond b after c)
        go false = on-lists c c refl refl
        go true = record {
          up = λ p s at. at;
          told = λ j t at. At-append c.lists.down (map (server.removal_told c.creations) gone_of) j t at;
          creates = λ j t at reply creates. elim (At-parts c.lists.down (map (server.removal_told c.creations) gone_of) j t at) [
            | inl old ↦ old
            | inr new_it ↦ (let r = At-mapped (server.removal_told c.creations) gone_of new_it.0 t new_it.2 in absurd (no-reply (ap (λ (z : Told). z.cause) (sym r.2) ∙ reply)))
          ];
          handled = refl;
          opened = λ o. (o, refl);
        }
remove-back w new i y name (gone, left, core, inr (removes, is)) = back-same w new (ap (λ (z : World). z.circuits) is)

add-back : (w new : World) (i : ℕ) (y : ServerSide) (r : RecordState) → server.HappensAdd w i y r new → Back w new
add-back w new i y r (core, behind, inl (adds, is)) = back-same w new (ap (λ (z : World). z.circuits) is)
add-back w new i y r (core, behind, inr refused) = back-same w new (ap (λ (z : World). z.circuits) refused.3)

stamped-down : (us : List Update) (c : Joined) (i : ℕ) (t : Told) → At c.lists.down i t → At (server.stamped us c).lists.down i t
stamped-down [] c i t at = at
stamped-down (u ∷ us) c i t at =
    let item : ℕ × Cause = unwrap_or (server.front_number c.queues u.queue) (0, Reply) in
    let queues : List (Queue (ℕ × Cause)) = unwrap_or (option_map (λ (q : Queue (ℕ × Cause)). slice_set c.queues u.queue (with_front_taken q)) (slice_get c.queues u.queue)) c.queues in
    let m : Told = record { message = u.message; place = item.0; cause = item.1 } in
    stamped-down us (record c { queues = queues; lists = record c.lists { down = c.lists.down ++ m ∷ [] } }) i t (At-append c.lists.down (m ∷ []) i t at)

pump-back : (w new : World) (k : ℕ) (j : Joined) (y : ServerSide) → At w.circuits k j → At w.servers j.server y → j.lists.server_open ≡ true → AllInStep w → server.HappensPump w k j y new → Back w new
pump-back w new k j y on at opened step f =
    subst (λ (z : World). Back w z) (sym f.leaves)
    (back-after w (with_circuit k (server.stamped f.updates j) w) j.server y (ends_by j.server f.core) f.core
    (back-set w k j (server.stamped f.updates j) on (record {
      up = λ p s sent. subst (λ (l : List Sent). At l p s) (sym (stamped-parts f.updates j).0) sent;
      told = stamped-down f.updates j;
      creates = λ i t told reply creates. world-numbered w step k j y f.updates f.core on at opened f.pumps i t told reply;
      handled = (stamped-parts f.updates j).1;
      opened = λ o. (opened, (stamped-parts f.updates j).3);
    })))

-- ---- every event

-- Every event but an acceptance, and a step of a server's end.
abbrev pub IsQuietEvent : Event → Type 0
IsQuietEvent (event.Accept i) = ⊥
IsQuietEvent (event.ServerStep k) = ⊥
IsQuietEvent e = Unit {0}

leaves-back : (w new : World) (e : Event) → IsQuietEvent e → AllInStep w → (at : CanBe w e) → Leaves w e at new → Back w new
leaves-back w new (event.Accept i) quiet h at l = absurd quiet
leaves-back w new (event.Up k n) quiet h at l = back-then w (up_taken k n at.0.j at.0.x w) new (back-frame w (up_taken k n at.0.j at.0.x w) (up-frame w k n at.0.j at.0.x at.0.joins.at)) (back-same (up_taken k n at.0.j at.0.x w) new (ap (λ (z : World). z.circuits) l.2))
leaves-back w new (event.Down k n) quiet h at l = down-back w new k n at.0.j at.0.x at.0.y at.0.joins.at l
leaves-back w new (event.ServerStep k) quiet h at l = absurd quiet
leaves-back w new (event.Pump k) quiet h at l = pump-back w new k at.j at.y at.joins.at at.joins.server at.is_open h l
leaves-back w new (event.CutServer k) quiet h at l = subst (λ (z : World). Back w z) (sym l.leaves) (back-after w w at.j.server at.y (ends_by at.j.server l.core) l.core (back-same w w refl))
leaves-back w new (event.ServerRestart i) quiet h at l =
    subst (λ (z : World). Back w z) (sym l) (λ m d on. (let c = At-mapped (ending (server.ends_untold i at.y.core)) w.circuits m d on in (c.0, c.1, subst (λ (z : Joined). KeepsOn c.0 z) (sym c.2) (on-ending (server.ends_untold i at.y.core) c.0))))
leaves-back w new (event.Post i name e mask) quiet h at l = post-back w new i at.y name e mask l
leaves-back w new (event.Finish i name) quiet h at l = finish-back w new i at.y name l
leaves-back w new (event.Remove i name) quiet h at l = remove-back w new i at.y name l
leaves-back w new (event.Add i r) quiet h at l = add-back w new i at.y r l
leaves-back w new (event.ServerDatagram i from bytes) quiet h at l = back-same w new (ap (λ (z : World). z.circuits) l.2)
leaves-back w new (event.Open i name priority) quiet h at l = back-frame w new (open-frame w new i at.x name priority l)
leaves-back w new (event.Clear i c) quiet h at l = back-frame w new (clear-frame w new i at.x c at.h l)
leaves-back w new (event.Read i c data_type count) quiet h at l = back-frame w new (read-frame w new i at.x c at.h data_type count l)
leaves-back w new (event.Write i c e) quiet h at l = back-frame w new (write-frame w new i at.x c at.h e l)
leaves-back w new (event.WriteNotify i c e) quiet h at l = back-frame w new (put-frame w new i at.x c at.h e l)
leaves-back w new (event.Subscribe i c data_type count mask) quiet h at l = back-frame w new (subscribe-frame w new i at.x c at.h data_type count mask l)
leaves-back w new (event.Unsubscribe i n) quiet h at l = back-frame w new (unsubscribe-frame w new i at.x at.s l)
leaves-back w new (event.Collect i r) quiet h at l = back-frame w new (handing-frame w new at.x r at.q.1 (Collected r) l)
leaves-back w new (event.GiveUp i r) quiet h at l = back-frame w new (handing-frame w new at.x r at.q.1 (GaveUp r) l)
leaves-back w new (event.ClientDatagram i from bytes) quiet h at l = back-frame w new (datagram-frame w new i at.x from bytes l)
leaves-back w new (event.ClientStep k) quiet h at l = back-frame w new (hear-frame w new k at.j at.x at.joins.at l)
leaves-back w new (event.CutClient k) quiet h at l = back-frame w new (cut-frame w new k at.j at.x at.joins.at l)
leaves-back w new (event.ClientRestart i) quiet h at l = back-frame w new (begun-frame w new i at.x l)
leaves-back w new (event.Tick moment) not h at (mid, ticks, is) =
    back-then w mid new (back-frame w mid (ticks-frame moment w (clients_below (length w.clients)) mid ticks)) (back-same mid new (ap (λ (z : World). z.circuits) is))

pub event-back : (w new : World) (e : Event) → IsQuietEvent e → AllInStep w → Happens w e new → Back w new
event-back w new e quiet step happens = leaves-back w new e quiet step happens.0 happens.1
