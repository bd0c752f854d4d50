-- The puts of servers are beside their channels, over every event and run.
use Rattle.std.proofs.Common.{◌≡◌, ℕ, ◌≤◌, ◌<◌, ◌⊎◌, inl, inr, Bool, true, cond, not, ◌&&◌, eqb, eq-eqb, eqb-true, List, [], ◌∷◌, ◌++◌, length, Option, Some, None, refl, sym, ap, subst, ◌∙◌, arith}
use Rattle.std.proofs.lemmas.Bool.{both_ways}
use Rattle.std.specs.Prelude.{filter, is_some, map, option_map, slice_get, slice_set, unwrap_or}
use Rattle.std.specs.List.{FoldsTo, fold}
use Rattle.ca_arena.specs.declared.handle.Handle.{Handle}
use Rattle.ca_ids.specs.Table.{same_handle, under}
use Rattle.ca_ids.specs.Wire.{wire_of}
use Rattle.ca_model.proofs.Handles.{same-itself}
use Rattle.ca_model.proofs.Thinner.{given-under}
use Rattle.ca_model.specs.Placed.{WasGiven}
use Rattle.ca_queue.specs.declared.entry.SubKey.{SubKey}
use Rattle.ca_queue.specs.Queue.{Queue, with_front_taken}
use Rattle.ca_records.specs.declared.puts.Put.{Put}
use Rattle.ca_text.specs.declared.command.Command.TheVariants as command
use Rattle.ca_ids.specs.Table.{Table}
use Rattle.ca_text.specs.Limits.{arena_slots}
use Rattle.ca_text.specs.Place.{At}
use Rattle.ca_text.proofs.Places.{At-map, At-one, At-within}
use Rattle.ca_wire.specs.Fields.{Fields}
use Rattle.ca_model.specs.Due.{Action, Clears}
use Rattle.ca_model.specs.Due as action
use Rattle.ca_model.specs.Ends as why
use Rattle.ca_model.specs.History.{Cause, Reply, Sent}
use Rattle.ca_model.specs.Server.{OpenChannel, Server, ServerEnd, concerns, key_of}
use Rattle.ca_model.specs.ServerCalls.{channels_of}
use Rattle.ca_model.specs.ServerSteps.{HasEnd, Leaves, Stepped, Update}
use Rattle.ca_model.specs.ServerSteps as stepped
use Rattle.ca_model.specs.Speech.{In, Is, sid_in}
use Rattle.ca_model.specs.Events.{Event}
use Rattle.ca_model.specs.Events as event
use Rattle.ca_model.specs.Runs.{Happens, HasServerEnd}
use Rattle.ca_model.specs.ServerEvents.{ServerStepped, acted, ending, ends_by, ends_here, front_number, numbers_after, records_after, server_after, side_of, stamped, unsaid, with_number, without_puts, write_numbers}
use Rattle.ca_model.specs.ServerEvents as server
use Rattle.ca_model.specs.World.{Creation, IsSetting, Joined, PutPlace, RecordSide, ServerSide, Setting, World}
use Rattle.ca_laws_parts.specs.Agrees.{Agrees, WaitsAs}
use Rattle.ca_laws_parts.specs.Lives.{IsPutOf}
use Rattle.ca_laws_parts.specs.Moves.{Lives}
use Rattle.ca_laws_parts.specs.Seats.{Sound, TakesSent}
use Rattle.ca_laws_parts.proofs.Doing.{clears-only}
use Rattle.ca_laws_parts.proofs.WritesEvents.{SameEnds, find-at, same-self, same-trans}
use Rattle.ca_laws_parts.proofs.Every.{event-sound}
use Rattle.ca_laws_parts.proofs.Lasting.{AllEnds, Begins, Lasting, numbered_for, told_gone, told_late}
use Rattle.ca_laws_parts.proofs.LastingAll.{OnStep, event-by}
use Rattle.ca_laws_parts.proofs.LastingEvents.{one-end}
use Rattle.ca_laws_parts.proofs.LastingStep.{HandledHere}
use Rattle.ca_laws_parts.proofs.WritesLists.{both-at}
use Rattle.ca_laws_parts.proofs.Midway.{set-here}
use Rattle.ca_laws_parts.proofs.Seats.{open-still}
use Rattle.ca_laws_parts.proofs.Waited.{numbers-after-same, write-numbers-same}
use Rattle.ca_laws_parts.specs.Channels.{AllChannels, has_sid}
use Rattle.ca_laws_parts.specs.Messages.{AllMessages}
use Rattle.ca_laws_parts.proofs.Thins.{put-facts}
use Rattle.ca_laws_runs.specs.Pairs.{BusyPair, CoreWaits, SideWaits}
use Rattle.ca_laws_runs.specs.Puts.{AllPuts, CameOnChannel, IsOnChannel, PutsOn}
use Rattle.ca_laws_runs.proofs.Comes.{Comes, StepPut, core-beside}
use Rattle.ca_laws_runs.proofs.Follow.{PutsFollow, puts-follow}
use Rattle.ca_laws_runs.proofs.Handled.{mid, own, sides-are}
use Rattle.ca_laws_runs.proofs.Given.{NoneCleared, Stays, puts-stay, stays-handled, stays-removed, stays-same}
use Rattle.ca_laws_runs.proofs.Pairs.{Follows, core-at, places-at, sides-without}

-- ---- what stays of a circuit

-- numbers and updates change no creation, and no message that came
abbrev pub SameSeat : (c d : Joined) → Type 0
SameSeat c d = (d.server ≡ c.server) × (d.at_server ≡ c.at_server) × (d.lists.up ≡ c.lists.up) × (d.creations ≡ c.creations)

numbered-seat : (c : Joined) (keys : List SubKey) → SameSeat c (fold with_number c keys)
numbered-seat c [] = (refl, refl, refl, refl)
numbered-seat c (k ∷ keys) = numbered-seat (with_number c k) keys

stamped-seat : (us : List Update) (c : Joined) → SameSeat c (stamped us c)
stamped-seat [] c = (refl, refl, refl, refl)
stamped-seat (u ∷ us) c =
    let item : ℕ × Cause = unwrap_or (front_number c.queues u.queue) (0, Reply) in
    let queues : List (Queue (ℕ × Cause)) = unwrap_or (option_map (λ (q : Queue (ℕ × Cause)). slice_set c.queues u.queue (with_front_taken q)) (slice_get c.queues u.queue)) c.queues in
    stamped-seat us (record c { queues = queues; lists = record c.lists { down = c.lists.down ++ record { message = u.message; place = item.0; cause = item.1 } ∷ [] } })

leaves-channels : (us : List Update) (e after : ServerEnd) → FoldsTo Leaves e us after → after.channels ≡ e.channels
leaves-channels [] e after same = ap (λ (x : ServerEnd). x.channels) (sym same)
leaves-channels (u ∷ us) e after (mid, one, rest) = leaves-channels us mid after rest ∙ ap (λ (x : ServerEnd). x.channels) one.leaves

-- ---- since a world, of the puts of a later one

module _ (w v : World) where
  -- A circuit that was there and is open in the later world has what is to be of that world's puts.
  abbrev pub Stand : ℕ → ServerEnd → Joined → Type 0
  Stand n e c = (length w.circuits ≤ n) ⊎ ((z : ServerSide) → At v.servers c.server z → ((d : Joined) → At v.circuits n d → d.lists.server_open ≡ true) → PutsOn z n e c)

  stand-then : (n : ℕ) (e f : ServerEnd) (c d : Joined) → d.server ≡ c.server → ((z : ServerSide) → Stays z n e f c d) → Stand n e c → Stand n f d
  stand-then n e f c d same stays (inl late) = inl late
  stand-then n e f c d same stays (inr h) = inr (λ z at opened. puts-stay z n e f c d (stays z) (h z (subst (λ (m : ℕ). At v.servers m z) same at) opened))

  stand-alike : (n : ℕ) (e f : ServerEnd) (c d : Joined) → f.channels ≡ e.channels → SameSeat c d → Stand n e c → Stand n f d
  stand-alike n e f c d table seat p =
      stand-then n e f c d seat.0 (λ z. stays-same z n e f c d table seat.1 (λ q s at. subst (λ (l : List Sent). At l q s) (sym seat.2) at) seat.3) p

  pub stand-lasting : Lasting Stand
  stand-lasting = record {
    stays = λ n e f c d held goes p. stand-then n e f c d goes.later.server (λ z. stays-same z n e f c d held.channels goes.later.handle goes.later.up goes.creations) p;
    posted = λ n name mask x e c p. stand-alike n e _ c (numbered_for name mask e c) refl (numbered-seat c (map key_of (filter (concerns name mask) e.subscriptions))) p;
    removed = λ n name e c p. stand-then n e _ c (told_gone (channels_of name e) c) refl (λ z. stays-removed z n name e c (told_gone (channels_of name e) c) refl refl refl) p;
    pumped = λ n us e after c folds p. stand-alike n e after c (stamped us c) (leaves-channels us e after folds) (stamped-seat us c) p;
    replied = λ n e c place ms p. stand-alike n e e c (told_late place ms c) refl (refl, refl, refl, refl) p;
  }

  stand-begins : Begins Stand w
  stand-begins n moment c more new = inl more

-- ---- a step that closes its circuit

-- the circuit j is among those that end
ends-own : (j m : Joined) (left : List ℕ) (core : Server) → m.at_server ≡ j.at_server → m.server ≡ j.server → m.lists.server_open ≡ true → is_some (ends_here j left j.server core m) ≡ true
ends-own j m left core handle same opened =
    ap (λ (b : Bool). is_some (cond (b && (eqb m.server j.server && m.lists.server_open)) (Some left) (ends_by j.server core m))) (ap (λ (h : Handle). same_handle h j.at_server) handle ∙ same-itself j.at_server)
    ∙ ap (λ (b : Bool). is_some (cond (b && m.lists.server_open) (Some left) (ends_by j.server core m))) (eq-eqb m.server j.server same)
    ∙ ap (λ (b : Bool). is_some (cond b (Some left) (ends_by j.server core m))) opened

-- a circuit as it ended
abbrev pub Shut : World → ℕ → Type 0
Shut new k = (d : Joined) × At new.circuits k d × (d.lists.server_open ≡ true → ⊥)

shut : (mid : World) (k : ℕ) (j m : Joined) (side : ServerSide) (left : List ℕ) (said core : Server) → At mid.circuits k m → SameEnds j m → Shut (server_after j.server side (ends_here j left j.server said) core mid) k
shut mid k j m side left said core at s =
    let ends : Joined → Option (List ℕ) = ends_here j left j.server said in (
      ending ends m,
      At-map (ending ends) mid.circuits k m at,
      λ opened.
          let still = open-still ends m (ending ends m) refl opened in
          both_ways (is_some (ends m)) still.0 (ends-own j m left said s.handle s.server (ap (λ (z : Joined). z.lists.server_open) (sym still.1) ∙ opened)),
    )

pub closes : (w new : World) (k : ℕ) (j : Joined) (y : ServerSide) (cause : why.Why) (left : List ℕ) → At w.circuits k j → ServerStepped w k j y (stepped.Closed cause left) new → Shut new k
closes w new k j y why.OutOfMemory left on f = subst (λ (z : World). Shut z k) (sym f.leaves) (go f.lacks.written)
  where
    did : Action
    did = f.lacks.next.action

    numbers : Joined
    numbers = numbers_after (length j.lists.handled) did j

    go : (o : Option (Handle → Bool)) → Shut (server_after j.server (side_of j.server y (unsaid k j y did o w)) (ends_here j left j.server f.core) f.core (unsaid k j y did o w)) k
    go None = shut w k j j (side_of j.server y w) left f.core f.core on (same-self j)
    go (Some gone) =
        shut (acted k j y did w) k j (write_numbers j.server y.core did numbers) (side_of j.server y (acted k j y did w)) left f.core f.core
        (At-map (write_numbers j.server y.core did) (slice_set w.circuits k numbers) k numbers (set-here w.circuits k j numbers on))
        (same-trans j numbers (write_numbers j.server y.core did numbers) (numbers-after-same (length j.lists.handled) did j) (write-numbers-same j.server y.core did numbers))
closes w new k j y cause left on f = subst (λ (z : World). Shut z k) (sym f.3) (shut w k j j y left y.core (stepped.closed j.at_server y.core) on (same-self j))

-- ---- a step that clears a channel

module _ (s : Setting) (w : World) (k : ℕ) (j : Joined) (y : ServerSide) (on : At w.circuits k j) (at : At w.servers j.server y) (sound : Sound s w) where
  -- no put that is left waits on it
  left-apart : (sid : ℕ) (q : PutPlace) (r : Sent) → SideWaits (server.with_core (server.without_channel j.at_server sid) y.core.records y.records) q → q.circuit ≡ k → At j.lists.up q.place r → sid_in r.message ≡ sid → ⊥
  left-apart sid q r waits here sent same =
      let own : Lives w j.server y = sound.writes.lives j.server y at in
      let f = core-at (server.without_channel j.at_server sid) y.core.records y.records waits.1.0 waits.0 waits.1.1 in
      let p = places-at (λ (p : Put). not (server.is_of_channel j.at_server sid p)) f.0.waiting f.1.waiting q (subst (λ (z : RecordSide). In z.waiting q) f.4 waits.2) in
      let agrees = both-at (Agrees (IsPutOf w.circuits j.server) own.log) y.core.records y.records waits.1.0 f.0 f.1 own.life.each f.2 f.3 in
      let put : IsPutOf w.circuits j.server q p.1.put = (both-at (WaitsAs (IsPutOf w.circuits j.server) own.log f.1.number) f.1.waiting f.0.waiting p.0 q p.1 agrees.each p.3 p.2).1 in
      let one : put.c ≡ j = At-one w.circuits k put.c j (subst (λ (m : ℕ). At w.circuits m put.c) here put.on) on in
      let said : put.s ≡ r = At-one j.lists.up q.place put.s r (subst (λ (z : Joined). At z.lists.up q.place put.s) one put.sent) sent in
      let handle : p.1.put.circuit ≡ j.at_server = put.handle ∙ ap (λ (z : Joined). z.at_server) one in
      let wire : wire_of p.1.put.channel ≡ sid = put.sid ∙ ap (λ (z : Sent). sid_in z.message) said ∙ same in
      let hit : server.is_of_channel j.at_server sid p.1.put ≡ true =
      ap (λ (h : Handle). same_handle h j.at_server && eqb (wire_of p.1.put.channel) sid) handle
      ∙ ap (λ (b : Bool). b && eqb (wire_of p.1.put.channel) sid) (same-itself j.at_server)
      ∙ eq-eqb (wire_of p.1.put.channel) sid wire in
      (let no_put : not (server.is_of_channel j.at_server sid p.1.put) ≡ true = p.4 in (let t : not true ≡ true = ap (λ (b : Bool). not b) (sym hit) ∙ no_put in cc))

  module _ (new : World) (takes : TakesSent w) (opened : j.lists.server_open ≡ true) (f : server.StepHandles w k j y new) where
    -- the records of its server then
    sides-now : (z : ServerSide) → At new.servers j.server z → (q : PutPlace) → SideWaits z.records q → SideWaits (records_after y.core j.at_server (own w new k j y f) (f.steps.0).action y.records) q
    sides-now z there q waits =
        let gone : ℕ → Bool = server.ends_at (ends_by j.server f.core) (mid w new k j y f).circuits in
        let records : List RecordSide = records_after y.core j.at_server (own w new k j y f) (f.steps.0).action y.records in
        let was : SideWaits (map (without_puts gone) records) q = subst (λ (l : List RecordSide). SideWaits l q) (sides-are w new k j y f at z there) waits in
        elim (sides-without gone records was.0 was.1) [
          | inl none ↦ absurd (none.1 q was.2)
          | inr r ↦ (r.0, r.1, r.4 q was.2)
        ]

    none-cleared : (sid : ℕ) (c : Sent) → At j.lists.up (length j.lists.handled) c → Is command.ClearChannel c.message → sid ≡ c.message.p1 → (z : ServerSide) → At new.servers j.server z
        → (q : PutPlace) (r : Sent) → SideWaits z.records q → q.circuit ≡ k → At j.lists.up q.place r → sid_in r.message ≡ sid → ⊥
    none-cleared sid c sent clears is z there q r waits here at_r same =
        let next = f.steps.0 in
        let took = takes k j y f.e next.m next.rest on at opened f.has next.takes in
        let one : took.0 ≡ c = At-one j.lists.up (length j.lists.handled) took.0 c took.1 sent in
        let m_is : next.m ≡ c.message = sym took.2 ∙ ap (λ (x : Sent). x.message) one in
        let did : next.action ≡ Clears next.m.p1 = (next.handles.due.clear (ap (λ (x : Fields). x.command) m_is ∙ clears)).1 in
        let sid_is : Clears next.m.p1 ≡ Clears sid = ap (λ (n : ℕ). Clears n) (ap (λ (x : Fields). x.p1) m_is ∙ sym is) in
        left-apart sid q r
        (subst (λ (a : Action). SideWaits (records_after y.core j.at_server (record { circuit = k; place = length j.lists.handled }) a y.records) q) (did ∙ sid_is) (sides-now z there q waits)) here at_r same

-- ---- an event

module _ (s : Setting) (w new : World) (takes : TakesSent w) (sound : Sound s w) (messages : AllMessages w) (channels : AllChannels w) (puts : AllPuts w) where
  -- the clears of a step leave no put that waits on their channel
  abbrev NoneLeft : (k : ℕ) → Joined → Type 0
  NoneLeft k j = (sid : ℕ) (c : Sent) → At j.lists.up (length j.lists.handled) c → Is command.ClearChannel c.message → sid ≡ c.message.p1 → (z : ServerSide) → At new.servers j.server z
      → ((d : Joined) → At new.circuits k d → d.lists.server_open ≡ true) → (q : PutPlace) (r : Sent) → SideWaits z.records q → q.circuit ≡ k → At j.lists.up q.place r → sid_in r.message ≡ sid → ⊥

  -- what a message that is handled leaves
  here-handled : (k : ℕ) (j : Joined) (y : ServerSide) → At w.circuits k j → At w.servers j.server y → j.lists.server_open ≡ true → NoneLeft k j → HandledHere (Stand w new) (stand-lasting w new) k j y.core
  here-handled k j y on at opened none e taken next c replies did step has held sent due acts (inl late) = inl late
  here-handled k j y on at opened none e taken next c replies did step has held sent due acts (inr h) =
      let on_e = channels k j y e on at opened has in
      let few : length taken.channels ≤ arena_slots = subst (λ (t : Table OpenChannel). length t ≤ arena_slots) (sym held.channels) on_e.few in
      inr (λ z there is_open.
      let same : PutsOn z k taken j = puts-stay z k e taken j j (stays-same z k e taken j j held.channels refl (λ p q at_p. at_p) refl) (h z (here did z there) is_open) in
      puts-stay z k taken next j (server.handled_at (length j.lists.handled) step replies (numbers_after (length j.lists.handled) did j))
      (stays-handled z k y.core taken next j step replies few did (clear did z (here did z there) is_open due) acts) same)
    where
      here : (did : Action) (z : ServerSide) → At new.servers (numbers_after (length j.lists.handled) did j).server z → At new.servers j.server z
      here did z there = subst (λ (m : ℕ). At new.servers m z) (numbers-after-same (length j.lists.handled) did j).server there

      clear : (did : Action) (z : ServerSide) → At new.servers j.server z → ((d : Joined) → At new.circuits k d → d.lists.server_open ≡ true) → action.Due (stepped.knows y.core taken) c.message replies did → NoneCleared z k j did
      clear (Clears sid) z there is_open due = (let only = clears-only (stepped.knows y.core taken) c.message replies sid due in none sid c sent only.0 only.1 z there is_open)
      clear (action.Adds x) z there is_open due = tt
      clear (action.Drops x) z there is_open due = tt
      clear (action.Opens x) z there is_open due = tt
      clear (action.Switches x) z there is_open due = tt
      clear (action.Names x) z there is_open due = tt
      clear action.Greets z there is_open due = tt
      clear action.Nothing z there is_open due = tt
      clear (action.Applies name value busies) z there is_open due = tt
      clear (action.Waits name value) z there is_open due = tt

  -- ---- puts that come

  module _ (n : ℕ) (c : Joined) (y : ServerSide) (e : ServerEnd) (at : At w.circuits n c) (there : At w.servers c.server y) (opened : c.lists.server_open ≡ true) (has : HasEnd y.core c.at_server e) where
    had : PutsOn y n e c
    had = puts n c y e at there opened has

    end-is : (q : PutPlace) (b : Put) (p : StepPut w c.server q b) → p.j.at_server ≡ c.at_server → p.e ≡ e
    end-is q b p handle =
        let y_is : p.y ≡ y = At-one w.servers c.server p.y y (subst (λ (m : ℕ). At w.servers m p.y) (sym p.of) p.there) there in
        one-end y.core c.at_server p.e e (subst (λ (z : ServerSide × Handle). HasEnd z.0.core z.1 p.e) (λ i. (y_is i, handle i)) p.has) has

    -- its channel was created before
    created : (q : PutPlace) (b : Put) → StepPut w c.server q b → q.circuit ≡ n → (x : Creation) × In c.creations x × (x.sid ≡ wire_of b.channel) × (x.place < q.place)
    created q b p is =
        let one : p.j ≡ c = At-one w.circuits n p.j c (subst (λ (m : ℕ). At w.circuits m p.j) is p.on) at in
        let e_is : p.e ≡ e = end-is q b p (ap (λ (z : Joined). z.at_server) one) in
        let o = (channels n c y e at there opened has).opens b.channel p.ch (subst (λ (z : ServerEnd). under z.channels b.channel ≡ Some p.ch) e_is p.channel) in
        let f = find-at (has_sid (wire_of b.channel)) c.creations o.0 o.1 in
        let m = (messages n c at opened).channels o.0 (f.0, f.1) in
        let lt : o.0.place < length c.lists.handled = m.3 in
        let place : q.place ≡ length c.lists.handled = p.place ∙ ap (λ (z : Joined). length z.lists.handled) one in
        (o.0, (f.0, f.1), eqb-true o.0.sid (wire_of b.channel) f.2, omega (arith, lt, place))

    comes-given : (q : PutPlace) (b : Put) → Comes w c.server q b → b.circuit ≡ c.at_server → WasGiven e.channels b.channel
    comes-given q b (inl p) handle = given-under e.channels b.channel p.ch (subst (λ (z : ServerEnd). under z.channels b.channel ≡ Some p.ch) (end-is q b p (sym p.handle ∙ handle)) p.channel)
    comes-given q b (inr p) handle =
        let y_is : p.y ≡ y = At-one w.servers c.server p.y y p.there there in
        had.given b (subst (λ (z : ServerSide). CoreWaits z.core.records b) y_is p.core) handle

    comes-on : (q : PutPlace) (b : Put) → Comes w c.server q b → q.circuit ≡ n → CameOnChannel e c q b
    comes-on q b (inl p) is =
        let one : p.j ≡ c = At-one w.circuits n p.j c (subst (λ (m : ℕ). At w.circuits m p.j) is p.on) at in
        record { given = comes-given q b (inl p) (p.handle ∙ ap (λ (z : Joined). z.at_server) one); before = λ ch held. created q b p is }
    comes-on q b (inr p) is =
        let y_is : p.y ≡ y = At-one w.servers c.server p.y y p.there there in
        let one : p.is_put.c ≡ c = At-one w.circuits n p.is_put.c c (subst (λ (m : ℕ). At w.circuits m p.is_put.c) is p.is_put.on) at in
        let x = had.waits q (subst (λ (z : ServerSide). SideWaits z.records q) y_is p.side) is in
        let said : x.0 ≡ p.is_put.s = At-one c.lists.up q.place x.0 p.is_put.s x.1 (subst (λ (z : Joined). At z.lists.up q.place p.is_put.s) one p.is_put.sent) in
        record {
          given = comes-given q b (inr p) (p.is_put.handle ∙ ap (λ (z : Joined). z.at_server) one);
          before = λ ch held. (x.2.0, x.2.1, x.2.2 ∙ ap (λ (z : Sent). sid_in z.message) said ∙ sym p.is_put.sid, x.2.3);
        }

    comes-waits : (q : PutPlace) (b : Put) → Comes w c.server q b → q.circuit ≡ n → IsOnChannel c q
    comes-waits q b (inl p) is =
        let one : p.j ≡ c = At-one w.circuits n p.j c (subst (λ (m : ℕ). At w.circuits m p.j) is p.on) at in
        let x = created q b p is in
        (p.s, subst (λ (z : Joined). At z.lists.up q.place p.s) one p.sent, (x.0, x.1, x.2 ∙ p.sid, x.3))
    comes-waits q b (inr p) is =
        let y_is : p.y ≡ y = At-one w.servers c.server p.y y p.there there in
        had.waits q (subst (λ (z : ServerSide). SideWaits z.records q) y_is p.side) is

    -- of the puts that there are then
    then-on : (z : ServerSide) → Follows (Comes w c.server) y.core.records z.core.records y.records z.records → PutsOn z n e c
    then-on z f = record {
      busy = λ q b p is. elim (f.busy q b p) [ inl old ↦ had.busy q b old is | inr new_it ↦ comes-on q b new_it is ];
      given = λ b p handle. elim (f.core b p) [ inl old ↦ had.given b old handle | inr new_it ↦ comes-given new_it.0 b new_it.1 handle ];
      waits = λ q p is. elim (f.side q p) [ inl old ↦ had.waits q old is | inr new_it ↦ comes-waits q new_it.0 new_it.1 is ];
    }

  module _ (follow : PutsFollow w new) where
    before : AllEnds (Stand w new) w
    before n c y e at there opened has = inr (λ z there_z is_open. elim (follow c.server z there_z) [
      | inr none ↦ record { busy = λ q b p is. absurd (none.busy q b p); given = λ b p handle. absurd (none.core b p); waits = λ q p is. absurd (none.side q p) }
      | inl was ↦
          let one : y ≡ was.0 = At-one w.servers c.server y was.0 there was.1 in
          then-on n c was.0 e at was.1 opened (subst (λ (x : ServerSide). HasEnd x.core c.at_server e) one has) z was.2
    ])

    -- a put came on a circuit that there was
    come-within : (i : ℕ) (q : PutPlace) (b : Put) → Comes w i q b → q.circuit < length w.circuits
    come-within i q b (inl p) = At-within w.circuits q.circuit p.j p.on
    come-within i q b (inr p) = At-within w.circuits q.circuit p.is_put.c p.is_put.on

    busy-within : (i : ℕ) (z : ServerSide) → At new.servers i z → (q : PutPlace) (b : Put) → BusyPair z.core.records z.records q b → q.circuit < length w.circuits
    busy-within i z there q b p = elim (follow i z there) [
      | inr none ↦ absurd (none.busy q b p)
      | inl was ↦ elim (was.2.busy q b p) [
        | inl old ↦ (let f = put-facts s w i was.0 q sound was.1 (old.r, old.in_rs, inl old.side) in At-within w.circuits q.circuit f.c f.on)
        | inr new_it ↦ come-within i q b new_it
      ]
    ]

    waits-within : (i : ℕ) (z : ServerSide) → At new.servers i z → (q : PutPlace) → SideWaits z.records q → q.circuit < length w.circuits
    waits-within i z there q p = elim (follow i z there) [
      | inr none ↦ absurd (none.side q p)
      | inl was ↦ elim (was.2.side q p) [
        | inl old ↦ (let f = put-facts s w i was.0 q sound was.1 (old.0, old.1, inr old.2) in At-within w.circuits q.circuit f.c f.on)
        | inr new_it ↦ come-within i q new_it.0 new_it.1
      ]
    ]

    after-event : Sound s new → AllEnds (Stand w new) new → AllPuts new
    after-event h all n d z e at there opened has = elim (all n d z e at there opened has) [
      | inr stands ↦ stands z there (λ c on. subst (λ (x : Joined). x.lists.server_open ≡ true) (At-one new.circuits n d c at on) opened)
      | inl late ↦ record {
        busy = λ q b p is. absurd (let lt : q.circuit < length w.circuits = busy-within d.server z there q b p in omega (arith, lt, is, late));
        given = λ b p handle.
            let own : Lives new d.server z = h.writes.lives d.server z there in
            let r = core-beside (IsPutOf new.circuits d.server) own.log z.core.records z.records own.life.each b p in
            let is_put : IsPutOf new.circuits d.server r.0 b = r.2 in
            let opened_then : is_put.c.lists.server_open ≡ true = own.still_open r.1.1.0 r.1.0 r.0 is_put.c r.1.1.1 r.1.2 is_put.on in
            let one : n ≡ r.0.circuit = h.seated.one n r.0.circuit d is_put.c at is_put.on (sym is_put.of) opened opened_then (sym handle ∙ is_put.handle) in
            absurd (let lt : r.0.circuit < length w.circuits = waits-within d.server z there r.0 r.1 in omega (arith, lt, one, late));
        waits = λ q p is. absurd (let lt : q.circuit < length w.circuits = waits-within d.server z there q p in omega (arith, lt, is, late));
      }
    ]

    by-frame : (e : Event) → IsSetting s → Happens w e new → OnStep (Stand w new) (stand-lasting w new) w e → AllPuts new
    by-frame e ok happens step = after-event (event-sound s w new e ok takes happens sound) (event-by (Stand w new) (stand-lasting w new) s w new e (stand-begins w new) step takes happens sound before)

-- a step of a server's end
step-puts : (s : Setting) (w new : World) (k : ℕ) → IsSetting s → TakesSent w → Sound s w → AllMessages w → AllChannels w → AllPuts w → Happens w (event.ServerStep k) new → AllPuts new
step-puts s w new k ok takes sound messages channels puts happens = go happens.1.0 happens.1.1
  where
    a : HasServerEnd w k
    a = happens.0

    by : (NoneLeft s w new takes sound messages channels puts k a.j) → AllPuts new
    by none =
        by-frame s w new takes sound messages channels puts (puts-follow s w new (event.ServerStep k) takes sound happens.0 happens.1) (event.ServerStep k) ok happens
        (λ j y on there.
        let one : a.j ≡ j = At-one w.circuits k a.j j a.joins.at on in
        here-handled s w new takes sound messages channels puts k j y on there (subst (λ (z : Joined). z.lists.server_open ≡ true) one a.is_open)
        (subst (λ (z : Joined). NoneLeft s w new takes sound messages channels puts k z) one none))

    same : new ≡ w → AllPuts new
    same is = subst (λ (z : World). AllPuts z) (sym is) puts

    over : (cause : why.Why) (left : List ℕ) → ServerStepped w k a.j a.y (stepped.Closed cause left) new → AllPuts new
    over cause left f = (let c = closes w new k a.j a.y cause left a.joins.at f in by (λ sid x sent clears is z there is_open. absurd (c.2 (is_open c.0 c.1))))

    go : (did : Stepped) → ServerStepped w k a.j a.y did new → AllPuts new
    go stepped.NeedBytes f = same f.3
    go stepped.OutputFull f = same f.3
    go stepped.Handled f = by (λ sid c sent clears is z there is_open. none-cleared s w k a.j a.y a.joins.at a.joins.server sound new takes a.is_open f sid c sent clears is z there)
    go (stepped.Closed cause left) f = over cause left f

-- ---- every event

other-puts : (s : Setting) (w new : World) (e : Event) → IsSetting s → TakesSent w → Sound s w → AllMessages w → AllChannels w → AllPuts w → Happens w e new → OnStep (Stand w new) (stand-lasting w new) w e → AllPuts new
other-puts s w new e ok t h m c p happens step = by-frame s w new t h m c p (puts-follow s w new e t h happens.0 happens.1) e ok happens step

pub event-puts : (s : Setting) (w new : World) (e : Event) → IsSetting s → TakesSent w → Sound s w → AllMessages w → AllChannels w → AllPuts w → Happens w e new → AllPuts new
event-puts s w new (event.ServerStep k) ok takes sound ms cs ps happens = step-puts s w new k ok takes sound ms cs ps happens
event-puts s w new (event.Open i name priority) ok takes sound ms cs ps happens = other-puts s w new (event.Open i name priority) ok takes sound ms cs ps happens tt
event-puts s w new (event.Clear i c) ok takes sound ms cs ps happens = other-puts s w new (event.Clear i c) ok takes sound ms cs ps happens tt
event-puts s w new (event.Read i c data_type count) ok takes sound ms cs ps happens = other-puts s w new (event.Read i c data_type count) ok takes sound ms cs ps happens tt
event-puts s w new (event.Write i c e) ok takes sound ms cs ps happens = other-puts s w new (event.Write i c e) ok takes sound ms cs ps happens tt
event-puts s w new (event.WriteNotify i c e) ok takes sound ms cs ps happens = other-puts s w new (event.WriteNotify i c e) ok takes sound ms cs ps happens tt
event-puts s w new (event.Subscribe i c data_type count mask) ok takes sound ms cs ps happens = other-puts s w new (event.Subscribe i c data_type count mask) ok takes sound ms cs ps happens tt
event-puts s w new (event.Unsubscribe i n) ok takes sound ms cs ps happens = other-puts s w new (event.Unsubscribe i n) ok takes sound ms cs ps happens tt
event-puts s w new (event.Collect i r) ok takes sound ms cs ps happens = other-puts s w new (event.Collect i r) ok takes sound ms cs ps happens tt
event-puts s w new (event.GiveUp i r) ok takes sound ms cs ps happens = other-puts s w new (event.GiveUp i r) ok takes sound ms cs ps happens tt
event-puts s w new (event.ClientDatagram i from bytes) ok takes sound ms cs ps happens = other-puts s w new (event.ClientDatagram i from bytes) ok takes sound ms cs ps happens tt
event-puts s w new (event.ServerDatagram i from bytes) ok takes sound ms cs ps happens = other-puts s w new (event.ServerDatagram i from bytes) ok takes sound ms cs ps happens tt
event-puts s w new (event.Accept i) ok takes sound ms cs ps happens = other-puts s w new (event.Accept i) ok takes sound ms cs ps happens tt
event-puts s w new (event.Up k n) ok takes sound ms cs ps happens = other-puts s w new (event.Up k n) ok takes sound ms cs ps happens tt
event-puts s w new (event.Down k n) ok takes sound ms cs ps happens = other-puts s w new (event.Down k n) ok takes sound ms cs ps happens tt
event-puts s w new (event.ClientStep k) ok takes sound ms cs ps happens = other-puts s w new (event.ClientStep k) ok takes sound ms cs ps happens tt
event-puts s w new (event.Pump k) ok takes sound ms cs ps happens = other-puts s w new (event.Pump k) ok takes sound ms cs ps happens tt
event-puts s w new (event.CutClient k) ok takes sound ms cs ps happens = other-puts s w new (event.CutClient k) ok takes sound ms cs ps happens tt
event-puts s w new (event.CutServer k) ok takes sound ms cs ps happens = other-puts s w new (event.CutServer k) ok takes sound ms cs ps happens tt
event-puts s w new (event.ClientRestart i) ok takes sound ms cs ps happens = other-puts s w new (event.ClientRestart i) ok takes sound ms cs ps happens tt
event-puts s w new (event.ServerRestart i) ok takes sound ms cs ps happens = other-puts s w new (event.ServerRestart i) ok takes sound ms cs ps happens tt
event-puts s w new (event.Post i name e mask) ok takes sound ms cs ps happens = other-puts s w new (event.Post i name e mask) ok takes sound ms cs ps happens tt
event-puts s w new (event.Finish i name) ok takes sound ms cs ps happens = other-puts s w new (event.Finish i name) ok takes sound ms cs ps happens tt
event-puts s w new (event.Remove i name) ok takes sound ms cs ps happens = other-puts s w new (event.Remove i name) ok takes sound ms cs ps happens tt
event-puts s w new (event.Add i r) ok takes sound ms cs ps happens = other-puts s w new (event.Add i r) ok takes sound ms cs ps happens tt
event-puts s w new (event.Tick moment) ok takes sound ms cs ps happens = other-puts s w new (event.Tick moment) ok takes sound ms cs ps happens tt
