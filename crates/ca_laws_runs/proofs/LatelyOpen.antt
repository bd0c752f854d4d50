-- A put that waits is on a channel that is open; and one that makes its record busy is, or its
-- channel was cleared since. So over every event and every run.
use Rattle.std.proofs.Common.{◌≡◌, ℕ, ◌+◌, ◌<◌, ◌≤◌, ◌⊎◌, inl, inr, true, false, List, [], ◌∷◌, ◌++◌, length, Option, Some, None, refl, sym, ap, subst, ◌∙◌, arith}
use Rattle.std.specs.Prelude.{filter, map, option_map, unwrap_or}
use Rattle.std.specs.List.{FoldsTo, fold}
use Rattle.std.proofs.lemmas.List.{length-append}
use Rattle.ca_arena.specs.declared.handle.Handle.{Handle}
use Rattle.ca_ids.specs.Table.{Table, by_wire, under, with_freed}
use Rattle.ca_ids.specs.Wire.{wire_of}
use Rattle.ca_model.proofs.Handles.{handle-or}
use Rattle.ca_model.proofs.Tables.{freed-other, held-other, wire-under}
use Rattle.ca_queue.specs.declared.entry.SubKey.{SubKey}
use Rattle.ca_records.specs.declared.puts.Put.{Put}
use Rattle.ca_text.specs.Place.{At}
use Rattle.ca_text.proofs.Places.{At-one, At-within}
use Rattle.ca_model.specs.Due.{Action, Adds, Applies, Clears, Drops, Due, Opens, Switches}
use Rattle.ca_model.specs.Due as action
use Rattle.ca_model.specs.History.{Circuit, Sent, Step}
use Rattle.ca_model.specs.Server.{OpenChannel, ServerEnd, concerns, key_of, with_post}
use Rattle.ca_model.specs.ServerCalls.{channels_of, end_without, retired}
use Rattle.ca_model.specs.ServerSteps.{Acts, HasEnd, Leaves, Update, knows, without_channel}
use Rattle.ca_model.specs.Speech.{In, sid_in}
use Rattle.ca_model.specs.Speech as speech
use Rattle.ca_model.specs.Events.{Event}
use Rattle.ca_model.specs.Runs.{Happens}
use Rattle.ca_model.specs.Events as event
use Rattle.ca_model.specs.ServerEvents.{handled_at, numbers_after, stamped, with_number}
use Rattle.ca_model.specs.World.{IsSetting, Joined, PutPlace, ServerSide, Setting, World, opening}
use Rattle.ca_laws_parts.proofs.Thins.{put-facts}
use Rattle.ca_laws_runs.specs.Pairs.{BusyPair, CoreWaits, SideWaits}
use Rattle.ca_laws_runs.proofs.Comes.{Comes, NextPut, StepPut, core-beside}
use Rattle.ca_laws_runs.proofs.Follow.{puts-follow}
use Rattle.ca_laws_runs.proofs.Pairs.{Follows}
use Rattle.ca_laws_runs.proofs.StepWhole.{takes-next}
use Rattle.ca_laws_parts.specs.Lives.{IsPutOf}
use Rattle.ca_laws_parts.specs.Moves.{Lives}
use Rattle.ca_laws_parts.proofs.Cores.{each-there}
use Rattle.ca_laws_parts.proofs.Doing.{clears-only}
use Rattle.ca_laws_parts.proofs.Frames.{goes-self}
use Rattle.ca_laws_parts.proofs.HappensPost.{stamped-same}
use Rattle.ca_laws_parts.proofs.Lasting.{AllEnds, Begins, Handled, Lasting, numbered_for, told_gone, told_late}
use Rattle.ca_laws_parts.proofs.LastingAll.{OnStep, event-by}
use Rattle.ca_laws_parts.proofs.LastingEvents.{one-end}
use Rattle.ca_laws_parts.proofs.WritesLists.{none_at}
use Rattle.ca_laws_parts.proofs.Waited.{numbers-after-same}
use Rattle.ca_laws_runs.proofs.Acting.{Grows}
use Rattle.ca_laws_runs.proofs.CausingEvents.{Ready}
use Rattle.ca_laws_runs.proofs.CausingRuns.{ready}
use Rattle.ca_laws_runs.proofs.FollowsWhole.{folds-snoc}

-- ---- the channels of an open end, since a world

-- From this place on a CLEAR_CHANNEL of the SID was handled.
abbrev pub IsClearedFrom : Joined → (from sid : ℕ) → Type 0
IsClearedFrom c from sid = (l : ℕ) × (r : Sent) × (from ≤ l) × (l < length c.lists.handled) × At c.lists.up l r × speech.Clears r.message sid

-- The channel of this handle is open.
abbrev pub HasChannel : ServerEnd → Handle → Type 0
HasChannel e h = (ch : OpenChannel) × (under e.channels h ≡ Some ch)

module _ (w : World) where
  -- The circuit was open then, and each channel that its end had is open still,
  -- or was cleared since.
  pub record HeldOn (n : ℕ) (f : ServerEnd) (d : Joined) : Type 0 where
    pub c : Joined
    pub on : At w.circuits n c
    pub y : ServerSide
    pub at : At w.servers c.server y
    pub opened : c.lists.server_open ≡ true
    pub e : ServerEnd
    pub has : HasEnd y.core c.at_server e
    pub server : d.server ≡ c.server
    pub handle : d.at_server ≡ c.at_server
    pub more : length c.lists.handled ≤ length d.lists.handled
    pub up : Grows c.lists.up d.lists.up
    pub channels : (h : Handle) → HasChannel e h → HasChannel f h ⊎ IsClearedFrom d (length c.lists.handled) (wire_of h)

  abbrev pub Held : ℕ → ServerEnd → Joined → Type 0
  Held n f d = (length w.circuits ≤ n) ⊎ HeldOn n f d

  held-then : (n : ℕ) (f g : ServerEnd) (c d : Joined) → d.server ≡ c.server → d.at_server ≡ c.at_server
      → length c.lists.handled ≤ length d.lists.handled → Grows c.lists.up d.lists.up
      → ((h : Handle) → HasChannel f h → HasChannel g h ⊎ IsClearedFrom d (length c.lists.handled) (wire_of h)) → Held n f c → Held n g d
  held-then n f g c d server handle more up channels (inl late) = inl late
  held-then n f g c d server handle more up channels (inr h) = inr (record {
    c = h.c;
    on = h.on;
    y = h.y;
    at = h.at;
    opened = h.opened;
    e = h.e;
    has = h.has;
    server = server ∙ h.server;
    handle = handle ∙ h.handle;
    more = (let le : length h.c.lists.handled ≤ length c.lists.handled = h.more in omega (arith, le, more));
    up = λ i x at. up i x (h.up i x at);
    channels = λ q there. elim (h.channels q there) [
      | inl was ↦ elim (channels q was) [
        | inl now ↦ inl now
        | inr z ↦ (let le : length h.c.lists.handled ≤ length c.lists.handled = h.more in
            let from : length c.lists.handled ≤ z.0 = z.2 in inr (z.0, z.1, omega (arith, le, from), z.3, z.4, z.5))
      ]
      | inr z ↦ (let lt : z.0 < length c.lists.handled = z.3 in inr (z.0, z.1, z.2, omega (arith, lt, more), up z.0 z.1 z.4, z.5))
    ];
  })

  -- the same messages were handled
  held-like : (n : ℕ) (f g : ServerEnd) (c d : Joined) → d.server ≡ c.server → d.at_server ≡ c.at_server → d.lists.handled ≡ c.lists.handled
      → Grows c.lists.up d.lists.up
      → ((h : Handle) → HasChannel f h → HasChannel g h) → Held n f c → Held n g d
  held-like n f g c d server handle handled up channels p =
      held-then n f g c d server handle (let e : length d.lists.handled ≡ length c.lists.handled = ap (λ (l : List Step). length l) handled in omega (arith, e)) up (λ h there. inl (channels h there)) p

  same-channels : (f g : ServerEnd) → g.channels ≡ f.channels → (h : Handle) → HasChannel f h → HasChannel g h
  same-channels f g is h (ch, there) = (ch, subst (λ (t : Table OpenChannel). under t h ≡ Some ch) (sym is) there)

  numbered-alike : (c : Joined) (keys : List SubKey) → let d : Joined = fold with_number c keys in (d.server ≡ c.server) × (d.at_server ≡ c.at_server) × (d.lists ≡ c.lists)
  numbered-alike c [] = (refl, refl, refl)
  numbered-alike c (k ∷ keys) = numbered-alike (with_number c k) keys

  leaves-channels : (us : List Update) (e after : ServerEnd) → FoldsTo Leaves e us after → after.channels ≡ e.channels
  leaves-channels [] e after same = ap (λ (x : ServerEnd). x.channels) (sym same)
  leaves-channels (u ∷ us) e after (mid, one, rest) = leaves-channels us mid after rest ∙ ap (λ (x : ServerEnd). x.channels) one.leaves

  held-lasting : Lasting Held
  held-lasting = record {
    stays = λ n e f c d held goes p. held-like n e f c d goes.later.server goes.later.handle goes.handled goes.later.up (same-channels e f held.channels) p;
    posted = λ n name mask v e c p.
        let s = numbered-alike c (map key_of (filter (concerns name mask) e.subscriptions)) in
        held-like n e (with_post name mask v e) c (numbered_for name mask e c) s.0 s.1 (ap (λ (z : Circuit). z.handled) s.2) (λ i x at. subst (λ (z : Circuit). At z.up i x) (sym s.2) at) (λ h there. there) p;
    removed = λ n name e c p.
        held-like n e (end_without name e) c (told_gone (channels_of name e) c) refl refl refl (λ i x at. at)
        (λ h there. (retired name h there.0, each-there (retired name) e.channels h there.0 there.1)) p;
    pumped = λ n us e after c folds p.
        let s = stamped-same us c in
        held-like n e after c (stamped us c) s.server s.handle s.handled (λ i x at. subst (λ (l : List Sent). At l i x) (sym s.up) at) (same-channels e after (leaves-channels us e after folds)) p;
    replied = λ n e c place ms p. held-like n e e c (told_late place ms c) refl refl refl (λ i x at. at) (λ h there. there) p;
  }

  held-begins : Begins Held w
  held-begins n moment c late new = inl late

  -- a message is handled
  held-handled : Handled Held
  held-handled n y e new s replies did step c at_s due acts p = go did due acts
    where
      after : Action → Joined
      after did = handled_at (length c.lists.handled) step replies (numbers_after (length c.lists.handled) did c)

      long : (did : Action) → length (after did).lists.handled ≡ length c.lists.handled + 1
      long did =
          (let e1 : length (numbers_after (length c.lists.handled) did c).lists.handled ≡ length c.lists.handled = ap (λ (l : List Step). length l) (numbers-after-same (length c.lists.handled) did c).handled in
          let e2 : length ((numbers_after (length c.lists.handled) did c).lists.handled ++ step ∷ []) ≡ length (numbers_after (length c.lists.handled) did c).lists.handled + length (step ∷ []) = length-append (numbers_after (length c.lists.handled) did c).lists.handled (step ∷ []) in
          omega (arith, e1, e2))

      grows : (did : Action) → Grows c.lists.up (after did).lists.up
      grows did i x at = subst (λ (l : List Sent). At l i x) (sym (numbers-after-same (length c.lists.handled) did c).up) at

      made : (did : Action) → ((h : Handle) → HasChannel e h → HasChannel new h ⊎ IsClearedFrom (after did) (length c.lists.handled) (wire_of h))
          → Held n new (after did)
      made did channels =
          (let l : length (after did).lists.handled ≡ length c.lists.handled + 1 = long did in
          let same = numbers-after-same (length c.lists.handled) did c in
          held-then n e new c (after did) same.server same.handle (omega (arith, l)) (grows did) channels p)

      alike : (did : Action) → new.channels ≡ e.channels → Held n new (after did)
      alike did is = made did (λ h there. inl (same-channels e new is h there))

      go : (did : Action) → Due (knows y e) s.message replies did → Acts y e did new → Held n new (after did)
      go (Opens k) due (g, may, wire, is) =
          made (Opens k) (λ h there. inl (there.0, subst (λ (x : ServerEnd). under x.channels h ≡ Some there.0) (sym is) (held-other e.channels h g (record { cid = k.cid; name = k.name; retired = false }) there.0 may there.1)))
      go (Clears sid) due is = made (Clears sid) (λ h there. subst (λ (x : ServerEnd). HasChannel x h ⊎ IsClearedFrom (after (Clears sid)) (length c.lists.handled) (wire_of h)) (sym is) (cleared h there (by_wire e.channels sid) refl))
        where
          cleared : (h : Handle) → HasChannel e h → (o : Option (Handle × OpenChannel)) → by_wire e.channels sid ≡ o
              → HasChannel (without_channel sid e) h ⊎ IsClearedFrom (after (Clears sid)) (length c.lists.handled) (wire_of h)
          cleared h there None none = inl (there.0, subst (λ (o : Option (Handle × OpenChannel)). under (unwrap_or (option_map (λ (z : Handle × OpenChannel). with_freed z.0 e.channels) o) e.channels) h ≡ Some there.0) (sym none) there.1)
          cleared h there (Some z) found = elim (handle-or h z.0) [
            | inr other ↦
                inl (there.0, subst (λ (o : Option (Handle × OpenChannel)). under (unwrap_or (option_map (λ (z : Handle × OpenChannel). with_freed z.0 e.channels) o) e.channels) h ≡ Some there.0) (sym found) (freed-other e.channels h z.0 there.0 there.1 other))
            | inl same ↦
                let only = clears-only (knows y e) s.message replies sid due in
                let l : length (after (Clears sid)).lists.handled ≡ length c.lists.handled + 1 = long (Clears sid) in
                let wire : wire_of z.0 ≡ sid = (wire-under e.channels sid z found).1 in
                inr (length c.lists.handled, s, omega arith, omega (arith, l), grows (Clears sid) (length c.lists.handled) s at_s, (only.0, sym only.1 ∙ sym wire ∙ ap wire_of (sym same)))
          ]
      go (Adds x) due acts = alike (Adds x) (ap (λ (z : ServerEnd). z.channels) acts.2.leaves)
      go (Drops key) due acts = alike (Drops key) (ap (λ (z : ServerEnd). z.channels) acts)
      go (Switches on) due acts = alike (Switches on) (ap (λ (z : ServerEnd). z.channels) acts)
      go action.Greets due acts = alike action.Greets (ap (λ (z : ServerEnd). z.channels) acts)
      go (action.Names x) due acts = alike (action.Names x) (ap (λ (z : ServerEnd). z.channels) acts)
      go action.Nothing due acts = alike action.Nothing (ap (λ (z : ServerEnd). z.channels) acts)
      go (Applies name value busies) due acts = alike (Applies name value busies) (ap (λ (z : ServerEnd). z.channels) acts)
      go (action.Waits name value) due acts = alike (action.Waits name value) (ap (λ (z : ServerEnd). z.channels) acts)

  held-start : AllEnds Held w
  held-start n c y e on at opened has = inr (record {
    c = c;
    on = on;
    y = y;
    at = at;
    opened = opened;
    e = e;
    has = has;
    server = refl;
    handle = refl;
    more = omega arith;
    up = λ i x there. there;
    channels = λ h there. inl there;
  })

  held-on-step : (e : Event) → OnStep Held held-lasting w e
  held-on-step (event.ServerStep m) = λ j y at server e taken new s replies did step has held sent due acts p.
      held-handled m y.core taken new s replies did step j sent due acts (held-lasting.stays m e taken j j held (goes-self j) p)
  held-on-step e = tt

-- so it is after each event
pub event-since : (s : Setting) (w new : World) (e : Event) → Ready s w → Happens w e new → AllEnds (Held w) new
event-since s w new e ready happens =
    event-by (Held w) (held-lasting w) s w new e (held-begins w) (held-on-step w e) (takes-next s w ready.serves) happens ready.serves.stands.sound (held-start w)

-- an end that is open was open
pub open-was : (s : Setting) (w new : World) (e : Event) → Ready s w → Ready s new → Happens w e new → (n : ℕ) (c d : Joined) → At w.circuits n c
    → At new.circuits n d → d.lists.server_open ≡ true → c.lists.server_open ≡ true
open-was s w new e ready next happens n c d on at opened =
    let seat = next.serves.stands.sound.seated.each n d at opened in
    elim (event-since s w new e ready happens n d seat.y seat.e at seat.at opened seat.has) [
      | inl late ↦ absurd (let lt : n < length w.circuits = At-within w.circuits n c on in omega (arith, late, lt))
      | inr h ↦ subst (λ (x : Joined). x.lists.server_open ≡ true) (At-one w.circuits n h.c c h.on on) h.opened
    ]

-- ---- puts on their channels

-- Circuit n of this server, and its end.
pub record PutsHeld (y : ServerSide) (n : ℕ) (e : ServerEnd) (c : Joined) : Type 0 where
  pub busy : (q : PutPlace) (b : Put) → BusyPair y.core.records y.records q b → q.circuit ≡ n
      → HasChannel e b.channel ⊎ IsClearedFrom c q.place (wire_of b.channel)
  pub waits : (b : Put) → CoreWaits y.core.records b → b.circuit ≡ c.at_server → HasChannel e b.channel

abbrev pub AllHeld : World → Type 0
AllHeld w = (n : ℕ) (c : Joined) (y : ServerSide) (e : ServerEnd) → At w.circuits n c → At w.servers c.server y → c.lists.server_open ≡ true → HasEnd y.core c.at_server e → PutsHeld y n e c

module _ (s : Setting) (w new : World) (ready_w : Ready s w) (ready_new : Ready s new) (all : AllHeld w) where
  -- where a put that waits then came
  side-came : (i : ℕ) (y z : ServerSide) → At w.servers i y → Follows (Comes w i) y.core.records z.core.records y.records z.records → (q : PutPlace)
      → SideWaits z.records q
      → (c : Joined) × At w.circuits q.circuit c × (c.lists.server_open ≡ true → q.place ≤ length c.lists.handled)
  side-came i y z at fo q waits = elim (fo.side q waits) [
    | inl old ↦ was i y at old
    | inr new_it ↦ elim new_it.1 [
      | inl step ↦ (step.j, step.on, λ opened. (let e : q.place ≡ length step.j.lists.handled = step.place in omega (arith, e)))
      | inr next ↦ was i next.y next.there next.side
    ]
  ]
    where
      was : (i : ℕ) (y : ServerSide) → At w.servers i y → SideWaits y.records q
          → (c : Joined) × At w.circuits q.circuit c × (c.lists.server_open ≡ true → q.place ≤ length c.lists.handled)
      was i y at old =
          let f = put-facts s w i y q ready_w.serves.stands.sound at (old.0, old.1, inr old.2) in
          (f.c, f.on, λ opened. (let lt : q.place < length f.c.lists.handled = f.handled opened in omega (arith, lt)))

  busy-came : (i : ℕ) (y z : ServerSide) → At w.servers i y → Follows (Comes w i) y.core.records z.core.records y.records z.records
      → (q : PutPlace) (b : Put) → BusyPair z.core.records z.records q b → q.circuit < length w.circuits
  busy-came i y z at fo q b p = elim (fo.busy q b p) [
    | inl old ↦ (let f = put-facts s w i y q ready_w.serves.stands.sound at (old.r, old.in_rs, inl old.side) in At-within w.circuits q.circuit f.c f.on)
    | inr (inl step) ↦ At-within w.circuits q.circuit step.j step.on
    | inr (inr next) ↦ At-within w.circuits q.circuit next.is_put.c next.is_put.on
  ]

  module _ (n : ℕ) (d : Joined) (z : ServerSide) (f : ServerEnd) (on_d : At new.circuits n d) (at_z : At new.servers d.server z)
      (opened_d : d.lists.server_open ≡ true) (has_f : HasEnd z.core d.at_server f) (y : ServerSide) (at_y : At w.servers d.server y)
      (fo : Follows (Comes w d.server) y.core.records z.core.records y.records z.records) where
    own : Lives new d.server z
    own = ready_new.serves.stands.sound.writes.lives d.server z at_z

    -- beside a put that waits on this circuit stands its place
    beside : (b : Put) → CoreWaits z.core.records b → b.circuit ≡ d.at_server
        → (q : PutPlace) × SideWaits z.records q × IsPutOf new.circuits d.server q b × (q.circuit ≡ n)
    beside b p handle =
        let r = core-beside (IsPutOf new.circuits d.server) own.log z.core.records z.records own.life.each b p in
        let put : IsPutOf new.circuits d.server r.0 b = r.2 in
        let opened_then : put.c.lists.server_open ≡ true = own.still_open r.1.1.0 r.1.0 r.0 put.c r.1.1.1 r.1.2 put.on in
        (r.0, r.1, put, sym (ready_new.serves.stands.sound.seated.one n r.0.circuit d put.c on_d put.on (sym put.of) opened_d opened_then (sym handle ∙ put.handle)))

    fresh : length w.circuits ≤ n → PutsHeld z n f d
    fresh late = record {
      busy = λ q b p is. absurd (let lt : q.circuit < length w.circuits = busy-came d.server y z at_y fo q b p in omega (arith, lt, is, late));
      waits = λ b p handle.
          let r = beside b p handle in
          let c = side-came d.server y z at_y fo r.0 r.1 in
          absurd (let lt : r.0.circuit < length w.circuits = At-within w.circuits r.0.circuit c.0 c.1 in
          let is : r.0.circuit ≡ n = r.3 in omega (arith, lt, is, late));
    }

    module _ (h : HeldOn w n f d) where
      y-is : h.y ≡ y
      y-is = At-one w.servers d.server h.y y (subst (λ (i : ℕ). At w.servers i h.y) (sym h.server) h.at) at_y

      was : PutsHeld y n h.e h.c
      was = subst (λ (x : ServerSide). PutsHeld x n h.e h.c) y-is (all n h.c h.y h.e h.on h.at h.opened h.has)

      -- a put that comes by a message is on a channel that was open then
      step-open : (q : PutPlace) (b : Put) (p : StepPut w d.server q b) → p.j ≡ h.c → HasChannel h.e b.channel
      step-open q b p same =
          let there : At w.servers d.server p.y = subst (λ (i : ℕ). At w.servers i p.y) (sym p.of) p.there in
          let side : p.y ≡ h.y = At-one w.servers d.server p.y y there at_y ∙ sym y-is in
          let end : p.e ≡ h.e = one-end h.y.core h.c.at_server p.e h.e (subst (λ (v : ServerSide × Joined). HasEnd v.0.core v.1.at_server p.e) (λ i. (side i, same i)) p.has) h.has in
          (p.ch, subst (λ (x : ServerEnd). under x.channels b.channel ≡ Some p.ch) end p.channel)

      next-open : (i : ℕ) (q : PutPlace) (b : Put) (p : NextPut w d.server q b) → b.circuit ≡ h.c.at_server → HasChannel h.e b.channel
      next-open i q b p handle =
          let side : p.y ≡ y = At-one w.servers d.server p.y y p.there at_y in
          was.waits b (subst (λ (x : ServerSide). CoreWaits x.core.records b) side p.core) handle

      -- a channel that was open is open, or was cleared after this place
      since-open : (q : PutPlace) (b : Put) → q.place ≤ length h.c.lists.handled → HasChannel h.e b.channel
          → HasChannel f b.channel ⊎ IsClearedFrom d q.place (wire_of b.channel)
      since-open q b le there = elim (h.channels b.channel there) [
        | inl now ↦ inl now
        | inr x ↦ (let from : length h.c.lists.handled ≤ x.0 = x.2 in inr (x.0, x.1, omega (arith, le, from), x.3, x.4, x.5))
      ]

      before-of : (i : ℕ) (x : ServerSide) → At w.servers i x → (q : PutPlace) → q.circuit ≡ n
          → ((r : _) → In x.records r → (r.busy ≡ Some q) ⊎ In r.waiting q → q.place ≤ length h.c.lists.handled)
      before-of i x at q is r in_rs put =
          let p = put-facts s w i x q ready_w.serves.stands.sound at (r, in_rs, put) in
          let same : p.c ≡ h.c = At-one w.circuits n p.c h.c (subst (λ (m : ℕ). At w.circuits m p.c) is p.on) h.on in
          let lt : q.place < length p.c.lists.handled = p.handled (subst (λ (v : Joined). v.lists.server_open ≡ true) (sym same) h.opened) in
          let e : length p.c.lists.handled ≡ length h.c.lists.handled = ap (λ (v : Joined). length v.lists.handled) same in
          omega (arith, lt, e)

      going : PutsHeld z n f d
      going = record {
        busy = λ q b p is. elim (fo.busy q b p) [
          | inl old ↦ elim (was.busy q b old is) [
            | inl there ↦ since-open q b (before-of d.server y at_y q is old.r old.in_rs (inl old.side)) there
            | inr x ↦ (let lt : x.0 < length h.c.lists.handled = x.3 in
                let more : length h.c.lists.handled ≤ length d.lists.handled = h.more in inr (x.0, x.1, x.2, omega (arith, lt, more), h.up x.0 x.1 x.4, x.5))
          ]
          | inr (inl step) ↦
              let same : step.j ≡ h.c = At-one w.circuits n step.j h.c (subst (λ (m : ℕ). At w.circuits m step.j) is step.on) h.on in
              let e : q.place ≡ length step.j.lists.handled = step.place in
              let g : length step.j.lists.handled ≡ length h.c.lists.handled = ap (λ (v : Joined). length v.lists.handled) same in
              since-open q b (omega (arith, e, g)) (step-open q b step same)
          | inr (inr next) ↦
              let same : next.is_put.c ≡ h.c = At-one w.circuits n next.is_put.c h.c (subst (λ (m : ℕ). At w.circuits m next.is_put.c) is next.is_put.on) h.on in
              since-open q b (before-of d.server next.y next.there q is next.side.0 next.side.1 (inr next.side.2)) (next-open 0 q b next (next.is_put.handle ∙ ap (λ (v : Joined). v.at_server) same))
        ];
        waits = λ b p handle.
            let r = beside b p handle in
            let c = side-came d.server y z at_y fo r.0 r.1 in
            let same_c : c.0 ≡ h.c = At-one w.circuits n c.0 h.c (subst (λ (m : ℕ). At w.circuits m c.0) r.3 c.1) h.on in
            let le : r.0.place ≤ length h.c.lists.handled = subst (λ (v : Joined). r.0.place ≤ length v.lists.handled) same_c (c.2 (subst (λ (v : Joined). v.lists.server_open ≡ true) (sym same_c) h.opened)) in
            let old_handle : b.circuit ≡ h.c.at_server = handle ∙ h.handle in
            let there : HasChannel h.e b.channel = elim (fo.core b p) [
              | inl old ↦ was.waits b old old_handle
              | inr new_it ↦ elim new_it.1 [
                | inl step ↦ step-open new_it.0 b step (on-one new_it.0 b step (sym step.handle ∙ old_handle))
                | inr next ↦ next-open 0 new_it.0 b next old_handle
              ]
            ] in
            elim (h.channels b.channel there) [
              | inl now ↦ now
              | inr x ↦
                  let q_puts = (ready_new.serves.puts n d z f on_d at_z opened_d has_f).waits r.0 r.1 r.3 in
                  let put : IsPutOf new.circuits d.server r.0 b = r.2 in
                  let one : put.c ≡ d = At-one new.circuits n put.c d (subst (λ (m : ℕ). At new.circuits m put.c) r.3 put.on) on_d in
                  let said : q_puts.0 ≡ put.s = At-one d.lists.up r.0.place q_puts.0 put.s q_puts.1 (subst (λ (v : Joined). At v.lists.up r.0.place put.s) one put.sent) in
                  let sid : wire_of b.channel ≡ q_puts.2.0.sid = put.sid ∙ ap (λ (v : Sent). sid_in v.message) (sym said) ∙ sym q_puts.2.2 in
                  let lt : q_puts.2.0.place < r.0.place = q_puts.2.3 in
                  let from : length h.c.lists.handled ≤ x.0 = x.2 in
                  absurd ((ready_new.creations n d z f on_d at_z opened_d has_f).uncleared q_puts.2.0 x.0 x.1 q_puts.2.1 (omega (arith, lt, le, from)) x.3 x.4 (x.5.0, x.5.1 ∙ sid))
            ];
      }
        where
          on-one : (q : PutPlace) (b : Put) (p : StepPut w d.server q b) → p.j.at_server ≡ h.c.at_server → p.j ≡ h.c
          on-one q b p same =
              let n_is : q.circuit ≡ n = ready_w.serves.stands.sound.seated.one q.circuit n p.j h.c p.on h.on (sym p.of ∙ h.server) p.is_open h.opened same in
              At-one w.circuits n p.j h.c (subst (λ (m : ℕ). At w.circuits m p.j) n_is p.on) h.on

pub event-held : (s : Setting) (w new : World) (e : Event) → Ready s w → Ready s new → Happens w e new → AllHeld w → AllHeld new
event-held s w new e ready_w ready_new happens all n d z f on at opened has =
    elim (puts-follow s w new e (takes-next s w ready_w.serves) ready_w.serves.stands.sound happens.0 happens.1 d.server z at) [
      | inr none ↦ record { busy = λ q b p is. absurd (none.busy q b p); waits = λ b p handle. absurd (none.core b p) }
      | inl fo ↦ elim (event-since s w new e ready_w happens n d z f on at opened has) [
        | inl late ↦ fresh s w new ready_w ready_new all n d z f on at opened has fo.0 fo.1 fo.2 late
        | inr h ↦ going s w new ready_w ready_new all n d z f on at opened has fo.0 fo.1 fo.2 h
      ]
    ]

events-held : (s : Setting) (ok : IsSetting s) (done es : List Event) (w new : World) → FoldsTo Happens (opening s) done w → FoldsTo Happens w es new
    → AllHeld w → AllHeld new
events-held s ok done [] w new before same all = subst (λ (z : World). AllHeld z) same all
events-held s ok done (e ∷ es) w new before (mid, one, rest) all =
    let until : FoldsTo Happens (opening s) (done ++ e ∷ []) mid = folds-snoc done (opening s) w mid e before one in
    events-held s ok (done ++ e ∷ []) es mid new until rest (event-held s w mid e (ready s done None w ok (w, before, refl)) (ready s (done ++ e ∷ []) None mid ok (mid, until, refl)) one all)

-- after every run that no event has stopped
pub run-held : (s : Setting) (es : List Event) (w : World) → IsSetting s → FoldsTo Happens (opening s) es w → AllHeld w
run-held s es w ok folds = events-held s ok [] es (opening s) w refl folds (λ n c y e at. absurd (none_at n c at))
