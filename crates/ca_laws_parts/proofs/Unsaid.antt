-- A step of a server's end that closes its circuit out of memory, after the write of its message
-- was applied, or before.
use Rattle.std.proofs.Common.{◌≡◌, ℕ, ◌<◌, ◌≤◌, ◌⊎◌, inl, inr, Bool, true, false, not, ◌||◌, List, ◌++◌, length, Option, Some, None, refl, sym, ap, subst, ◌∙◌, append_assoc, arith}
use Rattle.std.specs.Prelude.{filter, is_some, map, slice_set, unwrap_or}
use Rattle.std.specs.List.{flat_map}
use Rattle.ca_arena.specs.declared.handle.Handle.{Handle}
use Rattle.ca_dbr.specs.Elements.{Elements}
use Rattle.ca_ids.specs.Table.{same_handle}
use Rattle.ca_link.specs.Link.{with_rest}
use Rattle.ca_model.proofs.Handles.{same-itself}
use Rattle.ca_records.specs.declared.puts.Put.{Put}
use Rattle.ca_records.specs.Puts.{Record, withdrawn}
use Rattle.ca_text.specs.Place.{At}
use Rattle.ca_text.proofs.Places.{some_is, At-map, At-mapped, At-one, At-parts, At-set, At-set-other}
use Rattle.ca_wire.specs.Fields.{Fields}
use Rattle.ca_model.specs.Due.{Action, Applies, Due}
use Rattle.ca_model.specs.Due as action
use Rattle.ca_model.specs.Server.{Server, ServerEnd}
use Rattle.ca_model.specs.ServerSteps.{HasEnd, LeftOf, Next, Reaches, Records, closed, is_write, knows}
use Rattle.ca_model.specs.Speech.{In}
use Rattle.ca_model.specs.History.{Entry, Sent, Step}
use Rattle.ca_model.specs.Channels.{IsTaken}
use Rattle.ca_model.specs.History as history
use Rattle.ca_model.specs.ServerEvents.{StepLacks, acted, ending, ends_at, ends_here, logged_by, numbers_after, records_after, reported, server_after, side_of, unsaid, withdrawals, write_numbers}
use Rattle.ca_model.specs.ServerEvents as event
use Rattle.ca_model.specs.World.{Joined, PutPlace, RecordSide, ServerSide, Setting, World}
use Rattle.ca_laws_parts.specs.Agrees.{Agrees, LoseAll, TestsAgree, WaitsAs}
use Rattle.ca_laws_parts.specs.Lives.{AreLater, AreOpen, CameOn, EndsAgree, IsPutOf, Life, LostOn}
use Rattle.ca_laws_parts.specs.Moves.{EndsOnly, Lives, Moves, WasHandled}
use Rattle.ca_laws_parts.specs.Once.{write_in}
use Rattle.ca_laws_parts.specs.Seats.{Sound, TakesSent}
use Rattle.ca_laws_parts.specs.Taken.{Comes}
use Rattle.ca_laws_parts.proofs.Closing.{closed-keeps, next-stay}
use Rattle.ca_laws_parts.proofs.Cores.{EndsBy, reaches-ends, stay-then, withdrawn-twice}
use Rattle.ca_laws_parts.proofs.WritesEnding.{ending-closed, ending-later, ending-not, ends-at-is}
use Rattle.ca_laws_parts.proofs.WritesEvents.{AreSame, SameEnds, ends-here-only, same-later, same-map, same-trans, same-twice, still-handled}
use Rattle.ca_laws_parts.proofs.Frames.{later-then}
use Rattle.ca_laws_parts.proofs.Going.{life-later}
use Rattle.ca_laws_parts.proofs.Leaving.{agree-gone, flat-in}
use Rattle.ca_laws_parts.proofs.WritesLists.{In-kept, beside-left, beside-right, both-at}
use Rattle.ca_laws_parts.proofs.WritesLives.{waits-there}
use Rattle.ca_laws_parts.proofs.Midway.{grown-back, grown-here, grown-other, set-here}
use Rattle.ca_laws_parts.proofs.Seats.{EndsAt, closed-at, ending-lists, ends-agree, seated-ended, sound-moves}
use Rattle.ca_laws_parts.proofs.Step.{life-write}
use Rattle.ca_laws_parts.proofs.Waited.{WaitsIn, logged-back, numbers-after-same, set-same, waits-back, write-numbers-same}

module _ (g : Setting) (w : World) (k : ℕ) (j : Joined) (y : ServerSide) (e : ServerEnd) (s : Sent) (replies : List Fields) (name : List ℕ) (value : Elements) (busies : Bool) (recorded core : Server) (ends : Joined → Option (List ℕ)) (gone : Handle → Bool) (on_k : At w.circuits k j) (server : At w.servers j.server y) (opened : j.lists.server_open ≡ true) (joins : j.lists.server ≡ y.life) (sent : At j.lists.up (length j.lists.handled) s) (due : Due (knows y.core e) s.message replies (Applies name value busies)) (makes : Records y.core j.at_server e s.message (Applies name value busies) recorded) (is : core.records ≡ withdrawn (λ (p : Put). gone p.circuit) recorded.records) (at_ends : EndsAt j.server y.core core ends gone) (had : (x : ServerEnd) × HasEnd y.core j.at_server x) (ends_k : gone j.at_server ≡ true) (only : (cs : List Joined) → EndsOnly cs j.server ends) (h : Sound g w) where
  abbrev i : ℕ
  i = j.server

  abbrev did : Action
  did = Applies name value busies

  abbrev lost : Put → Bool
  lost p = gone p.circuit

  abbrev p : PutPlace
  p = record { circuit = k; place = length j.lists.handled }

  abbrev own : Lives w i y
  own = h.writes.lives i y server

  abbrev L : List Entry
  L = logged_by y.core j.at_server p did y.records

  abbrev rs1 : List RecordSide
  rs1 = records_after y.core j.at_server p did y.records

  abbrev mid : World
  mid = acted k j y did w

  abbrev side : ServerSide
  side = record y { records = rs1 }

  abbrev G : List Entry
  G = withdrawals (ends_at ends mid.circuits) rs1

  abbrev W : World
  W = server_after i side ends core mid

  abbrev c1 : Joined
  c1 = write_numbers i y.core did (numbers_after p.place did j)

  same-one : SameEnds j c1
  same-one = same-trans j (numbers_after p.place did j) c1 (numbers-after-same p.place did j) (write-numbers-same i y.core did (numbers_after p.place did j))

  same-mid : AreSame w.circuits mid.circuits
  same-mid = same-twice w.circuits (slice_set w.circuits k (numbers_after p.place did j)) mid.circuits (set-same w.circuits k j (numbers_after p.place did j) on_k (numbers-after-same p.place did j)) (same-map (write_numbers i y.core did) (slice_set w.circuits k (numbers_after p.place did j)) (write-numbers-same i y.core did))

  at-mid : At mid.circuits k c1
  at-mid = At-map (write_numbers i y.core did) (slice_set w.circuits k (numbers_after p.place did j)) k (numbers_after p.place did j) (set-here w.circuits k j (numbers_after p.place did j) on_k)

  at-W : At W.circuits k (ending ends c1)
  at-W = At-map (ending ends) mid.circuits k c1 at-mid

  agree : EndsAgree mid.circuits i ends lost
  agree = ends-agree w mid i y (record side { core = reported core }) ends core gone server refl refl same-mid.1 (λ a z at other. At-set-other w.servers i a z side at other) (side, set-here w.servers i y side server) at_ends h.seated

  -- its own circuit ends
  closed-k : (ending ends c1).lists.server_open ≡ false
  closed-k =
      ending-closed ends c1
      (ends-it (at_ends c1 had.0 same-one.server (same-one.is_open ∙ opened) (subst (λ (x : Handle). HasEnd y.core x had.0) (sym same-one.handle) had.1)))
    where
      ends-it : ((is_some (ends c1) ≡ true) × (gone c1.at_server ≡ true)) ⊎ ((is_some (ends c1) ≡ false) × (gone c1.at_server ≡ false) × ((f : ServerEnd) × HasEnd core c1.at_server f)) → is_some (ends c1) ≡ true
      ends-it (inl over) = over.0
      ends-it (inr stays) = absurd (let t : true ≡ false = sym ends_k ∙ ap gone (sym same-one.handle) ∙ stays.1 in cc)

  later-all : AreLater w.circuits W.circuits
  later-all n c at =
      let x = same-mid.0 n c at in
      (ending ends x.0, At-map (ending ends) mid.circuits n x.0 x.1, later-then c x.0 (ending ends x.0) (same-later c x.0 x.2) (ending-later ends x.0))

  logged-mid : At mid.server_logs y.life (own.log ++ L)
  logged-mid = grown-here w.server_logs y.life own.log L own.at

  logged-W : At W.server_logs y.life ((own.log ++ L) ++ G)
  logged-W = grown-here mid.server_logs y.life (own.log ++ L) G logged-mid

  comes : Comes W.circuits i y.life own.log IsTaken j.at_server p s
  comes =
      let l = later-then j c1 (ending ends c1) (same-later j c1 same-one) (ending-later ends c1) in
      let lists = ending-lists ends c1 in
      let handled : (ending ends c1).lists.handled ≡ j.lists.handled = lists.1 ∙ same-one.handled in
      record {
        d = ending ends c1;
        on = at-W;
        of = l.server;
        joins = l.life ∙ joins;
        handle = l.handle;
        sent = l.up p.place s sent;
        untold = λ x told tells. (let lt : length j.lists.handled < length j.lists.handled = h.writes.handled y.life own.log x p own.at told tells j on_k opened in omega (arith, lt));
        taken = inr (ap (λ (hs : List Step). length hs) (sym handled), closed-k, λ a z at. within a z (subst (λ (hs : List Step). At hs a z) handled at));
      }
    where
      within : (a : ℕ) (z : Step) → At j.lists.handled a z → z.after ≤ length own.log
      within a z at =
          let was = h.within k j on_k in
          let log : was.0 ≡ own.log = At-one w.server_logs y.life was.0 own.log (subst (λ (m : ℕ). At w.server_logs m was.0) joins was.1) own.at in
          subst (λ (m : List Entry). z.after ≤ length m) log (was.2 a z at)

  life-one : Life W.circuits i y.life (own.log ++ L) recorded.records rs1 y.added
  unfolding comes
  life-one =
      life-write W.circuits i y.life own.log y.records y.added y.core j.at_server e p s replies name value busies recorded comes due makes
      (life-later w.circuits W.circuits i y.life own.log y.core.records y.records y.added later-all own.life)

  -- a put that waits now, on an open circuit of before
  waits-open : (q : PutPlace) → WaitsIn rs1 q → (c : Joined) × At w.circuits q.circuit c × (c.server ≡ i) × (c.lists.server_open ≡ true)
  waits-open q x = elim (waits-back y.core j.at_server p did y.records q x) [
    | inl same ↦ (j, subst (λ (z : PutPlace). At w.circuits z.circuit j) (sym same) on_k, refl, opened)
    | inr old ↦
        let there = beside-right (Agrees (IsPutOf w.circuits i) own.log) y.core.records y.records old.1.0 old.0 own.life.each old.1.1 in
        let b = beside-left (WaitsAs (IsPutOf w.circuits i) own.log old.0.number) old.0.waiting there.0.waiting old.2.0 q there.2.each old.2.1 in
        (b.2.1.c, b.2.1.on, b.2.1.of, own.still_open old.1.0 old.0 q b.2.1.c old.1.1 old.2 b.2.1.on)
  ]

  tests-two : TestsAgree (λ (q : PutPlace). ends_at ends mid.circuits q.circuit) lost recorded.records rs1
  tests-two a b c r q u in_cs in_rs at there =
      let m = both-at (Agrees (IsPutOf W.circuits i) (own.log ++ L)) recorded.records rs1 a c r life-one.each in_cs in_rs in
      let put = (both-at (WaitsAs (IsPutOf W.circuits i) (own.log ++ L) r.number) r.waiting c.waiting b q u m.each at there).1 in
      let x = waits-open q (r, (a, in_rs), (b, at)) in
      let d = same-mid.0 q.circuit x.0 x.1 in
      let is_it : ending ends d.0 ≡ put.c = At-one W.circuits q.circuit (ending ends d.0) put.c (At-map (ending ends) mid.circuits q.circuit d.0 d.1) put.on in
      let handle : u.put.circuit ≡ d.0.at_server = put.handle ∙ ap (λ (o : Joined). o.at_server) (sym is_it) ∙ (ending-later ends d.0).handle in
      ends-at-is ends mid.circuits q.circuit d.0 d.1 ∙ sym (agree q.circuit d.0 u.put d.1 (d.2.server ∙ x.2) (d.2.is_open ∙ x.3) handle)

  lose-two : LoseAll (LostOn W.circuits) (λ (q : PutPlace). ends_at ends mid.circuits q.circuit) (own.log ++ L) rs1
  lose-two a r q in_rs waits over m le =
      let there = beside-right (Agrees (IsPutOf W.circuits i) (own.log ++ L)) recorded.records rs1 a r life-one.each in_rs in
      let b = beside-left (WaitsAs (IsPutOf W.circuits i) (own.log ++ L) r.number) r.waiting there.0.waiting waits.0 q there.2.each waits.1 in
      let put : IsPutOf W.circuits i q b.0.put = b.2.1 in
      let d = At-mapped (ending ends) mid.circuits q.circuit put.c put.on in
      record {
        c = put.c;
        on = put.on;
        s = put.s;
        sent = put.sent;
        why = inr (ap (λ (o : Joined). o.lists.server_open) d.2 ∙ ending-closed ends d.0 (sym (ends-at-is ends mid.circuits q.circuit d.0 d.1) ∙ over));
      }

  life-two : Life W.circuits i y.life ((own.log ++ L) ++ G) (withdrawn lost recorded.records) (map (event.without_puts (ends_at ends mid.circuits)) rs1) y.added
  life-two = agree-gone (CameOn W.circuits y.life) (LostOn W.circuits) (IsPutOf W.circuits i) (own.log ++ L) recorded.records rs1 y.added (ends_at ends mid.circuits) lost tests-two lose-two life-one

  -- a circuit that was open and does not end is open
  open-now : (n : ℕ) (c d x : Joined) → At mid.circuits n d → SameEnds c d → c.lists.server_open ≡ true → is_some (ends d) ≡ false → At W.circuits n x → x.lists.server_open ≡ true
  open-now n c d x at same is_open stays on =
      let it : ending ends d ≡ x = At-one W.circuits n (ending ends d) x (At-map (ending ends) mid.circuits n d at) on in
      subst (λ (o : Joined). o.lists.server_open ≡ true) (sym (ending-not ends d stays) ∙ it) (same.is_open ∙ is_open)

  not-not : (a b : Bool) → a ≡ b → not a ≡ true → b ≡ false
  not-not true b t n = absurd cc
  not-not false b t n = sym t

  own-open-two : AreOpen W.circuits (map (event.without_puts (ends_at ends mid.circuits)) rs1)
  own-open-two a r q x in_rs waits on =
      let was = At-mapped (event.without_puts (ends_at ends mid.circuits)) rs1 a r in_rs in
      let kept = In-kept (λ (z : PutPlace). not (ends_at ends mid.circuits z.circuit)) was.0.waiting q (subst (λ (z : RecordSide). In z.waiting q) was.2 waits) in
      let c = waits-open q (was.0, (a, was.1), kept.0) in
      let d = same-mid.0 q.circuit c.0 c.1 in
      open-now q.circuit c.0 d.0 x d.1 d.2 c.3 (not-not (ends_at ends mid.circuits q.circuit) (is_some (ends d.0)) (ends-at-is ends mid.circuits q.circuit d.0 d.1) kept.1) on

  others-open-two : (a : ℕ) (z : ServerSide) → At w.servers a z → (a ≡ i → ⊥) → AreOpen W.circuits z.records
  others-open-two a z at other b r q x in_rs waits on =
      let o = h.writes.lives a z at in
      let there = beside-right (Agrees (IsPutOf w.circuits a) o.log) z.core.records z.records b r o.life.each in_rs in
      let u = beside-left (WaitsAs (IsPutOf w.circuits a) o.log r.number) r.waiting there.0.waiting waits.0 q there.2.each waits.1 in
      let c = u.2.1 in
      let d = same-mid.0 q.circuit c.c c.on in
      open-now q.circuit c.c d.0 x d.1 d.2 (o.still_open b r q c.c in_rs waits c.on) (only mid.circuits q.circuit d.0 d.1 (λ is_i. other (sym c.of ∙ sym d.2.server ∙ is_i))) on

  -- what is told now was handled, or its circuit has ended
  waits-handled : (q : PutPlace) → WaitsIn y.records q → WasHandled W.circuits q
  waits-handled q x =
      let there = beside-right (Agrees (IsPutOf w.circuits i) own.log) y.core.records y.records x.1.0 x.0 own.life.each x.1.1 in
      let s2 = waits-there (IsPutOf w.circuits i) own.log there.0 x.0 q there.2 x.2 in
      still-handled w W.circuits y.life own.log (history.Waits q.circuit q.place x.0.number s2.1.v) q h.writes own.at later-all s2.1.came refl

  place-over : WasHandled W.circuits p
  place-over x on is_open =
      let it : ending ends c1 ≡ x = At-one W.circuits k (ending ends c1) x at-W on in
      absurd (let t : true ≡ false = sym is_open ∙ ap (λ (o : Joined). o.lists.server_open) (sym it) ∙ closed-k in cc)

  either-handled : (q : PutPlace) → (q ≡ p) ⊎ WaitsIn y.records q → WasHandled W.circuits q
  either-handled q (inl same) = subst (λ (z : PutPlace). WasHandled W.circuits z) (sym same) place-over
  either-handled q (inr old) = waits-handled q old

  told-handled : (x : Entry) (q : PutPlace) → In (L ++ G) x → write_in x ≡ Some q → WasHandled W.circuits q
  told-handled x q told tells = elim (At-parts L G told.0 x told.1) [
    | inl first ↦ either-handled q (logged-back y.core j.at_server p did y.records x q (told.0, first) tells)
    | inr last ↦
        let m = At-mapped (λ (z : PutPlace). history.Withdrawn z.circuit z.place) (flat_map (λ (r : RecordSide). filter (λ (z : PutPlace). ends_at ends mid.circuits z.circuit) r.waiting) rs1) last.0 x last.2 in
        let same : m.0 ≡ q = some_is m.0 q (ap write_in (sym m.2) ∙ tells) in
        let f = flat-in (λ (r : RecordSide). filter (λ (z : PutPlace). ends_at ends mid.circuits z.circuit) r.waiting) rs1 m.0 (last.0, m.1) in
        let kept = In-kept (λ (z : PutPlace). ends_at ends mid.circuits z.circuit) f.0.waiting m.0 f.2 in
        subst (λ (z : PutPlace). WasHandled W.circuits z) same (either-handled m.0 (waits-back y.core j.at_server p did y.records m.0 (f.0, f.1, kept.0)))
  ]

  abbrev next : ServerSide
  next = record side { core = reported core; records = map (event.without_puts (ends_at ends mid.circuits)) rs1 }

  unsaid-moves : Moves w W i y next own.log (L ++ G)
  unsaid-moves =
      let joined : (own.log ++ L) ++ G ≡ own.log ++ (L ++ G) = append_assoc own.log L G in
      record {
        is = server;
        server = λ a z at. elim (At-set mid.servers i next a z at) [
          | inl new ↦ inl new
          | inr old ↦ elim (At-set w.servers i side a z old.0) [
            | inl same ↦ absurd (old.1 same.0)
            | inr there ↦ inr there
          ]
        ];
        same_life = refl;
        logged = subst (λ (x : List Entry). At W.server_logs y.life x) joined logged-W;
        logs = λ l z at. elim (grown-back mid.server_logs y.life G l z at) [
          | inl same ↦ inl same
          | inr old ↦ grown-back w.server_logs y.life L l z old
        ];
        stay = λ l z at other. grown-other mid.server_logs y.life G l z (grown-other w.server_logs y.life L l z at other) other;
        circuits = later-all;
        life = subst (λ (x : List Entry). Life W.circuits i y.life x core.records next.records y.added) joined
            (subst (λ (x : List Record). Life W.circuits i y.life ((own.log ++ L) ++ G) x next.records y.added) (sym is) life-two);
        own_open = own-open-two;
        others_open = others-open-two;
        handled = told-handled;
      }

  pub unsaid-keeps : Sound g (server_after i (side_of i y mid) ends core mid)
  unsaid-keeps =
      let side_is : side_of i y mid ≡ side = ap (λ (o : Option ServerSide). unwrap_or o y) (set-here w.servers i y side server) in
      subst (λ (x : ServerSide). Sound g (server_after i x ends core mid)) (sym side_is)
      (sound-moves g w W i y next own.log (L ++ G) own.at unsaid-moves
      (λ n x at.
      let u = At-mapped (ending ends) mid.circuits n x at in
      let l = ending-lists ends u.0 in
      let b = same-mid.1 n u.0 u.1 in (
        b.0,
        b.1,
        ap (λ (z : Joined). z.lists.server) u.2 ∙ l.0 ∙ b.2.life,
        λ m z on. inl (subst (λ (o : List Step). At o m z) (ap (λ (z : Joined). z.lists.handled) u.2 ∙ l.1 ∙ b.2.handled) on),
      ))
      refl
      (seated-ended w mid i y side ends core gone server refl same-mid.1 (λ a z at other. At-set-other w.servers i a z side at other) (side, set-here w.servers i y side server) at_ends h.seated) h)

-- ---- a step that lacks memory

or-right : (a b : Bool) → b ≡ true → a || b ≡ true
or-right true b e = refl
or-right false b e = e

written-keeps : (s : Setting) (w : World) (k : ℕ) (j : Joined) (y : ServerSide) (left : List ℕ) (e : ServerEnd) (has : HasEnd y.core j.at_server e) (next : Next y.core j.at_server e) (did : Action) → next.action ≡ did → is_write did ≡ true → (gone : Handle → Bool) (mid : Server) → Reaches did gone next.after mid → At w.circuits k j → At w.servers j.server y → j.lists.server_open ≡ true → TakesSent w → Sound s w
    → Sound s (server_after j.server (side_of j.server y (acted k j y did w)) (ends_here j left j.server (closed j.at_server mid)) (closed j.at_server mid) (acted k j y did w))
written-keeps s w k j y left e has next (Applies name value busies) act writes gone mid reaches at server opened takes h =
    let r = reaches-ends (Applies name value busies) gone next.after mid reaches in
    let by : EndsBy y.core mid gone = stay-then y.core next.after mid gone (next-stay y.core j.at_server e has next) r.0 in
    let sent = takes k j y e next.m next.rest at server opened has next.takes in
    let made = next.handles in
    let d : ServerEnd = record e { link = with_rest next.rest e.link } in
    let seat = h.seated.each k j at opened in
    let own : seat.y ≡ y = At-one w.servers j.server seat.y y seat.at server in
    let core : Server = closed j.at_server mid in
    let due : Due (knows y.core d) next.m next.replies (Applies name value busies) = subst (λ (a : Action). Due (knows y.core d) next.m next.replies a) act made.due in
    let makes : Records y.core j.at_server d next.m (Applies name value busies) made.recorded = subst (λ (a : Action). Records y.core j.at_server d next.m a made.recorded) act made.records in
    unsaid-keeps s w k j y d sent.0 next.replies name value busies made.recorded core (ends_here j left j.server core) (λ (x : Handle). gone x || same_handle x j.at_server) at server opened (seat.joins ∙ ap (λ (z : ServerSide). z.life) own) sent.1
    (subst (λ (m : Fields). Due (knows y.core d) m next.replies (Applies name value busies)) (sym sent.2) due)
    (subst (λ (m : Fields). Records y.core j.at_server d m (Applies name value busies) made.recorded) (sym sent.2) makes)
    (ap (λ (l : List Record). withdrawn (λ (p : Put). same_handle p.circuit j.at_server) l) (r.1 ∙ ap (λ (x : Server). withdrawn (λ (p : Put). gone p.circuit) x.records) made.leaves)
    ∙ withdrawn-twice (λ (p : Put). gone p.circuit) (λ (p : Put). same_handle p.circuit j.at_server) made.recorded.records)
    (closed-at j.server j left y.core mid gone by) (e, has) (or-right (gone j.at_server) (same_handle j.at_server j.at_server) (same-itself j.at_server))
    (λ cs. ends-here-only cs j left j.server core) h
written-keeps s w k j y left e has next (action.Waits name value) act writes gone mid reaches at server opened takes h = absurd cc
written-keeps s w k j y left e has next (action.Clears sid) act writes gone mid reaches at server opened takes h = absurd cc
written-keeps s w k j y left e has next action.Nothing act writes gone mid reaches at server opened takes h = absurd cc
written-keeps s w k j y left e has next action.Greets act writes gone mid reaches at server opened takes h = absurd cc
written-keeps s w k j y left e has next (action.Names x) act writes gone mid reaches at server opened takes h = absurd cc
written-keeps s w k j y left e has next (action.Opens x) act writes gone mid reaches at server opened takes h = absurd cc
written-keeps s w k j y left e has next (action.Adds x) act writes gone mid reaches at server opened takes h = absurd cc
written-keeps s w k j y left e has next (action.Drops x) act writes gone mid reaches at server opened takes h = absurd cc
written-keeps s w k j y left e has next (action.Switches x) act writes gone mid reaches at server opened takes h = absurd cc

pub lacks-keeps : (s : Setting) (w new : World) (k : ℕ) (j : Joined) (y : ServerSide) (left : List ℕ) → At w.circuits k j → At w.servers j.server y → j.lists.server_open ≡ true → TakesSent w → StepLacks w k j y left new → Sound s w → Sound s new
lacks-keeps s w new k j y left at server opened takes f h = subst (λ (z : World). Sound s z) (sym f.leaves) (go f.lacks.written f.core f.lacks.mid f.lacks.left_is f.lacks.leaves)
  where
    next : Next y.core j.at_server f.e
    next = f.lacks.next

    go : (o : Option (Handle → Bool)) (core made : Server) → LeftOf next o made → core ≡ closed j.at_server made
        → Sound s (server_after j.server (side_of j.server y (unsaid k j y f.lacks.next.action o w)) (ends_here j left j.server core) core (unsaid k j y f.lacks.next.action o w))
    go None core made same is =
        let side_is : side_of j.server y w ≡ y = ap (λ (o : Option ServerSide). unwrap_or o y) server in
        let core_is : core ≡ closed j.at_server y.core = is ∙ ap (λ (x : Server). closed j.at_server x) same in
        subst (λ (x : ServerSide). Sound s (server_after j.server x (ends_here j left j.server core) core w)) (sym side_is)
        (subst (λ (x : Server). Sound s (server_after j.server y (ends_here j left j.server x) x w)) (sym core_is) (closed-keeps s w k j y left server h))
    go (Some gone) core made wrote is =
        subst (λ (x : Server). Sound s (server_after j.server (side_of j.server y (acted k j y f.lacks.next.action w)) (ends_here j left j.server x) x (acted k j y f.lacks.next.action w))) (sym is)
        (written-keeps s w k j y left f.e f.has f.lacks.next f.lacks.next.action refl wrote.0 gone made wrote.1 at server opened takes h)
