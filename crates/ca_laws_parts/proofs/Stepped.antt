-- A step of a server's end in a world: its message is handled, circuits end, and the step is noted.
use Rattle.std.proofs.Common.{◌≡◌, ℕ, ◌+◌, ◌<◌, ◌≤◌, ◌⊎◌, inl, inr, Bool, true, false, not, List, [], ◌∷◌, ◌++◌, length, Option, Some, None, refl, sym, ap, subst, ◌∙◌, append_assoc, arith}
use Rattle.std.specs.Prelude.{filter, is_some, map, option_map, slice_set, unwrap_or}
use Rattle.std.specs.List.{flat_map}
use Rattle.std.proofs.lemmas.List.{length-append}
use Rattle.ca_arena.specs.declared.handle.Handle.{Handle}
use Rattle.ca_text.specs.Place.{At}
use Rattle.ca_text.proofs.Places.{some_is, At-append, At-last, At-map, At-mapped, At-one, At-parts, At-set, At-set-other, At-snoc}
use Rattle.ca_records.specs.declared.puts.Put.{Put}
use Rattle.ca_records.specs.Puts.{Record, withdrawn}
use Rattle.ca_wire.specs.Fields.{Fields}
use Rattle.ca_model.specs.Due.{Action, Due}
use Rattle.ca_model.specs.Server.{Server, ServerEnd}
use Rattle.ca_model.specs.ServerSteps.{Records, knows}
use Rattle.ca_model.specs.Speech.{In}
use Rattle.ca_model.specs.History.{Entry, Sent, Step}
use Rattle.ca_model.specs.History as history
use Rattle.ca_model.specs.ServerEvents.{acted, ending, ends_at, ends_by, handled_at, logged_by, noted, numbers_after, records_after, reported, server_after, side_of, withdrawals, write_numbers}
use Rattle.ca_model.specs.ServerEvents as event
use Rattle.ca_model.specs.World.{Joined, PutPlace, RecordSide, ServerSide, Setting, World, log_length, with_circuit}
use Rattle.ca_laws_parts.specs.Agrees.{Agrees, LoseAll, TestsAgree, WaitsAs}
use Rattle.ca_laws_parts.specs.Lives.{AreLater, AreOpen, CameOn, IsPutOf, Later, Life, LostOn}
use Rattle.ca_laws_parts.specs.Moves.{Lives, Moves, WasHandled, Writes}
use Rattle.ca_laws_parts.specs.Once.{write_in}
use Rattle.ca_laws_parts.specs.Taken.{Handling, Takes}
use Rattle.ca_laws_parts.proofs.WritesEnding.{ending-closed, ending-later, ending-not, ends-at-is}
use Rattle.ca_laws_parts.proofs.WritesEvents.{AreSame, SameEnds, are-later, ends-only, same-map, same-twice, still-handled}
use Rattle.ca_laws_parts.proofs.Going.{life-later}
use Rattle.ca_laws_parts.proofs.Midway.{grown-back, grown-here, grown-other, set-here}
use Rattle.ca_laws_parts.proofs.Leaving.{agree-gone, flat-in}
use Rattle.ca_laws_parts.proofs.WritesLists.{In-kept, both-at, beside-left, beside-right}
use Rattle.ca_laws_parts.proofs.WritesLives.{waits-there}
use Rattle.ca_laws_parts.proofs.WritesMoves.{moves-keep, same-or}
use Rattle.ca_laws_parts.proofs.Step.{life-step}
use Rattle.ca_laws_parts.proofs.Waited.{WaitsIn, ends-same, logged-back, numbers-after-same, set-same, waits-back, write-numbers-same}
use Rattle.ca_laws_parts.proofs.Seats.{ending-lists, ends-by-at, seated-ended, sound-moves}
use Rattle.ca_laws_parts.proofs.Frames.{seated-like}
use Rattle.ca_laws_parts.specs.Seats.{Seated, Sound}
use Rattle.ca_laws_parts.proofs.Cores.{EndsBy}
use Rattle.ca_model.specs.Due.{KnownRecord}
use Rattle.ca_model.specs.Due as action
use Rattle.ca_model.specs.ServerSteps.{stored_now}
use Rattle.ca_model.specs.History.{Told}
use Rattle.ca_model.specs.ServerEvents.{about}
use Rattle.ca_laws_parts.specs.Lives.{AreSlow, SaysSo}
use Rattle.ca_laws_parts.proofs.WritesEvents.{found, same-later, same-trans}
use Rattle.ca_laws_parts.proofs.Frames.{later-then}
use Rattle.ca_laws_parts.proofs.Grown.{Quiet, ending-down, grew-ended, numbers-after-down, quiet-down, quiet-then, set-back, write-numbers-down}
use Rattle.ca_laws_parts.proofs.Says.{Grew, IsNew, logs-grown}
use Rattle.ca_laws_parts.proofs.Step.{known-one}
use Rattle.ca_laws_parts.proofs.WritesTold.{due-done, due-failed}
use Rattle.ca_laws_parts.proofs.WritesLists.{none_at}
use Rattle.ca_text.proofs.Places.{At-after}

-- ---- the step

module _ (w : World) (k : ℕ) (j : Joined) (y : ServerSide) (e : ServerEnd) (s : Sent) (replies : List Fields) (did : Action) (recorded core : Server) (lost : Put → Bool) (f : Handling w k j y core lost s) (due : Due (knows y.core e) s.message replies did) (makes : Records y.core j.at_server e s.message did recorded) (is : core.records ≡ withdrawn lost recorded.records) (h : Writes w) where
  abbrev i : ℕ
  i = j.server

  abbrev p : PutPlace
  p = record { circuit = k; place = length j.lists.handled }

  abbrev own : Lives w i y
  own = h.lives i y f.server

  abbrev L : List Entry
  L = logged_by y.core j.at_server p did y.records

  abbrev rs1 : List RecordSide
  rs1 = records_after y.core j.at_server p did y.records

  abbrev mid : World
  mid = acted k j y did w

  abbrev side : ServerSide
  side = record y { records = rs1 }

  abbrev ends : Joined → Option (List ℕ)
  ends = ends_by i core

  abbrev G : List Entry
  G = withdrawals (ends_at ends mid.circuits) rs1

  abbrev W : World
  W = server_after i side ends core mid

  abbrev c1 : Joined
  c1 = write_numbers i y.core did (numbers_after p.place did j)

  abbrev cE : Joined
  cE = ending ends c1

  abbrev step : Step
  step = record { sent = length j.lists.down; logged = log_length y.life w.server_logs; after = log_length y.life W.server_logs }

  abbrev d : Joined
  d = handled_at p.place step replies cE

  abbrev V : World
  V = with_circuit k d W

  same-one : SameEnds j c1
  same-one =
      let a = numbers-after-same p.place did j in
      let b = write-numbers-same i y.core did (numbers_after p.place did j) in
      record { server = b.server ∙ a.server; handle = b.handle ∙ a.handle; life = b.life ∙ a.life; up = b.up ∙ a.up; handled = b.handled ∙ a.handled; is_open = b.is_open ∙ a.is_open }

  same-mid : AreSame w.circuits mid.circuits
  same-mid = same-twice w.circuits (slice_set w.circuits k (numbers_after p.place did j)) mid.circuits (set-same w.circuits k j (numbers_after p.place did j) f.at (numbers-after-same p.place did j)) (same-map (write_numbers i y.core did) (slice_set w.circuits k (numbers_after p.place did j)) (write-numbers-same i y.core did))

  at-mid : At mid.circuits k c1
  at-mid = At-map (write_numbers i y.core did) (slice_set w.circuits k (numbers_after p.place did j)) k (numbers_after p.place did j) (set-here w.circuits k j (numbers_after p.place did j) f.at)

  at-W : At W.circuits k cE
  at-W = At-map (ending ends) mid.circuits k c1 at-mid

  stays-one : is_some (ends c1) ≡ false
  stays-one = ends-same i core j c1 same-one ∙ f.stays

  is-one : cE ≡ c1
  is-one = ending-not ends c1 stays-one

  at-V : At V.circuits k d
  at-V = set-here W.circuits k cE d at-W

  open-d : d.lists.server_open ≡ true
  open-d = ap (λ (x : Joined). x.lists.server_open) is-one ∙ same-one.is_open ∙ f.still_open

  handled-d : d.lists.handled ≡ j.lists.handled ++ step ∷ []
  handled-d = ap (λ (x : Joined). x.lists.handled ++ step ∷ []) is-one ∙ ap (λ (l : List Step). l ++ step ∷ []) same-one.handled

  later-d : Later j d
  later-d = record {
    server = ap (λ (x : Joined). x.server) is-one ∙ same-one.server;
    handle = ap (λ (x : Joined). x.at_server) is-one ∙ same-one.handle;
    life = ap (λ (x : Joined). x.lists.server) is-one ∙ same-one.life;
    up = λ n x at. subst (λ (l : List Sent). At l n x) (sym (ap (λ (x : Joined). x.lists.up) is-one ∙ same-one.up)) at;
    handled = λ n x at. subst (λ (l : List Step). At l n x) (sym handled-d) (At-append j.lists.handled (step ∷ []) n x at);
    ended = λ shut. absurd (let b : true ≡ false = sym f.still_open ∙ shut in cc);
  }

  -- what a circuit of before is now: the circuit of the step, or one that ends or not
  now-is : (n : ℕ) (c : Joined) → At w.circuits n c → ((n ≡ k) × (c ≡ j)) ⊎ ((x : Joined) × At mid.circuits n x × SameEnds c x × At V.circuits n (ending ends x) × (n ≡ k → ⊥))
  now-is n c at = elim (same-or n k) [
    | inl same ↦ inl (same, At-one w.circuits k c j (subst (λ (m : ℕ). At w.circuits m c) same at) f.at)
    | inr other ↦ (let x = same-mid.0 n c at in inr (x.0, x.1, x.2, At-set-other W.circuits k n (ending ends x.0) d (At-map (ending ends) mid.circuits n x.0 x.1) other, other))
  ]

  later-all : AreLater w.circuits V.circuits
  later-all n c at = elim (now-is n c at) [
    | inl same ↦ (d, subst (λ (m : ℕ). At V.circuits m d) (sym same.0) at-V, subst (λ (z : Joined). Later z d) (sym same.1) later-d)
    | inr x ↦ (let a = are-later w.circuits mid.circuits same-mid n c at in let same : a.0 ≡ x.0 = At-one mid.circuits n a.0 x.0 a.1 x.1 in let b = ending-later ends x.0 in let l : Later c x.0 = subst (λ (z : Joined). Later c z) same a.2 in (
      ending ends x.0,
      x.3,
      record {
        server = b.server ∙ l.server;
        handle = b.handle ∙ l.handle;
        life = b.life ∙ l.life;
        up = λ m z h2. b.up m z (l.up m z h2);
        handled = λ m z h2. b.handled m z (l.handled m z h2);
        ended = λ shut. (let u = l.ended shut in let v = b.ended u.0 in (v.0, v.1 ∙ u.1));
      },
    ))
  ]

  logged-mid : At mid.server_logs y.life (own.log ++ L)
  logged-mid = grown-here w.server_logs y.life own.log L own.at

  logged-W : At W.server_logs y.life ((own.log ++ L) ++ G)
  logged-W = grown-here mid.server_logs y.life (own.log ++ L) G logged-mid

  length-now : step.logged ≡ length own.log
  length-now = ap (λ (o : Option (List Entry)). length (unwrap_or o [])) own.at

  length-after : step.after ≡ length own.log + length L + length G
  length-after =
      ap (λ (o : Option (List Entry)). length (unwrap_or o [])) logged-W
      ∙ length-append (own.log ++ L) G
      ∙ ap (λ (n : ℕ). n + length G) (length-append own.log L)

  -- a put that waits now, and waited on an open circuit
  waits-open : (q : PutPlace) → WaitsIn rs1 q → (c : Joined) × At w.circuits q.circuit c × (c.server ≡ i) × (c.lists.server_open ≡ true)
  waits-open q x = elim (waits-back y.core j.at_server p did y.records q x) [
    | inl same ↦ (j, subst (λ (z : PutPlace). At w.circuits z.circuit j) (sym same) f.at, refl, f.still_open)
    | inr old ↦
        let there = beside-right (Agrees (IsPutOf w.circuits i) own.log) y.core.records y.records old.1.0 old.0 own.life.each old.1.1 in
        let b = beside-left (WaitsAs (IsPutOf w.circuits i) own.log old.0.number) old.0.waiting there.0.waiting old.2.0 q there.2.each old.2.1 in
        (b.2.1.c, b.2.1.on, b.2.1.of, own.still_open old.1.0 old.0 q b.2.1.c old.1.1 old.2 b.2.1.on)
  ]

  takes : Takes V.circuits i y.life own.log y.records j.at_server p s
  takes = record {
    d = d;
    on = at-V;
    of = later-d.server;
    joins = later-d.life ∙ f.joins;
    handle = later-d.handle;
    sent = later-d.up p.place s f.sent;
    step = step;
    handled = subst (λ (l : List Step). At l p.place step) (sym handled-d) (At-last j.lists.handled step);
    logged = length-now;
    untold = λ x told tells. (let lt : length j.lists.handled < length j.lists.handled = h.handled y.life own.log x p own.at told tells j f.at f.still_open in omega (arith, lt));
    before = λ a r q c in_rs waits on on_it.
        let there = beside-right (Agrees (IsPutOf w.circuits i) own.log) y.core.records y.records a r own.life.each in_rs in
        let b = beside-left (WaitsAs (IsPutOf w.circuits i) own.log r.number) r.waiting there.0.waiting waits.0 q there.2.each waits.1 in
        let c0 = b.2.1.c in
        let x = later-all q.circuit c0 b.2.1.on in
        let same : x.0 ≡ c = At-one V.circuits q.circuit x.0 c x.1 on in
        let handle : c0.at_server ≡ j.at_server = sym x.2.handle ∙ ap (λ (z : Joined). z.at_server) same ∙ on_it in
        let opened = own.still_open a r q c0 in_rs waits b.2.1.on in
        let at_k : q.circuit ≡ k = f.one q.circuit c0 b.2.1.on b.2.1.of opened handle in
        let told = b.2.0 in
        let lt : q.place < length c0.lists.handled = h.handled y.life own.log (history.Waits q.circuit q.place r.number told.v) q own.at told.came refl c0 b.2.1.on opened in
        let it : c0 ≡ j = At-one w.circuits k c0 j (subst (λ (m : ℕ). At w.circuits m c0) at_k b.2.1.on) f.at in
        (at_k, subst (λ (z : Joined). q.place < length z.lists.handled) it lt);
  }

  grows : step.logged + length L ≤ step.after
  grows = (let a : step.logged ≡ length own.log = length-now in let b : step.after ≡ length own.log + length L + length G = length-after in omega (arith, a, b))

  life-one : Life V.circuits i y.life (own.log ++ L) recorded.records rs1 y.added
  unfolding takes
  life-one =
      life-step V.circuits i y.life own.log y.records y.added y.core j.at_server e p s replies did recorded takes grows
      due makes (life-later w.circuits V.circuits i y.life own.log y.core.records y.records y.added later-all own.life)

  -- whether a put that waits is gone
  gone-is : (q : PutPlace) (c : Joined) → At w.circuits q.circuit c → ends_at ends mid.circuits q.circuit ≡ is_some (ends c)
  gone-is q c on =
      let x = same-mid.0 q.circuit c on in
      ends-at-is ends mid.circuits q.circuit x.0 x.1 ∙ ends-same i core c x.0 x.2

  tests-two : TestsAgree (λ (q : PutPlace). ends_at ends mid.circuits q.circuit) lost recorded.records rs1
  tests-two a b c r q u in_cs in_rs at there =
      let g = both-at (Agrees (IsPutOf V.circuits i) (own.log ++ L)) recorded.records rs1 a c r life-one.each in_cs in_rs in
      let put = (both-at (WaitsAs (IsPutOf V.circuits i) (own.log ++ L) r.number) r.waiting c.waiting b q u g.each at there).1 in
      let x = waits-open q (r, (a, in_rs), (b, at)) in
      let z = later-all q.circuit x.0 x.1 in
      let same : z.0 ≡ put.c = At-one V.circuits q.circuit z.0 put.c z.1 put.on in
      let handle : u.put.circuit ≡ x.0.at_server = put.handle ∙ ap (λ (o : Joined). o.at_server) (sym same) ∙ z.2.handle in
      gone-is q x.0 x.1 ∙ sym (f.agree q.circuit x.0 u.put x.1 x.2 x.3 handle)

  lose-two : LoseAll (LostOn V.circuits) (λ (q : PutPlace). ends_at ends mid.circuits q.circuit) (own.log ++ L) rs1
  lose-two a r q in_rs waits gone m le =
      let there = beside-right (Agrees (IsPutOf V.circuits i) (own.log ++ L)) recorded.records rs1 a r life-one.each in_rs in
      let b = beside-left (WaitsAs (IsPutOf V.circuits i) (own.log ++ L) r.number) r.waiting there.0.waiting waits.0 q there.2.each waits.1 in
      let put : IsPutOf V.circuits i q b.0.put = b.2.1 in
      let x = waits-open q (r, (a, in_rs), waits) in
      let ended : is_some (ends x.0) ≡ true = sym (gone-is q x.0 x.1) ∙ gone in
      record {
        c = put.c;
        on = put.on;
        s = put.s;
        sent = put.sent;
        why = inr (elim (now-is q.circuit x.0 x.1) [
          | inl same ↦ absurd (let no_end : is_some (ends x.0) ≡ false = ap (λ (o : Joined). is_some (ends o)) same.1 ∙ f.stays in let t : true ≡ false = sym ended ∙ no_end in cc)
          | inr z ↦
              let shut : (ending ends z.0).lists.server_open ≡ false = ending-closed ends z.0 (ends-same i core x.0 z.0 z.2 ∙ ended) in
              let it : ending ends z.0 ≡ put.c = At-one V.circuits q.circuit (ending ends z.0) put.c z.3 put.on in
              subst (λ (o : Joined). o.lists.server_open ≡ false) it shut
        ]);
      }

  life-two : Life V.circuits i y.life ((own.log ++ L) ++ G) (withdrawn lost recorded.records) (map (event.without_puts (ends_at ends mid.circuits)) rs1) y.added
  life-two = agree-gone (CameOn V.circuits y.life) (LostOn V.circuits) (IsPutOf V.circuits i) (own.log ++ L) recorded.records rs1 y.added (ends_at ends mid.circuits) lost tests-two lose-two life-one

  -- a circuit that was open and does not end is open
  open-now : (n : ℕ) (c x : Joined) → At w.circuits n c → c.lists.server_open ≡ true → is_some (ends c) ≡ false → At V.circuits n x → x.lists.server_open ≡ true
  open-now n c x at opened stays on = elim (now-is n c at) [
    | inl same ↦ subst (λ (o : Joined). o.lists.server_open ≡ true) (At-one V.circuits k d x at-V (subst (λ (m : ℕ). At V.circuits m x) same.0 on)) open-d
    | inr z ↦
        let none : is_some (ends z.0) ≡ false = ends-same i core c z.0 z.2 ∙ stays in
        let it : ending ends z.0 ≡ x = At-one V.circuits n (ending ends z.0) x z.3 on in
        subst (λ (o : Joined). o.lists.server_open ≡ true) (sym (ending-not ends z.0 none) ∙ it) (z.2.is_open ∙ opened)
  ]

  not-not : (a b : Bool) → a ≡ b → not a ≡ true → b ≡ false
  not-not true b t n = absurd cc
  not-not false b t n = sym t

  own-open-two : AreOpen V.circuits (map (event.without_puts (ends_at ends mid.circuits)) rs1)
  own-open-two a r q x in_rs waits on =
      let was = At-mapped (event.without_puts (ends_at ends mid.circuits)) rs1 a r in_rs in
      let kept = In-kept (λ (z : PutPlace). not (ends_at ends mid.circuits z.circuit)) was.0.waiting q (subst (λ (z : RecordSide). In z.waiting q) was.2 waits) in
      let c = waits-open q (was.0, (a, was.1), kept.0) in
      open-now q.circuit c.0 x c.1 c.3 (not-not (ends_at ends mid.circuits q.circuit) (is_some (ends c.0)) (gone-is q c.0 c.1) kept.1) on

  others-open-two : (a : ℕ) (z : ServerSide) → At w.servers a z → (a ≡ i → ⊥) → AreOpen V.circuits z.records
  others-open-two a z at other b r q x in_rs waits on =
      let o = h.lives a z at in
      let there = beside-right (Agrees (IsPutOf w.circuits a) o.log) z.core.records z.records b r o.life.each in_rs in
      let u = beside-left (WaitsAs (IsPutOf w.circuits a) o.log r.number) r.waiting there.0.waiting waits.0 q there.2.each waits.1 in
      let c = u.2.1 in
      open-now q.circuit c.c x c.on (o.still_open b r q c.c in_rs waits c.on) (ends-only w.circuits i core q.circuit c.c c.on (λ is_i. other (sym c.of ∙ is_i))) on

  -- what is told now was handled
  waits-handled : (q : PutPlace) → WaitsIn y.records q → WasHandled V.circuits q
  waits-handled q x =
      let there = beside-right (Agrees (IsPutOf w.circuits i) own.log) y.core.records y.records x.1.0 x.0 own.life.each x.1.1 in
      let s2 = waits-there (IsPutOf w.circuits i) own.log there.0 x.0 q there.2 x.2 in
      still-handled w V.circuits y.life own.log (history.Waits q.circuit q.place x.0.number s2.1.v) q h own.at later-all s2.1.came refl

  place-handled : WasHandled V.circuits p
  place-handled x on opened =
      let it : d ≡ x = At-one V.circuits k d x at-V on in
      let len : length d.lists.handled ≡ length j.lists.handled + 1 = ap (λ (l : List Step). length l) handled-d ∙ length-append j.lists.handled (step ∷ []) in
      subst (λ (o : Joined). length j.lists.handled < length o.lists.handled) it (omega (arith, len))

  either-handled : (q : PutPlace) → (q ≡ p) ⊎ WaitsIn y.records q → WasHandled V.circuits q
  either-handled q (inl same) = subst (λ (z : PutPlace). WasHandled V.circuits z) (sym same) place-handled
  either-handled q (inr old) = waits-handled q old

  told-handled : (x : Entry) (q : PutPlace) → In (L ++ G) x → write_in x ≡ Some q → WasHandled V.circuits q
  told-handled x q told tells = elim (At-parts L G told.0 x told.1) [
    | inl first ↦ either-handled q (logged-back y.core j.at_server p did y.records x q (told.0, first) tells)
    | inr last ↦
        let m = At-mapped (λ (z : PutPlace). history.Withdrawn z.circuit z.place) (flat_map (λ (r : RecordSide). filter (λ (z : PutPlace). ends_at ends mid.circuits z.circuit) r.waiting) rs1) last.0 x last.2 in
        let same : m.0 ≡ q = some_is m.0 q (ap write_in (sym m.2) ∙ tells) in
        let g = flat-in (λ (r : RecordSide). filter (λ (z : PutPlace). ends_at ends mid.circuits z.circuit) r.waiting) rs1 m.0 (last.0, m.1) in
        let kept = In-kept (λ (z : PutPlace). ends_at ends mid.circuits z.circuit) g.0.waiting m.0 g.2 in
        subst (λ (z : PutPlace). WasHandled V.circuits z) same (either-handled m.0 (waits-back y.core j.at_server p did y.records m.0 (g.0, g.1, kept.0)))
  ]

  abbrev next : ServerSide
  next = record side { core = reported core; records = map (event.without_puts (ends_at ends mid.circuits)) rs1 }

  step-moves : Moves w V i y next own.log (L ++ G)
  step-moves =
      let joined : (own.log ++ L) ++ G ≡ own.log ++ (L ++ G) = append_assoc own.log L G in
      record {
        is = f.server;
        server = λ a z at. elim (At-set mid.servers i next a z at) [
          | inl new ↦ inl new
          | inr old ↦ elim (At-set w.servers i side a z old.0) [
            | inl same ↦ absurd (old.1 same.0)
            | inr there ↦ inr there
          ]
        ];
        same_life = refl;
        logged = subst (λ (x : List Entry). At V.server_logs y.life x) joined logged-W;
        logs = λ l z at. elim (grown-back mid.server_logs y.life G l z at) [
          | inl same ↦ inl same
          | inr old ↦ grown-back w.server_logs y.life L l z old
        ];
        stay = λ l z at other. grown-other mid.server_logs y.life G l z (grown-other w.server_logs y.life L l z at other) other;
        circuits = later-all;
        life = subst (λ (x : List Entry). Life V.circuits i y.life x core.records next.records y.added) joined
            (subst (λ (x : List Record). Life V.circuits i y.life ((own.log ++ L) ++ G) x next.records y.added) (sym is) life-two);
        own_open = own-open-two;
        others_open = others-open-two;
        handled = told-handled;
      }

  -- the world that is noted
  step-is : noted k j y replies w (server_after i (side_of i y mid) ends core mid) ≡ V
  step-is =
      let side_is : side_of i y mid ≡ side = ap (λ (o : Option ServerSide). unwrap_or o y) (set-here w.servers i y side f.server) in
      let noted_is : noted k j y replies w W ≡ V = ap (λ (o : Option Joined). unwrap_or (option_map (λ (c : Joined). with_circuit k (handled_at (length j.lists.handled) step replies c) W) o) W) at-W in
      subst (λ (x : ServerSide). noted k j y replies w (server_after i x ends core mid) ≡ V) (sym side_is) noted_is

  -- A step that handles a message keeps what holds of writes.
  pub writes-step : Writes (noted k j y replies w (server_after i (side_of i y mid) ends core mid))
  writes-step = subst (λ (x : World). Writes x) (sym step-is) (moves-keep w V i y next own.log (L ++ G) own.at step-moves h)

  -- And what holds of the servers' ends.
  pub sound-step : (s : Setting) → Sound s w → (gone : Handle → Bool) → EndsBy y.core core gone → Sound s (noted k j y replies w (server_after i (side_of i y mid) ends core mid))
  sound-step g sound gone by = subst (λ (x : World). Sound g x) (sym step-is) (sound-moves g w V i y next own.log (L ++ G) own.at step-moves back refl seated sound)
    where
      seated : Seated V
      seated =
          seated-like W V refl
          (λ n x at. elim (At-set W.circuits k d n x at) [
            | inl new ↦ (cE, subst (λ (m : ℕ). At W.circuits m cE) (sym new.0) at-W, ap (λ (z : Joined). z.server) new.1, ap (λ (z : Joined). z.at_server) new.1, ap (λ (z : Joined). z.lists.server) new.1, ap (λ (z : Joined). z.lists.server_open) new.1)
            | inr old ↦ (x, old.0, refl, refl, refl, refl)
          ])
          (seated-ended w mid i y side ends core gone f.server refl same-mid.1 (λ a z at other. At-set-other w.servers i a z side at other) (side, set-here w.servers i y side f.server) (ends-by-at i y.core core gone by) sound.seated)

      back : (n : ℕ) (x : Joined) → At V.circuits n x → (c : Joined) × At w.circuits n c × (x.lists.server ≡ c.lists.server)
          × ((m : ℕ) (z : Step) → At x.lists.handled m z → At c.lists.handled m z ⊎ ((x.lists.server ≡ y.life) × (z.after ≤ length (own.log ++ (L ++ G)))))
      back n x at = elim (At-set W.circuits k d n x at) [
        | inl new ↦ (
          j,
          subst (λ (m : ℕ). At w.circuits m j) (sym new.0) f.at,
          ap (λ (z : Joined). z.lists.server) new.1 ∙ later-d.life,
          λ m z on. elim (At-snoc j.lists.handled step m z (subst (λ (l : List Step). At l m z) (ap (λ (o : Joined). o.lists.handled) new.1 ∙ handled-d) on)) [
            | inl old ↦ inl old
            | inr last ↦ inr (
              ap (λ (o : Joined). o.lists.server) new.1 ∙ later-d.life ∙ f.joins,
              (let a : z.after ≡ step.after = ap (λ (o : Step). o.after) last.1 in
                  let b : step.after ≡ length own.log + length L + length G = length-after in
                  let c : length (own.log ++ (L ++ G)) ≡ length own.log + length (L ++ G) = length-append own.log (L ++ G) in
                  let e2 : length (L ++ G) ≡ length L + length G = length-append L G in
                  omega (arith, a, b, c, e2)),
            )
          ],
        )
        | inr old ↦
            let u = At-mapped (ending ends) mid.circuits n x old.0 in
            let l = ending-lists ends u.0 in
            let b = same-mid.1 n u.0 u.1 in (
              b.0,
              b.1,
              ap (λ (z : Joined). z.lists.server) u.2 ∙ l.0 ∙ b.2.life,
              λ m z on. inl (subst (λ (o : List Step). At o m z) (ap (λ (z : Joined). z.lists.handled) u.2 ∙ l.1 ∙ b.2.handled) on),
            )
      ]

  -- ---- its replies

  -- only slow records are busy
  slow-known : AreSlow (knows y.core e)
  slow-known name r named busy =
      let c = known-one y.core.records name r named in
      let found_it = found (IsPutOf w.circuits i) own.log y.core.records y.records name c.0 own.life.each c.1 in
      let b = some-put c.0.busy (ap (λ (z : KnownRecord). z.busy) c.2 ∙ busy) in
      ap (λ (z : KnownRecord). z.state.slow) (sym c.2) ∙ found_it.agrees.slow b.0 b.1
    where
      some-put : (o : Option Put) → is_some o ≡ true → (b : Put) × (o ≡ Some b)
      some-put None is_it = absurd cc
      some-put (Some b) is_it = (b, refl)

  -- the log did not tell of the message's place
  untold : (x : Entry) → In own.log x → write_in x ≡ Some p → ⊥
  untold x told tells = (let lt : length j.lists.handled < length j.lists.handled = h.handled y.life own.log x p own.at told tells j f.at f.still_open in omega (arith, lt))

  -- if nothing is done, it does not tell of it now
  still-untold : did ≡ action.Nothing → (x : Entry) → In (own.log ++ (L ++ G)) x → write_in x ≡ Some p → ⊥
  still-untold nothing x told tells = elim (At-parts own.log (L ++ G) told.0 x told.1) [
    | inl old ↦ untold x (told.0, old) tells
    | inr new ↦ elim (At-parts L G new.0 x new.2) [
      | inl first ↦ none_at new.0 x (subst (λ (a : Action). At (logged_by y.core j.at_server p a y.records) new.0 x) nothing first)
      | inr last ↦
          let m = At-mapped (λ (z : PutPlace). history.Withdrawn z.circuit z.place) (flat_map (λ (r : RecordSide). filter (λ (z : PutPlace). ends_at ends mid.circuits z.circuit) r.waiting) rs1) last.0 x last.2 in
          let same : m.0 ≡ p = some_is m.0 p (ap write_in (sym m.2) ∙ tells) in
          let g = flat-in (λ (r : RecordSide). filter (λ (z : PutPlace). ends_at ends mid.circuits z.circuit) r.waiting) rs1 m.0 (last.0, m.1) in
          let kept = In-kept (λ (z : PutPlace). ends_at ends mid.circuits z.circuit) g.0.waiting m.0 g.2 in
          let old : WaitsIn y.records m.0 = subst (λ (a : Action). WaitsIn (records_after y.core j.at_server p a y.records) m.0) nothing (g.0, g.1, kept.0) in
          let there = beside-right (Agrees (IsPutOf w.circuits i) own.log) y.core.records y.records old.1.0 old.0 own.life.each old.1.1 in
          let s2 = waits-there (IsPutOf w.circuits i) own.log there.0 old.0 m.0 there.2 old.2 in
          untold (history.Waits m.0.circuit m.0.place old.0.number s2.1.v) s2.1.came (ap (λ (z : PutPlace). Some z) same)
    ]
  ]

  said-so : (r : Fields) → In replies r → SaysSo (own.log ++ (L ++ G)) p s r
  said-so r among = record {
    done = λ asks means.
        let d2 = due-done (knows y.core e) s.message replies did r slow-known due asks among means in
        let entry : Entry = history.Applied p.circuit p.place (event.number_of d2.0 y.records) (stored_now y.core d2.1) false in (
          event.number_of d2.0 y.records,
          stored_now y.core d2.1,
          false,
          subst (λ (a : Action). In (own.log ++ (logged_by y.core j.at_server p a y.records ++ G)) entry) (sym d2.2) (length own.log + 0, At-after own.log (entry ∷ G) 0 entry refl),
        );
    failed = λ status writes means x told tells. still-untold (due-failed (knows y.core e) s.message replies did r status due writes among means) x told tells;
  }

  mid-back : (n : ℕ) (x : Joined) → At mid.circuits n x → (c : Joined) × At w.circuits n c × SameEnds c x × Quiet c x
  mid-back n x at =
      let a = At-mapped (write_numbers i y.core did) (slice_set w.circuits k (numbers_after p.place did j)) n x at in
      let b = set-back w k j (numbers_after p.place did j) f.at (numbers-after-same p.place did j) (quiet-down j (numbers_after p.place did j) (numbers-after-down p.place did j)) n a.0 a.1 in
      let c = write-numbers-same i y.core did a.0 in (
        b.0,
        b.1,
        subst (λ (z : Joined). SameEnds b.0 z) (sym a.2) (same-trans b.0 a.0 (write_numbers i y.core did a.0) b.2 c),
        subst (λ (z : Joined). Quiet b.0 z) (sym a.2) (quiet-then b.0 a.0 (write_numbers i y.core did a.0) b.3 (quiet-down a.0 (write_numbers i y.core did a.0) (write-numbers-down i y.core did a.0))),
      )

  cE-down : cE.lists.down ≡ j.lists.down
  cE-down = ending-down ends c1 ∙ write-numbers-down i y.core did (numbers_after p.place did j) ∙ numbers-after-down p.place did j

  mine-new : (m : ℕ) (t : Told) → At d.lists.down m t → t.cause ≡ history.Reply → At j.lists.down m t ⊎ IsNew V k d t
  mine-new m t told reply = elim (At-parts cE.lists.down (about p.place history.Reply replies) m t told) [
    | inl old ↦ inl (subst (λ (l : List Told). At l m t) cE-down old)
    | inr new ↦
        let a = At-mapped (λ (q : Fields). let u : Told = record { message = q; place = p.place; cause = history.Reply } in u) replies new.0 t new.2 in
        let so : SaysSo (own.log ++ (L ++ G)) p s a.0 = said-so a.0 (new.0, a.1) in
        let len : length d.lists.handled ≡ length j.lists.handled + 1 = ap (λ (l : List Step). length l) handled-d ∙ length-append j.lists.handled (step ∷ []) in
        let joined : (own.log ++ L) ++ G ≡ own.log ++ (L ++ G) = append_assoc own.log L G in
        inr (subst (λ (z : Told). IsNew V k d z) (sym a.2) (record {
          says = λ z x log sent.
              let life : d.lists.server ≡ y.life = later-d.life ∙ f.joins in
              let z_is : own.log ++ (L ++ G) ≡ z = At-one V.server_logs y.life (own.log ++ (L ++ G)) z (subst (λ (o : List Entry). At V.server_logs y.life o) joined logged-W) (subst (λ (l : ℕ). At V.server_logs l z) life log) in
              let x_is : s ≡ x = At-one d.lists.up p.place s x (later-d.up p.place s f.sent) sent in
              subst (λ (o : List Entry). SaysSo o p x a.0) z_is (subst (λ (o : Sent). SaysSo (own.log ++ (L ++ G)) p o a.0) x_is so);
          about = ((s, later-d.up p.place s f.sent), inl (omega (arith, len)));
        }))
  ]

  -- Logs grew, and each reply was there, or says what is so.
  pub step-grew : Grew w (noted k j y replies w (server_after i (side_of i y mid) ends core mid))
  step-grew = subst (λ (x : World). Grew w x) (sym step-is) (record {
    logs = (grew-ended w mid i side ends core (logs-grown w.server_logs y.life L) mid-back).logs;
    back = λ n x at. elim (At-set W.circuits k d n x at) [
      | inl new ↦ inl (record {
        c = j;
        at = subst (λ (m : ℕ). At w.circuits m j) (sym new.0) f.at;
        later = subst (λ (z : Joined). Later j z) (sym new.1) later-d;
        replies = λ m t told reply.
            subst (λ (q : ℕ × Joined). At j.lists.down m t ⊎ IsNew V q.0 q.1 t) (λ l. (sym new.0 l, sym new.1 l)) (mine-new m t (subst (λ (z : Joined). At z.lists.down m t) new.1 told) reply);
      })
      | inr old ↦
          let u = At-mapped (ending ends) mid.circuits n x old.0 in
          let b = mid-back n u.0 u.1 in
          inl (record {
            c = b.0;
            at = b.1;
            later = subst (λ (z : Joined). Later b.0 z) (sym u.2) (later-then b.0 u.0 (ending ends u.0) (same-later b.0 u.0 b.2) (ending-later ends u.0));
            replies = λ m t told reply. inl (b.3 m t (subst (λ (l : List Told). At l m t) (ap (λ (z : Joined). z.lists.down) u.2 ∙ ending-down ends u.0) told) reply);
          })
    ];
  })
