-- A CLEAR_CHANNEL withdraws just the puts that wait on its channel, each once.
use Rattle.std.proofs.Common.{◌≡◌, ℕ, zero, suc, ◌+◌, ◌<◌, inl, inr, Bool, true, false, cond, ◌&&◌, eqb, eqb-true, eq-eqb, List, [], ◌∷◌, ◌++◌, length, Some, refl, sym, ap, subst, ◌∙◌, arith}
use Rattle.std.specs.List.{flat_map}
use Rattle.std.proofs.lemmas.Bool.{both_ways}
use Rattle.ca_arena.specs.declared.handle.Handle.{Handle}
use Rattle.ca_ids.specs.Table.{same_handle}
use Rattle.ca_ids.specs.Wire.{wire_of}
use Rattle.ca_records.specs.declared.puts.Put.{Put}
use Rattle.ca_records.specs.Puts.{Record, WaitingPut}
use Rattle.ca_text.specs.Place.{At}
use Rattle.ca_text.proofs.Places.{some_is, At-after, At-append, At-map, At-mapped, At-one, At-parts}
use Rattle.ca_model.specs.History.{Entry, Sent, Waits, Withdrawn}
use Rattle.ca_model.specs.Speech.{In, Stored, sid_in}
use Rattle.ca_model.proofs.Handles.{same-is, same-itself}
use Rattle.ca_model.specs.Known.{AreJust, IsWithdrawal, waiting}
use Rattle.ca_model.specs.ServerEvents.{channel_withdrawals, is_of_channel, places_where, with_core}
use Rattle.ca_model.specs.World.{Joined, PutPlace, RecordSide}
use Rattle.ca_laws_parts.specs.Agrees.{Agrees, AreApart, AreOthers, WaitsAs, pair_of}
use Rattle.ca_laws_parts.specs.Both.{Both}
use Rattle.ca_laws_parts.specs.Lives.{AreOpen, IsPutOf}
use Rattle.ca_laws_parts.proofs.WritesLists.{At-take, beside-left, beside-right, both-at, none_at}
use Rattle.ca_laws_parts.proofs.WritesLives.{others-apart}
use Rattle.ca_laws_parts.proofs.Waited.{places-back}
use Rattle.ca_laws_runs.proofs.Pairs.{places-at}
use Rattle.ca_laws_runs.specs.Awaiting.{IsAwaiting}
use Rattle.ca_laws_runs.specs.KnewLists.{as_known}
use Rattle.ca_laws_runs.proofs.Acting.{taken-at}
use Rattle.ca_laws_runs.proofs.PostFollowing.{titled}

-- ---- the places of the puts that a test names

-- no two of them are one
apart-once : (ps : List PutPlace) → AreApart ps → (a b : ℕ) (q : PutPlace) → At ps a q → At ps b q → a ≡ b
apart-once [] apart a b q first second = absurd (none_at a q first)
apart-once (p ∷ ps) apart zero zero q first second = refl
apart-once (p ∷ ps) apart zero (suc b) q first second = absurd (apart.0 (b, subst (λ (z : PutPlace). At ps b z) (sym (some_is p q first)) second))
apart-once (p ∷ ps) apart (suc a) zero q first second = absurd (apart.0 (a, subst (λ (z : PutPlace). At ps a z) (sym (some_is p q second)) first))
apart-once (p ∷ ps) apart (suc a) (suc b) q first second = ap (λ (n : ℕ). suc n) (apart-once ps apart.1 a b q first second)

apart-both : (ps qs : List PutPlace) → AreApart ps → AreApart qs → ((p : PutPlace) → In ps p → In qs p → ⊥) → AreApart (ps ++ qs)
apart-both [] qs first second other = second
apart-both (p ∷ ps) qs first second other = (
  λ there. elim (At-parts ps qs there.0 p there.1) [
    | inl old ↦ first.0 (there.0, old)
    | inr new ↦ other p (0, refl) (new.0, new.2)
  ],
  apart-both ps qs first.1 second (λ q a b. other q (suc a.0, a.1) b),
)

module _ (test : Put → Bool) where
  abbrev pub named : List Record → List RecordSide → List PutPlace
  named cs rs = flat_map (λ (ps : List PutPlace). ps) (with_core (λ (c : Record) (r : RecordSide). places_where test c.waiting r.waiting) cs rs)

  places-in : (ws : List WaitingPut) (ps : List PutPlace) (i : ℕ) (x : WaitingPut) (q : PutPlace) → At ws i x → At ps i q → test x.put ≡ true → In (places_where test ws ps) q
  places-in [] ps i x q at there is = absurd (none_at i x at)
  places-in (w ∷ ws) [] i x q at there is = absurd (none_at i q there)
  places-in (w ∷ ws) (p ∷ ps) i x q at there is = go (test w.put) refl i at there (λ k a b. places-in ws ps k x q a b is)
    where
      go : (b : Bool) → test w.put ≡ b → (i : ℕ) → At (w ∷ ws) i x → At (p ∷ ps) i q → ((k : ℕ) → At ws k x → At ps k q → In (places_where test ws ps) q) → In (cond b (p ∷ places_where test ws ps) (places_where test ws ps)) q
      go true same zero a b rest = (0, b)
      go true same (suc k) a b rest = (let r = rest k a b in (suc r.0, r.1))
      go false same zero a b rest = absurd (both_ways (test w.put) same (ap (λ (z : WaitingPut). test z.put) (some_is w x a) ∙ is))
      go false same (suc k) a b rest = rest k a b

  places-apart : (ws : List WaitingPut) (ps : List PutPlace) → AreApart ps → AreApart (places_where test ws ps)
  places-apart [] [] apart = tt
  places-apart [] (p ∷ ps) apart = tt
  places-apart (w ∷ ws) [] apart = tt
  places-apart (w ∷ ws) (p ∷ ps) apart = go (test w.put) (places-apart ws ps apart.1)
    where
      go : (b : Bool) → AreApart (places_where test ws ps) → AreApart (cond b (p ∷ places_where test ws ps) (places_where test ws ps))
      go true rest = (λ there. apart.0 (places-back test ws ps p there), rest)
      go false rest = rest

  -- a put that waits beside its place, and that the test names
  pub record IsNamed (cs : List Record) (rs : List RecordSide) (q : PutPlace) : Type 0 where
    pub m : ℕ
    pub c : Record
    pub r : RecordSide
    pub in_cs : At cs m c
    pub in_rs : At rs m r
    pub i : ℕ
    pub x : WaitingPut
    pub in_core : At c.waiting i x
    pub in_side : At r.waiting i q
    pub is : test x.put ≡ true

  named-at : (cs : List Record) (rs : List RecordSide) (q : PutPlace) → In (named cs rs) q → IsNamed cs rs q
  named-at [] [] q there = absurd (none_at there.0 q there.1)
  named-at [] (r ∷ rs) q there = absurd (none_at there.0 q there.1)
  named-at (c ∷ cs) [] q there = absurd (none_at there.0 q there.1)
  named-at (c ∷ cs) (r ∷ rs) q there = elim (At-parts (places_where test c.waiting r.waiting) (named cs rs) there.0 q there.1) [
    | inl old ↦ (let p = places-at test c.waiting r.waiting q (there.0, old) in record { m = 0; c = c; r = r; in_cs = refl; in_rs = refl; i = p.0; x = p.1; in_core = p.2; in_side = p.3; is = p.4 })
    | inr new ↦ (let n = named-at cs rs q (new.0, new.2) in record { m = suc n.m; c = n.c; r = n.r; in_cs = n.in_cs; in_rs = n.in_rs; i = n.i; x = n.x; in_core = n.in_core; in_side = n.in_side; is = n.is })
  ]

  named-in : (cs : List Record) (rs : List RecordSide) (q : PutPlace) (m : ℕ) (c : Record) (r : RecordSide) (i : ℕ) (x : WaitingPut) → At cs m c → At rs m r → At c.waiting i x → At r.waiting i q → test x.put ≡ true → In (named cs rs) q
  named-in [] rs q m c r i x in_cs in_rs in_core in_side is = absurd (none_at m c in_cs)
  named-in (z ∷ cs) [] q m c r i x in_cs in_rs in_core in_side is = absurd (none_at m r in_rs)
  named-in (z ∷ cs) (v ∷ rs) q zero c r i x in_cs in_rs in_core in_side is =
      let here = places-in z.waiting v.waiting i x q (subst (λ (d : Record). At d.waiting i x) (sym (some_is z c in_cs)) in_core) (subst (λ (d : RecordSide). At d.waiting i q) (sym (some_is v r in_rs)) in_side) is in
      (here.0, At-append (places_where test z.waiting v.waiting) (named cs rs) here.0 q here.1)
  named-in (z ∷ cs) (v ∷ rs) q (suc m) c r i x in_cs in_rs in_core in_side is =
      let there = named-in cs rs q m c r i x in_cs in_rs in_core in_side is in
      (length (places_where test z.waiting v.waiting) + there.0, At-after (places_where test z.waiting v.waiting) (named cs rs) there.0 q there.1)

  named-apart : (Is : PutPlace → Put → Type 0) (log : List Entry) (cs : List Record) (rs : List RecordSide) → ((p : PutPlace) (r q : ℕ) (v u : Stored) → In log (Waits p.circuit p.place r v) → In log (Waits p.circuit p.place q u) → r ≡ q) → Both (Agrees Is log) cs rs → AreOthers rs
      → AreApart (named cs rs)
  named-apart Is log [] [] one both others = tt
  named-apart Is log [] (r ∷ rs) one both others = tt
  named-apart Is log (c ∷ cs) [] one both others = tt
  named-apart Is log (c ∷ cs) (r ∷ rs) one both others =
      apart-both (places_where test c.waiting r.waiting) (named cs rs) (places-apart c.waiting r.waiting both.0.apart) (named-apart Is log cs rs one both.1 others.1)
      (λ p first second.
      let n = named-at cs rs p second in
      let a = places-at test c.waiting r.waiting p first in
      let b = beside-left (WaitsAs Is log r.number) r.waiting c.waiting a.0 p both.0.each a.3 in
      let agrees : Agrees Is log n.c n.r = both-at (Agrees Is log) cs rs n.m n.c n.r both.1 n.in_cs n.in_rs in
      let d = beside-left (WaitsAs Is log (n.r).number) (n.r).waiting (n.c).waiting n.i p agrees.each n.in_side in
      let same : r.number ≡ (n.r).number = one p r.number (n.r).number b.2.0.v d.2.0.v b.2.0.came d.2.0.came in
      elim (others-apart (r ∷ rs) 0 (suc n.m) r n.r others refl n.in_rs) [
        | inl is ↦ absurd (let e : 0 ≡ suc n.m = is in omega (arith, e))
        | inr other ↦ other.1 (sym same)
      ])

-- ---- what a clear withdraws

-- What holds of a server's records, and of a circuit of its, whose end there is open.
pub record Facts (circuits : List Joined) (i n : ℕ) (j : Joined) (log : List Entry) (cs : List Record) (rs : List RecordSide) : Type 0 where
  pub on : At circuits n j
  pub each : Both (Agrees (IsPutOf circuits i) log) cs rs
  pub others : AreOthers rs
  pub once : (p : PutPlace) (r q : ℕ) (v u : Stored) → In log (Waits p.circuit p.place r v) → In log (Waits p.circuit p.place q u) → r ≡ q
  pub open_still : AreOpen circuits rs
  pub awaits : IsAwaiting log rs
  pub one : (m : ℕ) (c : Joined) → At circuits m c → c.server ≡ i → c.lists.server_open ≡ true → c.at_server ≡ j.at_server → m ≡ n
  pub handled : (k r : ℕ) (v : Stored) → In log (Waits n k r v) → k < length j.lists.handled

both-true : (a b : Bool) → a && b ≡ true → (a ≡ true) × (b ≡ true)
both-true true b e = (refl, e)
both-true false b e = absurd cc

and-true : (a b : Bool) → a ≡ true → b ≡ true → a && b ≡ true
and-true true b e f = f
and-true false b e f = absurd cc

same-withdrawn : (n k m l : ℕ) → Withdrawn n k ≡ Withdrawn m l → (n ≡ m) × (k ≡ l)
same-withdrawn n k m l e = (cc, cc)

module _ (circuits : List Joined) (i n : ℕ) (j : Joined) (log : List Entry) (cs : List Record) (rs : List RecordSide) (f : Facts circuits i n j log cs rs) (sid : ℕ) where
  abbrev test : Put → Bool
  test p = is_of_channel j.at_server sid p

  abbrev told : PutPlace → Entry
  told p = Withdrawn p.circuit p.place

  each-cleared : (e : Entry) → In (channel_withdrawals j.at_server sid cs rs) e → IsWithdrawal n (as_known j.lists) log sid e
  each-cleared e there =
      let q = At-mapped told (named test cs rs) there.0 e there.1 in
      let w = named-at test cs rs q.0 (there.0, q.1) in
      let agrees : Agrees (IsPutOf circuits i) log w.c w.r = both-at (Agrees (IsPutOf circuits i) log) cs rs w.m w.c w.r f.each w.in_cs w.in_rs in
      let as_it : WaitsAs (IsPutOf circuits i) log (w.r).number q.0 w.x = both-at (WaitsAs (IsPutOf circuits i) log (w.r).number) (w.r).waiting (w.c).waiting w.i q.0 w.x agrees.each w.in_side w.in_core in
      let of : IsPutOf circuits i q.0 (w.x).put = as_it.1 in
      let tests = both-true (same_handle (w.x).put.circuit j.at_server) (eqb (wire_of (w.x).put.channel) sid) w.is in
      let handle : of.c.at_server ≡ j.at_server = sym of.handle ∙ same-is (w.x).put.circuit j.at_server tests.0 in
      let here : (q.0).circuit ≡ n = f.one (q.0).circuit of.c of.on of.of (f.open_still w.m w.r q.0 of.c w.in_rs (w.i, w.in_side) of.on) handle in
      let same : of.c ≡ j = At-one circuits n of.c j (subst (λ (m : ℕ). At circuits m of.c) here of.on) f.on in
      let lt : (q.0).place < length j.lists.handled = f.handled (q.0).place (w.r).number as_it.0.v (subst (λ (m : ℕ). In log (Waits m (q.0).place (w.r).number as_it.0.v)) here as_it.0.came) in (
        (q.0).place,
        (w.r).number,
        of.s,
        (w.i, subst (λ (l : List (ℕ × ℕ)). At l w.i (n, (q.0).place)) (sym agrees.waits) (At-map pair_of (w.r).waiting w.i q.0 w.in_side ∙ ap (λ (m : ℕ). Some (m, (q.0).place)) here)),
        taken-at (length j.lists.handled) j.lists.up (q.0).place of.s lt (subst (λ (z : Joined). At z.lists.up (q.0).place of.s) same of.sent),
        sym of.sid ∙ eqb-true (wire_of (w.x).put.channel) sid tests.1,
        q.2 ∙ ap (λ (m : ℕ). Withdrawn m (q.0).place) here,
      )

  all-cleared : (e : Entry) → IsWithdrawal n (as_known j.lists) log sid e → In (channel_withdrawals j.at_server sid cs rs) e
  all-cleared e (k, r, s, waits, at_s, sid_is, is) =
      let nm = f.awaits r (n, k) waits in
      let x = titled rs (nm.0, r) nm.1 in
      let number : x.0.number ≡ r = ap (λ (t : List ℕ × ℕ). t.1) (sym x.2) in
      let b = beside-right (Agrees (IsPutOf circuits i) log) cs rs x.1.0 x.0 f.each x.1.1 in
      let q = At-mapped pair_of x.0.waiting waits.0 (n, k) (subst (λ (l : List (ℕ × ℕ)). At l waits.0 (n, k)) (ap (λ (m : ℕ). waiting log m) (sym number) ∙ b.2.waits) waits.1) in
      let w = beside-left (WaitsAs (IsPutOf circuits i) log x.0.number) x.0.waiting b.0.waiting waits.0 q.0 b.2.each q.1 in
      let of : IsPutOf circuits i q.0 (w.0).put = w.2.1 in
      let circuit : (q.0).circuit ≡ n = ap (λ (p : ℕ × ℕ). p.0) (sym q.2) in
      let place : (q.0).place ≡ k = ap (λ (p : ℕ × ℕ). p.1) (sym q.2) in
      let same : of.c ≡ j = At-one circuits n of.c j (subst (λ (m : ℕ). At circuits m of.c) circuit of.on) f.on in
      let s_is : of.s ≡ s = At-one j.lists.up k of.s s (subst (λ (v : ℕ × Joined). At v.1.lists.up v.0 of.s) (λ d. (place d, same d)) of.sent) (At-take (length j.lists.handled) j.lists.up k s at_s) in
      let handle : (w.0).put.circuit ≡ j.at_server = of.handle ∙ ap (λ (z : Joined). z.at_server) same in
      let wire : wire_of (w.0).put.channel ≡ sid = of.sid ∙ ap (λ (z : Sent). sid_in z.message) s_is ∙ sid_is in
      let tests : test (w.0).put ≡ true = and-true (same_handle (w.0).put.circuit j.at_server) (eqb (wire_of (w.0).put.channel) sid) (subst (λ (h : Handle). same_handle (w.0).put.circuit h ≡ true) handle (same-itself (w.0).put.circuit)) (eq-eqb (wire_of (w.0).put.channel) sid wire) in
      let there = named-in test cs rs q.0 x.1.0 b.0 x.0 waits.0 w.0 b.1 x.1.1 w.1 q.1 tests in
      (there.0, At-map told (named test cs rs) there.0 q.0 there.1 ∙ ap (λ (v : ℕ × ℕ). Some (Withdrawn v.0 v.1)) (λ d. (circuit d, place d)) ∙ ap (λ (z : Entry). Some z) (sym is))

  once-cleared : (a b : ℕ) (e : Entry) → At (channel_withdrawals j.at_server sid cs rs) a e → At (channel_withdrawals j.at_server sid cs rs) b e → a ≡ b
  once-cleared a b e first second =
      let p = At-mapped told (named test cs rs) a e first in
      let q = At-mapped told (named test cs rs) b e second in
      let same = same-withdrawn (p.0).circuit (p.0).place (q.0).circuit (q.0).place (sym p.2 ∙ q.2) in
      let is : q.0 ≡ p.0 = (λ d. let z : PutPlace = record { circuit = sym same.0 d; place = sym same.1 d } in z) in
      apart-once (named test cs rs) (named-apart test (IsPutOf circuits i) log cs rs f.once f.each f.others) a b p.0 p.1 (subst (λ (z : PutPlace). At (named test cs rs) b z) is q.1)

  pub cleared-just : AreJust (channel_withdrawals j.at_server sid cs rs) (IsWithdrawal n (as_known j.lists) log sid)
  cleared-just = record { each = each-cleared; all = all-cleared; once = once-cleared }
