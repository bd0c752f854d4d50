-- A life as its circuits go on, and what its log says of each write.
use Rattle.std.proofs.Common.{◌≡◌, ℕ, ◌⊎◌, inl, inr, Bool, false, List, length, Ok, Option, Some, sym, ap, subst, ◌∙◌}
use Rattle.ca_text.specs.Place.{At}
use Rattle.ca_text.proofs.Places.{At-map, At-one}
use Rattle.ca_dbr.specs.Elements.{Elements}
use Rattle.ca_records.specs.declared.puts.Put.{Put}
use Rattle.ca_records.specs.Given.{given_as}
use Rattle.ca_records.specs.Puts.{Record}
use Rattle.ca_model.specs.Speech.{Stored, sid_in}
use Rattle.ca_model.specs.History.{Applied, Circuit, Entry, Finished, Sent, Step, Withdrawn}
use Rattle.ca_model.specs.Channels.{CameIn, HasWaited, IsApplied as IsAppliedIn, IsBusyUntil, IsCleared, IsDropped, IsHandledIn, IsTaken, IsWaiting}
use Rattle.ca_model.specs.World.{Joined, PutPlace, RecordSide, World, circuit_of, told}
use Rattle.ca_laws_parts.specs.Once.{Once}
use Rattle.ca_laws_parts.specs.Agrees.{Agrees, IsBusyAs, WaitsAs}
use Rattle.ca_laws_parts.specs.Lives.{AreLater, CameOn, IsOfMessage, IsPutOf, Later, Life, LogsOnce, LostOn}
use Rattle.ca_laws_parts.proofs.WritesLists.{both-all}
use Rattle.ca_laws_parts.proofs.Once.{once-as}

-- ---- circuits go on

handled-later : (c d : Joined) (k i : ℕ) → Later c d → IsHandledIn c.lists k i → IsHandledIn d.lists k i
handled-later c d k i l now = (now.0, l.handled k now.0 now.1, now.2, now.3)

taken-later : (c d : Joined) (k i : ℕ) → Later c d → IsTaken c.lists k i → IsTaken d.lists k i
taken-later c d k i l (inl now) = inl (handled-later c d k i l now)
taken-later c d k i l (inr last) =
    let e = l.ended last.1 in
    inr (last.0 ∙ ap (λ (hs : List Step). length hs) (sym e.1), e.0, λ j g at. last.2 j g (subst (λ (hs : List Step). At hs j g) e.1 at))

came-later : (old new : List Joined) (life : ℕ) (Taken : Circuit → (k i : ℕ) → Type 0) (p : PutPlace) (i : ℕ) (value : Elements) → ((c d : Joined) → Later c d → Taken c.lists p.place i → Taken d.lists p.place i)
    → AreLater old new → CameOn old life Taken p i value → CameOn new life Taken p i value
came-later old new life Taken p i value goes later a =
    let d = later p.circuit a.c a.on in
    record {
      c = d.0;
      on = d.1;
      joins = d.2.life ∙ a.joins;
      s = a.s;
      sent = d.2.up p.place a.s a.sent;
      writes = a.writes;
      given = a.given;
      reads = a.reads;
      is = a.is;
      taken = goes a.c d.0 d.2 a.taken;
    }

-- one that came in its step was taken
pub came-taken : (cs : List Joined) (life : ℕ) (p : PutPlace) (i : ℕ) (value : Elements) → CameOn cs life IsHandledIn p i value → CameOn cs life IsTaken p i value
came-taken cs life p i value a = record {
  c = a.c;
  on = a.on;
  joins = a.joins;
  s = a.s;
  sent = a.sent;
  writes = a.writes;
  given = a.given;
  reads = a.reads;
  is = a.is;
  taken = inl a.taken;
}

lost-later : (old new : List Joined) (p : PutPlace) (i : ℕ) → AreLater old new → LostOn old p i → LostOn new p i
lost-later old new p i later a =
    let d = later p.circuit a.c a.on in
    record {
      c = d.0;
      on = d.1;
      s = a.s;
      sent = d.2.up p.place a.s a.sent;
      why = elim a.why [
        | inl x ↦ inl (x.0, x.1, x.2, x.3, d.2.up x.0 x.1 x.4, d.2.handled x.0 x.2 x.5, x.6, x.7)
        | inr e ↦ inr (d.2.ended e).0
      ];
    }

put-later : (old new : List Joined) (server : ℕ) (p : PutPlace) (b : Put) → AreLater old new → IsPutOf old server p b → IsPutOf new server p b
put-later old new server p b later a =
    let d = later p.circuit a.c a.on in
    record {
      c = d.0;
      on = d.1;
      of = d.2.server ∙ a.of;
      handle = a.handle ∙ sym d.2.handle;
      s = a.s;
      sent = d.2.up p.place a.s a.sent;
      asks = a.asks;
      sid = a.sid;
      ioid = a.ioid;
    }

busy-as : (Is Now : PutPlace → Put → Type 0) → ((p : PutPlace) (b : Put) → Is p b → Now p b) → (o : Option PutPlace) (d : Option Put) → IsBusyAs Is o d → IsBusyAs Now o d
busy-as Is Now as_it Option.None Option.None h = tt
busy-as Is Now as_it Option.None (Some b) h = absurd h
busy-as Is Now as_it (Some p) Option.None h = absurd h
busy-as Is Now as_it (Some p) (Some b) h = as_it p b h

agrees-as : (Is Now : PutPlace → Put → Type 0) → ((p : PutPlace) (b : Put) → Is p b → Now p b) → (y : List Entry) (c : Record) (r : RecordSide) → Agrees Is y c r → Agrees Now y c r
agrees-as Is Now as_it y c r a = record {
  name = a.name;
  first = a.first;
  added = a.added;
  there = a.there;
  state = a.state;
  base = a.base;
  value = a.value;
  waits = a.waits;
  each = both-all (WaitsAs Is y r.number) (WaitsAs Now y r.number) r.waiting c.waiting a.each (λ i p w at there h. (h.0, as_it p w.put h.1));
  apart = a.apart;
  based = a.based;
  busy = a.busy;
  busy_as = busy-as Is Now as_it r.busy c.busy a.busy_as;
  slow = a.slow;
}

pub once-later : (old new : List Joined) (life : ℕ) (y : List Entry) → AreLater old new → Once (CameOn old life) (LostOn old) y → Once (CameOn new life) (LostOn new) y
once-later old new life y later once =
    once-as (CameOn old life) (CameOn new life) (LostOn old) (LostOn new) y (λ p i value a. came-later old new life IsTaken p i value (λ c d l t. taken-later c d p.place i l t) later a)
    (λ p i value a. came-later old new life IsHandledIn p i value (λ c d l t. handled-later c d p.place i l t) later a) (λ p i a. lost-later old new p i later a) once

pub life-later : (old new : List Joined) (server life : ℕ) (y : List Entry) (cs : List Record) (rs : List RecordSide) (n : ℕ) → AreLater old new → Life old server life y cs rs n → Life new server life y cs rs n
life-later old new server life y cs rs n later a = record {
  once = once-later old new life y later a.once;
  each = both-all (Agrees (IsPutOf old server) y) (Agrees (IsPutOf new server) y) cs rs a.each (λ i c r in_cs in_rs g. agrees-as (IsPutOf old server) (IsPutOf new server) (λ p b h. put-later old new server p b later h) y c r g);
  others = a.others;
  numbers = a.numbers;
}

-- ---- each write once, over all lives

-- how an applied write came: now, or when it came to wait
pub came-as : (cs : List Joined) (life : ℕ) (y : List Entry) (i n k r : ℕ) (v : Stored) (b : Bool) → Once (CameOn cs life) (LostOn cs) y → At y i (Applied n k r v b) → (e : ℕ) × CameOn cs life IsTaken (record { circuit = n; place = k }) e v.value
came-as cs life y i n k r v b once at =
    elim (once.own i n k r v b at) [
      | inl came ↦ (i, came)
      | inr waited ↦
          let came = came-taken cs life (record { circuit = n; place = k }) waited.0 waited.1.value (once.came waited.0 n k r waited.1 waited.3) in
          (waited.0, subst (λ (e : Elements). CameOn cs life IsTaken (record { circuit = n; place = k }) waited.0 e) waited.4 came)
    ]

pub applied-once : (w : World) → LogsOnce w → (n k l m i j r q : ℕ) (v u : Stored) → IsAppliedIn (told w) n k l i r v → IsAppliedIn (told w) n k m j q u → (l ≡ m) × (i ≡ j)
applied-once w logs n k l m i j r q v u a b =
    let x = came-as w.circuits l a.0 i n k r v a.1 (logs l a.0 a.2) a.3 in
    let z = came-as w.circuits m b.0 j n k q u b.1 (logs m b.0 b.2) b.3 in
    let c : x.1.c ≡ z.1.c = At-one w.circuits n x.1.c z.1.c x.1.on z.1.on in
    let life : l ≡ m = sym x.1.joins ∙ ap (λ (d : Joined). d.lists.server) c ∙ z.1.joins in
    let log : a.0 ≡ b.0 = At-one w.server_logs m a.0 b.0 (subst (λ (t : ℕ). At w.server_logs t a.0) life a.2) b.2 in
    (life, (logs m b.0 b.2).applied i j n k r q v u a.1 b.1 (subst (λ (y : List Entry). At y i (Applied n k r v a.1)) log a.3) b.3)

pub finished-once : (w : World) → LogsOnce w → (n k l e : ℕ) (y : List Entry) → At w.server_logs l y → At y e (Finished n k) → IsBusyUntil y n k e × ((f : ℕ) → At y f (Finished n k) → e ≡ f)
finished-once w logs n k l e y log at = (logs l y log).finished n k e at

pub dropped-as : (w : World) → LogsOnce w → (n k l i : ℕ) (y : List Entry) → At w.server_logs l y → At y i (Withdrawn n k) → IsDropped (told w) n k l i y
dropped-as w logs n k l i y log at =
    let once = logs l y log in
    let lost = once.withdrawn i n k at in
    let came = once.came lost.2.0 n k lost.0 lost.2.1 lost.2.3 in
    record {
      c = circuit_of came.c;
      on = (At-map circuit_of w.circuits n came.c came.on, came.joins);
      e = lost.2.0;
      r = lost.0;
      v = lost.2.1;
      waited = (lost.2.3, lost.2.2);
      s = came.s;
      at = came.sent;
      why = elim lost.3 [
        | inl gone ↦ inl gone
        | inr off ↦
            let c : off.c ≡ came.c = At-one w.circuits n off.c came.c off.on came.on in
            let there : At came.c.lists.up k off.s = subst (λ (d : Joined). At d.lists.up k off.s) c off.sent in
            let s : off.s ≡ came.s = At-one came.c.lists.up k off.s came.s there came.sent in
            inr (subst (λ (t : Sent). IsCleared came.c.lists k (sid_in t.message) i ⊎ (came.c.lists.server_open ≡ false)) s (subst (λ (d : Joined). IsCleared d.lists k (sid_in off.s.message) i ⊎ (d.lists.server_open ≡ false)) c off.why))
      ];
    }

pub came-waiting : (w : World) → LogsOnce w → (n k l i r : ℕ) (v : Stored) → IsWaiting (told w) n k l i r v → CameIn (told w) n k l i
came-waiting w logs n k l i r v a =
    let came = (logs l a.0 a.1).came i n k r v a.2 in
    (circuit_of came.c, At-map circuit_of w.circuits n came.c came.on, came.joins, came.taken)

pub own-message : (w : World) → LogsOnce w → (n k l i r : ℕ) (v : Stored) → IsAppliedIn (told w) n k l i r v → IsOfMessage w n k l i r v
own-message w logs n k l i r v a =
    let once = logs l a.0 a.2 in
    let x = came-as w.circuits l a.0 i n k r v a.1 once a.3 in
    let there = once.there i n k r v a.1 a.3 in
    record {
      c = x.1.c;
      on = x.1.on;
      joins = x.1.joins;
      y = a.0;
      log = a.2;
      s = x.1.s;
      sent = x.1.sent;
      writes = x.1.writes;
      given = x.1.given;
      reads = x.1.reads;
      to = there.0.0;
      there = (there.0.1, there.1);
      value = subst (λ (b : _). given_as x.1.given b ≡ Ok v.value) there.0.2 x.1.is;
      came = how x.1.c x.1.on;
    }
  where
    how : (c : Joined) → At w.circuits n c → IsTaken c.lists k i ⊎ HasWaited n c.lists a.0 k i r
    how c on =
        let once = logs l a.0 a.2 in
        elim (once.own i n k r v a.1 a.3) [
          | inl came ↦ inl (subst (λ (d : Joined). IsTaken d.lists k i) (At-one w.circuits n came.c c came.on on) came.taken)
          | inr waited ↦
              let came = once.came waited.0 n k r waited.1 waited.3 in
              inr (waited.0, waited.1, waited.3, waited.2, subst (λ (d : Joined). IsHandledIn d.lists k waited.0) (At-one w.circuits n came.c c came.on on) came.taken, λ gone. once.dropped n k r v a.1 (i, a.3) gone)
        ]
