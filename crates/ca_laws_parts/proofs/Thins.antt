-- What a server keeps for a circuit it kept before, or it came by the message that its
-- end has just handled.
use Rattle.std.proofs.Common.{◌≡◌, ℕ, zero, suc, ◌<◌, ◌⊎◌, inl, inr, Bool, true, false, cond, ◌&&◌, ◌||◌, eqb, ltb, eqb-true, eq-eqb, lt-ltb, List, [], ◌∷◌, length, Option, Some, None, refl, sym, ap, subst, ◌∙◌, arith}
use Rattle.std.specs.Prelude.{filter, map, option_map, slice_get, unwrap_or}
use Rattle.std.proofs.lemmas.Bool.{ltb-true}
use Rattle.std.specs.List.{list_any}
use Rattle.ca_records.specs.declared.puts.Put.{Put}
use Rattle.ca_text.specs.declared.command.Command.TheVariants as command
use Rattle.ca_text.specs.Place.{At}
use Rattle.ca_text.proofs.Places.{some_is, At-one}
use Rattle.ca_model.specs.History.{Applied, Circuit, Entry, Sent, Waits}
use Rattle.ca_model.specs.Speech.{In, Is, sid_in}
use Rattle.ca_model.specs.Events.{Event}
use Rattle.ca_model.specs.Events as event
use Rattle.ca_model.specs.Runs.{Happens}
use Rattle.ca_model.specs.World.{Creation, IsSetting, Joined, PutPlace, RecordSide, ServerSide, Setting, Standing, World}
use Rattle.ca_laws_parts.specs.Agrees.{Agrees, IsBusyAs, IsBusyBy, WaitsAs}
use Rattle.ca_laws_parts.specs.Lives.{IsPutOf}
use Rattle.ca_laws_parts.specs.Seats.{HasSeat, Sound, TakesSent}
use Rattle.ca_laws_parts.proofs.Every.{event-sound}
use Rattle.ca_laws_parts.proofs.Lasting.{AllEnds, Begins}
use Rattle.ca_laws_parts.proofs.LastingAll.{OnStep, event-by}
use Rattle.ca_laws_parts.proofs.WritesLists.{In-kept, beside-left, beside-right, kept-in, none_at}
use Rattle.ca_laws_parts.specs.Own.{IsOwnPlace}
use Rattle.ca_laws_parts.specs.Kept.{has_channel, is_kept, kept, kept_of, put_places, records_at, sid_at}
use Rattle.ca_laws_parts.proofs.Puts.{In-map, In-mapped, In-parts, In-right, PutIn, have-places, places-have}
use Rattle.ca_laws_parts.proofs.PutEvents.{IsOwnPut, leaves-back}
use Rattle.ca_laws_parts.proofs.Since.{Grows, Since, grows-same, since-handled, since-lasting}
use Rattle.ca_laws_parts.proofs.WritesLists.{In-append}

-- ---- what is kept, case by case

and-both : (a b : Bool) → a && b ≡ true → (a ≡ true) × (b ≡ true)
and-both true b e = (refl, e)
and-both false b e = absurd cc

both-and : (a b : Bool) → a ≡ true → b ≡ true → a && b ≡ true
both-and true b e f = f
both-and false b e f = absurd cc

-- a put on a channel that is open, a subscription, or a channel
abbrev pub KeptPut : (n : ℕ) → List RecordSide → Joined → (p : ℕ) → Type 0
KeptPut n records j p = (q : PutPlace) × PutIn records q × (q.circuit ≡ n) × (has_channel j q.place ≡ true) × (q.place ≡ p)

abbrev pub KeptBy : (n : ℕ) → List RecordSide → Joined → (p : ℕ) → Type 0
KeptBy n records j p = KeptPut n records j p ⊎ (((s : Standing) × In j.standing s × (s.place ≡ p)) ⊎ ((x : Creation) × In j.creations x × (x.place ≡ p)))

pub kept-by : (n : ℕ) (records : List RecordSide) (j : Joined) (p : ℕ) → In (kept_of n records j) p → KeptBy n records j p
kept-by n records j p h = elim (In-parts (map (λ (q : PutPlace). q.place) (filter (is_kept n j) (put_places records))) _ p h) [
  | inl put ↦
      let q = In-mapped (λ (q : PutPlace). q.place) (filter (is_kept n j) (put_places records)) p put in
      let k = In-kept (is_kept n j) (put_places records) q.0 q.1 in
      let b = and-both (eqb q.0.circuit n) (has_channel j q.0.place) k.1 in
      inl (q.0, places-have records q.0 k.0, eqb-true q.0.circuit n b.0, b.1, sym q.2)
  | inr rest ↦ elim (In-parts (map (λ (s : Standing). s.place) j.standing) (map (λ (c : Creation). c.place) j.creations) p rest) [
    | inl standing ↦ (let s = In-mapped (λ (s : Standing). s.place) j.standing p standing in inr (inl (s.0, s.1, sym s.2)))
    | inr channel ↦ (let c = In-mapped (λ (c : Creation). c.place) j.creations p channel in inr (inr (c.0, c.1, sym c.2)))
  ]
]

pub by-kept : (n : ℕ) (records : List RecordSide) (j : Joined) (p : ℕ) → KeptBy n records j p → In (kept_of n records j) p
by-kept n records j p (inl (q, have, circuit, channel, is)) =
    In-append _ _ p
    (subst (λ (x : ℕ). In (map (λ (q : PutPlace). q.place) (filter (is_kept n j) (put_places records))) x) is
    (In-map (λ (q : PutPlace). q.place) (filter (is_kept n j) (put_places records)) q
    (kept-in (is_kept n j) (put_places records) q (have-places records q have) (both-and (eqb q.circuit n) (has_channel j q.place) (eq-eqb q.circuit n circuit) channel))))
by-kept n records j p (inr (inl (s, at, is))) =
    In-right (map (λ (q : PutPlace). q.place) (filter (is_kept n j) (put_places records))) _ p
    (In-append (map (λ (s : Standing). s.place) j.standing) _ p (subst (λ (x : ℕ). In (map (λ (s : Standing). s.place) j.standing) x) is (In-map (λ (s : Standing). s.place) j.standing s at)))
by-kept n records j p (inr (inr (c, at, is))) =
    In-right (map (λ (q : PutPlace). q.place) (filter (is_kept n j) (put_places records))) _ p
    (In-right (map (λ (s : Standing). s.place) j.standing) _ p (subst (λ (x : ℕ). In (map (λ (c : Creation). c.place) j.creations) x) is (In-map (λ (c : Creation). c.place) j.creations c at)))

-- in a world
pub kept-there : (w : World) (n p : ℕ) → In (kept w n) p → (j : Joined) × At w.circuits n j × (j.lists.server_open ≡ true) × KeptBy n (records_at w j) j p
kept-there w n p h = go (slice_get w.circuits n) refl h
  where
    open-of : (b : Bool) (l : List ℕ) → In (cond b l []) p → (b ≡ true) × In l p
    open-of true l h = (refl, h)
    open-of false l h = absurd (none_at h.0 p h.1)

    go : (o : Option Joined) → slice_get w.circuits n ≡ o → In (unwrap_or (option_map (λ (j : Joined). cond j.lists.server_open (kept_of n (records_at w j) j) []) o) []) p
        → (j : Joined) × At w.circuits n j × (j.lists.server_open ≡ true) × KeptBy n (records_at w j) j p
    go None is h = absurd (none_at h.0 p h.1)
    go (Some j) is h = (let r = open-of j.lists.server_open (kept_of n (records_at w j) j) h in (j, is, r.0, kept-by n (records_at w j) j p r.1))

pub there-kept : (w : World) (n p : ℕ) (j : Joined) → At w.circuits n j → j.lists.server_open ≡ true → KeptBy n (records_at w j) j p → In (kept w n) p
there-kept w n p j at opened k =
    subst (λ (o : Option Joined). In (unwrap_or (option_map (λ (j : Joined). cond j.lists.server_open (kept_of n (records_at w j) j) []) o) []) p) (sym at)
    (subst (λ (b : Bool). In (cond b (kept_of n (records_at w j) j) []) p) (sym opened) (by-kept n (records_at w j) j p k))

pub records-there : (w : World) (j : Joined) (y : ServerSide) → At w.servers j.server y → records_at w j ≡ y.records
records-there w j y at = ap (λ (o : Option ServerSide). unwrap_or (option_map (λ (y : ServerSide). y.records) o) []) at

-- ---- an open channel

pub any-at : {A : Type 0} (test : A → Bool) (xs : List A) → list_any test xs ≡ true → (x : A) × In xs x × (test x ≡ true)
any-at test [] e = absurd cc
any-at {A} test (x ∷ xs) e = go (test x) refl e (λ h. any-at test xs h)
  where
    go : (b : Bool) → test x ≡ b → b || list_any test xs ≡ true → (list_any test xs ≡ true → (z : A) × In xs z × (test z ≡ true)) → (z : A) × In (x ∷ xs) z × (test z ≡ true)
    go true is e more = (x, (0, refl), is)
    go false is e more = (let r = more e in (r.0, (suc r.1.0, r.1.1), r.2))

at-any : {A : Type 0} (test : A → Bool) (xs : List A) (x : A) → In xs x → test x ≡ true → list_any test xs ≡ true
at-any test [] x h is = absurd (none_at h.0 x h.1)
at-any {A} test (z ∷ xs) x h is = go h.0 h.1 (λ rest. at-any test xs x rest is)
  where
    left : (a b : Bool) → a ≡ true → a || b ≡ true
    left true b e = refl
    left false b e = absurd cc

    right : (a b : Bool) → b ≡ true → a || b ≡ true
    right true b e = refl
    right false b e = e

    go : (k : ℕ) → At (z ∷ xs) k x → (In xs x → list_any test xs ≡ true) → test z || list_any test xs ≡ true
    go zero at more = left (test z) (list_any test xs) (ap test (some_is z x at) ∙ is)
    go (suc k) at more = right (test z) (list_any test xs) (more (k, at))

pub channel-of : (j : Joined) (p : ℕ) → has_channel j p ≡ true → (c : Creation) × In j.creations c × (c.sid ≡ sid_at j.lists p) × (c.place < p)
channel-of j p h =
    let x = any-at (λ (c : Creation). eqb c.sid (sid_at j.lists p) && ltb c.place p) j.creations h in
    let b = and-both (eqb x.0.sid (sid_at j.lists p)) (ltb x.0.place p) x.2 in
    (x.0, x.1, eqb-true x.0.sid (sid_at j.lists p) b.0, ltb-true x.0.place p b.1)

pub of-channel : (j : Joined) (p : ℕ) (c : Creation) → In j.creations c → c.sid ≡ sid_at j.lists p → c.place < p → has_channel j p ≡ true
of-channel j p c at is lt =
    at-any (λ (c : Creation). eqb c.sid (sid_at j.lists p) && ltb c.place p) j.creations c at (both-and (eqb c.sid (sid_at j.lists p)) (ltb c.place p) (eq-eqb c.sid (sid_at j.lists p) is) (lt-ltb c.place p lt))

pub sid-is : (c : Circuit) (p : ℕ) (s : Sent) → At c.up p s → sid_at c p ≡ sid_in s.message
sid-is c p s at = ap (λ (o : Option Sent). unwrap_or (option_map (λ (s : Sent). sid_in s.message) o) 0) at

-- ---- what is known of a put

-- A put of a server's records came on a circuit of that server, as a message that was handled, if
-- the circuit's end is open.
pub record PutFacts (w : World) (i : ℕ) (q : PutPlace) : Type 0 where
  pub c : Joined
  pub on : At w.circuits q.circuit c
  pub of : c.server ≡ i
  pub s : Sent
  pub sent : At c.lists.up q.place s
  pub asks : Is command.WriteNotify s.message
  pub handled : c.lists.server_open ≡ true → q.place < length c.lists.handled

pub put-facts : (s : Setting) (w : World) (i : ℕ) (y : ServerSide) (q : PutPlace) → Sound s w → At w.servers i y → PutIn y.records q → PutFacts w i q
put-facts s w i y q h at put =
    let own = h.writes.lives i y at in
    let there = beside-right (Agrees (IsPutOf w.circuits i) own.log) y.core.records y.records put.1.0 put.0 own.life.each put.1.1 in
    let agrees = there.2 in
    elim put.2 [
      | inl busy ↦
          let by : IsBusyBy own.log put.0.number (Some q) = subst (λ (o : Option PutPlace). IsBusyBy own.log put.0.number o) busy agrees.busy in
          let came = busy-as i own.log (Some q) there.0.busy (subst (λ (o : Option PutPlace). IsBusyAs (IsPutOf w.circuits i) o there.0.busy) busy agrees.busy_as) q refl in
          record {
            c = came.1.c;
            on = came.1.on;
            of = came.1.of;
            s = came.1.s;
            sent = came.1.sent;
            asks = came.1.asks;
            handled = λ opened. h.writes.handled y.life own.log (Applied q.circuit q.place put.0.number by.v true) q own.at (by.i, by.at) refl came.1.c came.1.on opened;
          }
      | inr waits ↦
          let b = beside-left (WaitsAs (IsPutOf w.circuits i) own.log put.0.number) put.0.waiting there.0.waiting waits.0 q agrees.each waits.1 in
          let came = b.2.1 in
          record {
            c = came.c;
            on = came.on;
            of = came.of;
            s = came.s;
            sent = came.sent;
            asks = came.asks;
            handled = λ opened. h.writes.handled y.life own.log (Waits q.circuit q.place put.0.number b.2.0.v) q own.at b.2.0.came refl came.c came.on opened;
          }
    ]
  where
    busy-as : (i : ℕ) (log : List Entry) (o : Option PutPlace) (b : Option Put) → IsBusyAs (IsPutOf w.circuits i) o b → (q : PutPlace) → o ≡ Some q → (x : Put) × IsPutOf w.circuits i q x
    busy-as i log None b came q is = absurd (none-some q is)
      where
        none-some : (x : PutPlace) → let a : Option PutPlace = None in let b : Option PutPlace = Some x in a ≡ b → ⊥
        none-some x e = cc
    busy-as i log (Some p) None came q is = absurd came
    busy-as i log (Some p) (Some b) came q is = (b, subst (λ (z : PutPlace). IsPutOf w.circuits i z b) (some_is p q is) came)

-- ---- over an event

-- ---- over an event

own-length : (w : World) (e : Event) (n p : ℕ) → IsOwnPlace w e n p → (j : Joined) → At w.circuits n j → p ≡ length j.lists.handled
own-length w (event.ServerStep k) n p own j at = own.1 j (subst (λ (m : ℕ). At w.circuits m j) own.0 at)
own-length w (event.Open i name priority) n p own j at = absurd own
own-length w (event.Clear i c) n p own j at = absurd own
own-length w (event.Read i c data_type count) n p own j at = absurd own
own-length w (event.Write i c e) n p own j at = absurd own
own-length w (event.WriteNotify i c e) n p own j at = absurd own
own-length w (event.Subscribe i c data_type count mask) n p own j at = absurd own
own-length w (event.Unsubscribe i m) n p own j at = absurd own
own-length w (event.Collect i r) n p own j at = absurd own
own-length w (event.GiveUp i r) n p own j at = absurd own
own-length w (event.ClientDatagram i from bytes) n p own j at = absurd own
own-length w (event.ServerDatagram i from bytes) n p own j at = absurd own
own-length w (event.Accept i) n p own j at = absurd own
own-length w (event.Up k m) n p own j at = absurd own
own-length w (event.Down k m) n p own j at = absurd own
own-length w (event.ClientStep k) n p own j at = absurd own
own-length w (event.Pump k) n p own j at = absurd own
own-length w (event.CutClient k) n p own j at = absurd own
own-length w (event.CutServer k) n p own j at = absurd own
own-length w (event.ClientRestart i) n p own j at = absurd own
own-length w (event.ServerRestart i) n p own j at = absurd own
own-length w (event.Post i name e mask) n p own j at = absurd own
own-length w (event.Finish i name) n p own j at = absurd own
own-length w (event.Remove i name) n p own j at = absurd own
own-length w (event.Add i r) n p own j at = absurd own
own-length w (event.Tick moment) n p own j at = absurd own

step-since : (w new : World) (e : Event) → Happens w e new → OnStep (Since w (IsOwnPlace w e)) (since-lasting w (IsOwnPlace w e)) w e
step-since w new (event.ServerStep k) happens = λ j y at server.
    let one : happens.0.j ≡ j = At-one w.circuits k happens.0.j j happens.0.joins.at at in
    since-handled w (IsOwnPlace w (event.ServerStep k)) k j y.core at (subst (λ (z : Joined). z.lists.server_open ≡ true) one happens.0.is_open)
    (refl, λ i there. ap (λ (z : Joined). length z.lists.handled) (At-one w.circuits k j i at there))
step-since w new (event.Open i name priority) happens = tt
step-since w new (event.Clear i c) happens = tt
step-since w new (event.Read i c data_type count) happens = tt
step-since w new (event.Write i c e) happens = tt
step-since w new (event.WriteNotify i c e) happens = tt
step-since w new (event.Subscribe i c data_type count mask) happens = tt
step-since w new (event.Unsubscribe i m) happens = tt
step-since w new (event.Collect i r) happens = tt
step-since w new (event.GiveUp i r) happens = tt
step-since w new (event.ClientDatagram i from bytes) happens = tt
step-since w new (event.ServerDatagram i from bytes) happens = tt
step-since w new (event.Accept i) happens = tt
step-since w new (event.Up k m) happens = tt
step-since w new (event.Down k m) happens = tt
step-since w new (event.ClientStep k) happens = tt
step-since w new (event.Pump k) happens = tt
step-since w new (event.CutClient k) happens = tt
step-since w new (event.CutServer k) happens = tt
step-since w new (event.ClientRestart i) happens = tt
step-since w new (event.ServerRestart i) happens = tt
step-since w new (event.Post i name e mask) happens = tt
step-since w new (event.Finish i name) happens = tt
step-since w new (event.Remove i name) happens = tt
step-since w new (event.Add i r) happens = tt
step-since w new (event.Tick moment) happens = tt

-- What is kept after an event was kept before it, or is that of the message that was handled.
pub kept-from : (s : Setting) (w new : World) (e : Event) (n p : ℕ) → IsSetting s → TakesSent w → Sound s w → Happens w e new → n < length w.circuits → In (kept new n) p → In (kept w n) p ⊎ IsOwnPlace w e n p
kept-from s w new e n p ok takes h happens within there =
    elim since [
      | inr later ↦ absurd (omega (arith, within, later))
      | inl was ↦ from was.0 was.1 was.2 was.3 back k.3
    ]
  where
    k : (j : Joined) × At new.circuits n j × (j.lists.server_open ≡ true) × KeptBy n (records_at new j) j p
    k = kept-there new n p there

    d : Joined
    d = k.0

    sound : Sound s new
    sound = event-sound s w new e ok takes happens h

    seat : HasSeat new d
    seat = sound.seated.each n d k.1 k.2

    Extra : (m : ℕ) → ℕ → Type 0
    Extra = IsOwnPlace w e

    all : AllEnds (Since w (IsOwnPlace w e)) w
    all m c y f at server opened has = inl (c, at, opened, grows-same (IsOwnPlace w e m) c c refl (λ x z on. on) refl refl)

    begins : Begins (Since w (IsOwnPlace w e)) w
    begins m moment c more new_it = inr more

    since : Since w (IsOwnPlace w e) n seat.e d
    since = event-by (Since w (IsOwnPlace w e)) (since-lasting w (IsOwnPlace w e)) s w new e begins (step-since w new e happens) takes happens h all n d seat.y seat.e k.1 seat.at k.2 seat.has

    back : ((y : ServerSide) × At w.servers d.server y × ((q : PutPlace) → PutIn seat.y.records q → PutIn y.records q ⊎ IsOwnPut w e q)) ⊎ ((q : PutPlace) → PutIn seat.y.records q → ⊥)
    back = leaves-back w new e happens.0 happens.1 d.server seat.y seat.at

    from : (c : Joined) → At w.circuits n c → c.lists.server_open ≡ true → Grows (IsOwnPlace w e n) c d
        → (((y : ServerSide) × At w.servers d.server y × ((q : PutPlace) → PutIn seat.y.records q → PutIn y.records q ⊎ IsOwnPut w e q)) ⊎ ((q : PutPlace) → PutIn seat.y.records q → ⊥))
        → KeptBy n (records_at new d) d p → In (kept w n) p ⊎ IsOwnPlace w e n p
    from c on opened g (inr none) (inl (q, have, circuit, channel, is)) = absurd (none q (subst (λ (l : List RecordSide). PutIn l q) (records-there new d seat.y seat.at) have))
    from c on opened g (inl (y, at_y, puts)) (inl (q, have, circuit, channel, is)) = elim (puts q (subst (λ (l : List RecordSide). PutIn l q) (records-there new d seat.y seat.at) have)) [
      | inr own ↦ inr (subst (λ (z : ℕ × ℕ). IsOwnPlace w e z.0 z.1) (λ i. (circuit i, is i)) own)
      | inl old ↦
          let server_c : At w.servers c.server y = subst (λ (m : ℕ). At w.servers m y) g.server at_y in
          let facts = put-facts s w c.server y q h server_c old in
          let one : facts.c ≡ c = At-one w.circuits n facts.c c (subst (λ (m : ℕ). At w.circuits m facts.c) circuit facts.on) on in
          let sent : At c.lists.up q.place facts.s = subst (λ (z : Joined). At z.lists.up q.place facts.s) one facts.sent in
          let below : q.place < length c.lists.handled = subst (λ (z : Joined). q.place < length z.lists.handled) one (facts.handled (subst (λ (z : Joined). z.lists.server_open ≡ true) (sym one) opened)) in
          let x = channel-of d q.place channel in
          let sids : sid_at d.lists q.place ≡ sid_at c.lists q.place = sid-is d.lists q.place facts.s (g.up q.place facts.s sent) ∙ sym (sid-is c.lists q.place facts.s sent) in
          elim (g.creations x.0 x.1) [
            | inl was ↦
                inl (there-kept w n p c on opened
                (inl (q, subst (λ (l : List RecordSide). PutIn l q) (sym (records-there w c y server_c)) old, circuit, of-channel c q.place x.0 was (x.2 ∙ sids) x.3, is)))
            | inr own ↦ absurd (let at_end : x.0.place ≡ length c.lists.handled = own-length w e n x.0.place own c on in let lt : x.0.place < q.place = x.3 in omega (arith, at_end, lt, below))
          ]
    ]
    from c on opened g b (inr (inl (st, at, is))) = elim (g.standing st at) [
      | inl old ↦ inl (there-kept w n p c on opened (inr (inl (old.0, old.1, old.2 ∙ is))))
      | inr own ↦ inr (subst (λ (z : ℕ). IsOwnPlace w e n z) is own)
    ]
    from c on opened g b (inr (inr (x, at, is))) = elim (g.creations x at) [
      | inl old ↦ inl (there-kept w n p c on opened (inr (inr (x, old, is))))
      | inr own ↦ inr (subst (λ (z : ℕ). IsOwnPlace w e n z) is own)
    ]
