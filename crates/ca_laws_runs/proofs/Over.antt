-- For what a message ends its server keeps nothing then.
use Rattle.std.proofs.Common.{◌≡◌, ℕ, ◌<◌, inl, inr, Bool, true, false, eqb, eq-eqb, not, List, length, refl, sym, ap, subst, ◌∙◌, arith}
use Rattle.std.proofs.lemmas.Bool.{and_from, both_ways}
use Rattle.ca_link.specs.Link.{with_rest}
use Rattle.ca_queue.specs.declared.entry.SubKey.{SubKey}
use Rattle.ca_queue.specs.Keys.{same}
use Rattle.ca_text.specs.declared.command.Command.TheVariants as command
use Rattle.ca_text.specs.Place.{At}
use Rattle.ca_text.proofs.Places.{At-one}
use Rattle.ca_wire.specs.Fields.{Fields}
use Rattle.ca_model.specs.Due.{Action, Clears, Drops, Due, key_in}
use Rattle.ca_model.specs.History.{Ask, Cancel, Circuit, Clear, Create, Intent, On, Sent, Subscribe, Told}
use Rattle.ca_model.specs.ServerSteps.{knows}
use Rattle.ca_model.specs.Speech.{Creates, In, Is, sid_in}
use Rattle.ca_model.specs.Channels.{Asks, Suits}
use Rattle.ca_model.proofs.Thinner.{three-ways}
use Rattle.ca_model.specs.Events as event
use Rattle.ca_model.specs.Runs.{Happens}
use Rattle.ca_model.specs.ServerEvents.{StepHandles, handled_at, numbers_after}
use Rattle.ca_model.specs.World.{Creation, IsSetting, Joined, PutPlace, ServerSide, Setting, Standing, World}
use Rattle.ca_laws_parts.specs.Runs.{IsReached}
use Rattle.ca_laws_parts.specs.Flows.{Ends}
use Rattle.ca_laws_parts.specs.Sids.{IsClearedWithin}
use Rattle.ca_laws_parts.specs.Kept.{has_channel, kept, records_at}
use Rattle.ca_laws_parts.specs.Messages.{Messages}
use Rattle.ca_laws_parts.proofs.Puts.{PutIn}
use Rattle.ca_laws_parts.proofs.Thins.{KeptBy, channel-of, kept-there, put-facts, records-there, sid-is}
use Rattle.ca_laws_parts.proofs.Handled.{numbers-like, writes-like}
use Rattle.ca_laws_parts.specs.Seats.{Sound, TakesSent}
use Rattle.ca_laws_parts.proofs.Every.{event-sound}
use Rattle.ca_laws_parts.proofs.WritesLists.{In-kept}
use Rattle.ca_laws_runs.specs.Creations.{CreationsOn}
use Rattle.ca_laws_runs.specs.Held.{IsKnownStep}
use Rattle.ca_laws_runs.specs.Worlds.{IsOwnNext, ServersStand}
use Rattle.ca_laws_runs.proofs.Creations.{reached-creations}
use Rattle.ca_laws_runs.proofs.Found.{create-is}
use Rattle.ca_laws_runs.proofs.Handled.{circuit-is, moved, step, written-parts}
use Rattle.ca_laws_runs.proofs.StepWhole.{reached-serves, takes-next}
use Rattle.ca_laws_runs.specs.Created.{CreatedOn}
use Rattle.ca_laws_runs.specs.Under.{AllSayRight, IsCreatedBefore, SaysRight}
use Rattle.ca_laws_runs.proofs.Created.{reached-created}
use Rattle.ca_laws_runs.proofs.HeldStanding.{StandingOn, reached-standing}
use Rattle.ca_laws_runs.proofs.Under.{reached-writes, uncleared}

-- ---- a channel that is open still

module _ (c : Joined) (created : CreatedOn c) (says : SaysRight c.lists) (asked : (k : ℕ) (s : Sent) → At c.lists.up k s → Suits s.intent s.message) (creations : CreationsOn c) where
  abbrev place : ℕ
  place = length c.lists.handled

  -- what is noted as open was not cleared in between
  not-within : (x : Creation) (sid a b : ℕ) → In c.creations x → x.sid ≡ sid → x.place ≡ a → b < place → IsClearedWithin c.lists.up sid a b → ⊥
  not-within x sid a b there is at lt w =
      let after : a < w.0 = w.2 in
      let before : w.0 < b = w.3 in
      creations.uncleared x w.0 w.1 there (omega (arith, after, at)) (omega (arith, before, lt)) w.4 (w.5.0, w.5.1 ∙ sym is)

  -- a channel that is open under the SID of a message, and was created before it, is that on which
  -- the message was sent
  own-creation : (x : Creation) (channel j k sid p : ℕ) → In c.creations x → x.sid ≡ sid → x.place < p → p < place → IsCreatedBefore c.lists channel j k sid p → x.place ≡ k
  own-creation x channel j k sid p there is before lt b =
      let t = creations.told x there in
      let told : Creates t.1.message sid = (t.5.0, t.5.1 ∙ is) in
      elim (three-ways t.0 j) [
        | inl first ↦
            let r = created.apart t.0 j sid sid t.1 b.t first t.2 b.told.0 t.4 b.told.2 told b.told.3 refl in
            let early : k < p = b.early in
            absurd (not-within x sid x.place k there is refl (omega (arith, early, lt)) (subst (λ (z : ℕ × ℕ). IsClearedWithin c.lists.up sid z.0 z.1) (λ i. (t.3 i, b.told.1 i)) r.1))
        | inr (inl same_place) ↦
            let one : t.1 ≡ b.t = At-one c.lists.down j t.1 b.t (subst (λ (z : ℕ). At c.lists.down z t.1) same_place t.2) b.told.0 in
            sym t.3 ∙ ap (λ (z : Told). z.place) one ∙ b.told.1
        | inr (inr last) ↦
            let r = created.apart j t.0 sid sid b.t t.1 last b.told.0 t.2 b.told.2 t.4 b.told.3 told refl in
            let w : IsClearedWithin c.lists.up sid k x.place = subst (λ (z : ℕ × ℕ). IsClearedWithin c.lists.up sid z.0 z.1) (λ i. (b.told.1 i, t.3 i)) r.1 in
            let e : w.0 < x.place = w.3 in
            absurd (uncleared c created says.under asked channel j k sid p b (w.0, w.1, w.2, omega (arith, e, before), w.4, w.5))
      ]

  -- and under the SID of a later message on its channel, if it is the last that was created there
  same-sid : (x : Creation) (channel i h old p j k sid : ℕ) → In c.creations x → x.sid ≡ old → x.place < p → p < place → IsCreatedBefore c.lists channel i h old p → IsCreatedBefore c.lists channel j k sid place → old ≡ sid
  same-sid x channel i h old p j k sid there is before lt r s =
      let at : x.place ≡ h = own-creation x channel i h old p there is before lt r in
      let early : k < place = s.early in
      elim (three-ways h k) [
        | inl first ↦ absurd (not-within x old h k there is at early (says.between h k channel i old r.r s.r r.t first r.asked.0 s.asked.0 r.asked.1 s.asked.1 r.told.0 r.told.1 r.told.2 r.told.3))
        | inr (inl one) ↦
            let index : i ≡ j = created.once i j old sid r.t s.t r.told.0 s.told.0 r.told.2 s.told.2 r.told.3 s.told.3 (r.told.1 ∙ one ∙ sym s.told.1) in
            let t_is : r.t ≡ s.t = At-one c.lists.down j r.t s.t (subst (λ (z : ℕ). At c.lists.down z r.t) index r.told.0) s.told.0 in
            sym r.told.3.1 ∙ ap (λ (z : Told). z.message.p2) t_is ∙ s.told.3.1
        | inr (inr last) ↦ (let e : h < p = r.early in absurd (s.since h r.r Create last (omega (arith, e, lt)) r.asked.0 r.asked.1))
      ]

  -- the channel that a CREATE_CHAN on it made, if that is open
  same-made : (x : Creation) (channel j k sid : ℕ) (r : Sent) → In c.creations x → x.place < place → At c.lists.up x.place r → r.intent ≡ On channel Create → IsCreatedBefore c.lists channel j k sid place → x.sid ≡ sid
  same-made x channel j k sid r there lt at is s =
      let t = creations.told x there in
      let early : k < place = s.early in
      elim (three-ways x.place k) [
        | inl first ↦ absurd (not-within x x.sid x.place k there refl refl early (says.between x.place k channel t.0 x.sid r s.r t.1 first at s.asked.0 is s.asked.1 t.2 t.3 t.4 t.5))
        | inr (inl one) ↦
            let index : t.0 ≡ j = created.once t.0 j x.sid sid t.1 s.t t.2 s.told.0 t.4 s.told.2 t.5 s.told.3 (t.3 ∙ one ∙ sym s.told.1) in
            let t_is : t.1 ≡ s.t = At-one c.lists.down j t.1 s.t (subst (λ (z : ℕ). At c.lists.down z t.1) index t.2) s.told.0 in
            sym t.5.1 ∙ ap (λ (z : Told). z.message.p2) t_is ∙ s.told.3.1
        | inr (inr last) ↦ absurd (s.since x.place r Create last lt at is)
      ]

-- ---- commands

unlike : (n a b : ℕ) → n ≡ a → n ≡ b → eqb a b ≡ false → ⊥
unlike n a b f g other = both_ways (eqb a b) other (eq-eqb a b (sym f ∙ g))

not-creating : (ask : Ask) (m : Fields) (a : ℕ) → Asks ask m → m.command ≡ a → eqb a 18 ≡ false → ask ≡ Create → ⊥
not-creating ask m a asks is other create = unlike m.command a 18 is (subst (λ (z : Ask). Asks z m) create asks) other

not-true : (b : Bool) → b ≡ true → not b ≡ true → ⊥
not-true b is none = (let e : false ≡ true = ap (λ (x : Bool). not x) (sym is) ∙ none in cc)

-- ---- a step

module _ (s : Setting) (w new : World) (ok : IsSetting s) (h : ServersStand s w) (reached : IsReached w) (says : AllSayRight w) (k : ℕ) (j : Joined) (y : ServerSide) (happens : Happens w (event.ServerStep k) new) (f : StepHandles w k j y new)
    (on : At w.circuits k j) (at_y : At w.servers j.server y) (opened : j.lists.server_open ≡ true) (m : Sent) (there : At j.lists.up (length j.lists.handled) m) (r : Sent) (p : ℕ) (at_r : At j.lists.up p r) (lt : p < length j.lists.handled) where
  abbrev did : Action
  did = (f.steps.0).action

  created : CreatedOn j
  created = reached-created w reached k j on

  creations : CreationsOn j
  creations = reached-creations w reached k j y f.e on at_y opened f.has

  standing : StandingOn j
  standing = reached-standing w reached k j y f.e on at_y opened f.has

  messages : Messages j
  messages = h.messages k j on opened

  asked : (l : ℕ) (q : Sent) → At j.lists.up l q → Suits q.intent q.message
  asked l q at = h.stands.asked k l j q on at

  suits : (a : ℕ) (ask : Ask) (q : Sent) (l : ℕ) → At j.lists.up l q → q.intent ≡ On a ask → Asks ask q.message
  suits a ask q l at is = subst (λ (z : Intent). Suits z q.message) is (asked l q at)

  due : Due (knows y.core (record f.e { link = with_rest (f.steps.0).rest f.e.link })) m.message (f.steps.0).replies did
  due =
      let next = f.steps.0 in
      let sent = takes-next s w h k j y f.e next.m next.rest on at_y opened f.has next.takes in
      let one : sent.0 ≡ m = At-one j.lists.up (length j.lists.handled) sent.0 m sent.1 there in
      subst (λ (z : Fields). Due (knows y.core (record f.e { link = with_rest next.rest f.e.link })) z next.replies did) (sym sent.2 ∙ ap (λ (z : Sent). z.message) one) next.handles.due

  -- the circuit after it
  module _ (d : Joined) (at_d : At new.circuits k d) (open_d : d.lists.server_open ≡ true) where
    abbrev numbers : Joined
    numbers = numbers_after (length j.lists.handled) did j

    d_is : d ≡ handled_at (length j.lists.handled) (step w new k j y f) (f.steps.0).replies (moved w new k j y f)
    d_is = circuit-is w new k j y f on d at_d open_d

    creations-are : d.creations ≡ numbers.creations
    creations-are = ap (λ (z : Joined). z.creations) d_is ∙ (written-parts j.server y.core did numbers).0

    standing-was : (st : Standing) → In d.standing st → (t : Standing) × In numbers.standing t × (t.place ≡ st.place)
    standing-was st at = (written-parts j.server y.core did numbers).1 st (subst (λ (z : Joined). In z.standing st) d_is at)

    up-is : d.lists.up ≡ j.lists.up
    up-is = ap (λ (z : Joined). z.lists.up) d_is ∙ ap (λ (z : Circuit). z.up) ((writes-like j.server y.core did numbers).0 ∙ (numbers-like (length j.lists.handled) did j).0)

    -- a put is a WRITE_NOTIFY
    put-asks : (q : PutPlace) → PutIn (records_at new d) q → q.circuit ≡ k → q.place ≡ p → Is command.WriteNotify r.message
    put-asks q put circuit is =
        let takes : TakesSent w = takes-next s w h in
        let sound_new : Sound s new = event-sound s w new (event.ServerStep k) ok takes happens h.stands.sound in
        let seat = sound_new.seated.each k d at_d open_d in
        let facts = put-facts s new d.server seat.y q sound_new seat.at (subst (λ (l : List _). PutIn l q) (records-there new d seat.y seat.at) put) in
        let one : facts.c ≡ d = At-one new.circuits k facts.c d (subst (λ (n : ℕ). At new.circuits n facts.c) circuit facts.on) at_d in
        let sent : At j.lists.up p facts.s = subst (λ (z : List Sent × ℕ). At z.0 z.1 facts.s) (λ i. (up-is i, is i)) (subst (λ (z : Joined). At z.lists.up q.place facts.s) one facts.sent) in
        subst (λ (z : Sent). Is command.WriteNotify z.message) (At-one j.lists.up p facts.s r sent at_r) facts.asks

    put-channel : (q : PutPlace) → has_channel d q.place ≡ true → q.place ≡ p → (x : Creation) × In numbers.creations x × (x.sid ≡ sid_in r.message) × (x.place < p)
    put-channel q channel is =
        let x = channel-of d q.place channel in
        let at : At d.lists.up q.place r = subst (λ (z : List Sent × ℕ). At z.0 z.1 r) (λ i. (sym up-is i, sym is i)) at_r in
        (x.0, subst (λ (l : List Creation). In l x.0) creations-are x.1, x.2 ∙ sid-is d.lists q.place r at, subst (λ (z : ℕ). x.0.place < z) is x.3)

    -- ---- a CLEAR_CHANNEL

    cleared-over : (a : ℕ) (ask : Ask) → m.intent ≡ On a Clear → r.intent ≡ On a ask → KeptBy k (records_at new d) d p → ⊥
    cleared-over a ask clears is by = go by
      where
        is_clear : Is command.ClearChannel m.message
        is_clear = suits a Clear m (length j.lists.handled) there clears

        does : did ≡ Clears m.message.p1
        does = (due.clear is_clear).1

        own : (i l : ℕ) × IsCreatedBefore j.lists a i l (sid_in m.message) (length j.lists.handled)
        own = (says k j on).under (length j.lists.handled) a m Clear there clears (λ e. cc)

        kept-creation : (x : Creation) → In numbers.creations x → In j.creations x × (not (eqb x.sid m.message.p1) ≡ true)
        kept-creation x at = In-kept (λ (z : Creation). not (eqb z.sid m.message.p1)) j.creations x (subst (λ (b : Action). In (numbers_after (length j.lists.handled) b j).creations x) does at)

        kept-standing : (t : Standing) → In numbers.standing t → In j.standing t × (not (eqb t.key.sid m.message.p1) ≡ true)
        kept-standing t at = In-kept (λ (z : Standing). not (eqb z.key.sid m.message.p1)) j.standing t (subst (λ (b : Action). In (numbers_after (length j.lists.handled) b j).standing t) does at)

        not-own : (sid : ℕ) → not (eqb sid m.message.p1) ≡ true → sid ≡ m.message.p1 → ⊥
        not-own sid none same = not-true (eqb sid m.message.p1) (eq-eqb sid m.message.p1 same) none

        -- a channel that is open under the SID of the earlier message
        using : (x : Creation) → (ask ≡ Create → ⊥) → In j.creations x → x.sid ≡ sid_in r.message → x.place < p → sid_in r.message ≡ m.message.p1
        using x other in_it sid before =
            let u = (says k j on).under p a r ask at_r is other in
            same-sid j created (says k j on) asked creations x a u.0 u.1 (sid_in r.message) p own.0 own.1 (sid_in m.message) in_it sid before lt u.2 own.2

        go : KeptBy k (records_at new d) d p → ⊥
        go (inl (q, put, circuit, channel, at)) =
            let x = put-channel q channel at in
            let kept_x = kept-creation x.0 x.1 in
            let other = not-creating ask r.message 19 (suits a ask r p at_r is) (put-asks q put circuit at) refl in
            not-own x.0.sid kept_x.1 (x.2 ∙ using x.0 other kept_x.0 x.2 x.3)
        go (inr (inl (st, in_it, at))) =
            let t = standing-was st in_it in
            let kept_t = kept-standing t.0 t.1 in
            let place : t.0.place ≡ p = t.2 ∙ at in
            let adds = messages.subs t.0 kept_t.0 in
            let one : adds.0 ≡ r = At-one j.lists.up p adds.0 r (subst (λ (n : ℕ). At j.lists.up n adds.0) place adds.1) at_r in
            let sid : t.0.key.sid ≡ sid_in r.message = ap (λ (z : SubKey). z.sid) (sym adds.3) ∙ ap (λ (z : Sent). z.message.p1) one in
            let x = standing t.0 kept_t.0 in
            let other = not-creating ask r.message 1 (suits a ask r p at_r is) (subst (λ (z : Sent). Is command.EventAdd z.message) one adds.2) refl in
            not-own t.0.key.sid kept_t.1 (sid ∙ using x.0 other x.1 (x.2 ∙ sid) (subst (λ (n : ℕ). x.0.place < n) place x.3))
        go (inr (inr (x, in_it, at))) =
            let kept_x = kept-creation x (subst (λ (l : List Creation). In l x) creations-are in_it) in
            let made = messages.channels x kept_x.0 in
            let at_x : At j.lists.up x.place r = subst (λ (n : ℕ). At j.lists.up n r) (sym at) at_r in
            let one : made.0 ≡ r = At-one j.lists.up x.place made.0 r made.1 at_x in
            let create : ask ≡ Create = create-is ask r.message (suits a ask r p at_r is) (subst (λ (z : Sent). Is command.CreateChannel z.message) one made.2) in
            not-own x.sid kept_x.1 (same-made j created (says k j on) asked creations x a own.0 own.1 (sid_in m.message) r kept_x.0 made.3 at_x (is ∙ ap (λ (z : Ask). On a z) create) own.2)

    -- ---- an EVENT_CANCEL

    cancelled-over : (a number : ℕ) → m.intent ≡ On a (Cancel number) → r.intent ≡ On a (Subscribe number) → KeptBy k (records_at new d) d p → ⊥
    cancelled-over a number cancels is by = go by
      where
        is_add : Is command.EventAdd r.message
        is_add = suits a (Subscribe number) r p at_r is

        does : did ≡ Drops (key_in m.message)
        does = (due.cancel (suits a (Cancel number) m (length j.lists.handled) there cancels)).1

        kept-standing : (t : Standing) → In numbers.standing t → In j.standing t × (not (same (key_in m.message) t.key) ≡ true)
        kept-standing t at = In-kept (λ (z : Standing). not (same (key_in m.message) z.key)) j.standing t (subst (λ (b : Action). In (numbers_after (length j.lists.handled) b j).standing t) does at)

        kept-creation : (x : Creation) → In numbers.creations x → In j.creations x
        kept-creation x at = subst (λ (b : Action). In (numbers_after (length j.lists.handled) b j).creations x) does at

        go : KeptBy k (records_at new d) d p → ⊥
        go (inl (q, put, circuit, channel, at)) = unlike r.message.command 19 1 (put-asks q put circuit at) is_add refl
        go (inr (inr (x, in_it, at))) =
            let made = messages.channels x (kept-creation x (subst (λ (l : List Creation). In l x) creations-are in_it)) in
            let one : made.0 ≡ r = At-one j.lists.up p made.0 r (subst (λ (n : ℕ). At j.lists.up n made.0) at made.1) at_r in
            unlike r.message.command 18 1 (subst (λ (z : Sent). Is command.CreateChannel z.message) one made.2) is_add refl
        go (inr (inl (st, in_it, at))) =
            let t = standing-was st in_it in
            let kept_t = kept-standing t.0 t.1 in
            let place : t.0.place ≡ p = t.2 ∙ at in
            let adds = messages.subs t.0 kept_t.0 in
            let one : adds.0 ≡ r = At-one j.lists.up p adds.0 r (subst (λ (n : ℕ). At j.lists.up n adds.0) place adds.1) at_r in
            let key : t.0.key ≡ key_in r.message = sym adds.3 ∙ ap (λ (z : Sent). key_in z.message) one in
            let x = standing t.0 kept_t.0 in
            let u = (says k j on).under p a r (Subscribe number) at_r is (λ e. cc) in
            let own = (says k j on).under (length j.lists.handled) a m (Cancel number) there cancels (λ e. cc) in
            let sid : r.message.p1 ≡ m.message.p1 =
            same-sid j created (says k j on) asked creations x.0 a u.0 u.1 (sid_in r.message) p own.0 own.1 (sid_in m.message) x.1 (x.2 ∙ ap (λ (z : SubKey). z.sid) key) (subst (λ (n : ℕ). x.0.place < n) place x.3) lt u.2 own.2 in
            let sub : r.message.p2 ≡ m.message.p2 = (says k j on).subs p (length j.lists.handled) a a number r m at_r there is cancels in
            not-true (same (key_in m.message) t.0.key)
            (and_from (eqb m.message.p1 t.0.key.sid) (eqb m.message.p2 t.0.key.sub) (eq-eqb m.message.p1 t.0.key.sid (sym sid ∙ ap (λ (z : SubKey). z.sid) (sym key))) (eq-eqb m.message.p2 t.0.key.sub (sym sub ∙ ap (λ (z : SubKey). z.sub) (sym key))))
            kept_t.1

  over-by : (n : Intent) (o : Intent) → m.intent ≡ n → r.intent ≡ o → Ends n o → In (kept new k) p → ⊥
  over-by (On a Clear) (On b ask) is_m is_r ends in_it =
      let d = kept-there new k p in_it in
      cleared-over d.0 d.1 d.2 a ask is_m (is_r ∙ ap (λ (z : ℕ). On z ask) (sym ends)) d.3
  over-by (On a (Cancel number)) (On b (Subscribe other)) is_m is_r ends in_it =
      let d = kept-there new k p in_it in
      cancelled-over d.0 d.1 d.2 a number is_m (is_r ∙ (λ i. On (sym ends.0 i) (Subscribe (sym ends.1 i)))) d.3
  over-by n o is_m is_r ends in_it = absurd ends

pub reached-own : (w new : World) (k : ℕ) (j : Joined) (y : ServerSide) (f : StepHandles w k j y new) → IsReached w → AllSayRight w → Happens w (event.ServerStep k) new → At w.circuits k j → At w.servers j.server y → j.lists.server_open ≡ true → IsOwnNext w new k j y f
reached-own w new k j y f reached says happens on at opened =
    let h = reached-serves w reached in
    record {
      writes = λ s there writes cid is. reached-writes w reached (λ n c at_c. (says n c at_c).under) new k j y f on at opened s there writes cid is;
      over = λ s r p there at_r lt ends in_it. over-by h.0 w new h.1 h.2 reached says k j y happens f on at opened s there r p at_r lt s.intent r.intent refl refl ends in_it;
    }

pub reached-known : (w new : World) (k : ℕ) → IsReached w → AllSayRight w → Happens w (event.ServerStep k) new → IsKnownStep w (event.ServerStep k) new
reached-known w new k reached says happens j y f on at =
    reached-own w new k j y f reached says happens on at (subst (λ (z : Joined). z.lists.server_open ≡ true) (At-one w.circuits k happens.0.j j happens.0.joins.at on) happens.0.is_open)
