-- How what is known of a client and one circuit stays known, where nothing on a channel is sent,
-- and how a turn is put together.
use Rattle.std.proofs.Common.{◌≡◌, ℕ, ◌<◌, ◌≤◌, ◌⊎◌, inl, inr, Bool, true, false, ◌||◌, eqb, List, [], length, Some, refl, sym, ap, ◌∙◌, subst, arith}
use Rattle.std.specs.Prelude.{is_none}
use Rattle.std.proofs.lemmas.Bool.{both_ways}
use Rattle.std.proofs.lemmas.List.{append-nil}
use Rattle.ca_text.specs.Command.{command_number}
use Rattle.ca_text.specs.Place.{At}
use Rattle.ca_arena.specs.declared.handle.Handle.{Handle}
use Rattle.ca_ids.specs.Table.{Table, under}
use Rattle.ca_ids.specs.Wire.{wire_of}
use Rattle.ca_monitor.specs.Subscriptions.{Subscription, stands_in}
use Rattle.ca_requests.specs.Requests.{Asked, Request, command_of}
use Rattle.ca_wire.specs.Fields.{Fields}
use Rattle.ca_model.specs.Answers.{Sending}
use Rattle.ca_model.specs.Client.{Channel, Clearing, Client, Connecting, Creating, Doomed, Leaving, Live, Native, On, Phase, connection_at, sending}
use Rattle.ca_model.specs.ClientEnds.{is_connecting}
use Rattle.ca_model.specs.Sends.{Conduct, Frees, HasCleared, IsFree, IsOnChannel}
use Rattle.ca_model.specs.Speech.{Cid, Gives, Id, Ioid, SubId}
use Rattle.ca_model.specs.Placed.{IsPlaced}
use Rattle.ca_model.proofs.Placed.{Links, placed-linked}
use Rattle.ca_laws_parts.specs.Held.{AreFew}
use Rattle.ca_laws_parts.specs.ClientRows.{sent_on}
use Rattle.ca_laws_parts.specs.Conduct.{with_all_sent}
use Rattle.ca_laws_parts.proofs.Backs.{AsksAs, Backs, BacksOn, CancelsAs, SubscribesOn, Was, backs-same, over-back, sent-tables, subscribes-on}
use Rattle.ca_laws_parts.proofs.Given.{given-nothing, none-given}
use Rattle.ca_laws_parts.proofs.Growing.{Went}
use Rattle.ca_laws_parts.proofs.Rests.{OverAt, Rests, RestsBut, held-cancelled, rests-same}
use Rattle.ca_laws_parts.proofs.Sound.{AddedHeld, Base, ClearsNow, GoesOn, HeldAs, HeldThen, HeldWith, IsConnectedAt, IsEnding, Overs, Sound, Stands, Stopped, Turn, adds-held, turned}

-- ---- messages that give no id and are on no channel

-- the command of a message that gives an id or goes on a channel
abbrev pub talks : ℕ → Bool
talks n = eqb n 15 || (eqb n 19 || (eqb n 4 || (eqb n 1 || (eqb n 2 || (eqb n 12 || eqb n 18)))))

pub on-talks : (m : Fields) → IsOnChannel m → talks m.command ≡ true
on-talks m is = elim is [
  | inl reads ↦ ap talks reads
  | inr (inl puts) ↦ ap talks puts
  | inr (inr (inl writes)) ↦ ap talks writes
  | inr (inr (inr (inl adds))) ↦ ap talks adds
  | inr (inr (inr (inr (inl cancels)))) ↦ ap talks cancels
  | inr (inr (inr (inr (inr clears)))) ↦ ap talks clears
]

pub gives-talks : (m : Fields) (id : Id) → Gives m id → talks m.command ≡ true
gives-talks m (Cid n) gives = ap talks gives.0
gives-talks m (Ioid n) gives = elim gives.0 [
  | inl reads ↦ ap talks reads
  | inr puts ↦ ap talks puts
]
gives-talks m (SubId n) gives = ap talks gives.0

-- Each message is none such.
abbrev pub ArePlain : List Sending → Type 0
ArePlain sent = (i : ℕ) (s : Sending) → At sent i s → talks s.message.command ≡ false

ending-talks : (m : Fields) → IsEnding m → talks m.command ≡ true
ending-talks m is = elim is [
  | inl clears ↦ ap talks clears
  | inr cancels ↦ ap talks cancels
]

-- ---- what is held stays held

-- of a channel that is over this holds if that did before
module _ (on : Handle) (x y : Client) (e : Conduct) (Old New : ℕ → Type 0) (over : (h : Handle) → OverAt on y.channels h → (OverAt on x.channels h → Old (wire_of h)) → New (wire_of h)) where
  pub keeps-with : Rests on x y → AsksAs x.requests y.requests → SubscribesOn x.subscriptions y.subscriptions → (l : ℕ) (s : Fields) (id : Id)
      → HeldWith Old on x e l s id → HeldWith New on y e l s id
  keeps-with rests asks subs l s (Cid n) held = (let w = rests.channels held.0 held.1 held.2 held.4 in (held.0, w.0, w.1, held.3, w.2, λ o. over held.0 o held.5))
  keeps-with rests asks subs l s (Ioid n) held =
      let w = rests.requests held.0 held.1 held.2 held.4 in
      let same : (w.0).channel ≡ held.1.channel = asks held.0 held.1 w.0 held.2 w.1 in (
        held.0,
        w.0,
        w.1,
        held.3,
        w.2,
        held.5 ∙ ap (λ (a : Asked). command_number (command_of a)) (sym w.3),
        subst (λ (h : Handle). Went e l (wire_of h) s) (sym same) held.6,
        λ o. subst (λ (h : Handle). New (wire_of h)) (sym same) (over held.1.channel (subst (λ (h : Handle). OverAt on y.channels h) same o) held.7),
      )
  keeps-with rests asks subs l s (SubId n) held =
      let w = rests.subscriptions held.0 held.1 held.2 held.4 in
      let b = subs held.0 held.1 w.0 held.2 w.1 in (
        held.0,
        w.0,
        w.1,
        held.3,
        w.2,
        subst (λ (h : Handle). Went e l (wire_of h) s) (sym b.0) held.5,
        λ stands. held.6 (b.1 stands),
        λ o. subst (λ (h : Handle). New (wire_of h)) (sym b.0) (over held.1.channel (subst (λ (h : Handle). OverAt on y.channels h) b.0 o) held.7),
      )

module _ (on : Handle) (x y : Client) (e : Conduct) (sent : List Sending) (overs : Overs on sent x y) where
  over-so : (l : ℕ) (h : Handle) → OverAt on y.channels h → (OverAt on x.channels h → HasCleared e l (length e.sent) (wire_of h)) → HasCleared e l (length e.sent) (wire_of h) ⊎ ClearsNow on sent (wire_of h)
  over-so l h o was = elim (overs h o) [
    | inl old ↦ inl (was old)
    | inr now ↦ inr now
  ]

  pub keeps-rests : Rests on x y → AsksAs x.requests y.requests → SubscribesOn x.subscriptions y.subscriptions → (l : ℕ) (s : Fields) (id : Id)
      → HeldAs on x e l s id → HeldThen on sent y e l s id
  keeps-rests rests asks subs l s id held =
      keeps-with on x y e (λ (cid : ℕ). HasCleared e l (length e.sent) cid) (λ (cid : ℕ). HasCleared e l (length e.sent) cid ⊎ ClearsNow on sent cid) (over-so l) rests asks subs l s id held

  -- or what was read just now frees it
  pub keeps-but : (c : Handle) (m : Fields) → RestsBut on c m x y → AsksAs x.requests y.requests → SubscribesOn x.subscriptions y.subscriptions
      → (c ≡ on → (j : ℕ) × At e.came j m × At e.read j (length e.sent)) → Stopped on x e → (l : ℕ) (s : Fields) (id : Id) → At e.sent l s → l < length e.sent → Gives s id
      → HeldAs on x e l s id → HeldThen on sent y e l s id ⊎ IsFree e l (length e.sent)
  keeps-but c m rests asks subs read stopped l s (Cid n) at lt gives held = elim (rests.channels held.0 held.1 held.2 held.4) [
    | inl w ↦ inl (held.0, w.0, w.1, held.3, w.2, λ o. over-so l held.0 o held.5)
    | inr gone ↦
        let r = read gone.0 in
        inr (
          r.0,
          length e.sent,
          s,
          m,
          at,
          r.1,
          r.2,
          lt,
          omega arith,
          inl (
            gives.0,
            elim gone.1 [
              | inl fails ↦ inl (fails.0, fails.1 ∙ held.3 ∙ sym gives.1)
              | inr clears ↦ inr (clears.0, clears.1 ∙ held.3 ∙ sym gives.1, subst (λ (k : ℕ). HasCleared e l (length e.sent) k) (held.3 ∙ sym gives.1) (held.5 clears.2))
            ],
          ),
        )
  ]
  keeps-but c m rests asks subs read stopped l s (Ioid n) at lt gives held = elim (rests.requests held.0 held.1 held.2 held.4) [
    | inl w ↦
        let same : (w.0).channel ≡ held.1.channel = asks held.0 held.1 w.0 held.2 w.1 in
        inl (
          held.0,
          w.0,
          w.1,
          held.3,
          w.2,
          held.5 ∙ ap (λ (a : Asked). command_number (command_of a)) (sym w.3),
          subst (λ (h : Handle). Went e l (wire_of h) s) (sym same) held.6,
          λ o. subst (λ (h : Handle). HasCleared e l (length e.sent) (wire_of h) ⊎ ClearsNow on sent (wire_of h)) (sym same) (over-so l held.1.channel (subst (λ (h : Handle). OverAt on y.channels h) same o) held.7),
        )
    | inr gone ↦
        let r = read gone.0 in
        inr (
          r.0,
          length e.sent,
          s,
          m,
          at,
          r.1,
          r.2,
          lt,
          omega arith,
          elim gone.1 [
            | inl replies ↦ inr (inl (gives.0, inl (replies.0 ∙ sym held.5, replies.1 ∙ held.3 ∙ sym gives.1)))
            | inr (inl errs) ↦
                inr (inl (
                  gives.0,
                  inr (errs.0, (errs.1.0, errs.1.1.head, errs.1.1.text, errs.1.1.spells, errs.1.1.parts, errs.1.2 ∙ sym held.5, errs.1.3 ∙ held.3 ∙ sym gives.1)),
                ))
            | inr (inr clears) ↦ inr (inr (inr (held.6.0, held.6.1, wire_of held.1.channel, held.6.2, clears.0, clears.1, held.7 clears.2)))
          ],
        )
  ]
  keeps-but c m rests asks subs read stopped l s (SubId n) at lt gives held = elim (rests.subscriptions held.0 held.1 held.2 held.4) [
    | inl w ↦
        let b = subs held.0 held.1 w.0 held.2 w.1 in
        inl (
          held.0,
          w.0,
          w.1,
          held.3,
          w.2,
          subst (λ (h : Handle). Went e l (wire_of h) s) (sym b.0) held.5,
          λ stands. held.6 (b.1 stands),
          λ o. subst (λ (h : Handle). HasCleared e l (length e.sent) (wire_of h) ⊎ ClearsNow on sent (wire_of h)) (sym b.0) (over-so l held.1.channel (subst (λ (h : Handle). OverAt on y.channels h) b.0 o) held.7),
        )
    | inr gone ↦
        let r = read gone.0 in
        let freed : Frees e l (length e.sent) s m → IsFree e l (length e.sent) = λ f. (r.0, length e.sent, s, m, at, r.1, r.2, lt, omega arith, f) in
        elim gone.1 [
          | inl confirms ↦ elim (stopped held.0 held.1 l s held.2 (held-cancelled x.channels on confirms.3.0 held.1 confirms.3.1 held.4) at (gives.0, gives.1 ∙ sym held.3)) [
            | inl free ↦ inr free
            | inr stops ↦ inr (freed (inr (inr (inl (gives.0, inl (confirms.0, confirms.1, confirms.2 ∙ held.3 ∙ sym gives.1, stops))))))
          ]
          | inr (inl errs) ↦
              inr (freed (inr (inr (inl (
                gives.0,
                inr (
                  (errs.0, (errs.1.0, errs.1.1.head, errs.1.1.text, errs.1.1.spells, errs.1.1.parts, errs.1.2 ∙ sym gives.0, errs.1.3 ∙ held.3 ∙ sym gives.1)),
                  held.6 errs.2,
                ),
              )))))
          | inr (inr clears) ↦ inr (freed (inr (inr (inr (held.5.0, held.5.1, wire_of held.1.channel, held.5.2, clears.0, clears.1, held.7 clears.2)))))
        ]
  ]

-- ---- what is known of a channel that was there

module _ (on : Handle) (x : Client) (e : Conduct) where
  abbrev pub Known : Type 0
  Known = (h : Handle) (ch : Channel) (p : Phase) → under x.channels h ≡ Some ch → ch.standing ≡ On on p → Stands e (wire_of h) p

  pub stands-was : Known → (h : Handle) (p : Phase) → Was on x.channels h p → Stands e (wire_of h) p
  stands-was known h (Live n rights) was = known h was.0 (Live n was.1) was.2 was.3
  stands-was known h (Creating rights) was = known h was.0 (Creating was.1) was.2 was.3
  stands-was known h Doomed was = elim was.4 [
    | inl is ↦ known h was.0 Doomed was.2 (was.3 ∙ ap (λ (k : Phase). On on k) is)
    | inr is ↦ known h was.0 (Creating is.0) was.2 (was.3 ∙ ap (λ (k : Phase). On on k) is.1)
  ]
  stands-was known h Connecting was = tt
  stands-was known h Leaving was = tt
  stands-was known h Clearing was = tt

  -- a subscription that stands, on a channel that was live
  pub adds-was : Base on x e → (y : Client) → Backs on x y → (g : Handle) (d : Subscription) (ch : Channel) (n : Native) (rights : ℕ) → under y.subscriptions g ≡ Some d
      → stands_in d.stage ≡ true → under y.channels d.channel ≡ Some ch → ch.standing ≡ On on (Live n rights) → AddedHeld on x e n.sid (wire_of g)
  adds-was base y backs g d ch n rights there stands on_it live =
      let s = backs.subscriptions g d there in
      let was = backs.channels d.channel ch (Live n rights) on_it live in
      adds-held on x e base g s.0 was.0 n was.1 s.1 (s.3 stands) (subst (λ (h : Handle). under x.channels h ≡ Some was.0) s.2 was.2) was.3

-- a channel that is on a circuit, and does not wait for it: that is connected
pub live-linked : (on : Handle) (x : Client) (h : Handle) (ch : Channel) (p : Phase) → IsPlaced x → under x.channels h ≡ Some ch → ch.standing ≡ On on p
    → is_connecting p ≡ false → IsConnectedAt x on
live-linked on x h ch p placed there stands not_it = sym (placed.waiting h ch on p there stands) ∙ not_it

-- ---- turns

-- a client with the same tables
module _ (on : Handle) (x y z : Client) (e : Conduct) (sent : List Sending) (channels : y.channels ≡ z.channels) (requests : y.requests ≡ z.requests) (subscriptions : y.subscriptions ≡ z.subscriptions) (links : Links z y) where
  over-same : (h : Handle) → OverAt on y.channels h → OverAt on z.channels h
  over-same h o = subst (λ (v : Table Channel). OverAt on v h) channels o

  goes-same : (m : Fields) → GoesOn on z e m → GoesOn on y e m
  goes-same m g = (
    g.0,
    g.1,
    g.2,
    g.3,
    g.4,
    λ q r there which same. (let its = g.5 q r (subst (λ (t : Table Request). under t q ≡ Some r) requests there) which same in (its.0, λ o. its.1 (over-same r.channel o))),
    λ k d there which same. (let its = g.6 k d (subst (λ (t : Table Subscription). under t k ≡ Some d) subscriptions there) which same in (its.0, λ o. its.1 (over-same d.channel o))),
  )

  pub turn-same : Turn on x z e sent → Turn on x y e sent
  turn-same t = record {
    few = record {
      channels = subst (λ (v : Table Channel). length v ≤ 65536) (sym channels) t.few.channels;
      requests = subst (λ (v : Table Request). length v ≤ 65536) (sym requests) t.few.requests;
      subscriptions = subst (λ (v : Table Subscription). length v ≤ 65536) (sym subscriptions) t.few.subscriptions;
    };
    placed = placed-linked z y channels requests subscriptions links t.placed;
    stands = λ h ch p there. t.stands h ch p (subst (λ (v : Table Channel). under v h ≡ Some ch) channels there);
    cleared = λ i s h ch p at here clears there. t.cleared i s h ch p at here clears (subst (λ (v : Table Channel). under v h ≡ Some ch) channels there);
    adds = λ g d ch n rights there stands on_it.
        t.adds g d ch n rights (subst (λ (v : Table Subscription). under v g ≡ Some d) subscriptions there) stands (subst (λ (v : Table Channel). under v d.channel ≡ Some ch) channels on_it);
    cancelled = λ i s g d at here stops there. t.cancelled i s g d at here stops (subst (λ (v : Table Subscription). under v g ≡ Some d) subscriptions there);
    stops = λ g d there. t.stops g d (subst (λ (v : Table Subscription). under v g ≡ Some d) subscriptions there);
    alone = t.alone;
    goes = λ i s at here is. goes-same s.message (t.goes i s at here is);
    overs = λ h o. t.overs h (over-same h o);
    cancels = t.cancels;
    opens = λ connected. t.opens (sym (links on) ∙ connected);
    linked = t.linked;
    keeps = λ l s id at gives held. elim (t.keeps l s id at gives held) [
      | inl stays ↦
          let b = backs-same on z y channels requests subscriptions in
          let Over : ℕ → Type 0 = λ (cid : ℕ). HasCleared e l (length e.sent) cid ⊎ ClearsNow on sent cid in
          inl (keeps-with on z y e Over Over (λ h o was. was (over-same h o)) (rests-same on z y channels requests subscriptions) b.requests (subscribes-on _ _ b.subscriptions) l s id stays)
      | inr free ↦ inr free
    ];
  }

-- channels as they were
pub overs-back : (on : Handle) (x y : Client) (sent : List Sending) → BacksOn on x.channels y.channels → Overs on sent x y
overs-back on x y sent back h o = inl (over-back on x.channels y.channels back h o)

pub overs-same : (on : Handle) (x y : Client) (sent : List Sending) → y.channels ≡ x.channels → Overs on sent x y
overs-same on x y sent same h o = inl (subst (λ (v : Table Channel). OverAt on v h) same o)

-- no message on a channel is sent
pub turn-plain : (on : Handle) (x y : Client) (e : Conduct) (sent : List Sending) → Base on x e → Known on x e → AreFew y → IsPlaced y → Backs on x y
    → (IsConnectedAt y on → IsConnectedAt x on ⊎ (e.sent ≡ []))
    → ((l : ℕ) (s : Fields) (id : Id) → At e.sent l s → Gives s id → HeldAs on x e l s id → HeldThen on sent y e l s id ⊎ IsFree e l (length e.sent))
    → ArePlain sent → Turn on x y e sent
turn-plain on x y e sent base known few placed backs opens keeps plain = record {
  few = few;
  placed = placed;
  stands = λ h ch p there stands. inl (stands-was on x e known h p (backs.channels h ch p there stands));
  cleared = λ i s h ch p at here clears there stands same. absurd (both_ways (talks s.message.command) (plain i s at) (ap talks clears));
  adds = λ g d ch n rights there stands on_it live. inl (adds-was on x e base y backs g d ch n rights there stands on_it live);
  cancelled = λ i s g d at here stops there stands same. both_ways (talks s.message.command) (plain i s at) (ap talks stops);
  stops = λ g d there stops. inl (backs.cancelled on g d there stops);
  alone = λ i j s r at_s at_r ends. absurd (both_ways (talks s.message.command) (plain i s at_s) (ending-talks s.message ends));
  goes = λ i s at here is. absurd (both_ways (talks s.message.command) (plain i s at) (on-talks s.message is));
  overs = overs-back on x y sent backs.channels;
  cancels = λ i s at here stops. absurd (both_ways (talks s.message.command) (plain i s at) (ap talks stops));
  opens = opens;
  linked = λ i s id at here gives. absurd (both_ways (talks s.message.command) (plain i s at) (gives-talks s.message id gives));
  keeps = keeps;
}

-- ---- what is known stays known

pub sent-nothing : (on : Handle) (e : Conduct) → with_all_sent (sent_on on []) e ≡ e
sent-nothing on e = ap (λ (l : List Fields). let f : Conduct = record { sent = l; came = e.came; read = e.read } in f) (append-nil e.sent)

plain-none : (sent : List Sending) → ArePlain sent → (i : ℕ) (s : Sending) (id : Id) → At sent i s → Gives s.message id → ⊥
plain-none sent plain i s id at gives = both_ways (talks s.message.command) (plain i s at) (gives-talks s.message id gives)

-- tables as they were, and no message on a channel
pub sound-plain : (on : Handle) (x y : Client) (e : Conduct) (sent : List Sending) → y.channels ≡ x.channels → y.requests ≡ x.requests
    → y.subscriptions ≡ x.subscriptions → Links x y → ArePlain sent → Sound on x e → Sound on y (with_all_sent (sent_on on sent) e)
sound-plain on x y e sent channels requests subscriptions links plain sound =
    let b = backs-same on x y channels requests subscriptions in
    turned on x y e sent sound.base
    (turn-plain on x y e sent sound.base sound.channels
    (record {
      channels = subst (λ (v : Table Channel). length v ≤ 65536) (sym channels) sound.base.few.channels;
      requests = subst (λ (v : Table Request). length v ≤ 65536) (sym requests) sound.base.few.requests;
      subscriptions = subst (λ (v : Table Subscription). length v ≤ 65536) (sym subscriptions) sound.base.few.subscriptions;
    })
    (placed-linked x y channels requests subscriptions links sound.base.placed) b (λ connected. inl (sym (links on) ∙ connected))
    (λ l s id at gives held. inl (keeps-rests on x y e sent (overs-same on x y sent channels) (rests-same on x y channels requests subscriptions) b.requests (subscribes-on _ _ b.subscriptions) l s id held)) plain)
    (given-nothing on x y sent (plain-none sent plain))

no-message : (i : ℕ) (s : Sending) → At [] i s → ⊥
no-message i s at = cc

pub none-plain : ArePlain []
none-plain i s at = absurd (no-message i s at)

-- nothing is sent
pub sound-silent : (on : Handle) (x y : Client) (e : Conduct) → AreFew y → IsPlaced y → Backs on x y → (IsConnectedAt y on → IsConnectedAt x on)
    → ((l : ℕ) (s : Fields) (id : Id) → At e.sent l s → Gives s id → HeldAs on x e l s id → HeldThen on [] y e l s id ⊎ IsFree e l (length e.sent)) → Sound on x e → Sound on y e
sound-silent on x y e few placed backs opens keeps sound =
    subst (λ (f : Conduct). Sound on y f) (sent-nothing on e)
    (turned on x y e [] sound.base (turn-plain on x y e [] sound.base sound.channels few placed backs (λ connected. inl (opens connected)) keeps none-plain) (given-nothing on x y [] none-given))

-- messages wait on their circuits
pub turn-sending : (on : Handle) (x z : Client) (e : Conduct) (sent : List Sending) → Links z (sending sent z) → Turn on x z e sent → Turn on x (sending sent z) e sent
turn-sending on x z e sent links t = (let s = sent-tables sent z in turn-same on x (sending sent z) z e sent s.0 s.1 s.2 links t)

-- the circuit is not connected
pub sound-off : (on : Handle) (x y : Client) (e : Conduct) → is_none (connection_at y on) ≡ true → AreFew y → IsPlaced y → CancelsAs x.subscriptions y.subscriptions → Base on x e → Sound on y e
sound-off on x y e off few placed cancels base = record {
  base = record {
    few = few;
    placed = placed;
    told = base.told;
    adds = λ g d ch n rights there stands on_it live. absurd (both_ways (is_none (connection_at y on)) (live-linked on y d.channel ch (Live n rights) placed on_it live refl) off);
    stopped = λ g d l s there stops. (let b = cancels on g d there stops in base.stopped g b.0 l s b.1 b.2);
    held = λ connected l s id at gives. absurd (both_ways (is_none (connection_at y on)) connected off);
    legal = base.legal;
  };
  channels = λ h ch p there stands. go h p (placed.waiting h ch on p there stands ∙ off);
}
  where
    go : (h : Handle) (p : Phase) → is_connecting p ≡ true → Stands e (wire_of h) p
    go h (Live n rights) is = absurd (both_ways false refl is)
    go h (Creating rights) is = absurd (both_ways false refl is)
    go h Doomed is = absurd (both_ways false refl is)
    go h Connecting is = tt
    go h Leaving is = tt
    go h Clearing is = tt

-- messages wait on circuits
pub sound-waits : (on : Handle) (z : Client) (e : Conduct) (sent : List Sending) → Links z (sending sent z) → Sound on z e → Sound on (sending sent z) e
sound-waits on z e sent links sound =
    let s = sent-tables sent z in
    subst (λ (f : Conduct). Sound on (sending sent z) f) (sent-nothing on e) (sound-plain on z (sending sent z) e [] s.0 s.1 s.2 links none-plain sound)
