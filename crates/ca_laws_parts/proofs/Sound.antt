-- What a client's core holds of one circuit, by what it sent and read there alone,
-- and how that stays so.
use Rattle.std.proofs.Common.{◌≡◌, ◌≢◌, ℕ, ◌+◌, ◌<◌, ◌⊎◌, inl, inr, Bool, true, false, ◌&&◌, ◌||◌, List, [], length, Option, Some, refl, sym, ap, ◌∙◌, subst, arith}
use Rattle.std.specs.Prelude.{filter, is_none, option_map, unwrap_or}
use Rattle.std.proofs.lemmas.Bool.{and_from, both_ways, or_left, or_right}
use Rattle.ca_text.specs.Command.{command_number}
use Rattle.ca_text.specs.declared.command.Command.TheVariants as command
use Rattle.ca_text.specs.Place.{At}
use Rattle.ca_text.proofs.Places.{At-after, At-map, At-mapped, At-one, At-parts, At-within}
use Rattle.ca_arena.specs.declared.handle.Handle.{Handle}
use Rattle.ca_ids.specs.Table.{Table, same_handle, under}
use Rattle.ca_ids.specs.Wire.{wire_of}
use Rattle.ca_monitor.specs.Subscriptions.{Stage, Subscription, drains_in, is_cancelled_in, stands_in}
use Rattle.ca_monitor.specs.Subscriptions as monitor
use Rattle.ca_requests.specs.Requests.{Request, command_of, was_sent_on}
use Rattle.ca_wire.specs.Fields.{Fields}
use Rattle.ca_model.specs.Answers.{Sending}
use Rattle.ca_model.specs.Client.{Channel, Clearing, Client, Connecting, Creating, Doomed, Leaving, Live, Native, On, Phase, connection_at, is_on_in}
use Rattle.ca_model.specs.Sends.{Conduct, HasChannel, HasCleared, IsFree, IsOnChannel, IsUncancelled, LegalClient}
use Rattle.ca_model.specs.Speech.{Cid, Gives, Id, Ioid, Is, SubId, sid_in}
use Rattle.ca_model.specs.Placed.{IsPlaced}
use Rattle.ca_model.proofs.Handles.{same-is, same-itself}
use Rattle.ca_model.proofs.Standings.{is-on}
use Rattle.ca_model.proofs.Thinner.{three-ways}
use Rattle.ca_laws_parts.specs.Held.{AreFew, IsHeld, has_id, is_asked, is_subscribed}
use Rattle.ca_laws_parts.proofs.Marks.{at-filter, filter-at}
use Rattle.ca_laws_parts.specs.ClientRows.{sent_on}
use Rattle.ca_laws_parts.specs.Conduct.{with_all_sent}
use Rattle.ca_laws_parts.proofs.Filtered.{filter-order}
use Rattle.ca_laws_parts.proofs.Rests.{OverAt, is_over}
use Rattle.ca_laws_parts.proofs.Given.{Given, HeldBy}
use Rattle.ca_laws_parts.proofs.Growing.{Added, Asked, Grows, HasNow, IsTold, NoneCleared, StaysConnected, Went, added-now, added-sent, asked-now, asked-sent, channel-later, connected-later, free-forth, grows-sent, has-sent, longer, on-channel-forth, told-sent, uncancelled-forth, uncancelled-sent, went-forth}

-- What is known of a channel with this CID that is in this phase on the circuit.
abbrev pub Stands : Conduct → (cid : ℕ) → Phase → Type 0
Stands e cid (Creating rights) = (i : ℕ) × Asked e i cid
Stands e cid Doomed = (i : ℕ) × Asked e i cid
Stands e cid (Live n rights) = (i j : ℕ) × HasNow e i j cid n.sid
Stands e cid p = Unit {0}

-- A CLEAR_CHANNEL of this CID goes out now.
abbrev pub ClearsNow : (on : Handle) → List Sending → (cid : ℕ) → Type 0
ClearsNow on sent cid =
    (i : ℕ) × (s : Sending) × At sent i s × (s.circuit ≡ on) × Is command.ClearChannel s.message × (s.message.p2 ≡ cid)

-- A channel whose clear is not answered was so before, or is cleared now.
abbrev pub Overs : (on : Handle) → List Sending → Client → Client → Type 0
Overs on sent x y = (h : Handle) → OverAt on y.channels h → OverAt on x.channels h ⊎ ClearsNow on sent (wire_of h)

-- An id that message s at place l gave is held: by a request or a subscription on the channel on
-- which the message went out; no EVENT_CANCEL went out for one that stands; and of a channel that
-- is over this is so.
abbrev pub HeldWith : (Over : ℕ → Type 0) → (on : Handle) → Client → Conduct → (l : ℕ) → Fields → Id → Type 0
HeldWith Over on x e l s (Cid n) =
    (h : Handle) × (v : Channel) × (under x.channels h ≡ Some v) × (wire_of h ≡ n) × (is_on_in is_asked on v ≡ true)
    × (OverAt on x.channels h → Over (wire_of h))
HeldWith Over on x e l s (Ioid n) =
    (q : Handle) × (r : Request) × (under x.requests q ≡ Some r) × (wire_of q ≡ n) × (was_sent_on on r ≡ true)
    × (s.command ≡ command_number (command_of r.asked)) × Went e l (wire_of r.channel) s × (OverAt on x.channels r.channel → Over (wire_of r.channel))
HeldWith Over on x e l s (SubId n) =
    (g : Handle) × (d : Subscription) × (under x.subscriptions g ≡ Some d) × (wire_of g ≡ n) × (has_id x.channels on d ≡ true)
    × Went e l (wire_of d.channel) s × (stands_in d.stage ≡ true → IsUncancelled e l (length e.sent) s)
    × (OverAt on x.channels d.channel → Over (wire_of d.channel))

-- Its CLEAR_CHANNEL went out after the message; or goes out now.
abbrev pub HeldAs : (on : Handle) → Client → Conduct → (l : ℕ) → Fields → Id → Type 0
HeldAs on x e l s id = HeldWith (λ (cid : ℕ). HasCleared e l (length e.sent) cid) on x e l s id

abbrev pub HeldThen : (on : Handle) → List Sending → Client → Conduct → (l : ℕ) → Fields → Id → Type 0
HeldThen on sent x e l s id = HeldWith (λ (cid : ℕ). HasCleared e l (length e.sent) cid ⊎ ClearsNow on sent cid) on x e l s id

-- What gave the id of a subscription that is cancelled there is free, or was cancelled.
abbrev pub Stopped : (on : Handle) → Client → Conduct → Type 0
Stopped on x e =
    (g : Handle) (d : Subscription) (l : ℕ) (s : Fields) → under x.subscriptions g ≡ Some d → is_cancelled_in on d.stage ≡ true
    → At e.sent l s → Gives s (SubId (wire_of g)) → IsFree e l (length e.sent) ⊎ (IsUncancelled e l (length e.sent) s → ⊥)

-- the circuit is connected
abbrev pub IsConnectedAt : Client → Handle → Type 0
IsConnectedAt x on = is_none (connection_at x on) ≡ false

-- All that is known, but for what its channels are.
pub record Base (on : Handle) (x : Client) (e : Conduct) : Type 0 where
  pub few : AreFew x
  pub placed : IsPlaced x
  pub told : IsTold e
  pub adds : (g : Handle) (d : Subscription) (ch : Channel) (n : Native) (rights : ℕ) → under x.subscriptions g ≡ Some d
      → stands_in d.stage ≡ true → under x.channels d.channel ≡ Some ch → ch.standing ≡ On on (Live n rights) → Added e n.sid (wire_of g)
  pub stopped : Stopped on x e
  pub held : IsConnectedAt x on → (l : ℕ) (s : Fields) (id : Id) → At e.sent l s → Gives s id
      → IsFree e l (length e.sent) ⊎ HeldAs on x e l s id
  pub legal : LegalClient e

-- a subscription that is cancelled on the circuit has its id there
pub cancelled-held : (t : Table Channel) (on : Handle) (d : Subscription) → is_cancelled_in on d.stage ≡ true → has_id t on d ≡ true
cancelled-held t on d stops = go d.stage stops
  where
    go : (s : Stage) → is_cancelled_in on s ≡ true
        → (drains_in on s || (stands_in s && unwrap_or (option_map (is_on_in is_subscribed on) (under t d.channel)) false)) ≡ true
    go monitor.Stands h = absurd (both_ways false refl h)
    go (monitor.Cancelled o) h = or_left (same_handle o on) (false && unwrap_or (option_map (is_on_in is_subscribed on) (under t d.channel)) false) h
    go (monitor.Ended o) h = absurd (both_ways false refl h)

-- one that stands on a channel that is live there has it too
pub live-held : (t : Table Channel) (on : Handle) (d : Subscription) (ch : Channel) (n : Native) (rights : ℕ) → stands_in d.stage ≡ true → under t d.channel ≡ Some ch
    → ch.standing ≡ On on (Live n rights) → has_id t on d ≡ true
live-held t on d ch n rights stands there live =
    or_right (drains_in on d.stage) (stands_in d.stage && unwrap_or (option_map (is_on_in is_subscribed on) (under t d.channel)) false)
    (and_from (stands_in d.stage) (unwrap_or (option_map (is_on_in is_subscribed on) (under t d.channel)) false) stands
    (ap (λ (o : Option Channel). unwrap_or (option_map (is_on_in is_subscribed on) o) false) there ∙ is-on is_subscribed on ch (Live n rights) live))

-- The EVENT_ADD of this id went out, and a subscription holds that.
abbrev pub AddedHeld : (on : Handle) → Client → Conduct → (sid id : ℕ) → Type 0
AddedHeld on x e sid id = Added e sid id × IsHeld (has_id x.channels on) x.subscriptions id

pub adds-held : (on : Handle) (x : Client) (e : Conduct) → Base on x e → (g : Handle) (d : Subscription) (ch : Channel) (n : Native) (rights : ℕ) → under x.subscriptions g ≡ Some d
    → stands_in d.stage ≡ true → under x.channels d.channel ≡ Some ch → ch.standing ≡ On on (Live n rights) → AddedHeld on x e n.sid (wire_of g)
adds-held on x e base g d ch n rights there stands on_it live =
    (base.adds g d ch n rights there stands on_it live, (g, d, there, refl, live-held x.channels on d ch n rights stands on_it live))

-- And what its channels are.
pub record Sound (on : Handle) (x : Client) (e : Conduct) : Type 0 where
  pub base : Base on x e
  pub channels : (h : Handle) (ch : Channel) (p : Phase) → under x.channels h ≡ Some ch → ch.standing ≡ On on p
      → Stands e (wire_of h) p

-- ---- a call, after what it read

-- A message on a channel goes out on one that the client has; it is that of the request or the
-- subscription whose id the message gives, and is not over.
abbrev pub GoesOn : (on : Handle) → Client → Conduct → Fields → Type 0
GoesOn on y e m =
    (i j cid : ℕ) × HasChannel e (length e.sent) i j cid (sid_in m)
    × ((Is command.ClearChannel m × (m.p2 ≡ cid)) ⊎ ((Is command.ClearChannel m → ⊥) × StaysConnected e i j cid))
    × ((q : Handle) (r : Request) → under y.requests q ≡ Some r → Is command.ReadNotify m ⊎ Is command.WriteNotify m → m.p2 ≡ wire_of q
    → (wire_of r.channel ≡ cid) × (OverAt on y.channels r.channel → ⊥))
    × ((g : Handle) (d : Subscription) → under y.subscriptions g ≡ Some d → Is command.EventAdd m → m.p2 ≡ wire_of g
    → (wire_of d.channel ≡ cid) × (OverAt on y.channels d.channel → ⊥))

-- it ends a channel or a subscription
abbrev pub IsEnding : Fields → Type 0
IsEnding m = Is command.ClearChannel m ⊎ Is command.EventCancel m

-- A phase in which more is known of a channel.
abbrev pub is_kept : Phase → Bool
is_kept (Creating rights) = true
is_kept Doomed = true
is_kept (Live n rights) = true
is_kept p = false

-- From client x to client y, by which these messages are sent after what was done by then.
pub record Turn (on : Handle) (x y : Client) (e : Conduct) (sent : List Sending) : Type 0 where
  pub few : AreFew y
  pub placed : IsPlaced y
  pub stands : (h : Handle) (ch : Channel) (p : Phase) → under y.channels h ≡ Some ch → ch.standing ≡ On on p
      → Stands e (wire_of h) p ⊎ ((rights : ℕ) × (p ≡ Creating rights)
      × (i : ℕ) × (s : Sending) × At sent i s × (s.circuit ≡ on) × Gives s.message (Cid (wire_of h)))
  pub cleared : (i : ℕ) (s : Sending) (h : Handle) (ch : Channel) (p : Phase) → At sent i s → s.circuit ≡ on
      → Is command.ClearChannel s.message → under y.channels h ≡ Some ch → ch.standing ≡ On on p → s.message.p2 ≡ wire_of h
      → is_kept p ≡ false
  pub adds : (g : Handle) (d : Subscription) (ch : Channel) (n : Native) (rights : ℕ) → under y.subscriptions g ≡ Some d
      → stands_in d.stage ≡ true → under y.channels d.channel ≡ Some ch → ch.standing ≡ On on (Live n rights)
      → AddedHeld on x e n.sid (wire_of g) ⊎ ((i : ℕ) × (s : Sending) × At sent i s × (s.circuit ≡ on) × Is command.EventAdd s.message
      × (s.message.p1 ≡ n.sid) × (s.message.p2 ≡ wire_of g))
  pub cancelled : (i : ℕ) (s : Sending) (g : Handle) (d : Subscription) → At sent i s → s.circuit ≡ on
      → Is command.EventCancel s.message → under y.subscriptions g ≡ Some d → stands_in d.stage ≡ true → s.message.p2 ≢ wire_of g
  pub stops : (g : Handle) (d : Subscription) → under y.subscriptions g ≡ Some d → is_cancelled_in on d.stage ≡ true
      → ((b : Subscription) × (under x.subscriptions g ≡ Some b) × (is_cancelled_in on b.stage ≡ true))
      ⊎ ((i : ℕ) × (s : Sending) × At sent i s × (s.circuit ≡ on) × Is command.EventCancel s.message × (s.message.p2 ≡ wire_of g))
  pub alone : (i j : ℕ) (s r : Sending) → At sent i s → At sent j r → IsEnding s.message → i ≡ j
  pub goes : (i : ℕ) (s : Sending) → At sent i s → s.circuit ≡ on → IsOnChannel s.message → GoesOn on y e s.message
  pub overs : Overs on sent x y
  pub cancels : (i : ℕ) (s : Sending) → At sent i s → s.circuit ≡ on → Is command.EventCancel s.message
      → Added e s.message.p1 s.message.p2
  pub opens : IsConnectedAt y on → IsConnectedAt x on ⊎ (e.sent ≡ [])
  pub linked : (i : ℕ) (s : Sending) (id : Id) → At sent i s → s.circuit ≡ on → Gives s.message id → IsConnectedAt x on ⊎ (e.sent ≡ [])
  pub keeps : (l : ℕ) (s : Fields) (id : Id) → At e.sent l s → Gives s id → HeldAs on x e l s id
      → HeldThen on sent y e l s id ⊎ IsFree e l (length e.sent)

-- what was sent on the circuit is of the call
pub said-at : (on : Handle) (sent : List Sending) (q : ℕ) (m : Fields) → At (sent_on on sent) q m
    → (i : ℕ) × (s : Sending) × At sent i s × (s.circuit ≡ on) × (m ≡ s.message)
said-at on sent q m at =
    let p : Sending → Bool = λ (s : Sending). same_handle s.circuit on in
    let b = At-mapped (λ (s : Sending). s.message) (filter p sent) q m at in
    let f = at-filter p sent q b.0 b.1 in
    (f.0, b.0, f.1, same-is b.0.circuit on f.2, b.2)

said-order : (on : Handle) (sent : List Sending) (p q : ℕ) (m n : Fields) → p < q → At (sent_on on sent) p m → At (sent_on on sent) q n
    → (i j : ℕ) × (s r : Sending) × (i < j) × At sent i s × At sent j r × (s.circuit ≡ on) × (r.circuit ≡ on) × (m ≡ s.message) × (n ≡ r.message)
said-order on sent p q m n lt at_m at_n =
    let t : Sending → Bool = λ (s : Sending). same_handle s.circuit on in
    let b = At-mapped (λ (s : Sending). s.message) (filter t sent) p m at_m in
    let c = At-mapped (λ (s : Sending). s.message) (filter t sent) q n at_n in
    let o = filter-order t sent p q b.0 c.0 lt b.1 c.1 in
    let f = at-filter t sent p b.0 b.1 in
    let g = at-filter t sent q c.0 c.1 in
    (o.0, o.1, b.0, c.0, o.2, o.3, o.4, same-is b.0.circuit on f.2, same-is c.0.circuit on g.2, b.2, c.2)

none-sent : (l : ℕ) (s : Fields) → At [] l s → ⊥
none-sent l s at = cc

said-there : (on : Handle) (sent : List Sending) (i : ℕ) (s : Sending) → At sent i s → s.circuit ≡ on
    → (q : ℕ) × At (sent_on on sent) q s.message
said-there on sent i s at here =
    let t : Sending → Bool = λ (z : Sending). same_handle z.circuit on in
    let f = filter-at t sent i s at (subst (λ (h : Handle). same_handle h on ≡ true) (sym here) (same-itself on)) in
    (f.0, At-map (λ (z : Sending). z.message) (filter t sent) f.0 s f.1)

-- All stays known.
module _ (on : Handle) (x y : Client) (e : Conduct) (sent : List Sending) (base : Base on x e) (turn : Turn on x y e sent) (given : Given on x y sent) where
  abbrev ms : List Fields
  ms = sent_on on sent

  abbrev pub after : Conduct
  after = with_all_sent ms e

  grows : Grows e after
  grows = grows-sent e ms base.told

  more : length after.sent ≡ length e.sent + length ms
  more = longer e ms base.told

  -- an ending message is the only one
  only : (p q : ℕ) (m n : Fields) → p < q → At ms p m → At ms q n → IsEnding m ⊎ IsEnding n → ⊥
  only p q m n lt at_m at_n ends =
      let o = said-order on sent p q m n lt at_m at_n in
      let less : o.0 < o.1 = o.4 in
      elim ends [
        | inl first ↦ (let one : o.0 ≡ o.1 = turn.alone o.0 o.1 o.2 o.3 o.5 o.6 (subst (λ (z : Fields). IsEnding z) o.9 first) in omega (arith, less, one))
        | inr second ↦ (let one : o.1 ≡ o.0 = turn.alone o.1 o.0 o.3 o.2 o.6 o.5 (subst (λ (z : Fields). IsEnding z) o.10 second) in omega (arith, less, one))
      ]

  none-cleared : (h : Handle) (ch : Channel) (p : Phase) → under y.channels h ≡ Some ch → ch.standing ≡ On on p → is_kept p ≡ true
      → NoneCleared ms (wire_of h)
  none-cleared h ch p there stands kept q r at clears same =
      let s = said-at on sent q r at in
      let no : is_kept p ≡ false = turn.cleared s.0 s.1 h ch p s.2 s.3 (subst (λ (z : Fields). Is command.ClearChannel z) s.4 clears) there stands (ap (λ (z : Fields). z.p2) (sym s.4) ∙ same) in
      both_ways (is_kept p) no kept

  -- ---- its channels

  stands-forth : (h : Handle) (ch : Channel) (p : Phase) → under y.channels h ≡ Some ch → ch.standing ≡ On on p → Stands e (wire_of h) p → Stands after (wire_of h) p
  stands-forth h ch (Creating rights) there stands known = (known.0, asked-sent e ms base.told known.0 (wire_of h) (none-cleared h ch (Creating rights) there stands refl) known.1)
  stands-forth h ch Doomed there stands known = (known.0, asked-sent e ms base.told known.0 (wire_of h) (none-cleared h ch Doomed there stands refl) known.1)
  stands-forth h ch (Live n rights) there stands known =
      (known.0, known.1, has-sent e ms base.told known.0 known.1 (wire_of h) n.sid (none-cleared h ch (Live n rights) there stands refl) known.2)
  stands-forth h ch Connecting there stands known = tt
  stands-forth h ch Leaving there stands known = tt
  stands-forth h ch Clearing there stands known = tt

  channels-after : (h : Handle) (ch : Channel) (p : Phase) → under y.channels h ≡ Some ch → ch.standing ≡ On on p → Stands after (wire_of h) p
  channels-after h ch p there stands = elim (turn.stands h ch p there stands) [
    | inl known ↦ stands-forth h ch p there stands known
    | inr asks ↦
        let q = said-there on sent asks.2 asks.3 asks.4 asks.5 in
        let kept : is_kept p ≡ true = ap is_kept asks.1 in
        subst (λ (k : Phase). Stands after (wire_of h) k) (sym asks.1)
        (length e.sent + q.0, asked-now e ms base.told q.0 (wire_of h) asks.3.message q.1 asks.6 (none-cleared h ch p there stands kept))
  ]

  -- ---- its subscriptions

  adds-after : (g : Handle) (d : Subscription) (ch : Channel) (n : Native) (rights : ℕ) → under y.subscriptions g ≡ Some d
      → stands_in d.stage ≡ true → under y.channels d.channel ≡ Some ch → ch.standing ≡ On on (Live n rights) → Added after n.sid (wire_of g)
  adds-after g d ch n rights there stands on_it live = elim (turn.adds g d ch n rights there stands on_it live) [
    | inl old ↦
        added-sent e ms base.told n.sid (wire_of g) (λ q r at stops same.
        let s = said-at on sent q r at in
        turn.cancelled s.0 s.1 g d s.2 s.3 (subst (λ (z : Fields). Is command.EventCancel z) s.4 stops) there stands (ap (λ (z : Fields). z.p2) (sym s.4) ∙ same))
        (λ q r at gives.
        let s = said-at on sent q r at in
        given.idle s.0 s.1 (SubId (wire_of g)) s.2 s.3 (subst (λ (z : Fields). Gives z (SubId (wire_of g))) s.4 gives) (SubId (wire_of g)) r old.1 refl) old.0
    | inr new ↦
        let q = said-there on sent new.0 new.1 new.2 new.3 in
        subst (λ (k : ℕ). Added after n.sid k) new.6
        (added-now e ms base.told q.0 n.sid new.1.message q.1 new.4 new.5 (λ p r lt at stops. only q.0 p new.1.message r lt q.1 at (inr (inr stops)))
        (λ p r lt at gives.
        let o = said-order on sent q.0 p new.1.message r lt q.1 at in
        let id : Id = SubId (new.1.message).p2 in
        given.once o.0 o.1 o.2 o.3 id id o.4 o.5 o.6 o.7 o.8 (subst (λ (z : Fields). Gives z id) o.9 (new.4, refl)) (subst (λ (z : Fields). Gives z id) o.10 gives) refl))
  ]

  -- an ending message is the only one that goes out
  alone-there : (r : Sending) → IsEnding r.message → (i : ℕ) → At sent i r → r.circuit ≡ on → (p : ℕ) (m : Fields) → At ms p m → m ≡ r.message
  alone-there r ends i at_r here p m at_m =
      let q = said-there on sent i r at_r here in
      elim (three-ways p q.0) [
        | inl less ↦ absurd (only p q.0 m r.message less at_m q.1 (inr ends))
        | inr (inr more_it) ↦ absurd (only q.0 p r.message m more_it q.1 at_m (inl ends))
        | inr (inl one) ↦ At-one ms q.0 m r.message (subst (λ (k : ℕ). At ms k m) one at_m) q.1
      ]

  -- what is cancelled was so before, or its EVENT_CANCEL goes out now
  stopped-after : Stopped on y after
  stopped-after g d l s there cancelled at gives = elim (turn.stops g d there cancelled) [
    | inl was ↦ elim (At-parts e.sent ms l s at) [
      | inl old ↦ elim (base.stopped g was.0 l s was.1 was.2 old gives) [
        | inl free ↦ inl (free-forth e after grows l (length e.sent) (length after.sent) (omega arith) (omega (arith, more)) free)
        | inr stops ↦ inr (λ u. stops (λ i r late before row is. u i r late (omega (arith, before, more)) (grows.sent i r row) is))
      ]
      | inr new ↦
          let q = said-at on sent new.0 s new.2 in
          absurd (given.idle q.0 q.1 (SubId (wire_of g)) q.2 q.3 (subst (λ (z : Fields). Gives z (SubId (wire_of g))) q.4 gives) (SubId (wire_of g)) s (g, was.0, was.1, refl, cancelled-held x.channels on was.0 was.2) refl)
    ]
    | inr now ↦ elim (At-parts e.sent ms l s at) [
      | inr new ↦
          absurd (let same : s ≡ (now.1).message = alone-there now.1 (inr now.4) now.0 now.2 now.3 new.0 s new.2 in
          let a : s.command ≡ 1 = gives.0 in
          let b : s.command ≡ 2 = ap (λ (z : Fields). z.command) same ∙ now.4 in
          omega (arith, a, b))
      | inl old ↦ stopped-now g now.0 now.1 now.2 now.3 now.4 now.5 l s old gives
    ]
  ]
    where
      stopped-now : (g : Handle) (i : ℕ) (r : Sending) → At sent i r → r.circuit ≡ on → Is command.EventCancel r.message → r.message.p2 ≡ wire_of g → (l : ℕ) (s : Fields) → At e.sent l s
          → Gives s (SubId (wire_of g)) → IsFree after l (length after.sent) ⊎ (IsUncancelled after l (length after.sent) s → ⊥)
      stopped-now g i r at_r here stops id l s at gives =
          let q = said-there on sent i r at_r here in
          let a = turn.cancels i r at_r here stops in
          let place : a.0 < length e.sent = At-within e.sent a.0 a.1 a.2 in
          let id_is : a.1.p2 ≡ wire_of g = a.5 ∙ id in
          elim (three-ways l a.0) [
            | inl less ↦
                inl (free-forth e after grows l a.0 (length after.sent) (omega (arith, place)) (omega (arith, place, more))
                (base.legal.ids l a.0 s a.1 (SubId (wire_of g)) (SubId (wire_of g)) less at a.2 gives (a.3, id_is) refl))
            | inr (inl one) ↦
                let same : s ≡ a.1 = At-one e.sent a.0 s a.1 (subst (λ (k : ℕ). At e.sent k s) one at) a.2 in
                let within : q.0 < length ms = At-within ms q.0 r.message q.1 in
                inr (λ u. u (length e.sent + q.0) r.message (omega (arith, one, place)) (omega (arith, within, more)) (At-after e.sent ms q.0 r.message q.1) stops
                (sym a.4 ∙ ap (λ (z : Fields). z.p1) (sym same)) (id ∙ sym gives.1))
            | inr (inr later) ↦ absurd (a.7 l s later at (gives.0, gives.1 ∙ sym id))
          ]

  -- ---- the ids that it gave

  went-new : (q i j cid : ℕ) (m : Fields) → At ms q m → HasChannel e (length e.sent) i j cid (sid_in m)
      → HasChannel after (length e.sent + q) i j cid (sid_in m)
  went-new q i j cid m at h =
      channel-later e ms base.told (length e.sent + q) i j cid (sid_in m) (omega arith)
      (λ p r lt at_r clears. absurd (only p q r m (omega (arith, lt)) at_r at (inl (inl clears)))) h

  uncancelled-new : (q : ℕ) (m : Fields) → At ms q m → IsUncancelled after (length e.sent + q) (length after.sent) m
  uncancelled-new q m at i r late before there stops = elim (At-parts e.sent ms i r there) [
    | inl old ↦ absurd (let lt : i < length e.sent = At-within e.sent i r old in omega (arith, lt, late))
    | inr new ↦ absurd (let place : i ≡ length e.sent + new.0 = new.1 in only q new.0 m r (omega (arith, place, late)) at new.2 (inr (inr stops)))
  ]

  -- a CLEAR_CHANNEL went out, or does now
  cleared-now : (l cid : ℕ) → l < length e.sent → HasCleared e l (length e.sent) cid ⊎ ClearsNow on sent cid → HasCleared after l (length after.sent) cid
  cleared-now l cid lt which = elim which [
    | inl old ↦ (let upto : old.0 < length e.sent = old.3 in (old.0, old.1, old.2, omega (arith, upto, more), grows.sent old.0 old.1 old.4, old.5, old.6))
    | inr now ↦
        let q = said-there on sent now.0 now.1 now.2 now.3 in
        let within : q.0 < length ms = At-within ms q.0 (now.1).message q.1 in
        (length e.sent + q.0, (now.1).message, omega (arith, lt), omega (arith, within, more), At-after e.sent ms q.0 (now.1).message q.1, now.4, now.5)
  ]

  -- the channel of a CREATE_CHAN that goes out is not over
  created-stays : (q : ℕ) (m : Fields) (h : Handle) → At ms q m → Gives m (Cid (wire_of h)) → OverAt on y.channels h → ⊥
  created-stays q m h at gives over = elim (turn.overs h over) [
    | inl old ↦
        let s = said-at on sent q m at in
        given.idle s.0 s.1 (Cid (wire_of h)) s.2 s.3 (subst (λ (z : Fields). Gives z (Cid (wire_of h))) s.4 gives) (Cid (wire_of h)) m
        (h, old.0, old.2, refl, is-on is_asked on old.0 old.1 old.3 ∙ over-asked old.1 old.4) refl
    | inr now ↦
        let same : m ≡ (now.1).message = alone-there now.1 (inl now.4) now.0 now.2 now.3 q m at in
        let a : m.command ≡ 18 = gives.0 in
        let b : m.command ≡ 12 = ap (λ (z : Fields). z.command) same ∙ now.4 in
        omega (arith, a, b)
  ]
    where
      over-asked : (p : Phase) → is_over p ≡ true → is_asked p ≡ true
      over-asked Leaving is = refl
      over-asked Clearing is = refl
      over-asked Connecting is = absurd (both_ways false refl is)
      over-asked (Creating rights) is = refl
      over-asked Doomed is = refl
      over-asked (Live n rights) is = refl

  held-forth : (l : ℕ) (s : Fields) (id : Id) → At e.sent l s → HeldThen on sent y e l s id → Gives s id → HeldAs on y after l s id
  held-forth l s (Cid n) at held gives =
      (let lt : l < length e.sent = At-within e.sent l s at in (held.0, held.1, held.2, held.3, held.4, λ over. cleared-now l (wire_of held.0) lt (held.5 over)))
  held-forth l s (Ioid n) at held gives =
      let lt : l < length e.sent = At-within e.sent l s at in
      (held.0, held.1, held.2, held.3, held.4, held.5, went-forth e after grows l (wire_of held.1.channel) s (omega (arith, lt)) held.6, λ over. cleared-now l (wire_of held.1.channel) lt (held.7 over))
  held-forth l s (SubId n) at held gives =
      let lt : l < length e.sent = At-within e.sent l s at in (
        held.0,
        held.1,
        held.2,
        held.3,
        held.4,
        went-forth e after grows l (wire_of held.1.channel) s (omega (arith, lt)) held.5,
        λ stands.
            uncancelled-sent e ms base.told l (length after.sent) s (omega (arith, more))
            (λ q r before late at_r stops same.
            let v = said-at on sent q r at_r in
            turn.cancelled v.0 v.1 held.0 held.1 v.2 v.3 (subst (λ (z : Fields). Is command.EventCancel z) v.4 stops) held.2 stands
            (ap (λ (z : Fields). z.p2) (sym v.4) ∙ same ∙ gives.1 ∙ sym held.3))
            (held.6 stands),
        λ over. cleared-now l (wire_of held.1.channel) lt (held.7 over),
      )

  held-new : (q : ℕ) (m : Fields) (id : Id) → At ms q m → Gives m id → HeldAs on y after (length e.sent + q) m id
  held-new q m id at gives =
      let s = said-at on sent q m at in
      go id gives (subst (λ (z : Fields). HeldBy on y z id) (sym s.4) (given.held s.0 s.1 id s.2 s.3 (subst (λ (z : Fields). Gives z id) s.4 gives))) (λ it. subst (λ (z : Fields). GoesOn on y e z) (sym s.4) (turn.goes s.0 s.1 s.2 s.3 (subst (λ (z : Fields). IsOnChannel z) s.4 it)))
    where
      go : (id : Id) → Gives m id → HeldBy on y m id → (IsOnChannel m → GoesOn on y e m) → HeldAs on y after (length e.sent + q) m id
      go (Cid n) gives held goes =
          (held.0, held.1, held.2, held.3, held.4, λ over. absurd (created-stays q m held.0 at (gives.0, gives.1 ∙ sym held.3) over))
      go (Ioid n) gives held goes =
          let w = goes (elim gives.0 [
            | inl reads ↦ inl reads
            | inr puts ↦ inr (inl puts)
          ]) in
          let its = w.5 held.0 held.1 held.2 gives.0 (gives.1 ∙ sym held.3) in
          let cid : wire_of held.1.channel ≡ w.2 = its.0 in (
            held.0,
            held.1,
            held.2,
            held.3,
            held.4,
            held.5,
            (w.0, w.1, went-new q w.0 w.1 (wire_of held.1.channel) m at (subst (λ (k : ℕ). HasChannel e (length e.sent) w.0 w.1 k (sid_in m)) (sym cid) w.3)),
            λ over. absurd (its.1 over),
          )
      go (SubId n) gives held goes =
          let w = goes (inr (inr (inr (inl gives.0)))) in
          let its = w.6 held.0 held.1 held.2 gives.0 (gives.1 ∙ sym held.3) in
          let cid : wire_of held.1.channel ≡ w.2 = its.0 in (
            held.0,
            held.1,
            held.2,
            held.3,
            held.4,
            (w.0, w.1, went-new q w.0 w.1 (wire_of held.1.channel) m at (subst (λ (k : ℕ). HasChannel e (length e.sent) w.0 w.1 k (sid_in m)) (sym cid) w.3)),
            λ stands. uncancelled-new q m at,
            λ over. absurd (its.1 over),
          )

  held-after : IsConnectedAt y on → (l : ℕ) (s : Fields) (id : Id) → At after.sent l s → Gives s id
      → IsFree after l (length after.sent) ⊎ HeldAs on y after l s id
  held-after connected l s id at gives = elim (At-parts e.sent ms l s at) [
    | inr new ↦ inr (subst (λ (k : ℕ). HeldAs on y after k s id) (sym new.1) (held-new new.0 s id new.2 gives))
    | inl old ↦ elim (turn.opens connected) [
      | inr empty ↦ absurd (none-sent l s (subst (λ (z : List Fields). At z l s) empty old))
      | inl was ↦ elim (base.held was l s id old gives) [
        | inl free ↦ inl (free-forth e after grows l (length e.sent) (length after.sent) (omega arith) (omega (arith, more)) free)
        | inr held ↦ elim (turn.keeps l s id old gives held) [
          | inl stays ↦ inr (held-forth l s id old stays gives)
          | inr free ↦ inl (free-forth e after grows l (length e.sent) (length after.sent) (omega arith) (omega (arith, more)) free)
        ]
      ]
    ]
  ]

  -- ---- what is sent is legal

  held-by : (l : ℕ) (s : Fields) (id : Id) → HeldAs on x e l s id → HeldBy on x s id
  held-by l s (Cid n) held = (held.0, held.1, held.2, held.3, held.4)
  held-by l s (Ioid n) held = (held.0, held.1, held.2, held.3, held.4, held.5)
  held-by l s (SubId n) held = (held.0, held.1, held.2, held.3, held.4)

  legal-after : LegalClient after
  legal-after = record {
    on_channel = λ k m at is. elim (At-parts e.sent ms k m at) [
      | inl old ↦ on-channel-forth e after grows k m (At-within e.sent k m old) (base.legal.on_channel k m old is)
      | inr new ↦
          let s = said-at on sent new.0 m new.2 in
          let w : GoesOn on y e m = subst (λ (z : Fields). GoesOn on y e z) (sym s.4) (turn.goes s.0 s.1 s.2 s.3 (subst (λ (z : Fields). IsOnChannel z) s.4 is)) in (
            w.0,
            w.1,
            w.2,
            subst (λ (p : ℕ). HasChannel after p w.0 w.1 w.2 (sid_in m)) (sym new.1) (went-new new.0 w.0 w.1 w.2 m new.2 w.3),
            elim w.4 [
              | inl clears ↦ inl clears
              | inr other ↦ inr (other.0, λ l r late reads lost. connected-later e ms base.told k w.0 w.1 w.2 other.1 l r late reads lost)
            ],
          )
    ];
    cancels = λ k m at is. elim (At-parts e.sent ms k m at) [
      | inl old ↦
          let c = base.legal.cancels k m old is in
          let lt : k < length e.sent = At-within e.sent k m old in
          (c.0, c.1, grows.sent c.0 c.1 c.2, c.3, c.4, c.5, c.6, uncancelled-forth e after grows c.0 k c.1 (omega (arith, lt)) c.7)
      | inr new ↦
          let s = said-at on sent new.0 m new.2 in
          let a : Added e m.p1 m.p2 = subst (λ (z : Fields). Added e z.p1 z.p2) (sym s.4) (turn.cancels s.0 s.1 s.2 s.3 (subst (λ (z : Fields). Is command.EventCancel z) s.4 is)) in
          let lt : a.0 < length e.sent = At-within e.sent a.0 a.1 a.2 in
          let place : k ≡ length e.sent + new.0 = new.1 in (
            a.0,
            a.1,
            grows.sent a.0 a.1 a.2,
            a.3,
            omega (arith, lt, place),
            a.4,
            a.5,
            uncancelled-sent e ms base.told a.0 k a.1 (omega (arith, place)) (λ q r before late at_r stops. absurd (only q new.0 r m (omega (arith, before, place)) at_r new.2 (inr (inr is)))) a.6,
          )
    ];
    ids = λ l k r m a b lt at_r at_m gives_r gives_m same. elim (At-parts e.sent ms k m at_m) [
      | inl old ↦
          let k_lt : k < length e.sent = At-within e.sent k m old in
          free-forth e after grows l k k (omega (arith, k_lt)) (omega arith)
          (base.legal.ids l k r m a b lt (grows.back l r (omega (arith, lt, k_lt)) at_r) old gives_r gives_m same)
      | inr new ↦
          let s = said-at on sent new.0 m new.2 in
          let place : k ≡ length e.sent + new.0 = new.1 in
          elim (At-parts e.sent ms l r at_r) [
            | inr late ↦
                let where_l : l ≡ length e.sent + late.0 = late.1 in
                let o = said-order on sent late.0 new.0 r m (omega (arith, where_l, place, lt)) late.2 new.2 in
                absurd (given.once o.0 o.1 o.2 o.3 a b o.4 o.5 o.6 o.7 o.8 (subst (λ (z : Fields). Gives z a) o.9 gives_r) (subst (λ (z : Fields). Gives z b) o.10 gives_m) same)
            | inl was ↦ elim (turn.linked s.0 s.1 b s.2 s.3 (subst (λ (z : Fields). Gives z b) s.4 gives_m)) [
              | inr empty ↦ absurd (none-sent l r (subst (λ (z : List Fields). At z l r) empty was))
              | inl connected ↦ elim (base.held connected l r a was gives_r) [
                | inl free ↦ free-forth e after grows l (length e.sent) k (omega arith) (omega (arith, place)) free
                | inr held ↦ absurd (given.idle s.0 s.1 b s.2 s.3 (subst (λ (z : Fields). Gives z b) s.4 gives_m) a r (held-by l r a held) same)
              ]
            ]
          ]
    ];
  }

  pub turned : Sound on y after
  turned = record {
    base = record { few = turn.few; placed = turn.placed; told = told-sent e ms base.told; adds = adds-after; stopped = stopped-after; held = held-after; legal = legal-after };
    channels = channels-after;
  }
