-- What callers' calls on channels leave of what is known of a client and one circuit.
use Rattle.std.proofs.Common.{◌≡◌, ℕ, ◌≤◌, ◌⊎◌, inl, inr, Bool, true, false, cond, [], ◌∷◌, length, Option, Some, None, refl, sym, ap, ◌∙◌, subst, arith}
use Rattle.std.specs.Prelude.{is_none, option_map, unwrap_or}
use Rattle.std.proofs.lemmas.Bool.{both_ways}
use Rattle.ca_text.specs.Command.{command_number}
use Rattle.ca_text.specs.declared.command.Command.TheVariants as command
use Rattle.ca_text.specs.Place.{At}
use Rattle.ca_arena.specs.declared.handle.Handle.{Handle}
use Rattle.ca_ids.specs.Table.{MayGive, Table, under, with_freed, with_held}
use Rattle.ca_ids.specs.Wire.{wire_of}
use Rattle.ca_monitor.specs.Subscriptions.{Subscription, is_cancelled_in, stands_in}
use Rattle.ca_monitor.specs.Subscriptions as monitor
use Rattle.ca_requests.specs.Calls.{new_request}
use Rattle.ca_requests.specs.Requests.{Asked, Request, command_of}
use Rattle.ca_requests.specs.Requests as request
use Rattle.ca_wire.specs.Fields.{Fields}
use Rattle.ca_model.specs.Answers.{Sending}
use Rattle.ca_model.specs.Client.{Channel, Clearing, Client, without_channel, Connecting, Creating, Doomed, Leaving, Live, Native, On, Phase, Searching, Standing, connection_at, is_on_in, sending, standing_at}
use Rattle.ca_model.specs.ClientCalls.{IsLive, LiveChannel, Opening, Shape, StandsAs, cancel_sent, clear_sent, cleared, clearing_sent, event_add_sent, event_cancel_sent, issued, new_subscription, opened, unsubscribed, unsubscribed_all}
use Rattle.ca_model.specs.Sends.{Conduct, HasChannel, IsFree}
use Rattle.ca_model.specs.Speech.{Gives, Id, Is}
use Rattle.ca_model.specs.Placed.{IsPlaced}
use Rattle.ca_model.proofs.Changes.{keeps-cleared, keeps-unsubscribed, on-handle, on-phase, placed-issued, placed-opened, placed-subscribed}
use Rattle.ca_model.proofs.Handles.{same-is}
use Rattle.ca_model.proofs.Placed.{Keeps, keeps-sending}
use Rattle.ca_model.proofs.Standings.{found-standing, is-on, never-cleared, stands-as}
use Rattle.ca_model.proofs.Tables.{all-back, all-freed-back, changed-back, freed-back, given-fresh, held-back, held-few, held-other, one-by-wire, one-value}
use Rattle.ca_model.proofs.Thinner.{Thins}
use Rattle.ca_laws_parts.specs.Held.{AreFew, has_id, is_subscribed}
use Rattle.ca_laws_parts.specs.ClientRows.{sent_on}
use Rattle.ca_laws_parts.specs.Conduct.{with_all_sent}
use Rattle.ca_laws_parts.proofs.Backs.{AsksAs, Backs, CancelsAs, SubscribesAs, Was, asks-as-same, asks-back, back-freed, back-same, back-stood, back-then, backs-same, cancels-as-same, cancels-there, subscribes-as-same, subscribes-on, unwanted-same}
use Rattle.ca_laws_parts.proofs.Calling.{rests-cleared-so, rests-issued, rests-opened, rests-subscribed, rests-unsubscribed}
use Rattle.ca_laws_parts.proofs.Given.{given-nothing, only-one}
use Rattle.ca_laws_parts.proofs.Giving.{given-issued, given-subscribed, none-cancelled, none-cleared}
use Rattle.ca_laws_parts.proofs.Growing.{Added, HasNow}
use Rattle.ca_laws_parts.proofs.Rests.{OverAt, Rests, is_over, rests-itself}
use Rattle.ca_laws_parts.proofs.Sound.{AddedHeld, GoesOn, HeldAs, HeldThen, IsConnectedAt, Overs, Sound, Stands, Turn, adds-held, is_kept, turned}
use Rattle.ca_laws_parts.proofs.Turns.{keeps-rests, live-linked, overs-back, overs-same, sent-nothing, sound-silent, turn-sending}

-- as many indices as before
pub few-thins : (x y : Client) → Thins x y → AreFew x → AreFew y
few-thins x y thins few = record {
  channels = few-as (length x.channels) (length y.channels) thins.channels.few few.channels;
  requests = few-as (length x.requests) (length y.requests) thins.requests.few few.requests;
  subscriptions = few-as (length x.subscriptions) (length y.subscriptions) thins.subscriptions.few few.subscriptions;
}
  where
    few-as : (a b : ℕ) → b ≡ a → a ≤ 65536 → b ≤ 65536
    few-as a b same le = omega (arith, same, le)

-- a change that keeps, by which nothing is sent
pub silent-keeps : (on : Handle) (x y : Client) (e : Conduct) → Keeps x y → Backs on x y → Rests on x y → Sound on x e → Sound on y e
silent-keeps on x y e keeps backs rests sound =
    sound-silent on x y e (few-thins x y keeps.thins sound.base.few) (keeps.placed sound.base.placed) backs (λ connected. sym (keeps.links on) ∙ connected)
    (λ l s id at gives held. inl (keeps-rests on x y e [] (overs-back on x y [] backs.channels) rests backs.requests (subscribes-on x.subscriptions y.subscriptions backs.subscriptions) l s id held)) sound

-- ---- open

pub sound-opened : (on : Handle) (x : Client) (a : Opening) (h : Handle) (e : Conduct) → MayGive x.channels h → Sound on x e → Sound on (opened a h x) e
sound-opened on x a h e may sound =
    sound-silent on x (opened a h x) e
    (record { channels = held-few x.channels h new may sound.base.few.channels; requests = sound.base.few.requests; subscriptions = sound.base.few.subscriptions })
    (placed-opened a h x may sound.base.placed) backs (λ connected. connected)
    (λ l s id at gives held. inl (keeps-rests on x (opened a h x) e [] (overs-back on x (opened a h x) [] backs.channels) (rests-opened on x a h may) backs.requests (subscribes-on x.subscriptions x.subscriptions backs.subscriptions) l s id held)) sound
  where
    new : Channel
    new = record { name = a.name; priority = a.priority; standing = Searching }

    nowhere : (p : Phase) → Searching ≡ On on p → ⊥
    nowhere p is = cc

    backs : Backs on x (opened a h x)
    backs = record {
      channels = λ g ch p there stands. elim (held-back x.channels g h new ch there) [
        | inl own ↦ absurd (nowhere p (sym (ap (λ (z : Channel). z.standing) own.1) ∙ stands))
        | inr old ↦ back-same on x.channels x.channels refl g ch p old stands
      ];
      requests = asks-as-same x.requests x.requests refl;
      subscriptions = subscribes-as-same x.subscriptions x.subscriptions refl;
      cancelled = cancels-as-same x.subscriptions x.subscriptions refl;
    }

-- ---- one message on a live channel

-- the number of a message's command is not another's
apart : (m : Fields) (a b : ℕ) → m.command ≡ a → m.command ≡ b → (a ≡ b → ⊥) → ⊥
apart m a b is also differ = differ (sym is ∙ also)

module _ (on : Handle) (x : Client) (e : Conduct) (sound : Sound on x e) (h : Handle) (l : LiveChannel) (live : IsLive x h l) where
  found : (ch : Channel) × (under x.channels h ≡ Some ch) × (ch.standing ≡ On l.circuit (Live l.native l.rights))
  found = found-standing x h (On l.circuit (Live l.native l.rights)) live

  here-so : l.circuit ≡ on → (found.0).standing ≡ On on (Live l.native l.rights)
  here-so here = found.2 ∙ ap (λ (k : Handle). On k (Live l.native l.rights)) here

  has-live : l.circuit ≡ on → (i j : ℕ) × HasNow e i j (wire_of h) l.native.sid
  has-live here = sound.channels h found.0 (Live l.native l.rights) found.1 (here-so here)

  linked-live : l.circuit ≡ on → IsConnectedAt x on
  linked-live here = live-linked on x h found.0 (Live l.native l.rights) sound.base.placed found.1 (here-so here) refl

  -- a message that clears nothing
  module _ (y : Client) (s : Sending) (circuit : s.circuit ≡ l.circuit) (sid : s.message.p1 ≡ l.native.sid) (not_clear : Is command.ClearChannel s.message → ⊥) where
    -- the channel is live, and so not over
    stays-live : y.channels ≡ x.channels → OverAt on y.channels h → ⊥
    stays-live channels o =
        let one : found.0 ≡ o.0 = one-value x.channels h found.0 o.0 found.1 (subst (λ (t : Table Channel). under t h ≡ Some o.0) channels o.2) in
        let phase : Live l.native l.rights ≡ o.1 = on-phase l.circuit on (Live l.native l.rights) o.1 (sym found.2 ∙ ap (λ (z : Channel). z.standing) one ∙ o.3) in
        both_ways false refl (ap is_over phase ∙ o.4)

    goes-live : y.channels ≡ x.channels → ((q : Handle) (r : Request) → under y.requests q ≡ Some r → Is command.ReadNotify s.message ⊎ Is command.WriteNotify s.message → s.message.p2 ≡ wire_of q
        → r.channel ≡ h) → ((g : Handle) (d : Subscription) → under y.subscriptions g ≡ Some d → Is command.EventAdd s.message → s.message.p2 ≡ wire_of g → d.channel ≡ h)
        → s.circuit ≡ on → GoesOn on y e s.message
    goes-live channels asks adds here =
        let has = has-live (sym circuit ∙ here) in (
          has.0,
          has.1,
          wire_of h,
          subst (λ (k : ℕ). HasChannel e (length e.sent) has.0 has.1 (wire_of h) k) (sym sid) has.2.0,
          inr (not_clear, has.2.1),
          λ q r there which same.
              (let to = asks q r there which same in (ap (λ (k : Handle). wire_of k) to, λ o. stays-live channels (subst (λ (k : Handle). OverAt on y.channels k) to o))),
          λ g d there which same.
              (let to = adds g d there which same in (ap (λ (k : Handle). wire_of k) to, λ o. stays-live channels (subst (λ (k : Handle). OverAt on y.channels k) to o))),
        )

    -- and ends no subscription
    module _ (not_cancel : Is command.EventCancel s.message → ⊥) (few : AreFew y) (placed : IsPlaced y) (channels : y.channels ≡ x.channels) (links : is_none (connection_at y on) ≡ is_none (connection_at x on)) where
      turn-live : ((g : Handle) (d : Subscription) (ch : Channel) (n : Native) (rights : ℕ) → under y.subscriptions g ≡ Some d
          → stands_in d.stage ≡ true → under y.channels d.channel ≡ Some ch → ch.standing ≡ On on (Live n rights)
          → AddedHeld on x e n.sid (wire_of g) ⊎ ((s.circuit ≡ on) × Is command.EventAdd s.message × (s.message.p1 ≡ n.sid) × (s.message.p2 ≡ wire_of g)))
          → CancelsAs x.subscriptions y.subscriptions
          → (s.circuit ≡ on → GoesOn on y e s.message)
          → ((l : ℕ) (m : Fields) (id : Id) → At e.sent l m → Gives m id → HeldAs on x e l m id → HeldThen on (s ∷ []) y e l m id ⊎ IsFree e l (length e.sent))
          → Turn on x y e (s ∷ [])
      turn-live adds cancels goes keeps = record {
        few = few;
        placed = placed;
        stands = λ k ch p there stands. inl (sound.channels k ch p (subst (λ (t : Table Channel). under t k ≡ Some ch) channels there) stands);
        cleared = λ i r k ch p at here clears there stands same. absurd (not_clear (subst (λ (z : Sending). Is command.ClearChannel z.message) (only-one s r i at).1 clears));
        adds = λ g d ch n rights there stands on_it live_it. elim (adds g d ch n rights there stands on_it live_it) [
          | inl old ↦ inl old
          | inr new ↦ inr (0, s, refl, new.0, new.1, new.2, new.3)
        ];
        cancelled = λ i r g d at here stops there stands same. not_cancel (subst (λ (z : Sending). Is command.EventCancel z.message) (only-one s r i at).1 stops);
        stops = λ g d there stops. inl (cancels on g d there stops);
        alone = λ i j r v at_r at_v ends. (only-one s r i at_r).0 ∙ sym (only-one s v j at_v).0;
        goes = λ i r at here is. (let one = (only-one s r i at).1 in subst (λ (z : Sending). GoesOn on y e z.message) (sym one) (goes (ap (λ (z : Sending). z.circuit) (sym one) ∙ here)));
        cancels = λ i r at here stops. absurd (not_cancel (subst (λ (z : Sending). Is command.EventCancel z.message) (only-one s r i at).1 stops));
        overs = overs-same on x y (s ∷ []) channels;
        opens = λ connected. inl (sym links ∙ connected);
        linked = λ i r id at here gives. (let one = (only-one s r i at).1 in inl (linked-live (sym circuit ∙ ap (λ (z : Sending). z.circuit) (sym one) ∙ here)));
        keeps = keeps;
      }

  -- ---- read and write_notify

  module _ (asked : Asked) (q : Handle) (s : Sending) (may : MayGive x.requests q) (circuit : s.circuit ≡ l.circuit) (sid : s.message.p1 ≡ l.native.sid) (wire : s.message.p2 ≡ wire_of q)
      (asks : s.message.command ≡ command_number (command_of asked)) where
    abbrev pub new-request : Request
    new-request = new_request h l.circuit asked

    abbrev pub z : Client
    z = issued h l asked q x

    by-command : (n : ℕ) → s.message.command ≡ n → (n ≡ 15 → ⊥) → (n ≡ 19 → ⊥) → ⊥
    by-command n is no15 no19 = go asked asks
      where
        go : (a : Asked) → s.message.command ≡ command_number (command_of a) → ⊥
        go (request.Read data_type count) also = no15 (sym is ∙ also)
        go request.Put also = no19 (sym is ∙ also)

    turn-issued : Turn on x z e (s ∷ [])
    turn-issued =
        turn-live z s circuit sid (λ is. by-command 12 is (λ n. omega (arith, n)) (λ n. omega (arith, n))) (λ is. by-command 2 is (λ n. omega (arith, n)) (λ n. omega (arith, n)))
        (record { channels = sound.base.few.channels; requests = held-few x.requests q new-request may sound.base.few.requests; subscriptions = sound.base.few.subscriptions })
        (placed-issued x h l asked q live sound.base.placed) refl refl
        (λ g d ch n rights there stands on_it live_it. inl (adds-held on x e sound.base g d ch n rights there stands on_it live_it)) (cancels-as-same x.subscriptions x.subscriptions refl)
        (goes-live z s circuit sid (λ is. by-command 12 is (λ n. omega (arith, n)) (λ n. omega (arith, n))) refl
        (λ k r there which same. elim (held-back x.requests k q new-request r there) [
          | inl own ↦ ap (λ (v : Request). v.channel) own.1
          | inr old ↦ absurd (given-fresh x.requests k q r sound.base.few.requests may old (sym same ∙ wire))
        ])
        (λ g d there is same. absurd (by-command 1 is (λ n. omega (arith, n)) (λ n. omega (arith, n)))))
        (λ p m id at gives held. inl (keeps-rests on x z e (s ∷ []) (overs-same on x z (s ∷ []) refl) (rests-issued on x h l asked q may)
        (λ k r v was is. ap (λ (w : Request). w.channel) (one-value z.requests k v r is (held-other x.requests k q new-request r may was)))
        (subscribes-on x.subscriptions x.subscriptions (subscribes-as-same x.subscriptions x.subscriptions refl)) p m id held))

    pub sound-issued : Sound on (sending (s ∷ []) z) (with_all_sent (sent_on on (s ∷ [])) e)
    sound-issued =
        turned on x (sending (s ∷ []) z) e (s ∷ []) sound.base (turn-sending on x z e (s ∷ []) (keeps-sending (s ∷ []) z).links turn-issued)
        (given-issued on x h l asked q s sound.base.few may circuit asks wire)

  -- ---- write

  module _ (s : Sending) (circuit : s.circuit ≡ l.circuit) (sid : s.message.p1 ≡ l.native.sid) (writes : s.message.command ≡ 4) where
    pub sound-written : ((i : ℕ) (r : Sending) (id : Id) → At (s ∷ []) i r → Gives r.message id → ⊥) → Sound on (sending (s ∷ []) x) (with_all_sent (sent_on on (s ∷ [])) e)
    sound-written none =
        let not : (n : ℕ) → s.message.command ≡ n → (n ≡ 4 → ⊥) → ⊥ = λ n is differ. differ (sym is ∙ writes) in
        let b = backs-same on x x refl refl refl in
        turned on x (sending (s ∷ []) x) e (s ∷ []) sound.base
        (turn-sending on x x e (s ∷ []) (keeps-sending (s ∷ []) x).links
        (turn-live x s circuit sid (λ is. not 12 is (λ n. omega (arith, n))) (λ is. not 2 is (λ n. omega (arith, n))) sound.base.few sound.base.placed refl refl
        (λ g d ch n rights there stands on_it live_it. inl (adds-held on x e sound.base g d ch n rights there stands on_it live_it)) (cancels-as-same x.subscriptions x.subscriptions refl)
        (goes-live x s circuit sid (λ is. not 12 is (λ n. omega (arith, n))) refl
        (λ k r there which same. absurd (elim which [
          | inl reads ↦ not 15 reads (λ n. omega (arith, n))
          | inr puts ↦ not 19 puts (λ n. omega (arith, n))
        ]))
        (λ g d there is same. absurd (not 1 is (λ n. omega (arith, n)))))
        (λ p m id at gives held. inl (keeps-rests on x x e (s ∷ []) (overs-same on x x (s ∷ []) refl) (rests-itself on x) b.requests (subscribes-on x.subscriptions x.subscriptions b.subscriptions) p m id held))))
        (given-nothing on x (sending (s ∷ []) x) (s ∷ []) none)

  -- ---- subscribe

  module _ (a : Shape) (mask : ℕ) (q : Handle) (may : MayGive x.subscriptions q) where
    abbrev pub new-sub : Subscription
    new-sub = new_subscription h a mask

    abbrev pub with-sub : Client
    with-sub = record x { subscriptions = with_held q (new_subscription h a mask) x.subscriptions }

    abbrev pub add : Sending
    add = event_add_sent l.circuit l.native.sid q (new_subscription h a mask)

    no-other : (n : ℕ) → (add.message).command ≡ n → (n ≡ 1 → ⊥) → ⊥
    no-other n is differ = differ (sym is)

    on-native : (c : Handle) (n m : Native) (r t : ℕ) → On c (Live n r) ≡ On on (Live m t) → n ≡ m
    on-native c n m r t is = cc

    adds-new : (g : Handle) (d : Subscription) (ch : Channel) (n : Native) (rights : ℕ) → under with-sub.subscriptions g ≡ Some d
        → stands_in d.stage ≡ true → under x.channels d.channel ≡ Some ch → ch.standing ≡ On on (Live n rights)
        → AddedHeld on x e n.sid (wire_of g) ⊎ ((l.circuit ≡ on) × Is command.EventAdd add.message × ((add.message).p1 ≡ n.sid) × ((add.message).p2 ≡ wire_of g))
    adds-new g d ch n rights there stands on_it live_it = elim (held-back x.subscriptions g q new-sub d there) [
      | inr old ↦ inl (adds-held on x e sound.base g d ch n rights old stands on_it live_it)
      | inl own ↦
          let same : found.0 ≡ ch = one-value x.channels h found.0 ch found.1 (subst (λ (z : Subscription). under x.channels z.channel ≡ Some ch) own.1 on_it) in
          let is : On l.circuit (Live l.native l.rights) ≡ On on (Live n rights) = sym found.2 ∙ ap (λ (z : Channel). z.standing) same ∙ live_it in
          inr (on-handle l.circuit on (Live l.native l.rights) (Live n rights) is, refl, ap (λ (z : Native). z.sid) (on-native l.circuit l.native n l.rights rights is), ap (λ (k : Handle). wire_of k) (sym own.0))
    ]

    cancels-new : CancelsAs x.subscriptions with-sub.subscriptions
    cancels-new o g d there stops = elim (held-back x.subscriptions g q new-sub d there) [
      | inr old ↦ (d, old, stops)
      | inl own ↦ absurd (both_ways false refl (ap (λ (z : Subscription). is_cancelled_in o z.stage) (sym own.1) ∙ stops))
    ]

    has-here : l.circuit ≡ on → has_id x.channels on new-sub ≡ true
    has-here here =
        ap (λ (o : Option Channel). unwrap_or (option_map (is_on_in is_subscribed on) o) false) found.1 ∙ is-on is_subscribed on found.0 (Live l.native l.rights) (here-so here)

    turn-subscribed : Turn on x with-sub e (add ∷ [])
    turn-subscribed =
        turn-live with-sub add refl refl (λ is. no-other 12 is (λ n. omega (arith, n))) (λ is. no-other 2 is (λ n. omega (arith, n)))
        (record { channels = sound.base.few.channels; requests = sound.base.few.requests; subscriptions = held-few x.subscriptions q new-sub may sound.base.few.subscriptions })
        (placed-subscribed x h a mask q sound.base.placed) refl refl adds-new cancels-new
        (goes-live with-sub add refl refl (λ is. no-other 12 is (λ n. omega (arith, n))) refl
        (λ k r there which same. absurd (elim which [
          | inl reads ↦ no-other 15 reads (λ n. omega (arith, n))
          | inr puts ↦ no-other 19 puts (λ n. omega (arith, n))
        ]))
        (λ g d there is same. elim (held-back x.subscriptions g q new-sub d there) [
          | inl own ↦ ap (λ (v : Subscription). v.channel) own.1
          | inr old ↦ absurd (given-fresh x.subscriptions g q d sound.base.few.subscriptions may old (sym same))
        ]))
        (λ p m id at gives held. inl (keeps-rests on x with-sub e (add ∷ []) (overs-same on x with-sub (add ∷ []) refl) (rests-subscribed on x q new-sub may) (asks-as-same x.requests x.requests refl)
        (λ g d v was is. (let one : v ≡ d = one-value with-sub.subscriptions g v d is (held-other x.subscriptions g q new-sub d may was) in
        (ap (λ (w : Subscription). w.channel) one, λ s. subst (λ (w : Subscription). stands_in w.stage ≡ true) one s))) p m id held))

    pub sound-subscribed : Sound on (sending (add ∷ []) with-sub) (with_all_sent (sent_on on (add ∷ [])) e)
    sound-subscribed =
        turned on x (sending (add ∷ []) with-sub) e (add ∷ []) sound.base (turn-sending on x with-sub e (add ∷ []) (keeps-sending (add ∷ []) with-sub).links turn-subscribed)
        (given-subscribed on x q new-sub add sound.base.few may has-here refl refl)

-- ---- unsubscribe

module _ (on : Handle) (x : Client) (e : Conduct) (sound : Sound on x e) (g : Handle) (d : Subscription) (is_sub : StandsAs x g d) where
  there : under x.subscriptions g ≡ Some d
  there = (stands-as x g d is_sub).0

  standing : stands_in d.stage ≡ true
  standing = (stands-as x g d is_sub).1

  abbrev staged : monitor.Stage → Subscription → Subscription
  staged s v = record v { stage = s }

  subs-staged : (s : monitor.Stage) → stands_in s ≡ false → SubscribesAs x.subscriptions (monitor.with_stage s g x.subscriptions)
  subs-staged s none k v is = elim (changed-back (staged s) x.subscriptions k g v is) [
    | inr old ↦ (v, old.1, refl, λ yes_it. yes_it)
    | inl own ↦ (
      own.1.0,
      subst (λ (h : Handle). under x.subscriptions h ≡ Some own.1.0) (sym own.0) own.1.1,
      ap (λ (z : Subscription). z.channel) own.1.2,
      λ yes_it. absurd (both_ways (stands_in s) none (ap (λ (z : Subscription). stands_in z.stage) (sym own.1.2) ∙ yes_it)),
    )
  ]

  subs-freed : SubscribesAs x.subscriptions (with_freed g x.subscriptions)
  subs-freed k v is = (v, (freed-back x.subscriptions k g v is).1, refl, λ yes_it. yes_it)

  cancels-freed : CancelsAs x.subscriptions (with_freed g x.subscriptions)
  cancels-freed = cancels-there x.subscriptions (with_freed g x.subscriptions) (λ k v is. (freed-back x.subscriptions k g v is).1)

  cancels-ended : (c : Handle) → CancelsAs x.subscriptions (monitor.with_stage (monitor.Ended c) g x.subscriptions)
  cancels-ended c o k v is stops = elim (changed-back (staged (monitor.Ended c)) x.subscriptions k g v is) [
    | inr old ↦ (v, old.1, stops)
    | inl own ↦ absurd (both_ways false refl (ap (λ (z : Subscription). is_cancelled_in o z.stage) (sym own.1.2) ∙ stops))
  ]

  backs-subs : (t : Table Subscription) → SubscribesAs x.subscriptions t → CancelsAs x.subscriptions t → Backs on x (record x { subscriptions = t })
  backs-subs t subs cancels = record { channels = back-same on x.channels x.channels refl; requests = asks-as-same x.requests x.requests refl; subscriptions = subs; cancelled = cancels }

  keeps-so : Keeps x (unsubscribed g (standing_at x d.channel) x)
  keeps-so = keeps-unsubscribed g x d is_sub

  silent-so : (o : Option Standing) → standing_at x d.channel ≡ o → Backs on x (unsubscribed g o x) → Sound on (unsubscribed g o x) e
  silent-so o at backs =
      silent-keeps on x (unsubscribed g o x) e (subst (λ (v : Option Standing). Keeps x (unsubscribed g v x)) at keeps-so) backs (rests-unsubscribed on x g d there standing o at) sound

  module _ (c : Handle) (n : Native) (rights : ℕ) (at : standing_at x d.channel ≡ Some (On c (Live n rights))) where
    abbrev stops : Sending
    stops = event_cancel_sent c n.sid g d

    abbrev left : Client
    left = record x { subscriptions = monitor.with_stage (monitor.Cancelled c) g x.subscriptions }

    found-so : (ch : Channel) × (under x.channels d.channel ≡ Some ch) × (ch.standing ≡ On c (Live n rights))
    found-so = found-standing x d.channel (On c (Live n rights)) at

    not-this : (k : ℕ) → (stops.message).command ≡ k → (k ≡ 2 → ⊥) → ⊥
    not-this k is differ = differ (sym is)

    live-so : c ≡ on → (found-so.0).standing ≡ On on (Live n rights)
    live-so here = found-so.2 ∙ ap (λ (k : Handle). On k (Live n rights)) here

    goes-stop : c ≡ on → GoesOn on left e stops.message
    goes-stop here =
        let has = sound.channels d.channel found-so.0 (Live n rights) found-so.1 (live-so here) in (
          has.0,
          has.1,
          wire_of d.channel,
          has.2.0,
          inr (λ is. not-this 12 is (λ k. omega (arith, k)), has.2.1),
          λ q r row which same. absurd (elim which [
            | inl reads ↦ not-this 15 reads (λ k. omega (arith, k))
            | inr puts ↦ not-this 19 puts (λ k. omega (arith, k))
          ]),
          λ k v row is same. absurd (not-this 1 is (λ j. omega (arith, j))),
        )

    turn-stop : Turn on x left e (stops ∷ [])
    turn-stop =
        let keeps : Keeps x left = subst (λ (v : Option Standing). Keeps x (unsubscribed g v x)) at keeps-so in
        let subs : SubscribesAs x.subscriptions left.subscriptions = subs-staged (monitor.Cancelled c) refl in
        record {
          few = few-thins x left keeps.thins sound.base.few;
          placed = keeps.placed sound.base.placed;
          stands = λ h ch p row stands. inl (sound.channels h ch p row stands);
          cleared = λ i r h ch p at_r here clears row stands same.
              absurd (not-this 12 (subst (λ (z : Sending). Is command.ClearChannel z.message) (only-one stops r i at_r).1 clears) (λ k. omega (arith, k)));
          adds = λ k v ch m t row stands on_it live_it.
              (let was = subs k v row in
              inl (adds-held on x e sound.base k was.0 ch m t was.1 (was.3 stands) (subst (λ (h : Handle). under x.channels h ≡ Some ch) was.2 on_it) live_it));
          cancelled = λ i r k v at_r here is row stands same. elim (changed-back (staged (monitor.Cancelled c)) x.subscriptions k g v row) [
            | inl own ↦ both_ways false refl (sym (ap (λ (z : Subscription). stands_in z.stage) own.1.2) ∙ stands)
            | inr old ↦
                old.0 (one-by-wire x.subscriptions k g v d sound.base.few.subscriptions old.1 there (sym same ∙ ap (λ (z : Sending). (z.message).p2) (only-one stops r i at_r).1))
          ];
          stops = λ k v row cancelled. elim (changed-back (staged (monitor.Cancelled c)) x.subscriptions k g v row) [
            | inr old ↦ inl (v, old.1, cancelled)
            | inl own ↦
                inr (0, stops, refl, same-is c on (ap (λ (z : Subscription). is_cancelled_in on z.stage) (sym own.1.2) ∙ cancelled), refl, ap (λ (k : Handle). wire_of k) (sym own.0))
          ];
          alone = λ i j r v at_r at_v ends. (only-one stops r i at_r).0 ∙ sym (only-one stops v j at_v).0;
          goes = λ i r at_r here is. (let one = (only-one stops r i at_r).1 in subst (λ (z : Sending). GoesOn on left e z.message) (sym one) (goes-stop (ap (λ (z : Sending). z.circuit) (sym one) ∙ here)));
          overs = overs-same on x left (stops ∷ []) refl;
          cancels = λ i r at_r here is.
              (let one = (only-one stops r i at_r).1 in
              subst (λ (z : Sending). Added e (z.message).p1 (z.message).p2) (sym one)
              (sound.base.adds g d found-so.0 n rights there standing found-so.1 (live-so (ap (λ (z : Sending). z.circuit) (sym one) ∙ here))));
          opens = λ connected. inl (sym (keeps.links on) ∙ connected);
          linked = λ i r id at_r here gives.
              (let one = (only-one stops r i at_r).1 in
              inl (live-linked on x d.channel found-so.0 (Live n rights) sound.base.placed found-so.1 (live-so (ap (λ (z : Sending). z.circuit) (sym one) ∙ here)) refl));
          keeps = λ p m id at_m gives held.
              inl (keeps-rests on x left e (stops ∷ []) (overs-same on x left (stops ∷ []) refl) (rests-unsubscribed on x g d there standing (Some (On c (Live n rights))) at) (asks-as-same x.requests x.requests refl) (subscribes-on x.subscriptions left.subscriptions subs) p m id held);
        }

    sound-stop : Sound on (sending (stops ∷ []) left) (with_all_sent (sent_on on (stops ∷ [])) e)
    sound-stop =
        turned on x (sending (stops ∷ []) left) e (stops ∷ []) sound.base (turn-sending on x left e (stops ∷ []) (keeps-sending (stops ∷ []) left).links turn-stop)
        (given-nothing on x (sending (stops ∷ []) left) (stops ∷ []) (none-cancelled g d (Some (On c (Live n rights)))))

  quiet-so : (o : Option Standing) → Sound on (unsubscribed g o x) e → Sound on (sending [] (unsubscribed g o x)) (with_all_sent (sent_on on []) e)
  quiet-so o s = subst (λ (f : Conduct). Sound on (unsubscribed g o x) f) (sym (sent-nothing on e)) s

  unsubscribed-so : (o : Option Standing) → standing_at x d.channel ≡ o → Sound on (sending (cancel_sent g d o) (unsubscribed g o x)) (with_all_sent (sent_on on (cancel_sent g d o)) e)
  unsubscribed-so None at = quiet-so None (silent-so None at (backs-subs (with_freed g x.subscriptions) subs-freed cancels-freed))
  unsubscribed-so (Some Searching) at = quiet-so (Some Searching) (silent-so (Some Searching) at (backs-subs (with_freed g x.subscriptions) subs-freed cancels-freed))
  unsubscribed-so (Some (On c Connecting)) at = quiet-so (Some (On c Connecting)) (silent-so (Some (On c Connecting)) at (backs-subs (with_freed g x.subscriptions) subs-freed cancels-freed))
  unsubscribed-so (Some (On c (Creating r))) at = quiet-so (Some (On c (Creating r))) (silent-so (Some (On c (Creating r))) at (backs-subs (with_freed g x.subscriptions) subs-freed cancels-freed))
  unsubscribed-so (Some (On c Clearing)) at = quiet-so (Some (On c Clearing)) (silent-so (Some (On c Clearing)) at (backs-subs (with_freed g x.subscriptions) subs-freed cancels-freed))
  unsubscribed-so (Some (On c Doomed)) at = quiet-so (Some (On c Doomed)) (silent-so (Some (On c Doomed)) at (backs-subs (with_freed g x.subscriptions) subs-freed cancels-freed))
  unsubscribed-so (Some (On c Leaving)) at =
      quiet-so (Some (On c Leaving)) (silent-so (Some (On c Leaving)) at (backs-subs (monitor.with_stage (monitor.Ended c) g x.subscriptions) (subs-staged (monitor.Ended c) refl) (cancels-ended c)))
  unsubscribed-so (Some (On c (Live n rights))) at = sound-stop c n rights at

  pub sound-unsubscribed : (let o : Option Standing = standing_at x d.channel in Sound on (sending (cancel_sent g d o) (unsubscribed g o x)) (with_all_sent (sent_on on (cancel_sent g d o)) e))
  sound-unsubscribed = unsubscribed-so (standing_at x d.channel) refl

-- ---- clear

module _ (on : Handle) (x : Client) (e : Conduct) (sound : Sound on x e) (h : Handle) where
  cleared-keeps : (s : Standing) → standing_at x h ≡ Some s → Keeps x (cleared h s x)
  cleared-keeps s at = keeps-cleared h s x sound.base.placed at

  -- the subscriptions of the channel are gone, or over
  subs-gone : SubscribesAs x.subscriptions (monitor.channel_gone h x.subscriptions)
  subs-gone k v is = (v, (all-freed-back (monitor.is_to h) x.subscriptions k v is).0, refl, λ s. s)

  subs-over : (c : Handle) → SubscribesAs x.subscriptions (monitor.channel_over c h x.subscriptions)
  subs-over c k v is =
      let b = all-back (monitor.over_on c h) x.subscriptions k v is in
      let p = parts b.0 (monitor.is_to h b.0) in
      (b.0, b.1, ap (λ (z : Subscription). z.channel) b.2 ∙ p.0, λ s. p.1 (ap (λ (z : Subscription). stands_in z.stage) (sym b.2) ∙ s))
    where
      stages : (s : monitor.Stage) → stands_in (monitor.stage_over c s) ≡ true → stands_in s ≡ true
      stages monitor.Stands is = refl
      stages (monitor.Cancelled o) is = is
      stages (monitor.Ended o) is = is

      parts : (u : Subscription) (b : Bool) → ((cond b (record u { stage = monitor.stage_over c u.stage }) u).channel ≡ u.channel)
          × (stands_in (cond b (record u { stage = monitor.stage_over c u.stage }) u).stage ≡ true → stands_in u.stage ≡ true)
      parts u true = (refl, λ s. stages u.stage s)
      parts u false = (refl, λ s. s)

  cancels-gone : CancelsAs x.subscriptions (monitor.channel_gone h x.subscriptions)
  cancels-gone = cancels-there x.subscriptions (monitor.channel_gone h x.subscriptions) (λ k v is. (all-freed-back (monitor.is_to h) x.subscriptions k v is).0)

  cancels-over : (c : Handle) → CancelsAs x.subscriptions (monitor.channel_over c h x.subscriptions)
  cancels-over c o k v is stops =
      let b = all-back (monitor.over_on c h) x.subscriptions k v is in
      (b.0, b.1, parts b.0 (monitor.is_to h b.0) (ap (λ (z : Subscription). is_cancelled_in o z.stage) (sym b.2) ∙ stops))
    where
      stages : (s : monitor.Stage) → is_cancelled_in o (monitor.stage_over c s) ≡ true → is_cancelled_in o s ≡ true
      stages monitor.Stands is = absurd (both_ways false refl is)
      stages (monitor.Cancelled p) is = is
      stages (monitor.Ended p) is = is

      parts : (u : Subscription) (b : Bool) → is_cancelled_in o (cond b (record u { stage = monitor.stage_over c u.stage }) u).stage ≡ true → is_cancelled_in o u.stage ≡ true
      parts u true is = stages u.stage is
      parts u false is = is

  asks-over-as : (t : Table Request) → t ≡ request.channel_over h x.requests → AsksAs x.requests t
  asks-over-as t same = asks-back x.requests t (λ q v is.
      (let b = all-back (request.over_on h) x.requests q v (subst (λ (w : Table Request). under w q ≡ Some v) same is) in
      (b.0, b.1, ap (λ (z : Request). z.channel) b.2 ∙ part b.0 (request.asks_on h b.0))))
    where
      part : (u : Request) (b : Bool) → (cond b (record u { stage = request.Draining }) u).channel ≡ u.channel
      part u true = refl
      part u false = refl

  -- what stands so is live
  abbrev is_live_now : Standing → Bool
  is_live_now (On c (Live n rights)) = true
  is_live_now s = false

  -- a channel that is not live: nothing is known of it that was not
  backs-cleared : (s : Standing) → is_live_now s ≡ false → standing_at x h ≡ Some s → Backs on x (cleared h s x)
  backs-cleared Searching quiet at = record { channels = back-freed on x.channels h; requests = asks-as-same x.requests x.requests refl; subscriptions = subs-gone; cancelled = cancels-gone }
  backs-cleared (On c Connecting) quiet at =
      let v : Client = without_channel (unsubscribed_all h x) h in
      let u = unwanted-same c v in
      record {
        channels = back-then on x.channels v.channels (cleared h (On c Connecting) x).channels (back-freed on x.channels h) (back-same on v.channels (cleared h (On c Connecting) x).channels u.0);
        requests = asks-as-same x.requests (cleared h (On c Connecting) x).requests u.1;
        subscriptions = subst (λ (t : Table Subscription). SubscribesAs x.subscriptions t) (sym u.2) subs-gone;
        cancelled = subst (λ (t : Table Subscription). CancelsAs x.subscriptions t) (sym u.2) cancels-gone;
      }
  backs-cleared (On c (Creating rights)) quiet at =
      let f = found-standing x h (On c (Creating rights)) at in
      record {
        channels = back-stood on x.channels (On c Doomed) h (λ p is.
            subst (λ (k : Phase). Was on x.channels h k) (on-phase c on Doomed p is)
            (f.0, Creating rights, f.1, f.2 ∙ ap (λ (k : Handle). On k (Creating rights)) (on-handle c on Doomed p is), inr (rights, refl)));
        requests = asks-as-same x.requests x.requests refl;
        subscriptions = subs-gone;
        cancelled = cancels-gone;
      }
  backs-cleared (On c (Live n rights)) quiet at = absurd (both_ways true quiet refl)
  backs-cleared (On c Leaving) quiet at =
      let f = found-standing x h (On c Leaving) at in
      record {
        channels = back-stood on x.channels (On c Clearing) h (λ p is.
            subst (λ (k : Phase). Was on x.channels h k) (on-phase c on Clearing p is)
            (f.0, Leaving, f.1, f.2 ∙ ap (λ (k : Handle). On k Leaving) (on-handle c on Clearing p is), refl));
        requests = asks-over-as (cleared h (On c Leaving) x).requests refl;
        subscriptions = subs-over c;
        cancelled = cancels-over c;
      }
  backs-cleared (On c Clearing) quiet at = absurd (both_ways true (never-cleared x h c Clearing at) refl)
  backs-cleared (On c Doomed) quiet at = absurd (both_ways true (never-cleared x h c Doomed at) refl)

  silent-cleared : (s : Standing) → is_live_now s ≡ false → standing_at x h ≡ Some s → Sound on (cleared h s x) e
  silent-cleared s quiet at = silent-keeps on x (cleared h s x) e (cleared-keeps s at) (backs-cleared s quiet at) (rests-cleared-so on x h s sound.base.placed.attached at) sound

  module _ (c : Handle) (n : Native) (rights : ℕ) (at : standing_at x h ≡ Some (On c (Live n rights))) where
    abbrev clears : Sending
    clears = clear_sent c n.sid h

    abbrev left-over : Client
    left-over = cleared h (On c (Live n rights)) x

    found-live : (ch : Channel) × (under x.channels h ≡ Some ch) × (ch.standing ≡ On c (Live n rights))
    found-live = found-standing x h (On c (Live n rights)) at

    no-such : (k : ℕ) → (clears.message).command ≡ k → (k ≡ 12 → ⊥) → ⊥
    no-such k is differ = differ (sym is)

    goes-clear : c ≡ on → GoesOn on left-over e clears.message
    goes-clear here =
        let has = sound.channels h found-live.0 (Live n rights) found-live.1 (found-live.2 ∙ ap (λ (k : Handle). On k (Live n rights)) here) in (
          has.0,
          has.1,
          wire_of h,
          has.2.0,
          inl (refl, refl),
          λ q r row which same. absurd (elim which [
            | inl reads ↦ no-such 15 reads (λ k. omega (arith, k))
            | inr puts ↦ no-such 19 puts (λ k. omega (arith, k))
          ]),
          λ k v row is same. absurd (no-such 1 is (λ j. omega (arith, j))),
        )

    clear-row : (k : Handle) (w : Channel) → under left-over.channels k ≡ Some w → ((k ≡ h) × (w.standing ≡ On c Clearing)) ⊎ ((k ≡ h → ⊥) × (under x.channels k ≡ Some w))
    clear-row k w row = elim (changed-back (λ (z : Channel). record z { standing = On c Clearing }) x.channels k h w row) [
      | inl own ↦ inl (own.0, ap (λ (z : Channel). z.standing) own.1.2)
      | inr old ↦ inr old
    ]

    overs-clear : Overs on (clears ∷ []) x left-over
    overs-clear k o = elim (clear-row k o.0 o.2) [
      | inl own ↦ inr (0, clears, refl, on-handle c on Clearing o.1 (sym own.1 ∙ o.3), refl, ap (λ (z : Handle). wire_of z) (sym own.0))
      | inr old ↦ inl (o.0, o.1, old.1, o.3, o.4)
    ]

    turn-clear : Turn on x left-over e (clears ∷ [])
    turn-clear =
        let keeps : Keeps x left-over = cleared-keeps (On c (Live n rights)) at in
        record {
          few = few-thins x left-over keeps.thins sound.base.few;
          placed = keeps.placed sound.base.placed;
          stands = λ k ch p row stands. inl (elim (clear-row k ch row) [
            | inl own ↦ subst (λ (q : Phase). Stands e (wire_of k) q) (on-phase c on Clearing p (sym own.1 ∙ stands)) tt
            | inr old ↦ sound.channels k ch p old.1 stands
          ]);
          cleared = λ i r k ch p at_r here is row stands same. elim (changed-back (λ (z : Channel). record z { standing = On c Clearing }) x.channels k h ch row) [
            | inl own ↦ ap is_kept (sym (on-phase c on Clearing p (sym (ap (λ (z : Channel). z.standing) own.1.2) ∙ stands)))
            | inr old ↦
                absurd (old.0 (one-by-wire x.channels k h ch found-live.0 sound.base.few.channels old.1 found-live.1 (sym same ∙ ap (λ (z : Sending). (z.message).p2) (only-one clears r i at_r).1)))
          ];
          adds = λ g d ch m t row stands on_it live_it. elim (clear-row d.channel ch on_it) [
            | inl own ↦ absurd (both_ways false refl (ap is_kept (on-phase c on Clearing (Live m t) (sym own.1 ∙ live_it))))
            | inr old ↦
                let was = subs-over c g d row in
                inl (adds-held on x e sound.base g was.0 ch m t was.1 (was.3 stands) (subst (λ (k : Handle). under x.channels k ≡ Some ch) was.2 old.1) live_it)
          ];
          cancelled = λ i r g d at_r here is row stands same.
              no-such 2 (subst (λ (z : Sending). Is command.EventCancel z.message) (only-one clears r i at_r).1 is) (λ k. omega (arith, k));
          stops = λ g d row stops. inl (cancels-over c on g d row stops);
          alone = λ i j r v at_r at_v ends. (only-one clears r i at_r).0 ∙ sym (only-one clears v j at_v).0;
          goes = λ i r at_r here is. (let one = (only-one clears r i at_r).1 in subst (λ (z : Sending). GoesOn on left-over e z.message) (sym one) (goes-clear (ap (λ (z : Sending). z.circuit) (sym one) ∙ here)));
          overs = overs-clear;
          cancels = λ i r at_r here is. absurd (no-such 2 (subst (λ (z : Sending). Is command.EventCancel z.message) (only-one clears r i at_r).1 is) (λ k. omega (arith, k)));
          opens = λ connected. inl (sym (keeps.links on) ∙ connected);
          linked = λ i r id at_r here gives. absurd (none-cleared h (On c (Live n rights)) i r id at_r gives);
          keeps = λ p m id at_m gives held.
              inl (keeps-rests on x left-over e (clears ∷ []) overs-clear (rests-cleared-so on x h (On c (Live n rights)) sound.base.placed.attached at) (asks-over-as left-over.requests refl) (subscribes-on x.subscriptions left-over.subscriptions (subs-over c)) p m id held);
        }

    sound-clear : Sound on (sending (clears ∷ []) left-over) (with_all_sent (sent_on on (clears ∷ [])) e)
    sound-clear =
        turned on x (sending (clears ∷ []) left-over) e (clears ∷ []) sound.base (turn-sending on x left-over e (clears ∷ []) (keeps-sending (clears ∷ []) left-over).links turn-clear)
        (given-nothing on x (sending (clears ∷ []) left-over) (clears ∷ []) (none-cleared h (On c (Live n rights))))

  quiet-cleared : (s : Standing) → is_live_now s ≡ false → standing_at x h ≡ Some s → Sound on (sending [] (cleared h s x)) (with_all_sent (sent_on on []) e)
  quiet-cleared s quiet at = subst (λ (f : Conduct). Sound on (cleared h s x) f) (sym (sent-nothing on e)) (silent-cleared s quiet at)

  pub sound-cleared : (s : Standing) → standing_at x h ≡ Some s → Sound on (sending (clearing_sent h s) (cleared h s x)) (with_all_sent (sent_on on (clearing_sent h s)) e)
  sound-cleared Searching at = quiet-cleared Searching refl at
  sound-cleared (On c Connecting) at = quiet-cleared (On c Connecting) refl at
  sound-cleared (On c (Creating rights)) at = quiet-cleared (On c (Creating rights)) refl at
  sound-cleared (On c (Live n rights)) at = sound-clear c n rights at
  sound-cleared (On c Leaving) at = quiet-cleared (On c Leaving) refl at
  sound-cleared (On c Clearing) at = quiet-cleared (On c Clearing) refl at
  sound-cleared (On c Doomed) at = quiet-cleared (On c Doomed) refl at
