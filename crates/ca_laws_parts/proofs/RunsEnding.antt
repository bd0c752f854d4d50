-- A caller clears a channel or ends a subscription: what is held of each circuit of
-- its client stays so.
use Rattle.std.proofs.Common.{◌≡◌, ℕ, inl, inr, Bool, true, false, ◌&&◌, ◌||◌, cond, List, [], ◌∷◌, Option, Some, None, refl, sym, ap, ◌∙◌, subst}
use Rattle.std.specs.Prelude.{Ok, option_and_then, option_map, unwrap_or}
use Rattle.std.proofs.lemmas.Bool.{both_ways}
use Rattle.ca_arena.specs.declared.handle.Handle.{Handle}
use Rattle.ca_ids.specs.Table.{same_handle, under, with_freed}
use Rattle.ca_monitor.specs.Subscriptions.{Stage, Stands, Cancelled, Ended, Subscription, drains_in, stands_in, with_stage}
use Rattle.ca_requests.specs.Requests.{was_sent_on}
use Rattle.ca_model.specs.Answers.{Notice, Sending}
use Rattle.ca_model.specs.Client.{Channel, Client, Clearing, Connecting, Creating, Doomed, Leaving, Live, On, Phase, Searching, Standing, is_cleared, is_on_in, phase_on, sending, standing_at, standing_unless_cleared}
use Rattle.ca_model.specs.ClientCalls.{ClientClears, ClientUnsubscribes, cancel_sent, clear_sent, cleared, clearing_sent, event_cancel_sent, unsubscribed}
use Rattle.ca_model.specs.History.{Intent}
use Rattle.ca_model.specs.History as history
use Rattle.ca_model.specs.Channels.{Suits}
use Rattle.ca_model.specs.ClientEvents.{cancelled, channel_number}
use Rattle.ca_model.specs.World.{Joined, Names}
use Rattle.ca_laws_parts.specs.Flows.{Awaits, MaySend, with_sent}
use Rattle.ca_laws_parts.specs.Held.{HoldAlike, Holds, MeanToSubscribe, clear_of, has_id, is_subscribed}
use Rattle.ca_model.specs.Placed.{Attached}
use Rattle.ca_laws_parts.proofs.Alike.{alike-itself, changed-alike, freed-alike, holds-alike, sending-alike, with-others}
use Rattle.ca_laws_parts.proofs.Clears.{clears}
use Rattle.ca_model.proofs.Standings.{found-standing}
use Rattle.ca_model.proofs.Handles.{same-itself}
use Rattle.ca_laws_parts.proofs.Others.{cleared-away, cleared-early, cleared-elsewhere, cleared-left}
use Rattle.ca_model.proofs.Standings.{fails-anywhere, fails-searched}
use Rattle.ca_laws_parts.proofs.Subscribes.{unsubscribe-keeps, unsubscribe-may}
use Rattle.ca_laws_parts.specs.Circuit.{HeldOn, sent_to, stamped}
use Rattle.ca_laws_parts.proofs.RunsCalls.{no-creation-clear}
use Rattle.ca_laws_parts.proofs.RunsSending.{none-sent-to, one-sent}
use Rattle.ca_model.proofs.Standings.{never-cleared, stands-as}

-- ---- clear

pub clear-held : (kept : List ℕ) (i : ℕ) (n : Names) (x y : Client) (j : Joined) (h : Handle) (notices : List Notice) (sent : List Sending) → Attached x → ClientClears x h (Ok notices) sent y → HeldOn kept n x j → j.client ≡ i → HeldOn kept n y (sent_to i n sent j)
clear-held kept i n x y j h notices sent attached clearing held mine =
    subst (λ (z : List Sending × Client). HeldOn kept n z.1 (sent_to i n z.0 j)) (λ k. (sym clearing.3.0 k, sym clearing.3.1 k)) (by clearing.0 clearing.1)
  where
    silent : (z : Client) → HoldAlike j.at_client x z → HeldOn kept n z (sent_to i n [] j)
    silent z alike = none-sent-to kept i n n x z j held (λ k g at. at) (λ o holds. holds-alike (Awaits j.lists kept) j.at_client n x z j.lists alike holds)

    by : (s : Standing) → standing_at x h ≡ Some s → HeldOn kept n (sending (clearing_sent h s) (cleared h s x)) (sent_to i n (clearing_sent h s) j)
    by Searching at = silent (cleared h Searching x) (cleared-away j.at_client x h Searching attached at (inl refl))
    by (On o Connecting) at = silent (cleared h (On o Connecting) x) (cleared-away j.at_client x h (On o Connecting) attached at (inr (o, refl)))
    by (On o (Creating rights)) at = silent (cleared h (On o (Creating rights)) x) (cleared-early j.at_client x h o rights attached at)
    by (On o Leaving) at = silent (cleared h (On o Leaving) x) (cleared-left j.at_client x h o at)
    by (On o Clearing) at = absurd (both_ways true (never-cleared x h o Clearing at) refl)
    by (On o Doomed) at = absurd (both_ways true (never-cleared x h o Doomed at) refl)
    by (On o (Live native rights)) at =
        let s : Sending = clear_sent o native.sid h in
        let z : Client = cleared h (On o (Live native rights)) x in
        one-sent kept i n n x (sending (s ∷ []) z) j s held mine (λ k g at. at) (λ a creates. absurd (no-creation-clear (channel_number n h) a creates))
        (λ open_it same holds.
        subst (λ (k : Handle). MaySend (Awaits j.lists kept) j.lists (clear_of n native.sid h) × Holds (Awaits j.lists kept) j.at_client n (sending (clear_sent k native.sid h ∷ []) (cleared h (On k (Live native rights)) x)) (with_sent (clear_of n native.sid h) j.lists)) (sym same)
        (clears (Awaits j.lists kept) j.at_client n x j.lists h native rights (subst (λ (k : Handle). standing_at x h ≡ Some (On k (Live native rights))) same at) holds))
        (λ open_it other holds.
        holds-alike (Awaits j.lists kept) j.at_client n z (sending (s ∷ []) z) j.lists (sending-alike j.at_client (s ∷ []) z)
        (holds-alike (Awaits j.lists kept) j.at_client n x z j.lists (cleared-elsewhere j.at_client x h o native rights at other) holds))

-- ---- unsubscribe

-- whether a channel is subscribed to on a circuit
abbrev subscribed-to : Client → (on : Handle) → (channel : Handle) → Bool
subscribed-to x on channel = unwrap_or (option_map (is_on_in is_subscribed on) (under x.channels channel)) false

-- a subscription that stands has its id where its channel is subscribed to
has-standing : (x : Client) (on : Handle) (d : Subscription) → stands_in d.stage ≡ true → has_id x.channels on d ≡ subscribed-to x on d.channel
has-standing x on d stands = go d.stage stands
  where
    go : (s : Stage) → stands_in s ≡ true → (drains_in on s || (stands_in s && subscribed-to x on d.channel)) ≡ subscribed-to x on d.channel
    go Stands f = refl
    go (Cancelled o) f = absurd (both_ways false refl f)
    go (Ended o) f = absurd (both_ways false refl f)

-- a channel in a phase that is subscribed to is so on its own circuit
subscribed-there : (x : Client) (on o channel : Handle) (p : Phase) → standing_at x channel ≡ Some (On o p) → is_subscribed p ≡ true → subscribed-to x on channel ≡ same_handle o on
subscribed-there x on o channel p at is =
    let found = found-standing x channel (On o p) at in
    ap (λ (w : Option Channel). unwrap_or (option_map (is_on_in is_subscribed on) w) false) found.1
    ∙ ap (λ (s : Standing). unwrap_or (option_map is_subscribed (phase_on on s)) false) found.2 ∙ go (same_handle o on)
  where
    go : (b : Bool) → unwrap_or (option_map is_subscribed (cond b (Some p) None)) false ≡ b
    go true = is
    go false = refl

-- and a channel in another phase is nowhere
unsubscribed-there : (x : Client) (on o channel : Handle) (p : Phase) → standing_at x channel ≡ Some (On o p) → is_subscribed p ≡ false → subscribed-to x on channel ≡ false
unsubscribed-there x on o channel p at is =
    let found = found-standing x channel (On o p) at in
    ap (λ (w : Option Channel). unwrap_or (option_map (is_on_in is_subscribed on) w) false) found.1 ∙ fails-anywhere is_subscribed on o found.0 p found.2 is

-- nor is one that its handle names no more
stale-there : (x : Client) (on channel : Handle) → standing_at x channel ≡ None → subscribed-to x on channel ≡ false
stale-there x on channel at = go (under x.channels channel) at
  where
    phases : (p : Phase) → is_cleared p ≡ true → is_subscribed p ≡ false
    phases Connecting f = absurd (both_ways false refl f)
    phases (Creating rights) f = refl
    phases (Live n rights) f = absurd (both_ways false refl f)
    phases Leaving f = absurd (both_ways false refl f)
    phases Clearing f = refl
    phases Doomed f = refl

    by : (ch : Channel) (s : Standing) → ch.standing ≡ s → standing_unless_cleared s ≡ None → is_on_in is_subscribed on ch ≡ false
    by ch Searching is e = absurd cc
    by ch (On c p) is e = pick (is_cleared p) refl e
      where
        pick : (b : Bool) → is_cleared p ≡ b → cond b None (Some (On c p)) ≡ None → is_on_in is_subscribed on ch ≡ false
        pick true yes_it e = fails-anywhere is_subscribed on c ch p is (phases p yes_it)
        pick false no_it e = absurd cc

    go : (w : Option Channel) → option_and_then (λ (here : Channel). standing_unless_cleared here.standing) w ≡ None → unwrap_or (option_map (is_on_in is_subscribed on) w) false ≡ false
    go (Some ch) e = by ch ch.standing refl e
    go None e = refl

no-creation-cancel : (a b m : ℕ) → history.On a (history.Cancel m) ≡ history.On b history.Create → ⊥
no-creation-cancel a b m e = cc

pub unsubscribe-held : (kept : List ℕ) (i : ℕ) (n : Names) (x y : Client) (j : Joined) (g : Handle) (sent : List Sending) → MeanToSubscribe n x.subscriptions → ClientUnsubscribes x g (Ok tt) sent y → HeldOn kept n x j → j.client ≡ i → HeldOn kept n y (sent_to i n sent j)
unsubscribe-held kept i n x y j g sent meant ends held mine =
    subst (λ (z : List Sending × Client). HeldOn kept n z.1 (sent_to i n z.0 j)) (λ k. (sym ends.3.0 k, sym ends.3.1 k)) (by (standing_at x ends.0.channel) refl)
  where
    d : Subscription
    d = ends.0

    there : under x.subscriptions g ≡ Some ends.0
    there = (stands-as x g ends.0 ends.1).0

    stands : stands_in ends.0.stage ≡ true
    stands = (stands-as x g ends.0 ends.1).1

    silent : (z : Client) → HoldAlike j.at_client x z → HeldOn kept n z (sent_to i n [] j)
    silent z alike = none-sent-to kept i n n x z j held (λ k g at. at) (λ o holds. holds-alike (Awaits j.lists kept) j.at_client n x z j.lists alike holds)

    -- it has its id nowhere, and is gone
    freed : subscribed-to x j.at_client ends.0.channel ≡ false → HeldOn kept n (record x { subscriptions = with_freed g x.subscriptions }) (sent_to i n [] j)
    freed none =
        let z : Client = record x { subscriptions = with_freed g x.subscriptions } in
        silent z (with-others j.at_client x z refl (alike-itself (was_sent_on j.at_client) x.requests)
        (freed-alike (has_id x.channels j.at_client) x.subscriptions g ends.0 there (has-standing x j.at_client ends.0 stands ∙ none)))

    -- it drains on the circuit on which it had its id
    drains : (o : Handle) (s : Stage) → drains_in j.at_client s ≡ same_handle o j.at_client → stands_in s ≡ false → subscribed-to x j.at_client ends.0.channel ≡ same_handle o j.at_client
        → HoldAlike j.at_client x (record x { subscriptions = with_stage s g x.subscriptions })
    drains o s draining over was =
        let z : Client = record x { subscriptions = with_stage s g x.subscriptions } in
        with-others j.at_client x z refl (alike-itself (was_sent_on j.at_client) x.requests)
        (changed-alike (has_id x.channels j.at_client) (λ (v : Subscription). record v { stage = s }) x.subscriptions g ends.0 there
        (has-standing x j.at_client ends.0 stands ∙ was ∙ sym draining ∙ sym (has-over (drains_in j.at_client s) (stands_in s) (subscribed-to x j.at_client ends.0.channel) over)))
      where
        has-over : (a b e : Bool) → b ≡ false → (a || (b && e)) ≡ a
        has-over true b e no_it = refl
        has-over false b e no_it = ap (λ (z : Bool). z && e) no_it

    by : (o : Option Standing) → standing_at x ends.0.channel ≡ o → HeldOn kept n (sending (cancel_sent g ends.0 o) (unsubscribed g o x)) (sent_to i n (cancel_sent g ends.0 o) j)
    by None at = freed (stale-there x j.at_client ends.0.channel at)
    by (Some Searching) at =
        let found = found-standing x ends.0.channel Searching at in
        freed (ap (λ (w : Option Channel). unwrap_or (option_map (is_on_in is_subscribed j.at_client) w) false) found.1 ∙ fails-searched is_subscribed j.at_client found.0 found.2)
    by (Some (On o Connecting)) at = freed (unsubscribed-there x j.at_client o ends.0.channel Connecting at refl)
    by (Some (On o (Creating rights))) at = freed (unsubscribed-there x j.at_client o ends.0.channel (Creating rights) at refl)
    by (Some (On o Clearing)) at = freed (unsubscribed-there x j.at_client o ends.0.channel Clearing at refl)
    by (Some (On o Doomed)) at = freed (unsubscribed-there x j.at_client o ends.0.channel Doomed at refl)
    by (Some (On o Leaving)) at = silent (record x { subscriptions = with_stage (Ended o) g x.subscriptions }) (drains o (Ended o) refl refl (subscribed-there x j.at_client o ends.0.channel Leaving at refl))
    by (Some (On o (Live native rights))) at =
        let s : Sending = event_cancel_sent o native.sid g ends.0 in
        let z : Client = record x { subscriptions = with_stage (Cancelled o) g x.subscriptions } in
        let m = meant g ends.0 there in
        let is : (stamped n s).intent ≡ history.On m.0 (history.Cancel m.1) = ap cancelled m.2 in
        let live : subscribed-to x j.at_client ends.0.channel ≡ same_handle o j.at_client = subscribed-there x j.at_client o ends.0.channel (Live native rights) at refl in
        one-sent kept i n n x (sending (s ∷ []) z) j s held mine (λ k g at. at) (λ a creates. absurd (no-creation-cancel m.0 a m.1 (sym is ∙ creates)))
        (λ open_it same holds.
        let has : has_id x.channels j.at_client ends.0 ≡ true =
        has-standing x j.at_client ends.0 stands ∙ live ∙ ap (λ (k : Handle). same_handle k j.at_client) same ∙ same-itself j.at_client in
        let suits : Suits (stamped n s).intent s.message = subst (λ (k : Intent). Suits k s.message) (sym is) refl in
        subst (λ (k : Handle). MaySend (Awaits j.lists kept) j.lists (stamped n s) × Holds (Awaits j.lists kept) j.at_client n (sending (s ∷ []) (record x { subscriptions = with_stage (Cancelled k) g x.subscriptions })) (with_sent (stamped n s) j.lists)) (sym same) (
          unsubscribe-may (Awaits j.lists kept) j.at_client n x j.lists (stamped n s) g ends.0 refl refl refl suits there has holds,
          unsubscribe-keeps (Awaits j.lists kept) j.at_client n x j.lists (stamped n s) g ends.0 refl refl refl suits there has holds s,
        ))
        (λ open_it other holds.
        holds-alike (Awaits j.lists kept) j.at_client n z (sending (s ∷ []) z) j.lists (sending-alike j.at_client (s ∷ []) z)
        (holds-alike (Awaits j.lists kept) j.at_client n x z j.lists (drains o (Cancelled o) refl refl live) holds))
