-- The end of a circuit, and what else a client does on one circuit: other
-- circuits see no difference.
use Rattle.std.proofs.Common.{◌≡◌, ℕ, suc, inl, inr, Bool, true, false, ◌&&◌, List, [], ◌∷◌, Option, Some, None, refl, sym, ap, ◌∙◌, subst}
use Rattle.std.specs.Prelude.{fold, not, option_map, unwrap_or}
use Rattle.std.proofs.lemmas.Bool.{both_ways, cases_Bool, or_cases, and_parts}
use Rattle.ca_text.specs.Place.{At}
use Rattle.ca_arena.specs.declared.handle.Handle.{Handle}
use Rattle.ca_ids.specs.Table.{Table, same_handle, under}
use Rattle.ca_monitor.specs.Subscriptions.{Stage, Stands, Cancelled, Ended, Subscription, drains_in, is_to, stands_in}
use Rattle.ca_requests.specs.Requests.{Request, asks_on, was_sent_on}
use Rattle.ca_model.specs.Client.{Channel, Client, ClientCircuit, On, Phase, Searching, channels_ended, channels_on, ended, is_cleared, is_on_in, let_go, searched_again, with_standing, without_channel, without_ids}
use Rattle.ca_model.specs.Hears.{without_drained, without_request, without_subscription}
use Rattle.ca_laws_parts.specs.Held.{HoldAlike, has_id, is_asked, is_subscribed}
use Rattle.ca_model.specs.Placed.{Attached, was_live}
use Rattle.ca_laws_parts.proofs.Alike.{alike-itself, all-freed-alike, channel-freed-if, client-itself, client-then, freed-alike, not-subscribed, restood, restood-if, with-others}
use Rattle.ca_model.proofs.Handles.{not-same, same-is, same-not}
use Rattle.ca_laws_parts.proofs.Others.{let-go-alike}
use Rattle.ca_model.proofs.Standings.{fails-elsewhere}
use Rattle.ca_model.proofs.Tables.{changed-back, freed-back, one-value}
use Rattle.ca_model.proofs.Standings.{on-one, on-circuit}

-- ---- on one circuit, and on no other

-- an id drains on one circuit
pub drains-one : (c on : Handle) (s : Stage) → drains_in c s ≡ true → drains_in on s ≡ true → c ≡ on
drains-one c on Stands a b = absurd (both_ways false refl a)
drains-one c on (Cancelled d) a b = sym (same-is d c a) ∙ same-is d on b
drains-one c on (Ended d) a b = sym (same-is d c a) ∙ same-is d on b

stands-not : (c : Handle) (s : Stage) → stands_in s ≡ true → drains_in c s ≡ true → ⊥
stands-not c Stands a b = both_ways false refl b
stands-not c (Cancelled d) a b = both_ways false refl a
stands-not c (Ended d) a b = both_ways false refl a

-- what drains on another circuit has no id here
drains-not-here : (c on : Handle) (t : Table Channel) (v : Subscription) → (c ≡ on → ⊥) → has_id t on v ≡ true → drains_in c v.stage ≡ false
drains-not-here c on t v other has = elim (cases_Bool (drains_in c v.stage)) [
  | inr none ↦ none
  | inl there ↦ absurd (elim (or_cases (drains_in on v.stage) (stands_in v.stage && unwrap_or (option_map (is_on_in is_subscribed on) (under t v.channel)) false) has) [
    | inl here ↦ other (drains-one c on v.stage there here)
    | inr stands ↦ stands-not c v.stage (and_parts (stands_in v.stage) (unwrap_or (option_map (is_on_in is_subscribed on) (under t v.channel)) false) stands).0 there
  ])
]

-- what was sent on another circuit was not sent here
sent-not-here : (c on : Handle) (r : Request) → (c ≡ on → ⊥) → was_sent_on on r ≡ true → was_sent_on c r ≡ false
sent-not-here c on r other here = same-not r.circuit c (λ e. other (sym e ∙ same-is r.circuit on here))

-- ---- the end of a circuit

-- whatever channel has this handle is not on the circuit
abbrev Away : (on : Handle) → Client → Handle → Type 0
Away on y h = (ch : Channel) → under y.channels h ≡ Some ch → is_on_in is_asked on ch ≡ false

gone-one : (on : Handle) (y : Client) (h : Handle) → Away on y h → HoldAlike on y (without_channel y h)
gone-one on y h away = channel-freed-if on y h away

again-one : (on : Handle) (y : Client) (h : Handle) → Away on y h → HoldAlike on y (searched_again y h)
again-one on y h away =
    let r : HoldAlike on y (with_standing Searching h y) = restood-if on y h Searching (λ ch there. away ch there) (λ ch there. not-subscribed on ch (away ch there)) in
    record { asked = r.asked; requests = r.requests; subscriptions = r.subscriptions }

gone-away : (on : Handle) (y : Client) (h k : Handle) → Away on y k → Away on (without_channel y h) k
gone-away on y h k away ch is = away ch (freed-back y.channels k h ch is).1

again-away : (on : Handle) (y : Client) (h k : Handle) → Away on y k → Away on (searched_again y h) k
again-away on y h k away ch is = elim (changed-back (λ (w : Channel). record w { standing = Searching }) y.channels k h ch is) [
  | inl own ↦ ap (λ (z : Channel). is_on_in is_asked on z) own.1.2
  | inr old ↦ away ch old.1
]

-- one step for each of these channels, none of which is on the circuit
all-alike-so : (on : Handle) (f : Client → Handle → Client) → ((y : Client) (h : Handle) → Away on y h → HoldAlike on y (f y h)) → ((y : Client) (h k : Handle) → Away on y k → Away on (f y h) k)
    → (hs : List Handle) (y : Client) → ((i : ℕ) (k : Handle) → At hs i k → Away on y k) → HoldAlike on y (fold f y hs) × ((k : Handle) → Away on y k → Away on (fold f y hs) k)
all-alike-so on f one keeps [] y away = (client-itself on y, λ k a. a)
all-alike-so on f one keeps (h ∷ hs) y away =
    let rest = all-alike-so on f one keeps hs (f y h) (λ i k at. keeps y h k (away (suc i) k at)) in
    (client-then on y (f y h) (fold f (f y h) hs) (one y h (away 0 h refl)) rest.0, λ k a. rest.1 k (keeps y h k a))

-- the channels of another circuit are not on this one
away-there : (test : Phase → Bool) (c on : Handle) (x : Client) → (c ≡ on → ⊥) → (i : ℕ) (k : Handle) → At (channels_on test c x) i k → Away on x k
away-there test c on x other i k at =
    let r = on-circuit test c x i k at in
    λ ch is. elim (cases_Bool (is_on_in is_asked on ch)) [
      | inl here ↦
          let same : r.0 ≡ ch = one-value x.channels k r.0 ch r.1 is in
          absurd (other (on-one test is_asked c on ch (subst (λ (z : Channel). is_on_in test c z ≡ true) same r.2) here))
      | inr none ↦ none
    ]

channels-alike : (c on : Handle) (x : Client) → (c ≡ on → ⊥) → HoldAlike on x (channels_ended c x)
channels-alike c on x other =
    let cleared : List Handle = channels_on is_cleared c x in
    let others : List Handle = channels_on (λ (p : Phase). not (is_cleared p)) c x in
    let gone = all-alike-so on without_channel (gone-one on) (gone-away on) cleared x (away-there is_cleared c on x other) in
    let again =
    all-alike-so on searched_again (again-one on) (again-away on) others (fold without_channel x cleared)
    (λ i k at. gone.1 k (away-there (λ (p : Phase). not (is_cleared p)) c on x other i k at)) in
    client-then on x (fold without_channel x cleared) (channels_ended c x) gone.0 again.0

ids-alike-ended : (c on : Handle) (x : Client) → (c ≡ on → ⊥) → HoldAlike on x (without_ids c x)
ids-alike-ended c on x other =
    with-others on x (without_ids c x) refl
    (all-freed-alike (was_sent_on on) (was_sent_on c) x.requests (λ g r is here. sent-not-here c on r other here))
    (all-freed-alike (has_id x.channels on) (λ (s : Subscription). drains_in c s.stage) x.subscriptions (λ g v is has. drains-not-here c on x.channels v other has))

-- An end of a circuit ended: another circuit sees no difference.
pub ended-elsewhere : (c on : Handle) (x : Client) → same_handle c on ≡ false → HoldAlike on x (ended c x)
ended-elsewhere c on x differ = go (under x.circuits c)
  where
    other : c ≡ on → ⊥
    other = not-same c on differ

    go : (o : Option ClientCircuit) → HoldAlike on x (unwrap_or (option_map (λ (d : ClientCircuit). let_go c d (channels_ended c (without_ids c x))) o) x)
    go (Some d) =
        let y : Client = channels_ended c (without_ids c x) in
        client-then on x y (let_go c d y) (client-then on x (without_ids c x) y (ids-alike-ended c on x other) (channels-alike c on (without_ids c x) other)) (let-go-alike on c d y)
    go None = client-itself on x

-- ---- what is read on another circuit

pub request-elsewhere : (on : Handle) (x : Client) (q : Handle) (r : Request) → under x.requests q ≡ Some r → was_sent_on on r ≡ false → HoldAlike on x (without_request q x)
request-elsewhere on x q r is away =
    with-others on x (without_request q x) refl (freed-alike (was_sent_on on) x.requests q r is away) (alike-itself (has_id x.channels on) x.subscriptions)

pub subscription-elsewhere : (on : Handle) (x : Client) (g : Handle) (d : Subscription) → under x.subscriptions g ≡ Some d → has_id x.channels on d ≡ false → HoldAlike on x (without_subscription g x)
subscription-elsewhere on x g d is away =
    with-others on x (without_subscription g x) refl (alike-itself (was_sent_on on) x.requests) (freed-alike (has_id x.channels on) x.subscriptions g d is away)

-- the ids of a channel no longer drain on its circuit
drained-elsewhere : (c on h : Handle) (x : Client) → (c ≡ on → ⊥) → Attached x → ((ch : Channel) → under x.channels h ≡ Some ch → is_on_in was_live on ch ≡ false) → HoldAlike on x (without_drained c h x)
drained-elsewhere c on h x other attached never =
    with-others on x (without_drained c h x) refl
    (all-freed-alike (was_sent_on on) (asks_on h) x.requests (λ g r is here. elim (cases_Bool (asks_on h r)) [
      | inr none ↦ none
      | inl asks ↦
          let was = attached.requests g r is in
          let there : under x.channels h ≡ Some was.0 = subst (λ (k : Handle). under x.channels k ≡ Some was.0) (same-is r.channel h asks) was.1 in
          let lives : is_on_in was_live on was.0 ≡ true = subst (λ (k : Handle). is_on_in was_live k was.0 ≡ true) (same-is r.circuit on here) was.2 in
          absurd (both_ways (is_on_in was_live on was.0) (never was.0 there) lives)
    ]))
    (all-freed-alike (has_id x.channels on) (λ (s : Subscription). is_to h s && drains_in c s.stage) x.subscriptions (λ g v is has. elim (cases_Bool (is_to h v && drains_in c v.stage)) [
      | inr none ↦ none
      | inl both ↦
          absurd (both_ways (drains_in c v.stage) (drains-not-here c on x.channels v other has) (and_parts (is_to h v) (drains_in c v.stage) both).1)
    ]))

-- the reply to a CLEAR_CHANNEL was read on another circuit
pub answered-elsewhere : (c on h : Handle) (x : Client) (ch : Channel) (p : Phase) → same_handle c on ≡ false → Attached x → under x.channels h ≡ Some ch → ch.standing ≡ On c p
    → HoldAlike on x (without_channel (without_drained c h x) h) × HoldAlike on x (searched_again (without_drained c h x) h)
answered-elsewhere c on h x ch p differ attached there stands =
    let other : c ≡ on → ⊥ = not-same c on differ in
    let y : Client = without_drained c h x in
    let away : (test : Phase → Bool) (w : Channel) → under x.channels h ≡ Some w → is_on_in test on w ≡ false =
    λ test w is. subst (λ (z : Channel). is_on_in test on z ≡ false) (one-value x.channels h ch w there is) (fails-elsewhere test on c ch p stands differ) in
    let drained : HoldAlike on x y = drained-elsewhere c on h x other attached (away was_live) in (
      client-then on x y (without_channel y h) drained (gone-one on y h (away is_asked)),
      client-then on x y (searched_again y h) drained (again-one on y h (away is_asked)),
    )

-- a channel goes from one phase to another on another circuit
pub phase-elsewhere : (c on h : Handle) (x : Client) (ch : Channel) (p q : Phase) → same_handle c on ≡ false → under x.channels h ≡ Some ch → ch.standing ≡ On c p → HoldAlike on x (with_standing (On c q) h x)
phase-elsewhere c on h x ch p q differ there stands =
    restood on x h (On c q) ch there (fails-elsewhere is_asked on c ch p stands differ ∙ sym (fails-elsewhere is_asked on c (record ch { standing = On c q }) q refl differ))
    (fails-elsewhere is_subscribed on c ch p stands differ ∙ sym (fails-elsewhere is_subscribed on c (record ch { standing = On c q }) q refl differ))

-- and is searched for again, or gone
pub gone-elsewhere : (c on h : Handle) (x : Client) (ch : Channel) (p : Phase) → same_handle c on ≡ false → under x.channels h ≡ Some ch → ch.standing ≡ On c p → HoldAlike on x (without_channel x h) × HoldAlike on x (searched_again x h)
gone-elsewhere c on h x ch p differ there stands =
    let away : Away on x h = λ w is. subst (λ (z : Channel). is_on_in is_asked on z ≡ false) (one-value x.channels h ch w there is) (fails-elsewhere is_asked on c ch p stands differ) in
    (gone-one on x h away, again-one on x h away)
