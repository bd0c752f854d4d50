-- What each change of a client leaves of the ids that it holds on one circuit: they are held on, or
-- what was read frees them.
use Rattle.std.proofs.Common.{◌≡◌, ℕ, ◌⊎◌, inl, inr, Bool, true, false, ◌&&◌, ◌||◌, cond, eqb, List, [], ◌∷◌, Option, Some, None, refl, sym, ap, ◌∙◌, subst}
use Rattle.std.specs.Prelude.{option_map, unwrap_or}
use Rattle.std.proofs.lemmas.Bool.{and_parts, both_ways, cases_Bool, eqb-true, or_cases}
use Rattle.ca_text.specs.Command.{command_number}
use Rattle.ca_arena.specs.declared.handle.Handle.{Handle}
use Rattle.ca_ids.specs.Table.{Table, same_handle, under, with_changed, with_freed}
use Rattle.ca_ids.specs.Wire.{wire_of}
use Rattle.ca_monitor.specs.Subscriptions.{Stage, Stands, Subscription, confirmed_by, drains_in, is_cancelled_in, is_to, stands_in}
use Rattle.ca_monitor.specs.Subscriptions as monitor
use Rattle.ca_requests.specs.Meaning.{QuotesHeader}
use Rattle.ca_requests.specs.Requests.{Request, answered_by, asks_on, command_of, was_sent_on}
use Rattle.ca_requests.specs.Requests as request
use Rattle.ca_text.specs.declared.command.Command.TheVariants as command
use Rattle.ca_wire.specs.declared.header.Header.{Header}
use Rattle.ca_wire.specs.Fields.{Fields}
use Rattle.ca_wire.specs.Messages.{header_only}
use Rattle.ca_model.specs.Answers.{Notice, Sending}
use Rattle.ca_model.specs.Client.{Channel, Client, ClientCircuit, Clearing, Connecting, Connection, Creating, Doomed, Leaving, Live, On, Phase, Searching, Standing, channel_on, circuit_to, found_on, is_on_in, searched_again, sending, with_one_sent, with_requests, with_standing, without_channel}
use Rattle.ca_model.specs.Client as phase
use Rattle.ca_model.specs.ClientEnds.{Receives, ReceivesAll, beacon_heard}
use Rattle.ca_model.specs.ClientEnds as ends
use Rattle.ca_model.specs.Ends.{Address}
use Rattle.ca_model.specs.Hears.{Answers, Completes, Effect, Fails, FindsAt, Hears, PutsOn, Updates, any_failed, clear_answered, confirmed, created, doing, failed, found_at, subscription_on, left, put_on, request_failed, rights_told, searched_by, subscription_failed, with_circuit, without_drained, without_request, without_subscription, write_failed}
use Rattle.ca_model.specs.Hears as hears
use Rattle.ca_model.specs.Speech.{Is}
use Rattle.ca_model.specs.Placed.{Attached, was_live}
use Rattle.ca_model.proofs.Handles.{handle-or, not-same, same-is}
use Rattle.ca_model.proofs.Standings.{channel-on, fails-anywhere, fails-elsewhere, fails-searched, on-one, searched-is}
use Rattle.ca_model.proofs.Tables.{all-freed-there, all-there, changed-other, changed-own, freed-other, one-value}
use Rattle.ca_laws_parts.specs.Held.{HoldAlike, has_id, is_asked, is_subscribed}
use Rattle.ca_laws_parts.proofs.Ended.{confirmed-is}
use Rattle.ca_laws_parts.proofs.CircuitHeard.{answered-is, has-too}
use Rattle.ca_laws_parts.proofs.Others.{passes-alike}
use Rattle.ca_laws_parts.proofs.Refused.{heard-is}

-- What the one client holds on the circuit of this handle, the other holds too;
-- requests ask the same.
pub record Rests (on : Handle) (x y : Client) : Type 0 where
  pub channels : (h : Handle) (v : Channel) → under x.channels h ≡ Some v → is_on_in is_asked on v ≡ true
      → (w : Channel) × (under y.channels h ≡ Some w) × (is_on_in is_asked on w ≡ true)
  pub requests : (q : Handle) (r : Request) → under x.requests q ≡ Some r → was_sent_on on r ≡ true
      → (u : Request) × (under y.requests q ≡ Some u) × (was_sent_on on u ≡ true) × (u.asked ≡ r.asked)
  pub subscriptions : (g : Handle) (d : Subscription) → under x.subscriptions g ≡ Some d → has_id x.channels on d ≡ true
      → (e : Subscription) × (under y.subscriptions g ≡ Some e) × (has_id y.channels on e ≡ true)

-- its CLEAR_CHANNEL went out
abbrev pub is_over : Phase → Bool
is_over Leaving = true
is_over Clearing = true
is_over p = false

-- The CLEAR_CHANNEL of this channel went out on the circuit, and is not answered.
abbrev pub OverAt : (on : Handle) → Table Channel → Handle → Type 0
OverAt on t h = (ch : Channel) × (p : Phase) × (under t h ≡ Some ch) × (ch.standing ≡ On on p) × (is_over p ≡ true)

-- The message that was read on the circuit frees the CID of this handle, the IOID of this request,
-- the id of this subscription; a confirmation only of one that was cancelled, and the reply to a
-- clear only what is on a channel that was cleared.
abbrev pub FreesCid : (on : Handle) → Client → Fields → Handle → Type 0
FreesCid on x m h = (Is command.CreateChannelFail m × (m.p1 ≡ wire_of h)) ⊎ (Is command.ClearChannel m × (m.p2 ≡ wire_of h) × OverAt on x.channels h)

abbrev pub FreesIoid : (on : Handle) → Client → Fields → Handle → Request → Type 0
FreesIoid on x m q r =
    ((m.command ≡ command_number (command_of r.asked)) × (m.p2 ≡ wire_of q))
    ⊎ ((Is command.Error m × ((h : Header) × QuotesHeader m h × (h.command ≡ command_number (command_of r.asked)) × (h.p2 ≡ wire_of q)))
    ⊎ (Is command.ClearChannel m × (m.p2 ≡ wire_of r.channel) × OverAt on x.channels r.channel))

abbrev pub FreesSub : (on : Handle) → Client → Fields → Handle → Subscription → Type 0
FreesSub on x m g d =
    (Is command.EventAdd m × (m.payload ≡ []) × (m.p2 ≡ wire_of g) × ((o : Handle) × (d.stage ≡ monitor.Cancelled o)))
    ⊎ ((Is command.Error m × ((h : Header) × QuotesHeader m h × (h.command ≡ command_number command.EventAdd) × (h.p2 ≡ wire_of g)) × (stands_in d.stage ≡ true))
    ⊎ (Is command.ClearChannel m × (m.p2 ≡ wire_of d.channel) × OverAt on x.channels d.channel))

-- So it is held on, or it was held on the circuit on which this was read, and that frees it.
pub record RestsBut (on c : Handle) (m : Fields) (x y : Client) : Type 0 where
  pub channels : (h : Handle) (v : Channel) → under x.channels h ≡ Some v → is_on_in is_asked on v ≡ true
      → ((w : Channel) × (under y.channels h ≡ Some w) × (is_on_in is_asked on w ≡ true)) ⊎ ((c ≡ on) × FreesCid on x m h)
  pub requests : (q : Handle) (r : Request) → under x.requests q ≡ Some r → was_sent_on on r ≡ true
      → ((u : Request) × (under y.requests q ≡ Some u) × (was_sent_on on u ≡ true) × (u.asked ≡ r.asked)) ⊎ ((c ≡ on) × FreesIoid on x m q r)
  pub subscriptions : (g : Handle) (d : Subscription) → under x.subscriptions g ≡ Some d → has_id x.channels on d ≡ true
      → ((e : Subscription) × (under y.subscriptions g ≡ Some e) × (has_id y.channels on e ≡ true)) ⊎ ((c ≡ on) × FreesSub on x m g d)

-- a subscription that was cancelled and has its id on a circuit is cancelled there
pub held-cancelled : (t : Table Channel) (on o : Handle) (d : Subscription) → d.stage ≡ monitor.Cancelled o → has_id t on d ≡ true → is_cancelled_in on d.stage ≡ true
held-cancelled t on o d is has =
    elim (or_cases (same_handle o on) false (subst (λ (s : Stage). (drains_in on s || (stands_in s && unwrap_or (option_map (is_on_in is_subscribed on) (under t d.channel)) false)) ≡ true) is has)) [
      | inl drains ↦ subst (λ (s : Stage). is_cancelled_in on s ≡ true) (sym is) drains
      | inr none ↦ absurd (both_ways false refl none)
    ]

pub rests-then : (on : Handle) (x y z : Client) → Rests on x y → Rests on y z → Rests on x z
rests-then on x y z a b = record {
  channels = λ h v is pass. (let u = a.channels h v is pass in b.channels h u.0 u.1 u.2);
  requests = λ q r is pass. (let u = a.requests q r is pass in let w = b.requests q u.0 u.1 u.2 in (w.0, w.1, w.2, w.3 ∙ u.3));
  subscriptions = λ g d is pass. (let u = a.subscriptions g d is pass in b.subscriptions g u.0 u.1 u.2);
}

pub but-rests : (on c : Handle) (m : Fields) (x y : Client) → Rests on x y → RestsBut on c m x y
but-rests on c m x y a = record {
  channels = λ h v is pass. inl (a.channels h v is pass);
  requests = λ q r is pass. inl (a.requests q r is pass);
  subscriptions = λ g d is pass. inl (a.subscriptions g d is pass);
}

pub but-then : (on c : Handle) (m : Fields) (x y z : Client) → RestsBut on c m x y → Rests on y z → RestsBut on c m x z
but-then on c m x y z a b = record {
  channels = λ h v is pass. elim (a.channels h v is pass) [
    | inl u ↦ inl (b.channels h u.0 u.1 u.2)
    | inr gone ↦ inr gone
  ];
  requests = λ q r is pass. elim (a.requests q r is pass) [
    | inl u ↦ (let w = b.requests q u.0 u.1 u.2 in inl (w.0, w.1, w.2, w.3 ∙ u.3))
    | inr gone ↦ inr gone
  ];
  subscriptions = λ g d is pass. elim (a.subscriptions g d is pass) [
    | inl u ↦ inl (b.subscriptions g u.0 u.1 u.2)
    | inr gone ↦ inr gone
  ];
}

-- ---- nothing changes

pub rests-same : (on : Handle) (x y : Client) → y.channels ≡ x.channels → y.requests ≡ x.requests → y.subscriptions ≡ x.subscriptions → Rests on x y
rests-same on x y channels requests subscriptions = record {
  channels = λ h v is pass. (v, subst (λ (t : Table Channel). under t h ≡ Some v) (sym channels) is, pass);
  requests = λ q r is pass. (r, subst (λ (t : Table Request). under t q ≡ Some r) (sym requests) is, pass, refl);
  subscriptions = λ g d is pass. (d, subst (λ (t : Table Subscription). under t g ≡ Some d) (sym subscriptions) is, subst (λ (t : Table Channel). has_id t on d ≡ true) (sym channels) pass);
}

pub rests-itself : (on : Handle) (x : Client) → Rests on x x
rests-itself on x = rests-same on x x refl refl refl

pub rests-sending : (on : Handle) (sends : List Sending) (x : Client) → Rests on x (sending sends x)
rests-sending on [] x = rests-itself on x
rests-sending on (s ∷ sends) x = rests-then on x (with_one_sent x s) (sending sends (with_one_sent x s)) (rests-same on x (with_one_sent x s) refl refl refl) (rests-sending on sends (with_one_sent x s))

-- ---- requests

abbrev pub Asks : (on : Handle) (t u : Table Request) → Type 0
Asks on t u = (q : Handle) (r : Request) → under t q ≡ Some r → was_sent_on on r ≡ true → (v : Request) × (under u q ≡ Some v) × (was_sent_on on v ≡ true) × (v.asked ≡ r.asked)

pub asks-same : (on : Handle) (t u : Table Request) → u ≡ t → Asks on t u
asks-same on t u same q r is pass = (r, subst (λ (v : Table Request). under v q ≡ Some r) (sym same) is, pass, refl)

pub asks-over : (on h : Handle) (t : Table Request) → Asks on t (request.channel_over h t)
asks-over on h t q r is pass = (let v = go (asks_on h r) in (request.over_on h r, all-there (request.over_on h) t q r is, v.0, v.1))
  where
    go : (b : Bool) → (was_sent_on on (cond b (record r { stage = request.Draining }) r) ≡ true) × ((cond b (record r { stage = request.Draining }) r).asked ≡ r.asked)
    go true = (pass, refl)
    go false = (pass, refl)

pub rests-alike : (on : Handle) (x y : Client) → HoldAlike on x y → Asks on x.requests y.requests → Rests on x y
rests-alike on x y a asks = record { channels = a.asked.keeps; requests = asks; subscriptions = a.subscriptions.keeps }

-- ---- one channel stands otherwise, or is gone

-- what passes on a circuit is there
pub stands-there : (test : Phase → Bool) (on o : Handle) (ch : Channel) (p : Phase) → ch.standing ≡ On o p → is_on_in test on ch ≡ true → o ≡ on
stands-there test on o ch p stands pass = elim (cases_Bool (same_handle o on)) [
  | inl same ↦ same-is o on same
  | inr other ↦ absurd (both_ways (is_on_in test on ch) (fails-elsewhere test on o ch p stands other) pass)
]

pub stood-row : (test : Phase → Bool) (on : Handle) (t : Table Channel) (h : Handle) (s : Standing) (ch : Channel) → under t h ≡ Some ch → (is_on_in test on ch ≡ true → is_on_in test on (record ch { standing = s }) ≡ true)
    → (k : Handle) (v : Channel) → under t k ≡ Some v → is_on_in test on v ≡ true → (w : Channel) × (under (with_changed (λ (c : Channel). record c { standing = s }) h t) k ≡ Some w) × (is_on_in test on w ≡ true)
stood-row test on t h s ch there keeps k v is pass = elim (handle-or k h) [
  | inr other ↦ (v, changed-other (λ (c : Channel). record c { standing = s }) t k h v is other, pass)
  | inl same ↦
      let f : Channel → Channel = λ (c : Channel). record c { standing = s } in
      let one : v ≡ ch = one-value t h v ch (subst (λ (g : Handle). under t g ≡ Some v) same is) there in (
        f ch,
        subst (λ (g : Handle). under (with_changed f h t) g ≡ Some (f ch)) (sym same) (changed-own f t h ch there),
        keeps (subst (λ (c : Channel). is_on_in test on c ≡ true) one pass),
      )
]

rests-stood : (on : Handle) (x : Client) (h : Handle) (s : Standing) (ch : Channel) → under x.channels h ≡ Some ch → (is_on_in is_asked on ch ≡ true → is_on_in is_asked on (record ch { standing = s }) ≡ true)
    → (is_on_in is_subscribed on ch ≡ true → is_on_in is_subscribed on (record ch { standing = s }) ≡ true) → Rests on x (with_standing s h x)
rests-stood on x h s ch there asked subscribed = record {
  channels = λ k v is pass. stood-row is_asked on x.channels h s ch there asked k v is pass;
  requests = λ q r is pass. (r, is, pass, refl);
  subscriptions = λ g d is pass. (d, is, has-too on x.channels (with_standing s h x).channels d (λ w is_w pass_w. stood-row is_subscribed on x.channels h s ch there subscribed d.channel w is_w pass_w) pass);
}

-- from one phase to another on its circuit, which a test does not tell apart, or of which it
-- does not name the first
pub same-phase : (test : Phase → Bool) (on o : Handle) (ch : Channel) (p q : Phase) → ch.standing ≡ On o p → test p ≡ test q → is_on_in test on ch ≡ true → is_on_in test on (record ch { standing = On o q }) ≡ true
same-phase test on o ch p q stands like pass = sym (passes-alike test on o ch p q stands like) ∙ pass

not-phase : (test : Phase → Bool) (on o : Handle) (ch : Channel) (p : Phase) (s : Standing) → ch.standing ≡ On o p → test p ≡ false → is_on_in test on ch ≡ true → is_on_in test on (record ch { standing = s }) ≡ true
not-phase test on o ch p s stands none pass = absurd (both_ways (is_on_in test on ch) (fails-anywhere test on o ch p stands none) pass)

not-searched : (test : Phase → Bool) (on : Handle) (ch : Channel) (s : Standing) → ch.standing ≡ Searching → is_on_in test on ch ≡ true → is_on_in test on (record ch { standing = s }) ≡ true
not-searched test on ch s stands pass = absurd (both_ways (is_on_in test on ch) (fails-searched test on ch stands) pass)

-- ---- a message that is read

module _ (on : Handle) (x : Client) (e : Effect) (c : Handle) (m : Fields) where
  does-so : (sent : List Sending) (notices : List Notice) (z : Client) → e ≡ doing sent notices z → Rests on x z → RestsBut on c m x e.core
  does-so sent notices z is r = subst (λ (v : Effect). RestsBut on c m x v.core) (sym is) (but-rests on c m x (sending sent z) (rests-then on x z (sending sent z) r (rests-sending on sent z)))

  frees-so : (notices : List Notice) (z : Client) → e ≡ doing [] notices z → RestsBut on c m x z → RestsBut on c m x e.core
  frees-so notices z is r = subst (λ (v : Effect). RestsBut on c m x v.core) (sym is) (record { channels = r.channels; requests = r.requests; subscriptions = r.subscriptions })

  nothing : (notices : List Notice) → e ≡ doing [] notices x → RestsBut on c m x e.core
  nothing notices is = does-so [] notices x is (rests-itself on x)

  rests-rights : (o : Option (Handle × Phase)) → channel_on x c m.p1 ≡ o → e ≡ rights_told x c m o → RestsBut on c m x e.core
  rests-rights None at is = nothing [] is
  rests-rights (Some (h, Connecting)) at is = nothing [] is
  rests-rights (Some (h, Leaving)) at is = nothing [] is
  rests-rights (Some (h, Clearing)) at is = nothing [] is
  rests-rights (Some (h, Doomed)) at is = nothing [] is
  rests-rights (Some (h, Creating rights)) at is =
      let f = channel-on x c m.p1 h (Creating rights) at in
      does-so [] [] (with_standing (On c (Creating m.p2)) h x) is
      (rests-stood on x h (On c (Creating m.p2)) f.0 f.1 (same-phase is_asked on c f.0 (Creating rights) (Creating m.p2) f.3 refl) (same-phase is_subscribed on c f.0 (Creating rights) (Creating m.p2) f.3 refl))
  rests-rights (Some (h, Live native rights)) at is =
      let f = channel-on x c m.p1 h (Live native rights) at in
      does-so [] [] (with_standing (On c (Live native m.p2)) h x) is
      (rests-stood on x h (On c (Live native m.p2)) f.0 f.1 (same-phase is_asked on c f.0 (Live native rights) (Live native m.p2) f.3 refl) (same-phase is_subscribed on c f.0 (Live native rights) (Live native m.p2) f.3 refl))

  rests-created : (o : Option (Handle × Phase)) → channel_on x c m.p1 ≡ o → e ≡ created x c m o → RestsBut on c m x e.core
  rests-created None at is = nothing [] is
  rests-created (Some (h, Connecting)) at is = nothing [] is
  rests-created (Some (h, Live native rights)) at is = nothing [] is
  rests-created (Some (h, Leaving)) at is = nothing [] is
  rests-created (Some (h, Clearing)) at is = nothing [] is
  rests-created (Some (h, Creating rights)) at is =
      let f = channel-on x c m.p1 h (Creating rights) at in
      let p : Phase = Live (hears.native_in m) rights in
      does-so _ _ (with_standing (On c p) h x) is
      (rests-stood on x h (On c p) f.0 f.1 (same-phase is_asked on c f.0 (Creating rights) p f.3 refl) (not-phase is_subscribed on c f.0 (Creating rights) (On c p) f.3 refl))
  rests-created (Some (h, Doomed)) at is =
      let f = channel-on x c m.p1 h Doomed at in
      does-so _ _ (with_standing (On c Clearing) h x) is
      (rests-stood on x h (On c Clearing) f.0 f.1 (same-phase is_asked on c f.0 Doomed Clearing f.3 refl) (not-phase is_subscribed on c f.0 Doomed (On c Clearing) f.3 refl))

  rests-left : (o : Option (Handle × Phase)) → channel_on x c m.p1 ≡ o → e ≡ left x c o → RestsBut on c m x e.core
  rests-left None at is = nothing [] is
  rests-left (Some (h, Connecting)) at is = nothing [] is
  rests-left (Some (h, Creating rights)) at is = nothing [] is
  rests-left (Some (h, Leaving)) at is = nothing [] is
  rests-left (Some (h, Clearing)) at is = nothing [] is
  rests-left (Some (h, Doomed)) at is = nothing [] is
  rests-left (Some (h, Live native rights)) at is =
      let f = channel-on x c m.p1 h (Live native rights) at in
      let y : Client = with_requests (request.channel_over h x.requests) x in
      let z : Client = with_standing (On c Leaving) h y in
      let over : Rests on x y = record { channels = λ k v there pass. (v, there, pass); requests = asks-over on h x.requests; subscriptions = λ g d there pass. (d, there, pass) } in
      does-so _ _ z is (rests-then on x y z over
      (rests-stood on y h (On c Leaving) f.0 f.1 (same-phase is_asked on c f.0 (Live native rights) Leaving f.3 refl) (same-phase is_subscribed on c f.0 (Live native rights) Leaving f.3 refl)))

  -- a channel that was on this circuit is on it no more
  module _ (h : Handle) (p : Phase) (ch : Channel) (there : under x.channels h ≡ Some ch) (stands : ch.standing ≡ On c p) (frees : c ≡ on → FreesCid on x m h) where
    gone-row : (u : Table Channel) → ((k : Handle) (w : Channel) → under x.channels k ≡ Some w → (k ≡ h → ⊥) → under u k ≡ Some w)
        → (k : Handle) (v : Channel) → under x.channels k ≡ Some v → is_on_in is_asked on v ≡ true
        → ((w : Channel) × (under u k ≡ Some w) × (is_on_in is_asked on w ≡ true)) ⊎ ((c ≡ on) × FreesCid on x m k)
    gone-row u keeps k v is pass = elim (handle-or k h) [
      | inr other ↦ inl (v, keeps k v is other, pass)
      | inl same ↦
          let one : v ≡ ch = one-value x.channels h v ch (subst (λ (g : Handle). under x.channels g ≡ Some v) same is) there in
          let here : c ≡ on = stands-there is_asked on c ch p stands (subst (λ (z : Channel). is_on_in is_asked on z ≡ true) one pass) in
          inr (here, subst (λ (g : Handle). FreesCid on x m g) (sym same) (frees here))
    ]

    other-row : (u : Table Channel) → ((k : Handle) (w : Channel) → under x.channels k ≡ Some w → (k ≡ h → ⊥) → under u k ≡ Some w)
        → (d : Subscription) → (d.channel ≡ h → is_on_in is_subscribed on ch ≡ true → ⊥) → has_id x.channels on d ≡ true → has_id u on d ≡ true
    other-row u keeps d away pass = has-too on x.channels u d (λ w is_w pass_w. elim (handle-or d.channel h) [
      | inr other ↦ (w, keeps d.channel w is_w other, pass_w)
      | inl same ↦
          let one : w ≡ ch = one-value x.channels h w ch (subst (λ (g : Handle). under x.channels g ≡ Some w) same is_w) there in
          absurd (away same (subst (λ (z : Channel). is_on_in is_subscribed on z ≡ true) one pass_w))
    ]) pass

    gone-header_only : is_subscribed p ≡ false → (u : Table Channel)
        → ((k : Handle) (w : Channel) → under x.channels k ≡ Some w → (k ≡ h → ⊥) → under u k ≡ Some w) → (z : Client) → z.channels ≡ u
        → z.requests ≡ x.requests → z.subscriptions ≡ x.subscriptions → RestsBut on c m x z
    gone-header_only header_only u keeps z channels requests subscriptions =
        let none : is_on_in is_subscribed on ch ≡ false = fails-anywhere is_subscribed on c ch p stands header_only in
        record {
          channels = λ k v is pass. subst (λ (t : Table Channel). ((w : Channel) × (under t k ≡ Some w) × (is_on_in is_asked on w ≡ true)) ⊎ ((c ≡ on) × FreesCid on x m k)) (sym channels) (gone-row u keeps k v is pass);
          requests = λ q r is pass. inl (asks-same on x.requests z.requests requests q r is pass);
          subscriptions = λ g d is pass.
              inl (
                d,
                subst (λ (t : Table Subscription). under t g ≡ Some d) (sym subscriptions) is,
                subst (λ (t : Table Channel). has_id t on d ≡ true) (sym channels) (other-row u keeps d (λ same pass_c. both_ways (is_on_in is_subscribed on ch) none pass_c) pass),
              );
        }

  rests-failed : Is command.CreateChannelFail m → (o : Option (Handle × Phase)) → channel_on x c m.p1 ≡ o → e ≡ failed x o → RestsBut on c m x e.core
  rests-failed fails None at is = nothing [] is
  rests-failed fails (Some (h, Connecting)) at is = nothing [] is
  rests-failed fails (Some (h, Live native rights)) at is = nothing [] is
  rests-failed fails (Some (h, Leaving)) at is = nothing [] is
  rests-failed fails (Some (h, Clearing)) at is = nothing [] is
  rests-failed fails (Some (h, Creating rights)) at is =
      let f = channel-on x c m.p1 h (Creating rights) at in
      frees-so [] (searched_again x h) is
      (gone-header_only h (Creating rights) f.0 f.1 f.3 (λ here. inl (fails, sym f.2)) refl (with_standing Searching h x).channels (λ k w there other. changed-other (λ (v : Channel). record v { standing = Searching }) x.channels k h w there other) (searched_again x h) refl refl refl)
  rests-failed fails (Some (h, Doomed)) at is =
      let f = channel-on x c m.p1 h Doomed at in
      frees-so [] (without_channel x h) is
      (gone-header_only h Doomed f.0 f.1 f.3 (λ here. inl (fails, sym f.2)) refl (with_freed h x.channels) (λ k w there other. freed-other x.channels k h w there other) (without_channel x h) refl refl refl)

  -- what was live on a circuit is there
  was-there : (h : Handle) (p : Phase) (ch : Channel) → under x.channels h ≡ Some ch → ch.standing ≡ On c p → (g o : Handle) (v : Channel)
      → under x.channels g ≡ Some v → g ≡ h → is_on_in was_live o v ≡ true → c ≡ o
  was-there h p ch there stands g o v is same pass =
      let one : v ≡ ch = one-value x.channels h v ch (subst (λ (k : Handle). under x.channels k ≡ Some v) same is) there in
      stands-there was_live o c ch p stands (subst (λ (z : Channel). is_on_in was_live o z ≡ true) one pass)

  -- a channel is cleared, with all ids that were on it there
  module _ (attached : Attached x) (h : Handle) (p : Phase) (ch : Channel) (there : under x.channels h ≡ Some ch) (stands : ch.standing ≡ On c p) (clears : Is command.ClearChannel m) (cid : m.p2 ≡ wire_of h) (over : is_over p ≡ true) where
    over-on : c ≡ on → (k : Handle) → k ≡ h → OverAt on x.channels k
    over-on here k same = subst (λ (z : Handle × Handle). OverAt z.0 x.channels z.1) (λ i. (here i, sym same i)) (ch, p, there, stands, over)

    drained-requests : (q : Handle) (r : Request) → under x.requests q ≡ Some r → was_sent_on on r ≡ true
        → ((u : Request) × (under (request.channel_gone h x.requests) q ≡ Some u) × (was_sent_on on u ≡ true) × (u.asked ≡ r.asked)) ⊎ ((c ≡ on) × FreesIoid on x m q r)
    drained-requests q r is pass = elim (cases_Bool (asks_on h r)) [
      | inr other ↦ inl (r, all-freed-there (asks_on h) x.requests q r is other, pass, refl)
      | inl asks ↦
          let to : r.channel ≡ h = same-is r.channel h asks in
          let was = attached.requests q r is in
          let here : c ≡ r.circuit = was-there h p ch there stands r.channel r.circuit was.0 was.1 to was.2 in
          let now : c ≡ on = here ∙ same-is r.circuit on pass in
          inr (now, inr (inr (clears, cid ∙ ap (λ (k : Handle). wire_of k) (sym to), over-on now r.channel to)))
    ]

    drained-subscriptions : (u : Table Channel) → ((k : Handle) (w : Channel) → under x.channels k ≡ Some w → (k ≡ h → ⊥) → under u k ≡ Some w)
        → (g : Handle) (d : Subscription) → under x.subscriptions g ≡ Some d → has_id x.channels on d ≡ true
        → ((v : Subscription) × (under (monitor.channel_drained c h x.subscriptions) g ≡ Some v) × (has_id u on v ≡ true)) ⊎ ((c ≡ on) × FreesSub on x m g d)
    drained-subscriptions u keeps g d is pass = elim (cases_Bool (is_to h d)) [
      | inr other ↦
          let differs : d.channel ≡ h → ⊥ = not-same d.channel h other in
          inl (
            d,
            all-freed-there (λ (s : Subscription). is_to h s && drains_in c s.stage) x.subscriptions g d is (ap (λ (b : Bool). b && drains_in c d.stage) other),
            has-too on x.channels u d (λ w is_w pass_w. (w, keeps d.channel w is_w differs, pass_w)) pass,
          )
      | inl to ↦
          let same : d.channel ≡ h = same-is d.channel h to in
          let here : c ≡ on = elim (or_cases (drains_in on d.stage) (stands_in d.stage && unwrap_or (option_map (is_on_in is_subscribed on) (under x.channels d.channel)) false) pass) [
            | inl drains ↦ (let was = attached.subscriptions g d on is drains in was-there h p ch there stands d.channel on was.0 was.1 same was.2)
            | inr both ↦
                let parts = and_parts (stands_in d.stage) (unwrap_or (option_map (is_on_in is_subscribed on) (under x.channels d.channel)) false) both in
                stands-there is_subscribed on c ch p stands
                (sym (ap (λ (o : Option Channel). unwrap_or (option_map (is_on_in is_subscribed on) o) false) (ap (λ (k : Handle). under x.channels k) same ∙ there)) ∙ parts.1)
          ] in
          inr (here, inr (inr (clears, cid ∙ ap (λ (k : Handle). wire_of k) (sym same), over-on here d.channel same)))
    ]

    gone-cleared : (u : Table Channel) → ((k : Handle) (w : Channel) → under x.channels k ≡ Some w → (k ≡ h → ⊥) → under u k ≡ Some w) → (z : Client)
        → z.channels ≡ u → z.requests ≡ request.channel_gone h x.requests
        → z.subscriptions ≡ monitor.channel_drained c h x.subscriptions → RestsBut on c m x z
    gone-cleared u keeps z channels requests subscriptions = record {
      channels = λ k v is pass. subst (λ (t : Table Channel). ((w : Channel) × (under t k ≡ Some w) × (is_on_in is_asked on w ≡ true)) ⊎ ((c ≡ on) × FreesCid on x m k)) (sym channels) (gone-row h p ch there stands (λ here. inr (clears, cid, over-on here h refl)) u keeps k v is pass);
      requests = λ q r is pass. subst (λ (t : Table Request). ((v : Request) × (under t q ≡ Some v) × (was_sent_on on v ≡ true) × (v.asked ≡ r.asked)) ⊎ ((c ≡ on) × FreesIoid on x m q r)) (sym requests) (drained-requests q r is pass);
      subscriptions = λ g d is pass. subst (λ (t : Table Subscription × Table Channel). ((v : Subscription) × (under t.0 g ≡ Some v) × (has_id t.1 on v ≡ true)) ⊎ ((c ≡ on) × FreesSub on x m g d)) (λ i. (sym subscriptions i, sym channels i)) (drained-subscriptions u keeps g d is pass);
    }

  rests-answered : Attached x → Is command.ClearChannel m → (o : Option (Handle × Phase)) → channel_on x c m.p2 ≡ o → e ≡ clear_answered x c o
      → RestsBut on c m x e.core
  rests-answered attached clears None at is = nothing [] is
  rests-answered attached clears (Some (h, Connecting)) at is = nothing [] is
  rests-answered attached clears (Some (h, Live native rights)) at is = nothing [] is
  rests-answered attached clears (Some (h, Creating rights)) at is = nothing [] is
  rests-answered attached clears (Some (h, Doomed)) at is = nothing [] is
  rests-answered attached clears (Some (h, Clearing)) at is =
      let f = channel-on x c m.p2 h Clearing at in
      let z : Client = without_channel (without_drained c h x) h in
      frees-so [] z is (gone-cleared attached h Clearing f.0 f.1 f.3 clears (sym f.2) refl (with_freed h x.channels) (λ k w there other. freed-other x.channels k h w there other) z refl refl refl)
  rests-answered attached clears (Some (h, Leaving)) at is =
      let f = channel-on x c m.p2 h Leaving at in
      let z : Client = searched_again (without_drained c h x) h in
      frees-so [] z is
      (gone-cleared attached h Leaving f.0 f.1 f.3 clears (sym f.2) refl (with_standing Searching h x).channels (λ k w there other. changed-other (λ (v : Channel). record v { standing = Searching }) x.channels k h w there other) z refl refl refl)

  -- one request, one subscription is over
  over-request : (q : Handle) (r : Request) → under x.requests q ≡ Some r → was_sent_on c r ≡ true → FreesIoid on x m q r
      → RestsBut on c m x (without_request q x)
  over-request q r there sent frees = record {
    channels = λ k v is pass. inl (v, is, pass);
    requests = λ k u is pass. elim (handle-or k q) [
      | inr other ↦ inl (u, freed-other x.requests k q u is other, pass, refl)
      | inl same ↦
          let one : u ≡ r = one-value x.requests q u r (subst (λ (g : Handle). under x.requests g ≡ Some u) same is) there in
          inr (sym (same-is r.circuit c sent) ∙ same-is r.circuit on (subst (λ (v : Request). was_sent_on on v ≡ true) one pass), subst (λ (v : Handle × Request). FreesIoid on x m v.0 v.1) (λ i. (sym same i, sym one i)) frees)
    ];
    subscriptions = λ g d is pass. inl (d, is, pass);
  }

  over-subscription : (g : Handle) (d : Subscription) → under x.subscriptions g ≡ Some d → (has_id x.channels on d ≡ true → c ≡ on) → FreesSub on x m g d
      → RestsBut on c m x (without_subscription g x)
  over-subscription g d there here frees = record {
    channels = λ k v is pass. inl (v, is, pass);
    requests = λ k u is pass. inl (u, is, pass, refl);
    subscriptions = λ k v is pass. elim (handle-or k g) [
      | inr other ↦ inl (v, freed-other x.subscriptions k g v is other, pass)
      | inl same ↦
          let one : v ≡ d = one-value x.subscriptions g v d (subst (λ (h : Handle). under x.subscriptions h ≡ Some v) same is) there in
          inr (here (subst (λ (z : Subscription). has_id x.channels on z ≡ true) one pass), subst (λ (z : Handle × Subscription). FreesSub on x m z.0 z.1) (λ i. (sym same i, sym one i)) frees)
    ];
  }

  rests-completes : (q : Handle) (r : Request) → under x.requests q ≡ Some r → was_sent_on c r ≡ true → FreesIoid on x m q r → (s : request.Stage)
      → Completes x m q r.asked s e → RestsBut on c m x e.core
  rests-completes q r there sent frees request.Open done = frees-so _ (without_request q x) done.2 (over-request q r there sent frees)
  rests-completes q r there sent frees request.Draining done = frees-so [] (without_request q x) done (over-request q r there sent frees)

  rests-reply : (o : Option (Handle × Request)) → answered_by c m.command m.p2 x.requests ≡ o → Answers x m o e → RestsBut on c m x e.core
  rests-reply None at is = nothing [] is
  rests-reply (Some (q, r)) at is = (let f = answered-is c m.command m.p2 x.requests q r at in rests-completes q r f.0 f.2 (inl (sym f.3, sym f.1)) r.stage is)

  rests-confirmed : Is command.EventAdd m → m.payload ≡ [] → (o : Option Handle) → confirmed_by c m.p2 x.subscriptions ≡ o → e ≡ confirmed x o
      → RestsBut on c m x e.core
  rests-confirmed adds empty None at is = nothing [] is
  rests-confirmed adds empty (Some g) at is =
      let f = confirmed-is c m.p2 x.subscriptions g at in
      frees-so [] (without_subscription g x) is (over-subscription g f.0 f.1 (here f.0 f.3) (inl (adds, empty, sym f.2, cancelled-is (f.0).stage f.3)))
    where
      cancelled-is : (s : Stage) → is_cancelled_in c s ≡ true → (o : Handle) × (s ≡ monitor.Cancelled o)
      cancelled-is Stands f = absurd (both_ways false refl f)
      cancelled-is (monitor.Cancelled o) f = (o, refl)
      cancelled-is (monitor.Ended o) f = absurd (both_ways false refl f)

      here : (d : Subscription) → is_cancelled_in c d.stage ≡ true → has_id x.channels on d ≡ true → c ≡ on
      here d cancelled pass = go d.stage cancelled pass
        where
          go : (s : Stage) → is_cancelled_in c s ≡ true
              → (drains_in on s || (stands_in s && unwrap_or (option_map (is_on_in is_subscribed on) (under x.channels d.channel)) false)) ≡ true
              → c ≡ on
          go Stands f h = absurd (both_ways false refl f)
          go (monitor.Ended o) f h = absurd (both_ways false refl f)
          go (monitor.Cancelled o) f h = elim (or_cases (same_handle o on) false h) [
            | inl drains ↦ sym (same-is o c f) ∙ same-is o on drains
            | inr none ↦ absurd (both_ways false refl none)
          ]

  rests-update : (o : Option Handle) → Updates x m o e → RestsBut on c m x e.core
  rests-update None is = nothing [] is
  rests-update (Some g) is = nothing _ is.2

  rests-write : (o : Option (Handle × Phase)) → e ≡ write_failed x m o → RestsBut on c m x e.core
  rests-write None is = nothing [] is
  rests-write (Some (h, Connecting)) is = nothing [] is
  rests-write (Some (h, Creating rights)) is = nothing [] is
  rests-write (Some (h, Live native rights)) is = nothing _ is
  rests-write (Some (h, Leaving)) is = nothing [] is
  rests-write (Some (h, Clearing)) is = nothing [] is
  rests-write (Some (h, Doomed)) is = nothing [] is

  -- a subscription that stands has its id on one circuit
  one-circuit : (d : Subscription) → stands_in d.stage ≡ true → has_id x.channels c d ≡ true → has_id x.channels on d ≡ true → c ≡ on
  one-circuit d stands a b = go (under x.channels d.channel) refl (subscribed c a) (subscribed on b)
    where
      subscribed : (k : Handle) → has_id x.channels k d ≡ true
          → unwrap_or (option_map (is_on_in is_subscribed k) (under x.channels d.channel)) false ≡ true
      subscribed k has = by d.stage stands has
        where
          by : (s : Stage) → stands_in s ≡ true
              → (drains_in k s || (stands_in s && unwrap_or (option_map (is_on_in is_subscribed k) (under x.channels d.channel)) false)) ≡ true
              → unwrap_or (option_map (is_on_in is_subscribed k) (under x.channels d.channel)) false ≡ true
          by Stands f h = h
          by (monitor.Cancelled o) f h = absurd (both_ways false refl f)
          by (monitor.Ended o) f h = absurd (both_ways false refl f)

      go : (o : Option Channel) → under x.channels d.channel ≡ o → unwrap_or (option_map (is_on_in is_subscribed c) o) false ≡ true
          → unwrap_or (option_map (is_on_in is_subscribed on) o) false ≡ true → c ≡ on
      go (Some ch) is f g = on-one is_subscribed is_subscribed c on ch f g
      go None is f g = absurd (both_ways false refl f)

  rests-refused : Is command.Error m → (h : Header) → QuotesHeader m h → h.command ≡ command_number command.EventAdd → (o : Option Handle)
      → subscription_on x c h.p2 ≡ o → e ≡ subscription_failed x m o → RestsBut on c m x e.core
  rests-refused errs h quotes adds None at is = nothing [] is
  rests-refused errs h quotes adds (Some g) at is =
      let f = heard-is x c h.p2 g at in
      frees-so _ (without_subscription g x) is (over-subscription g f.0 f.1 (λ pass. one-circuit f.0 f.3 f.4 pass) (inr (inl (errs, (h, quotes, adds, sym f.2), f.3))))

  rests-any : Is command.Error m → (h : Header) → QuotesHeader m h → (o : Option (Handle × Request)) → answered_by c h.command h.p2 x.requests ≡ o
      → e ≡ any_failed x m o → RestsBut on c m x e.core
  rests-any errs h quotes None at is = nothing [] is
  rests-any errs h quotes (Some (q, r)) at is = go r.stage is
    where
      go : (s : request.Stage) → e ≡ request_failed x m q s → RestsBut on c m x e.core
      go request.Open done =
          let f = answered-is c h.command h.p2 x.requests q r at in
          frees-so _ (without_request q x) done (over-request q r f.0 f.2 (inr (inl (errs, (h, quotes, sym f.3, sym f.1)))))
      go request.Draining done = nothing [] done

  rests-error : Is command.Error m → Fails x c m e → RestsBut on c m x e.core
  rests-error errs fails = elim fails [
    | inr not_whole ↦ nothing [] not_whole.1
    | inl whole ↦ by whole.0 whole.1 (eqb whole.0.command 4) (eqb whole.0.command 1) refl whole.2
  ]
    where
      by : (h : Header) → QuotesHeader m h → (a b : Bool) → eqb h.command 1 ≡ b
          → e ≡ cond a (write_failed x m (channel_on x c m.p1)) (cond b (subscription_failed x m (subscription_on x c h.p2)) (any_failed x m (answered_by c h.command h.p2 x.requests))) → RestsBut on c m x e.core
      by h quotes true b adds is = rests-write (channel_on x c m.p1) is
      by h quotes false true adds is = rests-refused errs h quotes (eqb-true h.command 1 adds) (subscription_on x c h.p2) refl is
      by h quotes false false adds is = rests-any errs h quotes (answered_by c h.command h.p2 x.requests) refl is

-- ---- a channel was found

module _ (on : Handle) (x : Client) (e : Effect) where
  quiet-so : (sent : List Sending) (notices : List Notice) (z : Client) → e ≡ doing sent notices z → Rests on x z → Rests on x e.core
  quiet-so sent notices z is r = subst (λ (v : Effect). Rests on x v.core) (sym is) (rests-then on x z (sending sent z) r (rests-sending on sent z))

  found-so : (d : Handle) (p : Phase) (h : Handle) (here : Channel) → under x.channels h ≡ Some here → here.standing ≡ Searching
      → Rests on x (found_on d p h x)
  found-so d p h here there stands =
      let y : Client = with_standing (On d p) h x in
      rests-then on x y (found_on d p h x) (rests-stood on x h (On d p) here there (not-searched is_asked on here (On d p) stands) (not-searched is_subscribed on here (On d p) stands))
      (rests-same on y (found_on d p h x) refl refl refl)

  rests-put-on : (d : Handle) (k : Option Connection) (h : Handle) (here : Channel) → under x.channels h ≡ Some here → here.standing ≡ Searching
      → e ≡ put_on d k h here x → Rests on x e.core
  rests-put-on d None h here there stands is = quiet-so [] [] (found_on d Connecting h x) is (found-so d Connecting h here there stands)
  rests-put-on d (Some k) h here there stands is = quiet-so _ [] (found_on d (Creating 0) h x) is (found-so d (Creating 0) h here there stands)

rests-puts : (on : Handle) (x : Client) (e : Effect) (address : Address) (h : Handle) (here : Channel) → under x.channels h ≡ Some here
    → here.standing ≡ Searching → (o : Option (Handle × ClientCircuit)) → PutsOn x address h here o e → Rests on x e.core
rests-puts on x e address h here there stands (Some (d, v)) is = rests-put-on on x e d v.connection h here there stands is
rests-puts on x e address h here there stands None is = elim is [
  | inr full ↦ quiet-so on x e [] [] x full.1 (rests-itself on x)
  | inl new ↦
      let y : Client = with_circuit new.0 (phase.new_circuit address here.priority false) x in
      rests-then on x y e.core (rests-same on x y refl refl refl) (rests-put-on on y e new.0 None h here there stands new.2)
]

pub rests-finds : (on : Handle) (x : Client) (e : Effect) (address : Address) (cid : ℕ) (o : Option (Handle × Channel)) → searched_by cid x ≡ o
    → FindsAt x address o e → Rests on x e.core
rests-finds on x e address cid None at is = quiet-so on x e [] [] x is (rests-itself on x)
rests-finds on x e address cid (Some (h, here)) at is = (let f = searched-is cid x h here at in rests-puts on x e address h here f.0 f.1 (circuit_to address here.priority x) is)

pub rests-heard : (on : Handle) (x : Client) (c : Handle) (m : Fields) (e : Effect) → Attached x → Hears x c m e → RestsBut on c m x e.core
rests-heard on x c m e attached (hears.Search is d there finds) = but-rests on c m x e.core (rests-finds on x e (found_at d.address m) m.p2 (searched_by m.p2 x) refl finds)
rests-heard on x c m e attached (hears.AccessRights is does) = rests-rights on x e c m (channel_on x c m.p1) refl does
rests-heard on x c m e attached (hears.CreateChannel is does) = rests-created on x e c m (channel_on x c m.p1) refl does
rests-heard on x c m e attached (hears.CreateChannelFail is does) = rests-failed on x e c m is (channel_on x c m.p1) refl does
rests-heard on x c m e attached (hears.ClearChannel is does) = rests-answered on x e c m attached is (channel_on x c m.p2) refl does
rests-heard on x c m e attached (hears.ServerDisconnect is does) = rests-left on x e c m (channel_on x c m.p1) refl does
rests-heard on x c m e attached (hears.Reply is does) = rests-reply on x e c m (answered_by c m.command m.p2 x.requests) refl does
rests-heard on x c m e attached (hears.Confirmation is empty does) = rests-confirmed on x e c m is empty (confirmed_by c m.p2 x.subscriptions) refl does
rests-heard on x c m e attached (hears.Update is some does) = rests-update on x e c m (subscription_on x c m.p2) does
rests-heard on x c m e attached (hears.Error is does) = rests-error on x e c m is does
rests-heard on x c m e attached (hears.Other is does) = nothing on x e c m [] does

-- ---- datagrams

pub rests-received : (on : Handle) (x : Client) (from : Address) (m : Fields) (e : Effect) → Receives from x m e → Rests on x e.core
rests-received on x from m e (ends.Search is finds) = rests-finds on x e (found_at from m) m.p2 (searched_by m.p2 x) refl finds
rests-received on x from m e (ends.Beacon is port does) = quiet-so on x e [] [] (beacon_heard from m x) does (rests-same on x (beacon_heard from m x) refl refl refl)
rests-received on x from m e (ends.Other not_search not_beacon does) = quiet-so on x e [] [] x does (rests-itself on x)

pub rests-all-received : (on : Handle) (from : Address) (ms : List Fields) (x : Client) (e : Effect) → ReceivesAll from x ms e → Rests on x e.core
rests-all-received on from [] x e does = quiet-so on x e [] [] x does (rests-itself on x)
rests-all-received on from (m ∷ ms) x e does =
    subst (λ (w : Effect). Rests on x w.core) (sym does.4)
    (rests-then on x does.0.core does.1.core (rests-received on x from m does.0 does.2) (rests-all-received on from ms does.0.core does.1 does.3))
