-- A circuit is connected: its set-up goes out, and the CREATE_CHANs of the channels that waited for
-- it; and messages of a circuit as a whole.
use Rattle.std.proofs.Common.{◌≡◌, ℕ, ◌≤◌, inl, inr, Bool, true, false, ◌&&◌, cond, List, [], ◌∷◌, ◌++◌, length, Option, Some, None, refl, sym, ap, ◌∙◌, subst, arith}
use Rattle.std.specs.Prelude.{map, option_map, unwrap_or}
use Rattle.std.proofs.lemmas.Bool.{both_ways, cases_Bool, or_cases, and_parts}
use Rattle.std.proofs.lemmas.List.{length-map}
use Rattle.ca_text.specs.Limits.{arena_slots}
use Rattle.ca_text.specs.Place.{At}
use Rattle.ca_text.proofs.Places.{At-last, At-mapped, At-one}
use Rattle.ca_arena.specs.declared.handle.Handle.{Handle}
use Rattle.ca_ids.specs.Table.{Table, held, same_handle, under, with_all}
use Rattle.ca_monitor.specs.Subscriptions.{drains_in, stands_in}
use Rattle.ca_requests.specs.Requests.{was_sent_on}
use Rattle.ca_model.specs.Answers.{Sending}
use Rattle.ca_model.specs.Client.{Channel, Client, Clearing, Connecting, Creating, Doomed, Leaving, Live, On, Phase, Searching, Standing, is_on_in, phase_on, sending}
use Rattle.ca_model.specs.ClientEnds.{begun, creating, is_connecting}
use Rattle.ca_model.specs.Speech.{Id, Cid, Ioid, SubId, Gives}
use Rattle.ca_model.specs.History.{Circuit, Sent, Told}
use Rattle.ca_model.specs.History as history
use Rattle.ca_model.specs.Channels.{Suits}
use Rattle.ca_model.specs.ClientEvents.{channel_number, meant_by}
use Rattle.ca_model.specs.World.{Names as ClientNames}
use Rattle.ca_laws_parts.specs.Flows.{Concerns, IsPending, MaySend, MaySendAll, with_all_sent, with_sent}
use Rattle.ca_laws_parts.specs.Held.{AreFew, Holds, HoldsChannels, HoldsIdsBy, HoldsRequests, HoldsSubscriptions, IsAlike, NoneAsked, create_of, has_id, is_asked, is_subscribed, waiting_on}
use Rattle.ca_model.specs.Placed.{Attached, WasLive, was_live}
use Rattle.ca_laws_parts.proofs.Alike.{all-alike, has-alike, holds-alike, ids-alike, not-subscribed, sending-alike}
use Rattle.ca_model.proofs.Standings.{is-on}
use Rattle.ca_laws_parts.proofs.Creates.{cid-is, creates-concerns, creates-gives, no-ioid, no-sub}
use Rattle.ca_model.proofs.Handles.{same-is}
use Rattle.ca_laws_parts.proofs.Held.{ids-kept-by, ids-sent}
use Rattle.ca_laws_parts.proofs.Many.{Names, ids-all-named, ids-all-sent}
use Rattle.ca_laws_parts.proofs.Marks.{at-filter, filter-apart, filter-at, marked, marked-back, marked-new}
use Rattle.ca_model.proofs.Tables.{AreApart, all-back, all-there, held-apart, held-under, one-value, under-held}

-- ---- messages of the circuit as a whole

-- what asks nothing on a channel gives no id
serves-gives : (s : Sent) (id : Id) → Suits history.OfCircuit s.message → Gives s.message id → ⊥
serves-gives s (Cid n) serves g = serves history.Create g.0
serves-gives s (SubId n) serves g = serves (history.Subscribe 0) g.0
serves-gives s (Ioid n) serves g = elim g.0 [
  | inl reads ↦ serves (history.Request history.Read 0) reads
  | inr puts ↦ serves (history.Request history.Put 0) puts
]

-- and concerns none
serves-concerns : (c : Circuit) (s : Sent) (id : Id) → Suits history.OfCircuit s.message → Concerns (c.up ++ s ∷ []) (length c.up) id → ⊥
serves-concerns c s id serves concerns =
    let same : concerns.0 ≡ s = At-one (c.up ++ s ∷ []) (length c.up) concerns.0 s concerns.1 (At-last c.up s) in
    let so : Suits history.OfCircuit concerns.0.message = subst (λ (z : Sent). Suits history.OfCircuit z.message) (sym same) serves in
    elim concerns.2 [
      | inl gives ↦ serves-gives concerns.0 id so gives
      | inr (inl clears) ↦ so history.Clear clears.0
      | inr (inr (inl cancels)) ↦ so (history.Cancel 0) cancels.0
      | inr (inr (inr writes)) ↦ so (history.Request history.Write 0) writes.0
    ]

pub serving-may : (Awaits : ℕ → Type 0) (c : Circuit) (s : Sent) → s.intent ≡ history.OfCircuit → Suits history.OfCircuit s.message → MaySend Awaits c s
serving-may Awaits c s is serves = record {
  suits = subst (λ (i : history.Intent). Suits i s.message) (sym is) serves;
  fresh = λ p id given pending. serves-gives s id serves given;
  means = λ id concerns. absurd (serves-concerns c s id serves concerns);
}

pub serving-keeps : (Awaits : ℕ → Type 0) (on : Handle) (n : ClientNames) (x : Client) (c : Circuit) (s : Sent) → Suits history.OfCircuit s.message → Holds Awaits on n x c → Holds Awaits on n x (with_sent s c)
serving-keeps Awaits on n x c s serves h = record {
  channels =
      ids-sent Cid _ Awaits (is_on_in is_asked on) x.channels c s (λ m g. serves-gives s (Cid m) serves g)
      (λ m concerns. absurd (serves-concerns c s (Cid m) serves concerns)) h.channels;
  requests =
      ids-sent Ioid _ Awaits (was_sent_on on) x.requests c s (λ m g. serves-gives s (Ioid m) serves g)
      (λ m concerns. absurd (serves-concerns c s (Ioid m) serves concerns)) h.requests;
  subscriptions =
      ids-sent SubId _ Awaits (has_id x.channels on) x.subscriptions c s (λ m g. serves-gives s (SubId m) serves g)
      (λ m concerns. absurd (serves-concerns c s (SubId m) serves concerns)) h.subscriptions;
}

-- ---- a new circuit

none-pending-new : (Awaits : ℕ → Type 0) (c : Circuit) (p : ℕ) (id : Id) → c.up ≡ [] → c.down ≡ [] → IsPending Awaits c p id → ⊥
none-pending-new Awaits c p id up down pending = elim pending [
  | inl may ↦ none-there p may.1.0 (subst (λ (l : List Sent). At l p may.1.0) up may.1.1)
  | inr told ↦ none-told told.0 told.1 (subst (λ (l : List Told). At l told.0 told.1) down told.2)
]
  where
    none-there : (k : ℕ) (a : Sent) → At [] k a → ⊥
    none-there k a e = cc

    none-told : (k : ℕ) (a : Told) → At [] k a → ⊥
    none-told k a e = cc

-- what was live was asked for
live-asked : (on : Handle) (ch : Channel) → is_on_in was_live on ch ≡ true → is_on_in is_asked on ch ≡ true
live-asked on ch is = go ch.standing is
  where
    phases : (p : Phase) → was_live p ≡ true → is_asked p ≡ true
    phases Connecting f = f
    phases (Creating rights) f = refl
    phases (Live n rights) f = refl
    phases Leaving f = refl
    phases Clearing f = refl
    phases Doomed f = refl

    go : (s : Standing) → unwrap_or (option_map was_live (phase_on on s)) false ≡ true → unwrap_or (option_map is_asked (phase_on on s)) false ≡ true
    go Searching f = f
    go (On d p) f = by (same_handle d on) f
      where
        by : (b : Bool) → unwrap_or (option_map was_live (cond b (Some p) None)) false ≡ true → unwrap_or (option_map is_asked (cond b (Some p) None)) false ≡ true
        by true k = phases p k
        by false k = k

not-live : (on : Handle) (x : Client) (channel : Handle) → NoneAsked on x → WasLive x channel on → ⊥
not-live on x channel none was = both_ways (is_on_in is_asked on was.0) (none channel was.0 was.1) (live-asked on was.0 was.2)

-- Nothing is held of a circuit that is not connected, and nothing of it may come.
pub new-holds : (Awaits : ℕ → Type 0) (on : Handle) (n : ClientNames) (x : Client) (c : Circuit) → c.up ≡ [] → c.down ≡ [] → AreFew x → Attached x → NoneAsked on x → Holds Awaits on n x c
new-holds Awaits on n x c up down few attached none = record {
  channels = record {
    few = few.channels;
    busy = λ p m pending. absurd (none-pending-new Awaits c p (Cid m) up down pending);
    own = λ h ch is pass. absurd (both_ways (is_on_in is_asked on ch) (none h ch is) pass);
  };
  requests = record {
    few = few.requests;
    busy = λ p m pending. absurd (none-pending-new Awaits c p (Ioid m) up down pending);
    own = λ q r is pass.
        let was = attached.requests q r is in
        absurd (not-live on x r.channel none (was.0, was.1, subst (λ (k : Handle). is_on_in was_live k was.0 ≡ true) (same-is r.circuit on pass) was.2));
  };
  subscriptions = record {
    few = few.subscriptions;
    busy = λ p m pending. absurd (none-pending-new Awaits c p (SubId m) up down pending);
    own = λ g d is pass. absurd (elim (or_cases (drains_in on d.stage) (stands_in d.stage && unwrap_or (option_map (is_on_in is_subscribed on) (under x.channels d.channel)) false) pass) [
      | inl drains ↦ not-live on x d.channel none (attached.subscriptions g d on is drains)
      | inr stands ↦
          let parts = and_parts (stands_in d.stage) (unwrap_or (option_map (is_on_in is_subscribed on) (under x.channels d.channel)) false) stands in
          no-channel d.channel (under x.channels d.channel) refl parts.1
    ]);
  };
}
  where
    no-channel : (k : Handle) (o : Option Channel) → under x.channels k ≡ o → unwrap_or (option_map (is_on_in is_subscribed on) o) false ≡ true → ⊥
    no-channel k (Some ch) there f = both_ways (is_on_in is_subscribed on ch) (not-subscribed on ch (none k ch there)) f
    no-channel k None there f = both_ways false refl f

-- ---- the channels that waited

module _ (Awaits : ℕ → Type 0) (on : Handle) (n : ClientNames) (x : Client) (c : Circuit) (none : NoneAsked on x) (holds : Holds Awaits on n x c) where
  abbrev after : Table Channel
  after = with_all (creating on) x.channels

  abbrev es : List (Handle × Channel)
  es = waiting_on on x

  abbrev adds : List Sent
  adds = map (create_of n) es

  abbrev here : Handle → Channel → Bool
  here g = is_on_in is_asked on

  named-so : (e : Handle × Channel) → Names Cid (λ (h : Handle). history.On (channel_number n h) history.Create) (create_of n e) e.0
  named-so e =
      let s : Sent = create_of n e in
      record {
        suits = refl;
        gives = (refl, refl);
        gives_only = λ id given. creates-gives s id refl given;
        concerns_only = λ d id concerns. creates-concerns d s id refl concerns;
        number = channel_number n e.0;
        is = refl;
        meant_is = refl;
      }

  in-es : (i : ℕ) (e : Handle × Channel) → At es i e → (under x.channels e.0 ≡ Some e.1) × (is_on_in is_connecting on e.1 ≡ true)
  in-es i e at =
      let was = at-filter (λ (e : Handle × Channel). is_on_in is_connecting on e.1) (held x.channels) i e at in
      (held-under x.channels was.0 e was.1, was.2)

  apart : AreApart es
  apart = filter-apart (λ (e : Handle × Channel). is_on_in is_connecting on e.1) (held x.channels) (held-apart x.channels)

  all-named : MaySendAll Awaits c adds × HoldsIdsBy Awaits Cid (marked here es) (λ (h : Handle). history.On (channel_number n h) history.Create) x.channels (with_all_sent adds c)
  all-named =
      ids-all-named Cid (λ (h : Handle). history.On (channel_number n h) history.Create) Awaits cid-is x.channels (create_of n) es here c apart
      (λ i e at. (let in_it = in-es i e at in (named-so e, in_it.0, none e.0 e.1 in_it.0))) holds.channels

  pub connects-may : MaySendAll Awaits c adds
  connects-may = all-named.0

  -- a channel that waited is asked for now
  asked-now : (v : Channel) → is_on_in is_connecting on v ≡ true → is_on_in is_asked on (creating on v) ≡ true
  asked-now v waits = ap (λ (b : Bool). is_on_in is_asked on (cond b (record v { standing = On on (Creating 0) }) v)) waits ∙ is-on is_asked on (record v { standing = On on (Creating 0) }) (Creating 0) refl

  -- and others are as they were
  as-before : (v : Channel) → is_on_in is_connecting on v ≡ false → creating on v ≡ v
  as-before v stays = ap (λ (b : Bool). cond b (record v { standing = On on (Creating 0) }) v) stays

  -- a channel that waits for the circuit is not subscribed to there, before or after
  subscribed-alike : IsAlike (is_on_in is_subscribed on) (is_on_in is_subscribed on) x.channels after
  subscribed-alike = all-alike (is_on_in is_subscribed on) (is_on_in is_subscribed on) (creating on) x.channels (λ g v is. elim (cases_Bool (is_on_in is_connecting on v)) [
    | inl waits ↦
        let made : Channel = record v { standing = On on (Creating 0) } in
        let same : creating on v ≡ made = ap (λ (b : Bool). cond b (record v { standing = On on (Creating 0) }) v) waits in
        not-subscribed on v (none g v is) ∙ sym (is-on is_subscribed on made (Creating 0) refl) ∙ ap (λ (z : Channel). is_on_in is_subscribed on z) (sym same)
    | inr stays ↦ ap (λ (z : Channel). is_on_in is_subscribed on z) (sym (as-before v stays))
  ])

  create-message : (i : ℕ) (s : Sent) → At adds i s → s.message.command ≡ 18
  create-message i s at = (let was = At-mapped (create_of n) es i s at in ap (λ (z : Sent). z.message.command) was.2)

  requests-sent : HoldsRequests Awaits on (meant_by n.requests) x.requests (with_all_sent adds c)
  requests-sent =
      ids-all-sent Ioid _ Awaits (λ (g : Handle). was_sent_on on) x.requests adds c (λ i s at. (
        λ m given. no-ioid m s.message.p1 (creates-gives s (Ioid m) (create-message i s at) given),
        λ d m concerns. no-ioid m s.message.p1 (creates-concerns d s (Ioid m) (create-message i s at) concerns),
      )) holds.requests

  subscriptions-sent : HoldsSubscriptions Awaits on (meant_by n.subscriptions) x.channels x.subscriptions (with_all_sent adds c)
  subscriptions-sent =
      ids-all-sent SubId _ Awaits (λ (g : Handle). has_id x.channels on) x.subscriptions adds c (λ i s at. (
        λ m given. no-sub m s.message.p1 (creates-gives s (SubId m) (create-message i s at) given),
        λ d m concerns. no-sub m s.message.p1 (creates-concerns d s (SubId m) (create-message i s at) concerns),
      )) holds.subscriptions

  channels-made : HoldsChannels Awaits on (channel_number n) after (with_all_sent adds c)
  channels-made =
      ids-kept-by Cid (λ (h : Handle). history.On (channel_number n h) history.Create) Awaits (marked here es) (λ (g : Handle). is_on_in is_asked on) x.channels after (with_all_sent adds c)
      (let e : length after ≡ length x.channels = length-map x.channels _ in let l : length x.channels ≤ arena_slots = holds.channels.few in omega (arith, e, l))
      (λ p m pending was. (
        was.0,
        creating on was.1,
        all-there (creating on) x.channels was.0 was.1 was.2,
        was.3,
        elim (marked-back here es was.0 was.1 was.4) [
          | inl old ↦ absurd (both_ways (is_on_in is_asked on was.1) (none was.0 was.1 was.2) old)
          | inr new ↦
              let in_it = in-es new.0 new.1 new.2 in
              let same : new.1.1 ≡ was.1 = one-value x.channels was.0 new.1.1 was.1 (subst (λ (k : Handle). under x.channels k ≡ Some new.1.1) (sym new.3) in_it.0) was.2 in
              asked-now was.1 (subst (λ (z : Channel). is_on_in is_connecting on z ≡ true) same in_it.1)
        ],
      ))
      (λ g w is pass.
      let was = all-back (creating on) x.channels g w is in (
        was.0,
        was.1,
        elim (cases_Bool (is_on_in is_connecting on was.0)) [
          | inl waits ↦
              let at = under-held x.channels g was.0 was.1 in
              let there = filter-at (λ (e : Handle × Channel). is_on_in is_connecting on e.1) (held x.channels) at.0 (g, was.0) at.1 waits in
              marked-new here es there.0 (g, was.0) g was.0 there.1 refl
          | inr stays ↦
              let same : w ≡ was.0 = was.2 ∙ as-before was.0 stays in
              absurd (both_ways (is_on_in is_asked on was.0) (none g was.0 was.1) (subst (λ (z : Channel). is_on_in is_asked on z ≡ true) same pass))
        ],
      ))
      all-named.1

  pub connects-holds : (sends : List Sending) → Holds Awaits on n (sending sends (begun on x)) (with_all_sent adds c)
  connects-holds sends = holds-alike Awaits on n (begun on x) (sending sends (begun on x)) (with_all_sent adds c) (sending-alike on sends (begun on x)) (record {
    channels = channels-made;
    requests = requests-sent;
    subscriptions =
        ids-alike SubId _ Awaits (has_id x.channels on) (has_id after on) x.subscriptions x.subscriptions (with_all_sent adds c) (record {
          few = λ le. le;
          keeps = λ g v is pass. (v, is, sym (has-alike on x.channels after v subscribed-alike) ∙ pass);
          back = λ g v is pass. (v, is, has-alike on x.channels after v subscribed-alike ∙ pass);
        }) subscriptions-sent;
  })
