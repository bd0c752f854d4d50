-- What a caller, a new circuit, an end and a moment leave of the ids that a client holds on one
-- circuit: they are held on.
use Rattle.std.proofs.Common.{◌≡◌, ℕ, inl, inr, Bool, true, false, ◌&&◌, ◌||◌, cond, List, [], ◌∷◌, ◌++◌, length, Option, Some, None, refl, sym, ap, ◌∙◌, subst}
use Rattle.std.specs.Prelude.{Ok, filter, fold, is_some, option_and_then, option_map, unwrap_or}
use Rattle.std.proofs.lemmas.Bool.{both_ways, cases_Bool, or_left}
use Rattle.ca_text.specs.Place.{At}
use Rattle.ca_text.proofs.Places.{At-append, At-last}
use Rattle.ca_text.specs.declared.command.Command.TheVariants as command
use Rattle.ca_arena.specs.declared.handle.Handle.{Handle}
use Rattle.ca_ids.specs.Table.{MayGive, Table, same_handle, under, with_changed, with_freed, with_held}
use Rattle.ca_link.specs.declared.keep.Keep.{Keep}
use Rattle.ca_link.specs.declared.keep.Keep.TheVariants.{Close, Echo, Idle}
use Rattle.ca_link.specs.Link.{kept, with_handed}
use Rattle.ca_monitor.specs.Subscriptions.{Stage, Stands, Subscription, drains_in, is_to, stage_over, stands_in}
use Rattle.ca_monitor.specs.Subscriptions as monitor
use Rattle.ca_requests.specs.Calls.{new_request}
use Rattle.ca_requests.specs.Requests.{Asked, Request, was_sent_on}
use Rattle.ca_search.specs.Searches as search
use Rattle.ca_wire.specs.Messages.{header_only, search_request}
use Rattle.ca_model.specs.Answers.{Closing, Left, Sending}
use Rattle.ca_model.specs.Client.{Channel, Client, ClientCircuit, Clearing, Connecting, Connection, Creating, Doomed, Leaving, Live, Native, On, Phase, Searching, Standing, channels_ended, connection_at, ended, is_cleared, is_on_in, later, let_go, on_connection, out_bytes, phase_on, sending, standing_at, standing_unless_cleared, without_channel, without_ids}
use Rattle.ca_model.specs.ClientCalls.{LiveChannel, Opening, cancel_sent, cleared, clearing_sent, is_over, issued, opened, unsubscribed, unsubscribed_all}
use Rattle.ca_model.specs.ClientEnds.{ConnectsOn, GivesOn, Ticking, all_searched_on, begun, circuits_ticked, creating, creations, due, flow_sent, given, handed_over, is_connecting, is_name_connected, of_circuit, searches_made, searches_on, set_up, ticks, ticks_as, with_sending}
use Rattle.ca_model.specs.Placed.{Attached}
use Rattle.ca_model.proofs.Handles.{handle-or, not-same, same-is, same-itself, same-not}
use Rattle.ca_model.proofs.Standings.{fails-searched, found-standing, is-on, never-cleared}
use Rattle.ca_model.proofs.Tables.{all-freed-there, all-there, changed-other, changed-own, freed-other, held-other, one-value}
use Rattle.ca_laws_parts.specs.Held.{has_id, is_asked, is_subscribed}
use Rattle.ca_laws_parts.proofs.Ends.{ended-elsewhere}
use Rattle.ca_laws_parts.proofs.CircuitHeard.{has-too}
use Rattle.ca_laws_parts.proofs.Others.{cleared-away, cleared-early, cleared-elsewhere, cleared-left}
use Rattle.ca_laws_parts.proofs.Filtered.{requests-ended, requests-unwanted}
use Rattle.ca_laws_parts.proofs.Rests.{Asks, Rests, asks-over, asks-same, rests-alike, rests-itself, rests-same, rests-sending, rests-then, same-phase, stands-there, stood-row}

-- ---- something new

pub rests-opened : (on : Handle) (x : Client) (a : Opening) (h : Handle) → MayGive x.channels h → Rests on x (opened a h x)
rests-opened on x a h may =
    let new : Channel = record { name = a.name; priority = a.priority; standing = Searching } in
    record {
      channels = λ k v is pass. (v, held-other x.channels k h new v may is, pass);
      requests = λ q r is pass. (r, is, pass, refl);
      subscriptions = λ g d is pass. (d, is, has-too on x.channels (with_held h new x.channels) d (λ w is_w pass_w. (w, held-other x.channels d.channel h new w may is_w, pass_w)) pass);
    }

pub rests-issued : (on : Handle) (x : Client) (h : Handle) (l : LiveChannel) (asked : Asked) (q : Handle) → MayGive x.requests q
    → Rests on x (issued h l asked q x)
rests-issued on x h l asked q may = record {
  channels = λ k v is pass. (v, is, pass);
  requests = λ k r is pass. (r, held-other x.requests k q (new_request h l.circuit asked) r may is, pass, refl);
  subscriptions = λ g d is pass. (d, is, pass);
}

pub rests-subscribed : (on : Handle) (x : Client) (g : Handle) (d : Subscription) → MayGive x.subscriptions g → Rests on x (record x { subscriptions = with_held g d x.subscriptions })
rests-subscribed on x g d may = record {
  channels = λ k v is pass. (v, is, pass);
  requests = λ q r is pass. (r, is, pass, refl);
  subscriptions = λ k v is pass. (v, held-other x.subscriptions k g d v may is, pass);
}

-- ---- a subscription is cancelled

-- one that stands has its id where its channel is subscribed to
pub standing-has : (t : Table Channel) (on : Handle) (d : Subscription) → stands_in d.stage ≡ true → has_id t on d ≡ true
    → unwrap_or (option_map (is_on_in is_subscribed on) (under t d.channel)) false ≡ true
standing-has t on d stands has = go d.stage stands has
  where
    go : (s : Stage) → stands_in s ≡ true
        → (drains_in on s || (stands_in s && unwrap_or (option_map (is_on_in is_subscribed on) (under t d.channel)) false)) ≡ true
        → unwrap_or (option_map (is_on_in is_subscribed on) (under t d.channel)) false ≡ true
    go Stands f h = h
    go (monitor.Cancelled o) f h = absurd (both_ways false refl f)
    go (monitor.Ended o) f h = absurd (both_ways false refl f)

module _ (on : Handle) (x : Client) (g : Handle) (d : Subscription) (there : under x.subscriptions g ≡ Some d) (stands : stands_in d.stage ≡ true) where
  -- its id drains where it was had
  rests-staged : (s : Stage) → (has_id x.channels on d ≡ true → drains_in on s ≡ true) → Rests on x (record x { subscriptions = monitor.with_stage s g x.subscriptions })
  rests-staged s drains = record {
    channels = λ k v is pass. (v, is, pass);
    requests = λ q r is pass. (r, is, pass, refl);
    subscriptions = λ k v is pass. elim (handle-or k g) [
      | inr other ↦ (v, changed-other f x.subscriptions k g v is other, pass)
      | inl same ↦
          let one : v ≡ d = one-value x.subscriptions g v d (subst (λ (h : Handle). under x.subscriptions h ≡ Some v) same is) there in (
            f d,
            subst (λ (h : Handle). under (with_changed f g x.subscriptions) h ≡ Some (f d)) (sym same) (changed-own f x.subscriptions g d there),
            or_left (drains_in on s) (stands_in s && unwrap_or (option_map (is_on_in is_subscribed on) (under x.channels d.channel)) false) (drains (subst (λ (z : Subscription). has_id x.channels on z ≡ true) one pass)),
          )
    ];
  }
    where
      f : Subscription → Subscription
      f z = record z { stage = s }

  -- it had none here
  rests-dropped : (has_id x.channels on d ≡ true → ⊥) → Rests on x (record x { subscriptions = with_freed g x.subscriptions })
  rests-dropped away = record {
    channels = λ k v is pass. (v, is, pass);
    requests = λ q r is pass. (r, is, pass, refl);
    subscriptions = λ k v is pass. elim (handle-or k g) [
      | inr other ↦ (v, freed-other x.subscriptions k g v is other, pass)
      | inl same ↦
          let one : v ≡ d = one-value x.subscriptions g v d (subst (λ (h : Handle). under x.subscriptions h ≡ Some v) same is) there in
          absurd (away (subst (λ (z : Subscription). has_id x.channels on z ≡ true) one pass))
    ];
  }

  -- where its channel stands
  on-channel : (c : Handle) (p : Phase) → standing_at x d.channel ≡ Some (On c p) → has_id x.channels on d ≡ true
      → (c ≡ on) × (is_subscribed p ≡ true)
  on-channel c p at has =
      let f = found-standing x d.channel (On c p) at in
      let pass : is_on_in is_subscribed on f.0 ≡ true = sym (ap (λ (o : Option Channel). unwrap_or (option_map (is_on_in is_subscribed on) o) false) f.1) ∙ standing-has x.channels on d stands has in
      let same : c ≡ on = stands-there is_subscribed on c f.0 p f.2 pass in
      (same, sym (is-on is_subscribed on f.0 p (subst (λ (o : Handle). f.0.standing ≡ On o p) same f.2)) ∙ pass)

  not-searched : standing_at x d.channel ≡ Some Searching → has_id x.channels on d ≡ true → ⊥
  not-searched at has =
      let f = found-standing x d.channel Searching at in
      both_ways (is_on_in is_subscribed on f.0) (fails-searched is_subscribed on f.0 f.2)
      (sym (ap (λ (o : Option Channel). unwrap_or (option_map (is_on_in is_subscribed on) o) false) f.1) ∙ standing-has x.channels on d stands has)

  not-named : standing_at x d.channel ≡ None → has_id x.channels on d ≡ true → ⊥
  not-named at has = go (under x.channels d.channel) at (standing-has x.channels on d stands has)
    where
      phases : (p : Phase) → is_subscribed p ≡ true → is_cleared p ≡ true → ⊥
      phases Connecting a b = both_ways false refl a
      phases (Creating rights) a b = both_ways false refl a
      phases (Live native rights) a b = both_ways false refl b
      phases Leaving a b = both_ways false refl b
      phases Clearing a b = both_ways false refl a
      phases Doomed a b = both_ways false refl a

      by : (ch : Channel) → is_on_in is_subscribed on ch ≡ true → (s : Standing) → ch.standing ≡ s → standing_unless_cleared s ≡ None → ⊥
      by ch f Searching is e = absurd cc
      by ch f (On c p) is e = pick (is_cleared p) refl e
        where
          pick : (b : Bool) → is_cleared p ≡ b → cond b None (Some (On c p)) ≡ None → ⊥
          pick true gone k =
              let same : c ≡ on = stands-there is_subscribed on c ch p is f in
              phases p (sym (is-on is_subscribed on ch p (subst (λ (o : Handle). ch.standing ≡ On o p) same is)) ∙ f) gone
          pick false kept_it k = absurd cc

      go : (o : Option Channel) → option_and_then (λ (here : Channel). standing_unless_cleared here.standing) o ≡ None
          → unwrap_or (option_map (is_on_in is_subscribed on) o) false ≡ true → ⊥
      go None e f = both_ways false refl f
      go (Some ch) e f = by ch f ch.standing refl e

  pub rests-unsubscribed : (o : Option Standing) → standing_at x d.channel ≡ o → Rests on x (unsubscribed g o x)
  rests-unsubscribed None at = rests-dropped (not-named at)
  rests-unsubscribed (Some Searching) at = rests-dropped (not-searched at)
  rests-unsubscribed (Some (On c Connecting)) at = rests-dropped (λ has. both_ways false refl (on-channel c Connecting at has).1)
  rests-unsubscribed (Some (On c (Creating rights))) at = rests-dropped (λ has. both_ways false refl (on-channel c (Creating rights) at has).1)
  rests-unsubscribed (Some (On c Clearing)) at = rests-dropped (λ has. both_ways false refl (on-channel c Clearing at has).1)
  rests-unsubscribed (Some (On c Doomed)) at = rests-dropped (λ has. both_ways false refl (on-channel c Doomed at has).1)
  rests-unsubscribed (Some (On c Leaving)) at = rests-staged (monitor.Ended c) (λ has. subst (λ (k : Handle). same_handle c k ≡ true) (on-channel c Leaving at has).0 (same-itself c))
  rests-unsubscribed (Some (On c (Live native rights))) at =
      rests-staged (monitor.Cancelled c) (λ has. subst (λ (k : Handle). same_handle c k ≡ true) (on-channel c (Live native rights) at has).0 (same-itself c))

pub rests-cancelled : (on : Handle) (x : Client) (g : Handle) (d : Subscription) → under x.subscriptions g ≡ Some d → stands_in d.stage ≡ true
    → Rests on x (sending (cancel_sent g d (standing_at x d.channel)) (unsubscribed g (standing_at x d.channel) x))
rests-cancelled on x g d there stands =
    let o : Option Standing = standing_at x d.channel in
    rests-then on x (unsubscribed g o x) (sending (cancel_sent g d o) (unsubscribed g o x)) (rests-unsubscribed on x g d there stands o refl) (rests-sending on (cancel_sent g d o) (unsubscribed g o x))

-- ---- a channel is cleared

-- on the circuit on which it is live
module _ (on : Handle) (x : Client) (h : Handle) (ch : Channel) (native : Native) (rights : ℕ) (there : under x.channels h ≡ Some ch) (stands : ch.standing ≡ On on (Live native rights)) where
  abbrev after : Table Channel
  after = with_changed (λ (here : Channel). record here { standing = On on Clearing }) h x.channels

  over-has : (d : Subscription) → has_id x.channels on d ≡ true → (s : Stage) → d.stage ≡ s
      → (drains_in on (stage_over on s) || (stands_in (stage_over on s) && unwrap_or (option_map (is_on_in is_subscribed on) (under after d.channel)) false)) ≡ true
  over-has d has Stands is = or_left (same_handle on on) (false && unwrap_or (option_map (is_on_in is_subscribed on) (under after d.channel)) false) (same-itself on)
  over-has d has (monitor.Cancelled o) is = subst (λ (s : Stage). (drains_in on s || (stands_in s && unwrap_or (option_map (is_on_in is_subscribed on) (under x.channels d.channel)) false)) ≡ true) is has
  over-has d has (monitor.Ended o) is = subst (λ (s : Stage). (drains_in on s || (stands_in s && unwrap_or (option_map (is_on_in is_subscribed on) (under x.channels d.channel)) false)) ≡ true) is has

  over-kept : (d : Subscription) → has_id x.channels on d ≡ true → has_id after on (monitor.over_on on h d) ≡ true
  over-kept d has = go (is_to h d) refl
    where
      go : (b : Bool) → is_to h d ≡ b → has_id after on (cond b (record d { stage = stage_over on d.stage }) d) ≡ true
      go true to = over-has d has d.stage refl
      go false to = has-too on x.channels after d (λ w is pass. (w, changed-other (λ (here : Channel). record here { standing = On on Clearing }) x.channels d.channel h w is (not-same d.channel h to), pass)) has

  clears-here : Rests on x (cleared h (On on (Live native rights)) x)
  clears-here = record {
    channels = λ k v is pass. stood-row is_asked on x.channels h (On on Clearing) ch there (same-phase is_asked on on ch (Live native rights) Clearing stands refl) k v is pass;
    requests = asks-over on h x.requests;
    subscriptions = λ g d is has. (monitor.over_on on h d, all-there (monitor.over_on on h) x.subscriptions g d is, over-kept d has);
  }

pub rests-cleared-so : (on : Handle) (x : Client) (h : Handle) (s : Standing) → Attached x → standing_at x h ≡ Some s → Rests on x (cleared h s x)
rests-cleared-so on x h Searching attached at = rests-alike on x (cleared h Searching x) (cleared-away on x h Searching attached at (inl refl)) (asks-same on x.requests x.requests refl)
rests-cleared-so on x h (On c Connecting) attached at =
    rests-alike on x (cleared h (On c Connecting) x) (cleared-away on x h (On c Connecting) attached at (inr (c, refl)))
    (asks-same on x.requests (cleared h (On c Connecting) x).requests (requests-unwanted c (without_channel (unsubscribed_all h x) h)).0)
rests-cleared-so on x h (On c (Creating rights)) attached at = rests-alike on x (cleared h (On c (Creating rights)) x) (cleared-early on x h c rights attached at) (asks-same on x.requests x.requests refl)
rests-cleared-so on x h (On c Leaving) attached at = rests-alike on x (cleared h (On c Leaving) x) (cleared-left on x h c at) (asks-over on h x.requests)
rests-cleared-so on x h (On c Clearing) attached at = absurd (both_ways true (never-cleared x h c Clearing at) refl)
rests-cleared-so on x h (On c Doomed) attached at = absurd (both_ways true (never-cleared x h c Doomed at) refl)
rests-cleared-so on x h (On c (Live native rights)) attached at = elim (cases_Bool (same_handle c on)) [
  | inr other ↦ rests-alike on x (cleared h (On c (Live native rights)) x) (cleared-elsewhere on x h c native rights at other) (asks-over on h x.requests)
  | inl same ↦
      let f = found-standing x h (On c (Live native rights)) at in
      subst (λ (k : Handle). Rests k x (cleared h (On c (Live native rights)) x)) (same-is c on same) (clears-here c x h f.0 native rights f.1 f.2)
]

pub rests-cleared : (on : Handle) (x : Client) (h : Handle) (s : Standing) → Attached x → standing_at x h ≡ Some s
    → Rests on x (sending (clearing_sent h s) (cleared h s x))
rests-cleared on x h s attached at =
    rests-then on x (cleared h s x) (sending (clearing_sent h s) (cleared h s x)) (rests-cleared-so on x h s attached at) (rests-sending on (clearing_sent h s) (cleared h s x))

-- ---- an end has ended on another circuit

asks-ended : (on c : Handle) (x : Client) → (c ≡ on → ⊥) → Asks on x.requests (ended c x).requests
asks-ended on c x other = go (under x.circuits c)
  where
    go : (o : Option ClientCircuit)
        → Asks on x.requests (unwrap_or (option_map (λ (d : ClientCircuit). let_go c d (channels_ended c (without_ids c x))) o) x).requests
    go None = asks-same on x.requests x.requests refl
    go (Some d) = λ q r is pass. (
      r,
      subst (λ (t : Table Request). under t q ≡ Some r) (sym (requests-ended c d (without_ids c x)))
          (all-freed-there (was_sent_on c) x.requests q r is (same-not r.circuit c (λ e. other (sym e ∙ same-is r.circuit on pass)))),
      pass,
      refl,
    )

pub rests-ended : (on c : Handle) (x : Client) → (c ≡ on → ⊥) → Rests on x (ended c x)
rests-ended on c x other = rests-alike on x (ended c x) (ended-elsewhere c on x (same-not c on other)) (asks-ended on c x other)

-- ---- a circuit is connected, and bytes move

begun-row : (test : Phase → Bool) (on c : Handle) (v : Channel) → test Connecting ≡ false → is_on_in test on v ≡ true
    → is_on_in test on (creating c v) ≡ true
begun-row test on c v none pass = go (is_on_in is_connecting c v) refl
  where
    phases : (p : Phase) → is_connecting p ≡ true → test p ≡ true → ⊥
    phases Connecting f g = both_ways (test Connecting) none g
    phases (Creating rights) f g = both_ways false refl f
    phases (Live native rights) f g = both_ways false refl f
    phases Leaving f g = both_ways false refl f
    phases Clearing f g = both_ways false refl f
    phases Doomed f g = both_ways false refl f

    both : (s : Standing) → unwrap_or (option_map is_connecting (phase_on c s)) false ≡ true
        → unwrap_or (option_map test (phase_on on s)) false ≡ true → ⊥
    both Searching f g = both_ways false refl f
    both (On o p) f g = by (same_handle o c) (same_handle o on) f g
      where
        by : (a b : Bool) → unwrap_or (option_map is_connecting (cond a (Some p) None)) false ≡ true
            → unwrap_or (option_map test (cond b (Some p) None)) false ≡ true → ⊥
        by true true k l = phases p k l
        by true false k l = both_ways false refl l
        by false b k l = both_ways false refl k

    go : (b : Bool) → is_on_in is_connecting c v ≡ b → is_on_in test on (cond b (record v { standing = On c (Creating 0) }) v) ≡ true
    go true is = absurd (both v.standing is pass)
    go false is = pass

pub rests-begun : (on c : Handle) (x : Client) → Rests on x (begun c x)
rests-begun on c x = record {
  channels = λ k v is pass. (creating c v, all-there (creating c) x.channels k v is, begun-row is_asked on c v refl pass);
  requests = λ q r is pass. (r, is, pass, refl);
  subscriptions = λ g d is pass. (d, is, has-too on x.channels (begun c x).channels d (λ w is_w pass_w. (creating c w, all-there (creating c) x.channels d.channel w is_w, begun-row is_subscribed on c w refl pass_w)) pass);
}

pub rests-connected : (on : Handle) (x : Client) (c : Handle) (d : ClientCircuit) (k : Option Closing) (sent : List Sending) (y : Client)
    → (c ≡ on → k ≡ None) → ConnectsOn x c (Some d) k sent y → Rests on x y
rests-connected on x c d None sent y alone does =
    let z : Client = begun c x in
    subst (λ (v : Client). Rests on x v) (sym does.1) (rests-then on x z (sending (set_up x.peer c d ++ creations c x) z) (rests-begun on c x) (rests-sending on (set_up x.peer c d ++ creations c x) z))
rests-connected on x c d (Some k) sent y alone does = subst (λ (v : Client). Rests on x v) (sym does.2) (rests-ended on c x (λ e. none-some k (alone e)))
  where
    none-some : (k : Closing) → (let o : Option Closing = None in Some k ≡ o) → ⊥
    none-some k e = cc

pub rests-given : (on : Handle) (x : Client) (c : Handle) (bytes : List ℕ) (more : Bool) (o : Option Connection) (sent : List Sending) (y : Client)
    → GivesOn x c bytes more o (Ok tt) sent y → Rests on x y
rests-given on x c bytes more (Some e) sent y gives =
    let z : Client = given c bytes more x in
    subst (λ (v : Client). Rests on x v) (sym gives.1) (rests-then on x z (sending (flow_sent c more e) z) (rests-same on x z refl refl refl) (rests-sending on (flow_sent c more e) z))
rests-given on x c bytes more None sent y gives = absurd gives

pub rests-handed : (on c : Handle) (k : ℕ) (x : Client) → Rests on x (handed_over c k x)
rests-handed on c k x = go (is_some (connection_at x c))
  where
    go : (b : Bool) → Rests on x (cond b (on_connection (λ (e : Connection). record e { link = with_handed k e.link }) c x) x)
    go true = rests-same on x (on_connection (λ (e : Connection). record e { link = with_handed k e.link }) c x) refl refl refl
    go false = rests-itself on x

-- ---- a moment, on a circuit whose end is not closed by it

module _ (on : Handle) (x : Client) where
  abbrev pub Away : List Left → Type 0
  Away closings = (l : ℕ) (e : Left) → At closings l e → e.circuit ≡ on → ⊥

  closings-more : (t : Ticking) (c : Handle) (l : ℕ) (e : Left) → At t.closings l e → At (ticks t c).closings l e
  closings-more t c l e at = go (connection_at t.core c)
    where
      by : (k : Keep) → At (ticks_as k c t).closings l e
      by Idle = at
      by Close = At-append t.closings (record { circuit = c; bytes = out_bytes t.core c } ∷ []) l e at
      by Echo = at

      go : (o : Option Connection) → At (unwrap_or (option_map (λ (e : Connection). ticks_as (kept t.core.moment e.link) c t) o) t).closings l e
      go None = at
      go (Some w) = by (kept t.core.moment w.link)

  closings-all : (order : List Handle) (t : Ticking) (l : ℕ) (e : Left) → At t.closings l e → At (fold ticks t order).closings l e
  closings-all [] t l e at = at
  closings-all (c ∷ order) t l e at = closings-all order (ticks t c) l e (closings-more t c l e at)

  ticks-one : (t : Ticking) (c : Handle) → Away (ticks t c).closings → Rests on x t.core → Rests on x (ticks t c).core
  ticks-one t c away m = go (connection_at t.core c) away
    where
      by : (k : Keep) → Away (ticks_as k c t).closings → Rests on x (ticks_as k c t).core
      by Idle far = m
      by Close far =
          let new : Left = record { circuit = c; bytes = out_bytes t.core c } in
          rests-then on x t.core (ended c t.core) m (rests-ended on c t.core (λ e. far (length t.closings) new (At-last t.closings new) e))
      by Echo far =
          let noted : Client = on_connection (λ (e : Connection). record e { link = record e.link { echoed = true } }) c t.core in
          rests-then on x noted (sending (of_circuit c (header_only command.Echo) ∷ []) noted) (rests-then on x t.core noted m (rests-same on t.core noted refl refl refl)) (rests-sending on (of_circuit c (header_only command.Echo) ∷ []) noted)

      go : (o : Option Connection) → Away (unwrap_or (option_map (λ (e : Connection). ticks_as (kept t.core.moment e.link) c t) o) t).closings
          → Rests on x (unwrap_or (option_map (λ (e : Connection). ticks_as (kept t.core.moment e.link) c t) o) t).core
      go None far = m
      go (Some e) far = by (kept t.core.moment e.link) far

  ticks-all : (order : List Handle) (t : Ticking) → Away (fold ticks t order).closings → Rests on x t.core → Rests on x (fold ticks t order).core
  ticks-all [] t away m = m
  ticks-all (c ∷ order) t away m = ticks-all order (ticks t c) away (ticks-one t c (λ l e at is. away l e (closings-all order (ticks t c) l e at) is) m)

  searched-one : (c : Handle) (t : Ticking) (w : search.Wanted) → Rests on x t.core → Rests on x (searches_on c t w).core
  searched-one c t w m = go (is_over t.core c)
    where
      go : (b : Bool) → Rests on x (cond b t (with_sending (of_circuit c (search_request w.cid w.name)) t)).core
      go true = m
      go false = rests-then on x t.core (sending (of_circuit c (search_request w.cid w.name) ∷ []) t.core) m (rests-sending on (of_circuit c (search_request w.cid w.name) ∷ []) t.core)

  searched-each : (c : Handle) (ws : List search.Wanted) (t : Ticking) → Rests on x t.core → Rests on x (fold (searches_on c) t ws).core
  searched-each c [] t m = m
  searched-each c (w ∷ ws) t m = searched-each c ws (searches_on c t w) (searched-one c t w m)

  searched-all : (ws : List search.Wanted) (cs : List Handle) (t : Ticking) → Rests on x t.core → Rests on x (fold (all_searched_on ws) t cs).core
  searched-all ws [] t m = m
  searched-all ws (c ∷ cs) t m = searched-all ws cs (all_searched_on ws t c) (searched-each c ws t m)

pub rests-ticked : (on : Handle) (moment : ℕ) (x : Client) → Away on x (circuits_ticked moment x).closings → (let t : Ticking = circuits_ticked moment x in Rests on x (searches_made t).core)
rests-ticked on moment x away =
    let y : Client = record x { moment = later moment x } in
    let first : Ticking = record { core = y; sent = []; notices = []; closings = [] } in
    let t : Ticking = circuits_ticked moment x in
    let u : Ticking = fold (all_searched_on (due t.core)) t (filter (is_name_connected t.core) t.core.order) in
    rests-then on x u.core (searches_made t).core (searched-all on x (due t.core) (filter (is_name_connected t.core) t.core.order) t (ticks-all on x x.order first away (rests-same on x y refl refl refl)))
    (rests-same on u.core (searches_made t).core refl refl refl)
