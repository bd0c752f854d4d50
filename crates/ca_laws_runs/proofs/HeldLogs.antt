-- A subscription that is on a live channel is held by its client's log, of every run: its caller
-- ended neither it nor its channel, and nothing was told of its end.
use Rattle.std.proofs.Common.{◌≡◌, ℕ, List, Option, Some, true, false, refl, sym, ap, ◌∙◌, subst}
use Rattle.std.proofs.lemmas.Bool.{both_ways}
use Rattle.ca_text.specs.Place.{At}
use Rattle.ca_text.proofs.Places.{At-one}
use Rattle.ca_arena.specs.declared.handle.Handle.{Handle}
use Rattle.ca_dbr.specs.declared.value.Outcome.{Outcome}
use Rattle.ca_ids.specs.Table.{under}
use Rattle.ca_monitor.specs.Subscriptions.{Subscription, stands_in}
use Rattle.ca_model.specs.History.{Called, Cancel, Clear, Intent, Line, Nothing, Noticed, On, Subscribe}
use Rattle.ca_model.specs.Speech.{In}
use Rattle.ca_model.specs.Channels.{IsHeld}
use Rattle.ca_model.specs.ClientEvents.{channel_number, meant_by}
use Rattle.ca_model.specs.Events.{Event}
use Rattle.ca_model.specs.Runs.{Runs}
use Rattle.ca_model.specs.World.{ClientSide, Setting, World}
use Rattle.ca_laws_runs.specs.Anew.{LiveSubscriptionsAreHeld}
use Rattle.ca_laws_runs.specs.Quiet.{ClientsQuiet, Tidy}
use Rattle.ca_laws_runs.specs.Sides.{IsLiveAs}
use Rattle.ca_laws_runs.proofs.Kept.{quiet-runs}
use Rattle.ca_laws_runs.proofs.OnceLess.{is_gone}
use Rattle.ca_laws_runs.proofs.OnceNoticed.{ToldStand}
use Rattle.ca_laws_runs.proofs.OnceNoticedRuns.{told-runs}
use Rattle.ca_laws_runs.proofs.OnceRuns.{once-runs}
use Rattle.ca_laws_runs.proofs.OnceWorld.{OnceStand}
use Rattle.ca_laws_runs.proofs.Says.{subscribed-at}

module _ (w : World) (quiet : ClientsQuiet w) (once : OnceStand w) (told : ToldStand w) (i sid : ℕ) (x : ClientSide) (log : List Line) (g on : Handle) (d : Subscription) (at : At w.clients i x) (at_log : At w.client_logs x.life log) (there : under x.core.subscriptions g ≡ Some d)
    (stands : stands_in d.stage ≡ true) (live : IsLiveAs x.core.channels on d.channel sid) where
  abbrev tidy : Tidy x.names x.core
  tidy = quiet.tidy i x at

  abbrev a : ℕ
  a = channel_number x.names d.channel

  abbrev m : ℕ
  m = (tidy.subscriptions g d there).0

  meant : meant_by x.names.subscriptions g ≡ On a (Subscribe m)
  meant = (tidy.subscriptions g d there).2

  name : At x.names.subscriptions m (g, On a (Subscribe m))
  name = subscribed-at x.names x.core g a m tidy meant

  -- what has its number is it
  own : (e : Handle × Intent) → At x.names.subscriptions m e → under x.core.subscriptions e.0 ≡ Some d
  own e named = subst (λ (v : Handle × Intent). under x.core.subscriptions v.0 ≡ Some d) (At-one x.names.subscriptions m (g, On a (Subscribe m)) e name named) there

  not-cleared : In log (Called (On a Clear) Nothing) → ⊥
  not-cleared called =
      let u = once.called i x log called.0 (On a Clear) Nothing at at_log called.1 in
      let same : u.0 ≡ d.channel = At-one x.names.channels a u.0 d.channel u.1 (tidy.subscriptions g d there).1 in
      let gone : is_gone (live.ch).standing ≡ true = u.2 live.ch (subst (λ (h : Handle). under x.core.channels h ≡ Some live.ch) (sym same) live.there) in
      both_ways false refl (ap is_gone (sym live.stands) ∙ gone)

  not-cancelled : In log (Called (On a (Cancel m)) Nothing) → ⊥
  not-cancelled called =
      let u = once.called i x log called.0 (On a (Cancel m)) Nothing at at_log called.1 in
      both_ways (stands_in d.stage) (u.2 d (own u.0 u.1)) stands

  not-told : (o : Outcome) → In log (Noticed (On a (Subscribe m)) o) → ⊥
  not-told o noticed =
      let u = told.done i x log noticed.0 (On a (Subscribe m)) o at at_log noticed.1 tt in
      u.2 (d, own u.0 u.1, stands)

  pub held-so : (a m : ℕ) × (meant_by x.names.subscriptions g ≡ On a (Subscribe m)) × IsHeld log (On a (Subscribe m)) × ((o : Outcome) → In log (Noticed (On a (Subscribe m)) o) → ⊥)
  held-so = (a, m, meant, (not-cleared, not-cancelled), not-told)

pub run-held-logs : (s : Setting) (es : List Event) (stopped : Option Event) (w : World) → Runs s es stopped w → LiveSubscriptionsAreHeld w
run-held-logs s es stopped w runs = λ i sid x log g on d at at_log there stands live. held-so w (quiet-runs s es stopped w runs) (once-runs s es stopped w runs) (told-runs s es stopped w runs) i sid x log g on d at at_log there stands live
