use Rattle.ca_text.specs.declared.refusal.Refusal.{Refusal}
use Rattle.std.proofs.Common.{◌≡◌, ◌∙◌, List, Result, Ok, Some, ap, option_map, refl, subst, sym}
use Rattle.ca_monitor.specs.Subscriptions.{Ended, Subscription, standing_under, with_stage}
use Rattle.ca_model.specs.Answers.{Sending}
use Rattle.ca_model.specs.Client.{Client, On, standing_at}
use Rattle.ca_model.specs.Client as phase
use Rattle.ca_model.specs.ClientCalls.{ClientUnsubscribes}
use Rattle.ca_client_tables.specs.declared.channel.Standing.{Standing}
use Rattle.ca_client_tables.specs.declared.channel.Standing.TheVariants as standing
use Rattle.ca_client_tables.specs.declared.channel.Phase.{Phase}
use Rattle.ca_client_tables.specs.Forms.{native_of, standing_of}
use Rattle.ca_client_core.proofs.Cancelling.{cancelled-live, cancelled-there, comes-to}
use Rattle.ca_model.proofs.Standings.{stands-as}
use Rattle.ca_client_core.proofs.Placing.{live-at, sound-staged}
use Rattle.ca_client_core.proofs.client.ClientCore.unsubscribe.Goals as goal

pub returns-in-Live : goal.returns-in-Live
returns-in-Live c =
    let x = c.args.self.now in
    let d = c.in-Some.found in
    let stands : standing_under c.args.subscription x.subscriptions ≡ Some d =
    sym (ap (λ (y : Client). standing_under c.args.subscription y.subscriptions) c.self.view_is) ∙ sym c.standing.ensures ∙ c.in-Some.is in
    let found : c.standing-2.result ≡ Some (standing.On c.in-On.circuit c.in-On.phase) = c.in-Some-standing.is ∙ ap (λ (s : Standing). Some s) c.in-On.is in
    let at : standing_at x d.channel ≡ Some (On c.in-On.circuit (phase.Live (native_of c.in-Live.native) c.in-Live.field-1)) =
    ap (λ (e : Subscription). standing_at x e.channel) (sym c.found.view_is)
    ∙ sym c.standing-2.ensures
    ∙ ap (option_map standing_of) found
    ∙ ap (λ (p : Phase). option_map standing_of (Some (standing.On c.in-On.circuit p))) c.in-Live.is in
    cancelled-live x c.args.subscription d c.in-On.circuit (native_of c.in-Live.native) c.in-Live.field-1 c.cancel.result c.cancel.new.self stands at c.cancel.ensures

pub returns-in-Leaving : goal.returns-in-Leaving
returns-in-Leaving c =
    let i = c.self.inside in
    let x : Client = record {
      peer = record { user = i.user.items; host = i.host.items };
      servers = i.servers.items;
      moment = i.moment;
      channels = i.channels;
      requests = i.requests.table;
      subscriptions = i.monitors;
      circuits = i.circuits;
      order = i.order.items;
      issued = i.requests.order;
      searches = i.searches.entries;
      beacons = i.beacons;
    } in
    let d = c.in-Some.found in
    let s = c.args.subscription in
    let stands : standing_under s i.monitors ≡ Some d = sym c.standing.ensures ∙ c.in-Some.is in
    let found : c.standing-2.result ≡ Some (standing.On c.in-On.circuit c.in-On.phase) = c.in-Some-standing.is ∙ ap (λ (p : Standing). Some p) c.in-On.is in
    let at : standing_at x d.channel ≡ Some (On c.in-On.circuit phase.Leaving) =
    ap (λ (y : Client). standing_at y d.channel) c.self.view_is
    ∙ ap (λ (e : Subscription). standing_at c.args.self.now e.channel) (sym c.found.view_is)
    ∙ sym c.standing-2.ensures
    ∙ ap (option_map standing_of) found
    ∙ ap (λ (p : Phase). option_map standing_of (Some (standing.On c.in-On.circuit p))) c.in-Leaving.is in
    let left : Client = record x { subscriptions = c.end.new.self } in
    let is : left ≡ record x { subscriptions = with_stage (Ended c.in-On.circuit) s i.monitors } =
    ap (λ t. record x { subscriptions = t }) (comes-to (Ended c.in-On.circuit) i.monitors c.end.new.self s d c.end.result stands c.end.ensures) in
    let made = cancelled-there x s d (Some (On c.in-On.circuit phase.Leaving)) left stands at refl is in
    subst (λ (y : Client). (sent : List Sending) × ClientUnsubscribes y s (Ok tt) sent left) c.self.view_is made

pub invariant_of-self : goal.invariant_of-self
invariant_of-self c =
    let i = c.self.inside in
    let x : Client = record {
      peer = record { user = i.user.items; host = i.host.items };
      servers = i.servers.items;
      moment = i.moment;
      channels = i.channels;
      requests = i.requests.table;
      subscriptions = i.monitors;
      circuits = i.circuits;
      order = i.order.items;
      issued = i.requests.order;
      searches = i.searches.entries;
      beacons = i.beacons;
    } in
    let d = c.in-Some.found in
    let s = c.args.subscription in
    let stands : standing_under s i.monitors ≡ Some d = sym c.standing.ensures ∙ c.in-Some.is in
    let found : c.standing-2.result ≡ Some (standing.On c.in-On.circuit c.in-On.phase) = c.in-Some-standing.is ∙ ap (λ (p : Standing). Some p) c.in-On.is in
    let at : standing_at x d.channel ≡ Some (On c.in-On.circuit phase.Leaving) =
    ap (λ (y : Client). standing_at y d.channel) c.self.view_is
    ∙ ap (λ (e : Subscription). standing_at c.args.self.now e.channel) (sym c.found.view_is)
    ∙ sym c.standing-2.ensures
    ∙ ap (option_map standing_of) found
    ∙ ap (λ (p : Phase). option_map standing_of (Some (standing.On c.in-On.circuit p))) c.in-Leaving.is in
    sound-staged c.self.inside.channels c.self.inside.searches.entries c.self.inside.requests.table c.self.inside.monitors c.self.inside.circuits c.self.inside.lives.items c.self.invariant (Ended c.in-On.circuit) c.in-On.circuit s d c.end.new.self (λ on. refl)
    (stands-as x s d stands).0 (live-at x d.channel c.in-On.circuit phase.Leaving at refl)
    (comes-to (Ended c.in-On.circuit) i.monitors c.end.new.self s d c.end.result stands c.end.ensures)

pub cancel-requires-clause-live : goal.cancel-requires-clause-live
cancel-requires-clause-live c =
    let x = c.args.self.now in
    let d = c.in-Some.found in
    let found : c.standing-2.result ≡ Some (standing.On c.in-On.circuit c.in-On.phase) = c.in-Some-standing.is ∙ ap (λ (s : Standing). Some s) c.in-On.is in
    let at : standing_at x d.channel ≡ Some (On c.in-On.circuit (phase.Live (native_of c.in-Live.native) c.in-Live.field-1)) =
    ap (λ (e : Subscription). standing_at x e.channel) (sym c.found.view_is)
    ∙ sym c.standing-2.ensures
    ∙ ap (option_map standing_of) found
    ∙ ap (λ (p : Phase). option_map standing_of (Some (standing.On c.in-On.circuit p))) c.in-Live.is in
    live-at x d.channel c.in-On.circuit (phase.Live (native_of c.in-Live.native) c.in-Live.field-1) at refl

pub returns-in-Connecting : goal.returns-in-Connecting
returns-in-Connecting c =
    let x = c.args.self.now in
    let d = c.in-Some.found in
    let s = c.args.subscription in
    let stands : standing_under s x.subscriptions ≡ Some d =
    sym (ap (λ (y : Client). standing_under s y.subscriptions) c.self.view_is) ∙ sym c.standing.ensures ∙ c.in-Some.is in
    let found : c.standing-2.result ≡ Some (standing.On c.in-On.circuit c.in-On.phase) = c.in-Some-standing.is ∙ ap (λ (p : Standing). Some p) c.in-On.is in
    let at : standing_at x d.channel ≡ Some (On c.in-On.circuit (phase.Connecting)) =
    ap (λ (e : Subscription). standing_at x e.channel) (sym c.found.view_is)
    ∙ sym c.standing-2.ensures
    ∙ ap (option_map standing_of) found
    ∙ ap (λ (p : Phase). option_map standing_of (Some (standing.On c.in-On.circuit p))) c.in-Connecting.is in
    subst (λ (r : Result (Unit {0}) Refusal). (sent : List Sending) × ClientUnsubscribes x s r sent c.forget-in-Connecting.new.self) (sym c.forget-in-Connecting.ensures.ok)
    (cancelled-there x s d (Some (On c.in-On.circuit (phase.Connecting))) c.forget-in-Connecting.new.self stands at refl c.forget-in-Connecting.ensures.freed)

pub returns-in-Creating : goal.returns-in-Creating
returns-in-Creating c =
    let x = c.args.self.now in
    let d = c.in-Some.found in
    let s = c.args.subscription in
    let stands : standing_under s x.subscriptions ≡ Some d =
    sym (ap (λ (y : Client). standing_under s y.subscriptions) c.self.view_is) ∙ sym c.standing.ensures ∙ c.in-Some.is in
    let found : c.standing-2.result ≡ Some (standing.On c.in-On.circuit c.in-On.phase) = c.in-Some-standing.is ∙ ap (λ (p : Standing). Some p) c.in-On.is in
    let at : standing_at x d.channel ≡ Some (On c.in-On.circuit (phase.Creating c.in-Creating.field-0)) =
    ap (λ (e : Subscription). standing_at x e.channel) (sym c.found.view_is)
    ∙ sym c.standing-2.ensures
    ∙ ap (option_map standing_of) found
    ∙ ap (λ (p : Phase). option_map standing_of (Some (standing.On c.in-On.circuit p))) c.in-Creating.is in
    subst (λ (r : Result (Unit {0}) Refusal). (sent : List Sending) × ClientUnsubscribes x s r sent c.forget-in-Creating.new.self) (sym c.forget-in-Creating.ensures.ok)
    (cancelled-there x s d (Some (On c.in-On.circuit (phase.Creating c.in-Creating.field-0))) c.forget-in-Creating.new.self stands at refl c.forget-in-Creating.ensures.freed)
