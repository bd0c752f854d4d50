-- An update that a client reads is told; or its subscription is over, or its channel was cleared
-- after it was added. So a subscriber sees its updates in order, with none left out.
use Rattle.std.proofs.Common.{◌≡◌, ℕ, ◌+◌, ◌<◌, ◌≤◌, ◌⊎◌, inl, inr, Bool, true, false, cond, eqb, List, [], ◌∷◌, ◌++◌, length, Option, Some, None, refl, sym, ap, ◌∙◌, subst, arith}
use Rattle.std.specs.Prelude.{option_and_then, option_map, unwrap_or}
use Rattle.std.specs.List.{list_any}
use Rattle.std.proofs.lemmas.Bool.{both_ways}
use Rattle.ca_text.specs.Command.{command_number}
use Rattle.ca_text.specs.declared.command.Command.{Command}
use Rattle.ca_text.specs.declared.command.Command.TheVariants as command
use Rattle.ca_text.specs.Place.{At}
use Rattle.ca_text.proofs.Places.{At-after, At-append, At-back, At-mapped, At-one, At-or, At-parts, At-within, some_is}
use Rattle.ca_arena.specs.declared.handle.Handle.{Handle}
use Rattle.ca_dbr.specs.declared.value.Outcome.{Outcome}
use Rattle.ca_ids.specs.Table.{by_wire, under}
use Rattle.ca_ids.specs.Wire.{wire_of}
use Rattle.ca_monitor.specs.Subscriptions.{Subscription, stands_in}
use Rattle.ca_requests.specs.Meaning.{Means}
use Rattle.ca_wire.specs.Fields.{Fields}
use Rattle.ca_model.specs.Answers.{Notice}
use Rattle.ca_model.specs.Answers as notice
use Rattle.ca_model.specs.Client.{Channel, Client, Live, is_live, is_on_in}
use Rattle.ca_model.specs.ClientEnds.{after_taking}
use Rattle.ca_model.specs.Hears.{Effect, Hears, Updates, subscription_on, is_live_on, understood}
use Rattle.ca_model.specs.Hears as hears
use Rattle.ca_model.specs.History.{Ask, Cancel, Clear, Create, Intent, Line, On, Reply, Request, Sent, Step, Subscribe, Told, Update, Updated}
use Rattle.ca_model.specs.History as history
use Rattle.ca_model.specs.Speech.{Cid, Is, Speaks, SubId, sid_in}
use Rattle.ca_model.specs.Channels.{AreSteps, Suits, named}
use Rattle.ca_model.proofs.Standings.{is-on}
use Rattle.ca_model.proofs.Tables.{under-wire, wire-under}
use Rattle.ca_model.proofs.Thinner.{three-ways}
use Rattle.ca_model.specs.ClientEvents.{about_at, channel_number, heard_in, line_of, lines_of, meant_by}
use Rattle.ca_model.specs.World.{ClientSide, Joined, World, log_length}
use Rattle.ca_laws_parts.specs.ServerFits.{AllCaused}
use Rattle.ca_laws_parts.specs.Flows.{MeansOwn}
use Rattle.ca_laws_parts.specs.Sids.{IsClearedWithin}
use Rattle.ca_laws_parts.proofs.Flows.{given-now}
use Rattle.ca_laws_parts.proofs.Refused.{heard-is}
use Rattle.ca_laws_parts.specs.Kept.{kept}
use Rattle.ca_laws_parts.specs.Circuit.{HeldOn}
use Rattle.ca_laws_runs.specs.Created.{AllCreated}
use Rattle.ca_laws_runs.specs.Quiet.{IsNamedIn, Tidy}
use Rattle.ca_laws_runs.specs.Sides.{IsLiveAs}
use Rattle.ca_laws_runs.specs.Tells.{TellsOwn}
use Rattle.ca_laws_runs.specs.Under.{IsCreatedBefore, IsUse}
use Rattle.ca_laws_runs.proofs.Again.{AllAgain, over-there, was-there}
use Rattle.ca_laws_runs.proofs.Farewell.{live-standing}
use Rattle.ca_laws_runs.proofs.OnceCalls.{IsOverBy}
use Rattle.ca_laws_runs.proofs.OnceWorld.{logs-grown}
use Rattle.ca_laws_runs.proofs.OrderGrows.{GoesOn}
use Rattle.ca_laws_runs.proofs.OrderKeeps.{IsHearing, hear-lines, hear-step}
use Rattle.ca_laws_runs.proofs.Phases.{same-number}
use Rattle.ca_laws_runs.proofs.Says.{one-handle, subscribed-at}
use Rattle.ca_laws_runs.proofs.Spent.{Known}
use Rattle.ca_laws_runs.proofs.ToldCreated.{create-used}
use Rattle.ca_laws_runs.proofs.ToldGrows.{Onward, WorldsOn}
use Rattle.ca_laws_runs.proofs.ToldQuiet.{tells-held}
use Rattle.ca_laws_runs.proofs.Under.{uncleared}
use Rattle.ca_laws_runs.proofs.Using.{AllNamedOnce, ClientsUse, IsOverAt, named-meant}

-- ---- what is said of a circuit

-- The update was told; or the subscription is over, or the channel's SID was cleared
-- after the EVENT_ADD.
abbrev pub IsSeen : World → Joined → (a number : ℕ) → Told → Step → Sent → Type 0
IsSeen w c a number t h s =
    ((x : List Line) × (o : Outcome) × At w.client_logs c.lists.client x × At x h.logged (Updated (On a (Subscribe number)) o) × (h.logged < h.after) × Means t.message o)
    ⊎ (IsOverAt w c.lists.client number ⊎ IsClearedWithin c.lists.up (sid_in s.message) t.place (length c.lists.up))

-- So it is of each update that was read.
abbrev pub AllSeen : World → Type 0
AllSeen w = (n : ℕ) (c : Joined) (i a number b : ℕ) (t : Told) (h : Step) (s : Sent) → At w.circuits n c → At c.lists.down i t → At c.lists.heard i h → t.cause ≡ Update b → At c.lists.up t.place s → s.intent ≡ On a (Subscribe number)
    → IsSeen w c a number t h s

-- The update at place i was told before.
abbrev pub IsBefore : Joined → List Line → (i : ℕ) → Intent → Told → Type 0
IsBefore c x i intent t = (g : Step) × (p : Outcome) × At c.lists.heard i g × At x g.logged (Updated intent p) × (g.logged < g.after) × Means t.message p

-- As an update was told, all earlier ones of that EVENT_ADD had been.
abbrev pub AllOrdered : World → Type 0
AllOrdered w = (n : ℕ) (c : Joined) (i l b : ℕ) (intent : Intent) (t u : Told) (h : Step) (s : Sent) (x : List Line) (o : Outcome) → At w.circuits n c → At c.lists.heard i h → At c.lists.down i u → At w.client_logs c.lists.client x → At x h.logged (Updated intent o) → h.logged < h.after
    → At c.lists.up u.place s → s.intent ≡ intent → l < i → At c.lists.down l t → t.place ≡ u.place → t.cause ≡ Update b → IsBefore c x l intent t

-- steps of clients are within their logs
abbrev pub AllWithin : World → Type 0
AllWithin w = (n : ℕ) (c : Joined) (x : List Line) → At w.circuits n c → At w.client_logs c.lists.client x → AreSteps c.lists.heard c.lists.down c.lists.up x

-- ---- what was read stays so

module _ (w new : World) (known : Known w) (goes : WorldsOn w new) (uses : ClientsUse w new) where
  pub seen-old : AllSeen w → (n : ℕ) (c d : Joined) (i a number b : ℕ) (t : Told) (h : Step) (s : Sent) → At w.circuits n c → At new.circuits n d → At d.lists.down i t → At c.lists.heard i h → t.cause ≡ Update b → At d.lists.up t.place s → s.intent ≡ On a (Subscribe number)
      → IsSeen new d a number t h s
  seen-old all n c d i a number b t h s on at_d at_t at_h cause at_s meant =
      let o = was-there w new known goes uses n c d i h on at_d at_h in
      let t_c = o.told i t (omega arith) at_t in
      elim (all n c i a number b t h s on t_c.0 at_h cause (o.said t.place s t_c.1 at_s) meant) [
        | inl told ↦ (let more = goes.logs c.lists.client told.0 told.2 in inl (told.0 ++ more.0, told.1, subst (λ (v : ℕ). At new.client_logs v (told.0 ++ more.0)) (sym o.goes.client) more.1, At-append told.0 more.0 h.logged (Updated (On a (Subscribe number)) told.1) told.3, told.4, told.5))
        | inr (inl over) ↦ inr (inl (over-there w new known goes uses n c d number on o.goes over))
        | inr (inr v) ↦ (let up = o.goes.up v.0 v.1 v.4 in inr (inr (v.0, v.1, v.2, At-within d.lists.up v.0 v.1 up, up, v.5)))
      ]

  pub ordered-old : AllWithin w → AllOrdered w → (n : ℕ) (c d : Joined) (i l b : ℕ) (intent : Intent) (t u : Told) (h : Step) (s : Sent) (x : List Line) (q : Outcome) → At w.circuits n c → At new.circuits n d → At c.lists.heard i h → At d.lists.down i u → At new.client_logs d.lists.client x
      → At x h.logged (Updated intent q) → h.logged < h.after → At d.lists.up u.place s → s.intent ≡ intent → l < i → At d.lists.down l t → t.place ≡ u.place → t.cause ≡ Update b → IsBefore d x l intent t
  ordered-old within all n c d i l b intent t u h s x q on at_d at_h at_u at_x line lt at_s meant less at_t place cause =
      let o = was-there w new known goes uses n c d i h on at_d at_h in
      let log = known.once.lives n c on in
      let more = goes.logs c.lists.client log.0 log.1 in
      let whole : log.0 ++ more.0 ≡ x = At-one new.client_logs c.lists.client (log.0 ++ more.0) x more.1 (subst (λ (v : ℕ). At new.client_logs v x) o.goes.client at_x) in
      let inside : h.after ≤ length log.0 = ((within n c log.0 on log.1).within i h at_h).2 in
      let u_c = o.told i u (omega arith) at_u in
      let old_line : At log.0 h.logged (Updated intent q) = At-back log.0 more.0 h.logged (Updated intent q) (subst (λ (v : List Line). At v h.logged (Updated intent q)) (sym whole) line) (omega (arith, lt, inside)) in
      let r = all n c i l b intent t u h s log.0 q on at_h u_c.0 log.1 old_line lt (o.said u.place s u_c.1 at_s) meant less (o.told l t (omega (arith, less)) at_t).0 place cause in
      (r.0, r.1, o.goes.heard l r.0 r.2, subst (λ (v : List Line). At v (r.0).logged (Updated intent r.1)) whole (At-append log.0 more.0 (r.0).logged (Updated intent r.1) r.3), r.4, r.5)

-- ---- an EVENT_ADD with a payload

unlike-add : (m : Fields) (a : ℕ) → eqb a 1 ≡ false → m.command ≡ a → m.command ≡ 1 → ⊥
unlike-add m a none is adds = both_ways (eqb a 1) none (ap (λ (v : ℕ). eqb v 1) (sym is ∙ adds))

others-add : (m : Fields) → list_any (λ (k : Command). eqb m.command (command_number k)) understood ≡ false → m.command ≡ 1 → ⊥
others-add m none adds = both_ways (list_any (λ (k : Command). eqb m.command (command_number k)) understood) none (ap (λ (v : ℕ). list_any (λ (k : Command). eqb v (command_number k)) understood) adds)

updates-so : (x : Client) (c : Handle) (m : Fields) (e : Effect) → Hears x c m e → m.command ≡ 1 → (m.payload ≡ [] → ⊥) → Updates x m (subscription_on x c m.p2) e
updates-so x c m e (hears.Update is some does) z payload = does
updates-so x c m e (hears.Confirmation is empty does) z payload = absurd (payload empty)
updates-so x c m e (hears.CreateChannel is does) z payload = absurd (unlike-add m 18 refl is z)
updates-so x c m e (hears.Search is d there finds) z payload = absurd (unlike-add m 6 refl is z)
updates-so x c m e (hears.AccessRights is does) z payload = absurd (unlike-add m 22 refl is z)
updates-so x c m e (hears.CreateChannelFail is does) z payload = absurd (unlike-add m 26 refl is z)
updates-so x c m e (hears.ClearChannel is does) z payload = absurd (unlike-add m 12 refl is z)
updates-so x c m e (hears.ServerDisconnect is does) z payload = absurd (unlike-add m 27 refl is z)
updates-so x c m e (hears.Reply is does) z payload = absurd (elim is [ inl reads ↦ unlike-add m 15 refl reads z | inr puts ↦ unlike-add m 19 refl puts z ])
updates-so x c m e (hears.Error is does) z payload = absurd (unlike-add m 11 refl is z)
updates-so x c m e (hears.Other is does) z payload = absurd (others-add m is z)

-- what is found by an id stands, and its channel is live
heard-live : (x : Client) (c : Handle) (id : ℕ) (g : Handle) → subscription_on x c id ≡ Some g → (d : Subscription) × (under x.subscriptions g ≡ Some d) × (is_live_on x c d.channel ≡ true)
heard-live x c id g is = go (by_wire x.subscriptions id) refl is
  where
    by : (e : Handle × Subscription) → under x.subscriptions e.0 ≡ Some e.1 → (b l : Bool) → is_live_on x c e.1.channel ≡ l → option_and_then (λ (e : Handle × Subscription). cond (is_live_on x c e.1.channel) (Some e.0) None) (cond b (Some e) None) ≡ Some g → (d : Subscription) × (under x.subscriptions g ≡ Some d) × (is_live_on x c d.channel ≡ true)
    by e there false l lives f = absurd cc
    by e there true l lives f = pick l lives (ap (λ (v : Bool). cond v (Some e.0) None) (sym lives) ∙ f)
      where
        pick : (l : Bool) → is_live_on x c e.1.channel ≡ l → cond l (Some e.0) None ≡ Some g → (d : Subscription) × (under x.subscriptions g ≡ Some d) × (is_live_on x c d.channel ≡ true)
        pick true lives f = (e.1, subst (λ (k : Handle). under x.subscriptions k ≡ Some e.1) (some_is e.0 g f) there, lives)
        pick false lives f = absurd cc

    go : (o : Option (Handle × Subscription)) → by_wire x.subscriptions id ≡ o → option_and_then (λ (e : Handle × Subscription). cond (is_live_on x c e.1.channel) (Some e.0) None) (option_and_then (λ (e : Handle × Subscription). cond (stands_in e.1.stage) (Some e) None) o) ≡ Some g → (d : Subscription) × (under x.subscriptions g ≡ Some d) × (is_live_on x c d.channel ≡ true)
    go None found f = absurd cc
    go (Some e) found f = by e (wire-under x.subscriptions id e found).0 (stands_in e.1.stage) (is_live_on x c e.1.channel) refl f

-- and what is on a live channel is found
heard-found : (x : Client) (c : Handle) (g : Handle) (d : Subscription) → by_wire x.subscriptions (wire_of g) ≡ Some (g, d) → stands_in d.stage ≡ true → is_live_on x c d.channel ≡ true → subscription_on x c (wire_of g) ≡ Some g
heard-found x c g d found stands lives =
    ap (λ (o : Option (Handle × Subscription)). option_and_then (λ (e : Handle × Subscription). cond (is_live_on x c e.1.channel) (Some e.0) None) (option_and_then (λ (e : Handle × Subscription). cond (stands_in e.1.stage) (Some e) None) o)) found
    ∙ ap (λ (b : Bool). option_and_then (λ (e : Handle × Subscription). cond (is_live_on x c e.1.channel) (Some e.0) None) (cond b (Some (g, d)) None)) stands ∙ ap (λ (b : Bool). cond b (Some g) None) lives

live-there : (x : Client) (c h : Handle) (sid : ℕ) → IsLiveAs x.channels c h sid → is_live_on x c h ≡ true
live-there x c h sid l = ap (λ (o : Option Channel). unwrap_or (option_map (is_on_in is_live c) o) false) l.there ∙ is-on is_live c l.ch (Live l.native l.rights) l.stands

live-as : (x : Client) (c h : Handle) → is_live_on x c h ≡ true → (sid : ℕ) × IsLiveAs x.channels c h sid
live-as x c h is = go (under x.channels h) refl is
  where
    go : (o : Option Channel) → under x.channels h ≡ o → unwrap_or (option_map (is_on_in is_live c) o) false ≡ true → (sid : ℕ) × IsLiveAs x.channels c h sid
    go None there f = absurd (both_ways false refl f)
    go (Some ch) there f = (let l = live-standing c ch f in (l.0.sid, record { ch = ch; native = l.0; rights = l.1; there = there; stands = l.2; is = refl }))

-- what has a subscription's id subscribes, or cancels
sub-named : (id number : ℕ) (intent : Intent) → named (SubId id) intent ≡ Some number → (a : ℕ) × ((intent ≡ On a (Subscribe number)) ⊎ (intent ≡ On a (Cancel number)))
sub-named id number (On a (Subscribe m)) is = (a, inl (ap (λ (z : ℕ). On a (Subscribe z)) (some_is m number is)))
sub-named id number (On a (Cancel m)) is = (a, inr (ap (λ (z : ℕ). On a (Cancel z)) (some_is m number is)))
sub-named id number (On a Create) is = absurd cc
sub-named id number (On a Clear) is = absurd cc
sub-named id number (On a (Request kind m)) is = absurd cc
sub-named id number history.OfCircuit is = absurd cc

not-update : (b : ℕ) → Update b ≡ Reply → ⊥
not-update b e = cc

-- ---- a message is read

module _ (w new : World) (k : ℕ) (j : Joined) (x : ClientSide) (on : At w.circuits k j) (at : At w.clients j.client x) (opened : j.lists.client_open ≡ true) (f : IsHearing w new k j x)
    (known : Known w) (goes : WorldsOn w new) (uses : ClientsUse w new) (names : AllNamedOnce w) (created : AllCreated w) (caused : AllCaused w) (m : Fields) (rest : List ℕ) (t : Told) (s : Sent) (there : At j.lists.down (length j.lists.heard) t) (up : At j.lists.up t.place s) (is : t.message ≡ m)
    (does : Hears (after_taking j.at_client rest x.core) j.at_client m (record { core = f.core; sent = f.sent; notices = f.notices })) (own : (i : ℕ) (o : Notice) → At f.notices i o → TellsOwn x.names m s o) (now : Joined) (at_now : At new.circuits k now) (goes_on : GoesOn (heard_in (hear-step w new k j x on at f) j) now) where
  mine : HeldOn (kept w k) x.names x.core j
  mine =
      let holds = known.held k j on in
      let joined : holds.0 ≡ j = At-one w.circuits k holds.0 j holds.2 on in
      let holder : holds.1 ≡ x = At-one w.clients j.client holds.1 x (subst (λ (z : Joined). At w.clients z.client holds.1) joined holds.3) at in
      subst (λ (v : Joined × ClientSide). HeldOn (kept w k) v.1.names v.1.core v.0) (λ i. (joined i, holder i)) holds.4

  abbrev step : Step
  step = hear-step w new k j x on at f

  abbrev lines : List Line
  lines = hear-lines w new k j x on at f

  tidy : Tidy x.names x.core
  tidy = known.quiet.tidy j.client x at

  onward : Onward j now
  onward = (let o = goes.circuits k j on in subst (λ (v : Joined). Onward j v) (At-one new.circuits k o.0 now o.1 at_now) o.2)

  abbrev log : List Line
  log = (known.once.there j.client x at).0

  log_there : At w.client_logs x.life log
  log_there = (known.once.there j.client x at).1

  logged : log_length x.life w.client_logs ≡ length log
  logged = ap (λ (o : Option (List Line)). length (unwrap_or o [])) log_there

  life : now.lists.client ≡ x.life
  life = goes_on.client ∙ known.lives.same k j x on at opened

  new_log : At new.client_logs now.lists.client (log ++ lines)
  new_log =
      let more = goes.logs x.life log log_there in
      let grew = (logs-grown w.client_logs x.life lines log log_there).0 x.life (log ++ more.0) (subst (λ (v : World). At v.client_logs x.life (log ++ more.0)) f.is more.1) in
      let whole : log ++ more.0 ≡ log ++ lines = elim grew [
        | inl old ↦ old.1.2 ∙ ap (λ (l : List Line). l ++ lines) (At-one w.client_logs x.life old.1.0 log old.1.1 log_there)
        | inr other ↦ absurd (other.1 refl)
      ] in
      subst (λ (v : ℕ × List Line). At new.client_logs v.0 v.1) (λ i. (sym life i, whole i)) more.1

  over-now : (number : ℕ) (g : Handle × Intent) → At x.names.subscriptions number g → IsOverBy x.core g.0 → IsOverAt new now.lists.client number
  over-now number g named_g over = over-there w new known goes uses k j now number on onward (λ i y at_y mine_y.
      let same : i ≡ j.client = known.once.apart i j.client y x at_y at (mine_y ∙ known.lives.same k j x on at opened) in
      let y_is : y ≡ x = At-one w.clients j.client y x (subst (λ (v : ℕ). At w.clients v y) same at_y) at in
      subst (λ (v : ClientSide). (g : Handle × Intent) × At v.names.subscriptions number g × IsOverBy v.core g.0) (sym y_is) (g, named_g, over))

  adds : (a number : ℕ) → s.intent ≡ On a (Subscribe number) → Is command.EventAdd s.message
  adds a number meant = subst (λ (v : Intent). Suits v s.message) meant (mine.flows.asked t.place s up)

  -- what has the id of a subscription that was added
  has-id : (a number l : ℕ) (r : Sent) (g : Handle) → At x.names.subscriptions number (g, On a (Subscribe number)) → At j.lists.up l r → (c : ℕ) → (r.intent ≡ On c (Subscribe number)) ⊎ (r.intent ≡ On c (Cancel number)) → r.message.p2 ≡ wire_of g
  has-id a number l r g named_g at_r c asks =
      let h = (known.quiet.quiet k j x on at opened).ids l r at_r c number asks in
      h.3 ∙ ap (λ (z : Handle × Intent). wire_of z.0) (At-one x.names.subscriptions number (h.0, h.1) (g, On a (Subscribe number)) h.2 named_g)

  module _ (a number : ℕ) (meant : s.intent ≡ On a (Subscribe number)) (update : m.command ≡ 1) where
    speaks : Speaks t.message (SubId m.p2)
    speaks = inl (ap (λ (v : Fields). v.command) is ∙ update, ap (λ (v : Fields). v.p2) is)

    given : MeansOwn j.lists.up t.place (SubId m.p2)
    given = given-now j.lists (length j.lists.heard) t.place (SubId m.p2) (omega arith) (mine.flows.own (length j.lists.heard) t (SubId m.p2) there speaks)

    wire : (g : Handle) → At x.names.subscriptions number (g, On a (Subscribe number)) → wire_of g ≡ m.p2
    wire g named_g =
        let r_is : given.2 ≡ s = At-one j.lists.up t.place given.2 s given.5 up in
        let number_is : number ≡ given.1 = some_is number given.1 (ap (λ (v : Intent). named (SubId m.p2) v) (sym meant) ∙ ap (λ (v : Sent). named (SubId m.p2) v.intent) (sym r_is) ∙ given.6) in
        let giver = given.3 in
        let asks = sub-named m.p2 number giver.0.intent (giver.3 ∙ ap (λ (z : ℕ). Some z) (sym number_is)) in
        sym (has-id a number given.0 giver.0 g named_g giver.1 asks.0 asks.1) ∙ giver.2.1

    -- no EVENT_ADD of it was sent after that
    none-later : (g : Handle) → At x.names.subscriptions number (g, On a (Subscribe number)) → (p c : ℕ) (r : Sent) → t.place < p → At j.lists.up p r → r.intent ≡ On c (Subscribe number) → ⊥
    none-later g named_g p c r lt at_r asks =
        let early : given.0 ≤ t.place = given.4 in
        let add : Is command.EventAdd r.message = subst (λ (v : Intent). Suits v r.message) asks (mine.flows.asked p r at_r) in
        given.3.4 p r (omega (arith, lt, early)) at_r (add, has-id a number p r g named_g at_r c (inl asks) ∙ wire g named_g)

  abbrev z : Client
  z = after_taking j.at_client rest x.core

  -- an update is an EVENT_ADD with a payload
  update-is : (a number b : ℕ) → s.intent ≡ On a (Subscribe number) → t.cause ≡ Update b → (m.command ≡ 1) × (m.payload ≡ [] → ⊥)
  update-is a number b meant cause = elim (caused.each k j on (length j.lists.heard) t there) [
    | inl reply ↦ absurd (not-update b (sym cause ∙ reply))
    | inr (inr add) ↦ (ap (λ (v : Fields). v.command) (sym is) ∙ add.0, λ e. add.1 (ap (λ (v : Fields). v.payload) is ∙ e))
    | inr (inl gone) ↦
        let c = mine.flows.concerns (length j.lists.heard) t (Cid t.message.p1) there (inl (inl (inr (inr (inr gone)), refl))) in
        let one : s.message.command ≡ (c.0).message.command = ap (λ (v : Sent). v.message.command) (At-one j.lists.up t.place s c.0 up c.1) in
        let add : s.message.command ≡ 1 = adds a number meant in
        absurd (elim c.2 [
          | inl gives ↦ unlike-add s.message 18 refl (one ∙ gives.0) add
          | inr (inl clear) ↦ unlike-add s.message 12 refl (one ∙ clear.0) add
          | inr (inr (inl cancel)) ↦ unlike-add s.message 2 refl (one ∙ cancel.0) add
          | inr (inr (inr write)) ↦ unlike-add s.message 4 refl (one ∙ write.0) add
        ])
  ]

  pub seen-now : (a number b : ℕ) → s.intent ≡ On a (Subscribe number) → t.cause ≡ Update b → IsSeen new now a number t step s
  seen-now a number b meant cause = (let u = update-is a number b meant cause in go u.0 (subscription_on z j.at_client m.p2) refl (updates-so z j.at_client m (record { core = f.core; sent = f.sent; notices = f.notices }) does u.0 u.1))
    where
      -- it finds its subscription, and is told
      found-it : (g : Handle) (o : Outcome) → f.notices ≡ notice.Update g o ∷ [] → IsSeen new now a number t step s
      found-it g o notices =
          let line : Line = Updated (On a (Subscribe number)) o in
          let says = own 0 (notice.Update g o) (subst (λ (v : List Notice). At v 0 (notice.Update g o)) (sym notices) refl) in
          let first : At lines 0 line = subst (λ (v : List Notice). At (lines_of (about_at j.lists (length j.lists.heard)) x.names v) 0 line) (sym notices) (ap (λ (v : Intent). Some (Updated v o)) (says.0 ∙ meant)) in
          let place : log_length x.life w.client_logs ≡ length log + 0 = omega (arith, logged) in
          let some : 0 < length lines = At-within lines 0 line first in
          inl (log ++ lines, o, new_log, subst (λ (v : ℕ). At (log ++ lines) v line) (sym place) (At-after log lines 0 line first), omega (arith, some), subst (λ (v : Fields). Means v o) (sym is) says.1)

      -- it finds none
      lost-it : m.command ≡ 1 → subscription_on z j.at_client m.p2 ≡ None → IsSeen new now a number t step s
      lost-it update none = look (under x.core.subscriptions named_g.0) refl
        where
          named_g : IsNamedIn x.names (On a (Subscribe number))
          named_g = subst (λ (v : Intent). IsNamedIn x.names v) meant ((known.quiet.quiet k j x on at opened).named t.place s up)

          stands : (d : Subscription) → under x.core.subscriptions named_g.0 ≡ Some d → stands_in d.stage ≡ true → IsSeen new now a number t step s
          stands d held_there it =
              let meaning = named-meant x.names x.core tidy (names j.client x at) named_g.0 d a number named_g.1 held_there in
              let under_sid = (known.sided.right k j on).read t.place a s (Subscribe number) up meant (λ e. cc) in
              let b = under_sid.3 in
              let sid : ℕ = sid_in s.message in
              elim ((known.sided.sides k j x on at opened).answered under_sid.0 sid a b.t b.r under_sid.2 b.told.0 b.told.2 b.told.3 (subst (λ (v : ℕ). At j.lists.up v b.r) (sym b.told.1) b.asked.0) b.asked.1) [
                | inl v ↦ elim (three-ways v.0 t.place) [
                  | inl before ↦
                      absurd (uncleared j (created k j on) (known.sided.right k j on).under (λ l r at_r. mine.flows.asked l r at_r) a under_sid.0 under_sid.1 sid t.place b (v.0, v.1, subst (λ (y : ℕ). y < v.0) b.told.1 v.2, before, v.4, v.5))
                  | inr (inl same) ↦
                      let one : v.1 ≡ s = At-one j.lists.up t.place v.1 s (subst (λ (y : ℕ). At j.lists.up y v.1) same v.4) up in
                      absurd (unlike-add s.message 12 refl (ap (λ (y : Sent). y.message.command) (sym one) ∙ v.5.0) (adds a number meant))
                  | inr (inr late) ↦ (let there_now = onward.up v.0 v.1 v.4 in inr (inr (v.0, v.1, late, At-within now.lists.up v.0 v.1 there_now, there_now, v.5)))
                ]
                | inr l ↦
                    let channel : d.channel ≡ l.0 = one-handle x.names d.channel l.0 meaning.0 (tidy.numbered l.0 (l.2).ch (l.2).there) (meaning.1 ∙ sym l.1) in
                    let lives : is_live_on z j.at_client d.channel ≡ true = subst (λ (v : Handle). is_live_on z j.at_client v ≡ true) (sym channel) (live-there x.core j.at_client l.0 sid l.2) in
                    let by_id : by_wire x.core.subscriptions (wire_of named_g.0) ≡ Some (named_g.0, d) = under-wire x.core.subscriptions named_g.0 d (mine.holds opened).subscriptions.few held_there in
                    let finds : subscription_on z j.at_client m.p2 ≡ Some named_g.0 = subst (λ (v : ℕ). subscription_on z j.at_client v ≡ Some named_g.0) (wire a number meant update named_g.0 named_g.1) (heard-found z j.at_client named_g.0 d by_id it lives) in
                    absurd (let e : ◌≡◌ {A = Option Handle} None (Some named_g.0) = sym none ∙ finds in cc)
              ]

          by : (d : Subscription) → under x.core.subscriptions named_g.0 ≡ Some d → (b : Bool) → stands_in d.stage ≡ b → IsSeen new now a number t step s
          by d held_there true it = stands d held_there it
          by d held_there false it = inr (inl (over-now number (named_g.0, On a (Subscribe number)) named_g.1 (λ e is_e.
              let same : ◌≡◌ {A = Option Subscription} (Some d) (Some e) = sym held_there ∙ is_e in
              let one : d ≡ e = cc in
              ap (λ (y : Subscription). stands_in y.stage) (sym one) ∙ it)))

          look : (o : Option Subscription) → under x.core.subscriptions named_g.0 ≡ o → IsSeen new now a number t step s
          look None gone = inr (inl (over-now number (named_g.0, On a (Subscribe number)) named_g.1 (λ e is_e. absurd (let same : ◌≡◌ {A = Option Subscription} None (Some e) = sym gone ∙ is_e in cc))))
          look (Some d) held_there = by d held_there (stands_in d.stage) refl

      go : m.command ≡ 1 → (o : Option Handle) → subscription_on z j.at_client m.p2 ≡ o → Updates z m o (record { core = f.core; sent = f.sent; notices = f.notices }) → IsSeen new now a number t step s
      go update (Some g) found effect = found-it g effect.0 (ap (λ (v : Effect). v.notices) effect.2)
      go update None found effect = lost-it update found

  -- ---- as it is told

  told-update : (about intent : Intent) (o : Outcome) (v : Notice) → Updated intent o ≡ line_of about x.names v → (g : Handle) × (out : Outcome) × (v ≡ notice.Update g out)
  told-update about intent o (notice.Update g out) e = (g, out, refl)
  told-update about intent o (notice.Live h) e = absurd cc
  told-update about intent o (notice.Lost h) e = absurd cc
  told-update about intent o (notice.Completed q out) e = absurd cc
  told-update about intent o (notice.SubscriptionEnded g st) e = absurd cc
  told-update about intent o (notice.WriteRefused h st) e = absurd cc

  -- an update that is told now was read now
  told-now : (intent : Intent) (o : Outcome) (y : List Line) → At new.client_logs now.lists.client y → At y step.logged (Updated intent o) → (g : Handle) × (out : Outcome) × (q : ℕ) × At f.notices q (notice.Update g out)
  told-now intent o y at_y line =
      let y_is : log ++ lines ≡ y = At-one new.client_logs now.lists.client (log ++ lines) y new_log at_y in
      let told : Line = Updated intent o in
      let at_line : At (log ++ lines) (length log) told = subst (λ (z : ℕ × List Line). At z.1 z.0 told) (λ i. (logged i, sym y_is i)) line in
      elim (At-parts log lines (length log) told at_line) [
        | inl old ↦ absurd (let within : length log < length log = At-within log (length log) told old in omega (arith, within))
        | inr fresh ↦
            let mapped = At-mapped (line_of (about_at j.lists (length j.lists.heard)) x.names) f.notices fresh.0 told fresh.2 in
            let says = told-update (about_at j.lists (length j.lists.heard)) intent o mapped.0 mapped.2 in
            (says.0, says.1, fresh.0, subst (λ (n : Notice). At f.notices fresh.0 n) says.2 mapped.1)
      ]

  used-clear : (ask : Ask) → ask ≡ Clear → IsUse ask → ⊥
  used-clear ask e uses_it = subst (λ (v : Ask). IsUse v) e uses_it

  subscribe-create : (a b number : ℕ) → On a (Subscribe number) ≡ On b Create → ⊥
  subscribe-create a b number e = cc

  -- The channel is live, and the EVENT_ADD is the last of its subscription: its SID
  -- was not cleared since.
  module _ (again : AllAgain w) (a number : ℕ) (meant : s.intent ≡ On a (Subscribe number)) (update : m.command ≡ 1) (g : Handle) (named_g : At x.names.subscriptions number (g, On a (Subscribe number))) (d : Subscription) (held_there : under x.core.subscriptions g ≡ Some d) (stands : stands_in d.stage ≡ true) where
    still : (e : Handle × Intent) → At x.names.subscriptions number e → IsOverBy x.core e.0 → ⊥
    still e at_e over =
        let same : e ≡ (g, On a (Subscribe number)) = At-one x.names.subscriptions number e (g, On a (Subscribe number)) at_e named_g in
        let handle : e.0 ≡ g = ap (λ (v : Handle × Intent). v.0) same in
        both_ways (stands_in d.stage) (over d (subst (λ (v : Handle). under x.core.subscriptions v ≡ Some d) (sym handle) held_there)) stands

    still-at : IsOverAt w j.lists.client number → ⊥
    still-at over = (let o = over j.client x at (sym (known.lives.same k j x on at opened)) in still o.0 o.1 o.2)

    not-cleared : (sid : ℕ) → IsLiveAs x.core.channels j.at_client d.channel sid → channel_number x.names d.channel ≡ a → IsClearedWithin j.lists.up (sid_in s.message) t.place (length j.lists.up) → ⊥
    not-cleared sid live number_is v =
        let lives = (known.sided.sides k j x on at opened).lives d.channel sid live in
        let b : IsCreatedBefore j.lists a lives.0 lives.1 sid (length j.lists.up) = subst (λ (c : ℕ). IsCreatedBefore j.lists c lives.0 lives.1 sid (length j.lists.up)) number_is lives.3 in
        let place : b.t.place ≡ lives.1 = b.told.1 in
        elim (three-ways t.place lives.1) [
          | inl before ↦ elim (At-or j.lists.heard lives.0) [
            | inr past ↦ (let lt : lives.0 < length j.lists.heard = lives.2 in omega (arith, lt, past))
            | inl read ↦ elim (again k j lives.0 a sid t.place number b.t read.0 b.r s on b.told.0 read.1 b.told.2 b.told.3 (subst (λ (y : ℕ). At j.lists.up y b.r) (sym place) b.asked.0) b.asked.1 up meant (omega (arith, before, place))) [
              | inl p ↦ (let after_it : b.t.place < p.0 = p.2 in none-later a number meant update g named_g p.0 a p.1 (omega (arith, after_it, before, place)) p.3 p.4)
              | inr (inl over) ↦ still-at over
              | inr (inr p) ↦ used-clear Clear refl (b.since p.0 p.1 Clear (subst (λ (y : ℕ). y < p.0) place p.2) (At-within j.lists.up p.0 p.1 p.3) p.3 p.4)
            ]
          ]
          | inr (inl same) ↦
              let one : s ≡ b.r = At-one j.lists.up lives.1 s b.r (subst (λ (y : ℕ). At j.lists.up y s) same up) b.asked.0 in
              subscribe-create a a number (sym meant ∙ ap (λ (y : Sent). y.intent) one ∙ b.asked.1)
          | inr (inr late) ↦
              let own_sid = (known.sided.right k j on).read t.place a s (Subscribe number) up meant (λ e. cc) in
              let c = own_sid.3 in
              let early : own_sid.1 < t.place = c.early in
              let within : t.place < length j.lists.up = At-within j.lists.up t.place s up in
              elim (three-ways own_sid.1 lives.1) [
                | inl first ↦ create-used Create refl (c.since lives.1 b.r Create first late b.asked.0 b.asked.1)
                | inr (inr next) ↦ create-used Create refl (b.since own_sid.1 c.r Create next (omega (arith, early, within)) c.asked.0 c.asked.1)
                | inr (inl same) ↦
                    let reply_is : own_sid.0 ≡ lives.0 = (created k j on).once own_sid.0 lives.0 (sid_in s.message) sid c.t b.t c.told.0 b.told.0 c.told.2 b.told.2 c.told.3 b.told.3 (c.told.1 ∙ same ∙ sym b.told.1) in
                    let t_is : c.t ≡ b.t = At-one j.lists.down lives.0 c.t b.t (subst (λ (y : ℕ). At j.lists.down y c.t) reply_is c.told.0) b.told.0 in
                    let sid_is : sid_in s.message ≡ sid = sym c.told.3.1 ∙ ap (λ (y : Told). y.message.p2) t_is ∙ b.told.3.1 in
                    let after_it : t.place < v.0 = v.2 in
                    uncleared j (created k j on) (known.sided.right k j on).under (λ l r at_r. mine.flows.asked l r at_r) a lives.0 lives.1 sid (length j.lists.up) b (v.0, v.1, omega (arith, late, after_it), v.3, v.4, (v.5.0, v.5.1 ∙ sid_is))
              ]
        ]

  ordered-now : AllAgain w → AllSeen w → (a number b l : ℕ) (v : Told) (y : List Line) (o : Outcome) → At new.client_logs now.lists.client y → At y step.logged (Updated (On a (Subscribe number)) o) → s.intent ≡ On a (Subscribe number) → l < length j.lists.heard → At j.lists.down l v → v.place ≡ t.place → v.cause ≡ Update b
      → IsBefore now y l (On a (Subscribe number)) v
  ordered-now again seen a number b l v y o at_y line meant lt at_v place cause =
      let y_is : log ++ lines ≡ y = At-one new.client_logs now.lists.client (log ++ lines) y new_log at_y in
      let says = told-now (On a (Subscribe number)) o y at_y line in
      let at_update : At f.notices says.2 (notice.Update says.0 says.1) = says.3 in
      let u = tells-held z j.at_client m (record { core = f.core; sent = f.sent; notices = f.notices }) does says.2 (notice.Update says.0 says.1) at_update in
      let meant_g : meant_by x.names.subscriptions says.0 ≡ On a (Subscribe number) = (own says.2 (notice.Update says.0 says.1) at_update).0 ∙ meant in
      let named_g = subscribed-at x.names x.core says.0 a number tidy meant_g in
      let found = heard-is z j.at_client m.p2 says.0 u.3 in
      let h_l = heard-at l lt in
      elim (seen k j l a number b v h_l.0 s on at_v h_l.1 cause (subst (λ (p : ℕ). At j.lists.up p s) (sym place) up) meant) [
        | inl r ↦
            let log_is : r.0 ≡ log = At-one w.client_logs x.life r.0 log (subst (λ (n : ℕ). At w.client_logs n r.0) (known.lives.same k j x on at opened) r.2) log_there in
            let here : At log (h_l.0).logged (Updated (On a (Subscribe number)) r.1) = subst (λ (n : List Line). At n (h_l.0).logged (Updated (On a (Subscribe number)) r.1)) log_is r.3 in
            (h_l.0, r.1, onward.heard l h_l.0 h_l.1, subst (λ (n : List Line). At n (h_l.0).logged (Updated (On a (Subscribe number)) r.1)) y_is (At-append log lines (h_l.0).logged (Updated (On a (Subscribe number)) r.1) here), r.4, r.5)
        | inr (inl over) ↦ absurd (still-at again a number meant u.1 says.0 named_g found.0 found.1 found.3 over)
        | inr (inr cleared) ↦
            let lives = heard-live z j.at_client m.p2 says.0 u.3 in
            let live = live-as x.core j.at_client (lives.0).channel lives.2 in
            let m_g = tidy.subscriptions says.0 lives.0 lives.1 in
            let number_is : channel_number x.names (lives.0).channel ≡ a = same-number (channel_number x.names (lives.0).channel) a (Subscribe m_g.0) (Subscribe number) (sym m_g.2 ∙ meant_g) in
            let stands : stands_in (lives.0).stage ≡ true = subst (λ (n : Subscription). stands_in n.stage ≡ true) (one-row found.0 lives.0 says.0 found.1 lives.1) found.3 in
            absurd (not-cleared again a number meant u.1 says.0 named_g lives.0 lives.1 stands live.0 live.1 number_is
            (cleared.0, cleared.1, subst (λ (n : ℕ). n < cleared.0) place cleared.2, cleared.3, cleared.4, cleared.5))
      ]
    where
      heard-at : (l : ℕ) → l < length j.lists.heard → (h : Step) × At j.lists.heard l h
      heard-at l lt = elim (At-or j.lists.heard l) [ inl there_it ↦ there_it | inr past ↦ absurd (omega (arith, lt, past)) ]

      one-row : (d e : Subscription) (g : Handle) → under x.core.subscriptions g ≡ Some d → under x.core.subscriptions g ≡ Some e → d ≡ e
      one-row d e g a b = (let same : ◌≡◌ {A = Option Subscription} (Some d) (Some e) = sym a ∙ b in cc)

  pub ordered-any : AllAgain w → AllSeen w → (b l : ℕ) (intent : Intent) (v : Told) (y : List Line) (o : Outcome) → At new.client_logs now.lists.client y → At y step.logged (Updated intent o) → s.intent ≡ intent → l < length j.lists.heard → At j.lists.down l v → v.place ≡ t.place → v.cause ≡ Update b
      → IsBefore now y l intent v
  ordered-any again seen b l intent v y o at_y line meant lt at_v place cause =
      let says = told-now intent o y at_y line in
      let u = tells-held z j.at_client m (record { core = f.core; sent = f.sent; notices = f.notices }) does says.2 (notice.Update says.0 says.1) says.3 in
      let found = heard-is z j.at_client m.p2 says.0 u.3 in
      let m_g = tidy.subscriptions says.0 found.0 found.1 in
      let form : intent ≡ On (channel_number x.names (found.0).channel) (Subscribe m_g.0) = sym meant ∙ sym (own says.2 (notice.Update says.0 says.1) says.3).0 ∙ m_g.2 in
      subst (λ (q : Intent). At y step.logged (Updated q o) → s.intent ≡ q → IsBefore now y l q v) (sym form)
      (λ here asks. ordered-now again seen (channel_number x.names (found.0).channel) m_g.0 b l v y o at_y here asks lt at_v place cause) line meant
