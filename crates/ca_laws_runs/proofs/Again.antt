-- As a channel is created again on a circuit, its subscriptions that stand are added again after
-- that CREATE_CHAN; those that are not are over, or the channel was cleared.
use Rattle.std.proofs.Common.{◌≡◌, ℕ, ◌+◌, ◌<◌, ◌≤◌, ◌⊎◌, inl, inr, Bool, true, false, ◌&&◌, cond, eqb, List, [], length, Option, Some, None, refl, sym, ap, ◌∙◌, subst, arith}
use Rattle.std.specs.Prelude.{filter, map, slice_set}
use Rattle.std.proofs.lemmas.Bool.{and_from, both_ways, eq-eqb}
use Rattle.ca_text.specs.declared.command.Command.TheVariants as command
use Rattle.ca_text.specs.Place.{At}
use Rattle.ca_text.proofs.Places.{At-after, At-last, At-map, At-one, At-or, At-within}
use Rattle.ca_arena.specs.declared.handle.Handle.{Handle}
use Rattle.ca_ids.specs.Table.{held, same_handle, under}
use Rattle.ca_monitor.specs.Subscriptions.{Subscription, is_to, standing_to, stands_in}
use Rattle.ca_wire.specs.Fields.{Fields}
use Rattle.ca_model.specs.Answers.{Notice, Sending}
use Rattle.ca_model.specs.Client.{Client, Clearing, Connecting, Creating, Doomed, Leaving, Live, Phase, channel_on}
use Rattle.ca_model.specs.ClientCalls.{event_add_sent}
use Rattle.ca_model.specs.ClientEnds.{after_taking}
use Rattle.ca_model.specs.Hears.{Effect, Hears, created, event_adds}
use Rattle.ca_model.specs.History.{Clear, Create, Intent, On, Reply, Sent, Step, Subscribe, Told}
use Rattle.ca_model.specs.Speech.{Cid, Creates, Is, Speaks}
use Rattle.ca_model.proofs.Handles.{same-itself}
use Rattle.ca_model.proofs.Standings.{channel-on}
use Rattle.ca_model.proofs.Tables.{under-held}
use Rattle.ca_model.specs.ClientEvents.{about_at, channel_number, heard_in, lines_of, sent_on}
use Rattle.ca_model.specs.World.{ClientSide, Joined, Names, World, log_length}
use Rattle.ca_laws_parts.proofs.Marks.{filter-at}
use Rattle.ca_laws_parts.specs.Kept.{kept}
use Rattle.ca_laws_parts.specs.Circuit.{HeldOn, sent_to, stamped}
use Rattle.ca_laws_parts.proofs.Midway.{set-here}
use Rattle.ca_laws_runs.specs.Quiet.{IsNamedIn, Tidy}
use Rattle.ca_laws_runs.proofs.Found.{found-intent}
use Rattle.ca_laws_runs.proofs.OnceCalls.{IsOverBy}
use Rattle.ca_laws_runs.proofs.OrderGrows.{GoesOn}
use Rattle.ca_laws_runs.proofs.OrderKeeps.{IsHearing, hear-lines, hear-step}
use Rattle.ca_laws_runs.proofs.Phases.{same-number}
use Rattle.ca_laws_runs.proofs.Says.{one-handle}
use Rattle.ca_laws_runs.proofs.Spent.{Known}
use Rattle.ca_laws_runs.proofs.ToldCreated.{AllToldLive, creates-so}
use Rattle.ca_laws_runs.proofs.ToldGrows.{Onward, WorldsOn}
use Rattle.ca_laws_runs.proofs.Using.{AllNamedOnce, ClientsUse, IsOverAt, named-meant, over-on}

-- ---- what is said of a circuit

-- After this place the subscription was added, or the channel was cleared; or the
-- subscription is over.
abbrev pub IsAgain : World → Joined → (a number place : ℕ) → Type 0
IsAgain w c a number place =
    ((p : ℕ) × (r : Sent) × (place < p) × At c.lists.up p r × (r.intent ≡ On a (Subscribe number)))
    ⊎ (IsOverAt w c.lists.client number ⊎ ((p : ℕ) × (r : Sent) × (place < p) × At c.lists.up p r × (r.intent ≡ On a Clear)))

-- So it is after each CREATE_CHAN whose reply was read, of each subscription that was added
-- on the channel before.
abbrev pub AllAgain : World → Type 0
AllAgain w = (n : ℕ) (c : Joined) (i a sid k number : ℕ) (t : Told) (h : Step) (s q : Sent) → At w.circuits n c → At c.lists.down i t → At c.lists.heard i h → t.cause ≡ Reply → Creates t.message sid → At c.lists.up t.place s → s.intent ≡ On a Create
    → At c.lists.up k q → q.intent ≡ On a (Subscribe number) → k < t.place → IsAgain w c a number t.place

-- ---- what was read stays so

-- What was read on a circuit, and what that was about, was there before.
pub record Was (c d : Joined) (i : ℕ) : Type 0 where
  pub goes : Onward c d
  pub told : (m : ℕ) (t : Told) → m ≤ i → At d.lists.down m t → At c.lists.down m t × (t.place < length c.lists.up)
  pub said : (k : ℕ) (s : Sent) → k < length c.lists.up → At d.lists.up k s → At c.lists.up k s

module _ (w new : World) (known : Known w) (goes : WorldsOn w new) (uses : ClientsUse w new) where
  pub was-there : (n : ℕ) (c d : Joined) (i : ℕ) (h : Step) → At w.circuits n c → At new.circuits n d → At c.lists.heard i h → Was c d i
  was-there n c d i h on at_d at_h =
      let r = goes.circuits n c on in
      let o : Onward c d = subst (λ (v : Joined). Onward c v) (At-one new.circuits n r.0 d r.1 at_d) r.2 in
      let holds = known.held n c on in
      let joined : holds.0 ≡ c = At-one w.circuits n holds.0 c holds.2 on in
      let mine : HeldOn (kept w n) holds.1.names holds.1.core c = subst (λ (v : Joined). HeldOn (kept w n) holds.1.names holds.1.core v) joined holds.4 in
      let within : length c.lists.heard ≤ length c.lists.down = mine.flows.within in
      let early : i < length c.lists.heard = At-within c.lists.heard i h at_h in
      record {
        goes = o;
        told = λ m t le at_t. elim (At-or c.lists.down m) [
          | inl old ↦ (let was : At c.lists.down m t = subst (λ (v : Told). At c.lists.down m v) (At-one d.lists.down m old.0 t (o.down m old.0 old.1) at_t) old.1 in (was, mine.flows.about m t was))
          | inr past ↦ absurd (omega (arith, past, early, within, le))
        ];
        said = λ k s lt at_s. elim (At-or c.lists.up k) [
          | inl old ↦ subst (λ (v : Sent). At c.lists.up k v) (At-one d.lists.up k old.0 s (o.up k old.0 old.1) at_s) old.1
          | inr past ↦ absurd (omega (arith, past, lt))
        ];
      }

  pub over-there : (n : ℕ) (c d : Joined) (number : ℕ) → At w.circuits n c → Onward c d → IsOverAt w c.lists.client number → IsOverAt new d.lists.client number
  over-there n c d number on o over = (let log = known.once.lives n c on in subst (λ (v : ℕ). IsOverAt new v number) (sym o.client) (over-on w new uses c.lists.client number log.0 log.1 over))

  pub again-old : AllAgain w → (n : ℕ) (c d : Joined) (i a sid k number : ℕ) (t : Told) (h : Step) (s q : Sent) → At w.circuits n c → At new.circuits n d → At d.lists.down i t → At c.lists.heard i h → t.cause ≡ Reply → Creates t.message sid → At d.lists.up t.place s → s.intent ≡ On a Create
      → At d.lists.up k q → q.intent ≡ On a (Subscribe number) → k < t.place → IsAgain new d a number t.place
  again-old all n c d i a sid k number t h s q on at_d at_t at_h reply creates at_s meant at_q asks lt =
      let o = was-there n c d i h on at_d at_h in
      let t_c = o.told i t (omega arith) at_t in
      let early : t.place < length c.lists.up = t_c.1 in
      elim (all n c i a sid k number t h s q on t_c.0 at_h reply creates (o.said t.place s early at_s) meant (o.said k q (omega (arith, lt, early)) at_q) asks lt) [
        | inl p ↦ inl (p.0, p.1, p.2, o.goes.up p.0 p.1 p.3, p.4)
        | inr (inl over) ↦ inr (inl (over-there n c d number on o.goes over))
        | inr (inr p) ↦ inr (inr (p.0, p.1, p.2, o.goes.up p.0 p.1 p.3, p.4))
      ]

-- ---- what is sent on a circuit

pub sent-there : (i : ℕ) (n : Names) (sent : List Sending) (a : Joined) (p : ℕ) (s : Sending) → a.client ≡ i → a.lists.client_open ≡ true → s.circuit ≡ a.at_client → At sent p s → (q : ℕ) × At (sent_on i n sent a) q (stamped n s)
sent-there i n sent a p s mine opened on at =
    go (eqb a.client i && a.lists.client_open) (and_from (eqb a.client i) a.lists.client_open (eq-eqb a.client i mine) opened)
  where
    go : (b : Bool) → b ≡ true → (q : ℕ) × At (cond b (map (stamped n) (filter (λ (z : Sending). same_handle z.circuit a.at_client) sent)) []) q (stamped n s)
    go true e =
        let f = filter-at (λ (z : Sending). same_handle z.circuit a.at_client) sent p s at (subst (λ (h : Handle). same_handle s.circuit h ≡ true) on (same-itself s.circuit)) in
        (f.0, At-map (stamped n) (filter (λ (z : Sending). same_handle z.circuit a.at_client) sent) f.0 s f.1)
    go false e = absurd (both_ways false refl e)

-- ---- the reply that is read

module _ (w new : World) (k : ℕ) (j : Joined) (x : ClientSide) (on : At w.circuits k j) (at : At w.clients j.client x) (opened : j.lists.client_open ≡ true) (f : IsHearing w new k j x)
    (known : Known w) (goes : WorldsOn w new) (uses : ClientsUse w new) (names : AllNamedOnce w) (m : Fields) (rest : List ℕ) (t : Told) (s : Sent) (there : At j.lists.down (length j.lists.heard) t) (up : At j.lists.up t.place s) (is : t.message ≡ m)
    (does : Hears (after_taking j.at_client rest x.core) j.at_client m (record { core = f.core; sent = f.sent; notices = f.notices })) (now : Joined) (at_now : At new.circuits k now) (goes_on : GoesOn (heard_in (hear-step w new k j x on at f) j) now) where
  mine : HeldOn (kept w k) x.names x.core j
  mine =
      let holds = known.held k j on in
      let joined : holds.0 ≡ j = At-one w.circuits k holds.0 j holds.2 on in
      let holder : holds.1 ≡ x = At-one w.clients j.client holds.1 x (subst (λ (z : Joined). At w.clients z.client holds.1) joined holds.3) at in
      subst (λ (v : Joined × ClientSide). HeldOn (kept w k) v.1.names v.1.core v.0) (λ i. (joined i, holder i)) holds.4

  abbrev step : Step
  step = hear-step w new k j x on at f

  tidy : Tidy x.names x.core
  tidy = known.quiet.tidy j.client x at

  onward : Onward j now
  onward = (let o = goes.circuits k j on in subst (λ (v : Joined). Onward j v) (At-one new.circuits k o.0 now o.1 at_now) o.2)

  -- a subscription that is over by this client's core
  pub over-now : (number : ℕ) (g : Handle × Intent) → At x.names.subscriptions number g → IsOverBy x.core g.0 → IsOverAt new now.lists.client number
  over-now number g named over = over-there w new known goes uses k j now number on onward (λ i y at_y life.
      let same : i ≡ j.client = known.once.apart i j.client y x at_y at (life ∙ known.lives.same k j x on at opened) in
      let y_is : y ≡ x = At-one w.clients j.client y x (subst (λ (v : ℕ). At w.clients v y) same at_y) at in
      subst (λ (v : ClientSide). (g : Handle × Intent) × At v.names.subscriptions number g × IsOverBy v.core g.0) (sym y_is) (g, named, over))

  module _ (a sid l number : ℕ) (q : Sent) (reply : t.cause ≡ Reply) (creates : Creates t.message sid) (meant : s.intent ≡ On a Create) (at_q : At j.lists.up l q) (asks : q.intent ≡ On a (Subscribe number)) where
    creation : Is command.CreateChannel m
    creation = ap (λ (v : Fields). v.command) (sym is) ∙ creates.0

    speaks : Speaks t.message (Cid m.p1)
    speaks = inl (inl (inl creates.0, ap (λ (v : Fields). v.p1) is))

    added : (h : Handle) (rights : ℕ) → channel_on x.core j.at_client m.p1 ≡ Some (h, Creating rights) → f.sent ≡ event_adds j.at_client m.p2 h (after_taking j.at_client rest x.core) → IsAgain new now a number t.place
    added h rights at_p sent = go (under x.core.subscriptions named.0) refl
      where
        named : IsNamedIn x.names (On a (Subscribe number))
        named = subst (λ (v : Intent). IsNamedIn x.names v) asks ((known.quiet.quiet k j x on at opened).named l q at_q)

        number_is : channel_number x.names h ≡ a
        number_is =
            let r = found-intent (kept w k) x.names x.core j.at_client j.lists t s m.p1 h (Creating rights) (mine.holds opened).channels mine.flows there up speaks at_p refl in
            same-number (channel_number x.names h) a r.0 Create (sym r.1 ∙ meant)

        by : (d : Subscription) → under x.core.subscriptions named.0 ≡ Some d → (b : Bool) → stands_in d.stage ≡ b → IsAgain new now a number t.place
        by d held_there false over = inr (inl (over-now number (named.0, On a (Subscribe number)) named.1 (λ e is_e.
            let same : ◌≡◌ {A = Option Subscription} (Some d) (Some e) = sym held_there ∙ is_e in
            let one : d ≡ e = cc in
            ap (λ (z : Subscription). stands_in z.stage) (sym one) ∙ over)))
        by d held_there true stands =
            let z : Client = after_taking j.at_client rest x.core in
            let ch = channel-on x.core j.at_client m.p1 h (Creating rights) at_p in
            let meaning = named-meant x.names x.core tidy (names j.client x at) named.0 d a number named.1 held_there in
            let channel : d.channel ≡ h = one-handle x.names d.channel h meaning.0 (tidy.numbered h ch.0 ch.1) (meaning.1 ∙ sym number_is) in
            let row = under-held x.core.subscriptions named.0 d held_there in
            let passes : (is_to h d && stands_in d.stage) ≡ true = and_from (is_to h d) (stands_in d.stage) (subst (λ (v : Handle). same_handle d.channel v ≡ true) channel (same-itself d.channel)) stands in
            let first = filter-at (λ (e : Handle × Subscription). is_to h e.1 && stands_in e.1.stage) (held x.core.subscriptions) row.0 (named.0, d) row.1 passes in
            let add : Sending = event_add_sent j.at_client m.p2 named.0 d in
            let placed : At f.sent first.0 add = subst (λ (v : List Sending). At v first.0 add) (sym sent) (At-map (λ (e : Handle × Subscription). event_add_sent j.at_client m.p2 e.0 e.1) (standing_to h z.subscriptions) first.0 (named.0, d) first.1) in
            let mid : Joined = heard_in step j in
            let d_now : Joined = sent_to j.client x.names f.sent mid in
            let at_d : At new.circuits k d_now = subst (λ (v : World). At v.circuits k d_now) (sym f.is) (At-map (sent_to j.client x.names f.sent) (slice_set w.circuits k mid) k mid (set-here w.circuits k j mid on)) in
            let said = sent-there j.client x.names f.sent mid first.0 add refl opened refl placed in
            let there_now : At d_now.lists.up (length j.lists.up + said.0) (stamped x.names add) = At-after j.lists.up (sent_on j.client x.names f.sent mid) said.0 (stamped x.names add) said.1 in
            let within : t.place < length j.lists.up = At-within j.lists.up t.place s up in
            inl (
              length j.lists.up + said.0,
              stamped x.names add,
              omega (arith, within),
              subst (λ (v : Joined). At v.lists.up (length j.lists.up + said.0) (stamped x.names add)) (At-one new.circuits k d_now now at_d at_now) there_now,
              meaning.2,
            )

        go : (o : Option Subscription) → under x.core.subscriptions named.0 ≡ o → IsAgain new now a number t.place
        go None none = inr (inl (over-now number (named.0, On a (Subscribe number)) named.1 (λ e is_e. absurd (let gone : ◌≡◌ {A = Option Subscription} None (Some e) = sym none ∙ is_e in cc))))
        go (Some d) held_there = by d held_there (stands_in d.stage) refl

    pub again-now : AllToldLive new → IsAgain new now a number t.place
    again-now told_new = elim (told_new k now at_now (length j.lists.heard) a sid t step s (goes_on.tells (length j.lists.heard) t there) last reply creates (goes_on.said t.place s up) meant) [
      | inr cleared ↦ inr (inr (cleared.0, cleared.1, cleared.2, cleared.3, cleared.4))
      | inl said ↦ by (channel_on x.core j.at_client m.p1) refl (creates-so (after_taking j.at_client rest x.core) j.at_client m (record { core = f.core; sent = f.sent; notices = f.notices }) does creation) said.3
    ]
      where
        last : At now.lists.heard (length j.lists.heard) step
        last = subst (λ (v : List Step). At v (length j.lists.heard) step) (sym goes_on.heard) (At-last j.lists.heard step)

        silent : f.notices ≡ [] → step.logged < step.after → IsAgain new now a number t.place
        silent none lt =
            let empty : length (hear-lines w new k j x on at f) ≡ 0 = ap (λ (v : List Notice). length (lines_of (about_at j.lists (length j.lists.heard)) x.names v)) none in
            let more : log_length x.life w.client_logs < log_length x.life w.client_logs + length (hear-lines w new k j x on at f) = lt in
            absurd (omega (arith, empty, more))

        by : (o : Option (Handle × Phase)) → channel_on x.core j.at_client m.p1 ≡ o → record { core = f.core; sent = f.sent; notices = f.notices } ≡ created (after_taking j.at_client rest x.core) j.at_client m o → step.logged < step.after → IsAgain new now a number t.place
        by (Some (h, Creating rights)) at_p e lt = added h rights at_p (ap (λ (v : Effect). v.sent) e)
        by (Some (h, Connecting)) at_p e lt = silent (ap (λ (v : Effect). v.notices) e) lt
        by (Some (h, Live native rights)) at_p e lt = silent (ap (λ (v : Effect). v.notices) e) lt
        by (Some (h, Leaving)) at_p e lt = silent (ap (λ (v : Effect). v.notices) e) lt
        by (Some (h, Clearing)) at_p e lt = silent (ap (λ (v : Effect). v.notices) e) lt
        by (Some (h, Doomed)) at_p e lt = silent (ap (λ (v : Effect). v.notices) e) lt
        by None at_p e lt = silent (ap (λ (v : Effect). v.notices) e) lt
