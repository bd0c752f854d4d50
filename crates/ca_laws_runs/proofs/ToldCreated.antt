-- Each reply by which a channel was created is told as it is read, or the channel is cleared, over
-- every event and run.
use Rattle.std.proofs.Common.{◌≡◌, ℕ, suc, ◌+◌, ◌<◌, ◌≤◌, ◌⊎◌, inl, inr, true, false, List, [], ◌∷◌, ◌++◌, length, Option, Some, None, refl, sym, ap, ◌∙◌, subst, arith}
use Rattle.std.specs.Prelude.{option_and_then, option_map, slice_get, slice_set, unwrap_or}
use Rattle.std.specs.List.{FoldsTo}
use Rattle.std.proofs.lemmas.Bool.{both_ways}
use Rattle.ca_text.specs.declared.command.Command.TheVariants as command
use Rattle.ca_text.specs.Limits.{arena_slots}
use Rattle.ca_text.specs.Place.{At}
use Rattle.ca_text.proofs.Places.{At-after, At-append, At-map, At-mapped, At-one, At-or, At-set, At-snoc, At-within}
use Rattle.ca_arena.specs.declared.handle.Handle.{Handle}
use Rattle.ca_dbr.specs.declared.value.Outcome.TheVariants as outcome
use Rattle.ca_ids.specs.Table.{by_wire, under}
use Rattle.ca_ids.specs.Wire.{wire_of}
use Rattle.ca_wire.specs.Fields.{Fields}
use Rattle.ca_model.specs.Answers.{Notice, Sending}
use Rattle.ca_model.specs.Answers as notice
use Rattle.ca_model.specs.Client as client
use Rattle.ca_model.specs.Client.{Channel, Client, Clearing, Connecting, Creating, Doomed, Leaving, Live, Phase, channel_on, is_on_in, phase_on}
use Rattle.ca_model.specs.ClientCalls.{clear_sent}
use Rattle.ca_model.specs.ClientEnds.{after_taking}
use Rattle.ca_model.specs.Hears.{Effect, Hears, created}
use Rattle.ca_model.specs.Hears as hears
use Rattle.ca_model.specs.History.{Ask, Circuit, Clear, Create, Line, Noticed, On, Reply, Sent, Step, Told}
use Rattle.ca_model.specs.Speech.{Cid, Creates, Is, Speaks}
use Rattle.ca_model.proofs.Standings.{channel-on}
use Rattle.ca_model.proofs.Tables.{under-wire}
use Rattle.ca_model.specs.ClientEvents.{about_at, channel_number, heard_in, lines_of, sent_on}
use Rattle.ca_model.specs.Events.{Event}
use Rattle.ca_model.specs.Events as event
use Rattle.ca_model.specs.Runs.{AreEvents, Happens, Runs, StopsAt, clients_below}
use Rattle.ca_model.specs.ServerEvents.{StepHandles, handled_at}
use Rattle.ca_model.specs.World.{ClientSide, IsSetting, Joined, ServerSide, Setting, World, circuit_of, log_length, opening, told, with_circuit}
use Rattle.ca_laws_parts.proofs.Causes.{runs-caused}
use Rattle.ca_laws_parts.proofs.ServerSpeaking.{runs-hear}
use Rattle.ca_laws_parts.specs.Flows.{Awaits, IsPending}
use Rattle.ca_laws_parts.specs.Held.{is_asked}
use Rattle.ca_laws_parts.specs.Kept.{kept}
use Rattle.ca_laws_parts.specs.Circuit.{HeldOn, sent_to, stamped}
use Rattle.ca_laws_parts.proofs.WritesLists.{none_at}
use Rattle.ca_laws_parts.proofs.Midway.{set-here}
use Rattle.ca_model.proofs.Thinner.{three-ways}
use Rattle.ca_laws_runs.specs.Causes.{AllComeAfter}
use Rattle.ca_laws_runs.specs.Created.{AllCreated}
use Rattle.ca_laws_runs.specs.Held.{AllCircuitsHeld}
use Rattle.ca_laws_runs.specs.Quiet.{IsBeingCleared}
use Rattle.ca_laws_runs.specs.ToldParts.{AreToldLive, CreationsAreTold, IsToldLive}
use Rattle.ca_laws_runs.specs.Under.{IsUse}
use Rattle.ca_laws_runs.proofs.CauseKeeps.{run-after}
use Rattle.ca_laws_runs.proofs.Created.{reached-created}
use Rattle.ca_laws_runs.proofs.Found.{found-intent}
use Rattle.ca_laws_runs.proofs.Hearing.{others, unlike}
use Rattle.ca_laws_runs.proofs.Joint.{are-snoc, folds-snoc, run-held, run-tells}
use Rattle.ca_laws_runs.proofs.LostRuns.{known-runs}
use Rattle.ca_laws_runs.proofs.OnceSent.{there-sent}
use Rattle.ca_laws_runs.proofs.OnceWorld.{logs-grown}
use Rattle.ca_laws_runs.proofs.OrderGrows.{GoesOn, Grown, each-event, step-grown, ticks-grown}
use Rattle.ca_laws_runs.proofs.OrderKeeps.{IsHearing, IsMade, begun-grown, begun-mid, did-after, did-grown, did-step, hear-grown, hear-lines, hear-step, hearing-or, made-or}
use Rattle.ca_laws_runs.proofs.Phases.{same-number}
use Rattle.ca_laws_runs.proofs.Replied.{reached-answer}
use Rattle.ca_laws_runs.proofs.Spent.{Known}
use Rattle.ca_laws_runs.proofs.ToldGrows.{Onward, WorldsOn, event-on, on-grown}
use Rattle.ca_laws_runs.proofs.ToldRemoval.{run-removals}
use Rattle.ca_laws_runs.proofs.ToldSteps.{after, next}

-- ---- what was told stays so

-- So it is on each circuit.
abbrev pub AllToldLive : World → Type 0
AllToldLive w = (n : ℕ) (c : Joined) → At w.circuits n c → AreToldLive (told w) c.lists

-- what was read before
carry : (w new : World) (c d : Joined) → WorldsOn w new → Onward c d → length c.lists.heard ≤ length c.lists.down → ((j : ℕ) (t : Told) → At c.lists.down j t → t.place < length c.lists.up) → (i a sid : ℕ) (t : Told) (h : Step) (s : Sent) → At d.lists.down i t → At c.lists.heard i h → t.cause ≡ Reply → Creates t.message sid
    → At d.lists.up t.place s → s.intent ≡ On a Create → AreToldLive (told w) c.lists → IsToldLive (told new) d.lists a t h
carry w new c d on o within about i a sid t h s at_t at_h reply creates at_s meant all =
    let lt : i < length c.lists.heard = At-within c.lists.heard i h at_h in
    elim (At-or c.lists.down i) [
      | inr past ↦ absurd (omega (arith, lt, past, within))
      | inl old ↦
          let t_is : old.0 ≡ t = At-one d.lists.down i old.0 t (o.down i old.0 old.1) at_t in
          let was : At c.lists.down i t = subst (λ (v : Told). At c.lists.down i v) t_is old.1 in
          elim (At-or c.lists.up t.place) [
            | inr past ↦ absurd (let early : t.place < length c.lists.up = about i t was in omega (arith, early, past))
            | inl sent ↦
                let s_is : sent.0 ≡ s = At-one d.lists.up t.place sent.0 s (o.up t.place sent.0 sent.1) at_s in
                elim (all i a sid t h s was at_h reply creates (subst (λ (v : Sent). At c.lists.up t.place v) s_is sent.1) meant) [
                  | inl said ↦
                      let more = on.logs c.lists.client said.0 said.1 in
                      inl (said.0 ++ more.0, subst (λ (l : ℕ). At new.client_logs l (said.0 ++ more.0)) (sym o.client) more.1, At-append said.0 more.0 h.logged (Noticed (On a Create) outcome.Done) said.2, said.3)
                  | inr cleared ↦ inr (cleared.0, cleared.1, cleared.2, o.up cleared.0 cleared.1 cleared.3, cleared.4)
                ]
          ]
    ]

-- Each circuit was there and the same was read on it, or nothing was read on it, or
-- what was read is told.
abbrev pub ReadsSo : (w new : World) → Type 0
ReadsSo w new = (n : ℕ) (d : Joined) → At new.circuits n d → ((c : Joined) × At w.circuits n c × (d.lists.heard ≡ c.lists.heard)) ⊎ ((d.lists.heard ≡ []) ⊎ AreToldLive (told new) d.lists)

-- Nothing was read on it.
abbrev pub ReadsNone : (w new : World) → Type 0
ReadsNone w new = (n : ℕ) (d : Joined) → At new.circuits n d → ((c : Joined) × At w.circuits n c × (d.lists.heard ≡ c.lists.heard)) ⊎ (d.lists.heard ≡ [])

reads-so : (w new : World) → ReadsNone w new → ReadsSo w new
reads-so w new none n d at = elim (none n d at) [ inl old ↦ inl old | inr fresh ↦ inr (inl fresh) ]

pub none-grown : (w new : World) → Grown w new → ReadsNone w new
none-grown w new g n d at = (let c = g.back n d at in inl (c.0, c.1, c.2.heard))

pub none-handled : (w new : World) (k : ℕ) (j : Joined) (y : ServerSide) → At w.circuits k j → StepHandles w k j y new → ReadsNone w new
none-handled w new k j y on f = subst (λ (z : World). ReadsNone w z) (sym f.leaves) (go (slice_get after_did.circuits k) refl)
  where
    after_did : World
    after_did = did-after w new k j y on f

    step : Step
    step = did-step w new k j y on f

    go : (o : Option Joined) → slice_get after_did.circuits k ≡ o → ReadsNone w (unwrap_or (option_map (λ (c : Joined). with_circuit k (handled_at (length j.lists.handled) step (f.steps.0).replies c) after_did) o) after_did)
    go None is = none-grown w after_did (did-grown w new k j y on f)
    go (Some c) is = λ n d at. elim (At-set after_did.circuits k (handled_at (length j.lists.handled) step (f.steps.0).replies c) n d at) [
      | inr old ↦ (let b = (did-grown w new k j y on f).back n d old.0 in inl (b.0, b.1, b.2.heard))
      | inl own ↦
          let b = (did-grown w new k j y on f).back k c is in
          inl (b.0, subst (λ (m : ℕ). At w.circuits m b.0) (sym own.0) b.1, ap (λ (z : Joined). z.lists.heard) own.1 ∙ b.2.heard)
    ]

pub so-grown : (w new : World) → Grown w new → ReadsSo w new
so-grown w new g = reads-so w new (none-grown w new g)

so-hearing : (w new : World) (k : ℕ) (j : Joined) (x : ClientSide) (on : At w.circuits k j) (at : At w.clients j.client x) (f : IsHearing w new k j x) → ((d : Joined) → At new.circuits k d → AreToldLive (told new) d.lists) → ReadsSo w new
so-hearing w new k j x on at f own n d there =
    let c = (hear-grown w new k j x on at f).back n d there in
    elim (At-set w.circuits k (heard_in (hear-step w new k j x on at f) j) n c.0 c.1) [
      | inr old ↦ inl (c.0, old.0, c.2.heard)
      | inl here ↦ inr (inr (own d (subst (λ (m : ℕ). At new.circuits m d) here.0 there)))
    ]

pub none-made : (w new : World) (i : ℕ) (x : ClientSide) (at : At w.clients i x) (f : IsMade w new i x) → ReadsNone w new
none-made w new i x at f n d there =
    let c = (f.goes).back n d there in
    elim (At-snoc w.circuits f.c n c.0 (subst (λ (l : List Joined). At l n c.0) f.circuits c.1)) [
      | inl old ↦ inl (c.0, old, c.2.heard)
      | inr last ↦ inr (c.2.heard ∙ ap (λ (z : Joined). z.lists.heard) last.1 ∙ f.heard)
    ]

pub told-on : (w new : World) → AllCircuitsHeld w → WorldsOn w new → ReadsSo w new → AllToldLive w → AllToldLive new
told-on w new held on so all n d at = elim (so n d at) [
  | inr (inr own) ↦ own
  | inr (inl none) ↦ λ i a sid t h s at_t at_h reply creates at_s meant. absurd (none_at i h (subst (λ (l : List Step). At l i h) none at_h))
  | inl old ↦
      let h_on = held n old.0 old.1 in
      let joined : h_on.0 ≡ old.0 = At-one w.circuits n h_on.0 old.0 h_on.2 old.1 in
      let mine : HeldOn (kept w n) h_on.1.names h_on.1.core old.0 = subst (λ (v : Joined). HeldOn (kept w n) h_on.1.names h_on.1.core v) joined h_on.4 in
      let o = on.circuits n old.0 old.1 in
      let goes : Onward old.0 d = subst (λ (v : Joined). Onward old.0 v) (At-one new.circuits n o.0 d o.1 at) o.2 in
      λ i a sid t h s at_t at_h reply creates at_s meant.
      carry w new old.0 d on goes mine.flows.within mine.flows.about i a sid t h s at_t (subst (λ (l : List Step). At l i h) old.2 at_h) reply creates at_s meant (all n old.0 old.1)
]

-- ---- the reply that is read

-- what is asked on the circuit is found by its CID
pub on-channel : (x : Client) (on h : Handle) (cid : ℕ) (ch : Channel) → length x.channels ≤ arena_slots → under x.channels h ≡ Some ch → wire_of h ≡ cid → is_on_in is_asked on ch ≡ true → (p : Phase) × (channel_on x on cid ≡ Some (h, p)) × (is_asked p ≡ true)
on-channel x on h cid ch few there wire here = by (phase_on on ch.standing) refl here
  where
    found : by_wire x.channels cid ≡ Some (h, ch)
    found = subst (λ (n : ℕ). by_wire x.channels n ≡ Some (h, ch)) wire (under-wire x.channels h ch few there)

    by : (o : Option Phase) → phase_on on ch.standing ≡ o → unwrap_or (option_map is_asked o) false ≡ true → (p : Phase) × (channel_on x on cid ≡ Some (h, p)) × (is_asked p ≡ true)
    by None is asked = absurd (both_ways false refl asked)
    by (Some p) is asked = (
      p,
      ap (λ (o : Option (Handle × Channel)). option_and_then (λ (e : Handle × Channel). option_map (λ (q : Phase). (e.0, q)) (phase_on on e.1.standing)) o) found ∙ ap (λ (o : Option Phase). option_map (λ (q : Phase). (h, q)) o) is,
      asked,
    )

-- what it does
pub creates-so : (x : Client) (c : Handle) (m : Fields) (e : Effect) → Hears x c m e → Is command.CreateChannel m → e ≡ created x c m (channel_on x c m.p1)
creates-so x c m e (hears.CreateChannel is does) z = does
creates-so x c m e (hears.Search is d there finds) z = absurd (unlike m 6 refl is z)
creates-so x c m e (hears.AccessRights is does) z = absurd (unlike m 22 refl is z)
creates-so x c m e (hears.CreateChannelFail is does) z = absurd (unlike m 26 refl is z)
creates-so x c m e (hears.ClearChannel is does) z = absurd (unlike m 12 refl is z)
creates-so x c m e (hears.ServerDisconnect is does) z = absurd (unlike m 27 refl is z)
creates-so x c m e (hears.Reply is does) z = absurd (elim is [ inl reads ↦ unlike m 15 refl reads z | inr puts ↦ unlike m 19 refl puts z ])
creates-so x c m e (hears.Confirmation is empty does) z = absurd (unlike m 1 refl is z)
creates-so x c m e (hears.Update is some does) z = absurd (unlike m 1 refl is z)
creates-so x c m e (hears.Error is does) z = absurd (unlike m 11 refl is z)
creates-so x c m e (hears.Other is does) z = absurd (others m is z)

clear-create : (a b : ℕ) → On a Clear ≡ On b Create → ⊥
clear-create a b e = cc

pub create-used : (ask : Ask) → ask ≡ Create → IsUse ask → ⊥
create-used ask is uses = subst (λ (z : Ask). IsUse z) is uses

module _ (w new : World) (k : ℕ) (j : Joined) (x : ClientSide) (on : At w.circuits k j) (at : At w.clients j.client x) (opened : j.lists.client_open ≡ true) (f : IsHearing w new k j x)
    (known : Known w) (creations : AllCreated w) (come : AllComeAfter w) (goes : WorldsOn w new) (m : Fields) (rest : List ℕ) (t : Told) (s : Sent) (there : At j.lists.down (length j.lists.heard) t) (up : At j.lists.up t.place s) (is : t.message ≡ m)
    (does : Hears (after_taking j.at_client rest x.core) j.at_client m (record { core = f.core; sent = f.sent; notices = f.notices })) (now : Joined) (at_now : At new.circuits k now) (goes_on : GoesOn (heard_in (hear-step w new k j x on at f) j) now) where
  mine : HeldOn (kept w k) x.names x.core j
  mine =
      let held = known.held k j on in
      let joined : held.0 ≡ j = At-one w.circuits k held.0 j held.2 on in
      let holder : held.1 ≡ x = At-one w.clients j.client held.1 x (subst (λ (z : Joined). At w.clients z.client held.1) joined held.3) at in
      subst (λ (v : Joined × ClientSide). HeldOn (kept w k) v.1.names v.1.core v.0) (λ i. (joined i, holder i)) held.4

  abbrev step : Step
  step = hear-step w new k j x on at f

  abbrev lines : List Line
  lines = hear-lines w new k j x on at f

  module _ (a sid : ℕ) (reply : t.cause ≡ Reply) (creates : Creates t.message sid) (meant : s.intent ≡ On a Create) where
    creation : Is command.CreateChannel m
    creation = ap (λ (v : Fields). v.command) (sym is) ∙ creates.0

    speaks : Speaks t.message (Cid m.p1)
    speaks = inl (inl (inl creates.0, ap (λ (v : Fields). v.p1) is))

    -- a channel that is live now, as its caller is told
    told-live : (h : Handle) → f.notices ≡ notice.Live h ∷ [] → channel_number x.names h ≡ a → IsToldLive (told new) now.lists a t step
    told-live h notices number =
        let there_log = known.once.there j.client x at in
        let log : List Line = there_log.0 in
        let line : Line = Noticed (On a Create) outcome.Done in
        let more = goes.logs x.life log there_log.1 in
        let first : At lines 0 line = subst (λ (v : List Notice). At (lines_of (about_at j.lists (length j.lists.heard)) x.names v) 0 line) (sym notices) (ap (λ (z : ℕ). Some (Noticed (On z Create) outcome.Done)) number) in
        let grew = (logs-grown w.client_logs x.life lines log there_log.1).0 x.life (log ++ more.0) (subst (λ (v : World). At v.client_logs x.life (log ++ more.0)) f.is more.1) in
        let whole : log ++ more.0 ≡ log ++ lines = elim grew [
          | inl own ↦ own.1.2 ∙ ap (λ (l : List Line). l ++ lines) (At-one w.client_logs x.life own.1.0 log own.1.1 there_log.1)
          | inr other ↦ absurd (other.1 refl)
        ] in
        let logged : log_length x.life w.client_logs ≡ length log = ap (λ (o : Option (List Line)). length (unwrap_or o [])) there_log.1 in
        let place : log_length x.life w.client_logs ≡ length log + 0 = omega (arith, logged) in
        let some : 0 < length lines = At-within lines 0 line first in
        let life : now.lists.client ≡ x.life = goes_on.client ∙ known.lives.same k j x on at opened in
        inl (
          log ++ lines,
          subst (λ (v : ℕ × List Line). At new.client_logs v.0 v.1) (λ i. (sym life i, whole i)) more.1,
          subst (λ (v : ℕ). At (log ++ lines) v line) (sym place) (At-after log lines 0 line first),
          omega (arith, some),
        )

    -- one that its caller gave up is cleared
    told-doomed : (h : Handle) → f.sent ≡ clear_sent j.at_client m.p2 h ∷ [] → channel_number x.names h ≡ a → IsToldLive (told new) now.lists a t step
    told-doomed h sent number =
        let mid : Joined = heard_in step j in
        let d : Joined = sent_to j.client x.names f.sent mid in
        let at_d : At new.circuits k d = subst (λ (v : World). At v.circuits k d) (sym f.is) (At-map (sent_to j.client x.names f.sent) (slice_set w.circuits k mid) k mid (set-here w.circuits k j mid on)) in
        let said : Sent = stamped x.names (clear_sent j.at_client m.p2 h) in
        let first : At (sent_on j.client x.names f.sent mid) 0 said = subst (λ (v : List Sending). At (sent_on j.client x.names v mid) 0 said) (sym sent) (there-sent j.client x.names (clear_sent j.at_client m.p2 h) mid refl opened refl) in
        let placed : At d.lists.up (length j.lists.up + 0) said = At-after j.lists.up (sent_on j.client x.names f.sent mid) 0 said first in
        let within : t.place < length j.lists.up = At-within j.lists.up t.place s up in
        inr (
          length j.lists.up + 0,
          said,
          omega (arith, within),
          subst (λ (v : Joined). At v.lists.up (length j.lists.up + 0) said) (At-one new.circuits k d now at_d at_now) placed,
          ap (λ (z : ℕ). On z Clear) number,
        )

    -- one that is being cleared was
    told-cleared : (number : ℕ) → number ≡ a → IsBeingCleared j.lists.up number → IsToldLive (told new) now.lists a t step
    told-cleared number number_is b = elim (three-ways t.place b.1) [
      | inl before ↦ inr (b.1, b.3.0, before, goes_on.said b.1 b.3.0 b.3.1, b.3.2 ∙ ap (λ (z : ℕ). On z Clear) number_is)
      | inr (inl same) ↦
          let one : s ≡ b.3.0 = At-one j.lists.up b.1 s b.3.0 (subst (λ (v : ℕ). At j.lists.up v s) same up) b.3.1 in
          absurd (clear-create number a (sym b.3.2 ∙ ap (λ (v : Sent). v.intent) (sym one) ∙ meant))
      | inr (inr late) ↦ absurd (b.4 t.place s Create late up (meant ∙ ap (λ (z : ℕ). On z Create) (sym number_is)))
    ]

    -- of one that is live already no reply is read that creates it
    not-live : (h : Handle) (ch : Channel) (native : _) (rights : ℕ) → under x.core.channels h ≡ Some ch → ch.standing ≡ client.On j.at_client (Live native rights) → channel_number x.names h ≡ a → ⊥
    not-live h ch native rights held stands number =
        let b = (known.sided.sides k j x on at opened).lives h native.sid (record { ch = ch; native = native; rights = rights; there = held; stands = stands; is = refl }) in
        let c = b.3 in
        let early : b.0 < length j.lists.heard = b.2 in
        let at_c : c.t.place ≡ b.1 = c.told.1 in
        let made = creations k j on in
        elim (three-ways t.place b.1) [
          | inl before ↦
              let by = come k j on b.0 c.t c.told.0 in
              let prompt : length j.lists.heard < (by.0).sent = made.prompt (length j.lists.heard) sid c.t.place t by.0 there reply creates (omega (arith, before, at_c)) by.1 in
              let after_it : (by.0).sent ≤ b.0 = by.2 in
              omega (arith, early, prompt, after_it)
          | inr (inl same) ↦
              let one : b.0 ≡ length j.lists.heard = made.once b.0 (length j.lists.heard) native.sid sid c.t t c.told.0 there c.told.2 reply c.told.3 creates (at_c ∙ sym same) in
              omega (arith, one, early)
          | inr (inr late) ↦ create-used Create refl (c.since t.place s Create late (At-within j.lists.up t.place s up) up (meant ∙ ap (λ (z : ℕ). On z Create) (sym number)))
        ]

    told-now : IsToldLive (told new) now.lists a t step
    told-now = by found.0 found.1 found.2
      where
        pending : IsPending (Awaits j.lists (kept w k)) j.lists t.place (Cid m.p1)
        pending = inr (length j.lists.heard, t, there, omega arith, refl, speaks)

        busy : (h : Handle) × (ch : Channel) × (under x.core.channels h ≡ Some ch) × (wire_of h ≡ m.p1) × (is_on_in is_asked j.at_client ch ≡ true)
        busy = (mine.holds opened).channels.busy t.place m.p1 pending

        found : (p : Phase) × (channel_on x.core j.at_client m.p1 ≡ Some (busy.0, p)) × (is_asked p ≡ true)
        found = on-channel x.core j.at_client busy.0 m.p1 busy.1 (mine.holds opened).channels.few busy.2 busy.3 busy.4

        number : (p : Phase) → channel_on x.core j.at_client m.p1 ≡ Some (busy.0, p) → is_asked p ≡ true → channel_number x.names busy.0 ≡ a
        number p at_p asked =
            let r = found-intent (kept w k) x.names x.core j.at_client j.lists t s m.p1 busy.0 p (mine.holds opened).channels mine.flows there up speaks at_p asked in
            same-number (channel_number x.names busy.0) a r.0 Create (sym r.1 ∙ meant)

        effect : (p : Phase) → channel_on x.core j.at_client m.p1 ≡ Some (busy.0, p) → record { core = f.core; sent = f.sent; notices = f.notices } ≡ created (after_taking j.at_client rest x.core) j.at_client m (Some (busy.0, p))
        effect p at_p = creates-so (after_taking j.at_client rest x.core) j.at_client m (record { core = f.core; sent = f.sent; notices = f.notices }) does creation ∙ ap (λ (o : Option (Handle × Phase)). created (after_taking j.at_client rest x.core) j.at_client m o) at_p

        cleared : (p : Phase) → channel_on x.core j.at_client m.p1 ≡ Some (busy.0, p) → is_asked p ≡ true → ((ch : Channel) → under x.core.channels busy.0 ≡ Some ch → ch.standing ≡ client.On j.at_client p → IsBeingCleared j.lists.up (channel_number x.names busy.0)) → IsToldLive (told new) now.lists a t step
        cleared p at_p asked being =
            let ch = channel-on x.core j.at_client m.p1 busy.0 p at_p in
            told-cleared (channel_number x.names busy.0) (number p at_p asked) (being ch.0 ch.1 ch.3)

        by : (p : Phase) → channel_on x.core j.at_client m.p1 ≡ Some (busy.0, p) → is_asked p ≡ true → IsToldLive (told new) now.lists a t step
        by Connecting at_p asked = absurd (both_ways false refl asked)
        by (Creating rights) at_p asked = told-live busy.0 (ap (λ (v : Effect). v.notices) (effect (Creating rights) at_p)) (number (Creating rights) at_p asked)
        by Doomed at_p asked = told-doomed busy.0 (ap (λ (v : Effect). v.sent) (effect Doomed at_p)) (number Doomed at_p asked)
        by (Live native rights) at_p asked = (let ch = channel-on x.core j.at_client m.p1 busy.0 (Live native rights) at_p in absurd (not-live busy.0 ch.0 native rights ch.1 ch.3 (number (Live native rights) at_p asked)))
        by Leaving at_p asked = cleared Leaving at_p asked (λ ch held stands. (known.quiet.quiet k j x on at opened).channels busy.0 ch held Leaving stands)
        by Clearing at_p asked = cleared Clearing at_p asked (λ ch held stands. (known.quiet.quiet k j x on at opened).channels busy.0 ch held Clearing stands)

  -- all that was read on the circuit
  told-hearing : AreToldLive (told w) j.lists → AreToldLive (told new) now.lists
  told-hearing all i a sid u h r at_u at_h reply creates at_r meant = elim (At-snoc j.lists.heard step i h (subst (λ (l : List Step). At l i h) goes_on.heard at_h)) [
    | inl old ↦
        let o = goes.circuits k j on in
        carry w new j now goes (subst (λ (v : Joined). Onward j v) (At-one new.circuits k o.0 now o.1 at_now) o.2) mine.flows.within mine.flows.about i a sid u h r at_u old reply creates at_r meant all
    | inr last ↦
        let one : t ≡ u = At-one now.lists.down (length j.lists.heard) t u (goes_on.tells (length j.lists.heard) t there) (subst (λ (v : ℕ). At now.lists.down v u) last.0 at_u) in
        let same : s ≡ r = At-one now.lists.up u.place s r (subst (λ (v : Told). At now.lists.up v.place s) one (goes_on.said t.place s up)) at_r in
        subst (λ (v : Told × Step). IsToldLive (told new) now.lists a v.0 v.1) (λ z. (one z, sym last.1 z))
        (told-now a sid (ap (λ (v : Told). v.cause) one ∙ reply) (subst (λ (v : Told). Creates v.message sid) (sym one) creates) (ap (λ (v : Sent). v.intent) same ∙ meant))
  ]

-- ---- events and runs

module _ (s : Setting) (es : List Event) (w new : World) (ok : IsSetting s) (are : AreEvents es) (runs : Runs s es None w) where
  known : Known w
  known = known-runs s es None w ok are runs

  event-so : (e : Event) → Happens w e new → AllToldLive w → ReadsSo w new
  event-so e happens all = each-event (ReadsSo w new) w new (so-grown w new)
      (λ k f. elim (step-grown w new k f.0.j f.0.y f.1.0 f.0.joins.at f.1.1) [
        | inl handles ↦ reads-so w new (none-handled w new k f.0.j f.0.y f.0.joins.at handles)
        | inr g ↦ so-grown w new g
      ])
      (λ k f. elim (hearing-or w new k f.0.j f.0.x f.0.joins.at f.0.joins.client f.1) [
        | inl hearing ↦ so-hearing w new k f.0.j f.0.x f.0.joins.at f.0.joins.client hearing (own k f hearing)
        | inr g ↦ so-grown w new g
      ])
      (λ i f. elim (made-or w new i f) [
        | inl made ↦ reads-so w new (none-made w new i f.0.x f.0.at made)
        | inr g ↦ so-grown w new g
      ])
      (λ i f. subst (λ (z : World). ReadsSo w z) (sym f.1) (so-grown w (begun-mid w new i f.0.x f.1) (begun-grown w new i f.0.x f.1))) e happens
    where
      own : (k : ℕ) (f : Happens w (event.ClientStep k) new) → IsHearing w new k f.0.j f.0.x → (d : Joined) → At new.circuits k d → AreToldLive (told new) d.lists
      own k f hearing d at_d =
          let hear = runs-hear s es None w ok are runs in
          let n = next w new k f.0.j f.0.x f.0.joins.at f.0.joins.client f.0.is_open hearing hear (runs-caused s es None w ok are runs) (reached-answer w (s, es, None, ok, runs)) (run-removals s es None w ok runs) (run-tells s es None w new k ok are runs f) known.held known.once known.quiet known.lives in
          let a = after w new k f.0.j f.0.x f.0.joins.at f.0.joins.client f.0.is_open hearing hear (runs-caused s es None w ok are runs) (reached-answer w (s, es, None, ok, runs)) (run-removals s es None w ok runs) (run-tells s es None w new k ok are runs f) known.held known.once known.quiet known.lives in
          subst (λ (v : Joined). AreToldLive (told new) v.lists) (At-one new.circuits k a.0 d a.1 at_d)
          (told-hearing w new k f.0.j f.0.x f.0.joins.at f.0.joins.client f.0.is_open hearing known (reached-created w (s, es, None, ok, runs)) (run-after s es None w ok runs) (event-on w new (event.ClientStep k) f)
          n.m n.rest n.t n.s n.told n.up n.is n.hear a.0 a.1 a.2 (all k f.0.j f.0.joins.at))

  pub event-told : (e : Event) → Happens w e new → AllToldLive w → AllToldLive new
  event-told e happens all = told-on w new known.held (event-on w new e happens) (event-so e happens all) all

after-told : (s : Setting) (es rest : List Event) (w new : World) → IsSetting s → AreEvents es → AreEvents rest → FoldsTo Happens (opening s) es w → FoldsTo Happens w rest new → AllToldLive w → AllToldLive new
after-told s es [] w new ok are more folds same all = subst (λ (v : World). AllToldLive v) same all
after-told s es (e ∷ rest) w new ok are more folds (mid, one, others) all =
    after-told s (es ++ e ∷ []) rest mid new ok (are-snoc es e are (more 0 e refl)) (λ i f at. more (suc i) f at) (folds-snoc es (opening s) w mid e folds one) others
    (event-told s es w mid ok are (w, folds, refl) e one all)

pub run-told-live : (s : Setting) (es : List Event) (stopped : Option Event) (w : World) → IsSetting s → AreEvents es → Runs s es stopped w → AllToldLive w
run-told-live s es stopped w ok are (mid, folds, stops) = stop stopped stops
  where
    all : AllToldLive mid
    all = after-told s [] es (opening s) mid ok (λ i e at. absurd (none_at i e at)) are refl folds (λ n c at. absurd (none_at n c at))

    stop : (stopped : Option Event) → StopsAt mid stopped w → AllToldLive w
    stop (Some (event.Tick moment)) stops = elim stops [
      | inl same ↦ subst (λ (v : World). AllToldLive v) (sym same) all
      | inr ticked ↦ (let g : Grown mid w = ticks-grown moment mid (clients_below ticked.0) w ticked.3 in told-on mid w (run-held s es None mid ok are (mid, folds, refl)) (on-grown mid w g) (so-grown mid w g) all)
    ]
    stop stopped stops = subst (λ (v : World). AllToldLive v) (sym stops) all

-- in the words of the statement
pub run-creations : (s : Setting) (es : List Event) (stopped : Option Event) (w : World) → IsSetting s → AreEvents es → Runs s es stopped w → CreationsAreTold (told w)
run-creations s es stopped w ok are runs n c at =
    let j = At-mapped circuit_of w.circuits n c at in
    subst (λ (v : Circuit). AreToldLive (told w) v) (sym j.2) (run-told-live s es stopped w ok are runs n j.0 j.1)
