-- A message on a channel goes out under a SID of whose creation the client had read then: over
-- every event and run.
use Rattle.std.proofs.Common.{◌≡◌, ℕ, suc, ◌+◌, ◌<◌, ◌≤◌, ◌⊎◌, inl, inr, Bool, true, false, ◌&&◌, cond, eqb, List, [], ◌∷◌, ◌++◌, length, Option, Some, None, refl, sym, ap, subst, ◌∙◌, arith}
use Rattle.std.specs.Prelude.{map, option_map, slice_get, slice_set, unwrap_or}
use Rattle.std.specs.List.{FoldsTo, list_any}
use Rattle.std.proofs.lemmas.List.{length-append}
use Rattle.ca_arena.specs.declared.handle.Handle.{Handle}
use Rattle.ca_ids.specs.Table.{same_handle}
use Rattle.ca_text.specs.Command.{command_number}
use Rattle.ca_text.specs.declared.command.Command.{Command}
use Rattle.ca_text.specs.declared.command.Command.TheVariants as command
use Rattle.ca_text.specs.Place.{At}
use Rattle.ca_text.proofs.Places.{At-map, At-mapped, At-one, At-or, At-set, At-snoc, At-within}
use Rattle.ca_wire.specs.Fields.{Fields}
use Rattle.ca_model.specs.History.{Ask, Cancel, Circuit, Clear, Create, Intent, On, Put, Read, Removal, Reply, Request, Sent, Step, Subscribe, Told, Write}
use Rattle.ca_model.specs.Answers.{Sending}
use Rattle.ca_model.specs.Answers as answer
use Rattle.ca_model.specs.Client.{Client, Connection, Phase, channel_on, connection_at}
use Rattle.ca_model.specs.Client as phase
use Rattle.ca_model.specs.ClientCalls.{clear_sent}
use Rattle.ca_model.specs.ClientEnds.{StepsOn, after_taking}
use Rattle.ca_model.specs.Hears.{Effect, Hears, left}
use Rattle.ca_model.specs.Hears as hears
use Rattle.ca_model.specs.History as history
use Rattle.ca_model.specs.Sends.{Conduct, HasChannel, IsDisconnect, IsOnChannel, ReadsBetween}
use Rattle.ca_model.specs.Speech.{Clears, Creates, Is, sid_in}
use Rattle.ca_model.proofs.Thinner.{three-ways}
use Rattle.ca_model.specs.Channels.{Suits}
use Rattle.ca_model.specs.Legal.{client_conduct}
use Rattle.ca_model.specs.ClientEvents.{heard_in, intent_of, sent_on}
use Rattle.ca_model.specs.Events.{Event}
use Rattle.ca_model.specs.Events as event
use Rattle.ca_model.specs.Runs.{AreEvents, Happens, Runs, StopsAt, clients_below}
use Rattle.ca_model.specs.ServerEvents.{StepHandles, about, handled_at}
use Rattle.ca_model.specs.World.{ClientSide, IsSetting, Joined, Names, ServerSide, Setting, World, circuit_of, log_length, opening, with_circuit}
use Rattle.ca_laws_parts.specs.Runs.{HearsSent}
use Rattle.ca_laws_parts.proofs.ServerSpeaking.{runs-hear}
use Rattle.ca_laws_parts.proofs.WritesLists.{none_at}
use Rattle.ca_laws_parts.proofs.WritesMoves.{At-below, same-or}
use Rattle.ca_text.proofs.Places.{At-append}
use Rattle.ca_laws_runs.specs.Causes.{AllComeAfter, ComeAfter}
use Rattle.ca_laws_runs.specs.Created.{CreatedOn}
use Rattle.ca_laws_runs.specs.LegalParts.{ClientsSendOnChannels, SendsOnChannels}
use Rattle.ca_laws_runs.specs.OrderSteps.{ClientsInOrder, InOrder, ServersInOrder}
use Rattle.ca_laws_runs.specs.Sides.{AllSided, AreRead}
use Rattle.ca_laws_runs.specs.Under.{AreUnder, IsCreatedBefore}
use Rattle.ca_laws_runs.proofs.CauseKeeps.{run-after}
use Rattle.ca_laws_runs.proofs.Created.{reached-created}
use Rattle.ca_laws_runs.proofs.LegalRemovals.{RemovedRight}
use Rattle.ca_laws_runs.proofs.Joint.{are-snoc, folds-snoc, run-sided}
use Rattle.ca_laws_runs.proofs.OrderGrows.{GoesOn, Grown, each-event, grown-self, step-grown, ticks-grown}
use Rattle.ca_laws_runs.proofs.OrderKeeps.{IsHearing, IsMade, begun-grown, begun-mid, did-after, did-grown, did-step, hear-grown, hear-step, hearing-or, made-or, run-heard, run-served, run-server-steps}
use Rattle.ca_laws_runs.proofs.StepWhole.{run-serves}
use Rattle.ca_laws_runs.specs.Quiet.{AreCids}
use Rattle.ca_laws_runs.proofs.Found.{clear-is}
use Rattle.ca_laws_runs.proofs.Kept.{quiet-runs}
use Rattle.ca_laws_runs.proofs.Under.{uncleared}

-- Each message on a channel, but its CREATE_CHAN, goes under the SID of a creation that was read
-- before it was sent, and after that was asked for.
abbrev pub ReadOn : Circuit → Type 0
ReadOn c = (p a : ℕ) (s : Sent) (ask : Ask) → At c.up p s → s.intent ≡ On a ask → (ask ≡ Create → ⊥)
    → (j k : ℕ) × (g : Step) × At c.heard j g × (g.sent ≤ p) × IsCreatedBefore c a j k (sid_in s.message) p

abbrev pub AllReadOn : World → Type 0
AllReadOn w = (n : ℕ) (c : Joined) → At w.circuits n c → ReadOn c.lists

-- What was read is about what had been sent then.
abbrev pub ReadAfter : Circuit → Type 0
ReadAfter c = (j : ℕ) (g : Step) (t : Told) → At c.heard j g → At c.down j t → t.place < g.sent

abbrev pub AllReadAfter : World → Type 0
AllReadAfter w = (n : ℕ) (c : Joined) → At w.circuits n c → ReadAfter c.lists

-- When a SERVER_DISCONN was read, the CLEAR_CHANNEL of the channel that was created there was sent
-- before, or as the first message then.
abbrev pub CutOn : Circuit → Type 0
CutOn c = (l : ℕ) (g : Step) (t : Told) → At c.heard l g → At c.down l t → t.cause ≡ Removal
    → (i sid : ℕ) × (u : Told) × At c.down i u × (u.cause ≡ Reply) × Creates u.message sid × (u.place ≡ t.place)
    × ((m : ℕ) × (s : Sent) × (u.place < m) × (m ≤ g.sent) × At c.up m s × Clears s.message sid)

-- ---- from one world to the next

-- What is read now is read after all that was sent, and nothing is handled then. If it is a
-- SERVER_DISCONN, one message is sent at most.
pub record HearsOn (c d : Joined) : Type 0 where
  pub up : (p : ℕ) (s : Sent) → At c.lists.up p s → At d.lists.up p s
  pub down : (i : ℕ) (t : Told) → At c.lists.down i t → At d.lists.down i t
  pub kept : (i : ℕ) (h : Step) → At c.lists.heard i h → At d.lists.heard i h
  pub heard : (i : ℕ) (h : Step) → At d.lists.heard i h → At c.lists.heard i h ⊎ ((h.sent ≡ length c.lists.up) × (d.lists.handled ≡ c.lists.handled)
      × ((t : Told) → At d.lists.down i t → Is command.ServerDisconnect t.message → length d.lists.up ≤ length c.lists.up + 1))

abbrev pub AllHear : (w new : World) → Type 0
AllHear w new = (n : ℕ) (d : Joined) → At new.circuits n d → ((c : Joined) × At w.circuits n c × HearsOn c d) ⊎ (d.lists.heard ≡ [])

goes-hears : (c d : Joined) → GoesOn c d → HearsOn c d
goes-hears c d g = record {
  up = g.said;
  down = g.tells;
  kept = λ i h at. subst (λ (l : List Step). At l i h) (sym g.heard) at;
  heard = λ i h at. inl (subst (λ (l : List Step). At l i h) g.heard at);
}

grown-hears : (w new : World) → Grown w new → AllHear w new
grown-hears w new g n d at = (let b = g.back n d at in inl (b.0, b.1, goes-hears b.0 d b.2))

-- a message is handled
handles-hears : (w new : World) (k : ℕ) (j : Joined) (y : ServerSide) → At w.circuits k j → StepHandles w k j y new → AllHear w new
handles-hears w new k j y on f = subst (λ (z : World). AllHear w z) (sym f.leaves) (go (slice_get after.circuits k) refl)
  where
    after : World
    after = did-after w new k j y on f

    step : Step
    step = did-step w new k j y on f

    first : AllHear w after
    first = grown-hears w after (did-grown w new k j y on f)

    own : (a c d : Joined) → GoesOn a c → d ≡ handled_at (length j.lists.handled) step (f.steps.0).replies c → HearsOn a d
    own a c d g is = subst (λ (z : Joined). HearsOn a z) (sym is) (record {
      up = g.said;
      down = λ i t at. At-append c.lists.down (about (length j.lists.handled) Reply (f.steps.0).replies) i t (g.tells i t at);
      kept = λ i h at. subst (λ (l : List Step). At l i h) (sym g.heard) at;
      heard = λ i h at. inl (subst (λ (l : List Step). At l i h) g.heard at);
    })

    go : (o : Option Joined) → slice_get after.circuits k ≡ o → AllHear w (unwrap_or (option_map (λ (c : Joined). with_circuit k (handled_at (length j.lists.handled) step (f.steps.0).replies c) after) o) after)
    go None is = first
    go (Some c) is = λ n d at. elim (At-set after.circuits k (handled_at (length j.lists.handled) step (f.steps.0).replies c) n d at) [
      | inl here ↦
          let b = (did-grown w new k j y on f).back n c (subst (λ (m : ℕ). At after.circuits m c) (sym here.0) is) in
          inl (b.0, b.1, own b.0 c d b.2 here.1)
      | inr old ↦ first n d old.0
    ]

-- ---- what a SERVER_DISCONN makes a client send

-- a SERVER_DISCONN has this effect
left-of : (y : Client) (on : Handle) (m : Fields) (e : Effect) → m.command ≡ 27 → Hears y on m e → e ≡ left y on (channel_on y on m.p1)
left-of y on m e is h = go h
  where
    apart : (a : ℕ) → m.command ≡ a → (a ≡ 27 → ⊥) → ⊥
    apart a other differ = differ (sym other ∙ is)

    go : Hears y on m e → e ≡ left y on (channel_on y on m.p1)
    go (hears.ServerDisconnect k does) = does
    go (hears.Search k d there finds) = absurd (apart 6 k (λ e. absurd (omega (arith, e))))
    go (hears.AccessRights k does) = absurd (apart 22 k (λ e. absurd (omega (arith, e))))
    go (hears.CreateChannel k does) = absurd (apart 18 k (λ e. absurd (omega (arith, e))))
    go (hears.CreateChannelFail k does) = absurd (apart 26 k (λ e. absurd (omega (arith, e))))
    go (hears.ClearChannel k does) = absurd (apart 12 k (λ e. absurd (omega (arith, e))))
    go (hears.Reply (inl k) does) = absurd (apart 15 k (λ e. absurd (omega (arith, e))))
    go (hears.Reply (inr k) does) = absurd (apart 19 k (λ e. absurd (omega (arith, e))))
    go (hears.Confirmation k empty does) = absurd (apart 1 k (λ e. absurd (omega (arith, e))))
    go (hears.Update k some does) = absurd (apart 1 k (λ e. absurd (omega (arith, e))))
    go (hears.Error k does) = absurd (apart 11 k (λ e. absurd (omega (arith, e))))
    go (hears.Other k does) = absurd (known m.command is k)
      where
        known : (n : ℕ) → n ≡ 27 → list_any (λ (c : Command). eqb n (command_number c)) hears.understood ≡ false → ⊥
        known n at none = (let f : list_any (λ (c : Command). eqb 27 (command_number c)) hears.understood ≡ false = subst (λ (z : ℕ). list_any (λ (c : Command). eqb z (command_number c)) hears.understood ≡ false) at none in cc)

-- no message, or one
abbrev AtMostOne : List Sending → Type 0
AtMostOne sent = (sent ≡ []) ⊎ ((z : Sending) × (sent ≡ z ∷ []))

left-short : (y : Client) (on : Handle) (o : Option (Handle × Phase)) → AtMostOne (left y on o).sent
left-short y on None = inl refl
left-short y on (Some (h, phase.Connecting)) = inl refl
left-short y on (Some (h, phase.Creating rights)) = inl refl
left-short y on (Some (h, phase.Live native rights)) = inr (clear_sent on native.sid h, refl)
left-short y on (Some (h, phase.Leaving)) = inl refl
left-short y on (Some (h, phase.Clearing)) = inl refl
left-short y on (Some (h, phase.Doomed)) = inl refl

on-short : (i : ℕ) (n : Names) (sent : List Sending) (a : Joined) → AtMostOne sent → length (sent_on i n sent a) ≤ 1
on-short i n sent a (inl none) = subst (λ (l : List Sending). length (sent_on i n l a) ≤ 1) (sym none) (by (eqb a.client i && a.lists.client_open))
  where
    at : Sending → Sent
    at s = record { message = s.message; intent = intent_of n s.aim }

    by : (b : Bool) → length (cond b (map at []) []) ≤ 1
    by true = omega arith
    by false = omega arith
on-short i n sent a (inr (z, one)) = subst (λ (l : List Sending). length (sent_on i n l a) ≤ 1) (sym one) (by (eqb a.client i && a.lists.client_open) (same_handle z.circuit a.at_client))
  where
    at : Sending → Sent
    at s = record { message = s.message; intent = intent_of n s.aim }

    by : (b c : Bool) → length (cond b (map at (cond c (z ∷ []) [])) []) ≤ 1
    by true true = omega arith
    by true false = omega arith
    by false c = omega arith

module _ (w new : World) (k : ℕ) (f : Happens w (event.ClientStep k) new) (hearing : IsHearing w new k f.0.j f.0.x) (told : HearsSent w) where
  abbrev j : Joined
  j = f.0.j

  abbrev x : ClientSide
  x = f.0.x

  abbrev step : Step
  step = hear-step w new k j x f.0.joins.at f.0.joins.client hearing

  -- what was sent goes up
  sent-up : (d : Joined) → At new.circuits k d → d.lists.up ≡ j.lists.up ++ sent_on j.client x.names hearing.sent (heard_in step j)
  sent-up d there =
      let more : Joined → Joined = λ (c : Joined). record c { lists = record c.lists { up = c.lists.up ++ sent_on j.client x.names hearing.sent c } } in
      let z = At-mapped more (slice_set w.circuits k (heard_in step j)) k d (subst (λ (v : World). At v.circuits k d) hearing.is there) in
      elim (At-set w.circuits k (heard_in step j) k z.0 z.1) [
        | inl own ↦ ap (λ (c : Joined). c.lists.up) (z.2 ∙ ap more own.1)
        | inr old ↦ absurd (old.1 refl)
      ]

  sent-short : (d : Joined) → ((i : ℕ) (t : Told) → At j.lists.down i t → At d.lists.down i t) → (t : Told) → At d.lists.down (length j.lists.heard) t → Is command.ServerDisconnect t.message → AtMostOne hearing.sent
  sent-short e tells t at ends = go (connection_at x.core j.at_client) refl hearing.steps
    where
      go : (o : Option Connection) → connection_at x.core j.at_client ≡ o → StepsOn x.core j.at_client o (answer.Notices hearing.notices) hearing.sent hearing.core → AtMostOne hearing.sent
      go None is steps = absurd steps
      go (Some d) is takes =
          let m = told k j x d takes.m takes.rest f.0.joins.at f.0.joins.client f.0.is_open is takes.first in
          let one : m.0 ≡ t = At-one e.lists.down (length j.lists.heard) m.0 t (tells (length j.lists.heard) m.0 m.1) at in
          let lost : takes.m.command ≡ 27 = ap (λ (z : Fields). z.command) (sym m.2 ∙ ap (λ (z : Told). z.message) one) ∙ ends in
          let y : Client = after_taking j.at_client takes.rest x.core in
          let does = left-of y j.at_client takes.m (record { core = hearing.core; sent = hearing.sent; notices = hearing.notices }) lost takes.hears in
          subst (λ (z : Effect). AtMostOne z.sent) (sym does) (left-short y j.at_client (channel_on y j.at_client takes.m.p1))

  up-short : (d : Joined) → At new.circuits k d → ((i : ℕ) (t : Told) → At j.lists.down i t → At d.lists.down i t) → (t : Told) → At d.lists.down (length j.lists.heard) t → Is command.ServerDisconnect t.message → length d.lists.up ≤ length j.lists.up + 1
  up-short d there tells t at ends =
      let more : List Sent = sent_on j.client x.names hearing.sent (heard_in step j) in
      let len : length d.lists.up ≡ length j.lists.up + length more = ap (λ (l : List Sent). length l) (sent-up d there) ∙ length-append j.lists.up more in
      let short : length more ≤ 1 = on-short j.client x.names hearing.sent (heard_in step j) (sent-short d tells t at ends) in
      omega (arith, len, short)

-- a message is read
reads-hears : (w new : World) (k : ℕ) (f : Happens w (event.ClientStep k) new) → IsHearing w new k f.0.j f.0.x → HearsSent w → AllHear w new
reads-hears w new k f hears told n d at =
    let step : Step = hear-step w new k f.0.j f.0.x f.0.joins.at f.0.joins.client hears in
    let b = (hear-grown w new k f.0.j f.0.x f.0.joins.at f.0.joins.client hears).back n d at in
    elim (At-set w.circuits k (heard_in step f.0.j) n b.0 b.1) [
      | inl here ↦
          let j : Joined = f.0.j in
          let g : GoesOn (heard_in step j) d = subst (λ (z : Joined). GoesOn z d) here.1 b.2 in
          inl (
            j,
            subst (λ (m : ℕ). At w.circuits m j) (sym here.0) f.0.joins.at,
            record {
              up = g.said;
              down = g.tells;
              kept = λ i h there. subst (λ (l : List Step). At l i h) (sym g.heard) (At-append j.lists.heard (step ∷ []) i h there);
              heard = λ i h there. elim (At-snoc j.lists.heard step i h (subst (λ (l : List Step). At l i h) g.heard there)) [
                | inl old ↦ inl old
                | inr last ↦ inr (ap (λ (z : Step). z.sent) last.1, g.handled, λ t on ends. up-short w new k f hears told d (subst (λ (m : ℕ). At new.circuits m d) here.0 at) g.tells t (subst (λ (m : ℕ). At d.lists.down m t) last.0 on) ends)
              ];
            },
          )
      | inr old ↦ inl (b.0, old.0, goes-hears b.0 d b.2)
    ]

-- a circuit is made
made-hears : (w new : World) (i : ℕ) (f : Happens w (event.Accept i) new) → IsMade w new i f.0.x → AllHear w new
made-hears w new i f made n d at =
    let b = made.goes.back n d at in
    elim (At-snoc w.circuits made.c n b.0 (subst (λ (l : List Joined). At l n b.0) made.circuits b.1)) [
      | inl old ↦ inl (b.0, old, goes-hears b.0 d b.2)
      | inr last ↦ inr (b.2.heard ∙ ap (λ (z : Joined). z.lists.heard) last.1 ∙ made.heard)
    ]

pub event-hears : (w new : World) (e : Event) → HearsSent w → Happens w e new → AllHear w new
event-hears w new e told happens = each-event (AllHear w new) w new (grown-hears w new)
    (λ k f. elim (step-grown w new k f.0.j f.0.y f.1.0 f.0.joins.at f.1.1) [
      | inl handles ↦ handles-hears w new k f.0.j f.0.y f.0.joins.at handles
      | inr g ↦ grown-hears w new g
    ])
    (λ k f. elim (hearing-or w new k f.0.j f.0.x f.0.joins.at f.0.joins.client f.1) [
      | inl hears ↦ reads-hears w new k f hears told
      | inr g ↦ grown-hears w new g
    ])
    (λ i f. elim (made-or w new i f) [
      | inl made ↦ made-hears w new i f made
      | inr g ↦ grown-hears w new g
    ])
    (λ i f. begun i f) e happens
  where
    begun : (i : ℕ) → Happens w (event.ClientRestart i) new → AllHear w new
    begun i f =
        let first : World = begun-mid w new i f.0.x f.1 in
        let g : AllHear w first = grown-hears w first (begun-grown w new i f.0.x f.1) in
        subst (λ (z : World). AllHear w z) (sym f.1) (λ n d at. g n d at)

-- ---- what holds stays so

module _ (c d : Joined) (h : HearsOn c d) where
  came : (p : ℕ) (s : Sent) → At d.lists.up p s → p < length c.lists.up → At c.lists.up p s
  came p s at lt = elim (At-or c.lists.up p) [
    | inl there ↦ subst (λ (z : Sent). At c.lists.up p z) (At-one d.lists.up p there.0 s (h.up p there.0 there.1) at) there.1
    | inr past ↦ absurd (omega (arith, lt, past))
  ]

  created-forth : (a j k sid p : ℕ) → p ≤ length c.lists.up → IsCreatedBefore c.lists a j k sid p → IsCreatedBefore d.lists a j k sid p
  created-forth a j k sid p le b = record {
    t = b.t;
    r = b.r;
    told = (h.down j b.t b.told.0, b.told.1, b.told.2, b.told.3);
    asked = (h.up k b.r b.asked.0, b.asked.1);
    early = b.early;
    since = λ l q ask after before at is. b.since l q ask after before (came l q at (omega (arith, before, le))) is;
  }

  read-on : (log : ℕ) → InOrder c.lists.heard (length c.lists.down) (length c.lists.up) log → AreRead d.lists → ReadOn c.lists → ReadOn d.lists
  read-on log order read was p a s ask at is other = elim (At-or c.lists.up p) [
    | inl there ↦
        let same : there.0 ≡ s = At-one d.lists.up p there.0 s (h.up p there.0 there.1) at in
        let old : At c.lists.up p s = subst (λ (z : Sent). At c.lists.up p z) same there.1 in
        let b = was p a s ask old is other in
        let lt : p < length c.lists.up = At-within c.lists.up p s old in
        (b.0, b.1, b.2, h.kept b.0 b.2 b.3, b.4, created-forth a b.0 b.1 (sid_in s.message) p (omega (arith, lt)) b.5)
    | inr past ↦
        let b = read p a s ask at is other in
        let g = At-below d.lists.heard b.0 b.2 in
        let le : g.0.sent ≤ length c.lists.up = elim (h.heard b.0 g.0 g.1) [
          | inl old ↦ (order.within b.0 g.0 old).0
          | inr new_it ↦ (let e : g.0.sent ≡ length c.lists.up = new_it.0 in omega (arith, e))
        ] in
        (b.0, b.1, g.0, g.1, omega (arith, le, past), b.3)
  ]

  after-on : (log late : ℕ) → InOrder c.lists.heard (length c.lists.down) (length c.lists.up) log → InOrder c.lists.handled (length c.lists.up) (length c.lists.down) late → ComeAfter d.lists → ReadAfter c.lists → ReadAfter d.lists
  after-on log late order handled after was j g t at_g at_t = elim (h.heard j g at_g) [
    | inl old ↦ elim (At-or c.lists.down j) [
      | inl there ↦ was j g t old (subst (λ (z : Told). At c.lists.down j z) (At-one d.lists.down j there.0 t (h.down j there.0 there.1) at_t) there.1)
      | inr past ↦ absurd (let lt : j < length c.lists.heard = At-within c.lists.heard j g old in let le : length c.lists.heard ≤ length c.lists.down = order.one_each in omega (arith, lt, le, past))
    ]
    | inr new_it ↦
        let f = after j t at_t in
        let lt : t.place < length d.lists.handled = At-within d.lists.handled t.place f.0 f.1 in
        let same : length d.lists.handled ≡ length c.lists.handled = ap (λ (l : List Step). length l) new_it.1 in
        let le : length c.lists.handled ≤ length c.lists.up = handled.one_each in
        let e : g.sent ≡ length c.lists.up = new_it.0 in
        omega (arith, lt, same, le, e)
  ]

fresh-read : (c : Circuit) → c.heard ≡ [] → AreRead c → ReadOn c × ReadAfter c
fresh-read c none read = (
  λ p a s ask at is other. absurd (let b = read p a s ask at is other in let lt : b.0 < length c.heard = b.2 in let e : length c.heard ≡ 0 = ap (λ (l : List Step). length l) none in omega (arith, lt, e)),
  λ j g t at. absurd (none_at j g (subst (λ (l : List Step). At l j g) none at)),
)

all-read : (w new : World) → AllHear w new → ClientsInOrder w → ServersInOrder w → AllSided new → AllComeAfter new → AllReadOn w × AllReadAfter w → (n : ℕ) (d : Joined) → At new.circuits n d → ReadOn d.lists × ReadAfter d.lists
all-read w new hears clients servers sided after was n d at = elim (hears n d at) [
  | inr none ↦ fresh-read d.lists none (sided.right n d at).read
  | inl c ↦
      let order = clients n c.0 c.1 in (
        read-on c.0 d c.2 (log_length c.0.lists.client w.client_logs) order (sided.right n d at).read (was.0 n c.0 c.1),
        after-on c.0 d c.2 (log_length c.0.lists.client w.client_logs) (log_length c.0.lists.server w.server_logs) order (servers n c.0 c.1) (after n d at) (was.1 n c.0 c.1),
      )
]

pair : (w : World) → ((n : ℕ) (d : Joined) → At w.circuits n d → ReadOn d.lists × ReadAfter d.lists) → AllReadOn w × AllReadAfter w
pair w all = (λ n d at. (all n d at).0, λ n d at. (all n d at).1)

-- ---- every run

events-read : (s : Setting) (ok : IsSetting s) (done es : List Event) (w new : World) → AreEvents done → AreEvents es → FoldsTo Happens (opening s) done w → FoldsTo Happens w es new → AllReadOn w × AllReadAfter w → AllReadOn new × AllReadAfter new
events-read s ok done [] w new fine more before same all = subst (λ (z : World). AllReadOn z × AllReadAfter z) same all
events-read s ok done (e ∷ es) w new fine more before (mid, one, rest) all =
    let runs : Runs s done None w = (w, before, refl) in
    let next : FoldsTo Happens (opening s) (done ++ e ∷ []) mid = folds-snoc done (opening s) w mid e before one in
    let runs_next : Runs s (done ++ e ∷ []) None mid = (mid, next, refl) in
    let fine_next : AreEvents (done ++ e ∷ []) = are-snoc done e fine (more 0 e refl) in
    events-read s ok (done ++ e ∷ []) es mid new fine_next (λ i f at. more (suc i) f at) next rest
    (pair mid (all-read w mid (event-hears w mid e (runs-hear s done None w ok fine runs) one) (run-heard s done None w ok fine runs) (run-served s done None w ok runs) (run-sided s (done ++ e ∷ []) None mid ok fine_next runs_next) (run-after s (done ++ e ∷ []) None mid ok runs_next) all))

pub stops-hears : (mid : World) (stopped : Option Event) (w : World) → StopsAt mid stopped w → AllHear mid w
stops-hears mid (Some (event.Tick moment)) w stops = elim stops [
  | inl same ↦ grown-hears mid w (grown-self mid w same)
  | inr ticked ↦ grown-hears mid w (ticks-grown moment mid (clients_below ticked.0) w ticked.3)
]
stops-hears mid stopped w stops = grown-hears mid w (grown-self mid w stops)

pub run-read : (s : Setting) (es : List Event) (stopped : Option Event) (w : World) → IsSetting s → AreEvents es → Runs s es stopped w → AllReadOn w × AllReadAfter w
run-read s es stopped w ok fine (mid, folds, stops) =
    pair w
    (all-read mid w (stops-hears mid stopped w stops) (run-heard s es None mid ok fine (mid, folds, refl)) (run-served s es None mid ok (mid, folds, refl)) (run-sided s es stopped w ok fine (mid, folds, stops)) (run-after s es stopped w ok (mid, folds, stops))
    (events-read s ok [] es (opening s) mid (λ i e at. absurd (none_at i e at)) fine refl folds (λ n c at. absurd (none_at n c at), λ n c at. absurd (none_at n c at))))

-- ---- what the statement says

-- what is meant by a message on a channel
asks-on : (s : Sent) → Suits s.intent s.message → IsOnChannel s.message → (a : ℕ) × (ask : Ask) × (s.intent ≡ On a ask) × (ask ≡ Create → ⊥)
asks-on s suits on = go s.intent refl suits
  where
    differ : (x y : ℕ) → s.message.command ≡ x → s.message.command ≡ y → (x ≡ y → ⊥) → ⊥
    differ x y is other apart = apart (sym is ∙ other)

    go : (i : Intent) → s.intent ≡ i → Suits i s.message → (a : ℕ) × (ask : Ask) × (s.intent ≡ On a ask) × (ask ≡ Create → ⊥)
    go (On a Clear) is suits = (a, Clear, is, λ e. cc)
    go (On a (Request kind number)) is suits = (a, Request kind number, is, λ e. cc)
    go (On a (Subscribe number)) is suits = (a, Subscribe number, is, λ e. cc)
    go (On a (Cancel number)) is suits = (a, Cancel number, is, λ e. cc)
    go (On a Create) is suits = absurd (elim on [
      | inl reads ↦ differ 18 15 suits reads (λ e. absurd (omega (arith, e)))
      | inr (inl puts) ↦ differ 18 19 suits puts (λ e. absurd (omega (arith, e)))
      | inr (inr (inl writes)) ↦ differ 18 4 suits writes (λ e. absurd (omega (arith, e)))
      | inr (inr (inr (inl adds))) ↦ differ 18 1 suits adds (λ e. absurd (omega (arith, e)))
      | inr (inr (inr (inr (inl cancels)))) ↦ differ 18 2 suits cancels (λ e. absurd (omega (arith, e)))
      | inr (inr (inr (inr (inr clears)))) ↦ differ 18 12 suits clears (λ e. absurd (omega (arith, e)))
    ])
    go history.OfCircuit is suits = absurd (elim on [
      | inl reads ↦ suits (Request Read 0) reads
      | inr (inl puts) ↦ suits (Request Put 0) puts
      | inr (inr (inl writes)) ↦ suits (Request Write 0) writes
      | inr (inr (inr (inl adds))) ↦ suits (Subscribe 0) adds
      | inr (inr (inr (inr (inl cancels)))) ↦ suits (Cancel 0) cancels
      | inr (inr (inr (inr (inr clears)))) ↦ suits Clear clears
    ])

module _ (c : Joined) (created : CreatedOn c) (under : AreUnder c.lists) (asked : (k : ℕ) (s : Sent) → At c.lists.up k s → Suits s.intent s.message) (read : ReadOn c.lists) (after : ReadAfter c.lists) (cids : AreCids c.lists.up) where
  abbrev did : Conduct
  did = client_conduct c.lists

  pub legal-channels : SendsOnChannels did
  legal-channels p m at on =
      let s = At-mapped (λ (z : Sent). z.message) c.lists.up p m at in
      let means = asks-on s.0 (asked p s.0 s.1) (subst (λ (z : Fields). IsOnChannel z) s.2 on) in
      let r = read p means.0 s.0 means.1 s.1 means.2 means.3 in
      let b = r.5 in
      let sid : ℕ = sid_in s.0.message in
      let about = created.about r.0 sid b.t b.told.0 b.told.2 b.told.3 in
      let same : about.1.0 ≡ b.r = At-one c.lists.up r.1 about.1.0 b.r (subst (λ (z : ℕ). At c.lists.up z about.1.0) b.told.1 about.1.1) b.asked.0 in
      let creates : Is command.CreateChannel b.r.message = subst (λ (z : Sent). Is command.CreateChannel z.message) same about.1.2 in
      let copy : b.t.message.p1 ≡ b.r.message.p1 = created.copies r.0 sid b.t b.r b.told.0 b.told.2 b.told.3 (subst (λ (z : ℕ). At c.lists.up z b.r) (sym b.told.1) b.asked.0) in
      let first : b.t.place < r.2.sent = after r.0 r.2 b.t r.3 b.told.0 in (
        r.1,
        r.0,
        b.t.message.p1,
        subst (λ (z : ℕ). HasChannel did p r.1 r.0 b.t.message.p1 z) (ap (λ (z : Fields). sid_in z) (sym s.2)) (
          b.r.message,
          b.t.message,
          At-map (λ (z : Sent). z.message) c.lists.up r.1 b.r b.asked.0,
          (creates, sym copy),
          (r.2.sent, At-map (λ (z : Told). z.message) c.lists.down r.0 b.t b.told.0, At-map (λ (z : Step). z.sent) c.lists.heard r.0 r.2 r.3, subst (λ (z : ℕ). z < r.2.sent) b.told.1 first, r.4),
          b.told.3,
          refl,
          λ l q late before there clears same_cid.
              let v = At-mapped (λ (z : Sent). z.message) c.lists.up l q there in
              uncleared c created under asked means.0 r.0 r.1 sid p b (l, v.0, late, before, v.1, subst (λ (z : Fields). Clears z sid) v.2 clears),
        ),
        λ clears.
            let is_clear : means.1 ≡ Clear = clear-is means.1 s.0.message (subst (λ (z : Intent). Suits z s.0.message) means.2 (asked p s.0 s.1)) (subst (λ (z : Fields). Is command.ClearChannel z) s.2 clears) in
            let meant : s.0.intent ≡ On means.0 Clear = means.2 ∙ ap (λ (z : Ask). On means.0 z) is_clear in
            ap (λ (z : Fields). z.p2) s.2 ∙ sym (cids r.1 p means.0 b.r s.0 b.asked.0 s.1 b.asked.1 meant) ∙ sym copy,
      )

module _ (c : Joined) (created : CreatedOn c) (under : AreUnder c.lists) (asked : (k : ℕ) (s : Sent) → At c.lists.up k s → Suits s.intent s.message) (read : ReadOn c.lists) (after : ReadAfter c.lists) (cids : AreCids c.lists.up)
    (log late : ℕ) (order : InOrder c.lists.handled (length c.lists.up) (length c.lists.down) log) (steps : InOrder c.lists.heard (length c.lists.down) (length c.lists.up) late) (come : ComeAfter c.lists) (right : RemovedRight c) (cut : CutOn c.lists) where
  abbrev done : Conduct
  done = client_conduct c.lists

  -- no SERVER_DISCONN for a channel was read before another message than its
  -- CLEAR_CHANNEL went out on it
  uncut : (a j k p sid : ℕ) (s : Sent) → At c.lists.up p s → (b : IsCreatedBefore c.lists a j k sid p) → (Is command.ClearChannel s.message → ⊥) → (l : ℕ) (q : Fields) → j < l → ReadsBetween done k p l q → IsDisconnect b.t.message.p1 q → ⊥
  uncut a j k p sid s at_s b other l q lt reads ends =
      let v = At-mapped (λ (z : Told). z.message) c.lists.down l q reads.1 in
      let h = At-mapped (λ (z : Step). z.sent) c.lists.heard l reads.0 reads.2 in
      let until : reads.0 ≤ p = reads.4 in
      let is : reads.0 ≡ h.0.sent = h.2 in
      let r = right l v.0 v.1 (subst (λ (z : Fields). Is command.ServerDisconnect z) v.2 ends.0) in
      let same : r.u.message.p1 ≡ b.t.message.p1 = r.cid ∙ ap (λ (z : Fields). z.p1) (sym v.2) ∙ ends.1 in
      elim (three-ways r.i j) [
        | inl first ↦
            let w = (created.owned r.i j r.sid sid r.u b.t first r.at b.told.0 r.reply b.told.2 r.creates b.told.3 same).1 in
            let f = come j b.t b.told.0 in
            let le : f.0.sent ≤ j = f.2 in
            elim (At-or c.lists.handled w.0) [
              | inl g ↦
                  let rise : g.0.sent ≤ f.0.sent = (order.rise w.0 b.t.place g.0 f.0 w.3 g.1 f.1).0 in
                  r.uncleared w.0 w.1 g.0 w.2 g.1 (omega (arith, rise, le, lt)) w.4 w.5
              | inr past ↦ (let within : b.t.place < length c.lists.handled = At-within c.lists.handled b.t.place f.0 f.1 in let below : w.0 < b.t.place = w.3 in omega (arith, within, below, past))
            ]
        | inr (inl one) ↦
            let u_is : r.u ≡ b.t = At-one c.lists.down j r.u b.t (subst (λ (z : ℕ). At c.lists.down z r.u) one r.at) b.told.0 in
            let z = cut l h.0 v.0 h.1 v.1 r.removal in
            let place : z.2.place ≡ b.t.place = z.6 ∙ sym r.place ∙ ap (λ (x : Told). x.place) u_is in
            let index : z.0 ≡ j = created.once z.0 j z.1 sid z.2 b.t z.3 b.told.0 z.4 b.told.2 z.5 b.told.3 place in
            let t_is : z.2 ≡ b.t = At-one c.lists.down j z.2 b.t (subst (λ (x : ℕ). At c.lists.down x z.2) index z.3) b.told.0 in
            let sids : z.1 ≡ sid = sym z.5.1 ∙ ap (λ (x : Told). x.message.p2) t_is ∙ b.told.3.1 in
            let clears : Clears z.7.1.message sid = subst (λ (x : ℕ). Clears z.7.1.message x) sids z.7.5 in
            let from : k < z.7.0 = (let x : z.2.place < z.7.0 = z.7.2 in let e : z.2.place ≡ k = place ∙ b.told.1 in omega (arith, x, e)) in
            let upto : z.7.0 ≤ h.0.sent = z.7.3 in
            elim (three-ways z.7.0 p) [
              | inl before ↦ uncleared c created under asked a j k sid p b (z.7.0, z.7.1, from, before, z.7.4, clears)
              | inr (inl here) ↦ other (subst (λ (x : Sent). Is command.ClearChannel x.message) (At-one c.lists.up p z.7.1 s (subst (λ (x : ℕ). At c.lists.up x z.7.1) here z.7.4) at_s) clears.0)
              | inr (inr past) ↦ omega (arith, past, upto, is, until)
            ]
        | inr (inr last) ↦
            let w = (created.owned j r.i sid r.sid b.t r.u last b.told.0 r.at b.told.2 r.reply b.told.3 r.creates (sym same)).1 in
            let in_it : l < length c.lists.heard = At-within c.lists.heard l h.0 h.1 in
            let early : r.i < l = r.early in
            let g = At-below c.lists.heard r.i (omega (arith, in_it, early)) in
            let asked_by : r.u.place < g.0.sent = after r.i g.0 r.u g.1 r.at in
            let rise : g.0.sent ≤ h.0.sent = (steps.rise r.i l g.0 h.0 r.early g.1 h.1).0 in
            let below : w.0 < r.u.place = w.3 in
            uncleared c created under asked a j k sid p b (w.0, w.1, subst (λ (z : ℕ). z < w.0) b.told.1 w.2, omega (arith, below, asked_by, rise, is, until), w.4, w.5)
      ]

  pub legal-on-channel : (p : ℕ) (m : Fields) → At done.sent p m → IsOnChannel m → (i j cid : ℕ) × HasChannel done p i j cid (sid_in m)
      × ((Is command.ClearChannel m × (m.p2 ≡ cid)) ⊎ ((Is command.ClearChannel m → ⊥) × ((l : ℕ) (r : Fields) → j < l → ReadsBetween done i p l r → IsDisconnect cid r → ⊥)))
  legal-on-channel p m at on =
      let s = At-mapped (λ (z : Sent). z.message) c.lists.up p m at in
      let means = asks-on s.0 (asked p s.0 s.1) (subst (λ (z : Fields). IsOnChannel z) s.2 on) in
      let r = read p means.0 s.0 means.1 s.1 means.2 means.3 in
      let b = r.5 in
      let sid : ℕ = sid_in s.0.message in
      let about = created.about r.0 sid b.t b.told.0 b.told.2 b.told.3 in
      let same : about.1.0 ≡ b.r = At-one c.lists.up r.1 about.1.0 b.r (subst (λ (z : ℕ). At c.lists.up z about.1.0) b.told.1 about.1.1) b.asked.0 in
      let creates : Is command.CreateChannel b.r.message = subst (λ (z : Sent). Is command.CreateChannel z.message) same about.1.2 in
      let copy : b.t.message.p1 ≡ b.r.message.p1 = created.copies r.0 sid b.t b.r b.told.0 b.told.2 b.told.3 (subst (λ (z : ℕ). At c.lists.up z b.r) (sym b.told.1) b.asked.0) in
      let first : b.t.place < r.2.sent = after r.0 r.2 b.t r.3 b.told.0 in (
        r.1,
        r.0,
        b.t.message.p1,
        subst (λ (z : ℕ). HasChannel done p r.1 r.0 b.t.message.p1 z) (ap (λ (z : Fields). sid_in z) (sym s.2)) (
          b.r.message,
          b.t.message,
          At-map (λ (z : Sent). z.message) c.lists.up r.1 b.r b.asked.0,
          (creates, sym copy),
          (r.2.sent, At-map (λ (z : Told). z.message) c.lists.down r.0 b.t b.told.0, At-map (λ (z : Step). z.sent) c.lists.heard r.0 r.2 r.3, subst (λ (z : ℕ). z < r.2.sent) b.told.1 first, r.4),
          b.told.3,
          refl,
          λ l q late before there clears same_cid.
              let v = At-mapped (λ (z : Sent). z.message) c.lists.up l q there in
              uncleared c created under asked means.0 r.0 r.1 sid p b (l, v.0, late, before, v.1, subst (λ (z : Fields). Clears z sid) v.2 clears),
        ),
        elim (same-or m.command 12) [
          | inl clears ↦
              let is_clear : means.1 ≡ Clear = clear-is means.1 s.0.message (subst (λ (z : Intent). Suits z s.0.message) means.2 (asked p s.0 s.1)) (subst (λ (z : Fields). Is command.ClearChannel z) s.2 clears) in
              let meant : s.0.intent ≡ On means.0 Clear = means.2 ∙ ap (λ (z : Ask). On means.0 z) is_clear in
              inl (clears, ap (λ (z : Fields). z.p2) s.2 ∙ sym (cids r.1 p means.0 b.r s.0 b.asked.0 s.1 b.asked.1 meant) ∙ sym copy)
          | inr other ↦ inr (other, λ l q late reads ends. uncut means.0 r.0 r.1 p sid s.0 s.1 b (λ clears. other (subst (λ (z : Fields). Is command.ClearChannel z) (sym s.2) clears)) l q late reads ends)
        ],
      )

pub run-channels : (s : Setting) (es : List Event) (stopped : Option Event) (w : World) → IsSetting s → AreEvents es → Runs s es stopped w → ClientsSendOnChannels w
run-channels s es stopped w ok fine runs n d at =
    let j = At-mapped circuit_of w.circuits n d at in
    let l = run-server-steps s es stopped w ok runs n d at in
    let c : Joined = j.0 in
    let r = run-read s es stopped w ok fine runs in (
      l.0,
      l.1,
      l.2,
      subst (λ (v : Circuit). SendsOnChannels (client_conduct v)) (sym j.2)
          (legal-channels c (reached-created w (s, es, stopped, ok, runs) n c j.1) ((run-sided s es stopped w ok fine runs).right n c j.1).under (λ k q there. (run-serves s es stopped w ok runs).stands.asked n k c q j.1 there) (r.0 n c j.1) (r.1 n c j.1) ((quiet-runs s es stopped w runs).cids n c j.1)),
    )
