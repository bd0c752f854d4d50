-- After every run each notice that does not tell Disconnected was told when a reply about its
-- own message was read.
use Rattle.std.proofs.Common.{◌≡◌, ℕ, ◌⊎◌, inl, inr, true, List, length, Option, Some, None, refl, sym, ap, subst, ◌∙◌}
use Rattle.ca_arena.specs.declared.handle.Handle.{Handle}
use Rattle.ca_dbr.specs.declared.value.Outcome.{Outcome}
use Rattle.ca_dbr.specs.declared.value.Outcome.TheVariants as outcome
use Rattle.ca_ids.specs.Table.{under}
use Rattle.ca_requests.specs.Requests.{Request}
use Rattle.ca_text.specs.Place.{At}
use Rattle.ca_text.proofs.Places.{At-map, At-mapped}
use Rattle.ca_wire.specs.Header.{HeaderFits}
use Rattle.ca_wire.specs.Message.{header_of}
use Rattle.ca_model.specs.Answers.{Notice}
use Rattle.ca_model.specs.Answers as notice
use Rattle.ca_model.specs.Client.{Client}
use Rattle.ca_model.specs.ClientEnds.{after_taking}
use Rattle.ca_model.specs.Hears.{Effect}
use Rattle.ca_model.specs.History.{Create, Intent, Line, Noticed, On, Sent}
use Rattle.ca_model.specs.History as history
use Rattle.ca_model.specs.Channels.{IsRequest}
use Rattle.ca_model.specs.ClientEvents.{about_at, channel_number, line_of, meant_by, write_number}
use Rattle.ca_model.specs.Events.{Event}
use Rattle.ca_model.specs.Runs.{AreEvents, Runs}
use Rattle.ca_model.specs.World.{ClientSide, IsSetting, Joined, Names, Setting, World}
use Rattle.ca_laws_parts.specs.Runs.{HearsSent}
use Rattle.ca_laws_parts.specs.ServerFits.{AllCaused}
use Rattle.ca_laws_parts.proofs.Causes.{runs-caused}
use Rattle.ca_laws_parts.proofs.BytesRuns.{runs-stand}
use Rattle.ca_laws_parts.proofs.ServerSpeaking.{runs-hear}
use Rattle.ca_laws_parts.proofs.Refused.{heard-is}
use Rattle.ca_laws_runs.specs.HeldAnswering.{AllAnswer}
use Rattle.ca_laws_runs.specs.Held.{AllCircuitsHeld}
use Rattle.ca_laws_runs.specs.OrderSteps.{HaveLives}
use Rattle.ca_laws_runs.specs.Quiet.{ClientsQuiet}
use Rattle.ca_laws_runs.specs.Tells.{NoticesTell}
use Rattle.ca_laws_runs.specs.ToldLines.{IsToLast}
use Rattle.ca_laws_runs.proofs.Going.{AllOpenLive}
use Rattle.ca_laws_runs.proofs.Joint.{run-held, run-tells}
use Rattle.ca_laws_runs.proofs.Kept.{quiet-runs}
use Rattle.ca_laws_runs.proofs.OnceRuns.{once-runs}
use Rattle.ca_laws_runs.proofs.OnceWorld.{OnceStand}
use Rattle.ca_laws_runs.proofs.OpenRuns.{open-runs}
use Rattle.ca_laws_runs.proofs.OrderKeeps.{IsHearing, hear-lines, run-lives}
use Rattle.ca_laws_runs.proofs.Replied.{reached-answer}
use Rattle.ca_laws_runs.proofs.ToldAsked.{tells-asked}
use Rattle.ca_laws_runs.proofs.ToldLines.{IsSilent, lines-grown}
use Rattle.ca_laws_runs.proofs.ToldQuiet.{IsGoodbye, tells-held}
use Rattle.ca_laws_runs.proofs.ToldRemoval.{AllRemovals, run-removals}
use Rattle.ca_laws_runs.proofs.ToldRequests.{request-news}
use Rattle.ca_laws_runs.proofs.ToldRuns.{HearsNews, run-updates}
use Rattle.ca_laws_runs.proofs.ToldSteps.{IsReply, lasting-news, next, noticed-intent, noticed-outcome}
use Rattle.ca_laws_runs.proofs.ToldUpdates.{IsRead}

-- The line is a notice that does not tell Disconnected.
abbrev pub TellsHere : Line → Intent → Outcome → Type 0
TellsHere line intent o = (line ≡ Noticed intent o) × (o ≡ outcome.Disconnected → ⊥)

module _ (w new : World) (k : ℕ) (j : Joined) (x : ClientSide) (on : At w.circuits k j) (at : At w.clients j.client x) (opened : j.lists.client_open ≡ true) (f : IsHearing w new k j x)
    (hears : HearsSent w) (caused : AllCaused w) (answer : AllAnswer w) (removals : AllRemovals w) (tells : NoticesTell w k) (held : AllCircuitsHeld w) (once : OnceStand w) (quiet : ClientsQuiet w) (lives : HaveLives w)
    (live : AllOpenLive w) (fits : (p : ℕ) (s : Sent) → At j.lists.up p s → HeaderFits (header_of s.message)) where
  abbrev about : Intent
  about = about_at j.lists (length j.lists.heard)

  row-asks : (q : Handle) (r : Request) → under x.core.requests q ≡ Some r → (intent : Intent) → meant_by x.names.requests q ≡ intent → IsRequest intent
  row-asks q r there intent is = (let m = (quiet.tidy j.client x at).requests q r there in subst (λ (v : Intent). IsRequest v) (sym m.3 ∙ is) tt)

  -- what a notice tells of
  kind-of : (p : ℕ) (said : Notice) → At f.notices p said → (intent : Intent) (o : Outcome) → line_of about x.names said ≡ Noticed intent o → IsRequest intent ⊎ IsToLast intent
  kind-of p (notice.Update g out) at_p intent o is = absurd cc
  kind-of p (notice.Live h) at_p intent o is = inr (subst (λ (v : Intent). IsToLast v) (noticed-intent (On (channel_number x.names h) Create) intent outcome.Done o is) tt)
  kind-of p (notice.Lost h) at_p intent o is = inr (subst (λ (v : Intent). IsToLast v) (noticed-intent (On (channel_number x.names h) Create) intent outcome.Disconnected o is) tt)
  kind-of p (notice.WriteRefused h status) at_p intent o is =
      inl (subst (λ (v : Intent). IsRequest v) (noticed-intent (On (channel_number x.names h) (history.Request history.Write (write_number about))) intent (outcome.Failed status) o is) tt)
  kind-of p (notice.Completed q out) at_p intent o is =
      let n = next w new k j x on at opened f hears caused answer removals tells held once quiet lives in
      let e : Effect = record { core = f.core; sent = f.sent; notices = f.notices } in
      let meant : meant_by x.names.requests q ≡ intent = noticed-intent (meant_by x.names.requests q) intent out o is in
      elim (tells-asked (after_taking j.at_client n.rest x.core) j.at_client n.m e n.hear p (notice.Completed q out) at_p) [
        | inl answered ↦ inl (row-asks q answered.2.0 answered.2.1 intent meant)
        | inr parted ↦ (let r = parted.1.2 in inl (row-asks q r.0 r.1 intent meant))
      ]
  kind-of p (notice.SubscriptionEnded g status) at_p intent o is =
      let n = next w new k j x on at opened f hears caused answer removals tells held once quiet lives in
      let e : Effect = record { core = f.core; sent = f.sent; notices = f.notices } in
      let z : Client = after_taking j.at_client n.rest x.core in
      let u = tells-held z j.at_client n.m e n.hear p (notice.SubscriptionEnded g status) at_p in
      let found = heard-is z j.at_client u.2.0 g u.2.1 in
      let m = (quiet.tidy j.client x at).subscriptions g found.0 found.1 in
      inr (subst (λ (v : Intent). IsToLast v) (sym m.2 ∙ noticed-intent (meant_by x.names.subscriptions g) intent (outcome.Failed status) o is) tt)

  pub notice-news : (life : ℕ) (y : List Line) (i : ℕ) (line : Line) (intent : Intent) (o : Outcome) → At new.client_logs life y → At y i line → TellsHere line intent o → ((log : List Line) × At w.client_logs life log × At log i line) ⊎ IsRead IsReply new life y i intent o
  notice-news life y i line intent o there here is =
      let lines : List Line = hear-lines w new k j x on at f in
      elim (lines-grown w.client_logs x.life lines (lives.present j.client x at) life y i line (subst (λ (v : List (List Line)). At v life y) (ap (λ (v : World). v.client_logs) f.is) there) here) [
        | inl old ↦ inl old
        | inr more ↦
            let m = At-mapped (line_of about x.names) f.notices more.1 line more.5 in
            elim (kind-of more.1 m.0 m.1 intent o (sym m.2 ∙ is.0)) [
              | inl asks ↦ request-news w new k j x on at opened f hears caused answer removals tells held once quiet lives live fits life y i line intent o there here (is.0, asks, is.1)
              | inr lasts ↦ lasting-news w new k j x on at opened f hears caused answer removals tells held once quiet lives life y i line intent o there here (is.0, lasts, is.1)
            ]
      ]

-- ---- runs

abbrev NotHere : Line → Type 0
NotHere line = (intent : Intent) (o : Outcome) → TellsHere line intent o → ⊥

silent-none : (line : Line) → IsSilent line → NotHere line
silent-none line silent intent o is = subst (λ (l : Line). IsSilent l) is.0 silent

goodbye-none : (about : Intent) (n : Names) (o : Notice) → IsGoodbye o → NotHere (line_of about n o)
goodbye-none spoken n (notice.Completed q out) bye intent o is = is.1 (sym (noticed-outcome (meant_by n.requests q) intent out o is.0) ∙ bye)
goodbye-none spoken n (notice.Lost h) bye intent o is = is.1 (sym (noticed-outcome (On (channel_number n h) Create) intent outcome.Disconnected o is.0))
goodbye-none spoken n (notice.Live h) bye intent o is = absurd bye
goodbye-none spoken n (notice.Update g q) bye intent o is = absurd bye
goodbye-none spoken n (notice.SubscriptionEnded g s) bye intent o is = absurd bye
goodbye-none spoken n (notice.WriteRefused h s) bye intent o is = absurd bye

hears-notices : HearsNews IsReply TellsHere
hears-notices s es w new k ok are runs happens f =
    notice-news w new k happens.0.j happens.0.x happens.0.joins.at happens.0.joins.client happens.0.is_open f
    (runs-hear s es None w ok are runs) (runs-caused s es None w ok are runs) (reached-answer w (s, es, None, ok, runs)) (run-removals s es None w ok runs) (run-tells s es None w new k ok are runs happens)
    (run-held s es None w ok are runs) (once-runs s es None w runs) (quiet-runs s es None w runs) (run-lives s es None w runs) (open-runs s es None w runs)
    (λ p q at. ((runs-stand s es None w ok runs).fit.sent k happens.0.j happens.0.joins.at p q.message (At-map (λ (z : Sent). z.message) (happens.0.j).lists.up p q at)).header)

pub notices-read : (s : Setting) (es : List Event) (stopped : Option Event) (w : World) → IsSetting s → AreEvents es → Runs s es stopped w → (life : ℕ) (x : List Line) (i : ℕ) (intent : Intent) (o : Outcome) → At w.client_logs life x → At x i (Noticed intent o) → (o ≡ outcome.Disconnected → ⊥) → IsRead IsReply w life x i intent o
notices-read s es stopped w ok are runs life x i intent o at there here =
    run-updates IsReply TellsHere NotHere (record { silent = silent-none; goodbye = goodbye-none }) (λ line a b none is. none a b is) hears-notices s es stopped w ok are runs life x i (Noticed intent o) intent o at there (refl, here)
