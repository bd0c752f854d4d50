-- After every run each notice of a request that does not tell Disconnected was told when a reply
-- about it was read; and a plain write is told of once.
use Rattle.std.proofs.Common.{◌≡◌, ℕ, List, Option, None, refl, sym, subst, ◌∙◌}
use Rattle.ca_dbr.specs.declared.value.Outcome.{Outcome}
use Rattle.ca_dbr.specs.declared.value.Outcome.TheVariants as outcome
use Rattle.ca_text.specs.Place.{At}
use Rattle.ca_text.proofs.Places.{At-map}
use Rattle.ca_model.specs.Answers.{Notice}
use Rattle.ca_model.specs.Answers as answer
use Rattle.ca_model.specs.History.{Intent, Line, Noticed, On, Create, Sent}
use Rattle.ca_model.specs.Channels.{IsRequest}
use Rattle.ca_model.specs.ClientEvents.{channel_number, line_of, meant_by}
use Rattle.ca_model.specs.Events.{Event}
use Rattle.ca_model.specs.Runs.{AreEvents, Runs}
use Rattle.ca_model.specs.World.{IsSetting, Names, Setting, World}
use Rattle.ca_laws_parts.proofs.Causes.{runs-caused}
use Rattle.ca_laws_parts.proofs.BytesRuns.{runs-stand}
use Rattle.ca_laws_parts.proofs.ServerSpeaking.{runs-hear}
use Rattle.ca_laws_runs.specs.ToldParts.{RequestsAreTold}
use Rattle.ca_laws_runs.proofs.Joint.{run-held, run-tells}
use Rattle.ca_laws_runs.proofs.Kept.{quiet-runs}
use Rattle.ca_laws_runs.proofs.OnceRuns.{once-runs}
use Rattle.ca_laws_runs.proofs.OpenRuns.{open-runs}
use Rattle.ca_laws_runs.proofs.OrderKeeps.{run-lives}
use Rattle.ca_laws_runs.proofs.Replied.{reached-answer}
use Rattle.ca_laws_runs.proofs.ToldLines.{IsSilent}
use Rattle.ca_laws_runs.proofs.ToldQuiet.{IsGoodbye}
use Rattle.ca_laws_runs.proofs.ToldRemoval.{run-removals}
use Rattle.ca_laws_runs.proofs.ToldRequests.{TellsRequest, request-news}
use Rattle.ca_laws_runs.proofs.ToldRuns.{HearsNews, run-updates}
use Rattle.ca_laws_runs.proofs.ToldSteps.{IsReply, noticed-outcome}
use Rattle.ca_laws_runs.proofs.ToldUpdates.{IsRead, to-reads}

abbrev NotAsked : Line → Type 0
NotAsked line = (intent : Intent) (o : Outcome) → TellsRequest line intent o → ⊥

silent-none : (line : Line) → IsSilent line → NotAsked line
silent-none line silent intent o is = subst (λ (l : Line). IsSilent l) is.0 silent

goodbye-none : (about : Intent) (n : Names) (o : Notice) → IsGoodbye o → NotAsked (line_of about n o)
goodbye-none about n (answer.Completed q out) bye intent o is = is.2 (sym (noticed-outcome (meant_by n.requests q) intent out o is.0) ∙ bye)
goodbye-none about n (answer.Lost h) bye intent o is = is.2 (sym (noticed-outcome (On (channel_number n h) Create) intent outcome.Disconnected o is.0))
goodbye-none about n (answer.Live h) bye intent o is = absurd bye
goodbye-none about n (answer.Update g q) bye intent o is = absurd bye
goodbye-none about n (answer.SubscriptionEnded g s) bye intent o is = absurd bye
goodbye-none about n (answer.WriteRefused h s) bye intent o is = absurd bye

hears-requests : HearsNews IsReply TellsRequest
hears-requests s es w new k ok are runs happens f =
    request-news w new k happens.0.j happens.0.x happens.0.joins.at happens.0.joins.client happens.0.is_open f
    (runs-hear s es None w ok are runs) (runs-caused s es None w ok are runs) (reached-answer w (s, es, None, ok, runs)) (run-removals s es None w ok runs) (run-tells s es None w new k ok are runs happens)
    (run-held s es None w ok are runs) (once-runs s es None w runs) (quiet-runs s es None w runs) (run-lives s es None w runs) (open-runs s es None w runs)
    (λ p q at. ((runs-stand s es None w ok runs).fit.sent k happens.0.j happens.0.joins.at p q.message (At-map (λ (z : Sent). z.message) (happens.0.j).lists.up p q at)).header)

pub requests-read : (s : Setting) (es : List Event) (stopped : Option Event) (w : World) → IsSetting s → AreEvents es → Runs s es stopped w → (life : ℕ) (x : List Line) (i : ℕ) (intent : Intent) (o : Outcome) → At w.client_logs life x → At x i (Noticed intent o) → IsRequest intent → (o ≡ outcome.Disconnected → ⊥) → IsRead IsReply w life x i intent o
requests-read s es stopped w ok are runs life x i intent o at there asks here =
    run-updates IsReply TellsRequest NotAsked (record { silent = silent-none; goodbye = goodbye-none }) (λ line a b none is. none a b is) hears-requests s es stopped w ok are runs life x i (Noticed intent o) intent o at there (refl, asks, here)

pub run-requests : (s : Setting) (es : List Event) (stopped : Option Event) (w : World) → IsSetting s → AreEvents es → Runs s es stopped w → RequestsAreTold w
run-requests s es stopped w ok are runs life x at i intent o there asks here =
    to-reads IsReply w life x i intent o (requests-read s es stopped w ok are runs life x i intent o at there asks here)
