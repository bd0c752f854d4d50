-- After every run no two ERRORs are about one message, and each quotes its own.
use Rattle.std.proofs.Common.{◌≡◌, ℕ, List, Option, sym, ap, subst, ◌∙◌}
use Rattle.ca_text.specs.Place.{At}
use Rattle.ca_text.proofs.Places.{At-mapped, At-one}
use Rattle.ca_model.specs.History.{Circuit, Step}
use Rattle.ca_model.specs.Events.{Event}
use Rattle.ca_model.specs.Runs.{Runs}
use Rattle.ca_model.specs.World.{IsSetting, Joined, Setting, World, circuit_of}
use Rattle.ca_laws_parts.specs.Runs.{IsReached}
use Rattle.ca_laws_runs.specs.Causes.{AreRefusedOnce, ErrorsQuote, ErrorsQuoteTheirOwn, MessagesAreRefusedOnce}
use Rattle.ca_laws_runs.specs.Created.{CreatedOn}
use Rattle.ca_laws_runs.proofs.Created.{reached-created}
use Rattle.ca_laws_runs.proofs.OrderKeeps.{run-server-steps}
use Rattle.ca_laws_runs.proofs.Replied.{reached-answer}

-- each is the first message of the step that handled what it is about
pub refused-once : (c : Joined) → CreatedOn c → AreRefusedOnce c.lists
refused-once c created i j t u at also same reply says error fails =
    let a = created.refuses i t at reply error in
    let b = created.refuses j u also says fails in
    let one : a.0 ≡ b.0 = At-one c.lists.handled u.place a.0 b.0 (subst (λ (n : ℕ). At c.lists.handled n a.0) same a.1) b.1 in
    sym a.2 ∙ ap (λ (h : Step). h.sent) one ∙ b.2

module _ (s : Setting) (es : List Event) (stopped : Option Event) (w : World) (ok : IsSetting s) (runs : Runs s es stopped w) where
  reached : IsReached w
  reached = (s, es, stopped, ok, runs)

  pub run-refused-once : MessagesAreRefusedOnce w
  run-refused-once n d at =
      let j = At-mapped circuit_of w.circuits n d at in
      let l = run-server-steps s es stopped w ok runs n d at in
      (l.0, l.1, l.2, subst (λ (c : Circuit). AreRefusedOnce c) (sym j.2) (refused-once j.0 (reached-created w reached n j.0 j.1)))

  pub run-errors-quote : ErrorsQuoteTheirOwn w
  run-errors-quote n d at =
      let j = At-mapped circuit_of w.circuits n d at in
      let l = run-server-steps s es stopped w ok runs n d at in (
        l.0,
        l.1,
        l.2,
        subst (λ (c : Circuit). ErrorsQuote c) (sym j.2) (λ i t there reply error.
            let a = reached-answer w reached n i j.0 t j.1 there reply in
            let r = a.2.refuses error in
            (a.0, r.0, r.1, a.1, r.2)),
      )
