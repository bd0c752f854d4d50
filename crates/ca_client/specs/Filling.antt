-- Working: completions that are handed over, one after another.
use Rattle.std.specs.Prelude.{◌≡◌, List}
use Rattle.ca_board.specs.declared.ticket.Ticket.{Ticket}
use Rattle.ca_board.specs.Views.{CoreView}
use Rattle.ca_client_core.specs.Notices.{completions}
use Rattle.ca_model.specs.Answers.{Notice}
use Rattle.ca_client.specs.Awaited.{Fillable, FillsAll, others}

-- Of the notices these are left, with the seat as it is by now.
pub record Filling (tickets : List Ticket) (v₀ : CoreView) (ns : List Notice) (v : CoreView)
    (left : List Notice) : Type 0 where
  pub due : Fillable tickets v (completions left)
  pub others : others left ≡ others ns
  pub fills : (w : CoreView) → FillsAll tickets v (completions left) w
      → FillsAll tickets v₀ (completions ns) w
