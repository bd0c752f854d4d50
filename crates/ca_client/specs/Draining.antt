-- Working: the ends of circuits, whose completions are handed over one end after another.
use Rattle.std.specs.Prelude.{◌≡◌, ℕ, List, ◌++◌, length, map}
use Rattle.ca_board.specs.declared.ticket.Ticket.{Ticket}
use Rattle.ca_board.specs.Views.{CoreView}
use Rattle.ca_client_core.specs.Notices.{completions}
use Rattle.ca_client_core.specs.Ticked.{notices_of}
use Rattle.ca_client_core.specs.declared.ticking.Left.{Left}
use Rattle.ca_client.specs.Awaited.{Fillable, FillsAll, others}

-- an end without its completions
abbrev pub drained : Left → Left
drained l = record l { notices = others l.notices }

-- Of these ends the first i are drained.
pub record Draining (tickets : List Ticket) (v₀ : CoreView) (ls : List Left) (v : CoreView)
    (items : List Left) (i : ℕ) : Type 0 where
  pub before : List Left
  pub after : List Left
  pub split : ls ≡ before ++ after
  pub items_are : items ≡ map drained before ++ after
  pub count : length before ≡ i
  pub due : Fillable tickets v (completions (notices_of after))
  pub fills : (w : CoreView) → FillsAll tickets v (completions (notices_of after)) w
      → FillsAll tickets v₀ (completions (notices_of ls)) w
