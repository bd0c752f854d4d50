-- Vocabulary: the words of cells.
use Rattle.std.specs.Prelude.{ℕ, ◌+◌, ◌*◌}
use Rattle.ca_board.specs.declared.ticket.Ticket.{Ticket}
use Rattle.ca_board.specs.declared.word.CellState.{CellState}
use Rattle.ca_board.specs.declared.word.CellState.TheVariants.{Free, Waiting, Done, Taken, Empty}
use Rattle.ca_board.specs.declared.word.CellState.TheVariants.{GivenUp}

-- the number of a state in a word
abbrev pub state_number : CellState → ℕ
state_number Free = 0
state_number Waiting = 1
state_number Done = 2
state_number Taken = 3
state_number Empty = 4
state_number GivenUp = 5

-- the word of a ticket's cell in this state: 8 times its generation, and the number of the state
abbrev pub word_of : Ticket → CellState → ℕ
word_of t state = 8 * t.generation + state_number state
