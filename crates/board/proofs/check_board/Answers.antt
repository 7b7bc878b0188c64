-- `board::check_board` meets its contract: the refusals in their order. Assumes nothing.
use Rattle.board.proofs.Range.{no_memory, no_states, bad_state, bad_hold, too_busy, right_board}
use Rattle.board.proofs.check_board.Goals as goal
use Rattle.board.proofs.check_board.Goals.{then-memory-size-via-then-memory-size, then-memory-size-via-else-memory-size+then-states-count}

pub returns-then-memory-size : goal.returns-then-memory-size
returns-then-memory-size c = elim c.then-memory-size.branch [
  | then-memory-size-via-then-memory-size w ↦ search no_memory
  | then-memory-size-via-else-memory-size+then-states-count w ↦ search no_states
]

pub returns-then-not-states_right : goal.returns-then-not-states_right
returns-then-not-states_right c = search bad_state

pub returns-then-not-all_within : goal.returns-then-not-all_within
returns-then-not-all_within c = search bad_hold

pub returns-then-asked-gt-MOST_BUSY : goal.returns-then-asked-gt-MOST_BUSY
returns-then-asked-gt-MOST_BUSY c = search too_busy

pub returns : goal.returns
returns c = search right_board
