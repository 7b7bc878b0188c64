-- What the loop of `board::states_right` keeps: the states so far are in range. Assumes nothing.
use Rattle.board.proofs.Range.{Looked}
use Rattle.board.proofs.states_right.Given as goal

abbrev pub invariant-loop-strap : goal.invariant-loop-strap
invariant-loop-strap l = Looked l.marks l.states l.strap
