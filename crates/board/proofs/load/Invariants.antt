-- What the loop of `board::load` keeps: the places below a strap are filled, strap after strap. Assumes nothing.
use Rattle.std.proofs.Common.{◌≡◌, length}
use Rattle.board.proofs.Loading.{Filled}
use Rattle.board.proofs.load.Given as goal

abbrev pub invariant-loop-strap : goal.invariant-loop-strap
invariant-loop-strap l = (length l.seats ≡ 8) × Filled l.marks l.states l.seats l.strap
