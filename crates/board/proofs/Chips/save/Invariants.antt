-- What the loop of `board::Chips::save` keeps: the states of the chips so far are written. Assumes nothing.
use Rattle.std.proofs.Common.{◌≡◌, length}
use Rattle.board.proofs.Saving.{Saved}
use Rattle.board.proofs.Chips.save.Given as goal

abbrev pub invariant-loop-i : goal.invariant-loop-i
invariant-loop-i l = (length l.states ≡ length l.initial.states) × Saved l.tick l.i-end l.i l.self.seats l.states
