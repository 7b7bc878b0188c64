-- What the loop of `plain::chips::all_stop` keeps: the chips so far have stopped. Assumes nothing.
use Rattle.std.proofs.Common.{◌≡◌, length}
use Rattle.board.specs.Seats.{offset}
use Rattle.plain.proofs.Stopping.{Stopped}
use Rattle.plain.proofs.chips.all_stop.Given as goal

abbrev pub invariant-loop-i : goal.invariant-loop-i
invariant-loop-i l =
    (length l.chips.0 ≡ 8) × (l.chips.1.0 ≡ l.initial.chips.1.0) × (l.a ≡ offset l.i l.chips.0) × (offset l.i-end l.chips.0 ≡ length l.memory) × (length l.memory ≡ length l.initial.memory)
    × Stopped l.asked l.tick l.i-end l.i l.initial.chips.0 l.initial.memory l.chips.0 l.memory
