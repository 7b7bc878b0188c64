-- What the loop of `plain::chips::value_of` keeps: none of the chips so far listens. Assumes nothing.
use Rattle.std.proofs.Common.{◌≡◌, drop}
use Rattle.board.specs.Seats.{offset}
use Rattle.plain.specs.Plain.{listens, value_of}
use Rattle.plain.specs.Inside.{cells_of}
use Rattle.plain.proofs.chips.value_of.Given as goal

abbrev pub invariant-loop-i : goal.invariant-loop-i
invariant-loop-i l =
    (l.a ≡ offset l.i l.chips.seats)
    × (value_of (listens l.call.address l.call.tick) (drop l.i (cells_of l.chips.count l.chips.seats l.memory)) ≡ value_of (listens l.call.address l.call.tick) (cells_of l.chips.count l.chips.seats l.memory))
