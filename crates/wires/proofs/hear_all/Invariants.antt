-- Within a tick, the chips that have heard and those that have not. Assumes nothing.
use Rattle.std.proofs.Common.{◌*◌, ◌≤◌, length}
use Rattle.board.specs.Seats.{seated}
use Rattle.board.proofs.Turns.{Hearing}
use Rattle.wires.proofs.hear_all.Given as goal

abbrev pub invariant-loop-seat : goal.invariant-loop-seat
invariant-loop-seat l = record {
  small : l.begin ≤ 4096 * l.seat-index;
  hearing : let n = length l.initial.seats in
      Hearing l.asked l.tick l.event n l.seat-index l.begin (seated n l.initial.seats l.initial.memory) l.seats l.memory l.up;
}
