-- What the loop of `wires::goes` keeps: what is left to run from here does not change, turn by turn. Assumes nothing.
use Rattle.std.proofs.Common.{◌≡◌, ◌-◌, length}
use Rattle.cursor.specs.Cursor.{places}
use Rattle.board.specs.Seats.{seated, offset, all_up}
use Rattle.wires.specs.Wires.{run}
use Rattle.wires.specs.Inside.{limit, bus_on}
use Rattle.wires.proofs.Turns.{finish}
use Rattle.wires.proofs.goes.Given as goal

abbrev pub invariant-loop-t : goal.invariant-loop-t
invariant-loop-t l = record {
  eight : length l.seats ≡ 8;
  up : l.bus.up ≡ all_up (seated l.count l.seats l.memory);
  parts : length l.memory ≡ offset l.count l.seats;
  to_run : finish l.list l.holds l.asked l.t
      (run (places l.list) l.asked (limit - l.t) (bus_on l.holds l.bus (seated l.count l.seats l.memory) l.area l.t)) l.trace
      ≡ finish l.list l.holds l.asked 0
      (run (places l.list) l.asked limit
      (bus_on l.holds l.initial.bus (seated l.count l.initial.seats l.initial.memory) l.initial.area 0)) l.initial.trace;
}

abbrev pub decreases-loop-t : goal.decreases-loop-t
decreases-loop-t l = limit - l.t
