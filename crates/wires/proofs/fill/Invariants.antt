-- What is left to fill from here on does not change. Assumes nothing.
use Rattle.std.proofs.Common.{◌≡◌, ◌+◌, ◌-◌}
use Rattle.wires.specs.Inside.{filled}
use Rattle.wires.proofs.fill.Given as goal

abbrev pub invariant-loop-i : goal.invariant-loop-i
invariant-loop-i l = filled (l.from + l.count - l.i) l.i l.trace ≡ filled l.count l.from l.initial.trace
