-- What is still to come, from the tick t on, is the answer. Assumes nothing.
use Rattle.std.proofs.Common.{◌≡◌, ◌≤◌, length}
use Rattle.controller.specs.Inside.{control_of, first_of, ran_on}
use Rattle.controller.proofs.Record.{onward}
use Rattle.controller.proofs.run.Given as goal

abbrev pub invariant-loop-t : goal.invariant-loop-t
invariant-loop-t l = record {
  answer : onward l.list l.t l.drives l.samples (control_of l.controller l.results)
      ≡ ran_on l.list l.fn.drives l.samples (control_of (first_of l.list) l.fn.results);
  long_enough : length l.samples ≤ length l.drives;
}
