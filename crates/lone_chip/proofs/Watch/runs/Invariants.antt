-- What is left to do from this sample on is what was left at the first. Assumes nothing.
use Rattle.std.proofs.Common.{◌≡◌}
use Rattle.lines.proofs.Records.{leaves}
use Rattle.lone_chip.specs.Alone.{watch_of, chip}
use Rattle.lone_chip.proofs.Watch.runs.Given as goal

abbrev pub invariant-loop-i : goal.invariant-loop-i
invariant-loop-i l =
    leaves (chip l.asked) l.i l.samples (watch_of l.watch l.memory) l.drives
    ≡ leaves (chip l.asked) 0 l.samples (watch_of l.initial.watch l.initial.memory) l.initial.drives
