-- So far all are within the bound. Assumes nothing.
use Rattle.std.proofs.Common.{◌≡◌, drop}
use Rattle.lent.specs.Areas.{all_within}
use Rattle.lent.proofs.all_within.Given as goal

abbrev pub invariant-loop-x : goal.invariant-loop-x
invariant-loop-x l = all_within l.most (drop l.x-index l.s) ≡ all_within l.most l.s
