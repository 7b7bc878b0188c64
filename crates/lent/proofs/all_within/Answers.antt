-- A bound is looked at byte by byte. Assumes nothing.
use Rattle.lent.proofs.Laws.{one_too_large, one_within, none_left}
use Rattle.lent.proofs.all_within.Goals as goal

pub returns-then-most-x : goal.returns-then-most-x
returns-then-most-x c = search one_too_large

pub loop-x-preserved : goal.loop-x-preserved
loop-x-preserved c = search one_within

pub returns : goal.returns
returns c = search none_left
