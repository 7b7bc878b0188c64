-- Tick by tick, to an end. Assumes nothing.
use Rattle.std.proofs.Common.{rules}
use Rattle.std.proofs.Common.{length-set}
use Rattle.controller.proofs.Record.{run_starts, turn, ends_over, ends_in_full}
use Rattle.controller.proofs.run.Goals as goal

pub loop-t-init : goal.loop-t-init
loop-t-init c = record { answer = search run_starts; long_enough = search rules }

pub returns-then-is_over : goal.returns-then-is_over
returns-then-is_over c = let h = c.loop-t.invariant.answer in search ends_over

pub loop-t-preserved : goal.loop-t-preserved
loop-t-preserved c = let h = c.loop-t.invariant.answer in record { answer = search turn; long_enough = search (rules, length-set) }

pub returns : goal.returns
returns c = let h = c.loop-t.invariant.answer in search ends_in_full
