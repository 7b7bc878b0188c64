-- `messages::places::next_batch` meets its contract, message after message. Assumes nothing.
use Rattle.std.proofs.Common.{rules, arith}
use Rattle.messages.proofs.Walking.{one_passed, all_passed, next_so}
use Rattle.messages.proofs.places.next_batch.Goals as goal

pub loop-preserved : goal.loop-preserved
loop-preserved c = (search rules, search rules, search rules, one_passed _ _ _ _ c.loop.invariant.3 _ (omega arith) _ c.beyond-next-in-loop.ensures.value)

pub returns-clause-value : goal.returns-clause-value
returns-clause-value c =
    next_so _ _ _ _ _ _ c.others-end.ensures c.opened.ensures c.beyond-next.ensures.value (all_passed _ _ _ _ c.loop.invariant.3 (omega arith))
