-- What the loops of `orders::outcomes` keep: what is still to be written from here on makes the area that was promised. Assumes nothing.
use Rattle.std.proofs.Common.{suc, ◌+◌, ◌*◌, ◌-◌, ◌≤◌, length}
use Rattle.orders.specs.Start.{outcomes_from}
use Rattle.orders.proofs.StartTurns.{Leaves}
use Rattle.orders.proofs.outcomes.Given as goal

abbrev pub invariant-loop-at : goal.invariant-loop-at
invariant-loop-at l = (l.top ≤ 512 * l.at) × Leaves l.list 0 l.at l.top l.area (outcomes_from (suc (length l.list)) 0 l.list 0 0 l.fn.area)

abbrev pub decreases-loop-at : goal.decreases-loop-at
decreases-loop-at l = length l.list - l.at

-- a message takes less than 1024 bytes of the list
abbrev pub invariant-loop : goal.invariant-loop
invariant-loop l =
    (l.initial.at ≤ l.at) × (l.at ≤ l.initial.at + 1024 * l.counter) × (l.top ≤ 512 * l.at)
    × Leaves l.list (l.count - l.counter) l.at l.top l.area (outcomes_from (suc (length l.list)) 0 l.list 0 0 l.fn.area)
