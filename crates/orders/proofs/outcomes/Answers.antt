-- `orders::outcomes` meets its contract: an outcome is put, and then its transaction's messages are gone over. Assumes nothing.
use Rattle.std.proofs.Common.{rules, arith}
use Rattle.kinds.proofs.KindLaws.{most_bytes_lem}
use Rattle.orders.proofs.StartTurns.{walk_begins_one, walk_passes_one, walk_ends}
use Rattle.orders.proofs.outcomes.Goals as goal

pub overflow_add-top : goal.overflow_add-top
overflow_add-top c = omega (arith, most_bytes_lem)

pub loop-init : goal.loop-init
loop-init c = (search rules, search rules, search rules, search walk_begins_one)

pub overflow_cast-place : goal.overflow_cast-place
overflow_cast-place c = omega (arith, most_bytes_lem)

pub overflow_add-top-in-loop : goal.overflow_add-top-in-loop
overflow_add-top-in-loop c = omega (arith, most_bytes_lem)

pub loop-preserved : goal.loop-preserved
loop-preserved c = (omega arith, omega arith, omega arith, search walk_passes_one)

pub returns : goal.returns
returns c = search walk_ends
