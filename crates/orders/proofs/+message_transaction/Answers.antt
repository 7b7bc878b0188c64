-- The cycle of calls {message, transaction} meets its contracts: each answer is a law of Cycle. Assumes nothing.
use Rattle.std.proofs.Common.{rules, arith}
use Rattle.kinds.proofs.KindLaws.{most_bytes_lem}
use Rattle.orders.proofs.OneMessage.{passed_on}
use Rattle.orders.proofs.WholeMessage.{learnt}
use Rattle.orders.proofs.Cycle.{list_ends, bad_count, no_wait, transaction_begins, message_breaks, message_last, message_follows}
use Rattle.orders.proofs.+message_transaction.Goals as goal

pub message-overflow_add-area : goal.message-overflow_add-area
message-overflow_add-area t c = let l = learnt _ _ _ c.read_one.ensures _ c.in_ok-whole.was in omega (arith, most_bytes_lem)

pub message-transaction-requires : goal.message-transaction-requires
message-transaction-requires t c = let l = learnt _ _ _ c.read_one.ensures _ c.in_ok-whole.was in (omega arith, (omega arith, search rules, omega arith))

pub message-overflow_add-area-else-left-eq0 : goal.message-overflow_add-area-else-left-eq0
message-overflow_add-area-else-left-eq0 t c = let l = learnt _ _ _ c.read_one.ensures _ c.in_ok-whole.was in omega (arith, most_bytes_lem)

pub message-message-requires : goal.message-message-requires
message-message-requires t c = let l = learnt _ _ _ c.read_one.ensures _ c.in_ok-whole.was in (omega arith, (omega arith, search rules, omega arith))

pub message-returns-in_err-whole : goal.message-returns-in_err-whole
message-returns-in_err-whole t c = rw (passed_on _ _ c.from_residual.ensures.1) (message_breaks _ _ _ _ _ c.read_one.ensures _ c.in_err-whole.was)

pub message-returns-then-left-eq0 : goal.message-returns-then-left-eq0
message-returns-then-left-eq0 t c = message_last _ _ _ _ _ c.read_one.ensures _ _ c.in_ok-whole.was (search rules) (search rules)

pub message-returns-else-left-eq0 : goal.message-returns-else-left-eq0
message-returns-else-left-eq0 t c = message_follows _ _ _ _ _ c.read_one.ensures _ _ c.in_ok-whole.was (search rules) (search rules)

pub transaction-returns-then-list-at : goal.transaction-returns-then-list-at
transaction-returns-then-list-at t c = search list_ends

pub transaction-returns-in_err-keeps : goal.transaction-returns-in_err-keeps
transaction-returns-in_err-keeps t c = rw (passed_on _ _ c.from_residual.ensures.1) (search (bad_count, c.in_err-keeps.ensures))

pub transaction-returns-then-list-at-2 : goal.transaction-returns-then-list-at-2
transaction-returns-then-list-at-2 t c = search (no_wait, c.in_ok-keeps.ensures)

pub transaction-overflow_add-area : goal.transaction-overflow_add-area
transaction-overflow_add-area t c = omega (arith, most_bytes_lem)

pub transaction-returns : goal.transaction-returns
transaction-returns t c = search (transaction_begins, c.in_ok-keeps.ensures)
