-- `orders::check` meets its contract: too long, or what `transaction` answers at the list's start. Assumes nothing.
use Rattle.std.proofs.Common.{rules}
use Rattle.std.proofs.lemmas.Result.{err_from_is_err_and}
use Rattle.kinds.specs.Kinds.{most_bytes}
use Rattle.orders.proofs.Cycle.{too_long, all_right, one_wrong}
use Rattle.orders.proofs.check.Goals as goal

pub returns-then-list-gt-MOST_BYTES : goal.returns-then-list-gt-MOST_BYTES
unfolding most_bytes
returns-then-list-gt-MOST_BYTES c = too_long _ (search rules)

pub transaction-requires : goal.transaction-requires
unfolding most_bytes
transaction-requires c = search rules

pub returns-in_err-transaction : goal.returns-in_err-transaction
unfolding most_bytes
returns-in_err-transaction c = let p = err_from_is_err_and c.from_residual.result c.from_residual.ensures.1 in rw p.1 (one_wrong _ _ _ _ (search rules) c.transaction.ensures c.in_err-transaction.was p.2)

pub returns : goal.returns
unfolding most_bytes
returns c = all_right _ _ _ (search rules) c.transaction.ensures c.in_ok-transaction.was
