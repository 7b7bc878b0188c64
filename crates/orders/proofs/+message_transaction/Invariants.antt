-- The cycle of calls {message, transaction} ends: the bytes left are the measure of both. Assumes nothing.
use Rattle.std.proofs.Common.{◌-◌, length}
use Rattle.orders.proofs.+message_transaction.Given as goal

abbrev pub decreases-message : goal.decreases-message
decreases-message l = length l.list.now - l.at

abbrev pub decreases-transaction : goal.decreases-transaction
decreases-transaction l = length l.list.now - l.at
