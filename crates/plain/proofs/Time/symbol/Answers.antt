-- `plain::Time::symbol` meets its contract. Assumes nothing.
use Rattle.std.proofs.Common.{rules}
use Rattle.plain.proofs.Ticking.{symbol_held, symbol_free}
use Rattle.plain.proofs.Time.symbol.Goals as goal

pub returns-then-self-holds : goal.returns-then-self-holds
returns-then-self-holds c = symbol_held _ _ (search rules) c.if-self-holds.true

pub returns-else-self-holds : goal.returns-else-self-holds
returns-else-self-holds c = search symbol_free
