-- `plain::Time::symbols` meets its contract, symbol after symbol. Assumes nothing.
use Rattle.std.proofs.Common.{rules}
use Rattle.plain.proofs.Ticking.{symbol_more, symbols_gone}
use Rattle.plain.proofs.Time.symbols.Goals as goal

pub loop-preserved : goal.loop-preserved
loop-preserved c = (search rules, search (symbol_more, rules))

pub returns : goal.returns
returns c = record { is = search (symbols_gone, rules); soon = search rules }
