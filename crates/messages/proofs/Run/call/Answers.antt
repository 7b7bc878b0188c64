-- `messages::Run::call` meets its contract. Assumes nothing.
use Rattle.messages.proofs.Going.{tick_is}
use Rattle.messages.proofs.Run.call.Goals as goal

pub returns-clause-tick : goal.returns-clause-tick
returns-clause-tick c = tick_is _ _ _ c.symbols.ensures.is
