-- `messages::Run::closes` meets its contract. Assumes nothing.
use Rattle.messages.proofs.Going.{closed_so}
use Rattle.messages.proofs.Run.closes.Goals as goal

pub returns : goal.returns
returns c = closed_so _ c.args.self _ _ _ _ _ _ _ _ c.symbol-end.ensures c.all_stop-chips.ensures.cells c.all_stop-chips.ensures.fits c.put_at.ensures
