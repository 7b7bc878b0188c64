-- `messages::Run::answered` meets its contract. Assumes nothing.
use Rattle.messages.proofs.Going.{answered_so}
use Rattle.messages.proofs.Run.answered.Goals as goal

pub returns : goal.returns
returns c = answered_so _ c.args.list.now c.args.self c.args.place _ _ c.call.ensures.address c.call.ensures.tick c.any_listens.ensures
