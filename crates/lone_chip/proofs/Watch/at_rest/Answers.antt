-- Before the first tick. Assumes nothing.
use Rattle.lone_chip.proofs.Entry.{rests}
use Rattle.lone_chip.proofs.Watch.at_rest.Goals as goal

pub returns : goal.returns
returns c = rests _ _ _ _ _ _ c.opened.ensures c.at_rest.ensures
