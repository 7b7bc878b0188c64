-- The tick at a fault, at the end of a symbol and inside one. Assumes nothing.
use Rattle.controller.proofs.Ticking.{ticks_over, ticks_last, ticks_inside}
use Rattle.controller.proofs.Controller.tick.Goals as goal

pub returns-in-Some : goal.returns-in-Some
returns-in-Some c = search ticks_over

pub returns-then-is_last : goal.returns-then-is_last
returns-then-is_last c = search ticks_last

pub returns : goal.returns
returns c = search ticks_inside
