-- `wires::fill` meets its contract, byte after byte. Assumes nothing.
use Rattle.std.proofs.Common.{arith}
use Rattle.wires.proofs.Fills.{fill_turn, fill_end}
use Rattle.wires.proofs.fill.Goals as goal

pub loop-i-preserved : goal.loop-i-preserved
loop-i-preserved c = fill_turn _ _ _ _ _ _ c.loop-i.invariant c.put_at.ensures (omega arith)

pub returns : goal.returns
returns c = fill_end _ _ _ _ c.loop-i.invariant (omega arith)
