-- One message after the other. Assumes nothing.
use Rattle.cursor.proofs.Walk.{pass_turn, pass_end}
use Rattle.cursor.proofs.Cursor.passed_all.Goals as goal

pub loop-preserved : goal.loop-preserved
loop-preserved c = search pass_turn

pub returns-2 : goal.returns-2
returns-2 c = search pass_end
