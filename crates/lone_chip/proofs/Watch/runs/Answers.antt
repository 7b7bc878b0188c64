-- Tick by tick, and at the record's end. Assumes nothing.
use Rattle.lines.proofs.Records.{walked, drove}
use Rattle.lone_chip.specs.Alone.{chip}
use Rattle.lone_chip.proofs.Entry.{turn}
use Rattle.lone_chip.proofs.Watch.runs.Goals as goal

pub loop-i-preserved : goal.loop-i-preserved
loop-i-preserved c =
    turn _ _ _ _ _ _ _ _ _ _ _ _ _ c.loop-i.invariant c.drive.ensures c.from.ensures c.put_at.ensures c.from-in-loop-i.ensures c.tick.ensures c.loop-i-test.true

pub returns-clause-state : goal.returns-clause-state
returns-clause-state c = walked (chip _) _ _ _ _ _ _ c.loop-i.invariant c.loop-i-test.false

pub returns-clause-drives : goal.returns-clause-drives
returns-clause-drives c = drove (chip _) _ _ _ _ _ _ c.loop-i.invariant c.loop-i-test.false
