-- `plain::chips::all_take` meets its contract. Assumes nothing.
use Rattle.std.proofs.Common.{rules}
use Rattle.store.specs.Keeping.{takes}
use Rattle.plain.proofs.Cells.{all_step}
use Rattle.plain.proofs.Deeds.{takes_one, stays}
use Rattle.plain.proofs.chips.all_take.Goals as goal

pub returns : goal.returns
unfolding takes
returns c = all_step _ _ _ (search rules) (search rules) c.each.ensures.count (λ i l d. let one = c.each.ensures.steps i l d in search (takes_one, stays, rules))
