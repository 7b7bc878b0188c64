-- `plain::chips::all_start` meets its contract. Assumes nothing.
use Rattle.std.proofs.Common.{rules}
use Rattle.plain.proofs.Cells.{all_step}
use Rattle.plain.proofs.Deeds.{starts_one}
use Rattle.plain.proofs.chips.all_start.Goals as goal

pub returns : goal.returns
returns c = all_step _ _ _ (search rules) (search rules) c.each.ensures.count (λ i l d. let one = c.each.ensures.steps i l d in search (starts_one, rules))
