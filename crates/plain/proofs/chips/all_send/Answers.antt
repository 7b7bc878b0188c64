-- `plain::chips::all_send` meets its contract. Assumes nothing.
use Rattle.std.proofs.Common.{rules}
use Rattle.plain.proofs.Cells.{all_step}
use Rattle.plain.proofs.Deeds.{sends_one, stays}
use Rattle.plain.proofs.chips.all_send.Goals as goal

pub returns : goal.returns
returns c = all_step _ _ _ (search rules) (search rules) c.each.ensures.count (λ i l d. let one = c.each.ensures.steps i l d in search (sends_one, stays, rules))
