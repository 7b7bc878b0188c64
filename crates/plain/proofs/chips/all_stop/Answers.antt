-- `plain::chips::all_stop` meets its contract, chip after chip. Assumes nothing.
use Rattle.std.proofs.Common.{refl, ◌∙◌, rules, length-set}
use Rattle.plain.proofs.Cells.{first_part, part_within}
use Rattle.plain.proofs.Stopping.{none_stopped, one_stopped, all_stopped}
use Rattle.plain.proofs.chips.all_stop.Goals as goal

pub loop-i-init : goal.loop-i-init
loop-i-init c = (search rules, refl, first_part _, search rules, refl, none_stopped _ _ _ _ _)

pub overflow_add-e : goal.overflow_add-e
overflow_add-e c =
    let h = part_within _ _ _ _ _ _ c.loop-i.invariant.2 c.size.ensures.value c.loop-i-test.true (search rules) _ c.loop-i.invariant.3 in
    search rules

pub slice_bounds-stopped-end : goal.slice_bounds-stopped-end
slice_bounds-stopped-end c = part_within _ _ _ _ _ _ c.loop-i.invariant.2 c.size.ensures.value c.loop-i-test.true (search rules) _ c.loop-i.invariant.3

pub loop-i-preserved : goal.loop-i-preserved
loop-i-preserved c =
    let so_far = c.loop-i.invariant in
    let t = one_stopped _ _ _ _ c.stopped.new.mem _ _ _ _ (search rules) so_far.3 c.loop-i-test.true so_far.2 c.size.ensures.value c.stopped.ensures.size
    c.stopped.auto.mem _ _ _ _ so_far.5 (search rules) c.stopped.ensures.cell in (
      length-set _ _ _ ∙ so_far.0,
      so_far.1,
      t.0,
      t.1,
      t.2 ∙ so_far.4,
      t.3,
    )

pub returns-clause-cells : goal.returns-clause-cells
returns-clause-cells c = rw c.loop-i.invariant.1 (all_stopped _ _ _ _ _ _ _ _ c.loop-i.invariant.5 (search rules) c.loop-i-test.false)
