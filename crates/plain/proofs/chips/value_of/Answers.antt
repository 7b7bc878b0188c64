-- `plain::chips::value_of` meets its contract, chip after chip. Assumes nothing.
use Rattle.std.proofs.Common.{refl, rules}
use Rattle.plain.proofs.Cells.{first_part, next_part, part_within, this_value, not_this_value, no_value}
use Rattle.plain.proofs.chips.value_of.Goals as goal

pub loop-i-init : goal.loop-i-init
loop-i-init c = (first_part _, refl)

pub overflow_add-e : goal.overflow_add-e
overflow_add-e c =
    let h = part_within _ _ _ _ _ _ c.loop-i.invariant.0 c.size.ensures.value c.loop-i-test.true (search rules) _ c.requires in
    search rules

pub slice_bounds-byte_now-end : goal.slice_bounds-byte_now-end
slice_bounds-byte_now-end c = part_within _ _ _ _ _ _ c.loop-i.invariant.0 c.size.ensures.value c.loop-i-test.true (search rules) _ c.requires

pub returns-then-listens : goal.returns-then-listens
returns-then-listens c =
    this_value _ _ _ (search rules) _ _ _ _ c.listens.ensures c.loop-i-test.true _ c.loop-i.invariant.1 c.if-listens.true _ _ _ c.loop-i.invariant.0
    c.size.ensures.value c.byte_now.ensures

pub loop-i-preserved : goal.loop-i-preserved
loop-i-preserved c = (
  next_part _ _ _ _ _ _ c.loop-i.invariant.0 c.size.ensures.value c.loop-i-test.true (search rules),
  not_this_value _ _ _ (search rules) _ _ _ _ c.listens.ensures c.loop-i-test.true _ c.loop-i.invariant.1 c.if-listens.false,
)

pub returns : goal.returns
returns c = no_value _ _ _ (search rules) _ _ c.loop-i-test.false _ c.loop-i.invariant.1
