-- `plain::chips::each` meets its contract, chip after chip. Assumes nothing.
use Rattle.std.proofs.Common.{◌≡◌, Option, Some, None, refl, ◌∙◌, rules, arith, length-set}
use Rattle.store.specs.declared.Store.{Store}
use Rattle.board.specs.declared.Seat.{Seat}
use Rattle.plain.specs.Inside.{next_of}
use Rattle.plain.proofs.Cells.{one_steps, one_stays, rest_stays}
use Rattle.plain.proofs.chips.each.Goals as goal
use Rattle.plain.proofs.chips.each.Goals.{in-Some, in_default}

-- a step that gave no store gave None
no_store : (r : Option Store) → ((s : Store) → r ≡ Some s → ⊥) → r ≡ None
no_store None h = refl
no_store (Some s) h = absurd (h s refl)

pub loop-i-preserved : goal.loop-i-preserved
loop-i-preserved g c =
    let l = c.loop-i in
    let so_far = l.invariant in
    let Stepped : Seat → Seat → Type 0 = λ x y. (r : Option Store) × goal.F-post g c.args.step x r × (y ≡ next_of x r) in
    elim c.match-step.branch [
      | in-Some w ↦ rw w.chips-is (record {
        whole = length-set _ _ _ ∙ so_far.whole;
        so_far = one_steps Stepped l.i c.args.chips.seats l.chips.0 _ _ (search rules) (search rules) so_far.rest so_far.so_far
            (c.step.result, c.step.ensures, rw w.in-Some.is refl);
        count = so_far.count;
        rest = rest_stays l.i c.args.chips.seats l.chips.0 _ so_far.rest;
      })
      | in_default w ↦ rw w.chips-is (record {
        whole = so_far.whole;
        so_far = one_stays Stepped l.i c.args.chips.seats l.chips.0 _ _ (search rules) (search rules) so_far.rest refl so_far.so_far
            (c.step.result, c.step.ensures, rw (no_store c.step.result w.in_default.not-Some) refl);
        count = so_far.count;
        rest = λ k h d. so_far.rest k (omega arith) d;
      })
    ]

pub returns-clause-steps : goal.returns-clause-steps
returns-clause-steps g c i l d = c.loop-i.invariant.so_far i (search rules) d
