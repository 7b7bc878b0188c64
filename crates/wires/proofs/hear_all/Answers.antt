-- `wires::hear_all` meets its contract: a chip hears, or a deaf one is passed over. Assumes nothing.
use Rattle.std.proofs.Common.{arith, sym, ◌∙◌}
use lib.Seq.{set-get_or}
use Rattle.board.proofs.Seated.{seated_length}
use Rattle.board.proofs.Turns.{none_heard_yet, part_ends, passes_one, hears_one, all_have_heard}
use Rattle.wires.proofs.hear_all.Goals as goal
use Rattle.wires.proofs.hear_all.Goals.{then-bit, else-bit, then-not-is_deaf, else-not-is_deaf}

pub loop-seat-init : goal.loop-seat-init
loop-seat-init c = record { small = omega arith; hearing = none_heard_yet _ _ _ _ _ _ c.requires.2 (omega arith) }

pub slice_bounds-hear-end : goal.slice_bounds-hear-end
slice_bounds-hear-end c = part_ends _ _ _ _ _ _ _ _ _ _ c.loop-seat.invariant.hearing c.loop-seat-test.true _ _ c.size.ensures.value

pub loop-seat-preserved : goal.loop-seat-preserved
loop-seat-preserved c =
    let h = c.loop-seat.invariant.hearing in
    let t = c.loop-seat-test.true in
    let z = c.size.ensures.value in
    elim c.if-not-is_deaf.branch [
      | then-not-is_deaf w ↦
          rw (w.seats-is, w.memory-is, w.up-is, w.begin-is) (record {
            small = omega arith;
            hearing = hears_one _ _ _ _ _ _ _ _ _ _ h t _ _ z _ _ _ w.hear.ensures w.hear.auto.mem w.sda.ensures;
          })
      | else-not-is_deaf w ↦
          rw (w.seats-is, set-get_or c.loop-seat.seats c.loop-seat.seat-index _, w.memory-is, w.up-is, w.begin-is) (record {
            small = omega arith;
            hearing = elim c.if-bit.branch [
              | then-bit v ↦
                  passes_one _ _ _ _ _ _ _ _ _ _ h t _ _ z _ _ v.is_deaf.ensures (sym v.value-is ∙ w.if-not-is_deaf.false) c.is_bit-bit.ensures v.if-bit.true
              | else-bit v ↦ cc
            ];
          })
    ]

pub returns-clause-heard : goal.returns-clause-heard
returns-clause-heard c =
    let h = c.loop-seat.invariant.hearing in
    (all_have_heard _ _ _ _ _ _ _ _ _ _ h (omega arith) c.loop-seat-test.false (seated_length _ _ _ (omega arith))).0

pub returns-clause-up : goal.returns-clause-up
returns-clause-up c =
    let h = c.loop-seat.invariant.hearing in
    (all_have_heard _ _ _ _ _ _ _ _ _ _ h (omega arith) c.loop-seat-test.false (seated_length _ _ _ (omega arith))).1
