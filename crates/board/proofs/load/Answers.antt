-- `board::load` meets its contract. Assumes nothing.
use Rattle.std.proofs.Common.{◌∙◌, rules, length-set}
use Rattle.board.proofs.Loading.{one_seat, no_seat, all_seats}
use Rattle.board.proofs.load.Goals as goal
use Rattle.board.proofs.load.Goals.{then-bit_at, else-bit_at}

pub loop-strap-preserved : goal.loop-strap-preserved
loop-strap-preserved c =
    elim c.if-bit_at.branch [
      | then-bit_at w ↦ rw w.seats-is (
        length-set _ _ _ ∙ c.loop-strap.invariant.0,
        one_seat _ _ _ _ c.loop-strap.invariant.1 _ c.bit_at.ensures c.loop-strap-test.true w.if-bit_at.true _ _ w.place_of-place.ensures.value (search rules)
            w.seat_at.ensures,
      )
      | else-bit_at w ↦ rw w.seats-is (c.loop-strap.invariant.0, no_seat _ _ _ _ c.loop-strap.invariant.1 _ c.bit_at.ensures c.loop-strap-test.true w.if-bit_at.false)
    ]

pub returns-clause-seats : goal.returns-clause-seats
returns-clause-seats c = search (all_seats, rules)
