-- `board::states_right` meets its contract, state after state. Assumes nothing.
use Rattle.std.proofs.Common.{◌≡◌, true, false, not, refl, rules}
use Rattle.board.proofs.Range.{no_state, out_of_range, in_range, all_looked}
use Rattle.board.proofs.states_right.Goals as goal
use Rattle.board.proofs.states_right.Goals.{then-bit_at+else-not-state_right, else-bit_at}

pub returns-then-not-state_right : goal.returns-then-not-state_right
returns-then-not-state_right c =
    let wrong : not c.state_right.result ≡ true = rw c.if-not-state_right.true refl in
    out_of_range _ _ _ c.loop-strap.invariant _ c.bit_at.ensures c.loop-strap-test.true c.if-bit_at.true _ c.state_at-pointer.ensures _ c.state_right.ensures wrong

pub loop-strap-preserved : goal.loop-strap-preserved
loop-strap-preserved c =
    elim c.if-bit_at.branch [
      | then-bit_at+else-not-state_right w ↦ let right : not w.state_right.result ≡ false = rw w.if-not-state_right.false refl in
          in_range _ _ _ c.loop-strap.invariant _ c.bit_at.ensures c.loop-strap-test.true w.if-bit_at.true _ w.state_at-pointer.ensures _ w.state_right.ensures right
      | else-bit_at w ↦ no_state _ _ _ c.loop-strap.invariant _ c.bit_at.ensures c.loop-strap-test.true w.if-bit_at.false
    ]

pub returns : goal.returns
returns c = search (all_looked, rules)
