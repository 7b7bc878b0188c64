-- What number 0 says of the input of the whole-bus run and the plain reading, as far as the agreement needs it. Assumes nothing.
use Prim.Native.Nat.{ℕ, zero, suc, ◌+◌, ◌*◌, ◌≤◌}
use mathlib.Core.Path.{◌≡◌, refl}
use mathlib.Core.Bool.{Bool, true, false, not, ◌&&◌}
use mathlib.Core.List.{List, [], ◌∷◌}
use native.Mathlib.Omega.{arith}
use borrow.Author.Tests.{leb-true, ltb-false, not-false}
use lib.Dec.{eqb, ltb}
use lib.ListN.{length}
use Rattle.lent.specs.Refusals.{no, ◌then◌}
use Rattle.lent.specs.Areas.{all_within}
use Rattle.lines.specs.Levels.{most_held}
use Rattle.kinds.specs.Kinds.{address_right}
use Rattle.orders.specs.Form.{Message, Transaction}
use Rattle.orders.specs.Results.{area_of, slots_of, slots_of_all, slotted, batches, check_of, list_number}
use Rattle.eeprom.specs.States.{most_busy}
use Rattle.board.specs.Marks.{chip_count, memory_at, bodies}
use Rattle.board.specs.Desk.{states_right, board_number, bus_number}
use Rattle.agreement.specs.Inputs.{Input, number, listed, Accepted}
use Rattle.agreement.proofs.Standing.{Small}
use Rattle.agreement.proofs.Messages.{Sendable}
use Rattle.agreement.proofs.Lists.{Sendables, Runnables}
use Rattle.agreement.proofs.Right.{Right, Rights, RightAll}

-- none of six numbers is given
pub record None (list : ℕ) (lengths states holds busy room : Bool) : Type 0 where
  pub one_two : list ≡ 0
  pub three : lengths ≡ false
  pub four : states ≡ false
  pub five : holds ≡ false
  pub six : busy ≡ false
  pub seven : room ≡ false

none_given : (n : ℕ) (a b c d e : Bool) → n then (no 3 a then no 4 b then no 5 c then no 6 d) then no 7 e ≡ 0 → None n a b c d e
none_given (suc n) a b c d e h = absurd (omega arith)
none_given zero true b c d e h = absurd (omega arith)
none_given zero false true c d e h = absurd (omega arith)
none_given zero false false true d e h = absurd (omega arith)
none_given zero false false false true e h = absurd (omega arith)
none_given zero false false false false true h = absurd (omega arith)
none_given zero false false false false false h = record { one_two = refl; three = refl; four = refl; five = refl; six = refl; seven = refl }

module _ (i : Input) where
  -- number 0 says that none of the tests fires
  pub none_fires : number i ≡ 0
      → None (list_number (check_of i.list)) (not (eqb (length i.memory) (memory_at i.marks 8) && eqb (length i.states) (4 * chip_count i.marks)))
      (not (states_right (bodies i.marks i.memory i.states))) (not (all_within most_held i.holds)) (ltb most_busy i.asked)
      (ltb (length i.results) (area_of (listed i)))
  unfolding bus_number board_number
  none_fires e = none_given _ _ _ _ _ _ e

  pub holds_small : Accepted i → Small i.holds
  holds_small a = not-false (all_within most_held i.holds) (none_fires a.by_number).five

  pub area_fits : Accepted i → area_of (listed i) ≤ length i.results
  area_fits a = ltb-false _ _ (none_fires a.by_number).seven

-- a right message can be sent
sendable : (m : Message) → Right m → Sendable m
unfolding address_right
sendable m k = let l : m.address ≤ 127 = leb-true m.address 127 k.form.address in record { address = omega arith; sent = k.sent }

sendables : (s : ℕ) (ms : List Message) → Rights ms → Sendables (slotted s ms)
unfolding slotted
sendables s [] k = tt
sendables s (m ∷ ms) k = (sendable m k.0, sendables (s + slots_of m) ms k.1)

pub runnables : (top : ℕ) (ts : List Transaction) → RightAll ts → Runnables (batches top ts)
unfolding batches
runnables top [] k = tt
runnables top (t ∷ ts) k = (record { first = sendable t.first k.0; others = sendables _ t.others k.1 }, runnables (top + (1 + slots_of_all (t.first ∷ t.others))) ts k.2)
