-- How long a transaction takes on the wires: its asked wait, plus 4(m + 9L + 1) ticks, plus its holds, never over 20(m + 9L) + 4 after the wait (request,
-- demand 3). Assumes nothing.
use Rattle.std.specs.Prelude.{ℕ, ◌+◌, ◌*◌, ◌≤◌, ◌≡◌, List, ◌∷◌, drop}
use Rattle.orders.specs.Form.{Transaction}
use Rattle.orders.specs.Results.{Batch, area_of, batches}
use Rattle.orders.specs.Marks.{Log}
use Rattle.symbols.specs.Ticks.{begun}
use Rattle.controller.specs.Plan.{State, opens, orders}
use Rattle.wires.specs.Wires.{Bus, after}
use Rattle.agreement.specs.Course.{batch_at, size_of}
use Rattle.agreement.specs.Sums.{Sum, sum_in, clocked_in, ticks_of, ticks_all, clocked_all}

-- the controller is at the start of the first of these transactions, or at its end if there are none
pub record Begins (b : Bus State) (ts : List Batch) : Type 0 where
  pub log : Log
  pub is : b.control ≡ begun orders (opens ts log)

-- b is the bus before the first tick; `area` holds the results, `holds` the hold list; the transactions `before` this one and `later` than it
module _ (asked : ℕ) (b : Bus State) (area holds : List ℕ) (before later : List Transaction) (t : Transaction) where
  -- the tick at which it begins
  abbrev pub begins_at : ℕ
  begins_at = ticks_all area holds (batches 0 before)

  -- m and L
  abbrev pub sent : Sum
  sent = sum_in area (batch_at (area_of before) t)

  -- its ticks, with the holds that those before it have left
  abbrev pub taken : ℕ
  taken = ticks_of t.wait sent (drop (clocked_all area (batches 0 before)) holds)

  pub record Takes : Type 0 where
    pub begins : Begins (after orders asked begins_at b) (batches (area_of before) (t ∷ later))
    pub ends : Begins (after orders asked (begins_at + taken) b) (batches (area_of before + size_of t) later)
    pub never_over : taken ≤ t.wait + (20 * clocked_in sent + 4)
