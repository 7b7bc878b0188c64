-- The entry "plain reading": its refusals, and all that comes out (paper 01, "When the desk says no"). Assumes nothing.
use Rattle.std.specs.Prelude.{ℕ, ◌-◌, cond, List, map, eqb}
use Rattle.orders.specs.Form.{transactions_of}
use Rattle.orders.specs.Results.{batches, start_area}
use Rattle.eeprom.specs.Stages.{Body}
use Rattle.eeprom.specs.declared.Stage.TheVariants.{Deaf}
use Rattle.board.specs.Marks.{bodies}
use Rattle.board.specs.Desk.{Outcome, bus_number, ran, refusal}
use Rattle.plain.specs.Plain.{Cell, World, transactions}

-- busy ticks left, and the tick from which a chip is free
abbrev pub cell_of : Body → Cell
cell_of b = record { kept = b.core.kept; free = b.busy }

abbrev pub body_of : (tick : ℕ) → Cell → Body
body_of t c = record { core = record { stage = Deaf; kept = c.kept }; busy = c.free - t }

unfoldable pub plain : (list : List ℕ) → (marks : ℕ) → (memory states holds : List ℕ) → (asked : ℕ) → (results : List ℕ) → World
plain list marks memory states holds asked results =
    transactions asked (batches 0 (transactions_of list))
    (record {
      clock = record { now = 0; holds = holds };
      cells = map cell_of (bodies marks memory states);
      log = record { area = start_area (transactions_of list) results };
    })

unfoldable pub plain_run : (list : List ℕ) → (marks : ℕ) → (memory states holds : List ℕ) → (asked : ℕ) → (results : List ℕ) → Outcome
plain_run list marks memory states holds asked results =
    let n = bus_number list marks memory states holds asked results in
    let w : World = plain list marks memory states holds asked results in
    let done : Outcome = ran w.clock.now (map (body_of w.clock.now) w.cells) w.log.area in
    cond (eqb n 0) done (refusal n memory states results)
