-- The entry "whole-bus run": what comes out, all of it, by the tick rules (paper 01, "Ticks and symbols", "When the desk says no"). Assumes nothing.
use Rattle.std.specs.Prelude.{ℕ, cond, List, eqb, length}
use Rattle.lent.specs.Areas.{over}
use Rattle.lent.specs.Refusals.{Answer}
use Rattle.lines.specs.Events.{opened}
use Rattle.orders.specs.Form.{transactions_of}
use Rattle.controller.specs.Plan.{State, orders}
use Rattle.controller.specs.Bound.{most_ticks}
use Rattle.controller.specs.Alone.{at_first}
use Rattle.board.specs.Marks.{bodies}
use Rattle.board.specs.Desk.{Outcome, bus_number, ran, refusal}
use Rattle.wires.specs.Wires.{Bus, Ran, run}

-- before the first tick
abbrev pub start : (list : List ℕ) → (marks : ℕ) → (memory states holds results : List ℕ) → Bus State
start list marks memory states holds results =
    record { control = at_first list results; holding = record { left = 0; list = holds }; eye = opened; chips = bodies marks memory states }

-- the trace holds the lines of the first ticks; bytes past the last tick stay
pub record Traced : Type 0 where
  pub outcome : Outcome
  pub trace : List ℕ

abbrev pub traced : Answer → (memory states results trace : List ℕ) → Traced
traced r memory states results trace = record { outcome = record { answer = r; memory = memory; states = states; results = results }; trace = trace }

-- the list's own bound on its ticks is never reached before the controller is at its end
unfoldable pub wire_run : (list : List ℕ) → (marks : ℕ) → (memory states holds : List ℕ) → (asked : ℕ) → (results trace : List ℕ) → Traced
wire_run list marks memory states holds asked results trace =
    let n = bus_number list marks memory states holds asked results in
    let r : Ran orders asked = run orders asked (most_ticks (transactions_of list)) (start list marks memory states holds results) in
    let done : Traced =
    record { outcome = ran (length r.row) r.last.chips r.last.control.plan.context.log.area; trace = over r.row trace } in
    cond (eqb n 0) done (record { outcome = refusal n memory states results; trace = trace })
