-- Inside: the code's bus, with the chips' seats and the lent areas, in the words of the tick rules. No entry cites it. Assumes nothing.
use Rattle.std.specs.Prelude.{ℕ, zero, suc, ◌+◌, ◌≡◌, cond, List, map, eqb, length, set, drop}
use Rattle.lent.specs.Areas.{over}
use Rattle.lines.specs.Events.{eye_after}
use Rattle.lines.specs.declared.Lines.{Lines}
use Rattle.symbols.specs.Symbols.{drives}
use Rattle.symbols.specs.Ticks.{control_tick}
use Rattle.symbols.specs.declared.Begin.TheVariants.{First}
use Rattle.symbols.specs.declared.Symbol.TheVariants.{Start}
use Rattle.symbols.specs.declared.Phase.{Phase}
use Rattle.symbols.specs.declared.Phase.TheVariants.{Over, Waiting, Zero, One, Two, Three}
use Rattle.cursor.specs.Cursor.{Spot, places}
use Rattle.controller.specs.Inside.{control_of}
use Rattle.board.specs.Seats.{Seated, body_of}
use Rattle.wires.specs.Holding.{Holding, hold_tick}
use Rattle.wires.specs.Wires as Wires
use Rattle.wires.specs.declared.Holder.{Holder}
use Rattle.wires.specs.declared.Bus.{Bus}

-- the bytes of the clocked symbols to come are those from the next place on
abbrev pub holding_of : Holder → List ℕ → Holding
holding_of h holds = record { left = h.left; list = drop h.next holds }

abbrev pub bus_lines : Bus → Lines
bus_lines b = Wires.joined (drives b.control.phase b.control.was) b.hold.left b.up

-- what the lines make of all but the chips, and of what those drive
pub record BusSees (list holds : List ℕ) (seen : Lines) (b : Bus) (area : List ℕ) (r : Bus) (after : List ℕ) : Type 0 where
  pub control : control_of r.control after ≡ control_tick (places list) seen (control_of b.control area)
  pub hold : holding_of r.hold holds ≡ hold_tick b.eye.past.scl seen.scl (holding_of b.hold holds)
  pub eye : r.eye ≡ eye_after b.eye seen

-- a wait passed at once

abbrev pub phase_rest : Phase → ℕ
phase_rest (Over f) = 0
phase_rest (Waiting n) = n + 1
phase_rest (Zero s) = 0
phase_rest (One s) = 0
phase_rest (Two s n) = 0
phase_rest (Three s w) = 0

abbrev pub rest_of : Bus → ℕ
rest_of b =
    cond b.up
    (cond (eqb b.hold.left 0) (cond b.eye.past.scl (cond b.eye.past.sda (phase_rest b.control.phase) 0) 0) 0)
    0

abbrev pub rested_of : Bus → Bus
rested_of b =
    record { control = record { phase = Zero (Start First); was = b.control.was; cursor = b.control.cursor }; hold = b.hold; eye = b.eye; up = b.up }

-- both lines up in the trace of k ticks from t on
unfoldable pub filled : (k t : ℕ) → List ℕ → List ℕ
filled zero t trace = trace
filled (suc k) t trace = filled k (suc t) (set trace t 3)

abbrev pub limit : ℕ
limit = 1099511627776

-- the rules' bus at a tick
abbrev pub bus_on : (holds : List ℕ) → Bus → List Seated → (area : List ℕ) → (tick : ℕ) → Wires.Bus Spot
bus_on holds b xs area t =
    record { control = control_of b.control area; holding = holding_of b.hold holds; eye = b.eye; chips = map (body_of t) xs }

-- what the code's loop leaves: the last bus of the run over places, its ticks, and its row over the lent trace
pub record Went (list : List ℕ) (asked : ℕ) (start : Wires.Bus Spot) (lent : List ℕ) (last : Wires.Bus Spot) (ticks : ℕ) (trace : List ℕ) : Type 0 where
  pub last_is : last ≡ (Wires.run (places list) asked limit start).last
  pub ticks_is : ticks ≡ length (Wires.run (places list) asked limit start).row
  pub trace_is : trace ≡ over (Wires.run (places list) asked limit start).row lent
