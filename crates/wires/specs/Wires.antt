-- The bus: in each tick every party drives SCL and SDA from its state, the line is 0 if any party drives 0, then every party sees the lines and moves on
-- (paper 01, "Ticks and symbols"). All chips see the same lines, so one eye tells what they hear. Assumes nothing.
use Rattle.std.specs.Prelude.{ℕ, zero, suc, Bool, true, ◌&&◌, cond, List, [], ◌∷◌, map, eqb}
use Rattle.lines.specs.Levels.{◌∥◌, byte_of}
use Rattle.lines.specs.Events.{event_of, eye_after}
use Rattle.lines.specs.declared.Lines.{Lines}
use Rattle.lines.specs.declared.Eye.{Eye}
use Rattle.symbols.specs.Symbols.{drives, is_over}
use Rattle.symbols.specs.Ticks.{Plan, Control, control_tick}
use Rattle.eeprom.specs.Stages.{Body, body_tick, sda_of}
use Rattle.wires.specs.Holding.{Holding, hold_tick}

pub record Bus (S : Type 0) : Type 0 where
  pub control : Control S
  pub holding : Holding
  pub eye : Eye
  pub chips : List Body

-- no chip drives SDA 0
unfoldable pub all_up : List Body → Bool
all_up [] = true
all_up (b ∷ bs) = sda_of b.core.stage && all_up bs

abbrev pub joined : (drive : Lines) → (held : ℕ) → (up : Bool) → Lines
joined d held up = (d.scl && eqb held 0) ∥ (d.sda && up)

module _ (Q : Plan) (asked : ℕ) where
  abbrev pub lines_on : Bus Q.State → Lines
  lines_on b = joined (drives b.control.phase b.control.was) b.holding.left (all_up b.chips)

  abbrev pub seeing : Lines → Bus Q.State → Bus Q.State
  seeing l b =
      record {
        control = control_tick Q l b.control;
        holding = hold_tick b.eye.past.scl l.scl b.holding;
        eye = eye_after b.eye l;
        chips = map (body_tick asked (event_of b.eye l)) b.chips;
      }

  unfoldable pub tick : Bus Q.State → Bus Q.State
  tick b = seeing (lines_on b) b

  unfoldable pub after : ℕ → Bus Q.State → Bus Q.State
  after zero b = b
  after (suc n) b = after n (tick b)

  -- the last bus of a run, and its lines, a byte a tick
  pub record Ran : Type 0 where
    pub last : Bus Q.State
    pub row : List ℕ

  abbrev pub one_more : Lines → Ran → Ran
  one_more l r = record { last = r.last; row = byte_of l ∷ r.row }

  -- tick until the controller is at its end, at most n times
  unfoldable pub run : ℕ → Bus Q.State → Ran
  run zero b = record { last = b; row = [] }
  run (suc n) b =
      let more : Ran = one_more (lines_on b) (run n (tick b)) in
      cond (is_over b.control.phase) (record { last = b; row = [] }) more
