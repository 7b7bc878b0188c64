-- The controller's tick. What it wants to do is a plan: which symbol it asks for next, where the bit seen takes it, what a fault leaves. The tick rules
-- know symbols and phases, and no messages (paper 01, "Ticks and symbols"). Assumes nothing.
use Rattle.std.specs.Prelude.{ℕ, zero, suc, Bool, cond, Option, Some, None}
use Rattle.lines.specs.Levels.{hi}
use Rattle.lines.specs.declared.Lines.{Lines}
use Rattle.symbols.specs.Symbols.{row}
use Rattle.symbols.specs.Faults.{fault_of}
use Rattle.symbols.specs.declared.Begin.TheVariants.{First}
use Rattle.symbols.specs.declared.Symbol.{Symbol}
use Rattle.symbols.specs.declared.Symbol.TheVariants.{Start}
use Rattle.symbols.specs.declared.Fault.{Fault}
use Rattle.symbols.specs.declared.Phase.{Phase}
use Rattle.symbols.specs.declared.Phase.TheVariants.{Over, Waiting, Zero, One, Two, Three}

-- a transaction's first START after a wait of so many ticks, a clocked symbol, or nothing more
pub data Ask : Type 0 where
  first : ℕ → Ask
  clocked : Symbol → Ask
  end : Ask

pub record Plan : Type 1 where
  pub State : Type 0
  pub ask : State → Ask
  pub next : State → Bool → State
  pub failed : State → Fault → State

abbrev pub enter : Ask → Phase
enter (first zero) = Zero (Start First)
enter (first (suc n)) = Waiting n
enter (clocked s) = Zero s
enter end = Over None

-- `was`: the SDA driven in the last phase 3
pub record Control (S : Type 0) : Type 0 where
  pub phase : Phase
  pub was : Bool
  pub plan : S

module _ (Q : Plan) where
  abbrev pub begun : Q.State → Control Q.State
  begun s = record { phase = enter (Q.ask s); was = hi; plan = s }

  abbrev pub in_phase : Phase → Control Q.State → Control Q.State
  in_phase ph c = record { phase = ph; was = c.was; plan = c.plan }

  -- if SCL is seen 0 in phase 2, phase 2 is repeated: a held tick
  abbrev pub move : Phase → Lines → Control Q.State → Control Q.State
  move (Over f) l c = in_phase (Over f) c
  move (Waiting zero) l c = in_phase (Zero (Start First)) c
  move (Waiting (suc n)) l c = in_phase (Waiting n) c
  move (Zero s) l c = in_phase (One s) c
  move (One s) l c = in_phase (Two s 0) c
  move (Two s n) l c = in_phase (cond l.scl (Three s l.sda) (Two s (suc n))) c
  move (Three s w) l c =
      record { phase = enter (Q.ask (Q.next c.plan l.sda)); was = (row s c.was).three.sda; plan = Q.next c.plan l.sda }

  -- a fault ends the run with both lines released
  abbrev pub settle : Option Fault → Lines → Control Q.State → Control Q.State
  settle None l c = move c.phase l c
  settle (Some f) l c = record { phase = Over (Some f); was = hi; plan = Q.failed c.plan f }

  unfoldable pub control_tick : Lines → Control Q.State → Control Q.State
  control_tick l c = settle (fault_of c.phase c.was l) l c
