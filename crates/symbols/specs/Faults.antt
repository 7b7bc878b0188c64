-- The line faults, looked at in this order each tick, waits excepted (paper 01, "Line faults"). Assumes nothing.
use Rattle.std.specs.Prelude.{ℕ, Bool, true, false, not, ◌&&◌, ◌||◌, cond, leb, Option, Some, None}
use Rattle.std.specs.Bool.{beq}
use Rattle.lines.specs.Levels.{most_held}
use Rattle.lines.specs.declared.Lines.{Lines}
use Rattle.symbols.specs.Symbols.{drives}
use Rattle.symbols.specs.declared.Begin.TheVariants.{First, Repeated}
use Rattle.symbols.specs.declared.Symbol.{Symbol}
use Rattle.symbols.specs.declared.Symbol.TheVariants.{Start, Stop, Sent, Received}
use Rattle.symbols.specs.declared.Phase.{Phase}
use Rattle.symbols.specs.declared.Phase.TheVariants.{Over, Waiting, Zero, One, Two, Three}
use Rattle.symbols.specs.declared.Fault.{Fault}
use Rattle.symbols.specs.declared.Fault.TheVariants.{DataLost, ClockStuck, Undefined, NotFree, LineBroken}

-- 5: a line driven 0 is seen 1
abbrev pub is_broken : (drive seen : Lines) → Bool
is_broken d l = (not d.scl && l.scl) || (not d.sda && l.sda)

abbrev pub is_first : Symbol → Bool
is_first (Start First) = true
is_first (Start Repeated) = false
is_first Stop = false
is_first (Sent b) = false
is_first Received = false

-- 4: phases 0 to 2 of the first START, not 1,1
abbrev pub is_taken : Phase → Lines → Bool
is_taken (Over f) l = false
is_taken (Waiting n) l = false
is_taken (Zero s) l = is_first s && not (l.scl && l.sda)
is_taken (One s) l = is_first s && not (l.scl && l.sda)
is_taken (Two s n) l = is_first s && not (l.scl && l.sda)
is_taken (Three s w) l = false

-- 2: phase 2, SCL 0 and 16 ticks already held
abbrev pub is_stuck : Phase → Lines → Bool
is_stuck (Over f) l = false
is_stuck (Waiting n) l = false
is_stuck (Zero s) l = false
is_stuck (One s) l = false
is_stuck (Two s n) l = not l.scl && leb most_held n
is_stuck (Three s w) l = false

abbrev pub is_bit : Symbol → Bool
is_bit (Start b) = false
is_bit Stop = false
is_bit (Sent b) = true
is_bit Received = true

-- 3: phase 3, SCL 0; or a bit whose SDA differs between phase 2's last tick and phase 3
abbrev pub is_undefined : Phase → Lines → Bool
is_undefined (Over f) l = false
is_undefined (Waiting n) l = false
is_undefined (Zero s) l = false
is_undefined (One s) l = false
is_undefined (Two s n) l = false
is_undefined (Three s w) l = not l.scl || (is_bit s && not (beq w l.sda))

-- a sent 1 or repeated START
abbrev pub lets_go : Symbol → Bool
lets_go (Start First) = false
lets_go (Start Repeated) = true
lets_go Stop = false
lets_go (Sent b) = b
lets_go Received = false

abbrev pub is_stop : Symbol → Bool
is_stop (Start b) = false
is_stop Stop = true
is_stop (Sent b) = false
is_stop Received = false

-- 1: phase 2 with SCL 1 of a sent 1 or repeated START, or phase 3 of STOP, SDA 0
abbrev pub is_lost : Phase → Lines → Bool
is_lost (Over f) l = false
is_lost (Waiting n) l = false
is_lost (Zero s) l = false
is_lost (One s) l = false
is_lost (Two s n) l = l.scl && lets_go s && not l.sda
is_lost (Three s w) l = is_stop s && not l.sda

unfoldable pub fault_of : Phase → Bool → Lines → Option Fault
fault_of ph p l =
    cond (is_broken (drives ph p) l) (Some LineBroken)
    (cond (is_taken ph l) (Some NotFree)
    (cond (is_stuck ph l) (Some ClockStuck)
    (cond (is_undefined ph l) (Some Undefined)
    (cond (is_lost ph l) (Some DataLost)
    None))))

-- its outcome
abbrev pub outcome_of : Fault → ℕ
outcome_of DataLost = 1
outcome_of ClockStuck = 2
outcome_of Undefined = 3
outcome_of NotFree = 4
outcome_of LineBroken = 5
