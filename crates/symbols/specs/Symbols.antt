-- The table of symbols: what the controller drives in each phase (paper 01, "Ticks and symbols"). Assumes nothing.
use Rattle.std.specs.Prelude.{Bool, true, false}
use Rattle.lines.specs.Levels.{hi, lo, ◌∥◌, released}
use Rattle.lines.specs.declared.Lines.{Lines}
use Rattle.symbols.specs.declared.Row.{Row}
use Rattle.symbols.specs.declared.Begin.TheVariants.{First, Repeated}
use Rattle.symbols.specs.declared.Symbol.{Symbol}
use Rattle.symbols.specs.declared.Symbol.TheVariants.{Start, Stop, Sent, Received}
use Rattle.symbols.specs.declared.Phase.{Phase}
use Rattle.symbols.specs.declared.Phase.TheVariants.{Over, Waiting, Zero, One, Two, Three}

abbrev pub four : Lines → Lines → Lines → Lines → Row
four a b c d = record { zero = a; one = b; two = c; three = d }

-- p is the SDA that it drove in phase 3 before
abbrev pub row : Symbol → Bool → Row
row (Start First) p = four (hi ∥ hi) (hi ∥ hi) (hi ∥ hi) (hi ∥ lo)
row (Start Repeated) p = four (lo ∥ p) (lo ∥ hi) (hi ∥ hi) (hi ∥ lo)
row (Sent b) p = four (lo ∥ p) (lo ∥ b) (hi ∥ b) (hi ∥ b)
row Received p = four (lo ∥ p) (lo ∥ hi) (hi ∥ hi) (hi ∥ hi)
row Stop p = four (lo ∥ p) (lo ∥ lo) (hi ∥ lo) (hi ∥ hi)

-- in a wait and at its end it drives 1,1
abbrev pub drives : Phase → Bool → Lines
drives (Over f) p = released
drives (Waiting n) p = released
drives (Zero s) p = (row s p).zero
drives (One s) p = (row s p).one
drives (Two s n) p = (row s p).two
drives (Three s w) p = (row s p).three

-- it has nothing more to do
abbrev pub is_over : Phase → Bool
is_over (Over f) = true
is_over (Waiting n) = false
is_over (Zero s) = false
is_over (One s) = false
is_over (Two s n) = false
is_over (Three s w) = false
