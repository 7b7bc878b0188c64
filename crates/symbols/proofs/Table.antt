-- What the table of symbols says, by the symbol or the phase that the code has found. Assumes nothing.
use mathlib.Core.Path.{◌≡◌, ◌∙◌}
use mathlib.Core.Bool.{Bool}
use Rattle.lines.specs.declared.Lines.{Lines}
use Rattle.symbols.specs.Symbols.{row, drives}
use Rattle.symbols.specs.declared.Begin.{Begin}
use Rattle.symbols.specs.declared.Symbol.{Symbol}
use Rattle.symbols.specs.declared.Symbol.TheVariants.{Start}
use Rattle.symbols.specs.declared.Phase.{Phase}

module _ (s : Symbol) (p : Bool) (r l : Lines) (e : r ≡ l) where
  module _ (t : Symbol) (f : s ≡ t) where
    pub row_zero : l ≡ (row t p).zero → r ≡ (row s p).zero
    row_zero h = rw f (e ∙ h)

    pub row_one : l ≡ (row t p).one → r ≡ (row s p).one
    row_one h = rw f (e ∙ h)

    pub row_two : l ≡ (row t p).two → r ≡ (row s p).two
    row_two h = rw f (e ∙ h)

    pub row_three : l ≡ (row t p).three → r ≡ (row s p).three
    row_three h = rw f (e ∙ h)

  module _ (v b : Begin) (f : s ≡ Start v) (g : v ≡ b) where
    pub start_zero : l ≡ (row (Start b) p).zero → r ≡ (row s p).zero
    start_zero h = rw (f, g) (e ∙ h)

    pub start_one : l ≡ (row (Start b) p).one → r ≡ (row s p).one
    start_one h = rw (f, g) (e ∙ h)

    pub start_two : l ≡ (row (Start b) p).two → r ≡ (row s p).two
    start_two h = rw (f, g) (e ∙ h)

    pub start_three : l ≡ (row (Start b) p).three → r ≡ (row s p).three
    start_three h = rw (f, g) (e ∙ h)

-- what is driven
pub drive_is : (ph q : Phase) (p : Bool) (r : Lines) → ph ≡ q → r ≡ drives q p → r ≡ drives ph p
drive_is ph q p r e h = rw e h
