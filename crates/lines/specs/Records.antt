-- A party alone on a record of samples, a byte a tick: a fold over the record with the whole state in one value (paper 01, "When the desk says no").
-- Assumes nothing.
use Rattle.std.specs.Prelude.{ℕ, Bool, true, false, not, List, [], ◌∷◌, ◌++◌}
use Rattle.lent.specs.Areas.{all_within}
use Rattle.lines.specs.Levels.{byte_of, lines_of}
use Rattle.lines.specs.declared.Lines.{Lines}

-- `ended`: from here on nothing is driven and nothing changes
pub record Party : Type 1 where
  pub State : Type 0
  pub ended : State → Bool
  pub drive : State → Lines
  pub tick : Lines → State → State

module _ (P : Party) where
  -- the state after the samples
  unfoldable pub walk : List ℕ → P.State → P.State
  walk [] s = s
  walk (x ∷ xs) s = walk xs (P.tick (lines_of x) s)

  abbrev pub driven : Bool → P.State → List ℕ
  driven true s = []
  driven false s = byte_of (P.drive s) ∷ []

  -- the drive bytes, one a tick; so their number is the number of ticks
  unfoldable pub drives_on : List ℕ → P.State → List ℕ
  drives_on [] s = []
  drives_on (x ∷ xs) s = driven (P.ended s) s ++ drives_on xs (P.tick (lines_of x) s)

-- a sample byte over 3
abbrev pub bad_sample : List ℕ → Bool
bad_sample xs = not (all_within 3 xs)
