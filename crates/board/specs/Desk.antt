-- When the whole-bus run and the plain reading say no, and what both hand back (paper 01, "When the desk says no"). Assumes nothing.
use Rattle.std.specs.Prelude.{ℕ, ◌*◌, Bool, true, not, ◌&&◌, List, [], ◌∷◌, eqb, ltb, length}
use Rattle.lent.specs.Refusals.{Answer, no, ◌then◌}
use Rattle.lent.specs.Areas.{all_within}
use Rattle.lines.specs.Levels.{most_held}
use Rattle.orders.specs.Form.{transactions_of}
use Rattle.orders.specs.Results.{area_of, check_of, list_number}
use Rattle.eeprom.specs.Stages.{Body}
use Rattle.eeprom.specs.States.{most_busy, state_right}
use Rattle.board.specs.Marks.{chip_count, memory_at, bodies, memories, state_row}

unfoldable pub states_right : List Body → Bool
states_right [] = true
states_right (b ∷ bs) = state_right b && states_right bs

-- what the board itself turns down, in the order 3 to 6
unfoldable pub board_number : (marks : ℕ) → (memory states holds : List ℕ) → (asked : ℕ) → ℕ
board_number marks memory states holds asked =
    no 3 (not (eqb (length memory) (memory_at marks 8) && eqb (length states) (4 * chip_count marks)))
    then no 4 (not (states_right (bodies marks memory states)))
    then no 5 (not (all_within most_held holds))
    then no 6 (ltb most_busy asked)

-- looked at in the order 1 to 7
unfoldable pub bus_number : (list : List ℕ) → (marks : ℕ) → (memory states holds : List ℕ) → (asked : ℕ) → (results : List ℕ) → ℕ
bus_number list marks memory states holds asked results =
    list_number (check_of list)
    then board_number marks memory states holds asked
    then no 7 (ltb (length results) (area_of (transactions_of list)))

-- what both runs hand back
pub record Outcome : Type 0 where
  pub answer : Answer
  pub memory : List ℕ
  pub states : List ℕ
  pub results : List ℕ

abbrev pub ran : (ticks : ℕ) → List Body → (results : List ℕ) → Outcome
ran ticks bs results = record { answer = record { number = 0; ticks = ticks }; memory = memories bs; states = state_row bs; results = results }

-- a refusal: 0 ticks, and no lent byte changed
abbrev pub refusal : ℕ → (memory states results : List ℕ) → Outcome
refusal n memory states results = record { answer = record { number = n; ticks = 0 }; memory = memory; states = states; results = results }
