-- Inside: what the accepted part of the run may count on. No entry cites it. Assumes nothing.
use Rattle.std.specs.Prelude.{ℕ, ◌≤◌, ◌≡◌, List, length, Ok}
use Rattle.orders.specs.Results.{check_of}
use Rattle.board.specs.Desk.{board_number}

-- an input that no number refuses
pub record Fine (list : List ℕ) (size marks : ℕ) (memory states holds : List ℕ) (asked : ℕ) (results : List ℕ) : Type 0 where
  pub right : check_of list ≡ Ok size
  pub board : board_number marks memory states holds asked ≡ 0
  pub room : size ≤ length results
