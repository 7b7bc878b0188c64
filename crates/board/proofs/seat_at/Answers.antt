-- `board::seat_at` meets its contract. Assumes nothing.
use Rattle.board.proofs.Loading.{seat_so}
use Rattle.board.proofs.seat_at.Goals as goal

pub returns : goal.returns
returns c = search seat_so
