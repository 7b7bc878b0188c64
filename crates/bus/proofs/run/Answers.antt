-- `bus::run` meets its contract: the refusals in their order, and then the run. Assumes nothing.
use Rattle.std.proofs.Common.{rules, ◌≡◌, Err}
use Rattle.std.proofs.lemmas.Result.{err_from_is_err_and}
use Rattle.bus.proofs.Entry.{list_refused, board_refused, area_refused}
use Rattle.bus.proofs.run.Goals as goal

pub returns-in_err-size : goal.returns-in_err-size
returns-in_err-size c =
    let p = err_from_is_err_and c.from_residual.result c.from_residual.ensures.1 in
    rw (p.1, p.2) (list_refused _ _ _ _ _ _ _ _ c.in_err-size.field-0.0 c.in_err-size.ensures)

pub returns-in_err-check_board : goal.returns-in_err-check_board
returns-in_err-check_board c =
    let h : c.from_residual-in_err-check_board.result ≡ Err c.in_err-check_board.field-0.0 = search rules in
    rw h (board_refused _ _ _ _ _ _ _ _ _ c.in_ok-size.ensures c.in_err-check_board.field-0.0 c.in_err-check_board.ensures)

pub returns-then-results-size : goal.returns-then-results-size
returns-then-results-size c = area_refused _ _ _ _ _ _ _ _ _ c.in_ok-size.ensures c.in_ok-check_board.ensures c.if-results-size.true
