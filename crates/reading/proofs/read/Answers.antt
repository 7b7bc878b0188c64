-- The entry `reading::read` meets its contract: one equation for all input. Assumes nothing.
use Rattle.std.proofs.Common.{◌≡◌, rules, Err}
use Rattle.orders.specs.Results.{refusal_of}
use Rattle.reading.proofs.Entry.{list_wrong, board_wrong, area_too_small, begun_sound, short, row_long, ran_so}
use Rattle.reading.proofs.read.Goals as goal

pub returns-in_err-size : goal.returns-in_err-size
returns-in_err-size c =
    let w = c.in_err-size.was in
    let e : c.from_residual.result ≡ Err (refusal_of c.in_err-size.field-0.0) = search rules in
    rw e (list_wrong _ _ _ _ _ _ _ _ c.check.ensures _ (search rules))

pub returns-in_err-check_board : goal.returns-in_err-check_board
returns-in_err-check_board c =
    let e : c.from_residual-in_err-check_board.result ≡ Err c.in_err-check_board.field-0.0 = search rules in
    rw e (board_wrong _ _ _ _ _ _ _ _ c.check.ensures _ c.in_ok-size.was _ c.check_board.ensures _ (search rules))

pub returns-then-results-size : goal.returns-then-results-size
returns-then-results-size c = area_too_small _ _ _ _ _ _ _ _ c.check.ensures _ c.in_ok-size.was _ c.check_board.ensures _ c.in_ok-check_board.was c.if-results-size.true

pub transactions-end-requires : goal.transactions-end-requires
transactions-end-requires c = (
  begun_sound c.args.list.now c.args.marks c.args.memory.now c.args.states.now c.args.holds.now c.args.asked c.args.results.now _ c.check.ensures _
      c.in_ok-size.was _ c.check_board.ensures _ c.in_ok-check_board.was c.if-results-size.false _ _ c.start.ensures c.load.ensures.seats c.load.ensures.count
      (search rules),
  search rules,
  short c.args.list.now c.args.marks c.args.memory.now c.args.states.now c.args.holds.now c.args.asked c.args.results.now _ c.check.ensures _
      c.in_ok-size.was _ c.check_board.ensures _ c.in_ok-check_board.was c.if-results-size.false c.load.result _ c.start.ensures c.load.ensures.seats c.load.ensures.count
      (search rules),
)

pub save-requires : goal.save-requires
save-requires c =
    row_long c.args.list.now c.args.marks c.args.memory.now c.args.states.now c.args.holds.now c.args.asked c.args.results.now _ c.check.ensures _
    c.in_ok-size.was _ c.check_board.ensures _ c.in_ok-check_board.was c.if-results-size.false _ _ c.start.ensures c.load.ensures.seats c.load.ensures.count
    (search rules) _ _ _ c.transactions-end.ensures (search rules)

pub returns : goal.returns
returns c =
    ran_so c.args.list.now c.args.marks c.args.memory.now c.args.states.now c.args.holds.now c.args.asked c.args.results.now _ c.check.ensures _
    c.in_ok-size.was _ c.check_board.ensures _ c.in_ok-check_board.was c.if-results-size.false _ _ c.start.ensures c.load.ensures.seats c.load.ensures.count
    (search rules) _ _ _ c.transactions-end.ensures (search rules) _ c.save.ensures
