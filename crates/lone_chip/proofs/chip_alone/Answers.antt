-- A refusal changes nothing; an accepted call runs. Assumes nothing.
use Rattle.std.proofs.Common.{rules, ◌≡◌, Err}
use Rattle.lone_chip.proofs.Entry.{strap_in, turned_down, ran}
use Rattle.lone_chip.proofs.chip_alone.Goals as goal

pub returns-in_err-check_chip : goal.returns-in_err-check_chip
returns-in_err-check_chip c =
    let h : c.from_residual.result ≡ Err c.in_err-check_chip.field-0.0 = search rules in turned_down _ _ _ _ _ _ _ _ c.in_err-check_chip.ensures h

pub overflow_add-strap : goal.overflow_add-strap
overflow_add-strap c = let h = strap_in _ _ _ _ _ _ c.in_ok-check_chip.ensures in search rules

pub returns : goal.returns
returns c =
    ran _ _ _ _ _ _ _ _ _ _ _ _ _ c.in_ok-check_chip.ensures c.word_at.ensures c.word_at-2.ensures c.at_rest-first.ensures c.runs-last.ensures.state
    c.runs-last.ensures.drives c.put_state.ensures
