-- Each refusal by what was looked at, and the run. Assumes nothing.
use Rattle.std.proofs.lemmas.Result.{err_from_is_err_and}
use Rattle.controller.proofs.Entry.{no_list, no_samples, no_drives, no_area, all_fine}
use Rattle.controller.proofs.alone.Goals as goal

pub returns-in_err-size : goal.returns-in_err-size
returns-in_err-size c = let p = err_from_is_err_and c.from_residual.result c.from_residual.ensures.1 in rw p.1 (no_list _ _ _ _ _ c.check.ensures _ _ c.in_err-size.was p.2)

pub returns-then-not-all_within : goal.returns-then-not-all_within
returns-then-not-all_within c = search (no_samples, c.in_ok-size.was)

pub returns-then-drives-samples : goal.returns-then-drives-samples
returns-then-drives-samples c = search (no_drives, c.in_ok-size.was)

pub returns-then-results-size : goal.returns-then-results-size
returns-then-results-size c = search (no_area, c.in_ok-size.was)

pub returns : goal.returns
returns c = search (all_fine, c.in_ok-size.was)
