-- The step stays below a word's end. Assumes nothing.
use Rattle.store.proofs.Pages.{step_fits}
use Rattle.store.proofs.Model.page_step.Goals as goal

pub overflow_add-result-2 : goal.overflow_add-result-2
overflow_add-result-2 c = search step_fits
