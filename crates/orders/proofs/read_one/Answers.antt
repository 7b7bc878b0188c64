-- `orders::read_one` meets its contract: at each return the law of that answer, from the tests that led there. Assumes nothing.
use Rattle.std.proofs.Common.{◌∙◌}
use Rattle.orders.proofs.OneMessage.{passed_on, no_address, bad_address, no_kind, bad_kind, no_length, bad_length, no_data, whole_message}
use Rattle.orders.proofs.read_one.Goals as goal

pub returns-in_err-address : goal.returns-in_err-address
returns-in_err-address c = passed_on _ _ c.from_residual.ensures.1 ∙ search (no_address, c.in_err-address.ensures)

pub returns-in_err-keeps : goal.returns-in_err-keeps
returns-in_err-keeps c = passed_on _ _ c.from_residual-in_err-keeps.ensures.1 ∙ search (bad_address, c.in_ok-address.ensures, c.in_err-keeps.ensures)

pub returns-in_err-kind : goal.returns-in_err-kind
returns-in_err-kind c = passed_on _ _ c.from_residual-in_err-kind.ensures.1 ∙ search (no_kind, c.in_ok-address.ensures, c.in_ok-keeps.ensures, c.in_err-kind.ensures)

pub returns-in_err-keeps-2 : goal.returns-in_err-keeps-2
returns-in_err-keeps-2 c = passed_on _ _ c.from_residual-in_err-keeps-2.ensures.1 ∙ search (bad_kind, c.in_ok-address.ensures, c.in_ok-keeps.ensures, c.in_ok-kind.ensures, c.in_err-keeps-2.ensures)

pub returns-in_err-asked : goal.returns-in_err-asked
returns-in_err-asked c = passed_on _ _ c.from_residual-in_err-asked.ensures.1 ∙ search (no_length, c.in_ok-address.ensures, c.in_ok-keeps.ensures, c.in_ok-kind.ensures, c.in_ok-keeps-2.ensures, c.in_err-asked.ensures)

pub returns-in_err-keeps-3 : goal.returns-in_err-keeps-3
returns-in_err-keeps-3 c = passed_on _ _ c.from_residual-in_err-keeps-3.ensures.1 ∙ search (bad_length, c.in_ok-address.ensures, c.in_ok-keeps.ensures, c.in_ok-kind.ensures, c.in_ok-keeps-2.ensures, c.in_ok-asked.ensures, c.in_err-keeps-3.ensures)

pub returns-then-list-next : goal.returns-then-list-next
returns-then-list-next c = let d = c.from.ensures ∙ c.data_of.ensures in search (no_data, c.in_ok-address.ensures, c.in_ok-keeps.ensures, c.in_ok-kind.ensures, c.in_ok-keeps-2.ensures, c.in_ok-asked.ensures, c.in_ok-keeps-3.ensures)

pub returns : goal.returns
returns c = let d = c.from.ensures ∙ c.data_of.ensures in let r = c.from-2.ensures ∙ c.asked_of.ensures in search (whole_message, c.in_ok-address.ensures, c.in_ok-keeps.ensures, c.in_ok-kind.ensures, c.in_ok-keeps-2.ensures, c.in_ok-asked.ensures, c.in_ok-keeps-3.ensures)
