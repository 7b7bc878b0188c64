-- `plain::Time::pass` meets its contract. Assumes nothing.
use Rattle.plain.proofs.Ticking.{passed}
use Rattle.plain.proofs.Time.pass.Goals as goal

pub returns : goal.returns
returns c = search passed
