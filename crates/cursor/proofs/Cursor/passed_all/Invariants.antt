-- What is left to pass leads to the same place. Assumes nothing.
use Rattle.std.proofs.Common.{◌≡◌, ◌+◌, ◌-◌}
use Rattle.cursor.specs.Cursor.{passed_all}
use Rattle.cursor.proofs.Cursor.passed_all.Given as goal

abbrev pub invariant-loop : goal.invariant-loop
invariant-loop l = passed_all l.list (l.fn.self.left + 1 - l.counter) l.cursor ≡ passed_all l.list (l.fn.self.left + 1) l.fn.self
