-- The places of the page up to this one are stored. Assumes nothing.
use Rattle.std.proofs.Common.{◌≡◌}
use Rattle.store.specs.Keeping.{stored}
use Rattle.store.proofs.Store.stores.Given as goal

abbrev pub invariant-loop-place : goal.invariant-loop-place
invariant-loop-place l = l.mem ≡ stored l.place l.start l.self.latch l.initial.mem
