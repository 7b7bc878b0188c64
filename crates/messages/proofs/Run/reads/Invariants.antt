-- What the loop of `messages::Run::reads` keeps: so many bytes went by, and what is left makes the same world. Assumes nothing.
use Rattle.std.proofs.Common.{◌≡◌, ◌+◌, ◌*◌, ◌-◌, ◌≤◌, length}
use Rattle.plain.specs.Plain.{listens, reads_all}
use Rattle.messages.specs.Inside.{byte_most, world_of, Sound}
use Rattle.messages.proofs.Bytewise.{Reading}
use Rattle.messages.proofs.Run.reads.Given as goal

abbrev pub invariant-loop-i : goal.invariant-loop-i
invariant-loop-i l =
    (length l.results ≡ length l.initial.results) × Sound l.run l.memory × (l.run.time.now ≤ l.initial.run.time.now + byte_most * l.i)
    × Reading l.call.address l.call.tick l.place.slot l.holds l.memory (l.i + 1) l.left (l.more - l.i) l.run l.results
    (reads_all (listens l.call.address l.call.tick) l.place.slot 1 l.initial.left l.more (world_of l.initial.run l.holds l.memory l.initial.results))
