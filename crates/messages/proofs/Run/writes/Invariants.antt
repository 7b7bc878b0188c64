-- What the loop of `messages::Run::writes` keeps: so many bytes went by, and what is left makes the same world. Assumes nothing.
use Rattle.std.proofs.Common.{◌≡◌, ◌+◌, ◌*◌, ◌≤◌, length}
use Rattle.plain.specs.Plain.{listens, writes_all}
use Rattle.messages.specs.Inside.{byte_most, world_of, Sound}
use Rattle.messages.specs.Along.{bytes_at}
use Rattle.messages.proofs.Bytewise.{Writing}
use Rattle.messages.proofs.Run.writes.Given as goal

abbrev pub invariant-loop-i : goal.invariant-loop-i
invariant-loop-i l =
    (length l.results ≡ length l.initial.results) × Sound l.run l.memory × (l.run.time.now ≤ l.initial.run.time.now + byte_most * l.i)
    × Writing l.call.address l.call.tick l.place.slot l.holds l.memory l.list (l.place.at + 3) l.count l.i l.run l.results
    (writes_all (listens l.call.address l.call.tick) l.place.slot 0 (bytes_at l.count l.list (l.place.at + 3)) (world_of l.initial.run l.holds l.memory l.initial.results))
