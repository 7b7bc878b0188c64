-- What the loop of `messages::Run::messages` keeps: the messages that are left make the same world. Assumes nothing.
use Rattle.std.proofs.Common.{◌≡◌, ◌+◌, ◌*◌, ◌-◌, ◌≤◌, length}
use Rattle.plain.specs.Plain.{messages}
use Rattle.messages.specs.Inside.{world_of, Sound}
use Rattle.messages.specs.Along.{slots_at, slot_of, beyond}
use Rattle.messages.proofs.Messages.{Sending}
use Rattle.messages.proofs.Run.messages.Given as goal

abbrev pub invariant-loop-left : goal.invariant-loop-left
invariant-loop-left l =
    (l.left ≤ l.others) × (length l.results ≡ length l.initial.results) × Sound l.run l.memory
    × (l.run.time.now ≤ l.initial.run.time.now + 1048576 * (l.others - l.left)) × (l.place.at ≤ l.initial.place.at + 1024 * (l.others - l.left))
    × (l.place.slot ≤ l.initial.place.slot + 1024 * (l.others - l.left)) × Sending l.holds l.memory l.list l.left l.place l.run l.results
    (messages (slots_at l.others l.list (beyond l.list l.initial.place)) (slot_of l.list l.initial.place) (world_of l.initial.run l.holds l.memory l.initial.results))

abbrev pub decreases-loop-left : goal.decreases-loop-left
decreases-loop-left l = l.left
