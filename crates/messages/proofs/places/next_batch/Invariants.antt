-- What the loop of `messages::places::next_batch` keeps: so many messages are passed over. Assumes nothing.
use Rattle.std.proofs.Common.{◌≡◌, ◌+◌, ◌*◌, ◌-◌, ◌≤◌}
use Rattle.messages.specs.Along.{after}
use Rattle.messages.proofs.places.next_batch.Given as goal

abbrev pub invariant-loop : goal.invariant-loop
invariant-loop l =
    (l.initial.next.at ≤ l.next.at) × (l.next.at ≤ l.initial.next.at + 1024 * l.counter) × (l.next.slot ≤ l.initial.next.slot + 1024 * l.counter)
    × (after (l.end - l.counter) l.list l.next ≡ after l.end l.list l.initial.next)
