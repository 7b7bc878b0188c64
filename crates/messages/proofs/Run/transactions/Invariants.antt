-- What the loop of `messages::Run::transactions` keeps: what is left to read from here on does not change. Assumes nothing.
use Rattle.std.proofs.Common.{◌≡◌, suc, ◌*◌, ◌-◌, ◌≤◌, length}
use Rattle.plain.specs.Plain.{transactions}
use Rattle.messages.specs.Inside.{transaction_most, world_of, Sound}
use Rattle.messages.specs.Along.{batches_at}
use Rattle.messages.proofs.Transactions.{Leaves}
use Rattle.messages.proofs.Run.transactions.Given as goal

abbrev pub invariant-loop-place : goal.invariant-loop-place
invariant-loop-place l =
    (length l.memory ≡ length l.initial.memory) × (length l.results ≡ length l.initial.results) × Sound l.run l.memory
    × (l.run.time.now ≤ transaction_most * l.place.at) × (l.place.slot ≤ 524288 * l.place.at) × (l.place.at ≤ 1048576)
    × Leaves l.holds l.list l.asked l.place l.run l.memory l.results
    (transactions l.asked (batches_at (suc (length l.list)) l.list l.initial.place) (world_of l.initial.run l.holds l.initial.memory l.initial.results))

abbrev pub decreases-loop-place : goal.decreases-loop-place
decreases-loop-place l = length l.list - l.place.at
