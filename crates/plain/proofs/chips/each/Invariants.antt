-- What the loop of `plain::chips::each` keeps: the chips so far have taken the step. Assumes nothing.
use Rattle.std.proofs.Common.{◌≡◌, ℕ, ◌<◌, ◌≤◌, Option, get_or, length}
use Rattle.store.specs.declared.Store.{Store}
use Rattle.board.specs.declared.Seat.{Seat}
use Rattle.plain.specs.Inside.{next_of}
use Rattle.plain.proofs.chips.each.Given as goal

abbrev pub invariant-loop-i : goal.invariant-loop-i
invariant-loop-i g l = record {
  whole : length l.chips.0 ≡ 8;
  so_far : (k : ℕ) → k < l.i → (d : Seat)
      → (r : Option Store) × goal.F-post g l.step (get_or l.initial.chips.0 k d) r × (get_or l.chips.0 k d ≡ next_of (get_or l.initial.chips.0 k d) r);
  count : l.chips.1.0 ≡ l.initial.chips.1.0;
  rest : (k : ℕ) → l.i ≤ k → (d : Seat) → get_or l.chips.0 k d ≡ get_or l.initial.chips.0 k d;
}
