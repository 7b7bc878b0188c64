-- What the loop of `plain::Time::symbols` keeps: so many symbols have gone by. Assumes nothing.
use Rattle.std.proofs.Common.{◌≡◌, ◌+◌, ◌*◌, ◌-◌, ◌≤◌}
use Rattle.plain.specs.Clock.{symbols}
use Rattle.plain.specs.Inside.{symbol_most, time_of}
use Rattle.plain.proofs.Time.symbols.Given as goal

abbrev pub invariant-loop : goal.invariant-loop
invariant-loop l =
    (l.time.now ≤ l.initial.time.now + symbol_most * l.counter) × (symbols (l.n - l.counter) (time_of l.time l.holds) ≡ symbols l.n (time_of l.initial.time l.holds))
