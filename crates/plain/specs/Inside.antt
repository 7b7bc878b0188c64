-- Inside: the code's time and chips, with what is lent to them, as the rules have them. No entry cites it. Assumes nothing.
use Rattle.std.specs.Prelude.{ℕ, ◌≤◌, ◌≡◌, List, map, drop, Option, Some, None}
use Rattle.store.specs.Keeping.{kept_of}
use Rattle.store.specs.declared.Store.{Store}
use Rattle.board.specs.Seats.{Seated, size_of, seated, offset}
use Rattle.board.specs.declared.Chips.{Chips}
use Rattle.board.specs.declared.Seat.{Seat}
use Rattle.plain.specs.Clock.{Clock}
use Rattle.plain.specs.Plain.{Cell}
use Rattle.plain.specs.declared.Time.{Time}

-- no run gets there: so no sum of ticks or places passes a word
abbrev pub far : ℕ
far = 1152921504606846976

-- the most ticks that a clocked symbol may take
abbrev pub symbol_most : ℕ
symbol_most = 259

unfoldable pub time_of : Time → (holds : List ℕ) → Clock
time_of t holds = record { now = t.now; holds = drop t.next holds }

-- the time is this one, and not later than so many ticks
pub record Passes (holds : List ℕ) (c : Clock) (latest : ℕ) (t : Time) : Type 0 where
  pub is : time_of t holds ≡ c
  pub soon : t.now ≤ latest

-- a chip with its part of the memory
abbrev pub cell_at : Seat → List ℕ → Cell
cell_at x m = record { kept = kept_of x.chip.store m; free = x.free }

abbrev pub cell_on : Seated → Cell
cell_on x = cell_at x.seat x.memory

-- the first n chips, each with its part
unfoldable pub cells_of : ℕ → List Seat → List ℕ → List Cell
cells_of n xs m = map cell_on (seated n xs m)

-- a chip with its next store, if it has one
abbrev pub next_of : Seat → Option Store → Seat
next_of x None = x
next_of x (Some s) = record { chip = record { stage = x.chip.stage; store = s }; free = x.free }

-- a step made a chip another one of the same size
pub record Steps (h : Cell → Cell) (x y : Seat) : Type 0 where
  pub cell : (m : List ℕ) → cell_at y m ≡ h (cell_at x m)
  pub size : size_of y ≡ size_of x

-- and so it did with all chips of a run
pub record Becomes (h : Cell → Cell) (x y : Chips) : Type 0 where
  pub cells : (m : List ℕ) → cells_of y.count y.seats m ≡ map h (cells_of x.count x.seats m)
  pub count : y.count ≡ x.count
  pub fits : offset y.count y.seats ≡ offset x.count x.seats
