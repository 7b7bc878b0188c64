-- Inside: the code's run along a list, with what is lent to it, as the rules have it. No entry cites it. Assumes nothing.
use Rattle.std.specs.Prelude.{ℕ, ◌+◌, ◌*◌, ◌≤◌, ◌≡◌, List, length}
use Rattle.orders.specs.Results.{Batch}
use Rattle.board.specs.Seats.{offset}
use Rattle.plain.specs.Clock.{symbols, pass}
use Rattle.plain.specs.Plain.{Cell, World, messages, started, closes}
use Rattle.plain.specs.Inside.{symbol_most, time_of, Passes, cells_of, Becomes}
use Rattle.messages.specs.declared.Run.{Run}

-- the most ticks that each may take: a byte, 256 bytes, a message, 256 messages, a transaction with its wait
abbrev pub byte_most : ℕ
byte_most = 2331

abbrev pub bytes_most : ℕ
bytes_most = 596736

abbrev pub message_most : ℕ
message_most = 1000000

abbrev pub messages_most : ℕ
messages_most = 268435456

abbrev pub transaction_most : ℕ
transaction_most = 536870912

-- the chips' parts make up the memory
pub record Sound (x : Run) (m : List ℕ) : Type 0 where
  pub fits : offset x.chips.count x.chips.seats ≡ length m

unfoldable pub world_of : Run → (holds memory results : List ℕ) → World
world_of x holds m l = record { clock = time_of x.time holds; cells = cells_of x.chips.count x.chips.seats m; log = record { area = l } }

-- the run is at this world, and not later than so many ticks
pub record Comes (holds m l : List ℕ) (w : World) (latest : ℕ) (x : Run) : Type 0 where
  pub is : world_of x holds m l ≡ w
  pub sound : Sound x m
  pub soon : x.time.now ≤ latest

-- k symbols went by, and each chip took a step
pub record Goes (holds : List ℕ) (k : ℕ) (h : Cell → Cell) (x r : Run) : Type 0 where
  pub time : Passes holds (symbols k (time_of x.time holds)) (x.time.now + symbol_most * k) r.time
  pub chips : Becomes h x.chips r.chips

-- one transaction, from its wait to its STOP
abbrev pub transaction : (asked : ℕ) → Batch → World → World
transaction asked b w = closes asked b.top (messages b.others b.first (started (pass (b.wait + 4) w.clock) w))
