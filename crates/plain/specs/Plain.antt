-- The plain reading of a list: bytes and chips, no bits and no wires (request, demand 3; paper 01, "Order lists and their results", "What the chip does").
-- Assumes nothing.
use Rattle.std.specs.Prelude.{ℕ, zero, suc, ◌+◌, Bool, true, false, ◌&&◌, ◌||◌, not, cond, List, [], ◌∷◌, map, eqb, leb}
use Rattle.kinds.specs.Kinds.{is_critical, follow, remain}
use Rattle.kinds.specs.declared.Quota.{Quota}
use Rattle.orders.specs.Results.{Slotted, Batch}
use Rattle.orders.specs.Marks.{Mark, heard, written, closed, read_mark, Log, note}
use Rattle.orders.specs.Asking.{Order, put, get, order_of, address_byte}
use Rattle.store.specs.Keeping.{Kept, takes, byte_now, steps, starts, stops}
use Rattle.plain.specs.Clock.{Clock, symbol, symbols, pass}

-- a chip, and the tick from which it is no longer busy
pub record Cell : Type 0 where
  pub kept : Kept
  pub free : ℕ

pub record World : Type 0 where
  pub clock : Clock
  pub cells : List Cell
  pub log : Log

-- the chip has this address, and is not busy at this tick
abbrev pub listens : (address tick : ℕ) → Cell → Bool
listens a t c = eqb a c.kept.store.name && leb c.free t

abbrev pub any_of : (Cell → Bool) → List Cell → Bool
any_of f [] = false
any_of f (c ∷ cs) = f c || any_of f cs

abbrev pub does : (Kept → Kept) → Cell → Cell
does g c = record { kept = g c.kept; free = c.free }

-- only the chips that f picks do g
abbrev pub only : (Cell → Bool) → (Kept → Kept) → Cell → Cell
only f g c = cond (f c) (does g c) c

-- the byte of the chip that f picks
abbrev pub value_of : (Cell → Bool) → List Cell → ℕ
value_of f [] = 255
value_of f (c ∷ cs) = cond (f c) (byte_now c.kept) (value_of f cs)

-- nine symbols go by: what the chips that f picks make of the byte, and what is noted
abbrev pub byte_goes : (Cell → Bool) → (Kept → Kept) → Mark → (slot : ℕ) → World → World
byte_goes f g m s w = record { clock = symbols 9 w.clock; cells = map (only f g) w.cells; log = note m s w.log }

-- the bytes of a write to the chips that f picks, n of them counted before; a chip acknowledges every byte
unfoldable pub writes_all : (Cell → Bool) → (slot n : ℕ) → List ℕ → World → World
writes_all f s n [] w = w
writes_all f s n (y ∷ ys) w = writes_all f s (suc n) ys (byte_goes f (takes y) (written n y true) s w)

abbrev pub reads_one : (Cell → Bool) → (slot n : ℕ) → Quota → World → World
reads_one f s n q w = byte_goes f steps (read_mark q n (value_of f w.cells)) s w

-- m more bytes of a read, after one of quota q
unfoldable pub reads_all : (Cell → Bool) → (slot n : ℕ) → Quota → (m : ℕ) → World → World
reads_all f s n q zero w = w
reads_all f s n q (suc m) w = reads_all f s (suc n) (remain q m) m (reads_one f s n (remain q m) w)

abbrev pub carried : (Cell → Bool) → (slot : ℕ) → Order → World → World
carried f s (put ys) w = writes_all f s 0 ys w
carried f s (get q) w = reads_all f s 1 q (follow q (value_of f w.cells)) (reads_one f s 0 q w)

-- whether a chip answers is decided when the eighth bit is delivered, at the end of the eighth symbol
abbrev pub listening : Slotted → World → Cell → Bool
listening m w = listens m.message.address (symbols 8 w.clock).now

abbrev pub answered : Slotted → World → Bool
answered m w = any_of (listening m w) w.cells

-- the address byte goes by
abbrev pub addressed : Slotted → Bool → World → World
addressed m q w = record { clock = symbols 9 w.clock; cells = w.cells; log = note (heard (address_byte m.message) q) m.slot w.log }

abbrev pub message_if : Slotted → Bool → World → World
message_if m true w = carried (listening m w) m.slot (order_of m.message) (addressed m true w)
message_if m false w = addressed m false w

-- a message after its START
abbrev pub message : Slotted → World → World
message m w = message_if m (answered m w) w

-- START: every chip drops its latch
abbrev pub started : Clock → World → World
started c w = record { clock = c; cells = map (does starts) w.cells; log = w.log }

-- a message and those after it: a critical one that is not answered is the last
unfoldable pub messages : List Slotted → Slotted → World → World
messages [] m w = message m w
messages (n ∷ ms) m w =
    let on : World = messages ms n (started (symbol (message m w).clock) (message m w)) in
    cond (answered m w || not (is_critical m.message.kind)) on (message m w)

-- STOP: a chip with a latched byte stores, and is busy for the asked time from here on
abbrev pub stores : (asked tick : ℕ) → Cell → Cell
stores asked t c =
    record { kept = stops c.kept.store.latched c.kept; free = cond c.kept.store.latched (t + asked) c.free }

abbrev pub closes : (asked top : ℕ) → World → World
closes asked top w =
    record { clock = symbol w.clock; cells = map (stores asked (symbol w.clock).now) w.cells; log = note closed top w.log }

unfoldable pub transactions : (asked : ℕ) → List Batch → World → World
transactions asked [] w = w
transactions asked (t ∷ ts) w =
    transactions asked ts (closes asked t.top (messages t.others t.first (started (pass (t.wait + 4) w.clock) w)))
