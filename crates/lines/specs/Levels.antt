-- The levels of the two wires, and the byte that stands for them in a record, a drive buffer or a trace (paper 01, "Ticks and symbols").
-- Assumes nothing.
use Rattle.std.specs.Prelude.{ℕ, ◌+◌, ◌*◌, ◌/◌, ◌%◌, ◌^◌, Bool, true, false, eqb}
use Rattle.lines.specs.declared.Lines.{Lines}

-- 1 is let go, 0 is pulled
abbrev pub hi : Bool
hi = true

abbrev pub lo : Bool
lo = false

-- SCL, SDA
infix 25 ◌∥◌
abbrev pub ◌∥◌ : Bool → Bool → Lines
c ∥ d = record { scl = c; sda = d }

abbrev pub released : Lines
released = hi ∥ hi

-- a level as a digit
abbrev pub digit : Bool → ℕ
digit true = 1
digit false = 0

-- bit i of a number
unfoldable pub bit_at : ℕ → ℕ → Bool
bit_at i x = eqb (x / 2 ^ i % 2) 1

-- one bit more of a byte, highest first: a register of eight bits
abbrev pub shifted : ℕ → Bool → ℕ
shifted x b = (x * 2 + digit b) % 256

-- SCL in bit 0, SDA in bit 1
abbrev pub byte_of : Lines → ℕ
byte_of l = digit l.scl + 2 * digit l.sda

abbrev pub lines_of : ℕ → Lines
lines_of x = bit_at 0 x ∥ bit_at 1 x

-- the most ticks for which SCL may be held low in a symbol
unfoldable pub most_held : ℕ
most_held = 16
