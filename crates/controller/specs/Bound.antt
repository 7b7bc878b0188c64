-- The most ticks that a list can take, whatever the lines do: its waits, and for each symbol its four ticks and the most held ones (request, demand 3).
-- Assumes nothing.
use Rattle.std.specs.Prelude.{ℕ, ◌+◌, ◌*◌, List, [], ◌∷◌}
use Rattle.lines.specs.Levels.{most_held}
use Rattle.kinds.specs.Kinds.{data_of, asked_of}
use Rattle.orders.specs.Form.{Message, Transaction}

-- the address byte and the data bytes: a message has those of a write or those of a read
abbrev pub bytes_of : Message → ℕ
bytes_of m = 1 + data_of m.kind m.asked + asked_of m.kind m.asked

-- m + 9L: nine symbols a byte, and one a message, which is its START; the first START is not clocked, and STOP stands for it
unfoldable pub clocked_of : List Message → ℕ
clocked_of [] = 0
clocked_of (m ∷ ms) = 1 + 9 * bytes_of m + clocked_of ms

unfoldable pub most_ticks : List Transaction → ℕ
most_ticks [] = 0
most_ticks (t ∷ ts) = t.wait + 4 + (4 + most_held) * clocked_of (t.first ∷ t.others) + most_ticks ts
