-- What a transaction sent, by the list and the results alone, and the ticks that it takes by that (request, demand 3). Assumes nothing.
use Rattle.std.specs.Prelude.{ℕ, zero, suc, ◌+◌, ◌*◌, Bool, ◌||◌, not, cond, List, [], ◌∷◌, eqb, get_or, drop}
use Rattle.kinds.specs.Kinds.{is_critical}
use Rattle.orders.specs.Results.{Slotted, Batch}
use Rattle.wires.specs.Holding.{first_hold, later_holds}

-- m messages and L bytes, addresses counted
pub record Sum : Type 0 where
  pub messages : ℕ
  pub bytes : ℕ

-- was its address acknowledged?
abbrev pub flagged : (area : List ℕ) → Slotted → Bool
flagged a m = not (eqb (get_or a m.slot 0) 0)

-- the address byte, and the data bytes that were counted: a chip acknowledges every byte written to it, so none goes by uncounted
abbrev pub bytes_by : (area : List ℕ) → Slotted → ℕ
bytes_by a m = 1 + get_or a (m.slot + 1) 0

abbrev pub alone : ℕ → Sum
alone n = record { messages = 1; bytes = n }

abbrev pub with : ℕ → Sum → Sum
with n s = record { messages = suc s.messages; bytes = n + s.bytes }

-- a message and those after it: a critical one that was not acknowledged was the last
unfoldable pub sum_of : (area : List ℕ) → List Slotted → Slotted → Sum
sum_of a [] m = alone (bytes_by a m)
sum_of a (n ∷ ms) m =
    let more : Sum = with (bytes_by a m) (sum_of a ms n) in
    cond (flagged a m || not (is_critical m.message.kind)) more (alone (bytes_by a m))

abbrev pub sum_in : (area : List ℕ) → Batch → Sum
sum_in a t = sum_of a t.others t.first

-- m + 9L: nine symbols a byte, and one a message
abbrev pub clocked_in : Sum → ℕ
clocked_in s = s.messages + 9 * s.bytes

-- the held ticks of the next n clocked symbols
unfoldable pub held : ℕ → (holds : List ℕ) → ℕ
held zero hs = 0
held (suc n) hs = first_hold hs + held n (later_holds hs)

-- its asked wait, plus 4(m + 9L + 1) ticks, plus its holds
unfoldable pub ticks_of : (wait : ℕ) → Sum → (holds : List ℕ) → ℕ
ticks_of wait s hs = wait + 4 * (clocked_in s + 1) + held (clocked_in s) hs

-- the transactions of a list, each with the holds that are left for it
unfoldable pub ticks_all : (area holds : List ℕ) → List Batch → ℕ
ticks_all a hs [] = 0
ticks_all a hs (t ∷ ts) = ticks_of t.wait (sum_in a t) hs + ticks_all a (drop (clocked_in (sum_in a t)) hs) ts

-- the clocked symbols of all of them
unfoldable pub clocked_all : (area : List ℕ) → List Batch → ℕ
clocked_all a [] = 0
clocked_all a (t ∷ ts) = clocked_in (sum_in a t) + clocked_all a ts
