-- The result area: its size R, how it starts, and where each message's results stand; what the check of a list says (paper 01, "Order lists and
-- their results", "When the desk says no"). Assumes nothing.
use Rattle.std.specs.Prelude.{ℕ, ◌+◌, cond, List, [], ◌∷◌, ◌++◌, ltb, length, drop, replicate, Result, Ok, Err}
use Rattle.kinds.specs.Kinds.{most_bytes, asked_of}
use Rattle.orders.specs.Form.{Message, Transaction, Parsed, right, wrong, parsed}
use Rattle.lent.specs.declared.Refusal.{Refusal}
use Rattle.lent.specs.declared.Refusal.TheVariants.{ListTooLong, ListBroken}
use Rattle.orders.specs.declared.ListError.{ListError}
use Rattle.orders.specs.declared.ListError.TheVariants.{TooLong, Broken}

-- per message a flag, a count, and a byte per byte asked of a read
abbrev pub slots_of : Message → ℕ
slots_of m = 2 + asked_of m.kind m.asked

unfoldable pub slots_of_all : List Message → ℕ
slots_of_all [] = 0
slots_of_all (m ∷ ms) = slots_of m + slots_of_all ms

-- R: per transaction an outcome byte, and its messages' slots
unfoldable pub area_of : List Transaction → ℕ
area_of [] = 0
area_of (t ∷ ts) = 1 + slots_of_all (t.first ∷ t.others) + area_of ts

-- it starts with outcomes 255 and the rest 0
unfoldable pub blank_area : List Transaction → List ℕ
blank_area [] = []
blank_area (t ∷ ts) = 255 ∷ (replicate (slots_of_all (t.first ∷ t.others)) 0 ++ blank_area ts)

-- bytes past R are untouched
unfoldable pub start_area : List Transaction → List ℕ → List ℕ
start_area ts lent = blank_area ts ++ drop (area_of ts) lent

-- a message, and the place of its flag
pub record Slotted : Type 0 where
  pub message : Message
  pub slot : ℕ

-- a transaction, and the place of its outcome
pub record Batch : Type 0 where
  pub wait : ℕ
  pub first : Slotted
  pub others : List Slotted
  pub top : ℕ

unfoldable pub slotted : ℕ → List Message → List Slotted
slotted s [] = []
slotted s (m ∷ ms) = record { message = m; slot = s } ∷ slotted (s + slots_of m) ms

unfoldable pub batches : ℕ → List Transaction → List Batch
batches top [] = []
batches top (t ∷ ts) =
    record { wait = t.wait; first = record { message = t.first; slot = top + 1 }; others = slotted (top + 1 + slots_of t.first) t.others; top = top }
    ∷ batches (top + (1 + slots_of_all (t.first ∷ t.others))) ts

-- what the check of a list says
abbrev pub checked_as : Parsed → Result ℕ ListError
checked_as (right ms ts) = Ok (area_of ts)
checked_as (wrong b) = Err (Broken b)

unfoldable pub check_of : List ℕ → Result ℕ ListError
check_of s = cond (ltb most_bytes (length s)) (Err TooLong) (checked_as (parsed s))

-- the refusal that an entry gives for it
abbrev pub refusal_of : ListError → Refusal
refusal_of TooLong = ListTooLong
refusal_of (Broken b) = ListBroken

-- its number on the desk's list, 0 if it is accepted
abbrev pub list_number : Result ℕ ListError → ℕ
list_number (Ok size) = 0
list_number (Err TooLong) = 1
list_number (Err (Broken b)) = 2

-- the result area that it asks for
abbrev pub room_of : Result ℕ ListError → ℕ
room_of (Ok size) = size
room_of (Err e) = 0
