-- What the functions inside the check of a list answer: one message, and the list from a place on. Assumes nothing.
use Rattle.std.specs.Prelude.{ℕ, ◌+◌, ◌-◌, ◌<◌, ◌≡◌, List, length, Result, Ok, Err}
use Rattle.orders.specs.Form.{Read, whole, broken, Parsed, right, wrong, parse}
use Rattle.orders.specs.Results.{slots_of, slots_of_all, area_of}
use Rattle.orders.specs.declared.Break.{Break}
use Rattle.orders.specs.declared.Whole.{Whole}

abbrev pub found_as : Read → Result Whole Break
found_as (whole m q) = Ok (record { next = q; slots = slots_of m })
found_as (broken b) = Err b

-- `area` slots stand before what is read
abbrev pub checked_from : ℕ → Parsed → Result ℕ Break
checked_from area (right ms ts) = Ok (area + (slots_of_all ms + area_of ts))
checked_from area (wrong b) = Err b

-- r is the answer for the list from p on, by any number of steps that is enough
pub record Tells (r : Result ℕ Break) (area left : ℕ) (s : List ℕ) (p : ℕ) : Type 0 where
  pub tells : (steps : ℕ) → length s - p < steps → r ≡ checked_from area (parse steps left s p)
