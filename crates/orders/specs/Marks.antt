-- What a run notes in the result area, and when (paper 01, "Order lists and their results", "Line faults"). Assumes nothing.
use Rattle.std.specs.Prelude.{ℕ, ◌+◌, Bool, true, false, List, set}
use Rattle.kinds.specs.declared.Quota.{Quota}

-- At the end of every ninth symbol: an address byte or a written byte and whether it was acknowledged, or a byte read; with a data byte goes the
-- count of those before it. Then the end of a transaction's STOP, and a fault with its outcome.
pub data Mark : Type 0 where
  heard : ℕ → Bool → Mark
  written : (count byte : ℕ) → Bool → Mark
  got : (count byte : ℕ) → Mark
  closed : Mark
  broke : ℕ → Mark

-- a byte read, by the quota under which it came
unfoldable pub read_mark : Quota → (count byte : ℕ) → Mark
read_mark q n y = got n y

pub record Log : Type 0 where
  pub area : List ℕ

-- at a message's slot: flag, count, bytes; at a transaction's place: its outcome
abbrev pub note_area : Mark → ℕ → List ℕ → List ℕ
note_area (heard y true) s a = set a s 1
note_area (heard y false) s a = a
note_area (written n y true) s a = set a (s + 1) (n + 1)
note_area (written n y false) s a = a
note_area (got n y) s a = set (set a (s + 2 + n) y) (s + 1) (n + 1)
note_area closed s a = set a s 0
note_area (broke n) s a = set a s n

unfoldable pub note : Mark → ℕ → Log → Log
note m s l = record { area = note_area m s l.area }
