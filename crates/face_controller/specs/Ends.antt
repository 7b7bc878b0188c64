-- How a run on a record ended, as a number. The paper numbers the faults; the other ends have numbers beside them. Assumes nothing.
use Rattle.std.specs.Prelude.{ℕ, List}
use Rattle.symbols.specs.Faults.{outcome_of}
use Rattle.controller.specs.Alone.{Alone, End, Refused, ListEnd, Faulted, RecordEnd}

abbrev pub end_number : End → ℕ
end_number ListEnd = 0
end_number (Faulted f) = outcome_of f
end_number RecordEnd = 6
end_number Refused = 7

-- the answer of the controller alone, with its end as a number
pub record Numbered : Type 0 where
  pub number : ℕ
  pub end : ℕ
  pub ticks : ℕ
  pub drives : List ℕ
  pub results : List ℕ

abbrev pub told_as : (number end ticks : ℕ) → (drives results : List ℕ) → Numbered
told_as number end ticks drives results = record { number = number; end = end; ticks = ticks; drives = drives; results = results }

abbrev pub numbered : Alone → Numbered
numbered a = told_as a.told.number (end_number a.told.end) a.told.ticks a.drives a.results
