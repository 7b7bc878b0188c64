-- The entry "controller alone": its refusals in its order, and all that comes out (paper 01, "When the desk says no"). Assumes nothing.
use Rattle.std.specs.Prelude.{ℕ, cond, List, eqb, ltb, length, Some, None, Result, Ok, Err}
use Rattle.lent.specs.Areas.{over}
use Rattle.lent.specs.Refusals.{no, ◌then◌, number_of}
use Rattle.lent.specs.declared.Refusal.{Refusal}
use Rattle.lines.specs.Records.{Party, walk, drives_on, bad_sample}
use Rattle.orders.specs.Form.{transactions_of}
use Rattle.orders.specs.Results.{area_of, start_area, batches, check_of, list_number}
use Rattle.symbols.specs.Symbols.{drives, is_over}
use Rattle.symbols.specs.Ticks.{Plan, Control, begun, control_tick}
use Rattle.symbols.specs.declared.Fault.{Fault}
use Rattle.symbols.specs.declared.Phase.{Phase}
use Rattle.symbols.specs.declared.Phase.TheVariants.{Over, Waiting, Zero, One, Two, Three}
use Rattle.controller.specs.Plan.{State, orders, opens}
use Rattle.controller.specs.declared.End.{End as EndOfRun}
use Rattle.controller.specs.declared.End.TheVariants.{ListEnd as list_end, Faulted as faulted, RecordEnd as record_end}
use Rattle.controller.specs.declared.Told.{Told as ToldOfRun}

abbrev pub party : (Q : Plan) → Party
party Q = record { State = Control Q.State; ended = λ c. is_over c.phase; drive = λ c. drives c.phase c.was; tick = control_tick Q }

-- how a call ended
pub data End : Type 0 where
  Refused : End
  ListEnd : End
  Faulted : Fault → End
  RecordEnd : End

-- what is told of a call: 0 or the number of its refusal, its end, its ticks
pub record Told : Type 0 where
  pub number : ℕ
  pub end : End
  pub ticks : ℕ

-- the same of the code's answers
abbrev pub end_told : EndOfRun → End
end_told list_end = ListEnd
end_told (faulted f) = Faulted f
end_told record_end = RecordEnd

abbrev pub told_of : Result ToldOfRun Refusal → Told
told_of (Ok t) = record { number = 0; end = end_told t.end; ticks = t.ticks }
told_of (Err r) = record { number = number_of r; end = Refused; ticks = 0 }

-- the record's end only if neither other holds
abbrev pub end_of : Phase → End
end_of (Over None) = ListEnd
end_of (Over (Some f)) = Faulted f
end_of (Waiting n) = RecordEnd
end_of (Zero s) = RecordEnd
end_of (One s) = RecordEnd
end_of (Two s n) = RecordEnd
end_of (Three s w) = RecordEnd

-- the controller at a list's first transaction, with its results started over what was lent
abbrev pub at_first : List ℕ → List ℕ → Control State
at_first list lent = begun orders (opens (batches 0 (transactions_of list)) (record { area = start_area (transactions_of list) lent }))

-- looked at in the order 1, 2, 8, 9, 7
unfoldable pub alone_number : (list samples drives results : List ℕ) → ℕ
alone_number list samples drives results =
    list_number (check_of list)
    then no 8 (bad_sample samples)
    then no 9 (ltb (length drives) (length samples))
    then no 7 (ltb (length results) (area_of (transactions_of list)))

-- everything that comes out
pub record Alone : Type 0 where
  pub told : Told
  pub drives : List ℕ
  pub results : List ℕ

abbrev pub ended : (drives samples : List ℕ) → Control State → Alone
ended drives samples c =
    let row = drives_on (party orders) samples c in
    let last = walk (party orders) samples c in
    record {
      told = record { number = 0; end = end_of last.phase; ticks = length row };
      drives = over row drives;
      results = last.plan.context.log.area;
    }

-- a refusal changes no lent byte
abbrev pub turned_down : ℕ → (drives results : List ℕ) → Alone
turned_down n drives results = record { told = record { number = n; end = Refused; ticks = 0 }; drives = drives; results = results }

unfoldable pub alone : (list samples drives results : List ℕ) → Alone
alone list samples drives results =
    let n = alone_number list samples drives results in
    let ran : Alone = ended drives samples (at_first list results) in
    cond (eqb n 0) ran (turned_down n drives results)
