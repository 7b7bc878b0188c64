-- Numbers of refusals, and the order in which they are looked at (paper 01, "When the desk says no"). Assumes nothing.
use Rattle.std.specs.Prelude.{ℕ, zero, suc, Bool, true, false, Result, Ok, Err}
use Rattle.lent.specs.declared.Refusal.{Refusal}
use Rattle.lent.specs.declared.Refusal.TheVariants.{ListTooLong, ListBroken, LentLengths, StateOutOfRange, HoldTooLong, BusyTooLong, AreaTooSmall, SampleOutOfRange, DrivesTooShort, NoSuchStrap}

-- number n is given exactly when the test holds; of several numbers the first that is not 0 counts
abbrev pub no : ℕ → Bool → ℕ
no n true = n
no n false = 0

infixr 15 ◌then◌
abbrev pub ◌then◌ : ℕ → ℕ → ℕ
zero then n = n
(suc m) then n = suc m

abbrev pub number_of : Refusal → ℕ
number_of ListTooLong = 1
number_of ListBroken = 2
number_of LentLengths = 3
number_of StateOutOfRange = 4
number_of HoldTooLong = 5
number_of BusyTooLong = 6
number_of AreaTooSmall = 7
number_of SampleOutOfRange = 8
number_of DrivesTooShort = 9
number_of NoSuchStrap = 10

-- what is looked at, and passed or refused
abbrev pub refused_as : {A : Type 0} → Result A Refusal → ℕ
refused_as (Ok x) = 0
refused_as (Err r) = number_of r

-- what an entry says: 0 and its ticks, or the number of the refusal and none
pub record Answer : Type 0 where
  pub number : ℕ
  pub ticks : ℕ

abbrev pub answer_of : Result ℕ Refusal → Answer
answer_of (Ok ticks) = record { number = 0; ticks = ticks }
answer_of (Err r) = record { number = number_of r; ticks = 0 }
