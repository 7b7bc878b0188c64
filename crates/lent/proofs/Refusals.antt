-- What number 0 says of the refusals. Assumes nothing.
use Prim.Native.Nat.{ℕ, zero, suc}
use mathlib.Core.Path.{◌≡◌, refl}
use mathlib.Core.Bool.{Bool, true, false}
use native.Mathlib.Omega.{arith}
use lib.Dec.{eqb}
use Rattle.lent.specs.Refusals.{no, ◌then◌, number_of}
use Rattle.lent.specs.declared.Refusal.{Refusal}
use Rattle.lent.specs.declared.Refusal.TheVariants.{ListTooLong, ListBroken, LentLengths, StateOutOfRange, HoldTooLong, BusyTooLong, AreaTooSmall, SampleOutOfRange, DrivesTooShort, NoSuchStrap}

-- of several refusals the first counts
pub none_first : (m n : ℕ) → (m then n) ≡ 0 → m ≡ 0
none_first zero n h = refl
none_first (suc m) n h = h

pub none_later : (m n : ℕ) → (m then n) ≡ 0 → n ≡ 0
none_later zero n h = h
none_later (suc m) n h = absurd (omega arith)

pub not_said : (n : ℕ) (b : Bool) → no (suc n) b ≡ 0 → b ≡ false
not_said n true h = absurd (omega arith)
not_said n false h = refl

-- no refusal has the number 0, so it is the first of those that follow it
pub refused_some : (r : Refusal) → eqb (number_of r) 0 ≡ false
refused_some ListTooLong = refl
refused_some ListBroken = refl
refused_some LentLengths = refl
refused_some StateOutOfRange = refl
refused_some HoldTooLong = refl
refused_some BusyTooLong = refl
refused_some AreaTooSmall = refl
refused_some SampleOutOfRange = refl
refused_some DrivesTooShort = refl
refused_some NoSuchStrap = refl

pub refused_first : (r : Refusal) (n : ℕ) → (number_of r then n) ≡ number_of r
refused_first ListTooLong n = refl
refused_first ListBroken n = refl
refused_first LentLengths n = refl
refused_first StateOutOfRange n = refl
refused_first HoldTooLong n = refl
refused_first BusyTooLong n = refl
refused_first AreaTooSmall n = refl
refused_first SampleOutOfRange n = refl
refused_first DrivesTooShort n = refl
refused_first NoSuchStrap n = refl
