-- A clocked symbol by the tables of symbols and of faults: what is driven in its phases, that no fault test fires, and what phase 3 tells the chips. x is
-- what the chips drive on SDA. Assumes nothing.
use Prim.Native.Nat.{ℕ, ◌<◌}
use mathlib.Core.Path.{◌≡◌, refl, ap}
use mathlib.Core.Bool.{Bool, true, false, ◌&&◌}
use borrow.Author.Tests.{lt-leb}
use lib.Dec.{eqb}
use Rattle.std.specs.Prelude.{Option, Some, None}
use Rattle.lines.specs.Levels.{hi, lo, ◌∥◌, most_held}
use Rattle.lines.specs.Events.{event, note}
use Rattle.lines.specs.declared.Event.{Event}
use Rattle.lines.specs.declared.Event.TheVariants.{Quiet, Started, Stopped}
use Rattle.symbols.specs.Symbols.{four, row, drives}
use Rattle.symbols.specs.declared.Row.{Row}
use Rattle.symbols.specs.Faults.{fault_of}
use Rattle.symbols.specs.declared.Begin.TheVariants.{First, Repeated}
use Rattle.symbols.specs.declared.Symbol.{Symbol}
use Rattle.symbols.specs.declared.Symbol.TheVariants.{Start, Stop, Sent, Received}
use Rattle.symbols.specs.declared.Phase.TheVariants.{Zero, One, Two, Three}
use Rattle.wires.specs.Wires.{joined}

-- SDA driven in phases 1 and 2
abbrev pub mid : Symbol → Bool
mid (Start b) = hi
mid Stop = lo
mid (Sent b) = b
mid Received = hi

-- and in phase 3
abbrev pub late : Symbol → Bool
late (Start b) = lo
late Stop = hi
late (Sent b) = b
late Received = hi

-- when a clocked symbol goes through: wherever the controller needs SDA for itself, no chip may pull it
abbrev pub Fine : Symbol → Bool → Type 0
Fine (Start First) x = ⊥
Fine (Start Repeated) x = x ≡ true
Fine Stop x = x ≡ true
Fine (Sent b) x = x ≡ true
Fine Received x = Unit {0}

pub clocked_row : (s : Symbol) (x : Bool) → Fine s x → (p : Bool) → row s p ≡ four (lo ∥ p) (lo ∥ mid s) (hi ∥ mid s) (hi ∥ late s)
clocked_row (Start First) x f p = absurd f
clocked_row (Start Repeated) x f p = refl
clocked_row Stop x f p = refl
clocked_row (Sent b) x f p = refl
clocked_row Received x f p = refl

-- the lines, the holder driving SCL low for h ticks more and the chips y on SDA
module _ (s : Symbol) (x : Bool) (f : Fine s x) (p : Bool) where
  pub lines_zero : (h : ℕ) (y : Bool) → joined (drives (Zero s) p) h y ≡ lo ∥ (p && y)
  lines_zero h y = ap (λ (r : Row). joined r.zero h y) (clocked_row s x f p)

  pub lines_one : (h : ℕ) (y : Bool) → joined (drives (One s) p) h y ≡ lo ∥ (mid s && y)
  lines_one h y = ap (λ (r : Row). joined r.one h y) (clocked_row s x f p)

  pub lines_two : (n h : ℕ) (y : Bool) → joined (drives (Two s n) p) h y ≡ eqb h 0 ∥ (mid s && y)
  lines_two n h y = ap (λ (r : Row). joined r.two h y) (clocked_row s x f p)

  pub lines_three : (w : Bool) (h : ℕ) (y : Bool) → joined (drives (Three s w) p) h y ≡ eqb h 0 ∥ (late s && y)
  lines_three w h y = ap (λ (r : Row). joined r.three h y) (clocked_row s x f p)

pub clear_zero : (s : Symbol) (x : Bool) → Fine s x → (p y : Bool) → fault_of (Zero s) p (lo ∥ (p && y)) ≡ None
unfolding fault_of
clear_zero (Start First) x f p y = absurd f
clear_zero (Start Repeated) x f true y = refl
clear_zero (Start Repeated) x f false y = refl
clear_zero Stop x f true y = refl
clear_zero Stop x f false y = refl
clear_zero (Sent b) x f true y = refl
clear_zero (Sent b) x f false y = refl
clear_zero Received x f true y = refl
clear_zero Received x f false y = refl

pub clear_one : (s : Symbol) (x : Bool) → Fine s x → (p : Bool) → fault_of (One s) p (lo ∥ (mid s && x)) ≡ None
unfolding fault_of
clear_one (Start First) x f p = absurd f
clear_one (Start Repeated) x f p = refl
clear_one Stop x f p = refl
clear_one (Sent true) x f p = refl
clear_one (Sent false) x f p = refl
clear_one Received x f p = refl

-- a held tick, one of the first 16
pub clear_held : (s : Symbol) (x : Bool) → Fine s x → (p : Bool) (n : ℕ) → n < most_held → fault_of (Two s n) p (lo ∥ (mid s && x)) ≡ None
unfolding fault_of
clear_held (Start First) x f p n h = absurd f
clear_held (Start Repeated) x f p n h = rw (lt-leb most_held n h)
clear_held Stop x f p n h = rw (lt-leb most_held n h)
clear_held (Sent true) x f p n h = rw (lt-leb most_held n h)
clear_held (Sent false) x f p n h = rw (lt-leb most_held n h)
clear_held Received x f p n h = rw (lt-leb most_held n h)

pub clear_two : (s : Symbol) (x : Bool) → Fine s x → (p : Bool) (n : ℕ) → fault_of (Two s n) p (hi ∥ (mid s && x)) ≡ None
unfolding fault_of
clear_two (Start First) x f p n = absurd f
clear_two (Start Repeated) x f p n = rw f
clear_two Stop x f p n = refl
clear_two (Sent true) x f p n = rw f
clear_two (Sent false) x f p n = refl
clear_two Received x f p n = refl

pub clear_three : (s : Symbol) (x : Bool) → Fine s x → (p : Bool) → fault_of (Three s (mid s && x)) p (hi ∥ (late s && x)) ≡ None
unfolding fault_of
clear_three (Start First) x f p = absurd f
clear_three (Start Repeated) x f p = refl
clear_three Stop x f p = rw f
clear_three (Sent true) x f p = rw f
clear_three (Sent false) x f p = refl
clear_three Received true f p = refl
clear_three Received false f p = refl

-- what phase 3 tells: START or STOP at once, a bit in the next symbol's phase 0
abbrev pub told : Symbol → Event
told (Start b) = Started
told Stop = Stopped
told (Sent b) = Quiet
told Received = Quiet

abbrev pub kept : Symbol → Bool → Option Bool
kept (Start b) v = None
kept Stop v = None
kept (Sent b) v = Some v
kept Received v = Some v

pub told_is : (s : Symbol) (x : Bool) → Fine s x → (n : Option Bool) → event hi hi (mid s && x) (late s && x) n ≡ told s
told_is (Start First) x f n = absurd f
told_is (Start Repeated) x f n = rw f
told_is Stop x f n = rw f
told_is (Sent true) x f n = rw f
told_is (Sent false) x f n = refl
told_is Received true f n = refl
told_is Received false f n = refl

pub kept_is : (s : Symbol) (x : Bool) → Fine s x → note hi hi (mid s && x) (late s && x) (Some (mid s && x)) ≡ kept s (late s && x)
kept_is (Start First) x f = absurd f
kept_is (Start Repeated) x f = rw f
kept_is Stop x f = rw f
kept_is (Sent true) x f = rw f
kept_is (Sent false) x f = refl
kept_is Received true f = refl
kept_is Received false f = refl
