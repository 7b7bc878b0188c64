-- What the code of the wires leans on: bits past a byte's eight, and the register of eight bits. Assumes nothing.
use Prim.Native.Nat.{ℕ, ◌+◌, ◌*◌, ◌/◌, ◌%◌, ◌^◌, ◌≤◌, ◌<◌}
use mathlib.Core.Path.{◌≡◌, refl, ap, sym}
use mathlib.Core.Bool.{Bool, true, false}
use native.Mathlib.Omega.{arith}
use native.Mathlib.Nat.{div-eq_of_lt, lt_of_lt_of_le}
use lib.Dec.{eqb}
use lib.Pow.{pow_mono}
use Rattle.lines.specs.Levels.{bit_at, shifted}

-- a byte has no bit past its eighth
pub no_ninth : (i x : ℕ) → x < 256 → 8 ≤ i → false ≡ bit_at i x
unfolding bit_at
no_ninth i x h l = ap (λ (n : ℕ). eqb (n % 2) 1) (sym (div-eq_of_lt (lt_of_lt_of_le h (pow_mono {i = 8} l))))

pub bit_is : (i x : ℕ) → eqb (x / 2 ^ i % 2) 1 ≡ bit_at i x
unfolding bit_at
bit_is i x = refl

-- what is shifted out is gone
pub with_one : (x : ℕ) (b : Bool) → b ≡ true → x % 128 * 2 + 1 ≡ shifted x b
with_one x b e = rw e (omega arith)

pub with_none : (x : ℕ) (b : Bool) → b ≡ false → x % 128 * 2 ≡ shifted x b
with_none x b e = rw e (omega arith)
