-- A byte is its eight bits, highest first, shifted into a register one after another. Assumes nothing.
use Prim.Native.Nat.{ℕ, zero, suc, ◌+◌, ◌*◌, ◌/◌, ◌%◌, ◌^◌, ◌≤◌, ◌<◌}
use mathlib.Core.Path.{◌≡◌, refl, ap, sym, ◌∙◌}
use native.Mathlib.Omega.{arith}
use native.Mathlib.Nat.{pow-suc, div-div-eq-div-mul, div-le_self, mod-eq_of_lt}
use lib.Dec.{eqb}
use Rattle.lines.specs.Levels.{digit, bit_at, shifted}

-- the register after bits k to 0 of x, if it held a before
unfoldable pub collect : (k x a : ℕ) → ℕ
collect zero x a = shifted a (bit_at 0 x)
collect (suc k) x a = collect k x (shifted a (bit_at (suc k) x))

digit_one : (n : ℕ) → n < 2 → digit (eqb n 1) ≡ n
digit_one zero h = refl
digit_one (suc zero) h = refl
digit_one (suc (suc n)) h = absurd (omega arith)

digit_bit : (i x : ℕ) → digit (bit_at i x) ≡ x / 2 ^ i % 2
unfolding bit_at
digit_bit i x = digit_one (x / 2 ^ i % 2) (omega arith)

half_power : (x k : ℕ) → x / 2 ^ suc k ≡ x / 2 ^ k / 2
half_power x k = ap (λ (m : ℕ). x / m) (pow-suc 2 k) ∙ sym (div-div-eq-div-mul x (2 ^ k) 2)

halves : (n : ℕ) → n < 256 → (n / 2 * 2 + n % 2) % 256 ≡ n
halves n h = ap (λ (m : ℕ). m % 256) (both n) ∙ mod-eq_of_lt h
  where
    both : (n : ℕ) → n / 2 * 2 + n % 2 ≡ n
    both n = omega arith

-- bits suc k and up are in the register; one more
one_more_lem : (k x : ℕ) → x < 256 → shifted (x / 2 ^ suc k) (bit_at k x) ≡ x / 2 ^ k
one_more_lem k x h = rw (digit_bit k x, half_power x k) (halves (x / 2 ^ k) (less (x / 2 ^ k) (div-le_self x (2 ^ k))))
  where
    less : (n : ℕ) → n ≤ x → n < 256
    less n l = omega arith

whole_from : (k x : ℕ) → x < 256 → collect k x (x / 2 ^ suc k) ≡ x
unfolding collect
whole_from zero x h = one_more_lem 0 x h ∙ omega arith
whole_from (suc k) x h = ap (collect k x) (one_more_lem (suc k) x h) ∙ whole_from k x h

pub whole : (x : ℕ) → x < 256 → collect 7 x 0 ≡ x
whole x h = ap (collect 7 x) (omega arith) ∙ whole_from 7 x h
