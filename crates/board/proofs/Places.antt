-- Counts of ones in a byte of marks: how many chips there are, and a chip's place among them. Assumes nothing.
use Prim.Native.Nat.{ℕ, zero, suc, ◌+◌, ◌*◌, ◌/◌, ◌%◌, ◌^◌, ◌≤◌, ◌<◌}
use mathlib.Core.Path.{◌≡◌, refl, ap, ◌∙◌}
use native.Mathlib.Omega.{arith}
use native.Mathlib.Nat.{mod-lt, mod-eq_of_lt, pow-suc, lt_of_le_of_lt, one-mul, mul_comm}
use lib.Arith.{mod-mul}
use lib.Count.{ones, ones_cat, ones-le}
use lib.Dec.{eqb}
use lib.Pow.{pow_pos, pow_mono}
use Rattle.lines.specs.Levels.{digit, bit_at}
use Rattle.board.specs.Marks.{place_of}

-- a byte has at most eight ones
pub few : (m : ℕ) → m < 256 → ones m ≤ 8
few m h = ones-le 8 m h

-- the strap's bit, as the code shifts it
pub strap_bit : (s : ℕ) → s ≤ 8 → 1 * 2 ^ s % 4294967296 ≡ 2 ^ s
strap_bit s h = ap (λ (n : ℕ). n % 4294967296) (one-mul (2 ^ s)) ∙ mod-eq_of_lt (lt_of_le_of_lt (pow_mono {j = 8} h) (omega arith))

pub few_below : (m s : ℕ) → s ≤ 8 → ones (m % (1 * 2 ^ s % 4294967296)) ≤ s
few_below m s h = rw (strap_bit s h) (ones-le s (m % 2 ^ s) (mod-lt m (pow_pos s)))

pub all_places : (m : ℕ) → m < 256 → place_of m 8 ≡ ones m
all_places m h = ap ones (mod-eq_of_lt h)

val_bit : (n : ℕ) → n < 2 → ones n ≡ digit (eqb n 1)
unfolding ones
val_bit n h = go n h
  where
    go : (n : ℕ) → n < 2 → ones n ≡ digit (eqb n 1)
    go zero h = refl
    go (suc zero) h = refl
    go (suc (suc n)) h = absurd (omega arith)

-- the next strap's place: one more if this strap has a chip
pub place_next : (m s : ℕ) → place_of m (suc s) ≡ digit (bit_at s m) + place_of m s
unfolding bit_at
place_next m s =
    ap (λ (n : ℕ). ones (m % n)) (pow-suc 2 s ∙ mul_comm (2 ^ s) 2)
    ∙ ap ones (mod-mul m {m = 2} (omega arith) (pow_pos s))
    ∙ ones_cat s (m / 2 ^ s % 2) (m % 2 ^ s) (mod-lt m (pow_pos s))
    ∙ ap (λ (n : ℕ). n + place_of m s) (val_bit (m / 2 ^ s % 2) (omega arith))
