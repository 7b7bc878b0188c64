-- The laws by which the agreement counts the bytes of a read. Assumes nothing.
use Prim.Native.Nat.{ℕ, suc, ◌-◌, ◌≤◌}
use mathlib.Core.Path.{◌≡◌, refl}
use mathlib.Core.Bool.{true, false, and-eq-true_iff}
use native.Mathlib.Omega.{arith}
use borrow.Author.Tests.{leb-true}
use lib.Dec.{leb}
use Rattle.kinds.specs.Kinds.{is_write, length_right, asked_of, quota_of, follow, remain}
use Rattle.kinds.specs.declared.Quota.{Quota}

-- the next byte's quota leaves as many as it was made for
pub follow_remain : (q : Quota) (n y : ℕ) → follow (remain q n) y ≡ n
unfolding follow remain
follow_remain q n y = refl

-- a right read never asks for more than it has room for
pub quota_fits : (kind n y : ℕ) → is_write kind ≡ false → length_right kind n ≡ true → suc (follow (quota_of kind n) y) ≤ asked_of kind n
unfolding follow quota_of asked_of length_right
quota_fits kind n y e h = rw e (less (leb-true 1 n ((and-eq-true_iff (leb 1 n) _).0 (rw e at h)).0))
  where
    less : 1 ≤ n → suc (n - 1) ≤ n
    less l = omega arith
