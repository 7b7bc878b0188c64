-- The cursor's way over one message after the other. The premises are what the code has found. Assumes nothing.
use Rattle.std.proofs.Common.{◌≡◌, ℕ, suc, ◌+◌, ◌-◌, ◌≤◌, List, arith}
use Rattle.cursor.specs.Cursor.{passed, passed_all}
use Rattle.cursor.specs.declared.Cursor.{Cursor}

-- so many messages are to be passed after message n of them, and the end is at r
module _ (list : List ℕ) (c d r : Cursor) (step : d ≡ passed list c) (left n : ℕ) where
  pub pass_turn : passed_all list (left + 1 - n) c ≡ r → n ≤ left → passed_all list (left + 1 - (n + 1)) d ≡ r
  unfolding passed_all
  pass_turn h l = let e : left + 1 - n ≡ suc (left + 1 - (n + 1)) = omega arith in rw (step) (rw e at h)

  pub pass_end : passed_all list (left + 1 - n) c ≡ r → n ≤ left → left ≤ n → d ≡ r
  unfolding passed_all
  pass_end h l m = let e : left + 1 - n ≡ suc 0 = omega arith in rw (step) (rw e at h)
