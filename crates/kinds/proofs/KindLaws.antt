-- What the functions on a kind byte and a length byte answer, and what a right byte says of numbers. No law above these opens a definition of
-- Kinds. Assumes nothing.
use mathlib.Core.Path.{◌≡◌, refl, sym, ◌∙◌}
use mathlib.Core.Bool.{Bool, true, false, cond, ◌&&◌}
use Prim.Native.Nat.{ℕ, ◌-◌, ◌<◌, ◌≤◌}
use native.Mathlib.Omega.{arith}
use lib.Dec.{leb, leb-zero}
use borrow.Author.Tests.{lt-ltb, le-ltb, le-leb, lt-leb, eq-eqb, ne_eqb, leb-true}
use Rattle.kinds.specs.Kinds.{is_write, most_bytes, most_length, most_messages, count_right, length_right, data_of, asked_of, quota_of, follow, remain}
use Rattle.kinds.specs.declared.Quota.{Quota}

pub ruleset tests = (lt-ltb, le-ltb, le-leb, lt-leb, eq-eqb, ne_eqb)

pub some_messages : (n : ℕ) → 1 ≤ n → leb n most_messages ≡ count_right n
unfolding count_right
some_messages n h = simp tests

pub no_messages : (n : ℕ) → n < 1 → false ≡ count_right n
unfolding count_right
no_messages n h = simp tests

pub quota_left : (kind n m : ℕ) → m ≡ n - 1 → record { more = m } ≡ quota_of kind n
unfolding quota_of
quota_left kind n m e = rw e

module _ (kind n : ℕ) (w : Bool) (e : w ≡ is_write kind) where
  is : (b : Bool) → w ≡ b → is_write kind ≡ b
  is b t = sym e ∙ t

  pub data_written : w ≡ true → n ≡ data_of kind n
  unfolding data_of
  data_written t = rw (is true t)

  pub no_data : w ≡ false → 0 ≡ data_of kind n
  unfolding data_of
  no_data t = rw (is false t)

  pub none_asked : w ≡ true → 0 ≡ asked_of kind n
  unfolding asked_of
  none_asked t = rw (is true t)

  pub all_asked : w ≡ false → n ≡ asked_of kind n
  unfolding asked_of
  all_asked t = rw (is false t)

  pub write_length : w ≡ true → leb n most_length ≡ length_right kind n
  unfolding length_right
  write_length t = rw (is true t, leb-zero n)

  pub read_length : w ≡ false → 1 ≤ n → leb n most_length ≡ length_right kind n
  unfolding length_right
  read_length t h = rw (is false t, le-leb 1 n h)

  pub empty_read : w ≡ false → n < 1 → false ≡ length_right kind n
  unfolding length_right
  empty_read t h = rw (is false t, lt-leb 1 n h)

-- ---- what a byte that is right says of numbers

pub most_bytes_lem : most_bytes ≤ 65536
unfolding most_bytes
most_bytes_lem = omega arith

both : (a b : Bool) → a && b ≡ true → (a ≡ true) × (b ≡ true)
both true b e = (refl, e)
both false b e = let z : ◌≡◌ {A = ℕ} 0 1 = cc in absurd (omega arith)

pub some_message : (n : ℕ) → count_right n ≡ true → 1 ≤ n
unfolding count_right
some_message n e = leb-true _ _ (both (leb 1 n) (leb n most_messages) e).0

pub short_length : (kind n : ℕ) → length_right kind n ≡ true → n ≤ 255
unfolding length_right most_length
short_length kind n e = let h : n ≤ most_length = leb-true _ _ (both (leb (cond (is_write kind) 0 1) n) (leb n most_length) e).1 in omega arith

pub few_asked : (kind n : ℕ) → length_right kind n ≡ true → asked_of kind n ≤ 255
unfolding asked_of
few_asked kind n e = cases (is_write kind) (short_length kind n e)
  where
    cases : (w : Bool) → n ≤ 255 → cond w 0 n ≤ 255
    cases true h = omega arith
    cases false h = omega arith

pub few_data : (kind n : ℕ) → length_right kind n ≡ true → data_of kind n ≤ 255
unfolding data_of
few_data kind n e = cases (is_write kind) (short_length kind n e)
  where
    cases : (w : Bool) → n ≤ 255 → cond w n 0 ≤ 255
    cases true h = omega arith
    cases false h = omega arith

-- a read that is right asks for at least the byte that gets the 1
pub some_asked : (kind n : ℕ) → length_right kind n ≡ true → is_write kind ≡ false → 1 ≤ n
unfolding length_right
some_asked kind n e w =
    let h : cond (is_write kind) 0 1 ≤ n = leb-true _ _ (both (leb (cond (is_write kind) 0 1) n) (leb n most_length) e).0 in
    rw w at h

-- what remains follows, whatever byte came
pub follow_remain : (q : Quota) (n x : ℕ) → follow (remain q n) x ≡ n
unfolding follow remain
follow_remain q n x = refl

-- so few follow that their count is a byte
pub few_follow : (kind n x : ℕ) → n < 256 → follow (quota_of kind n) x < 255
unfolding quota_of follow
few_follow kind n x h = omega arith
