-- Reading and storing past the end of what is lent, and bytes that are all within a bound. Assumes nothing.
use Prim.Native.Nat.{ℕ, ◌+◌, ◌≤◌, ◌<◌}
use mathlib.Core.Path.{◌≡◌, sym, ◌∙◌}
use mathlib.Core.Bool.{true, false}
use mathlib.Core.List.{List}
use native.Mathlib.Numerals.{add-one}
use borrow.Author.Tests.{le-leb, lt-leb}
use lib.ListN.{length, get_or, set, drop, get_or-eq_default, drop_of_length-le}
use lib.Seq.{drop-cons, set_out}
use Rattle.lent.specs.Areas.{all_within}

pub past_end : (s : List ℕ) (i : ℕ) → length s ≤ i → 0 ≡ get_or s i 0
past_end s i h = sym (get_or-eq_default s 0 h)

pub not_stored : (s : List ℕ) (i x : ℕ) → length s ≤ i → s ≡ set s i x
not_stored s i x h = sym (set_out s i x h)

-- a bound is looked at byte by byte: so far all are within it
module _ (most : ℕ) (s : List ℕ) (i : ℕ) (so_far : all_within most (drop i s) ≡ all_within most s) where
  pub one_too_large : i < length s → most < get_or s i 0 → false ≡ all_within most s
  unfolding all_within
  one_too_large h l = let e : all_within most (drop i s) ≡ false = rw (drop-cons s i 0 h, lt-leb (get_or s i 0) most l) in sym e ∙ so_far

  pub one_within : i < length s → get_or s i 0 ≤ most → all_within most (drop (i + 1) s) ≡ all_within most s
  unfolding all_within
  one_within h l = let e : all_within most (drop (i + 1) s) ≡ all_within most (drop i s) = rw (add-one i, drop-cons s i 0 h, le-leb (get_or s i 0) most l) in e ∙ so_far

  pub none_left : length s ≤ i → true ≡ all_within most s
  unfolding all_within
  none_left h = let e : all_within most (drop i s) ≡ true = rw (drop_of_length-le s h) in sym e ∙ so_far
