-- The run of an entry: where the controller is at its end after n ticks and at no tick before, any larger number of ticks gives the same run, and its row
-- holds the lines of those ticks. Assumes nothing.
use Prim.Native.Nat.{ℕ, zero, suc, ◌≤◌, ◌<◌}
use mathlib.Core.Path.{◌≡◌, refl, ap}
use mathlib.Core.Bool.{true, false}
use mathlib.Core.List.{List, [], ◌∷◌}
use native.Mathlib.Omega.{arith}
use lib.ListN.{length, get_or}
use Rattle.lines.specs.Levels.{byte_of}
use Rattle.symbols.specs.Symbols.{is_over}
use Rattle.symbols.specs.Ticks.{Plan}
use Rattle.wires.specs.Wires.{Bus, lines_on, tick, after, one_more, run}

module _ (Q : Plan) (asked : ℕ) where
  -- the lines of the first n ticks
  unfoldable pub lines_for : ℕ → Bus Q.State → List ℕ
  lines_for zero b = []
  lines_for (suc n) b = byte_of (lines_on Q asked b) ∷ lines_for n (tick Q asked b)

  pub length_lines : (n : ℕ) (b : Bus Q.State) → length (lines_for n b) ≡ n
  unfolding lines_for
  length_lines zero b = refl
  length_lines (suc n) b = ap suc (length_lines n (tick Q asked b))

  pub line_at : (n k : ℕ) (b : Bus Q.State) → k < n → get_or (lines_for n b) k 0 ≡ byte_of (lines_on Q asked (after Q asked k b))
  unfolding lines_for after
  line_at zero k b h = absurd (omega arith)
  line_at (suc n) zero b h = refl
  line_at (suc n) (suc k) b h = line_at n k (tick Q asked b) (omega arith)

  pub run_is : (n most : ℕ) (b : Bus Q.State) → n ≤ most → is_over (after Q asked n b).control.phase ≡ true
      → ((k : ℕ) → k < n → is_over (after Q asked k b).control.phase ≡ false)
      → run Q asked most b ≡ record { last = after Q asked n b; row = lines_for n b }
  unfolding run after lines_for
  run_is zero zero b h e l = refl
  run_is zero (suc f) b h e l = rw e
  run_is (suc n) zero b h e l = absurd (omega arith)
  run_is (suc n) (suc f) b h e l =
      rw (l 0 (omega arith)) (ap (one_more Q asked (lines_on Q asked b)) (run_is n f (tick Q asked b) (omega arith) e (λ k p. l (suc k) (omega arith))))
