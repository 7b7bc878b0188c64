-- A run of the bus, tick by tick: one tick more, the end, and that a run does not depend on its bound once the controller is over within it.
-- Assumes nothing.
use Prim.Native.Nat.{ℕ, zero, suc, ◌≤◌}
use native.Mathlib.Nat.{suc-le-suc_iff}
use native.Mathlib.Omega.{arith}
use mathlib.Core.Path.{◌≡◌, refl, ap}
use mathlib.Core.Bool.{true, false, cond}
use mathlib.Core.List.{[]}
use Rattle.symbols.specs.Symbols.{is_over}
use Rattle.symbols.specs.Ticks.{Plan}
use Rattle.wires.specs.Wires.{Bus, lines_on, tick, after, Ran, one_more, run}

module _ (Q : Plan) (asked : ℕ) where
  pub run_more : (n : ℕ) (b : Bus Q.State) → is_over b.control.phase ≡ false
      → run Q asked (suc n) b ≡ one_more Q asked (lines_on Q asked b) (run Q asked n (tick Q asked b))
  unfolding run
  run_more n b e = rw e

  pub run_over : (n : ℕ) (b : Bus Q.State) → is_over b.control.phase ≡ true → run Q asked n b ≡ record { last = b; row = [] }
  unfolding run
  run_over zero b e = refl
  run_over (suc n) b e = rw e

  pub run_none : (n : ℕ) (b : Bus Q.State) → n ≡ 0 → run Q asked n b ≡ record { last = b; row = [] }
  unfolding run
  run_none n b e = rw e

  -- the controller is over after k ticks: any bound from k on gives the same run
  pub run_enough : (k n : ℕ) (b : Bus Q.State) → is_over (after Q asked k b).control.phase ≡ true → k ≤ n → run Q asked n b ≡ run Q asked k b
  unfolding run after
  run_enough zero n b e h = run_over n b e
  run_enough (suc k) zero b e h = absurd (omega arith)
  run_enough (suc k) (suc n) b e h =
      ap (λ (r : Ran Q asked). cond (is_over b.control.phase) (record { last = b; row = [] }) (one_more Q asked (lines_on Q asked b) r))
      (run_enough k n (tick Q asked b) e (suc-le-suc_iff.0 h))
