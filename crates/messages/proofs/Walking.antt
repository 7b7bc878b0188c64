-- Going along the list by places. Assumes nothing.
use Prim.Native.Nat.{ℕ, suc, ◌≤◌}
use native.Mathlib.Omega.{arith}
use mathlib.Core.Path.{◌≡◌, ap, ap₂, ◌∙◌}
use mathlib.Core.List.{List}
use Rattle.messages.specs.Along.{beyond, after, opened, others, next_batch}
use Rattle.messages.specs.declared.Place.{Place}

-- the messages still to be passed over

module _ (s : List ℕ) (n : ℕ) (p : Place) (goal : Place) (so_far : after n s p ≡ goal) where
  pub one_passed : (k : ℕ) → n ≡ suc k → (q : Place) → q ≡ beyond s p → after k s q ≡ goal
  unfolding after
  one_passed k h q e = rw e (rw h at so_far)

  pub all_passed : n ≤ 0 → p ≡ goal
  unfolding after
  all_passed h = let z : n ≡ 0 = omega arith in rw z at so_far

pub next_so : (s : List ℕ) (p f g r : Place) (n : ℕ) → n ≡ others s p → f ≡ opened p → g ≡ beyond s f → r ≡ after n s g → r ≡ next_batch s p
next_so s p f g r n ne fe ge e = e ∙ ap₂ (λ (k : ℕ) (q : Place). after k s q) ne (ge ∙ ap (beyond s) fe)
