-- A list whose first i elements have become f of them: what a loop over an array by `xs[i] = f(xs[i])` has done so far. Assumes nothing.
use Prim.Native.Nat.{ℕ, zero, suc, ◌≤◌, ◌<◌, ◌+◌}
use native.Mathlib.Nat.{suc-le-suc_iff}
use native.Mathlib.Numerals.{add-one}
use native.Mathlib.Omega.{arith}
use mathlib.Core.Path.{◌≡◌, refl, ap, ◌∙◌}
use mathlib.Core.List.{List, [], ◌∷◌, map}
use lib.ListN.{length, get_or, set}

module _ {A : Type 0} where
  unfoldable pub done : (A → A) → ℕ → List A → List A
  done f zero xs = xs
  done f (suc i) [] = []
  done f (suc i) (x ∷ xs) = f x ∷ done f i xs

  pub done_length : (f : A → A) (i : ℕ) (xs : List A) → length (done f i xs) ≡ length xs
  unfolding done
  done_length f zero xs = refl
  done_length f (suc i) [] = refl
  done_length f (suc i) (x ∷ xs) = ap suc (done_length f i xs)

  -- element i is still as it was
  done_read : (f : A → A) (i : ℕ) (xs : List A) (d : A) → get_or (done f i xs) i d ≡ get_or xs i d
  unfolding done
  done_read f zero xs d = refl
  done_read f (suc i) [] d = refl
  done_read f (suc i) (x ∷ xs) d = done_read f i xs d

  done_more : (f : A → A) (i : ℕ) (xs : List A) (d : A) → i < length xs → set (done f i xs) i (f (get_or xs i d)) ≡ done f (suc i) xs
  unfolding done
  done_more f zero [] d h = absurd (omega arith)
  done_more f zero (x ∷ xs) d h = refl
  done_more f (suc i) [] d h = absurd (omega arith)
  done_more f (suc i) (x ∷ xs) d h = ap (λ (l : List A). f x ∷ l) (done_more f i xs d (suc-le-suc_iff.0 h))

  done_all : (f : A → A) (i : ℕ) (xs : List A) → length xs ≤ i → done f i xs ≡ map f xs
  unfolding done
  done_all f zero [] h = refl
  done_all f zero (x ∷ xs) h = absurd (omega arith)
  done_all f (suc i) [] h = refl
  done_all f (suc i) (x ∷ xs) h = ap (λ (l : List A). f x ∷ l) (done_all f i xs (suc-le-suc_iff.0 h))

  -- one turn of the loop
  pub done_step : (f : A → A) (i : ℕ) (xs cs : List A) (y d : A) → cs ≡ done f i xs → y ≡ f (get_or cs i d) → i < length xs
      → set cs i y ≡ done f (i + 1) xs
  done_step f i xs cs y d e p h = rw (p, e, add-one, done_read, done_more f i xs d h)

  -- the loop has gone over all
  pub done_end : (f : A → A) (i : ℕ) (xs cs : List A) → cs ≡ done f i xs → length xs ≤ i → cs ≡ map f xs
  done_end f i xs cs e h = e ∙ done_all f i xs h
