-- A row of bytes written over the front of what was lent: what stands at each place then. Assumes nothing.
use Prim.Native.Nat.{ℕ, ◌+◌, ◌-◌, min, ◌≤◌, ◌<◌}
use mathlib.Core.Path.{◌≡◌, refl, ap, ap₂, sym, ◌∙◌, subst}
use mathlib.Core.Bool.{Bool, true, false}
use mathlib.Core.List.{List, ◌++◌}
use native.Mathlib.Omega.{arith}
use borrow.Author.Tests.{leb-true, leb-false}
use lib.Dec.{leb}
use lib.ListN.{length, get_or, take, drop, length-append, length-take, length-drop, get_or-append, get_or-eq_default}
use lib.Seq.{get_or-take, get_or-drop, get_or-append-add, take_all}
use Rattle.lent.specs.Areas.{over}

module _ (row lent : List ℕ) where
  pub over_length : length (over row lent) ≡ length lent
  unfolding over
  over_length =
      length-append (take (length lent) row) (drop (length row) lent) ∙ ap₂ (λ x y. x + y) (length-take (length lent) row) (length-drop (length row) lent)
      ∙ sum (length lent) (length row)
    where
      sum : (m n : ℕ) → min m n + (m - n) ≡ m
      sum m n = omega arith

  -- the row, as far as there is room
  pub over_at : (k : ℕ) → k < length row → k < length lent → get_or (over row lent) k 0 ≡ get_or row k 0
  unfolding over
  over_at k l m =
      get_or-append (take (length lent) row) (drop (length row) lent) 0 k (subst (λ (n : ℕ). k < n) (sym (length-take (length lent) row)) (least (length lent) (length row) m l))
      ∙ get_or-take (length lent) row k 0 m
    where
      least : (m n : ℕ) → k < m → k < n → k < min m n
      least m n a b = omega arith

  -- what the row does not reach stays
  pub over_past : (k : ℕ) → length row ≤ k → get_or (over row lent) k 0 ≡ get_or lent k 0
  unfolding over
  over_past k l = go (leb (length row) (length lent)) refl
    where
      on : (n k : ℕ) → n ≤ k → k ≡ n + (k - n)
      on n k l = omega arith

      out : (m n k : ℕ) → m < n → n ≤ k → m ≤ k
      out m n k a b = omega arith

      go : (q : Bool) → leb (length row) (length lent) ≡ q → get_or (take (length lent) row ++ drop (length row) lent) k 0 ≡ get_or lent k 0
      go true e =
          ap₂ (λ (r : List ℕ) (j : ℕ). get_or (r ++ drop (length row) lent) j 0) (take_all (length lent) row (leb-true (length row) (length lent) e)) (on (length row) k l)
          ∙ get_or-append-add row (drop (length row) lent) (k - length row) 0 ∙ get_or-drop (length row) lent (k - length row) 0
          ∙ ap (λ (j : ℕ). get_or lent j 0) (sym (on (length row) k l))
      go false e =
          let m : length lent ≤ k = out (length lent) (length row) k (leb-false (length row) (length lent) e) l in
          get_or-eq_default (take (length lent) row ++ drop (length row) lent) 0 (subst (λ (n : ℕ). n ≤ k) (sym over_length) m) ∙ sym (get_or-eq_default lent 0 m)
