-- How the result area is started in place: zeros, and then an outcome of 255 at each transaction's place, found by going along the list. For an
-- accepted list and its own size that is `start_area`. Assumes nothing.
use Rattle.std.specs.Prelude.{ℕ, zero, suc, ◌+◌, cond, List, ◌++◌, ltb, length, get_or, set, drop, replicate}
use Rattle.kinds.specs.Kinds.{most_bytes}
use Rattle.orders.specs.Places.{size_at, room_at}

abbrev pub zeroed : ℕ → List ℕ → List ℕ
zeroed size lent = replicate size 0 ++ drop size lent

-- `left` messages of a transaction are still to come at the place `at`; `top` is the place in the area
unfoldable pub outcomes_from : (steps left : ℕ) → List ℕ → (at top : ℕ) → List ℕ → List ℕ
outcomes_from zero left s at top a = a
outcomes_from (suc n) zero s at top a = let r : List ℕ = outcomes_from n (get_or s at 0) s (at + 3) (top + 1) (set a top 255) in cond (ltb at (length s)) r a
outcomes_from (suc n) (suc left) s at top a = let r : List ℕ = outcomes_from n left s (at + size_at s at) (top + room_at s at) a in cond (ltb at (length s)) r a

-- an area that is too small, and one for a list that is too long, is left alone
unfoldable pub started_of : List ℕ → ℕ → List ℕ → List ℕ
started_of s size lent =
    let r : List ℕ = outcomes_from (suc (length s)) 0 s 0 0 (zeroed size lent) in cond (ltb (length lent) size) lent (cond (ltb most_bytes (length s)) lent r)
