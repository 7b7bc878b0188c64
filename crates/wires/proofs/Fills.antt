-- A wait's trace, byte by byte. Assumes nothing.
use Rattle.std.proofs.Common.{ℕ, zero, suc, ◌+◌, ◌≤◌, ◌≡◌, List, set, add-one, arith}
use Rattle.wires.specs.Inside.{filled}

pub fill_turn : (n m t : ℕ) (tr tr' r : List ℕ) → filled n t tr ≡ r → tr' ≡ set tr t 3 → n ≡ m + 1 → filled m (t + 1) tr' ≡ r
unfolding filled
fill_turn n m t tr tr' r h e l = let k : n ≡ suc m = omega arith in let g = rw k at h in rw (e, add-one t) g

pub fill_end : (n t : ℕ) (tr r : List ℕ) → filled n t tr ≡ r → n ≤ 0 → tr ≡ r
unfolding filled
fill_end zero t tr r h l = h
fill_end (suc n) t tr r h l = absurd (omega arith)
