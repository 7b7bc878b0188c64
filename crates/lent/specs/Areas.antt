-- Areas that are lent: a row of bytes written over one, and a bound on the bytes of one. Assumes nothing.
use Rattle.std.specs.Prelude.{ℕ, Bool, true, ◌&&◌, List, [], ◌∷◌, ◌++◌, leb, length, take, drop}

-- a row of bytes written over the front of what was lent; what the row does not reach stays, and what has no room is left out
unfoldable pub over : List ℕ → List ℕ → List ℕ
over row lent = take (length lent) row ++ drop (length row) lent

-- every byte is at most n
unfoldable pub all_within : ℕ → List ℕ → Bool
all_within n [] = true
all_within n (x ∷ xs) = leb x n && all_within n xs
