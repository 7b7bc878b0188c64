-- A row written over what was lent, byte by byte. Assumes nothing.
use Prim.Native.Nat.{ℕ, zero, suc}
use mathlib.Core.Path.{◌≡◌, refl, ap}
use mathlib.Core.List.{List, [], ◌∷◌, ◌++◌}
use native.Mathlib.Omega.{arith}
use native.Mathlib.Nat.{suc_inj}
use lib.ListN.{length, set, take, drop, take-append-drop}
use Rattle.lent.specs.Areas.{over}

-- a row written over what was lent, from place i on
unfoldable pub over_from : ℕ → List ℕ → List ℕ → List ℕ
over_from i row lent = take i lent ++ over row (drop i lent)

over_none : (row : List ℕ) → over row [] ≡ []
unfolding over
over_none [] = refl
over_none (x ∷ row) = refl

none_over : (lent : List ℕ) → over [] lent ≡ lent
unfolding over
none_over [] = refl
none_over (x ∷ lent) = refl

-- a row is written byte by byte
pub one_byte : (i x : ℕ) (row lent : List ℕ) → over_from (suc i) row (set lent i x) ≡ over_from i (x ∷ row) lent
unfolding over_from over
one_byte zero x row [] = over_none row
one_byte zero x row (y ∷ lent) = refl
one_byte (suc i) x row [] = over_none row
one_byte (suc i) x row (y ∷ lent) = ap (λ (l : List ℕ). y ∷ l) (one_byte i x row lent)

pub all_bytes : (i : ℕ) (lent : List ℕ) → over_from i [] lent ≡ lent
unfolding over_from
all_bytes i lent = rw (none_over (drop i lent)) (take-append-drop i lent)

pub from_front : (row lent : List ℕ) → over_from 0 row lent ≡ over row lent
unfolding over_from
from_front row lent = refl

pub length_over : (row lent : List ℕ) → length (over row lent) ≡ length lent
unfolding over
length_over [] [] = refl
length_over [] (y ∷ lent) = refl
length_over (x ∷ row) [] = refl
length_over (x ∷ row) (y ∷ lent) = ap suc (length_over row lent)

-- a row as long as what was lent takes its place
pub over_whole : (row lent : List ℕ) → length row ≡ length lent → over row lent ≡ row
unfolding over
over_whole [] [] h = refl
over_whole [] (y ∷ lent) h = absurd (omega arith)
over_whole (x ∷ row) [] h = absurd (omega arith)
over_whole (x ∷ row) (y ∷ lent) h = ap (λ (l : List ℕ). x ∷ l) (over_whole row lent (suc_inj h))
