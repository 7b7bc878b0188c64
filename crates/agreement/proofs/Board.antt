-- The chips that the marks name, over the lent memory and states: distinct addresses, bytes in their memories, and all of them not addressed. Assumes
-- nothing.
use Prim.Native.Nat.{ℕ, zero, suc, ◌+◌, ◌-◌, ◌<◌}
use mathlib.Core.Path.{◌≡◌, refl, ap₂}
use mathlib.Core.Bool.{Bool, true, false, cond}
use mathlib.Core.List.{List, [], ◌∷◌, map}
use native.Mathlib.Omega.{arith}
use borrow.Author.Tests.{ne_eqb}
use lib.ListN.{drop}
use Rattle.lines.specs.Levels.{bit_at}
use Rattle.store.specs.Pages.{geometry_of}
use Rattle.eeprom.specs.Stages.{Body}
use Rattle.eeprom.specs.declared.Stage.TheVariants.{Deaf}
use Rattle.board.specs.Marks.{model_at, memory_at, body_at, bodies_from, bodies}
use Rattle.reading.specs.Read.{cell_of}
use Rattle.agreement.specs.Inputs.{Bytes}
use Rattle.agreement.proofs.Time.{bodies_at}
use Rattle.agreement.proofs.Tuned.{wake}
use Rattle.agreement.proofs.Good.{Absent, Distinct, Filled, Good}
use Rattle.agreement.proofs.Right.{bytes_drop, bytes_take}

-- no chip is addressed
abbrev pub Asleep : List Body → Type 0
Asleep [] = Unit {0}
Asleep (b ∷ bs) = (b.core.stage ≡ Deaf) × Asleep bs

pub asleep_at : (bs : List Body) → Asleep bs → bs ≡ bodies_at 0 (map (wake Deaf) (map cell_of bs))
asleep_at [] h = refl
asleep_at (b ∷ bs) h = ap₂ (λ (x : Body) (xs : List Body). x ∷ xs) (same b h.0) (asleep_at bs h.1)
  where
    less : (n : ℕ) → n ≡ n - 0
    less n = omega arith

    same : (b : Body) → b.core.stage ≡ Deaf → b ≡ record { core = record { stage = Deaf; kept = b.core.kept }; busy = b.busy - 0 }
    same b e = ap₂ (λ s n. record { core = record { stage = s; kept = b.core.kept }; busy = n }) e (less b.busy)

module _ (marks : ℕ) (memory states : List ℕ) where
  abbrev from : ℕ → ℕ → List Body
  from n s = bodies_from marks memory states n s

  absent : (n s a : ℕ) → a < 80 + s → Absent a (map cell_of (from n s))
  unfolding bodies_from
  absent zero s a h = tt
  absent (suc n) s a h = go (bit_at s marks) (absent n (suc s) a (later a s h))
    where
      later : (a s : ℕ) → a < 80 + s → a < 80 + suc s
      later a s h = omega arith

      other : (a s : ℕ) → a < 80 + s → a ≡ 80 + s → ⊥
      other a s h e = omega arith

      go : (q : Bool) → Absent a (map cell_of (from n (suc s))) → Absent a (map cell_of (cond q (body_at marks memory states s ∷ from n (suc s)) (from n (suc s))))
      go true x = (ne_eqb a (80 + s) (other a s h), x)
      go false x = x

  distinct : (n s : ℕ) → Distinct (map cell_of (from n s))
  unfolding bodies_from
  distinct zero s = tt
  distinct (suc n) s = go (bit_at s marks) (distinct n (suc s))
    where
      next : (s : ℕ) → 80 + s < 80 + suc s
      next s = omega arith

      go : (q : Bool) → Distinct (map cell_of (from n (suc s))) → Distinct (map cell_of (cond q (body_at marks memory states s ∷ from n (suc s)) (from n (suc s))))
      go true x = (absent n (suc s) (80 + s) (next s), x)
      go false x = x

  filled : Bytes memory → (n s : ℕ) → Filled (map cell_of (from n s))
  unfolding bodies_from
  filled b zero s = tt
  filled b (suc n) s = go (bit_at s marks) (filled b n (suc s))
    where
      go : (q : Bool) → Filled (map cell_of (from n (suc s))) → Filled (map cell_of (cond q (body_at marks memory states s ∷ from n (suc s)) (from n (suc s))))
      go true x = (bytes_take (geometry_of (model_at marks s)).size (drop (memory_at marks s) memory) (bytes_drop (memory_at marks s) memory b), x)
      go false x = x

  asleep : (n s : ℕ) → Asleep (from n s)
  unfolding bodies_from
  asleep zero s = tt
  asleep (suc n) s = go (bit_at s marks) (asleep n (suc s))
    where
      go : (q : Bool) → Asleep (from n (suc s)) → Asleep (cond q (body_at marks memory states s ∷ from n (suc s)) (from n (suc s)))
      go true x = (refl, x)
      go false x = x

  pub good_board : Bytes memory → Good (map cell_of (bodies marks memory states))
  good_board b = record { distinct = distinct 8 0; filled = filled b 8 0 }

  pub board_asleep : Asleep (bodies marks memory states)
  board_asleep = asleep 8 0
