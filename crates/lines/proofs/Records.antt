-- A loop over a record of samples against the fold that the rules have: what is left to do from a tick on, for any party alone. Assumes nothing.
use Prim.Native.Nat.{ℕ, suc, ◌+◌, ◌<◌, ◌≤◌}
use mathlib.Core.Path.{◌≡◌, refl, ap, sym, ◌∙◌}
use mathlib.Core.Bool.{true, false}
use mathlib.Core.List.{List, [], ◌∷◌}
use native.Mathlib.Omega.{arith}
use native.Mathlib.Nat.{zero-add, add-zero}
use native.Mathlib.Numerals.{add-one}
use lib.ListN.{length, get_or, set, drop, drop_of_length-le}
use lib.Seq.{drop-cons}
use Rattle.lent.specs.Areas.{over}
use Rattle.lent.proofs.Rows.{over_from, one_byte, all_bytes, from_front}
use Rattle.lines.specs.Levels.{byte_of, lines_of}
use Rattle.lines.specs.Records.{Party, walk, drives_on}
use Rattle.lines.specs.declared.Lines.{Lines}

module _ (P : Party) where
  -- everything that a party alone leaves
  pub record Left : Type 0 where
    pub last : P.State
    pub drives : List ℕ
    pub ticks : ℕ

  -- with the samples ys still to come in tick i
  abbrev on : ℕ → List ℕ → P.State → List ℕ → Left
  on i ys s lent = record { last = walk P ys s; drives = over_from i (drives_on P ys s) lent; ticks = i + length (drives_on P ys s) }

  -- what it leaves, when it stands before sample i
  unfoldable pub leaves : ℕ → List ℕ → P.State → List ℕ → Left
  leaves i xs s lent = on i (drop i xs) s lent

  pub from_first : (xs : List ℕ) (s : P.State) (lent : List ℕ)
      → leaves 0 xs s lent ≡ record { last = walk P xs s; drives = over (drives_on P xs s) lent; ticks = length (drives_on P xs s) }
  unfolding leaves
  from_first xs s lent = rw (from_front (drives_on P xs s) lent, zero-add (length (drives_on P xs s)))

  one_sample : (i x : ℕ) (ys : List ℕ) (s : P.State) (d : List ℕ) → P.ended s ≡ false
      → on (suc i) ys (P.tick (lines_of x) s) (set d i (byte_of (P.drive s))) ≡ on i (x ∷ ys) s d
  unfolding walk drives_on
  one_sample i x ys s d n =
      let row : List ℕ = drives_on P ys (P.tick (lines_of x) s) in
      let e : suc i + length row ≡ i + suc (length row) = omega arith in rw (n, one_byte i (byte_of (P.drive s)) row d, e)

  -- one tick: the drive byte is put, the sample is seen
  pub one_tick : (i : ℕ) (xs : List ℕ) (s t : P.State) (d e : List ℕ) → P.ended s ≡ false → t ≡ P.tick (lines_of (get_or xs i 0)) s
      → e ≡ set d i (byte_of (P.drive s)) → i < length xs → leaves (i + 1) xs t e ≡ leaves i xs s d
  unfolding leaves
  one_tick i xs s t d e n p q h = rw (p, q, add-one i, drop-cons xs i 0 h) (one_sample i (get_or xs i 0) (drop (suc i) xs) s d n)

  -- the record is at its end
  pub at_end : (i : ℕ) (xs : List ℕ) (s : P.State) (d : List ℕ) → length xs ≤ i → leaves i xs s d ≡ record { last = s; drives = d; ticks = i }
  unfolding leaves walk drives_on
  at_end i xs s d h = rw (drop_of_length-le xs h, all_bytes i d, add-zero i)

  -- so a loop from the first sample to the last has walked the record
  pub walked : (i : ℕ) (xs : List ℕ) (s s₀ : P.State) (d d₀ : List ℕ) → leaves i xs s d ≡ leaves 0 xs s₀ d₀ → length xs ≤ i → s ≡ walk P xs s₀
  walked i xs s s₀ d d₀ e h = ap (λ (z : Left). z.last) (sym (at_end i xs s d h) ∙ e ∙ from_first xs s₀ d₀)

  pub drove : (i : ℕ) (xs : List ℕ) (s s₀ : P.State) (d d₀ : List ℕ) → leaves i xs s d ≡ leaves 0 xs s₀ d₀ → length xs ≤ i → d ≡ over (drives_on P xs s₀) d₀
  drove i xs s s₀ d d₀ e h = ap (λ (z : Left). z.drives) (sym (at_end i xs s d h) ∙ e ∙ from_first xs s₀ d₀)

  -- what every tick keeps, the record keeps
  pub walk_keeps : (Q : P.State → Type 0) → ((l : Lines) (s : P.State) → Q s → Q (P.tick l s)) → (xs : List ℕ) (s : P.State) → Q s → Q (walk P xs s)
  unfolding walk
  walk_keeps Q k [] s h = h
  walk_keeps Q k (x ∷ xs) s h = walk_keeps Q k xs (P.tick (lines_of x) s) (k (lines_of x) s h)

  -- the party is at its end, which it does not leave
  module _ (s : P.State) (over : P.ended s ≡ true) (stays : (l : Lines) → P.tick l s ≡ s) where
    walks_no_more : (xs : List ℕ) → walk P xs s ≡ s
    unfolding walk
    walks_no_more [] = refl
    walks_no_more (x ∷ xs) = rw (stays (lines_of x)) (walks_no_more xs)

    drives_no_more : (xs : List ℕ) → drives_on P xs s ≡ []
    unfolding drives_on
    drives_no_more [] = refl
    drives_no_more (x ∷ xs) = rw (over, stays (lines_of x)) (drives_no_more xs)

    pub ended_early : (i : ℕ) (xs d : List ℕ) → leaves i xs s d ≡ record { last = s; drives = d; ticks = i }
    unfolding leaves
    ended_early i xs d = rw (walks_no_more (drop i xs), drives_no_more (drop i xs), all_bytes i d, add-zero i)
