-- What the desk turns down of a board, as the code looks at it: state after state, then the ladder of numbers. Assumes nothing.
use Prim.Native.Nat.{ℕ, suc, ◌+◌, ◌-◌, ◌*◌, ◌≤◌, ◌<◌}
use native.Mathlib.Numerals.{add-one}
use native.Mathlib.Omega.{arith}
use mathlib.Core.Path.{◌≡◌, refl, ap, ap₂, sym, ◌∙◌}
use mathlib.Core.Bool.{Bool, true, false, not, ◌&&◌}
use mathlib.Core.List.{List}
use Rattle.std.proofs.lemmas.Bool.{not-true, not-false}
use borrow.Author.Tests.{eq-eqb, ne_eqb, eqb-true, lt-ltb, le-ltb}
use lib.Count.{ones}
use lib.Dec.{eqb, ltb, leb}
use lib.ListN.{length}
use Rattle.lent.specs.Refusals.{no, ◌then◌}
use Rattle.lent.specs.Areas.{all_within}
use Rattle.lines.specs.Levels.{bit_at, most_held}
use Rattle.store.specs.Pages.{geometry_of}
use Rattle.store.specs.declared.Model.TheVariants.{Large}
use Rattle.eeprom.specs.States.{most_busy, word_at}
use Rattle.board.specs.Marks.{place_of, memory_at, bodies_from, bodies}
use Rattle.board.specs.Desk.{states_right, board_number}
use Rattle.board.proofs.Places.{all_places}

module _ (marks : ℕ) (states : List ℕ) where
  -- all states below a strap are in range
  abbrev pub Looked : ℕ → Type 0
  Looked s = (m : List ℕ) → states_right (bodies_from marks m states (8 - s) s) ≡ states_right (bodies marks m states)

  module _ (s : ℕ) (so_far : Looked s) (b : Bool) (looked : b ≡ bit_at s marks) (below : s < 8) where
    step : 8 - s ≡ suc (8 - suc s)
    step = omega arith

    pub no_state : b ≡ false → Looked (s + 1)
    unfolding bodies_from
    no_state t m =
        let q : bit_at s marks ≡ false = sym looked ∙ t in
        let e : states_right (bodies_from marks m states (8 - s) s) ≡ states_right (bodies_from marks m states (8 - suc s) (suc s)) = rw (step, q) in
        rw (add-one s) (sym e ∙ so_far m)

    module _ (t : b ≡ true) (w : ℕ × ℕ) (words : w ≡ (word_at states (4 * place_of marks s), word_at states (4 * place_of marks s + 2))) (r : Bool) (right : r ≡ ltb w.0 (geometry_of Large).size && leb w.1 most_busy) where
      here : (m : List ℕ) → states_right (bodies_from marks m states (8 - s) s) ≡ r && states_right (bodies_from marks m states (8 - suc s) (suc s))
      unfolding bodies_from states_right
      here m =
          let q : bit_at s marks ≡ true = sym looked ∙ t in
          rw (step, q, right, words)

      pub out_of_range : not r ≡ true → (m : List ℕ) → false ≡ states_right (bodies marks m states)
      out_of_range n m = go r n (here m)
        where
          go : (z : Bool) → not z ≡ true → states_right (bodies_from marks m states (8 - s) s) ≡ z && states_right (bodies_from marks m states (8 - suc s) (suc s))
              → false ≡ states_right (bodies marks m states)
          go true n h = cc
          go false n h = sym h ∙ so_far m

      pub in_range : not r ≡ false → Looked (s + 1)
      in_range n m = go r n (here m)
        where
          go : (z : Bool) → not z ≡ false → states_right (bodies_from marks m states (8 - s) s) ≡ z && states_right (bodies_from marks m states (8 - suc s) (suc s))
              → states_right (bodies_from marks m states (8 - (s + 1)) (s + 1)) ≡ states_right (bodies marks m states)
          go true n h = rw (add-one s) (sym h ∙ so_far m)
          go false n h = cc

  pub all_looked : (s : ℕ) → Looked s → s ≤ 8 → 8 ≤ s → (m : List ℕ) → true ≡ states_right (bodies marks m states)
  unfolding states_right bodies_from
  all_looked s f h r m = let e : s ≡ 8 = omega arith in let g = f m in (rw e at g)

-- the ladder

module _ (marks : ℕ) (memory states holds : List ℕ) (asked : ℕ) (byte : marks < 256) (n size : ℕ) (count : n ≡ ones marks) (sized : size ≡ (geometry_of Large).size) where
  all_memory : memory_at marks 8 ≡ size * n
  all_memory = ap₂ ◌*◌ (sym sized) (all_places marks byte ∙ sym count)

  pub no_memory : (length memory ≡ size * n → ⊥) → 3 ≡ board_number marks memory states holds asked
  unfolding board_number
  no_memory h = rw (ne_eqb (length memory) (memory_at marks 8) (λ e. h (e ∙ all_memory)))

  module _ (memories : length memory ≡ size * n) where
    first : eqb (length memory) (memory_at marks 8) ≡ true
    first = eq-eqb (length memory) (memory_at marks 8) (memories ∙ sym all_memory)

    pub no_states : (length states ≡ 4 * n → ⊥) → 3 ≡ board_number marks memory states holds asked
    unfolding board_number
    no_states h = rw (first, ne_eqb (length states) (4 * ones marks) (λ e. h (e ∙ ap (λ (k : ℕ). 4 * k) (sym count))))

    module _ (row : length states ≡ 4 * n) (r : Bool) (right : (m : List ℕ) → r ≡ states_right (bodies marks m states)) where
      second : eqb (length states) (4 * ones marks) ≡ true
      second = eq-eqb (length states) (4 * ones marks) (row ∙ ap (λ (k : ℕ). 4 * k) count)

      said : (z : Bool) → r ≡ z → states_right (bodies marks memory states) ≡ z
      said z e = sym (right memory) ∙ e

      pub bad_state : not r ≡ true → 4 ≡ board_number marks memory states holds asked
      unfolding board_number
      bad_state h = rw (first, second, said false (not-true r h))

      module _ (states_good : not r ≡ false) (q : Bool) (within : q ≡ all_within 16 holds) where
        held : (z : Bool) → q ≡ z → all_within most_held holds ≡ z
        unfolding most_held
        held z e = sym within ∙ e

        pub bad_hold : not q ≡ true → 5 ≡ board_number marks memory states holds asked
        unfolding board_number
        bad_hold h = rw (first, second, said true (not-false r states_good), held false (not-true q h))

        pub too_busy : not q ≡ false → 20000 < asked → 6 ≡ board_number marks memory states holds asked
        unfolding board_number most_busy
        too_busy g h = rw (first, second, said true (not-false r states_good), held true (not-false q g), lt-ltb 20000 asked h)

        pub right_board : not q ≡ false → asked ≤ 20000 → 0 ≡ board_number marks memory states holds asked
        unfolding board_number most_busy
        right_board g h = rw (first, second, said true (not-false r states_good), held true (not-false q g), le-ltb 20000 asked h)

-- an accepted board has the lengths that its marks ask for
pub board_lengths : (marks : ℕ) (memory states holds : List ℕ) (asked : ℕ) → board_number marks memory states holds asked ≡ 0
    → (length memory ≡ memory_at marks 8) × (length states ≡ 4 * ones marks)
unfolding board_number
board_lengths marks memory states holds asked e = go (eqb (length memory) (memory_at marks 8)) (eqb (length states) (4 * ones marks)) refl refl e
  where
    go : (a b : Bool) → eqb (length memory) (memory_at marks 8) ≡ a → eqb (length states) (4 * ones marks) ≡ b
        → (no 3 (not (a && b)) then no 4 (not (states_right (bodies marks memory states))) then no 5 (not (all_within most_held holds)) then no 6 (ltb most_busy asked)) ≡ 0
        → (length memory ≡ memory_at marks 8) × (length states ≡ 4 * ones marks)
    go true true p q h = (eqb-true _ _ p, eqb-true _ _ q)
    go true false p q h = absurd (omega arith)
    go false b p q h = absurd (omega arith)
