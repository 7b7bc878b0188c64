-- The lines at every tick of a clocked symbol, of a wait and of the first START, and that no fault is seen there. Assumes nothing.
use Prim.Native.Nat.{ℕ, zero, suc, ◌+◌, ◌-◌, ◌≤◌, ◌<◌}
use mathlib.Core.Path.{◌≡◌, refl, ap, ◌∙◌}
use mathlib.Core.Bool.{Bool, true, false, ◌&&◌}
use mathlib.Core.List.{List}
use native.Mathlib.Omega.{arith}
use borrow.Author.Tests.{eq-eqb, ne_eqb, ltb-true, ltb-false}
use lib.Dec.{eqb, ltb}
use Rattle.std.specs.Prelude.{None}
use Rattle.lines.specs.Levels.{hi, lo, ◌∥◌, released, most_held}
use Rattle.symbols.specs.Symbols.{is_over}
use Rattle.symbols.specs.Faults.{fault_of}
use Rattle.symbols.specs.Ticks.{Plan}
use Rattle.symbols.specs.declared.Phase.TheVariants.{Zero, One, Two, Three}
use Rattle.wires.specs.Holding.{first_hold}
use Rattle.wires.specs.Wires.{Bus, all_up, joined, lines_on}
use Rattle.agreement.proofs.Table.{mid, late, lines_zero, lines_one, lines_two, lines_three, clear_zero, clear_one, clear_held, clear_two, clear_three}
use Rattle.agreement.proofs.Time.{Timed, bodies_at, up, up_at}
use Rattle.agreement.proofs.Symbols.{Setting, Sound, middle, last, in_zero, in_one, in_two, in_three, in_wait, open_zero, open_one, open_two, open_three}

-- a tick of a run that goes on, and sees no fault
pub record Clean (Q : Plan) (asked : ℕ) (b : Bus Q.State) : Type 0 where
  pub clear : fault_of b.control.phase b.control.was (lines_on Q asked b) ≡ None
  pub live : is_over b.control.phase ≡ false

module _ (Q : Plan) (asked : ℕ) (c : Setting Q.State) (i : Sound Q c) where
  pub zero_lines : lines_on Q asked (in_zero Q c) ≡ lo ∥ (c.was && up c.waiting)
  zero_lines = lines_zero c.symbol c.drive i.fine c.was 0 _ ∙ ap (λ (y : Bool). lo ∥ (c.was && y)) (up_at c.now c.waiting)

  pub one_lines : lines_on Q asked (in_one Q c) ≡ lo ∥ middle Q c
  one_lines =
      lines_one c.symbol c.drive i.fine c.was (suc (first_hold c.holds)) _
      ∙ ap (λ (y : Bool). lo ∥ (mid c.symbol && y)) (up_at (suc c.now) c.chips ∙ i.driven)

  pub two_lines : (j : ℕ) → lines_on Q asked (in_two Q c j) ≡ eqb (first_hold c.holds - j) 0 ∥ middle Q c
  two_lines j =
      lines_two c.symbol c.drive i.fine c.was j (first_hold c.holds - j) _
      ∙ ap (λ (y : Bool). eqb (first_hold c.holds - j) 0 ∥ (mid c.symbol && y)) (up_at (c.now + (2 + j)) c.chips ∙ i.driven)

  pub three_lines : lines_on Q asked (in_three Q c) ≡ hi ∥ last Q c
  three_lines =
      lines_three c.symbol c.drive i.fine c.was (middle Q c) 0 _
      ∙ ap (λ (y : Bool). hi ∥ (late c.symbol && y)) (up_at (c.now + (3 + first_hold c.holds)) c.chips ∙ i.driven)

  pub zero_clean : Clean Q asked (in_zero Q c)
  zero_clean = record { clear = ap (fault_of (Zero c.symbol) c.was) zero_lines ∙ clear_zero c.symbol c.drive i.fine c.was (up c.waiting); live = refl }

  pub one_clean : Clean Q asked (in_one Q c)
  one_clean = record { clear = ap (fault_of (One c.symbol) c.was) one_lines ∙ clear_one c.symbol c.drive i.fine c.was; live = refl }

  pub two_clean : (j : ℕ) → j ≤ first_hold c.holds → Clean Q asked (in_two Q c j)
  two_clean j l = record { clear = ap (fault_of (Two c.symbol j) c.was) (two_lines j) ∙ go (ltb j h) refl; live = refl }
    where
      h : ℕ
      h = first_hold c.holds

      some : (h j : ℕ) → j < h → h - j ≡ 0 → ⊥
      some h j l e = omega arith

      none : (h j : ℕ) → j ≤ h → h ≤ j → h - j ≡ 0
      none h j l m = omega arith

      few : (h j : ℕ) → j < h → h ≤ most_held → j < most_held
      few h j l m = omega arith

      go : (q : Bool) → ltb j h ≡ q → fault_of (Two c.symbol j) c.was (eqb (h - j) 0 ∥ middle Q c) ≡ None
      go true e =
          ap (λ (y : Bool). fault_of (Two c.symbol j) c.was (y ∥ middle Q c)) (ne_eqb (h - j) 0 (some h j (ltb-true j h e)))
          ∙ clear_held c.symbol c.drive i.fine c.was j (few h j (ltb-true j h e) i.held)
      go false e =
          ap (λ (y : Bool). fault_of (Two c.symbol j) c.was (y ∥ middle Q c)) (eq-eqb (h - j) 0 (none h j l (ltb-false j h e)))
          ∙ clear_two c.symbol c.drive i.fine c.was j

  pub three_clean : Clean Q asked (in_three Q c)
  three_clean =
      record { clear = ap (fault_of (Three c.symbol (middle Q c)) c.was) three_lines ∙ clear_three c.symbol c.drive i.fine c.was; live = refl }

-- in a wait and in the first START both lines are let go, but for SDA in the START's phase 3
module _ (Q : Plan) (asked : ℕ) (d : Q.State) (hs : List ℕ) (t : ℕ) (zs : List Timed) (u : up zs ≡ true) (k : ℕ) where
  free : (n : ℕ) → joined released 0 (all_up (bodies_at n zs)) ≡ released
  free n = ap (joined released 0) (up_at n zs ∙ u)

  pub wait_lines : (left gone : ℕ) → lines_on Q asked (in_wait Q d hs t zs left gone) ≡ released
  wait_lines zero gone = free (t + gone)
  wait_lines (suc n) gone = free (t + gone)

  pub open_zero_lines : lines_on Q asked (open_zero Q d hs t zs k) ≡ released
  open_zero_lines = free (t + k)

  pub open_one_lines : lines_on Q asked (open_one Q d hs t zs k) ≡ released
  open_one_lines = free (t + (k + 1))

  pub open_two_lines : lines_on Q asked (open_two Q d hs t zs k) ≡ released
  open_two_lines = free (t + (k + 2))

  freely : (b : Bus Q.State) → lines_on Q asked b ≡ released → fault_of b.control.phase b.control.was released ≡ None → is_over b.control.phase ≡ false
      → Clean Q asked b
  freely b l f n = record { clear = ap (fault_of b.control.phase b.control.was) l ∙ f; live = n }

  pub wait_clean : (left gone : ℕ) → Clean Q asked (in_wait Q d hs t zs left gone)
  unfolding fault_of
  wait_clean zero gone = freely _ (wait_lines zero gone) refl refl
  wait_clean (suc n) gone = freely _ (wait_lines (suc n) gone) refl refl

  pub open_zero_clean : Clean Q asked (open_zero Q d hs t zs k)
  unfolding fault_of
  open_zero_clean = freely _ open_zero_lines refl refl

  pub open_one_clean : Clean Q asked (open_one Q d hs t zs k)
  unfolding fault_of
  open_one_clean = freely _ open_one_lines refl refl

  pub open_two_clean : Clean Q asked (open_two Q d hs t zs k)
  unfolding fault_of
  open_two_clean = freely _ open_two_lines refl refl

  pub open_three_clean : Clean Q asked (open_three Q d hs t zs k)
  unfolding fault_of
  open_three_clean = record { clear = refl; live = refl }
