-- How the result area is started, turn by turn of the loops that go along the list. Assumes nothing.
use mathlib.Core.Path.{◌≡◌, refl}
use mathlib.Core.List.{List}
use Prim.Native.Nat.{ℕ, zero, suc, ◌+◌, ◌-◌, ◌<◌, ◌≤◌}
use native.Mathlib.Omega.{arith}
use lib.ListN.{length, get_or, set}
use borrow.Author.Tests.{lt-ltb, le-ltb, ltb-true, ltb-false}
use mathlib.Core.Bool.{Bool, true, false}
use lib.Dec.{ltb}
use Rattle.kinds.specs.Kinds.{most_bytes}
use Rattle.orders.specs.Places.{size_at, room_at}
use Rattle.orders.specs.Start.{zeroed, outcomes_from, started_of}

-- ---- outcomes

-- going on from here makes the area `goal`
pub record Leaves (s : List ℕ) (left at top : ℕ) (a goal : List ℕ) : Type 0 where
  pub steps : ℕ
  pub enough : length s - at < steps
  pub same : outcomes_from steps left s at top a ≡ goal

pub walk_begins : (s a : List ℕ) → Leaves s 0 0 0 a (outcomes_from (suc (length s)) 0 s 0 0 a)
walk_begins s a = record { steps = suc (length s); enough = omega arith; same = refl }

module _ (s : List ℕ) (left at top : ℕ) (a goal : List ℕ) (w : Leaves s left at top a goal) where
  pub walk_ends : length s ≤ at → a ≡ goal
  unfolding outcomes_from
  walk_ends h = cases w.steps left w.enough w.same
    where
      cases : (n l : ℕ) → length s - at < n → outcomes_from n l s at top a ≡ goal → a ≡ goal
      cases zero l e g = absurd (omega arith)
      cases (suc n) zero e g = rw (le-ltb at (length s) h) at g
      cases (suc n) (suc l) e g = rw (le-ltb at (length s) h) at g

  -- past the list's end nothing is put
  pub walk_passes_none : (d r : ℕ) → length s ≤ at → Leaves s (left - 1) (at + d) (top + r) a goal
  unfolding outcomes_from
  walk_passes_none d r h = rw (walk_ends h) (record { steps = 1; enough = omega arith; same = stays (left - 1) })
    where
      stays : (l : ℕ) → outcomes_from 1 l s (at + d) (top + r) goal ≡ goal
      stays zero = let g : length s ≤ at + d = omega arith in rw (le-ltb (at + d) (length s) g)
      stays (suc l) = let g : length s ≤ at + d = omega arith in rw (le-ltb (at + d) (length s) g)

  module _ (h : at < length s) where
    pub walk_passes : (d r : ℕ) → 0 < left → d ≡ size_at s at → r ≡ room_at s at → Leaves s (left - 1) (at + d) (top + r) a goal
    unfolding outcomes_from
    walk_passes d r l de re = rw (de, re) (cases w.steps left l w.enough w.same)
      where
        cases : (n l : ℕ) → 0 < l → length s - at < n → outcomes_from n l s at top a ≡ goal → Leaves s (l - 1) (at + size_at s at) (top + room_at s at) a goal
        cases zero l z e g = absurd (omega arith)
        cases (suc n) zero z e g = absurd (omega arith)
        cases (suc n) (suc l) z e g = let k : suc l - 1 ≡ l = omega arith in record { steps = n; enough = omega arith; same = rw k (rw (lt-ltb at (length s) h) at g) }

    pub walk_puts : (b : List ℕ) → left ≤ 0 → b ≡ set a top 255 → Leaves s (get_or s at 0) (at + 3) (top + 1) b goal
    unfolding outcomes_from
    walk_puts b l be = rw be (cases w.steps left l w.enough w.same)
      where
        cases : (n l : ℕ) → l ≤ 0 → length s - at < n → outcomes_from n l s at top a ≡ goal → Leaves s (get_or s at 0) (at + 3) (top + 1) (set a top 255) goal
        cases zero l z e g = absurd (omega arith)
        cases (suc n) (suc l) z e g = absurd (omega arith)
        cases (suc n) zero z e g = record { steps = n; enough = omega arith; same = rw (lt-ltb at (length s) h) at g }

-- a transaction's outcome, and then its messages: of the count that stands there none has come yet
pub walk_begins_one : (s : List ℕ) (at top : ℕ) (a goal : List ℕ) → Leaves s 0 at top a goal → at < length s → (b : List ℕ) → b ≡ set a top 255
    → Leaves s (get_or s at 0 - 0) (at + 3) (top + 1) b goal
walk_begins_one s at top a goal w h b e = let z : get_or s at 0 - 0 ≡ get_or s at 0 = omega arith in rw z (walk_puts s 0 at top a goal w h b (omega arith) e)

-- a message of it
pub walk_passes_one : (s : List ℕ) (n i at top : ℕ) (a goal : List ℕ) → Leaves s (n - i) at top a goal → i < n → (d r : ℕ) → d ≡ size_at s at → r ≡ room_at s at
    → Leaves s (n - (i + 1)) (at + d) (top + r) a goal
walk_passes_one s n i at top a goal w l d r de re = cases (ltb at (length s)) refl
  where
    k : n - (i + 1) ≡ n - i - 1
    k = omega arith

    cases : (b : Bool) → ltb at (length s) ≡ b → Leaves s (n - (i + 1)) (at + d) (top + r) a goal
    cases true e = rw k (walk_passes s (n - i) at top a goal w (ltb-true _ _ e) d r (omega arith) de re)
    cases false e = rw k (walk_passes_none s (n - i) at top a goal w d r (ltb-false _ _ e))

-- ---- both

module _ (s : List ℕ) (size : ℕ) (a : List ℕ) where
  pub too_small : length a < size → a ≡ started_of s size a
  unfolding started_of
  too_small h = rw (lt-ltb (length a) size h)

  module _ (h : size ≤ length a) where
    pub list_too_long : most_bytes < length s → a ≡ started_of s size a
    unfolding started_of
    list_too_long l = rw (le-ltb (length a) size h, lt-ltb most_bytes (length s) l)

    pub started : (b c : List ℕ) → length s ≤ most_bytes → b ≡ zeroed size a → c ≡ outcomes_from (suc (length s)) 0 s 0 0 b → c ≡ started_of s size a
    unfolding started_of
    started b c l be ce = rw (ce, be, le-ltb (length a) size h, le-ltb most_bytes (length s) l)
