-- The clock holder (paper 01, "Ticks and symbols"). Assumes nothing.
use Rattle.std.specs.Prelude.{ℕ, suc, ◌-◌, Bool, true, false, List, [], ◌∷◌}

-- the ticks for which it still drives SCL low, and the bytes of the clocked symbols to come
pub record Holding : Type 0 where
  pub left : ℕ
  pub list : List ℕ

-- past the list's end, 0
abbrev pub first_hold : List ℕ → ℕ
first_hold [] = 0
first_hold (h ∷ hs) = h

abbrev pub later_holds : List ℕ → List ℕ
later_holds [] = []
later_holds (h ∷ hs) = hs

-- SCL before and now. A clocked symbol begins where SCL falls; from the next tick on the holder drives SCL low in phase 1 and the held ticks
abbrev pub hold_tick : Bool → Bool → Holding → Holding
hold_tick true false h = record { left = suc (first_hold h.list); list = later_holds h.list }
hold_tick true true h = record { left = h.left - 1; list = h.list }
hold_tick false true h = record { left = h.left - 1; list = h.list }
hold_tick false false h = record { left = h.left - 1; list = h.list }
