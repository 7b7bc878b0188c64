-- A STOP, chip after chip: each with its part of the lent memory. Assumes nothing.
use Prim.Native.Nat.{ℕ, zero, suc, ◌+◌, ◌-◌, ◌≤◌, ◌<◌}
use native.Mathlib.Omega.{arith}
use mathlib.Core.Path.{◌≡◌, refl, ap, ap₂, sym, ◌∙◌}
use mathlib.Core.List.{List, [], ◌∷◌, ◌++◌, map}
use lib.ListN.{length, get_or, set, take, drop, length-drop}
use lib.Seq.{length-take-le}
use borrow.Rule.Slice.PartMut.{same_len_mid}
use Rattle.board.specs.Seats.{Seated, parted, size_of, seated, offset}
use Rattle.board.specs.declared.Seat.{Seat}
use Rattle.board.proofs.Seated.{seated_set, offset_set}
use Rattle.board.proofs.Done.{done, done_step, done_end}
use Rattle.plain.specs.Plain.{Cell, stores}
use Rattle.plain.specs.Inside.{cell_at, cell_on, cells_of}
use Rattle.plain.proofs.Cells.{cells_length, cell_at_lem, part, next_part, part_within}

map_set : (l : List Seated) (i : ℕ) (y : Seated) → map cell_on (set l i y) ≡ set (map cell_on l) i (cell_on y)
map_set [] i y = refl
map_set (x ∷ l) zero y = refl
map_set (x ∷ l) (suc i) y = ap (λ (r : List Cell). cell_on x ∷ r) (map_set l i y)

-- the first i chips have stopped
abbrev pub Stopped : (asked t n i : ℕ) → (xs₀ : List Seat) → (m₀ : List ℕ) → (xs : List Seat) → (m : List ℕ) → Type 0
Stopped asked t n i xs₀ m₀ xs m = cells_of n xs m ≡ done (stores asked t) i (cells_of n xs₀ m₀)

pub none_stopped : (asked t n : ℕ) (xs : List Seat) (m : List ℕ) → Stopped asked t n 0 xs m xs m
unfolding done
none_stopped asked t n xs m = refl

pub all_stopped : (asked t n i : ℕ) (xs₀ : List Seat) (m₀ : List ℕ) (xs : List Seat) (m : List ℕ) → Stopped asked t n i xs₀ m₀ xs m → n ≤ length xs₀ → n ≤ i
    → cells_of n xs m ≡ map (stores asked t) (cells_of n xs₀ m₀)
all_stopped asked t n i xs₀ m₀ xs m so_far room₀ h =
    let l : length (cells_of n xs₀ m₀) ≤ i = rw (cells_length n xs₀ room₀ m₀) h in
    done_end (stores asked t) i (cells_of n xs₀ m₀) (cells_of n xs m) so_far l

-- a chip y and its part p take the place of chip i and its part, which begins at b and has z bytes
module _ (n i : ℕ) (xs : List Seat) (m p : List ℕ) (y d : Seat) (b z : ℕ) (room : n ≤ length xs) (fits : offset n xs ≡ length m) (h : i < n)
    (here : b ≡ offset i xs) (sized : z ≡ size_of (get_or xs i d)) (size : size_of y ≡ size_of (get_or xs i d)) (whole : length p ≡ length (take (b + z - b) (drop b m))) where
  after : List ℕ
  after = take b m ++ (p ++ drop (b + z - b) (drop b m))

  bytes : b + z - b ≡ size_of y
  bytes = omega arith

  within : offset i xs + size_of y ≤ length m
  within = let w = part_within n i xs d b z here sized h room (length m) fits in omega arith

  part_length : length p ≡ size_of y
  part_length =
      whole ∙ ap₂ (λ (k o : ℕ). length (take k (drop o m))) bytes here
      ∙ length-take-le (size_of y) (drop (offset i xs) m) (rw length-drop (let w = within in omega arith))

  put_back : cells_of n (set xs i y) after ≡ set (cells_of n xs m) i (cell_at y p)
  unfolding after cells_of
  put_back =
      ap₂ (λ (k o : ℕ). map cell_on (seated n (set xs i y) (take o m ++ (p ++ drop k (drop o m))))) bytes here
      ∙ ap (map cell_on) (seated_set i n xs m p y d h room size part_length within) ∙ map_set (seated n xs m) i (parted y p)

  part_next : b + z ≡ offset (i + 1) (set xs i y)
  part_next = next_part n i xs d b z here sized h room ∙ sym (offset_set (i + 1) i xs y d size)

  as_long : length after ≡ length m
  unfolding after
  as_long = same_len_mid b (b + z - b) m p whole

  still_fits : offset n (set xs i y) ≡ length after
  still_fits = offset_set n i xs y d size ∙ fits ∙ sym as_long

  -- one turn of the loop
  pub one_stopped : (asked t : ℕ) (xs₀ : List Seat) (m₀ : List ℕ) → Stopped asked t n i xs₀ m₀ xs m → n ≤ length xs₀
      → cell_at y p ≡ stores asked t (cell_at (get_or xs i d) (take (b + z - b) (drop b m)))
      → (b + z ≡ offset (i + 1) (set xs i y)) × (offset n (set xs i y) ≡ length (take b m ++ (p ++ drop (b + z - b) (drop b m))))
      × (length (take b m ++ (p ++ drop (b + z - b) (drop b m))) ≡ length m)
      × Stopped asked t n (i + 1) xs₀ m₀ (set xs i y) (take b m ++ (p ++ drop (b + z - b) (drop b m)))
  unfolding after part
  one_stopped asked t xs₀ m₀ so_far room₀ stop =
      let l : i < length (cells_of n xs₀ m₀) = rw (cells_length n xs₀ room₀ m₀) h in
      let e : b + z - b ≡ size_of (get_or xs i d) = omega arith in (
        part_next,
        still_fits,
        as_long,
        put_back
            ∙ done_step (stores asked t) i (cells_of n xs₀ m₀) (cells_of n xs m) (cell_at y p) (cell_at d []) so_far
            (stop ∙ ap (stores asked t) (ap₂ (λ (k o : ℕ). cell_at (get_or xs i d) (take k (drop o m))) e here ∙ sym (cell_at_lem n xs room m i d h))) l,
      )
