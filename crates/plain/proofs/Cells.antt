-- The chips as a list: what a loop over the array does to it, whether one of them listens, and the byte of the first that does. Assumes nothing.
use Prim.Native.Nat.{ℕ, zero, suc, ◌+◌, ◌-◌, ◌≤◌, ◌<◌}
use native.Mathlib.Numerals.{add-one}
use native.Mathlib.Omega.{arith}
use mathlib.Core.Path.{◌≡◌, refl, sym, ap, ap₂, ◌∙◌}
use mathlib.Core.Bool.{Bool, true, false, ◌||◌}
use mathlib.Core.List.{List, [], ◌∷◌, map}
use lib.ListN.{length, get_or, set, take, drop, length-map, get_or-map, drop_of_length-le}
use lib.Seq.{drop-cons, set-get_or}
use Rattle.std.specs.List.{list_any}
use Rattle.std.proofs.Common.{inl, inr}
use Rattle.std.proofs.lemmas.Bool.{cases_lt}
use Rattle.std.proofs.lemmas.Grind.{get_or-set_at}
use Rattle.std.proofs.lemmas.List.{get_or_default, get_or-set_other}
use Rattle.store.specs.Keeping.{kept_of, byte_now}
use Rattle.board.specs.Seats.{parted, size_of, seated, offset}
use Rattle.board.specs.declared.Chips.{Chips}
use Rattle.board.specs.declared.Seat.{Seat}
use Rattle.board.proofs.Seated.{seated_length, seated_at, offset_next, offset_within}
use Rattle.plain.specs.Plain.{Cell, listens, any_of, value_of}
use Rattle.plain.specs.Inside.{cell_at, cell_on, cells_of, Steps, Becomes}

-- one chip more takes a step: those below i have, the others are as they were
module _ (R : Seat → Seat → Type 0) (i : ℕ) (xs ys : List Seat) (y e : Seat) (in_list : i < length xs) (there : i < length ys)
    (rest : (k : ℕ) → i ≤ k → (d : Seat) → get_or ys k d ≡ get_or xs k d) where
  pub one_steps : ((k : ℕ) → k < i → (d : Seat) → R (get_or xs k d) (get_or ys k d)) → R (get_or ys i e) y
      → (k : ℕ) → k < i + 1 → (d : Seat) → R (get_or xs k d) (get_or (set ys i y) k d)
  one_steps so_far now k h d = elim (cases_lt k i) [
    | inl low ↦ rw (get_or-set_other ys i k y d (λ q. omega arith)) (so_far k low d)
    | inr high ↦ let q : k ≡ i = omega arith in
        let was : get_or xs k d ≡ get_or ys i e = ap (λ (j : ℕ). get_or xs j d) q ∙ get_or_default xs i d e in_list ∙ sym (rest i (omega arith) e) in
        rw (was, get_or-set_at ys i k y d q there) now
  ]

  -- or stays as it is
  pub one_stays : y ≡ get_or ys i e → ((k : ℕ) → k < i → (d : Seat) → R (get_or xs k d) (get_or ys k d)) → R (get_or ys i e) y
      → (k : ℕ) → k < i + 1 → (d : Seat) → R (get_or xs k d) (get_or ys k d)
  one_stays same so_far now k h d = rw (same, set-get_or ys i e) at (one_steps so_far now k h d)

pub rest_stays : (i : ℕ) (xs ys : List Seat) (y : Seat) → ((k : ℕ) → i ≤ k → (d : Seat) → get_or ys k d ≡ get_or xs k d)
    → (k : ℕ) → i + 1 ≤ k → (d : Seat) → get_or (set ys i y) k d ≡ get_or xs k d
rest_stays i xs ys y rest k h d = get_or-set_other ys i k y d (λ q. omega arith) ∙ rest k (omega arith) d

-- each of the first n chips has taken a step

module _ (h : Cell → Cell) where
  step_cells : (n : ℕ) (xs ys : List Seat) → n ≤ length xs → n ≤ length ys → ((i : ℕ) → i < n → (d : Seat) → Steps h (get_or xs i d) (get_or ys i d))
      → (m : List ℕ) → cells_of n ys m ≡ map h (cells_of n xs m)
  unfolding cells_of seated
  step_cells zero xs ys r s k m = refl
  step_cells (suc n) [] ys r s k m = absurd (omega arith)
  step_cells (suc n) (x ∷ xs) [] r s k m = absurd (omega arith)
  step_cells (suc n) (x ∷ xs) (y ∷ ys) r s k m =
      let one = k 0 (omega arith) x in
      rw one.size (ap₂ ◌∷◌ (one.cell (take (size_of x) m)) (step_cells n xs ys (omega arith) (omega arith) (λ i l d. k (suc i) (omega arith) d) (drop (size_of x) m)))

  step_offset : (n : ℕ) (xs ys : List Seat) → n ≤ length xs → n ≤ length ys → ((i : ℕ) → i < n → (d : Seat) → Steps h (get_or xs i d) (get_or ys i d))
      → offset n ys ≡ offset n xs
  unfolding offset
  step_offset zero xs ys r s k = refl
  step_offset (suc n) [] ys r s k = absurd (omega arith)
  step_offset (suc n) (x ∷ xs) [] r s k = absurd (omega arith)
  step_offset (suc n) (x ∷ xs) (y ∷ ys) r s k =
      ap₂ ◌+◌ (k 0 (omega arith) x).size (step_offset n xs ys (omega arith) (omega arith) (λ i l d. k (suc i) (omega arith) d))

  pub all_step : (x y : Chips) → length x.seats ≡ 8 → length y.seats ≡ 8 → y.count ≡ x.count
      → ((i : ℕ) → i < x.count → (d : Seat) → Steps h (get_or x.seats i d) (get_or y.seats i d)) → Becomes h x y
  all_step x y r s e k =
      let few = x.few in
      record {
        cells = λ m. rw e (step_cells x.count x.seats y.seats (omega arith) (omega arith) k m);
        count = e;
        fits = rw e (step_offset x.count x.seats y.seats (omega arith) (omega arith) k);
      }

-- the chips one by one

module _ (n : ℕ) (xs : List Seat) (room : n ≤ length xs) (m : List ℕ) where
  pub cells_length : length (cells_of n xs m) ≡ n
  unfolding cells_of
  cells_length = length-map (seated n xs m) cell_on ∙ seated_length n xs m room

  unfoldable pub part : ℕ → Seat → List ℕ
  part i d = take (size_of (get_or xs i d)) (drop (offset i xs) m)

  pub cell_at_lem : (i : ℕ) (d : Seat) → i < n → get_or (cells_of n xs m) i (cell_at d []) ≡ cell_at (get_or xs i d) (part i d)
  unfolding cells_of part
  cell_at_lem i d h = get_or-map cell_on (seated n xs m) i (parted d []) ∙ ap cell_on (seated_at i n xs m (parted d []) d h room)

  cells_from : (i : ℕ) (d : Seat) → i < n → drop i (cells_of n xs m) ≡ cell_at (get_or xs i d) (part i d) ∷ drop (suc i) (cells_of n xs m)
  cells_from i d h =
      let l : i < length (cells_of n xs m) = rw cells_length h in
      drop-cons (cells_of n xs m) i (cell_at d []) l ∙ ap (λ (c : Cell). c ∷ drop (suc i) (cells_of n xs m)) (cell_at_lem i d h)

  cells_end : (i : ℕ) → n ≤ i → drop i (cells_of n xs m) ≡ []
  cells_end i h = let l : length (cells_of n xs m) ≤ i = rw cells_length h in drop_of_length-le (cells_of n xs m) l

pub first_part : (xs : List Seat) → 0 ≡ offset 0 xs
unfolding offset
first_part xs = refl

-- the part of chip i, of z bytes, lies in the memory, and the next part begins where it ends
module _ (n i : ℕ) (xs : List Seat) (d : Seat) (b z : ℕ) (here : b ≡ offset i xs) (sized : z ≡ size_of (get_or xs i d)) (h : i < n) (room : n ≤ length xs) where
  pub next_part : b + z ≡ offset (i + 1) xs
  next_part = let l : i < length xs = omega arith in rw (add-one i, offset_next i xs d l, here, sized)

  pub part_within : (l : ℕ) → offset n xs ≡ l → b + z ≤ l
  part_within l k = let o = offset_within (i + 1) n xs (omega arith) in let q = next_part in omega arith

-- whether one listens

pub any_of_them : (a t n : ℕ) (xs : List Seat) (m : List ℕ) → list_any (λ x. listens a t (cell_at x [])) (take n xs) ≡ any_of (listens a t) (cells_of n xs m)
unfolding cells_of seated
any_of_them a t zero xs m = refl
any_of_them a t (suc n) [] m = refl
any_of_them a t (suc n) (x ∷ xs) m = ap (λ (b : Bool). listens a t (cell_at x []) || b) (any_of_them a t n xs (drop (size_of x) m))

-- the byte of the first that does: so far none did

module _ (n i : ℕ) (xs : List Seat) (room : n ≤ length xs) (a t : ℕ) (d : Seat) (r : Bool) (looked : r ≡ listens a t (cell_at (get_or xs i d) [])) (h : i < n) where
  module _ (m : List ℕ) (so_far : value_of (listens a t) (drop i (cells_of n xs m)) ≡ value_of (listens a t) (cells_of n xs m)) where
    pub this_value : r ≡ true → (y b z : ℕ) → b ≡ offset i xs → z ≡ size_of (get_or xs i d) → y ≡ byte_now (kept_of (get_or xs i d).chip.store (take (b + z - b) (drop b m)))
        → y ≡ value_of (listens a t) (cells_of n xs m)
    unfolding part
    this_value q y b z p k v =
        let e : b + z - b ≡ size_of (get_or xs i d) = omega arith in
        let w = rw (cells_from n xs room m i d h, ← looked, q) at so_far in
        v ∙ ap₂ (λ (c o : ℕ). byte_now (kept_of (get_or xs i d).chip.store (take c (drop o m)))) e p ∙ w

    pub not_this_value : r ≡ false → value_of (listens a t) (drop (i + 1) (cells_of n xs m)) ≡ value_of (listens a t) (cells_of n xs m)
    not_this_value e = rw (add-one i) (rw (cells_from n xs room m i d h, ← looked, e) at so_far)

module _ (n i : ℕ) (xs : List Seat) (room : n ≤ length xs) (a t : ℕ) (h : n ≤ i) where
  pub no_value : (m : List ℕ) → value_of (listens a t) (drop i (cells_of n xs m)) ≡ value_of (listens a t) (cells_of n xs m) → 255 ≡ value_of (listens a t) (cells_of n xs m)
  no_value m so_far = rw (cells_end n xs room m i h) at so_far
