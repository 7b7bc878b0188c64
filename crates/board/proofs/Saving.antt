-- The states handed back: chip after chip, four bytes each, and they are the rules' state row. Assumes nothing.
use Prim.Native.Nat.{ℕ, zero, suc, ◌+◌, ◌-◌, ◌*◌, ◌≤◌, ◌<◌}
use native.Mathlib.Numerals.{add-one}
use native.Mathlib.Omega.{arith}
use mathlib.Core.Path.{◌≡◌, refl, ap, ap₂, sym, ◌∙◌}
use mathlib.Core.List.{List, [], ◌∷◌, ◌++◌, append_assoc, map}
use Rattle.std.proofs.lemmas.List.{append-nil}
use lib.ListN.{length, get_or, take, drop, length-append, length-drop}
use lib.Seq.{drop-cons, take_at, length-take-le, take_all}
use Rattle.lent.specs.Areas.{over}
use Rattle.lent.proofs.Rows.{over_whole}
use Rattle.board.specs.Marks.{state_row}
use Rattle.board.specs.Seats.{size_of, seated, body_of, seat_bytes, seat_row}
use Rattle.board.specs.declared.Seat.{Seat}

pub seat_row_lem : (t n : ℕ) (xs : List Seat) (m : List ℕ) → state_row (map (body_of t) (seated n xs m)) ≡ seat_row t n xs
unfolding state_row seated seat_row
seat_row_lem t zero xs m = refl
seat_row_lem t (suc n) [] m = refl
seat_row_lem t (suc n) (x ∷ xs) m = ap (seat_bytes t x) (seat_row_lem t n xs (drop (size_of x) m))

module _ (t n i : ℕ) (xs : List Seat) (st : List ℕ) where
  -- the first i chips are saved, the rest is to come
  abbrev pub Saved : Type 0
  Saved = take (i * 4) st ++ seat_row t (n - i) (drop i xs) ≡ seat_row t n xs

  row_from : (d : Seat) → i < n → i < length xs → seat_row t (n - i) (drop i xs) ≡ seat_bytes t (get_or xs i d) (seat_row t (n - suc i) (drop (suc i) xs))
  unfolding seat_row
  row_from d h l = let k : n - i ≡ suc (n - suc i) = omega arith in rw (k, drop-cons xs i d l)

four : (t : ℕ) (x : Seat) (l : List ℕ) → seat_bytes t x l ≡ seat_bytes t x [] ++ l
four t x l = refl

-- one chip more: its four bytes take the place of those lent
pub one_saved : (t n i : ℕ) (xs : List Seat) (st p : List ℕ) (d : Seat) → Saved t n i xs st → length st ≡ 4 * n → i < n → n ≤ length xs
    → p ≡ over (seat_bytes t (get_or xs i d) []) (take 4 (drop (i * 4) st))
    → Saved t n (i + 1) xs (take (i * 4) st ++ (p ++ drop 4 (drop (i * 4) st)))
one_saved t n i xs st p d so_far l h r e =
    let q : length (take 4 (drop (i * 4) st)) ≡ 4 = length-take-le 4 (drop (i * 4) st) (rw length-drop (num1 i n (length st) l h)) in
    let w : p ≡ seat_bytes t (get_or xs i d) [] = e ∙ over_whole (seat_bytes t (get_or xs i d) []) (take 4 (drop (i * 4) st)) (sym q) in
    let f : length (take (i * 4) st ++ p) ≡ (i + 1) * 4 = length-append (take (i * 4) st) p ∙ ap₂ ◌+◌ (length-take-le (i * 4) st (num2 i n (length st) l h)) (ap length w) ∙ num3 i in
    let g : take ((i + 1) * 4) (take (i * 4) st ++ (p ++ drop 4 (drop (i * 4) st))) ≡ take (i * 4) st ++ p =
    ap (take ((i + 1) * 4)) (sym (append_assoc (take (i * 4) st) p (drop 4 (drop (i * 4) st)))) ∙ take_at (take (i * 4) st ++ p) (drop 4 (drop (i * 4) st)) ((i + 1) * 4) f in
    rw (g, append_assoc, w)
    (ap (λ (k : ℕ). take (i * 4) st ++ seat_bytes t (get_or xs i d) (seat_row t (n - k) (drop k xs))) (add-one i)
    ∙ ap (λ (m : List ℕ). take (i * 4) st ++ m) (sym (row_from t n i xs st d h (num4 i n (length xs) h r))) ∙ so_far)
  where
    num1 : (i n l : ℕ) → l ≡ 4 * n → i < n → 4 ≤ l - i * 4
    num1 i n l e h = omega arith

    num2 : (i n l : ℕ) → l ≡ 4 * n → i < n → i * 4 ≤ l
    num2 i n l e h = omega arith

    num3 : (i : ℕ) → i * 4 + 4 ≡ (i + 1) * 4
    num3 i = omega arith

    num4 : (i n l : ℕ) → i < n → n ≤ l → i < l
    num4 i n l h r = omega arith

pub all_saved : (t n i : ℕ) (xs : List Seat) (st : List ℕ) → Saved t n i xs st → length st ≡ 4 * n → i ≤ n → n ≤ i → st ≡ seat_row t n xs
unfolding seat_row
all_saved t n i xs st s l h r =
    let e : i ≡ n = omega arith in
    let z : n - i ≡ 0 = omega arith in
    sym (append-nil st) ∙ ap (λ (m : List ℕ). m ++ []) (sym (take_all (i * 4) st (num i n (length st) l r))) ∙ (rw z at s)
  where
    num : (i n l : ℕ) → l ≡ 4 * n → n ≤ i → l ≤ i * 4
    num i n l e h = omega arith
