-- The first seats of a list, heard apart from the rest and put back before it. Assumes nothing.
use Rattle.std.proofs.Common.{ℕ, zero, suc, ◌+◌, ◌≤◌, ◌<◌, ◌≡◌, List, [], ◌∷◌, ◌++◌, Bool, length, take, drop, map, refl, ap, sym, ◌∙◌, arith, length-append}
use native.Mathlib.Nat.{suc_inj}
use lib.ListN.{take-append-drop}
use lib.Seq.{length-take-le}
use Rattle.lines.specs.declared.Event.{Event}
use Rattle.board.specs.Seats.{Seated, parted, size_of, seated, offset, heard, all_up}
use Rattle.board.specs.declared.Seat.{Seat}

seated_front : (n : ℕ) (xs ys : List Seat) (m : List ℕ) → length xs ≡ n → seated n (xs ++ ys) m ≡ seated n xs m
unfolding seated
seated_front zero xs ys m e = refl
seated_front (suc n) [] ys m e = absurd (omega arith)
seated_front (suc n) (x ∷ xs) ys m e = ap (λ (l : List Seated). parted x (take (size_of x) m) ∷ l) (seated_front n xs ys (drop (size_of x) m) (suc_inj e))

offset_front : (n : ℕ) (xs ys : List Seat) → length xs ≡ n → offset n (xs ++ ys) ≡ offset n xs
unfolding offset
offset_front zero xs ys e = refl
offset_front (suc n) [] ys e = absurd (omega arith)
offset_front (suc n) (x ∷ xs) ys e = ap (λ (k : ℕ). size_of x + k) (offset_front n xs ys (suc_inj e))

module _ (n : ℕ) (cs : List Seat) (l : n ≤ length cs) where
  count : length (take n cs) ≡ n
  count = length-take-le n cs l

  seated_take : (m : List ℕ) → seated (length (take n cs)) (take n cs) m ≡ seated n cs m
  seated_take m =
      ap (λ (k : ℕ). seated k (take n cs) m) count ∙ sym (seated_front n (take n cs) (drop n cs) m count)
      ∙ ap (λ (xs : List Seat). seated n xs m) (take-append-drop n cs)

  offset_take : offset (length (take n cs)) (take n cs) ≡ offset n cs
  offset_take =
      ap (λ (k : ℕ). offset k (take n cs)) count ∙ sym (offset_front n (take n cs) (drop n cs) count)
      ∙ ap (offset n) (take-append-drop n cs)

  -- what hearing asks of the first
  pub asks : (t : ℕ) (m : List ℕ) → t < 1099511627776 → n ≤ 8 → length m ≡ offset n cs
      → (t < 1099511627776) × (length (take n cs) ≤ 8) × (length m ≡ offset (length (take n cs)) (take n cs))
  asks t m b h f = (b, rw count h, f ∙ sym offset_take)

  -- what it leaves of all
  module _ (ys : List Seat) (same : length ys ≡ length (take n cs)) where
    pub still_long : length (ys ++ drop n cs) ≡ length cs
    still_long =
        length-append ys (drop n cs) ∙ ap (λ (k : ℕ). k + length (drop n cs)) same ∙ sym (length-append (take n cs) (drop n cs))
        ∙ ap length (take-append-drop n cs)

    seated_back : (m : List ℕ) → seated n (ys ++ drop n cs) m ≡ seated (length (take n cs)) ys m
    seated_back m = seated_front n ys (drop n cs) m (same ∙ count) ∙ ap (λ (k : ℕ). seated k ys m) (sym count)

    module _ (m : List ℕ) where
      pub all_of_them : (asked t : ℕ) (e : Event) (before : List ℕ)
          → seated (length (take n cs)) ys m ≡ map (heard asked t e) (seated (length (take n cs)) (take n cs) before)
          → seated n (ys ++ drop n cs) m ≡ map (heard asked t e) (seated n cs before)
      all_of_them asked t e before h = seated_back m ∙ h ∙ ap (map (heard asked t e)) (seated_take before)

      pub they_leave : (up : Bool) → up ≡ all_up (seated (length (take n cs)) ys m) → up ≡ all_up (seated n (ys ++ drop n cs) m)
      they_leave up h = h ∙ ap all_up (sym (seated_back m))

      pub they_fit : length m ≡ offset (length (take n cs)) ys → length m ≡ offset n (ys ++ drop n cs)
      they_fit h = h ∙ ap (λ (k : ℕ). offset k ys) count ∙ sym (offset_front n ys (drop n cs) (same ∙ count))
