-- The chips with their parts of the lent memory as one list: reading one, putting one back, and the memory that they make together. Once over every
-- chip's size. Assumes nothing.
use Prim.Native.Nat.{ℕ, zero, suc, ◌+◌, ◌-◌, ◌≤◌, ◌<◌}
use native.Mathlib.Nat.{suc-le-suc_iff, le_refl}
use native.Mathlib.Omega.{arith}
use mathlib.Core.Path.{◌≡◌, refl, ap, sym, ◌∙◌}
use mathlib.Core.List.{List, [], ◌∷◌, ◌++◌, append_assoc, map}
use lib.ListN.{length, get_or, set, take, drop, length-drop}
use lib.Seq.{drop-drop, take-add, take_at, drop_at, length-take-le, take_all}
use Rattle.board.specs.Marks.{memories}
use Rattle.board.specs.Seats.{Seated, parted, size_of, seated, offset, body_of}
use Rattle.board.specs.declared.Seat.{Seat}

pub seated_length : (n : ℕ) (xs : List Seat) (m : List ℕ) → n ≤ length xs → length (seated n xs m) ≡ n
unfolding seated
seated_length zero xs m h = refl
seated_length (suc n) [] m h = absurd (omega arith)
seated_length (suc n) (x ∷ xs) m h = ap suc (seated_length n xs (drop (size_of x) m) (suc-le-suc_iff.0 h))

-- offsets

pub offset_next : (i : ℕ) (xs : List Seat) (d : Seat) → i < length xs → offset (suc i) xs ≡ offset i xs + size_of (get_or xs i d)
unfolding offset
offset_next i [] d h = absurd (omega arith)
offset_next zero (x ∷ xs) d h = num (size_of x)
  where
    num : (a : ℕ) → a + 0 ≡ 0 + a
    num a = omega arith
offset_next (suc i) (x ∷ xs) d h = num (size_of x) (offset i xs) _ _ (offset_next i xs d (suc-le-suc_iff.0 h))
  where
    num : (a b c e : ℕ) → e ≡ b + c → a + e ≡ a + b + c
    num a b c e h = omega arith

pub offset_set : (j i : ℕ) (xs : List Seat) (y d : Seat) → size_of y ≡ size_of (get_or xs i d) → offset j (set xs i y) ≡ offset j xs
unfolding offset
offset_set zero i xs y d e = refl
offset_set (suc j) i [] y d e = refl
offset_set (suc j) zero (x ∷ xs) y d e = ap (λ (n : ℕ). n + offset j xs) e
offset_set (suc j) (suc i) (x ∷ xs) y d e = ap (λ (n : ℕ). size_of x + n) (offset_set j i xs y d e)

pub offset_within : (i n : ℕ) (xs : List Seat) → i ≤ n → offset i xs ≤ offset n xs
unfolding offset
offset_within zero n xs h = omega arith
offset_within (suc i) zero xs h = absurd (omega arith)
offset_within (suc i) (suc n) [] h = le_refl _
offset_within (suc i) (suc n) (x ∷ xs) h = num (size_of x) _ _ (offset_within i n xs (suc-le-suc_iff.0 h))
  where
    num : (a b c : ℕ) → b ≤ c → a + b ≤ a + c
    num a b c h = omega arith

-- one chip

pub seated_at : (i n : ℕ) (xs : List Seat) (m : List ℕ) (x : Seated) (d : Seat) → i < n → n ≤ length xs
    → get_or (seated n xs m) i x ≡ parted (get_or xs i d) (take (size_of (get_or xs i d)) (drop (offset i xs) m))
unfolding seated offset
seated_at i zero xs m x d h l = absurd (omega arith)
seated_at i (suc n) [] m x d h l = absurd (omega arith)
seated_at zero (suc n) (c ∷ cs) m x d h l = refl
seated_at (suc i) (suc n) (c ∷ cs) m x d h l =
    rw (← drop-drop (offset i cs) (size_of c) m) (seated_at i n cs (drop (size_of c) m) x d (suc-le-suc_iff.0 h) (suc-le-suc_iff.0 l))

-- a chip of the same size and its part take the place of what stood there
pub seated_set : (i n : ℕ) (xs : List Seat) (m p : List ℕ) (y d : Seat) → i < n → n ≤ length xs → size_of y ≡ size_of (get_or xs i d)
    → length p ≡ size_of y → offset i xs + size_of y ≤ length m
    → seated n (set xs i y) (take (offset i xs) m ++ (p ++ drop (size_of y) (drop (offset i xs) m))) ≡ set (seated n xs m) i (parted y p)
unfolding seated offset
seated_set i zero xs m p y d h l s e r = absurd (omega arith)
seated_set i (suc n) [] m p y d h l s e r = absurd (omega arith)
seated_set zero (suc n) (c ∷ cs) m p y d h l s e r =
    rw (take_at p (drop (size_of y) m) (size_of y) e, drop_at p (drop (size_of y) m) (size_of y) e)
    (ap (λ (k : ℕ). parted y p ∷ seated n cs (drop k m)) s)
seated_set (suc i) (suc n) (c ∷ cs) m p y d h l s e r =
    let g : length (take (size_of c) m) ≡ size_of c = length-take-le (size_of c) m (num (size_of c) (offset i cs) (size_of y) (length m) r) in
    let t : List ℕ = take (offset i cs) (drop (size_of c) m) ++ (p ++ drop (size_of y) (drop (size_of c + offset i cs) m)) in
    rw (
      take-add (size_of c) (offset i cs) m,
      append_assoc,
      take_at (take (size_of c) m) t (size_of c) g,
      drop_at (take (size_of c) m) t (size_of c) g,
      ← drop-drop (offset i cs) (size_of c) m,
    )
    (ap (λ (l : List Seated). parted c (take (size_of c) m) ∷ l)
    (seated_set i n cs (drop (size_of c) m) p y d (suc-le-suc_iff.0 h) (suc-le-suc_iff.0 l) s e
    (rw length-drop (num2 (size_of c) (offset i cs) (size_of y) (length m) r))))
  where
    num : (a b z l : ℕ) → a + b + z ≤ l → a ≤ l
    num a b z l h = omega arith

    num2 : (a b z l : ℕ) → a + b + z ≤ l → b + z ≤ l - a
    num2 a b z l h = omega arith

-- the memories side by side are the lent memory
pub together : (t n : ℕ) (xs : List Seat) (m : List ℕ) → n ≤ length xs → memories (map (body_of t) (seated n xs m)) ≡ take (offset n xs) m
unfolding seated offset memories
together t zero xs m h = refl
together t (suc n) [] m h = absurd (omega arith)
together t (suc n) (x ∷ xs) m h =
    ap (λ (l : List ℕ). take (size_of x) m ++ l) (together t n xs (drop (size_of x) m) (suc-le-suc_iff.0 h)) ∙ sym (take-add (size_of x) (offset n xs) m)

pub all_together : (t n : ℕ) (xs : List Seat) (m : List ℕ) → n ≤ length xs → length m ≡ offset n xs → memories (map (body_of t) (seated n xs m)) ≡ m
all_together t n xs m h e = together t n xs m h ∙ take_all (offset n xs) m (num (length m) (offset n xs) e)
  where
    num : (a b : ℕ) → a ≡ b → a ≤ b
    num a b e = omega arith
