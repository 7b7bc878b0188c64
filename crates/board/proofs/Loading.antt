-- The chips that the marks name: loaded strap by strap, each at its place, they are the rules' chips before the first tick. Assumes nothing.
use Prim.Native.Nat.{ℕ, zero, suc, ◌+◌, ◌-◌, ◌*◌, ◌≤◌, ◌<◌}
use native.Mathlib.Nat.{mod-one, zero-add, add-zero, mul-suc, mul-zero, add_comm, sub-zero}
use native.Mathlib.Numerals.{add-one}
use native.Mathlib.Omega.{arith}
use mathlib.Core.Path.{◌≡◌, refl, ap, ap₂, sym, ◌∙◌}
use mathlib.Core.Bool.{Bool, true, false, cond}
use mathlib.Core.List.{List, [], ◌∷◌, ◌++◌, append_assoc, map}
use Rattle.std.proofs.lemmas.List.{append-nil}
use lib.Count.{ones}
use lib.ListN.{length, set, take, drop}
use lib.Seq.{take-suc-set, drop-drop, length-take-le}
use Rattle.lines.specs.Levels.{digit, bit_at}
use Rattle.store.specs.Pages.{geometry_of}
use Rattle.store.specs.Keeping.{Kept, kept_of, kept_at}
use Rattle.store.specs.declared.Model.TheVariants.{Large}
use Rattle.store.specs.declared.Store.{Store}
use Rattle.eeprom.specs.Stages.{Body, sda_of}
use Rattle.eeprom.specs.States.{word_at}
use Rattle.eeprom.specs.declared.Stage.TheVariants.{Deaf}
use Rattle.board.specs.Marks.{place_of, memory_at, body_at, bodies_from}
use Rattle.board.specs.Seats.{Seated, parted, size_of, seated, offset, body_of, all_up, seat_at, seats_from}
use Rattle.board.specs.declared.Seat.{Seat}
use Rattle.board.proofs.Places.{place_next, all_places}

module _ (marks : ℕ) (states : List ℕ) where
  -- one chip, from its words
  pub seat_so : (s : ℕ) (w : ℕ × ℕ) (r : Store) → w ≡ (word_at states (4 * place_of marks s), word_at states (4 * place_of marks s + 2))
      → ((m : List ℕ) → kept_of r m ≡ kept_at (80 + s) Large w.0 m) → ◌≡◌ {A = Seat} (record { chip = record { stage = Deaf; store = r }; free = w.1 }) (seat_at marks states s)
  seat_so s w r e k =
      ap₂ (λ (u : Store) (z : ℕ). record { chip = record { stage = Deaf; store = u }; free = z })
      (ap (λ (q : Kept). q.store) (k []) ∙ ap (λ (v : ℕ × ℕ). (kept_at (80 + s) Large v.0 []).store) e) (ap (λ (v : ℕ × ℕ). v.1) e)

  -- the places below a strap are filled, the rest is to come
  abbrev pub Filled : List Seat → ℕ → Type 0
  Filled xs s = take (place_of marks s) xs ++ seats_from marks states (8 - s) s ≡ seats_from marks states 8 0

  place_with : (s : ℕ) → bit_at s marks ≡ true → place_of marks (suc s) ≡ suc (place_of marks s)
  place_with s e = place_next marks s ∙ ap (λ (b : Bool). digit b + place_of marks s) e ∙ num (place_of marks s)
    where
      num : (n : ℕ) → 1 + n ≡ suc n
      num n = omega arith

  place_without : (s : ℕ) → bit_at s marks ≡ false → place_of marks (suc s) ≡ place_of marks s
  place_without s e = place_next marks s ∙ ap (λ (b : Bool). digit b + place_of marks s) e ∙ zero-add (place_of marks s)

  from_with : (s : ℕ) → s < 8 → bit_at s marks ≡ true → seats_from marks states (8 - s) s ≡ seat_at marks states s ∷ seats_from marks states (8 - suc s) (suc s)
  unfolding seats_from
  from_with s h e = let k : 8 - s ≡ suc (8 - suc s) = omega arith in rw (k, e)

  from_without : (s : ℕ) → s < 8 → bit_at s marks ≡ false → seats_from marks states (8 - s) s ≡ seats_from marks states (8 - suc s) (suc s)
  unfolding seats_from
  from_without s h e = let k : 8 - s ≡ suc (8 - suc s) = omega arith in rw (k, e)

  module _ (xs : List Seat) (s : ℕ) (so_far : Filled xs s) (b : Bool) (looked : b ≡ bit_at s marks) (below : s < 8) where
    pub one_seat : b ≡ true → (p : ℕ) (y : Seat) → p ≡ place_of marks s → p < length xs → y ≡ seat_at marks states s → Filled (set xs p y) (s + 1)
    one_seat t p y e h f =
        let q : bit_at s marks ≡ true = sym looked ∙ t in
        let l : place_of marks s < length xs = rw e at h in
        rw (add-one s, place_with s q, e, f, take-suc-set xs (place_of marks s) (seat_at marks states s) l, append_assoc)
        (ap (λ (l : List Seat). take (place_of marks s) xs ++ l) (sym (from_with s below q)) ∙ so_far)

    pub no_seat : b ≡ false → Filled xs (s + 1)
    no_seat t =
        let q : bit_at s marks ≡ false = sym looked ∙ t in
        rw (add-one s, place_without s q) (ap (λ (l : List Seat). take (place_of marks s) xs ++ l) (sym (from_without s below q)) ∙ so_far)

  pub none_yet : (xs : List Seat) → Filled xs 0
  unfolding ones
  none_yet xs = ap (λ (n : ℕ). take (ones n) xs ++ seats_from marks states 8 0) (mod-one marks)

  pub all_seats : (xs : List Seat) (s : ℕ) → marks < 256 → Filled xs s → s ≤ 8 → 8 ≤ s → take (ones marks) xs ≡ seats_from marks states 8 0
  unfolding seats_from
  all_seats xs s h f l m =
      let e : s ≡ 8 = omega arith in
      sym (append-nil (take (ones marks) xs)) ∙ ap (λ (n : ℕ). take n xs ++ []) (sym (all_places marks h)) ∙ (rw e at f)

-- the loaded chips with their parts of the memory are the rules' chips

pub seated_take : (n : ℕ) (xs : List Seat) (m : List ℕ) → seated n (take n xs) m ≡ seated n xs m
unfolding seated
seated_take zero xs m = refl
seated_take (suc n) [] m = refl
seated_take (suc n) (x ∷ xs) m = ap (λ (l : List Seated). parted x (take (size_of x) m) ∷ l) (seated_take n xs (drop (size_of x) m))

offset_take : (n : ℕ) (xs : List Seat) → offset n (take n xs) ≡ offset n xs
unfolding offset
offset_take zero xs = refl
offset_take (suc n) [] = refl
offset_take (suc n) (x ∷ xs) = ap (λ (k : ℕ). size_of x + k) (offset_take n xs)

module _ (marks : ℕ) (memory states : List ℕ) where
  memory_with : (s : ℕ) → bit_at s marks ≡ true → memory_at marks (suc s) ≡ (geometry_of Large).size + memory_at marks s
  memory_with s e = ap (λ (n : ℕ). (geometry_of Large).size * n) (place_with marks states s e) ∙ num (geometry_of Large).size (place_of marks s)
    where
      num : (a b : ℕ) → a * suc b ≡ a + a * b
      num a b = mul-suc a b ∙ add_comm (a * b) a

  memory_without : (s : ℕ) → bit_at s marks ≡ false → memory_at marks (suc s) ≡ memory_at marks s
  memory_without s e = ap (λ (n : ℕ). (geometry_of Large).size * n) (place_without marks states s e)

  abbrev seats : ℕ → ℕ → List Seat
  seats n s = seats_from marks states n s

  loaded_from : (n s : ℕ) → map (body_of 0) (seated (length (seats n s)) (seats n s) (drop (memory_at marks s) memory)) ≡ bodies_from marks memory states n s
  unfolding seats_from seated bodies_from
  loaded_from zero s = refl
  loaded_from (suc n) s = go (bit_at s marks) refl (loaded_from n (suc s))
    where
      size : ℕ
      size = (geometry_of Large).size

      go : (b : Bool) → bit_at s marks ≡ b
          → map (body_of 0) (seated (length (seats n (suc s))) (seats n (suc s)) (drop (memory_at marks (suc s)) memory)) ≡ bodies_from marks memory states n (suc s)
          → map (body_of 0) (seated (length (cond b (seat_at marks states s ∷ seats n (suc s)) (seats n (suc s)))) (cond b (seat_at marks states s ∷ seats n (suc s)) (seats n (suc s)))
          (drop (memory_at marks s) memory)) ≡ cond b (body_at marks memory states s ∷ bodies_from marks memory states n (suc s)) (bodies_from marks memory states n (suc s))
      go true e h =
          ap₂ (λ (k : ℕ) (l : List Body). record { core = (body_at marks memory states s).core; busy = k } ∷ l) (sub-zero (word_at states (4 * place_of marks s + 2)))
          (ap (λ (l : List ℕ). map (body_of 0) (seated (length (seats n (suc s))) (seats n (suc s)) l)) (drop-drop (geometry_of Large).size (memory_at marks s) memory ∙ ap (λ (k : ℕ). drop k memory) (add_comm (memory_at marks s) (geometry_of Large).size ∙ sym (memory_with s e)))
          ∙ h)
      go false e h = ap (λ (k : ℕ). map (body_of 0) (seated (length (seats n (suc s))) (seats n (suc s)) (drop k memory))) (sym (memory_without s e)) ∙ h

  none_below : memory_at marks 0 ≡ 0
  unfolding ones
  none_below = ap (λ (n : ℕ). (geometry_of Large).size * ones n) (mod-one marks) ∙ mul-zero (geometry_of Large).size

  offset_from : (n s : ℕ) → memory_at marks s + offset (length (seats n s)) (seats n s) ≡ memory_at marks (n + s)
  unfolding seats_from offset
  offset_from zero s = add-zero (memory_at marks s) ∙ ap (memory_at marks) (sym (zero-add s))
  offset_from (suc n) s = go (bit_at s marks) refl (offset_from n (suc s) ∙ ap (memory_at marks) (num n s))
    where
      num : (n s : ℕ) → n + suc s ≡ suc n + s
      num n s = omega arith

      num2 : (a b c d : ℕ) → a + b + c ≡ d → b + (a + c) ≡ d
      num2 a b c d h = omega arith

      go : (b : Bool) → bit_at s marks ≡ b → memory_at marks (suc s) + offset (length (seats n (suc s))) (seats n (suc s)) ≡ memory_at marks (suc n + s)
          → memory_at marks s + offset (length (cond b (seat_at marks states s ∷ seats n (suc s)) (seats n (suc s)))) (cond b (seat_at marks states s ∷ seats n (suc s)) (seats n (suc s))) ≡ memory_at marks (suc n + s)
      go true e h = num2 (geometry_of Large).size (memory_at marks s) _ _ (ap (λ (k : ℕ). k + offset (length (seats n (suc s))) (seats n (suc s))) (sym (memory_with s e)) ∙ h)
      go false e h = ap (λ (k : ℕ). k + offset (length (seats n (suc s))) (seats n (suc s))) (sym (memory_without s e)) ∙ h

  deaf_up : (n s : ℕ) (m : List ℕ) → all_up (seated (length (seats n s)) (seats n s) m) ≡ true
  unfolding seats_from seated all_up sda_of
  deaf_up zero s m = refl
  deaf_up (suc n) s m = go (bit_at s marks) (deaf_up n (suc s))
    where
      go : (b : Bool) → ((l : List ℕ) → all_up (seated (length (seats n (suc s))) (seats n (suc s)) l) ≡ true)
          → all_up (seated (length (cond b (seat_at marks states s ∷ seats n (suc s)) (seats n (suc s)))) (cond b (seat_at marks states s ∷ seats n (suc s)) (seats n (suc s))) m) ≡ true
      go true h = h (drop (size_of (seat_at marks states s)) m)
      go false h = h m

  module _ (xs : List Seat) (loaded : take (ones marks) xs ≡ seats_from marks states 8 0) (room : ones marks ≤ length xs) where
    as_many : length (seats_from marks states 8 0) ≡ ones marks
    as_many = sym (ap length loaded) ∙ length-take-le (ones marks) xs room

    -- before the first tick
    pub loaded_is : map (body_of 0) (seated (ones marks) xs memory) ≡ bodies_from marks memory states 8 0
    loaded_is =
        ap (map (body_of 0)) (sym (seated_take (ones marks) xs memory) ∙ ap₂ (λ (k : ℕ) (l : List Seat). seated k l memory) (sym as_many) loaded
        ∙ ap (λ (k : ℕ). seated (length (seats 8 0)) (seats 8 0) (drop k memory)) (sym none_below)) ∙ loaded_from 8 0

    -- their parts make up the memory
    pub loaded_fits : offset (ones marks) xs ≡ memory_at marks 8
    loaded_fits =
        sym (offset_take (ones marks) xs) ∙ ap₂ offset (sym as_many) loaded ∙ sym (zero-add (offset (length (seats 8 0)) (seats 8 0)))
        ∙ ap (λ (k : ℕ). k + offset (length (seats 8 0)) (seats 8 0)) (sym none_below) ∙ offset_from 8 0

    -- all are deaf: SDA is let go
    pub loaded_up : true ≡ all_up (seated (ones marks) xs memory)
    loaded_up =
        sym (deaf_up 8 0 memory) ∙ ap₂ (λ (k : ℕ) (l : List Seat). all_up (seated k l memory)) as_many (sym loaded) ∙ ap all_up (seated_take (ones marks) xs memory)
