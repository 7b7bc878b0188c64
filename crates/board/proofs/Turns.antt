-- One turn of a loop over the chips: a chip and its part of the memory hear an event, or a deaf one is passed over. Assumes nothing.
use Prim.Native.Nat.{ℕ, suc, ◌+◌, ◌-◌, ◌≤◌, ◌<◌}
use native.Mathlib.Numerals.{add-one}
use native.Mathlib.Omega.{arith}
use mathlib.Core.Path.{◌≡◌, refl, ap, ap₂, sym, ◌∙◌}
use mathlib.Core.Bool.{Bool, true, ◌&&◌}
use mathlib.Core.List.{List, [], ◌++◌, map}
use lib.ListN.{length, get_or, set, take, drop, length-append, length-drop, length-set}
use lib.Seq.{length-take-le, take_all, take-suc, take-suc-set, set-get_or}
use Rattle.std.proofs.Math.Bool.{and-true}
use Rattle.lines.specs.declared.Event.{Event}
use Rattle.lines.specs.declared.Event.TheVariants.{Quiet, Started, Stopped, Bit}
use Rattle.store.specs.Pages.{geometry_of}
use Rattle.store.specs.declared.Model.{Model}
use Rattle.eeprom.specs.Stages.{Core, core_of, sda_of}
use Rattle.eeprom.specs.declared.Stage.{Stage}
use Rattle.eeprom.specs.declared.Stage.TheVariants.{Deaf, Naming, Named, Taking, Taken, Sending, Asking}
use Rattle.eeprom.proofs.Listening.{hears_model, deaf_to_bits}
use Rattle.board.specs.Seats.{Seated, parted, size_of, seated, offset, heard, is_deaf, is_bit, all_up}
use Rattle.board.specs.declared.Seat.{Seat}
use Rattle.board.proofs.Done.{done, done_length, done_step, done_end}
use Rattle.board.proofs.Seated.{seated_length, seated_at, seated_set, offset_next, offset_set, offset_within}
use Rattle.board.proofs.Heard.{up_append}

-- an event leaves a chip the size it has
heard_size : (asked t : ℕ) (e : Event) (x : Seat) (m p : List ℕ) (y : Seat) → parted y p ≡ heard asked t e (parted x m) → size_of y ≡ size_of x
heard_size asked t e x m p y h =
    ap (λ (s : Seated). (geometry_of s.seat.chip.store.model).size) h ∙ ap (λ (k : Model). (geometry_of k).size) (hears_model _ e (core_of x.chip m))

deaf_is : (s : Stage) → is_deaf s ≡ true → s ≡ Deaf
deaf_is Deaf h = refl
deaf_is (Naming n x) h = cc
deaf_is (Named r) h = cc
deaf_is (Taking n x) h = cc
deaf_is Taken h = cc
deaf_is (Sending n x) h = cc
deaf_is Asking h = cc

-- what the loop over the chips keeps: the first i have heard
pub record Hearing (asked t : ℕ) (e : Event) (n i a : ℕ) (xs : List Seated) (cs : List Seat) (m : List ℕ) (up : Bool) : Type 0 where
  pub heard_so_far : seated n cs m ≡ done (heard asked t e) i xs
  pub up_so_far : up ≡ all_up (take i (seated n cs m))
  pub begins : a ≡ offset i cs
  pub fits : length m ≡ offset n cs
  pub room : n ≤ length cs

pub none_heard_yet : (asked t : ℕ) (e : Event) (n : ℕ) (cs : List Seat) (m : List ℕ) → length m ≡ offset n cs → n ≤ length cs
    → Hearing asked t e n 0 0 (seated n cs m) cs m true
unfolding done all_up offset
none_heard_yet asked t e n cs m h l = record { heard_so_far = refl; up_so_far = refl; begins = refl; fits = h; room = l }

module _ (asked t : ℕ) (e : Event) (n i a : ℕ) (xs : List Seated) (cs : List Seat) (m : List ℕ) (up : Bool) (so_far : Hearing asked t e n i a xs cs m up) (below : i < n) (d : Seat) where
  here : Seat
  here = get_or cs i d

  in_list : i < length cs
  in_list = let r = so_far.room in omega arith

  pub part_fits : a + size_of (get_or cs i d) ≤ length m
  part_fits =
      let b = so_far.begins in
      let f = so_far.fits in
      let g : offset (suc i) cs ≡ offset i cs + size_of (get_or cs i d) = offset_next i cs d in_list in
      let w : offset (suc i) cs ≤ offset n cs = offset_within (suc i) n cs below in
      omega arith

  xs_length : length xs ≡ n
  xs_length = sym (done_length (heard asked t e) i xs) ∙ ap length (sym so_far.heard_so_far) ∙ seated_length n cs m so_far.room

  part_is : (x : Seated) → get_or (seated n cs m) i x ≡ parted (get_or cs i d) (take (size_of (get_or cs i d)) (drop a m))
  part_is x = seated_at i n cs m x d below so_far.room ∙ ap (λ (k : ℕ). parted (get_or cs i d) (take (size_of (get_or cs i d)) (drop k m))) (sym so_far.begins)

  pub one_heard : (y : Seat) (p : List ℕ) (b : Bool) → parted y p ≡ heard asked t e (parted (get_or cs i d) (take (size_of (get_or cs i d)) (drop a m)))
      → length p ≡ length (take (size_of (get_or cs i d)) (drop a m)) → b ≡ sda_of y.chip.stage
      → Hearing asked t e n (i + 1) (a + size_of (get_or cs i d)) xs (set cs i y) (take a m ++ (p ++ drop (size_of (get_or cs i d)) (drop a m))) (up && b)
  one_heard y p b h l v =
      let s : size_of y ≡ size_of (get_or cs i d) = heard_size asked t e (get_or cs i d) _ p y h in
      let k : length (take (size_of (get_or cs i d)) (drop a m)) ≡ size_of (get_or cs i d) = length-take-le (size_of (get_or cs i d)) (drop a m) (rw length-drop (num a (size_of (get_or cs i d)) (length m) part_fits)) in
      let z : length p ≡ size_of y = l ∙ k ∙ sym s in
      let c : seated n (set cs i y) (take a m ++ (p ++ drop (size_of (get_or cs i d)) (drop a m))) ≡ set (seated n cs m) i (parted y p) =
      ap₂ (λ (o q : ℕ). seated n (set cs i y) (take o m ++ (p ++ drop q (drop o m)))) so_far.begins (sym s)
      ∙ seated_set i n cs m p y d below so_far.room s z (num2 (offset i cs) a (size_of (get_or cs i d)) (size_of y) (length m) so_far.begins s part_fits) in
      let i_in : i < length (seated n cs m) = rw (seated_length n cs m so_far.room) below in
      record {
        heard_so_far = c ∙ done_step (heard asked t e) i xs (seated n cs m) (parted y p) (parted d []) so_far.heard_so_far
            (h ∙ ap (heard asked t e) (sym (part_is (parted d [])))) (rw xs_length below);
        up_so_far = ap₂ ◌&&◌ so_far.up_so_far v ∙ sym (up_append (take i (seated n cs m)) (parted y p))
            ∙ ap all_up (sym (take-suc-set (seated n cs m) i (parted y p) i_in)) ∙ ap₂ (λ (o : ℕ) (q : List Seated). all_up (take o q)) (sym (add-one i)) (sym c);
        begins = ap (λ (o : ℕ). o + size_of (get_or cs i d)) so_far.begins ∙ sym (offset_next i cs d in_list) ∙ sym (offset_set (suc i) i cs y d s) ∙ ap (λ (o : ℕ). offset o (set cs i y)) (sym (add-one i));
        fits = same a p m (size_of (get_or cs i d)) (l ∙ k) part_fits ∙ so_far.fits ∙ sym (offset_set n i cs y d s);
        room = rw length-set so_far.room;
      }
    where
      num : (a z l : ℕ) → a + z ≤ l → z ≤ l - a
      num a z l h = omega arith

      num2 : (o a z y l : ℕ) → a ≡ o → y ≡ z → a + z ≤ l → o + y ≤ l
      num2 o a z y l e f h = omega arith

      same : (a : ℕ) (p m : List ℕ) (z : ℕ) → length p ≡ z → a + z ≤ length m → length (take a m ++ (p ++ drop z (drop a m))) ≡ length m
      same a p m z e h =
          rw (
            length-append (take a m) (p ++ drop z (drop a m)),
            length-append p (drop z (drop a m)),
            length-drop z (drop a m),
            length-drop a m,
            e,
            length-take-le a m (num3 a z (length m) h),
          )
          (num4 a z (length m) h)
        where
          num3 : (a z l : ℕ) → a + z ≤ l → a ≤ l
          num3 a z l h = omega arith

          num4 : (a z l : ℕ) → a + z ≤ l → a + (z + (l - a - z)) ≡ l
          num4 a z l h = omega arith

  -- a deaf chip hears no bit: nothing of it changes, and it lets go of SDA
  one_deaf : (get_or cs i d).chip.stage ≡ Deaf → (b : Bool) → e ≡ Bit b → Hearing asked t e n (i + 1) (a + size_of (get_or cs i d)) xs cs m up
  unfolding sda_of
  one_deaf q b f =
      let x : Seated = parted (get_or cs i d) (take (size_of (get_or cs i d)) (drop a m)) in
      let same : heard asked t e x ≡ x =
      ap (λ (v : Event). heard asked t v x) f
      ∙ ap (λ (c : Core). parted (record { chip = record { stage = c.stage; store = c.kept.store }; free = (get_or cs i d).free }) c.kept.memory) (deaf_to_bits _ b (core_of (get_or cs i d).chip x.memory) q) in
      let i_in : i < length (seated n cs m) = rw (seated_length n cs m so_far.room) below in
      record {
        heard_so_far = sym (set-get_or (seated n cs m) i (parted d []))
            ∙ done_step (heard asked t e) i xs (seated n cs m) (get_or (seated n cs m) i (parted d [])) (parted d []) so_far.heard_so_far
            (part_is (parted d []) ∙ sym same ∙ ap (heard asked t e) (sym (part_is (parted d [])))) (rw xs_length below);
        up_so_far = so_far.up_so_far ∙ sym (and-true (all_up (take i (seated n cs m))))
            ∙ ap (λ (v : Bool). all_up (take i (seated n cs m)) && v) (sym (ap (λ (s : Seated). sda_of s.seat.chip.stage) (part_is (parted d [])) ∙ ap sda_of q))
            ∙ sym (up_append (take i (seated n cs m)) (get_or (seated n cs m) i (parted d [])))
            ∙ ap all_up (sym (take-suc (seated n cs m) i (parted d []) i_in)) ∙ ap (λ (o : ℕ). all_up (take o (seated n cs m))) (sym (add-one i));
        begins = ap (λ (o : ℕ). o + size_of (get_or cs i d)) so_far.begins ∙ sym (offset_next i cs d in_list) ∙ ap (λ (o : ℕ). offset o cs) (sym (add-one i));
        fits = so_far.fits;
        room = so_far.room;
      }

  pub one_passed : (x y : Bool) → x ≡ is_deaf (get_or cs i d).chip.stage → x ≡ true → y ≡ is_bit e → y ≡ true
      → Hearing asked t e n (i + 1) (a + size_of (get_or cs i d)) xs cs m up
  one_passed x y p q r s = go e (sym r ∙ s) refl
    where
      go : (v : Event) → is_bit v ≡ true → e ≡ v → Hearing asked t e n (i + 1) (a + size_of (get_or cs i d)) xs cs m up
      go Quiet h f = cc
      go Started h f = cc
      go Stopped h f = cc
      go (Bit b) h f = one_deaf (deaf_is (get_or cs i d).chip.stage (sym p ∙ q)) b f

  -- the same in the code's words, with the size as it was asked for
  module _ (z : ℕ) (size_is : z ≡ size_of (get_or cs i d)) where
    length_is : a + z - a ≡ size_of (get_or cs i d)
    length_is = num a z ∙ size_is
      where
        num : (a z : ℕ) → a + z - a ≡ z
        num a z = omega arith

    pub part_ends : a + z ≤ length m
    part_ends = rw size_is part_fits

    pub passes_one : (x y : Bool) → x ≡ is_deaf (get_or cs i d).chip.stage → x ≡ true → y ≡ is_bit e → y ≡ true → Hearing asked t e n (i + 1) (a + z) xs cs m up
    passes_one x y p q r s = rw size_is (one_passed x y p q r s)

    pub hears_one : (y : Seat) (p : List ℕ) (b : Bool) → parted y p ≡ heard asked t e (parted (get_or cs i d) (take (a + z - a) (drop a m)))
        → length p ≡ length (take (a + z - a) (drop a m)) → b ≡ sda_of y.chip.stage
        → Hearing asked t e n (i + 1) (a + z) xs (set cs i y) (take a m ++ (p ++ drop (a + z - a) (drop a m))) (up && b)
    hears_one y p b h l v = rw (length_is, size_is) (one_heard y p b (rw length_is at h) (rw length_is at l) v)

-- the loop has gone over all
pub all_have_heard : (asked t : ℕ) (e : Event) (n i a : ℕ) (xs : List Seated) (cs : List Seat) (m : List ℕ) (up : Bool) → Hearing asked t e n i a xs cs m up
    → i ≤ n → n ≤ i → length xs ≡ n
    → (seated n cs m ≡ map (heard asked t e) xs) × (up ≡ all_up (seated n cs m))
all_have_heard asked t e n i a xs cs m up h l r s = (
  done_end (heard asked t e) i xs (seated n cs m) h.heard_so_far (rw s r),
  h.up_so_far ∙ ap all_up (take_all i (seated n cs m) (rw (seated_length n cs m h.room) r)),
)
