-- What a message changes in the result area: its own slot and nothing else, and what then stands there. Assumes nothing.
use Prim.Native.Nat.{ℕ, zero, suc, ◌+◌, ◌≤◌, ◌<◌}
use mathlib.Core.Path.{◌≡◌, refl, sym, ◌∙◌, subst}
use mathlib.Core.Bool.{Bool, true, false, cond}
use mathlib.Core.List.{List, [], ◌∷◌}
use native.Mathlib.Omega.{arith}
use native.Mathlib.Numerals.{add-one}
use native.Mathlib.Nat.{zero-add, add-zero}
use lib.ListN.{length, get_or, set, length-set}
use lib.Seq.{get_or-set_same, get_or-set_other}
use Rattle.kinds.specs.Kinds.{is_write, asked_of, quota_of, follow, remain}
use Rattle.kinds.specs.declared.Quota.{Quota}
use Rattle.orders.specs.Form.{Message}
use Rattle.orders.specs.Asking.{Order, put, get, order_of}
use Rattle.orders.specs.Results.{Slotted, slots_of}
use Rattle.orders.specs.Marks.{written, read_mark, note}
use Rattle.store.specs.Keeping.{takes}
use Rattle.plain.specs.Plain.{Cell, World, value_of, byte_goes, writes_all, reads_all, reads_one, carried, listening, answered, addressed, message_if, message}
use Rattle.agreement.proofs.Quotas.{quota_fits}
use Rattle.agreement.proofs.Right.{Right}
use Rattle.agreement.proofs.Tally.{data_sent}

-- b is a but for the places from lo to before hi
pub record Frame (lo hi : ℕ) (a b : List ℕ) : Type 0 where
  pub size : length b ≡ length a
  pub below : (i : ℕ) → i < lo → get_or b i 0 ≡ get_or a i 0
  pub above : (i : ℕ) → hi ≤ i → get_or b i 0 ≡ get_or a i 0

pub frame_none : (lo hi : ℕ) (a : List ℕ) → Frame lo hi a a
frame_none lo hi a = record { size = refl; below = λ i h. refl; above = λ i h. refl }

pub frame_then : {lo hi : ℕ} {a b c : List ℕ} → Frame lo hi a b → Frame lo hi b c → Frame lo hi a c
frame_then f g =
    record { size = g.size ∙ f.size; below = λ i h. g.below i h ∙ f.below i h; above = λ i h. g.above i h ∙ f.above i h }

pub frame_wider : {lo hi : ℕ} {a b : List ℕ} (lo' hi' : ℕ) → lo' ≤ lo → hi ≤ hi' → Frame lo hi a b → Frame lo' hi' a b
frame_wider lo' hi' l m f = record { size = f.size; below = λ i h. f.below i (omega arith); above = λ i h. f.above i (omega arith) }

pub frame_set : (lo hi : ℕ) (a : List ℕ) (i v : ℕ) → lo ≤ i → i < hi → Frame lo hi a (set a i v)
frame_set lo hi a i v l m =
    record {
      size = length-set a i v;
      below = λ j h. get_or-set_other a i j v 0 (λ e. omega arith);
      above = λ j h. get_or-set_other a i j v 0 (λ e. omega arith);
    }

-- what stands at a message's slot
pub record Slot (s f n : ℕ) (a : List ℕ) : Type 0 where
  pub flag : get_or a s 0 ≡ f
  pub count : get_or a (s + 1) 0 ≡ n
  pub room : s + 1 < length a

slot_flag : (s f n : ℕ) (a : List ℕ) → Slot s f n a → Slot s 1 n (set a s 1)
slot_flag s f n a h =
    let r : s + 1 < length a = h.room in
    record {
      flag = get_or-set_same a s 1 0 (omega arith);
      count = get_or-set_other a s (s + 1) 1 0 (λ e. omega arith) ∙ h.count;
      room = subst (λ (k : ℕ). s + 1 < k) (sym (length-set a s 1)) r;
    }

slot_count : (s f n m : ℕ) (a : List ℕ) → Slot s f n a → Slot s f m (set a (s + 1) m)
slot_count s f n m a h =
    record {
      flag = get_or-set_other a (s + 1) s m 0 (λ e. omega arith) ∙ h.flag;
      count = get_or-set_same a (s + 1) m 0 h.room;
      room = subst (λ (k : ℕ). s + 1 < k) (sym (length-set a (s + 1) m)) h.room;
    }

slot_data : (s f n j y : ℕ) (a : List ℕ) → Slot s f n a → Slot s f n (set a (s + 2 + j) y)
slot_data s f n j y a h =
    record {
      flag = get_or-set_other a (s + 2 + j) s y 0 (λ e. omega arith) ∙ h.flag;
      count = get_or-set_other a (s + 2 + j) (s + 1) y 0 (λ e. omega arith) ∙ h.count;
      room = subst (λ (k : ℕ). s + 1 < k) (sym (length-set a (s + 2 + j) y)) h.room;
    }

slot_by : {s f n m : ℕ} {a : List ℕ} → n ≡ m → Slot s f n a → Slot s f m a
slot_by e h = record { flag = h.flag; count = h.count ∙ e; room = h.room }

-- the bytes of a write
writes_frame : (f : Cell → Bool) (s n : ℕ) (ys : List ℕ) (w : World) → Frame s (s + 2) w.log.area (writes_all f s n ys w).log.area
unfolding writes_all note
writes_frame f s n [] w = frame_none s (s + 2) _
writes_frame f s n (y ∷ ys) w = frame_then (frame_set s (s + 2) w.log.area (s + 1) (n + 1) (omega arith) (omega arith)) (writes_frame f s (suc n) ys _)

writes_slot : (f : Cell → Bool) (s g n : ℕ) (ys : List ℕ) (w : World) → Slot s g n w.log.area → Slot s g (n + length ys) (writes_all f s n ys w).log.area
unfolding writes_all note
writes_slot f s g n [] w h = slot_by (sym (add-zero n)) h
writes_slot f s g n (y ∷ ys) w h =
    slot_by (more n (length ys))
    (writes_slot f s g (suc n) ys (byte_goes f (takes y) (written n y true) s w) (slot_by (add-one n) (slot_count s g n (n + 1) w.log.area h)))
  where
    more : (n k : ℕ) → suc n + k ≡ n + suc k
    more n k = omega arith

-- the bytes of a read, into a room for r
read_frame : (s n r y : ℕ) (a : List ℕ) → n < r → Frame s (s + 2 + r) a (set (set a (s + 2 + n) y) (s + 1) (n + 1))
read_frame s n r y a l =
    frame_then (frame_set s (s + 2 + r) a (s + 2 + n) y (omega arith) (omega arith))
    (frame_set s (s + 2 + r) (set a (s + 2 + n) y) (s + 1) (n + 1) (omega arith) (omega arith))

read_slot : (s g n y : ℕ) (a : List ℕ) → Slot s g n a → Slot s g (suc n) (set (set a (s + 2 + n) y) (s + 1) (n + 1))
read_slot s g n y a h = slot_by (add-one n) (slot_count s g n (n + 1) (set a (s + 2 + n) y) (slot_data s g n n y a h))

reads_frame : (f : Cell → Bool) (s n : ℕ) (q : Quota) (m : ℕ) (w : World) (r : ℕ) → n + m ≤ r
    → Frame s (s + 2 + r) w.log.area (reads_all f s n q m w).log.area
unfolding reads_all note read_mark
reads_frame f s n q zero w r l = frame_none s (s + 2 + r) _
reads_frame f s n q (suc m) w r l =
    frame_then (read_frame s n r (value_of f w.cells) w.log.area (omega arith)) (reads_frame f s (suc n) (remain q m) m _ r (omega arith))

reads_slot : (f : Cell → Bool) (s g n : ℕ) (q : Quota) (m : ℕ) (w : World) → Slot s g n w.log.area → Slot s g (n + m) (reads_all f s n q m w).log.area
unfolding reads_all note read_mark
reads_slot f s g n q zero w h = slot_by (sym (add-zero n)) h
reads_slot f s g n q (suc m) w h =
    slot_by (more n m) (reads_slot f s g (suc n) (remain q m) m (reads_one f s n (remain q m) w) (read_slot s g n (value_of f w.cells) w.log.area h))
  where
    more : (n k : ℕ) → suc n + k ≡ n + suc k
    more n k = omega arith

-- a whole message
module _ (m : Message) (s : ℕ) (w : World) where
  abbrev here : Slotted
  here = record { message = m; slot = s }

  abbrev f : Cell → Bool
  f = listening here w

  pub message_frame : Right m → Frame s (s + slots_of m) w.log.area (message here w).log.area
  unfolding note read_mark
  message_frame k = go (answered here w)
    where
      carry : (q : Bool) → is_write m.kind ≡ q
          → Frame s (s + slots_of m) w.log.area (carried f s (cond q (put m.sent) (get (quota_of m.kind m.asked))) (addressed here true w)).log.area
      carry true e =
          frame_then (frame_set s (s + slots_of m) w.log.area s 1 (omega arith) (omega arith))
          (frame_wider s (s + slots_of m) (omega arith) (omega arith) (writes_frame f s 0 m.sent (addressed here true w)))
      carry false e =
          let v : ℕ = value_of f w.cells in
          let r : ℕ = asked_of m.kind m.asked in
          let q : Quota = quota_of m.kind m.asked in
          let l : suc (follow q v) ≤ r = quota_fits m.kind m.asked v e k.form.asked in
          frame_then (frame_set s (s + slots_of m) w.log.area s 1 (omega arith) (omega arith))
          (frame_wider s (s + slots_of m) (omega arith) (omega arith)
          (frame_then (read_frame s 0 r v (addressed here true w).log.area (omega arith))
          (reads_frame f s 1 q (follow q v) (reads_one f s 0 q (addressed here true w)) r (omega arith))))

      go : (q : Bool) → Frame s (s + slots_of m) w.log.area (message_if here q w).log.area
      go true = carry (is_write m.kind) refl
      go false = frame_none s (s + slots_of m) _

  pub message_slot : Slot s 0 0 w.log.area
      → let q = answered here w in Slot s (cond q 1 0) (cond q (data_sent f (order_of m) w) 0) (message here w).log.area
  unfolding note read_mark
  message_slot h = go (answered here w)
    where
      carry : (o : Order) → Slot s 1 (data_sent f o w) (carried f s o (addressed here true w)).log.area
      carry (put ys) = slot_by (zero-add (length ys)) (writes_slot f s 1 0 ys (addressed here true w) (slot_flag s 0 0 w.log.area h))
      carry (get q) =
          slot_by (one (follow q (value_of f w.cells)))
          (reads_slot f s 1 1 q (follow q (value_of f w.cells)) (reads_one f s 0 q (addressed here true w))
          (read_slot s 1 0 (value_of f w.cells) (addressed here true w).log.area (slot_flag s 0 0 w.log.area h)))
        where
          one : (n : ℕ) → 1 + n ≡ suc n
          one n = omega arith

      go : (q : Bool) → Slot s (cond q 1 0) (cond q (data_sent f (order_of m) w) 0) (message_if here q w).log.area
      go true = carry (order_of m)
      go false = h
