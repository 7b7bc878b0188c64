-- What a transaction sent stands in its results: m and L by the list and the result area are m and L along the plain reading's course; and its outcome is
-- 0. Assumes nothing.
use Prim.Native.Nat.{ℕ, suc, ◌+◌, ◌≤◌, ◌<◌}
use mathlib.Core.Path.{◌≡◌, refl, ap, ap₂, sym, ◌∙◌, subst}
use mathlib.Core.Bool.{Bool, true, false, ◌||◌, not, cond, false≢true}
use mathlib.Core.List.{List, [], ◌∷◌}
use native.Mathlib.Omega.{arith}
use lib.Dec.{eqb}
use lib.ListN.{length, get_or, set}
use lib.Seq.{get_or-set_same, get_or-set_other}
use Rattle.kinds.specs.Kinds.{is_critical}
use Rattle.orders.specs.Form.{Message, Transaction}
use Rattle.orders.specs.Asking.{order_of}
use Rattle.orders.specs.Results.{Slotted, slots_of, slots_of_all, slotted}
use Rattle.orders.specs.Marks.{note}
use Rattle.plain.specs.Clock.{symbol}
use Rattle.plain.specs.Plain.{World, listening, answered, message, started, messages}
use Rattle.agreement.specs.Course.{here, batch_at, size_of, opened, transaction}
use Rattle.agreement.specs.Sums.{Sum, flagged, bytes_by, alone, with, sum_of, sum_in}
use Rattle.agreement.proofs.Right.{Right, Rights}
use Rattle.agreement.proofs.Tally.{data_sent, tally}
use Rattle.agreement.proofs.Frames.{Frame, frame_then, frame_wider, frame_set, Slot, message_frame, message_slot}

-- the places from lo to before hi hold 0
abbrev pub Blank : (lo hi : ℕ) → List ℕ → Type 0
Blank lo hi a = (i : ℕ) → lo ≤ i → i < hi → get_or a i 0 ≡ 0

-- two areas are the same there
abbrev pub Alike : (lo hi : ℕ) → List ℕ → List ℕ → Type 0
Alike lo hi a b = (i : ℕ) → lo ≤ i → i < hi → get_or b i 0 ≡ get_or a i 0

-- the sum looks at the messages' slots alone
pub sum_alike : (ms : List Message) (m : Message) (s : ℕ) (a b : List ℕ) → Alike s (s + slots_of_all (m ∷ ms)) a b
    → sum_of b (slotted (s + slots_of m) ms) (here s m) ≡ sum_of a (slotted (s + slots_of m) ms) (here s m)
unfolding sum_of slotted slots_of_all
sum_alike [] m s a b h = ap (λ (n : ℕ). alone (1 + n)) (h (s + 1) (omega arith) (omega arith))
sum_alike (n ∷ ms) m s a b h =
    join (h s (omega arith) (omega arith)) (h (s + 1) (omega arith) (omega arith)) (sum_alike ms n (s + slots_of m) a b (λ i l r. h i (omega arith) (omega arith)))
  where
    c : Bool
    c = not (is_critical m.kind)

    join : get_or b s 0 ≡ get_or a s 0 → get_or b (s + 1) 0 ≡ get_or a (s + 1) 0 → {x y : Sum} → x ≡ y
        → cond (not (eqb (get_or b s 0) 0) || c) (with (1 + get_or b (s + 1) 0) x) (alone (1 + get_or b (s + 1) 0))
        ≡ cond (not (eqb (get_or a s 0) 0) || c) (with (1 + get_or a (s + 1) 0) y) (alone (1 + get_or a (s + 1) 0))
    join e f g = rw (e, f, g)

-- what a message's slot says
slot_flagged : (s n : ℕ) (q : Bool) (m : Message) (a : List ℕ) → Slot s (cond q 1 0) n a → flagged a (here s m) ≡ q
slot_flagged s n q m a h = ap (λ (v : ℕ). not (eqb v 0)) h.flag ∙ go q
  where
    go : (q : Bool) → not (eqb (cond q 1 0) 0) ≡ q
    go true = refl
    go false = refl

slot_bytes : (s f n : ℕ) (m : Message) (a : List ℕ) → Slot s f n a → bytes_by a (here s m) ≡ suc n
slot_bytes s f n m a h = ap (λ (v : ℕ). 1 + v) h.count ∙ one n
  where
    one : (n : ℕ) → 1 + n ≡ suc n
    one n = omega arith

slot_framed : {s f n lo hi : ℕ} {a b : List ℕ} → s + 1 < lo → Frame lo hi a b → Slot s f n a → Slot s f n b
slot_framed {s} {lo = lo} l g h =
    record { flag = g.below s (omega arith) ∙ h.flag; count = g.below (s + 1) l ∙ h.count; room = subst (λ (k : ℕ). s + 1 < k) (sym g.size) h.room }

-- the messages of a transaction, from slot s on
pub messages_frame : (ms : List Message) (m : Message) (s : ℕ) (w : World) → Right m → Rights ms
    → Frame s (s + slots_of_all (m ∷ ms)) w.log.area (messages (slotted (s + slots_of m) ms) (here s m) w).log.area
unfolding messages slotted slots_of_all
messages_frame [] m s w k ks = frame_wider s (s + (slots_of m + 0)) (omega arith) (omega arith) (message_frame m s w k)
messages_frame (n ∷ ms) m s w k ks =
    go (answered (here s m) w || not (is_critical m.kind)) _
    (messages_frame ms n (s + slots_of m) (started (symbol (message (here s m) w).clock) (message (here s m) w)) ks.0 ks.1)
  where
    hi : ℕ
    hi = s + slots_of_all (m ∷ n ∷ ms)

    first : Frame s hi w.log.area (message (here s m) w).log.area
    first = frame_wider s hi (omega arith) (omega arith) (message_frame m s w k)

    go : (q : Bool) (r : World) → Frame (s + slots_of m) (s + slots_of m + slots_of_all (n ∷ ms)) (message (here s m) w).log.area r.log.area
        → Frame s hi w.log.area (cond q r (message (here s m) w)).log.area
    go true r f = frame_then first (frame_wider s hi (omega arith) (omega arith) f)
    go false r f = first

-- a message, of which q and n say whether it was answered and how many data bytes went by, and those after it
sum_step : (m : Message) (s n : ℕ) (q : Bool) (ms : List Slotted) (next : Slotted) (t : Sum) (b : Bool) (a : List ℕ)
    → Slot s (cond q 1 0) n a → (b ≡ true → sum_of a ms next ≡ t) → q || not (is_critical m.kind) ≡ b
    → cond (flagged a (here s m) || not (is_critical m.kind)) (with (bytes_by a (here s m)) (sum_of a ms next)) (alone (bytes_by a (here s m)))
    ≡ cond b (with (suc n) t) (alone (suc n))
sum_step m s n q ms next t b a h f e =
    ap₂ (λ (v : Bool) (k : ℕ). cond (v || not (is_critical m.kind)) (with k (sum_of a ms next)) (alone k)) (slot_flagged s n q m a h) (slot_bytes s (cond q 1 0) n m a h)
    ∙ ap (λ (v : Bool). cond v (with (suc n) (sum_of a ms next)) (alone (suc n))) e ∙ go b f
  where
    go : (b : Bool) → (b ≡ true → sum_of a ms next ≡ t) → cond b (with (suc n) (sum_of a ms next)) (alone (suc n)) ≡ cond b (with (suc n) t) (alone (suc n))
    go true f = ap (with (suc n)) (f refl)
    go false f = refl

blank_slot : (m : Message) (s hi : ℕ) (a : List ℕ) → s + slots_of m ≤ hi → hi ≤ length a → Blank s hi a → Slot s 0 0 a
blank_slot m s hi a l r z = record { flag = z s (omega arith) (omega arith); count = z (s + 1) (omega arith) (omega arith); room = omega arith }

pub messages_sum : (ms : List Message) (m : Message) (s : ℕ) (w : World) → Right m → Rights ms
    → Blank s (s + slots_of_all (m ∷ ms)) w.log.area → s + slots_of_all (m ∷ ms) ≤ length w.log.area
    → sum_of (messages (slotted (s + slots_of m) ms) (here s m) w).log.area (slotted (s + slots_of m) ms) (here s m)
    ≡ tally (slotted (s + slots_of m) ms) (here s m) w
unfolding messages slotted slots_of_all sum_of tally
messages_sum [] m s w k ks z l =
    ap alone (slot_bytes s _ _ m _ (message_slot m s w (blank_slot m s (s + slots_of_all (m ∷ [])) w.log.area (omega arith) l z)))
messages_sum (n ∷ ms) m s w k ks z l =
    go (answered (here s m) w || not (is_critical m.kind)) refl
    (messages_frame ms n (s + slots_of m) v ks.0 ks.1)
    (messages_sum ms n (s + slots_of m) v ks.0 ks.1 (λ i g h. f.above i g ∙ z i (omega arith) (omega arith))
    (subst (λ (x : ℕ). s + slots_of m + slots_of_all (n ∷ ms) ≤ x) (sym f.size) (omega arith)))
  where
    v : World
    v = started (symbol (message (here s m) w).clock) (message (here s m) w)

    r : World
    r = messages (slotted (s + slots_of m + slots_of n) ms) (here (s + slots_of m) n) v

    f : Frame s (s + slots_of m) w.log.area (message (here s m) w).log.area
    f = message_frame m s w k

    q : Bool
    q = answered (here s m) w

    c : ℕ
    c = cond q (data_sent (listening (here s m) w) (order_of m) w) 0

    h : Slot s (cond q 1 0) c (message (here s m) w).log.area
    h = message_slot m s w (blank_slot m s (s + slots_of_all (m ∷ n ∷ ms)) w.log.area (omega arith) l z)

    others : List Slotted
    others = slotted (s + slots_of m + slots_of n) ms

    next : Slotted
    next = here (s + slots_of m) n

    go : (b : Bool) → q || not (is_critical m.kind) ≡ b
        → Frame (s + slots_of m) (s + slots_of m + slots_of_all (n ∷ ms)) (message (here s m) w).log.area r.log.area
        → sum_of r.log.area others next ≡ tally others next v
        → let a = (cond b r (message (here s m) w)).log.area in
        cond (flagged a (here s m) || not (is_critical m.kind)) (with (bytes_by a (here s m)) (sum_of a others next)) (alone (bytes_by a (here s m)))
        ≡ cond b (with (suc c) (tally others next v)) (alone (suc c))
    go true e g i = sum_step m s c q others next (tally others next v) true r.log.area (slot_framed (omega arith) g h) (λ x. i) e
    go false e g i = sum_step m s c q others next (tally others next v) false (message (here s m) w).log.area h (λ x. absurd (false≢true x)) e

module _ (asked : ℕ) (t : Transaction) (top : ℕ) (w : World) (k : Right t.first) (ks : Rights t.others) where
  abbrev sent : World
  sent = messages (slotted (top + 1 + slots_of t.first) t.others) (here (top + 1) t.first) (opened (batch_at top t) w)

  sent_frame : Frame (top + 1) (top + 1 + slots_of_all (t.first ∷ t.others)) w.log.area sent.log.area
  sent_frame = messages_frame t.others t.first (top + 1) (opened (batch_at top t) w) k ks

  pub transaction_frame : Frame top (top + size_of t) w.log.area (transaction asked (batch_at top t) w).log.area
  unfolding note
  transaction_frame =
      frame_then (frame_wider top (top + size_of t) (omega arith) (omega arith) sent_frame) (frame_set top (top + size_of t) sent.log.area top 0 (omega arith) (omega arith))

  pub transaction_outcome : top < length w.log.area → get_or (transaction asked (batch_at top t) w).log.area top 0 ≡ 0
  unfolding note
  transaction_outcome l = get_or-set_same sent.log.area top 0 0 (subst (λ (n : ℕ). top < n) (sym sent_frame.size) l)

  pub transaction_sum : Blank (top + 1) (top + size_of t) w.log.area → top + size_of t ≤ length w.log.area
      → sum_in (transaction asked (batch_at top t) w).log.area (batch_at top t) ≡ tally (batch_at top t).others (batch_at top t).first (opened (batch_at top t) w)
  unfolding note
  transaction_sum z l =
      sum_alike t.others t.first (top + 1) sent.log.area (set sent.log.area top 0) (λ i g h. get_or-set_other sent.log.area top i 0 0 (λ e. omega arith))
      ∙ messages_sum t.others t.first (top + 1) (opened (batch_at top t) w) k ks (λ i g h. z i (omega arith) (omega arith)) (omega arith)
