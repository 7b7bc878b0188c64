-- The plain reading never takes more ticks than the list's own bound. Assumes nothing.
use Prim.Native.Nat.{ℕ, zero, suc, ◌+◌, ◌*◌, ◌≤◌}
use mathlib.Core.Path.{◌≡◌, refl, sym, subst}
use mathlib.Core.Bool.{Bool, true, false, ◌||◌, not, cond}
use mathlib.Core.List.{List, [], ◌∷◌}
use native.Mathlib.Omega.{arith}
use native.Mathlib.Nat.{mul-le-mul_left}
use lib.ListN.{length, drop}
use Rattle.lines.specs.Levels.{most_held}
use Rattle.kinds.specs.Kinds.{is_write, is_critical, data_of, asked_of, quota_of}
use Rattle.orders.specs.Form.{Message, Transaction}
use Rattle.orders.specs.Asking.{put, get, order_of}
use Rattle.orders.specs.Results.{Batch, slots_of, slotted, batches}
use Rattle.controller.specs.Bound.{bytes_of, clocked_of, most_ticks}
use Rattle.plain.specs.Clock.{symbol}
use Rattle.plain.specs.Plain.{World, value_of, listening, answered, message, started, transactions}
use Rattle.agreement.specs.Course.{here, batch_at, size_of, opened, transaction}
use Rattle.agreement.specs.Sums.{Sum, alone, with, clocked_in, ticks_of}
use Rattle.agreement.proofs.Quotas.{quota_fits}
use Rattle.agreement.proofs.Standing.{Small, small_later}
use Rattle.agreement.proofs.Right.{Right, Rights, RightAll}
use Rattle.agreement.proofs.Tally.{data_sent, bytes_sent, tally, ticks_by_tally, holds_by_tally, ticks_bound}

bytes_bound : (m : Message) (s : ℕ) (w : World) → Right m → bytes_sent (here s m) w ≤ bytes_of m
bytes_bound m s w k = go (answered (here s m) w)
  where
    d : ℕ
    d = data_of m.kind m.asked

    r : ℕ
    r = asked_of m.kind m.asked

    least : (d r : ℕ) → suc 0 ≤ 1 + d + r
    least d r = omega arith

    put_fits : (n d r : ℕ) → n ≡ d → suc n ≤ 1 + d + r
    put_fits n d r e = omega arith

    get_fits : (n d r : ℕ) → n ≤ r → suc n ≤ 1 + d + r
    get_fits n d r l = omega arith

    carry : (q : Bool) → is_write m.kind ≡ q → suc (data_sent (listening (here s m) w) (cond q (put m.sent) (get (quota_of m.kind m.asked))) w) ≤ 1 + d + r
    carry true e = put_fits (length m.sent) d r k.form.sent
    carry false e = get_fits _ d r (quota_fits m.kind m.asked (value_of (listening (here s m) w) w.cells) e k.form.asked)

    go : (q : Bool) → suc (cond q (data_sent (listening (here s m) w) (order_of m) w) 0) ≤ 1 + d + r
    go true = carry (is_write m.kind) refl
    go false = least d r

tally_bound : (ms : List Message) (m : Message) (s : ℕ) (w : World) → Right m → Rights ms
    → clocked_in (tally (slotted (s + slots_of m) ms) (here s m) w) ≤ clocked_of (m ∷ ms)
unfolding tally slotted clocked_of
tally_bound [] m s w k ks = let b : bytes_sent (here s m) w ≤ bytes_of m = bytes_bound m s w k in last (bytes_sent (here s m) w) (bytes_of m) b
  where
    last : (x y : ℕ) → x ≤ y → 1 + 9 * x ≤ 1 + 9 * y + 0
    last x y l = omega arith
tally_bound (n ∷ ms) m s w k ks =
    go (answered (here s m) w || not (is_critical m.kind)) (bytes_sent (here s m) w) _ (bytes_bound m s w k)
    (tally_bound ms n (s + slots_of m) (started (symbol (message (here s m) w).clock) (message (here s m) w)) ks.0 ks.1)
  where
    more : (x y j b c : ℕ) → x ≤ y → j + 9 * b ≤ c → suc j + 9 * (x + b) ≤ 1 + 9 * y + c
    more x y j b c l h = omega arith

    last : (x y c : ℕ) → x ≤ y → 1 + 9 * x ≤ 1 + 9 * y + c
    last x y c l = omega arith

    go : (q : Bool) (x : ℕ) (t : Sum) → x ≤ bytes_of m → clocked_in t ≤ clocked_of (n ∷ ms)
        → clocked_in (cond q (with x t) (alone x)) ≤ 1 + 9 * bytes_of m + clocked_of (n ∷ ms)
    go true x t l h = more x (bytes_of m) t.messages t.bytes (clocked_of (n ∷ ms)) l h
    go false x t l h = last x (bytes_of m) (clocked_of (n ∷ ms)) l

pub small_drop : (n : ℕ) (hs : List ℕ) → Small hs → Small (drop n hs)
small_drop zero hs s = s
small_drop (suc n) [] s = s
small_drop (suc n) (h ∷ hs) s = small_drop n hs (small_later (h ∷ hs) s)

pub list_bound : (asked : ℕ) (ts : List Transaction) (top : ℕ) (w : World) → RightAll ts → Small w.clock.holds
    → (transactions asked (batches top ts) w).clock.now ≤ w.clock.now + most_ticks ts
unfolding transactions batches most_ticks
list_bound asked [] top w k s = omega arith
list_bound asked (t ∷ ts) top w k s =
    join w.clock.now (ticks_of t.wait c w.clock.holds) t.wait (clocked_in c) (clocked_of (t.first ∷ t.others)) (4 + most_held) (most_ticks ts) _ _
    (list_bound asked ts (top + size_of t) v k.2 (subst Small (sym (holds_by_tally asked b w)) (small_drop (clocked_in c) w.clock.holds s)))
    (ticks_by_tally asked b w) (ticks_bound t.wait c w.clock.holds s) (tally_bound t.others t.first (top + 1) (opened b w) k.0 k.1)
  where
    b : Batch
    b = batch_at top t

    v : World
    v = transaction asked b w

    c : Sum
    c = tally b.others b.first (opened b w)

    join : (n x k i j h r e m : ℕ) → e ≤ m + r → m ≡ n + x → x ≤ k + (h * i + 4) → i ≤ j → e ≤ n + (k + 4 + h * j + r)
    join n x k i j h r e m a p l o = omega (arith, mul-le-mul_left h o)
