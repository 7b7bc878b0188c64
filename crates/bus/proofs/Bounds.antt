-- The run of an accepted list is over by the list's own bound, and that bound lies far below the number at which the code's loop would stop.
-- Assumes nothing.
use Prim.Native.Nat.{ℕ, zero, suc, ◌+◌, ◌-◌, ◌*◌, ◌≤◌, ◌<◌}
use native.Mathlib.Omega.{arith}
use mathlib.Core.Path.{◌≡◌, refl, ap, ◌∙◌}
use mathlib.Core.Bool.{Bool, true, false}
use mathlib.Core.List.{List}
use Rattle.std.proofs.Common.{Ok}
use lib.ListN.{length}
use Rattle.lines.specs.Levels.{most_held}
use Rattle.kinds.proofs.KindLaws.{few_data, few_asked, most_bytes_lem}
use Rattle.orders.specs.Form.{Message, Transaction, whole, message_at, transactions_of}
use Rattle.orders.specs.Bytes.{Bytes}
use Rattle.orders.specs.Results.{check_of}
use Rattle.orders.specs.Places.{Stands, ended, begins, follows}
use Rattle.orders.proofs.Stands.{holds}
use Rattle.orders.proofs.WholeMessage.{message_inv}
use Rattle.symbols.specs.Symbols.{is_over}
use Rattle.symbols.specs.Ticks.{control_tick}
use Rattle.symbols.proofs.Moves.{stays}
use Rattle.controller.specs.Plan.{State, orders}
use Rattle.controller.specs.Bound.{bytes_of, clocked_of, most_ticks}
use Rattle.controller.proofs.Bound.{left_of, falls}
use Rattle.wires.specs.Wires.{Bus, lines_on, tick, after}
use Rattle.wires.specs.Inside.{limit}

module _ (asked : ℕ) where
  over_stays : (n : ℕ) (b : Bus State) → is_over b.control.phase ≡ true → is_over (after orders asked n b).control.phase ≡ true
  unfolding after tick
  over_stays zero b e = e
  over_stays (suc n) b e =
      over_stays n (tick orders asked b) (ap (λ (c : _). is_over c.phase) (stays orders (lines_on orders asked b) b.control e) ∙ e)

  -- each tick leaves fewer
  pub over_in_time : (n : ℕ) (b : Bus State) → left_of b.control ≤ n → is_over (after orders asked n b).control.phase ≡ true
  unfolding after tick
  over_in_time zero b h = go (is_over b.control.phase) refl
    where
      go : (o : Bool) → is_over b.control.phase ≡ o → is_over b.control.phase ≡ true
      go true e = e
      go false e =
          let f : left_of (control_tick orders (lines_on orders asked b) b.control) < left_of b.control = falls (lines_on orders asked b) b.control e in
          absurd (omega arith)
  over_in_time (suc n) b h = go (is_over b.control.phase) refl (over_in_time n (tick orders asked b))
    where
      go : (o : Bool) → is_over b.control.phase ≡ o
          → (left_of (control_tick orders (lines_on orders asked b) b.control) ≤ n → is_over (after orders asked n (tick orders asked b)).control.phase ≡ true)
          → is_over (after orders asked n (tick orders asked b)).control.phase ≡ true
      go true e more = over_stays (suc n) b e
      go false e more =
          let f : left_of (control_tick orders (lines_on orders asked b) b.control) < left_of b.control = falls (lines_on orders asked b) b.control e in
          more (omega arith)

-- what a message can take
message_few : (s : List ℕ) (p : ℕ) (m : Message) (q : ℕ) → message_at s p ≡ whole m q → (bytes_of m ≤ 511) × (p + 3 ≤ q) × (q ≤ length s)
message_few s p m q i =
    let r = message_inv s p m q i in
    let n = r.next in
    let o = r.room in
    let a = few_asked m.kind m.asked r.right_length in
    let d = few_data m.kind m.asked r.right_length in
    (omega arith, omega arith, o)

pub most_small : {s : List ℕ} {p : ℕ} {ms : List Message} {ts : List Transaction} → Bytes s → Stands s p ms ts
    → most_ticks ts + 20 * clocked_of ms ≤ 65536 * (length s - p)
unfolding most_ticks clocked_of most_held Bytes
most_small b (ended h) = omega arith
most_small {s} b (begins {p} {q} {m} {ms} {ts} h c k i st) =
    let f = message_few s (p + 3) m q i in
    let r = most_small b st in
    let x = b (p + 1) in
    let y = b (p + 2) in
    omega arith
most_small {s} b (follows {p} {q} {m} {ms} {ts} i st) =
    let f = message_few s p m q i in
    let r = most_small b st in
    omega arith

pub most_within : (list : List ℕ) (size : ℕ) → Bytes list → check_of list ≡ Ok size → most_ticks (transactions_of list) ≤ limit
unfolding clocked_of
most_within list size b e =
    let o = holds list size e in
    let m = most_small b o.stands in
    let s = o.short in
    let t = most_bytes_lem in
    omega arith
