-- The plain reading of a whole list: its ticks by the list, the results and the holds, its outcomes, what it leaves of the result area, and that its ticks
-- stay below the list's own bound. Assumes nothing.
use Prim.Native.Nat.{ℕ, ◌+◌, ◌≤◌}
use mathlib.Core.Path.{◌≡◌, ap, ap₂, sym, ◌∙◌, subst}
use mathlib.Core.List.{List, [], ◌∷◌}
use native.Mathlib.Omega.{arith}
use lib.ListN.{length, drop}
use Rattle.orders.specs.Form.{Transaction}
use Rattle.orders.specs.Results.{Batch, area_of, batches}
use Rattle.plain.specs.Plain.{World, transactions}
use Rattle.agreement.specs.Course.{batch_at, size_of, opened, transaction}
use Rattle.agreement.specs.Sums.{Sum, sum_in, clocked_in, ticks_of, ticks_all}
use Rattle.agreement.specs.Outcomes.{AllClosed}
use Rattle.agreement.proofs.Right.{RightAll}
use Rattle.agreement.proofs.Tally.{tally, ticks_by_tally, holds_by_tally}
use Rattle.agreement.proofs.Frames.{Frame, frame_none, frame_then, frame_wider}
use Rattle.agreement.proofs.Sent.{Blank, sum_alike, transaction_frame, transaction_outcome, transaction_sum}

-- the slots of all messages hold 0
abbrev pub Ready : ℕ → List Transaction → List ℕ → Type 0
Ready top [] a = Unit {0}
Ready top (t ∷ ts) a = Blank (top + 1) (top + size_of t) a × Ready (top + size_of t) ts a

ready_framed : (ts : List Transaction) (top : ℕ) {lo hi : ℕ} {a b : List ℕ} → Frame lo hi a b → hi ≤ top → Ready top ts a → Ready top ts b
ready_framed [] top f l r = tt
ready_framed (t ∷ ts) top f l r = (λ i g h. f.above i (omega arith) ∙ r.0 i g h, ready_framed ts (top + size_of t) f (omega arith) r.1)

module _ (asked : ℕ) where
  -- only the list's own part of the area changes
  pub list_frame : (ts : List Transaction) (top : ℕ) (w : World) → RightAll ts
      → Frame top (top + area_of ts) w.log.area (transactions asked (batches top ts) w).log.area
  unfolding transactions batches area_of
  list_frame [] top w k = frame_none top (top + 0) w.log.area
  list_frame (t ∷ ts) top w k =
      frame_then (frame_wider top (top + area_of (t ∷ ts)) (omega arith) (omega arith) (transaction_frame asked t top w k.0 k.1))
      (frame_wider top (top + area_of (t ∷ ts)) (omega arith) (omega arith) (list_frame ts (top + size_of t) (transaction asked (batch_at top t) w) k.2))

  pub list_closed : (ts : List Transaction) (top : ℕ) (w : World) → RightAll ts → top + area_of ts ≤ length w.log.area
      → AllClosed (transactions asked (batches top ts) w).log.area (batches top ts)
  unfolding transactions batches area_of
  list_closed [] top w k l = tt
  list_closed (t ∷ ts) top w k l = (
    (list_frame ts (top + size_of t) v k.2).below top (omega arith) ∙ transaction_outcome asked t top w k.0 k.1 (omega arith),
    list_closed ts (top + size_of t) v k.2 (subst (λ (n : ℕ). top + size_of t + area_of ts ≤ n) (sym (transaction_frame asked t top w k.0 k.1).size) (omega arith)),
  )
    where
      v : World
      v = transaction asked (batch_at top t) w

  -- m and L of a transaction stand in the list's last results
  sum_stays : (t : Transaction) (ts : List Transaction) (top : ℕ) (w : World) → RightAll (t ∷ ts) → Blank (top + 1) (top + size_of t) w.log.area
      → top + size_of t ≤ length w.log.area
      → tally (batch_at top t).others (batch_at top t).first (opened (batch_at top t) w)
      ≡ sum_in (transactions asked (batches (top + size_of t) ts) (transaction asked (batch_at top t) w)).log.area (batch_at top t)
  sum_stays t ts top w k z l =
      sym (sum_alike t.others t.first (top + 1) v.log.area (transactions asked (batches (top + size_of t) ts) v).log.area
      (λ i g h. (list_frame ts (top + size_of t) v k.2).below i (omega arith))
      ∙ transaction_sum asked t top w k.0 k.1 z l)
    where
      v : World
      v = transaction asked (batch_at top t) w

  pub list_ticks : (ts : List Transaction) (top : ℕ) (w : World) → RightAll ts → Ready top ts w.log.area → top + area_of ts ≤ length w.log.area
      → let e = transactions asked (batches top ts) w in e.clock.now ≡ w.clock.now + ticks_all e.log.area w.clock.holds (batches top ts)
  unfolding transactions batches area_of ticks_all
  list_ticks [] top w k r l = omega arith
  list_ticks (t ∷ ts) top w k r l =
      list_ticks ts (top + size_of t) v k.2 (ready_framed ts (top + size_of t) f (omega arith) r.1)
      (subst (λ (n : ℕ). top + size_of t + area_of ts ≤ n) (sym f.size) (omega arith))
      ∙ ap₂ (λ (n : ℕ) (hs : List ℕ). n + ticks_all a hs (batches (top + size_of t) ts)) (ticks_by_tally asked b w) (holds_by_tally asked b w)
      ∙ ap (λ (s : Sum). w.clock.now + ticks_of t.wait s w.clock.holds + ticks_all a (drop (clocked_in s) w.clock.holds) (batches (top + size_of t) ts))
      (sum_stays t ts top w k r.0 (omega arith))
      ∙ join w.clock.now (ticks_of t.wait (sum_in a b) w.clock.holds) (ticks_all a (drop (clocked_in (sum_in a b)) w.clock.holds) (batches (top + size_of t) ts))
    where
      b : Batch
      b = batch_at top t

      v : World
      v = transaction asked b w

      a : List ℕ
      a = (transactions asked (batches (top + size_of t) ts) v).log.area

      f : Frame top (top + size_of t) w.log.area v.log.area
      f = transaction_frame asked t top w k.0 k.1

      join : (x y z : ℕ) → x + y + z ≡ x + (y + z)
      join x y z = omega arith
