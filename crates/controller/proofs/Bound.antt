-- Whatever the lines do, the controller is at its end after at most `most_ticks` of its list: the ticks that are left at most fall by one in every tick.
-- Assumes nothing.
use Prim.Native.Nat.{ℕ, zero, suc, ◌+◌, ◌-◌, ◌*◌, ◌<◌, ◌≤◌}
use mathlib.Core.Path.{◌≡◌, refl, ap, sym, ◌∙◌}
use mathlib.Core.Bool.{Bool, true, false, not, ◌&&◌, cond, true≢false}
use mathlib.Core.List.{List, [], ◌∷◌}
use native.Mathlib.Omega.{arith}
use borrow.Author.Tests.{leb-false}
use lib.Dec.{leb}
use Rattle.std.proofs.Common.{Option, Some, None, Ok}
use lib.ListN.{length, take, drop, length-take, length-drop}
use Rattle.lines.specs.Levels.{released, lines_of, most_held}
use Rattle.lines.specs.Records.{walk}
use Rattle.lines.specs.declared.Lines.{Lines}
use Rattle.kinds.specs.Kinds.{is_write, is_critical, length_right, data_of, asked_of, quota_of, follow, remain}
use Rattle.kinds.specs.declared.Quota.{Quota}
use Rattle.kinds.proofs.KindLaws.{some_asked}
use Rattle.orders.specs.Form.{Message, Transaction, whole, message_at, transactions_of}
use Rattle.orders.specs.Places.{Stands, ended, begins, follows}
use Rattle.orders.specs.Asking.{Order, put, get, order_of}
use Rattle.orders.specs.Results.{Slotted, Batch, slots_of, slots_of_all, slotted, batches, start_area, check_of}
use Rattle.orders.specs.Marks.{Log}
use Rattle.orders.proofs.WholeMessage.{message_inv}
use Rattle.orders.proofs.Stands.{holds}
use Rattle.symbols.specs.Symbols.{drives, is_over}
use Rattle.symbols.specs.Faults.{is_first, is_taken, is_stuck, fault_of}
use Rattle.symbols.specs.Ticks.{enter, Control, move, settle, control_tick}
use Rattle.symbols.specs.declared.Symbol.{Symbol}
use Rattle.symbols.specs.declared.Fault.{Fault}
use Rattle.symbols.specs.declared.Phase.{Phase}
use Rattle.symbols.specs.declared.Phase.TheVariants.{Over, Waiting, Zero, One, Two, Three}
use Rattle.symbols.proofs.Moves.{clear_free, clear_running}
use Rattle.controller.specs.Plan.{Job, opening, reopening, closing, finished, addressing, addressed, writing, wrote, reading, answering, Context, State, asks, does, go_on, refused, writes, reads, carries, opens, step, orders}
use Rattle.controller.specs.Bound.{clocked_of, most_ticks}
use Rattle.controller.specs.Alone.{party, at_first}
use Rattle.controller.proofs.Record.{walk_over}

-- a clocked symbol takes at most this; nine of them are a byte
unfoldable symbol_most : ℕ
symbol_most = 4 + most_held

unfoldable byte_most : ℕ
byte_most = 9 * symbol_most

abbrev data_most : Order → ℕ
data_most (put ys) = byte_most * length ys
data_most (get q) = byte_most * suc q.more

-- the messages after the one under way: each has its START, its address and its data
unfoldable todo_most : List Slotted → ℕ
todo_most [] = 0
todo_most (m ∷ ms) = symbol_most + byte_most + data_most (order_of m.message) + todo_most ms

-- the transactions after the one under way
unfoldable later_most : List Batch → ℕ
later_most [] = 0
later_most (t ∷ ts) = t.wait + 4 + byte_most + data_most (order_of t.first.message) + todo_most t.others + symbol_most + later_most ts

-- what is left once the message under way is over
abbrev rest_most : Context → ℕ
rest_most x = todo_most x.todo + symbol_most + later_most x.later

-- the ticks that follow the symbol under way at most
abbrev then_most : Job → Context → ℕ
then_most (opening w) x = byte_most + data_most (order_of x.now.message) + rest_most x
then_most reopening x = byte_most + data_most (order_of x.now.message) + rest_most x
then_most closing x = later_most x.later
then_most finished x = 0
then_most (addressing k) x = symbol_most * suc k + data_most (order_of x.now.message) + rest_most x
then_most addressed x = data_most (order_of x.now.message) + rest_most x
then_most (writing k n y ys) x = symbol_most * suc k + byte_most * length ys + rest_most x
then_most (wrote n y ys) x = byte_most * length ys + rest_most x
then_most (reading k n y q) x = symbol_most * suc k + byte_most * q.more + rest_most x
then_most (answering n y q) x = byte_most * q.more + rest_most x

-- the ticks of the symbol under way that are left at most, this one included
abbrev symbol_left : Bool → ℕ → ℕ
symbol_left true n = 2
symbol_left false n = suc (most_held - n) + 1

abbrev phase_most : Phase → ℕ
phase_most (Over f) = 0
phase_most (Waiting n) = suc n + 4
phase_most (Zero s) = 2 + symbol_left (is_first s) 0
phase_most (One s) = 1 + symbol_left (is_first s) 0
phase_most (Two s n) = symbol_left (is_first s) n
phase_most (Three s w) = 1

abbrev left_in : Phase → State → ℕ
left_in (Over f) s = 0
left_in (Waiting n) s = phase_most (Waiting n) + then_most s.job s.context
left_in (Zero y) s = phase_most (Zero y) + then_most s.job s.context
left_in (One y) s = phase_most (One y) + then_most s.job s.context
left_in (Two y n) s = phase_most (Two y n) + then_most s.job s.context
left_in (Three y w) s = phase_most (Three y w) + then_most s.job s.context

-- the ticks that are left at most
pub left_of : Control State → ℕ
left_of c = left_in c.phase c.plan

-- where a symbol begins
abbrev start_most : Job → Context → ℕ
start_most (opening w) x = w + 4 + then_most (opening w) x
start_most reopening x = symbol_most + then_most reopening x
start_most closing x = symbol_most + then_most closing x
start_most finished x = 0
start_most (addressing k) x = symbol_most + then_most (addressing k) x
start_most addressed x = symbol_most + then_most addressed x
start_most (writing k n y ys) x = symbol_most + then_most (writing k n y ys) x
start_most (wrote n y ys) x = symbol_most + then_most (wrote n y ys) x
start_most (reading k n y q) x = symbol_most + then_most (reading k n y q) x
start_most (answering n y q) x = symbol_most + then_most (answering n y q) x

abbrev start_of : State → ℕ
start_of s = start_most s.job s.context

clocked_most : (n : ℕ) → 2 + (suc (most_held - 0) + 1) + n ≡ symbol_most + n
unfolding symbol_most most_held
clocked_most n = omega arith

asked_most : (j : Job) (x : Context) → left_in (enter (asks j x)) (does j x) ≡ start_most j x
asked_most (opening zero) x = first_most (then_most (opening 0) x)
  where
    first_most : (n : ℕ) → 2 + 2 + n ≡ 0 + 4 + n
    first_most n = omega arith
asked_most (opening (suc w)) x = refl
asked_most reopening x = clocked_most _
asked_most closing x = clocked_most _
asked_most finished x = refl
asked_most (addressing k) x = clocked_most _
asked_most addressed x = clocked_most _
asked_most (writing k n y ys) x = clocked_most _
asked_most (wrote n y ys) x = clocked_most _
asked_most (reading k n y q) x = clocked_most _
asked_most (answering n y q) x = clocked_most _

-- after a symbol no more is left than was foreseen
goes_on_lem : (todo : List Slotted) (x : Context) → start_of (go_on todo x) ≤ todo_most todo + symbol_most + later_most x.later
unfolding todo_most
goes_on_lem [] x = omega arith
goes_on_lem (m ∷ ms) x = omega arith

refuses : (x : Context) → start_of (refused x) ≤ rest_most x
refuses x = go (is_critical x.now.message.kind)
  where
    go : (b : Bool) → start_of (cond b (does closing x) (go_on x.todo x)) ≤ rest_most x
    go true = omega arith
    go false = goes_on_lem x.todo x

writes_on : (n : ℕ) (ys : List ℕ) (x : Context) → start_of (writes n ys x) ≤ byte_most * length ys + rest_most x
unfolding symbol_most byte_most most_held
writes_on n [] x = let g = goes_on_lem x.todo x in omega arith
writes_on n (y ∷ ys) x = omega arith

reads_on : (n : ℕ) (q : Quota) (m : ℕ) (x : Context) → start_of (reads n q m x) ≤ byte_most * m + rest_most x
unfolding symbol_most byte_most most_held remain
reads_on n q zero x = let g = goes_on_lem x.todo x in omega arith
reads_on n q (suc m) x = omega arith

carries_on_lem : (o : Order) (x : Context) → start_of (carries o x) ≤ data_most o + rest_most x
unfolding symbol_most byte_most most_held
carries_on_lem (put ys) x = writes_on 0 ys x
carries_on_lem (get q) x = omega arith

opens_most : (ts : List Batch) (l : Log) → start_of (opens ts l) ≤ later_most ts
unfolding later_most
opens_most [] l = omega arith
opens_most (t ∷ ts) l = omega arith

above : (a b c : ℕ) → a ≤ b → a ≤ c + b
above a b c h = omega arith

steps_most : (j : Job) (v : Bool) (x : Context) → start_of (step j v x) ≤ then_most j x
unfolding symbol_most byte_most most_held follow
steps_most (opening w) v x = omega arith
steps_most reopening v x = omega arith
steps_most closing v x = opens_most x.later _
steps_most finished v x = omega arith
steps_most (addressing zero) v x = omega arith
steps_most (addressing (suc k)) v x = omega arith
steps_most addressed true x = above _ _ _ (refuses _)
steps_most addressed false x = carries_on_lem (order_of x.now.message) _
steps_most (writing zero n y ys) v x = omega arith
steps_most (writing (suc k) n y ys) v x = omega arith
steps_most (wrote n y ys) true x = above _ _ _ (refuses _)
steps_most (wrote n y ys) false x = writes_on (suc n) ys _
steps_most (reading zero n y q) v x = omega arith
steps_most (reading (suc k) n y q) v x = omega arith
steps_most (answering n y q) v x = reads_on (suc n) q q.more _

-- before its end some tick is left
some_left : (ph : Phase) (s : State) → is_over ph ≡ false → 0 < left_in ph s
some_left (Over f) s h = absurd (true≢false h)
some_left (Waiting n) s h = omega arith
some_left (Zero y) s h = omega arith
some_left (One y) s h = omega arith
some_left (Two y n) s h = go (is_first y)
  where
    go : (b : Bool) → 0 < symbol_left b n + then_most s.job s.context
    go true = omega arith
    go false = omega arith
some_left (Three y w) s h = omega arith

module _ (l : Lines) (p : Bool) (s : State) where
  abbrev at : Phase → Control State
  at ph = record { phase = ph; was = p; plan = s }

  -- phase 2: SCL is seen 1, or one more tick is held
  two_falls : (y : Symbol) (n : ℕ) → is_taken (Two y n) l ≡ false → is_stuck (Two y n) l ≡ false
      → left_in (cond l.scl (Three y l.sda) (Two y (suc n))) s < left_in (Two y n) s
  two_falls y n = go l.scl l.sda (is_first y) refl
    where
      rest : ℕ
      rest = then_most s.job s.context

      go : (c d b : Bool) → is_first y ≡ b → (b && not (c && d)) ≡ false → (not c && leb most_held n) ≡ false
          → left_in (cond c (Three y d) (Two y (suc n))) s < symbol_left b n + rest
      go true d true e f r = omega arith
      go true d false e f r = omega arith
      go false d true e f r = absurd (true≢false f)
      go false d false e f r = let h : n < most_held = leb-false most_held n r in rw e (omega arith)

  moves_fall : (ph : Phase) → is_over ph ≡ false → fault_of ph p l ≡ None → left_of (move orders ph l (at ph)) < left_in ph s
  unfolding left_of
  moves_fall (Over f) h c = absurd (true≢false h)
  moves_fall (Waiting zero) h c = omega arith
  moves_fall (Waiting (suc n)) h c = omega arith
  moves_fall (Zero y) h c = omega arith
  moves_fall (One y) h c = omega arith
  moves_fall (Two y n) h c = two_falls y n (clear_free (Two y n) p l c) (clear_running (Two y n) p l c)
  moves_fall (Three y w) h c =
      let n : State = step s.job l.sda s.context in
      let g = steps_most s.job l.sda s.context in
      rw (asked_most n.job n.context) (omega arith)

  tick_falls : (ph : Phase) → is_over ph ≡ false → left_of (control_tick orders l (at ph)) < left_in ph s
  unfolding control_tick left_of
  tick_falls ph h = go (fault_of ph p l) refl
    where
      go : (f : Option Fault) → f ≡ fault_of ph p l → left_of (settle orders f l (at ph)) < left_in ph s
      go None e = moves_fall ph h (sym e)
      go (Some f) e = some_left ph s h

-- in every tick before its end, whatever the lines are
pub falls : (l : Lines) (c : Control State) → is_over c.phase ≡ false → left_of (control_tick orders l c) < left_of c
unfolding left_of
falls l c h = tick_falls l c.was c.plan c.phase h

-- so a record that has these ticks brings it to its end, where it stays and lets go of both lines
pub ends : (samples : List ℕ) (c : Control State) → left_of c ≤ length samples → is_over (walk (party orders) samples c).phase ≡ true
unfolding walk left_of
ends [] c h = go (is_over c.phase) refl
  where
    go : (b : Bool) → is_over c.phase ≡ b → is_over c.phase ≡ true
    go true e = e
    go false e = let k = some_left c.phase c.plan e in absurd (omega arith)
ends (x ∷ xs) c h = go (is_over c.phase) refl (ends xs (control_tick orders (lines_of x) c))
  where
    less : (a b n : ℕ) → a < b → b ≤ suc n → a ≤ n
    less a b n f h = omega arith

    go : (b : Bool) → is_over c.phase ≡ b
        → (left_of (control_tick orders (lines_of x) c) ≤ length xs → is_over (walk (party orders) xs (control_tick orders (lines_of x) c)).phase ≡ true)
        → is_over (walk (party orders) xs (control_tick orders (lines_of x) c)).phase ≡ true
    go true e more = ap (λ (d : Control State). is_over d.phase) (walk_over orders (x ∷ xs) c e) ∙ e
    go false e more = let f : left_of (control_tick orders (lines_of x) c) < left_of c = falls (lines_of x) c e in more (less _ _ _ f h)

pub lets_go : (ph : Phase) (p : Bool) → is_over ph ≡ true → drives ph p ≡ released
lets_go (Over f) p h = refl
lets_go (Waiting n) p h = refl
lets_go (Zero s) p h = absurd (true≢false (sym h))
lets_go (One s) p h = absurd (true≢false (sym h))
lets_go (Two s n) p h = absurd (true≢false (sym h))
lets_go (Three s w) p h = absurd (true≢false (sym h))

-- ---- the bound is that of the list

-- a message sends or asks for the bytes that its head says
abbrev Fits : List Message → Type 0
Fits [] = Unit {0}
Fits (m ∷ ms) = (data_most (order_of m) ≤ byte_most * (data_of m.kind m.asked + asked_of m.kind m.asked)) × Fits ms

abbrev FitsAll : List Transaction → Type 0
FitsAll [] = Unit {0}
FitsAll (t ∷ ts) = Fits (t.first ∷ t.others) × FitsAll ts

message_fits : (m : Message) → length_right m.kind m.asked ≡ true → length m.sent ≡ data_of m.kind m.asked
    → data_most (order_of m) ≤ byte_most * (data_of m.kind m.asked + asked_of m.kind m.asked)
unfolding byte_most symbol_most most_held data_of asked_of quota_of
message_fits m r e = go (is_write m.kind) refl e
  where
    go : (b : Bool) → is_write m.kind ≡ b → length m.sent ≡ cond b m.asked 0
        → data_most (cond b (put m.sent) (get (quota_of m.kind m.asked))) ≤ byte_most * (cond b m.asked 0 + cond b 0 m.asked)
    go true w e = omega arith
    go false w e = let n = some_asked m.kind m.asked r w in omega arith

stood : (s : List ℕ) (p : ℕ) (m : Message) (q : ℕ) → message_at s p ≡ whole m q
    → data_most (order_of m) ≤ byte_most * (data_of m.kind m.asked + asked_of m.kind m.asked)
stood s p m q i =
    let r = message_inv s p m q i in
    let n = r.next in
    let o = r.room in
    message_fits m r.right_length (sym (ap length r.sent) ∙ take_drop s (p + 3) (data_of m.kind m.asked) (omega arith))
  where
    take_drop : (s : List ℕ) (p n : ℕ) → p + n ≤ length s → length (take n (drop p s)) ≡ n
    take_drop s p n h = simp (length-take, length-drop) (omega arith)

stands_fits : {s : List ℕ} {p : ℕ} {ms : List Message} {ts : List Transaction} → Stands s p ms ts → Fits ms × FitsAll ts
stands_fits (ended h) = (tt, tt)
stands_fits {s} (begins {p} {q} {m} h c k i st) = let r = stands_fits st in (tt, ((stood s (p + 3) m q i, r.0), r.1))
stands_fits {s} (follows {p} {q} {m} i st) = let r = stands_fits st in ((stood s p m q i, r.0), r.1)

todo_bound : (slot : ℕ) (ms : List Message) → Fits ms → todo_most (slotted slot ms) ≤ symbol_most * clocked_of ms
unfolding todo_most slotted clocked_of byte_most symbol_most most_held
todo_bound slot [] f = omega arith
todo_bound slot (m ∷ ms) f = let r = todo_bound (slot + slots_of m) ms f.1 in let d = f.0 in omega arith

later_bound : (top : ℕ) (ts : List Transaction) → FitsAll ts → later_most (batches top ts) ≤ most_ticks ts
unfolding later_most batches most_ticks clocked_of byte_most symbol_most most_held
later_bound top [] f = omega arith
later_bound top (t ∷ ts) f =
    let o = todo_bound (top + 1 + slots_of t.first) t.others f.0.1 in
    let d = f.0.0 in
    let r = later_bound (top + (1 + slots_of_all (t.first ∷ t.others))) ts f.1 in
    omega arith

-- at the first transaction of an accepted list
pub first_left : (list : List ℕ) (size : ℕ) (lent : List ℕ) → check_of list ≡ Ok size → left_of (at_first list lent) ≤ most_ticks (transactions_of list)
unfolding left_of
first_left list size lent e =
    let s : State = opens (batches 0 (transactions_of list)) (record { area = start_area (transactions_of list) lent }) in
    let f = (stands_fits (holds list size e).stands).1 in
    let a = opens_most (batches 0 (transactions_of list)) (record { area = start_area (transactions_of list) lent }) in
    let b = later_bound 0 (transactions_of list) f in
    rw (asked_most s.job s.context) (omega arith)

-- whatever is sampled, a record of so many ticks is enough
pub over_by : (list samples lent : List ℕ) (size : ℕ) → check_of list ≡ Ok size → most_ticks (transactions_of list) ≤ length samples
    → is_over (walk (party orders) samples (at_first list lent)).phase ≡ true
over_by list samples lent size e h = let f = first_left list size lent e in ends samples (at_first list lent) (omega arith)
