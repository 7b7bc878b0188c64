-- From ticks to symbols: the bus at every tick of a clocked symbol, of a wait and of the first START, and at their ends. Assumes nothing.
use Prim.Native.Nat.{ℕ, zero, suc, ◌+◌, ◌-◌, ◌≤◌, ◌<◌}
use mathlib.Core.Path.{◌≡◌, refl, ap, ap₂, sym, ◌∙◌, subst}
use mathlib.Core.Bool.{Bool, true, false, ◌&&◌}
use mathlib.Core.List.{List, map}
use native.Mathlib.Omega.{arith}
use native.Mathlib.Nat.{zero-add, suc-add, add-zero, sub-zero, sub_self}
use borrow.Author.Tests.{leb-true, leb-false, ltb-true, ltb-false}
use lib.Dec.{leb, ltb}
use Rattle.std.specs.Prelude.{Option, Some, None}
use Rattle.lines.specs.Levels.{hi, lo, most_held}
use Rattle.lines.specs.Events.{delivered}
use Rattle.lines.specs.declared.Event.TheVariants.{Started}
use Rattle.symbols.specs.Ticks.{Plan, first, enter}
use Rattle.symbols.specs.declared.Begin.TheVariants.{First}
use Rattle.symbols.specs.declared.Symbol.{Symbol}
use Rattle.symbols.specs.declared.Symbol.TheVariants.{Start}
use Rattle.symbols.specs.declared.Phase.TheVariants.{Zero, One, Two, Three}
use Rattle.eeprom.specs.Stages.{body_tick}
use Rattle.wires.specs.Holding.{first_hold, later_holds}
use Rattle.wires.specs.Wires.{Bus, tick, after}
use Rattle.agreement.proofs.Table.{mid, late, Fine, told, kept}
use Rattle.agreement.proofs.Time.{Timed, bodies_at, hears_at, up}
use Rattle.agreement.proofs.Ticks.{eye, bus, at_start, zero_tick, one_tick, held_tick, two_tick, three_tick, wait_tick, first_zero, first_one, first_two, first_three}

module _ (Q : Plan) (asked : ℕ) where
  pub after_add : (m n : ℕ) (b : Bus Q.State) → after Q asked (m + n) b ≡ after Q asked n (after Q asked m b)
  unfolding after
  after_add zero n b = rw (zero-add n)
  after_add (suc m) n b = rw (suc-add m n) (after_add m n (tick Q asked b))

  pub after_suc : (n : ℕ) (b : Bus Q.State) → after Q asked (suc n) b ≡ tick Q asked (after Q asked n b)
  unfolding after
  after_suc zero b = refl
  after_suc (suc n) b = after_suc n (tick Q asked b)

-- what a clocked symbol begins with: the symbol, the SDA driven before, the plan, the holds to come, the SDA seen before and the bit noted then, the tick,
-- the chips as they are and as they are once that bit is delivered, and what these drive on SDA
pub record Setting (S : Type 0) : Type 0 where
  pub symbol : Symbol
  pub was : Bool
  pub plan : S
  pub holds : List ℕ
  pub seen : Bool
  pub noted : Option Bool
  pub now : ℕ
  pub waiting : List Timed
  pub chips : List Timed
  pub drive : Bool

module _ (Q : Plan) (c : Setting Q.State) where
  abbrev pub middle : Bool
  middle = mid c.symbol && c.drive

  abbrev pub last : Bool
  last = late c.symbol && c.drive

  -- the bus in its phases: with the chips then, with the ticks for which SCL is still held, and at a tick
  abbrev pub one_with : List Timed → Bus Q.State
  one_with zs =
      bus Q (One c.symbol) c.was c.plan (suc (first_hold c.holds)) (later_holds c.holds) (eye lo (c.was && up c.waiting) None)
      (bodies_at (suc c.now) zs)

  abbrev pub two_at : (gone left t : ℕ) → Bus Q.State
  two_at j left t = bus Q (Two c.symbol j) c.was c.plan left (later_holds c.holds) (eye lo middle None) (bodies_at t c.chips)

  abbrev pub three_at : ℕ → Bus Q.State
  three_at t = bus Q (Three c.symbol middle) c.was c.plan 0 (later_holds c.holds) (eye hi middle (Some middle)) (bodies_at t c.chips)

  -- at its ticks, in phase 2 after j held ones
  abbrev pub in_zero : Bus Q.State
  in_zero = bus Q (Zero c.symbol) c.was c.plan 0 c.holds (eye hi c.seen c.noted) (bodies_at c.now c.waiting)

  abbrev pub in_one : Bus Q.State
  in_one = one_with c.chips

  abbrev pub in_two : ℕ → Bus Q.State
  in_two j = two_at j (first_hold c.holds - j) (c.now + (2 + j))

  abbrev pub in_three : Bus Q.State
  in_three = three_at (c.now + (3 + first_hold c.holds))

  -- what is asked of it
  pub record Sound : Type 0 where
    pub settled : map (hears_at c.now (delivered c.noted)) c.waiting ≡ c.chips
    pub driven : up c.chips ≡ c.drive
    pub fine : Fine c.symbol c.drive
    pub held : first_hold c.holds ≤ most_held

module _ (Q : Plan) (asked : ℕ) (c : Setting Q.State) (i : Sound Q c) where
  abbrev h : ℕ
  h = first_hold c.holds

  at_one : after Q asked 1 (in_zero Q c) ≡ in_one Q c
  unfolding after
  at_one =
      zero_tick Q asked c.symbol c.was c.plan c.holds c.drive i.fine c.seen c.noted c.now c.waiting ∙ ap (one_with Q c) i.settled

  at_two : (j : ℕ) → j ≤ h → after Q asked (2 + j) (in_zero Q c) ≡ in_two Q c j
  at_two zero l =
      after_suc Q asked 1 (in_zero Q c) ∙ ap (tick Q asked) at_one
      ∙ one_tick Q asked c.symbol c.was c.plan (later_holds c.holds) c.drive i.fine (suc c.now) c.chips i.driven h _
      ∙ ap₂ (two_at Q c 0) (sym (sub-zero h)) (two_on c.now)
    where
      two_on : (t : ℕ) → suc (suc t) ≡ t + (2 + 0)
      two_on t = omega arith
  at_two (suc j) l =
      ap (λ m. after Q asked m (in_zero Q c)) (num j) ∙ after_suc Q asked (2 + j) (in_zero Q c)
      ∙ ap (tick Q asked) (at_two j (omega arith) ∙ ap (λ m. two_at Q c j m (c.now + (2 + j))) (less h j l))
      ∙ held_tick Q asked c.symbol c.was c.plan (later_holds c.holds) c.drive i.fine (c.now + (2 + j)) c.chips i.driven j (h - suc j)
      (few h j l i.held)
      ∙ ap (two_at Q c (suc j) (h - suc j)) (on c.now j)
    where
      num : (j : ℕ) → 2 + suc j ≡ suc (2 + j)
      num j = omega arith

      less : (h j : ℕ) → suc j ≤ h → h - j ≡ suc (h - suc j)
      less h j l = omega arith

      few : (h j : ℕ) → suc j ≤ h → h ≤ most_held → j < most_held
      few h j l m = omega arith

      on : (t j : ℕ) → suc (t + (2 + j)) ≡ t + (2 + suc j)
      on t j = omega arith

  at_three : after Q asked (3 + h) (in_zero Q c) ≡ in_three Q c
  at_three =
      ap (λ m. after Q asked m (in_zero Q c)) (num h) ∙ after_suc Q asked (2 + h) (in_zero Q c)
      ∙ ap (tick Q asked) (at_two h (omega arith) ∙ ap (λ m. two_at Q c h m (c.now + (2 + h))) (sub_self h))
      ∙ two_tick Q asked c.symbol c.was c.plan (later_holds c.holds) c.drive i.fine (c.now + (2 + h)) c.chips i.driven h
      ∙ ap (three_at Q c) (on c.now h)
    where
      num : (h : ℕ) → 3 + h ≡ suc (2 + h)
      num h = omega arith

      on : (t h : ℕ) → suc (t + (2 + h)) ≡ t + (3 + h)
      on t h = omega arith

  -- the symbol's end: the plan has the bit that was seen, and a START or STOP is heard
  pub symbol_ends : after Q asked (4 + h) (in_zero Q c)
      ≡ at_start Q (late c.symbol) (Q.next c.plan (last Q c)) (later_holds c.holds) (eye hi (last Q c) (kept c.symbol (last Q c)))
      (map (body_tick asked (told c.symbol)) (bodies_at (c.now + (3 + h)) c.chips))
  symbol_ends =
      ap (λ m. after Q asked m (in_zero Q c)) (num (h)) ∙ after_suc Q asked (3 + h) (in_zero Q c) ∙ ap (tick Q asked) at_three
      ∙ three_tick Q asked c.symbol c.was c.plan (later_holds c.holds) c.drive i.fine (c.now + (3 + h)) c.chips i.driven
    where
      num : (h : ℕ) → 4 + h ≡ suc (3 + h)
      num h = omega arith

  -- at every tick of the symbol: what holds of its phases holds of the bus
  pub symbol_through : (P : ℕ → Bus Q.State → Type 0) → P 0 (in_zero Q c) → P 1 (in_one Q c)
      → ((j : ℕ) → j ≤ h → P (2 + j) (in_two Q c j)) → P (3 + h) (in_three Q c)
      → (k : ℕ) → k < 4 + h → P k (after Q asked k (in_zero Q c))
  unfolding after
  symbol_through P z o w r zero l = z
  symbol_through P z o w r (suc zero) l = subst (P 1) (sym at_one) o
  symbol_through P z o w r (suc (suc j)) l = go (leb j h) refl
    where
      two : (j : ℕ) → 2 + j ≡ suc (suc j)
      two j = omega arith

      three : (j h : ℕ) → suc (suc j) < 4 + h → h < j → 3 + h ≡ suc (suc j)
      three j h l g = omega arith

      go : (q : Bool) → leb j h ≡ q → P (suc (suc j)) (after Q asked (suc (suc j)) (in_zero Q c))
      go true e = subst (λ m. P m (after Q asked m (in_zero Q c))) (two j) (subst (P (2 + j)) (sym (at_two j (leb-true j h e))) (w j (leb-true j h e)))
      go false e = subst (λ m. P m (after Q asked m (in_zero Q c))) (three j h l (leb-false j h e)) (subst (P (3 + h)) (sym at_three) r)

-- between two transactions, and in a wait: so many ticks of it are still to come
module _ (Q : Plan) (d : Q.State) (hs : List ℕ) (t : ℕ) (zs : List Timed) where
  abbrev pub in_wait : (left gone : ℕ) → Bus Q.State
  in_wait left gone = bus Q (enter (first left)) hi d 0 hs (eye hi hi None) (bodies_at (t + gone) zs)

  abbrev pub open_zero : ℕ → Bus Q.State
  open_zero k = bus Q (Zero (Start First)) hi d 0 hs (eye hi hi None) (bodies_at (t + k) zs)

  abbrev pub open_one : ℕ → Bus Q.State
  open_one k = bus Q (One (Start First)) hi d 0 hs (eye hi hi None) (bodies_at (t + (k + 1)) zs)

  abbrev pub open_two : ℕ → Bus Q.State
  open_two k = bus Q (Two (Start First) 0) hi d 0 hs (eye hi hi None) (bodies_at (t + (k + 2)) zs)

  abbrev pub open_three : ℕ → Bus Q.State
  open_three k = bus Q (Three (Start First) hi) hi d 0 hs (eye hi hi None) (bodies_at (t + (k + 3)) zs)

module _ (Q : Plan) (asked : ℕ) (d : Q.State) (hs : List ℕ) (t : ℕ) (zs : List Timed) (u : up zs ≡ true) (k : ℕ) where
  abbrev from : Bus Q.State
  from = in_wait Q d hs t zs k 0

  at_wait : (j : ℕ) → j ≤ k → after Q asked j from ≡ in_wait Q d hs t zs (k - j) j
  unfolding after
  at_wait zero l = ap (λ m. in_wait Q d hs t zs m 0) (sym (sub-zero k))
  at_wait (suc j) l =
      after_suc Q asked j from ∙ ap (tick Q asked) (at_wait j (omega arith) ∙ ap (λ m. in_wait Q d hs t zs m j) (less k j l))
      ∙ wait_tick Q asked hi d hs (t + j) zs u (k - suc j)
      ∙ ap (λ m. bus Q (enter (first (k - suc j))) hi d 0 hs (eye hi hi None) (bodies_at m zs)) (on t j)
    where
      less : (k j : ℕ) → suc j ≤ k → k - j ≡ suc (k - suc j)
      less k j l = omega arith

      on : (t j : ℕ) → suc (t + j) ≡ t + suc j
      on t j = omega arith

  next_tick : (m n : ℕ) (b e : Bus Q.State) → suc m ≡ n → after Q asked m from ≡ b → tick Q asked b ≡ e → after Q asked n from ≡ e
  next_tick m n b e s p q = ap (λ i. after Q asked i from) (sym s) ∙ after_suc Q asked m from ∙ ap (tick Q asked) p ∙ q

  at_open_zero : after Q asked k from ≡ open_zero Q d hs t zs k
  at_open_zero = at_wait k (omega arith) ∙ ap (λ m. in_wait Q d hs t zs m k) (sub_self k)

  at_open_one : after Q asked (k + 1) from ≡ open_one Q d hs t zs k
  at_open_one =
      next_tick k (k + 1) _ _ (omega arith) at_open_zero (first_zero Q asked hi d hs (t + k) zs u)
      ∙ ap (λ m. bus Q (One (Start First)) hi d 0 hs (eye hi hi None) (bodies_at m zs)) (on t k)
    where
      on : (t k : ℕ) → suc (t + k) ≡ t + (k + 1)
      on t k = omega arith

  at_open_two : after Q asked (k + 2) from ≡ open_two Q d hs t zs k
  at_open_two =
      next_tick (k + 1) (k + 2) _ _ (omega arith) at_open_one (first_one Q asked hi d hs (t + (k + 1)) zs u)
      ∙ ap (λ m. bus Q (Two (Start First) 0) hi d 0 hs (eye hi hi None) (bodies_at m zs)) (on t k)
    where
      on : (t k : ℕ) → suc (t + (k + 1)) ≡ t + (k + 2)
      on t k = omega arith

  at_open_three : after Q asked (k + 3) from ≡ open_three Q d hs t zs k
  at_open_three =
      next_tick (k + 2) (k + 3) _ _ (omega arith) at_open_two (first_two Q asked hi d hs (t + (k + 2)) zs u)
      ∙ ap (λ m. bus Q (Three (Start First) hi) hi d 0 hs (eye hi hi None) (bodies_at m zs)) (on t k)
    where
      on : (t k : ℕ) → suc (t + (k + 2)) ≡ t + (k + 3)
      on t k = omega arith

  -- the end of the first START, after a wait of k ticks
  pub opening_ends : after Q asked (k + 4) from
      ≡ at_start Q lo (Q.next d lo) hs (eye hi lo None) (bodies_at (t + (k + 4)) (map (hears_at (t + (k + 4)) Started) zs))
  opening_ends =
      next_tick (k + 3) (k + 4) _ _ (omega arith) at_open_three (first_three Q asked hi d hs (t + (k + 3)) zs u)
      ∙ ap (λ m. at_start Q lo (Q.next d lo) hs (eye hi lo None) (bodies_at m (map (hears_at m Started) zs))) (on t k)
    where
      on : (t k : ℕ) → suc (t + (k + 3)) ≡ t + (k + 4)
      on t k = omega arith

  -- at every tick of the wait and the first START
  pub opening_through : (P : ℕ → Bus Q.State → Type 0) → ((j : ℕ) → j < k → P j (in_wait Q d hs t zs (k - j) j)) → P k (open_zero Q d hs t zs k)
      → P (k + 1) (open_one Q d hs t zs k) → P (k + 2) (open_two Q d hs t zs k) → P (k + 3) (open_three Q d hs t zs k)
      → (i : ℕ) → i < k + 4 → P i (after Q asked i from)
  opening_through P w a b c r i l = go (ltb i k) refl
    where
      in_start : (m : ℕ) → m < 4 → P (k + m) (after Q asked (k + m) from)
      in_start zero l = subst (λ n. P n (after Q asked n from)) (sym (add-zero k)) (subst (P k) (sym at_open_zero) a)
      in_start (suc zero) l = subst (P (k + 1)) (sym at_open_one) b
      in_start (suc (suc zero)) l = subst (P (k + 2)) (sym at_open_two) c
      in_start (suc (suc (suc zero))) l = subst (P (k + 3)) (sym at_open_three) r
      in_start (suc (suc (suc (suc m)))) l = absurd (omega arith)

      sooner : (i k : ℕ) → i < k → i ≤ k
      sooner i k l = omega arith

      past : (i k : ℕ) → k ≤ i → k + (i - k) ≡ i
      past i k l = omega arith

      soon : (i k : ℕ) → i < k + 4 → k ≤ i → i - k < 4
      soon i k l m = omega arith

      go : (q : Bool) → ltb i k ≡ q → P i (after Q asked i from)
      go true e = subst (P i) (sym (at_wait i (sooner i k (ltb-true i k e)))) (w i (ltb-true i k e))
      go false e = subst (λ n. P n (after Q asked n from)) (past i k (ltb-false i k e)) (in_start (i - k) (soon i k l (ltb-false i k e)))
