-- A tick without a fault, by the phase that the code has found. Assumes nothing.
use Prim.Native.Nat.{ℕ, zero, suc, ◌+◌, ◌<◌}
use mathlib.Core.Path.{◌≡◌, refl, sym}
use mathlib.Core.Bool.{Bool, true, false, cond, true≢false}
use Rattle.std.proofs.Common.{Option, Some, None}
use native.Mathlib.Omega.{arith}
use borrow.Author.Tests.{leb-false}
use lib.Dec.{leb}
use Rattle.lines.specs.Levels.{most_held}
use Rattle.lines.specs.declared.Lines.{Lines}
use Rattle.symbols.specs.Symbols.{drives, is_over}
use Rattle.symbols.specs.Faults.{is_broken, is_taken, is_stuck, fault_of}
use Rattle.symbols.specs.Ticks.{Plan, enter, Control, in_phase, move, settle, control_tick}
use Rattle.symbols.specs.Moves.{is_last, phase_after}
use Rattle.symbols.specs.declared.Symbol.{Symbol}
use Rattle.symbols.specs.declared.Fault.{Fault}
use Rattle.symbols.specs.declared.Fault.TheVariants.{LineBroken, NotFree, ClockStuck}
use Rattle.symbols.specs.declared.Phase.{Phase}
use Rattle.symbols.specs.declared.Phase.TheVariants.{Over, Waiting, Zero, One, Two, Three}

-- what no fault says of the tests
module _ (ph : Phase) (p : Bool) (l : Lines) where
  pub clear_free : fault_of ph p l ≡ None → is_taken ph l ≡ false
  unfolding fault_of
  clear_free = go (is_broken (drives ph p) l) (is_taken ph l) _
    where
      go : (a b : Bool) (f : Option Fault) → cond a (Some LineBroken) (cond b (Some NotFree) f) ≡ None → b ≡ false
      go true b f h = let z : ◌≡◌ {A = ℕ} 0 1 = cc in absurd (omega arith)
      go false true f h = let z : ◌≡◌ {A = ℕ} 0 1 = cc in absurd (omega arith)
      go false false f h = refl

  pub clear_running : fault_of ph p l ≡ None → is_stuck ph l ≡ false
  unfolding fault_of
  clear_running = go (is_broken (drives ph p) l) (is_taken ph l) (is_stuck ph l) _
    where
      go : (a b c : Bool) (f : Option Fault) → cond a (Some LineBroken) (cond b (Some NotFree) (cond c (Some ClockStuck) f)) ≡ None → c ≡ false
      go true b c f h = let z : ◌≡◌ {A = ℕ} 0 1 = cc in absurd (omega arith)
      go false true c f h = let z : ◌≡◌ {A = ℕ} 0 1 = cc in absurd (omega arith)
      go false false true f h = let z : ◌≡◌ {A = ℕ} 0 1 = cc in absurd (omega arith)
      go false false false f h = refl

-- where no fault is seen, one more held tick can be counted
pub room_to_hold : (s : Symbol) (n : ℕ) (p : Bool) (l : Lines) (ph : Phase) → ph ≡ Two s n → l.scl ≡ false → fault_of ph p l ≡ None → n + 1 < 256
unfolding most_held
room_to_hold s n p l ph e low h = let g : leb 16 n ≡ false = rw (e, low) at (clear_running ph p l h) in
    let k : n < 16 = leb-false _ _ g in omega arith

-- the two parts of a move, whatever the plan
module _ (Q : Plan) (l : Lines) (c : Control Q.State) where
  pub move_inside : (ph : Phase) → is_last ph ≡ false → move Q ph l c ≡ in_phase Q (phase_after ph l) c
  move_inside (Over f) h = refl
  move_inside (Waiting zero) h = refl
  move_inside (Waiting (suc n)) h = refl
  move_inside (Zero s) h = refl
  move_inside (One s) h = refl
  move_inside (Two s n) h = refl
  move_inside (Three s w) h = absurd (true≢false h)

  abbrev ended : Phase → Control Q.State
  ended ph =
      record { phase = enter (Q.ask (Q.next c.plan l.sda)); was = (drives ph c.was).sda; plan = Q.next c.plan l.sda }

  pub move_last : (ph : Phase) → is_last ph ≡ true → move Q ph l c ≡ ended ph
  move_last (Over f) h = absurd (true≢false (sym h))
  move_last (Waiting n) h = absurd (true≢false (sym h))
  move_last (Zero s) h = absurd (true≢false (sym h))
  move_last (One s) h = absurd (true≢false (sym h))
  move_last (Two s n) h = absurd (true≢false (sym h))
  move_last (Three s w) h = refl

-- a controller at its end stays there
module _ (Q : Plan) (l : Lines) where
  pub stays : (c : Control Q.State) → is_over c.phase ≡ true → control_tick Q l c ≡ c
  unfolding control_tick fault_of
  stays c h = go c.phase h
    where
      at : Phase → Control Q.State
      at ph = record { phase = ph; was = c.was; plan = c.plan }

      go : (ph : Phase) → is_over ph ≡ true → settle Q (fault_of ph c.was l) l (at ph) ≡ at ph
      go (Over f) k = refl
      go (Waiting n) k = absurd (true≢false (sym k))
      go (Zero s) k = absurd (true≢false (sym k))
      go (One s) k = absurd (true≢false (sym k))
      go (Two s n) k = absurd (true≢false (sym k))
      go (Three s w) k = absurd (true≢false (sym k))
