-- The ticks of a wait in which both lines are up and no chip drives: the rules leave all but the phase, the time and the trace, so that the code passes them
-- at once. Assumes nothing.
use Prim.Native.Nat.{ℕ, zero, suc, ◌+◌, ◌-◌, ◌≤◌, ◌<◌}
use native.Mathlib.Omega.{arith}
use mathlib.Core.Path.{◌≡◌, refl, ap, ap₂, sym, ◌∙◌}
use mathlib.Core.Bool.{Bool, true, false, cond}
use mathlib.Core.List.{List}
use Rattle.std.proofs.Common.{Option}
use borrow.Author.Tests.{ne_eqb}
use lib.Dec.{eqb}
use lib.ListN.{set}
use Rattle.lines.specs.declared.Event.TheVariants.{Quiet}
use Rattle.symbols.specs.Faults.{fault_of}
use Rattle.symbols.specs.Ticks.{control_tick}
use Rattle.symbols.specs.declared.Begin.TheVariants.{First}
use Rattle.symbols.specs.declared.Symbol.TheVariants.{Start}
use Rattle.symbols.specs.declared.Phase.{Phase}
use Rattle.symbols.specs.declared.Phase.TheVariants.{Over, Waiting, Zero, One, Two, Three}
use Rattle.cursor.specs.Cursor.{places}
use Rattle.cursor.specs.declared.Cursor.{Cursor}
use Rattle.board.specs.Seats.{Seated, all_up}
use Rattle.board.proofs.Heard.{none_heard}
use Rattle.wires.specs.Wires.{run}
use Rattle.wires.specs.Inside.{phase_rest, rest_of, rested_of, filled, bus_on}
use Rattle.wires.specs.declared.Bus.{Bus}
use Rattle.wires.proofs.Turns.{Finished, finish, turn}

-- a bus in a wait, with both lines up
abbrev calm : Phase → Bool → Cursor → ℕ → Option Bool → Bus
calm ph was cursor next noted =
    record {
      control = record { phase = ph; was = was; cursor = cursor };
      hold = record { left = 0; next = next };
      eye = record { past = record { scl = true; sda = true }; noted = noted };
      up = true;
    }

not_zero : (n : ℕ) → eqb (suc n) 0 ≡ false
not_zero n = ne_eqb (suc n) 0 (λ e. omega arith)

-- what a rest over 0 says of the bus
calm_in : (ph : Phase) (was : Bool) (cursor : Cursor) (left next : ℕ) (scl sda : Bool) (noted : Option Bool) (up : Bool) (k : ℕ)
    → suc k ≡ cond up (cond (eqb left 0) (cond scl (cond sda (phase_rest ph) 0) 0) 0) 0
    → ◌≡◌ {A = Bus} (record {
      control = record { phase = ph; was = was; cursor = cursor };
      hold = record { left = left; next = next };
      eye = record { past = record { scl = scl; sda = sda }; noted = noted };
      up = up;
    }) (calm (Waiting k) was cursor next noted)
calm_in (Over f) was cursor zero next true true noted true k e = absurd (omega arith)
calm_in (Waiting n) was cursor zero next true true noted true k e = ap (λ (x : ℕ). calm (Waiting x) was cursor next noted) (omega arith)
calm_in (Zero s) was cursor zero next true true noted true k e = absurd (omega arith)
calm_in (One s) was cursor zero next true true noted true k e = absurd (omega arith)
calm_in (Two s n) was cursor zero next true true noted true k e = absurd (omega arith)
calm_in (Three s w) was cursor zero next true true noted true k e = absurd (omega arith)
calm_in ph was cursor zero next true false noted true k e = absurd (omega arith)
calm_in ph was cursor zero next false sda noted true k e = absurd (omega arith)
calm_in ph was cursor (suc l) next scl sda noted true k e = let z : suc k ≡ 0 = rw (not_zero l) at e in absurd (omega arith)
calm_in ph was cursor left next scl sda noted false k e = absurd (omega arith)

module _ (list holds : List ℕ) (asked l : ℕ) (was : Bool) (cursor : Cursor) (next : ℕ) (noted : Option Bool) (xs : List Seated) (area : List ℕ)
    (up : true ≡ all_up xs) (f : Finished) where
  abbrev left : Phase → List ℕ → ℕ → Finished
  left ph trace t = finish list holds asked t (run (places list) asked (l - t) (bus_on holds (calm ph was cursor next noted) xs area t)) trace

  one_tick : (n : ℕ) (trace : List ℕ) (t : ℕ) → left (Waiting (suc n)) trace t ≡ f → t < l → left (Waiting n) (set trace t 3) (t + 1) ≡ f
  unfolding control_tick fault_of
  one_tick n trace t inv lt =
      turn list holds asked l (calm (Waiting (suc n)) was cursor next noted) (calm (Waiting n) was cursor next noted) xs xs area area trace (set trace t 3)
      t f false _ 3 inv up refl refl refl refl refl
      (record { control = refl; hold = refl; eye = refl }) (none_heard asked t Quiet refl xs) lt

  last_tick : (trace : List ℕ) (t : ℕ) → left (Waiting 0) trace t ≡ f → t < l → left (Zero (Start First)) (set trace t 3) (t + 1) ≡ f
  unfolding control_tick fault_of
  last_tick trace t inv lt =
      turn list holds asked l (calm (Waiting 0) was cursor next noted) (calm (Zero (Start First)) was cursor next noted) xs xs area area trace (set trace t 3)
      t f false _ 3 inv up refl refl refl refl refl
      (record { control = refl; hold = refl; eye = refl }) (none_heard asked t Quiet refl xs) lt

  rests : (n : ℕ) (trace : List ℕ) (t : ℕ) → left (Waiting n) trace t ≡ f → t + suc n ≤ l → left (Zero (Start First)) (filled (suc n) t trace) (t + suc n) ≡ f
  unfolding filled
  rests zero trace t inv h = last_tick trace t inv (omega arith)
  rests (suc n) trace t inv h =
      ap₂ (λ (u w : ℕ). left (Zero (Start First)) (filled (suc n) u (set trace t 3)) w) (num1 t) (num2 t n)
      ∙ rests n (set trace t 3) (t + 1) (one_tick n trace t inv (num3 t n l h)) (num4 t n l h)
    where
      num1 : (t : ℕ) → suc t ≡ t + 1
      num1 t = omega arith

      num2 : (t n : ℕ) → t + suc (suc n) ≡ t + 1 + suc n
      num2 t n = omega arith

      num3 : (t n l : ℕ) → t + suc (suc n) ≤ l → t < l
      num3 t n l h = omega arith

      num4 : (t n l : ℕ) → t + suc (suc n) ≤ l → t + 1 + suc n ≤ l
      num4 t n l h = omega arith

-- the jump, in the code's words
pub jump : (list holds : List ℕ) (asked l : ℕ) (b r : Bus) (xs : List Seated) (area trace trace' : List ℕ) (t k : ℕ) (f : Finished)
    → finish list holds asked t (run (places list) asked (l - t) (bus_on holds b xs area t)) trace ≡ f → b.up ≡ all_up xs
    → k ≡ rest_of b → trace' ≡ filled k t trace → r ≡ rested_of b
    → 0 < k → k ≤ l - t
    → finish list holds asked (t + k) (run (places list) asked (l - (t + k)) (bus_on holds r xs area (t + k))) trace' ≡ f
jump list holds asked l b r xs area trace trace' t zero f inv u e p c h m = absurd (omega arith)
jump list holds asked l b r xs area trace trace' t (suc n) f inv u e p c h m =
    let i : b ≡ calm (Waiting n) b.control.was b.control.cursor b.hold.next b.eye.noted =
    calm_in b.control.phase b.control.was b.control.cursor b.hold.left b.hold.next b.eye.past.scl b.eye.past.sda b.eye.noted b.up n e in
    let j : r ≡ calm (Zero (Start First)) b.control.was b.control.cursor b.hold.next b.eye.noted = c ∙ ap rested_of i in
    let v : true ≡ all_up xs = sym (ap (λ (x : Bus). x.up) i) ∙ u in
    ap₂ (λ (x : Bus) (tr : List ℕ). finish list holds asked (t + suc n) (run (places list) asked (l - (t + suc n)) (bus_on holds x xs area (t + suc n))) tr) j p
    ∙ rests list holds asked l b.control.was b.control.cursor b.hold.next b.eye.noted xs area v f n trace t
    (ap (λ (x : Bus). finish list holds asked t (run (places list) asked (l - t) (bus_on holds x xs area t)) trace) (sym i) ∙ inv) (omega arith)
