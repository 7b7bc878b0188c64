-- One tick of the bus: what its lines and the absence of a fault make of it; then the ticks of a clocked symbol, of a wait and of the first START, each
-- with the chips at their time. The only file that sees phases move. Assumes nothing.
use Prim.Native.Nat.{ℕ, zero, suc, ◌-◌, ◌<◌}
use mathlib.Core.Path.{◌≡◌, refl, ap, ap₂, ◌∙◌}
use mathlib.Core.Bool.{Bool, true, false, ◌&&◌}
use mathlib.Core.List.{List, map}
use native.Mathlib.Omega.{arith}
use borrow.Author.Tests.{ne_eqb}
use lib.Dec.{eqb}
use Rattle.std.specs.Prelude.{Option, Some, None}
use Rattle.lines.specs.Levels.{hi, lo, ◌∥◌, released, most_held}
use Rattle.lines.specs.Events.{delivered, event_of, eye_after}
use Rattle.lines.specs.declared.Lines.{Lines}
use Rattle.lines.specs.declared.Event.{Event}
use Rattle.lines.specs.declared.Event.TheVariants.{Started}
use Rattle.lines.specs.declared.Eye.{Eye}
use Rattle.symbols.specs.Symbols.{drives}
use Rattle.symbols.specs.declared.Row.{Row}
use Rattle.symbols.specs.Faults.{fault_of}
use Rattle.symbols.specs.Ticks.{Plan, Control, first, enter, move, settle, control_tick}
use Rattle.symbols.specs.declared.Begin.TheVariants.{First}
use Rattle.symbols.specs.declared.Symbol.{Symbol}
use Rattle.symbols.specs.declared.Symbol.TheVariants.{Start}
use Rattle.symbols.specs.declared.Fault.{Fault}
use Rattle.symbols.specs.declared.Phase.{Phase}
use Rattle.symbols.specs.declared.Phase.TheVariants.{Waiting, Zero, One, Two, Three}
use Rattle.eeprom.specs.Stages.{Body, body_tick}
use Rattle.wires.specs.Holding.{hold_tick, first_hold, later_holds}
use Rattle.wires.specs.Wires.{Bus, all_up, joined, seeing, tick}
use Rattle.agreement.proofs.Table.{mid, late, Fine, clocked_row, lines_zero, lines_one, lines_two, lines_three, clear_zero, clear_one, clear_held, clear_two, clear_three, told, kept, told_is, kept_is}
use Rattle.agreement.proofs.Time.{Timed, bodies_at, hears_at, up, up_at, quiet_tick, deliver_tick, start_tick}

abbrev pub eye : Bool → Bool → Option Bool → Eye
eye c d n = record { past = c ∥ d; noted = n }

module _ (Q : Plan) where
  -- the controller in a phase, with the SDA that it drove before and its plan; the holder; what the chips saw last; the chips
  abbrev pub bus : Phase → Bool → Q.State → ℕ → List ℕ → Eye → List Body → Bus Q.State
  bus ph p d left hs e bs =
      record { control = record { phase = ph; was = p; plan = d }; holding = record { left = left; list = hs }; eye = e; chips = bs }

  -- at the start of what the plan asks for
  abbrev pub at_start : Bool → Q.State → List ℕ → Eye → List Body → Bus Q.State
  at_start p d hs e bs = bus (enter (Q.ask d)) p d 0 hs e bs

one_off : (h : ℕ) → suc h - 1 ≡ h
one_off h = omega arith

some_left : (h : ℕ) → eqb (suc h) 0 ≡ false
some_left h = ne_eqb (suc h) 0 (λ e. omega arith)

module _ (Q : Plan) (asked : ℕ) where
  one : (ph : Phase) (p : Bool) (d : Q.State) (left : ℕ) (hs : List ℕ) (e : Eye) (bs : List Body) (l : Lines)
      → joined (drives ph p) left (all_up bs) ≡ l → fault_of ph p l ≡ None
      → tick Q asked (bus Q ph p d left hs e bs)
      ≡ record {
        control = move Q ph l (record { phase = ph; was = p; plan = d });
        holding = hold_tick e.past.scl l.scl (record { left = left; list = hs });
        eye = eye_after e l;
        chips = map (body_tick asked (event_of e l)) bs;
      }
  unfolding tick control_tick
  one ph p d left hs e bs l q z =
      ap (λ (x : Lines). seeing Q asked x (bus Q ph p d left hs e bs)) q
      ∙ ap
      (λ (f : Option Fault). record {
        control = settle Q f l (record { phase = ph; was = p; plan = d });
        holding = hold_tick e.past.scl l.scl (record { left = left; list = hs });
        eye = eye_after e l;
        chips = map (body_tick asked (event_of e l)) bs;
      }) z

  -- a clocked symbol: x is what the chips drive once the bit before is delivered
  module _ (s : Symbol) (p : Bool) (d : Q.State) (hs : List ℕ) (x : Bool) (f : Fine s x) where
    -- phase 0: SCL falls, the noted bit is delivered, and the holder takes its next byte
    pub zero_tick : (w : Bool) (n : Option Bool) (t : ℕ) (ys : List Timed)
        → tick Q asked (bus Q (Zero s) p d 0 hs (eye hi w n) (bodies_at t ys))
        ≡ bus Q (One s) p d (suc (first_hold hs)) (later_holds hs) (eye lo (p && up ys) None) (bodies_at (suc t) (map (hears_at t (delivered n)) ys))
    zero_tick w n t ys =
        one (Zero s) p d 0 hs (eye hi w n) (bodies_at t ys) (lo ∥ (p && up ys)) (lines_zero s x f p 0 _ ∙ ap (λ y. lo ∥ (p && y)) (up_at t ys)) (clear_zero s x f p (up ys))
        ∙ ap (bus Q (One s) p d (suc (first_hold hs)) (later_holds hs) (eye lo (p && up ys) None)) (deliver_tick asked t n ys)

    module _ (t : ℕ) (zs : List Timed) (u : up zs ≡ x) where
      up_x : all_up (bodies_at t zs) ≡ x
      up_x = up_at t zs ∙ u

      pub one_tick : (h : ℕ) (w : Bool)
          → tick Q asked (bus Q (One s) p d (suc h) hs (eye lo w None) (bodies_at t zs))
          ≡ bus Q (Two s 0) p d h hs (eye lo (mid s && x) None) (bodies_at (suc t) zs)
      one_tick h w =
          one (One s) p d (suc h) hs (eye lo w None) (bodies_at t zs) (lo ∥ (mid s && x)) (lines_one s x f p (suc h) _ ∙ ap (λ y. lo ∥ (mid s && y)) up_x) (clear_one s x f p)
          ∙ ap₂ (λ m bs. bus Q (Two s 0) p d m hs (eye lo (mid s && x) None) bs) (one_off h) (quiet_tick asked t zs)

      -- phase 2 while SCL is held
      pub held_tick : (j h : ℕ) → j < most_held
          → tick Q asked (bus Q (Two s j) p d (suc h) hs (eye lo (mid s && x) None) (bodies_at t zs))
          ≡ bus Q (Two s (suc j)) p d h hs (eye lo (mid s && x) None) (bodies_at (suc t) zs)
      held_tick j h l =
          one (Two s j) p d (suc h) hs (eye lo (mid s && x) None) (bodies_at t zs) (lo ∥ (mid s && x))
          (lines_two s x f p j (suc h) _ ∙ ap₂ (λ q y. q ∥ (mid s && y)) (some_left h) up_x) (clear_held s x f p j l)
          ∙ ap₂ (λ m bs. bus Q (Two s (suc j)) p d m hs (eye lo (mid s && x) None) bs) (one_off h) (quiet_tick asked t zs)

      -- and its last tick: SCL rises, and the chips note SDA
      pub two_tick : (j : ℕ)
          → tick Q asked (bus Q (Two s j) p d 0 hs (eye lo (mid s && x) None) (bodies_at t zs))
          ≡ bus Q (Three s (mid s && x)) p d 0 hs (eye hi (mid s && x) (Some (mid s && x))) (bodies_at (suc t) zs)
      two_tick j =
          one (Two s j) p d 0 hs (eye lo (mid s && x) None) (bodies_at t zs) (hi ∥ (mid s && x)) (lines_two s x f p j 0 _ ∙ ap (λ y. hi ∥ (mid s && y)) up_x) (clear_two s x f p j)
          ∙ ap (bus Q (Three s (mid s && x)) p d 0 hs (eye hi (mid s && x) (Some (mid s && x)))) (quiet_tick asked t zs)

      -- phase 3: the plan gets the bit that was seen
      pub three_tick : tick Q asked (bus Q (Three s (mid s && x)) p d 0 hs (eye hi (mid s && x) (Some (mid s && x))) (bodies_at t zs))
          ≡ at_start Q (late s) (Q.next d (late s && x)) hs (eye hi (late s && x) (kept s (late s && x))) (map (body_tick asked (told s)) (bodies_at t zs))
      three_tick =
          one (Three s (mid s && x)) p d 0 hs (eye hi (mid s && x) (Some (mid s && x))) (bodies_at t zs) (hi ∥ (late s && x))
          (lines_three s x f p (mid s && x) 0 _ ∙ ap (λ y. hi ∥ (late s && y)) up_x) (clear_three s x f p)
          ∙ ap (λ (r : Row). at_start Q r.three.sda (Q.next d (late s && x)) hs (eye_after seen (hi ∥ (late s && x))) (map (body_tick asked (event_of seen (hi ∥ (late s && x)))) (bodies_at t zs)))
          (clocked_row s x f p)
          ∙ ap₂ (λ (n : Option Bool) (v : Event). at_start Q (late s) (Q.next d (late s && x)) hs (eye hi (late s && x) n) (map (body_tick asked v) (bodies_at t zs)))
          (kept_is s x f) (told_is s x f (Some (mid s && x)))
        where
          seen : Eye
          seen = eye hi (mid s && x) (Some (mid s && x))

  -- a tick with both lines let go
  module _ (p : Bool) (d : Q.State) (hs : List ℕ) (t : ℕ) (zs : List Timed) (u : up zs ≡ true) where
    idle : (ph ph' : Phase) → drives ph p ≡ released → fault_of ph p released ≡ None
        → move Q ph released (record { phase = ph; was = p; plan = d }) ≡ record { phase = ph'; was = p; plan = d }
        → tick Q asked (bus Q ph p d 0 hs (eye hi hi None) (bodies_at t zs)) ≡ bus Q ph' p d 0 hs (eye hi hi None) (bodies_at (suc t) zs)
    idle ph ph' a b c =
        one ph p d 0 hs (eye hi hi None) (bodies_at t zs) released (ap₂ (λ l y. joined l 0 y) a (up_at t zs ∙ u)) b
        ∙ ap₂ (λ (k : Control Q.State) (bs : List Body). record { control = k; holding = record { left = 0; list = hs }; eye = eye hi hi None; chips = bs }) c (quiet_tick asked t zs)

    pub wait_tick : (k : ℕ)
        → tick Q asked (bus Q (enter (first (suc k))) p d 0 hs (eye hi hi None) (bodies_at t zs))
        ≡ bus Q (enter (first k)) p d 0 hs (eye hi hi None) (bodies_at (suc t) zs)
    unfolding fault_of
    wait_tick zero = idle (Waiting 0) (Zero (Start First)) refl refl refl
    wait_tick (suc k) = idle (Waiting (suc k)) (Waiting k) refl refl refl

    -- the first START's phases
    pub first_zero : tick Q asked (bus Q (Zero (Start First)) p d 0 hs (eye hi hi None) (bodies_at t zs))
        ≡ bus Q (One (Start First)) p d 0 hs (eye hi hi None) (bodies_at (suc t) zs)
    unfolding fault_of
    first_zero = idle (Zero (Start First)) (One (Start First)) refl refl refl

    pub first_one : tick Q asked (bus Q (One (Start First)) p d 0 hs (eye hi hi None) (bodies_at t zs))
        ≡ bus Q (Two (Start First) 0) p d 0 hs (eye hi hi None) (bodies_at (suc t) zs)
    unfolding fault_of
    first_one = idle (One (Start First)) (Two (Start First) 0) refl refl refl

    pub first_two : tick Q asked (bus Q (Two (Start First) 0) p d 0 hs (eye hi hi None) (bodies_at t zs))
        ≡ bus Q (Three (Start First) hi) p d 0 hs (eye hi hi None) (bodies_at (suc t) zs)
    unfolding fault_of
    first_two = idle (Two (Start First) 0) (Three (Start First) hi) refl refl refl

    pub first_three : tick Q asked (bus Q (Three (Start First) hi) p d 0 hs (eye hi hi None) (bodies_at t zs))
        ≡ at_start Q lo (Q.next d lo) hs (eye hi lo None) (bodies_at (suc t) (map (hears_at (suc t) Started) zs))
    unfolding fault_of
    first_three =
        one (Three (Start First) hi) p d 0 hs (eye hi hi None) (bodies_at t zs) (hi ∥ lo) refl refl
        ∙ ap (at_start Q lo (Q.next d lo) hs (eye hi lo None)) (start_tick asked t zs)
