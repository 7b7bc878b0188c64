-- The tick of the code: inside a symbol, at its end, at a fault. Assumes nothing.
use Rattle.std.proofs.Common.{◌≡◌, ◌∙◌, sym, ap, ℕ, Bool, true, false, Option, Some, None, List, set}
use Rattle.lines.specs.declared.Lines.{Lines}
use Rattle.orders.specs.Marks.{note}
use Rattle.symbols.specs.Symbols.{drives}
use Rattle.symbols.specs.Faults.{fault_of, outcome_of}
use Rattle.symbols.specs.Ticks.{enter, Control, in_phase, move, control_tick}
use Rattle.symbols.specs.Moves.{is_last, phase_after}
use Rattle.symbols.specs.declared.Fault.{Fault}
use Rattle.symbols.specs.declared.Phase.{Phase}
use Rattle.symbols.specs.declared.Phase.TheVariants.{Over}
use Rattle.symbols.proofs.Moves.{move_inside, move_last}
use Rattle.cursor.specs.Cursor.{nowhere, step_of, note_of, ask_of, Spot, places}
use Rattle.cursor.specs.declared.Cursor.{Cursor}
use Rattle.controller.specs.Inside.{control_of}
use Rattle.controller.specs.declared.Controller.{Controller}

-- the tick in the code's words
module _ (list : List ℕ) (l : Lines) (c : Controller) (a : List ℕ) (f : Option Fault) (seen : f ≡ fault_of c.phase c.was l) where
  module _ (clear : f ≡ None) (x : Bool) (asked : x ≡ is_last c.phase) where
    settles : control_tick (places list) l (control_of c a) ≡ move (places list) c.phase l (control_of c a)
    unfolding control_tick
    settles = rw (← seen, clear)

    pub ticks_inside : (ph : Phase) → x ≡ false → ph ≡ phase_after c.phase l
        → ◌≡◌ {A = Control Spot} (control_of (record { phase = ph; was = c.was; cursor = c.cursor }) a) (control_tick (places list) l (control_of c a))
    ticks_inside ph n e =
        let g : is_last c.phase ≡ false = sym asked ∙ n in
        sym (settles ∙ move_inside (places list) l (control_of c a) c.phase g ∙ ap (λ (p : Phase). in_phase (places list) p (control_of c a)) (sym e))

    pub ticks_last : (ph : Phase) (a' : List ℕ) (d : Cursor) (m : Lines) → x ≡ true → a' ≡ (note_of list l.sda c.cursor (record { area = a })).area
        → d ≡ step_of list l.sda c.cursor → ph ≡ enter (ask_of list d) → m ≡ drives c.phase c.was
        → ◌≡◌ {A = Control Spot} (control_of (record { phase = ph; was = m.sda; cursor = d }) a') (control_tick (places list) l (control_of c a))
    ticks_last ph a' d m n e g k i =
        let o : is_last c.phase ≡ true = sym asked ∙ n in
        rw (k, e, g, i) (sym (settles ∙ move_last (places list) l (control_of c a) c.phase o))

  pub ticks_over : (g : Fault) (a' : List ℕ) (d : Cursor) (n : ℕ) → f ≡ Some g → n ≡ outcome_of g → a' ≡ set a c.cursor.top n → d ≡ nowhere
      → ◌≡◌ {A = Control Spot} (control_of (record { phase = Over (Some g); was = true; cursor = d }) a') (control_tick (places list) l (control_of c a))
  unfolding control_tick note
  ticks_over g a' d n h e i k = rw (← seen, h, k, i, e)
