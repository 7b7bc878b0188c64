-- Two plans whose controllers are alike in every tick, whatever the lines, drive the bus alike: same lines, same chips, and controllers that are alike
-- at the end. Assumes nothing.
use Prim.Native.Nat.{ℕ, zero, suc}
use mathlib.Core.Path.{◌≡◌, refl, ap, ap₂, ◌∙◌, subst}
use mathlib.Core.Bool.{Bool, true, false, cond}
use mathlib.Core.List.{List, [], ◌∷◌, map}
use Rattle.lines.specs.Levels.{byte_of}
use Rattle.lines.specs.Events.{event_of, eye_after}
use Rattle.lines.specs.declared.Lines.{Lines}
use Rattle.lines.specs.declared.Eye.{Eye}
use Rattle.symbols.specs.Symbols.{drives, is_over}
use Rattle.symbols.specs.Ticks.{Plan, Control, control_tick}
use Rattle.eeprom.specs.Stages.{Body, body_tick}
use Rattle.wires.specs.Holding.{Holding, hold_tick}
use Rattle.wires.specs.Wires.{Bus, joined, all_up, lines_on, tick, Ran, one_more, run}

module _ (Q R : Plan) (asked : ℕ) (Alike : Control Q.State → Control R.State → Type 0)
    (phases : (c : Control Q.State) (d : Control R.State) → Alike c d → c.phase ≡ d.phase)
    (wases : (c : Control Q.State) (d : Control R.State) → Alike c d → c.was ≡ d.was)
    (ticks : (l : Lines) (c : Control Q.State) (d : Control R.State) → Alike c d → Alike (control_tick Q l c) (control_tick R l d)) where
  -- all but the controllers is equal
  pub record Same (b : Bus Q.State) (e : Bus R.State) : Type 0 where
    pub control : Alike b.control e.control
    pub holding : b.holding ≡ e.holding
    pub eye : b.eye ≡ e.eye
    pub chips : b.chips ≡ e.chips

  same_over : (b : Bus Q.State) (e : Bus R.State) → Same b e → is_over b.control.phase ≡ is_over e.control.phase
  same_over b e s = ap is_over (phases _ _ s.control)

  same_lines : (b : Bus Q.State) (e : Bus R.State) → Same b e → lines_on Q asked b ≡ lines_on R asked e
  same_lines b e s =
      ap₂ (λ (h : Holding) (d : Lines). joined d h.left (all_up b.chips)) s.holding (ap₂ drives (phases _ _ s.control) (wases _ _ s.control))
      ∙ ap (λ (xs : List Body). joined (drives e.control.phase e.control.was) e.holding.left (all_up xs)) s.chips

  same_tick : (b : Bus Q.State) (e : Bus R.State) → Same b e → Same (tick Q asked b) (tick R asked e)
  unfolding tick
  same_tick b e s =
      let l = same_lines b e s in
      record {
        control = subst (λ (x : Lines). Alike (control_tick Q (lines_on Q asked b) b.control) (control_tick R x e.control)) l
            (ticks (lines_on Q asked b) b.control e.control s.control);
        holding = ap₂ (λ (y : Eye) (x : Lines). hold_tick y.past.scl x.scl b.holding) s.eye l
            ∙ ap (λ (h : Holding). hold_tick e.eye.past.scl (lines_on R asked e).scl h) s.holding;
        eye = ap₂ eye_after s.eye l;
        chips = ap₂ (λ (y : Eye) (x : Lines). map (body_tick asked (event_of y x)) b.chips) s.eye l
            ∙ ap (map (body_tick asked (event_of e.eye (lines_on R asked e)))) s.chips;
      }

  pub record SameRun (p : Ran Q asked) (r : Ran R asked) : Type 0 where
    pub last : Same p.last r.last
    pub row : p.row ≡ r.row

  pub same_run : (n : ℕ) (b : Bus Q.State) (e : Bus R.State) → Same b e → SameRun (run Q asked n b) (run R asked n e)
  unfolding run
  same_run zero b e s = record { last = s; row = refl }
  same_run (suc n) b e s =
      go (is_over b.control.phase) (is_over e.control.phase) (same_over b e s) (same_run n (tick Q asked b) (tick R asked e) (same_tick b e s))
    where
      go : (p r : Bool) → p ≡ r → SameRun (run Q asked n (tick Q asked b)) (run R asked n (tick R asked e))
          → SameRun (cond p (record { last = b; row = [] }) (one_more Q asked (lines_on Q asked b) (run Q asked n (tick Q asked b))))
          (cond r (record { last = e; row = [] }) (one_more R asked (lines_on R asked e) (run R asked n (tick R asked e))))
      go true true q h = record { last = s; row = refl }
      go false false q h = record { last = h.last; row = ap₂ (λ (l : Lines) (x : List ℕ). byte_of l ∷ x) (same_lines b e s) h.row }
      go true false q h = cc
      go false true q h = cc
