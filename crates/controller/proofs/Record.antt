-- The run along a record, turn by turn: what is still to come, from the tick t on, stays the same answer. Assumes nothing.
use Prim.Native.Nat.{ℕ, ◌+◌, ◌<◌, ◌≤◌}
use mathlib.Core.Path.{◌≡◌, refl, ap, sym, ◌∙◌}
use mathlib.Core.Bool.{Bool, true, false}
use mathlib.Core.List.{List, [], ◌∷◌}
use native.Mathlib.Omega.{arith}
use lib.ListN.{length, get_or, set}
use Rattle.lines.specs.Levels.{byte_of, lines_of}
use Rattle.lines.specs.Records.{walk}
use Rattle.lines.specs.declared.Lines.{Lines}
use Rattle.lines.proofs.Records.{Left, leaves, from_first, one_tick, at_end, ended_early}
use Rattle.symbols.specs.Symbols.{drives, is_over}
use Rattle.symbols.specs.Ticks.{Plan, Control, control_tick}
use Rattle.symbols.proofs.Moves.{stays}
use Rattle.cursor.specs.Cursor.{Spot, places}
use Rattle.controller.specs.Inside.{control_of, first_of, ran_on}
use Rattle.controller.specs.Alone.{party, end_of, end_told, Alone}
use Rattle.controller.specs.declared.Controller.{Controller}
use Rattle.controller.specs.declared.End.{End as EndOfRun}

-- at its end a controller changes nothing, whatever the plan
module _ (Q : Plan) where
  pub walk_over : (xs : List ℕ) (c : Control Q.State) → is_over c.phase ≡ true → walk (party Q) xs c ≡ c
  unfolding walk
  walk_over [] c h = refl
  walk_over (x ∷ xs) c h = ap (λ (d : Control Q.State). walk (party Q) xs d) (stays Q (lines_of x) c h) ∙ walk_over xs c h

-- what comes out of what a controller on a record leaves
module _ (list : List ℕ) where
  abbrev came : Left (party (places list)) → Alone
  came p =
      record { told = record { number = 0; end = end_of p.last.phase; ticks = p.ticks }; drives = p.drives; results = p.last.plan.log.area }

  unfoldable pub onward : (t : ℕ) → (ds samples : List ℕ) → Control Spot → Alone
  onward t ds samples c = came (leaves (party (places list)) t samples c ds)

  pub run_starts : (ds samples : List ℕ) (c : Controller) (a : List ℕ) → c ≡ first_of list
      → onward 0 ds samples (control_of c a) ≡ ran_on list ds samples (control_of (first_of list) a)
  unfolding onward
  run_starts ds samples c a e = rw e (ap came (from_first (party (places list)) samples (control_of (first_of list) a) ds))

  module _ (t : ℕ) (ds samples : List ℕ) (c : Controller) (a : List ℕ) (r : Alone) (so_far : onward t ds samples (control_of c a) ≡ r) where
    -- one tick, in the code's words
    pub turn : (c' : Controller) (ds' a' : List ℕ) (d l : Lines) (b : ℕ) (o : Bool)
        → o ≡ is_over c.phase → o ≡ false → d ≡ drives c.phase c.was → b ≡ byte_of d
        → ds' ≡ set ds t b → l ≡ lines_of (get_or samples t 0) → control_of c' a' ≡ control_tick (places list) l (control_of c a)
        → t < length samples
        → onward (t + 1) ds' samples (control_of c' a') ≡ r
    unfolding onward
    turn c' ds' a' d l b o oe of de be ds-is le ce h =
        let put : ds' ≡ set ds t (byte_of (drives c.phase c.was)) = rw (ds-is, be, de) in
        let moved : control_of c' a' ≡ control_tick (places list) (lines_of (get_or samples t 0)) (control_of c a) = rw le at ce in
        ap came (one_tick (party (places list)) t samples (control_of c a) (control_of c' a') ds ds' (sym oe ∙ of) moved put h) ∙ so_far

    -- at its end, and at the record's end
    pub ends_over : (e : EndOfRun) (o : Bool) → o ≡ is_over c.phase → o ≡ true → end_told e ≡ end_of c.phase
        → ◌≡◌ {A = Alone} (record { told = record { number = 0; end = end_told e; ticks = t }; drives = ds; results = a }) r
    unfolding onward
    ends_over e o oe ot ee =
        let y : is_over c.phase ≡ true = sym oe ∙ ot in
        let s = ended_early (party (places list)) (control_of c a) y (λ l. stays (places list) l (control_of c a) y) t samples ds in
        rw ee (ap came (sym s) ∙ so_far)

    pub ends_record : (e : EndOfRun) → length samples ≤ t → end_told e ≡ end_of c.phase
        → ◌≡◌ {A = Alone} (record { told = record { number = 0; end = end_told e; ticks = t }; drives = ds; results = a }) r
    unfolding onward
    ends_record e h ee = rw ee (ap came (sym (at_end (party (places list)) t samples (control_of c a) ds h)) ∙ so_far)

    -- whose ticks are its length then
    pub ends_in_full : (e : EndOfRun) → t ≤ length samples → length samples ≤ t → end_told e ≡ end_of c.phase
        → ◌≡◌ {A = Alone} (record { told = record { number = 0; end = end_told e; ticks = length samples }; drives = ds; results = a }) r
    ends_in_full e h k ee = let l : t ≡ length samples = omega arith in rw (← l) (ends_record e k ee)
