-- Two plans that ask alike, step by step, make two controllers that drive alike, tick by tick, whatever the lines are. Assumes nothing.
use Prim.Native.Nat.{ℕ, zero, suc}
use mathlib.Core.Path.{◌≡◌, refl, ap, ap₂, sym}
use mathlib.Core.Bool.{Bool, true, false, true≢false}
use Rattle.std.proofs.Common.{Option, Some, None}
use mathlib.Core.List.{List, [], ◌∷◌, ◌++◌}
use Rattle.lines.specs.Levels.{byte_of, lines_of}
use Rattle.lines.specs.Records.{walk, driven, drives_on}
use Rattle.lines.specs.declared.Lines.{Lines}
use Rattle.symbols.specs.Symbols.{row, drives, is_over}
use Rattle.symbols.specs.Faults.{fault_of}
use Rattle.symbols.specs.Ticks.{Plan, enter, Control, begun, move, settle, control_tick}
use Rattle.symbols.specs.declared.Fault.{Fault}
use Rattle.symbols.specs.declared.Phase.{Phase}
use Rattle.symbols.specs.declared.Phase.TheVariants.{Over, Waiting, Zero, One, Two, Three}
use Rattle.controller.specs.Alone.{party}

module _ (Q R : Plan) (Same : Q.State → R.State → Type 0) where
  pub record Matches (c : Control Q.State) (d : Control R.State) : Type 0 where
    pub phase : c.phase ≡ d.phase
    pub was : c.was ≡ d.was
    pub plan : Same c.plan d.plan

abbrev standing : (Q : Plan) → Phase → Control Q.State → Control Q.State
standing Q ph c = record { phase = ph; was = c.was; plan = c.plan }

module _ (Q R : Plan) (Same : Q.State → R.State → Type 0)
    (asks : (s : Q.State) (t : R.State) → Same s t → Q.ask s ≡ R.ask t)
    (nexts : (s : Q.State) (t : R.State) (v : Bool) → Same s t → Same (Q.next s v) (R.next t v))
    (fails : (s : Q.State) (t : R.State) (f : Fault) → Same s t → Same (Q.failed s f) (R.failed t f)) where
  pub begun_matches : (s : Q.State) (t : R.State) → Same s t → Matches Q R Same (begun Q s) (begun R t)
  begun_matches s t e = record { phase = ap enter (asks s t e); was = refl; plan = e }

  module _ (l : Lines) (c : Control Q.State) (d : Control R.State) (m : Matches Q R Same c d) where
    move_matches : (ph : Phase) → Matches Q R Same (move Q ph l (standing Q ph c)) (move R ph l (standing R ph d))
    move_matches (Over f) = record { phase = refl; was = m.was; plan = m.plan }
    move_matches (Waiting zero) = record { phase = refl; was = m.was; plan = m.plan }
    move_matches (Waiting (suc n)) = record { phase = refl; was = m.was; plan = m.plan }
    move_matches (Zero s) = record { phase = refl; was = m.was; plan = m.plan }
    move_matches (One s) = record { phase = refl; was = m.was; plan = m.plan }
    move_matches (Two s n) = record { phase = refl; was = m.was; plan = m.plan }
    move_matches (Three s w) =
        let n = nexts c.plan d.plan l.sda m.plan in
        record { phase = ap enter (asks _ _ n); was = ap (λ (p : Bool). (row s p).three.sda) m.was; plan = n }

    settle_matches : (f : Option Fault) (ph : Phase) → Matches Q R Same (settle Q f l (standing Q ph c)) (settle R f l (standing R ph d))
    settle_matches None ph = move_matches ph
    settle_matches (Some f) ph = record { phase = refl; was = refl; plan = fails c.plan d.plan f m.plan }

    pub tick_matches : Matches Q R Same (control_tick Q l c) (control_tick R l d)
    unfolding control_tick
    tick_matches = go c.phase c.was m.phase m.was
      where
        go : (ph : Phase) (p : Bool) → ph ≡ d.phase → p ≡ d.was
            → Matches Q R Same (settle Q (fault_of ph p l) l (standing Q ph c)) (settle R (fault_of d.phase d.was l) l d)
        go ph p e f = rw (e, f) (settle_matches (fault_of d.phase d.was l) d.phase)

  -- on a record: the last states match, and the drives are the same
  pub walk_matches : (xs : List ℕ) (c : Control Q.State) (d : Control R.State) → Matches Q R Same c d
      → Matches Q R Same (walk (party Q) xs c) (walk (party R) xs d)
  unfolding walk
  walk_matches [] c d m = m
  walk_matches (x ∷ xs) c d m = walk_matches xs _ _ (tick_matches (lines_of x) c d m)

  pub drives_match : (xs : List ℕ) (c : Control Q.State) (d : Control R.State) → Matches Q R Same c d
      → drives_on (party Q) xs c ≡ drives_on (party R) xs d
  unfolding drives_on
  drives_match [] c d m = refl
  drives_match (x ∷ xs) c d m =
      ap₂ (λ (a b : List ℕ). a ++ b)
      (go (is_over c.phase) (is_over d.phase) (ap is_over m.phase) (ap₂ drives m.phase m.was))
      (drives_match xs _ _ (tick_matches (lines_of x) c d m))
    where
      go : (a b : Bool) → a ≡ b → drives c.phase c.was ≡ drives d.phase d.was → driven (party Q) a c ≡ driven (party R) b d
      go true true e f = refl
      go true false e f = absurd (true≢false e)
      go false true e f = absurd (true≢false (sym e))
      go false false e f = ap (λ (y : Lines). byte_of y ∷ []) f
