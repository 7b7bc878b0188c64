-- How a run over the wires ends: by no fault, and after the plain reading's ticks (request, demand 3; paper 01, "Line faults"). Assumes nothing.
use Rattle.std.specs.Prelude.{None}
use Rattle.std.specs.Prelude.{ℕ, ◌≤◌, ◌<◌, ◌≡◌, true, false, List, [], ◌∷◌, get_or}
use Rattle.lines.specs.Levels.{released}
use Rattle.orders.specs.Results.{Batch}
use Rattle.symbols.specs.Symbols.{is_over}
use Rattle.symbols.specs.Faults.{fault_of}
use Rattle.symbols.specs.declared.Phase.TheVariants.{Over}
use Rattle.controller.specs.Plan.{orders}
use Rattle.controller.specs.Bound.{most_ticks}
use Rattle.wires.specs.Wires.{lines_on, after, run}
use Rattle.agreement.specs.Inputs.{Input, listed, batched, begin, whole, answer}

-- the outcome at each transaction's place is 0
abbrev pub AllClosed : (area : List ℕ) → List Batch → Type 0
AllClosed a [] = Unit {0}
AllClosed a (t ∷ ts) = (get_or a t.top 0 ≡ 0) × AllClosed a ts

module _ (i : Input) where
  -- the run ends without a fault and with both lines released; no tick of it sees one; every transaction's outcome is 0
  pub record NoFault : Type 0 where
    pub ended : (whole i).last.control.phase ≡ Over None
    pub let_go : lines_on orders i.asked (whole i).last ≡ released
    pub clear : (n : ℕ) → n < (answer i).answer.ticks
        → let b = after orders i.asked n (begin i) in fault_of b.control.phase b.control.was (lines_on orders i.asked b) ≡ None
    pub outcomes : AllClosed (answer i).results (batched i)

  -- the controller is at its end after exactly the plain reading's ticks; so any larger number of ticks gives the same run, and the list's bound is one
  pub record Ends : Type 0 where
    pub over : is_over (after orders i.asked (answer i).answer.ticks (begin i)).control.phase ≡ true
    pub not_before : (n : ℕ) → n < (answer i).answer.ticks → is_over (after orders i.asked n (begin i)).control.phase ≡ false
    pub same : (most : ℕ) → (answer i).answer.ticks ≤ most → run orders i.asked most (begin i) ≡ whole i
    pub within : (answer i).answer.ticks ≤ most_ticks (listed i)
