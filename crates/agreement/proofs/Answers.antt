-- One possible answer: what meets an entry's contract, an equation to the entry's definition, is settled by the input (paper 01, "How tight the promises
-- are"). Assumes nothing.
use Prim.Native.Nat.{ℕ}
use mathlib.Core.Path.{◌≡◌, sym, ap, ◌∙◌}
use mathlib.Core.List.{List}
use Rattle.std.specs.Prelude.{Result}
use Rattle.lent.specs.Refusals.{answer_of}
use Rattle.lent.specs.declared.Refusal.{Refusal}
use Rattle.controller.specs.Alone.{Alone, told_of, alone}
use Rattle.controller.specs.declared.Told.{Told as ToldOfRun}
use Rattle.lone_chip.specs.Alone.{ChipAlone, left_by, chip_alone}
use Rattle.board.specs.Desk.{Outcome}
use Rattle.bus.specs.Run.{Traced, traced, wire_run}
use Rattle.reading.specs.Read.{plain_run}
use Rattle.agreement.proofs.OneAnswer.{one_answer, one_told}

both : {A : Type 0} {x y a : A} → x ≡ a → y ≡ a → x ≡ y
both p q = p ∙ sym q

-- the whole-bus run
pub one_wire_run : (list : List ℕ) (marks : ℕ) (memory states holds : List ℕ) (asked : ℕ) (results trace : List ℕ) (x y : Traced)
    → x ≡ wire_run list marks memory states holds asked results trace → y ≡ wire_run list marks memory states holds asked results trace → x ≡ y
one_wire_run list marks memory states holds asked results trace x y p q = both p q

-- the plain reading
pub one_plain_run : (list : List ℕ) (marks : ℕ) (memory states holds : List ℕ) (asked : ℕ) (results : List ℕ) (x y : Outcome)
    → x ≡ plain_run list marks memory states holds asked results → y ≡ plain_run list marks memory states holds asked results → x ≡ y
one_plain_run list marks memory states holds asked results x y p q = both p q

-- the controller alone
pub one_controller_alone : (list samples drives results : List ℕ) (x y : Alone)
    → x ≡ alone list samples drives results → y ≡ alone list samples drives results → x ≡ y
one_controller_alone list samples drives results x y p q = both p q

-- one chip alone
pub one_chip_alone : (strap : ℕ) (memory state : List ℕ) (asked : ℕ) (samples drives : List ℕ) (x y : ChipAlone)
    → x ≡ chip_alone strap memory state asked samples drives → y ≡ chip_alone strap memory state asked samples drives → x ≡ y
one_chip_alone strap memory state asked samples drives x y p q = both p q

-- The contracts tell the code's answer by what C is told of it; that settles the answer itself.

pub one_wire_answer : (list : List ℕ) (marks : ℕ) (memory states holds : List ℕ) (asked : ℕ) (results trace : List ℕ) (x y : Result ℕ Refusal)
    → (m s r t m' s' r' t' : List ℕ)
    → traced (answer_of x) m s r t ≡ wire_run list marks memory states holds asked results trace
    → traced (answer_of y) m' s' r' t' ≡ wire_run list marks memory states holds asked results trace → x ≡ y
one_wire_answer list marks memory states holds asked results trace x y m s r t m' s' r' t' p q =
    one_answer x y (ap (λ (a : Traced). a.outcome.answer) (both p q))

pub one_plain_answer : (list : List ℕ) (marks : ℕ) (memory states holds : List ℕ) (asked : ℕ) (results : List ℕ) (x y : Result ℕ Refusal)
    → (m s r m' s' r' : List ℕ)
    → ◌≡◌ {A = Outcome} (record { answer = answer_of x; memory = m; states = s; results = r }) (plain_run list marks memory states holds asked results)
    → ◌≡◌ {A = Outcome} (record { answer = answer_of y; memory = m'; states = s'; results = r' }) (plain_run list marks memory states holds asked results)
    → x ≡ y
one_plain_answer list marks memory states holds asked results x y m s r m' s' r' p q =
    one_answer x y (ap (λ (a : Outcome). a.answer) (both p q))

pub one_controller_answer : (list samples drives results : List ℕ) (x y : Result ToldOfRun Refusal) (d r d' r' : List ℕ)
    → ◌≡◌ {A = Alone} (record { told = told_of x; drives = d; results = r }) (alone list samples drives results)
    → ◌≡◌ {A = Alone} (record { told = told_of y; drives = d'; results = r' }) (alone list samples drives results) → x ≡ y
one_controller_answer list samples drives results x y d r d' r' p q = one_told x y (ap (λ (a : Alone). a.told) (both p q))

pub one_chip_answer : (strap : ℕ) (memory state : List ℕ) (asked : ℕ) (samples drives : List ℕ) (x y : Result ℕ Refusal) (m s d m' s' d' : List ℕ)
    → left_by (answer_of x) m s d ≡ chip_alone strap memory state asked samples drives
    → left_by (answer_of y) m' s' d' ≡ chip_alone strap memory state asked samples drives → x ≡ y
one_chip_answer strap memory state asked samples drives x y m s d m' s' d' p q = one_answer x y (ap (λ (a : ChipAlone). a.answer) (both p q))
