-- Demand 3, over the entries' own definitions: the run over the two wires and the plain reading give the same answer, for all input; no fault occurs; the
-- trace holds the lines. Assumes nothing.
use Prim.Native.Nat.{ℕ, ◌≤◌, ◌<◌}
use mathlib.Core.Path.{◌≡◌, refl, ap, sym, ◌∙◌, subst}
use mathlib.Core.Bool.{Bool, true, false, cond}
use mathlib.Core.List.{List, map}
use borrow.Author.Tests.{eqb-true, eq-eqb}
use lib.Dec.{eqb}
use lib.ListN.{length, get_or}
use Rattle.lent.specs.Areas.{over}
use Rattle.lines.specs.Levels.{byte_of}
use Rattle.controller.specs.Plan.{orders}
use Rattle.board.specs.Desk.{Outcome, ran, refusal}
use Rattle.wires.specs.Wires.{Ran, lines_on, after}
use Rattle.bus.specs.Run.{Traced, wire_run}
use Rattle.reading.specs.Read.{body_of, plain, plain_run}
use Rattle.agreement.specs.Inputs.{Bytes, Input, number, listed, batched, begin, whole, answer, Accepted}
use Rattle.agreement.specs.Outcomes.{AllClosed, NoFault}
use Rattle.agreement.proofs.Right.{transactions_right}
use Rattle.agreement.proofs.Runs.{length_lines, line_at}
use Rattle.agreement.proofs.Agree.{final_lines}
use Rattle.agreement.proofs.Totals.{list_closed}
use Rattle.agreement.proofs.Overwritten.{over_at, over_past, over_length}
use Rattle.agreement.proofs.Ending.{opening, read, ticks, told, answer_is, area_room, same_ticks, agrees, whole_is}

-- what the whole-bus run makes of a run, of an accepted input and of any other
abbrev told_by : (i : Input) → Ran orders i.asked → Outcome
told_by i r = ran (length r.row) r.last.chips r.last.control.plan.context.log.area

abbrev done : (i : Input) → List ℕ → Traced
done i trace = record { outcome = told_by i (whole i); trace = over (whole i).row trace }

abbrev stays : (i : Input) → List ℕ → Traced
stays i trace = record { outcome = refusal (number i) i.memory i.states i.results; trace = trace }

told_the_same : (i : Input) → Accepted i → told_by i (whole i) ≡ told i
told_the_same i a = ap (told_by i) (whole_is i a) ∙ ap (λ (n : ℕ). ran n (map (body_of (ticks i)) (read i).cells) (read i).log.area) (length_lines orders i.asked (ticks i) (begin i))

-- results, memories, pointers, busy time left and tick count, refused or not
pub wires_and_plain_agree : (list : List ℕ) (marks : ℕ) (memory states holds : List ℕ) (asked : ℕ) (results trace : List ℕ) → Bytes list → Bytes memory
    → (wire_run list marks memory states holds asked results trace).outcome ≡ plain_run list marks memory states holds asked results
unfolding wire_run plain_run
wires_and_plain_agree list marks memory states holds asked results trace b m = go (eqb (number i) 0) refl
  where
    i : Input
    i = record { list = list; marks = marks; memory = memory; states = states; holds = holds; asked = asked; results = results }

    go : (q : Bool) → eqb (number i) 0 ≡ q → (cond q (done i trace) (stays i trace)).outcome ≡ cond q (told i) (refusal (number i) memory states results)
    go true e = told_the_same i (record { by_number = eqb-true (number i) 0 e; list_bytes = b; memory_bytes = m })
    go false e = refl

module _ (i : Input) (a : Accepted i) where
  pub no_fault : NoFault i
  unfolding plain
  no_fault =
      record {
        ended = ap (λ (r : Ran orders i.asked). r.last.control.phase) (whole_is i a);
        let_go = ap (λ (r : Ran orders i.asked). lines_on orders i.asked r.last) (whole_is i a) ∙ final_lines i.asked (read i);
        clear = λ n l. ((agrees i a).clean n (subst (λ (t : ℕ). n < t) (same_ticks i a) l)).clear;
        outcomes = subst (λ (o : Outcome). AllClosed o.results (batched i)) (sym (answer_is i a))
            (list_closed i.asked (listed i) 0 (opening i) (transactions_right i.list a.list_bytes) (area_room i a));
      }

  -- the run's row: the lines of every tick, a byte a tick
  pub row_length : length (whole i).row ≡ (answer i).answer.ticks
  row_length = ap (λ (r : Ran orders i.asked). length r.row) (whole_is i a) ∙ length_lines orders i.asked (ticks i) (begin i) ∙ sym (same_ticks i a)

  pub row_at : (k : ℕ) → k < (answer i).answer.ticks → get_or (whole i).row k 0 ≡ byte_of (lines_on orders i.asked (after orders i.asked k (begin i)))
  row_at k l =
      ap (λ (r : Ran orders i.asked). get_or r.row k 0) (whole_is i a)
      ∙ line_at orders i.asked (ticks i) k (begin i) (subst (λ (t : ℕ). k < t) (same_ticks i a) l)

  -- the trace: the same, as far as it reaches; bytes past the last tick stay
  module _ (trace : List ℕ) where
    abbrev traced : List ℕ
    traced = (wire_run i.list i.marks i.memory i.states i.holds i.asked i.results trace).trace

    traced_is : traced ≡ over (whole i).row trace
    unfolding wire_run
    traced_is = ap (λ (q : Bool). (cond q (done i trace) (stays i trace)).trace) (eq-eqb (number i) 0 a.by_number)

    pub trace_length : length traced ≡ length trace
    trace_length = ap length traced_is ∙ over_length (whole i).row trace

    pub trace_at : (k : ℕ) → k < (answer i).answer.ticks → k < length trace → get_or traced k 0 ≡ byte_of (lines_on orders i.asked (after orders i.asked k (begin i)))
    trace_at k l m = ap (λ (r : List ℕ). get_or r k 0) traced_is ∙ over_at (whole i).row trace k (subst (λ (t : ℕ). k < t) (sym row_length) l) m ∙ row_at k l

    pub trace_past : (k : ℕ) → (answer i).answer.ticks ≤ k → get_or traced k 0 ≡ get_or trace k 0
    trace_past k l = ap (λ (r : List ℕ). get_or r k 0) traced_is ∙ over_past (whole i).row trace k (subst (λ (t : ℕ). t ≤ k) (sym row_length) l)
