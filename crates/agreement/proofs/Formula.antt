-- The ticks of demand 3's formula, with m and L by the list and the results: of the whole run, and of each transaction on the wires. Assumes nothing.
use Prim.Native.Nat.{ℕ, ◌+◌, ◌*◌, ◌≤◌, ◌<◌}
use mathlib.Core.Path.{◌≡◌, ap, sym, ◌∙◌, subst}
use mathlib.Core.List.{List, [], ◌∷◌, ◌++◌, append_assoc}
use native.Mathlib.Omega.{arith}
use native.Mathlib.Nat.{zero-add}
use lib.ListN.{length, get_or}
use Rattle.lines.specs.Levels.{most_held}
use Rattle.orders.specs.Form.{Transaction}
use Rattle.orders.specs.Results.{Batch, area_of, batches}
use Rattle.symbols.specs.Ticks.{begun}
use Rattle.controller.specs.Plan.{State, opens, orders}
use Rattle.eeprom.specs.Stages.{Body}
use Rattle.board.specs.Marks.{bodies}
use Rattle.board.specs.Desk.{Outcome}
use Rattle.wires.specs.Wires.{Bus, after}
use Rattle.plain.specs.Plain.{World, transactions}
use Rattle.reading.specs.Read.{plain}
use Rattle.agreement.specs.Inputs.{Input, listed, batched, begin, answer, Accepted}
use Rattle.agreement.specs.Course.{batch_at, size_of}
use Rattle.agreement.specs.Sums.{Sum, clocked_in, ticks_of, ticks_all, clocked_all}
use Rattle.agreement.specs.Takes.{Begins, begins_at, taken, Takes}
use Rattle.agreement.proofs.Standing.{Small}
use Rattle.agreement.proofs.Right.{RightAll, transactions_right}
use Rattle.agreement.proofs.Board.{good_board, board_asleep}
use Rattle.agreement.proofs.Agree.{first, rests}
use Rattle.agreement.proofs.Tally.{ticks_bound}
use Rattle.agreement.proofs.Totals.{Ready, list_frame, list_ticks}
use Rattle.agreement.proofs.Area.{start_ready}
use Rattle.agreement.proofs.Bounds.{small_drop}
use Rattle.agreement.proofs.Accepted.{holds_small, runnables}
use Rattle.agreement.proofs.Ending.{opening, answer_is, area_room}
use Rattle.agreement.proofs.Splits.{right_before, right_after, ready_before, area_append, batches_append, transactions_append, ticks_alike, ticks_one_more, area_one, last_batch}

bounded : (wait : ℕ) (s : Sum) (hs : List ℕ) → Small hs → ticks_of wait s hs ≤ wait + (20 * clocked_in s + 4)
unfolding most_held
bounded wait s hs h = ticks_bound wait s hs h

module _ (i : Input) (a : Accepted i) where
  abbrev board : List Body
  board = bodies i.marks i.memory i.states

  rights : RightAll (listed i)
  rights = transactions_right i.list a.list_bytes

  -- the whole run
  pub ticks_by_formula : (answer i).answer.ticks ≡ ticks_all (answer i).results i.holds (batched i)
  unfolding plain
  ticks_by_formula =
      subst (λ (o : Outcome). o.answer.ticks ≡ ticks_all o.results i.holds (batched i)) (sym (answer_is i a))
      (list_ticks i.asked (listed i) 0 (opening i) rights (start_ready (listed i) i.results) (area_room i a)
      ∙ zero-add (ticks_all (transactions i.asked (batched i) (opening i)).log.area i.holds (batched i)))

  -- the list in two parts
  module _ (before later : List Transaction) (q : listed i ≡ before ++ later) where
    abbrev between : World
    between = transactions i.asked (batches 0 before) (opening i)

    split : RightAll (before ++ later)
    split = subst RightAll q rights

    parts : batched i ≡ batches 0 before ++ batches (area_of before) later
    parts = ap (batches 0) q ∙ batches_append before later 0 ∙ ap (λ (n : ℕ). batches 0 before ++ batches n later) (zero-add (area_of before))

    results_are : (answer i).results ≡ (transactions i.asked (batches (area_of before) later) between).log.area
    unfolding plain
    results_are =
        ap (λ (o : Outcome). o.results) (answer_is i a)
        ∙ ap (λ (bs : List Batch). (transactions i.asked bs (opening i)).log.area) parts
        ∙ ap (λ (w : World). w.log.area) (transactions_append i.asked (batches 0 before) (batches (area_of before) later) (opening i))

    first_fits : 0 + area_of before ≤ length (opening i).log.area
    first_fits = some (area_of before) (area_of later) (subst (λ (n : ℕ). 0 + n ≤ length (opening i).log.area) (ap area_of q ∙ area_append before later) (area_room i a))
      where
        some : (x y : ℕ) → 0 + (x + y) ≤ length (opening i).log.area → 0 + x ≤ length (opening i).log.area
        some x y l = omega arith

    -- the first part takes its ticks, each transaction by the formula
    time_between : between.clock.now ≡ ticks_all (answer i).results i.holds (batches 0 before)
    time_between =
        list_ticks i.asked before 0 (opening i) (right_before before later split)
        (ready_before before later 0 (opening i).log.area (subst (λ (ts : List Transaction). Ready 0 ts (opening i).log.area) q (start_ready (listed i) i.results))) first_fits
        ∙ zero-add (ticks_all between.log.area i.holds (batches 0 before))
        ∙ sym (ticks_alike before 0 between.log.area (answer i).results i.holds
        (λ k l r. ap (λ (x : List ℕ). get_or x k 0) results_are
        ∙ (list_frame i.asked later (area_of before) between (right_after before later split)).below k (subst (λ (n : ℕ). k < n) (zero-add (area_of before)) r)))

    rests_between : (after orders i.asked between.clock.now (first (batches 0 before ++ batches (area_of before) later) (opening i).log i.holds board)).control
        ≡ begun orders (opens (batches (area_of before) later) between.log)
    rests_between =
        ap (λ (b : Bus State). b.control)
        (rests i.asked (batches 0 before) (opening i).log i.holds board (runnables 0 before (right_before before later split)) (holds_small i a)
        (board_asleep i.marks i.memory i.states) (good_board i.marks i.memory i.states a.memory_bytes) (batches (area_of before) later)).rest.is

    -- then, on the wires, the second part begins
    pub part_begins : Begins (after orders i.asked (ticks_all (answer i).results i.holds (batches 0 before)) (begin i)) (batches (area_of before) later)
    part_begins =
        record {
          log = between.log;
          is = ap (λ (n : ℕ). (after orders i.asked n (begin i)).control) (sym time_between)
              ∙ ap (λ (bs : List Batch). (after orders i.asked between.clock.now (first bs (opening i).log i.holds board)).control) parts
              ∙ rests_between;
        }

  -- a transaction that sends m messages and L bytes takes its asked wait, plus 4(m + 9L + 1) ticks, plus its holds: never over 20(m + 9L) + 4 after the wait
  pub transaction_takes : (before later : List Transaction) (t : Transaction) → listed i ≡ before ++ (t ∷ later)
      → Takes i.asked (begin i) (answer i).results i.holds before later t
  transaction_takes before later t q =
      record {
        begins = part_begins before (t ∷ later) q;
        ends = subst (λ (n : ℕ). Begins (after orders i.asked n (begin i)) (batches (area_of before + size_of t) later)) longer
            (subst (λ (n : ℕ). Begins (after orders i.asked (ticks_all (answer i).results i.holds (batches 0 (before ++ (t ∷ [])))) (begin i)) (batches n later)) wider
            (part_begins (before ++ (t ∷ [])) later (q ∙ sym (append_assoc before (t ∷ []) later))));
        never_over = bounded t.wait _ _ (small_drop (clocked_all (answer i).results (batches 0 before)) i.holds (holds_small i a));
      }
    where
      wider : area_of (before ++ (t ∷ [])) ≡ area_of before + size_of t
      wider = area_append before (t ∷ []) ∙ ap (λ (n : ℕ). area_of before + n) (area_one t)

      longer : ticks_all (answer i).results i.holds (batches 0 (before ++ (t ∷ [])))
          ≡ begins_at i.asked (begin i) (answer i).results i.holds before later t + taken i.asked (begin i) (answer i).results i.holds before later t
      longer = ap (ticks_all (answer i).results i.holds) (last_batch before t) ∙ ticks_one_more (answer i).results i.holds (batches 0 before) (batch_at (area_of before) t)
