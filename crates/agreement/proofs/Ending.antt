-- The run of an accepted input: its last bus is the plain reading's, it ends after exactly the plain reading's ticks, and it does not depend on the number
-- that bounds it. Assumes nothing.
use Prim.Native.Nat.{ℕ, ◌+◌, ◌≤◌, ◌<◌}
use mathlib.Core.Path.{◌≡◌, ap, sym, ◌∙◌, subst}
use mathlib.Core.List.{map}
use native.Mathlib.Nat.{zero-add}
use borrow.Author.Tests.{eq-eqb}
use lib.ListN.{length}
use Rattle.orders.specs.Results.{area_of, start_area}
use Rattle.symbols.specs.Symbols.{is_over}
use Rattle.controller.specs.Plan.{State, orders}
use Rattle.controller.specs.Bound.{most_ticks}
use Rattle.board.specs.Marks.{bodies}
use Rattle.board.specs.Desk.{Outcome, ran}
use Rattle.wires.specs.Wires.{Bus, Ran, after, run}
use Rattle.plain.specs.Plain.{World}
use Rattle.reading.specs.Read.{cell_of, body_of, plain, plain_run}
use Rattle.agreement.specs.Inputs.{Input, listed, batched, begin, whole, answer, Accepted}
use Rattle.agreement.specs.Outcomes.{Ends}
use Rattle.agreement.proofs.Right.{transactions_right}
use Rattle.agreement.proofs.Board.{good_board, board_asleep}
use Rattle.agreement.proofs.Runs.{lines_for, run_is}
use Rattle.agreement.proofs.Agree.{final, Agrees, agree}
use Rattle.agreement.proofs.Area.{length_start}
use Rattle.agreement.proofs.Bounds.{list_bound}
use Rattle.agreement.proofs.Accepted.{holds_small, area_fits, runnables}

module _ (i : Input) where
  -- the plain reading, before and after
  abbrev pub opening : World
  opening =
      record {
        clock = record { now = 0; holds = i.holds };
        cells = map cell_of (bodies i.marks i.memory i.states);
        log = record { area = start_area (listed i) i.results };
      }

  abbrev pub read : World
  read = plain i.list i.marks i.memory i.states i.holds i.asked i.results

  abbrev pub ticks : ℕ
  ticks = read.clock.now

  -- its answer
  abbrev pub told : Outcome
  told = ran ticks (map (body_of ticks) read.cells) read.log.area

module _ (i : Input) (a : Accepted i) where
  pub answer_is : answer i ≡ told i
  unfolding plain_run
  answer_is = rw (eq-eqb _ 0 a.by_number)

  pub same_ticks : (answer i).answer.ticks ≡ ticks i
  same_ticks = ap (λ (o : Outcome). o.answer.ticks) answer_is

  -- the result area has room for the list's results
  pub area_room : 0 + area_of (listed i) ≤ length (opening i).log.area
  area_room =
      subst (λ (n : ℕ). n ≤ length (opening i).log.area) (sym (zero-add (area_of (listed i))))
      (subst (λ (n : ℕ). area_of (listed i) ≤ n) (sym (length_start (listed i) i.results (area_fits i a))) (area_fits i a))

  pub agrees : Agrees i.asked (begin i) (read i)
  unfolding plain
  agrees =
      agree i.asked (batched i) (opening i).log i.holds (bodies i.marks i.memory i.states) (runnables 0 (listed i) (transactions_right i.list a.list_bytes))
      (holds_small i a) (board_asleep i.marks i.memory i.states) (good_board i.marks i.memory i.states a.memory_bytes)

  -- any number of ticks that is large enough gives this run
  abbrev pub ran_out : Ran orders i.asked
  ran_out = record { last = final (read i); row = lines_for orders i.asked (ticks i) (begin i) }

  run_from : (most : ℕ) → ticks i ≤ most → run orders i.asked most (begin i) ≡ ran_out
  run_from most l =
      run_is orders i.asked (ticks i) most (begin i) l (ap (λ (b : Bus State). is_over b.control.phase) agrees.last) (λ n h. (agrees.clean n h).live)
      ∙ ap (λ (b : Bus State). record { last = b; row = lines_for orders i.asked (ticks i) (begin i) }) agrees.last

  ticks_within : ticks i ≤ most_ticks (listed i)
  unfolding plain
  ticks_within =
      subst (λ (n : ℕ). ticks i ≤ n) (zero-add (most_ticks (listed i))) (list_bound i.asked (listed i) 0 (opening i) (transactions_right i.list a.list_bytes) (holds_small i a))

  pub whole_is : whole i ≡ ran_out
  whole_is = run_from (most_ticks (listed i)) ticks_within

  pub ends : Ends i
  ends =
      record {
        over = ap (λ (n : ℕ). is_over (after orders i.asked n (begin i)).control.phase) same_ticks ∙ ap (λ (b : Bus State). is_over b.control.phase) agrees.last;
        not_before = λ n l. (agrees.clean n (subst (λ (t : ℕ). n < t) same_ticks l)).live;
        same = λ most l. run_from most (subst (λ (t : ℕ). t ≤ most) same_ticks l) ∙ sym whole_is;
        within = subst (λ (t : ℕ). t ≤ most_ticks (listed i)) (sym same_ticks) ticks_within;
      }
