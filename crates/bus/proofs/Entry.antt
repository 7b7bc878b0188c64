-- The entry: the code's run over places is the rules' run over transactions, and what it leaves in the lent areas is what `wire_run` says; the ladder of
-- refusals. Assumes nothing.
use Prim.Native.Nat.{ℕ, ◌*◌, ◌≤◌, ◌<◌}
use mathlib.Core.Path.{◌≡◌, refl, ap, sym, ◌∙◌, subst}
use mathlib.Core.Bool.{true}
use mathlib.Core.List.{List, map}
use Rattle.lent.proofs.Refusals.{refused_some, refused_first}
use Rattle.std.proofs.Common.{Ok, Err}
use borrow.Author.Tests.{lt-ltb, le-ltb}
use lib.Count.{ones}
use lib.Dec.{ltb}
use lib.ListN.{length, get_or, take}
use Rattle.lent.specs.Areas.{over}
use Rattle.lent.specs.Refusals.{no, number_of, answer_of}
use Rattle.lent.specs.declared.Refusal.{Refusal}
use Rattle.lent.specs.declared.Refusal.TheVariants.{ListTooLong, ListBroken, AreaTooSmall}
use Rattle.lines.specs.Events.{opened}
use Rattle.lines.specs.declared.Lines.{Lines}
use Rattle.lines.specs.declared.Eye.{Eye}
use Rattle.kinds.specs.Kinds.{most_bytes}
use Rattle.orders.specs.Form.{transactions_of}
use Rattle.orders.specs.Bytes.{Bytes}
use Rattle.orders.specs.Results.{area_of, batches, check_of, refusal_of, start_area}
use Rattle.orders.specs.Marks.{Log}
use Rattle.orders.specs.Start.{started_of}
use Rattle.orders.specs.declared.ListError.{ListError}
use Rattle.orders.specs.declared.ListError.TheVariants.{TooLong, Broken}
use Rattle.orders.proofs.Stands.{holds}
use Rattle.orders.proofs.Starts.{starts}
use Rattle.symbols.specs.Ticks.{Control, control_tick}
use Rattle.cursor.specs.Cursor.{Spot, places, opens_at}
use Rattle.controller.specs.Plan.{State, orders, opens}
use Rattle.controller.specs.Bound.{most_ticks}
use Rattle.controller.specs.Inside.{control_of, first_of}
use Rattle.controller.specs.Alone.{at_first}
use Rattle.controller.specs.declared.Controller.{Controller}
use Rattle.controller.proofs.Matches.{Matches, begun_matches, tick_matches}
use Rattle.controller.proofs.Simulation.{Same, asks_same, nexts_same, fails_same, starts_same}
use Rattle.controller.proofs.Bound.{first_left}
use Rattle.board.specs.Marks.{memories, state_row}
use Rattle.board.specs.Desk.{board_number, bus_number}
use Rattle.board.specs.Seats.{seated, offset, body_of, all_up, seats_from, seat_row}
use Rattle.board.specs.declared.Seat.{Seat}
use Rattle.board.proofs.Loading.{loaded_is, loaded_fits, loaded_up}
use Rattle.board.proofs.Places.{few as few_chips}
use Rattle.board.proofs.Range.{board_lengths}
use Rattle.board.proofs.Saving.{seat_row_lem}
use Rattle.board.proofs.Seated.{all_together}
use Rattle.wires.specs.Wires as Wires
use Rattle.wires.specs.Wires.{Ran, after, run}
use Rattle.wires.specs.Inside.{bus_on, limit, Went}
use Rattle.wires.specs.declared.Bus.{Bus}
use Rattle.wires.proofs.Runs.{run_enough}
use Rattle.bus.specs.Run.{Traced, traced, start, wire_run}
use Rattle.bus.specs.Inside.{Fine}
use Rattle.bus.proofs.Alike as alike
use Rattle.bus.proofs.Bounds.{over_in_time, most_within}

-- before the first tick
abbrev pub first_bus : List ℕ → Bus
first_bus list = record { control = first_of list; hold = record { left = 0; next = 0 }; eye = opened; up = true }

module _ (list : List ℕ) (size marks : ℕ) (memory states held : List ℕ) (asked : ℕ) (results trace : List ℕ)
    (fine : Fine list size marks memory states held asked results) where
  pub no_number : bus_number list marks memory states held asked results ≡ 0
  unfolding bus_number
  no_number =
      rw (fine.right, fine.board)
      (ap (no 7) (le-ltb (length results) (area_of (transactions_of list)) (subst (λ (n : ℕ). n ≤ length results) (holds list size fine.right).area fine.room)))

  module _ (bytes : (i : ℕ) → get_or list i 0 < 256) (byte : marks < 256) (seats : List Seat) (loaded : take (ones marks) seats ≡ seats_from marks states 8 0)
      (eight : length seats ≡ 8) where
    few : ones marks ≤ length seats
    few = rw eight (few_chips marks byte)

    -- what the loop asks
    pub memory_parts : length memory ≡ offset (ones marks) seats
    memory_parts = (board_lengths marks memory states held asked fine.board).0 ∙ sym (loaded_fits marks memory states seats loaded few)

    pub all_deaf : true ≡ all_up (seated (ones marks) seats memory)
    all_deaf = loaded_up marks memory states seats loaded few

    pub state_bytes_lem : length states ≡ 4 * ones marks
    state_bytes_lem = (board_lengths marks memory states held asked fine.board).1

    short : length list ≤ most_bytes
    short = (holds list size fine.right).short

    -- the two buses before the first tick
    begins : Wires.Bus Spot
    begins = bus_on held (first_bus list) (seated (ones marks) seats memory) (started_of list size results) 0

    rules : Wires.Bus State
    rules = start list marks memory states held results

    abbrev Alike : Control Spot → Control State → Type 0
    Alike = Matches (places list) orders (Same list short)

    ticks_alike : (l : Lines) (c : Control Spot) (d : Control State) → Alike c d → Alike (control_tick (places list) l c) (control_tick orders l d)
    ticks_alike l c d m = tick_matches (places list) orders (Same list short) (asks_same list short) (nexts_same list short) (fails_same list short) l c d m

    begin_alike : Alike (control_of (first_of list) (started_of list size results)) (at_first list results)
    begin_alike =
        let l : Log = record { area = start_area (transactions_of list) results } in
        rw (starts list size results fine.right fine.room)
        (begun_matches (places list) orders (Same list short) (asks_same list short) (nexts_same list short) (fails_same list short)
        (record { cursor = opens_at list 0 0; log = l }) (opens (batches 0 (transactions_of list)) l)
        (starts_same list short (transactions_of list) (holds list size fine.right).stands l))

    same : alike.SameRun (places list) orders asked Alike (λ c d m. m.phase) (λ c d m. m.was) ticks_alike
        (run (places list) asked limit begins) (run orders asked limit rules)
    unfolding begins rules
    same =
        alike.same_run (places list) orders asked Alike (λ c d m. m.phase) (λ c d m. m.was) ticks_alike limit begins rules
        (record { control = begin_alike; holding = refl; eye = refl; chips = loaded_is marks memory states seats loaded few })

    are_bytes : Bytes list
    unfolding Bytes
    are_bytes = bytes

    enough : run orders asked limit rules ≡ run orders asked (most_ticks (transactions_of list)) rules
    unfolding rules
    enough =
        run_enough orders asked (most_ticks (transactions_of list)) limit rules
        (over_in_time asked (most_ticks (transactions_of list)) rules (first_left list size results fine.right))
        (most_within list size are_bytes fine.right)

    -- what is left in the lent areas is what the rules say
    pub went_so : (b : Bus) (after : List Seat) (memory' states' results' trace' : List ℕ) (t : ℕ)
        → Went list asked (bus_on held (first_bus list) (seated (ones marks) seats memory) (started_of list size results) 0) trace
        (bus_on held b (seated (ones marks) after memory') results' t) t trace'
        → length memory' ≡ offset (ones marks) after → length after ≡ 8 → states' ≡ seat_row t (ones marks) after
        → traced (record { number = 0; ticks = t }) memory' states' results' trace' ≡ wire_run list marks memory states held asked results trace
    unfolding wire_run begins rules
    went_so b after memory' states' results' trace' t w fits eight' saved =
        let r : Ran orders asked = run orders asked (most_ticks (transactions_of list)) rules in
        let row : (run (places list) asked limit begins).row ≡ r.row = same.row ∙ ap (λ (x : Ran orders asked). x.row) enough in
        let chips : map (body_of t) (seated (ones marks) after memory') ≡ r.last.chips =
        ap (λ (x : Wires.Bus Spot). x.chips) w.last_is ∙ same.last.chips ∙ ap (λ (x : Ran orders asked). x.last.chips) enough in
        let area : results' ≡ r.last.control.plan.context.log.area =
        ap (λ (x : Wires.Bus Spot). x.control.plan.log.area) w.last_is ∙ ap (λ (x : Log). x.area) (sym same.last.control.plan.log)
        ∙ ap (λ (x : Ran orders asked). x.last.control.plan.context.log.area) enough in
        let room : ones marks ≤ length after = rw eight' (few_chips marks byte) in
        rw no_number
        (put_together t (length r.row) memory' (memories r.last.chips) states' (state_row r.last.chips) results' r.last.control.plan.context.log.area
        trace' (over r.row trace)
        (w.ticks_is ∙ ap length row) (sym (all_together t (ones marks) after memory' room fits) ∙ ap memories chips)
        (saved ∙ sym (seat_row_lem t (ones marks) after memory') ∙ ap state_row chips) area (w.trace_is ∙ ap (λ (x : List ℕ). over x trace) row))
      where
        put_together : (t u : ℕ) (a b c d e f g h : List ℕ) → t ≡ u → a ≡ b → c ≡ d → e ≡ f → g ≡ h
            → ◌≡◌ {A = Traced} (traced (record { number = 0; ticks = t }) a c e g)
            (record { outcome = record { answer = record { number = 0; ticks = u }; memory = b; states = d; results = f }; trace = h })
        put_together t u a b c d e f g h p q r s v = rw (p, q, r, s, v)

    -- the same in the code's words
    module _ (n : ℕ) (count : n ≡ ones marks) where
      pub loop_asks : (length memory ≡ offset n seats) × (true ≡ all_up (seated n seats memory))
      loop_asks = rw count (memory_parts, all_deaf)

      pub save_asks : (k : ℕ) → k ≡ n → length states ≡ 4 * k
      save_asks k e = rw (e, count) state_bytes_lem

      pub wires_so : (started : List ℕ) (control : Controller) (eye : Eye) (b : Bus) (after : List Seat) (memory' states' results' trace' : List ℕ) (t : ℕ)
          → started ≡ started_of list size results → control ≡ first_of list → eye ≡ opened
          → Went list asked
          (bus_on held (record { control = control; hold = record { left = 0; next = 0 }; eye = eye; up = true }) (seated n seats memory) started 0) trace
          (bus_on held b (seated n after memory') results' t) t trace'
          → length memory' ≡ offset n after → length after ≡ 8 → states' ≡ seat_row t n after
          → traced (record { number = 0; ticks = t }) memory' states' results' trace' ≡ wire_run list marks memory states held asked results trace
      wires_so started control eye b after memory' states' results' trace' t p q r w fits eight' saved =
          went_so b after memory' states' results' trace' t (rw (p, q, r, count) at w) (rw count at fits) eight' (rw count at saved)

module _ (list : List ℕ) (marks : ℕ) (memory states held : List ℕ) (asked : ℕ) (results trace : List ℕ) where
  turned_down_lem : (r : Refusal) → bus_number list marks memory states held asked results ≡ number_of r
      → traced (answer_of (Err r)) memory states results trace ≡ wire_run list marks memory states held asked results trace
  unfolding wire_run
  turned_down_lem r e = rw (e, refused_some r)

  pub list_refused : (e : ListError) → Err e ≡ check_of list
      → traced (answer_of (Err (refusal_of e))) memory states results trace ≡ wire_run list marks memory states held asked results trace
  unfolding bus_number
  list_refused TooLong h = turned_down_lem ListTooLong (rw (← h))
  list_refused (Broken b) h = turned_down_lem ListBroken (rw (← h))

  module _ (size : ℕ) (right : Ok size ≡ check_of list) where
    pub board_refused : (r : Refusal) → number_of r ≡ board_number marks memory states held asked
        → traced (answer_of (Err r)) memory states results trace ≡ wire_run list marks memory states held asked results trace
    unfolding bus_number
    board_refused r said =
        turned_down_lem r (rw (← right, ← said) (refused_first r (no 7 (ltb (length results) (area_of (transactions_of list))))))

    pub area_refused : 0 ≡ board_number marks memory states held asked → length results < size
        → traced (answer_of (Err AreaTooSmall)) memory states results trace ≡ wire_run list marks memory states held asked results trace
    unfolding bus_number
    area_refused said l =
        let a : length results < area_of (transactions_of list) = subst (λ (k : ℕ). length results < k) (holds list size (sym right)).area l in
        turned_down_lem AreaTooSmall (rw (← right, ← said, lt-ltb (length results) (area_of (transactions_of list)) a))
