-- The whole entry: refusals in their order, the board as it is loaded, and what is handed back. Assumes nothing.
use Prim.Native.Nat.{ℕ, suc, ◌*◌, ◌<◌, ◌≤◌}
use native.Mathlib.Nat.{sub-zero}
use native.Mathlib.Omega.{arith}
use mathlib.Core.Path.{◌≡◌, refl, ap, ap₂, sym, ◌∙◌}
use mathlib.Core.List.{List, [], ◌∷◌, ◌++◌, map}
use borrow.Author.Tests.{lt-ltb, le-ltb}
use lib.Count.{ones}
use lib.Dec.{ltb}
use lib.ListN.{length, take}
use Rattle.lent.proofs.Refusals.{refused_some, refused_first}
use Rattle.std.specs.Prelude.{Result, Ok, Err}
use Rattle.lent.specs.Refusals.{answer_of, no, number_of, refused_as, ◌then◌}
use Rattle.lent.specs.declared.Refusal.{Refusal}
use Rattle.lent.specs.declared.Refusal.TheVariants.{ListTooLong, ListBroken, AreaTooSmall}
use Rattle.kinds.specs.Kinds.{most_bytes}
use Rattle.orders.specs.Form.{transactions_of}
use Rattle.orders.specs.Results.{start_area, check_of, refusal_of}
use Rattle.orders.specs.Start.{started_of}
use Rattle.orders.specs.declared.ListError.{ListError}
use Rattle.orders.specs.declared.ListError.TheVariants.{TooLong, Broken}
use Rattle.orders.proofs.Stands.{holds}
use Rattle.orders.proofs.Starts.{starts}
use Rattle.board.specs.Marks.{memory_at, bodies, memories, state_row}
use Rattle.board.specs.Desk.{Outcome, board_number, bus_number}
use Rattle.board.specs.Seats.{Seated, seated, offset, seats_from, seat_row}
use Rattle.board.specs.Seats as seats
use Rattle.board.specs.declared.Chips.{Chips}
use Rattle.board.proofs.Range.{board_lengths}
use Rattle.board.proofs.Loading.{loaded_is, loaded_fits}
use Rattle.board.proofs.Seated.{all_together}
use Rattle.board.proofs.Saving.{seat_row_lem}
use Rattle.plain.specs.Plain.{Cell, World, transactions}
use Rattle.plain.specs.Inside.{far, time_of, cell_on, cells_of}
use Rattle.plain.proofs.Cells.{cells_length}
use Rattle.plain.proofs.Counting.{transactions_count}
use Rattle.messages.specs.Inside.{world_of, Sound, Comes}
use Rattle.messages.specs.Along.{batches_at}
use Rattle.messages.specs.declared.Run.{Run}
use Rattle.messages.proofs.Listed.{listed}
use Rattle.reading.specs.Read.{cell_of, body_of, plain, plain_run}

-- chips as they come and go

cells_are : (xs : List Seated) → map cell_of (map (seats.body_of 0) xs) ≡ map cell_on xs
cells_are [] = refl
cells_are (x ∷ xs) = ap₂ (λ (f : ℕ) (cs : List Cell). record { kept = (cell_on x).kept; free = f } ∷ cs) (sub-zero x.seat.free) (cells_are xs)

memories_are : (t : ℕ) (xs : List Seated) → memories (map (body_of t) (map cell_on xs)) ≡ memories (map (seats.body_of t) xs)
unfolding memories
memories_are t [] = refl
memories_are t (x ∷ xs) = ap (λ (l : List ℕ). x.memory ++ l) (memories_are t xs)

states_are : (t : ℕ) (xs : List Seated) → state_row (map (body_of t) (map cell_on xs)) ≡ state_row (map (seats.body_of t) xs)
unfolding state_row
states_are t [] = refl
states_are t (x ∷ xs) = rw (states_are t xs)

-- what the desk turns down

abbrev outcome_of : Result ℕ Refusal → (memory states results : List ℕ) → Outcome
outcome_of r m st l = record { answer = answer_of r; memory = m; states = st; results = l }

module _ (list : List ℕ) (marks : ℕ) (memory states held : List ℕ) (asked : ℕ) (results : List ℕ) where
  abbrev number : ℕ
  number = bus_number list marks memory states held asked results

  turned_down_lem : (r : Refusal) → number ≡ number_of r → outcome_of (Err r) memory states results ≡ plain_run list marks memory states held asked results
  unfolding plain_run
  turned_down_lem r e = rw (e, refused_some r)

  pub list_wrong : (x : Result ℕ ListError) → x ≡ check_of list → (e : ListError) → x ≡ Err e
      → outcome_of (Err (refusal_of e)) memory states results ≡ plain_run list marks memory states held asked results
  unfolding bus_number
  list_wrong x checked TooLong c = turned_down_lem ListTooLong (rw (← checked, c))
  list_wrong x checked (Broken b) c = turned_down_lem ListBroken (rw (← checked, c))

  module _ (x : Result ℕ ListError) (checked : x ≡ check_of list) (size : ℕ) (accepted : x ≡ Ok size) (b : Result (Unit {0}) Refusal)
      (board : refused_as b ≡ board_number marks memory states held asked) where
    right : check_of list ≡ Ok size
    right = sym checked ∙ accepted

    after_list : number ≡ refused_as b then no 7 (ltb (length results) size)
    unfolding bus_number
    after_list = rw (right, ← board, (holds list size right).area)

    pub board_wrong : (r : Refusal) → b ≡ Err r → outcome_of (Err r) memory states results ≡ plain_run list marks memory states held asked results
    board_wrong r e = turned_down_lem r (after_list ∙ rw e (refused_first r (no 7 (ltb (length results) size))))

    module _ (u : Unit {0}) (fine : b ≡ Ok u) where
      pub area_too_small : length results < size → outcome_of (Err AreaTooSmall) memory states results ≡ plain_run list marks memory states held asked results
      area_too_small h = turned_down_lem AreaTooSmall (after_list ∙ rw (fine, lt-ltb (length results) size h))

      -- accepted
      module _ (room : size ≤ length results) where
        none_wrong : number ≡ 0
        none_wrong = after_list ∙ rw (fine, le-ltb (length results) size room)

        module _ (c : Chips) (begun_area : List ℕ) (started : begun_area ≡ started_of list size results) (loaded : take (ones marks) c.seats ≡ seats_from marks states 8 0)
            (count : c.count ≡ ones marks) (all : length c.seats ≡ 8) where
          abbrev begun : Run
          begun = record { time = record { now = 0; next = 0 }; chips = c }

          seen : ones marks ≤ length c.seats
          seen = let few = c.few in omega arith

          wide : (length memory ≡ memory_at marks 8) × (length states ≡ 4 * ones marks)
          wide = board_lengths marks memory states held asked (sym board ∙ ap refused_as fine)

          pub begun_sound : Sound begun memory
          begun_sound = record { fits = ap (λ (n : ℕ). offset n c.seats) count ∙ loaded_fits marks memory states c.seats loaded seen ∙ sym wide.0 }

          pub short : length list ≤ most_bytes
          short = (holds list size right).short

          first_world : world_of begun held memory begun_area
              ≡ record { clock = record { now = 0; holds = held }; cells = map cell_of (bodies marks memory states); log = record { area = start_area (transactions_of list) results } }
          unfolding world_of time_of cells_of
          first_world =
              ap₂ (λ (cs : List Cell) (l : List ℕ). record { clock = record { now = 0; holds = held }; cells = cs; log = record { area = l } })
              (ap (λ (n : ℕ). map cell_on (seated n c.seats memory)) count ∙ sym (cells_are (seated (ones marks) c.seats memory)) ∙ ap (map cell_of) (loaded_is marks memory states c.seats loaded seen))
              (started ∙ starts list size results right room)

          module _ (r : Run) (m l : List ℕ) (ended : Comes held m l (transactions asked (batches_at (suc (length list)) list (record { at = 0; slot = 0 })) (world_of begun held memory begun_area)) far r)
              (all_left : length r.chips.seats ≡ 8) where
            last_world : world_of r held m l ≡ plain list marks memory states held asked results
            unfolding plain
            last_world = ended.is ∙ ap₂ (transactions asked) (listed (suc (length list)) (holds list size right).stands (omega arith) 0) first_world

            left : r.chips.count ≤ length r.chips.seats
            left = let few = r.chips.few in omega arith

            -- no chip came or went
            same_count : r.chips.count ≡ c.count
            unfolding world_of
            same_count =
                sym (cells_length r.chips.count r.chips.seats left m) ∙ ap (λ (w : World). length w.cells) ended.is
                ∙ transactions_count asked (batches_at (suc (length list)) list (record { at = 0; slot = 0 })) (world_of begun held memory begun_area)
                ∙ cells_length c.count c.seats (let s = seen in omega arith) memory

            pub row_long : length states ≡ 4 * r.chips.count
            row_long = wide.1 ∙ ap (λ (n : ℕ). 4 * n) (sym (same_count ∙ count))

            pub ran_so : (st : List ℕ) → st ≡ seat_row r.time.now r.chips.count r.chips.seats
                → outcome_of (Ok r.time.now) m st l ≡ plain_run list marks memory states held asked results
            unfolding plain_run world_of time_of cells_of
            ran_so st se =
                let t : ℕ = r.time.now in
                let ys : List Seated = seated r.chips.count r.chips.seats m in
                let me : memories (map (body_of t) (map cell_on ys)) ≡ m = memories_are t ys ∙ all_together t r.chips.count r.chips.seats m left (sym ended.sound.fits) in
                let ste : state_row (map (body_of t) (map cell_on ys)) ≡ st = states_are t ys ∙ seat_row_lem t r.chips.count r.chips.seats m ∙ sym se in
                rw (none_wrong, ← last_world) (ap₂ (λ (a b : List ℕ). record { answer = record { number = 0; ticks = t }; memory = a; states = b; results = l }) (sym me) (sym ste))
