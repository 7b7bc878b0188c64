-- Inside: the code's chips, side by side with their parts of the lent memory, as the rules' chips at a tick. No entry cites it. Assumes nothing.
use Rattle.std.specs.Prelude.{ℕ, zero, suc, ◌+◌, ◌-◌, ◌*◌, Bool, true, false, ◌&&◌, cond, List, [], ◌∷◌, leb, take, drop}
use Rattle.lines.specs.Levels.{bit_at}
use Rattle.lines.specs.declared.Event.{Event}
use Rattle.lines.specs.declared.Event.TheVariants.{Quiet, Started, Stopped, Bit}
use Rattle.store.specs.Pages.{geometry_of}
use Rattle.store.specs.Keeping.{kept_at}
use Rattle.eeprom.specs.Stages.{Core, Body, core_of, due, hears, sda_of}
use Rattle.eeprom.specs.States.{word_at, word_bytes}
use Rattle.eeprom.specs.declared.Stage.{Stage}
use Rattle.eeprom.specs.declared.Stage.TheVariants.{Deaf, Naming, Named, Taking, Taken, Sending, Asking}
use Rattle.board.specs.Marks.{model_at, place_of}
use Rattle.board.specs.declared.Seat.{Seat}

pub record Seated : Type 0 where
  pub seat : Seat
  pub memory : List ℕ

abbrev pub parted : Seat → List ℕ → Seated
parted x m = record { seat = x; memory = m }

abbrev pub size_of : Seat → ℕ
size_of x = (geometry_of x.chip.store.model).size

-- the first n seats, each with its part of the memory
unfoldable pub seated : ℕ → List Seat → List ℕ → List Seated
seated zero xs m = []
seated (suc n) [] m = []
seated (suc n) (x ∷ xs) m = parted x (take (size_of x) m) ∷ seated n xs (drop (size_of x) m)

-- where the part of seat i begins
unfoldable pub offset : ℕ → List Seat → ℕ
offset zero xs = 0
offset (suc i) [] = 0
offset (suc i) (x ∷ xs) = size_of x + offset i xs

-- busy until a tick is busy ticks left
abbrev pub body_of : (tick : ℕ) → Seated → Body
body_of t x = record { core = core_of x.seat.chip x.memory; busy = x.seat.free - t }

-- what an event of tick t makes of a chip and its memory: an answer is decided by whether the chip is free at t, and a STOP that stores makes it busy for
-- the asked time from the tick after on
abbrev pub free_after : (asked tick : ℕ) → Event → (due : Bool) → ℕ → ℕ
free_after asked t Quiet d f = f
free_after asked t Started d f = f
free_after asked t Stopped d f = cond d (t + 1 + asked) f
free_after asked t (Bit b) d f = f

abbrev pub core_at : (tick : ℕ) → Event → Seated → Core
core_at t e x = hears (leb x.seat.free t) e (core_of x.seat.chip x.memory)

abbrev pub heard : (asked tick : ℕ) → Event → Seated → Seated
heard asked t e x =
    record {
      seat = record {
        chip = record { stage = (core_at t e x).stage; store = (core_at t e x).kept.store };
        free = free_after asked t e (due (core_of x.seat.chip x.memory)) x.seat.free;
      };
      memory = (core_at t e x).kept.memory;
    }

-- a deaf chip hears no bit
abbrev pub is_deaf : Stage → Bool
is_deaf Deaf = true
is_deaf (Naming n x) = false
is_deaf (Named r) = false
is_deaf (Taking n x) = false
is_deaf Taken = false
is_deaf (Sending n x) = false
is_deaf Asking = false

abbrev pub is_bit : Event → Bool
is_bit Quiet = false
is_bit Started = false
is_bit Stopped = false
is_bit (Bit b) = true

-- no chip drives SDA 0
unfoldable pub all_up : List Seated → Bool
all_up [] = true
all_up (x ∷ xs) = sda_of x.seat.chip.stage && all_up xs

-- the chips that the marks name, before the first tick: n straps from s on
module _ (marks : ℕ) (states : List ℕ) where
  abbrev pub seat_at : ℕ → Seat
  seat_at s =
      record {
        chip = record { stage = Deaf; store = (kept_at (80 + s) (model_at marks s) (word_at states (4 * place_of marks s)) []).store };
        free = word_at states (4 * place_of marks s + 2);
      }

  unfoldable pub seats_from : (n s : ℕ) → List Seat
  seats_from zero s = []
  seats_from (suc n) s = let rest : List Seat = seats_from n (suc s) in cond (bit_at s marks) (seat_at s ∷ rest) rest

-- the state bytes of a seat, and of the first n
abbrev pub seat_bytes : (tick : ℕ) → Seat → List ℕ → List ℕ
seat_bytes t x rest = word_bytes x.chip.store.pointer (word_bytes (x.free - t) rest)

unfoldable pub seat_row : (tick n : ℕ) → List Seat → List ℕ
seat_row t zero xs = []
seat_row t (suc n) [] = []
seat_row t (suc n) (x ∷ xs) = seat_bytes t x (seat_row t n xs)
