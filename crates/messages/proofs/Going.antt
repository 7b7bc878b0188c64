-- What one step makes of the rules' world: a byte that goes by while the chips take a step, a START, a STOP; and who answers. Assumes nothing.
use Prim.Native.Nat.{ℕ, ◌+◌}
use mathlib.Core.Path.{◌≡◌, ap, ap₂, ◌∙◌}
use mathlib.Core.Bool.{Bool}
use mathlib.Core.List.{List, map}
use lib.ListN.{length, get_or, set}
use Rattle.orders.specs.Marks.{Mark, note_area, note}
use Rattle.store.specs.Keeping.{Kept, starts}
use Rattle.board.specs.Seats.{offset}
use Rattle.board.specs.declared.Chips.{Chips}
use Rattle.plain.specs.Clock.{Clock, symbol, symbols, pass}
use Rattle.plain.specs.Plain.{Cell, World, does, only, any_of, listens, answered, byte_goes, started, stores, closes}
use Rattle.plain.specs.Inside.{symbol_most, time_of, Passes, cells_of, Becomes}
use Rattle.plain.specs.declared.Call.{Call}
use Rattle.plain.specs.declared.Time.{Time}
use Rattle.messages.specs.Inside.{Sound, world_of, Comes, Goes}
use Rattle.messages.specs.Along.{slot_of}
use Rattle.messages.specs.declared.Run.{Run}
use Rattle.messages.specs.declared.Place.{Place}

abbrev world : Clock → List Cell → List ℕ → World
world c xs l = record { clock = c; cells = xs; log = record { area = l } }

-- the tick of a time
pub tick_is : (holds : List ℕ) (t : Time) (c : Clock) → time_of t holds ≡ c → t.now ≡ c.now
unfolding time_of
tick_is holds t c e = ap (λ (k : Clock). k.now) e

-- each chip takes a step, and the time is this one

pub still_sound : (h : Cell → Cell) (x r : Run) (m : List ℕ) → Becomes h x.chips r.chips → Sound x m → Sound r m
still_sound h x r m steps s = record { fits = steps.fits ∙ s.fits }

went : (holds : List ℕ) (h : Cell → Cell) (x r : Run) → Becomes h x.chips r.chips → (m : List ℕ) (c : Clock) (l : List ℕ) → time_of r.time holds ≡ c
    → world_of r holds m l ≡ world c (map h (cells_of x.chips.count x.chips.seats m)) l
unfolding world_of
went holds h x r steps m c l e = ap₂ (λ (k : Clock) (xs : List Cell). world k xs l) e (steps.cells m)

-- nine symbols are a byte, with what is noted at its end
pub byte_went : (holds : List ℕ) (f : Cell → Bool) (g : Kept → Kept) (x r : Run) → Goes holds 9 (only f g) x r → (m l l' : List ℕ) (k : Mark) (s : ℕ)
    → l' ≡ note_area k s l → world_of r holds m l' ≡ byte_goes f g k s (world_of x holds m l)
unfolding world_of note
byte_went holds f g x r goes m l l' k s e =
    went holds (only f g) x r goes.chips m _ l' goes.time.is ∙ ap (world (symbols 9 (time_of x.time holds)) (map (only f g) (cells_of x.chips.count x.chips.seats m))) e

-- START, after a symbol or a wait

module _ (holds : List ℕ) (x r : Run) (t : Time) (now : r.time ≡ t) (steps : Becomes (does starts) x.chips r.chips) (m l : List ℕ) where
  begun : (c : Clock) → time_of t holds ≡ c → world_of r holds m l ≡ started c (world_of x holds m l)
  unfolding world_of
  begun c e = went holds (does starts) x r steps m c l (ap (λ (u : Time). time_of u holds) now ∙ e)

  pub restarted : time_of t holds ≡ symbol (time_of x.time holds) → world_of r holds m l ≡ started (symbol (world_of x holds m l).clock) (world_of x holds m l)
  unfolding world_of
  restarted e = begun (symbol (time_of x.time holds)) e

  pub waited : (n : ℕ) → time_of t holds ≡ pass n (time_of x.time holds) → world_of r holds m l ≡ started (pass n (world_of x holds m l).clock) (world_of x holds m l)
  unfolding world_of
  waited n e = begun (pass n (time_of x.time holds)) e

-- who answers

pub answered_so : (holds s : List ℕ) (x : Run) (p : Place) (k : Call) (r : Bool) → k.address ≡ get_or s p.at 0 → k.tick ≡ (symbols 8 (time_of x.time holds)).now
    → ((m : List ℕ) → r ≡ any_of (listens k.address k.tick) (cells_of x.chips.count x.chips.seats m)) → (m l : List ℕ) → r ≡ answered (slot_of s p) (world_of x holds m l)
unfolding world_of
answered_so holds s x p k r ae te said m l = said m ∙ ap₂ (λ (b t : ℕ). any_of (listens b t) (cells_of x.chips.count x.chips.seats m)) ae te

-- STOP

pub closed_so : (holds : List ℕ) (x : Run) (m m' l l' : List ℕ) (asked top : ℕ) (e : Time) (y : Chips)
    → Passes holds (symbol (time_of x.time holds)) (x.time.now + symbol_most) e
    → cells_of y.count y.seats m' ≡ map (stores asked e.now) (cells_of x.chips.count x.chips.seats m) → offset y.count y.seats ≡ length m' → l' ≡ set l top 0
    → Comes holds m' l' (closes asked top (world_of x holds m l)) (x.time.now + symbol_most) (record { time = e; chips = y })
unfolding world_of note
closed_so holds x m m' l l' asked top e y p cs f le =
    record {
      is =
          ap₂ (λ (c : Clock) (xs : List Cell). world c xs l') p.is
          (cs ∙ ap (λ (t : ℕ). map (stores asked t) (cells_of x.chips.count x.chips.seats m)) (tick_is holds e (symbol (time_of x.time holds)) p.is))
          ∙ ap (world (symbol (time_of x.time holds)) (map (stores asked (symbol (time_of x.time holds)).now) (cells_of x.chips.count x.chips.seats m))) le;
      sound = record { fits = f };
      soon = p.soon;
    }
