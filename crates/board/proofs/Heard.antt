-- What the code's chips make of an event in a tick is what the rules' chips make of it: busy until a tick against busy ticks left. Assumes nothing.
use Prim.Native.Nat.{ℕ, suc, ◌+◌, ◌-◌, ◌≤◌, ◌<◌}
use native.Mathlib.Omega.{arith}
use mathlib.Core.Path.{◌≡◌, refl, ap, ap₂, sym, ◌∙◌}
use mathlib.Core.Bool.{Bool, true, false, cond, ◌&&◌}
use mathlib.Core.List.{List, [], ◌∷◌, ◌++◌, map}
use borrow.Author.Tests.{eq-eqb, ne_eqb, leb-true, leb-false}
use lib.Dec.{eqb, leb}
use Rattle.std.proofs.Math.Bool.{and-true}
use Rattle.lines.specs.Events.{is_quiet}
use Rattle.lines.specs.declared.Event.{Event}
use Rattle.lines.specs.declared.Event.TheVariants.{Quiet, Started, Stopped, Bit}
use Rattle.eeprom.specs.Stages.{Core, core_of, due, hears, sda_of, body_tick, busy_after}
use Rattle.eeprom.specs.declared.Chip.{Chip}
use Rattle.board.specs.Seats.{Seated, parted, body_of, free_after, heard, all_up}
use Rattle.board.specs.declared.Seat.{Seat}

-- free at a tick: no busy ticks are left
pub free_is : (f t : ℕ) → eqb (f - t) 0 ≡ leb f t
free_is f t = go (leb f t) refl
  where
    yes_free : (f t : ℕ) → f ≤ t → f - t ≡ 0
    yes_free f t h = omega arith

    not_free : (f t : ℕ) → t < f → f - t ≡ 0 → ⊥
    not_free f t h e = omega arith

    go : (b : Bool) → leb f t ≡ b → eqb (f - t) 0 ≡ b
    go true e = eq-eqb (f - t) 0 (yes_free f t (leb-true f t e))
    go false e = ne_eqb (f - t) 0 (not_free f t (leb-false f t e))

busy_is : (asked t : ℕ) (e : Event) (c : Core) (f : ℕ) → free_after asked t e (due c) f - suc t ≡ busy_after asked e c (f - t)
busy_is asked t Quiet c f = omega arith
busy_is asked t Started c f = omega arith
busy_is asked t Stopped c f = go (due c)
  where
    go : (b : Bool) → cond b (t + 1 + asked) f - suc t ≡ cond b asked (f - t - 1)
    go true = omega arith
    go false = omega arith
busy_is asked t (Bit b) c f = omega arith

-- a chip's own answer, put together with the tick from which it is free
pub heard_so : (asked t : ℕ) (e : Event) (x : Seat) (m n : List ℕ) (y : Chip) (d : Bool) (f : ℕ) → core_of y n ≡ hears (leb x.free t) e (core_of x.chip m)
    → ((k : List ℕ) → d ≡ due (core_of x.chip k)) → f ≡ free_after asked t e d x.free
    → parted (record { chip = y; free = f }) n ≡ heard asked t e (parted x m)
heard_so asked t e x m n y d f p q r =
    ap₂ (λ (c : Core) (g : ℕ). parted (record { chip = record { stage = c.stage; store = c.kept.store }; free = g }) c.kept.memory) p
    (r ∙ ap (λ (b : Bool). free_after asked t e b x.free) (q m))

heard_one : (asked t : ℕ) (e : Event) (x : Seated) → body_of (suc t) (heard asked t e x) ≡ body_tick asked e (body_of t x)
unfolding body_tick
heard_one asked t e x =
    ap₂ (λ (b : Bool) (n : ℕ). record { core = hears b e (core_of x.seat.chip x.memory); busy = n }) (sym (free_is x.seat.free t))
    (busy_is asked t e (core_of x.seat.chip x.memory) x.seat.free)

quiet_one : (asked t : ℕ) (x : Seated) → body_of (suc t) x ≡ body_tick asked Quiet (body_of t x)
unfolding body_tick hears
quiet_one asked t x = ap (λ (n : ℕ). record { core = core_of x.seat.chip x.memory; busy = n }) (num x.seat.free t)
  where
    num : (f t : ℕ) → f - suc t ≡ f - t - 1
    num f t = omega arith

-- all chips of a bus
pub all_heard : (asked t : ℕ) (e : Event) (xs : List Seated) → map (body_of (suc t)) (map (heard asked t e) xs) ≡ map (body_tick asked e) (map (body_of t) xs)
all_heard asked t e [] = refl
all_heard asked t e (x ∷ xs) = ap₂ ◌∷◌ (heard_one asked t e x) (all_heard asked t e xs)

-- a quiet tick touches none
pub none_heard : (asked t : ℕ) (e : Event) → is_quiet e ≡ true → (xs : List Seated) → map (body_of (suc t)) xs ≡ map (body_tick asked e) (map (body_of t) xs)
none_heard asked t Quiet q [] = refl
none_heard asked t Quiet q (x ∷ xs) = ap₂ ◌∷◌ (quiet_one asked t x) (none_heard asked t Quiet q xs)
none_heard asked t Started q xs = cc
none_heard asked t Stopped q xs = cc
none_heard asked t (Bit b) q xs = cc

-- what they drive, one chip more
pub up_append : (xs : List Seated) (y : Seated) → all_up (xs ++ (y ∷ [])) ≡ all_up xs && sda_of y.seat.chip.stage
unfolding all_up
up_append [] y = and-true (sda_of y.seat.chip.stage)
up_append (x ∷ xs) y =
    ap (λ (b : Bool). sda_of x.seat.chip.stage && b) (up_append xs y) ∙ assoc (sda_of x.seat.chip.stage) (all_up xs) (sda_of y.seat.chip.stage)
  where
    assoc : (a b c : Bool) → a && (b && c) ≡ a && b && c
    assoc true b c = refl
    assoc false b c = refl
