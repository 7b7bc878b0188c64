-- The chips on the wires with the tick from which each is free, in place of a busy time that falls: what a tick makes of them. Above this file no busy
-- time is counted down. Assumes nothing.
use Prim.Native.Nat.{ℕ, suc, ◌+◌, ◌-◌}
use mathlib.Core.Path.{◌≡◌, refl, ap, ap₂}
use mathlib.Core.Bool.{Bool, true, false, ◌&&◌, cond}
use mathlib.Core.List.{List, [], ◌∷◌, map}
use native.Mathlib.Omega.{arith}
use borrow.Author.Tests.{leb-true, leb-false, eq-eqb, ne_eqb}
use lib.Dec.{eqb, leb}
use Rattle.std.specs.Prelude.{Option, Some, None}
use Rattle.lines.specs.Events.{delivered}
use Rattle.lines.specs.declared.Event.{Event}
use Rattle.lines.specs.declared.Event.TheVariants.{Quiet, Started, Stopped, Bit}
use Rattle.eeprom.specs.Stages.{Core, Body, hears, sda_of, due, body_tick}
use Rattle.wires.specs.Wires.{all_up}
use Rattle.agreement.proofs.Maps.{map_square, map_by, map_same}

pub record Timed : Type 0 where
  pub core : Core
  pub free : ℕ

-- the chip before tick t
abbrev pub body_at : ℕ → Timed → Body
body_at t z = record { core = z.core; busy = z.free - t }

abbrev pub bodies_at : ℕ → List Timed → List Body
bodies_at t zs = map (body_at t) zs

-- what the chip makes of START, or of a bit that is delivered in tick t
abbrev pub hears_at : ℕ → Event → Timed → Timed
hears_at t e z = record { core = hears (leb z.free t) e z.core; free = z.free }

-- and of a STOP, which ends before tick t
abbrev pub stops_at : (asked t : ℕ) → Timed → Timed
stops_at asked t z = record { core = hears true Stopped z.core; free = cond (due z.core) (t + asked) z.free }

-- no chip drives SDA 0
unfoldable pub up : List Timed → Bool
up [] = true
up (z ∷ zs) = sda_of z.core.stage && up zs

pub up_at : (t : ℕ) (zs : List Timed) → all_up (bodies_at t zs) ≡ up zs
unfolding up all_up
up_at t [] = refl
up_at t (z ∷ zs) = ap (λ x. sda_of z.core.stage && x) (up_at t zs)

body : Core → ℕ → Body
body c n = record { core = c; busy = n }

one_less : (f t : ℕ) → f - t - 1 ≡ f - suc t
one_less f t = omega arith

-- the busy time is over: counted down, or by the tick
over_by : (f t : ℕ) → eqb (f - t) 0 ≡ leb f t
over_by f t = go (leb f t) refl
  where
    go : (q : Bool) → leb f t ≡ q → eqb (f - t) 0 ≡ q
    go true e = let l : _ = leb-true f t e in eq-eqb (f - t) 0 (omega arith)
    go false e = let l : _ = leb-false f t e in ne_eqb (f - t) 0 (λ z. omega arith)

module _ (asked t : ℕ) where
  pub quiet_tick : (zs : List Timed) → map (body_tick asked Quiet) (bodies_at t zs) ≡ bodies_at (suc t) zs
  unfolding body_tick hears body
  quiet_tick = map_by _ _ _ (λ z. ap (body z.core) (one_less z.free t))

  deliver_one : (n : Option Bool) (z : Timed) → body_tick asked (delivered n) (body_at t z) ≡ body_at (suc t) (hears_at t (delivered n) z)
  unfolding body_tick body
  deliver_one None z = ap₂ (λ q m. body (hears q Quiet z.core) m) (over_by z.free t) (one_less z.free t)
  deliver_one (Some b) z = ap₂ (λ q m. body (hears q (Bit b) z.core) m) (over_by z.free t) (one_less z.free t)

  pub deliver_tick : (n : Option Bool) (zs : List Timed) → map (body_tick asked (delivered n)) (bodies_at t zs) ≡ bodies_at (suc t) (map (hears_at t (delivered n)) zs)
  deliver_tick n = map_square _ _ _ _ (deliver_one n)

  pub start_tick : (zs : List Timed) → map (body_tick asked Started) (bodies_at t zs) ≡ bodies_at (suc t) (map (hears_at (suc t) Started) zs)
  unfolding body_tick hears body
  start_tick = map_square _ _ _ _ (λ z. ap (body (hears true Started z.core)) (one_less z.free t))

  stop_busy : (f : ℕ) (q : Bool) → cond q asked (f - t - 1) ≡ cond q (suc t + asked) f - suc t
  stop_busy f true = omega arith
  stop_busy f false = omega arith

  pub stop_tick : (zs : List Timed) → map (body_tick asked Stopped) (bodies_at t zs) ≡ bodies_at (suc t) (map (stops_at asked (suc t)) zs)
  unfolding body_tick hears body
  stop_tick = map_square _ _ _ _ (λ z. ap (body (hears true Stopped z.core)) (stop_busy z.free (due z.core)))

  pub quiet_same : (zs : List Timed) → map (hears_at t Quiet) zs ≡ zs
  unfolding hears
  quiet_same = map_same _ (λ z. refl)
