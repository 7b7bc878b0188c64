-- Demand 3 over the transactions of a list: the bus at the plain reading's last tick, all of it, and no fault before. Assumes nothing.
use Prim.Native.Nat.{ℕ, ◌<◌}
use mathlib.Core.Path.{◌≡◌, refl, ap, sym, ◌∙◌, subst}
use mathlib.Core.Bool.{Bool, true}
use mathlib.Core.List.{List, [], ◌++◌, map, append-nil}
use native.Mathlib.Omega.{arith}
use Rattle.std.specs.Prelude.{None}
use Rattle.lines.specs.Levels.{hi, ◌∥◌, released}
use Rattle.lines.specs.Events.{opened}
use Rattle.orders.specs.Results.{Batch}
use Rattle.orders.specs.Marks.{Log}
use Rattle.symbols.specs.Ticks.{begun}
use Rattle.symbols.specs.declared.Phase.TheVariants.{Over}
use Rattle.controller.specs.Plan.{State, opens, orders}
use Rattle.eeprom.specs.Stages.{Body, sda_of}
use Rattle.eeprom.specs.declared.Stage.TheVariants.{Deaf}
use Rattle.wires.specs.Wires.{Bus, all_up, lines_on, after}
use Rattle.plain.specs.Plain.{Cell, World, transactions}
use Rattle.reading.specs.Read.{cell_of, body_of}
use Rattle.agreement.proofs.Maps.{map_by}
use Rattle.agreement.proofs.Time.{body_at, up, up_at}
use Rattle.agreement.proofs.Standing.{Small}
use Rattle.agreement.proofs.Interface.{Idle}
use Rattle.agreement.proofs.Moments.{Clean}
use Rattle.agreement.proofs.Faultless.{faultless}
use Rattle.agreement.proofs.Tuned.{wake, up_wake}
use Rattle.agreement.proofs.Good.{Good}
use Rattle.agreement.proofs.Lists.{Runnables, list_goes}
use Rattle.agreement.proofs.Board.{Asleep, asleep_at}

-- before the first tick; after the last, at tick t
abbrev pub first : List Batch → Log → List ℕ → List Body → Bus State
first ts l hs bs = record { control = begun orders (opens ts l); holding = record { left = 0; list = hs }; eye = opened; chips = bs }

abbrev pub final_with : World → List Body → Bus State
final_with w bs =
    record {
      control = record { phase = Over None; was = hi; plan = opens [] w.log };
      holding = record { left = 0; list = w.clock.holds };
      eye = opened;
      chips = bs;
    }

abbrev pub final : World → Bus State
final w = final_with w (map (body_of w.clock.now) w.cells)

-- the plain reading from there
abbrev pub reads : (asked : ℕ) → List Batch → Log → List ℕ → List Body → World
reads asked ts l hs bs = transactions asked ts (record { clock = record { now = 0; holds = hs }; cells = map cell_of bs; log = l })

deaf_up : (cs : List Cell) → up (map (wake Deaf) cs) ≡ true
unfolding sda_of
deaf_up = up_wake Deaf refl

-- there both lines are let go
pub final_lines : (asked : ℕ) (w : World) → lines_on orders asked (final w) ≡ released
final_lines asked w = ap (λ (x : Bool). hi ∥ x) (let_go w.cells)
  where
    let_go : (cs : List Cell) → all_up (map (body_of w.clock.now) cs) ≡ true
    let_go cs = ap all_up (sym (map_by (body_at w.clock.now) (wake Deaf) (body_of w.clock.now) (λ c. refl) cs)) ∙ up_at w.clock.now (map (wake Deaf) cs) ∙ deaf_up cs

pub record Agrees (asked : ℕ) (b : Bus State) (w : World) : Type 0 where
  pub last : after orders asked w.clock.now b ≡ final w
  pub clean : (n : ℕ) → n < w.clock.now → Clean orders asked (after orders asked n b)

module _ (asked : ℕ) (ts : List Batch) (l : Log) (hs : List ℕ) (bs : List Body) (k : Runnables ts) (s : Small hs) (a : Asleep bs) (g : Good (map cell_of bs)) where
  -- after the transactions of a list the bus is at rest, those that follow still to come
  pub rests : (later : List Batch)
      → let w = reads asked ts l hs bs in
      let b = first (ts ++ later) l hs bs in
      Idle orders asked (faultless orders asked b) (faultless orders asked b).Before w.clock (opens later w.log) (map (wake Deaf) w.cells)
  unfolding after
  rests later =
      list_goes asked (faultless orders asked (first (ts ++ later) l hs bs)) (λ κ d zs t. t) ts later l (map cell_of bs) k g
      (record { rest = record { is = ap (first (ts ++ later) l hs) (asleep_at bs a); small = s }; tale = λ n h. absurd (omega arith) })

  pub agree : Agrees asked (first ts l hs bs) (reads asked ts l hs bs)
  agree =
      let w : World = reads asked ts l hs bs in
      subst (λ (us : List Batch). Agrees asked (first us l hs bs) w) (append-nil ts)
      (record {
        last = (rests []).rest.is
            ∙ ap (final_with w)
            (map_by (body_at w.clock.now) (wake Deaf) (body_of w.clock.now) (λ c. refl) w.cells);
        clean = (rests []).tale;
      })
