-- The entry "one chip alone": its refusals in its order, and all that comes out (paper 01, "When the desk says no"). Assumes nothing.
use Rattle.std.specs.Prelude.{ℕ, false, not, ◌&&◌, cond, List, [], eqb, ltb, length}
use Rattle.lent.specs.Areas.{over}
use Rattle.lent.specs.Refusals.{no, ◌then◌, Answer}
use Rattle.lines.specs.Levels.{hi, ◌∥◌}
use Rattle.lines.specs.Events.{event_of, eye_after, opened}
use Rattle.lines.specs.Records.{Party, walk, drives_on, bad_sample}
use Rattle.lines.specs.declared.Eye.{Eye}
use Rattle.store.specs.Pages.{geometry_of}
use Rattle.store.specs.declared.Model.TheVariants.{Large}
use Rattle.eeprom.specs.Stages.{Body, core_of, body_tick, sda_of}
use Rattle.eeprom.specs.States.{most_busy, body_from, state_bytes, state_right}
use Rattle.lone_chip.specs.declared.Watch.{Watch}

pub record Watching : Type 0 where
  pub eye : Eye
  pub body : Body

-- the code's chip with its lent memory
abbrev pub watch_of : Watch → List ℕ → Watching
watch_of w m = record { eye = w.eye; body = record { core = core_of w.chip m; busy = w.busy } }

-- before the first tick: lines 1,1
abbrev pub rest_of : Body → Watching
rest_of b = record { eye = opened; body = b }

-- it compares each tick's lines with the tick before; it never drives SCL
abbrev pub chip : (asked : ℕ) → Party
chip asked =
    record {
      State = Watching;
      ended = λ c. false;
      drive = λ c. hi ∥ sda_of c.body.core.stage;
      tick = λ l c. record { eye = eye_after c.eye l; body = body_tick asked (event_of c.eye l) c.body };
    }

-- looked at in the order 10, 3, 4, 6, 8, 9
unfoldable pub chip_number : (strap : ℕ) → (memory state : List ℕ) → (asked : ℕ) → (samples drives : List ℕ) → ℕ
chip_number strap memory state asked samples drives =
    no 10 (ltb 7 strap)
    then no 3 (not (eqb (length memory) (geometry_of Large).size && eqb (length state) 4))
    then no 4 (not (state_right (body_from strap Large memory state 0)))
    then no 6 (ltb most_busy asked)
    then no 8 (bad_sample samples)
    then no 9 (ltb (length drives) (length samples))

pub record ChipAlone : Type 0 where
  pub answer : Answer
  pub memory : List ℕ
  pub state : List ℕ
  pub drives : List ℕ

abbrev pub left_by : Answer → (memory state drives : List ℕ) → ChipAlone
left_by r memory state drives = record { answer = r; memory = memory; state = state; drives = drives }

unfoldable pub chip_alone : (strap : ℕ) → (memory state : List ℕ) → (asked : ℕ) → (samples drives : List ℕ) → ChipAlone
chip_alone strap memory state asked samples drives =
    let n = chip_number strap memory state asked samples drives in
    let c : Watching = rest_of (body_from strap Large memory state 0) in
    let row : List ℕ = drives_on (chip asked) samples c in
    let last : Watching = walk (chip asked) samples c in
    let ran : ChipAlone =
    record {
      answer = record { number = 0; ticks = length row };
      memory = last.body.core.kept.memory;
      state = state_bytes last.body [];
      drives = over row drives;
    } in
    cond (eqb n 0) ran (record { answer = record { number = n; ticks = 0 }; memory = memory; state = state; drives = drives })
