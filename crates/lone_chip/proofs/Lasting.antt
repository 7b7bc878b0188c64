-- What one chip alone leaves is in range: a call with the memory and the state that an accepted call left is accepted again. Assumes nothing.
use Prim.Native.Nat.{ℕ, ◌+◌, ◌-◌, ◌≤◌, ◌<◌}
use mathlib.Core.Path.{◌≡◌, refl, ap, sym, ◌∙◌}
use mathlib.Core.Bool.{Bool, true, false, ◌&&◌, cond, and-eq-true_iff}
use mathlib.Core.List.{List, []}
use native.Mathlib.Omega.{arith}
use borrow.Author.Tests.{lt-ltb, le-leb, ltb-true, leb-true}
use lib.Dec.{eqb, ltb, leb}
use lib.ListN.{length}
use Rattle.lent.specs.Areas.{all_within}
use Rattle.lent.proofs.Rows.{length_over}
use Rattle.lines.specs.Records.{walk}
use Rattle.lines.specs.declared.Event.{Event}
use Rattle.lines.specs.declared.Event.TheVariants.{Quiet, Started, Stopped, Bit}
use Rattle.lines.proofs.Records.{walk_keeps}
use Rattle.store.specs.Pages.{geometry_of}
use Rattle.store.specs.declared.Model.{Model}
use Rattle.store.specs.declared.Model.TheVariants.{Large}
use Rattle.store.proofs.Pages.{fits}
use Rattle.store.proofs.Kept.{Sound, sound_at_rest}
use Rattle.eeprom.specs.Stages.{Core, due, Body, busy_after, body_tick}
use Rattle.eeprom.specs.States.{most_busy, word_at, word_bytes, body_from, state_right}
use Rattle.eeprom.proofs.Listening.{hears_model, hears_sound}
use Rattle.lone_chip.specs.Alone.{Watching, rest_of, chip, chip_number, chip_alone}
use Rattle.lone_chip.proofs.Entry.{whole_memory, right_state, asked_in}

-- a chip of the large kind, in range
pub record Right (b : Body) : Type 0 where
  pub model : b.core.kept.store.model ≡ Large
  pub sound : Sound b.core.kept
  pub busy : b.busy ≤ most_busy

busy_right : (asked n most : ℕ) (e : Event) (c : Core) → asked ≤ most → n ≤ most → busy_after asked e c n ≤ most
busy_right asked n most Quiet c a h = omega arith
busy_right asked n most Started c a h = omega arith
busy_right asked n most Stopped c a h = go (due c)
  where
    go : (q : Bool) → cond q asked (n - 1) ≤ most
    go true = a
    go false = omega arith
busy_right asked n most (Bit b) c a h = omega arith

pub tick_right : (asked : ℕ) (e : Event) (b : Body) → asked ≤ most_busy → Right b → Right (body_tick asked e b)
unfolding body_tick
tick_right asked e b a r =
    record {
      model = hears_model (eqb b.busy 0) e b.core ∙ r.model;
      sound = hears_sound (eqb b.busy 0) e b.core r.sound;
      busy = busy_right asked b.busy most_busy e b.core a r.busy;
    }

pub run_right : (asked : ℕ) (samples : List ℕ) (w : Watching) → asked ≤ most_busy → Right w.body → Right (walk (chip asked) samples w).body
run_right asked samples w a r = walk_keeps (chip asked) (λ (y : Watching). Right y.body) (λ l y h. tick_right asked _ y.body a h) samples w r

-- two bytes give their number back
pub word_back : (p : ℕ) (rest : List ℕ) → p < 65536 → word_at (word_bytes p rest) 0 ≡ p
word_back p rest h = omega arith

right_again : (m : Model) (p b : ℕ) → m ≡ Large → p < (geometry_of m).size → b ≤ most_busy
    → (ltb (word_at (word_bytes p (word_bytes b [])) 0) (geometry_of Large).size && leb (word_at (word_bytes b []) 0) most_busy) ≡ true
unfolding most_busy
right_again m p b e h l =
    let reach : (geometry_of m).size ≤ 65536 = (fits m).reach in
    let small : b < 65536 = omega arith in
    rw (word_back p (word_bytes b []) (omega arith), word_back b [] small, ← e, lt-ltb p (geometry_of m).size h, le-leb b 20000 l)

module _ (strap asked : ℕ) (memory state samples drives : List ℕ) (ok : chip_number strap memory state asked samples drives ≡ 0) (bytes : all_within 255 memory ≡ true) where
  first_right : Right (body_from strap Large memory state 0)
  first_right =
      let s = (and-eq-true_iff (ltb (word_at state 0) (geometry_of Large).size) (leb (word_at state 2) most_busy)).0 (right_state strap asked memory state samples drives (sym ok)) in
      record {
        model = refl;
        sound = sound_at_rest (80 + strap) Large (word_at state 0) memory (ltb-true (word_at state 0) (geometry_of Large).size s.0) (whole_memory strap asked memory state samples drives (sym ok)) bytes;
        busy = leb-true (word_at state 2) most_busy s.1;
      }

  abbrev last : Body
  last = (walk (chip asked) samples (rest_of (body_from strap Large memory state 0))).body

  last_right : Right last
  last_right = run_right asked samples (rest_of (body_from strap Large memory state 0)) (asked_in strap asked memory state samples drives (sym ok)) first_right

  -- the memory and the state that it leaves have their lengths, and the state is right: numbers 3 and 4 are not given for them
  pub leaves_memory : length (chip_alone strap memory state asked samples drives).memory ≡ (geometry_of Large).size
  unfolding chip_alone
  leaves_memory = rw ok (last_right.sound.memory ∙ ap (λ (m : Model). (geometry_of m).size) last_right.model)

  pub leaves_drives : length (chip_alone strap memory state asked samples drives).drives ≡ length drives
  unfolding chip_alone
  leaves_drives = rw ok (length_over _ drives)

  pub leaves_state : length (chip_alone strap memory state asked samples drives).state ≡ 4
  unfolding chip_alone
  leaves_state = rw ok

  pub leaves_right : (m : List ℕ) → state_right (body_from strap Large m (chip_alone strap memory state asked samples drives).state 0) ≡ true
  unfolding chip_alone
  leaves_right m = rw ok (right_again last.core.kept.store.model last.core.kept.store.pointer last.busy last_right.model last_right.sound.pointer last_right.busy)
