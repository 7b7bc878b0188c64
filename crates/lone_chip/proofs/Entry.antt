-- What the code of the entry "one chip alone" leans on: what an accepted call has, a turn of the loop over the samples, and the whole run. Assumes nothing.
use Prim.Native.Nat.{ℕ, suc, ◌+◌, ◌<◌, ◌≤◌}
use mathlib.Core.Path.{◌≡◌, refl, ap, sym, ◌∙◌}
use mathlib.Core.Bool.{Bool, true, not, ◌&&◌, and-eq-true_iff}
use mathlib.Core.List.{List, [], ◌∷◌}
use borrow.Author.Tests.{ltb-false, eqb-true, not-false}
use lib.Dec.{eqb, ltb}
use lib.ListN.{length, get_or, set}
use Rattle.std.proofs.Common.{Result, Err}
use Rattle.lent.specs.Areas.{over}
use Rattle.lent.specs.Refusals.{no, ◌then◌, number_of, answer_of}
use Rattle.lent.specs.declared.Refusal.{Refusal}
use Rattle.lent.proofs.Rows.{over_whole}
use Rattle.lent.proofs.Refusals.{none_first, none_later, not_said, refused_some}
use Rattle.lines.specs.Levels.{hi, ◌∥◌, byte_of, lines_of}
use Rattle.lines.specs.Events.{opened}
use Rattle.lines.specs.Records.{walk, drives_on, bad_sample}
use Rattle.lines.specs.declared.Lines.{Lines}
use Rattle.lines.specs.declared.Eye.{Eye}
use Rattle.lines.proofs.Records.{Left, leaves, one_tick}
use Rattle.store.specs.Pages.{geometry_of}
use Rattle.store.specs.declared.Model.{Model}
use Rattle.store.specs.declared.Model.TheVariants.{Large}
use Rattle.eeprom.specs.Stages.{Core, core_of, sda_of}
use Rattle.eeprom.specs.States.{most_busy, word_at, word_bytes, body_at, body_from, state_bytes, state_right}
use Rattle.eeprom.specs.declared.Chip.{Chip}
use Rattle.lone_chip.specs.Alone.{Watching, watch_of, rest_of, chip, chip_number, left_by, chip_alone}
use Rattle.lone_chip.specs.declared.Watch.{Watch}

module _ (strap asked : ℕ) (memory state samples drives : List ℕ) where
  -- what an accepted call has
  module _ (e : 0 ≡ chip_number strap memory state asked samples drives) where
    abbrev fits_lent : Bool
    fits_lent = eqb (length memory) (geometry_of Large).size && eqb (length state) 4

    abbrev state_in : Bool
    state_in = state_right (body_from strap Large memory state 0)

    after_10 : (no 3 (not fits_lent) then no 4 (not state_in) then no 6 (ltb most_busy asked) then no 8 (bad_sample samples) then no 9 (ltb (length drives) (length samples))) ≡ 0
    unfolding chip_number
    after_10 = none_later (no 10 (ltb 7 strap)) _ (sym e)

    after_3 : (no 4 (not state_in) then no 6 (ltb most_busy asked) then no 8 (bad_sample samples) then no 9 (ltb (length drives) (length samples))) ≡ 0
    after_3 = none_later (no 3 (not fits_lent)) _ after_10

    lent_right : fits_lent ≡ true
    lent_right = not-false fits_lent (not_said 2 (not fits_lent) (none_first (no 3 (not fits_lent)) _ after_10))

    pub strap_in : strap ≤ 7
    unfolding chip_number
    strap_in = ltb-false 7 strap (not_said 9 (ltb 7 strap) (none_first (no 10 (ltb 7 strap)) _ (sym e)))

    pub whole_memory : length memory ≡ (geometry_of Large).size
    whole_memory =
        eqb-true (length memory) (geometry_of Large).size ((and-eq-true_iff (eqb (length memory) (geometry_of Large).size) (eqb (length state) 4)).0 lent_right).0

    pub four_bytes : length state ≡ 4
    four_bytes = eqb-true (length state) 4 ((and-eq-true_iff (eqb (length memory) (geometry_of Large).size) (eqb (length state) 4)).0 lent_right).1

    pub right_state : state_right (body_from strap Large memory state 0) ≡ true
    right_state = not-false state_in (not_said 3 (not state_in) (none_first (no 4 (not state_in)) _ after_3))

    pub asked_in : asked ≤ most_busy
    asked_in = ltb-false most_busy asked (not_said 5 (ltb most_busy asked) (none_first (no 6 (ltb most_busy asked)) _ (none_later (no 4 (not state_in)) _ after_3)))

abbrev seeing : Eye → Core → ℕ → Watching
seeing eye c busy = record { eye = eye; body = record { core = c; busy = busy } }

pub rests : (eye : Eye) (c : Chip) (name : ℕ) (model : Model) (p busy : ℕ) → eye ≡ opened → ((m : List ℕ) → core_of c m ≡ (body_at name model p 0 m).core)
    → (m : List ℕ) → watch_of (record { eye = eye; chip = c; busy = busy }) m ≡ rest_of (body_at name model p busy m)
rests eye c name model p busy q h m = rw q (ap (λ (k : Core). seeing opened k busy) (h m))

-- one turn of the loop over the samples
pub turn : (asked i : ℕ) (xs : List ℕ) (w v : Watch) (m n d e : List ℕ) (r : Left (chip asked)) (drive l : Lines) (x : ℕ)
    → leaves (chip asked) i xs (watch_of w m) d ≡ r → drive ≡ hi ∥ sda_of w.chip.stage → x ≡ byte_of drive → e ≡ set d i x → l ≡ lines_of (get_or xs i 0)
    → watch_of v n ≡ (chip asked).tick l (watch_of w m) → i < length xs → leaves (chip asked) (i + 1) xs (watch_of v n) e ≡ r
turn asked i xs w v m n d e r drive l x inv a b p q t h =
    one_tick (chip asked) i xs (watch_of w m) (watch_of v n) d e refl (t ∙ ap (λ (y : Lines). (chip asked).tick y (watch_of w m)) q) (p ∙ ap (λ (y : ℕ). set d i y) (b ∙ ap byte_of a)) h ∙ inv

-- a chip has no end of its own: it drives in every tick
pub drives_always : (asked : ℕ) (xs : List ℕ) (s : Watching) → length (drives_on (chip asked) xs s) ≡ length xs
unfolding drives_on
drives_always asked [] s = refl
drives_always asked (x ∷ xs) s = ap suc (drives_always asked xs ((chip asked).tick (lines_of x) s))

module _ (strap asked : ℕ) (memory state samples drives : List ℕ) where
  pub turned_down : (r : Refusal) (q : Result ℕ Refusal) → number_of r ≡ chip_number strap memory state asked samples drives → q ≡ Err r
      → left_by (answer_of q) memory state drives ≡ chip_alone strap memory state asked samples drives
  unfolding chip_alone
  turned_down r q e h = rw (h, ← e, refused_some r)

  abbrev first : Watching
  first = rest_of (body_from strap Large memory state 0)

  pub ran : (p b : ℕ) (w₀ w : Watch) (m d s : List ℕ) → 0 ≡ chip_number strap memory state asked samples drives → p ≡ word_at state 0 → b ≡ word_at state 2
      → ((k : List ℕ) → watch_of w₀ k ≡ rest_of (body_at (80 + strap) Large p b k))
      → watch_of w m ≡ walk (chip asked) samples (watch_of w₀ memory) → d ≡ over (drives_on (chip asked) samples (watch_of w₀ memory)) drives
      → s ≡ over (word_bytes w.chip.store.pointer (word_bytes w.busy [])) state
      → left_by (record { number = 0; ticks = length samples }) m s d ≡ chip_alone strap memory state asked samples drives
  unfolding chip_alone
  ran p b w₀ w m d s e pe be rest we de se =
      let row : s ≡ state_bytes (watch_of w m).body [] = se ∙ over_whole _ state (sym (four_bytes strap asked memory state samples drives e)) in
      let same : watch_of w₀ memory ≡ first = rest memory ∙ rw (pe, be) in
      let last : watch_of w m ≡ walk (chip asked) samples first = we ∙ ap (λ (y : Watching). walk (chip asked) samples y) same in
      let wrote : d ≡ over (drives_on (chip asked) samples first) drives = de ∙ ap (λ (y : Watching). over (drives_on (chip asked) samples y) drives) same in
      rw (← e, row, wrote, drives_always asked samples first) (ap (λ (y : Watching). left_by (record { number = 0; ticks = length samples }) y.body.core.kept.memory (state_bytes y.body []) (over (drives_on (chip asked) samples first) drives)) last)
