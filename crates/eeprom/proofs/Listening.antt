-- What holds of a chip whatever it hears: what the four changes keep is kept, bits store nothing, START and STOP let go of SDA, and a chip that is busy
-- does not answer. Assumes nothing.
use Prim.Native.Nat.{ℕ, zero, suc, ◌/◌}
use mathlib.Core.Path.{◌≡◌, refl, ◌∙◌}
use mathlib.Core.Bool.{Bool, true, false, ◌&&◌, and-false}
use borrow.Author.Tests.{ne_eqb}
use lib.Dec.{eqb}
use lib.ListN.{length}
use Rattle.lines.specs.Levels.{shifted}
use Rattle.lines.specs.declared.Event.{Event}
use Rattle.lines.specs.declared.Event.TheVariants.{Quiet, Started, Stopped, Bit}
use Rattle.store.specs.Keeping.{Kept, takes, steps, starts, stops}
use Rattle.store.proofs.Kept.{Sound, takes_tame, steps_tame, starts_tame, stops_tame, stops_length, taking_stores_nothing, reading_stores_nothing, start_stores_nothing}
use Rattle.eeprom.specs.Stages.{Core, named, answered, bit_to, due, hears, sda_of, Body, body_tick}
use Rattle.eeprom.specs.declared.Stage.{Stage}
use Rattle.eeprom.specs.declared.Stage.TheVariants.{Deaf, Naming, Named, Taking, Taken, Sending, Asking}

named_keeps : (P : Kept → Type 0) (q : Bool) (x : ℕ) (c : Core) → P c.kept → P (named q x c).kept
named_keeps P true x c p = p
named_keeps P false x c p = p

answered_keeps : (P : Kept → Type 0) (b : Bool) (k : Kept) → P k → P (answered b k).kept
answered_keeps P true k p = p
answered_keeps P false k p = p

-- a bit changes what a chip keeps by a byte taken or a byte sent, or not at all
module _ (P : Kept → Type 0) (taken : (x : ℕ) (k : Kept) → P k → P (takes x k)) (stepped : (k : Kept) → P k → P (steps k)) where
  bit_keeps : (s : Stage) (free b : Bool) (c : Core) → P c.kept → P (bit_to s free b c).kept
  bit_keeps Deaf free b c p = p
  bit_keeps (Naming zero x) free b c p = named_keeps P (eqb (shifted x b / 2) c.kept.store.name && free) (shifted x b) c p
  bit_keeps (Naming (suc n) x) free b c p = p
  bit_keeps (Named true) free b c p = p
  bit_keeps (Named false) free b c p = p
  bit_keeps (Taking zero x) free b c p = taken (shifted x b) c.kept p
  bit_keeps (Taking (suc n) x) free b c p = p
  bit_keeps Taken free b c p = p
  bit_keeps (Sending zero x) free b c p = p
  bit_keeps (Sending (suc n) x) free b c p = p
  bit_keeps Asking free b c p = answered_keeps P b (steps c.kept) (stepped c.kept p)

  pub hears_keeps : ((k : Kept) → P k → P (starts k)) → ((q : Bool) (k : Kept) → P k → P (stops q k)) → (free : Bool) (e : Event) (c : Core) → P c.kept
      → P (hears free e c).kept
  unfolding hears
  hears_keeps started stopped free Quiet c p = p
  hears_keeps started stopped free Started c p = started c.kept p
  hears_keeps started stopped free Stopped c p = stopped (due c) c.kept p
  hears_keeps started stopped free (Bit b) c p = bit_keeps c.stage free b c p

-- who it is
pub hears_name : (free : Bool) (e : Event) (c : Core) → (hears free e c).kept.store.name ≡ c.kept.store.name
hears_name free e c =
    hears_keeps (λ (k : Kept). k.store.name ≡ c.kept.store.name) (λ x k p. (takes_tame x).name k ∙ p) (λ k p. steps_tame.name k ∙ p) (λ k p. starts_tame.name k ∙ p) (λ q k p. (stops_tame q).name k ∙ p) free e c refl

pub hears_model : (free : Bool) (e : Event) (c : Core) → (hears free e c).kept.store.model ≡ c.kept.store.model
hears_model free e c =
    hears_keeps (λ (k : Kept). k.store.model ≡ c.kept.store.model) (λ x k p. (takes_tame x).model k ∙ p) (λ k p. steps_tame.model k ∙ p) (λ k p. starts_tame.model k ∙ p) (λ q k p. (stops_tame q).model k ∙ p) free e c refl

-- its pointer in range, its memory's length, bytes that are bytes
pub hears_sound : (free : Bool) (e : Event) (c : Core) → Sound c.kept → Sound (hears free e c).kept
hears_sound free e c s =
    hears_keeps Sound (λ x. (takes_tame x).sound) steps_tame.sound starts_tame.sound (λ q. (stops_tame q).sound) free e c s

pub hears_length : (free : Bool) (e : Event) (c : Core) → length (hears free e c).kept.memory ≡ length c.kept.memory
hears_length free e c =
    hears_keeps (λ (k : Kept). length k.memory ≡ length c.kept.memory) (λ x k p. rw (taking_stores_nothing x k) p) (λ k p. rw (reading_stores_nothing k) p) (λ k p. rw (start_stores_nothing k) p) (λ q k p. stops_length q k ∙ p) free e c refl

-- bits and START store nothing, a read among them
pub bit_stores_nothing : (free b : Bool) (c : Core) → (hears free (Bit b) c).kept.memory ≡ c.kept.memory
unfolding hears
bit_stores_nothing free b c =
    bit_keeps (λ (k : Kept). k.memory ≡ c.kept.memory) (λ x k p. taking_stores_nothing x k ∙ p) (λ k p. reading_stores_nothing k ∙ p) c.stage free b c refl

pub repeated_start_stores_nothing : (free : Bool) (c : Core) → (hears free Started c).kept.memory ≡ c.kept.memory
unfolding hears
repeated_start_stores_nothing free c = start_stores_nothing c.kept

-- START and STOP let go of SDA
pub start_lets_go : (free : Bool) (c : Core) → sda_of (hears free Started c).stage ≡ true
unfolding hears sda_of
start_lets_go free c = refl

pub stop_lets_go : (free : Bool) (c : Core) → sda_of (hears free Stopped c).stage ≡ true
unfolding hears sda_of
stop_lets_go free c = refl

-- after STOP bits are ignored until START
pub stop_deafens : (free : Bool) (c : Core) → (hears free Stopped c).stage ≡ Deaf
unfolding hears
stop_deafens free c = refl

pub deaf_to_bits : (free b : Bool) (c : Core) → c.stage ≡ Deaf → hears free (Bit b) c ≡ c
unfolding hears
deaf_to_bits free b c e = rw e

-- a chip that is busy at its address's eighth bit is silent until the next START
pub busy_is_silent : (b : Bool) (x : ℕ) (c : Core) → c.stage ≡ Naming 0 x → (hears false (Bit b) c).stage ≡ Deaf
unfolding hears
busy_is_silent b x c e = rw (e, and-false (eqb (shifted x b / 2) c.kept.store.name))

pub busy_is_silent_in_a_tick : (asked : ℕ) (b : Bool) (x : ℕ) (y : Body) → y.core.stage ≡ Naming 0 x → (y.busy ≡ 0 → ⊥) → (body_tick asked (Bit b) y).core.stage ≡ Deaf
unfolding body_tick
busy_is_silent_in_a_tick asked b x y e h = rw (ne_eqb y.busy 0 h) (busy_is_silent b x y.core e)
