-- What a delivered bit and an event do to a chip, a law for each rule of the stages, as the code finds them; docs/MAP.md names this file. Assumes nothing.
use Prim.Native.Nat.{ℕ, zero, suc, ◌-◌, ◌/◌, ◌≤◌}
use mathlib.Core.Path.{◌≡◌, refl, ap, sym}
use mathlib.Core.Bool.{Bool, true, false, ◌&&◌}
use mathlib.Core.List.{List}
use native.Mathlib.Omega.{arith}
use lib.Dec.{eqb}
use Rattle.lines.specs.Levels.{shifted}
use Rattle.lines.specs.declared.Event.{Event}
use Rattle.lines.specs.declared.Event.TheVariants.{Quiet, Started, Stopped, Bit}
use Rattle.store.specs.Keeping.{Kept, geo, kept_of, takes_at, takes, byte_now, stepped, steps, emptied, starts, stops, kept_at}
use Rattle.store.specs.declared.Model.{Model}
use Rattle.store.specs.declared.Store.{Store}
use Rattle.eeprom.specs.Stages.{Core, core_of, at, named, answered, bit_to, due, hears, busy_after}
use Rattle.eeprom.specs.States.{body_at}
use Rattle.eeprom.specs.declared.Chip.{Chip}
use Rattle.eeprom.specs.declared.Stage.{Stage}
use Rattle.eeprom.specs.declared.Stage.TheVariants.{Deaf, Naming, Named, Taking, Taken, Sending, Asking}

-- the ninth bit of a byte sent
pub falls_silent : (s r : Store) (m : List ℕ) (b : Bool) → r ≡ stepped s → b ≡ true → core_of (record { stage = Deaf; store = r }) m ≡ answered b (kept_of (stepped s) m)
falls_silent s r m b h e = rw (h, e)

pub sends_next : (s r : Store) (m : List ℕ) (b : Bool) (x : ℕ) → r ≡ stepped s → b ≡ false → x ≡ byte_now (kept_of r m)
    → core_of (record { stage = Sending 7 x; store = r }) m ≡ answered b (kept_of (stepped s) m)
sends_next s r m b x h e q = rw (q, h, e)

-- a bit that is not the last of its eight
naming_on : (n x : ℕ) (free b : Bool) (k : Core) → (n ≡ 0 → ⊥) → at (Naming (n - 1) (shifted x b)) k ≡ bit_to (Naming n x) free b k
naming_on zero x free b k h = absurd (h refl)
naming_on (suc n) x free b k h = let e : suc n - 1 ≡ n = omega arith in rw e

taking_on : (n x : ℕ) (free b : Bool) (k : Core) → (n ≡ 0 → ⊥) → at (Taking (n - 1) (shifted x b)) k ≡ bit_to (Taking n x) free b k
taking_on zero x free b k h = absurd (h refl)
taking_on (suc n) x free b k h = let e : suc n - 1 ≡ n = omega arith in rw e

sending_on : (n x : ℕ) (free b : Bool) (k : Core) → (n ≡ 0 → ⊥) → at (Sending (n - 1) x) k ≡ bit_to (Sending n x) free b k
sending_on zero x free b k h = absurd (h refl)
sending_on (suc n) x free b k h = let e : suc n - 1 ≡ n = omega arith in rw e

-- the count of bits to come falls by one: from s to t
pub counts_on : (c r : Chip) (m : List ℕ) (free b : Bool) (s t : ℕ → Stage) (n : ℕ)
    → ((k : ℕ) (d : Core) → bit_to (s (suc k)) free b d ≡ at (t k) d) → c.stage ≡ s n → 1 ≤ n → r ≡ record { stage = t (n - 1); store = c.store } → core_of r m ≡ bit_to c.stage free b (core_of c m)
counts_on c r m free b s t n q e l h = rw (h, e) (go n l)
  where
    go : (n : ℕ) → 1 ≤ n → at (t (n - 1)) (core_of c m) ≡ bit_to (s n) free b (at (s n) (core_of c m))
    go zero l = absurd (omega arith)
    go (suc n) l = let i : suc n - 1 ≡ n = omega arith in rw i (sym (q n (at (s (suc n)) (core_of c m))))

module _ (c : Chip) (m : List ℕ) (free b : Bool) where
  abbrev staged : Stage → Core
  staged s = at s (core_of c m)

  pub names_on : (n x y : ℕ) → c.stage ≡ Naming n x → y ≡ shifted x b → (n ≡ 0 → ⊥)
      → core_of (record { stage = Naming (n - 1) y; store = c.store }) m ≡ bit_to c.stage free b (core_of c m)
  names_on n x y e q h = rw (e, q) (naming_on n x free b (staged (Naming n x)) h)

  pub names_last : (n x y : ℕ) (s : Stage) → c.stage ≡ Naming n x → y ≡ shifted x b → n ≡ 0
      → ((k : Core) → at s k ≡ named (eqb (y / 2) c.store.name && free) y k)
      → core_of (record { stage = s; store = c.store }) m ≡ bit_to c.stage free b (core_of c m)
  names_last n x y s e q z h = rw (e, z, ← q) (h (staged (Naming 0 x)))

  pub named_read : (r : Bool) (x : ℕ) → c.stage ≡ Named r → r ≡ true → x ≡ byte_now (kept_of c.store m)
      → core_of (record { stage = Sending 7 x; store = c.store }) m ≡ bit_to c.stage free b (core_of c m)
  named_read r x e z q = rw (e, z, q)

  pub named_write : (r : Bool) → c.stage ≡ Named r → r ≡ false → core_of (record { stage = Taking 7 0; store = c.store }) m ≡ bit_to c.stage free b (core_of c m)
  named_write r e z = rw (e, z)

  pub takes_on : (n x y : ℕ) → c.stage ≡ Taking n x → y ≡ shifted x b → (n ≡ 0 → ⊥)
      → core_of (record { stage = Taking (n - 1) y; store = c.store }) m ≡ bit_to c.stage free b (core_of c m)
  takes_on n x y e q h = rw (e, q) (taking_on n x free b (staged (Taking n x)) h)

  pub takes_last : (n x y : ℕ) (s : Store) → c.stage ≡ Taking n x → y ≡ shifted x b → n ≡ 0 → s ≡ takes_at c.store.want y c.store
      → core_of (record { stage = Taken; store = s }) m ≡ bit_to c.stage free b (core_of c m)
  unfolding takes
  takes_last n x y s e q z h = rw (e, z, ← q, h)

  pub took : c.stage ≡ Taken → core_of (record { stage = Taking 7 0; store = c.store }) m ≡ bit_to c.stage free b (core_of c m)
  took e = rw e

  pub sends_on : (n x : ℕ) → c.stage ≡ Sending n x → (n ≡ 0 → ⊥)
      → core_of (record { stage = Sending (n - 1) x; store = c.store }) m ≡ bit_to c.stage free b (core_of c m)
  sends_on n x e h = rw e (sending_on n x free b (staged (Sending n x)) h)

  pub sends_last : (n x : ℕ) → c.stage ≡ Sending n x → n ≡ 0 → core_of (record { stage = Asking; store = c.store }) m ≡ bit_to c.stage free b (core_of c m)
  sends_last n x e z = rw (e, z)

  pub asked : (r : Chip) → c.stage ≡ Asking → core_of r m ≡ answered b (kept_of (stepped c.store) m) → core_of r m ≡ bit_to c.stage free b (core_of c m)
  unfolding steps
  asked r e h = rw e h

  pub deaf : c.stage ≡ Deaf → core_of c m ≡ bit_to c.stage free b (core_of c m)
  deaf e = rw e

abbrev deaf_with : Kept → Core
deaf_with k = record { stage = Deaf; kept = k }

-- what an event does
module _ (c : Chip) (m : List ℕ) (free : Bool) (e : Event) where
  pub hears_nothing : e ≡ Quiet → core_of c m ≡ hears free e (core_of c m)
  unfolding hears
  hears_nothing q = rw q

  pub hears_start : (s : Store) → e ≡ Started → s ≡ emptied (geo c.store).lead c.store
      → core_of (record { stage = Naming 7 0; store = s }) m ≡ hears free e (core_of c m)
  unfolding hears starts
  hears_start s q h = rw (q, h)

  pub hears_stop : (s : Store) (n : List ℕ) (d : Bool) → e ≡ Stopped → ((k : List ℕ) → d ≡ due (core_of c k)) → kept_of s n ≡ stops d (kept_of c.store m)
      → core_of (record { stage = Deaf; store = s }) n ≡ hears free e (core_of c m)
  unfolding hears
  hears_stop s n d q z h = rw (q, ← z m) (ap (λ (k : Kept). deaf_with k) h)

  pub hears_bit : (b : Bool) (r : Chip) → e ≡ Bit b → core_of r m ≡ bit_to c.stage free b (core_of c m) → core_of r m ≡ hears free e (core_of c m)
  unfolding hears
  hears_bit b r q h = rw q h

-- the busy ticks left: only a STOP that stores sets them
module _ (c : Chip) (m : List ℕ) (asked n : ℕ) (e : Event) where
  pub falls_quiet : (r : ℕ) → e ≡ Quiet → r ≡ n - 1 → r ≡ busy_after asked e (core_of c m) n
  falls_quiet r q h = rw q h

  pub falls_at_start : (r : ℕ) → e ≡ Started → r ≡ n - 1 → r ≡ busy_after asked e (core_of c m) n
  falls_at_start r q h = rw q h

  pub set_at_stop : (d : Bool) → e ≡ Stopped → ((k : List ℕ) → d ≡ due (core_of c k)) → d ≡ true → asked ≡ busy_after asked e (core_of c m) n
  set_at_stop d q z h = rw (q, ← z m, h)

  pub falls_at_stop : (r : ℕ) (d : Bool) → e ≡ Stopped → ((k : List ℕ) → d ≡ due (core_of c k)) → d ≡ false → r ≡ n - 1 → r ≡ busy_after asked e (core_of c m) n
  falls_at_stop r d q z h l = rw (q, ← z m, h) l

  pub falls_at_bit : (b : Bool) (r : ℕ) → e ≡ Bit b → r ≡ n - 1 → r ≡ busy_after asked e (core_of c m) n
  falls_at_bit b r q h = rw q h

-- before the first tick
pub rests_deaf : (s : Store) (name : ℕ) (model : Model) (p : ℕ) → ((m : List ℕ) → kept_of s m ≡ kept_at name model p m) → (m : List ℕ)
    → core_of (record { stage = Deaf; store = s }) m ≡ (body_at name model p 0 m).core
rests_deaf s name model p h m = ap (λ (k : Kept). deaf_with k) (h m)
