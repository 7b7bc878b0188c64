-- What the chip makes of an event, what it drives on SDA, and its busy time (paper 01, "What the chip does"). Assumes nothing.
use Rattle.std.specs.Prelude.{ℕ, zero, suc, ◌-◌, ◌/◌, ◌%◌, Bool, true, false, ◌&&◌, cond, List, eqb}
use Rattle.lines.specs.Levels.{bit_at, shifted}
use Rattle.lines.specs.declared.Event.{Event}
use Rattle.lines.specs.declared.Event.TheVariants.{Quiet, Started, Stopped, Bit}
use Rattle.store.specs.Keeping.{Kept, takes, byte_now, steps, starts, stops}
use Rattle.eeprom.specs.declared.Chip.{Chip}
use Rattle.eeprom.specs.declared.Stage.{Stage}
use Rattle.eeprom.specs.declared.Stage.TheVariants.{Deaf, Naming, Named, Taking, Taken, Sending, Asking}

pub record Core : Type 0 where
  pub stage : Stage
  pub kept : Kept

-- the code's chip with its lent memory
abbrev pub core_of : Chip → List ℕ → Core
core_of c m = record { stage = c.stage; kept = record { store = c.store; memory = m } }

abbrev pub at : Stage → Core → Core
at s c = record { stage = s; kept = c.kept }

-- the eight bits name it and its busy time is 0: it acknowledges; else it is silent until the next START
abbrev pub named : Bool → ℕ → Core → Core
named true x c = at (Named (eqb (x % 2) 1)) c
named false x c = at Deaf c

-- it sends the byte at the pointer
abbrev pub sends : Kept → Core
sends k = record { stage = Sending 7 (byte_now k); kept = k }

-- the ninth bit of a byte that it sent: a 1 silences it
abbrev pub answered : Bool → Kept → Core
answered true k = record { stage = Deaf; kept = k }
answered false k = sends k

-- a bit is delivered to a chip that is free (its busy time is 0) or not
abbrev pub bit_to : Stage → (free bit : Bool) → Core → Core
bit_to Deaf free b c = c
bit_to (Naming zero x) free b c = named (eqb (shifted x b / 2) c.kept.store.name && free) (shifted x b) c
bit_to (Naming (suc n) x) free b c = at (Naming n (shifted x b)) c
bit_to (Named true) free b c = sends c.kept
bit_to (Named false) free b c = at (Taking 7 0) c
bit_to (Taking zero x) free b c = record { stage = Taken; kept = takes (shifted x b) c.kept }
bit_to (Taking (suc n) x) free b c = at (Taking n (shifted x b)) c
bit_to Taken free b c = at (Taking 7 0) c
bit_to (Sending zero x) free b c = at Asking c
bit_to (Sending (suc n) x) free b c = at (Sending n x) c
bit_to Asking free b c = answered b (steps c.kept)

-- does a STOP store? After at least one latched byte
unfoldable pub due : Core → Bool
due c = c.kept.store.latched

unfoldable pub hears : (free : Bool) → Event → Core → Core
hears free Quiet c = c
hears free Started c = record { stage = Naming 7 0; kept = starts c.kept }
hears free Stopped c = record { stage = Deaf; kept = stops (due c) c.kept }
hears free (Bit b) c = bit_to c.stage free b c

-- what it drives on SDA
unfoldable pub sda_of : Stage → Bool
sda_of Deaf = true
sda_of (Naming n x) = true
sda_of (Named r) = false
sda_of (Taking n x) = true
sda_of Taken = false
sda_of (Sending n x) = bit_at n x
sda_of Asking = true

pub record Body : Type 0 where
  pub core : Core
  pub busy : ℕ

-- busy falls by one in each tick after the STOP's, which sets it to the asked time
abbrev pub busy_after : (asked : ℕ) → Event → Core → ℕ → ℕ
busy_after asked Quiet c n = n - 1
busy_after asked Started c n = n - 1
busy_after asked Stopped c n = cond (due c) asked (n - 1)
busy_after asked (Bit b) c n = n - 1

-- an answer is decided before that tick's fall
unfoldable pub body_tick : (asked : ℕ) → Event → Body → Body
body_tick asked e b = record { core = hears (eqb b.busy 0) e b.core; busy = busy_after asked e b.core b.busy }
