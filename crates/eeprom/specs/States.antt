-- The four bytes of a chip's state, the pointer and then the busy ticks left, each low byte first; a chip before the first tick (paper 01, "What is on
-- the board"). Assumes nothing.
use Rattle.std.specs.Prelude.{ℕ, ◌+◌, ◌*◌, ◌/◌, ◌%◌, Bool, ◌&&◌, List, ◌∷◌, leb, ltb, get_or}
use Rattle.store.specs.Pages.{geometry_of}
use Rattle.store.specs.Keeping.{kept_at}
use Rattle.store.specs.declared.Model.{Model}
use Rattle.eeprom.specs.Stages.{Body}
use Rattle.eeprom.specs.declared.Stage.TheVariants.{Deaf}

-- the busy ticks that may be asked for or be left
unfoldable pub most_busy : ℕ
most_busy = 20000

-- the number in two bytes
abbrev pub word_at : List ℕ → ℕ → ℕ
word_at st p = get_or st p 0 + 256 * get_or st (p + 1) 0

abbrev pub word_bytes : ℕ → List ℕ → List ℕ
word_bytes n rest = n % 256 ∷ n / 256 % 256 ∷ rest

-- a chip that is not addressed
abbrev pub body_at : (name : ℕ) → Model → (pointer busy : ℕ) → List ℕ → Body
body_at name model p busy m = record { core = record { stage = Deaf; kept = kept_at name model p m }; busy = busy }

abbrev pub body_from : (strap : ℕ) → Model → List ℕ → (states : List ℕ) → (place : ℕ) → Body
body_from s model m st p = body_at (80 + s) model (word_at st (4 * p)) (word_at st (4 * p + 2)) m

abbrev pub state_bytes : Body → List ℕ → List ℕ
state_bytes b rest = word_bytes b.core.kept.store.pointer (word_bytes b.busy rest)

-- the pointer inside the chip, the busy time at most 20,000
abbrev pub state_right : Body → Bool
state_right b = ltb b.core.kept.store.pointer (geometry_of b.core.kept.store.model).size && leb b.busy most_busy
