-- The EEPROMs named by a byte of marks, over the lent memory and states (paper 01, "What is on the board"). Assumes nothing.
use Rattle.std.specs.Prelude.{ℕ, zero, suc, ◌*◌, ◌%◌, ◌^◌, cond, List, [], ◌∷◌, ◌++◌, take, drop}
use Rattle.std.specs.Int.Count.{ones}
use Rattle.lines.specs.Levels.{bit_at}
use Rattle.store.specs.Pages.{geometry_of}
use Rattle.store.specs.declared.Model.{Model}
use Rattle.store.specs.declared.Model.TheVariants.{Large}
use Rattle.eeprom.specs.Stages.{Body}
use Rattle.eeprom.specs.States.{body_from, state_bytes}

-- the number of chips is the count of ones
abbrev pub chip_count : ℕ → ℕ
chip_count marks = ones marks

-- a chip's place is the count of ones below its bit
abbrev pub place_of : ℕ → ℕ → ℕ
place_of marks s = ones (marks % 2 ^ s)

abbrev pub model_at : ℕ → ℕ → Model
model_at marks s = Large

-- where the memory of a strap's chip begins: behind those of the chips below
abbrev pub memory_at : ℕ → ℕ → ℕ
memory_at marks s = (geometry_of Large).size * place_of marks s

module _ (marks : ℕ) (memory states : List ℕ) where
  -- bit s set means a chip at address 80 + s
  abbrev pub body_at : ℕ → Body
  body_at s = body_from s (model_at marks s) (take (geometry_of (model_at marks s)).size (drop (memory_at marks s) memory)) states (place_of marks s)

  -- n straps from s on
  unfoldable pub bodies_from : (n s : ℕ) → List Body
  bodies_from zero s = []
  bodies_from (suc n) s =
      let rest : List Body = bodies_from n (suc s) in
      cond (bit_at s marks) (body_at s ∷ rest) rest

  abbrev pub bodies : List Body
  bodies = bodies_from 8 0

-- handed back in place order
unfoldable pub memories : List Body → List ℕ
memories [] = []
memories (b ∷ bs) = b.core.kept.memory ++ memories bs

unfoldable pub state_row : List Body → List ℕ
state_row [] = []
state_row (b ∷ bs) = state_bytes b (state_row bs)
