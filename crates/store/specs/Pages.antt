-- Size and page of a chip, and the steps of its pointer (paper 01, "What is on the board", "What the chip does"). Every rule is over the geometry; a
-- model is a row of numbers. Assumes nothing.
use Rattle.std.specs.Prelude.{ℕ, ◌+◌, ◌*◌, ◌/◌, ◌%◌, ◌≤◌, ◌≡◌}
use Rattle.store.specs.declared.Model.{Model}
use Rattle.store.specs.declared.Model.TheVariants.{Large}

-- bytes in all, bytes in a page, pointer bytes in a write
pub record Geometry : Type 0 where
  pub size : ℕ
  pub page : ℕ
  pub lead : ℕ

unfoldable pub geometry_of : Model → Geometry
geometry_of Large = record { size = 4096; page = 32; lead = 2 }

-- a number of a model, with the bounds that hold for every model
pub record Shape (low high r n : ℕ) : Type 0 where
  pub is : r ≡ n
  pub least : low ≤ r
  pub most : r ≤ high

-- the page's first byte
unfoldable pub page_start : Geometry → ℕ → ℕ
page_start g p = p / g.page * g.page

-- after a written byte: the low bits step, wrapping inside the page
unfoldable pub page_step : Geometry → ℕ → ℕ
page_step g p = page_start g p + (p + 1) % g.page

-- after a byte sent: modulo the size
unfoldable pub read_step : Geometry → ℕ → ℕ
read_step g p = (p + 1) % g.size

-- high byte first, the bits past the size ignored
unfoldable pub pointer_of : Geometry → (high low : ℕ) → ℕ
pointer_of g high low = (high * 256 + low) % g.size
