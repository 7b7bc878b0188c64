-- Time without wires: ticks are counted a symbol at a time (request, demand 3). Assumes nothing.
use Rattle.std.specs.Prelude.{ℕ, zero, suc, ◌+◌, List, [], ◌∷◌}

-- the ticks gone by, and the hold bytes of the clocked symbols to come
pub record Clock : Type 0 where
  pub now : ℕ
  pub holds : List ℕ

-- a clocked symbol: four ticks and its held ones
abbrev pub symbol_over : List ℕ → ℕ → Clock
symbol_over [] t = record { now = t + 4; holds = [] }
symbol_over (h ∷ hs) t = record { now = t + (4 + h); holds = hs }

unfoldable pub symbol : Clock → Clock
symbol c = symbol_over c.holds c.now

unfoldable pub symbols : ℕ → Clock → Clock
symbols zero c = c
symbols (suc n) c = symbols n (symbol c)

-- a wait, or the first START, which is not clocked
unfoldable pub pass : ℕ → Clock → Clock
pass n c = record { now = c.now + n; holds = c.holds }
