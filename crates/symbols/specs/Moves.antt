-- Inside: a tick without a fault as the code goes about it, phase by phase; no entry cites it. That these are the parts of Ticks.antt's `move` is shown in
-- proofs/Moves.antt. Assumes nothing.
use Rattle.std.specs.Prelude.{zero, suc, Bool, true, false, cond}
use Rattle.lines.specs.declared.Lines.{Lines}
use Rattle.symbols.specs.declared.Begin.TheVariants.{First}
use Rattle.symbols.specs.declared.Symbol.TheVariants.{Start}
use Rattle.symbols.specs.declared.Phase.{Phase}
use Rattle.symbols.specs.declared.Phase.TheVariants.{Over, Waiting, Zero, One, Two, Three}

-- its symbol ends with this tick
abbrev pub is_last : Phase → Bool
is_last (Over f) = false
is_last (Waiting n) = false
is_last (Zero s) = false
is_last (One s) = false
is_last (Two s n) = false
is_last (Three s w) = true

-- inside a symbol or a wait
abbrev pub phase_after : Phase → Lines → Phase
phase_after (Over f) l = Over f
phase_after (Waiting zero) l = Zero (Start First)
phase_after (Waiting (suc n)) l = Waiting n
phase_after (Zero s) l = One s
phase_after (One s) l = Two s 0
phase_after (Two s n) l = cond l.scl (Three s l.sda) (Two s (suc n))
phase_after (Three s w) l = Three s w
