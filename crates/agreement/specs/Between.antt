-- Where a chip stands when no byte is under way. Assumes nothing.
use Rattle.std.specs.Prelude.{Bool, true, false, eqb}
use Rattle.eeprom.specs.declared.Stage.{Stage}
use Rattle.eeprom.specs.declared.Stage.TheVariants.{Deaf, Naming, Named, Taking, Taken, Sending, Asking}

-- no bit of a byte is delivered, and no ninth bit is waited for
abbrev pub between : Stage → Bool
between Deaf = true
between (Naming n x) = false
between (Named r) = false
between (Taking n x) = eqb n 7
between Taken = false
between (Sending n x) = eqb n 7
between Asking = false
