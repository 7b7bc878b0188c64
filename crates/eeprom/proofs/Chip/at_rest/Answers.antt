-- A chip that is not addressed. Assumes nothing.
use Rattle.eeprom.proofs.Hears.{rests_deaf}
use Rattle.eeprom.proofs.Chip.at_rest.Goals as goal

pub returns : goal.returns
returns c = rests_deaf _ _ _ _ c.at_rest.ensures
