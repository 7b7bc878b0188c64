-- Four bytes put one after another. Assumes nothing.
use Rattle.eeprom.proofs.StateLaws.{state_put}
use Rattle.eeprom.proofs.states.put_state.Goals as goal

pub returns : goal.returns
returns c = search state_put
