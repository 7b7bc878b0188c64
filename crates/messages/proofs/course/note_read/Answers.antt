-- `messages::course::note_read` meets its contract. Assumes nothing.
use Rattle.messages.proofs.Bytewise.{read_noted}
use Rattle.messages.proofs.course.note_read.Goals as goal

pub returns : goal.returns
returns c = search read_noted
