use Rattle.std.proofs.Common.{rules}
use Rattle.std.proofs.Output.{has_written_append, has_written_of_eq}
use Rattle.printing.proofs.Bytes.{one_more}
use Rattle.printing.proofs.HexDisplay.fmt.Goals as goal

pub loop-byte-preserved : goal.loop-byte-preserved
loop-byte-preserved g c p =
    has_written_of_eq _ _ _ _ _ (one_more c.args.self.now.0.now c.loop-byte.byte-index (search rules) (search rules)) (has_written_append _ _ _ _ _ _ (c.loop-byte.invariant p) (search rules))
