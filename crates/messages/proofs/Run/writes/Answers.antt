-- `messages::Run::writes` meets its contract, byte after byte. Assumes nothing.
use Rattle.std.proofs.Common.{refl, ◌∙◌, rules}
use Rattle.messages.proofs.Going.{still_sound}
use Rattle.messages.proofs.Bytewise.{none_written, one_written, all_written}
use Rattle.messages.proofs.Run.writes.Goals as goal

pub loop-i-init : goal.loop-i-init
loop-i-init c = (refl, c.requires.0, search rules, none_written _ _ _ _ _ _ _ _ _ _)

pub loop-i-preserved : goal.loop-i-preserved
loop-i-preserved c =
    let so_far = c.loop-i.invariant in (
      c.put_at.auto.s ∙ so_far.0,
      still_sound _ _ _ _ c.wrote-run.ensures.chips so_far.1,
      (let later = c.wrote-run.ensures.time.soon in search rules),
      one_written _ _ _ _ _ _ _ _ _ _ _ _ so_far.3 c.loop-i-test.true _ _ _ c.byte_at-byte.ensures c.wrote-run.ensures c.put_at.ensures,
    )

pub returns : goal.returns
returns c =
    let so_far = c.loop-i.invariant in
    record { is = all_written _ _ _ _ _ _ _ _ _ _ _ _ so_far.3 (search rules) c.loop-i-test.false; sound = so_far.1; soon = search rules }
