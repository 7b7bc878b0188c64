-- `messages::Run::reads` meets its contract, byte after byte. Assumes nothing.
use Rattle.std.proofs.Common.{◌≡◌, suc, ◌+◌, ◌-◌, refl, ◌∙◌, rules, arith}
use Rattle.messages.proofs.Going.{still_sound}
use Rattle.messages.proofs.Bytewise.{one_read, first_read, all_read}
use Rattle.messages.proofs.Run.reads.Goals as goal

pub loop-i-preserved : goal.loop-i-preserved
loop-i-preserved c =
    let so_far = c.loop-i.invariant in
    let next : c.follow-more.result - c.loop-i.i ≡ suc (c.follow-more.result - (c.loop-i.i + 1)) = omega arith in (
      c.note_read-in-loop-i.auto.results ∙ so_far.0,
      still_sound _ _ _ _ c.sent-run-in-loop-i.ensures.chips so_far.1,
      (let later = c.sent-run-in-loop-i.ensures.time.soon in search rules),
      one_read _ _ _ _ _ _ _ _ _ _ _ _ c.value_of-byte.ensures c.sent-run-in-loop-i.ensures c.note_read-in-loop-i.ensures _ _ _ c.remain-left.ensures
          (rw next at so_far.3),
    )

pub returns : goal.returns
returns c =
    let so_far = c.loop-i.invariant in
    record {
      is = all_read _ _ _ _ _ _ _ _ _ _ _ so_far.3 (omega arith)
          ∙ first_read _ _ _ _ _ _ _ _ _ _ _ _ c.value_of-first.ensures c.sent-run.ensures c.note_read.ensures _ refl c.follow-more.ensures;
      sound = so_far.1;
      soon =
          let few = c.requires.3.few c.value_of-first.result in
          let e = c.follow-more.ensures in
          let later = c.sent-run.ensures.time.soon in
          search rules;
    }
