-- `messages::Run::messages` meets its contract, message after message. Assumes nothing.
use Rattle.std.proofs.Common.{refl, ◌∙◌, rules}
use Rattle.messages.proofs.Going.{still_sound}
use Rattle.messages.proofs.Messages.{last_one, given_up, next_one}
use Rattle.messages.proofs.Run.messages.Goals as goal

pub returns-then-left-eq0 : goal.returns-then-left-eq0
returns-then-left-eq0 c =
    let so_far = c.loop-left.invariant in
    record {
      is = last_one _ _ _ _ _ _ _ _ so_far.6 _ c.answered-said.ensures _ _ c.message-run.ensures.is c.if-left-eq0.true;
      sound = c.message-run.ensures.sound;
      soon = let later = c.message-run.ensures.soon in search rules;
    }

pub returns-then-not-goes_on : goal.returns-then-not-goes_on
returns-then-not-goes_on c =
    let so_far = c.loop-left.invariant in
    record {
      is = given_up _ _ _ _ _ _ _ _ so_far.6 _ c.answered-said.ensures _ _ c.message-run.ensures.is c.if-left-eq0.false _ c.byte_at-kind.ensures _
          c.goes_on.ensures (rw c.if-not-goes_on.true refl);
      sound = c.message-run.ensures.sound;
      soon = let later = c.message-run.ensures.soon in search rules;
    }

pub loop-left-preserved : goal.loop-left-preserved
loop-left-preserved c =
    let so_far = c.loop-left.invariant in
    let more = c.if-left-eq0.false in
    let near = c.beyond-place.ensures.near in (
      search rules,
      c.message-run.auto.results ∙ so_far.1,
      still_sound _ _ _ _ c.started-run.ensures.chips c.message-run.ensures.sound,
      (let now = c.started-run.ensures.time in let later = c.message-run.ensures.soon in let ticked = c.symbol.ensures.soon in search rules),
      search rules,
      search rules,
      next_one _ _ _ _ _ _ _ _ so_far.6 _ c.answered-said.ensures _ _ c.message-run.ensures.is more _ c.byte_at-kind.ensures _ c.goes_on.ensures
          (rw c.if-not-goes_on.false refl) _ _ _ c.symbol.ensures.is c.started-run.ensures.time c.started-run.ensures.chips c.beyond-place.ensures.value,
    )
