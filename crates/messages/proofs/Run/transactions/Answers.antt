-- `messages::Run::transactions` meets its contract, transaction after transaction. Assumes nothing.
use Rattle.std.proofs.Common.{◌∙◌, rules}
use Rattle.kinds.proofs.KindLaws.{most_bytes_lem}
use Rattle.messages.proofs.Transactions.{one_done, all_done}
use Rattle.messages.proofs.Run.transactions.Goals as goal

pub transaction-run-requires : goal.transaction-run-requires
transaction-run-requires c =
    let p = c.requires in
    let v = c.loop-place.invariant in
    let h = c.loop-place-test.true in
    let b = most_bytes_lem in
    (v.2, search rules, search rules, search rules)

pub next_batch-place-requires : goal.next_batch-place-requires
next_batch-place-requires c =
    let p = c.requires in
    let v = c.loop-place.invariant in
    let h = c.loop-place-test.true in
    let b = most_bytes_lem in
    (search rules, search rules)

pub loop-place-preserved : goal.loop-place-preserved
loop-place-preserved c =
    let p = c.requires in
    let v = c.loop-place.invariant in
    let h = c.loop-place-test.true in
    let b = most_bytes_lem in
    let q = c.next_batch-place.ensures.later in
    let t = c.transaction-run.ensures.soon in (
      c.transaction-run.auto.memory ∙ v.0,
      c.transaction-run.auto.results ∙ v.1,
      c.transaction-run.ensures.sound,
      search rules,
      search rules,
      search rules,
      one_done _ _ _ _ _ _ _ _ v.6 h _ _ _ _ c.transaction-run.ensures.is c.next_batch-place.ensures.value q.0,
    )

pub returns : goal.returns
returns c =
    let v = c.loop-place.invariant in
    record { is = all_done _ _ _ _ _ _ _ _ v.6 c.loop-place-test.false; sound = v.2; soon = search rules }
