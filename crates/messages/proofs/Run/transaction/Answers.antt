-- `messages::Run::transaction` meets its contract. Assumes nothing.
use Rattle.std.proofs.Common.{rules, ◌≡◌, ◌+◌, ◌*◌}
use Rattle.messages.proofs.Transactions.{whole_so}
use Rattle.messages.proofs.Run.transaction.Goals as goal

pub returns : goal.returns
returns c =
    whole_so _ c.args.list.now c.args.self _ _ c.args.place _ _ _ _ _ _ _ _ _ _ _ _ c.byte_at-low.ensures c.byte_at-high.ensures
    (let o = c.byte_at-low.type_inv in search rules) (let o = c.byte_at-high.type_inv in search rules) (let wait : c.from.result ≡ c.byte_at-low.result + 256 * c.byte_at-high.result = search rules in rw wait at c.pass.ensures) c.started-begun.ensures.time c.started-begun.ensures.chips c.opened.ensures c.others.ensures
    c.messages-sent.ensures c.closes.ensures
