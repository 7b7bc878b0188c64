-- `messages::Run::message` meets its contract. Assumes nothing.
use Rattle.std.proofs.Common.{rules}
use Rattle.messages.proofs.Messages.{few_read, nobody, wrote, did_read}
use Rattle.messages.proofs.Run.message.Goals as goal

pub returns-then-not-said : goal.returns-then-not-said
returns-then-not-said c = nobody _ c.args.list.now c.args.self _ c.args.place c.requires.0 _ c.symbols.ensures c.args.results.now c.args.said c.if-not-said.true

pub reads-requires : goal.reads-requires
reads-requires c =
    let later = c.symbols.ensures.soon in
    (record { fits = c.requires.0.fits }, search rules, c.requires.2, few_read _ _ _ c.quota_of.ensures (search rules))

pub returns-then-is_write : goal.returns-then-is_write
returns-then-is_write c =
    wrote _ c.args.list.now c.args.self _ c.args.place c.requires.0 _ c.symbols.ensures c.args.results.now c.args.said c.if-not-said.false _ c.put_at.ensures
    _ _ _ c.call-call.ensures.address c.call-call.ensures.tick c.byte_at-kind.ensures c.byte_at-asked.ensures _ _ _ _ c.is_write.ensures c.if-is_write.true
    c.data_of-count.ensures (search rules) c.writes.ensures

pub returns-else-is_write : goal.returns-else-is_write
returns-else-is_write c =
    did_read _ c.args.list.now c.args.self _ c.args.place c.requires.0 _ c.symbols.ensures c.args.results.now c.args.said c.if-not-said.false _ c.put_at.ensures
    _ _ _ c.call-call.ensures.address c.call-call.ensures.tick c.byte_at-kind.ensures c.byte_at-asked.ensures _ _ _ _ c.is_write.ensures c.if-is_write.false
    c.quota_of.ensures c.reads.ensures
