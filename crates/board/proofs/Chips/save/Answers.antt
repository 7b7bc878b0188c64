-- `board::Chips::save` meets its contract, chip after chip. Assumes nothing.
use Rattle.std.proofs.Common.{◌≡◌, ◌+◌, ◌-◌, ◌*◌, ◌∙◌, rules, arith}
use borrow.Rule.Slice.PartMut.{same_len_mid}
use Rattle.board.proofs.Saving.{one_saved, all_saved}
use Rattle.board.proofs.Chips.save.Goals as goal

pub loop-i-preserved : goal.loop-i-preserved
loop-i-preserved c =
    let l = c.loop-i in
    let k : l.i * 4 + 4 - l.i * 4 ≡ 4 = omega arith in (
      same_len_mid (l.i * 4) (l.i * 4 + 4 - l.i * 4) l.states c.put.new.state c.put.auto.state ∙ l.invariant.0,
      rw k (one_saved c.args.tick c.args.self.count l.i c.args.self.seats l.states c.put.new.state _ l.invariant.1 (l.invariant.0 ∙ c.requires) c.loop-i-test.true
          (search rules) (rw k at c.put.ensures)),
    )

pub returns : goal.returns
returns c = all_saved _ _ _ _ _ c.loop-i.invariant.1 (c.loop-i.invariant.0 ∙ c.requires) (search rules) c.loop-i-test.false
