-- Place by place. Assumes nothing.
use Rattle.std.proofs.Common.{◌<◌, arith}
use Rattle.store.proofs.Takes.{none_yet, blank_next, byte_next}
use Rattle.store.proofs.Store.stores.Goals as goal
use Rattle.store.proofs.Store.stores.Goals.{in-Some, in_default}

pub loop-place-init : goal.loop-place-init
loop-place-init c = search none_yet

pub loop-place-preserved : goal.loop-place-preserved
loop-place-preserved c =
    elim c.match-self-place.branch [
      | in-Some w ↦
          let b : w.in-Some.byte < 256 = omega arith in
          let e = byte_next c.loop-place.place c.page_start-start.result w.in-Some.byte c.args.self.latch c.args.mem.now w.in-Some.is b in cc
      | in_default w ↦ let e = blank_next c.loop-place.place c.page_start-start.result c.args.self.latch c.args.mem.now w.in_default.not-Some in cc
    ]
