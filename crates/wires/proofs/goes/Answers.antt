-- `wires::goes` meets its contract. A wait passed at once, a quiet tick and a tick in which the chips hear are one law each. Assumes nothing.
use Rattle.std.proofs.Common.{ap, sym, ◌∙◌, ◌≤◌, arith, length}
use Rattle.board.specs.Seats.{seated}
use Rattle.board.proofs.Heard.{all_heard, none_heard}
use Rattle.wires.specs.Inside.{limit}
use Rattle.wires.specs.declared.Bus.{Bus}
use Rattle.wires.proofs.Turns.{turn, ends_over, ends_late}
use Rattle.wires.proofs.Waits.{jump}
use Rattle.wires.proofs.Parts.{asks, still_long, all_of_them, they_leave, they_fit}
use Rattle.wires.proofs.goes.Goals as goal
use Rattle.wires.proofs.goes.Goals.{then-not-is_quiet, else-not-is_quiet, then-loop-t-test+else-not-is_over, else-loop-t-test}

pub loop-t-preserved-then-rest-t : goal.loop-t-preserved-then-rest-t
loop-t-preserved-then-rest-t c =
    let i = c.loop-t.invariant in
    record {
      eight = i.eight;
      up = ap (λ (x : Bus). x.up) c.rested-bus.ensures ∙ i.up;
      parts = i.parts;
      to_run = jump _ _ c.args.asked limit c.loop-t.bus _ (seated c.args.at.count c.loop-t.seats c.loop-t.memory) c.loop-t.area c.loop-t.trace _ c.loop-t.t
          c.calm-rest.result _ i.to_run i.up c.calm-rest.ensures c.fill.ensures c.rested-bus.ensures c.if-rest-gt0.true c.if-rest-t.true;
    }

pub hear_all-requires : goal.hear_all-requires
hear_all-requires c = asks _ _ (omega arith) _ _ (omega arith) (omega arith) c.loop-t.invariant.parts

pub loop-t-preserved : goal.loop-t-preserved
loop-t-preserved c =
    let i = c.loop-t.invariant in
    let n = c.args.at.count in
    let l : n ≤ length c.loop-t.seats = omega arith in
    let xs = seated n c.loop-t.seats c.loop-t.memory in
    let b = c.tick-bus.result in
    let s = c.tick-bus.ensures.sees in
    elim c.if-not-is_quiet.branch [
      | then-not-is_quiet w ↦
          let h = w.hear_all in
          let same = h.auto.seats in
          let heard = all_of_them n c.loop-t.seats l _ same _ _ _ _ _ h.ensures.heard in
          rw (w.seats-is, w.memory-is, w.bus-is) (record {
            eight = still_long n c.loop-t.seats l _ same ∙ i.eight;
            up = they_leave n c.loop-t.seats l _ same _ _ h.ensures.up;
            parts = they_fit n c.loop-t.seats l _ same _ h.ensures.fits;
            to_run = turn _ _ c.args.asked limit c.loop-t.bus (record { control = b.control; hold = b.hold; eye = b.eye; up = h.result }) xs _
                c.loop-t.area _ c.loop-t.trace _ c.loop-t.t _ _ _ _ i.to_run i.up c.is_over.ensures c.if-not-is_over.true
                c.lines-seen.ensures c.from.ensures c.put_at.ensures (record { control = s.control; hold = s.hold; eye = s.eye })
                (rw (heard, ← c.event-event.ensures) (all_heard c.args.asked c.loop-t.t c.event-event.result xs)) (omega arith);
          })
      | else-not-is_quiet w ↦
          rw (w.seats-is, w.memory-is, w.bus-is) (record {
            eight = i.eight;
            up = c.tick-bus.ensures.up ∙ i.up;
            parts = i.parts;
            to_run = turn _ _ c.args.asked limit c.loop-t.bus _ xs xs c.loop-t.area _ c.loop-t.trace _ c.loop-t.t _ _ _ _
                i.to_run i.up c.is_over.ensures c.if-not-is_over.true c.lines-seen.ensures c.from.ensures c.put_at.ensures s
                (rw c.event-event.ensures at (none_heard c.args.asked c.loop-t.t c.event-event.result (sym c.is_quiet.ensures ∙ w.if-not-is_quiet.false) xs))
                (omega arith);
          })
    ]

pub returns-clause-went : goal.returns-clause-went
returns-clause-went c =
    let xs = seated c.args.at.count c.loop-t.seats c.loop-t.memory in
    elim c.loop-t-test.branch [
      | then-loop-t-test+else-not-is_over w ↦ ends_over _ _ _ _ _ c.loop-t.bus xs _ _ _ _ c.loop-t.invariant.to_run w.is_over.ensures w.if-not-is_over.false
      | else-loop-t-test w ↦ ends_late _ _ _ _ _ c.loop-t.bus xs _ _ _ c.loop-t.invariant.to_run (omega arith)
    ]
