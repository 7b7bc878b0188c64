-- `bus::accepted` meets its contract: what the loop leaves is what the rules say. Assumes nothing.
use Rattle.std.proofs.Common.{rules}
use Rattle.bus.proofs.Entry.{loop_asks, save_asks, wires_so}
use Rattle.bus.proofs.accepted.Goals as goal

pub goes-ran-requires : goal.goes-ran-requires
goes-ran-requires c =
    let g = c.well_formed in
    let f = c.ranges in
    loop_asks _ _ _ _ _ _ _ _ c.args.trace.now c.requires (search rules) (search rules) _ c.load-chips.ensures.seats (search rules) _ c.load-chips.ensures.count

pub save-requires : goal.save-requires
save-requires c =
    let g = c.well_formed in
    let f = c.ranges in
    save_asks _ _ _ _ _ _ _ _ c.args.trace.now c.requires (search rules) (search rules) _ c.load-chips.ensures.seats (search rules) _ c.load-chips.ensures.count
    _ c.goes-ran.ensures.count

pub returns : goal.returns
returns c =
    let g = c.well_formed in
    let f = c.ranges in
    wires_so _ _ _ _ _ _ _ _ _ c.requires (search rules) (search rules) _ c.load-chips.ensures.seats (search rules) _ c.load-chips.ensures.count _ _ _
    c.goes-ran.result.bus c.goes-ran.result.chips.seats _ _ _ _ _ c.start.ensures c.first.ensures c.opened.ensures c.goes-ran.ensures.went
    c.goes-ran.ensures.fits (search rules) (rw (← c.goes-ran.ensures.count) c.save.ensures)
