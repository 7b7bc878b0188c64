-- `orders::start` meets its contract: left alone, or cleared and then marked. Assumes nothing.
use Rattle.std.proofs.Common.{rules}
use Rattle.kinds.specs.Kinds.{most_bytes}
use Rattle.orders.proofs.StartTurns.{too_small, list_too_long, started}
use Rattle.orders.proofs.start.Goals as goal
use Rattle.orders.proofs.start.Goals.{else-size-area-via-then-size-area+else-list-le-MOST_BYTES, else-size-area-via-else-size-area}

pub outcomes-requires : goal.outcomes-requires
unfolding most_bytes
outcomes-requires c = search rules

pub returns-then-list-le-MOST_BYTES : goal.returns-then-list-le-MOST_BYTES
unfolding most_bytes
returns-then-list-le-MOST_BYTES c = search started

pub returns-else-size-area : goal.returns-else-size-area
unfolding most_bytes
returns-else-size-area c =
    elim c.else-size-area.branch [ else-size-area-via-then-size-area+else-list-le-MOST_BYTES w ↦ list_too_long _ _ _ (search rules) (search rules) | else-size-area-via-else-size-area w ↦ search too_small ]
