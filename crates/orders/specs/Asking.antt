-- What a message asks for: its address byte, and bytes to write or bytes to read (paper 01, "Order lists and their results"). Assumes nothing.
use Rattle.std.specs.Prelude.{ℕ, ◌+◌, ◌*◌, cond, List}
use Rattle.kinds.specs.Kinds.{is_write, quota_of}
use Rattle.kinds.specs.declared.Quota.{Quota}
use Rattle.orders.specs.Form.{Message}

pub data Order : Type 0 where
  put : List ℕ → Order
  get : Quota → Order

abbrev pub order_of : Message → Order
order_of m = cond (is_write m.kind) (put m.sent) (get (quota_of m.kind m.asked))

-- address × 2, plus 1 for a read
abbrev pub address_byte : Message → ℕ
address_byte m = m.address * 2 + cond (is_write m.kind) 0 1
