-- One transaction: where its results stand, and its plain reading (request, demand 3). Assumes nothing.
use Rattle.std.specs.Prelude.{ℕ, ◌+◌, ◌∷◌}
use Rattle.orders.specs.Form.{Message, Transaction}
use Rattle.orders.specs.Results.{Slotted, Batch, slots_of, slots_of_all, slotted}
use Rattle.plain.specs.Clock.{pass}
use Rattle.plain.specs.Plain.{World, started, messages, closes}

-- a message at its slot
abbrev pub here : ℕ → Message → Slotted
here s m = record { message = m; slot = s }

-- a transaction at its outcome's place, its messages' slots behind it; and its bytes of the result area
abbrev pub batch_at : ℕ → Transaction → Batch
batch_at top t =
    record { wait = t.wait; first = here (top + 1) t.first; others = slotted (top + 1 + slots_of t.first) t.others; top = top }

abbrev pub size_of : Transaction → ℕ
size_of t = 1 + slots_of_all (t.first ∷ t.others)

-- after its wait and its START; and after its STOP
abbrev pub opened : Batch → World → World
opened t w = started (pass (t.wait + 4) w.clock) w

abbrev pub transaction : (asked : ℕ) → Batch → World → World
transaction asked t w = closes asked t.top (messages t.others t.first (opened t w))
