-- What the whole-bus run and the plain reading are given, and what comes of it by their definitions (paper 01, "When the desk says no"). Assumes nothing.
use Rattle.std.specs.Prelude.{ℕ, ◌<◌, ◌≡◌, List, [], ◌∷◌}
use Rattle.orders.specs.Form.{Transaction, transactions_of}
use Rattle.orders.specs.Results.{Batch, batches}
use Rattle.controller.specs.Plan.{State, orders}
use Rattle.controller.specs.Bound.{most_ticks}
use Rattle.board.specs.Desk.{Outcome, bus_number}
use Rattle.wires.specs.Wires.{Bus, Ran, run}
use Rattle.bus.specs.Run.{start}
use Rattle.reading.specs.Read.{plain_run}

-- every element is a byte
abbrev pub Bytes : List ℕ → Type 0
Bytes [] = Unit {0}
Bytes (x ∷ xs) = (x < 256) × Bytes xs

-- the trace apart
pub record Input : Type 0 where
  pub list : List ℕ
  pub marks : ℕ
  pub memory : List ℕ
  pub states : List ℕ
  pub holds : List ℕ
  pub asked : ℕ
  pub results : List ℕ

module _ (i : Input) where
  abbrev pub number : ℕ
  number = bus_number i.list i.marks i.memory i.states i.holds i.asked i.results

  abbrev pub listed : List Transaction
  listed = transactions_of i.list

  abbrev pub batched : List Batch
  batched = batches 0 listed

  -- the bus before the first tick, and the whole run over the wires
  abbrev pub begin : Bus State
  begin = start i.list i.marks i.memory i.states i.holds i.results

  abbrev pub whole : Ran orders i.asked
  whole = run orders i.asked (most_ticks listed) begin

  -- what the plain reading answers
  abbrev pub answer : Outcome
  answer = plain_run i.list i.marks i.memory i.states i.holds i.asked i.results

  -- its number is 0; what is lent are bytes
  pub record Accepted : Type 0 where
    pub by_number : number ≡ 0
    pub list_bytes : Bytes i.list
    pub memory_bytes : Bytes i.memory
