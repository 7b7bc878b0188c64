-- Inside: the code's state in the words of the tick rules, and its run over a record; no entry cites it. Assumes nothing.
use Rattle.std.specs.Prelude.{List, ℕ, length}
use Rattle.lent.specs.Areas.{over}
use Rattle.lines.specs.Levels.{hi}
use Rattle.lines.specs.Records.{walk, drives_on}
use Rattle.symbols.specs.Ticks.{enter, Control}
use Rattle.cursor.specs.Cursor.{opens_at, ask_of, Spot, places}
use Rattle.controller.specs.Alone.{party, end_of, Alone}
use Rattle.controller.specs.declared.Controller.{Controller}

-- the code's state and the result area, in the words of the tick rules
abbrev pub control_of : Controller → List ℕ → Control Spot
control_of c area = record { phase = c.phase; was = c.was; plan = record { cursor = c.cursor; log = record { area = area } } }

-- at the list's first transaction
abbrev pub first_of : List ℕ → Controller
first_of list = record { phase = enter (ask_of list (opens_at list 0 0)); was = hi; cursor = opens_at list 0 0 }

abbrev pub ran_on : List ℕ → (drives samples : List ℕ) → Control Spot → Alone
ran_on list drives samples c =
    let row = drives_on (party (places list)) samples c in
    let last = walk (party (places list)) samples c in
    record {
      told = record { number = 0; end = end_of last.phase; ticks = length row };
      drives = over row drives;
      results = last.plan.log.area;
    }
