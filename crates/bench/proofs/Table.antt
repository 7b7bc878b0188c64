-- The bench sheet's table holds by computing, over the tick rules and over the plain reading. Assumes nothing.
use Prim.Native.Nat.{ℕ, ◌+◌}
use mathlib.Core.Path.{◌≡◌, refl}
use mathlib.Core.List.{List, [], ◌∷◌, ◌++◌, map}
use lib.Count.{ones}
use lib.ListN.{length, replicate}
use Rattle.lent.specs.Areas.{over, all_within}
use Rattle.lines.specs.Levels.{bit_at, most_held}
use Rattle.kinds.specs.Kinds.{most_bytes, most_messages, most_length, is_write, is_critical, kind_right, address_right, count_right, length_right, data_of, asked_of, quota_of, follow, remain}
use Rattle.orders.specs.Form.{message_at, parse, parsed, transactions_of}
use Rattle.orders.specs.Results.{slots_of_all, area_of, blank_area, start_area, slotted, batches, check_of}
use Rattle.orders.specs.Marks.{read_mark, note}
use Rattle.symbols.specs.Faults.{fault_of}
use Rattle.symbols.specs.Ticks.{control_tick}
use Rattle.controller.specs.Bound.{clocked_of, most_ticks}
use Rattle.store.specs.Pages.{geometry_of, page_start, page_step, read_step, pointer_of}
use Rattle.store.specs.Keeping.{blank_latch, takes, byte_now, steps, starts, stored, stops}
use Rattle.eeprom.specs.Stages.{due, hears, sda_of, body_tick}
use Rattle.eeprom.specs.States.{most_busy}
use Rattle.board.specs.Marks.{bodies_from, memories, state_row}
use Rattle.board.specs.Desk.{Outcome, states_right, board_number, bus_number}
use Rattle.wires.specs.Wires.{all_up, tick, run}
use Rattle.bus.specs.Run.{wire_run}
use Rattle.plain.specs.Clock.{symbol, symbols, pass}
use Rattle.plain.specs.Plain.{writes_all, reads_all, messages, transactions}
use Rattle.reading.specs.Read.{plain, plain_run}
use Rattle.bench.specs.Sheet.{Case, memory, changed, state_of, sheet}

-- two bytes more than R are lent, and stay
abbrev lent : Case → List ℕ
lent c = replicate (length c.area + 2) 0xAA

abbrev answer : Case → Outcome
answer c =
    record {
      answer = record { number = c.number; ticks = c.ticks };
      memory = changed c.changes memory;
      states = state_of c.pointer_after c.busy_after;
      results = c.area ++ (0xAA ∷ 0xAA ∷ []);
    }

abbrev wires : Case → Outcome
wires c = (wire_run c.list 1 memory (state_of c.pointer c.busy) c.holds 8000 (lent c) []).outcome

abbrev reads : Case → Outcome
reads c = plain_run c.list 1 memory (state_of c.pointer c.busy) c.holds 8000 (lent c)

pub over_the_wires : map wires sheet ≡ map answer sheet
unfolding ones sheet memory changed bit_at most_held over all_within most_bytes most_messages most_length is_write is_critical kind_right address_right count_right length_right data_of asked_of quota_of follow remain message_at parse parsed transactions_of slots_of_all area_of blank_area start_area slotted batches check_of read_mark note fault_of control_tick clocked_of most_ticks geometry_of page_start page_step read_step pointer_of blank_latch takes byte_now steps starts stored stops due hears sda_of body_tick most_busy bodies_from memories state_row states_right board_number bus_number all_up tick run wire_run
over_the_wires = refl

pub in_the_plain_reading : map reads sheet ≡ map answer sheet
unfolding ones sheet memory changed bit_at most_held all_within most_bytes most_messages most_length is_write is_critical kind_right address_right count_right length_right data_of asked_of quota_of follow remain message_at parse parsed transactions_of slots_of_all area_of blank_area start_area slotted batches check_of read_mark note geometry_of page_start page_step read_step pointer_of blank_latch takes byte_now steps starts stored stops most_busy bodies_from memories state_row states_right board_number bus_number symbol symbols pass writes_all reads_all messages transactions plain plain_run
in_the_plain_reading = refl
