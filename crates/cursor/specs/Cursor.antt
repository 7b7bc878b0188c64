-- Inside: how the code's cursor walks the places of the byte list; no entry cites it. Places are kept modulo 2 ^ 32 and a message's count modulo 255, so
-- that a step needs to know nothing of the list. That this drives as the plan over the list's transactions does is shown in proofs/Simulation.antt.
-- Assumes nothing.
use Rattle.std.specs.Prelude.{ℕ, zero, suc, ◌+◌, ◌-◌, ◌*◌, ◌%◌, Bool, not, cond, List, eqb, ltb, length, get_or}
use Rattle.lines.specs.Levels.{bit_at, shifted}
use Rattle.kinds.specs.Kinds.{is_write, is_critical, quota_of, follow, remain}
use Rattle.kinds.specs.declared.Quota.{Quota}
use Rattle.orders.specs.Form.{wait_at}
use Rattle.orders.specs.Places.{size_at, room_at}
use Rattle.orders.specs.Marks.{heard, written, closed, broke, read_mark, Log, note}
use Rattle.symbols.specs.Faults.{outcome_of}
use Rattle.symbols.specs.Ticks.{Ask, first, clocked, end, Plan}
use Rattle.symbols.specs.declared.Begin.TheVariants.{Repeated}
use Rattle.symbols.specs.declared.Symbol.TheVariants.{Start, Stop, Sent, Received}
use Rattle.cursor.specs.declared.Act.{Act}
use Rattle.cursor.specs.declared.Act.TheVariants.{Opens, Reopens, Closes, Finishes, Addresses, Hears, Puts, Awaits, Gets, Answers}
use Rattle.cursor.specs.declared.Cursor.{Cursor}

-- the places that a cursor can tell apart
unfoldable pub wrap : ℕ
wrap = 4294967296

abbrev pub acts : Act → Cursor → Cursor
acts a c = record { act = a; at = c.at; left = c.left; slot = c.slot; top = c.top; count = c.count; more = c.more }

-- a data byte of the message: its act, how many came before it, how many a write has after it
abbrev pub carries_on : Act → (count more : ℕ) → Cursor → Cursor
carries_on a n m c = record { act = a; at = c.at; left = c.left; slot = c.slot; top = c.top; count = n; more = m }

abbrev pub counted : Cursor → ℕ
counted c = c.count % 255

-- nothing more to do
abbrev pub nowhere : Cursor
nowhere = record { act = Finishes; at = 0; left = 0; slot = 0; top = 0; count = 0; more = 0 }

module _ (list : List ℕ) where
  abbrev pub kind_at : ℕ → ℕ
  kind_at at = get_or list (at + 1) 0

  abbrev pub length_at : ℕ → ℕ
  length_at at = get_or list (at + 2) 0

  abbrev pub address_at : ℕ → ℕ
  address_at at = (get_or list at 0 * 2 + cond (is_write (kind_at at)) 0 1) % 256

  -- the data byte under way
  abbrev pub data_at : Cursor → ℕ
  data_at c = get_or list (c.at + 3 + c.count) 0

  -- at the message after this one
  abbrev pub passed : Cursor → Cursor
  passed c =
      record {
        act = c.act;
        at = (c.at + size_at list c.at) % wrap;
        left = c.left - 1;
        slot = (c.slot + room_at list c.at) % wrap;
        top = c.top;
        count = c.count;
        more = c.more;
      }

  unfoldable pub passed_all : ℕ → Cursor → Cursor
  passed_all zero c = c
  passed_all (suc n) c = passed_all n (passed c)

  unfoldable pub goes_on : Cursor → Cursor
  goes_on c = cond (eqb c.left 0) (acts Closes c) (acts Reopens (passed c))

  unfoldable pub refused_by : Cursor → Cursor
  refused_by c = cond (is_critical (kind_at c.at)) (acts Closes c) (goes_on c)

  -- n bytes are still to be written
  unfoldable pub puts_on : (n count : ℕ) → Cursor → Cursor
  puts_on n count c = cond (eqb n 0) (goes_on c) (carries_on (Puts 7) count (n - 1) c)

  -- n bytes are still to be read
  unfoldable pub gets_on : (n : ℕ) → Quota → Cursor → Cursor
  gets_on n q c = cond (eqb n 0) (goes_on c) (carries_on (Gets 7 0 (remain q (n - 1))) (counted c + 1) 0 c)

  unfoldable pub carries_out : Cursor → Cursor
  carries_out c =
      cond (is_write (kind_at c.at))
      (puts_on (length_at c.at) 0 c)
      (carries_on (Gets 7 0 (quota_of (kind_at c.at) (length_at c.at))) 0 0 c)

  -- the transaction at a place, its results from `top` on
  unfoldable pub opens_at : (at top : ℕ) → Cursor
  opens_at at top =
      cond (ltb at (length list))
      (record {
        act = Opens (wait_at list at);
        at = (at + 3) % wrap;
        left = get_or list at 0 - 1;
        slot = (top + 1) % wrap;
        top = top;
        count = 0;
        more = 0;
      })
      nowhere

  abbrev pub opens_after : Cursor → Cursor
  opens_after c = opens_at c.at c.slot

  -- the symbol has ended, and v was seen
  abbrev pub step_in : Act → Bool → Cursor → Cursor
  step_in (Opens w) v c = acts (Addresses 7) c
  step_in Reopens v c = acts (Addresses 7) c
  step_in Closes v c = opens_after (passed_all (c.left + 1) c)
  step_in Finishes v c = acts Finishes c
  step_in (Addresses k) v c = cond (eqb k 0) (acts Hears c) (acts (Addresses (k - 1)) c)
  step_in Hears v c = cond v (refused_by c) (carries_out c)
  step_in (Puts k) v c = cond (eqb k 0) (acts Awaits c) (acts (Puts (k - 1)) c)
  step_in Awaits v c = cond v (refused_by c) (puts_on c.more (counted c + 1) c)
  step_in (Gets k x q) v c = cond (eqb k 0) (acts (Answers (shifted x v) q) c) (acts (Gets (k - 1) (shifted x v) q) c)
  step_in (Answers x q) v c = gets_on (follow q x) q c

  unfoldable pub step_of : Bool → Cursor → Cursor
  step_of v c = step_in c.act v c

  -- what the end of the symbol notes
  abbrev pub note_in : Act → Bool → Cursor → Log → Log
  note_in (Opens w) v c l = l
  note_in Reopens v c l = l
  note_in Closes v c l = note closed c.top l
  note_in Finishes v c l = l
  note_in (Addresses k) v c l = l
  note_in Hears v c l = note (heard (address_at c.at) (not v)) c.slot l
  note_in (Puts k) v c l = l
  note_in Awaits v c l = note (written (counted c) (data_at c) (not v)) c.slot l
  note_in (Gets k x q) v c l = l
  note_in (Answers x q) v c l = note (read_mark q (counted c) x) c.slot l

  unfoldable pub note_of : Bool → Cursor → Log → Log
  note_of v c l = note_in c.act v c l

  abbrev pub ask_in : Act → Cursor → Ask
  ask_in (Opens w) c = first w
  ask_in Reopens c = clocked (Start Repeated)
  ask_in Closes c = clocked Stop
  ask_in Finishes c = end
  ask_in (Addresses k) c = clocked (Sent (bit_at k (address_at c.at)))
  ask_in Hears c = clocked Received
  ask_in (Puts k) c = clocked (Sent (bit_at k (data_at c)))
  ask_in Awaits c = clocked Received
  ask_in (Gets k x q) c = clocked Received
  ask_in (Answers x q) c = clocked (Sent (eqb (follow q x) 0))

  unfoldable pub ask_of : Cursor → Ask
  ask_of c = ask_in c.act c

-- the cursor, and the results so far
pub record Spot : Type 0 where
  pub cursor : Cursor
  pub log : Log

abbrev pub places : List ℕ → Plan
places list =
    record {
      State = Spot;
      ask = λ s. ask_of list s.cursor;
      next = λ s v. record { cursor = step_of list v s.cursor; log = note_of list v s.cursor s.log };
      failed = λ s f. record { cursor = nowhere; log = note (broke (outcome_of f)) s.cursor.top s.log };
    }
