-- The controller's plan over the transactions of a list: START, the address byte, the data bytes, each with a ninth symbol, STOP (paper 01, "Order lists
-- and their results"). It knows bytes and bits, and no phases. Assumes nothing.
use Rattle.std.specs.Prelude.{ℕ, zero, suc, Bool, true, false, cond, List, [], ◌∷◌, eqb}
use Rattle.lines.specs.Levels.{bit_at, shifted}
use Rattle.kinds.specs.Kinds.{is_critical, follow, remain}
use Rattle.kinds.specs.declared.Quota.{Quota}
use Rattle.orders.specs.Asking.{Order, put, get, order_of, address_byte}
use Rattle.orders.specs.Results.{Slotted, Batch}
use Rattle.orders.specs.Marks.{Mark, heard, written, closed, broke, read_mark, Log, note}
use Rattle.symbols.specs.Faults.{outcome_of}
use Rattle.symbols.specs.Ticks.{Ask, first, clocked, end, Plan}
use Rattle.symbols.specs.declared.Begin.TheVariants.{Repeated}
use Rattle.symbols.specs.declared.Symbol.TheVariants.{Start, Stop, Sent, Received}

-- the symbol under way; bits are counted down: `left` come after this one. `count`: data bytes of the message before this one
pub data Job : Type 0 where
  opening : (wait : ℕ) → Job
  reopening closing finished : Job
  addressing : (left : ℕ) → Job
  addressed : Job
  writing : (left count byte : ℕ) → (rest : List ℕ) → Job
  wrote : (count byte : ℕ) → (rest : List ℕ) → Job
  reading : (left count so_far : ℕ) → Quota → Job
  answering : (count byte : ℕ) → Quota → Job

-- the message under way, those after it in its transaction, the later transactions, the transaction's place in the results, the results
pub record Context : Type 0 where
  pub now : Slotted
  pub todo : List Slotted
  pub later : List Batch
  pub top : ℕ
  pub log : Log

pub record State : Type 0 where
  pub job : Job
  pub context : Context

-- the controller answers 0 to each byte read but the last, which gets 1
abbrev pub asks : Job → Context → Ask
asks (opening w) x = first w
asks reopening x = clocked (Start Repeated)
asks closing x = clocked Stop
asks finished x = end
asks (addressing k) x = clocked (Sent (bit_at k (address_byte x.now.message)))
asks addressed x = clocked Received
asks (writing k n y ys) x = clocked (Sent (bit_at k y))
asks (wrote n y ys) x = clocked Received
asks (reading k n y q) x = clocked Received
asks (answering n y q) x = clocked (Sent (eqb (follow q y) 0))

abbrev pub does : Job → Context → State
does j x = record { job = j; context = x }

abbrev pub logged : Log → Context → Context
logged l x = record { now = x.now; todo = x.todo; later = x.later; top = x.top; log = l }

abbrev pub marked : Mark → Context → Context
marked m x = logged (note m x.now.slot x.log) x

-- the message is over: a repeated START and the next one, or STOP
abbrev pub go_on : List Slotted → Context → State
go_on [] x = does closing x
go_on (m ∷ ms) x = does reopening (record { now = m; todo = ms; later = x.later; top = x.top; log = x.log })

-- after a 1: a critical message ends the transaction by STOP, a non-critical one lets the next message follow
abbrev pub refused : Context → State
refused x = cond (is_critical x.now.message.kind) (does closing x) (go_on x.todo x)

abbrev pub writes : ℕ → List ℕ → Context → State
writes n [] x = go_on x.todo x
writes n (y ∷ ys) x = does (writing 7 n y ys) x

abbrev pub reads : ℕ → Quota → ℕ → Context → State
reads n q zero x = go_on x.todo x
reads n q (suc m) x = does (reading 7 n 0 (remain q m)) x

abbrev pub carries : Order → Context → State
carries (put ys) x = writes 0 ys x
carries (get q) x = does (reading 7 0 0 q) x

-- nothing more to do
abbrev pub nothing : Log → Context
nothing l =
    record { now = record { message = record { address = 0; kind = 0; asked = 0; sent = [] }; slot = 0 }; todo = []; later = []; top = 0; log = l }

-- after its last message the next transaction begins
abbrev pub opens : List Batch → Log → State
opens [] l = does finished (nothing l)
opens (t ∷ ts) l = does (opening t.wait) (record { now = t.first; todo = t.others; later = ts; top = t.top; log = l })

-- the symbol has ended, and v was seen
abbrev pub step : Job → Bool → Context → State
step (opening w) v x = does (addressing 7) x
step reopening v x = does (addressing 7) x
step closing v x = opens x.later (note closed x.top x.log)
step finished v x = does finished x
step (addressing zero) v x = does addressed x
step (addressing (suc k)) v x = does (addressing k) x
step addressed true x = refused (marked (heard (address_byte x.now.message) false) x)
step addressed false x = carries (order_of x.now.message) (marked (heard (address_byte x.now.message) true) x)
step (writing zero n y ys) v x = does (wrote n y ys) x
step (writing (suc k) n y ys) v x = does (writing k n y ys) x
step (wrote n y ys) true x = refused (marked (written n y false) x)
step (wrote n y ys) false x = writes (suc n) ys (marked (written n y true) x)
step (reading zero n y q) v x = does (answering n (shifted y v) q) x
step (reading (suc k) n y q) v x = does (reading k n (shifted y v) q) x
step (answering n y q) v x = reads (suc n) q (follow q y) (marked (read_mark q n y) x)

abbrev pub orders : Plan
orders =
    record {
      State = State;
      ask = λ s. asks s.job s.context;
      next = λ s v. step s.job v s.context;
      failed = λ s f. does finished (nothing (note (broke (outcome_of f)) s.context.top s.context.log));
    }
