-- From messages to transactions, and from these to a list: the run over the wires is the plain reading. Assumes nothing.
use Prim.Native.Nat.{ℕ, ◌+◌}
use mathlib.Core.Path.{◌≡◌, refl, ap, ◌∙◌, subst}
use mathlib.Core.Bool.{Bool, true, false, ◌||◌, not, cond}
use mathlib.Core.List.{List, [], ◌∷◌, ◌++◌, map}
use Rattle.lines.specs.declared.Event.TheVariants.{Started}
use Rattle.kinds.specs.Kinds.{is_critical}
use Rattle.orders.specs.Results.{Slotted, Batch}
use Rattle.orders.specs.Marks.{Log}
use Rattle.controller.specs.Plan.{Context, State, addressing, closing, reopening, opens, orders, does as doing}
use Rattle.store.specs.Keeping.{starts}
use Rattle.eeprom.specs.Stages.{Core, hears, sda_of, due}
use Rattle.eeprom.specs.declared.Stage.TheVariants.{Deaf, Naming}
use Rattle.plain.specs.Clock.{Clock, symbol, pass}
use Rattle.plain.specs.Plain.{Cell, World, does, answered, message, messages, stores, transactions}
use Rattle.agreement.specs.Between.{between}
use Rattle.agreement.specs.Course.{opened, transaction}
use Rattle.agreement.proofs.Maps.{map_square}
use Rattle.agreement.proofs.Time.{Timed, hears_at, stops_at}
use Rattle.agreement.proofs.Interface.{Watch, Idle, restarts, ends, begins}
use Rattle.agreement.proofs.Tuned.{wake, up_wake}
use Rattle.agreement.proofs.Bytes.{Has}
use Rattle.agreement.proofs.Good.{Good, tame_starts, good_all, good_stores, good_message, good_messages}
use Rattle.agreement.proofs.Messages.{cell_in, Even, Sendable, finishes, Done, message_goes}

abbrev pub Sendables : List Slotted → Type 0
Sendables [] = Unit {0}
Sendables (m ∷ ms) = Sendable m.message × Sendables ms

pub record Runnable (t : Batch) : Type 0 where
  pub first : Sendable t.first.message
  pub others : Sendables t.others

abbrev pub Runnables : List Batch → Type 0
Runnables [] = Unit {0}
Runnables (t ∷ ts) = Runnable t × Runnables ts

-- a chip between two bytes stores what it has latched, and no other thing counts
pub due_between : (c : Core) → between c.stage ≡ true → due c ≡ c.kept.store.latched
unfolding due
due_between c e = refl

start_all : (t : ℕ) (zs : List Timed) (cs : List Cell) → map cell_in zs ≡ cs → map (hears_at t Started) zs ≡ map (wake (Naming 7 0)) (map (does starts) cs)
unfolding hears
start_all t zs cs e = each zs ∙ ap (λ (x : List Cell). map (wake (Naming 7 0)) (map (does starts) x)) e
  where
    each : (zs : List Timed) → map (hears_at t Started) zs ≡ map (wake (Naming 7 0)) (map (does starts) (map cell_in zs))
    each [] = refl
    each (z ∷ zs) = ap (λ (x : List Timed). wake (Naming 7 0) (does starts (cell_in z)) ∷ x) (each zs)

stop_all : (asked t : ℕ) (zs : List Timed) (cs : List Cell) → Even zs → map cell_in zs ≡ cs → map (stops_at asked t) zs ≡ map (wake Deaf) (map (stores asked t) cs)
unfolding hears
stop_all asked t zs cs h e = each zs h ∙ ap (λ (x : List Cell). map (wake Deaf) (map (stores asked t) x)) e
  where
    each : (zs : List Timed) → Even zs → map (stops_at asked t) zs ≡ map (wake Deaf) (map (stores asked t) (map cell_in zs))
    each [] h = refl
    each (z ∷ zs) h = rw (due_between z.core h.0) (ap (λ (x : List Timed). wake Deaf (stores asked t (cell_in z)) ∷ x) (each zs h.1))

abbrev context : Slotted → List Slotted → List Batch → ℕ → Log → Context
context m ms ts top l = record { now = m; todo = ms; later = ts; top = top; log = l }

module _ (asked : ℕ) (O : Watch orders asked) where
  again_goes : {κ : Clock} {x : Context} {cs : List Cell} → Done asked O κ (doing reopening x) cs
      → Has asked O (symbol κ) (doing (addressing 7) x) (map (wake (Naming 7 0)) (map (does starts) cs))
  again_goes {κ} {x} {cs} o =
      subst (Has asked O (symbol κ) (doing (addressing 7) x)) (start_all (symbol κ).now o.zs cs o.is) (restarts orders asked O o.on refl o.up)

  -- STOP is next; which message was the last is left open
  record Last (κ : Clock) (ts : List Batch) (top : ℕ) (l : Log) (cs : List Cell) : Type 0 where
    m : Slotted
    ms : List Slotted
    done : Done asked O κ (doing closing (context m ms ts top l)) cs

  last_one : (q c : Bool) (m : Slotted) (ts : List Batch) (top : ℕ) (w : World) → is_critical m.message.kind ≡ c
      → Done asked O w.clock (finishes q (context m [] ts top w.log)) w.cells → Last w.clock ts top w.log w.cells
  last_one true c m ts top w e v = record { m = m; ms = []; done = v }
  last_one false true m ts top w e v = record { m = m; ms = []; done = rw e at v }
  last_one false false m ts top w e v = record { m = m; ms = []; done = rw e at v }

  next_one : (q c : Bool) (m n : Slotted) (ms : List Slotted) (ts : List Batch) (top : ℕ) (w r : World) → is_critical m.message.kind ≡ c
      → Done asked O w.clock (finishes q (context m (n ∷ ms) ts top w.log)) w.cells
      → (Done asked O w.clock (doing reopening (context n ms ts top w.log)) w.cells → Last r.clock ts top r.log r.cells)
      → let z = cond (q || not c) r w in Last z.clock ts top z.log z.cells
  next_one true c m n ms ts top w r e v f = f v
  next_one false true m n ms ts top w r e v f = record { m = m; ms = n ∷ ms; done = rw e at v }
  next_one false false m n ms ts top w r e v f = f (rw e at v)

  messages_go : (ms : List Slotted) (m : Slotted) {κ : Clock} (ts : List Batch) (top : ℕ) (l : Log) (cs : List Cell) → Sendable m.message → Sendables ms → Good cs
      → Has asked O κ (doing (addressing 7) (context m ms ts top l)) (map (wake (Naming 7 0)) cs)
      → let w = messages ms m (record { clock = κ; cells = cs; log = l }) in Last w.clock ts top w.log w.cells
  unfolding messages
  messages_go [] m {κ} ts top l cs k ks g o =
      last_one (answered m (record { clock = κ; cells = cs; log = l })) (is_critical m.message.kind) m ts top _ refl (message_goes asked O (context m [] ts top l) cs k g o)
  messages_go (n ∷ ms) m {κ} ts top l cs k ks g o =
      let w : World = record { clock = κ; cells = cs; log = l } in
      next_one (answered m w) (is_critical m.message.kind) m n ms ts top (message m w) _ refl (message_goes asked O (context m (n ∷ ms) ts top l) cs k g o)
      (λ v. messages_go ms n ts top (message m w).log (map (does starts) (message m w).cells) ks.0 ks.1
      (good_all tame_starts (message m w).cells (good_message m w g)) (again_goes v))

  -- one transaction
  pub transaction_goes : (t : Batch) (ts : List Batch) {κ : Clock} (l : Log) (cs : List Cell) → Runnable t → Good cs
      → Idle orders asked O O.Before κ (opens (t ∷ ts) l) (map (wake Deaf) cs)
      → let w = transaction asked t (record { clock = κ; cells = cs; log = l }) in
      Idle orders asked O O.After w.clock (opens ts w.log) (map (wake Deaf) w.cells)
  unfolding sda_of hears
  transaction_goes t ts {κ} l cs k g o =
      let v : World = opened t (record { clock = κ; cells = cs; log = l }) in
      let w : World = messages t.others t.first v in
      let r : Last w.clock ts t.top w.log w.cells =
      messages_go t.others t.first ts t.top l (map (does starts) cs) k.first k.others (good_all tame_starts cs g)
      (subst (Has asked O (pass (t.wait + 4) κ) _) (map_square _ _ _ _ (λ c. refl) cs) (begins orders asked O o t.wait refl (up_wake Deaf refl cs))) in
      subst (Idle orders asked O O.After (symbol w.clock) _) (stop_all asked (symbol w.clock).now r.done.zs w.cells r.done.even r.done.is)
      (ends orders asked O r.done.on refl r.done.up)

pub good_transaction : (asked : ℕ) (t : Batch) (w : World) → Good w.cells → Good (transaction asked t w).cells
good_transaction asked t w g =
    good_stores asked _ (messages t.others t.first (opened t w)).cells (good_messages t.others t.first (opened t w) (good_all tame_starts w.cells g))

-- any number of them, with a watch that can be taken up again after each; others may follow
module _ (asked : ℕ) (O : Watch orders asked) (again : (κ : Clock) (d : State) (zs : List Timed) → O.After κ d zs → O.Before κ d zs) where
  pub list_goes : (ts later : List Batch) {κ : Clock} (l : Log) (cs : List Cell) → Runnables ts → Good cs
      → Idle orders asked O O.Before κ (opens (ts ++ later) l) (map (wake Deaf) cs)
      → let w = transactions asked ts (record { clock = κ; cells = cs; log = l }) in
      Idle orders asked O O.Before w.clock (opens later w.log) (map (wake Deaf) w.cells)
  unfolding transactions
  list_goes [] later l cs k g o = o
  list_goes (t ∷ ts) later {κ} l cs k g o =
      let w : World = transaction asked t (record { clock = κ; cells = cs; log = l }) in
      let r : Idle orders asked O O.After w.clock (opens (ts ++ later) w.log) (map (wake Deaf) w.cells) = transaction_goes asked O t (ts ++ later) l cs k.0 g o in
      list_goes ts later w.log w.cells k.1 (good_transaction asked t (record { clock = κ; cells = cs; log = l }) g)
      (record { rest = r.rest; tale = again w.clock (opens (ts ++ later) w.log) (map (wake Deaf) w.cells) r.tale })
