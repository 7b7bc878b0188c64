-- The clock of the plain reading: nine symbols a byte, one a message, counted along its course. Assumes nothing.
use Prim.Native.Nat.{ℕ, zero, suc, ◌+◌, ◌*◌, ◌≤◌}
use mathlib.Core.Path.{◌≡◌, refl, ap, ◌∙◌}
use mathlib.Core.Bool.{Bool, true, false, ◌||◌, not, cond}
use mathlib.Core.List.{List, [], ◌∷◌}
use native.Mathlib.Omega.{arith}
use native.Mathlib.Nat.{zero-add, suc-add}
use lib.ListN.{length, drop}
use Rattle.lines.specs.Levels.{most_held}
use Rattle.kinds.specs.Kinds.{is_critical, follow, remain}
use Rattle.kinds.specs.declared.Quota.{Quota}
use Rattle.orders.specs.Asking.{Order, put, get, order_of}
use Rattle.orders.specs.Results.{Slotted, Batch}
use Rattle.wires.specs.Holding.{first_hold, later_holds}
use Rattle.plain.specs.Clock.{Clock, symbol, symbols, pass}
use Rattle.plain.specs.Plain.{Cell, World, value_of, writes_all, reads_all, carried, listening, answered, addressed, message_if, message, started, messages}
use Rattle.agreement.specs.Course.{opened, transaction}
use Rattle.agreement.specs.Sums.{Sum, alone, with, clocked_in, held, ticks_of}
use Rattle.agreement.proofs.Standing.{Small, small_first, small_later, symbol_is}

-- symbols on the clock
pub symbols_add : (m n : ℕ) (κ : Clock) → symbols n (symbols m κ) ≡ symbols (m + n) κ
unfolding symbols
symbols_add zero n κ = rw (zero-add n)
symbols_add (suc m) n κ = symbols_add m n (symbol κ) ∙ rw (suc-add m n)

now_symbols : (n : ℕ) (κ : Clock) → (symbols n κ).now ≡ κ.now + 4 * n + held n κ.holds
unfolding symbols held
now_symbols zero κ = omega arith
now_symbols (suc n) κ =
    now_symbols n (symbol κ) ∙ ap (λ (c : Clock). c.now + 4 * n + held n c.holds) (symbol_is κ) ∙ sum κ.now n (first_hold κ.holds) (held n (later_holds κ.holds))
  where
    sum : (t n h r : ℕ) → t + (4 + h) + 4 * n + r ≡ t + 4 * suc n + (h + r)
    sum t n h r = omega arith

holds_symbols : (n : ℕ) (κ : Clock) → (symbols n κ).holds ≡ drop n κ.holds
unfolding symbols
holds_symbols zero κ = refl
holds_symbols (suc n) κ = holds_symbols n (symbol κ) ∙ ap (λ (c : Clock). drop n c.holds) (symbol_is κ) ∙ later n κ.holds
  where
    later : (n : ℕ) (hs : List ℕ) → drop n (later_holds hs) ≡ drop (suc n) hs
    later zero [] = refl
    later (suc n) [] = refl
    later n (h ∷ hs) = refl

held_small : (n : ℕ) (hs : List ℕ) → Small hs → held n hs ≤ most_held * n
unfolding held
held_small zero hs s = omega arith
held_small (suc n) hs s =
    sum (held n (later_holds hs)) (first_hold hs) n most_held (held_small n (later_holds hs) (small_later hs s)) (small_first hs s)
  where
    sum : (r h n k : ℕ) → r ≤ k * n → h ≤ k → h + r ≤ k * suc n
    sum r h n k a b = omega arith

-- the bytes that a message sends, its address counted
abbrev pub data_sent : (Cell → Bool) → Order → World → ℕ
data_sent f (put ys) w = length ys
data_sent f (get q) w = suc (follow q (value_of f w.cells))

abbrev pub bytes_sent : Slotted → World → ℕ
bytes_sent m w = suc (cond (answered m w) (data_sent (listening m w) (order_of m.message) w) 0)

-- and those of a transaction
unfoldable pub tally : List Slotted → Slotted → World → Sum
tally [] m w = alone (bytes_sent m w)
tally (n ∷ ms) m w =
    let more : Sum = with (bytes_sent m w) (tally ms n (started (symbol (message m w).clock) (message m w))) in
    cond (answered m w || not (is_critical m.message.kind)) more (alone (bytes_sent m w))

nine_more : (k : ℕ) (κ : Clock) → symbols (9 * k) (symbols 9 κ) ≡ symbols (9 * suc k) κ
nine_more k κ = symbols_add 9 (9 * k) κ ∙ ap (λ (n : ℕ). symbols n κ) (sum k)
  where
    sum : (k : ℕ) → 9 + 9 * k ≡ 9 * suc k
    sum k = omega arith

clock_writes : (f : Cell → Bool) (s n : ℕ) (ys : List ℕ) (w : World) → (writes_all f s n ys w).clock ≡ symbols (9 * length ys) w.clock
unfolding writes_all symbols
clock_writes f s n [] w = refl
clock_writes f s n (y ∷ ys) w = clock_writes f s (suc n) ys _ ∙ nine_more (length ys) w.clock

clock_reads : (f : Cell → Bool) (s n : ℕ) (q : Quota) (m : ℕ) (w : World) → (reads_all f s n q m w).clock ≡ symbols (9 * m) w.clock
unfolding reads_all symbols
clock_reads f s n q zero w = refl
clock_reads f s n q (suc m) w = clock_reads f s (suc n) (remain q m) m _ ∙ nine_more m w.clock

clock_message : (m : Slotted) (w : World) → (message m w).clock ≡ symbols (9 * bytes_sent m w) w.clock
clock_message m w = go (answered m w)
  where
    carry : (o : Order) → (carried (listening m w) m.slot o (addressed m true w)).clock ≡ symbols (9 * suc (data_sent (listening m w) o w)) w.clock
    carry (put ys) = clock_writes _ _ 0 ys _ ∙ nine_more (length ys) w.clock
    carry (get q) =
        clock_reads _ _ 1 q _ _ ∙ nine_more (follow q (value_of (listening m w) w.cells)) (symbols 9 w.clock)
        ∙ nine_more (suc (follow q (value_of (listening m w) w.cells))) w.clock

    go : (q : Bool) → (message_if m q w).clock ≡ symbols (9 * suc (cond q (data_sent (listening m w) (order_of m.message) w) 0)) w.clock
    go true = carry (order_of m.message)
    go false = refl

-- with the START after it, or STOP
clock_onward : (m : Slotted) (w : World) → symbol (message m w).clock ≡ symbols (9 * bytes_sent m w + 1) w.clock
unfolding symbols
clock_onward m w = ap symbol (clock_message m w) ∙ symbols_add (9 * bytes_sent m w) 1 w.clock

clock_messages : (ms : List Slotted) (m : Slotted) (w : World) → symbol (messages ms m w).clock ≡ symbols (clocked_in (tally ms m w)) w.clock
unfolding messages tally
clock_messages [] m w = clock_onward m w ∙ ap (λ (n : ℕ). symbols n w.clock) (sum (bytes_sent m w))
  where
    sum : (b : ℕ) → 9 * b + 1 ≡ 1 + 9 * b
    sum b = omega arith
clock_messages (n ∷ ms) m w = go (answered m w || not (is_critical m.message.kind)) (clock_messages ms n (started (symbol (message m w).clock) (message m w)))
  where
    sum : (b : ℕ) → 9 * b + 1 ≡ 1 + 9 * b
    sum b = omega arith

    more : (s b k : ℕ) → 9 * s + 1 + (k + 9 * b) ≡ suc k + 9 * (s + b)
    more s b k = omega arith

    r : World
    r = messages ms n (started (symbol (message m w).clock) (message m w))

    t : Sum
    t = tally ms n (started (symbol (message m w).clock) (message m w))

    go : (q : Bool) → symbol r.clock ≡ symbols (clocked_in t) (symbol (message m w).clock)
        → let z : Sum = cond q (with (bytes_sent m w) t) (alone (bytes_sent m w)) in symbol (cond q r (message m w)).clock ≡ symbols (clocked_in z) w.clock
    go true e =
        e ∙ ap (symbols (clocked_in t)) (clock_onward m w) ∙ symbols_add (9 * bytes_sent m w + 1) (clocked_in t) w.clock
        ∙ ap (λ (n : ℕ). symbols n w.clock) (more (bytes_sent m w) t.bytes t.messages)
    go false e = clock_onward m w ∙ ap (λ (n : ℕ). symbols n w.clock) (sum (bytes_sent m w))

-- one transaction
module _ (asked : ℕ) (t : Batch) (w : World) where
  abbrev pub sent : Sum
  sent = tally t.others t.first (opened t w)

  pub ticks_by_tally : (transaction asked t w).clock.now ≡ w.clock.now + ticks_of t.wait sent w.clock.holds
  unfolding pass ticks_of
  ticks_by_tally =
      ap (λ (κ : Clock). κ.now) (clock_messages t.others t.first (opened t w)) ∙ now_symbols (clocked_in sent) (opened t w).clock
      ∙ sum w.clock.now t.wait (clocked_in sent) (held (clocked_in sent) w.clock.holds)
    where
      sum : (n k c h : ℕ) → n + (k + 4) + 4 * c + h ≡ n + (k + 4 * (c + 1) + h)
      sum n k c h = omega arith

  pub holds_by_tally : (transaction asked t w).clock.holds ≡ drop (clocked_in sent) w.clock.holds
  unfolding pass
  holds_by_tally = ap (λ (κ : Clock). κ.holds) (clock_messages t.others t.first (opened t w)) ∙ holds_symbols (clocked_in sent) (opened t w).clock

-- never over 20(m + 9L) + 4 after the wait
pub ticks_bound : (wait : ℕ) (s : Sum) (hs : List ℕ) → Small hs → ticks_of wait s hs ≤ wait + ((4 + most_held) * clocked_in s + 4)
unfolding ticks_of
ticks_bound wait s hs h = sum wait (clocked_in s) (held (clocked_in s) hs) most_held (held_small (clocked_in s) hs h)
  where
    sum : (k c r h : ℕ) → r ≤ h * c → k + 4 * (c + 1) + r ≤ k + ((4 + h) * c + 4)
    sum k c r h e = omega arith
