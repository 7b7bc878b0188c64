-- No chip comes or goes in a plain reading. Assumes nothing.
use Prim.Native.Nat.{ℕ, zero, suc, ◌+◌}
use mathlib.Core.Path.{◌≡◌, refl, ◌∙◌}
use mathlib.Core.Bool.{Bool, true, false, not, ◌||◌, cond}
use mathlib.Core.List.{List, [], ◌∷◌}
use lib.ListN.{length, length-map}
use Rattle.kinds.specs.Kinds.{is_critical, follow, remain}
use Rattle.kinds.specs.declared.Quota.{Quota}
use Rattle.orders.specs.Asking.{Order, put, get, order_of}
use Rattle.orders.specs.Marks.{written}
use Rattle.orders.specs.Results.{Slotted, Batch}
use Rattle.store.specs.Keeping.{takes, steps, starts}
use Rattle.plain.specs.Clock.{symbol, pass}
use Rattle.plain.specs.Plain.{Cell, World, does, only, value_of, byte_goes, writes_all, reads_one, reads_all, carried, listening, answered, addressed, message_if, message, started, messages, stores, closes, transactions}

abbrev chips : World → ℕ
chips w = length w.cells

writes_count : (f : Cell → Bool) (s n : ℕ) (ys : List ℕ) (w : World) → chips (writes_all f s n ys w) ≡ chips w
unfolding writes_all
writes_count f s n [] w = refl
writes_count f s n (y ∷ ys) w = writes_count f s (suc n) ys (byte_goes f (takes y) (written n y true) s w) ∙ length-map w.cells (only f (takes y))

reads_count : (f : Cell → Bool) (s n : ℕ) (q : Quota) (m : ℕ) (w : World) → chips (reads_all f s n q m w) ≡ chips w
unfolding reads_all
reads_count f s n q zero w = refl
reads_count f s n q (suc m) w = reads_count f s (suc n) (remain q m) m (reads_one f s n (remain q m) w) ∙ length-map w.cells (only f steps)

carried_count : (f : Cell → Bool) (s : ℕ) (o : Order) (w : World) → chips (carried f s o w) ≡ chips w
carried_count f s (put ys) w = writes_count f s 0 ys w
carried_count f s (get q) w = reads_count f s 1 q (follow q (value_of f w.cells)) (reads_one f s 0 q w) ∙ length-map w.cells (only f steps)

message_count : (m : Slotted) (b : Bool) (w : World) → chips (message_if m b w) ≡ chips w
message_count m true w = carried_count (listening m w) m.slot (order_of m.message) (addressed m true w)
message_count m false w = refl

messages_count : (ms : List Slotted) (m : Slotted) (w : World) → chips (messages ms m w) ≡ chips w
unfolding messages
messages_count [] m w = message_count m (answered m w) w
messages_count (n ∷ ms) m w =
    cases (answered m w || not (is_critical m.message.kind))
    (messages_count ms n (started (symbol (message m w).clock) (message m w)) ∙ length-map (message m w).cells (does starts) ∙ message_count m (answered m w) w)
  where
    cases : (b : Bool) → chips (messages ms n (started (symbol (message m w).clock) (message m w))) ≡ chips w
        → chips (cond b (messages ms n (started (symbol (message m w).clock) (message m w))) (message m w)) ≡ chips w
    cases true e = e
    cases false e = message_count m (answered m w) w

pub transactions_count : (asked : ℕ) (ts : List Batch) (w : World) → chips (transactions asked ts w) ≡ chips w
unfolding transactions
transactions_count asked [] w = refl
transactions_count asked (t ∷ ts) w =
    let begun : World = started (pass (t.wait + 4) w.clock) w in
    let sent : World = messages t.others t.first begun in
    transactions_count asked ts (closes asked t.top sent) ∙ length-map sent.cells (stores asked (symbol sent.clock).now) ∙ messages_count t.others t.first begun
    ∙ length-map w.cells (does starts)
