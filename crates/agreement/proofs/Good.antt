-- What holds of the chips throughout a run: distinct addresses, and bytes in their memories. Every move of the plain reading keeps it. Size and page are
-- not looked at. Assumes nothing.
use Prim.Native.Nat.{ℕ, zero, suc, ◌+◌, ◌<◌}
use mathlib.Core.Path.{◌≡◌, refl}
use mathlib.Core.Bool.{Bool, true, false, ◌||◌, not, cond, and-eq-true_iff}
use mathlib.Core.List.{List, [], ◌∷◌, map}
use native.Mathlib.Omega.{arith}
use borrow.Author.Tests.{eqb-true, ltb-true}
use lib.Dec.{eqb, ltb}
use lib.ListN.{get_or, set}
use Rattle.std.specs.Prelude.{Option, Some, None}
use Rattle.kinds.specs.Kinds.{is_critical, remain}
use Rattle.kinds.specs.declared.Quota.{Quota}
use Rattle.orders.specs.Asking.{Order, put, get, order_of}
use Rattle.orders.specs.Results.{Slotted}
use Rattle.store.specs.Pages.{page_start}
use Rattle.store.specs.Keeping.{Kept, geo, takes_at, takes, byte_now, steps, starts, store_one, stored, stops}
use Rattle.store.specs.declared.Store.{Store}
use Rattle.plain.specs.Clock.{symbol}
use Rattle.plain.specs.Plain.{Cell, World, listens, any_of, does, only, value_of, stores, writes_all, reads_all, carried, listening, answered, addressed, message_if, message, started, messages}
use Rattle.agreement.specs.Inputs.{Bytes}
use Rattle.agreement.proofs.Tuned.{Lone}

pub byte_at : (m : List ℕ) (i : ℕ) → Bytes m → get_or m i 0 < 256
byte_at [] zero h = omega arith
byte_at [] (suc i) h = omega arith
byte_at (x ∷ m) zero h = h.0
byte_at (x ∷ m) (suc i) h = byte_at m i h.1

-- no chip has this address; no two chips have the same
abbrev pub Absent : ℕ → List Cell → Type 0
Absent n [] = Unit {0}
Absent n (c ∷ cs) = (eqb n c.kept.store.name ≡ false) × Absent n cs

abbrev pub Distinct : List Cell → Type 0
Distinct [] = Unit {0}
Distinct (c ∷ cs) = Absent c.kept.store.name cs × Distinct cs

abbrev pub Filled : List Cell → Type 0
Filled [] = Unit {0}
Filled (c ∷ cs) = Bytes c.kept.memory × Filled cs

pub record Good (cs : List Cell) : Type 0 where
  pub distinct : Distinct cs
  pub filled : Filled cs

-- at most one chip listens
absent_any : (a t : ℕ) (cs : List Cell) → Absent a cs → any_of (listens a t) cs ≡ false
absent_any a t [] h = refl
absent_any a t (c ∷ cs) h = rw h.0 (absent_any a t cs h.1)

pub lone : (a t : ℕ) (cs : List Cell) → Distinct cs → Lone (listens a t) cs
lone a t [] h = tt
lone a t (c ∷ cs) h =
    (λ e. absent_any a t cs (rw (eqb-true a c.kept.store.name ((and-eq-true_iff (eqb a c.kept.store.name) _).0 e).0) h.0), lone a t cs h.1)

-- what is read is a byte
pub value_small : (f : Cell → Bool) (cs : List Cell) → Filled cs → value_of f cs < 256
unfolding byte_now
value_small f [] h = omega arith
value_small f (c ∷ cs) h = go (f c) (value_small f cs h.1)
  where
    go : (q : Bool) → value_of f cs < 256 → cond q (byte_now c.kept) (value_of f cs) < 256
    go true r = byte_at c.kept.memory c.kept.store.pointer h.0
    go false r = r

-- a move of chips that keeps addresses and bytes
module _ (g : Cell → Cell) (n : (c : Cell) → (g c).kept.store.name ≡ c.kept.store.name) (k : (c : Cell) → Bytes c.kept.memory → Bytes (g c).kept.memory) where
  absent_map : (a : ℕ) (cs : List Cell) → Absent a cs → Absent a (map g cs)
  absent_map a [] h = tt
  absent_map a (c ∷ cs) h = (rw (n c) h.0, absent_map a cs h.1)

  distinct_map : (cs : List Cell) → Distinct cs → Distinct (map g cs)
  distinct_map [] h = tt
  distinct_map (c ∷ cs) h = (rw (n c) (absent_map c.kept.store.name cs h.0), distinct_map cs h.1)

  filled_map : (cs : List Cell) → Filled cs → Filled (map g cs)
  filled_map [] h = tt
  filled_map (c ∷ cs) h = (k c h.0, filled_map cs h.1)

  good_map : (cs : List Cell) → Good cs → Good (map g cs)
  good_map cs h = record { distinct = distinct_map cs h.distinct; filled = filled_map cs h.filled }

-- what a move of what a chip keeps may not change
pub record Tame (g : Kept → Kept) : Type 0 where
  pub name : (k : Kept) → (g k).store.name ≡ k.store.name
  pub bytes : (k : Kept) → Bytes k.memory → Bytes (g k).memory

module _ {g : Kept → Kept} (t : Tame g) where
  pub good_only : (f : Cell → Bool) (cs : List Cell) → Good cs → Good (map (only f g) cs)
  good_only f = good_map (only f g) (λ c. name1 c (f c)) (λ c. bytes1 c (f c))
    where
      name1 : (c : Cell) (q : Bool) → (cond q (does g c) c).kept.store.name ≡ c.kept.store.name
      name1 c true = t.name c.kept
      name1 c false = refl

      bytes1 : (c : Cell) (q : Bool) → Bytes c.kept.memory → Bytes (cond q (does g c) c).kept.memory
      bytes1 c true b = t.bytes c.kept b
      bytes1 c false b = b

  pub good_all : (cs : List Cell) → Good cs → Good (map (does g) cs)
  good_all = good_map (does g) (λ c. t.name c.kept) (λ c. t.bytes c.kept)

  pub listens_same : (a n : ℕ) (c : Cell) → listens a n (does g c) ≡ listens a n c
  listens_same a n c = rw (t.name c.kept)

bytes_set : (m : List ℕ) (i x : ℕ) → x < 256 → Bytes m → Bytes (set m i x)
bytes_set [] zero x h b = tt
bytes_set [] (suc i) x h b = tt
bytes_set (y ∷ m) zero x h b = (h, b.1)
bytes_set (y ∷ m) (suc i) x h b = (b.0, bytes_set m i x h b.1)

bytes_stored : (k base : ℕ) (l : List (Option ℕ)) (m : List ℕ) → Bytes m → Bytes (stored k base l m)
unfolding stored
bytes_stored zero base l m b = b
bytes_stored (suc k) base l m b = latched (get_or l k None) (bytes_stored k base l m b)
  where
    go : (x : ℕ) (q : Bool) → ltb x 256 ≡ q → Bytes (stored k base l m) → Bytes (cond q (set (stored k base l m) (base + k) x) (stored k base l m))
    go x true e h = bytes_set (stored k base l m) (base + k) x (ltb-true x 256 e) h
    go x false e h = h

    latched : (v : Option ℕ) → Bytes (stored k base l m) → Bytes (store_one (stored k base l m) (base + k) v)
    latched None h = h
    latched (Some x) h = go x (ltb x 256) refl h

-- the four moves are tame
pub tame_takes : (x : ℕ) → Tame (takes x)
unfolding takes
tame_takes x = record { name = λ k. names k.store.want k.store; bytes = λ k b. b }
  where
    names : (n : ℕ) (s : Store) → (takes_at n x s).name ≡ s.name
    names zero s = refl
    names (suc zero) s = refl
    names (suc (suc n)) s = refl

pub tame_steps : Tame steps
unfolding steps
tame_steps = record { name = λ k. refl; bytes = λ k b. b }

pub tame_starts : Tame starts
unfolding starts
tame_starts = record { name = λ k. refl; bytes = λ k b. b }

tame_stops : (q : Bool) → Tame (stops q)
unfolding stops
tame_stops true =
    record { name = λ k. refl; bytes = λ k b. bytes_stored (geo k.store).page (page_start (geo k.store) k.store.pointer) k.store.latch k.memory b }
tame_stops false = record { name = λ k. refl; bytes = λ k b. b }

pub good_stores : (asked t : ℕ) (cs : List Cell) → Good cs → Good (map (stores asked t) cs)
good_stores asked t =
    good_map (stores asked t) (λ c. (tame_stops c.kept.store.latched).name c.kept) (λ c. (tame_stops c.kept.store.latched).bytes c.kept)

-- so the plain reading keeps it
good_writes : (f : Cell → Bool) (s n : ℕ) (ys : List ℕ) (w : World) → Good w.cells → Good (writes_all f s n ys w).cells
unfolding writes_all
good_writes f s n [] w g = g
good_writes f s n (y ∷ ys) w g = good_writes f s (suc n) ys _ (good_only (tame_takes y) f w.cells g)

good_reads : (f : Cell → Bool) (s n : ℕ) (q : Quota) (m : ℕ) (w : World) → Good w.cells → Good (reads_all f s n q m w).cells
unfolding reads_all
good_reads f s n q zero w g = g
good_reads f s n q (suc m) w g = good_reads f s (suc n) (remain q m) m _ (good_only tame_steps f w.cells g)

pub good_message : (m : Slotted) (w : World) → Good w.cells → Good (message m w).cells
good_message m w g = go (answered m w)
  where
    carry : (o : Order) → Good (carried (listening m w) m.slot o (addressed m true w)).cells
    carry (put ys) = good_writes _ _ 0 ys _ g
    carry (get q) = good_reads _ _ 1 q _ _ (good_only tame_steps (listening m w) w.cells g)

    go : (q : Bool) → Good (message_if m q w).cells
    go true = carry (order_of m.message)
    go false = g

pub good_messages : (ms : List Slotted) (m : Slotted) (w : World) → Good w.cells → Good (messages ms m w).cells
unfolding messages
good_messages [] m w g = good_message m w g
good_messages (n ∷ ms) m w g =
    go (answered m w || not (is_critical m.message.kind)) _
    (good_messages ms n (started (symbol (message m w).clock) (message m w)) (good_all tame_starts (message m w).cells (good_message m w g)))
  where
    go : (q : Bool) (r : World) → Good r.cells → Good (cond q r (message m w)).cells
    go true r h = h
    go false r h = good_message m w g
