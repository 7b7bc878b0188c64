-- What a chip keeps from byte to byte, and the four ways in which it changes: a byte taken, a byte sent, START, STOP. The chip on the wires and the
-- plain reading have it alike (paper 01, "What the chip does"). Assumes nothing.
use Rattle.std.specs.Prelude.{ℕ, zero, suc, ◌+◌, ◌%◌, Bool, true, false, cond, Option, None, Some, List, ltb, get_or, set, replicate}
use Rattle.store.specs.Pages.{Geometry, geometry_of, page_start, page_step, read_step, pointer_of}
use Rattle.store.specs.declared.Model.{Model}
use Rattle.store.specs.declared.Store.{Store}

pub record Kept : Type 0 where
  pub store : Store
  pub memory : List ℕ

-- the code's store with its lent memory
abbrev pub kept_of : Store → List ℕ → Kept
kept_of s m = record { store = s; memory = m }

abbrev pub geo : Store → Geometry
geo s = geometry_of s.model

-- nothing is latched
unfoldable pub blank_latch : List (Option ℕ)
blank_latch = replicate 32 None

-- before the first byte
abbrev pub kept_at : (name : ℕ) → Model → (pointer : ℕ) → List ℕ → Kept
kept_at name model p m =
    record { store = record { name = name; model = model; pointer = p; want = 0; high = 0; latched = false; latch = blank_latch }; memory = m }

abbrev pub with_store : Store → Kept → Kept
with_store s k = record { store = s; memory = k.memory }

-- the first two are the pointer, high first (one alone changes nothing); later bytes go to a latch at the pointer
abbrev pub takes_at : ℕ → ℕ → Store → Store
takes_at (suc (suc n)) x s =
    record { name = s.name; model = s.model; pointer = s.pointer; want = suc n; high = x; latched = s.latched; latch = s.latch }
takes_at (suc zero) x s =
    record { name = s.name; model = s.model; pointer = pointer_of (geo s) s.high x; want = 0; high = 0; latched = s.latched; latch = s.latch }
takes_at zero x s =
    record {
      name = s.name;
      model = s.model;
      pointer = page_step (geo s) s.pointer;
      want = 0;
      high = 0;
      latched = true;
      latch = set s.latch (s.pointer % (geo s).page) (Some x);
    }

unfoldable pub takes : ℕ → Kept → Kept
takes x k = with_store (takes_at k.store.want x k.store) k

-- the byte at the pointer is sent
unfoldable pub byte_now : Kept → ℕ
byte_now k = get_or k.memory k.store.pointer 0

abbrev pub stepped : Store → Store
stepped s =
    record {
      name = s.name;
      model = s.model;
      pointer = read_step (geo s) s.pointer;
      want = s.want;
      high = s.high;
      latched = s.latched;
      latch = s.latch;
    }

-- and the pointer steps
unfoldable pub steps : Kept → Kept
steps k = with_store (stepped k.store) k

-- the latch is empty, yet the pointer stays moved; so many pointer bytes are to come
abbrev pub emptied : ℕ → Store → Store
emptied n s = record { name = s.name; model = s.model; pointer = s.pointer; want = n; high = 0; latched = false; latch = blank_latch }

-- START drops the latch
unfoldable pub starts : Kept → Kept
starts k = with_store (emptied (geo k.store).lead k.store) k

-- a place of the page, if something is latched for it; a number past 255 would be no byte
abbrev pub store_one : List ℕ → ℕ → Option ℕ → List ℕ
store_one m at None = m
store_one m at (Some v) = cond (ltb v 256) (set m at v) m

-- the first k places of the latch, from the page's first byte on
unfoldable pub stored : ℕ → ℕ → List (Option ℕ) → List ℕ → List ℕ
stored zero base latch m = m
stored (suc k) base latch m = store_one (stored k base latch m) (base + k) (get_or latch k None)

-- STOP stores the latch, if a store is due, and empties it
unfoldable pub stops : Bool → Kept → Kept
stops true k =
    record {
      store = emptied 0 k.store;
      memory = stored (geo k.store).page (page_start (geo k.store) k.store.pointer) k.store.latch k.memory;
    }
stops false k = with_store (emptied 0 k.store) k
