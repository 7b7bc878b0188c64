-- What a STOP stores: the bytes latched, each at its place in the page of the pointer, and nothing else. Assumes nothing.
use Prim.Native.Nat.{ℕ, zero, suc, ◌+◌, ◌*◌, ◌/◌, ◌%◌, ◌≤◌, ◌<◌}
use mathlib.Core.Path.{◌≡◌, refl, ◌∙◌}
use mathlib.Core.Bool.{Bool, true, false, cond}
use mathlib.Core.List.{List}
use native.Mathlib.Omega.{arith}
use native.Mathlib.Nat.{mod-lt, div-eq_of_lt-le, add-mul, one-mul, div-add-mod'}
use borrow.Author.Tests.{lt-ltb, le-ltb, ltb-true, ltb-false, leb-true, leb-false, eqb-true, eqb-false}
use Rattle.std.proofs.Common.{Option, None, Some}
use lib.Dec.{eqb, ltb, leb}
use lib.ListN.{length, get_or, set, length-set}
use lib.Seq.{get_or-set_same, get_or-set_other}
use Rattle.store.specs.Pages.{page_start}
use Rattle.store.specs.Keeping.{Kept, geo, store_one, stored, stops}

-- nothing is latched, or a number that is no byte
abbrev pub Blank : Option ℕ → Type 0
Blank None = Unit {0}
Blank (Some v) = 256 ≤ v

-- one place
length_one : (m : List ℕ) (at : ℕ) (b : Option ℕ) → length (store_one m at b) ≡ length m
length_one m at None = refl
length_one m at (Some v) = go (ltb v 256)
  where
    go : (q : Bool) → length (cond q (set m at v) m) ≡ length m
    go true = simp length-set
    go false = refl

other_one : (m : List ℕ) (at : ℕ) (b : Option ℕ) (i d : ℕ) → (i ≡ at → ⊥) → get_or (store_one m at b) i d ≡ get_or m i d
other_one m at None i d h = refl
other_one m at (Some v) i d h = go (ltb v 256)
  where
    go : (q : Bool) → get_or (cond q (set m at v) m) i d ≡ get_or m i d
    go true = get_or-set_other m at i v d h
    go false = refl

same_one : (m : List ℕ) (at v : ℕ) (b : Option ℕ) (d : ℕ) → b ≡ Some v → v < 256 → at < length m → get_or (store_one m at b) at d ≡ v
same_one m at v b d e h l = rw (e, lt-ltb v 256 h) (get_or-set_same m at v d l)

blank_one : (m : List ℕ) (at : ℕ) (b : Option ℕ) (i d : ℕ) → Blank b → get_or (store_one m at b) i d ≡ get_or m i d
blank_one m at None i d h = refl
blank_one m at (Some v) i d h = rw (le-ltb v 256 h)

-- the length stays
pub length_stored : (k base : ℕ) (l : List (Option ℕ)) (m : List ℕ) → length (stored k base l m) ≡ length m
unfolding stored
length_stored zero base l m = refl
length_stored (suc k) base l m = length_one (stored k base l m) (base + k) (get_or l k None) ∙ length_stored k base l m

-- no byte before the first place or past the last changes
pub before_stored : (k base i d : ℕ) (l : List (Option ℕ)) (m : List ℕ) → i < base → get_or (stored k base l m) i d ≡ get_or m i d
unfolding stored
before_stored zero base i d l m h = refl
before_stored (suc k) base i d l m h =
    other_one (stored k base l m) (base + k) (get_or l k None) i d (λ e. omega arith) ∙ before_stored k base i d l m h

pub past_stored : (k base i d : ℕ) (l : List (Option ℕ)) (m : List ℕ) → base + k ≤ i → get_or (stored k base l m) i d ≡ get_or m i d
unfolding stored
past_stored zero base i d l m h = refl
past_stored (suc k) base i d l m h =
    other_one (stored k base l m) (base + k) (get_or l k None) i d (λ e. omega arith) ∙ past_stored k base i d l m (omega arith)

-- a place for which nothing is latched keeps its byte
blank_next : (base j k d : ℕ) (l : List (Option ℕ)) (m : List ℕ) (q : Bool) → eqb j k ≡ q → Blank (get_or l j None)
    → get_or (store_one m (base + k) (get_or l k None)) (base + j) d ≡ get_or m (base + j) d
blank_next base j k d l m true e h = blank_one m (base + k) (get_or l k None) (base + j) d (rw (eqb-true j k e) at h)
blank_next base j k d l m false e h = other_one m (base + k) (get_or l k None) (base + j) d (λ p. eqb-false j k e (omega arith))

pub blank_stored : (k base j d : ℕ) (l : List (Option ℕ)) (m : List ℕ) → Blank (get_or l j None) → get_or (stored k base l m) (base + j) d ≡ get_or m (base + j) d
unfolding stored
blank_stored zero base j d l m h = refl
blank_stored (suc k) base j d l m h = blank_next base j k d l (stored k base l m) (eqb j k) refl h ∙ blank_stored k base j d l m h

-- a latched byte is there
byte_next : (base j k v d : ℕ) (l : List (Option ℕ)) (m : List ℕ) (q : Bool) → eqb j k ≡ q → get_or l j None ≡ Some v → v < 256 → base + k < length m
    → (j < k → get_or m (base + j) d ≡ v) → j < suc k → get_or (store_one m (base + k) (get_or l k None)) (base + j) d ≡ v
byte_next base j k v d l m true e h b f r i =
    let same : j ≡ k = eqb-true j k e in rw same (same_one m (base + k) v (get_or l k None) d (rw same at h) b f)
byte_next base j k v d l m false e h b f r i =
    let apart : j ≡ k → ⊥ = eqb-false j k e in other_one m (base + k) (get_or l k None) (base + j) d (λ p. apart (omega arith)) ∙ r (omega arith)

pub byte_stored : (k base j v d : ℕ) (l : List (Option ℕ)) (m : List ℕ) → get_or l j None ≡ Some v → v < 256 → j < k → base + k ≤ length m
    → get_or (stored k base l m) (base + j) d ≡ v
unfolding stored
byte_stored zero base j v d l m h b i f = absurd (omega arith)
byte_stored (suc k) base j v d l m h b i f =
    byte_next base j k v d l (stored k base l m) (eqb j k) refl h b (rw (length_stored k base l m) (omega arith)) (λ (i : j < k). byte_stored k base j v d l m h b i (omega arith)) i

-- a place in no page but its own
apart : (i q page : ℕ) → (i / page ≡ q → ⊥) → q * page ≤ i → q * page + page ≤ i
apart i q page h l = go (leb (q * page + page) i) refl
  where
    go : (b : Bool) → leb (q * page + page) i ≡ b → q * page + page ≤ i
    go true e = leb-true (q * page + page) i e
    go false e =
        let under : i < q * page + page = leb-false (q * page + page) i e in
        absurd (h (div-eq_of_lt-le page l (rw (add-mul q 1 page, one-mul page) under)))

outside_stored : (q page i d : ℕ) (l : List (Option ℕ)) (m : List ℕ) → (i / page ≡ q → ⊥) → get_or (stored page (q * page) l m) i d ≡ get_or m i d
outside_stored q page i d l m h = go (ltb i (q * page)) refl
  where
    go : (b : Bool) → ltb i (q * page) ≡ b → get_or (stored page (q * page) l m) i d ≡ get_or m i d
    go true e = before_stored page (q * page) i d l m (ltb-true i (q * page) e)
    go false e = past_stored page (q * page) i d l m (apart i q page h (ltb-false i (q * page) e))

-- STOP, over the places of the memory
module _ (k : Kept) where
  -- no byte outside the pointer's page changes
  pub outside : (due : Bool) (i d : ℕ) → (i / (geo k.store).page ≡ k.store.pointer / (geo k.store).page → ⊥) → get_or (stops due k).memory i d ≡ get_or k.memory i d
  unfolding stops page_start
  outside false i d h = refl
  outside true i d h = outside_stored (k.store.pointer / (geo k.store).page) (geo k.store).page i d k.store.latch k.memory h

  module _ (i d : ℕ) (here : i / (geo k.store).page ≡ k.store.pointer / (geo k.store).page) where
    place : page_start (geo k.store) k.store.pointer + i % (geo k.store).page ≡ i
    unfolding page_start
    place = rw (← here) (div-add-mod' i (geo k.store).page)

    -- nor one of it for which nothing was latched
    pub unlatched : (due : Bool) → Blank (get_or k.store.latch (i % (geo k.store).page) None) → get_or (stops due k).memory i d ≡ get_or k.memory i d
    unfolding stops
    unlatched false h = refl
    unlatched true h = rw place at (blank_stored (geo k.store).page (page_start (geo k.store) k.store.pointer) (i % (geo k.store).page) d k.store.latch k.memory h)

    -- a latched byte is stored
    pub latched : (v : ℕ) → 0 < (geo k.store).page → page_start (geo k.store) k.store.pointer + (geo k.store).page ≤ length k.memory
        → get_or k.store.latch (i % (geo k.store).page) None ≡ Some v → v < 256 → get_or (stops true k).memory i d ≡ v
    unfolding stops
    latched v some whole h b = rw place at (byte_stored (geo k.store).page (page_start (geo k.store) k.store.pointer) (i % (geo k.store).page) v d k.store.latch k.memory h b (mod-lt i some) whole)
