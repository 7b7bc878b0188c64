-- What the four ways in which a chip changes leave as it was: who it is, its pointer in range, its memory's length, bytes that are bytes. The layers
-- above know the four by nothing else. Assumes nothing.
use Prim.Native.Nat.{ℕ, zero, suc, ◌+◌, ◌%◌, ◌≤◌, ◌<◌}
use mathlib.Core.Path.{◌≡◌, refl, ap, sym, ◌∙◌}
use mathlib.Core.Bool.{Bool, true, false, cond, and-eq-true_iff}
use mathlib.Core.List.{List, [], ◌∷◌}
use native.Mathlib.Omega.{arith}
use native.Mathlib.Nat.{mod-lt}
use borrow.Author.Tests.{le-leb, leb-true, ltb-true}
use Rattle.std.proofs.Common.{Option, None, Some}
use lib.Dec.{ltb, leb}
use lib.ListN.{length, get_or, set, length-set}
use lib.Seq.{get_or-set_same, get_or-set_other}
use Rattle.lent.specs.Areas.{all_within}
use Rattle.store.specs.Pages.{geometry_of, page_start, page_step}
use Rattle.store.specs.Keeping.{Kept, geo, blank_latch, takes_at, takes, byte_now, steps, starts, store_one, stored, stops, with_store, kept_at}
use Rattle.store.specs.declared.Model.{Model}
use Rattle.store.specs.declared.Store.{Store}
use Rattle.store.proofs.Pages.{Fits, fits, page_kept, page_in, page_whole, read_in, pointer_in}
use Rattle.store.proofs.Stored.{length_stored, latched}

-- every byte within a bound
pub within_at : (n : ℕ) (m : List ℕ) (i : ℕ) → all_within n m ≡ true → get_or m i 0 ≤ n
unfolding all_within
within_at n [] i h = omega arith
within_at n (x ∷ m) zero h = leb-true x n ((and-eq-true_iff (leb x n) (all_within n m)).0 h).0
within_at n (x ∷ m) (suc i) h = within_at n m i ((and-eq-true_iff (leb x n) (all_within n m)).0 h).1

pub within_set : (n : ℕ) (m : List ℕ) (i x : ℕ) → x ≤ n → all_within n m ≡ true → all_within n (set m i x) ≡ true
unfolding all_within
within_set n [] i x l h = refl
within_set n (y ∷ m) zero x l h = rw (le-leb x n l) ((and-eq-true_iff (leb y n) (all_within n m)).0 h).1
within_set n (y ∷ m) (suc i) x l h =
    (and-eq-true_iff (leb y n) (all_within n (set m i x))
    ).1 (((and-eq-true_iff (leb y n) (all_within n m)).0 h).0, within_set n m i x l ((and-eq-true_iff (leb y n) (all_within n m)).0 h).1)

within_one : (m : List ℕ) (at : ℕ) (b : Option ℕ) → all_within 255 m ≡ true → all_within 255 (store_one m at b) ≡ true
within_one m at None h = h
within_one m at (Some v) h = go (ltb v 256) refl
  where
    go : (q : Bool) → ltb v 256 ≡ q → all_within 255 (cond q (set m at v) m) ≡ true
    go true e = let l : v < 256 = ltb-true v 256 e in within_set 255 m at v (omega arith) h
    go false e = h

within_stored : (k base : ℕ) (l : List (Option ℕ)) (m : List ℕ) → all_within 255 m ≡ true → all_within 255 (stored k base l m) ≡ true
unfolding stored
within_stored zero base l m h = h
within_stored (suc k) base l m h = within_one (stored k base l m) (base + k) (get_or l k None) (within_stored k base l m h)

-- what is so from the first tick on
pub record Sound (k : Kept) : Type 0 where
  pub pointer : k.store.pointer < (geo k.store).size
  pub memory : length k.memory ≡ (geo k.store).size
  pub latch : length k.store.latch ≡ 32
  pub bytes : all_within 255 k.memory ≡ true

pub sound_at_rest : (name : ℕ) (model : Model) (p : ℕ) (m : List ℕ) → p < (geometry_of model).size → length m ≡ (geometry_of model).size → all_within 255 m ≡ true
    → Sound (kept_at name model p m)
unfolding blank_latch
sound_at_rest name model p m h l b = record { pointer = h; memory = l; latch = refl; bytes = b }

-- the byte that is sent is one
pub byte_sent : (k : Kept) → Sound k → byte_now k < 256
unfolding byte_now
byte_sent k s = let l : get_or k.memory k.store.pointer 0 ≤ 255 = within_at 255 k.memory k.store.pointer s.bytes in omega arith

-- a change that leaves all this as it was
pub record Tame (g : Kept → Kept) : Type 0 where
  pub name : (k : Kept) → (g k).store.name ≡ k.store.name
  pub model : (k : Kept) → (g k).store.model ≡ k.store.model
  pub sound : (k : Kept) → Sound k → Sound (g k)

pub takes_tame : (x : ℕ) → Tame (takes x)
unfolding takes
takes_tame x = record { name = λ k. names k.store.want k.store; model = λ k. models k.store.want k.store; sound = λ k s. sounds k.store.want k s }
  where
    names : (n : ℕ) (s : Store) → (takes_at n x s).name ≡ s.name
    names zero s = refl
    names (suc zero) s = refl
    names (suc (suc n)) s = refl

    models : (n : ℕ) (s : Store) → (takes_at n x s).model ≡ s.model
    models zero s = refl
    models (suc zero) s = refl
    models (suc (suc n)) s = refl

    sounds : (n : ℕ) (k : Kept) → Sound k → Sound (with_store (takes_at n x k.store) k)
    sounds zero k s =
        record {
          pointer = page_in (fits k.store.model) k.store.pointer s.pointer;
          memory = s.memory;
          latch = length-set k.store.latch (k.store.pointer % (geo k.store).page) (Some x) ∙ s.latch;
          bytes = s.bytes;
        }
    sounds (suc zero) k s =
        record { pointer = pointer_in (fits k.store.model) k.store.high x; memory = s.memory; latch = s.latch; bytes = s.bytes }
    sounds (suc (suc n)) k s = record { pointer = s.pointer; memory = s.memory; latch = s.latch; bytes = s.bytes }

pub steps_tame : Tame steps
unfolding steps
steps_tame =
    record {
      name = λ k. refl;
      model = λ k. refl;
      sound = λ k s. record { pointer = read_in (fits k.store.model) k.store.pointer; memory = s.memory; latch = s.latch; bytes = s.bytes };
    }

pub starts_tame : Tame starts
unfolding starts blank_latch
starts_tame =
    record {
      name = λ k. refl;
      model = λ k. refl;
      sound = λ k s. record { pointer = s.pointer; memory = s.memory; latch = refl; bytes = s.bytes };
    }

pub stops_tame : (due : Bool) → Tame (stops due)
unfolding stops blank_latch
stops_tame true =
    record {
      name = λ k. refl;
      model = λ k. refl;
      sound = λ k s. record {
        pointer = s.pointer;
        memory = length_stored _ _ _ k.memory ∙ s.memory;
        latch = refl;
        bytes = within_stored _ _ _ k.memory s.bytes;
      };
    }
stops_tame false =
    record {
      name = λ k. refl;
      model = λ k. refl;
      sound = λ k s. record { pointer = s.pointer; memory = s.memory; latch = refl; bytes = s.bytes };
    }

-- the memory's length stays, whatever it was
pub stops_length : (due : Bool) (k : Kept) → length (stops due k).memory ≡ length k.memory
unfolding stops
stops_length true k = length_stored _ _ _ k.memory
stops_length false k = refl

-- only a STOP stores
pub taking_stores_nothing : (x : ℕ) (k : Kept) → (takes x k).memory ≡ k.memory
unfolding takes
taking_stores_nothing x k = refl

pub reading_stores_nothing : (k : Kept) → (steps k).memory ≡ k.memory
unfolding steps
reading_stores_nothing k = refl

pub start_stores_nothing : (k : Kept) → (starts k).memory ≡ k.memory
unfolding starts
start_stores_nothing k = refl

-- the last byte for a place wins, and the other places keep theirs
module _ (x : ℕ) (k : Kept) (s : Sound k) (ready : k.store.want ≡ 0) where
  is_taken_lem : takes x k ≡ with_store (takes_at 0 x k.store) k
  unfolding takes
  is_taken_lem = ap (λ (n : ℕ). with_store (takes_at n x k.store) k) ready

  in_latch : k.store.pointer % (geo k.store).page < length k.store.latch
  in_latch =
      let f : Fits (geo k.store) = fits k.store.model in
      let l : k.store.pointer % (geo k.store).page < (geo k.store).page = mod-lt k.store.pointer f.some in
      omega (arith, f.narrow, s.latch)

  pub last_wins : get_or (takes x k).store.latch (k.store.pointer % (geo k.store).page) None ≡ Some x
  last_wins =
      ap (λ (y : Kept). get_or y.store.latch (k.store.pointer % (geo k.store).page) None) is_taken_lem
      ∙ get_or-set_same k.store.latch (k.store.pointer % (geo k.store).page) (Some x) None in_latch

  pub others_stay : (j : ℕ) → (j ≡ k.store.pointer % (geo k.store).page → ⊥) → get_or (takes x k).store.latch j None ≡ get_or k.store.latch j None
  others_stay j h =
      ap (λ (y : Kept). get_or y.store.latch j None) is_taken_lem
      ∙ get_or-set_other k.store.latch (k.store.pointer % (geo k.store).page) j (Some x) None h

  -- so a byte that is taken and stored stands where the pointer was
  pub written : (d : ℕ) → x < 256 → get_or (stops true (takes x k)).memory k.store.pointer d ≡ x
  written d h =
      let f : Fits (geo k.store) = fits k.store.model in
      let p : ℕ = k.store.pointer in
      let taken : Kept = with_store (takes_at 0 x k.store) k in
      let same : get_or taken.store.latch (p % (geo k.store).page) None ≡ Some x =
      get_or-set_same k.store.latch (p % (geo k.store).page) (Some x) None in_latch in
      let whole : page_start (geo k.store) (page_step (geo k.store) p) + (geo k.store).page ≤ length k.memory =
      rw s.memory (page_whole f (page_step (geo k.store) p) (page_in f p s.pointer)) in
      ap (λ (y : Kept). get_or (stops true y).memory p d) is_taken_lem
      ∙ latched taken p d (sym (page_kept f p)) x f.some whole same h
