-- What a chip keeps, a law for each rule, as the code finds them: which byte is taken, the latch stored place by place, STOP; docs/MAP.md names this file.
-- Assumes nothing.
use Rattle.std.proofs.Common.{◌≡◌, ℕ, zero, suc, ◌+◌, ◌-◌, ◌%◌, ◌≤◌, ◌<◌, Bool, true, false, List, Option, None, Some, set, get_or, refl, ap, sym, ◌∙◌, arith, add-one}
use borrow.Author.Tests.{lt-ltb}
use Rattle.store.specs.Pages.{page_start, page_step, read_step, pointer_of}
use Rattle.store.specs.Keeping.{geo, kept_of, takes_at, stepped, emptied, store_one, stored, stops}
use Rattle.store.specs.declared.Store.{Store}

-- a data byte goes to its place in the page, and the pointer round in it
pub latches_data : (s : Store) (p place x : ℕ) → p ≡ page_step (geo s) s.pointer → place ≡ s.pointer % (geo s).page
    → record { name = s.name; model = s.model; pointer = p; want = 0; high = 0; latched = true; latch = set s.latch place (Some x) } ≡ takes_at 0 x s
latches_data s p place x h q = rw (h, q)

-- a byte was sent: the pointer goes round in the memory
pub sends_data : (s : Store) (p : ℕ) → p ≡ read_step (geo s) s.pointer
    → record { name = s.name; model = s.model; pointer = p; want = s.want; high = s.high; latched = s.latched; latch = s.latch } ≡ stepped s
sends_data s p h = rw h

-- START: so many pointer bytes are to come
pub begins_anew : (s r : Store) (n : ℕ) → r ≡ emptied n s → n ≡ (geo s).lead → r ≡ emptied (geo s).lead s
begins_anew s r n h e = h ∙ ap (λ (y : ℕ). emptied y s) e

pub takes_data : (s r : Store) (x : ℕ) → s.want ≡ 0 → r ≡ takes_at 0 x s → r ≡ takes_at s.want x s
takes_data s r x e h = h ∙ ap (λ (n : ℕ). takes_at n x s) (sym e)

pub takes_pointer : (s : Store) (p x : ℕ) → s.want ≡ 1 → p ≡ pointer_of (geo s) s.high x
    → record { name = s.name; model = s.model; pointer = p; want = 0; high = 0; latched = s.latched; latch = s.latch } ≡ takes_at s.want x s
takes_pointer s p x e h = rw (e, h)

-- one pointer byte alone changes no pointer
wants_more : (n x : ℕ) (s : Store) → 2 ≤ n
    → record { name = s.name; model = s.model; pointer = s.pointer; want = n - 1; high = x; latched = s.latched; latch = s.latch } ≡ takes_at n x s
wants_more zero x s h = absurd (omega arith)
wants_more (suc zero) x s h = absurd (omega arith)
wants_more (suc (suc n)) x s h = let e : suc (suc n) - 1 ≡ suc n = omega arith in rw e

pub takes_high : (s : Store) (x : ℕ) → (s.want ≡ 0 → ⊥) → (s.want ≡ 1 → ⊥)
    → record { name = s.name; model = s.model; pointer = s.pointer; want = s.want - 1; high = x; latched = s.latched; latch = s.latch } ≡ takes_at s.want x s
takes_high s x a b = let l : 2 ≤ s.want = omega arith in wants_more s.want x s l

-- the store goes from place to place: so far the first k
pub none_yet : (base : ℕ) (l : List (Option ℕ)) (m : List ℕ) → m ≡ stored 0 base l m
unfolding stored
none_yet base l m = refl

pub blank_next : (k base : ℕ) (l : List (Option ℕ)) (m : List ℕ) → ((x : ℕ) → get_or l k None ≡ Some x → ⊥)
    → stored (k + 1) base l m ≡ stored k base l m
unfolding stored
blank_next k base l m h = rw add-one (go (get_or l k None) refl)
  where
    go : (b : Option ℕ) → get_or l k None ≡ b → store_one (stored k base l m) (base + k) b ≡ stored k base l m
    go None e = refl
    go (Some x) e = absurd (h x e)

pub byte_next : (k base v : ℕ) (l : List (Option ℕ)) (m : List ℕ) → get_or l k None ≡ Some v → v < 256
    → stored (k + 1) base l m ≡ set (stored k base l m) (base + k) v
unfolding stored
byte_next k base v l m h b = rw (add-one k, h, lt-ltb v 256 b)

pub stops_due : (s r : Store) (due : Bool) (m n : List ℕ) → due ≡ true → r ≡ emptied 0 s
    → n ≡ stored (geo s).page (page_start (geo s) s.pointer) s.latch m → kept_of r n ≡ stops due (kept_of s m)
unfolding stops
stops_due s r due m n d e h = rw (d, e, h)

pub stops_idle : (s r : Store) (due : Bool) (m : List ℕ) → due ≡ false → r ≡ emptied 0 s → kept_of r m ≡ stops due (kept_of s m)
unfolding stops
stops_idle s r due m d e = rw (d, e)
