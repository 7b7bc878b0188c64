-- The steps of the pointer, once for every size and page; then each model there is. Assumes nothing.
use Prim.Native.Nat.{ℕ, ◌+◌, ◌*◌, ◌/◌, ◌%◌, ◌≤◌, ◌<◌}
use mathlib.Core.Path.{◌≡◌, refl, ap, ◌∙◌}
use native.Mathlib.Omega.{arith}
use native.Mathlib.Nat.{mul-add-div_right, mul-add-mod_self_right, mod-lt, mod-mod, mod-add-mod, div-eq_of_lt, div-lt_iff_lt-mul, add-zero, suc-mul, mul-le-mul_right}
use Rattle.store.specs.Pages.{Geometry, Shape, geometry_of, page_start, page_step, read_step, pointer_of}
use Rattle.store.specs.declared.Model.{Model}
use Rattle.store.specs.declared.Model.TheVariants.{Large}

-- whole pages fill the chip, and all that a word can point at; a page is no wider than the latch, and a word reaches every byte
pub record Fits (g : Geometry) : Type 0 where
  pub pages : ℕ
  pub whole : g.size ≡ pages * g.page
  pub words : ℕ
  pub round : 65536 ≡ words * g.page
  pub some : 0 < g.page
  pub narrow : g.page ≤ 32
  pub full : 0 < g.size
  pub reach : g.size ≤ 65536

module _ {g : Geometry} (f : Fits g) where
  -- a write step stays in its page, and goes round in it
  pub page_kept : (p : ℕ) → page_step g p / g.page ≡ p / g.page
  unfolding page_step page_start
  page_kept p =
      mul-add-div_right f.some (p / g.page) ((p + 1) % g.page)
      ∙ ap (λ (n : ℕ). p / g.page + n) (div-eq_of_lt (mod-lt (p + 1) f.some))
      ∙ add-zero (p / g.page)

  pub page_round : (p : ℕ) → page_step g p % g.page ≡ (p + 1) % g.page
  unfolding page_step page_start
  page_round p = mul-add-mod_self_right (p / g.page) g.page ((p + 1) % g.page) ∙ mod-mod (p + 1) g.page

  pub start_kept : (p : ℕ) → page_start g (page_step g p) ≡ page_start g p
  unfolding page_start
  start_kept p = rw (page_kept p)

  -- a page lies whole in whatever is whole pages
  page_ends : (all n p : ℕ) → all ≡ n * g.page → p < all → page_start g p + g.page ≤ all
  unfolding page_start
  page_ends all n p e h =
      rw (e, ← suc-mul (p / g.page) g.page) (mul-le-mul_right g.page ((div-lt_iff_lt-mul f.some).1 (rw e at h)))

  pub page_whole : (p : ℕ) → p < g.size → page_start g p + g.page ≤ g.size
  page_whole p h = page_ends g.size f.pages p f.whole h

  -- so a write step stays in it
  page_within : (all n p : ℕ) → all ≡ n * g.page → p < all → page_step g p < all
  page_within all n p e h = rw e ((div-lt_iff_lt-mul f.some).0 (rw (page_kept p) ((div-lt_iff_lt-mul f.some).1 (rw e at h))))

  pub page_in : (p : ℕ) → p < g.size → page_step g p < g.size
  page_in p h = page_within g.size f.pages p f.whole h

  pub page_fits : (p : ℕ) → p < 65536 → page_step g p < 65536
  page_fits p h = page_within 65536 f.words p f.round h

  pub read_in : (p : ℕ) → read_step g p < g.size
  unfolding read_step
  read_in p = mod-lt (p + 1) f.full

  pub pointer_in : (high low : ℕ) → pointer_of g high low < g.size
  unfolding pointer_of
  pointer_in high low = mod-lt (high * 256 + low) f.full

pub fits : (m : Model) → Fits (geometry_of m)
unfolding geometry_of
fits Large = record { pages = 128; whole = refl; words = 2048; round = refl; some = omega arith; narrow = omega arith; full = omega arith; reach = omega arith }

-- each model's numbers
pub size_shape : (m : Model) → Shape 1 4096 4096 (geometry_of m).size
unfolding geometry_of
size_shape Large = record { is = refl; least = omega arith; most = omega arith }

pub page_shape : (m : Model) → Shape 1 32 32 (geometry_of m).page
unfolding geometry_of
page_shape Large = record { is = refl; least = omega arith; most = omega arith }

pub lead_shape : (m : Model) → Shape 1 2 2 (geometry_of m).lead
unfolding geometry_of
lead_shape Large = record { is = refl; least = omega arith; most = omega arith }

-- the steps as they are reckoned: the place in the page first, so that no sum passes a word
module _ (m : Model) (page : ℕ) (is : page ≡ (geometry_of m).page) where
  pub step_reckoned : (p : ℕ) → p / page * page + (p % page + 1) % page ≡ page_step (geometry_of m) p
  unfolding page_step page_start
  step_reckoned p = rw (is, mod-add-mod p (geometry_of m).page 1)

  pub step_fits : (p : ℕ) → p < 65536 → p / page * page + (p % page + 1) % page < 65536
  step_fits p h = rw (step_reckoned p) (page_fits (fits m) p h)
