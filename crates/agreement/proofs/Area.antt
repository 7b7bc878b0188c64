-- The result area as a run starts it: as long as the one that was lent, with every message's slot 0. Assumes nothing.
use Prim.Native.Nat.{ℕ, suc, ◌+◌, ◌-◌, ◌≤◌, ◌<◌}
use mathlib.Core.Path.{◌≡◌, refl, ap, ap₂, sym, ◌∙◌, subst}
use mathlib.Core.List.{List, [], ◌∷◌, ◌++◌}
use native.Mathlib.Omega.{arith}
use native.Mathlib.Nat.{zero-add}
use lib.ListN.{length, get_or, drop, replicate, length-append, length-drop, length-replicate, get_or-replicate, get_or-append}
use lib.Seq.{get_or-append-add}
use Rattle.orders.specs.Form.{Transaction}
use Rattle.orders.specs.Results.{slots_of_all, area_of, blank_area, start_area}
use Rattle.agreement.specs.Course.{size_of}
use Rattle.agreement.proofs.Totals.{Ready}

length_blank : (ts : List Transaction) → length (blank_area ts) ≡ area_of ts
unfolding blank_area area_of
length_blank [] = refl
length_blank (t ∷ ts) =
    ap suc (length-append (replicate n 0) (blank_area ts) ∙ ap₂ (λ x y. x + y) (length-replicate n 0) (length_blank ts)) ∙ one n (area_of ts)
  where
    n : ℕ
    n = slots_of_all (t.first ∷ t.others)

    one : (n m : ℕ) → suc (n + m) ≡ 1 + n + m
    one n m = omega arith

pub length_start : (ts : List Transaction) (lent : List ℕ) → area_of ts ≤ length lent → length (start_area ts lent) ≡ length lent
unfolding start_area
length_start ts lent l =
    length-append (blank_area ts) (drop (area_of ts) lent) ∙ ap₂ (λ x y. x + y) (length_blank ts) (length-drop (area_of ts) lent) ∙ whole (area_of ts) (length lent) l
  where
    whole : (a n : ℕ) → a ≤ n → a + (n - a) ≡ n
    whole a n l = omega arith

-- a holds the started area from top on
abbrev Started : ℕ → List Transaction → List ℕ → Type 0
Started top ts a = (i : ℕ) → i < area_of ts → get_or a (top + i) 0 ≡ get_or (blank_area ts) i 0

started_ready : (ts : List Transaction) (top : ℕ) (a : List ℕ) → Started top ts a → Ready top ts a
unfolding area_of blank_area
started_ready [] top a h = tt
started_ready (t ∷ ts) top a h = (
  λ i l r. subst (λ (j : ℕ). get_or a j 0 ≡ 0) (place i l) (h (suc (i - (top + 1))) (inside i (area_of ts) l r) ∙ zeros (i - (top + 1)) (few i l r)),
  started_ready ts (top + size_of t) a (λ i l. ap (λ (j : ℕ). get_or a j 0) (on top n i) ∙ h (suc (n + i)) (more n i (area_of ts) l) ∙ beyond i),
)
  where
    n : ℕ
    n = slots_of_all (t.first ∷ t.others)

    place : (i : ℕ) → top + 1 ≤ i → top + suc (i - (top + 1)) ≡ i
    place i l = omega arith

    few : (i : ℕ) → top + 1 ≤ i → i < top + (1 + n) → i - (top + 1) < n
    few i l r = omega arith

    inside : (i m : ℕ) → top + 1 ≤ i → i < top + (1 + n) → suc (i - (top + 1)) < 1 + n + m
    inside i m l r = omega arith

    zeros : (j : ℕ) → j < n → get_or (replicate n 0 ++ blank_area ts) j 0 ≡ 0
    zeros j l = get_or-append (replicate n 0) (blank_area ts) 0 j (subst (λ (k : ℕ). j < k) (sym (length-replicate n 0)) l) ∙ get_or-replicate n j 0 0 l

    on : (top n i : ℕ) → top + (1 + n) + i ≡ top + suc (n + i)
    on top n i = omega arith

    more : (n i m : ℕ) → i < m → suc (n + i) < 1 + n + m
    more n i m l = omega arith

    beyond : (i : ℕ) → get_or (replicate n 0 ++ blank_area ts) (n + i) 0 ≡ get_or (blank_area ts) i 0
    beyond i =
        ap (λ (k : ℕ). get_or (replicate n 0 ++ blank_area ts) (k + i) 0) (sym (length-replicate n 0)) ∙ get_or-append-add (replicate n 0) (blank_area ts) i 0

pub start_ready : (ts : List Transaction) (lent : List ℕ) → Ready 0 ts (start_area ts lent)
unfolding start_area
start_ready ts lent =
    started_ready ts 0 (start_area ts lent)
    (λ i l. ap (λ (j : ℕ). get_or (blank_area ts ++ drop (area_of ts) lent) j 0) (zero-add i)
    ∙ get_or-append (blank_area ts) (drop (area_of ts) lent) 0 i (subst (λ (k : ℕ). i < k) (sym (length_blank ts)) l))
