-- A list of transactions in two parts: what each law of the whole says of the first. Assumes nothing.
use Prim.Native.Nat.{ℕ, ◌+◌}
use mathlib.Core.Path.{◌≡◌, refl, ap, sym, ◌∙◌}
use mathlib.Core.List.{List, [], ◌∷◌, ◌++◌}
use native.Mathlib.Omega.{arith}
use native.Mathlib.Nat.{zero-add, add-zero}
use lib.ListN.{drop}
use lib.Seq.{drop-drop}
use Rattle.orders.specs.Form.{Transaction}
use Rattle.orders.specs.Results.{Batch, area_of, batches}
use Rattle.plain.specs.Plain.{World, transactions}
use Rattle.agreement.specs.Course.{batch_at, size_of, transaction}
use Rattle.agreement.specs.Sums.{Sum, sum_in, clocked_in, ticks_of, ticks_all, clocked_all}
use Rattle.agreement.proofs.Right.{RightAll}
use Rattle.agreement.proofs.Sent.{Alike, sum_alike}
use Rattle.agreement.proofs.Totals.{Ready}

pub right_before : (xs ys : List Transaction) → RightAll (xs ++ ys) → RightAll xs
right_before [] ys k = tt
right_before (x ∷ xs) ys k = (k.0, k.1, right_before xs ys k.2)

pub right_after : (xs ys : List Transaction) → RightAll (xs ++ ys) → RightAll ys
right_after [] ys k = k
right_after (x ∷ xs) ys k = right_after xs ys k.2

pub ready_before : (xs ys : List Transaction) (top : ℕ) (a : List ℕ) → Ready top (xs ++ ys) a → Ready top xs a
ready_before [] ys top a r = tt
ready_before (x ∷ xs) ys top a r = (r.0, ready_before xs ys (top + size_of x) a r.1)

pub area_append : (xs ys : List Transaction) → area_of (xs ++ ys) ≡ area_of xs + area_of ys
unfolding area_of
area_append [] ys = omega arith
area_append (x ∷ xs) ys = ap (λ (n : ℕ). size_of x + n) (area_append xs ys) ∙ sum (size_of x) (area_of xs) (area_of ys)
  where
    sum : (x y z : ℕ) → x + (y + z) ≡ x + y + z
    sum x y z = omega arith

pub batches_append : (xs ys : List Transaction) (top : ℕ) → batches top (xs ++ ys) ≡ batches top xs ++ batches (top + area_of xs) ys
unfolding batches area_of
batches_append [] ys top = ap (λ (n : ℕ). batches n ys) (sym (add-zero top))
batches_append (x ∷ xs) ys top =
    ap (λ (bs : List Batch). batch_at top x ∷ bs) (batches_append xs ys (top + size_of x) ∙ ap (λ (n : ℕ). batches (top + size_of x) xs ++ batches n ys) (sum top (size_of x) (area_of xs)))
  where
    sum : (x y z : ℕ) → x + y + z ≡ x + (y + z)
    sum x y z = omega arith

-- one more transaction
pub area_one : (t : Transaction) → area_of (t ∷ []) ≡ size_of t
unfolding area_of
area_one t = add-zero (size_of t)

pub last_batch : (xs : List Transaction) (t : Transaction) → batches 0 (xs ++ (t ∷ [])) ≡ batches 0 xs ++ (batch_at (area_of xs) t ∷ [])
unfolding batches
last_batch xs t = batches_append xs (t ∷ []) 0 ∙ ap (λ (n : ℕ). batches 0 xs ++ (batch_at n t ∷ [])) (zero-add (area_of xs))

pub transactions_append : (asked : ℕ) (xs ys : List Batch) (w : World) → transactions asked (xs ++ ys) w ≡ transactions asked ys (transactions asked xs w)
unfolding transactions
transactions_append asked [] ys w = refl
transactions_append asked (x ∷ xs) ys w = transactions_append asked xs ys (transaction asked x w)

-- the ticks look at the messages' slots alone
pub ticks_alike : (ts : List Transaction) (top : ℕ) (a b hs : List ℕ) → Alike top (top + area_of ts) a b → ticks_all b hs (batches top ts) ≡ ticks_all a hs (batches top ts)
unfolding ticks_all batches area_of
ticks_alike [] top a b hs h = refl
ticks_alike (t ∷ ts) top a b hs h =
    ap (λ (s : Sum). ticks_of t.wait s hs + ticks_all b (drop (clocked_in s) hs) (batches (top + size_of t) ts))
    (sum_alike t.others t.first (top + 1) a b (λ i l r. h i (omega arith) (omega arith)))
    ∙ ap (λ (n : ℕ). ticks_of t.wait (sum_in a (batch_at top t)) hs + n)
    (ticks_alike ts (top + size_of t) a b (drop (clocked_in (sum_in a (batch_at top t))) hs) (λ i l r. h i (omega arith) (omega arith)))

-- one more transaction takes its own ticks, with the holds that those before it have left
pub ticks_one_more : (a hs : List ℕ) (bs : List Batch) (t : Batch)
    → ticks_all a hs (bs ++ (t ∷ [])) ≡ ticks_all a hs bs + ticks_of t.wait (sum_in a t) (drop (clocked_all a bs) hs)
unfolding ticks_all clocked_all
ticks_one_more a hs [] t = sum (ticks_of t.wait (sum_in a t) hs)
  where
    sum : (n : ℕ) → n + 0 ≡ 0 + n
    sum n = omega arith
ticks_one_more a hs (b ∷ bs) t =
    ap (λ (n : ℕ). ticks_of b.wait (sum_in a b) hs + n)
    (ticks_one_more a (drop c hs) bs t ∙ ap (λ (gs : List ℕ). ticks_all a (drop c hs) bs + ticks_of t.wait (sum_in a t) gs) (drop-drop (clocked_all a bs) c hs))
    ∙ sum (ticks_of b.wait (sum_in a b) hs) (ticks_all a (drop c hs) bs) _
  where
    c : ℕ
    c = clocked_in (sum_in a b)

    sum : (x y z : ℕ) → x + (y + z) ≡ x + y + z
    sum x y z = omega arith
