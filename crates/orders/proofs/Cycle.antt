-- What the check answers for a list from a place on, a law for each answer: its premises are the tests and what the called function answered.
-- Assumes nothing.
use mathlib.Core.Path.{◌≡◌, refl, ap, sym, ◌∙◌}
use mathlib.Core.Bool.{Bool, true, false, cond}
use mathlib.Core.List.{List, []}
use Prim.Native.Nat.{ℕ, zero, suc, ◌+◌, ◌-◌, ◌<◌, ◌≤◌}
use native.Mathlib.Nat.{add-zero}
use native.Mathlib.Omega.{arith}
use lib.ListN.{length, get_or}
use lib.Dec.{ltb, leb}
use Rattle.kinds.specs.Kinds.{most_bytes, count_right}
use Rattle.kinds.proofs.KindLaws.{tests}
use Rattle.orders.specs.Form.{Message, Read, whole, broken, breaks, cut, Parsed, right, wrong, after, and_message, and_transaction, wait_at, message_at, parse, parsed}
use Rattle.orders.specs.Results.{slots_of, slots_of_all, area_of, checked_as, check_of}
use Rattle.orders.specs.Check.{found_as, checked_from, Tells}
use Rattle.orders.specs.declared.Rule.TheVariants.{Count}
use Rattle.orders.specs.declared.Break.{Break}
use Rattle.orders.specs.declared.Whole.{Whole}
use Rattle.orders.specs.declared.ListError.{ListError}
use Rattle.orders.specs.declared.ListError.TheVariants.{TooLong, Broken}
use Rattle.std.proofs.Common.{Result, Ok, Err}
use Rattle.orders.proofs.WholeMessage.{told, learnt}

-- ---- the area grows by a message's slots, and by a transaction's outcome

message_area : (area : ℕ) (m : Message) (x : Parsed) → checked_from (area + slots_of m) x ≡ checked_from area (and_message m x)
unfolding slots_of_all
message_area area m (right ms ts) = ap Ok (omega arith)
message_area area m (wrong b) = refl

outcome_area : (area wait : ℕ) (m : Message) (x : Parsed) → checked_from (area + 1) (and_message m x) ≡ checked_from area (and_transaction wait m x)
unfolding slots_of_all area_of
outcome_area area wait m (right ms ts) = ap Ok (omega arith)
outcome_area area wait m (wrong b) = refl

begun_area : (area wait : ℕ) (r : Read) (go : ℕ → Parsed)
    → checked_from (area + 1) (after r (λ m q. and_message m (go q))) ≡ checked_from area (after r (λ m q. and_transaction wait m (go q)))
begun_area area wait (whole m q) go = outcome_area area wait m (go q)
begun_area area wait (broken b) go = refl

-- a number of steps that is enough is one more than another
stepped : (r : Result ℕ Break) (area left : ℕ) (s : List ℕ) (p : ℕ) → ((n : ℕ) → length s - p ≤ n → r ≡ checked_from area (parse (suc n) left s p)) → Tells r area left s p
stepped r area left s p g = record { tells = at }
  where
    at : (n : ℕ) → length s - p < n → r ≡ checked_from area (parse n left s p)
    at zero l = absurd (omega arith)
    at (suc n) l = g n (omega arith)

-- ---- a transaction

module _ (s : List ℕ) (p area : ℕ) where
  pub list_ends : length s ≤ p → Tells (Ok area) area 0 s p
  unfolding parse slots_of_all area_of
  list_ends h = stepped _ _ _ _ _ (λ n l. simp (tests, add-zero))

  module _ (h : p < length s) (x : Bool) (a : x ≡ count_right (get_or s p 0)) where
    pub bad_count : (b : Break) → x ≡ false → b ≡ breaks p Count → Tells (Err b) area 0 s p
    unfolding parse
    bad_count b a' e = let i = sym a ∙ a' in rw e (stepped _ _ _ _ _ (λ n l. simp (tests, i)))

    module _ (a' : x ≡ true) where
      pub no_wait : (b : Break) → length s < p + 3 → b ≡ cut s → Tells (Err b) area 0 s p
      unfolding parse
      no_wait b w e = let i = sym a ∙ a' in rw e (stepped _ _ _ _ _ (λ n l. simp (tests, i)))

      pub transaction_begins : (r : Result ℕ Break) (left : ℕ) → p + 3 ≤ length s → left ≡ get_or s p 0 - 1 → Tells r (area + 1) (suc left) s (p + 3) → Tells r area 0 s p
      unfolding parse
      transaction_begins r left w c t =
          let i = sym a ∙ a' in
          stepped _ _ _ _ _ (λ n l. simp (tests, i, ← c) (t.tells (suc n) (omega arith) ∙ begun_area area (wait_at s p) (message_at s (p + 3)) (λ q. parse n left s q)))

-- ---- a message

module _ (s : List ℕ) (p area left : ℕ) (x : Result Whole Break) (e : x ≡ found_as (message_at s p)) where
  pub message_breaks : (b : Break) → x ≡ Err b → Tells (Err b) area (suc left) s p
  unfolding parse
  message_breaks b w = let i = told s p x e b w in stepped _ _ _ _ _ (λ n h. simp i)

  module _ (r : Result ℕ Break) (m : Whole) (w : x ≡ Ok m) where
    goes_on_lem : Tells r (area + m.slots) left s m.next → Tells r area (suc left) s p
    unfolding parse
    goes_on_lem t =
        let g = learnt s p x e m w in
        let i = g.is in
        stepped _ _ _ _ _ (λ k h. simp i (rw g.slots at (t.tells k (omega arith)) ∙ message_area area g.message (parse k left s m.next)))

    pub message_last : left ≡ 0 → Tells r (area + m.slots) 0 s m.next → Tells r area (suc left) s p
    message_last z t = goes_on_lem (rw z t)

    pub message_follows : (left ≡ 0 → ⊥) → Tells r (area + m.slots) (suc (left - 1)) s m.next → Tells r area (suc left) s p
    message_follows z t = let k : suc (left - 1) ≡ left = omega arith in goes_on_lem (rw k at t)

-- ---- the whole list

-- what is wrong is told as the list's error
told_on : Result ℕ Break → Result ℕ ListError
told_on (Ok n) = Ok n
told_on (Err b) = Err (Broken b)

-- where no message is due, what is read are transactions
none_open : (a b c : Bool) (w : ℕ) (r : Read) (go : ℕ → Parsed) (k l : Break)
    → told_on (checked_from 0 (cond a (cond b (cond c (after r (λ m q. and_transaction w m (go q))) (wrong k)) (wrong l)) (right [] [])))
    ≡ checked_as (cond a (cond b (cond c (after r (λ m q. and_transaction w m (go q))) (wrong k)) (wrong l)) (right [] []))
unfolding told_on slots_of_all area_of
none_open true true true w (whole m q) go k l = cases (go q)
  where
    cases : (x : Parsed) → told_on (checked_from 0 (and_transaction w m x)) ≡ checked_as (and_transaction w m x)
    cases (right ms ts) = ap Ok (omega arith)
    cases (wrong b) = refl
none_open true true true w (broken b) go k l = refl
none_open true true false w r go k l = refl
none_open true false c w r go k l = refl
none_open false b c w r go k l = refl

module _ (s : List ℕ) where
  pub too_long : most_bytes < length s → Err TooLong ≡ check_of s
  unfolding check_of
  too_long h = simp tests

  checked : (r : Result ℕ Break) → length s ≤ most_bytes → Tells r 0 0 s 0 → told_on r ≡ check_of s
  unfolding told_on check_of parsed parse
  checked r h t =
      simp tests
      (ap told_on (t.tells (suc (length s)) (omega arith))
      ∙ none_open (ltb 0 (length s)) (count_right (get_or s 0 0)) (leb (0 + 3) (length s)) (wait_at s 0) (message_at s (0 + 3)) (λ q. parse (length s) (get_or s 0 0 - 1) s q) (cut s) (breaks 0 Count))

  pub all_right : (r : Result ℕ Break) (n : ℕ) → length s ≤ most_bytes → Tells r 0 0 s 0 → r ≡ Ok n → Ok n ≡ check_of s
  unfolding told_on
  all_right r n h t e = checked (Ok n) h (rw e at t)

  pub one_wrong : (r : Result ℕ Break) (b : Break) (e : ListError) → length s ≤ most_bytes → Tells r 0 0 s 0 → r ≡ Err b → e ≡ Broken b → Err e ≡ check_of s
  unfolding told_on
  one_wrong r b e h t re ee = rw ee (checked (Err b) h (rw re at t))
