-- A list has the form exactly if its messages stand in it, one after the other up to its end: from `holds` on, whoever goes along an accepted
-- list by places finds what was read from it. Assumes nothing.
use mathlib.Core.Path.{◌≡◌, refl, ap, sym, ◌∙◌}
use mathlib.Core.Bool.{Bool, true, false, cond}
use mathlib.Core.List.{List, [], ◌∷◌}
use Prim.Native.Nat.{ℕ, zero, suc, ◌+◌, ◌-◌, ◌*◌, ◌<◌, ◌≤◌}
use native.Mathlib.Omega.{arith}
use lib.ListN.{length, get_or}
use lib.Dec.{ltb, leb}
use borrow.Author.Tests.{ltb-false, leb-true}
use Rattle.kinds.specs.Kinds.{most_bytes, count_right}
use Rattle.kinds.proofs.KindLaws.{tests}
use Rattle.orders.specs.Form.{Message, Transaction, Read, whole, broken, breaks, cut, Parsed, right, wrong, after, and_message, and_transaction, wait_at, begin_at, message_at, parse, parsed, transactions_of}
use Rattle.orders.specs.Places.{Stands, ended, begins, follows}
use Rattle.orders.specs.Results.{slots_of_all, area_of, checked_as, check_of}
use Rattle.orders.specs.declared.Rule.TheVariants.{Count}
use Rattle.orders.specs.declared.ListError.TheVariants.{TooLong}
use Rattle.std.proofs.Common.{Ok, Err}
use Rattle.orders.proofs.WholeMessage.{message_inv, message_slots}

-- ---- what is read stands there

pub record IsRead (s : List ℕ) (p left : ℕ) (ms : List Message) (ts : List Transaction) : Type 0 where
  pub stands : Stands s p ms ts
  pub count : left ≡ length ms

-- `go` is what is read after the message
module _ (s : List ℕ) (q left : ℕ) (go : Parsed) (rest : (ms : List Message) (ts : List Transaction) → go ≡ right ms ts → IsRead s q left ms ts) where
  message_reads : (p : ℕ) (m : Message) (ms : List Message) (ts : List Transaction) → message_at s p ≡ whole m q → and_message m go ≡ right ms ts
      → IsRead s p (suc left) ms ts
  message_reads p m ms ts i e = cases go refl e
    where
      cases : (x : Parsed) → go ≡ x → and_message m x ≡ right ms ts → IsRead s p (suc left) ms ts
      cases (wrong b) g e = let z : ◌≡◌ {A = ℕ} 0 1 = cc in absurd (omega arith)
      cases (right ms' ts') g e =
          let a : m ∷ ms' ≡ ms = cc in
          let b : ts' ≡ ts = cc in
          let r = rest ms' ts' g in
          rw (← a, ← b) (record { stands = follows i r.stands; count = ap suc r.count })

  transaction_reads : (p : ℕ) (m : Message) (ms : List Message) (ts : List Transaction) → p + 3 ≤ length s → count_right (get_or s p 0) ≡ true → left ≡ get_or s p 0 - 1
      → message_at s (p + 3) ≡ whole m q → and_transaction (wait_at s p) m go ≡ right ms ts → IsRead s p 0 ms ts
  transaction_reads p m ms ts h c l i e = cases go refl e
    where
      cases : (x : Parsed) → go ≡ x → and_transaction (wait_at s p) m x ≡ right ms ts → IsRead s p 0 ms ts
      cases (wrong b) g e = let z : ◌≡◌ {A = ℕ} 0 1 = cc in absurd (omega arith)
      cases (right ms' ts') g e =
          let a : [] ≡ ms = cc in
          let b : record { wait = wait_at s p; first = m; others = ms' } ∷ ts' ≡ ts = cc in
          let r = rest ms' ts' g in
          rw (← a, ← b) (record { stands = begins h c (sym l ∙ r.count) i r.stands; count = refl })

begin_reads : (s : List ℕ) (p : ℕ) (go : ℕ → ℕ → Parsed) (ms : List Message) (ts : List Transaction)
    → ((q : ℕ) (ms' : List Message) (ts' : List Transaction) → go (get_or s p 0 - 1) q ≡ right ms' ts' → IsRead s q (get_or s p 0 - 1) ms' ts')
    → begin_at s p go ≡ right ms ts → IsRead s p 0 ms ts
begin_reads s p go ms ts rest e = cases (ltb p (length s)) refl (count_right (get_or s p 0)) refl (leb (p + 3) (length s)) refl (message_at s (p + 3)) refl e
  where
    cases : (a : Bool) → ltb p (length s) ≡ a → (b : Bool) → count_right (get_or s p 0) ≡ b → (c : Bool) → leb (p + 3) (length s) ≡ c → (r : Read) → message_at s (p + 3) ≡ r
        → cond a (cond b (cond c (after r (λ m q. and_transaction (wait_at s p) m (go (get_or s p 0 - 1) q))) (wrong (cut s))) (wrong (breaks p Count))) (right [] []) ≡ right ms ts
        → IsRead s p 0 ms ts
    cases false ae b be c ce r re e =
        let m : [] ≡ ms = cc in
        let t : [] ≡ ts = cc in
        rw (← m, ← t) (record { stands = ended (ltb-false _ _ ae); count = refl })
    cases true ae false be c ce r re e = let z : ◌≡◌ {A = ℕ} 0 1 = cc in absurd (omega arith)
    cases true ae true be false ce r re e = let z : ◌≡◌ {A = ℕ} 0 1 = cc in absurd (omega arith)
    cases true ae true be true ce (broken b) re e = let z : ◌≡◌ {A = ℕ} 0 1 = cc in absurd (omega arith)
    cases true ae true be true ce (whole m q) re e = transaction_reads s q (get_or s p 0 - 1) (go (get_or s p 0 - 1) q) (rest q) p m ms ts (leb-true _ _ ce) be refl re e

pub parse_stands : (n left : ℕ) (s : List ℕ) (p : ℕ) (ms : List Message) (ts : List Transaction) → parse n left s p ≡ right ms ts → IsRead s p left ms ts
unfolding parse
parse_stands zero left s p ms ts e = let z : ◌≡◌ {A = ℕ} 0 1 = cc in absurd (omega arith)
parse_stands (suc n) zero s p ms ts e = begin_reads s p (λ left q. parse n left s q) ms ts (λ q ms' ts' g. parse_stands n (get_or s p 0 - 1) s q ms' ts' g) e
parse_stands (suc n) (suc left) s p ms ts e = cases (message_at s p) refl (λ q ms' ts' g. parse_stands n left s q ms' ts' g) e
  where
    cases : (r : Read) → message_at s p ≡ r → ((q : ℕ) (ms' : List Message) (ts' : List Transaction) → parse n left s q ≡ right ms' ts' → IsRead s q left ms' ts')
        → after r (λ m q. and_message m (parse n left s q)) ≡ right ms ts → IsRead s p (suc left) ms ts
    cases (broken b) i rest e = let z : ◌≡◌ {A = ℕ} 0 1 = cc in absurd (omega arith)
    cases (whole m q) i rest e = message_reads s q left (parse n left s q) (rest q) p m ms ts i e

-- ---- and what stands there is read

pub stands_parse : {s : List ℕ} {p : ℕ} {ms : List Message} {ts : List Transaction} → Stands s p ms ts → (n : ℕ) → length s - p < n
    → parse n (length ms) s p ≡ right ms ts
unfolding parse
stands_parse st zero h = absurd (omega arith)
stands_parse (ended l) (suc n) h = simp tests
stands_parse {s = s} {p = p} (begins {q = q} l c k i st) (suc n) h =
    let b : p < length s = omega arith in
    let is = message_inv s (p + 3) _ _ i in
    let next = is.next in
    simp (tests, c, i, k, stands_parse {p = q} st n (omega arith))
stands_parse {s = s} {p = p} (follows {q = q} i st) (suc n) h =
    let is = message_inv s p _ _ i in
    let next = is.next in
    let room = is.room in
    simp (i, stands_parse {p = q} st n (omega arith))

-- a list that is read from its start
pub parsed_stands : (s : List ℕ) (ms : List Message) (ts : List Transaction) → parsed s ≡ right ms ts → IsRead s 0 0 ms ts
unfolding parsed
parsed_stands s ms ts e = parse_stands (suc (length s)) 0 s 0 ms ts e

pub stands_parsed : {s : List ℕ} {ts : List Transaction} → Stands s 0 [] ts → parsed s ≡ right [] ts
unfolding parsed
stands_parsed {s} st = stands_parse st (suc (length s)) (omega arith)

-- the area takes few places for the bytes that the list has
pub stands_area : {s : List ℕ} {p : ℕ} {ms : List Message} {ts : List Transaction} → Stands s p ms ts → slots_of_all ms + area_of ts ≤ 256 * (length s - p)
unfolding slots_of_all area_of
stands_area (ended l) = omega arith
stands_area {s} (follows {p} {q} {m} i st) =
    let r = stands_area st in
    let is = message_inv s p m q i in
    let next = is.next in
    let room = is.room in
    let few = message_slots s p m q i in
    omega arith
stands_area {s} (begins {p} {q} {m} l c k i st) =
    let r = stands_area st in
    let is = message_inv s (p + 3) m q i in
    let next = is.next in
    let room = is.room in
    let few = message_slots s (p + 3) m q i in
    omega arith

-- ---- what an accepted list is

pub record Holds (s : List ℕ) (r : ℕ) : Type 0 where
  pub short : length s ≤ most_bytes
  pub area : r ≡ area_of (transactions_of s)
  pub small : r ≤ 256 * length s
  -- each message at its place
  pub stands : Stands s 0 [] (transactions_of s)

pub holds : (s : List ℕ) (r : ℕ) → check_of s ≡ Ok r → Holds s r
unfolding check_of transactions_of slots_of_all
holds s r e = cases (ltb most_bytes (length s)) refl (parsed s) refl e
  where
    cases : (b : Bool) → ltb most_bytes (length s) ≡ b → (x : Parsed) → parsed s ≡ x → cond b (Err TooLong) (checked_as x) ≡ Ok r → Holds s r
    cases true be x xe e = let z : ◌≡◌ {A = ℕ} 0 1 = cc in absurd (omega arith)
    cases false be (wrong k) xe e = let z : ◌≡◌ {A = ℕ} 0 1 = cc in absurd (omega arith)
    cases false be (right (m ∷ ms) ts) xe e = let n = (parsed_stands s (m ∷ ms) ts xe).count in absurd (omega arith)
    cases false be (right [] ts) xe e =
        let st = (parsed_stands s [] ts xe).stands in
        let a : r ≡ area_of ts = cc in
        let b = stands_area st in
        record { short = ltb-false _ _ be; area = rw xe a; small = omega arith; stands = rw xe st }
