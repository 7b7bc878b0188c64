-- The area that is started in place is the one that the paper starts. Assumes nothing.
use mathlib.Core.Path.{◌≡◌, refl}
use mathlib.Core.List.{List, [], ◌∷◌, ◌++◌, append_assoc}
use Prim.Native.Nat.{ℕ, zero, suc, ◌+◌, ◌-◌, ◌<◌, ◌≤◌}
use native.Mathlib.Nat.{add_assoc, zero-add}
use native.Mathlib.Omega.{arith}
use lib.ListN.{length, get_or, drop, replicate, length-append, length-replicate, replicate-append-replicate}
use lib.Seq.{set_at}
use borrow.Author.Tests.{lt-ltb, le-ltb}
use Rattle.kinds.specs.Kinds.{most_bytes}
use Rattle.kinds.proofs.KindLaws.{some_message}
use Rattle.orders.specs.Form.{Message, Transaction, transactions_of}
use Rattle.orders.specs.Places.{Stands, ended, begins, follows}
use Rattle.orders.specs.Results.{slots_of, slots_of_all, area_of, blank_area, start_area, check_of}
use Rattle.orders.specs.Start.{outcomes_from, started_of}
use Rattle.std.proofs.Common.{Ok}
use Rattle.orders.proofs.WholeMessage.{message_size, message_room, message_below}
use Rattle.orders.proofs.Stands.{holds}

-- zeros in two parts, after the bytes before them
zeros : (pre : List ℕ) (k r : ℕ) (tail : List ℕ) → pre ++ (replicate (k + r) 0 ++ tail) ≡ (pre ++ replicate k 0) ++ (replicate r 0 ++ tail)
zeros pre k r tail = rw (← replicate-append-replicate {A = ℕ} k r 0) (simp append_assoc)

-- what is still to be marked lies after `pre`
marks : (n : ℕ) {s : List ℕ} {p : ℕ} {ms : List Message} {ts : List Transaction} → Stands s p ms ts → length s - p < n → (pre tail : List ℕ) (top : ℕ) → length pre ≡ top
    → outcomes_from n (length ms) s p top (pre ++ (replicate (slots_of_all ms + area_of ts) 0 ++ tail)) ≡ pre ++ (replicate (slots_of_all ms) 0 ++ (blank_area ts ++ tail))
unfolding outcomes_from slots_of_all area_of blank_area
marks zero st h pre tail top e = absurd (omega arith)
marks (suc n) {s} {p} (ended l) h pre tail top e = rw (le-ltb p (length s) l)
marks (suc n) {s} (follows {p} {q} {m} {ms} {ts} i st) h pre tail top e =
    let b = message_below s p m q i in
    let z = message_size s p m q i in
    let a = add_assoc (slots_of m) (slots_of_all ms) (area_of ts) in
    let g = zeros pre (slots_of m) (slots_of_all ms + area_of ts) tail in
    let f = zeros pre (slots_of m) (slots_of_all ms) (blank_area ts ++ tail) in
    let k : length (pre ++ replicate (slots_of m) 0) ≡ top + slots_of m = rw (length-append pre (replicate (slots_of m) 0), length-replicate {A = ℕ} (slots_of m) 0, e) in
    rw (lt-ltb p (length s) b, z, message_room s p m q i, a, g, f) (marks n st (omega arith) (pre ++ replicate (slots_of m) 0) tail (top + slots_of m) k)
marks (suc n) {s} (begins {p} {q} {m} {ms} {ts} l c k i st) h pre tail top e =
    let one = some_message (get_or s p 0) c in
    let left : get_or s p 0 ≡ suc (length ms) = omega arith in
    let b : p < length s = omega arith in
    let all : ℕ = slots_of m + slots_of_all ms + area_of ts in
    let x : 0 + (1 + (slots_of m + slots_of_all ms) + area_of ts) ≡ suc all = omega arith in
    let put = set_at pre 0 (replicate all 0 ++ tail) 255 top e in
    let far : length (pre ++ (255 ∷ [])) ≡ top + 1 = rw (length-append pre (255 ∷ []), e) in
    let r = marks n (follows i st) (omega arith) (pre ++ (255 ∷ [])) tail (top + 1) far in
    rw (lt-ltb p (length s) b, left, x, put) (simp append_assoc (simp append_assoc at r))

-- what a caller has after `check` and its own look at the area's length
pub starts : (s : List ℕ) (r : ℕ) (a : List ℕ) → check_of s ≡ Ok r → r ≤ length a → started_of s r a ≡ start_area (transactions_of s) a
unfolding started_of start_area slots_of_all
starts s r a e h =
    let o = holds s r e in
    let g = le-ltb (length a) r h in
    let k = le-ltb most_bytes (length s) o.short in
    rw (g, k, o.area) (simp zero-add at (marks (suc (length s)) o.stands (omega arith) [] (drop (area_of (transactions_of s)) a) 0 refl))

pub blank_length : (ts : List Transaction) → length (blank_area ts) ≡ area_of ts
unfolding blank_area area_of
blank_length [] = refl
blank_length (t ∷ ts) =
    let n : ℕ = slots_of_all (t.first ∷ t.others) in
    let r = blank_length ts in
    let a = length-append (replicate n 0) (blank_area ts) in
    let b = length-replicate {A = ℕ} n 0 in
    omega arith
