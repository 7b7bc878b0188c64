-- What a whole message says of the list that it stands in. Assumes nothing.
use mathlib.Core.Path.{◌≡◌, refl, ap}
use mathlib.Core.Bool.{Bool, true, false, cond}
use mathlib.Core.List.{List}
use Prim.Native.Nat.{ℕ, ◌+◌, ◌<◌, ◌≤◌}
use native.Mathlib.Omega.{arith}
use lib.ListN.{length, get_or, take, drop}
use lib.Dec.{ltb, leb}
use borrow.Author.Tests.{ltb-true, leb-true}
use Rattle.kinds.specs.Kinds.{address_right, kind_right, length_right, data_of}
use Rattle.kinds.proofs.KindLaws.{few_asked}
use Rattle.orders.specs.Form.{Message, Read, whole, broken, breaks, cut, message_at}
use Rattle.orders.specs.Results.{slots_of}
use Rattle.orders.specs.Places.{size_at, room_at}
use Rattle.orders.specs.Check.{found_as}
use Rattle.orders.specs.declared.Rule.{Rule}
use Rattle.orders.specs.declared.Break.{Break}
use Rattle.orders.specs.declared.Whole.{Whole}
use Rattle.std.proofs.Common.{Result, Ok, Err}

-- m stands at p, and q is the place after it
pub record IsMessage (s : List ℕ) (p : ℕ) (m : Message) (q : ℕ) : Type 0 where
  pub address : get_or s p 0 ≡ m.address
  pub kind : get_or s (p + 1) 0 ≡ m.kind
  pub asked : get_or s (p + 2) 0 ≡ m.asked
  pub sent : take (data_of m.kind m.asked) (drop (p + 3) s) ≡ m.sent
  pub next : p + 3 + data_of m.kind m.asked ≡ q
  pub room : q ≤ length s
  pub right_address : address_right m.address ≡ true
  pub right_kind : kind_right m.kind ≡ true
  pub right_length : length_right m.kind m.asked ≡ true

-- a byte that is there and right: `b` is its test, `g` what is read after it
byte_inv : (s : List ℕ) (p : ℕ) (rule : Rule) (b : Bool) (g : Read) (m : Message) (q : ℕ)
    → cond (ltb p (length s)) (cond b g (broken (breaks p rule))) (broken (cut s)) ≡ whole m q → (p < length s) × (b ≡ true) × (g ≡ whole m q)
byte_inv s p rule b g m q e = cases (ltb p (length s)) refl b refl e
  where
    cases : (a : Bool) → ltb p (length s) ≡ a → (b' : Bool) → b ≡ b' → cond a (cond b' g (broken (breaks p rule))) (broken (cut s)) ≡ whole m q
        → (p < length s) × (b ≡ true) × (g ≡ whole m q)
    cases true x true y e = (ltb-true _ _ x, y, e)
    cases true x false y e = let z : ◌≡◌ {A = ℕ} 0 1 = cc in absurd (omega arith)
    cases false x b' y e = let z : ◌≡◌ {A = ℕ} 0 1 = cc in absurd (omega arith)

module _ (s : List ℕ) (p : ℕ) (m : Message) (q : ℕ) where
  pub message_inv : message_at s p ≡ whole m q → IsMessage s p m q
  unfolding message_at
  message_inv e =
      let a = byte_inv s p _ _ _ m q e in
      let k = byte_inv s (p + 1) _ _ _ m q a.2 in
      let n = byte_inv s (p + 2) _ _ _ m q k.2 in
      last (leb (p + 3 + data_of (get_or s (p + 1) 0) (get_or s (p + 2) 0)) (length s)) refl a.1 k.1 n.1 n.2
    where
      got : Message
      got = record { address = get_or s p 0; kind = get_or s (p + 1) 0; asked = get_or s (p + 2) 0; sent = take (data_of (get_or s (p + 1) 0) (get_or s (p + 2) 0)) (drop (p + 3) s) }

      last : (b : Bool) → leb (p + 3 + data_of (get_or s (p + 1) 0) (get_or s (p + 2) 0)) (length s) ≡ b
          → address_right (get_or s p 0) ≡ true → kind_right (get_or s (p + 1) 0) ≡ true → length_right (get_or s (p + 1) 0) (get_or s (p + 2) 0) ≡ true
          → cond b (whole got (p + 3 + data_of (get_or s (p + 1) 0) (get_or s (p + 2) 0))) (broken (cut s)) ≡ whole m q → IsMessage s p m q
      last false x a k n e = let z : ◌≡◌ {A = ℕ} 0 1 = cc in absurd (omega arith)
      last true x a k n e =
          let me : got ≡ m = cc in
          let qe : p + 3 + data_of (get_or s (p + 1) 0) (get_or s (p + 2) 0) ≡ q = cc in
          rw (← me, ← qe) (record { address = refl; kind = refl; asked = refl; sent = refl; next = refl; room = leb-true _ _ x; right_address = a; right_kind = k; right_length = n })

-- ---- whoever goes along the list by places finds the message as it is read

module _ (s : List ℕ) (p : ℕ) (m : Message) (q : ℕ) (e : message_at s p ≡ whole m q) where
  pub message_size : p + size_at s p ≡ q
  message_size = let i = message_inv s p m q e in let next = i.next in rw (i.kind, i.asked) (omega arith)

  pub message_room : room_at s p ≡ slots_of m
  message_room = let i = message_inv s p m q e in rw (i.kind, i.asked)

  pub message_below : p < length s
  message_below = let i = message_inv s p m q e in let next = i.next in let room = i.room in omega arith

  pub message_slots : slots_of m ≤ 257
  message_slots = let i = message_inv s p m q e in let f = few_asked m.kind m.asked i.right_length in omega arith

-- ---- what the code learns

-- of a whole message: the place after it lies further on, and its slots are few for the bytes that it takes
pub record Learnt (s : List ℕ) (p q n : ℕ) : Type 0 where
  pub message : Message
  pub is : message_at s p ≡ whole message q
  pub slots : n ≡ slots_of message
  pub few : n ≤ 257
  pub later : p + 3 ≤ q
  pub room : q ≤ length s

module _ (s : List ℕ) (p : ℕ) (x : Result Whole Break) (e : x ≡ found_as (message_at s p)) where
  pub learnt : (w : Whole) → x ≡ Ok w → Learnt s p w.next w.slots
  learnt w f = cases (message_at s p) refl e
    where
      cases : (r : Read) → message_at s p ≡ r → x ≡ found_as r → Learnt s p w.next w.slots
      cases (whole m q') i e =
          let both : ◌≡◌ {A = Whole} w (record { next = q'; slots = slots_of m }) = cc in
          let qe : w.next ≡ q' = ap (λ (k : Whole). k.next) both in
          let ne : w.slots ≡ slots_of m = ap (λ (k : Whole). k.slots) both in
          let is = message_inv s p m q' i in
          let next = is.next in
          let f = message_slots s p m q' i in
          record { message = m; is = cc; slots = ne; few = omega arith; later = omega arith; room = omega arith }
      cases (broken b) i e = let z : ◌≡◌ {A = ℕ} 0 1 = cc in absurd (omega arith)

  pub told : (b : Break) → x ≡ Err b → message_at s p ≡ broken b
  told b w = cases (message_at s p) e
    where
      cases : (r : Read) → x ≡ found_as r → r ≡ broken b
      cases (whole m q) e = let z : ◌≡◌ {A = ℕ} 0 1 = cc in absurd (omega arith)
      cases (broken b') e = cc
