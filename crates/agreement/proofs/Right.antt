-- What the transactions of a list have, whatever the bytes are that it was read from: right addresses, kinds and lengths, as many data bytes as the length
-- says, and only bytes among them. Assumes nothing.
use Prim.Native.Nat.{ℕ, zero, suc, ◌+◌, ◌-◌, min, ◌≤◌}
use mathlib.Core.Path.{◌≡◌, refl, ap, ◌∙◌}
use mathlib.Core.Bool.{Bool, true, false, cond}
use mathlib.Core.List.{List, [], ◌∷◌}
use native.Mathlib.Omega.{arith}
use borrow.Author.Tests.{leb-true}
use lib.Dec.{ltb, leb}
use lib.ListN.{length, get_or, take, drop, length-take, length-drop}
use Rattle.kinds.specs.Kinds.{address_right, kind_right, length_right, count_right, data_of}
use Rattle.orders.specs.Form.{Message, Transaction, Read, whole, broken, breaks, cut, message_at, Parsed, right, wrong, after, and_message, and_transaction, wait_at, begin_at, parse, parsed, transactions_in, transactions_of}
use Rattle.orders.specs.Bytes.{RightMessage}
use Rattle.orders.specs.declared.Rule.{Rule}
use Rattle.orders.specs.declared.Rule.TheVariants.{Count, Address, Kind, Length}
use Rattle.agreement.specs.Inputs.{Bytes}

pub record Right (m : Message) : Type 0 where
  pub form : RightMessage m
  pub sent : Bytes m.sent

abbrev pub Rights : List Message → Type 0
Rights [] = Unit {0}
Rights (m ∷ ms) = Right m × Rights ms

abbrev pub RightAll : List Transaction → Type 0
RightAll [] = Unit {0}
RightAll (t ∷ ts) = Right t.first × Rights t.others × RightAll ts

abbrev ReadRight : Read → Type 0
ReadRight (whole m q) = Right m
ReadRight (broken b) = Unit {0}

abbrev ParsedRight : Parsed → Type 0
ParsedRight (right ms ts) = Rights ms × RightAll ts
ParsedRight (wrong b) = Unit {0}

pub bytes_drop : (n : ℕ) (l : List ℕ) → Bytes l → Bytes (drop n l)
bytes_drop zero l h = h
bytes_drop (suc n) [] h = tt
bytes_drop (suc n) (x ∷ l) h = bytes_drop n l h.1

pub bytes_take : (n : ℕ) (l : List ℕ) → Bytes l → Bytes (take n l)
bytes_take zero l h = tt
bytes_take (suc n) [] h = tt
bytes_take (suc n) (x ∷ l) h = (h.0, bytes_take n l h.1)

-- a byte that is there and right lets the message go on as r
byte_right : (s : List ℕ) (p : ℕ) (rule : Rule) (ok : Bool) (r : Read) → (ok ≡ true → ReadRight r)
    → ReadRight (cond (ltb p (length s)) (cond ok r (broken (breaks p rule))) (broken (cut s)))
byte_right s p rule ok r h = tests (ltb p (length s)) ok h
  where
    tests : (a b : Bool) → (b ≡ true → ReadRight r) → ReadRight (cond a (cond b r (broken (breaks p rule))) (broken (cut s)))
    tests true true h = h refl
    tests true false h = tt
    tests false b h = tt

module _ (s : List ℕ) (small : Bytes s) where
  message_right : (p : ℕ) → ReadRight (message_at s p)
  unfolding message_at
  message_right p =
      byte_right s p Address (address_right (get_or s p 0)) _ (λ a.
      byte_right s (p + 1) Kind (kind_right (get_or s (p + 1) 0)) _ (λ k.
      byte_right s (p + 2) Length (length_right (get_or s (p + 1) 0) (get_or s (p + 2) 0)) _ (λ n. rest a k n (leb (p + 3 + size) (length s)) refl)))
    where
      size : ℕ
      size = data_of (get_or s (p + 1) 0) (get_or s (p + 2) 0)

      long : (p n l : ℕ) → p + 3 + n ≤ l → min n (l - (p + 3)) ≡ n
      long p n l h = omega arith

      rest : address_right (get_or s p 0) ≡ true → kind_right (get_or s (p + 1) 0) ≡ true → length_right (get_or s (p + 1) 0) (get_or s (p + 2) 0) ≡ true
          → (q : Bool) → leb (p + 3 + size) (length s) ≡ q
          → ReadRight (cond q (whole (record { address = get_or s p 0; kind = get_or s (p + 1) 0; asked = get_or s (p + 2) 0; sent = take size (drop (p + 3) s) }) (p + 3 + size)) (broken (cut s)))
      rest a k n true e =
          record {
            form = record { address = a; kind = k; asked = n; sent = length-take size (drop (p + 3) s) ∙ ap (min size) (length-drop (p + 3) s) ∙ long p size (length s) (leb-true _ _ e) };
            sent = bytes_take size (drop (p + 3) s) (bytes_drop (p + 3) s small);
          }
      rest a k n false e = tt

  after_right : (r : Read) (go : Message → ℕ → Parsed) → ReadRight r → ((m : Message) (q : ℕ) → Right m → ParsedRight (go m q)) → ParsedRight (after r go)
  after_right (whole m q) go h f = f m q h
  after_right (broken b) go h f = tt

  and_message_lem : (m : Message) (r : Parsed) → Right m → ParsedRight r → ParsedRight (and_message m r)
  and_message_lem m (right ms ts) h k = ((h, k.0), k.1)
  and_message_lem m (wrong b) h k = tt

  and_transaction_lem : (w : ℕ) (m : Message) (r : Parsed) → Right m → ParsedRight r → ParsedRight (and_transaction w m r)
  and_transaction_lem w m (right ms ts) h k = (tt, (h, k.0, k.1))
  and_transaction_lem w m (wrong b) h k = tt

  begin_right : (p : ℕ) (go : ℕ → ℕ → Parsed) → ((left q : ℕ) → ParsedRight (go left q)) → ParsedRight (begin_at s p go)
  begin_right p go h = tests (ltb p (length s)) (count_right (get_or s p 0)) (leb (p + 3) (length s))
    where
      rest : Parsed
      rest = after (message_at s (p + 3)) (λ m q. and_transaction (wait_at s p) m (go (get_or s p 0 - 1) q))

      tests : (a b c : Bool) → ParsedRight (cond a (cond b (cond c rest (wrong (cut s))) (wrong (breaks p Count))) (right [] []))
      tests true true true = after_right (message_at s (p + 3)) _ (message_right (p + 3)) (λ m q k. and_transaction_lem (wait_at s p) m (go (get_or s p 0 - 1) q) k (h _ q))
      tests true true false = tt
      tests true false c = tt
      tests false b c = (tt, tt)

  parse_right : (n left p : ℕ) → ParsedRight (parse n left s p)
  unfolding parse
  parse_right zero left p = tt
  parse_right (suc n) zero p = begin_right p (λ left q. parse n left s q) (λ left q. parse_right n left q)
  parse_right (suc n) (suc left) p =
      after_right (message_at s p) _ (message_right p) (λ m q k. and_message_lem m (parse n left s q) k (parse_right n left q))

  in_right : (r : Parsed) → ParsedRight r → RightAll (transactions_in r)
  in_right (right ms ts) h = h.1
  in_right (wrong b) h = tt

  pub transactions_right : RightAll (transactions_of s)
  unfolding transactions_of parsed
  transactions_right = in_right (parse (suc (length s)) 0 s 0) (parse_right (suc (length s)) 0 0)
