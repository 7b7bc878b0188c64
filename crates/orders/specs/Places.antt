-- A list by places: what a message's head says of its length, and where the messages of an accepted list stand. Assumes nothing.
use Rattle.std.specs.Prelude.{ℕ, ◌+◌, ◌-◌, ◌≤◌, ◌≡◌, true, List, [], ◌∷◌, length, get_or}
use Rattle.kinds.specs.Kinds.{count_right, data_of, asked_of}
use Rattle.orders.specs.Form.{Message, Transaction, whole, message_at, wait_at}

-- the bytes that a message takes in the list: address, kind, length, a write's data
abbrev pub size_at : List ℕ → ℕ → ℕ
size_at s at = 3 + data_of (get_or s (at + 1) 0) (get_or s (at + 2) 0)

-- the places that it has in the result area: flag, count, the bytes asked of a read
abbrev pub room_at : List ℕ → ℕ → ℕ
room_at s at = 2 + asked_of (get_or s (at + 1) 0) (get_or s (at + 2) 0)

-- From p on stand the messages `ms`, which end a transaction, and then the transactions `ts`, up to the list's end. Each step names the place
-- after it: whoever goes along the list by places goes from case to case.
pub data Stands (s : List ℕ) : ℕ → List Message → List Transaction → Type 0 where
  ended : {p : ℕ} → length s ≤ p → Stands s p [] []
  begins : {p q : ℕ} {m : Message} {ms : List Message} {ts : List Transaction}
      → p + 3 ≤ length s → count_right (get_or s p 0) ≡ true → get_or s p 0 - 1 ≡ length ms → message_at s (p + 3) ≡ whole m q → Stands s q ms ts
      → Stands s p [] (record { wait = wait_at s p; first = m; others = ms } ∷ ts)
  follows : {p q : ℕ} {m : Message} {ms : List Message} {ts : List Transaction}
      → message_at s p ≡ whole m q → Stands s q ms ts → Stands s p (m ∷ ms) ts
