-- Order lists the other way round: which transactions a list may hold, and the bytes that it has then (paper 01, "Order lists and their results").
-- Assumes nothing.
use Rattle.std.specs.Prelude.{ℕ, suc, ◌/◌, ◌%◌, ◌<◌, ◌≡◌, true, List, [], ◌∷◌, ◌++◌, length, get_or}
use Rattle.kinds.specs.Kinds.{address_right, kind_right, length_right, count_right, data_of}
use Rattle.orders.specs.Form.{Message, Transaction}

-- what a lent slice holds
unfoldable pub Bytes : List ℕ → Type 0
Bytes s = (i : ℕ) → get_or s i 0 < 256

abbrev pub message_bytes : Message → List ℕ
message_bytes m = m.address ∷ m.kind ∷ m.asked ∷ m.sent

unfoldable pub messages_bytes : List Message → List ℕ
messages_bytes [] = []
messages_bytes (m ∷ ms) = message_bytes m ++ messages_bytes ms

-- a message count, a wait of two bytes low first, the messages; then the next transaction
unfoldable pub list_bytes : List Transaction → List ℕ
list_bytes [] = []
list_bytes (t ∷ ts) =
    suc (length t.others) ∷ t.wait % 256 ∷ t.wait / 256 ∷ (message_bytes t.first ++ (messages_bytes t.others ++ list_bytes ts))

pub record RightMessage (m : Message) : Type 0 where
  pub address : address_right m.address ≡ true
  pub kind : kind_right m.kind ≡ true
  pub asked : length_right m.kind m.asked ≡ true
  pub sent : length m.sent ≡ data_of m.kind m.asked

abbrev pub RightMessages : List Message → Type 0
RightMessages [] = Unit {0}
RightMessages (m ∷ ms) = RightMessage m × RightMessages ms

pub record RightTransaction (t : Transaction) : Type 0 where
  pub count : count_right (suc (length t.others)) ≡ true
  pub wait : t.wait < 65536
  pub first : RightMessage t.first
  pub others : RightMessages t.others

abbrev pub RightList : List Transaction → Type 0
RightList [] = Unit {0}
RightList (t ∷ ts) = RightTransaction t × RightList ts
