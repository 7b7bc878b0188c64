-- Inside: an accepted list by places, as the code goes along it. That it is the list as it was read is shown over `Stands`. Assumes nothing.
use Rattle.std.specs.Prelude.{ℕ, zero, suc, ◌+◌, ◌-◌, ◌<◌, ◌≤◌, cond, List, [], ◌∷◌, ltb, length, get_or}
use Rattle.kinds.specs.Kinds.{data_of, follow}
use Rattle.kinds.specs.declared.Quota.{Quota}
use Rattle.orders.specs.Form.{Message, wait_at}
use Rattle.orders.specs.Places.{size_at, room_at}
use Rattle.orders.specs.Results.{Slotted, Batch}
use Rattle.messages.specs.declared.Place.{Place}

-- so early that no sum of places passes a word
pub record Within (p : Place) : Type 0 where
  pub at : p.at ≤ 1048576
  pub slot : p.slot ≤ 1099511627776

-- a read asks for so few bytes that their count is a byte
pub record Few (q : Quota) : Type 0 where
  pub few : (x : ℕ) → follow q x < 255

-- n bytes from a place on
unfoldable pub bytes_at : (n : ℕ) → List ℕ → (at : ℕ) → List ℕ
bytes_at zero s at = []
bytes_at (suc n) s at = get_or s at 0 ∷ bytes_at n s (suc at)

abbrev pub message_of : List ℕ → (at : ℕ) → Message
message_of s at =
    record {
      address = get_or s at 0;
      kind = get_or s (at + 1) 0;
      asked = get_or s (at + 2) 0;
      sent = bytes_at (data_of (get_or s (at + 1) 0) (get_or s (at + 2) 0)) s (at + 3);
    }

-- the message at a place of the list, with its place in the result area
abbrev pub slot_of : List ℕ → Place → Slotted
slot_of s p = record { message = message_of s p.at; slot = p.slot }

-- the places after it
abbrev pub beyond : List ℕ → Place → Place
beyond s p = record { at = p.at + size_at s p.at; slot = p.slot + room_at s p.at }

-- n messages from a place on, and the places after them
unfoldable pub slots_at : (n : ℕ) → List ℕ → Place → List Slotted
slots_at zero s p = []
slots_at (suc n) s p = slot_of s p ∷ slots_at n s (beyond s p)

unfoldable pub after : (n : ℕ) → List ℕ → Place → Place
after zero s p = p
after (suc n) s p = after n s (beyond s p)

-- the first message of the transaction at a place
abbrev pub opened : Place → Place
opened p = record { at = p.at + 3; slot = p.slot + 1 }

abbrev pub others : List ℕ → Place → ℕ
others s p = get_or s p.at 0 - 1

abbrev pub batch_at : List ℕ → Place → Batch
batch_at s p =
    record {
      wait = wait_at s p.at;
      first = slot_of s (opened p);
      others = slots_at (others s p) s (beyond s (opened p));
      top = p.slot;
    }

abbrev pub next_batch : List ℕ → Place → Place
next_batch s p = after (others s p) s (beyond s (opened p))

-- the transactions from a place on
unfoldable pub batches_at : (steps : ℕ) → List ℕ → Place → List Batch
batches_at zero s p = []
batches_at (suc n) s p = let r : List Batch = batches_at n s (next_batch s p) in cond (ltb p.at (length s)) (batch_at s p ∷ r) []
