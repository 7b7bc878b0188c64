-- The form of an order list: how its bytes are read into transactions and messages, and which byte is the first that breaks it (paper 01,
-- "Order lists and their results", and reading 33). That this is the form of paper 01, in both directions, is shown over Bytes.antt.
-- Assumes nothing.
use Rattle.std.specs.Prelude.{ℕ, zero, suc, ◌+◌, ◌*◌, ◌-◌, Bool, cond, List, [], ◌∷◌, ltb, leb, length, get_or, take, drop}
use Rattle.kinds.specs.Kinds.{address_right, kind_right, length_right, count_right, data_of}
use Rattle.orders.specs.declared.Rule.{Rule}
use Rattle.orders.specs.declared.Rule.TheVariants.{CutShort, Count, Address, Kind, Length}
use Rattle.orders.specs.declared.Break.{Break}

-- `asked` is the length byte, `sent` a write's data
pub record Message : Type 0 where
  pub address : ℕ
  pub kind : ℕ
  pub asked : ℕ
  pub sent : List ℕ

-- its message count is one more than the others
pub record Transaction : Type 0 where
  pub wait : ℕ
  pub first : Message
  pub others : List Message

abbrev pub breaks : ℕ → Rule → Break
breaks p r = record { place = p; rule = r }

abbrev pub cut : List ℕ → Break
cut s = breaks (length s) CutShort

-- a message with the place after it, or the break
pub data Read : Type 0 where
  whole : Message → ℕ → Read
  broken : Break → Read

-- the byte at a place has to be there, and then to be right
abbrev pub byte_at : List ℕ → ℕ → Rule → (ℕ → Bool) → (ℕ → Read) → Read
byte_at s p rule right go = cond (ltb p (length s)) (cond (right (get_or s p 0)) (go (get_or s p 0)) (broken (breaks p rule))) (broken (cut s))

-- address, kind, length, a write's data
unfoldable pub message_at : List ℕ → ℕ → Read
message_at s p =
    byte_at s p Address address_right λ a.
    byte_at s (p + 1) Kind kind_right λ k.
    byte_at s (p + 2) Length (length_right k) λ n.
    cond (leb (p + 3 + data_of k n) (length s))
    (whole (record { address = a; kind = k; asked = n; sent = take (data_of k n) (drop (p + 3) s) }) (p + 3 + data_of k n))
    (broken (cut s))

-- the list from a place on: what is left of the transaction under way, and the transactions after it
pub data Parsed : Type 0 where
  right : List Message → List Transaction → Parsed
  wrong : Break → Parsed

abbrev pub after : Read → (Message → ℕ → Parsed) → Parsed
after (whole m q) go = go m q
after (broken b) go = wrong b

abbrev pub and_message : Message → Parsed → Parsed
and_message m (right ms ts) = right (m ∷ ms) ts
and_message m (wrong b) = wrong b

abbrev pub and_transaction : ℕ → Message → Parsed → Parsed
and_transaction wait m (right ms ts) = right [] (record { wait = wait; first = m; others = ms } ∷ ts)
and_transaction wait m (wrong b) = wrong b

-- the wait's two bytes, low first
abbrev pub wait_at : List ℕ → ℕ → ℕ
wait_at s p = get_or s (p + 1) 0 + 256 * get_or s (p + 2) 0

-- the list ends here, or a count, a wait and a first message follow; `go` reads the messages after it
abbrev pub begin_at : List ℕ → ℕ → (ℕ → ℕ → Parsed) → Parsed
begin_at s p go =
    cond (ltb p (length s))
    (cond (count_right (get_or s p 0))
    (cond (leb (p + 3) (length s))
    (after (message_at s (p + 3)) (λ m q. and_transaction (wait_at s p) m (go (get_or s p 0 - 1) q)))
    (wrong (cut s)))
    (wrong (breaks p Count)))
    (right [] [])

-- `left` messages of a transaction are still to come. Each step goes over at least three bytes, so the list's length is steps enough
unfoldable pub parse : (steps left : ℕ) → List ℕ → ℕ → Parsed
parse zero left s p = wrong (cut s)
parse (suc n) zero s p = begin_at s p (λ left q. parse n left s q)
parse (suc n) (suc left) s p = after (message_at s p) (λ m q. and_message m (parse n left s q))

unfoldable pub parsed : List ℕ → Parsed
parsed s = parse (suc (length s)) 0 s 0

-- the transactions of a list that has the form
abbrev pub transactions_in : Parsed → List Transaction
transactions_in (right ms ts) = ts
transactions_in (wrong b) = []

unfoldable pub transactions_of : List ℕ → List Transaction
transactions_of s = transactions_in (parsed s)
