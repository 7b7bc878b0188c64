-- What a message's kind byte and length byte say, and the limits of a list (paper 01, "Order lists and their results"). Nothing above looks at a
-- kind's number. Assumes nothing.
use Rattle.std.specs.Prelude.{ℕ, ◌-◌, ◌%◌, Bool, ◌&&◌, cond, eqb, leb, ltb}
use Rattle.kinds.specs.declared.Quota.{Quota}

unfoldable pub most_bytes : ℕ
most_bytes = 4096

unfoldable pub most_messages : ℕ
most_messages = 8

unfoldable pub most_length : ℕ
most_length = 64

-- kind 0 write, 1 read, 2 write non-critical, 3 read non-critical
unfoldable pub is_write : ℕ → Bool
is_write kind = eqb (kind % 2) 0

unfoldable pub is_critical : ℕ → Bool
is_critical kind = ltb kind 2

unfoldable pub kind_right : ℕ → Bool
kind_right kind = leb kind 3

unfoldable pub address_right : ℕ → Bool
address_right address = leb address 127

-- 1 to 8
unfoldable pub count_right : ℕ → Bool
count_right count = leb 1 count && leb count most_messages

-- 0 to 64 for a write and 1 to 64 for a read
unfoldable pub length_right : ℕ → ℕ → Bool
length_right kind n = leb (cond (is_write kind) 0 1) n && leb n most_length

-- the data bytes that follow in the list
unfoldable pub data_of : ℕ → ℕ → ℕ
data_of kind n = cond (is_write kind) n 0

-- the bytes asked of a read, each with its place in the result area
unfoldable pub asked_of : ℕ → ℕ → ℕ
asked_of kind n = cond (is_write kind) 0 n

-- a read: what its first byte leaves to come
unfoldable pub quota_of : ℕ → ℕ → Quota
quota_of kind n = record { more = n - 1 }

-- how many bytes follow one of this value; the quota of the next byte, with n more after that
unfoldable pub follow : Quota → ℕ → ℕ
follow q x = q.more

unfoldable pub remain : Quota → ℕ → Quota
remain q n = record { more = n }
