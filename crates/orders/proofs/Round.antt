-- The form is that of the paper: the bytes of right transactions are accepted and read back, and whatever is accepted is such bytes.
-- Assumes nothing.
use mathlib.Core.Path.{◌≡◌, refl, ap, sym, ◌∙◌}
use mathlib.Core.List.{List, [], ◌∷◌, ◌++◌, append_assoc}
use Prim.Native.Nat.{ℕ, suc, ◌+◌, ◌-◌, ◌/◌, ◌%◌, ◌<◌, ◌≤◌}
use native.Mathlib.Nat.{add-zero}
use native.Mathlib.Numerals.{add-one}
use native.Mathlib.Omega.{arith}
use lib.ListN.{length, get_or, drop, length-append, length-drop, take-append-drop, drop_of_length-le}
use lib.Seq.{drop-cons, length-take-le, get_or-drop, drop-drop, take-append_seam, drop-append_seam}
use Rattle.kinds.specs.Kinds.{most_bytes, data_of}
use Rattle.kinds.proofs.KindLaws.{tests, some_message}
use Rattle.orders.specs.Form.{Message, Transaction, whole, right, message_at, wait_at, parsed, transactions_of}
use Rattle.orders.specs.Places.{Stands, ended, begins, follows}
use Rattle.orders.specs.Results.{area_of, check_of}
use Rattle.orders.specs.Bytes.{Bytes, message_bytes, messages_bytes, list_bytes, RightMessage, RightMessages, RightList}
use Rattle.std.proofs.Common.{Ok}
use Rattle.orders.proofs.WholeMessage.{message_inv}
use Rattle.orders.proofs.Stands.{stands_parsed, holds}

-- ---- bytes that are right stand as what they are

-- what is at p, where the list from p on is a ∷ b ∷ c ∷ l
module _ (s : List ℕ) (p a b c : ℕ) (l : List ℕ) (e : drop p s ≡ a ∷ b ∷ c ∷ l) where
  at_0 : get_or s p 0 ≡ a
  at_0 = ap (λ (k : ℕ). get_or s k 0) (sym (add-zero p)) ∙ sym (get_or-drop p s 0 0) ∙ ap (λ (k : List ℕ). get_or k 0 0) e

  at_1 : get_or s (p + 1) 0 ≡ b
  at_1 = sym (get_or-drop p s 1 0) ∙ ap (λ (k : List ℕ). get_or k 1 0) e

  at_2 : get_or s (p + 2) 0 ≡ c
  at_2 = sym (get_or-drop p s 2 0) ∙ ap (λ (k : List ℕ). get_or k 2 0) e

  from_3 : drop (p + 3) s ≡ l
  from_3 = sym (drop-drop 3 p s) ∙ ap (λ (k : List ℕ). drop 3 k) e

  room : p + 3 + length l ≡ length s
  room = let h : length s - p ≡ 3 + length l = sym (length-drop p s) ∙ ap (λ (k : List ℕ). length k) e ∙ omega arith in omega arith

module _ (s : List ℕ) (p : ℕ) (m : Message) (rest : List ℕ) (e : drop p s ≡ message_bytes m ++ rest) (ok : RightMessage m) where
  after_message : drop (p + 3 + length m.sent) s ≡ rest
  after_message = sym (drop-drop (length m.sent) (p + 3) s) ∙ ap (λ (k : List ℕ). drop (length m.sent) k) (from_3 s p _ _ _ _ e) ∙ drop-append_seam m.sent rest

  message_read : message_at s p ≡ whole m (p + 3 + length m.sent)
  unfolding message_at
  message_read =
      let a = at_0 s p _ _ _ _ e in
      let k = at_1 s p _ _ _ _ e in
      let n = at_2 s p _ _ _ _ e in
      let f = from_3 s p _ _ _ _ e in
      let r = room s p _ _ _ _ e in
      let g = length-append m.sent rest in
      let h : p < length s = omega arith in
      let h1 : p + 1 < length s = omega arith in
      let h2 : p + 2 < length s = omega arith in
      let h3 : p + 3 + length m.sent ≤ length s = omega arith in
      let w = ok.sent in
      simp (tests, a, k, n, f, ok.address, ok.kind, ok.asked, ← w, take-append_seam m.sent rest)

messages_stand : (s : List ℕ) (ms : List Message) (ts : List Transaction) (p : ℕ) → RightMessages ms → drop p s ≡ messages_bytes ms ++ list_bytes ts
    → ((q : ℕ) → drop q s ≡ list_bytes ts → Stands s q [] ts) → Stands s p ms ts
unfolding messages_bytes
messages_stand s [] ts p ok e rest = rest p e
messages_stand s (m ∷ ms) ts p ok e rest =
    let e' : drop p s ≡ message_bytes m ++ (messages_bytes ms ++ list_bytes ts) = e ∙ append_assoc (message_bytes m) (messages_bytes ms) (list_bytes ts) in
    follows (message_read s p m _ e' ok.0) (messages_stand s ms ts _ ok.1 (after_message s p m _ e' ok.0) rest)

bytes_stand : (s : List ℕ) (ts : List Transaction) (p : ℕ) → RightList ts → drop p s ≡ list_bytes ts → Stands s p [] ts
unfolding list_bytes
bytes_stand s [] p ok e =
    let l : length s - p ≡ 0 = sym (length-drop p s) ∙ ap (λ (k : List ℕ). length k) e in
    let h : length s ≤ p = omega arith in
    ended h
bytes_stand s (t ∷ ts) p ok e =
    let n = at_0 s p _ _ _ _ e in
    let lo = at_1 s p _ _ _ _ e in
    let hi = at_2 s p _ _ _ _ e in
    let f = from_3 s p _ _ _ _ e in
    let r = room s p _ _ _ _ e in
    let w : wait_at s p ≡ t.wait = rw (lo, hi) (omega arith) in
    let c = rw (← n) at ok.0.count in
    let k : get_or s p 0 - 1 ≡ length t.others = rw n (omega arith) in
    let i = message_read s (p + 3) t.first _ f ok.0.first in
    let a = after_message s (p + 3) t.first _ f ok.0.first in
    let h : p + 3 ≤ length s = omega arith in
    rw (← w) (begins h c k i (messages_stand s t.others ts _ ok.0.others a (λ q. bytes_stand s ts q ok.1)))

-- a right list is read back
pub read_back : (ts : List Transaction) → RightList ts → parsed (list_bytes ts) ≡ right [] ts
read_back ts ok = stands_parsed (bytes_stand (list_bytes ts) ts 0 ok refl)

pub transactions_back : (ts : List Transaction) → RightList ts → transactions_of (list_bytes ts) ≡ ts
unfolding transactions_of
transactions_back ts ok = rw (read_back ts ok)

-- and accepted, with the area that it has
pub accepts : (ts : List Transaction) → RightList ts → length (list_bytes ts) ≤ most_bytes → check_of (list_bytes ts) ≡ Ok (area_of ts)
unfolding check_of
accepts ts ok h = simp (tests, read_back ts ok)

-- two right lists with the same bytes are one
pub one_reading : (ts us : List Transaction) → RightList ts → RightList us → list_bytes ts ≡ list_bytes us → ts ≡ us
one_reading ts us t u e = let a = transactions_back ts t in let b = transactions_back us u in cc

-- ---- what stands there are the bytes of what is right

record Sound (s : List ℕ) (p : ℕ) (ms : List Message) (ts : List Transaction) : Type 0 where
  pub bytes : drop p s ≡ messages_bytes ms ++ list_bytes ts
  pub messages : RightMessages ms
  pub list : RightList ts

drop_1 : (s : List ℕ) (p : ℕ) → p < length s → drop p s ≡ get_or s p 0 ∷ drop (p + 1) s
drop_1 s p h = rw (add-one p) (drop-cons s p 0 h)

drop_3 : (s : List ℕ) (p : ℕ) → p + 3 ≤ length s → drop p s ≡ get_or s p 0 ∷ get_or s (p + 1) 0 ∷ get_or s (p + 2) 0 ∷ drop (p + 3) s
drop_3 s p h =
    let a = drop_1 s p (omega arith) in
    let b = drop_1 s (p + 1) (omega arith) in
    let c = drop_1 s (p + 2) (omega arith) in
    let x : p + 1 + 1 ≡ p + 2 = omega arith in
    let y : p + 2 + 1 ≡ p + 3 = omega arith in
    cc

-- a message's own bytes, and that it is right
module _ (s : List ℕ) (p : ℕ) (m : Message) (q : ℕ) (e : message_at s p ≡ whole m q) where
  message_bytes_lem : drop p s ≡ message_bytes m ++ drop q s
  message_bytes_lem =
      let i = message_inv s p m q e in
      let n : ℕ = data_of m.kind m.asked in
      let next : p + 3 + n ≡ q = i.next in
      let fits = i.room in
      let d = drop_3 s p (omega arith) in
      let t = take-append-drop n (drop (p + 3) s) in
      let u = drop-drop n (p + 3) s in
      let v = i.sent in
      let a = i.address in
      let b = i.kind in
      let c = i.asked in
      let tail : drop (p + 3) s ≡ m.sent ++ drop q s = cc in
      cc

  message_right : RightMessage m
  message_right =
      let i = message_inv s p m q e in
      let next = i.next in
      let fits = i.room in
      let long : data_of m.kind m.asked ≤ length (drop (p + 3) s) = rw (length-drop (p + 3) s) (omega arith) in
      record {
        address = i.right_address;
        kind = i.right_kind;
        asked = i.right_length;
        sent = sym (ap (λ (l : List ℕ). length l) i.sent) ∙ length-take-le _ _ long;
      }

stands_sound : {s : List ℕ} {p : ℕ} {ms : List Message} {ts : List Transaction} → Bytes s → Stands s p ms ts → Sound s p ms ts
unfolding Bytes messages_bytes list_bytes
stands_sound {s} byte (ended l) = record { bytes = drop_of_length-le s l; messages = tt; list = tt }
stands_sound {s} byte (follows {p} {q} {m} {ms} {ts} i st) =
    let r = stands_sound byte st in
    record {
      bytes = message_bytes_lem s p m q i ∙ ap (λ (l : List ℕ). message_bytes m ++ l) r.bytes ∙ sym (append_assoc (message_bytes m) (messages_bytes ms) (list_bytes ts));
      messages = (message_right s p m q i, r.messages);
      list = r.list;
    }
stands_sound {s} byte (begins {p} {q} {m} {ms} {ts} l c k i st) =
    let r = stands_sound byte st in
    let lo = byte (p + 1) in
    let hi = byte (p + 2) in
    let n = some_message (get_or s p 0) c in
    let count : suc (length ms) ≡ get_or s p 0 = omega arith in
    let w1 : wait_at s p % 256 ≡ get_or s (p + 1) 0 = omega arith in
    let w2 : wait_at s p / 256 ≡ get_or s (p + 2) 0 = omega arith in
    let d = drop_3 s p l in
    let b = message_bytes_lem s (p + 3) m q i in
    let g = r.bytes in
    record {
      bytes = cc;
      messages = tt;
      list = (record { count = rw count c; wait = omega arith; first = message_right s (p + 3) m q i; others = r.messages }, r.list);
    }

-- ---- what an accepted list is

pub record OfForm (s : List ℕ) (r : ℕ) : Type 0 where
  pub bytes : s ≡ list_bytes (transactions_of s)
  pub each : RightList (transactions_of s)
  pub area : r ≡ area_of (transactions_of s)

pub accepted : (s : List ℕ) (r : ℕ) → Bytes s → check_of s ≡ Ok r → OfForm s r
unfolding messages_bytes
accepted s r byte e =
    let h = holds s r e in
    let o = stands_sound byte h.stands in
    record { bytes = o.bytes; each = o.list; area = h.area }
