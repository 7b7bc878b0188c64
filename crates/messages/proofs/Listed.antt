-- The list by places is the list as it was read: each message and each transaction with its places in the result area. Assumes nothing.
use Prim.Native.Nat.{ℕ, zero, suc, ◌+◌, ◌-◌, ◌<◌, ◌≤◌}
use native.Mathlib.Nat.{add_assoc, add-zero}
use native.Mathlib.Omega.{arith}
use mathlib.Core.Path.{◌≡◌, refl, ap, ap₂, ◌∙◌}
use mathlib.Core.List.{List, [], ◌∷◌}
use borrow.Author.Tests.{lt-ltb, le-ltb}
use lib.ListN.{length, get_or, take, drop}
use lib.Seq.{drop-cons}
use Rattle.kinds.specs.Kinds.{data_of}
use Rattle.orders.specs.Form.{Message, Transaction, whole, message_at, wait_at}
use Rattle.orders.specs.Places.{Stands, ended, begins, follows}
use Rattle.orders.specs.Results.{Batch, slots_of, slots_of_all, slotted, batches}
use Rattle.orders.proofs.WholeMessage.{message_inv, message_size, message_room}
use Rattle.messages.specs.Along.{bytes_at, message_of, slot_of, beyond, slots_at, after, batches_at}
use Rattle.messages.specs.declared.Place.{Place}

abbrev place : ℕ → ℕ → Place
place at slot = record { at = at; slot = slot }

-- bytes one by one are a part of the list
bytes_are : (n : ℕ) (s : List ℕ) (at : ℕ) → at + n ≤ length s → bytes_at n s at ≡ take n (drop at s)
unfolding bytes_at
bytes_are zero s at h = refl
bytes_are (suc n) s at h =
    let b : at < length s = omega arith in
    rw (drop-cons s at 0 b) (ap (λ (l : List ℕ). get_or s at 0 ∷ l) (bytes_are n s (suc at) (omega arith)))

-- a message
module _ (s : List ℕ) (p : ℕ) (m : Message) (q : ℕ) (e : message_at s p ≡ whole m q) where
  message_is : message_of s p ≡ m
  message_is =
      let i = message_inv s p m q e in
      let next = i.next in
      let room = i.room in
      let b : bytes_at (data_of m.kind m.asked) s (p + 3) ≡ m.sent = bytes_are (data_of m.kind m.asked) s (p + 3) (omega arith) ∙ i.sent in
      rw (i.address, i.kind, i.asked, b)

  slot_is : (slot : ℕ) → slot_of s (place p slot) ≡ record { message = m; slot = slot }
  slot_is slot = ap (λ (x : Message). record { message = x; slot = slot }) message_is

  beyond_is : (slot : ℕ) → beyond s (place p slot) ≡ place q (slot + slots_of m)
  beyond_is slot = ap₂ place (message_size s p m q e) (ap (λ (n : ℕ). slot + n) (message_room s p m q e))

-- the messages that end a transaction
pub record Rest (s : List ℕ) (p : ℕ) (ms : List Message) (ts : List Transaction) (slot : ℕ) : Type 0 where
  pub slots : slots_at (length ms) s (place p slot) ≡ slotted slot ms
  pub next : ℕ
  pub goes : after (length ms) s (place p slot) ≡ place next (slot + slots_of_all ms)
  pub stands : Stands s next [] ts
  pub later : p ≤ next

rest : {s : List ℕ} {p : ℕ} {ms : List Message} {ts : List Transaction} → Stands s p ms ts → (slot : ℕ) → Rest s p ms ts slot
unfolding slots_at slotted after slots_of_all
rest {s} {p} (ended l) slot = record { slots = refl; next = p; goes = rw (add-zero slot); stands = ended l; later = omega arith }
rest {s} {p} (begins l c k i st) slot = record { slots = refl; next = p; goes = rw (add-zero slot); stands = begins l c k i st; later = omega arith }
rest {s} (follows {p} {q} {m} {ms} {ts} i st) slot =
    let r = rest st (slot + slots_of m) in
    let b = beyond_is s p m q i slot in
    let g = (message_inv s p m q i).next in
    let h = r.later in
    record {
      slots = ap₂ ◌∷◌ (slot_is s p m q i slot) (ap (slots_at (length ms) s) b ∙ r.slots);
      next = r.next;
      goes = ap (after (length ms) s) b ∙ r.goes ∙ ap (place r.next) (add_assoc slot (slots_of m) (slots_of_all ms));
      stands = r.stands;
      later = omega arith;
    }

-- the transactions from a place on
pub listed : (n : ℕ) {s : List ℕ} {p : ℕ} {ts : List Transaction} → Stands s p [] ts → length s - p < n → (top : ℕ) → batches_at n s (place p top) ≡ batches top ts
unfolding batches_at batches slots_of_all
listed zero st h top = absurd (omega arith)
listed (suc n) {s} {p} (ended l) h top = rw (le-ltb p (length s) l)
listed (suc n) {s} (begins {p} {q} {m} {ms} {ts} l c k i st) h top =
    let b : p < length s = omega arith in
    let o = beyond_is s (p + 3) m q i (top + 1) in
    let r = rest st (top + 1 + slots_of m) in
    let g = (message_inv s (p + 3) m q i).next in
    let d = r.later in
    let a : top + 1 + slots_of m + slots_of_all ms ≡ top + (1 + (slots_of m + slots_of_all ms)) = omega arith in
    rw (lt-ltb p (length s) b, k, o, r.goes, r.slots, slot_is s (p + 3) m q i (top + 1), a)
    (ap (λ (bs : List Batch). record { wait = wait_at s p; first = record { message = m; slot = top + 1 }; others = slotted (top + 1 + slots_of m) ms; top = top } ∷ bs)
    (listed n r.stands (omega arith) (top + (1 + (slots_of m + slots_of_all ms)))))
