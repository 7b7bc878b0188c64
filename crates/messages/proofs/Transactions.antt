-- A transaction from its wait to its STOP, and the transactions of a list, as the code goes along it. Assumes nothing.
use Prim.Native.Nat.{ℕ, zero, suc, ◌+◌, ◌-◌, ◌*◌, ◌<◌, ◌≤◌}
use native.Mathlib.Omega.{arith}
use mathlib.Core.Path.{◌≡◌, refl, ap, ap₂, ◌∙◌}
use mathlib.Core.List.{List}
use borrow.Author.Tests.{lt-ltb, le-ltb}
use lib.ListN.{length, get_or}
use Rattle.orders.specs.Form.{wait_at}
use Rattle.store.specs.Keeping.{starts}
use Rattle.plain.specs.Clock.{pass}
use Rattle.plain.specs.Plain.{World, does, messages, started, closes, transactions}
use Rattle.plain.specs.Inside.{symbol_most, time_of, Passes, Becomes}
use Rattle.plain.specs.declared.Time.{Time}
use Rattle.messages.specs.Inside.{messages_most, transaction_most, world_of, Comes, transaction}
use Rattle.messages.specs.Along.{slot_of, beyond, slots_at, opened, others, batch_at, next_batch, batches_at}
use Rattle.messages.specs.declared.Run.{Run}
use Rattle.messages.specs.declared.Place.{Place}
use Rattle.messages.proofs.Going.{waited}

pub whole_so : (holds list : List ℕ) (x : Run) (m l : List ℕ) (p f : Place) (asked low high k : ℕ) (t : Time) (b sent r : Run) (l' m'' l'' : List ℕ)
    → low ≡ get_or list (p.at + 1) 0 → high ≡ get_or list (p.at + 2) 0
    → low < 256 → high < 256 → Passes holds (pass (low + 256 * high + 4) (time_of x.time holds)) (x.time.now + (low + 256 * high + 4)) t → b.time ≡ t
    → Becomes (does starts) x.chips b.chips → f ≡ opened p → k ≡ others list p
    → Comes holds m l' (messages (slots_at k list (beyond list f)) (slot_of list f) (world_of b holds m l)) (b.time.now + messages_most) sent
    → Comes holds m'' l'' (closes asked p.slot (world_of sent holds m l')) (sent.time.now + symbol_most) r
    → Comes holds m'' l'' (transaction asked (batch_at list p) (world_of x holds m l)) (x.time.now + transaction_most) r
whole_so holds list x m l p f asked low high k t b sent r l' m'' l'' le he ls hs o bt steps fe ke c d =
    let begins = o.soon in
    let now : b.time.now ≡ t.now = ap (λ (z : Time). z.now) bt in
    let u = c.soon in
    let v = d.soon in
    let w : low + 256 * high + 4 ≡ wait_at list p.at + 4 = rw (le, he) in
    record {
      is =
          d.is
          ∙ ap (closes asked p.slot)
          (c.is ∙ ap₂ (λ (n : ℕ) (q : Place). messages (slots_at n list (beyond list q)) (slot_of list q) (world_of b holds m l)) ke fe
          ∙ ap (messages (slots_at (others list p) list (beyond list (opened p))) (slot_of list (opened p)))
          (waited holds x b t bt steps m l (low + 256 * high + 4) o.is ∙ ap (λ (n : ℕ). started (pass n (world_of x holds m l).clock) (world_of x holds m l)) w));
      sound = d.sound;
      soon = omega arith;
    }

-- the transactions from a place on make the world `goal`
pub record Leaves (holds list : List ℕ) (asked : ℕ) (p : Place) (x : Run) (m l : List ℕ) (goal : World) : Type 0 where
  pub steps : ℕ
  pub enough : length list - p.at < steps
  pub same : transactions asked (batches_at steps list p) (world_of x holds m l) ≡ goal

pub none_yet : (holds list : List ℕ) (asked : ℕ) (p : Place) (x : Run) (m l : List ℕ)
    → Leaves holds list asked p x m l (transactions asked (batches_at (suc (length list)) list p) (world_of x holds m l))
none_yet holds list asked p x m l = record { steps = suc (length list); enough = omega arith; same = refl }

module _ (holds list : List ℕ) (asked : ℕ) (p : Place) (x : Run) (m l : List ℕ) (goal : World) (so_far : Leaves holds list asked p x m l goal) where
  pub one_done : p.at < length list → (r : Run) (m' l' : List ℕ) (q : Place) → world_of r holds m' l' ≡ transaction asked (batch_at list p) (world_of x holds m l)
      → q ≡ next_batch list p → p.at + 3 ≤ q.at → Leaves holds list asked q r m' l' goal
  unfolding batches_at transactions
  one_done h r m' l' q e qe far = cases so_far.steps so_far.enough so_far.same
    where
      cases : (n : ℕ) → length list - p.at < n → transactions asked (batches_at n list p) (world_of x holds m l) ≡ goal → Leaves holds list asked q r m' l' goal
      cases zero b s = absurd (omega arith)
      cases (suc n) b s = record { steps = n; enough = omega arith; same = rw (qe, e) (rw (lt-ltb p.at (length list) h) at s) }

  pub all_done : length list ≤ p.at → world_of x holds m l ≡ goal
  unfolding batches_at transactions
  all_done h = cases so_far.steps so_far.enough so_far.same
    where
      cases : (n : ℕ) → length list - p.at < n → transactions asked (batches_at n list p) (world_of x holds m l) ≡ goal → world_of x holds m l ≡ goal
      cases zero b s = absurd (omega arith)
      cases (suc n) b s = rw (le-ltb p.at (length list) h) at s
