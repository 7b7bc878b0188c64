-- The bytes of a message, turn by turn of the two loops. Assumes nothing.
use Prim.Native.Nat.{ℕ, suc, ◌+◌, ◌-◌, ◌<◌, ◌≤◌}
use native.Mathlib.Nat.{sub-zero, add-zero}
use native.Mathlib.Numerals.{add-one}
use native.Mathlib.Omega.{arith}
use mathlib.Core.Path.{◌≡◌, ap, ap₂, ◌∙◌}
use mathlib.Core.Bool.{true}
use mathlib.Core.List.{List}
use lib.ListN.{get_or, set}
use Rattle.kinds.specs.Kinds.{follow, remain}
use Rattle.kinds.specs.declared.Quota.{Quota}
use Rattle.orders.specs.Asking.{get}
use Rattle.orders.specs.Marks.{written, note_area, read_mark}
use Rattle.store.specs.Keeping.{takes, steps}
use Rattle.plain.specs.Plain.{World, listens, only, byte_goes, value_of, writes_all, reads_one, reads_all, carried}
use Rattle.plain.specs.Inside.{cells_of}
use Rattle.messages.specs.Inside.{world_of, Goes}
use Rattle.messages.specs.Along.{bytes_at}
use Rattle.messages.specs.declared.Run.{Run}
use Rattle.messages.proofs.Going.{byte_went}

pub read_noted : (q : Quota) (n y s : ℕ) (a b c : List ℕ) → b ≡ set a (s + 2 + n) y → c ≡ set b (s + 1) (n + 1) → c ≡ note_area (read_mark q n y) s a
unfolding read_mark
read_noted q n y s a b c p e = rw p at e

module _ (a t slot : ℕ) (holds m : List ℕ) where
  -- a write: i of n bytes went by, and what is left makes the world `goal`
  abbrev pub Writing : (list : List ℕ) → (from n i : ℕ) → Run → List ℕ → World → Type 0
  Writing list from n i x l goal = writes_all (listens a t) slot i (bytes_at (n - i) list (from + i)) (world_of x holds m l) ≡ goal

  pub none_written : (list : List ℕ) (from n : ℕ) (x : Run) (l : List ℕ)
      → Writing list from n 0 x l (writes_all (listens a t) slot 0 (bytes_at n list from) (world_of x holds m l))
  none_written list from n x l = rw (sub-zero n, add-zero from)

  module _ (list : List ℕ) (from n i : ℕ) (x : Run) (l : List ℕ) (goal : World) (so_far : Writing list from n i x l goal) where
    pub one_written : i < n → (y : ℕ) (r : Run) (l' : List ℕ) → y ≡ get_or list (from + i) 0 → Goes holds 9 (only (listens a t) (takes y)) x r → l' ≡ set l (slot + 1) (i + 1)
        → Writing list from n (i + 1) r l' goal
    unfolding writes_all bytes_at
    one_written h y r l' ye goes le =
        let k : n - i ≡ suc (n - suc i) = omega arith in
        let o : from + suc i ≡ suc (from + i) = omega arith in
        rw (add-one i, o, byte_went holds (listens a t) (takes y) x r goes m l l' (written i y true) slot le) (rw (k, ← ye) at so_far)

    pub all_written : i ≤ n → n ≤ i → world_of x holds m l ≡ goal
    unfolding writes_all bytes_at
    all_written h e = let k : n - i ≡ 0 = omega arith in rw k at so_far

  -- a read: n bytes went by, k more are asked for, and they make the world `goal`
  abbrev pub Reading : (n : ℕ) → Quota → (k : ℕ) → Run → List ℕ → World → Type 0
  Reading n q k x l goal = reads_all (listens a t) slot n q k (world_of x holds m l) ≡ goal

  module _ (q : Quota) (x r : Run) (l l' : List ℕ) (y n : ℕ) (sent : y ≡ value_of (listens a t) (cells_of x.chips.count x.chips.seats m)) (goes : Goes holds 9 (only (listens a t) steps) x r)
      (noted : l' ≡ note_area (read_mark q n y) slot l) where
    one_byte : world_of r holds m l' ≡ reads_one (listens a t) slot n q (world_of x holds m l)
    unfolding world_of
    one_byte =
        byte_went holds (listens a t) steps x r goes m l l' (read_mark q n y) slot noted
        ∙ ap (λ (z : ℕ). byte_goes (listens a t) steps (read_mark q n z) slot (world_of x holds m l)) sent

    pub one_read : (q₀ : Quota) (k : ℕ) (goal : World) → q ≡ remain q₀ k → Reading n q₀ (suc k) x l goal → Reading (n + 1) q k r l' goal
    unfolding reads_all
    one_read q₀ k goal qe so_far = rw (add-one n, one_byte, qe) so_far

    pub first_read : (k : ℕ) → n ≡ 0 → k ≡ follow q y
        → reads_all (listens a t) slot 1 q k (world_of r holds m l') ≡ carried (listens a t) slot (get q) (world_of x holds m l)
    unfolding world_of
    first_read k z e =
        ap₂ (λ (i : ℕ) (w : World). reads_all (listens a t) slot 1 q i w) (e ∙ ap (follow q) sent) (one_byte ∙ ap (λ (i : ℕ). reads_one (listens a t) slot i q (world_of x holds m l)) z)

  pub all_read : (n k : ℕ) (q : Quota) (x : Run) (l : List ℕ) (goal : World) → Reading n q k x l goal → k ≤ 0 → world_of x holds m l ≡ goal
  unfolding reads_all
  all_read n k q x l goal so_far h = let z : k ≡ 0 = omega arith in rw z at so_far
