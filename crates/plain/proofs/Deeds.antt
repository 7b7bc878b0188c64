-- What a chip does at a START and a byte: the code's chip with its part of the memory is the rules' chip. Assumes nothing.
use Prim.Native.Nat.{ℕ, zero, suc}
use mathlib.Core.Path.{◌≡◌, refl, ap}
use mathlib.Core.Bool.{Bool, true, false}
use mathlib.Core.List.{[]}
use Rattle.std.specs.Prelude.{Some, None}
use Rattle.store.specs.Keeping.{Kept, geo, takes_at, takes, stepped, steps, emptied, starts}
use Rattle.store.specs.Pages.{geometry_of}
use Rattle.store.specs.declared.Model.{Model}
use Rattle.store.specs.declared.Store.{Store}
use Rattle.board.specs.declared.Seat.{Seat}
use Rattle.plain.specs.Plain.{listens, does, only}
use Rattle.plain.specs.Inside.{cell_at, next_of, Steps}

-- it stays a chip of its model
takes_model : (n x : ℕ) (s : Store) → (takes_at n x s).model ≡ s.model
takes_model zero x s = refl
takes_model (suc zero) x s = refl
takes_model (suc (suc n)) x s = refl

module _ (x y : Seat) where
  pub starts_one : y ≡ next_of x (Some (emptied (geo x.chip.store).lead x.chip.store)) → Steps (does starts) x y
  unfolding starts
  starts_one e = rw e (record { cell = λ m. refl; size = refl })

  module _ (a t : ℕ) (b : Bool) (l : b ≡ listens a t (cell_at x [])) where
    pub takes_one : (z : ℕ) → b ≡ true → y ≡ next_of x (Some (takes_at x.chip.store.want z x.chip.store)) → Steps (only (listens a t) (takes z)) x y
    unfolding takes
    takes_one z r e = rw e (record { cell = λ m. rw (← l, r); size = ap (λ (k : Model). (geometry_of k).size) (takes_model x.chip.store.want z x.chip.store) })

    pub sends_one : b ≡ true → y ≡ next_of x (Some (stepped x.chip.store)) → Steps (only (listens a t) steps) x y
    unfolding steps
    sends_one r e = rw e (record { cell = λ m. rw (← l, r); size = refl })

    pub stays : (g : Kept → Kept) → b ≡ false → y ≡ next_of x None → Steps (only (listens a t) g) x y
    stays g r e = rw e (record { cell = λ m. rw (← l, r); size = refl })
