-- The entry "controller alone": each refusal by what the code has looked at, and the run over the list's transactions. Assumes nothing.
use Prim.Native.Nat.{ℕ, ◌<◌, ◌≤◌}
use mathlib.Core.Path.{◌≡◌, ap, sym, ◌∙◌}
use mathlib.Core.Bool.{Bool, true, false}
use mathlib.Core.List.{List}
use native.Mathlib.Omega.{arith}
use borrow.Author.Tests.{lt-ltb, le-ltb, ne_eqb}
use lib.ListN.{length}
use Rattle.std.proofs.Common.{Result, Ok, Err}
use Rattle.lent.specs.Areas.{over, all_within}
use Rattle.lent.specs.Refusals.{number_of}
use Rattle.lent.specs.declared.Refusal.{Refusal}
use Rattle.lent.specs.declared.Refusal.TheVariants.{ListTooLong, ListBroken, AreaTooSmall, SampleOutOfRange, DrivesTooShort}
use Rattle.orders.specs.Form.{transactions_of}
use Rattle.orders.specs.Results.{start_area, batches, check_of, refusal_of}
use Rattle.orders.specs.Marks.{Log}
use Rattle.orders.specs.Start.{started_of}
use Rattle.orders.specs.declared.ListError.{ListError}
use Rattle.orders.specs.declared.ListError.TheVariants.{TooLong, Broken}
use Rattle.orders.proofs.Stands.{holds}
use Rattle.orders.proofs.Starts.{starts}
use Rattle.symbols.specs.Ticks.{begun}
use Rattle.symbols.specs.declared.Phase.{Phase}
use Rattle.cursor.specs.Cursor.{opens_at, Spot, places}
use Rattle.controller.specs.Plan.{State, orders, opens}
use Rattle.controller.specs.Inside.{control_of, first_of, ran_on}
use Rattle.controller.specs.Alone.{Told, told_of, end_of, at_first, alone_number, Alone, ended, alone}
use Rattle.controller.proofs.Matches.{begun_matches, walk_matches, drives_match}
use Rattle.controller.proofs.Simulation.{Same, asks_same, nexts_same, fails_same, starts_same}

-- the run by places is the run by transactions
pub runs_same : (list ds samples rs : List ℕ) (size : ℕ) → check_of list ≡ Ok size → size ≤ length rs
    → ran_on list ds samples (control_of (first_of list) (started_of list size rs)) ≡ ended ds samples (at_first list rs)
runs_same list ds samples rs size e h =
    let o = holds list size e in
    let k = o.short in
    let l : Log = record { area = start_area (transactions_of list) rs } in
    let s : Spot = record { cursor = opens_at list 0 0; log = l } in
    let t : State = opens (batches 0 (transactions_of list)) l in
    let b = begun_matches (places list) orders (Same list k) (asks_same list k) (nexts_same list k) (fails_same list k) s t (starts_same list k (transactions_of list) o.stands l) in
    let w = walk_matches (places list) orders (Same list k) (asks_same list k) (nexts_same list k) (fails_same list k) samples (begun (places list) s) (begun orders t) b in
    let d = drives_match (places list) orders (Same list k) (asks_same list k) (nexts_same list k) (fails_same list k) samples (begun (places list) s) (begun orders t) b in
    rw (starts list size rs e h) (go _ _ w.phase _ _ d _ _ (sym (ap (λ (x : Log). x.area) w.plan.log)))
  where
    go : (p q : Phase) → p ≡ q → (row rowed : List ℕ) → row ≡ rowed → (a b : List ℕ) → a ≡ b
        → ◌≡◌ {A = Alone} (record { told = record { number = 0; end = end_of p; ticks = length row }; drives = over row ds; results = a })
        (record { told = record { number = 0; end = end_of q; ticks = length rowed }; drives = over rowed ds; results = b })
    go p q e row rowed f a b g = rw (e, f, g)

module _ (list samples ds rs : List ℕ) where
  turned : (r : Refusal) → alone_number list samples ds rs ≡ number_of r → (number_of r ≡ 0 → ⊥)
      → ◌≡◌ {A = Alone} (record { told = told_of (Err r); drives = ds; results = rs }) (alone list samples ds rs)
  unfolding alone
  turned r e z = rw (e, ne_eqb (number_of r) 0 z)

  module _ (x : Result ℕ ListError) (checked : x ≡ check_of list) where
    pub no_list : (e : ListError) (r : Refusal) → x ≡ Err e → r ≡ refusal_of e
        → ◌≡◌ {A = Alone} (record { told = told_of (Err r); drives = ds; results = rs }) (alone list samples ds rs)
    unfolding alone_number
    no_list TooLong r e f = let c : check_of list ≡ Err TooLong = sym checked ∙ e in rw f (turned ListTooLong (rw c) (λ z. omega arith))
    no_list (Broken b) r e f = let c : check_of list ≡ Err (Broken b) = sym checked ∙ e in rw f (turned ListBroken (rw c) (λ z. omega arith))

    module _ (size : ℕ) (accepted : x ≡ Ok size) (a : Bool) (samples_are : a ≡ all_within 3 samples) where
      is : check_of list ≡ Ok size
      is = sym checked ∙ accepted

      pub no_samples : a ≡ false → ◌≡◌ {A = Alone} (record { told = told_of (Err SampleOutOfRange); drives = ds; results = rs }) (alone list samples ds rs)
      unfolding alone_number
      no_samples e = let w : all_within 3 samples ≡ false = sym samples_are ∙ e in turned SampleOutOfRange (rw (is, w)) (λ z. omega arith)

      module _ (fine : a ≡ true) where
        within : all_within 3 samples ≡ true
        within = sym samples_are ∙ fine

        pub no_drives : length ds < length samples → ◌≡◌ {A = Alone} (record { told = told_of (Err DrivesTooShort); drives = ds; results = rs }) (alone list samples ds rs)
        unfolding alone_number
        no_drives h = turned DrivesTooShort (rw (is, within, lt-ltb (length ds) (length samples) h)) (λ z. omega arith)

        module _ (lent : length samples ≤ length ds) where
          pub no_area : length rs < size → ◌≡◌ {A = Alone} (record { told = told_of (Err AreaTooSmall); drives = ds; results = rs }) (alone list samples ds rs)
          unfolding alone_number
          no_area h =
              let o = (holds list size is).area in
              turned AreaTooSmall (rw (is, within, le-ltb (length ds) (length samples) lent, ← o, lt-ltb (length rs) size h)) (λ z. omega arith)

          pub all_fine : (told : Told) (ds' rs' rs₁ : List ℕ) → size ≤ length rs → rs₁ ≡ started_of list size rs
              → record { told = told; drives = ds'; results = rs' } ≡ ran_on list ds samples (control_of (first_of list) rs₁)
              → record { told = told; drives = ds'; results = rs' } ≡ alone list samples ds rs
          unfolding alone alone_number
          all_fine told ds' rs' rs₁ h s r =
              let o = (holds list size is).area in
              rw (is, within, le-ltb (length ds) (length samples) lent, ← o, le-ltb (length rs) size h)
              (r ∙ ap (λ (y : List ℕ). ran_on list ds samples (control_of (first_of list) y)) s ∙ runs_same list ds samples rs size is h)
