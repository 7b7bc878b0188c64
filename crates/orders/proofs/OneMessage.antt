-- What stands at a place where a message is due, a law for each answer: its premises are the tests in the order of the definition, as the code
-- makes them. Assumes nothing.
use mathlib.Core.Path.{◌≡◌}
use mathlib.Core.Bool.{Bool, true, false}
use mathlib.Core.List.{List}
use Prim.Native.Nat.{ℕ, ◌+◌, ◌<◌, ◌≤◌}
use lib.ListN.{length, get_or}
use Rattle.std.specs.Result.{IsErrAnd}
use Rattle.std.proofs.Common.{Result, Ok, Err}
use Rattle.std.proofs.lemmas.Result.{err_from_is_err_and}
use Rattle.kinds.specs.Kinds.{address_right, kind_right, length_right, data_of, asked_of}
use Rattle.kinds.proofs.KindLaws.{tests}
use Rattle.orders.specs.Form.{breaks, cut, message_at}
use Rattle.orders.specs.Check.{found_as}
use Rattle.orders.specs.declared.Rule.TheVariants.{Address, Kind, Length}
use Rattle.orders.specs.declared.Break.{Break}

-- a break that a `?` passes on is the one that came
pub passed_on : {A : Type 0} (r : Result A Break) (b : Break) → IsErrAnd r (λ e. e ≡ b) → r ≡ Err b
passed_on r b i = let p = err_from_is_err_and r i in rw (p.1, p.2)

module _ (s : List ℕ) (p : ℕ) where
  pub no_address : (b : Break) → length s ≤ p → b ≡ cut s → Err b ≡ found_as (message_at s p)
  unfolding message_at
  no_address b h e = rw e (simp tests)

  module _ (h : p < length s) (v : ℕ) (ve : v ≡ get_or s p 0) (x : Bool) (a : x ≡ address_right v) where
    address_lem : (t : Bool) → x ≡ t → address_right (get_or s p 0) ≡ t
    address_lem t e = rw (← ve, ← a) e

    pub bad_address : (b : Break) → x ≡ false → b ≡ breaks p Address → Err b ≡ found_as (message_at s p)
    unfolding message_at
    bad_address b a' e = let i = address_lem false a' in rw e (simp (tests, i))

    module _ (a' : x ≡ true) where
      pub no_kind : (b : Break) → length s ≤ p + 1 → b ≡ cut s → Err b ≡ found_as (message_at s p)
      unfolding message_at
      no_kind b h1 e = let i = address_lem true a' in rw e (simp (tests, i))

      module _ (h1 : p + 1 < length s) (w : ℕ) (we : w ≡ get_or s (p + 1) 0) (y : Bool) (k : y ≡ kind_right w) where
        kind_lem : (t : Bool) → y ≡ t → kind_right (get_or s (p + 1) 0) ≡ t
        kind_lem t e = rw (← we, ← k) e

        pub bad_kind : (b : Break) → y ≡ false → b ≡ breaks (p + 1) Kind → Err b ≡ found_as (message_at s p)
        unfolding message_at
        bad_kind b k' e = let i = address_lem true a' in let j = kind_lem false k' in rw e (simp (tests, i, j))

        module _ (k' : y ≡ true) where
          pub no_length : (b : Break) → length s ≤ p + 2 → b ≡ cut s → Err b ≡ found_as (message_at s p)
          unfolding message_at
          no_length b h2 e = let i = address_lem true a' in let j = kind_lem true k' in rw e (simp (tests, i, j))

          module _ (h2 : p + 2 < length s) (u : ℕ) (ue : u ≡ get_or s (p + 2) 0) (z : Bool) (n : z ≡ length_right w u) where
            length_lem : (t : Bool) → z ≡ t → length_right (get_or s (p + 1) 0) (get_or s (p + 2) 0) ≡ t
            length_lem t e = rw (← we, ← ue, ← n) e

            pub bad_length : (b : Break) → z ≡ false → b ≡ breaks (p + 2) Length → Err b ≡ found_as (message_at s p)
            unfolding message_at
            bad_length b n' e = let i = address_lem true a' in let j = kind_lem true k' in let l = length_lem false n' in rw e (simp (tests, i, j, l))

            module _ (n' : z ≡ true) (d : ℕ) (e : d ≡ data_of w u) where
              data_lem : d ≡ data_of (get_or s (p + 1) 0) (get_or s (p + 2) 0)
              data_lem = rw (we, ue) at e

              pub no_data : (b : Break) → length s < p + 3 + d → b ≡ cut s → Err b ≡ found_as (message_at s p)
              unfolding message_at
              no_data b h3 f =
                  let i = address_lem true a' in
                  let j = kind_lem true k' in
                  let l = length_lem true n' in
                  let g = rw data_lem at h3 in
                  rw f (simp (tests, i, j, l))

              pub whole_message : (r : ℕ) → p + 3 + d ≤ length s → r ≡ asked_of w u → Ok (record { next = p + 3 + d; slots = 2 + r }) ≡ found_as (message_at s p)
              unfolding message_at
              whole_message r h3 f =
                  let i = address_lem true a' in
                  let j = kind_lem true k' in
                  let l = length_lem true n' in
                  let g = rw data_lem at h3 in
                  rw (rw (we, ue) at f, data_lem) (simp (tests, i, j, l))
