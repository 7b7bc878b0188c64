-- Ticks counted symbol by symbol, as the code counts them. Assumes nothing.
use Prim.Native.Nat.{ℕ, suc, ◌+◌, ◌-◌, ◌<◌, ◌≤◌}
use native.Mathlib.Nat.{add_assoc}
use native.Mathlib.Numerals.{add-one}
use native.Mathlib.Omega.{arith}
use mathlib.Core.Path.{◌≡◌, refl, ap}
use mathlib.Core.List.{List}
use lib.ListN.{length, get_or, drop, drop_of_length-le}
use lib.Seq.{drop-cons}
use Rattle.plain.specs.Clock.{Clock, symbol, symbols, pass}
use Rattle.plain.specs.Inside.{symbol_most, time_of, Passes}
use Rattle.plain.specs.declared.Time.{Time}

module _ (holds : List ℕ) (t : Time) where
  -- a symbol with its hold byte
  pub symbol_held : get_or holds t.next 0 < 256 → t.next < length holds
      → Passes holds (symbol (time_of t holds)) (t.now + symbol_most) (record { now = t.now + 4 + get_or holds t.next 0; next = t.next + 1 })
  unfolding time_of symbol
  symbol_held b h =
      record {
        is =
            rw (drop-cons holds t.next 0 h, add-one t.next)
            (ap (λ (n : ℕ). record { now = n; holds = drop (suc t.next) holds }) (add_assoc t.now 4 (get_or holds t.next 0)));
        soon = omega arith;
      }

  -- past the list's end none is held
  pub symbol_free : length holds ≤ t.next → Passes holds (symbol (time_of t holds)) (t.now + symbol_most) (record { now = t.now + 4; next = t.next })
  unfolding time_of symbol
  symbol_free h = record { is = rw (drop_of_length-le holds h); soon = omega arith }

  pub passed : (n : ℕ) → Passes holds (pass n (time_of t holds)) (t.now + n) (record { now = t.now + n; next = t.next })
  unfolding time_of pass
  passed n = record { is = refl; soon = omega arith }

-- i of n symbols went by
module _ (holds : List ℕ) (n i : ℕ) (t t' : Time) (goal : Clock) (so_far : symbols (n - i) (time_of t holds) ≡ goal) where
  pub symbol_more : i < n → time_of t' holds ≡ symbol (time_of t holds) → symbols (n - (i + 1)) (time_of t' holds) ≡ goal
  unfolding symbols
  symbol_more h e =
      let k : n - i ≡ suc (n - (i + 1)) = omega arith in
      rw e (rw k at so_far)

  pub symbols_gone : i ≤ n → n ≤ i → time_of t holds ≡ goal
  unfolding symbols
  symbols_gone h l = let k : n - i ≡ 0 = omega arith in rw k at so_far
