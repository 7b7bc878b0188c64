-- A watch over the run: no tick of it sees a fault, and at none is the controller at its end. Assumes nothing.
use Prim.Native.Nat.{ℕ, ◌+◌, ◌-◌, ◌≤◌, ◌<◌}
use mathlib.Core.Path.{◌≡◌, refl, sym, subst}
use mathlib.Core.Bool.{Bool, true, false}
use mathlib.Core.List.{List}
use native.Mathlib.Omega.{arith}
use borrow.Author.Tests.{ltb-true, ltb-false}
use lib.Dec.{ltb}
use Rattle.symbols.specs.Ticks.{Plan, first, clocked}
use Rattle.symbols.specs.declared.Symbol.{Symbol}
use Rattle.symbols.specs.declared.Symbol.TheVariants.{Stop}
use Rattle.wires.specs.Holding.{first_hold}
use Rattle.wires.specs.Wires.{Bus, after}
use Rattle.plain.specs.Clock.{Clock, symbol, pass}
use Rattle.agreement.proofs.Table.{Fine}
use Rattle.agreement.proofs.Time.{Timed, up}
use Rattle.agreement.proofs.Symbols.{after_add, symbol_through, opening_through}
use Rattle.agreement.proofs.Standing.{symbol_is, Past, At, Rest, setting, sound, begins_as, waits_as}
use Rattle.agreement.proofs.Interface.{Watch}
use Rattle.agreement.proofs.Moments.{Clean, zero_clean, one_clean, two_clean, three_clean, wait_clean, open_zero_clean, open_one_clean, open_two_clean, open_three_clean}

module _ (Q : Plan) (asked : ℕ) (b : Bus Q.State) where
  abbrev pub CleanTo : ℕ → Type 0
  CleanTo t = (n : ℕ) → n < t → Clean Q asked (after Q asked n b)

  -- and for m ticks more
  further : (t m : ℕ) → CleanTo t → ((k : ℕ) → k < m → Clean Q asked (after Q asked k (after Q asked t b))) → CleanTo (t + m)
  further t m c more n l = go (ltb n t) refl
    where
      past : (n t : ℕ) → t ≤ n → t + (n - t) ≡ n
      past n t h = omega arith

      soon : (n t m : ℕ) → n < t + m → t ≤ n → n - t < m
      soon n t m l h = omega arith

      go : (q : Bool) → ltb n t ≡ q → Clean Q asked (after Q asked n b)
      go true e = c n (ltb-true n t e)
      go false e =
          subst (λ (i : ℕ). Clean Q asked (after Q asked i b)) (past n t (ltb-false n t e))
          (rw (after_add Q asked t (n - t) b) (more (n - t) (soon n t m l (ltb-false n t e))))

  pub symbol_clean : {κ : Clock} {d : Q.State} {zs : List Timed} {π : Past} → At Q (after Q asked κ.now b) κ d zs π → CleanTo κ.now
      → (s : Symbol) (x : Bool) → Q.ask d ≡ clocked s → up zs ≡ x → Fine s x → CleanTo (symbol κ).now
  symbol_clean {κ} a c s x e u f =
      subst (λ (i : Clock). CleanTo i.now) (sym (symbol_is κ))
      (further κ.now (4 + first_hold κ.holds) c
      (λ k l. rw (begins_as Q a s x e)
      (symbol_through Q asked (setting Q a s x) (sound Q a s x u f) (λ n y. Clean Q asked y) (zero_clean Q asked _ (sound Q a s x u f)) (one_clean Q asked _ (sound Q a s x u f))
      (two_clean Q asked _ (sound Q a s x u f)) (three_clean Q asked _ (sound Q a s x u f)) k l)))

  pub opening_clean : {κ : Clock} {d : Q.State} {zs : List Timed} → Rest Q (after Q asked κ.now b) κ d zs → CleanTo κ.now
      → (k : ℕ) → Q.ask d ≡ first k → up zs ≡ true → CleanTo (pass (k + 4) κ).now
  unfolding pass
  opening_clean {κ} {d} {zs} a c k e u =
      further κ.now (k + 4) c
      (λ i l. rw (waits_as Q a k e)
      (opening_through Q asked d κ.holds κ.now zs u k (λ n y. Clean Q asked y) (λ j h. wait_clean Q asked d κ.holds κ.now zs u k (k - j) j)
      (open_zero_clean Q asked d κ.holds κ.now zs u k) (open_one_clean Q asked d κ.holds κ.now zs u k) (open_two_clean Q asked d κ.holds κ.now zs u k)
      (open_three_clean Q asked d κ.holds κ.now zs u k) i l))

  abbrev pub faultless : Watch Q asked
  faultless =
      record {
        bus = b;
        Before = λ κ d zs. CleanTo κ.now;
        Within = λ κ d zs π. CleanTo κ.now;
        After = λ κ d zs. CleanTo κ.now;
        opens = λ a c k e u. opening_clean a c k e u;
        goes = λ a c s x n e u f. symbol_clean a c s x e u f;
        closes = λ a c e u. symbol_clean a c Stop true e u refl;
      }
