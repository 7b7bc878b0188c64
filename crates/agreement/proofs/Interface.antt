-- The wires as the layers above see them: a relation between the time by the clock, the controller's plan and the chips, and five lemmas that move it by a
-- symbol. Whoever wants to know more of the ticks on the way brings a Watch. Assumes nothing.
use Prim.Native.Nat.{ℕ, ◌+◌}
use mathlib.Core.Path.{◌≡◌, refl, sym, subst}
use mathlib.Core.Bool.{Bool, true, false, ◌&&◌, and-true}
use mathlib.Core.List.{List, map}
use Rattle.lines.specs.Levels.{hi, lo}
use Rattle.lines.specs.declared.Event.TheVariants.{Started, Bit}
use Rattle.symbols.specs.Faults.{is_stop}
use Rattle.symbols.specs.Ticks.{Plan, first, clocked}
use Rattle.symbols.specs.declared.Begin.TheVariants.{First, Repeated}
use Rattle.symbols.specs.declared.Symbol.{Symbol}
use Rattle.symbols.specs.declared.Symbol.TheVariants.{Start, Stop, Sent, Received}
use Rattle.wires.specs.Holding.{first_hold}
use Rattle.wires.specs.Wires.{Bus, after}
use Rattle.plain.specs.Clock.{Clock, symbol, pass}
use Rattle.agreement.proofs.Table.{late, Fine}
use Rattle.agreement.proofs.Time.{Timed, hears_at, stops_at, up}
use Rattle.agreement.proofs.Symbols.{after_add}
use Rattle.agreement.proofs.Standing.{symbol_is, hearing, Past, leaves, At, Rest, arrives, stops, opens_at}

-- What is told of a run from its first bus on: before a transaction, inside it (with what the symbol before has left) and after it; and how the tale goes
-- on with a wait and the first START, with a clocked symbol, with STOP. The bus at every tick of these is in Symbols.antt.
pub record Watch (Q : Plan) (asked : ℕ) : Type 1 where
  pub bus : Bus Q.State
  pub Before : Clock → Q.State → List Timed → Type 0
  pub Within : Clock → Q.State → List Timed → Past → Type 0
  pub After : Clock → Q.State → List Timed → Type 0
  pub opens : {κ : Clock} {d : Q.State} {zs : List Timed} → Rest Q (after Q asked κ.now bus) κ d zs → Before κ d zs
      → (k : ℕ) → Q.ask d ≡ first k → up zs ≡ true
      → Within (pass (k + 4) κ) (Q.next d lo) (map (hears_at (pass (k + 4) κ).now Started) zs) (leaves (Start First) lo (pass (k + 4) κ).now zs)
  pub goes : {κ : Clock} {d : Q.State} {zs : List Timed} {π : Past} → At Q (after Q asked κ.now bus) κ d zs π → Within κ d zs π
      → (s : Symbol) (x : Bool) → is_stop s ≡ false → Q.ask d ≡ clocked s → up zs ≡ x → Fine s x
      → let v = late s && x in Within (symbol κ) (Q.next d v) (map (hears_at (symbol κ).now (hearing s v)) zs) (leaves s v (symbol κ).now zs)
  pub closes : {κ : Clock} {d : Q.State} {zs : List Timed} {π : Past} → At Q (after Q asked κ.now bus) κ d zs π → Within κ d zs π
      → Q.ask d ≡ clocked Stop → up zs ≡ true
      → After (symbol κ) (Q.next d hi) (map (stops_at asked (symbol κ).now) zs)

module _ (Q : Plan) (asked : ℕ) (O : Watch Q asked) where
  -- at the start of a symbol: the time, what the plan does next, and the chips once all bits are delivered
  pub record On (κ : Clock) (d : Q.State) (zs : List Timed) : Type 0 where
    pub past : Past
    pub at : At Q (after Q asked κ.now O.bus) κ d zs past
    pub tale : O.Within κ d zs past

  -- between two transactions
  pub record Idle (R : Clock → Q.State → List Timed → Type 0) (κ : Clock) (d : Q.State) (zs : List Timed) : Type 0 where
    pub rest : Rest Q (after Q asked κ.now O.bus) κ d zs
    pub tale : R κ d zs

  module _ {κ : Clock} {d : Q.State} {zs : List Timed} (o : On κ d zs) where
    -- any clocked symbol but STOP
    crosses : (s : Symbol) (x : Bool) → is_stop s ≡ false → Q.ask d ≡ clocked s → up zs ≡ x → Fine s x
        → let v = late s && x in On (symbol κ) (Q.next d v) (map (hears_at (symbol κ).now (hearing s v)) zs)
    crosses s x n e u f =
        let v : Bool = late s && x in
        record {
          past = leaves s v (symbol κ).now zs;
          at = subst (λ (c : Clock). At Q (after Q asked c.now O.bus) c (Q.next d v) (map (hears_at c.now (hearing s v)) zs) (leaves s v c.now zs))
              (sym (symbol_is κ)) (rw (after_add Q asked κ.now (4 + first_hold κ.holds) O.bus) (arrives Q asked o.at s x n e u f));
          tale = O.goes o.at o.tale s x n e u f;
        }

    pub sends : (c : Bool) → Q.ask d ≡ clocked (Sent c) → up zs ≡ true → On (symbol κ) (Q.next d c) (map (hears_at (symbol κ).now (Bit c)) zs)
    sends c e u =
        subst (λ (v : Bool). On (symbol κ) (Q.next d v) (map (hears_at (symbol κ).now (Bit v)) zs)) (and-true c) (crosses (Sent c) true refl e u refl)

    pub receives : (x : Bool) → Q.ask d ≡ clocked Received → up zs ≡ x → On (symbol κ) (Q.next d x) (map (hears_at (symbol κ).now (Bit x)) zs)
    receives x e u = crosses Received x refl e u tt

    pub restarts : Q.ask d ≡ clocked (Start Repeated) → up zs ≡ true → On (symbol κ) (Q.next d lo) (map (hears_at (symbol κ).now Started) zs)
    restarts e u = crosses (Start Repeated) true refl e u refl

    pub ends : Q.ask d ≡ clocked Stop → up zs ≡ true → Idle O.After (symbol κ) (Q.next d hi) (map (stops_at asked (symbol κ).now) zs)
    ends e u =
        record {
          rest = subst (λ (c : Clock). Rest Q (after Q asked c.now O.bus) c (Q.next d hi) (map (stops_at asked c.now) zs)) (sym (symbol_is κ))
              (rw (after_add Q asked κ.now (4 + first_hold κ.holds) O.bus) (stops Q asked o.at e u));
          tale = O.closes o.at o.tale e u;
        }

  pub begins : {κ : Clock} {d : Q.State} {zs : List Timed} → Idle O.Before κ d zs → (k : ℕ) → Q.ask d ≡ first k → up zs ≡ true
      → On (pass (k + 4) κ) (Q.next d lo) (map (hears_at (pass (k + 4) κ).now Started) zs)
  unfolding pass
  begins {κ} {zs = zs} o k e u =
      record {
        past = leaves (Start First) lo (κ.now + (k + 4)) zs;
        at = rw (after_add Q asked κ.now (k + 4) O.bus) (opens_at Q asked o.rest k e u);
        tale = O.opens o.rest o.tale k e u;
      }
