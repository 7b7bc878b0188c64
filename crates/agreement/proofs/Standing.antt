-- Where the bus stands at the start of a symbol, at a tick by the clock: what a clocked symbol, and a wait with the first START, make of it. The bit that a
-- symbol leaves is delivered in the next symbol's phase 0; the chips are told as they are once it is delivered. Assumes nothing.
use Prim.Native.Nat.{ℕ, suc, ◌+◌, ◌≤◌}
use mathlib.Core.Path.{◌≡◌, refl, ap, sym, ◌∙◌}
use mathlib.Core.Bool.{Bool, true, false, ◌&&◌, false≢true, and-eq-true_iff}
use mathlib.Core.List.{List, [], ◌∷◌, map}
use native.Mathlib.Omega.{arith}
use native.Mathlib.Nat.{add-zero}
use borrow.Author.Tests.{leb-true}
use lib.Dec.{leb}
use Rattle.std.specs.Prelude.{Option, Some, None}
use Rattle.lent.specs.Areas.{all_within}
use Rattle.lines.specs.Levels.{hi, lo, most_held}
use Rattle.lines.specs.Events.{delivered}
use Rattle.lines.specs.declared.Event.{Event}
use Rattle.lines.specs.declared.Event.TheVariants.{Quiet, Started, Stopped, Bit}
use Rattle.symbols.specs.Faults.{is_stop}
use Rattle.symbols.specs.Ticks.{Plan, Ask, first, clocked, enter}
use Rattle.symbols.specs.declared.Begin.TheVariants.{First, Repeated}
use Rattle.symbols.specs.declared.Symbol.{Symbol}
use Rattle.symbols.specs.declared.Symbol.TheVariants.{Start, Stop, Sent, Received}
use Rattle.eeprom.specs.Stages.{Body, body_tick}
use Rattle.wires.specs.Holding.{first_hold, later_holds}
use Rattle.wires.specs.Wires.{Bus, after}
use Rattle.plain.specs.Clock.{Clock, symbol}
use Rattle.agreement.proofs.Table.{late, Fine, told, kept}
use Rattle.agreement.proofs.Time.{Timed, bodies_at, hears_at, stops_at, up, quiet_tick, start_tick, stop_tick, quiet_same}
use Rattle.agreement.proofs.Ticks.{eye, bus, at_start}
use Rattle.agreement.proofs.Symbols.{Setting, Sound, in_zero, in_wait, symbol_ends, opening_ends}

-- no symbol is held for longer than it may be
abbrev pub Small : List ℕ → Type 0
Small hs = all_within most_held hs ≡ true

pub small_first : (hs : List ℕ) → Small hs → first_hold hs ≤ most_held
unfolding all_within
small_first [] s = omega arith
small_first (h ∷ hs) s = leb-true h most_held ((and-eq-true_iff (leb h most_held) _).0 s).0

pub small_later : (hs : List ℕ) → Small hs → Small (later_holds hs)
unfolding all_within
small_later [] s = s
small_later (h ∷ hs) s = ((and-eq-true_iff (leb h most_held) _).0 s).1

-- a clocked symbol by the first hold byte
pub symbol_is : (κ : Clock) → symbol κ ≡ record { now = κ.now + (4 + first_hold κ.holds); holds = later_holds κ.holds }
unfolding symbol
symbol_is κ = go κ.holds
  where
    go : (hs : List ℕ)
        → symbol (record { now = κ.now; holds = hs }) ≡ record { now = κ.now + (4 + first_hold hs); holds = later_holds hs }
    go [] = refl
    go (h ∷ hs) = refl

-- what the chips hear of a symbol that ended with v on SDA
abbrev pub hearing : Symbol → Bool → Event
hearing (Start b) v = Started
hearing Stop v = Stopped
hearing (Sent b) v = Bit v
hearing Received v = Bit v

-- what the symbol before has left: the SDA driven and seen last, the bit noted then, and the chips, to which it is still to be delivered
pub record Past : Type 0 where
  pub was : Bool
  pub seen : Bool
  pub noted : Option Bool
  pub waiting : List Timed

-- a symbol leaves it, if it ends before tick t with v on SDA (a STOP leaves both lines free: `Rest`, below)
abbrev pub leaves : Symbol → Bool → ℕ → List Timed → Past
leaves (Start b) v t zs = record { was = lo; seen = v; noted = None; waiting = map (hears_at t Started) zs }
leaves Stop v t zs = record { was = hi; seen = v; noted = None; waiting = zs }
leaves (Sent b) v t zs = record { was = b; seen = v; noted = Some v; waiting = zs }
leaves Received v t zs = record { was = hi; seen = v; noted = Some v; waiting = zs }

module _ (Q : Plan) where
  -- at the start of a symbol: the bus, all of it, by the clock, the plan and the past; and the chips zs once the noted bit is delivered
  pub record At (b : Bus Q.State) (κ : Clock) (d : Q.State) (zs : List Timed) (π : Past) : Type 0 where
    pub is : b ≡ at_start Q π.was d κ.holds (eye hi π.seen π.noted) (bodies_at κ.now π.waiting)
    pub settled : map (hears_at κ.now (delivered π.noted)) π.waiting ≡ zs
    pub level : π.was && up π.waiting ≡ π.seen
    pub small : Small κ.holds

  -- between two transactions: both lines are let go, and no bit waits
  pub record Rest (b : Bus Q.State) (κ : Clock) (d : Q.State) (zs : List Timed) : Type 0 where
    pub is : b ≡ at_start Q hi d κ.holds (eye hi hi None) (bodies_at κ.now zs)
    pub small : Small κ.holds

  module _ {b : Bus Q.State} {κ : Clock} {d : Q.State} {zs : List Timed} {π : Past} (a : At b κ d zs π) where
    -- the symbol that begins here, if the chips drive x
    abbrev pub setting : Symbol → Bool → Setting Q.State
    setting s x =
        record {
          symbol = s;
          was = π.was;
          plan = d;
          holds = κ.holds;
          seen = π.seen;
          noted = π.noted;
          now = κ.now;
          waiting = π.waiting;
          chips = zs;
          drive = x;
        }

    pub sound : (s : Symbol) (x : Bool) → up zs ≡ x → Fine s x → Sound Q (setting s x)
    sound s x u f = record { settled = a.settled; driven = u; fine = f; held = small_first κ.holds a.small }

    pub begins_as : (s : Symbol) (x : Bool) → Q.ask d ≡ clocked s → b ≡ in_zero Q (setting s x)
    begins_as s x e = a.is ∙ ap (λ (k : Ask). bus Q (enter k) π.was d 0 κ.holds (eye hi π.seen π.noted) (bodies_at κ.now π.waiting)) e

  -- so does the wait before a transaction
  pub waits_as : {b : Bus Q.State} {κ : Clock} {d : Q.State} {zs : List Timed} → Rest b κ d zs → (k : ℕ) → Q.ask d ≡ first k
      → b ≡ in_wait Q d κ.holds κ.now zs k 0
  waits_as {κ = κ} {d = d} {zs = zs} a k e =
      a.is ∙ ap (λ (q : Ask). bus Q (enter q) hi d 0 κ.holds (eye hi hi None) (bodies_at κ.now zs)) e
      ∙ ap (λ (t : ℕ). bus Q (enter (first k)) hi d 0 κ.holds (eye hi hi None) (bodies_at t zs)) (sym (add-zero κ.now))

next_now : (t h : ℕ) → suc (t + (3 + h)) ≡ t + (4 + h)
next_now t h = omega arith

module _ (Q : Plan) (asked : ℕ) where
  module _ {b : Bus Q.State} {κ : Clock} {d : Q.State} {zs : List Timed} {π : Past} (a : At Q b κ d zs π) where
    abbrev gone : ℕ
    gone = 4 + first_hold κ.holds

    abbrev ticked : Clock
    ticked = record { now = κ.now + gone; holds = later_holds κ.holds }

    reached : (s : Symbol) (x : Bool) → Q.ask d ≡ clocked s → up zs ≡ x → Fine s x → (bs : List Body)
        → map (body_tick asked (told s)) (bodies_at (κ.now + (3 + first_hold κ.holds)) zs) ≡ bs
        → after Q asked gone b ≡ at_start Q (late s) (Q.next d (late s && x)) (later_holds κ.holds) (eye hi (late s && x) (kept s (late s && x))) bs
    reached s x e u f bs q =
        ap (after Q asked gone) (begins_as Q a s x e) ∙ symbol_ends Q asked (setting Q a s x) (sound Q a s x u f)
        ∙ ap (at_start Q (late s) (Q.next d (late s && x)) (later_holds κ.holds) (eye hi (late s && x) (kept s (late s && x)))) q

    -- a bit: the chips hear it in the next phase 0
    bit_at : (s : Symbol) (x : Bool) → Q.ask d ≡ clocked s → up zs ≡ x → Fine s x → told s ≡ Quiet
        → after Q asked gone b ≡ at_start Q (late s) (Q.next d (late s && x)) (later_holds κ.holds) (eye hi (late s && x) (kept s (late s && x))) (bodies_at ticked.now zs)
    bit_at s x e u f t =
        reached s x e u f (bodies_at ticked.now zs)
        (ap (λ (n : Event). map (body_tick asked n) (bodies_at (κ.now + (3 + first_hold κ.holds)) zs)) t ∙ quiet_tick asked (κ.now + (3 + first_hold κ.holds)) zs
        ∙ ap (λ (n : ℕ). bodies_at n zs) (next_now κ.now (first_hold κ.holds)))

    -- any clocked symbol but STOP
    pub arrives : (s : Symbol) (x : Bool) → is_stop s ≡ false → Q.ask d ≡ clocked s → up zs ≡ x → Fine s x
        → let v = late s && x in
        At Q (after Q asked gone b) ticked (Q.next d v) (map (hears_at ticked.now (hearing s v)) zs) (leaves s v ticked.now zs)
    arrives (Start First) x n e u f = absurd f
    arrives (Start Repeated) x n e u f =
        record {
          is = reached (Start Repeated) x e u f (bodies_at ticked.now (map (hears_at ticked.now Started) zs))
              (start_tick asked (κ.now + (3 + first_hold κ.holds)) zs
              ∙ ap (λ (n : ℕ). bodies_at n (map (hears_at n Started) zs)) (next_now κ.now (first_hold κ.holds)));
          settled = quiet_same asked ticked.now (map (hears_at ticked.now Started) zs);
          level = refl;
          small = small_later κ.holds a.small;
        }
    arrives Stop x n e u f = absurd (false≢true (sym n))
    arrives (Sent c) x n e u f =
        record { is = bit_at (Sent c) x e u f refl; settled = refl; level = ap (λ (y : Bool). c && y) u; small = small_later κ.holds a.small }
    arrives Received x n e u f = record { is = bit_at Received x e u f refl; settled = refl; level = u; small = small_later κ.holds a.small }

    pub stops : Q.ask d ≡ clocked Stop → up zs ≡ true
        → Rest Q (after Q asked gone b) ticked (Q.next d hi) (map (stops_at asked ticked.now) zs)
    stops e u =
        record {
          is = reached Stop true e u refl (bodies_at ticked.now (map (stops_at asked ticked.now) zs))
              (stop_tick asked (κ.now + (3 + first_hold κ.holds)) zs
              ∙ ap (λ (n : ℕ). bodies_at n (map (stops_at asked n) zs)) (next_now κ.now (first_hold κ.holds)));
          small = small_later κ.holds a.small;
        }

  pub opens_at : {b : Bus Q.State} {κ : Clock} {d : Q.State} {zs : List Timed} → Rest Q b κ d zs → (k : ℕ) → Q.ask d ≡ first k → up zs ≡ true
      → At Q (after Q asked (k + 4) b) (record { now = κ.now + (k + 4); holds = κ.holds }) (Q.next d lo) (map (hears_at (κ.now + (k + 4)) Started) zs)
      (leaves (Start First) lo (κ.now + (k + 4)) zs)
  opens_at {κ = κ} {d = d} {zs = zs} a k e u =
      record {
        is = ap (after Q asked (k + 4)) (waits_as Q a k e) ∙ opening_ends Q asked d κ.holds κ.now zs u k;
        settled = quiet_same asked (κ.now + (k + 4)) (map (hears_at (κ.now + (k + 4)) Started) zs);
        level = refl;
        small = a.small;
      }
