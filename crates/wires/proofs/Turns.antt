-- One turn of the run's loop is one tick of the rules: what is left to run from here does not change. Assumes nothing.
use Prim.Native.Nat.{ℕ, suc, ◌+◌, ◌-◌, ◌≤◌, ◌<◌}
use native.Mathlib.Nat.{zero-add, add-zero}
use native.Mathlib.Numerals.{add-one}
use native.Mathlib.Omega.{arith}
use mathlib.Core.Path.{◌≡◌, refl, ap, ap₂, sym, ◌∙◌}
use mathlib.Core.Bool.{Bool, true, false, ◌&&◌}
use mathlib.Core.List.{List, [], ◌∷◌, map}
use lib.ListN.{length, set}
use Rattle.lent.specs.Areas.{over}
use Rattle.lent.proofs.Rows.{over_from, one_byte, all_bytes, from_front}
use Rattle.lines.specs.Levels.{byte_of}
use Rattle.lines.specs.Events.{event_of}
use Rattle.lines.specs.declared.Lines.{Lines}
use Rattle.lines.specs.declared.Eye.{Eye}
use Rattle.symbols.specs.Symbols.{drives, is_over}
use Rattle.symbols.specs.Ticks.{Control}
use Rattle.cursor.specs.Cursor.{Spot, places}
use Rattle.eeprom.specs.Stages.{Body, body_tick, sda_of}
use Rattle.board.specs.Seats.{Seated, body_of, all_up}
use Rattle.wires.specs.Holding.{Holding}
use Rattle.wires.specs.Wires as Wires
use Rattle.wires.specs.Wires.{Ran, one_more, lines_on, tick, run, joined}
use Rattle.wires.specs.Inside.{bus_lines, BusSees, bus_on, limit, Went}
use Rattle.wires.specs.declared.Bus.{Bus}
use Rattle.wires.proofs.Runs.{run_more, run_over, run_none}

up_is : (t : ℕ) (xs : List Seated) → Wires.all_up (map (body_of t) xs) ≡ all_up xs
unfolding all_up Wires.all_up
up_is t [] = refl
up_is t (x ∷ xs) = ap (λ (b : Bool). sda_of x.seat.chip.stage && b) (up_is t xs)

pub record Finished : Type 0 where
  pub last : Wires.Bus Spot
  pub ticks : ℕ
  pub trace : List ℕ

module _ (list holds : List ℕ) (asked : ℕ) where
  -- what a run leaves that begins at tick t
  unfoldable pub finish : ℕ → Ran (places list) asked → List ℕ → Finished
  finish t r trace = record { last = r.last; ticks = t + length r.row; trace = over_from t r.row trace }

  finish_more : (t : ℕ) (l : Lines) (r : Ran (places list) asked) (trace : List ℕ)
      → finish t (one_more (places list) asked l r) trace ≡ finish (suc t) r (set trace t (byte_of l))
  unfolding finish
  finish_more t l r trace =
      ap₂ (λ (n : ℕ) (tr : List ℕ). record { last = r.last; ticks = n; trace = tr }) (num t (length r.row)) (sym (one_byte t (byte_of l) r.row trace))
    where
      num : (t n : ℕ) → t + suc n ≡ suc t + n
      num t n = omega arith

  -- the lines that the code finds are the rules'
  pub lines_are : (b : Bus) (xs : List Seated) (area : List ℕ) (t : ℕ) → b.up ≡ all_up xs
      → lines_on (places list) asked (bus_on holds b xs area t) ≡ bus_lines b
  lines_are b xs area t u =
      ap (λ (x : Bool). joined (drives b.control.phase b.control.was) b.hold.left x) (up_is t xs ∙ sym u)

  -- one tick, from what the code has made of each part
  pub tick_is : (b r : Bus) (xs ys : List Seated) (area after : List ℕ) (t : ℕ) → b.up ≡ all_up xs → BusSees list holds (bus_lines b) b area r after
      → map (body_of (suc t)) ys ≡ map (body_tick asked (event_of b.eye (bus_lines b))) (map (body_of t) xs)
      → bus_on holds r ys after (suc t) ≡ tick (places list) asked (bus_on holds b xs area t)
  unfolding tick
  tick_is b r xs ys area after t u s h =
      ap₂ (λ (c : Control Spot) (g : Holding). record { control = c; holding = g; eye = r.eye; chips = map (body_of (suc t)) ys }) s.control s.hold
      ∙ ap₂ (λ (e : Eye) (cs : List Body). record {
        control = (Wires.seeing (places list) asked (bus_lines b) (bus_on holds b xs area t)).control;
        holding = (Wires.seeing (places list) asked (bus_lines b) (bus_on holds b xs area t)).holding;
        eye = e;
        chips = cs;
      }) s.eye h
      ∙ ap (λ (l : Lines). Wires.seeing (places list) asked l (bus_on holds b xs area t)) (sym (lines_are b xs area t u))

  -- one turn, in the code's words
  pub turn : (l : ℕ) (b r : Bus) (xs ys : List Seated) (area after trace trace' : List ℕ) (t : ℕ) (f : Finished) (o : Bool) (seen : Lines) (v : ℕ)
      → finish t (run (places list) asked (l - t) (bus_on holds b xs area t)) trace ≡ f → b.up ≡ all_up xs
      → o ≡ is_over b.control.phase → o ≡ false → seen ≡ bus_lines b → v ≡ byte_of seen → trace' ≡ set trace t v
      → BusSees list holds seen b area r after
      → map (body_of (suc t)) ys ≡ map (body_tick asked (event_of b.eye seen)) (map (body_of t) xs)
      → t < l
      → finish (t + 1) (run (places list) asked (l - (t + 1)) (bus_on holds r ys after (t + 1))) trace' ≡ f
  turn l b r xs ys area after trace trace' t f o seen v inv u ov over e q p s h lt =
      let k : l - t ≡ suc (l - suc t) = omega arith in
      let z : is_over b.control.phase ≡ false = sym ov ∙ over in
      let s' : BusSees list holds (bus_lines b) b area r after = (rw e at s) in
      let h' : map (body_of (suc t)) ys ≡ map (body_tick asked (event_of b.eye (bus_lines b))) (map (body_of t) xs) = (rw e at h) in
      rw (p, q, e, add-one t)
      (ap (λ (x : Wires.Bus Spot). finish (suc t) (run (places list) asked (l - suc t) x) (set trace t (byte_of (bus_lines b))))
      (tick_is b r xs ys area after t u s' h')
      ∙ ap (λ (y : Lines). finish (suc t) (run (places list) asked (l - suc t) (tick (places list) asked (bus_on holds b xs area t))) (set trace t (byte_of y)))
      (sym (lines_are b xs area t u))
      ∙ sym (finish_more t (lines_on (places list) asked (bus_on holds b xs area t))
      (run (places list) asked (l - suc t) (tick (places list) asked (bus_on holds b xs area t))) trace)
      ∙ ap (λ (x : Ran (places list) asked). finish t x trace) (sym (run_more (places list) asked (l - suc t) (bus_on holds b xs area t) z))
      ∙ ap (λ (n : ℕ). finish t (run (places list) asked n (bus_on holds b xs area t)) trace) (sym k) ∙ inv)

  finish_none : (t : ℕ) (b : Wires.Bus Spot) (trace : List ℕ) → finish t (record { last = b; row = [] }) trace ≡ record { last = b; ticks = t; trace = trace }
  unfolding finish
  finish_none t b trace = ap₂ (λ (n : ℕ) (tr : List ℕ). record { last = b; ticks = n; trace = tr }) (add-zero t) (all_bytes t trace)

  finish_all : (r : Ran (places list) asked) (trace : List ℕ) → finish 0 r trace ≡ record { last = r.last; ticks = length r.row; trace = over r.row trace }
  unfolding finish
  finish_all r trace = ap₂ (λ (n : ℕ) (tr : List ℕ). record { last = r.last; ticks = n; trace = tr }) (zero-add (length r.row)) (from_front r.row trace)

  went : (start last : Wires.Bus Spot) (ticks : ℕ) (lent trace : List ℕ)
      → record { last = last; ticks = ticks; trace = trace } ≡ finish 0 (run (places list) asked limit start) lent
      → Went list asked start lent last ticks trace
  went start last ticks lent trace e =
      let g = e ∙ finish_all (run (places list) asked limit start) lent in
      record { last_is = ap (λ (f : Finished). f.last) g; ticks_is = ap (λ (f : Finished). f.ticks) g; trace_is = ap (λ (f : Finished). f.trace) g }

  -- the controller is over
  pub ends_over : (start : Wires.Bus Spot) (lent : List ℕ) (b : Bus) (xs : List Seated) (area trace : List ℕ) (t : ℕ) (o : Bool)
      → finish t (run (places list) asked (limit - t) (bus_on holds b xs area t)) trace ≡ finish 0 (run (places list) asked limit start) lent
      → o ≡ is_over b.control.phase → o ≡ true → Went list asked start lent (bus_on holds b xs area t) t trace
  ends_over start lent b xs area trace t o inv ov over =
      went start (bus_on holds b xs area t) t lent trace
      (sym (finish_none t (bus_on holds b xs area t) trace)
      ∙ ap (λ (x : Ran (places list) asked). finish t x trace)
      (sym (run_over (places list) asked (limit - t) (bus_on holds b xs area t) (sym ov ∙ over))) ∙ inv)

  pub ends_late : (start : Wires.Bus Spot) (lent : List ℕ) (b : Bus) (xs : List Seated) (area trace : List ℕ) (t : ℕ)
      → finish t (run (places list) asked (limit - t) (bus_on holds b xs area t)) trace ≡ finish 0 (run (places list) asked limit start) lent
      → limit ≤ t → Went list asked start lent (bus_on holds b xs area t) t trace
  ends_late start lent b xs area trace t inv h =
      went start (bus_on holds b xs area t) t lent trace
      (sym (finish_none t (bus_on holds b xs area t) trace)
      ∙ ap (λ (x : Ran (places list) asked). finish t x trace) (sym (run_none (places list) asked (limit - t) (bus_on holds b xs area t) (omega arith))) ∙ inv)
