-- From symbols to bytes: eight bits, each one induction, and the ninth symbol, of an address byte, of a byte written and of a byte read. Assumes nothing.
use Prim.Native.Nat.{ℕ, zero, suc, ◌/◌, ◌%◌}
use mathlib.Core.Path.{◌≡◌, refl, ap, sym, ◌∙◌, subst}
use mathlib.Core.Bool.{Bool, true, false, not, cond}
use mathlib.Core.List.{List, map}
use native.Mathlib.Omega.{arith}
use borrow.Author.Tests.{ne_eqb}
use lib.Dec.{eqb}
use Rattle.lines.specs.Levels.{bit_at, shifted}
use Rattle.lines.specs.declared.Event.TheVariants.{Bit}
use Rattle.kinds.specs.Kinds.{follow}
use Rattle.kinds.specs.declared.Quota.{Quota}
use Rattle.orders.specs.Asking.{address_byte}
use Rattle.orders.specs.Marks.{written, read_mark}
use Rattle.controller.specs.Plan.{Context, State, addressing, addressed, writing, wrote, reading, answering, marked, writes, reads, step, orders, does as doing}
use Rattle.store.specs.Keeping.{takes, steps}
use Rattle.eeprom.specs.Stages.{named, hears, sda_of}
use Rattle.eeprom.specs.declared.Stage.{Stage}
use Rattle.eeprom.specs.declared.Stage.TheVariants.{Deaf, Naming, Named, Taking, Taken, Asking}
use Rattle.plain.specs.Clock.{Clock, symbol, symbols}
use Rattle.plain.specs.Plain.{Cell, listens, any_of, does, only, value_of}
use Rattle.agreement.proofs.Maps.{map_by}
use Rattle.agreement.proofs.Time.{Timed, hears_at}
use Rattle.agreement.proofs.Interface.{Watch, On, sends, receives}
use Rattle.agreement.proofs.Bits.{collect}
use Rattle.agreement.proofs.Tuned.{wake, tuned, up_wake, tuned_bit, up_tuned, up_pulled, Lone, sending, up_sends, only_tuned}

-- the chips that y names acknowledge it
abbrev pub named_by : (y t : ℕ) → Cell → Timed
named_by y t = tuned (listens (y / 2) t) (wake (Named (eqb (y % 2) 1)))

-- what a chip that was named goes on with: a read, or a write
abbrev pub begun : Bool → Cell → Timed
begun true c = sending 7 c
begun false c = wake (Taking 7 0) c

-- a chip that took a byte acknowledges it
abbrev pub took : ℕ → Cell → Timed
took y c = wake Taken (does (takes y) c)

-- after a byte read: n more
abbrev pub went_on : ℕ → Cell → Timed
went_on zero c = wake Deaf c
went_on (suc n) c = sending 7 c

-- what a bit does to a chip, stage by stage
named_cond : (q : Bool) (y : ℕ) (s : Stage) (c : Cell)
    → ◌≡◌ {A = Timed} (record { core = named q y (wake s c).core; free = c.free }) (cond q (wake (Named (eqb (y % 2) 1)) c) (wake Deaf c))
named_cond true y s c = refl
named_cond false y s c = refl

module _ (t : ℕ) (v : Bool) where
  name_last : (a : ℕ) (c : Cell) → hears_at t (Bit v) (wake (Naming 0 a) c) ≡ named_by (shifted a v) t c
  unfolding hears
  name_last a c = named_cond (listens (shifted a v / 2) t c) (shifted a v) (Naming 0 a) c

  name_bit : (k a : ℕ) (c : Cell) → hears_at t (Bit v) (wake (Naming (suc k) a) c) ≡ wake (Naming k (shifted a v)) c
  unfolding hears
  name_bit k a c = refl

  named_next : (r : Bool) (c : Cell) → hears_at t (Bit v) (wake (Named r) c) ≡ begun r c
  unfolding hears
  named_next true c = refl
  named_next false c = refl

  take_bit : (k a : ℕ) (c : Cell) → hears_at t (Bit v) (wake (Taking (suc k) a) c) ≡ wake (Taking k (shifted a v)) c
  unfolding hears
  take_bit k a c = refl

  take_last : (a : ℕ) (c : Cell) → hears_at t (Bit v) (wake (Taking 0 a) c) ≡ took (shifted a v) c
  unfolding hears
  take_last a c = refl

  took_next : (y : ℕ) (c : Cell) → hears_at t (Bit v) (took y c) ≡ wake (Taking 7 0) (does (takes y) c)
  unfolding hears
  took_next y c = refl

  send_bit : (k : ℕ) (c : Cell) → hears_at t (Bit v) (sending (suc k) c) ≡ sending k c
  unfolding hears
  send_bit k c = refl

  send_last : (c : Cell) → hears_at t (Bit v) (sending 0 c) ≡ wake Asking c
  unfolding hears
  send_last c = refl

ask_next : (t n : ℕ) (c : Cell) → hears_at t (Bit (eqb n 0)) (wake Asking c) ≡ went_on n (does steps c)
unfolding hears
ask_next t zero c = refl
ask_next t (suc n) c = rw (ne_eqb (suc n) 0 (λ e. omega arith))

module _ (asked : ℕ) (O : Watch orders asked) where
  abbrev pub Has : Clock → State → List Timed → Type 0
  Has κ d zs = On orders asked O κ d zs

  -- the address byte
  pub address_bits : (k a : ℕ) {κ : Clock} (x : Context) (cs : List Cell) → Has κ (doing (addressing k) x) (map (wake (Naming k a)) cs)
      → Has (symbols (suc k) κ) (doing addressed x) (map (named_by (collect k (address_byte x.now.message) a) (symbols (suc k) κ).now) cs)
  unfolding symbols collect sda_of
  address_bits zero a {κ} x cs o =
      let v : Bool = bit_at 0 (address_byte x.now.message) in
      subst (Has (symbol κ) (doing addressed x)) (map_by _ _ _ (name_last (symbol κ).now v a) cs) (sends orders asked O o v refl (up_wake (Naming 0 a) refl cs))
  address_bits (suc k) a {κ} x cs o =
      let v : Bool = bit_at (suc k) (address_byte x.now.message) in
      address_bits k (shifted a v) x cs
      (subst (Has (symbol κ) (doing (addressing k) x)) (map_by _ _ _ (name_bit (symbol κ).now v k a) cs) (sends orders asked O o v refl (up_wake (Naming (suc k) a) refl cs)))

  pub address_ninth : (y t : ℕ) {κ : Clock} (x : Context) (cs : List Cell) → Has κ (doing addressed x) (map (named_by y t) cs)
      → Has (symbol κ) (step addressed (not (any_of (listens (y / 2) t) cs)) x) (map (tuned (listens (y / 2) t) (begun (eqb (y % 2) 1))) cs)
  unfolding sda_of
  address_ninth y t {κ} x cs o =
      let f : (Cell → Bool) = listens (y / 2) t in
      let v : Bool = not (any_of f cs) in
      let r : Bool = eqb (y % 2) 1 in
      subst (Has (symbol κ) (step addressed v x)) (map_by _ _ _ (tuned_bit (symbol κ).now v f (wake (Named r)) (begun r) (named_next (symbol κ).now v r)) cs)
      (receives orders asked O o v refl (up_pulled f (wake (Named r)) (λ c. refl) cs))

  module _ (f : Cell → Bool) where
    -- a byte written, n before it
    pub write_bits : (k a n y : ℕ) (ys : List ℕ) {κ : Clock} (x : Context) (cs : List Cell)
        → Has κ (doing (writing k n y ys) x) (map (tuned f (wake (Taking k a))) cs)
        → Has (symbols (suc k) κ) (doing (wrote n y ys) x) (map (tuned f (took (collect k y a))) cs)
    unfolding symbols collect sda_of
    write_bits zero a n y ys {κ} x cs o =
        let v : Bool = bit_at 0 y in
        subst (Has (symbol κ) (doing (wrote n y ys) x)) (map_by _ _ _ (tuned_bit (symbol κ).now v f _ _ (take_last (symbol κ).now v a)) cs)
        (sends orders asked O o v refl (up_tuned f _ (λ c. refl) cs))
    write_bits (suc k) a n y ys {κ} x cs o =
        let v : Bool = bit_at (suc k) y in
        write_bits k (shifted a v) n y ys x cs
        (subst (Has (symbol κ) (doing (writing k n y ys) x)) (map_by _ _ _ (tuned_bit (symbol κ).now v f _ _ (take_bit (symbol κ).now v k a)) cs)
        (sends orders asked O o v refl (up_tuned f _ (λ c. refl) cs)))

    pub write_ninth : (n y : ℕ) (ys : List ℕ) {κ : Clock} (x : Context) (cs : List Cell) → any_of f cs ≡ true → ((c : Cell) → f (does (takes y) c) ≡ f c)
        → Has κ (doing (wrote n y ys) x) (map (tuned f (took y)) cs)
        → Has (symbol κ) (writes (suc n) ys (marked (written n y true) x)) (map (tuned f (wake (Taking 7 0))) (map (only f (takes y)) cs))
    unfolding sda_of
    write_ninth n y ys {κ} x cs some same o =
        subst (Has (symbol κ) (writes (suc n) ys (marked (written n y true) x)))
        (map_by _ _ _ (tuned_bit (symbol κ).now false f _ _ (took_next (symbol κ).now false y)) cs ∙ sym (map_by _ _ _ (only_tuned f (takes y) same (wake (Taking 7 0))) cs))
        (receives orders asked O o false refl (up_pulled f _ (λ c. refl) cs ∙ ap not some))

    -- a byte read, n before it
    pub read_bits : (k a n : ℕ) (q : Quota) {κ : Clock} (x : Context) (cs : List Cell) → Lone f cs → any_of f cs ≡ true
        → Has κ (doing (reading k n a q) x) (map (tuned f (sending k)) cs)
        → Has (symbols (suc k) κ) (doing (answering n (collect k (value_of f cs) a) q) x) (map (tuned f (wake Asking)) cs)
    unfolding symbols collect
    read_bits zero a n q {κ} x cs lone some o =
        let v : Bool = bit_at 0 (value_of f cs) in
        subst (Has (symbol κ) (doing (answering n (shifted a v) q) x)) (map_by _ _ _ (tuned_bit (symbol κ).now v f _ _ (send_last (symbol κ).now v)) cs)
        (receives orders asked O o v refl (up_sends f 0 cs lone some))
    read_bits (suc k) a n q {κ} x cs lone some o =
        let v : Bool = bit_at (suc k) (value_of f cs) in
        read_bits k (shifted a v) n q x cs lone some
        (subst (Has (symbol κ) (doing (reading k n (shifted a v) q) x)) (map_by _ _ _ (tuned_bit (symbol κ).now v f _ _ (send_bit (symbol κ).now v k)) cs)
        (receives orders asked O o v refl (up_sends f (suc k) cs lone some)))

    -- the last byte gets a 1, or the chip would send on and no STOP could form
    pub read_ninth : (n y : ℕ) (q : Quota) {κ : Clock} (x : Context) (cs : List Cell) → ((c : Cell) → f (does steps c) ≡ f c)
        → Has κ (doing (answering n y q) x) (map (tuned f (wake Asking)) cs)
        → Has (symbol κ) (reads (suc n) q (follow q y) (marked (read_mark q n y) x)) (map (tuned f (went_on (follow q y))) (map (only f steps) cs))
    unfolding sda_of
    read_ninth n y q {κ} x cs same o =
        subst (Has (symbol κ) (reads (suc n) q (follow q y) (marked (read_mark q n y) x)))
        (map_by _ _ _ (tuned_bit (symbol κ).now (eqb (follow q y) 0) f _ _ (ask_next (symbol κ).now (follow q y))) cs
        ∙ sym (map_by _ _ _ (only_tuned f steps same (went_on (follow q y))) cs))
        (sends orders asked O o (eqb (follow q y) 0) refl (up_tuned f _ (λ c. refl) cs))
