-- From bytes to a message: on the wires it is the plain message, and at its end every chip lets go of SDA and stands between two bytes. Assumes nothing.
use Prim.Native.Nat.{ℕ, zero, suc, ◌+◌, ◌*◌, ◌/◌, ◌%◌, ◌<◌}
use mathlib.Core.Path.{◌≡◌, refl, ap, ap₂, ◌∙◌, subst}
use mathlib.Core.Bool.{Bool, true, false, not, cond}
use mathlib.Core.List.{List, [], ◌∷◌, map}
use native.Mathlib.Omega.{arith}
use lib.Dec.{eqb}
use Rattle.kinds.specs.Kinds.{is_write, follow, remain, quota_of}
use Rattle.kinds.specs.declared.Quota.{Quota}
use Rattle.orders.specs.Form.{Message}
use Rattle.orders.specs.Asking.{put, get, address_byte}
use Rattle.orders.specs.Marks.{heard, written, read_mark}
use Rattle.controller.specs.Plan.{Context, State, addressing, addressed, writing, wrote, reading, answering, logged, marked, go_on, refused, writes, reads, carries, step, orders, does as doing}
use Rattle.store.specs.Keeping.{takes, steps}
use Rattle.eeprom.specs.Stages.{sda_of}
use Rattle.eeprom.specs.declared.Stage.TheVariants.{Deaf, Naming, Taking, Asking}
use Rattle.plain.specs.Clock.{Clock, symbol, symbols}
use Rattle.plain.specs.Plain.{Cell, World, listens, any_of, does, only, value_of, writes_all, reads_all, carried, answered, message_if, message}
use Rattle.agreement.specs.Inputs.{Bytes}
use Rattle.agreement.specs.Between.{between}
use Rattle.agreement.proofs.Time.{Timed, up}
use Rattle.agreement.proofs.Interface.{Watch}
use Rattle.agreement.proofs.Bits.{whole}
use Rattle.agreement.proofs.Tuned.{wake, tuned, up_tuned, up_none, Lone, sending, any_only}
use Rattle.agreement.proofs.Bytes.{named_by, begun, took, went_on, Has, address_bits, address_ninth, write_bits, write_ninth, read_bits, read_ninth}
use Rattle.agreement.proofs.Good.{Good, lone, value_small, tame_takes, tame_steps, good_only, listens_same}
use Rattle.agreement.proofs.Quotas.{follow_remain}

-- the chip without its stage
abbrev pub cell_in : Timed → Cell
cell_in z = record { kept = z.core.kept; free = z.free }

-- every chip stands between two bytes
abbrev pub Even : List Timed → Type 0
Even [] = Unit {0}
Even (z ∷ zs) = (between z.core.stage ≡ true) × Even zs

module _ (f : Cell → Bool) (s : Cell → Timed) where
  cells_tuned : ((c : Cell) → cell_in (s c) ≡ c) → (cs : List Cell) → map cell_in (map (tuned f s) cs) ≡ cs
  cells_tuned e [] = refl
  cells_tuned e (c ∷ cs) = ap₂ (λ x xs. x ∷ xs) (go (f c)) (cells_tuned e cs)
    where
      go : (q : Bool) → cell_in (cond q (s c) (wake Deaf c)) ≡ c
      go true = e c
      go false = refl

  even_tuned : ((c : Cell) → between (s c).core.stage ≡ true) → (cs : List Cell) → Even (map (tuned f s) cs)
  even_tuned e [] = tt
  even_tuned e (c ∷ cs) = (go (f c), even_tuned e cs)
    where
      go : (q : Bool) → between (cond q (s c) (wake Deaf c)).core.stage ≡ true
      go true = e c
      go false = refl

-- what the agreement asks of a message
pub record Sendable (m : Message) : Type 0 where
  pub address : m.address < 128
  pub sent : Bytes m.sent

-- a write has its lowest bit 0, a read 1
half : (q : Bool) (n : ℕ) → (n * 2 + cond q 0 1) / 2 ≡ n
half true n = omega arith
half false n = omega arith

odd : (q : Bool) (n : ℕ) → eqb ((n * 2 + cond q 0 1) % 2) 1 ≡ not q
odd true n = ap (λ (m : ℕ). eqb m 1) (go n)
  where
    go : (n : ℕ) → (n * 2 + 0) % 2 ≡ 0
    go n = omega arith
odd false n = ap (λ (m : ℕ). eqb m 1) (go n)
  where
    go : (n : ℕ) → (n * 2 + 1) % 2 ≡ 1
    go n = omega arith

small : (q : Bool) (n : ℕ) → n < 128 → n * 2 + cond q 0 1 < 256
small true n h = omega arith
small false n h = omega arith

-- the address was answered or not
abbrev pub finishes : Bool → Context → State
finishes true x = go_on x.todo x
finishes false x = refused x

nine : (κ : Clock) → symbol (symbols 8 κ) ≡ symbols 9 κ
unfolding symbols
nine κ = refl

module _ (asked : ℕ) (O : Watch orders asked) where
  -- a message is over: what comes next, and the chips without their stages
  pub record Done (κ : Clock) (d : State) (cs : List Cell) : Type 0 where
    pub zs : List Timed
    pub on : Has asked O κ d zs
    pub is : map cell_in zs ≡ cs
    pub up : up zs ≡ true
    pub even : Even zs

  -- whole bytes
  write_byte : (f : Cell → Bool) (n y : ℕ) (ys : List ℕ) {κ : Clock} (x : Context) (cs : List Cell) → y < 256 → any_of f cs ≡ true
      → ((c : Cell) → f (does (takes y) c) ≡ f c) → Has asked O κ (doing (writing 7 n y ys) x) (map (tuned f (wake (Taking 7 0))) cs)
      → Has asked O (symbols 9 κ) (writes (suc n) ys (marked (written n y true) x)) (map (tuned f (wake (Taking 7 0))) (map (only f (takes y)) cs))
  write_byte f n y ys {κ} x cs h some same o =
      rw (← (nine κ))
      (write_ninth asked O f n y ys x cs some same
      (subst (λ (v : ℕ). Has asked O (symbols 8 κ) (doing (wrote n y ys) x) (map (tuned f (took v)) cs)) (whole y h) (write_bits asked O f 7 0 n y ys x cs o)))

  read_byte : (f : Cell → Bool) (n : ℕ) (q : Quota) {κ : Clock} (x : Context) (cs : List Cell) → Lone f cs → any_of f cs ≡ true → value_of f cs < 256
      → ((c : Cell) → f (does steps c) ≡ f c) → Has asked O κ (doing (reading 7 n 0 q) x) (map (tuned f (sending 7)) cs)
      → Has asked O (symbols 9 κ) (reads (suc n) q (follow q (value_of f cs)) (marked (read_mark q n (value_of f cs)) x))
      (map (tuned f (went_on (follow q (value_of f cs)))) (map (only f steps) cs))
  read_byte f n q {κ} x cs single some h same o =
      rw (← (nine κ))
      (read_ninth asked O f n (value_of f cs) q x cs same
      (subst (λ (v : ℕ). Has asked O (symbols 8 κ) (doing (answering n v q) x) (map (tuned f (wake Asking)) cs)) (whole (value_of f cs) h)
      (read_bits asked O f 7 0 n q x cs single some o)))

  -- the bytes of a message, to the chips that listen to a at tick t
  module _ (a t : ℕ) where
    writing_all : (n : ℕ) (ys : List ℕ) {κ : Clock} (x : Context) (cs : List Cell) → Bytes ys → any_of (listens a t) cs ≡ true
        → Has asked O κ (writes n ys x) (map (tuned (listens a t) (wake (Taking 7 0))) cs)
        → let w = writes_all (listens a t) x.now.slot n ys (record { clock = κ; cells = cs; log = x.log }) in
        Done w.clock (go_on x.todo (logged w.log x)) w.cells
    unfolding writes_all sda_of
    writing_all n [] x cs h some o =
        record {
          zs = _;
          on = o;
          is = cells_tuned (listens a t) _ (λ c. refl) cs;
          up = up_tuned (listens a t) _ (λ c. refl) cs;
          even = even_tuned (listens a t) _ (λ c. refl) cs;
        }
    writing_all n (y ∷ ys) x cs h some o =
        writing_all (suc n) ys (marked (written n y true) x) (map (only (listens a t) (takes y)) cs) h.1
        (any_only (listens a t) (takes y) (listens_same (tame_takes y) a t) cs ∙ some)
        (write_byte (listens a t) n y ys x cs h.0 some (listens_same (tame_takes y) a t) o)

    reading_one : (n : ℕ) (q : Quota) {κ : Clock} (x : Context) (cs : List Cell) → Good cs → any_of (listens a t) cs ≡ true
        → let v = value_of (listens a t) cs in
        Has asked O κ (doing (reading 7 n 0 q) x) (map (tuned (listens a t) (sending 7)) cs)
        → Has asked O (symbols 9 κ) (reads (suc n) q (follow q v) (marked (read_mark q n v) x))
        (map (tuned (listens a t) (went_on (follow q v))) (map (only (listens a t) steps) cs))
    reading_one n q x cs g some o =
        read_byte (listens a t) n q x cs (lone a t cs g.distinct) some (value_small (listens a t) cs g.filled) (listens_same tame_steps a t) o

    -- m more bytes of a read, after n of them
    reading_all : (n : ℕ) (q : Quota) (m : ℕ) {κ : Clock} (x : Context) (cs : List Cell) → Good cs → any_of (listens a t) cs ≡ true
        → Has asked O κ (reads n q m x) (map (tuned (listens a t) (went_on m)) cs)
        → let w = reads_all (listens a t) x.now.slot n q m (record { clock = κ; cells = cs; log = x.log }) in
        Done w.clock (go_on x.todo (logged w.log x)) w.cells
    unfolding reads_all sda_of
    reading_all n q zero x cs g some o =
        record {
          zs = _;
          on = o;
          is = cells_tuned (listens a t) (wake Deaf) (λ c. refl) cs;
          up = up_tuned (listens a t) (wake Deaf) (λ c. refl) cs;
          even = even_tuned (listens a t) (wake Deaf) (λ c. refl) cs;
        }
    reading_all n q (suc m) {κ} x cs g some o =
        let v : ℕ = value_of (listens a t) cs in
        let r : Quota = remain q m in
        reading_all (suc n) r m (marked (read_mark r n v) x) (map (only (listens a t) steps) cs) (good_only tame_steps (listens a t) cs g)
        (any_only (listens a t) steps (listens_same tame_steps a t) cs ∙ some)
        (subst (λ (i : ℕ). Has asked O (symbols 9 κ) (reads (suc n) r i (marked (read_mark r n v) x)) (map (tuned (listens a t) (went_on i)) (map (only (listens a t) steps) cs)))
        (follow_remain q m v) (reading_one n r x cs g some o))

    -- a write or a read
    carrying : (q : Bool) (ys : List ℕ) (k : Quota) {κ : Clock} (x : Context) (cs : List Cell) → Bytes ys → Good cs → any_of (listens a t) cs ≡ true
        → Has asked O κ (carries (cond q (put ys) (get k)) x) (map (tuned (listens a t) (begun (not q))) cs)
        → let w = carried (listens a t) x.now.slot (cond q (put ys) (get k)) (record { clock = κ; cells = cs; log = x.log }) in
        Done w.clock (go_on x.todo (logged w.log x)) w.cells
    carrying true ys k x cs h g some o = writing_all 0 ys x cs h some o
    carrying false ys k x cs h g some o =
        let v : ℕ = value_of (listens a t) cs in
        reading_all 1 k (follow k v) (marked (read_mark k 0 v) x) (map (only (listens a t) steps) cs) (good_only tame_steps (listens a t) cs g)
        (any_only (listens a t) steps (listens_same tame_steps a t) cs ∙ some) (reading_one 0 k x cs g some o)

  -- the address byte
  addressing_goes : {κ : Clock} (x : Context) (cs : List Cell) → x.now.message.address < 128
      → Has asked O κ (doing (addressing 7) x) (map (wake (Naming 7 0)) cs)
      → let f = listens x.now.message.address (symbols 8 κ).now in
      Has asked O (symbols 9 κ) (step addressed (not (any_of f cs)) x) (map (tuned f (begun (not (is_write x.now.message.kind)))) cs)
  addressing_goes {κ} x cs h o =
      let t : ℕ = (symbols 8 κ).now in
      let m : Message = x.now.message in
      let y : ℕ = address_byte m in
      subst (λ (r : Bool). Has asked O (symbols 9 κ) (step addressed (not (any_of (listens m.address t) cs)) x) (map (tuned (listens m.address t) (begun r)) cs))
      (odd (is_write m.kind) m.address)
      (subst (λ (n : ℕ). Has asked O (symbols 9 κ) (step addressed (not (any_of (listens n t) cs)) x) (map (tuned (listens n t) (begun (eqb (y % 2) 1))) cs))
      (half (is_write m.kind) m.address)
      (rw (← (nine κ))
      (address_ninth asked O y t x cs
      (subst (λ (v : ℕ). Has asked O (symbols 8 κ) (doing addressed x) (map (named_by v t) cs)) (whole y (small (is_write m.kind) m.address h))
      (address_bits asked O 7 0 x cs o)))))

  pub message_goes : {κ : Clock} (x : Context) (cs : List Cell) → Sendable x.now.message → Good cs
      → Has asked O κ (doing (addressing 7) x) (map (wake (Naming 7 0)) cs)
      → let v : World = record { clock = κ; cells = cs; log = x.log } in
      let w = message x.now v in Done w.clock (finishes (answered x.now v) (logged w.log x)) w.cells
  message_goes {κ} x cs k g o = go (any_of f cs) refl (addressing_goes x cs k.address o)
    where
      f : Cell → Bool
      f = listens x.now.message.address (symbols 8 κ).now

      r : Bool
      r = not (is_write x.now.message.kind)

      same : (r : Bool) (c : Cell) → cell_in (begun r c) ≡ c
      same true c = refl
      same false c = refl

      fine : (r : Bool) (c : Cell) → between (begun r c).core.stage ≡ true
      fine true c = refl
      fine false c = refl

      go : (q : Bool) → any_of f cs ≡ q → Has asked O (symbols 9 κ) (step addressed (not q) x) (map (tuned f (begun r)) cs)
          → let w = message_if x.now q (record { clock = κ; cells = cs; log = x.log }) in Done w.clock (finishes q (logged w.log x)) w.cells
      go true e p =
          carrying x.now.message.address (symbols 8 κ).now (is_write x.now.message.kind) x.now.message.sent
          (quota_of x.now.message.kind x.now.message.asked) (marked (heard (address_byte x.now.message) true) x) cs k.sent g e p
      go false e p =
          record { zs = _; on = p; is = cells_tuned f (begun r) (same r) cs; up = up_none f _ cs e; even = even_tuned f _ (fine r) cs }
