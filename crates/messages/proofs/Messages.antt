-- A message after its START, and the messages of a transaction, as the code goes along the list. Assumes nothing.
use Prim.Native.Nat.{ℕ, suc, ◌+◌, ◌-◌, ◌*◌, ◌<◌}
use native.Mathlib.Omega.{arith}
use mathlib.Core.Path.{◌≡◌, ap, ap₂, sym, ◌∙◌}
use mathlib.Core.Bool.{Bool, true, false, not, ◌||◌}
use mathlib.Core.List.{List}
use borrow.Author.Tests.{not-true, not-false}
use lib.ListN.{get_or, set}
use Rattle.kinds.specs.Kinds.{is_write, is_critical, data_of, quota_of}
use Rattle.kinds.specs.declared.Quota.{Quota}
use Rattle.kinds.proofs.KindLaws.{few_follow}
use Rattle.orders.specs.Asking.{Order, put, get, order_of}
use Rattle.orders.specs.Marks.{note}
use Rattle.store.specs.Keeping.{starts}
use Rattle.plain.specs.Clock.{Clock, symbol, symbols}
use Rattle.plain.specs.Plain.{World, listens, does, answered, addressed, message_if, message, messages, carried, writes_all}
use Rattle.plain.specs.Inside.{symbol_most, time_of, Passes, cells_of, Becomes}
use Rattle.plain.specs.declared.Time.{Time}
use Rattle.plain.specs.declared.Call.{Call}
use Rattle.messages.specs.Inside.{byte_most, bytes_most, message_most, world_of, Sound, Comes}
use Rattle.messages.specs.Along.{Few, bytes_at, slot_of, beyond, slots_at}
use Rattle.messages.specs.declared.Run.{Run}
use Rattle.messages.specs.declared.Place.{Place}
use Rattle.messages.proofs.Going.{restarted}

-- a read that asks for n bytes, n a byte, reads at most so many
pub few_read : (kind n : ℕ) (q : Quota) → q ≡ quota_of kind n → n < 256 → Few q
few_read kind n q e h = rw e (record { few = λ x. few_follow kind n x h })

-- the address byte went by: `at` is the run after it, and who listens to the call was decided before

module _ (holds list : List ℕ) (x : Run) (m : List ℕ) (p : Place) (sound : Sound x m) (ninth : Time)
    (gone : Passes holds (symbols 9 (time_of x.time holds)) (x.time.now + symbol_most * 9) ninth) (l : List ℕ) (said : Bool) where
  abbrev at : Run
  at = record { time = ninth; chips = x.chips }

  pub nobody : said ≡ false → Comes holds m l (message_if (slot_of list p) said (world_of x holds m l)) (x.time.now + message_most) at
  unfolding world_of note
  nobody e =
      let soon = gone.soon in
      record {
        is = rw e (ap (λ (c : Clock). record { clock = c; cells = cells_of x.chips.count x.chips.seats m; log = record { area = l } }) gone.is);
        sound = record { fits = sound.fits };
        soon = omega arith;
      }

  module _ (yes : said ≡ true) (l' : List ℕ) (flag : l' ≡ set l p.slot 1) (call : Call) (k n : ℕ)
      (ae : call.address ≡ get_or list p.at 0) (te : call.tick ≡ (symbols 8 (time_of x.time holds)).now) (ke : k ≡ get_or list (p.at + 1) 0) (ne : n ≡ get_or list (p.at + 2) 0) where
    heard_so : world_of at holds m l' ≡ addressed (slot_of list p) true (world_of x holds m l)
    unfolding world_of note
    heard_so =
        ap₂ (λ (c : Clock) (b : List ℕ). record { clock = c; cells = cells_of x.chips.count x.chips.seats m; log = record { area = b } }) gone.is flag

    -- what it is carried to
    carried_so : (o : Order) → o ≡ order_of (slot_of list p).message
        → carried (listens call.address call.tick) p.slot o (world_of at holds m l') ≡ message_if (slot_of list p) said (world_of x holds m l)
    unfolding world_of
    carried_so o oe =
        rw (yes, ae, te, oe) (ap (λ (w : World). carried (listens (get_or list p.at 0) (symbols 8 (time_of x.time holds)).now) p.slot (order_of (slot_of list p).message) w) heard_so)

    pub wrote : (w : Bool) (d : ℕ) (r : Run) (l'' : List ℕ) → w ≡ is_write k → w ≡ true → d ≡ data_of k n → d < 256
        → Comes holds m l'' (writes_all (listens call.address call.tick) p.slot 0 (bytes_at d list (p.at + 3)) (world_of at holds m l')) (ninth.now + byte_most * d) r
        → Comes holds m l'' (message_if (slot_of list p) said (world_of x holds m l)) (x.time.now + message_most) r
    wrote w d r l'' we wt de small c =
        let i : is_write (get_or list (p.at + 1) 0) ≡ true = sym (we ∙ ap is_write ke) ∙ wt in
        let soon = gone.soon in
        let late = c.soon in
        let o : put (bytes_at d list (p.at + 3)) ≡ order_of (slot_of list p).message = rw (i, de, ke, ne) in
        record { is = c.is ∙ carried_so (put (bytes_at d list (p.at + 3))) o; sound = c.sound; soon = omega arith }

    pub did_read : (w : Bool) (q : Quota) (r : Run) (l'' : List ℕ) → w ≡ is_write k → w ≡ false → q ≡ quota_of k n
        → Comes holds m l'' (carried (listens call.address call.tick) p.slot (get q) (world_of at holds m l')) (ninth.now + bytes_most) r
        → Comes holds m l'' (message_if (slot_of list p) said (world_of x holds m l)) (x.time.now + message_most) r
    did_read w q r l'' we wf qe c =
        let i : is_write (get_or list (p.at + 1) 0) ≡ false = sym (we ∙ ap is_write ke) ∙ wf in
        let soon = gone.soon in
        let late = c.soon in
        let o : get q ≡ order_of (slot_of list p).message = rw (i, qe, ke, ne) in
        record { is = c.is ∙ carried_so (get q) o; sound = c.sound; soon = omega arith }

-- the messages of a transaction: those still to come make the world `goal`

module _ (holds m list : List ℕ) where
  abbrev pub Sending : (n : ℕ) → Place → Run → List ℕ → World → Type 0
  Sending n p x l goal = messages (slots_at n list (beyond list p)) (slot_of list p) (world_of x holds m l) ≡ goal

  module _ (n : ℕ) (p : Place) (x : Run) (l : List ℕ) (goal : World) (so_far : Sending n p x l goal) (said : Bool) (answers : (m l : List ℕ) → said ≡ answered (slot_of list p) (world_of x holds m l))
      (r : Run) (l' : List ℕ) (one : world_of r holds m l' ≡ message_if (slot_of list p) said (world_of x holds m l)) where
    this : world_of r holds m l' ≡ message (slot_of list p) (world_of x holds m l)
    this = one ∙ ap (λ (b : Bool). message_if (slot_of list p) b (world_of x holds m l)) (answers m l)

    pub last_one : n ≡ 0 → world_of r holds m l' ≡ goal
    unfolding messages slots_at
    last_one e = this ∙ (rw e at so_far)

    module _ (more : n ≡ 0 → ⊥) (k : ℕ) (ke : k ≡ get_or list (p.at + 1) 0) (g : Bool) (on : g ≡ said || not (is_critical k)) where
      before : n ≡ suc (n - 1)
      before = omega arith

      goes_on_lem : (b : Bool) → g ≡ b → (answered (slot_of list p) (world_of x holds m l) || not (is_critical (get_or list (p.at + 1) 0))) ≡ b
      goes_on_lem b e = ap₂ (λ (c : Bool) (j : ℕ). c || not (is_critical j)) (sym (answers m l)) (sym ke) ∙ sym on ∙ e

      pub given_up : not g ≡ true → world_of r holds m l' ≡ goal
      unfolding messages slots_at
      given_up e = this ∙ (rw (before, goes_on_lem false (not-true g e)) at so_far)

      pub next_one : not g ≡ false → (t : Time) (y : Run) (q : Place) → time_of t holds ≡ symbol (time_of r.time holds) → y.time ≡ t
          → Becomes (does starts) r.chips y.chips → q ≡ beyond list p → Sending (n - 1) q y l' goal
      unfolding messages slots_at
      next_one e t y q te ye steps qe =
          rw (qe, restarted holds r y t ye steps m l' te, this) (rw (before, goes_on_lem true (not-false g e)) at so_far)
