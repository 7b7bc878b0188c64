-- The clock holder by a place in its list: a clocked symbol that begins takes the next byte, and past the list's end 0; in every other tick one held tick
-- less is left. docs/MAP.md names these laws. Assumes nothing.
use Rattle.std.proofs.Common.{ℕ, suc, ◌+◌, ◌-◌, ◌≤◌, ◌<◌, ◌≡◌, Bool, true, false, List, length, get_or, drop, drop-cons, add-one, ap, arith}
use lib.ListN.{drop_of_length-le}
use Rattle.wires.specs.Holding.{hold_tick}
use Rattle.wires.specs.Inside.{holding_of}
use Rattle.wires.specs.declared.Holder.{Holder}

module _ (h : Holder) (holds : List ℕ) (past seen : Bool) where
  -- no symbol begins
  pub stays_high : (n : ℕ) → past ≡ true → seen ≡ true → n ≡ h.left - 1
      → holding_of (record { left = n; next = h.next }) holds ≡ hold_tick past seen (holding_of h holds)
  stays_high n p q e = rw (p, q, e)

  pub rises : (n : ℕ) → past ≡ false → seen ≡ true → n ≡ h.left - 1
      → holding_of (record { left = n; next = h.next }) holds ≡ hold_tick past seen (holding_of h holds)
  rises n p q e = rw (p, q, e)

  pub stays_low : (n : ℕ) → past ≡ false → seen ≡ false → n ≡ h.left - 1
      → holding_of (record { left = n; next = h.next }) holds ≡ hold_tick past seen (holding_of h holds)
  stays_low n p q e = rw (p, q, e)

  -- a clocked symbol begins, with a byte of its own or past the list's end
  pub falls : past ≡ true → seen ≡ false → h.next < length holds
      → holding_of (record { left = 1 + get_or holds h.next 0; next = h.next + 1 }) holds ≡ hold_tick past seen (holding_of h holds)
  falls p q l = rw (p, q, drop-cons holds h.next 0 l, add-one h.next) (ap (λ (n : ℕ). record { left = n; list = drop (suc h.next) holds }) (omega arith))

  pub falls_late : past ≡ true → seen ≡ false → length holds ≤ h.next
      → holding_of (record { left = 1; next = h.next }) holds ≡ hold_tick past seen (holding_of h holds)
  falls_late p q l = rw (p, q, drop_of_length-le holds l)
