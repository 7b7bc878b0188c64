-- What an entry that says `check(list)?` gives back: the number of its refusal is the list's own. Assumes nothing.
use Rattle.std.proofs.Common.{◌≡◌, refl, ℕ, Result, Ok, Err}
use Rattle.lent.specs.declared.Refusal.{Refusal}
use Rattle.lent.specs.Refusals.{number_of}
use Rattle.orders.specs.declared.ListError.{ListError}
use Rattle.orders.specs.declared.ListError.TheVariants.{TooLong, Broken}
use Rattle.orders.specs.Results.{refusal_of, list_number, room_of}

pub refusal_number : (e : ListError) → number_of (refusal_of e) ≡ list_number (Err e)
refusal_number TooLong = refl
refusal_number (Broken b) = refl

module _ (c : Result ℕ ListError) where
  pub turned_down : (e : ListError) (r : Refusal) → c ≡ Err e → r ≡ refusal_of e → number_of r ≡ list_number c
  turned_down e r ce re = rw (ce, re) (refusal_number e)

  pub goes_through : (n : ℕ) → c ≡ Ok n → list_number c ≡ 0
  goes_through n e = rw e

  pub room_given : (n : ℕ) → c ≡ Ok n → room_of c ≡ n
  room_given n e = rw e
