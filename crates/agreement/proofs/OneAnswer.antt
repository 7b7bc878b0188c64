-- What is told of an entry's answer settles the answer: ten refusals have ten numbers, none of them 0, and each end has a name of its own. Assumes nothing.
use Prim.Native.Nat.{ℕ}
use mathlib.Core.Path.{◌≡◌, refl, sym, ap, ◌∙◌}
use lib.Dec.{eqb}
use Rattle.std.specs.Prelude.{cond, Result, Ok, Err}
use Rattle.lent.specs.Refusals.{Answer, number_of, answer_of}
use Rattle.lent.specs.declared.Refusal.{Refusal}
use Rattle.lent.specs.declared.Refusal.TheVariants.{ListTooLong, ListBroken, LentLengths, StateOutOfRange, HoldTooLong, BusyTooLong, AreaTooSmall, SampleOutOfRange, DrivesTooShort, NoSuchStrap}
use Rattle.controller.specs.Alone.{End, Told, end_told, told_of}
use Rattle.controller.specs.declared.End.{End as EndOfRun}
use Rattle.controller.specs.declared.End.TheVariants.{ListEnd as list_end, Faulted as faulted, RecordEnd as record_end}
use Rattle.controller.specs.declared.Told.{Told as ToldOfRun}

refusal_at : ℕ → Refusal
refusal_at n = cond (eqb n 1) ListTooLong (cond (eqb n 2) ListBroken (cond (eqb n 3) LentLengths (cond (eqb n 4) StateOutOfRange (cond (eqb n 5) HoldTooLong
    (cond (eqb n 6) BusyTooLong (cond (eqb n 7) AreaTooSmall (cond (eqb n 8) SampleOutOfRange (cond (eqb n 9) DrivesTooShort NoSuchStrap))))))))

-- the answer with this number, and with this value if it is accepted
at_number : {A : Type 0} → ℕ → A → Result A Refusal
at_number n x = cond (eqb n 0) (Ok x) (Err (refusal_at n))

refused_again : {A : Type 0} (r : Refusal) (x : A) → at_number (number_of r) x ≡ Err r
unfolding at_number refusal_at
refused_again ListTooLong x = refl
refused_again ListBroken x = refl
refused_again LentLengths x = refl
refused_again StateOutOfRange x = refl
refused_again HoldTooLong x = refl
refused_again BusyTooLong x = refl
refused_again AreaTooSmall x = refl
refused_again SampleOutOfRange x = refl
refused_again DrivesTooShort x = refl
refused_again NoSuchStrap x = refl

-- the whole-bus run, the plain reading and one chip alone
answer_back : Answer → Result ℕ Refusal
answer_back a = at_number a.number a.ticks

answer_again : (x : Result ℕ Refusal) → answer_back (answer_of x) ≡ x
unfolding answer_back at_number
answer_again (Ok n) = refl
answer_again (Err r) = refused_again r 0

pub one_answer : (x y : Result ℕ Refusal) → answer_of x ≡ answer_of y → x ≡ y
one_answer x y h = sym (answer_again x) ∙ ap answer_back h ∙ answer_again y

-- the controller alone; a refusal has no end, and any will do
end_back : End → EndOfRun
end_back End.Refused = list_end
end_back End.ListEnd = list_end
end_back (End.Faulted f) = faulted f
end_back End.RecordEnd = record_end

end_again : (e : EndOfRun) → end_back (end_told e) ≡ e
unfolding end_back
end_again list_end = refl
end_again (faulted f) = refl
end_again record_end = refl

told_back : Told → Result ToldOfRun Refusal
told_back a = at_number a.number (record { end = end_back a.end; ticks = a.ticks })

told_again : (x : Result ToldOfRun Refusal) → told_back (told_of x) ≡ x
unfolding told_back at_number
told_again (Ok t) = ap (λ (e : EndOfRun). Ok (record { end = e; ticks = t.ticks })) (end_again t.end)
told_again (Err r) = refused_again r (record { end = end_back End.Refused; ticks = 0 })

pub one_told : (x y : Result ToldOfRun Refusal) → told_of x ≡ told_of y → x ≡ y
one_told x y h = sym (told_again x) ∙ ap told_back h ∙ told_again y
