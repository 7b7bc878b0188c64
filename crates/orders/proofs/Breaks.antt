-- Where a list breaks the form, and by which rule: the examples of reading 33 and of the bench sheet, computed. Assumes nothing.
use Prim.Native.Nat.{ℕ}
use mathlib.Core.Path.{◌≡◌, refl}
use mathlib.Core.List.{List, [], ◌∷◌, map}
use Rattle.kinds.specs.Kinds.{most_bytes, most_messages, most_length, is_write, kind_right, address_right, count_right, length_right, data_of, asked_of}
use Rattle.orders.specs.Form.{breaks, message_at, parse, parsed}
use Rattle.orders.specs.Results.{slots_of_all, area_of, check_of}
use Rattle.orders.specs.declared.Rule.TheVariants.{CutShort, Count, Address, Kind, Length}
use Rattle.orders.specs.declared.ListError.{ListError}
use Rattle.orders.specs.declared.ListError.TheVariants.{Broken}
use Rattle.std.proofs.Common.{Result, Ok, Err}

lists : List (List ℕ)
lists =
    []
    ∷ (9 ∷ [])
    ∷ (1 ∷ 0 ∷ [])
    ∷ (1 ∷ 0 ∷ 0 ∷ 0x80 ∷ [])
    ∷ (1 ∷ 0 ∷ 0 ∷ 0x50 ∷ [])
    ∷ (1 ∷ 0 ∷ 0 ∷ 0x50 ∷ 4 ∷ [])
    ∷ (1 ∷ 0 ∷ 0 ∷ 0x50 ∷ 1 ∷ 0 ∷ [])
    ∷ (1 ∷ 0 ∷ 0 ∷ 0x50 ∷ 1 ∷ 65 ∷ [])
    ∷ (1 ∷ 0 ∷ 0 ∷ 0x50 ∷ 1 ∷ 64 ∷ [])
    ∷ (1 ∷ 0 ∷ 0 ∷ 0x50 ∷ 0 ∷ 2 ∷ 7 ∷ [])
    ∷ (2 ∷ 0 ∷ 0 ∷ 0x50 ∷ 0 ∷ 0 ∷ [])
    ∷ (1 ∷ 0 ∷ 0 ∷ 0x50 ∷ 0 ∷ 0 ∷ 0 ∷ [])
    ∷ []

answers : List (Result ℕ ListError)
answers =
    Ok 0
    ∷ Err (Broken (breaks 0 Count))
    ∷ Err (Broken (breaks 2 CutShort))
    ∷ Err (Broken (breaks 3 Address))
    ∷ Err (Broken (breaks 4 CutShort))
    ∷ Err (Broken (breaks 4 Kind))
    ∷ Err (Broken (breaks 5 Length))
    ∷ Err (Broken (breaks 5 Length))
    ∷ Ok 67
    ∷ Err (Broken (breaks 7 CutShort))
    ∷ Err (Broken (breaks 6 CutShort))
    ∷ Err (Broken (breaks 6 Count))
    ∷ []

examples : map check_of lists ≡ answers
unfolding lists answers most_bytes most_messages most_length is_write kind_right address_right count_right length_right data_of asked_of message_at parse parsed slots_of_all area_of check_of
examples = refl
