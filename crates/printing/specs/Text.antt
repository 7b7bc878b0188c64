-- What the programs print, as text.
use Rattle.std.specs.Prelude.{ℕ, ◌/◌, ◌%◌, false, flat_map, List, [], ◌∷◌, ◌++◌, Result}
use Rattle.std.specs.Fmt.{digit_glyph, decimal}
use Rattle.lent.specs.declared.Refusal.{Refusal}
use Rattle.lent.specs.Refusals.{answer_of}

-- a byte as two digits, the high four bits first, with lower case letters
abbrev pub byte_text : ℕ → List ℕ
byte_text x = digit_glyph false (x / 16) ∷ digit_glyph false (x % 16) ∷ []

abbrev pub hex_text : List ℕ → List ℕ
hex_text bytes = flat_map byte_text bytes

-- the number and the ticks of an answer, with a blank between
abbrev pub outcome_text : Result ℕ Refusal → List ℕ
outcome_text r = decimal (answer_of r).number ++ 32 ∷ decimal (answer_of r).ticks
