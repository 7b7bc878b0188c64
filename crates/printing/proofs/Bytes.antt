-- One byte more is two digits more. Assumes nothing.
use Rattle.std.proofs.Common.{◌≡◌, ◌∙◌, sym, ap, ℕ, ◌<◌, ◌+◌, ◌-◌, ◌^◌, false, List, [], ◌++◌, length, take, get_or}
use Rattle.std.specs.Fmt.{padded_integral, format_spec, digits}
use Rattle.std.proofs.lemmas.List.{take_more, flat_map_more}
use Rattle.std.proofs.lemmas.Fmt.{hex_byte}
use Rattle.printing.specs.Text.{byte_text, hex_text}

pub one_more : (xs : List ℕ) (i : ℕ) → i < length xs → get_or xs i 0 < 256
    → hex_text (take i xs) ++ padded_integral (format_spec 32 0 4 2 (2 ^ 64 - 1)) false [] (digits 16 false (get_or xs i 0)) ≡ hex_text (take (i + 1) xs)
one_more xs i within small =
    ap (λ (t : List ℕ). hex_text (take i xs) ++ t) (hex_byte false (get_or xs i 0) small)
    ∙ flat_map_more byte_text [] (take i xs) (get_or xs i 0)
    ∙ ap hex_text (sym (take_more xs i 0 within))
