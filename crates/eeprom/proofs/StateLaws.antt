-- The four bytes of a chip's state, put one after another. Assumes nothing.
use Rattle.std.proofs.Common.{◌≡◌, ℕ, ◌/◌, ◌%◌, List, [], ◌∷◌, get_or, set, sym, ◌∙◌}
use Rattle.lent.specs.Areas.{over}
use Rattle.lent.proofs.Rows.{one_byte, all_bytes, from_front}
use Rattle.eeprom.specs.States.{word_bytes}

pub state_put : (p b : ℕ) (ps bs s s₁ s₂ s₃ s₄ : List ℕ) → ps ≡ p % 256 ∷ p / 256 % 256 ∷ [] → bs ≡ b % 256 ∷ b / 256 % 256 ∷ []
    → s₁ ≡ set s 0 (get_or ps 0 0) → s₂ ≡ set s₁ 1 (get_or ps 1 0) → s₃ ≡ set s₂ 2 (get_or bs 0 0) → s₄ ≡ set s₃ 3 (get_or bs 1 0)
    → s₄ ≡ over (word_bytes p (word_bytes b [])) s
state_put p b ps bs s s₁ s₂ s₃ s₄ u v e₁ e₂ e₃ e₄ =
    rw (e₄, e₃, e₂, e₁, u, v) (four (p % 256) (p / 256 % 256) (b % 256) (b / 256 % 256) s)
  where
    four : (a b c d : ℕ) (s : List ℕ) → set (set (set (set s 0 a) 1 b) 2 c) 3 d ≡ over (a ∷ b ∷ c ∷ d ∷ []) s
    four a b c d s =
        sym (all_bytes 4 _)
        ∙ one_byte 3 d [] _
        ∙ one_byte 2 c _ _
        ∙ one_byte 1 b _ _
        ∙ one_byte 0 a _ s
        ∙ from_front _ s
