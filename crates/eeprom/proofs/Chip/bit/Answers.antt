-- The bits that are not the last of their eight. Assumes nothing.
use Rattle.std.proofs.Common.{rules, ℕ, refl}
use Rattle.eeprom.specs.declared.Stage.TheVariants.{Naming, Taking, Sending}
use Rattle.eeprom.proofs.Hears.{counts_on}
use Rattle.eeprom.proofs.Chip.bit.Goals as goal

pub returns-in-Naming : goal.returns-in-Naming
returns-in-Naming c =
    counts_on _ _ _ _ _ (λ (k : ℕ). Naming k c.in-Naming.x) (λ (k : ℕ). Naming k c.shifted-in-Naming.result) _ (λ k d. rw c.shifted-in-Naming.ensures)
    c.in-Naming.is (search rules) c.at-in-Naming.ensures

pub returns-in-Taking : goal.returns-in-Taking
returns-in-Taking c =
    counts_on _ _ _ _ _ (λ (k : ℕ). Taking k c.in-Taking.x) (λ (k : ℕ). Taking k c.shifted-in-Taking.result) _ (λ k d. rw c.shifted-in-Taking.ensures)
    c.in-Taking.is (search rules) c.at-in-Taking.ensures

pub returns-in-Sending : goal.returns-in-Sending
returns-in-Sending c =
    counts_on _ _ _ _ _ (λ (k : ℕ). Sending k c.in-Sending.x) (λ (k : ℕ). Sending k c.in-Sending.x) _ (λ k d. refl)
    c.in-Sending.is (search rules) c.at-in-Sending.ensures
