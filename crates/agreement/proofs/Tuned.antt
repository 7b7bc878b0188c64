-- The chips of the plain reading on the wires: those that a test picks stand in a stage of their own, the others are deaf. There is no search for "the"
-- chip, and no case analysis on stages. Assumes nothing.
use Prim.Native.Nat.{ℕ}
use mathlib.Core.Path.{◌≡◌, refl, ap, ap₂, ◌∙◌}
use mathlib.Core.Bool.{Bool, true, false, ◌&&◌, ◌||◌, not, cond, true≢false, false≢true, and-true}
use mathlib.Core.List.{List, [], ◌∷◌, map}
use Rattle.lines.specs.Levels.{bit_at}
use Rattle.lines.specs.declared.Event.TheVariants.{Bit}
use Rattle.store.specs.Keeping.{Kept, byte_now}
use Rattle.eeprom.specs.Stages.{hears, sda_of}
use Rattle.eeprom.specs.declared.Stage.{Stage}
use Rattle.eeprom.specs.declared.Stage.TheVariants.{Deaf, Sending}
use Rattle.plain.specs.Plain.{Cell, any_of, does, only, value_of}
use Rattle.agreement.proofs.Time.{Timed, hears_at, up}

abbrev pub wake : Stage → Cell → Timed
wake s c = record { core = record { stage = s; kept = c.kept }; free = c.free }

abbrev pub tuned : (Cell → Bool) → (Cell → Timed) → Cell → Timed
tuned f s c = cond (f c) (s c) (wake Deaf c)

pub up_wake : (s : Stage) → sda_of s ≡ true → (cs : List Cell) → up (map (wake s) cs) ≡ true
unfolding up
up_wake s e [] = refl
up_wake s e (c ∷ cs) = rw e (up_wake s e cs)

cond_of : {A B : Type 0} (g : A → B) (q : Bool) (x y : A) → g (cond q x y) ≡ cond q (g x) (g y)
cond_of g true x y = refl
cond_of g false x y = refl

deaf_bit : (t : ℕ) (v : Bool) (c : Cell) → hears_at t (Bit v) (wake Deaf c) ≡ wake Deaf c
unfolding hears
deaf_bit t v c = refl

-- a bit moves those that are picked
pub tuned_bit : (t : ℕ) (v : Bool) (f : Cell → Bool) (s r : Cell → Timed) → ((c : Cell) → hears_at t (Bit v) (s c) ≡ r c)
    → (c : Cell) → hears_at t (Bit v) (tuned f s c) ≡ tuned f r c
tuned_bit t v f s r p c = cond_of (hears_at t (Bit v)) (f c) (s c) (wake Deaf c) ∙ ap₂ (cond (f c)) (p c) (deaf_bit t v c)

-- what the chips drive
module _ (f : Cell → Bool) (s : Cell → Timed) where
  pub up_tuned : ((c : Cell) → sda_of (s c).core.stage ≡ true) → (cs : List Cell) → up (map (tuned f s) cs) ≡ true
  unfolding up sda_of
  up_tuned e [] = refl
  up_tuned e (c ∷ cs) = go (f c) (up_tuned e cs)
    where
      go : (q : Bool) → up (map (tuned f s) cs) ≡ true → sda_of (cond q (s c) (wake Deaf c)).core.stage && up (map (tuned f s) cs) ≡ true
      go true r = rw (e c) r
      go false r = r

  -- a pull of those that are picked is seen if there are any
  pub up_pulled : ((c : Cell) → sda_of (s c).core.stage ≡ false) → (cs : List Cell) → up (map (tuned f s) cs) ≡ not (any_of f cs)
  unfolding up sda_of
  up_pulled e [] = refl
  up_pulled e (c ∷ cs) = go (f c) (up_pulled e cs)
    where
      go : (q : Bool) → up (map (tuned f s) cs) ≡ not (any_of f cs)
          → sda_of (cond q (s c) (wake Deaf c)).core.stage && up (map (tuned f s) cs) ≡ not (q || any_of f cs)
      go true r = rw (e c)
      go false r = r

  pub up_none : (cs : List Cell) → any_of f cs ≡ false → up (map (tuned f s) cs) ≡ true
  unfolding up sda_of
  up_none [] n = refl
  up_none (c ∷ cs) n = go (f c) n (up_none cs)
    where
      go : (q : Bool) → q || any_of f cs ≡ false → (any_of f cs ≡ false → up (map (tuned f s) cs) ≡ true)
          → sda_of (cond q (s c) (wake Deaf c)).core.stage && up (map (tuned f s) cs) ≡ true
      go true n r = absurd (true≢false n)
      go false n r = r n

-- at most one chip is picked
abbrev pub Lone : (Cell → Bool) → List Cell → Type 0
Lone f [] = Unit {0}
Lone f (c ∷ cs) = (f c ≡ true → any_of f cs ≡ false) × Lone f cs

-- the chip sends bit k of the byte at its pointer
abbrev pub sending : ℕ → Cell → Timed
sending k c = wake (Sending k (byte_now c.kept)) c

-- two chips that sent at once would give the AND of their bytes: the one place where addresses have to be distinct
pub up_sends : (f : Cell → Bool) (k : ℕ) (cs : List Cell) → Lone f cs → any_of f cs ≡ true → up (map (tuned f (sending k)) cs) ≡ bit_at k (value_of f cs)
unfolding up sda_of
up_sends f k [] l n = absurd (false≢true n)
up_sends f k (c ∷ cs) l n = go (f c) l.0 n (up_sends f k cs l.1)
  where
    go : (q : Bool) → (q ≡ true → any_of f cs ≡ false) → q || any_of f cs ≡ true → (any_of f cs ≡ true → up (map (tuned f (sending k)) cs) ≡ bit_at k (value_of f cs))
        → sda_of (cond q (sending k c) (wake Deaf c)).core.stage && up (map (tuned f (sending k)) cs) ≡ bit_at k (cond q (byte_now c.kept) (value_of f cs))
    go true a n r = rw (up_none f (sending k) cs (a refl), and-true (bit_at k (byte_now c.kept)))
    go false a n r = r n

-- a move of those that are picked which does not change who is picked
module _ (f : Cell → Bool) (g : Kept → Kept) (same : (c : Cell) → f (does g c) ≡ f c) where
  only_same : (c : Cell) → f (only f g c) ≡ f c
  only_same c = go (f c)
    where
      go : (q : Bool) → f (cond q (does g c) c) ≡ f c
      go true = same c
      go false = refl

  pub only_tuned : (s : Cell → Timed) (c : Cell) → tuned f s (only f g c) ≡ tuned f (λ x. s (does g x)) c
  only_tuned s c = ap (λ q. cond q (s (only f g c)) (wake Deaf (only f g c))) (only_same c) ∙ go (f c)
    where
      go : (q : Bool) → cond q (s (cond q (does g c) c)) (wake Deaf (cond q (does g c) c)) ≡ cond q (s (does g c)) (wake Deaf c)
      go true = refl
      go false = refl

  pub any_only : (cs : List Cell) → any_of f (map (only f g) cs) ≡ any_of f cs
  any_only [] = refl
  any_only (c ∷ cs) = ap₂ ◌||◌ (only_same c) (any_only cs)
