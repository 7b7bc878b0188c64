-- Two maps over a list, by what they make of one element. Assumes nothing.
use mathlib.Core.Path.{◌≡◌, refl, ap₂}
use mathlib.Core.List.{List, [], ◌∷◌, map}

pub map_square : {A B C D : Type 0} (f : B → D) (g : A → B) (h : C → D) (k : A → C) → ((x : A) → f (g x) ≡ h (k x)) → (xs : List A)
    → map f (map g xs) ≡ map h (map k xs)
map_square f g h k e [] = refl
map_square f g h k e (x ∷ xs) = ap₂ (λ y ys. y ∷ ys) (e x) (map_square f g h k e xs)

pub map_by : {A B C : Type 0} (f : B → C) (g : A → B) (h : A → C) → ((x : A) → f (g x) ≡ h x) → (xs : List A) → map f (map g xs) ≡ map h xs
map_by f g h e [] = refl
map_by f g h e (x ∷ xs) = ap₂ (λ y ys. y ∷ ys) (e x) (map_by f g h e xs)

pub map_same : {A : Type 0} (f : A → A) → ((x : A) → f x ≡ x) → (xs : List A) → map f xs ≡ xs
map_same f e [] = refl
map_same f e (x ∷ xs) = ap₂ (λ y ys. y ∷ ys) (e x) (map_same f e xs)
