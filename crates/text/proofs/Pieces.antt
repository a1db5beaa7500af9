-- Texts put together from pieces: the pieces of mapped lists, of lists of lists, and of numbers that count from
-- elsewhere.
use Prim.Native.Nat.{ℕ, zero, suc, ◌+◌, ◌*◌, ◌≤◌}
use mathlib.Core.Path.{◌≡◌, refl, ◌∙◌, ap, ap₂}
use mathlib.Core.List.{List, [], ◌∷◌, ◌++◌, map}
use native.Mathlib.Nat.{mul-suc}
use native.Mathlib.Omega.{arith}
use lib.ListN.{length, length-append}
use Rattle.words.specs.Lists.{up_from, concat_map}
use Rattle.words.proofs.Lists.{In, here, there, append-concat_map}

module _ {A B C : Type 0} where
  pub pieces-map : (f : B → List C) (g : A → B) (xs : List A) → concat_map f (map g xs) ≡ concat_map (λ x. f (g x)) xs
  unfolding concat_map
  pieces-map f g [] = refl
  pieces-map f g (x ∷ xs) = ap (λ (zs : List C). f (g x) ++ zs) (pieces-map f g xs)

  pub pieces-pieces : (f : B → List C) (g : A → List B) (xs : List A) →
      concat_map f (concat_map g xs) ≡ concat_map (λ x. concat_map f (g x)) xs
  unfolding concat_map
  pieces-pieces f g [] = refl
  pieces-pieces f g (x ∷ xs) =
      append-concat_map f (g x) (concat_map g xs) ∙ ap (λ (zs : List C). concat_map f (g x) ++ zs) (pieces-pieces f g xs)

module _ {A B : Type 0} where
  pub pieces-same : (f g : A → List B) (xs : List A) → ((x : A) → In x xs → f x ≡ g x) → concat_map f xs ≡ concat_map g xs
  unfolding concat_map
  pieces-same f g [] h = refl
  pieces-same f g (x ∷ xs) h =
      ap₂ (λ (ys zs : List B). ys ++ zs) (h x (here refl)) (pieces-same f g xs (λ y i. h y (there i)))

  -- no piece is longer than `most`
  pub pieces-most : (f : A → List B) (most : ℕ) (xs : List A) → ((x : A) → In x xs → length (f x) ≤ most) →
      length (concat_map f xs) ≤ most * length xs
  unfolding concat_map
  pieces-most f most [] h = omega arith
  pieces-most f most (x ∷ xs) h =
      let a = h x (here refl) in
      let r = pieces-most f most xs (λ y i. h y (there i)) in
      let e = length-append (f x) (concat_map f xs) in
      let m = mul-suc most (length xs) in
      omega arith

-- numbers that count from i, and those that count from 0
module _ {B : Type 0} where
  pub pieces-from : (f g : ℕ → List B) (i k n : ℕ) → ((j : ℕ) → f (i + j) ≡ g j) →
      concat_map f (up_from (i + k) n) ≡ concat_map g (up_from k n)
  unfolding concat_map up_from
  pieces-from f g i k zero h = refl
  pieces-from f g i k (suc n) h =
      let e : suc (i + k) ≡ i + suc k = omega arith in
      ap₂ (λ (ys zs : List B). ys ++ zs) (h k)
      (ap (λ (j : ℕ). concat_map f (up_from j n)) e ∙ pieces-from f g i (suc k) n h)

  pub map-from : (f g : ℕ → B) (i k n : ℕ) → ((j : ℕ) → f (i + j) ≡ g j) → map f (up_from (i + k) n) ≡ map g (up_from k n)
  unfolding up_from
  map-from f g i k zero h = refl
  map-from f g i k (suc n) h =
      let e : suc (i + k) ≡ i + suc k = omega arith in
      ap₂ (λ (y : B) (zs : List B). y ∷ zs) (h k)
      (ap (λ (j : ℕ). map f (up_from j n)) e ∙ map-from f g i (suc k) n h)
