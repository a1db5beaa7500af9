-- Lists that are told by their images: element by element, by their number, and each of two kinds one behind the other.
use Prim.Native.Nat.{ℕ, suc}
use mathlib.Core.Path.{◌≡◌, refl, sym, ◌∙◌, ap, ap₂}
use mathlib.Core.List.{List, [], ◌∷◌, ◌++◌, map, map-id}
use native.Mathlib.Omega.{arith}
use lib.ListN.{length, length-map}
use Rattle.words.specs.Lists.{up_to}
use Rattle.words.proofs.Lists.{In, here, there, length-up_to}
use Rattle.defines.specs.Pddl.{numbered}

-- where f tells g of each two elements, the images under f tell those under g: of things that are numbered, and of any
pub numbered-tells : {A C : Type 0} (f : ℕ → A → List ℕ) (g : A → C) (i : ℕ) (xs ys : List A) →
    ((k : ℕ) (x y : A) → In x xs → In y ys → f k x ≡ f k y → g x ≡ g y) →
    numbered f i xs ≡ numbered f i ys → map g xs ≡ map g ys
unfolding numbered
numbered-tells f g i [] [] h e = refl
numbered-tells f g i [] (y ∷ ys) h e = absurd (let l = ap length e in omega arith)
numbered-tells f g i (x ∷ xs) [] h e = absurd (let l = ap length e in omega arith)
numbered-tells {C = C} f g i (x ∷ xs) (y ∷ ys) h e =
    ap₂ (λ (z : C) (zs : List C). z ∷ zs) (h i x y (here refl) (here refl) (cc))
    (numbered-tells f g (suc i) xs ys (λ k a b m n. h k a b (there m) (there n)) (cc))

numbered-map : {A : Type 0} (f : A → List ℕ) (i : ℕ) (xs : List A) → numbered (λ k. f) i xs ≡ map f xs
unfolding numbered
numbered-map f i [] = refl
numbered-map f i (x ∷ xs) = ap {B = List (List ℕ)} (λ ys. f x ∷ ys) (numbered-map f (suc i) xs)

pub map-tells : {A C : Type 0} (f : A → List ℕ) (g : A → C) (xs ys : List A) →
    ((x y : A) → In x xs → In y ys → f x ≡ f y → g x ≡ g y) → map f xs ≡ map f ys → map g xs ≡ map g ys
map-tells f g xs ys h e =
    numbered-tells (λ k. f) g 0 xs ys (λ k. h) (numbered-map f 0 xs ∙ (e ∙ sym (numbered-map f 0 ys)))

-- where images tell the elements, they tell the list
pub list-told : {A : Type 0} {xs ys : List A} → map (λ (x : A). x) xs ≡ map (λ (x : A). x) ys → xs ≡ ys
list-told {xs = xs} {ys = ys} e = sym (map-id xs) ∙ (e ∙ map-id ys)

pub map-fixes : {A : Type 0} (f : A → List ℕ) (xs ys : List A) →
    ((x y : A) → In x xs → In y ys → f x ≡ f y → x ≡ y) → map f xs ≡ map f ys → xs ≡ ys
map-fixes {A} f xs ys h e = list-told (map-tells f (λ (x : A). x) xs ys h e)

-- the images of 0 to n - 1 tell n
pub count-told : (f : ℕ → List ℕ) (m n : ℕ) → map f (up_to m) ≡ map f (up_to n) → m ≡ n
count-told f m n e =
    let a = length-map (up_to m) f in
    let b = length-map (up_to n) f in
    let l = ap length e in
    omega (arith, length-up_to m, length-up_to n)

-- the images of two kinds, one behind the other, where no image of one is one of the other
module _ {A B : Type 0} (f : A → List ℕ) (g : B → List ℕ) (apart : (a : A) (b : B) → f a ≡ g b → ⊥) where
  pub kinds-told : (xs cs : List A) (bs ds : List B) → map f xs ++ map g bs ≡ map f cs ++ map g ds →
      (map f xs ≡ map f cs) × (map g bs ≡ map g ds)
  kinds-told [] [] bs ds e = (refl, e)
  kinds-told [] (c ∷ cs) [] ds e = absurd (let l = ap length e in omega arith)
  kinds-told [] (c ∷ cs) (b ∷ bs) ds e = absurd (apart c b (cc))
  kinds-told (a ∷ xs) [] bs [] e = absurd (let l = ap length e in omega arith)
  kinds-told (a ∷ xs) [] bs (d ∷ ds) e = absurd (apart a d (cc))
  kinds-told (a ∷ xs) (c ∷ cs) bs ds e =
      let (h, k) = kinds-told xs cs bs ds (cc) in
      (ap₂ (λ (z : List ℕ) (zs : List (List ℕ)). z ∷ zs) (cc) h, k)
