-- Lists and tests that the definitions share.
use Rattle.std.specs.Prelude.{ℕ, zero, suc, ◌+◌, ◌-◌, Bool, true, false, cond, ◌&&◌, ◌||◌, List, [], ◌∷◌, ◌++◌, length, drop, replicate, eqb, ltb}
use Rattle.std.specs.Prelude.{Option, None, Some}
use Rattle.std.proofs.lemmas.List.Edits.{sets}

-- s, s + 1, .., s + n - 1
unfoldable pub up_from : ℕ → ℕ → List ℕ
up_from s zero = []
up_from s (suc n) = s ∷ up_from (suc s) n

-- 0, 1, .., n - 1
unfoldable pub up_to : ℕ → List ℕ
unfolding up_from
up_to n = up_from 0 n

unfoldable pub all : {A : Type 0} → (A → Bool) → List A → Bool
all p [] = true
all p (x ∷ xs) = p x && all p xs

unfoldable pub any : {A : Type 0} → (A → Bool) → List A → Bool
any p [] = false
any p (x ∷ xs) = p x || any p xs

-- every test of a list of tests is met
unfoldable pub every : List Bool → Bool
every [] = true
every (b ∷ bs) = b && every bs

unfoldable pub keep_if : {A : Type 0} → Bool → A → List A → List A
keep_if true x xs = x ∷ xs
keep_if false x xs = xs

unfoldable pub filter : {A : Type 0} → (A → Bool) → List A → List A
unfolding keep_if
filter p [] = []
filter p (x ∷ xs) = keep_if (p x) x (filter p xs)

unfoldable pub head : {A : Type 0} → List A → Option A
head [] = None
head (x ∷ xs) = Some x

-- the first element that a test takes
unfoldable pub first : {A : Type 0} → (A → Bool) → List A → Option A
unfolding head filter
first p xs = head (filter p xs)

unfoldable pub concat_map : {A B : Type 0} → (A → List B) → List A → List B
concat_map f [] = []
concat_map f (x ∷ xs) = f x ++ concat_map f xs

-- the lists of a list, one behind another
unfoldable pub joined : {A : Type 0} → List (List A) → List A
joined [] = []
joined (xs ∷ xss) = xs ++ joined xss

unfoldable pub sum : List ℕ → ℕ
sum [] = 0
sum (x ∷ xs) = x + sum xs

unfoldable pub eq_list : List ℕ → List ℕ → Bool
eq_list [] [] = true
eq_list [] (y ∷ ys) = false
eq_list (x ∷ xs) [] = false
eq_list (x ∷ xs) (y ∷ ys) = eqb x y && eq_list xs ys

-- lexicographic order
unfoldable pub less_list : List ℕ → List ℕ → Bool
less_list [] [] = false
less_list [] (y ∷ ys) = true
less_list (x ∷ xs) [] = false
less_list (x ∷ xs) (y ∷ ys) = ltb x y || (eqb x y && less_list xs ys)

-- the index of x in xs, or the length
unfoldable pub index_of : ℕ → List ℕ → ℕ
index_of x [] = 0
index_of x (y ∷ ys) = cond (eqb x y) 0 (suc (index_of x ys))

unfoldable pub first_or : {A : Type 0} → List A → A → A
first_or [] d = d
first_or (x ∷ xs) d = x

unfoldable pub last_or : {A : Type 0} → List A → A → A
last_or [] d = d
last_or (x ∷ xs) d = last_or xs x

-- xs, then zeros up to n words
unfoldable pub padded : ℕ → List ℕ → List ℕ
padded n xs = xs ++ replicate (n - length xs) 0

-- xs written over the front of a lent buffer; what lies beyond stays
unfoldable pub over : List ℕ → List ℕ → List ℕ
over xs lent = xs ++ drop (length xs) lent

-- a buffer after words were put into it one after another, from a place on
abbrev pub put : List ℕ → ℕ → List ℕ → List ℕ
put lent at xs = sets lent at xs
