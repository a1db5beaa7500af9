-- Laws of lists and tests.
use Prim.Native.Nat.{ℕ, zero, suc, ◌+◌, ◌≤◌, ◌<◌, ◌-◌}
use mathlib.Core.Path.{◌≡◌, refl, sym, ◌∙◌, ap, ap₂, subst}
use mathlib.Core.Bool.{Bool, true, false, ◌&&◌, ◌||◌}
use mathlib.Core.List.{List, [], ◌∷◌, ◌++◌, map, append_assoc}
use mathlib.Core.Logic.{◌⊎◌, inl, inr}
use Rattle.std.specs.Prelude.{None, Some}
use native.Mathlib.Omega.{arith}
use native.Mathlib.Decide.{dec_le, dec_lt}
use lib.ListN.{length, get_or, length-append, take, replicate, length-replicate}
use lib.Dec.{T, eqb, ltb}
use borrow.Author.Tests.{ltb-true, eqb-true, lt-ltb, eq-eqb}
use Rattle.words.specs.Lists.{all, any, every, head, first, filter, keep_if, concat_map, sum, up_to, up_from, eq_list}
use Rattle.words.specs.Lists.{less_list, padded}

-- ---- Bool
pub no_ft : false ≡ true → ⊥
no_ft e = subst T (sym e) tt

pub no_tf : true ≡ false → ⊥
no_tf e = subst T e tt

pub both-ft : {b : Bool} → b ≡ true → b ≡ false → ⊥
both-ft h k = no_tf (sym h ∙ k)

pub and_left : (a b : Bool) → a && b ≡ true → a ≡ true
and_left true b h = refl
and_left false b h = h

pub and_right : (a b : Bool) → a && b ≡ true → b ≡ true
and_right true b h = h
and_right false b h = absurd (no_ft h)

pub and_both : (a b : Bool) → a ≡ true → b ≡ true → a && b ≡ true
and_both a b h k = rw (h, k)

pub or_cases : (a b : Bool) → a || b ≡ true → (a ≡ true) ⊎ (b ≡ true)
or_cases true b h = inl refl
or_cases false b h = inr h

pub or_left : (a b : Bool) → a ≡ true → a || b ≡ true
or_left a b h = rw h

pub or_right : (a b : Bool) → b ≡ true → a || b ≡ true
or_right true b h = refl
or_right false b h = h

pub bool_cases : (b : Bool) → (b ≡ true) ⊎ (b ≡ false)
bool_cases true = inl refl
bool_cases false = inr refl

pub bool-ext : (a b : Bool) → (a ≡ true → b ≡ true) → (b ≡ true → a ≡ true) → a ≡ b
bool-ext true true f g = refl
bool-ext true false f g = sym (f refl)
bool-ext false true f g = g refl
bool-ext false false f g = refl

pub false-if : (b : Bool) → (b ≡ true → ⊥) → b ≡ false
false-if true f = absurd (f refl)
false-if false f = refl

-- ---- lists of tests
pub every-at : (bs : List Bool) → every bs ≡ true → (i : ℕ) → get_or bs i true ≡ true
unfolding every
every-at [] h i = refl
every-at (b ∷ bs) h zero = and_left b _ h
every-at (b ∷ bs) h (suc i) = every-at bs (and_right b _ h) i

-- each test of a list is met
pub data Met : List Bool → Type 0 where
  met-none : Met []
  met-more : {b : Bool} {bs : List Bool} → b ≡ true → Met bs → Met (b ∷ bs)

pub met_every : {bs : List Bool} → Met bs → every bs ≡ true
unfolding every
met_every met-none = refl
met_every (met-more h m) = and_both _ _ h (met_every m)

-- ---- membership
pub data In {A : Type 0} (x : A) : List A → Type 0 where
  here : {y : A} {ys : List A} → x ≡ y → In x (y ∷ ys)
  there : {y : A} {ys : List A} → In x ys → In x (y ∷ ys)

module _ {A : Type 0} where
  pub in-empty : {x : A} → In x [] → ⊥
  in-empty = elim [ ]

  pub in-eq : {x y : A} {ys : List A} → x ≡ y → In y ys → In x ys
  in-eq {ys = ys} e i = subst (λ z. In z ys) (sym e) i

  pub in_left : {x : A} {xs : List A} (ys : List A) → In x xs → In x (xs ++ ys)
  in_left ys (here e) = here e
  in_left ys (there h) = there (in_left ys h)

  pub in_right : {x : A} (xs : List A) {ys : List A} → In x ys → In x (xs ++ ys)
  in_right [] h = h
  in_right (y ∷ xs) h = there (in_right xs h)

  pub in-append : {x : A} (xs : List A) {ys : List A} → In x (xs ++ ys) → In x xs ⊎ In x ys
  in-append [] h = inr h
  in-append (y ∷ xs) (here e) = inl (here e)
  in-append (y ∷ xs) (there h) = elim (in-append xs h) [ inl k ↦ inl (there k) | inr k ↦ inr k ]

  pub all_in : (p : A → Bool) {x : A} {xs : List A} → all p xs ≡ true → In x xs → p x ≡ true
  unfolding all
  all_in p h (here {y = y} {ys = ys} e) = ap p e ∙ and_left (p y) (all p ys) h
  all_in p h (there {y = y} {ys = ys} k) = all_in p (and_right (p y) (all p ys) h) k

  pub in_all : (p : A → Bool) (xs : List A) → ((x : A) → In x xs → p x ≡ true) → all p xs ≡ true
  unfolding all
  in_all p [] h = refl
  in_all p (x ∷ xs) h = and_both _ _ (h x (here refl)) (in_all p xs (λ y k. h y (there k)))

  -- where a test fails somewhere
  pub not-all : (p : A → Bool) (xs : List A) → all p xs ≡ false → (x : A) × In x xs × (p x ≡ false)
  unfolding all
  not-all p [] h = absurd (no_tf h)
  not-all p (x ∷ xs) h = go (p x) refl (not-all p xs) h
    where
      go : (b : Bool) → p x ≡ b → (all p xs ≡ false → (y : A) × In y xs × (p y ≡ false)) → b && all p xs ≡ false →
          (y : A) × In y (x ∷ xs) × (p y ≡ false)
      go false e r h = (x, here refl, e)
      go true e r h = let (y, k, f) = r h in (y, there k, f)

  pub any-in : (p : A → Bool) (xs : List A) → any p xs ≡ true → (x : A) × In x xs × (p x ≡ true)
  unfolding any
  any-in p [] h = absurd (no_ft h)
  any-in p (x ∷ xs) h = elim (or_cases (p x) (any p xs) h)
      [ inl e ↦ (x, here refl, e) | inr k ↦ let (y, i, e) = any-in p xs k in (y, there i, e) ]

  pub in-any : (p : A → Bool) {x : A} {xs : List A} → In x xs → p x ≡ true → any p xs ≡ true
  unfolding any
  in-any p (here {y = y} {ys = ys} e) h = or_left (p y) (any p ys) (ap p (sym e) ∙ h)
  in-any p (there {y = y} {ys = ys} k) h = or_right (p y) (any p ys) (in-any p k h)

  pub in-filter : (p : A → Bool) {x : A} {xs : List A} → In x xs → p x ≡ true → In x (filter p xs)
  unfolding filter keep_if
  in-filter p (here e) h = rw (ap p (sym e) ∙ h) (here e)
  in-filter p {x = x} (there {y = y} {ys = ys} k) h = go (p y) (in-filter p k h)
    where
      go : (b : Bool) → In x (filter p ys) → In x (keep_if b y (filter p ys))
      go true i = there i
      go false i = i

  pub filter-in : (p : A → Bool) (xs : List A) (x : A) → In x (filter p xs) → In x xs × (p x ≡ true)
  unfolding filter keep_if
  filter-in p [] x h = elim h [ ]
  filter-in p (y ∷ ys) x h = go (p y) refl (filter-in p ys) h
    where
      go : (b : Bool) → p y ≡ b → ((z : A) → In z (filter p ys) → In z ys × (p z ≡ true)) →
          In x (keep_if b y (filter p ys)) → In x (y ∷ ys) × (p x ≡ true)
      go true e r (here q) = (here q, ap p q ∙ e)
      go true e r (there k) = let (i, f) = r x k in (there i, f)
      go false e r k = let (i, f) = r x k in (there i, f)

  -- where none is found, no element passes the test
  pub first-none : (p : A → Bool) {xs : List A} → first p xs ≡ None → {x : A} → In x xs → p x ≡ true → ⊥
  unfolding first head
  first-none p {xs} h i e = go (filter p xs) h (in-filter p i e)
    where
      go : {x : A} (ys : List A) → head ys ≡ None → In x ys → ⊥
      go [] k j = in-empty j
      go (y ∷ ys) k j = let z : ◌≡◌ {A = ℕ} 0 1 = cc in omega arith

  -- the one that is found is an element that passes it
  pub first_found : (p : A → Bool) (xs : List A) (x : A) → first p xs ≡ Some x → In x xs × (p x ≡ true)
  unfolding first head
  first_found p xs x h = go (filter p xs) refl h
    where
      go : (ys : List A) → filter p xs ≡ ys → head ys ≡ Some x → In x xs × (p x ≡ true)
      go [] e k = let z : ◌≡◌ {A = ℕ} 0 1 = cc in absurd (omega arith)
      go (y ∷ ys) e k = let f : x ≡ y = cc in filter-in p xs x (rw e (here f))

  pub in-get_or : (xs : List A) (i : ℕ) (d : A) → i < length xs → In (get_or xs i d) xs
  in-get_or [] i d h = absurd (omega arith)
  in-get_or (x ∷ xs) zero d h = here refl
  in-get_or (x ∷ xs) (suc i) d h = there (in-get_or xs i d (omega arith))

  pub get_or-in : (d : A) {x : A} {xs : List A} → In x xs → (i : ℕ) × (i < length xs) × (get_or xs i d ≡ x)
  get_or-in d (here e) = (0, omega arith, sym e)
  get_or-in d (there k) = let (i, l, e) = get_or-in d k in (suc i, omega arith, e)

module _ {A B : Type 0} where
  pub in_map : (f : A → B) {x : A} {xs : List A} → In x xs → In (f x) (map f xs)
  in_map f (here e) = here (ap f e)
  in_map f (there k) = there (in_map f k)

  pub map-in : (f : A → B) (xs : List A) (y : B) → In y (map f xs) → (x : A) × In x xs × (y ≡ f x)
  map-in f [] y x' = elim x' [ ]
  map-in f (x ∷ xs) y (here e) = (x, here refl, e)
  map-in f (x ∷ xs) y (there k) = let (z, i, e) = map-in f xs y k in (z, there i, e)

  pub map_same : (f g : A → B) (xs : List A) → ((x : A) → In x xs → f x ≡ g x) → map f xs ≡ map g xs
  map_same f g [] h = refl
  map_same f g (x ∷ xs) h = ap₂ (λ (a : B) (b : List B). a ∷ b) (h x (here refl))
      (map_same f g xs (λ y k. h y (there k)))

  pub get_or-map : (f : A → B) (xs : List A) (i : ℕ) (d : A) (e : B) → i < length xs →
      get_or (map f xs) i e ≡ f (get_or xs i d)
  get_or-map f [] i d e h = absurd (omega arith)
  get_or-map f (x ∷ xs) zero d e h = refl
  get_or-map f (x ∷ xs) (suc i) d e h = get_or-map f xs i d e (omega arith)

  pub append-concat_map : (f : A → List B) (xs ys : List A) → concat_map f (xs ++ ys) ≡ concat_map f xs ++ concat_map f ys
  unfolding concat_map
  append-concat_map f [] ys = refl
  append-concat_map f (x ∷ xs) ys = rw (append-concat_map f xs ys, append_assoc) refl

  pub length-concat_map : (f : A → List B) (xs : List A) → length (concat_map f xs) ≡ sum (map (λ x. length (f x)) xs)
  unfolding concat_map sum
  length-concat_map f [] = refl
  length-concat_map f (x ∷ xs) = rw (length-append, length-concat_map f xs) refl

pub sum-append : (xs ys : List ℕ) → sum (xs ++ ys) ≡ sum xs + sum ys
unfolding sum
sum-append [] ys = omega arith
sum-append (x ∷ xs) ys = let e = sum-append xs ys in omega arith

pub map-append : {A B : Type 0} (f : A → B) (xs ys : List A) → map f (xs ++ ys) ≡ map f xs ++ map f ys
map-append f [] ys = refl
map-append {B = B} f (x ∷ xs) ys = ap {B = List B} (λ zs. f x ∷ zs) (map-append f xs ys)

-- ---- counting up
pub length-up_from : (s n : ℕ) → length (up_from s n) ≡ n
unfolding up_from
length-up_from s zero = refl
length-up_from s (suc n) = ap suc (length-up_from (suc s) n)

pub length-up_to : (n : ℕ) → length (up_to n) ≡ n
unfolding up_to
length-up_to n = length-up_from 0 n

pub in-up_from : (s n i : ℕ) → s ≤ i → i < s + n → In i (up_from s n)
unfolding up_from
in-up_from s zero i h k = absurd (omega arith)
in-up_from s (suc n) i h k = elim
    (dec_le (suc s) i) [ yes l ↦ there (in-up_from (suc s) n i l (omega arith)) | no l ↦ here {y = s} (omega arith) ]

pub up_from-in : (s n i : ℕ) → In i (up_from s n) → (s ≤ i) × (i < s + n)
unfolding up_from
up_from-in s zero i x' = elim x' [ ]
up_from-in s (suc n) i (here e) = (omega arith, omega arith)
up_from-in s (suc n) i (there k) = let (a, b) = up_from-in (suc s) n i k in (omega arith, omega arith)

pub in-up_to : (n i : ℕ) → i < n → In i (up_to n)
unfolding up_to
in-up_to n i h = in-up_from 0 n i (omega arith) (omega arith)

pub up_to-in : (n i : ℕ) → In i (up_to n) → i < n
unfolding up_to
up_to-in n i h = let (a, b) = up_from-in 0 n i h in omega arith

pub get_or-up_from : (s n i d : ℕ) → i < n → get_or (up_from s n) i d ≡ s + i
unfolding up_from
get_or-up_from s zero i d h = absurd (omega arith)
get_or-up_from s (suc n) zero d h = omega arith
get_or-up_from s (suc n) (suc i) d h = let e = get_or-up_from (suc s) n i d (omega arith) in omega arith

pub get_or-up_to : (n i d : ℕ) → i < n → get_or (up_to n) i d ≡ i
unfolding up_to
get_or-up_to n i d h = let e = get_or-up_from 0 n i d h in omega arith

pub up_from-last : (s n : ℕ) → up_from s (suc n) ≡ up_from s n ++ ((s + n) ∷ [])
unfolding up_from
up_from-last s zero = ap {B = List ℕ} (λ k. k ∷ []) (omega arith)
up_from-last s (suc n) =
    let e : suc s + n ≡ s + suc n = omega arith in
    let h : up_from (suc s) (suc n) ≡ up_from (suc s) n ++ ((s + suc n) ∷ []) = rw (← e) (up_from-last (suc s) n) in
    ap {B = List ℕ} (λ ks. s ∷ ks) h

pub up_to-suc : (n : ℕ) → up_to (suc n) ≡ up_to n ++ (n ∷ [])
unfolding up_to
up_to-suc n = let e : 0 + n ≡ n = omega arith in rw e at (up_from-last 0 n)

-- ---- equality and order of lists of numbers
pub eq_list-refl : (xs : List ℕ) → eq_list xs xs ≡ true
unfolding eq_list
eq_list-refl [] = refl
eq_list-refl (x ∷ xs) = and_both _ _ (eq-eqb x x refl) (eq_list-refl xs)

pub eq_list-eq : (xs ys : List ℕ) → eq_list xs ys ≡ true → xs ≡ ys
unfolding eq_list
eq_list-eq [] [] h = refl
eq_list-eq [] (y ∷ ys) h = absurd (no_ft h)
eq_list-eq (x ∷ xs) [] h = absurd (no_ft h)
eq_list-eq (x ∷ xs) (y ∷ ys) h =
    let e = eqb-true x y (and_left (eqb x y) (eq_list xs ys) h) in
    let f = eq_list-eq xs ys (and_right (eqb x y) (eq_list xs ys) h) in
    cc

-- the order as a fact
pub data Less : List ℕ → List ℕ → Type 0 where
  shorter : {y : ℕ} {ys : List ℕ} → Less [] (y ∷ ys)
  smaller : {x y : ℕ} {xs ys : List ℕ} → x < y → Less (x ∷ xs) (y ∷ ys)
  same : {x y : ℕ} {xs ys : List ℕ} → x ≡ y → Less xs ys → Less (x ∷ xs) (y ∷ ys)

pub less_list-less : (xs ys : List ℕ) → less_list xs ys ≡ true → Less xs ys
unfolding less_list
less_list-less [] [] h = absurd (no_ft h)
less_list-less [] (y ∷ ys) h = shorter
less_list-less (x ∷ xs) [] h = absurd (no_ft h)
less_list-less (x ∷ xs) (y ∷ ys) h = elim (or_cases (ltb x y) (eqb x y && less_list xs ys) h) [
  | inl e ↦ smaller (ltb-true x y e)
  | inr e ↦ same (eqb-true x y (and_left (eqb x y) (less_list xs ys) e))
      (less_list-less xs ys (and_right (eqb x y) (less_list xs ys) e))
]

pub less-less_list : {xs ys : List ℕ} → Less xs ys → less_list xs ys ≡ true
unfolding less_list
less-less_list shorter = refl
less-less_list (smaller {x = x} {y = y} h) = or_left (ltb x y) _ (lt-ltb x y h)
less-less_list (same {x = x} {y = y} {xs = xs} {ys = ys} e h) =
    or_right (ltb x y) _ (and_both _ _ (eq-eqb x y e) (less-less_list h))

pub less-irrefl : (xs : List ℕ) → Less xs xs → ⊥
less-irrefl [] x' = elim x' [ ]
less-irrefl (x ∷ xs) (smaller h) = omega arith
less-irrefl (x ∷ xs) (same e h) = less-irrefl xs h

pub less-trans : {xs ys zs : List ℕ} → Less xs ys → Less ys zs → Less xs zs
less-trans shorter (smaller h) = shorter
less-trans shorter (same e h) = shorter
less-trans (smaller {x = x} h) (smaller {y = z} k) = smaller {x = x} {y = z} (omega arith)
less-trans (smaller {x = x} h) (same {y = z} e k) = smaller {x = x} {y = z} (omega arith)
less-trans (same {x = x} e h) (smaller {y = z} k) = smaller {x = x} {y = z} (omega arith)
less-trans (same e h) (same f k) = same (e ∙ f) (less-trans h k)

pub data Trichotomy (xs ys : List ℕ) : Type 0 where
  before : Less xs ys → Trichotomy xs ys
  equal : xs ≡ ys → Trichotomy xs ys
  after : Less ys xs → Trichotomy xs ys

pub tri-cons : (x y : ℕ) (xs ys : List ℕ) → x ≡ y → Trichotomy xs ys → Trichotomy (x ∷ xs) (y ∷ ys)
tri-cons x y xs ys e (before h) = before (same e h)
tri-cons x y xs ys e (equal f) = equal (ap₂ (λ (a : ℕ) (bs : List ℕ). a ∷ bs) e f)
tri-cons x y xs ys e (after h) = after (same (sym e) h)

pub less-total : (xs ys : List ℕ) → Trichotomy xs ys
less-total [] [] = equal refl
less-total [] (y ∷ ys) = before shorter
less-total (x ∷ xs) [] = after shorter
less-total (x ∷ xs) (y ∷ ys) = elim (dec_lt x y) [
  | yes h ↦ before (smaller h)
  | no h ↦ elim (dec_lt y x) [ yes k ↦ after (smaller k) | no k ↦ tri-cons x y xs ys (omega arith) (less-total xs ys) ]
]

-- ---- cancelling
pub append-same-length : {A : Type 0} (xs ys us vs : List A) → length xs ≡ length ys → xs ++ us ≡ ys ++ vs →
    (xs ≡ ys) × (us ≡ vs)
append-same-length [] [] us vs l e = (refl, e)
append-same-length [] (y ∷ ys) us vs l e = absurd (omega arith)
append-same-length (x ∷ xs) [] us vs l e = absurd (omega arith)
append-same-length {A} (x ∷ xs) (y ∷ ys) us vs l e =
    let h : x ≡ y = cc in
    let t : xs ++ us ≡ ys ++ vs = cc in
    let (f, g) = append-same-length xs ys us vs (omega arith) t in
    (ap₂ (λ (a : A) (bs : List A). a ∷ bs) h f, g)

-- ---- lists by their elements
pub tabulate : {A : Type 0} (f : ℕ → A) (s : ℕ) (xs : List A) (d : A) →
    ((k : ℕ) → k < length xs → f (s + k) ≡ get_or xs k d) → map f (up_from s (length xs)) ≡ xs
unfolding up_from
tabulate f s [] d h = refl
tabulate {A} f s (x ∷ xs) d h =
    let e : s + 0 ≡ s = omega arith in
    ap₂ (λ (a : A) (b : List A). a ∷ b) (ap f (sym e) ∙ h 0 (omega arith))
    (tabulate f (suc s) xs d (λ k l. let q : suc s + k ≡ s + suc k = omega arith in ap f q ∙ h (suc k) (omega arith)))

pub get_or-mapped : {A : Type 0} (f : ℕ → A) (i n j : ℕ) (d : A) → j < n → get_or (map f (up_from i n)) j d ≡ f (i + j)
get_or-mapped f i n j d l =
    let m : j < length (up_from i n) = rw (length-up_from i n) l in
    get_or-map f (up_from i n) j 0 d m ∙ ap f (get_or-up_from i n j 0 l)

pub up_from-append : (s a b : ℕ) → up_from s (a + b) ≡ up_from s a ++ up_from (s + a) b
unfolding up_from
up_from-append s zero b =
    let e : 0 + b ≡ b = omega arith in
    let q : s ≡ s + 0 = omega arith in
    ap (up_from s) e ∙ ap (λ (x : ℕ). up_from x b) q
up_from-append s (suc a) b =
    let e : suc a + b ≡ suc (a + b) = omega arith in
    let q : suc s + a ≡ s + suc a = omega arith in
    ap (up_from s) e ∙ ap {B = List ℕ} (λ (x : List ℕ). s ∷ x)
    (up_from-append (suc s) a b ∙ ap (λ (x : ℕ). up_from (suc s) a ++ up_from x b) q)

module _ {A : Type 0} (p : A → Bool) where
  pub filter-append : (xs ys : List A) → filter p (xs ++ ys) ≡ filter p xs ++ filter p ys
  unfolding filter keep_if
  filter-append [] ys = refl
  filter-append (x ∷ xs) ys = go (p x) (filter-append xs ys)
    where
      go : (b : Bool) → filter p (xs ++ ys) ≡ filter p xs ++ filter p ys →
          keep_if b x (filter p (xs ++ ys)) ≡ keep_if b x (filter p xs) ++ filter p ys
      go true e = ap {B = List A} (λ (zs : List A). x ∷ zs) e
      go false e = e

  pub filter-all : (xs : List A) → ((x : A) → In x xs → p x ≡ true) → filter p xs ≡ xs
  unfolding filter keep_if
  filter-all [] h = refl
  filter-all (x ∷ xs) h = ap₂ (λ (b : Bool) (zs : List A). keep_if b x zs) (h x (here refl))
      (filter-all xs (λ y i. h y (there i)))

  pub filter_none : (xs : List A) → ((x : A) → In x xs → p x ≡ false) → filter p xs ≡ []
  unfolding filter keep_if
  filter_none [] h = refl
  filter_none (x ∷ xs) h = ap₂ (λ (b : Bool) (zs : List A). keep_if b x zs) (h x (here refl))
      (filter_none xs (λ y i. h y (there i)))

pub length-padded : (n : ℕ) (xs : List ℕ) → length xs ≤ n → length (padded n xs) ≡ n
unfolding padded
length-padded n xs h = let e = length-replicate {A = ℕ} (n - length xs) 0 in
    omega (arith, length-append xs (replicate (n - length xs) 0))

pub sum-take-rises : (cs : List ℕ) (m n : ℕ) → m ≤ n → sum (take m cs) ≤ sum (take n cs)
unfolding sum
sum-take-rises [] zero zero h = omega arith
sum-take-rises [] zero (suc n) h = omega arith
sum-take-rises [] (suc m) zero h = omega arith
sum-take-rises [] (suc m) (suc n) h = omega arith
sum-take-rises (x ∷ cs) zero n h = omega arith
sum-take-rises (x ∷ cs) (suc m) zero h = absurd (omega arith)
sum-take-rises (x ∷ cs) (suc m) (suc n) h = let e = sum-take-rises cs m n (omega arith) in omega arith

-- ---- maps, and lists of lists
pub map-map : {A B C : Type 0} (f : B → C) (g : A → B) (xs : List A) → map f (map g xs) ≡ map (λ x. f (g x)) xs
map-map f g [] = refl
map-map {C = C} f g (x ∷ xs) = ap {B = List C} (λ ys. f (g x) ∷ ys) (map-map f g xs)

-- a change that keeps every element
pub map-keeps : {A : Type 0} (f : A → A) (xs : List A) → ((x : A) → In x xs → f x ≡ x) → map f xs ≡ xs
map-keeps f [] h = refl
map-keeps {A} f (x ∷ xs) h =
    ap₂ (λ (y : A) (ys : List A). y ∷ ys) (h x (here refl)) (map-keeps f xs (λ y i. h y (there i)))

pub concat_map-in : {A B : Type 0} (f : A → List B) (xs : List A) (y : B) → In y (concat_map f xs) →
    (x : A) × In x xs × In y (f x)
unfolding concat_map
concat_map-in f [] y i = absurd (in-empty i)
concat_map-in f (x ∷ xs) y i = elim (in-append (f x) i) [
  | inl k ↦ (x, here refl, k)
  | inr k ↦ let (z, l, m) = concat_map-in f xs y k in (z, there l, m)
]

pub in-concat_map : {A B : Type 0} (f : A → List B) {x : A} {xs : List A} {y : B} → In x xs → In y (f x) →
    In y (concat_map f xs)
unfolding concat_map
in-concat_map f {y = y} (here {ys = ys} e) i = in_left (concat_map f ys) (subst (λ z. In y (f z)) e i)
in-concat_map f (there {y = z} k) i = in_right (f z) (in-concat_map f k i)

pub replicate-in : (n a x : ℕ) → In x (replicate n a) → x ≡ a
replicate-in zero a x i = absurd (in-empty i)
replicate-in (suc n) a x (here e) = e
replicate-in (suc n) a x (there i) = replicate-in n a x i

pub map-concat_map : {A B C : Type 0} (f : B → C) (g : A → List B) (xs : List A) →
    map f (concat_map g xs) ≡ concat_map (λ x. map f (g x)) xs
unfolding concat_map
map-concat_map f g [] = refl
map-concat_map {C = C} f g (x ∷ xs) =
    map-append f (g x) (concat_map g xs) ∙ ap {B = List C} (λ ys. map f (g x) ++ ys) (map-concat_map f g xs)

pub concat_map-same : {A B : Type 0} (f g : A → List B) (xs : List A) → ((x : A) → In x xs → f x ≡ g x) →
    concat_map f xs ≡ concat_map g xs
unfolding concat_map
concat_map-same f g [] h = refl
concat_map-same {B = B} f g (x ∷ xs) h =
    ap₂ (λ (ys zs : List B). ys ++ zs) (h x (here refl)) (concat_map-same f g xs (λ y i. h y (there i)))

-- tests that agree on every element
pub filter_same : {A : Type 0} (p q : A → Bool) (xs : List A) → ((x : A) → In x xs → p x ≡ q x) →
    filter p xs ≡ filter q xs
unfolding filter
filter_same p q [] h = refl
filter_same {A} p q (x ∷ xs) h =
    ap₂ (λ (b : Bool) (ys : List A). keep_if b x ys) (h x (here refl)) (filter_same p q xs (λ y i. h y (there i)))

pub any_same : {A : Type 0} (p q : A → Bool) (xs : List A) → ((x : A) → In x xs → p x ≡ q x) → any p xs ≡ any q xs
unfolding any
any_same p q [] h = refl
any_same p q (x ∷ xs) h = ap₂ ◌||◌ (h x (here refl)) (any_same p q xs (λ y i. h y (there i)))

-- a list with an element is not empty
pub some-length : {A : Type 0} {a : A} {xs : List A} → In a xs → 1 ≤ length xs
some-length (here e) = omega arith
some-length (there i) = omega arith
