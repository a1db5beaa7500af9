-- Items of a bracketed list: where one ends, and that such a list tells its items. `front` follows bytes and counts
-- open brackets, up to a space, an end of line, or a closing bracket that answers no opening one. A name passes it
-- whole at any depth, and so does a bracket around what passes; so a text tells the item that it begins with.
use Prim.Native.Nat.{ℕ, zero, suc, ◌≤◌, ◌<◌}
use mathlib.Core.Path.{◌≡◌, refl, sym, ◌∙◌, ap, ap₂}
use mathlib.Core.Bool.{Bool, true, false, ◌||◌}
use mathlib.Core.List.{List, [], ◌∷◌, ◌++◌, map, append_assoc, append-nil}
use native.Mathlib.Omega.{arith}
use lib.ListN.{length, length-append}
use lib.Dec.{eqb, ltb}
use borrow.Author.Tests.{ltb-true, ne_eqb}
use Rattle.words.specs.Lists.{all, concat_map}
use Rattle.words.proofs.Lists.{and_left, and_right, append-same-length}
use Rattle.text.specs.Lines.{newline}
use Rattle.defines.specs.Pddl.{space, opening, closing, following, neighbours, bracket, numbered}
use Rattle.defines.proofs.Through.{Through, through-append}

-- ---- the item at the front of some bytes
pub data Kind : Type 0 where
  opens closes parts plain : Kind

unfoldable pub kind_of : ℕ → Kind
kind_of b = elim (eqb b opening) [
  | true ↦ opens
  | false ↦ elim (eqb b closing) [
    | true ↦ closes
    | false ↦ elim (eqb b space || eqb b newline) [ true ↦ parts | false ↦ plain ]
  ]
]

-- d brackets are open
unfoldable pub front : ℕ → List ℕ → List ℕ
front d [] = []
front d (b ∷ bs) = elim (kind_of b) [
  | opens ↦ b ∷ front (suc d) bs
  | closes ↦ elim d [ zero ↦ [] | suc e ↦ b ∷ front e bs ]
  | parts ↦ elim d [ zero ↦ [] | suc e ↦ b ∷ front (suc e) bs ]
  | plain ↦ b ∷ front d bs
]

-- what an item ends at
abbrev pub Ends : List ℕ → Type 0
Ends rest = front 0 rest ≡ []

pub line-ends : (rest : List ℕ) → Ends (newline ∷ rest)
unfolding front kind_of
line-ends rest = refl

-- ---- what passes whole
abbrev pub Passes : ℕ → List ℕ → Type 0
Passes d x = Through (front d) (front d) x x

nothing-passes : (d : ℕ) → Passes d []
nothing-passes d = record { at = λ rest. refl }

pub record Item (x : List ℕ) : Type 0 where
  pub passes : (d : ℕ) → Passes d x
  pub some_byte : 1 ≤ length x

pub data Items : List (List ℕ) → Type 0 where
  none : Items []
  more : {x : List ℕ} {xs : List (List ℕ)} → Item x → Items xs → Items (x ∷ xs)

-- ---- names: their bytes are beyond spaces, ends of lines and brackets
abbrev pub plain_bytes : List ℕ → Bool
plain_bytes bs = all (ltb closing) bs

plain-kind : (b : ℕ) → closing < b → kind_of b ≡ plain
unfolding kind_of
plain-kind b l =
    rw (
      kind_of,
      ne_eqb b opening (λ e. omega arith),
      ne_eqb b closing (λ e. omega arith),
      ne_eqb b space (λ e. omega arith),
      ne_eqb b newline (λ e. omega arith),
    ) refl

plain_byte : (d b : ℕ) → closing < b → Passes d (b ∷ [])
unfolding front
plain_byte d b l = record { at = λ rest. rw (front, plain-kind b l) refl }

plain_passes : (x : List ℕ) → plain_bytes x ≡ true → (d : ℕ) → Passes d x
unfolding all
plain_passes [] h d = nothing-passes d
plain_passes (b ∷ x) h d =
    through-append {xs = b ∷ []} {us = b ∷ []}
    (plain_byte d b (ltb-true closing b (and_left (ltb closing b) (plain_bytes x) h)))
    (plain_passes x (and_right (ltb closing b) (plain_bytes x) h) d)

pub plain-item : (x : List ℕ) → plain_bytes x ≡ true → 1 ≤ length x → Item x
plain-item x h l = record { passes = plain_passes x h; some_byte = l }

-- ---- brackets
space-passes : (d : ℕ) → Passes (suc d) (space ∷ [])
unfolding front kind_of
space-passes d = record { at = λ rest. refl }

following-passes : {xs : List (List ℕ)} → Items xs → (d : ℕ) → Passes (suc d) (following xs)
unfolding following concat_map
following-passes none d = nothing-passes (suc d)
following-passes (more i is) d =
    through-append {xs = space ∷ []} {us = space ∷ []} (space-passes d)
    (through-append (i.passes (suc d)) (following-passes is d))

neighbours-pass : {xs : List (List ℕ)} → Items xs → (d : ℕ) → Passes (suc d) (neighbours xs)
unfolding neighbours
neighbours-pass none d = nothing-passes (suc d)
neighbours-pass (more i is) d = through-append (i.passes (suc d)) (following-passes is d)

-- an opening bracket, what passes inside it, and a closing one
bracket-passes : {xs : List (List ℕ)} → Items xs → (d : ℕ) → Passes d (bracket xs)
unfolding bracket front kind_of
bracket-passes is d =
    through-append {g = front (suc d)} {xs = opening ∷ []} {us = opening ∷ []} (record { at = λ rest. refl })
    (through-append (neighbours-pass is d) (record { at = λ rest. refl }))

pub bracket-item : {xs : List (List ℕ)} → Items xs → Item (bracket xs)
unfolding bracket
bracket-item is = record { passes = bracket-passes is; some_byte = omega arith }

-- ---- an item at the front of a text is told by the text
item-end : {x : List ℕ} (r : List ℕ) → Item x → Ends r → front 0 (x ++ r) ≡ x
item-end {x} r i e = (i.passes 0).at r ∙ (ap (λ (z : List ℕ). x ++ z) e ∙ append-nil x)

pub item-same : {x y : List ℕ} (r s : List ℕ) → Item x → Item y → Ends r → Ends s → x ++ r ≡ y ++ s →
    (x ≡ y) × (r ≡ s)
item-same {x} {y} r s i j a b e =
    append-same-length x y r s (ap length (sym (item-end r i a) ∙ (ap (front 0) e ∙ item-end s j b))) e

-- ---- a bracketed list tells its items
-- items that follow, and the bracket that closes the list
abbrev closed : List (List ℕ) → List ℕ
closed xs = following xs ++ (closing ∷ [])

closed-ends : (xs : List (List ℕ)) → Ends (closed xs)
unfolding following concat_map front kind_of
closed-ends [] = refl
closed-ends (x ∷ xs) = refl

first-same : {x y : List ℕ} (xs ys : List (List ℕ)) → Item x → Item y →
    (x ++ following xs) ++ (closing ∷ []) ≡ (y ++ following ys) ++ (closing ∷ []) → (x ≡ y) × (closed xs ≡ closed ys)
first-same {x} {y} xs ys i j e =
    item-same (closed xs) (closed ys) i j (closed-ends xs) (closed-ends ys)
    (sym (append_assoc x (following xs) (closing ∷ [])) ∙ (e ∙ append_assoc y (following ys) (closing ∷ [])))

closed_same : {xs ys : List (List ℕ)} → Items xs → Items ys → closed xs ≡ closed ys → xs ≡ ys
unfolding following concat_map
closed_same none none e = refl
closed_same none (more i is) e = absurd (let z : ◌≡◌ {A = ℕ} closing space = cc in omega arith)
closed_same (more i is) none e = absurd (let z : ◌≡◌ {A = ℕ} closing space = cc in omega arith)
closed_same (more {xs = xs} i is) (more {xs = ys} j js) e =
    let (same, behind) = first-same xs ys i j (cc) in
    ap₂ (λ (z : List ℕ) (zs : List (List ℕ)). z ∷ zs) same (closed_same is js behind)

-- a closing bracket begins no item
no_item : {x : List ℕ} (xs : List (List ℕ)) → Item x → closing ∷ [] ≡ (x ++ following xs) ++ (closing ∷ []) → ⊥
unfolding front kind_of
no_item {x} xs i e =
    let none : [] ≡ x ++ front 0 (closed xs) =
    ap (front 0) (e ∙ append_assoc x (following xs) (closing ∷ [])) ∙ (i.passes 0).at (closed xs) in
    let l = i.some_byte in
    let m = ap length none in
    omega (arith, length-append x (front 0 (closed xs)))

neighbours-same : {xs ys : List (List ℕ)} → Items xs → Items ys →
    neighbours xs ++ (closing ∷ []) ≡ neighbours ys ++ (closing ∷ []) → xs ≡ ys
unfolding neighbours
neighbours-same none none e = refl
neighbours-same none (more {xs = ys} j js) e = absurd (no_item ys j e)
neighbours-same (more {xs = xs} i is) none e = absurd (no_item xs i (sym e))
neighbours-same (more {xs = xs} i is) (more {xs = ys} j js) e =
    let (same, behind) = first-same xs ys i j e in
    ap₂ (λ (z : List ℕ) (zs : List (List ℕ)). z ∷ zs) same (closed_same is js behind)

pub bracket-same : {xs ys : List (List ℕ)} → Items xs → Items ys → bracket xs ≡ bracket ys → xs ≡ ys
unfolding bracket
bracket-same is js e = neighbours-same is js (cc)

-- ---- lists of items
pub items-append : {xs ys : List (List ℕ)} → Items xs → Items ys → Items (xs ++ ys)
items-append none js = js
items-append (more i is) js = more i (items-append is js)

pub items_map : {A : Type 0} (f : A → List ℕ) → ((x : A) → Item (f x)) → (xs : List A) → Items (map f xs)
items_map f h [] = none
items_map f h (x ∷ xs) = more (h x) (items_map f h xs)

pub items-numbered : {A : Type 0} (f : ℕ → A → List ℕ) → ((k : ℕ) (x : A) → Item (f k x)) → (i : ℕ) (xs : List A) →
    Items (numbered f i xs)
unfolding numbered
items-numbered f h i [] = none
items-numbered f h i (x ∷ xs) = more (h i x) (items-numbered f h (suc i) xs)
