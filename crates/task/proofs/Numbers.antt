-- Records as numbers: where arguments are below 1024, a record's number is less exactly where the record is, and equal
-- numbers are equal records. An earlier digit outweighs all later ones, and unused arguments are the same zeros.
use Prim.Native.Nat.{ℕ, zero, suc, ◌+◌, ◌-◌, ◌*◌, ◌≤◌, ◌<◌}
use mathlib.Core.Path.{◌≡◌, refl, sym, ◌∙◌, ap, subst}
use mathlib.Core.Bool.{true}
use mathlib.Core.List.{List, [], ◌∷◌, ◌++◌}
use mathlib.Core.Logic.{inl, inr}
use native.Mathlib.Omega.{arith}
use lib.ListN.{length, get_or, replicate, length-replicate}
use lib.Dec.{leb}
use borrow.Author.Tests.{leb-true}
use Rattle.words.specs.Lists.{padded}
use Rattle.task.specs.Task.{Fact, Task, well_formed}
use Rattle.task.specs.Records.{in_base, record_number}
use Rattle.words.proofs.Lists.{In, here, there, in-empty, in-append, all_in, in-get_or, Less, shorter, smaller, same}
use Rattle.words.proofs.Lists.{less-total, before, equal, after, length-padded}
use Rattle.task.proofs.Tests.{task-tests}
use Rattle.task.proofs.States.{key, key-inj, Fits}

abbrev pub Small : List ℕ → Type 0
Small xs = (x : ℕ) → In x xs → x < 1024

-- ---- digits
pub base-mono : (xs ys : List ℕ) (a b : ℕ) → length xs ≡ length ys → Small xs → a < b → in_base a xs < in_base b ys
unfolding in_base
base-mono [] [] a b e s l = l
base-mono [] (y ∷ ys) a b e s l = absurd (omega arith)
base-mono (x ∷ xs) [] a b e s l = absurd (omega arith)
base-mono (x ∷ xs) (y ∷ ys) a b e s l =
    let z = s x (here refl) in
    base-mono xs ys (a * 1024 + x) (b * 1024 + y) (omega arith) (λ v i. s v (there i)) (omega arith)

pub base-append : (xs ys : List ℕ) (a : ℕ) → in_base a (xs ++ ys) ≡ in_base (in_base a xs) ys
unfolding in_base
base-append [] ys a = refl
base-append (x ∷ xs) ys a = base-append xs ys (a * 1024 + x)

pub base-less : {xs ys : List ℕ} → Less xs ys → length xs ≡ length ys → Small xs → (a : ℕ) → in_base a xs < in_base a ys
unfolding in_base
base-less shorter e s a = absurd (omega arith)
base-less (smaller {x = x} {y = y} {xs = xs} {ys = ys} l) e s a =
    base-mono xs ys (a * 1024 + x) (a * 1024 + y) (omega arith) (λ v i. s v (there i)) (omega arith)
base-less (same {x = x} {y = y} {xs = xs} {ys = ys} q l) e s a =
    subst (λ (z : ℕ). in_base (a * 1024 + x) xs < in_base (a * 1024 + z) ys) q
    (base-less l (omega arith) (λ v i. s v (there i)) (a * 1024 + x))

pub small-zeros : (n : ℕ) → Small (replicate n 0)
small-zeros zero x i = absurd (in-empty i)
small-zeros (suc n) x (here e) = omega arith
small-zeros (suc n) x (there i) = small-zeros n x i

pub small-padded : (n : ℕ) (xs : List ℕ) → Small xs → Small (padded n xs)
unfolding padded
small-padded n xs s x i = elim (in-append xs i) [ inl j ↦ s x j | inr j ↦ small-zeros (n - length xs) x j ]

-- ---- facts
-- at most four arguments, each below 1024
pub record Slight (f : Fact) : Type 0 where
  pub short : length f.args ≤ 4
  pub small : Small f.args

pub slight : (t : Task) → well_formed t ≡ true → (f : Fact) → Fits t f → Slight f
slight t h f c =
    let d = task-tests t h in
    let l = leb-true t.objects 1000 d.objects in
    let m = leb-true (get_or t.arities f.pred 0) 4
    (all_in (λ n. leb n 4) d.arities (in-get_or t.arities f.pred 0 c.known)) in
    let e = c.count in
    record { short = omega arith; small = λ o i. let z = c.small o i in omega arith }

pub same_length : (t : Task) (f g : Fact) → Fits t f → Fits t g → f.pred ≡ g.pred →
    length f.args ≡ length g.args
same_length t f g c d e = c.count ∙ (ap (λ (p : ℕ). get_or t.arities p 0) e ∙ sym d.count)

abbrev zeros : List ℕ → List ℕ
zeros xs = replicate (4 - length xs) 0

pub number-less : (f g : Fact) → Slight f → Slight g → (f.pred ≡ g.pred → length f.args ≡ length g.args) →
    Less (key f) (key g) → record_number f < record_number g
unfolding record_number padded
number-less f g a b q (smaller l) =
    let m = length-padded 4 f.args a.short in
    let n = length-padded 4 g.args b.short in
    base-mono (padded 4 f.args) (padded 4 g.args) f.pred g.pred (omega arith)
    (small-padded 4 f.args a.small) l
number-less f g a b q (same e l) =
    let h : length f.args ≡ length g.args = q e in
    let y : in_base f.pred f.args < in_base g.pred g.args =
    subst (λ (p : ℕ). in_base f.pred f.args < in_base p g.args) e (base-less l h a.small f.pred) in
    let m = length-replicate {A = ℕ} (4 - length f.args) 0 in
    let n = length-replicate {A = ℕ} (4 - length g.args) 0 in
    let z = base-mono (zeros f.args) (zeros g.args) (in_base f.pred f.args) (in_base g.pred g.args)
    (omega arith) (small-zeros (4 - length f.args)) y in
    let u = base-append f.args (zeros f.args) f.pred in
    let v = base-append g.args (zeros g.args) g.pred in
    omega arith

module _ (t : Task) (h : well_formed t ≡ true) (f g : Fact) (c : Fits t f) (d : Fits t g) where
  pub less-number : Less (key f) (key g) → record_number f < record_number g
  less-number l = number-less f g (slight t h f c) (slight t h g d) (same_length t f g c d) l

  greater-number : Less (key g) (key f) → record_number g < record_number f
  greater-number l = number-less g f (slight t h g d) (slight t h f c) (same_length t g f d c) l

  pub number-fact : record_number f ≡ record_number g → f ≡ g
  number-fact e = elim (less-total (key f) (key g)) [
    | before l ↦ absurd (let z = less-number l in omega arith)
    | equal q ↦ key-inj f g q
    | after l ↦ absurd (let z = greater-number l in omega arith)
  ]

  pub number-before : record_number f < record_number g → Less (key f) (key g)
  number-before e = elim (less-total (key f) (key g)) [
    | before l ↦ l
    | equal q ↦ absurd (let z = ap record_number (key-inj f g q) in omega arith)
    | after l ↦ absurd (let z = greater-number l in omega arith)
  ]
