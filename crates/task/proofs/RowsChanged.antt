-- A fact that goes out of an ascending list, or comes in, by its place: removing it leaves the list without element k,
-- inserting it gives the list with one more at k.
use Prim.Native.Nat.{ℕ, zero, suc, ◌+◌, ◌≤◌, ◌<◌}
use mathlib.Core.Path.{◌≡◌, refl, sym, ◌∙◌, ap, ap₂, subst}
use mathlib.Core.Bool.{Bool, true, false, cond, not}
use mathlib.Core.List.{List, [], ◌∷◌}
use mathlib.Core.Logic.{◌⊎◌, inl, inr}
use native.Mathlib.Omega.{arith}
use lib.ListN.{length, get_or}
use Rattle.words.specs.Lists.{filter, keep_if}
use Rattle.task.specs.Task.{Fact, Task, fact_less, fact_eq}
use Rattle.task.specs.Run.{holds, insert, remove_all}
use Rattle.words.proofs.Lists.{false-if, In, here, there, in-empty, in-eq, filter-in, in-get_or, Less, less_list-less}
use Rattle.words.proofs.Lists.{less-less_list, less-irrefl, less-trans, filter-all}
use Rattle.task.proofs.States.{
  key,
  fact_eq-eq,
  holds-in,
  in-holds,
  Asc,
  asc-cons,
  asc-ext,
  in_insert,
  insert-old,
  asc-insert,
  asc-filter,
  Fits,
  State,
}
use Rattle.task.proofs.AtomsStand.{no_fact}

-- ---- lists without an element, and with one more
abbrev pub without : ℕ → List Fact → List Fact
without k [] = []
without zero (f ∷ s) = s
without (suc k) (f ∷ s) = f ∷ without k s

abbrev pub placed : ℕ → Fact → List Fact → List Fact
placed zero f s = f ∷ s
placed (suc k) f [] = f ∷ []
placed (suc k) f (g ∷ s) = g ∷ placed k f s

pub length_without : (k : ℕ) (s : List Fact) → k < length s → length (without k s) + 1 ≡ length s
length_without k [] l = absurd (omega arith)
length_without zero (f ∷ s) l = omega arith
length_without (suc k) (f ∷ s) l = let e = length_without k s (omega arith) in omega arith

pub without-before : (k : ℕ) (s : List Fact) (i : ℕ) (d : Fact) → i < k → get_or (without k s) i d ≡ get_or s i d
without-before k [] i d l = refl
without-before zero (f ∷ s) i d l = absurd (omega arith)
without-before (suc k) (f ∷ s) zero d l = refl
without-before (suc k) (f ∷ s) (suc i) d l = without-before k s i d (omega arith)

pub without_from : (k : ℕ) (s : List Fact) (i : ℕ) (d : Fact) → k ≤ i → get_or (without k s) i d ≡ get_or s (suc i) d
without_from k [] i d l = refl
without_from zero (f ∷ s) i d l = refl
without_from (suc k) (f ∷ s) zero d l = absurd (omega arith)
without_from (suc k) (f ∷ s) (suc i) d l = without_from k s i d (omega arith)

pub length-placed : (k : ℕ) (f : Fact) (s : List Fact) → k ≤ length s → length (placed k f s) ≡ length s + 1
length-placed zero f s l = omega arith
length-placed (suc k) f [] l = absurd (omega arith)
length-placed (suc k) f (g ∷ s) l = let e = length-placed k f s (omega arith) in omega arith

pub placed-before : (k : ℕ) (f : Fact) (s : List Fact) (i : ℕ) (d : Fact) → k ≤ length s → i < k →
    get_or (placed k f s) i d ≡ get_or s i d
placed-before zero f s i d l m = absurd (omega arith)
placed-before (suc k) f [] i d l m = absurd (omega arith)
placed-before (suc k) f (g ∷ s) zero d l m = refl
placed-before (suc k) f (g ∷ s) (suc i) d l m = placed-before k f s i d (omega arith) (omega arith)

pub placed_at : (k : ℕ) (f : Fact) (s : List Fact) (d : Fact) → k ≤ length s → get_or (placed k f s) k d ≡ f
placed_at zero f s d l = refl
placed_at (suc k) f [] d l = absurd (omega arith)
placed_at (suc k) f (g ∷ s) d l = placed_at k f s d (omega arith)

pub placed-behind : (k : ℕ) (f : Fact) (s : List Fact) (i : ℕ) (d : Fact) → k ≤ length s → k ≤ i →
    get_or (placed k f s) (suc i) d ≡ get_or s i d
placed-behind zero f s i d l m = refl
placed-behind (suc k) f [] i d l m = absurd (omega arith)
placed-behind (suc k) f (g ∷ s) zero d l m = absurd (omega arith)
placed-behind (suc k) f (g ∷ s) (suc i) d l m = placed-behind k f s i d (omega arith) (omega arith)

-- ---- removing and inserting, by place
abbrev pub apart : Fact → Fact → Bool
apart f g = not (holds (f ∷ []) g)

one_in : {f g : Fact} → In g (f ∷ []) → g ≡ f
one_in (here e) = e
one_in (there i) = absurd (in-empty i)

pub other-apart : (f g : Fact) → (g ≡ f → ⊥) → apart f g ≡ true
other-apart f g h = ap not (false-if (holds (f ∷ []) g) (λ e. h (one_in (holds-in (f ∷ []) g e))))

same-apart : (f g : Fact) → g ≡ f → apart f g ≡ false
same-apart f g e = ap not (in-holds {s = f ∷ []} {f = g} (here e))

pub remove_absent : (f : Fact) (s : List Fact) → (In f s → ⊥) → remove_all (f ∷ []) s ≡ s
unfolding remove_all
remove_absent f s h = filter-all (apart f) s (λ g i. other-apart f g (λ e. h (in-eq (sym e) i)))

less-apart : {f g : Fact} → Less (key f) (key g) → g ≡ f → ⊥
less-apart {f = f} l e = less-irrefl (key f) (rw e at l)

pub remove-place : (f : Fact) (s : List Fact) → Asc s → (k : ℕ) → k < length s → get_or s k no_fact ≡ f →
    remove_all (f ∷ []) s ≡ without k s
unfolding remove_all filter keep_if
remove-place f [] a k l e = absurd (omega arith)
remove-place f (g ∷ s) (asc-cons b a) zero l e =
    ap (λ (c : Bool). keep_if c g (filter (apart f) s)) (same-apart f g e) ∙
    filter-all (apart f) s (λ h i. other-apart f h (λ q. less-apart (b h i) (q ∙ sym e)))
remove-place f (g ∷ s) (asc-cons b a) (suc k) l e =
    let m : k < length s = omega arith in
    ap (λ (c : Bool). keep_if c g (filter (apart f) s))
    (other-apart f g (λ q. less-apart (b (get_or s k no_fact) (in-get_or s k no_fact m)) (e ∙ sym q))) ∙
    ap {B = List Fact} (λ (x : List Fact). g ∷ x) (remove-place f s a k m e)

pub insert-present : (f : Fact) (s : List Fact) → Asc s → In f s → insert f s ≡ s
insert-present f s a i = asc-ext (asc-insert f a) a (λ g j. go g (in_insert f s g j)) (λ g j. insert-old f s g j)
  where
    go : (g : Fact) → (g ≡ f) ⊎ In g s → In g s
    go g (inl e) = in-eq e i
    go g (inr j) = j

not-less : (f g : Fact) → Less (key g) (key f) → fact_less f g ≡ false
unfolding fact_less
not-less f g l = false-if (fact_less f g) (λ e. less-irrefl (key f) (less-trans (less_list-less (key f) (key g) e) l))

not_equal : (f g : Fact) → Less (key g) (key f) → fact_eq f g ≡ false
not_equal f g l = false-if (fact_eq f g) (λ e. less-apart l (fact_eq-eq f g e))

is-less : (f g : Fact) → Less (key f) (key g) → fact_less f g ≡ true
unfolding fact_less
is-less f g l = less-less_list l

pub insert-place : (f : Fact) (s : List Fact) (k : ℕ) → k ≤ length s →
    ((i : ℕ) → i < k → Less (key (get_or s i no_fact)) (key f)) → (k < length s → Less (key f) (key (get_or s k no_fact))) →
    insert f s ≡ placed k f s
unfolding insert
insert-place f [] zero l below from = refl
insert-place f [] (suc k) l below from = absurd (omega arith)
insert-place f (g ∷ s) zero l below from =
    ap (λ (b : Bool). cond b (f ∷ g ∷ s) (cond (fact_eq f g) (g ∷ s) (g ∷ insert f s)))
    (is-less f g (from (omega arith)))
insert-place f (g ∷ s) (suc k) l below from =
    let m = below 0 (omega arith) in
    ap₂ (λ (b c : Bool). cond b (f ∷ g ∷ s) (cond c (g ∷ s) (g ∷ insert f s))) (not-less f g m) (not_equal f g m) ∙
    ap {B = List Fact} (λ (x : List Fact). g ∷ x)
    (insert-place f s k (omega arith) (λ i h. below (suc i) (omega arith)) (λ h. from (omega arith)))

-- ---- states
pub state-removed : {t : Task} {s : List Fact} (fs : List Fact) → State t s → State t (remove_all fs s)
unfolding remove_all
state-removed {s = s} fs c = record {
  fit = λ f i. c.fit f (filter-in (λ g. not (holds fs g)) s f i).0;
  asc = asc-filter (λ g. not (holds fs g)) c.asc;
}

pub state-inserted : {t : Task} {s : List Fact} (f : Fact) → Fits t f → State t s → State t (insert f s)
state-inserted {t} {s} f h c = record { fit = λ g i. go g (in_insert f s g i); asc = asc-insert f c.asc }
  where
    go : (g : Fact) → (g ≡ f) ⊎ In g s → Fits t g
    go g (inl e) = subst (Fits t) (sym e) h
    go g (inr i) = c.fit g i
