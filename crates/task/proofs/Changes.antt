-- States that change fact by fact: removing several is removing one after another, what holds afterwards, and how long
-- the list is. So a size can be counted before anything is changed.
use Prim.Native.Nat.{◌+◌, ◌≤◌}
use mathlib.Core.Path.{◌≡◌, refl, sym, ◌∙◌, ap}
use mathlib.Core.Bool.{Bool, true, false, cond, not, ◌&&◌, ◌||◌}
use mathlib.Core.List.{List, [], ◌∷◌, ◌++◌}
use mathlib.Core.Logic.{inl, inr}
use native.Mathlib.Omega.{arith}
use lib.ListN.{length}
use Rattle.words.specs.Lists.{any, filter, keep_if}
use Rattle.task.specs.Task.{Fact, fact_less, fact_eq}
use Rattle.task.specs.Run.{holds, insert, insert_all, remove_all}
use Rattle.words.proofs.Lists.{both-ft, bool-ext, and_left, and_right, and_both, or_cases, or_left, or_right, In, here}
use Rattle.words.proofs.Lists.{there, in-filter, filter-in, get_or-in, filter-all}
use Rattle.task.proofs.States.{
  fact_eq-eq,
  holds-in,
  in-holds,
  Asc,
  asc-insert,
  in-insert_all,
  insert_all-old,
  insert_all-new,
}
use Rattle.task.proofs.AtomsStand.{no_fact}
use Rattle.task.proofs.RowsChanged.{remove_absent, remove-place, insert-present, length_without}

-- ---- one after another
pub remove-more : (f : Fact) (fs s : List Fact) → remove_all (f ∷ fs) s ≡ remove_all fs (remove_all (f ∷ []) s)
unfolding remove_all filter keep_if holds any
remove-more f fs [] = refl
remove-more f fs (g ∷ s) = go (fact_eq g f) (holds fs g) refl (remove-more f fs s)
  where
    p : Fact → Bool
    p g = not (holds fs g)

    q : Fact → Bool
    q g = not (holds (f ∷ []) g)

    r : Fact → Bool
    r g = not (holds (f ∷ fs) g)

    go : (b c : Bool) → holds fs g ≡ c → filter r s ≡ filter p (filter q s) →
        keep_if (not (b || c)) g (filter r s) ≡ filter p (keep_if (not (b || false)) g (filter q s))
    go true c e h = h
    go false true e h = h ∙ ap (λ (u : Bool). keep_if (not u) g (filter p (filter q s))) (sym e)
    go false false e h =
        ap {B = List Fact} (λ (u : List Fact). g ∷ u) h ∙
        ap (λ (u : Bool). keep_if (not u) g (filter p (filter q s))) (sym e)

pub remove-nothing : (s : List Fact) → remove_all [] s ≡ s
unfolding remove_all holds any
remove-nothing s = filter-all (λ g. not (holds [] g)) s (λ g i. refl)

pub remove-last : (fs : List Fact) (f : Fact) (s : List Fact) →
    remove_all (fs ++ (f ∷ [])) s ≡ remove_all (f ∷ []) (remove_all fs s)
remove-last [] f s = ap (remove_all (f ∷ [])) (sym (remove-nothing s))
remove-last (g ∷ fs) f s =
    remove-more g (fs ++ (f ∷ [])) s ∙
    (remove-last fs f (remove_all (g ∷ []) s) ∙ ap (remove_all (f ∷ [])) (sym (remove-more g fs s)))

pub insert-last : (fs : List Fact) (f : Fact) (s : List Fact) → insert_all (fs ++ (f ∷ [])) s ≡ insert f (insert_all fs s)
unfolding insert_all
insert-last [] f s = refl
insert-last (g ∷ fs) f s = insert-last fs f (insert g s)

-- ---- what holds afterwards
pub removed-holds : (fs s : List Fact) (f : Fact) → holds (remove_all fs s) f ≡ holds s f && not (holds fs f)
unfolding remove_all
removed-holds fs s f = bool-ext (holds (remove_all fs s) f) (holds s f && not (holds fs f))
    (λ h. let (i, e) = filter-in (λ g. not (holds fs g)) s f (holds-in (remove_all fs s) f h) in
    and_both _ _ (in-holds i) e)
    (λ h. in-holds (in-filter (λ g. not (holds fs g)) (holds-in s f (and_left (holds s f) (not (holds fs f)) h))
    (and_right (holds s f) (not (holds fs f)) h)))

pub inserted-holds : (fs s : List Fact) (f : Fact) → holds (insert_all fs s) f ≡ holds fs f || holds s f
inserted-holds fs s f = bool-ext (holds (insert_all fs s) f) (holds fs f || holds s f)
    (λ h. elim (in-insert_all fs s f (holds-in (insert_all fs s) f h)) [
      | inl i ↦ or_left (holds fs f) (holds s f) (in-holds i)
      | inr i ↦ or_right (holds fs f) (holds s f) (in-holds i)
    ])
    (λ h. elim (or_cases (holds fs f) (holds s f) h) [
      | inl e ↦ in-holds (insert_all-new fs s f (holds-in fs f e))
      | inr e ↦ in-holds (insert_all-old fs s f (holds-in s f e))
    ])

-- ---- lengths
pub remove-held : (f : Fact) (s : List Fact) → Asc s → holds s f ≡ true → length (remove_all (f ∷ []) s) + 1 ≡ length s
remove-held f s a h =
    let (k, l, e) = get_or-in no_fact (holds-in s f h) in
    let q = ap length (remove-place f s a k l e) in
    let z = length_without k s l in
    omega arith

pub remove-missing : (f : Fact) (s : List Fact) → holds s f ≡ false → length (remove_all (f ∷ []) s) ≡ length s
remove-missing f s h = ap length (remove_absent f s (λ i. both-ft (in-holds i) h))

pub insert-missing : (f : Fact) (s : List Fact) → (In f s → ⊥) → length (insert f s) ≡ length s + 1
unfolding insert
insert-missing f [] h = refl
insert-missing f (g ∷ s) h = go (fact_less f g) (fact_eq f g) refl (insert-missing f s (λ i. h (there i)))
  where
    go : (b c : Bool) → fact_eq f g ≡ c → length (insert f s) ≡ length s + 1 →
        length (cond b (f ∷ g ∷ s) (cond c (g ∷ s) (g ∷ insert f s))) ≡ length (g ∷ s) + 1
    go true c e r = omega arith
    go false true e r = absurd (h (here (fact_eq-eq f g e)))
    go false false e r = omega arith

pub insert-held : (f : Fact) (s : List Fact) → Asc s → holds s f ≡ true → length (insert f s) ≡ length s
insert-held f s a h = ap length (insert-present f s a (holds-in s f h))

pub insert-length : (f : Fact) (s : List Fact) → Asc s →
    (length s ≤ length (insert f s)) × (length (insert f s) ≤ length s + 1)
insert-length f s a = go (holds s f) refl
  where
    go : (b : Bool) → holds s f ≡ b → (length s ≤ length (insert f s)) × (length (insert f s) ≤ length s + 1)
    go true e = let z = insert-held f s a e in (omega arith, omega arith)
    go false e = let z = insert-missing f s (λ i. both-ft (in-holds i) e) in (omega arith, omega arith)

pub insert_all-length : (fs s : List Fact) → Asc s →
    (length s ≤ length (insert_all fs s)) × (length (insert_all fs s) ≤ length s + length fs)
unfolding insert_all
insert_all-length [] s a = (omega arith, omega arith)
insert_all-length (f ∷ fs) s a =
    let (p, q) = insert-length f s a in
    let (u, v) = insert_all-length fs (insert f s) (asc-insert f a) in
    (omega arith, omega arith)
