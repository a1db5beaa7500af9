-- Deletes and adds exchanged: whatever is taken out that no add needs, and whatever add is put in, inserting all adds
-- into the state without all deletes comes out the same, since ascending lists with the same members are equal.
use Prim.Native.Nat.{ℕ, zero, suc, ◌+◌, ◌-◌, ◌≤◌, ◌<◌}
use mathlib.Core.Path.{◌≡◌, sym, ◌∙◌, ap, subst}
use mathlib.Core.Bool.{true, not}
use mathlib.Core.List.{List, [], ◌∷◌}
use mathlib.Core.Logic.{◌⊎◌, inl, inr}
use native.Mathlib.Omega.{arith}
use native.Mathlib.Decide.{dec_lt}
use borrow.Author.Tests.{not-true}
use Rattle.words.specs.Lists.{all, up_from}
use Rattle.task.specs.Task.{Fact}
use Rattle.task.specs.Run.{holds, insert_all, remove_all}
use Rattle.task.specs.Spans.{span}
use Rattle.words.proofs.Lists.{both-ft, false-if, In, here, there, in-empty, in-eq, in_map, map-in, in_all, all_in}
use Rattle.words.proofs.Lists.{in-up_from, up_from-in, in-filter, filter-in}
use Rattle.task.proofs.States.{
  holds-in,
  in-holds,
  Asc,
  asc-ext,
  asc-insert_all,
  in-insert_all,
  insert_all-old,
  insert_all-new,
}
use Rattle.task.proofs.RowsChanged.{insert-present}
use Rattle.task.proofs.SpanLaws.{span_more}
use Rattle.task.proofs.SizeLaws.{removed-asc}

-- ---- removing, by membership
pub removed-in : (fs s : List Fact) (x : Fact) → In x (remove_all fs s) → In x s × (In x fs → ⊥)
unfolding remove_all
removed-in fs s x i =
    let (j, e) = filter-in (λ g. not (holds fs g)) s x i in
    (j, λ k. both-ft (in-holds k) (not-true (holds fs x) e))

pub in-removed : (fs s : List Fact) (x : Fact) → In x s → (In x fs → ⊥) → In x (remove_all fs s)
unfolding remove_all
in-removed fs s x i n = in-filter (λ g. not (holds fs g)) i (ap not (false-if (holds fs x) (λ e. n (holds-in fs x e))))

pub one_in : {f x : Fact} → In x (f ∷ []) → x ≡ f
one_in (here e) = e
one_in (there i) = absurd (in-empty i)

-- s' is what s becomes with the delete d dealt with: d has gone unless it is an add, and only adds have come
pub same_end : (adds : List Fact) (d : Fact) (s s' : List Fact) → Asc s → Asc s' →
    ((x : Fact) → In x s' → In x adds ⊎ (In x s × (x ≡ d → ⊥))) →
    ((x : Fact) → In x s → (x ≡ d → ⊥) → In x adds ⊎ In x s') →
    (fs : List Fact) → insert_all adds (remove_all fs s') ≡ insert_all adds (remove_all (d ∷ fs) s)
same_end adds d s s' a a' p q fs =
    asc-ext (asc-insert_all adds (removed-asc fs a')) (asc-insert_all adds (removed-asc (d ∷ fs) a))
    (λ x i. to x (in-insert_all adds (remove_all fs s') x i))
    (λ x i. back x (in-insert_all adds (remove_all (d ∷ fs) s) x i))
  where
    new : (x : Fact) (u : List Fact) → In x adds → In x (insert_all adds u)
    new x u i = insert_all-new adds u x i

    to : (x : Fact) → In x adds ⊎ In x (remove_all fs s') → In x (insert_all adds (remove_all (d ∷ fs) s))
    to x (inl i) = new x (remove_all (d ∷ fs) s) i
    to x (inr i) = let (j, n) = removed-in fs s' x i in elim (p x j) [
      | inl k ↦ new x (remove_all (d ∷ fs) s) k
      | inr k ↦ insert_all-old adds (remove_all (d ∷ fs) s) x (in-removed (d ∷ fs) s x k.0 (λ m. neither m k.1 n))
    ]
      where
        neither : In x (d ∷ fs) → (x ≡ d → ⊥) → (In x fs → ⊥) → ⊥
        neither (here e) u v = u e
        neither (there m) u v = v m

    back : (x : Fact) → In x adds ⊎ In x (remove_all (d ∷ fs) s) → In x (insert_all adds (remove_all fs s'))
    back x (inl i) = new x (remove_all fs s') i
    back x (inr i) = let (j, n) = removed-in (d ∷ fs) s x i in elim (q x j (λ e. n (here e))) [
      | inl k ↦ new x (remove_all fs s') k
      | inr k ↦ insert_all-old adds (remove_all fs s') x (in-removed fs s' x k (λ m. n (there m)))
    ]

-- ---- spans, by membership
module _ (g : ℕ → Fact) where
  pub in_span : (a b k : ℕ) → a ≤ k → k < b → In (g k) (span g a b)
  unfolding span
  in_span a b k l m = in_map g (in-up_from a (b - a) k l (omega arith))

  pub span-in : (a b : ℕ) (f : Fact) → In f (span g a b) → (k : ℕ) × (a ≤ k) × (k < b) × (f ≡ g k)
  unfolding span
  span-in a b f h =
      let (k, j, e) = map-in g (up_from a (b - a)) f h in
      let (m, n) = up_from-in a (b - a) k j in
      (k, m, omega arith, e)

  -- the atoms from a to b - 1 hold
  abbrev pub Held : List Fact → ℕ → ℕ → Type 0
  Held s a b = (k : ℕ) → a ≤ k → k < b → In (g k) s

  pub all_held : (s : List Fact) (a b : ℕ) → all (holds s) (span g a b) ≡ true → Held s a b
  all_held s a b h k l m = holds-in s (g k) (all_in (holds s) h (in_span a b k l m))

  pub held_all : (s : List Fact) (a b : ℕ) → Held s a b → all (holds s) (span g a b) ≡ true
  held_all s a b h = in_all (holds s) (span g a b) (λ f j.
      let (k, m, n, e) = span-in a b f j in
      in-holds (in-eq e (h k m n)))

  pub held-join : (s : List Fact) (a b c : ℕ) → Held s a b → Held s b c → Held s a c
  held-join s a b c p q k l m = elim (dec_lt k b) [ yes x ↦ p k l x | no x ↦ q k (omega arith) m ]

  pub held_none : (s : List Fact) (a : ℕ) → Held s a a
  held_none s a k l m = absurd (omega arith)

  pub held_more : {s : List Fact} {a k : ℕ} → Held s a k → holds s (g k) ≡ true → Held s a (k + 1)
  held_more {s} {a} {k} p h j l m = elim (dec_lt j k) [
    | yes x ↦ p j l x
    | no x ↦ let e : k ≡ j = omega arith in
        subst (λ (y : ℕ). In (g y) s) e (holds-in s (g k) h)
  ]

  -- adds that hold need not come in
  pub rest-comes : (s : List Fact) → Asc s → (a b : ℕ) (count k : ℕ) → k ≡ a + count → k ≤ b → Held s a k →
      insert_all (span g k b) s ≡ insert_all (span g a b) s
  unfolding insert_all
  rest-comes s h a b zero k e l p =
      let z : k ≡ a = omega arith in
      ap (λ (j : ℕ). insert_all (span g j b) s) z
  rest-comes s h a b (suc count) k e l p =
      rest-comes s h (a + 1) b count k (omega arith) l (λ j x y. p j (omega arith) y) ∙
      sym (ap (λ (fs : List Fact). insert_all fs s) (span_more g a b (omega arith)) ∙
      ap (insert_all (span g (a + 1) b))
      (insert-present (g a) s h (p a (omega arith) (omega arith))))
