-- Parts already placed, those that are not unplaced: each choice places one more, and its parameters join those of the
-- others. How many new parameters a part has depends on which parts are placed, and not on their order.
use Prim.Native.Nat.{ℕ, ◌<◌}
use mathlib.Core.Path.{◌≡◌, refl, sym, ◌∙◌, ap}
use mathlib.Core.Bool.{Bool, true, not, ◌&&◌, ◌||◌}
use mathlib.Core.List.{List}
use mathlib.Core.Logic.{◌⊎◌, inl, inr}
use lib.ListN.{length}
use lib.Dec.{eqb}
use borrow.Author.Tests.{eqb-true, eqb-false, eq-eqb, not-true}
use Rattle.words.specs.Lists.{any, up_to}
use Rattle.words.specs.Sets.{member}
use Rattle.words.proofs.Lists.{both-ft, bool_cases, bool-ext, false-if, or_cases, or_left, or_right, In, in-eq, any-in}
use Rattle.words.proofs.Lists.{in-any, in-filter, filter-in, filter_same, in-up_to, up_to-in}
use Rattle.words.proofs.Ascending.{others, in-others, others-in}
use Rattle.words.proofs.BitSets.{member-zero}
use Rattle.task.specs.Limits.{most_parameters}
use Rattle.task.specs.Task.{Atom, part_count}
use Rattle.arcs.specs.Order.{in_part, tests, new_parameters, placed_parts}
use Rattle.arcs.specs.Stretches.{IsBound}

module _ (atoms : List Atom) where
  -- ---- placed parts
  pub in-placed : (us : List ℕ) (q : ℕ) → q < part_count atoms → (In q us → ⊥) → In q (placed_parts atoms us)
  unfolding placed_parts
  in-placed us q l n =
      in-filter (λ q. not (any (eqb q) us)) (in-up_to (part_count atoms) q l)
      (ap not (false-if (any (eqb q) us)
      (λ e. let (r, i, f) = any-in (eqb q) us e in n (in-eq (eqb-true q r f) i))))

  pub placed-in : (us : List ℕ) (q : ℕ) → In q (placed_parts atoms us) → (q < part_count atoms) × (In q us → ⊥)
  unfolding placed_parts
  placed-in us q i =
      let (k, e) = filter-in (λ q. not (any (eqb q) us)) (up_to (part_count atoms)) q i in
      (up_to-in (part_count atoms) q k, λ j. both-ft (in-any (eqb q) j (eq-eqb q q refl)) (not-true (any (eqb q) us) e))

  -- none is, where all are unplaced
  pub none-placed : (q : ℕ) → In q (placed_parts atoms (up_to (part_count atoms))) → ⊥
  none-placed q i = let (l, n) = placed-in (up_to (part_count atoms)) q i in n (in-up_to (part_count atoms) q l)

  -- once p is, it and those before it are
  module _ (us : List ℕ) (p : ℕ) where
    pub placed-next : (q : ℕ) → In q (placed_parts atoms (others p us)) → (p ≡ q) ⊎ In q (placed_parts atoms us)
    placed-next q i =
        let (l, n) = placed-in (others p us) q i in
        elim (bool_cases (eqb p q)) [
          | inl e ↦ inl (eqb-true p q e)
          | inr e ↦ inr (in-placed us q l (λ j. n (in-others p j (eqb-false p q e))))
        ]

    pub next-placed : p < part_count atoms → In p (placed_parts atoms (others p us))
    next-placed l = in-placed (others p us) p l (λ j. (others-in p us p j).1 refl)

    pub still_placed : (q : ℕ) → In q (placed_parts atoms us) → In q (placed_parts atoms (others p us))
    still_placed q i =
        let (l, n) = placed-in us q i in
        in-placed (others p us) q l (λ j. n (others-in p us q j).0)

  -- ---- their parameters
  any-placed : (x : ℕ) (a b : List ℕ) → ((q : ℕ) → In q a → In q b) → any (in_part atoms x) a ≡ true →
      any (in_part atoms x) b ≡ true
  any-placed x a b f e = let (q, i, h) = any-in (in_part atoms x) a e in in-any (in_part atoms x) (f q i) h

  pub new-same : (a b : List ℕ) → ((q : ℕ) → In q a → In q b) → ((q : ℕ) → In q b → In q a) → (p : ℕ) →
      new_parameters atoms a p ≡ new_parameters atoms b p
  unfolding new_parameters
  new-same a b f g p =
      ap length (filter_same (is_new a) (is_new b) (up_to most_parameters)
      (λ x i. ap (λ (s : Bool). tests atoms x p && not s)
      (bool-ext (any (in_part atoms x) a) (any (in_part atoms x) b) (any-placed x a b f) (any-placed x b a g))))
    where
      is_new : List ℕ → ℕ → Bool
      is_new placed x = tests atoms x p && not (any (in_part atoms x) placed)

  pub bound-none : IsBound atoms (placed_parts atoms (up_to (part_count atoms))) 0
  bound-none x =
      member-zero x
      ∙ sym (false-if (any (in_part atoms x) (placed_parts atoms (up_to (part_count atoms))))
      (λ e. let (q, i, h) = any-in (in_part atoms x) _ e in none-placed q i))

  pub bound-more : (us : List ℕ) (p bound own more : ℕ) → p < part_count atoms →
      IsBound atoms (placed_parts atoms us) bound → ((x : ℕ) → member own x ≡ in_part atoms x p) →
      ((x : ℕ) → member more x ≡ member bound x || member own x) → IsBound atoms (placed_parts atoms (others p us)) more
  bound-more us p bound own more l b o m x =
      m x ∙ ap (λ (s : Bool). s || member own x) (b x) ∙ ap (λ (s : Bool). before || s) (o x)
      ∙ bool-ext (before || in_part atoms x p) after to from
    where
      before : Bool
      before = any (in_part atoms x) (placed_parts atoms us)

      after : Bool
      after = any (in_part atoms x) (placed_parts atoms (others p us))

      to : before || in_part atoms x p ≡ true → after ≡ true
      to h = elim (or_cases before (in_part atoms x p) h) [
        | inl e ↦ any-placed x (placed_parts atoms us) (placed_parts atoms (others p us)) (still_placed us p) e
        | inr e ↦ in-any (in_part atoms x) (next-placed us p l) e
      ]

      from : after ≡ true → before || in_part atoms x p ≡ true
      from h =
          let (q, i, e) = any-in (in_part atoms x) (placed_parts atoms (others p us)) h in
          elim (placed-next us p q i) [
            | inl s ↦ or_right before (in_part atoms x p) (ap (in_part atoms x) s ∙ e)
            | inr k ↦ or_left before (in_part atoms x p) (in-any (in_part atoms x) k e)
          ]
