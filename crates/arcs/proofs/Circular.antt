-- A partition is refused as circular exactly when no order complies.
-- Of the unplaced parts, the one that a complying order puts first is ready; so where such an order is, placing never
-- gets stuck. And an order that was found complies.
use Prim.Native.Nat.{ℕ, zero, suc, ◌≤◌, ◌<◌}
use mathlib.Core.Path.{◌≡◌, refl, sym, ◌∙◌, ap}
use mathlib.Core.Bool.{Bool, true, false, not}
use mathlib.Core.List.{List, [], ◌∷◌}
use mathlib.Core.Logic.{◌↔◌}
use Rattle.std.specs.Prelude.{Option, None, Some}
use native.Mathlib.Omega.{arith}
use lib.ListN.{length, get_or}
use lib.Dec.{eqb}
use borrow.Author.Tests.{eqb-true, eq-eqb}
use Rattle.words.specs.Lists.{any, up_to}
use Rattle.task.specs.Task.{Atom, Pair, Schema, part_count}
use Rattle.arcs.specs.Order.{arc, NoOrderComplies, ready, next_part, cons_to, place, order_from, order_of}
use Rattle.words.proofs.Lists.{both-ft, In, here, there, in-eq, in-empty, any-in, in-any, get_or-in, up_to-in}
use Rattle.words.proofs.Lists.{length-up_to}
use Rattle.arcs.proofs.Arcs.{arc-self}
use Rattle.arcs.proofs.Best.{next-none}
use Rattle.words.proofs.Ascending.{no_none, Ascend, ascend-up_to, ascend-filter, others, others-in, others-one-less}
use Rattle.arcs.proofs.OrderTaken.{no-arc-ready, order-taken}

module _ (pairs : List Pair) (atoms : List Atom) where
  -- `Complies`, of the rest of an order too
  abbrev NoneBack : List ℕ → Type 0
  NoneBack o = (i j : ℕ) → i < j → j < length o → arc pairs atoms (get_or o j 0) (get_or o i 0) ≡ false

  -- no arc leads to the first part of an order from any part of it
  first-free : (p : ℕ) (o : List ℕ) → NoneBack (p ∷ o) → (q : ℕ) → In q (p ∷ o) → arc pairs atoms q p ≡ false
  first-free p o h q (here e) = ap (λ q. arc pairs atoms q p) e ∙ arc-self pairs atoms p
  first-free p o h q (there i) =
      let (k, l, e) = get_or-in 0 i in
      ap (λ q. arc pairs atoms q p) (sym e) ∙ h 0 (suc k) (omega arith) (omega arith)

  -- of the unplaced parts, the one that such an order puts first is ready
  abbrev SomeReady : List ℕ → Type 0
  SomeReady unplaced = (p : ℕ) × In p unplaced × (ready pairs atoms unplaced p ≡ true)

  some-ready : (o : List ℕ) → NoneBack o → (unplaced : List ℕ) → ((q : ℕ) → In q unplaced → In q o) →
      (u : ℕ) → In u unplaced → SomeReady unplaced
  some-ready [] h unplaced k u i = absurd (in-empty (k u i))
  some-ready (p ∷ o) h unplaced k u i =
      go (any (eqb p) unplaced) refl
      (λ k. some-ready o (λ i j l m. h (suc i) (suc j) (omega arith) (omega arith)) unplaced k u i)
    where
      later : any (eqb p) unplaced ≡ false → (q : ℕ) → In q unplaced → In q (p ∷ o) → In q o
      later e q j (here f) = absurd (both-ft (in-any (eqb p) j (eq-eqb p q (sym f))) e)
      later e q j (there m) = m

      go : (b : Bool) → any (eqb p) unplaced ≡ b → (((q : ℕ) → In q unplaced → In q o) → SomeReady unplaced) →
          SomeReady unplaced
      go true e rest =
          let (q, j, f) = any-in (eqb p) unplaced e in
          (p, in-eq (eqb-true p q f) j, no-arc-ready pairs atoms unplaced p (λ r m. first-free p o h r (k r m)))
      go false e rest = rest (λ q j. later e q j (k q j))

  -- where a complying order has all unplaced parts, placing them comes to an end
  never_stuck : (o : List ℕ) → NoneBack o → (n : ℕ) (unplaced : List ℕ) → n ≤ length unplaced → Ascend unplaced →
      ((q : ℕ) → In q unplaced → In q o) → order_from pairs atoms n unplaced ≡ None → ⊥
  unfolding order_from place cons_to
  never_stuck o c zero unplaced l a k h = no_none (sym h)
  never_stuck o c (suc n) unplaced l a k h =
      go (next_part pairs atoms unplaced) refl h (λ us m b i e. never_stuck o c n us m b i e)
    where
      Rest : Type 0
      Rest = (us : List ℕ) → n ≤ length us → Ascend us → ((q : ℕ) → In q us → In q o) →
          order_from pairs atoms n us ≡ None → ⊥

      some-unplaced : (us : List ℕ) → suc n ≤ length us → (u : ℕ) × In u us
      some-unplaced [] z = absurd (omega arith)
      some-unplaced (u ∷ us) z = (u, here refl)

      not_stuck : next_part pairs atoms unplaced ≡ None → ⊥
      not_stuck e =
          let (u, i) = some-unplaced unplaced l in
          let (p, j, r) = some-ready o c unplaced k u i in
          next-none pairs atoms unplaced e p j r

      rest : (p : ℕ) → Rest → (r : Option (List ℕ)) → order_from pairs atoms n (others p unplaced) ≡ r →
          cons_to p r ≡ None → ⊥
      rest p ih None e f =
          ih (others p unplaced) (omega (arith, others-one-less p a)) (ascend-filter (λ q. not (eqb p q)) a)
          (λ q i. k q (others-in p unplaced q i).0) e
      rest p ih (Some r) e f = no_none (sym f)

      go : (b : Option ℕ) → next_part pairs atoms unplaced ≡ b →
          place (λ us. order_from pairs atoms n us) unplaced b ≡ None → Rest → ⊥
      go None e f ih = not_stuck e
      go (Some p) e f ih = rest p ih (order_from pairs atoms n (others p unplaced)) refl f

none-complies : (s : Schema) → order_of s ≡ None → NoOrderComplies s
unfolding order_of
none-complies s h o parts complies =
    never_stuck s.pairs s.atoms o complies (part_count s.atoms) (up_to (part_count s.atoms))
    (omega (arith, length-up_to (part_count s.atoms))) (ascend-up_to (part_count s.atoms)) stands h
  where
    stands : (q : ℕ) → In q (up_to (part_count s.atoms)) → In q o
    stands q i =
        let (p, k, e) = any-in (eqb q) o (parts.placed q (up_to-in (part_count s.atoms) q i)) in
        in-eq (eqb-true q p e) k

none_found : (s : Schema) → NoOrderComplies s → order_of s ≡ None
none_found s h = go (order_of s) refl
  where
    go : (r : Option (List ℕ)) → order_of s ≡ r → r ≡ None
    go None e = refl
    go (Some o) e = let (parts, complies) = order-taken s o e in absurd (h o parts complies)

-- "no order complies" (refusal 9)
pub circular-exactly : (s : Schema) → (order_of s ≡ None) ↔ NoOrderComplies s
circular-exactly s = (none-complies s, none_found s)
