-- Some order of a schema's parts complies exactly when all its parts can be placed; so the test by lowest free parts
-- tells it. An order that complies is a choice of parts to place; and the parts in the order in which they are placed
-- comply. Nothing here depends on which order is taken.
use Prim.Native.Nat.{ℕ, zero, suc, ◌<◌}
use mathlib.Core.Path.{◌≡◌, refl, sym, ◌∙◌, ap}
use mathlib.Core.Bool.{Bool, true, false, not}
use mathlib.Core.List.{List, [], ◌∷◌}
use mathlib.Core.Logic.{◌↔◌}
use Rattle.std.specs.Prelude.{Option, None, Some}
use native.Mathlib.Omega.{arith}
use lib.ListN.{length, get_or}
use lib.Dec.{eqb}
use borrow.Author.Tests.{eqb-true, eq-eqb}
use Rattle.words.specs.Lists.{up_to}
use Rattle.words.proofs.Lists.{no_tf, no_ft, bool-ext, In, here, there, in-eq, any-in, in-any, in-get_or, get_or-in}
use Rattle.words.proofs.Lists.{in-up_to, up_to-in, length-up_to}
use Rattle.words.proofs.Ascending.{Ascend, ascend-up_to, ascend-filter, others, in-others, others-in, others-fewer}
use Rattle.words.proofs.Ascending.{others-one-less}
use Rattle.task.specs.Task.{Schema, part_count}
use Rattle.arcs.specs.Order.{OrderOfParts, Complies, NoOrderComplies, order_of}
use Rattle.arcs.proofs.Arcs.{arc-self}
use Rattle.arcs.proofs.OrderTaken.{order-taken}
use Rattle.arcs.proofs.Circular.{circular-exactly}
use Rattle.proposals.specs.Proposal.{is_some, some_order}
use Rattle.proposals.specs.Circle.{arcs_of, Arcs, no_circle}
use Rattle.proposals.proofs.Kahn.{free-no-arc, no-arc-free, Placeable, all-placed, place-next, placeable-within}
use Rattle.proposals.proofs.Kahn.{placeable-fewer, no-circle-exactly}

-- ---- from an order
-- no arc goes backwards in it
abbrev NoneBack : Arcs → List ℕ → Type 0
NoneBack arcs o = (i j : ℕ) → i < j → j < length o → arcs (get_or o j 0) (get_or o i 0) ≡ false

module _ (arcs : Arcs) (own : (p : ℕ) → arcs p p ≡ false) where
  order-placeable : (o : List ℕ) → NoneBack arcs o → Placeable arcs o
  order-placeable [] h = all-placed
  order-placeable (p ∷ o) h =
      place-next (here refl) (no-arc-free arcs (p ∷ o) p from)
      (placeable-within (order-placeable o (λ i j l m. h (suc i) (suc j) (omega arith) (omega arith)))
      (others p (p ∷ o)) (λ q i. let (k, n) = others-in p (p ∷ o) q i in later q n k))
    where
      from : (q : ℕ) → In q (p ∷ o) → arcs q p ≡ false
      from q (here e) = ap (λ x. arcs x p) e ∙ own p
      from q (there i) =
          let (k, l, e) = get_or-in 0 i in
          ap (λ x. arcs x p) (sym e) ∙ h 0 (suc k) (omega arith) (omega arith)

      later : (q : ℕ) → (p ≡ q → ⊥) → In q (p ∷ o) → In q o
      later q n (here e) = absurd (n (sym e))
      later q n (there i) = i

-- ---- to an order
-- the parts in the order in which they are placed
record Ordered (arcs : Arcs) (us o : List ℕ) : Type 0 where
  size : length o ≡ length us
  from : (q : ℕ) → In q o → In q us
  placed : (q : ℕ) → In q us → In q o
  complies : NoneBack arcs o

placed-order : {arcs : Arcs} {us : List ℕ} → Placeable arcs us → Ascend us → (o : List ℕ) × Ordered arcs us o
placed-order all-placed a =
    ([], record { size = refl; from = λ q i. i; placed = λ q i. i; complies = λ i j l m. absurd (omega arith) })
placed-order {arcs} (place-next {p = p} {us = us} i f k) a =
    let (o, h) = placed-order k (ascend-filter (λ q. not (eqb p q)) a) in (p ∷ o, next o h)
  where
    next : (o : List ℕ) → Ordered arcs (others p us) o → Ordered arcs us (p ∷ o)
    next o h = record { size = size; from = from; placed = placed; complies = complies }
      where
        size : suc (length o) ≡ length us
        size = let x = others-fewer i in let y = others-one-less p a in let z = h.size in omega arith

        from : (q : ℕ) → In q (p ∷ o) → In q us
        from q (here e) = in-eq e i
        from q (there j) = (others-in p us q (h.from q j)).0

        placed : (q : ℕ) → In q us → In q (p ∷ o)
        placed q j = go (eqb p q) refl
          where
            go : (b : Bool) → eqb p q ≡ b → In q (p ∷ o)
            go true e = here (sym (eqb-true p q e))
            go false e = there (h.placed q (in-others p j (λ d. no_tf (sym (eq-eqb p q d) ∙ e))))

        complies : NoneBack arcs (p ∷ o)
        complies i zero l m = absurd (omega arith)
        complies zero (suc j) l m =
            free-no-arc arcs us p f (get_or o j 0) (from (get_or o j 0) (there (in-get_or o j 0 (omega arith))))
        complies (suc i) (suc j) l m = h.complies i j (omega arith) (omega arith)

-- ---- the orders of a schema
-- "accepted by the order rule": the order that is taken, which complies
pub record Accepted (s : Schema) : Type 0 where
  pub order : List ℕ
  pub taken : order_of s ≡ Some order
  pub parts : OrderOfParts s order
  pub complies : Complies s order

pub some-order : (s : Schema) → some_order s ≡ true → Accepted s
unfolding some_order is_some
some-order s h = go (order_of s) refl h
  where
    go : (r : Option (List ℕ)) → order_of s ≡ r → is_some r ≡ true → Accepted s
    go None e k = absurd (no_ft k)
    go (Some o) e k =
        let (parts, complies) = order-taken s o e in
        record { order = o; taken = e; parts = parts; complies = complies }

module _ (s : Schema) where
  abbrev all : List ℕ
  all = up_to (part_count s.atoms)

  complying-placeable : (o : List ℕ) → OrderOfParts s o → Complies s o → Placeable (arcs_of s) all
  complying-placeable o parts complies =
      placeable-within (order-placeable (arcs_of s) (arc-self s.pairs s.atoms) o complies) all (λ q i.
      let (p, k, e) = any-in (eqb q) o (parts.placed q (up_to-in (part_count s.atoms) q i)) in
      in-eq (eqb-true q p e) k)

  placeable-complies : Placeable (arcs_of s) all → NoOrderComplies s → ⊥
  placeable-complies h refuted =
      let (o, k) = placed-order h (ascend-up_to (part_count s.atoms)) in
      let l = length-up_to (part_count s.atoms) in
      refuted o
      (record {
        size = k.size ∙ l;
        placed = λ p m. in-any (eqb p) (k.placed p (in-up_to (part_count s.atoms) p m)) (eq-eqb p p refl);
      })
      k.complies

  pub some-order-exactly : (some_order s ≡ true) ↔ Placeable (arcs_of s) all
  unfolding some_order is_some
  some-order-exactly = (
    λ h. let a = some-order s h in complying-placeable a.order a.parts a.complies,
    λ h. back (order_of s) refl h,
  )
    where
      back : (r : Option (List ℕ)) → order_of s ≡ r → Placeable (arcs_of s) all → is_some r ≡ true
      back None e h = absurd (placeable-complies h ((circular-exactly s).0 e))
      back (Some o) e h = refl

  -- "would make a circle"
  pub no-order-exactly : (some_order s ≡ false) ↔ NoOrderComplies s
  unfolding some_order is_some
  no-order-exactly =
      (λ h. (circular-exactly s).0 (forth (order_of s) h), λ h. back ((circular-exactly s).1 h))
    where
      forth : (r : Option (List ℕ)) → is_some r ≡ false → r ≡ None
      forth None h = refl
      forth (Some o) h = absurd (no_tf h)

      back : order_of s ≡ None → is_some (order_of s) ≡ false
      back e = rw e refl

  -- whether some order complies, by lowest free parts, from arcs that are those of the schema
  pub some-order-by-sets : (arcs : Arcs) (n : ℕ) →
      ((p q : ℕ) → p < n → q < n → arcs p q ≡ arcs_of s p q) → n ≡ part_count s.atoms →
      no_circle arcs n ≡ some_order s
  some-order-by-sets arcs n h e =
      bool-ext (no_circle arcs n) (some_order s)
      (λ k. some-order-exactly.1
      (rw (← e) (placeable-fewer ((no-circle-exactly arcs n).0 k) (arcs_of s) (λ p q i j d. at p q i j ∙ d))))
      (λ k. (no-circle-exactly arcs n).1
      (placeable-fewer (rw (← e) at (some-order-exactly.0 k)) arcs (λ p q i j d. sym (at p q i j) ∙ d)))
    where
      at : (p q : ℕ) → In p (up_to n) → In q (up_to n) → arcs p q ≡ arcs_of s p q
      at p q i j = h p q (up_to-in n p i) (up_to-in n q j)
