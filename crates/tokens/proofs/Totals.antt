-- The schema atoms and the pairs of the split as sums over the task alone, whatever the orders taken: each old atom
-- stands in one part, each of several parts has three bare tokens, and a parameter of n > 1 parts gives n + 1 pars (one
-- added, n - 1 required, one deleted); a pair is carried by each part that has both its parameters. Sums over positions
-- and parameters are exchanged, and an order is a list of the parts.
use Prim.Native.Nat.{ℕ, suc, ◌+◌, ◌*◌, ◌≤◌, ◌<◌}
use mathlib.Core.Path.{◌≡◌, refl, sym, ◌∙◌, ap}
use mathlib.Core.Bool.{Bool, true, false, cond, ◌&&◌}
use mathlib.Core.List.{List, [], ◌∷◌}
use native.Mathlib.Omega.{arith}
use native.Mathlib.Decide.{dec_lt}
use lib.ListN.{length, get_or}
use lib.Dec.{eqb, ltb}
use borrow.Author.Tests.{lt-ltb, le-ltb, eqb-true, eq-eqb}
use Rattle.words.specs.Lists.{filter, keep_if, sum, up_to, first_or, last_or}
use Rattle.task.specs.Task.{Atom, Schema, Task, schema_atoms, schema_pairs, well_formed, no_schema}
use Rattle.task.specs.Run.{schema_at}
use Rattle.tokens.specs.Split.{has, params_of, positions, first_position, last_position, parts, shared, own, lone}
use Rattle.tokens.specs.Split.{has_both, first_here, last_here, later_here, orders, split_task}
use Rattle.words.proofs.Lists.{In, here, there, in-eq, in-up_to, up_to-in, length-up_to, filter-all, filter_none}
use Rattle.words.proofs.Ascending.{Once, once-cons, once-up_from, once-filter}
use Rattle.task.proofs.SchemaWords.{part_small}
use Rattle.arcs.proofs.OrderTaken.{OrderOf, order_of-laws}
use Rattle.tokens.proofs.Places.{last-in, first-least, last-most}
use Rattle.words.proofs.Sums.{one, total, total-same, total-add, total-one, length-filter, filter-filter, exchange}
use Rattle.words.proofs.Sums.{by_place, once-apart, eqb-turn, pick-one, reorder}
use Rattle.tokens.proofs.Accepted.{Ordered}
use Rattle.tokens.proofs.Sizes.{atoms_of, pars_of, part_size, pairs_of, atom-count, pair-count}

total-three : {A : Type 0} (xs : List A) → total (λ x. 3) xs ≡ 3 * length xs
unfolding sum
total-three [] = refl
total-three (x ∷ xs) = let e = total-three xs in omega arith

-- ---- the places of one parameter's pars
cond-and : (a b : Bool) → one (a && b) ≡ cond a (one b) 0
cond-and true b = refl
cond-and false b = refl

-- a test for one number of a list that holds it once
tested-once : (q : ℕ) (test : ℕ → Bool) {xs : List ℕ} → Once xs → In q xs →
    length (filter (λ j. eqb q j && test j) xs) ≡ one (test q)
tested-once q test {xs} h i =
    length-filter (λ j. eqb q j && test j) xs ∙
    total-same (λ j. one (eqb q j && test j)) (λ j. cond (eqb q j) (one (test j)) 0) xs
    (λ j k. cond-and (eqb q j) (test j)) ∙
    pick-one (λ j. one (test j)) q h i

-- of positions y, .. that stand once, y the least: all but y are behind it, and y and the last each stand once
two-places : (y : ℕ) (ys : List ℕ) (last : ℕ) → Once (y ∷ ys) → ((j : ℕ) → In j ys → y < j) → In last (y ∷ ys) →
    y < last →
    length (filter (λ j. ltb y j) (y ∷ ys)) +
    (length (filter (λ j. eqb y j && ltb j last) (y ∷ ys)) + length (filter (λ j. eqb last j && ltb y j) (y ∷ ys))) ≡
    suc (suc (length ys))
unfolding sum
two-places y ys last once behind i l =
    let a = all-behind in
    let b = tested-once y (λ j. ltb j last) once (here refl) ∙ ap one (lt-ltb y last l) in
    let c = tested-once last (λ j. ltb y j) once i ∙ ap one (lt-ltb y last l) in
    omega arith
  where
    all-behind : length (filter (λ j. ltb y j) (y ∷ ys)) ≡ length ys
    all-behind =
        length-filter (λ j. ltb y j) (y ∷ ys) ∙
        ap (λ b. one b + total (λ j. one (ltb y j)) ys) (le-ltb y y (omega arith)) ∙
        ap (λ n. 0 + n) (sym (length-filter (λ j. ltb y j) ys) ∙
        ap length (filter-all (λ j. ltb y j) ys (λ j k. lt-ltb y j (behind j k)))) ∙
        omega arith

-- positions that ascend: those behind the first, and the first and the last where they differ
places : (ps : List ℕ) → Once ps → ((j : ℕ) → In j ps → first_or ps 0 ≤ j) → ((j : ℕ) → In j ps → j ≤ last_or ps 0) →
    length (filter (λ j. ltb (first_or ps 0) j) ps) +
    (length (filter (λ j. eqb (first_or ps 0) j && ltb j (last_or ps 0)) ps) +
    length (filter (λ j. eqb (last_or ps 0) j && ltb (first_or ps 0) j) ps)) ≡
    cond (ltb 1 (length ps)) (suc (length ps)) 0
unfolding filter keep_if first_or last_or
places [] o least most = refl
places (y ∷ []) o least most = rw (le-ltb y y (omega arith), eq-eqb y y refl) refl
places (y ∷ z ∷ zs) (once-cons n h) least most =
    two-places y (z ∷ zs) (last_or zs z) (once-cons n h) behind (last-in 0 (here {y = y} {ys = z ∷ zs} refl))
    (omega (arith, behind z (here refl), most z (there (here refl)))) ∙
    ap (λ b. cond b (suc (suc (suc (length zs)))) 0) (sym (lt-ltb 1 (suc (suc (length zs))) (omega arith)))
  where
    behind : (j : ℕ) → In j (z ∷ zs) → y < j
    behind j i = elim (dec_lt y j) [
      | yes l ↦ l
      | no l ↦ let k = least j (there i) in let e : y ≡ j = omega arith in absurd (n (in-eq e i))
    ]

-- ---- one schema
-- the parts that have a parameter
abbrev pub found : Schema → ℕ → ℕ
found s x = length (filter (has s x) (up_to (parts s)))

-- the pars of a parameter: one added, one required in each later part, one deleted
abbrev pub pars_for : Schema → ℕ → ℕ
pars_for s x = cond (shared s x) (suc (found s x)) 0

-- the atoms of a schema's parts
abbrev pub schema_total : Schema → ℕ
schema_total s = length s.atoms + cond (eqb (parts s) 1) 1 (3 * parts s + total (pars_for s) (up_to s.params))

-- the pairs that they carry
abbrev pub pairs_total : Schema → ℕ
pairs_total s = total (λ q. length (filter (has_both s q) (up_to (parts s)))) s.pairs

module _ (t : Task) (s : ℕ) (o : List ℕ) (order : OrderOf (schema_at t s) o) where
  abbrev old : Schema
  old = schema_at t s

  order-once : Once o
  order-once = once-apart o order.once

  -- a sum over the order is one over the parts
  over-parts : (f : ℕ → ℕ) → total (λ j. f (get_or o j 0)) (up_to (length o)) ≡ total f (up_to (parts old))
  unfolding up_to parts
  over-parts f = by_place f o 0 ∙ reorder f order-once (once-up_from 0 (parts old)) order.from order.all-placed

  -- each atom is of one part
  atoms-total : total (λ j. atoms_of old (get_or o j 0)) (up_to (length o)) ≡ length old.atoms
  unfolding parts up_to
  atoms-total =
      over-parts (atoms_of old) ∙
      total-same (atoms_of old) (λ p. total (λ a. one (eqb p a.part)) old.atoms) (up_to (parts old))
      (λ p i. length-filter (λ a. eqb p a.part) old.atoms) ∙
      exchange (λ p a. one (eqb p a.part)) (up_to (parts old)) old.atoms ∙
      total-same (λ a. total (λ p. one (eqb p a.part)) (up_to (parts old))) (λ a. 1) old.atoms
      (λ a i. one-part-each a (in-up_to (parts old) a.part (part_small i))) ∙
      total-one old.atoms
    where
      one-part-each : (a : Atom) → In a.part (up_to (parts old)) →
          total (λ p. one (eqb p a.part)) (up_to (parts old)) ≡ 1
      one-part-each a i =
          total-same (λ p. one (eqb p a.part)) (λ p. one (eqb a.part p)) (up_to (parts old))
          (λ p k. ap one (eqb-turn p a.part)) ∙
          pick-one (λ p. 1) a.part (once-up_from 0 (parts old)) i

  -- each pair is carried by the parts that have both
  pub pairs-total : total (pairs_of t s o) (up_to (length o)) ≡ pairs_total old
  pairs-total =
      over-parts (λ p. length (filter (λ q. has_both old q p) old.pairs)) ∙
      total-same (λ p. length (filter (λ q. has_both old q p) old.pairs))
      (λ p. total (λ q. one (has_both old q p)) old.pairs) (up_to (parts old))
      (λ p i. length-filter (λ q. has_both old q p) old.pairs) ∙
      exchange (λ p q. one (has_both old q p)) (up_to (parts old)) old.pairs ∙
      total-same (λ q. total (λ p. one (has_both old q p)) (up_to (parts old)))
      (λ q. length (filter (has_both old q) (up_to (parts old)))) old.pairs
      (λ q i. sym (length-filter (has_both old q) (up_to (parts old))))

  pars-total : (test : ℕ → ℕ → Bool) → total (λ j. pars_of t s o j (test j)) (up_to (length o)) ≡
      total (λ x. length (filter (λ j. test j x) (positions old o x))) (up_to old.params)
  unfolding own params_of positions
  pars-total test =
      total-same (λ j. pars_of t s o j (test j))
      (λ j. total (λ x. one (has old x (get_or o j 0) && test j x)) (up_to old.params)) (up_to (length o))
      (λ j i.
      ap length (filter-filter (test j) (λ x. has old x (get_or o j 0)) (up_to old.params)) ∙
      length-filter (λ x. has old x (get_or o j 0) && test j x) (up_to old.params)) ∙
      exchange (λ j x. one (has old x (get_or o j 0) && test j x)) (up_to (length o)) (up_to old.params) ∙
      total-same (λ x. total (λ j. one (has old x (get_or o j 0) && test j x)) (up_to (length o)))
      (λ x. length (filter (λ j. test j x) (positions old o x))) (up_to old.params)
      (λ x i.
      sym (ap length (filter-filter (λ j. test j x) (λ j. has old x (get_or o j 0)) (up_to (length o))) ∙
      length-filter (λ j. has old x (get_or o j 0) && test j x) (up_to (length o))))

  pub positions-found : (x : ℕ) → length (positions old o x) ≡ found old x
  unfolding positions
  positions-found x =
      length-filter (λ j. has old x (get_or o j 0)) (up_to (length o)) ∙ over-parts (λ p. one (has old x p)) ∙
      sym (length-filter (has old x) (up_to (parts old)))

  -- the pars of a parameter, over all positions
  pars-for : (x : ℕ) →
      length (filter (λ j. later_here t s o j x) (positions old o x)) +
      (length (filter (λ j. first_here t s o j x) (positions old o x)) +
      length (filter (λ j. last_here t s o j x) (positions old o x))) ≡ pars_for old x
  unfolding later_here first_here last_here first_position last_position shared positions up_to
  pars-for x =
      places (positions old o x) (once-filter (λ j. has old x (get_or o j 0)) (once-up_from 0 (length o)))
      (first-least (λ j. has old x (get_or o j 0)) 0 (length o) 0)
      (last-most (λ j. has old x (get_or o j 0)) 0 (length o) 0 (omega arith)).1 ∙
      ap (λ n. cond (ltb 1 n) (suc n) 0) (positions-found x)

  all-pars : total (λ j. pars_of t s o j (later_here t s o j)) (up_to (length o)) +
      (total (λ j. pars_of t s o j (first_here t s o j)) (up_to (length o)) +
      total (λ j. pars_of t s o j (last_here t s o j)) (up_to (length o))) ≡ total (pars_for old) (up_to old.params)
  all-pars =
      let later : ℕ → ℕ = λ x. length (filter (λ j. later_here t s o j x) (positions old o x)) in
      let firsts : ℕ → ℕ = λ x. length (filter (λ j. first_here t s o j x) (positions old o x)) in
      let lasts : ℕ → ℕ = λ x. length (filter (λ j. last_here t s o j x) (positions old o x)) in
      let a = pars-total (later_here t s o) in
      let b = pars-total (first_here t s o) in
      let c = pars-total (last_here t s o) in
      let d = total-add firsts lasts (up_to old.params) in
      let e = total-add later (λ x. firsts x + lasts x) (up_to old.params) in
      let f = total-same (λ x. later x + (firsts x + lasts x)) (pars_for old) (up_to old.params) (λ x i. pars-for x) in
      omega arith

  no-later : (j : ℕ) → j ≡ 0 → pars_of t s o j (later_here t s o j) ≡ 0
  unfolding later_here
  no-later j e =
      ap length (filter_none (later_here t s o j) (own t s o j)
      (λ x i. le-ltb (first_position old o x) j (omega arith)))

  pub schema-total : total (part_size t s o) (up_to (length o)) ≡ schema_total old
  unfolding lone parts
  schema-total =
      go (eqb (length o) 1) refl ∙
      ap (λ n. length old.atoms + cond (eqb n 1) 1 (3 * parts old + total (pars_for old) (up_to old.params)))
      order.size
    where
      js : List ℕ
      js = up_to (length o)

      here-old : ℕ → ℕ
      here-old j = atoms_of old (get_or o j 0)

      later : ℕ → ℕ
      later j = pars_of t s o j (later_here t s o j)

      firsts : ℕ → ℕ
      firsts j = pars_of t s o j (first_here t s o j)

      lasts : ℕ → ℕ
      lasts j = pars_of t s o j (last_here t s o j)

      go : (b : Bool) → eqb (length o) 1 ≡ b →
          total (λ j. here-old j + (1 + later j) + cond b 0 ((1 + firsts j) + (1 + lasts j))) js ≡
          length old.atoms + cond b 1 (3 * parts old + total (pars_for old) (up_to old.params))
      go true e =
          let n = eqb-true (length o) 1 e in
          let a = total-same (λ j. here-old j + (1 + later j) + 0) (λ j. here-old j + 1) js
          (λ j i. let z = no-later j (omega (arith, up_to-in (length o) j i)) in omega arith) in
          let b = total-add here-old (λ j. 1) js in
          omega (arith, atoms-total, total-one js, length-up_to (length o))
      go false e =
          let a = total-same (λ j. here-old j + (1 + later j) + ((1 + firsts j) + (1 + lasts j)))
          (λ j. here-old j + 3 + (later j + (firsts j + lasts j))) js (λ j i. omega arith) in
          let b = total-add (λ j. here-old j + 3) (λ j. later j + (firsts j + lasts j)) js in
          let c = total-add here-old (λ j. 3) js in
          let d = total-add later (λ j. firsts j + lasts j) js in
          let f = total-add firsts lasts js in
          omega (arith, atoms-total, all-pars, total-three js, length-up_to (length o), order.size)

-- ---- the task
-- the schema atoms of the split, over the schemas of the task
pub atom-total : (t : Task) → well_formed t ≡ true → Ordered t →
    schema_atoms (split_task t).schemas ≡ total schema_total t.schemas
unfolding schema_at parts
atom-total t well ordered =
    atom-count t ordered well ∙
    total-same (λ s. total (part_size t s (orders t s)) (up_to (length (orders t s)))) (λ s. schema_total (schema_at t s))
    (up_to (length t.schemas))
    (λ s i. schema-total t s (orders t s)
    (order_of-laws (schema_at t s) (orders t s) (ordered s (up_to-in (length t.schemas) s i)))) ∙
    by_place schema_total t.schemas no_schema

-- and its pairs
pub pair-total : (t : Task) → Ordered t → schema_pairs (split_task t).schemas ≡ total pairs_total t.schemas
unfolding schema_at
pair-total t ordered =
    pair-count t ∙
    total-same (λ s. total (pairs_of t s (orders t s)) (up_to (length (orders t s)))) (λ s. pairs_total (schema_at t s))
    (up_to (length t.schemas))
    (λ s i. pairs-total t s (orders t s)
    (order_of-laws (schema_at t s) (orders t s) (ordered s (up_to-in (length t.schemas) s i)))) ∙
    by_place pairs_total t.schemas no_schema
