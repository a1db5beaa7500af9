-- The sizes of the split, as sums over the task: what can be counted before a word of the split is written.
-- A part has the old atoms of its number, whatever their role, one bare token in each role that has tokens, and its
-- pars; schemas, their atoms and their pairs are added up part by part. (`predicate-count` is among the predicates.)
use Prim.Native.Nat.{ℕ, zero, suc, ◌+◌, ◌≤◌, ◌<◌}
use mathlib.Core.Path.{◌≡◌, refl, ◌∙◌, ap, ap₂}
use mathlib.Core.Bool.{Bool, true, false, cond, ◌&&◌}
use mathlib.Core.List.{List, [], ◌∷◌, ◌++◌, map}
use native.Mathlib.Omega.{arith}
use lib.ListN.{length, get_or, length-append, length-map}
use lib.Dec.{eqb}
use Rattle.words.specs.Lists.{filter, keep_if, sum, up_to}
use Rattle.task.specs.Task.{Atom, Schema, Task, precondition, addition, deletion, schema_atoms, schema_pairs, schema_fits}
use Rattle.task.specs.Task.{well_formed, no_schema}
use Rattle.task.specs.Run.{schema_at, of_role}
use Rattle.tokens.specs.Split.{has_both, parts, token, own, own_pairs, old_atoms, required, handed_on, lone}
use Rattle.tokens.specs.Split.{first_here, last_here, later_here, pars, orders, free, split_schema, split_task}
use Rattle.words.proofs.Lists.{In, here, there, map_same, length-concat_map, length-up_to, up_to-in, map-map}
use Rattle.task.proofs.Tests.{schema-tests}
use Rattle.arcs.proofs.OrderTaken.{order_of-laws}
use Rattle.tokens.proofs.Accepted.{Ordered}
use Rattle.tokens.proofs.AtomLists.{role-small}
use Rattle.tokens.proofs.RoleAtoms.{renumber, atoms_here, par_atom, role_atoms, pre_atoms, add_atoms, del_atoms}
use Rattle.tokens.proofs.PartPairs.{renumber_pair, pair_here}
use Rattle.tokens.proofs.WellSplit.{part_of}
use Rattle.words.proofs.Sums.{one, total, length-keep, total-same, total-concat_map, by_place}

-- ---- initial and goal atoms
pub init-count : (t : Task) → length (split_task t).init ≡ length t.init + 1
unfolding split_task
init-count t = length-append t.init (free t ∷ [])

pub goal-count : (t : Task) → length (split_task t).goal ≡ length t.goal + 1
unfolding split_task
goal-count t = length-append t.goal (free t ∷ [])

-- ---- old atoms: each has one of the three roles
filter-keep : (p : Atom → Bool) (b : Bool) (a : Atom) (xs : List Atom) →
    length (filter p (keep_if b a xs)) ≡ one (b && p a) + length (filter p xs)
unfolding filter keep_if
filter-keep p true a xs = length-keep (p a) a (filter p xs)
filter-keep p false a xs = omega arith

roles-count : (p : Atom → Bool) (atoms : List Atom) → ((a : Atom) → In a atoms → a.role ≤ deletion) →
    length (filter p (of_role 0 atoms)) + (length (filter p (of_role 1 atoms)) + length (filter p (of_role 2 atoms))) ≡
    length (filter p atoms)
unfolding filter of_role
roles-count p [] h = refl
roles-count p (a ∷ rest) h =
    let e = roles-count p rest (λ b i. h b (there i)) in
    let x = filter-keep p (eqb 0 a.role) a (of_role 0 rest) in
    let y = filter-keep p (eqb 1 a.role) a (of_role 1 rest) in
    let z = filter-keep p (eqb 2 a.role) a (of_role 2 rest) in
    let u = length-keep (p a) a (filter p rest) in
    let v = go a.role (p a) (h a (here refl)) in
    omega arith
  where
    go : (r : ℕ) (b : Bool) → r ≤ 2 → one (eqb 0 r && b) + (one (eqb 1 r && b) + one (eqb 2 r && b)) ≡ one b
    go zero true l = refl
    go zero false l = refl
    go (suc zero) true l = refl
    go (suc zero) false l = refl
    go (suc (suc zero)) true l = refl
    go (suc (suc zero)) false l = refl
    go (suc (suc (suc r))) b l = absurd (omega arith)

-- ---- a part's schema
-- the old atoms of part p
abbrev pub atoms_of : Schema → ℕ → ℕ
atoms_of s p = length (filter (λ a. eqb p a.part) s.atoms)

module _ (t : Task) (s : ℕ) (o : List ℕ) (j : ℕ) where
  -- the pars of a role
  abbrev pub pars_of : (ℕ → Bool) → ℕ
  pars_of test = length (filter test (own t s o j))

  abbrev pub part_size : ℕ
  part_size =
      atoms_of (schema_at t s) (get_or o j 0) + (1 + pars_of (later_here t s o j)) +
      cond (lone t s o j) 0 ((1 + pars_of (first_here t s o j)) + (1 + pars_of (last_here t s o j)))

  role-size : (r : ℕ) (without : Bool) (k : ℕ) (test : ℕ → Bool) →
      length (role_atoms t s o j r without k test) ≡ length (atoms_here t s o j r) + cond without 0 (1 + pars_of test)
  unfolding old_atoms pars
  role-size r without k test =
      length-append (old_atoms t s o j r) _ ∙
      ap₂ (λ (m n : ℕ). m + n) (length-map (atoms_here t s o j r) (renumber t s o j r)) (go without)
    where
      go : (b : Bool) → length (cond b [] (token r k [] ∷ pars t s o j r test)) ≡ cond b 0 (1 + pars_of test)
      go true = refl
      go false = let z = length-map (filter test (own t s o j)) (par_atom t s o j r) in omega arith

  pub part-size : schema_fits t.arities (schema_at t s) ≡ true → length (split_schema t s o j).atoms ≡ part_size
  unfolding split_schema
  part-size fits =
      let a = role-size precondition false (required t s o j) (later_here t s o j) in
      let b = role-size addition (lone t s o j) (handed_on t s o j) (first_here t s o j) in
      let c = role-size deletion (lone t s o j) (required t s o j) (last_here t s o j) in
      let d = length-append (pre_atoms t s o j) (add_atoms t s o j ++ del_atoms t s o j) in
      let e = length-append (add_atoms t s o j) (del_atoms t s o j) in
      let f = roles-count (λ a. eqb (get_or o j 0) a.part) (schema_at t s).atoms
      (role-small (schema_at t s).atoms (schema-tests t.arities (schema_at t s) fits).roles) in
      let g = go (lone t s o j) (1 + pars_of (first_here t s o j)) (1 + pars_of (last_here t s o j)) in
      omega arith
    where
      go : (b : Bool) (m n : ℕ) → cond b 0 m + cond b 0 n ≡ cond b 0 (m + n)
      go true m n = refl
      go false m n = refl

  -- the pairs that it carries
  abbrev pub pairs_of : ℕ
  pairs_of = length (filter (λ q. has_both (schema_at t s) q (get_or o j 0)) (schema_at t s).pairs)

  pub part-pairs : length (split_schema t s o j).pairs ≡ pairs_of
  unfolding split_schema own_pairs
  part-pairs = length-map (filter (pair_here t s o j) (schema_at t s).pairs) (renumber_pair t s o j)

-- ---- all schemas of the split
abbrev part_schemas : Task → ℕ → List Schema
part_schemas t s = map (split_schema t s (orders t s)) (up_to (length (orders t s)))

-- what is counted of them, part by part
by_part : (t : Task) (count : Schema → ℕ) (size : ℕ → ℕ → ℕ) →
    ((s j : ℕ) → s < length t.schemas → j < length (orders t s) →
    count (split_schema t s (orders t s) j) ≡ size s j) →
    total count (split_task t).schemas ≡
    total (λ s. total (size s) (up_to (length (orders t s)))) (up_to (length t.schemas))
unfolding split_task
by_part t count size h =
    total-concat_map count (part_schemas t) (up_to (length t.schemas)) ∙
    total-same (λ s. total count (part_schemas t s)) (λ s. total (size s) (up_to (length (orders t s))))
    (up_to (length t.schemas))
    (λ s i. ap sum (map-map count (split_schema t s (orders t s)) (up_to (length (orders t s))) ∙
    map_same (λ j. count (split_schema t s (orders t s) j)) (size s) (up_to (length (orders t s)))
    (λ j k. h s j (up_to-in (length t.schemas) s i) (up_to-in (length (orders t s)) j k))))

-- the pairs
pub pair-count : (t : Task) → schema_pairs (split_task t).schemas ≡
    total (λ s. total (pairs_of t s (orders t s)) (up_to (length (orders t s)))) (up_to (length t.schemas))
pair-count t =
    by_part t (λ u. length u.pairs) (λ s. pairs_of t s (orders t s)) (λ s j l m. part-pairs t s (orders t s) j)

module _ (t : Task) (ordered : Ordered t) where
  order-size : (s : ℕ) → s < length t.schemas → length (orders t s) ≡ parts (schema_at t s)
  unfolding parts
  order-size s l = (order_of-laws (schema_at t s) (orders t s) (ordered s l)).size

  pub schema-count : length (split_task t).schemas ≡ total parts t.schemas
  unfolding split_task schema_at
  schema-count =
      length-concat_map (part_schemas t) (up_to (length t.schemas)) ∙
      total-same (λ s. length (part_schemas t s)) (λ s. parts (schema_at t s)) (up_to (length t.schemas))
      (λ s i. size s (up_to-in (length t.schemas) s i)) ∙
      by_place parts t.schemas no_schema
    where
      size : (s : ℕ) → s < length t.schemas → length (part_schemas t s) ≡ parts (schema_at t s)
      size s l =
          length-map (up_to (length (orders t s))) (split_schema t s (orders t s)) ∙ length-up_to (length (orders t s)) ∙
          order-size s l

  -- the schema atoms
  pub atom-count : well_formed t ≡ true →
      schema_atoms (split_task t).schemas ≡
      total (λ s. total (part_size t s (orders t s)) (up_to (length (orders t s)))) (up_to (length t.schemas))
  atom-count well =
      by_part t (λ u. length u.atoms) (λ s. part_size t s (orders t s))
      (λ s j l m. part-size t s (orders t s) j (part_of t well ordered s j l m).fits)
