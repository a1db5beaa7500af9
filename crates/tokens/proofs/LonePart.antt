-- "With one part, procnone joins the preconditions only": the schema of a lone part is the old one with that atom.
-- It asks for no par and adds and deletes no token; it has every atom, every parameter and every pair, and renumbering
-- the parameters 0, 1, .. by their places changes nothing.
use Prim.Native.Nat.{ℕ, zero, suc, ◌+◌, ◌≤◌, ◌<◌}
use mathlib.Core.Path.{◌≡◌, sym, ◌∙◌, ap, ap₂}
use mathlib.Core.Bool.{true}
use mathlib.Core.List.{List, [], ◌∷◌, ◌++◌, map, append-nil}
use native.Mathlib.Omega.{arith}
use native.Mathlib.Decide.{dec_lt}
use lib.ListN.{length, get_or}
use lib.Dec.{eqb}
use borrow.Author.Tests.{le-ltb, eq-eqb, ne_eqb}
use Rattle.words.specs.Lists.{up_to, up_from, index_of}
use Rattle.task.specs.Task.{Atom, Pair, Task, precondition, addition, deletion}
use Rattle.task.specs.Run.{schema_at, of_role}
use Rattle.tokens.specs.Split.{has, params_of, first_position, parts, procnone, token, own, old_atoms, required}
use Rattle.tokens.specs.Split.{has_both, own_pairs, lone, later_here, pars, split_schema}
use Rattle.words.proofs.Lists.{and_both, In, in-get_or, filter-in, up_to-in, length-up_to, filter-all, filter_none}
use Rattle.words.proofs.Lists.{map-keeps}
use Rattle.task.proofs.SchemaWords.{part_small}
use Rattle.tokens.proofs.Places.{atom-has}
use Rattle.tokens.proofs.RoleAtoms.{renumber, atoms_here, par_atom, here-atom}
use Rattle.tokens.proofs.PartPairs.{renumber_pair, pair_here}
use Rattle.tokens.proofs.PartRoles.{PartOf, facts}

-- ---- the tokens of a lone part
module _ (t : Task) (s : ℕ) (o : List ℕ) (alone : length o ≡ 1) where
  no-later-pars : pars t s o 0 precondition (later_here t s o 0) ≡ []
  unfolding pars later_here
  no-later-pars =
      ap (map (par_atom t s o 0 precondition)) (filter_none (later_here t s o 0) (own t s o 0)
      (λ x i. le-ltb (first_position (schema_at t s) o x) 0 (omega arith)))

  lone_is : lone t s o 0 ≡ true
  unfolding lone
  lone_is = eq-eqb (length o) 1 alone

  pub lone-part : (split_schema t s o 0).atoms ≡
      (old_atoms t s o 0 precondition ++ (token precondition (procnone t) [] ∷ [])) ++
      (old_atoms t s o 0 addition ++ old_atoms t s o 0 deletion)
  unfolding split_schema required
  lone-part = simp (lone_is, no-later-pars, append-nil)

-- ---- its old atoms and parameters
index-up_from : (s n x : ℕ) → s ≤ x → x < s + n → index_of x (up_from s n) + s ≡ x
unfolding index_of up_from
index-up_from s zero x h k = absurd (omega arith)
index-up_from s (suc n) x h k = elim (dec_lt s x) [
  | yes l ↦ let z = index-up_from (suc s) n x l (omega arith) in rw (ne_eqb x s (λ e. omega arith)) (omega arith)
  | no l ↦ let e : x ≡ s = omega arith in rw (eq-eqb x s e) (omega arith)
]

module _ (t : Task) (s : ℕ) (o : List ℕ) (P : PartOf t s o 0) (alone : length o ≡ 1) where
  first-part : get_or o 0 0 ≡ 0
  unfolding parts
  first-part =
      let l = up_to-in (parts (schema_at t s)) (get_or o 0 0) (P.order.from (get_or o 0 0) (in-get_or o 0 0 P.inside)) in
      omega (arith, P.order.size)

  every-part : (a : Atom) → In a (schema_at t s).atoms → a.part ≡ get_or o 0 0
  unfolding parts
  every-part a i = let z = part_small i in let e = first-part in omega (arith, P.order.size)

  has-every : (x : ℕ) → x < (schema_at t s).params → has (schema_at t s) x (get_or o 0 0) ≡ true
  has-every x l =
      let (a, k, n) = (facts t s o 0 P).used x l in
      atom-has (schema_at t s) x (get_or o 0 0) a k (every-part a k) n

  lone-own : own t s o 0 ≡ up_to (schema_at t s).params
  unfolding own params_of
  lone-own = filter-all (λ x. has (schema_at t s) x (get_or o 0 0)) (up_to (schema_at t s).params) (λ x i.
      has-every x (up_to-in (schema_at t s).params x i))

  pub lone-params : (split_schema t s o 0).params ≡ (schema_at t s).params
  unfolding split_schema
  lone-params = ap length lone-own ∙ length-up_to (schema_at t s).params

  index-keeps : (x : ℕ) → x < (schema_at t s).params → index_of x (own t s o 0) ≡ x
  unfolding up_to
  index-keeps x l =
      let z = index-up_from 0 (schema_at t s).params x (omega arith) (omega arith) in
      ap (index_of x) lone-own ∙ omega arith

  pub lone-pairs : (split_schema t s o 0).pairs ≡ (schema_at t s).pairs
  unfolding split_schema own_pairs has_both
  lone-pairs =
      ap (map (renumber_pair t s o 0)) (filter-all (pair_here t s o 0) (schema_at t s).pairs
      (λ q i. and_both _ _ (has-every q.lower (lower-small q i)) (has-every q.higher (higher-small q i)))) ∙
      map-keeps (renumber_pair t s o 0) (schema_at t s).pairs (λ q i.
      let l = index-keeps q.lower (lower-small q i) in
      let h = index-keeps q.higher (higher-small q i) in
      λ d. record { lower = l d; higher = h d })
    where
      higher-small : (q : Pair) → In q (schema_at t s).pairs → q.higher < (schema_at t s).params
      higher-small q i = ((facts t s o 0 P).pairs q i).known

      lower-small : (q : Pair) → In q (schema_at t s).pairs → q.lower < (schema_at t s).params
      lower-small q i = let f = (facts t s o 0 P).pairs q i in omega (arith, f.ascends, f.known)

  renumber-keeps : (r : ℕ) (a : Atom) → In a (schema_at t s).atoms → a.role ≡ r → renumber t s o 0 r a ≡ a
  renumber-keeps r a i q =
      let p : 0 ≡ a.part = sym (every-part a i ∙ first-part) in
      let n : map (λ x. index_of x (own t s o 0)) a.args ≡ a.args =
      map-keeps (λ x. index_of x (own t s o 0)) a.args (λ x k. index-keeps x (((facts t s o 0 P).fit a i).small x k)) in
      λ d. record { role = sym q d; pred = a.pred; part = p d; args = n d }

  pub lone-old : (r : ℕ) → old_atoms t s o 0 r ≡ of_role r (schema_at t s).atoms
  unfolding old_atoms of_role
  lone-old r =
      map-keeps (renumber t s o 0 r) (atoms_here t s o 0 r)
      (λ a i. let (k, q, p) = here-atom t s o 0 r a i in renumber-keeps r a k q) ∙
      filter-all (λ a. eqb (get_or o 0 0) a.part) (of_role r (schema_at t s).atoms)
      (λ a i. eq-eqb (get_or o 0 0) a.part (sym (every-part a (of-role r a i))))
    where
      of-role : (r : ℕ) (a : Atom) → In a (of_role r (schema_at t s).atoms) → In a (schema_at t s).atoms
      of-role r a i = (filter-in (λ a. eqb r a.role) (schema_at t s).atoms a i).0

  pub lone-atoms : (split_schema t s o 0).atoms ≡
      (of_role precondition (schema_at t s).atoms ++ (token precondition (procnone t) [] ∷ [])) ++
      (of_role addition (schema_at t s).atoms ++ of_role deletion (schema_at t s).atoms)
  lone-atoms =
      lone-part t s o alone ∙
      ap₂ (λ (xs ys : List Atom). (xs ++ (token precondition (procnone t) [] ∷ [])) ++ ys) (lone-old precondition)
      (ap₂ (λ (xs ys : List Atom). xs ++ ys) (lone-old addition) (lone-old deletion))
