-- What the proofs about blocks start from: a well-formed task, its accepted split, the order taken of each schema's
-- parts, and a part for each pair. From it: each schema has a part, each atom's part has a place, each parameter stands
-- in a part, and both parameters of a pair stand in one.
use Prim.Native.Nat.{ℕ, ◌<◌}
use mathlib.Core.Path.{◌≡◌, refl, sym, subst}
use mathlib.Core.Bool.{true}
use mathlib.Core.List.{List, [], ◌∷◌, ◌++◌}
use mathlib.Core.Logic.{inl, inr}
use Rattle.std.specs.Prelude.{Some}
use native.Mathlib.Omega.{arith}
use lib.ListN.{length, get_or}
use lib.Dec.{eqb}
use borrow.Author.Tests.{eqb-true}
use Rattle.words.specs.Lists.{all}
use Rattle.task.specs.Task.{Atom, Pair, Task, well_formed}
use Rattle.task.specs.Run.{Step, is_step, schema_at}
use Rattle.arcs.specs.Order.{OrderOfParts, Complies, order_of}
use Rattle.tokens.specs.Split.{has, parts, own, orders, split_task, split_as, split}
use Rattle.blocks.specs.Blocks.{params_at}
use Rattle.words.proofs.Lists.{and_left, and_right, and_both, In, in-append, all_in, in_all, in-eq, any-in, get_or-in}
use Rattle.task.proofs.States.{IsStep, is_step-is, is-is_step, WellFormed, well_formed-is}
use Rattle.arcs.proofs.OrderTaken.{EachOnce, order-taken, order-once, atom-placed}
use Rattle.tokens.proofs.Places.{atom-has, params-in}
use Rattle.tokens.proofs.Accepted.{PairsKept, split-is, split-orders, split-pairs, parts-some, pair-part}
use Rattle.blocks.proofs.FoldBlock.{Covered}

pub record Given (t t' : Task) : Type 0 where
  pub well : WellFormed t
  pub is : t' ≡ split_task t
  pub order : (s : ℕ) → s < length t.schemas → order_of (schema_at t s) ≡ Some (orders t s)
  pub kept : PairsKept t

pub given : (t t' : Task) → well_formed t ≡ true → split t ≡ split_as t' → Given t t'
given t t' w h = record {
  well = well_formed-is t w;
  is = split-is t t' h;
  order = split-orders t t' h;
  kept = split-pairs t t' h;
}

-- ---- lists of steps
pub head_step : (t : Task) (x : Step) (xs : List Step) → all (is_step t) (x ∷ xs) ≡ true → IsStep t x
unfolding all
head_step t x xs h = is_step-is t x (and_left (is_step t x) (all (is_step t) xs) h)

pub tail-steps : (t : Task) (x : Step) (xs : List Step) → all (is_step t) (x ∷ xs) ≡ true → all (is_step t) xs ≡ true
unfolding all
tail-steps t x xs h = and_right (is_step t x) (all (is_step t) xs) h

pub more-steps : (t : Task) (x : Step) (xs : List Step) → IsStep t x → all (is_step t) xs ≡ true →
    all (is_step t) (x ∷ xs) ≡ true
unfolding all
more-steps t x xs hx h = and_both _ _ (is-is_step t x hx) h

pub last-steps : (t : Task) (xs : List Step) (x : Step) → all (is_step t) xs ≡ true → IsStep t x →
    all (is_step t) (xs ++ (x ∷ [])) ≡ true
unfolding all
last-steps t xs x h hx = in_all (is_step t) (xs ++ (x ∷ [])) (λ z i. elim (in-append xs i) [
  | inl k ↦ all_in (is_step t) h k
  | inr k ↦ all_in (is_step t) (more-steps t x [] hx refl) k
])

-- ---- the parts of a schema
module _ {t t' : Task} (G : Given t t') {s : ℕ} (l : s < length t.schemas) where
  order-of-parts : OrderOfParts (schema_at t s) (orders t s)
  order-of-parts = (order-taken (schema_at t s) (orders t s) (G.order s l)).0

  pub complies : Complies (schema_at t s) (orders t s)
  complies = (order-taken (schema_at t s) (orders t s) (G.order s l)).1

  pub each-once : EachOnce (orders t s)
  each-once = order-once (schema_at t s) (orders t s) (G.order s l)

  pub part-count : length (orders t s) ≡ parts (schema_at t s)
  unfolding parts
  part-count = order-of-parts.size

  pub filled : 0 < length (orders t s)
  filled = omega (arith, parts-some t G.well s l, part-count)

  -- the place of an atom's part
  pub place_of : (a : Atom) → In a (schema_at t s).atoms →
      (i : ℕ) × (i < length (orders t s)) × (get_or (orders t s) i 0 ≡ a.part)
  place_of a i = atom-placed (schema_at t s) (orders t s) order-of-parts a i

  -- an atom names parameters of its schema
  pub args-small : (a : Atom) → In a (schema_at t s).atoms → (p : ℕ) → In p a.args → p < (schema_at t s).params
  args-small a i p k = ((G.well.schema s l).fit a i).small p k

  -- a part has the parameters of its atoms
  pub atom-owns : (j : ℕ) (a : Atom) → In a (schema_at t s).atoms → a.part ≡ get_or (orders t s) j 0 →
      (p : ℕ) → In p a.args → In p (own t s (orders t s) j)
  unfolding own
  atom-owns j a i e p k =
      params-in (schema_at t s) p (get_or (orders t s) j 0) (args-small a i p k)
      (atom-has (schema_at t s) p (get_or (orders t s) j 0) a i e k)

  -- "every parameter stands in some atom", so in some part
  pub covered : Covered t s
  unfolding params_at own
  covered p h =
      let (a, i, k) = (G.well.schema s l).used p h in
      let (j, m, e) = place_of a i in
      (j, m, atom-owns j a i (sym e) p k)

  -- both parameters of a pair stand in one part
  pub pair-placed : (q : Pair) → In q (schema_at t s).pairs → (j : ℕ) × (j < length (orders t s)) ×
      (has (schema_at t s) q.lower (get_or (orders t s) j 0) ≡ true) ×
      (has (schema_at t s) q.higher (get_or (orders t s) j 0) ≡ true)
  unfolding parts
  pair-placed q i =
      let (p, m, a, b) = pair-part (schema_at t s) (G.kept s l) q i in
      let (r, k, e) = any-in (eqb p) (orders t s) (order-of-parts.placed p m) in
      let (j, n, d) = get_or-in 0 (in-eq (eqb-true p r e) k) in (
        j,
        n,
        subst (λ p. has (schema_at t s) q.lower p ≡ true) (sym d) a,
        subst (λ p. has (schema_at t s) q.higher p ≡ true) (sym d) b,
      )
