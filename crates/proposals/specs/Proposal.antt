-- Document 02's note 5, 'Propose a partition': a partition of a schema as the part numbers of its atoms, the merging of
-- parts, and the partition that is proposed.
use Rattle.std.specs.Prelude.{ℕ, zero, suc, ◌-◌, max, Bool, true, false, cond, ◌&&◌, ◌||◌, List, [], ◌∷◌, map, length, eqb, ltb, leb}
use Rattle.std.specs.Prelude.{Option, None, Some}
use Rattle.words.specs.Lists.{filter, first, concat_map, up_from, up_to}
use Rattle.task.specs.Limits.{most_parts}
use Rattle.task.specs.Task.{Atom, Schema, Task, part_count}
use Rattle.task.specs.Run.{schema_at}
use Rattle.arcs.specs.Order.{in_part, order_of}

-- ---- partitions
-- an atom in part p
unfoldable pub with_part : ℕ → Atom → Atom
with_part p a = record { role = a.role; pred = a.pred; part = p; args = a.args }

-- atoms with these part numbers, in file order
unfoldable pub parted : List Atom → List ℕ → List Atom
unfolding with_part
parted [] ps = []
parted (a ∷ atoms) [] = with_part 0 a ∷ parted atoms []
parted (a ∷ atoms) (p ∷ ps) = with_part p a ∷ parted atoms ps

-- a schema "with fresh parts"
unfoldable pub with_parts : Schema → List ℕ → Schema
unfolding parted
with_parts s ps = record { params = s.params; pairs = s.pairs; atoms = parted s.atoms ps }

-- how many parts these numbers make: one more than the highest
unfoldable pub count_of : List ℕ → ℕ
count_of [] = 0
count_of (p ∷ ps) = max (suc p) (count_of ps)

-- "Each schema starts with every atom in its own part, numbered in file order"
unfoldable pub own_parts : Schema → List ℕ
unfolding up_to
own_parts s = up_to (length s.atoms)

-- ---- a merge
-- two parts of a schema, the lower number first
pub record PartPair : Type 0 where
  pub lower : ℕ
  pub higher : ℕ

-- "the merged part takes the lower number and higher ones close up": what becomes of part p when a and b merge
unfoldable pub merged_number : ℕ → ℕ → ℕ → ℕ
merged_number a b p = cond (eqb p b) a (cond (ltb b p) (p - 1) p)

unfoldable pub merged : ℕ → ℕ → List ℕ → List ℕ
unfolding merged_number
merged a b ps = map (merged_number a b) ps

-- how many parameters two parts have "together"
unfoldable pub together : Schema → ℕ → ℕ → ℕ
unfolding filter up_to in_part
together s a b = length (filter (λ x. in_part s.atoms x a || in_part s.atoms x b) (up_to s.params))

unfoldable pub is_some : Option (List ℕ) → Bool
is_some None = false
is_some (Some x) = true

-- "some order .. complies"
unfoldable pub some_order : Schema → Bool
unfolding is_some order_of
some_order s = is_some (order_of s)

-- "can be merged so that together they have at most that many parameters and some order still complies"
unfoldable pub mergeable : ℕ → Schema → List ℕ → PartPair → Bool
unfolding together with_parts some_order merged
mergeable width s ps c =
    leb (together (with_parts s ps) c.lower c.higher) width &&
    some_order (with_parts s (merged c.lower c.higher ps))

-- ---- the merging
-- the pairs of n parts whose lower one is a, and all pairs "by lower and then higher part number"
unfoldable pub pairs_with : ℕ → ℕ → List PartPair
unfolding up_from
pairs_with n a = map (λ b. record { lower = a; higher = b }) (up_from (suc a) (n - suc a))

unfoldable pub part_pairs : ℕ → List PartPair
unfolding concat_map pairs_with up_to
part_pairs n = concat_map (pairs_with n) (up_to n)

-- "the first such pair", if "some pair of parts can be merged"
unfoldable pub first_pair : ℕ → Schema → List ℕ → Option PartPair
unfolding first mergeable part_pairs count_of
first_pair width s ps = first (mergeable width s ps) (part_pairs (count_of ps))

-- "merge the first such pair", and go on
unfoldable pub merge_first : (List ℕ → List ℕ) → List ℕ → Option PartPair → List ℕ
unfolding merged
merge_first rest ps None = ps
merge_first rest ps (Some c) = rest (merged c.lower c.higher ps)

-- "While some pair of parts can be merged": n merges at the most
unfoldable pub merge_from : ℕ → Schema → ℕ → List ℕ → List ℕ
unfolding merge_first first_pair
merge_from width s zero ps = ps
merge_from width s (suc n) ps = merge_first (λ qs. merge_from width s n qs) ps (first_pair width s ps)

-- the parts proposed for a schema's atoms: a merge leaves a part fewer, so there are fewer merges than atoms
unfoldable pub proposed_parts : ℕ → Schema → List ℕ
unfolding merge_from own_parts
proposed_parts width s = merge_from width s (length s.atoms) (own_parts s)

unfoldable pub proposed_schema : ℕ → Schema → Schema
unfolding with_parts proposed_parts
proposed_schema width s = with_parts s (proposed_parts width s)

-- ---- the task proposed
-- a task "with fresh parts"
unfoldable pub proposed_task : ℕ → Task → Task
unfolding proposed_schema
proposed_task width t = record {
  objects = t.objects;
  arities = t.arities;
  schemas = map (proposed_schema width) t.schemas;
  init = t.init;
  goal = t.goal;
}

-- "a schema ends with more than 16 parts": "the first such schema" of a proposed task
unfoldable pub too_many : Task → Option ℕ
unfolding first up_to part_count schema_at
too_many t = first (λ s. ltb most_parts (part_count (schema_at t s).atoms)) (up_to (length t.schemas))
