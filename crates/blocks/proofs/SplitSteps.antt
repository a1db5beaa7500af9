-- What is unfolded is a list of steps of the split: part by part, since each part has parameters of its schema only and
-- carries pairs of its schema only. Back, a choice of objects whose block is steps of the split is a step, since each
-- pair has a part that carries it. And what is unfolded is as long as its list or longer, and at most 16 times as long,
-- since a step's block has 1 to 16 parts.
use Prim.Native.Nat.{ℕ, ◌+◌, ◌*◌, ◌≤◌, ◌<◌}
use mathlib.Core.Path.{◌≡◌, refl, sym, ◌∙◌, ap, subst}
use mathlib.Core.Bool.{true}
use mathlib.Core.List.{List, [], ◌∷◌, ◌++◌, map}
use mathlib.Core.Logic.{◌⊎◌, inl, inr}
use native.Mathlib.Omega.{arith}
use lib.ListN.{length, get_or, length-map}
use Rattle.words.specs.Lists.{all, concat_map, sum, up_to}
use Rattle.task.specs.Limits.{most_parts}
use Rattle.task.specs.Task.{Task}
use Rattle.task.specs.Table.{task_of}
use Rattle.task.specs.Run.{Step, is_step, schema_at}
use Rattle.words.proofs.Lists.{In, in-append, all_in, in_all, map-in, in_map, up_to-in, in-up_to}
use Rattle.task.proofs.States.{IsChoice, KeepsApart, object_at, IsStep, choice-step, is_step-is, is-is_step, get_or-small}
use Rattle.tokens.specs.Split.{own, split_schema, orders, split_task, split_as, split, first_of}
use Rattle.tokens.proofs.Places.{in_params}
use Rattle.tokens.proofs.Accepted.{split-is}
use Rattle.tokens.proofs.PartPairs.{renumber_pair, FromPair, from-pair, pair-stays, own-both}
use Rattle.tokens.proofs.SplitAnswers.{AcceptedSplit}
use Rattle.blocks.specs.Blocks.{params_at, part_step, block, unfold_steps}
use Rattle.blocks.proofs.Numbers.{split-schema, schema-small, part-objects}
use Rattle.blocks.proofs.Given.{Given, given, head_step, tail-steps, pair-placed}
use Rattle.blocks.proofs.Unfolded.{parts_of, length-unfold}
use Rattle.blocks.proofs.SplitParts.{some-part, few-parts}

module _ {t t' : Task} (G : Given t t') where
  -- the split's schema of a part
  part-schema : (s j : ℕ) → s < length t.schemas → j < length (orders t s) →
      schema_at t' (first_of t s + j) ≡ split_schema t s (orders t s) j
  part-schema s j l m = ap (λ u. schema_at u (first_of t s + j)) G.is ∙ split-schema t s j l m

  -- "A part that has both parameters carries the line", so the part's objects differ where the step's do
  part_apart : (x : Step) → IsStep t x → (j : ℕ) →
      KeepsApart (split_schema t x.schema (orders t x.schema) j).pairs (object_at (part_step t x j).objects)
  part_apart x h j r i = go (from-pair t x.schema (orders t x.schema) j r i)
    where
      go : FromPair t x.schema (orders t x.schema) j r →
          object_at (part_step t x j).objects r.lower ≡ object_at (part_step t x j).objects r.higher → ⊥
      go f e =
          let (a, b) = own-both t x.schema (orders t x.schema) j t.arities
          (G.well.schema x.schema h.known) f.pair f.known f.lower f.higher in
          h.apart f.pair f.known
          (sym (part-objects t x j f.pair.lower a) ∙
          ap (λ q. object_at (part_step t x j).objects q.lower) (sym f.is) ∙ e ∙
          ap (λ q. object_at (part_step t x j).objects q.higher) f.is ∙
          part-objects t x j f.pair.higher b)

  part-is-step : (x : Step) → IsStep t x → (j : ℕ) → j < length (orders t x.schema) → IsStep t' (part_step t x j)
  unfolding part_step params_at split_schema own split_task
  part-is-step x h j l = record {
    known = subst (λ u. first_of t x.schema + j < length u.schemas) (sym G.is)
        (schema-small t x.schema j h.known l);
    count = length-map mine (λ p. get_or x.objects p 0) ∙
        sym (ap (λ z. z.params) (part-schema x.schema j h.known l));
    small = λ o i.
        let (p, k, e) = map-in (λ p. get_or x.objects p 0) mine o i in
        let (a, b) = in_params (schema_at t x.schema) p (get_or (orders t x.schema) j 0) k in
        subst (λ o. o < t'.objects) (sym e)
        (subst (λ n. get_or x.objects p 0 < n) (sym (ap (λ u. u.objects) G.is))
        (get_or-small t.objects x.objects p (rw h.count a) h.small));
    apart = λ r i.
        part_apart x h j r (subst (λ z. In r z.pairs) (part-schema x.schema j h.known l) i);
  }
    where
      mine : List ℕ
      mine = own t x.schema (orders t x.schema) j

  block-steps : (x : Step) → IsStep t x → (y : Step) → In y (block t x) → is_step t' y ≡ true
  unfolding block
  block-steps x h y i =
      let (j, m, e) = map-in (part_step t x) (up_to (length (orders t x.schema))) y i in
      subst (λ y. is_step t' y ≡ true) (sym e)
      (is-is_step t' (part_step t x j) (part-is-step x h j (up_to-in (length (orders t x.schema)) j m)))

  pub unfolded-steps : (xs : List Step) → all (is_step t) xs ≡ true → all (is_step t') (unfold_steps t xs) ≡ true
  unfolding unfold_steps concat_map all
  unfolded-steps [] h = refl
  unfolded-steps (x ∷ xs) h =
      in_all (is_step t') (block t x ++ unfold_steps t xs)
      (λ y i. go y (in-append (block t x) i) (unfolded-steps xs (tail-steps t x xs h)))
    where
      go : (y : Step) → In y (block t x) ⊎ In y (unfold_steps t xs) → all (is_step t') (unfold_steps t xs) ≡ true →
          is_step t' y ≡ true
      go y (inl i) k = block-steps x (head_step t x xs h) y i
      go y (inr i) k = all_in (is_step t') k i

  -- a choice of objects whose block is steps of the split is a step: each pair has a part that has both its parameters
  pub block-step : (x : Step) → IsChoice t x → all (is_step t') (block t x) ≡ true → IsStep t x
  unfolding block
  block-step x h k = choice-step h apart
    where
      order : List ℕ
      order = orders t x.schema

      part : (j : ℕ) → j < length order → IsStep t' (part_step t x j)
      part j l = is_step-is t' (part_step t x j)
          (all_in (is_step t') k (in_map (part_step t x) (in-up_to (length order) j l)))

      apart : KeepsApart (schema_at t x.schema).pairs (object_at x.objects)
      apart q i e =
          let (j, l, a, b) = pair-placed G h.known q i in
          let (m, n) = own-both t x.schema order j t.arities (G.well.schema x.schema h.known) q i a b in
          let stays = subst (λ z. In (renumber_pair t x.schema order j q) z.pairs)
          (sym (part-schema x.schema j h.known l)) (pair-stays t x.schema order j q i a b) in
          (part j l).apart (renumber_pair t x.schema order j q) stays
          (part-objects t x j q.lower m ∙ e ∙ sym (part-objects t x j q.higher n))

-- ---- of a table and the words of its accepted split
module _ {table words : List ℕ} (A : AcceptedSplit table words) where
  abbrev t : Task
  t = task_of table

  abbrev t' : Task
  t' = task_of words

  pub the-given : Given t t'
  the-given = given t t' A.well A.accepted

  to-split : split t ≡ split_as (split_task t)
  to-split = A.accepted ∙ ap split_as (split-is t t' A.accepted)

  parts-between : (xs : List Step) → all (is_step t) xs ≡ true →
      (length xs ≤ sum (map (parts_of t) xs)) × (sum (map (parts_of t) xs) ≤ most_parts * length xs)
  unfolding sum
  parts-between [] h = (omega arith, omega arith)
  parts-between (x ∷ xs) h =
      let known = (head_step t x xs h).known in
      let some = some-part t A.well to-split x.schema known in
      let few = few-parts t A.well to-split x.schema known in
      let (least, most) = parts-between xs (tail-steps t x xs h) in
      (omega arith, omega arith)

  -- "It has 1 to 16 parts", and so has a step's block
  pub unfolded-between : (xs : List Step) → all (is_step t) xs ≡ true →
      (length xs ≤ length (unfold_steps t xs)) × (length (unfold_steps t xs) ≤ most_parts * length xs)
  unfolded-between xs h =
      let (least, most) = parts-between xs h in
      let e = length-unfold t xs in
      (omega arith, omega arith)
