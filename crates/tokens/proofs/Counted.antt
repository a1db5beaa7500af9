-- Refusal 10 by counting: the limits of the split as tests of numbers that the task and its orders give, so that the
-- answer is known before a word is written. Each number is a law of sizes; the limit of one schema is taken part by
-- part.
use Prim.Native.Nat.{ℕ, ◌+◌}
use mathlib.Core.Path.{◌≡◌, refl, sym, ◌∙◌, ap, subst}
use mathlib.Core.Bool.{Bool, true}
use mathlib.Core.List.{List, [], ◌∷◌, map}
use lib.ListN.{length}
use lib.Dec.{leb}
use Rattle.words.specs.Lists.{all, every, up_to}
use Rattle.task.specs.Limits.{most_predicates, most_schemas, most_schema_atoms, most_atoms, most_initial, most_goal, most_pairs}
use Rattle.task.specs.Task.{Task, well_formed}
use Rattle.tokens.specs.Split.{parts, later_parts, par_count, orders, split_schema, split_task, within_limits}
use Rattle.words.proofs.Lists.{bool-ext, In, all_in, in_all, in_map, in-up_to, up_to-in, in-concat_map}
use Rattle.tokens.proofs.Accepted.{Ordered}
use Rattle.tokens.proofs.Predicates.{predicate-count}
use Rattle.tokens.proofs.WellSplit.{part_of, schema-of-part}
use Rattle.words.proofs.Sums.{total}
use Rattle.tokens.proofs.Sizes.{init-count, goal-count, part_size, part-size, schema-count}
use Rattle.tokens.proofs.Totals.{schema_total, atom-total, pairs_total, pair-total}

-- no part of any schema has too many atoms
abbrev pub parts_few : Task → Bool
parts_few t =
    all (λ s. all (λ j. leb (part_size t s (orders t s) j) most_atoms) (up_to (length (orders t s))))
    (up_to (length t.schemas))

-- the limits as counts, a test each
abbrev pub count_tests : Task → List Bool
count_tests t =
    leb (length t.arities + 1 + later_parts t.schemas + par_count t) most_predicates ∷
    leb (total parts t.schemas) most_schemas ∷
    leb (total schema_total t.schemas) most_schema_atoms ∷
    parts_few t ∷
    leb (length t.init + 1) most_initial ∷
    leb (length t.goal + 1) most_goal ∷
    leb (total pairs_total t.schemas) most_pairs ∷ []

module _ (t : Task) (well : well_formed t ≡ true) (ordered : Ordered t) where
  few-counted : all (λ s. leb (length s.atoms) most_atoms) (split_task t).schemas ≡ parts_few t
  unfolding split_task
  few-counted =
      bool-ext (all (λ s. leb (length s.atoms) most_atoms) (split_task t).schemas) (parts_few t)
      (λ h.
      in_all (λ s. all (part_few s) (up_to (length (orders t s)))) (up_to (length t.schemas)) (λ s i.
      in_all (part_few s) (up_to (length (orders t s))) (λ j k.
      subst (λ n. leb n most_atoms ≡ true) (size s j i k)
      (all_in (λ s. leb (length s.atoms) most_atoms) h (is-schema s j i k)))))
      (λ h.
      in_all (λ s. leb (length s.atoms) most_atoms) (split_task t).schemas (λ u i.
      let (s, j, l, m, e) = schema-of-part t u i in
      let a = in-up_to (length t.schemas) s l in
      let b = in-up_to (length (orders t s)) j m in
      let few = all_in (λ s. all (part_few s) (up_to (length (orders t s)))) h a in
      subst (λ n. leb n most_atoms ≡ true) (sym (ap (λ u. length u.atoms) e ∙ size s j a b))
      (all_in (part_few s) few b)))
    where
      part_few : ℕ → ℕ → Bool
      part_few s j = leb (part_size t s (orders t s) j) most_atoms

      size : (s j : ℕ) → In s (up_to (length t.schemas)) → In j (up_to (length (orders t s))) →
          length (split_schema t s (orders t s) j).atoms ≡ part_size t s (orders t s) j
      size s j i k =
          let l = up_to-in (length t.schemas) s i in
          let m = up_to-in (length (orders t s)) j k in
          part-size t s (orders t s) j (part_of t well ordered s j l m).fits

      is-schema : (s j : ℕ) → In s (up_to (length t.schemas)) → In j (up_to (length (orders t s))) →
          In (split_schema t s (orders t s) j) (split_task t).schemas
      is-schema s j i k =
          in-concat_map (λ s. map (split_schema t s (orders t s)) (up_to (length (orders t s)))) i
          (in_map (split_schema t s (orders t s)) k)

  pub limits-counted : within_limits (split_task t) ≡ every (count_tests t)
  unfolding within_limits
  limits-counted =
      rw (predicate-count t, schema-count t ordered, atom-total t well ordered, few-counted)
      (rw (init-count t, goal-count t, pair-total t ordered) refl)
