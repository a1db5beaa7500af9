-- The list and the state of the second run: an unfolding is as long as its steps' part counts together, and a state of
-- the task with procnone is a state of the split, since procnone is the first predicate after the task's.
use mathlib.Core.Path.{◌≡◌, sym, ◌∙◌, ap, subst}
use mathlib.Core.Bool.{true}
use mathlib.Core.List.{List, [], ◌∷◌, ◌++◌}
use mathlib.Core.Logic.{◌⊎◌, inl, inr}
use native.Mathlib.Omega.{arith}
use lib.ListN.{length, length-append, get_or-append}
use lib.Seq.{get_or-append_seam}
use Rattle.words.specs.Lists.{sum}
use Rattle.task.specs.Task.{Fact, Task, args_fit, facts_fit}
use Rattle.task.specs.Run.{Step, is_step, schema_at}
use Rattle.tokens.specs.Split.{procnone, parts, split_task, free}
use Rattle.blocks.specs.Blocks.{unfold_steps}
use Rattle.words.proofs.Lists.{and_both, In, here, there, in-empty, in-append, all_in, in_all, map_same}
use Rattle.task.proofs.States.{State, facts_fit-state, is_step-is, fitting-args_fit, asc-ascending}
use Rattle.tokens.proofs.Ground.{bare}
use Rattle.blocks.proofs.Unfolded.{parts_of, length-unfold}
use Rattle.correspondence.specs.SharedRuns.{StepsOf, StateOf, with_free, part_sum}
use Rattle.blocks.proofs.Given.{Given, part-count}
use Rattle.correspondence.proofs.Standing.{asc-free}

module _ {t t' : Task} (G : Given t t') where
  pub unfolded-length : (xs : List Step) → StepsOf t xs → length (unfold_steps t xs) ≡ part_sum t xs
  unfolding part_sum
  unfolded-length xs h = length-unfold t xs ∙
      ap sum (map_same (parts_of t) (λ x. parts (schema_at t x.schema)) xs
      (λ x i. part-count G (is_step-is t x (all_in (is_step t) h i)).known))

  -- ---- the state that the second run starts from
  pub free-state : (s : List Fact) → StateOf t s → StateOf t' (with_free t s)
  unfolding facts_fit with_free free split_task procnone
  free-state s h = subst (λ u. facts_fit u.objects u.arities (s ++ (bare (procnone t) ∷ [])) ≡ true) (sym G.is)
      (and_both _ _
      (in_all (λ f. args_fit (split_task t).arities t.objects f.pred f.args) (s ++ (bare (procnone t) ∷ []))
      (λ f i. go f (in-append s i)))
      (asc-ascending (s ++ (bare (procnone t) ∷ [])) (asc-free t s st)))
    where
      st : State t s
      st = facts_fit-state t s h

      old : (f : Fact) → In f s → args_fit (split_task t).arities t.objects f.pred f.args ≡ true
      old f i =
          let k = st.fit f i in
          fitting-args_fit t.objects (split_task t).arities f.pred f.args (record {
            known = simp length-append (omega (arith, k.known));
            count = k.count ∙ sym (get_or-append t.arities _ 0 f.pred k.known);
            small = k.small;
          })

      go : (f : Fact) → In f s ⊎ In f (bare (procnone t) ∷ []) →
          args_fit (split_task t).arities t.objects f.pred f.args ≡ true
      go f (inl i) = old f i
      go f (inr (there x4)) = elim x4 [ ]
      go f (inr (here e)) = subst (λ f. args_fit (split_task t).arities t.objects f.pred f.args ≡ true) (sym e)
          (fitting-args_fit t.objects (split_task t).arities (procnone t) [] (record {
            known = simp length-append (omega arith);
            count = sym (get_or-append_seam t.arities 0 _ 0);
            small = λ o i. absurd (in-empty i);
          }))
