-- What `sizes` answers, case by case: it refuses as splitting does; of an accepted split it refuses by 24 where a total
-- of instances reaches the limit, and else tells the six sizes. The last laws take the totals as code has them, capped
-- at the limit, and the three sizes that acceptance has counted.
use Rattle.task.specs.declared.refusals.Reason.TheVariants as reason
use Rattle.std.specs.Prelude.{Ok, Err}
use Rattle.task.specs.declared.Place.TheVariants as place
use Prim.Native.Nat.{ℕ, ◌+◌, ◌≤◌, ◌<◌}
use mathlib.Core.Path.{◌≡◌, refl, sym, ◌∙◌, ap}
use mathlib.Core.Bool.{Bool, true, false, ◌&&◌}
use mathlib.Core.List.{List, [], ◌∷◌}
use mathlib.Core.Logic.{◌⊎◌, inl, inr, ⊎_elim}
use native.Mathlib.Omega.{arith}
use lib.ListN.{length}
use lib.Dec.{ltb}
use borrow.Author.Tests.{lt-ltb, le-ltb}
use Rattle.words.proofs.Lists.{and_both}
use Rattle.words.proofs.Words.{and-false}
use Rattle.task.specs.Layout.{head_in}
use Rattle.task.specs.declared.Place.{Place}
use Rattle.task.specs.Answers.{result, Outcome, Check, refuse_unless, in_order}
use Rattle.task.specs.Task.{Task, schema_atoms}
use Rattle.task.specs.Table.{task_of, long_enough, is_table}
use Rattle.task.proofs.Answers.{as_found, check-passes, check-refuses, refusal-stands, told-by}
use Rattle.text.specs.Text.{write}
use Rattle.tokens.specs.Split.{split_task, split_as, split}
use Rattle.tokens.specs.Acceptance.{accepted_then, RefusedAs, AcceptedKept}
use Rattle.tokens.specs.declared.measure.Sizes.{Sizes}
use Rattle.tokens.proofs.Predicates.{predicate-count}
use Rattle.tokens.proofs.SplitOutcome.{accepted-passes}
use Rattle.tokens.proofs.Splitting.{predicates-word}
use Rattle.forecast.specs.Forecast.{instances, sizes, instance_limit, sizes_outcome, sizes_answer_told}
use Rattle.forecast.specs.Capped.{capped}

-- ---- the cases
module _ (w : List ℕ) where
  abbrev t : Task
  t = task_of w

  -- what is done where no check fails
  abbrev done : Outcome (List ℕ)
  done = record { told = result (sizes t); buffer = [] }

  abbrev few : Bool
  few = ltb (instances t) instance_limit && ltb (instances (split_task t)) instance_limit

  abbrev last : List Check
  last = refuse_unless few 24 ∷ []

  outcome-is : sizes_outcome w ≡ in_order (accepted_then w last) [] done
  unfolding sizes_outcome
  outcome-is = refl

  -- "Refused as splitting would"
  pub sizes-refused : {n : ℕ} {at : Place} → RefusedAs w n at → sizes_outcome w ≡ as_found n at []
  sizes-refused h = outcome-is ∙ refusal-stands (accepted_then w last) [] done (h last)

  module _ (long : long_enough w ≡ true) (table : is_table w ≡ true) {t' : Task} (e : split t ≡ split_as t') where
    accepted : sizes_outcome w ≡ in_order last [] done
    accepted = outcome-is ∙ accepted-passes w long table e last [] done

    -- "then 24, when either instance total is 2 to the power 63 or more"
    pub sizes-too-many : (instance_limit ≤ instances t) ⊎ (instance_limit ≤ instances (split_task t)) →
        sizes_outcome w ≡ as_found 24 place.Nowhere []
    sizes-too-many h = accepted ∙ check-refuses 24 [] [] done (reached h)
      where
        reached : (instance_limit ≤ instances t) ⊎ (instance_limit ≤ instances (split_task t)) → few ≡ false
        reached (inl l) =
            ap (λ (b : Bool). b && ltb (instances (split_task t)) instance_limit) (le-ltb (instances t) instance_limit l)
        reached (inr l) =
            ap (λ (b : Bool). ltb (instances t) instance_limit && b) (le-ltb (instances (split_task t)) instance_limit l) ∙
            and-false (ltb (instances t) instance_limit)

    pub sizes-told : instances t < instance_limit → instances (split_task t) < instance_limit →
        sizes_outcome w ≡ record { told = result (sizes t); buffer = [] }
    unfolding in_order
    sizes-told l m =
        accepted ∙
        check-passes 24 [] [] done
        (and_both (ltb (instances t) instance_limit) (ltb (instances (split_task t)) instance_limit)
        (lt-ltb (instances t) instance_limit l) (lt-ltb (instances (split_task t)) instance_limit m))

-- ---- as code has it
-- the six sizes of a task t that is split as u
abbrev pub six_sizes : Task → Task → List ℕ
six_sizes t u =
    length u.arities ∷
    length u.schemas ∷
    schema_atoms u.schemas ∷
    length (write u) ∷
    instances t ∷
    instances u ∷ []

pub sizes-are : (t : Task) → sizes t ≡ six_sizes t (split_task t)
unfolding sizes
sizes-are t = refl

module _ {w : List ℕ} {counted : Sizes} {kept : List ℕ} (K : AcceptedKept w counted kept) {limit before after : ℕ}
    (is : limit ≡ instance_limit) (b : before ≡ capped instance_limit (instances (task_of w)))
    (a : after ≡ capped instance_limit (instances (split_task (task_of w)))) where
  pub too-many-told : (limit ≤ before) ⊎ (limit ≤ after) →
      sizes_answer_told (Err (record { reason = reason.TooManyInstances; place = place.Nowhere })) ≡ (sizes_outcome w).told
  too-many-told h =
      sym (told-by (sizes-too-many w K.long K.table K.accepted
      (⊎_elim (λ l. inl (omega arith)) (λ l. inr (omega arith)) h)))

  pub predicates-counted : (head_in w).predicates + 1 + counted.later + counted.pars ≡
      length (split_task (task_of w)).arities
  predicates-counted = omega (arith, predicate-count (task_of w), predicates-word K, K.sized.later, K.sized.pars)

  pub counted-told : before < limit → after < limit →
      {predicates : ℕ} → predicates ≡ (head_in w).predicates + 1 + counted.later + counted.pars →
      {bytes : ℕ} → bytes ≡ length (write (split_task (task_of w))) →
      sizes_answer_told (Ok (record {
        predicates = predicates;
        schemas = counted.schemas;
        atoms = counted.atoms;
        bytes = bytes;
        before = before;
        after = after;
      })) ≡ (sizes_outcome w).told
  counted-told l m p e =
      let t = task_of w in
      let predicates = p ∙ predicates-counted in
      let schemas = K.sized.schemas in
      let atoms = K.sized.atoms in
      let before-whole : before ≡ instances t = omega arith in
      let after-whole : after ≡ instances (split_task t) = omega arith in
      (λ j. result (predicates j ∷ schemas j ∷ atoms j ∷ e j ∷ before-whole j ∷ after-whole j ∷ [])) ∙
      (ap result (sym (sizes-are t)) ∙
      sym (told-by (sizes-told w K.long K.table K.accepted (omega arith) (omega arith))))
