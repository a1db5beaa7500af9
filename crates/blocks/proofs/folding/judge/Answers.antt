-- Once no pair is left to tell, the list is taken apart up to a step before which all are the split's, so the first bad
-- step from there on is the list's; and where there is none, what it is taken apart into is right.
use mathlib.Core.Path.{sym, ◌∙◌, ap, subst}
use mathlib.Core.List.{List}
use Prim.Native.Nat.{ℕ}
use lib.ListN.{length}
use Rattle.std.proofs.Common.{◌≡◌, rules}
use Rattle.std.specs.Prelude.{Err}
use Rattle.std.proofs.lemmas.Result.{MatchResult-weaker, err_from_is_err_and}
use Rattle.task.specs.declared.refusals.Refusal.{Refusal}
use Rattle.task.specs.Table.{task_of}
use Rattle.task.specs.Run.{bad_step, steps_in}
use Rattle.task.specs.StepTests.{limits_for}
use Rattle.task.proofs.Tables.{of-table}
use Rattle.tokens.specs.Acceptance.{AcceptedKept}
use Rattle.tokens.specs.Split.{split_task, first_of}
use Rattle.tokens.specs.declared.measure.Sizes.{Sizes}
use Rattle.tokens.proofs.WellSplit.{split-well}
use Rattle.blocks.specs.Blocks.{fold_steps}
use Rattle.blocks.specs.FoldCode.{StepsKnown, BlocksKnown, ParamsNoted, PairsNoted, GoodBefore, EqualTold}
use Rattle.blocks.proofs.Numbers.{split-count}
use Rattle.blocks.proofs.KeptParts.{table_kept}
use Rattle.blocks.proofs.FoldMoves.{judged-bad, judged-taken}
use Rattle.blocks.proofs.folding.judge.Goals as goal

steps_known : {w kept : List ℕ} {sizes : Sizes} → AcceptedKept w sizes kept → {params limits pairs : List ℕ} →
    ParamsNoted (task_of w) (first_of (task_of w) (length (task_of w).schemas)) params →
    limits ≡ limits_for (task_of w).objects → PairsNoted (task_of w) pairs → StepsKnown (task_of w) params limits pairs
steps_known {w} S counts bounds carried = record {
  well = split-well (task_of w) (split_task (task_of w)) (of-table w S.table).0 S.accepted;
  few = (table_kept S).blocks.few-splits;
  counts = counts;
  bounds = bounds;
  carried = carried;
}

pub params_of-params-requires : goal.params_of-params-requires
params_of-params-requires c =
    (task_of c.args.table.now, (table_kept c.requires.accepted_kept).blocks, c.schema_count-schemas.ensures)

pub places_of-places-requires : goal.places_of-places-requires
places_of-places-requires c =
    (task_of c.args.table.now, (table_kept c.requires.accepted_kept).blocks, c.schema_count-schemas.ensures)

-- ---- a first look at the pairs
pub equal_step-requires : goal.equal_step-requires
equal_step-requires c =
    let S = c.requires.accepted_kept in
    let t = task_of c.args.table.now in
    let B = (table_kept S).blocks in
    let known = steps_known S (c.params_of-params.ensures t B c.schema_count-schemas.ensures)
    (c.limits_of-limits.ensures ∙ ap limits_for c.object_count.ensures) c.pairs_of-pairs.ensures in
    let splits = S.sized.schemas ∙ split-count t in
    (t, known, splits)

pub returns-in-Some : goal.returns-in-Some
unfolding EqualTold
returns-in-Some c =
    let S = c.requires.accepted_kept in
    let t = task_of c.args.table.now in
    let B = (table_kept S).blocks in
    let known = steps_known S (c.params_of-params.ensures t B c.schema_count-schemas.ensures)
    (c.limits_of-limits.ensures ∙ ap limits_for c.object_count.ensures) c.pairs_of-pairs.ensures in
    let splits = S.sized.schemas ∙ split-count t in
    let w = c.args.steps.now in
    rw c.at_step.ensures
    (judged-bad (bad_step (split_task t) w) (fold_steps t (steps_in (split_task t) w)) _
    (subst (EqualTold t w) c.in-Some.is (c.equal_step.ensures t known splits)))

-- ---- the list is taken apart
pub take_apart-taken-requires : goal.take_apart-taken-requires
unfolding EqualTold
take_apart-taken-requires c =
    let S = c.requires.accepted_kept in
    let t = task_of c.args.table.now in
    let B = (table_kept S).blocks in
    let known = steps_known S (c.params_of-params.ensures t B c.schema_count-schemas.ensures)
    (c.limits_of-limits.ensures ∙ ap limits_for c.object_count.ensures) c.pairs_of-pairs.ensures in
    let splits = S.sized.schemas ∙ split-count t in
    let w = c.args.steps.now in
    let apart = subst (EqualTold t w) c.in_default.is (c.equal_step.ensures t known splits) in
    let all : BlocksKnown t c.args.kept.now c.params_of-params.result c.args.origins.now c.places_of-places.result
    c.limits_of-limits.result c.pairs_of-pairs.result = record {
      blocks = B;
      known = known;
      origin = c.requires.origins_kept;
      place = c.places_of-places.ensures t B c.schema_count-schemas.ensures;
    } in
    (t, c.args.origins.now, c.pairs_of-pairs.result, all, apart, c.requires.begins_kept)

-- ---- and its first bad step found
pub bad_from-bad-requires : goal.bad_from-bad-requires
bad_from-bad-requires c =
    let S = c.requires.accepted_kept in
    let t = task_of c.args.table.now in
    let B = (table_kept S).blocks in
    let known = steps_known S (c.params_of-params.ensures t B c.schema_count-schemas.ensures)
    (c.limits_of-limits.ensures ∙ ap limits_for c.object_count.ensures) c.pairs_of-pairs.ensures in
    let splits = S.sized.schemas ∙ split-count t in
    (t, known, splits)

pub returns-in-Some-bad : goal.returns-in-Some-bad
unfolding EqualTold
returns-in-Some-bad c =
    let S = c.requires.accepted_kept in
    let t = task_of c.args.table.now in
    let B = (table_kept S).blocks in
    let known = steps_known S (c.params_of-params.ensures t B c.schema_count-schemas.ensures)
    (c.limits_of-limits.ensures ∙ ap limits_for c.object_count.ensures) c.pairs_of-pairs.ensures in
    let splits = S.sized.schemas ∙ split-count t in
    let w = c.args.steps.now in
    let apart = subst (EqualTold t w) c.in_default.is (c.equal_step.ensures t known splits) in
    let all : BlocksKnown t c.args.kept.now c.params_of-params.result c.args.origins.now c.places_of-places.result
    c.limits_of-limits.result c.pairs_of-pairs.result = record {
      blocks = B;
      known = known;
      origin = c.requires.origins_kept;
      place = c.places_of-places.ensures t B c.schema_count-schemas.ensures;
    } in
    let taken = c.take_apart-taken.ensures t c.args.origins.now c.pairs_of-pairs.result all apart c.requires.begins_kept in
    let found = c.bad_from-bad.ensures t known splits (subst (GoodBefore t w) (sym c.reached.ensures) taken.good) in
    rw c.at_step-in-Some-bad.ensures
    (judged-bad (bad_step (split_task t) w) (fold_steps t (steps_in (split_task t) w)) _ (sym found ∙ c.in-Some-bad.is))

pub returns : goal.returns
unfolding EqualTold
returns c =
    let S = c.requires.accepted_kept in
    let t = task_of c.args.table.now in
    let B = (table_kept S).blocks in
    let known = steps_known S (c.params_of-params.ensures t B c.schema_count-schemas.ensures)
    (c.limits_of-limits.ensures ∙ ap limits_for c.object_count.ensures) c.pairs_of-pairs.ensures in
    let splits = S.sized.schemas ∙ split-count t in
    let w = c.args.steps.now in
    let apart = subst (EqualTold t w) c.in_default.is (c.equal_step.ensures t known splits) in
    let all : BlocksKnown t c.args.kept.now c.params_of-params.result c.args.origins.now c.places_of-places.result
    c.limits_of-limits.result c.pairs_of-pairs.result = record {
      blocks = B;
      known = known;
      origin = c.requires.origins_kept;
      place = c.places_of-places.ensures t B c.schema_count-schemas.ensures;
    } in
    let taken = c.take_apart-taken.ensures t c.args.origins.now c.pairs_of-pairs.result all apart c.requires.begins_kept in
    let found = c.bad_from-bad.ensures t known splits (subst (GoodBefore t w) (sym c.reached.ensures) taken.good) in
    let good = sym found ∙ c.in_default-bad.is in
    judged-taken (bad_step (split_task t) w) (fold_steps t (steps_in (split_task t) w)) good _ (taken.right good) _
    (MatchResult-weaker c.take_apart-taken.result c.map_err.ensures.cases (λ n e. e)
    (λ i e. let p = err_from_is_err_and c.map_err.result e in p.1 ∙ ap (λ (r : Refusal). Err r) (search rules)))
