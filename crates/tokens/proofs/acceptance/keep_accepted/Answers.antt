-- Each check that fails is the first of those of acceptance; what is kept of the parts says whether one is circular and
-- whether a pair is parted, the sizes whether a limit is passed, and where none is, all pass.
use Rattle.std.proofs.Common.{sym, ◌∙◌}
use Rattle.std.proofs.lemmas.Bool.{not-false, not-true}
use Rattle.std.proofs.lemmas.Result.{err_from_is_err_and}
use Rattle.task.specs.Table.{task_of}
use Rattle.tokens.specs.Acceptance.{AcceptanceTold}
use Rattle.tokens.proofs.SplitOutcome.{found-circular, found-parted, found-large, found-split, refused-table}
use Rattle.tokens.proofs.SplitOutcome.{passed-tests, refused-nine, refused-twenty, refused-ten}
use Rattle.tokens.proofs.acceptance.keep_accepted.Goals as goal

pub returns-in_err-judge_table : goal.returns-in_err-judge_table
unfolding AcceptanceTold
returns-in_err-judge_table c =
    let e = err_from_is_err_and c.from_residual.result c.from_residual.ensures.1 in
    rw (e.1, e.2) (refused-table c.args.table.now c.in_err-judge_table.ensures)

pub keep_parts-requires : goal.keep_parts-requires
keep_parts-requires c = (passed-tests c.args.table.now c.in_ok-judge_table.ensures).1

pub returns-in-Some : goal.returns-in-Some
unfolding AcceptanceTold
returns-in-Some c =
    let w = c.args.table.now in
    let p = passed-tests w c.in_ok-judge_table.ensures in
    rw c.at_schema.ensures
    (refused-nine w p.0 p.1 (found-circular (task_of w) (sym c.keep_parts.ensures.result_value ∙ c.in-Some.is)))

pub first_parted-requires-clause-table_value : goal.first_parted-requires-clause-table_value
first_parted-requires-clause-table_value c = (passed-tests c.args.table.now c.in_ok-judge_table.ensures).1

pub returns-in-Some-first_parted : goal.returns-in-Some-first_parted
unfolding AcceptanceTold
returns-in-Some-first_parted c =
    let w = c.args.table.now in
    let p = passed-tests w c.in_ok-judge_table.ensures in
    let none = sym c.keep_parts.ensures.result_value ∙ c.in_default.is in
    rw c.at_schema-in-Some-first_parted.ensures
    (refused-twenty w p.0 p.1 (found-parted (task_of w) none (sym c.first_parted.ensures ∙ c.in-Some-first_parted.is)))

pub sizes_of-sizes-requires-clause-table_value : goal.sizes_of-sizes-requires-clause-table_value
sizes_of-sizes-requires-clause-table_value c = (passed-tests c.args.table.now c.in_ok-judge_table.ensures).1

pub returns-then-not-sizes : goal.returns-then-not-sizes
unfolding AcceptanceTold
returns-then-not-sizes c =
    let w = c.args.table.now in
    let p = passed-tests w c.in_ok-judge_table.ensures in
    let none = sym c.keep_parts.ensures.result_value ∙ c.in_default.is in
    let carried = sym c.first_parted.ensures ∙ c.in_default-first_parted.is in
    let over = sym c.sizes_of-sizes.ensures.within ∙ not-true _ c.if-not-sizes.true in
    rw c.nowhere.ensures (refused-ten w p.0 p.1 (found-large (task_of w) none carried over))

pub returns : goal.returns
unfolding AcceptanceTold
returns c =
    let w = c.args.table.now in
    let p = passed-tests w c.in_ok-judge_table.ensures in
    let none = sym c.keep_parts.ensures.result_value ∙ c.in_default.is in
    let carried = sym c.first_parted.ensures ∙ c.in_default-first_parted.is in
    let within = sym c.sizes_of-sizes.ensures.within ∙ not-false _ c.if-not-sizes.false in
    record {
      long = p.0;
      table = p.1;
      accepted = found-split (task_of w) none carried within;
      parts = c.keep_parts.ensures.parts_kept c.in_default.is;
      sized = c.sizes_of-sizes.ensures;
    }
