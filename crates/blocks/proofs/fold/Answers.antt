-- What acceptance refuses is the outcome's refusal, with its number and place, and `out` is as found. Where it accepts,
-- what it kept is what `fold_kept` requires, whose promise is the same.
use mathlib.Core.Path.{refl}
use Rattle.std.proofs.lemmas.Result.{err_from_is_err_and}
use Rattle.task.proofs.Answers.{both}
use Rattle.tokens.proofs.SplitOutcome.{told-accepted, told-refused}
use Rattle.blocks.proofs.FoldOutcome.{fold-refused-as}
use Rattle.blocks.proofs.fold.Goals as goal

pub returns-in_err-sizes-clause-told : goal.returns-in_err-sizes-clause-told
returns-in_err-sizes-clause-told c =
    let a = c.args in
    let e = err_from_is_err_and c.from_residual.result c.from_residual.ensures.1 in
    rw (e.1, e.2)
    (both (fold-refused-as a.table.now a.steps.now a.out.now
    (told-refused a.table.now c.keep_accepted.new.kept refl c.in_err-sizes.ensures))).0

pub returns-in_err-sizes-clause-written : goal.returns-in_err-sizes-clause-written
returns-in_err-sizes-clause-written c =
    let a = c.args in
    (both (fold-refused-as a.table.now a.steps.now a.out.now
    (told-refused a.table.now c.keep_accepted.new.kept refl c.in_err-sizes.ensures))).1

pub fold_kept-requires : goal.fold_kept-requires
fold_kept-requires c = told-accepted refl c.in_ok-sizes.ensures
