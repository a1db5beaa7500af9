-- What acceptance refuses is the outcome's refusal, with its number and place, and `out` is as found. Where it accepts,
-- what it kept is what `unfold_kept` requires, whose promise is the same.
use mathlib.Core.Path.{refl}
use Rattle.std.proofs.lemmas.Result.{err_from_is_err_and}
use Rattle.task.proofs.Answers.{both}
use Rattle.tokens.proofs.SplitOutcome.{told-accepted, told-refused}
use Rattle.blocks.proofs.KeptParts.{table_kept}
use Rattle.blocks.proofs.UnfoldOutcome.{unfold-refused-as}
use Rattle.blocks.proofs.unfold.Goals as goal

pub returns-in_err-keep_accepted-clause-told : goal.returns-in_err-keep_accepted-clause-told
returns-in_err-keep_accepted-clause-told c =
    let a = c.args in
    let e = err_from_is_err_and c.from_residual.result c.from_residual.ensures.1 in
    rw (e.1, e.2)
    (both (unfold-refused-as a.table.now a.steps.now a.out.now
    (told-refused a.table.now c.keep_accepted.new.kept refl c.in_err-keep_accepted.ensures))).0

pub returns-in_err-keep_accepted-clause-written : goal.returns-in_err-keep_accepted-clause-written
returns-in_err-keep_accepted-clause-written c =
    let a = c.args in
    (both (unfold-refused-as a.table.now a.steps.now a.out.now
    (told-refused a.table.now c.keep_accepted.new.kept refl c.in_err-keep_accepted.ensures))).1

pub unfold_kept-requires : goal.unfold_kept-requires
unfold_kept-requires c = table_kept (told-accepted refl c.in_ok-keep_accepted.ensures)
