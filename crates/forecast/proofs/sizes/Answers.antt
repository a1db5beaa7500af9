-- What acceptance refuses is refused alike, and an accepted split is forecast.
use mathlib.Core.Path.{refl, sym}
use Rattle.std.proofs.lemmas.Result.{err_from_is_err_and}
use Rattle.task.proofs.Answers.{told-by}
use Rattle.tokens.proofs.SplitOutcome.{told-accepted, told-refused}
use Rattle.forecast.proofs.Outcome.{sizes-refused}
use Rattle.forecast.proofs.sizes.Goals as goal

-- "Refused as splitting would"
pub returns-in_err-counted : goal.returns-in_err-counted
returns-in_err-counted c =
    let w = c.args.table.now in
    let e = err_from_is_err_and c.from_residual.result c.from_residual.ensures.1 in
    rw (e.1, e.2)
    (sym (told-by (sizes-refused w (told-refused w c.keep_accepted.new.kept refl c.in_err-counted.ensures))))

pub forecast_split-requires : goal.forecast_split-requires
forecast_split-requires c = told-accepted refl c.in_ok-counted.ensures
