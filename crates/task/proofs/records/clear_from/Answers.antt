use Rattle.std.proofs.Common.{arith}
use Rattle.task.proofs.Moves.{filled-rest}
use Rattle.task.proofs.records.clear_from.Goals as goal

pub returns : goal.returns
returns c =
    filled-rest c.args.state.now c.fill.new.self c.args.from _ c.requires (omega arith) (c.fill.ensures.after (λ y e. e))
