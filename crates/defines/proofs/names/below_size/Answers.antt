use Rattle.std.proofs.Common.{arith}
use Rattle.defines.proofs.MarkedNames.{below-long}
use Rattle.defines.proofs.names.below_size.Goals as goal

pub returns : goal.returns
returns c =
    let l = below-long c.args.n c.requires in
    omega (arith, c.saturating_sub.ensures, c.saturating_sub-2.ensures)
