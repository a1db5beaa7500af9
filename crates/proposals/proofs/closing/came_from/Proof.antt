-- `proposals::closing::came-from` meets its contract: a part below b stayed where it was (`came-low`), any other was
-- one higher (`came-high`), and nothing wraps, since there are at most 64 parts.
use mathlib.Core.Path.{sym}
use native.Mathlib.Omega.{arith}
use Rattle.proposals.proofs.CameFrom.{came-low, came-high}
use Rattle.proposals.proofs.closing.came_from.Statement.{statement}
use Rattle.proposals.proofs.closing.came_from.Tie as tie

returns : tie.Need-returns-then-q-b
returns c = sym (came-low c.args.b c.args.q (omega arith))

returns-2 : tie.Need-returns-else-q-b
returns-2 c = sym (came-high c.args.b c.args.q (omega arith))

pub came_from_spec : {M : Type 1} → statement M
came_from_spec = tie.close (tie.spec (λ c. omega arith) returns returns-2)
