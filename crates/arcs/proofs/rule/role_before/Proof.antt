-- `arcs::rule::role_before` meets its contract: the constant is the rule written out, which antt computes at its nine
-- entries.
use mathlib.Core.Path.{refl}
use native.Mathlib.Omega.{arith}
use Rattle.arcs.proofs.RoleTable.{rule_table, each-entry}
use Rattle.arcs.proofs.rule.role_before.Statement.{statement}
use Rattle.arcs.proofs.rule.role_before.Tie as tie

returns : tie.Need-returns
unfolding rule_table
returns c = each-entry _ refl c.args.r c.args.q c.requires.0 c.requires.1

pub role_before_spec : {M : Type 1} → statement M
role_before_spec =
    tie.close
    (tie.spec (λ c. let l = c.requires.0 in record { fits = omega arith }) (λ c. c.requires.0) (λ c. c.requires.1) returns)
