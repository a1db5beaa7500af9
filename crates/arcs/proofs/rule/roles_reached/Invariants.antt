use Rattle.words.specs.Lists.{any, up_to}
use Rattle.words.proofs.Loops.{SetLeft}
use Rattle.task.specs.Task.{schema_roles}
use Rattle.arcs.specs.Order.{role_before}
use Rattle.arcs.proofs.rule.roles_reached.Given as goal

-- the set asked for is the set so far with what comes after the roles left
abbrev pub invariant-loop-r : goal.invariant-loop-r
invariant-loop-r l =
    SetLeft (λ q r. role_before r q) schema_roles (λ q. any (λ r. role_before r q) (up_to schema_roles)) l.reached l.r
