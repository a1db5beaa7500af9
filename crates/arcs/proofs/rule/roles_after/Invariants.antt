use Rattle.std.proofs.Common.{eqb, ◌&&◌}
use Rattle.words.specs.Lists.{any, up_to}
use Rattle.words.proofs.Loops.{SetLeft}
use Rattle.task.specs.Task.{schema_roles}
use Rattle.arcs.specs.Order.{role_before}
use Rattle.arcs.proofs.rule.roles_after.Given as goal

-- the set asked for is the set so far with the roles left, of those that come after role r
abbrev pub invariant-loop-q : goal.invariant-loop-q
invariant-loop-q l =
    SetLeft (λ x q. eqb q x && role_before l.r q) schema_roles
    (λ x. any (λ q. eqb q x && role_before l.r q) (up_to schema_roles)) l.after l.q
