use mathlib.Core.Path.{sym, ◌∙◌, ap₂}
use lib.Dec.{leb}
use Rattle.std.proofs.Common.{rules, tests}
use Rattle.words.proofs.Chains.{all_ran}
use Rattle.words.proofs.Loops.{all_start}
use Rattle.words.proofs.Ranges.{and-more, and-fails}
use Rattle.task.proofs.AtomRuns.{role_rises, roles-start}
use Rattle.task.proofs.table.schemas.roles_ascend.Goals as goal

pub returns-then-all : goal.returns-then-all
returns-then-all c =
    let w = c.args.table.now in
    let rise = all_ran (all_start {p = role_rises w}) c.all.ensures.ran (λ x b q k. search (rules, tests)) in
    ap₂ leb c.role.ensures c.from.ensures ∙
    sym (and-more (roles-start w c.args.end c.args.first c.requires.first_lt_end.0) (sym rise ∙ c.if-all.true))

pub returns-else-all : goal.returns-else-all
returns-else-all c =
    let w = c.args.table.now in
    let rise = all_ran (all_start {p = role_rises w}) c.all.ensures.ran (λ x b q k. search (rules, tests)) in
    c.if-all.false ∙
    and-fails _ (roles-start w c.args.end c.args.first c.requires.first_lt_end.0) (sym rise ∙ c.if-all.false)
