-- The numbers handed on are those of the definition. A table has a head, its words and the sizes are small, so no sum is
-- too large.
use Rattle.std.proofs.Common.{Bool, ℕ, ◌+◌, ◌∙◌, ap, arith}
use Rattle.task.specs.Layout.{head_in}
use Rattle.task.proofs.TableReads.{counts-inside}
use Rattle.tokens.specs.Acceptance.{are_within}
use Rattle.tokens.proofs.SizesTold.{few-later, few-pars, within-told}
use Rattle.tokens.proofs.measure.within_limits.Goals as goal

pub word-old-requires : goal.word-old-requires
word-old-requires c = omega (arith, counts-inside c.args.table.now c.requires.table_value)

pub word-initial-requires : goal.word-initial-requires
word-initial-requires c = omega (arith, counts-inside c.args.table.now c.requires.table_value)

pub word-goal-requires : goal.word-goal-requires
word-goal-requires c = omega (arith, counts-inside c.args.table.now c.requires.table_value)

pub overflow_add-predicates-2 : goal.overflow_add-predicates-2
overflow_add-predicates-2 c =
    let q = c.requires in
    omega (arith, c.word-old.ensures.upper_bound, few-later c.args.table.now q.table_value c.args.sizes q.sizes_counted)

pub overflow_add-predicates-3 : goal.overflow_add-predicates-3
overflow_add-predicates-3 c =
    let q = c.requires in
    let later = few-later c.args.table.now q.table_value c.args.sizes q.sizes_counted in
    let pars = few-pars c.args.table.now q.table_value c.args.sizes q.sizes_counted in
    omega (arith, c.word-old.ensures.upper_bound, later, pars)

pub returns : goal.returns
returns c =
    let r = c.args.sizes in
    let w = c.args.table.now in
    let fit : ℕ → ℕ → ℕ → Bool = λ p i g.
    are_within (p + 1 + r.later + r.pars) r.schemas r.atoms r.largest (i + 1) (g + 1)
    r.pairs in
    c.are_within.ensures ∙ ap (λ p. fit p c.word-initial.result c.word-goal.result) c.word-old.ensures.value ∙
    ap (λ i. fit (head_in w).predicates i c.word-goal.result) c.word-initial.ensures.value ∙
    ap (fit (head_in w).predicates (head_in w).initial_atoms) c.word-goal.ensures.value ∙
    within-told w c.requires.table_value r c.requires.sizes_counted
