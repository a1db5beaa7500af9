-- An unknown predicate fails, and so does a count that is not its arity; else the test is that of the arguments.
use Rattle.std.proofs.Common.{arith, sym, ◌∙◌}
use borrow.Author.Tests.{tests, eqb-true, eqb-false}
use Rattle.task.specs.Layout.{arity_in}
use Rattle.text.proofs.RowTests.{unknown-predicate, too-many, other-arity, right-count}
use Rattle.text.proofs.rows.fits.Goals as goal
use Rattle.text.proofs.rows.fits.Goals.{then-p-predicates, else-p-predicates, then-count-args, else-count-args}

pub returns-then-arity_of-count : goal.returns-then-arity_of-count
unfolding arity_in
returns-then-arity_of-count c = elim c.if-count-args.branch [
  | then-count-args v ↦
      let (known, enough) = v.if-count-args.true in
      right-count _ _ _ _ _ _ known enough
      (sym v.arity_of.ensures ∙ eqb-true _ _ (sym v.value-is ∙ c.if-arity_of-count.true)) _ c.all_below.ensures
  | else-count-args v ↦ elim c.if-p-predicates.branch [
    | then-p-predicates w ↦
        let known = w.if-p-predicates.true in
        let enough = w.t-10-is in
        let e = v.value-is in
        let f = v.if-count-args.either in
        absurd (grind (arith, tests))
    | else-p-predicates w ↦
        let unknown = w.if-p-predicates.false in
        let known = w.t-10-is in
        let e = v.value-is in
        absurd (grind (arith, tests))
  ]
]

pub returns-else-arity_of-count : goal.returns-else-arity_of-count
unfolding arity_in
returns-else-arity_of-count c = rw c.if-arity_of-count.false (elim c.if-count-args.branch [
  | then-count-args v ↦
      let (known, enough) = v.if-count-args.true in
      let other = eqb-false _ _ (sym v.value-is ∙ c.if-arity_of-count.false) in
      other-arity _ _ _ _ _ _ known (λ e. other (v.arity_of.ensures ∙ e))
  | else-count-args v ↦ elim c.if-p-predicates.branch [
    | then-p-predicates w ↦ let e = v.if-count-args.either in too-many _ _ _ _ _ _ w.if-p-predicates.true (grind arith)
    | else-p-predicates w ↦ unknown-predicate _ _ _ _ _ _ w.if-p-predicates.false
  ]
])
