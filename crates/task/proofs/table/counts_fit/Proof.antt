-- `task::table::counts_fit` meets its contract.
-- A count outside its limits fails; within them all, the tests are met.
use mathlib.Core.Logic.{⊎_elim}
use native.Mathlib.Omega.{arith}
use borrow.Author.Tests.{ltb-true, ltb-false}
use Rattle.task.proofs.Counts.{all-counted, not-counted}
use borrow.Author.Rules.{rules}
use Rattle.task.proofs.table.counts_fit.Statement.{statement}
use Rattle.task.proofs.table.counts_fit.Tie as tie

abbrev start : tie.After-word-pairs → tie.Start
start c = c.before.before.before.before.before.before.before.before.before.before.before.before

returns : tie.Need-returns-then-objects-lt1
returns c =
    let w = c.args.table.now in
    ⊎_elim (λ a. not-counted w (λ k. omega arith)) (⊎_elim (λ a. not-counted w (λ k. omega (arith, ltb-true)))
    (⊎_elim (λ a. not-counted w (λ k. omega (arith, ltb-true))) (λ a. not-counted w (λ k. omega (arith, ltb-true)))))
    c.then-objects-lt1.branch-raw

returns-2 : tie.Need-returns-then-schemas-gt-MOST_SCHEMAS
returns-2 c =
    let w = (start c.before).args.table.now in
    ⊎_elim (λ a. not-counted w (λ k. omega arith)) (⊎_elim (λ a. not-counted w (λ k. omega (arith, ltb-true)))
    (⊎_elim (λ a. not-counted w (λ k. omega (arith, ltb-true))) (⊎_elim
    (λ a. not-counted w (λ k. omega (arith, ltb-true))) (λ a. not-counted w (λ k. omega (arith, ltb-true))))))
    c.then-schemas-gt-MOST_SCHEMAS.branch-raw

returns-3 : tie.Need-returns
returns-3 c = all-counted (start c.before.before.before.before.before).args.table.now (record {
  some-object = omega (arith, ltb-false);
  objects = omega (arith, ltb-false);
  some-pred = omega (arith, ltb-false);
  preds = omega (arith, ltb-false);
  schemas = omega (arith, ltb-false);
  atoms = omega (arith, ltb-false);
  inits = omega (arith, ltb-false);
  goals = omega (arith, ltb-false);
  pairs = omega (arith, ltb-false);
})

pub counts_fit_spec : {M : Type 1} → statement M
counts_fit_spec =
    tie.close
    (tie.spec (λ c κs. search rules) (λ c κs. search rules) returns (λ c κs. search rules) (λ c κs. search rules)
    (λ c κs. search rules) (λ c κs. search rules) (λ c κs. search rules) returns-2 returns-3)
