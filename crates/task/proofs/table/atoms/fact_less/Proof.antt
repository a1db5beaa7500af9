-- `task::table::atoms::fact_less` meets its contract.
-- Predicates that differ decide; else the arguments do, as many of both.
use mathlib.Core.Path.{sym, ◌∙◌, ap, ap₂}
use lib.Dec.{ltb}
use Rattle.task.specs.Layout.{arity_in}
use Rattle.task.proofs.AtomWords.{less-predicate, less-args}
use borrow.Author.Rules.{rules}
use Rattle.task.proofs.table.atoms.fact_less.Statement.{statement}
use Rattle.task.proofs.table.atoms.fact_less.Tie as tie

returns : tie.Need-returns-then-p-q
returns c =
    let given = c.args in
    let p = c.predicate-p.ensures in
    let q = c.predicate-q.ensures in
    ap₂ ltb p q ∙ less-predicate given.table.now given.i given.j (λ e. c.if-p-q.true (p ∙ (e ∙ sym q)))

returns-2 : tie.Need-returns
returns-2 c =
    let given = c.args in
    let w = given.table.now in
    let k = c in
    let p = k.predicate-p.ensures in
    c.less_words.ensures ∙
    less-args w given.i given.j c.arguments.result
    c.arguments-2.result c.arity.result
    c.arguments.ensures.0 c.arguments-2.ensures.0
    (c.arity.ensures.0 ∙ ap (arity_in w) p)
    (sym p ∙ (k.if-p-q.false ∙ k.predicate-q.ensures))

pub fact_less_spec : {M : Type 1} → statement M
fact_less_spec =
    tie.close
    (tie.spec (λ c κs. search rules) (λ c κs. search rules) returns (λ c κs. search rules) (λ c κs. search rules)
    (λ c κs. search rules) (λ c κs. search rules) returns-2)
