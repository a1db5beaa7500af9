-- `task::table::atoms::same_atom` meets its contract.
-- Predicate and arguments in turn; where the predicates are equal, the arities are.
use mathlib.Core.Path.{sym, ◌∙◌, ap}
use Rattle.task.specs.Layout.{arity_in}
use Rattle.task.proofs.AtomWords.{other-atom, same-args}
use borrow.Author.Rules.{rules}
use Rattle.task.proofs.table.atoms.same_atom.Statement.{statement}
use Rattle.task.proofs.table.atoms.same_atom.Tie as tie

returns : tie.Need-returns-then-p-predicate
returns c =
    let given = c.args in
    sym (other-atom given.table.now given.i given.j (λ r e.
    c.if-p-predicate.true (c.predicate-p.ensures ∙ (e ∙ sym c.predicate.ensures))))

returns-2 : tie.Need-returns
returns-2 c =
    let k = c in
    let start = k in
    let given = start.args in
    let w = given.table.now in
    let p = k.predicate-p.ensures in
    c.same_words.ensures ∙
    same-args w given.i given.j c.arguments.result
    c.arguments-2.result c.arity.result
    c.arguments.ensures.0 c.arguments-2.ensures.0
    (c.arity.ensures.0 ∙ ap (arity_in w) p)
    (sym p ∙ (k.if-p-predicate.false ∙ k.predicate.ensures)) start.requires.1.1.1

pub same_atom_spec : {M : Type 1} → statement M
same_atom_spec =
    tie.close
    (tie.spec (λ c κs. search rules) (λ c κs. search rules) returns (λ c κs. search rules) (λ c κs. search rules)
    (λ c κs. search rules) (λ c κs. search rules) returns-2)
