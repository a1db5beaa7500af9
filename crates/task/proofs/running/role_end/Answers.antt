use Rattle.std.proofs.Common.{◌≡◌, rules, tests}
use Rattle.std.proofs.lemmas.Iterator.{first_from_Range}
use Rattle.task.specs.Table.{atom_in}
use Rattle.task.proofs.StartLaws.{role-found}
use Rattle.task.proofs.running.role_end.Goals as goal

pub returns : goal.returns
returns c =
    let w = c.args.table.now in
    let role = c.args.role in
    rw c.unwrap_or.ensures
    (role-found w c.args.from c.args.to role c.find.result c.requires.from_le_to.0
    (first_from_Range _ _ _ _ (λ k. (atom_in w k).role ≡ role → ⊥) (λ k. (atom_in w k).role ≡ role)
    c.find.ensures.ran (λ x q k. search (rules, tests)) (λ x q k. search (rules, tests))))
