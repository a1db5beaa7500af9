-- The runs of the three roles make one.
use Rattle.std.proofs.Common.{◌++◌, sym, ap₂, refl}
use Rattle.std.specs.Prelude.{Option, Some}
use Rattle.task.specs.Task.{precondition, addition, deletion}
use Rattle.words.proofs.Puts.{puts_then}
use Rattle.tokens.specs.Writing.{role_words}
use Rattle.tokens.specs.declared.part_atoms.RoleTokens.{RoleTokens}
use Rattle.tokens.proofs.part_atoms.part_atoms.Goals as goal

pub returns : goal.returns
returns c =
    let a = c.args in
    let w = a.table.now in
    let required : RoleTokens = record { bare = a.tokens.required; which = a.tokens.pars.later } in
    puts_then c.role_atoms-pre.ensures.puts
    (puts_then c.role_atoms-add.ensures.puts c.role_atoms-del.ensures.puts _ refl) _
    (ap₂ (λ (x y : Option RoleTokens).
    role_words w a.here precondition (Some required) ++
    (role_words w a.here addition x ++ role_words w a.here deletion y))
    (sym c.then_some-added.ensures) (sym c.then_some-deleted.ensures))
