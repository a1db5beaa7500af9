-- The runs that the calls put make one.
use Rattle.std.proofs.Common.{◌++◌, ap, refl}
use Rattle.std.specs.Prelude.{Option, Some}
use Rattle.words.proofs.Puts.{puts_then}
use Rattle.tokens.specs.Writing.{old_words, token_words}
use Rattle.tokens.specs.declared.part_atoms.RoleTokens.{RoleTokens}
use Rattle.tokens.proofs.part_atoms.role_atoms.Goals as goal

pub returns-clause-puts : goal.returns-clause-puts
returns-clause-puts c =
    let a = c.args in
    puts_then c.old_atoms-old.ensures.puts
    (puts_then c.bare_token-behind.ensures.puts c.par_atoms-next.ensures.puts
    (token_words a.here a.role (Some c.in-Some.tokens)) refl) _
    (ap (λ (ts : Option RoleTokens). old_words a.table.now a.here a.role ++ token_words a.here a.role ts) c.in-Some.is)
