-- `task::table::schemas::all-named` meets its contract.
-- The set of parameters that stand in some atom has all of them.
use Prim.Native.Nat.{◌-◌}
use mathlib.Core.Path.{◌∙◌}
use Rattle.words.specs.Lists.{any, up_to}
use Rattle.task.specs.Task.{names}
use Rattle.words.specs.Sets.{member}
use Rattle.task.specs.WordTests.{atoms_in}
use Rattle.words.proofs.Ranges.{all_same}
use borrow.Author.Rules.{rules}
use Rattle.task.proofs.table.schemas.all_named.Statement.{statement}
use Rattle.task.proofs.table.schemas.all_named.Tie as tie

returns : tie.Need-returns
returns c =
    let given = c.args in
    c.has_all.ensures ∙ all_same (member c.parameters.result)
    (λ x. any (names x) (atoms_in given.table.now given.first (given.end - given.first)))
    (up_to given.params) c.parameters.ensures

pub all_named_spec : {M : Type 1} → statement M
all_named_spec = tie.close (tie.spec (λ c κs. search rules) (λ c κs. search rules) returns)
