-- `tokens::pairs::carries_pair` meets its contract: the set is asked for both parameters of the pair. A parameter of a
-- table's pair is below twelve, so the set has a bit for it.
use Rattle.tokens.proofs.pairs.carries_pair.Tie as tie
use Prim.Native.Nat.{◌<◌}
use mathlib.Core.Path.{◌≡◌, sym, ◌∙◌, ap}
use mathlib.Core.Bool.{Bool, ◌&&◌}
use native.Mathlib.Omega.{arith}
use Rattle.words.specs.Sets.{member}
use Rattle.task.specs.Layout.{head_in}
use Rattle.task.specs.Limits.{most_parameters}
use Rattle.task.specs.Task.{Pair}
use Rattle.task.specs.Table.{pair_in}
use Rattle.task.specs.WordTests.{Roomy}
use Rattle.task.proofs.States.{PairFits}
use Rattle.task.proofs.TableReads.{table-roomy}
use Rattle.arcs.proofs.Partners.{pair_small}
use Rattle.tokens.proofs.pairs.carries_pair.Statement.{statement}

abbrev pair : tie.Start → Pair
pair s = pair_in s.args.table.now s.args.i

-- its row lies in the table
known : (s : tie.Start) → Roomy s.args.table.now × (s.args.i < (head_in s.args.table.now).pairs)
known s = (table-roomy s.args.table.now s.requires.0, s.requires.1)

small : (s : tie.Start) → PairFits most_parameters (pair s)
small s = pair_small s.args.table.now s.requires.0 s.args.i s.requires.1

-- what the set says of the lower parameter
abbrev start : tie.After-has → tie.Start
start c = c.before.before.before

first : (c : tie.After-has) → c.has.result ≡ member (start c).args.own (pair (start c)).lower
first c = c.has.ensures ∙ ap (member (start c).args.own) c.lower.ensures

has-requires : tie.Need-has-requires
has-requires c κs =
    let f = small c.before.before in
    omega (arith, c.lower.ensures, f.ascends, f.known)

has-requires-2 : tie.Need-has-requires-then-has
has-requires-2 c κs = omega (arith, c.higher.ensures, (small (start c.before.before)).known)

returns : tie.Need-returns-then-has
returns c =
    let asked = c in
    let own = (start asked.before.before.before).args.own in
    let q = pair (start asked.before.before.before) in
    c.has-then-has.ensures ∙
    (ap (member own) c.higher.ensures ∙
    sym (ap (λ (b : Bool). b && member own q.higher) (sym (first asked.before.before.before) ∙ c.if-has.true)))

returns-2 : tie.Need-returns-else-has
returns-2 c =
    let own = (start c.before).args.own in
    let q = pair (start c.before) in
    c.if-has.false ∙ sym (ap (λ (b : Bool). b && member own q.higher) (sym (first c.before) ∙ c.if-has.false))

pub carries_pair_spec : {M : Type 1} → statement M
carries_pair_spec =
    tie.close
    (tie.spec (λ c κs. known c.before) has-requires (λ c κs. known (start c.before)) has-requires-2 returns
    returns-2)
