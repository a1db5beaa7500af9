-- `text::rows::names` meets its contract: a row has as many arguments as its predicate's arity.
use Prim.Native.Nat.{ℕ, ◌+◌}
use mathlib.Core.Path.{◌≡◌, ◌∙◌, ap}
use native.Mathlib.Omega.{arith}
use lib.Dec.{eqb}
use lib.ListN.{get_or}
use borrow.Author.Rules.{rules}
use Rattle.words.specs.Lists.{any}
use Rattle.words.specs.Words.{words_at}
use Rattle.task.specs.Limits.{head_words}
use Rattle.task.specs.Layout.{arity_in}
use Rattle.text.specs.ReadCode.{row_names}
use Rattle.text.proofs.rows.names.Statement.{statement}
use Rattle.text.proofs.rows.names.Tie as tie

predicate-at-requires : tie.Need-predicate_at-requires
predicate-at-requires c κs = c.requires.inside

arity-of-requires : tie.Need-arity_of-arity-requires
arity-of-requires c κs =
    omega (arith, c.requires.known, c.wide.ensures, c.predicate_at.ensures.0)

abbrev start : tie.After-arity_of-arity → tie.Start
start c = c.before.before.before.before

-- the arity that was read is that of the row's predicate
arity-is : (c : tie.After-arity_of-arity) →
    let w = (start c).args.table.now in c.arity_of-arity.result ≡ get_or w (head_words + get_or w ((start c).args.row + 2) 0) 0
unfolding arity_in
arity-is c =
    c.arity_of-arity.ensures ∙ ap (arity_in (start c).args.table.now)
    (c.wide.ensures ∙ c.predicate_at.ensures.0)

add-has-word : tie.Need-overflow_add-row
add-has-word c = omega (arith, (start c).requires.inside)

has-word-requires : tie.Need-has_word-requires
has-word-requires c κs = omega (arith, (start c).requires.inside, (start c).requires.few, arity-is c)

returns : tie.Need-returns
unfolding row_names
returns c =
    let a = (start c.before).args in
    c.has_word.ensures ∙
    ap (λ (n : ℕ). any (λ y. eqb a.parameter y) (words_at a.table.now (a.row + 4) n)) (arity-is c.before)

pub names_spec : {M : Type 1} → statement M
names_spec =
    tie.close
    (tie.spec predicate-at-requires (λ c κs. search rules) arity-of-requires add-has-word has-word-requires returns)
