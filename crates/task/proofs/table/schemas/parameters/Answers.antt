use Prim.Native.Nat.{ℕ, ◌+◌, ◌-◌, ◌≤◌, ◌<◌}
use mathlib.Core.Path.{◌≡◌, ◌∙◌, ap, ap₂}
use mathlib.Core.Bool.{true, ◌||◌}
use mathlib.Core.List.{List}
use native.Mathlib.Omega.{arith}
use lib.Dec.{eqb}
use Rattle.words.specs.Lists.{all, any, up_from}
use Rattle.words.specs.Words.{words_at}
use Rattle.words.specs.Sets.{member}
use Rattle.task.specs.Task.{names}
use Rattle.task.specs.Layout.{arity_in}
use Rattle.task.specs.Table.{atom_in}
use Rattle.task.specs.WordTests.{arg_words_fit}
use Rattle.words.proofs.Ranges.{all_from}
use Rattle.words.proofs.Loops.{set-mapped, set_more, set-ends}
use Rattle.task.proofs.AtomWords.{args-fit-known, args-below}
use Rattle.task.proofs.table.schemas.parameters.Goals as goal

-- the arguments of an atom fit
fit : (w : List ℕ) (bound first end i : ℕ) → all (arg_words_fit w bound) (up_from first (end - first)) ≡ true →
    first ≤ i → i < end → arg_words_fit w bound i ≡ true
fit w bound first end i h l m = all_from (arg_words_fit w bound) first (end - first) h i l (omega arith)

pub loop-i-init : goal.loop-i-init
loop-i-init c = set-mapped names (atom_in c.args.table.now) c.args.first c.args.end

pub arity-requires-clause-p_bound : goal.arity-requires-clause-p_bound
arity-requires-clause-p_bound c =
    omega (
      arith,
      c.predicate.ensures,
      args-fit-known c.args.table.now c.args.bound c.loop-i.i
          (fit _ _ _ _ _ c.requires.first_value c.loop-i.auto.i c.loop-i-test.true),
    )

pub joined_words-set-requires-clause-by_index : goal.joined_words-set-requires-clause-by_index
joined_words-set-requires-clause-by_index c =
    let from = c.arguments-from.result in
    let many : c.arity.result ≡ arity_in c.args.table.now (atom_in c.args.table.now c.loop-i.i).pred =
    c.arity.ensures.value ∙ ap (arity_in c.args.table.now) c.predicate.ensures in
    let small = args-below c.args.table.now c.args.bound c.loop-i.i
    (fit _ _ _ _ _ c.requires.first_value c.loop-i.auto.i c.loop-i-test.true) from (from + c.arity.result)
    c.arguments-from.ensures.value (ap (λ (n : ℕ). from + n) many) in
    λ j l m. omega (arith, small j l m)

pub loop-i-preserved : goal.loop-i-preserved
unfolding names atom_in
loop-i-preserved c =
    let w = c.args.table.now in
    let from = c.arguments-from.result in
    let n : from + c.arity.result - from ≡ c.arity.result = omega arith in
    let many : c.arity.result ≡ arity_in w (atom_in w c.loop-i.i).pred =
    c.arity.ensures.value ∙ ap (arity_in w) c.predicate.ensures in
    set_more c.loop-i.invariant c.loop-i-test.true (λ x. c.joined_words-set.ensures x ∙
    ap (λ (ys : List ℕ). member c.loop-i.set x || any (λ y. eqb x y) ys)
    (ap₂ (words_at w) c.arguments-from.ensures.value (n ∙ many)))

pub returns : goal.returns
returns c = set-ends c.loop-i.invariant c.loop-i-test.false
