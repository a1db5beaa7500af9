-- An unknown predicate fails; else the test is one of the argument words and one of the unused words.
use Prim.Native.Nat.{ℕ, ◌+◌, ◌-◌, ◌<◌}
use mathlib.Core.Path.{◌≡◌, sym, ◌∙◌, ap}
use mathlib.Core.Bool.{◌&&◌}
use mathlib.Core.List.{List}
use native.Mathlib.Omega.{arith}
use lib.Dec.{ltb}
use Rattle.words.specs.Lists.{all}
use Rattle.words.specs.Words.{words_at, zeros_at}
use Rattle.task.specs.Layout.{head_in, arity_in, atom_base}
use Rattle.task.specs.Table.{atom_in}
use Rattle.task.specs.WordTests.{arg_words_fit}
use Rattle.words.proofs.Ranges.{and-more, and-fails}
use Rattle.task.proofs.AtomWords.{args-unknown, args-words}
use Rattle.task.proofs.table.atoms.atom_fits.Goals as goal

-- by the predicate and where the arguments begin
by-words : (w : List ℕ) (bound i p from n : ℕ) → p ≡ (atom_in w i).pred → from ≡ atom_base w i + 4 → n ≡ arity_in w p →
    p < (head_in w).predicates → arg_words_fit w bound i ≡
    all (λ a. ltb a bound) (words_at w from (from + n - from)) && zeros_at w (from + n) (from + 4 - (from + n))
by-words w bound i p from n e f m l =
    args-words w bound i from (from + n) f (ap (λ (k : ℕ). from + k) (m ∙ ap (arity_in w) e)) (omega arith)

pub returns-then-word-p : goal.returns-then-word-p
returns-then-word-p c =
    args-unknown c.args.table.now c.args.bound c.args.i (omega (arith, c.word.ensures.value, c.predicate-p.ensures))

pub returns-then-all_below : goal.returns-then-all_below
returns-then-all_below c =
    c.zeros.ensures ∙
    sym (and-more (by-words _ _ _ _ _ _ c.predicate-p.ensures c.arguments-from.ensures.value c.arity.ensures.value
    (omega (arith, c.word.ensures.value))) (sym c.all_below.ensures ∙ c.if-all_below.true))

pub returns-else-all_below : goal.returns-else-all_below
returns-else-all_below c =
    c.if-all_below.false ∙
    and-fails _ (by-words _ _ _ _ _ _ c.predicate-p.ensures c.arguments-from.ensures.value c.arity.ensures.value
    (omega (arith, c.word.ensures.value))) (sym c.all_below.ensures ∙ c.if-all_below.false)
