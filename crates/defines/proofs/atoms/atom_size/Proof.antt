-- `defines::atoms::atom_size` meets its contract: the sizes of ` (p`, predicate, marks, arguments and `)` add up
-- (`formula_at-long`). There are few arguments, and an atom takes few bytes, so no sum wraps.
use native.Mathlib.Nat.{mul-le-mul}
use native.Mathlib.Omega.{arith}
use Prim.Native.Nat.{ℕ, ◌+◌, ◌*◌, ◌≤◌}
use mathlib.Core.Path.{◌≡◌, ◌∙◌, ap}
use lib.ListN.{length}
use Rattle.words.specs.Lists.{concat_map}
use Rattle.words.specs.Words.{words_at}
use Rattle.task.specs.Layout.{arity_in}
use Rattle.task.specs.Limits.{most_arity}
use Rattle.text.specs.Lines.{digits}
use Rattle.text.proofs.DigitSteps.{at-most-five}
use Rattle.defines.specs.ByWords.{formula_at}
use Rattle.defines.proofs.Formulas.{pred_at, formula_at-long, formula_at-most}
use borrow.Author.Rules.{rules}
use Rattle.defines.proofs.atoms.atom_size.Statement.{statement}
use Rattle.defines.proofs.atoms.atom_size.Tie as tie

abbrev start : tie.After-arity_of-arity → tie.Start
start c = c.before.before.before.before.before

-- the number of arguments is the arity of the atom's predicate, and small
arity-read : (c : tie.After-arity_of-arity) →
    let w = (start c).args.table.now in
    c.arity_of-arity.result ≡ arity_in w (pred_at w (start c).args.base)
arity-read c =
    c.arity_of-arity.ensures ∙ ap (arity_in (start c).args.table.now)
    (c.wide.ensures ∙ c.predicate_at-predicate.ensures.0)

few-arguments : (c : tie.After-arity_of-arity) → c.arity_of-arity.result ≤ most_arity
few-arguments c = let e = arity-read c in let s = (start c).requires.0.short in omega arith

-- so are predicate and marks
few_bytes : (c : tie.After-number_size) →
    (c.number_size.result ≤ 5) ×
    (length (start c.before.before).args.mark.now * c.arity_of-arity.result ≤ 3 * most_arity)
few_bytes c =
    let at-arity = c in
    let e = c.number_size.ensures in
    let d = at-most-five at-arity.predicate_at-predicate.result in
    (omega arith, mul-le-mul (start at-arity.before.before).requires.1 (few-arguments at-arity.before.before))

words-size-requires : tie.Need-words_size-requires
words-size-requires c κs =
    let few = few-arguments c.before.before in
    let inside = (start c.before.before).requires.0.inside in
    (omega arith, few)

-- the whole, which is small too
whole : (c : tie.After-words_size) →
    let at-arity = c in
    let args = (start at-arity.before.before.before).args in
    let atom = length (formula_at args.mark.now args.table.now args.base) in
    (3 + c.number_size.result + length args.mark.now * at-arity.arity_of-arity.result +
    c.words_size.result + 1 ≡ atom) × (atom ≤ 41)
whole c =
    let at-arity = c in
    let start = start at-arity.before.before.before in
    let w = start.args.table.now in
    let b = start.args.base in
    let mark = start.args.mark.now in
    let f = formula_at-long w b mark in
    let p = c.number_size.ensures ∙
    ap (λ (p : ℕ). length (digits p)) at-arity.predicate_at-predicate.ensures.0 in
    let m = ap (λ (n : ℕ). length mark * n) (arity-read at-arity.before.before.before) in
    let a = c.words_size.ensures ∙
    ap (λ (n : ℕ). length (concat_map digits (words_at w (b + 4) n))) (arity-read at-arity.before.before.before) in
    (omega arith, formula_at-most w b mark start.requires.0 start.requires.1)

add-result : tie.Need-overflow_add-result
add-result c = let l = few_bytes c in omega arith

mul-result : tie.Need-overflow_mul-result
mul-result c = let l = few_bytes c in omega arith

add-result-2 : tie.Need-overflow_add-result-2
add-result-2 c = let l = few_bytes c in omega arith

add-result-3 : tie.Need-overflow_add-result-3
add-result-3 c = let l = whole c in omega arith

add-result-4 : tie.Need-overflow_add-result-4
add-result-4 c = let l = whole c in omega arith

pub atom_size_spec : {M : Type 1} → statement M
atom_size_spec =
    tie.close
    (tie.spec (λ c κs. search rules) (λ c κs. search rules) (λ c κs. search rules) (λ c κs. search rules) add-result
    mul-result add-result-2 (λ c. search rules) words-size-requires add-result-3 add-result-4 (λ c. (whole c).0))
