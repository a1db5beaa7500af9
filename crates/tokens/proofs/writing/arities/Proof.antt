-- `tokens::writing::arities` meets its contract: the runs of the three calls make one. Each begins where the one before
-- ended, and there is room for all three.
use Rattle.tokens.proofs.writing.arities.Tie as tie
use Prim.Native.Nat.{ℕ, ◌+◌}
use mathlib.Core.Path.{refl, sym, ap}
use native.Mathlib.Omega.{arith}
use lib.ListN.{length-replicate}
use borrow.Author.Rules.{rules}
use Rattle.words.specs.Words.{words_at}
use Rattle.words.proofs.Words.{length-words_at}
use Rattle.words.proofs.Puts.{puts-is, puts_then, puts-length}
use Rattle.tokens.proofs.writing.arities.Statement.{statement}
use Rattle.task.specs.Limits.{head_words}

-- the places, one from the next
abbrev begun : tie.After-word → tie.Start
begun c = c.before.before.before

abbrev counted : tie.After-copy-old → tie.After-word
counted c = c.before.before

abbrev copied : tie.After-fill-bare → tie.After-copy-old
copied c = c.before.before.before.before.before

abbrev filled : tie.After-fill → tie.After-fill-bare
filled c = c.before.before.before.before

word-requires : tie.Need-word-requires
word-requires c κs = omega (arith, c.requires.0)

copy-requires : tie.Need-copy-old-requires
copy-requires c κs =
    let p = c.word.ensures.0 in
    let s = begun c.before in
    (omega (arith, s.requires.0), omega (arith, s.requires.1))

add-fill : tie.Need-overflow_add-sizes
add-fill c =
    let a = (begun (counted c.before.before.before.before)).args in
    let n = (counted c.before.before.before.before).word in
    let p = n.ensures.0 in
    let f = c.copy-old.ensures in
    omega (arith, (begun (counted c.before.before.before.before)).requires.1, puts-length f)

fill-requires : tie.Need-fill-bare-requires
fill-requires c κs =
    let a = (begun (counted c.before.before.before.before)).args in
    let n = (counted c.before.before.before.before).word in
    let p = n.ensures.0 in
    let f = c.copy-old.ensures in
    let m = (begun (counted c.before.before.before.before)).requires.1 in
    omega (arith, length-words_at a.table.now head_words n.result, f.place, puts-length f)

fill-requires-2 : tie.Need-fill-requires
fill-requires-2 c κs =
    let a = (begun (counted (copied c.before.before.before))).args in
    let n = (counted (copied c.before.before.before)).word in
    let p = n.ensures.0 in
    let f = (copied c.before.before.before).copy-old.ensures in
    let g = c.fill-bare.ensures in
    let r = length-replicate {A = ℕ} (a.sizes.later + 1) 0 in
    let m = (begun (counted (copied c.before.before.before))).requires.1 in
    let k = length-words_at a.table.now head_words n.result in
    omega (arith, f.place, puts-length f, g.place, puts-length g)

returns : tie.Need-returns
returns c =
    let w = (begun (counted (copied (filled c.before.before)))).args.table.now in
    puts_then
    (puts-is (copied (filled c.before.before)).copy-old.ensures refl refl (words_at w head_words _)
    (ap (words_at w head_words) (sym (counted (copied (filled c.before.before))).word.ensures.0)))
    (puts_then (filled c.before.before).fill-bare.ensures c.fill.ensures _
    refl) _ refl

pub arities_spec : {M : Type 1} → statement M
arities_spec =
    tie.close
    (tie.spec word-requires copy-requires add-fill fill-requires fill-requires-2 (λ c. search rules) returns)
