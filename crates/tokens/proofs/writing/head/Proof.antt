-- `tokens::writing::head` meets its contract: four words, then three. The counts fit words, as the contract asks, so
-- each sum and each cast fits.
use Rattle.tokens.proofs.writing.head.Tie as tie
use Prim.Native.Nat.{◌+◌}
use mathlib.Core.Path.{refl, sym}
use mathlib.Core.List.{[], ◌∷◌}
use native.Mathlib.Omega.{arith}
use lib.ListN.{length-set}
use Rattle.words.proofs.Puts.{puts-is, puts_word, puts-length}
use Rattle.tokens.proofs.writing.head.Statement.{statement}

-- the places, one from the next
abbrev begun : tie.After-word → tie.Start
begun c = c.before.before.before

abbrev counted : tie.After-word_at → tie.After-word
counted c = c.before.before.before.before

abbrev object : tie.After-four-next → tie.After-word_at
object c = c.before.before.before

abbrev written : tie.After-word_at-2 → tie.After-four-next
written c = c.before.before.before

word-requires : tie.Need-word-requires
word-requires c κs = omega (arith, c.requires.0)

add-predicates : tie.Need-overflow_add-predicates
add-predicates c = let p = (begun c).requires.1.0 in omega (arith, c.word.ensures.0)

add-predicates-2 : tie.Need-overflow_add-predicates-2
add-predicates-2 c =
    let p = (begun c.before).requires.1.0 in
    omega (arith, c.word.ensures.0)

add-predicates-3 : tie.Need-overflow_add-predicates-3
add-predicates-3 c =
    let p = (begun c.before.before).requires.1.0 in
    omega (arith, c.word.ensures.0)

word-at-requires : tie.Need-word_at-requires
word-at-requires c κs = omega (arith, (begun c.before.before.before).requires.0)

cast-four : tie.Need-overflow_cast-predicates
cast-four c =
    let p = (begun (counted c)).requires.1.0 in
    omega (arith, (counted c).word.ensures.0)

cast-four-2 : tie.Need-overflow_cast-sizes
cast-four-2 c = omega (arith, (begun (counted c.before)).requires.1.1.0)

cast-four-3 : tie.Need-overflow_cast-sizes-2
cast-four-3 c = omega (arith, (begun (counted c.before.before)).requires.1.1.0)

four-requires : tie.Need-four-next-requires
four-requires c κs = omega (arith, (begun (counted c.before.before)).requires.1.1.1.1)

word-at-requires-2 : tie.Need-word_at-requires-2
word-at-requires-2 c κs = omega (arith, (begun (counted (object c.before.before))).requires.0)

add-out : tie.Need-overflow_add-out
add-out c =
    let p = (begun (counted (object (written c)))).requires.1.1.1.0 in
    omega (arith, c.word_at-2.ensures)

mul-out : tie.Need-offset_bounds-out-next
mul-out c = let f = (written c).four-next.ensures in omega (arith, f.place, puts-length f)

slice-write-out : tie.Need-bounds-out-next
slice-write-out c =
    let f = (written c).four-next.ensures in
    omega (arith, f.place, puts-length f, (begun (counted (object (written c)))).requires.1.1.1.1)

word-at-requires-3 : tie.Need-word_at-requires-3
word-at-requires-3 c κs = omega (arith, (begun (counted (object (written c)))).requires.0)

add-out-2 : tie.Need-overflow_add-out-2
add-out-2 c =
    let p = (begun (counted (object (written c.before)))).requires.1.1.1.0 in
    omega (arith, c.word_at-3.ensures)

add-out-3 : tie.Need-overflow_add-out-3
add-out-3 c = let f = (written c.before).four-next.ensures in omega (arith, f.place, puts-length f)

mul-out-2 : tie.Need-offset_bounds-out-next-2
mul-out-2 c = let f = (written c.before).four-next.ensures in omega (arith, f.place, puts-length f)

slice-write-out-2 : tie.Need-bounds-out-next-2
slice-write-out-2 c =
    let f = (written c.before).four-next.ensures in
    let l = (begun (counted (object (written c.before)))).requires.1.1.1.1 in
    simp length-set (omega (arith, f.place, puts-length f))

cast-out : tie.Need-overflow_cast-out
cast-out c = omega (arith, (begun (counted (object (written c.before.before)))).requires.1.1.1.0)

add-out-4 : tie.Need-overflow_add-out-4
add-out-4 c = let f = (written c.before.before).four-next.ensures in omega (arith, f.place, puts-length f)

mul-out-3 : tie.Need-offset_bounds-out-next-3
mul-out-3 c = let f = (written c.before.before).four-next.ensures in omega (arith, f.place, puts-length f)

slice-write-out-3 : tie.Need-bounds-out-next-3
slice-write-out-3 c =
    let f = (written c.before.before).four-next.ensures in
    let l = (begun (counted (object (written c.before.before)))).requires.1.1.1.1 in
    simp length-set (omega (arith, f.place, puts-length f))

add-result : tie.Need-overflow_add-result
add-result c = let f = (written c.before.before).four-next.ensures in omega (arith, f.place, puts-length f)

same_length : tie.Need-shape_of-out
same_length c = let f = (written c.before.before).four-next.ensures in simp length-set (puts-length f)

returns : tie.Need-returns
returns c =
    let w = written c.before.before in
    let r = (begun (counted (object w))).args.sizes in
    let next = w.four-next.result in
    let o = sym (object w).word_at.ensures in
    let p = sym (counted (object w)).word.ensures.0 in
    let i = sym c.word_at-2.ensures in
    let g = sym c.word_at-3.ensures in
    puts-is (puts_word (puts_word (puts_word w.four-next.ensures (c.word_at-2.result + 1) _ refl
    (next + 1) refl) (c.word_at-3.result + 1) _ refl (next + 2) (omega arith)) r.pairs _ refl (next + 3)
    (omega arith)) refl refl _
    (λ k. o k ∷ (p k + 1 + r.later + r.pars) ∷ r.schemas ∷ r.atoms ∷ (i k + 1) ∷ (g k + 1) ∷ r.pairs ∷ [])

pub head_spec : {M : Type 1} → statement M
head_spec =
    tie.close
    (tie.spec word-requires add-predicates add-predicates-2 add-predicates-3 word-at-requires cast-four cast-four-2
    cast-four-3 four-requires word-at-requires-2 add-out mul-out slice-write-out word-at-requires-3 add-out-2 add-out-3
    mul-out-2 slice-write-out-2 cast-out add-out-4 mul-out-3 slice-write-out-3 add-result same_length returns)
