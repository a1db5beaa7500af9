-- `text::counted::write_list` meets its contract. The invariant of its loop: what is still to come is the numbers from
-- k on, one at least, and byte 10. The measure is n less k.
use native.Mathlib.Omega.{arith}
use Prim.Native.Nat.{ℕ, ◌+◌, ◌-◌, ◌*◌, ◌<◌}
use mathlib.Core.Path.{◌≡◌, sym, ◌∙◌, ap}
use mathlib.Core.List.{List, [], ◌∷◌, ◌++◌}
use lib.ListN.{length, get_or}
use Rattle.text.specs.Lines.{comma, newline, digits, commaed}
use Rattle.text.specs.TableLines.{spaced}
use Rattle.text.proofs.Onwards.{listing, listing-all, listing_none, listing-next, listing-last}
use Rattle.text.proofs.Writes.{writes-same, Writing, writing_start, writing-long, writing-left, writing-fits}
use Rattle.text.proofs.Writes.{writing-on, last_fits, writing-last}
use Rattle.text.proofs.counted.write_list.Statement.{statement}
use Rattle.text.proofs.counted.write_list.Tie as tie

abbrev invariant-loop-k : tie.invariant-loop-k
invariant-loop-k text₀ at words from step n next₀ k₀ k-end text next k =
    (k < n) × Writing text₀ at (commaed (spaced words from step n) ++ (newline ∷ [])) (listing words from step k n)
    text next

abbrev decreases-loop-k : tie.decreases-loop-k
decreases-loop-k text₀ at words from step n next₀ k₀ k-end text next k = n - k

-- the numbers from k on, and a number
abbrev left : tie.Start invariant-loop-k decreases-loop-k → ℕ → List ℕ
left c k = listing c.args.words.now c.args.from c.args.step k c.args.n

abbrev number : tie.Start invariant-loop-k decreases-loop-k → ℕ → List ℕ
number c k = digits (get_or c.args.words.now (c.args.from + c.args.step * k) 0)

abbrev Left : tie.Start invariant-loop-k decreases-loop-k → List ℕ → List ℕ → ℕ → Type 0
Left c to-come text next =
    Writing c.args.text.now c.args.at
    (commaed (spaced c.args.words.now c.args.from c.args.step c.args.n) ++ (newline ∷ []))
    to-come text next

-- ---- a list of none
none : (c : tie.Start invariant-loop-k decreases-loop-k) → c.args.n ≡ 0 →
    commaed (spaced c.args.words.now c.args.from c.args.step c.args.n) ++ (newline ∷ []) ≡
    newline ∷ []
none c e =
    ap (λ (n : ℕ). commaed (spaced c.args.words.now c.args.from c.args.step n) ++ (newline ∷ [])) e ∙
    listing_none c.args.words.now c.args.from c.args.step

write-byte-requires : tie.Need-write_byte-requires invariant-loop-k decreases-loop-k
write-byte-requires c κs =
    let long = ap length (none c.before.before.before.before c.if-n-eq0.true) in omega arith

same_length : tie.Need-shape_of-text-then-n-eq0 invariant-loop-k decreases-loop-k
same_length c = c.write_byte.ensures.long

returns : tie.Need-returns-then-n-eq0 invariant-loop-k decreases-loop-k
returns c =
    let begun = c in
    writes-same (sym (none begun.before.before.before.before.before.before.before begun.if-n-eq0.true))
    c.write_byte.ensures

-- ---- the numbers
loop-holds : tie.Need-loop-k-init invariant-loop-k decreases-loop-k
loop-holds c =
    let args = c.args in (
      omega arith,
      writing-left (listing-all args.words.now args.from args.step args.n)
          (writing_start c.requires.1),
    )

abbrev start : tie.At-loop-k invariant-loop-k decreases-loop-k → tie.Start invariant-loop-k decreases-loop-k
start c = c.before.before.before.before

-- number k is inside, and it comes next with its comma
inside : (c : tie.In-loop-k invariant-loop-k decreases-loop-k) →
    let args = (start c.before).args in
    args.from + args.step * c.loop-k.k < length args.words.now
inside c = (start c.before).requires.0 c.loop-k.k c.loop-k.invariant.0

to-come : (c : tie.In-loop-k invariant-loop-k decreases-loop-k) →
    let k = c.loop-k.k in
    Left (start c.before) ((number (start c.before) k ++ (comma ∷ [])) ++ left (start c.before) (k + 1))
    c.loop-k.text c.loop-k.next
to-come c =
    let args = (start c.before).args in
    writing-left (listing-next args.words.now args.from args.step c.loop-k.k args.n
    (omega arith))
    c.loop-k.invariant.1

mul-write-ended : tie.Need-overflow_mul-step invariant-loop-k decreases-loop-k
mul-write-ended c = let l = inside c.before in omega arith

add-write-ended : tie.Need-overflow_add-from invariant-loop-k decreases-loop-k
add-write-ended c = let l = inside c.before in omega arith

mul-write-ended-2 : tie.Need-offset_bounds-words-from invariant-loop-k decreases-loop-k
mul-write-ended-2 c = let l = inside c.before in omega arith

shared-slice-read-write-ended : tie.Need-bounds-words-from invariant-loop-k decreases-loop-k
shared-slice-read-write-ended c = inside c.before.before

write-ended-requires : tie.Need-write_ended-next-requires invariant-loop-k decreases-loop-k
write-ended-requires c κs =
    let at-loop = c in
    let k = at-loop.loop-k.k in
    writing-fits (number (start at-loop.before.before.before) k ++ (comma ∷ [])) (left (start at-loop.before.before.before) (k + 1)) (to-come c.before.before)

loop-again : tie.Need-loop-k-preserved invariant-loop-k decreases-loop-k
loop-again c =
    let turn = c in
    (omega arith, writing-on (to-come turn.before.before.before.before.before) c.write_ended-next.ensures)

-- ---- the last number, behind the loop
last-inside : (c : tie.After-loop-k invariant-loop-k decreases-loop-k) →
    let args = (start c.before).args in
    args.from + args.step * (args.n - 1) < length args.words.now
last-inside c =
    let some = c.loop-k.invariant.0 in
    (start c.before).requires.0 ((start c.before).args.n - 1) (omega arith)

last-comes : (c : tie.After-loop-k invariant-loop-k decreases-loop-k) →
    Left (start c.before) (number (start c.before) ((start c.before).args.n - 1) ++ (newline ∷ []))
    c.loop-k.text c.loop-k.next
last-comes c =
    let args = (start c.before).args in
    let some = c.loop-k.invariant.0 in
    let e : c.loop-k.k ≡ args.n - 1 = omega arith in
    writing-left (ap (left (start c.before)) e ∙
    listing-last args.words.now args.from args.step (args.n - 1) args.n (omega arith))
    c.loop-k.invariant.1

mul-write-ended-3 : tie.Need-overflow_mul-step-2 invariant-loop-k decreases-loop-k
mul-write-ended-3 c = let l = last-inside c.before in omega arith

add-write-ended-2 : tie.Need-overflow_add-from-2 invariant-loop-k decreases-loop-k
add-write-ended-2 c = let l = last-inside c.before in omega arith

mul-write-ended-4 : tie.Need-offset_bounds-words-from-2 invariant-loop-k decreases-loop-k
mul-write-ended-4 c = let l = last-inside c.before in omega arith

shared-slice-read-write-ended-2 : tie.Need-bounds-words-from-2 invariant-loop-k decreases-loop-k
shared-slice-read-write-ended-2 c = last-inside c.before.before

write-ended-requires-2 : tie.Need-write_ended-requires invariant-loop-k decreases-loop-k
write-ended-requires-2 c κs = last_fits (last-comes c.before.before)

same-length-2 : tie.Need-shape_of-text invariant-loop-k decreases-loop-k
same-length-2 c =
    let at-loop = c in
    c.write_ended.ensures.long ∙ writing-long at-loop.loop-k.invariant.1

returns-2 : tie.Need-returns invariant-loop-k decreases-loop-k
returns-2 c =
    writing-last (last-comes c.before.before.before.before.before) c.write_ended.ensures

pub write_list_spec : {M : Type 1} → statement M
write_list_spec =
    tie.close
    (tie.spec invariant-loop-k decreases-loop-k write-byte-requires same_length returns (λ c. omega arith) loop-holds mul-write-ended
    add-write-ended mul-write-ended-2 shared-slice-read-write-ended write-ended-requires (λ c. omega arith)
    (λ c. omega arith) loop-again (λ c. omega arith) mul-write-ended-3 add-write-ended-2 mul-write-ended-4
    shared-slice-read-write-ended-2 write-ended-requires-2 same-length-2 returns-2)
