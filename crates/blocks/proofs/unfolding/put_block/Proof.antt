-- `blocks::unfolding::put_block` meets its contract. The invariant: the parts before position j are put, thirteen words
-- each. The measure is the parts left.
use Rattle.blocks.proofs.unfolding.put_block.Tie as tie
use Prim.Native.Nat.{ℕ, ◌+◌, ◌-◌, ◌*◌, ◌≤◌}
use mathlib.Core.Path.{◌≡◌, sym, ◌∙◌, ap, subst}
use mathlib.Core.List.{List}
use native.Mathlib.Omega.{arith}
use lib.ListN.{length}
use Rattle.task.specs.Limits.{step_size}
use Rattle.task.specs.Run.{step_words}
use Rattle.blocks.specs.Blocks.{list_words}
use Rattle.words.proofs.Puts.{puts-length}
use Rattle.words.specs.Putting.{Puts}
use Rattle.blocks.proofs.KeptWords.{put-none, put-more, both_at}
use Rattle.blocks.proofs.KeptLists.{part-long, parts_none, parts_more}
use Rattle.blocks.proofs.unfolding.put_block.Statement.{statement}
use Rattle.tokens.specs.Kept.{kept_count}
use Rattle.blocks.specs.Unfolding.{count_from, part_from, parts_from}

-- the parts before position j are put, up to `next`
abbrev Put : List ℕ → List ℕ → ℕ → List ℕ → ℕ → ℕ → List ℕ → ℕ → Type 0
Put steps kept at out₀ to j out next =
    Puts out₀ to (list_words (parts_from steps kept at j)) out next × (next ≡ to + step_size * j)

abbrev invariant-loop-j : tie.invariant-loop-j
invariant-loop-j steps at kept out₀ to count next₀ j₀ out next j = (j ≤ count) × Put steps kept at out₀ to j out next

abbrev decreases-loop-j : tie.decreases-loop-j
decreases-loop-j steps at kept out₀ to count next₀ j₀ out next j = count - j

schema-at-requires : tie.Need-schema_at-requires invariant-loop-j decreases-loop-j
schema-at-requires c κs = let w = c.requires.0.whole in omega arith

count-of-requires : tie.Need-count_of-count-requires invariant-loop-j decreases-loop-j
count-of-requires c κs =
    let k = c.requires.0.known in
    let e = c.schema_at.ensures in
    omega arith

-- how many parts are counted
abbrev start : tie.After-count_of-count invariant-loop-j decreases-loop-j → tie.Start invariant-loop-j decreases-loop-j
start c = c.before.before.before.before

counted : (c : tie.After-count_of-count invariant-loop-j decreases-loop-j) → let a = (start c).args in
    c.count_of-count.result ≡ count_from a.steps.now a.kept.now a.at
counted c = c.count_of-count.ensures ∙ ap (kept_count (start c).args.kept.now) c.schema_at.ensures

loop-holds : tie.Need-loop-j-init invariant-loop-j decreases-loop-j
loop-holds c =
    let a = (start c).args in
    let xs = list_words (parts_from a.steps.now a.kept.now a.at 0) in
    let e = parts_none a.steps.now a.kept.now a.at in
    (omega arith, (put-none a.out.now a.to xs e, omega arith))

put-part-requires : tie.Need-put_part-requires invariant-loop-j decreases-loop-j
put-part-requires c κs =
    let l = c in
    let h = (start l.before.before.before).requires.0 in
    let e = puts-length l.loop-j.invariant.1.0 in
    let n = counted l.before.before.before in
    let f = h.few in
    (h, (omega arith, omega arith))

add-next : tie.Need-overflow_add-next invariant-loop-j decreases-loop-j
add-next c =
    let l = c in
    let e = puts-length l.loop-j.invariant.1.0 in
    let n = counted l.before.before.before.before.before.before in
    omega arith

loop-again : tie.Need-loop-j-preserved invariant-loop-j decreases-loop-j
loop-again c =
    let l = c in
    let h = l.loop-j in
    let a = (start l.before.before.before.before.before.before).args in
    let w = a.steps.now in
    let part = step_words (part_from w a.kept.now a.at h.j) in
    let n : length part ≡ step_size = part-long w a.kept.now a.at h.j in
    let next = list_words (parts_from w a.kept.now a.at (h.j + 1)) in
    let P : List ℕ → ℕ → Type 0 = Puts a.out.now a.to next in (
      omega arith,
      (
        both_at P c.put_part.ensures (ap (λ (k : ℕ). h.next + k) (sym n))
            (put-more h.invariant.1.0 part next (parts_more w a.kept.now a.at h.j)),
        omega arith,
      ),
    )

same_length : tie.Need-shape_of-out invariant-loop-j decreases-loop-j
same_length c = puts-length c.loop-j.invariant.1.0

returns : tie.Need-returns invariant-loop-j decreases-loop-j
returns c =
    let l = c in
    let a = (start l.before.before).args in
    let e : l.loop-j.j ≡ l.count_of-count.result = omega arith in
    let n = counted l.before.before in
    let P : ℕ → List ℕ → ℕ → Type 0 =
    Put a.steps.now a.kept.now a.at a.out.now a.to in
    let (q, m) = subst (λ (j : ℕ). P j l.loop-j.out l.loop-j.next) (e ∙ n) l.loop-j.invariant.1 in
    (m, q.words)

pub put_block_spec : {M : Type 1} → statement M
put_block_spec =
    tie.close
    (tie.spec invariant-loop-j decreases-loop-j schema-at-requires count-of-requires loop-holds put-part-requires add-next
    (λ c. omega arith) (λ c. omega arith) loop-again same_length returns)
