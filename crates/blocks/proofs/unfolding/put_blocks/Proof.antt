-- `blocks::unfolding::put_blocks` meets its contract. The invariant: the blocks of the steps before i are put, and
-- those of all steps have room. The measure is the steps left.
use Rattle.blocks.proofs.unfolding.put_blocks.Tie as tie
use Prim.Native.Nat.{ℕ, ◌+◌, ◌-◌, ◌*◌, ◌/◌, ◌≤◌}
use mathlib.Core.Path.{◌≡◌, sym, ◌∙◌, ap}
use mathlib.Core.List.{List}
use native.Mathlib.Omega.{arith}
use lib.ListN.{length}
use Rattle.words.specs.Lists.{over, put}
use Rattle.task.specs.Limits.{step_size}
use Rattle.task.specs.Run.{Step}
use Rattle.words.proofs.Puts.{put-over}
use Rattle.blocks.specs.Blocks.{list_words}
use Rattle.words.proofs.Puts.{puts-length}
use Rattle.words.specs.Putting.{Puts}
use Rattle.blocks.proofs.KeptWords.{put-none, put-more, both_at}
use Rattle.blocks.proofs.KeptLists.{words-none, words_append, length-part-words, sum_more, sum-grows}
use Rattle.blocks.proofs.KeptLists.{blocks-none, blocks_more, length-words}
use Rattle.blocks.proofs.KeptBlocks.{step_kept, sum_is, blocks-are}
use Rattle.blocks.proofs.unfolding.put_blocks.Statement.{statement}
use Rattle.blocks.specs.Unfolding.{count_from, parts_from, sum_from, blocks_from}

-- the words of the first blocks
abbrev words_of : List ℕ → List ℕ → ℕ → List ℕ
words_of steps kept i = list_words (blocks_from steps kept i)

abbrev invariant-loop-i : tie.invariant-loop-i
invariant-loop-i steps kept out₀ count next₀ i₀ out next i =
    (i ≤ count) × Puts out₀ 0 (words_of steps kept i) out next

abbrev decreases-loop-i : tie.decreases-loop-i
decreases-loop-i steps kept out₀ count next₀ i₀ out next i = count - i

loop-holds : tie.Need-loop-i-init invariant-loop-i decreases-loop-i
loop-holds c =
    let a = c.args in
    let e = ap list_words (blocks-none a.steps.now a.kept.now) in (
      omega arith,
      put-none a.out.now 0 (words_of a.steps.now a.kept.now 0)
          (e ∙ words-none),
    )

-- the blocks of all steps have room
room : (s : tie.Start invariant-loop-i decreases-loop-i) →
    step_size * sum_from s.args.steps.now s.args.kept.now (length s.args.steps.now / step_size) ≤
    length s.args.out.now
room s = let (t, k, r) = s.requires in let e = sum_is k in omega arith

put-block-requires : tie.Need-put_block-next-requires invariant-loop-i decreases-loop-i
put-block-requires c κs =
    let turn = c in
    let h = turn.loop-i in
    let s = turn in
    let a = s.args in
    let w = a.steps.now in
    let (t, k, r) = s.requires in
    let e = puts-length h.invariant.1 in
    let p = h.invariant.1.place in
    let l = length-words w a.kept.now h.i in
    let m = sum_more w a.kept.now h.i in
    let g = sum-grows w a.kept.now (h.i + 1) (length w / step_size) (omega arith) in
    let q = room s.before.before.before.before.before in
    (step_kept k h.i turn.loop-i-test.true, omega arith)

loop-again : tie.Need-loop-i-preserved invariant-loop-i decreases-loop-i
loop-again c =
    let h = c.loop-i in
    let a = c.args in
    let w = a.steps.now in
    let k = a.kept.now in
    let block = parts_from w k (step_size * h.i) (count_from w k (step_size * h.i)) in
    let b = c.put_block-next.ensures in
    let l = length-part-words w k (step_size * h.i) (count_from w k (step_size * h.i)) in
    let P : List ℕ → ℕ → Type 0 = Puts a.out.now 0 (words_of w k (h.i + 1)) in (
      omega arith,
      both_at P b.1 (b.0 ∙ ap (λ (m : ℕ). h.next + m) (sym l))
          (put-more h.invariant.1 (list_words block) (words_of w k (h.i + 1))
          (ap list_words (blocks_more w k h.i) ∙ words_append (blocks_from w k h.i) block)),
    )

same_length : tie.Need-shape_of-out invariant-loop-i decreases-loop-i
same_length c = puts-length c.loop-i.invariant.1

returns : tie.Need-returns invariant-loop-i decreases-loop-i
returns c =
    let h = c.loop-i in
    let s = c in
    let a = s.args in
    let w = a.steps.now in
    let e : h.i ≡ length w / step_size = omega arith in
    let all = words_of w a.kept.now in
    let l = length-words w a.kept.now (length w / step_size) in
    let q = room s.before.before.before.before in (
      λ t k.
          let n = h.invariant.1.place ∙ ap (λ (i : ℕ). 0 + length (all i)) e in
          let m = sum_is k in
          omega arith,
      λ t k.
          h.invariant.1.words
          ∙ (ap (λ (i : ℕ). put a.out.now 0 (all i)) e
          ∙ (put-over (all (length w / step_size)) a.out.now (omega arith)
          ∙ ap (λ (ys : List Step). over (list_words ys) a.out.now) (blocks-are k))),
    )

pub put_blocks_spec : {M : Type 1} → statement M
put_blocks_spec =
    tie.close
    (tie.spec invariant-loop-i decreases-loop-i loop-holds (λ c. omega arith) put-block-requires (λ c. omega arith) (λ c. omega arith)
    loop-again same_length returns)
