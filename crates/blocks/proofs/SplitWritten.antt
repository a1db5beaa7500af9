-- The split of a table whose split is accepted, once it is written: it is given, and lies in the words as a table of
-- the split task.
use Prim.Native.Nat.{ℕ, ◌≤◌}
use mathlib.Core.Path.{◌≡◌, sym, ◌∙◌, ap, subst}
use mathlib.Core.Bool.{true}
use mathlib.Core.List.{List, []}
use native.Mathlib.Omega.{arith}
use lib.ListN.{replicate, length-replicate}
use Rattle.task.specs.Limits.{table_length}
use Rattle.task.specs.Answers.{result, told_number}
use Rattle.task.specs.Table.{long_enough, task_of, words_of}
use Rattle.task.proofs.LongEnough.{long-enough}
use Rattle.tokens.specs.Split.{split_outcome, split_task}
use Rattle.tokens.proofs.SplitOutcome.{split_done}
use Rattle.tokens.proofs.SplitAnswers.{AcceptedSplit, accepted-split}
use Rattle.task.proofs.Answers.{told-by, left_by}
use Rattle.words.specs.Lists.{over}
use Rattle.tokens.specs.declared.measure.Sizes.{Sizes}
use Rattle.tokens.specs.Acceptance.{AcceptedKept}

-- the words of a table, before it is written
zeros-enough : (n : ℕ) → table_length ≤ n → long_enough (replicate {A = ℕ} n 0) ≡ true
zeros-enough n h = long-enough (replicate n 0) (let e = length-replicate {A = ℕ} n 0 in omega arith)

pub table-zeros : long_enough (replicate {A = ℕ} table_length 0) ≡ true
table-zeros = zeros-enough table_length (omega arith)

pub split-given : (w out : List ℕ) {words : List ℕ} → result [] ≡ (split_outcome w out).told →
    words ≡ (split_outcome w out).buffer → AcceptedSplit w words
split-given w out h e = subst (AcceptedSplit w) (sym e) (accepted-split w out (sym (ap told_number h)))

-- what is written of an accepted split
pub split-written : {w : List ℕ} {sizes : Sizes} {kept : List ℕ} → AcceptedKept w sizes kept → (out : List ℕ) →
    long_enough out ≡ true → {words : List ℕ} → words ≡ over (words_of (split_task (task_of w))) out → AcceptedSplit w words
split-written {w} K out long e =
    let d = split_done w out long K.long K.table K.accepted in
    split-given w out (told-by (sym d)) (e ∙ left_by (sym d))
