-- "No two tables that differ in anything but their partitions give the same text", of what `write_pddl` answers and
-- leaves in the lent bytes; and neither depends on the partitions. A result is told only where every check passes, and
-- then the text lies at the front of the lent bytes.
use Prim.Native.Nat.{ℕ}
use mathlib.Core.Path.{◌≡◌, refl, sym, ◌∙◌, ap}
use mathlib.Core.Bool.{Bool, true, false}
use mathlib.Core.List.{List, [], ◌∷◌}
use lib.ListN.{length, take}
use lib.Dec.{leb}
use Rattle.words.proofs.Puts.{take-over}
use Rattle.task.specs.Answers.{result, told_value, refuse_unless}
use Rattle.task.specs.Table.{task_of, long_enough, is_table}
use Rattle.task.proofs.Answers.{left_by, check-passed}
use Rattle.text.proofs.Outcomes.{written_over}
use Rattle.defines.specs.Pddl.{pddl}
use Rattle.defines.specs.Outcome.{pddl_outcome}
use Rattle.defines.specs.Parts.{SameButParts}
use Rattle.defines.proofs.PddlOutcome.{pddl-too-long, pddl-written}
use Rattle.defines.proofs.TablesTold.{pddl-fixes-tables, parts-not-told}

-- ---- a result tells the text
result-tells : (w text : List ℕ) (n : ℕ) → (pddl_outcome w text).told ≡ result (n ∷ []) →
    (is_table w ≡ true) × (take n (pddl_outcome w text).buffer ≡ pddl (task_of w))
unfolding pddl_outcome
result-tells w text n h =
    let bs = pddl (task_of w) in
    let done = written_over bs text in
    let eighteen = refuse_unless (leb (length bs) (length text)) 18 in
    let (long, h₁) = check-passed (long_enough w) 1 (refuse_unless (is_table w) 2 ∷ eighteen ∷ []) text done (n ∷ []) h in
    let (table, h₂) = check-passed (is_table w) 2 (eighteen ∷ []) text done (n ∷ []) h₁ in
    let (room, h₃) = check-passed (leb (length bs) (length text)) 18 [] text done (n ∷ []) h₂ in (
      table,
      ap (take n) (left_by (pddl-written w text table room)) ∙ take-over bs text n (ap (told_value 0) h₃),
    )

pub pddl-fixes-task : (v w x y : List ℕ) (n : ℕ) →
    (pddl_outcome v x).told ≡ result (n ∷ []) → (pddl_outcome w y).told ≡ result (n ∷ []) →
    take n (pddl_outcome v x).buffer ≡ take n (pddl_outcome w y).buffer → SameButParts v w
pddl-fixes-task v w x y n h k e =
    let (table, text) = result-tells v x n h in
    let (other, same) = result-tells w y n k in
    pddl-fixes-tables v w table other (sym text ∙ (e ∙ same))

-- ---- the partitions are not written
pub parts-not-written : (v w text : List ℕ) → is_table v ≡ true → is_table w ≡ true → SameButParts v w →
    pddl_outcome v text ≡ pddl_outcome w text
parts-not-written v w text h k same = go (leb (length (pddl (task_of v))) (length text)) refl
  where
    bytes_same : pddl (task_of v) ≡ pddl (task_of w)
    bytes_same = parts-not-told v w h k same

    room-same : leb (length (pddl (task_of w))) (length text) ≡ leb (length (pddl (task_of v))) (length text)
    room-same = ap (λ (bs : List ℕ). leb (length bs) (length text)) (sym bytes_same)

    go : (b : Bool) → leb (length (pddl (task_of v))) (length text) ≡ b → pddl_outcome v text ≡ pddl_outcome w text
    go true e =
        pddl-written v text h e ∙
        (ap (λ (bs : List ℕ). written_over bs text) bytes_same ∙ sym (pddl-written w text k (room-same ∙ e)))
    go false e = pddl-too-long v text h e ∙ sym (pddl-too-long w text k (room-same ∙ e))
