-- Without room it refuses and stores nothing; with room it puts the text at the front, which lies over what was lent.
use Rattle.std.proofs.Common.{ℕ, [], ◌∷◌, sym, ap, ◌∙◌}
use borrow.Author.Tests.{leb-true}
use Rattle.task.specs.Answers.{result}
use Rattle.task.proofs.Answers.{both}
use Rattle.text.proofs.WholeText.{outcome-room, outcome-none}
use Rattle.text.proofs.Writes.{writes-size, writes-over}
use Rattle.text.proofs.writer.write_task.Goals as goal

pub returns-then-not-has_room-clause-result_value : goal.returns-then-not-has_room-clause-result_value
returns-then-not-has_room-clause-result_value c =
    rw c.nowhere.ensures
    (both (outcome-none c.args.table.now c.args.text.now c.requires (sym c.if-not-has_room.ensures))).0

pub returns-then-not-has_room-clause-text_after : goal.returns-then-not-has_room-clause-text_after
returns-then-not-has_room-clause-text_after c =
    (both (outcome-none c.args.table.now c.args.text.now c.requires (sym c.if-not-has_room.ensures))).1

pub returns-clause-result_value : goal.returns-clause-result_value
returns-clause-result_value c =
    ap (λ (n : ℕ). result (n ∷ [])) (writes-size c.write_text.ensures) ∙
    (both (outcome-room c.args.table.now c.args.text.now c.requires (sym c.if-not-has_room.ensures))).0

pub returns-clause-text_after : goal.returns-clause-text_after
returns-clause-text_after c =
    writes-over c.write_text.ensures (leb-true _ _ (sym c.if-not-has_room.ensures)) ∙
    (both (outcome-room c.args.table.now c.args.text.now c.requires (sym c.if-not-has_room.ensures))).1
