-- A check that fails is the outcome's first, and nothing is stored; behind them the text is put at the front, which
-- lies over what was lent.
use Rattle.std.proofs.Common.{arith, ◌≡◌, ℕ, [], ◌∷◌, length, sym, ap, ◌∙◌}
use Rattle.std.proofs.lemmas.Result.{err_from_is_err_and}
use borrow.Author.Tests.{leb-true}
use Rattle.words.proofs.Puts.{put-over}
use Rattle.task.specs.Answers.{result}
use Rattle.task.specs.Table.{task_of}
use Rattle.task.proofs.Answers.{both, passed-table}
use Rattle.defines.specs.Pddl.{pddl}
use Rattle.defines.proofs.PddlOutcome.{pddl-refused, pddl-too-long, pddl-written}
use Rattle.defines.proofs.write_pddl.Goals as goal

pub returns-in_err-judge_table-clause-told : goal.returns-in_err-judge_table-clause-told
returns-in_err-judge_table-clause-told c =
    let told = err_from_is_err_and c.from_residual.result c.from_residual.ensures.1 in
    rw (told.1, told.2) (both (pddl-refused c.args.table.now c.args.text.now c.in_err-judge_table.ensures)).0

pub returns-in_err-judge_table-clause-written : goal.returns-in_err-judge_table-clause-written
returns-in_err-judge_table-clause-written c =
    (both (pddl-refused c.args.table.now c.args.text.now c.in_err-judge_table.ensures)).1

pub has_room-requires : goal.has_room-requires
has_room-requires c = passed-table c.args.table.now c.in_ok-judge_table.ensures

pub returns-then-not-has_room-clause-told : goal.returns-then-not-has_room-clause-told
returns-then-not-has_room-clause-told c =
    let table = passed-table c.args.table.now c.in_ok-judge_table.ensures in
    rw c.nowhere.ensures
    (both (pddl-too-long c.args.table.now c.args.text.now table (sym c.if-not-has_room.ensures))).0

pub returns-then-not-has_room-clause-written : goal.returns-then-not-has_room-clause-written
returns-then-not-has_room-clause-written c =
    let table = passed-table c.args.table.now c.in_ok-judge_table.ensures in
    (both (pddl-too-long c.args.table.now c.args.text.now table (sym c.if-not-has_room.ensures))).1

pub put_pddl-requires : goal.put_pddl-requires
put_pddl-requires c = record {
  table_value = passed-table c.args.table.now c.in_ok-judge_table.ensures;
  table_in_bounds = leb-true _ _ (sym c.if-not-has_room.ensures);
}

pub returns-clause-told : goal.returns-clause-told
returns-clause-told c =
    let table = passed-table c.args.table.now c.in_ok-judge_table.ensures in
    let e : c.put_pddl.result ≡ length (pddl (task_of c.args.table.now)) = omega (arith, c.put_pddl.ensures.place) in
    ap (λ (n : ℕ). result (n ∷ [])) e ∙
    (both (pddl-written c.args.table.now c.args.text.now table (sym c.if-not-has_room.ensures))).0

pub returns-clause-written : goal.returns-clause-written
returns-clause-written c =
    let table = passed-table c.args.table.now c.in_ok-judge_table.ensures in
    let fits = sym c.if-not-has_room.ensures in
    c.put_pddl.ensures.words ∙
    (put-over (pddl (task_of c.args.table.now)) c.args.text.now (leb-true _ _ fits) ∙
    (both (pddl-written c.args.table.now c.args.text.now table fits)).1)
