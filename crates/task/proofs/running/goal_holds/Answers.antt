-- What is looked up is that goal atom.
use Rattle.task.proofs.Tables.{of-table}
use Rattle.task.proofs.SpanLaws.{state-long, state-ascends}
use Rattle.task.proofs.GoalLaws.{goal-known}
use Rattle.task.proofs.running.goal_holds.Goals as goal

pub held-requires : goal.held-requires
held-requires c =
    let well = (of-table _ c.requires.table_value).0 in
    record {
      n_in_bounds = state-long _ well _ _ c.requires.n_value;
      rows_ascend = state-ascends _ well _ _ c.requires.n_value;
    }

pub returns : goal.returns
returns c =
    let r = c.requires in
    c.held.ensures _ _
    (goal-known _ _ _ c.args.k _ r.table_value r.n_value r.k_bound.0 r.k_bound.1 c.fact_number.ensures)
