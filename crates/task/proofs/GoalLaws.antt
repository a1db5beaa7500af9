-- Goal atoms by their places in the table: each is a ground atom of the task, and all of them are its goal.
use Prim.Native.Nat.{ℕ, ◌+◌, ◌-◌, ◌≤◌, ◌<◌}
use mathlib.Core.Path.{◌≡◌, sym, ◌∙◌, ap, ap₂}
use mathlib.Core.Bool.{true}
use mathlib.Core.List.{List, map}
use native.Mathlib.Omega.{arith}
use lib.ListN.{get_or}
use Rattle.words.specs.Lists.{all, up_from}
use Rattle.task.specs.Layout.{head_in, goals_from, atom_total}
use Rattle.task.specs.Task.{Fact}
use Rattle.task.specs.Table.{fact_in, task_of, is_table}
use Rattle.task.specs.Run.{holds, is_state, goal_met}
use Rattle.task.specs.Records.{record_number, Known}
use Rattle.words.proofs.Lists.{In, in-eq, in-get_or}
use Rattle.words.proofs.Ranges.{all_map}
use Rattle.words.proofs.Loops.{AllLeft}
use Rattle.task.proofs.States.{fitting-args_fit, well_formed-is}
use Rattle.task.proofs.AtomsStand.{no_fact}
use Rattle.task.proofs.Tables.{of-table}
use Rattle.task.proofs.TablesByIndex.{table-frame, goal-word, goal-at}

pub goal-known : (w state : List ℕ) (n k number : ℕ) → is_table w ≡ true → is_state (task_of w) state n ≡ true →
    goals_from w ≤ k → k < atom_total w → number ≡ record_number (fact_in w k) →
    Known (task_of w) state n (fact_in w k) number
goal-known w state n k number h s l m e =
    let t = task_of w in
    let f = fact_in w k in
    let fr = table-frame w h in
    let len = goal-word w fr in
    let wf = (of-table w h).0 in
    let j : ℕ = k - (goals_from w) in
    let z : goals_from w + j ≡ k = omega arith in
    let q : f ≡ get_or t.goal j no_fact = ap (fact_in w) (sym z) ∙ goal-at w fr j (omega arith) in
    let i : In f t.goal = in-eq q (in-get_or t.goal j no_fact (omega arith)) in
    record {
      task = wf;
      state = s;
      fits = fitting-args_fit t.objects t.arities f.pred f.args ((well_formed-is t wf).goal.fit f i);
      is = sym e;
    }

-- the test of the goal, from the first goal atom to behind the last
pub goal-start : (w : List ℕ) (s : List Fact) (from to : ℕ) → from ≡ goals_from w → to ≡ from + (head_in w).goal_atoms →
    AllLeft (λ k. holds s (fact_in w k)) to (goal_met (task_of w) s) from
unfolding goal_met task_of
goal-start w s from to a b =
    let z : (head_in w).goal_atoms ≡ to - from = omega arith in
    record {
      left = ap₂ (λ (x y : ℕ). all (holds s) (map (fact_in w) (up_from x y))) (sym a) z ∙
          all_map (holds s) (fact_in w) (up_from from (to - from));
    }
