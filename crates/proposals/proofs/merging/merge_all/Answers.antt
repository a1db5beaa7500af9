-- `proposals::merging::merge_all` meets its contract: a pair that is found has two parts, so a turn leaves one fewer.
use Rattle.std.proofs.Common.{◌-◌, ◌≤◌, ◌<◌, ◌∙◌, arith}
use Rattle.task.specs.Limits.{most_atoms}
use Rattle.proposals.specs.Scratch.{pair_found}
use Rattle.proposals.proofs.Scratches.{keeps-refl, keeps-trans}
use Rattle.proposals.proofs.Renumbering.{renumbered-long}
use Rattle.proposals.proofs.MergingTurns.{merging-first, merging-turn, merging-end}
use Rattle.proposals.proofs.merging.merge_all.Goals as goal
use Rattle.proposals.proofs.merging.merge_all.Goals.{In-Some}

pub loop-a-init : goal.loop-a-init
loop-a-init c = record {
  few = omega arith;
  long = c.requires.parts_len;
  keeps = keeps-refl _;
  merging = merging-first _ _ _ _ _;
}

pub first_pair-requires-clause-n_le_most_atoms : goal.first_pair-requires-clause-n_le_most_atoms
first_pair-requires-clause-n_le_most_atoms c = omega arith

-- ---- no pair is found
pub returns-in_default-clause-keeps_behind : goal.returns-in_default-clause-keeps_behind
returns-in_default-clause-keeps_behind c = c.loop-a.invariant.keeps

pub returns-in_default-clause-parts_len_2 : goal.returns-in_default-clause-parts_len_2
returns-in_default-clause-parts_len_2 c = c.loop-a.invariant.long

pub returns-in_default-clause-parts_after : goal.returns-in_default-clause-parts_after
unfolding pair_found
returns-in_default-clause-parts_after c =
    merging-end c.loop-a.invariant.merging c.in_default.ensures.result_value

-- ---- a pair is found
two-parts : (c : In-Some) →
    (c.loop-a.n ≤ most_atoms) × (c.in-Some.a < c.in-Some.b) × (c.in-Some.b < c.loop-a.n)
two-parts c =
    let (a, b) = c.in-Some.ensures.in_order in
    (omega arith, a, b)

pub renumber-requires-clause-a_lt_b : goal.renumber-requires-clause-a_lt_b
renumber-requires-clause-a_lt_b c =
    let (n, a, b) = two-parts (goal.at.renumber-requires-clause-a_lt_b c).In-Some in
    (a, omega arith)

pub renumber-requires-clause-parts_len : goal.renumber-requires-clause-parts_len
renumber-requires-clause-parts_len c = c.loop-a.invariant.long

pub merge_parameters-requires-clause-n_le_most_atoms :
    goal.merge_parameters-requires-clause-n_le_most_atoms
merge_parameters-requires-clause-n_le_most_atoms c =
    two-parts (goal.at.merge_parameters-requires-clause-n_le_most_atoms c).In-Some

pub merge_arcs-requires-clause-n_le_most_atoms : goal.merge_arcs-requires-clause-n_le_most_atoms
merge_arcs-requires-clause-n_le_most_atoms c =
    two-parts (goal.at.merge_arcs-requires-clause-n_le_most_atoms c).In-Some

pub overflow_sub-n-in-loop-a : goal.overflow_sub-n-in-loop-a
overflow_sub-n-in-loop-a c = omega (arith, two-parts (goal.at.overflow_sub-n-in-loop-a c).In-Some)

pub loop-a-smaller : goal.loop-a-smaller
loop-a-smaller c = omega (arith, two-parts (goal.at.loop-a-smaller c).In-Some)

pub loop-a-preserved : goal.loop-a-preserved
unfolding pair_found
loop-a-preserved c =
    let h = c.loop-a.invariant in
    let (n, a, b) = two-parts (goal.at.loop-a-preserved c).In-Some in
    record {
      few = omega arith;
      long =
          renumbered-long c.in-Some.a c.in-Some.b c.args.from (c.args.to - c.args.from) c.loop-a.parts c.renumber.ensures
          ∙ h.long;
      keeps = keeps-trans h.keeps (keeps-trans c.merge_parameters.ensures.keeps c.merge_arcs.ensures.keeps);
      merging =
          merging-turn h.merging c.in-Some.a c.in-Some.b a b (omega arith)
          c.in-Some.ensures.result_value n c.renumber.ensures c.merge_parameters.ensures c.merge_arcs.ensures;
    }
