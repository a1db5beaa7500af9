use Rattle.std.proofs.Common.{arith, List, [], ◌∷◌, ◌++◌, sym, subst, ◌∙◌, ◌≡◌, ℕ, ◌+◌}
use lib.ListN.{set}
use Rattle.task.specs.Task.{Atom}
use Rattle.task.specs.Table.{atom_in}
use Rattle.arcs.specs.Order.{in_part, tests}
use Rattle.arcs.specs.Stretches.{stretch_in}
use Rattle.arcs.proofs.Stretches.{rows_none, rows_more}
use Rattle.arcs.proofs.Counting.{part-count-more, Counted, counted-room, counted_same, counted-more, larger}
use Rattle.arcs.proofs.PartParameters.{Kept, kept_same, kept_more, Found, in-part-more, tests-more, tests_same}
use Rattle.arcs.proofs.Gathering.{Gathered, gathered_none, are-tests}
use Rattle.arcs.proofs.parts.gather.Goals as goal
use Rattle.arcs.proofs.parts.gather.Goals.{then-is_precondition, else-is_precondition}

pub loop-i-init : goal.loop-i-init
loop-i-init c =
    let z = c.requires in (
      omega arith,
      rw (rows_none (atom_in c.args.table.now) c.args.from, z.preconditions_value, z.tested_value, z.named_value)
          gathered_none,
    )

pub overflow_add-preconditions : goal.overflow_add-preconditions
overflow_add-preconditions c =
    let room = counted-room c.args.table.now c.args.from c.loop-i.invariant.1.counts c.loop-i-test.true c.ranges.to.fits in
    record { fits = room c.from-part.result }

pub loop-i-preserved : goal.loop-i-preserved
loop-i-preserved c =
    let w = c.args.table.now in
    let h = c.loop-i in
    let g = h.invariant.1 in
    let xs : List Atom = stretch_in w c.args.from h.i in
    let a = atom_in w h.i in
    let more : List Atom = xs ++ (a ∷ []) in
    let part = c.from-part.result in
    let f : Found a part c.parameters_of-parameters.result = record {
      of = c.from-part.ensures ∙ c.part_of.ensures.result_value;
      below = omega (arith, c.from-part.ensures, c.part_of.ensures.result_lt_most_parts);
      brings = c.parameters_of-parameters.ensures;
    } in
    let test = sym c.is_precondition.ensures in
    let u = c.word_union in
    let named = kept_more (in_part xs) (in_part more) h.named g.names f (in-part-more xs a) u.result u.ensures in
    let t : Counted more c.if-is_precondition.preconditions × Kept (tests more) c.if-is_precondition.tested =
    elim c.if-is_precondition.branch [
      | then-is_precondition x ↦
          let e = test ∙ x.if-is_precondition.true in
          let v = x.word_union-then-is_precondition in
          let sets = kept_more (tests xs) (tests more) h.tested g.tests f (tests-more xs a e) in (
            subst (Counted more) (sym x.preconditions-is) (counted-more xs a g.counts e part f.of f.below),
            subst (Kept (tests more)) (sym x.tested-is) (sets v.result v.ensures),
          )
      | else-is_precondition x ↦
          let e = test ∙ x.if-is_precondition.false in
          let sets = kept_same (tests xs) (tests more) h.tested g.tests (tests_same xs a e) in (
            subst (Counted more) (sym x.preconditions-is) (counted_same xs a g.counts e),
            subst (Kept (tests more)) (sym x.tested-is) sets,
          )
    ] in
    let count = c.max-count.ensures ∙ larger h.count (part + 1) in
    let e = rows_more (atom_in w) c.args.from h.i (omega arith) in
    let now : List Atom → Type 0 = λ ys. Gathered ys c.if-is_precondition.preconditions c.if-is_precondition.tested
    (set h.named part u.result) c.max-count.result in (
      omega (arith, f.below),
      subst now (sym e) (record {
        parts = omega (arith, g.parts, f.of, part-count-more xs a);
        counts = t.0;
        tests = t.1;
        names = named;
      }),
    )

pub returns-clause-are_tests : goal.returns-clause-are_tests
returns-clause-are_tests c =
    let h = c.loop-i in
    let e : h.i ≡ c.args.to = omega arith in
    let all : ℕ → Type 0 = λ n. Gathered (stretch_in c.args.table.now c.args.from n) h.preconditions h.tested h.named h.count in
    are-tests c.requires.stretch (subst all e h.invariant.1)
