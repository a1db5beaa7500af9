use Rattle.std.proofs.Common.{arith, ℕ, ap, sym, ◌∙◌}
use Rattle.arcs.specs.Order.{ahead}
use Rattle.arcs.specs.Stretches.{chosen}
use Rattle.arcs.proofs.Choosing.{better-first, better-keeps, better-takes, only_below}
use Rattle.arcs.proofs.choice.better_of.Goals as goal
use Rattle.arcs.proofs.choice.better_of.Goals.{in_default-via-in-Some+else-is_ahead, in_default-via-in_default}

pub is_ahead-requires : goal.is_ahead-requires
unfolding chosen
is_ahead-requires c =
    let l = c.requires.chosen_below c.in-Some.part.0 (ap chosen c.in-Some.is) in
    (omega arith, c.requires.p_lt_most_parts)

pub returns-in-Some-clause-result_value : goal.returns-in-Some-clause-result_value
unfolding chosen
returns-in-Some-clause-result_value c = λ atoms placed k b.
    better-keeps atoms placed c.args.p c.in-Some.part.0 (ap chosen c.in-Some.is)
    (sym (ap (λ (q : ℕ). ahead atoms placed q c.args.p) c.from.ensures) ∙
    (sym (c.is_ahead.ensures atoms placed k b) ∙ c.if-is_ahead.true))

pub returns-in_default-clause-result_value : goal.returns-in_default-clause-result_value
unfolding chosen
returns-in_default-clause-result_value c = λ atoms placed k b. elim c.in_default.branch [
  | in_default-via-in-Some+else-is_ahead w ↦
      better-takes atoms placed c.args.p w.in-Some.part.0 (ap chosen w.in-Some.is)
      (sym (ap (λ (q : ℕ). ahead atoms placed q c.args.p) w.from.ensures) ∙
      (sym (w.is_ahead.ensures atoms placed k b) ∙ w.if-is_ahead.false))
  | in_default-via-in_default w ↦ better-first atoms placed c.args.p (ap chosen w.in_default.is)
]

pub returns-in_default-clause-by_index : goal.returns-in_default-clause-by_index
unfolding chosen
returns-in_default-clause-by_index c = λ n l b. only_below n c.args.p l
