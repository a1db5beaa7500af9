use Rattle.std.proofs.Common.{arith, Bool, ◌||◌, ap, sym, ◌∙◌}
use Rattle.task.specs.Limits.{most_parameters}
use Rattle.task.specs.Task.{names}
use Rattle.task.specs.Table.{atom_in}
use Rattle.task.proofs.States.{names_in}
use Rattle.words.proofs.BitSets.{member-zero}
use Rattle.words.proofs.SetMembers.{set-small}
use Rattle.words.proofs.Loops.{set-joins, set_more, set-ends, with_number}
use Rattle.arcs.proofs.AtomWords.{argument-small}
use Rattle.arcs.proofs.atoms.parameters_of.Goals as goal

pub loop-k-init : goal.loop-k-init
unfolding names
loop-k-init c =
    (omega arith, set-joins 0 (atom_in c.args.table.now c.args.i).args (sym c.argument_count-n.ensures.value))

pub loop-k-preserved : goal.loop-k-preserved
loop-k-preserved c = (
  c.with-named.type_inv,
  set_more c.loop-k.invariant.1 c.loop-k-test.true
      (with_number _ _ _ c.with-named.ensures (c.from.ensures ∙ c.argument.ensures.result_value)),
)

-- parameters are below 12, so a word holds them
pub overflow_cast-result : goal.overflow_cast-result
overflow_cast-result c =
    let w = c.args.table.now in
    let a = atom_in w c.args.i in
    let small = set-small most_parameters c.loop-k.named c.loop-k.invariant.0 (λ x m.
    argument-small w c.args.i c.requires x (names_in x a
    (sym (set-ends c.loop-k.invariant.1 c.loop-k-test.false x ∙ ap (λ (b : Bool). b || names x a) (member-zero x)) ∙ m))) in
    omega arith

pub returns : goal.returns
returns c = λ x.
    set-ends c.loop-k.invariant.1 c.loop-k-test.false x ∙
    ap (λ (b : Bool). b || names x (atom_in c.args.table.now c.args.i)) (member-zero x)
