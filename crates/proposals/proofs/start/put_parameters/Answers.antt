-- `proposals::start::put_parameters` meets its contract: each store puts the parameters of one atom more, and leaves
-- all other words.
use Rattle.std.proofs.Common.{ℕ, ◌≡◌, ◌+◌, ◌-◌, ap, ◌∙◌, arith}
use Rattle.words.specs.Sets.{member}
use Rattle.task.specs.Task.{names}
use Rattle.task.specs.Table.{atom_in}
use Rattle.proposals.proofs.Scratches.{keeps-room, parameters-inside}
use Rattle.proposals.proofs.StartWords.{parameters-none, parameters-more}
use Rattle.proposals.proofs.start.put_parameters.Goals as goal

pub loop-i-init : goal.loop-i-init
loop-i-init c = parameters-none _ c.args.from c.args.scratch.now

pub bounds-scratch-i : goal.bounds-scratch-i
bounds-scratch-i c =
    parameters-inside (keeps-room c.loop-i.invariant.keeps c.requires.scratch_words_in_bounds) (omega arith)

pub loop-i-preserved : goal.loop-i-preserved
loop-i-preserved c =
    let atom = c.loop-i.i - c.args.from in
    let here : c.loop-i.i ≡ c.args.from + atom = omega arith in
    parameters-more c.held.result (omega arith) (omega arith) c.requires.scratch_words_in_bounds c.loop-i.invariant
    (λ x. ap (λ (set : ℕ). member set x) c.held.ensures ∙ (c.parameters_of.ensures x ∙
    ap (λ (k : ℕ). names x (atom_in c.args.table.now k)) here))

pub returns-clause-keeps_behind : goal.returns-clause-keeps_behind
returns-clause-keeps_behind c = c.loop-i.invariant.keeps

pub returns-clause-keeps_arcs : goal.returns-clause-keeps_arcs
returns-clause-keeps_arcs c = c.loop-i.invariant.arcs

pub returns-clause-by_index : goal.returns-clause-by_index
returns-clause-by_index c p x l = c.loop-i.invariant.named p x (omega arith)
