-- `proposals::start::of_predicate` meets its contract: what is tested are atoms of the stretch.
use Rattle.std.proofs.Common.{arith}
use Rattle.arcs.proofs.Stretches.{atom-row}
use Rattle.proposals.proofs.StartArcs.{atom-of}
use Rattle.proposals.proofs.start.of_predicate.Goals as goal

pub predicate-named-requires-clause-roomy : goal.predicate-named-requires-clause-roomy
predicate-named-requires-clause-roomy c = (atom-row (atom-of c.requires.stretch c.args.q c.requires.from_bound.1)).0

pub those-requires : goal.those-requires
those-requires c = λ p b m.
    let l = c.requires.set_below p m in
    let row = atom-row (atom-of c.requires.stretch p l) in
    (λ κs r e t w u v. omega arith, λ κs r e t w u v z. row)
