-- `arcs::atoms::argument_count` meets its contract: an atom's predicate is known, and so is its arity.
use Rattle.arcs.proofs.atoms.argument_count.Tie as tie
use mathlib.Core.Path.{sym, ◌∙◌, ap}
use native.Mathlib.Omega.{arith}
use Rattle.task.specs.Layout.{arity_in}
use Rattle.arcs.proofs.Stretches.{atom-row}
use Rattle.arcs.proofs.AtomWords.{predicate-known, argument-count}
use Rattle.arcs.proofs.atoms.argument_count.Statement.{statement}

predicate-requires : tie.Need-predicate-requires
predicate-requires c κs = atom-row c.requires

arity-requires : tie.Need-arity-requires
arity-requires c κs =
    let s = c in
    let l = predicate-known s.args.table.now s.args.i s.requires in
    ((atom-row s.requires).0, omega (arith, c.predicate.ensures))

returns : tie.Need-returns
returns c =
    let s = c in
    let w = s.args.table.now in (
      c.arity.ensures.0 ∙ (ap (arity_in w) c.predicate.ensures ∙
          sym (argument-count w s.args.i s.requires)),
      c.arity.ensures.1,
    )

pub argument_count_spec : {M : Type 1} → statement M
argument_count_spec = tie.close (tie.spec predicate-requires arity-requires returns)
