use Rattle.std.proofs.Common.{rules, tests, sym, ◌∙◌}
use Rattle.std.proofs.lemmas.Iterator.{serves_from_Range}
use Rattle.words.proofs.Chains.{any_ran}
use Rattle.arcs.proofs.AtomWords.{same-count}
use Rattle.arcs.proofs.Partners.{held-left}
use Rattle.arcs.proofs.atoms.hold_pair.Goals as goal

pub any-requires-clause-callable : goal.any-requires-clause-callable
any-requires-clause-callable c =
    let r = c.requires in
    let same = same-count c.args.table.now c.args.i c.args.j r.schema_atom r.schema_atom_2 r.i_value in
    let n = c.argument_count-n.ensures.value in
    serves_from_Range (λ x q k. search rules) (λ x a b. search rules)

pub returns : goal.returns
returns c = λ pairs h.
    let r = c.requires in
    let same = same-count c.args.table.now c.args.i c.args.j r.schema_atom r.schema_atom_2 r.i_value in
    let n = sym c.argument_count-n.ensures.value in
    any_ran (held-left pairs _ _ _ n (same ∙ n)) c.any.ensures.ran (λ x b q k. search (rules, tests, h))
