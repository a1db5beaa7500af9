-- `arcs::atoms::argument` meets its contract: an atom's arguments are its words from 4 on, and parameters of its
-- schema.
use Prim.Native.Nat.{ℕ, ◌+◌, ◌<◌}
use mathlib.Core.Path.{◌≡◌, sym, ◌∙◌, ap}
use native.Mathlib.Omega.{arith}
use lib.ListN.{length, get_or}
use Rattle.task.specs.Table.{atom_in}
use Rattle.words.proofs.Lists.{in-get_or}
use Rattle.arcs.proofs.Stretches.{atom-row}
use Rattle.arcs.proofs.AtomWords.{few-arguments, argument-small, argument-at}
use Rattle.arcs.proofs.atoms.argument.Statement.{statement}
use Rattle.arcs.proofs.atoms.argument.Tie as tie

few : (c : tie.Start) → c.args.k < 4
few c =
    let l : c.args.k < length (atom_in c.args.table.now c.args.i).args = c.requires.1 in
    omega (arith, few-arguments c.args.table.now c.args.i c.requires.0)

arguments-requires : tie.Need-arguments-requires
arguments-requires c κs = atom-row c.requires.0

add-word-at : tie.Need-overflow_add-arguments
add-word-at c = omega (arith, few c.before.before, c.arguments.ensures.1)

word-at-requires : tie.Need-word_at-requires
word-at-requires c κs = omega (arith, few c.before.before, c.arguments.ensures.1)

returns : tie.Need-returns
returns c =
    let s = c in
    let w = s.args.table.now in
    let args = (atom_in w s.args.i).args in
    let e : c.word_at.result ≡ get_or args s.args.k 0 =
    c.word_at.ensures ∙ ap (λ (b : ℕ). get_or w (b + s.args.k) 0) c.arguments.ensures.0 ∙
    sym (argument-at w s.args.i s.requires.0 s.args.k s.requires.1) in
    let l = argument-small w s.args.i s.requires.0 (get_or args s.args.k 0)
    (in-get_or args s.args.k 0 s.requires.1) in
    (e, omega arith)

pub argument_spec : {M : Type 1} → statement M
argument_spec = tie.close (tie.spec arguments-requires add-word-at word-at-requires returns)
