-- An empty set has no pars.
use Rattle.std.proofs.Common.{refl, sym, ◌∙◌, arith}
use Rattle.words.proofs.Puts.{puts_none, puts-is, puts_then, puts-length}
use Rattle.tokens.proofs.PartWords.{pars-none, pars-empty, pars-taken, pars-left}
use Rattle.tokens.proofs.part_atoms.par_atoms.Goals.{then-has, else-has}
use Rattle.tokens.proofs.part_atoms.par_atoms.Goals as goal

pub returns-then-which-eq0-clause-puts : goal.returns-then-which-eq0-clause-puts
returns-then-which-eq0-clause-puts c =
    let a = c.args in
    puts-is (puts_none a.out.now a.at) refl refl _
    (pars-empty a.here.own a.here.par a.role a.here.number a.which c.if-which-eq0.true a.here.params)

pub loop-x-init : goal.loop-x-init
loop-x-init c =
    let a = c.args in (
      omega arith,
      refl,
      puts-is (puts_none a.out.now a.at) refl refl _
          (pars-none a.here.own a.here.par a.role a.here.number a.which),
    )

pub loop-x-preserved : goal.loop-x-preserved
loop-x-preserved c =
    let a = c.args in
    let h = c.loop-x in
    let test = sym c.has.ensures in
    elim c.if-has.branch [
      | then-has y ↦
          let p = puts-is (puts_then h.invariant.2 y.par_atom-next.ensures.puts _
          (pars-taken a.here.own a.here.par a.role a.here.number a.which h.x (test ∙ y.if-has.true)))
          y.out-is y.next-is _ refl in
          (omega (arith, y.par_atom-next.ensures.value), puts-length p, p)
      | else-has y ↦
          let p = puts-is h.invariant.2 y.out-is y.next-is _
          (pars-left a.here.own a.here.par a.role a.here.number a.which h.x (test ∙ y.if-has.false)) in
          (omega arith, puts-length p, p)
    ]
