-- `arcs::choice::is_ready` meets its contract.
-- A part that is not unplaced makes both sides false. For one that is, the parts with an arc to it, `before[p]`, and
-- the unplaced ones have none in common just where it is ready (`ready-apart`).
use mathlib.Core.Path.{sym, ◌∙◌, ap}
use mathlib.Core.Bool.{Bool, not, ◌&&◌}
use borrow.Author.Rules.{rules}
use Rattle.arcs.specs.Order.{ready}
use Rattle.words.specs.Sets.{members}
use Rattle.arcs.proofs.Choosing.{ready-apart}
use Rattle.arcs.proofs.choice.is_ready.Statement.{statement}
use Rattle.arcs.proofs.choice.is_ready.Tie as tie

returns : tie.Need-returns-then-has
returns c = λ pairs atoms n a b.
    let s = c in
    let u = s.args.unplaced in
    let p = s.args.p in
    let m = sym c.has.ensures ∙ c.if-has.true in
    ap not c.meet.ensures
    ∙ (ready-apart pairs atoms s.args.before.now u n p s.ranges.unplaced.fits a b
    ∙ ap (λ (x : Bool). x && ready pairs atoms (members u n) p) (sym m))

returns-2 : tie.Need-returns-else-has
returns-2 c = λ pairs atoms n a b.
    let s = c in
    let u = s.args.unplaced in
    let m = sym c.has.ensures ∙ c.if-has.false in
    c.if-has.false ∙ ap (λ (x : Bool). x && ready pairs atoms (members u n) s.args.p) (sym m)

pub is_ready_spec : {M : Type 1} → statement M
is_ready_spec =
    tie.close
    (tie.spec (λ c κs. search rules) (λ c. search rules) (λ c. search rules) (λ c κs. search rules) returns returns-2)
