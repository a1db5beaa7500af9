use Rattle.std.proofs.Common.{arith, ℕ, Bool, ◌+◌, cond, ap, sym, ◌∙◌}
use Rattle.words.specs.Sets.{members}
use Rattle.words.proofs.SetMembers.{above, above-none, above_more}
use Rattle.words.proofs.sets.bound.Goals as goal
use Rattle.words.proofs.sets.bound.Goals.{then-has, else-has}

pub loop-k-init : goal.loop-k-init
loop-k-init c = (omega arith, sym (above-none c.args.set))

pub loop-k-preserved : goal.loop-k-preserved
loop-k-preserved c =
    let m = above_more c.args.set c.loop-k.k in
    let next : Bool → ℕ = λ b. cond b (c.loop-k.k + 1) (above (members c.args.set c.loop-k.k)) in
    elim c.if-has.branch [
      | then-has w ↦
          let e = ap next (sym c.has.ensures ∙ w.if-has.true) in (omega (arith, w.most-is), omega (arith, w.most-is))
      | else-has w ↦
          let e = ap next (sym c.has.ensures ∙ w.if-has.false) in (omega (arith, w.most-is), omega (arith, w.most-is))
    ]
