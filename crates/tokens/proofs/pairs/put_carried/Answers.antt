use Rattle.std.proofs.Common.{◌≡◌, ℕ, ◌+◌, refl, sym, ap, ◌∙◌, arith}
use Rattle.task.specs.Table.{pair_in, pair_words}
use Rattle.task.proofs.PairsStand.{length-pair_words}
use Rattle.words.proofs.Puts.{going-left, going-room, going_on, going_end, puts_none, puts-is}
use Rattle.tokens.specs.Writing.{renumbered_pair, carried_words}
use Rattle.tokens.proofs.PairWords.{carried_none, carried-taken, carried-left}
use Rattle.tokens.proofs.pairs.put_carried.Goals.{then-carries_pair, else-carries_pair}
use Rattle.tokens.proofs.pairs.put_carried.Goals as goal

pub put_pair-next-requires-clause-pair_size_in_bounds : goal.put_pair-next-requires-clause-pair_size_in_bounds
put_pair-next-requires-clause-pair_size_in_bounds c =
    let a = c.args in
    let w = a.table.now in
    let i = c.loop-i.i in
    let e = carried-taken w a.number a.own a.to i c.loop-i-test.true
    (sym c.carries_pair.ensures ∙ c.if-carries_pair.true) in
    let q = renumbered_pair a.own (pair_in w i) in
    let r = going-room (pair_words a.number q) (carried_words w a.number a.own (i + 1) a.to)
    (going-left e c.loop-i.invariant) in
    omega (arith, length-pair_words a.number q)

pub loop-i-preserved : goal.loop-i-preserved
loop-i-preserved c =
    let a = c.args in
    let w = a.table.now in
    let h = c.loop-i in
    let test = sym c.carries_pair.ensures in
    let i = c.loop-i-test.true in
    elim c.if-carries_pair.branch [
      | then-carries_pair y ↦
          going_on (going-left (carried-taken w a.number a.own a.to h.i i (test ∙ y.if-carries_pair.true)) h.invariant)
          (puts-is y.put_pair-next.ensures y.out-is y.next-is _ refl)
      | else-carries_pair y ↦
          going_on (going-left (carried-left w a.number a.own a.to h.i i (test ∙ y.if-carries_pair.false)) h.invariant)
          (puts-is (puts_none h.out h.next) y.out-is y.next-is _ refl)
    ]

pub returns : goal.returns
returns c =
    let a = c.args in
    let h = c.loop-i in
    let e : h.i ≡ a.to = omega (arith, c.requires.pair_stretch.forward) in
    going_end (going-left
    (ap (λ (k : ℕ). carried_words a.table.now a.number a.own k a.to) e ∙
    carried_none a.table.now a.number a.own a.to) h.invariant)
