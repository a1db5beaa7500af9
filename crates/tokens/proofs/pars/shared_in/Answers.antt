use Rattle.std.proofs.Common.{◌≡◌, ℕ, ltb, length, ap, ◌∙◌, arith}
use Rattle.words.proofs.BitSets.{member-zero}
use Rattle.tokens.proofs.SharedParameters.{passed, none_passed, seen_more, twice-more, all-passed}
use Rattle.tokens.proofs.pars.shared_in.Goals as goal

pub loop-j-init : goal.loop-j-init
loop-j-init c =
    let a = c.args in
    (λ x. none_passed a.kept.now a.s 0 x (member-zero x), λ x. none_passed a.kept.now a.s 1 x (member-zero x))

pub loop-j-preserved : goal.loop-j-preserved
loop-j-preserved c =
    let a = c.args in
    let h = c.loop-j in
    let here = c.own_at-here in (
      seen_more a.kept.now a.s h.seen c.union-seen.result here.result h.j here.ensures h.invariant.0
          c.union-seen.ensures,
      twice-more a.kept.now a.s h.seen h.twice c.common.result c.union-twice.result here.result h.j here.ensures
          h.invariant.0 h.invariant.1 c.common.ensures c.union-twice.ensures,
    )

pub returns : goal.returns
returns c = λ t o known x.
    let a = c.args in
    let n : c.loop-j.j ≡ length o = omega (arith, c.count_of-j-end.ensures, known.count) in
    c.loop-j.invariant.1 x ∙ (ap (λ (k : ℕ). ltb 1 (passed a.kept.now a.s x k)) n ∙
    ap (ltb 1) (all-passed a.kept.now a.s t o known x))
