use Rattle.std.proofs.Common.{◌≡◌, ℕ, ◌<◌, ◌+◌, List, length, get_or, sym, ap, ◌∙◌, subst, arith}
use Rattle.tokens.specs.Kept.{kept_words}
use Rattle.tokens.specs.Acceptance.{OrderKept}
use Rattle.tokens.proofs.KeptRows.{part-long}
use Rattle.tokens.proofs.KeptParts.{part-is, order-more}
use Rattle.tokens.proofs.parts.keep_order.Goals as goal

pub offset_bounds-named-from : goal.offset_bounds-named-from
offset_bounds-named-from c =
    let parts = c.args.order.now.parts in
    let j = c.loop-j.j in
    let l : j < length parts = omega (arith, c.requires.count_le_most_parts) in
    omega (arith, part-is parts j l, c.requires.by_index j c.loop-j-test.true, c.from.ensures)

pub bounds-named-from : goal.bounds-named-from
bounds-named-from c =
    let parts = c.args.order.now.parts in
    let j = c.loop-j.j in
    let l : j < length parts = omega (arith, c.requires.count_le_most_parts) in
    omega (arith, part-is parts j l, c.requires.by_index j c.loop-j-test.true, c.from.ensures)

pub loop-j-preserved : goal.loop-j-preserved
loop-j-preserved c =
    let a = c.args in
    let parts = a.order.now.parts in
    let named = a.named.now in
    let h = c.loop-j in
    let l : h.j < length parts = omega (arith, c.requires.count_le_most_parts) in
    let part = (get_or parts h.j (record { 0 = 0 })).0 in
    let own = get_or named c.from.result 0 in
    let kept = sym c.keep_part.ensures in (
      subst (λ (k : List ℕ). length k ≡ kept_words) kept (part-long h.kept (a.from + h.j) part own ∙ h.invariant.0),
      subst (λ (k : List ℕ). OrderKept a.from (h.j + 1) parts named a.kept.now k) kept
          (order-more a.from parts named a.kept.now h.j part own h.kept (omega (arith, c.requires.count_bound))
          h.invariant.0 (part-is parts h.j l) (ap (λ (k : ℕ). get_or named k 0) c.from.ensures) h.invariant.1),
    )
