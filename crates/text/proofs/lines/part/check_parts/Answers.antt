-- It refuses as `close_schema` does, test by test: what each test found is said of the draft by a law, and the answers
-- cite it.
use Rattle.std.proofs.Common.{arith}
use Rattle.text.proofs.HeldParts.{row_in, parts_named, no-atoms, not_named, wrong-length, part-high, part-gap}
use Rattle.text.proofs.HeldParts.{parts-close}
use Rattle.text.proofs.HeldParts.{kept-parts}
use Rattle.task.proofs.Tables.{table_words-is}
use Rattle.text.proofs.lines.part.check_parts.Goals as goal

pub returns-then-counts-eq0 : goal.returns-then-counts-eq0
returns-then-counts-eq0 c d ns h s = no-atoms d ns (omega (arith, h.atoms))

pub all_named-requires : goal.all_named-requires
all_named-requires c i l =
    let h = c.requires.drafted.holds in
    rw c.first_row.ensures (row_in h (omega (arith, h.long, table_words-is)) i l)

pub returns-then-not-all_named : goal.returns-then-not-all_named
returns-then-not-all_named c d ns h s =
    not_named d ns (omega (arith, h.atoms)) (parts_named h c.first_row.ensures c.if-not-all_named.ensures)

pub returns-then-count-counts : goal.returns-then-count-counts
returns-then-count-counts c d ns h s =
    wrong-length d ns (omega (arith, h.atoms)) (parts_named h c.first_row.ensures c.if-not-all_named.ensures)
    (λ q. c.if-count-counts.true (omega (arith, h.atoms, s.counted)))

pub returns-then-not-all_below : goal.returns-then-not-all_below
returns-then-not-all_below c d ns h s =
    let kept = kept-parts h s c.requires.parts_len c.if-count-counts.false in
    part-high d ns (omega (arith, h.atoms)) (parts_named h c.first_row.ensures c.if-not-all_named.ensures) kept.same
    (kept.low c.if-not-all_below.ensures)

pub returns-then-not-without_gap : goal.returns-then-not-without_gap
returns-then-not-without_gap c d ns h s =
    let kept = kept-parts h s c.requires.parts_len c.if-count-counts.false in
    part-gap d ns (omega (arith, h.atoms)) (parts_named h c.first_row.ensures c.if-not-all_named.ensures) kept.same
    (kept.low c.if-not-all_below.ensures) (kept.gap c.if-not-without_gap.ensures)

pub returns : goal.returns
returns c d ns h s =
    let kept = kept-parts h s c.requires.parts_len c.if-count-counts.false in
    let below = kept.low c.if-not-all_below.ensures in (
      parts-close d ns (omega (arith, h.atoms)) (parts_named h c.first_row.ensures c.if-not-all_named.ensures) kept.same
          below (kept.gap c.if-not-without_gap.ensures),
      kept.same,
      below,
    )
