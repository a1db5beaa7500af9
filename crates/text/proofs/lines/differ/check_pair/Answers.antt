-- It refuses as `add_pair` does, test by test: what each test found of the numbers that were kept is said of the draft
-- by a law, and the answers cite it.
use Rattle.std.proofs.Common.{sym}
use Rattle.text.proofs.HeldPairs.{count-wrong, count-full, not_lower, too-high, not_behind, pair-passes}
use Rattle.text.proofs.lines.differ.check_pair.Goals as goal

pub returns-then-count-ne-PARAMETERS : goal.returns-then-count-ne-PARAMETERS
returns-then-count-ne-PARAMETERS c d ns h s = count-wrong h s c.requires.pair_len c.if-count-ne-PARAMETERS.true

pub returns-then-counts-ge-MOST_PAIRS : goal.returns-then-counts-ge-MOST_PAIRS
returns-then-counts-ge-MOST_PAIRS c d ns h s =
    count-full h s c.requires.pair_len c.if-count-ne-PARAMETERS.false c.if-counts-ge-MOST_PAIRS.true

pub returns-then-higher-lower : goal.returns-then-higher-lower
returns-then-higher-lower c d ns h s =
    not_lower h s c.requires.pair_len c.if-count-ne-PARAMETERS.false c.if-counts-ge-MOST_PAIRS.false
    c.if-higher-lower.true

pub returns-then-counts-higher : goal.returns-then-counts-higher
returns-then-counts-higher c d ns h s =
    too-high h s c.requires.pair_len c.if-count-ne-PARAMETERS.false c.if-counts-ge-MOST_PAIRS.false
    c.if-higher-lower.false c.if-counts-higher.true

pub returns-then-not-follows : goal.returns-then-not-follows
returns-then-not-follows c d ns h s =
    not_behind h s c.requires.pair_len c.if-count-ne-PARAMETERS.false c.if-counts-ge-MOST_PAIRS.false
    c.if-higher-lower.false c.if-counts-higher.false (sym (c.if-not-follows.ensures d h))

pub returns : goal.returns
returns c d ns h s =
    pair-passes h s c.requires.pair_len c.if-count-ne-PARAMETERS.false c.if-counts-ge-MOST_PAIRS.false
    c.if-higher-lower.false c.if-counts-higher.false (sym (c.if-not-follows.ensures d h))
