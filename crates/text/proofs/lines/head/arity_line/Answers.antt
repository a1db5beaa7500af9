-- The line has no list, or it has too many arities or one too high, or they are put behind the counts, and the code
-- holds the draft behind the line.
use Rattle.std.proofs.Common.{get_or, arith, sym, ltb, take}
use lib.Seq.{length-take-le}
use borrow.Author.Tests.{ltb-true}
use Rattle.words.proofs.Lists.{all_in, in-get_or}
use Rattle.task.proofs.Tables.{table_words-is}
use Rattle.text.specs.Text.{arity_line}
use Rattle.text.proofs.RowTests.{first-put}
use Rattle.text.proofs.HeldAtoms.{inside-touched}
use Rattle.text.proofs.LineTurns.{no_line, line_refused, line-goes-on}
use Rattle.text.proofs.HeldArities.{low-found, too-many-predicates, arity-too-high, arities-taken, arities-held}
use Rattle.text.proofs.lines.head.arity_line.Goals as goal

pub returns-in_default-clause-takes : goal.returns-in_default-clause-takes
returns-in_default-clause-takes c d h =
    no_line arity_line d _ (c.in_default.ensures _ _ _ c.numbers.ensures)

pub returns-then-count-gt-MOST_PREDICATES-clause-takes : goal.returns-then-count-gt-MOST_PREDICATES-clause-takes
returns-then-count-gt-MOST_PREDICATES-clause-takes c d h =
    let list = c.in-Some.ensures _ _ _ c.numbers.ensures in
    line_refused arity_line d _ _ _ list.is 4 (too-many-predicates d list.ns (omega (arith, list.listed.counted)))

pub returns-then-not-all_below-clause-takes : goal.returns-then-not-all_below-clause-takes
returns-then-not-all_below-clause-takes c d h =
    let list = c.in-Some.ensures _ _ _ c.numbers.ensures in
    let size = c.numbers.auto.list in
    line_refused arity_line d _ _ _ list.is 4
    (arity-too-high d list.ns (low-found list.listed (omega arith) c.if-not-all_below.ensures))

pub put_words-requires-clause-words_in_bounds : goal.put_words-requires-clause-words_in_bounds
put_words-requires-clause-words_in_bounds c =
    let size = c.numbers.auto.list in
    omega (arith, c.requires.drafted.holds.long, table_words-is, length-take-le c.in-Some.count c.numbers.new.list)

pub put_words-requires-clause-by_index : goal.put_words-requires-clause-by_index
put_words-requires-clause-by_index c k l =
    let first = take c.in-Some.count c.numbers.new.list in
    let each = all_in (λ n. ltb n 5) (sym c.if-not-all_below.ensures) (in-get_or first k 0 l) in
    let low = ltb-true (get_or first k 0) 5 each in
    omega arith

pub returns-clause-touched : goal.returns-clause-touched
returns-clause-touched c =
    let size = c.numbers.auto.list in
    inside-touched (omega arith) (first-put c.in-Some.count c.numbers.new.list (omega arith) c.put_words.ensures)

pub returns-clause-takes : goal.returns-clause-takes
returns-clause-takes c d h =
    let list = c.in-Some.ensures _ _ _ c.numbers.ensures in
    let many = list.listed.counted in
    let size = c.numbers.auto.list in
    let fits = low-found list.listed (omega arith) c.if-not-all_below.ensures in
    record {
      draft = _;
      is = line-goes-on arity_line d _ _ _ list.is _ (arities-taken d list.ns (omega arith) fits);
      holds = arities-held h list.ns _ _ c.requires.allows (omega arith) fits (omega arith) list.listed
          (first-put c.in-Some.count c.numbers.new.list (omega arith) c.put_words.ensures);
      line = list.line;
    }
