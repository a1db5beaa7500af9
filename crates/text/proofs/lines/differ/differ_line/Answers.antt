-- The line has no list, or its numbers make no pair, or they do. Then the pair's words go behind those of the pairs
-- before, and the code holds the draft behind the line.
use Rattle.std.proofs.lemmas.Result.{err_from_is_err_and}
use Rattle.text.specs.Text.{differ_line, take_line}
use Rattle.text.proofs.HeldAtoms.{inside-touched}
use Rattle.text.proofs.HeldPairs.{pair_inside, pair-numbers, pair_put}
use Rattle.text.proofs.TableRoom.{in_table}
use Rattle.text.proofs.LineTurns.{no_line, line_refused, line-goes-on}
use Rattle.text.proofs.lines.differ.differ_line.Goals as goal

pub returns-in_default-clause-takes : goal.returns-in_default-clause-takes
returns-in_default-clause-takes c d h =
    no_line differ_line d _ (c.in_default.ensures _ _ _ c.numbers.ensures)

pub returns-in_err-check_pair-clause-takes : goal.returns-in_err-check_pair-clause-takes
unfolding take_line
returns-in_err-check_pair-clause-takes c d h =
    let list = c.in-Some.ensures _ _ _ c.numbers.ensures in
    let told = err_from_is_err_and c.from_residual.result c.from_residual.ensures.1 in
    rw (told.1, told.2)
    (line_refused differ_line d _ _ _ list.is _ (c.in_err-check_pair.ensures d list.ns h list.listed))

pub put_words-requires-clause-words_in_bounds : goal.put_words-requires-clause-words_in_bounds
put_words-requires-clause-words_in_bounds c =
    let list = c.in-Some.ensures _ _ _ c.numbers.ensures in
    let h = c.requires.drafted.holds in
    let pass = c.in_ok-check_pair.ensures _ list.ns h list.listed in
    in_table (pair_inside h list.listed c.numbers.auto.list pass c.next_pair.ensures) h.long

pub put_words-requires-clause-by_index : goal.put_words-requires-clause-by_index
put_words-requires-clause-by_index c =
    let list = c.in-Some.ensures _ _ _ c.numbers.ensures in
    let h = c.requires.drafted.holds in
    pair-numbers h list.listed c.numbers.auto.list (c.in_ok-check_pair.ensures _ list.ns h list.listed)

pub returns-clause-touched : goal.returns-clause-touched
returns-clause-touched c =
    let list = c.in-Some.ensures _ _ _ c.numbers.ensures in
    let h = c.requires.drafted.holds in
    let pass = c.in_ok-check_pair.ensures _ list.ns h list.listed in
    inside-touched (pair_inside h list.listed c.numbers.auto.list pass c.next_pair.ensures) c.put_words.ensures

pub returns-clause-takes : goal.returns-clause-takes
unfolding take_line
returns-clause-takes c d h =
    let list = c.in-Some.ensures _ _ _ c.numbers.ensures in
    let pass = c.in_ok-check_pair.ensures d list.ns h list.listed in
    record {
      draft = _;
      is = line-goes-on differ_line d _ _ _ list.is _ pass.0;
      holds = pair_put h list.listed c.numbers.auto.list pass c.requires.allows c.next_pair.ensures
          c.put_words.ensures;
      line = list.line;
    }
