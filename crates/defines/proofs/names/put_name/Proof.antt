-- `defines::names::put_name` meets its contract: mark and digits are put one behind the other. A lemma says what is
-- still to come behind the mark.
use Rattle.text.specs.Lines.{digits}
use Rattle.words.proofs.Puts.{Going, first-room, going_start, last-room, going_on, going-last}
use Rattle.defines.proofs.MarkedNames.{name_of}
use borrow.Author.Rules.{rules}
use Rattle.defines.proofs.names.put_name.Statement.{statement}
use Rattle.defines.proofs.names.put_name.Tie as tie

abbrev start : tie.After-slice_known-2-1 → tie.Start
start c = c.before.before.before.before.before.before

behind-mark : (c : tie.After-slice_known-2-1) →
    let args = (start c).args in
    Going args.text.now args.at (name_of args.mark.now args.n) (digits args.n)
    c.put_bytes-at_number.new.text c.put_bytes-at_number.result
behind-mark c = going_on (going_start (start c).requires) c.put_bytes-at_number.ensures

put-bytes-requires : tie.Need-put_bytes-at_number-requires
put-bytes-requires c κs =
    let start = c in
    first-room start.args.at start.args.mark.now (digits start.args.n) start.requires

put-number-requires : tie.Need-put_number-requires
put-number-requires c κs = last-room (behind-mark c.before)

returns : tie.Need-returns
returns c = going-last (behind-mark c.before.before.before.before) c.put_number.ensures

pub put_name_spec : {M : Type 1} → statement M
put_name_spec = tie.close (tie.spec put-bytes-requires put-number-requires (λ c. search rules) returns)
