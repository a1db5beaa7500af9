-- `defines::pairs::put_pair` meets its contract: ` (not (=`, both parameters and `))` are put one behind another. A
-- lemma for each says what is still to come behind it.
use native.Mathlib.Omega.{arith}
use Prim.Native.Nat.{ℕ, ◌+◌}
use mathlib.Core.Path.{◌≡◌, ap}
use mathlib.Core.List.{List, ◌++◌}
use lib.ListN.{length}
use Rattle.words.specs.Words.{words_at}
use Rattle.words.proofs.Puts.{puts-same, Going, going_start, going-left, going-room, going_on, last-room, going-last}
use Rattle.task.proofs.TableReads.{table-roomy}
use Rattle.text.specs.Lines.{bytes}
use Rattle.defines.specs.ByWords.{marked, apart_in}
use Rattle.defines.proofs.PairItems.{read_of, pair-pieces}
use borrow.Author.Rules.{rules}
use Rattle.defines.proofs.pairs.put_pair.Statement.{statement}
use Rattle.defines.proofs.pairs.put_pair.Tie as tie

-- the text of words that are read as parameters
abbrev names : List ℕ → List ℕ
names ns = marked (bytes " ?x") ns

abbrev parameters : tie.Start → List ℕ
parameters c = names (read_of c.args.table.now c.args.i)

-- what is still to come of the pair, in a text and from a place on
abbrev Left : tie.Start → List ℕ → List ℕ → ℕ → Type 0
Left c left text next =
    Going c.args.text.now c.args.at (apart_in c.args.table.now c.args.i) left text next

begin : (c : tie.Start) →
    Left c (bytes " (not (=" ++ (parameters c ++ bytes "))")) c.args.text.now c.args.at
begin c = going-left (pair-pieces c.args.table.now c.args.i) (going_start c.requires.1.1)

-- the row that was found is the pair's
abbrev start : tie.After-pair_of-row → tie.Start
start c = c.before.before.before

read : (c : tie.After-pair_of-row) →
    names (words_at (start c).args.table.now (c.pair_of-row.result + 1) 2) ≡ parameters (start c)
read c = ap (λ (b : ℕ). names (words_at (start c).args.table.now (b + 1) 2)) c.pair_of-row.ensures.0

put-bytes-requires : tie.Need-put_bytes-at_first-requires
unfolding bytes
put-bytes-requires c κs =
    let start = start c.before.before.before in
    going-room (bytes " (not (=") (parameters start ++ bytes "))") (begin start)

abbrev found : tie.After-slice_known-2-1 → tie.After-pair_of-row
found c = c.before.before.before.before.before.before

behind-opened : (c : tie.After-slice_known-2-1) →
    Left (start (found c)) (parameters (start (found c)) ++ bytes "))") c.put_bytes-at_first.new.text
    c.put_bytes-at_first.result
unfolding bytes
behind-opened c = going_on {ys = bytes " (not (="} (begin (start (found c))) c.put_bytes-at_first.ensures

put-words-requires : tie.Need-put_words-at_end-requires
unfolding bytes
put-words-requires c κs =
    let found = found c.before.before.before in
    let inside = found.pair_of-row.ensures.1 in
    let room = going-room (parameters (start found)) (bytes "))") (behind-opened c.before.before.before) in
    let e = ap length (read found) in
    (omega arith, omega arith)

abbrev opened : tie.After-slice_known-3-1 → tie.After-slice_known-2-1
opened c = c.before.before.before.before.before.before

behind-parameters : (c : tie.After-slice_known-3-1) →
    Left (start (found (opened c))) (bytes "))") c.put_words-at_end.new.text
    c.put_words-at_end.result
unfolding bytes
behind-parameters c =
    going_on (behind-opened (opened c)) (puts-same (read (found (opened c))) c.put_words-at_end.ensures)

put-bytes-requires-2 : tie.Need-put_bytes-requires
unfolding bytes
put-bytes-requires-2 c κs = last-room (behind-parameters c.before.before.before)

returns : tie.Need-returns
unfolding bytes
returns c =
    going-last (behind-parameters c.before.before.before.before.before.before) c.put_bytes.ensures

pub put_pair_spec : {M : Type 1} → statement M
put_pair_spec =
    tie.close
    (tie.spec (λ c κs. (table-roomy _ c.requires.0, c.requires.1.0))
    put-bytes-requires (λ c. search rules) put-words-requires put-bytes-requires-2 (λ c. search rules) returns)
