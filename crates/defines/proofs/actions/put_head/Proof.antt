-- `defines::actions::put_head` meets its contract: the schema's name, its parameters and the fixed bytes around them
-- are put one behind another. A lemma for each says what is still to come behind it.
use Prim.Native.Nat.{ℕ}
use mathlib.Core.List.{List, ◌++◌}
use Rattle.words.proofs.Puts.{Going, going_start, going-left, going-room, going_on, last-room, going-last}
use Rattle.text.specs.Lines.{bytes, digits}
use Rattle.defines.specs.ByWords.{head_text}
use Rattle.defines.proofs.Frames.{parameters, head-pieces}
use borrow.Author.Rules.{rules}
use Rattle.defines.proofs.actions.put_head.Statement.{statement}
use Rattle.defines.proofs.actions.put_head.Tie as tie

-- what comes from each place on
abbrev from_end : List ℕ
from_end = bytes ") :precondition (and"

abbrev from-parameters : tie.Start → List ℕ
from-parameters c = parameters c.args.params ++ from_end

abbrev from-bracket : tie.Start → List ℕ
from-bracket c = bytes " :parameters (" ++ from-parameters c

abbrev from-number : tie.Start → List ℕ
from-number c = digits c.args.schema ++ from-bracket c

-- what is still to come of the head, in a text and from a place on
abbrev Left : tie.Start → List ℕ → List ℕ → ℕ → Type 0
Left c left text next =
    Going c.args.text.now c.args.at (head_text c.args.schema c.args.params) left text next

begin : (c : tie.Start) → Left c (bytes " (:action a" ++ from-number c) c.args.text.now c.args.at
begin c = going-left (head-pieces c.args.schema c.args.params) (going_start c.requires)

abbrev start : tie.After-slice_known-2-1 → tie.Start
start c = c.before.before.before.before.before.before.before

behind-letter : (c : tie.After-slice_known-2-1) →
    Left (start c) (from-number (start c)) c.put_bytes-at_number.new.text
    c.put_bytes-at_number.result
unfolding bytes
behind-letter c = going_on {ys = bytes " (:action a"} (begin (start c)) c.put_bytes-at_number.ensures

abbrev lettered : tie.After-slice_known-3-1 → tie.After-slice_known-2-1
lettered c = c.before.before.before.before

behind-number : (c : tie.After-slice_known-3-1) →
    Left (start (lettered c)) (from-bracket (start (lettered c)))
    c.put_number-at_bracket.new.text c.put_number-at_bracket.result
behind-number c = going_on (behind-letter (lettered c)) c.put_number-at_bracket.ensures

abbrev named : tie.After-slice_known-4-1 → tie.After-slice_known-3-1
named c = c.before.before.before.before.before.before

abbrev started : tie.After-slice_known-4-1 → tie.Start
started c = start (lettered (named c))

behind-bracket : (c : tie.After-slice_known-4-1) →
    Left (started c) (from-parameters (started c)) c.put_bytes-at_parameters.new.text
    c.put_bytes-at_parameters.result
unfolding bytes
behind-bracket c =
    going_on {ys = bytes " :parameters ("} (behind-number (named c)) c.put_bytes-at_parameters.ensures

abbrev opened : tie.After-slice_known-5-1 → tie.After-slice_known-4-1
opened c = c.before.before.before.before

behind-parameters : (c : tie.After-slice_known-5-1) →
    Left (started (opened c)) from_end c.put_parameters-at_preconditions.new.text
    c.put_parameters-at_preconditions.result
behind-parameters c = going_on (behind-bracket (opened c)) c.put_parameters-at_preconditions.ensures

put-bytes-requires : tie.Need-put_bytes-at_number-requires
unfolding bytes
put-bytes-requires c κs =
    let start = c in
    going-room (bytes " (:action a") (from-number start.before.before.before.before) (begin start.before.before.before.before)

put-number-requires : tie.Need-put_number-at_bracket-requires
put-number-requires c κs =
    let start = start c.before in
    going-room (digits start.args.schema) (from-bracket start) (behind-letter c.before)

put-bytes-requires-2 : tie.Need-put_bytes-at_parameters-requires
unfolding bytes
put-bytes-requires-2 c κs =
    going-room (bytes " :parameters (") (from-parameters (start (lettered c.before.before.before)))
    (behind-number c.before.before.before)

put-parameters-requires : tie.Need-put_parameters-at_preconditions-requires
put-parameters-requires c κs =
    going-room (parameters (started c.before).args.params) from_end (behind-bracket c.before)

put-bytes-requires-3 : tie.Need-put_bytes-requires
unfolding bytes
put-bytes-requires-3 c κs = last-room (behind-parameters c.before.before.before)

returns : tie.Need-returns
unfolding bytes
returns c =
    going-last (behind-parameters c.before.before.before.before.before.before) c.put_bytes.ensures

pub put_head_spec : {M : Type 1} → statement M
put_head_spec =
    tie.close
    (tie.spec put-bytes-requires put-number-requires put-bytes-requires-2 put-parameters-requires
    put-bytes-requires-3 (λ c. search rules) returns)
