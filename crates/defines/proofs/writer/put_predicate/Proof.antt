-- `defines::writer::put_predicate` meets its contract: the predicate's name, its parameters and the bracket's end are
-- put one behind another. A lemma for each says what is still to come behind it.
use Prim.Native.Nat.{ℕ, ◌-◌}
use mathlib.Core.List.{List, [], ◌∷◌, ◌++◌}
use Rattle.words.specs.Lists.{up_to, up_from}
use Rattle.words.proofs.Puts.{Going, going_start, going-left, going-room, going_on, going-last, byte-room}
use Rattle.text.specs.Lines.{bytes, digits}
use Rattle.defines.specs.Pddl.{closing}
use Rattle.defines.specs.ByWords.{marked, formula}
use Rattle.defines.proofs.Frames.{predicate-pieces}
use borrow.Author.Rules.{rules}
use Rattle.defines.proofs.writer.put_predicate.Statement.{statement}
use Rattle.defines.proofs.writer.put_predicate.Tie as tie

abbrev number : tie.Start → List ℕ
number c = digits c.args.p

abbrev parameters : tie.Start → List ℕ
parameters c = marked (bytes " ?x") (up_from 0 (c.args.arity - 0))

-- what is still to come of the predicate, in a text and from a place on
abbrev Left : tie.Start → List ℕ → List ℕ → ℕ → Type 0
Left c left text next =
    Going c.args.text.now c.args.at (formula (bytes " ?x") c.args.p (up_to c.args.arity)) left text next

begin : (c : tie.Start) →
    Left c (bytes " (p" ++ (number c ++ (parameters c ++ (closing ∷ [])))) c.args.text.now c.args.at
begin c = going-left (predicate-pieces c.args.p c.args.arity) (going_start c.requires)

abbrev start : tie.After-slice_known-2-1 → tie.Start
start c = c.before.before.before.before.before.before.before

behind-letter : (c : tie.After-slice_known-2-1) →
    Left (start c) (number (start c) ++ (parameters (start c) ++ (closing ∷ [])))
    c.put_bytes-at_number.new.text c.put_bytes-at_number.result
unfolding bytes
behind-letter c = going_on {ys = bytes " (p"} (begin (start c)) c.put_bytes-at_number.ensures

abbrev lettered : tie.After-slice_known-3-1 → tie.After-slice_known-2-1
lettered c = c.before.before.before.before

behind-number : (c : tie.After-slice_known-3-1) →
    Left (start (lettered c)) (parameters (start (lettered c)) ++ (closing ∷ []))
    c.put_number-at_parameters.new.text c.put_number-at_parameters.result
behind-number c = going_on (behind-letter (lettered c)) c.put_number-at_parameters.ensures

abbrev counted : tie.After-slice_known-4-1 → tie.After-slice_known-3-1
counted c = c.before.before.before.before.before.before

behind-parameters : (c : tie.After-slice_known-4-1) →
    Left (start (lettered (counted c))) (closing ∷ []) c.put_numbered-at_end.new.text
    c.put_numbered-at_end.result
unfolding bytes
behind-parameters c =
    going_on {ys = parameters (start (lettered (counted c)))} (behind-number (counted c))
    c.put_numbered-at_end.ensures

put-bytes-requires : tie.Need-put_bytes-at_number-requires
unfolding bytes
put-bytes-requires c κs =
    let start = c in
    going-room (bytes " (p") (number start.before.before.before.before ++ (parameters start.before.before.before.before ++ (closing ∷ []))) (begin start.before.before.before.before)

put-number-requires : tie.Need-put_number-at_parameters-requires
put-number-requires c κs =
    let start = start c.before in
    going-room (number start) (parameters start ++ (closing ∷ [])) (behind-letter c.before)

put-numbered-requires : tie.Need-put_numbered-at_end-requires
unfolding bytes
put-numbered-requires c κs =
    let start = start (lettered c.before.before.before) in
    going-room (parameters start) (closing ∷ []) (behind-number c.before.before.before)

put-byte-requires : tie.Need-put_byte-requires
put-byte-requires c κs = byte-room closing [] (behind-parameters c.before)

returns : tie.Need-returns
returns c = going-last (behind-parameters c.before.before.before.before) c.put_byte.ensures

pub put_predicate_spec : {M : Type 1} → statement M
put_predicate_spec =
    tie.close
    (tie.spec put-bytes-requires put-number-requires put-numbered-requires put-byte-requires (λ c. search rules)
    returns)
