-- `defines::writer::put_domain` meets its contract: between fixed bytes it puts what pairs require, the predicates and
-- the actions, one behind another. A lemma for each says what is still to come behind it.
use native.Mathlib.Omega.{arith}
use Prim.Native.Nat.{ℕ}
use mathlib.Core.List.{List, [], ◌∷◌, ◌++◌}
use Rattle.words.specs.Lists.{up_to, concat_map}
use Rattle.words.proofs.Puts.{Going, going_start, going-left, going-room, going_on, byte-room, last-room, going-last}
use Rattle.task.specs.Layout.{head_in}
use Rattle.task.specs.Table.{task_of}
use Rattle.text.specs.Lines.{bytes, newline}
use Rattle.defines.specs.Pddl.{domain_text}
use Rattle.defines.specs.ByWords.{needs_in, predicate_in, action_in}
use Rattle.defines.proofs.DefinesIn.{domain-in}
use borrow.Author.Rules.{rules}
use Rattle.defines.proofs.writer.put_domain.Statement.{statement}
use Rattle.defines.proofs.writer.put_domain.Tie as tie

abbrev opened : List ℕ
opened = bytes "(define (domain d)"

abbrev required : tie.Start → List ℕ
required c = needs_in (head_in c.args.table.now).pairs

abbrev key : List ℕ
key = bytes " (:predicates"

abbrev predicates : tie.Start → List ℕ
predicates c = concat_map (predicate_in c.args.table.now) (up_to (head_in c.args.table.now).predicates)

abbrev actions : tie.Start → List ℕ
actions c = concat_map (action_in c.args.table.now) (up_to (head_in c.args.table.now).schemas)

-- what comes from each place on
abbrev from-bracket : tie.Start → List ℕ
from-bracket c = bytes ")" ++ (actions c ++ bytes ")\n")

abbrev from_key : tie.Start → List ℕ
from_key c = key ++ (predicates c ++ from-bracket c)

-- what is still to come of the domain, in a text and from a place on
abbrev Left : tie.Start → List ℕ → List ℕ → ℕ → Type 0
Left c left text next =
    Going c.args.text.now 0 (domain_text (task_of c.args.table.now) ++ (newline ∷ [])) left text next

begin : (c : tie.Start) → Left c (opened ++ (required c ++ from_key c)) c.args.text.now 0
begin c =
    let r = c.requires.1 in
    going-left (domain-in c.args.table.now c.requires.0) (going_start (omega arith))

abbrev start : tie.After-slice_known-2-1 → tie.Start
start c = c.before.before.before.before.before.before.before.before

put-bytes-requires : tie.Need-put_bytes-at_needs-requires
unfolding bytes
put-bytes-requires c κs =
    let start = c in
    let r = going-room opened (required start.before.before.before.before.before ++ from_key start.before.before.before.before.before) (begin start.before.before.before.before.before) in
    omega arith

behind-opened : (c : tie.After-slice_known-2-1) →
    Left (start c) (required (start c) ++ from_key (start c))
    c.put_bytes-at_needs.new.text c.put_bytes-at_needs.result
unfolding bytes
behind-opened c = going_on {ys = opened} (begin (start c)) c.put_bytes-at_needs.ensures

put-needs-requires : tie.Need-put_needs-at_key-requires
put-needs-requires c κs =
    let start = start c.before in
    (start.requires.0, going-room (required start) (from_key start) (behind-opened c.before))

abbrev begun : tie.After-slice_known-3-1 → tie.After-slice_known-2-1
begun c = c.before.before.before.before

behind-needs : (c : tie.After-slice_known-3-1) →
    Left (start (begun c)) (from_key (start (begun c)))
    c.put_needs-at_key.new.text c.put_needs-at_key.result
behind-needs c = going_on (behind-opened (begun c)) c.put_needs-at_key.ensures

put-bytes-requires-2 : tie.Need-put_bytes-at_predicates-requires
unfolding bytes
put-bytes-requires-2 c κs =
    let start = start (begun c.before.before.before) in
    going-room key (predicates start ++ from-bracket start) (behind-needs c.before.before.before)

abbrev needed : tie.After-slice_known-4-1 → tie.After-slice_known-3-1
needed c = c.before.before.before.before.before.before

abbrev entry : tie.After-slice_known-4-1 → tie.Start
entry c = start (begun (needed c))

behind-key : (c : tie.After-slice_known-4-1) →
    Left (entry c) (predicates (entry c) ++ from-bracket (entry c))
    c.put_bytes-at_predicates.new.text c.put_bytes-at_predicates.result
unfolding bytes
behind-key c = going_on {ys = key} (behind-needs (needed c)) c.put_bytes-at_predicates.ensures

put-predicates-requires : tie.Need-put_predicates-at_bracket-requires
put-predicates-requires c κs =
    let start = entry c.before in
    (start.requires.0, going-room (predicates start) (from-bracket start) (behind-key c.before))

abbrev named : tie.After-slice_known-5-1 → tie.After-slice_known-4-1
named c = c.before.before.before.before

behind-predicates : (c : tie.After-slice_known-5-1) →
    Left (entry (named c)) (from-bracket (entry (named c)))
    c.put_predicates-at_bracket.new.text c.put_predicates-at_bracket.result
behind-predicates c = going_on (behind-key (named c)) c.put_predicates-at_bracket.ensures

abbrev listed : tie.After-slice_known-6-1 → tie.After-slice_known-5-1
listed c = c.before.before.before.before

behind-bracket : (c : tie.After-slice_known-6-1) →
    Left (entry (named (listed c))) (actions (entry (named (listed c))) ++ bytes ")\n")
    c.put_byte-at_actions.new.text c.put_byte-at_actions.result
unfolding bytes
behind-bracket c = going_on {ys = bytes ")"} (behind-predicates (listed c)) c.put_byte-at_actions.ensures

abbrev closed : tie.After-slice_known-7-1 → tie.After-slice_known-6-1
closed c = c.before.before.before.before

behind-actions : (c : tie.After-slice_known-7-1) →
    Left (entry (named (listed (closed c)))) (bytes ")\n")
    c.put_actions-facts.new.text c.put_actions-facts.result.at
behind-actions c = going_on (behind-bracket (closed c)) c.put_actions-facts.ensures.1

put-byte-requires : tie.Need-put_byte-at_actions-requires
unfolding bytes
put-byte-requires c κs = byte-room _ _ (behind-predicates c.before)

put-actions-requires : tie.Need-put_actions-facts-requires
put-actions-requires c κs =
    let start = entry (named (listed c.before)) in
    (start.requires.0, going-room (actions start) (bytes ")\n") (behind-bracket c.before))

put-bytes-requires-3 : tie.Need-put_bytes-behind-requires
unfolding bytes
put-bytes-requires-3 c κs = last-room (behind-actions c.before.before.before)

returns : tie.Need-returns
unfolding bytes
returns c =
    let put = c in
    let text = going-last (behind-actions put.before.before.before.before.before.before) c.put_bytes-behind.ensures in
    (put.put_actions-facts.ensures.0, text)

pub put_domain_spec : {M : Type 1} → statement M
put_domain_spec =
    tie.close
    (tie.spec put-bytes-requires put-needs-requires put-bytes-requires-2 put-predicates-requires put-byte-requires
    put-actions-requires put-bytes-requires-3 (λ c. search rules) returns)
