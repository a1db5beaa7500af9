-- `defines::atoms::put_delete` meets its contract: ` (not`, the atom and `)` are put one behind another. A lemma for
-- each says what is still to come behind it.
use Prim.Native.Nat.{ℕ}
use mathlib.Core.List.{List, [], ◌∷◌, ◌++◌}
use Rattle.words.proofs.Puts.{Going, going_start, going-left, going-room, going_on, going-last, byte-room}
use Rattle.task.specs.Task.{deletion}
use Rattle.text.specs.Lines.{bytes}
use Rattle.defines.specs.Pddl.{closing}
use Rattle.defines.specs.ByWords.{formula_at, item_at}
use Rattle.defines.proofs.Formulas.{item-delete}
use borrow.Author.Rules.{rules}
use Rattle.defines.proofs.atoms.put_delete.Statement.{statement}
use Rattle.defines.proofs.atoms.put_delete.Tie as tie

abbrev atom : tie.Start → List ℕ
atom c = formula_at (bytes " ?x") c.args.table.now c.args.base

-- what is still to come of the delete, in a text and from a place on
abbrev Left : tie.Start → List ℕ → List ℕ → ℕ → Type 0
Left c left text next =
    Going c.args.text.now c.args.at (item_at deletion c.args.table.now c.args.base) left text next

begin : (c : tie.Start) → Left c (bytes " (not" ++ (atom c ++ (closing ∷ []))) c.args.text.now c.args.at
begin c = going-left (item-delete c.args.table.now c.args.base) (going_start c.requires.1)

abbrev start : tie.After-slice_known-2-1 → tie.Start
start c = c.before.before.before.before.before.before.before.before

behind-not : (c : tie.After-slice_known-2-1) →
    Left (start c) (atom (start c) ++ (closing ∷ [])) c.put_bytes-at_atom.new.text
    c.put_bytes-at_atom.result
unfolding bytes
behind-not c = going_on {ys = bytes " (not"} (begin (start c)) c.put_bytes-at_atom.ensures

abbrev opened : tie.After-slice_known-3-1 → tie.After-slice_known-2-1
opened c = c.before.before.before.before.before.before

behind-atom : (c : tie.After-slice_known-3-1) →
    Left (start (opened c)) (closing ∷ []) c.put_atom-at_end.new.text c.put_atom-at_end.result
unfolding bytes
behind-atom c = going_on (behind-not (opened c)) c.put_atom-at_end.ensures

put-bytes-requires : tie.Need-put_bytes-at_atom-requires
unfolding bytes
put-bytes-requires c κs =
    let start = c in
    going-room (bytes " (not") (atom start.before.before.before.before.before ++ (closing ∷ [])) (begin start.before.before.before.before.before)

put-atom-requires : tie.Need-put_atom-at_end-requires
unfolding bytes
put-atom-requires c κs =
    let put = c in
    ((start put.before.before.before).requires.0, going-room (atom (start put.before.before.before)) (closing ∷ []) (behind-not put.before.before.before))

put-byte-requires : tie.Need-put_byte-requires
put-byte-requires c κs = byte-room closing [] (behind-atom c.before)

returns : tie.Need-returns
returns c = going-last (behind-atom c.before.before.before.before) c.put_byte.ensures

pub put_delete_spec : {M : Type 1} → statement M
put_delete_spec =
    tie.close
    (tie.spec put-bytes-requires put-atom-requires put-byte-requires (λ c. search rules) returns)
