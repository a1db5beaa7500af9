-- `defines::atoms::put_atom` meets its contract: ` (p`, predicate, arguments and `)` are put one behind another. A
-- lemma for each says what is still to come behind it.
use native.Mathlib.Omega.{arith}
use Prim.Native.Nat.{ℕ, ◌+◌}
use mathlib.Core.Path.{◌≡◌, ◌∙◌, ap}
use mathlib.Core.List.{List, [], ◌∷◌, ◌++◌}
use lib.ListN.{length}
use Rattle.words.specs.Words.{words_at}
use Rattle.words.proofs.Puts.{puts-same, Going, going_start, going-left, going-room, going_on, going-last, byte-room}
use Rattle.task.specs.Layout.{arity_in}
use Rattle.text.specs.Lines.{bytes, digits}
use Rattle.defines.specs.Pddl.{closing}
use Rattle.defines.specs.ByWords.{marked, formula_at}
use Rattle.defines.proofs.Formulas.{pred_at, args_at, formula_at-pieces}
use borrow.Author.Rules.{rules}
use Rattle.defines.proofs.atoms.put_atom.Statement.{statement}
use Rattle.defines.proofs.atoms.put_atom.Tie as tie

abbrev predicate : tie.Start → List ℕ
predicate c = digits (pred_at c.args.table.now c.args.base)

abbrev arguments : tie.Start → List ℕ
arguments c = marked c.args.mark.now (args_at c.args.table.now c.args.base)

-- what is still to come of the atom, in a text and from a place on
abbrev Left : tie.Start → List ℕ → List ℕ → ℕ → Type 0
Left c left text next =
    Going c.args.text.now c.args.at (formula_at c.args.mark.now c.args.table.now c.args.base) left
    text next

begin : (c : tie.Start) →
    Left c (bytes " (p" ++ (predicate c ++ (arguments c ++ (closing ∷ [])))) c.args.text.now c.args.at
begin c =
    going-left (formula_at-pieces c.args.table.now c.args.base c.args.mark.now) (going_start c.requires.1)

-- the number of arguments is the arity of the atom's predicate
abbrev start : tie.After-arity_of-arity → tie.Start
start c = c.before.before.before.before.before.before

arity-read : (c : tie.After-arity_of-arity) →
    let w = (start c).args.table.now in
    c.arity_of-arity.result ≡ arity_in w (pred_at w (start c).args.base)
arity-read c =
    c.arity_of-arity.ensures ∙ ap (arity_in (start c).args.table.now)
    (c.wide.ensures ∙ c.predicate_at-predicate.ensures.0)

abbrev arity : tie.After-slice_known-2-1 → tie.After-arity_of-arity
arity c = c.before.before.before.before.before.before

behind-opening : (c : tie.After-slice_known-2-1) →
    Left (start (arity c)) (predicate (start (arity c)) ++ (arguments (start (arity c)) ++ (closing ∷ [])))
    c.put_bytes-at_number.new.text c.put_bytes-at_number.result
unfolding bytes
behind-opening c = going_on {ys = bytes " (p"} (begin (start (arity c))) c.put_bytes-at_number.ensures

abbrev opened : tie.After-slice_known-3-1 → tie.After-slice_known-2-1
opened c = c.before.before.before.before

behind-predicate : (c : tie.After-slice_known-3-1) →
    Left (start (arity (opened c))) (arguments (start (arity (opened c))) ++ (closing ∷ []))
    c.put_number-at_arguments.new.text c.put_number-at_arguments.result
behind-predicate c =
    going_on (behind-opening (opened c))
    (puts-same (ap digits (arity (opened c)).before.before.predicate_at-predicate.ensures.0)
    c.put_number-at_arguments.ensures)

abbrev numbered : tie.After-slice_known-4-1 → tie.After-slice_known-3-1
numbered c = c.before.before.before.before

-- the words that are read as arguments
abbrev read : tie.Start → ℕ → List ℕ
read c n = marked c.args.mark.now (words_at c.args.table.now (c.args.base + 4) n)

behind-arguments : (c : tie.After-slice_known-4-1) →
    Left (start (arity (opened (numbered c)))) (closing ∷ []) c.put_words-at_end.new.text
    c.put_words-at_end.result
behind-arguments c =
    let at-arity = arity (opened (numbered c)) in
    going_on (behind-predicate (numbered c))
    (puts-same (ap (read (start at-arity)) (arity-read at-arity)) c.put_words-at_end.ensures)

put-bytes-requires : tie.Need-put_bytes-at_number-requires
unfolding bytes
put-bytes-requires c κs =
    let start = start c.before.before.before in
    going-room (bytes " (p") (predicate start ++ (arguments start ++ (closing ∷ []))) (begin start)

put-number-requires : tie.Need-put_number-at_arguments-requires
put-number-requires c κs =
    let at-arity = arity c.before in
    let start = start at-arity in
    let r = going-room (predicate start) (arguments start ++ (closing ∷ [])) (behind-opening c.before) in
    omega (arith, ap (λ (p : ℕ). length (digits p)) at-arity.predicate_at-predicate.ensures.0)

put-words-requires : tie.Need-put_words-at_end-requires
put-words-requires c κs =
    let at-arity = arity (opened c.before) in
    let start = start at-arity in
    let e = arity-read at-arity in
    let inside = start.requires.0 in
    let r = going-room (arguments start) (closing ∷ []) (behind-predicate c.before) in
    let l = ap (λ (n : ℕ). length (read start n)) e in
    (omega arith, omega arith)

put-byte-requires : tie.Need-put_byte-requires
put-byte-requires c κs = byte-room closing [] (behind-arguments c.before)

returns : tie.Need-returns
returns c = going-last (behind-arguments c.before.before.before.before) c.put_byte.ensures

pub put_atom_spec : {M : Type 1} → statement M
put_atom_spec =
    tie.close
    (tie.spec (λ c κs. search rules) (λ c κs. search rules) (λ c κs. search rules) put-bytes-requires
    put-number-requires (λ c. search rules) put-words-requires put-byte-requires (λ c. search rules) returns)
