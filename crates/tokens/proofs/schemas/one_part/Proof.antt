-- `tokens::schemas::one_part` meets its contract: the words put for its place and its tokens are those of its schema in
-- the split.
use Rattle.tokens.proofs.schemas.one_part.Tie as tie
use Prim.Native.Nat.{ℕ}
use mathlib.Core.Path.{refl, sym, ◌∙◌, ap}
use native.Mathlib.Omega.{arith}
use borrow.Author.Rules.{rules}
use Rattle.task.specs.Table.{task_of, atom_words}
use Rattle.tokens.specs.Split.{orders, split_schema}
use Rattle.words.proofs.Puts.{puts-is}
use Rattle.tokens.proofs.Splitting.{words_of}
use Rattle.tokens.proofs.schemas.one_part.Statement.{statement}
use Rattle.words.specs.Lists.{concat_map}

-- the places, one from the next
abbrev begun : tie.After-place_of-here → tie.Start
begun c = c.before.before.before

abbrev placed : tie.After-part_atoms → tie.After-place_of-here
placed c = c.before.before.before

place-of-requires : tie.Need-place_of-here-requires
place-of-requires c κs = let p = c.requires in (p.0, (p.1.0, p.1.1.0))

tokens-of-requires : tie.Need-tokens_of-tokens-requires
tokens-of-requires c κs =
    let s = begun c in
    ((s.args.sizes, s.requires.0), (s.requires.1.0, s.requires.1.1.0))

part-atoms-requires : tie.Need-part_atoms-requires
part-atoms-requires c κs =
    let p = c.place_of-here.ensures.0 in
    let m = (begun c.before.before).requires.1.1.1 in
    let u = p.short in
    let v = p.few in
    (p.roles, (p.few, (p.low, omega arith)))

returns : tie.Need-returns
returns c =
    let st = begun (placed c.before.before) in
    let a = st.args in
    let t = task_of a.table.now in
    let here = (placed c.before.before).place_of-here in
    let tokens = c.tokens_of-tokens in
    let atoms = (split_schema t a.s (orders t a.s) a.j).atoms in
    puts-is c.part_atoms.ensures refl refl _
    (sym (words_of st.requires.0 a.s st.requires.1.0 a.j st.requires.1.1.0 here.result here.ensures.0
    tokens.result tokens.ensures ∙ ap (λ (n : ℕ). concat_map (atom_words n) atoms) here.ensures.1))

pub one_part_spec : {M : Type 1} → statement M
one_part_spec =
    tie.close
    (tie.spec place-of-requires tokens-of-requires part-atoms-requires (λ c. search rules) returns)
