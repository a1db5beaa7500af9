-- `tokens::writing::facts` meets its contract: the runs of the two calls make one. The old atoms are put as they stand
-- in the table, and procnone behind them; an atom takes eight words.
use Rattle.tokens.proofs.writing.facts.Tie as tie
use Prim.Native.Nat.{◌*◌, ℕ}
use mathlib.Core.Path.{refl, sym, ap}
use native.Mathlib.Omega.{arith}
use borrow.Author.Rules.{rules}
use Rattle.words.proofs.Words.{length-words_at}
use Rattle.words.proofs.Puts.{puts_then, puts-length, puts-is}
use Rattle.tokens.proofs.writing.facts.Statement.{statement}
use mathlib.Core.List.{[]}
use Rattle.task.specs.Limits.{atom_size}
use Rattle.task.specs.Table.{atom_words}
use Rattle.tokens.specs.Split.{token}

-- the places, one from the next
abbrev begun : tie.After-copy-old → tie.Start
begun c = c.before.before.before.before

abbrev copied : tie.After-word_at → tie.After-copy-old
copied c = c.before.before.before

abbrev named : tie.After-bare_token → tie.After-word_at
named c = c.before.before

mul-copy : tie.Need-overflow_mul-count
mul-copy c = omega (arith, c.requires.1.0)

copy-requires : tie.Need-copy-old-requires
copy-requires c κs = let s = c in (omega (arith, s.requires.1.0), omega (arith, s.requires.1.1))

word-at-requires : tie.Need-word_at-requires
word-at-requires c κs = omega (arith, (begun c.before.before).requires.0)

bare-token-requires : tie.Need-bare_token-requires
bare-token-requires c κs =
    let s = begun (copied c.before) in
    let f = (copied c.before).copy-old.ensures in
    let n = length-words_at s.args.table.now s.args.from (atom_size * s.args.count) in
    omega (arith, s.requires.1.1, f.place, puts-length f)

returns : tie.Need-returns
returns c =
    let a = (begun (copied (named c.before.before))).args in
    let f = (copied (named c.before.before)).copy-old.ensures in
    let g = c.bare_token.ensures in
    let e = sym (named c.before.before).word_at.ensures in
    let n = length-words_at a.table.now a.from (atom_size * a.count) in (
      puts_then f (puts-is g.0 refl refl _ (ap (λ (p : ℕ). atom_words 0 (token a.role p [])) e)) _ refl,
      omega (arith, f.place, g.1),
    )

pub facts_spec : {M : Type 1} → statement M
facts_spec =
    tie.close
    (tie.spec mul-copy copy-requires word-at-requires bare-token-requires (λ c. search rules) returns)
