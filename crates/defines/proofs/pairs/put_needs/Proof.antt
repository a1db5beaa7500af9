-- `defines::pairs::put_needs` meets its contract: nothing is put where there is no pair, else the fixed bytes.
use native.Mathlib.Omega.{arith}
use mathlib.Core.Path.{◌≡◌, sym, ◌∙◌, ap}
use lib.ListN.{length}
use Rattle.words.proofs.Puts.{puts_none, puts-same}
use Rattle.task.specs.Layout.{head_in}
use Rattle.task.proofs.TableReads.{counts-inside}
use Rattle.text.specs.Lines.{bytes}
use Rattle.defines.specs.ByWords.{needs_in}
use Rattle.defines.proofs.PairItems.{needs-none, needs-some}
use borrow.Author.Rules.{rules}
use Rattle.defines.proofs.pairs.put_needs.Statement.{statement}
use Rattle.defines.proofs.pairs.put_needs.Tie as tie

returns : tie.Need-returns-then-word-eq0
returns c =
    let start = c in
    puts-same (sym (needs-none _ (sym c.word.ensures.0 ∙ c.if-word-eq0.true)))
    (puts_none start.args.text.now start.args.at)

-- what is to be put
needed : (c : tie.Else-word-eq0) →
    needs_in (head_in c.args.table.now).pairs ≡
    bytes " (:requirements :strips :equality :negative-preconditions)"
needed c = needs-some _ (λ none. c.if-word-eq0.false (c.word.ensures.0 ∙ none))

put-bytes-requires : tie.Need-put_bytes-requires
unfolding bytes
put-bytes-requires c κs =
    let e = ap length (needed c.before.before.before) in
    let room = c.requires.1 in
    omega arith

returns-2 : tie.Need-returns
unfolding bytes
returns-2 c =
    puts-same (sym (needed c.before.before.before.before.before.before)) c.put_bytes.ensures

pub put_needs_spec : {M : Type 1} → statement M
put_needs_spec =
    tie.close
    (tie.spec (λ c κs. omega (arith, counts-inside _ c.requires.0)) returns put-bytes-requires (λ c.
    search rules) returns-2)
