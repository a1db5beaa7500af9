-- `defines::pairs::needs_size` meets its contract, by whether there is a pair.
use native.Mathlib.Omega.{arith}
use mathlib.Core.Path.{sym, ◌∙◌, ap}
use lib.ListN.{length}
use Rattle.task.proofs.TableReads.{counts-inside}
use Rattle.text.specs.Lines.{bytes}
use Rattle.defines.proofs.PairItems.{needs-none, needs-some}
use Rattle.defines.proofs.pairs.needs_size.Statement.{statement}
use Rattle.defines.proofs.pairs.needs_size.Tie as tie

returns : tie.Need-returns-then-word-eq0
returns c = sym (ap length (needs-none _ (sym c.word.ensures.0 ∙ c.if-word-eq0.true)))

returns-2 : tie.Need-returns
unfolding bytes
returns-2 c = sym (ap length (needs-some _ (λ none. c.if-word-eq0.false (c.word.ensures.0 ∙ none))))

pub needs_size_spec : {M : Type 1} → statement M
needs_size_spec = tie.close (tie.spec (λ c κs. omega (arith, counts-inside _ c.requires)) returns returns-2)
