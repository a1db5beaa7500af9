use Prim.Native.Nat.{ℕ}
use mathlib.Core.Path.{◌∙◌, ap}
use native.Mathlib.Omega.{arith}
use lib.ListN.{get_or}
use Rattle.blocks.specs.FoldCode.{begun_word}
use Rattle.blocks.proofs.Beginning.{begun_read, begun_none}
use Rattle.blocks.proofs.folding.begun_at.Goals as goal

-- behind the array all words are 0
pub returns-in_err-begun : goal.returns-in_err-begun
returns-in_err-begun c =
    ap begun_word c.from_residual.ensures ∙
    (begun_none ∙
    (c.in_err-begun.ensures.lookup.4 (omega arith) 0 ∙ ap (λ (k : ℕ). get_or c.args.begins.now k 0) c.schema_at.ensures))

pub returns : goal.returns
returns c =
    begun_read _ _ c.checked_sub.ensures ∙
    (c.wide.ensures ∙
    (c.in_ok-begun.ensures.lookup.3.1 0 ∙ ap (λ (k : ℕ). get_or c.args.begins.now k 0) c.schema_at.ensures))
