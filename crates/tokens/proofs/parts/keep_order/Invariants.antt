-- The first j positions are kept.
use Rattle.std.proofs.Common.{◌≡◌, length}
use Rattle.tokens.specs.Kept.{kept_words}
use Rattle.tokens.specs.Acceptance.{OrderKept}
use Rattle.tokens.proofs.parts.keep_order.Given as goal

abbrev pub invariant-loop-j : goal.invariant-loop-j
invariant-loop-j l =
    (length l.kept ≡ kept_words) × OrderKept l.fn.from l.j l.fn.order.parts l.fn.named l.fn.kept l.kept
