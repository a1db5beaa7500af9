-- `proposals::scratch::clear` meets its contract: what is filled and what is left are the scratch cleared.
use Rattle.std.proofs.Common.{refl, sym, arith}
use Rattle.std.proofs.lemmas.List.{length-take-le}
use Rattle.proposals.specs.Outcome.{scratch_words}
use Rattle.proposals.proofs.ClearedScratch.{filled}
use Rattle.proposals.proofs.scratch.clear.Goals as goal

pub slice_bounds-fill-end : goal.slice_bounds-fill-end
unfolding scratch_words
slice_bounds-fill-end c = omega arith

pub slice_bounds-fill-end-2 : goal.slice_bounds-fill-end-2
unfolding scratch_words
slice_bounds-fill-end-2 c = sym (length-take-le _ c.args.scratch.now (omega arith))

pub returns : goal.returns
unfolding scratch_words
returns c = filled c.args.scratch.now _ refl (omega arith) (c.fill.ensures.after (λ y e. e))
