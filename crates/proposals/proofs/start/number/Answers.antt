-- `proposals::start::number` meets its contract: each store puts one number more.
use Rattle.std.proofs.Common.{ℕ, ◌≡◌, ◌-◌, List, slice_set, ap, ◌∙◌, arith}
use Rattle.words.specs.Lists.{put, up_to}
use Rattle.proposals.proofs.StartWords.{numbers-none, numbers_more}
use Rattle.proposals.proofs.start.number.Goals as goal

pub loop-i-init : goal.loop-i-init
loop-i-init c = numbers-none c.args.parts.now c.args.from

pub loop-i-preserved : goal.loop-i-preserved
loop-i-preserved c =
    ap (λ (w : List ℕ). slice_set w c.loop-i.i (c.loop-i.i - c.args.from)) c.loop-i.invariant ∙
    numbers_more c.args.parts.now c.args.from c.loop-i.i c.loop-i.auto.i

pub returns : goal.returns
returns c =
    let e : c.loop-i.i ≡ c.args.to = omega arith in
    c.loop-i.invariant ∙ ap (λ (n : ℕ). put c.args.parts.now c.args.from (up_to (n - c.args.from))) e
