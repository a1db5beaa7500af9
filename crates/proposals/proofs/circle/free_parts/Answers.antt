-- `proposals::circle::free_parts` meets its contract: each of the others is tested by its own word, and a and b join
-- where they are free together.
use Rattle.std.proofs.Common.{ℕ, ◌≡◌, ◌∙◌, ap, Bool, ◌&&◌, not, List, rules}
use Rattle.words.specs.Lists.{any, up_to}
use Rattle.words.specs.Sets.{member, set_bits}
use Rattle.proposals.specs.Scratch.{arcs_in, arcs_to, is_free}
use Rattle.proposals.proofs.SharedArcs.{free-without, free-with}
use Rattle.proposals.proofs.Those.{those-are}
use Rattle.proposals.proofs.circle.free_parts.Goals as goal
use Rattle.proposals.proofs.circle.free_parts.Goals.{After-meet}

-- what the test by a word says
by-word : (scratch : List ℕ) (unplaced p : ℕ) {free met : Bool} {word : ℕ} → free ≡ not met →
    met ≡ any (λ q. member word q && member unplaced q) (up_to set_bits) → word ≡ arcs_to scratch p →
    free ≡ is_free (arcs_in scratch) unplaced p
by-word scratch unplaced p e f g =
    e ∙ ap not (f ∙ ap (λ (w : ℕ). any (λ q. member w q && member unplaced q) (up_to set_bits)) g)

-- the others that are free
chosen : (c : After-meet) (p : ℕ) →
    member c.those-free.result p ≡
    member c.without-others.result p && is_free (arcs_in c.args.scratch.now) c.args.unplaced p
chosen c = those-are _ _ _ c.those-free.ensures.within (λ p m.
    let t = c.those-free.ensures.tested p m in search (rules, by-word))

pub returns-then-meet : goal.returns-then-meet
returns-then-meet c =
    free-without c.args.a c.args.b c.args.joined c.args.scratch.now c.args.unplaced c.without.result
    c.without-others.result _ c.without.ensures c.without-others.ensures
    (chosen (goal.at.returns-then-meet c).After-meet) c.meet.ensures c.if-meet.true

pub returns : goal.returns
returns c =
    free-with c.args.a c.args.b c.args.joined c.args.scratch.now c.args.unplaced c.without.result
    c.without-others.result _ c.without.ensures c.without-others.ensures
    (chosen (goal.at.returns c).After-meet) c.meet.ensures c.if-meet.false _ _ c.minus.ensures c.union.ensures
