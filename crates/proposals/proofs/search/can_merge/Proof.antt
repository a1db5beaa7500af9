-- `proposals::search::can_merge` meets its contract: the union of the two words has the parameters of both parts, so
-- its size is how many they have together; and the test for a circle says whether some order still complies.
use Prim.Native.Nat.{ℕ}
use mathlib.Core.Path.{◌≡◌, ◌∙◌, ap₂}
use mathlib.Core.Bool.{◌||◌}
use native.Mathlib.Omega.{arith}
use borrow.Author.Rules.{rules}
use Rattle.words.specs.Sets.{member}
use Rattle.proposals.specs.Scratch.{parameters_to}
use Rattle.proposals.proofs.InPlay.{in-play-no-own}
use Rattle.proposals.proofs.PairTests.{too_wide, narrow}
use Rattle.proposals.proofs.search.can_merge.Statement.{statement}
use Rattle.proposals.proofs.search.can_merge.Tie as tie

abbrev start : tie.After-union → tie.Start
start c = c.before.before.before.before

both : (c : tie.After-union) (x : ℕ) →
    let a = (start c).args in
    member c.union.result x ≡
    member (parameters_to a.scratch.now a.a) x || member (parameters_to a.scratch.now a.b) x
both c x =
    c.union.ensures x
    ∙ ap₂ (λ (y z : ℕ). member y x || member z x) c.parameters_to.ensures
    c.parameters_to-2.ensures

returns : tie.Need-returns-then-width-size
returns c s ps known play =
    let at-union = c in
    let pre = (start at-union.before.before).requires.1 in
    too_wide _ known play _ _ pre.1 pre.2 _ (both at-union.before.before) (omega arith)

returns-2 : tie.Need-returns
returns-2 c s ps known play =
    let at-union = c in
    let pre = (start at-union.before.before.before).requires.1 in
    c.no_circle.ensures (in-play-no-own play) ∙
    narrow _ known play _ _ pre.1 pre.2 _ (both at-union.before.before.before) (omega arith)

pub can_merge_spec : {M : Type 1} → statement M
can_merge_spec =
    tie.close
    (tie.spec (λ c κs. search rules) (λ c κs. search rules) (λ c κs. search rules) (λ c κs. search rules) returns
    (λ c κs. search rules) returns-2)
