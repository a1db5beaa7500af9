-- `blocks::folding::agree` meets its contract. The invariant: the whole test is what is left of it from parameter k on.
-- The measure is the parameters left.
use Rattle.blocks.proofs.folding.agree.Tie as tie
use Prim.Native.Nat.{◌-◌}
use mathlib.Core.Path.{◌≡◌, refl, sym, ◌∙◌, ap₂}
use native.Mathlib.Omega.{arith}
use lib.Dec.{eqb}
use borrow.Author.Tests.{eq-eqb, ne_eqb}
use Rattle.words.specs.Lists.{all, up_to}
use Rattle.words.proofs.Loops.{AllLeft, all-up-to, all_more, all-fails, all-ends}
use Rattle.blocks.specs.FoldCode.{agrees_at}
use Rattle.blocks.proofs.folding.agree.Statement.{statement}

abbrev invariant-loop-k : tie.invariant-loop-k
invariant-loop-k steps places begin at number params k₀ k =
    AllLeft (agrees_at steps places begin at number) params (all (agrees_at steps places begin at number) (up_to params)) k

abbrev decreases-loop-k : tie.decreases-loop-k
decreases-loop-k steps places begin at number params k₀ k = params - k

loop-holds : tie.Need-loop-k-init invariant-loop-k decreases-loop-k
loop-holds c = all-up-to refl

object-in-requires : tie.Need-object_in-first-requires invariant-loop-k decreases-loop-k
object-in-requires c κs =
    let l = c.loop-k-test.true in
    let pre = c.requires in
    ((pre.1.0.0, omega arith), pre.1.1 _ l)

-- whether parameter k agrees, as it is tested
tested : (c : tie.After-object_in-first invariant-loop-k decreases-loop-k) → let l = c in
    let a = l.args in
    agrees_at a.steps.now a.places.now a.begin a.at a.number l.loop-k.k ≡
    eqb c.object_of-given.result.0 c.object_in-first.result.0
tested c = sym (ap₂ eqb c.object_of-given.ensures c.object_in-first.ensures)

returns : tie.Need-returns-then-given-first invariant-loop-k decreases-loop-k
returns c =
    let d = c in
    all-fails d.loop-k.invariant d.loop-k-test.true
    (tested d.before.before.before ∙ ne_eqb _ _ c.if-given-first.true)

loop-again : tie.Need-loop-k-preserved invariant-loop-k decreases-loop-k
loop-again c =
    let d = c in
    all_more d.loop-k.invariant d.loop-k-test.true
    (tested d.before.before.before ∙ eq-eqb _ _ c.if-given-first.false)

returns-2 : tie.Need-returns invariant-loop-k decreases-loop-k
returns-2 c = search all-ends

pub agree_spec : {M : Type 1} → statement M
agree_spec =
    tie.close
    (tie.spec invariant-loop-k decreases-loop-k loop-holds (λ c κs. omega arith) object-in-requires returns (λ c. omega arith)
    (λ c. omega arith) loop-again returns-2)
