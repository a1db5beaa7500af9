-- `proposals::circle::no_circle` meets its contract.
-- The invariant: whether the unplaced parts can be placed is the whole question, and those known to be free are so
-- (`Placing`). The lowest of them is placed, and where none is left they are looked for anew. Where none is found the
-- unplaced parts tell the answer; it is that of the merged ones (`shared-circle`). The measure is the unplaced parts.
use Prim.Native.Nat.{◌^◌, ◌≤◌, ◌<◌}
use mathlib.Core.Path.{◌∙◌}
use native.Mathlib.Omega.{arith}
use lib.ListN.{length}
use Rattle.words.specs.Sets.{members, set_bits}
use Rattle.words.proofs.SetLoops.{fewer-left}
use Rattle.proposals.specs.Circle.{Arcs}
use Rattle.proposals.specs.Scratch.{arcs_in, shared_in}
use Rattle.proposals.proofs.SharedArcs.{words-share, shared-circle}
use Rattle.proposals.proofs.Placing.{Left, Placing, left-all, left-fewer, placing-found, placing-on}
use Rattle.proposals.proofs.Placing.{placing-ends}
use Rattle.proposals.proofs.circle.no_circle.Statement.{statement}
use Rattle.proposals.proofs.circle.no_circle.Tie as tie

abbrev invariant-loop-free : tie.invariant-loop-free
invariant-loop-free scratch n a b joined unplaced₀ free₀ unplaced free =
    (unplaced < 2 ^ set_bits) × Placing (shared_in a b joined scratch) n unplaced free

abbrev decreases-loop-free : tie.decreases-loop-free
decreases-loop-free scratch n a b joined unplaced₀ free₀ unplaced free = length (members unplaced set_bits)

arcs-to-both-requires : tie.Need-arcs_to_both-joined-requires invariant-loop-free decreases-loop-free
arcs-to-both-requires c κs = (c.requires.0, (omega arith, omega arith))

-- at first all are left
all-left : (c : tie.After-up_to-unplaced invariant-loop-free decreases-loop-free) →
    let a = c.args in
    Left (shared_in a.a a.b c.arcs_to_both-joined.result a.scratch.now) a.n c.up_to-unplaced.result
all-left c = left-all _ _ c.up_to-unplaced.result c.up_to-unplaced.ensures

free-parts-requires : tie.Need-free_parts-free-requires invariant-loop-free decreases-loop-free
free-parts-requires c κs = (c.requires.0, (omega arith, omega arith))

loop-holds : tie.Need-loop-free-init invariant-loop-free decreases-loop-free
loop-holds c = (c.up_to-unplaced.type_inv, placing-found _ _ (all-left c.before) _ c.free_parts-free.ensures)

lowest-requires : tie.Need-lowest-p-requires invariant-loop-free decreases-loop-free
lowest-requires c κs = omega (arith, c.loop-free-test.true)

without-requires : tie.Need-without-unplaced-requires invariant-loop-free decreases-loop-free
without-requires c κs = c.lowest-p.ensures.below

-- a turn, once its part is placed
abbrev Placed : Type 0
Placed = tie.After-without_lowest-free invariant-loop-free decreases-loop-free

abbrev turn : Placed → tie.At-loop-free invariant-loop-free decreases-loop-free
turn c = c.before.before.before.before

abbrev found : tie.At-loop-free invariant-loop-free decreases-loop-free → tie.After-arcs_to_both-joined invariant-loop-free decreases-loop-free
found l = l.before.before.before

abbrev start : tie.At-loop-free invariant-loop-free decreases-loop-free → tie.Start invariant-loop-free decreases-loop-free
start l = (found l).before.before

few : (l : tie.At-loop-free invariant-loop-free decreases-loop-free) → (start l).args.n ≤ set_bits
few l = (start l).requires.1.0

abbrev arcs : tie.At-loop-free invariant-loop-free decreases-loop-free → Arcs
arcs l = shared_in (start l).args.a (start l).args.b (found l).arcs_to_both-joined.result (start l).args.scratch.now

left : (c : Placed) → Left (arcs (turn c)) (start (turn c)).args.n c.without-unplaced.result
left c =
    left-fewer _ _ (turn c).loop-free.invariant.1 c.lowest-p.ensures _ c.without-unplaced.ensures
    (few (turn c))

free-parts-requires-2 : tie.Need-free_parts-free-requires-then-free-eq0 invariant-loop-free decreases-loop-free
free-parts-requires-2 c κs =
    let s = start (turn c.before) in
    (s.requires.0, (omega (arith, s.requires.1), omega (arith, s.requires.1)))

less : (c : Placed) →
    length (members c.without-unplaced.result set_bits) < length (members (turn c).loop-free.unplaced set_bits)
less c =
    let l = c.lowest-p.ensures in
    fewer-left _ _ _ c.without-unplaced.ensures set_bits l.below ((turn c).loop-free.invariant.1.waits _ l.is-in).0

loop-again : tie.Need-loop-free-preserved-then-free-eq0 invariant-loop-free decreases-loop-free
loop-again c =
    (c.without-unplaced.type_inv, placing-found _ _ (left c.before.before) _ c.free_parts-free-then-free-eq0.ensures)

loop-again-2 : tie.Need-loop-free-preserved invariant-loop-free decreases-loop-free
loop-again-2 c =
    let p = c in (
      p.without-unplaced.type_inv,
      placing-on _ _ (turn p.before).loop-free.invariant.1 p.lowest-p.ensures _ p.without-unplaced.ensures
          (few (turn p.before)) _ (p.without_lowest-free.ensures _ p.lowest-p.ensures) c.if-free-eq0.false,
    )

returns : tie.Need-returns invariant-loop-free decreases-loop-free
returns c own =
    let l = c in
    let a = (start l.before).args in
    placing-ends _ _ (few l.before) l.loop-free.invariant.0 l.loop-free.invariant.1 c.loop-free-test.false ∙
    shared-circle a.a a.b a.n (start l.before).requires.1.1 (start l.before).requires.1.2 (arcs_in a.scratch.now) (arcs l.before) own
    (words-share a.a a.b (found l.before).arcs_to_both-joined.result a.scratch.now (found l.before).arcs_to_both-joined.ensures)

pub no_circle_spec : {M : Type 1} → statement M
no_circle_spec =
    tie.close
    (tie.spec invariant-loop-free decreases-loop-free arcs-to-both-requires (λ c κs. omega arith) free-parts-requires loop-holds lowest-requires
    without-requires (λ c κs. omega arith) free-parts-requires-2 (λ c. less c.before.before) loop-again
    (λ c. less c.before) loop-again-2 returns)
