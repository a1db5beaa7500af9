-- `proposals::start::put_arcs` meets its contract.
-- The invariant: the arcs to all atoms but the rest are put, and none of the rest has the predicate of another atom
-- (`ArcsPut`). A turn puts those of one predicate, that of the lowest of the rest (`arcs-more`): atoms of different
-- predicates give no arc. The measure is how many are left, fewer as the lowest is taken.
use Prim.Native.Nat.{ℕ, ◌+◌, ◌-◌}
use mathlib.Core.Path.{◌∙◌, ap}
use native.Mathlib.Omega.{arith}
use lib.ListN.{length}
use borrow.Author.Rules.{rules}
use Rattle.words.specs.Sets.{member, members, set_bits}
use Rattle.words.proofs.BitSets.{member-zero}
use Rattle.task.specs.Table.{atom_in}
use Rattle.arcs.specs.Stretches.{pair_stretch_in}
use Rattle.arcs.proofs.Partners.{stretch-pairing}
use Rattle.proposals.proofs.Scratches.{keeps-room}
use Rattle.proposals.proofs.StartArcs.{ArcsPut, alike-below, alike_same, arcs-none, arcs-fewer, arcs-more}
use Rattle.proposals.proofs.start.put_arcs.Statement.{statement}
use Rattle.proposals.proofs.start.put_arcs.Tie as tie

abbrev invariant-loop-rest : tie.invariant-loop-rest
invariant-loop-rest table from to pair end scratch₀ paired partners before rest₀ scratch rest =
    ArcsPut (pair_stretch_in table pair end) (λ p. atom_in table (from + p)) (to - from) rest scratch₀ scratch

abbrev decreases-loop-rest : tie.decreases-loop-rest
decreases-loop-rest table from to pair end scratch₀ paired partners before rest₀ scratch rest = length (members rest set_bits)

abbrev start : tie.At-loop-rest invariant-loop-rest decreases-loop-rest → tie.Start invariant-loop-rest decreases-loop-rest
start l = l.before.before.before.before.before.before

-- the turn in which the atoms of a predicate are found
abbrev turn : tie.After-of_predicate-alike invariant-loop-rest decreases-loop-rest → tie.At-loop-rest invariant-loop-rest decreases-loop-rest
turn d = d.before.before.before

abbrev alike : tie.After-of_predicate-alike invariant-loop-rest decreases-loop-rest → ℕ
alike d = d.of_predicate-alike.result

loop-holds : tie.Need-loop-rest-init invariant-loop-rest decreases-loop-rest
loop-holds c =
    let a = c.args in
    let w = a.table.now in
    arcs-none (pair_stretch_in w a.pair a.end) (λ p. atom_in w (a.from + p)) c.up_to-rest.result a.scratch.now
    c.up_to-rest.ensures

of-predicate-requires : tie.Need-of_predicate-alike-requires invariant-loop-rest decreases-loop-rest
of-predicate-requires c κs =
    let l = c in
    let p = (start l.before.before).requires in
    let below = l.loop-rest.invariant.below in
    (p.0, ((p.1.1.0, below c.lowest.result c.lowest.ensures.is-in), below))

put-among-requires : tie.Need-put_among-requires invariant-loop-rest decreases-loop-rest
put-among-requires c κs =
    let d = c in
    let l = turn d.before.before.before in
    let p = (start l).requires in
    let h = l.loop-rest.invariant in
    let k = d.lowest.result in
    let roles = l.before.before.before_roles-before.ensures in
    let room = keeps-room h.keeps p.1.1.1 in
    let below = alike-below h k (alike d.before.before.before) d.of_predicate-alike.ensures in
    let same = alike_same h k (alike d.before.before.before) d.of_predicate-alike.ensures in
    (p.0, (p.1.1.0, (below, (same, (roles.0, (roles.1, room))))))

loop-less : tie.Need-loop-rest-smaller invariant-loop-rest decreases-loop-rest
loop-less c =
    let d = c in
    let low = d.lowest in
    arcs-fewer (turn d.before.before.before.before.before.before.before).loop-rest.invariant low.result (alike d.before.before.before.before.before.before.before) d.of_predicate-alike.ensures c.minus-rest.result
    c.minus-rest.ensures low.ensures

loop-again : tie.Need-loop-rest-preserved invariant-loop-rest decreases-loop-rest
loop-again c =
    let d = c in
    let l = turn d.before.before.before.before.before.before.before in
    let low = d.lowest in
    let put = c.put_among.ensures in
    let a = (start l).args in
    let pairing = stretch-pairing (start l).requires.1.0 l.partners_of-partners.ensures in
    arcs-more l.loop-rest.invariant low.result (alike d.before.before.before.before.before.before.before) d.of_predicate-alike.ensures c.minus-rest.result c.minus-rest.ensures
    put.0 put.1.0 (put.1.1 (pair_stretch_in a.table.now a.pair a.end) pairing)

returns : tie.Need-returns invariant-loop-rest decreases-loop-rest
returns c =
    let h = c.loop-rest in (
      h.invariant.keeps,
      λ p q l m. h.invariant.arcs p q l m (ap (λ (set : ℕ). member set q) c.loop-rest-test.false ∙ member-zero q),
    )

pub put_arcs_spec : {M : Type 1} → statement M
put_arcs_spec =
    tie.close
    (tie.spec invariant-loop-rest decreases-loop-rest (λ c κs. search rules) (λ c κs. search rules) (λ c. omega arith) (λ c κs. search rules)
    loop-holds (λ c κs. omega arith) of-predicate-requires put-among-requires (λ c κs. search rules) loop-less
    loop-again (λ c. c.loop-rest.invariant.keeps.long) returns)
