-- `proposals::start::put_among` meets its contract.
-- The invariant: the arcs to the atoms that had their turn are put, whatever pairs the partners stand for, and nothing
-- else has changed (`AmongPut`). The lowest of the rest is taken out in each turn and gets its word (`among-more`), so
-- the measure is how many are left.
use Prim.Native.Nat.{ℕ, ◌+◌}
use mathlib.Core.Path.{◌≡◌, ◌∙◌, ap}
use mathlib.Core.Bool.{Bool, false, ◌&&◌}
use mathlib.Core.List.{List}
use native.Mathlib.Omega.{arith}
use lib.ListN.{length}
use Rattle.words.specs.Sets.{Loses, member, members, set_bits}
use Rattle.words.proofs.BitSets.{member-zero}
use Rattle.words.proofs.SetLoops.{lowest-fewer}
use Rattle.task.specs.Task.{Pair}
use Rattle.task.specs.Table.{atom_in}
use Rattle.arcs.specs.Order.{gives_arc}
use Rattle.arcs.specs.Stretches.{Pairing}
use Rattle.proposals.proofs.Scratches.{arcs-inside, keeps-room}
use Rattle.proposals.proofs.StartArcs.{AmongPut, among_none, among-more}
use Rattle.proposals.proofs.start.put_among.Statement.{statement}
use Rattle.proposals.proofs.start.put_among.Tie as tie

-- the word of atom q: the atoms of the set that give an arc to it
abbrev IsWord : List ℕ → ℕ → ℕ → Bool → List ℕ → ℕ → ℕ → Type 0
IsWord table from alike paired partners q word = (pairs : List Pair) → Pairing pairs paired partners → (p : ℕ) →
    member word p ≡ member alike p && gives_arc pairs (atom_in table (from + p)) (atom_in table (from + q))

abbrev invariant-loop-rest : tie.invariant-loop-rest
invariant-loop-rest table from to alike before paired partners scratch₀ rest₀ scratch rest =
    AmongPut (IsWord table from alike paired partners) alike rest scratch₀ scratch

abbrev decreases-loop-rest : tie.decreases-loop-rest
decreases-loop-rest table from to alike before paired partners scratch₀ rest₀ scratch rest = length (members rest set_bits)

abbrev start : tie.At-loop-rest invariant-loop-rest decreases-loop-rest → tie.Start invariant-loop-rest decreases-loop-rest
start l = l.before.before.before

loop-holds : tie.Need-loop-rest-init invariant-loop-rest decreases-loop-rest
loop-holds c =
    let a = c.args in
    among_none (IsWord a.table.now a.from a.alike a.paired a.partners.now) a.alike a.scratch.now

arcs-among-requires : tie.Need-arcs_among-requires invariant-loop-rest decreases-loop-rest
arcs-among-requires c κs =
    let low = c in
    let l = low in
    let p = (start l.before.before.before).requires in
    let q = low.lowest-q.result in
    let m = l.loop-rest.invariant.left q low.lowest-q.ensures.is-in in
    let roles = p.1.1.1.1 in
    (p.0, ((p.1.0, p.1.1.0 q m), (p.1.1.0, (λ k i. p.1.1.1.0 k q i m, (roles.0, roles.1.0)))))

slice-write-scratch : tie.Need-bounds-scratch-q invariant-loop-rest decreases-loop-rest
slice-write-scratch c =
    let low = c in
    let l = low in
    arcs-inside (keeps-room l.loop-rest.invariant.keeps (start l.before.before.before.before).requires.1.1.1.1.1.1) low.lowest-q.ensures.below

-- the lowest of the rest is out
out : (c : tie.After-without_lowest-rest invariant-loop-rest decreases-loop-rest) →
    Loses c.loop-rest.rest c.lowest-q.result c.without_lowest-rest.result
out c = c.without_lowest-rest.ensures _ c.lowest-q.ensures

loop-less : tie.Need-loop-rest-smaller invariant-loop-rest decreases-loop-rest
loop-less c =
    let less = c in
    lowest-fewer less.lowest-q.ensures less.without_lowest-rest.result (out less.before)

loop-again : tie.Need-loop-rest-preserved invariant-loop-rest decreases-loop-rest
loop-again c =
    let less = c in
    let l = less in
    among-more (start l.before.before.before.before).requires.1.1.1.1.1.1 l.loop-rest.invariant less.lowest-q.ensures _ (out less.before)
    c.arcs_among.result c.arcs_among.ensures

returns : tie.Need-returns invariant-loop-rest decreases-loop-rest
returns c =
    let h = c.loop-rest in
    let none : (q : ℕ) → member h.rest q ≡ false =
    λ q. ap (λ (set : ℕ). member set q) c.loop-rest-test.false ∙ member-zero q in
    (h.invariant.keeps, (h.invariant.others, λ pairs given p q m. h.invariant.words q m (none q) pairs given p))

pub put_among_spec : {M : Type 1} → statement M
put_among_spec =
    tie.close
    (tie.spec invariant-loop-rest decreases-loop-rest loop-holds (λ c κs. omega arith) (λ c κs. omega arith) arcs-among-requires
    (λ c. omega arith) slice-write-scratch loop-less loop-again (λ c. c.loop-rest.invariant.keeps.long) returns)
