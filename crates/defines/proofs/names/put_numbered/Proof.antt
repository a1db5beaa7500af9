-- `defines::names::put_numbered` meets its contract. The invariant of its loop: what is still to come is the names of
-- the numbers from n on. The measure is the last number less n.
use native.Mathlib.Omega.{arith}
use Prim.Native.Nat.{◌+◌, ◌-◌}
use mathlib.Core.List.{◌++◌}
use Rattle.words.specs.Lists.{up_from}
use Rattle.words.proofs.Puts.{Going, going_start, going-long, going-left, going-room, going_on, going_end}
use Rattle.text.proofs.Onwards.{onwards, onwards-next, onwards-none}
use Rattle.defines.specs.ByWords.{marked}
use Rattle.defines.proofs.MarkedNames.{name_of, marked-pieces}
use Rattle.defines.proofs.names.put_numbered.Statement.{statement}
use Rattle.defines.proofs.names.put_numbered.Tie as tie

abbrev invariant-loop-n : tie.invariant-loop-n
invariant-loop-n text₀ at mark from to next₀ n₀ text next n =
    Going text₀ at (marked mark (up_from from (to - from))) (onwards (name_of mark) n to) text next

abbrev decreases-loop-n : tie.decreases-loop-n
decreases-loop-n text₀ at mark from to next₀ n₀ text next n = to - n

loop-holds : tie.Need-loop-n-init invariant-loop-n decreases-loop-n
loop-holds c =
    let args = c.args in
    going-left (marked-pieces args.mark.now (up_from args.from (args.to - args.from)))
    (going_start c.requires)

-- what is to come is the name of n, and then those from n + 1 on
to-come : (c : tie.In-loop-n invariant-loop-n decreases-loop-n) →
    let args = c.args in
    let names = name_of args.mark.now in
    let n = c.loop-n.n in
    Going args.text.now args.at (marked args.mark.now (up_from args.from (args.to - args.from)))
    (names n ++ onwards names (n + 1) args.to) c.loop-n.text c.loop-n.next
to-come c =
    let args = c.args in
    going-left (onwards-next (name_of args.mark.now) c.loop-n.n args.to c.loop-n-test.true)
    c.loop-n.invariant

put-name-requires : tie.Need-put_name-next-requires invariant-loop-n decreases-loop-n
put-name-requires c κs =
    let at-loop = c in
    let args = at-loop.args in
    let names = name_of args.mark.now in
    going-room (names at-loop.loop-n.n) (onwards names (at-loop.loop-n.n + 1) args.to) (to-come c.before)

loop-again : tie.Need-loop-n-preserved invariant-loop-n decreases-loop-n
loop-again c = going_on (to-come c.before.before.before.before) c.put_name-next.ensures

same_length : tie.Need-shape_of-text invariant-loop-n decreases-loop-n
same_length c = going-long c.loop-n.invariant

returns : tie.Need-returns invariant-loop-n decreases-loop-n
returns c =
    let args = c.args in
    let none = onwards-none (name_of args.mark.now) c.loop-n.n args.to (omega arith) in
    going_end (going-left none c.loop-n.invariant)

pub put_numbered_spec : {M : Type 1} → statement M
put_numbered_spec =
    tie.close
    (tie.spec invariant-loop-n decreases-loop-n loop-holds put-name-requires (λ c. omega arith) (λ c. omega arith) loop-again same_length
    returns)
