-- `task::records::find` meets its contract. The invariant: lo and hi bracket the answer. The measure is hi - lo, which
-- falls in either arm, since the middle is at least lo and below hi.
use Prim.Native.Nat.{ℕ, ◌+◌, ◌-◌, ◌/◌}
use native.Mathlib.Omega.{arith}
use Rattle.task.proofs.Bracket.{Bracket, bracket-all, bracket-up, bracket-down, bracket-met}
use Rattle.task.proofs.records.find.Statement.{statement}
use Rattle.task.proofs.records.find.Tie as tie

abbrev invariant-loop-lo : tie.invariant-loop-lo
invariant-loop-lo state n number lo₀ hi₀ lo hi = Bracket state n number lo hi

abbrev decreases-loop-lo : tie.decreases-loop-lo
decreases-loop-lo state n number lo₀ hi₀ lo hi = hi - lo

abbrev middle : tie.In-loop-lo invariant-loop-lo decreases-loop-lo → ℕ
middle c = c.loop-lo.lo + (c.loop-lo.hi - c.loop-lo.lo) / 2

loop-holds : tie.Need-loop-lo-init invariant-loop-lo decreases-loop-lo
loop-holds c = bracket-all _ _ _

loop-again : tie.Need-loop-lo-preserved-then-number_at-number invariant-loop-lo decreases-loop-lo
loop-again c =
    let at-loop-test = c in
    let at-loop = at-loop-test in
    let start = at-loop in
    bracket-up start.requires.1 at-loop.loop-lo.invariant (middle at-loop-test.before.before) (omega arith) (omega arith) (let e =
    c.number_at.ensures in
    let l = c.if-number_at-number.true in omega arith)

loop-again-2 : tie.Need-loop-lo-preserved invariant-loop-lo decreases-loop-lo
loop-again-2 c =
    let at-loop-test = c in
    let at-loop = at-loop-test in
    let start = at-loop in
    bracket-down start.requires.1 at-loop.loop-lo.invariant (middle at-loop-test.before.before) (omega arith) (omega arith) (let e =
    c.number_at.ensures in
    let l = c.if-number_at-number.false in omega arith)

returns : tie.Need-returns invariant-loop-lo decreases-loop-lo
returns c = bracket-met c.loop-lo-test.false c.loop-lo.invariant

pub find_spec : {M : Type 1} → statement M
find_spec =
    tie.close
    (tie.spec invariant-loop-lo decreases-loop-lo loop-holds (λ c. omega arith) (λ c. omega arith) (λ c. omega arith) (λ c κs. omega arith)
    (λ c. omega arith) (λ c. omega arith) loop-again (λ c. omega arith) loop-again-2 returns)
