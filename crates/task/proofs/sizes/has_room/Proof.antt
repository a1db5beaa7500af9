-- `task::sizes::has_room` meets its contract.
-- Where there is room for every atom that comes in, there is room for the next state, since deletes make it no longer
-- (`all_fit`): beside all records at first, then beside those that are left. Else its size is counted and compared. A
-- state has no more records than fit, so the room left does not wrap (`state-room`, `left-room`).
use Prim.Native.Nat.{ℕ}
use mathlib.Core.Path.{ap}
use native.Mathlib.Omega.{arith}
use lib.Dec.{leb}
use Rattle.task.specs.Run.{room_in}
use Rattle.task.proofs.SizeLaws.{state-room, few-left, left-room, all_fit}
use borrow.Author.Rules.{rules}
use Rattle.task.proofs.sizes.has_room.Statement.{statement}
use Rattle.task.proofs.sizes.has_room.Tie as tie

sub-adds : tie.Need-overflow_sub-adds
sub-adds c = c.requires.2.adds

sub-if1 : tie.Need-overflow_sub-room
sub-if1 c = state-room c.requires.2

returns : tie.Need-returns-then-adds-room
returns c = λ t g u a. all_fit u (few-left u) (state-room u) c.if-adds-room.true

sub-if2 : tie.Need-overflow_sub-room-2
sub-if2 c = let (t, g, u, a) = c.requires in left-room u (c.size_without-size.ensures t g u a)

returns-2 : tie.Need-returns-then-adds-room-2
returns-2 c = λ t g u a.
    let e = c.size_without-size.ensures t g u a in
    all_fit u (omega arith) (left-room u e) c.if-adds-room-2.true

size-with-requires : tie.Need-size_with-requires
size-with-requires c κs =
    let (t, g, u, a) = c.requires in
    (t, g, u, c.size_without-size.ensures t g u a)

returns-3 : tie.Need-returns
unfolding room_in
returns-3 c = λ t g u a.
    let start = c in
    ap (λ (m : ℕ). leb m (room_in start.args.state.now))
    (c.size_with.ensures t g u (c.size_without-size.ensures t g u a))

pub has_room_spec : {M : Type 1} → statement M
has_room_spec =
    tie.close
    (tie.spec sub-adds sub-if1 returns (λ c κs. search rules) sub-if2 returns-2 size-with-requires returns-3)
