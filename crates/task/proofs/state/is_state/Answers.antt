-- Where they have room, each record is tried.
use Rattle.std.proofs.Common.{arith, sym, rules, tests}
use Rattle.words.proofs.Chains.{all_ran}
use Rattle.task.specs.Run.{room_in}
use Rattle.task.proofs.Tables.{of-table}
use Rattle.task.proofs.StateWords.{too-many, state-tested}
use Rattle.task.proofs.state.is_state.Goals as goal

pub returns-then-room-records : goal.returns-then-room-records
unfolding room_in
returns-then-room-records c = sym (too-many _ (of-table _ c.requires).0 _ _ c.if-room-records.true)

pub returns : goal.returns
unfolding room_in
returns c =
    all_ran (state-tested _ (of-table _ c.requires).0 _ _ (omega arith)) c.all.ensures.ran
    (λ x b q k. search (rules, tests))
