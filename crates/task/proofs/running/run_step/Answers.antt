-- The step's atoms are parted by role and their numbers worked out, so that the step is under way (`way_of`); its turn
-- follows from the tests on the numbers, and the exchange leaves the next state.
use Rattle.std.proofs.Common.{refl, sym, ◌∙◌}
use mathlib.Core.Logic.{inl, inr}
use Rattle.task.specs.Turns.{Turned}
use Rattle.task.proofs.StepSpans.{span-bounds}
use Rattle.task.proofs.TurnLaws.{parting, all-atoms, few-atoms, way_of, applies-so, fits-so, room-enough, next-kept}
use Rattle.task.proofs.running.run_step.Goals as goal

pub role_end-add-requires-clause-from_le_to : goal.role_end-add-requires-clause-from_le_to
role_end-add-requires-clause-from_le_to c =
    let r = c.requires in
    span-bounds _ _ _ r.table_value r.i_value _ _ r.start_value r.end_value

pub role_end-del-requires-clause-from_le_to : goal.role_end-del-requires-clause-from_le_to
role_end-del-requires-clause-from_le_to c =
    let r = c.requires in
    (c.role_end-add.ensures.within, (span-bounds _ _ _ r.table_value r.i_value _ _ r.start_value r.end_value).1)

pub ground_all-requires-clause-span_of : goal.ground_all-requires-clause-span_of
ground_all-requires-clause-span_of c =
    let r = c.requires in
    all-atoms (parting r.table_value r.i_value r.start_value r.end_value c.role_end-add.ensures c.role_end-del.ensures)

pub ground_all-requires-clause-start_bound : goal.ground_all-requires-clause-start_bound
ground_all-requires-clause-start_bound c =
    let r = c.requires in
    let p = parting r.table_value r.i_value r.start_value r.end_value c.role_end-add.ensures c.role_end-del.ensures in
    (few-atoms p, r.numbers_len)

pub all_hold-requires : goal.all_hold-requires
all_hold-requires c =
    let r = c.requires in
    let p = parting r.table_value r.i_value r.start_value r.end_value c.role_end-add.ensures c.role_end-del.ensures in
    (_, _, way_of p c.ground_all.ensures.1 r.n_value)

pub returns-then-not-all_hold-clause-turned : goal.returns-then-not-all_hold-clause-turned
unfolding Turned
returns-then-not-all_hold-clause-turned c =
    let r = c.requires in
    let p = parting r.table_value r.i_value r.start_value r.end_value c.role_end-add.ensures c.role_end-del.ensures in
    let way = way_of p c.ground_all.ensures.1 r.n_value in
    (inl (refl, applies-so p _ (c.all_hold.ensures _ _ way) c.if-not-all_hold.true), refl)

pub has_room-requires : goal.has_room-requires
has_room-requires c =
    let r = c.requires in
    let p = parting r.table_value r.i_value r.start_value r.end_value c.role_end-add.ensures c.role_end-del.ensures in
    let way = way_of p c.ground_all.ensures.1 r.n_value in
    (_, _, way, sym (c.all_hold.ensures _ _ way) ∙ c.if-not-all_hold.false)

pub returns-then-not-has_room-clause-turned : goal.returns-then-not-has_room-clause-turned
unfolding Turned
returns-then-not-has_room-clause-turned c =
    let r = c.requires in
    let p = parting r.table_value r.i_value r.start_value r.end_value c.role_end-add.ensures c.role_end-del.ensures in
    let way = way_of p c.ground_all.ensures.1 r.n_value in
    let hold = c.all_hold.ensures _ _ way in
    let fits = c.has_room.ensures _ _ way (sym hold ∙ c.if-not-all_hold.false) in
    (inr (refl, applies-so p _ hold c.if-not-all_hold.false, fits-so p _ _ _ fits c.if-not-has_room.true), refl)

pub exchange-requires : goal.exchange-requires
exchange-requires c =
    let r = c.requires in
    let p = parting r.table_value r.i_value r.start_value r.end_value c.role_end-add.ensures c.role_end-del.ensures in
    let way = way_of p c.ground_all.ensures.1 r.n_value in
    let fits = c.has_room.ensures _ _ way (sym (c.all_hold.ensures _ _ way) ∙ c.if-not-all_hold.false) in
    (_, _, way, room-enough p _ _ _ fits c.if-not-has_room.false)

pub returns-clause-turned : goal.returns-clause-turned
unfolding Turned
returns-clause-turned c =
    let r = c.requires in
    let p = parting r.table_value r.i_value r.start_value r.end_value c.role_end-add.ensures c.role_end-del.ensures in
    let way = way_of p c.ground_all.ensures.1 r.n_value in
    let hold = c.all_hold.ensures _ _ way in
    let fits = c.has_room.ensures _ _ way (sym hold ∙ c.if-not-all_hold.false) in (
      applies-so p _ hold c.if-not-all_hold.false,
      fits-so p _ _ _ fits c.if-not-has_room.false,
      next-kept p _ _ _ _ (c.exchange.ensures _ _ way),
    )
