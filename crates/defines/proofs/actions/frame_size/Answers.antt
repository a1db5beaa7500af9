-- The frame is the head, whose size was found, and the fixed bytes behind it (`frame-long`).
use Rattle.std.proofs.Common.{arith, ap, length}
use Rattle.text.proofs.DigitSteps.{at-most-five}
use Rattle.defines.proofs.Frames.{frame-long, head-long, parameters-few, count-inside, count-few, head_read}
use Rattle.defines.proofs.actions.frame_size.Goals as goal

pub params_of-requires : goal.params_of-requires
params_of-requires c = count-inside _ c.wide.ensures c.requires.table_value c.requires.schema_bound

pub head_size-requires : goal.head_size-requires
head_size-requires c =
    count-few _ c.wide.ensures c.requires.table_value c.requires.schema_bound c.params_of.ensures.value

pub overflow_add-result : goal.overflow_add-result
overflow_add-result c =
    let few = count-few _ c.wide.ensures c.requires.table_value c.requires.schema_bound c.params_of.ensures.value in
    let p = parameters-few c.params_of.result few in
    let d = at-most-five c.args.schema in
    let l = head-long c.args.schema c.params_of.result in
    let h = c.head_size.ensures in
    omega arith

pub returns : goal.returns
returns c =
    let e = ap length (head_read _ c.wide.ensures c.params_of.ensures.value) in
    let h = c.head_size.ensures in
    let l = frame-long c.args.table.now c.args.schema in
    omega arith
