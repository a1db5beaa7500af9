-- Fixed bytes, the number's digits and the parameters make the predicate (`predicate-long`), and they are few.
use Rattle.std.proofs.Common.{arith, ap, length}
use Rattle.text.proofs.DigitSteps.{at-most-five}
use Rattle.defines.proofs.MarkedNames.{below-long}
use Rattle.defines.proofs.Frames.{predicate-long, arity-inside, arity-few, predicate-read}
use Rattle.defines.proofs.writer.predicate_size.Goals as goal

pub arity_of-arity-requires : goal.arity_of-arity-requires
arity_of-arity-requires c = arity-inside _ c.wide.ensures c.requires.table_value c.requires.p_bound

pub overflow_add-result : goal.overflow_add-result
overflow_add-result c = let d = at-most-five c.args.p in let e = c.number_size.ensures in omega arith

pub overflow_mul-result : goal.overflow_mul-result
overflow_mul-result c =
    let f = arity-few _ c.wide.ensures c.requires.table_value c.requires.p_bound c.arity_of-arity.ensures in
    omega arith

pub overflow_add-result-2 : goal.overflow_add-result-2
overflow_add-result-2 c =
    let d = at-most-five c.args.p in
    let e = c.number_size.ensures in
    let f = arity-few _ c.wide.ensures c.requires.table_value c.requires.p_bound c.arity_of-arity.ensures in
    omega arith

pub below_size-requires : goal.below_size-requires
below_size-requires c =
    let f = arity-few _ c.wide.ensures c.requires.table_value c.requires.p_bound c.arity_of-arity.ensures in
    omega arith

pub overflow_add-result-3 : goal.overflow_add-result-3
overflow_add-result-3 c =
    let d = at-most-five c.args.p in
    let e = c.number_size.ensures in
    let f = arity-few _ c.wide.ensures c.requires.table_value c.requires.p_bound c.arity_of-arity.ensures in
    let b = below-long c.arity_of-arity.result (omega arith) in
    let s = c.below_size.ensures in
    omega arith

pub overflow_add-result-4 : goal.overflow_add-result-4
overflow_add-result-4 c =
    let d = at-most-five c.args.p in
    let e = c.number_size.ensures in
    let f = arity-few _ c.wide.ensures c.requires.table_value c.requires.p_bound c.arity_of-arity.ensures in
    let b = below-long c.arity_of-arity.result (omega arith) in
    let s = c.below_size.ensures in
    omega arith

pub returns : goal.returns
returns c =
    let l = predicate-long c.args.p c.arity_of-arity.result in
    let r = ap length (predicate-read _ c.wide.ensures c.arity_of-arity.ensures) in
    let e = c.number_size.ensures in
    let s = c.below_size.ensures in
    omega arith
