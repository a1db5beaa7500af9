use Rattle.std.proofs.Common.{rules, tests}
use native.Mathlib.Omega.{arith}
use mathlib.Core.Path.{◌∙◌}
use Rattle.std.proofs.lemmas.Iterator.Consumers.{sum_by_from_yields_List, fits_by_from_yields_list}
use Rattle.forecast.proofs.RangeSums.{taken_road}
use Rattle.forecast.proofs.CountedLines.{is_carried, carried_bytes, counted_pairs}
use Rattle.forecast.proofs.bytes.pair_lines.Goals as goal

pub sum-requires-clause-fits : goal.sum-requires-clause-fits
sum-requires-clause-fits c =
    let a = c.args in
    let w = a.table.now in
    fits_by_from_yields_list (carried_bytes w a.own a.from a.to) _ c.map.result _
    (taken_road (is_carried w a.own a.from a.to) (carried_bytes w a.own a.from a.to) a.from a.to c.filter.ensures.source
    c.filter.ensures.closure c.map.ensures.source c.map.ensures.closure (λ x b q k. search (rules, tests)) (λ x r q k. search rules))
    (omega (arith, counted_pairs w a.own a.from a.to, c.requires.to_bound))

pub returns : goal.returns
returns c =
    let a = c.args in
    let w = a.table.now in
    sum_by_from_yields_List (carried_bytes w a.own a.from a.to) _ c.map.result c.sum.result c.sum.ensures.ran
    (taken_road (is_carried w a.own a.from a.to) (carried_bytes w a.own a.from a.to) a.from a.to c.filter.ensures.source
    c.filter.ensures.closure c.map.ensures.source c.map.ensures.closure (λ x b q k. search (rules, tests)) (λ x r q k. search rules)) ∙
    counted_pairs w a.own a.from a.to
