use Rattle.std.proofs.Common.{rules, tests}
use native.Mathlib.Omega.{arith}
use mathlib.Core.Path.{◌∙◌}
use Rattle.std.proofs.lemmas.Iterator.Consumers.{sum_by_from_yields_List, fits_by_from_yields_list}
use Rattle.forecast.proofs.RangeSums.{taken_road}
use Rattle.forecast.proofs.CountedLines.{is_old, old_bytes, counted_old}
use Rattle.forecast.proofs.bytes.old_lines.Goals as goal

pub sum-requires-clause-fits : goal.sum-requires-clause-fits
sum-requires-clause-fits c =
    let w = c.args.table.now in
    let here = c.args.here in
    fits_by_from_yields_list (old_bytes w here) _ c.map.result _
    (taken_road (is_old w here) (old_bytes w here) here.from here.to c.filter.ensures.source c.filter.ensures.closure
    c.map.ensures.source c.map.ensures.closure (λ x b q k. search (rules, tests)) (λ x r q k. search rules))
    (omega (arith, counted_old w here, c.requires.here_bound))

pub returns : goal.returns
returns c =
    let w = c.args.table.now in
    let here = c.args.here in
    sum_by_from_yields_List (old_bytes w here) _ c.map.result c.sum.result c.sum.ensures.ran
    (taken_road (is_old w here) (old_bytes w here) here.from here.to c.filter.ensures.source c.filter.ensures.closure
    c.map.ensures.source c.map.ensures.closure (λ x b q k. search (rules, tests)) (λ x r q k. search rules)) ∙
    counted_old w here
