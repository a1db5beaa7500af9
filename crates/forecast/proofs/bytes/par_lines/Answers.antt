use Rattle.std.proofs.Common.{rules, tests}
use native.Mathlib.Omega.{arith}
use mathlib.Core.Path.{◌∙◌}
use Rattle.std.proofs.lemmas.Iterator.Consumers.{sum_by_from_yields_List, fits_by_from_yields_list}
use Rattle.words.specs.Sets.{member}
use Rattle.forecast.proofs.RangeSums.{taken_road}
use Rattle.forecast.proofs.CountedLines.{par_bytes, counted_pars}
use Rattle.forecast.proofs.bytes.par_lines.Goals as goal

pub sum-requires-clause-fits : goal.sum-requires-clause-fits
sum-requires-clause-fits c =
    let a = c.args in
    let size = par_bytes a.here a.role a.which in
    fits_by_from_yields_list size _ c.map.result _
    (taken_road (member a.which) size 0 a.here.params c.filter.ensures.source c.filter.ensures.closure
    c.map.ensures.source c.map.ensures.closure (λ x b q k. search (rules, tests)) (λ x r q k. search rules))
    (omega (arith, counted_pars a.here a.role a.which, c.requires.which_bound))

pub returns : goal.returns
returns c =
    let a = c.args in
    let size = par_bytes a.here a.role a.which in
    sum_by_from_yields_List size _ c.map.result c.sum.result c.sum.ensures.ran
    (taken_road (member a.which) size 0 a.here.params c.filter.ensures.source c.filter.ensures.closure
    c.map.ensures.source c.map.ensures.closure (λ x b q k. search (rules, tests)) (λ x r q k. search rules)) ∙
    counted_pars a.here a.role a.which
