use Prim.Native.Nat.{ℕ, ◌-◌, max}
use mathlib.Core.Path.{refl, sym, ◌∙◌, ap}
use mathlib.Core.List.{List, map}
use Rattle.std.proofs.Common.{rules, tests}
use Rattle.std.specs.Prelude.{Option}
use Rattle.std.specs.List.{reduce}
use Rattle.std.specs.Option.{unwrap_or}
use Rattle.std.proofs.lemmas.Iterator.{YieldsList-from_range, YieldsList-from_map}
use Rattle.std.proofs.lemmas.Iterator.Adapters.{option_map_id}
use Rattle.std.proofs.lemmas.Iterator.Consumers.{max_from_yields_List}
use Rattle.words.specs.Lists.{up_from}
use Rattle.words.proofs.Chains.{range-up_from}
use Rattle.task.proofs.AtomRuns.{part_bound, part-count}
use Rattle.task.proofs.table.schemas.part_count.Goals as goal

pub returns : goal.returns
returns c =
    let w = c.args.table.now in
    let first = c.args.first in
    let many = c.args.end - first in
    let found = max_from_yields_List c.map.result c.max.result c.max.ensures.ran
    (YieldsList-from_map _ (part_bound w) (YieldsList-from_range first c.args.end many c.map.ensures.source refl)
    c.map.ensures.closure (λ x b q k. search (rules, tests))) in
    c.unwrap_or.ensures ∙
    (ap (λ (most : Option ℕ). unwrap_or most 0) (sym (option_map_id c.max.result) ∙ found) ∙
    (ap (λ (is : List ℕ). unwrap_or (reduce max (map (part_bound w) is)) 0) (range-up_from first many) ∙
    part-count w (up_from first many)))
