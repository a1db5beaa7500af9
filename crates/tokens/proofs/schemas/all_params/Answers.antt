use Rattle.std.proofs.Common.{refl, arith}
use Rattle.std.proofs.lemmas.List.{length-map}
use Rattle.words.specs.Lists.{concat_map, up_from, up_to}
use Rattle.words.proofs.Lists.{length-up_to}
use Rattle.words.proofs.Puts.{puts_none, puts_then, puts-length}
use Rattle.tokens.specs.Writing.{set_size, set_sizes}
use Rattle.tokens.specs.Kept.{kept_count}
use Rattle.tokens.proofs.SchemaRuns.{all_more}
use Rattle.tokens.proofs.schemas.all_params.Goals as goal

pub loop-s-init : goal.loop-s-init
unfolding concat_map up_to up_from
loop-s-init c = (omega arith, refl, puts_none c.args.out.now c.args.at)

pub loop-s-preserved : goal.loop-s-preserved
loop-s-preserved c =
    let a = c.args in
    let h = c.loop-s in
    let f = c.part_params-next.ensures in
    let n = kept_count a.kept.now h.s in
    let few = c.requires.by_index h.s c.loop-s-test.true in
    let p = puts_then h.invariant.2 f _ (all_more (set_sizes a.kept.now) h.s) in
    (omega (arith, f.place, few, length-map (up_to n) (set_size a.kept.now h.s), length-up_to n), puts-length p, p)
