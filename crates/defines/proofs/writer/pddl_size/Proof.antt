-- `defines::writer::pddl_size` meets its contract: the fixed bytes, the predicates, the actions without their atoms and
-- pairs, the objects, the items of all atoms, what pairs require and the pairs make the text (`pddl-sizes`), and no sum
-- of them wraps (`sizes-fit`).
use native.Mathlib.Omega.{arith}
use Prim.Native.Nat.{◌+◌}
use mathlib.Core.Path.{◌≡◌, sym, ◌∙◌}
use Rattle.defines.proofs.Sizes.{sizes_in, pddl-sizes, sizes-fit}
use borrow.Author.Rules.{rules}
use Rattle.defines.proofs.writer.pddl_size.Statement.{statement}
use Rattle.defines.proofs.writer.pddl_size.Tie as tie

abbrev start : tie.After-predicates_size → tie.Start
start c = c.before.before.before.before.before.before.before.before

add-result : tie.Need-overflow_add-result
add-result c =
    let p = c.predicates_size.ensures in
    let fit = sizes-fit (start c).args.table.now (start c).requires in
    omega arith

add-result-2 : tie.Need-overflow_add-result-2
add-result-2 c =
    let p = c.predicates_size.ensures in
    let f = c.frames_size.ensures in
    let fit = sizes-fit (start c.before).args.table.now (start c.before).requires in
    omega arith

add-result-3 : tie.Need-overflow_add-result-3
add-result-3 c =
    let p = c.predicates_size.ensures in
    let f = c.frames_size.ensures in
    let o = c.objects_size.ensures in
    let fit = sizes-fit (start c.before.before).args.table.now (start c.before.before).requires in
    omega arith

add-result-4 : tie.Need-overflow_add-result-4
add-result-4 c =
    let p = c.predicates_size.ensures in
    let f = c.frames_size.ensures in
    let o = c.objects_size.ensures in
    let i = c.items_size.ensures in
    let start = start c.before.before.before in
    let fit = sizes-fit start.args.table.now start.requires in
    omega arith

add-result-5 : tie.Need-overflow_add-result-5
add-result-5 c =
    let p = c.predicates_size.ensures in
    let f = c.frames_size.ensures in
    let o = c.objects_size.ensures in
    let i = c.items_size.ensures in
    let n = c.needs_size.ensures in
    let start = start c.before.before.before.before in
    let fit = sizes-fit start.args.table.now start.requires in
    omega arith

abbrev entry : tie.After-pairs_size → tie.Start
entry c = start c.before.before.before.before.before

counted : (c : tie.After-pairs_size) →
    100 + c.predicates_size.result +
    c.frames_size.result + c.objects_size.result +
    c.items_size.result + c.needs_size.result + c.pairs_size.result ≡
    sizes_in (entry c).args.table.now
counted c =
    let p = c.predicates_size.ensures in
    let f = c.frames_size.ensures in
    let o = c.objects_size.ensures in
    let i = c.items_size.ensures in
    let n = c.needs_size.ensures in
    let q = c.pairs_size.ensures in
    omega arith

add-result-6 : tie.Need-overflow_add-result-6
add-result-6 c =
    let e = counted c in
    let fit = sizes-fit (entry c).args.table.now (entry c).requires in
    omega arith

returns : tie.Need-returns
returns c = counted c ∙ sym (pddl-sizes (entry c).args.table.now (entry c).requires)

pub pddl_size_spec : {M : Type 1} → statement M
pddl_size_spec =
    tie.close
    (tie.spec (λ c. search rules) (λ c. search rules) (λ c. search rules) (λ c. search rules) (λ c. search rules)
    (λ c κs. search rules) add-result (λ c κs. search rules) add-result-2 (λ c κs. search rules) add-result-3
    (λ c κs. search rules) add-result-4 (λ c κs. search rules) add-result-5 (λ c κs. search rules) add-result-6 returns)
