-- `tokens::schemas::place_of` meets its contract: what is read of the row and of the table is the place of the part.
-- The numbers of a part of an accepted split are small (`Small`), so no sum and no cast is too large.
use Rattle.tokens.proofs.schemas.place_of.Tie as tie
use Prim.Native.Nat.{ℕ, ◌+◌, ◌≤◌, ◌<◌}
use mathlib.Core.Path.{ap}
use native.Mathlib.Omega.{arith}
use lib.ListN.{length}
use Rattle.task.specs.Layout.{head_in, params_base}
use Rattle.task.specs.Limits.{most_schemas, most_parts, most_predicates}
use Rattle.tokens.specs.Kept.{kept_first}
use Rattle.tokens.proofs.Splitting.{few-schemas, few-predicates, predicates-word, few-parts, params-inside}
use Rattle.tokens.proofs.Splitting.{place_is, kept-few}
use Rattle.tokens.proofs.schemas.place_of.Statement.{statement}

-- the places, one from the next
abbrev begun : tie.After-word-procnone → tie.Start
begun c = c.before.before

abbrev counted : tie.After-own_at → tie.After-word-procnone
counted c = c.before.before.before.before

abbrev read : tie.After-first_of → tie.After-own_at
read c = c.before.before

-- what is small where the function begins
record Small (c : tie.Start) : Type 0 where
  schema : c.args.s < most_schemas
  position : c.args.j < most_parts
  inside : params_base c.args.table.now + c.args.s < length c.args.table.now
  tokens : (head_in c.args.table.now).predicates + c.args.sizes.later + 1 ≤ most_predicates
  number : kept_first c.args.kept.now c.args.s ≤ most_schemas

small : (c : tie.Start) → Small c
small c =
    let S = c.requires.0 in
    let l = c.requires.1.0 in
    let h = c.requires.1.1 in
    let e = S.sized.later in
    record {
      schema = omega (arith, few-schemas S);
      position = omega (arith, few-parts S c.args.s l);
      inside = params-inside S c.args.s l;
      tokens = omega (arith, predicates-word S, few-predicates S);
      number = kept-few S c.args.s l;
    }

word-requires : tie.Need-word-procnone-requires
word-requires c κs = omega (arith, (small c.before).inside)

start-of-requires : tie.Need-start_of-requires
start-of-requires c κs = omega (arith, (small (begun c)).schema)

end-of-requires : tie.Need-end_of-requires
end-of-requires c κs = (small (begun c.before)).schema

part-at-requires : tie.Need-part_at-requires
part-at-requires c κs = let k = small (begun c.before.before) in (k.schema, k.position)

own-at-requires : tie.Need-own_at-requires
own-at-requires c κs = let k = small (begun c.before.before.before) in (k.schema, k.position)

params-of-requires : tie.Need-params_of-requires
params-of-requires c κs = (small (begun (counted c))).inside

first-of-requires : tie.Need-first_of-requires
first-of-requires c κs = omega (arith, (small (begun (counted c.before))).schema)

add-t13 : tie.Need-overflow_add-result
add-t13 c =
    let k = small (begun (counted (read c))) in
    omega (arith, c.first_of.ensures, k.number, k.position)

cast-t14 : tie.Need-overflow_cast-result
cast-t14 c =
    let k = small (begun (counted (read c))) in
    omega (arith, c.first_of.ensures, k.number, k.position)

add-t15 : tie.Need-overflow_add-result-2
add-t15 c =
    let k = (small (begun (counted (read c.before)))).tokens in
    omega (arith, (counted (read c.before)).word-procnone.ensures.0)

add-t16 : tie.Need-overflow_add-result-3
add-t16 c =
    let k = (small (begun (counted (read c.before)))).tokens in
    omega (arith, (counted (read c.before)).word-procnone.ensures.0)

cast-t17 : tie.Need-overflow_cast-result-2
cast-t17 c =
    let k = (small (begun (counted (read c.before)))).tokens in
    omega (arith, (counted (read c.before)).word-procnone.ensures.0)

returns : tie.Need-returns
returns c =
    let st = begun (counted (read c.before)) in
    let a = st.args in
    let w = a.table.now in
    let p = (counted (read c.before)).word-procnone.ensures.0 in
    let e = st.requires.0.sized.later in (
      place_is st.requires.0 a.s st.requires.1.0 a.j st.requires.1.1 _
          (read c.before).start_of.ensures
          (read c.before).end_of.ensures
          (read c.before).part_at.ensures
          (read c.before).own_at.ensures
          c.params_of.ensures.0
          (omega arith),
      ap (λ (n : ℕ). n + a.j) c.first_of.ensures,
    )

pub place_of_spec : {M : Type 1} → statement M
place_of_spec =
    tie.close
    (tie.spec word-requires start-of-requires end-of-requires part-at-requires own-at-requires params-of-requires
    first-of-requires add-t13 cast-t14 add-t15 add-t16 cast-t17 returns)
