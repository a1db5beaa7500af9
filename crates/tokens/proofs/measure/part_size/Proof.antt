-- `tokens::measure::part_size` meets its contract: what it adds up are the sizes of the lists that the part's schema is
-- made of. Each is small, so no sum is too large.
use Rattle.tokens.proofs.measure.part_size.Tie as tie
use borrow.Author.Rules.{rules}
use Prim.Native.Nat.{ℕ, ◌+◌, ◌≤◌, ◌<◌}
use mathlib.Core.Path.{◌≡◌, ap}
use mathlib.Core.Bool.{Bool, cond}
use native.Mathlib.Omega.{arith}
use lib.ListN.{length}
use lib.Dec.{eqb}
use borrow.Author.Tests.{eq-eqb, ne_eqb}
use Rattle.task.specs.Table.{task_of}
use Rattle.words.specs.Sets.{members, word_bits}
use Rattle.tokens.specs.Split.{orders, split_schema}
use Rattle.tokens.proofs.KeptSchema.{schema-small, count_small, kept-stretch, stretch-small, params-kept}
use Rattle.tokens.proofs.SplitSizes.{part-counted}
use Rattle.tokens.proofs.measure.part_size.Statement.{statement}
use Rattle.task.specs.Limits.{most_schemas, most_parts, most_atoms}
use Rattle.tokens.specs.Kept.{kept_count}

-- the places, one from the next
abbrev begun : tie.After-start_of → tie.Start
begun c = c.before.before

abbrev ended : tie.After-atoms_in-old → tie.After-end_of
ended c = c.before.before

abbrev sized : tie.After-size-3 → tie.After-pars_at-pars
sized c = c.before.before.before.before.before

-- what is known of the schema, at the start
record Small (s : tie.Start) : Type 0 where
  schema : s.args.s < most_schemas
  position : s.args.j < most_parts
  parts : kept_count s.args.kept.now s.args.s ≤ most_parts

small : (s : tie.Start) → Small s
small s =
    let l = s.requires.1 in
    let n = count_small s.requires.0 in
    record { schema = schema-small s.requires.0; position = omega arith; parts = n }

-- its old atoms are few
old-few : (c : tie.After-atoms_in-old) → c.atoms_in-old.result ≤ most_atoms
old-few c =
    let begins = (ended c).start_of.ensures in
    let stops = (ended c).end_of.ensures in
    omega (arith, c.atoms_in-old.ensures.1, stretch-small (begun (ended c).before).requires.0 begins stops)

-- the tokens but the first, as one part has them and as several have
abbrev tokens : tie.After-pars_at-pars → Bool → ℕ
tokens c b =
    let r = c.pars_at-pars.result in
    cond b 0 (1 + length (members r.first word_bits) + (1 + length (members r.last word_bits)))

counted : (c : tie.After-pars_at-pars) →
    let s = begun (ended c.before).before in
    let t = task_of s.args.table.now in
    length (split_schema t s.args.s (orders t s.args.s) s.args.j).atoms ≡
    c.atoms_in-old.result + 1 + length (members c.pars_at-pars.result.later word_bits) +
    tokens c (eqb (kept_count s.args.kept.now s.args.s) 1)
counted c =
    let s = begun (ended c.before).before in
    let a = s.args in
    let t = task_of a.table.now in
    let K = s.requires.0 in
    part-counted K (ended c.before).start_of.ensures (ended c.before).end_of.ensures
    c.part_at.result.0 a.j c.part_at.ensures
    s.requires.1 c.pars_at-pars.result c.atoms_in-old.result
    (c.pars_at-pars.ensures t (orders t a.s) (params-kept K)) c.atoms_in-old.ensures.0

start-of-requires : tie.Need-start_of-requires
start-of-requires c κs = omega (arith, (small c.before).schema)

end-of-requires : tie.Need-end_of-requires
end-of-requires c κs = (small (begun c)).schema

part-at-requires : tie.Need-part_at-requires
part-at-requires c κs = let k = small (begun c.before) in (k.schema, k.position)

atoms-in-requires : tie.Need-atoms_in-old-requires
atoms-in-requires c κs =
    kept-stretch (begun c.before.before).requires.0 c.start_of.ensures
    c.end_of.ensures

pars-at-requires : tie.Need-pars_at-pars-requires
pars-at-requires c κs = let s = begun (ended c).before in let k = small s in (k.schema, (s.requires.1, k.parts))

add-required : tie.Need-overflow_add-required
add-required c = omega (arith, old-few c.before)

add-required-2 : tie.Need-overflow_add-required-2
add-required-2 c = omega (arith, old-few c.before.before)

count-of-requires : tie.Need-count_of-requires
count-of-requires c κs = (small (begun (ended c.before.before).before)).schema

returns : tie.Need-returns-then-count_of-eq1
returns c =
    let s = begun (ended c.before.before.before.before).before in
    let p = c in
    let e = counted p.before.before.before in
    let n = old-few p.before.before.before.before in
    let m = c.size.ensures in
    let k = c.count_of.ensures in
    let one = ap (tokens p.before.before.before) (eq-eqb (kept_count s.args.kept.now s.args.s) 1 (omega (arith, c.if-count_of-eq1.true))) in
    (omega arith, omega arith)

add-result-4 : tie.Need-overflow_add-result-4
add-result-4 c = omega (arith, old-few (sized c).before)

returns-2 : tie.Need-returns
returns-2 c =
    let s = begun (ended (sized c).before).before in
    let p = sized c in
    let e = counted p in
    let n = old-few p.before in
    let k = c.count_of.ensures in
    let more = ap (tokens p) (ne_eqb (kept_count s.args.kept.now s.args.s) 1
    (λ z. c.if-count_of-eq1.false (omega arith))) in
    let x = c.size.ensures in
    let y = c.size-2.ensures in
    let v = c.size-3.ensures in
    (omega arith, omega arith)

pub part_size_spec : {M : Type 1} → statement M
part_size_spec =
    tie.close
    (tie.spec start-of-requires end-of-requires part-at-requires atoms-in-requires pars-at-requires add-required
    (λ c κs. search rules) add-required-2 count-of-requires returns (λ c κs. search rules) (λ c. search rules)
    (λ c κs. search rules) (λ c. search rules) (λ c. search rules) add-result-4 returns-2)
