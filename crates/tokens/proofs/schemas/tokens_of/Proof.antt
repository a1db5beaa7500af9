-- `tokens::schemas::tokens_of` meets its contract: the token before a position is the definition's, by the later parts
-- of the schemas before.
use Rattle.tokens.proofs.schemas.tokens_of.Tie as tie
use Prim.Native.Nat.{ℕ, ◌+◌, ◌-◌, ◌≤◌, ◌<◌}
use mathlib.Core.Path.{◌≡◌, sym, ◌∙◌, ap}
use native.Mathlib.Omega.{arith}
use native.Mathlib.Numerals.{add-one}
use lib.ListN.{length, take}
use lib.Dec.{eqb}
use Rattle.task.specs.Layout.{head_in}
use Rattle.task.specs.Limits.{head_words, most_schemas, most_parts, most_predicates}
use Rattle.task.specs.Table.{task_of}
use Rattle.tokens.specs.Split.{procnone, orders, lone, later_parts}
use Rattle.tokens.specs.Kept.{kept_count, kept_first}
use Rattle.tokens.proofs.Accepted.{token_at, required-is, handed_on-is}
use Rattle.tokens.proofs.KeptSchema.{params-kept}
use Rattle.tokens.proofs.Splitting.{few-schemas, few-predicates, predicates-word, few-parts, params-inside}
use Rattle.tokens.proofs.Splitting.{schema-kept, few-before, kept-before, token-is}
use Rattle.tokens.proofs.schemas.tokens_of.Statement.{statement}

-- the places, one from the next
abbrev begun : tie.After-word-procnone → tie.Start
begun c = c.before.before

abbrev counted : tie.After-count_of-count → tie.After-word-procnone
counted c = c.before.before

abbrev read : tie.After-token_at → tie.After-count_of-count
read c = c.before.before

-- what is known where the function begins
record Known (c : tie.Start) : Type 0 where
  schema : c.args.s < most_schemas
  inside : head_words ≤ length c.args.table.now
  count : kept_count c.args.kept.now c.args.s ≡ length (orders (task_of c.args.table.now) c.args.s)
  position : c.args.j < kept_count c.args.kept.now c.args.s
  parts : kept_count c.args.kept.now c.args.s ≤ most_parts
  first : kept_first c.args.kept.now c.args.s ≡
      later_parts (take c.args.s (task_of c.args.table.now).schemas) + c.args.s
  tokens : (head_in c.args.table.now).predicates +
      later_parts (take c.args.s (task_of c.args.table.now).schemas) ≤ most_predicates

known : (c : tie.Start) → Known c
known c =
    let S = c.requires.0.1 in
    let s = c.args.s in
    let l = c.requires.1.0 in
    let h = c.requires.1.1 in
    let n = S.parts.count s l in
    record {
      schema = omega (arith, few-schemas S);
      inside = omega (arith, params-inside S s l);
      count = n;
      position = omega arith;
      parts = omega (arith, few-parts S s l);
      first = kept-before S s l;
      tokens = omega (arith, predicates-word S, few-predicates S, few-before S s l);
    }

-- the later parts of the schemas before
before-is : (c : tie.After-first_of) →
    let a = (begun c.before).args in
    c.first_of.result - a.s ≡ later_parts (take a.s (task_of a.table.now).schemas)
before-is c = omega (arith, c.first_of.ensures, (known (begun c.before)).first)

word-requires : tie.Need-word-procnone-requires
word-requires c κs = omega (arith, (known c.before).inside)

first-of-requires : tie.Need-first_of-requires
first-of-requires c κs = omega (arith, (known (begun c)).schema)

sub-before : tie.Need-overflow_sub-before
sub-before c = omega (arith, c.first_of.ensures, (known (begun c.before)).first)

count-of-requires : tie.Need-count_of-count-requires
count-of-requires c κs = (known (begun c.before)).schema

pars-at-requires : tie.Need-pars_at-pars-requires
pars-at-requires c κs = let k = known (begun (counted c)) in (k.schema, (k.position, k.parts))

token-at-requires : tie.Need-token_at-requires
token-at-requires c κs =
    let k = known (begun (counted c.before)) in
    let b = before-is c.before.before in
    let n = c.count_of-count.ensures in
    let p = (counted c.before).word-procnone.ensures.0 in
    (omega (arith, k.tokens, k.parts), omega (arith, k.position))

add-token-at : tie.Need-overflow_add-j
add-token-at c =
    let k = known (begun (counted (read c))) in
    omega (arith, k.position, k.parts)

token-at-requires-2 : tie.Need-token_at-requires-2
token-at-requires-2 c κs =
    let k = known (begun (counted (read c))) in
    let b = before-is (read c).before in
    let n = (read c).count_of-count.ensures in
    let p = (counted (read c)).word-procnone.ensures.0 in
    (omega (arith, k.tokens, k.parts), omega (arith, k.position))

returns : tie.Need-returns
unfolding lone procnone
returns c =
    let st = begun (counted (read c.before)) in
    let a = st.args in
    let S = st.requires.0.1 in
    let t = task_of a.table.now in
    let o = orders t a.s in
    let n = (read c.before).count_of-count.ensures ∙ (known st).count in
    let p = (counted (read c.before)).word-procnone.ensures.0 ∙ sym (predicates-word S) in
    let b = before-is (read c.before).before in
    let token : (i : ℕ) → _ ≡ token_at t a.s o i = λ i.
    token-is t a.s o (counted (read c.before)).word-procnone.result
    ((read c.before).first_of.result - a.s)
    (read c.before).count_of-count.result i p b n in
    record {
      alone = ap (λ (k : ℕ). eqb k 1) n;
      before = c.token_at.ensures ∙ token a.j ∙ sym (required-is t a.s o a.j st.requires.1.1);
      behind = c.token_at-2.ensures ∙ token (a.j + 1) ∙ ap (token_at t a.s o) (add-one a.j) ∙
          sym (handed_on-is t a.s o a.j);
      pars = c.pars_at-pars.ensures t o (params-kept (schema-kept S a.s st.requires.1.0));
    }

pub tokens_of_spec : {M : Type 1} → statement M
tokens_of_spec =
    tie.close
    (tie.spec word-requires first-of-requires sub-before count-of-requires pars-at-requires token-at-requires
    add-token-at token-at-requires-2 returns)
