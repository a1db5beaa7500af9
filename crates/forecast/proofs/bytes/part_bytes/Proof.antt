-- `forecast::bytes::part_bytes` meets its contract: its five sizes are those of the pieces that the part's schema is
-- the sum of. The sum fits a word, and so does each of them.
use Rattle.forecast.proofs.bytes.part_bytes.Tie as tie
use Prim.Native.Nat.{ℕ, ◌+◌, ◌^◌, ◌<◌}
use mathlib.Core.Path.{◌≡◌, sym, ◌∙◌, ap, ap₂, subst}
use native.Mathlib.Omega.{arith}
use borrow.Author.Rules.{rules}
use lib.ListN.{length}
use Rattle.words.specs.Sets.{members, word_bits}
use Rattle.words.proofs.Lists.{some-length}
use Rattle.task.specs.Task.{Task}
use Rattle.task.specs.Run.{schema_at}
use Rattle.task.specs.Table.{task_of}
use Rattle.text.specs.Lines.{bytes, digits, line}
use Rattle.tokens.specs.Split.{orders, split_schema}
use Rattle.tokens.specs.Kept.{SchemaKept}
use Rattle.tokens.proofs.KeptSchema.{schema-small, counted, kept-pairs, kept-pair-stretch}
use Rattle.tokens.proofs.Splitting.{well, ordered, schema-kept}
use Rattle.tokens.proofs.PartRoles.{PartOf}
use Rattle.tokens.proofs.PartSchemas.{requires-token}
use Rattle.tokens.proofs.WellSplit.{part_of}
use Rattle.forecast.specs.Counting.{atoms_bytes, part_line_bytes, old_here, part_tokens, pairs_bytes}
use Rattle.forecast.proofs.SplitText.{part_bytes}
use Rattle.forecast.proofs.PartText.{part-is}
use Rattle.forecast.proofs.bytes.part_bytes.Statement.{statement}

-- ---- the places, one from the next
abbrev start : tie.After-tokens_of-tokens → tie.Start
start c = c.before.before.before

abbrev told : tie.After-number_line_size-params → tie.After-tokens_of-tokens
told c = c.before.before.before.before

abbrev named : tie.After-pair_lines-pairs → tie.After-number_line_size-params
named c = c.before.before.before

abbrev task : tie.After-tokens_of-tokens → Task
task c = task_of (start c).args.table.now

kept : (s : tie.Start) → SchemaKept s.args.table.now s.args.s s.args.kept.now
kept s = schema-kept s.requires.0 s.args.s s.requires.1.0

part : (c : tie.After-tokens_of-tokens) →
    let a = (start c).args in
    PartOf (task c) a.s (orders (task c) a.s) a.j
part c =
    let s = start c in
    part_of (task c) (well s.requires.0) (ordered s.requires.0) s.args.s s.args.j s.requires.1.0 s.requires.1.1.0

-- ---- the pieces
abbrev param_bytes : tie.After-tokens_of-tokens → ℕ
param_bytes c = length (line "schema" (digits (length (members c.place_of-here.result.own word_bits))))

abbrev pair_bytes : tie.After-tokens_of-tokens → ℕ
pair_bytes c = pairs_bytes c.place_of-here.result.own (schema_at (task c) (start c).args.s).pairs

abbrev old_bytes : tie.After-tokens_of-tokens → ℕ
old_bytes c = atoms_bytes (old_here (start c).args.table.now c.place_of-here.result)

abbrev token_bytes : tie.After-tokens_of-tokens → ℕ
token_bytes c = atoms_bytes (part_tokens c.place_of-here.result c.tokens_of-tokens.result)

abbrev atom_count : tie.Start → ℕ
atom_count s =
    let t = task_of s.args.table.now in
    length (split_schema t s.args.s (orders t s.args.s) s.args.j).atoms

-- their sum
sum_is : (c : tie.After-tokens_of-tokens) →
    part_bytes (task c) (start c).args.s (start c).args.j ≡
    param_bytes c + pair_bytes c + (old_bytes c + token_bytes c) + part_line_bytes (atom_count (start c))
sum_is c =
    let a = (start c).args in
    let here = c.place_of-here in
    part-is a.table.now a.s a.j here.result here.ensures.0 (part c) c.tokens_of-tokens.result
    c.tokens_of-tokens.ensures

fits : (c : tie.After-tokens_of-tokens) →
    param_bytes c + pair_bytes c + (old_bytes c + token_bytes c) + part_line_bytes (atom_count (start c)) < 2 ^ 64
fits c = subst (λ (n : ℕ). n < 2 ^ 64) (sum_is c) (start c).requires.1.1.1

-- ---- what is counted of each
params-counted : (c : tie.After-number_line_size-params) → c.number_line_size-params.result ≡ param_bytes (told c)
unfolding line bytes
params-counted c =
    c.number_line_size-params.ensures ∙ ap (λ (n : ℕ). length (line "schema" (digits n))) c.size.ensures.0

pairs-counted : (c : tie.After-pair_lines-pairs) → c.pair_lines-pairs.result ≡ pair_bytes (told (named c))
pairs-counted c =
    let o = told (named c) in
    let e = kept-pairs (kept (start o)) c.pair_of.ensures c.pair_end_of.ensures in
    omega (arith, c.pair_lines-pairs.ensures, ap (pairs_bytes o.before.place_of-here.result.own) e)

parts-counted : (c : tie.After-part_line) →
    c.part_line.result ≡ part_line_bytes (atom_count (start (told (named c.before.before.before.before))))
parts-counted c = c.part_line.ensures ∙ ap part_line_bytes c.part_size.ensures.0

-- ---- the needs
number-line-size-requires : tie.Need-number_line_size-params-requires
unfolding line bytes
number-line-size-requires c κs =
    let e = ap (λ (n : ℕ). length (line "schema" (digits n))) c.size.ensures.0 in
    omega (arith, fits c.before.before.before, e)

pair-of-requires : tie.Need-pair_of-requires
pair-of-requires c κs = omega (arith, schema-small (kept (start (told c))))

pair-end-of-requires : tie.Need-pair_end_of-requires
pair-end-of-requires c κs = schema-small (kept (start (told c.before)))

pair-lines-requires : tie.Need-pair_lines-pairs-requires
pair-lines-requires c κs =
    let o = told c.before.before in
    let begins = c.pair_of.ensures in
    let stops = c.pair_end_of.ensures in
    let e = ap (pairs_bytes o.place_of-here.result.own) (kept-pairs (kept (start o)) begins stops) in
    (kept-pair-stretch (kept (start o)) begins stops, omega (arith, fits o, e))

old-lines-requires : tie.Need-old_lines-requires
old-lines-requires c κs =
    let o = told (named c) in
    (o.before.place_of-here.ensures.0.roles.stretch, omega (arith, fits o))

token-lines-requires : tie.Need-token_lines-requires
token-lines-requires c κs =
    let o = told (named c.before) in
    let place = o.before.place_of-here.ensures.0 in
    (place.few, (place.low, omega (arith, fits o)))

add-atoms : tie.Need-overflow_add-atoms
add-atoms c =
    omega (arith, fits (told (named c.before.before)), c.old_lines.ensures, c.token_lines.ensures)

add-result : tie.Need-overflow_add-result
add-result c =
    let p = c in
    omega (arith, fits (told (named p.before.before)), params-counted (named p.before.before), pairs-counted p.before.before)

add-result-2 : tie.Need-overflow_add-result-2
add-result-2 c =
    let p = c in
    omega (
      arith,
      fits (told (named p.before.before)),
      params-counted (named p.before.before),
      pairs-counted p.before.before,
      c.old_lines.ensures,
      c.token_lines.ensures,
    )

part-size-requires : tie.Need-part_size-requires
part-size-requires c κs =
    let s = start (told (named c.before.before)) in
    (kept s, omega (arith, counted (kept s), s.requires.1.1.0))

part-line-requires : tie.Need-part_line-requires
part-line-requires c κs =
    let o = told (named c.before.before.before) in
    let some = some-length (requires-token _ _ _ _ (part o)) in
    (omega (arith, c.part_size.ensures.0, some), c.part_size.ensures.1)

returns : tie.Need-returns
returns c =
    let o = c in
    let p = o in
    ap₂ ◌+◌
    (ap₂ ◌+◌ (ap₂ ◌+◌ (params-counted (named p.before.before.before.before)) (pairs-counted p.before.before.before.before))
    (ap₂ ◌+◌ o.old_lines.ensures o.token_lines.ensures))
    (parts-counted c) ∙
    sym (sum_is (told (named p.before.before.before.before)))

add-result-3 : tie.Need-overflow_add-result-3
add-result-3 c = omega (arith, returns c, (start (told (named c.before.before.before.before))).requires.1.1.1)

pub part_bytes_spec : {M : Type 1} → statement M
part_bytes_spec =
    tie.close
    (tie.spec (λ c κs. search rules) (λ c κs. search rules) (λ c κs. search rules) (λ c. search rules)
    number-line-size-requires pair-of-requires pair-end-of-requires pair-lines-requires old-lines-requires
    token-lines-requires add-atoms add-result add-result-2 part-size-requires part-line-requires add-result-3
    returns)
