-- `task::table::schemas::schema_fits` meets its contract.
-- The tests of a schema in turn: each that fails fails the whole, and the last decides.
use Prim.Native.Nat.{ℕ, ◌-◌}
use mathlib.Core.Path.{◌≡◌, sym, ◌∙◌, ap}
use mathlib.Core.Bool.{Bool, true, false}
use mathlib.Core.List.{List}
use native.Mathlib.Omega.{arith}
use lib.ListN.{get_or}
use borrow.Author.Tests.{le-leb, lt-leb}
use Rattle.words.specs.Lists.{all, any, every, up_to, up_from}
use Rattle.task.specs.Layout.{params_in}
use Rattle.task.specs.Task.{names}
use Rattle.task.specs.WordTests.{arg_words_fit, atoms_in, pairs_in, pairs_fit, schema_words_fit, KnownIn}
use Rattle.words.proofs.Lists.{met-none, met-more}
use Rattle.words.proofs.Ranges.{some-fails, last-decides, all_from}
use Rattle.task.proofs.AtomWords.{args-fit-known}
use Rattle.task.proofs.SchemaWords.{order_tests, schema-words}
use borrow.Author.Rules.{rules}
use Rattle.task.proofs.table.schemas.schema_fits.Statement.{statement}
use Rattle.task.proofs.table.schemas.schema_fits.Tie as tie

-- the function's start, seen from behind the parameter count and each test
abbrev start₁ : tie.After-params_of-params → tie.Start
start₁ c = c.before.before

abbrev start₂ : tie.After-roles_ascend → tie.Start
start₂ c = start₁ c.before.before.before.before

abbrev start₃ : tie.After-atoms_fit → tie.Start
start₃ c = start₂ c.before.before

abbrev start₄ : tie.After-atoms_differ → tie.Start
start₄ c = start₃ c.before.before

abbrev start₅ : tie.After-all_named → tie.Start
start₅ c = start₄ c.before.before

abbrev start₆ : tie.After-parts_fit → tie.Start
start₆ c = start₅ c.before.before

abbrev words : tie.Start → List ℕ
words c = c.args.table.now

abbrev many : tie.Start → ℕ
many c = c.args.end - c.args.first

abbrev indices : tie.Start → List ℕ
indices c = up_from c.args.first (many c)

abbrev pairs_many : tie.Start → ℕ
pairs_many c = c.args.stop - c.args.pair

abbrev fits : tie.Start → Bool
fits c = schema_words_fit (words c) c.args.s (up_from c.args.pair (pairs_many c)) (indices c)

abbrev tests : tie.Start → List Bool
tests c = order_tests (words c) c.args.s c.args.pair (pairs_many c) c.args.first (many c)

whole : (c : tie.Start) → fits c ≡ every (tests c)
whole c = schema-words (words c) c.args.s c.args.pair (pairs_many c) c.args.first (many c)

fails : (c : tie.Start) (k : ℕ) → get_or (tests c) k true ≡ false → false ≡ fits c
fails c k e = some-fails (tests c) k e ∙ sym (whole c)

params : (c : tie.After-params_of-params) → c.params_of-params.result ≡ params_in (words (start₁ c)) (start₁ c).args.s
params c = c.params_of-params.ensures.0

-- the tests by the parameter count that was read are those by the schema's
args_are : (c : tie.After-atoms_fit) → c.atoms_fit.result ≡ get_or (tests (start₃ c)) 4 true
args_are c =
    let start = start₃ c in
    c.atoms_fit.ensures ∙
    ap (λ (n : ℕ). all (arg_words_fit (words start) n) (indices start))
    (params c.before.before.before.before.before.before)

named-are : (c : tie.After-all_named) → c.all_named.result ≡ get_or (tests (start₅ c)) 6 true
named-are c =
    let start = start₅ c in
    let args = c in
    c.all_named.ensures ∙
    ap (λ (n : ℕ). all (λ x. any (names x) (atoms_in (words start) start.args.first (many start))) (up_to n))
    (params args.before.before.before.before.before.before.before.before.before.before)

-- each atom has a known predicate
known : (c : tie.Else-not-atoms_fit) → KnownIn (words (start₃ c.before)) (start₃ c.before).args.first
    (start₃ c.before).args.end
known c i l m =
    let start = start₃ c.before in
    let n = c.params_of-params.result in
    args-fit-known (words start) n i (all_from (arg_words_fit (words start) n) start.args.first (many start)
    (sym c.atoms_fit.ensures ∙ c.if-not-atoms_fit.false) i l (omega arith))

returns : tie.Need-returns-then-params-gt-MOST_PARAMETERS
returns c =
    let start = start₁ c.before in
    let e = params c.before in
    fails start 0 (lt-leb (params_in (words start) start.args.s) 12 (omega arith))

returns-2 : tie.Need-returns-then-end-first-lt1
returns-2 c = let start = start₁ c.before.before in fails start 1 (lt-leb 1 (many start) (omega arith))

returns-3 : tie.Need-returns-then-end-first-gt-MOST_ATOMS
returns-3 c = let start = start₁ c.before.before.before in fails start 2 (lt-leb (many start) 64 (omega arith))

returns-4 : tie.Need-returns-then-not-roles_ascend
returns-4 c = fails (start₂ c.before) 3 (sym c.roles_ascend.ensures ∙ c.if-not-roles_ascend.true)

returns-5 : tie.Need-returns-then-not-atoms_fit
returns-5 c = fails (start₃ c.before) 4 (sym (args_are c.before) ∙ c.if-not-atoms_fit.true)

atoms-differ-requires : tie.Need-atoms_differ-requires
atoms-differ-requires c κs =
    let start = start₃ c.before in
    let roles = c in
    let rise = sym roles.roles_ascend.ensures ∙ roles.if-not-roles_ascend.false in
    (start.requires.0, ((omega arith, omega arith), (known c, rise)))

returns-6 : tie.Need-returns-then-not-atoms_differ
returns-6 c = fails (start₄ c.before) 5 (sym c.atoms_differ.ensures ∙ c.if-not-atoms_differ.true)

all-named-requires : tie.Need-all_named-requires
all-named-requires c κs =
    let args = c in
    let fit = sym args.atoms_fit.ensures ∙ args.if-not-atoms_fit.false in
    ((start₄ c.before).requires.0, ((omega arith, omega arith), fit))

returns-7 : tie.Need-returns-then-not-all_named
returns-7 c = fails (start₅ c.before) 6 (sym (named-are c.before) ∙ c.if-not-all_named.true)

returns-8 : tie.Need-returns-then-not-parts_fit
returns-8 c = fails (start₆ c.before) 7 (sym c.parts_fit.ensures ∙ c.if-not-parts_fit.true)

pairs-fit-requires : tie.Need-pairs_fit-requires
pairs-fit-requires c κs = let start = start₆ c.before in (start.requires.0, start.requires.1.1.0)

returns-9 : tie.Need-returns
returns-9 c =
    let parts = c in
    let named = parts in
    let apart = named in
    let args = apart in
    let roles = args in
    let start = start₆ parts.before.before in
    let e = params roles.before.before.before.before.before.before.before.before.before.before.before.before.before.before in
    let last = ap (λ (n : ℕ). pairs_fit n (pairs_in (words start) start.args.pair (pairs_many start))) e in
    c.pairs_fit.ensures ∙ (last ∙ (last-decides _
    (met-more (le-leb (params_in (words start) start.args.s) 12 (omega arith))
    (met-more (le-leb 1 (many start) (omega arith))
    (met-more (le-leb (many start) 64 (omega arith))
    (met-more (sym roles.roles_ascend.ensures ∙ roles.if-not-roles_ascend.false)
    (met-more (sym (args_are args.before.before.before.before.before.before.before.before) ∙ args.if-not-atoms_fit.false)
    (met-more (sym apart.atoms_differ.ensures ∙ apart.if-not-atoms_differ.false)
    (met-more (sym (named-are named.before.before.before.before) ∙ named.if-not-all_named.false)
    (met-more (sym parts.parts_fit.ensures ∙ parts.if-not-parts_fit.false) met-none)))))))) ∙
    sym (whole start)))

pub schema_fits_spec : {M : Type 1} → statement M
schema_fits_spec =
    tie.close
    (tie.spec (λ c κs. search rules) returns (λ c. search rules) returns-2 (λ c. search rules) returns-3
    (λ c κs. search rules) returns-4 (λ c κs. search rules) returns-5 atoms-differ-requires returns-6 all-named-requires
    returns-7 (λ c κs. search rules) returns-8 pairs-fit-requires returns-9)
