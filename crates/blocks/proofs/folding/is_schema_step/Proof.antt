-- `blocks::folding::is_schema_step` meets its contract: of a whole step of a known schema its two tests are what is
-- left to tell (`split-whole`), by the parameters and the pairs noted (`split-few`, `rows_inside`, `rows-small`).
use Rattle.blocks.proofs.folding.is_schema_step.Tie as tie
use Prim.Native.Nat.{ℕ, ◌+◌, ◌*◌, ◌<◌}
use mathlib.Core.Path.{◌≡◌, sym, ◌∙◌, ap}
use mathlib.Core.Bool.{Bool, true, false, ◌&&◌}
use native.Mathlib.Omega.{arith}
use lib.ListN.{length, get_or}
use borrow.Author.Rules.{rules}
use borrow.Author.Tests.{not-false}
use Rattle.words.specs.Lists.{all, up_from, up_to}
use Rattle.task.specs.Limits.{step_size}
use Rattle.task.specs.Task.{Task}
use Rattle.task.specs.Run.{is_step_at}
use Rattle.task.specs.StepTests.{objects_then_zeros, apart_at}
use Rattle.tokens.specs.Split.{split_task, first_of}
use Rattle.blocks.specs.FoldCode.{StepsKnown}
use Rattle.blocks.proofs.SplitTests.{split-few, rows_inside, rows-small, split-whole}
use Rattle.blocks.proofs.folding.is_schema_step.Statement.{statement}

abbrev Known : tie.Start → Task → Type 0
Known s t = StepsKnown t s.args.params.now s.args.limits.now s.args.pairs.now

abbrev Small : tie.Start → Task → Type 0
Small s t = s.args.number < first_of t (length t.schemas)

-- the step's test at each row of pairs
abbrev apart : tie.Start → ℕ → Bool
apart s count =
    let a = s.args in all (apart_at a.pairs.now 1 a.steps.now (step_size * a.i + 1) a.number) (up_to count)

-- both tests, once the first is made
abbrev start : tie.After-are_within → tie.Start
start c = c.before.before.before.before.before

told : (c : tie.After-are_within) (within : Bool) → c.are_within.result ≡ within → (t : Task) → Known (start c) t →
    Small (start c) t → let s = start c in
    within && apart s (get_or s.args.pairs.now 0 0) ≡ is_step_at (split_task t) s.args.steps.now s.args.i
told c within d t S l =
    let s = start c in
    let a = s.args in
    split-whole S a.steps.now a.i a.number s.requires.1.0 s.requires.0 l
    (λ o e. sym d ∙ (c.are_within.ensures o e ∙
    ap (objects_then_zeros o a.steps.now (step_size * a.i + 1)) c.wide.ensures))

are-within-requires : tie.Need-are_within-requires
are-within-requires c κs =
    let s = c in
    let (t, S, l) = s.requires.1.1 in
    let e = c.wide.ensures in
    let n = split-few S s.args.number l in
    (s.requires.0, omega arith)

returns : tie.Need-returns-then-not-are_within
returns c = told c.before false c.if-not-are_within.true

-- past the first test, with the count of pairs
abbrev passed : tie.After-wide-count → tie.Else-not-are_within
passed c = c.before.before.before

rest : (c : tie.After-wide-count) (t : Task) → let s = start (passed c).before in Known s t → Small s t →
    apart s c.wide-count.result ≡ is_step_at (split_task t) s.args.steps.now s.args.i
rest c t S l =
    ap (apart (start (passed c).before)) c.wide-count.ensures ∙
    told (passed c).before true (not-false _ (passed c).if-not-are_within.false-raw) t S l

returns-2 : tie.Need-returns-then-count-eq0
unfolding all up_to up_from
returns-2 c = λ t S l.
    let s = start (passed c.before).before in
    ap (apart s) (sym c.if-count-eq0.true) ∙ rest c.before t S l

keep-apart-requires : tie.Need-keep_apart-requires
keep-apart-requires c κs =
    let d = c in
    let s = start (passed d.before.before).before in
    let (t, S, l) = s.requires.1.1 in
    let e = d.wide-count.ensures in
    let n = rows_inside S in
    (omega arith, (λ i k. rows-small S i (omega arith), s.requires.0))

returns-3 : tie.Need-returns
returns-3 c = λ t S l. c.keep_apart.ensures ∙ rest c.before.before.before t S l

pub is_schema_step_spec : {M : Type 1} → statement M
is_schema_step_spec =
    tie.close
    (tie.spec (λ c. search rules) (λ c. search rules) (λ c. search rules) (λ c κs. search rules) are-within-requires
    returns (λ c. search rules) (λ c κs. search rules) returns-2 keep-apart-requires returns-3)
