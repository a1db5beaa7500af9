-- `blocks::folding::part_fits` meets its contract. What isn't whole, or whose objects aren't the task's, is no step of
-- the split (`split-short`, `split-apart`), and so no part (`part-not-step`); nor is one of another schema
-- (`part-other`). One of this schema that is a step of the split is the part if its objects are those that the block
-- gives (`part_same`), as `agree` tells (`part-agrees`). Those stand at or before it (`part-near`), so they are there.
use Rattle.blocks.proofs.folding.part_fits.Tie as tie
use Prim.Native.Nat.{ℕ, ◌+◌, ◌*◌, ◌≤◌, ◌<◌}
use mathlib.Core.Path.{◌≡◌, refl, sym, ◌∙◌, ap}
use mathlib.Core.List.{List}
use native.Mathlib.Omega.{arith}
use lib.ListN.{length, get_or}
use borrow.Author.Rules.{rules}
use Rattle.task.specs.Limits.{step_size}
use Rattle.task.specs.Task.{Task}
use Rattle.task.specs.Run.{is_step_at}
use Rattle.task.specs.StepTests.{objects_then_zeros}
use Rattle.tokens.specs.Split.{orders, split_task, first_of}
use Rattle.blocks.specs.FoldCode.{BlocksKnown, KeepApart}
use Rattle.blocks.proofs.SplitParams.{part-number}
use Rattle.blocks.proofs.Places.{part-few, part-near, part-agrees}
use Rattle.blocks.proofs.SplitTests.{split-short, split-few, split-apart}
use Rattle.blocks.proofs.FoldWords.{part-not-step, part-other, part_same}
use Rattle.blocks.proofs.folding.part_fits.Statement.{statement}

-- ---- what is known at each place
abbrev Known : tie.Start → Task → List ℕ → List ℕ → Type 0
Known c t os ps =
    let a = c.args in BlocksKnown t a.kept.now a.params.now os a.places.now a.limits.now ps

abbrev Apart : tie.Start → Task → Type 0
Apart c t = KeepApart t c.args.steps.now

abbrev Position : tie.Start → Task → Type 0
Position c t = (c.args.s < length t.schemas) × (c.args.j < length (orders t c.args.s))

abbrev words : tie.Start → List ℕ
words c = c.args.steps.now

abbrev place : tie.Start → ℕ
place c = c.args.i + c.args.j

within : (c : tie.Start) → (c.args.s < 200) × (c.args.j < 16)
within c =
    let (t, os, ps, K, A, l, m, w) = c.requires in
    let n = K.blocks.few-schemas in
    let q = K.blocks.few-parts c.args.s l in
    (omega arith, omega arith)

before : (c : tie.Start) → step_size * place c ≤ length (words c)
before c = let (t, os, ps, K, A, l, m, w) = c.requires in w

-- the part's number
abbrev from : tie.After-first_of → tie.Start
from c = c.before.before.before

first-is : (c : tie.After-first_of) (t : Task) (os : List ℕ) {ps : List ℕ} → Known (from c) t os ps →
    (from c).args.s < length t.schemas →
    c.first_of.result ≡ first_of t (from c).args.s
first-is c t os K l = c.first_of.ensures ∙ K.blocks.first (from c).args.s (omega arith)

number_is : (c : tie.After-first_of) (t : Task) (os : List ℕ) {ps : List ℕ} → Known (from c) t os ps →
    (from c).args.s < length t.schemas →
    c.first_of.result + (from c).args.j ≡ first_of t (from c).args.s + (from c).args.j
number_is c t os K l = ap (λ (n : ℕ). n + (from c).args.j) (first-is c t os K l)

number : (c : tie.After-first_of) → c.first_of.result + (from c).args.j < 200
number c =
    let (t, os, ps, K, A, l, m, w) = (from c).requires in
    let e = first-is c t os K l in
    let n = part-number K.blocks (from c).args.s (from c).args.j l m in
    let q = K.blocks.few-splits in
    omega arith

whole : (c : tie.Else-steps-at-lt-STEP_SIZE) → step_size * place c.before.before + step_size ≤ length (words c.before.before)
whole c = let (t, os, ps, K, A, l, m, w) = c.requires in let n = c.if-steps-at-lt-STEP_SIZE.false in omega arith

-- it is of this number
abbrev numbered : tie.Else-schema_at-number → tie.After-first_of
numbered c = c.before.before

abbrev start : tie.Else-schema_at-number → tie.Start
start c = from (numbered c)

here : (c : tie.Else-schema_at-number) (t : Task) (os : List ℕ) {ps : List ℕ} → Known (start c) t os ps →
    (start c).args.s < length t.schemas →
    get_or (words (start c)) (step_size * place (start c)) 0 ≡ first_of t (start c).args.s + (start c).args.j
here c t os K l =
    let e = c.schema_at.ensures in
    let f = c.if-schema_at-number.false in
    let g = first-is (numbered c) t os K l in
    omega arith

known : (c : tie.Else-schema_at-number) (t : Task) (os : List ℕ) {ps : List ℕ} → Known (start c) t os ps → Position (start c) t →
    get_or (words (start c)) (step_size * place (start c)) 0 < first_of t (length t.schemas)
known c t os K (l, m) =
    let e = here c t os K l in
    let n = part-number K.blocks (start c).args.s (start c).args.j l m in
    omega arith

-- the parameters noted for its schema
count : (c : tie.After-wide) → let s = start c.before.before.before in
    c.wide.result ≡ get_or s.args.params.now (get_or (words s) (step_size * place s) 0) 0
count c =
    let d = c in
    let e = d.schema_at.ensures in
    c.wide.ensures ∙ ap (λ (n : ℕ). get_or (start d.before.before.before).args.params.now n 0) (sym d.if-schema_at-number.false ∙ e)

-- whether it is a step of the split
abbrev tested : tie.After-are_within → tie.Else-schema_at-number
tested c = c.before.before.before.before

told : (c : tie.After-are_within) (t : Task) (os : List ℕ) {ps : List ℕ} → Known (start (tested c)) t os ps →
    Apart (start (tested c)) t → Position (start (tested c)) t →
    c.are_within.result ≡ is_step_at (split_task t) (words (start (tested c))) (place (start (tested c)))
told c t os K A p =
    let d = tested c in
    let s = start d in
    split-apart K.known (words s) (place s) A _ refl (whole (numbered d).before) (known d t os K p)
    (λ o e. c.are_within.ensures o e
    ∙ ap (objects_then_zeros o (words s) (step_size * place s + 1)) (count c.before))

-- ---- the tests
returns : tie.Need-returns-then-steps-at-lt-STEP_SIZE
returns c = λ t os ps K A l m.
    let s = c in
    let (t₀, os₀, ps₀, K₀, A₀, l₀, m₀, w) = s.requires in
    let n = c.if-steps-at-lt-STEP_SIZE.true in
    sym (part-not-step K.blocks K.origin (words s.before.before) s.args.i s.args.s l s.args.j m
    (split-short K.known (words s.before.before) (place s.before.before) (omega arith)))

returns-2 : tie.Need-returns-then-schema_at-number
returns-2 c = λ t os ps K A l m.
    let d = c in
    let s = from d.before.before in
    let e = c.schema_at.ensures in
    let g = first-is d.before.before t os K l in
    sym (part-other K.blocks K.origin (words s) s.args.i s.args.s l s.args.j m
    (λ n. c.if-schema_at-number.true (omega arith)))

are-within-requires : tie.Need-are_within-requires
are-within-requires c κs =
    let d = c in
    let (t, os, ps, K, A, l, m, w) = (start d.before.before.before).requires in
    let e = count c in
    let n = split-few K.known _ (known d.before.before.before t os K (l, m)) in
    (whole (numbered d.before.before.before).before, omega arith)

returns-3 : tie.Need-returns-then-not-are_within
returns-3 c = λ t os ps K A l m.
    let d = c in
    let s = start (tested d.before) in
    sym (part-not-step K.blocks K.origin (words s) s.args.i s.args.s l s.args.j m
    (sym (told d.before t os K A (l, m)) ∙ c.if-not-are_within.true))

-- ---- the objects decide
abbrev begun : tie.Else-not-are_within → tie.Start
begun c = start (tested c.before)

agree-requires : tie.Need-agree-requires
agree-requires c κs =
    let d = numbered (tested c.before.before) in
    let s = from d in
    let (t, os, ps, K, A, l, m, w) = s.requires in
    let e = number_is d t os K l in
    let q = whole d.before in (
      q,
      (
        (number d, part-few K s.args.s s.args.j _ l m e),
        λ k a. let n = part-near K s.args.s s.args.j _ l m e k a in omega arith,
      ),
    )

returns-4 : tie.Need-returns
returns-4 c = λ t os ps K A l m.
    let o = c in
    let d = o in
    let s = start (tested d.before.before.before) in
    let a = s.args in
    c.agree.ensures
    ∙ (part-agrees K a.s a.j _ l m (number_is (numbered (tested d.before.before.before)) t os K l) (words s) (step_size * a.i)
    (step_size * place s)
    ∙ sym (part_same K.blocks K.origin (words s) a.i a.s l a.j m (here (tested d.before.before.before) t os K l)
    (sym (told d.before.before.before t os K A (l, m)) ∙ o.if-not-are_within.false)))

pub part_fits_spec : {M : Type 1} → statement M
part_fits_spec =
    tie.close
    (tie.spec (λ c. let l = before c.before in omega arith) (λ c. let l = before c.before in omega arith)
    (λ c. before c.before) returns (λ c κs. let l = within c.before.before in omega arith)
    (λ c. let l = number c in omega arith) (λ c κs. let l = whole c.before in omega arith) returns-2
    (λ c. let l = number (numbered c) in omega arith) (λ c. number (numbered c.before)) (λ c κs. search rules)
    are-within-requires returns-3 (λ c. let l = before (begun c) in omega arith)
    (λ c. let l = number (numbered (tested c.before)) in omega arith)
    (λ c. number (numbered (tested c.before))) agree-requires returns-4)
