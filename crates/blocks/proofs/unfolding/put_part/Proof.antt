-- `blocks::unfolding::put_part` meets its contract: its schema, and its objects over the zeros behind that, are the
-- words of a step.
use Rattle.blocks.proofs.unfolding.put_part.Tie as tie
use Prim.Native.Nat.{ℕ, ◌+◌}
use mathlib.Core.Path.{◌∙◌, ap, ◌≡◌, ap₂}
use mathlib.Core.List.{List}
use native.Mathlib.Omega.{arith}
use lib.ListN.{length, get_or, length-set}
use Rattle.words.specs.Lists.{put}
use Rattle.task.specs.Limits.{most_parameters}
use Rattle.task.specs.Run.{step_words}
use Rattle.words.proofs.Puts.{length-put, puts-length}
use Rattle.blocks.proofs.KeptWords.{objects-few, put_step}
use borrow.Author.Rules.{rules}
use Rattle.blocks.proofs.unfolding.put_part.Statement.{statement}
use Rattle.tokens.specs.Kept.{kept_first, kept_own}
use Rattle.blocks.specs.Unfolding.{objects_for, part_from}

-- ---- what is known of the part: its schema and its parameters
abbrev start : tie.After-first_of → tie.Start
start c = c.before.before.before.before

first-is : (c : tie.After-first_of) → let a = (start c).args in
    c.first_of.result ≡ kept_first a.kept.now (get_or a.steps.now a.at 0)
first-is c = c.first_of.ensures ∙ ap (kept_first (start c).args.kept.now) c.schema_at-s.ensures

abbrev numbered : tie.After-own_at → tie.After-first_of
numbered c = c.before.before.before.before.before

own_is : (c : tie.After-own_at) → let a = (start (numbered c)).args in
    c.own_at.result ≡ kept_own a.kept.now (get_or a.steps.now a.at 0) a.j
own_is c =
    let a = (start (numbered c)).args in
    c.own_at.ensures ∙ ap (λ (s : ℕ). kept_own a.kept.now s a.j) (numbered c).schema_at-s.ensures

abbrev objects : tie.After-own_at → List ℕ
objects c = let a = (start (numbered c)).args in objects_for a.steps.now a.at c.own_at.result most_parameters

-- ---- the needs
add-out : tie.Need-overflow_add-out
add-out c = let e = first-is c in let f = (start c).requires.0.small in omega arith

cast-out : tie.Need-overflow_cast-out
cast-out c = let e = first-is c in let f = (start c).requires.0.small in omega arith

fill-requires : tie.Need-fill-requires
fill-requires c κs = simp length-set (omega arith)

put-objects-requires : tie.Need-put_objects-requires
put-objects-requires c κs =
    let p = c in
    let a = (start (numbered p.before)).args in
    let e = puts-length p.fill.ensures in
    let l = length-set a.out.now a.to ((numbered p.before).first_of.result + a.j) in
    ((start (numbered p.before)).requires.0.whole, omega arith)

returns : tie.Need-returns
unfolding part_from
returns c =
    let o = c in
    let p = o in
    let a = (start (numbered p.before.before.before.before)).args in
    o.put_objects.ensures
    ∙ (ap (λ (w : List ℕ). put w (a.to + 1) (objects p.before.before.before.before)) p.fill.ensures.words
    ∙ (put_step a.out.now a.to ((numbered p.before.before.before.before).first_of.result + a.j) (objects p.before.before.before.before)
    (objects-few a.steps.now a.at p.own_at.result most_parameters)
    ∙ ap₂ (λ (n q : ℕ). put a.out.now a.to
    (step_words (record { schema = n + a.j; objects = objects_for a.steps.now a.at q most_parameters })))
    (first-is (numbered p.before.before.before.before)) (own_is p.before.before.before.before)))

same_length : tie.Need-shape_of-out
same_length c =
    let a = (start (numbered c.before.before.before.before)).args in
    let part = part_from a.steps.now a.kept.now a.at a.j in
    ap length (returns c) ∙ length-put a.out.now a.to (step_words part)

pub put_part_spec : {M : Type 1} → statement M
put_part_spec =
    tie.close
    (tie.spec (λ c κs. search rules) (λ c κs. search rules) add-out cast-out (λ c. search rules) (λ c. search rules)
    (λ c. search rules) fill-requires (λ c κs. search rules) (λ c. search rules) put-objects-requires same_length
    returns)
