-- `defines::writer::put_pddl` meets its contract: the domain is put, and the problem behind it. The problem's first
-- atom is the one that `put_domain` reached.
use native.Mathlib.Omega.{arith}
use Prim.Native.Nat.{ℕ}
use mathlib.Core.List.{List, [], ◌∷◌, ◌++◌}
use Rattle.words.proofs.Puts.{Going, going_start, going-left, going-room, going_on, last-room, going-last}
use Rattle.task.specs.Table.{task_of}
use Rattle.text.specs.Lines.{newline}
use Rattle.defines.specs.Pddl.{domain_text, problem_text, pddl}
use Rattle.defines.proofs.Pieces.{pddl-pieces}
use borrow.Author.Rules.{rules}
use Rattle.defines.proofs.writer.put_pddl.Statement.{statement}
use Rattle.defines.proofs.writer.put_pddl.Tie as tie

abbrev domain : tie.Start → List ℕ
domain c = domain_text (task_of c.args.table.now) ++ (newline ∷ [])

abbrev problem : tie.Start → List ℕ
problem c = problem_text (task_of c.args.table.now) ++ (newline ∷ [])

-- what is still to come of the text, in a text and from a place on
abbrev Left : tie.Start → List ℕ → List ℕ → ℕ → Type 0
Left c left text next = Going c.args.text.now 0 (pddl (task_of c.args.table.now)) left text next

begin : (c : tie.Start) → Left c (domain c ++ problem c) c.args.text.now 0
begin c = let r = c.requires.1 in going-left (pddl-pieces (task_of c.args.table.now)) (going_start (omega arith))

abbrev start : tie.After-slice_known-2-1 → tie.Start
start c = c.before.before.before.before.before.before

behind-domain : (c : tie.After-slice_known-2-1) →
    Left (start c) (problem (start c))
    c.put_domain-problem.new.text c.put_domain-problem.result.at
behind-domain c = going_on (begin (start c)) c.put_domain-problem.ensures.1

put-domain-requires : tie.Need-put_domain-problem-requires
put-domain-requires c κs =
    let start = c in
    let r = going-room (domain start.before.before.before) (problem start.before.before.before) (begin start.before.before.before) in
    (start.requires.0, omega arith)

put-problem-requires : tie.Need-put_problem-requires
put-problem-requires c κs =
    let put = c in
    ((start put.before).requires.0, (put.put_domain-problem.ensures.0, last-room (behind-domain put.before)))

returns : tie.Need-returns
returns c = going-last (behind-domain c.before.before.before.before) c.put_problem.ensures

pub put_pddl_spec : {M : Type 1} → statement M
put_pddl_spec = tie.close (tie.spec put-domain-requires put-problem-requires (λ c. search rules) returns)
