-- Document 02's note 1: the PDDL text of document 01's M, and those of tasks with empty lists.
use Rattle.std.specs.Prelude.{ℕ, List}
use Prim.Native.String.{String, ◌++◌}
use Rattle.task.specs.Answers.{Outcome}
use Rattle.defines.specs.Outcome.{pddl_outcome}
use Rattle.examples.specs.Examples.{table_of, lent}

-- what `write_pddl` does with the table of a text, lent n bytes
unfoldable pub written_into : ℕ → String → Outcome (List ℕ)
unfolding pddl_outcome table_of lent
written_into n text = pddl_outcome (table_of text) (lent n)

unfoldable pub pddl_of_m : String
pddl_of_m =
    "(define (domain d) (:predicates (p0 ?x0 ?x1) (p1 ?x0)) (:action a0 :parameters (?x0 ?x1 ?x2) " ++
    (":precondition (and (p0 ?x0 ?x1) (p1 ?x0) (p1 ?x2)) " ++
    (":effect (and (p0 ?x0 ?x2) (p1 ?x1) (not (p0 ?x0 ?x1)) (not (p1 ?x2)))))\n" ++
    ("(define (problem q) (:domain d) (:objects o0 o1 o2) (:init (p0 o0 o1) (p1 o0) (p1 o2)) " ++
    "(:goal (and (p0 o0 o2))))\n")))

-- a bare predicate, no schema, no initial atom and no goal
unfoldable pub bare : String
bare = "task=1\nobjects=1\narity=0\nend=1\n"

unfoldable pub pddl_of_bare : String
pddl_of_bare =
    "(define (domain d) (:predicates (p0)))\n" ++
    "(define (problem q) (:domain d) (:objects o0) (:init) (:goal (and)))\n"

-- a schema without parameters and without preconditions
unfoldable pub lone : String
lone = "task=1\nobjects=1\narity=0\nschema=0\ndel=0:\npart=0\nend=1\n"

unfoldable pub pddl_of_lone : String
pddl_of_lone =
    "(define (domain d) (:predicates (p0)) (:action a0 :parameters () :precondition (and) " ++
    (":effect (and (not (p0)))))\n" ++
    "(define (problem q) (:domain d) (:objects o0) (:init) (:goal (and)))\n")
