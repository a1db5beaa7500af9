-- Document 02's note 4: "Our swap schemas always take two different piers, yet good partitions come out circular."
use Rattle.task.specs.declared.Place.TheVariants as place
use Rattle.std.specs.Prelude.{ℕ, List, [], ◌∷◌}
use Prim.Native.String.{String, ◌++◌}
use Rattle.std.specs.Prelude.{Some}
use Rattle.task.specs.Answers.{refused, Outcome}
use Rattle.blocks.specs.Blocks.{unfold_outcome, fold_outcome}
use Rattle.text.specs.Lines.{bytes}
use Rattle.examples.specs.Examples.{table_of, steps, lent, run_in, Example, ◌is◌, printed, order_taken, split}
use Rattle.examples.specs.Examples.{prints, order, tells}

-- two piers, parameters 0 and 1, swap what lies there, 2 and 3, where they are linked; with `differ` lines and a
-- partition: predicate 0 is what lies where, predicate 1 says which piers are linked
unfoldable pub swap : String → String → String
swap lines parts =
    "task=1\nobjects=4\narity=2,2\nschema=4\n" ++
    (lines ++
    ("pre=0:0,2\npre=0:1,3\npre=1:0,1\nadd=0:0,3\nadd=0:1,2\ndel=0:0,2\ndel=0:1,3\npart=" ++
    (parts ++ "\ninit=0:0,2\ninit=0:1,3\ninit=1:0,1\ngoal=0:0,3\nend=1\n")))

-- "a declared pair": the piers differ
unfoldable pub apart : String
apart = "differ=0,1\n"

-- a part for each pier, the link in the first one's
unfoldable pub by_pier : String
by_pier = "0,1,0,0,1,0,1"

-- the link in a part of its own, which comes last and alone has both piers
unfoldable pub link_last : String
link_last = "0,1,2,0,1,0,1"

-- "A part that has both parameters carries the line, renumbered"
unfoldable pub split_of_swap : String
split_of_swap =
    "task=1\nobjects=4\narity=2,2,0,0,1,1,1,1\n" ++
    ("schema=4\ndiffer=0,1\npre=0:0,2\npre=1:0,1\npre=2:\nadd=0:0,3\nadd=3:\nadd=5:1\nadd=6:2\nadd=7:3\n" ++
    ("del=0:0,2\ndel=2:\npart=0,0,0,0,0,0,0,0,0,0\n" ++
    ("schema=3\npre=0:0,2\npre=3:\npre=5:0\npre=6:1\npre=7:2\nadd=0:0,1\nadd=2:\n" ++
    ("del=0:0,2\ndel=3:\ndel=5:0\ndel=6:1\ndel=7:2\npart=0,0,0,0,0,0,0,0,0,0,0,0\n" ++
    "init=0:0,2\ninit=0:1,3\ninit=1:0,1\ninit=2:\ngoal=0:0,3\ngoal=2:\nend=1\n"))))

-- a swap that tests no link: no part by pier has both piers
unfoldable pub unlinked : String → String
unlinked lines =
    "task=1\nobjects=4\narity=2\nschema=4\n" ++
    (lines ++
    "pre=0:0,2\npre=0:1,3\nadd=0:0,3\nadd=0:1,2\ndel=0:0,2\ndel=0:1,3\npart=0,1,0,1,0,1\nend=1\n")

unfoldable pub swap_examples : List Example
unfolding ◌is◌ swap apart by_pier link_last split_of_swap unlinked bytes
swap_examples =
    -- each part tests what the other adds
    (split (swap "" by_pier) is tells (refused 9 (place.Schema 0) [])) ∷
    -- "Two atoms give no arc if at some argument position they hold a declared pair"
    (order_taken (swap apart by_pier) is order (Some (0 ∷ 1 ∷ []))) ∷
    (printed (swap apart by_pier) is prints (bytes split_of_swap)) ∷
    (order_taken (swap apart link_last) is order (Some (0 ∷ 1 ∷ 2 ∷ []))) ∷
    -- "20 after 9, .. when no part has both parameters of a pair"
    (split (unlinked "") is tells (refused 9 (place.Schema 0) [])) ∷
    (split (unlinked apart) is tells (refused 20 (place.Schema 0) [])) ∷
    (printed (unlinked apart) is prints (bytes "refused=20:0\n")) ∷
    -- 19 at a line that "names a parameter too high, or whose pair or place doesn't ascend", 3 "unless two numbers"
    (printed (swap "differ=0,4\n" by_pier) is prints (bytes "refused=19:5\n")) ∷
    (printed (swap "differ=1,0\n" by_pier) is prints (bytes "refused=19:5\n")) ∷
    (printed (swap "differ=0,1\ndiffer=0,1\n" by_pier) is prints (bytes "refused=19:6\n")) ∷
    (printed (swap "differ=0,1,2\n" by_pier) is prints (bytes "refused=3:5\n")) ∷ []

-- unfolding and folding where the link comes last, and running from the initial atoms
unfoldable pub unfolded_swap : List (List ℕ) → ℕ → Outcome (List ℕ)
unfolding unfold_outcome table_of swap apart link_last steps lent
unfolded_swap xs n = unfold_outcome (table_of (swap apart link_last)) (steps xs) (lent n)

unfoldable pub folded_swap : List (List ℕ) → ℕ → Outcome (List ℕ)
unfolding fold_outcome table_of swap apart link_last steps lent
folded_swap ys n = fold_outcome (table_of (swap apart link_last)) (steps ys) (lent n)

unfoldable pub ran_swap : List (List ℕ) → Outcome (List ℕ)
unfolding run_in table_of swap apart link_last steps
ran_swap xs =
    run_in (table_of (swap apart link_last)) (steps xs) ((0 ∷ 0 ∷ 2 ∷ []) ∷ (0 ∷ 1 ∷ 3 ∷ []) ∷ (1 ∷ 0 ∷ 1 ∷ []) ∷ []) 3

-- "states each pair as a `(not (= ..))` precondition after the atoms, and with any pair `(:requirements ..)`"
unfoldable pub pddl_of_unlinked : String
pddl_of_unlinked =
    "(define (domain d) (:requirements :strips :equality :negative-preconditions) (:predicates (p0 ?x0 ?x1)) " ++
    ("(:action a0 :parameters (?x0 ?x1 ?x2 ?x3) " ++
    (":precondition (and (p0 ?x0 ?x2) (p0 ?x1 ?x3) (not (= ?x0 ?x1))) " ++
    (":effect (and (p0 ?x0 ?x3) (p0 ?x1 ?x2) (not (p0 ?x0 ?x2)) (not (p0 ?x1 ?x3)))))\n" ++
    "(define (problem q) (:domain d) (:objects o0 o1 o2 o3) (:init) (:goal (and)))\n")))
