-- `tokens::writing::all_facts` meets its contract: the old atoms of each role lie in the table one after another. The
-- goal atoms are put where the initial ones end.
use Rattle.tokens.proofs.writing.all_facts.Tie as tie
use Prim.Native.Nat.{◌+◌, ◌*◌, ◌≤◌}
use mathlib.Core.Path.{refl}
use native.Mathlib.Omega.{arith}
use borrow.Author.Rules.{rules}
use Rattle.words.specs.Lists.{concat_map}
use Rattle.task.specs.Layout.{head_in, facts_base}
use Rattle.task.specs.Table.{task_of, fact_words}
use Rattle.task.proofs.TableReads.{table-roomy}
use Rattle.tokens.specs.Split.{split_task}
use Rattle.words.proofs.Puts.{puts-is, puts_then, puts-length}
use Rattle.tokens.proofs.Written.{init-written, goal-written}
use Rattle.tokens.proofs.writing.all_facts.Statement.{statement}
use lib.ListN.{length}
use Rattle.task.specs.Limits.{atom_size}

-- the places, one from the next
abbrev begun : tie.After-word-inits → tie.Start
begun c = c.before.before.before

abbrev counted : tie.After-facts_base-from → tie.After-word-inits
counted c = c.before.before

abbrev based : tie.After-facts-started → tie.After-facts_base-from
based c = c.before.before

abbrev started : tie.After-facts → tie.After-facts-started
started c = c.before.before.before.before

-- all atoms lie in the table
inside : (s : tie.Start) →
    let w = s.args.table.now in facts_base w + atom_size * ((head_in w).initial_atoms + (head_in w).goal_atoms) ≤ length w
inside s = omega (arith, (table-roomy s.args.table.now s.requires.0).inside)

word-requires : tie.Need-word-inits-requires
word-requires c κs = omega (arith, inside c.before.before)

word-requires-2 : tie.Need-word-goals-requires
word-requires-2 c κs = omega (arith, inside (begun c))

facts-base-requires : tie.Need-facts_base-from-requires
facts-base-requires c κs = omega (arith, inside (begun c.before))

facts-requires : tie.Need-facts-started-requires
facts-requires c κs =
    let s = begun (counted c.before) in
    let i = inside s in
    let n = (counted c.before).word-inits.ensures.0 in
    let b = c.facts_base-from.ensures in
    (omega arith, (omega arith, omega (arith, s.requires.1)))

mul-facts : tie.Need-overflow_mul-inits
mul-facts c = omega (arith, (counted (based c.before.before)).word-inits.ensures.1)

add-facts : tie.Need-overflow_add-from
add-facts c =
    let i = inside (begun (counted (based c.before.before))) in
    let n = (counted (based c.before.before)).word-inits.ensures in
    let b = (based c.before.before).facts_base-from.ensures in
    omega (arith, n.0)

facts-requires-2 : tie.Need-facts-requires
facts-requires-2 c κs =
    let s = begun (counted (based c.before.before.before)) in
    let i = inside s in
    let n = (counted (based c.before.before.before)).word-inits.ensures.0 in
    let g = (based c.before.before.before).word-goals.ensures.0 in
    let b = (based c.before.before.before).facts_base-from.ensures in
    let f = c.facts-started.ensures in
    let l = puts-length f.0 in
    (omega arith, (omega arith, omega (arith, s.requires.1, f.1)))

returns : tie.Need-returns
returns c =
    let st = begun (counted (based (started c.before.before))) in
    let w = st.args.table.now in
    let t = split_task (task_of w) in
    let n = (counted (based (started c.before.before))).word-inits in
    let g = (based (started c.before.before)).before.word-goals in
    let b = (based (started c.before.before)).facts_base-from in
    let e = n.ensures.0 in
    let from = b.ensures in
    puts_then
    (puts-is (started c.before.before).facts-started.ensures.0 refl refl (concat_map (fact_words 3) t.init)
    (init-written w st.requires.0 b.result n.result from e))
    (puts-is c.facts.ensures.0 refl refl (concat_map (fact_words 4) t.goal)
    (goal-written w st.requires.0 (b.result + atom_size * n.result) g.result (omega arith) g.ensures.0)) _ refl

pub all_facts_spec : {M : Type 1} → statement M
all_facts_spec =
    tie.close
    (tie.spec word-requires word-requires-2 facts-base-requires facts-requires mul-facts add-facts facts-requires-2
    (λ c. search rules) returns)
