-- `defines::writer::put_predicates` meets its contract. The invariant of its loop: what is still to come is the
-- predicates from p on. The measure is the number of predicates less p.
use native.Mathlib.Omega.{arith}
use Prim.Native.Nat.{ℕ, ◌+◌, ◌-◌, ◌<◌}
use mathlib.Core.Path.{sym, ◌∙◌, ap}
use mathlib.Core.List.{List, ◌++◌}
use Rattle.words.specs.Lists.{up_to, concat_map}
use Rattle.words.proofs.Puts.{Going, going_start, going-long, going-left, going-room, going_on, going_end}
use Rattle.task.specs.Layout.{head_in}
use Rattle.task.proofs.TableReads.{counts-inside}
use Rattle.text.specs.Lines.{bytes}
use Rattle.text.proofs.Onwards.{onwards, onwards-all, onwards-next, onwards-none}
use Rattle.defines.specs.ByWords.{formula, predicate_in}
use Rattle.defines.proofs.Frames.{arity-inside, arity-few, predicate-read}
use Rattle.defines.proofs.writer.put_predicates.Statement.{statement}
use Rattle.defines.proofs.writer.put_predicates.Tie as tie

abbrev invariant-loop-p : tie.invariant-loop-p
invariant-loop-p text₀ at table predicates next₀ p₀ text next p =
    Going text₀ at (concat_map (predicate_in table) (up_to (head_in table).predicates))
    (onwards (predicate_in table) p (head_in table).predicates) text next

abbrev decreases-loop-p : tie.decreases-loop-p
decreases-loop-p text₀ at table predicates next₀ p₀ text next p = predicates - p

loop-holds : tie.Need-loop-p-init invariant-loop-p decreases-loop-p
loop-holds c =
    let start = c in
    going-left (sym (onwards-all (predicate_in start.args.table.now) _)) (going_start start.requires.1)

-- what the loop's head knows: the function's entry, its table, and the table's predicates
abbrev start : tie.At-loop-p invariant-loop-p decreases-loop-p → tie.Start invariant-loop-p decreases-loop-p
start c = c.before.before.before.before

abbrev words : tie.At-loop-p invariant-loop-p decreases-loop-p → List ℕ
words c = (start c).args.table.now

abbrev pieces : tie.At-loop-p invariant-loop-p decreases-loop-p → ℕ → List ℕ
pieces c = predicate_in (words c)

abbrev count : tie.At-loop-p invariant-loop-p decreases-loop-p → ℕ
count c = (head_in (words c)).predicates

-- predicate p is one of them
known : (c : tie.In-loop-p invariant-loop-p decreases-loop-p) → c.loop-p.p < count c.before
known c = let n = c.word_at-predicates.ensures in omega arith

arity-of-requires : tie.Need-arity_of-requires invariant-loop-p decreases-loop-p
arity-of-requires c κs =
    let at-loop = c in
    arity-inside (words at-loop.before.before.before) c.wide.ensures (start at-loop.before.before.before).requires.0 (known c.before.before)

cast-put-predicate : tie.Need-overflow_cast-arity_of invariant-loop-p decreases-loop-p
cast-put-predicate c =
    let at-loop = c in
    let few = arity-few (words at-loop.before.before.before.before) c.wide.ensures (start at-loop.before.before.before.before).requires.0
    (known c.before.before.before) c.arity_of.ensures in
    omega arith

-- predicate p, and those behind it
abbrev predicate : tie.After-arity_of invariant-loop-p decreases-loop-p → List ℕ
predicate c = formula (bytes " ?x") c.loop-p.p (up_to c.arity_of.result)

abbrev behind : tie.At-loop-p invariant-loop-p decreases-loop-p → List ℕ
behind c = onwards (pieces c) (c.loop-p.p + 1) (count c)

to-come : (c : tie.After-arity_of invariant-loop-p decreases-loop-p) →
    let at-loop = c in
    Going (start at-loop.before.before.before.before).args.text.now (start at-loop.before.before.before.before).args.at
    (concat_map (pieces at-loop.before.before.before.before) (up_to (count at-loop.before.before.before.before)))
    (predicate c ++ behind at-loop.before.before.before.before) at-loop.loop-p.text at-loop.loop-p.next
to-come c =
    let at-loop = c in
    let below = known c.before.before.before in
    let said = predicate-read (words at-loop.before.before.before.before) c.wide.ensures c.arity_of.ensures in
    going-left
    (onwards-next (pieces at-loop.before.before.before.before) at-loop.loop-p.p (count at-loop.before.before.before.before) below ∙
    ap (λ (bs : List ℕ). bs ++ behind at-loop.before.before.before.before) (sym said))
    at-loop.loop-p.invariant

put-predicate-requires : tie.Need-put_predicate-next-requires invariant-loop-p decreases-loop-p
put-predicate-requires c κs = going-room (predicate c) (behind c.before.before.before.before) (to-come c)

loop-again : tie.Need-loop-p-preserved invariant-loop-p decreases-loop-p
loop-again c = going_on (to-come c.before.before.before) c.put_predicate-next.ensures

same_length : tie.Need-shape_of-text invariant-loop-p decreases-loop-p
same_length c = going-long c.loop-p.invariant

returns : tie.Need-returns invariant-loop-p decreases-loop-p
returns c =
    let at-loop = c in
    let n = at-loop.word_at-predicates.ensures in
    let none = onwards-none (pieces at-loop.before) at-loop.loop-p.p (count at-loop.before) (omega arith) in
    going_end (going-left none at-loop.loop-p.invariant)

pub put_predicates_spec : {M : Type 1} → statement M
put_predicates_spec =
    tie.close
    (tie.spec invariant-loop-p decreases-loop-p (λ c κs. omega (arith, counts-inside _ c.requires.0)) loop-holds
    (λ c κs. tt) arity-of-requires cast-put-predicate put-predicate-requires (λ c. omega arith) (λ c. omega arith)
    loop-again same_length returns)
