-- `defines::actions::put_actions` meets its contract. The invariant of its loop: the atoms and the pairs of schema s
-- come next, and what is still to come is the actions from s on. The measure is the number of schemas less s.
use native.Mathlib.Omega.{arith}
use Prim.Native.Nat.{ℕ, suc, ◌+◌, ◌-◌, ◌≤◌}
use mathlib.Core.Path.{◌≡◌, refl, sym, ◌∙◌, ap}
use mathlib.Core.List.{List, ◌++◌}
use Rattle.words.specs.Lists.{up_to, concat_map, sum}
use Rattle.words.proofs.Puts.{Going, going_start, going-long, going-left, going-room, going_on, going_end}
use Rattle.task.specs.Layout.{head_in}
use Rattle.task.specs.Table.{task_of}
use Rattle.task.specs.Turns.{first_atom, first_pair}
use Rattle.task.proofs.TableReads.{counts-inside}
use Rattle.task.proofs.TablesByIndex.{table-frame, start-end}
use Rattle.text.proofs.Onwards.{onwards, onwards-all, onwards-next, onwards-none}
use Rattle.defines.specs.ByWords.{action_in}
use Rattle.defines.proofs.actions.put_actions.Statement.{statement}
use Rattle.defines.proofs.actions.put_actions.Tie as tie

abbrev invariant-loop-s : tie.invariant-loop-s
invariant-loop-s text₀ at table schemas acted₀ s₀ text acted s =
    (s ≤ schemas) × ((acted.atom ≡ first_atom (task_of table) s) × ((acted.pair ≡ first_pair (task_of table) s) ×
    Going text₀ at (concat_map (action_in table) (up_to (head_in table).schemas)) (onwards (action_in table) s schemas) text
    acted.at))

abbrev decreases-loop-s : tie.decreases-loop-s
decreases-loop-s text₀ at table schemas acted₀ s₀ text acted s = schemas - s

loop-holds : tie.Need-loop-s-init invariant-loop-s decreases-loop-s
unfolding sum
loop-holds c =
    let start = c in
    let pieces = action_in start.args.table.now in
    let e = ap (onwards pieces 0) c.word_at-schemas.ensures in
    (omega arith, (refl, (refl, going-left (sym (e ∙ onwards-all pieces _)) (going_start start.requires.1))))

-- what the loop's head knows: the function's entry, and the count that was read
abbrev start : tie.At-loop-s invariant-loop-s decreases-loop-s → tie.Start invariant-loop-s decreases-loop-s
start c = c.before.before.before.before

abbrev words : tie.At-loop-s invariant-loop-s decreases-loop-s → List ℕ
words c = (start c).args.table.now

abbrev schemas : tie.At-loop-s invariant-loop-s decreases-loop-s → ℕ
schemas c = c.word_at-schemas.result

-- what is to come is the action of schema s, and then those from s + 1 on
abbrev behind : tie.At-loop-s invariant-loop-s decreases-loop-s → List ℕ
behind c = onwards (action_in (words c)) (c.loop-s.s + 1) (schemas c)

to-come : (c : tie.In-loop-s invariant-loop-s decreases-loop-s) →
    let at-loop = c in
    Going (start at-loop.before).args.text.now (start at-loop.before).args.at
    (concat_map (action_in (words at-loop.before)) (up_to (head_in (words at-loop.before)).schemas))
    (action_in (words at-loop.before) at-loop.loop-s.s ++ behind at-loop.before) at-loop.loop-s.text at-loop.loop-s.acted.at
to-come c =
    let at-loop = c in
    going-left (onwards-next (action_in (words at-loop.before)) at-loop.loop-s.s (schemas at-loop.before) c.loop-s-test.true)
    at-loop.loop-s.invariant.1.1.1

put-action-requires : tie.Need-put_action-acted-requires invariant-loop-s decreases-loop-s
put-action-requires c κs =
    let at-loop = c in
    let n = at-loop.word_at-schemas.ensures in (
      (start at-loop.before.before).requires.0,
      (
        omega arith,
        (
          at-loop.loop-s.invariant.1.0,
          (
            at-loop.loop-s.invariant.1.1.0,
            going-room (action_in (words at-loop.before.before) at-loop.loop-s.s) (behind at-loop.before.before) (to-come c.before),
          ),
        ),
      ),
    )

loop-again : tie.Need-loop-s-preserved invariant-loop-s decreases-loop-s
loop-again c =
    let at-loop = c in
    let e : suc at-loop.loop-s.s ≡ at-loop.loop-s.s + 1 = omega arith in
    let put = c.put_action-acted.ensures in (
      omega arith,
      (
        put.0 ∙ ap (first_atom (task_of (words at-loop.before.before.before.before.before))) e,
        (
          put.1.0 ∙ ap (first_pair (task_of (words at-loop.before.before.before.before.before))) e,
          going_on (to-come c.before.before.before.before) put.1.1,
        ),
      ),
    )

same_length : tie.Need-shape_of-text invariant-loop-s decreases-loop-s
same_length c = going-long c.loop-s.invariant.1.1.1

returns : tie.Need-returns invariant-loop-s decreases-loop-s
returns c =
    let at-loop = c in
    let w = words at-loop.before in
    let e : at-loop.loop-s.s ≡ (head_in w).schemas = let n = at-loop.word_at-schemas.ensures in omega arith in
    let none = onwards-none (action_in w) at-loop.loop-s.s (schemas at-loop.before) (omega arith) in (
      at-loop.loop-s.invariant.1.0 ∙ (ap (first_atom (task_of w)) e ∙ start-end w (table-frame w (start at-loop.before).requires.0)),
      going_end (going-left none at-loop.loop-s.invariant.1.1.1),
    )

pub put_actions_spec : {M : Type 1} → statement M
put_actions_spec =
    tie.close
    (tie.spec invariant-loop-s decreases-loop-s (λ c κs. omega (arith, counts-inside _ c.requires.0)) loop-holds
    put-action-requires (λ c. omega arith) (λ c. omega arith) loop-again same_length returns)
