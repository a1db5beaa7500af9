-- `text::reader::lay_out`: the pairs, the rows behind them, the zeros behind these and the counts are written one after
-- the other. Each write leaves what stands outside its place, so in the end the words are those of the task.
use Rattle.text.proofs.reader.lay_out.Tie as tie
use mathlib.Core.Path.{◌≡◌, ◌∙◌}
use native.Mathlib.Omega.{arith}
use borrow.Author.Rules.{rules}
use lib.ListN.{length}
use Rattle.text.proofs.TableRoom.{pairs-move-room, move-room, laid-room, zeros-room, head-room, head-words}
use Rattle.text.proofs.LaidOut.{laid_out}
use Rattle.text.proofs.reader.lay_out.Statement.{statement}

-- ---- the four writes, from the last to the first
abbrev start : tie.After-move_down → tie.Start
start m = m.before.before.before.before.before.before.before

abbrev paired : tie.After-move_down-2 → tie.After-move_down
paired m = m.before.before.before.before.before.before.before.before

abbrev moved : tie.After-clear → tie.After-move_down-2
moved z = z.before.before.before.before

-- of the step at which the second count is read
abbrev cleared : tie.After-struct_known-10-1 → tie.After-clear
cleared c = c.before.before.before.before

abbrev entry : tie.After-struct_known-10-1 → tie.Start
entry c = start (paired (moved (cleared c)))

abbrev counted : tie.After-head-1 → tie.After-struct_known-10-1
counted c = c.before.before.before.before.before.before.before

-- no write changes how many words there are
moved-size : (m : tie.After-move_down-2) → length m.move_down-2.new.table ≡ length (start (paired m)).args.table.now
moved-size m = m.move_down-2.auto.table ∙ (paired m).move_down.auto.table

cleared-size : (z : tie.After-clear) → length z.clear.new.table ≡ length (start (paired (moved z))).args.table.now
cleared-size z = z.clear.auto.table ∙ moved-size (moved z)

-- ---- the answers
move-down-requires : tie.Need-move_down-requires
move-down-requires c κs = pairs-move-room c.requires.holds

add-n-3 : tie.Need-overflow_add-n-3
add-n-3 c =
    let few = (start c.before.before.before.before.before).requires.holds.few in
    omega (arith, few.total, few.initial, few.goal)

mul-n : tie.Need-overflow_mul-n
mul-n c =
    let few = (start c.before.before.before.before.before).requires.holds.few in
    omega (arith, few.total, few.initial, few.goal)

add-move-down-2 : tie.Need-overflow_add-counts-2
add-move-down-2 c =
    omega (arith, (start c.before.before.before.before.before.before.before).requires.holds.few.predicates)

move-down-requires-2 : tie.Need-move_down-requires-2
move-down-requires-2 c κs =
    let m = c in
    move-room (start m.before.before.before.before.before.before.before).requires.holds m.move_down.auto.table

add-clear : tie.Need-overflow_add-to-2
add-clear c = omega (arith, laid-room (start (paired c.before.before.before)).requires.holds)

add-clear-2 : tie.Need-overflow_add-to-3
add-clear-2 c = omega (arith, laid-room (start (paired c.before.before.before)).requires.holds)

sub-clear : tie.Need-overflow_sub-to
sub-clear c = laid-room (start (paired c.before.before.before)).requires.holds

clear-requires : tie.Need-clear-requires
clear-requires c κs =
    let m = c in
    zeros-room (start (paired m.before.before.before)).requires.holds (moved-size m.before.before.before)

cast-t19 : tie.Need-overflow_cast-head-2
cast-t19 c = omega (arith, (entry c).requires.holds.few.predicates)

cast-t20 : tie.Need-overflow_cast-head-3
cast-t20 c = omega (arith, (entry c.before).requires.holds.few.schemas)

cast-t21 : tie.Need-overflow_cast-head-4
cast-t21 c = omega (arith, (entry c.before.before).requires.holds.few.total)

cast-t22 : tie.Need-overflow_cast-head-5
cast-t22 c = omega (arith, (entry c.before.before.before).requires.holds.few.initial)

cast-t23 : tie.Need-overflow_cast-head-6
cast-t23 c = omega (arith, (entry c.before.before.before.before).requires.holds.few.goal)

cast-t24 : tie.Need-overflow_cast-head-7
cast-t24 c = omega (arith, (entry c.before.before.before.before.before).requires.holds.few.pairs)

put-words-requires : tie.Need-put_words-requires
put-words-requires c κs =
    let h = (entry (counted c)).requires.holds in
    (head-room h (cleared-size (cleared (counted c))), head-words h)

same_length : tie.Need-shape_of-table
same_length c =
    let p = c in
    p.put_words.auto.table ∙ cleared-size (cleared (counted p.before.before.before))

returns : tie.Need-returns
returns c =
    let p = c in
    let z = cleared (counted p.before.before.before) in
    let m = moved z in
    λ d h closed well.
    laid_out h closed (paired m).move_down.ensures m.move_down-2.ensures z.clear.ensures
    p.put_words.ensures (laid-room h) well

pub lay_out_spec : {M : Type 1} → statement M
lay_out_spec =
    tie.close
    (tie.spec (λ c. search rules) (λ c. search rules) (λ c. search rules) (λ c. search rules) (λ c. search rules)
    move-down-requires (λ c. search rules) (λ c. search rules) (λ c. search rules) add-n-3 mul-n add-move-down-2
    move-down-requires-2 add-clear add-clear-2 sub-clear clear-requires (λ c. search rules) cast-t19 cast-t20 cast-t21
    cast-t22 cast-t23 cast-t24 (λ c. search rules) put-words-requires same_length returns)
