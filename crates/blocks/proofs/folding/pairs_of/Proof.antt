-- `blocks::folding::pairs_of` meets its contract: the count of pairs is set, and behind it their rows are put
-- (`rows-noted`), and there is room for as many as an accepted split has (`rows-room`).
use Rattle.blocks.proofs.folding.pairs_of.Tie as tie
use mathlib.Core.Path.{◌≡◌, refl}
use mathlib.Core.Bool.{true}
use native.Mathlib.Omega.{arith}
use lib.ListN.{replicate}
use borrow.Author.Rules.{rules}
use Rattle.task.specs.Task.{Task, well_formed}
use Rattle.task.specs.Table.{task_of}
use Rattle.task.proofs.Tables.{of-table}
use Rattle.tokens.specs.Split.{split_task}
use Rattle.tokens.proofs.WellSplit.{split-well}
use Rattle.blocks.specs.FoldCode.{carried_room}
use Rattle.blocks.proofs.SplitTests.{rows-room, rows-noted}
use Rattle.blocks.proofs.folding.pairs_of.Statement.{statement}

abbrev task : tie.Start → Task
task s = task_of s.args.table.now

well : (s : tie.Start) → well_formed (split_task (task s)) ≡ true
well s = split-well (task s) (split_task (task s)) (of-table s.args.table.now s.requires.table).0 s.requires.accepted

cast-pairs : tie.Need-overflow_cast-pairs
cast-pairs c =
    let s = c in
    let e = s.requires.sized.pairs in
    let (few, _) = rows-room (task s.before.before) (well s.before.before) in
    omega arith

all-pairs-requires : tie.Need-all_pairs-requires
all-pairs-requires c κs =
    let s = c in
    let (few, e) = rows-room (task s.before.before.before) (well s.before.before.before) in
    ((s.args.sizes, s.requires), omega arith)

returns : tie.Need-returns
returns c =
    let s = c in
    rows-noted (task s.before.before.before.before.before) (well s.before.before.before.before.before) (replicate carried_room 0) _ _ _ refl s.requires.sized.pairs
    c.all_pairs.ensures

pub pairs_of_spec : {M : Type 1} → statement M
pairs_of_spec =
    tie.close (tie.spec cast-pairs (λ c. search rules) (λ c. search rules) all-pairs-requires returns)
