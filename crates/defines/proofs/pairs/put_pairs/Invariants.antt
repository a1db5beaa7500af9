-- What is still to come is the pairs from `pair` on, up to the schema's last.
use Rattle.std.proofs.Common.{◌≤◌, suc}
use Rattle.words.proofs.Puts.{Going}
use Rattle.task.specs.Table.{task_of}
use Rattle.task.specs.Turns.{first_pair}
use Rattle.text.proofs.Onwards.{onwards}
use Rattle.defines.specs.ByWords.{apart_in, pairs_in}
use Rattle.defines.proofs.pairs.put_pairs.Given as goal

abbrev pub invariant-loop-pair : goal.invariant-loop-pair
invariant-loop-pair l = record {
  within : l.pair ≤ first_pair (task_of l.table) (suc l.schema);
  going : Going l.fn.text l.at (pairs_in l.table l.from (first_pair (task_of l.table) (suc l.schema)))
      (onwards (apart_in l.table) l.pair (first_pair (task_of l.table) (suc l.schema))) l.text l.next;
}
