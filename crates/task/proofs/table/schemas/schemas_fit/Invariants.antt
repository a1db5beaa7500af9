-- The pairs of schemas below s are those before `pair`, their atoms those before `first`, and the whole test is what is
-- left of it from s on.
use Rattle.task.specs.Layout.{head_in}
use Rattle.task.specs.Table.{pair_number_in, schema_number_in}
use Rattle.task.specs.WordTests.{schema_words_fit, pair_indices_of, indices_of, schemas_fit}
use Rattle.words.proofs.Loops.{AllLeft}
use Rattle.task.proofs.SchemaWords.{Cut}
use Rattle.task.proofs.table.schemas.schemas_fit.Given as goal

abbrev pub invariant-loop-s : goal.invariant-loop-s
invariant-loop-s l = record {
  pairs : Cut (pair_number_in l.table) (head_in l.table).pairs l.pair l.s;
  atoms : Cut (schema_number_in l.table) (head_in l.table).schema_atoms l.first l.s;
  left : AllLeft (λ s. schema_words_fit l.table s (pair_indices_of l.table s) (indices_of l.table s)) l.schemas
      (schemas_fit l.table) l.s;
}
